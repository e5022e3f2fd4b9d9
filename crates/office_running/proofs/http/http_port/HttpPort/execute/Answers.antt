use Rattle.std.proofs.Common.{inl, inr, true, false, refl}
use Rattle.office_running.proofs.http.http_port.HttpPort.execute.Goals as goal

pub returns-then-rejects : goal.returns-then-rejects
returns-then-rejects g c =
    record { rejects = true; tests = rw c.if-rejects.true at c.rejects.ensures; responds = (refl, refl, c.unavailable.ensures) }

pub returns-in-Some : goal.returns-in-Some
returns-in-Some g c = record { rejects = false; tests = rw c.if-rejects.false at c.rejects.ensures; responds = inl c.in-Some.ensures }

pub returns-in-None : goal.returns-in-None
returns-in-None g c = record {
  rejects = false;
  tests = rw c.if-rejects.false at c.rejects.ensures;
  responds = inr (
    c.in-None.ensures.1,
    record {
      mid = c.begin_all.new.office;
      looks = c.in-None.ensures.0;
      asks = c.ask.ensures.asks;
      lasts = c.ask.ensures.lasts;
    },
  );
}
