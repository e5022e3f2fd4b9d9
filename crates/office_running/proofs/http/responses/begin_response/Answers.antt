use Rattle.std.proofs.Common.{inl, inr}
use Rattle.office_running.proofs.http.responses.begin_response.Goals as goal

pub returns-in-Some : goal.returns-in-Some
returns-in-Some g c = inl c.in-Some.ensures

pub returns-in-None : goal.returns-in-None
returns-in-None g c = inr (
  c.in-None.ensures.1,
  record {
    mid = c.begin_route.new.office;
    looks = c.in-None.ensures.0;
    responds = c.respond.ensures;
  },
)
