use Rattle.std.proofs.Common.{Global, ℕ, Option, Some, Ok, Err, refl, subst}
use Rattle.std.specs.Prelude.{Vec}
use Rattle.mb_wire.specs.Spans.{span_view}
use Rattle.sun_points.specs.Writing.{GotText}
use Rattle.sun_chain.specs.Scanning.Answers.{words_seen}
use Rattle.sun_chain.specs.Scanning.Lines.{AtOnce, Again, Reads, Tries, line, request_under}
use Rattle.sun_chain.specs.declared.scans.fault.ScanFault.{ScanFault}
use Rattle.sun_chain.proofs.ScanLemmas.Settles.{garbles_both, if_ok_then}
use Rattle.sun_chain.proofs.ScanLemmas.Talking.{requests_one, requests_two}
use Rattle.sun_chain.proofs.scans.client.Client.read.Goals as goal

pub returns-in-Ok-Some-clause-read : goal.returns-in-Ok-Some-clause-read
returns-in-Ok-Some-clause-read g c = AtOnce c.in-Ok-Some.words.items refl (rw c.in-Ok-Some.field-0-is at c.in-Ok-Some.ensures.tried)

pub returns-in-Ok-None-clause-read : goal.returns-in-Ok-None-clause-read
returns-in-Ok-None-clause-read g c =
    let unit = c.args.self.now.unit in
    let old = line (g.L.Link.remaining c.args.link.now) (g.L.Link.given c.args.link.now) c.args.self.now in
    let mid = line (g.L.Link.remaining c.try_once.new.link) (g.L.Link.given c.try_once.new.link) c.try_once.new.self in
    let new = line (g.L.Link.remaining c.try_once-in-Ok-None.new.link) (g.L.Link.given c.try_once-in-Ok-None.new.link) c.try_once-in-Ok-None.new.self in
    if_ok_then
    (λ answer. Tries c.try_once.new.self.unit mid new (span_view c.args.span) (words_seen answer))
    (λ answer. Reads unit old new (span_view c.args.span) (words_seen answer))
    c.try_once-in-Ok-None.result
    c.try_once-in-Ok-None.ensures.tried
    (λ answer tries.
    Again mid (rw c.in-Ok-None.field-0-is at c.in-Ok-None.ensures.tried)
    (subst (λ (u : ℕ). Tries u mid new (span_view c.args.span) (words_seen answer)) c.in-Ok-None.ensures.unit tries))

pub returns-in-Ok-None-clause-garbled : goal.returns-in-Ok-None-clause-garbled
returns-in-Ok-None-clause-garbled g c = λ garbled.
    garbles_both _ _ _ _ _ c.in-Ok-None.ensures.tried.heard.came c.in-Ok-None.ensures.tried.heard.hears (c.try_once-in-Ok-None.ensures.garbled garbled)

pub returns-in-Ok-Some-clause-asks : goal.returns-in-Ok-Some-clause-asks
returns-in-Ok-Some-clause-asks g c =
    requests_one {E = ScanFault} c.args.self.now.unit (span_view c.args.span) c.args.self.now.next (Ok (Some c.in-Ok-Some.words))
    (g.L.Link.given c.args.link.now) (g.L.Link.given c.try_once.new.link) c.in-Ok-Some.ensures.asks

pub returns-in-Ok-None-clause-asks : goal.returns-in-Ok-None-clause-asks
returns-in-Ok-None-clause-asks g c =
    let old = g.L.Link.given c.args.link.now in
    let mid = g.L.Link.given c.try_once.new.link in
    let new = g.L.Link.given c.try_once-in-Ok-None.new.link in
    let span = span_view c.args.span in
    let next = c.try_once.new.self.next in
    requests_two c.args.self.now.unit span c.args.self.now.next next c.try_once-in-Ok-None.result old mid new c.in-Ok-None.ensures.asks
    (subst (λ (u : ℕ). GotText c.try_once-in-Ok-None.result (request_under u span next) mid new) c.in-Ok-None.ensures.unit c.try_once-in-Ok-None.ensures.asks)

pub returns-in-Err-clause-asks : goal.returns-in-Err-clause-asks
returns-in-Err-clause-asks g c =
    requests_one {X = Option (Vec ℕ Global)} c.args.self.now.unit (span_view c.args.span) c.args.self.now.next (Err c.in-Err.fault)
    (g.L.Link.given c.args.link.now) (g.L.Link.given c.try_once.new.link) c.in-Err.ensures.asks
