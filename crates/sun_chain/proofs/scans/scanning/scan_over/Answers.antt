use Rattle.std.proofs.Common.{Global, ◌≡◌, ℕ, Option, Ok, Err, refl, sym, ap, ◌∙◌}
use Rattle.std.specs.Prelude.{Vec}
use Rattle.mb_wire.specs.Spans.{span_view}
use Rattle.sun_chain.specs.Scanning.Answers.{words_seen}
use Rattle.sun_chain.specs.Scanning.Scans.{stage_of, words_of}
use Rattle.sun_chain.specs.declared.scans.fault.ScanFault.{ScanFault}
use Rattle.sun_chain.specs.declared.scans.fault.ScanFault.TheVariants.{Garbled}
use Rattle.sun_chain.proofs.ScanLemmas.Settles.{garbles_both}
use Rattle.sun_chain.proofs.ScanLemmas.Talking.{going_begun, going_ends, going_more, going_part, inquires_of, part_of_all, reads_full, seen_full, smaller, wanted_holding}
use Rattle.sun_chain.proofs.scans.scanning.scan_over.Goals as goal

pub loop-span-init : goal.loop-span-init
loop-span-init g c = record {
  going = going_begun c.args.unit (g.L.Link.remaining c.args.link.now) (g.L.Link.given c.args.link.now) c.new-client.result.unit c.new-client.result.reader.rest c.new-client.result.next
      (words_of c.new-scan.result) (stage_of c.new-scan.result) (g.L.Link.taken c.args.link.now)
      c.new-client.ensures.nothing c.new-client.ensures.first c.new-client.ensures.unit c.new-scan.ensures.words c.new-scan.ensures.stage;
  failures = refl;
  ends = refl;
}

pub take_in-requires-clause-all : goal.take_in-requires-clause-all
take_in-requires-clause-all g c =
    seen_full c.in-Ok.answer c.in-Some.span.count (λ words is. reads_full _ _ _ _ (words_seen c.in-Ok.answer) words c.in-Ok.ensures.read is)

pub loop-span-smaller : goal.loop-span-smaller
loop-span-smaller g c =
    smaller (words_of c.take_in.new.scan) (stage_of c.loop-span.scan) (stage_of c.take_in.new.scan) (span_view c.in-Some.span) (sym c.in-Some.ensures) c.in-Ok-take_in.ensures.stage

pub loop-span-preserved : goal.loop-span-preserved
loop-span-preserved g c =
    let before = c.loop-span.invariant in
    record {
      going = going_more c.args.unit (g.L.Link.remaining c.args.link.now) (g.L.Link.given c.args.link.now) (g.L.Link.remaining c.loop-span.link) (g.L.Link.given c.loop-span.link)
          (g.L.Link.remaining c.read.new.link) (g.L.Link.given c.read.new.link) c.loop-span.client.unit c.read.new.self.unit c.loop-span.client.reader.rest c.read.new.self.reader.rest
          c.loop-span.client.next c.read.new.self.next (words_of c.loop-span.scan) (words_of c.take_in.new.scan) (stage_of c.loop-span.scan) (stage_of c.take_in.new.scan)
          (g.L.Link.taken c.args.link.now) (g.L.Link.taken c.loop-span.link) (g.L.Link.taken c.read.new.link) (span_view c.in-Some.span) (words_seen c.in-Ok.answer)
          before.going (sym c.in-Some.ensures) c.in-Ok.ensures.read
          (inquires_of {E = ScanFault} c.loop-span.client.unit (span_view c.in-Some.span) (Ok c.in-Ok.answer) (g.L.Link.given c.loop-span.link) (g.L.Link.given c.read.new.link)
          (wanted_holding (stage_of c.loop-span.scan) (span_view c.in-Some.span) c.in-Some.ensures) c.in-Ok.ensures.asks)
          c.in-Ok.ensures.unit c.in-Ok.ensures.takes c.in-Ok-take_in.ensures.words c.in-Ok-take_in.ensures.stage;
      failures = c.in-Ok.ensures.failures ∙ before.failures;
      ends = c.in-Ok.ensures.ends ∙ before.ends;
    }

pub returns-in-Err-take_in-clause-asks : goal.returns-in-Err-take_in-clause-asks
returns-in-Err-take_in-clause-asks g c =
    going_part _ _ _ _ (g.L.Link.given c.loop-span.link) (g.L.Link.given c.read.new.link) _ _ _ _ _ _ _ c.loop-span.invariant.going
    (part_of_all (g.L.Link.given c.loop-span.link) (g.L.Link.given c.read.new.link) c.loop-span.client.unit
    (inquires_of {E = ScanFault} c.loop-span.client.unit (span_view c.in-Some.span) (Ok c.in-Ok.answer) (g.L.Link.given c.loop-span.link) (g.L.Link.given c.read.new.link)
    (wanted_holding (stage_of c.loop-span.scan) (span_view c.in-Some.span) c.in-Some.ensures) c.in-Ok.ensures.asks))

pub returns-in-Err-clause-asks : goal.returns-in-Err-clause-asks
returns-in-Err-clause-asks g c =
    going_part _ _ _ _ (g.L.Link.given c.loop-span.link) (g.L.Link.given c.read.new.link) _ _ _ _ _ _ _ c.loop-span.invariant.going
    (inquires_of {X = Option (Vec ℕ Global)} c.loop-span.client.unit (span_view c.in-Some.span) (Err c.in-Err.fault) (g.L.Link.given c.loop-span.link) (g.L.Link.given c.read.new.link)
    (wanted_holding (stage_of c.loop-span.scan) (span_view c.in-Some.span) c.in-Some.ensures) c.in-Err.ensures.asks)

pub returns-in-Err-clause-garbled : goal.returns-in-Err-clause-garbled
returns-in-Err-clause-garbled g c = λ garbled.
    let is : c.in-Err.fault ≡ Garbled = cc in
    garbles_both _ _ _ _ _ c.loop-span.invariant.going.heard.came c.loop-span.invariant.going.heard.hears (c.in-Err.ensures.garbled (ap Err is))

pub returns-clause-scanned : goal.returns-clause-scanned
returns-clause-scanned g c =
    going_ends _ _ _ _ _ _ _ _ (words_of c.loop-span.scan) _ (stage_of c.loop-span.scan) _ _ c.loop-span.invariant.going (sym c.in_default.ensures) c.into_image.ensures
