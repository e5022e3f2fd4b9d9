use Rattle.std.proofs.Common.{None, Some, Ok, refl}
use Rattle.std.specs.Prelude.{Option}
use Rattle.mb_wire.specs.Spans.{span_view}
use Rattle.sun_chain.specs.Scanning.Counters.{counter_span}
use Rattle.sun_chain.specs.Scanning.Lines.{line}
use Rattle.sun_chain.specs.declared.scans.counter.Shown.{Shown}
use Rattle.sun_chain.specs.declared.scans.fault.ScanFault.{ScanFault}
use Rattle.sun_chain.proofs.ScanLemmas.Showing.{asks_read, shows_read, shows_words}
use Rattle.sun_chain.proofs.scans.counter.read_counter.Goals as goal

pub returns-in-Ok-Some-clause-shown : goal.returns-in-Ok-Some-clause-shown
returns-in-Ok-Some-clause-shown g c =
    let begun = c.new-client.result in
    let words = c.in-Ok-Some.words.items in
    shows_read c.args.unit begun.unit (counter_span c.args.function c.args.address c.args.scale) (span_view c.in-Some.span) (g.L.Link.remaining c.args.link.now) (g.L.Link.given c.args.link.now)
    begun.reader.rest begun.next (line (g.L.Link.remaining c.read.new.link) (g.L.Link.given c.read.new.link) c.read.new.self) (Some words) c.args.address c.args.scale c.decode_counter.result
    c.in-Some.ensures c.new-client.ensures.unit c.new-client.ensures.nothing c.new-client.ensures.first (rw c.in-Ok-Some.field-0-is at c.in-Ok-Some.ensures.read)
    (shows_words c.in-Some.span.address c.deref.result.now words c.args.address c.args.scale c.decode_counter.result c.decode_counter.ensures c.deref.ensures.value)

pub returns-in-Ok-None-clause-shown : goal.returns-in-Ok-None-clause-shown
returns-in-Ok-None-clause-shown g c =
    let begun = c.new-client.result in
    shows_read c.args.unit begun.unit (counter_span c.args.function c.args.address c.args.scale) (span_view c.in-Some.span) (g.L.Link.remaining c.args.link.now) (g.L.Link.given c.args.link.now)
    begun.reader.rest begun.next (line (g.L.Link.remaining c.read.new.link) (g.L.Link.given c.read.new.link) c.read.new.self) None c.args.address c.args.scale None
    c.in-Some.ensures c.new-client.ensures.unit c.new-client.ensures.nothing c.new-client.ensures.first (rw c.in-Ok-None.field-0-is at c.in-Ok-None.ensures.read) refl

pub returns-in-Ok-None-clause-asks : goal.returns-in-Ok-None-clause-asks
returns-in-Ok-None-clause-asks g c =
    asks_read {X = Option Shown} {E = ScanFault} c.args.unit c.new-client.result.unit (counter_span c.args.function c.args.address c.args.scale) (span_view c.in-Some.span) (Ok None)
    (g.L.Link.given c.args.link.now) (g.L.Link.given c.read.new.link) c.in-Some.ensures c.new-client.ensures.unit c.in-Ok-None.ensures.asks
