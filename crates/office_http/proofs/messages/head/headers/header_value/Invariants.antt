use Rattle.std.proofs.Common.{map, take}
use Rattle.httparse.specs.Spans.{header_bytes}
use Rattle.office_http.specs.Messages.Head.Headers.{Gives, values_of}
use Rattle.office_http.proofs.messages.head.headers.header_value.Given as goal

abbrev pub invariant-loop-header : goal.invariant-loop-header
invariant-loop-header l = Gives l.found (values_of l.name (map (header_bytes l.bytes) (take l.header-index l.headers)))
