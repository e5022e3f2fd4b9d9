use Rattle.std.proofs.Common.{subst, map}
use Rattle.httparse.specs.Spans.{header_bytes}
use Rattle.office_http.specs.Messages.Asking.{TestsPost}
use Rattle.office_http.proofs.MessagesLemmas.FoundHeaders.{headers_are}
use Rattle.office_http.proofs.messages.post.post_headers.Goals as goal

pub returns : goal.returns
returns c =
    subst (λ headers. TestsPost headers c.test_headers.result)
    (headers_are c.header_value-transfer.result c.header_value-size.result c.header_value-caller.result c.header_value-number_of.result (map (header_bytes c.args.bytes.now) c.args.headers.now)
    c.header_value-transfer.ensures c.header_value-size.ensures c.header_value-caller.ensures c.header_value-number_of.ensures)
    c.test_headers.ensures
