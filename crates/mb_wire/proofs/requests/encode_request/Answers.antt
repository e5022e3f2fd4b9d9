use Rattle.mb_wire.specs.Requests.{query_of, request_bytes}
use Rattle.mb_wire.proofs.Asking.{spells_own, spells_reads}
use Rattle.mb_wire.proofs.Lawful.{lawful_query}
use Rattle.mb_wire.proofs.requests.encode_request.Goals as goal

pub returns-clause-spelled : goal.returns-clause-spelled
returns-clause-spelled c =
    let request = c.args.request.now in
    rw c.write_request.ensures.written
    (spells_own (query_of request) (lawful_query request c.requires) c.write_request.ensures.address c.write_request.ensures.field)

pub returns-clause-reads_back : goal.returns-clause-reads_back
returns-clause-reads_back c =
    let request = c.args.request.now in
    rw c.write_request.ensures.written
    (spells_reads (request_bytes request) (query_of request)
    (spells_own (query_of request) (lawful_query request c.requires) c.write_request.ensures.address c.write_request.ensures.field))
