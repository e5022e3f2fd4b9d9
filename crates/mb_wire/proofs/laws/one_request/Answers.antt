use Rattle.mb_wire.specs.Requests.{query_bytes}
use Rattle.mb_wire.proofs.Asking.{spells_reads, reads_spells, bytes_spell_own, spells_cleared}
use Rattle.mb_wire.proofs.laws.one_request.Goals as goal

pub returns-clause-both : goal.returns-clause-both
returns-clause-both c = λ pdu query bytes. (spells_reads pdu query, reads_spells pdu query bytes)

pub returns-clause-reads_back : goal.returns-clause-reads_back
returns-clause-reads_back c = λ query lawful bytes. spells_reads (query_bytes query) query (bytes_spell_own query lawful bytes)

pub returns-clause-writes_back : goal.returns-clause-writes_back
returns-clause-writes_back c = λ pdu query bytes e. spells_cleared pdu query bytes (reads_spells pdu query bytes e)
