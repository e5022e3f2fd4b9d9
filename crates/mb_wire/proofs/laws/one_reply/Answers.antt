use Rattle.mb_wire.specs.Replies.{answer_bytes}
use Rattle.mb_wire.proofs.Answering.{spells_reads, reads_spells, spells_own, spells_cleared}
use Rattle.mb_wire.proofs.laws.one_reply.Goals as goal

pub returns-clause-both : goal.returns-clause-both
returns-clause-both c = λ query pdu answer bytes. (spells_reads query pdu answer, reads_spells query pdu answer bytes)

pub returns-clause-reads_back : goal.returns-clause-reads_back
returns-clause-reads_back c = λ query answer fits. spells_reads query (answer_bytes query answer) answer (spells_own query answer fits)

pub returns-clause-writes_back : goal.returns-clause-writes_back
returns-clause-writes_back c = λ query pdu answer bytes e. spells_cleared query pdu answer bytes (reads_spells query pdu answer bytes e)
