use Rattle.stored_files.proofs.FineRegisters.{fine_registers_are_in_turn as lemma}
use Rattle.stored_files.proofs.fine_files.fine_registers_are_in_turn.Goals as goal

pub returns : goal.returns
returns c =
    lemma (record {
      tables = c.fine_tables_are_lawful.ensures;
      accounts = c.interval_rows_are_accounts.ensures;
      within = c.rows_lie_within.ensures;
    })
