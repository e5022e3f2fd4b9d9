-- Proofs of the effect of each SQL statement that writes the table `polls`, `outcomes`, `holds` or
-- `replies`.
use Rattle.std.proofs.Common.{◌≡◌, ℕ, pos, ◌∷◌, drop, Result, OnOk, refl}
use Rattle.sqlite.specs.declared.types.Value.TheVariants.{Null}
use Rattle.sqlite.specs.declared.error.Error.{Error}
use Rattle.sqlite.specs.Cast.{cast_row}
use Rattle.sqlite.specs.State.{State, Executes}
use Rattle.store_tables.specs.Schema.{polls_table, outcomes_table, holds_table, replies_table}
use Rattle.store_tables.specs.Content.{Edits, with_row}
use Rattle.store_tables.specs.Steps.{Turns}
use Rattle.store_tables.proofs.OtherTables.{cast_int, cast_null}
use Rattle.store_tables.proofs.Inserts.{plainly, inserts, chosen_rowid, given_rowid}
use Rattle.store_tables.specs.declared.polls.rows.OutcomeRow.{OutcomeRow}
use Rattle.store_tables.specs.Polls.Rows.{Started, poll_columns, poll_shown, outcome_columns, outcome_shown, Held, hold_columns, hold_shown, Kept, reply_columns}
use Rattle.store_tables.specs.Polls.Trees.{polls, outcomes, holds, replies}
use Rattle.store_tables.proofs.PollsLemmas.Texts as text

poll_cast : (p : Started) → cast_row (plainly polls_table) (poll_columns p) ≡ poll_columns p
poll_cast p = simp (cast_null, cast_int)

pub insert_poll : (old new : State) (p : Started) (r : Result ℕ Error) → Executes text.insert_poll (poll_shown p) old new r → OnOk r (Turns (Edits polls poll_columns (with_row p)) old.now new.now)
insert_poll old new p r h =
    inserts polls_table 6 refl poll_columns p (poll_columns p) (given_rowid _ (drop 1 (poll_columns p)) (pos p.row.number) (poll_cast p)) old new text.insert_poll_terms 9
    text.insert_poll (poll_shown p) r text.insert_poll_is text.insert_poll_plain (λ rows s. s.1) h

outcome_cast : (o : OutcomeRow) → cast_row (plainly outcomes_table) (outcome_columns o) ≡ outcome_columns o
outcome_cast o = simp (cast_null, cast_int)

pub insert_outcome : (old new : State) (o : OutcomeRow) (r : Result ℕ Error) → Executes text.insert_outcome (outcome_shown o) old new r → OnOk r (Turns (Edits outcomes outcome_columns (with_row o)) old.now new.now)
insert_outcome old new o r h =
    inserts outcomes_table 8 refl outcome_columns o (outcome_columns o) (given_rowid _ (drop 1 (outcome_columns o)) (pos o.poll) (outcome_cast o)) old new text.insert_outcome_terms 5
    text.insert_outcome (outcome_shown o) r text.insert_outcome_is text.insert_outcome_plain (λ rows s. s.1) h

hold_cast : (x : Held) → cast_row (plainly holds_table) (hold_columns x) ≡ hold_columns x
hold_cast x = simp (cast_null, cast_int)

pub insert_rejected : (old new : State) (x : Held) (r : Result ℕ Error) → Executes text.insert_rejected (hold_shown x) old new r → OnOk r (Turns (Edits holds hold_columns (with_row x)) old.now new.now)
insert_rejected old new x r h =
    inserts holds_table 7 refl hold_columns x (hold_columns x) (given_rowid _ (drop 1 (hold_columns x)) (pos x.row.place) (hold_cast x)) old new text.insert_hold_terms 8
    text.insert_rejected (hold_shown x) r text.insert_hold_is text.insert_hold_plain (λ rows s. s.1) h

reply_cast : (k : Kept) → cast_row (plainly replies_table) (Null ∷ reply_columns k) ≡ Null ∷ reply_columns k
reply_cast k = simp (cast_null, cast_int)

pub insert_kept_request : (old new : State) (k : Kept) (r : Result ℕ Error) → Executes text.insert_kept_request (reply_columns k) old new r → OnOk r (Turns (Edits replies reply_columns (with_row k)) old.now new.now)
insert_kept_request old new k r h =
    inserts replies_table 10 refl reply_columns k (Null ∷ reply_columns k) (chosen_rowid _ _ (reply_cast k)) old new text.insert_reply_terms 6 text.insert_kept_request (reply_columns k) r text.insert_reply_is text.insert_reply_plain (λ rows s. s.1) h
