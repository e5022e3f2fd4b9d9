-- Proofs of what the queries on the tables `polls`, `outcomes`, `holds` (rejected readings) and
-- `replies` return.
use Rattle.std.proofs.Common.{ℕ, ◌==◌, pos, List, [], ◌∷◌, refl}
use Rattle.sqlite.specs.declared.types.Value.TheVariants.{Int, Text}
use Rattle.sqlite.specs.Order.{Row}
use Rattle.sqlite.specs.Term.{col}
use Rattle.sqlite.specs.State.{State, Shown}
use Rattle.store_tables.specs.Schema.{books_schema, polls_table, outcomes_table, holds_table, replies_table}
use Rattle.store_tables.specs.Content.{Content, AreTables, HasRows}
use Rattle.store_tables.specs.Answer.{AnyOrder, LastFirst, every}
use Rattle.store_tables.specs.Asking.{ShowsFirst}
use Rattle.store_tables.proofs.Frames.{tree_at}
use Rattle.store_tables.proofs.Scans.{text_is, number_is, and_true, one, falling}
use Rattle.store_tables.proofs.Selects.{selects, in_order}
use Rattle.store_tables.specs.declared.polls.rows.OutcomeRow.{OutcomeRow}
use Rattle.store_tables.specs.Polls.Rows.{Started, poll_columns, poll_shown, number_shown, poll_number, is_poll, outcome_columns, outcome_shown, is_outcome_of, Held, hold_columns, hold_place, hold_place_shown, Kept, reply_columns, reply_shown, is_reply, start_of, start_shown, outcome_moment, outcome_moment_shown, hold_moment, hold_moment_shown, reply_moment, reply_moment_shown}
use Rattle.store_tables.specs.Polls.Trees.{polls, outcomes, holds, replies}
use Rattle.store_tables.proofs.PollsLemmas.Texts as text

pub poll_at : (number : ℕ) (old new : State) (content : Content) (xs : List Started) (rows : List Row) → AreTables old.now content → HasRows polls poll_columns xs content
    → Shown text.poll_at (Int (pos number) ∷ []) old new rows → ShowsFirst (is_poll number) (AnyOrder) poll_shown xs rows
poll_at number old new content xs rows has are h =
    selects polls text.poll_at_tests text.poll_at_project [] one (Int (pos number) ∷ []) poll_columns (is_poll number) poll_shown (AnyOrder)
    (λ n x. rw (number_is x.row.number number, and_true (x.row.number == number)) refl) (λ n x. refl) (λ m n x y le. tt)
    old new text.poll_at text.poll_at_names content xs rows (tree_at books_schema.tables 6 polls_table refl) has are text.poll_at_is text.poll_at_unlisted text.poll_at_plain h

pub last_poll : (old new : State) (content : Content) (xs : List Started) (rows : List Row) → AreTables old.now content → HasRows polls poll_columns xs content
    → Shown text.last_poll ([]) old new rows → ShowsFirst (every) (LastFirst poll_number) number_shown xs rows
last_poll old new content xs rows has are h =
    selects polls text.last_poll_tests text.last_poll_project ((col 1 0, falling) ∷ []) one ([]) poll_columns (every) number_shown (LastFirst poll_number)
    (λ n x. refl) (λ n x. refl) (λ m n x y le. in_order y.row.number x.row.number le)
    old new text.last_poll text.last_poll_names content xs rows (tree_at books_schema.tables 6 polls_table refl) has are text.last_poll_is text.last_poll_unlisted text.last_poll_plain h

pub outcome_of : (poll : ℕ) (old new : State) (content : Content) (xs : List OutcomeRow) (rows : List Row) → AreTables old.now content → HasRows outcomes outcome_columns xs content
    → Shown text.outcome_of (Int (pos poll) ∷ []) old new rows → ShowsFirst (is_outcome_of poll) (AnyOrder) outcome_shown xs rows
outcome_of poll old new content xs rows has are h =
    selects outcomes text.outcome_of_tests text.outcome_of_project [] one (Int (pos poll) ∷ []) outcome_columns (is_outcome_of poll) outcome_shown (AnyOrder)
    (λ n x. rw (number_is x.poll poll, and_true (x.poll == poll)) refl) (λ n x. refl) (λ m n x y le. tt)
    old new text.outcome_of text.outcome_of_names content xs rows (tree_at books_schema.tables 8 outcomes_table refl) has are text.outcome_of_is text.outcome_of_unlisted text.outcome_of_plain h

pub last_hold : (old new : State) (content : Content) (xs : List Held) (rows : List Row) → AreTables old.now content → HasRows holds hold_columns xs content
    → Shown text.last_hold ([]) old new rows → ShowsFirst (every) (LastFirst hold_place) hold_place_shown xs rows
last_hold old new content xs rows has are h =
    selects holds text.last_hold_tests text.last_hold_project ((col 1 0, falling) ∷ []) one ([]) hold_columns (every) hold_place_shown (LastFirst hold_place)
    (λ n x. refl) (λ n x. refl) (λ m n x y le. in_order y.row.place x.row.place le)
    old new text.last_hold text.last_hold_names content xs rows (tree_at books_schema.tables 7 holds_table refl) has are text.last_hold_is text.last_hold_unlisted text.last_hold_plain h

pub repeat_of : (caller : List ℕ) (number : ℕ) (old new : State) (content : Content) (xs : List Kept) (rows : List Row) → AreTables old.now content → HasRows replies reply_columns xs content
    → Shown text.repeat_of (Text caller ∷ Int (pos number) ∷ []) old new rows → ShowsFirst (is_reply caller number) (AnyOrder) reply_shown xs rows
repeat_of caller number old new content xs rows has are h =
    selects replies text.repeat_of_tests text.repeat_of_project [] one (Text caller ∷ Int (pos number) ∷ []) reply_columns (is_reply caller number) reply_shown (AnyOrder)
    (λ n x. rw (text_is x.caller caller, number_is x.number number, and_true (x.number == number)) refl) (λ n x. refl) (λ m n x y le. tt)
    old new text.repeat_of text.repeat_of_names content xs rows (tree_at books_schema.tables 10 replies_table refl) has are text.repeat_of_is text.repeat_of_unlisted text.repeat_of_plain h

pub latest_start : (old new : State) (content : Content) (xs : List Started) (rows : List Row) → AreTables old.now content → HasRows polls poll_columns xs content
    → Shown text.latest_start ([]) old new rows → ShowsFirst (every) (LastFirst start_of) start_shown xs rows
latest_start old new content xs rows has are h =
    selects polls text.latest_start_tests text.latest_start_project ((col 1 4, falling) ∷ []) one ([]) poll_columns (every) start_shown (LastFirst start_of)
    (λ n x. refl) (λ n x. refl) (λ m n x y le. in_order y.row.started x.row.started le)
    old new text.latest_start text.latest_start_names content xs rows (tree_at books_schema.tables 6 polls_table refl) has are text.latest_start_is text.latest_start_unlisted text.latest_start_plain h

pub latest_outcome : (old new : State) (content : Content) (xs : List OutcomeRow) (rows : List Row) → AreTables old.now content → HasRows outcomes outcome_columns xs content
    → Shown text.latest_outcome ([]) old new rows → ShowsFirst (every) (LastFirst outcome_moment) outcome_moment_shown xs rows
latest_outcome old new content xs rows has are h =
    selects outcomes text.latest_outcome_tests text.latest_outcome_project ((col 1 2, falling) ∷ []) one ([]) outcome_columns (every) outcome_moment_shown (LastFirst outcome_moment)
    (λ n x. refl) (λ n x. refl) (λ m n x y le. in_order y.moment x.moment le)
    old new text.latest_outcome text.latest_outcome_names content xs rows (tree_at books_schema.tables 8 outcomes_table refl) has are text.latest_outcome_is text.latest_outcome_unlisted text.latest_outcome_plain h

pub latest_hold : (old new : State) (content : Content) (xs : List Held) (rows : List Row) → AreTables old.now content → HasRows holds hold_columns xs content
    → Shown text.latest_hold ([]) old new rows → ShowsFirst (every) (LastFirst hold_moment) hold_moment_shown xs rows
latest_hold old new content xs rows has are h =
    selects holds text.latest_hold_tests text.latest_hold_project ((col 1 4, falling) ∷ []) one ([]) hold_columns (every) hold_moment_shown (LastFirst hold_moment)
    (λ n x. refl) (λ n x. refl) (λ m n x y le. in_order y.row.moment x.row.moment le)
    old new text.latest_hold text.latest_hold_names content xs rows (tree_at books_schema.tables 7 holds_table refl) has are text.latest_hold_is text.latest_hold_unlisted text.latest_hold_plain h

pub latest_reply : (old new : State) (content : Content) (xs : List Kept) (rows : List Row) → AreTables old.now content → HasRows replies reply_columns xs content
    → Shown text.latest_reply ([]) old new rows → ShowsFirst (every) (LastFirst reply_moment) reply_moment_shown xs rows
latest_reply old new content xs rows has are h =
    selects replies text.latest_reply_tests text.latest_reply_project ((col 1 5, falling) ∷ []) one ([]) reply_columns (every) reply_moment_shown (LastFirst reply_moment)
    (λ n x. refl) (λ n x. refl) (λ m n x y le. in_order y.moment x.moment le)
    old new text.latest_reply text.latest_reply_names content xs rows (tree_at books_schema.tables 10 replies_table refl) has are text.latest_reply_is text.latest_reply_unlisted text.latest_reply_plain h
