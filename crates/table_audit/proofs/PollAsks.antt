-- Lemmas: the audit's queries for polls and outcomes return exactly the table rows that their
-- conditions select, in the order of the queries. The columns of the queried tables may have any
-- values.
use Rattle.std.proofs.Common.{◌≡◌, ℤ, Bool, true, false, ◌&&◌, List, [], ◌∷◌, refl, sym, ap, ◌∙◌}
use Rattle.std.specs.Ordering.{is_gt}
use Rattle.sqlite.specs.declared.types.Value.TheVariants.{Int}
use Rattle.sqlite.specs.Order.{Row, column}
use Rattle.sqlite_value.specs.Order.{value_cmp}
use Rattle.sqlite_value.proofs.OrderLemmas.{then-Equal}
use Rattle.sqlite.specs.Term.{col}
use Rattle.sqlite.specs.State.{State, Shown}
use Rattle.store_tables.specs.Schema.{books_schema, polls_table, outcomes_table}
use Rattle.store_tables.specs.Content.{Content, AreTables, HasRows}
use Rattle.store_tables.specs.Answer.{every}
use Rattle.store_tables.specs.Asking.{Shows, ShowsFirst}
use Rattle.store_tables.proofs.Frames.{tree_at}
use Rattle.store_tables.proofs.Scans.{rising, falling, one, and_true, no_limit}
use Rattle.store_tables.proofs.Selects.{selects}
use Rattle.table_audit.specs.Looking.{itself}
use Rattle.table_audit.specs.Showing.{InPlace}
use Rattle.table_audit.specs.PollShowing.{polls_tree, outcomes_tree, is_from, is_up_to, is_between, FromLast, number_shown, poll_shown, outcome_shown}
use Rattle.table_audit.proofs.SqlTexts as text

between_test : (a b : Bool) → a && (b && true) ≡ a && b
between_test a b = ap (λ (x : Bool). a && x) (and_true b)

pub last_poll : (old new : State) (content : Content) (xs rows : List Row) → AreTables old.now content → HasRows polls_tree itself xs content
    → Shown text.last_poll [] old new rows → ShowsFirst every FromLast number_shown xs rows
last_poll old new content xs rows has are h =
    selects polls_tree [] text.last_project ((col 1 0, falling) ∷ []) one [] itself every number_shown FromLast
    (λ n x. refl) (λ n x. refl)
    (λ m n x y le. sym (ap is_gt (then-Equal (value_cmp (column y 0) (column x 0)))) ∙ le)
    old new text.last_poll text.last_names content xs rows (tree_at books_schema.tables 6 polls_table refl) has are text.last_poll_is text.last_poll_unlisted text.last_poll_plain h

pub poll_rows : (low high : ℤ) (old new : State) (content : Content) (xs rows : List Row) → AreTables old.now content → HasRows polls_tree itself xs content
    → Shown text.poll_rows (Int low ∷ Int high ∷ []) old new rows → Shows (is_between low high) InPlace poll_shown xs rows
poll_rows low high old new content xs rows has are h =
    selects polls_tree text.in_run text.poll_project ((col 1 0, rising) ∷ []) no_limit (Int low ∷ Int high ∷ []) itself (is_between low high) poll_shown InPlace
    (λ n x. between_test (is_from low (column x 0)) (is_up_to high (column x 0))) (λ n x. refl)
    (λ m n x y le. sym (ap is_gt (then-Equal (value_cmp (column x 0) (column y 0)))) ∙ le)
    old new text.poll_rows text.poll_names content xs rows (tree_at books_schema.tables 6 polls_table refl) has are text.poll_rows_is text.poll_rows_unlisted text.poll_rows_plain h

pub outcome_rows : (low high : ℤ) (old new : State) (content : Content) (xs rows : List Row) → AreTables old.now content → HasRows outcomes_tree itself xs content
    → Shown text.outcome_rows (Int low ∷ Int high ∷ []) old new rows → Shows (is_between low high) InPlace outcome_shown xs rows
outcome_rows low high old new content xs rows has are h =
    selects outcomes_tree text.in_run text.outcome_project ((col 1 0, rising) ∷ []) no_limit (Int low ∷ Int high ∷ []) itself (is_between low high) outcome_shown InPlace
    (λ n x. between_test (is_from low (column x 0)) (is_up_to high (column x 0))) (λ n x. refl)
    (λ m n x y le. sym (ap is_gt (then-Equal (value_cmp (column x 0) (column y 0)))) ∙ le)
    old new text.outcome_rows text.outcome_names content xs rows (tree_at books_schema.tables 8 outcomes_table refl) has are text.outcome_rows_is text.outcome_rows_unlisted text.outcome_rows_plain h
