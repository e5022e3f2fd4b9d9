-- The lemma that a query for a meter's interval rows (energy by quarter hour) returns all of these
-- rows if its time span contains all times.
use Rattle.std.proofs.Common.{◌≡◌, ℕ, List, refl, subst}
use Rattle.std.specs.Prelude.{Option, Some, None, Result}
use Rattle.std.specs.Option.{option_map}
use Rattle.interval_core.specs.declared.shares.Share.{Share}
use Rattle.office_events.specs.declared.refusals.Refusal.{Refusal}
use Rattle.office_books.specs.declared.spans.Span.TheVariants.{All}
use Rattle.office_books.specs.Ledgers.{Ledger}
use Rattle.office_books.specs.Spans.{rows_within}
use Rattle.office_core.specs.Asking.{HandsRows, RowsIn, intervals_of}
use Rattle.office_core.specs.Parts.{intervals_within}

all_within : (rows : Option (List Share)) → option_map (rows_within All) rows ≡ rows
all_within None = refl
all_within (Some rows) = refl

pub all_rows : {S : Type 0} (takes : S → Share → S → Type 0) (old new : Ledger) (from to : S) (result : Result (Unit {0}) Refusal) (meter : Option (List ℕ))
    → RowsIn takes old new from to result (λ known. intervals_within known meter All) → RowsIn takes old new from to result (λ known. intervals_of known meter)
all_rows takes old new from to result meter within = λ known holds clean.
    let P : Option (List Share) → Type 0 = λ rows. HandsRows takes rows old.failures new.failures from to result in
    subst P (all_within (intervals_of known meter)) (within known holds clean)
