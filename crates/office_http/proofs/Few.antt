-- Lemmas: the number of a meter's rows (one for each quarter hour with energy) is at most the
-- largest supported timestamp, and therefore below 2^64.
use Rattle.std.proofs.Common.{◌≡◌, ℕ, ◌+◌, ◌-◌, ◌<◌, ◌≤◌, List, [], ◌∷◌, length, Option, Some, None, refl, sym, subst, arith}
use Rattle.std.specs.Prelude.{All}
use Rattle.std.specs.Option.{option_map}
use Rattle.std.proofs.lemmas.List.Elements.{All-head, All-tail}
use Rattle.interval_core.specs.declared.shares.Share.{Share}
use Rattle.interval_core.specs.Account.{starts_of, IsAscending}
use Rattle.meter_journal.specs.Laws.{IntervalRowsAreAccounts}
use Rattle.meter_journal.specs.Changes.{LiesWithin, RowsLieWithin, VoidsGoNoFurther}
use Rattle.office_events.specs.declared.facts.Opening.{Opening}
use Rattle.office_events.specs.declared.facts.Fact.{Fact}
use Rattle.office_books.specs.Facts.{latest_in, moment_limit, opening_of, openings_in, same}
use Rattle.office_books.specs.Meters.{installed, journal_of}
use Rattle.office_books.specs.Intervals.{rows_of_opening}
use Rattle.office_books.specs.Lawful.{AreLawful}
use Rattle.office_books.proofs.InTurn.{last_at, last_is_recorded}
use Rattle.office_books.proofs.Journals.{IsInstalled, installed_fits, well}
use Rattle.office_books.proofs.Lookups.{find_passes, same_text}
use Rattle.office_core.specs.Asking.{intervals_of, rows_in}

-- Theorems on the history of a meter's entries. They bound the number of the meter's rows (one for
-- each quarter hour with energy).
pub record FromJournals : Type 0 where
  pub accounts : IntervalRowsAreAccounts
  pub within : RowsLieWithin
  pub no_further : VoidsGoNoFurther

few_after : (low opened last : ℕ) (rows : List Share) → All (λ later. low < later) (starts_of rows) → IsAscending (starts_of rows)
    → All (LiesWithin opened last) rows → length rows ≤ last - (low + 1)
few_after low opened last [] above ascending within = omega arith
few_after low opened last (row ∷ rows) above ascending within =
    let P : ℕ → Type 0 = λ later. low < later in
    let lt : low < row.start = All-head P row.start (starts_of rows) above in
    let here = All-head (LiesWithin opened last) row rows within in
    let more = few_after row.start opened last rows ascending.0 ascending.1 (All-tail (LiesWithin opened last) row rows within) in
    omega (arith, lt, here.before, more)

few_within : (opened last : ℕ) (rows : List Share) → IsAscending (starts_of rows) → All (LiesWithin opened last) rows → length rows ≤ last
few_within opened last [] ascending within = omega arith
few_within opened last (row ∷ rows) ascending within =
    let here = All-head (LiesWithin opened last) row rows within in
    let more = few_after row.start opened last rows ascending.0 ascending.1 (All-tail (LiesWithin opened last) row rows within) in
    omega (arith, here.before, more)

latest_bounded : (facts : List Fact) → AreLawful facts → latest_in facts ≤ moment_limit
latest_bounded [] h = omega arith
latest_bounded (f ∷ facts) h = omega (arith, h.0.1, latest_bounded facts h.1)

few_of : FromJournals → (facts : List Fact) (o : Opening) → AreLawful facts → IsInstalled facts o → length (rows_of_opening facts o) ≤ 4102444800
few_of law facts o h there =
    let own = well facts o h there in
    let fits = installed_fits facts o h there in
    let lines = journal_of facts o.meter in
    let few = few_within o.at (last_at facts o) (rows_of_opening facts o) (law.accounts (installed o) lines own fits).in_order (law.within (installed o) lines own fits) in
    omega (arith, few, last_is_recorded law.no_further facts o h there, latest_bounded facts h)

-- If the store has a first entry (made at installation) for a meter name, then a meter with that
-- name is installed.
named : (facts : List Fact) (name : List ℕ) (o : Opening) → opening_of facts name ≡ Some o → IsInstalled facts o
named facts name o h =
    let is = same_text o.meter name (find_passes (λ (p : Opening). same p.meter name) (openings_in facts) o h) in
    subst (λ t. opening_of facts t ≡ Some o) (sym is) h

few_found : FromJournals → (facts : List Fact) (name : List ℕ) (found : Option Opening) → AreLawful facts → opening_of facts name ≡ found
    → length (rows_in (option_map (rows_of_opening facts) found)) ≤ 18446744073709551615
few_found law facts name None h is = omega arith
few_found law facts name (Some o) h is = omega (arith, few_of law facts o h (named facts name o is))

pub few_named : FromJournals → (facts : List Fact) (name : Option (List ℕ)) → AreLawful facts → length (rows_in (intervals_of facts name)) ≤ 18446744073709551615
few_named law facts None h = omega arith
few_named law facts (Some name) h = few_found law facts name (opening_of facts name) h refl
