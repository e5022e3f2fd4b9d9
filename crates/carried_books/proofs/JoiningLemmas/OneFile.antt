-- The theorem that a report over one database file has a statement (row) for each meter of the
-- file.
use Rattle.std.proofs.Common.{◌≡◌, Bool, suc, List, [], ◌∷◌, ◌++◌, map, reverse, Some, inl, inr, refl, sym, ap, subst, ◌∙◌, arith}
use Rattle.std.specs.Prelude.{◌≢◌, All, filter}
use Rattle.std.specs.List.{AllPairs}
use Rattle.std.proofs.lemmas.Bool.{cases_Bool, cond-false, cond-true}
use Rattle.std.proofs.lemmas.List.{map-append}
use Rattle.std.proofs.lemmas.List.Elements.{All-head, All-map, All-pop, All-push, All-tail}
use Rattle.std.proofs.lemmas.List.Kept.{AllPairs-filter}
use Rattle.energy_report.specs.Statements.{was_installed}
use Rattle.energy_report.specs.declared.meter_statement.MeterStatement.{MeterStatement}
use Rattle.interval_core.specs.declared.day_range.DayRange.{DayRange}
use Rattle.interval_core.specs.declared.zone.Zone.{Zone}
use Rattle.office_books.specs.Entries.{installations_of}
use Rattle.office_books.specs.Rows.{TakesAll}
use Rattle.office_events.specs.declared.facts.Fact.{Fact}
use Rattle.office_events.specs.declared.facts.Opening.{Opening}
use Rattle.office_events.specs.declared.questions.Installation.{Installation}
use Rattle.office_program.specs.Texts.Statements.{statement_of, statements_of}
use Rattle.office_books.specs.Facts.{openings_in, same}
use Rattle.office_books.specs.Lawfulness.{NamesAreDistinct}
use Rattle.office_books.specs.Meters.{installation_of}
use Rattle.office_books.proofs.Lists.{reverse_cons}
use Rattle.carried_books.specs.Joining.Statements.{AddsOver, MeterOver, OneFileStatesItsMeters, meter_in, statement_over, statements_over}

pub all_turned : {X : Type 0} (P : X → Type 0) (xs : List X) → All P xs → All P (reverse xs)
all_turned P [] all = all
all_turned P (x ∷ xs) all =
    subst (All P) (sym (reverse_cons x xs)) (All-push P (reverse xs) x (all_turned P xs (All-tail P x xs all)) (All-head P x xs all))

-- Suppose that a list of items is processed in order. Then the earlier items lead to some state,
-- and the last item leads from this state to the final state.
pub takes_last : {S T : Type 0} (takes : S → T → S → Type 0) (before after : S) (rows : List T) (row : T) → TakesAll takes before (rows ++ row ∷ []) after
    → (mid : S) × TakesAll takes before rows mid × takes mid row after
takes_last takes before after [] row took = (before, refl, subst (takes before row) (sym took.2) took.1)
takes_last takes before after (first ∷ rows) row took =
    let rest = takes_last takes took.0 after rows row took.2 in (rest.0, (took.0, took.1, rest.1), rest.2)

module _ (facts : List Fact) where
  abbrev part : Opening → MeterOver
  part opening = meter_in facts (installation_of facts opening)

  parts_are : (openings : List Opening) → map (meter_in facts) (map (installation_of facts) openings) ≡ map part openings
  parts_are [] = refl
  parts_are (opening ∷ openings) = ap (λ (those : List MeterOver). part opening ∷ those) (parts_are openings)

  abbrev HasOther : Opening → MeterOver → Type 0
  HasOther opening m = opening.meter ≢ m.stands.opening.meter

  -- If a meter has another name than each earlier meter, then it continues none of them. The meter
  -- is therefore appended to the list.
  comes_next : (opening : Opening) (known after : List MeterOver) → All (HasOther opening) known → AddsOver known (part opening) after
      → after ≡ known ++ part opening ∷ []
  comes_next opening known after all (inl is) = absurd ((All-pop (HasOther opening) known is.before (Some is.one) is.known_is all).1 is.goes.name)
  comes_next opening known after all (inr is) = is.after_is

  in_turn : (openings : List Opening) (after : List MeterOver) → AllPairs (λ (a b : Opening). a.meter ≢ b.meter) openings
      → TakesAll AddsOver [] (map part (reverse openings)) after → after ≡ map part (reverse openings)
  in_turn [] after pairs took = took
  in_turn (opening ∷ openings) after pairs took =
      let before = map part (reverse openings) in
      let turned : map part (reverse (opening ∷ openings)) ≡ before ++ part opening ∷ [] =
      ap (map part) (reverse_cons opening openings) ∙ map-append part (reverse openings) (opening ∷ []) in
      let last = takes_last AddsOver [] after before (part opening) (subst (λ (those : List MeterOver). TakesAll AddsOver [] those after) turned took) in
      let was : last.0 ≡ before = in_turn openings last.0 (λ i j d less inside. pairs (suc i) (suc j) d (omega (arith, less)) (omega (arith, inside))) last.1 in
      let differ : All (λ (other : Opening). opening.meter ≢ other.meter) openings = λ k d inside. pairs 0 (suc k) d (omega arith) (omega (arith, inside)) in
      let others = subst (All (HasOther opening)) (sym was)
      (All-map (HasOther opening) part (reverse openings) (all_turned (λ (other : Opening). opening.meter ≢ other.meter) openings differ)) in
      comes_next opening last.0 after others last.2 ∙ ap (λ (those : List MeterOver). those ++ part opening ∷ []) was ∙ sym turned

  rows_are : (zone : Zone) (range : DayRange) (rows : List Installation)
      → statements_over zone range (map (meter_in facts) rows) ≡ statements_of zone range facts rows
  rows_are zone range [] = refl
  rows_are zone range (row ∷ rows) =
      let rest = rows_are zone range rows in
      elim (cases_Bool (was_installed zone range row)) [
        | inl is ↦ ap (map (statement_over zone range)) (cond-true _ _ _ is)
            ∙ ap (λ (those : List MeterStatement). statement_over zone range (meter_in facts row) ∷ those) rest
            ∙ sym (ap (map (λ (r : Installation). statement_of zone range facts r.opening.meter)) (cond-true _ _ _ is))
        | inr isnt ↦ ap (map (statement_over zone range)) (cond-false _ _ _ isnt) ∙ rest
            ∙ sym (ap (map (λ (r : Installation). statement_of zone range facts r.opening.meter)) (cond-false _ _ _ isnt))
      ]

pub one_file_states : NamesAreDistinct → OneFileStatesItsMeters
one_file_states distinct = λ zone range register facts meters lawful are.
    let at : Opening → Bool = λ opening. same opening.register register in
    let openings = filter at (openings_in facts) in
    let pairs = AllPairs-filter (λ (a b : Opening). a.meter ≢ b.meter) at (openings_in facts) (distinct facts lawful).meters in
    let parts = parts_are facts (reverse openings) in
    let are_they = in_turn facts openings meters pairs (subst (λ (those : List MeterOver). TakesAll AddsOver [] those meters) parts are.joined) in
    ap (statements_over zone range) (are_they ∙ sym parts) ∙ rows_are facts zone range (installations_of facts register)
