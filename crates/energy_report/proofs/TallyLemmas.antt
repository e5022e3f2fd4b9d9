-- Lemmas: adding the entries of a meter to its tally (first and last entry, corrections) one by one
-- gives the tally of all these entries.
use Rattle.std.proofs.Common.{◌≡◌, ℕ, ◌+◌, Bool, true, false, cond, Option, Some, None, List, [], ◌∷◌, ◌++◌, reverse, refl, sym, ◌∙◌, ap, arith}
use Rattle.std.specs.List.{count_by, find}
use Rattle.std.specs.Option.{option_map, option_or}
use Rattle.std.proofs.lemmas.List.{reverse-append}
use Rattle.std.proofs.lemmas.List.Folds.{find-append}
use Rattle.std.proofs.lemmas.List.Sums.{sum_by-append, sum_by-cons}
use Rattle.energy_core.specs.declared.entries.Last.{Last}
use Rattle.interval_core.specs.declared.zone.Zone.{Zone}
use Rattle.office_books.specs.declared.entries.MeterEntry.{MeterEntry}
use Rattle.interval_core.specs.declared.day_range.DayRange.{DayRange}
use Rattle.energy_report.specs.declared.tallies.EntryTally.{EntryTally}
use Rattle.energy_report.specs.RowLines.{counted}
use Rattle.energy_report.specs.Statements.{is_closing, is_corrected, is_manual, is_rescale, is_reset, is_voided, counter_after_entry, opens_within, stands_within, tally_of}
use Rattle.energy_report.proofs.SnocLemmas.{capped}

count_push : {X : Type 0} (p : X → Bool) (xs : List X) (x : X) → count_by p (xs ++ x ∷ []) ≡ count_by p xs + cond (p x) 1 0
count_push {X} p xs x =
    let f : X → ℕ = λ y. cond (p y) 1 0 in
    omega (arith, sum_by-append f xs (x ∷ []), sum_by-cons f x [])

pub counts : {X : Type 0} (p : X → Bool) (before : List X) (e : X)
    → counted (counted (count_by p before) + cond (p e) 1 0) ≡ counted (count_by p (before ++ e ∷ []))
counts p before e =
    capped 18446744073709551615 (count_by p before) (cond (p e) 1 0) ∙ ap counted (sym (count_push p before e))

map_or : {X Y : Type 0} (f : X → Y) (a b : Option X) → option_map f (option_or a b) ≡ option_or (option_map f a) (option_map f b)
map_or f None b = refl
map_or f (Some x) b = refl

map_choice : {X Y : Type 0} (f : X → Y) (b : Bool) (x : X) (other : Option X)
    → option_map f (cond b (Some x) other) ≡ cond b (Some (f x)) (option_map f other)
map_choice f true x other = refl
map_choice f false x other = refl

first : (p : MeterEntry → Bool) (before : List MeterEntry) (e : MeterEntry)
    → option_or (option_map counter_after_entry (find p before)) (cond (p e) (Some (counter_after_entry e)) None)
    ≡ option_map counter_after_entry (find p (before ++ e ∷ []))
first p before e = sym (
    ap (option_map counter_after_entry) (find-append p before (e ∷ []))
    ∙ map_or counter_after_entry (find p before) (find p (e ∷ []))
    ∙ ap (option_or (option_map counter_after_entry (find p before))) (map_choice counter_after_entry (p e) e None)
    )

last : (p : MeterEntry → Bool) (before : List MeterEntry) (e : MeterEntry)
    → cond (p e) (Some (counter_after_entry e)) (option_map counter_after_entry (find p (reverse before)))
    ≡ option_map counter_after_entry (find p (reverse (before ++ e ∷ [])))
last p before e = sym (
    ap (λ (es : List MeterEntry). option_map counter_after_entry (find p es)) (reverse-append before (e ∷ []))
    ∙ map_choice counter_after_entry (p e) e (find p (reverse before))
    )

-- The tally (first and last entry, corrections) of a meter after one more entry is added.
abbrev pub with_entry : Zone → DayRange → EntryTally → MeterEntry → EntryTally
with_entry zone range old e = record {
  first = option_or old.first (cond (stands_within zone range e) (Some (counter_after_entry e)) None);
  last = cond (stands_within zone range e) (Some (counter_after_entry e)) old.last;
  by_hand = counted (old.by_hand + cond (is_corrected zone range is_manual e) 1 0);
  resets = counted (old.resets + cond (is_corrected zone range is_reset e) 1 0);
  rescales = counted (old.rescales + cond (is_corrected zone range is_rescale e) 1 0);
  voids = counted (old.voids + cond (is_voided zone range e) 1 0);
  openings = counted (old.openings + cond (opens_within zone range e) 1 0);
  closings = counted (old.closings + cond (is_corrected zone range is_closing e) 1 0);
}

-- A tally of a meter's entries with the given first and last state of the counter and the given
-- numbers of corrections, openings and closings.
abbrev tally : (first last : Option Last) (by_hand resets rescales voids openings closings : ℕ) → EntryTally
tally first last by_hand resets rescales voids openings closings = record {
  first = first;
  last = last;
  by_hand = by_hand;
  resets = resets;
  rescales = rescales;
  voids = voids;
  openings = openings;
  closings = closings;
}

pub alike : {f f' l l' : Option Last} {h h' r r' s s' v v' o o' c c' : ℕ} → f ≡ f' → l ≡ l' → h ≡ h' → r ≡ r' → s ≡ s' → v ≡ v' → o ≡ o' → c ≡ c'
    → tally f l h r s v o c ≡ tally f' l' h' r' s' v' o' c'
alike ef el eh er es ev eo ec = rw (ef, el, eh, er, es, ev, eo, ec) refl

pub one_more : (zone : Zone) (range : DayRange) (before : List MeterEntry) (e : MeterEntry) (old : EntryTally)
    → old ≡ tally_of zone range before → with_entry zone range old e ≡ tally_of zone range (before ++ e ∷ [])
one_more zone range before e old is =
    ap (λ (o : EntryTally). with_entry zone range o e) is
    ∙ alike (first (stands_within zone range) before e) (last (stands_within zone range) before e)
    (counts (is_corrected zone range is_manual) before e) (counts (is_corrected zone range is_reset) before e)
    (counts (is_corrected zone range is_rescale) before e) (counts (is_voided zone range) before e)
    (counts (opens_within zone range) before e) (counts (is_corrected zone range is_closing) before e)
