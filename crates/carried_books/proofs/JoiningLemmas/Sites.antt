-- The theorem that the meter reported as the latest meter of a register (a named counter) is the
-- register's last meter in all database files.
use Rattle.std.proofs.Common.{◌≡◌, ℕ, ◌-◌, Bool, true, false, suc, List, [], ◌∷◌, ◌++◌, map, reverse, length, Option, Some, None, inl, inr, refl, sym, ap, subst, ◌∙◌, arith}
use Rattle.std.specs.Prelude.{◌⊎◌, ◌≢◌, ◌&&◌, not, All, filter}
use Rattle.std.specs.List.{AllPairs, find, slice_get}
use Rattle.std.specs.Option.{option_map}
use Rattle.std.proofs.lemmas.Bool.{cases_Bool, cond-false, cond-true}
use Rattle.std.proofs.lemmas.List.{length-append, map-append}
use Rattle.std.proofs.lemmas.List.Elements.{All-head, All-map, All-tail}
use Rattle.std.proofs.lemmas.List.Kept.{AllPairs-filter}
use Rattle.std.proofs.lemmas.Option.{same_Some}
use Rattle.std.proofs.lemmas.Slice.Eq.{bytes_eq-Decides}
use Rattle.office_events.specs.declared.facts.Fact.{Fact}
use Rattle.office_events.specs.declared.facts.Opening.{Opening}
use Rattle.office_events.specs.declared.questions.Installation.{Installation}
use Rattle.office_books.specs.Facts.{openings_in, same}
use Rattle.office_books.specs.Lawfulness.{NamesAreDistinct}
use Rattle.office_books.specs.Meters.{installation_of}
use Rattle.office_books.proofs.Lists.{reverse_cons}
use Rattle.carried_books.specs.Joining.Meters.{AddMeters, AddsMeter, as_one, is_before}
use Rattle.carried_books.specs.Joining.Sites.{LatestIsOfAllFiles, is_left, last_of, latest, latest_meter, meter_of, of_both, of_office}
use Rattle.carried_books.specs.declared.joining.sites.LatestMeter.{LatestMeter}
use Rattle.carried_books.proofs.JoiningLemmas.OneFile.{all_turned, takes_last}

get_last : {X : Type 0} (xs : List X) (x : X) → slice_get (xs ++ x ∷ []) (length xs) ≡ Some x
get_last [] x = refl
get_last (y ∷ xs) x = get_last xs x

last_pushed : (rows : List Installation) (row : Installation) → last_of (rows ++ row ∷ []) ≡ Some row
last_pushed rows row =
    let long = length-append rows (row ∷ []) in
    let place : length (rows ++ row ∷ []) - 1 ≡ length rows = omega (arith, long) in
    ap (λ (i : ℕ). slice_get (rows ++ row ∷ []) i) place ∙ get_last rows row

last_holds : {X : Type 0} (P : X → Type 0) (xs : List X) (x : X) → All P (xs ++ x ∷ []) → P x
last_holds P [] x all = All-head P x [] all
last_holds P (y ∷ xs) x all = last_holds P xs x (All-tail P y (xs ++ x ∷ []) all)

record EndsWith (rows : List Installation) : Type 0 where
  front : List Installation
  last : Installation
  is : rows ≡ front ++ last ∷ []

split_last : (rows : List Installation) → (rows ≡ []) ⊎ EndsWith rows
split_last [] = inl refl
split_last (x ∷ xs) = elim (split_last xs) [
  | inl none ↦ inr (record { front = []; last = x; is = ap (λ l. x ∷ l) none })
  | inr at ↦ inr (record { front = x ∷ at.front; last = at.last; is = ap (λ l. x ∷ l) at.is })
]

-- The first item of a list that passes a test equals the first item of the filtered list.
found_first : {X : Type 0} (p : X → Bool) (xs : List X) → find p xs ≡ slice_get (filter p xs) 0
found_first p [] = refl
found_first p (x ∷ xs) = elim (cases_Bool (p x)) [
  | inl passes ↦ cond-true _ _ _ passes ∙ sym (ap (λ l. slice_get l 0) (cond-true _ _ _ passes))
  | inr fails ↦ cond-false _ _ _ fails ∙ found_first p xs ∙ sym (ap (λ l. slice_get l 0) (cond-false _ _ _ fails))
]

both_hold : (a b : Bool) → a ≡ true → b ≡ true → (a && b) ≡ true
both_hold true b is holds = holds
both_hold false b is holds = absurd (cc is)

second_fails : (a b : Bool) → b ≡ false → (a && b) ≡ false
second_fails true b fails = fails
second_fails false b fails = refl

not_left : (ended a b : Bool) → (ended && a) ≡ true → (not ended && b) ≡ false
not_left true a b is = refl
not_left false a b is = absurd (cc is)

-- Suppose that the current file's meter at an accounting register (a named counter) does not
-- continue the meter that the earlier database files left open. Then the current file's meter is
-- reported as the register's latest meter.
reported_as_new : (known : List Installation) (row : Installation)
    → ((front : List Installation) (stands : Installation) → known ≡ front ++ stands ∷ [] → is_left stands row ≡ false)
    → option_map meter_of (latest_meter known (Some row)) ≡ Some row
reported_as_new known row other = elim (split_last known) [
  | inl none ↦ ap (λ (rows : List Installation). option_map meter_of (latest_meter rows (Some row))) none
  | inr at ↦
      let found : last_of known ≡ Some at.last = ap last_of at.is ∙ last_pushed at.front at.last in
      let reported : of_both at.last row ≡ of_office row = cond-false _ _ _ (other at.front at.last at.is) in
      ap (λ (stands : Option Installation). option_map meter_of (latest stands (Some row))) found
      ∙ ap (λ (it : LatestMeter). Some (meter_of it)) reported
]

reported_of_one : (known : List Installation) (row : Installation) (all : List Installation) → AddsMeter known row all
    → option_map meter_of (latest_meter known (Some row)) ≡ last_of all
reported_of_one known row all (inl is) =
    let found : last_of known ≡ Some is.stands = ap last_of is.known_is ∙ last_pushed is.before is.stands in
    let named : same row.opening.meter is.stands.opening.meter ≡ true = (bytes_eq-Decides row.opening.meter is.stands.opening.meter).1 is.goes.name in
    let left : is_left is.stands row ≡ true = both_hold (not is.stands.ended) _ (ap not is.goes.goes.unended) named in
    let reported : of_both is.stands row ≡ record { meter = as_one is.stands row; earlier = Some is.stands.total } = cond-true _ _ _ left in
    ap (λ (stands : Option Installation). option_map meter_of (latest stands (Some row))) found
    ∙ ap (λ (it : LatestMeter). Some (meter_of it)) reported
    ∙ sym (ap last_of is.after_is ∙ last_pushed is.before (as_one is.stands row))
reported_of_one known row all (inr is) =
    let P : Installation → Type 0 = λ stands. is_before stands row ≡ true in
    reported_as_new known row (λ front stands at. not_left stands.ended _ _ (last_holds P front stands (subst (All P) at is.earlier)))
    ∙ sym (ap last_of is.after_is ∙ last_pushed known row)

-- The list `rows` ends with a meter whose name has the property `P`.
record EndsAs (rows : List Installation) (P : List ℕ → Type 0) : Type 0 where
  last : Installation
  is : last_of rows ≡ Some last
  named : P last.opening.meter

after_one : (known : List Installation) (row : Installation) (all : List Installation) (P : List ℕ → Type 0) → P row.opening.meter → AddsMeter known row all
    → EndsAs all P
after_one known row all P holds (inl is) = record {
  last = as_one is.stands row;
  is = ap last_of is.after_is ∙ last_pushed is.before (as_one is.stands row);
  named = subst P is.goes.name holds;
}
after_one known row all P holds (inr is) = record { last = row; is = ap last_of is.after_is ∙ last_pushed known row; named = holds }

after_several : (P : List ℕ → Type 0) (known : List Installation) (first : Installation) (rest all : List Installation)
    → All (λ (row : Installation). P row.opening.meter) (first ∷ rest) → AddMeters known (first ∷ rest) all → EndsAs all P
after_several P known first [] all named took =
    let one = after_one known first took.0 P (All-head (λ (row : Installation). P row.opening.meter) first [] named) took.1 in
    subst (λ (rows : List Installation). EndsAs rows P) (sym took.2) one
after_several P known first (next ∷ rest) all named took =
    after_several P took.0 next rest all (All-tail (λ (row : Installation). P row.opening.meter) first (next ∷ rest) named) took.2

comes_last : (mid : List Installation) (row : Installation) (all : List Installation) → EndsAs mid (λ name. row.opening.meter ≢ name) → AddsMeter mid row all
    → last_of all ≡ Some row
comes_last mid row all ends (inl is) =
    let found : Some is.stands ≡ Some ends.last = sym (ap last_of is.known_is ∙ last_pushed is.before is.stands) ∙ ends.is in
    let one : is.stands ≡ ends.last = same_Some is.stands ends.last found in
    absurd (ends.named (is.goes.name ∙ ap (λ (meter : Installation). meter.opening.meter) one))
comes_last mid row all ends (inr is) = ap last_of is.after_is ∙ last_pushed mid row

-- Suppose that the first meter of the current database file was added to the meters of the earlier
-- files. Then no meter of the current file with another name continues the last meter of the
-- earlier files.
first_between : (known : List Installation) (first row : Installation) (next : List Installation) → row.opening.meter ≢ first.opening.meter
    → AddsMeter known first next → (front : List Installation) (stands : Installation) → known ≡ front ++ stands ∷ [] → is_left stands row ≡ false
first_between known first row next other (inl is) front stands at =
    let found : Some is.stands ≡ Some stands =
    sym (ap last_of is.known_is ∙ last_pushed is.before is.stands) ∙ ap last_of at ∙ last_pushed front stands in
    let one : is.stands ≡ stands = same_Some is.stands stands found in
    let named : first.opening.meter ≡ stands.opening.meter = is.goes.name ∙ ap (λ (meter : Installation). meter.opening.meter) one in
    elim (cases_Bool (same row.opening.meter stands.opening.meter)) [
      | inl is_one ↦ absurd (other ((bytes_eq-Decides row.opening.meter stands.opening.meter).0 is_one ∙ sym named))
      | inr isnt ↦ second_fails (not stands.ended) _ isnt
    ]
first_between known first row next other (inr is) front stands at =
    let P : Installation → Type 0 = λ meter. is_before meter first ≡ true in
    not_left stands.ended _ _ (last_holds P front stands (subst (All P) at is.earlier))

reported_of_several : (known : List Installation) (earlier : List Installation) (row : Installation) (mid all : List Installation)
    → All (λ (it : Installation). row.opening.meter ≢ it.opening.meter) earlier → AddMeters known earlier mid → AddsMeter mid row all
    → option_map meter_of (latest_meter known (Some row)) ≡ last_of all
reported_of_several known [] row mid all others took step = reported_of_one known row all (subst (λ (rows : List Installation). AddsMeter rows row all) took step)
reported_of_several known (first ∷ rest) row mid all others took step =
    let P : Installation → Type 0 = λ it. row.opening.meter ≢ it.opening.meter in
    reported_as_new known row (first_between known first row took.0 (All-head P first rest others) took.1)
    ∙ sym (comes_last mid row all (after_several (λ name. row.opening.meter ≢ name) known first rest mid others took) step)

none_reported : (stands : Option Installation) → option_map meter_of (latest stands None) ≡ stands
none_reported None = refl
none_reported (Some stands) = refl

module _ (facts : List Fact) where
  reported_of : (known all : List Installation) (openings : List Opening) → AllPairs (λ (a b : Opening). a.meter ≢ b.meter) openings
      → AddMeters known (map (installation_of facts) (reverse openings)) all
      → option_map meter_of (latest_meter known (option_map (installation_of facts) (slice_get openings 0))) ≡ last_of all
  reported_of known all [] pairs took = none_reported (last_of known) ∙ sym (ap last_of took)
  reported_of known all (opening ∷ openings) pairs took =
      let before = map (installation_of facts) (reverse openings) in
      let row = installation_of facts opening in
      let turned : map (installation_of facts) (reverse (opening ∷ openings)) ≡ before ++ row ∷ [] =
      ap (map (installation_of facts)) (reverse_cons opening openings) ∙ map-append (installation_of facts) (reverse openings) (opening ∷ []) in
      let last = takes_last AddsMeter known all before row (subst (λ (rows : List Installation). AddMeters known rows all) turned took) in
      let differ : All (λ (other : Opening). opening.meter ≢ other.meter) openings = λ k d inside. pairs 0 (suc k) d (omega arith) (omega (arith, inside)) in
      let others = All-map (λ (it : Installation). opening.meter ≢ it.opening.meter) (installation_of facts) (reverse openings)
      (all_turned (λ (other : Opening). opening.meter ≢ other.meter) openings differ) in
      reported_of_several known before row last.0 all others last.1 last.2

pub latest_is_of_all : NamesAreDistinct → LatestIsOfAllFiles
latest_is_of_all distinct = λ register facts known all lawful took.
    let here : Opening → Bool = λ opening. same opening.register register in
    let pairs = AllPairs-filter (λ (a b : Opening). a.meter ≢ b.meter) here (openings_in facts) (distinct facts lawful).meters in
    ap (λ (opening : Option Opening). option_map meter_of (latest_meter known (option_map (installation_of facts) opening))) (found_first here (openings_in facts))
    ∙ reported_of facts known all (filter here (openings_in facts)) pairs took
