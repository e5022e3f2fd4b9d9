-- Lemmas: adding the meters of a register (a named counter) one after another yields the list of
-- all its meters, or two meters that conflict. Each meter must continue an earlier meter, or begin
-- after the earlier meters were closed.
use Rattle.std.proofs.Common.{◌≡◌, ◌↔◌, ◌&&◌, ℕ, ◌<◌, Bool, true, false, not, List, [], ◌∷◌, length, take, Option, Some, None, inl, inr, refl, sym, subst, ◌∙◌, arith}
use Rattle.std.specs.Prelude.{All, Contains, IsTrue, is_some}
use Rattle.std.specs.List.{find}
use Rattle.std.proofs.lemmas.Bool.{cases_Bool, cond-false, cond-true}
use Rattle.std.proofs.lemmas.List.Elements.{All-cons, All-contains_itself, Contains-append_right}
use Rattle.std.proofs.lemmas.Slice.Eq.{bytes_eq-Decides}
use Rattle.std.specs.Str.{bytes_eq}
use Rattle.meter_journal.specs.Audit.CarriedFiles.{GoesOnAs}
use Rattle.office_events.specs.declared.questions.Installation.{Installation}
use Rattle.carried_books.specs.declared.joining.meters.Apart.{Apart}
use Rattle.office_books.specs.Meters.{installed}
use Rattle.carried_books.specs.Joining.Meters.{AddMeters, AddOrAreApart, AddsMeter, AddsNext, AddsOrIsApart, GoesOn, NoneGoesOn, is_before}

pub find_none : {X : Type 0} (p : X → Bool) (xs : List X) → find p xs ≡ None → All (λ x. p x ≡ false) xs
find_none p [] is = λ k d less. absurd (omega (arith, less))
find_none p (x ∷ xs) is = elim (cases_Bool (p x)) [
  | inl passes ↦ absurd (let e : Some x ≡ None = sym (cond-true _ _ _ passes) ∙ is in cc e)
  | inr fails ↦ All-cons (λ y. p y ≡ false) x xs fails (find_none p xs (sym (cond-false _ _ _ fails) ∙ is))
]

pub find_some : {X : Type 0} (p : X → Bool) (xs : List X) (x : X) → find p xs ≡ Some x → Contains xs x × (p x ≡ true)
find_some p [] x is = absurd (cc is)
find_some p (y ∷ ys) x is = elim (cases_Bool (p y)) [
  | inl passes ↦
      let e : Some y ≡ Some x = sym (cond-true _ _ _ passes) ∙ is in
      let same : y ≡ x = cc e in
      let less : 0 < length (y ∷ ys) = omega arith in
      (subst (Contains (y ∷ ys)) same (All-contains_itself (y ∷ ys) 0 y less), subst (λ z. p z ≡ true) same passes)
  | inr fails ↦
      let rest = find_some p ys x (sym (cond-false _ _ _ fails) ∙ is) in
      (Contains-append_right (y ∷ []) ys x rest.0, rest.1)
]

both_true : (a b : Bool) → (a && b) ≡ true → (a ≡ true) × (b ≡ true)
both_true true b h = (refl, h)
both_true false b h = absurd (cc h)

of_both : (a b : Bool) → a ≡ true → b ≡ true → (a && b) ≡ true
of_both true b p q = q
of_both false b p q = absurd (cc p)

pub goes_on_by : (stands row : Installation) (one goes both : Bool) → both ≡ (one && goes)
    → one ≡ bytes_eq row.opening.meter stands.opening.meter
    → IsTrue goes ↔ GoesOnAs (installed stands.opening) stands.last stands.ended (installed row.opening)
    → IsTrue both ↔ GoesOn stands row
goes_on_by stands row one goes both are is asks =
    let names = bytes_eq-Decides row.opening.meter stands.opening.meter in (
      λ t. let parts = both_true one goes (sym are ∙ t) in record { name = names.0 (sym is ∙ parts.0); goes = asks.0 parts.1 },
      λ h. are ∙ of_both one goes (is ∙ names.1 h.name) (asks.1 h.goes),
    )

not_true : (b : Bool) → not b ≡ true → b ≡ false
not_true true is = absurd (cc is)
not_true false is = refl

not_false : (b : Bool) → not b ≡ false → b ≡ true
not_false true is = refl
not_false false is = absurd (cc is)

pub all_before : (known : List Installation) (row : Installation) → find (λ stands. not (is_before stands row)) known ≡ None
    → All (λ stands. is_before stands row ≡ true) known
all_before known row is = λ k d less. not_false _ (find_none (λ stands. not (is_before stands row)) known is k d less)

pub one_apart : (known : List Installation) (row stands : Installation) → find (λ stands. not (is_before stands row)) known ≡ Some stands
    → Contains known stands × (is_before stands row ≡ false)
one_apart known row stands is =
    let found = find_some (λ stands. not (is_before stands row)) known stands is in
    (found.0, not_true _ found.1)

-- If a meter in a later database file does not continue the last earlier meter, then it begins
-- after all earlier meters were closed, or conflicts with one of them. Meters conflict if they
-- overlap in time or have one name.
pub next_or_apart : (known : List Installation) (row : Installation) (after : List Installation) (apart : Option Apart) → NoneGoesOn known row
    → AddsNext known row after apart → AddsOrIsApart known row after apart
next_or_apart known row after None other adds = inr adds
next_or_apart known row after (Some apart) other adds = record { begins = adds.0; among = adds.1; not_before = adds.2; other = other }

-- Suppose that a meter in a list conflicts with an earlier meter (it overlaps the earlier meter in
-- time or has the same name, and is no continuation). Then the meters of the list can't be added to
-- the earlier meters.
pub apart_among : (known listed mid now after : List Installation) (row : Installation) (begun : List Installation) (apart : Option Apart)
    → is_some apart ≡ true → (n : ℕ) → take n listed ≡ begun → AddMeters known begun mid → Contains listed row → AddsOrIsApart mid row now apart
    → AddOrAreApart known listed after apart
apart_among known listed mid now after row begun None is n same took among adds = absurd (cc is)
apart_among known listed mid now after row begun (Some apart) is n same took among adds = record {
  mid = mid;
  begun = (n, subst (λ (rows : List Installation). AddMeters known rows mid) (sym same) took);
  row = row;
  among = among;
  is = adds;
}

-- If adding a meter to a list of earlier meters returns no conflict, then the meter continues the
-- last earlier meter, or begins after all of them were closed.
pub joined_one : (mid : List Installation) (row : Installation) (now : List Installation) (apart : Option Apart) → is_some apart ≡ false
    → AddsOrIsApart mid row now apart → AddsMeter mid row now
joined_one mid row now None isnt adds = adds
joined_one mid row now (Some apart) isnt adds = absurd (cc isnt)
