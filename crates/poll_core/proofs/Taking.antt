-- Lemmas about the list of pending polls (without an outcome) after one poll is removed from it.
use Rattle.std.proofs.Common.{◌≡◌, ℕ, suc, ◌+◌, ◌<◌, ◌≤◌, Bool, true, false, cond, not, List, [], ◌∷◌, ◌++◌, length, get_or, refl, sym, ap, ◌∙◌, subst, arith, Option, Some, None}
use Rattle.std.specs.List.{filter, remove}
use Rattle.std.proofs.lemmas.Bool.{cond-false}
use Rattle.poll_core.proofs.Filters.{first_out, length-filter-remove, not_passing}
use Rattle.poll_core.specs.declared.outcome.LostCause.{LostCause}
use Rattle.poll_core.specs.Settling.{alive, silences, losses, Lost}
use Rattle.poll_core.specs.Standing.{owed_by, if_going}
use Rattle.poll_core.specs.Steps.{AreApart, TakesOut, FindsFirst, ReportsOwed}
use Rattle.poll_core.specs.Polls.{Poll, due, has_id}
use Rattle.poll_core.specs.declared.poll.SettledBy.TheVariants as by

pub taken_out : (t : Poll → Bool) (xs ys : List Poll) (i : ℕ) (x : Poll) → FindsFirst t xs (Some i) → x ≡ get_or xs i x → ys ≡ remove xs i → length ys + 1 ≡ length xs → TakesOut t xs (Some x) ys
taken_out t xs ys i x h here e len =
    let p : t x ≡ true = ap t here ∙ h.2 x in
    let f = first_out t xs i x record { inside = h.0; here = here; passes = p; none_before = h.1 } in
    let g : filter t xs ≡ x ∷ filter t ys = f.0 ∙ ap (λ zs. x ∷ filter t zs) (sym e) in
    let k : filter (λ y. not (t y)) ys ≡ filter (λ y. not (t y)) xs = ap (filter (λ y. not (t y))) e ∙ f.1 in
    (g, k, omega arith)

pub taken_out_of : (t : Poll → Bool) (slice xs ys : List Poll) (i : ℕ) (x : Poll) → slice ≡ xs → FindsFirst t slice (Some i) → x ≡ get_or xs i x → ys ≡ remove xs i → length ys + 1 ≡ length xs → TakesOut t xs (Some x) ys
taken_out_of t slice xs ys i x same h = let P : List Poll → Type 0 = λ zs. FindsFirst t zs (Some i) in taken_out t xs ys i x (subst P same h)

pub apart_out : (xs ys : List Poll) (i : ℕ) → ys ≡ remove xs i → AreApart xs → AreApart ys
apart_out xs ys i e h = λ id.
    let l : length (filter (has_id id) (remove xs i)) ≤ length (filter (has_id id) xs) = length-filter-remove (has_id id) xs i in
    let m : length (filter (has_id id) ys) ≡ length (filter (has_id id) (remove xs i)) = ap (λ zs. length (filter (has_id id) zs)) e in
    omega (arith, h id)

-- If no element of a list passes a test, then filtering the list by the opposite test drops
-- nothing.
pub none_passes : {X : Type 0} (t : X → Bool) (xs : List X) → filter t xs ≡ [] → filter (λ x. not (t x)) xs ≡ xs
none_passes t [] h = refl
none_passes t (x ∷ xs) h =
    let failing : t x ≡ false = not_passing t x xs h in
    let others : filter t xs ≡ [] = sym (cond-false _ _ _ failing) ∙ h in
    ap (λ b. cond (not b) (x ∷ filter (λ y. not (t y)) xs) (filter (λ y. not (t y)) xs)) failing ∙ ap (λ ys. x ∷ ys) (none_passes t xs others)

-- If no poll has timed out and the polling session is not over, then the session has no outcome
-- left to report.
pub reports_none : (m : ℕ) (old new : List Poll) → TakesOut (due m) old None new → ReportsOwed m None old None new
reports_none m old new h = (h.0, ap (λ ps. silences ps ++ []) h.1, none_passes (due m) old h.1, λ e. absurd (let f : false ≡ true = e in cc))

-- A polling session without pending polls has no outcome left to report.
pub reports_end : (m : ℕ) (c : LostCause) (old new : List Poll) → TakesOut (due m) old None new → old ≡ [] → ReportsOwed m (Some c) old None new
reports_end m c old new h none =
    let a : alive m old ≡ old = none_passes (due m) old h.1 in
    (h.0, ap (λ ps. owed_by m (Some c) ps) none, a, λ e. none)

-- A poll whose deadline has passed is reported as timed out.
pub reports_due : (m : ℕ) (ending : Option LostCause) (old new : List Poll) (p : Poll) → TakesOut (due m) old (Some p) new → ReportsOwed m ending old (Some (record { poll = p; by = by.Silence })) new
reports_due m ending old new p h = (
  λ frame. ap (λ ps. silences ps ++ losses ending (alive m old)) h.0 ∙ ap (λ ps. silences (p ∷ filter (due m) new) ++ losses ending ps) (sym h.1),
  ap (if_going ending) h.1,
  h.2,
)

-- If no poll has timed out and the polling session is over, the first pending poll is reported as
-- lost.
pub reports_lost : (m : ℕ) (c : LostCause) (old mid new : List Poll) (p : Poll) → TakesOut (due m) old None mid → p ≡ get_or mid 0 p → 0 < length mid → new ≡ remove mid 0 → ReportsOwed m (Some c) old (Some (record { poll = p; by = by.End c })) new
reports_lost m c [] mid new p h here some e = absurd (let l : length mid ≡ 0 = ap length h.0 in omega arith)
reports_lost m c (q ∷ qs) mid new p h here some e =
    let first : p ≡ q = here ∙ ap (λ xs. get_or xs 0 p) h.0 in
    let rest : new ≡ qs = e ∙ ap (λ xs. remove xs 0) h.0 in
    let failing : due m q ≡ false = not_passing (due m) q qs h.1 in
    let none : filter (due m) qs ≡ [] = sym (cond-false _ _ _ failing) ∙ h.1 in
    let all : alive m (q ∷ qs) ≡ q ∷ qs = none_passes (due m) (q ∷ qs) h.1 in
    let all' : alive m qs ≡ qs = none_passes (due m) qs none in
    let now : owed_by m (Some c) (q ∷ qs) ≡ losses (Some c) (q ∷ qs) = ap (λ ps. silences ps ++ losses (Some c) (alive m (q ∷ qs))) h.1 ∙ ap (losses (Some c)) all in
    let later : owed_by m (Some c) qs ≡ losses (Some c) qs = ap (λ ps. silences ps ++ losses (Some c) (alive m qs)) none ∙ ap (losses (Some c)) all' in (
      λ frame. now
          ∙ ap (λ (x : Poll). (x.number, Lost c) ∷ losses (Some c) qs) (sym first)
          ∙ ap (λ xs. (p.number, Lost c) ∷ xs) (sym later ∙ ap (owed_by m (Some c)) (sym rest)),
      refl,
      ap suc (ap length (sym rest)),
    )
