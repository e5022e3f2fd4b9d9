-- Proofs about subtracting energy from rows of `intervals`, and about deleting rows of `intervals`.
use Rattle.std.proofs.Common.{◌≡◌, ◌≤◌, ◌<◌, ◌^◌, ◌-◌, ◌-ℤ◌, ◌==◌, inl, inr, ℕ, pos, List, [], ◌∷◌, ◌++◌, map, nat_le, Some, Result, Ok, OnOk, refl, sym, ap, ap₂, subst, ◌∙◌, arith}
use Rattle.std.specs.List.{AllByRecursion}
use Rattle.std.proofs.lemmas.Bool.{cases_Bool}
use Rattle.std.proofs.lemmas.Bool.Decides.{nat_tests}
use Rattle.std.proofs.lemmas.Int.{ints}
use Rattle.sqlite.specs.declared.error.Error.{Error}
use Rattle.sqlite.specs.declared.types.Value.TheVariants.{Int, Text}
use Rattle.sqlite.specs.Order.{Row}
use Rattle.sqlite.specs.Ops.{binary, if_fits}
use Rattle.sqlite.specs.Kind.TheVariants.{Integer}
use Rattle.sqlite.specs.Cast.{cast}
use Rattle.sqlite.specs.State.{State, Executes}
use Rattle.sqlite_sql.specs.declared.ops.BinaryOp.TheVariants.{Arith}
use Rattle.sqlite_sql.specs.declared.ops.ArithOp.TheVariants.{Sub}
use Rattle.interval_core.specs.declared.shares.Share.{Share}
use Rattle.store_tables.specs.Schema.{intervals_table}
use Rattle.store_tables.specs.Content.{Content, HasRows, Edits, changed_where}
use Rattle.store_tables.specs.Steps.{Steps, Turns}
use Rattle.store_tables.specs.Meters.Rows.{greatest_total}
use Rattle.store_tables.proofs.Scans.{text_is, number_is, and_true}
use Rattle.store_tables.proofs.StepLemmas.{on_ok, no_steps, weaker}
use Rattle.store_tables.proofs.OtherTables.{cast_int, rowid_stays}
use Rattle.store_tables.proofs.Updates.{updates, deletes}
use Rattle.office_store.specs.Intervals.Trees.{intervals}
use Rattle.office_store.specs.Intervals.Rows.{Interval, interval_columns, is_at}
use Rattle.office_store.specs.Intervals.StepShares.{EditsIf}
use Rattle.office_store.proofs.IntervalsLemmas.Kept.{Kept, kept_columns, kept_of, is_kept, of_intervals, turns_weaker}
use Rattle.office_store.proofs.StreamsLemmas.Compared.{at_least_is}
use Rattle.office_store.specs.Voids.Withdrawal.{lowered, without_share, without_shares, HasShare, HaveShares, TakesShares, starts_from, DropsRows}
use Rattle.office_store.proofs.VoidsLemmas.Texts as text

-- Lemmas on the effect of the SQL statements that subtract energy from rows of `intervals`, and
-- that delete rows.

-- The row of `intervals` after an UPDATE that subtracted energy in mWh.
abbrev pub takes : (mwh : ℕ) → Kept → Kept
takes mwh k = record { meter = k.meter; start = k.start; energy = cast Integer (binary (Arith Sub) k.energy (Int (pos mwh))) }

abbrev pub taken_from : (meter : List ℕ) → (start mwh : ℕ) → List Kept → List Kept
taken_from meter start mwh ks = changed_where (is_kept meter start) (takes mwh) ks

abbrev pub take_params : (meter : List ℕ) → (start mwh : ℕ) → Row
take_params meter start mwh = Text meter ∷ Int (pos start) ∷ Int (pos mwh) ∷ []

takes_kept : (meter : List ℕ) (start mwh : ℕ) (old new : State) (r : Result ℕ Error) → Executes text.take_share (take_params meter start mwh) old new r
    → OnOk r (Turns (Edits intervals kept_columns (taken_from meter start mwh)) old.now new.now)
takes_kept meter start mwh old new r h =
    updates intervals_table 9 refl (take_params meter start mwh) text.take_share_tests text.take_share_news kept_columns (is_kept meter start) (takes mwh)
    (λ n k. rw (text_is k.meter meter, number_is k.start start, and_true (k.start == start)) refl) (λ n k. simp cast_int) rowid_stays
    old new text.take_share r text.take_share_is text.take_share_plain h

pub drop_from : (meter : List ℕ) (from : ℕ) (old new : State) (r : Result ℕ Error) → Executes text.drop_from (Text meter ∷ Int (pos from) ∷ []) old new r → OnOk r (Turns (DropsRows meter from) old.now new.now)
drop_from meter from old new r h =
    deletes intervals_table 9 refl (Text meter ∷ Int (pos from) ∷ []) text.drop_from_tests interval_columns (starts_from meter from)
    (λ n i. rw (text_is i.meter meter, at_least_is i.share.start from, and_true (nat_le from i.share.start)) refl) old new text.drop_from r text.drop_from_is text.drop_from_plain h

-- Lemmas that SQLite's difference of two energies in mWh is exact, because both energies are less
-- than 2^63.

fits : (n : ℕ) → n < 2 ^ 63 → if_fits (pos n) ≡ Some (pos n)
fits n h = grind (arith, nat_tests)

left_is : (a b : ℕ) → b ≤ a → pos a -ℤ pos b ≡ pos (a - b)
left_is a b le = omega (arith, ints, le)

difference_is : (a b : ℕ) → b ≤ a → a < 2 ^ 63 → binary (Arith Sub) (Int (pos a)) (Int (pos b)) ≡ Int (pos (a - b))
unfolding binary
difference_is a b le h = rw (left_is a b le, fits (a - b) (omega (arith, le, h)))

-- An UPDATE that subtracts energy from a row of `intervals` stores the reduced energy.

one_taken : (mwh : ℕ) (i : Interval) → mwh ≤ i.share.mwh → i.share.mwh ≤ greatest_total → takes mwh (kept_of i) ≡ kept_of (lowered mwh i)
one_taken mwh i le small =
    ap (λ v. record { meter = i.meter; start = i.share.start; energy = cast Integer v }) (difference_is i.share.mwh mwh le (omega (arith, small)))
    ∙ ap (λ v. record { meter = i.meter; start = i.share.start; energy = v }) (cast_int (pos (i.share.mwh - mwh)))

all_taken : (meter : List ℕ) (share : Share) (is : List Interval) → AllByRecursion (HasShare meter share) is
    → taken_from meter share.start share.mwh (map kept_of is) ≡ map kept_of (without_share meter share is)
all_taken meter share [] has = refl
all_taken meter share (i ∷ is) has = elim (cases_Bool (is_at meter share.start i)) [
  | inl here ↦ let at = has.0 here in rw here (ap₂ ◌∷◌ (one_taken share.mwh i at.0 at.1) (all_taken meter share is has.1))
  | inr off ↦ rw off (ap (λ ks. kept_of i ∷ ks) (all_taken meter share is has.1))
]

pub take_share : (meter : List ℕ) (share : Share) (old new : State) (r : Result ℕ Error) → Executes text.take_share (take_params meter share.start share.mwh) old new r
    → OnOk r (Turns (TakesShares meter (share ∷ [])) old.now new.now)
take_share meter share old new r h =
    on_ok r (turns_weaker _ _ old.now new.now (λ content after. of_intervals (HaveShares meter (share ∷ [])) (without_shares meter (share ∷ [])) (taken_from meter share.start share.mwh) content after (λ is has. all_taken meter share is has.0)))
    (takes_kept meter share.start share.mwh old new r h)

-- Two subtractions of energy from `intervals`, one after the other, have the effect of one combined
-- edit.

edits_then : (May One Two : List Interval → Type 0) (all one two : List Interval → List Interval)
    → ((is : List Interval) → May is → One is × Two (one is) × (two (one is) ≡ all is)) → (x y z : Content) → EditsIf One one x y → EditsIf Two two y z → EditsIf May all x z
edits_then May One Two all one two goes x y z first second = record {
  rows = λ is has may.
      let it = goes is may in
      subst (λ js. HasRows intervals interval_columns js z) it.2 (second.rows (one is) (first.rows is has it.0) it.1);
  others = λ t off. second.others t off ∙ first.others t off;
}

no_edit : (May : List Interval → Type 0) (content after : Content) → after ≡ content → EditsIf May (λ is. is) content after
no_edit May content after same = record {
  rows = λ is has may. subst (HasRows intervals interval_columns is) (sym same) has;
  others = λ t off. ap (λ (f : Content). f t) same;
}

have_each : (meter : List ℕ) (shares : List Share) (share : Share) (is : List Interval) → HaveShares meter (shares ++ share ∷ []) is
    → HaveShares meter shares is × HaveShares meter (share ∷ []) (without_shares meter shares is)
have_each meter [] share is has = (tt, has)
have_each meter (s ∷ shares) share is has = let rest = have_each meter shares share (without_share meter s is) has.1 in ((has.0, rest.0), rest.1)

without_one_more : (meter : List ℕ) (shares : List Share) (share : Share) (is : List Interval) → without_share meter share (without_shares meter shares is) ≡ without_shares meter (shares ++ share ∷ []) is
without_one_more meter [] share is = refl
without_one_more meter (s ∷ shares) share is = without_one_more meter shares share (without_share meter s is)

pub taken_then : (meter : List ℕ) (shares : List Share) (share : Share) (x y z : Content) → TakesShares meter shares x y → TakesShares meter (share ∷ []) y z → TakesShares meter (shares ++ share ∷ []) x z
taken_then meter shares share =
    edits_then (HaveShares meter (shares ++ share ∷ [])) (HaveShares meter shares) (HaveShares meter (share ∷ []))
    (without_shares meter (shares ++ share ∷ [])) (without_shares meter shares) (without_share meter share)
    (λ is has. let both = have_each meter shares share is has in (both.0, both.1, without_one_more meter shares share is))

pub nothing_taken : (meter : List ℕ) (a : State) → Steps {X = Unit {0}} {E = Error} a a (Ok tt) (TakesShares meter [])
nothing_taken meter a = weaker a a (Ok tt) _ _ (turns_weaker _ _ a.now a.now (no_edit (λ is. Unit {0}))) (no_steps a tt)
