-- Proofs that a meter's rows in `entries` determine its opening (the first entry) and its later
-- history.
use Rattle.std.proofs.Common.{◌≡◌, ℕ, ℤ, ◌+◌, ◌≤◌, Bool, true, false, not, List, [], ◌∷◌, length, inl, inr, refl, sym, ap, ap₂, ◌∙◌, Option, Some, None, arith}
use Rattle.std.specs.List.{AllByRecursion}
use Rattle.sqlite_keyed.proofs.ListLemmas.{all_weaker}
use Rattle.energy_core.specs.declared.entries.Entry.{Entry}
use Rattle.energy_core.specs.declared.entries.Entry.TheVariants as entry
use Rattle.energy_core.specs.Account.{moment_of, last_of}
use Rattle.meter_journal.specs.declared.lines.EntryRow.{EntryRow}
use Rattle.meter_journal.specs.declared.lines.EntryKind as journal
use Rattle.meter_journal.specs.declared.lines.EntryKind.TheVariants as from
use Rattle.meter_journal.specs.Journal.{Journal}
use Rattle.meter_journal.specs.Lists.{AreNumbered}
use Rattle.meter_journal.specs.Standing.{is_voided}
use Rattle.meter_journal.proofs.Keeping.{entries_standing}
use Rattle.office_events.specs.declared.facts.Opening.{Opening}
use Rattle.office_books.specs.Meters.{opened}
use Rattle.store_tables.specs.declared.entries.rows.EntryKind.{EntryKind}
use Rattle.store_tables.specs.declared.entries.rows.EntryKind.TheVariants as kind
use Rattle.store_tables.specs.Entries.Rows.{Entered, entry_place}
use Rattle.office_store.specs.Rows.{kind_as, raw_of, rolls_of, after_of, entry_row, opening_row, entered, scale_after, entered_rows}
use Rattle.office_store.proofs.LawsLemmas.Lists.{Among, InOrder, undone}
use Rattle.office_store.proofs.LawsLemmas.Journals.{is_change, sets, IsFormed, StandsBy}
use Rattle.office_store.proofs.LawsLemmas.Placed.{Falls}

-- The kind of a meter entry in the store's records, from its kind in the table `entries`. None for
-- the opening, the meter's first entry.
kind_from : EntryKind → Option journal.EntryKind
kind_from kind.Opening = None
kind_from kind.Reading = Some from.Reading
kind_from kind.Manual = Some from.Manual
kind_from kind.Closing = Some from.Closing
kind_from kind.Reset = Some from.Reset
kind_from kind.Rescale = Some from.Rescale

kind_back : (k : journal.EntryKind) → kind_from (kind_as k) ≡ Some k
unfolding kind_from
kind_back from.Reading = refl
kind_back from.Manual = refl
kind_back from.Closing = refl
kind_back from.Reset = refl
kind_back from.Rescale = refl

-- True if a meter entry that sets the counter (a reset, or a change of scale) sets the given scale
-- factor. Always true for any other meter entry.
abbrev HasScale : Entry → ℤ → Type 0
HasScale (entry.Step at raw rolls) sf = Unit {0}
HasScale (entry.Change at before new set) sf = set ≡ sf

scale_by : (o : Opening) (place : ℕ) (k : journal.EntryKind) (e : Entry) (stands : Bool) (rows : List EntryRow) → (is_change e ≡ true → stands ≡ true)
    → HasScale e (scale_after o (record { place = place; kind = k; entry = e; stands = stands } ∷ rows))
scale_by o place k (entry.Step at raw rolls) stands rows h = tt
scale_by o place k (entry.Change at before new set) stands rows h =
    let row : EntryRow = record { place = place; kind = k; entry = entry.Change at before new set; stands = stands } in
    sym (ap (λ es. (last_of (opened o) es).sf) (entries_standing row rows (h refl)))

-- If two meter entries of the same kind have equal columns in the table `entries`, the entries are
-- equal.
entry_reported : (k : journal.EntryKind) (a b : Entry) (sf : ℤ) → sets k ≡ is_change a → sets k ≡ is_change b → HasScale a sf → HasScale b sf
    → moment_of a ≡ moment_of b → raw_of a ≡ raw_of b → rolls_of a ≡ rolls_of b → after_of a ≡ after_of b → a ≡ b
entry_reported k (entry.Step at raw rolls) (entry.Step at' raw' rolls') sf p q s t moment r turns after = λ i. entry.Step (moment i) (r i) (turns i)
entry_reported k (entry.Step at raw rolls) (entry.Change at' before new set) sf p q s t moment r turns after = absurd (let e : false ≡ true = sym p ∙ q in cc)
entry_reported k (entry.Change at before new set) (entry.Step at' raw' rolls') sf p q s t moment r turns after = absurd (let e : true ≡ false = sym p ∙ q in cc)
entry_reported k (entry.Change at before new set) (entry.Change at' before' new' set') sf p q s t moment r turns after =
    let scale : set ≡ set' = s ∙ sym t in λ i. entry.Change (moment i) (r i) (after i) (scale i)

-- True if two meter histories mark the same entries as voided (cancelled).
abbrev pub SameVoids : Journal → Journal → Type 0
SameVoids lines others = (place : ℕ) → is_voided place lines ≡ is_voided place others

module _ (o : Opening) (lines others : Journal) (voids : SameVoids lines others) where
  abbrev row_in : EntryRow → List EntryRow → Entered
  row_in a rows = entered o.meter (entry_row (scale_after o (a ∷ rows)) a)

  row_reported : (a b : EntryRow) (xs ys : List EntryRow) → row_in a xs ≡ row_in b ys → IsFormed a → IsFormed b → StandsBy lines a → StandsBy others b → a ≡ b
  row_reported a b xs ys e p q s t =
      let place : a.place ≡ b.place = λ i. (e i).entry.place in
      let kind : a.kind ≡ b.kind = undone kind_as kind_from kind_back _ _ (λ i. (e i).entry.kind) in
      let sf : scale_after o (a ∷ xs) ≡ scale_after o (b ∷ ys) = λ i. (e i).entry.sf in
      let mine : HasScale a.entry (scale_after o (a ∷ xs)) = scale_by o a.place a.kind a.entry a.stands xs p.stands in
      let theirs : HasScale b.entry (scale_after o (a ∷ xs)) =
      scale_turned b.entry (sym sf) (scale_by o b.place b.kind b.entry b.stands ys q.stands) in
      let entry : a.entry ≡ b.entry =
      entry_reported a.kind a.entry b.entry (scale_after o (a ∷ xs)) p.kind (ap sets kind ∙ q.kind) mine theirs
      (λ i. (e i).entry.moment) (λ i. (e i).entry.raw) (λ i. (e i).entry.rolls) (λ i. (e i).entry.after) in
      let stands : a.stands ≡ b.stands = s ∙ ap not (voids a.place ∙ ap (λ n. is_voided n others) place) ∙ sym t in
      λ i. record { place = place i; kind = kind i; entry = entry i; stands = stands i }
    where
      scale_turned : (x : Entry) {m n : ℤ} → m ≡ n → HasScale x m → HasScale x n
      scale_turned (entry.Step at raw rolls) e h = tt
      scale_turned (entry.Change at before new set) e h = h ∙ e

  none_empty : (xs : List EntryRow) → [] ≡ entered_rows o xs → ⊥
  none_empty [] e = cc
  none_empty (x ∷ xs) e = cc

  pub rows_reported : (xs ys : List EntryRow) → entered_rows o xs ≡ entered_rows o ys → AllByRecursion IsFormed xs → AllByRecursion IsFormed ys
      → AllByRecursion (StandsBy lines) xs → AllByRecursion (StandsBy others) ys → xs ≡ ys
  rows_reported [] [] e p q s t = refl
  rows_reported [] (y ∷ ys) e p q s t = absurd (none_empty ys (let rest : [] ≡ entered_rows o ys = cc in rest))
  rows_reported (x ∷ xs) [] e p q s t = absurd (none_empty xs (let rest : [] ≡ entered_rows o xs = cc in rest))
  rows_reported (x ∷ xs) (y ∷ ys) e p q s t =
      let head : row_in x xs ≡ row_in y ys = cc in
      let rest : entered_rows o xs ≡ entered_rows o ys = cc in
      ap₂ ◌∷◌ (row_reported x y xs ys head p.0 q.0 s.0 t.0) (rows_reported xs ys rest p.1 q.1 s.1 t.1)

-- Lemmas that the rows of a meter's entries have distinct indices, and that the row with index 1 is
-- the meter's first entry.

few : (o : Opening) (n : ℕ) (xs : List EntryRow) → AreNumbered xs → length xs + 1 ≤ n → AllByRecursion (λ e. entry_place e ≤ n) (entered_rows o xs)
few o n [] h le = (omega arith, tt)
few o n (x ∷ xs) h le = (let is = h.0 in omega (arith, is), few o n xs h.1 (omega arith))

pub entries_fall : (o : Opening) (xs : List EntryRow) → AreNumbered xs → InOrder (Falls entry_place) (entered_rows o xs)
entries_fall o [] h = (tt, tt)
entries_fall o (x ∷ xs) h = (
  let is = h.0 in
      all_weaker (λ e. entry_place e ≤ length xs + 1) (Falls entry_place (entered o.meter (entry_row (scale_after o (x ∷ xs)) x)))
      (λ e le. omega (arith, is)) (entered_rows o xs) (few o (length xs + 1) xs h.1 (omega arith)),
  entries_fall o xs h.1,
)

pub opening_among : (o : Opening) (xs : List EntryRow) → Among (entered o.meter (opening_row o)) (entered_rows o xs)
opening_among o [] = inl refl
opening_among o (x ∷ xs) = inr (opening_among o xs)

-- If a meter's entry has index 1, it is the opening, the first entry of the meter.
pub first_entry : (o : Opening) (xs : List EntryRow) (e : Entered) → AreNumbered xs → Among e (entered_rows o xs) → entry_place e ≡ 1 → e ≡ entered o.meter (opening_row o)
first_entry o [] e h (inl is) one = is
first_entry o [] e h (inr there) one = absurd there
first_entry o (x ∷ xs) e h (inl is) one =
    let place : entry_place e ≡ x.place = λ i. entry_place (is i) in
    let number = h.0 in absurd (omega (arith, place, number, one))
first_entry o (x ∷ xs) e h (inr there) one = first_entry o xs e h.1 there one
