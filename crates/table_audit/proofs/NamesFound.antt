-- Lemmas on the discrepancies of devices, points and registers: those of all rows are those of each
-- row, one after another, and rows with valid names and values have none.
use Rattle.std.proofs.Common.{◌≡◌, ◌↔◌, ◌+◌, ◌<◌, ◌≤◌, ℕ, suc, Bool, true, false, List, [], ◌∷◌, ◌++◌, drop, length, get_or, if◌then◌else◌, refl, sym, ap, ◌∙◌, append_assoc, add-one}
use Rattle.std.specs.List.{list_all}
use Rattle.std.proofs.Math.Seq.{drop-cons}
use Rattle.std.proofs.Math.ListN.{drop_of_length-le}
use Rattle.std.proofs.lemmas.Bool.{and_parts, and_from}
use Rattle.sqlite.specs.Order.{Row}
use Rattle.table_audit.specs.declared.differences.Difference.{Difference}
use Rattle.table_audit.specs.declared.differences.Difference.TheVariants.{Unnamed, Unreadable}
use Rattle.table_audit.specs.declared.differences.NamedTable.{NamedTable}
use Rattle.table_audit.specs.declared.differences.NamedTable.TheVariants as table
use Rattle.table_audit.specs.declared.findings.Findings.{Findings}
use Rattle.table_audit.specs.DeviceValues.{has_values}
use Rattle.table_audit.specs.Named.{IsReported}
use Rattle.table_audit.specs.Names.{has_name, unnamed_row, unreadable_row, of_each, unnamed_in, unreadable_in, found_in_all, AreReadable}
use Rattle.table_audit.proofs.Named.{append_none, both_none, reported_none, none_so_reported}

-- Lemmas on the loop over the rows of one table.

pub each_more : (f : ℕ → Row → List Difference) (rows : List Row) (i n : ℕ) (row : Row) (found next all : List Difference) → i < length rows → row ≡ get_or rows i row → n ≡ i + 1
    → found ++ of_each f (i + 1) (drop i rows) ≡ all → next ≡ found ++ f n row
    → next ++ of_each f (i + 1 + 1) (drop (i + 1) rows) ≡ all
each_more f rows i n row found next all inside is numbered so_far put =
    let one : of_each f (i + 1) (drop i rows) ≡ f n row ++ of_each f (i + 1 + 1) (drop (i + 1) rows) =
    ap (of_each f (i + 1)) (drop-cons rows i row inside)
    ∙ ap (λ (r : Row). f (i + 1) r ++ of_each f (suc (i + 1)) (drop (suc i) rows)) (sym is)
    ∙ ap (λ m. f m row ++ of_each f (suc (i + 1)) (drop (suc i) rows)) (sym numbered)
    ∙ ap (λ m. f n row ++ of_each f m (drop (suc i) rows)) (sym (add-one (i + 1)))
    ∙ ap (λ m. f n row ++ of_each f (i + 1 + 1) (drop m rows)) (sym (add-one i)) in
    ap (λ (l : List Difference). l ++ of_each f (i + 1 + 1) (drop (i + 1) rows)) put
    ∙ append_assoc found (f n row) (of_each f (i + 1 + 1) (drop (i + 1) rows))
    ∙ ap (λ (l : List Difference). found ++ l) (sym one) ∙ so_far

pub each_done : (f : ℕ → Row → List Difference) (rows : List Row) (i : ℕ) (found all : List Difference) → length rows ≤ i
    → found ++ of_each f (i + 1) (drop i rows) ≡ all → found ≡ all
each_done f rows i found all past so_far =
    sym (append_none found) ∙ sym (ap (λ (rs : List Row). found ++ of_each f (i + 1) rs) (drop_of_length-le rows past)) ∙ so_far

-- Lemmas: the rows of a table have no discrepancy if and only if each of them has a valid name.

none_row : (t : NamedTable) (n : ℕ) (row : Row) (b : Bool) → b ≡ has_name t row → (let ds : List Difference = if b then [] else Unnamed t n ∷ [] in ds) ≡ [] → b ≡ true
none_row t n row true is none = refl
none_row t n row false is none = absurd (let g : Unnamed t n ∷ [] ≡ [] = none in cc)

row_none : (t : NamedTable) (n : ℕ) (b : Bool) → b ≡ true → (let ds : List Difference = if b then [] else Unnamed t n ∷ [] in ds) ≡ []
row_none t n b is = ap (λ (x : Bool). let ds : List Difference = if x then [] else Unnamed t n ∷ [] in ds) is

none_unnamed : (t : NamedTable) (n : ℕ) (rows : List Row) → of_each (unnamed_row t) n rows ≡ [] → list_all (has_name t) rows ≡ true
none_unnamed t n [] none = refl
none_unnamed t n (row ∷ rows) none =
    let two = both_none (unnamed_row t n row) (of_each (unnamed_row t) (suc n) rows) none in
    and_from (has_name t row) (list_all (has_name t) rows) (none_row t n row (has_name t row) refl two.0) (none_unnamed t (suc n) rows two.1)

named_none : (t : NamedTable) (n : ℕ) (rows : List Row) → list_all (has_name t) rows ≡ true → of_each (unnamed_row t) n rows ≡ []
named_none t n [] all = refl
named_none t n (row ∷ rows) all =
    let two = and_parts (has_name t row) (list_all (has_name t) rows) all in
    ap (λ (ds : List Difference). ds ++ of_each (unnamed_row t) (suc n) rows) (row_none t n (has_name t row) two.0) ∙ named_none t (suc n) rows two.1

-- Lemmas: rows with valid names have no discrepancy if and only if all their other values are in
-- their ranges.

abbrev unreadable_if : (t : NamedTable) (n : ℕ) → (named valid : Bool) → List Difference
unreadable_if t n named valid = if named then (if valid then [] else Unreadable t n ∷ []) else []

none_value : (t : NamedTable) (n : ℕ) (named valid : Bool) → named ≡ true → unreadable_if t n named valid ≡ [] → valid ≡ true
none_value t n true true is none = refl
none_value t n true false is none = absurd (let g : Unreadable t n ∷ [] ≡ [] = none in cc)
none_value t n false valid is none = absurd (let g : false ≡ true = is in cc)

value_none : (t : NamedTable) (n : ℕ) (named valid : Bool) → named ≡ true → valid ≡ true → unreadable_if t n named valid ≡ []
value_none t n true true is all = refl
value_none t n true false is all = absurd (let g : false ≡ true = all in cc)
value_none t n false valid is all = absurd (let g : false ≡ true = is in cc)

none_unreadable : (t : NamedTable) (n : ℕ) (rows : List Row) → list_all (has_name t) rows ≡ true → of_each (unreadable_row t) n rows ≡ [] → list_all (has_values t) rows ≡ true
none_unreadable t n [] named none = refl
none_unreadable t n (row ∷ rows) named none =
    let two = both_none (unreadable_row t n row) (of_each (unreadable_row t) (suc n) rows) none in
    let names = and_parts (has_name t row) (list_all (has_name t) rows) named in
    and_from (has_values t row) (list_all (has_values t) rows) (none_value t n (has_name t row) (has_values t row) names.0 two.0) (none_unreadable t (suc n) rows names.1 two.1)

valid_none : (t : NamedTable) (n : ℕ) (rows : List Row) → list_all (has_name t) rows ≡ true → list_all (has_values t) rows ≡ true → of_each (unreadable_row t) n rows ≡ []
valid_none t n [] named all = refl
valid_none t n (row ∷ rows) named all =
    let names = and_parts (has_name t row) (list_all (has_name t) rows) named in
    let values = and_parts (has_values t row) (list_all (has_values t) rows) all in
    ap (λ (ds : List Difference). ds ++ of_each (unreadable_row t) (suc n) rows) (value_none t n (has_name t row) (has_values t row) names.0 values.0)
    ∙ valid_none t (suc n) rows names.1 values.1

-- Lemmas on lists of discrepancies, one after another.

none_both : (ds es : List Difference) → ds ≡ [] → es ≡ [] → ds ++ es ≡ []
none_both ds es d e = ap (λ (l : List Difference). l ++ es) d ∙ e

found_none : (devices points registers : List Row) → found_in_all devices points registers ≡ [] → AreReadable devices points registers
found_none devices points registers none =
    let four = both_none (unnamed_in table.Devices devices ++ unnamed_in table.Points points ++ unnamed_in table.Registers registers ++ unreadable_in table.Devices devices)
    (unreadable_in table.Registers registers) none in
    let three = both_none (unnamed_in table.Devices devices ++ unnamed_in table.Points points ++ unnamed_in table.Registers registers) (unreadable_in table.Devices devices) four.0 in
    let two = both_none (unnamed_in table.Devices devices ++ unnamed_in table.Points points) (unnamed_in table.Registers registers) three.0 in
    let one = both_none (unnamed_in table.Devices devices) (unnamed_in table.Points points) two.0 in
    let devices_named = none_unnamed table.Devices 1 devices one.0 in
    let registers_named = none_unnamed table.Registers 1 registers two.1 in
    record {
      devices_named = devices_named;
      points_named = none_unnamed table.Points 1 points one.1;
      registers_named = registers_named;
      devices_valid = none_unreadable table.Devices 1 devices devices_named three.1;
      registers_valid = none_unreadable table.Registers 1 registers registers_named four.1;
    }

none_found : (devices points registers : List Row) → AreReadable devices points registers → found_in_all devices points registers ≡ []
none_found devices points registers all =
    let one = none_both (unnamed_in table.Devices devices) (unnamed_in table.Points points)
    (named_none table.Devices 1 devices all.devices_named) (named_none table.Points 1 points all.points_named) in
    let two = none_both (unnamed_in table.Devices devices ++ unnamed_in table.Points points) (unnamed_in table.Registers registers)
    one (named_none table.Registers 1 registers all.registers_named) in
    let three = none_both (unnamed_in table.Devices devices ++ unnamed_in table.Points points ++ unnamed_in table.Registers registers) (unreadable_in table.Devices devices)
    two (valid_none table.Devices 1 devices all.devices_named all.devices_valid) in
    none_both (unnamed_in table.Devices devices ++ unnamed_in table.Points points ++ unnamed_in table.Registers registers ++ unreadable_in table.Devices devices)
    (unreadable_in table.Registers registers) three (valid_none table.Registers 1 registers all.registers_named all.registers_valid)

pub names_reported : (devices points registers : List Row) (old new : Findings) → IsReported (found_in_all devices points registers) old new
    → (new.first.items ≡ []) ↔ ((old.first.items ≡ []) × AreReadable devices points registers)
names_reported devices points registers old new reported = (
  λ none.
      let two = reported_none (found_in_all devices points registers) old new reported none in
      (two.0, found_none devices points registers two.1),
  λ all. none_so_reported (found_in_all devices points registers) old new reported all.0 (none_found devices points registers all.1),
)
