-- Lemmas that parsing the rows of a meter returns the values in all of these rows.
use Rattle.std.proofs.Common.{◌≡◌, ◌≢◌, ◌↔◌, ◌<◌, ◌≤◌, ℕ, Bool, true, false, List, [], ◌∷◌, take, length, sym, ap, subst, ◌∙◌, arith}
use Rattle.std.specs.List.{list_all}
use Rattle.sha2.specs.Sha256.{sha256}
use Rattle.interval_core.specs.declared.zone.Zone.{Zone}
use Rattle.meter_journal.specs.declared.audit.rows.TableRow.{TableRow}
use Rattle.sqlite.specs.declared.types.Value.{Value}
use Rattle.sqlite.specs.declared.types.Value.TheVariants.{Text}
use Rattle.sqlite.specs.Order.{Row}
use Rattle.store_tables.proofs.ReadLemmas.{ok_is}
use Rattle.table_audit.specs.declared.rows.MeterRows.{MeterRows}
use Rattle.table_audit.specs.declared.rows.VoidRow.{VoidRow}
use Rattle.table_audit.specs.Reading.{entry_in, all_in}
use Rattle.table_seals.specs.Checking.{HasSealedAs}
use Rattle.table_seals.specs.Months.{HasMonths}
use Rattle.table_seals.specs.Sealed.{Sealed, SealedMonth}
use Rattle.table_seals.specs.Sealing.{IsSealOf}
use Rattle.table_seals.specs.Tables.{HasTerms, HasRead, is_void_among, is_word}
use Rattle.table_seals.specs.Texts.{entries_text}
use Rattle.table_seals.specs.declared.tables.ReadRows.{ReadRows}

-- Lemmas that a row of `installations` has at most one meter name, one accounting register (an
-- energy counter) and one maximum power.

pub same_text : (m n : List ℕ) → (let v : Value = Text m in v) ≡ Text n → m ≡ n
same_text m n h = cc

pub record SameTerms (p : ℕ) (m r : List ℕ) (c : ℕ) (place : ℕ) (meter register : List ℕ) (ceiling : ℕ) : Type 0 where
  pub place_is : p ≡ place
  pub meter_is : m ≡ meter
  pub register_is : r ≡ register
  pub ceiling_is : c ≡ ceiling

pub same_terms : (row : Row) (p : ℕ) (m r : List ℕ) (c : ℕ) (place : ℕ) (meter register : List ℕ) (ceiling : ℕ) → HasTerms row p m r c
    → HasTerms row place meter register ceiling → SameTerms p m r c place meter register ceiling
same_terms row p m r c place meter register ceiling h g = record {
  place_is = ok_is (sym h.place_is ∙ g.place_is);
  meter_is = same_text m meter (sym h.meter_is ∙ g.meter_is);
  register_is = same_text r register (sym h.register_is ∙ g.register_is);
  ceiling_is = ok_is (sym h.ceiling_is ∙ g.ceiling_is);
}

pub terms_there : (row : Row) (p : ℕ) (m r : List ℕ) (c : ℕ) (place : ℕ) (meter register : List ℕ) (ceiling : ℕ) → HasTerms row p m r c
    → p ≡ place → m ≡ meter → r ≡ register → c ≡ ceiling → HasTerms row place meter register ceiling
terms_there row p m r c place meter register ceiling h o q s t =
    subst (λ x. HasTerms row x meter register ceiling) o
    (subst (λ x. HasTerms row p x register ceiling) q (subst (λ x. HasTerms row p m x ceiling) s (subst (λ x. HasTerms row p m r x) t h)))

-- Lemmas on meters that can't be sealed (digested), because a value is out of its range or a name
-- is not a word.

pub true_false : (b : Bool) → b ≡ true → b ≡ false → ⊥
true_false true h g = absurd (cc)
true_false false h g = absurd (cc)

pub meter_no_word : (zone : Zone) (row : Row) (rows : MeterRows) (p : ℕ) (m r : List ℕ) (c : ℕ) → HasTerms row p m r c → is_word m ≡ false
    → (seal : Sealed) → IsSealOf zone row rows seal → ⊥
meter_no_word zone row rows p m r c terms other seal h =
    let same = same_terms row p m r c seal.place seal.meter seal.register seal.ceiling terms h.terms in
    true_false (is_word m) (ap is_word same.meter_is ∙ h.meter_word) other

pub register_no_word : (zone : Zone) (row : Row) (rows : MeterRows) (p : ℕ) (m r : List ℕ) (c : ℕ) → HasTerms row p m r c → is_word r ≡ false
    → (seal : Sealed) → IsSealOf zone row rows seal → ⊥
register_no_word zone row rows p m r c terms other seal h =
    let same = same_terms row p m r c seal.place seal.meter seal.register seal.ceiling terms h.terms in
    true_false (is_word r) (ap is_word same.register_is ∙ h.register_word) other

-- Lemmas on when a meter matches its seal (a digest of earlier entries), by its counter range, void
-- (cancellation) records and entries.

same_ranges : (m n : ℕ) → m ∷ [] ≡ n ∷ [] → m ≡ n
same_ranges m n h = cc

pub record SameRead (range : ℕ) (voids : List VoidRow) (entries : List TableRow) (r : ℕ) (v : List VoidRow) (e : List TableRow) : Type 0 where
  pub range_is : range ≡ r
  pub voids_are : voids ≡ v
  pub entries_are : entries ≡ e

pub same_read : (rows : MeterRows) (range : ℕ) (voids : List VoidRow) (entries : List TableRow) (r : ℕ) (v : List VoidRow) (e : List TableRow)
    → HasRead rows range voids entries → HasRead rows r v e → SameRead range voids entries r v e
same_read rows range voids entries r v e h g =
    let same : voids ≡ v = ok_is (sym h.voids_read ∙ g.voids_read) in
    record {
      range_is = same_ranges range r (ok_is (sym h.range_read ∙ g.range_read));
      voids_are = same;
      entries_are = ok_is (sym h.entries_read ∙ ap (λ (vs : List VoidRow). all_in (entry_in vs) rows.entries.items) same ∙ g.entries_read);
    }

-- A meter whose entries follow from no history that the rules accept can't be sealed.
pub no_months : (zone : Zone) (row : Row) (rows : MeterRows) (p : ℕ) (m r : List ℕ) (c : ℕ) (range : ℕ) (voids : List VoidRow) (entries : List TableRow)
    → HasTerms row p m r c → HasRead rows range voids entries → ((months : List SealedMonth) → HasMonths zone range c entries months → ⊥)
    → (seal : Sealed) → IsSealOf zone row rows seal → ⊥
no_months zone row rows p m r c range voids entries terms read none seal h =
    let same = same_terms row p m r c seal.place seal.meter seal.register seal.ceiling terms h.terms in
    let equal = same_read rows range voids entries seal.range seal.voids h.all_entries read h.read in
    none seal.months
    (subst (λ x. HasMonths zone x c entries seal.months) (sym equal.range_is)
    (subst (λ x. HasMonths zone seal.range x entries seal.months) (sym same.ceiling_is)
    (subst (λ (es : List TableRow). HasMonths zone seal.range seal.ceiling es seal.months) (sym equal.entries_are) h.months)))

pub other_range : (read : ReadRows) (seal : Sealed) → read.range ≢ seal.range → HasSealedAs read seal → ⊥
other_range read seal other h = other h.range

pub too_few : (read : ReadRows) (seal : Sealed) → length read.entries.items < seal.entries → HasSealedAs read seal → ⊥
too_few read seal few h = omega (arith, few, h.enough)

pub not_still : (read : ReadRows) (seal : Sealed) → list_all (λ void. is_void_among read.voids.items void) seal.voids ≡ false → HasSealedAs read seal → ⊥
not_still read seal other h = true_false (list_all (λ void. is_void_among read.voids.items void) seal.voids) h.still other

pub still_there : (read : ReadRows) (seal : Sealed) → read.range ≡ seal.range → seal.entries ≤ length read.entries.items
    → list_all (λ void. is_void_among read.voids.items void) seal.voids ≡ true
    → (sha256 (entries_text (take seal.entries read.entries.items)) ≡ seal.digest) ↔ HasSealedAs read seal
still_there read seal ranges enough still = (
  λ same. record { range = ranges; enough = enough; same = same; still = still },
  λ h. h.same,
)

-- The rows of a meter can be parsed in one way only, so it doesn't matter which parsed rows match
-- the seal.
pub same_sealed : (rows : MeterRows) (read other : ReadRows) (seal : Sealed) → HasRead rows read.range read.voids.items read.entries.items
    → HasRead rows other.range other.voids.items other.entries.items → HasSealedAs other seal → HasSealedAs read seal
same_sealed rows read other seal h g has =
    let same = same_read rows read.range read.voids.items read.entries.items other.range other.voids.items other.entries.items h g in
    record {
      range = same.range_is ∙ has.range;
      enough = subst (λ (es : List TableRow). seal.entries ≤ length es) (sym same.entries_are) has.enough;
      same = ap (λ (es : List TableRow). sha256 (entries_text (take seal.entries es))) same.entries_are ∙ has.same;
      still = ap (λ (vs : List VoidRow). list_all (λ void. is_void_among vs void) seal.voids) same.voids_are ∙ has.still;
    }
