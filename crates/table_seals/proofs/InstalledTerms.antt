-- Lemmas on the ordered set of the terms (name, register, maximum power) of all rows of
-- `installations`.
use Rattle.std.proofs.Common.{◌≡◌, ◌↔◌, ◌⊎◌, ℕ, ◌+◌, ◌-◌, ◌<◌, Bool, true, false, cond, List, [], ◌∷◌, ◌++◌, take, length, get_or, Some, None, inl, inr, refl, sym, ap, subst, ◌∙◌, length-append, string_bytes, arith}
use Rattle.std.specs.Prelude.{IsTrue, Any}
use Rattle.std.specs.BTreeSet.{BTreeSet}
use Rattle.std.specs.Cmp.Lexicographic.{slice_cmp}
use Rattle.std.specs.Ordering.{is_eq, nat_cmp, ordering_then}
use Rattle.std.specs.declared.cmp.Ordering.{Ordering}
use Rattle.std.specs.declared.cmp.Ordering.TheVariants.{Less, Equal, Greater}
use Rattle.std.proofs.lemmas.Bool.{cases_lt}
use Rattle.std.proofs.lemmas.Cmp.{tied_itself, nat_cmp_total, nat_list_cmp_total}
use Rattle.std.proofs.lemmas.List.{take_more, get_or_append_left, get_or-append_right}
use Rattle.std.proofs.lemmas.List.Quantifiers.{Any-push}
use Rattle.std.specs.List.{list_any}
use Rattle.std.proofs.lemmas.Map.Lookups.{exact_bytes, exact_unsigned}
use Rattle.interval_core.specs.declared.zone.Zone.{Zone}
use Rattle.sqlite.specs.Order.{Row}
use Rattle.table_audit.specs.declared.rows.MeterRows.{MeterRows}
use Rattle.table_seals.specs.Checking.{HasSealedAs}
use Rattle.table_seals.specs.Installed.{AddsTerms, AddsTermsOf, AreSame, AreTermsOf, ChecksRows, ReportsInstalled, has_terms, terms_cmp}
use Rattle.table_seals.specs.Notes.{PrintsNotes}
use Rattle.table_seals.specs.Sealed.{Sealed}
use Rattle.table_seals.specs.Tables.{HasRead, HasTerms, RowsAreRead, TermsAreRead}
use Rattle.table_seals.specs.declared.tables.ReadRows.{ReadRows}
use Rattle.table_seals.specs.declared.tables.Terms.{Terms}
use Rattle.table_seals.proofs.Read.{same_sealed, same_terms, terms_there}

-- Lemmas that the terms of two meters compare as equal if and only if their names, accounting
-- registers (energy counters) and maximum powers are equal.

is_equal : (o : Ordering) → is_eq o ≡ true → o ≡ Equal
is_equal Less h = absurd (cc h)
is_equal Equal h = refl
is_equal Greater h = absurd (cc h)

first_equal : (o next : Ordering) → ordering_then o next ≡ Equal → o ≡ Equal
first_equal Less next h = absurd (cc h)
first_equal Equal next h = refl
first_equal Greater next h = absurd (cc h)

next_equal : (o next : Ordering) → ordering_then o next ≡ Equal → next ≡ Equal
next_equal Less next h = absurd (cc h)
next_equal Equal next h = h
next_equal Greater next h = absurd (cc h)

both_equal : (o next : Ordering) → o ≡ Equal → next ≡ Equal → ordering_then o next ≡ Equal
both_equal o next is then = ap (λ (first : Ordering). ordering_then first next) is ∙ then

pub same_by_order : (a b : Terms) → is_eq (terms_cmp a b) ≡ true → AreSame a b
same_by_order a b h =
    let meters : Ordering = slice_cmp nat_cmp (string_bytes a.meter) (string_bytes b.meter) in
    let registers : Ordering = slice_cmp nat_cmp (string_bytes a.register) (string_bytes b.register) in
    let ceilings : Ordering = nat_cmp a.ceiling b.ceiling in
    let places : Ordering = nat_cmp a.place b.place in
    let numbers : Ordering = ordering_then ceilings places in
    let all : ordering_then meters (ordering_then registers numbers) ≡ Equal = is_equal _ h in
    let rest : ordering_then registers numbers ≡ Equal = next_equal meters (ordering_then registers numbers) all in
    let last : numbers ≡ Equal = next_equal registers numbers rest in
    record {
      meter = exact_bytes _ _ (first_equal meters (ordering_then registers numbers) all);
      register = exact_bytes _ _ (first_equal registers numbers rest);
      ceiling = exact_unsigned _ _ (first_equal ceilings places last);
      place = exact_unsigned _ _ (next_equal ceilings places last);
    }

tied_bytes : (xs ys : List ℕ) → xs ≡ ys → slice_cmp nat_cmp xs ys ≡ Equal
tied_bytes xs ys is = subst (λ (zs : List ℕ). slice_cmp nat_cmp xs zs ≡ Equal) is (tied_itself nat_list_cmp_total xs)

tied_numbers : (m n : ℕ) → m ≡ n → nat_cmp m n ≡ Equal
tied_numbers m n is = subst (λ (k : ℕ). nat_cmp m k ≡ Equal) is (tied_itself nat_cmp_total m)

pub order_of_same : (a b : Terms) → AreSame a b → is_eq (terms_cmp a b) ≡ true
order_of_same a b same =
    let meters : Ordering = slice_cmp nat_cmp (string_bytes a.meter) (string_bytes b.meter) in
    let registers : Ordering = slice_cmp nat_cmp (string_bytes a.register) (string_bytes b.register) in
    let ceilings : Ordering = nat_cmp a.ceiling b.ceiling in
    let places : Ordering = nat_cmp a.place b.place in
    let numbers : Ordering = ordering_then ceilings places in
    let all : ordering_then meters (ordering_then registers numbers) ≡ Equal =
    both_equal meters (ordering_then registers numbers) (tied_bytes _ _ same.meter)
    (both_equal registers numbers (tied_bytes _ _ same.register)
    (both_equal ceilings places (tied_numbers _ _ same.ceiling) (tied_numbers _ _ same.place))) in
    ap is_eq all

-- Lemmas: if a meter's terms (name, register, maximum power) are added to the ordered set of all
-- meters' terms, the new set has the old terms and these terms.

either_true : (b c : Bool) → cond b true c ≡ true → (b ≡ true) ⊎ (c ≡ true)
either_true true c h = inl refl
either_true false c h = inr h

of_either : (b c : Bool) → (b ≡ true) ⊎ (c ≡ true) → cond b true c ≡ true
of_either true c h = refl
of_either false c (inl h) = absurd (cc h)
of_either false c (inr h) = h

pub adds_terms : (terms : Terms) (old new : BTreeSet Terms)
    → ((other : Terms) → has_terms new other ≡ cond (is_eq (terms_cmp terms other)) true (has_terms old other)) → AddsTerms terms old new
adds_terms terms old new put other = (
  λ has. elim (either_true (is_eq (terms_cmp terms other)) (has_terms old other) (sym (put other) ∙ has)) [
    | inl same ↦ inl (same_by_order terms other same)
    | inr before ↦ inr before
  ],
  λ either. put other ∙ of_either (is_eq (terms_cmp terms other)) (has_terms old other) (elim either [
    | inl same ↦ inl (order_of_same terms other same)
    | inr before ↦ inr before
  ]),
)

-- Lemmas on adding the terms (name, register, maximum power) of one more row of `installations` to
-- the ordered set of the earlier rows' terms.

any_more : {X : Type 0} (P : X → Type 0) (xs : List X) (y : X) → Any P xs → Any P (xs ++ y ∷ [])
any_more P xs y h = (
  h.0,
  h.1,
  omega (arith, h.2, length-append xs (y ∷ [])),
  get_or_append_left xs (y ∷ []) h.1 h.0 h.2 ∙ h.3,
  h.4,
)

any_of_more : {X : Type 0} (P : X → Type 0) (xs : List X) (y : X) → Any P (xs ++ y ∷ []) → Any P xs ⊎ P y
any_of_more P xs y h = elim (cases_lt h.0 (length xs)) [
  | inl lt ↦ inl (h.0, h.1, lt, sym (get_or_append_left xs (y ∷ []) h.1 h.0 lt) ∙ h.3, h.4)
  | inr le ↦
      let last : h.0 - length xs ≡ 0 = omega (arith, h.2, length-append xs (y ∷ [])) in
      let is : y ≡ h.1 =
      sym (get_or-append_right xs (y ∷ []) (length xs) h.0 h.1 refl le ∙ ap (λ (n : ℕ). get_or (y ∷ []) n h.1) last) ∙ h.3 in
      inr (subst P (sym is) h.4)
]

pub with_terms : (row : Row) (terms : Terms) (old new : BTreeSet Terms) → TermsAreRead row (Some terms) → AddsTerms terms old new
    → AddsTermsOf row old new
with_terms row terms old new read adds rows are other =
    let Reads : Row → Type 0 = λ r. TermsAreRead r (Some other) in (
      λ has. elim ((adds other).0 has) [
        | inl same ↦ Any-push Reads rows row (terms_there row _ _ _ _ _ _ _ _ read same.place same.meter same.register same.ceiling)
        | inr before ↦ any_more Reads rows row ((are other).0 before)
      ],
      λ any. (adds other).1 (elim (any_of_more Reads rows row any) [
        | inl before ↦ inr ((are other).1 before)
        | inr reads ↦
            let same = same_terms row _ _ _ _ _ _ _ _ read reads in
            inl (record { meter = same.meter_is; register = same.register_is; ceiling = same.ceiling_is; place = same.place_is })
      ]),
    )

pub without_terms : (row : Row) (known : BTreeSet Terms) → TermsAreRead row None → AddsTermsOf row known known
without_terms row known none rows are other =
    let Reads : Row → Type 0 = λ r. TermsAreRead r (Some other) in (
      λ has. any_more Reads rows row ((are other).0 has),
      λ any. elim (any_of_more Reads rows row any) [
        | inl before ↦ (are other).1 before
        | inr reads ↦ absurd (none _ _ _ _ reads)
      ],
    )

-- Suppose that a set has the terms (name, register, maximum power) of the first `i` rows. After the
-- terms of the next row are added, the set has those of the first `i` + 1 rows.
pub terms_of_next : (rows : List Row) (i : ℕ) (row : Row) (old new : BTreeSet Terms) → i < length rows → row ≡ get_or rows i row
    → AddsTermsOf row old new → AreTermsOf (take i rows) old → AreTermsOf (take (i + 1) rows) new
terms_of_next rows i row old new lt is adds are =
    let grown : take i rows ++ row ∷ [] ≡ take (i + 1) rows = ap (λ (r : Row). take i rows ++ r ∷ []) is ∙ sym (take_more rows i row lt) in
    subst (λ (rs : List Row). AreTermsOf rs new) grown (adds (take i rows) are)

pub no_terms : (known : BTreeSet Terms) → known.keys ≡ [] → AreTermsOf [] known
no_terms known none terms = (
  λ has. let no : has_terms known terms ≡ false = ap (λ (ks : List Terms). list_any (λ (k : Terms). is_eq (terms_cmp terms k)) ks) none in absurd (cc (has, no)),
  λ any. absurd (omega (arith, any.2)),
)

-- Lemmas on looking up the terms (name, register, maximum power) that a seal states for a meter.

any_as : {X : Type 0} (P Q : X → Type 0) (xs : List X) → ((x : X) → P x → Q x) → Any P xs → Any Q xs
any_as P Q xs so h = (h.0, h.1, h.2, h.3, so h.1 h.4)

pub installed_by : (known : BTreeSet Terms) (terms : Terms) (seal : Sealed) (there : Bool) → there ≡ has_terms known terms
    → string_bytes terms.meter ≡ seal.meter → string_bytes terms.register ≡ seal.register → terms.ceiling ≡ seal.ceiling → terms.place ≡ seal.place
    → ReportsInstalled known seal there
installed_by known terms seal there is meter register ceiling place installed are =
    let Reads : Row → Type 0 = λ row. TermsAreRead row (Some terms) in
    let Has : Row → Type 0 = λ row. HasTerms row seal.place seal.meter seal.register seal.ceiling in (
      λ t. any_as Reads Has installed (λ row h. terms_there row _ _ _ _ _ _ _ _ h place meter register ceiling) ((are terms).0 (sym is ∙ t)),
      λ any. is ∙ (are terms).1 (any_as Has Reads installed (λ row h. terms_there row _ _ _ _ _ _ _ _ h (sym place) (sym meter) (sym register) (sym ceiling)) any),
    )

-- Lemmas on comparing a meter with its seal (a digest of its earlier entries): its rows match the
-- seal, and the set of all meters' terms has the sealed terms.

pub not_installed : (known : BTreeSet Terms) (zone : Zone) (rows : MeterRows) (seal : Sealed) → ReportsInstalled known seal false
    → ChecksRows known zone rows seal (record { kept = false; notes = [] })
not_installed known zone rows seal there installed are = record { reported = (λ t. absurd (cc t), λ kept. (there installed are).1 kept.0); noted = refl }

pub not_read : (known : BTreeSet Terms) (zone : Zone) (rows : MeterRows) (seal : Sealed) → RowsAreRead rows None
    → ChecksRows known zone rows seal (record { kept = false; notes = [] })
not_read known zone rows seal none installed are = record {
  reported = (λ t. absurd (cc t), λ kept. absurd (none kept.1.read.range kept.1.read.voids.items kept.1.read.entries.items kept.1.is_read));
  noted = refl;
}

pub not_sealed : (known : BTreeSet Terms) (zone : Zone) (rows : MeterRows) (read : ReadRows) (seal : Sealed)
    → HasRead rows read.range read.voids.items read.entries.items → (HasSealedAs read seal → IsTrue false)
    → ChecksRows known zone rows seal (record { kept = false; notes = [] })
not_sealed known zone rows read seal is fails installed are = record {
  reported = (λ t. absurd (cc t), λ kept. fails (same_sealed rows read kept.1.read seal is kept.1.is_read kept.1.has));
  noted = refl;
}

pub is_sealed : (known : BTreeSet Terms) (zone : Zone) (rows : MeterRows) (read : ReadRows) (seal : Sealed) (notes : List ℕ)
    → ReportsInstalled known seal true → HasRead rows read.range read.voids.items read.entries.items → HasSealedAs read seal
    → PrintsNotes zone rows seal notes → ChecksRows known zone rows seal (record { kept = true; notes = notes })
is_sealed known zone rows read seal notes there is has noted installed are = record {
  reported = (λ t. ((there installed are).0 refl, record { read = read; is_read = is; has = has }), λ kept. refl);
  noted = noted;
}
