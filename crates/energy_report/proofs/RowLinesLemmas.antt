-- Lemmas: `RowLines` (a writer of one line for each row) has written the lines of all rows that it
-- received, or a beginning of them if a write failed.
use Rattle.std.proofs.Common.{◌≡◌, ◌+◌, ◌≤◌, ◌⊎◌, inl, inr, ℕ, zero, suc, Bool, true, false, Option, List, [], ◌∷◌, ◌++◌, length, refl, sym, ap, subst, ◌∙◌, append_assoc, arith}
use Rattle.std.specs.List.{flat_map}
use Rattle.std.proofs.Math.Nat.{min-eq_left, min-eq_right, min-le_right}
use Rattle.std.specs.Io.KnownBytes.{Appends}
use Rattle.std.proofs.KnownBytes.{Appends-nil, Appends-trans}
use Rattle.office_books.specs.Rows.{TakesAll}
use Rattle.sun_points.specs.Writing.{GotPart}
use Rattle.energy_report.specs.RowLines.{HasWritten, WritesLine, counted}
use Rattle.energy_report.specs.declared.row_lines.RowLines.{RowLines}

abbrev pub TakesLine : {W T : Type 0} → (W → Option (List ℕ)) → (T → List ℕ) → RowLines W → T → RowLines W → Type 0
TakesLine contents line old row new = WritesLine contents (line row) old new

-- After a write fails, `RowLines` (a writer of one line for each row) drops all further rows.
all_dropped : {W T : Type 0} (contents : W → Option (List ℕ)) (line : T → List ℕ) (rows : List T) (from to : RowLines W) → from.failed ≡ true
    → TakesAll (TakesLine contents line) from rows to → to ≡ from
all_dropped contents line [] from to failed took = took
all_dropped contents line (row ∷ rows) from to failed took =
    let here : took.0 ≡ from = took.1.dropped failed in
    let still : took.0.failed ≡ true = rw here failed in
    all_dropped contents line rows took.0 to still took.2 ∙ here

-- If a beginning of a text was written, then a beginning of each longer text that starts with this
-- text was written.
pub longer : (x y : List ℕ) (a b : Option (List ℕ)) → GotPart x a b → GotPart (x ++ y) a b
longer x y a b got =
    (got.0, got.1 ++ y, ap (λ (front : List ℕ). front ++ y) got.2 ∙ append_assoc got.0 got.1 y, got.3)

pub following : (x y : List ℕ) (a b c : Option (List ℕ)) → Appends a b x → GotPart y b c → GotPart (x ++ y) a c
following x y a b c first got = (
  x ++ got.0,
  got.1,
  ap (λ (more : List ℕ). x ++ more) got.2 ∙ sym (append_assoc x got.0 got.1),
  Appends-trans a b c x got.0 first got.3,
)

compared : (a b : ℕ) → (a ≤ b) ⊎ (b ≤ a)
compared zero b = inl (omega arith)
compared (suc a) zero = inr (omega arith)
compared (suc a) (suc b) = elim (compared a b) [ inl less ↦ inl (omega (arith, less)) | inr more ↦ inr (omega (arith, more)) ]

abbrev most : ℕ
most = 18446744073709551615

within : (n : ℕ) → n ≤ most → counted n ≡ n
within n less = min-eq_left less

past : (n : ℕ) → most ≤ n → counted n ≡ most
past n more = min-eq_right more

counted_on : (c n : ℕ) → counted (counted (c + 1) + n) ≡ counted (c + suc n)
counted_on c n = elim (compared (c + 1) most) [
  | inl less ↦ ap (λ k. counted (k + n)) (within (c + 1) less) ∙ ap counted (let e : c + 1 + n ≡ c + suc n = omega arith in e)
  | inr more ↦
      ap (λ k. counted (k + n)) (past (c + 1) more) ∙ past (most + n) (omega arith) ∙ sym (past (c + suc n) (omega (arith, more)))
]

abbrev pub Fits : ℕ → Type 0
Fits count = count ≤ most

nothing_written : {W : Type 0} (contents : W → Option (List ℕ)) (from : RowLines W) → from.failed ≡ false → Fits from.count
    → HasWritten contents [] 0 from from
nothing_written contents from works fits = record {
  output = refl;
  whole = λ still. (Appends-nil (contents from.output.now), sym (within from.count fits) ∙ ap counted (let e : from.count ≡ from.count + 0 = omega arith in e));
  part = λ failed. absurd (let e : false ≡ true = sym works ∙ failed in cc);
}

written_on : {W : Type 0} (contents : W → Option (List ℕ)) (x y : List ℕ) (n : ℕ) (from next to : RowLines W) → next.failed ≡ false
    → HasWritten contents x 1 from next → HasWritten contents y n next to → HasWritten contents (x ++ y) (suc n) from to
written_on contents x y n from next to works first more =
    let here = first.whole works in
    record {
      output = more.output ∙ first.output;
      whole = λ still.
          let later = more.whole still in
          (Appends-trans _ _ _ x y here.0 later.0, later.1 ∙ ap (λ c. counted (c + n)) here.1 ∙ counted_on from.count n);
      part = λ failed. following x y _ _ _ here.0 (more.part failed);
    }

written_no_more : {W : Type 0} (contents : W → Option (List ℕ)) (x y : List ℕ) (n : ℕ) (from next to : RowLines W) → next.failed ≡ true
    → HasWritten contents x 1 from next → to ≡ next → HasWritten contents (x ++ y) n from to
written_no_more {W} contents x y n from next to failed first same =
    let P : RowLines W → Type 0 = λ s. HasWritten contents (x ++ y) n from s in
    subst P (sym same) (record {
      output = first.output;
      whole = λ still. absurd (let e : true ≡ false = sym failed ∙ still in cc);
      part = λ again. longer x y _ _ (first.part again);
    })

fits_after : {W : Type 0} (contents : W → Option (List ℕ)) (x : List ℕ) (from next : RowLines W) → next.failed ≡ false
    → HasWritten contents x 1 from next → Fits next.count
fits_after contents x from next works first =
    subst Fits (sym (first.whole works).1) (min-le_right (from.count + 1) most)

either : {P : Type 0} (b : Bool) → (b ≡ false → P) → (b ≡ true → P) → P
either false works failed = works refl
either true works failed = failed refl

-- `RowLines` (a writer of one line for each row) has written the lines of all rows that it
-- received. If a write failed, it has written only a beginning of these lines.
pub all_written : {W T : Type 0} (contents : W → Option (List ℕ)) (line : T → List ℕ) (rows : List T) (from to : RowLines W)
    → from.failed ≡ false → Fits from.count → TakesAll (TakesLine contents line) from rows to
    → HasWritten contents (flat_map line rows) (length rows) from to
all_written {W} contents line [] from to works fits took =
    let P : RowLines W → Type 0 = λ s. HasWritten contents [] 0 from s in
    subst P (sym took) (nothing_written contents from works fits)
all_written contents line (row ∷ rows) from to works fits took =
    let first = took.1.written works in
    either took.0.failed
    (λ still. written_on contents (line row) (flat_map line rows) (length rows) from took.0 to still first
    (all_written contents line rows took.0 to still (fits_after contents (line row) from took.0 still first) took.2))
    (λ failed. written_no_more contents (line row) (flat_map line rows) (suc (length rows)) from took.0 to failed first
    (all_dropped contents line rows took.0 to failed took.2))

pub same_output : {W T : Type 0} (contents : W → Option (List ℕ)) (line : T → List ℕ) (rows : List T) (from to : RowLines W)
    → from.failed ≡ false → from.count ≡ 0 → TakesAll (TakesLine contents line) from rows to
    → to.output.ghost_name ≡ from.output.ghost_name
same_output contents line rows from to works none took =
    (all_written contents line rows from to works (subst Fits (sym none) (omega arith)) took).output
