-- Lemmas on parsing consecutive lines in the text of a seal (digests of earlier records): lines of
-- the time zone, the devices and the registers, and `void`, `month`, `meter` and `pending` lines.
use Rattle.std.proofs.Common.{◌≡◌, ℕ, List, [], ◌∷◌, ◌++◌, refl, sym, ap, subst, ◌∙◌, append_assoc}
use Rattle.std.specs.Prelude.{codes, Option, Some, None, IsSomeAnd}
use Rattle.std.specs.List.{flat_map, AllByRecursion}
use Rattle.std.proofs.lemmas.List.{append-nil}
use Rattle.table_seals.specs.declared.parsing.MeterLine.{MeterLine}
use Rattle.table_seals.specs.Lines.{AreLines, IsLineOf, AreVoids, AreMonthLines, AreMeters}
use Rattle.table_seals.specs.Reading.{Begins, IsSealable, AreSealable, MonthFits}
use Rattle.table_seals.specs.Sealed.{Sealed}
use Rattle.table_seals.specs.Texts.{meter_line, meter_text, month_line, void_line}
use Rattle.table_seals.proofs.Opened.{meter_first, no_void_first, no_void_month, no_month_first}

-- Lemmas on consecutive lines of one kind. If the parser finds no such line, none is left. If it
-- finds one, this is the line of the next item.

pub no_more : {A : Type 0} (Fits : A → Type 0) (line : A → List ℕ) (Follows : List ℕ → Type 0) (after : List A) (rest text : List ℕ)
    → ((a : A) (r : List ℕ) → Fits a → text ≡ line a ++ r → ⊥)
    → AreLines Fits line Follows after rest text → (after ≡ []) × (text ≡ rest)
no_more Fits line Follows [] rest text none h = (refl, h.is)
no_more Fits line Follows (a ∷ others) rest text none h =
    absurd (none a (flat_map line others ++ rest) h.fit.0 (h.is ∙ append_assoc (line a) (flat_map line others) rest))

pub next_item : {A : Type 0} (Fits : A → Type 0) (line : A → List ℕ) (Follows : List ℕ → Type 0) (after : List A) (rest text : List ℕ)
    (Is : A → Type 0) (follows : List ℕ)
    → ((a : A) (r : List ℕ) → Fits a → text ≡ line a ++ r → Is a × (follows ≡ r))
    → Follows text → AreLines Fits line Follows after rest text
    → (a : A) × (others : List A) × (after ≡ a ∷ others) × Is a × AreLines Fits line Follows others rest follows
next_item Fits line Follows [] rest text Is follows reads begins h = absurd (h.ends (subst Follows h.is begins))
next_item Fits line Follows (a ∷ others) rest text Is follows reads begins h =
    let one = reads a (flat_map line others ++ rest) h.fit.0 (h.is ∙ append_assoc (line a) (flat_map line others) rest) in
    (a, others, refl, one.0, record { fit = h.fit.1; ends = h.ends; is = one.1 })

-- Suppose that the next item moves to the end of the parsed items. Then the concatenation of the
-- parsed and the unparsed items is unchanged.
pub so_far : {A : Type 0} (done next after others all : List A) (a : A) → next ≡ done ++ a ∷ [] → after ≡ a ∷ others → done ++ after ≡ all → next ++ others ≡ all
so_far done next after others all a put is before =
    ap (λ (xs : List _). xs ++ others) put ∙ append_assoc done (a ∷ []) others ∙ ap (λ (xs : List _). done ++ xs) (sym is) ∙ before

-- If no item is left, the parsed items are all items.
pub all_done : {A : Type 0} (done after all : List A) → after ≡ [] → done ++ after ≡ all → done ≡ all
all_done done after all is before = sym (append-nil done) ∙ ap (λ (xs : List _). done ++ xs) (sym is) ∙ before

-- Lemmas on consecutive `meter` lines in the text of a seal, which has digests of a file's records.

meters_first : (s : Sealed) (ss : List Sealed) (rest text : List ℕ) → AreMeters (s ∷ ss) rest text
    → text ≡ meter_line s ++ (flat_map (void_line s.meter) s.voids ++ (flat_map (month_line s.meter) s.months ++ (flat_map meter_text ss ++ rest)))
meters_first s ss rest text h = h.is ∙ append_assoc (meter_text s) (flat_map meter_text ss) rest ∙ meter_first s (flat_map meter_text ss ++ rest)

pub no_more_meters : (after : List Sealed) (rest text : List ℕ)
    → ((s : Sealed) (r : List ℕ) → IsSealable s → text ≡ meter_line s ++ r → ⊥)
    → AreMeters after rest text → (after ≡ []) × (text ≡ rest)
no_more_meters [] rest text none h = (refl, h.is)
no_more_meters (s ∷ ss) rest text none h = absurd (none s _ h.fit.0 (meters_first s ss rest text h))

-- States that a parsed `meter` line has the values of the first seal (digest of a meter's entries)
-- in a list. The text after the line has the seal's other lines and the other seals.
pub record FirstMeter (after : List Sealed) (rest : List ℕ) (line : MeterLine) (following : List ℕ) : Type 0 where
  pub seal : Sealed
  pub others : List Sealed
  pub is : after ≡ seal ∷ others
  pub line_is : IsLineOf seal line
  pub fit : AreSealable others
  pub voids : AreVoids seal.meter seal.voids (flat_map (month_line seal.meter) seal.months ++ (flat_map meter_text others ++ rest)) following
  pub months_fit : AllByRecursion MonthFits seal.months
  pub no_month : Begins (codes "month ") (flat_map meter_text others ++ rest) → ⊥

pub first_meter : (after : List Sealed) (rest text : List ℕ) (line : MeterLine) (following : List ℕ)
    → ((s : Sealed) (r : List ℕ) → IsSealable s → text ≡ meter_line s ++ r → IsLineOf s line × (following ≡ r))
    → Begins (codes "meter ") text → AreMeters after rest text → FirstMeter after rest line following
first_meter [] rest text line following reads begins h = absurd (h.no_meter (begins.0, sym h.is ∙ begins.1))
first_meter (s ∷ ss) rest text line following reads begins h =
    let one = reads s _ h.fit.0 (meters_first s ss rest text h) in
    record {
      seal = s;
      others = ss;
      is = refl;
      line_is = one.0;
      fit = h.fit.1;
      voids = record {
        word = h.fit.0.meter_word;
        lines = record {
          fit = h.fit.0.voids_fit;
          ends = no_void_month s.meter s.months (flat_map meter_text ss ++ rest) (no_void_first ss rest h.no_void);
          is = one.1;
        };
      };
      months_fit = h.fit.0.months_fit;
      no_month = no_month_first ss rest h.no_month;
    }

-- After the `void` lines of the first meter, its `month` lines follow.
pub months_then : (after : List Sealed) (rest : List ℕ) (line : MeterLine) (following follows : List ℕ) (first : FirstMeter after rest line following)
    → follows ≡ flat_map (month_line first.seal.meter) first.seal.months ++ (flat_map meter_text first.others ++ rest)
    → AreMonthLines first.seal.meter first.seal.months (flat_map meter_text first.others ++ rest) follows
months_then after rest line following follows first is = record {
  word = first.voids.word;
  lines = record { fit = first.months_fit; ends = first.no_month; is = is };
}

-- Lemmas on optional results of a parser: a result that is `Some` with a property is not `None`,
-- and the property is true of its value.

pub none_some : {A : Type 0} (P : A → Type 0) (o : Option A) → o ≡ None → IsSomeAnd o P → ⊥
none_some P o is h = subst (λ q. IsSomeAnd q P) is h

pub some_and : {A : Type 0} (P : A → Type 0) (o : Option A) (a : A) → o ≡ Some a → IsSomeAnd o P → P a
some_and P o a is h = subst (λ q. IsSomeAnd q P) is h
