-- Lemmas on the order of lines in the text of a seal, which has digests of a file's records. Each
-- `meter` line is followed by its `void` lines and its `month` lines.
use Rattle.std.proofs.Common.{◌≡◌, ℕ, List, [], ◌∷◌, ◌++◌, ◌<◌, get_or, inl, inr, ap, ◌∙◌, append_assoc, arith}
use Rattle.std.specs.Prelude.{codes, decimal}
use Rattle.std.specs.List.{flat_map}
use Rattle.hex.specs.Hex.{encode_lower}
use Rattle.table_audit.specs.declared.rows.VoidRow.{VoidRow}
use Rattle.table_seals.specs.Reading.{Begins, BeginsSetup}
use Rattle.table_seals.specs.Sealed.{Sealed, SealedMonth}
use Rattle.table_seals.specs.Texts.{meter_line, void_line, month_line, meter_text, setup_line}

meter_pieces : (a n b c d e f rest : List ℕ)
    → (codes "meter " ++ a ++ codes " number " ++ n ++ codes " at " ++ b ++ codes " range " ++ c ++ codes " ceiling " ++ d ++ codes " entries " ++ e ++ codes " sha256 " ++ f ++ codes "\n") ++ rest
    ≡ codes "meter " ++ (a ++ 32 ∷ (codes "number " ++ (n ++ 32 ∷ (codes "at " ++ (b ++ 32 ∷ (codes "range " ++ (c ++ 32 ∷ (codes "ceiling " ++ (d ++ 32 ∷ (codes "entries " ++ (e ++ 32 ∷ (codes "sha256 " ++ (f ++ 10 ∷ rest)))))))))))))
meter_pieces a n b c d e f rest = simp append_assoc

pub meter_opened : (s : Sealed) (rest : List ℕ)
    → meter_line s ++ rest
    ≡ codes "meter " ++ (s.meter ++ 32 ∷ (codes "number " ++ (decimal s.place ++ 32 ∷ (codes "at " ++ (s.register ++ 32 ∷ (codes "range " ++ (decimal s.range ++ 32 ∷ (codes "ceiling " ++ (decimal s.ceiling
    ++ 32 ∷ (codes "entries " ++ (decimal s.entries ++ 32 ∷ (codes "sha256 " ++ (encode_lower s.digest ++ 10 ∷ rest)))))))))))))
meter_opened s rest = meter_pieces s.meter (decimal s.place) s.register (decimal s.range) (decimal s.ceiling) (decimal s.entries) (encode_lower s.digest) rest

void_pieces : (a b c rest : List ℕ)
    → (codes "void " ++ a ++ codes " " ++ b ++ codes " at " ++ c ++ codes "\n") ++ rest
    ≡ codes "void " ++ (a ++ 32 ∷ (b ++ 32 ∷ (codes "at " ++ (c ++ 10 ∷ rest))))
void_pieces a b c rest = simp append_assoc

pub void_opened : (meter : List ℕ) (void : VoidRow) (rest : List ℕ)
    → void_line meter void ++ rest ≡ codes "void " ++ (meter ++ 32 ∷ (decimal void.place ++ 32 ∷ (codes "at " ++ (decimal void.moment ++ 10 ∷ rest))))
void_opened meter void rest = void_pieces meter (decimal void.place) (decimal void.moment) rest

pub void_is : (place moment : ℕ) (void : VoidRow) → place ≡ void.place → moment ≡ void.moment
    → (let made : VoidRow = record { place = place; moment = moment } in made) ≡ void
void_is place moment void p m =
    ap (λ (n : ℕ). let made : VoidRow = record { place = n; moment = moment } in made) p
    ∙ ap (λ (n : ℕ). let made : VoidRow = record { place = void.place; moment = n } in made) m

month_pieces : (a b c rest : List ℕ) → (codes "month " ++ a ++ codes " " ++ b ++ codes " " ++ c ++ codes "\n") ++ rest
    ≡ codes "month " ++ (a ++ 32 ∷ (b ++ 32 ∷ (c ++ 10 ∷ rest)))
month_pieces a b c rest = simp append_assoc

pub month_opened : (meter : List ℕ) (month : SealedMonth) (rest : List ℕ)
    → month_line meter month ++ rest ≡ codes "month " ++ (meter ++ 32 ∷ (month.month ++ 32 ∷ (decimal month.mwh ++ 10 ∷ rest)))
month_opened meter month rest = month_pieces meter month.month (decimal month.mwh) rest

pub setup_opened : (line rest : List ℕ) → setup_line line ++ rest ≡ line ++ 10 ∷ rest
setup_opened line rest = append_assoc line (codes "\n") rest

pub last_three : (a b c d : List ℕ) → ((a ++ b) ++ c) ++ d ≡ a ++ ((b ++ c) ++ d)
last_three a b c d = simp append_assoc

meter_parts : (a b c rest : List ℕ) → (a ++ b ++ c) ++ rest ≡ a ++ (b ++ (c ++ rest))
meter_parts a b c rest = simp append_assoc

-- The text of a meter's seal (digests of earlier records) begins with the `meter` line, followed by
-- its `void` lines and its `month` lines.
pub meter_first : (s : Sealed) (rest : List ℕ)
    → meter_text s ++ rest ≡ meter_line s ++ (flat_map (void_line s.meter) s.voids ++ (flat_map (month_line s.meter) s.months ++ rest))
meter_first s rest = meter_parts (meter_line s) (flat_map (void_line s.meter) s.voids) (flat_map (month_line s.meter) s.months) rest

pub first_byte : (a b : ℕ) (xs ys : List ℕ) → a ∷ xs ≡ b ∷ ys → a ≡ b
first_byte a b xs ys h = ap (λ l. get_or l 0 0) h

second_byte : (a b c d : ℕ) (xs ys : List ℕ) → a ∷ b ∷ xs ≡ c ∷ d ∷ ys → b ≡ d
second_byte a b c d xs ys h = ap (λ l. get_or l 1 0) h

-- A text that begins with the byte 109 or 112 is no line of a time zone, a device or a register.
pub no_setup : (first : ℕ) (xs : List ℕ) → 108 < first → first < 114 → BeginsSetup (first ∷ xs) → ⊥
no_setup first xs low high (inl h) = let same : first ≡ 122 = first_byte first 122 _ _ h.1 in omega (arith, same, high)
no_setup first xs low high (inr (inl h)) = let same : first ≡ 100 = first_byte first 100 _ _ h.1 in omega (arith, same, low)
no_setup first xs low high (inr (inr h)) = let same : first ≡ 114 = first_byte first 114 _ _ h.1 in omega (arith, same, high)

pub no_void_first : (seals : List Sealed) (rest : List ℕ) → (Begins (codes "void ") rest → ⊥) → Begins (codes "void ") (flat_map meter_text seals ++ rest) → ⊥
no_void_first [] rest never h = never h
no_void_first (s ∷ seals) rest never h = let same : 109 ≡ 118 = first_byte 109 118 _ _ h.1 in omega (arith, same)

-- The `month` lines of a meter, and the following text, don't begin with a `void` line.
pub no_void_month : (meter : List ℕ) (months : List SealedMonth) (rest : List ℕ) → (Begins (codes "void ") rest → ⊥)
    → Begins (codes "void ") (flat_map (month_line meter) months ++ rest) → ⊥
no_void_month meter [] rest never h = never h
no_void_month meter (m ∷ months) rest never h = let same : 109 ≡ 118 = first_byte 109 118 _ _ h.1 in omega (arith, same)

pub no_month_first : (seals : List Sealed) (rest : List ℕ) → (Begins (codes "month ") rest → ⊥) → Begins (codes "month ") (flat_map meter_text seals ++ rest) → ⊥
no_month_first [] rest never h = never h
no_month_first (s ∷ seals) rest never h = let same : 101 ≡ 111 = second_byte 109 101 109 111 _ _ h.1 in omega (arith, same)
