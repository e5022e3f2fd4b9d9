-- Defines which texts are those of a seal, and which seals can be parsed from their text. A seal
-- has digests of a database's records.
use Rattle.std.specs.Prelude.{◌≡◌, ◌<◌, ◌^◌, ◌⊎◌, ◌==◌, ◌&&◌, nat_lt, not, true, Bool, ℕ, List, [], ◌∷◌, ◌++◌, codes, length, map}
use Rattle.std.specs.List.{AllByRecursion, list_all}
use Rattle.hex.specs.Hex.{IsBytes}
use Rattle.table_audit.specs.declared.rows.VoidRow.{VoidRow}
use Rattle.table_seals.specs.Sealed.{Sealed, SealedMonth, SealedPolls, SealedTables}
use Rattle.table_seals.specs.Setup.{is_among}
use Rattle.table_seals.specs.Tables.{is_word}
use Rattle.table_seals.specs.Texts.{seal_text}

-- States that the text `text` begins with `word`.
abbrev pub Begins : (word text : List ℕ) → Type 0
Begins word text = (rest : List ℕ) × (text ≡ word ++ rest)

-- States that the text is that of a seal (digests of earlier records) of an earlier version.
abbrev pub IsEarlier : (text : List ℕ) → Type 0
IsEarlier text = Begins (codes "seal 1\n") text ⊎ Begins (codes "seal 2\n") text

-- States that a text begins as the line of a time zone, a device or a register.
abbrev pub BeginsSetup : (text : List ℕ) → Type 0
BeginsSetup text =
    Begins (codes "zone ") text ⊎ Begins (codes "device ") text ⊎ Begins (codes "register ") text

-- True if a text has no line end.
abbrev pub is_one_line : List ℕ → Bool
is_one_line text = list_all (λ byte. not (byte == 10)) text

-- States that a text is one line of a time zone, a device or a register.
pub record IsSetupLine (line : List ℕ) : Type 0 where
  pub begins : BeginsSetup line
  pub one_line : is_one_line line ≡ true

abbrev pub AreSetupLines : List (List ℕ) → Type 0
AreSetupLines lines = AllByRecursion IsSetupLine lines

-- States that a void (cancellation of an entry) can be parsed from its line. Its numbers fit in 64
-- bits.
pub record VoidFits (void : VoidRow) : Type 0 where
  pub place_fits : void.place < 2 ^ 64
  pub moment_fits : void.moment < 2 ^ 64

-- States that a month's energy can be parsed from its line. The month is a word, and the energy
-- fits in 64 bits.
pub record MonthFits (month : SealedMonth) : Type 0 where
  pub month_word : is_word month.month ≡ true
  pub mwh_fits : month.mwh < 2 ^ 64

-- States that a meter's seal can be parsed from its text. The names in the seal are words, its
-- numbers fit in 64 bits, and its digest has 32 bytes.
pub record IsSealable (seal : Sealed) : Type 0 where
  pub place_fits : seal.place < 2 ^ 64
  pub meter_word : is_word seal.meter ≡ true
  pub register_word : is_word seal.register ≡ true
  pub range_fits : seal.range < 2 ^ 64
  pub ceiling_fits : seal.ceiling < 2 ^ 64
  pub entries_fit : seal.entries < 2 ^ 64
  pub digest_long : length seal.digest ≡ 32
  pub digest_bytes : IsBytes seal.digest
  pub voids_fit : AllByRecursion VoidFits seal.voids
  pub months_fit : AllByRecursion MonthFits seal.months

abbrev pub AreSealable : List Sealed → Type 0
AreSealable seals = AllByRecursion IsSealable seals

-- States that the seal of the polls can be parsed from its text. Its numbers fit in 64 bits, and
-- its digest has 32 bytes.
pub record ArePollsSealable (seal : SealedPolls) : Type 0 where
  pub count_fits : seal.count < 2 ^ 64
  pub digest_long : length seal.digest ≡ 32
  pub digest_bytes : IsBytes seal.digest
  pub pending_fit : AllByRecursion (λ poll. poll < 2 ^ 64) seal.pending

-- True if the list is empty, or its first number is greater than `number`.
abbrev pub is_below_first : (number : ℕ) → List ℕ → Bool
is_below_first number [] = true
is_below_first number (first ∷ others) = nat_lt number first

-- True if each number is greater than the one before it.
abbrev pub are_rising : List ℕ → Bool
are_rising [] = true
are_rising (number ∷ others) = is_below_first number others && are_rising others

-- True if no text occurs twice.
abbrev pub are_apart : List (List ℕ) → Bool
are_apart [] = true
are_apart (text ∷ others) = not (is_among others text) && are_apart others

-- True if a meter's seal (digests of earlier records) has no void (cancellation of an entry) and no
-- month twice. The voids are in order of their entries.
abbrev pub has_each_once : Sealed → Bool
has_each_once seal =
    are_rising (map (λ void. void.place) seal.voids)
    && are_apart (map (λ month. month.month) seal.months)

-- True if no line occurs twice in the text of a seal (digests of earlier records): no line of the
-- time zone, the devices and the registers, and no meter, void, month or pending poll.
abbrev pub has_each_line_once : SealedTables → Bool
has_each_line_once seal =
    are_apart seal.setup && are_apart (map (λ meter. meter.meter) seal.meters)
    && list_all has_each_once seal.meters && are_rising seal.polls.pending

-- States that a file's seal (digests of its records) can be parsed from its text. Its lines of the
-- time zone, the devices and the registers are such lines, and the seals of its meters and of its
-- polls can be parsed. No line occurs twice.
pub record AreTablesSealable (seal : SealedTables) : Type 0 where
  pub setup : AreSetupLines seal.setup
  pub meters : AreSealable seal.meters
  pub polls : ArePollsSealable seal.polls
  pub once : has_each_line_once seal ≡ true

-- States that a text is that of a seal (digests of earlier records), with no line twice.
pub record IsSealText (seal : SealedTables) (text : List ℕ) : Type 0 where
  pub is : text ≡ seal_text seal
  pub once : has_each_line_once seal ≡ true
