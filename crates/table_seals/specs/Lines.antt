-- Defines texts that begin with lines of a seal (digests of earlier records). The contracts of the
-- seal's parser use these definitions.
use Rattle.std.specs.Prelude.{◌≡◌, ◌<◌, ◌^◌, ℕ, true, List, ◌++◌, flat_map, codes}
use Rattle.std.specs.List.{AllByRecursion}
use Rattle.table_audit.specs.declared.rows.VoidRow.{VoidRow}
use Rattle.table_seals.specs.declared.parsing.MeterLine.{MeterLine}
use Rattle.table_seals.specs.declared.parsing.MonthLine.{MonthLine}
use Rattle.table_seals.specs.declared.parsing.PollsLine.{PollsLine}
use Rattle.table_seals.specs.Reading.{Begins, BeginsSetup, IsSetupLine, VoidFits, MonthFits}
use Rattle.table_seals.specs.Reading.{AreSealable, ArePollsSealable, AreTablesSealable}
use Rattle.table_seals.specs.Sealed.{Sealed, SealedMonth, SealedPolls, SealedTables}
use Rattle.table_seals.specs.Tables.{is_word}
use Rattle.table_seals.specs.Texts.{meter_text, void_line, month_line, pending_line, polls_part, setup_line, setup_text}

-- States that `text` consists of a line for each of `items`, followed by the text `rest`. `line`
-- gives the line of an item. The text `rest` does not begin as a further line, as `Follows` says.
pub record AreLines {A : Type 0} (Fits : A → Type 0) (line : A → List ℕ)
    (Follows : List ℕ → Type 0) (items : List A) (rest text : List ℕ) : Type 0 where
  pub fit : AllByRecursion Fits items
  pub ends : Follows rest → ⊥
  pub is : text ≡ flat_map line items ++ rest

-- States that `text` consists of the lines of a time zone, devices and registers, followed by the
-- text `rest`. The text `rest` does not begin as such a line.
abbrev pub AreSetup : (lines : List (List ℕ)) → (rest text : List ℕ) → Type 0
AreSetup lines rest text = AreLines IsSetupLine setup_line BeginsSetup lines rest text

-- States that the parsed line has all values of a meter's seal (digests of earlier records) except
-- the voids (cancellations of entries) and the months.
pub record IsLineOf (seal : Sealed) (line : MeterLine) : Type 0 where
  pub meter : line.meter.now ≡ seal.meter
  pub place : line.place ≡ seal.place
  pub register : line.register.now ≡ seal.register
  pub range : line.range ≡ seal.range
  pub ceiling : line.ceiling ≡ seal.ceiling
  pub entries : line.entries ≡ seal.entries
  pub digest : line.digest ≡ seal.digest

-- States that `text` consists of a meter's `void` lines for the cancelled entries in `voids`,
-- followed by the text `rest`. The text `rest` does not begin with a `void` line.
pub record AreVoids (meter : List ℕ) (voids : List VoidRow) (rest text : List ℕ) : Type 0 where
  pub word : is_word meter ≡ true
  pub lines : AreLines VoidFits (void_line meter) (Begins (codes "void ")) voids rest text

-- States that a parsed line has the values of a month.
pub record IsMonthLineOf (sealed : SealedMonth) (line : MonthLine) : Type 0 where
  pub month : line.month.now ≡ sealed.month
  pub mwh : line.mwh ≡ sealed.mwh

-- States that `text` consists of a meter's `month` lines for the energies in `months`, followed by
-- the text `rest`. The text `rest` does not begin with a `month` line.
pub record AreMonthLines (meter : List ℕ) (months : List SealedMonth) (rest text : List ℕ) :
    Type 0 where
  pub word : is_word meter ≡ true
  pub lines : AreLines MonthFits (month_line meter) (Begins (codes "month ")) months rest text

-- States that `text` consists of the lines of the seals (digests) of several meters, followed by
-- the text `rest`. The text `rest` does not begin with a `meter`, `void` or `month` line.
pub record AreMeters (seals : List Sealed) (rest text : List ℕ) : Type 0 where
  pub fit : AreSealable seals
  pub no_meter : Begins (codes "meter ") rest → ⊥
  pub no_void : Begins (codes "void ") rest → ⊥
  pub no_month : Begins (codes "month ") rest → ⊥
  pub is : text ≡ flat_map meter_text seals ++ rest

-- States that the parsed line has all values of the polls' seal (digests of earlier records) except
-- the pending polls.
pub record IsPollsLineOf (seal : SealedPolls) (line : PollsLine) : Type 0 where
  pub count : line.count ≡ seal.count
  pub digest : line.digest ≡ seal.digest

-- States that `text` consists of the `pending` lines of the polls' seal, one for each pending poll,
-- followed by the text `rest`. The text `rest` does not begin with a `pending` line.
abbrev pub ArePending : (polls rest text : List ℕ) → Type 0
ArePending polls rest text =
    AreLines (λ poll. poll < 2 ^ 64) pending_line (Begins (codes "pending ")) polls rest text

-- States that `text` consists of the lines of the polls' seal (digests of earlier records),
-- followed by the text `rest`. The text `rest` does not begin with a `pending` line.
pub record ArePolls (seal : SealedPolls) (rest text : List ℕ) : Type 0 where
  pub fit : ArePollsSealable seal
  pub ends : Begins (codes "pending ") rest → ⊥
  pub is : text ≡ polls_part seal ++ rest

-- States that `text` consists of the lines of a time zone, devices and registers, the seals
-- (digests) of meters and polls, and then the text `rest`. The text `rest` does not begin with a
-- `pending` line.
pub record AreTables (seal : SealedTables) (rest text : List ℕ) : Type 0 where
  pub fit : AreTablesSealable seal
  pub ends : Begins (codes "pending ") rest → ⊥
  pub is : text
      ≡ (setup_text seal.setup ++ flat_map meter_text seal.meters ++ polls_part seal.polls) ++ rest
