-- The contract for parsing a setup line of a simulated device.
use Rattle.std.specs.Prelude.{◌≡◌, ℕ, List, Option, Some, None}
use Rattle.script_text.specs.Bank.Forms.{IsBankLine}
use Rattle.script_text.specs.declared.bank.bank.BankLine.{BankLine}

-- States that parsing returns the only setup line of a simulated device that the given words spell,
-- or `None` if the words spell no setup line.
abbrev pub ReadsBank : List (List ℕ) → Option BankLine → Type 0
ReadsBank words (Some line) =
    IsBankLine words line × ((other : BankLine) → IsBankLine words other → other ≡ line)
ReadsBank words None = (line : BankLine) → IsBankLine words line → ⊥
