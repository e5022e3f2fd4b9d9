-- Defines the count and the scale of a device's counter in the words (registers) of one read.
use Rattle.std.specs.Prelude.{◌≡◌, ℕ, ℤ, pos, negsuc, ◌+◌, ◌-◌, ◌==◌, ◌&&◌, nat_le, int_le, min, max, Bool, if◌then◌else◌, List, slice_index, Some, None, option_and_then}
use Rattle.std.specs.Option.{option_map}
use Rattle.std.specs.declared.option.Option.{Option}
use Rattle.std.specs.declared.result.Result.{Result}
use Rattle.mb_wire.specs.Spans.{Span}
use Rattle.mb_wire.specs.declared.limits.TheConstants.{ADDRESSES, MAX_READ_REGISTERS}
use Rattle.mb_wire.specs.declared.span.ReadFunction.{ReadFunction}
use Rattle.sun_points.specs.Counters.{acc32_value, scale_value}
use Rattle.sun_chain.specs.Scanning.Lines.{Line, OnlyRequests, Reads}
use Rattle.sun_chain.specs.Scanning.Scans.{fresh}
use Rattle.sun_chain.specs.declared.scans.counter.CounterScale.{CounterScale}
use Rattle.sun_chain.specs.declared.scans.counter.CounterScale.TheVariants.{Fixed, Register}
use Rattle.sun_chain.specs.declared.scans.counter.Shown.{Shown}

-- The least address among the registers of a counter and of its scale.
abbrev pub first_register : (address : ℕ) → CounterScale → ℕ
first_register address (Fixed sf) = address
first_register address (Register at) = min address at

-- The address after the greatest register address of a counter and of its scale.
abbrev pub end_register : (address : ℕ) → CounterScale → ℕ
end_register address (Fixed sf) = address + 2
end_register address (Register at) = max (address + 2) (at + 1)

-- The span of registers from `first` to `end` exclusive, or `None` if one Modbus read cannot
-- request all of them.
abbrev pub span_between : ReadFunction → (first end : ℕ) → Option Span
span_between function first end =
    if nat_le (end - first) MAX_READ_REGISTERS && nat_le end ADDRESSES
    then Some (record { function = function; address = first; count = end - first })
    else None

-- The span of registers that a read of the counter requests, or `None` if one Modbus read cannot
-- request all of them.
abbrev pub counter_span : ReadFunction → (address : ℕ) → CounterScale → Option Span
counter_span function address scale =
    span_between function (first_register address scale) (end_register address scale)

-- The word at an address in a list of words whose first word is at address `first`.
abbrev pub word_at : (first : ℕ) → List ℕ → (address : ℕ) → ℕ
word_at first words address = slice_index words (address - first)

-- True if the power of ten is from -3 to 3, the range that is allowed for a counter.
abbrev pub is_allowed : ℤ → Bool
is_allowed sf = int_le (negsuc 2) sf && int_le sf (pos 3)

-- The power of ten if it is from -3 to 3, otherwise `None`.
abbrev pub allowed : ℤ → Option ℤ
allowed sf = if is_allowed sf then Some sf else None

-- The power of ten in a sunssf register, or `None` if the register has the value for "not
-- implemented" or a power that is not from -3 to 3.
abbrev pub reported : (word : ℕ) → Option ℤ
reported word = if word == 0x8000 then None else allowed (scale_value word)

-- The power of ten of a counter, fixed or read from its register, or `None` if it is not from -3 to
-- 3.
abbrev pub scale_in : (first : ℕ) → List ℕ → CounterScale → Option ℤ
scale_in first words (Fixed sf) = allowed sf
scale_in first words (Register at) = reported (word_at first words at)

-- The count of a counter in the two words from `address`, high word first.
abbrev pub count_in : (first : ℕ) → List ℕ → (address : ℕ) → ℕ
count_in first words address =
    acc32_value (word_at first words address) (word_at first words (address + 1))

-- The count and power of ten of a counter, decoded from the words of Modbus registers, or `None` if
-- the power of ten is not from -3 to 3.
abbrev pub decode_counter : (first : ℕ) → List ℕ → (address : ℕ) → CounterScale → Option Shown
decode_counter first words address scale =
    option_map (λ sf. record { raw = count_in first words address; sf = sf })
    (scale_in first words scale)

-- The count and power of ten of a counter in the words of a read, or `None` if the read returned no
-- words.
abbrev pub shown_by : (first : ℕ) → Option (List ℕ) → (address : ℕ) → CounterScale → Option Shown
shown_by first words address scale =
    option_and_then (λ all. decode_counter first all address scale) words

-- True if a read over a new link requested the given span of registers, and `shown` is the
-- counter's value in the words of that read.
pub record ReadsCounter (unit : ℕ) (span : Span)
    (old_bytes old_given new_bytes new_given : Option (List ℕ))
    (address : ℕ) (scale : CounterScale) (shown : Option Shown)
    : Type 0 where
  pub words : Option (List ℕ)
  pub end : Line
  pub read : Reads unit (fresh old_bytes old_given) end span words
  pub bytes : end.bytes ≡ new_bytes
  pub given : end.given ≡ new_given
  pub shows : shown ≡ shown_by span.address words address scale

-- The effect of reading an energy counter from a device, if `Some` span of registers contains the
-- counter. For `None`, nothing is read and `shown` is `None`.
abbrev pub ShowsCounter : (unit : ℕ) → Option Span
    → (old_bytes old_given new_bytes new_given : Option (List ℕ))
    → (address : ℕ) → CounterScale → Option Shown → Type 0
ShowsCounter unit None old_bytes old_given new_bytes new_given address scale shown =
    (shown ≡ None) × (new_bytes ≡ old_bytes)
ShowsCounter unit (Some span) old_bytes old_given new_bytes new_given address scale shown =
    ReadsCounter unit span old_bytes old_given new_bytes new_given address scale shown

-- True if only requests for the given span of registers were written to the link to the device.
-- Without a span, nothing was written.
abbrev pub AsksCounter : {X E : Type 0} → (unit : ℕ) → Option Span → Result X E
    → (old new : Option (List ℕ)) → Type 0
AsksCounter unit None result old new = new ≡ old
AsksCounter unit (Some span) result old new = OnlyRequests unit span result old new
