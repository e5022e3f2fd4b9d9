-- Defines the next read of a scan: the `SunS` mark, the head (ID and length) of each model, and the
-- registers of known models.
use Rattle.std.specs.Prelude.{ℕ, ◌+◌, ◌-◌, ◌==◌, ◌&&◌, ◌||◌, not, nat_le, nat_lt, min, Bool, true, if◌then◌else◌, Some, None, option_and_then}
use Rattle.std.specs.Option.{option_map_or}
use Rattle.std.specs.declared.option.Option.{Option}
use Rattle.mb_wire.specs.Spans.{Span}
use Rattle.mb_wire.specs.declared.limits.TheConstants.{ADDRESSES, MAX_READ_REGISTERS}
use Rattle.mb_wire.specs.declared.span.ReadFunction.TheVariants.{HoldingRegisters}
use Rattle.sun_chain.specs.Image.{Words}
use Rattle.sun_chain.specs.Chain.{is_marked, next_after}
use Rattle.sun_chain.specs.declared.model.Model.{Model}
use Rattle.sun_chain.specs.declared.scans.stage.Stage.{Stage}
use Rattle.sun_chain.specs.declared.scans.stage.Stage.TheVariants.{Mark, Head, Ending, Registers, Over}

-- A span of holding registers, which Modbus function 3 reads.
abbrev pub holding : (address count : ℕ) → Span
holding address count =
    record { function = HoldingRegisters; address = address; count = count }

-- The read that a stage of a scan requires, or `None` at the end. The `SunS` mark has two
-- registers. The head of a model has an ID and a length, or only the ID at address 65535. The
-- registers of a model are read up to 125 at once.
abbrev pub wanted : Stage → Option Span
wanted (Mark address) = Some (holding address 2)
wanted (Head address models) = Some (holding address (min 2 (ADDRESSES - address)))
wanted (Ending address) = Some (holding address 1)
wanted (Registers model asked models) =
    Some (holding (model.address + 2 + asked) (min MAX_READ_REGISTERS (model.length - asked)))
wanted Over = None

-- The model whose registers a stage of the scan reads next, or `None`.
abbrev pub model_of : Stage → Option Model
model_of (Mark address) = None
model_of (Head address models) = None
model_of (Ending address) = None
model_of (Registers model asked models) = Some model
model_of Over = None

-- True if the points of models with the given ID are known: IDs 1, 101 to 103, and 201 to 204.
abbrev pub is_known : ℕ → Bool
is_known id = id == 1 || (nat_le 101 id && nat_le id 103) || (nat_le 201 id && nat_le id 204)

-- The first stage of a scan, which reads the `SunS` mark at address 40000. A stage determines the
-- next read of the scan.
abbrev pub begun : Stage
begun = Mark 40000

-- The stage of a scan after a base address without the `SunS` mark: the mark at 50000, then at 0,
-- then the end of the scan.
abbrev pub other_mark : ℕ → Stage
other_mark address =
    if address == 40000 then Mark 50000 else if address == 50000 then Mark 0 else Over

-- The stage of a scan after `models` models: reading the head (ID and length) of the next model at
-- the given address, or the end of the scan past address 65535.
abbrev pub head_at : (models address : ℕ) → Stage
head_at models address = if nat_le address 65535 then Head address models else Over

-- The stage of a scan after the head (ID and length) of a model was read. The registers are read
-- only if the model's points are known.
abbrev pub in_model : (models : ℕ) → Model → Stage
in_model models model =
    if is_known model.id && nat_lt 0 model.length then Registers model 0 models
    else head_at models (next_after model)

-- True if a model is valid: its ID does not end the chain of models, it is at most the 64th model,
-- and it ends at or before address 65535.
abbrev pub may_stand : (models : ℕ) → Model → Bool
may_stand models model =
    not (model.id == 0xFFFF) && nat_lt models 64 && nat_le (next_after model) ADDRESSES

-- The given model if it is valid (not the chain's end, at most the 64th model, and ending at or
-- before address 65535), otherwise `None`.
abbrev pub checked : (models : ℕ) → Model → Option Model
checked models model = if may_stand models model then Some model else None

-- The model with the given address, ID and length.
abbrev pub model_at : (address id length : ℕ) → Model
model_at address id length = record { address = address; id = id; length = length }

-- The model at an address after `models` models, if its ID and its length were read. `None` if it
-- ends the chain, is the 65th model, or ends past address 65535.
abbrev pub model_in : Words → (models address : ℕ) → Option Model
model_in word models address =
    option_and_then (λ id. option_and_then (λ length. checked models (model_at address id length))
    (word (address + 1)))
    (word address)

-- The stage of a scan (the search for a device's SunSpec models) after a read of a model's head (ID
-- and length) that returned no words. The scan then reads the ID alone, because the end of the
-- chain may be the device's last register.
abbrev pub ending_at : (address : ℕ) → Stage
ending_at address = if nat_lt address 65535 then Ending address else Over

-- The stage of a scan after a read of a model's head (ID and length). The stage depends on the ID,
-- which is `None` if it was not read.
abbrev pub after_head : Words → (models address : ℕ) → Option ℕ → Stage
after_head word models address None = ending_at address
after_head word models address (Some id) =
    option_map_or (in_model (models + 1)) (model_in word models address) Over

-- The stage of a scan after the read that the given stage requires. The words are those that the
-- scan has received until now, including those of this read.
abbrev pub stage_after : Words → Stage → Stage
stage_after word (Mark address) =
    if is_marked word address then Head (address + 2) 0 else other_mark address
stage_after word (Head address models) = after_head word models address (word address)
stage_after word (Ending address) = Over
stage_after word (Registers model asked models) =
    if nat_lt (asked + MAX_READ_REGISTERS) model.length
    then Registers model (asked + MAX_READ_REGISTERS) models
    else head_at models (next_after model)
stage_after word Over = Over

-- True if a stage (what a scan reads next) is within the limits of a scan: its registers have
-- addresses below 65536, and at most 64 models were found.
abbrev pub fits : Stage → Bool
fits (Mark address) = nat_le address 50000
fits (Head address models) = nat_le models 64
fits (Ending address) = true
fits (Registers model asked models) =
    nat_lt asked model.length && nat_le (next_after model) ADDRESSES && nat_le models 64
fits Over = true
