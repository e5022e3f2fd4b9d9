-- Proofs that two values that model rows of the store are equal if their columns in an SQL table
-- are equal.
use Rattle.std.proofs.Common.{◌≡◌, ℕ, Bool, true, false, refl, Option, Some, None, if◌then◌else◌}
use Rattle.std.specs.Prelude.{◌==◌}
use Rattle.mb_wire.specs.declared.span.ReadFunction.{ReadFunction}
use Rattle.mb_wire.specs.declared.span.ReadFunction.TheVariants.{HoldingRegisters, InputRegisters}
use Rattle.mb_wire.specs.Spans.{code_of}
use Rattle.energy_core.specs.declared.verdicts.Cause.{Cause}
use Rattle.energy_core.specs.declared.verdicts.Cause.TheVariants as cause
use Rattle.energy_core.specs.Verdict.{cause_number}
use Rattle.poll_core.specs.declared.outcome.Outcome.{Outcome}
use Rattle.poll_core.specs.declared.outcome.Outcome.TheVariants.{Answered, Exception, Silent, Malformed, Lost}
use Rattle.poll_core.specs.declared.outcome.Malformation.TheVariants as malformation
use Rattle.poll_core.specs.declared.outcome.LostCause.TheVariants as lost
use Rattle.poll_core.specs.Outcomes.{outcome_number, outcome_code}
use Rattle.store_tables.specs.Columns.{function_of}
use Rattle.store_tables.specs.declared.devices.rows.RegisterScale.{RegisterScale}
use Rattle.store_tables.specs.declared.devices.rows.RegisterScale.TheVariants as scale
use Rattle.store_tables.specs.Devices.Rows.{device_columns, point_columns, register_columns, scale_kind, scale_number}
use Rattle.store_tables.specs.Meters.Rows.{installed_columns, ranged_columns, ended_number, flag_of}
use Rattle.store_tables.specs.declared.entries.rows.EntryKind.{EntryKind}
use Rattle.store_tables.specs.declared.entries.rows.EntryKind.TheVariants as kind
use Rattle.store_tables.specs.Entries.Rows.{entry_columns, voided_columns, kind_number, kind_of}
use Rattle.office_events.specs.declared.answers.CommandKind.{CommandKind}
use Rattle.office_events.specs.declared.answers.CommandKind.TheVariants as reply
use Rattle.store_tables.specs.Polls.Rows.{Started, Held, Kept, poll_columns, outcome_columns, hold_columns, reply_columns, outcome_of, kind_word}
use Rattle.store_tables.specs.Polls.Rows as polls
use Rattle.office_store.proofs.LawsLemmas.Lists.{IsInjective, undone}

-- Lemmas that different enum values are stored as different numbers or words in columns.

function_back : (f : ReadFunction) → function_of (code_of f) ≡ Some f
function_back HoldingRegisters = refl
function_back InputRegisters = refl

pub one_function : IsInjective code_of
one_function = undone code_of function_of function_back

flag_back : (b : Bool) → flag_of (ended_number b) ≡ Some b
flag_back true = refl
flag_back false = refl

kind_back : (k : EntryKind) → kind_of (kind_number k) ≡ Some k
kind_back kind.Opening = refl
kind_back kind.Reading = refl
kind_back kind.Manual = refl
kind_back kind.Closing = refl
kind_back kind.Reset = refl
kind_back kind.Rescale = refl

reply_back : (k : CommandKind) → polls.kind_of (kind_word k) ≡ Some k
reply_back reply.Device = refl
reply_back reply.List = refl
reply_back reply.Register = refl
reply_back reply.Install = refl
reply_back reply.Exchange = refl
reply_back reply.Reset = refl
reply_back reply.Rescale = refl
reply_back reply.Manual = refl
reply_back reply.Close = refl
reply_back reply.Void = refl
reply_back reply.Start = refl

outcome_back : (o : Outcome) → outcome_of (outcome_number o) (outcome_code o) ≡ Some o
outcome_back Answered = refl
outcome_back (Exception code) = refl
outcome_back Silent = refl
outcome_back (Malformed malformation.WrongFunction) = refl
outcome_back (Malformed malformation.WrongLength) = refl
outcome_back (Malformed malformation.WrongByteCount) = refl
outcome_back (Malformed malformation.WrongEcho) = refl
outcome_back (Malformed malformation.WrongUnit) = refl
outcome_back (Lost lost.Gone) = refl
outcome_back (Lost lost.Garbled) = refl
outcome_back (Lost lost.Failed) = refl
outcome_back (Lost lost.Restart) = refl

one_outcome : (a b : Outcome) → outcome_number a ≡ outcome_number b → outcome_code a ≡ outcome_code b → a ≡ b
one_outcome a b number code = undone (λ (o : Outcome). (outcome_number o, outcome_code o)) (λ (p : ℕ × ℕ). outcome_of p.0 p.1) outcome_back a b (λ i. (number i, code i))

-- The cause of a reading's rejection that a numeric code encodes, or None if the number encodes no
-- cause.
cause_of : ℕ → Option Cause
cause_of n =
    if n == 1 then Some cause.NotAccumulated else
    if n == 2 then Some cause.ScaleChanged else
    if n == 3 then Some cause.NotLater else
    if n == 4 then Some cause.SpanTooLong else
    if n == 5 then Some cause.GapTooLong else
    if n == 6 then Some cause.TooFast else
    if n == 7 then Some cause.TotalFull else
    if n == 8 then Some cause.NotBelowRange else None

cause_back : (c : Cause) → cause_of (cause_number c) ≡ Some c
unfolding cause_of
cause_back cause.NotAccumulated = refl
cause_back cause.ScaleChanged = refl
cause_back cause.NotLater = refl
cause_back cause.SpanTooLong = refl
cause_back cause.GapTooLong = refl
cause_back cause.TooFast = refl
cause_back cause.TotalFull = refl
cause_back cause.NotBelowRange = refl

one_scale : (a b : RegisterScale) → scale_kind a ≡ scale_kind b → scale_number a ≡ scale_number b → a ≡ b
one_scale (scale.Fixed n) (scale.Fixed m) k e = λ i. scale.Fixed (e i)
one_scale (scale.Fixed n) (scale.At m) k e = absurd (let h = k in cc)
one_scale (scale.At n) (scale.Fixed m) k e = absurd (let h = k in cc)
one_scale (scale.At n) (scale.At m) k e = let same : n ≡ m = cc in λ i. scale.At (same i)

-- Lemmas that two values that model rows of the store are equal if their columns in the SQL table
-- are equal.

pub one_device : IsInjective device_columns
one_device a b e =
    let place : a.row.place ≡ b.row.place = cc in
    let name : a.name ≡ b.name = cc in
    let unit : a.row.unit ≡ b.row.unit = cc in
    let timeout : a.row.timeout ≡ b.row.timeout = cc in
    let window : a.row.window ≡ b.row.window = cc in
    λ i. record { name = name i; row = record { place = place i; unit = unit i; timeout = timeout i; window = window i } }

pub one_point : IsInjective point_columns
one_point a b e =
    let device : a.device ≡ b.device = cc in
    let place : a.row.place ≡ b.row.place = cc in
    let name : a.name ≡ b.name = cc in
    let code : code_of a.row.function ≡ code_of b.row.function = cc in
    let area : a.row.area ≡ b.row.area = cc in
    let address : a.row.address ≡ b.row.address = cc in
    let kind : a.kind ≡ b.kind = cc in
    let scale : a.scale ≡ b.scale = cc in
    let function : a.row.function ≡ b.row.function = one_function _ _ code in
    λ i. record {
      device = device i;
      name = name i;
      kind = kind i;
      scale = scale i;
      row = record { place = place i; function = function i; area = area i; address = address i };
    }

pub one_register : IsInjective register_columns
one_register a b e =
    let place : a.row.place ≡ b.row.place = cc in
    let name : a.name ≡ b.name = cc in
    let device : a.device ≡ b.device = cc in
    let code : code_of a.row.function ≡ code_of b.row.function = cc in
    let address : a.row.address ≡ b.row.address = cc in
    let kind : scale_kind a.row.scale ≡ scale_kind b.row.scale = cc in
    let number : scale_number a.row.scale ≡ scale_number b.row.scale = cc in
    let function : a.row.function ≡ b.row.function = one_function _ _ code in
    let scale : a.row.scale ≡ b.row.scale = one_scale _ _ kind number in
    λ i. record { name = name i; device = device i; row = record { place = place i; function = function i; address = address i; scale = scale i } }

pub one_installation : IsInjective installed_columns
one_installation a b e =
    let place : a.row.place ≡ b.row.place = cc in
    let meter : a.meter ≡ b.meter = cc in
    let register : a.register ≡ b.register = cc in
    let ceiling : a.row.ceiling ≡ b.row.ceiling = cc in
    let flag : ended_number a.row.is_ended ≡ ended_number b.row.is_ended = cc in
    let moment : a.row.last.moment ≡ b.row.last.moment = cc in
    let raw : a.row.last.raw ≡ b.row.last.raw = cc in
    let sf : a.row.last.sf ≡ b.row.last.sf = cc in
    let total : a.row.last.total ≡ b.row.last.total = cc in
    let ended : a.row.is_ended ≡ b.row.is_ended = undone ended_number flag_of flag_back _ _ flag in
    λ i. record {
      meter = meter i;
      register = register i;
      row = record {
        place = place i;
        ceiling = ceiling i;
        is_ended = ended i;
        last = record { moment = moment i; raw = raw i; sf = sf i; total = total i };
      };
    }

pub one_range : IsInjective ranged_columns
one_range a b e =
    let meter : a.meter ≡ b.meter = cc in
    let range : a.range ≡ b.range = cc in
    λ i. record { meter = meter i; range = range i }

pub one_entry : IsInjective entry_columns
one_entry a b e =
    let meter : a.meter ≡ b.meter = cc in
    let place : a.entry.place ≡ b.entry.place = cc in
    let number : kind_number a.entry.kind ≡ kind_number b.entry.kind = cc in
    let moment : a.entry.moment ≡ b.entry.moment = cc in
    let raw : a.entry.raw ≡ b.entry.raw = cc in
    let rolls : a.entry.rolls ≡ b.entry.rolls = cc in
    let after : a.entry.after ≡ b.entry.after = cc in
    let sf : a.entry.sf ≡ b.entry.sf = cc in
    let kind : a.entry.kind ≡ b.entry.kind = undone kind_number kind_of kind_back _ _ number in
    λ i. record {
      meter = meter i;
      entry = record { place = place i; kind = kind i; moment = moment i; raw = raw i; rolls = rolls i; after = after i; sf = sf i };
    }

pub one_void : IsInjective voided_columns
one_void a b e =
    let meter : a.meter ≡ b.meter = cc in
    let place : a.place ≡ b.place = cc in
    let moment : a.moment ≡ b.moment = cc in
    λ i. record { meter = meter i; place = place i; moment = moment i }

pub one_poll : IsInjective poll_columns
one_poll a b e =
    let number : a.row.number ≡ b.row.number = cc in
    let device : a.device ≡ b.device = cc in
    let unit : a.row.unit ≡ b.row.unit = cc in
    let started : a.row.started ≡ b.row.started = cc in
    let id : a.row.id ≡ b.row.id = cc in
    let code : code_of a.row.function ≡ code_of b.row.function = cc in
    let address : a.row.address ≡ b.row.address = cc in
    let count : a.row.count ≡ b.row.count = cc in
    let function : a.row.function ≡ b.row.function = one_function _ _ code in
    λ i. record {
      device = device i;
      row = record { number = number i; unit = unit i; started = started i; id = id i; function = function i; address = address i; count = count i };
    }

pub one_end : IsInjective outcome_columns
one_end a b e =
    let poll : a.poll ≡ b.poll = cc in
    let moment : a.moment ≡ b.moment = cc in
    let number : outcome_number a.outcome ≡ outcome_number b.outcome = cc in
    let code : outcome_code a.outcome ≡ outcome_code b.outcome = cc in
    let outcome : a.outcome ≡ b.outcome = one_outcome _ _ number code in
    λ i. record { poll = poll i; moment = moment i; outcome = outcome i }

pub one_hold : IsInjective hold_columns
one_hold a b e =
    let place : a.row.place ≡ b.row.place = cc in
    let meter : a.meter ≡ b.meter = cc in
    let poll : a.row.poll ≡ b.row.poll = cc in
    let moment : a.row.moment ≡ b.row.moment = cc in
    let raw : a.row.raw ≡ b.row.raw = cc in
    let sf : a.row.sf ≡ b.row.sf = cc in
    let number : cause_number a.row.cause ≡ cause_number b.row.cause = cc in
    let cause : a.row.cause ≡ b.row.cause = undone cause_number cause_of cause_back _ _ number in
    λ i. record { meter = meter i; row = record { place = place i; poll = poll i; moment = moment i; raw = raw i; sf = sf i; cause = cause i } }

pub one_reply : IsInjective reply_columns
one_reply a b e =
    let caller : a.caller ≡ b.caller = cc in
    let number : a.number ≡ b.number = cc in
    let request : a.request ≡ b.request = cc in
    let word : kind_word a.kind ≡ kind_word b.kind = cc in
    let moment : a.moment ≡ b.moment = cc in
    let kind : a.kind ≡ b.kind = undone kind_word polls.kind_of reply_back _ _ word in
    λ i. record { caller = caller i; number = number i; request = request i; kind = kind i; moment = moment i }
