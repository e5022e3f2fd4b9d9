-- Proofs that the rows that a transaction inserts encode the records that it writes.
use Rattle.std.proofs.Common.{◌≡◌, ℕ, List, map, subst}
use Rattle.office_events.specs.declared.answers.CommandKind.{CommandKind}
use Rattle.office_events.specs.declared.facts.Device.{Device}
use Rattle.office_events.specs.declared.facts.DeviceList.{DeviceList}
use Rattle.office_events.specs.declared.facts.Register.{Register}
use Rattle.office_events.specs.declared.facts.HeldReading.{HeldReading}
use Rattle.office_events.specs.declared.facts.Poll.{Poll}
use Rattle.office_events.specs.declared.facts.EndedPoll.{EndedPoll}
use Rattle.office_events.specs.declared.facts.Reply.{Reply}
use Rattle.office_events.specs.declared.facts.Fact.TheVariants as fact
use Rattle.office_books.specs.Steps.{HoldsChangeNothing}
use Rattle.store_tables.specs.Answer.{every}
use Rattle.store_tables.specs.Content.{Content, Edits, with_row}
use Rattle.store_tables.specs.Devices.Trees as list_tree
use Rattle.store_tables.specs.declared.devices.rows.DeviceRow.{DeviceRow}
use Rattle.store_tables.specs.declared.devices.rows.Point.{Point}
use Rattle.store_tables.specs.declared.devices.rows.RegisterRow.{RegisterRow}
use Rattle.store_tables.specs.Devices.Rows.{Added, Registered, device_columns, device_place, listed_at, point_columns, register_columns, register_place, with_list}
use Rattle.store_tables.specs.Polls.Trees as poll_tree
use Rattle.store_tables.specs.declared.polls.rows.PollRow.{PollRow}
use Rattle.store_tables.specs.declared.polls.rows.OutcomeRow.{OutcomeRow}
use Rattle.store_tables.specs.declared.polls.rows.RejectedRow.{RejectedRow}
use Rattle.store_tables.specs.Polls.Rows.{Started, Held, Kept, poll_columns, outcome_columns, hold_columns, hold_place, reply_columns}
use Rattle.office_store.specs.Rows.{added, listed, placed_on, registered, started, outcome_row, held_row, kept}
use Rattle.office_store.specs.Recording.{Records, IsNext}
use Rattle.office_store.proofs.Recorded.{device_recorded, register_recorded, poll_recorded, outcome_recorded, reply_recorded}
use Rattle.office_store.proofs.Held.{hold_recorded}
use Rattle.office_store.proofs.Listed.{list_recorded}

-- Lemmas that the row that is inserted for a new device encodes the record of the device.

abbrev pub AddsDevice : (name : List ℕ) → DeviceRow → Content → Content → Type 0
AddsDevice name row = Edits list_tree.devices device_columns (with_row (let d : Added = record { name = name; row = row } in d))

abbrev pub IsNextDevice : ℕ → Content → Content → Type 0
IsNextDevice = IsNext list_tree.devices device_columns every device_place

pub device_entered : (device : Device) (place : ℕ) (name : List ℕ) (row : DeviceRow) → name ≡ device.name → row ≡ (added place device).row
    → (before mid after : Content) → IsNextDevice place before mid → AddsDevice name row mid after → Records (fact.Device device) before after
device_entered device place name row name_is row_is before mid after next adds =
    let is : (let d : Added = record { name = name; row = row } in d) ≡ added place device = λ i. record { name = name_is i; row = row_is i } in
    device_recorded device place before after next.following
    (subst (λ (d : Added). Edits list_tree.devices device_columns (with_row d) before after) is (subst (λ tables. AddsDevice name row tables after) next.same adds))

-- Lemmas that the rows that replace a device's rows of `points` encode the record of the device's
-- new point list.

abbrev pub PutsList : (device : List ℕ) → List Point → Content → Content → Type 0
PutsList device ps = Edits list_tree.points point_columns (with_list device ps)

pub list_entered : (put : DeviceList) (device : List ℕ) (ps : List Point) → device ≡ put.device
    → ((d : List ℕ) → map (listed_at d) ps ≡ placed_on (listed d) 0 put.list.points)
    → (tables after : Content) → PutsList device ps tables after → Records (fact.List put) tables after
list_entered put device ps device_is are tables after puts =
    list_recorded put ps tables after (are put.device) (subst (λ d. PutsList d ps tables after) device_is puts)

-- Lemmas that the row that is inserted for a new accounting register (a named energy counter)
-- encodes the record of the register.

abbrev pub AddsRegister : (name device : List ℕ) → RegisterRow → Content → Content → Type 0
AddsRegister name device row = Edits list_tree.registers register_columns (with_row (let r : Registered = record { name = name; device = device; row = row } in r))

abbrev pub IsNextRegister : ℕ → Content → Content → Type 0
IsNextRegister = IsNext list_tree.registers register_columns every register_place

pub register_entered : (register : Register) (place : ℕ) (name device : List ℕ) (row : RegisterRow) → name ≡ register.name → device ≡ register.device → row ≡ (registered place register).row
    → (before mid after : Content) → IsNextRegister place before mid → AddsRegister name device row mid after → Records (fact.Register register) before after
register_entered register place name device row name_is device_is row_is before mid after next adds =
    let is : (let r : Registered = record { name = name; device = device; row = row } in r) ≡ registered place register = λ i. record { name = name_is i; device = device_is i; row = row_is i } in
    register_recorded register place before after next.following
    (subst (λ (r : Registered). Edits list_tree.registers register_columns (with_row r) before after) is (subst (λ tables. AddsRegister name device row tables after) next.same adds))

-- Lemmas that the rows that are inserted into `polls`, `outcomes` and `holds` encode the records of
-- a poll, its outcome and a rejected reading.

abbrev pub AddsPoll : (device : List ℕ) → PollRow → Content → Content → Type 0
AddsPoll device row = Edits poll_tree.polls poll_columns (with_row (let p : Started = record { device = device; row = row } in p))

pub poll_entered : (poll : Poll) (device : List ℕ) (row : PollRow) → device ≡ poll.device → row ≡ (started poll).row
    → (tables after : Content) → AddsPoll device row tables after → Records (fact.Poll poll) tables after
poll_entered poll device row device_is row_is tables after adds =
    let is : (let p : Started = record { device = device; row = row } in p) ≡ started poll = λ i. record { device = device_is i; row = row_is i } in
    poll_recorded poll tables after (subst (λ (p : Started). Edits poll_tree.polls poll_columns (with_row p) tables after) is adds)

abbrev pub AddsOutcome : OutcomeRow → Content → Content → Type 0
AddsOutcome row = Edits poll_tree.outcomes outcome_columns (with_row row)

pub outcome_entered : (ended : EndedPoll) (row : OutcomeRow) → row ≡ outcome_row ended → (tables after : Content) → AddsOutcome row tables after → Records (fact.Outcome ended) tables after
outcome_entered ended row is tables after adds = outcome_recorded ended tables after (subst (λ (o : OutcomeRow). Edits poll_tree.outcomes outcome_columns (with_row o) tables after) is adds)

abbrev pub AddsHold : (meter : List ℕ) → RejectedRow → Content → Content → Type 0
AddsHold meter row = Edits poll_tree.holds hold_columns (with_row (let h : Held = record { meter = meter; row = row } in h))

abbrev pub IsNextHold : ℕ → Content → Content → Type 0
IsNextHold = IsNext poll_tree.holds hold_columns every hold_place

pub hold_entered : HoldsChangeNothing → (held : HeldReading) (place : ℕ) (meter : List ℕ) (row : RejectedRow) → meter ≡ held.meter → row ≡ (held_row place held).row
    → (before mid after : Content) → IsNextHold place before mid → AddsHold meter row mid after → Records (fact.Hold held) before after
hold_entered law held place meter row meter_is row_is before mid after next adds =
    let is : (let h : Held = record { meter = meter; row = row } in h) ≡ held_row place held = λ i. record { meter = meter_is i; row = row_is i } in
    hold_recorded law held place before after next.following
    (subst (λ (h : Held). Edits poll_tree.holds hold_columns (with_row h) before after) is (subst (λ content. AddsHold meter row content after) next.same adds))

-- Lemma that the row that is inserted into `replies` encodes the record of an accepted request.

abbrev pub AddsReply : (caller : List ℕ) → (number : ℕ) → (request : List ℕ) → CommandKind → (moment : ℕ) → Content → Content → Type 0
AddsReply caller number request kind moment =
    Edits poll_tree.replies reply_columns (with_row (let k : Kept = record { caller = caller; number = number; request = request; kind = kind; moment = moment } in k))

pub reply_entered : (reply : Reply) (caller request : List ℕ) → caller ≡ reply.caller → request ≡ reply.request
    → (tables after : Content) → AddsReply caller reply.number request reply.kind reply.at tables after → Records (fact.Reply reply) tables after
reply_entered reply caller request caller_is request_is tables after adds =
    let is : (let k : Kept = record { caller = caller; number = reply.number; request = request; kind = reply.kind; moment = reply.at } in k) ≡ kept reply =
    λ i. record { caller = caller_is i; number = reply.number; request = request_is i; kind = reply.kind; moment = reply.at } in
    reply_recorded reply tables after (subst (λ (k : Kept). Edits poll_tree.replies reply_columns (with_row k) tables after) is adds)
