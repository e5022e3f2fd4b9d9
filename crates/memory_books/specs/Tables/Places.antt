-- Tables in which a search by key finds the indices of records in the list of all records.
use Rattle.std.specs.Prelude.{◌≡◌, ℕ, Bool, false, List, [], ◌∷◌, ◌++◌, cond, reverse, length, Option, Some, None, if◌then◌else◌}
use Rattle.std.specs.BTreeMap.{get}
use Rattle.std.specs.Ordering.{is_eq}
use Rattle.std.specs.List.{slice_get}
use Rattle.std.specs.declared.vec.Vec.{Vec}
use Rattle.office_events.specs.declared.facts.DeviceList.{DeviceList}
use Rattle.office_events.specs.declared.facts.Register.{Register}
use Rattle.office_events.specs.declared.facts.Opening.{Opening}
use Rattle.office_events.specs.declared.facts.Reply.{Reply}
use Rattle.office_events.specs.declared.facts.Fact.{Fact}
use Rattle.office_events.specs.declared.facts.Fact.TheVariants as fact
use Rattle.memory_books.specs.declared.tables.keys.Key.{Key}
use Rattle.memory_books.specs.declared.tables.places.Kind.{Kind}
use Rattle.memory_books.specs.declared.tables.places.Kind.TheVariants.{DeviceLists, Registers, DeviceRegisters, RegisterOpenings, Replies}
use Rattle.memory_books.specs.declared.tables.places.Places.{Places}
use Rattle.memory_books.specs.Tables.Keys.{key_cmp, named, numbered, is_same_key}

-- The key of a point list (the Modbus registers to read) in a table of record indices of the given
-- kind. `None` if the table does not index point lists.
abbrev pub list_key : Kind → DeviceList → Option Key
list_key DeviceLists put = Some (named put.device)
list_key Registers put = None
list_key DeviceRegisters put = None
list_key RegisterOpenings put = None
list_key Replies put = None

-- The key of an accounting register (a named energy counter) in a table of record indices of the
-- given kind, or `None` if the table does not index registers.
abbrev pub register_key : Kind → Register → Option Key
register_key DeviceLists register = None
register_key Registers register = Some (named register.name)
register_key DeviceRegisters register = Some (named register.device)
register_key RegisterOpenings register = None
register_key Replies register = None

-- The key of an opening (the installation of a meter) in a table of record indices of the given
-- kind, or `None` if the table does not index openings.
abbrev pub opening_key : Kind → Opening → Option Key
opening_key DeviceLists opening = None
opening_key Registers opening = None
opening_key DeviceRegisters opening = None
opening_key RegisterOpenings opening = Some (named opening.register)
opening_key Replies opening = None

-- The key of a stored response (to a request with an idempotency key) in a table of record indices
-- of the given kind. `None` if the table does not index responses.
abbrev pub reply_key : Kind → Reply → Option Key
reply_key DeviceLists reply = None
reply_key Registers reply = None
reply_key DeviceRegisters reply = None
reply_key RegisterOpenings reply = None
reply_key Replies reply = Some (numbered reply.caller reply.number)

-- The key of a record in a table of record indices of the given kind, or `None` if the table does
-- not index the record.
abbrev pub key_in : Kind → Fact → Option Key
key_in kind (fact.Device device) = None
key_in kind (fact.List put) = list_key kind put
key_in kind (fact.Register register) = register_key kind register
key_in kind (fact.Opening opening) = opening_key kind opening
key_in kind (fact.Entry booked) = None
key_in kind (fact.Hold held) = None
key_in kind (fact.Void voided) = None
key_in kind (fact.Poll poll) = None
key_in kind (fact.Outcome ended) = None
key_in kind (fact.Reply reply) = reply_key kind reply

-- True if the optional key is present and equal to the given key.
abbrev pub is_key : Key → Option Key → Bool
is_key key None = false
is_key key (Some own) = is_same_key own key

-- True if a table of record indices of the given kind indexes the record under this key.
abbrev pub has_key : Kind → Key → Fact → Bool
has_key kind key f = is_key key (key_in kind f)

-- The indices of the records that satisfy the given predicate, the latest first. Index 0 is the
-- record that was added first.
abbrev pub places_of : (Fact → Bool) → List Fact → List ℕ
places_of p [] = []
places_of p (f ∷ facts) = if p f then length facts ∷ places_of p facts else places_of p facts

-- The record indices that a table has under one key, or an empty list if the key is missing.
abbrev pub under : {Z : Type 0} → Option (Vec ℕ Z) → List ℕ
under None = []
under (Some places) = places.items

-- The index of the latest record that satisfies the given predicate, or `None` if no record
-- satisfies it.
abbrev pub latest_place : (Fact → Bool) → List Fact → Option ℕ
latest_place p known = slice_get (places_of p known) 0

-- True if the record index `place` was appended to the indices under the given key, and the indices
-- under all other keys are unchanged.
abbrev pub HaveOneMore : Key → (place : ℕ) → (before after : Places) → Type 0
HaveOneMore key place before after =
    (other : Key) → under (get key_cmp after.places other)
    ≡ cond (is_eq (key_cmp key other)) (under (get key_cmp before.places key) ++ place ∷ [])
    (under (get key_cmp before.places other))

-- True if a map from keys to record indices, in a store in memory, has the same indices under each
-- key as before.
abbrev pub AreUnchanged : (before after : Places) → Type 0
AreUnchanged before after =
    (other : Key) → under (get key_cmp after.places other) ≡ under (get key_cmp before.places other)

-- True if the record indices under each key are those of the records with this key, in the order in
-- which the records were added.
abbrev pub ArePlacesOf : Kind → Places → List Fact → Type 0
ArePlacesOf kind places known =
    (key : Key) → under (get key_cmp places.places key)
    ≡ reverse (places_of (has_key kind key) known)

-- True if an in-memory lookup table maps each key to the indices of exactly those records that have
-- this key. The table's kind decides what a record's key is.
abbrev pub ArePlaces : Places → List Fact → Type 0
ArePlaces places known = ArePlacesOf places.kind places known
