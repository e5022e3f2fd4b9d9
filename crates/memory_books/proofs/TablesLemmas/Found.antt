-- Lemmas: lookups by key in the tables of a store in memory return the same results as searches of
-- all records.
use Rattle.std.proofs.Common.{◌≡◌, ℕ, ◌==◌, ◌&&◌, Bool, true, false, cond, List, [], ◌∷◌, reverse, length, Option, Some, None, refl, ap, ◌∙◌, Result, Ok, Err, IfOk}
use Rattle.std.specs.List.{filter, filter_map, cons_option, slice_get}
use Rattle.std.specs.Option.{option_and_then, option_map}
use Rattle.mb_wire.specs.declared.span.ReadSpan.{ReadSpan}
use Rattle.office_events.specs.declared.facts.Register.{Register}
use Rattle.office_events.specs.declared.facts.Opening.{Opening}
use Rattle.office_events.specs.declared.facts.DeviceList.{DeviceList}
use Rattle.office_events.specs.declared.facts.Reply.{Reply}
use Rattle.office_events.specs.declared.facts.Fact.{Fact}
use Rattle.office_events.specs.declared.facts.Fact.TheVariants as fact
use Rattle.read_plan.specs.PlannedLists.{Planned}
use Rattle.office_books.specs.Repeats.{as_repeat, repeat_of}
use Rattle.office_books.specs.Facts.{same, if_some, as_list, as_register, as_opening, as_reply, register_of, registers_of, installed_at, list_of}
use Rattle.office_books.specs.Intervals.{installations_at}
use Rattle.office_books.specs.Readings.{is_read_by}
use Rattle.memory_books.specs.declared.tables.keys.Key.{Key}
use Rattle.memory_books.specs.declared.tables.places.Kind.{Kind}
use Rattle.memory_books.specs.declared.tables.places.Kind.TheVariants.{DeviceLists, Registers, DeviceRegisters, RegisterOpenings, Replies}
use Rattle.memory_books.specs.Tables.Keys.{named, numbered}
use Rattle.memory_books.specs.Tables.Places.{has_key, places_of, latest_place}
use Rattle.memory_books.specs.Tables.Lookups.{register_at, if_read, register_read_at, opening_at, list_at, repeat_at}
use Rattle.memory_books.proofs.TablesLemmas.Standing.{passes, all_at, latest_at, counted_at, filter_map_twice}

and_true : (b : Bool) → (b && true) ≡ b
and_true true = refl
and_true false = refl

by_register : (name : List ℕ) (f : Fact) → has_key Registers (named name) f ≡ passes (λ (r : Register). same r.name name) (as_register f)
by_register name (fact.Device d) = refl
by_register name (fact.List l) = refl
by_register name (fact.Register r) = and_true (same r.name name)
by_register name (fact.Opening o) = refl
by_register name (fact.Entry b) = refl
by_register name (fact.Hold b) = refl
by_register name (fact.Void v) = refl
by_register name (fact.Poll p) = refl
by_register name (fact.Outcome e) = refl
by_register name (fact.Reply r) = refl

by_device : (device : List ℕ) (f : Fact) → has_key DeviceRegisters (named device) f ≡ passes (λ (r : Register). same r.device device) (as_register f)
by_device name (fact.Device d) = refl
by_device name (fact.List l) = refl
by_device name (fact.Register r) = and_true (same r.device name)
by_device name (fact.Opening o) = refl
by_device name (fact.Entry b) = refl
by_device name (fact.Hold b) = refl
by_device name (fact.Void v) = refl
by_device name (fact.Poll p) = refl
by_device name (fact.Outcome e) = refl
by_device name (fact.Reply r) = refl

at_register : (register : List ℕ) (f : Fact) → has_key RegisterOpenings (named register) f ≡ passes (λ (o : Opening). same o.register register) (as_opening f)
at_register name (fact.Device d) = refl
at_register name (fact.List l) = refl
at_register name (fact.Register r) = refl
at_register name (fact.Opening o) = and_true (same o.register name)
at_register name (fact.Entry b) = refl
at_register name (fact.Hold b) = refl
at_register name (fact.Void v) = refl
at_register name (fact.Poll p) = refl
at_register name (fact.Outcome e) = refl
at_register name (fact.Reply r) = refl

of_device : (device : List ℕ) (f : Fact) → has_key DeviceLists (named device) f ≡ passes (λ (put : DeviceList). same put.device device) (as_list f)
of_device name (fact.Device d) = refl
of_device name (fact.List l) = and_true (same l.device name)
of_device name (fact.Register r) = refl
of_device name (fact.Opening o) = refl
of_device name (fact.Entry b) = refl
of_device name (fact.Hold b) = refl
of_device name (fact.Void v) = refl
of_device name (fact.Poll p) = refl
of_device name (fact.Outcome e) = refl
of_device name (fact.Reply r) = refl

by_caller : (caller : List ℕ) (number : ℕ) (f : Fact)
    → has_key Replies (numbered caller number) f ≡ passes (λ (reply : Reply). same reply.caller caller && (reply.number == number)) (as_reply f)
by_caller name number (fact.Device d) = refl
by_caller name number (fact.List l) = refl
by_caller name number (fact.Register r) = refl
by_caller name number (fact.Opening o) = refl
by_caller name number (fact.Entry b) = refl
by_caller name number (fact.Hold b) = refl
by_caller name number (fact.Void v) = refl
by_caller name number (fact.Poll p) = refl
by_caller name number (fact.Outcome e) = refl
by_caller name number (fact.Reply r) = refl

-- Looking up a key in a table of record indices finds the same record as searching all records for
-- the latest record with this key.
pub looked_up : {Y : Type 0} (at : List Fact → ℕ → Option Y) (facts known : List Fact) (place : Option ℕ) (key own : Key) (kind : Kind) → facts ≡ reverse known
    → place ≡ latest_place (has_key kind key) known → key ≡ own
    → option_and_then (at facts) place ≡ option_and_then (at (reverse known)) (latest_place (has_key kind own) known)
looked_up at facts known place key own kind is found same =
    ap (λ (fs : List Fact). option_and_then (at fs) place) is
    ∙ ap (option_and_then (at (reverse known))) (found ∙ ap (λ (k : Key). latest_place (has_key kind k) known) same)

pub if_ok_then : {T E : Type 0} {P Q : T → Type 0} (r : Result T E) → ((x : T) → P x → Q x) → IfOk r P → IfOk r Q
if_ok_then (Ok x) f h = f x h
if_ok_then (Err e) f h = tt

pub register_found : (known : List Fact) (name : List ℕ)
    → option_and_then (register_at (reverse known)) (latest_place (has_key Registers (named name)) known) ≡ register_of known name
register_found known name = latest_at as_register (has_key Registers (named name)) (λ (r : Register). same r.name name) (by_register name) known

pub registers_found : (known : List Fact) (device : List ℕ)
    → filter_map (register_at (reverse known)) (reverse (places_of (has_key DeviceRegisters (named device)) known)) ≡ registers_of known device
registers_found known device = all_at as_register (has_key DeviceRegisters (named device)) (λ (r : Register). same r.device device) (by_device device) known

pub registers_counted : (known : List Fact) (device : List ℕ)
    → length (reverse (places_of (has_key DeviceRegisters (named device)) known)) ≡ length (registers_of known device)
registers_counted known device = counted_at as_register (has_key DeviceRegisters (named device)) (λ (r : Register). same r.device device) (by_device device) known

and_then_both : {X Y Z : Type 0} (g : X → Option Y) (h : Y → Option Z) (o : Option X)
    → option_and_then (λ x. option_and_then h (g x)) o ≡ option_and_then h (option_and_then g o)
and_then_both g h None = refl
and_then_both g h (Some x) = refl

filter_map_same : {X Y : Type 0} (g k : X → Option Y) → ((x : X) → g x ≡ k x) → (xs : List X) → filter_map g xs ≡ filter_map k xs
filter_map_same g k is [] = refl
filter_map_same g k is (x ∷ xs) = ap (λ o. cons_option o (filter_map g xs)) (is x) ∙ ap (cons_option (k x)) (filter_map_same g k is xs)

-- If two lists are equal, they remain equal after the element `x` is put in front of both lists, or
-- of neither list.
if_chosen : {X : Type 0} (b : Bool) (x : X) (ys zs : List X) → ys ≡ zs → cons_option (cond b (Some x) None) ys ≡ cond b (x ∷ zs) zs
if_chosen true x ys zs is = ap (λ l. x ∷ l) is
if_chosen false x ys zs is = is

those_read : (span : ReadSpan) (registers : List Register) → filter_map (if_read span) registers ≡ filter (is_read_by span) registers
those_read span [] = refl
those_read span (r ∷ rs) = if_chosen (is_read_by span r) r (filter_map (if_read span) rs) (filter (is_read_by span) rs) (those_read span rs)

reads_at : (span : ReadSpan) (facts : List Fact) (i : ℕ) → register_read_at span facts i ≡ option_and_then (if_read span) (register_at facts i)
reads_at span facts i = and_then_both as_register (if_read span) (slice_get facts i)

pub registers_read_found : (known : List Fact) (device : List ℕ) (span : ReadSpan)
    → filter_map (register_read_at span (reverse known)) (reverse (places_of (has_key DeviceRegisters (named device)) known))
    ≡ filter (is_read_by span) (registers_of known device)
registers_read_found known device span =
    let places : List ℕ = reverse (places_of (has_key DeviceRegisters (named device)) known) in
    let found : ℕ → Option Register = register_at (reverse known) in
    filter_map_same (register_read_at span (reverse known)) (λ (i : ℕ). option_and_then (if_read span) (found i)) (reads_at span (reverse known)) places
    ∙ filter_map_twice found (if_read span) places
    ∙ ap (filter_map (if_read span)) (registers_found known device)
    ∙ those_read span (registers_of known device)

pub opening_found : (known : List Fact) (register : List ℕ)
    → option_and_then (opening_at (reverse known)) (latest_place (has_key RegisterOpenings (named register)) known) ≡ installed_at known register
opening_found known register = latest_at as_opening (has_key RegisterOpenings (named register)) (λ (o : Opening). same o.register register) (at_register register) known

pub openings_found : (known : List Fact) (register : List ℕ)
    → filter_map (opening_at (reverse known)) (reverse (places_of (has_key RegisterOpenings (named register)) known)) ≡ installations_at known register
openings_found known register =
    all_at as_opening (has_key RegisterOpenings (named register)) (λ (o : Opening). same o.register register) (at_register register) known

map_and_then : {X Y Z : Type 0} (g : X → Option Y) (h : Y → Z) (o : Option X)
    → option_and_then (λ x. option_map h (g x)) o ≡ option_map h (option_and_then g o)
map_and_then g h None = refl
map_and_then g h (Some x) = refl

lists_at : (facts : List Fact) (i : ℕ) → list_at facts i ≡ option_and_then (λ (put : DeviceList). if_some put.list.points put.list) (option_and_then as_list (slice_get facts i))
lists_at facts i = and_then_both as_list (λ (put : DeviceList). if_some put.list.points put.list) (slice_get facts i)

and_then_same : {X Y : Type 0} (g k : X → Option Y) → ((x : X) → g x ≡ k x) → (o : Option X) → option_and_then g o ≡ option_and_then k o
and_then_same g k is None = refl
and_then_same g k is (Some x) = is x

pub list_found : (known : List Fact) (device : List ℕ)
    → option_and_then (list_at (reverse known)) (latest_place (has_key DeviceLists (named device)) known) ≡ list_of known device
list_found known device =
    let chosen : DeviceList → Option Planned = λ put. if_some put.list.points put.list in
    let append_at : ℕ → Option DeviceList = λ i. option_and_then as_list (slice_get (reverse known) i) in
    and_then_same (list_at (reverse known)) (λ (i : ℕ). option_and_then chosen (append_at i)) (lists_at (reverse known)) (latest_place (has_key DeviceLists (named device)) known)
    ∙ and_then_both append_at chosen (latest_place (has_key DeviceLists (named device)) known)
    ∙ ap (option_and_then chosen) (latest_at as_list (has_key DeviceLists (named device)) (λ (put : DeviceList). same put.device device) (of_device device) known)

repeats_at : (request : List ℕ) (facts : List Fact) (i : ℕ) → repeat_at request facts i ≡ option_map (as_repeat request) (option_and_then as_reply (slice_get facts i))
repeats_at request facts i = map_and_then as_reply (as_repeat request) (slice_get facts i)

pub repeat_found : (known : List Fact) (caller : List ℕ) (number : ℕ) (request : List ℕ)
    → option_and_then (repeat_at request (reverse known)) (latest_place (has_key Replies (numbered caller number)) known) ≡ repeat_of known caller number request
repeat_found known caller number request =
    let p : Fact → Bool = has_key Replies (numbered caller number) in
    let reply_at : ℕ → Option Reply = λ i. option_and_then as_reply (slice_get (reverse known) i) in
    and_then_same (repeat_at request (reverse known)) (λ (i : ℕ). option_map (as_repeat request) (reply_at i)) (repeats_at request (reverse known)) (latest_place p known)
    ∙ map_and_then reply_at (as_repeat request) (latest_place p known)
    ∙ ap (option_map (as_repeat request))
    (latest_at as_reply p (λ (reply : Reply). same reply.caller caller && (reply.number == number)) (by_caller caller number) known)
