-- Lemmas that the records stay lawful after an accepted command adds a device, a point list, an
-- accounting register (a named energy counter) or a meter. Lawful means that the rules for adding
-- records accept each record after the earlier ones.
use Rattle.std.proofs.Common.{◌≡◌, ℕ, ◌≤◌, nat_lt, nat_le, true, false, ◌||◌, List, ◌++◌, reverse, refl, sym, ◌∙◌, Option, Some, None, arith}
use Rattle.std.specs.Option.{is_some, is_none, option_map, option_and_then, option_to_list}
use Rattle.std.proofs.lemmas.Bool.{or_parts, ltb-false}
use Rattle.read_plan.specs.PlannedLists.{Planned, IsPlanned}
use Rattle.office_events.specs.declared.facts.Fact.{Fact}
use Rattle.office_events.specs.declared.facts.Fact.TheVariants as fact
use Rattle.office_events.specs.declared.commands.AddDevice.{AddDevice}
use Rattle.office_events.specs.declared.commands.AddRegister.{AddRegister}
use Rattle.office_events.specs.declared.commands.Install.{Install}
use Rattle.office_books.specs.Facts.{moment_limit, latest_in, device_of, register_of, opening_of}
use Rattle.office_books.specs.Meters.{open_at}
use Rattle.office_books.specs.Sessions.{Slot, slot_of}
use Rattle.office_books.specs.History.{register_by, opening_by}
use Rattle.office_books.specs.Refusals.{is_outside, is_off_scale, is_bad_meter}
use Rattle.office_books.specs.Lawful.{AreLawful}
use Rattle.office_books.proofs.Lookups.{none_from_is_some}
use Rattle.office_books.proofs.LawfulExchange.{inside, lawful_scale, below}
use Rattle.office_books.proofs.DeviceSlots.{HaveSameDevices, same_names}

pub device_fits : (slots : List Slot) (facts : List Fact) (c : AddDevice) (name : Option (List ℕ)) → HaveSameDevices slots facts
    → AreLawful facts → is_some (slot_of slots name) ≡ false
    → ((is_none name || nat_lt 255 c.unit) || is_outside 1 60 c.timeout) || is_outside 1 16 c.window ≡ false
    → AreLawful (reverse (option_to_list (option_map fact.Device (option_map (λ n. record { name = n; unit = c.unit; timeout = c.timeout; window = c.window }) name))) ++ facts)
device_fits slots facts c None devices h new fields = h
device_fits slots facts c (Some name) devices h new fields =
    let last = or_parts (nat_lt 255 c.unit || is_outside 1 60 c.timeout) (is_outside 1 16 c.window) fields in
    let third = or_parts (nat_lt 255 c.unit) (is_outside 1 60 c.timeout) last.0 in (
      (
        record {
          new = none_from_is_some (device_of facts name) (sym (same_names slots facts devices name) ∙ new);
          unit = ltb-false 255 c.unit third.0;
          timeout = inside 1 60 c.timeout third.1;
          window = inside 1 16 c.window last.1;
        },
        omega arith,
      ),
      h,
    )

not_none : {X : Type 0} (o : Option X) → is_none o ≡ false → is_some o ≡ true
not_none None h = absurd (cc)
not_none (Some x) h = refl

-- If a slot (a device with its connections) has the given device name, then a device record with
-- this name exists.
known_device : (slots : List Slot) (facts : List Fact) (device : List ℕ) → HaveSameDevices slots facts → is_none (slot_of slots (Some device)) ≡ false
    → is_some (device_of facts device) ≡ true
known_device slots facts device devices known =
    sym (same_names slots facts devices device) ∙ not_none (slot_of slots (Some device)) known

pub list_fits : (slots : List Slot) (facts : List Fact) (list : Planned) (device : Option (List ℕ)) → HaveSameDevices slots facts → AreLawful facts
    → is_none (slot_of slots device) ≡ false → IsPlanned list
    → AreLawful (reverse (option_to_list (option_map (λ d. fact.List (record { device = d; list = list })) device)) ++ facts)
list_fits slots facts list None devices h known planned = h
list_fits slots facts list (Some device) devices h known planned =
    ((record { device = known_device slots facts device devices known; planned = planned }, omega arith), h)

pub register_fits : (slots : List Slot) (facts : List Fact) (c : AddRegister) (name device : Option (List ℕ)) → HaveSameDevices slots facts
    → AreLawful facts → is_none (slot_of slots device) ≡ false → is_some (option_and_then (register_of facts) name) ≡ false
    → AreLawful (reverse (option_to_list (option_and_then (λ n. option_map (λ d. register_by c n d) device) name)) ++ facts)
register_fits slots facts c None device devices h known new = h
register_fits slots facts c (Some name) None devices h known new = h
register_fits slots facts c (Some name) (Some device) devices h known new = (
  (
    record {
      new = none_from_is_some (register_of facts name) new;
      device = known_device slots facts device devices known;
    },
    omega arith,
  ),
  h,
)

pub opening_fits : (facts : List Fact) (at : ℕ) (c : Install) (register meter : Option (List ℕ)) → AreLawful facts → at ≤ moment_limit → latest_in facts ≤ at
    → is_none (option_and_then (register_of facts) register) ≡ false
    → (is_some (option_and_then (opening_of facts) meter) || is_some (option_and_then (open_at facts) register)) ≡ false
    → is_off_scale c.sf ≡ false → is_bad_meter meter c.range c.raw c.ceiling ≡ false
    → AreLawful (reverse (option_to_list (option_and_then (λ r. option_map (λ m. opening_by at c r m) meter) register)) ++ facts)
opening_fits facts at c None meter h timely latest known new scale fields = h
opening_fits facts at c (Some register) None h timely latest known new scale fields = h
opening_fits facts at c (Some register) (Some meter) h timely latest known new scale fields =
    let free = or_parts (is_some (opening_of facts meter)) (is_some (open_at facts register)) new in
    let last = or_parts (is_outside 65536 4294967296 c.range || nat_le c.range c.raw) (is_outside 1 1000000000 c.ceiling) fields in
    let third = or_parts (is_outside 65536 4294967296 c.range) (nat_le c.range c.raw) last.0 in (
      (
        record {
          new = none_from_is_some (opening_of facts meter) free.0;
          free = none_from_is_some (open_at facts register) free.1;
          register = not_none (register_of facts register) known;
          latest = latest;
          range = inside 65536 4294967296 c.range third.0;
          raw = below c.range c.raw third.1;
          scale = lawful_scale c.sf scale;
          ceiling = inside 1 1000000000 c.ceiling last.1;
        },
        timely,
      ),
      h,
    )
