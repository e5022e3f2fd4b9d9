-- Worked examples of manual entries. If an entry adds more energy than the meter's greatest power
-- gives in the time since the last entry, then the entry needs a confirmation.
use Rattle.std.proofs.Common.{◌≡◌, ℕ, ℤ, pos, negsuc, true, false, List, [], ◌∷◌, Option, Some, None, refl}
use Rattle.std.specs.Prelude.{codes}
use Rattle.energy_core.specs.Value.{unit_of}
use Rattle.energy_core.specs.declared.entries.Entry.TheVariants as entry
use Rattle.meter_journal.specs.declared.lines.EntryKind.TheVariants as kind
use Rattle.office_events.specs.declared.answers.CommandKind.TheVariants as done
use Rattle.office_events.specs.declared.commands.Command.{Command}
use Rattle.office_events.specs.declared.commands.Command.TheVariants as command
use Rattle.office_events.specs.declared.events.Asked.{Asked}
use Rattle.office_events.specs.declared.facts.Fact.{Fact}
use Rattle.office_events.specs.declared.facts.Fact.TheVariants as fact
use Rattle.office_events.specs.declared.facts.Opening.{Opening}
use Rattle.office_events.specs.declared.questions.Installation.{Installation}
use Rattle.office_program.specs.Entering.Doubts.{doubt_of, doubted_at}
use Rattle.office_program.specs.Entering.Marks.{is_marked, unmarked}

abbrev main : List ℕ
main = codes "main"

abbrev m1 : List ℕ
m1 = codes "m1"

abbrev desk : List ℕ
desk = codes "desk"

-- Example: a meter that counts Wh, with a ceiling (greatest power) of 100 kW, assigned to an
-- accounting register (a named energy counter). The ceiling allows 100,000 counts an hour.

abbrev opening : (sf : ℤ) → (raw range : ℕ) → Opening
opening sf raw range = record { meter = m1; register = main; ceiling = 100000; range = range; at = 1000; raw = raw; sf = sf }

abbrev meter : (sf : ℤ) → (raw range : ℕ) → Installation
meter sf raw range = record {
  opening = opening sf raw range;
  last = record { at = 1000; raw = raw; sf = sf };
  total = 0;
  ended = false;
}

abbrev wh : Installation
wh = meter (pos 0) 5000 4294967296

abbrev manual : (raw rolls : ℕ) → Option ℕ → Command
manual raw rolls at = command.Manual (record { register = Some main; raw = raw; rolls = rolls; at = at })

abbrev exchange : (last rolls : ℕ) → Command
exchange last rolls = command.Exchange (record {
  register = Some main;
  last = last;
  rolls = rolls;
  meter = Some (codes "m2");
  raw = 0;
  sf = pos 0;
  ceiling = 100000;
  range = 4294967296;
})

-- An hour after the meter's last entry, a manual entry with 100,001 more counts needs no
-- confirmation. At the last entry, the counter may have been about to advance, so the first count
-- may need no energy.
the_most_in_an_hour : doubted_at 4600 (manual 105001 0 None) wh ≡ None
unfolding unit_of
the_most_in_an_hour = refl

one_count_more : doubted_at 4600 (manual 105002 0 None) wh ≡ Some 100002000
unfolding unit_of
one_count_more = refl

a_second_later : doubted_at 4601 (manual 105002 0 None) wh ≡ None
unfolding unit_of
a_second_later = refl

-- If a manual entry is for a time half an hour after the last entry, then it needs a confirmation
-- only above 50,001 more counts.
the_most_half_an_hour_ago : doubted_at 4600 (manual 55001 0 (Some 2800)) wh ≡ None
unfolding unit_of
the_most_half_an_hour_ago = refl

one_more_half_an_hour_ago : doubted_at 4600 (manual 55002 0 (Some 2800)) wh ≡ Some 50002000
unfolding unit_of
one_more_half_an_hour_ago = refl

-- Examples: a manual reading that would record more energy than the meter's power limit allows
-- needs a confirmation. The same rule holds for the last reading of a closed or exchanged meter,
-- and for readings before a reset or rescaling.
the_most_before_an_exchange : doubted_at 4600 (exchange 105001 0) wh ≡ None
unfolding unit_of
the_most_before_an_exchange = refl

one_more_before_an_exchange : doubted_at 4600 (exchange 105002 0) wh ≡ Some 100002000
unfolding unit_of
one_more_before_an_exchange = refl

the_most_at_the_end : doubted_at 4600 (command.Close (record { register = Some main; raw = 105001; rolls = 0 })) wh ≡ None
unfolding unit_of
the_most_at_the_end = refl

one_more_at_the_end : doubted_at 4600 (command.Close (record { register = Some main; raw = 105002; rolls = 0 })) wh ≡ Some 100002000
unfolding unit_of
one_more_at_the_end = refl

the_most_before_a_reset : doubted_at 4600 (command.Reset (record { register = Some main; before = 105001; after = 0 })) wh ≡ None
unfolding unit_of
the_most_before_a_reset = refl

one_more_before_a_reset : doubted_at 4600 (command.Reset (record { register = Some main; before = 105002; after = 0 })) wh ≡ Some 100002000
unfolding unit_of
one_more_before_a_reset = refl

the_most_before_another_scale :
    doubted_at 4600 (command.Rescale (record { register = Some main; before = 105001; after = 105; sf = pos 3 })) wh ≡ None
unfolding unit_of
the_most_before_another_scale = refl

one_more_before_another_scale :
    doubted_at 4600 (command.Rescale (record { register = Some main; before = 105002; after = 105; sf = pos 3 })) wh ≡ Some 100002000
unfolding unit_of
one_more_before_another_scale = refl

-- If a manual entry reports a rollover, then the counts up to the rollover are added to the counts
-- after the rollover.
--
-- The counter of this example rolls over at 65,536 and counts thousandths of a Wh. One second
-- before the manual entry it showed 65,000.
the_most_over_a_turn : doubted_at 1001 (manual 27242 1 None) (meter (negsuc 2) 65000 65536) ≡ None
unfolding unit_of
the_most_over_a_turn = refl

one_more_over_a_turn : doubted_at 1001 (manual 27243 1 None) (meter (negsuc 2) 65000 65536) ≡ Some 27779
unfolding unit_of
one_more_over_a_turn = refl

another_turn : doubted_at 1001 (manual 27242 2 None) (meter (negsuc 2) 65000 65536) ≡ Some 93314
unfolding unit_of
another_turn = refl

-- If the office (the event engine) refuses a manual entry because it is not later than the last
-- entry or decreases the counter, the entry needs no confirmation. Commands without a manual entry
-- need no confirmation.
no_later : doubted_at 1000 (manual 4000000000 0 None) wh ≡ None
unfolding unit_of
no_later = refl

goes_back : doubted_at 1001 (manual 4999 0 None) wh ≡ None
unfolding unit_of
goes_back = refl

an_installation : doubted_at 1001
    (command.Install (record { register = Some main; meter = Some (codes "m2"); raw = 4000000000; sf = pos 0; ceiling = 1; range = 4294967296 })) wh ≡ None
an_installation = refl

-- Examples of requests whose manual entries need a confirmation.

abbrev asked : (request : List ℕ) → Asked
asked request = record { caller = Some desk; number = 5; request = request; command = manual 105002 0 None }

abbrev installed : List Fact
installed = fact.Opening (opening (pos 0) 5000 4294967296) ∷ []

abbrev line : List ℕ
line = codes "5 manual main 105002 0"

a_new_one : doubt_of installed 4600 (asked line) ≡ Some 100002000
unfolding unit_of
a_new_one = refl

a_marked_one : doubt_of installed 4600 (asked (codes "5 manual main 105002 0 !")) ≡ None
unfolding unit_of
a_marked_one = refl

abbrev kept : (request : List ℕ) → List Fact
kept request = fact.Reply (record { caller = desk; number = 5; request = request; kind = done.Manual; at = 2000 }) ∷ installed

one_that_is_kept : doubt_of (kept line) 4600 (asked line) ≡ None
unfolding unit_of
one_that_is_kept = refl

one_of_a_number_that_is_kept : doubt_of (kept (codes "5 device inv 1 5 1")) 4600 (asked line) ≡ None
unfolding unit_of
one_of_a_number_that_is_kept = refl

one_after_the_meter_was_closed :
    doubt_of (fact.Entry (record { meter = m1; kind = kind.Closing; entry = entry.Step 2000 5001 0 }) ∷ installed) 4600 (asked line) ≡ None
unfolding unit_of
one_after_the_meter_was_closed = refl

one_where_no_meter_is : doubt_of [] 4600 (asked line) ≡ None
unfolding unit_of
one_where_no_meter_is = refl

-- Examples of the mark ` !` at the end of an input line, which confirms a manual entry.

a_mark : is_marked (codes "5 close main 6000 0 !") ≡ true
a_mark = refl

no_mark : is_marked (codes "5 close main 6000 0") ≡ false
no_mark = refl

no_word : is_marked (codes "5 close main 6000 0!") ≡ false
no_word = refl

not_the_last : is_marked (codes "5 close ! 6000 0") ≡ false
not_the_last = refl

what_was_said : unmarked (codes "5 close main 6000 0 !") ≡ codes "5 close main 6000 0"
what_was_said = refl

nothing_but_a_mark : unmarked (codes " !") ≡ []
nothing_but_a_mark = refl
