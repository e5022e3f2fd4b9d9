-- Lemmas that the records stay lawful after an accepted command closes a meter, resets its counter
-- or changes its scale factor. Lawful means that the rules for adding records accept each record
-- after the earlier ones.
use Rattle.std.proofs.Common.{◌≡◌, ℕ, ℤ, pos, negsuc, ◌≤◌, ◌≤ℤ◌, suc, int_lt, Bool, true, false, cond, ◌||◌, List, [], ◌∷◌, ◌++◌, reverse, refl, sym, subst, Option, Some, None, arith}
use Rattle.std.specs.Prelude.{Contains}
use Rattle.std.specs.List.{AllByRecursion, find}
use Rattle.std.specs.Option.{option_and_then, option_to_list}
use Rattle.std.proofs.lemmas.Int.{ints}
use Rattle.energy_core.specs.declared.entries.Entry.{Entry}
use Rattle.energy_core.specs.declared.entries.Entry.TheVariants as entry
use Rattle.energy_core.specs.declared.admission.TermFault.TheVariants as fault
use Rattle.energy_core.specs.Admission as entering
use Rattle.meter_journal.specs.declared.lines.EntryKind.TheVariants as kind
use Rattle.office_events.specs.declared.facts.Opening.{Opening}
use Rattle.office_events.specs.declared.facts.Fact.{Fact}
use Rattle.office_events.specs.declared.facts.Fact.TheVariants as fact
use Rattle.office_events.specs.declared.questions.Installation.{Installation}
use Rattle.office_events.specs.declared.commands.Close.{Close}
use Rattle.office_events.specs.declared.commands.Reset.{Reset}
use Rattle.office_events.specs.declared.commands.Rescale.{Rescale}
use Rattle.office_events.specs.declared.commands.Command.{Command}
use Rattle.office_events.specs.declared.commands.Command.TheVariants as command
use Rattle.office_books.specs.Facts.{moment_limit, same, openings_in, opening_of}
use Rattle.office_books.specs.Meters.{installation_of, open_at}
use Rattle.office_books.specs.History.{made_on}
use Rattle.office_books.specs.Refusals.{makes_fault, is_off_scale}
use Rattle.office_books.specs.Lawful.{AreLawful}
use Rattle.office_books.specs.Laws.{MetersAreKept}
use Rattle.office_books.proofs.LawfulReadings.{is_open, entered_fits}

-- True if the rules for manual entries find no fault in an entry that a command makes, for the open
-- meter of the command's accounting register (a named energy counter).
pub record IsFaultless (at : ℕ) (c : Command) (row : Option Installation) : Type 0 where
  pub negative : makes_fault at fault.NegativeStep c row ≡ false
  pub later : makes_fault at fault.NotLater c row ≡ false
  pub long : makes_fault at fault.SpanTooLong c row ≡ false
  pub full : makes_fault at fault.TotalFull c row ≡ false
  pub below : makes_fault at fault.NotBelowRange c row ≡ false

-- The records with the entry that a command makes for the open meter of the command's accounting
-- register (a named energy counter). Without an open meter, no entry is added.
abbrev entered : (at : ℕ) → Command → List Fact → Option Installation → List Fact
entered at c facts row = reverse (option_to_list (option_and_then (made_on at c) row)) ++ facts

abbrev HasNone : Installation → Entry → Type 0
HasNone row e = AllByRecursion (λ why. entering.refuses row.opening.range row.total row.last e why ≡ false) entering.faults

close_row : (facts : List Fact) (at : ℕ) (c : Close) (register : List ℕ) (row : Option Installation) → AreLawful facts → open_at facts register ≡ row
    → at ≤ moment_limit → IsFaultless at (command.Close c) row → AreLawful (entered at (command.Close c) facts row)
close_row facts at c register None h is timely none = h
close_row facts at c register (Some row) h is timely none =
    let open_there = is_open facts register row h is in
    let o : Opening = open_there.opening in
    let x : Entry = entry.Step at c.raw c.rolls in
    let all : HasNone row x = (none.negative, (none.later, (none.long, (none.full, (refl, (none.below, tt)))))) in
    let own : HasNone (installation_of facts o) x = subst (λ (y : Installation). HasNone y x) (sym open_there.row_is) all in
    subst (λ (y : Installation). AreLawful (fact.Entry (record { meter = y.opening.meter; kind = kind.Closing; entry = x }) ∷ facts)) open_there.row_is
    ((record { opening = o; there = open_there.installed; fits = (open_there.unended, entered_fits facts o x own) }, timely), h)

pub close_fits : (facts : List Fact) (at : ℕ) (c : Close) (register : Option (List ℕ)) → AreLawful facts → at ≤ moment_limit
    → IsFaultless at (command.Close c) (option_and_then (open_at facts) register)
    → AreLawful (entered at (command.Close c) facts (option_and_then (open_at facts) register))
close_fits facts at c None h timely none = h
close_fits facts at c (Some register) h timely none = close_row facts at c register (open_at facts register) h refl timely none

rescale_row : (facts : List Fact) (at : ℕ) (c : Rescale) (register : List ℕ) (row : Option Installation) → AreLawful facts → open_at facts register ≡ row
    → at ≤ moment_limit → is_off_scale c.sf ≡ false → IsFaultless at (command.Rescale c) row → AreLawful (entered at (command.Rescale c) facts row)
rescale_row facts at c register None h is timely scale none = h
rescale_row facts at c register (Some row) h is timely scale none =
    let open_there = is_open facts register row h is in
    let o : Opening = open_there.opening in
    let x : Entry = entry.Change at c.before c.after c.sf in
    let all : HasNone row x = (none.negative, (none.later, (none.long, (none.full, (scale, (none.below, tt)))))) in
    let own : HasNone (installation_of facts o) x = subst (λ (y : Installation). HasNone y x) (sym open_there.row_is) all in
    subst (λ (y : Installation). AreLawful (fact.Entry (record { meter = y.opening.meter; kind = kind.Rescale; entry = x }) ∷ facts)) open_there.row_is
    ((record { opening = o; there = open_there.installed; fits = (open_there.unended, entered_fits facts o x own) }, timely), h)

pub rescale_fits : (facts : List Fact) (at : ℕ) (c : Rescale) (register : Option (List ℕ)) → AreLawful facts → at ≤ moment_limit
    → is_off_scale c.sf ≡ false → IsFaultless at (command.Rescale c) (option_and_then (open_at facts) register)
    → AreLawful (entered at (command.Rescale c) facts (option_and_then (open_at facts) register))
rescale_fits facts at c None h timely scale none = h
rescale_fits facts at c (Some register) h timely scale none = rescale_row facts at c register (open_at facts register) h refl timely scale none

-- If two conditions are false, then their disjunction is false.
neither : (a b : Bool) → a ≡ false → b ≡ false → (a || b) ≡ false
neither true b h k = h
neither false b h k = k

on_scale : (sf : ℤ) → (negsuc 2 ≤ℤ sf) × (sf ≤ℤ pos 3) → is_off_scale sf ≡ false
on_scale sf h =
    let low : negsuc 2 ≤ℤ sf = h.0 in
    let high : sf ≤ℤ pos 3 = h.1 in
    neither (int_lt sf (negsuc 2)) (int_lt (pos 3) sf) (grind (arith, ints)) (grind (arith, ints))

found_step : {X : Type 0} (b : Bool) (y x : X) (ys : List X) (o : Option X) → (o ≡ Some x → Contains ys x) → cond b (Some y) o ≡ Some x
    → Contains (y ∷ ys) x
found_step true y x ys o later h = (0, omega arith, cc)
found_step false y x ys o later h = let rest = later h in let less = rest.1 in (suc rest.0, omega arith, rest.2)

-- If a search finds an element, then the element is in the list.
found_there : {X : Type 0} (p : X → Bool) (xs : List X) (x : X) → find p xs ≡ Some x → Contains xs x
found_there p [] x h = absurd (cc)
found_there p (y ∷ ys) x h = found_step (p y) y x ys (find p ys) (found_there p ys x) h

last_on_scale : MetersAreKept → (facts : List Fact) (o : Opening) → AreLawful facts → opening_of facts o.meter ≡ Some o
    → is_off_scale (installation_of facts o).last.sf ≡ false
last_on_scale law facts o h there =
    on_scale (installation_of facts o).last.sf
    (law facts o h (found_there (λ (p : Opening). same p.meter o.meter) (openings_in facts) o there)).account.sound.scale

reset_row : MetersAreKept → (facts : List Fact) (at : ℕ) (c : Reset) (register : List ℕ) (row : Option Installation) → AreLawful facts
    → open_at facts register ≡ row → at ≤ moment_limit → IsFaultless at (command.Reset c) row → AreLawful (entered at (command.Reset c) facts row)
reset_row law facts at c register None h is timely none = h
reset_row law facts at c register (Some row) h is timely none =
    let open_there = is_open facts register row h is in
    let o : Opening = open_there.opening in
    let x : Installation → Entry = λ y. entry.Change at c.before c.after y.last.sf in
    let scale : is_off_scale row.last.sf ≡ false =
    subst (λ (y : Installation). is_off_scale y.last.sf ≡ false) open_there.row_is (last_on_scale law facts o h open_there.installed) in
    let all : HasNone row (x row) = (none.negative, (none.later, (none.long, (none.full, (scale, (none.below, tt)))))) in
    let own : HasNone (installation_of facts o) (x (installation_of facts o)) =
    subst (λ (y : Installation). HasNone y (x y)) (sym open_there.row_is) all in
    subst (λ (y : Installation). AreLawful (fact.Entry (record { meter = y.opening.meter; kind = kind.Reset; entry = x y }) ∷ facts)) open_there.row_is
    ((record { opening = o; there = open_there.installed; fits = (open_there.unended, (entered_fits facts o (x (installation_of facts o)) own, refl)) }, timely), h)

pub reset_fits : MetersAreKept → (facts : List Fact) (at : ℕ) (c : Reset) (register : Option (List ℕ)) → AreLawful facts → at ≤ moment_limit
    → IsFaultless at (command.Reset c) (option_and_then (open_at facts) register)
    → AreLawful (entered at (command.Reset c) facts (option_and_then (open_at facts) register))
reset_fits law facts at c None h timely none = h
reset_fits law facts at c (Some register) h timely none = reset_row law facts at c register (open_at facts register) h refl timely none
