-- The lemma that the records stay lawful after an accepted exchange of meters. Lawful means that
-- the rules for adding records accept each record after the earlier ones.
use Rattle.std.proofs.Common.{◌≡◌, ℕ, ℤ, pos, negsuc, ◌<◌, ◌≤◌, ◌≤ℤ◌, nat_lt, nat_le, Bool, true, false, cond, ◌||◌, List, [], ◌∷◌, ◌++◌, reverse, refl, sym, subst, Option, Some, None, arith}
use Rattle.std.specs.Option.{option_map, option_and_then, option_to_list, is_none, is_some}
use Rattle.std.proofs.lemmas.Bool.{or_parts, ltb-false}
use Rattle.std.proofs.lemmas.Bool.Decides.{nat_tests}
use Rattle.std.proofs.lemmas.Int.{ints}
use Rattle.energy_core.specs.declared.entries.Entry.TheVariants as entry
use Rattle.energy_core.specs.declared.admission.TermFault.{TermFault}
use Rattle.energy_core.specs.declared.admission.TermFault.TheVariants as fault
use Rattle.energy_core.proofs.Tables.{none_pass}
use Rattle.office_events.specs.declared.facts.Opening.{Opening}
use Rattle.office_events.specs.declared.facts.Fact.{Fact}
use Rattle.office_events.specs.declared.facts.Fact.TheVariants as fact
use Rattle.office_events.specs.declared.questions.Installation.{Installation}
use Rattle.office_events.specs.declared.commands.Exchange.{Exchange}
use Rattle.office_events.specs.declared.commands.Command.TheVariants as command
use Rattle.office_events.specs.declared.events.Event.TheVariants as event
use Rattle.office_books.specs.Facts.{moment_limit, latest_in, same, opening_of, installed_at, register_of}
use Rattle.office_books.specs.Meters.{is_ended, installation_of, if_open}
use Rattle.office_books.specs.History.{History, Fed, facts_of, slots_of, latest_of, made_on}
use Rattle.office_books.specs.Refusals.{refuses, reasons, refusal_of, makes_fault, is_outside, is_off_scale, is_closed, is_bad_meter, asks_beyond, asks_bad_field, asks_faulty, is_crowded}
use Rattle.office_events.specs.declared.commands.Command.{Command}
use Rattle.office_books.specs.Sessions.{Slot}
use Rattle.office_books.specs.Lawful.{AreLawful}
use Rattle.office_books.proofs.Lookups.{same_text, none_from_is_some}
use Rattle.office_books.proofs.LawfulChanges.{exchange_fits}
use Rattle.office_books.proofs.LawfulReadings.{entered_fits}
use Rattle.office_books.proofs.FoundOpenings.{found_installed}

some_or : {X : Type 0} (b : Bool) (x : X) (o : Option X) → (b ≡ false → is_some o ≡ true) → is_some (cond b (Some x) o) ≡ true
some_or true x o h = refl
some_or false x o h = h refl

some_there : {X P : Type 0} (b : Bool) (x y : X) (o : Option X) → cond b (Some x) o ≡ Some y → (b ≡ true → P) → (o ≡ Some y → P) → P
some_there true x y o e here later = here refl
some_there false x y o e here later = later e

-- If a meter was installed at an accounting register (an energy counter), then the accounting
-- register exists in the records.
pub register_known : (facts : List Fact) (r : List ℕ) (o : Opening) → AreLawful facts → installed_at facts r ≡ Some o → is_some (register_of facts r) ≡ true
register_known [] r o h e = absurd (cc)
register_known (fact.Device d ∷ facts) r o h e = register_known facts r o h.1 e
register_known (fact.List l ∷ facts) r o h e = register_known facts r o h.1 e
register_known (fact.Register x ∷ facts) r o h e =
    some_or (same x.name r) x (register_of facts r) (λ other. register_known facts r o h.1 e)
register_known (fact.Opening p ∷ facts) r o h e =
    some_there (same p.register r) p o (installed_at facts r) e
    (λ at. subst (λ (t : List ℕ). is_some (register_of facts t) ≡ true) (same_text p.register r at) h.0.0.register)
    (λ before. register_known facts r o h.1 before)
register_known (fact.Entry b ∷ facts) r o h e = register_known facts r o h.1 e
register_known (fact.Hold b ∷ facts) r o h e = register_known facts r o h.1 e
register_known (fact.Void v ∷ facts) r o h e = register_known facts r o h.1 e
register_known (fact.Poll p ∷ facts) r o h e = register_known facts r o h.1 e
register_known (fact.Outcome x ∷ facts) r o h e = register_known facts r o h.1 e
register_known (fact.Reply x ∷ facts) r o h e = register_known facts r o h.1 e

pub inside : (low high n : ℕ) → is_outside low high n ≡ false → (low ≤ n) × (n ≤ high)
inside low high n h =
    let parts = or_parts (nat_lt n low) (nat_lt high n) h in
    (ltb-false n low parts.0, ltb-false high n parts.1)

pub lawful_scale : (sf : ℤ) → is_off_scale sf ≡ false → (negsuc 2 ≤ℤ sf) × (sf ≤ℤ pos 3)
lawful_scale sf h = (grind (arith, ints), grind (arith, ints))

pub below : (a b : ℕ) → nat_le a b ≡ false → b < a
below a b h = grind (arith, nat_tests)

record IsGood (facts : List Fact) (m : List ℕ) (range raw ceiling : ℕ) (sf : ℤ) : Type 0 where
  new : opening_of facts m ≡ None
  ranged : (65536 ≤ range) × (range ≤ 4294967296)
  fits : raw < range
  scaled : (negsuc 2 ≤ℤ sf) × (sf ≤ℤ pos 3)
  limited : (1 ≤ ceiling) × (ceiling ≤ 1000000000)

-- True if closing the old meter, as an exchange of meters does, does not break the rule for meter
-- entries that the fault `why` names.
abbrev NoFault : (at : ℕ) → Exchange → Option Installation → TermFault → Type 0
NoFault at c row why = makes_fault at why (command.Exchange c) row ≡ false

exchange_open : (facts : List Fact) (at : ℕ) (c : Exchange) (r m : List ℕ) (o : Opening) (b : Bool) → AreLawful facts
    → at ≤ moment_limit → latest_in facts ≤ at
    → installed_at facts r ≡ Some o → is_ended facts o ≡ b → b ≡ false → IsGood facts m c.range c.raw c.ceiling c.sf
    → ((why : TermFault) → why ≡ fault.NegativeStep → NoFault at c (cond b None (Some (installation_of facts o))) why)
    → ((why : TermFault) → why ≡ fault.NotLater → NoFault at c (cond b None (Some (installation_of facts o))) why)
    → ((why : TermFault) → why ≡ fault.SpanTooLong → NoFault at c (cond b None (Some (installation_of facts o))) why)
    → ((why : TermFault) → why ≡ fault.TotalFull → NoFault at c (cond b None (Some (installation_of facts o))) why)
    → ((why : TermFault) → why ≡ fault.NotBelowRange → NoFault at c (cond b None (Some (installation_of facts o))) why)
    → AreLawful (reverse (option_to_list (option_and_then (made_on at (command.Exchange c)) (cond b None (Some (installation_of facts o))))
    ++ fact.Opening (record { meter = m; register = r; ceiling = c.ceiling; range = c.range; at = at; raw = c.raw; sf = c.sf }) ∷ []) ++ facts)
exchange_open facts at c r m o true h timely latest there e unended good f1 f2 f3 f4 f5 = absurd (cc)
exchange_open facts at c r m o false h timely latest there e unended good f1 f2 f3 f4 f5 =
    exchange_fits facts at r m o c.last c.rolls c.raw c.ceiling c.range c.sf h timely latest (found_installed facts r o h there) there e
    (register_known facts r o h there)
    (entered_fits facts o (entry.Step at c.last c.rolls)
    (f1 fault.NegativeStep refl, (f2 fault.NotLater refl, (f3 fault.SpanTooLong refl, (f4 fault.TotalFull refl, (refl, (f5 fault.NotBelowRange refl, tt)))))))
    good.new good.ranged good.fits good.scaled good.limited

exchange_there : (facts : List Fact) (at : ℕ) (c : Exchange) (r m : List ℕ) (found : Option Opening) → AreLawful facts → at ≤ moment_limit → latest_in facts ≤ at → installed_at facts r ≡ found
    → is_none (option_map (installation_of facts) found) ≡ false → is_closed (option_map (installation_of facts) found) ≡ false
    → IsGood facts m c.range c.raw c.ceiling c.sf
    → NoFault at c (option_and_then if_open (option_map (installation_of facts) found)) fault.NegativeStep
    → NoFault at c (option_and_then if_open (option_map (installation_of facts) found)) fault.NotLater
    → NoFault at c (option_and_then if_open (option_map (installation_of facts) found)) fault.SpanTooLong
    → NoFault at c (option_and_then if_open (option_map (installation_of facts) found)) fault.TotalFull
    → NoFault at c (option_and_then if_open (option_map (installation_of facts) found)) fault.NotBelowRange
    → AreLawful (reverse (option_to_list (option_and_then (made_on at (command.Exchange c)) (option_and_then if_open (option_map (installation_of facts) found)))
    ++ fact.Opening (record { meter = m; register = r; ceiling = c.ceiling; range = c.range; at = at; raw = c.raw; sf = c.sf }) ∷ []) ++ facts)
exchange_there facts at c r m None h timely latest there known unended good f1 f2 f3 f4 f5 = absurd (let e : true ≡ false = known in cc)
exchange_there facts at c r m (Some o) h timely latest there known unended good f1 f2 f3 f4 f5 =
    let row : Option Installation = cond (is_ended facts o) None (Some (installation_of facts o)) in
    let all : (w : TermFault) → NoFault at c row w → (why : TermFault) → why ≡ w → NoFault at c row why =
    λ w f why is. subst (NoFault at c row) (sym is) f in
    exchange_open facts at c r m o (is_ended facts o) h timely latest there refl unended good
    (all fault.NegativeStep f1) (all fault.NotLater f2) (all fault.SpanTooLong f3) (all fault.TotalFull f4) (all fault.NotBelowRange f5)

exchange_by : (past : History) (at last rolls raw ceiling range : ℕ) (sf : ℤ) (register meter : Option (List ℕ)) → AreLawful (facts_of past) → latest_in (facts_of past) ≤ latest_of past
    → refusal_of past at (event.Command (command.Exchange (record { register = register; last = last; rolls = rolls; meter = meter; raw = raw; sf = sf; ceiling = ceiling; range = range }))) ≡ None
    → AreLawful (facts_of (Fed at (event.Command (command.Exchange (record { register = register; last = last; rolls = rolls; meter = meter; raw = raw; sf = sf; ceiling = ceiling; range = range }))) ∷ past))
exchange_by past at last rolls raw ceiling range sf None meter h latest taken =
    let c : Exchange = record { register = None; last = last; rolls = rolls; meter = meter; raw = raw; sf = sf; ceiling = ceiling; range = range } in
    let all = none_pass (refuses past at (event.Command (command.Exchange c))) reasons taken in
    absurd (let e : true ≡ false = all.0 in cc)
exchange_by past at last rolls raw ceiling range sf (Some r) None h latest taken =
    let c : Exchange = record { register = Some r; last = last; rolls = rolls; meter = None; raw = raw; sf = sf; ceiling = ceiling; range = range } in
    let all = none_pass (refuses past at (event.Command (command.Exchange c))) reasons taken in
    let limit = all.1.1.1.1.1.1.1.1.1.1.0 in
    let slots : List Slot = slots_of past in
    let facts : List Fact = facts_of past in
    let asked : Command = command.Exchange c in
    let wrong = or_parts (nat_lt moment_limit at) (asks_beyond slots facts at asked) limit in
    let beyond = or_parts (asks_bad_field at asked || is_crowded slots facts asked) (asks_faulty facts at fault.NotBelowRange asked) wrong.1 in
    let fields = or_parts (asks_bad_field at asked) (is_crowded slots facts asked) beyond.0 in
    absurd (let e : true ≡ false = (or_parts (nat_lt 255 rolls) true fields.0).1 in cc)
exchange_by past at last rolls raw ceiling range sf (Some r) (Some m) h latest taken =
    let c : Exchange = record { register = Some r; last = last; rolls = rolls; meter = Some m; raw = raw; sf = sf; ceiling = ceiling; range = range } in
    let facts : List Fact = facts_of past in
    let all = none_pass (refuses past at (event.Command (command.Exchange c))) reasons taken in
    let four = all.1.1.1.1 in
    let limit = four.1.1.1.1.1.1.0 in
    let slots : List Slot = slots_of past in
    let asked : Command = command.Exchange c in
    let wrong = or_parts (nat_lt moment_limit at) (asks_beyond slots facts at asked) limit in
    let beyond = or_parts (asks_bad_field at asked || is_crowded slots facts asked) (asks_faulty facts at fault.NotBelowRange asked) wrong.1 in
    let first = or_parts (asks_bad_field at asked) (is_crowded slots facts asked) beyond.0 in
    let fields = or_parts (nat_lt 255 rolls) (is_bad_meter (Some m) range raw ceiling) first.0 in
    let last_field = or_parts (is_outside 65536 4294967296 range || nat_le range raw) (is_outside 1 1000000000 ceiling) fields.1 in
    let third = or_parts (is_outside 65536 4294967296 range) (nat_le range raw) last_field.0 in
    let good : IsGood facts m range raw ceiling sf = record {
      new = none_from_is_some (opening_of facts m) all.1.0;
      ranged = inside 65536 4294967296 range third.0;
      fits = below range raw third.1;
      scaled = lawful_scale sf all.1.1.1.0;
      limited = inside 1 1000000000 ceiling last_field.1;
    } in
    let on_time : latest_of past ≤ at = ltb-false at (latest_of past) (or_parts (nat_lt at (latest_of past)) _ all.1.1.0).0 in
    exchange_there facts at c r m (installed_at facts r) h (ltb-false moment_limit at wrong.0) (omega (arith, latest, on_time)) refl all.0 four.1.1.1.1.0 good four.0 four.1.0 four.1.1.0 four.1.1.1.0 beyond.1

pub exchange_lawful : (past : History) (at : ℕ) (c : Exchange) → AreLawful (facts_of past) → latest_in (facts_of past) ≤ latest_of past → refusal_of past at (event.Command (command.Exchange c)) ≡ None
    → AreLawful (facts_of (Fed at (event.Command (command.Exchange c)) ∷ past))
exchange_lawful past at c h latest taken = exchange_by past at c.last c.rolls c.raw c.ceiling c.range c.sf c.register c.meter h latest taken
