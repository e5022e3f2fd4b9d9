-- Lemmas: the rules for adding records accept the polls that a round adds. A round sends the reads
-- of a device's plan, one poll for each read.
use Rattle.std.proofs.Common.{◌≡◌, ℕ, suc, ◌+◌, ◌≤◌, min, Bool, true, false, cond, List, [], ◌∷◌, ◌++◌, map, reverse, length, refl, sym, ap, subst, ◌∙◌, inl, inr, Option, Some, None, append_assoc, arith}
use Rattle.std.specs.Prelude.{IsSome}
use Rattle.std.specs.Option.{is_some, is_none}
use Rattle.std.proofs.lemmas.Bool.{cases_lt, cond-true, cond-false}
use Rattle.std.proofs.lemmas.List.{length-append}
use Rattle.mb_wire.specs.declared.span.ReadSpan.{ReadSpan}
use Rattle.poll_core.specs.Settling as session
use Rattle.poll_core.specs.Standing.{last_moment}
use Rattle.poll_core.specs.Starting.{start_fault, AreStarts, IsReady}
use Rattle.office_events.specs.declared.facts.Device.{Device}
use Rattle.office_events.specs.declared.facts.Fact.{Fact}
use Rattle.office_books.specs.Facts.{moment_limit, poll_limit, device_of, polls_in}
use Rattle.office_books.specs.Sessions.{Send, is_startable, start_by, sends_on}
use Rattle.office_books.specs.History.{next_poll, poll_by}
use Rattle.office_books.specs.Lawful.{AreLawful}
use Rattle.office_books.proofs.Lists.{reverse_cons}

abbrev recorded : (at : ℕ) → Device → List Send → List Fact → List Fact
recorded at device sends facts = reverse (map (poll_by at device) sends) ++ facts

recorded_more : (at : ℕ) (device : Device) (send : Send) (sends : List Send) (facts : List Fact)
    → recorded at device (send ∷ sends) facts ≡ recorded at device sends (poll_by at device send ∷ facts)
recorded_more at device send sends facts =
    ap (λ (fs : List Fact). fs ++ facts) (reverse_cons (poll_by at device send) (map (poll_by at device) sends))
    ∙ append_assoc (reverse (map (poll_by at device) sends)) (poll_by at device send ∷ []) facts

one_more : (number n : ℕ) → number ≡ n + 1 → number + 1 ≡ suc n + 1
one_more number n is = omega (arith, is)

round_step : (at number : ℕ) (device : Device) (send : Send) (later : List Send) (facts : List Fact) (b : Bool) → AreLawful facts
    → (length (polls_in facts) + suc (length later) ≤ poll_limit → AreLawful (recorded at device later (poll_by at device send ∷ facts)))
    → length (polls_in facts) + length (cond b (send ∷ later) []) ≤ poll_limit
    → AreLawful (recorded at device (cond b (send ∷ later) []) facts)
round_step at number device send later facts true h rest few = subst AreLawful (sym (recorded_more at device send later facts)) (rest few)
round_step at number device send later facts false h rest few = h

-- If the polls of a polling round have consecutive numbers, then the records with these polls still
-- follow the rules for adding records (`AreLawful`).
pub round_fits : (at number : ℕ) (device : Device) (before : List session.Event) (spans : List ReadSpan) (facts : List Fact) → AreLawful facts
    → at ≤ moment_limit → number ≡ next_poll facts → is_some (device_of facts device.name) ≡ true
    → length (polls_in facts) + length (sends_on number at device before spans) ≤ poll_limit
    → AreLawful (recorded at device (sends_on number at device before spans) facts)
round_fits at number device before [] facts h timely is known few = h
round_fits at number device before (span ∷ spans) facts h timely is known few =
    let send : Send = record { number = number; id = session.next_id before; span = span } in
    let later : List Send = sends_on (number + 1) at device (before ++ start_by at device send ∷ []) spans in
    let polls : ℕ = length (polls_in facts) in
    round_step at number device send later facts
    (is_startable device (Some before)) h
    (λ less. round_fits at (number + 1) device (before ++ start_by at device send ∷ []) spans (poll_by at device send ∷ facts)
    ((record { number = is; few = omega (arith, is, less); device = known }, timely), h)
    timely (one_more number polls is) known (omega (arith, less))) few

some_is_none : {X : Type 0} (o : Option X) → IsSome o → is_none o ≡ false
some_is_none None h = absurd (cc)
some_is_none (Some x) h = refl

starts_more : (starts : List session.Event) (send : Send) (at : ℕ) (device : Device) → AreStarts starts → AreStarts (starts ++ start_by at device send ∷ [])
starts_more [] send at device h = (refl, tt)
starts_more (s ∷ starts) send at device h = (h.0, starts_more starts send at device h.1)

-- A polling round sends all its reads, or only the first reads if the device's Modbus session
-- cannot start the later reads.
pub round_count : (at number : ℕ) (device : Device) (events starts : List session.Event) (id count : ℕ) (spans : List ReadSpan)
    → IsReady device.timeout device.window events id count → AreStarts starts → length starts ≤ count
    → length starts + length (sends_on number at device (events ++ starts) spans) ≡ min count (length starts + length spans)
round_count at number device events starts id count [] ready are few = omega (arith, few)
round_count at number device events starts id count (span ∷ spans) ready are few =
    let send : Send = record { number = number; id = session.next_id (events ++ starts); span = span } in
    let here : List session.Event = events ++ starts in
    elim (cases_lt (length starts) count) [
      | inl lt ↦
          let none : start_fault device.timeout device.window here (last_moment here) ≡ None =
          ready.succeed starts (last_moment here) are lt (omega arith) in
          let can : is_startable device (Some here) ≡ true = ap (λ o. is_none o) none in
          let more : List session.Event = starts ++ start_by at device send ∷ [] in
          let longer : length more ≡ length starts + 1 = length-append starts (start_by at device send ∷ []) in
          let rest = round_count at (number + 1) device events more id count spans ready (starts_more starts send at device are) (omega (arith, longer, lt)) in
          let same : sends_on (number + 1) at device (events ++ more) spans ≡ sends_on (number + 1) at device (here ++ start_by at device send ∷ []) spans =
          ap (λ (es : List session.Event). sends_on (number + 1) at device es spans) (sym (append_assoc events starts (start_by at device send ∷ []))) in
          let first : sends_on number at device here (span ∷ spans) ≡ send ∷ sends_on (number + 1) at device (here ++ start_by at device send ∷ []) spans =
          cond-true _ _ _ can in
          omega (arith, rest, longer, ap length same, ap length first)
      | inr ge ↦
          let cannot : is_startable device (Some here) ≡ false =
          some_is_none (start_fault device.timeout device.window here (last_moment here)) (ready.no_more starts (last_moment here) are (omega (arith, few, ge))) in
          let first : sends_on number at device here (span ∷ spans) ≡ [] = cond-false _ _ _ cannot in
          omega (arith, ap length first, few, ge)
    ]
