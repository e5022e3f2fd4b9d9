-- Properties of a pending write: records of an event that are added one by one, and not yet in the
-- store.
use Rattle.std.proofs.Common.{◌≡◌, ℕ, ◌+◌, ◌<◌, ◌==◌, Bool, true, false, cond, List, [], ◌∷◌, ◌++◌, reverse, take, length, get_or, refl, sym, ap, subst, ◌∙◌, Option, Some, None, append_assoc}
use Rattle.std.specs.List.{find, filter}
use Rattle.std.specs.Option.{option_map, option_to_list}
use Rattle.std.proofs.lemmas.Bool.{cond-true, cond-false}
use Rattle.std.proofs.lemmas.List.{append-nil, take_more, reverse-append}
use Rattle.std.specs.Option.{is_some}
use Rattle.mb_wire.specs.Replies.{answer_of as reply_answer}
use Rattle.mb_wire.specs.declared.replies.Reply.{Reply}
use Rattle.poll_core.specs.Settling as session
use Rattle.poll_core.specs.Reporting.{lent_words, outcome_of as reported_as, settled_of, is_answered, LendsReply}
use Rattle.poll_core.specs.declared.outcome.Outcome as plain
use Rattle.poll_core.specs.declared.outcome.Outcome.TheVariants.{Answered, Exception, Silent, Malformed, Lost}
use Rattle.poll_core.specs.declared.answers.Settled.{Settled}
use Rattle.office_events.specs.declared.facts.Poll.{Poll}
use Rattle.office_events.specs.declared.facts.Register.{Register}
use Rattle.office_events.specs.declared.facts.Fact.{Fact}
use Rattle.office_events.specs.declared.facts.Fact.TheVariants as fact
use Rattle.office_events.specs.declared.answers.Note.{Note}
use Rattle.office_events.specs.declared.answers.Note.TheVariants as note
use Rattle.office_events.specs.declared.questions.PollRow.{PollRow}
use Rattle.office_events.specs.declared.questions.Installation.{Installation}
use Rattle.energy_core.specs.declared.verdicts.Reading.{Reading}
use Rattle.energy_core.specs.declared.verdicts.Verdict.{Verdict}
use Rattle.energy_core.specs.declared.verdicts.Verdict.TheVariants.{Accepted, Held}
use Rattle.office_books.specs.Facts.{same, as_poll, as_register, poll_of, registers_of}
use Rattle.office_books.specs.Readings.{poll_row, poll_row_of, is_read_by, reading_of, judgement, as_fact, reading_fact, with_reading, with_register, with_registers, with_reply}
use Rattle.office_books.specs.Meters.{open_at}
use Rattle.office_books.specs.Notes.{words_notes, reading_note, register_notes, registers_notes, reply_notes, outcome_notes}
use Rattle.office_books.specs.History.{outcome_of, with_words, with_outcome, with_outcomes}
use Rattle.office_books.specs.Lawful.{AreLawful}
use Rattle.office_core.specs.declared.settling.drafts.PendingWrite.{PendingWrite}
use Rattle.office_core.specs.Settling.Drafts.{so_far, HasMore, IsReported, AreReported, Grows}
use Rattle.office_core.proofs.SettlingLemmas.Reported.{SkipsReported, reported_skipped, reported_last}
use Rattle.office_core.proofs.SettlingLemmas.ReadRegisters.{with_read, reported_read}

-- States of a function that adds records to a list: if the longer list of records is lawful (the
-- rules for adding records accept each one), then the list before the addition is lawful.
abbrev pub KeepsLawful : (List Fact → List Fact) → Type 0
KeepsLawful more = (facts : List Fact) → AreLawful (more facts) → AreLawful facts

before_reading : (number : ℕ) (reading : Reading) (row : Option Installation) → KeepsLawful (with_reading number reading row)
before_reading number reading None facts h = h
before_reading number reading (Some row) facts h = h.1

either_before : (b : Bool) (xs ys facts : List Fact) → (AreLawful xs → AreLawful facts) → (AreLawful ys → AreLawful facts)
    → AreLawful (cond b xs ys) → AreLawful facts
either_before true xs ys facts h k l = h l
either_before false xs ys facts h k l = k l

pub before_register : (at : ℕ) (poll : Poll) (words : List ℕ) (register : Register) → KeepsLawful (with_register at poll words register)
before_register at poll words register facts =
    either_before (is_read_by poll.span register) _ facts facts
    (before_reading poll.number (reading_of at poll.span words register) (open_at facts register.name) facts) (λ h. h)

pub before_registers : (at : ℕ) (poll : Poll) (words : List ℕ) (registers : List Register) → KeepsLawful (with_registers at poll words registers)
before_registers at poll words [] facts h = h
before_registers at poll words (register ∷ registers) facts h =
    before_register at poll words register facts (before_registers at poll words registers (with_register at poll words register facts) h)

before_reply : (at : ℕ) (poll : Option Poll) (words : List ℕ) → KeepsLawful (with_reply at poll words)
before_reply at None words facts h = h
before_reply at (Some poll) words facts h = before_registers at poll words (registers_of facts poll.device) facts h

before_words : (at number : ℕ) (settled : session.Settlement) → KeepsLawful (with_words at number settled)
before_words at number (session.Answered words) facts h = before_reply at (poll_of facts number) words facts h
before_words at number (session.Exception code) facts h = h
before_words at number session.Silent facts h = h
before_words at number (session.Malformed malformation) facts h = h
before_words at number (session.Lost cause) facts h = h

pub before_outcome : (at : ℕ) (settled : ℕ × session.Settlement) → KeepsLawful (with_outcome at settled)
before_outcome at settled facts h = (before_words at settled.0 settled.1 _ h).1

pub before_outcomes : (at : ℕ) (settled : List (ℕ × session.Settlement)) → KeepsLawful (with_outcomes at settled)
before_outcomes at [] facts h = h
before_outcomes at (settled ∷ later) facts h = before_outcome at settled facts (before_outcomes at later (with_outcome at settled facts) h)

-- If a pending write (records not yet stored) is unchanged, then it has gained no records and no
-- notifications.
pub stays : (holds : List Fact → Type 0) (clean : Type 0) (draft : PendingWrite) → Grows holds clean draft draft (λ facts. facts) (λ facts. [])
stays holds clean draft = λ recorded h c reported lawful. record { facts = refl; notes = sym (append-nil draft.notes.items); reported = reported }

-- If a pending write (records not yet stored) grew by the records and notifications of two
-- functions, then it also grew by those of two functions with equal results.
pub grows_like : (holds : List Fact → Type 0) (clean : Type 0) (old new : PendingWrite) (f g : List Fact → List Fact) (n m : List Fact → List Note)
    → ((facts : List Fact) → g facts ≡ f facts) → ((facts : List Fact) → m facts ≡ n facts) → Grows holds clean old new f n → Grows holds clean old new g m
grows_like holds clean old new f g n m same_facts same_notes on = λ recorded h c reported lawful.
    let all = on recorded h c reported (subst AreLawful (same_facts (so_far old recorded)) lawful) in
    record {
      facts = all.facts ∙ sym (same_facts (so_far old recorded));
      notes = all.notes ∙ ap (λ xs. old.notes.items ++ xs) (sym (same_notes (so_far old recorded)));
      reported = all.reported;
    }

-- If two calls add to a pending write (records not yet stored), then the additions are those of the
-- first call, followed by those of the second.
pub grows_then : (holds mid : List Fact → Type 0) (clean later : Type 0) (old between new : PendingWrite) (f g : List Fact → List Fact) (n m : List Fact → List Note)
    → ((recorded : List Fact) → holds recorded → mid recorded) → (later → clean) → KeepsLawful g → Grows holds clean old between f n → Grows mid later between new g m
    → Grows holds later old new (λ facts. g (f facts)) (λ facts. n facts ++ m (f facts))
grows_then holds mid clean later old between new f g n m kept cleaner before first second = λ recorded h c reported lawful.
    let one = first recorded h (cleaner c) reported (before (f (so_far old recorded)) lawful) in
    let two = second recorded (kept recorded h) c one.reported (subst (λ fs. AreLawful (g fs)) (sym one.facts) lawful) in
    record {
      facts = two.facts ∙ ap g one.facts;
      notes =
          two.notes ∙ ap (λ xs. xs ++ m (so_far between recorded)) one.notes
          ∙ append_assoc old.notes.items (n (so_far old recorded)) (m (so_far between recorded))
          ∙ ap (λ fs. old.notes.items ++ (n (so_far old recorded) ++ m fs)) one.facts;
      reported = two.reported;
    }

-- If one record and its notification are appended to a pending write (records not yet stored), then
-- it has gained exactly these two.
pub one_added : (holds : List Fact → Type 0) (clean : Type 0) (old new : PendingWrite) (x : Fact) (y : Note) → IsReported x
    → HasMore old new x y → Grows holds clean old new (λ facts. x ∷ facts) (λ facts. y ∷ [])
one_added holds clean old new x y is more = λ recorded h c reported lawful.
    record {
      facts = ap (λ fs. reverse fs ++ recorded) more.facts ∙ ap (λ fs. fs ++ recorded) (reverse-append old.facts.items (x ∷ []));
      notes = more.notes;
      reported = subst AreReported (sym more.facts) (reported_last old.facts.items x reported is);
    }

reported_reading : (meter : List ℕ) (poll : ℕ) (reading : Reading) (verdict : Verdict) → IsReported (as_fact meter poll reading verdict)
reported_reading meter poll reading (Accepted rolls step) = refl
reported_reading meter poll reading (Held cause) = tt

-- If a read covers an accounting register (a named energy counter) with an open meter, then the
-- meter's reading adds one record and one notification for the program's caller. Both are added to
-- the pending write (records not yet stored).
pub read_at : (holds : List Fact → Type 0) (clean : Type 0) (at : ℕ) (poll : Poll) (words : List ℕ) (register : Register) (old new : PendingWrite) (row : Installation)
    → is_read_by poll.span register ≡ true
    → ((recorded : List Fact) → holds recorded → clean → AreReported old.facts.items → AreLawful (so_far old recorded) → Some row ≡ open_at (so_far old recorded) register.name)
    → HasMore old new (reading_fact poll.number (reading_of at poll.span words register) row) (reading_note (reading_of at poll.span words register) row)
    → Grows holds clean old new (with_register at poll words register) (register_notes at poll words register)
read_at holds clean at poll words register old new row read found more = λ recorded h c reported lawful.
    let reading : Reading = reading_of at poll.span words register in
    let there = found recorded h c reported (before_register at poll words register (so_far old recorded) lawful) in
    let is : reading_fact poll.number reading row ∷ so_far old recorded ≡ with_register at poll words register (so_far old recorded) =
    ap (λ o. with_reading poll.number reading o (so_far old recorded)) there ∙ sym (cond-true _ _ _ read) in
    let reported_so : reading_note reading row ∷ [] ≡ register_notes at poll words register (so_far old recorded) =
    ap (λ o. option_to_list (option_map (reading_note reading) o)) there ∙ sym (cond-true _ _ _ read) in
    record {
      facts = ap (λ fs. reverse fs ++ recorded) more.facts ∙ ap (λ fs. fs ++ recorded) (reverse-append old.facts.items _) ∙ is;
      notes = more.notes ∙ ap (λ xs. old.notes.items ++ xs) reported_so;
      reported = subst AreReported (sym more.facts) (reported_last old.facts.items _ reported (reported_reading row.opening.meter poll.number reading (judgement row reading)));
    }

pub unread_at : (holds : List Fact → Type 0) (clean : Type 0) (at : ℕ) (poll : Poll) (words : List ℕ) (register : Register) (draft : PendingWrite)
    → is_read_by poll.span register ≡ false → Grows holds clean draft draft (with_register at poll words register) (register_notes at poll words register)
unread_at holds clean at poll words register draft other =
    grows_like holds clean draft draft (λ facts. facts) _ (λ facts. []) _ (λ facts. cond-false _ _ _ other) (λ facts. cond-false _ _ _ other) (stays holds clean draft)

pub no_meter_at : (holds : List Fact → Type 0) (clean : Type 0) (at : ℕ) (poll : Poll) (words : List ℕ) (register : Register) (draft : PendingWrite)
    → is_read_by poll.span register ≡ true
    → ((recorded : List Fact) → holds recorded → clean → AreReported draft.facts.items → AreLawful (so_far draft recorded) → None ≡ open_at (so_far draft recorded) register.name)
    → Grows holds clean draft draft (with_register at poll words register) (register_notes at poll words register)
no_meter_at holds clean at poll words register draft read found = λ recorded h c reported lawful.
    let reading : Reading = reading_of at poll.span words register in
    let there = found recorded h c reported (before_register at poll words register (so_far draft recorded) lawful) in
    let is : so_far draft recorded ≡ with_register at poll words register (so_far draft recorded) =
    ap (λ o. with_reading poll.number reading o (so_far draft recorded)) there ∙ sym (cond-true _ _ _ read) in
    let reported_so : [] ≡ register_notes at poll words register (so_far draft recorded) =
    ap (λ o. option_to_list (option_map (reading_note reading) o)) there ∙ sym (cond-true _ _ _ read) in
    record { facts = is; notes = sym (append-nil draft.notes.items) ∙ ap (λ xs. draft.notes.items ++ xs) reported_so; reported = reported }

-- The records for the readings of several accounting registers (named energy counters) are those of
-- the earlier registers, followed by the record of the last register.
pub registers-more : (at : ℕ) (poll : Poll) (words : List ℕ) (xs : List Register) (y : Register) (facts : List Fact)
    → with_registers at poll words (xs ++ y ∷ []) facts ≡ with_register at poll words y (with_registers at poll words xs facts)
registers-more at poll words [] y facts = refl
registers-more at poll words (x ∷ xs) y facts = registers-more at poll words xs y (with_register at poll words x facts)

pub notes-more : (at : ℕ) (poll : Poll) (words : List ℕ) (xs : List Register) (y : Register) (facts : List Fact)
    → registers_notes at poll words (xs ++ y ∷ []) facts
    ≡ registers_notes at poll words xs facts ++ register_notes at poll words y (with_registers at poll words xs facts)
notes-more at poll words [] y facts = append-nil (register_notes at poll words y facts)
notes-more at poll words (x ∷ xs) y facts =
    ap (λ zs. register_notes at poll words x facts ++ zs) (notes-more at poll words xs y (with_register at poll words x facts))
    ∙ sym (append_assoc (register_notes at poll words x facts) _ _)

pub one_register_more : (holds mid : List Fact → Type 0) (clean later : Type 0) (old between new : PendingWrite) (at : ℕ) (poll : Poll) (words : List ℕ)
    (rs : List Register) (i : ℕ) (r : Register) → i < length rs → r ≡ get_or rs i r
    → ((recorded : List Fact) → holds recorded → mid recorded) → (later → clean)
    → Grows holds clean old between (with_registers at poll words (take i rs)) (registers_notes at poll words (take i rs))
    → Grows mid later between new (with_register at poll words r) (register_notes at poll words r)
    → Grows holds later old new (with_registers at poll words (take (i + 1) rs)) (registers_notes at poll words (take (i + 1) rs))
one_register_more holds mid clean later old between new at poll words rs i r less is kept cleaner first second =
    let more : take (i + 1) rs ≡ take i rs ++ r ∷ [] = take_more rs i r less ∙ ap (λ x. take i rs ++ x ∷ []) (sym is) in
    grows_like holds later old new _ _ _ _
    (λ facts. ap (λ xs. with_registers at poll words xs facts) more ∙ registers-more at poll words (take i rs) r facts)
    (λ facts. ap (λ xs. registers_notes at poll words xs facts) more ∙ notes-more at poll words (take i rs) r facts)
    (grows_then holds mid clean later old between new (with_registers at poll words (take i rs)) (with_register at poll words r)
    (registers_notes at poll words (take i rs)) (register_notes at poll words r) kept cleaner (before_register at poll words r) first second)

-- A record of a poll's outcome or of a reading is not the record of a started poll or of an
-- accounting register (a named energy counter).
no_poll : SkipsReported as_poll
no_poll (fact.Device device) reported = absurd reported
no_poll (fact.List put) reported = absurd reported
no_poll (fact.Register register) reported = absurd reported
no_poll (fact.Opening opening) reported = absurd reported
no_poll (fact.Entry booked) reported = refl
no_poll (fact.Hold held) reported = refl
no_poll (fact.Void voided) reported = absurd reported
no_poll (fact.Poll poll) reported = absurd reported
no_poll (fact.Outcome ended) reported = refl
no_poll (fact.Reply reply) reported = absurd reported

no_register : SkipsReported as_register
no_register (fact.Device device) reported = absurd reported
no_register (fact.List put) reported = absurd reported
no_register (fact.Register register) reported = absurd reported
no_register (fact.Opening opening) reported = absurd reported
no_register (fact.Entry booked) reported = refl
no_register (fact.Hold held) reported = refl
no_register (fact.Void voided) reported = absurd reported
no_register (fact.Poll poll) reported = absurd reported
no_register (fact.Outcome ended) reported = refl
no_register (fact.Reply reply) reported = absurd reported

poll_after : (draft : PendingWrite) (recorded : List Fact) (number : ℕ) → AreReported draft.facts.items → poll_of (so_far draft recorded) number ≡ poll_of recorded number
poll_after draft recorded number reported =
    ap (λ ps. find (λ (p : Poll). p.number == number) ps) (reported_skipped as_poll no_poll draft.facts.items recorded reported)

registers_after : (draft : PendingWrite) (recorded : List Fact) (device : List ℕ) → AreReported draft.facts.items
    → registers_of (so_far draft recorded) device ≡ registers_of recorded device
registers_after draft recorded device reported =
    ap (λ rs. reverse (filter (λ (r : Register). same r.device device) rs)) (reported_skipped as_register no_register draft.facts.items recorded reported)

no_row : (recorded : List Fact) (o : Option Poll) → None ≡ option_map (poll_row recorded) o → o ≡ None
no_row recorded None h = refl
no_row recorded (Some poll) h = absurd (cc)

its_row : (recorded : List Fact) (row : PollRow) (o : Option Poll) → Some row ≡ option_map (poll_row recorded) o → o ≡ Some row.poll
its_row recorded row None h = absurd (cc)
its_row recorded row (Some poll) h = let e : row ≡ poll_row recorded poll = cc in ap Some (sym (ap (λ (r : PollRow). r.poll) e))

-- If a Modbus response belongs to a poll that is not recorded, then the response adds no readings.
pub reply_to_none : (holds : List Fact → Type 0) (clean : Type 0) (draft : PendingWrite) (at number : ℕ) (words : List ℕ)
    → ((recorded : List Fact) → holds recorded → clean → None ≡ poll_row_of recorded number)
    → Grows holds clean draft draft (λ facts. with_reply at (poll_of facts number) words facts) (λ facts. reply_notes at (poll_of facts number) words facts)
reply_to_none holds clean draft at number words found = λ recorded h c reported lawful.
    let none : poll_of (so_far draft recorded) number ≡ None =
    poll_after draft recorded number reported ∙ no_row recorded (poll_of recorded number) (found recorded h c) in
    record {
      facts = ap (λ o. with_reply at o words (so_far draft recorded)) (sym none);
      notes = sym (append-nil draft.notes.items) ∙ ap (λ o. draft.notes.items ++ reply_notes at o words (so_far draft recorded)) (sym none);
      reported = reported;
    }

pub reply_to : (holds mid : List Fact → Type 0) (clean : Type 0) (old new : PendingWrite) (at number : ℕ) (words : List ℕ) (row : PollRow) (rs : List Register)
    → ((recorded : List Fact) → holds recorded → clean → Some row ≡ poll_row_of recorded number)
    → ((recorded : List Fact) → holds recorded → clean → rs ≡ filter (is_read_by row.poll.span) (registers_of recorded row.poll.device))
    → ((recorded : List Fact) → holds recorded → mid recorded)
    → Grows mid clean old new (with_registers at row.poll words rs) (registers_notes at row.poll words rs)
    → Grows holds clean old new (λ facts. with_reply at (poll_of facts number) words facts) (λ facts. reply_notes at (poll_of facts number) words facts)
reply_to holds mid clean old new at number words row rs found known kept on = λ recorded h c reported lawful.
    let F : List Fact = so_far old recorded in
    let p : poll_of F number ≡ Some row.poll = poll_after old recorded number reported ∙ its_row recorded row (poll_of recorded number) (found recorded h c) in
    let all : List Register = registers_of F row.poll.device in
    let r : rs ≡ filter (is_read_by row.poll.span) all =
    known recorded h c ∙ ap (filter (is_read_by row.poll.span)) (sym (registers_after old recorded row.poll.device reported)) in
    let is : with_registers at row.poll words rs F ≡ with_reply at (poll_of F number) words F =
    ap (λ xs. with_registers at row.poll words xs F) r ∙ with_read at row.poll words all F ∙ ap (λ o. with_reply at o words F) (sym p) in
    let reported_so : registers_notes at row.poll words rs F ≡ reply_notes at (poll_of F number) words F =
    ap (λ xs. registers_notes at row.poll words xs F) r ∙ reported_read at row.poll words all F ∙ ap (λ o. reply_notes at o words F) (sym p) in
    let added = on recorded (kept recorded h) c reported (subst AreLawful (sym is) lawful) in
    record { facts = added.facts ∙ is; notes = added.notes ∙ ap (λ xs. old.notes.items ++ xs) reported_so; reported = added.reported }

-- If a poll's outcome is converted to a record and back, then the result equals the outcome.
outcome_again : (o : plain.Outcome) (r : Option Reply) → outcome_of (reported_as o r) ≡ o
outcome_again Answered r = refl
outcome_again (Exception code) r = refl
outcome_again Silent r = refl
outcome_again (Malformed malformation) r = refl
outcome_again (Lost cause) r = refl

no_reply : {P : Type 0} (r : Option Reply) → r ≡ None → is_some r ≡ true → P
no_reply None none some = absurd (let e : false ≡ true = some in cc)
no_reply (Some reply) none some = absurd (cc)

unread : (at number : ℕ) (o : plain.Outcome) (r : Option Reply) → is_some r ≡ is_answered o → r ≡ None → (facts : List Fact)
    → (with_words at number (reported_as o r) facts ≡ facts) × (words_notes at number (reported_as o r) facts ≡ [])
unread at number Answered r lends none facts = no_reply r none lends
unread at number (Exception code) r lends none facts = (refl, refl)
unread at number Silent r lends none facts = (refl, refl)
unread at number (Malformed malformation) r lends none facts = (refl, refl)
unread at number (Lost cause) r lends none facts = (refl, refl)

some_reply : {P : Type 0} (r : Option Reply) (reply : Reply) → r ≡ Some reply → is_some r ≡ false → P
some_reply None reply some none = absurd (cc)
some_reply (Some other) reply some none = absurd (let e : true ≡ false = none in cc)

answered : (o : plain.Outcome) (r : Option Reply) (reply : Reply) → is_some r ≡ is_answered o → r ≡ Some reply
    → reported_as o r ≡ session.Answered (session.words_in (reply_answer reply))
answered Answered r reply lends is = ap (λ x. session.Answered (lent_words x)) is
answered (Exception code) r reply lends is = some_reply r reply is lends
answered Silent r reply lends is = some_reply r reply is lends
answered (Malformed malformation) r reply lends is = some_reply r reply is lends
answered (Lost cause) r reply lends is = some_reply r reply is lends

abbrev pub ended_fact : ℕ → Settled → Fact
ended_fact at settled = fact.Outcome (record { poll = settled.poll; at = at; outcome = settled.outcome })

abbrev pub ended_note : Settled → Note
ended_note settled = note.Outcome settled.poll settled.outcome

same_fact : (at : ℕ) (settled : Settled)
    → fact.Outcome (record { poll = settled.poll; at = at; outcome = outcome_of (reported_as settled.outcome settled.reply) }) ≡ ended_fact at settled
same_fact at settled =
    ap (λ (o : plain.Outcome). fact.Outcome (record { poll = settled.poll; at = at; outcome = o })) (outcome_again settled.outcome settled.reply)

pub outcome_unread : (holds : List Fact → Type 0) (clean : Type 0) (old new : PendingWrite) (at : ℕ) (settled : Settled) → LendsReply settled
    → settled.reply ≡ None → HasMore old new (ended_fact at settled) (ended_note settled)
    → Grows holds clean old new (with_outcome at (settled_of settled)) (outcome_notes at (settled_of settled))
outcome_unread holds clean old new at settled lends none more =
    grows_like holds clean old new (λ fs. ended_fact at settled ∷ fs) _ (λ fs. ended_note settled ∷ []) _
    (λ fs.
    ap (λ x. with_words at settled.poll (reported_as settled.outcome settled.reply) (x ∷ fs)) (same_fact at settled)
    ∙ (unread at settled.poll settled.outcome settled.reply lends none (ended_fact at settled ∷ fs)).0)
    (λ fs.
    ap (λ x. note.Outcome settled.poll (outcome_of (reported_as settled.outcome settled.reply)) ∷ words_notes at settled.poll (reported_as settled.outcome settled.reply) (x ∷ fs)) (same_fact at settled)
    ∙ ap (λ o. note.Outcome settled.poll o ∷ words_notes at settled.poll (reported_as settled.outcome settled.reply) (ended_fact at settled ∷ fs)) (outcome_again settled.outcome settled.reply)
    ∙ ap (λ xs. ended_note settled ∷ xs) (unread at settled.poll settled.outcome settled.reply lends none (ended_fact at settled ∷ fs)).1)
    (one_added holds clean old new (ended_fact at settled) (ended_note settled) tt more)

pub outcome_read : (holds mid : List Fact → Type 0) (clean later : Type 0) (old between new : PendingWrite) (at : ℕ) (settled : Settled) (reply : Reply)
    → LendsReply settled → settled.reply ≡ Some reply
    → HasMore old between (ended_fact at settled) (ended_note settled)
    → ((recorded : List Fact) → holds recorded → mid recorded) → (later → clean)
    → Grows mid later between new (λ facts. with_reply at (poll_of facts settled.poll) (session.words_in (reply_answer reply)) facts)
    (λ facts. reply_notes at (poll_of facts settled.poll) (session.words_in (reply_answer reply)) facts)
    → Grows holds later old new (with_outcome at (settled_of settled)) (outcome_notes at (settled_of settled))
outcome_read holds mid clean later old between new at settled reply lends is more kept cleaner on =
    let words : List ℕ = session.words_in (reply_answer reply) in
    let as_words = answered settled.outcome settled.reply reply lends is in
    grows_like holds later old new _ _ _ _
    (λ fs.
    ap (λ x. with_words at settled.poll (reported_as settled.outcome settled.reply) (x ∷ fs)) (same_fact at settled)
    ∙ ap (λ s. with_words at settled.poll s (ended_fact at settled ∷ fs)) as_words)
    (λ fs.
    ap (λ x. note.Outcome settled.poll (outcome_of (reported_as settled.outcome settled.reply)) ∷ words_notes at settled.poll (reported_as settled.outcome settled.reply) (x ∷ fs)) (same_fact at settled)
    ∙ ap (λ o. note.Outcome settled.poll o ∷ words_notes at settled.poll (reported_as settled.outcome settled.reply) (ended_fact at settled ∷ fs)) (outcome_again settled.outcome settled.reply)
    ∙ ap (λ s. ended_note settled ∷ words_notes at settled.poll s (ended_fact at settled ∷ fs)) as_words)
    (grows_then holds mid clean later old between new (λ fs. ended_fact at settled ∷ fs)
    (λ facts. with_reply at (poll_of facts settled.poll) words facts) (λ fs. ended_note settled ∷ [])
    (λ facts. reply_notes at (poll_of facts settled.poll) words facts) kept cleaner
    (λ facts. before_reply at (poll_of facts settled.poll) words facts)
    (one_added holds clean old between (ended_fact at settled) (ended_note settled) tt more) on)
