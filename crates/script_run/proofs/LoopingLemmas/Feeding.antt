-- Lemmas: the output for the events that a script with simulated devices passes to the program is
-- as the script's specification requires.
use Rattle.std.proofs.Common.{◌≡◌, ◌⊎◌, ◌≤◌, ◌+◌, ◌++◌, append-nil, inl, inr, ℕ, Bool, true, false, List, [], ◌∷◌, Option, refl, sym, ap, ◌∙◌, subst, arith, length}
use Rattle.std.specs.Prelude.{Result, Ok, Err, codes, is_ok}
use Rattle.std.specs.Io.KnownBytes.{Appends}
use Rattle.std.specs.declared.io.Error.{Error}
use Rattle.std.proofs.KnownBytes.{Appends-nil, Appends-trans}
use Rattle.mb_device.specs.Maps.{Maps}
use Rattle.office_core.specs.Standing.{Stands, is_stopped}
use Rattle.office_core.specs.Taking.{Ends, IsAnswer, IsQuiet, SettlesNothing, failures_of}
use Rattle.office_core.specs.declared.office.Office.{Office}
use Rattle.office_events.specs.declared.answers.Answer.{Answer}
use Rattle.office_events.specs.declared.events.Event.{Event}
use Rattle.office_events.specs.declared.refusals.Refusal.{Refusal}
use Rattle.memory_books.specs.Listed.{ledger_of}
use Rattle.memory_books.specs.declared.list_books.ListBooks.{ListBooks}
use Rattle.office_books.specs.History.{History}
use Rattle.office_books.specs.Refusals.{IsAccepted, with_answer}
use Rattle.script_run.proofs.ReplayingLemmas.Replies.{right_or_fails, same_stage}
use Rattle.script_run.specs.Replaying.Events.{EventPrints, IsReply, reply_text}
use Rattle.script_run.specs.Replaying.TextRun.{stage_of}
use Rattle.script_run.specs.Replaying.Stages.{Stage, after_reply}
use Rattle.script_run.specs.Looping.Answers.{AnswersPrint, FedAll, FedPrints, fed, fed_text, most_takes}
use Rattle.mb_device.specs.StandIn.Exchanges.{Exchanged}
use Rattle.script_run.specs.Looping.Lines.{StartsPrint}
use Rattle.script_run.specs.Looping.Standings.{Begins, Carried, Carries, CarriesOut, LoopStage, loop_state, stage_on}
use Rattle.script_run.proofs.LoopingLemmas.Breaking.{begins_as, part_after, part_of_longer, part_of_none}
use Rattle.script_run.proofs.LoopingLemmas.Carrying.{Reported, ReportedOut}
use Rattle.sun_points.specs.Writing.{GotPart, GotText}
use Rattle.script_run.specs.declared.looping.answers.Came.{Came}

appended_none : (o m o' : Option (List ℕ)) (text : List ℕ) → Appends o m text → Appends m o' [] → Appends o o' text
appended_none o m o' text first second = subst (λ (t : List ℕ). Appends o o' t) (append-nil text) (Appends-trans o m o' text [] first second)

-- States that the specification `IsReply` allows the program's reply to an event, and that the
-- stored records are those of the history after the event.
pub record Replied (past : History) (at : ℕ) (e : Event) (reply : Result Answer Refusal) (office office' : Office ListBooks)
    : Type 0 where
  pub is : IsReply (stage_of past office) at e reply
  pub after : stage_of (with_answer past at e reply) office' ≡ after_reply (stage_of past office) at e reply
  pub stands : Stands ledger_of (with_answer past at e reply) office'

pub was_replied : (past : History) (at : ℕ) (e : Event) (reply : Result Answer Refusal) (office office' : Office ListBooks)
    → IsAnswer past at e (failures_of ledger_of office) (failures_of ledger_of office') reply → Ends ledger_of office office' e reply
    → (is_stopped office ≡ false → SettlesNothing past at e → IsQuiet office office' reply)
    → Stands ledger_of (with_answer past at e reply) office' → Replied past at e reply office office'
was_replied past at e reply office office' answer ends quiet stands = record {
  is = record {
    answer = right_or_fails (IsAccepted past at e) _ _ reply _ refl refl answer;
    stops = ends.stopped;
    quiet = λ goes nothing. (quiet goes nothing).answer;
  };
  after = same_stage (with_answer past at e reply) _ _ _ _ ends.stops ends.zone;
  stands = stands;
}

pub was_fed : (past : History) (at : ℕ) (e : Event) (reply : Result Answer Refusal) (office office' : Office ListBooks) (accepted : Bool)
    (text : List ℕ) (o o' : Option (List ℕ)) → Replied past at e reply office office' → accepted ≡ is_ok reply
    → text ≡ fed_text past at e reply → Appends o o' text
    → Carried (λ now printed next. FedPrints now at e accepted printed next) past office office' o o'
was_fed past at e reply office office' accepted text o o' replied accepts same appended = record {
  printed = text;
  after = with_answer past at e reply;
  prints = record { reply = reply; is = replied.is; accepts = accepts; text = same; after = replied.after };
  appended = appended;
  stands = replied.stands;
}

-- If only a part of the reply to an event was written, then the writer received a beginning of the
-- output of the event's line.
pub was_begun : (past : History) (at : ℕ) (e : Event) (reply : Result Answer Refusal) (office office' : Office ListBooks) (accepted : Bool)
    (text : List ℕ) (o o' : Option (List ℕ)) → Replied past at e reply office office' → accepted ≡ is_ok reply
    → text ≡ fed_text past at e reply → GotPart text o o'
    → Begins (λ printed. (ok : Bool) × (next : Stage) × FedPrints (stage_of past office) at e ok printed next) o o'
was_begun past at e reply office office' accepted text o o' replied accepts same got =
    inr (
      text,
      (
        accepted,
        stage_of (with_answer past at e reply) office',
        record { reply = reply; is = replied.is; accepts = accepts; text = same; after = replied.after },
      ),
      got,
    )

pub was_printed : (past : History) (at : ℕ) (e : Event) (reply : Result Answer Refusal) (office office' : Office ListBooks)
    (text : List ℕ) → Replied past at e reply office office' → text ≡ reply_text past at e reply
    → Reported (λ now printed next. EventPrints now at e printed next) past office office' text
was_printed past at e reply office office' text replied same = record {
  after = with_answer past at e reply;
  prints = record { reply = reply; is = replied.is; text = same; after = replied.after };
  stands = replied.stands;
}

-- Loop invariant: the program accepted everything that arrived on a device's connection in the
-- first `takes` reads.
pub record FedSoFar (takes : ℕ) (device : Option (List ℕ)) (at : ℕ) (past : History) (office office' : Office ListBooks)
    (o o' : Option (List ℕ)) : Type 0 where
  pub brought : List Came
  pub printed : List ℕ
  pub after : History
  pub all : FedAll device at (stage_of past office) brought printed (stage_of after office')
  pub few : length brought ≤ takes
  pub appended : Appends o o' printed
  pub stands : Stands ledger_of after office'

pub none_fed : (device : Option (List ℕ)) (at : ℕ) (past : History) (office : Office ListBooks) (o : Option (List ℕ))
    → Stands ledger_of past office → FedSoFar 0 device at past office office o o
none_fed device at past office o stands =
    record { brought = []; printed = []; after = past; all = (refl, refl); few = omega arith; appended = Appends-nil o; stands = stands }

pub fed_more : (takes : ℕ) (device : Option (List ℕ)) (at : ℕ) (past : History) (came : Came) (e : Event) (accepted : Bool)
    (office mid office' : Office ListBooks) (o m o' : Option (List ℕ)) → FedSoFar takes device at past office mid o m → e ≡ fed device came
    → accepted ≡ true
    → ((now : History) → Stands ledger_of now mid → Carried (λ now printed next. FedPrints now at e accepted printed next) now mid office' m o')
    → FedSoFar (takes + 1) device at past office office' o o'
fed_more takes device at past came e accepted office mid office' o m o' so is accepts feeds =
    let done = feeds so.after so.stands in
    let prints : FedPrints (stage_of so.after mid) at (fed device came) true done.printed (stage_of done.after office') =
    rw (sym is) (rw (sym accepts) done.prints) in
    record {
      brought = came ∷ so.brought;
      printed = so.printed ++ done.printed;
      after = done.after;
      all = (so.printed, done.printed, stage_of so.after mid, so.all, prints, refl);
      few = omega (arith, so.few);
      appended = Appends-trans o m o' so.printed done.printed so.appended done.appended;
      stands = done.stands;
    }

pub fed_ok : (takes : ℕ) (device : Option (List ℕ)) (at : ℕ) (past : History) (office office' : Office ListBooks) (o m o' : Option (List ℕ))
    → takes ≤ most_takes → FedSoFar takes device at past office office' o m → Appends m o' (codes "ok\n")
    → Carried (λ now printed next. AnswersPrint device at now printed next) past office office' o o'
fed_ok takes device at past office office' o m o' most so ok = record {
  printed = so.printed ++ codes "ok\n";
  after = so.after;
  prints = record {
    brought = so.brought;
    before = so.printed;
    mid = stage_of so.after office';
    all = so.all;
    few = omega (arith, so.few, most);
    ending = codes "ok\n";
    ends = inl (refl, refl);
    text = refl;
  };
  appended = Appends-trans o m o' so.printed (codes "ok\n") so.appended ok;
  stands = so.stands;
}

-- Suppose that only a part of the closing line `ok` was written. Then the writer received a
-- beginning of the complete output for the simulator's responses.
pub fed_part : (takes : ℕ) (device : Option (List ℕ)) (at : ℕ) (past : History) (office office' : Office ListBooks) (o m o' : Option (List ℕ))
    → takes ≤ most_takes → FedSoFar takes device at past office office' o m → GotPart (codes "ok\n") m o'
    → Begins (λ printed. (stays : Bool) × (next : Stage) × AnswersPrint device at (stage_of past office) printed next) o o'
fed_part takes device at past office office' o m o' most so got =
    let prints : AnswersPrint device at (stage_of past office) (so.printed ++ codes "ok\n") (stage_of so.after office') = record {
      brought = so.brought;
      before = so.printed;
      mid = stage_of so.after office';
      all = so.all;
      few = omega (arith, so.few, most);
      ending = codes "ok\n";
      ends = inl (refl, refl);
      text = refl;
    } in
    inr (so.printed ++ codes "ok\n", (true, stage_of so.after office', prints), part_after o m o' so.printed (codes "ok\n") so.appended got)

-- After all responses of the simulator were processed, the script prints `ok`. If this write fails,
-- the writer received only a beginning of the output.
pub fed_end : (r : Result Bool Error) (takes : ℕ) (device : Option (List ℕ)) (at : ℕ) (office office' : Office ListBooks) (o m o' : Option (List ℕ))
    → takes ≤ most_takes → ((past : History) → Stands ledger_of past office → FedSoFar takes device at past office office' o m)
    → GotText r (codes "ok\n") m o'
    → Carries r (λ stays now printed next. AnswersPrint device at now printed next) office office' o o'
fed_end (Ok stays) takes device at office office' o m o' most so got = λ past stands.
    fed_ok takes device at past office office' o m o' most (so past stands) got
fed_end (Err error) takes device at office office' o m o' most so got = λ past stands.
    fed_part takes device at past office office' o m o' most (so past stands) got

-- If a write fails in the output for one chunk of the simulator's responses, the writer received a
-- beginning of the output for all responses.
pub fed_broken : (takes : ℕ) (device : Option (List ℕ)) (at : ℕ) (past : History) (came : Came) (e : Event) (office mid : Office ListBooks)
    (o m o' : Option (List ℕ)) → takes + 1 ≤ most_takes → (so : FedSoFar takes device at past office mid o m) → e ≡ fed device came
    → Begins (λ printed. (ok : Bool) × (next : Stage) × FedPrints (stage_of so.after mid) at e ok printed next) m o'
    → Begins (λ printed. (stays : Bool) × (next : Stage) × AnswersPrint device at (stage_of past office) printed next) o o'
fed_broken takes device at past came e office mid o m o' most so is (inl nothing) =
    fed_part takes device at past office mid o m o' (omega (arith, most)) so (part_of_none m o' (codes "ok\n") nothing)
fed_broken takes device at past came e office mid o m o' most so is (inr (printed, (true, next, fed_prints), got)) =
    let prints : FedPrints (stage_of so.after mid) at (fed device came) true printed next = rw (sym is) fed_prints in
    let text = (so.printed ++ printed) ++ codes "ok\n" in
    let all : AnswersPrint device at (stage_of past office) text next = record {
      brought = came ∷ so.brought;
      before = so.printed ++ printed;
      mid = next;
      all = (so.printed, printed, stage_of so.after mid, so.all, prints, refl);
      few = omega (arith, so.few, most);
      ending = codes "ok\n";
      ends = inl (refl, refl);
      text = refl;
    } in
    inr (
      text,
      (true, next, all),
      part_of_longer o o' (so.printed ++ printed) (codes "ok\n") (part_after o m o' so.printed printed so.appended got),
    )
fed_broken takes device at past came e office mid o m o' most so is (inr (printed, (false, next, fed_prints), got)) =
    let prints : FedPrints (stage_of so.after mid) at (fed device came) false printed next = rw (sym is) fed_prints in
    let all : AnswersPrint device at (stage_of past office) (so.printed ++ printed) next = record {
      brought = so.brought;
      before = so.printed;
      mid = stage_of so.after mid;
      all = so.all;
      few = omega (arith, so.few, most);
      ending = printed;
      ends = inr (came, prints);
      text = refl;
    } in
    inr (so.printed ++ printed, (true, next, all), part_after o m o' so.printed printed so.appended got)

pub fed_refused : (takes : ℕ) (device : Option (List ℕ)) (at : ℕ) (past : History) (came : Came) (e : Event) (accepted : Bool)
    (office mid office' : Office ListBooks) (o m o' : Option (List ℕ)) → takes ≤ most_takes
    → FedSoFar takes device at past office mid o m → e ≡ fed device came → accepted ≡ false
    → ((now : History) → Stands ledger_of now mid → Carried (λ now printed next. FedPrints now at e accepted printed next) now mid office' m o')
    → Carried (λ now printed next. AnswersPrint device at now printed next) past office office' o o'
fed_refused takes device at past came e accepted office mid office' o m o' most so is refuses feeds =
    let done = feeds so.after so.stands in
    let prints : FedPrints (stage_of so.after mid) at (fed device came) false done.printed (stage_of done.after office') =
    rw (sym is) (rw (sym refuses) done.prints) in
    record {
      printed = so.printed ++ done.printed;
      after = done.after;
      prints = record {
        brought = so.brought;
        before = so.printed;
        mid = stage_of so.after mid;
        all = so.all;
        few = omega (arith, so.few, most);
        ending = done.printed;
        ends = inr (came, prints);
        text = refl;
      };
      appended = Appends-trans o m o' so.printed done.printed so.appended done.appended;
      stands = done.stands;
    }

-- States that a failed write interrupted a script line that starts Modbus reads, and that the
-- writer received a beginning of the line's output, possibly nothing.
abbrev pub StartBegins : (at : ℕ) → (device : Option (List ℕ)) → Event → History → Office ListBooks → Maps → Bool → (o o' : Option (List ℕ)) → Type 0
StartBegins at device e past office maps connected o o' =
    Begins (λ printed. (done : Unit {0}) × (next : LoopStage)
    × StartsPrint at device e (stage_on past (loop_state office maps connected o)) printed next) o o'

answers_none : (device : Option (List ℕ)) (at : ℕ) (now : Stage) → AnswersPrint device at now (codes "ok\n") now
answers_none device at now = record {
  brought = [];
  before = [];
  mid = now;
  all = (refl, refl);
  few = omega arith;
  ending = codes "ok\n";
  ends = inl (refl, refl);
  text = refl;
}

-- Suppose that only a part of the reply to a script line that starts Modbus reads was written. Then
-- the writer received a beginning of the line's output.
pub start_begun : (at : ℕ) (device : Option (List ℕ)) (e : Event) (given : Answer) (past : History) (office mid : Office ListBooks) (maps : Maps)
    (connected : Bool) (o o' : Option (List ℕ)) → Replied past at e (Ok given) office mid → GotPart (reply_text past at e (Ok given)) o o'
    → StartBegins at device e past office maps connected o o'
start_begun at device e given past office mid maps connected o o' replied got =
    let now = stage_of past office in
    let text = reply_text past at e (Ok given) ++ codes "ok\n" in
    let next : LoopStage = record { script = after_reply now at e (Ok given); maps = maps; connected = connected } in
    let prints : StartsPrint at device e (stage_on past (loop_state office maps connected o)) text next = record {
      reply = Ok given;
      is = replied.is;
      started = (codes "ok\n", refl, answers_none device at (after_reply now at e (Ok given)), ([], refl));
      connected = refl;
    } in
    inr (text, (tt, next, prints), part_of_longer o o' (reply_text past at e (Ok given)) (codes "ok\n") got)

-- Suppose that the reply to a script line that starts Modbus reads was written, but the output for
-- the responses only in part. Then the writer received a beginning of the line's output.
start_broken : (at : ℕ) (device : Option (List ℕ)) (e : Event) (given : Answer) (past : History) (office mid : Office ListBooks) (maps maps' : Maps)
    (connected : Bool) (o m o' : Option (List ℕ)) → Replied past at e (Ok given) office mid → Appends o m (reply_text past at e (Ok given))
    → Exchanged maps maps'
    → Begins (λ printed. (done : Unit {0}) × (next : Stage) × AnswersPrint device at (stage_of (with_answer past at e (Ok given)) mid) printed next) m o'
    → StartBegins at device e past office maps connected o o'
start_broken at device e given past office mid maps maps' connected o m o' replied appended exchanged (inl nothing) =
    start_begun at device e given past office mid maps connected o o' replied
    (reply_text past at e (Ok given), [], sym (append-nil (reply_text past at e (Ok given))), appended_none o m o' (reply_text past at e (Ok given)) appended nothing)
start_broken at device e given past office mid maps maps' connected o m o' replied appended exchanged (inr (printed, (done, next, answers), got)) =
    let now = stage_of past office in
    let text = reply_text past at e (Ok given) ++ printed in
    let P : Stage → Type 0 = λ s. AnswersPrint device at s printed next in
    let end : LoopStage = record { script = next; maps = maps'; connected = connected } in
    let prints : StartsPrint at device e (stage_on past (loop_state office maps connected o)) text end = record {
      reply = Ok given;
      is = replied.is;
      started = (printed, refl, subst P replied.after answers, exchanged);
      connected = refl;
    } in
    inr (text, (tt, end, prints), part_after o m o' (reply_text past at e (Ok given)) printed appended got)

-- Suppose that a script line starts Modbus reads. If the reply to the line and the output for the
-- responses were both written, then the line was executed.
pub started : (at : ℕ) (device : Option (List ℕ)) (e : Event) (given : Answer) (office mid office' : Office ListBooks) (maps maps' : Maps)
    (connected : Bool) (o m o' : Option (List ℕ)) (r : Result (Unit {0}) Error)
    → ((past : History) → Stands ledger_of past office
    → Replied past at e (Ok given) office mid × Appends o m (reply_text past at e (Ok given)))
    → Exchanged maps maps' → Carries r (λ done now printed next. AnswersPrint device at now printed next) mid office' m o'
    → CarriesOut r (λ done now printed next. StartsPrint at device e now printed next) (loop_state office maps connected o) (loop_state office' maps' connected o')
started at device e given office mid office' maps maps' connected o m o' (Ok done) begun exchanged carries = λ past stands.
    let replied = begun past stands in
    let rest = carries (with_answer past at e (Ok given)) replied.0.stands in
    let P : Stage → Type 0 = λ s. AnswersPrint device at s rest.printed (stage_of rest.after office') in
    record {
      printed = reply_text past at e (Ok given) ++ rest.printed;
      after = rest.after;
      prints = record {
        reply = Ok given;
        is = replied.0.is;
        started = (rest.printed, refl, subst P replied.0.after rest.prints, exchanged);
        connected = refl;
      };
      appended = Appends-trans o m o' (reply_text past at e (Ok given)) rest.printed replied.1 rest.appended;
      stands = rest.stands;
    }
started at device e given office mid office' maps maps' connected o m o' (Err error) begun exchanged carries = λ past stands.
    let replied = begun past stands in
    start_broken at device e given past office mid maps maps' connected o m o' replied.0 replied.1 exchanged
    (carries (with_answer past at e (Ok given)) replied.0.stands)

pub not_started : (past : History) (at : ℕ) (device : Option (List ℕ)) (e : Event) (why : Refusal) (office office' : Office ListBooks)
    (maps : Maps) (connected : Bool) (o o' : Option (List ℕ)) → Replied past at e (Err why) office office'
    → ReportedOut (λ now printed next. StartsPrint at device e now printed next) past (loop_state office maps connected o)
    (loop_state office' maps connected o') (reply_text past at e (Err why))
not_started past at device e why office office' maps connected o o' replied = record {
  after = with_answer past at e (Err why);
  prints = record { reply = Err why; is = replied.is; started = (refl, replied.after, refl); connected = refl };
  stands = replied.stands;
}

-- If a simulated device has no connection, then the output for the device's responses is only the
-- line `ok`.
pub only_ok : (device : Option (List ℕ)) (at : ℕ) (office : Office ListBooks) (o o' : Option (List ℕ)) (r : Result (Unit {0}) Error)
    → GotText r (codes "ok\n") o o' → Carries r (λ done now printed next. AnswersPrint device at now printed next) office office o o'
only_ok device at office o o' (Ok done) ok = λ past stands. fed_ok 0 device at past office office o o o' (omega arith) (none_fed device at past office o stands) ok
only_ok device at office o o' (Err error) ok = λ past stands.
    begins_as _ _ o o' (λ printed broken. (tt, broken.1, broken.2))
    (fed_part 0 device at past office office o o o' (omega arith) (none_fed device at past office o stands) ok)
