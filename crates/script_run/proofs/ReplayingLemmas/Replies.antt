-- Lemmas: with a store in memory, the program's replies to the events of a script (a text of timed
-- commands) are those that the script's specification allows.
use Rattle.std.proofs.Common.{◌≡◌, ◌⊎◌, ◌+◌, inl, inr, ℕ, Bool, false, Option, List, refl, sym, ap, ◌∙◌}
use Rattle.std.specs.Prelude.{min, Result, Ok, Err}
use Rattle.std.specs.declared.io.Error.{Error}
use Rattle.interval_core.specs.declared.zone.Zone.{Zone}
use Rattle.office_events.specs.declared.answers.Answer.{Answer}
use Rattle.office_events.specs.declared.events.Event.{Event}
use Rattle.office_events.specs.declared.refusals.Refusal.{Refusal}
use Rattle.office_events.specs.declared.refusals.Refusal.TheVariants as refusal
use Rattle.office_events.specs.declared.refusals.StoreCause.TheVariants as store
use Rattle.office_books.specs.declared.failures.Failures.{Failures}
use Rattle.memory_books.specs.Listed.{ledger_of}
use Rattle.memory_books.specs.declared.list_books.ListBooks.{ListBooks}
use Rattle.office_books.specs.History.{History}
use Rattle.office_books.specs.Refusals.{IsAccepted, with_answer}
use Rattle.office_core.specs.Failing.{FailsOutside}
use Rattle.office_core.specs.Standing.{Stands, is_stopped}
use Rattle.office_core.specs.Taking.{Ends, IsAnswer, IsQuiet, SettlesNothing, failures_of}
use Rattle.office_core.specs.declared.office.Office.{Office}
use Rattle.script_run.specs.Replaying.Events.{EventPrints, reply_text}
use Rattle.script_run.specs.Replaying.TextRun.{IsCarriedOut, stage_of}
use Rattle.script_run.specs.Replaying.Stages.{Fails, Stage}
use Rattle.sun_points.specs.Writing.{GotText}

abbrev staged : History → Bool → Zone → Stage
staged past stopped zone = record { past = past; stopped = stopped; zone = zone }

pub same_stage : (past : History) (a b : Bool) (y z : Zone) → a ≡ b → y ≡ z → staged past a y ≡ staged past b z
same_stage past a b y z stopped zone = ap (λ s. staged past s y) stopped ∙ ap (staged past b) zone

abbrev how_often : Failures → ℕ
how_often failures = failures.count

abbrev raised : ℕ → ℕ
raised n = min (n + 1) 18446744073709551615

-- With a store in memory, a call fails only because memory ran out, or because an earlier failure
-- had stopped the program.
pub fails_in_memory : {T : Type 0} (takes_memory : Type 0) (before after : Failures) (reply : Result T Refusal) → before.count ≡ 0 → after.count ≡ 0
    → FailsOutside takes_memory before after reply → Fails reply
fails_in_memory takes_memory before after (Ok x) none still h = absurd h
fails_in_memory takes_memory before after (Err refusal.NotFound) none still h = absurd h
fails_in_memory takes_memory before after (Err refusal.Exists) none still h = absurd h
fails_in_memory takes_memory before after (Err refusal.ClockBack) none still h = absurd h
fails_in_memory takes_memory before after (Err refusal.BadScale) none still h = absurd h
fails_in_memory takes_memory before after (Err refusal.NegativeStep) none still h = absurd h
fails_in_memory takes_memory before after (Err refusal.NotLater) none still h = absurd h
fails_in_memory takes_memory before after (Err refusal.SpanTooLong) none still h = absurd h
fails_in_memory takes_memory before after (Err refusal.TotalFull) none still h = absurd h
fails_in_memory takes_memory before after (Err refusal.Ended) none still h = absurd h
fails_in_memory takes_memory before after (Err refusal.Busy) none still h = absurd h
fails_in_memory takes_memory before after (Err refusal.Reused) none still h = absurd h
fails_in_memory takes_memory before after (Err refusal.Limit) none still h = absurd h
fails_in_memory takes_memory before after (Err (refusal.Store store.Refused)) none still h = absurd (let e : 0 ≡ 1 = sym still ∙ ap how_often h ∙ ap raised none in cc)
fails_in_memory takes_memory before after (Err (refusal.Store store.Damaged)) none still h = absurd (let e : 0 ≡ 1 = sym still ∙ ap how_often h ∙ ap raised none in cc)
fails_in_memory takes_memory before after (Err (refusal.Store store.NoDay)) none still h = absurd h
fails_in_memory takes_memory before after (Err refusal.Memory) none still h = tt
fails_in_memory takes_memory before after (Err refusal.Stopped) none still h = tt
fails_in_memory takes_memory before after (Err refusal.NotVoidable) none still h = absurd h
fails_in_memory takes_memory before after (Err (refusal.NotPlausible why)) none still h = absurd h

pub right_or_fails : {T : Type 0} (takes_memory : Type 0) (before after : Failures) (reply right : Result T Refusal) → before.count ≡ 0
    → after.count ≡ 0 → ((reply ≡ right) × (after ≡ before)) ⊎ FailsOutside takes_memory before after reply → (reply ≡ right) ⊎ Fails reply
right_or_fails takes_memory before after reply right none still (inl h) = inl h.0
right_or_fails takes_memory before after reply right none still (inr h) = inr (fails_in_memory takes_memory before after reply none still h)

-- If the program replied to an event, and the reply was written to the output, then the event's
-- script line was executed. If only a part of the reply was written, the line was interrupted.
pub replied : (past : History) (at : ℕ) (e : Event) (office office' : Office ListBooks) (reply : Result Answer Refusal)
    (result : Result (Unit {0}) Error) (o o' : Option (List ℕ)) → IsAnswer past at e (failures_of ledger_of office) (failures_of ledger_of office') reply → Ends ledger_of office office' e reply
    → (is_stopped office ≡ false → SettlesNothing past at e → IsQuiet office office' reply)
    → Stands ledger_of (with_answer past at e reply) office' → GotText result (reply_text past at e reply) o o'
    → IsCarriedOut (λ now printed next. EventPrints now at e printed next) past office office' result o o'
replied past at e office office' reply result o o' answer ends quiet stands got = record {
  printed = reply_text past at e reply;
  after = with_answer past at e reply;
  prints = record {
    reply = reply;
    is = record {
      answer = right_or_fails (IsAccepted past at e) _ _ reply _ refl refl answer;
      stops = ends.stopped;
      quiet = λ goes nothing. (quiet goes nothing).answer;
    };
    text = refl;
    after = same_stage (with_answer past at e reply) _ _ _ _ ends.stops ends.zone;
  };
  got = got;
  stands = stands;
}

-- If a script line was executed according to the specification `P`, then it was also executed
-- according to every weaker specification `Q`.
pub carried_as : (P Q : Stage → List ℕ → Stage → Type 0) (past : History) (office office' : Office ListBooks)
    (result : Result (Unit {0}) Error) (o o' : Option (List ℕ))
    → ((now : Stage) (printed : List ℕ) (next : Stage) → P now printed next → Q now printed next)
    → IsCarriedOut P past office office' result o o' → IsCarriedOut Q past office office' result o o'
carried_as P Q past office office' result o o' turn done = record {
  printed = done.printed;
  after = done.after;
  prints = turn _ _ _ done.prints;
  got = done.got;
  stands = done.stands;
}

-- Suppose that a script line's specification allows printing a certain text without a change of the
-- state. If the line only prints this text, it is executed as its specification requires.
pub nothing_done : (P : Stage → List ℕ → Stage → Type 0) (past : History) (office : Office ListBooks) (printed : List ℕ)
    (result : Result (Unit {0}) Error) (o o' : Option (List ℕ)) → P (stage_of past office) printed (stage_of past office)
    → Stands ledger_of past office → GotText result printed o o' → IsCarriedOut P past office office result o o'
nothing_done P past office printed result o o' prints stands got =
    record { printed = printed; after = past; prints = prints; got = got; stands = stands }
