-- Lemmas: after an office (the part of the program that accepts commands) executed commands in
-- order, its history is the earlier history with these commands added.
use Rattle.std.proofs.Common.{◌≡◌, ℕ, Bool, true, false, List, [], ◌∷◌, ◌++◌, Option, Some, None, Ok, Err, if◌then◌else◌, inl, inr, refl, sym, ap, subst, ◌∙◌, append_assoc}
use Rattle.office_events.specs.declared.answers.Answer.{Answer}
use Rattle.office_events.specs.declared.answers.Answer.TheVariants as answer
use Rattle.office_events.specs.declared.commands.Command.{Command}
use Rattle.office_events.specs.declared.events.Event.{Event}
use Rattle.office_events.specs.declared.facts.Fact.{Fact}
use Rattle.office_events.specs.declared.refusals.Refusal.{Refusal}
use Rattle.office_books.specs.History.{Fed, History, facts_of, kind_of, next_poll, slots_of}
use Rattle.office_books.specs.Refusals.{answer_to, decision_of, is_start, reads_in_all, refusal_of, sent_count, unless_refused, with_answer}
use Rattle.office_books.specs.Ledgers.{Ledger}
use Rattle.office_books.specs.declared.failures.Failures.{Failures}
use Rattle.office_core.specs.declared.office.Office.{Office}
use Rattle.office_core.specs.Standing.{After, Stands}
use Rattle.office_core.specs.Taking.{AnswersEvent, IsAnswer, failures_of}
use Rattle.carried_books.specs.Carrying.Feeding.{AreFed, Feeds, FeedsOne, Passes, accepted, event_of, history_with}
use Rattle.carried_books.specs.declared.carrying.commands.TimedCommand.{TimedCommand}

-- Suppose that an office (the event engine) answers a command, and not with `Again` (a repeated
-- command) or a refusal. Then the command is added to the accepted events.

-- True if the answer reports a newly accepted command, not the repetition of a command that was
-- accepted earlier.
abbrev IsNew : Answer → Type 0
IsNew (answer.Again kind) = ⊥
IsNew (answer.Done kind) = Unit {0}
IsNew (answer.Started first count reads) = Unit {0}
IsNew answer.Noted = Unit {0}

new_is_fed : (past : History) (at : ℕ) (e : Event) (a : Answer) → IsNew a → with_answer past at e (Ok a) ≡ Fed at e ∷ past
new_is_fed past at e (answer.Again kind) new = absurd new
new_is_fed past at e (answer.Done kind) new = refl
new_is_fed past at e (answer.Started first count reads) new = refl
new_is_fed past at e answer.Noted new = refl

either_new : (b : Bool) (x y : Answer) → IsNew x → IsNew y → IsNew (if b then x else y)
either_new true x y h k = h
either_new false x y h k = k

decided : (past : History) (at : ℕ) (e : Event) (a given : Answer) (why : Option Refusal) → IsNew a → Ok given ≡ unless_refused a why
    → with_answer past at e (Ok given) ≡ Fed at e ∷ past
decided past at e a given None new is = ap (with_answer past at e) is ∙ new_is_fed past at e a new
decided past at e a given (Some why) new is = absurd (cc is)

taken : (past : History) (timed : TimedCommand) (given : Answer) → Ok given ≡ decision_of past timed.at (event_of timed)
    → with_answer past timed.at (event_of timed) (Ok given) ≡ accepted timed ∷ past
taken past timed given is =
    let c : Command = timed.command in
    let slots = slots_of past in
    let facts : List Fact = facts_of past in
    decided past timed.at (event_of timed) (answer_to slots facts timed.at c) given (refusal_of past timed.at (event_of timed))
    (either_new (is_start c) (answer.Started (next_poll facts) (sent_count slots facts timed.at c) (reads_in_all facts c)) (answer.Done (kind_of c)) tt tt) is

pub next_given : (commands given rest later : List TimedCommand) (timed : TimedCommand) → commands ≡ given ++ rest → rest ≡ timed ∷ later
    → commands ≡ given ++ timed ∷ later
next_given commands given rest later timed are is = are ∙ ap (λ (those : List TimedCommand). given ++ those) is

pub given_more : (commands given rest later : List TimedCommand) (timed : TimedCommand) → commands ≡ given ++ rest → rest ≡ timed ∷ later
    → commands ≡ given ++ timed ∷ [] ++ later
given_more commands given rest later timed are is =
    next_given commands given rest later timed are is ∙ sym (append_assoc given (timed ∷ []) later)

module _ {B : Type 0} (ledger : B → Ledger) where
  pub one_fed : (timed : TimedCommand) (old new : Office B) (given : Answer)
      → After ledger old new (AnswersEvent ledger timed.at (event_of timed) old new (Ok given))
      → After ledger old new (λ past. Stands ledger (with_answer past timed.at (event_of timed) (Ok given)) new)
      → FeedsOne ledger timed old new (Ok tt)
  one_fed timed old new given answers stands = λ past stood clean.
      elim (answers past stood clean) [
        | inl is ↦ record {
          stands = subst (λ history. Stands ledger history new) (taken past timed given is.0) (stands past stood clean);
          failures = is.1;
        }
        | inr fails ↦ absurd fails
      ]

  pub one_refused : (timed : TimedCommand) (old new : Office B) (why : Refusal)
      → After ledger old new (AnswersEvent ledger timed.at (event_of timed) old new (Err why))
      → After ledger old new (λ past. Stands ledger (with_answer past timed.at (event_of timed) (Err why)) new)
      → FeedsOne ledger timed old new (Err why)
  one_refused timed old new why answers stands = λ past stood clean.
      record { stands = stands past stood clean; answer = answers past stood clean }

  history_push : (past : History) (given : List TimedCommand) (timed : TimedCommand)
      → history_with past (given ++ timed ∷ []) ≡ accepted timed ∷ history_with past given
  history_push past [] timed = refl
  history_push past (c ∷ given) timed = history_push (accepted c ∷ past) given timed

  abbrev pub SoFar : List TimedCommand → (old new : Office B) → Type 0
  SoFar given old new = After ledger old new (λ past. AreFed ledger past given old new)

  pub none_fed : (a : Office B) → SoFar [] a a
  none_fed a = λ past stood clean. record { stands = stood; failures = refl }

  pub fed_more : (given : List TimedCommand) (timed : TimedCommand) (a b d : Office B) → SoFar given a b → FeedsOne ledger timed b d (Ok tt)
      → Passes ledger b d → SoFar (given ++ timed ∷ []) a d
  fed_more given timed a b d so one passes = λ past stood clean.
      let before = so past stood (passes.clean clean) in
      let next = one (history_with past given) before.stands clean in
      record {
        stands = subst (λ history. Stands ledger history d) (sym (history_push past given timed)) next.stands;
        failures = next.failures ∙ before.failures;
      }

  pub fed_up_to : (commands given : List TimedCommand) (timed : TimedCommand) (later : List TimedCommand) (a b d : Office B) (why : Refusal)
      → commands ≡ given ++ timed ∷ later → SoFar given a b → FeedsOne ledger timed b d (Err why) → Passes ledger b d
      → Feeds ledger commands a d (Err why)
  fed_up_to commands given timed later a b d why are so one passes = λ past stood clean.
      let before = so past stood (passes.clean clean) in
      let next = one (history_with past given) before.stands clean in
      record {
        given = given;
        next = timed;
        later = later;
        are = are;
        refused = record {
          stands = next.stands;
          answer =
              subst (λ (was : Failures). IsAnswer (history_with past given) timed.at (event_of timed) was (failures_of ledger d) (Err why)) before.failures
              next.answer;
        };
      }

  pub fed_all : (commands given : List TimedCommand) (a b : Office B) → commands ≡ given → SoFar given a b → Feeds ledger commands a b (Ok tt)
  fed_all commands given a b are so = λ past stood clean.
      subst (λ (those : List TimedCommand). AreFed ledger past those a b) (sym are) (so past stood clean)

  pub passed : (a b d : Office B) → Passes ledger a b → Passes ledger b d → Passes ledger a d
  passed a b d first more = record { clean = λ clean. first.clean (more.clean clean); zone = more.zone ∙ first.zone }
