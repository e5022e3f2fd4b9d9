-- Proofs that the parser returns a script line (a command, an event or a query) if and only if the
-- given words spell this line.
use Rattle.std.proofs.Common.{◌≡◌, ℕ, List, [], ◌∷◌, Some, None, Option, refl, sym, ◌∙◌, subst}
use Rattle.std.specs.Prelude.{codes}
use Rattle.office_events.specs.declared.commands.Command.TheVariants as command
use Rattle.office_events.specs.declared.events.Event.TheVariants as event
use Rattle.poll_core.specs.declared.outcome.Closing.TheVariants as closing
use Rattle.script_text.specs.Forms.{HasForm, IsLine, form_of}
use Rattle.script_text.specs.LineWords.Fields.{Number, Of, Spell, Word}
use Rattle.script_text.specs.LineReader.{Values, asked_by, SaysBytes, kinds_asked, kinds_of, line_asked, line_of, line_said, made, question_of, questions, said_by, said_from, timed_said, verb_of, verbs}
use Rattle.script_text.specs.Seen.{BringBytes, IsOnly}
use Rattle.script_text.specs.LineWords.Values.{number_of}
use Rattle.script_text.specs.declared.verbs.Question.{Question}
use Rattle.script_text.specs.declared.verbs.Question.TheVariants as question
use Rattle.script_text.specs.declared.verbs.Verb.{Verb}
use Rattle.script_text.specs.declared.verbs.Verb.TheVariants as verb
use Rattle.script_text.specs.declared.script.ScriptLine.{ScriptLine}
use Rattle.script_text.specs.declared.script.ScriptLine.TheVariants as line
use Rattle.script_text.proofs.Chosen.{meant, same}
use Rattle.script_text.proofs.Made.{bound, fields, made_spelled, spelled_made}

abbrev verb_text : Verb → List ℕ
verb_text verb.Device = codes "device"
verb_text verb.List = codes "list"
verb_text verb.Register = codes "register"
verb_text verb.Install = codes "install"
verb_text verb.Exchange = codes "exchange"
verb_text verb.Reset = codes "reset"
verb_text verb.Rescale = codes "rescale"
verb_text verb.Manual = codes "manual"
verb_text verb.Close = codes "close"
verb_text verb.Void = codes "void"
verb_text verb.Connect = codes "connect"
verb_text verb.Start = codes "start"
verb_text verb.Round = codes "round"
verb_text verb.Bytes = codes "bytes"
verb_text verb.Tick = codes "tick"
verb_text verb.Gone = codes "gone"
verb_text verb.Failed = codes "failed"

verb_known : (v : Verb) → verb_of (verb_text v) ≡ Some v
verb_known verb.Device = refl
verb_known verb.List = refl
verb_known verb.Register = refl
verb_known verb.Install = refl
verb_known verb.Exchange = refl
verb_known verb.Reset = refl
verb_known verb.Rescale = refl
verb_known verb.Manual = refl
verb_known verb.Close = refl
verb_known verb.Void = refl
verb_known verb.Connect = refl
verb_known verb.Start = refl
verb_known verb.Round = refl
verb_known verb.Bytes = refl
verb_known verb.Tick = refl
verb_known verb.Gone = refl
verb_known verb.Failed = refl

verb_word : (word : List ℕ) (v : Verb) → verb_of word ≡ Some v → word ≡ verb_text v
verb_word word v h = meant (λ v w. w ≡ verb_text v) verbs word v (refl, (refl, (refl, (refl, (refl, (refl, (refl, (refl, (refl, (refl, (refl, (refl, (refl, (refl, (refl, (refl, (refl, tt))))))))))))))))) h

abbrev question_text : Question → List ℕ
question_text question.Meter = codes "meter"
question_text question.Intervals = codes "intervals"
question_text question.Days = codes "days"
question_text question.Poll = codes "poll"

question_known : (q : Question) → question_of (question_text q) ≡ Some q
question_known question.Meter = refl
question_known question.Intervals = refl
question_known question.Days = refl
question_known question.Poll = refl

-- No verb of a query parses as a number, so the parser of script lines never interprets a query's
-- verb as a timestamp.
not_number : (q : Question) → number_of (question_text q) ≡ None
not_number question.Meter = refl
not_number question.Intervals = refl
not_number question.Days = refl
not_number question.Poll = refl

question_word : (word : List ℕ) (q : Question) → question_of word ≡ Some q → word ≡ question_text q
question_word word q h = meant (λ q w. w ≡ question_text q) questions word q (refl, (refl, (refl, (refl, tt)))) h

-- Lemmas: the line of an event or a command consists of the timestamp, the verb and the fields of
-- the values, in this order.

verb_form : (v : Verb) (at : ℕ) (values : Values (kinds_of v)) → form_of (line_of v at values) ≡ Some (Of Number at ∷ Word (verb_text v) ∷ fields (kinds_of v) values)
verb_form verb.Device at values = refl
verb_form verb.List at values = refl
verb_form verb.Register at values = refl
verb_form verb.Install at values = refl
verb_form verb.Exchange at values = refl
verb_form verb.Reset at values = refl
verb_form verb.Rescale at values = refl
verb_form verb.Manual at values = refl
verb_form verb.Close at values = refl
verb_form verb.Void at values = refl
verb_form verb.Connect at values = refl
verb_form verb.Start at values = refl
verb_form verb.Round at values = refl
verb_form verb.Bytes at values = refl
verb_form verb.Tick at values = refl
verb_form verb.Gone at values = refl
verb_form verb.Failed at values = refl

question_form : (q : Question) (values : Values (kinds_asked q)) → form_of (line_asked q values) ≡ Some (Word (question_text q) ∷ fields (kinds_asked q) values)
question_form question.Meter values = refl
question_form question.Intervals values = refl
question_form question.Days values = refl
question_form question.Poll values = refl

said_made : (v : Verb) (at : ℕ) (words : List (List ℕ)) → said_by v at words ≡ made (kinds_of v) (line_of v at) words
said_made verb.Device at words = refl
said_made verb.List at words = refl
said_made verb.Register at words = refl
said_made verb.Install at words = refl
said_made verb.Exchange at words = refl
said_made verb.Reset at words = refl
said_made verb.Rescale at words = refl
said_made verb.Manual at words = refl
said_made verb.Close at words = refl
said_made verb.Void at words = refl
said_made verb.Connect at words = refl
said_made verb.Start at words = refl
said_made verb.Round at words = refl
said_made verb.Bytes at words = refl
said_made verb.Tick at words = refl
said_made verb.Gone at words = refl
said_made verb.Failed at words = refl

asked_made : (q : Question) (words : List (List ℕ)) → asked_by q words ≡ made (kinds_asked q) (line_asked q) words
asked_made question.Meter words = refl
asked_made question.Intervals words = refl
asked_made question.Days words = refl
asked_made question.Poll words = refl

-- If the parser returns a script line, then the words spell the fields of that script line.

timed_form : (words : List (List ℕ)) (first : List ℕ) (at : ℕ) (said : ScriptLine) → number_of first ≡ Some at → timed_said at words ≡ Some said
    → IsLine (first ∷ words) said
timed_form [] first at said number h = cc h
timed_form (word ∷ words) first at said number h =
    let v = bound (verb_of word) (λ v. said_by v at words) said h in
    let values = made_spelled (kinds_of v.0) (line_of v.0 at) words said (sym (said_made v.0 at words) ∙ v.2) in
    subst (λ (l : ScriptLine). IsLine (first ∷ word ∷ words) l) values.2
    (subst (λ form. HasForm (first ∷ word ∷ words) form) (sym (verb_form v.0 at values.0)) (number, (verb_word word v.0 v.1, values.1)))

asked_form : (first : List ℕ) (words : List (List ℕ)) (said : ScriptLine) → said_from None first words ≡ Some said → IsLine (first ∷ words) said
asked_form first words said h =
    let q = bound (question_of first) (λ q. asked_by q words) said h in
    let values = made_spelled (kinds_asked q.0) (line_asked q.0) words said (sym (asked_made q.0 words) ∙ q.2) in
    subst (λ (l : ScriptLine). IsLine (first ∷ words) l) values.2
    (subst (λ form. HasForm (first ∷ words) form) (sym (question_form q.0 values.0)) (question_word first q.0 q.1, values.1))

from_form : (number : Option ℕ) (first : List ℕ) (words : List (List ℕ)) (said : ScriptLine) → number_of first ≡ number
    → said_from number first words ≡ Some said → IsLine (first ∷ words) said
from_form None first words said number h = asked_form first words said h
from_form (Some at) first words said number h = timed_form words first at said number h

pub read_form : (words : List (List ℕ)) (said : ScriptLine) → line_said words ≡ Some said → IsLine words said
read_form [] said h = cc h
read_form (first ∷ words) said h = from_form (number_of first) first words said refl h

-- If the given words spell the fields of a script line, then the parser returns that script line.

timed_read : (v : Verb) (at : ℕ) (values : Values (kinds_of v)) (words : List (List ℕ))
    → Spell words (Of Number at ∷ Word (verb_text v) ∷ fields (kinds_of v) values) → line_said words ≡ Some (line_of v at values)
timed_read v at values [] h = cc h.0
timed_read v at values (first ∷ []) h = absurd h.1.0
timed_read v at values (first ∷ word ∷ words) h = rw (h.0, h.1.0, verb_known v) (said_made v at words ∙ spelled_made (kinds_of v) (line_of v at) values words h.1.1)

asked_read : (q : Question) (values : Values (kinds_asked q)) (words : List (List ℕ))
    → Spell words (Word (question_text q) ∷ fields (kinds_asked q) values) → line_said words ≡ Some (line_asked q values)
asked_read q values [] h = absurd h.0
asked_read q values (first ∷ words) h = rw (h.0, not_number q, question_known q) (asked_made q words ∙ spelled_made (kinds_asked q) (line_asked q) values words h.1)

pub form_read : (words : List (List ℕ)) (said : ScriptLine) → IsLine words said → line_said words ≡ Some said
form_read words (line.Meter name) h = asked_read question.Meter (name, tt) words h
form_read words (line.Intervals name) h = asked_read question.Intervals (name, tt) words h
form_read words (line.Days name) h = asked_read question.Days (name, tt) words h
form_read words (line.Poll number) h = asked_read question.Poll (number, tt) words h
form_read words (line.List at l) h = timed_read verb.List at (l.device, (l.text, tt)) words h
form_read words (line.Start at s) h = timed_read verb.Start at (s.device, (s.function, (s.address, (s.count, tt)))) words h
form_read words (line.Event at (event.Connected device)) h = timed_read verb.Connect at (device, tt) words h
form_read words (line.Event at (event.Bytes device piece)) h = timed_read verb.Bytes at (device, (piece, tt)) words h
form_read words (line.Event at event.Tick) h = timed_read verb.Tick at tt words h
form_read words (line.Event at (event.Gone device closing.Gone)) h = timed_read verb.Gone at (device, tt) words h
form_read words (line.Event at (event.Gone device closing.Failed)) h = timed_read verb.Failed at (device, tt) words h
form_read words (line.Event at (event.Asked asked)) h = absurd h
form_read words (line.Event at (event.Command (command.PutList c))) h = absurd h
form_read words (line.Event at (event.Command (command.StartPoll c))) h = absurd h
form_read words (line.Event at (event.Command (command.AddDevice c))) h = timed_read verb.Device at (c.name, (c.unit, (c.timeout, (c.window, tt)))) words h
form_read words (line.Event at (event.Command (command.AddRegister c))) h = timed_read verb.Register at (c.name, (c.device, (c.function, (c.address, (c.scale, tt))))) words h
form_read words (line.Event at (event.Command (command.Install c))) h = timed_read verb.Install at (c.register, (c.meter, (c.raw, (c.sf, (c.ceiling, (c.range, tt)))))) words h
form_read words (line.Event at (event.Command (command.Exchange c))) h = timed_read verb.Exchange at (c.register, (c.last, (c.rolls, (c.meter, (c.raw, (c.sf, (c.ceiling, (c.range, tt)))))))) words h
form_read words (line.Event at (event.Command (command.Reset c))) h = timed_read verb.Reset at (c.register, (c.before, (c.after, tt))) words h
form_read words (line.Event at (event.Command (command.Rescale c))) h = timed_read verb.Rescale at (c.register, (c.before, (c.after, (c.sf, tt)))) words h
form_read words (line.Event at (event.Command (command.Manual c))) h = timed_read verb.Manual at (c.register, (c.raw, (c.rolls, (c.at, tt)))) words h
form_read words (line.Event at (event.Command (command.Close c))) h = timed_read verb.Close at (c.register, (c.raw, (c.rolls, tt))) words h
form_read words (line.Event at (event.Command (command.Void c))) h = timed_read verb.Void at (c.meter, (c.place, tt)) words h
form_read words (line.Event at (event.Command (command.StartRound c))) h = timed_read verb.Round at (c.device, (c.from, tt)) words h

-- If the parser returns a script line, then the words spell that script line and no other script
-- line.

pub is_line : (words : List (List ℕ)) (said : ScriptLine) → line_said words ≡ Some said → IsOnly words said
is_line words said h = record {
  is = read_form words said h;
  only = λ other is. same other said (sym (form_read words other is) ∙ h);
}

pub no_line : (words : List (List ℕ)) → line_said words ≡ None → (line : ScriptLine) → IsLine words line → ⊥
no_line words h line is = cc (sym h ∙ form_read words line is)

pub some_line : (words : List (List ℕ)) → SaysBytes (line_said words) → BringBytes words
some_line words h = record { line = h.0; is = read_form words h.0 h.1; some = h.2 }
