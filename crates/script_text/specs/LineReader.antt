-- Defines the results of the private functions that parse a script line word by word. The file
-- `Forms` defines which words spell a script line.
use Rattle.std.specs.Prelude.{◌≡◌, ◌<◌, ℕ, List, [], ◌∷◌, Option, Some, None, codes, length}
use Rattle.office_events.specs.declared.commands.Command.TheVariants as command
use Rattle.office_events.specs.declared.events.Event.TheVariants as event
use Rattle.poll_core.specs.declared.outcome.Closing.TheVariants as closing
use Rattle.script_text.specs.LineWords.Fields.{Kind, AnyName, Number, Signed, Scale, Hex, Range, Moment, Value, first_value, end_of_words, ◌>>=◌}
use Rattle.script_text.specs.LineWords.Meanings.{meaning_in}
use Rattle.script_text.specs.Seen.{bytes_in}
use Rattle.script_text.specs.LineWords.Values.{number_of}
use Rattle.script_text.specs.declared.verbs.Verb.{Verb}
use Rattle.script_text.specs.declared.verbs.Verb.TheVariants as verb
use Rattle.script_text.specs.declared.verbs.Question.{Question}
use Rattle.script_text.specs.declared.verbs.Question.TheVariants as question
use Rattle.script_text.specs.declared.script.ScriptLine.{ScriptLine}
use Rattle.script_text.specs.declared.script.ScriptLine.TheVariants as line

-- A tuple with one value for each of the given kinds of words in a script line.
abbrev pub Values : List Kind → Type 0
Values [] = Unit {0}
Values (kind ∷ kinds) = Value kind × Values kinds

-- The given script line `line` if `words` is empty, because the parser has used all words. `None`
-- if words are left.
abbrev pub said_last : ScriptLine → List (List ℕ) → Option ScriptLine
said_last line words = end_of_words words >>= λ none. Some line

-- Parses each word of a script line as a value of its expected kind, and applies the function
-- `make` to the values. The result is `None` if a word has another kind, or if words are left over.
abbrev pub made : {X : Type 0} (kinds : List Kind) → (Values kinds → X) → List (List ℕ) → Option X
made [] make words = end_of_words words >>= λ none. Some (make none)
made (kind ∷ kinds) make words =
    first_value kind words >>= λ first. made kinds (λ values. make (first.0, values)) first.1

-- The kinds of the words that follow the verb of an event or a command in a script line.
abbrev pub kinds_of : Verb → List Kind
kinds_of verb.Device = AnyName ∷ Number ∷ Number ∷ Number ∷ []
kinds_of verb.List = AnyName ∷ Hex ∷ []
kinds_of verb.Register = AnyName ∷ AnyName ∷ Number ∷ Number ∷ Scale ∷ []
kinds_of verb.Install = AnyName ∷ AnyName ∷ Number ∷ Signed ∷ Number ∷ Range ∷ []
kinds_of verb.Exchange = AnyName ∷ Number ∷ Number ∷ AnyName ∷ Number ∷ Signed ∷ Number ∷ Range ∷ []
kinds_of verb.Reset = AnyName ∷ Number ∷ Number ∷ []
kinds_of verb.Rescale = AnyName ∷ Number ∷ Number ∷ Signed ∷ []
kinds_of verb.Manual = AnyName ∷ Number ∷ Number ∷ Moment ∷ []
kinds_of verb.Close = AnyName ∷ Number ∷ Number ∷ []
kinds_of verb.Void = AnyName ∷ Number ∷ []
kinds_of verb.Connect = AnyName ∷ []
kinds_of verb.Start = AnyName ∷ Number ∷ Number ∷ Number ∷ []
kinds_of verb.Round = AnyName ∷ Number ∷ []
kinds_of verb.Bytes = AnyName ∷ Hex ∷ []
kinds_of verb.Tick = []
kinds_of verb.Gone = AnyName ∷ []
kinds_of verb.Failed = AnyName ∷ []

-- The script line of an event or a command with the given verb, timestamp and values.
abbrev pub line_of : (verb : Verb) → (at : ℕ) → Values (kinds_of verb) → ScriptLine
line_of verb.Device at v =
    line.Event at
    (event.Command
    (command.AddDevice
    (record { name = v.0; unit = v.1.0; timeout = v.1.1.0; window = v.1.1.1.0 })))
line_of verb.List at v = line.List at (record { device = v.0; text = v.1.0 })
line_of verb.Register at v =
    line.Event at
    (event.Command
    (command.AddRegister
    (record {
      name = v.0;
      device = v.1.0;
      function = v.1.1.0;
      address = v.1.1.1.0;
      scale = v.1.1.1.1.0;
    })))
line_of verb.Install at v =
    line.Event at (event.Command (command.Install
    (record {
      register = v.0;
      meter = v.1.0;
      raw = v.1.1.0;
      sf = v.1.1.1.0;
      ceiling = v.1.1.1.1.0;
      range = v.1.1.1.1.1.0;
    })))
line_of verb.Exchange at v =
    line.Event at (event.Command (command.Exchange (record {
      register = v.0;
      last = v.1.0;
      rolls = v.1.1.0;
      meter = v.1.1.1.0;
      raw = v.1.1.1.1.0;
      sf = v.1.1.1.1.1.0;
      ceiling = v.1.1.1.1.1.1.0;
      range = v.1.1.1.1.1.1.1.0;
    })))
line_of verb.Reset at v =
    line.Event at
    (event.Command (command.Reset (record { register = v.0; before = v.1.0; after = v.1.1.0 })))
line_of verb.Rescale at v =
    line.Event at
    (event.Command
    (command.Rescale
    (record { register = v.0; before = v.1.0; after = v.1.1.0; sf = v.1.1.1.0 })))
line_of verb.Manual at v =
    line.Event at
    (event.Command
    (command.Manual (record { register = v.0; raw = v.1.0; rolls = v.1.1.0; at = v.1.1.1.0 })))
line_of verb.Close at v =
    line.Event at
    (event.Command (command.Close (record { register = v.0; raw = v.1.0; rolls = v.1.1.0 })))
line_of verb.Void at v =
    line.Event at (event.Command (command.Void (record { meter = v.0; place = v.1.0 })))
line_of verb.Connect at v = line.Event at (event.Connected v.0)
line_of verb.Start at v =
    line.Start at (record { device = v.0; function = v.1.0; address = v.1.1.0; count = v.1.1.1.0 })
line_of verb.Round at v =
    line.Event at (event.Command (command.StartRound (record { device = v.0; from = v.1.0 })))
line_of verb.Bytes at v = line.Event at (event.Bytes v.0 v.1.0)
line_of verb.Tick at v = line.Event at event.Tick
line_of verb.Gone at v = line.Event at (event.Gone v.0 closing.Gone)
line_of verb.Failed at v = line.Event at (event.Gone v.0 closing.Failed)

-- The script line of an event or a command with the given verb and timestamp. `None` unless the
-- words after the verb have the kinds that the verb requires.
abbrev pub said_by : Verb → (at : ℕ) → List (List ℕ) → Option ScriptLine
said_by verb.Device at words = made (kinds_of verb.Device) (line_of verb.Device at) words
said_by verb.List at words = made (kinds_of verb.List) (line_of verb.List at) words
said_by verb.Register at words = made (kinds_of verb.Register) (line_of verb.Register at) words
said_by verb.Install at words = made (kinds_of verb.Install) (line_of verb.Install at) words
said_by verb.Exchange at words = made (kinds_of verb.Exchange) (line_of verb.Exchange at) words
said_by verb.Reset at words = made (kinds_of verb.Reset) (line_of verb.Reset at) words
said_by verb.Rescale at words = made (kinds_of verb.Rescale) (line_of verb.Rescale at) words
said_by verb.Manual at words = made (kinds_of verb.Manual) (line_of verb.Manual at) words
said_by verb.Close at words = made (kinds_of verb.Close) (line_of verb.Close at) words
said_by verb.Void at words = made (kinds_of verb.Void) (line_of verb.Void at) words
said_by verb.Connect at words = made (kinds_of verb.Connect) (line_of verb.Connect at) words
said_by verb.Start at words = made (kinds_of verb.Start) (line_of verb.Start at) words
said_by verb.Round at words = made (kinds_of verb.Round) (line_of verb.Round at) words
said_by verb.Bytes at words = made (kinds_of verb.Bytes) (line_of verb.Bytes at) words
said_by verb.Tick at words = made (kinds_of verb.Tick) (line_of verb.Tick at) words
said_by verb.Gone at words = made (kinds_of verb.Gone) (line_of verb.Gone at) words
said_by verb.Failed at words = made (kinds_of verb.Failed) (line_of verb.Failed at) words

-- The kinds of the words that follow the verb of a query in a script line.
abbrev pub kinds_asked : Question → List Kind
kinds_asked question.Meter = AnyName ∷ []
kinds_asked question.Intervals = AnyName ∷ []
kinds_asked question.Days = AnyName ∷ []
kinds_asked question.Poll = Number ∷ []

-- The script line of a query with the given verb and values.
abbrev pub line_asked : (question : Question) → Values (kinds_asked question) → ScriptLine
line_asked question.Meter v = line.Meter v.0
line_asked question.Intervals v = line.Intervals v.0
line_asked question.Days v = line.Days v.0
line_asked question.Poll v = line.Poll v.0

-- The script line of a query with the given verb. `None` unless the words after the verb have the
-- kinds that the verb requires.
abbrev pub asked_by : Question → List (List ℕ) → Option ScriptLine
asked_by question.Meter words = made (kinds_asked question.Meter) (line_asked question.Meter) words
asked_by question.Intervals words =
    made (kinds_asked question.Intervals) (line_asked question.Intervals) words
asked_by question.Days words = made (kinds_asked question.Days) (line_asked question.Days) words
asked_by question.Poll words = made (kinds_asked question.Poll) (line_asked question.Poll) words

-- The table of the verbs of events and commands in script lines, by name.
abbrev pub verbs : List (List ℕ × Verb)
verbs =
    (codes "device", verb.Device)
    ∷ (codes "list", verb.List)
    ∷ (codes "register", verb.Register)
    ∷ (codes "install", verb.Install)
    ∷ (codes "exchange", verb.Exchange)
    ∷ (codes "reset", verb.Reset)
    ∷ (codes "rescale", verb.Rescale)
    ∷ (codes "manual", verb.Manual)
    ∷ (codes "close", verb.Close)
    ∷ (codes "void", verb.Void)
    ∷ (codes "connect", verb.Connect)
    ∷ (codes "start", verb.Start)
    ∷ (codes "round", verb.Round)
    ∷ (codes "bytes", verb.Bytes)
    ∷ (codes "tick", verb.Tick)
    ∷ (codes "gone", verb.Gone)
    ∷ (codes "failed", verb.Failed)
    ∷ []

-- The verb of an event or a command that has the given name in scripts, or `None` if no verb has
-- the name.
abbrev pub verb_of : List ℕ → Option Verb
verb_of word = meaning_in verbs word

-- The table that maps words of a script line to the verbs of queries.
abbrev pub questions : List (List ℕ × Question)
questions =
    (codes "meter", question.Meter)
    ∷ (codes "intervals", question.Intervals)
    ∷ (codes "days", question.Days)
    ∷ (codes "poll", question.Poll)
    ∷ []

-- The verb of a query that has the given name in scripts, or `None` if no query has the name.
abbrev pub question_of : List ℕ → Option Question
question_of word = meaning_in questions word

-- The event or command with the timestamp `at` that the words after the timestamp spell.
abbrev pub timed_said : ℕ → List (List ℕ) → Option ScriptLine
timed_said at [] = None
timed_said at (word ∷ words) = verb_of word >>= λ verb. said_by verb at words

-- The script line whose first word is `word`. A number as first word is a timestamp, and any other
-- first word must be the verb of a query.
abbrev pub said_from : Option ℕ → List ℕ → List (List ℕ) → Option ScriptLine
said_from None word words = question_of word >>= λ question. asked_by question words
said_from (Some at) word words = timed_said at words

-- The script line (a command, an event or a query) that the given words spell, or `None` if they
-- spell no line.
abbrev pub line_said : List (List ℕ) → Option ScriptLine
line_said [] = None
line_said (word ∷ words) = said_from (number_of word) word words

-- The name of a device and the bytes that the words of a script line spell. A missing hexadecimal
-- word means no bytes.
abbrev pub device_bytes_said : List (List ℕ) → Option (Option (List ℕ) × List ℕ)
device_bytes_said words = made (AnyName ∷ Hex ∷ []) (λ values. (values.0, values.1.0)) words

-- States that parsing a device's name and bytes returned at least one byte.
abbrev pub SaysPiece : Option (Option (List ℕ) × List ℕ) → Type 0
SaysPiece found =
    (device : Option (List ℕ)) × (piece : List ℕ) × (found ≡ Some (device, piece))
    × (0 < length piece)

-- States that parsing returned a script line with bytes (such as the bytes from a device), and that
-- there is at least one byte.
abbrev pub SaysBytes : Option ScriptLine → Type 0
SaysBytes found = (said : ScriptLine) × (found ≡ Some said) × (0 < length (bytes_in said))
