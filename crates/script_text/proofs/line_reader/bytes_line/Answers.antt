use Rattle.std.proofs.Common.{ℕ, List, [], ◌∷◌, Option, refl}
use Rattle.office_events.specs.declared.events.Event.TheVariants as event
use Rattle.script_text.specs.LineWords.Fields.{AnyName, Hex}
use Rattle.script_text.specs.declared.script.ScriptLine.{ScriptLine}
use Rattle.script_text.specs.declared.script.ScriptLine.TheVariants as line
use Rattle.script_text.proofs.Made.{made_again}
use Rattle.script_text.proofs.line_reader.bytes_line.Goals as goal

pub returns-in_err-device-clause-memory : goal.returns-in_err-device-clause-memory
returns-in_err-device-clause-memory c = λ err.
    let said = c.in_err-device.ensures.memory refl in
    let make : Option (List ℕ) × List ℕ → ScriptLine = λ (p : Option (List ℕ) × List ℕ). line.Event c.args.at (event.Bytes p.0 p.1) in
    let pair : Option (List ℕ) × List ℕ = (said.0, said.1) in
    (make pair, made_again (AnyName ∷ Hex ∷ []) (λ values. (values.0, values.1.0)) make c.args.words.now pair said.2, said.3)
