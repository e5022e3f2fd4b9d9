use Rattle.std.proofs.Common.{◌≡◌, List, ℕ, Option, ap, rules, subst}
use Rattle.std.specs.Prelude.{option_map}
use Rattle.office_program.specs.Entering.FileLines.{seen_line}
use Rattle.office_program.specs.Entering.Lines.{ReadsList, file_request, reporting_of}
use Rattle.office_program.proofs.EnteringLemmas.Entries.{file_reads}
use Rattle.office_program.proofs.entering.entries.file_entry.Goals as goal

pub returns-in-Some : goal.returns-in-Some
returns-in-Some g c =
    let P : Option (List ℕ) → Type 0 = g.F.NamedFiles.reports c.args.files.now c.args.named.now.name.now in
    let same : c.deref.result.now ≡ c.in-Some.text.items = search rules in
    let Q : List ℕ → Type 0 = λ bytes. ReadsList c.args.caller c.args.named.now.number c.args.named.now.device bytes (file_request c.args.line.now bytes) c.held_entry.result in
    file_reads (reporting_of g.F.NamedFiles c.args.files.now) c.args.caller c.args.line.now c.in-Some.text.items (seen_line c.args.named.now) c.held_entry.result
    (subst P (ap (option_map (λ v. v.items)) c.in-Some.is) c.in-Ok.ensures.reported) (subst Q same c.held_entry.ensures)

pub returns-in-None : goal.returns-in-None
returns-in-None g c =
    let P : Option (List ℕ) → Type 0 = g.F.NamedFiles.reports c.args.files.now c.args.named.now.name.now in
    subst P (ap (option_map (λ v. v.items)) c.in-None.is) c.in-Ok.ensures.reported
