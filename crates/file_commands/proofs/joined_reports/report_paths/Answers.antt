use Rattle.std.proofs.Common.{◌≡◌, ◌∙◌, ℕ, List, sym, subst}
use Rattle.std.proofs.lemmas.Bool.{false≢true}
use Rattle.energy_report.specs.declared.form.ReportForm.{ReportForm}
use Rattle.energy_report.specs.declared.form.StatementForm.{StatementForm}
use Rattle.file_commands.specs.Forms.{form_of, statement_of}
use Rattle.file_commands.specs.JoinedReports.{ReportsRegister, StatesRegister}
use Rattle.file_commands.proofs.Joined.{fine_of, if_fine, same_name}
use Rattle.file_commands.proofs.joined_reports.report_paths.Goals as goal

pub returns-then-words : goal.returns-then-words
returns-then-words g c =
    let opens = g.D.Databases.opens c.args.databases.now in
    let had = g.W.Write.contents c.args.output.now in
    let holds = g.W.Write.contents c.state_register.new.output in
    let name_is : c.in-Some.name ≡ c.args.register.now = same_name c.as_bytes.result.now c.in-Some.name c.in-Some.ensures ∙ c.as_bytes.ensures.value in
    let form = statement_of c.args.words.now c.in-Ok.range in
    if_fine _ c.state_register.result (λ fine. record {
      range = c.in-Ok.range;
      is_range = c.in-Ok.ensures;
      report = λ no. absurd (false≢true (sym no ∙ c.if-words.true));
      statement = λ yes.
          subst (λ (r : List ℕ). StatesRegister g.D.Store.Store opens c.args.paths.now r form had holds) name_is
          (subst (λ (f : StatementForm). StatesRegister g.D.Store.Store opens c.args.paths.now c.in-Some.name f had holds) c.statement_of-form.ensures
          (fine_of _ c.state_register.result c.state_register.ensures fine));
    })

pub returns-else-words : goal.returns-else-words
returns-else-words g c =
    let opens = g.D.Databases.opens c.args.databases.now in
    let had = g.W.Write.contents c.args.output.now in
    let holds = g.W.Write.contents c.report_register.new.output in
    let name_is : c.in-Some.name ≡ c.args.register.now = same_name c.as_bytes.result.now c.in-Some.name c.in-Some.ensures ∙ c.as_bytes.ensures.value in
    let form = form_of c.args.words.now c.in-Ok.range in
    if_fine _ c.report_register.result (λ fine. record {
      range = c.in-Ok.range;
      is_range = c.in-Ok.ensures;
      report = λ no.
          subst (λ (r : List ℕ). ReportsRegister g.D.Store.Store opens c.args.paths.now r form had holds) name_is
          (subst (λ (f : ReportForm). ReportsRegister g.D.Store.Store opens c.args.paths.now c.in-Some.name f had holds) c.form_of.ensures
          (fine_of _ c.report_register.result c.report_register.ensures fine));
      statement = λ yes. absurd (false≢true (sym c.if-words.false ∙ yes));
    })
