use Rattle.std.proofs.Common.{sym, subst}
use Rattle.command_words.specs.declared.line.Sealing.{Sealing}
use Rattle.command_words.specs.declared.line.Sealing.TheVariants.{Nothing, Json, Print, Against}
use Rattle.stored_files.specs.declared.ends.ending.Ending.{Ending}
use Rattle.file_commands.specs.Audits.{EndsAudit, ending_of_audit}
use Rattle.file_commands.proofs.Audited.{ends_as_json, ends_of, ends_plainly, ends_sealed}
use Rattle.file_commands.proofs.audits.audit.Goals as goal

pub returns-in-Against : goal.returns-in-Against
returns-in-Against g c =
    let had = g.W.Write.contents c.args.output.now in
    let holds = g.W.Write.contents c.audit_against.new.output in
    let all = g.D.Databases.opens c.args.files.now in
    let P : Sealing → Type 0 = λ s. EndsAudit g.D.Store.Store all c.args.path.now s had holds c.audit_against.result in
    subst P (sym c.in-Against.is) (ends_of g.D.Store.Store c.args.path.now had holds (g.D.Databases.opens c.opened-copies.result) all c.opened-copies.ensures
    (Against c.in-Against.file) c.audit_against.result c.audit_against.ensures)

pub returns-in-Nothing : goal.returns-in-Nothing
returns-in-Nothing g c =
    let had = g.W.Write.contents c.args.output.now in
    let holds = g.W.Write.contents c.audit_in.new.output in
    let some = g.D.Databases.opens c.opened-copies.result in
    let all = g.D.Databases.opens c.args.files.now in
    let P : Sealing → Type 0 = λ s. EndsAudit g.D.Store.Store all c.args.path.now s had holds c.ended.result in
    let Q : Ending → Type 0 = λ e. EndsAudit g.D.Store.Store all c.args.path.now Nothing had holds e in
    subst P (sym c.in-Nothing.is) (subst Q (sym c.ended.ensures) (ends_of g.D.Store.Store c.args.path.now had holds some all c.opened-copies.ensures
    Nothing (ending_of_audit c.audit_in.result) (ends_plainly g.D.Store.Store c.args.path.now had holds some c.audit_in.result c.audit_in.ensures)))

pub returns-in-Json : goal.returns-in-Json
returns-in-Json g c =
    let had = g.W.Write.contents c.args.output.now in
    let holds = g.W.Write.contents c.audit_in-in-Json.new.output in
    let some = g.D.Databases.opens c.opened-copies.result in
    let all = g.D.Databases.opens c.args.files.now in
    let P : Sealing → Type 0 = λ s. EndsAudit g.D.Store.Store all c.args.path.now s had holds c.ended-in-Json.result in
    let Q : Ending → Type 0 = λ e. EndsAudit g.D.Store.Store all c.args.path.now Json had holds e in
    subst P (sym c.in-Json.is) (subst Q (sym c.ended-in-Json.ensures) (ends_of g.D.Store.Store c.args.path.now had holds some all c.opened-copies.ensures
    Json (ending_of_audit c.audit_in-in-Json.result) (ends_as_json g.D.Store.Store c.args.path.now had holds some c.audit_in-in-Json.result c.audit_in-in-Json.ensures)))

pub returns-in-Print : goal.returns-in-Print
returns-in-Print g c =
    let had = g.W.Write.contents c.args.output.now in
    let holds = g.W.Write.contents c.audit_in-in-Print.new.output in
    let some = g.D.Databases.opens c.opened-copies.result in
    let all = g.D.Databases.opens c.args.files.now in
    let P : Sealing → Type 0 = λ s. EndsAudit g.D.Store.Store all c.args.path.now s had holds c.ended-in-Print.result in
    let Q : Ending → Type 0 = λ e. EndsAudit g.D.Store.Store all c.args.path.now Print had holds e in
    subst P (sym c.in-Print.is) (subst Q (sym c.ended-in-Print.ensures) (ends_of g.D.Store.Store c.args.path.now had holds some all c.opened-copies.ensures
    Print (ending_of_audit c.audit_in-in-Print.result) (ends_sealed g.D.Store.Store c.args.path.now had holds some c.audit_in-in-Print.result c.audit_in-in-Print.ensures)))
