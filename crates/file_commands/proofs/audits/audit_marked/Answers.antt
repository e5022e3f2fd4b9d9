use Rattle.std.proofs.Common.{◌∙◌, IfOk, sym, subst}
use Rattle.std.proofs.lemmas.Bool.{false≢true}
use Rattle.command_words.specs.declared.line.Sealing.{Sealing}
use Rattle.file_commands.specs.Audits.{Audits}
use Rattle.table_audit.proofs.Looking.{looks_then}
use Rattle.file_commands.proofs.Audited.{checked_audited, differences_printed, findings_printed, json_printed, rows_on, seal_audited}
use Rattle.file_commands.proofs.audits.audit_marked.Goals as goal

pub returns-in-Print-clause-looks : goal.returns-in-Print-clause-looks
returns-in-Print-clause-looks g c = λ idle.
    let looks = c.in_ok-findings.ensures.looks idle in
    looks_then g.S.Store _ _ _ looks (c.print_seal.ensures.looks (looks.mode idle))

pub returns-in-Print-clause-audits : goal.returns-in-Print-clause-audits
returns-in-Print-clause-audits g c = λ clean content holds.
    let idle = c.in_ok-findings.ensures.idle in
    let looks = c.in_ok-findings.ensures.looks idle in
    let later = c.print_seal.ensures.looks (looks.mode idle) in
    let P : Sealing → Type 0 = λ s. IfOk c.print_seal.result (Audits content s (g.W.Write.contents c.args.output.now) (g.W.Write.contents c.print_seal.new.output)) in
    subst P (sym c.in-Print.is) (seal_audited content _ _ c.print_seal.result
    (record {
      findings = c.in_ok-findings.findings;
      reported = c.in_ok-findings.ensures.reports (later.clean clean) content holds;
      none = c.is_fine.ensures.0 c.if-not-is_fine.false;
    })
    (c.print_seal.ensures.prints clean content (rows_on g.S.Store _ _ content looks (c.in_ok-findings.ensures.ours content holds))))

pub returns-then-not-is_fine-clause-audits : goal.returns-then-not-is_fine-clause-audits
returns-then-not-is_fine-clause-audits g c = λ clean content holds.
    differences_printed c.args.seal content c.in_ok-findings.findings _ _ c.print_findings.result (c.in_ok-findings.ensures.reports clean content holds)
    (λ none. false≢true (sym c.if-not-is_fine.true ∙ c.is_fine.ensures.1 none)) c.print_findings.ensures.fine c.print_findings.ensures.reported

pub returns-in-Nothing-clause-audits : goal.returns-in-Nothing-clause-audits
returns-in-Nothing-clause-audits g c = λ clean content holds.
    let P : Sealing → Type 0 = λ s. IfOk c.write_audit.result (Audits content s (g.W.Write.contents c.args.output.now) (g.W.Write.contents c.write_audit.new.output)) in
    subst P (sym c.in-Nothing.is) (findings_printed content c.in_ok-findings.findings _ _ c.write_audit.result (c.in_ok-findings.ensures.reports clean content holds)
    c.write_audit.ensures.fine c.write_audit.ensures.reported)

pub returns-in-Json-clause-audits : goal.returns-in-Json-clause-audits
returns-in-Json-clause-audits g c = λ clean content holds.
    let P : Sealing → Type 0 = λ s. IfOk c.write_json_audit.result (Audits content s (g.W.Write.contents c.args.output.now) (g.W.Write.contents c.write_json_audit.new.output)) in
    subst P (sym c.in-Json.is) (json_printed content c.in_ok-findings.findings _ _ c.write_json_audit.result (c.in_ok-findings.ensures.reports clean content holds)
    c.write_json_audit.ensures.fine c.write_json_audit.ensures.reported)

pub returns-clause-looks : goal.returns-clause-looks
returns-clause-looks g c = λ idle.
    let looks = c.in_ok-findings.ensures.looks idle in
    looks_then g.S.Store _ _ _ looks (c.hold_to.ensures.looks (looks.mode idle))

pub returns-clause-audits : goal.returns-clause-audits
returns-clause-audits g c = λ clean content holds.
    let idle = c.in_ok-findings.ensures.idle in
    let looks = c.in_ok-findings.ensures.looks idle in
    let later = c.hold_to.ensures.looks (looks.mode idle) in
    let P : Sealing → Type 0 = λ s. IfOk c.hold_to.result (Audits content s (g.W.Write.contents c.args.output.now) (g.W.Write.contents c.hold_to.new.output)) in
    subst P (sym c.in-Against.is) (checked_audited content c.in-Against.text _ _ c.hold_to.result
    (record {
      findings = c.in_ok-findings.findings;
      reported = c.in_ok-findings.ensures.reports (later.clean clean) content holds;
      none = c.is_fine.ensures.0 c.if-not-is_fine.false;
    })
    (c.hold_to.ensures.prints clean content (rows_on g.S.Store _ _ content looks (c.in_ok-findings.ensures.ours content holds))))
