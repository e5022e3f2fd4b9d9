use Rattle.std.proofs.Common.{rules, ◌≡◌, ℕ, List, sym, ap, subst, ◌∙◌}
use Rattle.std.specs.Borrow.{Bor}
use Rattle.std.specs.Process.{exit_status}
use Rattle.command_words.specs.declared.line.CommandLine.{CommandLine}
use Rattle.stored_files.specs.declared.ends.ending.Ending.{Ending}
use Rattle.file_commands.specs.Rollovers.{EndsCarry}
use Rattle.stored_files.specs.Ends.Endings.{ending_number}
use Rattle.sunreg.specs.Commands.{EndsAudited, EndsCommand}
use Rattle.sunreg.proofs.commands.carry_out_over.Goals.{in-Replay, in-ReplayFile, in-Loop, in-Plan, in-Chain, in-Scan, in-StandIn, in-Create, in-Serve, in-Round, in-Report, in-ReportFiles, in-Run+in-None, in-Enter, in-Backup, in-Recover, in-Carry, in-Audit, in-Explain, in-Completions}
use Rattle.sunreg.proofs.commands.carry_out_over.Goals as goal

pub returns : goal.returns
returns g c =
    elim c.match-line.branch [
      | in-Replay w ↦ search rules
      | in-ReplayFile w ↦ search rules
      | in-Loop w ↦ search rules
      | in-Plan w ↦ search rules
      | in-Chain w ↦ search rules
      | in-Scan w ↦ search rules
      | in-StandIn w ↦ search rules
      | in-Create w ↦ search rules
      | in-Serve w ↦ search rules
      | in-Round w ↦ search rules
      | in-Report w ↦ search rules
      | in-ReportFiles w ↦ search rules
      | in-Run+in-None w ↦ search rules
      | in-Enter w ↦ search rules
      | in-Backup w ↦ search rules
      | in-Recover w ↦ search rules
      | in-Carry w ↦
          let P : CommandLine → Type 0 = λ l. EndsCommand g.D.Store.Store (g.D.Databases.opens c.args.files.now) l (exit_status c.ended.result) in
          let Q : Ending → Type 0 = λ e. EndsCarry g.D.Store.Store (g.D.Databases.opens c.args.files.now) w.in-Carry.from.now w.in-Carry.until e in
          subst P (sym w.in-Carry.is) (record {
            ending = c.match-line.ending;
            carries = subst Q (sym w.ending-is) w.carry-ending.ensures;
            number = c.ended.ensures;
          })
      | in-Audit w ↦
          let P : CommandLine → Type 0 = λ l. EndsCommand g.D.Store.Store (g.D.Databases.opens c.args.files.now) l (exit_status c.ended.result) in
          let same : w.as_slice-in-Audit.result.now ≡ w.in-Audit.dbs.items = search rules in
          let Q : List (Bor (List ℕ)) → Type 0 = λ paths. EndsAudited g.D.Store.Store (g.D.Databases.opens c.args.files.now) paths w.in-Audit.seal w.audit_files-ending.result in
          subst P (sym w.in-Audit.is) (record {
            ending = w.audit_files-ending.result;
            audits = subst Q same w.audit_files-ending.ensures;
            number = c.ended.ensures ∙ ap ending_number w.ending-is;
          })
      | in-Explain w ↦ search rules
      | in-Completions w ↦ search rules
    ]
