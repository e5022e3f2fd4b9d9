use Rattle.std.proofs.Common.{refl, ◌∙◌}
use Rattle.command_io.specs.Lines.{seen_line, speaking_lines}
use Rattle.office_program.specs.Between.{desk_of}
use Rattle.office_program.specs.Entering.Course.{history_with}
use Rattle.office_program.specs.Entering.Lines.{reporting_of}
use Rattle.office_program.proofs.EnteringLemmas.Course.{begins, ends_early, ends_whole, one_more}
use Rattle.office_program.proofs.entering.entered.enter_text.Goals as goal

pub loop-line-init : goal.loop-line-init
loop-line-init g c = (
  record { clean = λ clean. clean; zone = refl },
  λ past stands clean.
      begins g.B.Books.ledger (reporting_of g.F.NamedFiles c.args.files.now) c.args.caller.now (speaking_lines c.args.text.now) c.new-lines.result past c.args.first
      (desk_of g.B.Books g.C.Clock g.W.Write c.args.office.now c.args.clock.now c.args.output.now) c.from-progress.result c.args.office.now stands c.new-lines.ensures
      c.from-progress.ensures,
)

pub loop-line-preserved : goal.loop-line-preserved
loop-line-preserved g c =
    let was = c.loop-line.invariant in
    let lasts = c.in-Ok.ensures.lasts in (
      record { clean = λ clean. was.0.clean (lasts.clean clean); zone = lasts.zone ∙ was.0.zone },
      λ past stands clean.
          let under = was.1 past stands (lasts.clean clean) in
          one_more g.B.Books.ledger (reporting_of g.F.NamedFiles c.args.files.now) c.args.caller.now (speaking_lines c.args.text.now) c.loop-line.lines c.next_line.new.self past
          c.args.first (desk_of g.B.Books g.C.Clock g.W.Write c.args.office.now c.args.clock.now c.args.output.now)
          (desk_of g.B.Books g.C.Clock g.W.Write c.loop-line.office c.loop-line.clock c.loop-line.output)
          (desk_of g.B.Books g.C.Clock g.W.Write c.enter_line.new.office c.enter_line.new.clock c.enter_line.new.output) c.loop-line.progress c.in-Ok.next
          c.loop-line.office c.enter_line.new.office (seen_line c.in-Some.line) under c.in-Some.ensures
          (c.in-Ok.ensures.enters (history_with past under.taken) under.are.stands clean),
    )

pub returns-in-Err-clause-enters : goal.returns-in-Err-clause-enters
returns-in-Err-clause-enters g c = λ past stands clean.
    let was = c.loop-line.invariant in
    let lasts = c.in-Err.ensures.lasts in
    let under = was.1 past stands (lasts.clean clean) in
    ends_early g.B.Books.ledger (reporting_of g.F.NamedFiles c.args.files.now) c.args.caller.now (speaking_lines c.args.text.now) c.loop-line.lines c.next_line.new.self past
    c.args.first (desk_of g.B.Books g.C.Clock g.W.Write c.args.office.now c.args.clock.now c.args.output.now)
    (desk_of g.B.Books g.C.Clock g.W.Write c.loop-line.office c.loop-line.clock c.loop-line.output)
    (desk_of g.B.Books g.C.Clock g.W.Write c.enter_line.new.office c.enter_line.new.clock c.enter_line.new.output) c.loop-line.progress
    c.loop-line.office c.enter_line.new.office (seen_line c.in-Some.line) c.in-Err.status under c.in-Some.ensures
    (c.in-Err.ensures.enters (history_with past under.taken) under.are.stands clean)

pub returns-in-Err-clause-lasts : goal.returns-in-Err-clause-lasts
returns-in-Err-clause-lasts g c =
    let was = c.loop-line.invariant in
    let lasts = c.in-Err.ensures.lasts in
    record { clean = λ clean. was.0.clean (lasts.clean clean); zone = lasts.zone ∙ was.0.zone }

pub returns-clause-enters : goal.returns-clause-enters
returns-clause-enters g c = λ past stands clean.
    ends_whole g.B.Books.ledger (reporting_of g.F.NamedFiles c.args.files.now) c.args.caller.now (speaking_lines c.args.text.now) c.loop-line.lines past
    c.args.first (desk_of g.B.Books g.C.Clock g.W.Write c.args.office.now c.args.clock.now c.args.output.now)
    (desk_of g.B.Books g.C.Clock g.W.Write c.loop-line.office c.loop-line.clock c.loop-line.output) c.loop-line.progress c.loop-line.office c.status.result
    (c.loop-line.invariant.1 past stands clean) c.in_default.ensures.0 c.status.ensures
