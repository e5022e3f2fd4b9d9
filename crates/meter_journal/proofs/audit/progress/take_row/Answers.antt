use Rattle.std.proofs.Common.{◌+◌, Option, Some, None, ap, refl, ◌∙◌, arith}
use Rattle.energy_core.specs.declared.entries.Step.{Step}
use Rattle.interval_core.specs.Account.{energy_of}
use Rattle.meter_journal.specs.declared.audit.progress.Progress.{Progress}
use Rattle.meter_journal.specs.Audit.Passing.{energy_in}
use Rattle.meter_journal.proofs.AuditLemmas.Going.{goes_standing, goes_voided, within_more, passed_as}
use Rattle.meter_journal.proofs.audit.progress.take_row.Goals as goal
use Rattle.meter_journal.proofs.audit.progress.take_row.Goals.{in-Some+in_ok-append_shares-in-Ok, in_default}

pub append_shares-requires-clause-energy : goal.append_shares-requires-clause-energy
append_shares-requires-clause-energy c =
    omega (arith, c.requires.sound.within, c.in-Ok.ensures.sound.total, ap energy_in c.in-Some.is, c.in-Ok.ensures.total)

pub returns-after-step-clause-sound : goal.returns-after-step-clause-sound
returns-after-step-clause-sound c =
    elim c.match-step.branch [
      | in-Some+in_ok-append_shares-in-Ok w ↦ record {
        check = c.in-Ok.ensures.sound;
        within = omega (
          arith,
          ap (λ (p : Progress). energy_of p.wanted.items) w.progress-is,
          within_more c.shares_add_up.ensures c.args.progress.now.wanted.items w.append_shares.new.rows.items w.in-Some.step
              c.args.progress.now.check.total c.in-Ok.next.total (c.in-Ok.ensures.step w.in-Some.step w.in-Some.is)
              c.requires.sound.within
              (c.in-Ok.ensures.total ∙ ap (λ (o : Option Step). c.args.progress.now.check.total + energy_in o) w.in-Some.is)
              w.in_ok-append_shares-in-Ok.ensures,
        );
      }
      | in_default w ↦ record {
        check = c.in-Ok.ensures.sound;
        within = omega (
          arith,
          ap (λ (p : Progress). energy_of p.wanted.items) w.progress-is,
          c.requires.sound.within,
          c.in-Ok.ensures.total,
        );
      }
    ]

pub returns-after-step-clause-goes_on : goal.returns-after-step-clause-goes_on
returns-after-step-clause-goes_on c = λ reported done gone.
    let new : Progress = record { check = c.in-Ok.next; wanted = c.match-step.progress.wanted } in
    elim c.match-step.branch [
      | in-Some+in_ok-append_shares-in-Ok w ↦
          goes_standing c.passed_rows_fit.ensures c.args.meter.now c.args.progress.now new c.args.row.now c.in-Ok.next w.in-Some.step
          c.requires.meter.installed (passed_as _ c.in-Ok.next c.in-Ok.step (Some w.in-Some.step) c.in-Ok.ensures.value w.in-Some.is) refl
          (ap (λ (p : Progress). p.wanted.items) w.progress-is ∙ w.in_ok-append_shares-in-Ok.ensures) reported done gone
      | in_default w ↦
          goes_voided c.passed_rows_fit.ensures c.args.meter.now c.args.progress.now new c.args.row.now c.in-Ok.next
          c.requires.meter.installed (passed_as _ c.in-Ok.next c.in-Ok.step None c.in-Ok.ensures.value w.in_default.is) refl
          (ap (λ (p : Progress). p.wanted.items) w.progress-is) reported done gone
    ]
