use Rattle.std.proofs.Common.{refl, sym, ap, ◌∙◌}
use Rattle.office_events.specs.declared.commands.Command.TheVariants as command
use Rattle.office_core.specs.Refusing.Entries.{entry_has_fault}
use Rattle.office_core.proofs.RefusingLemmas.AtMeters.{refused_as}
use Rattle.office_core.proofs.refusing.corrections.rescale.Goals as goal

pub returns-clause-found : goal.returns-clause-found
returns-clause-found g c known holds clean slots =
    c.refusal_of_entry.ensures.found
    ∙ refused_as slots known c.args.arrival.now (command.Rescale c.args.rescale.now) c.in-Some.row _ _ _ (sym c.in-Some.is ∙ c.in_ok-row.ensures.found known holds clean) (record {
      unknown = refl;
      taken = refl;
      scale = sym c.is_off_scale_rescale-off_scale.ensures;
      limits = refl;
      busy = refl;
      voidable = refl;
      place = refl;
      start = refl;
      faults = λ why. ap (λ e. entry_has_fault c.in-Some.row e why) (sym c.rescaled-given.ensures);
    })
