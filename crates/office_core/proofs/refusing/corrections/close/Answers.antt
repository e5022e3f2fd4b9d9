use Rattle.std.proofs.Common.{refl, sym, ◌∙◌}
use Rattle.office_events.specs.declared.commands.Command.TheVariants as command
use Rattle.office_core.proofs.RefusingLemmas.AtMeters.{or_false, refused_as}
use Rattle.office_core.proofs.refusing.corrections.close.Goals as goal

pub returns-clause-found : goal.returns-clause-found
returns-clause-found g c known holds clean slots =
    c.refusal_of_entry.ensures.found
    ∙ refused_as slots known c.args.arrival.now (command.Close c.args.close.now) c.in-Some.row _ _ _ (sym c.in-Some.is ∙ c.in_ok-row.ensures.found known holds clean) (record {
      unknown = refl;
      taken = refl;
      scale = refl;
      limits = or_false _ ∙ sym c.is_bad_close-off_limits.ensures;
      busy = refl;
      voidable = refl;
      place = refl;
      start = refl;
      faults = λ why. refl;
    })
