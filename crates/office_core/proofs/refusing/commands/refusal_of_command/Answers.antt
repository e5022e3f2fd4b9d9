use Rattle.std.proofs.Common.{subst, sym}
use Rattle.office_events.specs.declared.commands.Command.{Command}
use Rattle.office_events.specs.declared.commands.Command.TheVariants as command
use Rattle.office_core.specs.Refusing.Reasons.{IsWhyAmong}
use Rattle.office_core.proofs.RefusingLemmas.Asked.{among}
use Rattle.office_core.proofs.refusing.commands.refusal_of_command.Goals as goal

pub returns-in-AddDevice-clause-found : goal.returns-in-AddDevice-clause-found
returns-in-AddDevice-clause-found g c known holds clean =
    subst (λ (asked : Command). IsWhyAmong c.args.slots.now c.args.arrival.now asked known c.add_device.result) (sym c.in-AddDevice.is) (c.add_device.ensures.found known)

pub returns-in-PutList-clause-found : goal.returns-in-PutList-clause-found
returns-in-PutList-clause-found g c known holds clean =
    subst (λ (asked : Command). IsWhyAmong c.args.slots.now c.args.arrival.now asked known c.put_list.result) (sym c.in-PutList.is) (c.put_list.ensures.found known)

pub returns-in-Install-clause-found : goal.returns-in-Install-clause-found
returns-in-Install-clause-found g c known holds clean =
    among c.args.slots.now c.args.arrival.now (command.Install c.in-Install.c) c.args.asked.now known c.install.result c.in-Install.is (c.install.ensures.found known holds clean)

pub returns-in-Exchange-clause-found : goal.returns-in-Exchange-clause-found
returns-in-Exchange-clause-found g c known holds clean =
    among c.args.slots.now c.args.arrival.now (command.Exchange c.in-Exchange.c) c.args.asked.now known c.exchange.result c.in-Exchange.is (c.exchange.ensures.found known holds clean)

pub returns-in-Reset-clause-found : goal.returns-in-Reset-clause-found
returns-in-Reset-clause-found g c known holds clean =
    among c.args.slots.now c.args.arrival.now (command.Reset c.in-Reset.c) c.args.asked.now known c.reset.result c.in-Reset.is (c.reset.ensures.found known holds clean)

pub returns-in-Rescale-clause-found : goal.returns-in-Rescale-clause-found
returns-in-Rescale-clause-found g c known holds clean =
    among c.args.slots.now c.args.arrival.now (command.Rescale c.in-Rescale.c) c.args.asked.now known c.rescale.result c.in-Rescale.is (c.rescale.ensures.found known holds clean)

pub returns-in-Manual-clause-found : goal.returns-in-Manual-clause-found
returns-in-Manual-clause-found g c known holds clean =
    among c.args.slots.now c.args.arrival.now (command.Manual c.in-Manual.c) c.args.asked.now known c.manual.result c.in-Manual.is (c.manual.ensures.found known holds clean)

pub returns-in-Close-clause-found : goal.returns-in-Close-clause-found
returns-in-Close-clause-found g c known holds clean =
    among c.args.slots.now c.args.arrival.now (command.Close c.in-Close.c) c.args.asked.now known c.close.result c.in-Close.is (c.close.ensures.found known holds clean)

pub returns-in-Void-clause-found : goal.returns-in-Void-clause-found
returns-in-Void-clause-found g c known holds clean =
    among c.args.slots.now c.args.arrival.now (command.Void c.in-Void.c) c.args.asked.now known c.void_entry.result c.in-Void.is (c.void_entry.ensures.found known holds clean)
