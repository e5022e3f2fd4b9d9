use Rattle.std.proofs.Common.{◌≡◌, drop}
use Rattle.std.specs.List.{list_all}
use Rattle.command_words.specs.ClapTable.Table.{texts}
use Rattle.command_words.specs.Options.{is_host_name}
use Rattle.command_words.proofs.options.other_than_hosts.Given as goal

abbrev pub invariant-loop-name : goal.invariant-loop-name
invariant-loop-name l =
    list_all is_host_name (texts (drop l.name-index l.names)) ≡ list_all is_host_name (texts l.names)
