use Rattle.std.proofs.Common.{◌≡◌, ◌∙◌, ap, subst, true, IfOk, refl}
use Rattle.clap.specs.Words.{FailsBy, fault_of, is_simple_and_free, subcommand_of, subcommand_rows_of}
use Rattle.command_words.specs.ClapTable.Table.{texts}
use Rattle.command_words.specs.Program.{program}
use Rattle.command_words.proofs.words.found_in.Goals as goal

program_is_simple : is_simple_and_free program ≡ true
program_is_simple = refl

pub matches_of-requires : goal.matches_of-requires
matches_of-requires c = ap is_simple_and_free c.program.ensures ∙ program_is_simple

pub returns-clause-found : goal.returns-clause-found
returns-clause-found c =
    subst (λ app. IfOk c.matches_of.result (λ found. subcommand_rows_of found ≡ subcommand_of app (texts c.args.words.now)))
    c.program.ensures c.matches_of.ensures.found

pub returns-clause-fails : goal.returns-clause-fails
returns-clause-fails c =
    subst (λ app. FailsBy (fault_of app (texts c.args.words.now)) c.matches_of.result) c.program.ensures c.matches_of.ensures.fails
