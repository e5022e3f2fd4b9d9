use Rattle.std.proofs.Common.{take}
use Rattle.std.specs.List.{flat_map}
use Rattle.std.specs.Io.KnownBytes.{Appends}
use Rattle.sun_chain.specs.Chain.{words_of}
use Rattle.sunspec_text.specs.Chains.ChainText.{model_lines}
use Rattle.sunspec_text.proofs.chains.chain_printout.print_models.Given as goal

abbrev pub invariant-loop-model : goal.invariant-loop-model
invariant-loop-model g l = Appends (g.W.Write.contents l.fn.output) (g.W.Write.contents l.output) (flat_map (model_lines (words_of l.chain)) (take l.model-index l.models))
