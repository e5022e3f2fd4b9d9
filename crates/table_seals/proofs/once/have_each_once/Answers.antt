use Rattle.std.proofs.Common.{sym, ◌∙◌}
use Rattle.std.proofs.lemmas.List.Folds.{list_all-map}
use Rattle.table_seals.specs.Reading.{has_each_once}
use Rattle.table_seals.specs.Sealed.{sealed_of}
use Rattle.table_seals.proofs.once.have_each_once.Goals as goal

pub returns : goal.returns
returns c =
    c.all_have_each_once.ensures ∙ sym (list_all-map has_each_once sealed_of c.args.seals.now)
