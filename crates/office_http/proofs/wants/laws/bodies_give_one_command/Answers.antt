use Rattle.office_http.proofs.WantsLemmas.Bodies.{one_command}
use Rattle.office_http.proofs.wants.laws.bodies_give_one_command.Goals as goal

pub returns : goal.returns
returns c = one_command c.lists_are_planned_once.ensures c.texts_spell_one_list.ensures.one
