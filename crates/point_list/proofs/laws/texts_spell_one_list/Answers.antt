use Rattle.point_list.proofs.SpelledLists.{faultless-spell, spelled-lawful, spelled-one}
use Rattle.point_list.proofs.laws.texts_spell_one_list.Goals as goal

pub returns : goal.returns
returns c = record { spelled = faultless-spell; one = spelled-one; lawful = spelled-lawful }
