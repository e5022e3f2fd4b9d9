use Rattle.std.proofs.Common.{◌∙◌, ap, get_or}
use Rattle.stored_files.proofs.carries.zones.zone_in.Goals as goal

pub returns-in-len1 : goal.returns-in-len1
returns-in-len1 c = λ m is. c.zone_of.ensures m (c.row-item.is ∙ ap (λ rs. get_or rs 0 c.row-item.result) is)
