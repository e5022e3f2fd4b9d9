use Rattle.std.proofs.Common.{◌∙◌, ap, get_or, refl}
use Rattle.store_tables.proofs.Reported.{reports_zone}
use Rattle.store_tables.proofs.opened_file.zone_in.Goals as goal

pub returns-then-has_version : goal.returns-then-has_version
returns-then-has_version c = record {
  reports = λ m is.
      let row_is = c.row-item.is ∙ ap (λ rs. get_or rs 0 c.row-item.result) is in
      reports_zone c.args.version m c.read_zone_text.result ((c.if-has_version.ensures m row_is).0 refl) (c.read_zone_text.ensures.fault m row_is) (c.read_zone_text.ensures.zone m row_is) (c.read_zone_text.ensures.rule m row_is);
}
