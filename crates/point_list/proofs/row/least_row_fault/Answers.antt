use Rattle.std.proofs.Common.{◌∙◌, Bool, Some, ap, map, sym}
use Rattle.std.specs.Option.{option_map_or}
use Rattle.std.specs.declared.option.Option.{Option}
use Rattle.csv.specs.Records.{fields_of}
use Rattle.point_list.specs.declared.fault.RowFault.TheVariants.{Csv}
use Rattle.point_list.specs.Faults.{RowText, conditions, conditions_where, first_of, has_name, seen_row}
use Rattle.point_list.proofs.AnyLemmas.{list_any-map}
use Rattle.point_list.proofs.row.least_row_fault.Goals as goal

pub returns-in-Some : goal.returns-in-Some
returns-in-Some c =
    let row = seen_row c.in-Some.fields in
    let taken = c.is_taken.ensures ∙ sym (list_any-map fields_of (has_name row.name) c.args.earlier.now) in
    c.first_fault.ensures
    ∙ ap (λ (b : Bool). first_of (conditions_where b c.args.place row)) taken
    ∙ ap (λ (o : Option RowText). option_map_or (λ r. first_of (conditions c.args.place (map fields_of c.args.earlier.now) r)) o (Some Csv)) c.in-Some.ensures
