use Rattle.std.proofs.Common.{◌≡◌, ◌∙◌, ◌+◌, ◌++◌, ◌∷◌, [], ℕ, List, Option, ap, sym, map, take, get_or}
use Rattle.std.proofs.lemmas.List.{get_or-map, take-map}
use Rattle.csv.specs.Records.{fields_of}
use Rattle.point_list.specs.declared.fault.FaultyRow.{FaultyRow}
use Rattle.point_list.specs.declared.fault.RowFault.{RowFault}
use Rattle.point_list.specs.Faults.{least_fault}
use Rattle.point_list.specs.Lists.{faulty_rows, row_fault, row_faults}
use Rattle.point_list.proofs.ListLemmas.{row-more}
use Rattle.point_list.proofs.list_reader.faulty_rows.Goals as goal

pub loop-place-preserved : goal.loop-place-preserved
loop-place-preserved c =
    let rows = c.args.rows.now in
    let place = c.loop-place.place in
    let here : fields_of c.index-rows-place.result ≡ get_or (map fields_of rows) place [] =
    ap fields_of c.index-rows-place.is ∙ sym (get_or-map fields_of rows place c.index-rows-place.result [] c.loop-place-test.true) in
    let fault : c.least_row_fault-fault.result ≡ row_fault (map fields_of rows) place =
    c.least_row_fault-fault.ensures ∙ ap (λ (earlier : List (List (List ℕ))). least_fault place earlier (fields_of c.index-rows-place.result)) (sym (take-map fields_of place rows))
    ∙ ap (λ (fields : List (List ℕ)). least_fault place (take place (map fields_of rows)) fields) here in
    c.in_ok-add_fault.ensures
    ∙ ap (λ (before : List FaultyRow). before ++ faulty_rows (place + 2) (c.least_row_fault-fault.result ∷ [])) c.loop-place.invariant
    ∙ ap (λ (fault : Option RowFault). faulty_rows 2 (row_faults (map fields_of rows) place) ++ faulty_rows (place + 2) (fault ∷ [])) fault
    ∙ sym (row-more (map fields_of rows) place)
