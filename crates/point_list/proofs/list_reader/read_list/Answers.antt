use Rattle.std.proofs.Common.{◌≡◌, ◌∙◌, ◌∷◌, [], ℕ, true, List, Ok, Err, map, ap, sym}
use Rattle.std.specs.Prelude.{IfOk}
use Rattle.std.specs.declared.result.Result.{Result}
use Rattle.csv.specs.Records.{Row, fields_of}
use Rattle.point_list.specs.declared.fault.ListFault.{ListFault}
use Rattle.point_list.specs.declared.point.ListedPoint.{ListedPoint}
use Rattle.point_list.specs.Lists.{SpellEach, SpellsList, faults_below, is_header, rows_read}
use Rattle.point_list.specs.Rows.{csv_rows}
use Rattle.point_list.proofs.TextLemmas.{few-read, spells-list}
use Rattle.point_list.proofs.list_reader.read_list.Goals as goal

pub list_below-requires : goal.list_below-requires
list_below-requires c =
    few-read fields_of c.in-Some.header.now c.in-Some.rows.now c.in_ok-rows.rows.items (csv_rows c.args.text.now)
    (sym c.deref.ensures.value ∙ c.in-Some.ensures.cases.0) c.in_ok-rows.ensures

-- If the rows below the header of a CSV text have no fault and encode a point list, the complete
-- text encodes this point list.
list-of-text : (text : List ℕ) (header : List (List ℕ)) (rows : List (List (List ℕ))) (result : Result (List ListedPoint) ListFault) → header ∷ rows ≡ rows_read text
    → is_header header ≡ true → IfOk result (λ list. (faults_below rows ≡ []) × SpellEach rows list) → IfOk result (λ list. SpellsList text list)
list-of-text text header rows (Ok list) read headed ok = spells-list text header rows list read headed ok.0 ok.1
list-of-text text header rows (Err fault) read headed ok = tt

pub returns-in-Some-clause-list : goal.returns-in-Some-clause-list
returns-in-Some-clause-list c =
    let are : c.in_ok-rows.rows.items ≡ c.in-Some.header.now ∷ c.in-Some.rows.now = sym c.deref.ensures.value ∙ c.in-Some.ensures.cases.0 in
    list-of-text c.args.text.now (fields_of c.in-Some.header.now) (map fields_of c.in-Some.rows.now) c.list_below.result
    (sym (ap (λ (rows : List Row). map fields_of rows) are) ∙ c.in_ok-rows.ensures) (sym c.if-is_header.ensures) c.list_below.ensures.list
