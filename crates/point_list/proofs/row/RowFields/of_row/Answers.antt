use Rattle.std.proofs.Common.{◌≡◌, length, arith, sym}
use Rattle.csv.specs.Records.{fields_of}
use Rattle.point_list.proofs.SixLemmas.{field-there, six-of-fields}
use Rattle.point_list.proofs.row.RowFields.of_row.Goals as goal

pub returns-in_err-get : goal.returns-in_err-get
returns-in_err-get c =
    let size : length (fields_of c.args.row.now) ≡ 6 = omega (arith, c.len.ensures) in
    absurd (field-there (fields_of c.args.row.now) 0 (omega (arith, size)) (sym c.in_err-get.ensures.value))

pub returns-in_err-get-2 : goal.returns-in_err-get-2
returns-in_err-get-2 c =
    let size : length (fields_of c.args.row.now) ≡ 6 = omega (arith, c.len.ensures) in
    absurd (field-there (fields_of c.args.row.now) 1 (omega (arith, size)) (sym c.in_err-get-2.ensures.value))

pub returns-in_err-get-3 : goal.returns-in_err-get-3
returns-in_err-get-3 c =
    let size : length (fields_of c.args.row.now) ≡ 6 = omega (arith, c.len.ensures) in
    absurd (field-there (fields_of c.args.row.now) 2 (omega (arith, size)) (sym c.in_err-get-3.ensures.value))

pub returns-in_err-get-4 : goal.returns-in_err-get-4
returns-in_err-get-4 c =
    let size : length (fields_of c.args.row.now) ≡ 6 = omega (arith, c.len.ensures) in
    absurd (field-there (fields_of c.args.row.now) 3 (omega (arith, size)) (sym c.in_err-get-4.ensures.value))

pub returns-in_err-get-5 : goal.returns-in_err-get-5
returns-in_err-get-5 c =
    let size : length (fields_of c.args.row.now) ≡ 6 = omega (arith, c.len.ensures) in
    absurd (field-there (fields_of c.args.row.now) 4 (omega (arith, size)) (sym c.in_err-get-5.ensures.value))

pub returns-in_err-get-6 : goal.returns-in_err-get-6
returns-in_err-get-6 c =
    let size : length (fields_of c.args.row.now) ≡ 6 = omega (arith, c.len.ensures) in
    absurd (field-there (fields_of c.args.row.now) 5 (omega (arith, size)) (sym c.in_err-get-6.ensures.value))

pub returns : goal.returns
returns c =
    let fields = fields_of c.args.row.now in
    let size : length fields ≡ 6 = omega (arith, c.len.ensures) in
    sym (six-of-fields fields c.in_ok-get.field-0.now c.in_ok-get-2.field-0.now c.in_ok-get-3.field-0.now c.in_ok-get-4.field-0.now c.in_ok-get-5.field-0.now c.in_ok-get-6.field-0.now size
    (sym c.in_ok-get.ensures.value) (sym c.in_ok-get-2.ensures.value) (sym c.in_ok-get-3.ensures.value) (sym c.in_ok-get-4.ensures.value) (sym c.in_ok-get-5.ensures.value) (sym c.in_ok-get-6.ensures.value))
