use Rattle.std.proofs.Common.{◌≡◌, ◌≢◌, ◌∙◌, ◌++◌, ◌∷◌, ◌+◌, [], ℕ, List, Some, map, take, false, refl, sym, ap, add-one}
use Rattle.std.specs.Result.{is_err}
use Rattle.std.proofs.lemmas.List.{map-append}
use Rattle.std.proofs.Math.Seq.{take-suc}
use Rattle.csv.proofs.ReadFacts.{on-ok}
use Rattle.csv.specs.Records.{Row, fields_of}
use Rattle.csv.specs.Writing.{default_writer, row_text, writer_setup}
use Rattle.csv.specs.declared.writer.QuoteStyle.TheVariants as style
use Rattle.csv.specs.declared.writer.WriterBuilder.{WriterBuilder}
use Rattle.std.proofs.lemmas.Option.{same_Some}
use Rattle.point_list.specs.RowTexts.{rows_text}
use Rattle.point_list.proofs.WrittenRows.{rows_text-push}
use Rattle.point_list.proofs.row_texts.text_of_rows.Goals as goal

pub loop-row-init : goal.loop-row-init
unfolding rows_text
loop-row-init c =
    let fr = c.from_writer-writer.ensures in (
      fr.cfg ∙ c.new.ensures,
      fr.fields,
      fr.wrote,
      rw (fr.wtr, fr.empty, c.new-2.ensures.items) refl,
    )

pub loop-row-preserved : goal.loop-row-preserved
loop-row-preserved c =
    let inv = c.loop-row.invariant in
    let no : is_err c.write_byte_record.result ≡ false = sym c.is_err.ensures.value ∙ c.if-is_err.false in
    let ens = c.write_byte_record.ensures in
    let plain : (writer_setup c.loop-row.writer).style ≢ style.NonNumeric = rw inv.0 (λ e. cc e) in
    let bytes = on-ok c.write_byte_record.result no ens.bytes inv.1 inv.2 plain in
    let setup = on-ok c.write_byte_record.result no ens.setup in
    let xs = c.args.rows.now in
    let i = c.loop-row.row-index in
    let done : take (i + 1) xs ≡ take i xs ++ (c.row-item.result ∷ []) =
    ap (λ (n : ℕ). take n xs) (add-one i) ∙ take-suc xs i c.row-item.result c.loop-row-test.true ∙ ap (λ (r : Row). take i xs ++ (r ∷ [])) (sym c.row-item.is) in
    let text : row_text (writer_setup c.loop-row.writer) (fields_of c.row-item.result) ≡ row_text default_writer (fields_of c.row-item.result) = ap (λ (w : WriterBuilder). row_text w (fields_of c.row-item.result)) inv.0 in
    let before = same_Some _ _ inv.3 in
    let all : rows_text (map fields_of (take (i + 1) xs)) ≡ rows_text (map fields_of (take i xs)) ++ row_text default_writer (fields_of c.row-item.result) =
    ap (λ (l : List Row). rows_text (map fields_of l)) done ∙ ap (λ (l : List (List (List ℕ))). rows_text l) (map-append fields_of (take i xs) (c.row-item.result ∷ []))
    ∙ rows_text-push (map fields_of (take i xs)) (fields_of c.row-item.result) in (
      setup ∙ inv.0,
      on-ok c.write_byte_record.result no ens.ended,
      on-ok c.write_byte_record.result no ens.clean,
      ap (λ (t : List ℕ). Some t) (bytes ∙ rw (before, text) (sym all)),
    )
