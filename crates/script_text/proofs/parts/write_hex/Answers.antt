use Rattle.std.proofs.Common.{◌≡◌, [], ◌++◌, refl, arith}
use Rattle.std.proofs.lemmas.Grind.{common_steps}
use Rattle.script_text.proofs.HexText.{none_got, cut_off, piece_got, piece_failed, all_got}
use Rattle.script_text.proofs.parts.write_hex.Goals as goal

pub loop-rest-init : goal.loop-rest-init
loop-rest-init g c = ([], refl, none_got _)

pub loop-rest-preserved : goal.loop-rest-preserved
loop-rest-preserved g c =
    let (done, split, got) = c.loop-rest.invariant in
    let cut = c.split_at.ensures in (
      done ++ c.split_at.result.0.now,
      cut_off c.args.bytes.now done c.loop-rest.rest.now c.split_at.result.0.now c.split_at.result.1.now _ split cut.front cut.back,
      piece_got _ _ _ done c.split_at.result.0.now got c.in_ok-write_piece.ensures,
    )

pub returns-in_err-write_piece : goal.returns-in_err-write_piece
returns-in_err-write_piece g c =
    let (done, split, got) = c.loop-rest.invariant in
    let cut = c.split_at.ensures in
    piece_failed c.from_residual.result _ _ _ c.args.bytes.now done c.split_at.result.0.now c.split_at.result.1.now c.from_residual.ensures.0
    (cut_off c.args.bytes.now done c.loop-rest.rest.now c.split_at.result.0.now c.split_at.result.1.now _ split cut.front cut.back) got c.in_err-write_piece.ensures

pub returns : goal.returns
returns g c =
    let (done, split, got) = c.loop-rest.invariant in
    let none : c.loop-rest.rest.now ≡ [] = grind (arith, common_steps, c.is_empty.ensures, c.loop-rest-test.false) in
    all_got _ _ c.args.bytes.now done c.loop-rest.rest.now split none got
