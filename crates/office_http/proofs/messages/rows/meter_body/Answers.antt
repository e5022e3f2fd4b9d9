use Rattle.std.proofs.Common.{rules, refl, w16, FitsSigned}
use Rattle.std.proofs.lemmas.Int.{to_z-of_z}
use Rattle.office_http.proofs.messages.rows.meter_body.Goals as goal

pub returns : goal.returns
returns c =
    let fits : FitsSigned w16 c.args.row.now.last.sf = search rules in
    rw (c.push-7.ensures.bytes, c.push_number-4.ensures.bytes, c.push_scale.ensures.bytes, c.push-6.ensures.bytes, c.push-5.ensures.bytes, c.push_number-3.ensures.bytes, c.push-4.ensures.bytes, c.push-3.ensures.bytes, c.push_number-2.ensures.bytes, c.push-2.ensures.bytes, c.bool_bytes.ensures.word, c.push.ensures.bytes, c.push_number.ensures.bytes, c.new-text.ensures, c.as_bytes.ensures.bytes, c.as_bytes-2.ensures.bytes, to_z-of_z w16 c.args.row.now.last.sf fits)
    refl
