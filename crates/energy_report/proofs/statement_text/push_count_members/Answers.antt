use Rattle.std.proofs.Common.{◌≡◌, ◌++◌, append_assoc, ◌∙◌}
use Rattle.std.specs.Prelude.{codes}
use Rattle.std.specs.Fmt.{decimal}
use Rattle.energy_report.proofs.StatementLemmas.{numbered}
use Rattle.energy_report.proofs.statement_text.push_count_members.Goals as goal

pub returns-clause-bytes : goal.returns-clause-bytes
returns-clause-bytes c =
    let tally = c.args.tally.now in
    let page = c.args.page.now in
    let a = codes ",\"by_hand\":" ++ decimal tally.by_hand in
    let b = a ++ codes ",\"resets\":" ++ decimal tally.resets in
    let d = b ++ codes ",\"rescales\":" ++ decimal tally.rescales in
    let e = d ++ codes ",\"voids\":" ++ decimal tally.voids in
    let f = e ++ codes ",\"openings\":" ++ decimal tally.openings in
    let first : c.push_number.new.self ≡ page ++ a =
    c.push_number.ensures.bytes ∙ append_assoc page (codes ",\"by_hand\":") (decimal tally.by_hand) in
    let second : c.push_number-2.new.self ≡ page ++ b =
    numbered page c.push_number.new.self c.push_number-2.new.self a (codes ",\"resets\":") (decimal tally.resets) first c.push_number-2.ensures.bytes in
    let third : c.push_number-3.new.self ≡ page ++ d =
    numbered page c.push_number-2.new.self c.push_number-3.new.self b (codes ",\"rescales\":") (decimal tally.rescales) second c.push_number-3.ensures.bytes in
    let fourth : c.push_number-4.new.self ≡ page ++ e =
    numbered page c.push_number-3.new.self c.push_number-4.new.self d (codes ",\"voids\":") (decimal tally.voids) third c.push_number-4.ensures.bytes in
    let fifth : c.push_number-5.new.self ≡ page ++ f =
    numbered page c.push_number-4.new.self c.push_number-5.new.self e (codes ",\"openings\":") (decimal tally.openings) fourth c.push_number-5.ensures.bytes in
    numbered page c.push_number-5.new.self c.push_number-6.new.self f (codes ",\"closings\":") (decimal tally.closings) fifth c.push_number-6.ensures.bytes
