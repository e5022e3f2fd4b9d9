use Rattle.std.proofs.Common.{◌<◌, ◌+◌, length, arith, sym, ap, ◌∙◌}
use Rattle.std.specs.Prelude.{option_map}
use Rattle.sun_chain.specs.Image.{word_in, add_words}
use Rattle.sunspec_text.specs.Chains.Seen.{seen_put}
use Rattle.sunspec_text.proofs.ChainsLemmas.Puts.{write_done}
use Rattle.sunspec_text.proofs.chains.image_lines.write_line.Goals as goal

pub returns-in-Ok-put-clause-put : goal.returns-in-Ok-put-clause-put
returns-in-Ok-put-clause-put c =
    let past : 65536 < c.in-Some.put.address + length c.deref.result.now → ⊥ = λ h. let e = c.in-Ok-put.ensures.past_end.1 h in cc in
    let same = ap length c.deref.ensures.value in
    write_done (word_in c.args.image.now) (word_in c.put.new.self) c.args.line.text.now (seen_put c.in-Some.put)
    (ap (option_map seen_put) (sym c.in-Some.is) ∙ c.in-Ok.ensures)
    (omega arith)
    (λ at. c.in-Ok-put.ensures.put at ∙ ap (λ words. add_words (word_in c.args.image.now) c.in-Some.put.address words at) c.deref.ensures.value)
