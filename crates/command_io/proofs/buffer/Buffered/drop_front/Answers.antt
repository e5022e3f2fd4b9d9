use Rattle.std.proofs.Common.{◌≡◌, ◌+◌, ◌-◌, take, drop, length, ap, sym, ◌∙◌, arith, rules, length-drop}
use lib.Seq.{paste}
use Rattle.std.proofs.lemmas.List.{drop-take}
use Rattle.std.proofs.lemmas.List.Edits.{take-paste}
use Rattle.command_io.proofs.buffer.Buffered.drop_front.Goals as goal

pub returns-clause-rest : goal.returns-clause-rest
returns-clause-rest g c =
    let buffered = c.args.self.now.buffered in
    let left = c.args.self.now.filled - c.args.count in
    let long : length buffered ≡ 8192 = search rules in
    let enough : length (drop c.args.count buffered) ≡ 8192 - c.args.count = length-drop c.args.count buffered ∙ ap (λ n. n - c.args.count) long in
    let all : c.args.count + left ≡ c.args.self.now.filled = omega (arith, c.requires) in
    let same : left ≡ 0 + left = omega arith in
    ap (take left) c.copy_within.ensures.after
    ∙ ap (λ k. take k (paste buffered 0 (drop c.args.count buffered) left)) same
    ∙ take-paste buffered 0 (drop c.args.count buffered) left (omega arith) (omega (arith, enough, c.args.self.now.room))
    ∙ sym (drop-take c.args.count left buffered) ∙ ap (λ k. drop c.args.count (take k buffered)) all
