use Rattle.std.proofs.Common.{rules, ◌≡◌, ℕ, ◌+◌, ◌<◌, List, [], ◌∷◌, ◌++◌, take, length, get_or, add-one, append_assoc, sym, ap, ◌∙◌}
use Rattle.std.specs.List.{flat_map}
use Rattle.std.proofs.Math.Seq.{take-suc}
use Rattle.std.proofs.lemmas.List.{append-nil}
use Rattle.std.proofs.lemmas.List.Concat.{flat_map-append}
use Rattle.table_seals.specs.Texts.{setup_difference}
use Rattle.table_seals.proofs.checks.write_gone.Goals as goal

-- If the lines of the first items are written, and then the line of the next item, the lines of one
-- item more are written.
one_more : {A : Type 0} (line : A → List ℕ) (items : List A) (i : ℕ) (x : A) (first old new : List ℕ) → i < length items → x ≡ get_or items i x
    → old ≡ first ++ flat_map line (take i items) → new ≡ old ++ line x → new ≡ first ++ flat_map line (take (i + 1) items)
one_more {A} line items i x first old new less is before put =
    let more : take (i + 1) items ≡ take i items ++ x ∷ [] =
    ap (λ (n : ℕ). take n items) (add-one i) ∙ take-suc items i x less ∙ ap (λ (y : A). take i items ++ y ∷ []) (sym is) in
    let lines : flat_map line (take (i + 1) items) ≡ flat_map line (take i items) ++ line x =
    ap (flat_map line) more ∙ flat_map-append line (take i items) (x ∷ []) ∙ ap (λ (t : List ℕ). flat_map line (take i items) ++ t) (append-nil (line x)) in
    put ∙ ap (λ (t : List ℕ). t ++ line x) before ∙ append_assoc first (flat_map line (take i items)) (line x)
    ∙ ap (λ (t : List ℕ). first ++ t) (sym lines)

pub loop-line-preserved : goal.loop-line-preserved
loop-line-preserved c =
    let put : c.write_gone_line.new.text.items ≡ c.loop-line.text.items ++ setup_difference c.line-item.result = search rules in
    let less : c.loop-line.line-index < length c.args.lines.now = search rules in
    one_more setup_difference c.args.lines.now c.loop-line.line-index c.line-item.result c.args.text.now.items c.loop-line.text.items
    c.write_gone_line.new.text.items less c.line-item.is c.loop-line.invariant put
