use Rattle.std.proofs.Common.{◌∙◌, ◌%◌, ◌^◌, ap, sym, [], ◌∷◌, ◌++◌, take, arith, append_assoc, slice_index}
use Rattle.mb_wire.specs.Bytes.{AreBytes}
use Rattle.mb_wire.proofs.Packing.{cleared_after-even, cleared_after-odd, packed-coils_of}
use Rattle.mb_wire.proofs.bytes.append_coils.Goals as goal

pub returns-then-quantity-eq0-clause-written : goal.returns-then-quantity-eq0-clause-written
returns-then-quantity-eq0-clause-written c =
    let bytes : AreBytes c.args.bytes.now = λ place. omega (arith, c.type_inv.bytes place) in
    let h = cleared_after-even c.args.quantity c.args.bytes.now bytes c.requires.bytes (omega arith) in
    let e = packed-coils_of c.args.quantity c.args.bytes.now c.requires.bytes in
    c.append-new_end.ensures.written
    ∙ ap (λ n. take c.args.end c.args.out.now ++ take n c.args.bytes.now) c.from-whole.ensures
    ∙ ap (λ xs. take c.args.end c.args.out.now ++ xs) (h ∙ sym e)

pub returns-else-quantity-eq0-clause-written : goal.returns-else-quantity-eq0-clause-written
returns-else-quantity-eq0-clause-written c =
    let bytes : AreBytes c.args.bytes.now = λ place. omega (arith, c.type_inv.bytes place) in
    let h = cleared_after-odd c.args.quantity c.args.bytes.now bytes c.requires.bytes (omega arith) in
    let e = packed-coils_of c.args.quantity c.args.bytes.now c.requires.bytes in
    let front = take c.args.end c.args.out.now in
    c.append.ensures.written
    ∙ ap (λ xs. xs ++ c.lowest_bits.result ∷ []) c.append-new_end.ensures.written
    ∙ append_assoc front (take c.from-whole.result c.args.bytes.now) (c.lowest_bits.result ∷ [])
    ∙ ap (λ n. front ++ (take c.from-whole.result c.args.bytes.now ++ n ∷ [])) c.lowest_bits.ensures
    ∙ ap (λ n. front ++ (take n c.args.bytes.now ++ (slice_index c.args.bytes.now n % 2 ^ (c.args.quantity % 8)) ∷ [])) c.from-whole.ensures
    ∙ ap (λ xs. front ++ xs) (h ∙ sym e)
