use Rattle.std.proofs.Common.{◌∙◌, ap, sym, ◌++◌, ◌∷◌, length}
use Rattle.mb_wire.specs.Coils.{coils_of, packed}
use Rattle.mb_wire.specs.Requests.{query_of, function_of}
use Rattle.mb_wire.proofs.Carried.{count_of_coils}
use Rattle.mb_wire.proofs.replies.write_reply.Goals as goal

pub returns-in-Bits-clause-written : goal.returns-in-Bits-clause-written
returns-in-Bits-clause-written c =
    let bytes = c.in-Bits.bytes.now in
    let coils = coils_of c.in-Bits.quantity bytes in
    let fits = rw c.in-Bits.is at c.requires in
    rw c.in-Bits.is (
    c.append_coils.ensures.written
    ∙ ap (λ xs. xs ++ packed coils) c.append-end.ensures.written
    ∙ ap (λ f. f ∷ length bytes ∷ packed coils) c.function-function.ensures
    ∙ ap (λ n. function_of (query_of c.args.request.now) ∷ n ∷ packed coils) (sym (count_of_coils c.in-Bits.quantity bytes fits.1.1)))
