use Rattle.std.proofs.Common.{◌∙◌, ap, sym, ◌++◌, ◌∷◌, [], take, length, arith, append_assoc}
use Rattle.mb_wire.specs.Bytes.{words_of, word_bytes}
use Rattle.mb_wire.specs.Coils.{coils_of, packed}
use Rattle.mb_wire.proofs.Carried.{count_of_coils, length_of_coils, length_of_words}
use Rattle.mb_wire.proofs.requests.append_carried.Goals as goal

pub returns-in-WriteCoils-clause-count : goal.returns-in-WriteCoils-clause-count
returns-in-WriteCoils-clause-count c =
    let lawful = rw c.in-WriteCoils.is at c.requires.lawful in
    let long = length_of_coils c.in-WriteCoils.quantity c.in-WriteCoils.bytes.now lawful.1 in
    rw c.in-WriteCoils.is (omega (arith, long, c.append_coils.ensures.count, c.append-counted.ensures.count))

pub returns-in-WriteCoils-clause-written : goal.returns-in-WriteCoils-clause-written
returns-in-WriteCoils-clause-written c =
    let lawful = rw c.in-WriteCoils.is at c.requires.lawful in
    let coils = coils_of c.in-WriteCoils.quantity c.in-WriteCoils.bytes.now in
    let front = take c.args.end c.args.out.now in
    rw c.in-WriteCoils.is (
    c.append_coils.ensures.written
    ∙ ap (λ xs. xs ++ packed coils) c.append-counted.ensures.written
    ∙ append_assoc front (length c.in-WriteCoils.bytes.now ∷ []) (packed coils)
    ∙ ap (λ n. front ++ n ∷ packed coils) (sym (count_of_coils c.in-WriteCoils.quantity c.in-WriteCoils.bytes.now lawful.1)))

pub returns-in-WriteRegisters-clause-count : goal.returns-in-WriteRegisters-clause-count
returns-in-WriteRegisters-clause-count c =
    let lawful = rw c.in-WriteRegisters.is at c.requires.lawful in
    let long = length_of_words c.in-WriteRegisters.bytes.now lawful.1 in
    rw c.in-WriteRegisters.is (omega (arith, long, c.append_words.ensures.count, c.append-counted-in-WriteRegisters.ensures.count))

pub returns-in-WriteRegisters-clause-written : goal.returns-in-WriteRegisters-clause-written
returns-in-WriteRegisters-clause-written c =
    let lawful = rw c.in-WriteRegisters.is at c.requires.lawful in
    let bytes = word_bytes (words_of c.in-WriteRegisters.bytes.now) in
    let front = take c.args.end c.args.out.now in
    rw c.in-WriteRegisters.is (
    c.append_words.ensures.written
    ∙ ap (λ xs. xs ++ bytes) c.append-counted-in-WriteRegisters.ensures.written
    ∙ append_assoc front (length c.in-WriteRegisters.bytes.now ∷ []) bytes
    ∙ ap (λ n. front ++ n ∷ bytes) lawful.1)
