-- Proves that every memory image (the words read from a device) has a complete chain of SunSpec
-- models or a fault of the chain.
use Rattle.std.proofs.Common.{◌≡◌, ◌≢◌, ℕ, ◌⊎◌, zero, suc, ◌+◌, ◌<◌, ◌≤◌, ◌==◌, Bool, true, false, nat_le, nat_lt, Option, Some, None, List, [], ◌∷◌, ◌++◌, length, arith, refl, inl, inr, length-append}
use Rattle.std.proofs.lemmas.Bool.{eqb-true, eqb-false, leb-false, ltb-false}
use Rattle.sun_chain.specs.Image.{Words}
use Rattle.sun_chain.specs.Chain.{base_in, next_after, Stands, IsLawful}
use Rattle.sun_chain.specs.Walk.{first_lack}
use Rattle.sun_chain.specs.Laws.{ChainOrFault, HasChain, HasFault}
use Rattle.sun_chain.specs.declared.model.Model.{Model}
use Rattle.sun_chain.specs.declared.fault.ChainFault.{ChainFault}
use Rattle.sun_chain.specs.declared.fault.ChainFault.TheVariants.{NoMark, Unreadable, PastEnd, TooMany, Memory}
use Rattle.sun_chain.proofs.Chains.{lawful_more, fails_by}

-- The result of reading at an address after `count` SunSpec models: the end of the chain, one more
-- model, or a fault.
data Next (word : Words) (count address : ℕ) : Type 0 where
  AtEnd : word address ≡ Some 0xFFFF → address ≤ 65535 → Next word count address
  AtModel : (model : Model) → model.address ≡ address → Stands word model → count < 64 → Next word count address
  Lacking : (fault : ChainFault) → fault ≢ Memory → first_lack word count address ≡ Some fault → Next word count address

-- If the ID and the length of a model were read, then one of two cases holds. Either a model that
-- ends at or before address 65535 begins at the address, or the fault `PastEnd` occurs: the model
-- ends past this address.
after_length : (word : Words) (count address id size : ℕ) → nat_lt 65535 address ≡ false → word address ≡ Some id → (id == 0xFFFF) ≡ false →
    nat_le 64 count ≡ false → nat_lt 65535 (address + 1) ≡ false → word (address + 1) ≡ Some size →
    (past : Bool) → nat_lt 65536 (address + 2 + size) ≡ past → Next word count address
after_length word count address id size in_space id_is other room following size_is true past =
    Lacking PastEnd (λ e. cc) (rw (in_space, id_is) (rw (other, room, following, size_is) (rw past refl)))
after_length word count address id size in_space id_is other room following size_is false past =
    let model : Model = record { address = address; id = id; length = size } in
    let stands : Stands word model = record {
      id = id_is;
      no_end = eqb-false id 0xFFFF other;
      length = size_is;
      inside = ltb-false 65536 (address + 2 + size) past;
    } in
    AtModel model refl stands (leb-false 64 count room)

after_id : (word : Words) (count address id : ℕ) → nat_lt 65535 address ≡ false → word address ≡ Some id → (id == 0xFFFF) ≡ false →
    nat_le 64 count ≡ false → nat_lt 65535 (address + 1) ≡ false → (found : Option ℕ) → word (address + 1) ≡ found → Next word count address
after_id word count address id in_space id_is other room following None is =
    Lacking (Unreadable (address + 1)) (λ e. cc) (rw (in_space, id_is) (rw (other, room, following, is) refl))
after_id word count address id in_space id_is other room following (Some size) is =
    after_length word count address id size in_space id_is other room following is (nat_lt 65536 (address + 2 + size)) refl

with_length : (word : Words) (count address id : ℕ) → nat_lt 65535 address ≡ false → word address ≡ Some id → (id == 0xFFFF) ≡ false →
    nat_le 64 count ≡ false → (past : Bool) → nat_lt 65535 (address + 1) ≡ past → Next word count address
with_length word count address id in_space id_is other room true past =
    Lacking PastEnd (λ e. cc) (rw (in_space, id_is) (rw (other, room, past) refl))
with_length word count address id in_space id_is other room false past =
    after_id word count address id in_space id_is other room past (word (address + 1)) refl

with_room : (word : Words) (count address id : ℕ) → nat_lt 65535 address ≡ false → word address ≡ Some id → (id == 0xFFFF) ≡ false →
    (many : Bool) → nat_le 64 count ≡ many → Next word count address
with_room word count address id in_space id_is other true many =
    Lacking TooMany (λ e. cc) (rw (in_space, id_is) (rw (other, many) refl))
with_room word count address id in_space id_is other false many =
    with_length word count address id in_space id_is other many (nat_lt 65535 (address + 1)) refl

with_id : (word : Words) (count address id : ℕ) → nat_lt 65535 address ≡ false → word address ≡ Some id →
    (ends : Bool) → (id == 0xFFFF) ≡ ends → Next word count address
with_id word count address id in_space id_is true ends =
    let is : id ≡ 0xFFFF = eqb-true id 0xFFFF ends in
    AtEnd (rw is at id_is) (ltb-false 65535 address in_space)
with_id word count address id in_space id_is false ends = with_room word count address id in_space id_is ends (nat_le 64 count) refl

in_words : (word : Words) (count address : ℕ) → nat_lt 65535 address ≡ false → (found : Option ℕ) → word address ≡ found → Next word count address
in_words word count address in_space None is = Lacking (Unreadable address) (λ e. cc) (rw (in_space, is) refl)
in_words word count address in_space (Some id) is = with_id word count address id in_space is (id == 0xFFFF) refl

at_address : (word : Words) (count address : ℕ) → (past : Bool) → nat_lt 65535 address ≡ past → Next word count address
at_address word count address true past = Lacking PastEnd (λ e. cc) (rw past refl)
at_address word count address false past = in_words word count address past (word address) refl

-- If a list of at most 64 models follows the `SunS` mark without gaps, the words read from a device
-- contain a complete chain or have a fault. The induction adds models to the list, at most 64.
found_from : (more : ℕ) (word : Words) (base : ℕ) (models : List Model) (next : ℕ) → IsLawful word base models next → 65 ≤ more + length models →
    HasChain word ⊎ HasFault word
found_from zero word base models next lawful many =
    let few : length models ≤ 64 = lawful.few in
    absurd (omega arith)
found_from (suc more) word base models next lawful many =
    elim (at_address word (length models) next (nat_lt 65535 next) refl) [
      | AtEnd ends inside ↦ inl (base, models, next, record { lawful = lawful; ends = ends; inside = inside })
      | AtModel model at_next stands few ↦
          found_from more word base (models ++ model ∷ []) (next_after model)
          (lawful_more word base models next model lawful at_next stands few)
          (rw length-append (omega arith))
      | Lacking fault known lack ↦ inr (fault, known, fails_by word base models next fault lawful lack)
    ]

pub chain_or_fault : ChainOrFault
chain_or_fault word = based (base_in word) refl
  where
    based : (found : Option ℕ) → base_in word ≡ found → HasChain word ⊎ HasFault word
    based None unmarked = inr (NoMark, λ e. cc, unmarked)
    based (Some base) marked =
        found_from 65 word base [] (base + 2) (record { marked = marked; follow = refl; few = omega arith }) (omega arith)
