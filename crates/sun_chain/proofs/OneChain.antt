-- Proves that a memory image (the words read from a device) has at most one chain of SunSpec models
-- and at most one fault.
use Rattle.std.proofs.Common.{◌≡◌, ◌≢◌, ℕ, ◌+◌, ◌≤◌, nat_lt, false, Option, Some, None, List, [], ◌∷◌, length, arith, refl, sym, ◌∙◌, ap}
use Rattle.std.proofs.lemmas.Bool.{le-ltb}
use Rattle.sun_chain.specs.Image.{Words}
use Rattle.sun_chain.specs.Chain.{base_in, next_after, Stands, Follow, IsLawful, IsChain}
use Rattle.sun_chain.specs.Walk.{first_lack, Lacks, Fails}
use Rattle.sun_chain.specs.Laws.{ChainIsOne, ChainHasNoFault, FaultIsOne}
use Rattle.sun_chain.specs.declared.model.Model.{Model}
use Rattle.sun_chain.specs.declared.fault.ChainFault.{ChainFault}
use Rattle.sun_chain.specs.declared.fault.ChainFault.TheVariants.{NoMark, Unreadable, PastEnd, TooMany, Memory}
use Rattle.sun_chain.proofs.Chains.{same_next, some_same}

some_or_none : {X : Type 0} (a : X) (found : Option X) → found ≡ Some a → found ≡ None → ⊥
some_or_none a found is_a is_none = cc

abbrev model_of : ℕ → ℕ → ℕ → Model
model_of address id size = record { address = address; id = id; length = size }

-- At most one SunSpec model begins at an address.
same_model : (word : Words) (first other : Model) → first.address ≡ other.address → Stands word first → Stands word other → first ≡ other
same_model word first other same stands other_stands =
    let other_id : word first.address ≡ Some other.id = rw same other_stands.id in
    let ids : first.id ≡ other.id = some_same first.id other.id (word first.address) stands.id other_id in
    let other_length : word (first.address + 1) ≡ Some other.length = rw same other_stands.length in
    let lengths : first.length ≡ other.length = some_same first.length other.length (word (first.address + 1)) stands.length other_length in
    ap (λ (a : ℕ). model_of a first.id first.length) same
    ∙ ap (λ (i : ℕ). model_of other.address i first.length) ids
    ∙ ap (λ (l : ℕ). model_of other.address other.id l) lengths

-- If two lists of consecutive SunSpec models in the same words begin at the same address and have
-- the same length, then they are equal.
same_models : (word : Words) (from : ℕ) (models others : List Model) (next other_next : ℕ) →
    Follow word from models next → Follow word from others other_next → length models ≡ length others → (models ≡ others) × (next ≡ other_next)
same_models word from [] [] next other_next follow other_follow as_many = (refl, sym follow ∙ other_follow)
same_models word from [] (other ∷ others) next other_next follow other_follow as_many = absurd (omega arith)
same_models word from (first ∷ models) [] next other_next follow other_follow as_many = absurd (omega arith)
same_models word from (first ∷ models) (other ∷ others) next other_next follow other_follow as_many =
    let one : first ≡ other = same_model word first other (follow.0 ∙ sym other_follow.0) follow.1 other_follow.1 in
    let after : next_after first ≡ next_after other = ap (λ (m : Model). next_after m) one in
    let other_too : Follow word (next_after first) others other_next = rw (← after) at other_follow.2 in
    let rest : (models ≡ others) × (next ≡ other_next) =
    same_models word (next_after first) models others next other_next follow.2 other_too (omega arith) in
    (ap (λ (m : Model). m ∷ models) one ∙ ap (λ (ms : List Model). other ∷ ms) rest.0, rest.1)

-- If a list of consecutive models is followed by the ID 0xFFFF, then no list of consecutive models
-- from the same address is longer.
none_after_end : (word : Words) (from : ℕ) (models others : List Model) (end other_next : ℕ) →
    Follow word from models end → word end ≡ Some 0xFFFF → Follow word from others other_next → length others ≤ length models
none_after_end word from models [] end other_next follow ends other_follow = omega arith
none_after_end word from [] (other ∷ others) end other_next follow ends other_follow =
    let at_end : other.address ≡ end = other_follow.0 ∙ follow in
    let id : word end ≡ Some other.id = rw at_end at other_follow.1.id in
    absurd (other_follow.1.no_end (some_same other.id 0xFFFF (word end) id ends))
none_after_end word from (first ∷ models) (other ∷ others) end other_next follow ends other_follow =
    let same : next_after first ≡ next_after other = same_next word first other (follow.0 ∙ sym other_follow.0) follow.1 other_follow.1 in
    let other_too : Follow word (next_after first) others other_next = rw (← same) at other_follow.2 in
    let rest : length others ≤ length models = none_after_end word (next_after first) models others end other_next follow.2 ends other_too in
    omega arith

pub chain_is_one : ChainIsOne
chain_is_one word base other_base models others end other_end chain other =
    let bases : base ≡ other_base = some_same base other_base (base_in word) chain.lawful.marked other.lawful.marked in
    let other_follow : Follow word (base + 2) others other_end = rw bases other.lawful.follow in
    let no_more : length others ≤ length models = none_after_end word (base + 2) models others end other_end chain.lawful.follow chain.ends other_follow in
    let no_fewer : length models ≤ length others = none_after_end word (base + 2) others models other_end end other_follow other.ends chain.lawful.follow in
    let same : (models ≡ others) × (end ≡ other_end) = same_models word (base + 2) models others end other_end chain.lawful.follow other_follow (omega arith) in
    (bases, same.0, same.1)

-- A chain that ends with the end mark 0xFFFF has no fault at that mark.
no_lack_at_end : (word : Words) (count end : ℕ) → word end ≡ Some 0xFFFF → end ≤ 65535 → first_lack word count end ≡ None
no_lack_at_end word count end ends inside =
    let in_space : nat_lt 65535 end ≡ false = le-ltb 65535 end inside in
    rw (in_space, ends) refl

chain_lacks_nothing : (word : Words) (base : ℕ) (models : List Model) (end : ℕ) (fault : ChainFault) → IsChain word base models end → Lacks word fault → ⊥
chain_lacks_nothing word base models end fault chain lacks =
    let bases : base ≡ lacks.base = some_same base lacks.base (base_in word) chain.lawful.marked lacks.lawful.marked in
    let lawful : IsLawful word lacks.base models end = rw bases at chain.lawful in
    let no_more : length models ≤ length lacks.models = lacks.longest models end lawful in
    let no_fewer : length lacks.models ≤ length models =
    none_after_end word (lacks.base + 2) models lacks.models end lacks.next lawful.follow chain.ends lacks.lawful.follow in
    let same : (models ≡ lacks.models) × (end ≡ lacks.next) =
    same_models word (lacks.base + 2) models lacks.models end lacks.next lawful.follow lacks.lawful.follow (omega arith) in
    let lack : first_lack word (length lacks.models) end ≡ Some fault = rw same.1 lacks.lack in
    some_or_none fault (first_lack word (length lacks.models) end) lack (no_lack_at_end word (length lacks.models) end chain.ends chain.inside)

pub chain_has_no_fault : ChainHasNoFault
chain_has_no_fault word base models end NoMark chain fails = absurd (some_or_none base (base_in word) chain.lawful.marked fails)
chain_has_no_fault word base models end (Unreadable address) chain fails = absurd (chain_lacks_nothing word base models end (Unreadable address) chain fails)
chain_has_no_fault word base models end PastEnd chain fails = absurd (chain_lacks_nothing word base models end PastEnd chain fails)
chain_has_no_fault word base models end TooMany chain fails = absurd (chain_lacks_nothing word base models end TooMany chain fails)
chain_has_no_fault word base models end Memory chain fails = refl

lack_is_one : (word : Words) (fault other : ChainFault) → Lacks word fault → Lacks word other → fault ≡ other
lack_is_one word fault other lacks others =
    let bases : lacks.base ≡ others.base = some_same lacks.base others.base (base_in word) lacks.lawful.marked others.lawful.marked in
    let lawful : IsLawful word others.base lacks.models lacks.next = rw bases at lacks.lawful in
    let other_lawful : IsLawful word lacks.base others.models others.next = rw bases others.lawful in
    let no_more : length lacks.models ≤ length others.models = others.longest lacks.models lacks.next lawful in
    let no_fewer : length others.models ≤ length lacks.models = lacks.longest others.models others.next other_lawful in
    let as_many : length lacks.models ≡ length others.models = omega arith in
    let same : (lacks.models ≡ others.models) × (lacks.next ≡ others.next) =
    same_models word (others.base + 2) lacks.models others.models lacks.next others.next lawful.follow others.lawful.follow as_many in
    let other_lack : first_lack word (length lacks.models) lacks.next ≡ Some other = rw (as_many, same.1) others.lack in
    some_same fault other (first_lack word (length lacks.models) lacks.next) lacks.lack other_lack

mark_or_none : (word : Words) (fault : ChainFault) → Lacks word fault → base_in word ≡ None → ⊥
mark_or_none word fault lacks unmarked = some_or_none lacks.base (base_in word) lacks.lawful.marked unmarked

lack_is_fault : (word : Words) (fault other : ChainFault) → other ≢ Memory → Lacks word fault → Fails word other → fault ≡ other
lack_is_fault word fault NoMark known lacks fails = absurd (mark_or_none word fault lacks fails)
lack_is_fault word fault (Unreadable address) known lacks fails = lack_is_one word fault (Unreadable address) lacks fails
lack_is_fault word fault PastEnd known lacks fails = lack_is_one word fault PastEnd lacks fails
lack_is_fault word fault TooMany known lacks fails = lack_is_one word fault TooMany lacks fails
lack_is_fault word fault Memory known lacks fails = absurd (known refl)

no_mark_is_fault : (word : Words) (other : ChainFault) → other ≢ Memory → base_in word ≡ None → Fails word other → NoMark ≡ other
no_mark_is_fault word NoMark known unmarked fails = refl
no_mark_is_fault word (Unreadable address) known unmarked fails = absurd (mark_or_none word (Unreadable address) fails unmarked)
no_mark_is_fault word PastEnd known unmarked fails = absurd (mark_or_none word PastEnd fails unmarked)
no_mark_is_fault word TooMany known unmarked fails = absurd (mark_or_none word TooMany fails unmarked)
no_mark_is_fault word Memory known unmarked fails = absurd (known refl)

pub fault_is_one : FaultIsOne
fault_is_one word NoMark other first_known known fails other_fails = no_mark_is_fault word other known fails other_fails
fault_is_one word (Unreadable address) other first_known known fails other_fails = lack_is_fault word (Unreadable address) other known fails other_fails
fault_is_one word PastEnd other first_known known fails other_fails = lack_is_fault word PastEnd other known fails other_fails
fault_is_one word TooMany other first_known known fails other_fails = lack_is_fault word TooMany other known fails other_fails
fault_is_one word Memory other first_known known fails other_fails = absurd (first_known refl)
