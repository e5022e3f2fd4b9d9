-- Lemmas about consecutive SunSpec models: a valid model extends the list, and a fault at the
-- address after a list excludes a longer list.
use Rattle.std.proofs.Common.{◌≡◌, ℕ, ◌+◌, ◌<◌, ◌≤◌, Bool, true, false, if◌then◌else◌, nat_le, nat_lt, ◌==◌, Option, Some, None, List, [], ◌∷◌, ◌++◌, length, arith, length-append, refl, sym, ◌∙◌, add-zero, zero-add, add-suc, add-one, suc-add}
use Rattle.std.specs.List.{All}
use Rattle.std.proofs.lemmas.List.Elements.{All-cons}
use Rattle.std.proofs.lemmas.Bool.{le-ltb, lt-leb, ne_eqb}
use Rattle.sun_chain.specs.Image.{Words}
use Rattle.sun_chain.specs.Chain.{next_after, Stands, Follow, IsLawful}
use Rattle.sun_chain.specs.Walk.{length_lack, id_lack, first_lack, Lacks, Fails}
use Rattle.sun_chain.specs.declared.model.Model.{Model}
use Rattle.sun_chain.specs.declared.fault.ChainFault.{ChainFault}
use Rattle.sun_chain.specs.declared.fault.ChainFault.TheVariants.{NoMark, Unreadable, PastEnd, TooMany, Memory}

-- If a valid model begins after a list of consecutive SunSpec models, then the list with this model
-- appended is also consecutive. A model is valid if its ID and length were read, and it ends within
-- 65536 addresses.
pub follow_more : (word : Words) (from : ℕ) (models : List Model) (model : Model) → Follow word from models model.address → Stands word model →
    Follow word from (models ++ model ∷ []) (next_after model)
follow_more word from [] model follow stands = (sym follow, stands, refl)
follow_more word from (first ∷ models) model follow stands = (follow.0, follow.1, follow_more word (next_after first) models model follow.2 stands)

-- If a valid SunSpec model begins at an address after fewer than 64 models, there is no fault at
-- that address. A model is valid if its ID and length were read, and it ends within 65536
-- addresses.
pub no_lack : (word : Words) (count : ℕ) (model : Model) → Stands word model → count < 64 → first_lack word count model.address ≡ None
no_lack word count model stands few =
    let in_space : nat_lt 65535 model.address ≡ false = le-ltb 65535 model.address (omega (arith, stands.inside)) in
    let room : nat_le 64 count ≡ false = lt-leb 64 count few in
    let other : (model.id == 0xFFFF) ≡ false = ne_eqb model.id 0xFFFF stands.no_end in
    let following : nat_lt 65535 (model.address + 1) ≡ false = le-ltb 65535 (model.address + 1) (omega (arith, stands.inside)) in
    let inside : nat_lt 65536 (model.address + 2 + model.length) ≡ false = le-ltb 65536 (model.address + 2 + model.length) stands.inside in
    rw (in_space, stands.id) (rw (other, room, following, stands.length) (rw inside refl))

pub some_same : {X : Type 0} (a b : X) (found : Option X) → found ≡ Some a → found ≡ Some b → a ≡ b
some_same a b found is_a is_b = cc

-- Two SunSpec models that begin at the same address end at the same address.
pub same_next : (word : Words) (first other : Model) → first.address ≡ other.address → Stands word first → Stands word other → next_after first ≡ next_after other
same_next word first other same stands other_stands =
    let length_too : word (first.address + 1) ≡ Some other.length = rw same other_stands.length in
    let lengths : first.length ≡ other.length = some_same first.length other.length (word (first.address + 1)) stands.length length_too in
    omega (arith, same, lengths)

-- If a fault is at the address after a list of consecutive models, then no list of consecutive
-- models from the same first address is longer.
pub longest_from : (word : Words) (from before : ℕ) (models others : List Model) (next other_next : ℕ) (fault : ChainFault) →
    Follow word from models next → Follow word from others other_next → before + length others ≤ 64 →
    first_lack word (before + length models) next ≡ Some fault → length others ≤ length models
longest_from word from before models [] next other_next fault follow other_follow few lack = omega arith
longest_from word from before [] (other ∷ others) next other_next fault follow other_follow few lack =
    let lacking : first_lack word before next ≡ Some fault = rw add-zero at lack in
    let at_next : other.address ≡ next = other_follow.0 ∙ follow in
    let nothing : first_lack word before next ≡ None = rw at_next at (no_lack word before other other_follow.1 (omega arith)) in
    cc
longest_from word from before (first ∷ models) (other ∷ others) next other_next fault follow other_follow few lack =
    let same : next_after first ≡ next_after other = same_next word first other (follow.0 ∙ sym other_follow.0) follow.1 other_follow.1 in
    let lacking : first_lack word (before + 1 + length models) next ≡ Some fault = rw (add-one, suc-add) (rw add-suc at lack) in
    let other_too : Follow word (next_after first) others other_next = rw (← same) at other_follow.2 in
    let rest : length others ≤ length models =
    longest_from word (next_after first) (before + 1) models others next other_next fault follow.2 other_too (omega arith) lacking in
    omega arith

-- The fault of a model that ends past the last address is never `NoMark`, the fault of a missing
-- `SunS` mark.
no_mark_no_end : (inside : Bool) → (if inside then Some PastEnd else None) ≡ Some NoMark → ⊥
no_mark_no_end true is = cc
no_mark_no_end false is = cc

no_mark_no_length : (address : ℕ) (found : Option ℕ) → length_lack address found ≡ Some NoMark → ⊥
no_mark_no_length address None is = cc
no_mark_no_length address (Some length) is = no_mark_no_end (nat_lt 65536 (address + 2 + length)) is

no_mark_no_id : (word : Words) (count address : ℕ) (found : Option ℕ) → id_lack word count address found ≡ Some NoMark → ⊥
no_mark_no_id word count address None is = cc
no_mark_no_id word count address (Some id) is = tests (id == 0xFFFF) (nat_le 64 count) (nat_lt 65535 (address + 1)) is
  where
    tests : (end many past : Bool) → (if end then None else if many then Some TooMany else if past then Some PastEnd else length_lack address (word (address + 1))) ≡ Some NoMark → ⊥
    tests true many past is = cc
    tests false true past is = cc
    tests false false true is = cc
    tests false false false is = no_mark_no_length address (word (address + 1)) is

no_mark_no_lack : (word : Words) (count address : ℕ) → first_lack word count address ≡ Some NoMark → ⊥
no_mark_no_lack word count address is = tests (nat_lt 65535 address) is
  where
    tests : (past : Bool) → (if past then Some PastEnd else id_lack word count address (word address)) ≡ Some NoMark → ⊥
    tests true is = cc
    tests false is = no_mark_no_id word count address (word address) is

pub lacks_by : (word : Words) (base : ℕ) (models : List Model) (next : ℕ) (fault : ChainFault) → IsLawful word base models next →
    first_lack word (length models) next ≡ Some fault → Lacks word fault
lacks_by word base models next fault lawful lack = record {
  base = base;
  models = models;
  next = next;
  lawful = lawful;
  longest = λ others other_next other_lawful.
      longest_from word (base + 2) 0 models others next other_next fault lawful.follow other_lawful.follow (rw zero-add other_lawful.few) (rw zero-add lack);
  lack = lack;
}

pub fails_by : (word : Words) (base : ℕ) (models : List Model) (next : ℕ) (fault : ChainFault) → IsLawful word base models next →
    first_lack word (length models) next ≡ Some fault → Fails word fault
fails_by word base models next NoMark lawful lack = absurd (no_mark_no_lack word (length models) next lack)
fails_by word base models next (Unreadable address) lawful lack = lacks_by word base models next (Unreadable address) lawful lack
fails_by word base models next PastEnd lawful lack = lacks_by word base models next PastEnd lawful lack
fails_by word base models next TooMany lawful lack = lacks_by word base models next TooMany lawful lack
fails_by word base models next Memory lawful lack = tt

pub fails_after : (word : Words) (base : ℕ) (models : List Model) (count next : ℕ) (fault : ChainFault) → IsLawful word base models next →
    count ≡ length models → first_lack word count next ≡ Some fault → Fails word fault
fails_after word base models count next fault lawful counted lack = fails_by word base models next fault lawful (rw counted at lack)

-- If a valid model follows a list of fewer than 64 models that satisfies `IsLawful`, then the list
-- with this model appended also satisfies `IsLawful`. `IsLawful` means: at most 64 models follow
-- the `SunS` mark without gaps.
pub lawful_more : (word : Words) (base : ℕ) (models : List Model) (next : ℕ) (model : Model) → IsLawful word base models next →
    model.address ≡ next → Stands word model → length models < 64 → IsLawful word base (models ++ model ∷ []) (next_after model)
lawful_more word base models next model lawful at_next stands few = record {
  marked = lawful.marked;
  follow = follow_more word (base + 2) models model (rw at_next lawful.follow) stands;
  few = rw length-append (omega arith);
}

-- Consecutive SunSpec models lie within the 65536 register addresses.
pub follow_inside : (word : Words) (from : ℕ) (models : List Model) (next : ℕ) → Follow word from models next → All (λ model. model.address + 2 + model.length ≤ 65536) models
follow_inside word from [] next follow = λ k d below. absurd (omega (arith, below))
follow_inside word from (model ∷ models) next follow =
    All-cons (λ model. model.address + 2 + model.length ≤ 65536) model models follow.1.inside (follow_inside word (next_after model) models next follow.2)
