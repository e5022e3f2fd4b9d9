-- Proves that each error of the argument parser `clap` is converted to a fault that the contract
-- `IsFaultOf` of the argument parsing allows.
use Rattle.std.proofs.Common.{◌≡◌, ◌≢◌, ◌∙◌, ◌⊎◌, inl, inr, List, [], ◌∷◌, rules, sym, subst}
use Rattle.std.specs.Borrow.{Bor}
use Rattle.clap.specs.Words.{IsAmong, Kinds, Text}
use Rattle.clap.specs.declared.error.kind.ErrorKind.{ErrorKind}
use Rattle.clap.specs.declared.error.kind.ErrorKind.TheVariants.{DisplayHelp, DisplayVersion, OutOfMemory}
use Rattle.command_words.specs.ClapTable.Table.{texts}
use Rattle.command_words.specs.Faults.{IsRefusal}
use Rattle.command_words.specs.Words.{HasFault, IsFault, IsFaultOf, errors_of}
use Rattle.command_words.specs.declared.faults.WordsFault.{WordsFault}
use Rattle.command_words.specs.declared.faults.WordsFault.TheVariants.{Wrong, Help, Version, Memory}

fault_among : (kind : ErrorKind) (kinds : Kinds) → IsAmong kind kinds → IsFault kind → HasFault kinds
fault_among kind [] among other = absurd among
fault_among kind (k ∷ ks) (inl is) other = inl (subst IsFault is other)
fault_among kind (k ∷ ks) (inr later) other = inr (fault_among kind ks later other)

memory_is_no_help : OutOfMemory ≢ DisplayHelp
memory_is_no_help e = absurd (search rules)

memory_is_no_version : OutOfMemory ≢ DisplayVersion
memory_is_no_version e = absurd (search rules)

pub refusal_due : (words : List (Bor Text)) (kind : ErrorKind) (fault : WordsFault) → (kind ≡ OutOfMemory) ⊎ IsAmong kind (errors_of (texts words)) → IsRefusal kind fault → IsFaultOf words fault
refusal_due words kind (Wrong text) (inl memory) refused = absurd (refused.2 memory)
refusal_due words kind (Wrong text) (inr among) refused =
    inl (fault_among kind (errors_of (texts words)) among (refused.0, refused.1))
refusal_due words kind (Help text) (inl memory) help = absurd (memory_is_no_help (sym memory ∙ help))
refusal_due words kind (Help text) (inr among) help = subst (λ k. IsAmong k (errors_of (texts words))) help among
refusal_due words kind Version (inl memory) version = absurd (memory_is_no_version (sym memory ∙ version))
refusal_due words kind Version (inr among) version = subst (λ k. IsAmong k (errors_of (texts words))) version among
refusal_due words kind Memory reported refused = tt
