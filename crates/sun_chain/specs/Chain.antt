-- Defines the chain of SunSpec models in the words that were read from a device.
use Rattle.std.specs.Prelude.{◌≡◌, ◌≢◌, ℕ, ◌+◌, ◌≤◌, ◌<◌, Bool, false, ◌&&◌, ◌==◌, List, [], ◌∷◌, length, Some, option_map, unwrap_or, find, MatchOption}
use Rattle.std.specs.declared.option.Option.{Option}
use Rattle.sun_chain.specs.Image.{Words, word_in}
use Rattle.sun_chain.specs.declared.chain.Chain.{Chain}
use Rattle.sun_chain.specs.declared.model.Model.{Model}

-- True if the word at an address was read and equals the given value.
abbrev pub is_word : Option ℕ → ℕ → Bool
is_word found value = unwrap_or (option_map (λ word. word == value) found) false

-- True if the two words from the address on are the `SunS` mark: `Su` and `nS`.
abbrev pub is_marked : Words → ℕ → Bool
is_marked word address = is_word (word address) 0x5375 && is_word (word (address + 1)) 0x6E53

-- The first of the base addresses 40000, 50000 and 0 that has the `SunS` mark, or `None`.
abbrev pub base_in : Words → Option ℕ
base_in word = find (is_marked word) (40000 ∷ 50000 ∷ 0 ∷ [])

-- True if the words contain the given model at its address: its ID (not 0xFFFF), then its length.
-- All of the model's registers must have addresses below 65536.
pub record Stands (word : Words) (model : Model) : Type 0 where
  pub id : word model.address ≡ Some model.id
  pub no_end : model.id ≢ 0xFFFF
  pub length : word (model.address + 1) ≡ Some model.length
  pub inside : model.address + 2 + model.length ≤ 65536

-- The address after the last register of a SunSpec model.
abbrev pub next_after : Model → ℕ
next_after model = model.address + 2 + model.length

-- True if the models lie one after another without gaps. The first model is at the first given
-- address, and the second given address follows the last model.
abbrev pub Follow : Words → ℕ → List Model → ℕ → Type 0
Follow word from [] next = from ≡ next
Follow word from (model ∷ models) next =
    (model.address ≡ from) × Stands word model × Follow word (next_after model) models next

-- States which model begins at the address after `count` earlier models: the given model, or none
-- (`None`) because the chain ends there.
abbrev pub IsNext : Words → (count address : ℕ) → Option Model → Type 0
IsNext word count address found =
    MatchOption found ((word address ≡ Some 0xFFFF) × (address ≤ 65535))
    (λ model. (model.address ≡ address) × Stands word model × (count < 64))

-- True if there are at most 64 models, and they follow the `SunS` mark at `base` without gaps.
-- `next` is the address after the last model.
pub record IsLawful (word : Words) (base : ℕ) (models : List Model) (next : ℕ) : Type 0 where
  pub marked : base_in word ≡ Some base
  pub follow : Follow word (base + 2) models next
  pub few : length models ≤ 64

-- A complete chain of SunSpec models: the models after the `SunS` mark at `base`, and the address
-- `end` of the ID 0xFFFF after them.
pub record IsChain (word : Words) (base : ℕ) (models : List Model) (end : ℕ) : Type 0 where
  pub lawful : IsLawful word base models end
  pub ends : word end ≡ Some 0xFFFF
  pub inside : end ≤ 65535

-- The words (read from a device) in which the chain of models was found.
abbrev pub words_of : Chain → Words
words_of chain = word_in chain.image.now

-- The address of the `SunS` mark of a chain of SunSpec models.
abbrev pub base_of : Chain → ℕ
base_of chain = chain.base

-- The models of a device's SunSpec model chain, in order of address.
abbrev pub models_of : Chain → List Model
models_of chain = chain.models.items

-- The address of the ID 0xFFFF that ends the chain of models.
abbrev pub end_of : Chain → ℕ
end_of chain = chain.end
