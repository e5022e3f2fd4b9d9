-- Examples of the limits of chains of SunSpec models: the last valid and the first invalid value of
-- each limit.
use Rattle.std.proofs.Common.{◌≡◌, ℕ, List, [], ◌∷◌, Some, None, refl}
use Rattle.sun_chain.specs.Chain.{base_in}
use Rattle.sun_chain.specs.Common.{device_address_in}
use Rattle.sun_chain.specs.Image.{Words, add_words, words_in}
use Rattle.sun_chain.specs.Points.{registers_in}
use Rattle.sun_chain.specs.Walk.{end_lack, first_lack}
use Rattle.sun_chain.specs.declared.model.Model.{Model}
use Rattle.sun_chain.specs.declared.fault.ChainFault.TheVariants.{PastEnd, TooMany, Unreadable}

-- A memory image (the words read from a device) with the same word at every address.
abbrev everywhere : ℕ → Words
everywhere word address = Some word

-- A chain of SunSpec models may have 64 models, and a 65th model is a fault.

room_for_a_64th : first_lack (everywhere 66) 63 40002 ≡ None
room_for_a_64th = refl

no_room_for_a_65th : first_lack (everywhere 66) 64 40002 ≡ Some TooMany
no_room_for_a_65th = refl

an_end_after_64 : first_lack (everywhere 0xFFFF) 64 40002 ≡ None
an_end_after_64 = refl

-- A chain of SunSpec models may end at address 65535 and not after it.

an_end_at_the_last_address : first_lack (everywhere 0xFFFF) 0 65535 ≡ None
an_end_at_the_last_address = refl

an_end_after_the_last_address : first_lack (everywhere 0xFFFF) 0 65536 ≡ Some PastEnd
an_end_after_the_last_address = refl

a_model_without_room_for_its_length : first_lack (everywhere 1) 0 65535 ≡ Some PastEnd
a_model_without_room_for_its_length = refl

a_model_to_the_last_address : end_lack 65532 2 ≡ None
a_model_to_the_last_address = refl

a_model_past_the_last_address : end_lack 65532 3 ≡ Some PastEnd
a_model_past_the_last_address = refl

a_word_not_read : first_lack (λ address. None) 0 40002 ≡ Some (Unreadable 40002)
a_word_not_read = refl

-- The words of the `SunS` mark, with examples of the base address that a search for the mark finds.

abbrev mark : List ℕ
mark = 0x5375 ∷ 0x6E53 ∷ []

nowhere : base_in (λ address. None) ≡ None
nowhere = refl

at_zero : base_in (add_words (λ address. None) 0 mark) ≡ Some 0
at_zero = refl

at_50000_before_zero : base_in (add_words (add_words (λ address. None) 0 mark) 50000 mark) ≡ Some 50000
at_50000_before_zero = refl

not_at_40001 : base_in (add_words (λ address. None) 40001 mark) ≡ None
not_at_40001 = refl

-- A common model (model 1) with 65 or 66 registers has a device address. A common model with 64
-- registers has no device address.

abbrev model_of_length : ℕ → Model
model_of_length length = record { address = 40002; id = 1; length = length }

of_66 : device_address_in (everywhere 5) (model_of_length 66) ≡ Some 5
unfolding words_in
of_66 = refl

of_65 : device_address_in (everywhere 5) (model_of_length 65) ≡ Some 5
unfolding words_in
of_65 = refl

of_64 : device_address_in (everywhere 5) (model_of_length 64) ≡ None
of_64 = refl

-- A common model (model 1) with 66 registers has a register at offset 67. A common model with 65
-- registers has no such register.
pad_of_66 : registers_in (everywhere 5) (model_of_length 66) 67 1 ≡ Some (5 ∷ [])
unfolding words_in
pad_of_66 = refl

no_pad_of_65 : registers_in (everywhere 5) (model_of_length 65) 67 1 ≡ None
no_pad_of_65 = refl
