-- Lemmas: listing the meters of an accounting register (a named energy counter) by the indices of
-- their installation records yields the state of each meter, in order.
use Rattle.std.proofs.Common.{◌≡◌, ℕ, ◌+◌, ◌<◌, List, [], ◌∷◌, ◌++◌, map, reverse, take, length, get_or, Option, Some, None, refl, sym, ap, ◌∙◌}
use Rattle.std.specs.List.{filter_map, cons_option}
use Rattle.std.specs.Option.{option_map, option_to_list}
use Rattle.std.proofs.lemmas.List.{map-append, take_more}
use Rattle.std.proofs.lemmas.List.Elements.{filter_map-append}
use Rattle.office_events.specs.declared.facts.Opening.{Opening}
use Rattle.office_events.specs.declared.facts.Fact.{Fact}
use Rattle.office_events.specs.declared.questions.Installation.{Installation}
use Rattle.office_books.specs.Lawful.{AreLawful}
use Rattle.office_books.specs.Meters.{installation_of, meter_of}
use Rattle.office_books.proofs.Journals.{found}
use Rattle.memory_books.specs.Tables.Lookups.{opening_at}
use Rattle.memory_books.proofs.TablesLemmas.Joined.{recorded_at}

module _ (known facts : List Fact) where
  abbrev there : List ℕ → List Installation
  there places = map (installation_of known) (filter_map (opening_at facts) places)

  one : (o : Option Opening) → map (installation_of known) (cons_option o []) ≡ option_to_list (option_map (installation_of known) o)
  one None = refl
  one (Some o) = refl

  one_there : (places : List ℕ) (i d : ℕ) (row : Option Installation) → i < length places → row ≡ option_map (installation_of known) (opening_at facts (get_or places i d))
      → there (take (i + 1) places) ≡ there (take i places) ++ option_to_list row
  one_there places i d row lt is =
      ap there (take_more places i d lt)
      ∙ ap (map (installation_of known)) (filter_map-append (opening_at facts) (take i places) (get_or places i d ∷ []))
      ∙ map-append (installation_of known) (filter_map (opening_at facts) (take i places)) (filter_map (opening_at facts) (get_or places i d ∷ []))
      ∙ ap (λ (rows : List Installation). there (take i places) ++ rows) (one (opening_at facts (get_or places i d)))
      ∙ ap (λ (o : Option Installation). there (take i places) ++ option_to_list o) (sym is)

  pub rows_more : (places : List ℕ) (i d : ℕ) (row : Option Installation) (rows more : List Installation) → i < length places
      → rows ≡ map (installation_of known) (filter_map (opening_at facts) (take i places)) → row ≡ option_map (installation_of known) (opening_at facts (get_or places i d))
      → more ≡ rows ++ option_to_list row
      → more ≡ map (installation_of known) (filter_map (opening_at facts) (take (i + 1) places))
  rows_more places i d row rows more lt so_far is came =
      came ∙ ap (λ (before : List Installation). before ++ option_to_list row) so_far ∙ sym (one_there places i d row lt is)

  -- If the record at an index installed a meter, then lookups by the meter's name and by this index
  -- return the same state.
  pub meter_there : AreLawful known → facts ≡ reverse known → (place : ℕ) (o : Opening) → opening_at facts place ≡ Some o
      → meter_of known o.meter ≡ option_map (installation_of known) (opening_at facts place)
  meter_there lawful is place o there_is =
      ap (option_map (installation_of known)) (found known o lawful (recorded_at known facts place o is there_is) ∙ sym there_is)
