-- Worked examples of lookup results that a cache cannot have if each cached result follows from the
-- store's records.
use Rattle.std.proofs.Common.{◌≡◌, ◌≢◌, ℕ, List, Some, None, sym, ◌∙◌}
use Rattle.office_events.specs.declared.facts.Fact.{Fact}
use Rattle.office_events.specs.declared.questions.Installation.{Installation}
use Rattle.read_plan.specs.PlannedLists.{Planned}
use Rattle.office_books.specs.Facts.{list_of}
use Rattle.office_books.specs.Meters.{installation_of}
use Rattle.memory_books.specs.declared.kept.known.Known.{Known}
use Rattle.memory_books.specs.Kept.Answers.{answer_to}
use Rattle.memory_books.specs.Kept.Known.{AreTrue}
use Rattle.memory_books.proofs.KeptLemmas.Answering.{none_and_some, some_one}

-- If a device has no recorded point list, then a cache with a point list of this device disagrees
-- with the records.
no_list : (kept : Known) (facts : List Fact) (device : List ℕ) (list : Planned) → list_of facts device ≡ None
    → answer_to kept.lists device ≡ Some list → AreTrue kept facts → ⊥
no_list kept facts device list none there are = none_and_some (list_of facts device) list none (are.lists device list there)

-- If a device has a later, different point list, then a cache with the earlier point list disagrees
-- with the records.
other_list : (kept : Known) (facts : List Fact) (device : List ℕ) (list later : Planned) → later ≢ list → list_of facts device ≡ Some later
    → answer_to kept.lists device ≡ Some list → AreTrue kept facts → ⊥
other_list kept facts device list later apart is there are = apart (some_one later list (sym is ∙ are.lists device list there))

-- If a later entry changed the state of a meter, then a cache with the earlier state of the meter
-- disagrees with the records.
earlier : (kept : Known) (facts : List Fact) (meter : List ℕ) (row : Installation) → row ≢ installation_of facts row.opening
    → answer_to kept.standing meter ≡ Some row → AreTrue kept facts → ⊥
earlier kept facts meter row apart there are = apart (are.standing meter row there).stands
