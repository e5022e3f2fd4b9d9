-- Lemmas on an accounting register (a named counter) that lawful database files do not record. Such
-- files have no meter and no energy interval of this register. Lawful means that the rules for
-- records accept each record of a file after the earlier ones.
use Rattle.std.proofs.Common.{◌≡◌, ℕ, Bool, false, Option, Some, None, List, [], ◌∷◌, ◌++◌, map, reverse, refl, sym, ap, subst, ◌∙◌}
use Rattle.std.specs.Prelude.{All}
use Rattle.std.specs.List.{filter, find, flat_map}
use Rattle.std.proofs.lemmas.Bool.{cond-false, false≢true, or_parts}
use Rattle.std.proofs.lemmas.List.Elements.{All-head, All-tail}
use Rattle.interval_core.specs.Fold.{HasTaken}
use Rattle.interval_core.specs.declared.shares.Share.{Share}
use Rattle.interval_core.specs.declared.zone.Zone.{Zone}
use Rattle.office_events.specs.declared.facts.Fact.{Fact}
use Rattle.office_events.specs.declared.facts.Opening.{Opening}
use Rattle.office_events.specs.declared.questions.Installation.{Installation}
use Rattle.office_books.specs.Entries.{installations_of}
use Rattle.office_books.specs.Facts.{installed_at, openings_in, same}
use Rattle.office_books.specs.Intervals.{installations_at, rows_of_opening, rows_of_register}
use Rattle.office_books.specs.Lawful.{AreLawful}
use Rattle.office_books.specs.Meters.{installation_of}
use Rattle.office_books.specs.declared.spans.Span.TheVariants as span
use Rattle.office_books.proofs.LawfulExchange.{register_known}
use Rattle.office_books.proofs.Lookups.{find_none}
use Rattle.carried_books.specs.Joining.Days.{HasNumber}
use Rattle.carried_books.specs.Joining.Files.{HasJoined, StaysRecorded, is_recorded, is_recorded_in, meters_over, rows_over_within}
use Rattle.carried_books.specs.Joining.Meters.{AddMeters}
use Rattle.carried_books.specs.declared.joining.files.JoinedFiles.{JoinedFiles}

filter_none : {X : Type 0} (p : X → Bool) (xs : List X) → find p xs ≡ None → filter p xs ≡ []
filter_none p [] none = refl
filter_none p (x ∷ xs) none =
    let parts = find_none p x xs none in
    cond-false _ _ _ parts.0 ∙ filter_none p xs parts.1

installed_nowhere : (facts : List Fact) (register : List ℕ) (found : Option Opening) → AreLawful facts → is_recorded register facts ≡ false
    → installed_at facts register ≡ found → installed_at facts register ≡ None
installed_nowhere facts register None lawful isnt is = is
installed_nowhere facts register (Some opening) lawful isnt is = absurd (false≢true (sym isnt ∙ register_known facts register opening lawful is))

module _ (facts : List Fact) (register : List ℕ) (lawful : AreLawful facts) (isnt : is_recorded register facts ≡ false) where
  no_openings : installations_at facts register ≡ []
  no_openings = ap reverse (filter_none (λ (opening : Opening). same opening.register register) (openings_in facts) (installed_nowhere facts register _ lawful isnt refl))

  no_rows : rows_of_register facts register ≡ []
  no_rows = ap (flat_map (rows_of_opening facts)) no_openings

  no_meters : installations_of facts register ≡ []
  no_meters = ap (map (installation_of facts)) no_openings

module _ (register : List ℕ) where
  no_meters_over : (files : List (List Fact)) → All AreLawful files → is_recorded_in register files ≡ false → meters_over register files ≡ []
  no_meters_over [] lawful isnt = refl
  no_meters_over (facts ∷ files) lawful isnt =
      let parts = or_parts (is_recorded register facts) (is_recorded_in register files) isnt in
      ap (λ (rows : List Installation). rows ++ installations_of facts register) (no_meters_over files (All-tail AreLawful facts files lawful) parts.1)
      ∙ no_meters facts register (All-head AreLawful facts files lawful) parts.0

  no_rows_over : (files : List (List Fact)) → All AreLawful files → is_recorded_in register files ≡ false → rows_over_within span.All register files ≡ []
  no_rows_over [] lawful isnt = refl
  no_rows_over (facts ∷ files) lawful isnt =
      let parts = or_parts (is_recorded register facts) (is_recorded_in register files) isnt in
      ap (λ (rows : List Share). rows ++ rows_of_register facts register) (no_rows_over files (All-tail AreLawful facts files lawful) parts.1)
      ∙ no_rows facts register (All-head AreLawful facts files lawful) parts.0

  stays_unrecorded : (files : List (List Fact)) → is_recorded_in register files ≡ false → StaysRecorded register files
  stays_unrecorded [] isnt = tt
  stays_unrecorded (facts ∷ files) isnt =
      let parts = or_parts (is_recorded register facts) (is_recorded_in register files) isnt in
      (λ is. absurd (false≢true (sym parts.1 ∙ is)), stays_unrecorded files parts.1)

  -- If database files do not record an accounting register (a named counter), then they have the
  -- same data of this register as an empty list of files.
  pub has_unrecorded : (zone : Zone) (files : List (List Fact)) (kept : JoinedFiles) → All AreLawful files → is_recorded_in register files ≡ false
      → HasJoined zone span.All register [] kept → HasJoined zone span.All register files kept
  has_unrecorded zone files kept lawful isnt has = record {
    recorded = has.recorded ∙ sym isnt;
    meters = record {
      recorded = stays_unrecorded files isnt;
      joined = subst (λ (rows : List Installation). AddMeters [] rows kept.meters.items) (sym (no_meters_over files lawful isnt)) has.meters.joined;
    };
    zone_is = has.zone_is;
    works = has.works;
    days = subst (λ (rows : List Share). HasNumber rows → HasTaken zone rows kept.days.fold) (sym (no_rows_over files lawful isnt)) has.days;
  }
