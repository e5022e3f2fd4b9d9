-- Lemmas: if earlier database files join (have one history of each meter) and the next file
-- continues this history, then all files join.
use Rattle.std.proofs.Common.{◌≡◌, ℕ, Bool, true, false, not, ◌&&◌, ◌||◌, Option, List, [], ◌∷◌, ◌++◌, Some, None, refl, sym, subst, ◌∙◌}
use Rattle.interval_core.specs.Fold.{HasTaken}
use Rattle.interval_core.specs.declared.shares.Share.{Share}
use Rattle.interval_core.specs.declared.zone.Zone.{Zone}
use Rattle.office_events.specs.declared.facts.Fact.{Fact}
use Rattle.office_events.specs.declared.questions.Installation.{Installation}
use Rattle.office_books.specs.Intervals.{rows_of_register}
use Rattle.office_books.specs.declared.spans.Span.{Span}
use Rattle.office_books.specs.Entries.{installations_of}
use Rattle.office_books.specs.Spans.{rows_within}
use Rattle.office_books.proofs.Handing.{takes_both}
use Rattle.carried_books.specs.Joining.Days.{AddUp, HasNumber}
use Rattle.carried_books.specs.Joining.Files.{AddDays, AddsRows, AllJoin, HasJoined, Joins, JoinsFile, is_recorded, is_recorded_in, meters_over, rows_over_within}
use Rattle.carried_books.specs.Joining.Meters.{AddMeters, AddsMeter, AreApart}
use Rattle.carried_books.specs.declared.joining.files.JoinedFiles.{JoinedFiles}
use Rattle.carried_books.specs.declared.joining.files.Unjoined.{Unjoined}
use Rattle.carried_books.specs.declared.joining.files.Unjoined.TheVariants as unjoined
use Rattle.carried_books.specs.declared.joining.days.JoinedDays.{JoinedDays}
use Rattle.carried_books.proofs.JoiningLemmas.Days.{add_all, first_has, same_zone}

-- Suppose that the next file records a register (a named counter) if an earlier file does. Then the
-- next file records the register if and only if at least one file, including the next one, does.

pub is_in_both : (here before : Bool) → (before ≡ true → here ≡ true) → here ≡ (here || before)
is_in_both true before stays = refl
is_in_both false true stays = stays refl
is_in_both false false stays = refl

pub is_kept : (was is there : Bool) → (was && not is) ≡ false → is ≡ there → was ≡ true → there ≡ true
is_kept true true there test same so = sym same
is_kept true false there test same so = absurd (cc test)
is_kept false is there test same so = absurd (cc so)

pub is_lost : (was is there : Bool) → (was && not is) ≡ true → is ≡ there → (was ≡ true) × (there ≡ false)
is_lost true true there test same = absurd (cc test)
is_lost true false there test same = (refl, sym same)
is_lost false is there test same = absurd (cc test)

pub joins_with : (span : Span) (register : List ℕ) (facts : List Fact) (old mid new : JoinedFiles) (is : Bool) (why : Option Unjoined)
    → (old.is_recorded && not is) ≡ false → is ≡ is_recorded register facts
    → mid.is_recorded ≡ is → mid.meters.items ≡ old.meters.items → mid.days ≡ old.days
    → AddsRows span register facts mid new why → Joins span register facts old new why
joins_with span register facts old mid new is None test same put meters days adds = record {
  recorded = adds.recorded ∙ put ∙ same;
  stays = is_kept old.is_recorded is (is_recorded register facts) test same;
  meters = subst (λ (known : List Installation). AddMeters known (installations_of facts register) new.meters.items) meters adds.meters;
  days = subst (λ (sink : JoinedDays). AddDays (rows_within span (rows_of_register facts register)) sink new.days None) days adds.days;
}
joins_with span register facts old mid new is (Some unjoined.NotRecorded) test same put meters days adds = absurd adds
joins_with span register facts old mid new is (Some (unjoined.Apart apart)) test same put meters days adds =
    subst (λ (known : List Installation). AreApart known (installations_of facts register) apart) meters adds
joins_with span register facts old mid new is (Some unjoined.OutOfTurn) test same put meters days adds = record {
  days = adds.days;
  added = subst (λ (sink : JoinedDays). AddDays (rows_within span (rows_of_register facts register)) sink adds.days (Some unjoined.OutOfTurn)) days adds.added;
}

pub adds_rows : (span : Span) (register : List ℕ) (facts : List Fact) (old new : JoinedFiles) (why : Option Unjoined)
    → new.is_recorded ≡ old.is_recorded → AddMeters old.meters.items (installations_of facts register) new.meters.items
    → AddDays (rows_within span (rows_of_register facts register)) old.days new.days why → AddsRows span register facts old new why
adds_rows span register facts old new None same meters days = record { recorded = same; meters = meters; days = days }
adds_rows span register facts old new (Some unjoined.NotRecorded) same meters days = absurd days
adds_rows span register facts old new (Some (unjoined.Apart apart)) same meters days = absurd days
adds_rows span register facts old new (Some unjoined.OutOfTurn) same meters days = record { days = new.days; added = days }

module _ (zone : Zone) (span : Span) (register : List ℕ) (facts : List Fact) (files : List (List Fact)) (old new : JoinedFiles) where
  abbrev before : List Share
  before = rows_over_within span register files

  abbrev more : List Share
  more = rows_within span (rows_of_register facts register)

  stays_so : HasJoined zone span register files old → JoinsFile span register facts old new
      → is_recorded_in register files ≡ true → is_recorded register facts ≡ true
  stays_so has joins is = joins.stays (has.recorded ∙ is)

  days_so : HasJoined zone span register files old → JoinsFile span register facts old new → HasNumber (before ++ more)
      → (new.days.zone ≡ zone) × HasTaken zone (before ++ more) new.days.fold
  days_so has joins fits =
      let taken = has.days (first_has before more fits) in
      let had = subst (λ f. AddUp f zone before old.days.fold) (sym has.works) taken in
      let all = add_all zone before more old.days new.days has.zone_is fits had joins.days.0 in
      (all.0, subst (λ f. AddUp f zone (before ++ more) new.days.fold) joins.days.1 all.1)

  join_one_more : HasJoined zone span register files old → JoinsFile span register facts old new
      → HasJoined zone span register (facts ∷ files) new
  join_one_more has joins = record {
    recorded = joins.recorded ∙ is_in_both (is_recorded register facts) (is_recorded_in register files) (stays_so has joins);
    meters = record {
      recorded = (stays_so has joins, has.meters.recorded);
      joined = takes_both AddsMeter [] old.meters.items new.meters.items (meters_over register files) (installations_of facts register)
          has.meters.joined joins.meters;
    };
    zone_is = same_zone more old.days new.days joins.days.0 ∙ has.zone_is;
    works = joins.days.1;
    days = λ fits. (days_so has joins fits).1;
  }

pub all_join : (span : Span) (register : List ℕ) (facts : List Fact) (old new : JoinedFiles) (why : Option Unjoined)
    → Joins span register facts old new why → AllJoin span register facts old new why
all_join span register facts old new None joins = λ zone files has. join_one_more zone span register facts files old new has joins
all_join span register facts old new (Some why) joins = tt
