-- Lemmas on merging the reports on several successive database files into one report.
use Rattle.std.proofs.Common.{◌≡◌, ℕ, List, [], Result, Ok, Err, IfOk, Option, Some, None, refl, sym, subst, ◌∙◌}
use Rattle.std.specs.Prelude.{◌≢◌, IfErr, string_bytes}
use Rattle.sqlite.specs.Store.{Ghosts}
use Rattle.sqlite.specs.Held.{Held, state}
use Rattle.sqlite.specs.State.{HasCleanDisk}
use Rattle.interval_core.specs.declared.day_range.DayRange.{DayRange}
use Rattle.office_events.specs.declared.facts.Fact.{Fact}
use Rattle.office_store.specs.Database.{HoldsAlone}
use Rattle.office_store.specs.declared.books.SqlBooks.{SqlBooks}
use Rattle.stored_files.specs.BooksFound.{ledger_beneath}
use Rattle.carried_books.specs.declared.joining.keeping.Keeping as keepings
use Rattle.stored_files.specs.Joins.Stored.{AreBefore, IsElsewhere, IsOfZone, JoinsBooks, JoinsFile, JoinsNext, JoinsOffice, JoinsOne, PartsBooks, PartsFrom, RefusesIn, RefusesOffice}
use Rattle.stored_files.specs.declared.joins.stored.JoinFault.{JoinFault}
use Rattle.stored_files.specs.declared.joins.stored.JoinFault.TheVariants as fault
use Rattle.stored_files.specs.declared.joins.stored.JoinedOffice.{JoinedOffice}

module _ {K : Type 0} (k : keepings.Ghosts K) (range : DayRange) (register : List ℕ) (facts : List Fact) where
  -- Adding a file to the data of a merged report (one report on several database files) satisfies
  -- `JoinsNext`, the contract of this step. The report may be empty, or cover earlier files.
  pub next_joins : (zone : List ℕ) (before : Option (JoinedOffice K)) (kept : K) (new : JoinedOffice K)
      → AreBefore k zone range before kept → JoinsOne k range register facts kept new.kept → JoinsNext k zone range register facts before new
  next_joins zone None kept new are joins = (are.0, are.1, joins are.0 [] (are.2 register))
  next_joins zone (Some before) kept new are joins = λ its files has.
      joins its files (subst (λ (those : K). k.keeps its range register files those) (sym are) has)

  module _ {S : Type 0} (g : Ghosts S) where
    -- A merged report (one report on several database files) to which a store's data were added has
    -- the data of the database file from which the store was opened.
    pub joins_file : (old : Held S) (its : List ℕ) (kept : K) (books : SqlBooks S g) (result : Result K JoinFault)
        → (HasCleanDisk (state g books.connection) → HasCleanDisk (state g old)) → HoldsAlone g its books.connection facts
        → IfOk result (JoinsBooks k (ledger_beneath g) books range register kept) → IfOk result (JoinsFile k g old range register facts kept)
    joins_file old its kept books (Ok new) clean holds it = record {
      asked = it.asked;
      clean = λ asked. clean (it.clean asked);
      joins = it.joins facts (record { zone = its; holds = holds.holds });
    }
    joins_file old its kept books (Err why) clean holds it = tt

    pub parts_from : (old : Held S) (its : List ℕ) (kept : K) (books : SqlBooks S g) (result : Result K JoinFault)
        → (HasCleanDisk (state g books.connection) → HasCleanDisk (state g old)) → HoldsAlone g its books.connection facts
        → IfErr result (λ why. why ≢ fault.OtherZone)
        → IfErr result (PartsBooks k (ledger_beneath g) books range register kept) → IfErr result (PartsFrom k g old range register facts kept)
    parts_from old its kept books (Ok new) clean holds same it = tt
    parts_from old its kept books (Err (fault.Unopened why)) clean holds same it = tt
    parts_from old its kept books (Err fault.OtherZone) clean holds same it = absurd (same refl)
    parts_from old its kept books (Err (fault.Books why)) clean holds same it = tt
    parts_from old its kept books (Err (fault.Unjoined why)) clean holds same it = record {
      asked = it.asked;
      clean = λ asked. clean (it.clean asked);
      parts = it.parts facts (record { zone = its; holds = holds.holds });
    }

    -- Suppose that a file has the time zone of the earlier files, and its records were added to
    -- their merged report. Then the contract for adding a file is satisfied.
    pub joins_in : (old : Held S) (zone : List ℕ) (before : Option (JoinedOffice K)) (kept : K) (new : JoinedOffice K)
        → AreBefore k zone range before kept → IsOfZone zone before → string_bytes new.zone ≡ zone
        → JoinsFile k g old range register facts kept new.kept → JoinsOffice k g old zone range register facts before new
    joins_in old zone before kept new are same reported it = record {
      asked = it.asked;
      clean = it.clean;
      reported = λ clean. reported;
      same = λ clean. same;
      joins = λ clean. next_joins zone before kept new are (it.joins clean);
    }

    pub refuses_in : (old : Held S) (zone : List ℕ) (before : Option (JoinedOffice K)) (kept : K) (why : JoinFault)
        → AreBefore k zone range before kept → PartsFrom k g old range register facts kept why → RefusesIn k g old zone range register facts before why
    refuses_in old zone before kept (fault.Unopened why) are it = tt
    refuses_in old zone before kept fault.OtherZone are it = it
    refuses_in old zone before kept (fault.Books why) are it = tt
    refuses_in old zone before kept (fault.Unjoined why) are it = record {
      asked = it.asked;
      clean = it.clean;
      kept = kept;
      are = λ clean. are;
      parts = it.parts;
    }

    -- Lemmas: reading the time zone of a database file, and then adding the file to a merged
    -- report, together satisfy the contract of adding a file. This holds whether the file is added
    -- or refused.

    module _ (old mid : Held S) (reported zone : List ℕ) (before : Option (JoinedOffice K)) (cleans : HasCleanDisk (state g mid) → HasCleanDisk (state g old))
        (is : HasCleanDisk (state g mid) → reported ≡ zone) where
      pub joins_office : (result : Result (JoinedOffice K) JoinFault) → IfOk result (JoinsOffice k g mid reported range register facts before)
          → IfOk result (JoinsOffice k g old zone range register facts before)
      joins_office (Ok new) it = record {
        asked = it.asked;
        clean = λ clean. cleans (it.clean clean);
        reported = λ clean. it.reported clean ∙ is (it.clean clean);
        same = λ clean. subst (λ (those : List ℕ). IsOfZone those before) (is (it.clean clean)) (it.same clean);
        joins = λ clean. subst (λ (those : List ℕ). JoinsNext k those range register facts before new) (is (it.clean clean)) (it.joins clean);
      }
      joins_office (Err why) it = tt

      pub refuses_office : (result : Result (JoinedOffice K) JoinFault) → IfErr result (RefusesIn k g mid reported range register facts before)
          → IfErr result (RefusesOffice k g old zone range register facts before)
      refuses_office (Ok new) it = tt
      refuses_office (Err (fault.Unopened why)) it = tt
      refuses_office (Err fault.OtherZone) it = absurd it
      refuses_office (Err (fault.Books why)) it = tt
      refuses_office (Err (fault.Unjoined why)) it = record {
        asked = it.asked;
        clean = λ clean. cleans (it.clean clean);
        kept = it.kept;
        are = λ clean. subst (λ (those : List ℕ). AreBefore k those range before it.kept) (is (it.clean clean)) (it.are clean);
        parts = it.parts;
      }

      pub elsewhere : (IsOfZone reported before → ⊥) → IsElsewhere k g zone before
      elsewhere other = record {
        left = mid;
        other = λ clean same. other (subst (λ (those : List ℕ). IsOfZone those before) (sym (is clean)) same);
      }
