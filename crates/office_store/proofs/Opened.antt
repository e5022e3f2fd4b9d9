-- Proofs that a store has no records after it was created, and the records of its database file
-- after it was opened.
use Rattle.std.proofs.Common.{◌≡◌, inl, inr, ℕ, Bool, true, false, List, [], refl, Result, Ok, Err, IsTrue}
use Rattle.sqlite.specs.Store.{Ghosts}
use Rattle.sqlite.specs.Tree.{Trees}
use Rattle.sqlite.specs.Held.{Held, state}
use Rattle.sqlite.specs.State.{HasCleanDisk}
use Rattle.office_events.specs.declared.facts.Fact.{Fact}
use Rattle.store_tables.specs.Content.{Content}
use Rattle.store_tables.specs.Steps.{TransactsTo}
use Rattle.store_tables.specs.declared.layouts.Layout.{Layout}
use Rattle.store_tables.specs.Layouts.{no_schema}
use Rattle.store_tables.specs.NewFile.{Makes}
use Rattle.store_tables.specs.Upgrade.{IsFile, OpensFile}
use Rattle.office_store.specs.Holding.{HasFacts, HoldsFacts, LeavesFacts}
use Rattle.office_store.specs.Laws.Files.{HasFactsIn, NewFilesHaveNone, OpenedFilesKeepTheirs}
use Rattle.office_store.specs.Database.{HasFile, HoldsAlone, KeepsFile}

-- True if a crash while the database connection is open leaves the content of the last commit.
abbrev pub Settles : {S : Type 0} → Ghosts S → Held S → Type 0
Settles g h = (trees : Trees) → IsTrue (state g h).is_open → (state g h).may_leave trees → trees ≡ (state g h).committed.trees

-- If the committed tables of an open database connection encode some records, and a crash leaves
-- the last commit, then the contract `HoldsAlone` is satisfied. By the contract, if reads of the
-- file return the written bytes, the committed tables encode these records, and a crash leaves
-- tables that encode them.
alone : {S : Type 0} (g : Ghosts S) (zone : List ℕ) (h : Held S) (facts : List Fact) → Settles g h
    → (HasCleanDisk (state g h) → IsTrue (state g h).is_open × HasFacts zone facts (state g h).committed) → HoldsAlone g zone h facts
unfolding HoldsFacts LeavesFacts
alone g zone h facts settles shows = record {
  holds = λ clean still. (shows clean).1;
  leaves = λ clean trees may.
      let it = shows clean in
      record { facts = facts; one = inl refl; db = (state g h).committed; has = it.1; same = settles trees it.0 may };
}

-- A store that was just created has no records, and after a crash it still has none.

pub holds_none : {S X E : Type 0} → NewFilesHaveNone → (g : Ghosts S) (zone : List ℕ) (old new : Held S) (x : X) → Settles g new → old.schema ≡ no_schema
    → TransactsTo {E = E} (state g old) (state g new) (Ok x) (Makes zone) → HoldsAlone g zone new []
holds_none none g zone old new x settles blank does =
    alone g zone new [] settles (λ clean.
    let it = does.ok clean in
    let is = it.2 blank in
    (it.1, record { content = is.0; tables = is.2; are = none zone is.0 is.1 }))

-- Lemmas that a store that was opened from a database file has the records of this file.

module _ {S X E : Type 0} (theirs : OpenedFilesKeepTheirs) (g : Ghosts S) (zone : List ℕ) (old new : Held S)
    (first : HasCleanDisk (state g new) → HasCleanDisk (state g old)) where
  -- The contract of opening a store from a database file of any version. For the layout and the
  -- content of the committed tables of the file, the result satisfies `OpensFile`.
  abbrev pub Opens : Result X E → Type 0
  Opens result = HasCleanDisk (state g new) → (layout : Layout) (content : Content)
      → (IsTrue (state g old).is_open → IsFile layout zone (state g old).committed content) → OpensFile layout zone content (state g old) (state g new) result

  opened : (facts : List Fact) (result : Result X E) → Opens result → HasCleanDisk (state g new) → (layout : Layout) (has : HasFactsIn layout zone facts (state g old).committed)
      → OpensFile layout zone has.content (state g old) (state g new) result
  opened facts result opens clean layout has = opens clean layout has.content (λ still. has.file)

  pub holds_again : (facts : List Fact) (x : X) → Settles g new → HasFile g zone old facts → Opens (Ok x) → HoldsAlone g zone new facts
  holds_again facts x settles file opens =
      alone g zone new facts settles (λ clean.
      let has = file (first clean) in
      let it = (opened facts (Ok x) opens clean has.0 has.1).ok in
      (it.0, record { content = it.1; tables = it.3; are = theirs has.0 zone facts (state g old).committed has.1 it.1 it.2 }))

  pub keeps_file : (facts : List Fact) (e : E) → HasFile g zone old facts → Opens (Err e) → KeepsFile g zone old new facts
  keeps_file facts e file opens = record {
    kept = λ clean. let has = file (first clean) in (opened facts (Err e) opens clean has.0 has.1).err;
    leaves = λ clean trees may.
        let has = file (first clean) in
        elim ((opened facts (Err e) opens clean has.0 has.1).survives.crash clean trees may) [
          | inl was ↦ inl was
          | inr there ↦ inr (record {
            facts = facts;
            one = inl refl;
            db = there.2;
            has = record { content = there.0; tables = there.3; are = theirs has.0 zone facts (state g old).committed has.1 there.0 there.1 };
            same = there.4;
          })
        ];
  }

-- If opening a database connection as a store succeeds, the connection had no open transaction
-- before.
pub was_idle : {X E C : Type 0} (b : Bool) (x : X) (e : E) → (IsTrue b → (Ok x ≡ Err e) × C) → b ≡ false
was_idle true x e busy =
    let no : Ok x ≡ Err e = (busy refl).0 in
    absurd (cc)
was_idle false x e busy = refl
