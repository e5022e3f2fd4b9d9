-- Proofs for queries that pass the rows of a table one by one to a sink (a visitor that the caller
-- supplies). If a query succeeds, the sink received exactly the rows that follow from the store's
-- records.
use Rattle.std.proofs.Common.{◌≡◌, ◌⊎◌, inl, inr, ℕ, List, [], ◌∷◌, Ok, Err, Result, OnOk, IfErr, IsTrue, IsErrAnd, refl, sym, subst}
use Rattle.std.specs.List.{AllByRecursion}
use Rattle.sqlite.specs.Store.{Ghosts}
use Rattle.sqlite.specs.Held.{Held, state}
use Rattle.sqlite.specs.State.{HasCleanDisk}
use Rattle.office_books.specs.Rows.{TakesAll, TakesFirst}
use Rattle.office_events.specs.declared.facts.Fact.{Fact}
use Rattle.store_tables.specs.declared.faults.RowFault.{RowFault}
use Rattle.store_tables.specs.Content.{Content}
use Rattle.store_tables.specs.Failing.{IsFault}
use Rattle.store_tables.proofs.StepLemmas.{on_ok}
use Rattle.store_tables.proofs.Failures.{on_err, less_fault}
use Rattle.office_store.specs.Handing as tables
use Rattle.office_store.specs.Holding.{HoldsFacts, OnlyLooks}
use Rattle.office_store.specs.Tables.{AreOf}
use Rattle.office_store.specs.Metering.Looking.{HandsOn}
use Rattle.office_store.proofs.FindingLemmas.Looking.{Touched, looks_asked, seen, since}

module _ {S K T : Type 0} (g : Ghosts S) (takes : K → T → K → Type 0) (IsRow : T → Type 0) (says : List Fact → List T) (AreSound : List Fact → Type 0) where
  -- If the call before a streaming query (one that passes its rows to the caller's visitor) fails,
  -- the visitor gets no row.
  pub not_asked : (a b : Held S) (sink : K) (r : Result (Unit {0}) RowFault) (Why : RowFault → Type 0) → ((zone : List ℕ) → OnlyLooks g zone a b)
      → ((zone : List ℕ) (facts : List Fact) → HoldsFacts g zone a facts → HasCleanDisk (state g b) → IfErr r (IsFault (state g a) (state g b) (AreSound facts))) → IsErrAnd r Why → HandsOn g a b takes sink sink r IsRow says AreSound
  not_asked a b sink (Ok x) Why looks fault is = absurd is
  not_asked a b sink (Err e) Why looks fault is = record {
    begun = λ zone facts holds clean. (0, refl);
    whole = λ zone facts holds clean. tt;
    some = ([], tt, refl);
    fault = λ zone facts holds clean. inl (fault zone facts holds clean);
    looks = looks;
    mode = (looks []).mode;
  }

  -- True if the tables encode the records `facts`, and `rows` is the list of the rows that the
  -- streaming query reads from the tables.
  pub record Reports {Tables : Type 0} (Have : Tables → Content → Type 0) (AreRowsOf : Tables → List T → Type 0) (IsSound : Tables → Type 0) (facts : List Fact) (content : Content) : Type 0 where
    pub rows : Tables
    pub there : Have rows content
    pub says_so : (all : List T) → AreRowsOf rows all → all ≡ says facts
    pub sound : AreSound facts → IsSound rows

  begun_so : (before after : K) (rows : List T) (Are : List T → Type 0) → ((all : List T) → Are all → all ≡ rows)
      → (after ≡ before) ⊎ ((all : List T) × Are all × TakesFirst takes before all after) → TakesFirst takes before rows after
  begun_so before after rows Are says_so (inl none) = (0, none)
  begun_so before after rows Are says_so (inr some) = subst (λ (l : List T). TakesFirst takes before l after) (says_so some.0 some.1) some.2

  pub handed : {Tables : Type 0} (old mid new : Held S) (before after : K) (r : Result (Unit {0}) RowFault) (Have : Tables → Content → Type 0) (AreRowsOf : Tables → List T → Type 0) (IsSound : Tables → Type 0)
      → Touched g old mid → tables.HandsOn g mid new takes before after r IsRow Have AreRowsOf IsSound
      → ((zone : List ℕ) (facts : List Fact) (content : Content) → AreOf zone facts content → Reports Have AreRowsOf IsSound facts content) → HandsOn g old new takes before after r IsRow says AreSound
  handed old mid new before after r Have AreRowsOf IsSound touched hands reports = record {
    begun = λ zone facts holds clean.
        let has = seen g old mid touched zone facts holds (hands.asks.clean clean) in
        let reported = reports zone facts has.content has.are in
        begun_so before after (says facts) (AreRowsOf reported.rows) reported.says_so (hands.begun clean has.content has.tables reported.rows reported.there);
    whole = λ zone facts holds clean.
        let has = seen g old mid touched zone facts holds (hands.asks.clean clean) in
        let reported = reports zone facts has.content has.are in
        on_ok r (λ (h : (all : List T) × AreRowsOf reported.rows all × TakesAll takes before all after). subst (λ (l : List T). TakesAll takes before l after) (reported.says_so h.0 h.1) h.2)
        (hands.whole clean has.content has.tables reported.rows reported.there);
    some = hands.some;
    fault = λ zone facts holds clean.
        let has = seen g old mid touched zone facts holds (hands.asks.clean clean) in
        let reported = reports zone facts has.content has.are in
        on_err r (λ f why. elim why [
          | inl own ↦ inl (less_fault (state g old) (state g new) (AreSound facts) (IsSound reported.rows) f reported.sound (since g old mid touched new hands.asks zone facts holds clean (IsSound reported.rows) f own))
          | inr most ↦ inr most
        ]) (hands.fault clean has.content has.tables reported.rows reported.there);
    looks = looks_asked g old mid touched new hands.asks;
    mode = λ is. hands.asks.mode touched.mode;
  }
