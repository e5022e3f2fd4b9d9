-- Proofs that the sequence of database calls that void (cancel) a meter reading changes the tables
-- as the contract of voiding requires.
use Rattle.std.proofs.Common.{◌≡◌, ℕ, List, Option, Some, None, Ok, refl, sym, subst}
use Rattle.sqlite.specs.declared.error.Error.{Error}
use Rattle.sqlite.specs.State.{State}
use Rattle.interval_core.specs.Share.{shares_of}
use Rattle.store_tables.specs.declared.faults.RowFault.{RowFault}
use Rattle.store_tables.specs.Content.{Edits, changed_where}
use Rattle.store_tables.specs.Steps.{Steps}
use Rattle.store_tables.specs.Entries.Trees.{entries}
use Rattle.store_tables.specs.Entries.Rows.{entry_columns, is_entry, rolled}
use Rattle.office_store.specs.Going.{Goes}
use Rattle.office_store.specs.Intervals.StepShares.{BooksShares}
use Rattle.office_store.proofs.GoingLemmas.{nothing_done}
use Rattle.office_store.specs.Voids.Withdrawal.{TakesShares}
use Rattle.office_store.specs.Bookings.Voids.{RollsNext, TakesNext, PutsNext}
use Rattle.office_store.specs.declared.bookings.corrections.Rejoined.{Rejoined}
use Rattle.office_store.proofs.BookingsLemmas.Leaving.{completed_alone}

module _ (meter : List ℕ) (next : Option Rejoined) where
  -- If no meter entry follows the voided (cancelled) reading, voiding makes no database call to set
  -- counter rollovers, and satisfies the contract of setting those of the next entry.
  pub none_rolled : (a : State) → next ≡ None → Goes {X = Unit {0}} {E = RowFault} a a (Ok tt) (RollsNext meter next)
  none_rolled a is =
      subst (λ (n : Option Rejoined). Goes {X = Unit {0}} {E = RowFault} a a (Ok tt) (RollsNext meter n)) (sym is)
      (nothing_done a tt (RollsNext meter None) (λ content. record { rows = λ xs has. has; others = λ t off. refl }))

  pub none_taken : (a : State) → next ≡ None → Goes {X = Unit {0}} {E = RowFault} a a (Ok tt) (TakesNext meter next)
  none_taken a is = subst (λ (n : Option Rejoined). Goes {X = Unit {0}} {E = RowFault} a a (Ok tt) (TakesNext meter n)) (sym is) (nothing_done a tt (TakesNext meter None) (λ content. refl))

  pub none_put : (a : State) → next ≡ None → Goes {X = Unit {0}} {E = RowFault} a a (Ok tt) (PutsNext meter next)
  none_put a is = subst (λ (n : Option Rejoined). Goes {X = Unit {0}} {E = RowFault} a a (Ok tt) (PutsNext meter n)) (sym is) (nothing_done a tt (PutsNext meter None) (λ content. refl))

  -- If a meter entry follows the voided (cancelled) reading, one database call sets the counter
  -- rollovers of this next entry, as the contract of voiding requires.
  pub one_rolled : (a b : State) (n : ℕ) (joined : Rejoined) → next ≡ Some joined
      → Steps {X = ℕ} {E = Error} a b (Ok n) (Edits entries entry_columns (changed_where (is_entry meter joined.rollover.place) (rolled joined.rollover.rolls)))
      → Goes {X = Unit {0}} {E = RowFault} a b (Ok tt) (RollsNext meter next)
  one_rolled a b n joined is does =
      subst (λ (n : Option Rejoined). Goes {X = Unit {0}} {E = RowFault} a b (Ok tt) (RollsNext meter n)) (sym is)
      (completed_alone a b n (Edits entries entry_columns (changed_where (is_entry meter joined.rollover.place) (rolled joined.rollover.rolls))) (RollsNext meter (Some joined)) does (λ content after edits. edits))

  pub one_taken : (a b : State) (u : Unit {0}) (joined : Rejoined) → next ≡ Some joined → Steps {X = Unit {0}} {E = Error} a b (Ok u) (TakesShares meter (shares_of joined.out)) → Goes {X = Unit {0}} {E = RowFault} a b (Ok tt) (TakesNext meter next)
  one_taken a b u joined is does =
      subst (λ (n : Option Rejoined). Goes {X = Unit {0}} {E = RowFault} a b (Ok tt) (TakesNext meter n)) (sym is)
      (completed_alone a b u (TakesShares meter (shares_of joined.out)) (TakesNext meter (Some joined)) does (λ content after takes. takes))

  pub one_put : (a b : State) (u : Unit {0}) (joined : Rejoined) → next ≡ Some joined → Steps {X = Unit {0}} {E = Error} a b (Ok u) (BooksShares meter (shares_of joined.put)) → Goes {X = Unit {0}} {E = RowFault} a b (Ok tt) (PutsNext meter next)
  one_put a b u joined is does =
      subst (λ (n : Option Rejoined). Goes {X = Unit {0}} {E = RowFault} a b (Ok tt) (PutsNext meter n)) (sym is)
      (completed_alone a b u (BooksShares meter (shares_of joined.put)) (PutsNext meter (Some joined)) does (λ content after puts. puts))
