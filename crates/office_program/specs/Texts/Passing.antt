-- The properties of a store that opening an office (the event engine) keeps, whatever the store
-- returned. The time zone is unchanged, and a store that used no wrong result afterwards used none
-- before.
use Rattle.std.specs.Prelude.{◌≡◌}
use Rattle.office_books.specs.Ledgers.{Ledger}

-- True if the store's time zone is unchanged, and a store that is clean after the event engine's
-- opening was clean before it. A store is clean if no wrong result of the store was used.
pub record Lasts (old new : Ledger) : Type 0 where
  pub clean : new.is_clean → old.is_clean
  pub zone : new.zone ≡ old.zone
