-- A lemma that connects two statements on a database with the program's schema. If `HoldsRows` (the
-- tables have certain rows, whatever their schema) is true, then `HoldsTables` (the store's tables
-- have these rows) is true.
use Rattle.std.proofs.Common.{◌≡◌, IsTrue, subst}
use Rattle.sqlite.specs.Store.{Ghosts}
use Rattle.sqlite.specs.Held.{Held, state}
use Rattle.sqlite.specs.State.{IsLive}
use Rattle.sqlite.specs.Effect.{Database}
use Rattle.store_tables.specs.Schema.{books_schema}
use Rattle.store_tables.specs.Content.{Content}
use Rattle.table_audit.specs.Looking.{HoldsRows, HoldsTables}

module _ {S : Type 0} (g : Ghosts S) (h : Held S) where
  pub holds_tables : (state g h).now.schema ≡ books_schema → IsLive (state g h)
      → (IsTrue (state g h).is_open → (state g h).now ≡ (state g h).committed)
      → (content : Content) → HoldsRows g h content → HoldsTables g h content
  unfolding HoldsRows HoldsTables
  holds_tables same live settled content holds clean is_open =
      let rows = holds clean is_open in
      record {
        schema = subst (λ (d : Database). d.schema ≡ books_schema) (settled is_open) same;
        rows = rows.rows;
        apart = rows.apart;
        sound = (live is_open).1;
      }
