-- The program's state after HTTP connections were served.
use Rattle.std.specs.Prelude.{◌≡◌, ℕ, ◌≤◌, List, [], ◌∷◌, length, Option, Some, None}
use Rattle.mb_wire.specs.Sockets.Clocks.{ReportsMoment}
use Rattle.office_events.specs.declared.events.Asked.{Asked}
use Rattle.office_books.specs.History.{History}
use Rattle.office_books.specs.Ledgers.{Ledger}
use Rattle.office_core.specs.Standing.{Stands}
use Rattle.office_core.specs.declared.office.Office.{Office}
use Rattle.office_http.specs.Messages.Routing.Routes.{routes}
use Rattle.office_http.specs.Serving.{with_asked}
use Rattle.office_http.specs.Wants.Wanting.{AsksOffice}
use Rattle.office_http.specs.Connections.Named.{MayAsk}

-- States that a given command comes from a request in the bytes that were read, and that the Host
-- header of these bytes is accepted. States nothing if no command is given.
abbrev pub AskedBy : (names : List (List ℕ)) → (read : List ℕ) → Option Asked → Type 0
AskedBy names read None = Unit {0}
AskedBy names read (Some asked) = MayAsk names read × AsksOffice routes read asked

-- A served HTTP connection: the time when the connection was accepted, the bytes that were read,
-- and the command, if any, that the program executed.
pub record Connection (names : List (List ℕ)) : Type 0 where
  pub at : ℕ
  pub read : List ℕ
  pub asked : Option Asked
  pub asks : AskedBy names read asked

-- The history of accepted events after the program served a list of connections. A connection's
-- command adds an event if it is accepted; a refused command or a retry adds none.
abbrev pub history_with : {names : List (List ℕ)} → (past : History) → List (Connection names)
    → History
history_with past [] = past
history_with past (one ∷ earlier) = with_asked (history_with past earlier) one.at one.asked

-- True if the clock was read exactly once for each connection, when the connection was accepted,
-- and the connection has this time.
abbrev pub AreTimed : {names : List (List ℕ)} → (begun now : Option (List ℕ))
    → List (Connection names) → Type 0
AreTimed begun now [] = now ≡ begun
AreTimed begun now (one ∷ earlier) =
    (between : Option (List ℕ)) × AreTimed begun between earlier × ReportsMoment between now one.at

-- True if the program's state is the state after the events accepted before (`past`) and after one
-- HTTP connection, which was accepted at the time `at`.
pub record ServesOne {B : Type 0} (names : List (List ℕ)) (at : ℕ) (ledger : B → Ledger)
    (past : History) (office : Office B) : Type 0 where
  pub connection : Connection names
  pub moment : connection.at ≡ at
  pub stands : Stands ledger (with_asked past connection.at connection.asked) office

-- True if the program's state is the state after the events accepted before (`past`) and after at
-- most `most` HTTP connections.
--
-- Each connection has the clock's time at its acceptance. If the store or memory failed, or the
-- program refuses all events, then no command was executed on the connection.
pub record ServesUpTo {B : Type 0} (names : List (List ℕ)) (most : ℕ)
    (begun now : Option (List ℕ)) (ledger : B → Ledger) (past : History)
    (office : Office B) : Type 0 where
  pub connections : List (Connection names)
  pub few : length connections ≤ most
  pub timed : AreTimed begun now connections
  pub stands : Stands ledger (history_with past connections) office
