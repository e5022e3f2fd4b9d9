-- The result of a command that serves HTTP on a port. The command opens an office, the engine that
-- records meters' energy, over a store of its records.
use Rattle.std.specs.Prelude.{◌≡◌, ℕ, List, Option}
use Rattle.office_books.specs.History.{History}
use Rattle.office_books.specs.Ledgers.{Ledger}
use Rattle.office_core.specs.Leaving.{BooksStand}
use Rattle.office_core.specs.declared.office.Office.{Office}
use Rattle.office_http.specs.Connections.Connections.{ServesUpTo}
use Rattle.office_program.specs.Texts.OpenedOffice.{ReportsUnopened}
use Rattle.office_program.specs.Opened.{WithOffice}
use Rattle.office_program.specs.declared.http_port.ServeEnd.{ServeEnd}
use Rattle.office_program.specs.declared.http_port.ServeEnd.TheVariants.{Served, Unopened, NoPort, Broken}

-- The settings of an HTTP port: the host names that requests may use besides the names of this
-- machine, and the number of connections to serve.
pub record Port : Type 0 where
  pub names : List (List ℕ)
  pub connections : ℕ

-- Builds a `Port` (the settings of an HTTP port) from its fields.
abbrev pub port : (names : List (List ℕ)) → (connections : ℕ) → Port
port names connections = record { names = names; connections = connections }

-- The state of an event engine after it served HTTP on a port. The engine answered at most
-- `at.connections` connections. The timestamp of each is the clock's time. If the command can't
-- listen on the port, nothing changed.
abbrev pub ServesPort : {B : Type 0} → Port → (then later : Option (List ℕ)) → (B → Ledger)
    → (past : History) → (opened left : Office B) → ServeEnd → Type 0
ServesPort at then later ledger past opened left NoPort = left ≡ opened
ServesPort at then later ledger past opened left Served =
    ServesUpTo at.names at.connections then later ledger past left
ServesPort at then later ledger past opened left Broken =
    ServesUpTo at.names at.connections then later ledger past left
ServesPort at then later ledger past opened left (Unopened status) = ⊥

-- True if the opened event engine served HTTP on the port, and nothing was printed.
pub record Serves {B : Type 0} (ledger : B → Ledger) (at : Port)
    (later had holds : Option (List ℕ)) (end : ServeEnd)
    (following : History) (then : Option (List ℕ)) (opened left : Office B) : Type 0 where
  pub serves : ServesPort at then later ledger following opened left end
  pub silent : holds ≡ had

-- True if the event engine was opened and served HTTP on the port. Also true if opening the engine
-- was refused and only the refusal was printed.
abbrev pub ReportsServing : {B : Type 0} → (B → Ledger) → (past : History) → Port
    → (moments later : Option (List ℕ)) → (books back : B) → (had holds : Option (List ℕ))
    → ServeEnd → Type 0
ReportsServing ledger past at moments later books back had holds (Unopened status) =
    ReportsUnopened past moments later (ledger books) (ledger back) status had holds
ReportsServing ledger past at moments later books back had holds end =
    WithOffice ledger past moments back (Serves ledger at later had holds end)

-- The state before or after a command, for use in contracts: the store, the times that the clock
-- returns, and the printed text. `None` means that the contracts state nothing about the times or
-- the text.
pub record Scene (B : Type 0) : Type 0 where
  pub books : B
  pub moments : Option (List ℕ)
  pub written : Option (List ℕ)

-- Builds a `Scene` (the state before or after a command: store, clock and printed text) from its
-- fields.
abbrev pub scene : {B : Type 0} → B → (moments written : Option (List ℕ)) → Scene B
scene books moments written = record { books = books; moments = moments; written = written }

-- The contract of the command that serves HTTP, for any accepted events that the store records. The
-- definition `ReportsServing` states the result. The contract states nothing if a wrong result of
-- the store was used.
abbrev pub ServesBooks : {B : Type 0} → (B → Ledger) → Port → ServeEnd → (old new : Scene B)
    → Type 0
ServesBooks ledger at end old new =
    (past : History) → BooksStand (ledger old.books) past → (ledger new.books).is_clean
    → ReportsServing ledger past at old.moments new.moments old.books new.books
    old.written new.written end
