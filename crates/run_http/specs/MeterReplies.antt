-- The responses to queries for quarter hours or entries of a meter, or for the past and present
-- meters of an accounting register (a named energy counter).
use Rattle.std.specs.Prelude.{◌≡◌, ℕ, true, List, [], ◌∷◌, ◌++◌, Option, Result, Ok, Err, IfOk, OnOk, codes}
use Rattle.std.specs.declared.alloc.Global.{Global}
use Rattle.std.specs.declared.vec.Vec.{Vec}
use Rattle.office_http.specs.declared.messages.status.Status.TheVariants.{Fine}
use Rattle.interval_core.specs.declared.shares.Share.{Share}
use Rattle.office_events.specs.declared.facts.Fact.{Fact}
use Rattle.office_events.specs.declared.refusals.Refusal.{Refusal}
use Rattle.office_books.specs.Ledgers.{Ledger}
use Rattle.office_core.specs.Asking.{OnlyAsks}
use Rattle.office_core.specs.Parts.{ListsAccepted}
use Rattle.office_core.specs.declared.office.Office.{Office}
use Rattle.run_http.specs.SiteReply.{with_refusal}
use Rattle.run_http.specs.StatusRoute.{with_reply}
use Rattle.run_http.specs.declared.kept_rows.KeptRows.{KeptRows}

-- States that the row of a quarter hour's energy is appended to the collected rows. If memory ran
-- out for this row or an earlier row, then the collection's flag `is_whole` is false.
abbrev pub KeepsRow : KeptRows → Share → KeptRows → Type 0
KeepsRow old row new = new.is_whole ≡ true
    → (old.is_whole ≡ true) × (new.rows.items ≡ old.rows.items ++ row ∷ [])

-- The contract of a function that queries rows (such as quarter hours of a meter). The program
-- answers the query from the records of its accepted events. The function fails if memory for the
-- rows runs out.
pub record AsksRows {B T : Type 0} (ledger : B → Ledger) (old new : Office B)
    (says : List Fact → Option (List T)) {E : Type 0}
    (result : Result (Result (Vec T Global) Refusal) E) : Type 0 where
  pub answer : Result (Vec T Global) Refusal
  pub asks : OnlyAsks ledger old new answer
  pub gives : IfOk result (λ reported. reported ≡ answer)
  pub lists : OnOk result (ListsAccepted ledger old new answer says)

-- The HTTP response to a query for rows of a meter, such as its entries: the text of the rows, or
-- an error response if the program refused the query.
abbrev pub with_rows_reply : {T : Type 0} → (text : List T → List ℕ)
    → Result (Vec T Global) Refusal → List ℕ → List ℕ
with_rows_reply text (Ok rows) before =
    with_reply Fine (codes "text/plain") (text rows.items) before
with_rows_reply text (Err why) before = with_refusal why before

-- The contract of a function that responds to a query for rows. The function queries the store
-- once. Unless memory runs out, it then appends the rows as a response, or an error response if the
-- program refused the query.
pub record RepliesRows {B T : Type 0} (ledger : B → Ledger) (old new : Office B)
    (says : List Fact → Option (List T)) (text : List T → List ℕ) (from to : List ℕ) {E : Type 0}
    (result : Result (Unit {0}) E) : Type 0 where
  pub answer : Result (Vec T Global) Refusal
  pub asks : OnlyAsks ledger old new answer
  pub lists : OnOk result (ListsAccepted ledger old new answer says)
  pub puts : OnOk result (to ≡ with_rows_reply text answer from)
