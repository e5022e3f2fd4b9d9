-- Lemmas on queries in a script (a text of commands, events and queries): the program's replies to
-- the queries, and the output for these replies.
use Rattle.std.proofs.Common.{◌≡◌, ◌⊎◌, inl, inr, ℕ, ◌+◌, Bool, true, false, Option, List, [], ◌++◌, length, take, refl, sym, ap, ◌∙◌, arith}
use Rattle.std.specs.List.{flat_map}
use Rattle.std.specs.Prelude.{Result, Ok, Err, OnOk}
use Rattle.std.proofs.lemmas.List.{take_all}
use Rattle.std.specs.declared.io.Error.{Error}
use Rattle.office_events.specs.declared.refusals.Refusal.{Refusal}
use Rattle.memory_books.specs.Listed.{ledger_of}
use Rattle.memory_books.specs.declared.list_books.ListBooks.{ListBooks}
use Rattle.office_books.specs.History.{History, facts_of}
use Rattle.office_core.specs.Asking.{HandsDays, HandsRows, IsFound, IsRowFound, OnlyAsks, rows_in}
use Rattle.office_books.specs.Rows.{TakesAll}
use Rattle.interval_core.specs.declared.totals.DayTotal.{DayTotal}
use Rattle.office_core.specs.Standing.{Stands}
use Rattle.office_books.specs.declared.failures.Failures.{Failures}
use Rattle.office_core.specs.Taking.{failures_of}
use Rattle.office_core.specs.declared.office.Office.{Office}
use Rattle.script_run.specs.Replaying.Asked.{AreDaysReported, IsAnswered, RowPrints, RowsPrint, last_line, row_text}
use Rattle.energy_report.specs.RowLines.{counted}
use Rattle.script_run.specs.Replaying.TextRun.{IsCarriedOut, stage_of}
use Rattle.script_run.specs.Replaying.Stages.{Stage}
use Rattle.script_run.proofs.ReplayingLemmas.Replies.{right_or_fails, same_stage}
use Rattle.sun_points.specs.Writing.{GotText}

-- A script line that is only a query does not change the state of the script's run.
pub stays : {T : Type 0} (past : History) (office office' : Office ListBooks) (reply : Result T Refusal)
    → OnlyAsks ledger_of office office' reply → stage_of past office' ≡ stage_of past office
stays past office office' reply asks = same_stage past _ _ _ _ asks.stays asks.zone

pub is_answered : {T : Type 0} (past : History) (office office' : Office ListBooks) (found : Option T) (reply : Result T Refusal)
    (takes_memory : Type 0) → IsFound takes_memory found (failures_of ledger_of office) (failures_of ledger_of office') reply → OnlyAsks ledger_of office office' reply → IsAnswered (stage_of past office) found reply
is_answered past office office' found reply takes_memory reported asks =
    record { answer = right_or_fails takes_memory _ _ reply _ refl refl reported; stops = asks.stopped }

pub row_reported : {T : Type 0} (find : Stage → Option T) (row_line : T → List ℕ) (past : History) (office office' : Office ListBooks)
    (reply : Result T Refusal) (result : Result (Unit {0}) Error) (o o' : Option (List ℕ)) → IsRowFound (find (stage_of past office)) (failures_of ledger_of office) (failures_of ledger_of office') reply
    → OnlyAsks ledger_of office office' reply → Stands ledger_of past office → GotText result (row_text row_line reply) o o'
    → IsCarriedOut (λ now printed next. RowPrints now (find now) row_line printed next) past office office' result o o'
row_reported find row_line past office office' reply result o o' reported asks stands got = record {
  printed = row_text row_line reply;
  after = past;
  prints = record {
    reply = reply;
    is = is_answered past office office' (find (stage_of past office)) reply ⊥ reported asks;
    text = refl;
    same = stays past office office' reply asks;
  };
  got = got;
  stands = asks.stands past stands;
}

pub rows_reported : {T : Type 0} (there : Stage → Option (Unit {0})) (AreReported : Stage → List T → Result (Unit {0}) Refusal → Type 0)
    (row_line : T → List ℕ) (past : History) (office office' : Office ListBooks) (rows : List T) (reply : Result (Unit {0}) Refusal)
    (result : Result (Unit {0}) Error) (o o' : Option (List ℕ)) (takes_memory : Type 0) → IsFound takes_memory (there (stage_of past office)) (failures_of ledger_of office) (failures_of ledger_of office') reply
    → AreReported (stage_of past office) rows reply → OnlyAsks ledger_of office office' reply → Stands ledger_of past office
    → GotText result (flat_map row_line rows ++ last_line (counted (length rows)) reply) o o'
    → IsCarriedOut (λ now printed next. RowsPrint now (there now) (AreReported now) row_line printed next) past office office' result o o'
rows_reported there AreReported row_line past office office' rows reply result o o' takes_memory found reported asks stands got = record {
  printed = flat_map row_line rows ++ last_line (counted (length rows)) reply;
  after = past;
  prints = record {
    rows = rows;
    reply = reply;
    is = is_answered past office office' (there (stage_of past office)) reply takes_memory found asks;
    reported = reported;
    text = refl;
    same = stays past office office' reply asks;
  };
  got = got;
  stands = asks.stands past stands;
}

-- If a query passes its rows to a row visitor, then the visitor received the first rows of the
-- query's result. If the query succeeded, the visitor received all rows.
pub handed : {S T : Type 0} (takes : S → T → S → Type 0) (rows : Option (List T)) (before after : Failures) (from to : S)
    (reply : Result (Unit {0}) Refusal) → HandsRows takes rows before after from to reply
    → (shown : List T) × TakesAll takes from shown to × ((n : ℕ) × (shown ≡ take n (rows_in rows))) × OnOk reply (shown ≡ rows_in rows)
handed takes rows before after from to (Ok done) hands =
    (rows_in rows, hands.whole, (length (rows_in rows), sym (take_all (length (rows_in rows)) (rows_in rows) (omega arith))), refl)
handed takes rows before after from to (Err why) hands = (take hands.begun.0 (rows_in rows), hands.begun.1, (hands.begun.0, refl), tt)

pub handed_days : {S : Type 0} (takes : S → DayTotal → S → Type 0) (now : Stage) (register : Option (List ℕ))
    (before after : Failures) (from to : S) (reply : Result (Unit {0}) Refusal)
    → HandsDays takes now.zone (facts_of now.past) register before after from to reply
    → (shown : List DayTotal) × TakesAll takes from shown to × AreDaysReported now register shown reply
handed_days takes now register before after from to (Ok done) hands =
    (hands.whole.days, hands.whole.took, record { whole = hands.whole.are; none = tt })
handed_days takes now register before after from to (Err why) hands = ([], hands.none, record { whole = tt; none = refl })
