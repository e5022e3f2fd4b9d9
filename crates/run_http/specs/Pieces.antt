-- Responses that contain the quarter hours of a meter and are streamed in chunks, so that no
-- complete response is in memory. Defines the remaining part of a response after each chunk, and
-- states that later records do not change this part.
use Rattle.std.specs.Prelude.{◌≡◌, ℕ, ◌+◌, ◌-◌, ◌<◌, ◌≤◌, min, max, List, [], ◌∷◌, ◌++◌, length, All, flat_map, codes, nat_lt, Bool, true, Option, Some, None, Result, Ok, Err}
use Rattle.std.specs.Option.{option_and_then}
use Rattle.std.specs.declared.alloc.Global.{Global}
use Rattle.std.specs.declared.vec.Vec.{Vec}
use Rattle.office_http.specs.Messages.Replies.{lines_reply, reply_bytes}
use Rattle.office_http.specs.declared.messages.status.Status.TheVariants.{Fine}
use Rattle.interval_core.specs.Lines.{end_line, intervals_text, share_line}
use Rattle.interval_core.specs.declared.shares.Share.{Share}
use Rattle.office_books.specs.Ledgers.{Ledger}
use Rattle.office_books.specs.declared.spans.Span.TheVariants.{Between}
use Rattle.office_core.specs.Asking.{IsRowFound, OnlyAsks, is_there, rows_in}
use Rattle.office_core.specs.Failing.{IsOutside}
use Rattle.office_core.specs.Parts.{intervals_within}
use Rattle.office_core.specs.Standing.{After}
use Rattle.office_core.specs.Taking.{failures_of}
use Rattle.office_core.specs.declared.office.Office.{Office}
use Rattle.office_events.specs.declared.facts.Fact.{Fact}
use Rattle.office_events.specs.declared.facts.Opening.{Opening}
use Rattle.office_events.specs.declared.questions.Installation.{Installation}
use Rattle.office_events.specs.declared.refusals.Refusal.{Refusal}
use Rattle.office_books.specs.Facts.{opening_of}
use Rattle.office_books.specs.History.{facts_of}
use Rattle.office_books.specs.Lawful.{AreLawful}
use Rattle.office_books.specs.Meters.{meter_of}
use Rattle.run_http.specs.Copies.{VoidsFrom, next_place, quarter_of}
use Rattle.run_http.specs.StatusRoute.{with_reply, with_start_of}
use Rattle.run_http.specs.declared.pieces.RemainingRows.{RemainingRows}
use Rattle.run_http.specs.declared.row_sizes.RowSizes.{RowSizes}
use Rattle.run_http.specs.declared.row_sizes.Sizes.{Sizes}

-- The quarter hours of a meter that start at `from` or later, and before `till`.
abbrev pub rows_between : List Fact → (meter : Option (List ℕ)) → (from till : ℕ) → List Share
rows_between facts meter from till = rows_in (intervals_within facts meter (Between from till))

-- The rows of a streamed response that are still to be written: first the rows not yet queried,
-- then the last rows, which were copied into memory when the response began.
abbrev pub rows_left : List Fact → RemainingRows → List Share
rows_left facts left = rows_between facts left.meter left.from left.till ++ left.last.items

-- The text of a streamed response that is still to be written: the lines of the remaining rows, and
-- the line with the number of all rows.
abbrev pub text_left : List Fact → RemainingRows → List ℕ
text_left facts left =
    flat_map share_line (rows_left facts left)
    ++ end_line (left.reported + length (rows_left facts left))

-- True if some rows of a streamed response are still to be queried.
abbrev pub has_more : RemainingRows → Bool
has_more left = nat_lt left.from left.till

-- The start of the quarter hour of the meter's last entry; 0 if there is no meter.
abbrev pub last_quarter : Option Installation → ℕ
last_quarter None = 0
last_quarter (Some it) = quarter_of it.last.at

-- States that the interval rows that a streamed response still has to query start before the
-- quarter hour of the meter's last entry. No new entry changes these rows while the response is
-- sent.
abbrev pub IsSettled : List Fact → RemainingRows → Type 0
IsSettled facts left =
    left.from < left.till
    → left.till ≤ last_quarter (option_and_then (meter_of facts) left.meter)

-- If later records void (withdraw) no entry that the meter has now, the text that a streamed
-- response still has to send does not change. All its chunks then show the rows as of the beginning
-- of the response.
abbrev pub TextStays : Type 0
TextStays = (further facts : List Fact) (meter : List ℕ) (opening : Opening) (left : RemainingRows)
    → AreLawful (further ++ facts) → opening_of facts meter ≡ Some opening
    → left.meter ≡ Some meter → IsSettled facts left
    → All (VoidsFrom meter (next_place facts opening)) further
    → text_left (further ++ facts) left ≡ text_left facts left

-- Definitions of the time span that a streamed response queries. Also defines when a response has
-- started correctly: the written bytes and the text still to be sent form the complete response.

-- The beginning of the time span whose interval rows are queried: `from`, or the quarter hour of
-- the meter's opening (the first entry) if that is later.
abbrev pub first_asked : Installation → (from : ℕ) → ℕ
first_asked it from = max from (quarter_of it.opening.at)

-- The end of the time span whose interval rows are queried chunk by chunk: `till`, or the quarter
-- hour of the meter's last entry if that is earlier. The end is never before the span's beginning.
-- New entries change no row before that quarter hour.
abbrev pub end_of_streamed : Installation → (from till : ℕ) → ℕ
end_of_streamed it from till = max (first_asked it from) (min till (quarter_of it.last.at))

-- True if the rows that a streamed response queries chunk by chunk span more than `seconds`
-- seconds.
abbrev pub is_long_response : Installation → (from till seconds : ℕ) → Bool
is_long_response it from till seconds = nat_lt seconds (end_of_streamed it from till - first_asked it from)

-- States that the written bytes, followed by the text still to be sent, are the response with all
-- requested rows. Later entries do not change the text still to be sent.
pub record IsBegun (facts : List Fact) (meter : List ℕ) (from till : ℕ)
    (reply : List Share → List ℕ) (put : List ℕ) (left : RemainingRows) : Type 0 where
  pub reports : put ++ text_left facts left ≡ reply (rows_between facts (Some meter) from till)
  pub settled : IsSettled facts left

-- The result of starting a streamed response, if `it` is the meter's present state in the store.
-- Either the response has started with all requested rows (`IsBegun`), or the store failed, or
-- memory ran out.
abbrev pub AreBegun : {B E : Type 0} → (B → Ledger) → (old new : Office B) → Installation
    → (from till : ℕ) → (reply : List Share → List ℕ) → (put : List ℕ)
    → (answer : Result (Unit {0}) Refusal) → Result (Result RemainingRows Refusal) E → Type 0
AreBegun ledger old new it from till reply put answer (Ok (Ok left)) =
    (answer ≡ Ok tt) × (left.meter ≡ Some it.opening.meter)
    × After ledger old new (λ past. meter_of (facts_of past) it.opening.meter ≡ Some it
    → IsBegun (facts_of past) it.opening.meter from till reply put left)
AreBegun ledger old new it from till reply put answer (Ok (Err why)) =
    (answer ≡ Err why)
    × After ledger old new (λ past. meter_of (facts_of past) it.opening.meter ≡ Some it
    → IsOutside ⊥ (failures_of ledger old) (failures_of ledger new) why)
AreBegun ledger old new it from till reply put answer (Err fault) = Unit {0}

-- The contract of a function that starts a streamed response with the quarter hours of a meter. The
-- response starts unless the store or memory fails (`AreBegun`). The function only queries the
-- store, and changes no record.
pub record BeginsReply {B : Type 0} (ledger : B → Ledger) (old new : Office B) (it : Installation)
    (from till : ℕ) (reply : List Share → List ℕ) (put : List ℕ) {E : Type 0}
    (result : Result (Result RemainingRows Refusal) E) : Type 0 where
  pub answer : Result (Unit {0}) Refusal
  pub asks : OnlyAsks ledger old new answer
  pub begins : AreBegun ledger old new it from till reply put answer result

-- A complete response with rows of quarter hours. The head of the response contains the size of its
-- body.
abbrev pub with_rows : List ℕ → List Share → List ℕ
with_rows text rows = with_reply Fine (codes "text/plain") (intervals_text rows) text

-- The response with all quarter hours of a meter. Its head has no Content-Length, so the body ends
-- when the connection closes.
abbrev pub with_all_rows : List ℕ → List Share → List ℕ
with_all_rows text rows = text ++ reply_bytes (lines_reply intervals_text (Ok rows))

-- Definitions of the size in bytes of a streamed response, which the head of the response contains.

-- States that `sizes` has the number of interval rows (energies of quarter hours) in a list, and
-- the number of bytes in the text lines of these rows.
abbrev pub AreSizes : Sizes → List Share → Type 0
AreSizes sizes rows =
    (sizes.bytes ≡ length (flat_map share_line rows)) × (sizes.count ≡ length rows)

-- The effect of measuring one more row: the number of rows rises by one, and the size of the row's
-- line is added to the total size. After memory ran out, the sizes are unknown.
abbrev pub SizesRow : RowSizes → Share → RowSizes → Type 0
SizesRow old row new = new.is_whole ≡ true
    → (old.is_whole ≡ true) × (new.sizes.bytes ≡ old.sizes.bytes + length (share_line row))
    × (new.sizes.count ≡ old.sizes.count + 1)

-- States that a call returned the number and the size of the rows that a streamed response must
-- still query, or refused the query. Says nothing about a result `Err`, for example if memory ran
-- out.
abbrev pub AreSized : {B E : Type 0} → (B → Ledger) → (old new : Office B) → RemainingRows
    → (answer : Result (Unit {0}) Refusal) → Result (Result Sizes Refusal) E → Type 0
AreSized ledger old new left answer (Ok (Ok sizes)) =
    (answer ≡ Ok tt) × After ledger old new (λ past.
    AreSizes sizes (rows_between (facts_of past) left.meter left.from left.till))
AreSized ledger old new left answer (Ok (Err why)) =
    (answer ≡ Err why) × After ledger old new (λ past.
    let span = Between left.from left.till in
    IsRowFound (is_there (intervals_within (facts_of past) left.meter span))
    (failures_of ledger old) (failures_of ledger new) answer)
AreSized ledger old new left answer (Err fault) = Unit {0}

-- The size in bytes of a streamed response's body, for the header Content-Length. `sizes` are the
-- sizes of the rows that are still to be queried.
abbrev pub body_size : RemainingRows → Sizes → ℕ
body_size left sizes =
    sizes.bytes
    + length (flat_map share_line left.last.items
    ++ end_line (left.reported + sizes.count + length left.last.items))

-- The head of a plain-text response with a body of `size` bytes.
abbrev pub with_head : (size : ℕ) → List ℕ → List ℕ
with_head size text = with_start_of Fine (codes "text/plain") size text ++ codes "\r\n\r\n"

-- The contract of a function that queries those rows of a streamed response that were not queried
-- yet. The function returns the number of these rows and the size of their lines.
pub record SizesRows {B : Type 0} (ledger : B → Ledger) (old new : Office B) (left : RemainingRows)
    {E : Type 0} (result : Result (Result Sizes Refusal) E) : Type 0 where
  pub answer : Result (Unit {0}) Refusal
  pub asks : OnlyAsks ledger old new answer
  pub sizes : AreSized ledger old new left answer result

-- Definitions of how each chunk continues a streamed response.

-- States how one chunk advances a streamed response. The rows of the chunk start in the next
-- `seconds` seconds of the time span that is still to be queried.
--
-- If a time span was still to be queried and `seconds` (the length of a chunk) is not 0, then a
-- shorter span is left. The response's meter and the end of its time span stay the same.
pub record MovesOn (left later : RemainingRows) (seconds : ℕ) : Type 0 where
  pub meter : later.meter ≡ left.meter
  pub till : later.till ≡ left.till
  pub some : left.from < left.till → 0 < seconds → left.from < later.from
  pub none : left.till ≤ left.from → later.till ≤ later.from
  pub few : later.from ≤ left.from + seconds

-- States that sending one chunk of a streamed response loses and repeats nothing: the written
-- bytes, followed by the text still to be sent, are unchanged. The exceptions are a failed store
-- and lack of memory.
abbrev pub HasReported : {B E : Type 0} → (B → Ledger) → (old new : Office B)
    → (answer : Result (Vec Share Global) Refusal) → (left later : RemainingRows) → (seconds : ℕ)
    → (from to : List ℕ) → Result (Result (Unit {0}) Refusal) E → Type 0
HasReported ledger old new answer left later seconds from to (Ok (Ok done)) =
    MovesOn left later seconds
    × After ledger old new (λ past.
    to ++ text_left (facts_of past) later ≡ from ++ text_left (facts_of past) left)
HasReported ledger old new answer left later seconds from to (Ok (Err why)) = answer ≡ Err why
HasReported ledger old new answer left later seconds from to (Err fault) = Unit {0}

-- The contract of a function that sends one chunk. The function queries the rows of the chunk from
-- the store, and writes their lines to the streamed response.
pub record ReportsOn {B : Type 0} (ledger : B → Ledger) (old new : Office B) (left later : RemainingRows)
    (seconds : ℕ) (from to : List ℕ) {E : Type 0} (result : Result (Result (Unit {0}) Refusal) E)
    : Type 0 where
  pub answer : Result (Vec Share Global) Refusal
  pub asks : OnlyAsks ledger old new answer
  pub reports : HasReported ledger old new answer left later seconds from to result

-- The contract of a function that ends a streamed response. If no rows are left to query, the
-- function writes the remaining text: the last rows, which were copied into memory, and the line
-- with the number of rows.
abbrev pub ReportsRest : RemainingRows → (from to : List ℕ) → Type 0
ReportsRest left from to =
    (facts : List Fact) → left.till ≤ left.from → to ≡ from ++ text_left facts left

-- Definitions of the complete streamed response, which consists of chunks sent one after another.

-- A chunk of a streamed response: all records added since the response began, what the response
-- still has to send after the chunk, and the text written so far.
pub record Piece : Type 0 where
  pub further : List Fact
  pub later : RemainingRows
  pub text : List ℕ

-- The rows that a streamed response still has to send after the chunks in the list, whose first
-- element is the latest chunk.
abbrev pub left_after : RemainingRows → List Piece → RemainingRows
left_after left [] = left
left_after left (piece ∷ earlier) = piece.later

-- The text that a streamed response has written after the chunks in the list, whose first element
-- is the latest chunk.
abbrev pub text_after : List ℕ → List Piece → List ℕ
text_after text [] = text
text_after text (piece ∷ earlier) = piece.text

-- States that the chunk has the next rows of a streamed response. Also requires that no record
-- added since the response began voids (withdraws) an entry that the meter had then.
pub record IsPiece (facts : List Fact) (meter : List ℕ) (opening : Opening) (left : RemainingRows)
    (text : List ℕ) (piece : Piece) : Type 0 where
  pub lawful : AreLawful (piece.further ++ facts)
  pub voids : All (VoidsFrom meter (next_place facts opening)) piece.further
  pub seconds : ℕ
  pub moves : MovesOn left piece.later seconds
  pub reports : piece.text ++ text_left (piece.further ++ facts) piece.later
      ≡ text ++ text_left (piece.further ++ facts) left

-- States that each chunk in the list continues the streamed response after the chunks sent before.
-- The list has the latest chunk first.
abbrev pub ArePieces : List Fact → (meter : List ℕ) → Opening → RemainingRows → (text : List ℕ)
    → List Piece → Type 0
ArePieces facts meter opening left text [] = Unit {0}
ArePieces facts meter opening left text (piece ∷ earlier) =
    IsPiece facts meter opening (left_after left earlier) (text_after text earlier) piece
    × ArePieces facts meter opening left text earlier

-- If no record added between chunks voids (withdraws) an entry that the meter had at the beginning,
-- then the chunks form one response. The written text and the remaining text together are then the
-- response as of its beginning.
abbrev pub PiecesAreWhole : Type 0
PiecesAreWhole = (facts : List Fact) (meter : List ℕ) (opening : Opening) (left : RemainingRows)
    (text : List ℕ) (pieces : List Piece) → opening_of facts meter ≡ Some opening
    → left.meter ≡ Some meter → IsSettled facts left
    → ArePieces facts meter opening left text pieces
    → text_after text pieces ++ text_left facts (left_after left pieces)
    ≡ text ++ text_left facts left
