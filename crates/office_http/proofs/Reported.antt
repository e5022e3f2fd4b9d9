-- Lemmas: an energy report that is streamed row by row as an HTTP response is complete, only
-- reports a refusal, or is cut off after some rows.
use Rattle.std.proofs.Common.{◌≡◌, ◌∙◌, ◌⊎◌, true, ℕ, zero, suc, ◌+◌, ◌<◌, ◌≤◌, List, [], ◌∷◌, ◌++◌, length, take, drop, Option, Some, None, Result, Ok, Err, inl, inr, refl, sym, ap, subst, arith, append_assoc}
use Rattle.std.specs.Prelude.{flat_map}
use Rattle.std.specs.Option.{option_and_then}
use Rattle.std.proofs.lemmas.Bool.Decides.{nat_tests}
use Rattle.std.proofs.lemmas.Grind.{flat_map-append}
use Rattle.std.proofs.lemmas.List.{take-append-drop}
use Rattle.interval_core.specs.Report.{day_line}
use Rattle.office_events.specs.declared.refusals.Refusal.{Refusal}
use Rattle.office_events.specs.declared.refusals.Refusal.TheVariants as refusal
use Rattle.office_events.specs.declared.facts.Register.{Register}
use Rattle.office_books.specs.Facts.{register_of}
use Rattle.office_books.specs.History.{History, facts_of}
use Rattle.office_books.specs.Ledgers.{Ledger}
use Rattle.office_books.specs.Rows.{TakesAll}
use Rattle.office_core.specs.Asking.{HandsDays, HandsRows, IsFound, is_there, or_not_found, rows_in}
use Rattle.office_core.specs.Failing.{IsOutside}
use Rattle.office_core.specs.Standing.{books_in, is_stopped}
use Rattle.office_core.specs.Taking.{failures_of}
use Rattle.office_core.specs.declared.office.Office.{Office as Run}
use Rattle.interval_core.specs.Lines.{days_text, end_line}
use Rattle.office_http.specs.Messages.Sending.Replies.{text_head}
use Rattle.office_http.specs.Messages.Sending.Sending as sending
use Rattle.office_http.specs.Messages.Sending.Sending.{OnlyGives, Outgoing}
use Rattle.office_http.proofs.MessagesLemmas.SendingLemmas.Giving.{Puts-none, Puts-then}
use Rattle.office_http.specs.Messages.Routing.Routes.{routes}
use Rattle.office_http.specs.Messages.Offices.{Office}
use Rattle.office_http.specs.Messages.Replies.{lines_reply, refused, reply_bytes}
use Rattle.office_http.specs.Messages.WholeResponses.{IsReply}
use Rattle.office_http.specs.Rows.Reports.{EndsReport, PutsLine, Report, counted, head_before, rows_begun}
use Rattle.office_http.proofs.RowsLemmas.Reports.{first_put}
use Rattle.office_http.specs.Wants.Wanting.{AsksNothing}
use Rattle.office_http.specs.Answering.{AnswersAt, IsRegister}
use Rattle.office_http.specs.Serving.{Puts}
use Rattle.office_core.proofs.Taken.{outside_more}
use Rattle.office_http.proofs.Served.{StandsStill}

abbrev most : ℕ
most = 18446744073709551615

-- The text lines of a report's rows, followed by the last line, which has the number of rows.
abbrev pub report_text : {T : Type 0} → (line : T → List ℕ) → List T → List ℕ
report_text line rows = flat_map line rows ++ end_line (length rows)

-- True if a function that visits one row of a report writes this row as one line of the report.
abbrev pub takes_lines : {T : Type 0} → (line : T → List ℕ) → Report → T → Report → Type 0
takes_lines line old row new = PutsLine (line row) old new

counted_is : (n count : ℕ) → count ≡ counted (0 + n) → n ≤ most → count ≡ n
counted_is n count is few = grind (arith, nat_tests)

head_later : (count : ℕ) → 0 < count → head_before count ≡ []
head_later count h = grind (arith, nat_tests)

count_from : (start n : ℕ) (count : ℕ) → start ≡ 0 → count ≡ counted (start + n) → count ≡ counted (0 + n)
count_from start n count none is = is ∙ ap (λ s. counted (s + n)) none

whole_at : {T : Type 0} (line : T → List ℕ) (rows : List T)
    → rows_begun line rows ++ (head_before (length rows) ++ end_line (length rows)) ≡ text_head ++ report_text line rows
whole_at line [] = refl
whole_at line (row ∷ rows) =
    let lines = flat_map line (row ∷ rows) in
    let end = end_line (length (row ∷ rows)) in
    ap (λ head. (text_head ++ lines) ++ (head ++ end)) (head_later (length (row ∷ rows)) (omega arith)) ∙ append_assoc text_head lines end

-- If a report ended after all its rows, then its text is the text of the complete report.
ended_whole : {T : Type 0} (line : T → List ℕ) (rows : List T) (start lines : Report) (out : Outgoing) (cut : Option Refusal)
    → TakesAll (takes_lines line) start rows lines → start.count ≡ 0 → length rows ≤ most → EndsReport lines (Ok tt) out cut
    → sending.Puts start.out out (text_head ++ report_text line rows) × (cut ≡ None)
ended_whole line rows start lines out cut took none few ends =
    let first = first_put line start lines rows none took in
    let count = counted_is (length rows) lines.count (count_from start.count (length rows) lines.count none first.counts) few in
    let end = subst (λ n. sending.Puts lines.out out (head_before n ++ end_line n)) count ends.0 in
    (subst (sending.Puts start.out out) (whole_at line rows) (Puts-then first.puts end), ends.1)

-- If a query is refused before the first row of its report, then the response reports the refusal.
ended_refused : (start lines : Report) (why : Refusal) (out : Outgoing) (cut : Option Refusal) → lines ≡ start → start.count ≡ 0
    → EndsReport lines (Err why) out cut → sending.Puts start.out out (reply_bytes (refused why)) × (cut ≡ None)
ended_refused start lines why out cut same none ends =
    let end = ends.0 (ap (λ (r : Report). r.count) same ∙ none) in
    (subst (λ (r : Report). sending.Puts r.out out (reply_bytes (refused why))) same end.0, end.1)

-- If a report was cut off, then it lacks the lines of the remaining rows and the last line, which
-- has the number of rows.
missing_is : {T : Type 0} (line : T → List ℕ) (rows first : List T) (n : ℕ) (row : T) (rest : List T) → first ≡ take n rows → first ≡ row ∷ rest
    → text_head ++ report_text line rows ≡ (text_head ++ flat_map line first) ++ (flat_map line (drop n rows) ++ end_line (length rows))
missing_is line rows first n row rest is some =
    let end = end_line (length rows) in
    let all : flat_map line rows ≡ flat_map line first ++ flat_map line (drop n rows) =
    ap (flat_map line) (sym (take-append-drop n rows)) ∙ flat_map-append line (take n rows) (drop n rows)
    ∙ ap (λ f. flat_map line f ++ flat_map line (drop n rows)) (sym is) in
    ap (λ t. text_head ++ (t ++ end)) all
    ∙ ap (λ t. text_head ++ t) (append_assoc (flat_map line first) (flat_map line (drop n rows)) end)
    ∙ sym (append_assoc text_head (flat_map line first) (flat_map line (drop n rows) ++ end))

some_rows : (n count : ℕ) → count ≡ counted (0 + suc n) → 0 < count
some_rows n count is = grind (arith, nat_tests)

below : {n : ℕ} → n < 18446744073709551616 → n ≤ most
below h = omega (arith, h)

-- The result `Ok` of a query for rows: the sink (the consumer of the rows) got all rows.
abbrev whole_answer : Unit {0} → Result (Unit {0}) Refusal
whole_answer x = Ok x

abbrev refused_answer : Refusal → Result (Unit {0}) Refusal
refused_answer why = Err why

not_found : (x : Unit {0}) → whole_answer x ≡ or_not_found None → ⊥
not_found x is = cc is

found_not : (why : Refusal) → refused_answer why ≡ or_not_found (Some tt) → ⊥
found_not why is = cc is

unknown : (why : Refusal) → refused_answer why ≡ or_not_found None → refusal.NotFound ≡ why
unknown why is = cc is

there : (u : Unit {0}) → Some u ≡ None → ⊥
there u is = cc is

abbrev no_rows : (T : Type 0) → List T
no_rows T = []

nil_take : {T : Type 0} (n : ℕ) → take n (no_rows T) ≡ []
nil_take zero = refl
nil_take (suc n) = refl

module _ {B : Type 0} (ledger : B → Ledger) (past : History) (at : ℕ) (read : List ℕ) (old new : Run B) where
  -- States that if the reason of a refusal is `Stopped`, then the program already refused all
  -- events before the query.
  abbrev Reported : Refusal → Type 0
  Reported why = why ≡ refusal.Stopped → is_stopped old ≡ true

  abbrev Answers : Result (Unit {0}) Refusal → Type 0
  Answers answer = answer ≡ Err refusal.Stopped → is_stopped old ≡ true

  -- If all rows of a report and its last line were written without a failure, then the written
  -- bytes are the complete response.
  whole_served : (text : List ℕ) (from out : Outgoing) (cut : Option Refusal) → failures_of ledger new ≡ failures_of ledger old → AsksNothing routes read
      → ((office : Office) → AnswersAt (ledger (books_in old)).zone past at office → IsReply office routes read (text_head ++ text))
      → StandsStill ledger past old new → sending.Puts from out (text_head ++ text) × (cut ≡ None) → Puts ledger past at read old new from out cut
  whole_served text from out cut count nothing replies stands put =
      subst (Puts ledger past at read old new from out) (sym put.1) (record {
        put = text_head ++ text;
        serves = record {
          reply = text_head ++ text;
          is_put = refl;
          later = past;
          served = inl (record { replies = replies; asked = None; asks = nothing; accepts = refl }, count);
          stands = stands.stands;
          leaves = inr (refl, stands.keeps);
        };
        puts = put.0;
      })

  -- If the store has no object with the name in a query, then the response reports that the name is
  -- unknown.
  unknown_served : (why : Refusal) (from out : Outgoing) (cut : Option Refusal) → failures_of ledger new ≡ failures_of ledger old → AsksNothing routes read
      → ((office : Office) → AnswersAt (ledger (books_in old)).zone past at office → IsReply office routes read (reply_bytes (refused why)))
      → StandsStill ledger past old new → sending.Puts from out (reply_bytes (refused why)) × (cut ≡ None) → Puts ledger past at read old new from out cut
  unknown_served why from out cut count nothing replies stands put =
      subst (Puts ledger past at read old new from out) (sym put.1) (record {
        put = reply_bytes (refused why);
        serves = record {
          reply = reply_bytes (refused why);
          is_put = refl;
          later = past;
          served = inl (record { replies = replies; asked = None; asks = nothing; accepts = refl }, count);
          stands = stands.stands;
          leaves = inr (refl, stands.keeps);
        };
        puts = put.0;
      })

  -- If the store fails before the first row of a report, then the response that reports this
  -- failure is the complete response.
  failed_served : (takes_memory : Type 0) (why : Refusal) (from out : Outgoing) (cut : Option Refusal) → IsOutside takes_memory (failures_of ledger old) (failures_of ledger new) why → Reported why
      → StandsStill ledger past old new → sending.Puts from out (reply_bytes (refused why)) × (cut ≡ None) → Puts ledger past at read old new from out cut
  failed_served takes_memory why from out cut outside reported stands put =
      subst (Puts ledger past at read old new from out) (sym put.1) (record {
        put = reply_bytes (refused why);
        serves = record {
          reply = reply_bytes (refused why);
          is_put = refl;
          later = past;
          served = inr record { why = why; stopped = reported; outside = outside_more takes_memory (Unit {0}) _ _ why (λ takes. tt) outside; reports = refl; unchanged = refl };
          stands = stands.stands;
          leaves = inr (refl, stands.keeps);
        };
        puts = put.0;
      })

  -- If the store fails after a row of a report, then the HTTP response is cut off.
  cut_served : (why : Refusal) (text put rows : List ℕ) (count : ℕ) (from to out : Outgoing) (cut : Option Refusal) → IsOutside ⊥ (failures_of ledger old) (failures_of ledger new) why
      → AsksNothing routes read
      → ((office : Office) → AnswersAt (ledger (books_in old)).zone past at office → IsReply office routes read text)
      → StandsStill ledger past old new → text ≡ put ++ (rows ++ end_line count) → sending.Puts from to put → (out ≡ to) × (cut ≡ Some why) → Puts ledger past at read old new from out cut
  cut_served why text put rows count from to out cut outside nothing replies stands is puts ends =
      subst (Puts ledger past at read old new from out) (sym ends.1) (record {
        put = put;
        serves = record {
          reply = text;
          is_put = record { rows = rows; count = count; lacks = is };
          later = past;
          served = (record { replies = replies; asked = None; asks = nothing; accepts = refl }, outside);
          stands = stands.stands;
          leaves = inr (refl, stands.keeps);
        };
        puts = subst (λ o. sending.Puts from o put) (sym ends.0) puts;
      })

  -- If the store fails after some rows of a report, then the written bytes are the response's head
  -- and the lines of these rows.
  after_rows : {T : Type 0} (line : T → List ℕ) (rows first : List T) (n : ℕ) (start lines : Report) (why : Refusal) (out : Outgoing) (cut : Option Refusal)
      → first ≡ take n rows → TakesAll (takes_lines line) start first lines → start.count ≡ 0 → EndsReport lines (Err why) out cut
      → IsOutside ⊥ (failures_of ledger old) (failures_of ledger new) why → Reported why → AsksNothing routes read
      → ((office : Office) → AnswersAt (ledger (books_in old)).zone past at office → IsReply office routes read (text_head ++ report_text line rows))
      → StandsStill ledger past old new → Puts ledger past at read old new start.out out cut
  after_rows line rows [] n start lines why out cut is took none ends outside reported nothing replies stands =
      failed_served ⊥ why start.out out cut outside reported stands (ended_refused start lines why out cut took none ends)
  after_rows line rows (row ∷ rest) n start lines why out cut is took none ends outside reported nothing replies stands =
      let first = row ∷ rest in
      let begun = first_put line start lines first none took in
      let some : 0 < lines.count = some_rows (length rest) lines.count (count_from start.count (length first) lines.count none begun.counts) in
      cut_served why (text_head ++ report_text line rows) (text_head ++ flat_map line first) (flat_map line (drop n rows)) (length rows)
      start.out lines.out out cut outside nothing replies stands (missing_is line rows first n row rest is refl) begun.puts (ends.1 some)

  -- The response to a query for the rows of a meter is the complete report, a refusal, or a report
  -- that was cut off.
  pub rows_reported : {T : Type 0} (line : T → List ℕ) (rows : Option (List T)) (start lines : Report) (answer : Result (Unit {0}) Refusal) (out : Outgoing) (cut : Option Refusal)
      → HandsRows (takes_lines line) rows (failures_of ledger old) (failures_of ledger new) start lines answer → start.count ≡ 0 → EndsReport lines answer out cut
      → length (rows_in rows) ≤ most → AsksNothing routes read
      → ((office : Office) → AnswersAt (ledger (books_in old)).zone past at office → IsReply office routes read (reply_bytes (lines_reply (report_text line) (or_not_found rows))))
      → StandsStill ledger past old new → Answers answer → Puts ledger past at read old new start.out out cut
  rows_reported line None start lines (Ok x) out cut hands none ends few nothing replies stands reported = elim hands.answer [
    | inl is ↦ absurd (not_found x is.0)
    | inr fails ↦ absurd fails
  ]
  rows_reported line (Some rows) start lines (Ok x) out cut hands none ends few nothing replies stands reported = elim hands.answer [
    | inl is ↦ whole_served (report_text line rows) start.out out cut is.1 nothing replies stands (ended_whole line rows start lines out cut hands.whole none few ends)
    | inr fails ↦ absurd fails
  ]
  rows_reported line None start lines (Err why) out cut hands none ends few nothing replies stands reported =
      let same : lines ≡ start = subst (λ rs. TakesAll (takes_lines line) start rs lines) (nil_take hands.begun.0) hands.begun.1 in
      let put = ended_refused start lines why out cut same none ends in
      elim hands.answer [
        | inl is ↦ unknown_served why start.out out cut is.1 nothing (λ office answers. subst (λ w. IsReply office routes read (reply_bytes (refused w))) (unknown why is.0) (replies office answers)) stands put
        | inr fails ↦ failed_served ⊥ why start.out out cut fails (λ is. reported (ap Err is)) stands put
      ]
  rows_reported line (Some rows) start lines (Err why) out cut hands none ends few nothing replies stands reported = elim hands.answer [
    | inl is ↦ absurd (found_not why is.0)
    | inr fails ↦ after_rows line rows (take hands.begun.0 rows) hands.begun.0 start lines why out cut refl hands.begun.1 none ends fails (λ is. reported (ap Err is)) nothing replies stands
  ]

  -- If the query for the daily energy of an accounting register (a named energy counter) succeeds,
  -- then the response is the complete report.
  days_whole : (name : Option (List ℕ)) (start lines : Report) (x : Unit {0}) (out : Outgoing) (cut : Option Refusal)
      → HandsDays (takes_lines day_line) (ledger (books_in old)).zone (facts_of past) name (failures_of ledger old) (failures_of ledger new) start lines (Ok x)
      → start.count ≡ 0 → EndsReport lines (Ok x) out cut → AsksNothing routes read
      → ((office : Office) → IsReply office routes read (reply_bytes (lines_reply days_text (office.days name))))
      → StandsStill ledger past old new → (found : Option (Unit {0})) → is_there (option_and_then (register_of (facts_of past)) name) ≡ found
      → IsFound (found ≡ Some tt) found (failures_of ledger old) (failures_of ledger new) (Ok x) → Puts ledger past at read old new start.out out cut
  days_whole name start lines x out cut hands none ends nothing replies stands found is (inr fails) = absurd fails
  days_whole name start lines x out cut hands none ends nothing replies stands None is (inl so) = absurd (not_found x so.0)
  days_whole name start lines x out cut hands none ends nothing replies stands (Some u) is (inl so) =
      let reported = hands.whole in
      let known : IsRegister (facts_of past) name = λ lacks. there u (sym is ∙ ap is_there lacks) in
      whole_served (report_text day_line reported.days) start.out out cut so.1 nothing
      (λ office answers. subst (λ a. IsReply office routes read (reply_bytes (lines_reply days_text a))) (answers.days.known name reported.days known reported.are) (replies office)) stands
      (ended_whole day_line reported.days start lines out cut reported.took none (below reported.few) ends)

  days_refused : (name : Option (List ℕ)) (start lines : Report) (why : Refusal) (out : Outgoing) (cut : Option Refusal)
      → lines ≡ start → start.count ≡ 0 → EndsReport lines (Err why) out cut → AsksNothing routes read
      → ((office : Office) → IsReply office routes read (reply_bytes (lines_reply days_text (office.days name))))
      → StandsStill ledger past old new → Reported why → (found : Option Register) → option_and_then (register_of (facts_of past)) name ≡ found
      → IsFound (is_there found ≡ Some tt) (is_there found) (failures_of ledger old) (failures_of ledger new) (Err why) → Puts ledger past at read old new start.out out cut
  days_refused name start lines why out cut same none ends nothing replies stands reported found is (inr fails) =
      failed_served (is_there found ≡ Some tt) why start.out out cut fails reported stands (ended_refused start lines why out cut same none ends)
  days_refused name start lines why out cut same none ends nothing replies stands reported (Some r) is (inl so) = absurd (found_not why so.0)
  days_refused name start lines why out cut same none ends nothing replies stands reported None is (inl so) =
      unknown_served why start.out out cut so.1 nothing
      (λ office answers. subst (λ w. IsReply office routes read (reply_bytes (refused w))) (unknown why so.0)
      (subst (λ a. IsReply office routes read (reply_bytes (lines_reply days_text a))) (answers.days.unknown name is) (replies office))) stands
      (ended_refused start lines why out cut same none ends)

  pub days_reported : (name : Option (List ℕ)) (start lines : Report) (answer : Result (Unit {0}) Refusal) (out : Outgoing) (cut : Option Refusal)
      → HandsDays (takes_lines day_line) (ledger (books_in old)).zone (facts_of past) name (failures_of ledger old) (failures_of ledger new) start lines answer
      → start.count ≡ 0 → EndsReport lines answer out cut → AsksNothing routes read
      → ((office : Office) → IsReply office routes read (reply_bytes (lines_reply days_text (office.days name))))
      → StandsStill ledger past old new → Answers answer → Puts ledger past at read old new start.out out cut
  days_reported name start lines (Ok x) out cut hands none ends nothing replies stands reported =
      days_whole name start lines x out cut hands none ends nothing replies stands (is_there (option_and_then (register_of (facts_of past)) name)) refl hands.answer
  days_reported name start lines (Err why) out cut hands none ends nothing replies stands reported =
      days_refused name start lines why out cut hands.none none ends nothing replies stands (λ is. reported (ap Err is)) (option_and_then (register_of (facts_of past)) name) refl hands.answer

zero_or_more : (n : ℕ) → (n ≡ 0) ⊎ (0 < n)
zero_or_more zero = inl refl
zero_or_more (suc n) = inr (omega arith)

-- The end of a report only appends text to the response, even if the report is cut off.
ended_gives : (lines : Report) (answer : Result (Unit {0}) Refusal) (out : Outgoing) (cut : Option Refusal) → EndsReport lines answer out cut
    → (text : List ℕ) × sending.Puts lines.out out text
ended_gives lines (Ok x) out cut ends = (_, ends.0)
ended_gives lines (Err why) out cut ends = elim (zero_or_more lines.count) [
  | inl none ↦ (_, (ends.0 none).0)
  | inr some ↦ ([], subst (λ o. sending.Puts lines.out o []) (sym (ends.1 some).0) (Puts-none lines.out))
]

pub lines_give : {T : Type 0} (line : T → List ℕ) (rows : List T) (start lines : Report) (answer : Result (Unit {0}) Refusal) (out : Outgoing) (cut : Option Refusal)
    → TakesAll (takes_lines line) start rows lines → start.count ≡ 0 → EndsReport lines answer out cut → OnlyGives start.out out
lines_give line rows start lines answer out cut took none ends =
    (Puts-then (first_put line start lines rows none took).puts (ended_gives lines answer out cut ends).1).link
