-- Proof that entering an input (a text of request lines) a second time has no effect. Each of its
-- lines is answered as a retry.
use Rattle.std.proofs.Common.{◌≡◌, ℤ, pos, ◌⊎◌, inl, inr, ℕ, Bool, true, false, List, [], ◌∷◌, ◌++◌, Option, Some, None, Result, Ok, Err, refl, sym, ap, subst, ◌∙◌, append_assoc}
use Rattle.std.specs.Prelude.{IsOk, if◌then◌else◌}
use Rattle.command_io.specs.Lines.{Line}
use Rattle.script_text.specs.LineWords.Words.{words_of}
use Rattle.script_text.specs.declared.script.ScriptLine.{ScriptLine}
use Rattle.office_events.specs.declared.answers.Answer.{Answer}
use Rattle.office_events.specs.declared.answers.Answer.TheVariants as answer
use Rattle.office_events.specs.declared.answers.CommandKind.{CommandKind}
use Rattle.office_events.specs.declared.events.Asked.{Asked}
use Rattle.office_events.specs.declared.events.Event.{Event}
use Rattle.office_events.specs.declared.events.Event.TheVariants as event
use Rattle.office_events.specs.declared.facts.Fact.{Fact}
use Rattle.office_events.specs.declared.refusals.Refusal.{Refusal}
use Rattle.office_books.specs.Facts.{reply_of}
use Rattle.office_books.specs.History.{Fed, History, facts_of, kind_of, next_poll, slots_of}
use Rattle.office_books.specs.Refusals.{AreAccepted, IsAccepted, answer_of, decision_of, is_start, kept_of, reads_in_all, refusal_of, sent_count, unless_kept, unless_refused, with_answer}
use Rattle.office_books.specs.Repeats.{as_repeat}
use Rattle.office_books.specs.declared.books.Repeat.{Repeat}
use Rattle.office_books.specs.declared.failures.Failures.{Failures}
use Rattle.office_core.specs.EventRun.{Answered}
use Rattle.office_core.specs.Failing.{FailsOutside}
use Rattle.office_core.specs.Taking.{IsAnswer}
use Rattle.office_core.proofs.Taken.{outside_more}
use Rattle.office_program.specs.declared.entering.entries.Entry.{Entry}
use Rattle.office_program.specs.declared.entering.entries.Entry.TheVariants as entry
use Rattle.office_program.specs.declared.entering.wanted.Wanted.{Wanted}
use Rattle.office_program.specs.declared.entering.wanted.Wanted.TheVariants as wanted
use Rattle.office_program.specs.Entering.FileLines.{FileLine}
use Rattle.office_program.specs.Entering.Marks.{is_marked, unmarked}
use Rattle.office_program.specs.Entering.Lines.{IsEntry, IsFileEntry, IsListEntry, IsReadEntry, IsScriptEntry, IsWantedEntry, Reporting, asked_by, file_request, wanted_in}
use Rattle.office_program.specs.Entering.ReadLines.{IsNoRead, asked_at, number_of}
use Rattle.office_program.specs.declared.entering.read_line.ReadRequest.{ReadRequest}
use Rattle.office_program.specs.Entering.Course.{AreAnswered, AreComing, Came, Doubted, Faulty, IsCameAnswered, IsCameOf, IsShown, Taken, Undecided, Unread, history_with, lines_with, with_came}
use Rattle.office_program.specs.Entering.Doubts.{doubt_of, repeat_in}
use Rattle.office_program.specs.Entering.Course as course
use Rattle.office_program.specs.Entering.Repeats.{ActsNoMore, AreSteady, HasActed, HasRepeated, HaveActed, InputsActOnce, IsRepeated, IsSameRequest, RequestsAreRepeated}
use Rattle.office_program.proofs.EnteringLemmas.Doubts.{kept_undoubted}
use Rattle.office_program.proofs.EnteringLemmas.FileWords.{one_line}
use Rattle.office_program.proofs.EnteringLemmas.ReadWords.{one_line as one_read}
use Rattle.office_program.proofs.EnteringLemmas.Kept.{Keeps, accepted_before, answers, keeps_first, keeps_on, kept_again}

-- Lemmas: a retry of a stored request gets the answer `Again` (executed earlier), also after later
-- events.

decided : (history : History) (at : ℕ) (e : Event) (kind : CommandKind) → kept_of (facts_of history) e ≡ Some (Ok kind)
    → decision_of history at e ≡ Ok (answer.Again kind)
decided history at e kind kept =
    ap (unless_kept (unless_refused (answer_of (slots_of history) (facts_of history) at e) (refusal_of history at e))) kept

pub requests_are_repeated : RequestsAreRepeated
requests_are_repeated past more at again_at asked again accepted same =
    let history = more ++ Fed at (event.Asked asked) ∷ past in
    let kept = keeps_on more (Fed at (event.Asked asked) ∷ past) asked (kind_of asked.command) accepted
    (keeps_first past at asked (accepted_before more (Fed at (event.Asked asked) ∷ past) accepted)) in
    decided history again_at (event.Asked again) (kind_of asked.command)
    (answers (facts_of history) asked again (kind_of asked.command) same.caller same.number same.request kept)

-- Lemmas: all parsed forms of an input line make the same request (same caller, number and bytes).

-- The request of an input line with `@read`, for an arbitrary reading of the counter, which
-- replaces this placeholder. The request's caller, number and bytes identify a retry, and do not
-- depend on the reading.
abbrev asked_like : ReadRequest → Asked
asked_like read = asked_at read 0 (pos 0)

abbrev SameEntry : Entry → Entry → Type 0
SameEntry (entry.Ask a) (entry.Ask b) = IsSameRequest a b
SameEntry (entry.Read a) (entry.Read b) = IsSameRequest (asked_like a) (asked_like b)
SameEntry (entry.Faulty a) (entry.Faulty b) = Unit {0}
SameEntry _ _ = ⊥

by_request : (caller : Option (List ℕ)) (number : ℕ) (request : List ℕ) (a b : Asked)
    → a.caller ≡ caller → b.caller ≡ caller → a.number ≡ number → b.number ≡ number → a.request ≡ request → b.request ≡ request → IsSameRequest a b
by_request caller number request a b ca cb na nb ra rb = record { caller = cb ∙ sym ca; number = nb ∙ sym na; request = rb ∙ sym ra }

same_list : (caller : Option (List ℕ)) (number : ℕ) (device : Option (List ℕ)) (text request : List ℕ) (a b : Entry)
    → IsListEntry caller number device text request a → IsListEntry caller number device text request b → SameEntry a b
same_list caller number device text request (entry.Ask a) (entry.Ask b) first second =
    by_request caller number request a b (ap (λ (x : Asked). x.caller) first.2) (ap (λ (x : Asked). x.caller) second.2)
    (ap (λ (x : Asked). x.number) first.2) (ap (λ (x : Asked). x.number) second.2)
    (ap (λ (x : Asked). x.request) first.2) (ap (λ (x : Asked). x.request) second.2)
same_list caller number device text request (entry.Ask a) (entry.Faulty b) first second = absurd (second.0 first.1.points.faultless)
same_list caller number device text request (entry.Faulty a) (entry.Ask b) first second = absurd (first.0 second.1.points.faultless)
same_list caller number device text request (entry.Faulty a) (entry.Faulty b) first second = tt
same_list caller number device text request (entry.Ask a) (entry.Read b) first second = absurd second
same_list caller number device text request (entry.Faulty a) (entry.Read b) first second = absurd second
same_list caller number device text request (entry.Read a) b first second = absurd first

same_command : (a b made : Asked) (x y : Entry) → x ≡ entry.Ask made → y ≡ entry.Ask made → SameEntry x y
same_command a b made x y first second = rw (first, second) (record { caller = refl; number = refl; request = refl })

same_wanted : (caller : Option (List ℕ)) (text : List ℕ) (want : Wanted) (a b : Entry) → IsWantedEntry caller text want a → IsWantedEntry caller text want b → SameEntry a b
same_wanted caller text (wanted.Command number c) a b first second =
    let made = asked_by caller number text c in same_command made made made a b first second
same_wanted caller text (wanted.List number list) a b first second = same_list caller number list.device list.text text a b first second
same_wanted caller text wanted.Nothing a b first second = absurd first

same_script : (caller : Option (List ℕ)) (text : List ℕ) (a b : Entry) → IsScriptEntry caller text a → IsScriptEntry caller text b → SameEntry a b
same_script caller text a b first second =
    let said : second.said ≡ first.said = first.is.only second.said second.is.is in
    same_wanted caller text (wanted_in (is_marked text) first.said) a b first.comes
    (subst (λ (s : ScriptLine). IsWantedEntry caller text (wanted_in (is_marked text) s) b) said second.comes)

same_read : (caller : Option (List ℕ)) (text : List ℕ) (a b : Entry) → IsReadEntry caller text a → IsReadEntry caller text b → SameEntry a b
same_read caller text a b first second =
    let line : second.line ≡ first.line = one_read (words_of (unmarked text)) second.line first.line second.is.is first.is.is in
    rw (first.comes, second.comes) (record { caller = refl; number = ap number_of line; request = refl })

same_unnamed : (caller : Option (List ℕ)) (text : List ℕ) (a b : Entry) → IsReadEntry caller text a ⊎ (IsNoRead text × IsScriptEntry caller text a)
    → IsReadEntry caller text b ⊎ (IsNoRead text × IsScriptEntry caller text b) → SameEntry a b
same_unnamed caller text a b (inl first) (inl second) = same_read caller text a b first second
same_unnamed caller text a b (inl first) (inr second) = absurd (second.0 first.line first.is)
same_unnamed caller text a b (inr first) (inl second) = absurd (first.0 second.line second.is)
same_unnamed caller text a b (inr first) (inr second) = same_script caller text a b first.1 second.1

some_bytes : (a b : List ℕ) → Some a ≡ Some b → a ≡ b
some_bytes a b h = cc h

same_file : (reports : Reporting) (caller : Option (List ℕ)) (text : List ℕ) (a b : Entry) → AreSteady reports → IsFileEntry reports caller text a → IsFileEntry reports caller text b
    → SameEntry a b
same_file reports caller text a b steady first second =
    let line : second.line ≡ first.line = one_line (words_of text) second.line first.line second.is first.is in
    let P : FileLine → Type 0 = λ l. reports.files l.name (Some second.bytes) in
    let reported = subst P line second.reported in
    let bytes : second.bytes ≡ first.bytes = some_bytes second.bytes first.bytes (steady first.line.name (Some second.bytes) (Some first.bytes) reported first.reported) in
    let Q : FileLine → Type 0 = λ l. IsListEntry caller l.number l.device second.bytes (file_request text second.bytes) b in
    let R : List ℕ → Type 0 = λ bs. IsListEntry caller first.line.number first.line.device bs (file_request text bs) b in
    same_list caller first.line.number first.line.device first.bytes (file_request text first.bytes) a b first.comes
    (subst R bytes (subst Q line second.comes))

same_entry : (reports : Reporting) (caller : Option (List ℕ)) (text : List ℕ) (a b : Entry) → AreSteady reports → IsEntry reports caller text a → IsEntry reports caller text b → SameEntry a b
same_entry reports caller text a b steady (inl first) (inl second) = same_file reports caller text a b steady first second
same_entry reports caller text a b steady (inl first) (inr second) = absurd (second.0 first.line first.is)
same_entry reports caller text a b steady (inr first) (inl second) = absurd (first.0 second.line second.is)
same_entry reports caller text a b steady (inr first) (inr second) = same_unnamed caller text a b first.1 second.1

-- Lemmas: the request of an accepted input line is stored.

-- True if the store has the request of an input line, with its answer.
abbrev KeepsEntry : History → Entry → Type 0
KeepsEntry later (entry.Ask asked) = (kind : CommandKind) × Keeps (facts_of later) asked kind
KeepsEntry later (entry.Read read) = (kind : CommandKind) × Keeps (facts_of later) (asked_like read) kind
KeepsEntry later (entry.Faulty rows) = ⊥

-- True if the answer to an accepted request is `Again` (executed earlier), because the request is
-- stored. Also true if the request is not stored and has the answer to a first execution.
abbrev Acted : (history : History) (at : ℕ) (asked : Asked) → Result Answer Refusal → (kept : Option (Result CommandKind Refusal)) → (why : Option Refusal) → Type 0
Acted history at asked result kept why =
    ((kind : CommandKind) × (result ≡ Ok (answer.Again kind)) × (kept ≡ Some (Ok kind)))
    ⊎ ((kept ≡ None) × (why ≡ None) × (result ≡ Ok (answer_of (slots_of history) (facts_of history) at (event.Asked asked))))

acted_by : (history : History) (at : ℕ) (asked : Asked) (result : Result Answer Refusal) (kept : Option (Result CommandKind Refusal)) (why : Option Refusal)
    → result ≡ unless_kept (unless_refused (answer_of (slots_of history) (facts_of history) at (event.Asked asked)) why) kept → IsOk result
    → Acted history at asked result kept why
acted_by history at asked result (Some (Ok kind)) why reported ok = inl (kind, reported, refl)
acted_by history at asked result (Some (Err other)) why reported ok = let never = rw reported at ok in cc never
acted_by history at asked result None None reported ok = inr (refl, refl, reported)
acted_by history at asked result None (Some reason) reported ok = let never = rw reported at ok in cc never

not_outside : (takes_memory : Type 0) (result : Result Answer Refusal) (before after : Failures) → IsOk result → FailsOutside takes_memory before after result → ⊥
not_outside takes_memory (Ok given) before after ok fails = fails
not_outside takes_memory (Err why) before after ok fails = cc ok

-- If an event was answered `Started` or `Done`, then the event is added to the history of accepted
-- events, because it is no retry.
fed_by : (history : History) (at : ℕ) (e : Event) (b : Bool) (first count of : ℕ) (kind : CommandKind)
    → with_answer history at e (Ok (if b then answer.Started first count of else answer.Done kind)) ≡ Fed at e ∷ history
fed_by history at e true first count of kind = refl
fed_by history at e false first count of kind = refl

fed : (history : History) (at : ℕ) (asked : Asked)
    → with_answer history at (event.Asked asked) (Ok (answer_of (slots_of history) (facts_of history) at (event.Asked asked))) ≡ Fed at (event.Asked asked) ∷ history
fed history at asked =
    let c = asked.command in
    fed_by history at (event.Asked asked) (is_start c) (next_poll (facts_of history)) (sent_count (slots_of history) (facts_of history) at c)
    (reads_in_all (facts_of history) c) (kind_of c)

-- True if the history `later` of accepted events is the history `history` with zero or more events
-- after it.
abbrev GrowsTo : History → History → Type 0
GrowsTo later history = (more : History) × (later ≡ more ++ history)

keeps_acted : (later more history : History) (one : Answered) (asked : Asked) → one.event ≡ event.Asked asked
    → later ≡ more ++ with_answer history one.at (event.Asked asked) one.result → AreAccepted later
    → Acted history one.at asked one.result (kept_of (facts_of history) (event.Asked asked)) (refusal_of history one.at (event.Asked asked))
    → KeepsEntry later (entry.Ask asked) × GrowsTo later history
keeps_acted later more history one asked is goes accepted (inl again) =
    let here : later ≡ more ++ history =
    goes ∙ ap (λ (r : Result Answer Refusal). more ++ with_answer history one.at (event.Asked asked) r) again.1 in
    let kept = keeps_on more history asked again.0 (subst AreAccepted here accepted) (kept_again (facts_of history) asked again.0 again.2) in
    let P : History → Type 0 = λ h. Keeps (facts_of h) asked again.0 in
    ((again.0, subst P (sym here) kept), (more, here))
keeps_acted later more history one asked is goes accepted (inr new) =
    let next = Fed one.at (event.Asked asked) ∷ history in
    let here : later ≡ more ++ next =
    goes ∙ ap (λ (r : Result Answer Refusal). more ++ with_answer history one.at (event.Asked asked) r) new.2
    ∙ ap (λ (h : History). more ++ h) (fed history one.at asked) in
    let all = subst AreAccepted here accepted in
    let kept = keeps_on more next asked (kind_of asked.command) all (keeps_first history one.at asked (accepted_before more next all)) in
    let P : History → Type 0 = λ h. Keeps (facts_of h) asked (kind_of asked.command) in (
      (kind_of asked.command, subst P (sym here) kept),
      (more ++ Fed one.at (event.Asked asked) ∷ [], here ∙ sym (append_assoc more (Fed one.at (event.Asked asked) ∷ []) history)),
    )

keeps_asked : (later more history : History) (one : Answered) (asked : Asked) (before after : Failures) → one.event ≡ event.Asked asked
    → later ≡ more ++ with_answer history one.at one.event one.result → AreAccepted later → IsAnswer history one.at one.event before after one.result
    → IsOk one.result → KeepsEntry later (entry.Ask asked) × GrowsTo later history
keeps_asked later more history one asked before after is goes accepted (inl reported) ok =
    let P : Event → Type 0 = λ e. later ≡ more ++ with_answer history one.at e one.result in
    let Q : Event → Type 0 = λ e. one.result ≡ decision_of history one.at e in
    keeps_acted later more history one asked is (subst P is goes) accepted
    (acted_by history one.at asked one.result (kept_of (facts_of history) (event.Asked asked)) (refusal_of history one.at (event.Asked asked)) (subst Q is reported.0) ok)
keeps_asked later more history one asked before after is goes accepted (inr fails) ok = absurd (not_outside (IsAccepted history one.at one.event) one.result before after ok fails)

keeps_same : (facts : List Fact) (asked again : Asked) (kind : CommandKind) → IsSameRequest asked again → Keeps facts asked kind → Keeps facts again kind
keeps_same facts asked again kind same kept = record {
  caller = kept.caller;
  named = same.caller ∙ kept.named;
  reply = kept.reply;
  found = ap (reply_of facts kept.caller) same.number ∙ kept.found;
  bytes = kept.bytes ∙ sym same.request;
  done = kept.done;
}

-- Lemma on an input line with `@read`, which the program replaces by the reading of the meter's
-- counter. The line's request has the same idempotency key and the same bytes for any reading.
like : (read : ReadRequest) (raw : ℕ) (sf : ℤ) → IsSameRequest (asked_at read raw sf) (asked_like read)
like read raw sf = record { caller = refl; number = refl; request = refl }

unlike : (read : ReadRequest) (raw : ℕ) (sf : ℤ) → IsSameRequest (asked_like read) (asked_at read raw sf)
unlike read raw sf = record { caller = refl; number = refl; request = refl }

keeps_entry : (later more history : History) (e : Entry) (came : Came) (before after : Failures) → IsCameOf e came → later ≡ more ++ with_came history came → AreAccepted later
    → IsCameAnswered history before after came → HasActed came → KeepsEntry later e × GrowsTo later history
keeps_entry later more history (entry.Ask asked) (course.Asked one) before after is goes accepted answered ok =
    keeps_asked later more history one asked before after (is.2 ∙ ap event.Asked is.1) goes accepted answered.answer ok
keeps_entry later more history (entry.Read read) (course.Asked one) before after is goes accepted answered ok =
    let asked = asked_at read is.1.0 is.1.1 in
    let done = keeps_asked later more history one asked before after (is.2 ∙ ap event.Asked is.1.2) goes accepted answered.answer ok in
    ((done.0.0, keeps_same (facts_of later) asked (asked_like read) done.0.0 (like read is.1.0 is.1.1) done.0.1), done.1)
keeps_entry later more history (entry.Faulty rows) (course.Asked one) before after is goes accepted answered ok = absurd is.1
keeps_entry later more history e (Faulty rows) before after is goes accepted answered ok = absurd ok
keeps_entry later more history e (Doubted at request mwh) before after is goes accepted answered ok = absurd ok
keeps_entry later more history e (Undecided at request why) before after is goes accepted answered ok = absurd ok
keeps_entry later more history e (Unread at read) before after is goes accepted answered ok = absurd ok

-- Lemmas: if an input line is entered again, then its request is already stored.

repeats_by : (later : History) (a b : Entry) → SameEntry a b → KeepsEntry later a → KeepsEntry later b
repeats_by later (entry.Ask x) (entry.Ask y) same kept = (kept.0, keeps_same (facts_of later) x y kept.0 same kept.1)
repeats_by later (entry.Ask x) (entry.Faulty rows) same kept = absurd same
repeats_by later (entry.Ask x) (entry.Read y) same kept = absurd same
repeats_by later (entry.Read x) (entry.Read y) same kept =
    (kept.0, keeps_same (facts_of later) (asked_like x) (asked_like y) kept.0 same kept.1)
repeats_by later (entry.Read x) (entry.Faulty rows) same kept = absurd same
repeats_by later (entry.Read x) (entry.Ask y) same kept = absurd same
repeats_by later (entry.Faulty rows) b same kept = absurd kept

abbrev LineKept : Reporting → (caller : Option (List ℕ)) → History → Line → Type 0
LineKept reports caller later line = (e : Entry) → IsEntry reports caller line.text e → KeepsEntry later e

line_kept : (reports : Reporting) (caller : Option (List ℕ)) (later : History) (line : Line) (e : Entry) → AreSteady reports → IsEntry reports caller line.text e
    → KeepsEntry later e → LineKept reports caller later line
line_kept reports caller later line e steady is kept = λ other again.
    repeats_by later e other (same_entry reports caller line.text e other steady is again) kept

abbrev EachLine : (Line → Type 0) → List Line → Type 0
EachLine P [] = Unit {0}
EachLine P (line ∷ lines) = P line × EachLine P lines

abbrev EachTaken : (Line → Type 0) → List Taken → Type 0
EachTaken P [] = Unit {0}
EachTaken P (one ∷ earlier) = P one.line × EachTaken P earlier

each_in : (P : Line → Type 0) (taken : List Taken) (rest : List Line) → EachTaken P taken → EachLine P rest → EachLine P (lines_with taken rest)
each_in P [] rest taken more = more
each_in P (one ∷ earlier) rest taken more = each_in P earlier (one.line ∷ rest) taken.1 (taken.0, more)

each_out : (P : Line → Type 0) (again : List Taken) (rest : List Line) → EachLine P (lines_with again rest) → EachTaken P again × EachLine P rest
each_out P [] rest all = (tt, all)
each_out P (two ∷ earlier) rest all = let more = each_out P earlier (two.line ∷ rest) all in ((more.1.0, more.0), more.1.1)

each_kept : (reports : Reporting) (caller : Option (List ℕ)) (taken : List Taken) (past later more : History) (before after : Failures) → AreSteady reports
    → later ≡ more ++ history_with past taken → AreAccepted later → AreComing reports caller past taken → AreAnswered past before after taken → HaveActed taken
    → EachTaken (LineKept reports caller later) taken
each_kept reports caller [] past later more before after steady goes accepted are answered acted = tt
each_kept reports caller (one ∷ earlier) past later more before after steady goes accepted are answered acted =
    let comes = are.0 in
    let here = keeps_entry later more (history_with past earlier) comes.entry one.came answered.0 after comes.comes goes accepted answered.2 acted.0 in (
      line_kept reports caller later one.line comes.entry steady comes.is here.0,
      each_kept reports caller earlier past later here.1.0 before answered.0 steady here.1.1 accepted are.1 answered.1 acted.1,
    )

-- Lemmas: an input line that is entered again has no effect.

outside_same : (takes_memory : Type 0) (history : History) (at : ℕ) (e : Event) (result : Result Answer Refusal) (before after : Failures)
    → FailsOutside takes_memory before after result → with_answer history at e result ≡ history
outside_same takes_memory history at e (Ok given) before after fails = absurd fails
outside_same takes_memory history at e (Err why) before after fails = refl

-- If the store keeps an accepted request with its response, the event engine does not accept this
-- request again.
not_accepted : (later : History) (at : ℕ) (e : Event) (asked : Asked) (kind : CommandKind) → e ≡ event.Asked asked → Keeps (facts_of later) asked kind
    → IsAccepted later at e → ⊥
not_accepted later at e asked kind is keeps accepted =
    let P : Event → Type 0 = λ f. kept_of (facts_of later) f ≡ None in
    let none : Some (Ok kind) ≡ None = sym (answers (facts_of later) asked asked kind refl refl refl keeps) ∙ subst P is accepted.new in
    cc

without_memory : (takes_memory : Type 0) (before after : Failures) (result : Result Answer Refusal) → (takes_memory → ⊥) → FailsOutside takes_memory before after result
    → FailsOutside ⊥ before after result
without_memory takes_memory before after (Ok given) none fails = fails
without_memory takes_memory before after (Err why) none fails = outside_more takes_memory ⊥ before after why none fails

stays_asked : (later : History) (one : Answered) (asked : Asked) (kind : CommandKind) (before after : Failures) → one.event ≡ event.Asked asked
    → Keeps (facts_of later) asked kind → IsAnswer later one.at one.event before after one.result
    → (with_answer later one.at one.event one.result ≡ later) × IsRepeated one.result
stays_asked later one asked kind before after is keeps (inl reported) =
    let Q : Event → Type 0 = λ e. decision_of later one.at e ≡ Ok (answer.Again kind) in
    let decision = subst Q (sym is) (decided later one.at (event.Asked asked) kind (answers (facts_of later) asked asked kind refl refl refl keeps)) in
    let again : one.result ≡ Ok (answer.Again kind) = reported.0 ∙ decision in
    (ap (with_answer later one.at one.event) again, inl (kind, again))
stays_asked later one asked kind before after is keeps (inr fails) =
    let none = not_accepted later one.at one.event asked kind is keeps in
    let takes : Type 0 = IsAccepted later one.at one.event in
    (outside_same takes later one.at one.event one.result before after fails, inr (before, after, without_memory takes before after one.result none fails))

-- If a request is already stored, then its manual entry needs no confirmation.
not_doubted : (facts : List Fact) (at : ℕ) (asked request : Asked) (kind : CommandKind) (mwh : ℕ) → request ≡ asked → Keeps facts asked kind
    → doubt_of facts at request ≡ Some mwh → ⊥
not_doubted facts at asked request kind mwh is keeps doubt =
    let repeat = as_repeat asked.request keeps.reply in
    let kept : repeat_in facts asked ≡ Some repeat = rw (keeps.named, keeps.found) refl in
    let none : (let o : Option ℕ = None in o) ≡ Some mwh = sym (kept_undoubted facts at asked repeat kept) ∙ sym (ap (doubt_of facts at) is) ∙ doubt in
    cc none

kept_repeat : (facts : List Fact) (asked : Asked) (kind : CommandKind) → Keeps facts asked kind → (repeat : Repeat) × (repeat_in facts asked ≡ Some repeat)
kept_repeat facts asked kind keeps = (as_repeat asked.request keeps.reply, rw (keeps.named, keeps.found) refl)

stays_one : (reports : Reporting) (later : History) (e : Entry) (came : Came) (before after : Failures) → IsCameOf e came → IsShown reports (facts_of later) e came
    → KeepsEntry later e → IsCameAnswered later before after came → (with_came later came ≡ later) × HasRepeated came
stays_one reports later (entry.Ask asked) (course.Asked one) before after is shown kept answered =
    stays_asked later one asked kept.0 before after (is.2 ∙ ap event.Asked is.1) kept.1 answered.answer
stays_one reports later (entry.Ask asked) (Faulty rows) before after is shown kept answered = absurd is
stays_one reports later (entry.Ask asked) (Doubted at request mwh) before after is shown kept answered =
    absurd (not_doubted (facts_of later) at asked request kept.0 mwh is kept.1 answered.0)
stays_one reports later (entry.Ask asked) (Undecided at request why) before after is shown kept answered = (refl, (before, after, answered))
stays_one reports later (entry.Ask asked) (Unread at read) before after is shown kept answered = absurd is
stays_one reports later (entry.Read read) (course.Asked one) before after is shown kept answered =
    let asked = asked_at read is.1.0 is.1.1 in
    stays_asked later one asked kept.0 before after (is.2 ∙ ap event.Asked is.1.2)
    (keeps_same (facts_of later) (asked_like read) asked kept.0 (unlike read is.1.0 is.1.1) kept.1) answered.answer
stays_one reports later (entry.Read read) (Faulty rows) before after is shown kept answered = absurd is
stays_one reports later (entry.Read read) (Doubted at request mwh) before after is shown kept answered =
    let asked = asked_at read is.0 is.1 in
    absurd (not_doubted (facts_of later) at asked request kept.0 mwh is.2
    (keeps_same (facts_of later) (asked_like read) asked kept.0 (unlike read is.0 is.1) kept.1) answered.0)
stays_one reports later (entry.Read read) (Undecided at request why) before after is shown kept answered = (refl, (before, after, answered))
stays_one reports later (entry.Read read) (Unread at tried) before after is shown kept answered =
    let repeat = kept_repeat (facts_of later) (asked_like read) kept.0 kept.1 in
    let never : (let o : Option Repeat = None in o) ≡ Some repeat.0 = sym shown.0 ∙ repeat.1 in
    absurd (cc never)
stays_one reports later (entry.Faulty rows) came before after is shown kept answered = absurd kept

stays : (reports : Reporting) (caller : Option (List ℕ)) (later : History) (again : List Taken) (before after : Failures) → EachTaken (LineKept reports caller later) again
    → AreComing reports caller later again → AreAnswered later before after again → ActsNoMore later again
stays reports caller later [] before after kept are answered = record { same = refl; repeated = tt }
stays reports caller later (two ∷ earlier) before after kept are answered =
    let rest = stays reports caller later earlier before answered.0 kept.1 are.1 answered.1 in
    let P : History → Type 0 = λ h. IsCameAnswered h answered.0 after two.came in
    let comes = are.0 in
    let Q : History → Type 0 = λ h. IsShown reports (facts_of h) comes.entry two.came in
    let here = stays_one reports later comes.entry two.came answered.0 after comes.comes (subst Q rest.same comes.shown) (kept.0 comes.entry comes.is)
    (subst P rest.same answered.2) in
    record { same = ap (λ (h : History). with_came h two.came) rest.same ∙ here.0; repeated = (here.1, rest.repeated) }

pub inputs_act_once : (reports : Reporting) → AreSteady reports → InputsActOnce reports
inputs_act_once reports steady caller lines past later taken again entered enters =
    let P : Line → Type 0 = LineKept reports caller later in
    let kept = each_kept reports caller taken past later enters.more entered.before entered.after steady enters.later_is enters.accepted entered.are entered.answered entered.acted in
    let all : EachLine P lines = subst (EachLine P) (sym entered.whole) (each_in P taken [] kept tt) in
    let part = each_out P again enters.rest (subst (EachLine P) enters.part all) in
    stays reports caller later again enters.before enters.after part.0 enters.are enters.answered
