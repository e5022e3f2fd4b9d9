-- Lemmas about the Modbus reads of a scan, which reads a device's chain of SunSpec models. They
-- cover the requests that the scan writes, the bytes that arrive, and the words that the reads
-- return.
use Rattle.std.specs.Prelude.{slice_index}
use Rattle.std.proofs.Common.{◌≡◌, ℕ, ◌+◌, ◌*◌, ◌<◌, ◌≤◌, List, [], ◌∷◌, ◌++◌, length, Option, None, Some, Result, Ok, Bool, true, false, ◌==◌, if◌then◌else◌, drop, map, refl, sym, ap, ◌∙◌, subst, append-nil, append_assoc, length-append, arith, option_map}
use Rattle.std.specs.List.{flat_map}
use Rattle.std.specs.Prelude.{IfSome, Vec, unwrap_or, find}
use Rattle.std.proofs.lemmas.List.Concat.{flat_map-append}
use Rattle.std.specs.Io.KnownBytes.{Appends, Keeps}
use Rattle.std.proofs.KnownBytes.{Appends-nil, Appends-trans, Consumes-kept, Consumes-nil, Consumes-trans, Keeps-refl}
use Rattle.mb_wire.specs.Bytes.{words_of as words_spelled}
use Rattle.mb_wire.specs.Frames.{frames}
use Rattle.mb_wire.specs.Replies.{Exception, WantsRegisters, answer_from, answer_in, is_exception, reply_fault, wanted_by}
use Rattle.mb_wire.specs.Replies.{brought as brought_by}
use Rattle.mb_wire.specs.Reader.{fields_of}
use Rattle.mb_wire.specs.RequestFaults.{value_unless}
use Rattle.mb_wire.specs.Requests.{Query, ReadHolding, ReadInput, query_of}
use Rattle.mb_wire.specs.Spans.{Span, read_request, request_of}
use Rattle.mb_wire.specs.declared.replies.ReplyFault.{ReplyFault}
use Rattle.mb_wire.specs.declared.span.ReadFunction.{ReadFunction}
use Rattle.mb_wire.specs.declared.span.ReadFunction.TheVariants.{HoldingRegisters, InputRegisters}
use Rattle.mb_wire.proofs.Answering.{registers_fit}
use Rattle.sun_chain.specs.Image.{Words}
use Rattle.sun_points.specs.Writing.{GotPart, GotText}
use Rattle.sun_chain.specs.Scanning.Answers.{Ask, brought, is_reply, request_frame, words_in, words_seen}
use Rattle.sun_chain.specs.Scanning.Lines.{AtOnce, Again, Garbles, Hears, HearsAnswer, Inquiry, Line, OnlyInquires, OnlyRequests, Reads, Tries, ask, inquiry_frame, request_under}
use Rattle.sun_chain.specs.Scanning.Scans.{Scans, AsksInTurn, Exchange, Talks, fresh, nothing, append_answer, words_after, words_reported}
use Rattle.sun_chain.specs.Scanning.Stages.{begun, stage_after, wanted}
use Rattle.sun_chain.specs.declared.scans.stage.Stage.{Stage}
use Rattle.sun_chain.specs.declared.scans.stage.Stage.TheVariants.{Mark, Head, Ending, Registers as InModel, Over}
use Rattle.sun_chain.proofs.ScanLemmas.Framing.{open_nil}
use Rattle.sun_chain.proofs.ScanLemmas.Gives.{got_both, part_after}
use Rattle.sun_chain.proofs.ScanLemmas.Settles.{hears_both, hears_nothing}
use Rattle.sun_chain.proofs.ScanLemmas.Potentials.{less_potential, potential}

-- Lemmas about the bytes written to the link (the connection to a device): a read writes at most
-- two requests, and a scan requests only holding registers.

pub requests_one : {X E : Type 0} (unit : ℕ) (span : Span) (id : ℕ) (result : Result X E) (a b : Option (List ℕ)) → GotText result (request_under unit span id) a b → OnlyRequests unit span result a b
requests_one unit span id result a b got =
    (id ∷ [], omega arith, subst (λ (text : List ℕ). GotText result text a b) (sym (append-nil (request_under unit span id))) got)

pub requests_two : {X E : Type 0} (unit : ℕ) (span : Span) (id next : ℕ) (result : Result X E) (a b c : Option (List ℕ)) → Appends a b (request_under unit span id) → GotText result (request_under unit span next) b c → OnlyRequests unit span result a c
requests_two unit span id next result a b c first second = (
  id ∷ next ∷ [],
  omega arith,
  subst (λ (text : List ℕ). GotText result (request_under unit span id ++ text) a c)
      (sym (append-nil (request_under unit span next)))
      (got_both result a b c (request_under unit span id) (request_under unit span next) first second),
)

-- The frame of a request for holding registers is the frame of the `Inquiry` (a request as a value)
-- with the same transaction identifier, address and count.
pub holding_frame : (id unit : ℕ) (function : ReadFunction) (address count : ℕ) → function ≡ HoldingRegisters
    → request_frame (record { id = id; unit = unit; span = record { function = function; address = address; count = count } }) ≡ inquiry_frame unit (record { id = id; address = address; count = count })
holding_frame id unit function address count is =
    ap (λ (f : ReadFunction). request_frame (record { id = id; unit = unit; span = record { function = f; address = address; count = count } })) is

abbrev inquiry_of : Span → ℕ → Inquiry
inquiry_of span id = record { id = id; address = span.address; count = span.count }

same_frames : (unit : ℕ) (span : Span) (ids : List ℕ) → span.function ≡ HoldingRegisters → flat_map (request_under unit span) ids ≡ flat_map (inquiry_frame unit) (map (inquiry_of span) ids)
same_frames unit span [] is = refl
same_frames unit span (id ∷ ids) is =
    ap (λ (y : List ℕ). request_under unit span id ++ y) (same_frames unit span ids is)
    ∙ ap (λ (y : List ℕ). y ++ flat_map (inquiry_frame unit) (map (inquiry_of span) ids)) (holding_frame id unit span.function span.address span.count is)

pub inquires_of : {X E : Type 0} (unit : ℕ) (span : Span) (result : Result X E) (a b : Option (List ℕ)) → span.function ≡ HoldingRegisters → OnlyRequests unit span result a b → OnlyInquires unit result a b
inquires_of unit span result a b is requests =
    (map (inquiry_of span) requests.0, subst (λ (text : List ℕ). GotText result text a b) (same_frames unit span requests.0 is) requests.2)

same_function : (one other : Span) → Some one ≡ Some other → one.function ≡ other.function
same_function one other is = let same : one ≡ other = cc in ap (λ (s : Span). s.function) same

-- Every read of a scan requests holding registers.
pub wanted_holding : (stage : Stage) (span : Span) → Some span ≡ wanted stage → span.function ≡ HoldingRegisters
wanted_holding (Mark at) span is = same_function span _ is
wanted_holding (Head at models) span is = same_function span _ is
wanted_holding (Ending at) span is = same_function span _ is
wanted_holding (InModel model asked models) span is = same_function span _ is
wanted_holding Over span is = cc

-- Lemmas about the bytes that arrive over the link (the connection to a device). A call that reads
-- nothing may precede the reads, and the bytes of consecutive reads are concatenated.

pub hears_kept : (a b c : Option (List ℕ)) (r s came : List ℕ) → Keeps a b → Hears b c r s came → Hears a c r s came
hears_kept a b c r s came kept heard = record {
  took = Consumes-trans a b c [] came (Consumes-kept a a b [] (Consumes-nil a) kept) heard.took;
  read = heard.read;
  is_open = heard.is_open;
}

pub answer_kept : (one : Ask) (a b c : Option (List ℕ)) (r s : List ℕ) (words : Option (List ℕ)) → Keeps a b → HearsAnswer one b c r s words → HearsAnswer one a c r s words
answer_kept one a b c r s words kept heard = record {
  came = heard.came;
  hears = hears_kept a b c r s heard.came kept heard.hears;
  answer = heard.answer;
}

pub garbles_kept : (a b c : Option (List ℕ)) (r : List ℕ) → Keeps a b → Garbles b c r → Garbles a c r
garbles_kept a b c r kept garbles = record {
  came = garbles.came;
  took = Consumes-trans a b c [] garbles.came (Consumes-kept a a b [] (Consumes-nil a) kept) garbles.took;
  bad = garbles.bad;
}

-- The bytes `came` that arrived over the link to the device between the states `a` and `b`.
pub record Heard (a b : Line) : Type 0 where
  pub came : List ℕ
  pub hears : Hears a.bytes b.bytes a.open_bytes b.open_bytes came

pub tries_heard : (unit : ℕ) (a b : Line) (span : Span) (words : Option (List ℕ)) → Tries unit a b span words → Heard a b
tries_heard unit a b span words tries = record { came = tries.heard.came; hears = tries.heard.hears }

pub heard_both : (a b c : Line) → Heard a b → Heard b c → Heard a c
heard_both a b c first next = record {
  came = first.came ++ next.came;
  hears = hears_both a.bytes b.bytes c.bytes a.open_bytes b.open_bytes c.open_bytes first.came next.came first.hears next.hears;
}

pub reads_heard : (unit : ℕ) (a b : Line) (span : Span) (words : Option (List ℕ)) → Reads unit a b span words → Heard a b
reads_heard unit a b span words (AtOnce all is tries) = tries_heard unit a b span words tries
reads_heard unit a b span words (Again mid first next) = heard_both a mid b (tries_heard unit a mid span None first) (tries_heard unit mid b span words next)

-- Lemmas that the number of words in a response is the number of requested registers.

reply_full : (query : Query) (pdu : List ℕ) (quantity : ℕ) (words : List ℕ) → WantsRegisters query quantity → brought (Ok (brought_by (wanted_by query) pdu)) ≡ Some (words_spelled (drop 2 pdu))
    → brought (answer_in query pdu) ≡ Some words → length words ≡ quantity
reply_full query pdu quantity words asks here is = by_fault (reply_fault query pdu) refl is
  where
    plain : is_exception query pdu ≡ false → reply_fault query pdu ≡ None → brought (Ok (brought_by (wanted_by query) pdu)) ≡ Some words → length words ≡ quantity
    plain no_exception faultless brings =
        let equal : Some (words_spelled (drop 2 pdu)) ≡ Some words = sym here ∙ brings in
        let same : words_spelled (drop 2 pdu) ≡ words = cc in
        ap length (sym same) ∙ (registers_fit query pdu quantity faultless no_exception asks).0

    by_exception : (b : Bool) → is_exception query pdu ≡ b → reply_fault query pdu ≡ None → brought (Ok (if b then Exception (slice_index pdu 1) else brought_by (wanted_by query) pdu)) ≡ Some words → length words ≡ quantity
    by_exception true e faultless brings = cc
    by_exception false e faultless brings = plain e faultless brings

    by_fault : (fault : Option ReplyFault) → reply_fault query pdu ≡ fault → brought (value_unless fault (answer_from query pdu)) ≡ Some words → length words ≡ quantity
    by_fault None e brings = by_exception (is_exception query pdu) refl e brings
    by_fault (Some fault) e brings = cc

read_full : (function : ReadFunction) (address count : ℕ) (pdu words : List ℕ) → brought (answer_in (query_of (read_request function address count)) pdu) ≡ Some words → length words ≡ count
read_full HoldingRegisters address count pdu words is = reply_full (ReadHolding address count) pdu count words refl refl is
read_full InputRegisters address count pdu words is = reply_full (ReadInput address count) pdu count words refl refl is

found_full : (one : Ask) (found : Option (List ℕ)) (words : List ℕ) → unwrap_or (option_map (λ frame. words_in one (fields_of frame)) found) None ≡ Some words → length words ≡ one.span.count
found_full one None words is = cc
found_full one (Some frame) words is = by_unit ((fields_of frame).unit == one.unit) is
  where
    by_unit : (b : Bool) → (if b then brought (answer_in (query_of (request_of one.span)) (fields_of frame).pdu) else None) ≡ Some words → length words ≡ one.span.count
    by_unit true is = read_full one.span.function one.span.address one.span.count (fields_of frame).pdu words is
    by_unit false is = cc

pub tries_full : (unit : ℕ) (a b : Line) (span : Span) (answer : Option (List ℕ)) (words : List ℕ) → Tries unit a b span answer → answer ≡ Some words → length words ≡ span.count
tries_full unit a b span answer words tries is =
    found_full (ask unit a span) (find (is_reply (ask unit a span)) (frames (a.open_bytes ++ tries.heard.came))) words (sym tries.heard.answer ∙ is)

pub reads_full : (unit : ℕ) (a b : Line) (span : Span) (answer : Option (List ℕ)) (words : List ℕ) → Reads unit a b span answer → answer ≡ Some words → length words ≡ span.count
reads_full unit a b span answer words (AtOnce all said tries) is = tries_full unit a b span answer words tries is
reads_full unit a b span answer words (Again mid first next) is = tries_full unit mid b span answer words next is

-- Lemmas on a scan (the search for a device's SunSpec models): what follows from its list of reads,
-- if one more read with the words that it returned is appended.

pub same_words : (a b : Words) → ((address : ℕ) → a address ≡ b address) → a ≡ b
same_words a b same = λ i. λ address. same address i

reported_more : (word : Words) (xs : List Exchange) (x : Exchange) → words_reported word (xs ++ x ∷ []) ≡ words_after (words_reported word xs) x
reported_more word [] x = refl
reported_more word (first ∷ xs) x = reported_more (words_after word first) xs x

talks_more : (unit : ℕ) (a : Line) (xs : List Exchange) (x : Exchange) (b c : Line) → Talks unit a xs b → Reads unit b c x.span x.words → Talks unit a (xs ++ x ∷ []) c
talks_more unit a [] x b c talk reads = (c, subst (λ (l : Line). Reads unit l c x.span x.words) (sym talk) reads, refl)
talks_more unit a (first ∷ xs) x b c talk reads = (talk.0, talk.1, talks_more unit talk.0 xs x b c talk.2 reads)

-- True if a scan's exchanges (reads and their results) lead to the given state of the link, the
-- given words and the given stage (what the scan reads next).
pub record Progress (unit : ℕ) (old now : Line) (word : Words) (stage : Stage) (exchanges : List Exchange) : Type 0 where
  pub asked : (later : List Exchange) → AsksInTurn word stage later → AsksInTurn nothing begun (exchanges ++ later)
  pub words : word ≡ words_reported nothing exchanges
  pub talk : Talks unit old exchanges now
  pub few : 125 * length exchanges + potential stage ≤ 82161

pub progress_begun : (unit : ℕ) (old now : Line) (word : Words) (stage : Stage) → word ≡ nothing → stage ≡ begun → old ≡ now → Progress unit old now word stage []
progress_begun unit old now word stage unread is same = record {
  asked = λ later asks. subst (λ (w : Words). AsksInTurn w begun later) unread (subst (λ (s : Stage). AsksInTurn word s later) is asks);
  words = unread;
  talk = same;
  few = subst (λ (s : Stage). 125 * 0 + potential s ≤ 82161) (sym is) (omega arith);
}

pub progress_more : (unit : ℕ) (old now next : Line) (word later : Words) (stage later_stage : Stage) (xs : List Exchange) (x : Exchange) →
    Progress unit old now word stage xs → wanted stage ≡ Some x.span → Reads unit now next x.span x.words → later ≡ words_after word x → later_stage ≡ stage_after later stage →
    Progress unit old next later later_stage (xs ++ x ∷ [])
progress_more unit old now next word later stage later_stage xs x before is reads reported goes =
    let counted : length (xs ++ x ∷ []) ≡ length xs + 1 = length-append xs (x ∷ []) in
    let less : potential (stage_after later stage) + 125 ≤ potential stage = less_potential later stage x.span is in
    let same : potential later_stage ≡ potential (stage_after later stage) = ap potential goes in
    let few : 125 * length xs + potential stage ≤ 82161 = before.few in
    record {
      asked = λ more asks.
          subst (λ (ys : List Exchange). AsksInTurn nothing begun ys) (sym (append_assoc xs (x ∷ []) more))
          (before.asked (x ∷ more) (
            is,
            subst (λ (w : Words). AsksInTurn w (stage_after w stage) more) reported (subst (λ (s : Stage). AsksInTurn later s more) goes asks),
          ));
      words = reported ∙ ap (λ (w : Words). words_after w x) before.words ∙ sym (reported_more nothing xs x);
      talk = talks_more unit old xs x now next before.talk reads;
      few = omega arith;
    }

-- The invariant of a scan for SunSpec models that is in progress, with lemmas that it is true at
-- the start and after each further read.

abbrev pub standing : (bytes given : Option (List ℕ)) (open_bytes : List ℕ) (next : ℕ) → Line
standing bytes given open_bytes next = record { bytes = bytes; given = given; open_bytes = open_bytes; next = next }

pub record Going (unit : ℕ) (old_bytes old_given bytes given : Option (List ℕ)) (asked_unit : ℕ) (open_bytes : List ℕ) (next : ℕ) (word : Words) (stage : Stage) (old_taken taken : ℕ) : Type 0 where
  pub exchanges : List Exchange
  pub progress : Progress unit (fresh old_bytes old_given) (standing bytes given open_bytes next) word stage exchanges
  pub inquired : (inquiries : List Inquiry) × Appends old_given given (flat_map (inquiry_frame unit) inquiries)
  pub unit_is : asked_unit ≡ unit
  pub heard : Heard (fresh old_bytes old_given) (standing bytes given open_bytes next)
  pub takes : taken ≤ old_taken + 2000 * length exchanges

pub going_begun : (unit : ℕ) (bytes given : Option (List ℕ)) (asked_unit : ℕ) (open_bytes : List ℕ) (next : ℕ) (word : Words) (stage : Stage) (taken : ℕ) →
    open_bytes ≡ [] → next ≡ 1 → asked_unit ≡ unit → ((address : ℕ) → word address ≡ None) → stage ≡ begun →
    Going unit bytes given bytes given asked_unit open_bytes next word stage taken taken
going_begun unit bytes given asked_unit open_bytes next word stage taken nothing_open first same unread begins =
    let here : fresh bytes given ≡ standing bytes given open_bytes next =
    ap (λ (o : List ℕ). standing bytes given o 1) (sym nothing_open) ∙ ap (λ (n : ℕ). standing bytes given open_bytes n) (sym first) in
    record {
      exchanges = [];
      progress = progress_begun unit (fresh bytes given) (standing bytes given open_bytes next) word stage (same_words word nothing unread) begins here;
      inquired = ([], Appends-nil given);
      unit_is = same;
      heard = subst (λ (l : Line). Heard (fresh bytes given) l) here (record { came = []; hears = hears_nothing bytes bytes [] open_nil (Keeps-refl bytes) });
      takes = omega arith;
    }

pub going_more : (unit : ℕ) (old_bytes old_given bytes given later_bytes later_given : Option (List ℕ)) (asked_unit later_unit : ℕ) (open_bytes later_open : List ℕ) (next later_next : ℕ) (word later : Words) (stage later_stage : Stage) (old_taken taken later_taken : ℕ) (span : Span) (words : Option (List ℕ)) →
    Going unit old_bytes old_given bytes given asked_unit open_bytes next word stage old_taken taken → wanted stage ≡ Some span →
    Reads asked_unit (standing bytes given open_bytes next) (standing later_bytes later_given later_open later_next) span words →
    ((inquiries : List Inquiry) × Appends given later_given (flat_map (inquiry_frame asked_unit) inquiries)) →
    later_unit ≡ asked_unit → later_taken ≤ taken + 2000 → ((address : ℕ) → later address ≡ append_answer word span.address words address) → later_stage ≡ stage_after later stage →
    Going unit old_bytes old_given later_bytes later_given later_unit later_open later_next later later_stage old_taken later_taken
going_more unit old_bytes old_given bytes given later_bytes later_given asked_unit later_unit open_bytes later_open next later_next word later stage later_stage old_taken taken later_taken span words going is read inquires same few reported goes =
    let here = standing bytes given open_bytes next in
    let there = standing later_bytes later_given later_open later_next in
    let x : Exchange = record { span = span; words = words } in
    let read_unit : Reads unit here there span words = subst (λ (u : ℕ). Reads u here there span words) going.unit_is read in
    let inquired : (inquiries : List Inquiry) × Appends given later_given (flat_map (inquiry_frame unit) inquiries) =
    subst (λ (u : ℕ). (inquiries : List Inquiry) × Appends given later_given (flat_map (inquiry_frame u) inquiries)) going.unit_is inquires in
    let counted : length (going.exchanges ++ x ∷ []) ≡ length going.exchanges + 1 = length-append going.exchanges (x ∷ []) in
    let before : taken ≤ old_taken + 2000 * length going.exchanges = going.takes in
    record {
      exchanges = going.exchanges ++ x ∷ [];
      progress = progress_more unit (fresh old_bytes old_given) here there word later stage later_stage going.exchanges x going.progress is read_unit (same_words later (append_answer word span.address words) reported) goes;
      inquired = (
        going.inquired.0 ++ inquired.0,
        subst (λ (text : List ℕ). Appends old_given later_given text)
            (sym (flat_map-append (inquiry_frame unit) going.inquired.0 inquired.0))
            (Appends-trans old_given given later_given (flat_map (inquiry_frame unit) going.inquired.0) (flat_map (inquiry_frame unit) inquired.0) going.inquired.1 inquired.1),
      );
      unit_is = same ∙ going.unit_is;
      heard = heard_both (fresh old_bytes old_given) here there going.heard (reads_heard unit here there span words read_unit);
      takes = omega arith;
    }

-- If the stage of a scan (what it reads next) requires no further read, the scan ends with the
-- effects that its contract `Scans` defines.
pub going_ends : (unit : ℕ) (old_bytes old_given bytes given : Option (List ℕ)) (asked_unit : ℕ) (open_bytes : List ℕ) (next : ℕ) (word found : Words) (stage : Stage) (old_taken taken : ℕ) →
    Going unit old_bytes old_given bytes given asked_unit open_bytes next word stage old_taken taken → wanted stage ≡ None → found ≡ word → Scans unit old_bytes old_given bytes given found
going_ends unit old_bytes old_given bytes given asked_unit open_bytes next word found stage old_taken taken going over is =
    let few : 125 * length going.exchanges + potential stage ≤ 82161 = going.progress.few in
    record {
      exchanges = going.exchanges;
      few = omega arith;
      asked = subst (λ (xs : List Exchange). AsksInTurn nothing begun xs) (append-nil going.exchanges) (going.progress.asked [] over);
      words = λ address. ap (λ (w : Words). w address) (is ∙ going.progress.words);
      end = standing bytes given open_bytes next;
      talk = going.progress.talk;
      bytes = refl;
      given = refl;
    }

-- A scan that failed has written only requests for holding registers, the last possibly incomplete.
pub going_part : (unit : ℕ) (old_bytes old_given bytes given later_given : Option (List ℕ)) (asked_unit : ℕ) (open_bytes : List ℕ) (next : ℕ) (word : Words) (stage : Stage) (old_taken taken : ℕ) →
    Going unit old_bytes old_given bytes given asked_unit open_bytes next word stage old_taken taken →
    ((inquiries : List Inquiry) × GotPart (flat_map (inquiry_frame asked_unit) inquiries) given later_given) →
    (inquiries : List Inquiry) × GotPart (flat_map (inquiry_frame unit) inquiries) old_given later_given
going_part unit old_bytes old_given bytes given later_given asked_unit open_bytes next word stage old_taken taken going inquires =
    let here : (inquiries : List Inquiry) × GotPart (flat_map (inquiry_frame unit) inquiries) given later_given =
    subst (λ (u : ℕ). (inquiries : List Inquiry) × GotPart (flat_map (inquiry_frame u) inquiries) given later_given) going.unit_is inquires in (
      going.inquired.0 ++ here.0,
      subst (λ (text : List ℕ). GotPart text old_given later_given)
          (sym (flat_map-append (inquiry_frame unit) going.inquired.0 here.0))
          (part_after old_given given later_given (flat_map (inquiry_frame unit) going.inquired.0) (flat_map (inquiry_frame unit) here.0) going.inquired.1 here.1),
    )

pub part_of_all : (a b : Option (List ℕ)) (unit : ℕ) → ((inquiries : List Inquiry) × Appends a b (flat_map (inquiry_frame unit) inquiries)) → (inquiries : List Inquiry) × GotPart (flat_map (inquiry_frame unit) inquiries) a b
part_of_all a b unit inquires =
    (inquires.0, (flat_map (inquiry_frame unit) inquires.0, [], sym (append-nil (flat_map (inquiry_frame unit) inquires.0)), inquires.1))

-- Each read of a scan lowers the bound on the number of remaining reads.
pub smaller : (word : Words) (stage next : Stage) (span : Span) → wanted stage ≡ Some span → next ≡ stage_after word stage → potential next < potential stage
smaller word stage next span is goes =
    let less : potential (stage_after word stage) + 125 ≤ potential stage = less_potential word stage span is in
    let same : potential next ≡ potential (stage_after word stage) = ap potential goes in
    omega arith

-- If the response to a read has words (register values), the number of these words is the requested
-- number.
pub seen_full : {Z : Type 0} (answer : Option (Vec ℕ Z)) (count : ℕ) → ((words : List ℕ) → words_seen answer ≡ Some words → length words ≡ count) → IfSome answer (λ words. length words.items ≡ count)
seen_full None count full = tt
seen_full (Some words) count full = full words.items refl
