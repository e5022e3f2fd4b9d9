-- Lemmas about the result of a Modbus request. The frames that arrive after the request determine
-- the result.
use Rattle.std.proofs.Common.{Global, ◌≡◌, ◌≢◌, ℕ, List, [], ◌∷◌, ◌++◌, length, Option, None, Some, Result, Ok, Err, Bool, true, false, cond, ◌==◌, ◌&&◌, take, refl, sym, ap, ◌∙◌, subst, option_map, find}
use Rattle.std.specs.Prelude.{IfOk, IfSome, Vec, unwrap_or}
use Rattle.std.proofs.lemmas.Bool.{eq-eqb, ne_eqb}
use Rattle.std.specs.Io.KnownBytes.{Consumes, Keeps}
use Rattle.std.proofs.KnownBytes.{Consumes-kept, Consumes-nil, Consumes-trans, Keeps-refl}
use Rattle.mb_wire.specs.Links.{TakeConsumes}
use Rattle.mb_wire.specs.declared.link.Took.{Took}
use Rattle.mb_wire.specs.declared.link.Took.TheVariants as took
use Rattle.mb_wire.specs.Frames.{IsBad, IsOpen, IsOwn, frames, rest, tid_of}
use Rattle.mb_wire.specs.Reader.{Buffered, Fields, ReportsFraming, buffered_after, ended, fields_of}
use Rattle.mb_wire.specs.declared.frames.Framing.{Framing}
use Rattle.mb_wire.specs.declared.frames.Framing.TheVariants.{Need, Whole, Foreign, Garbled}
use Rattle.sun_chain.specs.Scanning.Answers.{Ask, first_of, frames_held, is_reply, settled, words_in}
use Rattle.sun_chain.specs.Scanning.Answers.{words_seen}
use Rattle.sun_chain.specs.Scanning.Lines.{Garbles, Hears, HearsAnswer, HearsTurn, TurnReports}
use Rattle.sun_chain.specs.declared.scans.hearing.Turn.{Turn}
use Rattle.sun_chain.specs.declared.scans.hearing.Turn.TheVariants.{Idle, More, Settled}
use Rattle.sun_chain.proofs.ScanLemmas.Framing.{came_more, from, frames-then, need_rest, nothing_came, piece_is, reported}

pub if_ok_then : {X E : Type 0} (P Q : X → Type 0) (result : Result X E) → IfOk result P → ((x : X) → P x → Q x) → IfOk result Q
if_ok_then P Q (Ok x) holds step = step x holds
if_ok_then P Q (Err e) holds step = tt

abbrev brings : Ask → List ℕ → Option (List ℕ)
brings ask frame = words_in ask (fields_of frame)

-- Let frames arrive after a request in two lists. The result of the request is that of the first
-- list, or that of the second list if the first list includes no response.
pub settled_both : (ask : Ask) (fs gs : List (List ℕ)) → settled ask (fs ++ gs) ≡ first_of (settled ask fs) (settled ask gs)
settled_both ask [] gs = refl
settled_both ask (f ∷ fs) gs =
    elim (is_reply ask f) as (λ b. option_map (brings ask) (cond b (Some f) (find (is_reply ask) (fs ++ gs)))
    ≡ first_of (option_map (brings ask) (cond b (Some f) (find (is_reply ask) fs))) (option_map (brings ask) (find (is_reply ask) gs)))
    [ true ↦ refl | false ↦ settled_both ask fs gs ]

pub first_assoc : {X : Type 0} (a b c : Option X) → first_of (first_of a b) c ≡ first_of a (first_of b c)
first_assoc None b c = refl
first_assoc (Some x) b c = refl

pub first_none : {X : Type 0} (a : Option X) → first_of a None ≡ a
first_none None = refl
first_none (Some x) = refl

-- One frame is the response to a request exactly if it is a Modbus frame with the request's
-- transaction identifier.
one_frame : (ask : Ask) (f : List ℕ) (is : Bool) → is_reply ask f ≡ is → settled ask (f ∷ []) ≡ cond is (Some (brings ask f)) None
one_frame ask f true e = ap (λ (b : Bool). option_map (brings ask) (cond b (Some f) None)) e
one_frame ask f false e = ap (λ (b : Bool). option_map (brings ask) (cond b (Some f) None)) e

own_reply : (ask : Ask) (f : List ℕ) → IsOwn f → is_reply ask f ≡ (tid_of f == ask.id)
own_reply ask f own = ap (λ (b : Bool). b && (tid_of f == ask.id)) (eq-eqb _ _ own)

foreign_reply : (ask : Ask) (f : List ℕ) → (IsOwn f → ⊥) → is_reply ask f ≡ false
foreign_reply ask f foreign = ap (λ (b : Bool). b && (tid_of f == ask.id)) (ne_eqb _ _ foreign)

-- If the frame reader of a client has no complete frame, then the request for which the client
-- waits has no response yet.
pub none_held : (ask : Ask) (held : Option (List ℕ)) → None ≡ option_map fields_of held → settled ask (frames_held held) ≡ None
none_held ask None is = refl
none_held ask (Some f) is = cc

-- If the frame in the client's frame reader has another transaction identifier than the request,
-- the request has no response yet.
pub other_held : (ask : Ask) (held : Option (List ℕ)) (fields : Fields) → Some fields ≡ option_map fields_of held → IfSome held IsOwn → fields.tid ≢ ask.id → settled ask (frames_held held) ≡ None
other_held ask None fields is own other = cc
other_held ask (Some f) fields is own other =
    let same : fields ≡ fields_of f = cc in
    let tids : fields.tid ≡ tid_of f = ap (λ (x : Fields). x.tid) same in
    let differs : tid_of f ≢ ask.id = λ e. other (tids ∙ e) in
    one_frame ask f false (own_reply ask f own ∙ ne_eqb _ _ differs)

pub same_held : (ask : Ask) (held : Option (List ℕ)) (fields : Fields) → Some fields ≡ option_map fields_of held → IfSome held IsOwn → fields.tid ≡ ask.id → settled ask (frames_held held) ≡ Some (words_in ask fields)
same_held ask None fields is own equal = cc
same_held ask (Some f) fields is own equal =
    let same : fields ≡ fields_of f = cc in
    let tids : fields.tid ≡ tid_of f = ap (λ (x : Fields). x.tid) same in
    one_frame ask f true (own_reply ask f own ∙ eq-eqb _ _ (sym tids ∙ equal)) ∙ ap (λ (x : Fields). Some (words_in ask x)) (sym same)

-- The frame that a call of `feed` (which passes a chunk to the frame reader) completed gives a
-- request the same result as the frame that the reader then has.
settled_ended : (ask : Ask) (what : Framing) (b : List ℕ) → ReportsFraming what b → settled ask (ended what b) ≡ settled ask (frames_held (buffered_after what b).frame)
settled_ended ask Need b reports = refl
settled_ended ask Whole b reports = refl
settled_ended ask Foreign b reports = one_frame ask b false (foreign_reply ask b reports.1)
settled_ended ask Garbled b reports = refl

own_after : (what : Framing) (b : List ℕ) → ReportsFraming what b → IfSome (buffered_after what b).frame IsOwn
own_after Need b reports = tt
own_after Whole b reports = reports.1
own_after Foreign b reports = tt
own_after Garbled b reports = tt

pub own_held : (what : Framing) (b : List ℕ) (buffered : Buffered) → ReportsFraming what b → buffered ≡ buffered_after what b → IfSome buffered.frame IsOwn
own_held what b buffered reports is = subst (λ (h : Buffered). IfSome h.frame IsOwn) (sym is) (own_after what b reports)

-- If the first frame that a chunk completes is the response to a request, then it determines the
-- result. Otherwise the remaining bytes of the chunk determine the result.
pub piece_settles : (ask : Ask) (what : Framing) (r piece : List ℕ) (taken : ℕ) (buffered : Buffered) → ReportsFraming what (r ++ take taken piece) → buffered ≡ buffered_after what (r ++ take taken piece)
    → settled ask (frames (r ++ piece)) ≡ first_of (settled ask (frames_held buffered.frame)) (settled ask (frames (buffered.rest ++ from taken piece)))
piece_settles ask what r piece taken buffered reports is =
    let b = r ++ take taken piece in
    let left = from taken piece in
    let so = reported what b reports in
    let stays : rest b ≡ buffered.rest = so.1 ∙ ap (λ (h : Buffered). h.rest) (sym is) in
    let front : settled ask (frames b) ≡ settled ask (frames_held buffered.frame) =
    ap (settled ask) so.0 ∙ settled_ended ask what b reports ∙ ap (λ (h : Buffered). settled ask (frames_held h.frame)) (sym is) in
    ap (λ (y : List ℕ). settled ask (frames y)) (piece_is r piece taken)
    ∙ ap (settled ask) (frames-then b left).0
    ∙ settled_both ask (frames b) (frames (rest b ++ left))
    ∙ ap (λ (x : Option (Option (List ℕ))). first_of x (settled ask (frames (rest b ++ left)))) front
    ∙ ap (λ (y : List ℕ). first_of (settled ask (frames_held buffered.frame)) (settled ask (frames (y ++ left)))) stays

-- If a call of `feed` (which passes a chunk to the frame reader) consumes all of the chunk and
-- completes no frame, the chunk contains no response to the request.
pub need_settles : (ask : Ask) (what : Framing) (r piece : List ℕ) (taken : ℕ) (buffered : Buffered) → ReportsFraming what (r ++ take taken piece) → buffered ≡ buffered_after what (r ++ take taken piece)
    → what ≡ Need → taken ≡ length piece → settled ask (frames_held buffered.frame) ≡ settled ask (frames (r ++ piece))
need_settles ask what r piece taken buffered reports is need all =
    let so = need_rest what r piece taken buffered reports is need all in
    ap (λ (h : Buffered). settled ask (frames_held h.frame)) so.3 ∙ ap (settled ask) (sym so.2)

-- If earlier bytes gave a request its result, then a later chunk does not change this result.
pub heard_piece : (heard later : Option (Option (List ℕ))) (held piece : Option (Option (List ℕ))) (result : Option (Option (List ℕ))) → later ≡ first_of heard held → result ≡ first_of later piece
    → result ≡ first_of heard (first_of held piece)
heard_piece heard later held piece result first next =
    next ∙ ap (λ (x : Option (Option (List ℕ))). first_of x piece) first ∙ first_assoc heard held piece

-- If a turn (one read of the link to the device) receives no bytes, the buffered bytes of an
-- incomplete frame are unchanged.
pub hears_nothing : (a b : Option (List ℕ)) (r : List ℕ) → IsOpen r → Keeps a b → Hears a b r r []
hears_nothing a b r is_open kept = record { took = Consumes-kept a a b [] (Consumes-nil a) kept; read = (nothing_came r is_open).1; is_open = is_open }

pub hears_both : (a b c : Option (List ℕ)) (r s t came more : List ℕ) → Hears a b r s came → Hears b c s t more → Hears a c r t (came ++ more)
hears_both a b c r s t came more first next = record {
  took = Consumes-trans a b c came more first.took next.took;
  read = next.read ∙ ap (λ (y : List ℕ). rest (y ++ more)) first.read ∙ sym (came_more r came more).1;
  is_open = next.is_open;
}

pub settled_more : (ask : Ask) (r s came more : List ℕ) → s ≡ rest (r ++ came) → settled ask (frames (r ++ came)) ≡ None
    → settled ask (frames (r ++ (came ++ more))) ≡ settled ask (frames (s ++ more))
settled_more ask r s came more is nothing =
    ap (settled ask) (came_more r came more).0
    ∙ settled_both ask (frames (r ++ came)) (frames (rest (r ++ came) ++ more))
    ∙ ap (λ (x : Option (Option (List ℕ))). first_of x (settled ask (frames (rest (r ++ came) ++ more)))) nothing
    ∙ ap (λ (y : List ℕ). settled ask (frames (y ++ more))) (sym is)

pub garbles_both : (a b c : Option (List ℕ)) (r s came : List ℕ) → Hears a b r s came → Garbles b c s → Garbles a c r
garbles_both a b c r s came first next = record {
  came = came ++ next.came;
  took = Consumes-trans a b c came next.came first.took next.took;
  bad =
      subst IsBad
      (ap (λ (y : List ℕ). rest (y ++ next.came)) first.read ∙ sym (came_more r came next.came).1)
      next.bad;
}

-- Lemmas on waiting for a response: after each read of the link to the device, the response is
-- complete, the read has timed out, or the wait continues with the bytes received so far.

pub kept_idle : (a b : Option (List ℕ)) (piece : List ℕ) (answer : Took) → TakeConsumes a b (Ok answer) piece → answer ≡ took.Idle → Keeps a b
kept_idle a b piece answer took is = subst (λ (t : Took). TakeConsumes a b (Ok t) piece) is took

pub turn_bytes : (ask : Ask) (a b : Option (List ℕ)) (r s bytes : List ℕ) (turn : Turn) → Consumes a b bytes → s ≡ rest (r ++ bytes) → IsOpen s → TurnReports ask (frames (r ++ bytes)) turn → HearsTurn ask a b r s turn
turn_bytes ask a b r s bytes turn took read is_open reports = record { came = bytes; hears = record { took = took; read = read; is_open = is_open }; reports = reports }

pub turn_idle : (ask : Ask) (a b : Option (List ℕ)) (r : List ℕ) → IsOpen r → Keeps a b → HearsTurn ask a b r r Idle
turn_idle ask a b r is_open kept = record { came = []; hears = hears_nothing a b r is_open kept; reports = ap (settled ask) (nothing_came r is_open).0 }

-- True if the bytes that arrived over the link to the device do not include the response to the
-- request.
pub record Waits (ask : Ask) (a b : Option (List ℕ)) (r s : List ℕ) : Type 0 where
  pub came : List ℕ
  pub hears : Hears a b r s came
  pub nothing : settled ask (frames (r ++ came)) ≡ None

pub waits_begun : (ask : Ask) (a : Option (List ℕ)) (r : List ℕ) → IsOpen r → Waits ask a a r r
waits_begun ask a r is_open = record { came = []; hears = hears_nothing a a r is_open (Keeps-refl a); nothing = ap (settled ask) (nothing_came r is_open).0 }

pub waits_more : (ask : Ask) (a b c : Option (List ℕ)) (r s t : List ℕ) → Waits ask a b r s → HearsTurn ask b c s t More → Waits ask a c r t
waits_more ask a b c r s t waits turn = record {
  came = waits.came ++ turn.came;
  hears = hears_both a b c r s t waits.came turn.came waits.hears turn.hears;
  nothing = settled_more ask r s waits.came turn.came waits.hears.read waits.nothing ∙ turn.reports;
}

pub waits_settled : (ask : Ask) (a b c : Option (List ℕ)) (r s t : List ℕ) (turn : Turn) (words : Option (List ℕ)) → Waits ask a b r s → HearsTurn ask b c s t turn
    → ((came : List ℕ) → TurnReports ask (frames (s ++ came)) turn → words ≡ unwrap_or (settled ask (frames (s ++ came))) None) → HearsAnswer ask a c r t words
waits_settled ask a b c r s t turn words waits heard brings = record {
  came = waits.came ++ heard.came;
  hears = hears_both a b c r s t waits.came heard.came waits.hears heard.hears;
  answer =
      brings heard.came heard.reports
      ∙ ap (λ (x : Option (Option (List ℕ))). unwrap_or x None) (sym (settled_more ask r s waits.came heard.came waits.hears.read waits.nothing));
}

pub waits_answer : (ask : Ask) (a b c : Option (List ℕ)) (r s t : List ℕ) (answer : Option (Vec ℕ Global)) → Waits ask a b r s → HearsTurn ask b c s t (Settled answer) → HearsAnswer ask a c r t (words_seen answer)
waits_answer ask a b c r s t answer waits heard =
    waits_settled ask a b c r s t (Settled answer) (words_seen answer) waits heard
    (λ came reports. sym (ap (λ (x : Option (Option (List ℕ))). unwrap_or x None) reports))

pub waits_idle : (ask : Ask) (a b c : Option (List ℕ)) (r s t : List ℕ) → Waits ask a b r s → HearsTurn ask b c s t Idle → HearsAnswer ask a c r t None
waits_idle ask a b c r s t waits heard =
    waits_settled ask a b c r s t Idle None waits heard
    (λ came reports. sym (ap (λ (x : Option (Option (List ℕ))). unwrap_or x None) reports))

pub waits_end : (ask : Ask) (a b : Option (List ℕ)) (r s : List ℕ) → Waits ask a b r s → HearsAnswer ask a b r s None
waits_end ask a b r s waits = record {
  came = waits.came;
  hears = waits.hears;
  answer = sym (ap (λ (x : Option (Option (List ℕ))). unwrap_or x None) waits.nothing);
}
