-- Lemmas about responses, with injected faults, to the frames of streams that arrive in chunks:
-- responding to `xs ++ ys` equals responding to `xs`, and then to `ys`.
use Rattle.std.proofs.Common.{◌≡◌, ℕ, ◌+◌, ◌≤◌, Bool, true, false, List, [], ◌∷◌, ◌++◌, length, take, Option, Some, None, Result, Ok, Err, refl, sym, ap, ◌∙◌, subst, arith, append_assoc, length-append, length-take}
use Rattle.std.specs.Option.{option_map}
use Rattle.std.specs.Io.KnownBytes.{Appends, Consumes, IsAtEnd, Keeps}
use Rattle.std.proofs.KnownBytes.{Appends-trans, Consumes-kept}
use Rattle.std.proofs.lemmas.List.{append-nil}
use Rattle.mb_wire.specs.Frames.{IsBad, IsOpen, pdu_of, rest}
use Rattle.mb_wire.specs.Links.{TakeConsumes}
use Rattle.mb_wire.specs.Reader.{Fields, fields_of, spelled}
use Rattle.mb_wire.specs.declared.frames.Frame.{Frame}
use Rattle.mb_wire.specs.declared.link.Took.{Took}
use Rattle.mb_wire.specs.declared.link.Took.TheVariants as took
use Rattle.mb_device.specs.Maps.{Maps}
use Rattle.mb_device.specs.Device.{answer_to, maps_after}
use Rattle.mb_device.specs.Tricks.{Course, Playing, CutOff, answer_of, carried_out, course_after, course_next, is_cut, sent, sent_next}
use Rattle.mb_wire.specs.Links.{GivesPart}
use Rattle.mb_device.specs.Server.{AllAnswered, Answered, Around, BrokenOff, Counts, BufferedReports, IsGarbled, Holds, PieceReports, Faulted, TurnReports, Turns, answer_to_frame, answers, course_after_all, buffered_frames, maps_after_all, own_frames, sent_to, standing_on, stretch}
use Rattle.mb_device.specs.declared.server.ServeFault.{ServeFault}
use Rattle.mb_device.specs.declared.server.ServeFault.TheVariants as fault
use Rattle.mb_device.specs.declared.server.Turned.{Turned}
use Rattle.mb_device.proofs.Framing.{nothing_taken}
use Rattle.mb_device.proofs.Putting.{carried_out-next, carried_out-none, carried_out-one, course_after-append, course_after-cut, is_cut-true, sent-append, sent-cut}

true_false : true ≡ false → ⊥
true_false e = cc

pub both_ways : (b : Bool) → b ≡ true → b ≡ false → ⊥
both_ways b is_true is_false = true_false (sym is_true ∙ is_false)

pub answers-append : (maps : Maps) (xs ys : List (List ℕ)) → answers maps (xs ++ ys) ≡ answers maps xs ++ answers (maps_after_all maps xs) ys
answers-append maps [] ys = refl
answers-append maps (x ∷ xs) ys = ap (λ t. answer_to_frame maps x ∷ t) (answers-append (maps_after maps (pdu_of x)) xs ys)

pub maps_after_all-append : (maps : Maps) (xs ys : List (List ℕ)) → maps_after_all maps (xs ++ ys) ≡ maps_after_all (maps_after_all maps xs) ys
maps_after_all-append maps [] ys = refl
maps_after_all-append maps (x ∷ xs) ys = maps_after_all-append (maps_after maps (pdu_of x)) xs ys

pub sent_to-append : (course : Course) (maps : Maps) (xs ys : List (List ℕ)) → sent_to course maps (xs ++ ys) ≡ sent_to course maps xs ++ sent_to (course_after_all course maps xs) (maps_after_all maps xs) ys
sent_to-append course maps xs ys = ap (sent course) (answers-append maps xs ys) ∙ sent-append course (answers maps xs) _

pub course_after_all-append : (course : Course) (maps : Maps) (xs ys : List (List ℕ)) → course_after_all course maps (xs ++ ys) ≡ course_after_all (course_after_all course maps xs) (maps_after_all maps xs) ys
course_after_all-append course maps xs ys = ap (course_after course) (answers-append maps xs ys) ∙ course_after-append course (answers maps xs) _

pub carried_out-append : (course : Course) (maps : Maps) (xs ys : List (List ℕ)) → carried_out course (xs ++ ys) ≡ carried_out course xs ++ carried_out (course_after_all course maps xs) ys
carried_out-append course maps [] ys = ap (λ t. t ++ carried_out course ys) (sym (carried_out-none course))
carried_out-append (Playing tricks number later) maps (x ∷ xs) ys =
    let course = Playing tricks number later in
    let answer = answer_to_frame maps x in
    carried_out-next course answer x (xs ++ ys) refl
    ∙ ap (λ fs. x ∷ fs) (carried_out-append (course_next course answer) (maps_after maps (pdu_of x)) xs ys)
    ∙ ap (λ fs. fs ++ carried_out (course_after_all course maps (x ∷ xs)) ys) (sym (carried_out-next course answer x xs refl))
carried_out-append CutOff maps (x ∷ xs) ys = ap (λ c. carried_out c ys) (sym (course_after-cut (answers maps (x ∷ xs))))

-- Lemmas on a simulated device whose connection is open: it executed all frames that it read.

-- If a connection is still open after some frames, then the simulated device executed all of these
-- frames.
uncut : (course : Course) (maps : Maps) (xs : List (List ℕ)) → is_cut (course_after_all course maps xs) ≡ false → carried_out course xs ≡ xs
uncut course maps [] going = carried_out-none course
uncut (Playing tricks number later) maps (x ∷ xs) going =
    let course = Playing tricks number later in
    let answer = answer_to_frame maps x in
    carried_out-next course answer x xs refl ∙ ap (λ fs. x ∷ fs) (uncut (course_next course answer) (maps_after maps (pdu_of x)) xs going)
uncut CutOff maps (x ∷ xs) going =
    absurd (both_ways _ (ap is_cut (course_after-cut (answers maps (x ∷ xs)))) going)

-- True if a simulated device executed all frames of the list on a connection that remained open.
-- Also requires that the given connection state and register map are those after these frames.
pub record Dealt (course : Course) (maps : Maps) (xs : List (List ℕ)) (mid : Course) (after : Maps) : Type 0 where
  pub stands : mid ≡ course_after_all course maps xs
  pub going : is_cut mid ≡ false
  pub device : after ≡ maps_after_all maps xs
  pub carried : carried_out course xs ≡ xs

pub dealt_by : (course mid : Course) (xs : List (List ℕ)) (maps after : Maps) → after ≡ maps_after_all maps (carried_out course xs) → mid ≡ course_after_all course maps xs → is_cut mid ≡ false → Dealt course maps xs mid after
dealt_by course mid xs maps after device is going =
    let all = uncut course maps xs (ap is_cut (sym is) ∙ going) in
    record { stands = is; going = going; device = device ∙ ap (maps_after_all maps) all; carried = all }

pub dealt_with : (course mid : Course) (xs : List (List ℕ)) (a b : Around) → AllAnswered course xs a b → mid ≡ course_after_all course a.maps xs → is_cut mid ≡ false → Dealt course a.maps xs mid b.maps
dealt_with course mid xs a b answered is going = dealt_by course mid xs a.maps b.maps answered.maps is going

pub sent_then : (course mid : Course) (maps after : Maps) (xs ys : List (List ℕ)) → Dealt course maps xs mid after → sent_to course maps (xs ++ ys) ≡ sent_to course maps xs ++ sent_to mid after ys
sent_then course mid maps after xs ys dealt =
    sent_to-append course maps xs ys
    ∙ ap (λ c. sent_to course maps xs ++ sent_to c (maps_after_all maps xs) ys) (sym dealt.stands)
    ∙ ap (λ m. sent_to course maps xs ++ sent_to mid m ys) (sym dealt.device)

pub course_then : (course mid : Course) (maps after : Maps) (xs ys : List (List ℕ)) → Dealt course maps xs mid after → course_after_all course maps (xs ++ ys) ≡ course_after_all mid after ys
course_then course mid maps after xs ys dealt =
    course_after_all-append course maps xs ys
    ∙ ap (λ c. course_after_all c (maps_after_all maps xs) ys) (sym dealt.stands)
    ∙ ap (λ m. course_after_all mid m ys) (sym dealt.device)

pub carried_then : (course mid : Course) (maps after : Maps) (xs ys : List (List ℕ)) → Dealt course maps xs mid after → carried_out course (xs ++ ys) ≡ xs ++ carried_out mid ys
carried_then course mid maps after xs ys dealt =
    carried_out-append course maps xs ys
    ∙ ap (λ c. carried_out course xs ++ carried_out c ys) (sym dealt.stands)
    ∙ ap (λ fs. fs ++ carried_out mid ys) dealt.carried

-- If a simulated device answered all frames of a list, it also answered all frames of an equal
-- list.
pub AllAnswered-same : (course : Course) (xs ys : List (List ℕ)) (a b : Around) → ys ≡ xs → AllAnswered course xs a b → AllAnswered course ys a b
AllAnswered-same course xs ys a b same h = subst (λ fs. AllAnswered course fs a b) (sym same) h

-- If nothing was written to a connection, the output of the connection is unchanged.
Appends-none : (a b : Option (List ℕ)) → Keeps a b → Appends a b []
Appends-none None b h = tt
Appends-none (Some x) None h = absurd h
Appends-none (Some x) (Some y) h = h ∙ sym (append-nil x)

pub AllAnswered-none : (course : Course) (frames : List (List ℕ)) (old new : Around) → frames ≡ [] → Keeps old.given new.given → new.maps ≡ old.maps → AllAnswered course frames old new
AllAnswered-none course frames old new none kept same =
    AllAnswered-same course [] frames old new none record {
      given = Appends-none old.given new.given kept;
      maps = same ∙ ap (maps_after_all old.maps) (sym (carried_out-none course));
    }

pub all_then_all : (course mid : Course) (xs ys : List (List ℕ)) (a b c : Around) → AllAnswered course xs a b → Dealt course a.maps xs mid b.maps → AllAnswered mid ys b c → AllAnswered course (xs ++ ys) a c
all_then_all course mid xs ys a b c first dealt next =
    let all = sym (sent_then course mid a.maps b.maps xs ys dealt) in
    record {
      given = subst (Appends a.given c.given) all (Appends-trans a.given b.given c.given _ _ first.given next.given);
      maps =
          next.maps ∙ ap (λ m. maps_after_all m (carried_out mid ys)) dealt.device
          ∙ sym (maps_after_all-append a.maps xs (carried_out mid ys))
          ∙ ap (maps_after_all a.maps) (sym (carried_then course mid a.maps b.maps xs ys dealt));
    }

all_then_broken : (course mid : Course) (xs ys : List (List ℕ)) (a b c : Around) → AllAnswered course xs a b → Dealt course a.maps xs mid b.maps → BrokenOff mid ys b c → BrokenOff course (xs ++ ys) a c
all_then_broken course mid xs ys a b c first dealt next =
    let earlier = xs ++ next.earlier in
    let upto = next.earlier ++ next.frame ∷ [] in
    let all : earlier ++ next.frame ∷ [] ≡ xs ++ upto = append_assoc xs next.earlier (next.frame ∷ []) in
    let before : sent_to course a.maps earlier ≡ sent_to course a.maps xs ++ sent_to mid b.maps next.earlier = sent_then course mid a.maps b.maps xs next.earlier dealt in
    let given : sent_to course a.maps xs ++ (sent_to mid b.maps next.earlier ++ next.part) ≡ sent_to course a.maps earlier ++ next.part =
    sym (append_assoc (sent_to course a.maps xs) _ next.part) ∙ ap (λ t. t ++ next.part) (sym before) in
    record {
      earlier = earlier;
      frame = next.frame;
      later = next.later;
      in_order = ap (λ t. xs ++ t) next.in_order ∙ sym (append_assoc xs next.earlier _);
      part = next.part;
      unsent = next.unsent;
      left = next.left;
      whole =
          ap (sent_to course a.maps) all ∙ sent_then course mid a.maps b.maps xs upto dealt
          ∙ ap (λ t. sent_to course a.maps xs ++ t) next.whole
          ∙ sym (append_assoc (sent_to course a.maps xs) _ next.unsent)
          ∙ ap (λ t. t ++ next.unsent) given;
      given = subst (Appends a.given c.given) given (Appends-trans a.given b.given c.given _ _ first.given next.given);
      maps =
          next.maps ∙ ap (λ m. maps_after_all m upto) dealt.device
          ∙ sym (maps_after_all-append a.maps xs upto) ∙ ap (maps_after_all a.maps) (sym all);
    }

-- If a simulated device answered all frames of a list, then the contract `Answered` (which
-- responses were sent) for the following frames implies `Answered` for both lists together.
pub Answered-then : {X : Type 0} (result : Result X ServeFault) (course mid : Course) (xs ys : List (List ℕ)) (a b c : Around) → AllAnswered course xs a b → Dealt course a.maps xs mid b.maps → Answered result mid ys b c → Answered result course (xs ++ ys) a c
Answered-then (Ok x) course mid xs ys a b c first dealt next = all_then_all course mid xs ys a b c first dealt next
Answered-then (Err fault.Read) course mid xs ys a b c first dealt next = all_then_all course mid xs ys a b c first dealt next
Answered-then (Err fault.Write) course mid xs ys a b c first dealt next = all_then_broken course mid xs ys a b c first dealt next
Answered-then (Err fault.Garbled) course mid xs ys a b c first dealt next = all_then_all course mid xs ys a b c first dealt next
Answered-then (Err fault.TurnsUsed) course mid xs ys a b c first dealt next = all_then_all course mid xs ys a b c first dealt next

-- If the response to a frame was sent incompletely, then it is still incomplete when more frames
-- follow.
pub BrokenOff-before : (course : Course) (xs ys : List (List ℕ)) (a b : Around) → BrokenOff course xs a b → BrokenOff course (xs ++ ys) a b
BrokenOff-before course xs ys a b h =
    record {
      earlier = h.earlier;
      frame = h.frame;
      later = h.later ++ ys;
      in_order = ap (λ t. t ++ ys) h.in_order ∙ append_assoc h.earlier (h.frame ∷ h.later) ys;
      part = h.part;
      unsent = h.unsent;
      left = h.left;
      whole = h.whole;
      given = h.given;
      maps = h.maps;
    }

-- Suppose that a device executed all frames in `xs`, the first frames of a byte sequence, and then
-- `count` of the other frames. Then the total number of executed frames is the sum of both numbers.
pub counts_then : (course mid : Course) (maps after : Maps) (xs : List (List ℕ)) (bytes left : List ℕ) (count : ℕ) → Dealt course maps xs mid after → own_frames bytes ≡ xs ++ own_frames left → rest bytes ≡ rest left → Counts count (stretch mid after left) → Counts (length xs + count) (stretch course maps bytes)
counts_then course mid maps after xs bytes left count dealt frames rests counts =
    let all = ap length (ap (carried_out course) frames ∙ carried_then course mid maps after xs (own_frames left) dealt) ∙ length-append xs _ in
    let same = ap (course_after_all course maps) frames ∙ course_then course mid maps after xs (own_frames left) dealt in
    record {
      counted = omega (arith, all, counts.counted);
      is_open = λ going. subst IsOpen (sym rests) (counts.is_open (ap is_cut (sym same) ∙ going));
    }

pub garbled_then : (course mid : Course) (maps after : Maps) (xs : List (List ℕ)) (bytes left : List ℕ) → Dealt course maps xs mid after → own_frames bytes ≡ xs ++ own_frames left → rest bytes ≡ rest left → IsGarbled (stretch mid after left) → IsGarbled (stretch course maps bytes)
garbled_then course mid maps after xs bytes left dealt frames rests garbled =
    let same = ap (course_after_all course maps) frames ∙ course_then course mid maps after xs (own_frames left) dealt in
    record { going = ap is_cut same ∙ garbled.going; bad = subst IsBad (sym rests) garbled.bad }

pub piece_then : (course mid : Course) (maps after : Maps) (xs : List (List ℕ)) (bytes left buffered : List ℕ) (first count : ℕ) → Dealt course maps xs mid after → own_frames bytes ≡ xs ++ own_frames left → rest bytes ≡ rest left → first ≡ length xs → PieceReports (Ok count) (stretch mid after left) buffered → PieceReports (Ok (first + count)) (stretch course maps bytes) buffered
piece_then course mid maps after xs bytes left buffered first count dealt frames rests is reports =
    let same = ap (course_after_all course maps) frames ∙ course_then course mid maps after xs (own_frames left) dealt in (
      subst (λ n. Counts (n + count) (stretch course maps bytes)) (sym is) (counts_then course mid maps after xs bytes left count dealt frames rests reports.0),
      λ going. reports.1 (ap is_cut (sym same) ∙ going) ∙ sym rests,
    )

pub piece_fault : (e : ServeFault) (course mid : Course) (maps after : Maps) (xs : List (List ℕ)) (bytes left buffered new : List ℕ) → Dealt course maps xs mid after → own_frames bytes ≡ xs ++ own_frames left → rest bytes ≡ rest left → PieceReports (Err e) (stretch mid after left) buffered → PieceReports (Err e) (stretch course maps bytes) new
piece_fault fault.Read course mid maps after xs bytes left buffered new dealt frames rests reports = reports
piece_fault fault.Write course mid maps after xs bytes left buffered new dealt frames rests reports = reports
piece_fault fault.Garbled course mid maps after xs bytes left buffered new dealt frames rests reports = garbled_then course mid maps after xs bytes left dealt frames rests reports
piece_fault fault.TurnsUsed course mid maps after xs bytes left buffered new dealt frames rests reports = reports

-- Lemmas on a connection that an injected fault closed: the device executes no later frame and
-- sends nothing for it.

sent_cut : (course : Course) (maps : Maps) (xs ys : List (List ℕ)) → is_cut (course_after_all course maps xs) ≡ true → sent_to course maps (xs ++ ys) ≡ sent_to course maps xs
sent_cut course maps xs ys cut =
    sent_to-append course maps xs ys
    ∙ ap (λ c. sent_to course maps xs ++ sent_to c (maps_after_all maps xs) ys) (is_cut-true _ cut)
    ∙ ap (λ t. sent_to course maps xs ++ t) (sent-cut (answers (maps_after_all maps xs) ys))
    ∙ append-nil _

carried_cut : (course : Course) (maps : Maps) (xs ys : List (List ℕ)) → is_cut (course_after_all course maps xs) ≡ true → carried_out course (xs ++ ys) ≡ carried_out course xs
carried_cut course maps xs ys cut =
    carried_out-append course maps xs ys
    ∙ ap (λ c. carried_out course xs ++ carried_out c ys) (is_cut-true _ cut)
    ∙ append-nil _

pub course_cut : (course : Course) (maps : Maps) (xs ys : List (List ℕ)) → is_cut (course_after_all course maps xs) ≡ true → course_after_all course maps xs ≡ course_after_all course maps (xs ++ ys)
course_cut course maps xs ys cut =
    is_cut-true _ cut
    ∙ sym (course_after-cut (answers (maps_after_all maps xs) ys))
    ∙ ap (λ c. course_after_all c (maps_after_all maps xs) ys) (sym (is_cut-true _ cut))
    ∙ sym (course_after_all-append course maps xs ys)

pub AllAnswered-cut : (course : Course) (xs ys : List (List ℕ)) (a b : Around) → is_cut (course_after_all course a.maps xs) ≡ true → AllAnswered course xs a b → AllAnswered course (xs ++ ys) a b
AllAnswered-cut course xs ys a b cut h =
    record {
      given = subst (Appends a.given b.given) (sym (sent_cut course a.maps xs ys cut)) h.given;
      maps = h.maps ∙ ap (maps_after_all a.maps) (sym (carried_cut course a.maps xs ys cut));
    }

pub cut_reports : (count : ℕ) (course : Course) (maps : Maps) (xs ys : List (List ℕ)) (bytes buffered : List ℕ) → own_frames bytes ≡ xs ++ ys → is_cut (course_after_all course maps xs) ≡ true → count ≡ length (carried_out course xs) → PieceReports (Ok count) (stretch course maps bytes) buffered
cut_reports count course maps xs ys bytes buffered frames cut counted =
    let same = ap (course_after_all course maps) frames ∙ sym (course_cut course maps xs ys cut) in
    let all = ap (carried_out course) frames ∙ carried_cut course maps xs ys cut in
    let still : is_cut (course_after_all course maps (own_frames bytes)) ≡ true = ap is_cut same ∙ cut in
    (record { counted = counted ∙ sym (ap length all); is_open = λ going. absurd (both_ways _ still going) }, λ going. absurd (both_ways _ still going))

-- Lemmas: the reader of frames returns the fields of the complete frame that it has buffered. If
-- sending the response to this frame fails, the response is incomplete.

-- If the reader of frames returns a parsed frame, then it has buffered the bytes of a frame with
-- the same fields.
lent_frame : (shown : Option Frame) (buffered : Option (List ℕ)) (frame : Frame) → option_map spelled shown ≡ option_map fields_of buffered → shown ≡ Some frame
    → (f : List ℕ) × (buffered ≡ Some f) × (spelled frame ≡ fields_of f)
lent_frame shown None frame same is = absurd cc
lent_frame shown (Some f) frame same is = (f, refl, cc)

answer_is : (maps : Maps) (frame : Frame) (f : List ℕ) → spelled frame ≡ fields_of f → answer_of frame.tid frame.unit (answer_to maps frame.pdu.now) ≡ answer_to_frame maps f
unfolding answer_to_frame
answer_is maps frame f same = ap (λ (x : Fields). answer_of x.tid x.unit (answer_to maps x.pdu)) same

pub buffered_carried : (course : Course) (maps : Maps) (frame : Option (List ℕ)) → is_cut course ≡ false → carried_out course (buffered_frames frame) ≡ buffered_frames frame
buffered_carried course maps None going = carried_out-none course
buffered_carried course maps (Some f) going = carried_out-one course (answer_to_frame maps f) f going

pub buffered_answered : (course : Course) (shown : Option Frame) (buffered : Option (List ℕ)) (frame : Frame) (old new : Around) → is_cut course ≡ false → option_map spelled shown ≡ option_map fields_of buffered → shown ≡ Some frame
    → Appends old.given new.given (sent_next course (answer_of frame.tid frame.unit (answer_to old.maps frame.pdu.now))) → new.maps ≡ maps_after old.maps frame.pdu.now → AllAnswered course (buffered_frames buffered) old new
buffered_answered course shown buffered frame old new going same is given maps =
    let lent = lent_frame shown buffered frame same is in
    let f = lent.0 in
    let answer = ap (sent_next course) (answer_is old.maps frame f lent.2) ∙ sym (append-nil _) in
    subst (λ h. AllAnswered course (buffered_frames h) old new) (sym lent.1) record {
      given = subst (Appends old.given new.given) answer given;
      maps = maps ∙ ap (λ (x : Fields). maps_after old.maps x.pdu) lent.2 ∙ ap (maps_after_all old.maps) (sym (buffered_carried course old.maps (Some f) going));
    }

pub buffered_broken_off : (course : Course) (shown : Option Frame) (buffered : Option (List ℕ)) (frame : Frame) (old new : Around) → option_map spelled shown ≡ option_map fields_of buffered → shown ≡ Some frame
    → GivesPart old.given new.given (sent_next course (answer_of frame.tid frame.unit (answer_to old.maps frame.pdu.now))) → new.maps ≡ maps_after old.maps frame.pdu.now → BrokenOff course (buffered_frames buffered) old new
buffered_broken_off course shown buffered frame old new same is gives maps =
    let lent = lent_frame shown buffered frame same is in
    let f = lent.0 in
    subst (λ h. BrokenOff course (buffered_frames h) old new) (sym lent.1) record {
      earlier = [];
      frame = f;
      later = [];
      in_order = refl;
      part = gives.part;
      unsent = gives.unsent;
      left = gives.left;
      whole = append-nil _ ∙ ap (sent_next course) (sym (answer_is old.maps frame f lent.2)) ∙ gives.whole;
      given = gives.given;
      maps = maps ∙ ap (λ (x : Fields). maps_after old.maps x.pdu) lent.2;
    }

pub buffered_course : (course new : Course) (shown : Option Frame) (buffered : Option (List ℕ)) (frame : Frame) (maps : Maps) → option_map spelled shown ≡ option_map fields_of buffered → shown ≡ Some frame
    → new ≡ course_next course (answer_of frame.tid frame.unit (answer_to maps frame.pdu.now)) → new ≡ course_after_all course maps (buffered_frames buffered)
buffered_course course new shown buffered frame maps same is next =
    let lent = lent_frame shown buffered frame same is in
    next ∙ ap (course_next course) (answer_is maps frame lent.0 lent.2) ∙ ap (λ h. course_after_all course maps (buffered_frames h)) (sym lent.1)

-- If sending the response to the buffered frame fails, then that response was sent incompletely.
pub buffered_fault : (e : ServeFault) (course : Course) (frame : Option (List ℕ)) (xs ys : List (List ℕ)) (a b : Around) → BufferedReports (Err e) frame → Answered {X = ℕ} (Err e) course xs a b → Answered {X = ℕ} (Err e) course (xs ++ ys) a b
buffered_fault fault.Read course frame xs ys a b reports h = absurd reports
buffered_fault fault.Write course frame xs ys a b reports h = BrokenOff-before course xs ys a b h
buffered_fault fault.Garbled course frame xs ys a b reports h = absurd reports
buffered_fault fault.TurnsUsed course frame xs ys a b reports h = absurd reports

-- Lemmas on one turn (one read, and the responses to the frames that it completed). For each result
-- of the read, the turn's effects satisfy its contract `Turns` (frames executed, bytes sent).

-- If nothing was read from a connection, the input of the connection is unchanged.
pub Consumes-none : (a b : Option (List ℕ)) → Keeps a b → Consumes a b []
Consumes-none None b h = tt
Consumes-none (Some x) None h = absurd h
Consumes-none (Some x) (Some y) h = sym h

pub standing-going : (bytes : List ℕ) (course : Course) → is_cut course ≡ false → standing_on bytes course ≡ Holds bytes course
standing-going bytes (Playing tricks number later) going = refl
standing-going bytes CutOff going = absurd cc

standing-same : (one other : List ℕ) (course : Course) → (is_cut course ≡ false → one ≡ other) → standing_on one course ≡ standing_on other course
standing-same one other (Playing tricks number later) same = ap (λ b. Holds b (Playing tricks number later)) (same refl)
standing-same one other CutOff same = refl

turn_over : (buffered : List ℕ) (course : Course) (ended : Bool) (old new : Around) → IsOpen buffered → is_cut course ≡ false → Keeps old.remaining new.remaining → (ended ≡ true → IsAtEnd new.remaining) → Keeps old.given new.given → new.maps ≡ old.maps
    → Turns buffered course (Ok record { answered = 0; ended = ended }) old new (standing_on buffered course)
turn_over buffered course ended old new is_open going left at_end given maps =
    let none = nothing_taken buffered is_open in
    let stays : course_after_all course old.maps (own_frames (buffered ++ [])) ≡ course = ap (course_after_all course old.maps) none.0 in
    let nothing : carried_out course (own_frames (buffered ++ [])) ≡ [] = ap (carried_out course) none.0 ∙ carried_out-none course in
    record {
      taken = [];
      few = omega arith;
      consumed = Consumes-none _ _ left;
      answered = AllAnswered-none course _ old new none.0 given maps;
      stands = ap (λ b. standing_on b course) (sym none.1) ∙ ap (standing_on (rest (buffered ++ []))) (sym stays);
      reports = (
        record { counted = sym (ap length nothing); is_open = λ _. subst IsOpen (sym none.1) is_open },
        record { cut = λ cut. absurd (both_ways _ cut (ap is_cut stays ∙ going)); end = λ _ e. (refl, at_end e) },
      );
    }

pub turn_end : (buffered : List ℕ) (course : Course) (piece : List ℕ) (came_as : Took) (old new : Around) → IsOpen buffered → is_cut course ≡ false → TakeConsumes old.remaining new.remaining (Ok came_as) piece → came_as ≡ took.End → Keeps old.given new.given → new.maps ≡ old.maps
    → Turns buffered course (Ok record { answered = 0; ended = true }) old new (standing_on buffered course)
turn_end buffered course piece came_as old new is_open going bytes is given maps =
    let left = subst (λ t. TakeConsumes old.remaining new.remaining (Ok t) piece) is bytes in
    turn_over buffered course true old new is_open going left.0 (λ _. left.1) given maps

pub turn_idle : (buffered : List ℕ) (course : Course) (piece : List ℕ) (came_as : Took) (old new : Around) → IsOpen buffered → is_cut course ≡ false → TakeConsumes old.remaining new.remaining (Ok came_as) piece → came_as ≡ took.Idle → Keeps old.given new.given → new.maps ≡ old.maps
    → Turns buffered course (Ok record { answered = 0; ended = false }) old new (standing_on buffered course)
turn_idle buffered course piece came_as old new is_open going bytes is given maps =
    let left = subst (λ t. TakeConsumes old.remaining new.remaining (Ok t) piece) is bytes in
    turn_over buffered course false old new is_open going left (λ e. absurd cc) given maps

pub turn_failed : (buffered : List ℕ) (course : Course) (old new : Around) → IsOpen buffered → Keeps old.remaining new.remaining → Keeps old.given new.given → new.maps ≡ old.maps → Turns buffered course (Err fault.Read) old new Faulted
turn_failed buffered course old new is_open left given maps =
    let none = nothing_taken buffered is_open in
    record {
      taken = [];
      few = omega arith;
      consumed = Consumes-none _ _ left;
      answered = AllAnswered-none course _ old new none.0 given maps;
      stands = refl;
      reports = refl;
    }

-- If only the connection's input changed between the states `old` and `mid`, answering a list of
-- frames has the same effects from both states.
answered_from : {X : Type 0} (result : Result X ServeFault) (course : Course) (frames : List (List ℕ)) (old mid new : Around) → Keeps old.given mid.given → mid.maps ≡ old.maps → is_cut course ≡ false → Answered result course frames mid new → Answered result course frames old new
answered_from result course frames old mid new given maps going answered =
    let none = AllAnswered-none course [] old mid refl given maps in
    Answered-then result course course [] frames old mid new none (dealt_with course course [] old mid none refl going) answered

-- The contract `Answered` of a failure while a device answers frames does not depend on the type of
-- the successful result. A function can therefore return the fault of a function that it calls.
pub answered_fault : (X Y : Type 0) (e : ServeFault) (course : Course) (fs : List (List ℕ)) (a b : Around) → Answered {X = X} (Err e) course fs a b → Answered {X = Y} (Err e) course fs a b
answered_fault X Y fault.Read course fs a b h = h
answered_fault X Y fault.Write course fs a b h = h
answered_fault X Y fault.Garbled course fs a b h = h
answered_fault X Y fault.TurnsUsed course fs a b h = h

turn_reports_fault : (e : ServeFault) (course : Course) (maps old : Maps) (bytes taken left : List ℕ) (remaining : Option (List ℕ)) → maps ≡ old → PieceReports (Err e) (stretch course maps bytes) left → TurnReports (Err e) (stretch course old bytes) taken remaining
turn_reports_fault fault.Read course maps old bytes taken left remaining same h = absurd h
turn_reports_fault fault.Write course maps old bytes taken left remaining same h = h
turn_reports_fault fault.Garbled course maps old bytes taken left remaining same h = subst (λ m. IsGarbled (stretch course m bytes)) same h
turn_reports_fault fault.TurnsUsed course maps old bytes taken left remaining same h = absurd h

pub turn_fault : (e : ServeFault) (course : Course) (buffered piece left : List ℕ) (came_as : Took) (n : ℕ) (old mid new : Around) → is_cut course ≡ false → TakeConsumes old.remaining mid.remaining (Ok came_as) piece → came_as ≡ took.Bytes n → length piece ≤ 260
    → Keeps mid.remaining new.remaining → Keeps old.given mid.given → mid.maps ≡ old.maps
    → Answered {X = ℕ} (Err e) course (own_frames (buffered ++ take n piece)) mid new → PieceReports (Err e) (stretch course mid.maps (buffered ++ take n piece)) left → Turns buffered course (Err e) old new Faulted
turn_fault e course buffered piece left came_as n old mid new going bytes is few kept given maps answered reports =
    let came = subst (λ t. TakeConsumes old.remaining mid.remaining (Ok t) piece) is bytes in
    record {
      taken = take n piece;
      few = omega (arith, length-take n piece);
      consumed = Consumes-kept _ _ _ _ came kept;
      answered = answered_fault ℕ Turned e course _ old new (answered_from {X = ℕ} (Err e) course _ old mid new given maps going answered);
      stands = refl;
      reports = turn_reports_fault e course mid.maps old.maps _ (take n piece) left _ maps reports;
    }

pub turn_bytes : (count : ℕ) (course after : Course) (buffered piece left : List ℕ) (came_as : Took) (n : ℕ) (ended : Bool) (old mid new : Around) → is_cut course ≡ false → TakeConsumes old.remaining mid.remaining (Ok came_as) piece → came_as ≡ took.Bytes n → length piece ≤ 260
    → Keeps mid.remaining new.remaining → Keeps old.given mid.given → mid.maps ≡ old.maps
    → AllAnswered course (own_frames (buffered ++ take n piece)) mid new → PieceReports (Ok count) (stretch course mid.maps (buffered ++ take n piece)) left
    → after ≡ course_after_all course mid.maps (own_frames (buffered ++ take n piece)) → ended ≡ is_cut after
    → Turns buffered course (Ok record { answered = count; ended = ended }) old new (standing_on left after)
turn_bytes count course after buffered piece left came_as n ended old mid new going bytes is few kept given maps answered reports same ends =
    let came = subst (λ t. TakeConsumes old.remaining mid.remaining (Ok t) piece) is bytes in
    let bytes = buffered ++ take n piece in
    let course_is : after ≡ course_after_all course old.maps (own_frames bytes) = same ∙ ap (λ m. course_after_all course m (own_frames bytes)) maps in
    let reported = subst (λ m. PieceReports (Ok count) (stretch course m bytes) left) maps reports in
    record {
      taken = take n piece;
      few = omega (arith, length-take n piece);
      consumed = Consumes-kept _ _ _ _ came kept;
      answered = answered_from {X = Turned} (Ok record { answered = count; ended = ended }) course _ old mid new given maps going answered;
      stands = ap (standing_on left) course_is ∙ standing-same left (rest bytes) _ reported.1;
      reports = (
        reported.0,
        record {
          cut = λ cut. ends ∙ ap is_cut course_is ∙ cut;
          end = λ goes e. absurd (both_ways _ (sym (ends ∙ ap is_cut course_is) ∙ e) goes);
        },
      );
    }
