-- Proves how each step of a polling session advances the processing of an event. One event may
-- require several calls, because each call reports at most one outcome.
use Rattle.std.proofs.Common.{◌≡◌, ℕ, ◌%◌, ◌≤◌, Bool, true, false, cond, not, ◌&&◌, ◌||◌, List, [], ◌∷◌, ◌++◌, length, take, drop, refl, sym, ap, ◌∙◌, subst, arith, Option, Some, None, inl, inr, append_assoc}
use Rattle.std.specs.List.{filter, find}
use Rattle.std.specs.Option.{option_or, is_some, is_none}
use Rattle.std.proofs.lemmas.List.{append-nil, take-append-drop, take_all}
use Rattle.std.proofs.lemmas.List.Elements.{filter-append, filter_agree}
use Rattle.std.proofs.lemmas.Bool.{cond-false, or_left, or_right, or_parts, or_cases, both_ways, false_from_ne_true}
use Rattle.mb_wire.specs.Frames.{Reads, frames, rest, is_bad, is_garbled}
use Rattle.mb_wire.specs.Reader.{Buffered}
use Rattle.poll_core.proofs.Filters.{filter-none, filter_filter}
use Rattle.poll_core.proofs.Frames.{unmatched-nil, unmatched-append, by_frame-append, by_frame-none}
use Rattle.poll_core.proofs.Pending.{pending-other}
use Rattle.poll_core.proofs.Streams.{OneReading, stream-push, frames_at-more, frames_at-nil, ending_at-nil, frames-garbled, is_garbled-append, is_garbled-reads}
use Rattle.poll_core.specs.declared.outcome.LostCause.{LostCause}
use Rattle.poll_core.specs.declared.outcome.LostCause.TheVariants.{Garbled}
use Rattle.poll_core.specs.declared.outcome.Closing.{Closing}
use Rattle.poll_core.specs.Outcomes.{cause_of}
use Rattle.poll_core.specs.Settling.{Event, Piece, Tick, Close, Settlement, moment_of, bytes_of, closing_of, is_start, stream, next_id, frames_at, ending_at, alive, unmatched, silences, losses, by_frame, pending, outcomes_at, is_for}
use Rattle.poll_core.specs.Standing.{State, Stands, Within, Before, After, owed_by, if_going, is_over, is_closed, last_moment, call_of}
use Rattle.poll_core.specs.Steps.{ReportsOwed, Finds, reported_by, reported_list}
use Rattle.poll_core.specs.Polls.{Poll, due}
use Rattle.poll_core.specs.Inside.{call_if, reported_of, garbled_end}
use Rattle.poll_core.specs.declared.poll.SettledPoll.{SettledPoll}
use Rattle.poll_core.specs.declared.outcome.Call.{Call}
use Rattle.poll_core.specs.declared.outcome.Call.TheVariants as call
use Rattle.poll_core.specs.declared.poll.SettledBy.TheVariants as by

-- True if a polling session with these fields has reported some outcomes of the event and must
-- still report the others. This is the relation `Within` (a session is processing an event),
-- reduced to the fields that it depends on.
pub record Mid (t m n : ℕ) (r : List ℕ) (ps : List Poll) (x : Option LostCause) (es : List Event) (e : Event) (reported : List (ℕ × Settlement)) : Type 0 where
  pub last : m ≡ moment_of e
  pub next : n ≡ next_id (es ++ e ∷ [])
  pub whole : reported ++ owed_by m x ps ≡ outcomes_at t es e
  pub polls : if_going x (alive m ps) ≡ pending t (es ++ e ∷ [])
  pub over : is_some x ≡ is_over (es ++ e ∷ [])
  pub none_after : is_closed es ≡ true → pending t es ≡ []
  pub buffered : x ≡ None → r ≡ rest (stream (es ++ e ∷ []))

-- All outcomes that an event other than the start of a poll gives: first timeouts, then responses
-- in the order of their frames, then losses.
abbrev pub reported_at : ℕ → List Poll → List (List ℕ) → Option LostCause → List (ℕ × Settlement)
reported_at m ps fs x = silences (filter (due m) ps) ++ by_frame fs (alive m ps) ++ losses x (unmatched fs (alive m ps))

pub outcomes_at-other : (t : ℕ) (es : List Event) (e : Event) → is_start e ≡ false → outcomes_at t es e ≡ reported_at (moment_of e) (pending t es) (frames_at es e) (ending_at es e)
unfolding outcomes_at
outcomes_at-other t es e other = cond-false _ _ _ other

losses-none : (x : Option LostCause) → losses x [] ≡ []
losses-none None = refl
losses-none (Some c) = refl

-- A polling session reports no outcome if none of its polls is pending (without an outcome).
pub reported_at-none : (m : ℕ) (fs : List (List ℕ)) (x : Option LostCause) → reported_at m [] fs x ≡ []
reported_at-none m fs x = ap (λ y. y ++ losses x []) (by_frame-none fs) ∙ losses-none x

pub if_going-none : (x : Option LostCause) → if_going x [] ≡ []
if_going-none None = refl
if_going-none (Some c) = refl

pub or_false : (b : Bool) → (b || false) ≡ b
or_false true = refl
or_false false = refl

pub or_assoc : (a b c : Bool) → (a || (b || c)) ≡ ((a || b) || c)
or_assoc true b c = refl
or_assoc false b c = refl

pub is_closed-push : (es : List Event) (e : Event) → is_closed (es ++ e ∷ []) ≡ (is_closed es || is_some (closing_of e))
unfolding is_closed
is_closed-push [] e = or_false (is_some (closing_of e))
is_closed-push (f ∷ es) e = ap (λ b. is_some (closing_of f) || b) (is_closed-push es e) ∙ or_assoc (is_some (closing_of f)) (is_closed es) (is_some (closing_of e))

next_id-other : (es : List Event) (e : Event) → is_start e ≡ false → next_id (es ++ e ∷ []) ≡ next_id es
unfolding next_id
next_id-other es e other =
    ap (λ xs. length xs % 65536) (filter-append is_start es (e ∷ []) ∙ ap (λ xs. filter is_start es ++ xs) (cond-false _ _ _ other) ∙ append-nil (filter is_start es))

pub last_moment-push : (es : List Event) (e : Event) → last_moment (es ++ e ∷ []) ≡ moment_of e
last_moment-push [] e = refl
last_moment-push (f ∷ []) e = refl
last_moment-push (f ∷ g ∷ es) e = last_moment-push (g ∷ es) e

-- If a polling session that is processing an event reports one more outcome, then it is still
-- processing the same event.
pub tell : (t m n : ℕ) (r : List ℕ) (ps qs : List Poll) (x : Option LostCause) (es : List Event) (e : Event) (reported : List (ℕ × Settlement)) (taken : SettledPoll) (frame : Option (List ℕ)) → Mid t m n r ps x es e reported → ReportsOwed m x ps (Some taken) qs → Mid t m n r qs x es e (reported ++ reported_by taken frame ∷ [])
tell t m n r ps qs x es e reported taken frame mid h =
    record {
      last = mid.last;
      next = mid.next;
      whole = append_assoc reported (reported_by taken frame ∷ []) (owed_by m x qs) ∙ ap (λ y. reported ++ y) (sym (h.0 frame)) ∙ mid.whole;
      polls = h.1 ∙ mid.polls;
      over = mid.over;
      none_after = mid.none_after;
      buffered = mid.buffered;
    }

going_all : (x : Option LostCause) (ps : List Poll) → (is_some x ≡ true → ps ≡ []) → if_going x ps ≡ ps
going_all None ps h = refl
going_all (Some c) ps h = sym (h refl)

pub some_case : (x : Option LostCause) → is_some x ≡ true → (c : LostCause) × (x ≡ Some c)
some_case None h = absurd (cc)
some_case (Some c) h = (c, refl)

-- If a polling session that is processing an event has no outcome left to report, then it has
-- processed the event completely.
pub done : (t m n w : ℕ) (r : Buffered) (ps qs : List Poll) (x : Option LostCause) (es : List Event) (e : Event) (reported : List (ℕ × Settlement)) → Mid t m n r.rest ps x es e reported → ReportsOwed m x ps None qs → Stands (record { timeout = t; window = w; last = m; next = n; reader = r; polls = qs; ending = x; settling = None }) (es ++ e ∷ []) × (reported ≡ outcomes_at t es e)
done t m n w r ps qs x es e reported mid h = (
  record {
    reported = refl;
    last = mid.last ∙ sym (last_moment-push es e);
    next = mid.next;
    polls = h.0 ∙ sym (going_all x ps h.3) ∙ ap (if_going x) (sym h.2) ∙ mid.polls;
    over = mid.over;
    none_after = λ over.
        let c = some_case x (mid.over ∙ over) in
        sym mid.polls ∙ ap (λ y. if_going y (alive m ps)) c.1;
    buffered = mid.buffered;
  },
  sym (append-nil reported) ∙ ap (λ y. reported ++ y) (sym h.1) ∙ mid.whole,
)

is_some-or : (x y : Option LostCause) → is_some (option_or x y) ≡ (is_some x || is_some y)
is_some-or None y = refl
is_some-or (Some c) y = refl

pub none_case : (x : Option LostCause) → is_some x ≡ false → x ≡ None
none_case None h = refl
none_case (Some c) h = absurd (cc)

-- If a polling session is already over, it has no pending poll. A later end of the session thus
-- loses no poll.
ends_losses : (x y : Option LostCause) (ps : List Poll) → (is_some x ≡ true → ps ≡ []) → losses (option_or x y) ps ≡ losses y ps
ends_losses None y ps h = refl
ends_losses (Some c) y ps h = ap (losses (Some c)) (h refl) ∙ sym (ap (losses y) (h refl) ∙ losses-none y)

ends_going : (x y : Option LostCause) (ps : List Poll) → (is_some x ≡ true → ps ≡ []) → if_going (option_or x y) ps ≡ if_going y ps
ends_going None y ps h = refl
ends_going (Some c) y ps h = sym (ap (if_going y) (h refl) ∙ if_going-none y)

pub stream-same : (es : List Event) (e : Event) → bytes_of e ≡ [] → stream (es ++ e ∷ []) ≡ stream es
stream-same es e none = stream-push es e ∙ ap (λ y. stream es ++ y) none ∙ append-nil (stream es)

pub is_over-same : (es : List Event) (e : Event) → bytes_of e ≡ [] → is_over (es ++ e ∷ []) ≡ (is_over es || is_some (closing_of e))
unfolding is_over
is_over-same es e none =
    ap (λ y. is_garbled y || is_closed (es ++ e ∷ [])) (stream-same es e none)
    ∙ ap (λ b. is_garbled (stream es) || b) (is_closed-push es e)
    ∙ or_assoc (is_garbled (stream es)) (is_closed es) (is_some (closing_of e))

is_over-closed : (es : List Event) → is_closed es ≡ true → is_over es ≡ true
unfolding is_over
is_over-closed es h = or_right _ _ h

-- Suppose that a polling session has processed all earlier events, and gets an event without bytes.
-- Then it is processing this event, with no outcome reported yet.
pub begin : (s : State) (es : List Event) (e : Event) → is_start e ≡ false → bytes_of e ≡ [] → Stands s es → Mid s.timeout (moment_of e) s.next s.reader.rest s.polls (option_or s.ending (closing_of e)) es e []
begin s es e other none h =
    let m = moment_of e in
    let P = pending s.timeout es in
    let x = option_or s.ending (closing_of e) in
    let fs = frames_at es e in
    let y = ending_at es e in
    let fs_is : fs ≡ [] = frames_at-nil es e none in
    let y_is : y ≡ closing_of e = ending_at-nil es e none in
    let dead : is_some s.ending ≡ true → P ≡ [] = λ over. h.none_after (sym h.over ∙ over) in
    let dead' : is_some s.ending ≡ true → alive m P ≡ [] = λ over. ap (alive m) (dead over) in
    record {
      last = refl;
      next = h.next ∙ sym (next_id-other es e other);
      whole =
          ap (owed_by m x) h.polls
          ∙ ap (λ l. silences (filter (due m) P) ++ l) (ends_losses s.ending (closing_of e) (alive m P) dead')
          ∙ ap (λ l. silences (filter (due m) P) ++ losses (closing_of e) l) (sym (unmatched-nil (alive m P)))
          ∙ ap (λ l. l ++ losses (closing_of e) (unmatched [] (alive m P))) (sym (append-nil (silences (filter (due m) P))))
          ∙ ap (reported_at m P []) (sym y_is)
          ∙ ap (λ f. reported_at m P f y) (sym fs_is)
          ∙ sym (outcomes_at-other s.timeout es e other);
      polls =
          ap (λ ps. if_going x (alive m ps)) h.polls
          ∙ ends_going s.ending (closing_of e) (alive m P) dead'
          ∙ ap (if_going (closing_of e)) (sym (unmatched-nil (alive m P)))
          ∙ ap (λ c. if_going c (unmatched [] (alive m P))) (sym y_is)
          ∙ ap (λ f. if_going y (unmatched f (alive m P))) (sym fs_is)
          ∙ sym (pending-other s.timeout es e other);
      over = is_some-or s.ending (closing_of e) ∙ ap (λ b. b || is_some (closing_of e)) h.over ∙ sym (is_over-same es e none);
      none_after = λ closed. h.none_after (is_over-closed es closed);
      buffered = λ going.
          let both = or_parts _ _ (sym (is_some-or s.ending (closing_of e)) ∙ ap is_some going) in
          h.buffered (none_case s.ending both.0) ∙ ap rest (sym (stream-same es e none));
    }

not_and : (b : Bool) → (not b && b) ≡ false
not_and true = refl
not_and false = refl

and_comm : (a b : Bool) → (a && b) ≡ (b && a)
and_comm true true = refl
and_comm true false = refl
and_comm false true = refl
and_comm false false = refl

and_true : (b : Bool) → (b && true) ≡ b
and_true true = refl
and_true false = refl

-- If the deadlines of all polls are after a time, no poll has timed out at that time.
alive_due : (m : ℕ) (ps : List Poll) → alive m ps ≡ ps → filter (due m) ps ≡ []
alive_due m ps h =
    ap (filter (due m)) (sym h)
    ∙ filter_filter (λ p. not (due m p)) (due m) ps
    ∙ filter_agree _ _ (λ p. not_and (due m p)) ps
    ∙ filter-none ps

alive_left : (m : ℕ) (fs : List (List ℕ)) (ps : List Poll) → alive m ps ≡ ps → alive m (unmatched fs ps) ≡ unmatched fs ps
alive_left m fs ps h =
    filter_filter (λ p. is_none (find (is_for p) fs)) (λ p. not (due m p)) ps
    ∙ filter_agree _ _ (λ p. and_comm (is_none (find (is_for p) fs)) (not (due m p))) ps
    ∙ sym (filter_filter (λ p. not (due m p)) (λ p. is_none (find (is_for p) fs)) ps)
    ∙ ap (unmatched fs) h

is_some-garbled_end : (b : Bool) → is_some (garbled_end b) ≡ b
is_some-garbled_end true = refl
is_some-garbled_end false = refl

ending_at-piece : (es : List Event) (m : ℕ) (p : List ℕ) → is_garbled (stream es) ≡ false → ending_at es (Piece m p) ≡ garbled_end (is_garbled (stream es ++ p))
unfolding ending_at
ending_at-piece es m p fresh = ap (λ b. cond b (Some Garbled) None) (ap (λ b. is_garbled (stream es ++ p) && not b) fresh ∙ and_true (is_garbled (stream es ++ p)))

over_parts : (es : List Event) (m : ℕ) (p : List ℕ) → is_over (es ++ Piece m p ∷ []) ≡ (is_garbled (stream es ++ p) || is_closed es)
unfolding is_over
over_parts es m p =
    ap (λ y. is_garbled y || is_closed (es ++ Piece m p ∷ [])) (stream-push es (Piece m p))
    ∙ ap (λ b. is_garbled (stream es ++ p) || b) (is_closed-push es (Piece m p) ∙ or_false (is_closed es))

fresh_before : (one : OneReading) → (b p : List ℕ) → is_garbled (b ++ p) ≡ false → is_garbled b ≡ false
fresh_before one b p h = false_from_ne_true _ (λ g. both_ways _ h (is_garbled-append one b p g))

-- After a polling session reads more bytes of a chunk, the session is still processing the chunk.
-- These bytes complete at most one poll by a frame, and can end with an invalid length field.
pub feed : (one : OneReading) → (t m n : ℕ) (r q p : List ℕ) (buffered : Buffered) (ps qs : List Poll) (o : Option Poll) (es : List Event) (reported : List (ℕ × Settlement)) (g : Bool) → Mid t m n r ps None es (Piece m p) reported → owed_by m None ps ≡ [] → alive m ps ≡ ps → Finds r q ps o buffered qs → is_bad buffered.rest ≡ g → Mid t m n buffered.rest qs (garbled_end g) es (Piece m (p ++ q)) (reported ++ reported_list o buffered.frame)
feed one t m n r q p buffered ps qs o es reported g mid none all found bad =
    let e = Piece m p in
    let e' = Piece m (p ++ q) in
    let b = stream es in
    let A = alive m (pending t es) in
    let S = silences (filter (due m) (pending t es)) in
    let f1 = frames_at es e in
    let gs = found.ended in
    let going : (is_garbled (b ++ p) || is_closed es) ≡ false = sym (over_parts es m p) ∙ sym mid.over in
    let parts = or_parts _ _ going in
    let fresh : is_garbled b ≡ false = fresh_before one b p parts.0 in
    let no_end : ending_at es e ≡ None = ending_at-piece es m p fresh ∙ ap garbled_end parts.0 in
    let r_is : r ≡ rest (b ++ p) = mid.buffered refl ∙ ap rest (stream-push es e) in
    let reads : Reads ((b ++ p) ++ q) (frames (b ++ p) ++ gs) buffered.rest = found.feeds (b ++ p) (frames (b ++ p)) (subst (λ y. Reads (b ++ p) (frames (b ++ p)) y) (sym r_is) (one.exists (b ++ p))) in
    let garbled : is_garbled (b ++ (p ++ q)) ≡ g = ap is_garbled (sym (append_assoc b p q)) ∙ is_garbled-reads one _ _ _ reads ∙ bad in
    let end' : ending_at es e' ≡ garbled_end g = ending_at-piece es m (p ++ q) fresh ∙ ap garbled_end garbled in
    let frames' : frames_at es e' ≡ f1 ++ gs = frames_at-more one es m p q gs buffered.rest reads in
    let ps_is : unmatched f1 A ≡ ps = sym (sym all ∙ mid.polls ∙ pending-other t es e refl ∙ ap (λ c. if_going c (unmatched f1 A)) no_end) in
    let unmatched' : unmatched (f1 ++ gs) A ≡ qs = unmatched-append f1 gs A ∙ ap (unmatched gs) ps_is ∙ found.others_are in
    let reported_is : reported ≡ S ++ by_frame f1 A =
    sym (append-nil reported) ∙ ap (λ y. reported ++ y) (sym none) ∙ mid.whole ∙ outcomes_at-other t es e refl ∙ ap (reported_at m (pending t es) f1) no_end ∙ append-nil (S ++ by_frame f1 A) in
    let by_new : by_frame gs (unmatched f1 A) ≡ reported_list o buffered.frame = ap (by_frame gs) ps_is ∙ found.reported in
    let alive' : alive m qs ≡ qs = ap (alive m) (sym found.others_are) ∙ alive_left m gs ps all ∙ found.others_are in
    let owed' : owed_by m (garbled_end g) qs ≡ losses (garbled_end g) qs = ap (λ y. silences y ++ losses (garbled_end g) (alive m qs)) (alive_due m qs alive') ∙ ap (losses (garbled_end g)) alive' in
    let by_all : S ++ by_frame (f1 ++ gs) A ≡ reported ++ reported_list o buffered.frame =
    ap (λ y. S ++ y) (by_frame-append f1 gs A ∙ ap (λ y. by_frame f1 A ++ y) by_new)
    ∙ sym (append_assoc S (by_frame f1 A) (reported_list o buffered.frame))
    ∙ ap (λ y. y ++ reported_list o buffered.frame) (sym reported_is) in
    record {
      last = refl;
      next = mid.next ∙ next_id-other es e refl ∙ sym (next_id-other es e' refl);
      whole =
          ap (λ y. (reported ++ reported_list o buffered.frame) ++ y) owed'
          ∙ ap (λ y. y ++ losses (garbled_end g) qs) (sym by_all)
          ∙ ap (λ y. (S ++ by_frame (f1 ++ gs) A) ++ losses (garbled_end g) y) (sym unmatched')
          ∙ ap (reported_at m (pending t es) (f1 ++ gs)) (sym end')
          ∙ ap (λ f. reported_at m (pending t es) f (ending_at es e')) (sym frames')
          ∙ sym (outcomes_at-other t es e' refl);
      polls =
          ap (if_going (garbled_end g)) (alive' ∙ sym unmatched')
          ∙ ap (λ c. if_going c (unmatched (f1 ++ gs) A)) (sym end')
          ∙ ap (λ f. if_going (ending_at es e') (unmatched f A)) (sym frames')
          ∙ sym (pending-other t es e' refl);
      over =
          is_some-garbled_end g
          ∙ sym garbled
          ∙ sym (or_false (is_garbled (b ++ (p ++ q))))
          ∙ ap (λ c. is_garbled (b ++ (p ++ q)) || c) (sym parts.1)
          ∙ sym (over_parts es m (p ++ q));
      none_after = mid.none_after;
      buffered = λ _. sym (one.only _ _ _ reads).1 ∙ ap rest (append_assoc b p q ∙ sym (stream-push es e'));
    }

frames_at-garbled : (one : OneReading) → (es : List Event) (m : ℕ) (p q : List ℕ) → is_garbled (stream es ++ p) ≡ true → frames_at es (Piece m (p ++ q)) ≡ frames_at es (Piece m p)
unfolding frames_at
frames_at-garbled one es m p q g =
    let n = length (frames (stream es)) in
    ap (λ y. drop n (frames y)) (sym (append_assoc (stream es) p q)) ∙ ap (drop n) (frames-garbled one (stream es ++ p) q g)

ending_at-garbled : (es : List Event) (m : ℕ) (p q : List ℕ) → is_garbled (stream es ++ p) ≡ true → is_garbled (stream es ++ (p ++ q)) ≡ true → ending_at es (Piece m (p ++ q)) ≡ ending_at es (Piece m p)
unfolding ending_at
ending_at-garbled es m p q g h = ap (λ b. cond (b && not (is_garbled (stream es))) (Some Garbled) None) (h ∙ sym g)

-- After an invalid length field or a close of the polling session, more bytes of a chunk change
-- neither the outcomes nor the pending polls.
same_at : (one : OneReading) → (t m : ℕ) (p q : List ℕ) (es : List Event) → (is_closed es ≡ true → pending t es ≡ []) → (is_garbled (stream es ++ p) || is_closed es) ≡ true → (outcomes_at t es (Piece m (p ++ q)) ≡ outcomes_at t es (Piece m p)) × (pending t (es ++ Piece m (p ++ q) ∷ []) ≡ pending t (es ++ Piece m p ∷ [])) × ((is_garbled (stream es ++ (p ++ q)) || is_closed es) ≡ true)
same_at one t m p q es none over =
    let e = Piece m p in
    let e' = Piece m (p ++ q) in
    let b = stream es in
    let P = pending t es in
    elim (or_cases _ _ over) [
      | inl garbled ↦
          let more : is_garbled (b ++ (p ++ q)) ≡ true = ap is_garbled (sym (append_assoc b p q)) ∙ is_garbled-append one (b ++ p) q garbled in
          let fs : frames_at es e' ≡ frames_at es e = frames_at-garbled one es m p q garbled in
          let x : ending_at es e' ≡ ending_at es e = ending_at-garbled es m p q garbled more in (
            outcomes_at-other t es e' refl ∙ ap (λ f. reported_at m P f (ending_at es e')) fs ∙ ap (reported_at m P (frames_at es e)) x ∙ sym (outcomes_at-other t es e refl),
            pending-other t es e' refl ∙ ap (λ f. if_going (ending_at es e') (unmatched f (alive m P))) fs ∙ ap (λ c. if_going c (unmatched (frames_at es e) (alive m P))) x ∙ sym (pending-other t es e refl),
            or_left _ _ more,
          )
      | inr closed ↦
          let no = none closed in (
            outcomes_at-other t es e' refl ∙ ap (λ ps. reported_at m ps (frames_at es e') (ending_at es e')) no ∙ reported_at-none m (frames_at es e') (ending_at es e')
                ∙ sym (outcomes_at-other t es e refl ∙ ap (λ ps. reported_at m ps (frames_at es e) (ending_at es e)) no ∙ reported_at-none m (frames_at es e) (ending_at es e)),
            pending-other t es e' refl ∙ ap (λ ps. if_going (ending_at es e') (unmatched (frames_at es e') (alive m ps))) no ∙ if_going-none (ending_at es e')
                ∙ sym (pending-other t es e refl ∙ ap (λ ps. if_going (ending_at es e) (unmatched (frames_at es e) (alive m ps))) no ∙ if_going-none (ending_at es e)),
            or_right _ _ closed,
          )
    ]

-- A polling session that is over discards further bytes of a chunk.
pub drop_rest : (one : OneReading) → (t m n : ℕ) (r r' q p : List ℕ) (ps : List Poll) (c : LostCause) (es : List Event) (reported : List (ℕ × Settlement)) → Mid t m n r ps (Some c) es (Piece m p) reported → Mid t m n r' ps (Some c) es (Piece m (p ++ q)) reported
drop_rest one t m n r r' q p ps c es reported mid =
    let e = Piece m p in
    let e' = Piece m (p ++ q) in
    let b = stream es in
    let over : (is_garbled (b ++ p) || is_closed es) ≡ true = sym (over_parts es m p) ∙ sym mid.over in
    let same = same_at one t m p q es mid.none_after over in
    record {
      last = refl;
      next = mid.next ∙ next_id-other es e refl ∙ sym (next_id-other es e' refl);
      whole = mid.whole ∙ sym same.0;
      polls = mid.polls ∙ sym same.1;
      over = sym (over_parts es m (p ++ q) ∙ same.2);
      none_after = mid.none_after;
      buffered = λ going. absurd (cc);
    }

closing_none : (b : Bool) (x : Option LostCause) → (b || is_some x) ≡ false → x ≡ None
closing_none b x h = none_case x (or_parts _ _ h).1

unfold_over : (es : List Event) (e : Event) → is_over (es ++ e ∷ []) ≡ (is_garbled (stream (es ++ e ∷ [])) || (is_closed es || is_some (closing_of e)))
unfolding is_over
unfold_over es e = ap (λ b. is_garbled (stream (es ++ e ∷ [])) || b) (is_closed-push es e)

goes_with : (x : Option LostCause) (es : List Event) (e : Event) → is_some x ≡ is_over (es ++ e ∷ []) → option_or x (closing_of e) ≡ x
goes_with None es e h = closing_none (is_closed es) (closing_of e) (or_parts _ _ (sym (unfold_over es e) ∙ sym h)).1
goes_with (Some c) es e h = refl

-- When a call for an event begins (the first call or a repeated one), the polling session has
-- reported some outcomes of the event and must report the others.
pub enter : (s : State) (es : List Event) (e : Event) (reported : List (ℕ × Settlement)) → is_start e ≡ false → Before s es e reported → Mid s.timeout (moment_of e) s.next s.reader.rest s.polls (option_or s.ending (closing_of e)) es e reported
enter s es e reported other (inl (stands, bare, none)) =
    let P : List (ℕ × Settlement) → Type 0 = λ y. Mid s.timeout (moment_of e) s.next s.reader.rest s.polls (option_or s.ending (closing_of e)) es e y in
    subst P (sym none) (begin s es e other bare stands)
enter s es e reported other (inr (settling, w)) =
    let x_is : option_or s.ending (closing_of e) ≡ s.ending = goes_with s.ending es e w.over in
    let P : Option LostCause → Type 0 = λ y. Mid s.timeout (moment_of e) s.next s.reader.rest s.polls y es e reported in
    subst P (sym x_is)
    record {
      last = refl;
      next = w.next;
      whole = ap (λ m. reported ++ owed_by m s.ending s.polls) (sym w.last) ∙ w.whole;
      polls = ap (λ m. if_going s.ending (alive m s.polls)) (sym w.last) ∙ w.polls;
      over = w.over;
      none_after = w.none_after;
      buffered = w.buffered;
    }

-- After a call that reports one more outcome of an event, the polling session is still processing
-- the event.
pub reported_more : (t m n w : ℕ) (r : Buffered) (ps : List Poll) (x : Option LostCause) (z : Option Call) (es : List Event) (e : Event) (reported : List (ℕ × Settlement)) → Mid t m n r.rest ps x es e reported → Within (record { timeout = t; window = w; last = m; next = n; reader = r; polls = ps; ending = x; settling = z }) es e reported
reported_more t m n w r ps x z es e reported mid =
    record { last = mid.last; next = mid.next; whole = mid.whole; polls = mid.polls; over = mid.over; none_after = mid.none_after; buffered = mid.buffered }

-- If a call only reports outcomes that are already due, the polling session's state afterwards
-- satisfies `After`, the condition for states after a call.
pub settle : (t m n w : ℕ) (r : Buffered) (ps qs : List Poll) (x : Option LostCause) (call : Call) (taken : Option SettledPoll) (es : List Event) (e : Event) (reported : List (ℕ × Settlement)) → call_of e ≡ Some call → Mid t m n r.rest ps x es e reported → ReportsOwed m x ps taken qs → After (record { timeout = t; window = w; last = m; next = n; reader = r; polls = qs; ending = x; settling = call_if taken call }) es e reported (reported_of taken r.frame)
settle t m n w r ps qs x call None es e reported by mid h = done t m n w r ps qs x es e reported mid h
settle t m n w r ps qs x call (Some taken) es e reported by mid h =
    (sym by, reported_more t m n w r qs x (Some call) es e (reported ++ reported_by taken r.frame ∷ []) (tell t m n r.rest ps qs x es e reported taken r.frame mid h))

pub option_or-none : (x : Option LostCause) → option_or x None ≡ x
option_or-none None = refl
option_or-none (Some c) = refl

pub ticks : (s : State) (m : ℕ) (qs : List Poll) (taken : Option SettledPoll) → ReportsOwed m s.ending s.polls taken qs → (es : List Event) (reported : List (ℕ × Settlement)) → Before s es (Tick m) reported → After (record { timeout = s.timeout; window = s.window; last = m; next = s.next; reader = s.reader; polls = qs; ending = s.ending; settling = call_if taken call.Tick }) es (Tick m) reported (reported_of taken s.reader.frame)
ticks s m qs taken h es reported b =
    let P : Option LostCause → Type 0 = λ y. Mid s.timeout m s.next s.reader.rest s.polls y es (Tick m) reported in
    settle s.timeout m s.next s.window s.reader s.polls qs s.ending call.Tick taken es (Tick m) reported refl (subst P (option_or-none s.ending) (enter s es (Tick m) reported refl b)) h

pub closes : (s : State) (m : ℕ) (c : Closing) (qs : List Poll) (taken : Option SettledPoll) → ReportsOwed m (option_or s.ending (Some (cause_of c))) s.polls taken qs → (es : List Event) (reported : List (ℕ × Settlement)) → Before s es (Close m c) reported → After (record { timeout = s.timeout; window = s.window; last = m; next = s.next; reader = s.reader; polls = qs; ending = option_or s.ending (Some (cause_of c)); settling = call_if taken (call.Close c) }) es (Close m c) reported (reported_of taken s.reader.frame)
closes s m c qs taken h es reported b =
    settle s.timeout m s.next s.window s.reader s.polls qs (option_or s.ending (Some (cause_of c))) (call.Close c) taken es (Close m c) reported refl (enter s es (Close m c) reported refl b) h

-- When a call for a received chunk begins (the first call or a repeated one), the polling session
-- has reported some outcomes of the chunk and must report the others.
pub enters : (s : State) (m : ℕ) (p : List ℕ) (es : List Event) (reported : List (ℕ × Settlement)) → Before s es (Piece m p) reported → Mid s.timeout m s.next s.reader.rest s.polls s.ending es (Piece m p) reported
enters s m p es reported b =
    let P : Option LostCause → Type 0 = λ y. Mid s.timeout m s.next s.reader.rest s.polls y es (Piece m p) reported in
    subst P (option_or-none s.ending) (enter s es (Piece m p) reported refl b)

pub piece_owed : (s : State) (m : ℕ) (qs : List Poll) (taken : SettledPoll) (piece : List ℕ) → ReportsOwed m s.ending s.polls (Some taken) qs → (es : List Event) (p : List ℕ) (reported : List (ℕ × Settlement)) → Before s es (Piece m p) reported → After (record { timeout = s.timeout; window = s.window; last = m; next = s.next; reader = s.reader; polls = qs; ending = s.ending; settling = Some call.Piece }) es (Piece m (p ++ take 0 piece)) reported (reported_of (Some taken) s.reader.frame)
piece_owed s m qs taken piece h es p reported b =
    let P : List ℕ → Type 0 = λ y. After (record { timeout = s.timeout; window = s.window; last = m; next = s.next; reader = s.reader; polls = qs; ending = s.ending; settling = Some call.Piece }) es (Piece m y) reported (reported_of (Some taken) s.reader.frame) in
    subst P (sym (append-nil p)) (settle s.timeout m s.next s.window s.reader s.polls qs s.ending call.Piece (Some taken) es (Piece m p) reported refl (enters s m p es reported b) h)

-- A polling session that is over discards the received chunk.
pub piece_dropped : (one : OneReading) → (s : State) (m : ℕ) (c : LostCause) (qs : List Poll) (piece : List ℕ) → s.ending ≡ Some c → ReportsOwed m s.ending s.polls None qs → (es : List Event) (p : List ℕ) (reported : List (ℕ × Settlement)) → Before s es (Piece m p) reported → After (record { timeout = s.timeout; window = s.window; last = m; next = s.next; reader = s.reader; polls = qs; ending = s.ending; settling = None }) es (Piece m (p ++ take (length piece) piece)) reported None
piece_dropped one s m c qs piece over h es p reported b =
    let q = take (length piece) piece in
    let P : Option LostCause → Type 0 = λ y. Mid s.timeout m s.next s.reader.rest s.polls y es (Piece m p) reported in
    let Q : Option LostCause → Type 0 = λ y. Mid s.timeout m s.next s.reader.rest s.polls y es (Piece m (p ++ q)) reported in
    let mid = subst Q (sym over) (drop_rest one s.timeout m s.next s.reader.rest s.reader.rest q p s.polls c es reported (subst P over (enters s m p es reported b))) in
    done s.timeout m s.next s.window s.reader s.polls qs s.ending es (Piece m (p ++ q)) reported mid h

-- The state of a polling session after its reader read a chunk up to a frame that completes a poll,
-- or up to the end of the chunk.
abbrev fed_mid : State → ℕ → Buffered → List Poll → Option Poll → Bool → List ℕ → List Event → List ℕ → List (ℕ × Settlement) → Type 0
fed_mid s m buffered rs o g q es p reported = Mid s.timeout m s.next buffered.rest rs (garbled_end g) es (Piece m (p ++ q)) (reported ++ reported_list o buffered.frame)

fed : (one : OneReading) → (s : State) (m : ℕ) (q : List ℕ) (buffered : Buffered) (qs rs : List Poll) (o : Option Poll) (g : Bool) → s.ending ≡ None → ReportsOwed m s.ending s.polls None qs → Finds s.reader.rest q qs o buffered rs → is_bad buffered.rest ≡ g → (es : List Event) (p : List ℕ) (reported : List (ℕ × Settlement)) → Before s es (Piece m p) reported → fed_mid s m buffered rs o g q es p reported
fed one s m q buffered qs rs o g going h found bad es p reported b =
    let P : Option LostCause → Type 0 = λ y. Mid s.timeout m s.next s.reader.rest s.polls y es (Piece m p) reported in
    let F : List Poll → Type 0 = λ y. Finds s.reader.rest q y o buffered rs in
    let none : owed_by m None s.polls ≡ [] = ap (λ y. owed_by m y s.polls) (sym going) ∙ h.1 in
    feed one s.timeout m s.next s.reader.rest q p buffered s.polls rs o es reported g (subst P going (enters s m p es reported b)) none h.2 (subst F h.0 found) bad

pub piece_framed : (one : OneReading) → (s : State) (m n : ℕ) (piece : List ℕ) (buffered : Buffered) (qs rs : List Poll) (poll : Poll) (g : Bool) → s.ending ≡ None → ReportsOwed m s.ending s.polls None qs → Finds s.reader.rest (take n piece) qs (Some poll) buffered rs → is_bad buffered.rest ≡ g → g ≡ false → (es : List Event) (p : List ℕ) (reported : List (ℕ × Settlement)) → Before s es (Piece m p) reported → After (record { timeout = s.timeout; window = s.window; last = m; next = s.next; reader = buffered; polls = rs; ending = s.ending; settling = Some call.Piece }) es (Piece m (p ++ take n piece)) reported (reported_of (Some (record { poll = poll; by = by.Frame })) buffered.frame)
piece_framed one s m n piece buffered qs rs poll g going h found bad clean es p reported b =
    let q = take n piece in
    let mid = fed one s m q buffered qs rs (Some poll) g going h found bad es p reported b in
    let P : Option LostCause → Type 0 = λ y. Mid s.timeout m s.next buffered.rest rs y es (Piece m (p ++ q)) (reported ++ reported_list (Some poll) buffered.frame) in
    let mid' = subst P (ap garbled_end clean ∙ sym going) mid in
    (refl, reported_more s.timeout m s.next s.window buffered rs s.ending (Some call.Piece) es (Piece m (p ++ q)) (reported ++ reported_list (Some poll) buffered.frame) mid')

-- If no frame in a chunk completed a poll, then the call reports a timeout or a loss that is due.
-- If none is due, the polling session has processed the chunk completely.
pub piece_ended : (one : OneReading) → (s : State) (m n k : ℕ) (piece : List ℕ) (buffered : Buffered) (qs rs us : List Poll) (g : Bool) (x : Option LostCause) (lost : Option SettledPoll) → s.ending ≡ None → ReportsOwed m s.ending s.polls None qs → Finds s.reader.rest (take n piece) qs None buffered rs → is_bad buffered.rest ≡ g → x ≡ garbled_end g → ReportsOwed m x rs lost us → n ≤ length piece → (g ≡ false → n ≡ length piece) → k ≡ cond (is_some lost) n (length piece) → (es : List Event) (p : List ℕ) (reported : List (ℕ × Settlement)) → Before s es (Piece m p) reported → After (record { timeout = s.timeout; window = s.window; last = m; next = s.next; reader = buffered; polls = us; ending = x; settling = call_if lost call.Piece }) es (Piece m (p ++ take k piece)) reported (reported_of lost buffered.frame)
piece_ended one s m n k piece buffered qs rs us g x (Some taken) going h found bad x_is owes within all k_is es p reported b =
    let q = take n piece in
    let mid = fed one s m q buffered qs rs None g going h found bad es p reported b in
    let P : Option LostCause → Type 0 = λ y. Mid s.timeout m s.next buffered.rest rs y es (Piece m (p ++ q)) (reported ++ []) in
    let T : List (ℕ × Settlement) → Type 0 = λ y. Mid s.timeout m s.next buffered.rest rs x es (Piece m (p ++ q)) y in
    let mid' = subst T (append-nil reported) (subst P (sym x_is) mid) in
    let A : ℕ → Type 0 = λ y. After (record { timeout = s.timeout; window = s.window; last = m; next = s.next; reader = buffered; polls = us; ending = x; settling = Some call.Piece }) es (Piece m (p ++ take y piece)) reported (reported_of (Some taken) buffered.frame) in
    subst A (sym k_is) (settle s.timeout m s.next s.window buffered rs us x call.Piece (Some taken) es (Piece m (p ++ q)) reported refl mid' owes)
piece_ended one s m n k piece buffered qs rs us true x None going h found bad x_is owes within all k_is es p reported b =
    let q = take n piece in
    let more = drop n piece in
    let mid = fed one s m q buffered qs rs None true going h found bad es p reported b in
    let T : List (ℕ × Settlement) → Type 0 = λ y. Mid s.timeout m s.next buffered.rest rs (Some Garbled) es (Piece m (p ++ q)) y in
    let mid' = subst T (append-nil reported) mid in
    let dropped = drop_rest one s.timeout m s.next buffered.rest buffered.rest more (p ++ q) rs Garbled es reported mid' in
    let whole : (p ++ q) ++ more ≡ p ++ take k piece = append_assoc p q more ∙ ap (λ y. p ++ y) (take-append-drop n piece ∙ sym (take_all k piece (omega arith))) in
    let P : List ℕ → Type 0 = λ y. Mid s.timeout m s.next buffered.rest rs (Some Garbled) es (Piece m y) reported in
    let X : Option LostCause → Type 0 = λ y. Mid s.timeout m s.next buffered.rest rs y es (Piece m (p ++ take k piece)) reported in
    settle s.timeout m s.next s.window buffered rs us x call.Piece None es (Piece m (p ++ take k piece)) reported refl (subst X (sym x_is) (subst P whole dropped)) owes
piece_ended one s m n k piece buffered qs rs us false x None going h found bad x_is owes within all k_is es p reported b =
    let q = take n piece in
    let mid = fed one s m q buffered qs rs None false going h found bad es p reported b in
    let T : List (ℕ × Settlement) → Type 0 = λ y. Mid s.timeout m s.next buffered.rest rs None es (Piece m (p ++ q)) y in
    let mid' = subst T (append-nil reported) mid in
    let same : n ≡ k = all refl ∙ sym k_is in
    let P : ℕ → Type 0 = λ y. Mid s.timeout m s.next buffered.rest rs None es (Piece m (p ++ take y piece)) reported in
    let X : Option LostCause → Type 0 = λ y. Mid s.timeout m s.next buffered.rest rs y es (Piece m (p ++ take k piece)) reported in
    settle s.timeout m s.next s.window buffered rs us x call.Piece None es (Piece m (p ++ take k piece)) reported refl (subst X (sym x_is) (subst P same mid')) owes

nil_rest : (r : List ℕ) → [] ≡ r → [] ≡ r
nil_rest r e = e

-- A new polling session has processed an empty list of events.
pub Stands-new : (one : OneReading) → (t w : ℕ) (r : Buffered) → Reads [] [] r.rest → Stands (record { timeout = t; window = w; last = 0; next = 0; reader = r; polls = []; ending = None; settling = None }) []
unfolding pending next_id stream is_over is_closed is_garbled
Stands-new one t w r h =
    let r_is : rest [] ≡ r.rest = (one.only [] [] r.rest h).1 in
    record {
      reported = refl;
      last = refl;
      next = refl;
      polls = refl;
      over = ap (λ y. is_bad y || false) (nil_rest r.rest h.joined ∙ sym r_is);
      none_after = λ _. refl;
      buffered = λ _. sym r_is;
    }
