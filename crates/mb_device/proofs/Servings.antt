-- Lemmas: the effects of consecutive turns of a simulated device together are those of one call of
-- `serve`, which serves a connection until its end. A turn is one read, followed by the responses
-- to the frames that the read completed.
use Rattle.std.proofs.Common.{◌≡◌, ℕ, ◌+◌, Bool, true, false, not, List, [], ◌++◌, length, Option, Result, Ok, Err, refl, sym, ap, ◌∙◌, subst}
use Rattle.std.specs.Prelude.{◌&&◌}
use Rattle.std.proofs.KnownBytes.{Consumes-trans, Keeps-refl}
use Rattle.mb_wire.specs.Frames.{IsOpen, rest}
use Rattle.mb_wire.specs.Links.{risen}
use Rattle.mb_wire.specs.declared.link.LastTake.{LastTake}
use Rattle.mb_device.specs.Maps.{Maps}
use Rattle.mb_device.specs.Tricks.{Course, Playing, CutOff, carried_out, is_cut}
use Rattle.mb_device.specs.Server.{Answered, Around, Counts, ServeReports, Served, Serves, Standing, Faulted, Holds, Over, ReportsTake, TurnReports, Turns, came_to_end, course_after_all, has_faulted, is_over, is_read_fault, is_serving, own_frames, served_to_end, standing_on, stretch}
use Rattle.mb_device.specs.declared.server.ServeFault.{ServeFault}
use Rattle.mb_device.specs.declared.server.ServeFault.TheVariants as fault
use Rattle.mb_device.specs.declared.server.Turned.{Turned}
use Rattle.mb_device.proofs.Framing.{nothing_taken, taken_more}
use Rattle.mb_device.proofs.Putting.{carried_out-none}
use Rattle.mb_device.proofs.Streams.{AllAnswered-none, AllAnswered-same, Answered-then, Consumes-none, Dealt, all_then_all, answered_fault, both_ways, counts_then, course_then, dealt_with, garbled_then, standing-going}

serving_on : (bytes : List ℕ) (course : Course) → is_serving (standing_on bytes course) ≡ true → is_cut course ≡ false
serving_on bytes (Playing tricks number later) serving = refl
serving_on bytes CutOff serving = absurd cc

pub Served-none : (buffered : List ℕ) (course : Course) (around : Around) (standing : Standing) → IsOpen buffered → is_cut course ≡ false → standing ≡ Holds buffered course → Served buffered course 0 around around standing
Served-none buffered course around standing is_open going stands =
    let none = nothing_taken buffered is_open in
    let stays : course_after_all course around.maps (own_frames (buffered ++ [])) ≡ course = ap (course_after_all course around.maps) none.0 in
    let nothing : carried_out course (own_frames (buffered ++ [])) ≡ [] = ap (carried_out course) none.0 ∙ carried_out-none course in
    record {
      taken = [];
      consumed = Consumes-none _ _ (Keeps-refl around.remaining);
      answered = AllAnswered-none course _ around around none.0 (Keeps-refl around.given) refl;
      stands = stands ∙ sym (standing-going buffered course going) ∙ ap (λ b. standing_on b course) (sym none.1) ∙ ap (standing_on (rest (buffered ++ []))) (sym stays);
      counts = record { counted = sym (ap length nothing); is_open = λ _. subst IsOpen (sym none.1) is_open };
    }

-- If the connection to a simulated device is still open, then the device executed all frames that
-- it read until now.
reached : (buffered : List ℕ) (course : Course) (count : ℕ) (a b : Around) (before : Standing) → (so_far : Served buffered course count a b before) → is_serving before ≡ true
    → Dealt course a.maps (own_frames (buffered ++ so_far.taken)) (course_after_all course a.maps (own_frames (buffered ++ so_far.taken))) b.maps
reached buffered course count a b before so_far serving =
    let left = course_after_all course a.maps (own_frames (buffered ++ so_far.taken)) in
    let going : is_cut left ≡ false = serving_on (rest (buffered ++ so_far.taken)) left (ap is_serving (sym so_far.stands) ∙ serving) in
    dealt_with course left (own_frames (buffered ++ so_far.taken)) a b so_far.answered refl going

turn_next : (result : Result Turned ServeFault) (buffered : List ℕ) (course : Course) (count : ℕ) (a b c : Around) (before after : Standing) → (so_far : Served buffered course count a b before) → is_serving before ≡ true
    → ((later : List ℕ) (mid : Course) → before ≡ Holds later mid → Turns later mid result b c after)
    → Turns (rest (buffered ++ so_far.taken)) (course_after_all course a.maps (own_frames (buffered ++ so_far.taken))) result b c after
turn_next result buffered course count a b c before after so_far serving turns =
    let left = course_after_all course a.maps (own_frames (buffered ++ so_far.taken)) in
    let dealt = reached buffered course count a b before so_far serving in
    turns (rest (buffered ++ so_far.taken)) left (so_far.stands ∙ standing-going _ left dealt.going)

pub Served-more : (buffered : List ℕ) (course : Course) (count : ℕ) (turned : Turned) (a b c : Around) (before after : Standing) → Served buffered course count a b before → is_serving before ≡ true
    → ((later : List ℕ) (mid : Course) → before ≡ Holds later mid → Turns later mid (Ok turned) b c after) → Served buffered course (count + turned.answered) a c after
Served-more buffered course count turned a b c before after so_far serving turns =
    let bytes = buffered ++ so_far.taken in
    let left = course_after_all course a.maps (own_frames bytes) in
    let dealt = reached buffered course count a b before so_far serving in
    let turn = turn_next (Ok turned) buffered course count a b c before after so_far serving turns in
    let more = taken_more buffered so_far.taken turn.taken in
    let same : course_after_all course a.maps (own_frames (buffered ++ (so_far.taken ++ turn.taken))) ≡ course_after_all left b.maps (own_frames (rest bytes ++ turn.taken)) =
    ap (course_after_all course a.maps) more.0 ∙ course_then course left a.maps b.maps (own_frames bytes) (own_frames (rest bytes ++ turn.taken)) dealt in
    let counted : count ≡ length (own_frames bytes) = so_far.counts.counted ∙ ap length dealt.carried in
    record {
      taken = so_far.taken ++ turn.taken;
      consumed = Consumes-trans _ _ _ _ _ so_far.consumed turn.consumed;
      answered = AllAnswered-same course _ _ a c more.0 (all_then_all course left _ _ a b c so_far.answered dealt turn.answered);
      stands = turn.stands ∙ ap (λ r. standing_on r (course_after_all left b.maps (own_frames (rest bytes ++ turn.taken)))) (sym more.1) ∙ ap (standing_on (rest (buffered ++ (so_far.taken ++ turn.taken)))) (sym same);
      counts = subst (λ n. Counts (n + turned.answered) (stretch course a.maps (buffered ++ (so_far.taken ++ turn.taken)))) (sym counted)
          (counts_then course left a.maps b.maps (own_frames bytes) (buffered ++ (so_far.taken ++ turn.taken)) (rest bytes ++ turn.taken) turned.answered dealt more.0 more.1 turn.reports.0);
    }

-- Suppose that a turn (one read and its responses) found the end of the input, or an injected fault
-- closed the connection. Then `serve` returns, and its effects (frames executed, bytes sent)
-- satisfy its contract `Serves`.
pub Serves-end : (buffered : List ℕ) (course : Course) (count : ℕ) (turned : Turned) (a b c : Around) (before after : Standing) → Served buffered course count a b before → is_serving before ≡ true
    → ((later : List ℕ) (mid : Course) → before ≡ Holds later mid → Turns later mid (Ok turned) b c after) → turned.ended ≡ true → Serves buffered course (Ok (count + turned.answered)) a c after
unfolding Served-more
Serves-end buffered course count turned a b c before after so_far serving turns ended =
    let all = Served-more buffered course count turned a b c before after so_far serving turns in
    let bytes = buffered ++ so_far.taken in
    let left = course_after_all course a.maps (own_frames bytes) in
    let dealt = reached buffered course count a b before so_far serving in
    let turn = turn_next (Ok turned) buffered course count a b c before after so_far serving turns in
    let more = taken_more buffered so_far.taken turn.taken in
    let same : course_after_all course a.maps (own_frames (buffered ++ (so_far.taken ++ turn.taken))) ≡ course_after_all left b.maps (own_frames (rest bytes ++ turn.taken)) =
    ap (course_after_all course a.maps) more.0 ∙ course_then course left a.maps b.maps (own_frames bytes) (own_frames (rest bytes ++ turn.taken)) dealt in
    record {
      taken = all.taken;
      consumed = all.consumed;
      answered = all.answered;
      stands = all.stands;
      reports = (all.counts, λ going. (turn.reports.1.end (ap is_cut (sym same) ∙ going) ended).1);
    }

-- Suppose that the function `serve` made all allowed reads, and the input has not ended. Then it
-- returns `TurnsUsed`, and its effects (frames executed, bytes sent) satisfy its contract `Serves`.
pub Serves-used : (buffered : List ℕ) (course : Course) (count : ℕ) (a b : Around) (before : Standing) → Served buffered course count a b before → is_serving before ≡ true → Serves buffered course (Err fault.TurnsUsed) a b Faulted
Serves-used buffered course count a b before so_far serving =
    let dealt = reached buffered course count a b before so_far serving in
    record { taken = so_far.taken; consumed = so_far.consumed; answered = so_far.answered; stands = refl; reports = record { going = dealt.going; is_open = so_far.counts.is_open dealt.going } }

serve_reports_fault : (e : ServeFault) (buffered taken more : List ℕ) (course left : Course) (maps after : Maps) (remaining : Option (List ℕ)) → IsOpen (rest (buffered ++ taken)) → Dealt course maps (own_frames (buffered ++ taken)) left after
    → TurnReports (Err e) (stretch left after (rest (buffered ++ taken) ++ more)) more remaining → ServeReports (Err e) (stretch course maps (buffered ++ (taken ++ more))) remaining
serve_reports_fault fault.Read buffered taken more course left maps after remaining is_open dealt reports =
    let none = nothing_taken (rest (buffered ++ taken)) is_open in
    let same = taken_more buffered taken more in
    let nothing : own_frames (rest (buffered ++ taken) ++ more) ≡ [] = ap (λ m. own_frames (rest (buffered ++ taken) ++ m)) reports ∙ none.0 in
    let stays : course_after_all course maps (own_frames (buffered ++ (taken ++ more))) ≡ left =
    ap (course_after_all course maps) same.0 ∙ course_then course left maps after _ (own_frames (rest (buffered ++ taken) ++ more)) dealt ∙ ap (course_after_all left after) nothing in
    let rests : rest (buffered ++ (taken ++ more)) ≡ rest (buffered ++ taken) = same.1 ∙ ap (λ m. rest (rest (buffered ++ taken) ++ m)) reports ∙ none.1 in
    record { going = ap is_cut stays ∙ dealt.going; is_open = subst IsOpen (sym rests) is_open }
serve_reports_fault fault.Write buffered taken more course left maps after remaining is_open dealt reports = reports
serve_reports_fault fault.Garbled buffered taken more course left maps after remaining is_open dealt reports =
    let same = taken_more buffered taken more in
    garbled_then course left maps after (own_frames (buffered ++ taken)) (buffered ++ (taken ++ more)) (rest (buffered ++ taken) ++ more) dealt same.0 same.1 reports
serve_reports_fault fault.TurnsUsed buffered taken more course left maps after remaining is_open dealt reports = absurd reports

-- If a turn (one read and its responses) of the simulator's function `serve` returns a fault, then
-- `serve` returns this fault.
pub Serves-fault : (e : ServeFault) (buffered : List ℕ) (course : Course) (count : ℕ) (a b c : Around) (before after : Standing) → Served buffered course count a b before → is_serving before ≡ true
    → ((later : List ℕ) (mid : Course) → before ≡ Holds later mid → Turns later mid (Err e) b c after) → Serves buffered course (Err e) a c after
Serves-fault e buffered course count a b c before after so_far serving turns =
    let bytes = buffered ++ so_far.taken in
    let left = course_after_all course a.maps (own_frames bytes) in
    let dealt = reached buffered course count a b before so_far serving in
    let turn = turn_next (Err e) buffered course count a b c before after so_far serving turns in
    let more = taken_more buffered so_far.taken turn.taken in
    let all = Answered-then {X = ℕ} (Err e) course left (own_frames bytes) (own_frames (rest bytes ++ turn.taken)) a b c so_far.answered dealt (answered_fault Turned ℕ e left _ b c turn.answered) in
    record {
      taken = so_far.taken ++ turn.taken;
      consumed = Consumes-trans _ _ _ _ _ so_far.consumed turn.consumed;
      answered = subst (λ fs. Answered {X = ℕ} (Err e) course fs a c) (sym more.0) all;
      stands = turn.stands;
      reports = serve_reports_fault e buffered so_far.taken turn.taken course left a.maps b.maps c.remaining (so_far.counts.is_open dealt.going) dealt turn.reports;
    }

-- Lemmas: if the connection of a simulated device is open and none of its calls failed, its state
-- has buffered bytes. It keeps serving while no turn (one read and its responses) reports the end
-- of the input.

pub has_not_failed : (standing : Standing) (failed over : Bool) → failed ≡ has_faulted standing → failed ≡ false → over ≡ is_over standing → over ≡ false → is_serving standing ≡ true
has_not_failed (Holds buffered course) failed over is none was going = refl
has_not_failed Over failed over is none was going = let both : true ≡ false = sym was ∙ going in absurd cc
has_not_failed Faulted failed over is none was going = let both : true ≡ false = sym is ∙ none in absurd cc

pub buffered_by : (standing : Standing) → is_serving standing ≡ true → (buffered : List ℕ) × (course : Course) × (standing ≡ Holds buffered course)
buffered_by (Holds buffered course) serving = (buffered, course, refl)
buffered_by Over serving = absurd cc
buffered_by Faulted serving = absurd cc

standing_serves : (bytes : List ℕ) (course : Course) → is_cut course ≡ false → is_serving (standing_on bytes course) ≡ true
standing_serves bytes (Playing tricks number later) going = refl
standing_serves bytes CutOff going = absurd cc

cut_or_not : (b ended : Bool) → (b ≡ true → ended ≡ true) → ended ≡ false → b ≡ false
cut_or_not true ended ends going = absurd (both_ways ended (ends refl) going)
cut_or_not false ended ends going = refl

-- If a turn (one read and its responses) did not report the end of the input, the device still
-- serves the connection.
pub turn_serves : (turned : Turned) (old new : Around) (before after : Standing) → is_serving before ≡ true → ((buffered : List ℕ) (course : Course) → before ≡ Holds buffered course → Turns buffered course (Ok turned) old new after) → turned.ended ≡ false → is_serving after ≡ true
turn_serves turned old new before after serving turns no_end =
    let holds = buffered_by before serving in
    let turn = turns holds.0 holds.1 holds.2 in
    let going = cut_or_not _ turned.ended turn.reports.1.cut no_end in
    ap is_serving turn.stands ∙ standing_serves _ _ going

no_end : (result : Result Turned ServeFault) (turned : Turned) (after : Standing) → result ≡ Ok turned → turned.ended ≡ false → came_to_end result after ≡ false
no_end result turned after is going = ap (λ r. came_to_end r after) is ∙ ap (λ b. b && not (is_over after)) going

-- If a turn (one read and its responses) did not report the end of the input, then its read neither
-- failed nor found the end.
pub goes_on : (result : Result Turned ServeFault) (turned : Turned) (after : Standing) (last : Option LastTake) → ReportsTake (came_to_end result after) (is_read_fault result) last → result ≡ Ok turned → turned.ended ≡ false → ReportsTake false false last
goes_on result turned after last reports is going =
    let first = no_end result turned after is going in
    let second : is_read_fault result ≡ false = ap is_read_fault is in
    record { answer = reports.answer; taken = reports.taken; end = sym first ∙ reports.end; failure = sym second ∙ reports.failure }

-- If a turn (one read and its responses) did not report the end of the input, the count of ends of
-- the input that reads found is unchanged.
pub counts_no_end : (result : Result Turned ServeFault) (turned : Turned) (standing : Standing) (before after : ℕ) → after ≡ risen (came_to_end result standing) before → result ≡ Ok turned → turned.ended ≡ false → after ≡ before
counts_no_end result turned standing before after counted is going = counted ∙ ap (λ (b : Bool). risen b before) (no_end result turned standing is going)

-- Suppose that the last turn (one read and its responses) of `serve`, which serves a connection
-- until its end, reported the end of the connection. Then `serve` found the end of the input
-- exactly if that turn's read found it.
pub same_end : (result : Result Turned ServeFault) (turned : Turned) (count : ℕ) (after : Standing) → result ≡ Ok turned → turned.ended ≡ true → came_to_end result after ≡ served_to_end (Ok count) after
same_end result turned count after is ended = ap (λ r. came_to_end r after) is ∙ ap (λ b. b && not (is_over after)) ended

-- A single turn (one read and its responses) never returns `TurnsUsed`, the fault for too many
-- reads.
pub turn_is_no_end : (e : ServeFault) (old new : Around) (before after : Standing) → is_serving before ≡ true → ((buffered : List ℕ) (course : Course) → before ≡ Holds buffered course → Turns buffered course (Err e) old new after) → e ≡ fault.TurnsUsed → ⊥
turn_is_no_end e old new before after serving turns is =
    let holds = buffered_by before serving in
    let turn = turns holds.0 holds.1 holds.2 in
    subst (λ x. TurnReports (Err x) (stretch holds.1 old.maps (holds.0 ++ turn.taken)) turn.taken new.remaining) is turn.reports
