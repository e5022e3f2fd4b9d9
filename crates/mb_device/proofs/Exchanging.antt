-- Lemmas about exchanges, which are the bytes that a simulated device reads and writes. A
-- successful turn (one read and its responses) is an exchange, and consecutive exchanges form one
-- exchange.
use Rattle.std.proofs.Common.{◌≡◌, ℕ, false, List, [], ◌∷◌, ◌++◌, Ok, refl, sym, ap, ◌∙◌, subst}
use Rattle.mb_wire.specs.Frames.{IsOpen, rest}
use Rattle.mb_device.specs.Exchanges.{Exchange, Exchanges, ExchangesOver, InOrder, in_all, joined}
use Rattle.mb_device.specs.Maps.{Maps}
use Rattle.mb_device.specs.Tricks.{Course, Playing, CutOff, carried_out, is_cut}
use Rattle.mb_device.specs.Server.{Around, Faulted, Holds, Over, Serves, Standing, Turns, course_after_all, maps_after_all, own_frames, sent_to, standing_on}
use Rattle.mb_device.specs.declared.server.Turned.{Turned}
use Rattle.mb_device.proofs.Framing.{nothing_taken, taken_more}
use Rattle.mb_device.proofs.Putting.{carried_out-none}
use Rattle.mb_device.proofs.Streams.{carried_then, course_then, dealt_by, maps_after_all-append, sent_then}

pub turn_exchanges : (buffered : List ℕ) (course : Course) (turned : Turned) (old new : Around) (standing : Standing) → Turns buffered course (Ok turned) old new standing → ExchangesOver buffered course old new standing
turn_exchanges buffered course turned old new standing turn =
    record {
      exchange = record { taken = turn.taken; given = sent_to course old.maps (own_frames (buffered ++ turn.taken)) };
      consumed = turn.consumed;
      given = turn.answered.given;
      exchanges = record { given = refl; maps = turn.answered.maps; stands = turn.stands; is_open = turn.reports.0.is_open };
    }

pub serving_exchanges : (buffered : List ℕ) (course : Course) (count : ℕ) (old new : Around) (standing : Standing) → Serves buffered course (Ok count) old new standing → ExchangesOver buffered course old new standing
serving_exchanges buffered course count old new standing serves =
    record {
      exchange = record { taken = serves.taken; given = sent_to course old.maps (own_frames (buffered ++ serves.taken)) };
      consumed = serves.consumed;
      given = serves.answered.given;
      exchanges = record { given = refl; maps = serves.answered.maps; stands = serves.stands; is_open = serves.reports.0.is_open };
    }

-- The bytes of an incomplete frame that a simulated device has buffered, if its connection is still
-- open.
abbrev bytes_in : Standing → List ℕ
bytes_in (Holds buffered course) = buffered
bytes_in Over = []
bytes_in Faulted = []

abbrev course_of : Standing → Course
course_of (Holds buffered course) = course
course_of Over = CutOff
course_of Faulted = CutOff

goes_on_so : (bytes left : List ℕ) (course mid : Course) → Holds left mid ≡ standing_on bytes course → (left ≡ bytes) × (mid ≡ course) × (is_cut mid ≡ false)
goes_on_so bytes left (Playing tricks number later) mid is = (ap bytes_in is, ap course_of is, ap (λ s. is_cut (course_of s)) is)
goes_on_so bytes left CutOff mid is = absurd cc

pub two_exchange : (buffered left : List ℕ) (course mid_course : Course) (first next : Exchange) (old mid new : Maps) (standing : Standing) → Exchanges buffered course first old mid (Holds left mid_course) → Exchanges left mid_course next mid new standing → Exchanges buffered course (joined first next) old new standing
two_exchange buffered left course mid_course first next old mid new standing one other =
    let xs = own_frames (buffered ++ first.taken) in
    let ys = own_frames (left ++ next.taken) in
    let so = goes_on_so _ left _ mid_course one.stands in
    let dealt = dealt_by course mid_course xs old mid one.maps so.1 so.2 in
    let more = taken_more buffered first.taken next.taken in
    let frames : own_frames (buffered ++ (first.taken ++ next.taken)) ≡ xs ++ ys = more.0 ∙ ap (λ l. xs ++ own_frames (l ++ next.taken)) (sym so.0) in
    let left_over : rest (buffered ++ (first.taken ++ next.taken)) ≡ rest (left ++ next.taken) = more.1 ∙ ap (λ l. rest (l ++ next.taken)) (sym so.0) in
    let same : course_after_all course old (own_frames (buffered ++ (first.taken ++ next.taken))) ≡ course_after_all mid_course mid ys =
    ap (course_after_all course old) frames ∙ course_then course mid_course old mid xs ys dealt in
    record {
      given =
          ap (λ g. g ++ next.given) one.given
          ∙ ap (λ g. sent_to course old xs ++ g) other.given
          ∙ sym (sent_then course mid_course old mid xs ys dealt)
          ∙ ap (sent_to course old) (sym frames);
      maps =
          other.maps ∙ ap (λ m. maps_after_all m (carried_out mid_course ys)) dealt.device
          ∙ sym (maps_after_all-append old xs (carried_out mid_course ys))
          ∙ ap (maps_after_all old) (sym (carried_then course mid_course old mid xs ys dealt))
          ∙ ap (λ fs. maps_after_all old (carried_out course fs)) (sym frames);
      stands = other.stands ∙ ap (λ r. standing_on r (course_after_all mid_course mid ys)) (sym left_over) ∙ ap (standing_on (rest (buffered ++ (first.taken ++ next.taken)))) (sym same);
      is_open = λ going. subst IsOpen (sym left_over) (other.is_open (ap is_cut (sym same) ∙ going));
    }

pub all_exchange : (buffered : List ℕ) (course : Course) (exchanges : List Exchange) (old new : Maps) (standing : Standing) → InOrder buffered course exchanges old new standing → Exchanges buffered course (in_all exchanges) old new standing
all_exchange buffered course [] old new standing h =
    let none = nothing_taken buffered h.2 in
    let nothing : carried_out course (own_frames (buffered ++ [])) ≡ [] = ap (carried_out course) none.0 ∙ carried_out-none course in
    let stays : course_after_all course old (own_frames (buffered ++ [])) ≡ course = ap (course_after_all course old) none.0 in
    record {
      given = sym (ap (sent_to course old) none.0);
      maps = h.0 ∙ sym (ap (maps_after_all old) nothing);
      stands = h.1 ∙ ap (λ b. standing_on b course) (sym none.1) ∙ ap (standing_on (rest (buffered ++ []))) (sym stays);
      is_open = λ _. subst IsOpen (sym none.1) h.2;
    }
all_exchange buffered course (first ∷ later) old new standing h =
    two_exchange buffered h.1 course h.2 first (in_all later) old h.0 new standing h.3 (all_exchange h.1 h.2 later h.0 new standing h.4)
