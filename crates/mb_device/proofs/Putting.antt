-- Lemmas: the bytes sent for a response, and the connection's state after it, depend on the fault
-- injected at its frame number and on the connection's state before.
use Rattle.std.proofs.Common.{◌≡◌, ℕ, ◌-◌, ◌^◌, nat_lt, Bool, if◌then◌else◌, true, false, List, [], ◌∷◌, ◌++◌, Option, None, refl, sym, ap, ◌∙◌, append_assoc}
use Rattle.std.specs.List.{flat_map}
use Rattle.std.proofs.lemmas.List.{append-nil}
use Rattle.mb_wire.specs.Reader.{Fields}
use Rattle.mb_wire.specs.Links.{risen}
use Rattle.mb_device.specs.Tricks.{Course, Playing, CutOff, following, carried_out, course_after, course_in, course_next, cuts, first_trick, frame_of, is_cut, later_of, sent, sent_next, sent_of, spelled_by, trick_at, up_to_cut}
use Rattle.mb_device.specs.declared.trick.Trick.{Trick}

-- On an open connection, three things determine the bytes that the simulated device sends for a
-- response. These are the response, the fault injected at its frame number, and an earlier, delayed
-- response.
pub sends : (course : Course) (cut : Bool) (tricks : List (ℕ × Trick)) (number : ℕ) (later : List ℕ) (answer : Fields) → course ≡ course_in cut tricks number later → is_cut course ≡ false
    → sent_next course answer ≡ sent_of (trick_at tricks number) (spelled_by (trick_at tricks number) answer) later
unfolding sent_next
sends course true tricks number later answer is going = let both : true ≡ false = sym (ap is_cut is) ∙ going in absurd cc
sends course false tricks number later answer is going = ap (λ c. sent_next c answer) is

-- The state of an open connection after a response depends on the fault injected at the response's
-- frame number and on the connection's state before the response.
pub goes_on : (course : Course) (cut : Bool) (tricks : List (ℕ × Trick)) (number : ℕ) (later : List ℕ) (answer : Fields) → course ≡ course_in cut tricks number later → is_cut course ≡ false
    → course_next course answer ≡ following (trick_at tricks number) (spelled_by (trick_at tricks number) answer) course
unfolding course_next
goes_on course true tricks number later answer is going = let both : true ≡ false = sym (ap is_cut is) ∙ going in absurd cc
goes_on course false tricks number later answer is going =
    ap (λ c. course_next c answer) is ∙ ap (following (trick_at tricks number) (spelled_by (trick_at tricks number) answer)) (sym is)

-- Lemmas: sending two lists of responses one after the other equals sending their concatenation.

pub sent-append : (course : Course) (xs ys : List Fields) → sent course (xs ++ ys) ≡ sent course xs ++ sent (course_after course xs) ys
sent-append course [] ys = refl
sent-append course (x ∷ xs) ys =
    ap (λ t. sent_next course x ++ t) (sent-append (course_next course x) xs ys) ∙ sym (append_assoc (sent_next course x) _ _)

pub course_after-append : (course : Course) (xs ys : List Fields) → course_after course (xs ++ ys) ≡ course_after (course_after course xs) ys
course_after-append course [] ys = refl
course_after-append course (x ∷ xs) ys = course_after-append (course_next course x) xs ys

-- A closed connection sends nothing and remains closed.
pub sent-cut : (xs : List Fields) → sent CutOff xs ≡ []
unfolding sent_next course_next
sent-cut [] = refl
sent-cut (x ∷ xs) = sent-cut xs

pub course_after-cut : (xs : List Fields) → course_after CutOff xs ≡ CutOff
unfolding course_next
course_after-cut [] = refl
course_after-cut (x ∷ xs) = course_after-cut xs

pub is_cut-true : (course : Course) → is_cut course ≡ true → course ≡ CutOff
is_cut-true (Playing tricks number later) cut = absurd cc
is_cut-true CutOff cut = refl

-- Lemmas on the frames that a simulated device executes: on an open connection, these are the first
-- frame and the frames executed after it.

pub carried_out-none : (course : Course) → carried_out course [] ≡ []
carried_out-none (Playing tricks number later) = refl
carried_out-none CutOff = refl

carried_by : (cut : Bool) (tricks : List (ℕ × Trick)) (number : ℕ) (later : List ℕ) (frames : List (List ℕ)) → (if cut then [] else up_to_cut tricks number frames) ≡ carried_out (if cut then CutOff else Playing tricks number later) frames
carried_by true tricks number later frames = refl
carried_by false tricks number later frames = refl

pub carried_out-next : (course : Course) (answer : Fields) (frame : List ℕ) (frames : List (List ℕ)) → is_cut course ≡ false → carried_out course (frame ∷ frames) ≡ frame ∷ carried_out (course_next course answer) frames
unfolding course_next
carried_out-next (Playing tricks number later) answer frame frames going =
    ap (λ fs. frame ∷ fs) (carried_by (cuts (trick_at tricks number)) tricks (risen true number) (later_of (trick_at tricks number) (spelled_by (trick_at tricks number) answer)) frames)
carried_out-next CutOff answer frame frames going = absurd cc

pub carried_out-one : (course : Course) (answer : Fields) (frame : List ℕ) → is_cut course ≡ false → carried_out course (frame ∷ []) ≡ frame ∷ []
carried_out-one course answer frame going =
    carried_out-next course answer frame [] going ∙ ap (λ fs. frame ∷ fs) (carried_out-none (course_next course answer))

-- Lemmas on connections without injected faults, or after the last frame with an injected fault:
-- the device sends its responses unchanged.

either_none : (b : Bool) (one other : Option Trick) → one ≡ None → other ≡ None → (if b then one else other) ≡ None
either_none true one other first next = first
either_none false one other first next = next

trick_none : (number : ℕ) → trick_at [] number ≡ None
unfolding trick_at
trick_none number = either_none (nat_lt number (2 ^ 64 - 1)) (first_trick [] number) None refl refl

trick_past : (tricks : List (ℕ × Trick)) → trick_at tricks (2 ^ 64 - 1) ≡ None
unfolding trick_at
trick_past tricks = refl

sent_truly : (tricks : List (ℕ × Trick)) (number : ℕ) (answer : Fields) → trick_at tricks number ≡ None → sent_next (Playing tricks number []) answer ≡ frame_of answer
unfolding sent_next
sent_truly tricks number answer none = ap (λ t. sent_of t (spelled_by t answer) []) none ∙ append-nil (frame_of answer)

next_truly : (tricks : List (ℕ × Trick)) (number : ℕ) (answer : Fields) → trick_at tricks number ≡ None → course_next (Playing tricks number []) answer ≡ Playing tricks (risen true number) []
unfolding course_next
next_truly tricks number answer none = ap (λ t. following t (spelled_by t answer) (Playing tricks number [])) none

one_truly : (tricks : List (ℕ × Trick)) (number next : ℕ) (answer : Fields) (answers : List Fields) → trick_at tricks number ≡ None → risen true number ≡ next
    → (sent (Playing tricks number []) (answer ∷ answers) ≡ frame_of answer ++ sent (Playing tricks next []) answers) × (course_after (Playing tricks number []) (answer ∷ answers) ≡ course_after (Playing tricks next []) answers)
one_truly tricks number next answer answers none is =
    let goes = next_truly tricks number answer none ∙ ap (λ n. Playing tricks n []) is in
    (ap (λ t. t ++ sent (course_next (Playing tricks number []) answer) answers) (sent_truly tricks number answer none) ∙ ap (λ c. frame_of answer ++ sent c answers) goes, ap (λ c. course_after c answers) goes)

carried_one : (tricks : List (ℕ × Trick)) (number next : ℕ) (frame : List ℕ) (frames : List (List ℕ)) → trick_at tricks number ≡ None → risen true number ≡ next → up_to_cut tricks number (frame ∷ frames) ≡ frame ∷ up_to_cut tricks next frames
carried_one tricks number next frame frames none is =
    ap (λ t. frame ∷ (if cuts t then [] else up_to_cut tricks (risen true number) frames)) none ∙ ap (λ n. frame ∷ up_to_cut tricks n frames) is

pub no_tricks-sent : (number : ℕ) (answers : List Fields) → sent (Playing [] number []) answers ≡ flat_map frame_of answers
no_tricks-sent number [] = refl
no_tricks-sent number (answer ∷ answers) =
    (one_truly [] number (risen true number) answer answers (trick_none number) refl).0 ∙ ap (λ t. frame_of answer ++ t) (no_tricks-sent (risen true number) answers)

pub no_tricks-carried : (number : ℕ) (frames : List (List ℕ)) → carried_out (Playing [] number []) frames ≡ frames
no_tricks-carried number [] = refl
no_tricks-carried number (frame ∷ frames) =
    carried_one [] number (risen true number) frame frames (trick_none number) refl ∙ ap (λ fs. frame ∷ fs) (no_tricks-carried (risen true number) frames)

pub no_tricks-going : (number : ℕ) (answers : List Fields) → is_cut (course_after (Playing [] number []) answers) ≡ false
no_tricks-going number [] = refl
no_tricks-going number (answer ∷ answers) =
    ap is_cut (one_truly [] number (risen true number) answer answers (trick_none number) refl).1 ∙ no_tricks-going (risen true number) answers

pub past-sent : (tricks : List (ℕ × Trick)) (answers : List Fields) → sent (Playing tricks (2 ^ 64 - 1) []) answers ≡ flat_map frame_of answers
past-sent tricks [] = refl
past-sent tricks (answer ∷ answers) =
    (one_truly tricks (2 ^ 64 - 1) (2 ^ 64 - 1) answer answers (trick_past tricks) refl).0 ∙ ap (λ t. frame_of answer ++ t) (past-sent tricks answers)

pub past-carried : (tricks : List (ℕ × Trick)) (frames : List (List ℕ)) → carried_out (Playing tricks (2 ^ 64 - 1) []) frames ≡ frames
past-carried tricks [] = refl
past-carried tricks (frame ∷ frames) =
    carried_one tricks (2 ^ 64 - 1) (2 ^ 64 - 1) frame frames (trick_past tricks) refl ∙ ap (λ fs. frame ∷ fs) (past-carried tricks frames)
