-- Lemmas: a lookup that finds nothing in the outcomes of polls and readings returns the same result
-- before and after such records are added.
use Rattle.std.proofs.Common.{◌≡◌, ℕ, ◌<◌, length, get_or, arith, List, [], ◌∷◌, ◌++◌, reverse, take, drop, refl, ap, subst, sym, ◌∙◌, Option, None, append_assoc, zero, suc}
use Rattle.std.specs.List.{cons_option, filter_map}
use Rattle.std.proofs.lemmas.List.{reverse-append, take-append-drop}
use Rattle.office_events.specs.declared.facts.Fact.{Fact}
use Rattle.office_events.specs.declared.facts.Fact.TheVariants as fact
use Rattle.office_books.specs.Facts.{as_opening, openings_in}
use Rattle.office_books.specs.Lawful.{AreLawful}
use Rattle.office_core.specs.Settling.Drafts.{IsReported, AreReported}

-- True if a lookup (a function from a record to an optional value) returns None for every record of
-- a poll's outcome or of a reading.
abbrev pub SkipsReported : {X : Type 0} → (Fact → Option X) → Type 0
SkipsReported f = (x : Fact) → IsReported x → f x ≡ None

pub reported_skipped : {X : Type 0} (f : Fact → Option X) → SkipsReported f → (facts known : List Fact) → AreReported facts
    → filter_map f (reverse facts ++ known) ≡ filter_map f known
reported_skipped f skips [] known reported = refl
reported_skipped f skips (x ∷ facts) known reported =
    ap (λ fs. filter_map f (fs ++ known)) (reverse-append (x ∷ []) facts)
    ∙ ap (filter_map f) (append_assoc (reverse facts) (x ∷ []) known)
    ∙ reported_skipped f skips facts (x ∷ known) reported.1
    ∙ ap (λ o. cons_option o (filter_map f known)) (skips x reported.0)

-- A record of a poll's outcome or of a reading does not install a meter.
no_opening : SkipsReported as_opening
no_opening (fact.Device device) reported = absurd reported
no_opening (fact.List put) reported = absurd reported
no_opening (fact.Register register) reported = absurd reported
no_opening (fact.Opening opening) reported = absurd reported
no_opening (fact.Entry booked) reported = refl
no_opening (fact.Hold held) reported = refl
no_opening (fact.Void voided) reported = absurd reported
no_opening (fact.Poll poll) reported = absurd reported
no_opening (fact.Outcome ended) reported = refl
no_opening (fact.Reply reply) reported = absurd reported

pub reported_openings : (facts known : List Fact) → AreReported facts → openings_in (reverse facts ++ known) ≡ openings_in known
reported_openings facts known reported = reported_skipped as_opening no_opening facts known reported

pub reported_first : (i : ℕ) (facts : List Fact) → AreReported facts → AreReported (take i facts)
reported_first zero facts reported = tt
reported_first (suc i) [] reported = tt
reported_first (suc i) (x ∷ facts) reported = (reported.0, reported_first i facts reported.1)

pub reported_at : (facts : List Fact) (i : ℕ) (x : Fact) → i < length facts → x ≡ get_or facts i x → AreReported facts → IsReported x
reported_at [] i x less is reported = absurd (omega arith)
reported_at (f ∷ facts) zero x less is reported = subst IsReported (sym is) reported.0
reported_at (f ∷ facts) (suc i) x less is reported = reported_at facts i x (omega arith) is reported.1

pub reported_last : (facts : List Fact) (x : Fact) → AreReported facts → IsReported x → AreReported (facts ++ x ∷ [])
reported_last [] x reported is = (is, tt)
reported_last (f ∷ facts) x reported is = (reported.0, reported_last facts x reported.1 is)

-- If all records of a list are lawful (the rules for adding records accept each one), then its
-- earlier records alone are lawful.
pub lawful_before : (new facts : List Fact) → AreLawful (new ++ facts) → AreLawful facts
lawful_before [] facts h = h
lawful_before (x ∷ new) facts h = lawful_before new facts h.1

-- If the rules for adding records accept all records of a pending write (records not yet stored),
-- then they accept its first `i` records.
pub lawful_first : (facts known : List Fact) (i : ℕ) → AreLawful (reverse facts ++ known) → AreLawful (reverse (take i facts) ++ known)
lawful_first facts known i lawful =
    lawful_before (reverse (drop i facts)) (reverse (take i facts) ++ known)
    (subst AreLawful
    (ap (λ fs. reverse fs ++ known) (sym (take-append-drop i facts))
    ∙ ap (λ fs. fs ++ known) (reverse-append (take i facts) (drop i facts))
    ∙ append_assoc (reverse (drop i facts)) (reverse (take i facts)) known) lawful)
