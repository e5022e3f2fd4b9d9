-- Lemmas: the query for the rejected readings of a meter passes exactly the requested readings to a
-- sink (a consumer of rows), record by record.
use Rattle.std.proofs.Common.{◌≡◌, ℕ, ◌+◌, ◌<◌, ◌&&◌, Bool, true, false, cond, List, [], ◌∷◌, ◌++◌, reverse, take, length, get_or, Option, Some, None, refl, sym, ap, subst, ◌∙◌}
use Rattle.std.specs.List.{filter, cons_option}
use Rattle.std.proofs.lemmas.Bool.{cond-true, cond-false}
use Rattle.std.proofs.lemmas.List.{reverse-append}
use Rattle.std.proofs.lemmas.List.Elements.{filter-append, filter_map-append}
use Rattle.office_books.specs.declared.spans.Span.{Span}
use Rattle.office_books.specs.Holds.{holds_of, holds_within}
use Rattle.office_books.specs.Rows.{TakesAll}
use Rattle.office_books.specs.Spans.{is_within}
use Rattle.office_books.proofs.Handing.{takes_both}
use Rattle.office_events.specs.declared.facts.Fact.{Fact}
use Rattle.office_events.specs.declared.facts.HeldReading.{HeldReading}
use Rattle.office_books.specs.Facts.{as_hold, holds_in, same}
use Rattle.office_books.proofs.Lists.{reverse_more}

one_passes : {X : Type 0} (own : Bool) (q : X → Bool) (x : X) → (own && q x) ≡ true → filter q (reverse (cond own (x ∷ []) [])) ≡ x ∷ []
one_passes true q x is = cond-true _ _ _ is
one_passes false q x is = absurd (let e = is in cc)

none_passes : {X : Type 0} (own : Bool) (q : X → Bool) (x : X) → (own && q x) ≡ false → filter q (reverse (cond own (x ∷ []) [])) ≡ []
none_passes true q x is = cond-false _ _ _ is
none_passes false q x is = refl

module _ (span : Span) (meter : List ℕ) where
  abbrev is_own : HeldReading → Bool
  is_own held = same held.meter meter

  abbrev asked : List Fact → List HeldReading
  asked facts = holds_within span (holds_of facts meter)

  -- The rejected reading in a record, as a list. The list is empty if the reading is of another
  -- meter than the requested meter, or outside the requested time span.
  abbrev among : Option HeldReading → List HeldReading
  among held = holds_within span (reverse (filter is_own (cons_option held [])))

  -- After a record is added, the query for rejected readings has its earlier result, followed by
  -- the record's rejected reading if the query requests this reading.
  asked_more : (f : Fact) (known : List Fact) → asked (f ∷ known) ≡ asked known ++ asked (f ∷ [])
  asked_more f known =
      ap (λ (hs : List HeldReading). holds_within span (reverse (filter is_own hs))) (filter_map-append as_hold (f ∷ []) known)
      ∙ ap (λ (hs : List HeldReading). holds_within span (reverse hs)) (filter-append is_own (holds_in (f ∷ [])) (holds_in known))
      ∙ ap (holds_within span) (reverse-append (filter is_own (holds_in (f ∷ []))) (filter is_own (holds_in known)))
      ∙ filter-append (λ (held : HeldReading). is_within span held.at) (reverse (filter is_own (holds_in known))) (reverse (filter is_own (holds_in (f ∷ []))))

  module _ {S : Type 0} (takes : S → HeldReading → S → Type 0) (before : S) where
    -- If a record has a rejected reading of the requested meter in the requested time span, then
    -- the query for rejected readings passes the reading to the sink.
    pub hold_taken : (after : S) (f : Fact) (held : HeldReading) → as_hold f ≡ Some held → (same held.meter meter && is_within span held.at) ≡ true → takes before held after
        → TakesAll takes before (asked (f ∷ [])) after
    hold_taken after f held is so took =
        let P : List HeldReading → Type 0 = λ rows. TakesAll takes before rows after in
        subst P (sym (ap among is ∙ one_passes (is_own held) (λ (h : HeldReading). is_within span h.at) held so)) (after, took, refl)

    -- Suppose that a rejected reading is of another meter than the requested meter, or outside the
    -- requested time span. Then the query for rejected readings does not pass it to its sink (a
    -- consumer of rows).
    pub hold_left : (f : Fact) (held : HeldReading) → as_hold f ≡ Some held → (same held.meter meter && is_within span held.at) ≡ false
        → TakesAll takes before (asked (f ∷ [])) before
    hold_left f held is so =
        let P : List HeldReading → Type 0 = λ rows. TakesAll takes before rows before in
        subst P (sym (ap among is ∙ none_passes (is_own held) (λ (h : HeldReading). is_within span h.at) held so)) refl

    -- If a record is not a rejected reading, then the query for rejected readings leaves the sink
    -- (a consumer of rows) unchanged.
    pub none_left : (f : Fact) → as_hold f ≡ None → TakesAll takes before (asked (f ∷ [])) before
    none_left f is =
        let P : List HeldReading → Type 0 = λ rows. TakesAll takes before rows before in
        subst P (sym (ap among is)) refl

    -- The query for rejected readings visits the records one by one. After each record, the sink
    -- (the consumer of the results) has received the requested readings of all records visited so
    -- far.
    pub holds_more : (now after : S) (facts : List Fact) (i : ℕ) (f : Fact) → i < length facts → f ≡ get_or facts i f
        → TakesAll takes before (asked (reverse (take i facts))) now → TakesAll takes now (asked (f ∷ [])) after
        → TakesAll takes before (asked (reverse (take (i + 1) facts))) after
    holds_more now after facts i f lt is took more =
        let known : List Fact = reverse (take i facts) in
        let P : List HeldReading → Type 0 = λ rows. TakesAll takes before rows after in
        subst P (sym (ap asked (reverse_more facts i f lt is) ∙ asked_more f known))
        (takes_both takes before now after (asked known) (asked (f ∷ [])) took more)
