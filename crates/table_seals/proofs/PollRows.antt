-- Lemmas on reading a run of `RUN` consecutive polls row by row, and appending their texts.
use Rattle.std.proofs.Common.{◌≡◌, ℕ, suc, ◌+◌, ◌<◌, ◌≤◌, Bool, true, false, List, [], ◌∷◌, ◌++◌, length, drop, get_or, Option, Some, None, refl, sym, ap, ◌∙◌, append_assoc, arith}
use Rattle.std.proofs.lemmas.List.{append-nil, length-append, drop_more, drop_all}
use Rattle.std.proofs.lemmas.Grind.{flat_map-append}
use Rattle.sqlite.specs.Order.{Row}
use Rattle.table_seals.specs.declared.poll_values.Ending.{Ending}
use Rattle.table_seals.specs.PollReading.{ReadPoll, ending_at, rows_after, poll_at, and_more, polls_in, after}
use Rattle.table_seals.specs.PollSealing.{PutsPoll, PutsPolls}
use Rattle.table_seals.specs.PollTexts.{text_then, polls_text_then, pending_of, pending_among}

none_before : (polls : Option (List ReadPoll)) → polls ≡ after [] polls
none_before None = refl
none_before (Some polls) = refl

one_before : (done : List ReadPoll) (poll : ReadPoll) (more : Option (List ReadPoll))
    → after done (and_more (Some poll) more) ≡ after (done ++ poll ∷ []) more
one_before done poll None = refl
one_before done poll (Some more) = ap (λ (ps : List ReadPoll). let o : Option (List ReadPoll) = Some ps in o) (sym (append_assoc done (poll ∷ []) more))

-- The state of a loop that digests a run of `RUN` polls, after the first rows. The polls in these
-- rows were read, and their texts were appended to the digested text.
pub record RowsSoFar (last : ℕ) (hidden : List ℕ) (first next : ℕ) (all outcomes rows left : List Row) (old new old_pending new_pending : List ℕ) : Type 0 where
  pub done : List ReadPoll
  pub read : polls_in first all outcomes ≡ after done (polls_in next rows left)
  pub next_is : next ≡ first + length done
  pub text : new ≡ old ++ polls_text_then last hidden done
  pub pending : new_pending ≡ old_pending ++ pending_among done

pub no_rows_yet : (last : ℕ) (hidden : List ℕ) (first : ℕ) (all outcomes : List Row) (old old_pending : List ℕ)
    → RowsSoFar last hidden first first all outcomes (drop 0 all) outcomes old old old_pending old_pending
no_rows_yet last hidden first all outcomes old old_pending = record {
  done = [];
  read = none_before (polls_in first all outcomes);
  next_is = let none : length (let ps : List ReadPoll = [] in ps) ≡ 0 = refl in omega (arith, none);
  text = sym (append-nil old);
  pending = sym (append-nil old_pending);
}

-- If a list has an element at the index `i`, then dropping its first `i` rows leaves the row at
-- this index and the later rows.
rows_from : (rows : List Row) (i : ℕ) (row : Row) → i < length rows → row ≡ get_or rows i row → drop i rows ≡ row ∷ drop (i + 1) rows
rows_from rows i row lt is = drop_more rows i row lt ∙ ap (λ (r : Row). r ∷ drop (i + 1) rows) (sym is)

module _ (last : ℕ) (hidden : List ℕ) (first next i : ℕ) (all outcomes left : List Row) (old mid new old_pending mid_pending new_pending : List ℕ)
    (row : Row) (lt : i < length all) (at : row ≡ get_or all i row) (ending : Option Ending) (ends : ending ≡ ending_at next left)
    (before : RowsSoFar last hidden first next all outcomes (drop i all) left old mid old_pending mid_pending) where
  stepped : polls_in first all outcomes ≡ after before.done (and_more (poll_at next row ending) (polls_in (suc next) (drop (i + 1) all) (rows_after ending left)))
  stepped =
      before.read ∙ ap (λ (rows : List Row). after before.done (polls_in next rows left)) (rows_from all i row lt at)
      ∙ ap (λ (e : Option Ending). after before.done (and_more (poll_at next row e) (polls_in (suc next) (drop (i + 1) all) (rows_after e left)))) (sym ends)

  pub unread_row : (put : Bool) → put ≡ false → PutsPoll last hidden (poll_at next row ending) mid new mid_pending new_pending put → polls_in first all outcomes ≡ None
  unread_row true is h = absurd (cc)
  unread_row false is h =
      stepped ∙ ap (λ (o : Option ReadPoll). after before.done (and_more o (polls_in (suc next) (drop (i + 1) all) (rows_after ending left)))) h

  pub next_row : (put : Bool) (following : ℕ) (rest : List Row) → put ≡ true → following ≡ next + 1 → rest ≡ rows_after ending left
      → PutsPoll last hidden (poll_at next row ending) mid new mid_pending new_pending put
      → RowsSoFar last hidden first following all outcomes (drop (i + 1) all) rest old new old_pending new_pending
  next_row false following rest is f r h = absurd (cc)
  next_row true following rest is f r h =
      let poll : ReadPoll = h.0 in
      let on : following ≡ suc next = omega (arith, f) in
      record {
        done = before.done ++ poll ∷ [];
        read =
            stepped ∙ ap (λ (o : Option ReadPoll). after before.done (and_more o (polls_in (suc next) (drop (i + 1) all) (rows_after ending left)))) h.1
            ∙ one_before before.done poll (polls_in (suc next) (drop (i + 1) all) (rows_after ending left))
            ∙ ap (λ (n : ℕ). after (before.done ++ poll ∷ []) (polls_in n (drop (i + 1) all) (rows_after ending left))) (sym on)
            ∙ ap (λ (rows : List Row). after (before.done ++ poll ∷ []) (polls_in following (drop (i + 1) all) rows)) (sym r);
        next_is = let more = length-append before.done (poll ∷ []) in let was = before.next_is in omega (arith, more, was, f);
        text =
            h.2 ∙ ap (λ (t : List ℕ). t ++ text_then last hidden poll) before.text
            ∙ append_assoc old (polls_text_then last hidden before.done) (text_then last hidden poll)
            ∙ ap (λ (t : List ℕ). old ++ t)
            (ap (λ (t : List ℕ). polls_text_then last hidden before.done ++ t) (sym (append-nil (text_then last hidden poll)))
            ∙ sym (flat_map-append (text_then last hidden) before.done (poll ∷ [])));
        pending =
            h.3 ∙ ap (λ (t : List ℕ). t ++ pending_of poll) before.pending
            ∙ append_assoc old_pending (pending_among before.done) (pending_of poll)
            ∙ ap (λ (t : List ℕ). old_pending ++ t)
            (ap (λ (t : List ℕ). pending_among before.done ++ t) (sym (append-nil (pending_of poll)))
            ∙ sym (flat_map-append pending_of before.done (poll ∷ [])));
      }

-- Lemmas on parsing the rows of a run (polls with `RUN` consecutive numbers) after its last poll
-- row. The result is the polls parsed so far, or None if an outcome without a poll is left.

left_over : (done : List ReadPoll) (next : ℕ) (rows : List Row) → (rows ≡ [] → ⊥) → after done (polls_in next [] rows) ≡ None
left_over done next [] none = absurd (none refl)
left_over done next (r ∷ rows) none = refl

module _ (last : ℕ) (hidden : List ℕ) (first next i : ℕ) (all outcomes left : List Row) (old new old_pending new_pending : List ℕ) (end : length all ≤ i)
    (before : RowsSoFar last hidden first next all outcomes (drop i all) left old new old_pending new_pending) where
  ended : polls_in first all outcomes ≡ after before.done (polls_in next [] left)
  ended = before.read ∙ ap (λ (rows : List Row). after before.done (polls_in next rows left)) (drop_all i all end)

  pub all_put : left ≡ [] → PutsPolls last hidden first next all outcomes old new old_pending new_pending
  all_put none = record {
    polls = before.done;
    read =
        ended ∙ ap (λ (rows : List Row). after before.done (polls_in next [] rows)) none
        ∙ ap (λ (ps : List ReadPoll). let o : Option (List ReadPoll) = Some ps in o) (append-nil before.done);
    next_is = before.next_is;
    text = before.text;
    pending = before.pending;
  }

  pub some_left : (left ≡ [] → ⊥) → polls_in first all outcomes ≡ None
  some_left some = ended ∙ left_over before.done next left some
