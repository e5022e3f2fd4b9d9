-- Lemmas on feeding chunks of received bytes to a polling session's frame reader: which poll a
-- frame completes, and that successive chunks have the effect of one long chunk.
use Rattle.std.proofs.Common.{◌≡◌, ℕ, suc, ◌+◌, ◌-◌, ◌≤◌, ◌⊎◌, Bool, true, false, not, ◌&&◌, List, [], ◌∷◌, ◌++◌, length, take, drop, map, refl, sym, ap, ◌∙◌, subst, arith, Option, Some, None, inl, inr, append_assoc, length-drop}
use Rattle.std.specs.List.{filter}
use Rattle.std.proofs.Math.Seq.{take-add}
use Rattle.std.proofs.lemmas.List.{append-nil, take_rest, nil_from_length}
use Rattle.std.proofs.lemmas.List.Elements.{filter_agree}
use Rattle.std.proofs.lemmas.Bool.{eq-eqb, ne_eqb}
use Rattle.mb_wire.specs.Frames.{Reads, IsOwn, tid_of}
use Rattle.std.specs.Option.{option_map}
use Rattle.mb_wire.specs.Reader.{Buffered, Fields, fields_of, ReportsFraming, buffered_after, ended}
use Rattle.mb_wire.specs.declared.frames.Framing.{Framing}
use Rattle.mb_wire.specs.declared.frames.Framing.TheVariants.{Need, Whole, Foreign, Garbled}
use Rattle.poll_core.proofs.Filters.{filter-none, filter-all}
use Rattle.poll_core.proofs.Frames.{unmatched-nil, unmatched-cons, unmatched-append, by_frame-append}
use Rattle.poll_core.proofs.Taking.{none_passes}
use Rattle.poll_core.specs.Settling.{by_frame, unmatched, answer, is_for}
use Rattle.poll_core.specs.Steps.{AreApart, TakesOut, FeedsOn, Finds, FindsBy, reported_list}
use Rattle.poll_core.specs.Polls.{Poll, has_id}

and_true : (b c : Bool) → c ≡ true → (b && c) ≡ b
and_true true c e = e
and_true false c e = refl

and_false : (b c : Bool) → c ≡ false → (b && c) ≡ false
and_false true c e = e
and_false false c e = refl

own_id : (f : List ℕ) → IsOwn f → (p : Poll) → is_for p f ≡ has_id (tid_of f) p
own_id f own p = and_true _ _ (eq-eqb _ _ own)

foreign_id : (f : List ℕ) → (IsOwn f → ⊥) → (p : Poll) → is_for p f ≡ false
foreign_id f foreign p = and_false _ _ (ne_eqb _ _ foreign)

-- The outcomes that one frame gives are those of the polls with the frame's transaction identifier.
by_one : (f : List ℕ) (ps : List Poll) → by_frame (f ∷ []) ps ≡ map (λ p. (p.number, answer p f)) (filter (λ p. is_for p f) ps)
by_one f ps = append-nil _

left_one : (f : List ℕ) (ps : List Poll) → unmatched (f ∷ []) ps ≡ filter (λ p. not (is_for p f)) ps
left_one f ps = unmatched-cons f [] ps ∙ unmatched-nil _

pub FindsBy-foreign : (f : List ℕ) (ps : List Poll) → (IsOwn f → ⊥) → FindsBy f ps None ps
FindsBy-foreign f ps foreign = (
  by_one f ps ∙ ap (map (λ (p : Poll). (p.number, answer p f))) (filter_agree _ _ (foreign_id f foreign) ps ∙ filter-none ps),
  left_one f ps ∙ filter_agree _ _ (λ p. ap not (foreign_id f foreign p)) ps ∙ filter-all ps,
)

pub FindsBy-own : (f : List ℕ) (ps qs : List Poll) (o : Option Poll) → IsOwn f → AreApart ps → TakesOut (has_id (tid_of f)) ps o qs → FindsBy f ps o qs
FindsBy-own f ps qs None own apart h =
    let t = has_id (tid_of f) in (
      by_one f ps ∙ ap (map (λ (p : Poll). (p.number, answer p f))) (filter_agree _ _ (own_id f own) ps ∙ h.1),
      left_one f ps ∙ filter_agree _ _ (λ p. ap not (own_id f own p)) ps ∙ none_passes t ps h.1 ∙ sym h.0,
    )
FindsBy-own f ps qs (Some p) own apart h =
    let t = has_id (tid_of f) in
    let few : length (filter t ps) ≤ 1 = apart (tid_of f) in
    let len : length (filter t ps) ≡ suc (length (filter t qs)) = ap length h.0 in
    let no_len : length (filter t qs) ≡ 0 = omega arith in
    let none : filter t qs ≡ [] = nil_from_length _ no_len in (
      by_one f ps ∙ ap (map (λ (q : Poll). (q.number, answer q f))) (filter_agree _ _ (own_id f own) ps ∙ h.0 ∙ ap (λ xs. p ∷ xs) none),
      left_one f ps ∙ filter_agree _ _ (λ q. ap not (own_id f own q)) ps ∙ sym h.1 ∙ none_passes t qs none,
    )

-- If one chunk completes the frames `gs` and the next chunk the frames `hs`, both chunks together
-- complete `gs` followed by `hs`.
pub FeedsOn-then : (a p b q c : List ℕ) (gs hs : List (List ℕ)) → FeedsOn a p gs b → FeedsOn b q hs c → FeedsOn a (p ++ q) (gs ++ hs) c
FeedsOn-then a p b q c gs hs first second = λ bytes before h.
    let P : List ℕ → Type 0 = λ y. Reads y (before ++ (gs ++ hs)) c in
    let Q : List (List ℕ) → Type 0 = λ y. Reads ((bytes ++ p) ++ q) y c in
    subst P (append_assoc bytes p q) (subst Q (append_assoc before gs hs) (second (bytes ++ p) (before ++ gs) (first bytes before h)))

pub Finds-nothing : (a : List ℕ) (buffered : Buffered) (ps : List Poll) → buffered.rest ≡ a → Finds a [] ps None buffered ps
Finds-nothing a buffered ps e =
    record {
      ended = [];
      feeds = λ bytes before h.
          let P : List ℕ → Type 0 = λ y. Reads y (before ++ []) buffered.rest in
          let Q : List (List ℕ) → Type 0 = λ y. Reads bytes y buffered.rest in
          let R : List ℕ → Type 0 = λ y. Reads bytes before y in
          subst P (sym (append-nil bytes)) (subst Q (sym (append-nil before)) (subst R (sym e) h));
      reported = refl;
      others_are = unmatched-nil ps;
    }

-- If the frames of a first chunk complete no poll, then processing a second chunk next has the same
-- effect as processing both at once.
pub Finds-then : (a p q : List ℕ) (mid buffered : Buffered) (ps qs : List Poll) (o : Option Poll) → Finds a p ps None mid ps → Finds mid.rest q ps o buffered qs → Finds a (p ++ q) ps o buffered qs
Finds-then a p q mid buffered ps qs o first second =
    record {
      ended = first.ended ++ second.ended;
      feeds = FeedsOn-then a p mid.rest q buffered.rest first.ended second.ended first.feeds second.feeds;
      reported =
          by_frame-append first.ended second.ended ps
          ∙ ap (λ x. x ++ by_frame second.ended (unmatched first.ended ps)) first.reported
          ∙ ap (by_frame second.ended) first.others_are
          ∙ second.reported;
      others_are = unmatched-append first.ended second.ended ps ∙ ap (unmatched second.ended) first.others_are ∙ second.others_are;
    }

some_inj : {X : Type 0} (a b : X) → Some a ≡ Some b → a ≡ b
some_inj a b e = cc

-- Suppose that the fields that the frame reader returns for a buffered frame complete a poll. Then
-- the buffered frame itself completes the same poll.
pub FindsBy-lent : (buffered : Option (List ℕ)) (fields : Fields) (ps qs : List Poll) (o : Option Poll) → Some fields ≡ option_map fields_of buffered → AreApart ps → TakesOut (has_id fields.tid) ps o qs → (f : List ℕ) → buffered ≡ Some f → IsOwn f → FindsBy f ps o qs
FindsBy-lent buffered fields ps qs o lent apart h f e own =
    let same : fields ≡ fields_of f = some_inj _ _ (lent ∙ ap (option_map fields_of) e) in
    let P : ℕ → Type 0 = λ id. TakesOut (has_id id) ps o qs in
    FindsBy-own f ps qs o own apart (subst P (ap (λ (x : Fields). x.tid) same) h)

-- Invariant of the loop that feeds a chunk to the frame reader: the first `at` bytes of the chunk
-- completed no poll.
pub record Strays (old : List ℕ) (piece : List ℕ) (at : ℕ) (polls : List Poll) (buffered : Buffered) : Type 0 where
  pub within : at ≤ length piece
  pub apart : AreApart polls
  pub none : Finds old (take at piece) polls None buffered polls

pub piece-more : (at n : ℕ) (piece : List ℕ) → take (at + n) piece ≡ take at piece ++ take n (take (length piece - at) (drop at piece))
piece-more at n piece = take-add at n piece ∙ ap (λ x. take at piece ++ take n x) (sym (take_rest piece at))

abbrev slice_at : ℕ → List ℕ → List ℕ
slice_at at piece = take (length piece - at) (drop at piece)

-- Suppose that the bytes passed to the frame reader until now, from one received chunk, completed
-- no poll. Then one more call of `feed` with further bytes of the chunk has the effect of passing
-- all these bytes at once.
goes_on : (old piece : List ℕ) (at n : ℕ) (ps qs : List Poll) (o : Option Poll) (mid buffered : Buffered) → Strays old piece at ps mid → Finds mid.rest (take n (slice_at at piece)) ps o buffered qs → Finds old (take (at + n) piece) ps o buffered qs
goes_on old piece at n ps qs o mid buffered strays more =
    let P : List ℕ → Type 0 = λ y. Finds old y ps o buffered qs in
    subst P (sym (piece-more at n piece)) (Finds-then old (take at piece) (take n (slice_at at piece)) mid buffered ps qs o strays.none more)

quiet : (a q : List ℕ) (buffered : Buffered) (ps : List Poll) → FeedsOn a q [] buffered.rest → Finds a q ps None buffered ps
quiet a q buffered ps h = record { ended = []; feeds = h; reported = refl; others_are = unmatched-nil ps }

pub goes_quietly : (what : Framing) (old piece : List ℕ) (at n : ℕ) (ps : List Poll) (mid buffered : Buffered) (f : List ℕ) → (what ≡ Need) ⊎ (what ≡ Garbled) → Strays old piece at ps mid → FeedsOn mid.rest (take n (slice_at at piece)) (ended what f) buffered.rest → Finds old (take (at + n) piece) ps None buffered ps
goes_quietly what old piece at n ps mid buffered f (inl e) strays h =
    let P : Framing → Type 0 = λ w. FeedsOn mid.rest (take n (slice_at at piece)) (ended w f) buffered.rest in
    goes_on old piece at n ps ps None mid buffered strays (quiet _ _ buffered ps (subst P e h))
goes_quietly what old piece at n ps mid buffered f (inr e) strays h =
    let P : Framing → Type 0 = λ w. FeedsOn mid.rest (take n (slice_at at piece)) (ended w f) buffered.rest in
    goes_on old piece at n ps ps None mid buffered strays (quiet _ _ buffered ps (subst P e h))

pub goes_past : (what : Framing) (old piece : List ℕ) (at n : ℕ) (ps : List Poll) (mid buffered : Buffered) (f : List ℕ) → what ≡ Foreign → Strays old piece at ps mid → FeedsOn mid.rest (take n (slice_at at piece)) (ended what f) buffered.rest → ReportsFraming what f → Finds old (take (at + n) piece) ps None buffered ps
goes_past what old piece at n ps mid buffered f e strays h reports =
    let P : Framing → Type 0 = λ w. FeedsOn mid.rest (take n (slice_at at piece)) (ended w f) buffered.rest in
    let Q : Framing → Type 0 = λ w. ReportsFraming w f in
    let foreign = subst Q e reports in
    let by = FindsBy-foreign f ps foreign.1 in
    goes_on old piece at n ps ps None mid buffered strays
    record { ended = f ∷ []; feeds = subst P e h; reported = by.0; others_are = by.1 }

pub goes_framed : (what : Framing) (old piece : List ℕ) (at n : ℕ) (ps qs : List Poll) (o : Option Poll) (mid buffered : Buffered) (f : List ℕ) → what ≡ Whole → Strays old piece at ps mid → FeedsOn mid.rest (take n (slice_at at piece)) (ended what f) buffered.rest → ReportsFraming what f → buffered ≡ buffered_after what f → ((g : List ℕ) → buffered.frame ≡ Some g → IsOwn g → FindsBy g ps o qs) → Finds old (take (at + n) piece) ps o buffered qs
goes_framed what old piece at n ps qs o mid buffered f e strays h reports after found =
    let P : Framing → Type 0 = λ w. FeedsOn mid.rest (take n (slice_at at piece)) (ended w f) buffered.rest in
    let Q : Framing → Type 0 = λ w. ReportsFraming w f in
    let whole = subst Q e reports in
    let has : buffered.frame ≡ Some f = ap (λ (x : Buffered). x.frame) after ∙ ap (λ w. (buffered_after w f).frame) e in
    let by = found f has whole.1 in
    goes_on old piece at n ps qs o mid buffered strays
    record { ended = f ∷ []; feeds = subst P e h; reported = by.0 ∙ ap (reported_list o) (sym has); others_are = by.1 }

pub within-more : (at n : ℕ) (piece : List ℕ) → at ≤ length piece → n ≤ length (slice_at at piece) → at + n ≤ length piece
within-more at n piece h g =
    let e : slice_at at piece ≡ drop at piece = take_rest piece at in
    let l : length (slice_at at piece) ≡ length piece - at = ap length e ∙ length-drop at piece in
    omega arith
