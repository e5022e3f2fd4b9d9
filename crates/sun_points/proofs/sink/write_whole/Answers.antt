use Rattle.std.proofs.Common.{◌≡◌, ◌-◌, ℕ, List, ◌++◌, Bor, length, take, drop, sym, ap, ◌∙◌, append_assoc, take-append-drop}
use Rattle.std.proofs.lemmas.List.{take_rest}
use Rattle.std.proofs.KnownBytes.{Appends-kept, Appends-trans}
use Rattle.sun_points.proofs.sink.write_whole.Goals as goal
use Rattle.sun_points.proofs.sink.write_whole.Goals.{in-Ok, in-Err}

-- After a write of `n` bytes, the bytes written and the remaining bytes together are the complete
-- text.
moves_front : (all done rest left : List ℕ) (n : ℕ) → all ≡ done ++ rest → left ≡ take (length rest - n) (drop n rest) → all ≡ (done ++ take n rest) ++ left
moves_front all done rest left n split is =
    split ∙ ap (λ (l : List ℕ). done ++ l) (sym (take-append-drop n rest)) ∙ sym (append_assoc done (take n rest) (drop n rest))
    ∙ ap (λ (l : List ℕ). (done ++ take n rest) ++ l) (sym (take_rest rest n) ∙ sym is)

-- After an interrupted write, the remaining bytes are unchanged. The bytes written earlier and the
-- remaining bytes together are still the complete text.
stays : (all done rest left : List ℕ) → all ≡ done ++ rest → left ≡ rest → all ≡ done ++ left
stays all done rest left split is = split ∙ ap (λ (l : List ℕ). done ++ l) (sym is)

pub loop-preserved : goal.loop-preserved
loop-preserved g c =
    let (done, split, appended) = c.loop.invariant in
    elim c.match-write.branch [
      | in-Ok w ↦
          (done ++ take w.in-Ok.count c.loop.rest.now, moves_front _ done c.loop.rest.now c.match-write.rest.now w.in-Ok.count split (ap (λ (r : Bor (List ℕ)). r.now) w.rest-is), Appends-trans _ _ _ _ _ appended w.in-Ok.ensures.bytes)
      | in-Err w ↦
          (done, stays _ done c.loop.rest.now c.match-write.rest.now split (ap (λ (r : Bor (List ℕ)). r.now) w.rest-is), Appends-kept _ _ _ _ appended w.in-Err.ensures.bytes)
    ]
