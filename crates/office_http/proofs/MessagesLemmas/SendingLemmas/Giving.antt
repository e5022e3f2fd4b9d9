-- Lemmas: if the bytes of a response are written or buffered in parts, a prefix of them is written
-- to the client's connection, and all of them if no write fails.
use Rattle.std.proofs.Common.{◌≡◌, ◌∙◌, ℕ, Bool, true, false, List, [], ◌++◌, Option, Result, Ok, Err, refl, sym, ap, subst, append_assoc, is_err, not, ◌&&◌}
use Rattle.std.specs.Io.KnownBytes.{Appends}
use Rattle.std.proofs.KnownBytes.{Appends-nil, Appends-trans, Keeps-refl, Keeps-trans}
use Rattle.std.proofs.lemmas.List.{append-nil}
use Rattle.mb_wire.specs.Links.{Gives, risen}
use Rattle.office_http.specs.Messages.Sending.Sending.{OnlyGives, Outgoing, Puts, Sends}

-- If the buffered bytes and further bytes are written to the client's connection with one write,
-- then the further bytes count as sent after the buffered bytes.
pub Sends-given : {X E : Type 0} (result : Result X E) (base a b : Option (List ℕ)) (buffered kept : List ℕ) (old new : Bool) (all more : List ℕ) → old ≡ false → new ≡ is_err result → kept ≡ []
    → Sends base a buffered old all → (left : List ℕ) → buffered ++ more ≡ left → Gives result a b left → Sends base b kept new (all ++ more)
Sends-given (Ok x) base a b buffered kept old new all more works failed none so_far left is gives =
    let rest = so_far.whole works in
    let order : all ++ more ≡ so_far.sent ++ left = ap (λ t. t ++ more) so_far.in_order ∙ append_assoc so_far.sent so_far.left more ∙ ap (λ t. so_far.sent ++ (t ++ more)) rest ∙ ap (λ t. so_far.sent ++ t) is in
    record {
      sent = so_far.sent ++ left;
      left = [];
      in_order = order ∙ sym (append-nil (so_far.sent ++ left));
      came = Appends-trans base a b _ _ so_far.came gives;
      whole = λ _. sym none;
    }
Sends-given (Err e) base a b buffered kept old new all more works failed none so_far left is gives =
    let rest = so_far.whole works in
    let order : all ++ more ≡ so_far.sent ++ left = ap (λ t. t ++ more) so_far.in_order ∙ append_assoc so_far.sent so_far.left more ∙ ap (λ t. so_far.sent ++ (t ++ more)) rest ∙ ap (λ t. so_far.sent ++ t) is in
    record {
      sent = so_far.sent ++ gives.part;
      left = gives.unsent;
      in_order = order ∙ ap (λ t. so_far.sent ++ t) gives.whole ∙ sym (append_assoc so_far.sent gives.part gives.unsent);
      came = Appends-trans base a b _ _ so_far.came gives.given;
      whole = λ w. absurd cc;
    }

-- If further bytes are appended to the write buffer, then they count as sent, because a later write
-- passes them to the client's connection.
pub Sends-buffered : (base a : Option (List ℕ)) (buffered kept : List ℕ) (old new : Bool) (all more : List ℕ) → new ≡ old → kept ≡ buffered ++ more → Sends base a buffered old all → Sends base a kept new (all ++ more)
Sends-buffered base a buffered kept old new all more same is so_far = record {
  sent = so_far.sent;
  left = so_far.left ++ more;
  in_order = ap (λ t. t ++ more) so_far.in_order ∙ append_assoc so_far.sent so_far.left more;
  came = so_far.came;
  whole = λ w. ap (λ t. t ++ more) (so_far.whole (sym same ∙ w)) ∙ sym is;
}

-- If a write to the client's connection has failed, then the writer can drop further bytes. The
-- bytes that the client received are still a prefix of the response.
pub Sends-lost : (base a : Option (List ℕ)) (buffered : List ℕ) (old : Bool) (all more : List ℕ) → old ≡ true → Sends base a buffered old all → Sends base a buffered old (all ++ more)
Sends-lost base a buffered old all more failed so_far = record {
  sent = so_far.sent;
  left = so_far.left ++ more;
  in_order = ap (λ t. t ++ more) so_far.in_order ∙ append_assoc so_far.sent so_far.left more;
  came = so_far.came;
  whole = λ w. absurd cc;
}

-- If the buffered bytes are written to the client's connection, then all bytes of the response,
-- written or buffered, are the same as before this write.
pub Sends-flushed : {X E : Type 0} (result : Result X E) (base a b : Option (List ℕ)) (buffered kept : List ℕ) (old new : Bool) (all : List ℕ) → old ≡ false → new ≡ is_err result → kept ≡ []
    → Sends base a buffered old all → Gives result a b buffered → Sends base b kept new all
Sends-flushed result base a b buffered kept old new all works failed none so_far gives =
    subst (Sends base b kept new) (append-nil all)
    (Sends-given result base a b buffered kept old new all [] works failed none so_far buffered (append-nil buffered) gives)

-- Two consecutive calls of a response writer count at most one failed write in all, because the
-- writer makes no write after a failed write.
risen_twice : (a b c : Bool) (count : ℕ) → (a ≡ true → b ≡ true) → (b ≡ true → c ≡ true) → risen (c && not b) (risen (b && not a) count) ≡ risen (c && not a) count
risen_twice true true true count ab bc = refl
risen_twice true true false count ab bc = refl
risen_twice true false c count ab bc = let e = ab refl in cc e
risen_twice false true true count ab bc = refl
risen_twice false true false count ab bc = let e = bc refl in cc e
risen_twice false false c count ab bc = refl

risen_none : (failed : Bool) (count : ℕ) → count ≡ risen (failed && not failed) count
risen_none true count = refl
risen_none false count = refl

OnlyGives-then : {x y z : Outgoing} → OnlyGives x y → OnlyGives y z → OnlyGives x z
OnlyGives-then {x = x} {y = y} {z = z} first next = record {
  link = next.link ∙ first.link;
  stays = λ failed. next.stays (first.stays failed);
  failures = next.failures ∙ ap (risen (z.failed && not y.failed)) first.failures ∙ risen_twice x.failed y.failed z.failed x.failures first.stays next.stays;
  remaining = Keeps-trans x.remaining y.remaining z.remaining first.remaining next.remaining;
  takes = next.takes ∙ first.takes;
  last = next.last ∙ first.last;
}

-- If a first text and then a second text are sent, then the client gets the first text followed by
-- the second text.
pub Puts-then : {x y z : Outgoing} {s t : List ℕ} → Puts x y s → Puts y z t → Puts x z (s ++ t)
Puts-then {x = x} {y = y} {z = z} {s = s} {t = t} first next = record {
  put = λ base all so_far. subst (Sends base z.given z.buffered z.failed) (append_assoc all s t) (next.put base (all ++ s) (first.put base all so_far));
  link = OnlyGives-then first.link next.link;
}

-- If no write failed and the write buffer is empty, then all bytes of the response were written to
-- the client's connection.
pub Sends-all : (base given : Option (List ℕ)) (buffered : List ℕ) (failed : Bool) (all : List ℕ) → failed ≡ false → buffered ≡ [] → Sends base given buffered failed all → Appends base given all
Sends-all base given buffered failed all works none sends =
    let order : all ≡ sends.sent = sends.in_order ∙ ap (λ l. sends.sent ++ l) (sends.whole works ∙ none) ∙ append-nil sends.sent in
    subst (Appends base given) (sym order) sends.came

-- If the write buffer is empty, and nothing was written to the client's connection since an earlier
-- time (`base`), then no byte of a response was sent since.
pub HasPut-none : (base given : Option (List ℕ)) (buffered : List ℕ) (failed : Bool) → given ≡ base → buffered ≡ [] → Sends base given buffered failed []
HasPut-none base given buffered failed same none = record {
  sent = [];
  left = [];
  in_order = refl;
  came = subst (λ b. Appends base b []) (sym same) (Appends-nil base);
  whole = λ _. sym none;
}

-- A call of a response writer that changes nothing satisfies `OnlyGives`: the writer has the same
-- connection, reads nothing, and counts no new failure.
OnlyGives-none : (x : Outgoing) → OnlyGives x x
OnlyGives-none x = record {
  link = refl;
  stays = λ failed. failed;
  failures = risen_none x.failed x.failures;
  remaining = Keeps-refl x.remaining;
  takes = refl;
  last = refl;
}

pub Puts-none : (x : Outgoing) → Puts x x []
Puts-none x = record {
  put = λ base all so_far. subst (Sends base x.given x.buffered x.failed) (sym (append-nil all)) so_far;
  link = OnlyGives-none x;
}
