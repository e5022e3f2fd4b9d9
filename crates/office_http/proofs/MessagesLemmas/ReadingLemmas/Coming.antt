-- Lemmas on the bytes of a request that arrive in several reads: whether these bytes are complete,
-- and whether the last read was necessary.
use Rattle.std.proofs.Common.{◌≡◌, ◌∙◌, ℕ, ◌+◌, true, List, ◌++◌, length, Err, ap, sym, subst, arith, append_assoc, length-append}
use Rattle.std.specs.declared.option.Option.{Option}
use Rattle.std.specs.Io.KnownBytes.{Keeps}
use Rattle.std.proofs.KnownBytes.{Consumes-kept, Consumes-trans}
use Rattle.office_http.specs.Messages.Head.Heads.{IsOpenHead, Looks, is_open}
use Rattle.office_http.specs.declared.messages.head.head.HeadState.{HeadState}
use Rattle.office_http.specs.declared.messages.head.head.HeadState.TheVariants.{Open, TooLarge, NoHead, Whole}
use Rattle.office_http.specs.Messages.Reading.HeadAndBody.{ReadsHead, TakesWhatLacks}
use Rattle.office_http.specs.Messages.Reading.Taking.{Came, TakesOn, brought}
use Rattle.office_http.specs.declared.messages.reading.inbox.TakeFault.{TakeFault}
use Rattle.office_http.specs.declared.messages.reading.inbox.TakeFault.TheVariants.{Read, Short, TurnsUsed}
use Rattle.mb_wire.specs.declared.link.LastTake.{LastTake}

pub Came-then : (a b c : List ℕ) (r s t : Option (List ℕ)) → Came a b r s → Came b c s t → Came a c r t
Came-then a b c r s t x y = record {
  chunk = x.chunk ++ y.chunk;
  bytes = y.bytes ∙ ap (λ z. z ++ y.chunk) x.bytes ∙ append_assoc a x.chunk y.chunk;
  consumed = Consumes-trans r s t _ _ x.consumed y.consumed;
}

-- If parsing the received bytes returns the state `Open`, the bytes contain an incomplete request
-- head.
pub head_state-open : (bytes : List ℕ) (head_state : HeadState) → Looks bytes head_state → is_open head_state ≡ true → IsOpenHead bytes
head_state-open bytes Open h e = h
head_state-open bytes TooLarge h e = cc e
head_state-open bytes NoHead h e = cc e
head_state-open bytes (Whole at) h e = cc e

came-kept : (old mid new : List ℕ) (r s t : Option (List ℕ)) → Came old mid r s → new ≡ mid → Keeps s t → Came old new r t
came-kept old mid new r s t came same kept = record {
  chunk = came.chunk;
  bytes = same ∙ came.bytes;
  consumed = Consumes-kept r s t came.chunk came.consumed kept;
}

-- If a read fails while the request head is incomplete, then the read adds no bytes to the buffer.
pub fails_after : (fault : TakeFault) (old mid new : List ℕ) (r s t : Option (List ℕ)) → Came old mid r s → TakesOn {X = Unit {0}} (Err fault) mid new s t → IsOpenHead mid → ReadsHead (Err fault) old new r t
fails_after Read old mid new r s t came on goes_on = (came-kept old mid new r s t came on.0 on.1, subst IsOpenHead (sym on.0) goes_on, tt)
fails_after Short old mid new r s t came on goes_on = (came-kept old mid new r s t came on.0 on.1, subst IsOpenHead (sym on.0) goes_on, on.2)
fails_after TurnsUsed old mid new r s t came on goes_on = (came-kept old mid new r s t came on.0 on.1, subst IsOpenHead (sym on.0) goes_on, tt)

-- If the bytes received before the last read satisfy `GoesOn` (the request is still incomplete),
-- then the reads satisfy `TakesWhatLacks`: the last read was necessary.
pub stops_after : (GoesOn : List ℕ → Type 0) (old mid new : List ℕ) (last : Option LastTake) (earlier chunk : List ℕ) → mid ≡ old ++ earlier → GoesOn mid
    → new ≡ mid ++ chunk → length new ≡ length mid + brought last → TakesWhatLacks GoesOn old new last
stops_after GoesOn old mid new last earlier chunk came goes_on is size = record {
  earlier = earlier;
  chunk = chunk;
  goes_on = subst GoesOn came goes_on;
  bytes = is ∙ ap (λ t. t ++ chunk) came;
  size = omega (arith, size, ap length is, length-append mid chunk);
}
