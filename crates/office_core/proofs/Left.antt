-- Lemmas that the store has the records of the accepted events after each call, also if a crash
-- follows.
use Rattle.std.proofs.Common.{◌≡◌, ◌⊎◌, zero, suc, List, [], ◌∷◌, ◌++◌, inl, inr, refl, sym, ◌∙◌, arith, Result, Ok, Err}
use Rattle.std.specs.Prelude.{All}
use Rattle.std.proofs.lemmas.List.Elements.{All-append}
use Rattle.office_events.specs.declared.facts.Fact.{Fact}
use Rattle.office_books.specs.History.{History, Accepted, facts_of}
use Rattle.office_books.specs.Lawfulness.{IsPast}
use Rattle.office_books.specs.declared.faults.BooksFault.{BooksFault}
use Rattle.office_books.specs.Ledgers.{Ledger, OnlyReads, Moves}
use Rattle.office_core.specs.Leaving.{MayBeLeft, StopLeaves, BooksStand, Leaves, LeftOnceDone, LeftOnceFailed}

only_one : {X : Type 0} (P : X → Type 0) (x : X) → P x → All P (x ∷ [])
only_one P x h zero d less = h
only_one P x h (suc k) d less = absurd (omega arith)

-- If an event adds no record to the store, then the store may have the same records after a crash
-- as before the event.
still_left : (past later : History) → facts_of later ≡ facts_of past → (facts : List Fact) → MayBeLeft past facts → MayBeLeft later facts
still_left past later same facts (inl is) = inl (is ∙ sym same)
still_left past later same facts (inr more) =
    inr (record { next = more.next; earlier = more.earlier; is_past = more.is_past; same = more.same ∙ sym same; are = more.are })

pub read_stand : {T : Type 0} (old new : Ledger) (past : History) (result : Result T BooksFault) → OnlyReads old new result → BooksStand old past → BooksStand new past
read_stand old new past result reads stand = record {
  is_past = stand.is_past;
  holds = reads.keeps.facts (facts_of past) stand.holds;
  leaves = record { left = stand.leaves.left; may = reads.keeps.left stand.leaves.left stand.leaves.may; each = stand.leaves.each };
}

leaves_ok : (new : Ledger) (next : Accepted) (past : History) (left : List (List Fact)) → All (MayBeLeft past) left
    → new.may_leave (facts_of (next ∷ past) ∷ []) ⊎ ((facts_of (next ∷ past) ≡ facts_of past) × new.may_leave left) → StopLeaves new (next ∷ past)
leaves_ok new next past left each (inl may) =
    record { left = facts_of (next ∷ past) ∷ []; may = may; each = only_one (MayBeLeft (next ∷ past)) (facts_of (next ∷ past)) (inl refl) }
leaves_ok new next past left each (inr same) =
    record { left = left; may = same.1; each = λ k d less. still_left past (next ∷ past) same.0 _ (each k d less) }

pub moved_on : {T : Type 0} (old new : Ledger) (next : Accepted) (past : History) (x : T) → Moves old new (facts_of past) (facts_of (next ∷ past)) (Ok x)
    → IsPast (next ∷ past) → new.is_clean → BooksStand old past → BooksStand new (next ∷ past)
moved_on old new next past x moves is_past clean stand = record {
  is_past = is_past;
  holds = moves.holds stand.holds clean;
  leaves = leaves_ok new next past stand.leaves.left stand.leaves.each (moves.settled stand.leaves.left stand.holds clean stand.leaves.may);
}

leaves_err : (new : Ledger) (next : Accepted) (past : History) (left : List (List Fact)) → All (MayBeLeft past) left → IsPast (next ∷ past)
    → new.may_leave left ⊎ new.may_leave (left ++ facts_of (next ∷ past) ∷ []) → StopLeaves new past
leaves_err new next past left each is_past (inl may) = record { left = left; may = may; each = each }
leaves_err new next past left each is_past (inr may) = record {
  left = left ++ facts_of (next ∷ past) ∷ [];
  may = may;
  each =
      All-append (MayBeLeft past) left (facts_of (next ∷ past) ∷ []) each
      (only_one (MayBeLeft past) (facts_of (next ∷ past)) (inr (record { next = next; earlier = past; is_past = is_past; same = refl; are = refl })));
}

pub moved_not : {T : Type 0} (old new : Ledger) (next : Accepted) (past : History) (why : BooksFault) → Moves {T = T} old new (facts_of past) (facts_of (next ∷ past)) (Err why)
    → IsPast (next ∷ past) → new.is_clean → BooksStand old past → BooksStand new past
moved_not old new next past why moves is_past clean stand = record {
  is_past = stand.is_past;
  holds = moves.refused stand.holds;
  leaves = leaves_err new next past stand.leaves.left stand.leaves.each is_past (moves.under_way stand.leaves.left stand.holds clean stand.leaves.may);
}

-- If a call to the store succeeds, then after a crash the store has the records of all accepted
-- events, including the new event.
pub done_left : {T : Type 0} (old new : Ledger) (next : Accepted) (past : History) (x : T) → Moves old new (facts_of past) (facts_of (next ∷ past)) (Ok x)
    → new.is_clean → BooksStand old past → Leaves old new (LeftOnceDone past next)
done_left old new next past x moves clean stand = λ before may. elim (moves.settled before stand.holds clean may) [
  | inl whole ↦ (facts_of (next ∷ past) ∷ [], inl refl, whole)
  | inr same ↦ (before, inr (same.0, refl), same.1)
]

pub failed_left : {T : Type 0} (old new : Ledger) (next : Accepted) (past : History) (why : BooksFault) → Moves {T = T} old new (facts_of past) (facts_of (next ∷ past)) (Err why)
    → IsPast (next ∷ past) → new.is_clean → BooksStand old past → Leaves old new (LeftOnceFailed past next)
failed_left old new next past why moves is_past clean stand = λ before may. elim (moves.under_way before stand.holds clean may) [
  | inl same ↦ (before, inl refl, same)
  | inr more ↦ (before ++ facts_of (next ∷ past) ∷ [], inr (is_past, refl), more)
]

-- A lookup before a call to the store does not change which records the store may have after a
-- crash.
pub read_first : {T : Type 0} (old between new : Ledger) (result : Result T BooksFault) (so : (before after : List (List Fact)) → Type 0)
    → OnlyReads old between result → Leaves between new so → Leaves old new so
read_first old between new result so reads leaves = λ before may. leaves before (reads.keeps.left before may)
