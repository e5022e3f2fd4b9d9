-- Proofs that functions which make several database calls in sequence satisfy `Goes`, the contract
-- of a call inside a transaction, whether all calls succeed or one fails.
use Rattle.std.proofs.Common.{Ok, Err, Result, IsErrAnd}
use Rattle.sqlite.specs.declared.error.Error.{Error}
use Rattle.sqlite.specs.Store.{Ghosts}
use Rattle.sqlite.specs.Held.{Held, state}
use Rattle.sqlite.specs.State.{State}
use Rattle.store_tables.specs.declared.faults.RowFault.{RowFault}
use Rattle.store_tables.specs.Asking.{AsksInside}
use Rattle.store_tables.specs.Content.{Content}
use Rattle.store_tables.specs.Steps.{Steps}
use Rattle.office_store.specs.Going.{Goes}
use Rattle.office_store.proofs.GoingLemmas as going
use Rattle.office_store.specs.Bookings.Places.{Answered}

-- If the query of a function inside a transaction fails and the function returns an error, the
-- function satisfies `Goes`, the contract of a call.
pub no_answer : {S A Y : Type 0} (T : RowFault → Type 0) (g : Ghosts S) (old new : Held S) (e : Error) (r : Result Y RowFault) (Makes : Y → Content → Content → Type 0)
    → AsksInside {X = A} {E = Error} g old new (Err e) → IsErrAnd r T → Goes (state g old) (state g new) r (Answered r Makes)
no_answer T g old new e (Ok y) Makes asks is = absurd is
no_answer T g old new e (Err d) Makes asks is = going.of_no_answer g old new e d (Answered (Err d) Makes) asks

-- If a call succeeds, but the SQL statement after the call fails and the function returns an error,
-- the function satisfies `Goes` (the contract of calls inside a transaction).
pub stopped : {X Y Z D : Type 0} (T : RowFault → Type 0) (a b c : State) (x : X) (e : Error) (r : Result Z RowFault) (P Q R : Content → Content → Type 0)
    → Goes {X = X} {E = D} a b (Ok x) P → Steps {X = Y} b c (Err e) Q → IsErrAnd r T → Goes a c r R
stopped T a b c x e (Ok z) P Q R one two is = absurd is
stopped T a b c x e (Err d) P Q R one two is = going.then_failed a b c x e d P Q R one (going.of_steps b c (Err e) Q two)

-- If a call and the SQL statement after it succeed, both together satisfy the contract `Goes` of a
-- single call. This holds for every effect that follows from their two effects.
pub completed : {X Y D : Type 0} (a b c : State) (x : X) (n : Y) (P Q R : Content → Content → Type 0) → Goes {X = X} {E = D} a b (Ok x) P → Steps {X = Y} {E = Error} b c (Ok n) Q
    → ((before mid after : Content) → P before mid → Q mid after → R before after) → Goes {X = Unit {0}} {E = RowFault} a c (Ok tt) R
completed a b c x n P Q R one two goes =
    going.reported_less {D = Error} a c n tt R R (λ content after is. is) (going.goes_then a b c x (Ok n) P Q R one (going.of_steps b c (Ok n) Q two) goes)

-- If the only SQL statement of a function succeeds, the function satisfies `Goes`, the contract of
-- a call inside a transaction. This holds for every effect that follows from the statement's
-- effect.
pub completed_alone : {Y : Type 0} (a b : State) (n : Y) (Q R : Content → Content → Type 0) → Steps {X = Y} {E = Error} a b (Ok n) Q
    → ((content after : Content) → Q content after → R content after) → Goes {X = Unit {0}} {E = RowFault} a b (Ok tt) R
completed_alone a b n Q R one reports = going.reported_less {D = Error} a b n tt Q R reports (going.of_steps a b (Ok n) Q one)

-- The composition of two relations between the old and the new content of the store's tables: the
-- second applies to the content after the first.
abbrev pub Then : (Content → Content → Type 0) → (Content → Content → Type 0) → Content → Content → Type 0
Then P Q content after = (mid : Content) × P content mid × Q mid after

-- If a call and the SQL statement after it succeed, both together satisfy `Goes`, the contract of a
-- call inside a transaction. Their effect is the composition of the two effects.
pub went_on : {X Y D : Type 0} (a b c : State) (x : X) (n : Y) (P Q : Content → Content → Type 0) → Goes {X = X} {E = D} a b (Ok x) P → Steps {X = Y} {E = Error} b c (Ok n) Q
    → Goes {X = Y} {E = Error} a c (Ok n) (Then P Q)
went_on a b c x n P Q one two = going.goes_then a b c x (Ok n) P Q (Then P Q) one (going.of_steps b c (Ok n) Q two) (λ before mid after p q. (mid, p, q))

-- If a call succeeds, but the next call fails and the function returns an error, the function
-- satisfies `Goes`, the contract of a call.
pub broken : {X Y Z D E : Type 0} (T : RowFault → Type 0) (a b c : State) (x : X) (e : E) (r : Result Z RowFault) (P Q R : Content → Content → Type 0)
    → Goes {X = X} {E = D} a b (Ok x) P → Goes {X = Y} b c (Err e) Q → IsErrAnd r T → Goes a c r R
broken T a b c x e (Ok z) P Q R one two is = absurd is
broken T a b c x e (Err d) P Q R one two is = going.then_failed a b c x e d P Q R one two

-- If a query succeeds, but its answer can't be used and the function returns an error, the function
-- satisfies `Goes`, the contract of a call inside a transaction.
pub turned_down : {X Z D : Type 0} (T : RowFault → Type 0) (a b : State) (x : X) (r : Result Z RowFault) (P R : Content → Content → Type 0) → Goes {X = X} {E = D} a b (Ok x) P → IsErrAnd r T → Goes a b r R
turned_down T a b x (Ok z) P R one is = absurd is
turned_down T a b x (Err d) P R one is = going.then_refused a b x d P R one
