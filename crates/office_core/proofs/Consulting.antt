-- Lemmas: several lookups in the store leave the store's records unchanged, even if memory runs out
-- or a lookup fails between them.
use Rattle.std.proofs.Common.{◌≡◌, subst, sym, refl, inr, Result, Ok, Err}
use Rattle.std.specs.Prelude.{IfErr}
use Rattle.std.specs.Result.{IsErrAnd}
use Rattle.office_books.specs.declared.faults.BooksFault.{BooksFault}
use Rattle.office_books.specs.declared.faults.BooksFault.TheVariants.{Memory}
use Rattle.office_books.specs.Ledgers.{Ledger, LedgerAfterCalls, Consults}
use Rattle.office_books.proofs.Moving.{consults_then, passes_well, passes_failed, passes_without}

-- If memory runs out after successful lookups in the store, then the lookups still guarantee that
-- the store's records are unchanged.
pub reads_without : {T U : Type 0} (a b : Ledger) (x : T) (r : Result U BooksFault) → Consults a b (Ok x) → IfErr r (λ fault. fault ≡ Memory)
    → Consults a b r
reads_without a b x (Ok y) reads lacks = record { goes = passes_well a b x y reads.goes; keeps = reads.keeps }
reads_without {T} {U} a b x (Err fault) reads lacks =
    subst (λ f. Consults {T = U} a b (Err f)) (sym lacks) (record { goes = passes_without a b x reads.goes; keeps = reads.keeps })

pub reads_lacking : {T U : Type 0} (a b : Ledger) (x : T) (r : Result U BooksFault) → Consults a b (Ok x) → IsErrAnd r (λ fault. fault ≡ Memory)
    → Consults a b r
reads_lacking a b x (Ok y) reads lacks = absurd lacks
reads_lacking a b x (Err fault) reads lacks = reads_without a b x (Err fault) reads lacks

-- If memory runs out before the first call to the store, then the store is unchanged. This meets
-- the guarantees of a sequence of calls to the store (such as counted failures).
pub passes_lacking : {U : Type 0} (a : Ledger) (r : Result U BooksFault) → IsErrAnd r (λ fault. fault ≡ Memory) → LedgerAfterCalls a a r
passes_lacking a (Ok y) lacks = absurd lacks
passes_lacking {U} a (Err fault) lacks =
    subst (λ f. LedgerAfterCalls {T = U} a a (Err f)) (sym lacks) (record { clean = λ c. c; faults = inr refl; zone = refl })

pub asks_lacking : {U : Type 0} (a : Ledger) (r : Result U BooksFault) → IsErrAnd r (λ fault. fault ≡ Memory) → Consults a a r
asks_lacking a r lacks = record { goes = passes_lacking a r lacks; keeps = record { facts = λ known h. h; left = λ left may. may } }

-- If a function returns the failure of a call to the store, then the guarantees of the failed call
-- (the failure is counted) also hold for the function.
pub passes_as : {T U : Type 0} (a b : Ledger) (fault : BooksFault) (r : Result U BooksFault) → LedgerAfterCalls {T = T} a b (Err fault) → IsErrAnd r (λ f. f ≡ fault)
    → LedgerAfterCalls a b r
passes_as a b fault (Ok y) goes is = absurd is
passes_as {T} {U} a b fault (Err f) goes is = subst (λ e. LedgerAfterCalls {T = U} a b (Err e)) (sym is) (passes_failed a b fault goes)

pub reads_as : {T U : Type 0} (a b : Ledger) (fault : BooksFault) (r : Result U BooksFault) → Consults {T = T} a b (Err fault) → IsErrAnd r (λ f. f ≡ fault)
    → Consults a b r
reads_as a b fault r reads is = record { goes = passes_as a b fault r reads.goes is; keeps = reads.keeps }

-- If a lookup in the store fails after successful lookups, then all of these lookups together still
-- guarantee that the store's records are unchanged.
pub reads_failed : {T U V : Type 0} (a b c : Ledger) (x : T) (fault : BooksFault) (r : Result V BooksFault) → Consults a b (Ok x)
    → Consults {T = U} b c (Err fault) → IsErrAnd r (λ f. f ≡ fault) → Consults a c r
reads_failed {T} {U} {V} a b c x fault r first second is = consults_then a b c x r first (reads_as b c fault r second is)
