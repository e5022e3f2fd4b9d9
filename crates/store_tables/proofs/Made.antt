-- Proofs about the database after the creation of a database file: after a successful transaction,
-- and after a failure before the first call to the database.
use Rattle.std.proofs.Common.{◌≡◌, inl, ℕ, List, [], Ok, Err, Result, IsErrAnd, refl, arith}
use Rattle.std.proofs.lemmas.List.Sorted.{IsPermutation-refl}
use Rattle.sqlite.specs.Effect.{Database}
use Rattle.sqlite.specs.State.{State}
use Rattle.store_tables.specs.Content.{Content, Edits, with_row}
use Rattle.store_tables.specs.Steps.{StepsTo, Turns, TransactsTo}
use Rattle.store_tables.proofs.StepLemmas.{goes_then}
use Rattle.store_tables.specs.Layouts.{no_schema}
use Rattle.store_tables.specs.Meta.{meta, meta_columns}
use Rattle.store_tables.specs.Growing.{HasFirst, Grows}
use Rattle.store_tables.specs.NewFile.{Makes}

nothing : Content
nothing t = []

blank : (db : Database) → db.schema ≡ no_schema → HasFirst 0 db nothing
unfolding nothing
blank db is = record { schema = is; rows = λ t none. absurd none; apart = λ t none. absurd none; none = λ t there out. refl }

pub filled : {E D : Type 0} (zone : List ℕ) (a b c : State) (x : ℕ) (r : Result ℕ E) → StepsTo {X = ℕ} {E = D} a b (Ok x) (Grows 0 13)
    → StepsTo b c r (Turns (Edits meta meta_columns (with_row (record { version = 3; zone = zone })))) → StepsTo a c r (Makes zone)
unfolding nothing
filled zone a b c x r one two =
    goes_then a b c x r (Grows 0 13) (Turns (Edits meta meta_columns (with_row (record { version = 3; zone = zone })))) (Makes zone) one two (λ grows turns is.
    let turned = turns nothing (grows nothing (blank a.now is)) in
    (turned.0, record { marked = turned.1.rows [] (IsPermutation-refl []); empty = λ t off. turned.1.others t off }, turned.2))

-- Whether a successful transaction satisfies the contract `TransactsTo` (all effects are committed
-- together, or none) does not depend on the value in Ok.
pub made_as : {X Y E D : Type 0} (a b : State) (x : X) (y : Y) (Goes : Database → Database → Type 0) → TransactsTo {X = X} {E = E} a b (Ok x) Goes → TransactsTo {X = Y} {E = D} a b (Ok y) Goes
made_as a b x y Goes it = record { ok = it.ok; err = λ clean. tt; survives = it.survives }

pub unmade_as : {X Y E D : Type 0} (a b : State) (e : E) (d : D) (Goes : Database → Database → Type 0) → TransactsTo {X = X} a b (Err e) Goes → TransactsTo {X = Y} a b (Err d) Goes
unmade_as a b e d Goes it = record { ok = λ clean. tt; err = it.err; survives = it.survives }

pub passed_on : {X Y E D : Type 0} (a b : State) (e : E) (r : Result Y D) (Q : D → Type 0) (Goes : Database → Database → Type 0) → IsErrAnd r Q → TransactsTo {X = X} a b (Err e) Goes → TransactsTo a b r Goes
passed_on a b e (Ok y) Q Goes fails it = absurd fails
passed_on a b e (Err d) Q Goes fails it = record { ok = λ clean. tt; err = it.err; survives = it.survives }

-- If creating a file fails before the first call to the database, the database is unchanged.
pub unmade : {X E : Type 0} (a : State) (r : Result X E) (Q : E → Type 0) (Goes : Database → Database → Type 0) → IsErrAnd r Q → TransactsTo a a r Goes
unmade a (Ok x) Q Goes fails = absurd fails
unmade a (Err e) Q Goes fails = record {
  ok = λ clean. tt;
  err = λ clean. record { was_open = λ is. is; committed = λ is. refl };
  survives = record { clean = omega arith; shield = λ is. is; counts = omega arith; limit = refl; closes = λ clean is. inl is; crash = λ clean db left. inl left };
}
