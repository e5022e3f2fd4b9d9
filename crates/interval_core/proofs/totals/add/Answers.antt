use Rattle.std.proofs.Common.{◌≡◌, ℕ, Bool, true, false, ◌+◌, ◌-◌, ◌^◌, min, ap, if◌then◌else◌, map, take, drop, All, inl, inr, refl}
use mir.Val.{bool_byte}
use Rattle.std.proofs.lemmas.List.{take-append-drop}
use Rattle.jiff.specs.Words.{epoch_day}
use Rattle.interval_core.specs.declared.totals.DayTotal.{DayTotal}
use Rattle.interval_core.specs.Days.{account_of}
use Rattle.interval_core.proofs.PlaceLemmas.{Other, grows, begins, absent, not_contained}
use Rattle.interval_core.proofs.totals.add.Goals as goal

as_number : (b : Bool) (n : ℕ) → n ≡ bool_byte b → n ≡ (if b then 1 else 0)
as_number true n e = e
as_number false n e = e

pub returns-in_err-insert-in-Err-clause-known : goal.returns-in_err-insert-in-Err-clause-known
returns-in_err-insert-in-Err-clause-known c = λ contains.
    let accounts = map account_of c.args.totals.now.items in
    let day = epoch_day c.args.day in
    let gap = rw c.deref.ensures.value at c.in-Err.ensures.missing in
    let others = absent day (take c.in-Err.place accounts) (drop c.in-Err.place accounts) gap.earlier gap.later in
    let all : All (Other day) accounts = rw take-append-drop at others in
    absurd (not_contained day accounts all contains)

pub returns-in-Ok-clause-ok : goal.returns-in-Ok-clause-ok
returns-in-Ok-clause-ok c =
    let t = c.index-total.result.now in
    let holds = rw c.deref.ensures.value at c.in-Ok.ensures.found in
    let count : t.count + c.from.result ≡ t.count + (if c.args.is_new then 1 else 0) = ap (λ n. t.count + n) (as_number c.args.is_new c.from.result c.from.ensures) in
    let mwh : c.saturating_add.result ≡ min (t.mwh + c.args.mwh) (2 ^ 128 - 1) = rw (← c.from-in-Ok.ensures) c.saturating_add.ensures in
    let changed : DayTotal = record { day = c.args.day; count = t.count + c.from.result; mwh = c.saturating_add.result } in
    inl (grows (epoch_day c.args.day) (if c.args.is_new then 1 else 0) c.args.mwh c.args.totals.now.items c.in-Ok.place t changed holds c.index-total.ensures refl count mwh)

pub returns-in_ok-insert-in-Err-clause-ok : goal.returns-in_ok-insert-in-Err-clause-ok
returns-in_ok-insert-in-Err-clause-ok c =
    let gap = rw c.deref.ensures.value at c.in-Err.ensures.missing in
    let new : DayTotal = record { day = c.args.day; count = 1; mwh = c.from-in-Err.result } in
    rw c.in_ok-insert-in-Err.ensures.items
    (inr (begins (epoch_day c.args.day) c.args.mwh c.args.totals.now.items c.in-Err.place new gap refl refl c.from-in-Err.ensures))
