use Rattle.std.proofs.Common.{◌≡◌, Bool, true, false, not, Result, Ok, Err, OnOk, IsTrue, refl, sym, ◌∙◌}
use Rattle.table_audit.proofs.HeldRows.{holds_tables}
use Rattle.table_audit.proofs.schema.check_definitions.Goals as goal

idle : (b mode : Bool) → b ≡ not mode → mode ≡ false → IsTrue b
idle b true is none = absurd (let e : true ≡ false = none in cc)
idle true false is none = refl
idle false false is none = absurd (let e : false ≡ true = is in cc)

on_ok : {A E P Q : Type 0} (r : Result A E) → (P → Q) → OnOk r P → OnOk r Q
on_ok (Ok a) then is = then is
on_ok (Err e) then is = tt

pub returns-clause-ours : goal.returns-clause-ours
returns-clause-ours g c =
    on_ok c.check_schema.result
    (λ same. holds_tables g.S.Store c.args.conn.now (sym c.schema.ensures.value ∙ same) c.schema.ensures.live
    (c.is_autocommit-settled.ensures.settled (idle c.is_autocommit-settled.result c.args.conn.now.in_transaction c.is_autocommit-settled.ensures.value c.requires)))
    c.check_schema.ensures.same
