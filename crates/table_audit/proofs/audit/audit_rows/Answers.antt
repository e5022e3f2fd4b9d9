use Rattle.std.proofs.Common.{rules, ◌≡◌, ◌↔◌, ℕ, List, [], ◌∷◌, Some, None, Ok, refl, sym, ap, subst, ◌∙◌}
use Rattle.sqlite.specs.Order.{Row}
use Rattle.table_audit.specs.Reading.{entry_in, void_in, share_in, range_in, all_in}
use Rattle.table_audit.proofs.Found.{never, reported_by, what_was_read, no_range, fine_found}
use Rattle.table_audit.proofs.audit.audit_rows.Goals as goal

pub returns-in_default-clause-fine : goal.returns-in_default-clause-fine
returns-in_default-clause-fine c =
    let ranges : c.deref.result.now ≡ c.args.rows.now.ranges.items = search rules in
    never _ (no_range c.args.installation.now c.args.rows.now
    (subst (λ (rows : List Row). (n : ℕ) → (all_in range_in rows ≡ Ok (n ∷ [])) ↔ (None ≡ Some n)) ranges c.in_default.ensures))

pub returns-clause-fine : goal.returns-clause-fine
returns-clause-fine c =
    let ranges : c.deref.result.now ≡ c.args.rows.now.ranges.items = search rules in
    let void_rows : c.deref-2.result.now ≡ c.args.rows.now.voids.items = search rules in
    let entry_rows : c.deref-3.result.now ≡ c.args.rows.now.entries.items = search rules in
    let share_rows : c.deref-5.result.now ≡ c.args.rows.now.intervals.items = search rules in
    let named : c.deref-4.result.now ≡ c.in-Some-2.voids.items = search rules in
    let voids : c.as_slice.result.now ≡ c.in-Some-2.voids.items = search rules in
    let entries : c.as_slice-2.result.now ≡ c.in-Some-3.entries.items = search rules in
    let shares : c.as_slice-3.result.now ≡ c.in-Some-4.shares.items = search rules in
    reported_by c.audit_read.result c.audit_read.ensures.fine
    (λ b reported. fine_found c.args.installation.now c.args.rows.now c.in-Some.range c.in-Some-2.voids.items c.deref-4.result.now c.as_slice.result.now
    c.in-Some-3.entries.items c.as_slice-2.result.now c.in-Some-4.shares.items c.as_slice-3.result.now b named voids entries shares
    (ap (all_in range_in) (sym ranges) ∙ (c.in-Some.ensures c.in-Some.range).1 refl)
    (what_was_read void_in c.deref-2.result.now c.args.rows.now.voids.items c.in_ok-voids.field-0 c.in-Some-2.voids void_rows c.in-Some-2.is c.in_ok-voids.ensures)
    (what_was_read (entry_in c.deref-4.result.now) c.deref-3.result.now c.args.rows.now.entries.items c.in_ok-entries.field-0 c.in-Some-3.entries entry_rows
    c.in-Some-3.is c.in_ok-entries.ensures.read)
    (what_was_read share_in c.deref-5.result.now c.args.rows.now.intervals.items c.in_ok-shares.field-0 c.in-Some-4.shares share_rows c.in-Some-4.is c.in_ok-shares.ensures)
    reported)
