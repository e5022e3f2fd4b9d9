use Rattle.std.proofs.Common.{rules, ◌≡◌, ℕ, List, Option, Some, None, refl, sym, ap, ◌∙◌}
use Rattle.sqlite.specs.Order.{Row}
use Rattle.table_audit.specs.Reading.{range_in, all_in}
use Rattle.table_seals.proofs.tables.read_rows.Goals as goal

pub returns-in-None-clause-read : goal.returns-in-None-clause-read
returns-in-None-clause-read c =
    let same : c.deref.result.now ≡ c.args.rows.now.ranges.items = search rules in
    λ range voids entries h.
    absurd (
    let none : (let o : Option ℕ = None in o) ≡ Some range =
    (c.in-None.ensures range).0 (ap (λ (rs : List Row). all_in range_in rs) same ∙ h.range_read) in cc)

pub returns-clause-read : goal.returns-clause-read
returns-clause-read c =
    let same : c.deref.result.now ≡ c.args.rows.now.ranges.items = search rules in
    record {
      range_read = ap (λ (rs : List Row). all_in range_in rs) (sym same) ∙ (c.in-Some.ensures c.in-Some.range).1 refl;
      voids_read = search rules;
      entries_read = search rules;
    }
