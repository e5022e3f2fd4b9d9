use Rattle.std.proofs.Common.{refl, arith, List, ℕ}
use Rattle.office_core.specs.declared.site.SiteRow.{SiteRow}
use Rattle.run_http.specs.Texts.EnergyLines as text
use Rattle.office_events.proofs.Loops.{all_on, one_on}
use Rattle.run_http.proofs.texts.energy_lines.write_entries.Goals as goal

pub loop-row-preserved : goal.loop-row-preserved
loop-row-preserved c =
    one_on (λ (rows : List SiteRow) (before : List ℕ). text.with_entries before rows) (λ row before. text.with_entry_of before row row.meter) (λ x xs t. refl) c.args.rows.now
    c.loop-row.row-index c.row-item.result c.loop-row.text.items c.write_entry_of.new.text.items _ c.loop-row-test.true c.row-item.is c.loop-row.invariant c.in_ok-write_entry_of.ensures

pub returns : goal.returns
returns c =
    all_on (λ (rows : List SiteRow) (before : List ℕ). text.with_entries before rows) (λ t. refl) c.args.rows.now c.loop-row.row-index
    c.loop-row.text.items _ (omega arith) c.loop-row.invariant
