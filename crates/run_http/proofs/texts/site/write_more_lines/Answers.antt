use Rattle.std.proofs.Common.{refl, arith, List, ℕ}
use Rattle.std.specs.Prelude.{codes}
use Rattle.run_http.specs.Texts.SiteText as text
use Rattle.run_http.specs.declared.texts.site.SiteLine.{SiteLine}
use Rattle.office_events.proofs.Loops.{all_on, one_on}
use Rattle.run_http.proofs.texts.site.write_more_lines.Goals as goal

pub loop-line-preserved : goal.loop-line-preserved
loop-line-preserved c =
    one_on (λ (lines : List SiteLine) (before : List ℕ). text.with_more_lines before lines) (λ line before. text.with_line (codes ",{\"device\":\"") before line) (λ x xs t. refl) c.args.lines.now
    c.loop-line.line-index c.line-item.result c.loop-line.text.items c.write_line.new.text.items _ c.loop-line-test.true c.line-item.is c.loop-line.invariant c.in_ok-write_line.ensures

pub returns : goal.returns
returns c =
    all_on (λ (lines : List SiteLine) (before : List ℕ). text.with_more_lines before lines) (λ t. refl) c.args.lines.now c.loop-line.line-index
    c.loop-line.text.items _ (omega arith) c.loop-line.invariant
