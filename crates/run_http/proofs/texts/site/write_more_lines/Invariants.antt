use Rattle.std.proofs.Common.{◌≡◌, drop}
use Rattle.run_http.specs.Texts.SiteText as text
use Rattle.run_http.proofs.texts.site.write_more_lines.Given as goal

abbrev pub invariant-loop-line : goal.invariant-loop-line
invariant-loop-line l = text.with_more_lines l.text.items (drop l.line-index l.lines) ≡ text.with_more_lines l.initial.text.items l.lines
