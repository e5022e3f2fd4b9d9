use Rattle.std.proofs.Common.{◌≡◌, map, take}
use Rattle.office_running.specs.Http.SiteOver.{line_over}
use Rattle.office_running.proofs.http.site_over.lines_over.Given as goal

abbrev pub invariant-loop-row : goal.invariant-loop-row
invariant-loop-row l = l.lines.items ≡ map (line_over l.earlier) (take l.row-index l.rows)
