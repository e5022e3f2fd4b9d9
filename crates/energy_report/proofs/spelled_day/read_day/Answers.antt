use Rattle.std.proofs.Common.{◌≡◌, ℕ, List, None, rules, subst}
use Rattle.energy_report.specs.Days.{PartsAre}
use Rattle.energy_report.proofs.DayLemmas.{none}
use Rattle.energy_report.proofs.spelled_day.read_day.Goals as goal

pub returns-in_err-parts : goal.returns-in_err-parts
returns-in_err-parts c =
    let nothing : c.from_residual.result ≡ None = search rules in
    let P : List ℕ → Type 0 = λ text. PartsAre text None in
    rw nothing (none c.args.text.now (subst P c.as_bytes.ensures.value c.in_err-parts.ensures))
