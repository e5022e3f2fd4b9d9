use Rattle.std.proofs.Common.{◌<◌, ◌++◌, ◌∷◌, [], ℕ, List, take, length, sym, ap, ◌∙◌, append_assoc}
use Rattle.std.proofs.lemmas.List.{take_all, take_more}
use Rattle.office_books.specs.declared.entries.MeterEntry.{MeterEntry}
use Rattle.energy_report.specs.Statements.{tally_of}
use Rattle.energy_report.proofs.tallies.EntryTally.take_all.Goals as goal

pub loop-entry-preserved : goal.loop-entry-preserved
loop-entry-preserved c = λ before is.
    let entries : List MeterEntry = c.args.entries.now in
    let i : ℕ = c.loop-entry.entry-index in
    let lt : i < length entries = c.loop-entry-test.true in
    c.count_entry.ensures (before ++ take i entries) (c.loop-entry.invariant before is)
    ∙ ap (tally_of c.args.zone.now c.args.range.now)
    (append_assoc before (take i entries) (_ ∷ []) ∙ ap (λ (es : List MeterEntry). before ++ es) (sym (take_more entries i _ lt)))

pub returns : goal.returns
returns c = λ before is.
    let entries : List MeterEntry = c.args.entries.now in
    c.loop-entry.invariant before is
    ∙ ap (λ (es : List MeterEntry). tally_of c.args.zone.now c.args.range.now (before ++ es))
    (take_all c.loop-entry.entry-index entries c.loop-entry-test.false)
