use Rattle.std.proofs.Common.{◌≡◌, Option, sym, ◌∙◌}
use Rattle.std.proofs.lemmas.Result.{IfOk-weaker}
use Rattle.office_events.specs.declared.questions.EntryContext.{EntryContext}
use Rattle.office_books.specs.Meters.{entry_at}
use Rattle.office_core.specs.Refusing.Spots.{IsJudgedAs}
use Rattle.office_core.proofs.RefusingLemmas.Judging.{judged_near, judged_itself}
use Rattle.office_core.proofs.refusing.voids.entry_of.Goals as goal

pub returns-then-is_full-clause-found : goal.returns-then-is_full-clause-found
returns-then-is_full-clause-found g c known holds clean =
    IfOk-weaker c.entry.result (λ (row : Option EntryContext). row ≡ entry_at known c.args.meter.now c.args.place) (IsJudgedAs (entry_at known c.args.meter.now c.args.place))
    (judged_itself (entry_at known c.args.meter.now c.args.place)) (c.entry.ensures.found known (c.in_ok-near.ensures.reads.reads.keeps.facts known holds) clean)

pub returns-clause-found : goal.returns-clause-found
returns-clause-found g c known holds clean =
    judged_near known c.args.meter.now c.args.place c.in_ok-near.near (c.in_ok-near.ensures.found known holds clean) (sym c.is_full.ensures ∙ c.if-is_full.false)
