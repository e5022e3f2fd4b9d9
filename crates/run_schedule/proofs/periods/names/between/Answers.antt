use Rattle.run_schedule.proofs.NameLemmas.{ends_so, no_hyphen}
use Rattle.run_schedule.proofs.periods.names.between.Goals as goal

pub returns-in-None-after : goal.returns-in-None-after
returns-in-None-after c =
    no_hyphen c.args.name.now c.args.stem.now c.args.suffix.now c.in-Some.hyphened.now c.in-Some.ensures c.in-None-after.ensures

pub returns-in-Some-after : goal.returns-in-Some-after
returns-in-Some-after c =
    ends_so c.args.name.now c.args.stem.now c.args.suffix.now c.in-Some.hyphened.now c.in-Some-after.rest.now c.before-in-Some-after.result
    c.in-Some.ensures c.in-Some-after.ensures c.before-in-Some-after.ensures
