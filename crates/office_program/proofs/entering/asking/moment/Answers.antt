use Rattle.office_program.proofs.entering.asking.moment.Goals as goal

pub returns : goal.returns
returns g c = record { reported = c.now-reported.result; reports = c.now-reported.ensures; is = c.max.ensures }
