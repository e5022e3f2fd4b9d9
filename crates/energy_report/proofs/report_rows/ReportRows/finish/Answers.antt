use Rattle.energy_report.proofs.TakenLemmas.{finished_empty, finished_row}
use Rattle.energy_report.proofs.report_rows.ReportRows.finish.Goals as goal

pub returns-in-None : goal.returns-in-None
returns-in-None g c = finished_empty g.W.Write.contents c.args.self.now c.write_last.new.self c.in-None.is c.write_last.ensures

pub returns-in-Some : goal.returns-in-Some
returns-in-Some g c =
    finished_row g.W.Write.contents c.args.self.now c.write_row.new.self c.write_last-in-Some.new.self c.in-Some.row c.in-Some.is
    c.write_row.ensures c.write_last-in-Some.ensures
