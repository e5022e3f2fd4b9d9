use Rattle.stored_files.proofs.recoveries.latest_in_books.Goals as goal

pub returns-in-Ok : goal.returns-in-Ok
returns-in-Ok g c = record {
  asked = c.latest.new.self;
  clean = c.latest.ensures.reads.goes.clean;
  is_latest = λ facts holds clean. c.in-Ok.ensures.found facts holds clean;
}
