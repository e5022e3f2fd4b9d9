use Rattle.office_books.specs.History.{facts_of}
use Rattle.office_store.proofs.LawsLemmas.Found.{found_files_keep_theirs}
use Rattle.stored_files.proofs.backups.whole.close_alone.Goals as goal

pub returns-in-Ok : goal.returns-in-Ok
returns-in-Ok g c = λ past has clean.
    let copied = c.in-Ok.ensures.copied clean in
    let it = has.has copied.was_clean in
    record {
      trees = _;
      seen = copied.seen;
      left = copied.left;
      has = record {
        zone = has.zone;
        is_past = has.is_past;
        has = λ found sound same. (it.0, found_files_keep_theirs it.0 has.zone (facts_of past) _ found it.1 sound same);
      };
    }
