use Rattle.stored_files.proofs.backups.whole.recovered_file.Goals as goal

pub returns-in-Ok : goal.returns-in-Ok
returns-in-Ok g c = λ past held.
    c.whole_files.ensures.whole past (record {
      zone = held.has.zone;
      is_past = held.has.is_past;
      has = λ clean.
          let opened = c.in-Ok.ensures.opened clean in
          held.has.has _ (opened.1 opened.0.is_open).1 ((c.in-Ok.ensures.found clean).holds held.trees held.holds);
    })
