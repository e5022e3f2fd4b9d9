-- How the program counts polls, readings and refusals for `/status`.
use Rattle.std.specs.Prelude.{◌-◌, List, [], ◌∷◌, replicate, slice_index, slice_set}
use Rattle.energy_core.specs.Verdict.{cause_number}
use Rattle.energy_core.specs.declared.verdicts.Cause.{Cause}
use Rattle.poll_core.specs.declared.outcome.Outcome.{Outcome}
use Rattle.poll_core.specs.declared.outcome.Outcome.TheVariants.{Answered, Exception, Silent, Malformed, Lost}
use Rattle.office_events.specs.declared.answers.Note.{Note}
use Rattle.office_events.specs.declared.answers.Note.TheVariants as note
use Rattle.office_events.specs.Numbers.{one_more}
use Rattle.run_http.specs.declared.status.status.counts.Counts.{Counts}

-- The counts of polls, readings and refusals before any event: all 0.
abbrev pub nothing : Counts
nothing = record {
  answered = 0;
  exceptions = 0;
  silent = 0;
  malformed = 0;
  lost = 0;
  readings = 0;
  held = replicate 8 0;
  refusals = 0;
}

-- The counts of `/status` after a poll ended with this outcome.
abbrev pub ended : Outcome → Counts → Counts
ended Answered counts = record counts { answered = one_more counts.answered }
ended (Exception code) counts = record counts { exceptions = one_more counts.exceptions }
ended Silent counts = record counts { silent = one_more counts.silent }
ended (Malformed wrong) counts = record counts { malformed = one_more counts.malformed }
ended (Lost cause) counts = record counts { lost = one_more counts.lost }

-- The counts of `/status` after a reading was rejected for this cause. The index of a cause is its
-- number minus one.
abbrev pub held_for : Cause → Counts → Counts
held_for cause counts =
    record counts {
      held = slice_set counts.held (cause_number cause - 1)
          (one_more (slice_index counts.held (cause_number cause - 1)));
    }

-- The counts of `/status` after one notification: an ended poll, an accepted reading or a rejected
-- reading.
abbrev pub noted : Note → Counts → Counts
noted (note.Outcome poll outcome) counts = ended outcome counts
noted (note.Reading meter raw rolls step) counts =
    record counts { readings = one_more counts.readings }
noted (note.Held meter raw cause) counts = held_for cause counts

-- The counts of `/status` after a list of notifications of ended polls and readings, in order.
abbrev pub noted_all : List Note → Counts → Counts
noted_all [] counts = counts
noted_all (one ∷ notes) counts = noted_all notes (noted one counts)

-- The counts of `/status` after the program refused one more event.
abbrev pub refused : Counts → Counts
refused counts = record counts { refusals = one_more counts.refusals }
