use Rattle.std.proofs.Common.{◌≡◌, ℕ, ◌+◌, ◌<◌, ◌∷◌, List, Ok, Option, take, length, get_or, refl, sym, ap, subst, ◌∙◌, arith}
use Rattle.std.specs.Option.{option_to_list}
use Rattle.energy_core.specs.declared.entries.Entry.{Entry}
use Rattle.energy_core.specs.declared.entries.Last.{Last}
use Rattle.energy_core.specs.declared.entries.Step.{Step}
use Rattle.energy_core.specs.Account.{IsAccount, step_to}
use Rattle.energy_core.specs.Admission.{entered}
use Rattle.interval_core.specs.declared.shares.Share.{Share}
use Rattle.interval_core.specs.Account.{energy_of}
use Rattle.interval_core.specs.Share.{shares_of}
use Rattle.meter_journal.specs.declared.books.Tally.{Tally}
use Rattle.meter_journal.specs.declared.lines.EntryRow.{EntryRow}
use Rattle.meter_journal.specs.Books.{steps_after}
use Rattle.meter_journal.specs.Intervals.{with_shares, rows_of_steps}
use Rattle.meter_journal.specs.Journal.{entries_in}
use Rattle.meter_journal.specs.Lists.{latest_first}
use Rattle.meter_journal.proofs.Going.{may_go_on, earlier_standing, earlier_struck, earlier_all, shares_next}
use Rattle.office_books.specs.Rows.{TakesAll}
use Rattle.memory_books.specs.Tables.IntervalRows.{TookBut, TakesWithin}
use Rattle.memory_books.proofs.TablesLemmas.Waiting.{took_more, took_all}
use Rattle.memory_books.proofs.tables.interval_rows.pass_rows.Goals as goal
use Rattle.memory_books.proofs.tables.interval_rows.pass_rows.Goals.{then-row+in-Ok, else-row}

pub enter-requires-clause-raw : goal.enter-requires-clause-raw
enter-requires-clause-raw g c =
    let sound = c.accounts_are_sound.ensures c.args.meter.now.range c.args.meter.now.opening _ c.loop-row.tally.last c.loop-row.tally.total
    c.requires.installed.raw c.requires.installed.scale c.loop-row.invariant.account in
    omega (arith, sound.raw, c.in-Some.ensures.value)

pub enter-requires-clause-scale_low : goal.enter-requires-clause-scale_low
enter-requires-clause-scale_low g c =
    let sound = c.accounts_are_sound.ensures c.args.meter.now.range c.args.meter.now.opening _ c.loop-row.tally.last c.loop-row.tally.total
    c.requires.installed.raw c.requires.installed.scale c.loop-row.invariant.account in
    sound.scale.0

pub enter-requires-clause-scale_high : goal.enter-requires-clause-scale_high
enter-requires-clause-scale_high g c =
    let sound = c.accounts_are_sound.ensures c.args.meter.now.range c.args.meter.now.opening _ c.loop-row.tally.last c.loop-row.tally.total
    c.requires.installed.raw c.requires.installed.scale c.loop-row.invariant.account in
    sound.scale.1

pub returns-in-Err-clause-whole : goal.returns-in-Err-clause-whole
returns-in-Err-clause-whole g c = λ whole.
    let account = c.loop-row.invariant.account in
    let may = may_go_on c.args.meter.now c.args.rows.now c.loop-row.row-index _ c.loop-row.tally.last c.loop-row.tally.total c.requires.installed
    whole (omega arith) c.if-row.true account.last_is account.total_is in
    let booked = (c.entered_is_booked.ensures c.args.meter.now.range c.loop-row.tally.total c.loop-row.tally.last _ _ _).1
    (record { next_is = refl; step_is = refl; follows = may.follows; within = may.within }) in
    let refused = c.in-Err.ensures.booked in
    let range = c.in-Some.ensures.value in
    absurd (cc)

pub loop-row-preserved : goal.loop-row-preserved
loop-row-preserved g c =
    let rows : List EntryRow = c.args.rows.now in
    let i : ℕ = c.loop-row.row-index in
    let lt : i < length rows = c.loop-row-test.true in
    let range : ℕ = c.args.meter.now.range in
    let opening : Last = c.args.meter.now.opening in
    let before : List Entry = entries_in (latest_first (take i rows)) in
    let account = c.loop-row.invariant.account in
    let so_far : List Share = rows_of_steps (steps_after c.args.meter.now before) in
    elim c.if-row.branch [
      | then-row+in-Ok w ↦
          let entry : Entry = (get_or rows i _).entry in
          let next : Last = w.in-Ok.last in
          let step : Step = w.in-Ok.step in
          let standing : entries_in (latest_first (take (i + 1) rows)) ≡ entry ∷ before = earlier_standing rows i _ lt w.if-row.true in
          let booked : entered range c.loop-row.tally.total c.loop-row.tally.last entry ≡ Ok (next, step) =
          ap (λ (r : ℕ). entered r c.loop-row.tally.total c.loop-row.tally.last entry) (sym c.in-Some.ensures.value) ∙ sym w.in-Ok.ensures.booked in
          let is_step : step ≡ step_to range c.loop-row.tally.last entry =
          ((c.entered_is_booked.ensures range c.loop-row.tally.total c.loop-row.tally.last entry next step).0 booked).step_is in
          let more : IsAccount range opening (entry ∷ before) next (c.loop-row.tally.total + step.mwh) =
          subst (λ (r : ℕ). IsAccount r opening (entry ∷ before) next (c.loop-row.tally.total + step.mwh)) c.in-Some.ensures.value
          (w.in-Ok.ensures.account opening before (subst (λ (r : ℕ). IsAccount r opening before c.loop-row.tally.last c.loop-row.tally.total) (sym c.in-Some.ensures.value) account)) in
          record {
            account = subst (λ (es : List Entry). IsAccount range opening es c.if-row.tally.last c.if-row.tally.total) (sym standing)
                (subst (λ (t : Tally). IsAccount range opening (entry ∷ before) t.last t.total) (sym w.tally-is) more);
            took = subst (λ (k : g.row.K.Denot). TookBut (TakesWithin g.K.RowSink.takes c.args.span) c.args.sink.now k c.if-row.waits (rows_of_steps (steps_after c.args.meter.now (entries_in (latest_first (take (i + 1) rows))))))
                (sym w.sink-is)
                (subst (λ (o : Option Share). TookBut (TakesWithin g.K.RowSink.takes c.args.span) c.args.sink.now w.pass_step.new.sink o (rows_of_steps (steps_after c.args.meter.now (entries_in (latest_first (take (i + 1) rows))))))
                (sym w.waits-is)
                (subst (λ (rs : List Share). TookBut (TakesWithin g.K.RowSink.takes c.args.span) c.args.sink.now w.pass_step.new.sink w.pass_step.new.waits rs)
                (shares_next c.args.meter.now rows i _ c.loop-row.tally.last so_far (with_shares so_far (shares_of step)) step lt w.if-row.true account.last_is refl is_step refl)
                (took_more (TakesWithin g.K.RowSink.takes c.args.span) c.args.sink.now c.loop-row.sink w.pass_step.new.sink c.loop-row.waits w.pass_step.new.waits so_far (shares_of step)
                c.loop-row.invariant.took w.pass_step.ensures.passes)));
            energy = omega (arith, ap (λ (t : Tally). t.total) w.tally-is, ap (λ o. energy_of (option_to_list o)) w.waits-is, w.pass_step.ensures.energy, c.loop-row.invariant.energy);
          }
      | else-row w ↦
          let struck : entries_in (latest_first (take (i + 1) rows)) ≡ before = earlier_struck rows i _ lt w.if-row.false in
          record {
            account = subst (λ (es : List Entry). IsAccount range opening es c.if-row.tally.last c.if-row.tally.total) (sym struck)
                (subst (λ (t : Tally). IsAccount range opening before t.last t.total) (sym w.tally-is) account);
            took = subst (λ (es : List Entry). TookBut (TakesWithin g.K.RowSink.takes c.args.span) c.args.sink.now c.if-row.sink c.if-row.waits (rows_of_steps (steps_after c.args.meter.now es))) (sym struck)
                (subst (λ (k : g.row.K.Denot). TookBut (TakesWithin g.K.RowSink.takes c.args.span) c.args.sink.now k c.if-row.waits so_far) (sym w.sink-is)
                (subst (λ (o : Option Share). TookBut (TakesWithin g.K.RowSink.takes c.args.span) c.args.sink.now c.loop-row.sink o so_far) (sym w.waits-is) c.loop-row.invariant.took));
            energy = omega (arith, ap (λ (t : Tally). t.total) w.tally-is, ap (λ o. energy_of (option_to_list o)) w.waits-is, c.loop-row.invariant.energy);
          }
    ]

pub returns-in-Some-waits-clause-whole : goal.returns-in-Some-waits-clause-whole
returns-in-Some-waits-clause-whole g c = λ whole.
    let P : List Entry → Type 0 = λ es. TakesAll (TakesWithin g.K.RowSink.takes c.args.span) c.args.sink.now (rows_of_steps (steps_after c.args.meter.now es)) c.write_within.new.sink in
    subst P (earlier_all c.args.rows.now c.loop-row.row-index (omega (arith, c.loop-row-test.false)))
    (took_all (TakesWithin g.K.RowSink.takes c.args.span) c.args.sink.now c.loop-row.sink c.write_within.new.sink c.in-Some-waits.row
    (rows_of_steps (steps_after c.args.meter.now (entries_in (latest_first (take c.loop-row.row-index c.args.rows.now)))))
    (subst (λ (o : Option Share). TookBut (TakesWithin g.K.RowSink.takes c.args.span) c.args.sink.now c.loop-row.sink o (rows_of_steps (steps_after c.args.meter.now (entries_in (latest_first (take c.loop-row.row-index c.args.rows.now)))))) c.in-Some-waits.is
    c.loop-row.invariant.took) c.write_within.ensures)

pub returns-in-Some-waits-clause-some : goal.returns-in-Some-waits-clause-some
returns-in-Some-waits-clause-some g c =
    let P : Option Share → Type 0 = λ o.
    TookBut (TakesWithin g.K.RowSink.takes c.args.span) c.args.sink.now c.loop-row.sink o (rows_of_steps (steps_after c.args.meter.now (entries_in (latest_first (take c.loop-row.row-index c.args.rows.now))))) in (
      rows_of_steps (steps_after c.args.meter.now (entries_in (latest_first (take c.loop-row.row-index c.args.rows.now)))),
      took_all (TakesWithin g.K.RowSink.takes c.args.span) c.args.sink.now c.loop-row.sink c.write_within.new.sink c.in-Some-waits.row _ (subst P c.in-Some-waits.is c.loop-row.invariant.took) c.write_within.ensures,
    )
