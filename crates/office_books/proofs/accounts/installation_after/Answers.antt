use Rattle.std.proofs.Common.{◌≡◌, List, IsTrue, true, rules, subst}
use Rattle.energy_core.specs.declared.entries.Entry.{Entry}
use Rattle.energy_core.specs.Account.{IsAccount}
use Rattle.meter_journal.specs.declared.lines.Installed.{Installed}
use Rattle.meter_journal.specs.Journal.{entries_in}
use Rattle.meter_journal.specs.Lists.{latest_first}
use Rattle.office_events.specs.declared.facts.Opening.{Opening}
use Rattle.office_books.specs.Meters.{opened, installed}
use Rattle.office_books.specs.Sound.{HasNumbers}
use Rattle.office_books.proofs.accounts.installation_after.Goals as goal

true-holds : IsTrue true
true-holds = search rules

pub returns-clause-sound : goal.returns-clause-sound
returns-clause-sound c =
    let o : Opening = c.args.opening.now in
    let es : List Entry = entries_in (latest_first c.args.rows.now) in
    let numbers : HasNumbers o = c.if-not-has_numbers.ensures.so true-holds in
    let is : c.installed-meter.result ≡ installed o = c.installed-meter.ensures in
    let account : IsAccount o.range (opened o) es c.in_ok-tally.tally.last c.in_ok-tally.tally.total =
    subst (λ (m : Installed). IsAccount m.range m.opening es c.in_ok-tally.tally.last c.in_ok-tally.tally.total) is c.in_ok-tally.ensures.so in
    let sound = c.accounts_are_sound.ensures o.range (opened o) es _ _ numbers.raw numbers.scale account in
    record {
      range = numbers.range;
      ceiling = numbers.ceiling;
      raw = sound.raw;
      scale = sound.scale;
      total = account.within;
    }
