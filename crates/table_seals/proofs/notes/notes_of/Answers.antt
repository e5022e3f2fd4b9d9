use Rattle.std.proofs.Common.{rules, ◌≡◌, List, take, subst, sym, ap, ◌∙◌, inr}
use Rattle.sqlite.specs.Order.{Row}
use Rattle.meter_journal.specs.declared.audit.rows.TableRow.{TableRow}
use Rattle.table_audit.specs.Reading.{all_in, entry_in}
use Rattle.table_seals.specs.Months.{HasMonths}
use Rattle.table_seals.specs.Sealed.{sealed_of}
use Rattle.table_seals.proofs.Noted.{never_unread, unlawful}
use Rattle.table_seals.proofs.notes.notes_of.Goals as goal

pub returns-in-None : goal.returns-in-None
returns-in-None c =
    let rows : c.deref.result.now ≡ c.args.rows.now.entries.items = search rules in
    absurd (never_unread c.args.rows.now c.args.read.now.range c.args.read.now.voids.items c.as_slice.result.now c.args.read.now.entries.items c.requires.read
    (λ found h. (rw c.in-None.is at c.in_ok-sealed.ensures.read) found (ap (λ (rs : List Row). all_in (entry_in c.as_slice.result.now) rs) rows ∙ h)))

pub returns-in-None-2 : goal.returns-in-None-2
returns-in-None-2 c =
    let first : c.first_rows-first.result.now ≡ take c.args.seal.now.entries c.args.read.now.entries.items = search rules in
    inr (
      unlawful c.args.zone.now c.args.rows.now (sealed_of c.args.seal.now) c.args.read.now.range c.args.read.now.voids.items c.args.read.now.entries.items c.requires.read
          (λ months h. (rw c.in-None-2.is at c.in_ok-now.ensures) months
          (subst (λ (es : List TableRow). HasMonths c.args.zone.now c.args.seal.now.range c.args.seal.now.ceiling es months) (sym first) h)),
      c.new-in-None-2.ensures.items,
    )
