use Rattle.std.proofs.Common.{◌<◌, ◌≤◌, ◌^◌, All, [], ◌∷◌, Ok, sym, ap, subst, ◌∙◌, arith}
use Rattle.std.proofs.lemmas.List.Elements.{All-append, All-from_recursion}
use Rattle.interval_core.specs.declared.limits.TheConstants.{LAST_MOMENT}
use Rattle.meter_journal.specs.declared.audit.rows.TableRow.{TableRow}
use Rattle.table_audit.specs.Reading.{entry_in}
use Rattle.table_audit.proofs.ReadRows.{next_read, unread, all_read}
use Rattle.table_audit.proofs.reading.entries.Goals as goal

pub loop-row-preserved : goal.loop-row-preserved
loop-row-preserved c = record {
  read = next_read (entry_in c.args.voids.now) c.args.rows.now c.loop-row.row-index c.row-item.result c.loop-row.found.items c.in-Ok.entry (omega arith)
      c.loop-row.invariant.read
      (ap (entry_in c.args.voids.now) (sym c.row-item.is) ∙ sym c.in-Ok.ensures.read) ∙ ap (λ xs. Ok xs) (sym c.in_ok-push-in-Ok.ensures.items);
  places = subst (All (λ (entry : TableRow). entry.place < 2 ^ 63)) (sym c.in_ok-push-in-Ok.ensures.items)
      (All-append (λ (entry : TableRow). entry.place < 2 ^ 63) c.loop-row.found.items (c.in-Ok.entry ∷ []) c.loop-row.invariant.places
      (All-from_recursion (λ (entry : TableRow). entry.place < 2 ^ 63) (c.in-Ok.entry ∷ []) (c.in-Ok.ensures.place, tt)));
  moments = subst (All (λ (entry : TableRow). entry.moment ≤ LAST_MOMENT)) (sym c.in_ok-push-in-Ok.ensures.items)
      (All-append (λ (entry : TableRow). entry.moment ≤ LAST_MOMENT) c.loop-row.found.items (c.in-Ok.entry ∷ []) c.loop-row.invariant.moments
      (All-from_recursion (λ (entry : TableRow). entry.moment ≤ LAST_MOMENT) (c.in-Ok.entry ∷ []) (c.in-Ok.ensures.moment, tt)));
}

pub returns-in-Err-clause-read : goal.returns-in-Err-clause-read
returns-in-Err-clause-read c =
    unread (entry_in c.args.voids.now) c.args.rows.now c.loop-row.row-index c.row-item.result _ (omega arith)
    (ap (entry_in c.args.voids.now) (sym c.row-item.is) ∙ sym c.in-Err.ensures.read)

pub returns-clause-read : goal.returns-clause-read
returns-clause-read c =
    all_read (entry_in c.args.voids.now) c.args.rows.now c.loop-row.row-index c.loop-row.found.items (omega arith) c.loop-row.invariant.read
