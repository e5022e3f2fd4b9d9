use Rattle.std.proofs.Common.{rules, ◌≡◌, ◌++◌, ◌∷◌, ◌<◌, List, [], ℕ, reverse, take, length, get_or, to_z, of_z, sym, ap, ◌∙◌}
use mir.Syntax.{w16}
use Rattle.energy_core.specs.declared.entries.Last.{Last}
use Rattle.meter_journal.specs.Lists.{latest_first}
use Rattle.meter_journal.specs.declared.lines.EntryRow.{EntryRow}
use Rattle.office_books.specs.declared.entries.MeterEntry.{MeterEntry}
use Rattle.office_books.specs.declared.entries.MeterEntry.TheVariants as entry
use Rattle.office_books.specs.Entries.{first_from, listed_rows, scale_after}
use Rattle.office_books.proofs.Listing.{none_listed, turned_rows, next_listed}
use Rattle.office_books.proofs.entries.list_entries.Goals as goal

pub loop-row-init : goal.loop-row-init
loop-row-init c = record {
  listed = c.in_ok-list.ensures [] (c.new-listed.ensures.items ∙ sym (none_listed c.args.from c.args.most))
      ∙ ap (λ (last : Last). first_from c.args.from c.args.most (entry.Opening last ∷ [])) c.opened.ensures;
  scale = search rules;
}

pub loop-row-preserved : goal.loop-row-preserved
loop-row-preserved c =
    let rows : List EntryRow = c.args.rows.now in
    let i : ℕ = c.loop-row.row-index in
    let lt : i < length rows = c.loop-row-test.true in
    let before : List MeterEntry = reverse (listed_rows c.args.opening.now (latest_first (take i rows))) in
    let row : EntryRow = get_or rows i _ in
    let scale : c.scale_with-scale.result ≡ scale_after c.args.opening.now (row ∷ latest_first (take i rows)) =
    c.scale_with-scale.ensures c.args.opening.now (latest_first (take i rows)) c.loop-row.invariant.scale in
    let kept : to_z w16 (of_z w16 c.scale_with-scale.result) ≡ c.scale_with-scale.result = search rules in
    record {
      listed = c.in_ok-list-2.ensures before c.loop-row.invariant.listed
          ∙ ap (λ sf. first_from c.args.from c.args.most (before ++ entry.Later row sf ∷ [])) (kept ∙ scale)
          ∙ sym (ap (first_from c.args.from c.args.most) (next_listed c.args.opening.now rows i _ lt));
      scale = kept ∙ (scale ∙ sym (ap (scale_after c.args.opening.now) (turned_rows rows i _ lt)));
    }
