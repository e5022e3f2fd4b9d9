use Rattle.std.proofs.Common.{◌≡◌, ◌++◌, option_to_list, append-nil, sym}
use Rattle.memory_books.proofs.TablesLemmas.Listing.{rows_more}
use Rattle.memory_books.proofs.tables.tables.Tables.installations_there.Goals as goal
use Rattle.memory_books.proofs.tables.tables.Tables.installations_there.Goals.{in-Some+in_ok-push, in_default}

pub loop-place-preserved : goal.loop-place-preserved
loop-place-preserved c = λ known is lawful whole.
    elim c.match-installation_there.branch [
      | in-Some+in_ok-push w ↦
          let more : c.match-installation_there.rows.items ≡ c.loop-place.rows.items ++ option_to_list c.installation_there.result =
          rw (w.rows-is, w.in-Some.is) w.in_ok-push.ensures.items in
          rows_more known c.args.facts.now c.args.places.now c.loop-place.place-index _ c.installation_there.result _ _ c.loop-place-test.true
          (c.loop-place.invariant known is lawful whole) (c.installation_there.ensures known is lawful whole) more
      | in_default w ↦
          let same : c.match-installation_there.rows.items ≡ c.loop-place.rows.items ++ option_to_list c.installation_there.result =
          rw (w.rows-is, w.in_default.is) (sym (append-nil c.loop-place.rows.items)) in
          rows_more known c.args.facts.now c.args.places.now c.loop-place.place-index _ c.installation_there.result _ _ c.loop-place-test.true
          (c.loop-place.invariant known is lawful whole) (c.installation_there.ensures known is lawful whole) same
    ]
