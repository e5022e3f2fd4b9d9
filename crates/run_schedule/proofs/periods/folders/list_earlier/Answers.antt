use Rattle.std.proofs.Common.{◌≡◌, ◌+◌, ◌∷◌, ◌∙◌, ℕ, List, [], drop, get_or, length, subst, sym, ap, arith}
use Rattle.std.proofs.lemmas.List.{drop_more, length-drop}
use Rattle.run_schedule.specs.Periods.Folders.{texts_in}
use Rattle.run_schedule.proofs.FolderLemmas.{Completes, all_done, completes_more, next_text, none_left}
use Rattle.run_schedule.proofs.periods.folders.list_earlier.Goals as goal

pub loop-name-preserved : goal.loop-name-preserved
loop-name-preserved c =
    let file = c.args.file.now in
    let current = c.args.current.now in
    let names = c.args.names.now in
    let i = c.loop-name.name-index in
    let so_far = texts_in c.loop-name.texts.items in
    completes_more file c.args.length current (texts_in names) so_far (texts_in c.add_earlier.new.texts.items) (texts_in (drop (i + 1) names)) c.as_slice.result.now
    (subst (λ (left : List (List ℕ)). Completes file c.args.length current (texts_in names) so_far left)
    (next_text names i c.name-item.result c.as_slice.result.now c.loop-name-test.true c.name-item.is c.as_slice.ensures.value) c.loop-name.invariant)
    c.in_ok-add_earlier.ensures

pub returns : goal.returns
returns c =
    all_done c.args.file.now c.args.length c.args.current.now (texts_in c.args.names.now) (texts_in c.loop-name.texts.items)
    (subst (λ (left : List (List ℕ)). Completes c.args.file.now c.args.length c.args.current.now (texts_in c.args.names.now) (texts_in c.loop-name.texts.items) left)
    (none_left c.args.names.now c.loop-name.name-index c.loop-name-test.false) c.loop-name.invariant)
