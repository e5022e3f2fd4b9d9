use Rattle.std.proofs.Common.{List, not, find, refl, sym, ap, ◌∙◌}
use Rattle.office_events.specs.declared.questions.Installation.{Installation}
use Rattle.carried_books.specs.Joining.Meters.{is_before}
use Rattle.carried_books.proofs.JoiningLemmas.Meters.{all_before, one_apart}
use Rattle.carried_books.proofs.joining.meters.add_next.Goals as goal

pub returns-in-Some : goal.returns-in-Some
returns-in-Some c =
    let row = c.args.row.now in
    let apart = one_apart c.args.known.now.items row c.in-Some.stands
    (ap (λ (known : List Installation). find (λ stands. not (is_before stands row)) known) (sym c.as_slice.ensures.value)
    ∙ sym c.not_before.ensures ∙ c.in-Some.is) in
    (refl, apart.0, apart.1)

pub returns-in_ok-push-in-None : goal.returns-in_ok-push-in-None
returns-in_ok-push-in-None c =
    let row = c.args.row.now in
    record {
      earlier = all_before c.args.known.now.items row
          (ap (λ (known : List Installation). find (λ stands. not (is_before stands row)) known) (sym c.as_slice.ensures.value)
          ∙ sym c.not_before.ensures ∙ c.in-None.is);
      after_is = c.in_ok-push-in-None.ensures.items;
    }
