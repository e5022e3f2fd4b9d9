use Rattle.std.proofs.Common.{rules, ◌≡◌, ◌-◌, ◌∷◌, List, take, drop, length, sym, ap, ◌∙◌}
use Rattle.interval_core.specs.declared.limits.TheConstants.{LAST_MOMENT}
use Rattle.meter_journal.specs.declared.audit.rows.TableRow.{TableRow}
use Rattle.table_audit.proofs.Agreeing.{all_later, where_some, where_none}
use Rattle.table_audit.proofs.BookedShares.{accepted, booked_by, booked_in_order, never_accepted}
use Rattle.table_audit.proofs.booking.booked.Goals as goal

pub returns-in-Some-2-clause-booked : goal.returns-in-Some-2-clause-booked
returns-in-Some-2-clause-booked c =
    let later : List TableRow = take (length c.args.entries.now - 1) (drop 1 c.args.entries.now) in
    let begins : c.args.entries.now ≡ c.in-Some.first.now ∷ drop 1 c.args.entries.now = search rules in
    let first = begins ∙ ap (λ (rows : List TableRow). c.in-Some.first.now ∷ rows) (sym (all_later c.args.entries.now)) in
    λ shares. never_accepted c.args.range c.args.ceiling c.args.entries.now c.in-Some.first.now later c.in-Some-opened.meter shares first
    c.in-Some-opened.ensures.opened
    (where_some _ _ c.in_ok-go_over.field-0 _ c.in-Some-2.is c.in_ok-go_over.ensures.gone)

pub returns-clause-booked : goal.returns-clause-booked
returns-clause-booked c =
    let later : List TableRow = take (length c.args.entries.now - 1) (drop 1 c.args.entries.now) in
    let begins : c.args.entries.now ≡ c.in-Some.first.now ∷ drop 1 c.args.entries.now = search rules in
    let first = begins ∙ ap (λ (rows : List TableRow). c.in-Some.first.now ∷ rows) (sym (all_later c.args.entries.now)) in
    accepted c.args.range c.args.ceiling c.args.entries.now c.in-Some.first.now later c.in-Some-opened.meter c.go_over.new.progress first
    c.in-Some-opened.ensures.may c.in-Some-opened.ensures.opened
    (where_none _ _ c.in_ok-go_over.field-0 c.in_default-2.is c.in_ok-go_over.ensures.gone)

pub returns-clause-in_order : goal.returns-clause-in_order
returns-clause-in_order c =
    let later : List TableRow = take (length c.args.entries.now - 1) (drop 1 c.args.entries.now) in
    let begins : c.args.entries.now ≡ c.in-Some.first.now ∷ drop 1 c.args.entries.now = search rules in
    let first = begins ∙ ap (λ (rows : List TableRow). c.in-Some.first.now ∷ rows) (sym (all_later c.args.entries.now)) in
    booked_in_order c.interval_rows_are_accounts.ensures c.matching_rows_are_independent.ensures
    c.args.range c.args.ceiling c.args.entries.now c.go_over.new.progress.wanted.items
    (accepted c.args.range c.args.ceiling c.args.entries.now c.in-Some.first.now later c.in-Some-opened.meter c.go_over.new.progress first
    c.in-Some-opened.ensures.may c.in-Some-opened.ensures.opened
    (where_none _ _ c.in_ok-go_over.field-0 c.in_default-2.is c.in_ok-go_over.ensures.gone))

pub returns-clause-moments : goal.returns-clause-moments
returns-clause-moments c =
    let later : List TableRow = take (length c.args.entries.now - 1) (drop 1 c.args.entries.now) in
    let begins : c.args.entries.now ≡ c.in-Some.first.now ∷ drop 1 c.args.entries.now = search rules in
    let first = begins ∙ ap (λ (rows : List TableRow). c.in-Some.first.now ∷ rows) (sym (all_later c.args.entries.now)) in
    booked_by c.rows_lie_within.ensures c.matching_rows_are_independent.ensures
    c.args.range c.args.ceiling LAST_MOMENT c.args.entries.now c.go_over.new.progress.wanted.items c.requires.moments
    (accepted c.args.range c.args.ceiling c.args.entries.now c.in-Some.first.now later c.in-Some-opened.meter c.go_over.new.progress first
    c.in-Some-opened.ensures.may c.in-Some-opened.ensures.opened
    (where_none _ _ c.in_ok-go_over.field-0 c.in_default-2.is c.in_ok-go_over.ensures.gone))
