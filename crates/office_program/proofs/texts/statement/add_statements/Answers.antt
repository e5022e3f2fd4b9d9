use Rattle.std.proofs.Common.{◌≡◌, ◌+◌, ◌++◌, ◌∷◌, [], take, sym, ap, ◌∙◌}
use Rattle.std.proofs.lemmas.List.{take_more}
use Rattle.office_events.specs.declared.questions.Installation.{Installation}
use Rattle.office_core.proofs.SeveralAsked.{kept_on}
use Rattle.office_program.proofs.StatementLemmas.{more_refused, more_stated}
use Rattle.office_program.proofs.texts.statement.add_statements.Goals as goal

pub returns-in-Err-clause-states : goal.returns-in-Err-clause-states
returns-in-Err-clause-states g c =
    more_refused g.B.Books.ledger c.args.zone.now c.args.range.now c.args.office.now c.loop-row.office c.add_statement.new.office c.args.listed.now
    c.loop-row.row-index c.row-item.result c.args.rows.now.items c.loop-row.rows.items c.add_statement.new.rows.items c.in-Err.why
    c.loop-row-test.true c.row-item.is c.loop-row.invariant.kept c.in-Err.ensures.states

pub loop-row-preserved : goal.loop-row-preserved
loop-row-preserved g c =
    let ledger = g.B.Books.ledger in
    let a = c.args.office.now in
    let b = c.loop-row.office in
    let d = c.add_statement.new.office in
    let listed = c.args.listed.now in
    let i = c.loop-row.row-index in
    let row = c.row-item.result in
    let next : take (i + 1) listed ≡ take i listed ++ row ∷ [] =
    take_more listed i row c.loop-row-test.true ∙ ap (λ (x : Installation). take i listed ++ x ∷ []) (sym c.row-item.is) in
    record {
      stated = more_stated ledger c.args.zone.now c.args.range.now a b d listed i row c.args.rows.now.items c.loop-row.rows.items
          c.add_statement.new.rows.items c.loop-row-test.true c.row-item.is next c.loop-row.invariant.kept c.in-Ok.ensures.asks
          c.loop-row.invariant.stated c.in-Ok.ensures.states;
      kept = kept_on ledger a b d c.loop-row.invariant.kept c.in-Ok.ensures.asks;
    }
