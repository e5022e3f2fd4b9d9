use Rattle.std.proofs.Common.{◌≡◌, rules}
use Rattle.std.specs.Prelude.{OnOk}
use Rattle.run_http.specs.RegisterReplies.{with_energy_reply}
use Rattle.office_running.proofs.HttpLemmas.OverLemmas.{lacked, replied}
use Rattle.office_running.proofs.http.energy_over.reply_energy_over.Goals as goal

pub returns-in_err-answer : goal.returns-in_err-answer
returns-in_err-answer g c =
    lacked g.B.Books.ledger c.args.office.now c.write_energy_over.new.office c.args.zone c.args.earlier.now c.args.register.now c.args.form.now _ _
    c.args.text.now.items c.args.text.now.items c.write_energy_over.result c.from_residual.result c.write_energy_over.ensures c.from_residual.ensures.0

pub returns : goal.returns
returns g c =
    let body = c.write_energy_over.new.output.items in
    let puts : OnOk c.write_energy_reply.result (c.write_energy_reply.new.text.items ≡ with_energy_reply c.in_ok-answer.answer body c.args.text.now.items) =
    search rules in
    replied g.B.Books.ledger c.args.office.now c.write_energy_over.new.office c.args.zone c.args.earlier.now c.args.register.now c.args.form.now
    c.new-body.result.items body c.args.text.now.items c.write_energy_reply.new.text.items c.in_ok-answer.answer c.write_energy_reply.result c.in_ok-answer.ensures
    c.new-body.ensures.items puts
