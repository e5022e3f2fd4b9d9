use Rattle.std.proofs.Common.{Option, subst}
use Rattle.carried_books.specs.declared.joining.earlier.EarlierRegister.{EarlierRegister}
use Rattle.office_running.specs.Http.Responses.{RepliesDays}
use Rattle.office_running.proofs.http.responses.reply_days.Goals as goal

pub returns-in-Some : goal.returns-in-Some
returns-in-Some g c =
    subst (λ (found : Option EarlierRegister). RepliesDays g.B.Books.ledger c.args.office.now c.reply_energy_over.new.office c.args.earlier.now.zone found
    c.args.register.now c.args.form.now c.args.text.now.items c.reply_energy_over.new.text.items c.reply_energy_over.result) c.in-Some.ensures
    c.reply_energy_over.ensures

pub returns-in-None : goal.returns-in-None
returns-in-None g c =
    subst (λ (found : Option EarlierRegister). RepliesDays g.B.Books.ledger c.args.office.now c.reply_energy.new.office c.args.earlier.now.zone found
    c.args.register.now c.args.form.now c.args.text.now.items c.reply_energy.new.text.items c.reply_energy.result) c.in-None.ensures c.reply_energy.ensures
