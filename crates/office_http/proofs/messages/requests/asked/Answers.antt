use Rattle.std.proofs.Common.{sym, ap}
use Rattle.office_http.specs.Messages.Replies.{number_or_zero}
use Rattle.office_http.proofs.messages.requests.asked.Goals as goal

pub returns : goal.returns
returns c = λ headers says.
    let caller = sym says.caller in
    let number = ap number_or_zero (sym says.number) in
    λ i. record { caller = caller i; number = number i; request = c.args.request; command = c.args.command }
