use Rattle.std.proofs.Common.{inl, inr}
use Rattle.office_http.proofs.MessagesLemmas.WholeLemmas.Unique.{lacks_not_whole, open_not_whole}
use Rattle.office_http.proofs.messages.whole.incomplete_is_no_request.Goals as goal

pub returns : goal.returns
returns c = λ w. elim c.requires [
  | inl o ↦ open_not_whole c.args.router.now c.args.bytes.now c.args.head.now o w
  | inr l ↦ lacks_not_whole c.args.router.now c.args.bytes.now c.args.head.now l w
]
