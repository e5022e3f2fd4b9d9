use Rattle.std.proofs.Common.{◌∙◌}
use Rattle.office_http.specs.Messages.Hosts.{is_host}
use Rattle.office_http.proofs.MessagesLemmas.HostLemmas.{any_after}
use Rattle.office_http.proofs.messages.hosts.is_given.Goals as goal

pub returns : goal.returns
returns c = c.is_one_of.ensures ∙ any_after (λ name. is_host name c.args.value.now) c.args.given.now
