use Rattle.std.proofs.Common.{refl}
use Rattle.office_http.proofs.messages.whole.head_gives_body_size.Goals as goal

pub returns : goal.returns
returns c = rw (c.requires.asks.0, c.requires.asks.1.0.route, c.requires.asks.1.1, c.requires.asks.1.2.size) refl
