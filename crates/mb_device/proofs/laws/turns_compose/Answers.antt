use Rattle.mb_device.proofs.Exchanging.{all_exchange, serving_exchanges, turn_exchanges, two_exchange}
use Rattle.mb_device.proofs.laws.turns_compose.Goals as goal

pub returns-clause-turn : goal.returns-clause-turn
returns-clause-turn c = turn_exchanges

pub returns-clause-serving : goal.returns-clause-serving
returns-clause-serving c = serving_exchanges

pub returns-clause-two : goal.returns-clause-two
returns-clause-two c = two_exchange

pub returns-clause-all : goal.returns-clause-all
returns-clause-all c = all_exchange
