use Rattle.sun_chain.proofs.OneChain.{chain_is_one, chain_has_no_fault, fault_is_one}
use Rattle.sun_chain.proofs.SomeChain.{chain_or_fault}
use Rattle.sun_chain.proofs.laws.chain_or_fault_is_one.Goals as goal

pub returns-clause-chain_or_fault : goal.returns-clause-chain_or_fault
returns-clause-chain_or_fault c = chain_or_fault

pub returns-clause-one_chain : goal.returns-clause-one_chain
returns-clause-one_chain c = chain_is_one

pub returns-clause-no_fault : goal.returns-clause-no_fault
returns-clause-no_fault c = chain_has_no_fault

pub returns-clause-one_fault : goal.returns-clause-one_fault
returns-clause-one_fault c = fault_is_one
