pub mod BankLemmas
pub mod ReplayingLemmas
pub mod LoopingLemmas
