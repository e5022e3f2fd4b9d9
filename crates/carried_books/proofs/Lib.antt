pub mod CarryingLemmas
pub mod JoiningLemmas
