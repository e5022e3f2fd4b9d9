pub mod Stages
pub mod Polls
pub mod Sums
pub mod Rounds
