pub mod Oldest
pub mod TurnShares
pub mod HeldReplies
