pub mod Places
pub mod TurnShares
pub mod HeldReplies
pub mod Clients
