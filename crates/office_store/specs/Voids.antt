pub mod Places
pub mod Withdrawal
