pub mod Texts
pub mod Withdrawing
pub mod Asking
pub mod Walking
