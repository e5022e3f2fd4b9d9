pub mod Served
pub mod Few
pub mod Reported
pub mod Handled
mod One
pub mod RowsLemmas
pub mod WantsLemmas
pub mod ConnectionsLemmas
pub mod MessagesLemmas
