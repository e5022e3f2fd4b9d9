pub mod Holding
pub mod Input
pub mod Lines
pub mod Noting
pub mod Printing
pub mod Statuses
