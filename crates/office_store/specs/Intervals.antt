pub mod Trees
pub mod Rows
pub mod StepShares
pub mod Handing
