pub mod Over
pub mod Quarters
pub mod Fitting
pub mod Files
pub mod AllFiles
pub mod Splitting
pub mod Examples
