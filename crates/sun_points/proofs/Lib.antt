pub mod Decimals
pub mod Examples
pub mod LowDigits
pub mod Texts
