pub mod Refusing
pub mod Tables
pub mod Figures
pub mod Looking
pub mod Listed
pub mod Kept
