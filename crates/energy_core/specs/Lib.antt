pub mod Value
pub mod Ranged
pub mod Account
pub mod Verdict
pub mod Admission
pub mod Readings
pub mod TrueRun
pub mod Laws
