pub mod Audited
pub mod Carried
pub mod Joined
