pub mod Adding
pub mod Effects
