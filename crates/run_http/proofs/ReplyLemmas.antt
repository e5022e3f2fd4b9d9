pub mod Handed
pub mod Rows
pub mod Voids
pub mod Spelled
pub mod Energy
pub mod Asked
pub mod Pieces
