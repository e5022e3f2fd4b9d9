pub mod AtMeters
pub mod Rooms
pub mod Places
pub mod OnVoids
pub mod Judging
pub mod Asked
