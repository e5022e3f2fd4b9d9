pub mod Beginnings
pub mod Items
pub mod PlannedReads
pub mod Plans
pub mod PlannedLists
