pub mod ZoneText
pub mod GoingOn
