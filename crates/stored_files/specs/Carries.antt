pub mod ReportedZone
pub mod GoingOn
