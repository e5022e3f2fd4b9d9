pub mod Forms
pub mod Audits
pub mod JoinedAudits
pub mod JoinedReports
pub mod EarlierFiles
pub mod Rollovers
