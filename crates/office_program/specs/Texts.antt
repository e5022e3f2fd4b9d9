pub mod EndTexts
pub mod Passing
pub mod OpenedOffice
pub mod AskedOffice
pub mod Reports
pub mod RangedReports
pub mod Statements
pub mod Rounds
