pub mod SiteText
pub mod Families
pub mod EnergyLines
pub mod MeterLines
pub mod RegisterLines
pub mod MetricsText
