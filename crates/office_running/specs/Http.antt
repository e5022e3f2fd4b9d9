pub mod EnergyOver
pub mod SiteOver
pub mod KeptRoom
pub mod Outbox
pub mod Clients
pub mod Repeats
pub mod Responses
