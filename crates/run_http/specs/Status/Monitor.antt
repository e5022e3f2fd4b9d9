pub mod Output
pub mod Watching
pub mod Lines
pub mod Queues
