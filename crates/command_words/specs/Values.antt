pub mod Devices
pub mod Given
pub mod Numbers
