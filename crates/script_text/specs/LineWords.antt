pub mod Fields
pub mod Meanings
pub mod Values
pub mod Words
