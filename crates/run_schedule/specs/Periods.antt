pub mod Courses
pub mod Ends
pub mod Folders
pub mod Led
pub mod Names
pub mod Plans
