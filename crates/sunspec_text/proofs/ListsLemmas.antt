pub mod Appending
pub mod PlanLines
