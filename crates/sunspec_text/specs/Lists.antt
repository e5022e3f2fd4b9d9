pub mod ListText
pub mod PlanText
