pub mod BeginningLemmas
pub mod EndLemmas
pub mod ItemLemmas
pub mod LawfulLemmas
pub mod Pigeons
pub mod OrderLemmas
pub mod PlaceLemmas
pub mod PlanLemmas
pub mod RuleLemmas
pub mod ScaleLemmas
mod Examples
mod OneRule
mod OnePlan
