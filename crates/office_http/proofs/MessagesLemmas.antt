pub mod FewRows
pub mod FaultRows
pub mod Replying
pub mod ResponseExamples
pub mod SendingLemmas
mod Examples
pub mod FoundHeaders
pub mod HostLemmas
pub mod HeadLemmas
pub mod ReadingLemmas
pub mod RoutingLemmas
pub mod WholeLemmas
