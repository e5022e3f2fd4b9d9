pub mod ServingClients
pub mod OverLemmas
