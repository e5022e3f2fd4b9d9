pub mod HttpClientsLemmas
pub mod PeriodLemmas
pub mod NameLemmas
pub mod PeriodExamples
pub mod LedLemmas
pub mod FolderLemmas
