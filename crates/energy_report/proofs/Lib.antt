pub mod PeriodLemmas
pub mod SumLemmas
pub mod RangeLemmas
pub mod WholeLemmas
pub mod PlainLemmas
pub mod SnocLemmas
pub mod TextLemmas
pub mod TakenLemmas
pub mod DecimalLemmas
pub mod DayLemmas
pub mod ShownLemmas
pub mod RowLinesLemmas
pub mod Examples
pub mod TallyLemmas
pub mod EnergyLemmas
pub mod HeldLemmas
pub mod StatementLemmas
mod StatementExamples
