pub mod ReadRows
pub mod Agreeing
pub mod BookedShares
pub mod Looking
pub mod SqlTexts
pub mod Asks
mod PollAsks
pub mod LookedAt
pub mod Named
pub mod Differing
pub mod PollFound
pub mod PollRuns
pub mod Rising
pub mod Found
pub mod Lines
pub mod HeldRows
pub mod SchemaNames
pub mod NameTexts
pub mod NameAsks
pub mod NamesFound
pub mod SpellNames
pub mod ZoneFound
pub mod SpansFound
pub mod AuditedRows
mod Moments
mod JsonLines
