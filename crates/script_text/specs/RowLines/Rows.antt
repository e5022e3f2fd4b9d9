-- The lines for the energies of quarter hours and of days, as reports print them.
pub use Rattle.interval_core.specs.Report.{day_line, right}
pub use Rattle.interval_core.specs.Lines.{end_line, share_line}
