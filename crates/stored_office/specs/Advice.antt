pub mod Ends
pub mod Lacking
pub mod Remarks
pub mod PrintedLines
