pub mod ScanText
