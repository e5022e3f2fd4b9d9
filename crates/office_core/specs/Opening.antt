pub mod OpenedOffice
