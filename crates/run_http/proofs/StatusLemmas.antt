pub mod MonitorLemmas
