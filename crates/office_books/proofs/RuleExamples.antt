pub mod Samples
mod FirstReply
mod Rounds
mod Verdicts
mod Corrections
mod Voids
mod Requests
mod Limits
