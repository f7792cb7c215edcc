pub mod Readings
pub mod Agreement
pub mod Limits
pub mod Places
pub mod steps
pub mod Trials
pub mod TrialReadings
