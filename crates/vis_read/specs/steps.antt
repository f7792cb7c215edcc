pub mod Machine
pub mod Next
pub mod Scan
pub mod Verdicts
