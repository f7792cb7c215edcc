pub mod Lists
pub mod Sameness
pub mod Seventeenth
pub mod MetRules
pub mod Bounds
pub mod GuardTruths
pub mod RangeParts
pub mod Walks
