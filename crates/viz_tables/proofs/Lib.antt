pub mod Readings
pub mod TableLemmas
pub mod Widths
pub mod Stretches
pub mod LineLemmas
pub mod SurveyLemmas
