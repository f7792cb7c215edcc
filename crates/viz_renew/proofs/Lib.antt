pub mod FileLemmas
pub mod RenewLemmas
pub mod SumLemmas
pub mod Barely
pub mod Walking
pub mod Marks
pub mod Heres
