pub mod Seekers
