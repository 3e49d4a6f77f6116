pub mod Least
pub mod RoundTrips
pub mod Tables
