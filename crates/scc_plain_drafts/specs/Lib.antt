pub mod Refusals
pub mod Views
pub mod Joins
pub mod Forms
pub mod Meaning
pub mod Picks
pub mod Flows
