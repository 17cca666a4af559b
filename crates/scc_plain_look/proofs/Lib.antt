pub mod Chains
pub mod Fronts
pub mod Tests
pub mod Turns
