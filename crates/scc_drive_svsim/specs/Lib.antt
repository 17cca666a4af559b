pub mod Simulated
