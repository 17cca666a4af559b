mod Edges
pub mod Telling
pub mod Scheduling
pub mod Lowering
pub mod Edged
pub mod Generated
