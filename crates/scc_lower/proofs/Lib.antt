pub mod Apart
pub mod Located
pub mod Greatest
pub mod Writing
pub mod Arms
pub mod Taking
pub mod Found
pub mod Leaves
