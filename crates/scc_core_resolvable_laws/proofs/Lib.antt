pub mod Unrolled
pub mod Kept
pub mod Told
pub mod Kinded
pub mod Pointerless
pub mod Leaving
pub mod Clocked
