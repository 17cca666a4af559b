pub mod Kinded
pub mod LaidOut
