pub mod Spots
pub mod Moved
pub mod Noted
pub mod Tables
pub mod Views
pub mod Homes
pub mod Known
pub mod Listed
