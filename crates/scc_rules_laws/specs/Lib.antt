pub mod Seen
pub mod Found
pub mod Feeds
pub mod Alike
