-- Each file opens with a line on what it holds. Whole is the statement; the others are what it speaks of, in this order.
pub mod Words
pub mod Comes
pub mod Compiled
pub mod Timely
pub mod Output
pub mod HierText
pub mod Answer
pub mod Whole
