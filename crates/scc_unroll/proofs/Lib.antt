pub mod Budgets
pub mod EachTurn
pub mod Forms
pub mod Programs
