pub mod DraftsTyped
pub mod MeantTyped
