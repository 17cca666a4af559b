pub mod ListLoops
pub mod TemplateLoop
