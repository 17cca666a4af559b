pub use Rattle.scc_svread_written.specs.Written
pub use Rattle.scc_svread_written.specs.Resolved
pub mod Read
