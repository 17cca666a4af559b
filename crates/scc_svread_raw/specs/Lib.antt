pub use Rattle.scc_svread_grammar.specs.Lexical
pub use Rattle.scc_svread_grammar.specs.Grammar
pub use Rattle.scc_svread_grammar.specs.Levels
pub use Rattle.scc_svread_grammar.specs.Claim
pub use Rattle.scc_svread_grammar.specs.Answer
pub use Rattle.scc_svread_grammar.specs.Leaves
pub use Rattle.scc_svread_grammar.specs.Reader
