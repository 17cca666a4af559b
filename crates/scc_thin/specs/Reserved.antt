-- The identifiers that name nothing in a thin text.
use Rattle.std.specs.Prelude.{ℕ, List, Bool, ◌||◌, bytes_eq}
use Rattle.scc_thin.specs.declared.thin.reserved.TheConstants.{SYNTHESIS}
use Rattle.scc_svtext.specs.Keyword.{is_keyword}

unfoldable pub is_reserved : List ℕ → Bool
is_reserved name = is_keyword name || bytes_eq name SYNTHESIS.now
