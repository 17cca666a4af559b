-- The reserved words of SystemVerilog (IEEE 1800-2017, annex B).
use Rattle.std.specs.Prelude.{ℕ, List, Bool, bytes_eq, nat_eq}
use Rattle.std.specs.List.{list_any, starts_with}
use Rattle.scc_svtext.specs.declared.keyword.TheConstants.{KEYWORDS}

unfoldable pub is_keyword : List ℕ → Bool
is_keyword name = list_any (λ w. bytes_eq w.now name) KEYWORDS

-- whether a reserved word begins with these bytes
unfoldable pub begins_keyword : List ℕ → Bool
begins_keyword front = list_any (λ w. starts_with nat_eq w.now front) KEYWORDS
