-- The text that a stack of parts stands for.
use Rattle.std.specs.Prelude.{ℕ, List, [], ◌∷◌, ◌++◌, false, map}
use Rattle.scc_svtext.specs.declared.part.Part.{Part}
use Rattle.scc_svtext.specs.declared.part.Part.TheVariants as part
use Rattle.scc_svtext.specs.Fixed.{fixed_text}
use Rattle.scc_svtext.specs.ExprText.{binary_text, expr_text, joined}

abbrev pub part_text : List (List ℕ) → Part → List ℕ
part_text names (part.Fixed f) = fixed_text f
part_text names (part.Operator op) = binary_text op
part_text names (part.Expr e) = expr_text names e.now
part_text names (part.More parts) = joined false (map (expr_text names) parts.now)

-- the last part comes first
abbrev pub pending : List (List ℕ) → List Part → List ℕ
pending names [] = []
pending names (p ∷ ps) = pending names ps ++ part_text names p
