-- Bits of variables and values, and concatenations (IEEE 1800-2017, 11.4.12 and 11.5.1).
use Rattle.std.specs.Prelude.{ℕ, ◌+◌, ◌-◌, ◌*◌, ◌^◌, ◌<◌, Bool, false, ◌&&◌, nat_eq, if◌then◌else◌, List, [], ◌∷◌}
use Rattle.scc_svtree.specs.declared.expr.VarId.{VarId}
use Rattle.scc_svtree.specs.declared.expr.SvLeft.{SvLeft}
use Rattle.scc_svtree.specs.declared.expr.SvLeft.TheVariants.{Whole, Bit, Range}
use Rattle.scc_svtree.specs.declared.expr.SvBinary.TheVariants as binary
use Rattle.scc_svtree.specs.Sizes.{sized}
use Rattle.scc_svtree.specs.Term.{Term, Literal, Binary, Cond, Cast}
use Rattle.scc_lower_spec.specs.Gives.{Gives}

-- bits h down to l of a variable of w bits; all of them are the variable itself
abbrev pub part_left : VarId → (w h l : ℕ) → SvLeft
part_left v w h l = if nat_eq l 0 && nat_eq h (w - 1) then Whole v else (if nat_eq h l then Bit v h else Range v h l)

-- the bit of an expression at an index
abbrev pub bit_term : Term → Term → Term
bit_term t at = Cast 1 (Binary binary.Shr t at)

-- a part of a concatenation: its width and its word
pub record Piece : Type 0 where
  pub width : ℕ
  pub word : ℕ

abbrev pub pieces_width : List Piece → ℕ
pieces_width [] = 0
pieces_width (p ∷ ps) = p.width + pieces_width ps

-- the first part stands above the others
abbrev pub pieces_word : List Piece → ℕ
pieces_word [] = 0
pieces_word (p ∷ ps) = p.word * 2 ^ pieces_width ps + pieces_word ps

-- each expression gives its part
abbrev pub GivePieces : Bool → (ℕ → ℕ) → (ℕ → ℕ) → List Term → List Piece → Type 0
GivePieces wide width x [] [] = Unit {0}
GivePieces wide width x (t ∷ ts) (p ∷ ps) = (p.word < 2 ^ p.width) × Gives false (sized wide width x t) p.width p.word × GivePieces wide width x ts ps
GivePieces wide width x _ _ = ⊥

-- whether an index of m bits is below a number
abbrev pub below_term : ℕ → Term → ℕ → Term
below_term m at n = Binary binary.Lt at (Literal m n)

-- one of two expressions, by an index
abbrev pub halves_term : ℕ → Term → ℕ → Term → Term → Term
halves_term m at n t u = Cond (below_term m at n) t u
