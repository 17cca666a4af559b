-- Whether a cell is read before it gets a whole value, told from the end of code backward. This project's own.
use Rattle.std.specs.Prelude.{ℕ, zero, suc, Bool, true, false, ◌||◌, ◌&&◌, not, List, [], ◌∷◌, ◌++◌}
use Rattle.std.specs.List.{list_any}
use Rattle.scc_core_spec.specs.Code.{Code, End, Put, Aim, If, Block, Loop, Exit, Wait}
use Rattle.scc_core_spec.specs.Static.{Cells}
use Rattle.scc_core_spec.specs.Uses.{Use, among, cells_of, inside, loads, picked, whole_writes}

-- whether one of these uses may name the cell
abbrev pub reads_cell : Cells → ℕ → List Use → Bool
reads_cell cs x us = list_any (λ u. among x (cells_of cs u.left)) us

-- whether the cell is needed behind the n-th block around
abbrev pub behind : ℕ → List Bool → Bool
behind n [] = false
behind zero (b ∷ bs) = b
behind (suc n) (b ∷ bs) = behind n bs

-- before code, where it is known whether the cell is needed behind it, and behind each block around; a loop is entered once
abbrev pub needed : Cells → ℕ → Code → Bool → List Bool → Bool
needed cs x End next outs = next
needed cs x (Put p l k e r) next outs = reads_cell cs x (inside l ++ (picked k ++ loads e)) || (not (among x (whole_writes cs l k)) && needed cs x r next outs)
needed cs x (Aim p to t r) next outs = reads_cell cs x (inside t) || needed cs x r next outs
needed cs x (If p t a b r) next outs = let rest = needed cs x r next outs in reads_cell cs x (loads t) || (needed cs x a rest outs || needed cs x b rest outs)
needed cs x (Block p b r) next outs = let rest = needed cs x r next outs in needed cs x b rest (rest ∷ outs)
needed cs x (Loop p n b r) next outs = needed cs x b false outs
needed cs x (Exit p n r) next outs = behind n outs
needed cs x (Wait p l n r) next outs = needed cs x r next outs
