-- What is needed before code, told of its parts.
use Rattle.std.proofs.Common.{◌≡◌, ℕ, Bool, List, ◌∷◌, ◌++◌, refl, ap}
use Rattle.std.specs.Prelude.{◌||◌, ◌&&◌, not}
use Rattle.scc_core_spec.specs.Code.{Code, End, Put, Aim, If, Block, Loop, Exit, Wait, append}
use Rattle.scc_core_spec.specs.Static.{Cells}
use Rattle.scc_core_spec.specs.Uses.{among, inside, loads, picked, whole_writes}
use Rattle.scc_states_kept.specs.Needs.{needed, reads_cell}

module _ (cs : Cells) (x : ℕ) where
  pub needed_two : (c d : Code) (next : Bool) (outs : List Bool) → needed cs x (append c d) next outs ≡ needed cs x c (needed cs x d next outs) outs
  needed_two End d next outs = refl
  needed_two (Put p l k e r) d next outs = ap (λ b. reads_cell cs x (inside l ++ (picked k ++ loads e)) || (not (among x (whole_writes cs l k)) && b)) (needed_two r d next outs)
  needed_two (Aim p to t r) d next outs = ap (λ b. reads_cell cs x (inside t) || b) (needed_two r d next outs)
  needed_two (If p t a b r) d next outs = ap (λ n. reads_cell cs x (loads t) || (needed cs x a n outs || needed cs x b n outs)) (needed_two r d next outs)
  needed_two (Block p b r) d next outs = ap (λ n. needed cs x b n (n ∷ outs)) (needed_two r d next outs)
  needed_two (Loop p n b r) d next outs = refl
  needed_two (Exit p n r) d next outs = refl
  needed_two (Wait p l n r) d next outs = needed_two r d next outs
