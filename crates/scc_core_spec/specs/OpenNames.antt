-- Which cells a location may name whatever its indices are. This project's own.
use Rattle.std.specs.Prelude.{Bool, true, false, not, ◌&&◌, ◌||◌, nat_eq, List, [], ◌∷◌, Option, Some, None, option_map, slice_get}
use Rattle.std.specs.List.{list_all}
use Rattle.scc_core_spec.specs.Term.{Left, Cell, Prefix, Null, Follow, Member, Index}
use Rattle.scc_core_spec.specs.Program as program
use Rattle.scc_core_spec.specs.Named.{Step, Named, At, Ours, Open, steps_of, fits}
use Rattle.scc_core_spec.specs.Static.{Cells, grown, pattern}

-- a name completes a pattern, an open index being any
abbrev pub agrees : List Step → List Step → Bool
agrees [] [] = true
agrees (Named n ∷ p) (Named m ∷ q) = nat_eq n m && agrees p q
agrees (At i ∷ p) (At j ∷ q) = nat_eq i j && agrees p q
agrees (Ours n ∷ p) (Ours m ∷ q) = nat_eq n m && agrees p q
agrees (Open size ∷ p) (At j ∷ q) = agrees p q
agrees _ _ = false

-- the name of a location, each of its own indices open; None behind a pointer or null
abbrev pub open_name : Cells → Left → Option (List Step)
open_name cs (Cell p n) = option_map (λ c. steps_of c.name) (slice_get cs n)
open_name cs (Prefix p name) = Some (steps_of name)
open_name cs (Null p) = None
open_name cs (Follow p soft l) = None
open_name cs (Member l name) = grown (open_name cs l) (Named name)
open_name cs (Index l size e) = grown (open_name cs l) (Open size)

-- each cell whose name completes a pattern passes
abbrev pub all_agreeing : Cells → (program.Cell → Bool) → Option (List Step) → Bool
all_agreeing cs test None = true
all_agreeing cs test (Some s) = list_all (λ c. not (agrees s (steps_of c.name)) || test c) cs

abbrev pub passes : (program.Cell → Bool) → Option program.Cell → Bool
passes test None = false
passes test (Some c) = test c

-- each cell that a location may name passes
abbrev pub all_named : Cells → (program.Cell → Bool) → Left → Bool
all_named cs test (Cell p n) = passes test (slice_get cs n)
all_named cs test l = all_agreeing cs test (open_name cs l)

abbrev pub completes : Option (List Step) → program.Cell → Bool
completes None c = true
completes (Some s) c = fits s (steps_of c.name)

-- no cell stands at an index past the size that the location tells
abbrev pub is_sized : Cells → Left → Bool
is_sized cs l = all_agreeing cs (completes (pattern cs l)) (pattern cs l)
