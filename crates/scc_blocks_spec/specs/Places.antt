-- The frames of a suspended thread by its place. This project's own.
-- They are the statements behind a wait of its live part, with what stands behind the statements around it.
use Rattle.std.specs.Prelude.{ℕ, Bool, true, false, List, [], ◌∷◌, ◌++◌, Option, Some, None, option_map, slice_get}
use Rattle.scc_semantics.specs.Scene.{Names}
use Rattle.scc_semantics.specs.Body as machine
use Rattle.scc_semantics.specs.Machine.{Frames, Stop, Go, Inner, BehindBlock, waiting}
use Rattle.scc_core_spec.specs.Code.{Code, End, Put, Aim, If, Block, Loop, Exit, Wait}
use Rattle.scc_core_spec.specs.Static.{Cells, goes}
use Rattle.scc_core_spec.specs.Live.{alive}
use Rattle.scc_core_spec.specs.Source.{Home, body_of}
use Rattle.scc_blocks_spec.specs.Effect.{Place}

abbrev pub live_ways : {A : Type 0} → Option Bool → List A → List A → List A
live_ways (Some true) a b = a
live_ways (Some false) a b = b
live_ways None a b = a ++ b

abbrev pub if_ends : {A : Type 0} → Bool → List A → List A
if_ends true xs = xs
if_ends false xs = []

-- whether some path of the live part comes to the end of one statement's own code
abbrev pub ends_of : Cells → Code → Bool
ends_of cs c = (alive cs c).ends

module _ (home : Home) (cs : Cells) (i : ℕ) (names : Names) where
  abbrev pub rest_of : Code → Frames → Frames
  rest_of r outer = Go Inner names (body_of home cs i r) outer

  -- the frames behind each wait that some path comes to, in text order, with the number that the body gives the wait
  abbrev pub behind_waits : Code → Frames → List (ℕ × Frames)
  behind_waits End outer = []
  behind_waits (Put p l k e r) outer = behind_waits r outer
  behind_waits (Aim p to t r) outer = behind_waits r outer
  behind_waits (If p t a b r) outer = live_ways (goes cs t) (behind_waits a (rest_of r outer)) (behind_waits b (rest_of r outer)) ++ if_ends (ends_of cs (If p t a b End)) (behind_waits r outer)
  behind_waits (Block p b r) outer = behind_waits b (Go BehindBlock names (body_of home cs i r) outer) ++ if_ends (ends_of cs (Block p b End)) (behind_waits r outer)
  behind_waits (Loop p n b r) outer = behind_waits b (Go Inner names (machine.Loop (body_of home cs i b) (body_of home cs i r)) outer) ++ if_ends (ends_of cs (Loop p n b End)) (behind_waits r outer)
  behind_waits (Exit p n r) outer = []
  behind_waits (Wait p l n r) outer = (l, rest_of r outer) ∷ behind_waits r outer

  -- with so many more edges to wait for, a wait for them stands first
  abbrev pub frames_at : Code → Place → Option Frames
  frames_at body place = option_map (λ w. waiting w.0 place.left w.1) (slice_get (behind_waits body Stop) place.number)
