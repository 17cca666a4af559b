-- The live part of a body: what some path comes to, a path going through waits. This project's own rule: what no path comes to is
-- neither read nor written nor emitted.
use Rattle.std.specs.Prelude.{ℕ, suc, Bool, true, false, ◌||◌, Option, Some, None, nat_eq}
use Rattle.scc_base.specs.declared.refusal.Place.{Place}
use Rattle.scc_core_spec.specs.Term.{Term}
use Rattle.scc_core_spec.specs.Code.{Code, Count, End, Put, Aim, If, Block, Loop, Exit, Wait, append}
use Rattle.scc_core_spec.specs.Static.{Cells, goes}

pub record Alive : Type 0 where
  pub code : Code
  -- whether some path comes to the end, and whether one leaves the n-th block around
  pub ends : Bool
  pub leaves : ℕ → Bool

-- what stands behind statements that no path passes is left out
abbrev pub then_alive : Bool → Alive → Alive → Alive
then_alive true x y = record { code = append x.code y.code; ends = y.ends; leaves = λ n. x.leaves n || y.leaves n }
then_alive false x y = x

-- of an `if` with a static condition the chosen branch's statements stand in its place
abbrev pub by_test : Option Bool → Place → Term → Alive → Alive → Alive
by_test (Some true) p t x y = x
by_test (Some false) p t x y = y
by_test None p t x y = record { code = If p t x.code y.code End; ends = x.ends || y.ends; leaves = λ n. x.leaves n || y.leaves n }

-- a loop to whose body's end no path comes runs at most once: its body's statements stand in its place
abbrev pub looped : Bool → Place → Option Count → Alive → Alive
looped true p n x = record { code = Loop p n x.code End; ends = false; leaves = x.leaves }
looped false p n x = x

abbrev pub shut : Place → Alive → Alive
shut p x = record { code = Block p x.code End; ends = x.ends || x.leaves 0; leaves = λ n. x.leaves (suc n) }

abbrev pub alive : Cells → Code → Alive
alive cs End = record { code = End; ends = true; leaves = λ n. false }
alive cs (Put p l k e r) = let y = alive cs r in record { code = Put p l k e y.code; ends = y.ends; leaves = y.leaves }
alive cs (Aim p to t r) = let y = alive cs r in record { code = Aim p to t y.code; ends = y.ends; leaves = y.leaves }
alive cs (If p t a b r) = let x = by_test (goes cs t) p t (alive cs a) (alive cs b) in then_alive x.ends x (alive cs r)
alive cs (Block p b r) = let x = shut p (alive cs b) in then_alive x.ends x (alive cs r)
alive cs (Loop p n b r) = let x = alive cs b in looped x.ends p n x
alive cs (Exit p n r) = record { code = Exit p n End; ends = false; leaves = λ m. nat_eq m n }
alive cs (Wait p l n r) = let y = alive cs r in record { code = Wait p l n y.code; ends = y.ends; leaves = y.leaves }

-- the live part
abbrev pub live : Cells → Code → Code
live cs c = (alive cs c).code
