-- One walk forward with sets of cells, those that some path to here hasn't written whole; and the loops through whose bodies a path
-- goes without a wait. What they tell of paths is said by `TellsMisses`, `TellsEarly` and `TellsIdle`. This project's own.
use Rattle.std.specs.Prelude.{◌≡◌, ℕ, suc, Bool, true, false, ◌||◌, ◌&&◌, not, nat_eq, List, [], ◌∷◌, ◌++◌, filter, map, Some, slice_get}
use Rattle.std.specs.List.{list_any}
use Rattle.scc_base.specs.declared.refusal.Place.{Place}
use Rattle.scc_core_spec.specs.Code.{Code, End, Put, Aim, If, Block, Loop, Exit, Wait}
use Rattle.scc_core_spec.specs.Static.{Cells}
use Rattle.scc_core_spec.specs.Uses.{Use, loads, inside, picked, cells_of, whole_writes, among}
use Rattle.scc_core_spec.specs.Paths.{Misses, Early, MayNotWait}

abbrev pub CellSet : Type 0
CellSet = ℕ → Bool

pub record Flow : Type 0 where
  -- what some path to the end, or out of the n-th block around, hasn't written
  pub fall : CellSet
  pub out : ℕ → CellSet
  -- the reads to which a path comes that hasn't written the cell, with these cells, in text order
  pub early : List (Place × List ℕ)

abbrev pub either : CellSet → CellSet → CellSet
either a b x = a x || b x

abbrev pub nowhere : CellSet
nowhere x = false

abbrev pub without : List ℕ → CellSet → CellSet
without cells u x = u x && not (among x cells)

abbrev pub early_in : Cells → List Use → CellSet → List (Place × List ℕ)
early_in cs us u = map (λ w. (w.place, filter u (cells_of cs w.left))) (filter (λ w. list_any u (cells_of cs w.left)) us)

abbrev pub flow : Cells → Code → CellSet → Flow
flow cs End u = record { fall = u; out = λ n. nowhere; early = [] }
flow cs (Put p l k e r) u =
    let f = flow cs r (without (whole_writes cs l k) u) in
    record { fall = f.fall; out = f.out; early = early_in cs (inside l ++ (picked k ++ loads e)) u ++ f.early }
flow cs (Aim p to t r) u =
    let f = flow cs r u in
    record { fall = f.fall; out = f.out; early = early_in cs (inside t) u ++ f.early }
flow cs (If p e a b r) u =
    let fa = flow cs a u in
    let fb = flow cs b u in
    let f = flow cs r (either fa.fall fb.fall) in
    record { fall = f.fall; out = λ n. either (either (fa.out n) (fb.out n)) (f.out n); early = early_in cs (loads e) u ++ (fa.early ++ (fb.early ++ f.early)) }
flow cs (Block p b r) u =
    let fb = flow cs b u in
    let f = flow cs r (either fb.fall (fb.out 0)) in
    record { fall = f.fall; out = λ n. either (fb.out (suc n)) (f.out n); early = fb.early ++ f.early }
-- a later turn has written more, so the first one tells
flow cs (Loop p n b r) u =
    let fb = flow cs b u in
    record { fall = nowhere; out = fb.out; early = fb.early }
flow cs (Exit p n r) u = record { fall = nowhere; out = λ m x. nat_eq m n && u x; early = [] }
flow cs (Wait p l n r) u = flow cs r u

abbrev pub every : CellSet
every x = true

pub record Idle : Type 0 where
  -- a path without a wait comes to the end, or leaves the n-th block around
  pub ends : Bool
  pub leaves : ℕ → Bool

abbrev pub then_idle : Bool → (ℕ → Bool) → Idle → Idle
then_idle true leaves y = record { ends = y.ends; leaves = λ n. leaves n || y.leaves n }
then_idle false leaves y = record { ends = false; leaves = leaves }

abbrev pub idle : Code → Idle
idle End = record { ends = true; leaves = λ n. false }
idle (Put p l k e r) = idle r
idle (Aim p to t r) = idle r
idle (If p t a b r) = let x = idle a in let y = idle b in then_idle (x.ends || y.ends) (λ n. x.leaves n || y.leaves n) (idle r)
idle (Block p b r) = let x = idle b in then_idle (x.ends || x.leaves 0) (λ n. x.leaves (suc n)) (idle r)
idle (Loop p n b r) = let x = idle b in record { ends = false; leaves = x.leaves }
idle (Exit p n r) = record { ends = false; leaves = λ m. nat_eq m n }
idle (Wait p l n r) = record { ends = false; leaves = λ n. false }

-- the loops whose bodies' ends a path comes to without a wait, in text order
abbrev pub idle_loops : Code → List Place
idle_loops End = []
idle_loops (Put p l k e r) = idle_loops r
idle_loops (Aim p to t r) = idle_loops r
idle_loops (If p t a b r) = idle_loops a ++ (idle_loops b ++ idle_loops r)
idle_loops (Block p b r) = idle_loops b ++ idle_loops r
idle_loops (Loop p n b r) = filter (λ q. (idle b).ends) (p ∷ []) ++ (idle_loops b ++ idle_loops r)
idle_loops (Exit p n r) = idle_loops r
idle_loops (Wait p l n r) = idle_loops r

-- what the walk tells of paths, on live bodies; to be proved where it is used
pub record TellsMisses (cs : Cells) (c : Code) (x : ℕ) : Type 0 where
  pub seen : Misses cs c x → (flow cs c every).fall x ≡ true
  pub only : (flow cs c every).fall x ≡ true → Misses cs c x

-- with the cells that are watched, of which x is one
pub record TellsEarly (cs : Cells) (c : Code) (watched : CellSet) (x : ℕ) : Type 0 where
  pub seen : (at : Place) → watched x ≡ true → Early cs c x at
      → (k : ℕ) × (ns : List ℕ) × (slice_get (flow cs c watched).early k ≡ Some (at, ns)) × (among x ns ≡ true)
  pub only : (at : Place) (k : ℕ) (ns : List ℕ) → slice_get (flow cs c watched).early k ≡ Some (at, ns) → among x ns ≡ true → Early cs c x at

pub record TellsIdle (cs : Cells) (b : Code) : Type 0 where
  pub seen : MayNotWait cs b → (idle b).ends ≡ true
  pub only : (idle b).ends ≡ true → MayNotWait cs b
