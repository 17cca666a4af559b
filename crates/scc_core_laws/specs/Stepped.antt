-- Steps of the registers, what they show, and when that is what a core's design shows. This project's own.
use Rattle.std.specs.Prelude.{◌≡◌, ◌<◌, ◌^◌, ℕ, suc, true, List, [], ◌∷◌, map, Option, Some, None, slice_get, unwrap_or, if◌then◌else◌}
use Rattle.std.specs.List.{list_any}
use Rattle.scc_bits_kinds.specs.Kinds.{width_of}
use Rattle.scc_semantics.specs.Location.{Location, same}
use Rattle.scc_semantics.specs.Design.{inputs}
use Rattle.scc_semantics.specs.Process.{State, Well}
use Rattle.scc_semantics.specs.Run.{Step, Observation, Shown, set_inputs, step, shown}
use Rattle.scc_core_spec.specs.Program.{Program, Cell, is_root, is_held, is_input, is_output}
use Rattle.scc_core_spec.specs.Static.{Cells}
use Rattle.scc_core_spec.specs.Uses.{among}
use Rattle.scc_core_spec.specs.Source.{Home, cell_location}
use Rattle.scc_blocks_spec.specs.Names.{holds_word}
use Rattle.scc_blocks_spec.specs.Turns.{Regs, begun, edged}
use Rattle.scc_blocks_spec.specs.Tied.{Tied}
use Rattle.scc_core_effect_laws.specs.Follows.{design_of}

-- the words of inputs by their cells, and the clocks that have their edge by theirs
pub record RegsStep : Type 0 where
  pub given : ℕ → Option ℕ
  pub edge : Option (List ℕ)

abbrev pub SameEdge : Home → Program → Option (List Location) → Option (List ℕ) → Type 0
SameEdge home p None None = Unit {0}
SameEdge home p (Some at) (Some cells) = (c : ℕ) (x : Cell) → slice_get p.cells c ≡ Some x → is_root x.sort ≡ true → list_any (same (cell_location home p x)) at ≡ among c cells
SameEdge home p _ _ = ⊥

-- a step of the design by cells: inputs alone are given words, which fit
pub record IsStepOf (home : Home) (p : Program) (x : Step) (y : RegsStep) : Type 0 where
  pub inputs : (c : ℕ) (z : Cell) (w : Location → ℕ) → slice_get p.cells c ≡ Some z → is_held z.sort ≡ true
      → set_inputs (inputs (design_of home p)) x.inputs w (cell_location home p z) ≡ unwrap_or (y.given c) (w (cell_location home p z))
  pub fit : (c v : ℕ) (z : Cell) → slice_get p.cells c ≡ Some z → y.given c ≡ Some v → (is_input z.sort ≡ true) × (v < 2 ^ width_of z.kind)
  pub edge : SameEdge home p x.edge y.edge

-- the registers before a step's edge, and behind it where it has one
pub record RegsShown : Type 0 where
  pub before : Regs
  pub after : Option Regs

abbrev pub regs_step : Program → RegsStep → Regs → Regs × RegsShown
regs_step p y g = by_edge y.edge (begun p y.given g)
  where
    by_edge : Option (List ℕ) → Regs → Regs × RegsShown
    by_edge None h = (h, record { before = h; after = None })
    by_edge (Some at) h = (edged p at h, record { before = h; after = Some (edged p at h) })

abbrev pub regs_shown : Program → List RegsStep → Regs → List RegsShown
regs_shown p [] g = []
regs_shown p (y ∷ ys) g = (regs_step p y g).1 ∷ regs_shown p ys (regs_step p y g).0

abbrev pub outputs_from : ℕ → Cells → List ℕ
outputs_from n [] = []
outputs_from n (c ∷ cs) = if is_output c.sort then n ∷ outputs_from (suc n) cs else outputs_from (suc n) cs

-- what is observed of a design is what the registers show
pub record Sees (home : Home) (p : Program) (o : Observation) (g : Regs) : Type 0 where
  pub outputs : o.outputs ≡ map g.word (outputs_from 0 p.cells)
  pub words : (c : ℕ) (x : Cell) → slice_get p.cells c ≡ Some x → holds_word p c ≡ true → o.words (cell_location home p x) ≡ g.word c

abbrev pub SeesAfter : Home → Program → Option Observation → Option Regs → Type 0
SeesAfter home p None None = Unit {0}
SeesAfter home p (Some o) (Some g) = Sees home p o g
SeesAfter home p _ _ = ⊥

abbrev pub SeesStep : Home → Program → Shown → RegsShown → Type 0
SeesStep home p o r = Sees home p o.before r.before × SeesAfter home p o.after r.after

abbrev pub SeesAll : Home → Program → List Shown → List RegsShown → Type 0
SeesAll home p [] [] = Unit {0}
SeesAll home p (o ∷ os) (r ∷ rs) = SeesStep home p o r × SeesAll home p os rs
SeesAll home p _ _ = ⊥

abbrev pub AreStepsOf : Home → Program → List Step → List RegsStep → Type 0
AreStepsOf home p [] [] = Unit {0}
AreStepsOf home p (x ∷ xs) (y ∷ ys) = IsStepOf home p x y × AreStepsOf home p xs ys
AreStepsOf home p _ _ = ⊥

-- The design's step goes well, shows what the registers' step shows, and ends tied to where that ends.
pub record StepFollows (home : Home) (p : Program) (bounds : ℕ → ℕ) (s : State) (g : Regs) (x : Step) (y : RegsStep) : Type 0 where
  pub to : State
  pub shows : Shown
  pub goes : step bounds (design_of home p) x s ≡ Well (to, shows)
  pub sees : SeesStep home p shows (regs_step p y g).1
  pub tied : Tied home p to (regs_step p y g).0

-- the same of a list of steps
pub record RunFollows (home : Home) (p : Program) (bounds : ℕ → ℕ) (s : State) (g : Regs) (xs : List Step) (ys : List RegsStep) : Type 0 where
  pub shows : List Shown
  pub goes : shown bounds (design_of home p) xs s ≡ Well shows
  pub sees : SeesAll home p shows (regs_shown p ys g)
