-- A step of a module: its inputs and a set of clock edges, maybe none (IEEE 1800-2017, 9.2.2.4 and 9.4.2).
use Rattle.std.specs.Prelude.{◌≡◌, ℕ, nat_eq, Bool, true, false, not, cond, ◌||◌, ◌&&◌, List, [], ◌∷◌, Option, Some, None, slice_get}
use Rattle.scc_svtree.specs.declared.module.SvModule.{SvModule}
use Rattle.scc_svtree.specs.declared.module.SvVar.{SvVar}
use Rattle.scc_svtree.specs.declared.module.Dir.{Dir}
use Rattle.scc_svtree.specs.declared.module.Dir.TheVariants.{Input}
use Rattle.scc_svtree.specs.declared.module.SvBlock.{SvBlock}
use Rattle.scc_svtree.specs.declared.module.SvBlock.TheVariants.{Comb, Edge}
use Rattle.scc_svtree.specs.declared.module.SvSet.{SvSet}
use Rattle.scc_svtree.specs.declared.module.SvReset.{SvReset}
use Rattle.scc_svtree.specs.declared.module.SvLoad.{SvLoad}
use Rattle.scc_svtree.specs.Variables.{width_at}
use Rattle.scc_svtree.specs.Term.{term_of}
use Rattle.scc_svtree.specs.Sizes.{sized, assigned}
use Rattle.scc_svtree.specs.Settled.{combs_of, IsSettledFor}

abbrev pub is_input : Dir → Bool
is_input Input = true
is_input _ = false

-- whether a variable is an input, by its number
abbrev pub input_at : List SvVar → ℕ → Bool
input_at vars v = of_variable (slice_get vars v)
  where
    of_variable : Option SvVar → Bool
    of_variable None = false
    of_variable (Some x) = is_input x.dir

-- whether a block has a variable as its clock
abbrev pub is_clock : List SvBlock → ℕ → Bool
is_clock [] v = false
is_clock (Comb ss ∷ bs) v = is_clock bs v
is_clock (Edge rising clock reset sets ∷ bs) v = nat_eq clock.0 v || is_clock bs v

-- whether a reset has its level: 1 where it acts at the rising edge, else 0
abbrev pub is_active : SvReset → (ℕ → ℕ) → Bool
is_active r x = cond r.rising (not (nat_eq (x r.signal.0) 0)) (nat_eq (x r.signal.0) 0)

-- the number that a reset's branch gives a variable
abbrev pub loaded : List SvLoad → ℕ → Option ℕ
loaded [] v = None
loaded (l ∷ ls) v = cond (nat_eq l.target.0 v) (Some l.value.bits) (loaded ls v)

-- what an active reset gives a variable
abbrev pub reset_word : Option SvReset → (ℕ → ℕ) → ℕ → Option ℕ
reset_word None x v = None
reset_word (Some r) x v = cond (is_active r x) (loaded r.values v) None

abbrev pub is_reset : Option SvReset → (ℕ → ℕ) → Bool
is_reset None x = false
is_reset (Some r) x = is_active r x

abbrev pub or_old : Option ℕ → ℕ → ℕ
or_old None old = old
or_old (Some word) old = word

-- Asynchronous resets: each variable in the branch of a reset that has its level takes its number there.
abbrev pub after_resets : List SvBlock → (ℕ → ℕ) → ℕ → ℕ
after_resets [] x v = x v
after_resets (Comb ss ∷ bs) x v = after_resets bs x v
after_resets (Edge rising clock reset sets ∷ bs) x v = or_old (reset_word reset x v) (after_resets bs x v)

-- the right side of the assignment to a variable at an edge, as the word that it gives
abbrev pub set_word : (ℕ → ℕ) → List SvSet → (ℕ → ℕ) → ℕ → Option ℕ
set_word width [] x v = None
set_word width (s ∷ ss) x v = cond (nat_eq s.target.0 v) (Some (assigned (width v) (sized false width x (term_of s.value)))) (set_word width ss x v)

-- What a block gives a variable at its clock's edge: its number where its reset has its level and it has one there, its old
-- word where it has none, else the word of its right side.
abbrev pub edge_word : (ℕ → ℕ) → Option SvReset → List SvSet → (ℕ → ℕ) → ℕ → Option ℕ
edge_word width reset sets x v = cond (is_reset reset x) (reset_word reset x v) (set_word width sets x v)

-- The edges of these clocks: the blocks of other clocks keep what they have.
abbrev pub after_edges : (ℕ → ℕ) → (ℕ → Bool) → List SvBlock → (ℕ → ℕ) → ℕ → ℕ
after_edges width clocks [] x v = x v
after_edges width clocks (Comb ss ∷ bs) x v = after_edges width clocks bs x v
after_edges width clocks (Edge rising clock reset sets ∷ bs) x v =
    cond (clocks clock.0) (or_old (edge_word width reset sets x v) (after_edges width clocks bs x v)) (after_edges width clocks bs x v)

-- the inputs but the clocks take these words
abbrev pub with_inputs : SvModule → (ℕ → ℕ) → (ℕ → ℕ) → ℕ → ℕ
with_inputs m inputs x v = cond (input_at m.vars v && not (is_clock m.blocks v)) (inputs v) (x v)

-- y is settled, with the inputs and registers of x
abbrev pub SettlesTo : SvModule → (ℕ → ℕ) → (ℕ → ℕ) → Type 0
SettlesTo m x y = IsSettledFor (width_at m.vars) (combs_of m.blocks) x y

-- The first part of a step, from the valuation x: inputs and resets, then settled. The settled valuation is observed.
abbrev pub IsSettledStep : SvModule → (inputs x y : ℕ → ℕ) → Type 0
IsSettledStep m inputs x y = SettlesTo m (after_resets m.blocks (with_inputs m inputs x)) y

-- The second part, where the step has edges, from the observed valuation y: the edges, then settled, observed again.
abbrev pub IsEdgeStep : SvModule → (clocks : ℕ → Bool) → (y z : ℕ → ℕ) → Type 0
IsEdgeStep m clocks y z = SettlesTo m (after_edges (width_at m.vars) clocks m.blocks y) z

pub record StepInput : Type 0 where
  pub inputs : ℕ → ℕ
  -- the clocks that have an edge, and whether there is one
  pub clocks : ℕ → Bool
  pub has_edge : Bool

abbrev pub EdgePart : Bool → SvModule → (clocks : ℕ → Bool) → (y z : ℕ → ℕ) → List (ℕ → ℕ) → Type 0
EdgePart false m clocks y z seen = ((v : ℕ) → z v ≡ y v) × (seen ≡ [])
EdgePart true m clocks y z seen = IsEdgeStep m clocks y z × (seen ≡ z ∷ [])

-- A step from x to z with these observations: one without an edge, two with one.
pub record Step (m : SvModule) (s : StepInput) (x z : ℕ → ℕ) (seen : List (ℕ → ℕ)) : Type 0 where
  pub settled : ℕ → ℕ
  pub first : IsSettledStep m s.inputs x settled
  pub later : List (ℕ → ℕ)
  pub second : EdgePart s.has_edge m s.clocks settled z later
  pub observed : seen ≡ settled ∷ later

-- a run of steps, from a valuation, with the observations of each
abbrev pub Steps : SvModule → (ℕ → ℕ) → List StepInput → List (List (ℕ → ℕ)) → Type 0
Steps m x [] [] = Unit {0}
Steps m x (s ∷ ss) (o ∷ os) = (z : ℕ → ℕ) × Step m s x z o × Steps m z ss os
Steps m x _ _ = ⊥
