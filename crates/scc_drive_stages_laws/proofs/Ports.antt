-- The ports of a module that matches stand for the inputs and outputs of the core in their order.
use Rattle.std.proofs.Common.{◌≡◌, ◌+◌, ℕ, zero, suc, Bool, true, false, List, [], ◌∷◌, length, Option, Some, None, refl, sym, ap, ◌∙◌, subst, slice_get, arith, if◌then◌else◌}
use Rattle.std.specs.Prelude.{map, take, filter_map}
use Rattle.std.specs.List.{cons_option}
use Rattle.scc_semantics.specs.Location.{Location}
use Rattle.scc_semantics.specs.Design as running
use Rattle.scc_semantics.specs.Design.{Design, TopPort}
use Rattle.scc_svtree.specs.declared.module.Dir.{Dir}
use Rattle.scc_svtree.specs.declared.module.Dir.TheVariants as dir
use Rattle.scc_svtree.specs.declared.module.SvVar.{SvVar}
use Rattle.scc_core_spec.specs.Program as program
use Rattle.scc_core_spec.specs.Program.{Program, Cell, Sort, is_held, is_input, is_output}
use Rattle.scc_core_spec.specs.Source.{Home, cell_location, port_of}
use Rattle.scc_core_spec.specs.Static.{Cells}
use Rattle.scc_blocks_spec.specs.Emitted as emitted
use Rattle.scc_blocks_spec.specs.Matches.{var_view, port_view, is_port, way_of, PortView}
use Rattle.scc_blocks_spec.specs.Tied.{Registers}
use Rattle.scc_blocks_laws.specs.Shots.{AreOutputs, AreOutputsBy}
use Rattle.scc_core_effect_laws.specs.Follows.{design_of}
use Rattle.scc_core_effect_laws.proofs.Names.{true-false, none-some, some-same}
use Rattle.scc_core_laws.specs.Stepped.{outputs_from}

input-held : (s : Sort) → is_input s ≡ true → is_held s ≡ true
input-held program.Input e = refl
input-held program.Output e = true-false (sym e)
input-held program.Signal e = true-false (sym e)
input-held (program.Variable w f) e = true-false (sym e)
input-held (program.Local i) e = true-false (sym e)
input-held (program.Pointer t) e = true-false (sym e)
input-held (program.Port t) e = true-false (sym e)

output-held : (s : Sort) → is_output s ≡ true → is_held s ≡ true
output-held program.Input e = true-false (sym e)
output-held program.Output e = refl
output-held program.Signal e = true-false (sym e)
output-held (program.Variable w f) e = true-false (sym e)
output-held (program.Local i) e = true-false (sym e)
output-held (program.Pointer t) e = true-false (sym e)
output-held (program.Port t) e = true-false (sym e)

input-no-output : (s : Sort) → is_input s ≡ true → is_output s ≡ false
input-no-output program.Input e = refl
input-no-output program.Output e = true-false (sym e)
input-no-output program.Signal e = refl
input-no-output (program.Variable w f) e = refl
input-no-output (program.Local i) e = refl
input-no-output (program.Pointer t) e = refl
input-no-output (program.Port t) e = refl

way-no-output : (k : Dir) → way_of k ≡ Some true → emitted.is_output k ≡ false
way-no-output dir.Input e = refl
way-no-output dir.Output e = absurd (cc)
way-no-output dir.Inner e = refl

way-output : (k : Dir) → way_of k ≡ Some false → emitted.is_output k ≡ true
way-output dir.Input e = absurd (cc)
way-output dir.Output e = refl
way-output dir.Inner e = absurd (cc)

no-port-output : (k : Dir) → (is_port k ≡ true → ⊥) → emitted.is_output k ≡ false
no-port-output dir.Input h = refl
no-port-output dir.Output h = absurd (h refl)
no-port-output dir.Inner h = refl

view-first : (u v : PortView) (us vs : List PortView) → u ∷ us ≡ v ∷ vs → (u ≡ v) × (us ≡ vs)
view-first u v us vs q = (cc, cc)

module _ (home : Home) (p : Program) (text : Location → List ℕ) where
  abbrev d : Design
  d = design_of home p

  abbrev at : Cell → Location
  at x = cell_location home p x

  abbrev ports_in : Cells → List TopPort
  ports_in cs = filter_map (port_of home p) cs

  abbrev put : Bool → Bool → Cell → Option TopPort
  put a b y = if a then Some (record { location = at y; direction = running.Input }) else (if b then Some (record { location = at y; direction = running.Output }) else None)

  abbrev ports_by : Bool → Bool → Cell → Cells → List TopPort
  ports_by a b y cs = cons_option (put a b y) (ports_in cs)

  abbrev Aligned : Cells → List SvVar → Type 0
  Aligned cs ws = map var_view (take (length (ports_in cs)) ws) ≡ map (port_view text d) (ports_in cs)

  abbrev AlignedBy : Bool → Bool → Cell → Cells → List SvVar → Type 0
  AlignedBy a b y cs us = map var_view (take (length (ports_by a b y cs)) us) ≡ map (port_view text d) (ports_by a b y cs)

  abbrev Inner : Cells → List SvVar → Type 0
  Inner cs ws = (j : ℕ) (w : SvVar) → slice_get ws j ≡ Some w → is_port w.dir ≡ true → slice_get (take (length (ports_in cs)) ws) j ≡ Some w

  abbrev InnerBy : Bool → Bool → Cell → Cells → List SvVar → Type 0
  InnerBy a b y cs us = (j : ℕ) (w : SvVar) → slice_get us j ≡ Some w → is_port w.dir ≡ true → slice_get (take (length (ports_by a b y cs)) us) j ≡ Some w

  -- a port's variable is of this cell
  abbrev IsOf : SvVar → Cell → Type 0
  IsOf w y = (w.name ≡ text (at y)) × (way_of w.dir ≡ Some (is_input y.sort)) × (is_held y.sort ≡ true)

  in-is : (u : SvVar) (us : List SvVar) (y : Cell) (b : Bool) (cs : Cells) → is_input y.sort ≡ true → AlignedBy true b y cs (u ∷ us) → IsOf u y × Aligned cs us
  in-is u us y b cs h al =
      let q = view-first (var_view u) (port_view text d (record { location = at y; direction = running.Input })) (map var_view (take (length (ports_in cs)) us)) (map (port_view text d) (ports_in cs)) al in
      ((ap (λ z. z.name) q.0, ap (λ z. z.input) q.0 ∙ ap (λ b. Some b) (sym h), input-held y.sort h), q.1)

  out-is : (u : SvVar) (us : List SvVar) (y : Cell) (cs : Cells) → is_input y.sort ≡ false → is_output y.sort ≡ true → AlignedBy false true y cs (u ∷ us) → IsOf u y × Aligned cs us
  out-is u us y cs h o al =
      let q = view-first (var_view u) (port_view text d (record { location = at y; direction = running.Output })) (map var_view (take (length (ports_in cs)) us)) (map (port_view text d) (ports_in cs)) al in
      ((ap (λ z. z.name) q.0, ap (λ z. z.input) q.0 ∙ ap (λ b. Some b) (sym h), output-held y.sort o), q.1)

  -- each port has a cell
  pub port-cell : (cs : Cells) (ws : List SvVar) (j : ℕ) (w : SvVar) → Aligned cs ws → slice_get (take (length (ports_in cs)) ws) j ≡ Some w → (k : ℕ) × (y : Cell) × (slice_get cs k ≡ Some y) × IsOf w y
  port-cell [] ws j w al g = none-some w (none ws ∙ g)
    where
      none : (us : List SvVar) → None ≡ slice_get (take 0 us) j
      none [] = refl
      none (u ∷ us) = refl
  port-cell (y ∷ cs) ws j w al g = by (is_input y.sort) (is_output y.sort) refl refl ws j al g (λ ws j al g. port-cell cs ws j w al g)
    where
      by : (b k : Bool) → is_input y.sort ≡ b → is_output y.sort ≡ k → (ws : List SvVar) (j : ℕ) → AlignedBy b k y cs ws → slice_get (take (length (ports_by b k y cs)) ws) j ≡ Some w → ((ws : List SvVar) (j : ℕ) → Aligned cs ws → slice_get (take (length (ports_in cs)) ws) j ≡ Some w → (k : ℕ) × (y : Cell) × (slice_get cs k ≡ Some y) × IsOf w y)
          → (k : ℕ) × (z : Cell) × (slice_get (y ∷ cs) k ≡ Some z) × IsOf w z
      by false false h o ws j al g rest = let u = rest ws j al g in (suc u.0, u.1, u.2, u.3)
      by false true h o [] j al g rest = absurd (cc)
      by false true h o (u ∷ us) zero al g rest = (0, y, refl, subst (λ w. IsOf w y) (some-same u w g) (out-is u us y cs h o al).0)
      by false true h o (u ∷ us) (suc j) al g rest = let z = rest us j (out-is u us y cs h o al).1 g in (suc z.0, z.1, z.2, z.3)
      by true k h o [] j al g rest = absurd (cc)
      by true k h o (u ∷ us) zero al g rest = (0, y, refl, subst (λ w. IsOf w y) (some-same u w g) (in-is u us y k cs h al).0)
      by true k h o (u ∷ us) (suc j) al g rest = let z = rest us j (in-is u us y k cs h al).1 g in (suc z.0, z.1, z.2, z.3)

  -- each input has a port
  pub input-port : (cs : Cells) (ws : List SvVar) (k : ℕ) (x : Cell) → Aligned cs ws → slice_get cs k ≡ Some x → is_input x.sort ≡ true → (j : ℕ) × (w : SvVar) × (slice_get ws j ≡ Some w) × IsOf w x
  input-port [] ws k x al g t = none-some x g
  input-port (y ∷ cs) ws k x al g t = by (is_input y.sort) (is_output y.sort) refl refl ws k al g (λ ws k al g. input-port cs ws k x al g t)
    where
      none : is_input y.sort ≡ false → Some y ≡ Some x → ⊥
      none h g = true-false (sym t ∙ (ap (λ z. is_input z.sort) (sym (some-same y x g)) ∙ h))

      by : (b o : Bool) → is_input y.sort ≡ b → is_output y.sort ≡ o → (ws : List SvVar) (k : ℕ) → AlignedBy b o y cs ws → slice_get (y ∷ cs) k ≡ Some x → ((ws : List SvVar) (k : ℕ) → Aligned cs ws → slice_get cs k ≡ Some x → (j : ℕ) × (w : SvVar) × (slice_get ws j ≡ Some w) × IsOf w x) → (j : ℕ) × (w : SvVar) × (slice_get ws j ≡ Some w) × IsOf w x
      by false o h e ws zero al g rest = absurd (none h g)
      by false false h e ws (suc k) al g rest = rest ws k al g
      by false true h e [] (suc k) al g rest = absurd (cc)
      by false true h e (u ∷ us) (suc k) al g rest = let z = rest us k (out-is u us y cs h e al).1 g in (suc z.0, z.1, z.2, z.3)
      by true o h e [] k al g rest = absurd (cc)
      by true o h e (u ∷ us) zero al g rest = (0, u, refl, subst (λ x. IsOf u x) (some-same y x g) (in-is u us y o cs h al).0)
      by true o h e (u ∷ us) (suc k) al g rest = let z = rest us k (in-is u us y o cs h al).1 g in (suc z.0, z.1, z.2, z.3)

  -- ---- outputs in their order

  module _ (r : Registers) where
    no-outputs : (i : ℕ) (ws : List SvVar) → ((j : ℕ) (w : SvVar) → slice_get ws j ≡ Some w → is_port w.dir ≡ true → ⊥) → AreOutputs r i ws []
    no-outputs i [] h = tt
    no-outputs i (u ∷ us) h = subst (λ b. AreOutputsBy b r i [] (λ cs. AreOutputs r (i + 1) us cs)) (sym (no-port-output u.dir (h 0 u refl))) (no-outputs (i + 1) us (λ j w g. h (suc j) w g))

    -- the variable at a place that stands for a cell is that cell's
    abbrev Stand : ℕ → Cells → ℕ → List SvVar → Type 0
    Stand n cs i ws = (k j : ℕ) (y : Cell) (w : SvVar) → slice_get cs k ≡ Some y → slice_get ws j ≡ Some w → is_output y.sort ≡ true → w.name ≡ text (at y) → r.variable (n + k) ≡ Some (i + j)

    first-place : (n : ℕ) → n + 0 ≡ n
    first-place n = omega arith

    next-place : (n k : ℕ) → n + suc k ≡ suc n + k
    next-place n k = omega arith

    next-one : (i j : ℕ) → i + suc j ≡ (i + 1) + j
    next-one i j = omega arith

    pub are-outputs : (n : ℕ) (cs : Cells) (i : ℕ) (ws : List SvVar) → Aligned cs ws → Inner cs ws → Stand n cs i ws → AreOutputs r i ws (outputs_from n cs)
    are-outputs n [] i ws al inn st = no-outputs i ws (λ j w g t. none-some w (none ws j ∙ inn j w g t))
      where
        none : (us : List SvVar) (j : ℕ) → None ≡ slice_get (take 0 us) j
        none [] j = refl
        none (u ∷ us) j = refl
    are-outputs n (y ∷ cs) i ws al inn st = by (is_input y.sort) (is_output y.sort) refl refl ws al inn st (λ i ws al inn st. are-outputs (suc n) cs i ws al inn st)
      where
        later : (ws : List SvVar) → Stand n (y ∷ cs) i ws → Stand (suc n) cs i ws
        later ws st k j z w g h o e = ap r.variable (sym (next-place n k)) ∙ st (suc k) j z w g h o e

        both-later : (u : SvVar) (us : List SvVar) → Stand n (y ∷ cs) i (u ∷ us) → Stand (suc n) cs (i + 1) us
        both-later u us st k j z w g h o e = ap r.variable (sym (next-place n k)) ∙ (st (suc k) (suc j) z w g h o e ∙ ap (λ n. Some n) (next-one i j))

        by : (b k : Bool) → is_input y.sort ≡ b → is_output y.sort ≡ k → (ws : List SvVar) → AlignedBy b k y cs ws → InnerBy b k y cs ws → Stand n (y ∷ cs) i ws → ((i : ℕ) (ws : List SvVar) → Aligned cs ws → Inner cs ws → Stand (suc n) cs i ws → AreOutputs r i ws (outputs_from (suc n) cs)) → AreOutputs r i ws (if k then n ∷ outputs_from (suc n) cs else outputs_from (suc n) cs)
        by false false h o ws al inn st rest = rest i ws al inn (later ws st)
        by false true h o [] al inn st rest = absurd (cc)
        by false true h o (u ∷ us) al inn st rest =
            let q = out-is u us y cs h o al in
            let way : emitted.is_output u.dir ≡ true = way-output u.dir (q.0.1 ∙ ap (λ b. Some b) h) in
            let here : r.variable n ≡ Some i = ap r.variable (sym (first-place n)) ∙ (st 0 0 y u refl refl o q.0.0 ∙ ap (λ n. Some n) (first-place i)) in
            subst (λ b. AreOutputsBy b r i (n ∷ outputs_from (suc n) cs) (λ cs. AreOutputs r (i + 1) us cs)) (sym way) (here, rest (i + 1) us q.1 (λ j w g t. inn (suc j) w g t) (both-later u us st))
        by true true h o ws al inn st rest = true-false (sym o ∙ input-no-output y.sort h)
        by true false h o [] al inn st rest = absurd (cc)
        by true false h o (u ∷ us) al inn st rest =
            let q = in-is u us y false cs h al in
            let way : emitted.is_output u.dir ≡ false = way-no-output u.dir (q.0.1 ∙ ap (λ b. Some b) h) in
            subst (λ b. AreOutputsBy b r i (outputs_from (suc n) cs) (λ cs. AreOutputs r (i + 1) us cs)) (sym way) (rest (i + 1) us q.1 (λ j w g t. inn (suc j) w g t) (both-later u us st))
