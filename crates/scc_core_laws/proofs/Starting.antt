-- Starts are tied to registers, and steps that fit are steps of registers.
use Rattle.std.proofs.Common.{◌≡◌, ℕ, zero, suc, ◌+◌, ◌<◌, ◌^◌, Bool, true, false, not, ◌&&◌, ◌||◌, nat_eq, cond, filter, filter_map, map, List, [], ◌∷◌, Option, Some, None, refl, sym, ap, ◌∙◌, subst, arith, if◌then◌else◌, slice_get, add-one}
use Rattle.std.specs.Prelude.{option_map, option_and_then, unwrap_or}
use Rattle.std.specs.List.{list_any, cons_option}
use Rattle.scc_bits_kinds.specs.Kinds.{width_of}
use Rattle.scc_semantics.specs.Location.{Location, same}
use Rattle.scc_semantics.specs.Store.{changed}
use Rattle.scc_semantics.specs.Machine.{Frames}
use Rattle.scc_semantics.specs.Design as running
use Rattle.scc_semantics.specs.Design.{TopPort, locations, inputs, is_clock}
use Rattle.scc_semantics.specs.Process.{State}
use Rattle.scc_semantics.specs.Run.{Step, set_inputs, AllFit, FitsThing, FitsStep, FitSteps}
use Rattle.scc_semantics.specs.Start.{IsStart, AllFirst, HoldsConstant}
use Rattle.scc_core_spec.specs.Program as program
use Rattle.scc_core_spec.specs.Program.{Program, Process, Sort, Input, Output, Signal, Variable, Local, Pointer, Port, is_root, is_held, is_pointer, is_input, is_output}
use Rattle.scc_core_spec.specs.First.{or_else}
use Rattle.scc_core_spec.specs.Static.{Cells}
use Rattle.scc_core_spec.specs.Uses.{among}
use Rattle.scc_core_spec.specs.Constants.{written, constant_if, constant_from}
use Rattle.scc_core_spec.specs.Source.{Home, cell_location, thing_of, port_of, processes_from}
use Rattle.scc_blocks_spec.specs.Tied.{Tied, first_frames}
use Rattle.scc_core_effect_laws.specs.Follows.{IsSoundCore, design_of}
use Rattle.scc_core_laws.specs.Stepped.{IsStepOf, SameEdge, AreStepsOf}
use Rattle.scc_core_laws.specs.Given.{takes_word, given_from, cells_at, regs_step_of, regs_of}
use Rattle.scc_core_effect_laws.proofs.Names.{and-both, and-first, or-left, some-same, none-some, true-false}
use Rattle.scc_core_laws.proofs.Seeing.{same-self, held-no-pointer, thing-at}
use Rattle.scc_core_laws.proofs.Found.{constant-held}

module _ (home : Home) (p : Program) (resolved : IsSoundCore home p) where
  abbrev at : program.Cell → Location
  at x = cell_location home p x

  abbrev pub Suffix : ℕ → Cells → Type 0
  Suffix n cs = (k : ℕ) → slice_get p.cells (n + k) ≡ slice_get cs k

  pub head : (n : ℕ) (c : program.Cell) (cs : Cells) → Suffix n (c ∷ cs) → slice_get p.cells n ≡ Some c
  head n c cs h = ap (slice_get p.cells) first ∙ h 0
    where
      first : n ≡ n + 0
      first = omega arith

  pub tail : (n : ℕ) (c : program.Cell) (cs : Cells) → Suffix n (c ∷ cs) → Suffix (suc n) cs
  tail n c cs h k = ap (slice_get p.cells) next ∙ h (suc k)
    where
      next : suc n + k ≡ n + suc k
      next = omega arith

  whole : Suffix 0 p.cells
  whole k = ap (slice_get p.cells) from
    where
      from : 0 + k ≡ k
      from = omega arith

  -- cells that are no pointers stand at one place only where they are one
  pub same-is : (n c : ℕ) (y x : program.Cell) → slice_get p.cells n ≡ Some y → slice_get p.cells c ≡ Some x → is_pointer y.sort ≡ false → is_pointer x.sort ≡ false → same (at y) (at x) ≡ nat_eq n c
  same-is n c y x f e a b = by (same (at y) (at x)) refl
    where
      by : (t : Bool) → same (at y) (at x) ≡ t → t ≡ nat_eq n c
      by true t = let q = resolved.apart n c y x f e a b t in sym (self n c q)
        where
          self : (n c : ℕ) → n ≡ c → nat_eq n c ≡ true
          self n c q = grind (arith, q)
      by false t = cases (nat_eq n c) refl
        where
          equal : nat_eq n c ≡ true → n ≡ c
          equal q = grind arith

          cases : (z : Bool) → nat_eq n c ≡ z → false ≡ z
          cases true q = absurd (let one = some-same y x (sym f ∙ ap (slice_get p.cells) (equal q) ∙ e) in true-false (sym (ap (λ z. same z (at x)) (ap at one) ∙ same-self (at x)) ∙ t))
          cases false q = refl

  -- ---- inputs
  abbrev pub inputs_in : Cells → List Location
  inputs_in cs = filter (λ l. not (is_clock (design_of home p) l)) (locations (filter (λ t. running.is_input t.direction) (filter_map (port_of home p) cs)))

  abbrev pub input_or : Bool → program.Cell → List Location → List Location
  input_or b c ls = if b then at c ∷ ls else ls

  pub inputs-step : (c : program.Cell) (cs : Cells) → inputs_in (c ∷ cs) ≡ input_or (takes_word home p c) c (inputs_in cs)
  inputs-step c cs = by (is_input c.sort) (is_output c.sort)
    where
      port : Bool → Bool → Option TopPort
      port a b = if a then Some (record { location = at c; direction = running.Input }) else (if b then Some (record { location = at c; direction = running.Output }) else None)

      clock : (k : Bool) → cond (not k) (at c ∷ inputs_in cs) (inputs_in cs) ≡ input_or (true && not k) c (inputs_in cs)
      clock true = refl
      clock false = refl

      by : (a b : Bool) → filter (λ l. not (is_clock (design_of home p) l)) (locations (filter (λ t. running.is_input t.direction) (cons_option (port a b) (filter_map (port_of home p) cs))))
          ≡ input_or (a && not (is_clock (design_of home p) (at c))) c (inputs_in cs)
      by true b = clock (is_clock (design_of home p) (at c))
      by false true = refl
      by false false = refl

  or-word : (o : Option ℕ) (b : Bool) (x v : ℕ) → unwrap_or o (if b then x else v) ≡ unwrap_or (or_else o (if b then Some x else None)) v
  or-word None true x v = refl
  or-word None false x v = refl
  or-word (Some w) b x v = refl

  input-held : (s : Sort) → is_input s ≡ true → is_held s ≡ true
  input-held Input e = refl
  input-held Output e = true-false (sym e)
  input-held Signal e = true-false (sym e)
  input-held (Variable w f) e = true-false (sym e)
  input-held (Local i) e = true-false (sym e)
  input-held (Pointer t) e = true-false (sym e)
  input-held (Port r) e = true-false (sym e)

  no-inputs : (ls : List Location) (w : Location → ℕ) (l : Location) → set_inputs ls [] w l ≡ w l
  no-inputs [] w l = refl
  no-inputs (m ∷ ls) w l = refl

  given-inputs : (cs : Cells) (n : ℕ) (xs : List ℕ) → Suffix n cs → (c : ℕ) (z : program.Cell) (w : Location → ℕ) → slice_get p.cells c ≡ Some z → is_held z.sort ≡ true
      → set_inputs (inputs_in cs) xs w (at z) ≡ unwrap_or (given_from home p n cs xs c) (w (at z))
  given-inputs [] n xs h c z w e k = refl
  given-inputs (y ∷ cs) n [] h c z w e k = no-inputs (inputs_in (y ∷ cs)) w (at z)
  given-inputs (y ∷ cs) n (x ∷ xs) h c z w e k =
      ap (λ ls. set_inputs ls (x ∷ xs) w (at z)) (inputs-step y cs)
      ∙ by (takes_word home p y) refl (λ w. given-inputs cs (suc n) xs (tail n y cs h) c z w e k) (given-inputs cs (suc n) (x ∷ xs) (tail n y cs h) c z w e k)
    where
      by : (b : Bool) → takes_word home p y ≡ b → ((w : Location → ℕ) → set_inputs (inputs_in cs) xs w (at z) ≡ unwrap_or (given_from home p (suc n) cs xs c) (w (at z)))
          → set_inputs (inputs_in cs) (x ∷ xs) w (at z) ≡ unwrap_or (given_from home p (suc n) cs (x ∷ xs) c) (w (at z))
          → set_inputs (input_or b y (inputs_in cs)) (x ∷ xs) w (at z)
          ≡ unwrap_or (if b then or_else (given_from home p (suc n) cs xs c) (if nat_eq n c then Some x else None) else given_from home p (suc n) cs (x ∷ xs) c) (w (at z))
      by true t more other =
          more (changed (at y) x w)
          ∙ ap (λ b. unwrap_or (given_from home p (suc n) cs xs c) (if b then x else w (at z)))
          (same-is n c y z (head n y cs h) e (held-no-pointer y.sort (input-held y.sort (and-first (is_input y.sort) _ t))) (held-no-pointer z.sort k))
          ∙ or-word (given_from home p (suc n) cs xs c) (nat_eq n c) x (w (at z))
      by false t more other = other

  input-thing : (n : ℕ) (y : program.Cell) → slice_get p.cells n ≡ Some y → is_input y.sort ≡ true → (x : ℕ) → FitsThing ((design_of home p).places.things (at y)) x → x < 2 ^ width_of y.kind
  input-thing n y e i x f = by y.sort i (subst (λ t. FitsThing t x) (thing-at home p resolved n y e (input-held y.sort i)) f)
    where
      by : (s : Sort) → is_input s ≡ true → FitsThing (thing_of home p y s) x → x < 2 ^ width_of y.kind
      by Input i f = f
      by Output i f = f
      by Signal i f = f
      by (Variable w g) i f = f
      by (Local j) i f = f
      by (Pointer t) i f = true-false (sym i)
      by (Port r) i f = true-false (sym i)

  given-fits : (cs : Cells) (n : ℕ) (xs : List ℕ) → Suffix n cs → AllFit (design_of home p) (inputs_in cs) xs → (c v : ℕ) (z : program.Cell) → slice_get p.cells c ≡ Some z → given_from home p n cs xs c ≡ Some v
      → (is_input z.sort ≡ true) × (v < 2 ^ width_of z.kind)
  given-fits [] n xs h fit c v z e g = none-some v g
  given-fits (y ∷ cs) n [] h fit c v z e g = none-some v g
  given-fits (y ∷ cs) n (x ∷ xs) h fit c v z e g =
      by (takes_word home p y) refl (subst (λ ls. AllFit (design_of home p) ls (x ∷ xs)) (inputs-step y cs) fit) g (λ f g. given-fits cs (suc n) xs (tail n y cs h) f c v z e g) (λ f g. given-fits cs (suc n) (x ∷ xs) (tail n y cs h) f c v z e g)
    where
      by : (b : Bool) → takes_word home p y ≡ b → AllFit (design_of home p) (input_or b y (inputs_in cs)) (x ∷ xs)
          → (if b then or_else (given_from home p (suc n) cs xs c) (if nat_eq n c then Some x else None) else given_from home p (suc n) cs (x ∷ xs) c) ≡ Some v
          → (AllFit (design_of home p) (inputs_in cs) xs → given_from home p (suc n) cs xs c ≡ Some v → (is_input z.sort ≡ true) × (v < 2 ^ width_of z.kind))
          → (AllFit (design_of home p) (inputs_in cs) (x ∷ xs) → given_from home p (suc n) cs (x ∷ xs) c ≡ Some v → (is_input z.sort ≡ true) × (v < 2 ^ width_of z.kind))
          → (is_input z.sort ≡ true) × (v < 2 ^ width_of z.kind)
      by false t fit g more other = other fit g
      by true t fit g more other = which (given_from home p (suc n) cs xs c) refl g
        where
          which : (o : Option ℕ) → given_from home p (suc n) cs xs c ≡ o → or_else o (if nat_eq n c then Some x else None) ≡ Some v → (is_input z.sort ≡ true) × (v < 2 ^ width_of z.kind)
          which (Some w) q g = more fit.1 (q ∙ g)
          which None q g = here (nat_eq n c) refl g
            where
              equal : nat_eq n c ≡ true → n ≡ c
              equal q = grind arith

              here : (b : Bool) → nat_eq n c ≡ b → (if b then Some x else None) ≡ Some v → (is_input z.sort ≡ true) × (v < 2 ^ width_of z.kind)
              here false q g = none-some v g
              here true q g =
                  let one = some-same y z (sym (head n y cs h) ∙ ap (slice_get p.cells) (equal q) ∙ e) in
                  let is = and-first (is_input y.sort) _ t in (
                    ap (λ y. is_input y.sort) (sym one) ∙ is,
                    subst (λ v. v < 2 ^ width_of z.kind) (some-same x v g) (subst (λ y. x < 2 ^ width_of y.kind) one (input-thing n y (head n y cs h) is x fit.0)),
                  )

  -- ---- edges
  none-below : (ls : List Location) (cs : Cells) (n c : ℕ) → c < n → among c (cells_at home p ls n cs) ≡ false
  none-below ls [] n c l = refl
  none-below ls (y ∷ cs) n c l = by (list_any (same (at y)) ls) (none-below ls cs (suc n) c (omega (arith, l)))
    where
      other : nat_eq c n ≡ false
      other = grind (arith, l)

      by : (b : Bool) → among c (cells_at home p ls (suc n) cs) ≡ false → among c (if b then n ∷ cells_at home p ls (suc n) cs else cells_at home p ls (suc n) cs) ≡ false
      by true m = ap (λ b. b || among c (cells_at home p ls (suc n) cs)) other ∙ m
      by false m = m

  edge-cells : (ls : List Location) (cs : Cells) (n : ℕ) → Suffix n cs → (j c : ℕ) (z : program.Cell) → slice_get cs j ≡ Some z → c ≡ n + j → list_any (same (at z)) ls ≡ among c (cells_at home p ls n cs)
  edge-cells ls [] n h j c z e q = none-some z e
  edge-cells ls (y ∷ cs) n h zero c z e q = by (list_any (same (at y)) ls) refl
    where
      one : y ≡ z
      one = some-same y z e

      this : nat_eq c n ≡ true
      this = grind (arith, q)

      below : c < suc n
      below = omega (arith, q)

      by : (b : Bool) → list_any (same (at y)) ls ≡ b → list_any (same (at z)) ls ≡ among c (if list_any (same (at y)) ls then n ∷ cells_at home p ls (suc n) cs else cells_at home p ls (suc n) cs)
      by true t = ap (λ y. list_any (same (at y)) ls) (sym one) ∙ t ∙ sym (ap (λ b. among c (if b then n ∷ cells_at home p ls (suc n) cs else cells_at home p ls (suc n) cs)) t ∙ or-left (nat_eq c n) _ this)
      by false t = ap (λ y. list_any (same (at y)) ls) (sym one) ∙ t ∙ sym (ap (λ b. among c (if b then n ∷ cells_at home p ls (suc n) cs else cells_at home p ls (suc n) cs)) t ∙ none-below ls cs (suc n) c below)
  edge-cells ls (y ∷ cs) n h (suc j) c z e q = edge-cells ls cs (suc n) (tail n y cs h) j c z e (omega (arith, q)) ∙ by (list_any (same (at y)) ls)
    where
      other : nat_eq c n ≡ false
      other = grind (arith, q)

      by : (b : Bool) → among c (cells_at home p ls (suc n) cs) ≡ among c (if b then n ∷ cells_at home p ls (suc n) cs else cells_at home p ls (suc n) cs)
      by true = sym (ap (λ b. b || among c (cells_at home p ls (suc n) cs)) other)
      by false = refl

  pub edges-of : (o : Option (List Location)) → SameEdge home p o (option_map (λ l. cells_at home p l 0 p.cells) o)
  edges-of None = tt
  edges-of (Some ls) = λ c z e r. edge-cells ls p.cells 0 whole c c z e (from c)
    where
      from : (c : ℕ) → c ≡ 0 + c
      from c = omega arith

  pub step-of : (x : Step) → FitsStep (design_of home p) x → IsStepOf home p x (regs_step_of home p x)
  step-of x fit = record {
    inputs = λ c z w e h. given-inputs p.cells 0 x.inputs whole c z w e h;
    fit = λ c v z e g. given-fits p.cells 0 x.inputs whole fit.0 c v z e g;
    edge = edges-of x.edge;
  }

  pub steps-of : (xs : List Step) → FitSteps (design_of home p) xs → AreStepsOf home p xs (map (regs_step_of home p) xs)
  steps-of [] f = tt
  steps-of (x ∷ xs) f = (step-of x f.0, steps-of xs f.1)

  -- ---- starts
  here-constant : (cs : Cells) (n : ℕ) → Suffix n cs → (j c : ℕ) (x : program.Cell) → slice_get cs j ≡ Some x → c ≡ n + j → is_held x.sort ≡ true → constant_from home p n cs (at x) ≡ constant_if (among c (written p)) x.sort
  here-constant [] n h j c x e q k = none-some x e
  here-constant (y ∷ cs) n h zero c x e q k =
      let one = some-same y x e in
      ap (λ b. if b then constant_if (among n (written p)) y.sort else constant_from home p (n + 1) cs (at x)) (ap (λ y. same (at y) (at x) && not (is_pointer y.sort)) one ∙ and-both _ _ (same-self (at x)) (ap not (held-no-pointer x.sort k)))
      ∙ (λ i. constant_if (among (same-number i) (written p)) (one i).sort)
    where
      same-number : n ≡ c
      same-number = omega (arith, q)
  here-constant (y ∷ cs) n h (suc j) c x e q k =
      ap (λ b. if b then constant_if (among n (written p)) y.sort else constant_from home p (n + 1) cs (at x)) (by (is_pointer y.sort) refl)
      ∙ ap (λ m. constant_from home p m cs (at x)) (add-one n) ∙ here-constant cs (suc n) (tail n y cs h) j c x e (omega (arith, q)) k
    where
      other : nat_eq n c ≡ false
      other = grind (arith, q)

      there : slice_get p.cells c ≡ Some x
      there = ap (slice_get p.cells) q ∙ h (suc j) ∙ e

      no-and : (a : Bool) → (a && false) ≡ false
      no-and true = refl
      no-and false = refl

      by : (b : Bool) → is_pointer y.sort ≡ b → (same (at y) (at x) && not (is_pointer y.sort)) ≡ false
      by true t = ap (λ b. same (at y) (at x) && not b) t ∙ no-and (same (at y) (at x))
      by false t = ap (λ b. b && not (is_pointer y.sort)) (same-is n c y x (head n y cs h) there t (held-no-pointer x.sort k) ∙ other)

  first-at : (qs : List Process) (i : ℕ) (frames : ℕ → Frames) → AllFirst i (processes_from home p i qs) frames → (k : ℕ) (q : Process) → slice_get qs k ≡ Some q → frames (i + k) ≡ first_frames home p (i + k) q
  first-at [] i frames a k q e = none-some q e
  first-at (r ∷ qs) i frames a zero q e = (λ j. subst-frames (some-same r q e) j)
    where
      from : i ≡ i + 0
      from = omega arith

      subst-frames : r ≡ q → frames (i + 0) ≡ first_frames home p (i + 0) q
      subst-frames one = subst (λ n. frames n ≡ first_frames home p n q) from (subst (λ z. frames i ≡ first_frames home p i z) one a.0)
  first-at (r ∷ qs) i frames a (suc k) q e =
      subst (λ n. frames n ≡ first_frames home p n q) from (first-at qs (suc i) frames (subst (λ n. AllFirst n (processes_from home p (suc i) qs) frames) (add-one i) a.1) k q e)
    where
      from : suc i + k ≡ i + suc k
      from = omega arith

  held-fits : (c : ℕ) (x : program.Cell) → slice_get p.cells c ≡ Some x → is_held x.sort ≡ true → (w : ℕ) → FitsThing ((design_of home p).places.things (at x)) w → w < 2 ^ width_of x.kind
  held-fits c x e h w f = by x.sort h (subst (λ t. FitsThing t w) (thing-at home p resolved c x e h) f)
    where
      by : (s : Sort) → is_held s ≡ true → FitsThing (thing_of home p x s) w → w < 2 ^ width_of x.kind
      by Input i f = f
      by Output i f = f
      by Signal i f = f
      by (Variable v g) i f = f
      by (Local j) i f = f
      by (Pointer t) i f = true-false (sym i)
      by (Port r) i f = true-false (sym i)

  pub start-tied : (s : State) → IsStart (design_of home p) s → Tied home p s (regs_of home p s)
  start-tied s start = record {
    fits = λ c x e h. subst (λ n. n < 2 ^ width_of x.kind) (sym (word c x e)) (held-fits c x e h (s.store.words (at x)) (start.words.fits (at x)));
    proper = λ c x e h. held-fits c x e h (s.store.words (at x)) (start.words.fits (at x));
    words = λ c x e k. sym (word c x e);
    constants = λ c x w e k. subst (λ o. HoldsConstant o (s.store.words (at x))) (here-constant p.cells 0 whole c c x e (from c) (constant-held p c w x e k) ∙ sym (ap (option_and_then (λ x. constant_if (among c (written p)) x.sort)) e) ∙ k) (start.words.constants (at x));
    places = λ i q place e t k. none-some place k;
    begins = λ i q e t k. subst (λ n. s.frames n ≡ first_frames home p n q) (sym (from i)) (first-at p.processes 0 s.frames start.frames i q e);
  }
    where
      from : (c : ℕ) → c ≡ 0 + c
      from c = omega arith

      word : (c : ℕ) (x : program.Cell) → slice_get p.cells c ≡ Some x → (regs_of home p s).word c ≡ s.store.words (at x)
      word c x e = ap (λ o. unwrap_or (option_map (λ x. s.store.words (at x)) o) 0) e
