-- Whatever some schedule of the steps shows is what the design shows.
use Rattle.std.proofs.Common.{◌≡◌, ℕ, zero, suc, ◌+◌, Bool, true, false, not, ◌&&◌, map, List, [], ◌∷◌, Option, Some, None, refl, sym, ap, ◌∙◌, subst, arith, if◌then◌else◌, slice_get}
use Rattle.std.specs.Prelude.{option_map, unwrap_or}
use Rattle.scc_semantics.specs.Location.{Location, same}
use Rattle.scc_semantics.specs.Run.{Shown, Observation}
use Rattle.scc_semantics.specs.Schedule.{AnyOrder, SameObservation, SameAfter, SameShown}
use Rattle.scc_semantics_laws.proofs.Places.{same-is}
use Rattle.scc_core_spec.specs.Program as program
use Rattle.scc_core_spec.specs.Program.{Program, is_pointer}
use Rattle.scc_core_spec.specs.Static.{Cells}
use Rattle.scc_core_spec.specs.Source.{Home, cell_location}
use Rattle.scc_blocks_spec.specs.Names.{holds_word, is_register, cell_numbered, cell_at, is_kept_at}
use Rattle.scc_blocks_spec.specs.Turns.{Regs}
use Rattle.scc_core_effect_laws.specs.Follows.{IsSoundCore, Obeys, Does, Tracks, design_of}
use Rattle.scc_core_effect_laws.specs.Ordering.{IsOrdered}
use Rattle.scc_core_effect_laws.proofs.Names.{and-first, or-right, some-same, none-some, true-false}
use Rattle.scc_core_laws.specs.Stepped.{RegsShown, Sees, SeesAfter, SeesAll, regs_shown}
use Rattle.scc_core_laws.specs.Given.{regs_of, regs_step_of}
use Rattle.scc_core_laws.proofs.Starting.{start-tied, steps-of}
use Rattle.scc_core_laws.proofs.Stepping.{run-follows}
use Rattle.scc_core_order_laws.specs.Inputs.{KeepsInputs}
use Rattle.scc_core_order_laws.proofs.One.{one-shown}
use Rattle.scc_core_order_laws.proofs.Asked.{Senses}
use Rattle.scc_core_order_laws.proofs.Steps.{scheduled-sees}

module _ (home : Home) (p : Program) where
  numbered : (cs : Cells) (n m : ℕ) (l : Location) → cell_numbered home p l n cs ≡ Some m → (k : ℕ) × (x : program.Cell) × (m ≡ n + k) × (slice_get cs k ≡ Some x) × (cell_location home p x ≡ l)
  numbered [] n m l e = none-some m e
  numbered (c ∷ cs) n m l e = by (same (cell_location home p c) l && not (is_pointer c.sort)) refl e (λ e. numbered cs (suc n) m l e)
    where
      by : (b : Bool) → (same (cell_location home p c) l && not (is_pointer c.sort)) ≡ b → (if b then Some n else cell_numbered home p l (suc n) cs) ≡ Some m
          → (cell_numbered home p l (suc n) cs ≡ Some m → (k : ℕ) × (x : program.Cell) × (m ≡ suc n + k) × (slice_get cs k ≡ Some x) × (cell_location home p x ≡ l))
          → (k : ℕ) × (x : program.Cell) × (m ≡ n + k) × (slice_get (c ∷ cs) k ≡ Some x) × (cell_location home p x ≡ l)
      by true h e more = let q = some-same n m e in (zero, c, omega (arith, q), refl, same-is (cell_location home p c) l (and-first _ _ h))
      by false h e more = let z = more e in let q = z.2 in (suc z.0, z.1, omega (arith, q), z.3, z.4)

  -- what is kept at a location is a register's word
  pub kept-at : (l : Location) → is_kept_at home p l ≡ true → (c : ℕ) × (x : program.Cell) × (slice_get p.cells c ≡ Some x) × (cell_location home p x ≡ l) × (holds_word p c ≡ true)
  kept-at l e = by (cell_at home p l) refl
    where
      by : (o : Option ℕ) → cell_at home p l ≡ o → (c : ℕ) × (x : program.Cell) × (slice_get p.cells c ≡ Some x) × (cell_location home p x ≡ l) × (holds_word p c ≡ true)
      by None h = true-false (sym e ∙ ap (λ o. unwrap_or (option_map (is_register p) o) false) h)
      by (Some n) h =
          let z = numbered p.cells 0 n l h in
          (n, z.1, ap (slice_get p.cells) (from z.0 n z.2) ∙ z.3, z.4, or-right _ _ (sym (ap (λ o. unwrap_or (option_map (is_register p) o) false) h) ∙ e))
        where
          from : (k n : ℕ) → n ≡ 0 + k → n ≡ k
          from k n e = omega (arith, e)

  module _ (registers : Location → Bool) (known : (l : Location) → registers l ≡ true → (c : ℕ) × (x : program.Cell) × (slice_get p.cells c ≡ Some x) × (cell_location home p x ≡ l) × (holds_word p c ≡ true)) where
    same-seen : (a b : Observation) (g : Regs) → Sees home p a g → Sees home p b g → SameObservation registers a b
    same-seen a b g u v = record {
      outputs = u.outputs ∙ sym v.outputs;
      words = λ l r. let z = known l r in ap a.words (sym z.3) ∙ u.words z.0 z.1 z.2 z.4 ∙ sym (v.words z.0 z.1 z.2 z.4) ∙ ap b.words z.3;
    }

    same-after : (a b : Option Observation) (g : Option Regs) → SeesAfter home p a g → SeesAfter home p b g → SameAfter registers a b
    same-after None None None u v = tt
    same-after (Some a) (Some b) (Some g) u v = same-seen a b g u v
    same-after None (Some b) None u v = absurd v
    same-after None (Some b) (Some g) u v = absurd u
    same-after (Some a) None None u v = absurd u
    same-after (Some a) None (Some g) u v = absurd v
    same-after None None (Some g) u v = tt
    same-after (Some a) (Some b) None u v = absurd u

    pub same-shown : (os ps : List Shown) (rs : List RegsShown) → SeesAll home p os rs → SeesAll home p ps rs → SameShown registers os ps
    same-shown [] [] [] u v = tt
    same-shown (a ∷ os) (b ∷ ps) (r ∷ rs) u v = (same-seen a.before b.before r.before u.0.0 v.0.0, same-after a.after b.after r.after u.0.1 v.0.1, same-shown os ps rs u.1 v.1)
    same-shown [] [] (r ∷ rs) u v = absurd u
    same-shown [] (b ∷ ps) [] u v = absurd v
    same-shown [] (b ∷ ps) (r ∷ rs) u v = absurd u
    same-shown (a ∷ os) [] [] u v = absurd u
    same-shown (a ∷ os) [] (r ∷ rs) u v = absurd v
    same-shown (a ∷ os) (b ∷ ps) [] u v = absurd u

    pub any-order : (resolved : IsSoundCore home p) (obeys : Obeys p) (bounds : ℕ → ℕ) (does : Does home p bounds) (tracks : Tracks home p bounds) (order : List ℕ) (ordered : IsOrdered p order) → Senses p → KeepsInputs p → AnyOrder registers (design_of home p)
    any-order resolved obeys bounds does tracks order ordered senses kept s start xs fit os ps bound shows scheduled =
        let g = regs_of home p s in
        let ys = map (regs_step_of home p) xs in
        let tied = start-tied home p resolved s start in
        let ok = steps-of home p resolved xs fit in
        let f = run-follows home p resolved obeys bounds does tracks xs ys s g tied ok in
        let one : os ≡ f.shows = one-shown (λ i. shows.0) bounds (design_of home p) xs s os f.shows shows.1 f.goes in
        same-shown os ps (regs_shown p ys g) (subst (λ os. SeesAll home p os (regs_shown p ys g)) (sym one) f.sees)
        (scheduled-sees home p resolved obeys bounds does tracks order ordered senses kept (λ i. bound) scheduled ys ok g (record { tied = tied; has = record { ran = λ i q l here comb e. none-some l e } }))
