-- What is observed of a design in a state that is tied to registers.
use Rattle.std.proofs.Common.{◌≡◌, ℕ, zero, suc, ◌+◌, Bool, true, false, not, ◌&&◌, nat_eq, cond, find, filter, filter_map, List, [], ◌∷◌, map, Option, Some, None, refl, sym, ap, ◌∙◌, arith, if◌then◌else◌, slice_get}
use Rattle.std.specs.Prelude.{option_and_then}
use Rattle.std.specs.List.{cons_option}
use Rattle.scc_semantics.specs.Location.{Location, Part, Member, Element, Root, Top, Local as OfProcess, Answer, same_part, same_path, same_calls, same_root, same}
use Rattle.scc_semantics.specs.Design as running
use Rattle.scc_semantics.specs.Design.{TopPort, outputs, locations}
use Rattle.scc_semantics.specs.Process.{State}
use Rattle.scc_semantics.specs.Run.{word_at, observed}
use Rattle.scc_core_spec.specs.Program as program
use Rattle.scc_core_spec.specs.Program.{Program, Process, Sort, Input, Output, Signal, Variable, Local, Pointer, Port, is_root, is_number, is_held, is_pointer, is_input, is_output}
use Rattle.scc_core_spec.specs.Static.{Cells}
use Rattle.scc_core_spec.specs.Source.{Home, cell_location, thing_of, cell_there, port_of}
use Rattle.scc_blocks_spec.specs.Turns.{Regs}
use Rattle.scc_blocks_spec.specs.Tied.{Tied}
use Rattle.scc_core_effect_laws.specs.Follows.{IsSoundCore, design_of}
use Rattle.scc_core_laws.specs.Stepped.{Sees, outputs_from}
use Rattle.scc_core_effect_laws.proofs.Names.{and-both, and-first, and-second, or-left, some-same, none-some, true-false, not-true}
use Rattle.scc_core_effect_laws.proofs.Unsure.{has-sort}
use Rattle.scc_core_laws.proofs.Phases.{word-is-held}

nat_eq-self : (n : ℕ) → nat_eq n n ≡ true
nat_eq-self n = grind arith

same_part-self : (p : Part) → same_part p p ≡ true
same_part-self (Member n) = nat_eq-self n
same_part-self (Element n) = nat_eq-self n

same_path-self : (p : List Part) → same_path p p ≡ true
same_path-self [] = refl
same_path-self (a ∷ p) = and-both (same_part a a) (same_path p p) (same_part-self a) (same_path-self p)

same_calls-self : (p : List ℕ) → same_calls p p ≡ true
same_calls-self [] = refl
same_calls-self (a ∷ p) = and-both (nat_eq a a) (same_calls p p) (nat_eq-self a) (same_calls-self p)

same_root-self : (r : Root) → same_root r r ≡ true
same_root-self Top = refl
same_root-self (OfProcess p c d) = and-both (nat_eq p p && same_calls c c) (nat_eq d d) (and-both (nat_eq p p) (same_calls c c) (nat_eq-self p) (same_calls-self c)) (nat_eq-self d)
same_root-self (Answer p c) = and-both (nat_eq p p) (same_calls c c) (nat_eq-self p) (same_calls-self c)

pub same-self : (l : Location) → same l l ≡ true
same-self l = and-both (same_root l.root l.root) (same_path l.path l.path) (same_root-self l.root) (same_path-self l.path)

-- the one that passes is found
find-is : {A : Type 0} (test : A → Bool) (xs : List A) (n : ℕ) (x : A) → slice_get xs n ≡ Some x → test x ≡ true → ((j : ℕ) (y : A) → slice_get xs j ≡ Some y → test y ≡ true → j ≡ n) → find test xs ≡ Some x
find-is test [] n x e t one = none-some x e
find-is test (y ∷ xs) zero x e t one = ap (λ b. cond b (Some y) (find test xs)) (ap test (some-same y x e) ∙ t) ∙ e
find-is test (y ∷ xs) (suc n) x e t one = by (test y) refl (find-is test xs n x e t (λ j z f g. less j (one (suc j) z f g)))
  where
    less : (j : ℕ) → suc j ≡ suc n → j ≡ n
    less j q = omega (arith, q)

    by : (b : Bool) → test y ≡ b → find test xs ≡ Some x → cond (test y) (Some y) (find test xs) ≡ Some x
    by true h more = absurd (let q = one 0 y refl h in grind (arith, q))
    by false h more = ap (λ b. cond b (Some y) (find test xs)) h ∙ more

pub held-no-pointer : (s : Sort) → is_held s ≡ true → is_pointer s ≡ false
held-no-pointer Input e = refl
held-no-pointer Output e = refl
held-no-pointer Signal e = refl
held-no-pointer (Variable w f) e = refl
held-no-pointer (Local i) e = refl
held-no-pointer (Pointer t) e = true-false (sym e)
held-no-pointer (Port r) e = refl

module _ (home : Home) (p : Program) (resolved : IsSoundCore home p) where
  abbrev at : program.Cell → Location
  at x = cell_location home p x

  there : (c : ℕ) (x : program.Cell) → slice_get p.cells c ≡ Some x → is_held x.sort ≡ true → cell_there home p false (at x) ≡ Some x
  there c x e h = find-is (λ y. same (at y) (at x) && not (is_pointer y.sort)) p.cells c x e (and-both _ _ (same-self (at x)) (ap not (held-no-pointer x.sort h)))
      (λ j y f t. resolved.apart j c y x f e (not-true _ (and-second (same (at y) (at x)) _ t)) (held-no-pointer x.sort h) (and-first (same (at y) (at x)) _ t))

  pub thing-at : (c : ℕ) (x : program.Cell) → slice_get p.cells c ≡ Some x → is_held x.sort ≡ true → (design_of home p).places.things (at x) ≡ thing_of home p x x.sort
  thing-at c x e h = ap (option_and_then (λ c. thing_of home p c c.sort)) (there c x e h)

  shown-word : (c : ℕ) (x : program.Cell) (w : Location → ℕ) → slice_get p.cells c ≡ Some x → is_held x.sort ≡ true → word_at ((design_of home p).places.things (at x)) w (at x) ≡ w (at x)
  shown-word c x w e h = ap (λ t. word_at t w (at x)) (thing-at c x e h) ∙ by x.sort h
    where
      by : (s : Sort) → is_held s ≡ true → word_at (thing_of home p x s) w (at x) ≡ w (at x)
      by Input h = refl
      by Output h = refl
      by Signal h = refl
      by (Variable v f) h = refl
      by (Local j) h = refl
      by (Pointer t) h = true-false (sym h)
      by (Port r) h = true-false (sym h)

  pub sees : (s : State) (g : Regs) → Tied home p s g → Sees home p (observed (design_of home p) s) g
  sees s g tied = record {
    outputs = outs p.cells 0 (λ k. ap (slice_get p.cells) (from k));
    words = λ c x e k. shown-word c x s.store.words e (word-is-held p c x e k) ∙ tied.words c x e k;
  }
    where
      from : (k : ℕ) → 0 + k ≡ k
      from k = omega arith

      word : Location → ℕ
      word l = word_at ((design_of home p).places.things l) s.store.words l

      outs : (cs : Cells) (n : ℕ) → ((k : ℕ) → slice_get p.cells (n + k) ≡ slice_get cs k)
          → map word (locations (filter (λ t. not (running.is_input t.direction)) (filter_map (port_of home p) cs))) ≡ map g.word (outputs_from n cs)
      outs [] n h = refl
      outs (c ∷ cs) n h = step (is_input c.sort) (is_output c.sort) written (one c.sort) (outs cs (suc n) later)
        where
          later : (k : ℕ) → slice_get p.cells (suc n + k) ≡ slice_get cs k
          later k = ap (slice_get p.cells) next ∙ h (suc k)
            where
              next : suc n + k ≡ n + suc k
              next = omega arith

          here : slice_get p.cells n ≡ Some c
          here = ap (slice_get p.cells) first ∙ h 0
            where
              first : n ≡ n + 0
              first = omega arith

          output-root : (s : Sort) → is_output s ≡ true → is_root s ≡ true
          output-root Output e = refl
          output-root Input e = refl
          output-root Signal e = refl
          output-root (Variable w f) e = e
          output-root (Local i) e = e
          output-root (Pointer t) e = e
          output-root (Port r) e = e

          written : is_output c.sort ≡ true → word (at c) ≡ g.word n
          written o =
              let root = output-root c.sort o in
              shown-word n c s.store.words here (or-left _ _ root) ∙ tied.words n c here (or-left _ _ (has-sort is_root p.cells n c here ∙ root))

          one : (s : Sort) → is_input s ≡ true → is_output s ≡ false
          one Input e = refl
          one Output e = true-false (sym e)
          one Signal e = refl
          one (Variable w f) e = refl
          one (Local i) e = refl
          one (Pointer t) e = refl
          one (Port r) e = refl

          rest : List Location
          rest = locations (filter (λ t. not (running.is_input t.direction)) (filter_map (port_of home p) cs))

          port : Bool → Bool → Option TopPort
          port a b = if a then Some (record { location = at c; direction = running.Input }) else (if b then Some (record { location = at c; direction = running.Output }) else None)

          step : (a b : Bool) → (b ≡ true → word (at c) ≡ g.word n) → (a ≡ true → b ≡ false) → map word rest ≡ map g.word (outputs_from (suc n) cs)
              → map word (locations (filter (λ t. not (running.is_input t.direction)) (cons_option (port a b) (filter_map (port_of home p) cs)))) ≡ map g.word (if b then n ∷ outputs_from (suc n) cs else outputs_from (suc n) cs)
          step true true w o more = true-false (o refl)
          step true false w o more = more
          step false true w o more = λ i. w refl i ∷ more i
          step false false w o more = more
