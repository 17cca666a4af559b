-- What a cell takes where some processes act together: what one that writes it leaves, or what it had.
use Rattle.std.proofs.Common.{◌≡◌, ℕ, zero, suc, ◌+◌, Bool, true, false, ◌&&◌, List, [], ◌∷◌, Some, refl, sym, ap, ◌∙◌, arith, if◌then◌else◌, slice_get, ◌⊎◌, inl, inr}
use Rattle.std.specs.Prelude.{option_map, unwrap_or}
use Rattle.scc_core_spec.specs.Program.{Program, Process}
use Rattle.scc_core_spec.specs.Uses.{among}
use Rattle.scc_core_spec.specs.Kept.{written_by}
use Rattle.scc_blocks_spec.specs.Acting.{latest}
use Rattle.scc_blocks_spec.specs.Turns.{Regs, Taking, turn, taken_from}
use Rattle.scc_core_effect_laws.proofs.Names.{and-first, and-second, and-both, some-same, none-some, true-false}

-- the word that a process leaves at a cell
abbrev pub says : Program → ℕ → ℕ → Process → Regs → ℕ
says p i c q g = unwrap_or (option_map (λ l. latest l.acting c) (turn p i q g)) (g.word c)

module _ (p : Program) (takes : Taking) (g : Regs) (c : ℕ) where
  -- one that takes part writes it
  abbrev pub Writes : ℕ → List Process → Type 0
  Writes n qs = (k : ℕ) × (r : Process) × (slice_get qs k ≡ Some r) × (takes (n + k) r ≡ true) × (among c (written_by p.cells r) ≡ true) × (taken_from p takes g n qs c ≡ says p (n + k) c r g)

  abbrev pub Leaves : ℕ → List Process → Type 0
  Leaves n qs = ((k : ℕ) (r : Process) → slice_get qs k ≡ Some r → takes (n + k) r ≡ true → among c (written_by p.cells r) ≡ true → ⊥) × (taken_from p takes g n qs c ≡ g.word c)

  taken-is : (qs : List Process) (n : ℕ) → (Writes n qs) ⊎ (Leaves n qs)
  taken-is [] n = inr ((λ k r e t w. none-some r e), refl)
  taken-is (q ∷ qs) n = by (takes n q && among c (written_by p.cells q)) refl (taken-is qs (suc n))
    where
      first : n ≡ n + 0
      first = omega arith

      next : (k : ℕ) → suc n + k ≡ n + suc k
      next k = omega arith

      by : (b : Bool) → (takes n q && among c (written_by p.cells q)) ≡ b → ((Writes (suc n) qs) ⊎ (Leaves (suc n) qs)) → (Writes n (q ∷ qs)) ⊎ (Leaves n (q ∷ qs))
      by true e more = inl (zero, q, refl, ap (λ m. takes m q) (sym first) ∙ and-first _ _ e, and-second (takes n q) _ e, ap (λ b. if b then says p n c q g else taken_from p takes g (suc n) qs c) e ∙ ap (λ m. says p m c q g) first)
      by false e (inl m) = inl (suc m.0, m.1, m.2, ap (λ n. takes n m.1) (sym (next m.0)) ∙ m.3, m.4, ap (λ b. if b then says p n c q g else taken_from p takes g (suc n) qs c) e ∙ m.5 ∙ ap (λ n. says p n c m.1 g) (next m.0))
      by false e (inr m) = inr (none, ap (λ b. if b then says p n c q g else taken_from p takes g (suc n) qs c) e ∙ m.1)
        where
          none : (k : ℕ) (r : Process) → slice_get (q ∷ qs) k ≡ Some r → takes (n + k) r ≡ true → among c (written_by p.cells r) ≡ true → ⊥
          none zero r f t w =
              let same = some-same q r f in
              true-false (sym (and-both (takes n q) _ ((λ i. takes (first i) (same i)) ∙ t) (ap (λ r. among c (written_by p.cells r)) same ∙ w)) ∙ e)
          none (suc k) r f t w = m.0 k r f (ap (λ n. takes n r) (next k) ∙ t) w

  from : (k : ℕ) → 0 + k ≡ k
  from k = omega arith

  -- the same of the processes of a program
  abbrev pub Wrote : Type 0
  Wrote = (k : ℕ) × (r : Process) × (slice_get p.processes k ≡ Some r) × (takes k r ≡ true) × (among c (written_by p.cells r) ≡ true) × (taken_from p takes g 0 p.processes c ≡ says p k c r g)

  abbrev pub Left : Type 0
  Left = ((k : ℕ) (r : Process) → slice_get p.processes k ≡ Some r → takes k r ≡ true → among c (written_by p.cells r) ≡ true → ⊥) × (taken_from p takes g 0 p.processes c ≡ g.word c)

  pub wrote-or-left : Wrote ⊎ Left
  wrote-or-left = by (taken-is p.processes 0)
    where
      by : ((Writes 0 p.processes) ⊎ (Leaves 0 p.processes)) → Wrote ⊎ Left
      by (inl m) = inl (m.0, m.1, m.2, ap (λ n. takes n m.1) (sym (from m.0)) ∙ m.3, m.4, m.5 ∙ ap (λ n. says p n c m.1 g) (from m.0))
      by (inr m) = inr ((λ k r e t w. m.0 k r e (ap (λ n. takes n r) (from k) ∙ t) w), m.1)
