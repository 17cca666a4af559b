-- To each start some valuation is alike, where no two cells have one variable.
use Rattle.std.proofs.Common.{◌≡◌, ℕ, zero, suc, ◌<◌, Bool, true, false, nat_eq, List, length, Option, Some, None, refl, sym, ap, ◌∙◌, arith, if◌then◌else◌}
use Rattle.std.specs.Prelude.{option_map, unwrap_or}
use Rattle.std.proofs.lemmas.Option.{slice_get_within}
use Rattle.scc_semantics.specs.Location.{Location}
use Rattle.scc_semantics.specs.Process.{State}
use Rattle.scc_semantics.specs.Statement.{AreAlike}
use Rattle.scc_svtree.specs.declared.module.SvModule.{SvModule}
use Rattle.scc_blocks_spec.specs.Emitted.{register, Runs}
use Rattle.scc_blocks_spec.specs.Matches.{register_of, first}
use Rattle.scc_blocks_spec.specs.Tied.{Registers}
use Rattle.scc_core_spec.specs.Program.{Program}
use Rattle.scc_core_spec.specs.Source.{Home, cell_location}
use Rattle.scc_core_effect_laws.specs.Follows.{design_of}
use Rattle.scc_core_laws.specs.Given.{regs_of}
use Rattle.scc_drive_stages_laws.specs.Joined.{IsPlaced}

module _ (home : Home) (p : Program) (text : Location → List ℕ) (at : Location → ℕ) (r : Registers) (m : SvModule) (placed : IsPlaced home p text at r m) where
  abbrev has : Option ℕ → ℕ → Bool
  has None v = false
  has (Some w) v = nat_eq w v

  -- the cell below n that has the variable
  holder : ℕ → ℕ → Option ℕ
  holder zero v = None
  holder (suc n) v = if has (r.variable n) v then Some n else holder n v

  Held : ℕ → ℕ → Type 0
  Held n v = (d : ℕ) × (holder n v ≡ Some d) × (r.variable d ≡ Some v)

  has-is : (o : Option ℕ) (v : ℕ) → has o v ≡ true → o ≡ Some v
  has-is None v e = absurd (cc)
  has-is (Some w) v e = ap Some (equal w v e)
    where
      equal : (w v : ℕ) → nat_eq w v ≡ true → w ≡ v
      equal w v e = grind arith

  has-self : (o : Option ℕ) (v : ℕ) → o ≡ Some v → has o v ≡ true
  has-self o v e = ap (λ o. has o v) e ∙ self v
    where
      self : (v : ℕ) → nat_eq v v ≡ true
      self v = grind arith

  held-by : (n c v : ℕ) → c < n → r.variable c ≡ Some v → Held n v
  unfolding holder Held
  held-by zero c v less e = absurd (let l = less in grind (arith, l))
  held-by (suc n) c v less e = by (has (r.variable n) v) refl (λ l. held-by n c v l e)
    where
      last : has (r.variable n) v ≡ false → c < n
      last f = cases (nat_eq c n) refl
        where
          clash : {A : Type 0} → true ≡ false → A
          clash z = absurd (cc)

          cases : (b : Bool) → nat_eq c n ≡ b → c < n
          cases true q = let same : c ≡ n = grind (arith, q) in clash (sym (has-self (r.variable n) v (ap r.variable (sym same) ∙ e)) ∙ f)
          cases false q = grind (arith, q, less)

      by : (b : Bool) → has (r.variable n) v ≡ b → (c < n → (d : ℕ) × (holder n v ≡ Some d) × (r.variable d ≡ Some v)) → (d : ℕ) × ((if has (r.variable n) v then Some n else holder n v) ≡ Some d) × (r.variable d ≡ Some v)
      by true f more = (n, ap (λ b. if b then Some n else holder n v) f, has-is (r.variable n) v f)
      by false f more = let u = more (last f) in (u.0, ap (λ b. if b then Some n else holder n v) f ∙ u.1, u.2)

  module _ (s : State) where
    -- the word of the cell that has the variable
    valued : ℕ → ℕ
    valued v = unwrap_or (option_map (regs_of home p s).word (holder (length p.cells) v)) 0

    pub alike : (x : ℕ → ℕ) × AreAlike (ℕ → ℕ) (register text m) (Runs text (design_of home p) m) s x
    unfolding valued Held
    alike = (valued, λ l w e. by l w (first (register_of text m l)) refl e)
      where
        by : (l : Location) (w : ℕ) (o : Option ℕ) → first (register_of text m l) ≡ o → option_map valued o ≡ Some w → s.store.words l ≡ w
        by l w None f e = absurd (cc)
        by l w (Some v) f e =
            let y = placed.stands l v f in
            let here = placed.named.registers_stand l v f in
            let d = held-by (length p.cells) (at l) v (slice_get_within p.cells (at l) y.0 y.1) here in
            let one : d.0 ≡ at l = placed.apart d.0 (at l) v d.2 here in
            let word : valued v ≡ s.store.words l =
            ap (λ o. unwrap_or (option_map (regs_of home p s).word o) 0) d.1
            ∙ (ap (regs_of home p s).word one ∙ (ap (λ o. unwrap_or (option_map (λ x. s.store.words (cell_location home p x)) o) 0) y.1 ∙ ap s.store.words y.2)) in
            let last : valued v ≡ w = cc in
            sym word ∙ last
