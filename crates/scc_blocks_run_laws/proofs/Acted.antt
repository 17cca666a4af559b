-- Processes that act together.
use Rattle.std.proofs.Common.{◌≡◌, ◌+◌, ◌||◌, ◌&&◌, ℕ, zero, suc, nat_eq, Bool, true, false, List, [], ◌∷◌, ◌++◌, Option, Some, None, slice_get, refl, sym, ap, ◌∙◌, subst, arith, if◌then◌else◌}
use Rattle.std.specs.Prelude.{unwrap_or, option_map, option_and_then, flat_map}
use Rattle.std.specs.List.{list_any}
use Rattle.scc_svtree.proofs.Agree.{or_both_false}
use Rattle.scc_core_spec.specs.Program.{Program, Process, Cell, is_combinational}
use Rattle.scc_core_spec.specs.Kept.{written_by}
use Rattle.scc_core_spec.specs.Constants.{written, constant_if}
use Rattle.scc_core_spec.specs.Uses.{among}
use Rattle.scc_blocks_spec.specs.Acting.{latest}
use Rattle.scc_blocks_spec.specs.Effect.{Place}
use Rattle.scc_blocks_spec.specs.Turns.{Regs, Left, Taking, turn, constant_at, taken_from, acted, rounds}
use Rattle.scc_blocks_run_laws.specs.Blocks.{NoWriter, OnlyWriter}

any-append : {A : Type 0} (t : A → Bool) (a b : List A) → list_any t (a ++ b) ≡ (list_any t a || list_any t b)
any-append t [] b = refl
any-append t (x ∷ a) b = ap (λ k. t x || k) (any-append t a b) ∙ assoc (t x) (list_any t a) (list_any t b)
  where
    assoc : (x y z : Bool) → (x || (y || z)) ≡ ((x || y) || z)
    assoc true y z = refl
    assoc false y z = refl

among-each : {A : Type 0} (f : A → List ℕ) (xs : List A) (k c : ℕ) (x : A) → among c (flat_map f xs) ≡ false → slice_get xs k ≡ Some x → among c (f x) ≡ false
among-each f [] k c x h e = absurd (cc)
among-each f (y ∷ ys) zero c x h e = let s : y ≡ x = cc in ap (λ z. among c (f z)) (sym s) ∙ (or_both_false (among c (f y)) (among c (flat_map f ys)) (sym (any-append (nat_eq c) (f y) (flat_map f ys)) ∙ h)).0
among-each f (y ∷ ys) (suc k) c x h e = among-each f ys k c x (or_both_false (among c (f y)) (among c (flat_map f ys)) (sym (any-append (nat_eq c) (f y) (flat_map f ys)) ∙ h)).1 e

pub constant-unwritten : (p : Program) (c w : ℕ) → constant_at p c ≡ Some w → NoWriter p c
constant-unwritten p c w h j q e = among-each (written_by p.cells) p.processes j c q (none (slice_get p.cells c) refl (among c (written p)) refl) e
  where
    none : (o : Option Cell) → slice_get p.cells c ≡ o → (b : Bool) → among c (written p) ≡ b → among c (written p) ≡ false
    none o e false f = f
    none None e true f = let t : constant_at p c ≡ None = ap (λ o. option_and_then (λ x. constant_if (among c (written p)) x.sort) o) e in absurd (cc)
    none (Some x) e true f = let t : constant_at p c ≡ None = (λ j. option_and_then (λ x. constant_if (f j) x.sort) (e j)) in absurd (cc)

module _ (p : Program) (takes : Taking) (g : Regs) (c : ℕ) where
  and-false : (a b : Bool) → b ≡ false → (a && b) ≡ false
  and-false true b h = h
  and-false false b h = refl

  taken-none : (i : ℕ) (qs : List Process) → ((k j : ℕ) (q : Process) → j ≡ i + k → slice_get qs k ≡ Some q → (takes j q && among c (written_by p.cells q)) ≡ false) → taken_from p takes g i qs c ≡ g.word c
  taken-none i [] h = refl
  taken-none i (q ∷ qs) h =
      ap (λ b. if b then unwrap_or (option_map (λ l. latest l.acting c) (turn p i q g)) (g.word c) else taken_from p takes g (suc i) qs c) (h 0 i q (omega arith) refl)
      ∙ taken-none (suc i) qs (λ k j o e s. h (suc k) j o (omega arith) s)

  taken-at : (i : ℕ) (qs : List Process) (k j : ℕ) (q : Process) (l : Left) → j ≡ i + k → slice_get qs k ≡ Some q → takes j q ≡ true → among c (written_by p.cells q) ≡ true → turn p j q g ≡ Some l
      → ((m : ℕ) (o : Process) → slice_get qs m ≡ Some o → among c (written_by p.cells o) ≡ true → m ≡ k) → taken_from p takes g i qs c ≡ latest l.acting c
  taken-at i [] k j q l e s t w u only = absurd (cc)
  taken-at i (o ∷ qs) zero j q l e s t w u only =
      let same : o ≡ q = cc in
      let at : i ≡ j = omega arith in
      let yes : (takes i o && among c (written_by p.cells o)) ≡ true = (λ z. takes (at z) (same z) && among c (written_by p.cells (same z))) ∙ (λ z. t z && w z) in
      ap (λ b. if b then unwrap_or (option_map (λ l. latest l.acting c) (turn p i o g)) (g.word c) else taken_from p takes g (suc i) qs c) yes
      ∙ ap (λ x. unwrap_or (option_map (λ l. latest l.acting c) x) (g.word c)) ((λ z. turn p (at z) (same z) g) ∙ u)
  taken-at i (o ∷ qs) (suc k) j q l e s t w u only =
      let no : (takes i o && among c (written_by p.cells o)) ≡ false = and-false (takes i o) (among c (written_by p.cells o)) (not-here (among c (written_by p.cells o)) refl) in
      ap (λ b. if b then unwrap_or (option_map (λ l. latest l.acting c) (turn p i o g)) (g.word c) else taken_from p takes g (suc i) qs c) no
      ∙ taken-at (suc i) qs k j q l (omega arith) s t w u (λ m x y z. let f : suc m ≡ suc k = only (suc m) x y z in omega arith)
    where
      not-here : (b : Bool) → among c (written_by p.cells o) ≡ b → among c (written_by p.cells o) ≡ false
      not-here false f = f
      not-here true f = let z : 0 ≡ suc k = only 0 o refl f in absurd (omega arith)

  pub unwritten-stays : NoWriter p c → (acted p takes g).word c ≡ g.word c
  unwritten-stays h = taken-none 0 p.processes (λ k j q e s. and-false (takes j q) (among c (written_by p.cells q)) (h k q s))

  pub writer-gives : (i : ℕ) (q : Process) (l : Left) → slice_get p.processes i ≡ Some q → takes i q ≡ true → among c (written_by p.cells q) ≡ true → turn p i q g ≡ Some l → OnlyWriter p i c
      → (acted p takes g).word c ≡ latest l.acting c
  writer-gives i q l s t w u only = taken-at 0 p.processes i i q l (omega arith) s t w u only

  pub writer-rests : (i : ℕ) (q : Process) → slice_get p.processes i ≡ Some q → (takes i q && among c (written_by p.cells q)) ≡ false → OnlyWriter p i c → (acted p takes g).word c ≡ g.word c
  writer-rests i q s rests only = taken-none 0 p.processes (λ k j o e h. go k j o e h (among c (written_by p.cells o)) refl)
    where
      go : (k j : ℕ) (o : Process) → j ≡ 0 + k → slice_get p.processes k ≡ Some o → (b : Bool) → among c (written_by p.cells o) ≡ b → (takes j o && among c (written_by p.cells o)) ≡ false
      go k j o e h false f = and-false (takes j o) (among c (written_by p.cells o)) f
      go k j o e h true f =
          let at : k ≡ i = only k o h f in
          let jt : i ≡ j = omega arith in
          let P : ℕ → Type 0 = λ k. slice_get p.processes k ≡ Some o in
          let h' : slice_get p.processes i ≡ Some o = subst P at h in
          let same : q ≡ o = cc in
          sym (λ z. takes (jt z) (same z) && among c (written_by p.cells (same z))) ∙ rests

module _ (p : Program) (takes : Taking) (g : Regs) (i : ℕ) (q : Process) where
  abbrev places : Bool → Option Place
  places b = unwrap_or (option_and_then (λ q. if b then option_map (λ l. l.place) (turn p i q g) else None) (slice_get p.processes i)) (g.place i)

  pub place-taken : (l : Left) → slice_get p.processes i ≡ Some q → (takes i q && q.is_thread) ≡ true → turn p i q g ≡ Some l → (acted p takes g).place i ≡ l.place
  place-taken l s t u =
      ap (λ o. unwrap_or (option_and_then (λ q. if takes i q && q.is_thread then option_map (λ l. l.place) (turn p i q g) else None) o) (g.place i)) s
      ∙ (λ z. unwrap_or (if t z then option_map (λ l. l.place) (u z) else None) (g.place i))

  pub place-rests : slice_get p.processes i ≡ Some q → (takes i q && q.is_thread) ≡ false → (acted p takes g).place i ≡ g.place i
  place-rests s t =
      ap (λ o. unwrap_or (option_and_then (λ q. if takes i q && q.is_thread then option_map (λ l. l.place) (turn p i q g) else None) o) (g.place i)) s
      ∙ (λ z. unwrap_or (if t z then option_map (λ l. l.place) (turn p i q g) else None) (g.place i))

-- the last round acts on what the rounds before it left
pub rounds-last : (p : Program) (n : ℕ) (g : Regs) → rounds p (suc n) g ≡ acted p (λ i q. is_combinational q) (rounds p n g)
rounds-last p zero g = refl
rounds-last p (suc n) g = rounds-last p n (acted p (λ i q. is_combinational q) g)
