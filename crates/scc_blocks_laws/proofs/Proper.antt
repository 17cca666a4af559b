-- Registers stay proper.
use Rattle.std.proofs.Common.{◌≡◌, ◌<◌, ◌+◌, ◌^◌, ◌&&◌, ℕ, zero, suc, arith, Bool, true, false, List, [], ◌∷◌, Option, Some, None, slice_get, refl, sym, ap, ◌∙◌, subst}
use Rattle.std.specs.Prelude.{option_map, unwrap_or, if◌then◌else◌}
use Rattle.scc_svtree.specs.declared.module.SvModule.{SvModule}
use Rattle.scc_core_spec.specs.Program.{Program, Process, is_combinational, is_held}
use Rattle.scc_core_spec.specs.Kept.{written_by}
use Rattle.scc_core_spec.specs.Uses.{among, has_sort, width_at}
use Rattle.scc_blocks_spec.specs.Acting.{latest}
use Rattle.scc_blocks_spec.specs.Effect.{Place}
use Rattle.scc_blocks_spec.specs.Tied.{Registers}
use Rattle.scc_blocks_spec.specs.Turns.{Regs, Left, Taking, turn, found, taken_from, acted, rounds}
use Rattle.scc_blocks_spec.specs.Shown.{sight_of}
use Rattle.scc_blocks_spec.specs.Lowered.{Fits}
use Rattle.scc_blocks_run_laws.specs.Blocks.{IsProper, IsPlaceOf, Built, Origin, OnlyWriter}
use Rattle.scc_blocks_run_laws.specs.Follows.{IsSteady}
use Rattle.scc_blocks_run_laws.proofs.Blockruns.{found-fits}
use Rattle.scc_blocks_run_laws.proofs.Fitting.{method-fits, thread-fits}
use Rattle.scc_blocks_run_laws.proofs.Acted.{constant-unwritten, unwritten-stays, writer-gives, writer-rests, place-taken, place-rests}

module _ (p : Program) (r : Registers) (m : SvModule) (b : Built p r m) (st : IsSteady p r) where
  module _ (g : Regs) (pr : IsProper p r g) (i : ℕ) (q : Process) (s : slice_get p.processes i ≡ Some q) where
    pub fits-found : Fits (sight_of p i q) (found p i q g)
    fits-found = found-fits p r i q g st.constants pr

    pub turn-fits : (l : Left) → turn p i q g ≡ Some l → Fits (sight_of p i q) l.acting
    turn-fits l t = go q.is_thread refl
      where
        go : (k : Bool) → q.is_thread ≡ k → Fits (sight_of p i q) l.acting
        go true h = let w = st.waits i q g l pr s t h in (thread-fits p r i q g l w.0 st pr s fits-found h t w.1).fits
        go false h = method-fits p r i q g l st s fits-found h t

    pub latest-fits : (l : Left) (c : ℕ) → turn p i q g ≡ Some l → has_sort is_held p.cells c ≡ true → latest l.acting c < 2 ^ width_at p.cells c
    latest-fits l c t h = go (l.acting.asked c) refl
      where
        f : Fits (sight_of p i q) l.acting
        f = turn-fits l t

        P : ℕ → Type 0
        P = λ y. y < 2 ^ width_at p.cells c

        go : (o : Option ℕ) → l.acting.asked c ≡ o → latest l.acting c < 2 ^ width_at p.cells c
        go (Some w) e = subst P (sym (ap (λ o. unwrap_or o (l.acting.now c)) e)) (f.asks c w h e)
        go None e = subst P (sym (ap (λ o. unwrap_or o (l.acting.now c)) e)) (f.words c h)

  module _ (takes : Taking) (g : Regs) (pr : IsProper p r g) where
    -- the word of a cell with one writer
    pub writer-word : (P : ℕ → Type 0) (c i : ℕ) (q : Process) → slice_get p.processes i ≡ Some q → OnlyWriter p i c → P (g.word c) → ((l : Left) → turn p i q g ≡ Some l → P (latest l.acting c)) → P ((acted p takes g).word c)
    writer-word P c i q s only old new = go (takes i q) refl (among c (written_by p.cells q)) refl
      where
        go : (a : Bool) → takes i q ≡ a → (w : Bool) → among c (written_by p.cells q) ≡ w → P ((acted p takes g).word c)
        go true t true w = let l = st.goes i q g pr s in subst P (sym (writer-gives p takes g c i q l.0 s t w l.1 only)) (new l.0 l.1)
        go true t false w = subst P (sym (writer-rests p takes g c i q s (λ z. t z && w z) only)) old
        go false t w e = subst P (sym (writer-rests p takes g c i q s (ap (λ t. t && among c (written_by p.cells q)) t) only)) old

    word-fits : (c v : ℕ) → r.variable c ≡ Some v → Origin p m c v → (acted p takes g).word c < 2 ^ width_at p.cells c
    word-fits c v e (Origin.given a k n) = let P : ℕ → Type 0 = λ y. y < 2 ^ width_at p.cells c in subst P (sym (unwritten-stays p takes g c n)) (pr.fits c v e)
    word-fits c v e (Origin.constant y a k n) = let P : ℕ → Type 0 = λ y. y < 2 ^ width_at p.cells c in subst P (sym (unwritten-stays p takes g c n)) (pr.fits c v e)
    word-fits c v e (Origin.driven i q s k h w o) = let P : ℕ → Type 0 = λ y. y < 2 ^ width_at p.cells c in writer-word P c i q s o (pr.fits c v e) (λ l t. latest-fits g pr i q s l c t (st.named i c q s h))
    word-fits c v e (Origin.register i q k s a h w x o) = let P : ℕ → Type 0 = λ y. y < 2 ^ width_at p.cells c in writer-word P c i q s o (pr.fits c v e) (λ l t. latest-fits g pr i q s l c t (st.named i c q s h))

    place-fits : (i : ℕ) (q : Process) (place : Place) → slice_get p.processes i ≡ Some q → (acted p takes g).place i ≡ Some place → IsPlaceOf p.cells q place
    place-fits i q place s h = go (takes i q) refl q.is_thread refl
      where
        go : (a : Bool) → takes i q ≡ a → (k : Bool) → q.is_thread ≡ k → IsPlaceOf p.cells q place
        go true t true k = let l = st.goes i q g pr s in
            (thread-fits p r i q g l.0 place st pr s (fits-found g pr i q s) k l.1 (sym (place-taken p takes g i q l.0 s (λ z. t z && k z) l.1) ∙ h)).stands
        go true t false k = pr.places i q place s (sym (place-rests p takes g i q s (λ z. t z && k z)) ∙ h)
        go false t k e = pr.places i q place s (sym (place-rests p takes g i q s (ap (λ t. t && q.is_thread) t)) ∙ h)

    -- who takes part leaves what fits
    taken-fits : (c : ℕ) → has_sort is_held p.cells c ≡ true → (i : ℕ) (qs : List Process) → ((k : ℕ) → slice_get p.processes (i + k) ≡ slice_get qs k) → taken_from p takes g i qs c < 2 ^ width_at p.cells c
    taken-fits c h i [] suffix = pr.held c h
    taken-fits c h i (q ∷ qs) suffix = by (takes i q && among c (written_by p.cells q)) (taken-fits c h (suc i) qs (λ k. ap (slice_get p.processes) (next k) ∙ suffix (suc k)))
      where
        first : i ≡ i + 0
        first = omega arith

        next : (k : ℕ) → suc i + k ≡ i + suc k
        next k = omega arith

        here : slice_get p.processes i ≡ Some q
        here = ap (slice_get p.processes) first ∙ suffix 0

        by : (t : Bool) → taken_from p takes g (suc i) qs c < 2 ^ width_at p.cells c
            → (if t then unwrap_or (option_map (λ l. latest l.acting c) (turn p i q g)) (g.word c) else taken_from p takes g (suc i) qs c) < 2 ^ width_at p.cells c
        by true more =
            let l = st.goes i q g pr here in
            let P : ℕ → Type 0 = λ y. y < 2 ^ width_at p.cells c in
            subst P (sym (ap (λ o. unwrap_or (option_map (λ l. latest l.acting c) o) (g.word c)) l.1)) (latest-fits g pr i q here l.0 c l.1 h)
        by false more = more

    whole : (k : ℕ) → 0 + k ≡ k
    whole k = omega arith

    pub acted-proper : IsProper p r (acted p takes g)
    acted-proper = record {
      fits = λ c v e. word-fits c v e (b.origins c v e);
      held = λ c h. taken-fits c h 0 p.processes (λ k. ap (slice_get p.processes) (whole k));
      constants = λ c w s e. unwritten-stays p takes g c (constant-unwritten p c w e) ∙ pr.constants c w s e;
      places = place-fits;
    }

  pub rounds-proper : (n : ℕ) (g : Regs) → IsProper p r g → IsProper p r (rounds p n g)
  rounds-proper zero g pr = pr
  rounds-proper (suc n) g pr = rounds-proper n (acted p (λ i q. is_combinational q) g) (acted-proper (λ i q. is_combinational q) g pr)
