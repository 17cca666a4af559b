-- Where no statement is left to do: both bodies have come to the end of a list, or neither has.
use Rattle.std.proofs.Common.{◌≡◌, ◌⊎◌, inl, inr, ℕ, zero, suc, Bool, true, false, Option, Some, refl, sym, ap, subst}
use Rattle.std.specs.Prelude.{nat_eq, slice_get, option_map, if◌then◌else◌}
use Rattle.scc_base.specs.declared.code.Code.TheVariants as reason
use Rattle.scc_semantics.specs.Location.{Location}
use Rattle.scc_semantics.specs.Places.{Places}
use Rattle.scc_semantics.specs.Scene.{Names}
use Rattle.scc_semantics.specs.Body as machine
use Rattle.scc_semantics.specs.Body.{Body}
use Rattle.scc_semantics.specs.Value.{Held}
use Rattle.scc_semantics.specs.Machine.{Frames, Stop, Go, Mark, Outcome, Suspended, Unfinished, Next, act, idle, run}
use Rattle.scc_semantics_laws.specs.Words.{PlainFrames}
use Rattle.scc_semantics_laws.proofs.Blind.{run-blind}
use Rattle.scc_core_spec.specs.Term.{Left, Pick, place_at}
use Rattle.scc_core_spec.specs.Code.{Code, Declared, Assigned, End, Put, Aim, If, Block, Loop, Exit, Wait}
use Rattle.scc_core_spec.specs.Program.{Program, Process}
use Rattle.scc_core_spec.specs.First.{refused}
use Rattle.scc_core_spec.specs.Resolved.{Leads, Tried, Made, Stopped, and_made, made_map, sure, resolved, walked, looked}
use Rattle.scc_core_spec.specs.Unpointed.{unpointed, aimed, declares, resolved_pick, resolved_count, of_assigned}
use Rattle.scc_core_spec.specs.Source.{Home}
use Rattle.scc_blocks_spec.specs.Passed.{IsHome}
use Rattle.scc_blocks_spec.specs.Comes.{next_waits, next_points}
use Rattle.scc_core_unroll_laws.specs.Unrolling.{Around, own, go, Keeps}
use Rattle.scc_core_unroll_laws.specs.Named.{IsNamed}
use Rattle.scc_core_pass_laws.specs.Pointing.{Apart, Known, leads_of, w_of}
use Rattle.scc_core_pass_laws.specs.Resolving.{Locals, Code-body, Resolves, Beneath, beneath_stop, beneath_go, Matching, matching_stop, matching_go, Stayed, Beside}
use Rattle.scc_core_pass_laws.proofs.Resolve.{iter, follows}
use Rattle.scc_core_pass_laws.proofs.Pointless.{made-is, stopped-not, and-is, made-map-is, sure-is}

-- a list in which statements are left
abbrev pub IsFull : machine.Body → Type 0
IsFull machine.End = ⊥
IsFull _ = Unit {0}

-- statements are left in both lists; the next one is a wait in both or in neither, and assigns no pointer
abbrev pub IsHeads : machine.Body → machine.Body → Type 0
IsHeads b b' = IsFull b × IsFull b' × ((mark mark' : Mark) (m : Names) (k k' : Frames) → next_waits (Go mark m b k) ≡ next_waits (Go mark' m b' k')) × ((mark : Mark) (m : Names) (k : Frames) → next_points (Go mark m b k) ≡ false)

-- without the empty lists before them
abbrev pub popped : Frames → Frames
popped Stop = Stop
popped (Go mark m machine.End k) = popped k
popped (Go mark m b k) = Go mark m b k

popped-full : (mark : Mark) (m : Names) (b : machine.Body) (k : Frames) → IsFull b → popped (Go mark m b k) ≡ Go mark m b k
popped-full mark m machine.End k h = absurd h
popped-full mark m (machine.Assign l p e r) k h = refl
popped-full mark m (machine.Point declares l t r) k h = refl
popped-full mark m (machine.Clear l r) k h = refl
popped-full mark m (machine.If t a b r) k h = refl
popped-full mark m (machine.Block b r) k h = refl
popped-full mark m (machine.Loop b r) k h = refl
popped-full mark m (machine.Exit n r) k h = refl
popped-full mark m (machine.Call number object enter function r) k h = refl
popped-full mark m (machine.Begin r) k h = refl
popped-full mark m (machine.Pass n x r) k h = refl
popped-full mark m (machine.Return v r) k h = refl
popped-full mark m (machine.Wait number count r) k h = refl

pub waits-popped : (f : Frames) → next_waits (popped f) ≡ next_waits f
waits-popped Stop = refl
waits-popped (Go mark m machine.End k) = waits-popped k
waits-popped (Go mark m (machine.Assign l p e r) k) = refl
waits-popped (Go mark m (machine.Point declares l t r) k) = refl
waits-popped (Go mark m (machine.Clear l r) k) = refl
waits-popped (Go mark m (machine.If t a b r) k) = refl
waits-popped (Go mark m (machine.Block b r) k) = refl
waits-popped (Go mark m (machine.Loop b r) k) = refl
waits-popped (Go mark m (machine.Exit n r) k) = refl
waits-popped (Go mark m (machine.Call number object enter function r) k) = refl
waits-popped (Go mark m (machine.Begin r) k) = refl
waits-popped (Go mark m (machine.Pass n x r) k) = refl
waits-popped (Go mark m (machine.Return v r) k) = refl
waits-popped (Go mark m (machine.Wait number count r) k) = refl

pub points-popped : (f : Frames) → next_points (popped f) ≡ next_points f
points-popped Stop = refl
points-popped (Go mark m machine.End k) = points-popped k
points-popped (Go mark m (machine.Assign l p e r) k) = refl
points-popped (Go mark m (machine.Point declares l t r) k) = refl
points-popped (Go mark m (machine.Clear l r) k) = refl
points-popped (Go mark m (machine.If t a b r) k) = refl
points-popped (Go mark m (machine.Block b r) k) = refl
points-popped (Go mark m (machine.Loop b r) k) = refl
points-popped (Go mark m (machine.Exit n r) k) = refl
points-popped (Go mark m (machine.Call number object enter function r) k) = refl
points-popped (Go mark m (machine.Begin r) k) = refl
points-popped (Go mark m (machine.Pass n x r) k) = refl
points-popped (Go mark m (machine.Return v r) k) = refl
points-popped (Go mark m (machine.Wait number count r) k) = refl

pub popped-popped : (f : Frames) → popped (popped f) ≡ popped f
popped-popped Stop = refl
popped-popped (Go mark m machine.End k) = popped-popped k
popped-popped (Go mark m (machine.Assign l p e r) k) = refl
popped-popped (Go mark m (machine.Point declares l t r) k) = refl
popped-popped (Go mark m (machine.Clear l r) k) = refl
popped-popped (Go mark m (machine.If t a b r) k) = refl
popped-popped (Go mark m (machine.Block b r) k) = refl
popped-popped (Go mark m (machine.Loop b r) k) = refl
popped-popped (Go mark m (machine.Exit n r) k) = refl
popped-popped (Go mark m (machine.Call number object enter function r) k) = refl
popped-popped (Go mark m (machine.Begin r) k) = refl
popped-popped (Go mark m (machine.Pass n x r) k) = refl
popped-popped (Go mark m (machine.Return v r) k) = refl
popped-popped (Go mark m (machine.Wait number count r) k) = refl

pub plain-popped : (f : Frames) → PlainFrames f → PlainFrames (popped f)
plain-popped Stop h = h
plain-popped (Go mark m machine.End k) h = plain-popped k h.1
plain-popped (Go mark m (machine.Assign l p e r) k) h = h
plain-popped (Go mark m (machine.Point declares l t r) k) h = h
plain-popped (Go mark m (machine.Clear l r) k) h = h
plain-popped (Go mark m (machine.If t a b r) k) h = h
plain-popped (Go mark m (machine.Block b r) k) h = h
plain-popped (Go mark m (machine.Loop b r) k) h = h
plain-popped (Go mark m (machine.Exit n r) k) h = h
plain-popped (Go mark m (machine.Call number object enter function r) k) h = h
plain-popped (Go mark m (machine.Begin r) k) h = h
plain-popped (Go mark m (machine.Pass n x r) k) h = h
plain-popped (Go mark m (machine.Return v r) k) h = h
plain-popped (Go mark m (machine.Wait number count r) k) h = h

module _ (places : Places) (signals : Location → ℕ) where
  abbrev still : Next
  still = idle places (λ f. machine.End) signals

  pub act-popped : (next : Next) (f : Frames) (a : Held) → act places (λ f. machine.End) signals next (popped f) a ≡ act places (λ f. machine.End) signals next f a
  act-popped next Stop a = refl
  act-popped next (Go mark m machine.End k) a = act-popped next k a
  act-popped next (Go mark m (machine.Assign l p e r) k) a = refl
  act-popped next (Go mark m (machine.Point declares l t r) k) a = refl
  act-popped next (Go mark m (machine.Clear l r) k) a = refl
  act-popped next (Go mark m (machine.If t u v r) k) a = refl
  act-popped next (Go mark m (machine.Block b r) k) a = refl
  act-popped next (Go mark m (machine.Loop b r) k) a = refl
  act-popped next (Go mark m (machine.Exit n r) k) a = refl
  act-popped next (Go mark m (machine.Call number object enter function r) k) a = refl
  act-popped next (Go mark m (machine.Begin r) k) a = refl
  act-popped next (Go mark m (machine.Pass n x r) k) a = refl
  act-popped next (Go mark m (machine.Return v r) k) a = refl
  act-popped next (Go mark m (machine.Wait number count r) k) a = refl

  idle-full : (mark : Mark) (m : Names) (b : machine.Body) (k : Frames) (a : Held) → IsFull b → still (Go mark m b k) a ≡ Unfinished
  idle-full mark m machine.End k a h = absurd h
  idle-full mark m (machine.Assign l p e r) k a h = refl
  idle-full mark m (machine.Point declares l t r) k a h = refl
  idle-full mark m (machine.Clear l r) k a h = refl
  idle-full mark m (machine.If t u v r) k a h = refl
  idle-full mark m (machine.Block b r) k a h = refl
  idle-full mark m (machine.Loop b r) k a h = refl
  idle-full mark m (machine.Exit n r) k a h = refl
  idle-full mark m (machine.Call number object enter function r) k a h = refl
  idle-full mark m (machine.Begin r) k a h = refl
  idle-full mark m (machine.Pass n x r) k a h = refl
  idle-full mark m (machine.Return v r) k a h = refl
  idle-full mark m (machine.Wait number count r) k a h = refl

module _ (home : Home) (p : Program) (constant : Location → Option ℕ) (i : ℕ) (q : Process) where
  abbrev w : Around
  w = w_of home p constant i q

  abbrev B : Code → Body
  B c = Code-body home p constant i q c

  abbrev lead : Locals → Leads
  lead local = leads_of home p constant i q local

  abbrev lead-more : Locals → ℕ → Option Left → Locals
  lead-more local j o m = if nat_eq m j then Some o else local m

  abbrev Full : Code → Code → Type 0
  Full c d = ((c ≡ End) × (d ≡ End)) ⊎ IsHeads (B c) (B d)

  full-both : (local : Locals) (c d : Code) → Resolves home p constant i q local c d → Full c d
  full-both local End d res = inl (refl, sym (made-is res.made))
  full-both local (Put o l j e r) d res =
      let s = lead local in
      let f : Left → Pick → Tried Code = λ l k. and_made (resolved s e) (λ e. made_map (Put o l k e) (unpointed s r)) in
      let a1 = and-is (walked s false l) (λ u. sure (place_at l) u (λ m. and_made (resolved_pick s j) (λ k. and_made (looked s m) (λ m. f m k)))) d res.made in
      let b1 = sure-is (place_at l) a1.0 (λ m. and_made (resolved_pick s j) (λ k. and_made (looked s m) (λ m. f m k))) d a1.2 in
      let c1 = and-is (resolved_pick s j) (λ k. and_made (looked s b1.0) (λ m. f m k)) d b1.2 in
      let d1 = and-is (looked s b1.0) (λ m. f m c1.0) d c1.2 in
      let e1 = and-is (resolved s e) (λ e. made_map (Put o d1.0 c1.0 e) (unpointed s r)) d d1.2 in
      let f1 = made-map-is (Put o d1.0 c1.0 e1.0) (unpointed s r) d e1.2 in
      inr (subst (λ d. IsHeads (B (Put o l j e r)) (B d)) f1.2 (tt, tt, (λ mark mark' m k k'. refl), (λ mark m k. refl)))
  full-both local (Aim o (Declared j) t r) d res =
      let s = lead local in
      let y = and-is (aimed s t) (λ u. if declares s j then made_map (Block o End) (unpointed (lead (lead-more local j u)) r) else Stopped (refused reason.PointerAssigned o)) d res.made in
      by (declares s j) (unpointed (lead (lead-more local j y.0)) r) y.2
    where
      by : (b : Bool) (u : Tried Code) → (if b then made_map (Block o End) u else Stopped (refused reason.PointerAssigned o)) ≡ Made d → Full (Aim o (Declared j) t r) d
      by true u e = let z = made-map-is (Block o End) u d e in inr (subst (λ d. IsHeads (B (Aim o (Declared j) t r)) (B d)) z.2 (tt, tt, (λ mark mark' m k k'. refl), (λ mark m k. refl)))
      by false u e = absurd (stopped-not (refused reason.PointerAssigned o) d e)
  full-both local (Aim o (Assigned l) t r) d res = absurd (stopped-not (of_assigned o (walked (lead local) false l)) d res.made)
  full-both local (If o t x y r) d res =
      let s = lead local in
      let a1 = and-is (resolved s t) (λ t. and_made (unpointed s x) (λ a. and_made (unpointed s y) (λ b. made_map (If o t a b) (unpointed s r)))) d res.made in
      let b1 = and-is (unpointed s x) (λ a. and_made (unpointed s y) (λ b. made_map (If o a1.0 a b) (unpointed s r))) d a1.2 in
      let c1 = and-is (unpointed s y) (λ b. made_map (If o a1.0 b1.0 b) (unpointed s r)) d b1.2 in
      let d1 = made-map-is (If o a1.0 b1.0 c1.0) (unpointed s r) d c1.2 in
      inr (subst (λ d. IsHeads (B (If o t x y r)) (B d)) d1.2 (tt, tt, (λ mark mark' m k k'. refl), (λ mark m k. refl)))
  full-both local (Block o x r) d res =
      let s = lead local in
      let a1 = and-is (unpointed s x) (λ b. made_map (Block o b) (unpointed s r)) d res.made in
      let d1 = made-map-is (Block o a1.0) (unpointed s r) d a1.2 in
      inr (subst (λ d. IsHeads (B (Block o x r)) (B d)) d1.2 (tt, tt, (λ mark mark' m k k'. refl), (λ mark m k. refl)))
  full-both local (Loop o c x r) d res =
      let s = lead local in
      let a1 = and-is (unpointed s x) (λ b. made_map (Loop o (option_map (resolved_count s) c) b) (unpointed s r)) d res.made in
      let d1 = made-map-is (Loop o (option_map (resolved_count s) c) a1.0) (unpointed s r) d a1.2 in
      inr (subst (λ d. IsHeads (B (Loop o c x r)) (B d)) d1.2 (tt, tt, (λ mark mark' m k k'. refl), (λ mark m k. refl)))
  full-both local (Exit o j r) d res =
      let d1 = made-map-is (Exit o j) (unpointed (lead local) r) d res.made in inr (subst (λ d. IsHeads (B (Exit o j r)) (B d)) d1.2 (tt, tt, (λ mark mark' m k k'. refl), (λ mark m k. refl)))
  full-both local (Wait o l c r) d res =
      let d1 = made-map-is (Wait o l c) (unpointed (lead local) r) d res.made in inr (subst (λ d. IsHeads (B (Wait o l c r)) (B d)) d1.2 (tt, tt, (λ mark mark' m k k'. refl), (λ mark m k. refl)))

  -- the next statement is a wait on both sides or on neither, and assigns no pointer
  beneath-heads : (local : Locals) {k k' : Frames} → Beneath home p constant i q local k k' → (next_waits k ≡ next_waits k') × (next_points k ≡ false)
  beneath-heads local beneath_stop = (refl, refl)
  beneath-heads local (beneath_go {k = k} {k' = k'} mark old c d sub r b) = by (full-both old c d r) (beneath-heads old b)
    where
      by : Full c d → (next_waits k ≡ next_waits k') × (next_points k ≡ false) → (next_waits (Go mark (own w) (B c) k) ≡ next_waits (Go mark (own w) (B d) k')) × (next_points (Go mark (own w) (B c) k) ≡ false)
      by (inl e) h = (
        subst (λ c. next_waits (Go mark (own w) (B c) k) ≡ next_waits (Go mark (own w) (B d) k')) (sym e.0) (subst (λ d. next_waits k ≡ next_waits (Go mark (own w) (B d) k')) (sym e.1) h.0),
        subst (λ c. next_points (Go mark (own w) (B c) k) ≡ false) (sym e.0) h.1,
      )
      by (inr e) h = (e.2 mark mark (own w) k k', e.3 mark (own w) k)

  pub matching-heads : (local : Locals) {f f' : Frames} → Matching home p constant i q local f f' → (next_waits f ≡ next_waits f') × (next_points f ≡ false)
  matching-heads local matching_stop = (refl, refl)
  matching-heads local (matching_go {k = k} {k' = k'} mark mark' c d r b) = by (full-both local c d r) (beneath-heads local b)
    where
      by : Full c d → (next_waits k ≡ next_waits k') × (next_points k ≡ false) → (next_waits (Go mark (own w) (B c) k) ≡ next_waits (Go mark' (own w) (B d) k')) × (next_points (Go mark (own w) (B c) k) ≡ false)
      by (inl e) h = (
        subst (λ c. next_waits (Go mark (own w) (B c) k) ≡ next_waits (Go mark' (own w) (B d) k')) (sym e.0) (subst (λ d. next_waits k ≡ next_waits (Go mark' (own w) (B d) k')) (sym e.1) h.0),
        subst (λ c. next_points (Go mark (own w) (B c) k) ≡ false) (sym e.0) h.1,
      )
      by (inr e) h = (e.2 mark mark' (own w) k k', e.3 mark (own w) k)

  module _ (start : Location → Option Location) (bottom : Next) (pops : (mark : Mark) (k : Frames) (a : Held) → bottom (Go mark (own w) machine.End k) a ≡ bottom k a) (out : Frames → Held → Outcome)
      (full : (mark : Mark) (b : Body) (k : Frames) (a : Held) → IsFull b → bottom (Go mark (own w) b k) a ≡ out (Go mark (own w) b k) a)
      (outs : (local : Locals) (f f' : Frames) (a : Held) → Matching home p constant i q local f f' → Known home p constant i q local a.store.targets → Stayed home p constant i q start a.store.targets → Beside home p constant i q start (out f a) (out f' a))
      (stops : (local : Locals) (a : Held) → Known home p constant i q local a.store.targets → Stayed home p constant i q start a.store.targets → Beside home p constant i q start (bottom Stop a) (bottom Stop a)) where
    abbrev Rests : Frames → Frames → Held → Type 0
    Rests f f' a = Beside home p constant i q start (bottom f a) (bottom f' a)

    list : (local : Locals) (mark mark' : Mark) {k k' : Frames} (c d : Code) (a : Held) → Resolves home p constant i q local c d → Beneath home p constant i q local k k' → Known home p constant i q local a.store.targets → Stayed home p constant i q start a.store.targets
        → Rests k k' a → Rests (Go mark (own w) (B c) k) (Go mark' (own w) (B d) k') a
    list local mark mark' {k} {k'} c d a res below known stayed rest = by (full-both local c d res)
      where
        by : Full c d → Rests (Go mark (own w) (B c) k) (Go mark' (own w) (B d) k') a
        by (inl e) = subst (λ c. Rests (Go mark (own w) (B c) k) (Go mark' (own w) (B d) k') a) (sym e.0) (subst (λ d. Rests (Go mark (own w) machine.End k) (Go mark' (own w) (B d) k') a) (sym e.1)
            (subst (λ x. Beside home p constant i q start x (bottom (Go mark' (own w) machine.End k') a)) (sym (pops mark k a)) (subst (λ z. Beside home p constant i q start (bottom k a) z) (sym (pops mark' k' a)) rest)))
        by (inr e) = subst (λ x. Beside home p constant i q start x (bottom (Go mark' (own w) (B d) k') a)) (sym (full mark (B c) k a e.0))
            (subst (λ z. Beside home p constant i q start (out (Go mark (own w) (B c) k) a) z) (sym (full mark' (B d) k' a e.1)) (outs local (Go mark (own w) (B c) k) (Go mark' (own w) (B d) k') a (matching_go mark mark' c d res below) known stayed))

    lists : (local : Locals) {k k' : Frames} (a : Held) → Beneath home p constant i q local k k' → Known home p constant i q local a.store.targets → Stayed home p constant i q start a.store.targets → Rests k k' a
    lists local a beneath_stop known stayed = stops local a known stayed
    lists local a (beneath_go mark old c d sub r b) known stayed =
        let k : Known home p constant i q old a.store.targets = record { here = λ n c t at ptr e. known.here n c t at ptr (sub n t e); ours = λ n c t at e. known.ours n c t at (sub n t e); top = known.top } in
        list old mark mark c d a r b k stayed (lists old a b k stayed)

    rests : (local : Locals) (f f' : Frames) (a : Held) → Matching home p constant i q local f f' → Known home p constant i q local a.store.targets → Stayed home p constant i q start a.store.targets → Rests f f' a
    rests local f f' a matching_stop known stayed = stops local a known stayed
    rests local f f' a (matching_go mark mark' c d r b) known stayed = list local mark mark' c d a r b known stayed (lists local a b known stayed)

  module _ (is_home : IsHome home) (named : IsNamed p) (apart : Apart home p i q) (signals : Location → ℕ) (start : Location → Option Location) (at : slice_get p.processes i ≡ Some q) where
    abbrev idles : Next
    idles = idle w.places (λ f. machine.End) signals

    -- a run
    iter-run : (n : ℕ) → iter home is_home p constant i q named apart signals start idles (λ mark k a. refl) (λ t g h x. run-blind w.places (λ f. machine.End) signals t 0 g h x) n ≡ run w.places (λ f. machine.End) signals n
    iter-run zero = λ z f a. idles f a
    iter-run (suc n) = λ z f a. act w.places (λ f. machine.End) signals (iter-run n z) f a

    pub run-follows : (n : ℕ) (local : Locals) (f f' : Frames) (a : Held) → Matching home p constant i q local f f' → Known home p constant i q local a.store.targets → Stayed home p constant i q start a.store.targets → Keeps w signals f' a
        → Beside home p constant i q start (go w signals n f a) (go w signals n f' a)
    run-follows n local f f' a m known stayed keep = subst (λ x. Beside home p constant i q start (x f a) (x f' a)) (iter-run n)
        (follows home is_home p constant i q named apart signals start idles (λ mark k a. refl) (λ t g h x. run-blind w.places (λ f. machine.End) signals t 0 g h x) at
        (λ local f f' a m known stayed keep. rests start idles (λ mark k a. refl) (λ f a. Unfinished) (λ mark b k a h. idle-full w.places signals mark (own w) b k a h) (λ local f f' a m known stayed. tt)
        (λ local a known stayed. (local, (refl, refl), known, stayed)) local f f' a m known stayed)
        n local f f' a m known stayed keep)

    -- one statement, with no empty list before what is left
    -- what stands so without the empty lists, from pointers that stay
    pub matching-popped : (local : Locals) (f f' : Frames) (a : Held) → Matching home p constant i q local f f' → Known home p constant i q local a.store.targets → Stayed home p constant i q start a.store.targets
        → Beside home p constant i q start (Suspended (popped f) a) (Suspended (popped f') a)
    matching-popped local f f' a m known stayed = rests start (λ f a. Suspended (popped f) a) (λ mark k a. refl) (λ f a. Suspended f a) (λ mark b k a h. ap (λ f. Suspended f a) (popped-full mark (own w) b k h))
        (λ local f f' a m known stayed. (local, (refl, refl), m, known, stayed)) (λ local a known stayed. (local, (refl, refl), matching_stop, known, stayed)) local f f' a m known stayed

    pub once-follows : (local : Locals) (f f' : Frames) (a : Held) → Matching home p constant i q local f f' → Known home p constant i q local a.store.targets → Stayed home p constant i q start a.store.targets → Keeps w signals f' a
        → Beside home p constant i q start (act w.places (λ f. machine.End) signals (λ f a. Suspended (popped f) a) f a) (act w.places (λ f. machine.End) signals (λ f a. Suspended (popped f) a) f' a)
    once-follows local f f' a m known stayed keep =
        follows home is_home p constant i q named apart signals start (λ f a. Suspended (popped f) a) (λ mark k a. refl) (λ t g h x. record { same = refl; plain = plain-popped g x }) at
        (λ local f f' a m known stayed keep. matching-popped local f f' a m known stayed)
        1 local f f' a m known stayed keep
