-- No pointer of a core's process leads to a local that no statement leads a pointer to, whatever the process comes to.
use Rattle.std.proofs.Common.{◌≡◌, ℕ, zero, suc, ◌+◌, ◌≤◌, Bool, true, false, Option, Some, None, if◌then◌else◌, refl, sym, ap, ◌∙◌, subst, arith}
use Rattle.scc_semantics.specs.Location.{Location, Top}
use Rattle.scc_semantics.specs.Store.{changed}
use Rattle.scc_semantics.specs.Scene.{followed}
use Rattle.scc_semantics.specs.Body as machine
use Rattle.scc_semantics.specs.Value.{Held, locate, value, put_at}
use Rattle.scc_semantics.specs.Machine.{Frames, Stop, Go, Mark, Inner, BehindBlock, BehindCall, Next, Outcome, Suspended, Ended, Stuck, unless_stuck, act, after, leave, pick, waiting, one_less, pointed_at}
use Rattle.scc_semantics.specs.Process.{first_frames}
use Rattle.scc_semantics.specs.Design.{Design, Process}
use Rattle.scc_semantics.specs.Same.{is_own, is_others}
use Rattle.scc_blocks_spec.specs.Comes.{Comes, begins, goes_on, resumes, restarts, repeats, elsewhere}
use Rattle.scc_core_spec.specs.Code.{Code, Declared, Assigned, End, Put, Aim, If, Block, Loop, Exit, Wait}
use Rattle.scc_core_spec.specs.Term as core
use Rattle.scc_core_spec.specs.Counted.{uses, own_at, is_it, times}
use Rattle.scc_core_spec.specs.Source.{left_of, expr_of, pick_of}
use Rattle.scc_core_unroll_laws.specs.Unrolling.{Around, own, scene_at, Counters, LeadsWell, B}
use Rattle.scc_core_unroll_laws.proofs.Untouched.{reach, led-well}
use Rattle.scc_inline_process_laws.proofs.Steps.{put-targets, followed-is}

-- what leads to places of the top alone is well led
pub top-well : (w : Around) → Counters w → (t : Location → Option Location) → ((l m : Location) → t l ≡ Some m → m.root ≡ Top) → LeadsWell w t
top-well w counters t top l m near e = (ap (is_others w.process) (top l m e), λ o few at. apart o (ap (λ l. l.root) (sym at) ∙ top l m e))
  where
    apart : (o : ℕ) → w.home w.process o ≡ Top → ⊥
    apart o e = let z : is_own w.process Top ≡ true = ap (is_own w.process) (sym e) ∙ counters.home.own w.process o in cc

module _ (w : Around) (counters : Counters w) where
  -- frames of parts of the process's body
  pub data Parts : Frames → Type 0 where
    parts_stop : Parts Stop
    parts_go : {k : Frames} → (mark : Mark) (c : Code) → ((o : ℕ) → uses w.setting.cells o c ≤ uses w.setting.cells o w.setting.body) → Parts k → Parts (Go mark (own w) (B w c) k)

  parts-leave : {k : Frames} (n : ℕ) → Parts k → Parts (leave n k)
  parts-leave n parts_stop = parts_stop
  parts-leave n (parts_go Inner c le r) = parts-leave n r
  parts-leave zero (parts_go BehindBlock c le r) = parts_go Inner c le r
  parts-leave (suc n) (parts_go BehindBlock c le r) = parts-leave n r
  parts-leave n (parts_go BehindCall c le r) = parts_go BehindCall c le r

  module _ (signals : Location → ℕ) (P : Outcome → Type 0) (next : Next) (a : Held) (leads : LeadsWell w a.store.targets)
      (on : (g : Frames) (b : Held) → Parts g → LeadsWell w b.store.targets → P (next g b)) (stuck : P (Stuck a)) (ended : P (Ended a)) (waits : (g : Frames) → Parts g → P (Suspended g a)) where
    there : {A : Type 0} (o : Option A) (f : A → Outcome) → ((x : A) → o ≡ Some x → P (f x)) → P (unless_stuck a o f)
    there None f t = stuck
    there (Some x) f t = t x refl

    pointed-well : (c : Bool) (l : Location) (z : Option Location) → LeadsWell w (if c then changed l z a.store.targets else a.store.targets) → LeadsWell w (pointed_at c a l z).store.targets
    pointed-well true l z e = e
    pointed-well false l z e = e

    aims : {k : Frames} (d : Bool) (l t : core.Left) (r : Code) → ((o : ℕ) → times 3 (is_it o (own_at w.setting.cells t)) + uses w.setting.cells o r ≤ uses w.setting.cells o w.setting.body) → Parts k
        → P (unless_stuck a (locate (scene_at w signals a) (left_of w.home w.setting.cells w.process t)) (λ z. unless_stuck a (followed (locate (scene_at w signals a) (left_of w.home w.setting.cells w.process l)))
        (λ m. next (Go Inner (own w) (B w r) k) (pointed_at (w.places.pointers m) a m z))))
    aims d l t r le ks = there (locate (scene_at w signals a) (left_of w.home w.setting.cells w.process t)) _ (λ z ez.
        there (followed (locate (scene_at w signals a) (left_of w.home w.setting.cells w.process l))) _ (λ m em.
        on _ _ (parts_go Inner r (λ o. let x = le o in let y = times 3 (is_it o (own_at w.setting.cells t)) in omega (arith, x)) ks)
        (pointed-well (w.places.pointers m) m z (led-well w counters signals a leads t (λ o. let x = le o in omega (arith, x)) (w.places.pointers m) m
        (reach w counters signals a leads l m (followed-is (locate (scene_at w signals a) (left_of w.home w.setting.cells w.process l)) m em)) z ez))))

    acts : {f : Frames} → Parts f → P (act w.places (λ f. machine.End) signals next f a)
    acts parts_stop = ended
    acts (parts_go mark End le ks) = acts ks
    acts (parts_go mark (Put p l k e r) le ks) = there (value (scene_at w signals a) (expr_of w.home w.setting.cells w.process e)) _ (λ x ex.
        there (followed (locate (scene_at w signals a) (left_of w.home w.setting.cells w.process l))) _ (λ m em.
        there (put_at (w.places.things m) (scene_at w signals a) a m (pick_of w.home w.setting.cells w.process k) x) _ (λ b eb.
        on _ b (parts_go Inner r (λ o. let y = le o in omega (arith, y)) ks)
        (subst (λ t. LeadsWell w t) (sym (put-targets (w.places.things m) (scene_at w signals a) a b m (pick_of w.home w.setting.cells w.process k) x eb)) leads))))
    acts (parts_go mark (Aim p (Declared n) t r) le ks) = aims true (core.Cell p n) t r le ks
    acts (parts_go mark (Aim p (Assigned l) t r) le ks) = aims false l t r le ks
    acts (parts_go {k = k} mark (If p t x y r) le ks) = there (value (scene_at w signals a) (expr_of w.home w.setting.cells w.process t)) _ (λ v ev. by v)
      where
        rest : Parts (Go Inner (own w) (B w r) k)
        rest = parts_go Inner r (λ o. let y = le o in omega (arith, y)) ks

        by : (v : ℕ) → P (next (Go Inner (own w) (pick v (B w x) (B w y)) (Go Inner (own w) (B w r) k)) a)
        by zero = on _ a (parts_go Inner y (λ o. let z = le o in omega (arith, z)) rest) leads
        by (suc v) = on _ a (parts_go Inner x (λ o. let z = le o in omega (arith, z)) rest) leads
    acts (parts_go mark (Block p x r) le ks) = on _ a (parts_go Inner x (λ o. let y = le o in omega (arith, y)) (parts_go BehindBlock r (λ o. let y = le o in omega (arith, y)) ks)) leads
    acts (parts_go mark (Loop p n x r) le ks) = on _ a (parts_go Inner x (λ o. let y = le o in omega (arith, y)) (parts_go Inner (Loop p n x r) le ks)) leads
    acts (parts_go mark (Exit p n r) le ks) = on _ a (parts-leave n ks) leads
    acts (parts_go {k = k} mark (Wait p l n r) le ks) = waits _ (by (one_less n))
      where
        by : (n : ℕ) → Parts (waiting l n (Go Inner (own w) (B w r) k))
        by zero = parts_go Inner r le ks
        by (suc n) = parts_go Inner (Wait p l (suc n) r) le ks

  module _ (d : Design) (places : d.places ≡ w.places) (functions : d.functions ≡ (λ f. machine.End)) (p : Process) (first : first_frames w.process p ≡ Go Inner (own w) (B w w.setting.body) Stop) (start : LeadsWell w d.targets) where
    at-first : Parts (first_frames w.process p)
    at-first = subst Parts (sym first) (parts_go Inner w.setting.body (λ o. omega arith) parts_stop)

    moved : (n : ℕ) (signals : Location → ℕ) (f : Frames) (h : Held) → after d.places d.functions signals n f h ≡ after w.places (λ f. machine.End) signals n f h
    moved n signals f h = ap (λ z. after z d.functions signals n f h) places ∙ ap (λ z. after w.places z signals n f h) functions

    goes : (signals : Location → ℕ) (f g : Frames) (h k : Held) → Parts f → LeadsWell w h.store.targets → after d.places d.functions signals 1 f h ≡ Suspended g k → Parts g × LeadsWell w k.store.targets
    goes signals f g h k ps leads e =
        acts signals (λ o. o ≡ Suspended g k → Parts g × LeadsWell w k.store.targets) (after w.places (λ f. machine.End) signals 0) h leads (λ g' b ps' lb z. same g' b ps' lb z) (λ z. cc) (λ z. cc) (λ g' ps' z. same g' h ps' leads z) ps
        (sym (moved 1 signals f h) ∙ e)
      where
        same : (g' : Frames) (b : Held) → Parts g' → LeadsWell w b.store.targets → Suspended g' b ≡ Suspended g k → Parts g × LeadsWell w k.store.targets
        same g' b ps' lb z = let x : g' ≡ g = cc in let y : b ≡ k = cc in (subst Parts x ps', subst (λ b. LeadsWell w b.store.targets) y lb)

    ends : (signals : Location → ℕ) (f : Frames) (h k : Held) → Parts f → LeadsWell w h.store.targets → after d.places d.functions signals 1 f h ≡ Ended k → LeadsWell w k.store.targets
    ends signals f h k ps leads e =
        acts signals (λ o. o ≡ Ended k → LeadsWell w k.store.targets) (after w.places (λ f. machine.End) signals 0) h leads (λ g' b ps' lb z. cc) (λ z. cc) (λ z. let y : h ≡ k = cc in subst (λ b. LeadsWell w b.store.targets) y leads) (λ g' ps' z. cc) ps
        (sym (moved 1 signals f h) ∙ e)

    -- whatever it comes to
    pub comes-well : {signals : Location → ℕ} {f : Frames} {h : Held} → Comes d w.process p signals f h → Parts f × LeadsWell w h.store.targets
    comes-well (begins signals words ps pw) = (at-first, start)
    comes-well (goes_on {signals = signals} {f = f} {g = g} {h = h} {k = k} c free e) = let x = comes-well c in goes signals f g h k x.0 x.1 e
    comes-well (resumes {old = old} {f = f} {g = g} {h = h} {k = k} signals words ps pw c wt e) = let x = comes-well c in goes old f g h k x.0 x.1 e
    comes-well (restarts signals words ps pw c wt) = let x = comes-well c in (at-first, x.1)
    comes-well (repeats {old = old} {f = f} {h = h} {k = k} signals words ps pw c e) = let x = comes-well c in (at-first, ends old f h k x.0 x.1 e)
    comes-well (elsewhere {h = h} others c) = let x = comes-well c in (x.0, λ l m near e. x.1 l m near (sym (ap (λ b. if b then others l else h.store.targets l) near) ∙ e))
