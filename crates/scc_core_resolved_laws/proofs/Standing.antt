-- Frames of a resolved core's process, and what a run of them comes to.
use Rattle.std.proofs.Common.{◌≡◌, ℕ, zero, suc, Bool, true, false, ◌&&◌, ◌||◌, Option, Some, None, refl, sym, ap, subst, ◌∙◌}
use Rattle.std.specs.Prelude.{nat_lt}
use Rattle.scc_base.specs.declared.refusal.Place.{Place}
use Rattle.scc_semantics.specs.Location.{Location}
use Rattle.scc_semantics.specs.Scene.{followed}
use Rattle.scc_semantics.specs.Body as machine
use Rattle.scc_semantics.specs.Body.{Body}
use Rattle.scc_semantics.specs.Design.{Design}
use Rattle.scc_semantics.specs.Value.{Held, locate, value, put_at}
use Rattle.scc_semantics.specs.Machine.{Mark, Inner, BehindBlock, Frames, Stop, Go, Outcome, Suspended, Ended, Stuck, Unfinished, Next, leave, pick, one_less, waiting, unless_stuck, act, idle, run, after}
use Rattle.scc_semantics.specs.Run.{FitsThing}
use Rattle.scc_semantics.specs.Start.{IsProper}
use Rattle.scc_core_spec.specs.Term.{Term, kind_of}
use Rattle.scc_core_spec.specs.Code.{Code, Count, End, Put, Aim, If, Block, Loop, Exit, Wait}
use Rattle.scc_core_spec.specs.Program.{Program, Process}
use Rattle.scc_core_spec.specs.Static.{goes, is_true}
use Rattle.scc_core_spec.specs.Live.{Alive, alive, then_alive, by_test, looped, shut}
use Rattle.scc_core_spec.specs.Source.{Home, source_of, left_of, expr_of, pick_of, body_of}
use Rattle.scc_blocks_spec.specs.Tied.{own_names}
use Rattle.scc_blocks_spec.specs.Comes.{next_points}
use Rattle.scc_states_path_laws.specs.Moved.{World, around}
use Rattle.scc_states_laws.specs.Processes.{world_of}
use Rattle.scc_states_laws.specs.Alike.{TellsApart}
use Rattle.scc_states_laws.proofs.Statics.{tests_hold}
use Rattle.scc_states_laws.proofs.Values.{some_same}
use Rattle.scc_core_spec.specs.Fit.{fit_term, fit_put, fit_code}
use Rattle.scc_core_spec.specs.IsResolved.{IsResolved}
use Rattle.scc_core_resolved_laws.proofs.Bools.{and-first, and-second, and-both, nat_eq-self, nat_lt-some}
use Rattle.scc_core_resolved_laws.proofs.Fitting.{code-fits, put-parts}
use Rattle.scc_core_resolved_laws.proofs.Parts.{cells-apart}
use Rattle.scc_core_resolved_laws.proofs.Valued.{value-fits}
use Rattle.scc_core_resolved_laws.proofs.Assigned.{Proper, IsFree, holds-fixed, put-ok}
use Rattle.scc_core_resolved_laws.proofs.Writes.{Frees, chosen_of}

loop-ends : (e : Bool) (p : Place) (n : Option Count) (x : Alive) (m : ℕ) → x.leaves m ≡ true → (looped e p n x).leaves m ≡ true
loop-ends true p n x m h = h
loop-ends false p n x m h = h

or-left : (a b : Bool) → a ≡ true → (a || b) ≡ true
or-left true b h = refl
or-left false b h = absurd cc

or-right : (a b : Bool) → b ≡ true → (a || b) ≡ true
or-right true b h = refl
or-right false b h = h

module _ (home : Home) (constant : Location → Option ℕ) (p : Program) (i : ℕ) (q : Process) where
  abbrev D : Design
  D = source_of home p constant

  abbrev pub FreesHere : Code → Type 0
  FreesHere = Frees p.cells (IsFree constant home p)

  abbrev B : Code → Body
  B = body_of home p.cells i

  -- frames of the process: each list fits, what its live part writes is free, and what follows it stands where a path comes there
  pub data Stands : Frames → Type 0 where
    stops : Stands Stop
    goes_on : {k : Frames} → (mark : Mark) (c : Code) → fit_code p.cells q c ≡ true → FreesHere c → ((alive p.cells c).ends ≡ true → Stands k)
        → ((n : ℕ) → (alive p.cells c).leaves n ≡ true → Stands (leave n k)) → Stands (Go mark (own_names i) (B c) k)

  abbrev pub Shape : Frames → Type 0
  Shape Stop = Unit {0}
  Shape (Go mark m b k) = (c : Code) × (own_names i ≡ m) × (B c ≡ b) × (fit_code p.cells q c ≡ true) × FreesHere c × ((alive p.cells c).ends ≡ true → Stands k) × ((n : ℕ) → (alive p.cells c).leaves n ≡ true → Stands (leave n k))

  pub shape : (f : Frames) → Stands f → Shape f
  shape f stops = tt
  shape f (goes_on mark c fit free ends leaves) = (c, refl, refl, fit, free, ends, leaves)

  unfoldable pub Fine : Outcome → Type 0
  Fine (Suspended f h) = Stands f × Proper D h
  Fine (Ended h) = Proper D h
  Fine (Stuck h) = Proper D h
  Fine Unfinished = Unit {0}

  -- what follows a compound statement
  follows : (e : Bool) (x : Alive) (r : Code) (k : Frames) (mark : Mark) → x.ends ≡ e → fit_code p.cells q r ≡ true → (x.ends ≡ true → FreesHere r) → ((then_alive e x (alive p.cells r)).ends ≡ true → Stands k)
      → ((n : ℕ) → (then_alive e x (alive p.cells r)).leaves n ≡ true → Stands (leave n k)) → (x.ends ≡ true → Stands (Go mark (own_names i) (B r) k)) × ((n : ℕ) → x.leaves n ≡ true → Stands (leave n k))
  follows true x r k mark e fit free ends leaves = (
    λ t. goes_on mark r fit (free t) ends (λ n l. leaves n (or-right (x.leaves n) ((alive p.cells r).leaves n) l)),
    λ n l. leaves n (or-left (x.leaves n) ((alive p.cells r).leaves n) l),
  )
  follows false x r k mark e fit free ends leaves = (λ t. clash (sym t ∙ e), λ n l. leaves n l)
    where
      clash : {A : Type 0} → true ≡ false → A
      clash h = absurd cc

  module _ (signals : Location → ℕ) (apart : TellsApart home p i q) (r : IsResolved p) (shown : IsProper D signals) where
    abbrev W : World
    W = world_of home constant p i signals

    abbrev A : Next → Next
    A = act W.places W.functions signals

    unless-fine : {X : Type 0} (h : Held) (o : Option X) (f : X → Outcome) → Proper D h → ((x : X) → o ≡ Some x → Fine (f x)) → Fine (unless_stuck h o f)
    unfolding Fine
    unless-fine h None f ok g = ok
    unless-fine h (Some x) f ok g = g x refl

    waits-fine : (p' : Place) (l left : ℕ) (c : Code) (k : Frames) → Stands (Go Inner (own_names i) (B c) k) → fit_code p.cells q c ≡ true → FreesHere c → ((alive p.cells c).ends ≡ true → Stands k)
        → ((n : ℕ) → (alive p.cells c).leaves n ≡ true → Stands (leave n k)) → Stands (waiting l left (Go Inner (own_names i) (B c) k))
    waits-fine p' l zero c k s fit free ends leaves = s
    waits-fine p' l (suc left) c k s fit free ends leaves = goes_on Inner (Wait p' l (suc left) c) (and-both (nat_lt 0 (suc left)) (fit_code p.cells q c) (nat_lt-some left) fit) free ends leaves

    -- a test goes one of the ways that paths go
    branch : (o : Place) (t : Term) (a b : Code) (x : ℕ) (g : Option Bool) → ((y : Bool) → g ≡ Some y → is_true x ≡ y) → (k : Frames)
        → fit_code p.cells q a ≡ true → fit_code p.cells q b ≡ true → chosen_of p.cells (IsFree constant home p) g (FreesHere a) (FreesHere b)
        → ((by_test g o t (alive p.cells a) (alive p.cells b)).ends ≡ true → Stands k) → ((n : ℕ) → (by_test g o t (alive p.cells a) (alive p.cells b)).leaves n ≡ true → Stands (leave n k))
        → Stands (Go Inner (own_names i) (pick x (B a) (B b)) k)
    branch o t a b (suc x) (Some true) is k fa fb free ends leaves = goes_on Inner a fa free ends leaves
    branch o t a b zero (Some true) is k fa fb free ends leaves = let e = is true refl in absurd cc
    branch o t a b zero (Some false) is k fa fb free ends leaves = goes_on Inner b fb free ends leaves
    branch o t a b (suc x) (Some false) is k fa fb free ends leaves = let e = is false refl in absurd cc
    branch o t a b (suc x) None is k fa fb free ends leaves = goes_on Inner a fa free.0 (λ e. ends (or-left (alive p.cells a).ends (alive p.cells b).ends e)) (λ n e. leaves n (or-left ((alive p.cells a).leaves n) ((alive p.cells b).leaves n) e))
    branch o t a b zero None is k fa fb free ends leaves = goes_on Inner b fb free.1 (λ e. ends (or-right (alive p.cells a).ends (alive p.cells b).ends e)) (λ n e. leaves n (or-right ((alive p.cells a).leaves n) ((alive p.cells b).leaves n) e))

    fits-words : (h : Held) → Proper D h → (l : Location) → FitsThing (W.places.things l) (h.store.words l)
    unfolding Proper
    fits-words h ok = ok.0.fits

    tells : (h : Held) → Proper D h → (o : Place) (t : Term) (a b c : Code) → fit_code p.cells q (If o t a b c) ≡ true → (v : ℕ) → value (around W h) (expr_of home p.cells i t) ≡ Some v
        → (y : Bool) → goes p.cells t ≡ Some y → is_true v ≡ y
    tells h ok o t a b c fit v ev y e =
        let tests = tests_hold home constant p i q signals apart (If o t a b c) (code-fits p.cells q (cells-apart p r) (If o t a b c) fit) in
        let w = tests.0 h (holds-fixed D h ok) y e in
        ap is_true (some_same (sym ev ∙ w.1)) ∙ w.2

    out : (o : Place) (b c : Code) (k : Frames)
        → ((shut o (alive p.cells b)).ends ≡ true → Stands (Go Inner (own_names i) (B c) k)) × ((n : ℕ) → (shut o (alive p.cells b)).leaves n ≡ true → Stands (leave n k))
        → (n : ℕ) → (alive p.cells b).leaves n ≡ true → Stands (leave n (Go BehindBlock (own_names i) (B c) k))
    out o b c k y zero e = y.0 (or-right (alive p.cells b).ends ((alive p.cells b).leaves 0) e)
    out o b c k y (suc n) e = y.1 n e

    module _ (next : Next) (go : (f : Frames) (h : Held) → Stands f → Proper D h → Fine (next f h)) where
      fine-code : (mark : Mark) (c : Code) (k : Frames) (h : Held) → fit_code p.cells q c ≡ true → FreesHere c → ((alive p.cells c).ends ≡ true → Stands k) → ((n : ℕ) → (alive p.cells c).leaves n ≡ true → Stands (leave n k))
          → Proper D h → (Stands k → Fine (A next k h)) → Fine (A next (Go mark (own_names i) (B c) k) h)
      unfolding Fine
      fine-code mark End k h fit free ends leaves ok rest = rest (ends refl)
      fine-code mark (Put o l pk e c) k h fit free ends leaves ok rest =
          let u = put-parts p.cells q (cells-apart p r) l pk e (and-first (fit_put p.cells q l pk e) (fit_code p.cells q c) fit) in
          let last = and-second (fit_put p.cells q l pk e) (fit_code p.cells q c) fit in
          unless-fine h (value (around W h) (expr_of home p.cells i e)) _ ok (λ x ex.
          unless-fine h (followed (locate (around W h) (left_of home p.cells i l))) _ ok (λ m em.
          unless-fine h (put_at (W.places.things m) (around W h) h m (pick_of home p.cells i pk) x) _ ok (λ h' eh.
          go (Go Inner (own_names i) (B c) k) h' (goes_on Inner c last free.1 ends leaves)
          (put-ok home constant p i q signals apart r h h' l m pk (kind_of e) x u.left u.named u.sized free.0
          (value-fits home constant p i q signals apart r h (holds-fixed D h ok) (fits-words h ok) shown.fits e x u.term ex) ok em eh))))
      fine-code mark (Aim o to t c) k h fit free ends leaves ok rest = absurd cc
      fine-code mark (If o t a b c) k h fit free ends leaves ok rest =
          let f1 = and-second (fit_term p.cells q t) (fit_code p.cells q a && (fit_code p.cells q b && fit_code p.cells q c)) fit in
          let f2 = and-second (fit_code p.cells q a) (fit_code p.cells q b && fit_code p.cells q c) f1 in
          let fa = and-first (fit_code p.cells q a) (fit_code p.cells q b && fit_code p.cells q c) f1 in
          let fb = and-first (fit_code p.cells q b) (fit_code p.cells q c) f2 in
          let fc = and-second (fit_code p.cells q b) (fit_code p.cells q c) f2 in
          let x = by_test (goes p.cells t) o t (alive p.cells a) (alive p.cells b) in
          let z = follows x.ends x c k Inner refl fc free.1 ends leaves in
          unless-fine h (value (around W h) (expr_of home p.cells i t)) _ ok (λ v ev.
          go (Go Inner (own_names i) (pick v (B a) (B b)) (Go Inner (own_names i) (B c) k)) h
          (branch o t a b v (goes p.cells t) (tells h ok o t a b c fit v ev) (Go Inner (own_names i) (B c) k) fa fb free.0 z.0 z.1) ok)
      fine-code mark (Block o b c) k h fit free ends leaves ok rest =
          let x = shut o (alive p.cells b) in
          let fb = and-first (fit_code p.cells q b) (fit_code p.cells q c) fit in
          let fc = and-second (fit_code p.cells q b) (fit_code p.cells q c) fit in
          let z = follows x.ends x c k BehindBlock refl fc free.1 ends leaves in
          let y = follows x.ends x c k Inner refl fc free.1 ends leaves in
          go (Go Inner (own_names i) (B b) (Go BehindBlock (own_names i) (B c) k)) h
          (goes_on Inner b fb free.0 (λ e. z.0 (or-left (alive p.cells b).ends ((alive p.cells b).leaves 0) e)) (out o b c k y)) ok
      fine-code mark (Loop o n b c) k h fit free ends leaves ok rest =
          let fb = and-first (fit_code p.cells q b) (fit_code p.cells q c) fit in
          go (Go Inner (own_names i) (B b) (Go Inner (own_names i) (B (Loop o n b c)) k)) h
          (goes_on Inner b fb free (λ e. goes_on Inner (Loop o n b c) fit free ends leaves) (λ m e. leaves m (loop-ends (alive p.cells b).ends o n (alive p.cells b) m e))) ok
      fine-code mark (Exit o n c) k h fit free ends leaves ok rest = go (leave n k) h (leaves n (nat_eq-self n)) ok
      fine-code mark (Wait o l n c) k h fit free ends leaves ok rest =
          let fc = and-second (nat_lt 0 n) (fit_code p.cells q c) fit in
          (waits-fine o l (one_less n) c k (goes_on Inner c fc free ends leaves) fc free ends leaves, ok)

      pub fine : (f : Frames) (h : Held) → Stands f → Proper D h → Fine (A next f h)
      unfolding Fine
      fine Stop h s ok = ok
      fine (Go mark m b k) h s ok =
          let v = shape (Go mark m b k) s in
          subst (λ m. Fine (A next (Go mark m b k) h)) v.1
          (subst (λ b. Fine (A next (Go mark (own_names i) b k) h)) v.2 (fine-code mark v.0 k h v.3 v.4 v.5 v.6 ok (λ t. fine k h t ok)))

    idle-fine : (f : Frames) (h : Held) → Proper D h → Fine (idle W.places W.functions signals f h)
    unfolding Fine
    idle-fine Stop h ok = ok
    idle-fine (Go mark m machine.End k) h ok = idle-fine k h ok
    idle-fine (Go mark m b k) h ok = tt

    pub run-fine : (n : ℕ) (f : Frames) (h : Held) → Stands f → Proper D h → Fine (run W.places W.functions signals n f h)
    run-fine zero f h s ok = idle-fine f h ok
    run-fine (suc n) f h s ok = fine (run W.places W.functions signals n) (run-fine n) f h s ok

    stays-fine : (f : Frames) (h : Held) → Stands f → Proper D h → Fine (after W.places W.functions signals 0 f h)
    unfolding Fine
    stays-fine f h s ok = (s, ok)

    pub after-fine : (f : Frames) (h : Held) → Stands f → Proper D h → Fine (after W.places W.functions signals 1 f h)
    after-fine f h s ok = fine (after W.places W.functions signals 0) stays-fine f h s ok

  -- no pointer is assigned next
  points-code : (mark : Mark) (c : Code) (k : Frames) → fit_code p.cells q c ≡ true → ((alive p.cells c).ends ≡ true → next_points k ≡ false) → next_points (Go mark (own_names i) (B c) k) ≡ false
  points-code mark End k fit rest = rest refl
  points-code mark (Put o l pk e c) k fit rest = refl
  points-code mark (Aim o to t c) k fit rest = absurd cc
  points-code mark (If o t a b c) k fit rest = refl
  points-code mark (Block o b c) k fit rest = refl
  points-code mark (Loop o n b c) k fit rest = refl
  points-code mark (Exit o n c) k fit rest = refl
  points-code mark (Wait o l n c) k fit rest = refl

  pub points-nothing : (f : Frames) → Stands f → next_points f ≡ false
  points-nothing Stop s = refl
  points-nothing (Go mark m b k) s =
      let v = shape (Go mark m b k) s in
      subst (λ m. next_points (Go mark m b k) ≡ false) v.1
      (subst (λ b. next_points (Go mark (own_names i) b k) ≡ false) v.2 (points-code mark v.0 k v.3 (λ e. points-nothing k (v.5 e))))
