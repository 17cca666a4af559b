-- The frames behind each wait of a resolved core's thread stand, and follow no pointer.
use Rattle.std.proofs.Common.{◌≡◌, ℕ, zero, suc, Bool, true, false, ◌&&◌, List, [], ◌∷◌, ◌++◌, Option, Some, None, refl, sym, subst, ◌∙◌}
use Rattle.std.specs.Prelude.{nat_lt, slice_get}
use Rattle.scc_base.specs.declared.refusal.Place.{Place as Spot}
use Rattle.scc_semantics.specs.Body as machine
use Rattle.scc_semantics.specs.Body.{Body}
use Rattle.scc_semantics.specs.Machine.{Frames, Stop, Go, Mark, Inner, BehindBlock, leave, waiting}
use Rattle.scc_semantics_laws.specs.Words.{PlainFrames}
use Rattle.scc_core_spec.specs.Constants.{constants_of}
use Rattle.scc_core_spec.specs.Term.{Term}
use Rattle.scc_core_spec.specs.Code.{Code, Count, End, Put, Aim, If, Block, Loop, Exit, Wait}
use Rattle.scc_core_spec.specs.Fit.{fit_term, fit_put, fit_code}
use Rattle.scc_core_spec.specs.IsResolved.{IsResolved}
use Rattle.scc_core_spec.specs.Live.{Alive, alive, then_alive, by_test, looped, shut}
use Rattle.scc_core_spec.specs.Program.{Program, Process}
use Rattle.scc_core_spec.specs.Source.{Home, body_of}
use Rattle.scc_core_spec.specs.Static.{Cells, goes}
use Rattle.scc_blocks_spec.specs.Effect.{Place}
use Rattle.scc_blocks_spec.specs.Passed.{IsHome}
use Rattle.scc_blocks_spec.specs.Places.{live_ways, if_ends, ends_of, behind_waits, frames_at}
use Rattle.scc_blocks_spec.specs.Tied.{own_names}
use Rattle.scc_states_laws.proofs.Values.{some_same, map_is}
use Rattle.scc_core_resolved_laws.proofs.Assigned.{IsFree}
use Rattle.scc_core_resolved_laws.proofs.Bools.{and-first, and-second, and-both, nat_lt-some}
use Rattle.scc_core_resolved_laws.proofs.Fitting.{code-fits}
use Rattle.scc_core_resolved_laws.proofs.Freed.{written-free}
use Rattle.scc_core_resolved_laws.proofs.Parts.{cells-apart, code-fit}
use Rattle.scc_core_resolved_laws.proofs.Standing.{Stands, stops, shape}
use Rattle.scc_core_resolved_laws.proofs.Standing as standing
use Rattle.scc_core_resolved_laws.proofs.Steady.{plain-code}
use Rattle.scc_core_resolved_laws.proofs.Writes.{Frees, chosen_of, frees, or-left, or-right}

-- a compound statement with nothing behind it ends where it does
ends-itself : (e : Bool) (x : Alive) → x.ends ≡ e → (then_alive e x (record { code = End; ends = true; leaves = λ n. false })).ends ≡ true → x.ends ≡ true
ends-itself true x h t = h
ends-itself false x h t = t

loop-ends-nowhere : {A : Type 0} (e : Bool) (p : Spot) (n : Option Count) (x : Alive) → x.ends ≡ e → (looped e p n x).ends ≡ true → A
loop-ends-nowhere true p n x h t = absurd cc
loop-ends-nowhere false p n x h t = let f : true ≡ false = sym t ∙ h in absurd cc

module _ (home : Home) (is : IsHome home) (p : Program) (r : IsResolved p) (i : ℕ) (q : Process) (g : slice_get p.processes i ≡ Some q) where
  abbrev cs : Cells
  cs = p.cells

  abbrev B : Code → Body
  B = body_of home cs i

  abbrev F : Code → Type 0
  F = Frees cs (IsFree (constants_of home p) home p)

  abbrev pub S : Frames → Type 0
  S = Stands home (constants_of home p) p i q

  abbrev Both : Frames → Type 0
  Both f = S f × PlainFrames f

  abbrev AllBoth : List (ℕ × Frames) → Type 0
  AllBoth [] = Unit {0}
  AllBoth (w ∷ ws) = Both w.1 × AllBoth ws

  all-join : (xs ys : List (ℕ × Frames)) → AllBoth xs → AllBoth ys → AllBoth (xs ++ ys)
  all-join [] ys h k = k
  all-join (x ∷ xs) ys h k = (h.0, all-join xs ys h.1 k)

  all-at : (xs : List (ℕ × Frames)) (n : ℕ) (w : ℕ × Frames) → AllBoth xs → slice_get xs n ≡ Some w → Both w.1
  all-at [] n w h e = absurd cc
  all-at (x ∷ xs) zero w h e = subst (λ w. Both w.1) (some_same e) h.0
  all-at (x ∷ xs) (suc n) w h e = all-at xs n w h.1 e

  abbrev W : Code → Frames → List (ℕ × Frames)
  W = behind_waits home cs i (own_names i)

  -- what stands behind a statement and leads on, where a path comes to its end
  abbrev Ends : Alive → Frames → Type 0
  Ends x k = x.ends ≡ true → S k

  abbrev Leaves : Alive → Frames → Type 0
  Leaves x k = (n : ℕ) → x.leaves n ≡ true → S (leave n k)

  -- what follows a compound statement
  after : (e : Bool) (x : Alive) (c : Code) (k : Frames) (mark : Mark) → x.ends ≡ e → fit_code cs q c ≡ true → (x.ends ≡ true → F c) → Ends (then_alive e x (alive cs c)) k → Leaves (then_alive e x (alive cs c)) k
      → (x.ends ≡ true → S (Go mark (own_names i) (B c) k)) × Leaves x k
  after true x c k mark h fit free ends leaves = (
    λ t. standing.goes_on mark c fit (free t) ends (λ n l. leaves n (or-right (x.leaves n) ((alive cs c).leaves n) l)),
    λ n l. leaves n (or-left (x.leaves n) ((alive cs c).leaves n) l),
  )
  after false x c k mark h fit free ends leaves = (λ t. clash (sym t ∙ h), λ n l. leaves n l)
    where
      clash : {A : Type 0} → true ≡ false → A
      clash z = absurd cc

  -- and what follows is left as it leaves
  on : (e : Bool) (x : Alive) (c : Code) (k : Frames) → x.ends ≡ e → x.ends ≡ true → Ends (then_alive e x (alive cs c)) k → Leaves (then_alive e x (alive cs c)) k → Ends (alive cs c) k × Leaves (alive cs c) k
  on true x c k h t ends leaves = (ends, λ n l. leaves n (or-right (x.leaves n) ((alive cs c).leaves n) l))
  on false x c k h t ends leaves = let f : true ≡ false = sym t ∙ h in absurd cc

  tail : (b : Bool) (xs : List (ℕ × Frames)) → (b ≡ true → AllBoth xs) → AllBoth (if_ends b xs)
  tail true xs h = h refl
  tail false xs h = tt

  plain-here : (mark : Mark) (c : Code) (k : Frames) → fit_code cs q c ≡ true → PlainFrames k → PlainFrames (Go mark (own_names i) (B c) k)
  plain-here mark c k fit plain = (plain-code home cs i q c (code-fits cs q (cells-apart p r) c fit), plain)

  out : (o : Spot) (b c : Code) (k : Frames) → ((shut o (alive cs b)).ends ≡ true → S (Go Inner (own_names i) (B c) k)) × Leaves (shut o (alive cs b)) k → Leaves (alive cs b) (Go BehindBlock (own_names i) (B c) k)
  out o b c k y zero e = y.0 (or-right (alive cs b).ends ((alive cs b).leaves 0) e)
  out o b c k y (suc n) e = y.1 n e

  ways : (o : Spot) (t : Term) (w : Option Bool) (a b : Code) (k : Frames) → chosen_of cs (IsFree (constants_of home p) home p) w (F a) (F b) → Ends (by_test w o t (alive cs a) (alive cs b)) k → Leaves (by_test w o t (alive cs a) (alive cs b)) k
      → (F a → Ends (alive cs a) k → Leaves (alive cs a) k → AllBoth (W a k)) → (F b → Ends (alive cs b) k → Leaves (alive cs b) k → AllBoth (W b k)) → AllBoth (live_ways w (W a k) (W b k))
  ways o t (Some true) a b k free ends leaves x y = x free ends leaves
  ways o t (Some false) a b k free ends leaves x y = y free ends leaves
  ways o t None a b k free ends leaves x y =
      all-join (W a k) (W b k)
      (x free.0 (λ e. ends (or-left (alive cs a).ends (alive cs b).ends e)) (λ n e. leaves n (or-left ((alive cs a).leaves n) ((alive cs b).leaves n) e)))
      (y free.1 (λ e. ends (or-right (alive cs a).ends (alive cs b).ends e)) (λ n e. leaves n (or-right ((alive cs a).leaves n) ((alive cs b).leaves n) e)))

  all-behind : (c : Code) (k : Frames) → fit_code cs q c ≡ true → PlainFrames k → F c → Ends (alive cs c) k → Leaves (alive cs c) k → AllBoth (W c k)
  all-behind End k fit plain free ends leaves = tt
  all-behind (Put o l pk e c) k fit plain free ends leaves = all-behind c k (and-second (fit_put cs q l pk e) (fit_code cs q c) fit) plain free.1 ends leaves
  all-behind (Aim o to t c) k fit plain free ends leaves = absurd cc
  all-behind (If o t a b c) k fit plain free ends leaves =
      let f1 = and-second (fit_term cs q t) (fit_code cs q a && (fit_code cs q b && fit_code cs q c)) fit in
      let f2 = and-second (fit_code cs q a) (fit_code cs q b && fit_code cs q c) f1 in
      let fa = and-first (fit_code cs q a) (fit_code cs q b && fit_code cs q c) f1 in
      let fb = and-first (fit_code cs q b) (fit_code cs q c) f2 in
      let fc = and-second (fit_code cs q b) (fit_code cs q c) f2 in
      let x = by_test (goes cs t) o t (alive cs a) (alive cs b) in
      let z = after x.ends x c k Inner refl fc free.1 ends leaves in
      let rest = Go Inner (own_names i) (B c) k in
      all-join (live_ways (goes cs t) (W a rest) (W b rest)) (if_ends (ends_of cs (If o t a b End)) (W c k))
      (ways o t (goes cs t) a b rest free.0 z.0 z.1 (λ f e l. all-behind a rest fa (plain-here Inner c k fc plain) f e l) (λ f e l. all-behind b rest fb (plain-here Inner c k fc plain) f e l))
      (tail (ends_of cs (If o t a b End)) (W c k) (λ h. let t = ends-itself x.ends x refl h in let u = on x.ends x c k refl t ends leaves in all-behind c k fc plain (free.1 t) u.0 u.1))
  all-behind (Block o b c) k fit plain free ends leaves =
      let fb = and-first (fit_code cs q b) (fit_code cs q c) fit in
      let fc = and-second (fit_code cs q b) (fit_code cs q c) fit in
      let x = shut o (alive cs b) in
      let z = after x.ends x c k BehindBlock refl fc free.1 ends leaves in
      let y = after x.ends x c k Inner refl fc free.1 ends leaves in
      let rest = Go BehindBlock (own_names i) (B c) k in
      all-join (W b rest) (if_ends (ends_of cs (Block o b End)) (W c k))
      (all-behind b rest fb (plain-here BehindBlock c k fc plain) free.0 (λ e. z.0 (or-left (alive cs b).ends ((alive cs b).leaves 0) e)) (out o b c k y))
      (tail (ends_of cs (Block o b End)) (W c k) (λ h. let t = ends-itself x.ends x refl h in let u = on x.ends x c k refl t ends leaves in all-behind c k fc plain (free.1 t) u.0 u.1))
  all-behind (Loop o n b c) k fit plain free ends leaves =
      let fb = and-first (fit_code cs q b) (fit_code cs q c) fit in
      let rest = Go Inner (own_names i) (B (Loop o n b c)) k in
      all-join (W b rest) (if_ends (ends_of cs (Loop o n b End)) (W c k))
      (all-behind b rest fb (plain-here Inner (Loop o n b c) k fit plain) free (λ e. standing.goes_on Inner (Loop o n b c) fit free ends leaves) (λ m e. leaves m (loop-leaves (alive cs b).ends o n (alive cs b) m e)))
      (tail (ends_of cs (Loop o n b End)) (W c k) (λ h. loop-ends-nowhere (alive cs b).ends o n (alive cs b) refl h))
    where
      loop-leaves : (e : Bool) (o : Spot) (n : Option Count) (x : Alive) (m : ℕ) → x.leaves m ≡ true → (looped e o n x).leaves m ≡ true
      loop-leaves true o n x m h = h
      loop-leaves false o n x m h = h
  all-behind (Exit o n c) k fit plain free ends leaves = tt
  all-behind (Wait o l n c) k fit plain free ends leaves =
      let fc = and-second (nat_lt 0 n) (fit_code cs q c) fit in
      ((standing.goes_on Inner c fc free ends leaves, plain-here Inner c k fc plain), all-behind c k fc plain free ends leaves)

  free-body : F q.body
  free-body = frees cs (IsFree (constants_of home p) home p) q.body (λ n w. written-free home is p r i n q g w)

  -- with further edges to wait for
  waiting-stands : (number left : ℕ) (f : Frames) → Both f → Both (waiting number left f)
  waiting-stands number zero f b = b
  waiting-stands number (suc left) Stop b = b
  waiting-stands number (suc left) (Go mark m c k) b =
      let v = shape home (constants_of home p) p i q (Go mark m c k) b.0 in
      let one : S (Go mark (own_names i) (B (Wait q.place number (suc left) v.0)) k) = standing.goes_on mark (Wait q.place number (suc left) v.0) (and-both (nat_lt 0 (suc left)) (fit_code cs q v.0) (nat_lt-some left) v.3) v.4 v.5 v.6 in
      (subst (λ m. S (Go mark m (machine.Wait number (suc left) c) k)) v.1 (subst (λ c. S (Go mark (own_names i) (machine.Wait number (suc left) c) k)) v.2 one), b.1)

  pub place-stands : (place : Place) (f : Frames) → frames_at home cs i (own_names i) q.body place ≡ Some f → S f × PlainFrames f
  place-stands place f e =
      let w = map_is (slice_get (W q.body Stop) place.number) (λ w. waiting w.0 place.left w.1) f e in
      let b = all-at (W q.body Stop) place.number w.0 (all-behind q.body Stop (code-fit p r i q g) tt free-body (λ t. stops) (λ n t. stops)) w.1 in
      subst Both w.2 (waiting-stands w.0.0 place.left w.0.1 b)
