-- Along all resumes of a core that keeps what is fixed, what is static is known, no pointer is assigned but at its declaration, and none leads to a counter.
use Rattle.std.proofs.Common.{◌≡◌, ◌⊎◌, inl, inr, ℕ, zero, suc, Bool, true, false, List, [], ◌∷◌, Option, Some, if◌then◌else◌, slice_get, refl, sym, ap, subst, ◌∙◌}
use Rattle.scc_semantics.specs.Location.{Location}
use Rattle.scc_semantics.specs.Scene.{Names}
use Rattle.scc_semantics.specs.Store.{Store}
use Rattle.scc_semantics.specs.Body.{End, Assign, Point, Clear, If, Block, Loop, Exit, Call, Begin, Pass, Return, Wait}
use Rattle.scc_semantics.specs.Design.{Design, Process}
use Rattle.scc_semantics.specs.Value.{Held}
use Rattle.scc_semantics.specs.Machine.{Frames, Stop, Go, Outcome, Suspended, Ended, Stuck, Unfinished, act, idle, run, after}
use Rattle.scc_semantics.specs.Process.{first_frames}
use Rattle.scc_semantics.specs.Start.{IsProper}
use Rattle.scc_semantics.specs.Same.{Turn, Middle, is_own, is_others, leading, left_in, resumed, AllProper, at_first}
use Rattle.scc_core_spec.specs.Program as prog
use Rattle.scc_core_spec.specs.Source.{Home, source_of}
use Rattle.scc_blocks_spec.specs.Comes.{Comes, Keeps, begins, goes_on, resumes, restarts, repeats, elsewhere, next_waits, next_points, fresh}
use Rattle.scc_elab_spec.specs.Copied.{Here}
use Rattle.scc_states_laws.proofs.Resuming.{Steps, leads, waits, stops, steps, IsSuspended}
use Rattle.scc_core_unroll_laws.specs.Unrolling.{LeadsWell}
use Rattle.scc_inline_process_laws.specs.Own.{OwnMoves}
use Rattle.scc_inline_process_laws.specs.SoundCode.{Knows, core_scene}
use Rattle.scc_core_unroll_laws.specs.Kinds.{IsKinded}
use Rattle.scc_semantics.specs.Value.{value}
use Rattle.scc_core_spec.specs.Term as core
use Rattle.scc_core_spec.specs.Static.{static}
use Rattle.scc_core_spec.specs.Source.{expr_of}
use Rattle.scc_inline_process_laws.specs.Relation.{around, Declares, IsKept, KeepsFrom}
use Rattle.scc_inline_process_laws.specs.Standing.{KeepsOver}
use Rattle.scc_inline_process_laws.proofs.Known.{static_is}

module _ (home : Home) (c : prog.Program) (constant : Location → Option ℕ) (own_home : (i n : ℕ) → is_own i (home i n) ≡ true) (moves : OwnMoves c.cells) (keeps : Keeps (source_of home c constant))
    (i : ℕ) (q : Process) (there : slice_get (source_of home c constant).processes i ≡ Some q) (own : Names) (h : Here) (process : h.process ≡ i) (cells : h.cells ≡ c.cells)
    (well : (signals : Location → ℕ) (f : Frames) (a : Held) → Comes (source_of home c constant) i q signals f a → LeadsWell (around home (source_of home c constant).places own h) a.store.targets) where
  abbrev e : Design
  e = source_of home c constant

  abbrev Come : (Location → ℕ) → Frames → Held → Type 0
  Come signals f a = Comes e i q signals f a

  declared : (f : Frames) → next_points f ≡ false → Declares home e.places own h f
  declared Stop w = tt
  declared (Go mark m End k) w = declared k w
  declared (Go mark m (Point true l t r) k) w = tt
  declared (Go mark m (Point false l t r) k) w = cc
  declared (Go mark m (Assign l p x r) k) w = tt
  declared (Go mark m (Clear l r) k) w = tt
  declared (Go mark m (If t a b r) k) w = tt
  declared (Go mark m (Block b r) k) w = tt
  declared (Go mark m (Loop b r) k) w = tt
  declared (Go mark m (Exit n r) k) w = tt
  declared (Go mark m (Call n o x f r) k) w = tt
  declared (Go mark m (Begin r) k) w = tt
  declared (Go mark m (Pass d a r) k) w = tt
  declared (Go mark m (Return x r) k) w = tt
  declared (Go mark m (Wait n x r) k) w = tt

  waits_there : (signals : Location → ℕ) (f g : Frames) (a k : Held) → next_waits f ≡ true → act e.places e.functions signals Suspended f a ≡ Suspended g k → k ≡ a
  waits_there signals Stop g a k w s = cc
  waits_there signals (Go mark m End f) g a k w s = waits_there signals f g a k w s
  waits_there signals (Go mark m (Point d l t r) f) g a k w s = cc
  waits_there signals (Go mark m (Assign l p x r) f) g a k w s = cc
  waits_there signals (Go mark m (Clear l r) f) g a k w s = cc
  waits_there signals (Go mark m (If t x y r) f) g a k w s = cc
  waits_there signals (Go mark m (Block b r) f) g a k w s = cc
  waits_there signals (Go mark m (Loop b r) f) g a k w s = cc
  waits_there signals (Go mark m (Exit n r) f) g a k w s = cc
  waits_there signals (Go mark m (Call n o x y r) f) g a k w s = cc
  waits_there signals (Go mark m (Begin r) f) g a k w s = cc
  waits_there signals (Go mark m (Pass d x r) f) g a k w s = cc
  waits_there signals (Go mark m (Return x r) f) g a k w s = cc
  waits_there signals (Go mark m (Wait n x r) f) g a k w s = ap (λ o. held_of o) (sym s)
    where
      held_of : Outcome → Held
      held_of (Suspended f h) = h
      held_of _ = a

  ends_there : (signals : Location → ℕ) (f : Frames) (a k : Held) → idle e.places e.functions signals f a ≡ Ended k → after e.places e.functions signals 1 f a ≡ Ended k
  ends_there signals Stop a k s = s
  ends_there signals (Go mark m End f) a k s = ends_there signals f a k s
  ends_there signals (Go mark m (Point d l t r) f) a k s = cc
  ends_there signals (Go mark m (Assign l p x r) f) a k s = cc
  ends_there signals (Go mark m (Clear l r) f) a k s = cc
  ends_there signals (Go mark m (If t x y r) f) a k s = cc
  ends_there signals (Go mark m (Block b r) f) a k s = cc
  ends_there signals (Go mark m (Loop b r) f) a k s = cc
  ends_there signals (Go mark m (Exit n r) f) a k s = cc
  ends_there signals (Go mark m (Call n o x y r) f) a k s = cc
  ends_there signals (Go mark m (Begin r) f) a k s = cc
  ends_there signals (Go mark m (Pass d x r) f) a k s = cc
  ends_there signals (Go mark m (Return x r) f) a k s = cc
  ends_there signals (Go mark m (Wait n x r) f) a k s = cc

  -- what is static is known wherever what is fixed holds
  abbrev Holds : Store → Type 0
  Holds s = (l : Location) (w : ℕ) → e.fixed l ≡ Some w → s.words l ≡ w

  known : (s : Store) → Holds s → Knows home e.places own h s
  known s f = subst (λ cs. (signals : Location → ℕ) (x : core.Term) (w : ℕ) → IsKinded x → static cs x ≡ Some w → value (core_scene home e.places signals own s) (expr_of home cs h.process x) ≡ Some w) (sym cells)
      (λ signals x w k d. static_is home c constant h.process own_home moves own signals s f x w k d)

  kept_stop : (o : Outcome) → (IsSuspended o → ⊥) → IsKept home e.places own h o
  kept_stop (Suspended f a) n = absurd (n tt)
  kept_stop (Ended a) n = tt
  kept_stop (Stuck a) n = tt
  kept_stop Unfinished n = tt

  kept : (signals words : Location → ℕ) → IsProper e signals → IsProper e words → (j : ℕ) (f : Frames) (a : Held) → Come signals f a → IsKept home e.places own h (after e.places e.functions signals j f a)
  kept signals words ps pw zero f a x = (known a.store (λ l w. keeps.fixed i q signals f a l w there x), declared f (keeps.pointers i q signals f a there x), well signals f a x)
  kept signals words ps pw (suc j) f a x = by (steps e i q signals f a) (λ g k y. kept signals words ps pw j g k y)
    where
      by : Steps f (λ next. act e.places e.functions signals next f a) → ((g : Frames) (k : Held) → Come signals g k → IsKept home e.places own h (after e.places e.functions signals j g k))
          → IsKept home e.places own h (act e.places e.functions signals (after e.places e.functions signals j) f a)
      by (leads g k free st) ih = subst (λ o. IsKept home e.places own h o) (sym (st (after e.places e.functions signals j))) (ih g k (goes_on x free (st (after e.places e.functions signals 0))))
      by (waits g k w st) ih = subst (λ o. IsKept home e.places own h o) (sym (st (after e.places e.functions signals j))) (
        known k.store (λ l z d. ap (λ k. k.store.words l) (waits_there signals f g a k w (st Suspended)) ∙ keeps.fixed i q signals f a l z there x d),
        declared g (keeps.pointers i q signals g (fresh words k.store.targets) there (resumes signals words ps pw x w (st (after e.places e.functions signals 0)))),
        well signals g (fresh words k.store.targets) (resumes signals words ps pw x w (st (after e.places e.functions signals 0))),
      )
      by (stops o n st) ih = subst (λ o. IsKept home e.places own h o) (sym (st (after e.places e.functions signals j))) (kept_stop o n)

  -- where a process stands between its resumes
  abbrev IsAt : Middle → Type 0
  IsAt m = (t : Turn) → IsProper e t.words → IsProper e t.signals → Come t.signals (first_frames i q) (fresh t.words (leading i t m))
      × (Come t.signals m.frames (fresh t.words (leading i t m)) ⊎ (m.frames ≡ Stop))

  at_start : IsAt (at_first e i q)
  at_start t pw ps = (elsewhere t.others (begins t.signals t.words ps pw), inl (elsewhere t.others (begins t.signals t.words ps pw)))

  ended_at : (signals : Location → ℕ) (f : Frames) (a k : Held) → Come signals f a → after e.places e.functions signals 1 f a ≡ Ended k → IsAt (record { frames = Stop; targets = k.store.targets })
  ended_at signals f a k x s = λ t pw ps. (elsewhere t.others (repeats t.signals t.words ps pw x s), inr refl)

  waiting_at : (signals : Location → ℕ) (f g : Frames) (a k : Held) → Come signals f a → next_waits f ≡ true → after e.places e.functions signals 1 f a ≡ Suspended g k → k ≡ a → IsAt (record { frames = g; targets = k.store.targets })
  waiting_at signals f g a k x w s z = λ t pw ps. (
    subst (λ y. Come t.signals (first_frames i q) (fresh t.words (leading i t (record { frames = g; targets = y.store.targets })))) (sym z) (elsewhere t.others (restarts t.signals t.words ps pw x w)),
    inl (elsewhere t.others (resumes t.signals t.words ps pw x w s)),
  )

  left_at : (signals : Location → ℕ) (n : ℕ) (f : Frames) (a : Held) (m : Middle) → Come signals f a → IsAt m → IsAt (left_in (run e.places e.functions signals n f a) m)
  left_at signals zero f a m x r = by (idle e.places e.functions signals f a) refl
    where
      by : (o : Outcome) → idle e.places e.functions signals f a ≡ o → IsAt (left_in o m)
      by (Suspended g k) s = absurd (no f s)
        where
          no : (f : Frames) → idle e.places e.functions signals f a ≡ Suspended g k → ⊥
          no Stop s = cc
          no (Go mark m End f) s = no f s
          no (Go mark m (Point d l t r) f) s = cc
          no (Go mark m (Assign l p x r) f) s = cc
          no (Go mark m (Clear l r) f) s = cc
          no (Go mark m (If t x y r) f) s = cc
          no (Go mark m (Block b r) f) s = cc
          no (Go mark m (Loop b r) f) s = cc
          no (Go mark m (Exit n r) f) s = cc
          no (Go mark m (Call n o x y r) f) s = cc
          no (Go mark m (Begin r) f) s = cc
          no (Go mark m (Pass d x r) f) s = cc
          no (Go mark m (Return x r) f) s = cc
          no (Go mark m (Wait n x r) f) s = cc
      by (Ended k) s = ended_at signals f a k x (ends_there signals f a k s)
      by (Stuck k) s = r
      by Unfinished s = r
  left_at signals (suc n) f a m x r = by (steps e i q signals f a) (λ g k y. left_at signals n g k m y r)
    where
      stopped : (o : Outcome) → (IsSuspended o → ⊥) → after e.places e.functions signals 1 f a ≡ o → IsAt (left_in o m)
      stopped (Suspended g k) z s = absurd (z tt)
      stopped (Ended k) z s = ended_at signals f a k x s
      stopped (Stuck k) z s = r
      stopped Unfinished z s = r

      by : Steps f (λ next. act e.places e.functions signals next f a) → ((g : Frames) (k : Held) → Come signals g k → IsAt (left_in (run e.places e.functions signals n g k) m))
          → IsAt (left_in (act e.places e.functions signals (run e.places e.functions signals n) f a) m)
      by (leads g k free st) ih = subst (λ o. IsAt (left_in o m)) (sym (st (run e.places e.functions signals n))) (ih g k (goes_on x free (st (after e.places e.functions signals 0))))
      by (waits g k w st) ih = subst (λ o. IsAt (left_in o m)) (sym (st (run e.places e.functions signals n))) (waiting_at signals f g a k x w (st (after e.places e.functions signals 0)) (waits_there signals f g a k w (st Suspended)))
      by (stops o z st) ih = subst (λ o. IsAt (left_in o m)) (sym (st (run e.places e.functions signals n))) (stopped o z (st (after e.places e.functions signals 0)))

  -- pointers of others that are replaced twice
  led_twice : (t u : Turn) (m : Middle) → leading i u (record { frames = Stop; targets = leading i t m }) ≡ leading i u m
  led_twice t u m = λ z l. by (is_others i l.root) l z
    where
      by : (b : Bool) (l : Location) → (if b then u.others l else (if b then t.others l else m.targets l)) ≡ (if b then u.others l else m.targets l)
      by true l = refl
      by false l = refl

  from : (t : Turn) (m : Middle) → IsProper e t.words → IsProper e t.signals → IsAt m → (f : Frames) → (Come t.signals f (fresh t.words (leading i t m)) ⊎ (f ≡ Stop))
      → KeepsFrom home e.places own h t.signals f (fresh t.words (leading i t m)) × ((n : ℕ) → IsAt (left_in (run e.places e.functions t.signals n f (fresh t.words (leading i t m))) m))
  from t m pw ps r f (inl x) = ((λ j. kept t.signals t.words ps pw j f (fresh t.words (leading i t m)) x), λ n. left_at t.signals n f (fresh t.words (leading i t m)) m x r)
  from t m pw ps r f (inr z) = subst (λ f. KeepsFrom home e.places own h t.signals f (fresh t.words (leading i t m)) × ((n : ℕ) → IsAt (left_in (run e.places e.functions t.signals n f (fresh t.words (leading i t m))) m))) (sym z) (stays, ended)
    where
      x : Come t.signals (first_frames i q) (fresh t.words (leading i t m))
      x = (r t pw ps).0

      stays : (j : ℕ) → IsKept home e.places own h (after e.places e.functions t.signals j Stop (fresh t.words (leading i t m)))
      stays zero = (known (fresh t.words (leading i t m)).store (λ l w. keeps.fixed i q t.signals (first_frames i q) (fresh t.words (leading i t m)) l w there x), tt, well t.signals (first_frames i q) (fresh t.words (leading i t m)) x)
      stays (suc j) = tt

      again : IsAt (record { frames = Stop; targets = leading i t m })
      again = λ u pw ps. (subst (λ y. Come u.signals (first_frames i q) (fresh u.words y)) (sym (led_twice t u m)) (r u pw ps).0, inr refl)

      ended : (n : ℕ) → IsAt (left_in (run e.places e.functions t.signals n Stop (fresh t.words (leading i t m))) m)
      ended zero = again
      ended (suc n) = again

  over : (ns : List ℕ) (ts : List Turn) (m : Middle) → IsAt m → AllProper e ts → KeepsOver home e.places own h e i q m ns ts
  over [] ts m r a = tt
  over (n ∷ ns) [] m r a = tt
  over (n ∷ ns) (t ∷ ts) m r a = (p.0, over ns ts (left_in (resumed e i q n t m) m) (p.1 n) a.2)
    where
      start : (b : Bool) → Come t.signals (if b then first_frames i q else m.frames) (fresh t.words (leading i t m)) ⊎ ((if b then first_frames i q else m.frames) ≡ Stop)
      start true = inl (r t a.0 a.1).0
      start false = (r t a.0 a.1).1

      p : KeepsFrom home e.places own h t.signals (if t.restarts then first_frames i q else m.frames) (fresh t.words (leading i t m))
          × ((n : ℕ) → IsAt (left_in (run e.places e.functions t.signals n (if t.restarts then first_frames i q else m.frames) (fresh t.words (leading i t m))) m))
      p = from t m a.0 a.1 r (if t.restarts then first_frames i q else m.frames) (start t.restarts)

  pub kept_always : (ns : List ℕ) (ts : List Turn) → AllProper e ts → KeepsOver home e.places own h e i q (at_first e i q) ns ts
  kept_always ns ts a = over ns ts (at_first e i q) at_start a
