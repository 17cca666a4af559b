-- A process and its copy show the same over every list of resumes.
use Rattle.std.proofs.Common.{◌≡◌, ℕ, suc, ◌≤◌, ◌*◌, Bool, true, false, not, nat_eq, nat_lt, length, [], ◌∷◌, Option, Some, if◌then◌else◌, refl, sym, ap, ◌∙◌, subst, arith}
use Rattle.scc_semantics.specs.Location.{Location, Root}
use Rattle.scc_semantics.specs.Location as location
use Rattle.scc_semantics.specs.Places.{Places}
use Rattle.scc_semantics.specs.Scene.{Names}
use Rattle.scc_semantics.specs.Body as machine
use Rattle.scc_semantics.specs.Body.{Body}
use Rattle.scc_semantics.specs.Value.{Held}
use Rattle.scc_semantics.specs.Design.{Design, Process}
use Rattle.scc_semantics.specs.Machine.{Frames, Inner, Outcome, Suspended, Ended, Stuck, Unfinished, run}
use Rattle.scc_semantics.specs.Process.{first_frames}
use Rattle.scc_semantics.specs.Same.{Turn, Seen, Middle, is_others, seen_of, leading, left_in, resumed, at_first, MeansTheSame}
use Rattle.scc_semantics_laws.proofs.Means.{Similar, means-by}
use Rattle.scc_elab_spec.proofs.Chains.{and-first}
use Rattle.scc_core_spec.specs.Term as core
use Rattle.scc_core_spec.specs.Source.{Home}
use Rattle.scc_elab_spec.specs.Program.{Function}
use Rattle.scc_elab_spec.specs.Copied.{Here}
use Rattle.scc_elab_spec.specs.Spoken as spoken
use Rattle.scc_inline_process_laws.specs.SoundCode.{Targets, is_outside, SameOutside, LeadsUp}
use Rattle.scc_inline_process_laws.specs.Relation.{around, here, IsSteady, IsSoundAt, below_halt, alike_stop, alike_on, AlikeOutcome, KeepsFrom}
use Rattle.scc_inline_process_laws.specs.Standing.{first_spoken, first_copied, Standing, standing_first, standing_on, StandsAlike, KeepsAlways}
use Rattle.scc_core_unroll_laws.specs.Unrolling.{Counters}
use Rattle.scc_semantics.specs.Store.{Store}
use Rattle.scc_inline_process_laws.proofs.Moves.{alike-up, alike-moves}
use Rattle.scc_inline_process_laws.proofs.Steps.{Follows, run_plain, run_copy}
use Rattle.scc_inline_process_laws.proofs.Still.{follows}
use Rattle.scc_inline_process_laws.proofs.Longer.{Over, longer}

-- a resume finds its own pointers and those of the top as they were left
not-others : (i k : ℕ) (r : Root) → is_outside i k r ≡ true → is_others i r ≡ false
not-others i k location.Top e = refl
not-others i k (location.Local j cs n) e = ap not (and-first (nat_eq i j) (nat_lt (length cs) k) e)
not-others i k (location.Answer j cs) e = ap not e

leading-same : (i k : ℕ) (t : Turn) (m : Middle) → SameOutside i k m.targets (leading i t m)
leading-same i k t m l e = ap (λ b. if b then t.others l else m.targets l) (not-others i k l.root e)

leading-up : (i : ℕ) (t : Turn) (m : Middle) → LeadsUp i m.targets → LeadsUp i (leading i t m)
leading-up i t m up k l n e f = up k l n e (sym (leading-same i k t m l e) ∙ f)

module _ (home : Home) (places : Places) (own : Names) (h : Here) (counters : Counters (around home places own h)) where
  seen-same : (i : ℕ) (t : Targets) (x y : Outcome) → AlikeOutcome home places own h x y → seen_of i t x ≡ seen_of i t y
  seen-same i t (Suspended f a) (Suspended g b) e = ap (λ z. seen_of i t (Suspended f z)) e.0
  seen-same i t (Ended a) (Ended b) e = ap (λ z. seen_of i t (Ended z)) e.0
  seen-same i t (Stuck a) (Stuck b) e = ap (λ z. seen_of i t (Stuck z)) e
  seen-same i t Unfinished Unfinished e = refl
  seen-same i t (Suspended f a) (Ended b) e = absurd e
  seen-same i t (Suspended f a) (Stuck b) e = absurd e
  seen-same i t (Suspended f a) Unfinished e = absurd e
  seen-same i t (Ended a) (Suspended g b) e = absurd e
  seen-same i t (Ended a) (Stuck b) e = absurd e
  seen-same i t (Ended a) Unfinished e = absurd e
  seen-same i t (Stuck a) (Suspended g b) e = absurd e
  seen-same i t (Stuck a) (Ended b) e = absurd e
  seen-same i t (Stuck a) Unfinished e = absurd e
  seen-same i t Unfinished (Suspended g b) e = absurd e
  seen-same i t Unfinished (Ended b) e = absurd e
  seen-same i t Unfinished (Stuck b) e = absurd e

  seen-over : (i : ℕ) (t : Targets) (x : Outcome) (o : Seen) → seen_of i t x ≡ Some o → Over x
  seen-over i t (Suspended f a) o e = tt
  seen-over i t (Ended a) o e = tt
  seen-over i t (Stuck a) o e = tt
  seen-over i t Unfinished o e = cc

  module _ (g : Function) (this : core.Left) (o : Option Location) (left : ℕ)
      (sound : IsSoundAt home places own h left (here home places own h [] g this) (λ o. false) 0 g.body) (steady : (t : Store) → LeadsUp h.process t.targets → IsSteady home places own h [] this o (λ o. false) t) where
    left-alike : (x y : Outcome) (m n : Middle) → AlikeOutcome home places own h x y → StandsAlike home places own h g this o left m n → StandsAlike home places own h g this o left (left_in x m) (left_in y n)
    left-alike (Suspended f a) (Suspended k b) m n e s = record { targets = sym (ap (λ z. z.store.targets) e.0); up = alike-up home places own h (e.1 (λ l. 0)); frames = standing_on e.1 }
    left-alike (Ended a) (Ended b) m n e s = record { targets = sym (ap (λ z. z.store.targets) e.0); up = e.1; frames = standing_on (λ words. alike_stop e.1) }
    left-alike (Stuck a) (Stuck b) m n e s = s
    left-alike Unfinished Unfinished m n e s = s
    left-alike (Suspended f a) (Ended b) m n e s = absurd e
    left-alike (Suspended f a) (Stuck b) m n e s = absurd e
    left-alike (Suspended f a) Unfinished m n e s = absurd e
    left-alike (Ended a) (Suspended k b) m n e s = absurd e
    left-alike (Ended a) (Stuck b) m n e s = absurd e
    left-alike (Ended a) Unfinished m n e s = absurd e
    left-alike (Stuck a) (Suspended k b) m n e s = absurd e
    left-alike (Stuck a) (Ended b) m n e s = absurd e
    left-alike (Stuck a) Unfinished m n e s = absurd e
    left-alike Unfinished (Suspended k b) m n e s = absurd e
    left-alike Unfinished (Ended b) m n e s = absurd e
    left-alike Unfinished (Stuck b) m n e s = absurd e

    stands : (signals : Location → ℕ) (n : ℕ) {t : Targets} {f f' : Frames} (a : Held) → LeadsUp h.process a.store.targets → ((k : ℕ) → SameOutside h.process k t a.store.targets)
        → Standing home places own h g this o left t f f' → KeepsFrom home places own h signals f' a → Follows home places signals own h n f f' a
    stands signals n a up e standing_first keep =
        let p = follows home places signals own h counters n _ _ a (alike_on Inner Inner left g this o [] g.body sound (steady a.store up) (below_halt (λ o. refl) up)) (λ j. keep (suc j)) in (suc p.0, omega (arith, p.1), p.2)
    stands signals n {t = t} a up e (standing_on {f = f} {f' = f'} x) keep = follows home places signals own h counters n f f' a (alike-moves home places own h a.store (λ k. (e k, up)) refl (x a.store.words)) keep

    -- a design with the function, and one with the copy
    module _ (d e : Design) (dp : d.places ≡ places) (df : d.functions ≡ spoken.function_body h.plain) (ep : e.places ≡ places) (ef : e.functions ≡ (λ f. machine.End)) (p q : Process)
        (fp : first_frames h.process p ≡ first_spoken home places own h g this o left) (fq : first_frames h.process q ≡ first_copied home places own h g this o left) where
      abbrev held_at : Turn → Targets → Held
      held_at t targets = record { store = record { words = t.words; targets = targets }; requests = [] }

      started : (b : Bool) (m n : Middle) → StandsAlike home places own h g this o left m n
          → Standing home places own h g this o left m.targets (if b then first_frames h.process p else m.frames) (if b then first_frames h.process q else n.frames)
      started true m n s = subst (λ f. Standing home places own h g this o left m.targets f (first_frames h.process q)) (sym fp) (subst (λ f. Standing home places own h g this o left m.targets (first_spoken home places own h g this o left) f) (sym fq) standing_first)
      started false m n s = s.frames

      resumed-spoken : (n : ℕ) (t : Turn) (m : Middle) → resumed d h.process p n t m ≡ run_plain home places t.signals own h n (if t.restarts then first_frames h.process p else m.frames) (held_at t (leading h.process t m))
      resumed-spoken n t m = ap (λ x. run x d.functions t.signals n (if t.restarts then first_frames h.process p else m.frames) (held_at t (leading h.process t m))) dp
          ∙ ap (λ x. run places x t.signals n (if t.restarts then first_frames h.process p else m.frames) (held_at t (leading h.process t m))) df

      resumed-copied : (n : ℕ) (t : Turn) (m : Middle) → resumed e h.process q n t m ≡ run_copy home places t.signals own h n (if t.restarts then first_frames h.process q else m.frames) (held_at t (leading h.process t m))
      resumed-copied n t m = ap (λ x. run x e.functions t.signals n (if t.restarts then first_frames h.process q else m.frames) (held_at t (leading h.process t m))) ep
          ∙ ap (λ x. run places x t.signals n (if t.restarts then first_frames h.process q else m.frames) (held_at t (leading h.process t m))) ef

      -- where the pointers lead that a resume finds
      same-led : (t : Turn) (m l : Middle) → l.targets ≡ m.targets → leading h.process t l ≡ leading h.process t m
      same-led t m l e = ap (λ z l. if is_others h.process l.root then t.others l else z l) e

      -- one resume
      one : (n : ℕ) (t : Turn) (m l : Middle) → StandsAlike home places own h g this o left m l
          → KeepsFrom home places own h t.signals (if t.restarts then first_frames h.process q else l.frames) (held_at t (leading h.process t l))
          → (j : ℕ) × (n ≤ j) × AlikeOutcome home places own h (resumed d h.process p n t m) (resumed e h.process q j t l)
      one n t m l s keep =
          let a = held_at t (leading h.process t m) in
          let same : held_at t (leading h.process t l) ≡ a = ap (held_at t) (same-led t m l s.targets) in
          let f = if t.restarts then first_frames h.process p else m.frames in
          let f' = if t.restarts then first_frames h.process q else l.frames in
          let r = stands t.signals n a (leading-up h.process t m s.up) (λ k. leading-same h.process k t m) (started t.restarts m l s) (subst (λ a. KeepsFrom home places own h t.signals f' a) same keep) in (
            r.0,
            r.1,
            subst (λ x. AlikeOutcome home places own h x (resumed e h.process q r.0 t l)) (sym (resumed-spoken n t m))
                (subst (λ y. AlikeOutcome home places own h (run_plain home places t.signals own h n f a) y) (sym (resumed-copied r.0 t l ∙ ap (λ a. run_copy home places t.signals own h r.0 f' a) same)) r.2),
          )

      abbrev Related : Middle → Middle → Type 0
      Related m l = StandsAlike home places own h g this o left m l × KeepsAlways home places own h d e h.process q l

      -- the same pointers are found moved
      seen-led : (t : Turn) (m l : Middle) → l.targets ≡ m.targets → (x : Outcome) → seen_of h.process (leading h.process t l) x ≡ seen_of h.process (leading h.process t m) x
      seen-led t m l e x = ap (λ z. seen_of h.process z x) (same-led t m l e)

      similar : StandsAlike home places own h g this o left (at_first d h.process p) (at_first e h.process q) → KeepsAlways home places own h d e h.process q (at_first e h.process q) → Similar 1 d e h.process p q Related
      similar s k = record {
        first = (s, k);
        fast = λ m l r t w x n o v.
            let y = one n t m l r.0 (r.1 (0 ∷ []) (t ∷ []) (w, x, tt)).0 in (
              y.0,
              seen-led t m l r.0.targets (resumed e h.process q y.0 t l) ∙ (sym (seen-same h.process (leading h.process t m) (resumed d h.process p n t m) (resumed e h.process q y.0 t l) y.2) ∙ v),
              (left-alike (resumed d h.process p n t m) (resumed e h.process q y.0 t l) m l y.2 r.0, λ ns ts ok. (r.1 (y.0 ∷ ns) (t ∷ ts) (w, x, ok)).1),
            );
        slow = λ m l r t w x n o v.
            let y = one n t m l r.0 (r.1 (0 ∷ []) (t ∷ []) (w, x, tt)).0 in
            let same : resumed e h.process q y.0 t l ≡ resumed e h.process q n t l = longer e.places e.functions t.signals n y.0 y.1 (if t.restarts then first_frames h.process q else l.frames) (held_at t (leading h.process t l))
            (seen-over h.process (leading h.process t l) (resumed e h.process q n t l) o v) in
            let z = subst (λ y. AlikeOutcome home places own h (resumed d h.process p n t m) y) same y.2 in
            let i : n ≡ 1 * n = omega arith in
            subst (λ j. (seen_of h.process (leading h.process t m) (resumed d h.process p j t m) ≡ Some o) × Related (left_in (resumed d h.process p j t m) m) (left_in (resumed e h.process q n t l) l)) i (
              seen-same h.process (leading h.process t m) (resumed d h.process p n t m) (resumed e h.process q n t l) z ∙ (sym (seen-led t m l r.0.targets (resumed e h.process q n t l)) ∙ v),
              (left-alike (resumed d h.process p n t m) (resumed e h.process q n t l) m l z r.0, λ ns ts ok. (r.1 (n ∷ ns) (t ∷ ts) (w, x, ok)).1),
            );
      }

      pub means-same : StandsAlike home places own h g this o left (at_first d h.process p) (at_first e h.process q) → KeepsAlways home places own h d e h.process q (at_first e h.process q) → MeansTheSame 1 d e h.process p q
      means-same s k = means-by 1 d e h.process p q Related (similar s k)
