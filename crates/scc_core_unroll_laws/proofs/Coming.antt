-- What is kept along a process's resumes, whatever they are.
use Rattle.std.proofs.Common.{◌≡◌, ◌⊎◌, inl, inr, ℕ, zero, suc, Bool, true, false, Option, Some, None, refl, sym, ap, ◌∙◌, subst}
use Rattle.std.specs.Prelude.{slice_get, if◌then◌else◌}
use Rattle.scc_semantics.specs.Location.{Location}
use Rattle.scc_semantics.specs.Expressions as body
use Rattle.scc_semantics.specs.Scene.{Names, Scene, followed}
use Rattle.scc_semantics.specs.Body.{End, Assign, Point, Clear, If, Block, Loop, Exit, Call, Begin, Pass, Return, Wait}
use Rattle.scc_semantics.specs.Design as running
use Rattle.scc_semantics.specs.Value.{Held, locate, value, target_of, put_at, object_of, called}
use Rattle.scc_semantics.specs.Machine.{Frames, Stop, Go, Next, Outcome, Suspended, Ended, Stuck, Unfinished, unless_stuck, act, idle, run, after, scene, caller, return, pick, pointed_at, cleared, waiting, one_less, Inner, BehindCall}
use Rattle.scc_semantics.specs.Process.{first_frames}
use Rattle.scc_semantics.specs.Same.{Turn, Middle, is_others, left_in, resumed, at_first}
use Rattle.scc_semantics.specs.Start.{IsProper}
use Rattle.scc_blocks_spec.specs.Comes.{Comes, begins, goes_on, resumes, restarts, repeats, elsewhere, Keeps, next_waits, next_points, fresh}

-- where pointers lead that a resume finds: those of others anywhere, its own and the top's where it left them
abbrev pub led : ℕ → (others targets : Location → Option Location) → Location → Option Location
led i others targets l = if is_others i l.root then others l else targets l

-- one statement leads on, waits, or stops
pub data Steps (f : Frames) (h : Held) (does : Next → Outcome) : Type 0 where
  leads : (g : Frames) (k : Held) → next_waits f ≡ false → ((next : Next) → does next ≡ next g k) → Steps f h does
  waits : (g : Frames) → next_waits f ≡ true → ((next : Next) → does next ≡ Suspended g h) → Steps f h does
  sticks : ((next : Next) → does next ≡ Stuck h) → Steps f h does
  ends : ((next : Next) → does next ≡ Ended h) → Steps f h does

if_there : {A : Type 0} (f : Frames) (h : Held) (o : Option A) (does : A → Next → Outcome) → ((x : A) → Steps f h (does x)) → Steps f h (λ next. unless_stuck h o (λ x. does x next))
if_there f h None does s = sticks (λ next. refl)
if_there f h (Some x) does s = by (s x)
  where
    by : Steps f h (does x) → Steps f h (λ next. does x next)
    by t = t

module _ (d : running.Design) (signals : Location → ℕ) where
  abbrev S : Names → Held → Scene
  S m h = scene d.places d.functions signals m h

  abbrev A : Next → Next
  A = act d.places d.functions signals

  pub steps : (f : Frames) (h : Held) → Steps f h (λ next. A next f h)
  steps Stop h = ends (λ next. refl)
  steps (Go mark m End k) h = by (steps k h)
    where
      by : Steps k h (λ next. A next k h) → Steps (Go mark m End k) h (λ next. A next (Go mark m End k) h)
      by (leads g l free e) = leads g l free e
      by (waits g w e) = waits g w e
      by (sticks e) = sticks e
      by (ends e) = ends e
  steps (Go mark m (Assign left q e r) k) h =
      if_there {A = ℕ} _ h (value (S m h) e) _ (λ x. if_there {A = Location} _ h (followed (locate (S m h) left)) _
      (λ l. if_there {A = Held} _ h (put_at (d.places.things l) (S m h) h l q x) _ (λ g. leads (Go Inner m r k) g refl (λ next. refl))))
  steps (Go mark m (Point declares left t r) k) h =
      if_there {A = Option Location} _ h (target_of (S m h) t) _ (λ o. if_there {A = Location} _ h (followed (locate (S m h) left)) _
      (λ l. leads (Go Inner m r k) (pointed_at (d.places.pointers l) h l o) refl (λ next. refl)))
  steps (Go mark m (Clear left r) k) h = if_there {A = Location} _ h (followed (locate (S m h) left)) _ (λ l. leads (Go Inner m r k) (cleared d.places h l) refl (λ next. refl))
  steps (Go mark m (If t a b r) k) h = if_there {A = ℕ} _ h (value (S m h) t) _ (λ x. leads (Go Inner m (pick x a b) (Go Inner m r k)) h refl (λ next. refl))
  steps (Go mark m (Block b r) k) h = leads _ h refl (λ next. refl)
  steps (Go mark m (Loop b r) k) h = leads _ h refl (λ next. refl)
  steps (Go mark m (Exit n r) k) h = leads _ h refl (λ next. refl)
  steps (Go mark m (Call number object enter function r) k) h =
      if_there {A = Option Location} _ h (object_of (S m h) object) _
      (λ o. leads (Go Inner (called m number o) enter (Go Inner (called m number o) (d.functions function) (Go BehindCall m r k))) h refl (λ next. refl))
  steps (Go mark m (Begin r) k) h = leads (Go Inner m r k) _ refl (λ next. refl)
  steps (Go mark m (Pass n (body.Value e) r) k) h = if_there {A = ℕ} _ h (value (S (caller k m) h) e) _ (λ x. leads (Go Inner m r k) _ refl (λ next. refl))
  steps (Go mark m (Pass n (body.Place t) r) k) h = if_there {A = Option Location} _ h (target_of (S (caller k m) h) t) _ (λ o. leads (Go Inner m r k) _ refl (λ next. refl))
  steps (Go mark m (Return None r) k) h = leads (return k) h refl (λ next. refl)
  steps (Go mark m (Return (Some e) r) k) h = if_there {A = ℕ} _ h (value (S m h) e) _ (λ x. leads (return k) _ refl (λ next. refl))
  steps (Go mark m (Wait number count r) k) h = waits (waiting number (one_less count) (Go Inner m r k)) refl (λ next. refl)

  -- without a statement a process comes to its end, or to nothing
  idle_is : (f : Frames) (h : Held) → (idle d.places d.functions signals f h ≡ Unfinished) ⊎ ((idle d.places d.functions signals f h ≡ Ended h) × ((next : Next) → A next f h ≡ Ended h))
  idle_is Stop h = inr (refl, λ next. refl)
  idle_is (Go mark m End f) h = idle_is f h
  idle_is (Go mark m (Assign left q v r) f) h = inl refl
  idle_is (Go mark m (Point declares left t r) f) h = inl refl
  idle_is (Go mark m (Clear left r) f) h = inl refl
  idle_is (Go mark m (If t a b r) f) h = inl refl
  idle_is (Go mark m (Block b r) f) h = inl refl
  idle_is (Go mark m (Loop b r) f) h = inl refl
  idle_is (Go mark m (Exit n r) f) h = inl refl
  idle_is (Go mark m (Call number object enter function r) f) h = inl refl
  idle_is (Go mark m (Begin r) f) h = inl refl
  idle_is (Go mark m (Pass n a r) f) h = inl refl
  idle_is (Go mark m (Return v r) f) h = inl refl
  idle_is (Go mark m (Wait number count r) f) h = inl refl

module _ (d : running.Design) (i : ℕ) (p : running.Process) where
  abbrev from : (words : Location → ℕ) (others targets : Location → Option Location) → Held
  from words others targets = fresh words (led i others targets)

  -- what a resume that is over comes to
  abbrev Last : (Location → ℕ) → Outcome → Type 0
  Last signals (Suspended g k) = (f : Frames) × Comes d i p signals f k × (next_waits f ≡ true) × (after d.places d.functions signals 1 f k ≡ Suspended g k)
  Last signals (Ended k) = (f : Frames) × (h : Held) × Comes d i p signals f h × (after d.places d.functions signals 1 f h ≡ Ended k)
  Last signals _ = Unit {0}

  last : (n : ℕ) (signals : Location → ℕ) (f : Frames) (h : Held) → Comes d i p signals f h → Last signals (run d.places d.functions signals n f h)
  last zero signals f h c = by (idle_is d signals f h)
    where
      by : (idle d.places d.functions signals f h ≡ Unfinished) ⊎ ((idle d.places d.functions signals f h ≡ Ended h) × ((next : Next) → A d signals next f h ≡ Ended h)) → Last signals (idle d.places d.functions signals f h)
      by (inl e) = subst (Last signals) (sym e) tt
      by (inr e) = subst (Last signals) (sym e.0) (f, h, c, e.1 (after d.places d.functions signals 0))
  last (suc n) signals f h c = by (steps d signals f h) (λ g k x. last n signals g k x)
    where
      by : Steps f h (λ next. A d signals next f h) → ((g : Frames) (k : Held) → Comes d i p signals g k → Last signals (run d.places d.functions signals n g k)) → Last signals (A d signals (run d.places d.functions signals n) f h)
      by (leads g k free e) ih = subst (Last signals) (sym (e (run d.places d.functions signals n))) (ih g k (goes_on c free (e (after d.places d.functions signals 0))))
      by (waits g w e) ih = subst (Last signals) (sym (e (run d.places d.functions signals n))) (f, c, w, e (after d.places d.functions signals 0))
      by (sticks e) ih = subst (Last signals) (sym (e (run d.places d.functions signals n))) tt
      by (ends e) ih = subst (Last signals) (sym (e (run d.places d.functions signals n))) (f, h, c, e (after d.places d.functions signals 0))

  -- where a process stands between resumes, all that it may come to from there is what it comes to
  pub record Along (n : Middle) : Type 0 where
    pub first : (signals words : Location → ℕ) (others : Location → Option Location) → IsProper d signals → IsProper d words → Comes d i p signals (first_frames i p) (from words others n.targets)
    pub on : (signals words : Location → ℕ) (others : Location → Option Location) → IsProper d signals → IsProper d words → (n.frames ≡ Stop) ⊎ Comes d i p signals n.frames (from words others n.targets)

  pub along-first : Along (at_first d i p)
  along-first = record { first = λ s w o ps pw. elsewhere o (begins s w ps pw); on = λ s w o ps pw. inr (elsewhere o (begins s w ps pw)) }

  led-led : (o u t : Location → Option Location) → led i o (led i u t) ≡ led i o t
  led-led o u t = λ z l. by l (is_others i l.root) z
    where
      by : (l : Location) (b : Bool) → (if b then o l else (if b then u l else t l)) ≡ (if b then o l else t l)
      by l true = refl
      by l false = refl

  along-last : (signals : Location → ℕ) (o : Outcome) (n : Middle) → Last signals o → Along n → Along (left_in o n)
  along-last signals (Suspended g k) n x a = record {
    first = λ s w o ps pw. elsewhere o (restarts s w ps pw x.1 x.2);
    on = λ s w o ps pw. inr (elsewhere o (resumes s w ps pw x.1 x.2 x.3));
  }
  along-last signals (Ended k) n x a = record { first = λ s w o ps pw. elsewhere o (repeats s w ps pw x.2 x.3); on = λ s w o ps pw. inl refl }
  along-last signals (Stuck k) n x a = a
  along-last signals Unfinished n x a = a

  pub along-next : (c : ℕ) (t : Turn) (n : Middle) → IsProper d t.words → IsProper d t.signals → Along n → Along (left_in (resumed d i p c t n) n)
  along-next c t n pw ps a = by t.restarts
    where
      h : Held
      h = from t.words t.others n.targets

      ended : (c : ℕ) → run d.places d.functions t.signals c Stop h ≡ Ended h
      ended zero = refl
      ended (suc c) = refl

      stopped : Along (record { frames = Stop; targets = led i t.others n.targets })
      stopped = record { first = λ s w o ps pw. subst (λ t. Comes d i p s (first_frames i p) (fresh w t)) (sym (led-led o t.others n.targets)) (a.first s w o ps pw); on = λ s w o ps pw. inl refl }

      going : (n.frames ≡ Stop) ⊎ Comes d i p t.signals n.frames h → Along (left_in (run d.places d.functions t.signals c n.frames h) n)
      going (inl e) = subst (λ o. Along (left_in o n)) (sym (ap (λ f. run d.places d.functions t.signals c f h) e ∙ ended c)) stopped
      going (inr x) = along-last t.signals (run d.places d.functions t.signals c n.frames h) n (last c t.signals n.frames h x) a

      by : (b : Bool) → Along (left_in (run d.places d.functions t.signals c (if b then first_frames i p else n.frames) h) n)
      by true = along-last t.signals (run d.places d.functions t.signals c (first_frames i p) h) n (last c t.signals (first_frames i p) h (a.first t.signals t.words t.others ps pw)) a
      by false = going (a.on t.signals t.words t.others ps pw)

  module _ (keeps : Keeps d) (at : slice_get d.processes i ≡ Some p) where
    abbrev pub IsKeptAt : Outcome → Type 0
    IsKeptAt (Suspended f h) = ((l : Location) (x : ℕ) → d.fixed l ≡ Some x → h.store.words l ≡ x) × (next_points f ≡ false)
    IsKeptAt _ = Unit {0}

    pub kept : (j : ℕ) (signals : Location → ℕ) → IsProper d signals → (f : Frames) (h : Held) → Comes d i p signals f h → IsKeptAt (after d.places d.functions signals j f h)
    kept zero signals ps f h c = ((λ l x e. keeps.fixed i p signals f h l x at c e), keeps.pointers i p signals f h at c)
    kept (suc j) signals ps f h c = by (steps d signals f h) (λ g k x. kept j signals ps g k x)
      where
        by : Steps f h (λ next. A d signals next f h) → ((g : Frames) (k : Held) → Comes d i p signals g k → IsKeptAt (after d.places d.functions signals j g k)) → IsKeptAt (A d signals (after d.places d.functions signals j) f h)
        by (leads g k free e) ih = subst IsKeptAt (sym (e (after d.places d.functions signals j))) (ih g k (goes_on c free (e (after d.places d.functions signals 0))))
        by (waits g w e) ih = subst IsKeptAt (sym (e (after d.places d.functions signals j)))
            ((λ l x u. keeps.fixed i p signals f h l x at c u), keeps.pointers i p signals g (fresh signals h.store.targets) at (resumes signals signals ps ps c w (e (after d.places d.functions signals 0))))
        by (sticks e) ih = subst IsKeptAt (sym (e (after d.places d.functions signals j))) tt
        by (ends e) ih = subst IsKeptAt (sym (e (after d.places d.functions signals j))) tt
