-- One resume of a process on both sides of designs that mean the same.
use Rattle.std.proofs.Common.{◌≡◌, ◌⊎◌, inl, inr, ℕ, ◌*◌, ◌≤◌, List, [], ◌∷◌, ◌++◌, map, Bool, true, false, not, nat_eq, Option, Some, ap, refl, sym, ◌∙◌, subst, arith, if◌then◌else◌}
use Rattle.scc_semantics.specs.Location.{Location}
use Rattle.scc_semantics.specs.Store.{Request}
use Rattle.scc_semantics.specs.Places.{Sort, Combinational, Clocked, Thread}
use Rattle.scc_semantics.specs.Design.{Process, Design}
use Rattle.scc_semantics.specs.Value.{Held}
use Rattle.scc_semantics.specs.Machine.{Frames, Stop, Outcome, Suspended, Ended, Stuck, Unfinished, run}
use Rattle.scc_semantics.specs.Process.{Phase, Went, Well, Failed, first_frames, is_reset, resumed_frames, framed, is_thread, suspended, left_by}
use Rattle.scc_semantics.specs.Start.{IsProper}
use Rattle.scc_semantics.specs.Same.{Turn, Ending, Waits, Ends, Sticks, Seen, Middle, is_own, is_others, same_target, moved, seen_as, seen_of, leading, left_in, resumed, Plays, AllProper}
use Rattle.scc_semantics.specs.Steady.{plain_body, AllProperRequests, AllProperSeen}
use Rattle.scc_semantics_laws.specs.Alike.{SameHeld}
use Rattle.scc_semantics_laws.specs.Words.{IsOver, PlainFrames, PlainLeft, aimed, all_aimed, behind, all_behind}
use Rattle.scc_semantics_laws.proofs.Bound.{run-later, run-one}
use Rattle.scc_semantics_laws.proofs.Places.{target-is, target-self, append-proper}
use Rattle.scc_semantics_laws.proofs.Sim.{Own, middle}

some-is : {A : Type 0} {x y : A} → Some x ≡ Some y → x ≡ y
some-is e = cc

pub over-seen : (i : ℕ) (before : Location → Option Location) (o : Outcome) (s : Seen) → seen_of i before o ≡ Some s → IsOver o
over-seen i before (Suspended f h) s e = tt
over-seen i before (Ended h) s e = tt
over-seen i before (Stuck h) s e = tt
over-seen i before Unfinished s e = absurd cc

abbrev pub starts_over : (Location → ℕ) → Sort → Bool
starts_over signals (Thread edge reset) = is_reset signals reset
starts_over signals _ = true

pub starts-from : (signals : Location → ℕ) (i : ℕ) (p : Process) (sort : Sort) (frames : ℕ → Frames) (f : Frames) → frames i ≡ f
    → resumed_frames signals i p sort frames ≡ (if starts_over signals sort then first_frames i p else f)
starts-from signals i p (Thread edge reset) frames f e = ap (λ g. if is_reset signals reset then first_frames i p else g) e
starts-from signals i p (Combinational senses) frames f e = refl
starts-from signals i p (Clocked edge) frames f e = refl

-- from where, and on what, a resume begins
abbrev pub starts : ℕ → Process → Turn → Middle → Frames
starts i p t m = if t.restarts then first_frames i p else m.frames

abbrev pub finds : ℕ → Turn → Middle → Held
finds i t m = record { store = record { words = t.words; targets = leading i t m }; requests = [] }

resumed-one : (d : Design) (i : ℕ) (p : Process) (t : Turn) (m : Middle) (n c : ℕ) → IsOver (resumed d i p n t m) → IsOver (resumed d i p c t m) → resumed d i p n t m ≡ resumed d i p c t m
resumed-one d i p t m n c v w = run-one d.places d.functions t.signals n c (starts i p t m) (finds i t m) v w

-- with more statements allowed
pub later-left : (d : Design) (signals : Location → ℕ) (i : ℕ) (sort : Sort) (frames : ℕ → Frames) (f : Frames) (h : Held) (n c : ℕ) (o : Outcome) → run d.places d.functions signals n f h ≡ o → IsOver o → n ≤ c
    → left_by sort i frames (run d.places d.functions signals c f h) ≡ left_by sort i frames o
later-left d signals i sort frames f h n c o e v le =
    ap (left_by sort i frames) (run-later d.places d.functions signals n c le f h (subst IsOver (sym e) v) ∙ e)

pub behind-over : (rs : List Request) (o : Outcome) → IsOver o → IsOver (all_behind rs o)
behind-over rs (Suspended f h) v = tt
behind-over rs (Ended h) v = tt
behind-over rs (Stuck h) v = tt
behind-over rs Unfinished v = v

pub aimed-over : (t : Location → Option Location) (o : Outcome) → IsOver o → IsOver (all_aimed t o)
aimed-over t (Suspended f h) v = tt
aimed-over t (Ended h) v = tt
aimed-over t (Stuck h) v = tt
aimed-over t Unfinished v = v

-- what went well is seen
pub well-seen : (i : ℕ) (before : Location → Option Location) (sort : Sort) (frames : ℕ → Frames) (rs : List Request) (o : Outcome) (t : Phase) → left_by sort i frames (all_behind rs o) ≡ Well t
    → (s : Seen) × (seen_of i before o ≡ Some s)
well-seen i before sort frames rs (Suspended f h) t e = (seen_as i before Waits h, refl)
well-seen i before sort frames rs (Ended h) t e = (seen_as i before Ends h, refl)
well-seen i before sort frames rs (Stuck h) t e = absurd cc
well-seen i before sort frames rs Unfinished t e = absurd cc

pub well-seen-aimed : (i : ℕ) (before to : Location → Option Location) (sort : Sort) (frames : ℕ → Frames) (rs : List Request) (o : Outcome) (t : Phase) → left_by sort i frames (all_behind rs (all_aimed to o)) ≡ Well t
    → (s : Seen) × (seen_of i before o ≡ Some s)
well-seen-aimed i before to sort frames rs (Suspended f h) t e = (seen_as i before Waits h, refl)
well-seen-aimed i before to sort frames rs (Ended h) t e = (seen_as i before Ends h, refl)
well-seen-aimed i before to sort frames rs (Stuck h) t e = absurd cc
well-seen-aimed i before to sort frames rs Unfinished t e = absurd cc

-- nothing of others moved
unmoved : (i : ℕ) (a b c : Location → Option Location) → moved i a b ≡ moved i c c → (l : Location) → is_own i l.root ≡ false → b l ≡ a l
unmoved i a b c e l own = sym (target-is (a l) (b l) (not-false (same_target (a l) (b l)) (here ∙ there)))
  where
    not-false : (x : Bool) → not x ≡ false → x ≡ true
    not-false true g = refl
    not-false false g = cc

    here : not (same_target (a l) (b l)) ≡ moved i c c l
    here = ap (λ x. if x then false else not (same_target (a l) (b l))) (sym own) ∙ ap (λ f. f l) e

    there : moved i c c l ≡ false
    there = ap (λ x. if x then false else not (same_target (c l) (c l))) own ∙ ap not (target-self (c l))

framed-own : (i : ℕ) (f : Frames) (frames : ℕ → Frames) → framed i f frames i ≡ f
framed-own i f frames = let e : nat_eq i i ≡ true = grind arith in ap (λ x. if x then f else frames i) e

framed-other : (i : ℕ) (f : Frames) (frames : ℕ → Frames) (j : ℕ) → nat_eq i j ≡ false → framed i f frames j ≡ frames j
framed-other i f frames j e = ap (λ x. if x then f else frames j) e

module _ (k : ℕ) (d e : Design) where
  -- from here on both show the same
  pub record AlikeIn (i : ℕ) (p q : Process) (m n : Middle) : Type 0 where
    pub plays : (ns : List ℕ) (ts : List Turn) (os : List Seen) → AllProper d ts → Plays d i p m ns ts os → (ms : List ℕ) × Plays e i q n ms ts os
    pub only : (ns : List ℕ) (ts : List Turn) (os : List Seen) → AllProper d ts → Plays e i q n ns ts os → Plays d i p m (map (λ c. k * c) ns) ts os

  -- from here on only proper words are shown
  abbrev pub SteadyIn : ℕ → Process → Middle → Type 0
  SteadyIn i q n = (ns : List ℕ) (ts : List Turn) (os : List Seen) → AllProper d ts → Plays e i q n ns ts os → AllProperSeen d os

  -- x and y: where the process stands, and all pointers lead, in the states of d and e
  pub record Tie (i : ℕ) (p q : Process) (x y : Middle) : Type 0 where
    pub here : Middle
    pub there : Middle
    pub alike : AlikeIn i p q here there
    pub steady : SteadyIn i q there
    pub body : plain_body q.body ≡ true
    pub plain : PlainFrames there.frames
    pub frames : x.frames ≡ here.frames
    pub targets : (l : Location) → is_others i l.root ≡ false → x.targets l ≡ here.targets l
    pub frames_too : y.frames ≡ there.frames

  pub tie-stays : (i : ℕ) (p q : Process) (x y x' y' : Middle) → Tie i p q x y → x'.frames ≡ x.frames → y'.frames ≡ y.frames → ((l : Location) → is_others i l.root ≡ false → x'.targets l ≡ x.targets l) → Tie i p q x' y'
  tie-stays i p q x y x' y' t fx fy tx = record {
    here = t.here;
    there = t.there;
    alike = t.alike;
    steady = t.steady;
    body = t.body;
    plain = t.plain;
    frames = fx ∙ t.frames;
    targets = λ l h. tx l h ∙ t.targets l h;
    frames_too = fy ∙ t.frames_too;
  }

  module _ (i : ℕ) (p q : Process) (m n : Middle) (t : Turn) (words : IsProper d t.words) (signals : IsProper d t.signals) where
    pub goes-slow : AlikeIn i p q m n → (c : ℕ) (o : Seen) → seen_of i (leading i t n) (resumed e i q c t n) ≡ Some o
        → (seen_of i (leading i t m) (resumed d i p (k * c) t m) ≡ Some o) × AlikeIn i p q (left_in (resumed d i p (k * c) t m) m) (left_in (resumed e i q c t n) n)
    goes-slow a c o seen =
        let seen_d = (a.only (c ∷ []) (t ∷ []) (o ∷ []) (words, signals, tt) (seen, tt)).0 in (
          seen_d,
          record {
            plays = λ ns ts os h x. behind_first ts os (a.plays (k * c ∷ ns) (t ∷ ts) (o ∷ os) (words, signals, h) (seen_d, x));
            only = λ ns ts os h x. (a.only (c ∷ ns) (t ∷ ts) (o ∷ os) (words, signals, h) (seen, x)).1;
          },
        )
      where
        behind_first : (ts : List Turn) (os : List Seen) → ((ms : List ℕ) × Plays e i q n ms (t ∷ ts) (o ∷ os)) → (ms : List ℕ) × Plays e i q (left_in (resumed e i q c t n) n) ms ts os
        behind_first ts os y = by y.0 y.1
          where
            by : (ms : List ℕ) → Plays e i q n ms (t ∷ ts) (o ∷ os) → (ms : List ℕ) × Plays e i q (left_in (resumed e i q c t n) n) ms ts os
            by [] z = absurd z
            by (b ∷ ms) z = (
              ms,
              subst (λ r. Plays e i q (left_in r n) ms ts os)
                  (resumed-one e i q t n b c (over-seen i (leading i t n) (resumed e i q b t n) o z.0) (over-seen i (leading i t n) (resumed e i q c t n) o seen)) z.1,
            )

    pub goes-fast : AlikeIn i p q m n → (c : ℕ) (o : Seen) → seen_of i (leading i t m) (resumed d i p c t m) ≡ Some o
        → (b : ℕ) × (seen_of i (leading i t n) (resumed e i q b t n) ≡ Some o) × AlikeIn i p q (left_in (resumed d i p c t m) m) (left_in (resumed e i q b t n) n)
    goes-fast a c o seen = by (a.plays (c ∷ []) (t ∷ []) (o ∷ []) (words, signals, tt) (seen, tt)).0 (a.plays (c ∷ []) (t ∷ []) (o ∷ []) (words, signals, tt) (seen, tt)).1
      where
        by : (ms : List ℕ) → Plays e i q n ms (t ∷ []) (o ∷ []) → (b : ℕ) × (seen_of i (leading i t n) (resumed e i q b t n) ≡ Some o) × AlikeIn i p q (left_in (resumed d i p c t m) m) (left_in (resumed e i q b t n) n)
        by [] z = absurd z
        by (b ∷ ms) z =
            let s = goes-slow a b o z.0 in (
              b,
              z.0,
              subst (λ r. AlikeIn i p q (left_in r m) (left_in (resumed e i q b t n) n))
                  (resumed-one d i p t m (k * b) c (over-seen i (leading i t m) (resumed d i p (k * b) t m) o s.0) (over-seen i (leading i t m) (resumed d i p c t m) o seen)) s.1,
            )

    pub steady-now : SteadyIn i q n → (c : ℕ) (o : Seen) → seen_of i (leading i t n) (resumed e i q c t n) ≡ Some o → IsProper d o.words × AllProperRequests d o.requests
    steady-now h c o seen = let x = h (c ∷ []) (t ∷ []) (o ∷ []) (words, signals, tt) (seen, tt) in (x.0, x.1)

    pub steady-next : SteadyIn i q n → (c : ℕ) (o : Seen) → seen_of i (leading i t n) (resumed e i q c t n) ≡ Some o → SteadyIn i q (left_in (resumed e i q c t n) n)
    steady-next h c o seen = λ ns ts os g x. (h (c ∷ ns) (t ∷ ts) (o ∷ os) (words, signals, g) (seen, x)).2

  -- two resumes on both sides, both well
  pub record Both (i : ℕ) (p q : Process) (sx sy : Phase) (wx wy : Went Phase) : Type 0 where
    pub to : Phase
    pub to_too : Phase
    pub is : wx ≡ Well to
    pub is_too : wy ≡ Well to_too
    pub held : SameHeld d to to_too
    pub tie : Tie i p q (middle i to) (middle i to_too)
    pub own : Own i sx to
    pub own_too : Own i sy to_too

  module _ (i : ℕ) (p q : Process) (sx sy : Phase) (sort : p.sort ≡ q.sort) (proper : SameHeld d sx sy) (body : plain_body q.body ≡ true) (ld le : Location → Option Location)
      (found : (l : Location) → sx.held.store.targets l ≡ ld l) where
    abbrev rs : List Request
    rs = sx.held.requests

    abbrev left_x : Outcome → Went Phase
    left_x o = left_by p.sort i sx.frames (all_behind rs o)

    abbrev left_y : Outcome → Went Phase
    left_y o = left_by p.sort i sy.frames (all_behind rs (all_aimed sy.held.store.targets o))

    joined : (f g : Frames) (h j : Held) (way : Ending) (o : Seen) → Some (seen_as i ld way h) ≡ Some o → Some (seen_as i le way j) ≡ Some o → j.store.targets ≡ le → IsProper d o.words × AllProperRequests d o.requests
        → AlikeIn i p q (record { frames = f; targets = h.store.targets }) (record { frames = g; targets = j.store.targets }) → SteadyIn i q (record { frames = g; targets = j.store.targets }) → PlainFrames g
        → Both i p q sx sy (Well (record { held = behind rs h; frames = framed i f sx.frames })) (Well (record { held = behind rs (aimed sy.held.store.targets j); frames = framed i g sy.frames }))
    joined f g h j way o sd se still fine alike steady plain =
        let eh = some-is sd in
        let ej = some-is se in
        let same : seen_as i ld way h ≡ seen_as i le way j = eh ∙ sym ej in
        record {
          to = record { held = behind rs h; frames = framed i f sx.frames };
          to_too = record { held = behind rs (aimed sy.held.store.targets j); frames = framed i g sy.frames };
          is = refl;
          is_too = refl;
          held = record {
            words = ap (λ s. s.words) same;
            requests = ap (λ s. rs ++ s.requests) same;
            proper = subst (λ s. IsProper d s.words) (sym eh) fine.0;
            asks = append-proper d rs h.requests proper.asks (subst (λ s. AllProperRequests d s.requests) (sym eh) fine.1);
          };
          tie = record {
            here = record { frames = f; targets = h.store.targets };
            there = record { frames = g; targets = j.store.targets };
            alike = alike;
            steady = steady;
            body = body;
            plain = plain;
            frames = framed-own i f sx.frames;
            targets = λ l u. refl;
            frames_too = framed-own i g sy.frames;
          };
          own = record {
            frames = framed-other i f sx.frames;
            targets = λ l u. unmoved i ld h.store.targets le (ap (λ s. s.moved) same ∙ ap (moved i le) still) l u ∙ sym (found l);
          };
          own_too = record { frames = framed-other i g sy.frames; targets = λ l u. refl };
        }

    stays-aimed : (f g : Frames) (j k : Held) → Suspended f j ≡ Suspended g k → j.store.targets ≡ k.store.targets
    stays-aimed f g j k e = ap (λ h. h.store.targets) (held-is e)
      where
        held-is : Suspended f j ≡ Suspended g k → j ≡ k
        held-is e = cc

    stays-ended : (j k : Held) → Ended j ≡ Ended k → j.store.targets ≡ k.store.targets
    stays-ended j k e = ap (λ h. h.store.targets) (held-is e)
      where
        held-is : Ended j ≡ Ended k → j ≡ k
        held-is e = cc

    abbrev Joins : Outcome → Outcome → Type 0
    Joins a b = Both i p q sx sy (left_x a) (left_y b) ⊎ ((left_x a ≡ Failed i) × (left_y b ≡ Failed i))

    other : {A : Type 0} (h j : Held) (v w : Ending) (o : Seen) → Some (seen_as i ld v h) ≡ Some o → Some (seen_as i le w j) ≡ Some o → (v ≡ w → A) → A
    other h j v w o sd se f = f (ap (λ s. s.ending) (some-is sd ∙ sym (some-is se)))

    pub joins : (m n : Middle) (a b : Outcome) (o : Seen) → seen_of i ld a ≡ Some o → seen_of i le b ≡ Some o → b ≡ all_aimed le b → PlainLeft b → IsProper d o.words × AllProperRequests d o.requests
        → AlikeIn i p q (left_in a m) (left_in b n) → SteadyIn i q (left_in b n) → Joins a b
    joins m n (Suspended f h) (Suspended g j) o sd se still plain fine alike steady = by (is_thread p.sort)
      where
        by : (w : Bool) → Both i p q sx sy (suspended w i sx.frames f (behind rs h)) (suspended w i sy.frames g (behind rs (aimed sy.held.store.targets j)))
            ⊎ ((suspended w i sx.frames f (behind rs h) ≡ Failed i) × (suspended w i sy.frames g (behind rs (aimed sy.held.store.targets j)) ≡ Failed i))
        by true = inl (joined f g h j Waits o sd se (stays-aimed g g j (aimed le j) still) fine alike steady plain)
        by false = inr (refl, refl)
    joins m n (Ended h) (Ended j) o sd se still plain fine alike steady = inl (joined Stop Stop h j Ends o sd se (stays-ended j (aimed le j) still) fine alike steady tt)
    joins m n (Stuck h) (Stuck j) o sd se still plain fine alike steady = inr (refl, refl)
    joins m n Unfinished b o sd se still plain fine alike steady = absurd cc
    joins m n (Suspended f h) Unfinished o sd se still plain fine alike steady = absurd cc
    joins m n (Ended h) Unfinished o sd se still plain fine alike steady = absurd cc
    joins m n (Stuck h) Unfinished o sd se still plain fine alike steady = absurd cc
    joins m n (Suspended f h) (Ended j) o sd se still plain fine alike steady = other h j Waits Ends o sd se (λ x. absurd cc)
    joins m n (Suspended f h) (Stuck j) o sd se still plain fine alike steady = other h j Waits Sticks o sd se (λ x. absurd cc)
    joins m n (Ended h) (Suspended g j) o sd se still plain fine alike steady = other h j Ends Waits o sd se (λ x. absurd cc)
    joins m n (Ended h) (Stuck j) o sd se still plain fine alike steady = other h j Ends Sticks o sd se (λ x. absurd cc)
    joins m n (Stuck h) (Suspended g j) o sd se still plain fine alike steady = other h j Sticks Waits o sd se (λ x. absurd cc)
    joins m n (Stuck h) (Ended j) o sd se still plain fine alike steady = other h j Sticks Ends o sd se (λ x. absurd cc)
