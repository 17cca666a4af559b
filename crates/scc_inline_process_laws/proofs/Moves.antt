-- Frames stay alike where only pointers inside change, and where blocks and functions are left.
use Rattle.std.proofs.Common.{◌≡◌, ℕ, zero, suc, ◌≤◌, ◌<◌, Bool, true, false, ◌&&◌, nat_lt, nat_eq, List, [], ◌∷◌, length, Option, if◌then◌else◌, refl, sym, ap, ◌∙◌, subst, arith}
use Rattle.std.proofs.lemmas.Bool.{ltb-true, lt-ltb, eq-eqb}
use Rattle.scc_semantics.specs.Location.{Location, Root, Part, same, same_root, same_calls, same_path}
use Rattle.scc_semantics.specs.Location as location
use Rattle.scc_semantics.specs.Places.{Places}
use Rattle.scc_semantics.specs.Store.{Store, changed}
use Rattle.scc_semantics.specs.Scene.{Names}
use Rattle.scc_semantics.specs.Machine.{Frames, Go, Inner, leave, return, waiting}
use Rattle.scc_core_spec.specs.Term as core
use Rattle.scc_core_spec.specs.Source.{Home}
use Rattle.scc_base.specs.declared.refusal.Place.{Place}
use Rattle.scc_elab_spec.specs.Program.{Code, Function, Wait}
use Rattle.scc_elab_spec.specs.Copied.{Here}
use Rattle.scc_elab_spec.proofs.Chains.{and-first, and-second}
use Rattle.scc_inline_process_laws.specs.Sound.{names_of}
use Rattle.scc_inline_process_laws.specs.SoundCode.{Targets, is_outside, SameOutside, LeadsUp, Moves, IsIdle, IsWider, SameWords, whole_local}
use Rattle.scc_inline_process_laws.specs.Relation.{here, spoken_body, copied_body, IsSteady, IsSoundAt, Below, below_halt, below_inner, below_block, below_call, Alike, alike_stop, alike_end, alike_on, alike_clear, alike_enter, alike_begin}

pub outside-wider : (j k n : ℕ) (r : Root) → n ≤ k → is_outside j n r ≡ true → is_outside j k r ≡ true
outside-wider j k n location.Top le e = refl
outside-wider j k n (location.Answer p c) le e = e
outside-wider j k n (location.Local p c m) le e = let l : length c < n = ltb-true (length c) n (and-second (nat_eq j p) (nat_lt (length c) n) e) in
    ap (λ b. b && nat_lt (length c) k) (and-first (nat_eq j p) (nat_lt (length c) n) e) ∙ lt-ltb (length c) k (omega (arith, l, le))

-- what stands in the function at hand
pub local-outside : (j : ℕ) (cs : List ℕ) (n : ℕ) → is_outside j (suc (length cs)) (location.Local j cs n) ≡ true
local-outside j cs n = ap (λ b. b && nat_lt (length cs) (suc (length cs))) (eq-eqb j j refl) ∙ lt-ltb (length cs) (suc (length cs)) (omega arith)

pub answer-outside : (j k : ℕ) (cs : List ℕ) → is_outside j k (location.Answer j cs) ≡ true
answer-outside j k cs = eq-eqb j j refl

pub same-wider : (j : ℕ) (k n : ℕ) (t u : Targets) → n ≤ k → SameOutside j k t u → SameOutside j n t u
same-wider j k n t u le s l e = s l (outside-wider j k n l.root le e)

pub same-then : (j : ℕ) (k : ℕ) (t u v : Targets) → SameOutside j k t u → SameOutside j k u v → SameOutside j k t v
same-then j k t u v a b l e = b l e ∙ a l e

pub same_length : (a b : List ℕ) → same_calls a b ≡ true → length a ≡ length b
same_length [] [] e = refl
same_length [] (y ∷ b) e = cc
same_length (x ∷ a) [] e = cc
same_length (x ∷ a) (y ∷ b) e = ap suc (same_length a b (and-second (nat_eq x y) (same_calls a b) e))

-- a local pointer of so many calls
pub same-changed : (j : ℕ) (k p n : ℕ) (cs : List ℕ) (path : List Part) (o : Option Location) (t : Targets) → k ≤ length cs → SameOutside j k t (changed (record { root = location.Local p cs n; path = path }) o t)
same-changed j k p n cs path o t le m e = by (same (record { root = location.Local p cs n; path = path }) m) refl
  where
    apart : (r : Root) → is_outside j k r ≡ true → same_root (location.Local p cs n) r ≡ true → ⊥
    apart location.Top e f = cc
    apart (location.Answer q c) e f = cc
    apart (location.Local q c z) e f =
        let g : same_calls cs c ≡ true = and-second (nat_eq p q) (same_calls cs c) (and-first (nat_eq p q && same_calls cs c) (nat_eq n z) f) in
        let y = same_length cs c g in let l = ltb-true (length c) k (and-second (nat_eq j q) (nat_lt (length c) k) e) in absurd (omega (arith, y, l, le))

    by : (b : Bool) → same (record { root = location.Local p cs n; path = path }) m ≡ b → (if b then o else t m) ≡ t m
    by true f = absurd (apart m.root e (and-first (same_root (location.Local p cs n) m.root) (same_path path m.path) f))
    by false f = refl

pub moves-wider : (j : ℕ) (k n : ℕ) (t u : Targets) → n ≤ k → Moves j k t u → Moves j n t u
moves-wider j k n t u le s = (same-wider j k n t u le s.0, s.1)

-- the same pointers
pub moves-by : (j : ℕ) (k : ℕ) (t u : Targets) → u ≡ t → LeadsUp j t → Moves j k t u
moves-by j k t u e up = ((λ l x. ap (λ f. f l) e), subst (λ t. LeadsUp j t) (sym e) up)

-- only pointers inside change, and these locals hold their words
abbrev pub Stays : Home → ℕ → ℕ → (ℕ → Bool) → Store → Store → Type 0
Stays home j k w t u = Moves j k t.targets u.targets × SameWords home j w t.words u.words

pub stays-wider : (home : Home) (j k n : ℕ) (inner w : ℕ → Bool) (t u : Store) → n ≤ k → IsWider inner w → Stays home j k inner t u → Stays home j n w t u
stays-wider home j k n inner w t u le wider s = (moves-wider j k n t.targets u.targets le s.0, λ o e. s.1 o (wider o e))

-- the same store
pub stays-by : (home : Home) (j k : ℕ) (w : ℕ → Bool) (t u : Store) → u ≡ t → LeadsUp j t.targets → Stays home j k w t u
stays-by home j k w t u e up = (moves-by j k t.targets u.targets (ap (λ s. s.targets) e) up, λ o f. ap (λ s. s.words (whole_local home j o)) e)

-- any words, where none of them matters
pub stays-idle : (home : Home) (j k : ℕ) (w : ℕ → Bool) (t u : Store) → IsIdle w → u.targets ≡ t.targets → LeadsUp j t.targets → Stays home j k w t u
stays-idle home j k w t u idle e up = (moves-by j k t.targets u.targets e up, λ o f. absurd (let z : false ≡ true = sym (idle o) ∙ f in cc))

module _ (home : Home) (places : Places) (own : Names) (h : Here) where
  pub alike-up : {t : Store} {f f' : Frames} → Alike home places own h t f f' → LeadsUp h.process t.targets
  alike-up (alike_stop x) = x
  alike-up (alike_end x) = x
  alike-up (alike_on mark mark' left g this o before b s st r) = st.2
  alike-up (alike_clear mark mark' left g this o before b p n m all homed placed spared s st r) = st.2
  alike-up (alike_enter wider mark mark' n left cs from f this object o q p j args before b d left' sf sq sa sb so r) = so.2
  alike-up (alike_begin wider mark mark' n left cs from f this object o q p z args before b d left' sf sq sa sr sp sb so r) = so.2

  pub steady-moves : (cs : List ℕ) (this : core.Left) (o : Option Location) (w : ℕ → Bool) (t u : Store) → Stays home h.process (length cs) w t u → IsSteady home places own h cs this o w t → IsSteady home places own h cs this o w u
  steady-moves cs this o w t u a f = (
    f.0,
    (λ signals s k b x. f.1 signals s k (same-then h.process (length cs) t.targets u.targets s.targets a.0.0 b) (λ n e. x n e ∙ a.1 n e)),
    a.0.1,
    f.3,
  )

  pub below-moves : {cs : List ℕ} {w : ℕ → Bool} {d : ℕ} {t : Store} {k k' : Frames} (u : Store) → Stays home h.process (length cs) w t u → Below home places own h cs w d t k k' → Below home places own h cs w d u k k'
  below-moves u a (below_halt idle x) = below_halt idle a.0.1
  below-moves u a (below_inner {cs = cs} {w = w} {t = t} left g this o before b s f r) = below_inner left g this o before b s (steady-moves cs this o w t u a f) (below-moves u a r)
  below-moves u a (below_block {cs = cs} {w = w} {t = t} left g this o before b s f r) = below_block left g this o before b s (steady-moves cs this o w t u a f) (below-moves u a r)
  below-moves u a (below_call {cs = cs} {w = w} {inner = inner} {t = t} wider n left g this o before b s f r) =
      let x = stays-wider home h.process (length (n ∷ cs)) (length cs) inner w t u (omega arith) wider a in below_call wider n left g this o before b s (steady-moves cs this o w t u x f) (below-moves u x r)

  pub below-leave : {cs : List ℕ} {w : ℕ → Bool} {d : ℕ} {t : Store} {k k' : Frames} (j : ℕ) → j < d → Below home places own h cs w d t k k' → Alike home places own h t (leave j k) (leave j k')
  below-leave j lt (below_halt idle x) = absurd (omega (arith, lt))
  below-leave j lt (below_inner left g this o before b s f r) = below-leave j lt r
  below-leave zero lt (below_block left g this o before b s f r) = alike_on Inner Inner left g this o before b s f r
  below-leave (suc j) lt (below_block left g this o before b s f r) = below-leave j (omega (arith, lt)) r
  below-leave j lt (below_call wider n left g this o before b s f r) = absurd (omega (arith, lt))

  pub below-return : {cs : List ℕ} {w : ℕ → Bool} {d : ℕ} {t : Store} {k k' : Frames} → Below home places own h cs w d t k k' → Alike home places own h t (return k) (leave d k')
  below-return (below_halt idle x) = alike_end x
  below-return (below_inner left g this o before b s f r) = below-return r
  below-return (below_block left g this o before b s f r) = below-return r
  below-return (below_call wider n left g this o before b s f r) = alike_on Inner Inner left g this o before b s f r

  pub alike-waiting : {cs : List ℕ} {w : ℕ → Bool} {d : ℕ} {t : Store} {k k' : Frames} (c : ℕ) (p : Place) (left : ℕ) (g : Function) (this : core.Left) (o : Option Location) (before : List ℕ) (b : Code)
      → IsIdle w → IsSoundAt home places own h left (here home places own h cs g this) w d b → IsSteady home places own h cs this o w t → Below home places own h cs w d t k k'
      → (u : Store) → u.targets ≡ t.targets
      → Alike home places own h u (waiting 0 c (Go Inner (names_of (here home places own h cs g this) o) (spoken_body home places own h g before b) k))
      (waiting 0 c (Go Inner own (copied_body home places own h left (here home places own h cs g this) d before b) k'))
  alike-waiting {cs = cs} {w = w} {t = t} zero p left g this o before b idle s f r u e =
      let x = stays-idle home h.process (length cs) w t u idle e f.2 in alike_on Inner Inner left g this o before b s (steady-moves cs this o w t u x f) (below-moves u x r)
  alike-waiting {cs = cs} {w = w} {t = t} (suc c) p left g this o before b idle s f r u e =
      let x = stays-idle home h.process (length cs) w t u idle e f.2 in alike_on Inner Inner left g this o before (Wait p (suc c) b) (idle, s) (steady-moves cs this o w t u x f) (below-moves u x r)

  -- where pointers of other processes alone change
  pub alike-moves : {t : Store} {f f' : Frames} (u : Store) → ((k : ℕ) → Moves h.process k t.targets u.targets) → u.words ≡ t.words → Alike home places own h t f f' → Alike home places own h u f f'
  alike-moves u a e (alike_stop x) = alike_stop (a 0).1
  alike-moves u a e (alike_end x) = alike_end (a 0).1
  alike-moves {t = t} u a e (alike_on {cs = cs} {w = w} mark mark' left g this o before b s st r) =
      let x : Stays home h.process (length cs) w t u = (a (length cs), λ n f. ap (λ z. z (whole_local home h.process n)) e) in
      alike_on mark mark' left g this o before b s (steady-moves cs this o w t u x st) (below-moves u x r)
  alike-moves {t = t} u a e (alike_clear {cs = cs} {w = w} mark mark' left g this o before b p n m all homed placed spared s st r) =
      let x : Stays home h.process (length cs) w t u = (a (length cs), λ n f. ap (λ z. z (whole_local home h.process n)) e) in
      alike_clear mark mark' left g this o before b p n m all homed placed spared s (steady-moves cs this o w t u x st) (below-moves u x r)
  alike-moves {t = t} u a e (alike_enter {w = w} {inner = inner} wider mark mark' n left cs from f this object o q p j args before b d left' sf sq sa sb so r) =
      let x : Stays home h.process (length cs) w t u = (a (length cs), λ n f. ap (λ z. z (whole_local home h.process n)) e) in
      let y : Stays home h.process (length (n ∷ cs)) inner t u = (a (length (n ∷ cs)), λ n f. ap (λ z. z (whole_local home h.process n)) e) in
      alike_enter wider mark mark' n left cs from f this object o q p j args before b d left' sf (steady-moves (n ∷ cs) object q inner t u y sq) sa sb (steady-moves cs this o w t u x so) (below-moves u x r)
  alike-moves {t = t} u a e (alike_begin {w = w} {inner = inner} wider mark mark' n left cs from f this object o q p z args before b d left' sf sq sa sr sp sb so r) =
      let x : Stays home h.process (length cs) w t u = (a (length cs), λ n f. ap (λ z. z (whole_local home h.process n)) e) in
      let y : Stays home h.process (length (n ∷ cs)) inner t u = (a (length (n ∷ cs)), λ n f. ap (λ z. z (whole_local home h.process n)) e) in
      alike_begin wider mark mark' n left cs from f this object o q p z args before b d left' sf (steady-moves (n ∷ cs) object q inner t u y sq) sa sr sp sb (steady-moves cs this o w t u x so) (below-moves u x r)
