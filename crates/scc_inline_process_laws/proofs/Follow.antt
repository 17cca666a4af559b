-- A copied body follows the function with its calls.
use Rattle.std.proofs.Common.{◌≡◌, ℕ, zero, suc, ◌≤◌, Bool, true, false, List, [], ◌∷◌, ◌++◌, map, length, Option, Some, None, option_map, unwrap_or, slice_get, is_some, if◌then◌else◌, refl, sym, ap, ◌∙◌, subst, arith}
use Rattle.scc_base.specs.declared.refusal.Place.{Place}
use Rattle.scc_bits_kinds.specs.declared.kind.Kind.{Kind}
use Rattle.scc_semantics.specs.Location.{Location, Element}
use Rattle.scc_semantics.specs.Location as location
use Rattle.scc_semantics.specs.Expressions as body
use Rattle.scc_semantics.specs.Expressions.{Expr}
use Rattle.scc_semantics.specs.Places.{Places}
use Rattle.scc_semantics.specs.Store.{Store, changed}
use Rattle.scc_semantics.specs.Scene.{Names, Scene, followed}
use Rattle.scc_semantics.specs.Body as machine
use Rattle.scc_semantics.specs.Body.{Body}
use Rattle.scc_semantics.specs.Value as running
use Rattle.scc_semantics.specs.Value.{Held, locate, value, picked, put_at, with_words, with_targets, called, local, answer}
use Rattle.scc_semantics.specs.Machine.{Frames, Stop, Go, Mark, Inner, BehindBlock, BehindCall, Outcome, unless_stuck, pointed_at, cleared, pick, leave, return, one_less}
use Rattle.scc_semantics.specs.Machine as steps
use Rattle.scc_core_spec.specs.Term as core
use Rattle.scc_core_spec.specs.Code as stmt
use Rattle.scc_core_spec.specs.Source as source
use Rattle.scc_core_spec.specs.Source.{Home, location_of, expr_of, aimed}
use Rattle.scc_elab_spec.specs.Term.{Term, Left, Local, Answer, This, Follow, Index, Pick, Whole, Target, Argument, Value, Leads, ModuleName}
use Rattle.scc_elab_spec.specs.Term as term
use Rattle.scc_elab_spec.specs.Program.{Code, End, Declare, Assign, Point, Write, Call, If, Loop, Block, Exit, Return, Wait, Make, Bind, Process, Sensitive, Quiet, Reset, Function, Member}
use Rattle.scc_elab_spec.specs.Types.{is_direct}
use Rattle.scc_elab_spec.specs.Copied as copied
use Rattle.scc_elab_spec.specs.Copied.{Here, local_name, local_root, answer_name}
use Rattle.scc_elab_spec.specs.Bodies.{result_name, object_of, pointed, cell_of, inside, passed, zeroed, elements, sizes_of, is_first, local_as_whole}
use Rattle.scc_elab_spec.specs.Bodies as bodies
use Rattle.scc_inline_spec.specs.Inlined.{body_of, call_of}
use Rattle.scc_elab_spec.specs.Spoken as spoken
use Rattle.scc_inline_process_laws.specs.Sound.{names_of, IsHomed}
use Rattle.scc_inline_process_laws.specs.SoundCode.{IsWider, whole_local, LeadsUp, Moves, Knows, IsSoundTarget, IsSoundAnswer, SparesAnswer, AreSoundArguments, AllPlaced, AllSpared}
use Rattle.scc_inline_process_laws.specs.Relation.{around, rare, here, spoken_body, machine_code, copied_body, IsSteady, IsSoundAt, Below, below_halt, below_inner, below_block, below_call, Alike, alike_stop, alike_end, alike_on, alike_clear, alike_enter, alike_begin}
use Rattle.scc_inline_process_laws.proofs.Upward.{leads-changed, up-target}
use Rattle.scc_inline_process_laws.proofs.Moves.{Stays, stays-wider, stays-by, outside-wider, moves-by, same-changed, steady-moves, below-moves, below-leave, below-return, alike-waiting}
use Rattle.scc_inline_process_laws.proofs.Steps.{followed-is, put-targets, put-words, put-same, put-whole, lead-pointer, element-at, outcomes, kept, keeps, run_plain, run_copy, trace, Follows, both, pop, keeps-pop}
use Rattle.scc_core_spec.specs.Counted.{own_at, is_it}
use Rattle.scc_core_unroll_laws.specs.Unrolling.{Counters, LeadsWell}
use Rattle.scc_inline_process_laws.proofs.Misses.{spared-words, spared-changed}
use Rattle.scc_inline_process_laws.proofs.Same.{cleft, scene_of, aim-is, own-cell, plain_at, value-same, left-same, pick-same, target-same, object-found}

module _ (home : Home) (places : Places) (signals : Location → ℕ) (own : Names) (h : Here) (counters : Counters (around home places own h)) where
  abbrev pub at : List ℕ → Function → core.Left → Here
  at cs g this = here home places own h cs g this

  abbrev pub spoke : Function → List ℕ → Code → Body
  spoke g before b = spoken_body home places own h g before b

  abbrev pub code : stmt.Code → Body
  code c = machine_code home places own h c

  abbrev pub copy : ℕ → Here → ℕ → List ℕ → Code → Body
  copy left to d before b = copied_body home places own h left to d before b

  abbrev pub names : List ℕ → Function → core.Left → Option Location → Names
  names cs g this o = names_of (at cs g this) o

  abbrev pub Alikes : Store → Frames → Frames → Type 0
  Alikes t f f' = Alike home places own h t f f'

  abbrev pub Belows : List ℕ → (ℕ → Bool) → ℕ → Store → Frames → Frames → Type 0
  Belows cs held d t k k' = Below home places own h cs held d t k k'

  abbrev pub Steady : List ℕ → core.Left → Option Location → (ℕ → Bool) → Store → Type 0
  Steady cs this o held t = IsSteady home places own h cs this o held t

  abbrev pub Sound : ℕ → Here → (ℕ → Bool) → ℕ → Code → Type 0
  Sound left to held d b = IsSoundAt home places own h left to held d b

  abbrev pub Followed : ℕ → Frames → Frames → Held → Type 0
  Followed n f f' a = Follows home places signals own h n f f' a

  abbrev pub Keeps : Frames → Held → Type 0
  Keeps f a = keeps home places signals own h f a

  abbrev pub go : ℕ → Frames → Held → Outcome
  go n f a = run_plain home places signals own h n f a

  abbrev pub went : ℕ → Frames → Held → Outcome
  went m f a = run_copy home places signals own h m f a

  abbrev pub along : ℕ → Frames → Held → Outcome
  along j f a = trace home places signals own h j f a

  abbrev pub Out : Outcome → Outcome → Type 0
  Out x y = outcomes home places signals own h x y

  abbrev pub All : ℕ → Type 0
  All n = (f f' : Frames) (a : Held) → Alikes a.store f f' → Keeps f' a → Followed n f f' a

  -- an assignment on both sides
  assigning : (n : ℕ) (a : Held) (cs ps : Scene) (V v : Option ℕ) → V ≡ v → (W w : Option (Option Location)) → W ≡ w → (p' p : body.Pick)
      → ((j : Kind) (old new : ℕ) → picked cs j p' old new ≡ picked ps j p old new) → (k k' : Frames)
      → ((b : Held) (l : Location) → W ≡ Some (Some l) → b.store.targets ≡ a.store.targets → ((m : Location) → (m ≡ l → ⊥) → b.store.words m ≡ a.store.words m) → Keeps k' b → Followed n k k' b)
      → ((j : ℕ) → kept home places signals own h (unless_stuck a V (λ x. unless_stuck a (followed W) (λ l. unless_stuck a (put_at (places.things l) cs a l p' x) (along j k')))))
      → (m : ℕ) × (n ≤ m) × Out (unless_stuck a v (λ x. unless_stuck a (followed w) (λ l. unless_stuck a (put_at (places.things l) ps a l p x) (go n k))))
      (unless_stuck a V (λ x. unless_stuck a (followed W) (λ l. unless_stuck a (put_at (places.things l) cs a l p' x) (went m k'))))
  assigning n a cs ps V v ev W w ew p' p ep k k' next keep =
      both home places signals own h n a v V ev (λ x. unless_stuck a (followed w) (λ l. unless_stuck a (put_at (places.things l) ps a l p x) (go n k)))
      (λ m x. unless_stuck a (followed W) (λ l. unless_stuck a (put_at (places.things l) cs a l p' x) (went m k')))
      (λ j x. unless_stuck a (followed W) (λ l. unless_stuck a (put_at (places.things l) cs a l p' x) (along j k'))) keep
      (λ x ex keep1. both home places signals own h n a (followed w) (followed W) (ap followed ew) (λ l. unless_stuck a (put_at (places.things l) ps a l p x) (go n k))
      (λ m l. unless_stuck a (put_at (places.things l) cs a l p' x) (went m k'))
      (λ j l. unless_stuck a (put_at (places.things l) cs a l p' x) (along j k')) keep1
      (λ l el keep2. both home places signals own h n a (put_at (places.things l) ps a l p x) (put_at (places.things l) cs a l p' x) (put-same (places.things l) cs ps a l p' p x ep)
      (go n k) (λ m. went m k') (λ j. along j k') keep2
      (λ b eb keep3. next b l (ew ∙ followed-is w l el) (put-targets (places.things l) ps a b l p x eb) (put-words (places.things l) ps a b l p x eb) keep3)))

  -- what an assignment elsewhere leaves
  put-stays : (a b : Held) (k : ℕ) (held : ℕ → Bool) (C : core.Left) (l : Location) → LeadsUp h.process a.store.targets → LeadsWell (around home places own h) a.store.targets → IsWider (rare home places own h) held
      → ((o : ℕ) → held o ≡ true → is_it o (own_at h.cells C) ≡ false) → locate (scene_of home places signals own h a.store) (cleft home places signals own h C) ≡ Some (Some l)
      → b.store.targets ≡ a.store.targets → ((m : Location) → (m ≡ l → ⊥) → b.store.words m ≡ a.store.words m) → Stays home h.process k held a.store b.store
  put-stays a b k held C l up leads few spares at e other = (moves-by h.process k a.store.targets b.store.targets e up, λ o f. other (whole_local home h.process o) (spared-words home places own h counters signals a leads held few C spares l at o f))

  -- a word that is put at a place of its own
  word-stays : (a : Held) (k : ℕ) (held : ℕ → Bool) (C : core.Left) (l : Location) (x : ℕ) → LeadsUp h.process a.store.targets → LeadsWell (around home places own h) a.store.targets → IsWider (rare home places own h) held
      → ((o : ℕ) → held o ≡ true → is_it o (own_at h.cells C) ≡ false) → locate (scene_of home places signals own h a.store) (cleft home places signals own h C) ≡ Some (Some l)
      → Stays home h.process k held a.store (with_words a (changed l x a.store.words)).store
  word-stays a k held C l x up leads few spares at = (moves-by h.process k a.store.targets a.store.targets refl up, spared-changed home places own h counters signals a leads held few C spares l at x)

  -- frames go on where their store goes on
  pub on : {d : ℕ} {cs : List ℕ} {held : ℕ → Bool} {k k' : Frames} (left : ℕ) (g : Function) (this : core.Left) (o : Option Location) (before : List ℕ) (b : Code) (t u : Store) → Stays home h.process (length cs) held t u
      → Sound left (at cs g this) held d b → Steady cs this o held t → Belows cs held d t k k'
      → Alikes u (Go Inner (names cs g this o) (spoke g before b) k) (Go Inner own (copy left (at cs g this) d before b) k')
  on {cs = cs} {held = held} left g this o before b t u m s st r = alike_on Inner Inner left g this o before b s (steady-moves home places own h cs this o held t u m st) (below-moves home places own h u m r)

  -- a branch
  branched : (n : ℕ) → All n → {d : ℕ} {cs : List ℕ} {held : ℕ → Bool} {k k' : Frames} (v : ℕ) (left : ℕ) (g : Function) (this : core.Left) (o : Option Location) (b1 b2 : List ℕ) (x y : Code) (a : Held)
      → Sound left (at cs g this) held d x → Sound left (at cs g this) held d y → Steady cs this o held a.store → Belows cs held d a.store k k'
      → Keeps (Go Inner own (pick v (copy left (at cs g this) d b1 x) (copy left (at cs g this) d b2 y)) k') a
      → Followed n (Go Inner (names cs g this o) (pick v (spoke g b1 x) (spoke g b2 y)) k) (Go Inner own (pick v (copy left (at cs g this) d b1 x) (copy left (at cs g this) d b2 y)) k') a
  branched n ih zero left g this o b1 b2 x y a sx sy st r keep = ih _ _ a (alike_on Inner Inner left g this o b2 y sy st r) keep
  branched n ih (suc v) left g this o b1 b2 x y a sx sy st r keep = ih _ _ a (alike_on Inner Inner left g this o b1 x sx st r) keep

  out-both : (x x' y y' : Outcome) → x' ≡ x → y' ≡ y → Out x y → Out x' y'
  out-both x x' y y' e f o = subst (λ z. Out z y') (sym e) (subst (λ z. Out x z) (sym f) o)

  kept-by : (x y : Outcome) → x ≡ y → kept home places signals own h x → kept home places signals own h y
  kept-by x y e k = subst (λ z. kept home places signals own h z) e k

  -- the cells of locals and results
  local-cell : (cs : List ℕ) (g : Function) (this : core.Left) (i : ℕ) (is : List ℕ) (p : Place) (s : Store) (pointer : Bool) → IsHomed home (at cs g this) (local_root (at cs g this) i)
      → locate (scene_of home places signals own h s) (cleft home places signals own h (cell_of (at cs g this) p pointer (local_name (at cs g this) i is))) ≡ Some (Some (record { root = local_root (at cs g this) i; path = map Element is }))
  local-cell cs g this i is p s pointer homed = own-cell home places signals own h (at cs g this) p s pointer (local_name (at cs g this) i is)
      ∙ ap (λ r. let l : Location = record { root = r; path = map Element is } in Some (Some l)) homed

  answer-cell : (cs : List ℕ) (g f : Function) (this : core.Left) (ds : List ℕ) (p : Place) (s : Store) → IsHomed home (at cs g this) (location.Answer h.process ds)
      → locate (scene_of home places signals own h s) (cleft home places signals own h (cell_of (at cs g this) p false (answer_name (at cs g this) ds f))) ≡ Some (Some (record { root = location.Answer h.process ds; path = [] }))
  answer-cell cs g f this ds p s homed = own-cell home places signals own h (at cs g this) p s false (answer_name (at cs g this) ds f)
      ∙ ap (λ r. let l : Location = record { root = r; path = [] } in Some (Some l)) homed

  -- one element of a declared local
  clear-one : (n : ℕ) (mark mark' : Mark) (cs : List ℕ) (g : Function) (this : core.Left) (o : Option Location) (i : ℕ) (is : List ℕ) (p : Place) (w : Kind) (a : Held) (c : Bool)
      → (held : ℕ → Bool) → IsWider (rare home places own h) held → (c ≡ true → (o : ℕ) → held o ≡ true → is_it o (own_at h.cells (cell_of (at cs g this) p false (local_name (at cs g this) i is))) ≡ false)
      → LeadsUp h.process a.store.targets → IsHomed home (at cs g this) (local_root (at cs g this) i) → AllPlaced home places own (at cs g this) c i (is ∷ []) → (rest : Body) (r : stmt.Code) (k k' : Frames)
      → ((b : Held) → Stays home h.process (length cs) held a.store b.store → Keeps (Go Inner own (code r) k') b → Followed n (Go Inner (names cs g this o) rest k) (Go Inner own (code r) k') b)
      → Keeps (Go mark' own (code (if c then stmt.Put p (cell_of (at cs g this) p false (local_name (at cs g this) i is)) core.Whole (core.Literal p w 0) r
      else stmt.Aim p (pointed true (cell_of (at cs g this) p true (local_name (at cs g this) i is))) (core.Null p) r)) k') a
      → Followed (suc n) (Go mark (names cs g this o) (machine.Clear (spoken.element h.plain g (body.Declared i) is) rest) k)
      (Go mark' own (code (if c then stmt.Put p (cell_of (at cs g this) p false (local_name (at cs g this) i is)) core.Whole (core.Literal p w 0) r
      else stmt.Aim p (pointed true (cell_of (at cs g this) p true (local_name (at cs g this) i is))) (core.Null p) r)) k') a
  clear-one n mark mark' cs g this o i is p w a true held few spares up homed pl rest r k k' next keep =
      let l : Location = record { root = local_root (at cs g this) i; path = map Element is } in
      let b = with_words a (changed l 0 a.store.words) in
      let K = Go Inner (names cs g this o) rest k in
      let K' = Go Inner own (code r) k' in
      let W = locate (scene_of home places signals own h a.store) (cleft home places signals own h (cell_of (at cs g this) p false (local_name (at cs g this) i is))) in
      let e = element-at home places own h g (plain_at home places signals own h cs g this o a.store) is (body.Declared i) (record { root = local_root (at cs g this) i; path = [] }) pl.1 refl in
      let core_step : (f : Held → Outcome) → unless_stuck a (Some 0) (λ x. unless_stuck a (followed W) (λ l. unless_stuck a (put_at (places.things l) (scene_of home places signals own h a.store) a l body.Whole x) f)) ≡ f b =
      λ f. put-whole places (scene_of home places signals own h a.store) a (Some 0) (Some 0) W l pl.0.0 f refl (local-cell cs g this i is p a.store false homed) pl.0.1 in
      let q = next b (word-stays a (length cs) held (cell_of (at cs g this) p false (local_name (at cs g this) i is)) l 0 up (keep 0).2 few (spares refl) (local-cell cs g this i is p a.store false homed)) (λ j. kept-by _ _ (core_step (along j K')) (keep (suc j))) in (
        suc q.0,
        omega (arith, q.1),
        out-both (go n K b) _ (went q.0 K' b) _
            (ap (λ z. unless_stuck a (followed z) (λ l. go n K (cleared places a l))) e
            ∙ (ap (λ t. go n K (pointed_at (places.pointers l) (steps.zeroed t a l) l None)) pl.0.1 ∙ ap (λ c. go n K (pointed_at c b l None)) pl.0.2))
            (core_step (went q.0 K')) q.2,
      )
  clear-one n mark mark' cs g this o i is p w a false held few spares up homed pl rest r k k' next keep =
      let l : Location = record { root = local_root (at cs g this) i; path = map Element is } in
      let b = with_targets a (changed l None a.store.targets) in
      let K = Go Inner (names cs g this o) rest k in
      let K' = Go Inner own (code r) k' in
      let C = cell_of (at cs g this) p true (local_name (at cs g this) i is) in
      let W = locate (scene_of home places signals own h a.store) (cleft home places signals own h C) in
      let e = element-at home places own h g (plain_at home places signals own h cs g this o a.store) is (body.Declared i) (record { root = local_root (at cs g this) i; path = [] }) pl.1 refl in
      let aim = aim-is home places signals own h true C body.Null (code r) in
      let core_step : (f : Held → Outcome) → unless_stuck a (Some None) (λ o. unless_stuck a (followed W) (λ l. f (pointed_at (places.pointers l) a l o))) ≡ f b =
      λ f. lead-pointer places a (Some None) (Some None) W l f refl (local-cell cs g this i is p a.store true homed) pl.0.1 in
      let shape : Go mark' own (aimed home h.cells h.process (pointed true C) body.Null (code r)) k' ≡ Go mark' own (machine.Point aim.0 (cleft home places signals own h C) (body.Address body.Null) (code r)) k' = ap (λ z. Go mark' own z k') aim.1 in
      let q = next b ((same-changed h.process (length cs) h.process i cs (map Element is) None a.store.targets (omega arith), leads-changed h.process h.process i cs (map Element is) None a.store.targets up (λ l e. cc)), λ o e. refl) (λ j. kept-by _ _ (ap (λ f. along (suc j) f a) shape ∙ core_step (along j K')) (keep (suc j))) in (
        suc q.0,
        omega (arith, q.1),
        out-both (go n K b) _ (went q.0 K' b) _
            (ap (λ z. unless_stuck a (followed z) (λ l. go n K (cleared places a l))) e
            ∙ (ap (λ t. go n K (pointed_at (places.pointers l) (steps.zeroed t a l) l None)) pl.0.0 ∙ ap (λ c. go n K (pointed_at c a l None)) pl.0.1))
            (ap (λ f. went (suc q.0) f a) shape ∙ core_step (went q.0 K')) q.2,
      )

  -- the elements of a declared local, one after another
  clearing : (n : ℕ) → All n → {d : ℕ} {cs : List ℕ} {held : ℕ → Bool} {k k' : Frames} (mark mark' : Mark) (left : ℕ) (g : Function) (this : core.Left) (o : Option Location) (before : List ℕ) (b : Code) (p : Place) (i : ℕ) (m : Member) (all : List (List ℕ)) (a : Held)
      → IsHomed home (at cs g this) (local_root (at cs g this) i) → AllPlaced home places own (at cs g this) (is_direct m.shape.reach) i all → AllSpared home places own (at cs g this) held p (is_direct m.shape.reach) i all
      → Sound left (at cs g this) held d b → Steady cs this o held a.store → Belows cs held d a.store k k'
      → (Keeps (Go mark' own (copy left (at cs g this) d before b) k') a → Followed (suc n) (Go mark (names cs g this o) (spoke g before b) k) (Go mark' own (copy left (at cs g this) d before b) k') a)
      → Keeps (Go mark' own (code (bodies.cleared (at cs g this) p i (Some m) all (body_of (call_of h left) (at cs g this) d before b))) k') a
      → Followed (suc n) (Go mark (names cs g this o) (spoken.cleared h.plain g i all (spoke g before b)) k) (Go mark' own (code (bodies.cleared (at cs g this) p i (Some m) all (body_of (call_of h left) (at cs g this) d before b))) k') a
  clearing n ih mark mark' left g this o before b p i m [] a homed placed spared s st r rest keep = rest keep
  clearing n ih {cs = cs} {held = held} {k = k} {k' = k'} mark mark' left g this o before b p i m (is ∷ more) a homed placed spared s st r rest keep =
      clear-one n mark mark' cs g this o i is p (bodies.number_kind m.shape.base) a (is_direct m.shape.reach) held st.3 spared.0 st.2 homed (placed.0, placed.1, tt) (spoken.cleared h.plain g i more (spoke g before b))
      (bodies.cleared (at cs g this) p i (Some m) more (body_of (call_of h left) (at cs g this) _ before b)) k k'
      (λ u same keep'. ih _ _ u (alike_clear Inner Inner left g this o before b p i m more homed placed.2 spared.1 s (steady-moves home places own h cs this o held a.store u.store same st) (below-moves home places own h u.store same r)) keep') keep

  first-left : (f : Bool) (s : Scene) (m : Option Member) (i : ℕ) (l : Location) → locate s (body.Declared i) ≡ Some (Some l) → locate s (spoken.refer false m (body.Declared i)) ≡ Some (Some l)
  first-left f s None i l e = e
  first-left f s (Some m) i l e = e

  pointed-moves : (c : Bool) (a : Held) (k : ℕ) (l : Location) (z : Option Location) → LeadsUp h.process a.store.targets → Moves h.process k a.store.targets (changed l z a.store.targets) → Moves h.process k a.store.targets (pointed_at c a l z).store.targets
  pointed-moves true a k l z up s = s
  pointed-moves false a k l z up s = ((λ l e. refl), up)

  pointed-words : (c : Bool) (a : Held) (l : Location) (z : Option Location) → (pointed_at c a l z).store.words ≡ a.store.words
  pointed-words true a l z = refl
  pointed-words false a l z = refl

  -- a local pointer takes a target
  pointing : (n : ℕ) → All n → {d : ℕ} {cs : List ℕ} {held : ℕ → Bool} {k k' : Frames} (left : ℕ) (g : Function) (this : core.Left) (o : Option Location) (before : List ℕ) (p q : Place) (i : ℕ) (t : Target) (b : Code) (a : Held)
      → (knows : Knows home places own h a.store) → IsHomed home (at cs g this) (local_root (at cs g this) i) → IsSoundTarget home places own (at cs g this) t → Sound left (at cs g this) held d b → Steady cs this o held a.store → Belows cs held d a.store k k'
      → ((j : ℕ) → kept home places signals own h (unless_stuck a (locate (scene_of home places signals own h a.store) (cleft home places signals own h (copied.target_of (at cs g this) (result_name (at cs g this)) p t)))
      (λ z. unless_stuck a (followed (locate (scene_of home places signals own h a.store) (cleft home places signals own h (copied.left_of (at cs g this) (result_name (at cs g this)) false (Local q i)))))
      (λ l. along j (Go Inner own (copy left (at cs g this) d before b) k') (pointed_at (places.pointers l) a l z)))))
      → (m : ℕ) × (n ≤ m) × Out (unless_stuck a (running.target_of (plain_at home places signals own h cs g this o a.store) (spoken.target_of h.plain g t))
      (λ z. unless_stuck a (followed (locate (plain_at home places signals own h cs g this o a.store) (spoken.left_of h.plain g false (Local q i)))) (λ l. go n (Go Inner (names cs g this o) (spoke g before b) k) (pointed_at (places.pointers l) a l z))))
      (unless_stuck a (locate (scene_of home places signals own h a.store) (cleft home places signals own h (copied.target_of (at cs g this) (result_name (at cs g this)) p t)))
      (λ z. unless_stuck a (followed (locate (scene_of home places signals own h a.store) (cleft home places signals own h (copied.left_of (at cs g this) (result_name (at cs g this)) false (Local q i)))))
      (λ l. went m (Go Inner own (copy left (at cs g this) d before b) k') (pointed_at (places.pointers l) a l z))))
  pointing n ih {d = d} {cs = cs} {held = held} {k = k} {k' = k'} left g this o before p q i t b a knows homed st sb steady r keep =
      let stands = steady.1 signals a.store knows (λ l e. refl) (λ o e. refl) in
      let K = Go Inner (names cs g this o) (spoke g before b) k in
      let K' = Go Inner own (copy left (at cs g this) d before b) k' in
      let w = locate (plain_at home places signals own h cs g this o a.store) (spoken.left_of h.plain g false (Local q i)) in
      let W = locate (scene_of home places signals own h a.store) (cleft home places signals own h (copied.left_of (at cs g this) (result_name (at cs g this)) false (Local q i))) in
      let there : Location = record { root = local_root (at cs g this) i; path = [] } in
      let f : w ≡ Some (Some there) = first-left true (plain_at home places signals own h cs g this o a.store) (slice_get g.locals i) i there refl in
      both home places signals own h n a (running.target_of (plain_at home places signals own h cs g this o a.store) (spoken.target_of h.plain g t)) _ (target-same home places signals own h cs g this o a.store knows stands p t st)
      (λ z. unless_stuck a (followed w) (λ l. go n K (pointed_at (places.pointers l) a l z)))
      (λ m z. unless_stuck a (followed W) (λ l. went m K' (pointed_at (places.pointers l) a l z)))
      (λ j z. unless_stuck a (followed W) (λ l. along j K' (pointed_at (places.pointers l) a l z))) keep
      (λ z ez keep1. both home places signals own h n a (followed w) (followed W) (ap followed (left-same home places signals own h cs g this o a.store knows stands false (Local q i) homed))
      (λ l. go n K (pointed_at (places.pointers l) a l z)) (λ m l. went m K' (pointed_at (places.pointers l) a l z)) (λ j l. along j K' (pointed_at (places.pointers l) a l z)) keep1
      (λ l el keep2.
      let x : Some there ≡ Some l = sym (ap followed f) ∙ el in
      let y : there ≡ l = cc in
      let m : Moves h.process (length cs) a.store.targets (changed l z a.store.targets) = subst (λ l. Moves h.process (length cs) a.store.targets (changed l z a.store.targets)) y (same-changed h.process (length cs) h.process i cs [] z a.store.targets (omega arith), leads-changed h.process h.process i cs [] z a.store.targets steady.2 (up-target home places own signals (at cs g this) o a.store steady.2 steady.0 t z ez)) in
      let u : Stays home h.process (length cs) held a.store (pointed_at (places.pointers l) a l z).store = (pointed-moves (places.pointers l) a (length cs) l z steady.2 m, λ o e. ap (λ f. f (whole_local home h.process o)) (pointed-words (places.pointers l) a l z)) in
      ih K K' (pointed_at (places.pointers l) a l z)
      (on left g this o before b a.store (pointed_at (places.pointers l) a l z).store u sb steady r) keep2))

  -- what a call begins with
  begins : {held inner : ℕ → Bool} {t : Store} {k k' : Frames} {d : ℕ} → IsWider inner held → (z : Option Kind) (n left : ℕ) (cs : List ℕ) (from f : Function) (this object : core.Left) (o q : Option Location) (p : Place) (args : List Argument) (before : List ℕ) (b : Code) (left' : ℕ)
      → Sound left (at (n ∷ cs) f object) inner 0 f.body → Steady (n ∷ cs) object q inner t → AreSoundArguments home places own (at cs from this) (at (n ∷ cs) f object) inner p 0 args → IsSoundAnswer home places own (at (n ∷ cs) f object) z
      → SparesAnswer home places own (at cs from this) inner p (n ∷ cs) f z → Sound left' (at cs from this) held d b → Steady cs this o held t → Belows cs held d t k k'
      → Alikes t (Go Inner (names (n ∷ cs) f object q) (if is_some z then machine.Begin (spoken.passed h.plain from 0 args) else spoken.passed h.plain from 0 args) (Go Inner (names (n ∷ cs) f object q) (spoke f [] f.body) (Go BehindCall (names cs from this o) (spoke from before b) k)))
      (Go Inner own (code (zeroed (at cs from this) p (n ∷ cs) f z (passed (at cs from this) (result_name (at cs from this)) (at (n ∷ cs) f object) p 0 args (body_of (call_of h left) (at (n ∷ cs) f object) 0 [] f.body)))) (Go BehindBlock own (copy left' (at cs from this) d before b) k'))
  begins {d = d} wider None n left cs from f this object o q p args before b left' sf sq sa sr sp sb so r = alike_enter wider Inner Inner n left cs from f this object o q p 0 args before b d left' sf sq sa sb so r
  begins {d = d} wider (Some k) n left cs from f this object o q p args before b left' sf sq sa sr sp sb so r = alike_begin wider Inner Inner n left cs from f this object o q p k args before b d left' sf sq sa sr sp sb so r

  turn : (n : ℕ) → All n → {d : ℕ} {cs : List ℕ} {held : ℕ → Bool} {k k' : Frames} (mark mark' : Mark) (left : ℕ) (g : Function) (this : core.Left) (o : Option Location) (before : List ℕ) (b : Code) (a : Held)
      → Sound left (at cs g this) held d b → Steady cs this o held a.store → Belows cs held d a.store k k' → (Keeps k' a → Followed (suc n) k k' a)
      → Keeps (Go mark' own (copy left (at cs g this) d before b) k') a
      → Followed (suc n) (Go mark (names cs g this o) (spoke g before b) k) (Go mark' own (copy left (at cs g this) d before b) k') a
  turn n ih {k = k} {k' = k'} mark mark' left g this o before End a s st r popped keep =
      let p = popped (keeps-pop home places signals own h mark' own k' a keep) in
      (p.0, p.1, subst (λ z. Out (go (suc n) k a) z) (sym (pop home places signals own h mark' own k' a p.0)) p.2)
  turn n ih {d = d} {cs = cs} {k = k} {k' = k'} mark mark' left g this o before (Declare p i b) a s st r popped keep =
      subst (λ z. Keeps (Go mark' own (code (bodies.cleared (at cs g this) p i z (elements (sizes_of z)) (body_of (call_of h left) (at cs g this) d before b))) k') a
      → Followed (suc n) (Go mark (names cs g this o) (spoken.cleared h.plain g i (elements (sizes_of z)) (spoke g before b)) k) (Go mark' own (code (bodies.cleared (at cs g this) p i z (elements (sizes_of z)) (body_of (call_of h left) (at cs g this) d before b))) k') a)
      (sym s.1)
      (clearing n ih mark mark' left g this o before b p i s.0 (elements s.0.shape.sizes) a s.2 s.3 s.4 s.5 st r (turn n ih mark mark' left g this o before b a s.5 st r popped)) keep
  turn n ih {cs = cs} {held = held} {k = k} {k' = k'} mark mark' left g this o before (Assign p l w e b) a s st r popped keep =
      let knows = (keep 0).0 in
      let stands = st.1 signals a.store knows (λ l e. refl) (λ o e. refl) in
      let q = assigning n a (scene_of home places signals own h a.store) (plain_at home places signals own h cs g this o a.store) _ _ (value-same home places signals own h cs g this o a.store knows stands e s.2)
      _ _ (left-same home places signals own h cs g this o a.store knows stands true l s.0) (source.pick_of home h.cells h.process (copied.pick_of (at cs g this) (result_name (at cs g this)) w)) (spoken.pick_of h.plain g w) (pick-same home places signals own h cs g this o a.store knows stands w s.1)
      (Go Inner (names cs g this o) (spoke g before b) k) (Go Inner own (copy left (at cs g this) _ before b) k')
      (λ u c ec eu wu keep1. ih _ _ u (on left g this o before b a.store u.store (put-stays a u (length cs) held (copied.left_of (at cs g this) (result_name (at cs g this)) true l) c st.2 (keep 0).2 st.3 s.3 ec eu wu) s.4 st r) keep1) (λ j. keep (suc j)) in
      (suc q.0, omega (arith, q.1), q.2)
  turn n ih {cs = cs} {held = held} {k = k} {k' = k'} mark mark' left g this o before (Write p l e b) a s st r popped keep =
      let knows = (keep 0).0 in
      let stands = st.1 signals a.store knows (λ l e. refl) (λ o e. refl) in
      let q = assigning n a (scene_of home places signals own h a.store) (plain_at home places signals own h cs g this o a.store) _ _ (value-same home places signals own h cs g this o a.store knows stands e s.1)
      _ _ (left-same home places signals own h cs g this o a.store knows stands true l s.0) body.Whole body.Whole (λ j old new. refl)
      (Go Inner (names cs g this o) (spoke g before b) k) (Go Inner own (copy left (at cs g this) _ before b) k')
      (λ u c ec eu wu keep1. ih _ _ u (on left g this o before b a.store u.store (put-stays a u (length cs) held (copied.left_of (at cs g this) (result_name (at cs g this)) true l) c st.2 (keep 0).2 st.3 s.2 ec eu wu) s.3 st r) keep1) (λ j. keep (suc j)) in
      (suc q.0, omega (arith, q.1), q.2)
  turn n ih {d = d} {cs = cs} {k = k} {k' = k'} mark mark' left g this o before (Point p (Local q i) t b) a s st r popped keep =
      let C = copied.left_of (at cs g this) (result_name (at cs g this)) false (Local q i) in
      let T = cleft home places signals own h (copied.target_of (at cs g this) (result_name (at cs g this)) p t) in
      let aim = aim-is home places signals own h (is_first (at cs g this) before (Local q i)) C T (copy left (at cs g this) d (i ∷ before) b) in
      let shape : Go mark' own (aimed home h.cells h.process (pointed (is_first (at cs g this) before (Local q i)) C) T (copy left (at cs g this) d (i ∷ before) b)) k' ≡ Go mark' own (machine.Point aim.0 (cleft home places signals own h C) (body.Address T) (copy left (at cs g this) d (i ∷ before) b)) k' = ap (λ z. Go mark' own z k') aim.1 in
      let keep1 : Keeps (Go mark' own (machine.Point aim.0 (cleft home places signals own h C) (body.Address T) (copy left (at cs g this) d (i ∷ before) b)) k') a = subst (λ f. Keeps f a) shape keep in
      let x = pointing n ih left g this o (i ∷ before) p q i t b a (keep 0).0 s.0 s.1 s.2 st r (λ j. keep1 (suc j)) in
      (suc x.0, omega (arith, x.1), subst (λ f. Out (go (suc n) (Go mark (names cs g this o) (spoke g before (Point p (Local q i) t b)) k) a) (went (suc x.0) f a)) (sym shape) x.2)
  turn n ih mark mark' left g this o before (Point p (Answer q i) t b) a s st r popped keep = absurd (keep 0).1
  turn n ih mark mark' left g this o before (Point p (This q) t b) a s st r popped keep = absurd (keep 0).1
  turn n ih mark mark' left g this o before (Point p (Follow q l) t b) a s st r popped keep = absurd (keep 0).1
  turn n ih mark mark' left g this o before (Point p (term.Member l m) t b) a s st r popped keep = absurd (keep 0).1
  turn n ih mark mark' left g this o before (Point p (Index l e) t b) a s st r popped keep = absurd (keep 0).1
  turn n ih {d = d} {cs = cs} {k = k} {k' = k'} mark mark' left g this o before (If p t x y b) a s st r popped keep =
      let knows = (keep 0).0 in
      let stands = st.1 signals a.store knows (λ l e. refl) (λ o e. refl) in
      let N = names cs g this o in
      let b2 = bodies.aimed x ++ before in
      let b3 = bodies.aimed x ++ (bodies.aimed y ++ before) in
      let K = Go Inner N (spoke g b3 b) k in
      let K' = Go Inner own (copy left (at cs g this) d b3 b) k' in
      let q = both home places signals own h n a _ _ (value-same home places signals own h cs g this o a.store knows stands t s.0)
      (λ v. go n (Go Inner N (pick v (spoke g before x) (spoke g b2 y)) K) a)
      (λ m v. went m (Go Inner own (pick v (copy left (at cs g this) d before x) (copy left (at cs g this) d b2 y)) K') a)
      (λ j v. along j (Go Inner own (pick v (copy left (at cs g this) d before x) (copy left (at cs g this) d b2 y)) K') a) (λ j. keep (suc j))
      (λ v ev keep1. branched n ih v left g this o before b2 x y a s.1 s.2 st (below_inner left g this o b3 b s.3 st r) keep1) in
      (suc q.0, omega (arith, q.1), q.2)
  turn n ih mark mark' left g this o before (Loop p c x b) a s st r popped keep =
      let q = ih _ _ a (alike_on Inner Inner left g this o before x s.0 st (below_inner left g this o before (Loop p c x b) s st r)) (λ j. keep (suc j)) in (suc q.0, omega (arith, q.1), q.2)
  turn n ih mark mark' left g this o before (Block p x b) a s st r popped keep =
      let q = ih _ _ a (alike_on Inner Inner left g this o before x s.0 st (below_block left g this o (bodies.aimed x ++ before) b s.1 st r)) (λ j. keep (suc j)) in (suc q.0, omega (arith, q.1), q.2)
  turn n ih mark mark' left g this o before (Exit p i b) a s st r popped keep =
      let q = ih _ _ a (below-leave home places own h i s.0 r) (λ j. keep (suc j)) in (suc q.0, omega (arith, q.1), q.2)
  turn n ih mark mark' left g this o before (Return p None b) a s st r popped keep =
      let q = ih _ _ a (below-return home places own h r) (λ j. keep (suc j)) in (suc q.0, omega (arith, q.1), q.2)
  turn n ih {d = d} {cs = cs} {held = held} {k = k} {k' = k'} mark mark' left g this o before (Return p (Some e) b) a s st r popped keep =
      let knows = (keep 0).0 in
      let stands = st.1 signals a.store knows (λ l e. refl) (λ o e. refl) in
      let l : Location = record { root = location.Answer h.process cs; path = [] } in
      let out = Go Inner own (machine.Exit d (copy left (at cs g this) d before b)) k' in
      let v = value (plain_at home places signals own h cs g this o a.store) (spoken.expr_of h.plain g e) in
      let V = value (scene_of home places signals own h a.store) (expr_of home h.cells h.process (copied.copied (at cs g this) (result_name (at cs g this)) e)) in
      let W = locate (scene_of home places signals own h a.store) (cleft home places signals own h (cell_of (at cs g this) p false (answer_name (at cs g this) cs g))) in
      let core_step : (f : Held → Outcome) → unless_stuck a V (λ x. unless_stuck a (followed W) (λ l. unless_stuck a (put_at (places.things l) (scene_of home places signals own h a.store) a l body.Whole x) f)) ≡ unless_stuck a v (λ x. f (with_words a (changed l x a.store.words))) =
      λ f. put-whole places (scene_of home places signals own h a.store) a V v W l s.0.2.0 f (value-same home places signals own h cs g this o a.store knows stands e s.0.0) (answer-cell cs g g this cs p a.store s.0.1) s.0.2.1 in
      let q = both home places signals own h n a v v refl (λ x. go n (return k) (with_words a (changed l x a.store.words))) (λ m x. went (suc m) out (with_words a (changed l x a.store.words))) (λ j x. along (suc j) out (with_words a (changed l x a.store.words)))
      (λ j. kept-by _ _ (core_step (along (suc j) out)) (keep (suc (suc j))))
      (λ x ex keep1. ih (return k) (leave d k') (with_words a (changed l x a.store.words)) (below-return home places own h (below-moves home places own h (with_words a (changed l x a.store.words)).store
      (word-stays a (length cs) held (cell_of (at cs g this) p false (answer_name (at cs g this) cs g)) l x st.2 (keep 0).2 st.3 s.0.3 (answer-cell cs g g this cs p a.store s.0.1)) r)) keep1) in
      (suc (suc q.0), omega (arith, q.1), subst (λ z. Out (go (suc n) (Go mark (names cs g this o) (spoke g before (Return p (Some e) b)) k) a) z) (sym (core_step (went (suc q.0) out))) q.2)
  turn n ih mark mark' left g this o before (Wait p i b) a s st r popped keep = (suc n, omega arith, (refl, λ words. alike-waiting home places own h (one_less i) p left g this o before b s.0 s.1 st r (record { words = words; targets = a.store.targets }) refl))
  turn n ih mark mark' zero g this o before (Call p i f l args b) a s st r popped keep = absurd s.9
  turn n ih {d = d} {cs = cs} {held = held} {k = k} {k' = k'} mark mark' (suc left) g this o before (Call p i f l args b) a s st r popped keep =
      let knows = (keep 0).0 in
      let obj = object_of (at cs g this) (result_name (at cs g this)) l in
      let found = object-found home places own h cs g this o i held s.2 s.3 s.4 a.store signals a.store knows refl st l s.5 in
      let N = names cs g this o in
      let N' = names (i ∷ cs) s.0 obj found.0 in
      let below = Go BehindCall N (spoke g before b) k in
      let plain_step = ap (λ w. unless_stuck a w (λ q. go n (Go Inner (called N i q) (spoken.entered h.plain g (slice_get h.plain.functions f) (spoken.passed h.plain g 0 args)) (Go Inner (called N i q) (spoken.function_body h.plain f) below)) a)) found.1
      ∙ ap (λ z. go n (Go Inner N' (spoken.entered h.plain g z (spoken.passed h.plain g 0 args)) (Go Inner N' (unwrap_or (option_map (λ f. spoken.body_of h.plain f [] f.body) z) machine.End) below)) a) s.1 in
      let shape = ap (λ z. Go mark' own (code (unwrap_or (option_map (λ c. stmt.Block p (zeroed (at cs g this) p (i ∷ cs) c c.result (passed (at cs g this) (result_name (at cs g this)) (inside (at cs g this) (i ∷ cs) c obj) p 0 args
      (unwrap_or (option_map (λ f. body_of (call_of h left) (inside h (i ∷ cs) f obj) 0 [] f.body) z) stmt.End))) (body_of (call_of h (suc left)) (at cs g this) d before b)) z) (body_of (call_of h (suc left)) (at cs g this) d before b))) k') s.1 in
      let keep1 = subst (λ f. Keeps f a) shape keep in
      let q = ih _ _ a (begins s.3 s.0.result i left cs g s.0 this obj o found.0 p args before b (suc left) s.9 found.2 s.8 s.6 s.7 s.10 st r) (λ j. keep1 (suc j)) in
      (suc q.0, omega (arith, q.1), out-both _ _ _ _ plain_step (ap (λ f. went (suc q.0) f a) shape) q.2)
  turn n ih mark mark' left g this o before (Make p l x args b) a s st r popped keep = turn n ih mark mark' left g this o before b a s st r popped keep
  turn n ih mark mark' left g this o before (Bind p l t b) a s st r popped keep = turn n ih mark mark' left g this o before b a s st r popped keep
  turn n ih mark mark' left g this o before (Process p t f e b) a s st r popped keep = turn n ih mark mark' left g this o before b a s st r popped keep
  turn n ih mark mark' left g this o before (Sensitive p items b) a s st r popped keep = turn n ih mark mark' left g this o before b a s st r popped keep
  turn n ih mark mark' left g this o before (Quiet p b) a s st r popped keep = turn n ih mark mark' left g this o before b a s st r popped keep
  turn n ih mark mark' left g this o before (Reset p x e y b) a s st r popped keep = turn n ih mark mark' left g this o before b a s st r popped keep

  popped : (n : ℕ) → All n → {cs : List ℕ} {held : ℕ → Bool} {d : ℕ} {t : Store} {k k' : Frames} (a : Held) → a.store ≡ t → Belows cs held d t k k' → Keeps k' a → Followed (suc n) k k' a
  popped n ih a e (below_halt idle x) keep = (suc n, omega arith, (refl, subst (λ t. LeadsUp h.process t.targets) (sym e) x))
  popped n ih a e (below_inner {cs = cs} {w = w} {t = t} left g this o before b s st r) keep = let m = stays-by home h.process (length cs) w t a.store e st.2 in
      turn n ih Inner Inner left g this o before b a s (steady-moves home places own h cs this o w t a.store m st) (below-moves home places own h a.store m r) (λ kp. popped n ih a e r kp) keep
  popped n ih a e (below_block {cs = cs} {w = w} {t = t} left g this o before b s st r) keep = let m = stays-by home h.process (length cs) w t a.store e st.2 in
      turn n ih BehindBlock BehindBlock left g this o before b a s (steady-moves home places own h cs this o w t a.store m st) (below-moves home places own h a.store m r) (λ kp. popped n ih a e r kp) keep
  popped n ih a e (below_call {cs = cs} {w = w} {t = t} wider i left g this o before b s st r) keep = let m = stays-by home h.process (length cs) w t a.store e st.2 in
      turn n ih BehindCall BehindBlock left g this o before b a s (steady-moves home places own h cs this o w t a.store m st) (below-moves home places own h a.store m r) (λ kp. popped n ih a e r kp) keep

  -- the arguments of a call, one after another
  entering : (n : ℕ) → All n → {held inner : ℕ → Bool} {k k' : Frames} → IsWider inner held → (mark mark' : Mark) (i left : ℕ) (cs : List ℕ) (from f : Function) (this object : core.Left) (o q : Option Location) (p : Place) (j : ℕ) (args : List Argument) (before : List ℕ) (b : Code) (d left' : ℕ) (a : Held)
      → Sound left (at (i ∷ cs) f object) inner 0 f.body → Steady (i ∷ cs) object q inner a.store → AreSoundArguments home places own (at cs from this) (at (i ∷ cs) f object) inner p j args
      → Sound left' (at cs from this) held d b → Steady cs this o held a.store → Belows cs held d a.store k k'
      → Keeps (Go mark' own (code (passed (at cs from this) (result_name (at cs from this)) (at (i ∷ cs) f object) p j args (body_of (call_of h left) (at (i ∷ cs) f object) 0 [] f.body))) (Go BehindBlock own (copy left' (at cs from this) d before b) k')) a
      → Followed (suc n) (Go mark (names (i ∷ cs) f object q) (spoken.passed h.plain from j args) (Go Inner (names (i ∷ cs) f object q) (spoke f [] f.body) (Go BehindCall (names cs from this o) (spoke from before b) k)))
      (Go mark' own (code (passed (at cs from this) (result_name (at cs from this)) (at (i ∷ cs) f object) p j args (body_of (call_of h left) (at (i ∷ cs) f object) 0 [] f.body))) (Go BehindBlock own (copy left' (at cs from this) d before b) k')) a
  entering n ih wider mark mark' i left cs from f this object o q p j [] before b d left' a sf sq sa sb so r keep =
      turn n ih Inner mark' left f object q [] f.body a sf sq (below_call wider i left' from this o before b sb so r) (λ kp. popped n ih a refl (below_call wider i left' from this o before b sb so r) kp) keep
  entering n ih {held = held} {inner = inner} {k = k} {k' = k'} wider mark mark' i left cs from f this object o q p j (Value e ∷ args) before b d left' a sf sq sa sb so r keep =
      let knows = (keep 0).0 in
      let stands = so.1 signals a.store knows (λ l e. refl) (λ o e. refl) in
      let l : Location = record { root = location.Local h.process (i ∷ cs) j; path = [] } in
      let K = Go Inner (names (i ∷ cs) f object q) (spoken.passed h.plain from (suc j) args) (Go Inner (names (i ∷ cs) f object q) (spoke f [] f.body) (Go BehindCall (names cs from this o) (spoke from before b) k)) in
      let K' = Go Inner own (code (passed (at cs from this) (result_name (at cs from this)) (at (i ∷ cs) f object) p (suc j) args (body_of (call_of h left) (at (i ∷ cs) f object) 0 [] f.body))) (Go BehindBlock own (copy left' (at cs from this) d before b) k') in
      let v = value (plain_at home places signals own h cs from this o a.store) (spoken.expr_of h.plain from e) in
      let V = value (scene_of home places signals own h a.store) (expr_of home h.cells h.process (copied.copied (at cs from this) (result_name (at cs from this)) e)) in
      let W = locate (scene_of home places signals own h a.store) (cleft home places signals own h (cell_of (at (i ∷ cs) f object) p false (local_name (at (i ∷ cs) f object) j []))) in
      let core_step : (g : Held → Outcome) → unless_stuck a V (λ x. unless_stuck a (followed W) (λ l. unless_stuck a (put_at (places.things l) (scene_of home places signals own h a.store) a l body.Whole x) g)) ≡ unless_stuck a v (λ x. g (with_words a (changed l x a.store.words))) =
      λ g. put-whole places (scene_of home places signals own h a.store) a V v W l sa.2.0 g (value-same home places signals own h cs from this o a.store knows stands e sa.0) (local-cell (i ∷ cs) f object j [] p a.store false sa.1) sa.2.1 in
      let x = both home places signals own h n a v v refl (λ x. go n K (with_words a (changed l x a.store.words))) (λ m x. went m K' (with_words a (changed l x a.store.words))) (λ j x. along j K' (with_words a (changed l x a.store.words)))
      (λ j. kept-by _ _ (core_step (along j K')) (keep (suc j)))
      (λ x ex keep1.
      let u = (with_words a (changed l x a.store.words)).store in
      let m = word-stays a (length (i ∷ cs)) inner (cell_of (at (i ∷ cs) f object) p false (local_name (at (i ∷ cs) f object) j [])) l x sq.2 (keep 0).2 sq.3 sa.3 (local-cell (i ∷ cs) f object j [] p a.store false sa.1) in
      let y = stays-wider home h.process (length (i ∷ cs)) (length cs) inner held a.store u (omega arith) wider m in
      ih K K' (with_words a (changed l x a.store.words)) (alike_enter wider Inner Inner i left cs from f this object o q p (suc j) args before b d left' sf (steady-moves home places own h (i ∷ cs) object q inner a.store u m sq) sa.4 sb
      (steady-moves home places own h cs this o held a.store u y so) (below-moves home places own h u y r)) keep1) in
      (suc x.0, omega (arith, x.1), out-both _ _ _ _ refl (core_step (went x.0 K')) x.2)
  entering n ih {held = held} {inner = inner} {k = k} {k' = k'} wider mark mark' i left cs from f this object o q p j (Leads to ∷ args) before b d left' a sf sq sa sb so r keep =
      let knows = (keep 0).0 in
      let stands = so.1 signals a.store knows (λ l e. refl) (λ o e. refl) in
      let l : Location = record { root = location.Local h.process (i ∷ cs) j; path = [] } in
      let K = Go Inner (names (i ∷ cs) f object q) (spoken.passed h.plain from (suc j) args) (Go Inner (names (i ∷ cs) f object q) (spoke f [] f.body) (Go BehindCall (names cs from this o) (spoke from before b) k)) in
      let R = code (passed (at cs from this) (result_name (at cs from this)) (at (i ∷ cs) f object) p (suc j) args (body_of (call_of h left) (at (i ∷ cs) f object) 0 [] f.body)) in
      let out = Go BehindBlock own (copy left' (at cs from this) d before b) k' in
      let K' = Go Inner own R out in
      let v = running.target_of (plain_at home places signals own h cs from this o a.store) (spoken.target_of h.plain from to) in
      let T = cleft home places signals own h (copied.target_of (at cs from this) (result_name (at cs from this)) p to) in
      let C = cell_of (at (i ∷ cs) f object) p true (local_name (at (i ∷ cs) f object) j []) in
      let W = locate (scene_of home places signals own h a.store) (cleft home places signals own h C) in
      let aim = aim-is home places signals own h true C T R in
      let shape : Go mark' own (aimed home h.cells h.process (pointed true C) T R) out ≡ Go mark' own (machine.Point aim.0 (cleft home places signals own h C) (body.Address T) R) out = ap (λ z. Go mark' own z out) aim.1 in
      let core_step : (g : Held → Outcome) → unless_stuck a (locate (scene_of home places signals own h a.store) T) (λ z. unless_stuck a (followed W) (λ l. g (pointed_at (places.pointers l) a l z))) ≡ unless_stuck a v (λ z. g (with_targets a (changed l z a.store.targets))) =
      λ g. lead-pointer places a (locate (scene_of home places signals own h a.store) T) v W l g (target-same home places signals own h cs from this o a.store knows stands p to sa.0) (local-cell (i ∷ cs) f object j [] p a.store true sa.1) sa.2.1 in
      let x = both home places signals own h n a v v refl (λ z. go n K (with_targets a (changed l z a.store.targets))) (λ m z. went m K' (with_targets a (changed l z a.store.targets))) (λ j z. along j K' (with_targets a (changed l z a.store.targets)))
      (λ j. kept-by _ _ (ap (λ f. along (suc j) f a) shape ∙ core_step (along j K')) (keep (suc j)))
      (λ z ez keep1.
      let t = changed l z a.store.targets in
      let u = (with_targets a t).store in
      let y = up-target home places own signals (at cs from this) o a.store so.2 so.0 to z ez in
      let m : Stays home h.process (length (i ∷ cs)) inner a.store u = ((same-changed h.process (length (i ∷ cs)) h.process j (i ∷ cs) [] z a.store.targets (omega arith), leads-changed h.process h.process j (i ∷ cs) [] z a.store.targets so.2 (λ l e. outside-wider h.process (suc (length (i ∷ cs))) (suc (length cs)) l.root (omega arith) (y l e))), λ o e. refl) in
      let w = stays-wider home h.process (length (i ∷ cs)) (length cs) inner held a.store u (omega arith) wider m in
      ih K K' (with_targets a t) (alike_enter wider Inner Inner i left cs from f this object o q p (suc j) args before b d left' sf (steady-moves home places own h (i ∷ cs) object q inner a.store u m sq) sa.3 sb
      (steady-moves home places own h cs this o held a.store u w so) (below-moves home places own h u w r)) keep1) in
      (suc x.0, omega (arith, x.1), out-both _ _ _ _ refl (ap (λ f. went (suc x.0) f a) shape ∙ core_step (went x.0 K')) x.2)
  entering n ih wider mark mark' i left cs from f this object o q p j (ModuleName ∷ args) before b d left' a sf sq sa sb so r keep =
      entering n ih wider mark mark' i left cs from f this object o q p (suc j) args before b d left' a sf sq sa sb so r keep

  -- a call's result begins as 0
  beginning : (n : ℕ) → All n → {held inner : ℕ → Bool} {k k' : Frames} → IsWider inner held → (mark mark' : Mark) (i left : ℕ) (cs : List ℕ) (from f : Function) (this object : core.Left) (o q : Option Location) (p : Place) (z : Kind) (args : List Argument) (before : List ℕ) (b : Code) (d left' : ℕ) (a : Held)
      → Sound left (at (i ∷ cs) f object) inner 0 f.body → Steady (i ∷ cs) object q inner a.store → AreSoundArguments home places own (at cs from this) (at (i ∷ cs) f object) inner p 0 args → IsSoundAnswer home places own (at (i ∷ cs) f object) (Some z) → SparesAnswer home places own (at cs from this) inner p (i ∷ cs) f (Some z)
      → Sound left' (at cs from this) held d b → Steady cs this o held a.store → Belows cs held d a.store k k'
      → (R : stmt.Code) → R ≡ passed (at cs from this) (result_name (at cs from this)) (at (i ∷ cs) f object) p 0 args (body_of (call_of h left) (at (i ∷ cs) f object) 0 [] f.body)
      → Keeps (Go mark' own (code (stmt.Put p (cell_of (at cs from this) p false (answer_name (at cs from this) (i ∷ cs) f)) core.Whole (core.Literal p z 0) R)) (Go BehindBlock own (copy left' (at cs from this) d before b) k')) a
      → Followed (suc n) (Go mark (names (i ∷ cs) f object q) (machine.Begin (spoken.passed h.plain from 0 args)) (Go Inner (names (i ∷ cs) f object q) (spoke f [] f.body) (Go BehindCall (names cs from this o) (spoke from before b) k)))
      (Go mark' own (code (stmt.Put p (cell_of (at cs from this) p false (answer_name (at cs from this) (i ∷ cs) f)) core.Whole (core.Literal p z 0) R)) (Go BehindBlock own (copy left' (at cs from this) d before b) k')) a
  beginning n ih {held = held} {inner = inner} {k = k} {k' = k'} wider mark mark' i left cs from f this object o q p z args before b d left' a sf sq sa sr sp sb so r R eR keep =
      let l : Location = record { root = location.Answer h.process (i ∷ cs); path = [] } in
      let B = with_words a (changed l 0 a.store.words) in
      let K = Go Inner (names (i ∷ cs) f object q) (spoken.passed h.plain from 0 args) (Go Inner (names (i ∷ cs) f object q) (spoke f [] f.body) (Go BehindCall (names cs from this o) (spoke from before b) k)) in
      let out = Go BehindBlock own (copy left' (at cs from this) d before b) k' in
      let K' = Go Inner own (code R) out in
      let W = locate (scene_of home places signals own h a.store) (cleft home places signals own h (cell_of (at cs from this) p false (answer_name (at cs from this) (i ∷ cs) f))) in
      let core_step : (g : Held → Outcome) → unless_stuck a (Some 0) (λ x. unless_stuck a (followed W) (λ l. unless_stuck a (put_at (places.things l) (scene_of home places signals own h a.store) a l body.Whole x) g)) ≡ g B =
      λ g. put-whole places (scene_of home places signals own h a.store) a (Some 0) (Some 0) W l sr.1.0 g refl (answer-cell cs from f this (i ∷ cs) p a.store sr.0) sr.1.1 in
      let u = B.store in
      let m = word-stays a (length (i ∷ cs)) inner (cell_of (at cs from this) p false (answer_name (at cs from this) (i ∷ cs) f)) l 0 sq.2 (keep 0).2 sq.3 sp (answer-cell cs from f this (i ∷ cs) p a.store sr.0) in
      let y = stays-wider home h.process (length (i ∷ cs)) (length cs) inner held a.store u (omega arith) wider m in
      let x = ih K K' B (subst (λ c. Alikes u K (Go Inner own (code c) out)) (sym eR) (alike_enter wider Inner Inner i left cs from f this object o q p 0 args before b d left' sf (steady-moves home places own h (i ∷ cs) object q inner a.store u m sq) sa sb
      (steady-moves home places own h cs this o held a.store u y so) (below-moves home places own h u y r))) (λ j. kept-by _ _ (core_step (along j K')) (keep (suc j))) in
      (suc x.0, omega (arith, x.1), out-both _ _ _ _ refl (core_step (went x.0 K')) x.2)

  -- one step from frames that are alike
  pub stepping : (n : ℕ) → All n → {t : Store} {f f' : Frames} (a : Held) → a.store ≡ t → Alikes t f f' → Keeps f' a → Followed (suc n) f f' a
  stepping n ih a e (alike_stop x) keep = (suc n, omega arith, (refl, subst (λ t. LeadsUp h.process t.targets) (sym e) x))
  stepping n ih a e (alike_end x) keep = (suc n, omega arith, (refl, subst (λ t. LeadsUp h.process t.targets) (sym e) x))
  stepping n ih a e (alike_on {cs = cs} {w = w} {t = t} mark mark' left g this o before b s st r) keep = let m = stays-by home h.process (length cs) w t a.store e st.2 in
      turn n ih mark mark' left g this o before b a s (steady-moves home places own h cs this o w t a.store m st) (below-moves home places own h a.store m r) (λ kp. popped n ih a e r kp) keep
  stepping n ih a e (alike_clear {cs = cs} {w = w} {t = t} mark mark' left g this o before b p i v all homed placed spared s st r) keep = let m = stays-by home h.process (length cs) w t a.store e st.2 in
      let st' = steady-moves home places own h cs this o w t a.store m st in
      let r' = below-moves home places own h a.store m r in
      clearing n ih mark mark' left g this o before b p i v all a homed placed spared s st' r' (turn n ih mark mark' left g this o before b a s st' r' (λ kp. popped n ih a e r kp)) keep
  stepping n ih a e (alike_enter {w = w} {inner = inner} {t = t} wider mark mark' i left cs from f this object o q p j args before b d left' sf sq sa sb so r) keep =
      let m = stays-by home h.process (length cs) w t a.store e so.2 in
      entering n ih wider mark mark' i left cs from f this object o q p j args before b d left' a sf (steady-moves home places own h (i ∷ cs) object q inner t a.store (stays-by home h.process (length (i ∷ cs)) inner t a.store e sq.2) sq) sa sb
      (steady-moves home places own h cs this o w t a.store m so) (below-moves home places own h a.store m r) keep
  stepping n ih a e (alike_begin {w = w} {inner = inner} {t = t} wider mark mark' i left cs from f this object o q p z args before b d left' sf sq sa sr sp sb so r) keep =
      let m = stays-by home h.process (length cs) w t a.store e so.2 in
      beginning n ih wider mark mark' i left cs from f this object o q p z args before b d left' a sf (steady-moves home places own h (i ∷ cs) object q inner t a.store (stays-by home h.process (length (i ∷ cs)) inner t a.store e sq.2) sq) sa sr sp sb
      (steady-moves home places own h cs this o w t a.store m so) (below-moves home places own h a.store m r) _ refl keep
