-- Frames of a process against those of its copy: each list of statements has its copy; the block of a call stands for the call.
use Rattle.std.specs.Prelude.{◌≡◌, ℕ, suc, nat_le, Bool, false, List, [], ◌∷◌, length, Option, Some, None}
use Rattle.scc_base.specs.declared.refusal.Place.{Place}
use Rattle.scc_bits_kinds.specs.declared.kind.Kind.{Kind}
use Rattle.scc_semantics.specs.Location.{Location}
use Rattle.scc_semantics.specs.Places.{Places}
use Rattle.scc_semantics.specs.Store.{Store}
use Rattle.scc_semantics.specs.Scene.{Names}
use Rattle.scc_semantics.specs.Body.{Body}
use Rattle.scc_semantics.specs.Body as machine
use Rattle.scc_semantics.specs.Value.{Held, locate}
use Rattle.scc_semantics.specs.Machine.{Frames, Stop, Go, Mark, Inner, BehindBlock, BehindCall, Outcome, Suspended, Ended, Stuck, Unfinished, after}
use Rattle.scc_core_spec.specs.Term as core
use Rattle.scc_core_spec.specs.Code as stmt
use Rattle.scc_core_spec.specs.Source.{Home, left_of}
use Rattle.scc_core_spec.specs.Source as source
use Rattle.scc_core_spec.specs.Counted.{uses}
use Rattle.scc_core_unroll_laws.specs.Unrolling.{Around, LeadsWell}
use Rattle.scc_elab_spec.specs.Term.{Argument}
use Rattle.scc_elab_spec.specs.Program.{Code, Function, Member}
use Rattle.scc_elab_spec.specs.Types.{is_direct}
use Rattle.scc_elab_spec.specs.Copied.{Here, answer_name, local_root}
use Rattle.scc_elab_spec.specs.Bodies.{inside, result_name, passed, cell_of, cleared}
use Rattle.scc_elab_spec.specs.Numbering.{levels}
use Rattle.scc_inline_spec.specs.Inlined.{body_of, call_of}
use Rattle.scc_elab_spec.specs.Spoken as spoken
use Rattle.scc_inline_process_laws.specs.Sound.{names_of, IsHomed}
use Rattle.scc_inline_process_laws.specs.SoundCode.{IsIdle, IsWider, SameWords, SameOutside, LeadsUp, IsWithin, Knows, core_scene, IsSoundCode, IsSoundCall, AreSoundArguments, IsSoundAnswer, SparesAnswer, AllPlaced, AllSpared}

-- h: what the copies of a process work with; the names of the copy's frames
module _ (home : Home) (places : Places) (own : Names) (h : Here) where
  -- the copy of a function by the calls that lead to it, and its object
  abbrev pub here : List ℕ → Function → core.Left → Here
  here cs g this = inside h cs g this

  abbrev pub spoken_body : Function → List ℕ → Code → Body
  spoken_body g before b = spoken.body_of h.plain g before b

  abbrev pub machine_code : stmt.Code → Body
  machine_code c = source.body_of home h.cells h.process c

  abbrev pub copied_body : ℕ → Here → ℕ → List ℕ → Code → Body
  copied_body left to d before b = machine_code (body_of (call_of h left) to d before b)

  -- the body of the process with its calls copied, where h is the process's own function
  abbrev pub whole : stmt.Code
  whole = stmt.Block (core.place_at h.this) (body_of (call_of h levels) h 0 [] h.function.body) stmt.End

  abbrev pub around : Around
  around = record { home = home; process = h.process; setting = record { cells = h.cells; path = h.path; body = whole }; places = places; fixed = λ l. None }

  -- no statement leads a pointer to these locals
  abbrev pub rare : ℕ → Bool
  rare o = nat_le (uses h.cells o whole) 2

  -- the object stays, while pointers inside the call alone change, and these locals hold their words
  abbrev pub IsSteady : List ℕ → core.Left → Option Location → (ℕ → Bool) → Store → Type 0
  IsSteady cs this o w t = IsWithin h.process (length cs) o × ((signals : Location → ℕ) (s : Store) → Knows home places own h s → SameOutside h.process (length cs) t.targets s.targets → SameWords home h.process w t.words s.words
      → locate (core_scene home places signals own s) (left_of home h.cells h.process this) ≡ Some o) × LeadsUp h.process t.targets × IsWider rare w

  abbrev pub IsSoundAt : ℕ → Here → (ℕ → Bool) → ℕ → Code → Type 0
  IsSoundAt left to w d b = IsSoundCode home places own rare (IsSoundCall home places own rare left) to w d b

  -- The frames behind the innermost list, which stands so many blocks inside the block of its call, with the locals that nothing assigns.
  pub data Below : List ℕ → (ℕ → Bool) → ℕ → Store → Frames → Frames → Type 0 where
    below_halt : {w : ℕ → Bool} {t : Store} → IsIdle w → LeadsUp h.process t.targets → Below [] w 0 t Stop (Go BehindBlock own machine.End Stop)
    below_inner : {d : ℕ} {cs : List ℕ} {w : ℕ → Bool} {t : Store} {k k' : Frames} → (left : ℕ) (g : Function) (this : core.Left) (o : Option Location) (before : List ℕ) (b : Code)
        → IsSoundAt left (here cs g this) w d b → IsSteady cs this o w t → Below cs w d t k k'
        → Below cs w d t (Go Inner (names_of (here cs g this) o) (spoken_body g before b) k) (Go Inner own (copied_body left (here cs g this) d before b) k')
    below_block : {d : ℕ} {cs : List ℕ} {w : ℕ → Bool} {t : Store} {k k' : Frames} → (left : ℕ) (g : Function) (this : core.Left) (o : Option Location) (before : List ℕ) (b : Code)
        → IsSoundAt left (here cs g this) w d b → IsSteady cs this o w t → Below cs w d t k k'
        → Below cs w (suc d) t (Go BehindBlock (names_of (here cs g this) o) (spoken_body g before b) k) (Go BehindBlock own (copied_body left (here cs g this) d before b) k')
    below_call : {d : ℕ} {cs : List ℕ} {w inner : ℕ → Bool} {t : Store} {k k' : Frames} → IsWider inner w → (n left : ℕ) (g : Function) (this : core.Left) (o : Option Location) (before : List ℕ) (b : Code)
        → IsSoundAt left (here cs g this) w d b → IsSteady cs this o w t → Below cs w d t k k'
        → Below (n ∷ cs) inner 0 t (Go BehindCall (names_of (here cs g this) o) (spoken_body g before b) k) (Go BehindBlock own (copied_body left (here cs g this) d before b) k')

  -- frames that mean the same
  pub data Alike : Store → Frames → Frames → Type 0 where
    alike_stop : {t : Store} → LeadsUp h.process t.targets → Alike t Stop Stop
    alike_end : {t : Store} → LeadsUp h.process t.targets → Alike t Stop (Go Inner own machine.End Stop)
    alike_on : {d : ℕ} {cs : List ℕ} {w : ℕ → Bool} {t : Store} {k k' : Frames} → (mark mark' : Mark) (left : ℕ) (g : Function) (this : core.Left) (o : Option Location) (before : List ℕ) (b : Code)
        → IsSoundAt left (here cs g this) w d b → IsSteady cs this o w t → Below cs w d t k k'
        → Alike t (Go mark (names_of (here cs g this) o) (spoken_body g before b) k) (Go mark' own (copied_body left (here cs g this) d before b) k')
    -- elements of a local are still to be cleared
    alike_clear : {d : ℕ} {cs : List ℕ} {w : ℕ → Bool} {t : Store} {k k' : Frames} → (mark mark' : Mark) (left : ℕ) (g : Function) (this : core.Left) (o : Option Location) (before : List ℕ) (b : Code) (p : Place) (n : ℕ) (m : Member) (all : List (List ℕ))
        → IsHomed home (here cs g this) (local_root (here cs g this) n) → AllPlaced home places own (here cs g this) (is_direct m.shape.reach) n all → AllSpared home places own (here cs g this) w p (is_direct m.shape.reach) n all
        → IsSoundAt left (here cs g this) w d b → IsSteady cs this o w t → Below cs w d t k k'
        → Alike t (Go mark (names_of (here cs g this) o) (spoken.cleared h.plain g n all (spoken_body g before b)) k)
        (Go mark' own (machine_code (cleared (here cs g this) p n (Some m) all (body_of (call_of h left) (here cs g this) d before b))) k')
    -- the arguments from the j-th on are still to be passed to function f; `from` is the caller
    alike_enter : {w inner : ℕ → Bool} {t : Store} {k k' : Frames} → IsWider inner w → (mark mark' : Mark) (n left : ℕ) (cs : List ℕ) (from f : Function) (this object : core.Left) (o q : Option Location) (p : Place) (j : ℕ) (args : List Argument) (before : List ℕ) (b : Code) (d left' : ℕ)
        → IsSoundAt left (here (n ∷ cs) f object) inner 0 f.body → IsSteady (n ∷ cs) object q inner t
        → AreSoundArguments home places own (here cs from this) (here (n ∷ cs) f object) inner p j args
        → IsSoundAt left' (here cs from this) w d b → IsSteady cs this o w t → Below cs w d t k k'
        → Alike t (Go mark (names_of (here (n ∷ cs) f object) q) (spoken.passed h.plain from j args) (Go Inner (names_of (here (n ∷ cs) f object) q) (spoken_body f [] f.body) (Go BehindCall (names_of (here cs from this) o) (spoken_body from before b) k)))
        (Go mark' own (machine_code (passed (here cs from this) (result_name (here cs from this)) (here (n ∷ cs) f object) p j args (body_of (call_of h left) (here (n ∷ cs) f object) 0 [] f.body))) (Go BehindBlock own (copied_body left' (here cs from this) d before b) k'))
    alike_begin : {w inner : ℕ → Bool} {t : Store} {k k' : Frames} → IsWider inner w → (mark mark' : Mark) (n left : ℕ) (cs : List ℕ) (from f : Function) (this object : core.Left) (o q : Option Location) (p : Place) (r : Kind) (args : List Argument) (before : List ℕ) (b : Code) (d left' : ℕ)
        → IsSoundAt left (here (n ∷ cs) f object) inner 0 f.body → IsSteady (n ∷ cs) object q inner t
        → AreSoundArguments home places own (here cs from this) (here (n ∷ cs) f object) inner p 0 args → IsSoundAnswer home places own (here (n ∷ cs) f object) (Some r) → SparesAnswer home places own (here cs from this) inner p (n ∷ cs) f (Some r)
        → IsSoundAt left' (here cs from this) w d b → IsSteady cs this o w t → Below cs w d t k k'
        → Alike t (Go mark (names_of (here (n ∷ cs) f object) q) (machine.Begin (spoken.passed h.plain from 0 args)) (Go Inner (names_of (here (n ∷ cs) f object) q) (spoken_body f [] f.body) (Go BehindCall (names_of (here cs from this) o) (spoken_body from before b) k)))
        (Go mark' own (machine_code (stmt.Put p (cell_of (here cs from this) p false (answer_name (here cs from this) (n ∷ cs) f)) core.Whole (core.Literal p r 0)
        (passed (here cs from this) (result_name (here cs from this)) (here (n ∷ cs) f object) p 0 args (body_of (call_of h left) (here (n ∷ cs) f object) 0 [] f.body)))) (Go BehindBlock own (copied_body left' (here cs from this) d before b) k'))

  -- what a run comes to
  abbrev pub AlikeOutcome : Outcome → Outcome → Type 0
  AlikeOutcome (Suspended f a) (Suspended f' b) = (a ≡ b) × ((words : Location → ℕ) → Alike (record { words = words; targets = a.store.targets }) f f')
  AlikeOutcome (Ended a) (Ended b) = (a ≡ b) × LeadsUp h.process a.store.targets
  AlikeOutcome (Stuck a) (Stuck b) = a ≡ b
  AlikeOutcome Unfinished Unfinished = Unit {0}
  AlikeOutcome _ _ = ⊥

  -- no pointer is about to be assigned
  abbrev pub Declares : Frames → Type 0
  Declares Stop = Unit {0}
  Declares (Go mark names machine.End k) = Declares k
  Declares (Go mark names (machine.Point false l t r) k) = ⊥
  Declares (Go mark names b k) = Unit {0}

  abbrev pub IsKept : Outcome → Type 0
  IsKept (Suspended f a) = Knows home places own h a.store × Declares f × LeadsWell around a.store.targets
  IsKept _ = Unit {0}

  -- from here on what is static holds, no pointer is assigned but at its declaration, and none leads to a counter
  abbrev pub KeepsFrom : (Location → ℕ) → Frames → Held → Type 0
  KeepsFrom signals f a = (j : ℕ) → IsKept (after places (λ f. machine.End) signals j f a)
