-- Frames of a process against those of its resolved body: each list of statements has its resolved one, with what is known of pointers where it began.
use Rattle.std.specs.Prelude.{◌≡◌, ℕ, true, false, Option, Some}
use Rattle.scc_semantics.specs.Location.{Location}
use Rattle.scc_semantics.specs.Body.{Body}
use Rattle.scc_semantics.specs.Steady.{plain_body}
use Rattle.scc_semantics.specs.Same.{is_own}
use Rattle.scc_semantics.specs.Value.{Held}
use Rattle.scc_semantics.specs.Machine.{Frames, Stop, Go, Mark, Outcome, Suspended, Ended, Stuck, Unfinished}
use Rattle.scc_core_spec.specs.Term.{Left}
use Rattle.scc_core_spec.specs.Code.{Code}
use Rattle.scc_core_spec.specs.Program.{Program, Process}
use Rattle.scc_core_spec.specs.Resolved.{Made}
use Rattle.scc_core_spec.specs.Unpointed.{unpointed}
use Rattle.scc_core_spec.specs.Source.{Home, body_of}
use Rattle.scc_core_unroll_laws.specs.Unrolling.{own}
use Rattle.scc_core_pass_laws.specs.Pointing.{OwnCode, Known, leads_of, w_of}

-- where local pointers lead
abbrev pub Locals : Type 0
Locals = ℕ → Option (Option Left)

-- what is known in one place is known in the other
abbrev pub Sub : Locals → Locals → Type 0
Sub s t = (n : ℕ) (x : Option Left) → s n ≡ Some x → t n ≡ Some x

module _ (home : Home) (p : Program) (constant : Location → Option ℕ) (i : ℕ) (q : Process) where
  abbrev pub Code-body : Code → Body
  Code-body c = body_of home p.cells i c

  pub record Resolves (local : Locals) (c d : Code) : Type 0 where
    pub own : OwnCode q p.cells c
    pub made : unpointed (leads_of home p constant i q local) c ≡ Made d
    pub plain : plain_body (Code-body d) ≡ true

  pub data Beneath : Locals → Frames → Frames → Type 0 where
    beneath_stop : {local : Locals} → Beneath local Stop Stop
    beneath_go : {local : Locals} {k k' : Frames} → (mark : Mark) (old : Locals) (c d : Code) → Sub old local → Resolves old c d → Beneath old k k'
        → Beneath local (Go mark (own (w_of home p constant i q)) (Code-body c) k) (Go mark (own (w_of home p constant i q)) (Code-body d) k')

  pub data Matching : Locals → Frames → Frames → Type 0 where
    matching_stop : {local : Locals} → Matching local Stop Stop
    matching_go : {local : Locals} {k k' : Frames} → (mark mark' : Mark) (c d : Code) → Resolves local c d → Beneath local k k'
        → Matching local (Go mark (own (w_of home p constant i q)) (Code-body c) k) (Go mark' (own (w_of home p constant i q)) (Code-body d) k')

  -- the pointers that aren't the process's lead where they led
  abbrev pub Stayed : (t u : Location → Option Location) → Type 0
  Stayed t u = (l : Location) → is_own i l.root ≡ false → u l ≡ t l

  abbrev pub SameHeld : Held → Held → Type 0
  SameHeld a b = (a.store.words ≡ b.store.words) × (a.requests ≡ b.requests)

  -- one run beside the other, from pointers t
  abbrev pub Beside : (Location → Option Location) → Outcome → Outcome → Type 0
  Beside t (Suspended f a) (Suspended g b) = (local : Locals) × SameHeld a b × Matching local f g × Known home p constant i q local a.store.targets × Stayed t a.store.targets
  Beside t (Ended a) (Ended b) = (local : Locals) × SameHeld a b × Known home p constant i q local a.store.targets × Stayed t a.store.targets
  Beside t (Stuck a) (Stuck b) = SameHeld a b × Stayed t a.store.targets
  Beside t Unfinished Unfinished = Unit {0}
  Beside t _ _ = ⊥
