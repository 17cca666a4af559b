-- What the facts of a core tell of its program. This project's own.
use Rattle.std.specs.Prelude.{◌≡◌, ℕ, zero, suc, Bool, true, false, ◌&&◌, if◌then◌else◌, option_map, List, [], ◌∷◌, map, Option, Some, None, Result, Ok, Err}
use Rattle.scc_base.specs.declared.code.Code.TheVariants as reason
use Rattle.scc_base.specs.declared.refusal.Place.{Place}
use Rattle.scc_base.specs.declared.refusal.Refusal.{Refusal}
use Rattle.scc_base.specs.declared.refusal.Stop.{Stop}
use Rattle.scc_base.specs.declared.refusal.Stop.TheVariants as stop
use Rattle.scc_core.specs.declared.program.CoreProcess.{CoreProcess}
use Rattle.scc_core.specs.declared.stmt.CoreStmt.{CoreStmt}
use Rattle.scc_core_spec.specs.Code.{Code}
use Rattle.scc_core_spec.specs.First.{or_else, first_of, when, refused}
use Rattle.scc_core_spec.specs.Flow.{idle_loops}
use Rattle.scc_core_spec.specs.Live.{alive, live}
use Rattle.scc_core_spec.specs.Program.{Program}
use Rattle.scc_core_spec.specs.Static.{Cells}
use Rattle.scc_core_spec.specs.Rules.{waits, wait_in_method, loop_may_not_wait, end_reached}
use Rattle.scc_core_view.specs.Codes.{code_of}
use Rattle.scc_core_view.specs.Programs.{is_thread}
use Rattle.scc_rules.specs.Refusals.{phase}
use Rattle.scc_rules.specs.declared.facts.Facts.{Facts}
use Rattle.scc_rules.specs.declared.facts.Lives.{Lives}

-- the live part of each process, and whether some path comes to the end of its body
pub record HasLives (f : Facts) (p : Program) : Type 0 where
  pub lives : map code_of f.lives.items ≡ map (λ q. live p.cells q.body) p.processes
  pub ends : f.ends.items ≡ map (λ q. (alive p.cells q.body).ends) p.processes

-- the same of some processes, where the cells are these
pub record HasBodies (cs : Cells) (ps : List CoreProcess) (l : Lives) : Type 0 where
  pub bodies : map code_of l.bodies.items ≡ map (λ p. live cs (code_of p.body)) ps
  pub ends : l.ends.items ≡ map (λ p. (alive cs (code_of p.body)).ends) ps

-- what a rule says of one process: the first wait, in a method; a loop of a live part that may not wait; an end of a thread to which a path comes
abbrev pub in_method : Bool → Option Place → Option Refusal
in_method true place = None
in_method false place = option_map (refused reason.WaitInMethod) place

abbrev pub waiting : CoreProcess → Option Refusal
waiting p = if is_thread p.sort then None else first_of (λ at. Some (refused reason.WaitInMethod at)) (waits (code_of p.body))

abbrev pub idle_in : Code → Option Refusal
idle_in c = first_of (λ at. Some (refused reason.LoopMayNotWait at)) (idle_loops c)

abbrev pub idling : List CoreStmt → Option Refusal
idling ss = idle_in (code_of ss)

abbrev pub ending : CoreProcess → Bool → Option Refusal
ending p ends = when (is_thread p.sort && ends) (refused reason.EndReached p.place)

-- ---- what the whole tells: of the rules on waits it finds the first that is broken, where no rule before them is

abbrev pub stays : Program → Option Refusal
stays p = or_else (wait_in_method p) (or_else (loop_may_not_wait p) (end_reached p))

abbrev pub TellsOf : Program → ℕ → Refusal → Type 0
TellsOf p zero r = Unit {0}
TellsOf p (suc zero) r = stays p ≡ Some r
TellsOf p (suc (suc n)) r = stays p ≡ None

abbrev pub Tells : {A : Type 0} → Program → Result A Stop → Type 0
Tells p (Ok a) = stays p ≡ None
Tells p (Err (stop.Refused r)) = TellsOf p (phase r.code) r
Tells p (Err stop.NoMemory) = Unit {0}
