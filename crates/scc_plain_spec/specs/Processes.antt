-- Statements of constructors (IEEE 1666-2011, 5.2.9 to 5.2.14): processes, sensitivities, resets. What they name is looked at in construction.
use Rattle.std.specs.Prelude.{ℕ, nat_eq, Bool, true, false, ◌&&◌, ◌||◌, List, [], ◌∷◌, Option, Some, None, if◌then◌else◌}
use Rattle.scc_base.specs.declared.refusal.Place.{Place}
use Rattle.scc_base.specs.declared.code.Code.TheVariants as reason
use Rattle.scc_templates_spec.specs.Walked.{Walked, pure, fault, and_walk}
use Rattle.scc_templates_spec.specs.Walk.{Callee}
use Rattle.scc_templates_spec.specs.World.{World}
use Rattle.scc_elab_spec.specs.Program.{Sense, Process, Reset}
use Rattle.scc_templates_spec.specs.Tree.{Tree, Trees, Nil, Cons, place_of, count}
use Rattle.scc_templates_spec.specs.Statements.{Local, Simple}
use Rattle.scc_templates_spec.specs.Statements as stmts
use Rattle.scc_templates_spec.specs.Source.{Source}
use Rattle.scc_plain_spec.specs.Names.{IsFunction}
use Rattle.scc_plain_spec.specs.Scope.{Answer, Found, Found_, look}
use Rattle.scc_plain_spec.specs.Functions.{routine_of, callee_in, Routine}
use Rattle.scc_plain_spec.specs.Forms.{Subject, location_in}
use Rattle.scc_plain_spec.specs.Meant.{Meant, Done, location}
use Rattle.scc_plain_spec.specs.Room.{Around, Known, Writes, scope_in, Step, done, found, and_step, written}
use Rattle.scc_plain_spec.specs.Expressions.{meant, any, condition}
use Rattle.scc_plain_spec.specs.Simple.{last_args}

module _ (s : Source) (w : World Answer) (a : Around) (ks : List Known) (late : Bool) where
  -- an entry of a sensitivity: `pos` is 3, `neg` is 4, and they have no arguments (E304)
  abbrev pub edge_of : Place → ℕ → Subject → Trees → Walked Sense
  edge_of p x of xs = if nat_eq (count xs) 0 && (nat_eq x 3 || nat_eq x 4) then pure (record { place = p; signal = location_in of; rising = Some (nat_eq x 3) }) else fault reason.Mismatch p

  abbrev pub sense_meant : Place → Trees → Meant → Step Sense
  sense_meant p xs (Done x of) = and_step (any s w a ks late xs) (λ u. found (edge_of p x of xs))
  sense_meant p xs m = done (record { place = p; signal = location m; rising = None })

  abbrev pub sense : Tree → Step Sense
  sense e = and_step (meant s w a ks late e) (sense_meant (place_of e) (last_args e))

  abbrev pub senses : Trees → Step (List Sense)
  senses Nil = done []
  senses (Cons t ts) = and_step (sense t) (λ x. and_step (senses ts) (λ xs. done (x ∷ xs)))

  -- the function of a process, by its name (E301)
  abbrev pub process_function : Place → Option Found → ℕ → Walked Callee
  process_function at f x = by_found f
    where
      with_body : Callee → Option Routine → Walked Callee
      with_body f None = fault reason.UnknownName at
      with_body f (Some r) = pure f

      by_found : Option Found → Walked Callee
      by_found (Some (Found_ o IsFunction)) = and_walk (routine_of s w (callee_in o x) at) (with_body (callee_in o x))
      by_found f = fault reason.UnknownName at

  abbrev pub process_named : Place → Option ℕ → Walked Callee
  process_named at None = fault reason.UnknownName at
  process_named at (Some x) = process_function at (look s (scope_in a ks) x) x

  abbrev pub is_thread : stmts.Process → Bool
  is_thread stmts.Method = false
  is_thread q = true

  abbrev pub edge_sense : stmts.Process → Step (Option Sense)
  edge_sense (stmts.Clocked e) = and_step (sense e) (λ x. done (Some x))
  edge_sense q = done None

  abbrev pub process : Place → Place → Option ℕ → stmts.Process → Step Writes
  process p at x q = and_step (found (process_named at x)) (λ f. and_step (edge_sense q) (λ e. written (λ n c. Process p (is_thread q) (n.function f) e c)))

  abbrev pub reset : Place → Tree → Tree → Bool → Step Writes
  reset p e l asynchronous = and_step (meant s w a ks late e) (λ m. and_step (condition s w a ks late l) (λ x. written (λ n c. Reset p (location m) x.term asynchronous c)))
