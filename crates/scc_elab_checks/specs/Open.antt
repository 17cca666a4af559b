-- What a check of a program says, and lists of statements that are still to be looked at. This project's own.
use Rattle.std.specs.Prelude.{◌≡◌, ℕ, List, [], ◌∷◌, Option, Some, None, option_map, Result, Ok, Err, if◌then◌else◌}
use Rattle.std.specs.Borrow.{Bor}
use Rattle.scc_base.specs.declared.refusal.Place.{Place}
use Rattle.scc_base.specs.declared.refusal.Refusal.{Refusal}
use Rattle.scc_base.specs.declared.refusal.Stop.{Stop}
use Rattle.scc_base.specs.declared.refusal.Stop.TheVariants as stop
use Rattle.scc_base.specs.declared.code.Code.TheVariants as reason
use Rattle.scc_core_spec.specs.First.{or_else, refused}
use Rattle.scc_elab_spec.specs.Program.{Function, Plain}
use Rattle.scc_elab_spec.specs.Types.{is_constructor}
use Rattle.scc_plain_tree.specs.declared.stmt.PlainStmt.{PlainStmt}
use Rattle.scc_elab_spec.specs.After.{constructing}
use Rattle.scc_plain_view.specs.Codes.{code_of}

-- no refusal, or just this one, and no memory is wanted
abbrev pub Tells : {A : Type 0} → Option Refusal → Result A Stop → Type 0
Tells r (Ok a) = r ≡ None
Tells r (Err (stop.Refused x)) = r ≡ Some x
Tells r (Err stop.NoMemory) = ⊥

-- the first statement of construction in lists of which the last comes first, or else another
abbrev pub waiting : List (Bor (List PlainStmt)) → Option Place → Option Place
waiting [] other = other
waiting (l ∷ ls) other = waiting ls (or_else (constructing (code_of l.now)) other)

-- the refusal of a function of that number for a statement of construction, if it is no constructor
abbrev pub misplaced_in : Plain → ℕ → Function → Option Refusal
misplaced_in p n f = if is_constructor p f n then None else option_map (refused reason.Constructor) (constructing f.body)
