-- Initialisers by the members that they fill or make. This project's own.
use Rattle.std.specs.Prelude.{◌≡◌, ℕ, zero, suc, List, [], ◌∷◌, ◌++◌, map, slice_get, Option, Some, None, if◌then◌else◌}
use Rattle.scc_plain_tree.specs.declared.stmt.PlainStmt.{PlainStmt}
use Rattle.scc_plain_view.specs.Codes.{code_of, stmt_code}
use Rattle.scc_elab_spec.specs.Inits.{belongs, first_make, owner}
use Rattle.scc_elab_spec.specs.Program.{End}
use Rattle.scc_elab_spec.specs.Term.{Argument}
use Rattle.scc_elab_inits.specs.Makes.{or_args}
use Rattle.scc_elab_groups.specs.declared.groups.Group.{Group}
use Rattle.scc_elab_groups.specs.declared.groups.Groups.{Groups}

abbrev pub Tails : Type 0
Tails = List (List PlainStmt)

abbrev pub tails_of : Group → Tails
tails_of g = map (λ t. t.now) g.tails.items

-- where each of some initialisers that belongs to a member begins, or to none; the last one first
abbrev pub backward : Option ℕ → List PlainStmt → Tails
backward m [] = []
backward m (x ∷ xs) = if belongs m (owner (code_of (x ∷ xs))) then backward m xs ++ (x ∷ xs) ∷ [] else backward m xs

abbrev pub AreEmpty : List Tails → Type 0
AreEmpty [] = Unit {0}
AreEmpty (ts ∷ tss) = (ts ≡ []) × AreEmpty tss

abbrev pub with_at : ℕ → (Tails → Tails) → List Tails → List Tails
with_at n f [] = []
with_at zero f (ts ∷ tss) = f ts ∷ tss
with_at (suc n) f (ts ∷ tss) = ts ∷ with_at n f tss

-- one more is noted
abbrev pub Noted : Option ℕ → List PlainStmt → Groups → Groups → Type 0
Noted (Some n) t old new = (map tails_of new.members.items ≡ with_at n (λ ts. ts ++ t ∷ []) (map tails_of old.members.items)) × (tails_of new.none ≡ tails_of old.none)
Noted None t old new = (map tails_of new.members.items ≡ map tails_of old.members.items) × (tails_of new.none ≡ tails_of old.none ++ t ∷ [])

pub record Grouped (list : List PlainStmt) (g : Groups) : Type 0 where
  pub members : (n : ℕ) (ts : Tails) → slice_get (map tails_of g.members.items) n ≡ Some ts → ts ≡ backward (Some n) list
  pub none : tails_of g.none ≡ backward None list

-- the arguments of the first of some statements, if it makes an object
abbrev pub first_args : List PlainStmt → Option (List Argument)
first_args [] = None
first_args (s ∷ r) = first_make (stmt_code s End)

-- the arguments of what makes an object, of the last one that there are any
abbrev pub last_args : Tails → Option (List Argument) → Option (List Argument)
last_args [] o = o
last_args (t ∷ ts) o = last_args ts (or_args (first_args t) o)
