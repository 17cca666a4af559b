-- Objects that are made step by step. This project's own.
use Rattle.std.specs.Prelude.{◌≡◌, ℕ, Bool, ◌+◌, ◌-◌, List, [], ◌∷◌, ◌++◌, map, length, drop, Option, Some, None, Result, Ok, Err, if◌then◌else◌, nat_eq, min}
use Rattle.std.specs.List.{range_with_len}
use Rattle.scc_base.specs.declared.refusal.Place.{Place}
use Rattle.scc_plain_tree.specs.declared.program.PlainMember.{PlainMember}
use Rattle.scc_elab_works.specs.declared.works.Form.{Form}
use Rattle.scc_semantics.specs.Location.{Location, Part, Element, Root}
use Rattle.scc_semantics.specs.Location as location
use Rattle.scc_core_spec.specs.Resolved.{Tried, Made, Stopped, and_made}
use Rattle.scc_elab_spec.specs.Program.{Base, Class, Code, Function, Member, Plain}
use Rattle.scc_elab_spec.specs.Design as design
use Rattle.scc_elab_spec.specs.Term.{Argument}
use Rattle.scc_elab_spec.specs.Grown.{Grown, with_made}
use Rattle.scc_elab_spec.specs.Inits.{first_make, inits_of}
use Rattle.scc_elab_spec.specs.Worth.{Given, Site}
use Rattle.scc_elab_spec.specs.Construct.{Now, Ran, Fell, then_run, from_tried}
use Rattle.scc_elab_spec.specs.Made.{Building, built, by_arguments, function_of, grown_by, made_member, made_members, made_vector, params_given, run_rest, site_of}
use Rattle.scc_elab_works.specs.Works.{Stand, anew, each_made, making_at, outcome, run_at, site_at}
use Rattle.scc_elab_works.specs.declared.works.Work.{Work}

-- the members of an object, what belongs to none of them, and the body of its constructor
abbrev pub rest_made : Plain → Stand → List Member → Grown → Tried Grown
rest_made p a ms g = and_made (made_members (built p a.levels) (site_at p a) 0 ms a.function.inits g) (run_rest (making_at p a.levels) (site_at p a) (inits_of None a.function.inits) a.function.body)

-- the constructor of an object
abbrev pub stand_of : Function → ℕ → List Part → ℕ → Stand
stand_of f object path levels = record { function = f; object = object; path = path; levels = levels }

-- an object that stands at a path takes its arguments
abbrev pub object_begun : Plain → ℕ → Function → List Member → List Part → Grown → List Given → Tried Grown
object_begun p levels f ms path g gs = rest_made p (stand_of f (length g.objects - 1) path levels) ms (params_given (length g.objects - 1) 0 f.params f.locals gs g)

-- an object that stands at a path, by its arguments
abbrev pub object_filled : Plain → ℕ → Class → List Part → (Grown → Tried (List Given)) → Grown → Tried Grown
object_filled p levels c path args g = and_made (args g) (object_begun p levels (function_of p c) c.members path g)

-- what is put on top of what is to be done for it
abbrev pub rest_passed : Stand → List Member → Plain → Ran → Ran
rest_passed a ms p x = anew (grown_by (then_run (then_run (anew (and_made (grown_by x) (made_members (built p a.levels) (site_at p a) 0 ms a.function.inits)))
    (run_at p a (inits_of None a.function.inits))) (run_at p a a.function.body)))

-- what each element of a member's array is
abbrev pub form_in : PlainMember → Bool → Form
form_in k pointer = record { is_pointer = pointer; is_vector = k.shape.vector; base = k.shape.base; place = k.place }

-- a member of an object
abbrev pub member_at : Plain → Stand → ℕ → Member → Code → Grown → Tried Grown
member_at p a n m inits = made_member (built p a.levels) (site_at p a) m (a.path ++ location.Member m.name ∷ []) (inits_of (Some n) inits)

-- one that is no pointer
abbrev pub direct_at : Plain → Stand → ℕ → Member → Code → Grown → Tried Grown
direct_at p a n m inits = by_arguments (built p a.levels) (site_at p a) m (a.path ++ location.Member m.name ∷ []) (inits_of (Some n) inits) (first_make (inits_of (Some n) inits))

-- what `new` makes at the path of a pointer
abbrev pub new_made : Plain → Stand → Form → List Argument → List Part → Grown → Tried Grown
new_made p a form list path g = each_made p form (record { at = a; list = list }) (with_made g path) path

-- of the members of an object those from one on are to be made behind what is to be done
abbrev pub AreLeft : Stand → List Member → Code → List Work → ℕ → List Work → Type 0
AreLeft a ms c old n ws = (p : Plain) (x : Ran) → outcome p ws x ≡ outcome p old (anew (and_made (grown_by x) (made_members (built p a.levels) (site_at p a) n (drop n ms) c)))

-- what is made stays, and a block that would be left there is none
abbrev pub IsShut : List Work → List Work → Type 0
IsShut old ws = (p : Plain) (x : Ran) → outcome p ws x ≡ outcome p old (anew (grown_by x))
