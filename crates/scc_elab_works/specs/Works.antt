-- What is still to be done, as what the definitions make of a run. This project's own.
use Rattle.std.specs.Prelude.{◌≡◌, ℕ, Bool, List, [], ◌∷◌, ◌++◌, map, drop, Option, Some, None, Result, Ok, Err, if◌then◌else◌}
use Rattle.std.specs.List.{range_with_len}
use Rattle.std.specs.Borrow.{Bor}
use Rattle.scc_base.specs.declared.refusal.Stop.{Stop}
use Rattle.scc_base.specs.declared.refusal.Stop.TheVariants as stop
use Rattle.scc_semantics.specs.Location.{Part, Element}
use Rattle.scc_core_spec.specs.Resolved.{Tried, Made, Stopped, and_made}
use Rattle.scc_plain_tree.specs.declared.program.PlainFunction.{PlainFunction}
use Rattle.scc_plain_view.specs.Plains.{function_of, member_of}
use Rattle.scc_plain_view.specs.Codes.{base_of, code_of}
use Rattle.scc_plain_view.specs.Terms.{argument_of}
use Rattle.scc_elab_spec.specs.Design as design
use Rattle.scc_elab_spec.specs.Inits.{inits_of, without_make}
use Rattle.scc_elab_spec.specs.Program.{Code, Function, Plain}
use Rattle.scc_elab_spec.specs.Grown.{Grown, nothing, added, at_path, with_target}
use Rattle.scc_elab_spec.specs.Worth.{Site, Given, at_now, worth, given}
use Rattle.scc_elab_spec.specs.Term.{Argument, Term}
use Rattle.scc_elab_spec.specs.Construct.{Now, Ran, Fell, Making, then_run, shut, from_tried, turned, looped, choose_of, ran}
use Rattle.scc_elab_spec.specs.Made.{nowhere, Building, built, making, made_one, made_members, elements_at, over_elements, none_given, grown_by}
use Rattle.scc_elab_store.specs.Locations.{part_of}
use Rattle.scc_elab_works.specs.Paths.{rows}
use Rattle.scc_elab_works.specs.declared.works.At.{At}
use Rattle.scc_elab_works.specs.Hows.{How}
use Rattle.scc_elab_works.specs.Hows as how
use Rattle.scc_elab_works.specs.declared.works.LoopOf.{LoopOf}
use Rattle.scc_elab_works.specs.declared.works.Args.{Args}
use Rattle.scc_elab_works.specs.declared.works.Form.{Form}
use Rattle.scc_elab_works.specs.declared.works.Work.{Work}
use Rattle.scc_elab_works.specs.declared.works.Work.TheVariants as work

abbrev pub function_there : Option (Bor PlainFunction) → Function
function_there None = nowhere
function_there (Some f) = function_of f.now

-- where a constructor's statements stand, whatever is made, and how many constructors may run inside it
pub record Stand : Type 0 where
  pub function : Function
  pub object : ℕ
  pub path : List Part
  pub levels : ℕ

abbrev pub at_in : At → Stand
at_in a = record { function = function_there a.function; object = a.object; path = map part_of a.path.items; levels = a.levels }

abbrev pub site_at : Plain → Stand → Site
site_at p a = record { plain = p; function = a.function; object = a.object; path = a.path; now = nothing }

abbrev pub making_at : Plain → ℕ → Making
making_at p levels = making (built p levels)

-- the statements of a constructor
abbrev pub run_at : Plain → Stand → Code → Now → Ran
run_at p a = ran (making_at p a.levels) (site_at p a)

abbrev pub chosen_of : How → Code → Code
chosen_of how.All c = c
chosen_of (how.Of m) c = inits_of m c
chosen_of (how.Without n) c = without_make (inits_of (Some n) c)

-- what is made, with no process declared
abbrev pub anew : Tried Grown → Ran
anew t = from_tried t (λ g. Fell (record { grown = g; last = None }))

-- arguments, and the constructor in which they stand
pub record Passed : Type 0 where
  pub at : Stand
  pub list : List Argument

abbrev pub passed_in : Args → Passed
passed_in args = record { at = at_in args.at; list = map argument_of args.list.now }

abbrev pub passed_at : Plain → Passed → Grown → Tried (List Given)
passed_at p q g = given (at_now (site_at p q.at) g) q.list

-- one element of an array
abbrev pub each_made : Plain → Form → Passed → Grown → List Part → Tried Grown
each_made p f q g path = if f.is_pointer then added g path f.place (design.Pointer None)
    else making_at p q.at.levels g path f.place (base_of f.base) f.is_vector (passed_at p q)

abbrev pub array_made : Plain → Form → Passed → List (List Part) → Grown → Tried Grown
array_made p f q = over_elements (each_made p f q)

abbrev pub turns_of : Plain → LoopOf → Now → Ran
turns_of p l = looped l.left l.place (run_at p (at_in l.at) (code_of l.test.now)) (run_at p (at_in l.at) (code_of l.body.now))

-- a turn begins that the test let in
abbrev pub turn_of : Plain → LoopOf → Now → Ran
turn_of p l n = turned l.place n (λ n. then_run (run_at p (at_in l.at) (code_of l.body.now) n) (turns_of p l))

-- a pointer leads to what was made at its path
abbrev pub led : Grown → List Part → Option ℕ → Now
led g path last = record { grown = with_target g (at_path path) (Some (at_path path)); last = last }

-- what each makes of a run
abbrev pub through : Plain → Work → Ran → Ran
through p (work.Run r) x = then_run x (run_at p (at_in r.at) (code_of r.list.now))
through p work.Shut x = shut x Fell
through p (work.Again l) x = then_run x (turns_of p l)
through p (work.Turn l) x = then_run x (turn_of p l)
through p (work.Lead l) x = from_tried (grown_by x) (λ g. Fell (led g (map part_of l.path.items) l.last))
through p (work.Array a) x = anew (and_made (grown_by x) (array_made p a.form (passed_in a.args) (elements_at (map part_of a.path.items) a.sizes.now)))
through p (work.Elements e) x = anew (and_made (grown_by x) (array_made p e.form (passed_in e.args) (rows (map part_of e.path.items) e.sizes.now e.next e.count)))
through p (work.Vector v) x = anew (and_made (grown_by x) (over_elements (λ g i. made_one (built p v.levels) g (map part_of v.path.items ++ Element i ∷ []) v.place (base_of v.base) none_given) (range_with_len v.next v.count)))
through p work.Made x = anew (grown_by x)

-- what all make of it, the last one first
abbrev pub pass : Plain → List Work → Ran → Ran
pass p [] x = x
pass p (w ∷ ws) x = through p w (pass p ws x)

abbrev pub outcome : Plain → List Work → Ran → Tried Grown
outcome p ws x = grown_by (pass p ws x)

-- what comes of it stays, or is the refusal; or memory is wanted
abbrev pub Steps : {A : Type 0} → Plain → Result A Stop → List Work → Now → Tried Grown → Type 0
Steps p (Ok a) ws n t = t ≡ outcome p ws (Fell n)
Steps p (Err (stop.Refused z)) ws n t = t ≡ Stopped z
Steps p (Err stop.NoMemory) ws n t = Unit {0}

-- more is put on top of what is to be done: it makes this of a run, whatever the program
abbrev pub Puts : {A E : Type 0} → Result A E → List Work → List Work → (Plain → Ran → Ran) → Type 0
Puts (Ok a) old new f = (p : Plain) (x : Ran) → outcome p new x ≡ outcome p old (f p x)
Puts (Err e) old new f = Unit {0}

-- what is still to be done goes on where this is made first, whatever the program
abbrev pub Begins : {A E : Type 0} → Result A E → List Work → List Work → Now → (Plain → Tried Grown) → Type 0
Begins (Ok a) old new n t = (p : Plain) → outcome p old (anew (t p)) ≡ outcome p new (Fell n)
Begins (Err e) old new n t = Unit {0}

-- one of two branches, by a test
abbrev pub tested_in : Plain → Stand → Term → Code → Code → Now → Ran
tested_in p a t one other n = from_tried (worth (at_now (site_at p a) n.grown) t) (λ x. choose_of x (run_at p a one) (run_at p a other) n)

-- this is left, or it is the refusal; or memory is wanted
abbrev pub Leaves : {A : Type 0} → Result A Stop → Grown → Tried Grown → Type 0
Leaves (Ok a) g t = t ≡ Made g
Leaves (Err (stop.Refused z)) g t = t ≡ Stopped z
Leaves (Err stop.NoMemory) g t = Unit {0}
