-- Objects: their members in declaration order, each with its initialisers, then what belongs to no member, then the constructor's body (ISO C++
-- [class.base.init]; IEEE 1666-2011, 4.1).
use Rattle.std.specs.Prelude.{ℕ, zero, suc, ◌+◌, ◌-◌, min, Bool, true, false, not, ◌&&◌, nat_eq, List, [], ◌∷◌, ◌++◌, map, length, Option, Some, None, option_map, option_and_then, slice_get, unwrap_or, is_some, if◌then◌else◌}
use Rattle.std.specs.List.{range_with_len}
use Rattle.scc_base.specs.declared.refusal.Place.{Place}
use Rattle.scc_base.specs.declared.code.Code.TheVariants as reason
use Rattle.scc_semantics.specs.Location.{Location, Part, Element}
use Rattle.scc_semantics.specs.Location as location
use Rattle.scc_core_spec.specs.First.{refused}
use Rattle.scc_core_spec.specs.Resolved.{Tried, Made, Stopped, and_made}
use Rattle.scc_elab_spec.specs.Term.{Argument}
use Rattle.scc_elab_spec.specs.Inits.{inits_of, first_make, without_make}
use Rattle.scc_elab_spec.specs.Program.{Base, Number, OfClass, Input, Output, Signal, Named, Code, End, Member, Class, Function, Plain}
use Rattle.scc_elab_spec.specs.Design as design
use Rattle.scc_elab_spec.specs.Types.{is_direct}
use Rattle.scc_elab_spec.specs.Bodies.{elements}
use Rattle.scc_elab_spec.specs.Grown.{Grown, added, at_path, local_of, thing_at, node_of, variable_kind, with_word, with_target, with_vector}
use Rattle.scc_elab_spec.specs.Worth.{Site, at_now, is_inside, direct_kind, Given, Word, Place_given, given}
use Rattle.scc_elab_spec.specs.Construct.{Ran, Fell, Left_out, Halted, Making, then_run, ran}

-- what is made so far after some statements; blocks that they would leave there are none
abbrev pub grown_by : Ran → Tried Grown
grown_by (Fell n) = Made n.grown
grown_by (Left_out d n) = Made n.grown
grown_by (Halted r) = Stopped r

-- the parameters take the arguments in order, a module's name none
abbrev pub is_name : Base → Bool
is_name Named = true
is_name b = false

-- a word is taken by a number, a target by a pointer or reference; none of them is an array
abbrev pub param_given : Grown → ℕ → ℕ → Member → Given → Grown
param_given g object n m (Word w) = if is_inside m.shape.sizes [] && is_some (direct_kind m) then with_word g (local_of object n []) w else g
param_given g object n m (Place_given t) = if is_inside m.shape.sizes [] && not (is_direct m.shape.reach) then with_target g (local_of object n []) t else g

abbrev pub params_given : ℕ → ℕ → ℕ → List Member → List Given → Grown → Grown
params_given object n zero ms gs g = g
params_given object n (suc left) [] gs g = g
params_given object n (suc left) (m ∷ ms) [] g = g
params_given object n (suc left) (m ∷ ms) (x ∷ xs) g = if is_name m.shape.base then params_given object (n + 1) left ms (x ∷ xs) g
    else params_given object (n + 1) left ms xs (param_given g object n m x)

abbrev pub last_word : List Given → ℕ
last_word [] = 0
last_word (Word w ∷ []) = w
last_word (x ∷ xs) = last_word xs

abbrev pub over_elements : {A : Type 0} → (Grown → A → Tried Grown) → List A → Grown → Tried Grown
over_elements f [] g = Made g
over_elements f (x ∷ xs) g = and_made (f g x) (over_elements f xs)

abbrev pub none_given : Grown → Tried (List Given)
none_given g = Made []

-- the variable that stands there takes the last argument, if any
abbrev pub word_if : List Given → Location → Grown → Grown
word_if [] l g = g
word_if (x ∷ xs) l g = if is_some (variable_kind (option_and_then (node_of g) (thing_at g l))) then with_word g l (last_word (x ∷ xs)) else g

-- one thing of a base at a path, by how objects of a class are made
abbrev pub Building : Type 0
Building = Grown → List Part → Place → ℕ → (Grown → Tried (List Given)) → Tried Grown

abbrev pub made_one : Building → Grown → List Part → Place → Base → (Grown → Tried (List Given)) → Tried Grown
made_one build g path p (OfClass c) args = build g path p c args
made_one build g path p (Number k) args = and_made (added g path p (design.Variable k 0)) (λ g. and_made (args g) (λ gs. Made (word_if gs (at_path path) (with_word g (at_path path) 0))))
made_one build g path p (Signal k) args = added g path p (design.Signal k)
made_one build g path p (Input k) args = added g path p (design.Port k false (length g.objects))
made_one build g path p (Output k) args = added g path p (design.Port k true (length g.objects))
made_one build g path p Named args = Made g

-- a vector has as many elements as its last argument says, read without sign; what passes the limit on objects is refused there; an empty one isn't listed
abbrev pub made_vector : Building → Grown → List Part → Place → Base → ℕ → Tried Grown
made_vector build g path p base n = over_elements (λ g i. made_one build g (path ++ Element i ∷ []) p base none_given) (range_with_len 0 (min n 65537)) (if nat_eq n 0 then g else with_vector g path n)

abbrev pub making : Building → Making
making build g path p base true args = and_made (args g) (λ gs. made_vector build g path p base (last_word gs))
making build g path p base false args = made_one build g path p base args

abbrev pub elements_at : List Part → List ℕ → List (List Part)
elements_at path sizes = map (λ is. path ++ map Element is) (elements sizes)

abbrev pub run_inits : Making → Site → Code → Grown → Tried Grown
run_inits make s c g = grown_by (ran make s c (record { grown = g; last = None }))

-- a member: pointers are null, numbers 0; its initialisers run before a thing is made by arguments, and behind one that is made empty
abbrev pub by_arguments : Building → Site → Member → List Part → Code → Option (List Argument) → Grown → Tried Grown
by_arguments build s m path inits None g = and_made (over_elements (λ g q. making build g q m.place m.shape.base m.shape.vector none_given) (elements_at path m.shape.sizes) g) (run_inits (making build) s inits)
by_arguments build s m path inits (Some args) g = and_made (run_inits (making build) s (without_make inits) g) (λ g.
    over_elements (λ g q. making build g q m.place m.shape.base m.shape.vector (λ g. given (at_now s g) args)) (elements_at path m.shape.sizes) g)

abbrev pub made_member : Building → Site → Member → List Part → Code → Grown → Tried Grown
made_member build s m path inits g = if is_direct m.shape.reach then by_arguments build s m path inits (first_make inits) g
    else and_made (over_elements (λ g q. added g q m.place (design.Pointer None)) (elements_at path m.shape.sizes) g) (run_inits (making build) s inits)

abbrev pub made_members : Building → Site → ℕ → List Member → Code → Grown → Tried Grown
made_members build s n [] inits g = Made g
made_members build s n (m ∷ ms) inits g = and_made (made_member build s m (s.path ++ location.Member m.name ∷ []) (inits_of (Some n) inits) g) (made_members build s (n + 1) ms inits)

-- the last process is the constructor's own: initialisers that belong to no member and the body share it
abbrev pub run_rest : Making → Site → Code → Code → Grown → Tried Grown
run_rest make s inits body g = grown_by (then_run (ran make s inits (record { grown = g; last = None })) (ran make s body))

abbrev pub nowhere : Function
nowhere = record { name = 0; place = record { file = 0; at = 0 }; class = None; params = 0; locals = []; result = None; inits = End; body = End }

abbrev pub function_of : Plain → Class → Function
function_of p c = unwrap_or (option_and_then (λ n. slice_get p.functions n) c.constructor) nowhere

abbrev pub site_of : Plain → Function → ℕ → List Part → Grown → Site
site_of p f object path g = record { plain = p; function = f; object = object; path = path; now = g }

-- an object of a class: itself, its parameters, its members, then the rest
abbrev pub built_in : Plain → Building → Class → ℕ → Building
built_in p inner c number g path place n args = and_made (added g path place (design.Module number)) (λ g.
    let f = function_of p c in let object = length g.objects - 1 in
    and_made (args g) (λ gs. let s = site_of p f object path g in
    and_made (made_members inner s 0 c.members f.inits (params_given object 0 f.params f.locals gs g)) (run_rest (making inner) s (inits_of None f.inits) f.body)))

-- Each constructor that runs adds an object, and there are at most 65,536 of them.
abbrev pub built : Plain → ℕ → Building
built p zero g path place n args = Stopped (refused reason.TooManyObjects place)
built p (suc levels) g path place n args = unwrap_or (option_map (λ c. built_in p (built p levels) c n g path place n args) (slice_get p.classes n)) (Made g)

abbrev pub object_levels : ℕ
object_levels = 65537

abbrev pub grown_of : Tried Grown → Option Grown
grown_of (Made g) = Some g
grown_of (Stopped r) = None
