-- What local variables and parameters hold.
use Rattle.std.proofs.Common.{◌≡◌, ℕ, suc, Bool, true, false, ◌&&◌, List, [], ◌∷◌, ◌++◌, length, map, if◌then◌else◌, refl, ap}
use Rattle.std.specs.Prelude.{nat_lt, nat_le}
use Rattle.std.specs.List.{list_all}
use Rattle.scc_base.specs.declared.refusal.Place.{Place}
use Rattle.scc_bits.specs.Value.{Number}
use Rattle.scc_tree.specs.declared.local.Hold.{Hold}
use Rattle.scc_templates_spec.specs.Walked.{Walked, and_walk}
use Rattle.scc_templates_spec.specs.World.{Owner, World}
use Rattle.scc_templates_spec.specs.Replace.{Bound, replace_type}
use Rattle.scc_templates_spec.specs.Tree.{Trees, Nil, Cons, Ty, place_of}
use Rattle.scc_templates_spec.specs.Source.{Source}
use Rattle.scc_templates_spec.specs.Source as source
use Rattle.scc_elab_spec.specs.Program.{Reach, Direct, Pointer, Reference}
use Rattle.scc_plain_spec.specs.Numbers.{small}
use Rattle.scc_plain_spec.specs.Types.{Base, OfNumber, OfObject, InPort, OutPort, OfSignal, OfName}
use Rattle.scc_plain_spec.specs.Constants.{thing, typed}
use Rattle.scc_plain_spec.specs.Parts.{demanded}
use Rattle.scc_plain_spec.specs.Scope.{Answer, Scope}
use Rattle.scc_plain_spec.specs.Functions.{Routine}
use Rattle.scc_plain_spec.specs.Meaning.{site_of}
use Rattle.scc_plain_spec.specs.Forms.{Form, Shape, form_of, reach_of}
use Rattle.scc_plain_spec.specs.Room.{Around, Local, Numbering, base_number}
use Rattle.scc_plain_spec.specs.Shapes.{Signature, size, sizes, shape, may_be_param, param_form, param_forms, result_of, signature}
use Rattle.scc_plain_spec.specs.Single.{may_be_local, checked}
use Rattle.scc_plain_spec.specs.Whole.{member_in, param_locals}
use Rattle.scc_plain_laws.proofs.Walks.{Finds, finds-pure, finds-none, finds-then, finds-behind, finds-when, by-option}
use Rattle.scc_plain_bounds_laws.specs.Bounds.{are_sizes, is_bounded_local, may_stand}
use Rattle.scc_plain_bounds_laws.proofs.Bounded.{both}

-- a number, or a module's name
abbrev pub may_hold : Reach → Base → Bool
may_hold Direct (OfNumber k) = true
may_hold Direct OfName = true
may_hold Direct b = false
may_hold r b = true

abbrev pub IsLocal : Shape → Type 0
IsLocal h = (may_hold h.reach h.base ≡ true) × (are_sizes h.sizes ≡ true)

abbrev pub AllLocals : List Local → Type 0
AllLocals [] = Unit {0}
AllLocals (l ∷ ls) = IsLocal l.shape × AllLocals ls

-- what locals hold
abbrev pub reaches : List Local → List Reach
reaches ls = map (λ l. l.shape.reach) ls

pub locals-more : (ls : List Local) (l : Local) → AllLocals ls → IsLocal l.shape → AllLocals (ls ++ l ∷ [])
locals-more [] l h i = (i, tt)
locals-more (k ∷ ls) l h i = (h.0, locals-more ls l h.1 i)

and-second : (a b : Bool) → (a && b) ≡ true → b ≡ true
and-second true b e = e
and-second false b e = cc

abbrev IsSize : ℕ → Type 0
IsSize n = nat_le n 65536 ≡ true

abbrev AreSizes : List ℕ → Type 0
AreSizes ns = are_sizes ns ≡ true

abbrev HasSizes : Shape → Type 0
HasSizes h = are_sizes h.sizes ≡ true

size-finds : (p : Place) (n : Number) → Finds IsSize (size p n)
size-finds p n = by-option (small n) (λ g. rw g (finds-none refl)) (λ k g. rw g (finds-when (nat_lt 0 k && nat_le k 65536) (λ e. finds-pure (and-second (nat_lt 0 k) (nat_le k 65536) e)) (finds-none refl)))

local-holds : (b : Base) (r : Reach) (vector : Bool) (n : ℕ) → may_be_local (record { base = b; reach = r; vector = vector; dims = n }) ≡ true → may_hold r b ≡ true
local-holds (OfNumber k) Direct vector n e = refl
local-holds OfName Direct vector n e = refl
local-holds (OfObject c as_given) Direct vector n e = cc
local-holds (InPort k) Direct vector n e = cc
local-holds (OutPort k) Direct vector n e = cc
local-holds (OfSignal k) Direct vector n e = cc
local-holds b Pointer vector n e = refl
local-holds b Reference vector n e = refl

param-holds : (b : Base) (r : Reach) (vector constructor : Bool) (n : ℕ) → may_be_param constructor (record { base = b; reach = r; vector = vector; dims = n }) ≡ true → may_hold r b ≡ true
param-holds (OfNumber k) Direct vector constructor n e = refl
param-holds OfName Direct vector constructor n e = refl
param-holds (OfObject c as_given) Direct vector constructor n e = cc
param-holds (InPort k) Direct vector constructor n e = cc
param-holds (OutPort k) Direct vector constructor n e = cc
param-holds (OfSignal k) Direct vector constructor n e = cc
param-holds b Pointer vector constructor n e = refl
param-holds b Reference vector constructor n e = refl

abbrev IsParam : Form → Type 0
IsParam f = may_hold f.reach f.base ≡ true

abbrev pub AllParams : List Form → Type 0
AllParams [] = Unit {0}
AllParams (f ∷ fs) = IsParam f × AllParams fs

-- of so many parameters
abbrev pub HasParams : ℕ → Signature → Type 0
HasParams n g = AllParams g.params × (length g.params ≡ n)

module _ (s : Source) (w : World Answer) where
  sizes-find : (c : Scope) (ts : Trees) → Finds AreSizes (sizes s w c ts)
  sizes-find c Nil = finds-pure refl
  sizes-find c (Cons t ts) = finds-then (finds-behind (demanded (place_of t) (thing s w c t)) (λ n. size-finds (place_of t) n)) (λ n h. finds-then (sizes-find c ts) (λ ns i. finds-pure {x = n ∷ ns} (both (nat_le n 65536) (are_sizes ns) h i)))

  shape-finds : (c : Scope) (t : Ty) (h : Hold) (ts : Trees) → Finds HasSizes (shape s w c t h ts)
  shape-finds c t h ts = finds-behind (typed s w c t) (λ y. finds-then (sizes-find c ts) (λ ns i. finds-pure {x = record { base = y.base; reach = reach_of h; vector = y.vector; sizes = ns }} i))

  pub local-finds : (a : Around) (c : Scope) (t : Ty) (h : Hold) (ts : Trees) (p : Place) → Finds IsLocal (and_walk (shape s w c t h ts) (checked s w a p))
  local-finds a c t h ts p = finds-then (shape-finds c t h ts) (λ x i. finds-when (may_be_local (form_of x)) (λ e. finds-pure (local-holds x.base x.reach x.vector (length x.sizes) e, i)) (finds-none refl))

  param-finds : (c : Scope) (b : Bound) (constructor : Bool) (q : source.Taken) → Finds IsParam (param_form s w c b constructor q)
  param-finds c b constructor q = finds-behind (shape s w c (replace_type b q.type) q.hold Nil) (λ x. finds-when (may_be_param constructor (form_of x)) (λ e. finds-pure {x = form_of x} (param-holds x.base x.reach x.vector constructor (length x.sizes) e)) (finds-none refl))

  params-find : (c : Scope) (b : Bound) (constructor : Bool) (qs : List source.Taken) → Finds (λ fs. AllParams fs × (length fs ≡ length qs)) (param_forms s w c b constructor qs)
  params-find c b constructor [] = finds-pure (tt, refl)
  params-find c b constructor (q ∷ qs) = finds-then (param-finds c b constructor q) (λ f h. finds-then (params-find c b constructor qs) (λ fs i. finds-pure {x = f ∷ fs} ((h, i.0), ap suc i.1)))

  pub signature-finds : (o : Owner) (r : Routine) (p : Place) → Finds (HasParams (length r.function.params)) (signature s w o r p)
  signature-finds o r p = finds-behind (site_of s w o p) (λ at. finds-behind (result_of s w at.scope r.bound r.function.place r.function.result) (λ k.
      finds-then (params-find at.scope r.bound r.function.constructor r.function.params) (λ fs h. finds-pure {x = record { params = fs; result = k }} h)))

pub params-are : (qs : List source.Taken) (fs : List Form) → AllParams fs → AllLocals (param_locals qs fs)
params-are [] fs h = tt
params-are (q ∷ qs) [] h = tt
params-are (q ∷ qs) (f ∷ fs) h = ((h.0, refl), params-are qs fs h.1)

-- in the program
stands : (n : Numbering) (r : Reach) (b : Base) → may_hold r b ≡ true → may_stand r (base_number n b) ≡ true
stands n Direct (OfNumber k) e = refl
stands n Direct OfName e = refl
stands n Direct (OfObject c as_given) e = cc
stands n Direct (InPort k) e = cc
stands n Direct (OutPort k) e = cc
stands n Direct (OfSignal k) e = cc
stands n Pointer b e = refl
stands n Reference b e = refl

pub locals-bounded : (n : Numbering) (ls : List Local) → AllLocals ls → list_all is_bounded_local (map (member_in n) ls) ≡ true
locals-bounded n [] h = refl
locals-bounded n (l ∷ ls) h = both (is_bounded_local (member_in n l)) (list_all is_bounded_local (map (member_in n) ls))
    (both (may_stand l.shape.reach (base_number n l.shape.base)) (are_sizes l.shape.sizes) (stands n l.shape.reach l.shape.base h.0.0) h.0.1) (locals-bounded n ls h.1)
