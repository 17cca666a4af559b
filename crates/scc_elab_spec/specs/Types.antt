-- What stands at a location of a function, by the declarations alone (ISO C++ [expr.ref], [expr.sub]); and which members may move.
use Rattle.std.specs.Prelude.{ℕ, suc, Bool, true, false, not, ◌&&◌, nat_eq, List, [], ◌∷◌, ◌++◌, Option, Some, None, option_map, option_and_then, slice_get, unwrap_or}
use Rattle.std.specs.List.{list_any}
use Rattle.scc_elab_spec.specs.Term.{Term, Left, Local, Answer, This, Follow, Index, Target, Null, Address, Copy, Argument, Value, Leads, ModuleName}
use Rattle.scc_elab_spec.specs.Term as term
use Rattle.scc_elab_spec.specs.Program.{Base, Number, OfClass, Reach, Direct, Pointer, Reference, Shape, Member, Code, Function, Plain}
use Rattle.scc_elab_spec.specs.Program as code

abbrev pub is_direct : Reach → Bool
is_direct Direct = true
is_direct r = false

abbrev pub is_reference : Reach → Bool
is_reference Reference = true
is_reference r = false

abbrev pub class_in : Option Base → Option ℕ
class_in (Some (OfClass c)) = Some c
class_in b = None

abbrev pub member_at : Plain → Option ℕ → ℕ → Option Member
member_at p c m = option_and_then (λ c. option_and_then (λ k. slice_get k.members m) (slice_get p.classes c)) c

abbrev pub base_of_member : Option Member → Option Base
base_of_member m = option_map (λ m. m.shape.base) m

-- what stands at a location when the arrays around it are gone through
abbrev pub base_at : Plain → Function → Left → Option Base
base_at p f (Local q n) = base_of_member (slice_get f.locals n)
base_at p f (Answer q n) = None
base_at p f (This q) = option_map OfClass f.class
base_at p f (Follow q l) = base_at p f l
base_at p f (term.Member l m) = base_of_member (member_at p (class_in (base_at p f l)) m)
base_at p f (Index l e) = base_at p f l

-- the declaration that a location ends with, if any
abbrev pub declared_at : Plain → Function → Left → Option Member
declared_at p f (Local q n) = slice_get f.locals n
declared_at p f (term.Member l m) = member_at p (class_in (base_at p f l)) m
declared_at p f l = None

-- the sizes of the arrays that are left at a location
abbrev pub tail_of : List ℕ → List ℕ
tail_of [] = []
tail_of (x ∷ xs) = xs

abbrev pub sizes_at : Plain → Function → Left → List ℕ
sizes_at p f (Index l e) = tail_of (sizes_at p f l)
sizes_at p f l = unwrap_or (option_map (λ m. m.shape.sizes) (declared_at p f l)) []

-- whether a pointer or reference stands there
abbrev pub points_at : Plain → Function → Left → Bool
points_at p f (Index l e) = points_at p f l
points_at p f l = unwrap_or (option_map (λ m. not (is_direct m.shape.reach)) (declared_at p f l)) false

-- a member of a class
pub record Place : Type 0 where
  pub class : ℕ
  pub member : ℕ

abbrev pub same_member : Place → Place → Bool
same_member a b = nat_eq a.class b.class && nat_eq a.member b.member

-- the last member that a location names behind its last pointer
abbrev pub last_member : Plain → Function → Left → List Place
last_member p f (term.Member l m) = unwrap_or (option_map (λ c. record { class = c; member = m } ∷ []) (class_in (base_at p f l))) []
last_member p f (Index l e) = last_member p f l
last_member p f l = []

abbrev pub addressed : Plain → Function → Target → List Place
addressed p f (Address l) = last_member p f l
addressed p f t = []

abbrev pub arguments : Plain → Function → List Argument → List Place
arguments p f [] = []
arguments p f (Leads t ∷ rest) = addressed p f t ++ arguments p f rest
arguments p f (a ∷ rest) = arguments p f rest

-- The members that statements may move: the last member of a left side, unless a constructor runs them; and a member whose address is taken or to
-- which a reference is bound. Statements in branches that aren't taken count.
abbrev pub written : Bool → List Place → List Place
written true ps = []
written false ps = ps

abbrev pub moved : Plain → Function → Bool → Code → List Place
moved p f c code.End = []
moved p f c (code.Declare q n r) = moved p f c r
moved p f c (code.Assign q l k e r) = written c (last_member p f l) ++ moved p f c r
moved p f c (code.Point q l t r) = written c (last_member p f l) ++ (addressed p f t ++ moved p f c r)
moved p f c (code.Write q l e r) = written c (last_member p f l) ++ moved p f c r
moved p f c (code.Call q n g o as_given r) = arguments p f as_given ++ moved p f c r
moved p f c (code.If q t a b r) = moved p f c a ++ (moved p f c b ++ moved p f c r)
moved p f c (code.Loop q n b r) = moved p f c b ++ moved p f c r
moved p f c (code.Block q b r) = moved p f c b ++ moved p f c r
moved p f c (code.Exit q n r) = moved p f c r
moved p f c (code.Return q v r) = moved p f c r
moved p f c (code.Wait q n r) = moved p f c r
moved p f c (code.Make q l b as_given r) = written c (last_member p f l) ++ (arguments p f as_given ++ moved p f c r)
moved p f c (code.Bind q l t r) = moved p f c r
moved p f c (code.Process q t g e r) = moved p f c r
moved p f c (code.Sensitive q is r) = moved p f c r
moved p f c (code.Quiet q r) = moved p f c r
moved p f c (code.Reset q s e a r) = moved p f c r

-- whether the function of that number is its class's constructor
abbrev pub is_number : ℕ → Option ℕ → Bool
is_number n None = false
is_number n (Some m) = nat_eq n m

abbrev pub is_constructor : Plain → Function → ℕ → Bool
is_constructor p f n = unwrap_or (option_and_then (λ c. option_map (λ k. is_number n k.constructor) (slice_get p.classes c)) f.class) false

abbrev pub moved_from : Plain → ℕ → List Function → List Place
moved_from p n [] = []
moved_from p n (f ∷ fs) = moved p f true f.inits ++ (moved p f (is_constructor p f n) f.body ++ moved_from p (suc n) fs)

-- A member that no function but a constructor assigns, and of which nothing takes the address, is fixed once construction is done.
abbrev pub is_moved : Plain → Place → Bool
is_moved p m = list_any (same_member m) (moved_from p 0 p.functions)
