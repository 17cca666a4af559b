-- Which objects may stand at one location.
use Rattle.std.specs.Prelude.{◌≡◌, ℕ, Bool, true, false, not, ◌&&◌, nat_eq, List, [], ◌∷◌, Option, Some, None, slice_get}
use Rattle.std.specs.List.{list_all, list_any}
use Rattle.scc_semantics.specs.Location.{Part, Member, Element}
use Rattle.scc_elab_spec.specs.Program.{Class, Plain}
use Rattle.scc_elab_spec.specs.Program as plain
use Rattle.scc_elab_spec.specs.Design.{Design, Object, is_module}
use Rattle.scc_elab_growth_laws.specs.Changes.{IsBindable}
use Rattle.scc_elab_spec.specs.Grown.{Grown, Bound, is_pointer}

-- the members of each class have different names
abbrev pub names_differ : List plain.Member → Bool
names_differ [] = true
names_differ (m ∷ ms) = not (list_any (λ k. nat_eq m.name k.name) ms) && names_differ ms

abbrev pub is_whole_plain : Plain → Bool
is_whole_plain p = list_all (λ c. names_differ c.members) p.classes

pub data Or (A B : Type 0) : Type 0 where
  First : A → Or A B
  Second : B → Or A B

-- to which member of what a path leads: the path up to its last member, and that member's name
pub record Stem : Type 0 where
  pub around : List Part
  pub name : ℕ

abbrev pub behind_part : Option Stem → Part → Option Stem
behind_part (Some s) a = Some (record { around = a ∷ s.around; name = s.name })
behind_part None (Member n) = Some (record { around = []; name = n })
behind_part None (Element i) = None

abbrev pub stem : List Part → Option Stem
stem [] = None
stem (a ∷ path) = behind_part (stem path) a

-- a path is a front part of another
abbrev pub Front : List Part → List Part → Type 0
Front [] q = Unit {0}
Front (a ∷ p) (b ∷ q) = (a ≡ b) × Front p q
Front (a ∷ p) [] = ⊥

-- the same member, and one path is a front part of the other
abbrev pub Behind : List Part → List Part → Type 0
Behind p q = (stem p ≡ stem q) × Front p q

abbrev pub Near : List Part → List Part → Type 0
Near p q = Or (Behind p q) (Behind q p)

-- an object of a class stands at the path
pub record IsModuleAt (g : Grown) (path : List Part) : Type 0 where
  pub number : ℕ
  pub object : Object
  pub there : slice_get g.objects number ≡ Some object
  pub is_one : is_module object.node ≡ true
  pub at : object.path ≡ path

-- a path that leads to a member of an object that is there
pub record IsMember (g : Grown) (path : List Part) : Type 0 where
  pub member : Stem
  pub leads : stem path ≡ Some member
  pub around : IsModuleAt g member.around

-- Two objects are near each other only if one is a pointer and the other what `new` made for it; and each is a member of another, but for the top.
pub record IsSpread (g : Grown) : Type 0 where
  pub solids : (i j : ℕ) (o q : Object) → slice_get g.objects i ≡ Some o → slice_get g.objects j ≡ Some q → is_pointer o.node ≡ false → is_pointer q.node ≡ false → Near o.path q.path → i ≡ j
  pub pointers : (i j : ℕ) (o q : Object) → slice_get g.objects i ≡ Some o → slice_get g.objects j ≡ Some q → is_pointer o.node ≡ true → is_pointer q.node ≡ true → Near o.path q.path → i ≡ j
  pub unmade : (i j : ℕ) (o q : Object) → slice_get g.objects i ≡ Some o → slice_get g.objects j ≡ Some q → is_pointer o.node ≡ true → is_pointer q.node ≡ false → g.made o.path ≡ false → Near o.path q.path → true ≡ false
  pub members : (i : ℕ) (o : Object) → slice_get g.objects i ≡ Some o → Or ((o.path ≡ []) × (is_pointer o.node ≡ false)) (IsMember g o.path)

-- and each binding is one that may be
pub record IsApart (g : Grown) : Type 0 where
  pub spread : IsSpread g
  pub bindings : (n : ℕ) (b : Bound) → g.bound n ≡ Some b → (b.port ≡ n) × IsBindable g b

-- no two objects of a design stand at one path but a pointer and what `new` made for it
abbrev pub StandApart : Design → Type 0
StandApart d = (i j : ℕ) (o q : Object) → slice_get d.objects i ≡ Some o → slice_get d.objects j ≡ Some q → is_pointer o.node ≡ is_pointer q.node → o.path ≡ q.path → i ≡ j
