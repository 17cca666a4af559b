-- What constants, aliases and specialisations of classes with arguments mean, each asked for by a key, behind a chain of what is asked already (ISO C++
-- [temp.inst]; the bound of 64 on the chain is this project's own).
use Rattle.std.specs.Prelude.{ℕ, zero, suc, ◌+◌, nat_eq, nat_lt, Bool, true, false, ◌&&◌, ◌||◌, List, [], ◌∷◌, if◌then◌else◌}
use Rattle.std.specs.List.{list_any}
use Rattle.scc_base.specs.declared.refusal.Place.{Place}
use Rattle.scc_base.specs.declared.code.Code.TheVariants as reason
use Rattle.scc_templates_spec.specs.Walk.{Args, same_args, same_bool}
use Rattle.scc_templates_spec.specs.Walked.{Walked, fault}

-- whose constant or alias it is
pub data Owner : Type 0 where
  File : Owner
  In : (class : ℕ) (args : Args) → Owner

pub data Key : Type 0 where
  -- the constant of an item, of an enumeration's item the enumerator of that number
  Constant : (owner : Owner) (item enumerator : ℕ) → Key
  Alias : (owner : Owner) (item : ℕ) → Key
  -- the arguments of a class's specialisations
  Special : (class : ℕ) → Key
  -- the bodies outside a class of one of its functions: those for given arguments alone, or all
  Bodies : (class name : ℕ) (constructor all : Bool) → Key
  -- the default of the argument behind these
  Default : (class : ℕ) (args : Args) → Key

abbrev pub same_owner : Owner → Owner → Bool
same_owner File File = true
same_owner (In c xs) (In d ys) = nat_eq c d && same_args xs ys
same_owner _ _ = false

-- Two defaults are never one key: a chain of defaults ends by its bound alone.
abbrev pub same_key : Key → Key → Bool
same_key (Constant o i e) (Constant p j f) = same_owner o p && (nat_eq i j && nat_eq e f)
same_key (Alias o i) (Alias p j) = same_owner o p && nat_eq i j
same_key (Special c) (Special d) = nat_eq c d
same_key (Bodies c x k a) (Bodies d y j b) = nat_eq c d && (nat_eq x y && (same_bool k j && same_bool a b))
same_key _ _ = false

-- The members of a chain of what is being worked out, newest first, back to where specialisations are, which begin a chain of their own: each class with arguments
-- whose constants or defaults are worked out. Constants of files, aliases and bodies are none.
pub data Member : Type 0 where
  Owned : (class : ℕ) (args : Args) → Member
  Filled : (class : ℕ) (args : Args) → Member

abbrev pub member_of : Owner → List Member → List Member
member_of File ms = ms
member_of (In c args) ms = Owned c args ∷ ms

abbrev pub members : List Key → List Member
members [] = []
members (Constant o i e ∷ c) = member_of o (members c)
members (Alias o i ∷ c) = members c
members (Special k ∷ c) = []
members (Bodies k x o a ∷ c) = members c
members (Default k args ∷ c) = Filled k args ∷ members c

abbrev pub same_member : Member → Member → Bool
same_member (Owned c xs) (Owned d ys) = nat_eq c d && same_args xs ys
same_member _ _ = false

-- a member that stands behind itself counts once
abbrev pub count : List Member → ℕ
count [] = 0
count (m ∷ []) = 1
count (m ∷ n ∷ ms) = if same_member m n then count (n ∷ ms) else 1 + count (n ∷ ms)

abbrev pub is_deep : List Key → Bool
is_deep c = nat_lt 64 (count (members c))

-- what a key means in the world behind it, and, for a number of each kind that is asked for, what it is
abbrev pub World : Type 0 → Type 0
World A = Key → Place → Walked A

abbrev pub unless : {A : Type 0} → Bool → Place → Walked A → Walked A
unless true p w = fault reason.TemplateDepth p
unless false p w = w

-- `meant` is what a key means by substitution, in a world for what it asks, at the place of the asker. The world has so many steps; the outermost one so many that no chain is longer.
module _ (A : Type 0) (meant : World A → Key → Place → Walked A) where
  abbrev pub world : ℕ → List Key → World A
  world zero c k p = fault reason.TemplateDepth p
  world (suc n) c k p = unless (list_any (same_key k) c || is_deep (k ∷ c)) p (meant (world n (k ∷ c)) k p)

  unfoldable pub outermost : World A
  outermost k p = world 18446744073709551615 [] k p
