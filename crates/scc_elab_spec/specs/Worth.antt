-- Locations and values in a constructor (ISO C++ [expr]), all parts of an expression evaluated. Refused: a port or signal is read (E404), null is followed (E405).
use Rattle.std.specs.Prelude.{ℕ, Bool, true, false, ◌&&◌, nat_eq, nat_lt, List, [], ◌∷◌, Option, Some, None, option_map, option_and_then, slice_get, unwrap_or, if◌then◌else◌}
use Rattle.scc_base.specs.declared.refusal.Place.{Place}
use Rattle.scc_base.specs.declared.code.Code.TheVariants as reason
use Rattle.scc_bits_kinds.specs.declared.kind.Kind.{Kind}
use Rattle.scc_bits_kinds.specs.Kinds.{width_of, number_of, stored}
use Rattle.scc_bits.specs.Values.{applied}
use Rattle.scc_bits_kinds.specs.Bits.{part, replaced, joined}
use Rattle.scc_semantics.specs.Location.{Location, Part, Member, Element, Root, Local, within}
use Rattle.scc_semantics.specs.Scene.{chosen, index_of, bit_at, with_bit}
use Rattle.scc_core_spec.specs.First.{refused}
use Rattle.scc_core_spec.specs.Resolved.{Tried, Made, Stopped, and_made, made_map}
use Rattle.scc_elab_spec.specs.Term.{Term, Literal, Load, Read, Convert, Unary, Binary, Choose, Bit, Range, Join, Left, Answer, This, Follow, Index, Pick, OneBit, Bits, Target, Null, Address, Copy, Argument, Value, Leads, ModuleName, kind_of, place_at}
use Rattle.scc_elab_spec.specs.Term as term
use Rattle.scc_elab_spec.specs.Program as plain
use Rattle.scc_elab_spec.specs.Program.{Base, Number, Function, Plain}
use Rattle.scc_elab_spec.specs.Design.{class_of}
use Rattle.scc_elab_spec.specs.Types.{declared_at, is_direct, is_reference}
use Rattle.scc_elab_spec.specs.Grown.{Grown, at_path, local_of, thing_at, node_of, variable_kind, with_word}

-- where a statement of a constructor stands: its function, the object that is made, and what is made so far
pub record Site : Type 0 where
  pub plain : Plain
  pub function : Function
  pub object : ℕ
  pub path : List Part
  pub now : Grown

abbrev pub at_now : Site → Grown → Site
at_now s g = record { plain = s.plain; function = s.function; object = s.object; path = s.path; now = g }

-- null that is followed, at the location in which it is; in a target it is null
abbrev pub or_null : Bool → Place → Option Location → Tried (Option Location)
or_null soft p (Some l) = Made (Some l)
or_null true p None = Made None
or_null false p None = Stopped (refused reason.EmptyPointer p)

abbrev pub behind : Option Location → (Location → Tried (Option Location)) → Tried (Option Location)
behind None f = Made None
behind (Some l) f = f l

-- a reference is followed, unless it is the end of what is given where it leads
abbrev pub refer : Site → Place → Bool → Bool → Option plain.Member → Location → Tried (Option Location)
refer s p soft follow None l = Made (Some l)
refer s p soft follow (Some m) l = if follow && is_reference m.shape.reach then or_null soft p (s.now.store.targets l) else Made (Some l)

abbrev pub member_name : Option plain.Member → ℕ
member_name m = unwrap_or (option_map (λ k. k.name) m) 0

abbrev pub applied_or : Place → Option ℕ → Tried ℕ
applied_or p (Some x) = Made x
applied_or p None = Stopped (refused reason.Mismatch p)

abbrev pub word_at : Site → Option Location → ℕ
word_at s None = 0
word_at s (Some l) = s.now.store.words l

abbrev mutual
  pub spot : Site → (soft follow : Bool) → Left → Tried (Option Location)
  spot s soft follow (term.Local p n) = refer s p soft follow (slice_get s.function.locals n) (local_of s.object n [])
  spot s soft follow (Answer p n) = Stopped (refused reason.Constructor p)
  spot s soft follow (This p) = Made (Some (at_path s.path))
  spot s soft follow (Follow p l) = and_made (spot s soft true l) (λ o. behind o (λ l. or_null soft p (s.now.store.targets l)))
  spot s soft follow (term.Member l m) = and_made (spot s soft true l) (λ o. behind o (λ k.
      refer s (place_at l) soft follow (declared_at s.plain s.function (term.Member l m)) (within k (Member (member_name (declared_at s.plain s.function (term.Member l m)))))))
  spot s soft follow (Index l e) = and_made (spot s soft true l) (λ o. behind o (λ k. made_map (λ i. Some (within k (Element (index_of (kind_of e) i)))) (worth s e)))

  pub worth : Site → Term → Tried ℕ
  worth s (Literal p k w) = Made w
  worth s (Load p k l) = made_map (word_at s) (spot s false true l)
  worth s (Read p k l) = Stopped (refused reason.Constructor p)
  worth s (Convert p k e) = made_map (λ x. stored k (number_of (kind_of e) x)) (worth s e)
  worth s (Unary p k o a) = and_made (worth s a) (λ x. applied_or p (applied o (kind_of a) x (kind_of a) x))
  worth s (Binary p k o a b) = and_made (worth s a) (λ x. and_made (worth s b) (λ y. applied_or p (applied o (kind_of a) x (kind_of b) y)))
  worth s (Choose p k t a b) = and_made (worth s t) (λ n. and_made (worth s a) (λ x. made_map (λ y. chosen n (stored k (number_of (kind_of a) x)) (stored k (number_of (kind_of b) y))) (worth s b)))
  worth s (Bit p a e) = and_made (worth s a) (λ x. made_map (λ i. bit_at (width_of (kind_of a)) x (index_of (kind_of e) i)) (worth s e))
  worth s (Range p k a h l) = made_map (part h l) (worth s a)
  worth s (Join p k a b) = and_made (worth s a) (λ x. made_map (joined (width_of (kind_of b)) x) (worth s b))

-- what a pointer is given
abbrev pub target : Site → Target → Tried (Option Location)
target s Null = Made None
target s (Address l) = spot s true true l
target s (Copy l) = and_made (spot s true true l) (λ o. Made (option_and_then s.now.store.targets o))

-- an index inside an array
abbrev pub is_inside : List ℕ → List Part → Bool
is_inside [] [] = true
is_inside (n ∷ ns) (Element i ∷ ps) = nat_lt i n && is_inside ns ps
is_inside ns ps = false

abbrev pub number_kind : Base → Option Kind
number_kind (Number k) = Some k
number_kind b = None

-- the constructor whose locals stand at an object's number: the one at hand, or that of another object, to whose locals a parameter may lead
abbrev pub constructor_at : Site → ℕ → Option Function
constructor_at s i = if nat_eq i s.object then Some s.function
    else option_and_then (λ o. option_and_then (λ c. option_and_then (λ k. option_and_then (slice_get s.plain.functions) k.constructor) (slice_get s.plain.classes c)) (class_of o.node)) (slice_get s.now.objects i)

-- the local that is declared there, if any, and its kind where it is a number itself
abbrev pub local_there : Site → Location → Root → Option plain.Member
local_there s l (Local i cs n) = option_and_then (λ m. if is_inside m.shape.sizes l.path then Some m else None) (option_and_then (λ f. slice_get f.locals n) (constructor_at s i))
local_there s l r = None

abbrev pub direct_kind : plain.Member → Option Kind
direct_kind m = if is_direct m.shape.reach then number_kind m.shape.base else None

abbrev pub or_kind : Option Kind → Option Kind → Option Kind
or_kind (Some k) other = Some k
or_kind None other = other

abbrev pub kind_there : Site → Location → Option Kind
kind_there s l = or_kind (option_and_then direct_kind (local_there s l l.root)) (variable_kind (option_and_then (node_of s.now) (thing_at s.now l)))

-- the bit that a left side names: its index is part of the left side, and is evaluated also where nothing stands
abbrev pub bit_given : Site → Pick → Tried (Option ℕ)
bit_given s (OneBit e) = made_map (λ i. Some (index_of (kind_of e) i)) (worth s e)
bit_given s k = Made None

-- the whole word after an assignment to a part
abbrev pub picked : Kind → Pick → Option ℕ → ℕ → ℕ → ℕ
picked k (OneBit e) (Some i) old new = with_bit (width_of k) old i new
picked k (Bits h l) i old new = replaced h l old new
picked k p i old new = new

-- where no variable stands, nothing is written
abbrev pub put_word : Site → Pick → Location → Option ℕ → ℕ → Option Kind → Grown
put_word s k l i x None = s.now
put_word s k l i x (Some j) = with_word s.now l (picked j k i (s.now.store.words l) x)

abbrev pub put_at : Site → Pick → Option Location → Option ℕ → ℕ → Grown
put_at s k None i x = s.now
put_at s k (Some l) i x = put_word s k l i x (kind_there s l)

-- an assignment of a number: its left side, then its value
abbrev pub assigned : Site → Left → Pick → Term → Tried Grown
assigned s l k e = and_made (spot s false true l) (λ o. and_made (bit_given s k) (λ i. made_map (put_at s k o i) (worth s e)))

-- an argument as a constructor takes it
pub data Given : Type 0 where
  Word : (word : ℕ) → Given
  Place_given : (target : Option Location) → Given

abbrev pub given : Site → List Argument → Tried (List Given)
given s [] = Made []
given s (Value e ∷ args) = and_made (worth s e) (λ w. made_map (λ gs. Word w ∷ gs) (given s args))
given s (Leads t ∷ args) = and_made (target s t) (λ o. made_map (λ gs. Place_given o ∷ gs) (given s args))
given s (ModuleName ∷ args) = given s args
