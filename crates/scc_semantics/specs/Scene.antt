-- What values of expressions rest on; the values themselves are in scc_semantics. Values are words in the expressions' kinds. None: a null pointer was followed,
-- or an operator has no rule for its operands. This project's own.
use Rattle.std.specs.Prelude.{ℕ, zero, suc, Bool, true, false, List, Option, Some, None, option_and_then, if◌then◌else◌, nat_lt, unwrap_or}
use Rattle.scc_bits_kinds.specs.declared.kind.Kind.{Kind}
use Rattle.scc_bits_kinds.specs.declared.kind.Kind.TheVariants as kind
use Rattle.scc_bits_kinds.specs.Numbers.{low}
use Rattle.scc_bits_kinds.specs.Kinds.{number_of}
use Rattle.scc_bits.specs.Values.{kind_of}
use Rattle.scc_bits_kinds.specs.Bits.{part, replaced}
use Rattle.scc_semantics.specs.Location.{Location}
use Rattle.scc_semantics.specs.Places.{Thing, Number, Signal, Port, Places}
use Rattle.scc_semantics.specs.Expressions.{Expr, Literal, Load, Read, Convert, Unary, Binary, Choose, Bit, Range, Join}
use Rattle.scc_semantics.specs.Store.{Store}

-- what the names of a function mean: its process, the calls in which it stands, and its object
pub record Names : Type 0 where
  pub process : ℕ
  pub calls : List ℕ
  pub object : Option Location

-- what an expression meets: the design's places, the signals' present words, the names, the store
pub record Scene : Type 0 where
  pub places : Places
  pub signals : Location → ℕ
  pub names : Names
  pub store : Store

abbrev pub kind_or : Option Kind → Kind
kind_or k = unwrap_or k kind.Bool

-- the kind of an expression
abbrev pub expr_kind : Expr → Kind
expr_kind (Literal k w) = k
expr_kind (Load k l) = k
expr_kind (Read k l) = k
expr_kind (Convert k e) = k
expr_kind (Unary o a) = kind_or (kind_of o (expr_kind a) (expr_kind a))
expr_kind (Binary o a b) = kind_or (kind_of o (expr_kind a) (expr_kind b))
expr_kind (Choose k t a b) = k
expr_kind (Bit a i) = kind.Bool
expr_kind (Range k a h l) = k
expr_kind (Join k a b) = k

-- a location that holds no number reads as 0
abbrev pub loaded : Option Thing → ℕ → ℕ
loaded (Some (Number k)) word = word
loaded _ word = 0

-- a signal or port of the top reads as its present word, and a port as its root's
abbrev pub sensed : Option Thing → (Location → ℕ) → Location → ℕ
sensed (Some (Signal k)) signals l = signals l
sensed (Some (Port k root)) signals l = signals root
sensed _ signals l = 0

-- a location that holds no pointer holds null
abbrev pub pointed : Bool → Option Location → Option Location
pointed true target = target
pointed false target = None

-- the number of an index: a negative one is past every end
abbrev pub index_of : Kind → ℕ → ℕ
index_of k x = low 128 (number_of k x)

-- the bit at an index, 0 past the end
abbrev pub bit_at : ℕ → ℕ → ℕ → ℕ
bit_at width x i = if nat_lt i width then part i i x else 0

abbrev pub with_two : Option ℕ → Option ℕ → (ℕ → ℕ → Option ℕ) → Option ℕ
with_two (Some x) (Some y) f = f x y
with_two _ _ f = None

abbrev pub chosen : ℕ → ℕ → ℕ → ℕ
chosen zero x y = y
chosen (suc n) x y = x

-- a null pointer is followed: nothing is there
abbrev pub followed : Option (Option Location) → Option Location
followed o = option_and_then (λ l. l) o

-- the word of a number of which a bit is replaced; an index past the end replaces nothing
abbrev pub with_bit : ℕ → ℕ → ℕ → ℕ → ℕ
with_bit width old i new = if nat_lt i width then replaced i i old new else old
