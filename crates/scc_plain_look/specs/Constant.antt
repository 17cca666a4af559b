-- Numbers of constants, and words that fit their kinds. This project's own.
use Rattle.std.specs.Prelude.{ℕ, ◌^◌, Bool, true, false, not, ◌&&◌, ◌||◌, nat_eq, nat_le, nat_lt, if◌then◌else◌, List, [], ◌∷◌, Option, Some, None}
use Rattle.scc_bits_kinds.specs.declared.kind.Kind.{Kind}
use Rattle.scc_bits_kinds.specs.declared.kind.Kind.TheVariants as kind
use Rattle.scc_bits_kinds.specs.declared.op.Op.{Op}
use Rattle.scc_bits_kinds.specs.declared.op.Op.TheVariants as op
use Rattle.scc_bits_kinds.specs.Kinds.{width_of, stored}
use Rattle.scc_bits_kinds.specs.Bits.{concat_of, joined}
use Rattle.scc_bits.specs.Value.{Number, exactly}
use Rattle.scc_bits.specs.Values.{kind_of, applied}

-- the kinds that there are
abbrev pub is_kind : Kind → Bool
is_kind kind.Bool = true
is_kind (kind.Native w s) = nat_eq w 8 || (nat_eq w 16 || (nat_eq w 32 || nat_eq w 64))
is_kind (kind.Int w) = nat_le 1 w && nat_le w 64
is_kind (kind.Uint w) = nat_le 1 w && nat_le w 64
is_kind (kind.Big w) = nat_le 1 w && nat_le w 128
is_kind (kind.BigInt w) = nat_le 1 w && nat_le w 128
is_kind (kind.Bv w) = nat_le 1 w && nat_le w 128
is_kind (kind.Wide b s) = nat_le 1 b && nat_le b 255

-- the words of a kind
abbrev pub is_word : Kind → ℕ → Bool
is_word k x = is_kind k && nat_lt x (2 ^ width_of k)

abbrev pub is_division : Op → Bool
is_division op.Div = true
is_division op.Rem = true
is_division _ = false

-- a constant other than 0
abbrev pub is_nonzero : Option Number → Bool
is_nonzero None = false
is_nonzero (Some n) = not (nat_eq n.word 0)

-- the number in another kind
abbrev pub kept : Kind → Option Number → Option Number
kept to None = None
kept to (Some n) = Some (record { kind = to; word = stored to (exactly n) })

abbrev pub number_by : Option Kind → Option ℕ → Option Number
number_by None w = None
number_by (Some k) None = None
number_by (Some k) (Some w) = Some (record { kind = k; word = w })

-- an operator's answer
abbrev pub answered : Op → Option Number → Option Number → Option Number
answered o None b = None
answered o (Some a) None = None
answered o (Some a) (Some b) = number_by (kind_of o a.kind b.kind) (applied o a.kind a.word b.kind b.word)

-- `test ? yes : no` in a kind
abbrev pub chosen : Kind → Option Number → Option Number → Option Number → Option Number
chosen to None y n = None
chosen to (Some t) None n = None
chosen to (Some t) (Some y) None = None
chosen to (Some t) (Some y) (Some n) = kept to (if nat_eq t.word 0 then Some n else Some y)

-- a number's bits above those of another one
abbrev pub above : Option Number → Option Number → Option Number
above None low = None
above (Some h) None = None
above (Some h) (Some l) = number_by (concat_of h.kind l.kind) (Some (joined (width_of l.kind) h.word l.word))

-- a concatenation, the highest part first
abbrev pub above_all : Option Number → List (Option Number) → Option Number
above_all high [] = high
above_all high (low ∷ lows) = above_all (above high low) lows

abbrev pub concatenated : List (Option Number) → Option Number
concatenated [] = None
concatenated (high ∷ lows) = above_all high lows
