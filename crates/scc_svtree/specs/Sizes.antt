-- Length, sign and value of an expression (IEEE 1800-2017, 11.6, 11.8 and 11.4).
use Rattle.std.specs.Prelude.{ℕ, ◌+◌, ◌-◌, ◌*◌, ◌/◌, ◌%◌, ◌^◌, max, Bool, false, cond, nat_eq, ◌&&◌, pos}
use Rattle.scc_bits_kinds.specs.Numbers.{low, reading}
use Rattle.scc_bits_kinds.specs.Operators.{exact}
use Rattle.scc_bits_kinds.specs.declared.op.Op.{Op}
use Rattle.scc_bits_kinds.specs.declared.op.Op.TheVariants as op
use Rattle.scc_svtree.specs.Term.{Term, Literal, Part, Unary, Binary, Cond, Join, Cast, Sign}
use Rattle.scc_svtree.specs.declared.expr.SvLeft.{SvLeft}
use Rattle.scc_svtree.specs.declared.expr.SvLeft.TheVariants.{Whole, Bit, Range}
use Rattle.scc_svtree.specs.declared.expr.SvUnary.{SvUnary}
use Rattle.scc_svtree.specs.declared.expr.SvUnary.TheVariants as unary
use Rattle.scc_svtree.specs.declared.expr.SvBinary.{SvBinary}
use Rattle.scc_svtree.specs.declared.class.Class.{Class}
use Rattle.scc_svtree.specs.declared.class.Class.TheVariants.{Context, Shift, Comparison, Logical}
use Rattle.scc_svtree.specs.Classes.{class_of}

-- The length and sign that an expression has by itself, and its word where its context has a length and a sign.
-- Length and sign go up from the operands; those of the context go down before an operand is extended (11.8.2).
pub record Sized : Type 0 where
  pub len : ℕ
  pub signed : Bool
  pub word : ℕ → Bool → ℕ

-- the word of a self-determined expression
abbrev pub own : Sized → ℕ
own e = e.word e.len e.signed

-- What no context reaches into: a word of w bits, which the context only extends, by the context's sign (11.8.2).
abbrev pub fixed : ℕ → Bool → ℕ → Sized
fixed w s x = record { len = w; signed = s; word = λ n t. low n (reading t w (low w (pos x))) }

-- bits h down to l of a word (11.5.1)
abbrev pub part : (h l x : ℕ) → ℕ
part h l x = x / 2 ^ l % 2 ^ (h - l + 1)

-- a variable or a part of it is unsigned (11.8.1); `width` and `x` give each variable's width and word
abbrev pub sized_left : (ℕ → ℕ) → (ℕ → ℕ) → SvLeft → Sized
sized_left width x (Whole v) = fixed (width v.0) false (x v.0)
sized_left width x (Bit v at) = fixed 1 false (part at at (x v.0))
sized_left width x (Range v h l) = fixed (h - l + 1) false (part h l (x v.0))

-- `+ - * / % & | ^`: the greater length, signed where both operands are, both operands sized by the context (table 11-21)
abbrev pub sized_context : Op → Sized → Sized → Sized
sized_context o a b = record {
  len = max a.len b.len;
  signed = a.signed && b.signed;
  word = λ n s. low n (exact o n (reading s n (a.word n s)) (reading s n (b.word n s)));
}

-- Shifts: the left operand's length and sign; the right operand is self-determined and unsigned (11.4.10).
-- `fills`: `>>>`, which fills with the sign where the result is signed.
abbrev pub sized_shift : Bool → Op → Sized → Sized → Sized
sized_shift fills o a b = record {
  len = a.len;
  signed = a.signed;
  word = λ n s. low n (exact o n (reading (fills && s) n (a.word n s)) (pos (own b)));
}

-- Comparisons: one unsigned bit; the operands are sized by each other (11.4.4, 11.4.5).
abbrev pub sized_compare : Op → Sized → Sized → Sized
sized_compare o a b =
    let n = max a.len b.len in
    let s = a.signed && b.signed in
    fixed 1 false (low 1 (exact o n (reading s n (a.word n s)) (reading s n (b.word n s))))

-- `&& ||`: one unsigned bit, of self-determined operands (11.4.7)
abbrev pub sized_logical : Op → Sized → Sized → Sized
sized_logical o a b = fixed 1 false (low 1 (exact o a.len (pos (own a)) (pos (own b))))

abbrev pub sized_class : Class → Sized → Sized → Sized
sized_class (Context o) a b = sized_context o a b
sized_class (Shift o fills) a b = sized_shift fills o a b
sized_class (Comparison o) a b = sized_compare o a b
sized_class (Logical o) a b = sized_logical o a b

abbrev pub sized_binary : SvBinary → Sized → Sized → Sized
sized_binary o a b = sized_class (class_of o) a b

-- `~ -`: the operand's length and sign, the operand sized by the context
abbrev pub sized_inner : Op → Sized → Sized
sized_inner o a = record { len = a.len; signed = a.signed; word = λ n s. low n (exact o n (reading s n (a.word n s)) (pos 0)) }

-- `!` and the reductions: one unsigned bit, of a self-determined operand (11.4.7, 11.4.9)
abbrev pub sized_bit : Op → Sized → Sized
sized_bit o a = fixed 1 false (low 1 (exact o a.len (pos (own a)) (pos 0)))

abbrev pub sized_unary : SvUnary → Sized → Sized
sized_unary unary.Not a = sized_inner op.Not a
sized_unary unary.Neg a = sized_inner op.Neg a
sized_unary unary.LogNot a = sized_bit op.LogNot a
sized_unary unary.And a = sized_bit op.AndReduce a
sized_unary unary.Or a = sized_bit op.OrReduce a
sized_unary unary.Xor a = sized_bit op.XorReduce a

-- `c ? a : b`: the greater length of a and b; c is self-determined (11.4.11)
abbrev pub sized_cond : Sized → Sized → Sized → Sized
sized_cond c a b = record {
  len = max a.len b.len;
  signed = a.signed && b.signed;
  word = λ n s. cond (nat_eq (own c) 0) (b.word n s) (a.word n s);
}

-- `{a, b}`: the sum of the lengths; self-determined parts, a at the top (11.4.12)
abbrev pub sized_join : Sized → Sized → Sized
sized_join a b = fixed (a.len + b.len) false (own a * 2 ^ b.len + own b)

-- `$signed` and `$unsigned`: the bits of a self-determined operand (11.7)
abbrev pub sized_sign : Bool → Sized → Sized
sized_sign s e = fixed e.len s (own e)

-- Size cast: pads or cuts its operand, and keeps its sign (6.24.1).
-- `wide`: the operand is read as the right side of an assignment to so many bits would be, else by itself.
-- The contracts of this project take the operand by itself; some tools take the other reading.
abbrev pub sized_cast : Bool → ℕ → Sized → Sized
sized_cast wide w e =
    let n = cond wide (max w e.len) e.len in
    fixed w e.signed (low w (reading e.signed n (e.word n e.signed)))

-- An expression, where variables have these widths and words.
abbrev pub sized : Bool → (ℕ → ℕ) → (ℕ → ℕ) → Term → Sized
sized wide width x (Literal w v) = fixed w false v
sized wide width x (Part l) = sized_left width x l
sized wide width x (Unary o a) = sized_unary o (sized wide width x a)
sized wide width x (Binary o a b) = sized_binary o (sized wide width x a) (sized wide width x b)
sized wide width x (Cond c a b) = sized_cond (sized wide width x c) (sized wide width x a) (sized wide width x b)
sized wide width x (Join a b) = sized_join (sized wide width x a) (sized wide width x b)
sized wide width x (Cast w e) = sized_cast wide w (sized wide width x e)
sized wide width x (Sign s e) = sized_sign s (sized wide width x e)

-- the length of an expression, on which words have no influence
abbrev pub length_of : (ℕ → ℕ) → Term → ℕ
length_of width t = (sized false width (λ _. 0) t).len

-- whether it is signed
abbrev pub signed_of : Term → Bool
signed_of t = (sized false (λ _. 0) (λ _. 0) t).signed

-- the word of an expression by itself
abbrev pub value_of : (ℕ → ℕ) → (ℕ → ℕ) → Term → ℕ
value_of width x t = own (sized false width x t)

-- The word that an assignment to so many bits writes: the right side has the greater length, and is cut (11.8.2, 10.7).
abbrev pub assigned : ℕ → Sized → ℕ
assigned w e = low w (pos (e.word (max w e.len) e.signed))
