-- Numbers of expressions, by those of their parts: each is of the kind that its term has. This project's own.
use Rattle.std.specs.Prelude.{ℕ, Option, Some, None}
use Rattle.scc_base.specs.declared.refusal.Place.{Place}
use Rattle.scc_base.specs.declared.code.Code.TheVariants as reason
use Rattle.scc_bits_kinds.specs.declared.kind.Kind.{Kind}
use Rattle.scc_bits_kinds.specs.declared.kind.Kind.TheVariants as kind
use Rattle.scc_bits_kinds.specs.declared.op.Op.{Op}
use Rattle.scc_bits_kinds.specs.Numbers.{low}
use Rattle.scc_bits_kinds.specs.Kinds.{width_of, stored}
use Rattle.scc_bits_kinds.specs.Bits.{part, joined}
use Rattle.scc_bits.specs.Value.{Number, exactly}
use Rattle.scc_bits.specs.Values.{applied}
use Rattle.scc_semantics.specs.Scene.{chosen, bit_at}
use Rattle.scc_core_spec.specs.First.{refused}
use Rattle.scc_elab_worth.specs.Said.{Said, Is, Refuses}

abbrev pub number : Kind → ℕ → Number
number k w = record { kind = k; word = w }

abbrev pub answered : Place → Kind → Option ℕ → Said Number
answered p k (Some x) = Is (number k x)
answered p k None = Refuses (refused reason.Mismatch p)

-- an operator's answer
abbrev pub operated : Place → Kind → Op → Number → Number → Said Number
operated p k o a b = answered p k (applied o a.kind a.word b.kind b.word)

-- a number in a kind
abbrev pub kept : Kind → Number → Number
kept k v = number k (stored k (exactly v))

abbrev pub choice : Kind → Number → Number → Number → Number
choice k t a b = number k (chosen t.word (stored k (exactly a)) (stored k (exactly b)))

-- the bit at an index, and bits h down to l
abbrev pub bit : Number → Number → Number
bit v i = number kind.Bool (bit_at (width_of v.kind) v.word (low 128 (exactly i)))

abbrev pub range : Kind → ℕ → ℕ → Number → Number
range k h l v = number k (part h l v.word)

-- a word above that of a number
abbrev pub above : ℕ → Number → ℕ
above w v = joined (width_of v.kind) w v.word
