-- Ranges of bits and the calls of the language on numbers, ports and signals (IEEE 1666-2011, 6.4, 6.8, 6.12, 7.2).
use Rattle.std.specs.Prelude.{ℕ, nat_eq, nat_lt, nat_le, ◌-◌, ◌+◌, Bool, true, false, ◌&&◌, Option, Some, None, if◌then◌else◌}
use Rattle.scc_base.specs.declared.refusal.Place.{Place}
use Rattle.scc_base.specs.declared.code.Code.TheVariants as reason
use Rattle.scc_bits_kinds.specs.declared.kind.Kind.{Kind}
use Rattle.scc_bits_kinds.specs.declared.kind.Kind.TheVariants as kind
use Rattle.scc_bits_kinds.specs.declared.op.Op.TheVariants as op
use Rattle.scc_bits_kinds.specs.Groups.{group_of}
use Rattle.scc_bits_kinds.specs.Kinds.{width_of}
use Rattle.scc_bits_kinds.specs.Bits.{range_of}
use Rattle.scc_bits_kinds.specs.Table.{has_bits}
use Rattle.scc_templates_spec.specs.Walked.{Walked, pure, fault, and_walk}
use Rattle.scc_templates_spec.specs.World.{Owner}
use Rattle.scc_elab_spec.specs.Term.{Left, Bits}
use Rattle.scc_plain_spec.specs.Numbers.{int}
use Rattle.scc_plain_spec.specs.Drafts.{Draft, kind_in, converted, operate_one}
use Rattle.scc_plain_spec.specs.Forms.{is_port, Subject, OfDraft, OfLoc, subject_value}
use Rattle.scc_plain_spec.specs.Meant.{Meant, Valued, Stands, Function, Built, bits_of, some_bits}

-- bits h down to l; E312 where h is below l, or not below the width
abbrev pub is_range : Kind → ℕ → ℕ → Bool
is_range k h l = nat_le l h && nat_lt h (width_of k)

abbrev pub ranged : Place → Subject → Option ℕ → Option ℕ → Walked Meant
ranged p s h l = by_bits (bits_of s)
  where
    of_kind : ℕ → ℕ → Option Kind → Walked Meant
    of_kind h l None = fault reason.RangeOrder p
    of_kind h l (Some j) = some_bits p j (Bits h l) s

    by_ends : Kind → Option ℕ → Option ℕ → Walked Meant
    by_ends k (Some h) (Some l) = if is_range k h l then of_kind h l (range_of k (h - l + 1)) else fault reason.RangeOrder p
    by_ends k h l = fault reason.RangeOrder p

    by_bits : Option Kind → Walked Meant
    by_bits None = fault reason.Mismatch p
    by_bits (Some k) = by_ends k h l

abbrev pub subject_is_port : Subject → Bool
subject_is_port (OfDraft x) = false
subject_is_port (OfLoc l) = is_port l.form

-- A call of the language without arguments that gives a value, by its name: `read` of a port or signal; a reduction or conversion of a number whose bits have names.
abbrev pub converting : Place → ℕ → Draft → Walked Draft
converting p x d = if nat_eq x 6 then operate_one p op.AndReduce d
    else (if nat_eq x 7 then operate_one p op.OrReduce d
    else (if nat_eq x 8 then operate_one p op.XorReduce d
    else (if nat_eq x 9 then converted int d
    else (if nat_eq x 10 then converted (kind.Native 32 false) d
    else (if nat_eq x 11 then converted (kind.Native 64 true) d
    else (if nat_eq x 12 then converted (kind.Native 64 false) d else fault reason.Mismatch p))))))

abbrev pub method : Place → ℕ → Subject → Walked Draft
method p x s = and_walk (subject_value p s) (λ d. if nat_eq x 0 then (if subject_is_port s then pure d else fault reason.Mismatch p)
    else (if has_bits (group_of (kind_in d)) then converting p x d else fault reason.Mismatch p))

-- what brackets with so many arguments are behind what is named
pub data Brackets : Type 0 where
  CallsFunction : (owner : Owner) (name : ℕ) (object : Option Left) (place : Place) → Brackets
  StandsAlone : (method : ℕ) (of : Subject) → Brackets
  TakesRange : (of : Subject) → Brackets
  CallsMethod : (method : ℕ) (of : Subject) → Brackets
  Wrong : Brackets

-- write, bind, pos and neg (1 to 4) stand alone; range is 5
abbrev pub of_method : ℕ → ℕ → Subject → Brackets
of_method n x s = if nat_lt 0 x && nat_lt x 5 then StandsAlone x s
    else (if nat_eq x 5 then (if nat_eq n 2 then TakesRange s else Wrong)
    else (if nat_eq n 0 then CallsMethod x s else Wrong))

-- brackets behind a port or signal bind it; else two arguments are a range
abbrev pub of_subject : ℕ → Subject → Brackets
of_subject n s = if subject_is_port s && nat_eq n 1 then StandsAlone 2 s else (if nat_eq n 2 then TakesRange s else Wrong)

abbrev pub brackets : ℕ → Meant → Brackets
brackets n (Function o x object p) = CallsFunction o x object p
brackets n (Built x s) = of_method n x s
brackets n (Stands l) = of_subject n (OfLoc l)
brackets n (Valued x) = of_subject n (OfDraft x)
brackets n m = Wrong
