-- What the declarations of every plain program have: their kinds are kinds, their numbers name what is there, and sizes keep their limit. This project's own.
use Rattle.std.specs.Prelude.{ℕ, Bool, true, ◌&&◌, nat_lt, nat_le, length, Option, Some, None}
use Rattle.std.specs.List.{list_all}
use Rattle.scc_bits_kinds.specs.declared.kind.Kind.{Kind}
use Rattle.scc_plain_tree.specs.declared.program.Base.{Base}
use Rattle.scc_plain_tree.specs.declared.program.Base.TheVariants as base
use Rattle.scc_plain_tree.specs.declared.program.PlainMember.{PlainMember}
use Rattle.scc_plain_tree.specs.declared.program.PlainClass.{PlainClass}
use Rattle.scc_plain_tree.specs.declared.program.PlainFunction.{PlainFunction}
use Rattle.scc_plain_look.specs.Constant.{is_kind}

-- the class of a base is one of so many
abbrev pub is_whole_base : ℕ → Base → Bool
is_whole_base classes (base.Number k) = is_kind k
is_whole_base classes (base.Class n) = nat_lt n classes
is_whole_base classes (base.Input k) = is_kind k
is_whole_base classes (base.Output k) = is_kind k
is_whole_base classes (base.Signal k) = is_kind k
is_whole_base classes base.ModuleName = true

-- 1 to 65,536 elements
abbrev pub is_size : ℕ → Bool
is_size n = nat_le 1 n && nat_le n 65536

abbrev pub is_whole_member : ℕ → PlainMember → Bool
is_whole_member classes m = is_whole_base classes m.shape.base && list_all is_size m.shape.sizes

-- a number that is missing, or below a count
abbrev pub is_below : ℕ → Option ℕ → Bool
is_below count None = true
is_below count (Some n) = nat_lt n count

abbrev pub is_kind_if : Option Kind → Bool
is_kind_if None = true
is_kind_if (Some k) = is_kind k

abbrev pub is_whole_class : ℕ → ℕ → PlainClass → Bool
is_whole_class classes functions c = is_below functions c.constructor && list_all (is_whole_member classes) c.members

abbrev pub is_whole_head : ℕ → PlainFunction → Bool
is_whole_head classes f = is_below classes f.class && (nat_le f.params (length f.locals) && (is_kind_if f.result && list_all (is_whole_member classes) f.locals))
