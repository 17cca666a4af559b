-- The groups of kinds that the operator table tells apart.
use Rattle.std.specs.Prelude.{Bool, true, false}
use Rattle.scc_bits_kinds.specs.declared.kind.Kind.{Kind}
use Rattle.scc_bits_kinds.specs.declared.kind.Kind.TheVariants as kind
use Rattle.scc_bits_kinds.specs.declared.group.Group.{Group}
use Rattle.scc_bits_kinds.specs.declared.group.Group.TheVariants as group

abbrev pub group_of : Kind → Group
group_of kind.Bool = group.Bool
group_of (kind.Native w s) = group.Native
group_of (kind.Int w) = group.Int
group_of (kind.Uint w) = group.Uint
group_of (kind.Big w) = group.Big
group_of (kind.BigInt w) = group.BigInt
group_of (kind.Bv w) = group.Bv
group_of (kind.Wide b s) = group.Wide

-- the groups of C++'s integers and of the limited ones to 64 bits (IEEE 1666-2011, 7.5)
abbrev pub is_small : Group → Bool
is_small group.Bool = true
is_small group.Native = true
is_small group.Int = true
is_small group.Uint = true
is_small _ = false

-- the groups of the finite integers beyond 64 bits (IEEE 1666-2011, 7.6)
abbrev pub is_large : Group → Bool
is_large group.Big = true
is_large group.BigInt = true
is_large group.Wide = true
is_large _ = false

-- the group of bit vectors (IEEE 1666-2011, 7.9)
abbrev pub is_bits : Group → Bool
is_bits group.Bv = true
is_bits _ = false
