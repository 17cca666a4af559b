-- What holds of each rule that an operator has.
use Rattle.std.specs.Prelude.{◌≡◌, Bool, true, false, ◌&&◌, ◌||◌, if◌then◌else◌, Option, Some, None}
use Rattle.std.proofs.Common.{refl}
use Rattle.scc_bits_kinds.specs.declared.group.Group.{Group}
use Rattle.scc_bits_kinds.specs.declared.group.Group.TheVariants as group
use Rattle.scc_bits_kinds.specs.declared.rule.Rule.{Rule}
use Rattle.scc_bits_kinds.specs.Groups.{is_small, is_large, is_bits}
use Rattle.scc_bits_kinds.specs.Table.{by_groups, by_left, alone, has_bits}

abbrev pub OnRule : (Rule → Type 0) → Option Rule → Type 0
OnRule P None = Unit {0}
OnRule P (Some r) = P r

pub by_groups_all : (P : Rule → Type 0) (a b c : Option Rule) (g h : Group) → (is_small g ≡ true → is_small h ≡ true → OnRule P a) → OnRule P b → (is_bits g ≡ true → is_bits h ≡ true → OnRule P c) → OnRule P (by_groups a b c g h)
by_groups_all P a b c g h p q r = by (is_small g) (is_small h) (is_bits g) (is_bits h) p r
  where
    by : (s t u v : Bool) → (s ≡ true → t ≡ true → OnRule P a) → (u ≡ true → v ≡ true → OnRule P c) → OnRule P (if s && t then a else (if u && v then c else (if u || v then None else b)))
    by true true u v p r = p refl refl
    by true false true true p r = r refl refl
    by true false true false p r = tt
    by true false false true p r = tt
    by true false false false p r = q
    by false t true true p r = r refl refl
    by false t true false p r = tt
    by false t false true p r = tt
    by false t false false p r = q

pub by_left_all : (P : Rule → Type 0) (a b c : Rule) (g h : Group) → P a → P b → P c → OnRule P (by_left a b c g h)
by_left_all P a b c g h p q r = by (is_small h) (is_small g) (is_large g)
  where
    by : (s t u : Bool) → OnRule P (if s then Some (if t then a else (if u then b else c)) else None)
    by true true u = p
    by true false true = q
    by true false false = r
    by false t u = tt

pub alone_all : (P : Rule → Type 0) (a b c : Option Rule) (g h : Group) → OnRule P a → OnRule P b → OnRule P c → OnRule P (alone a b c g h)
alone_all P a b c group.Bool group.Bool p q r = p
alone_all P a b c group.Native group.Native p q r = p
alone_all P a b c group.Int group.Int p q r = p
alone_all P a b c group.Uint group.Uint p q r = p
alone_all P a b c group.Big group.Big p q r = q
alone_all P a b c group.BigInt group.BigInt p q r = q
alone_all P a b c group.Wide group.Wide p q r = q
alone_all P a b c group.Bv group.Bv p q r = r
alone_all P a b c _ _ p q r = tt

pub bits_all : (P : Rule → Type 0) (a : Rule) (g h : Group) → P a → OnRule P (if has_bits g then alone (Some a) (Some a) (Some a) g h else None)
bits_all P a g h p = by (has_bits g)
  where
    by : (t : Bool) → OnRule P (if t then alone (Some a) (Some a) (Some a) g h else None)
    by true = alone_all P (Some a) (Some a) (Some a) g h p p p
    by false = tt
