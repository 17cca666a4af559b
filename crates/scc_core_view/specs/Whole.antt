-- Whole expressions of a core, by rules: kinds are as the tables of operators and bits have them (IEEE 1666-2011, 7.2), words fit their kinds, no divisor
-- that is known is 0, and a location names cells of one kind. This project's own.
use Rattle.std.specs.Prelude.{◌≡◌, ℕ, ◌+◌, ◌-◌, ◌^◌, ◌<◌, ◌≤◌, Bool, true, false, List, [], ◌∷◌, map, length, slice_get, Option, Some, None, option_and_then}
use Rattle.scc_base.specs.declared.refusal.Place.{Place}
use Rattle.scc_base.specs.declared.names.Name.{Name}
use Rattle.scc_bits_kinds.specs.declared.kind.Kind.{Kind}
use Rattle.scc_bits_kinds.specs.declared.kind.Kind.TheVariants as kind
use Rattle.scc_bits_kinds.specs.declared.kind.Word.{Word}
use Rattle.scc_bits_kinds.specs.declared.op.Op.{Op}
use Rattle.scc_bits_kinds.specs.Kinds.{IsValid, Fits, width_of}
use Rattle.scc_bits_kinds.specs.Bits.{range_of, concat_of}
use Rattle.scc_bits_kinds.specs.Operators.{Divisor}
use Rattle.scc_bits.specs.Value.{Number}
use Rattle.scc_bits.specs.Values.{kind_of, is_too_wide}
use Rattle.scc_core.specs.declared.expr.CoreExpr.{CoreExpr}
use Rattle.scc_core.specs.declared.expr.CoreExprNode.{CoreExprNode, roll-CoreExprNode}
use Rattle.scc_core.specs.declared.expr.CoreLeft.{CoreLeft}
use Rattle.scc_core.specs.declared.expr.CoreBase.{CoreBase, roll-CoreBase}
use Rattle.scc_core.specs.declared.expr.CorePart.{CorePart, roll-CorePart}
use Rattle.scc_core.specs.declared.expr.CorePick.{CorePick, roll-CorePick}
use Rattle.scc_core.specs.declared.expr.CoreBase.TheOpen.{CoreExprNode-F}
use Rattle.scc_core.specs.declared.expr.CoreBase.TheOpen as tree
use Rattle.scc_core.specs.declared.program.Cell.{Cell}
use Rattle.scc_core.specs.declared.program.CellName.{CellName}
use Rattle.scc_core.specs.declared.program.CellSort.{CellSort}
use Rattle.scc_core.specs.declared.program.CellSort.TheVariants as sort
use Rattle.scc_core.specs.Elements.{inside}
use Rattle.scc_core.specs.Statics.{static_of, facts_of, part_in}
use Rattle.scc_core_spec.specs.Program as program
use Rattle.scc_core_spec.specs.Term.{Left}
use Rattle.scc_core_spec.specs.Named.{Step, steps_of}
use Rattle.scc_core_spec.specs.Static.{Cells, first_of, found, pattern}
use Rattle.scc_core_view.specs.Terms.{name_of, taken_of}
use Rattle.scc_core_view.specs.Programs.{cell_of}

-- an expression by its node, and a location by its parts
abbrev pub made : Place → Kind → CoreExprNode-F CoreBase CoreExprNode CorePart CorePick CoreExpr CoreLeft → CoreExpr
made p k x = record { place = p; kind = k; node = roll-CoreExprNode x }

abbrev pub location : Place → CoreBase → List CorePart → Option CorePick → CoreLeft
location p b ps q = record { place = p; base = b; parts = ps; pick = q }

-- an operator has a rule for two kinds, with an answer of a kind and within its limit on widths
pub record Answers (o : Op) (j k answer : Kind) : Type 0 where
  pub has_rule : kind_of o j k ≡ Some answer
  pub is_narrow : is_too_wide o j k ≡ false

-- a name without a local is a path alone
abbrev pub IsName : CellName → Type 0
IsName name = name.local ≡ None → name.indices ≡ []

-- a fixed cell has a word of its kind
abbrev pub HoldsFixed : Kind → CellSort → Type 0
HoldsFixed k (sort.Variable word true) = IsValid k × Fits k word.bits
HoldsFixed k s = Unit {0}

pub record AreWholeCells (cells : List Cell) : Type 0 where
  pub count : length cells ≤ 2 ^ 32
  pub names : (n : ℕ) (c : Cell) → slice_get cells n ≡ Some c → IsName c.name
  pub words : (n : ℕ) (c : Cell) → slice_get cells n ≡ Some c → HoldsFixed c.kind c.sort

module _ (cells : List Cell) where
  -- the cells as the definitions have them
  abbrev pub here : Cells
  here = map cell_of cells

  -- the location of a front part of a name and its parts
  abbrev pub behind : Place → CellName → List CorePart → Left
  behind p name ps = (taken_of (location p (roll-CoreBase (tree.Prefix name)) ps None)).left

  -- What a name and its parts name, and the first elements there, have one kind, and behind an index past its end they name nothing.
  pub record IsArray (k : Kind) (p : Place) (name : CellName) (ps : List CorePart) : Type 0 where
    pub is_name : IsName name
    pub kinds : (steps : List Step) (c : program.Cell) → pattern here (behind p name ps) ≡ Some steps → found here steps ≡ Some c → c.kind ≡ k
    pub first : (c : program.Cell) → option_and_then (found here) (first_of here (behind p name ps)) ≡ Some c → c.kind ≡ k
    pub ends : (steps : List Step) → pattern here (behind p name ps) ≡ Some steps → inside (map (part_in (facts_of cells)) ps) ≡ Some false → found here steps ≡ None

  mutual
    pub data IsWhole : CoreExpr → Type 0 where
      literal : {p : Place} {k : Kind} (w : Word) → IsValid k → Fits k w.bits → IsWhole (made p k (tree.Lit w))
      load : {p : Place} {k : Kind} {l : CoreLeft} → IsLoaded k l → IsWhole (made p k (tree.Load l))
      -- a signal or port has no static value
      read : {p : Place} {k : Kind} (l : CoreLeft) → IsWhole (made p k (tree.Read l))
      convert : {p : Place} {k : Kind} {e : CoreExpr} → IsValid k → IsWhole e → IsWhole (made p k (tree.Convert e))
      unary : {p : Place} {k : Kind} {o : Op} {a : CoreExpr} → Answers o a.kind a.kind k → ((n : Number) → static_of cells a ≡ Some n → Divisor o n.word)
          → IsWhole a → IsWhole (made p k (tree.Operate o a None))
      binary : {p : Place} {k : Kind} {o : Op} {a b : CoreExpr} → Answers o a.kind b.kind k → ((n : Number) → static_of cells b ≡ Some n → Divisor o n.word)
          → IsWhole a → IsWhole b → IsWhole (made p k (tree.Operate o a (Some b)))
      choose : {p : Place} {k : Kind} {t a b : CoreExpr} → IsValid k → IsWhole t → IsWhole a → IsWhole b → IsWhole (made p k (tree.Choose t a b))
      pick : {p : Place} {k : Kind} {e : CoreExpr} {q : CorePick} → IsWhole e → IsPicked e.kind q k → IsWhole (made p k (tree.Pick e q))
      join : {p : Place} {k : Kind} {e : CoreExpr} {es : List CoreExpr} → IsWhole e → AreJoined e.kind es k → IsWhole (made p k (tree.Join (e ∷ es)))

    -- bits of what has the first kind, with the second
    pub data IsPicked : Kind → CorePick → Kind → Type 0 where
      bit : {j : Kind} {e : CoreExpr} → IsWhole e → IsPicked j (roll-CorePick (tree.Bit j e)) kind.Bool
      range : {j k : Kind} (h l : ℕ) → l ≤ h → h < width_of j → range_of j (h - l + 1) ≡ Some k → IsPicked j (roll-CorePick (tree.Range j h l)) k

    -- further parts of a concatenation behind what has the first kind, with the second in all
    pub data AreJoined : Kind → List CoreExpr → Kind → Type 0 where
      last : {k : Kind} → AreJoined k [] k
      next : {j i k : Kind} {e : CoreExpr} {es : List CoreExpr} → IsWhole e → concat_of j e.kind ≡ Some i → width_of j + width_of e.kind ≤ 128
          → AreJoined i es k → AreJoined j (e ∷ es) k

    -- what is loaded, whole or a part of it
    pub data IsLoaded : Kind → CoreLeft → Type 0 where
      all : {p : Place} {b : CoreBase} {ps : List CorePart} {k : Kind} → IsNamed p b ps k → IsLoaded k (location p b ps None)
      some : {p : Place} {b : CoreBase} {ps : List CorePart} {q : CorePick} {j k : Kind} → IsNamed p b ps j → IsPicked j q k → IsLoaded k (location p b ps (Some q))

    -- what a base and parts name, of a kind
    pub data IsNamed : Place → CoreBase → List CorePart → Kind → Type 0 where
      -- a cell that has its name for itself
      cell : {p : Place} (n : ℕ) (c : Cell) → slice_get cells n ≡ Some c → found here (steps_of (name_of c.name)) ≡ Some (cell_of c) → IsNamed p (roll-CoreBase (tree.Cell n)) [] c.kind
      front : {k : Kind} {p : Place} {name : CellName} {ps : List CorePart} → AreParts ps → IsArray k p name ps → IsNamed p (roll-CoreBase (tree.Prefix name)) ps k
      -- what stands behind a pointer has no static value
      follow : {k : Kind} {p : Place} (l : CoreLeft) (soft : Bool) {ps : List CorePart} → IsNamed p (roll-CoreBase (tree.Follow l soft)) ps k
      null : {k : Kind} {p : Place} {ps : List CorePart} → IsNamed p (roll-CoreBase tree.Null) ps k

    pub data AreParts : List CorePart → Type 0 where
      none : AreParts []
      member : (n : Name) {ps : List CorePart} → AreParts ps → AreParts (roll-CorePart (tree.Member n) ∷ ps)
      index : (size : ℕ) {e : CoreExpr} {ps : List CorePart} → IsWhole e → AreParts ps → AreParts (roll-CorePart (tree.Index size e) ∷ ps)
