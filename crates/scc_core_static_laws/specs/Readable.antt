-- Expressions whose static value is the same by a table of names as by the names alone: a front part of a name that is read has no index without a local,
-- and a load of a counter has the counter's kind. This project's own.
use Rattle.std.specs.Prelude.{◌≡◌, ℕ, Bool, List, [], ◌∷◌, Option, Some, None}
use Rattle.scc_base.specs.declared.refusal.Place.{Place}
use Rattle.scc_base.specs.declared.names.Name.{Name}
use Rattle.scc_bits_kinds.specs.declared.kind.Kind.{Kind}
use Rattle.scc_bits_kinds.specs.declared.kind.Word.{Word}
use Rattle.scc_bits_kinds.specs.declared.op.Op.{Op}
use Rattle.scc_bits.specs.Value.{Number}
use Rattle.scc_core.specs.declared.copy.Counter.{Counter}
use Rattle.scc_core.specs.declared.expr.CoreExpr.{CoreExpr}
use Rattle.scc_core.specs.declared.expr.CoreLeft.{CoreLeft}
use Rattle.scc_core.specs.declared.expr.CoreBase.{CoreBase, roll-CoreBase}
use Rattle.scc_core.specs.declared.expr.CorePart.{CorePart, roll-CorePart}
use Rattle.scc_core.specs.declared.expr.CorePick.{CorePick, roll-CorePick}
use Rattle.scc_core.specs.declared.expr.CoreBase.TheOpen as tree
use Rattle.scc_core.specs.declared.program.CellName.{CellName}
use Rattle.scc_core.specs.Counters.{kind_of, number_of}
use Rattle.scc_core.specs.Numbers.{valued}
use Rattle.scc_core_view.specs.Whole.{IsName, location, made}

-- the kind of what is loaded, before bits are taken of it
abbrev pub loaded_kind : Kind → Option CorePick → Kind
loaded_kind k None = k
loaded_kind k (Some q) = kind_of q

module _ (ns : List Counter) where
  -- where a cell is a counter, its number is one of that kind
  abbrev pub IsOfKind : ℕ → Kind → Type 0
  IsOfKind n k = (v : Number) → number_of ns n ≡ Some v → valued k v.word ≡ Some v

  mutual
    pub data IsReadable : CoreExpr → Type 0 where
      literal : {p : Place} {k : Kind} (w : Word) → IsReadable (made p k (tree.Lit w))
      load : {p : Place} {k : Kind} {l : CoreLeft} → IsReadableLeft k l → IsReadable (made p k (tree.Load l))
      -- a signal or port has no static value
      read : {p : Place} {k : Kind} (l : CoreLeft) → IsReadable (made p k (tree.Read l))
      convert : {p : Place} {k : Kind} {e : CoreExpr} → IsReadable e → IsReadable (made p k (tree.Convert e))
      unary : {p : Place} {k : Kind} (o : Op) {a : CoreExpr} → IsReadable a → IsReadable (made p k (tree.Operate o a None))
      binary : {p : Place} {k : Kind} (o : Op) {a b : CoreExpr} → IsReadable a → IsReadable b → IsReadable (made p k (tree.Operate o a (Some b)))
      choose : {p : Place} {k : Kind} {t a b : CoreExpr} → IsReadable t → IsReadable a → IsReadable b → IsReadable (made p k (tree.Choose t a b))
      pick : {p : Place} {k : Kind} {e : CoreExpr} {q : CorePick} → IsReadable e → IsReadablePick q → IsReadable (made p k (tree.Pick e q))
      join : {p : Place} {k : Kind} {es : List CoreExpr} → AreReadable es → IsReadable (made p k (tree.Join es))

    pub data AreReadable : List CoreExpr → Type 0 where
      last : AreReadable []
      next : {e : CoreExpr} {es : List CoreExpr} → IsReadable e → AreReadable es → AreReadable (e ∷ es)

    pub data IsReadablePick : CorePick → Type 0 where
      bit : (j : Kind) {e : CoreExpr} → IsReadable e → IsReadablePick (roll-CorePick (tree.Bit j e))
      range : (j : Kind) (h l : ℕ) → IsReadablePick (roll-CorePick (tree.Range j h l))

    -- a location, of which something of the kind is loaded
    pub data IsReadableLeft : Kind → CoreLeft → Type 0 where
      all : {p : Place} {b : CoreBase} {ps : List CorePart} {k : Kind} → IsReadableBase k b ps → IsReadableLeft k (location p b ps None)
      some : {p : Place} {b : CoreBase} {ps : List CorePart} {q : CorePick} {k : Kind} → IsReadableBase (kind_of q) b ps → IsReadablePick q
          → IsReadableLeft k (location p b ps (Some q))

    pub data IsReadableBase : Kind → CoreBase → List CorePart → Type 0 where
      cell : {k : Kind} (n : ℕ) → IsOfKind n k → IsReadableBase k (roll-CoreBase (tree.Cell n)) []
      -- no part of a cell has a static value
      behind : {k : Kind} (n : ℕ) (x : CorePart) (ps : List CorePart) → IsReadableBase k (roll-CoreBase (tree.Cell n)) (x ∷ ps)
      front : {k : Kind} (name : CellName) {ps : List CorePart} → IsName name → AreReadableParts ps → IsReadableBase k (roll-CoreBase (tree.Prefix name)) ps
      -- what stands behind a pointer has no static value
      follow : {k : Kind} (l : CoreLeft) (soft : Bool) (ps : List CorePart) → IsReadableBase k (roll-CoreBase (tree.Follow l soft)) ps
      null : {k : Kind} (ps : List CorePart) → IsReadableBase k (roll-CoreBase tree.Null) ps

    pub data AreReadableParts : List CorePart → Type 0 where
      none : AreReadableParts []
      member : (n : Name) {ps : List CorePart} → AreReadableParts ps → AreReadableParts (roll-CorePart (tree.Member n) ∷ ps)
      index : (size : ℕ) {e : CoreExpr} {ps : List CorePart} → IsReadable e → AreReadableParts ps → AreReadableParts (roll-CorePart (tree.Index size e) ∷ ps)
