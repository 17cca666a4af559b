-- Expressions of whose indices what is known tells which are static, as the definitions do; no pointer stands in them, and cells that they name by their
-- numbers are there. And the elements under open indices of what is used. This project's own.
use Rattle.std.specs.Prelude.{◌≡◌, ℕ, List, [], ◌∷◌, map, Option, Some, None, option_map, unwrap_or, is_some, slice_get}
use Rattle.scc_base.specs.declared.refusal.Place.{Place}
use Rattle.scc_base.specs.declared.names.Name.{Name}
use Rattle.scc_bits_kinds.specs.declared.kind.Kind.{Kind}
use Rattle.scc_bits_kinds.specs.declared.kind.Word.{Word}
use Rattle.scc_bits_kinds.specs.declared.op.Op.{Op}
use Rattle.scc_bits.specs.Value.{Number}
use Rattle.scc_core.specs.declared.expr.CoreExpr.{CoreExpr}
use Rattle.scc_core.specs.declared.expr.CoreLeft.{CoreLeft}
use Rattle.scc_core.specs.declared.expr.CoreBase.{CoreBase, roll-CoreBase}
use Rattle.scc_core.specs.declared.expr.CorePart.{CorePart, roll-CorePart}
use Rattle.scc_core.specs.declared.expr.CorePick.{CorePick, roll-CorePick}
use Rattle.scc_core.specs.declared.expr.CoreBase.TheOpen as tree
use Rattle.scc_core.specs.declared.program.CellName.{CellName}
use Rattle.scc_core_spec.specs.Named.{elements}
use Rattle.scc_core_spec.specs.Program as program
use Rattle.scc_core_spec.specs.Static.{Cells, pattern, static}
use Rattle.scc_core_spec.specs.Term.{Left}
use Rattle.scc_core_spec.specs.Uses.{Use}
use Rattle.scc_core_view.specs.Terms.{term_of}
use Rattle.scc_core_view.specs.Whole.{location, made}
use Rattle.scc_states_sum.specs.Elements.{total}

-- the elements under the open indices of a location
abbrev pub elements_at : Cells → Left → ℕ
elements_at cs l = unwrap_or (option_map elements (pattern cs l)) 0

abbrev pub used_elements : Cells → List Use → ℕ
used_elements cs us = total (map (λ u. elements_at cs u.left) us)

module _ (cs : Cells) (known : CoreExpr → Option Number) where
  pub data IsThere : CoreBase → Type 0 where
    cell : (n : ℕ) (c : program.Cell) → slice_get cs n ≡ Some c → IsThere (roll-CoreBase (tree.Cell n))
    front : (name : CellName) → IsThere (roll-CoreBase (tree.Prefix name))

  mutual
    pub data IsMeasured : CoreExpr → Type 0 where
      literal : {p : Place} {k : Kind} (w : Word) → IsMeasured (made p k (tree.Lit w))
      load : {p : Place} {k : Kind} {l : CoreLeft} → IsMeasuredLeft l → IsMeasured (made p k (tree.Load l))
      read : {p : Place} {k : Kind} {l : CoreLeft} → IsMeasuredLeft l → IsMeasured (made p k (tree.Read l))
      convert : {p : Place} {k : Kind} {e : CoreExpr} → IsMeasured e → IsMeasured (made p k (tree.Convert e))
      unary : {p : Place} {k : Kind} (o : Op) {a : CoreExpr} → IsMeasured a → IsMeasured (made p k (tree.Operate o a None))
      binary : {p : Place} {k : Kind} (o : Op) {a b : CoreExpr} → IsMeasured a → IsMeasured b → IsMeasured (made p k (tree.Operate o a (Some b)))
      choose : {p : Place} {k : Kind} {t a b : CoreExpr} → IsMeasured t → IsMeasured a → IsMeasured b → IsMeasured (made p k (tree.Choose t a b))
      pick : {p : Place} {k : Kind} {e : CoreExpr} {q : CorePick} → IsMeasured e → IsMeasuredPick q → IsMeasured (made p k (tree.Pick e q))
      join : {p : Place} {k : Kind} {es : List CoreExpr} → AreMeasured es → IsMeasured (made p k (tree.Join es))

    pub data AreMeasured : List CoreExpr → Type 0 where
      last : AreMeasured []
      next : {e : CoreExpr} {es : List CoreExpr} → IsMeasured e → AreMeasured es → AreMeasured (e ∷ es)

    pub data IsMeasuredPick : CorePick → Type 0 where
      bit : (j : Kind) {e : CoreExpr} → IsMeasured e → IsMeasuredPick (roll-CorePick (tree.Bit j e))
      range : (j : Kind) (h l : ℕ) → IsMeasuredPick (roll-CorePick (tree.Range j h l))

    pub data IsMeasuredLeft : CoreLeft → Type 0 where
      all : {p : Place} {b : CoreBase} {ps : List CorePart} → IsThere b → AreMeasuredParts ps → IsMeasuredLeft (location p b ps None)
      some : {p : Place} {b : CoreBase} {ps : List CorePart} {q : CorePick} → IsThere b → AreMeasuredParts ps → IsMeasuredPick q → IsMeasuredLeft (location p b ps (Some q))

    pub data AreMeasuredParts : List CorePart → Type 0 where
      none : AreMeasuredParts []
      member : (n : Name) {ps : List CorePart} → AreMeasuredParts ps → AreMeasuredParts (roll-CorePart (tree.Member n) ∷ ps)
      index : (size : ℕ) {e : CoreExpr} {ps : List CorePart} → is_some (known e) ≡ is_some (static cs (term_of e)) → IsMeasured e → AreMeasuredParts ps
          → AreMeasuredParts (roll-CorePart (tree.Index size e) ∷ ps)
