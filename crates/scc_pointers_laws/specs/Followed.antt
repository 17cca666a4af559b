-- Expressions and locations in which walks find what the definitions have: indices without pointers are found. This project's own.
use Rattle.std.specs.Prelude.{◌≡◌, ℕ, ◌<◌, Bool, nat_eq, List, [], ◌∷◌, Option, Some, None, slice_get}
use Rattle.std.specs.HashMap.{get_by}
use Rattle.scc_base.specs.declared.names.Name.{Name}
use Rattle.scc_base.specs.declared.refusal.Place.{Place}
use Rattle.scc_bits_kinds.specs.declared.kind.Kind.{Kind}
use Rattle.scc_bits_kinds.specs.declared.kind.Word.{Word}
use Rattle.scc_bits_kinds.specs.declared.op.Op.{Op}
use Rattle.scc_core.specs.declared.expr.CoreBase.{CoreBase, roll-CoreBase}
use Rattle.scc_core.specs.declared.expr.CoreBase.TheOpen as tree
use Rattle.scc_core.specs.declared.expr.CoreExpr.{CoreExpr}
use Rattle.scc_core.specs.declared.expr.CoreLeft.{CoreLeft}
use Rattle.scc_core.specs.declared.expr.CorePart.{CorePart, roll-CorePart}
use Rattle.scc_core.specs.declared.expr.CorePick.{CorePick, roll-CorePick}
use Rattle.scc_core.specs.declared.program.Cell.{Cell}
use Rattle.scc_core.specs.declared.program.CellName.{CellName}
use Rattle.scc_core.specs.declared.program.VectorSize2.{VectorSize2}
use Rattle.scc_core.specs.Tables.{IsTable}
use Rattle.scc_core_spec.specs.Resolved.{Made}
use Rattle.scc_core_view.specs.Whole.{IsName, location, made}
use Rattle.scc_pointers_walk.specs.declared.held.Resolver.{Resolver}
use Rattle.scc_pointers_walk.specs.Read.{AreFound, HaveNoTargets, HaveSmallNames, HaveSmallPaths, IsFound, IsNamed}
use Rattle.scc_pointers_walk.specs.Walked.{expr_in}

abbrev pub HaveSmallSizes : List VectorSize2 → Type 0
HaveSmallSizes [] = Unit {0}
HaveSmallSizes (v ∷ vs) = (v.size < 4294967296) × HaveSmallSizes vs

module _ (r : Resolver) where
  -- a location without pointers: behind an object's name stand no indices, and its indices are found
  abbrev pub IsSound : CoreLeft → Type 0
  IsSound l = IsNamed l × AreFound r l.parts

  -- What is known: the table of the cells' names, whose numbers have 32 bits, and sound targets.
  pub record IsKnown : Type 0 where
    pub table : IsTable r.places.now r.known.cells.now r.vectors.now
    pub cells : HaveSmallNames r.known.cells.now
    pub paths : HaveSmallPaths r.vectors.now
    pub sizes : HaveSmallSizes r.vectors.now
    pub names : (n : ℕ) (c : Cell) → slice_get r.known.cells.now n ≡ Some c → IsName c.name
    pub locals : HaveNoTargets r.known.cells.now
    pub held : (n : ℕ) (l : CoreLeft) → get_by (nat_eq n) r.held ≡ Some (Some l) → IsSound l

-- expressions of which each index is so where its pointers are gone
module _ (r : Resolver) (Q : CoreExpr → Type 0) where
  mutual
    pub data Follows : CoreExpr → Type 0 where
      literal : (p : Place) (k : Kind) (w : Word) → Follows (made p k (tree.Lit w))
      load : (p : Place) (k : Kind) {l : CoreLeft} → FollowsLeft l → Follows (made p k (tree.Load l))
      read : (p : Place) (k : Kind) {l : CoreLeft} → FollowsLeft l → Follows (made p k (tree.Read l))
      convert : (p : Place) (k : Kind) {e : CoreExpr} → Follows e → Follows (made p k (tree.Convert e))
      unary : (p : Place) (k : Kind) (o : Op) {a : CoreExpr} → Follows a → Follows (made p k (tree.Operate o a None))
      binary : (p : Place) (k : Kind) (o : Op) {a b : CoreExpr} → Follows a → Follows b → Follows (made p k (tree.Operate o a (Some b)))
      choose : (p : Place) (k : Kind) {t a b : CoreExpr} → Follows t → Follows a → Follows b → Follows (made p k (tree.Choose t a b))
      pick : (p : Place) (k : Kind) {e : CoreExpr} {q : CorePick} → Follows e → FollowsPick q → Follows (made p k (tree.Pick e q))
      -- a concatenation has two parts or more
      join : (p : Place) (k : Kind) {a b : CoreExpr} {es : List CoreExpr} → Follows a → Follows b → FollowAll es → Follows (made p k (tree.Join (a ∷ b ∷ es)))

    pub data FollowAll : List CoreExpr → Type 0 where
      last : FollowAll []
      next : {e : CoreExpr} {es : List CoreExpr} → Follows e → FollowAll es → FollowAll (e ∷ es)

    pub data FollowsPick : CorePick → Type 0 where
      bit : (of : Kind) {e : CoreExpr} → Follows e → FollowsPick (roll-CorePick (tree.Bit of e))
      range : (of : Kind) (h l : ℕ) → FollowsPick (roll-CorePick (tree.Range of h l))

    pub data FollowsSome : Option CorePick → Type 0 where
      whole : FollowsSome None
      some : {q : CorePick} → FollowsPick q → FollowsSome (Some q)

    pub data FollowsLeft : CoreLeft → Type 0 where
      left : (p : Place) {b : CoreBase} {ps : List CorePart} {q : Option CorePick} → FollowsBase b → FollowParts ps → FollowsSome q → FollowsLeft (location p b ps q)

    pub data FollowsBase : CoreBase → Type 0 where
      cell : (n : ℕ) → FollowsBase (roll-CoreBase (tree.Cell n))
      prefix : (name : CellName) → IsName name → FollowsBase (roll-CoreBase (tree.Prefix name))
      follow : (soft : Bool) {l : CoreLeft} → FollowsLeft l → FollowsBase (roll-CoreBase (tree.Follow l soft))
      null : FollowsBase (roll-CoreBase tree.Null)

    pub data FollowParts : List CorePart → Type 0 where
      none : FollowParts []
      member : (n : Name) {ps : List CorePart} → FollowParts ps → FollowParts (roll-CorePart (tree.Member n) ∷ ps)
      -- the index without pointers is so
      index : (size : ℕ) → size < 4294967296 → {e : CoreExpr} {ps : List CorePart} → Follows e → ((x : CoreExpr) → expr_in r e ≡ Made x → Q x) → FollowParts ps
          → FollowParts (roll-CorePart (tree.Index size e) ∷ ps)

-- of which each index without pointers is found as the definitions have it
module _ (r : Resolver) where
  abbrev pub IsFollowed : CoreExpr → Type 0
  IsFollowed = Follows r (IsFound r)

  abbrev pub AreFollowed : List CoreExpr → Type 0
  AreFollowed = FollowAll r (IsFound r)

  abbrev pub IsFollowedPick : CorePick → Type 0
  IsFollowedPick = FollowsPick r (IsFound r)

  abbrev pub IsFollowedLeft : CoreLeft → Type 0
  IsFollowedLeft = FollowsLeft r (IsFound r)

  abbrev pub IsFollowedBase : CoreBase → Type 0
  IsFollowedBase = FollowsBase r (IsFound r)

  abbrev pub AreFollowedParts : List CorePart → Type 0
  AreFollowedParts = FollowParts r (IsFound r)
