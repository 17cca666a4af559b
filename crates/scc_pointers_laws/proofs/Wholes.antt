-- Whole cores meet what is asked.
use Rattle.std.proofs.Common.{◌≡◌, sym, ap, subst, ◌∙◌, List, [], ◌∷◌, map, slice_get, Option, Some, None, option_map}
use Rattle.scc_core.specs.declared.expr.CoreBase.{CoreBase}
use Rattle.scc_core.specs.declared.expr.CoreExpr.{CoreExpr}
use Rattle.scc_core.specs.declared.expr.CoreLeft.{CoreLeft}
use Rattle.scc_core.specs.declared.expr.CorePart.{CorePart}
use Rattle.scc_core.specs.declared.expr.CorePick.{CorePick}
use Rattle.scc_core.specs.declared.program.Cell.{Cell}
use Rattle.scc_core.specs.declared.program.Core.{Core}
use Rattle.scc_core.specs.declared.statics.Known.{Known}
use Rattle.scc_core.specs.Known.{counted as counter_number, facts_in}
use Rattle.scc_core.specs.Statics.{value_in}
use Rattle.scc_core.specs.Tables.{IsTable}
use Rattle.scc_core_spec.specs.Fold.{static_index}
use Rattle.scc_core_spec.specs.Program.{Vector}
use Rattle.scc_core_static_laws.specs.Held.{Knows}
use Rattle.scc_core_static_laws.specs.Indices.{Finds}
use Rattle.scc_core_view.specs.Programs.{cell_of, vector_of}
use Rattle.scc_core_view.specs.Terms.{term_of}
use Rattle.scc_core_view.specs.Whole.{AreWholeCells, IsWhole}
use Rattle.scc_pointers_walk.specs.declared.held.Resolver.{Resolver}
use Rattle.scc_pointers_walk.specs.Led.{target_of}
use Rattle.scc_pointers_walk.specs.Read.{HaveNoTargets, HaveSmallNames, HaveSmallPaths, IsFound}
use Rattle.scc_pointers_laws.specs.Asked.{AreAsked, IsBeside, IsItem}
use Rattle.scc_unroll_asked.specs.Items.{AreAll, Item, Place, Value, asked}
use Rattle.scc_pointers_laws.specs.Followed.{FollowAll, FollowParts, Follows, FollowsBase, FollowsLeft, FollowsPick, FollowsSome, HaveSmallSizes, IsKnown, binary, bit, cell, choose, convert, follow, index, join, last, left, literal, load, member, next, none, null, pick, prefix, range, read, some, unary, whole}
use Rattle.scc_pointers_laws.specs.Ready.{IsAsked, IsOfCore, IsSeen, IsWholeCore, IsWholeItem}

-- indices that are so are found
module _ (r : Resolver) (P Q : CoreExpr → Type 0) (h : (x : CoreExpr) → P x → Q x) where
  mutual
    pub expr_so : {e : CoreExpr} → Follows r P e → Follows r Q e
    expr_so (literal p k w) = literal p k w
    expr_so (load p k w) = load p k (left_so w)
    expr_so (read p k w) = read p k (left_so w)
    expr_so (convert p k w) = convert p k (expr_so w)
    expr_so (unary p k o w) = unary p k o (expr_so w)
    expr_so (binary p k o v w) = binary p k o (expr_so v) (expr_so w)
    expr_so (choose p k u v w) = choose p k (expr_so u) (expr_so v) (expr_so w)
    expr_so (pick p k w v) = pick p k (expr_so w) (pick_so v)
    expr_so (join p k v w x) = join p k (expr_so v) (expr_so w) (all_so x)

    all_so : {es : List CoreExpr} → FollowAll r P es → FollowAll r Q es
    all_so last = last
    all_so (next v w) = next (expr_so v) (all_so w)

    pick_so : {q : CorePick} → FollowsPick r P q → FollowsPick r Q q
    pick_so (bit of w) = bit of (expr_so w)
    pick_so (range of a b) = range of a b

    some_so : {q : Option CorePick} → FollowsSome r P q → FollowsSome r Q q
    some_so whole = whole
    some_so (some w) = some (pick_so w)

    pub left_so : {l : CoreLeft} → FollowsLeft r P l → FollowsLeft r Q l
    left_so (left p v w x) = left p (base_so v) (parts_so w) (some_so x)

    base_so : {b : CoreBase} → FollowsBase r P b → FollowsBase r Q b
    base_so (cell n) = cell n
    base_so (prefix name w) = prefix name w
    base_so (follow soft w) = follow soft (left_so w)
    base_so null = null

    parts_so : {ps : List CorePart} → FollowParts r P ps → FollowParts r Q ps
    parts_so none = none
    parts_so (member n w) = member n (parts_so w)
    parts_so (index size g v f w) = index size g (expr_so v) (λ x e. h x (f x e)) (parts_so w)

pub all_items : (r : Resolver) (cells : List Cell) → ((x : CoreExpr) → IsWhole cells x → IsFound r x) → (xs : List Item) → AreAll (IsWholeItem r cells) xs → AreAll (IsItem r) xs
all_items r cells h [] w = tt
all_items r cells h (Value e ∷ xs) w = (expr_so r (IsWhole cells) (IsFound r) h w.0, all_items r cells h xs w.1)
all_items r cells h (Place l ∷ xs) w = (left_so r (IsWhole cells) (IsFound r) h w.0, all_items r cells h xs w.1)

pub asked_so : (r : Resolver) (xs : List Item) → ((s : Resolver) → IsBeside s r → IsKnown s → AreAll (IsItem s) xs) → AreAsked r xs
asked_so r [] h = tt
asked_so r (x ∷ xs) h = ((λ s b k. (h s b k).0), asked_so r xs (λ s b k. (h s b k).1))

pub seen_beside : (c : Core) (r s : Resolver) → IsBeside s r → IsSeen c r → IsSeen c s
seen_beside c r s b o = record {
  cells = ap (λ k. k.cells.now) b.known ∙ o.cells;
  vectors = ap (λ v. v.now) b.vectors ∙ o.vectors;
  table = subst (λ p. IsTable p.now c.cells c.vectors) (sym b.places) o.table;
  places = λ p e. o.places p (sym (ap (λ k. k.places) b.known) ∙ e);
  counters = ap (λ k. k.counters) b.known ∙ o.counters;
}

module _ (law : (known : Known) (cells : List Cell) (vectors : List Vector) (e : CoreExpr) → Knows known cells [] → AreWholeCells cells → IsWhole cells e → Finds (value_in (facts_in known) e) (static_index (map cell_of cells) vectors (term_of e))) where
  pub found_so : (c : Core) (r : Resolver) → AreWholeCells c.cells → IsSeen c r → (x : CoreExpr) → IsWhole c.cells x → IsFound r x
  found_so c r w o x h =
      let knows : Knows r.known c.cells [] = record {
        cells_are = o.cells;
        count = w.count;
        places = λ p e. record { vectors = c.vectors; table = o.places p e };
        counters = λ n. ap (λ z. counter_number z n) o.counters;
      } in subst (λ cs. Finds (value_in (facts_in r.known) x) (static_index (map cell_of cs) (map vector_of r.vectors.now) (term_of x))) (sym o.cells) (law r.known c.cells (map vector_of r.vectors.now) x knows w h)

  pub known_so : (c : Core) (r : Resolver) → IsWholeCore c → IsOfCore c r → IsKnown r
  known_so c r w o = record {
    table = subst (λ vs. IsTable r.places.now r.known.cells.now vs) (sym o.seen.vectors) (subst (λ cs. IsTable r.places.now cs c.vectors) (sym o.seen.cells) o.seen.table);
    cells = subst HaveSmallNames (sym o.seen.cells) w.names;
    paths = subst HaveSmallPaths (sym o.seen.vectors) w.paths;
    sizes = subst HaveSmallSizes (sym o.seen.vectors) w.sizes;
    names = λ n x e. w.cells.names n x (sym (ap (λ cs. slice_get cs n) o.seen.cells) ∙ e);
    locals = subst HaveNoTargets (sym o.seen.cells) w.locals;
    held = λ n l e. none_held (sym (ap (option_map target_of) e) ∙ o.local n);
  }
    where
      none_held : {A B : Type 0} {x : A} → Some x ≡ None → B
      none_held e = absurd cc

  pub core_asked : (c : Core) → IsWholeCore c → IsAsked c
  core_asked c w r o = (
    known_so c r w o,
    λ front back p e. asked_so r (asked p.body) (λ s b k. let seen = seen_beside c r s b o.seen in all_items s c.cells (found_so c s w.cells seen) (asked p.body) (w.bodies front back p e s seen k)),
  )
