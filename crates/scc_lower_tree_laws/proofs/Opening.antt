-- Indices are left in variables one behind the other, and parts of concatenations are lowered so.
use Rattle.std.proofs.Common.{◌≡◌, ℕ, ◌+◌, ◌*◌, ◌≤◌, ◌^◌, List, [], ◌∷◌, ◌++◌, map, length, Option, Some, slice_get, refl, sym, ◌∙◌, ap, subst, arith}
use Rattle.std.proofs.lemmas.List.{length-append, length-map}
use Rattle.scc_bits_kinds.specs.declared.kind.Kind.{Kind}
use Rattle.scc_bits_kinds.specs.Kinds.{width_of}
use Rattle.scc_core.specs.declared.expr.CoreExpr.{CoreExpr}
use Rattle.scc_core.specs.declared.expr.CorePart.{CorePart, out-CorePart}
use Rattle.scc_core.specs.declared.expr.CoreBase.{CoreBase}
use Rattle.scc_core.specs.declared.expr.CoreExprNode.{CoreExprNode}
use Rattle.scc_core.specs.declared.expr.CoreLeft.{CoreLeft}
use Rattle.scc_core.specs.declared.expr.CorePick.{CorePick}
use Rattle.scc_core.specs.declared.expr.CoreBase.TheOpen.{CorePart-F}
use Rattle.scc_core.specs.declared.expr.CoreBase.TheOpen as tree
use Rattle.scc_core.specs.declared.named.Dim.{Dim}
use Rattle.scc_core.specs.declared.program.Cell.{Cell as Held}
use Rattle.scc_core_view.specs.Programs.{cell_of}
use Rattle.scc_core_spec.specs.Term.{Term, kind_of}
use Rattle.scc_svtree.specs.Code.{Code, Assign, End}
use Rattle.scc_blocks_spec.specs.Shown.{Sight}
use Rattle.scc_lower_laws.specs.Sequence.{then_code, whole}
use Rattle.scc_lower_laws.specs.Lowers.{Lowers, Makes, temporary}
use Rattle.scc_lower_laws.specs.Outcome.{Outcome, text_of, converted}
use Rattle.scc_lower_laws.specs.Joins.{LowersAll}
use Rattle.scc_lower_laws.specs.Elements.{Dimension, Slot, Indexes, IndexAll, IsIndexKind, index_kind, variable_of}
use Rattle.scc_lower_laws.proofs.Frames.{makes-then}
use Rattle.scc_lower_laws.proofs.Indices.{index-variable, index-temporary, index-extended, index-behind}
use Rattle.scc_lower_laws.proofs.Rules.{extended, behind}
use Rattle.scc_core_view.specs.Terms.{term_of}
use Rattle.scc_lower_tree_laws.specs.Choosing.{Opened, slots_of, AreOpen, AreBelow}
use Rattle.scc_lower_tree_laws.specs.Finding.{Chosen, AreChosen, IsChosen, Keeping, stands, made, Indexing, AreSound, SameSizes, IndexEach, Opening, AreSoundAll, LoweringAll}
use Rattle.scc_lower_tree_laws.specs.Becoming.{Becomes}
use Rattle.scc_lower_tree_laws.specs.Sound.{IsSound, IsDimension, AreDimensions}
use Rattle.scc_lower_tree_laws.specs.States.{State, Given, Leaves, Sees, Agrees}
use Rattle.scc_lower_tree_laws.proofs.Expressions.{sound-here}
use Rattle.scc_lower_tree_laws.proofs.Leaving.{none-left, both-left, agrees-before, sees-on}

-- ---- one index

cells-long : (cells : List Held) (views : _) (s : Sight) (width : ℕ → ℕ) → Sees cells views s width → length s.cells ≡ length cells
cells-long cells views s width sees = ap length sees.cells ∙ length-map cells cell_of

last-get : (ts : List ℕ) (w : ℕ) → slice_get (ts ++ w ∷ []) (length ts) ≡ Some w
last-get [] w = refl
last-get (t ∷ ts) w = last-get ts w

module _ (g : Given) where
  pub keeping-index : (e : CoreExpr) (o : Outcome) (a b c : State) (v : Slot) → Becomes g e a o b → Keeping (length g.cells) (converted e.kind (index_kind e.kind) o) (width_of (index_kind e.kind)) b v c → Indexing g e a v c
  keeping-index e o a b c v h (stands w t same) = record {
    leaves = record {
      more = h.leaves.more;
      front = h.leaves.front;
      views = ap (λ z. z.views) same ∙ h.leaves.views;
      exit = ap (λ z. z.exit) same ∙ h.leaves.exit;
      temporaries = ap (λ z. z.temporaries) same ∙ h.leaves.temporaries;
      before = ap (λ z. z.before) same ∙ h.leaves.before;
    };
    indexes = λ s width sees agrees sound. (
        let A : State → Type 0 = λ z. Agrees s width z.temporaries in
        let kind = (sound-here g s e sound).kind in
        let x = h.lowers s width sees (subst A same agrees) sound in
        let text : text_of (converted (kind_of (term_of e)) (index_kind (kind_of (term_of e))) o) ≡ variable_of v.variable = ap (λ k. text_of (converted k (index_kind k) o)) kind ∙ t in
        let wide : width_of (index_kind (kind_of (term_of e))) ≡ v.width = ap (λ k. width_of (index_kind k)) kind ∙ sym w in
        let P : State → ℕ → Type 0 = λ z n. Indexes s width (length a.temporaries) (length z.temporaries) (term_of e) h.leaves.front (record { variable = v.variable; width = n }) in
        let Q : ℕ → Type 0 = λ n. P c n in
        let R : State → Type 0 = λ z. P z (width_of (index_kind (kind_of (term_of e)))) in
        subst Q wide (subst R (sym same) (index-variable s width (length a.temporaries) (length b.temporaries) (term_of e) h.leaves.front o v.variable x text)));
  }
  keeping-index e o a b c v h (made w at same) = record {
    leaves = both-left a b c h.leaves one;
    indexes = λ s width sees agrees sound. (
        let kind = (sound-here g s e sound).kind in
        let here = agrees-before s width b c one agrees in
        let x = h.lowers s width sees here sound in
        let n = length a.temporaries in
        let m = length b.temporaries in
        let t = term_of e in
        let variable : temporary s m ≡ v.variable = ap (λ z. 2 * z + 1 + m) (cells-long g.cells a.views s width sees) ∙ sym at in
        let one_more : length c.temporaries ≡ m + 1 = ap length (ap (λ z. z.temporaries) same) ∙ length-append b.temporaries (width_of (index_kind e.kind) ∷ []) in
        let given : width (temporary s m) ≡ width_of (index_kind e.kind) = agrees m (width_of (index_kind e.kind)) (ap (λ ts. slice_get ts m) (ap (λ z. z.temporaries) same) ∙ last-get b.temporaries (width_of (index_kind e.kind))) in
        let P : ℕ → Kind → ℕ → ℕ → Type 0 = λ z k p q. Indexes s width n p t (then_code h.leaves.front (Assign (whole z) (text_of (converted k (index_kind k) o)) End)) (record { variable = z; width = q }) in
        let start : P (temporary s m) (kind_of t) (m + 1) (width_of (index_kind (kind_of t))) = index-temporary s width n m t h.leaves.front o (given ∙ ap (λ k. width_of (index_kind k)) (sym kind)) x in
        let A : ℕ → Type 0 = λ z. P z (kind_of t) (m + 1) (width_of (index_kind (kind_of t))) in
        let B : Kind → Type 0 = λ k. P v.variable k (m + 1) (width_of (index_kind k)) in
        let C : ℕ → Type 0 = λ p. P v.variable e.kind p (width_of (index_kind e.kind)) in
        let D : ℕ → Type 0 = λ q. P v.variable e.kind (length c.temporaries) q in
        subst D (sym w) (subst C (sym one_more) (subst B kind (subst A variable start))));
  }
    where
      one : Leaves b c
      one = record {
        more = width_of (index_kind e.kind) ∷ [];
        front = Assign (whole v.variable) (text_of (converted e.kind (index_kind e.kind) o)) End;
        views = ap (λ z. z.views) same;
        exit = ap (λ z. z.exit) same;
        temporaries = ap (λ z. z.temporaries) same;
        before = ap (λ z. z.before) same;
      }

-- ---- many indices

module _ (s : Sight) (width : ℕ → ℕ) where
  pub each-extended : (n m k : ℕ) (cs : List Chosen) (c d : Code) (os : List Opened) → IndexEach s width n m cs c os → m ≤ k → Makes s m k d → IndexEach s width n k cs (then_code c d) os
  each-extended n m k [] c d [] h l p = h
  each-extended n m k [] c d (o ∷ os) h l p = absurd h
  each-extended n m k (x ∷ cs) c d [] h l p = absurd h
  each-extended n m k (x ∷ cs) c d (o ∷ os) h l p = (index-extended s width n m k (term_of x.index) c d o.slot h.0 l p, each-extended n m k cs c d os h.1 l p)

  each-more : (n k : ℕ) (cs : List Chosen) (x : Chosen) (c : Code) (os : List Opened) (o : Opened) → IndexEach s width n k cs c os → Indexes s width n k (term_of x.index) c o.slot → IndexEach s width n k (cs ++ x ∷ []) c (os ++ o ∷ [])
  each-more n k [] x c [] o h i = (i, tt)
  each-more n k [] x c (p ∷ os) o h i = absurd h
  each-more n k (y ∷ cs) x c [] o h i = absurd h
  each-more n k (y ∷ cs) x c (p ∷ os) o h i = (h.0, each-more n k cs x c os o h.1 i)

  all-extended : (n m k : ℕ) (es : List Term) (c d : Code) (os : List Outcome) → LowersAll s width n m es c os → m ≤ k → Makes s m k d → LowersAll s width n k es (then_code c d) os
  all-extended n m k [] c d [] h l p = h
  all-extended n m k [] c d (o ∷ os) h l p = absurd h
  all-extended n m k (e ∷ es) c d [] h l p = absurd h
  all-extended n m k (e ∷ es) c d (o ∷ os) h l p = (extended s width n m k e c d o h.0 l p, all-extended n m k es c d os h.1 l p)

  all-more : (n k : ℕ) (es : List CoreExpr) (e : CoreExpr) (c : Code) (os : List Outcome) (o : Outcome) → LowersAll s width n k (map term_of es) c os → Lowers s width n k (term_of e) c o → LowersAll s width n k (map term_of (es ++ e ∷ [])) c (os ++ o ∷ [])
  all-more n k [] e c [] o h i = (i, tt)
  all-more n k [] e c (p ∷ os) o h i = absurd h
  all-more n k (f ∷ es) e c [] o h i = absurd h
  all-more n k (f ∷ es) e c (p ∷ os) o h i = (h.0, all-more n k es e c os o h.1 i)

sizes-more : (cs : List Chosen) (x : Chosen) (os : List Opened) (o : Opened) → SameSizes cs os → x.size ≡ o.size → x.stride ≡ o.stride → SameSizes (cs ++ x ∷ []) (os ++ o ∷ [])
sizes-more [] x [] o h e f = (e, f, tt)
sizes-more [] x (p ∷ os) o h e f = absurd h
sizes-more (y ∷ cs) x [] o h e f = absurd h
sizes-more (y ∷ cs) x (p ∷ os) o h e f = (h.0, h.1, sizes-more cs x os o h.2 e f)

sound-front : (g : Given) (s : Sight) (cs : List Chosen) (x : Chosen) → AreSound g s (cs ++ x ∷ []) → AreSound g s cs × IsSound g s x.index
sound-front g s [] x h = (tt, h.0)
sound-front g s (y ∷ cs) x h = let r = sound-front g s cs x h.1 in ((h.0, r.0), r.1)

all-front : (g : Given) (s : Sight) (es : List CoreExpr) (e : CoreExpr) → AreSoundAll g s (es ++ e ∷ []) → AreSoundAll g s es × IsSound g s e
all-front g s [] e h = (tt, h.0)
all-front g s (f ∷ es) e h = let r = all-front g s es e h.1 in ((h.0, r.0), r.1)

no-makes : (s : Sight) (n : ℕ) → Makes s n n End
no-makes s n v e = absurd (cc)

module _ (g : Given) where
  pub opening-none : (a : State) → Opening g [] a [] a
  opening-none a = record { leaves = none-left a; sizes = tt; opens = λ s width sees agrees sound. record { grows = omega arith; makes = no-makes s (length a.temporaries); all = tt } }

  pub opening-more : (cs : List Chosen) (x : Chosen) (a b c : State) (os : List Opened) (o : Opened) → Opening g cs a os b → x.size ≡ o.size → x.stride ≡ o.stride → Indexing g x.index b o.slot c → Opening g (cs ++ x ∷ []) a (os ++ o ∷ []) c
  opening-more cs x a b c os o h e f i = record {
    leaves = both-left a b c h.leaves i.leaves;
    sizes = sizes-more cs x os o h.sizes e f;
    opens = λ s width sees agrees sound. (
        let n = length a.temporaries in
        let m = length b.temporaries in
        let k = length c.temporaries in
        let both = sound-front g s cs x sound in
        let y = h.opens s width sees (agrees-before s width b c i.leaves agrees) both.0 in
        let z = i.indexes s width (sees-on g.cells s width a b h.leaves sees) agrees both.1 in
        record {
          grows = omega (arith, y.grows, z.grows);
          makes = makes-then s n m k h.leaves.front i.leaves.front y.grows z.grows y.makes z.makes;
          all = each-more s width n k cs x (then_code h.leaves.front i.leaves.front) os o
              (each-extended s width n m k cs h.leaves.front i.leaves.front os y.all z.grows z.makes)
              (index-behind s width n m k (term_of x.index) h.leaves.front i.leaves.front o.slot sees.number y.grows y.makes z);
        });
  }

  pub lowering-none : (a : State) → LoweringAll g [] a [] a
  lowering-none a = record { leaves = none-left a; parts = λ s width sees agrees sound. record { grows = omega arith; makes = no-makes s (length a.temporaries); all = tt } }

  pub lowering-more : (es : List CoreExpr) (e : CoreExpr) (a b c : State) (os : List Outcome) (o : Outcome) → LoweringAll g es a os b → Becomes g e b o c → LoweringAll g (es ++ e ∷ []) a (os ++ o ∷ []) c
  lowering-more es e a b c os o h i = record {
    leaves = both-left a b c h.leaves i.leaves;
    parts = λ s width sees agrees sound. (
        let n = length a.temporaries in
        let m = length b.temporaries in
        let k = length c.temporaries in
        let both = all-front g s es e sound in
        let y = h.parts s width sees (agrees-before s width b c i.leaves agrees) both.0 in
        let z = i.lowers s width (sees-on g.cells s width a b h.leaves sees) agrees both.1 in
        record {
          grows = omega (arith, y.grows, z.grows);
          makes = makes-then s n m k h.leaves.front i.leaves.front y.grows z.grows y.makes z.makes;
          all = all-more s width n k es e (then_code h.leaves.front i.leaves.front) os o
              (all-extended s width n m k (map term_of es) h.leaves.front i.leaves.front os y.all z.grows z.makes)
              (behind s width n m k (term_of e) h.leaves.front i.leaves.front o sees.number y.grows y.makes z);
        });
  }

-- ---- the dimensions of what is found

abbrev PartLayer : Type 0
PartLayer = CorePart-F CoreBase CoreExprNode CorePart CorePick CoreExpr CoreLeft

index-same : (m n : ℕ) (i j : CoreExpr) → ◌≡◌ {A = PartLayer} (tree.Index m i) (tree.Index n j) → i ≡ j
index-same m n i j e = cc

part-same : (p q : CorePart) → ◌≡◌ {A = Option CorePart} (Some p) (Some q) → p ≡ q
part-same p q e = cc

pub record Matched (s : Sight) (width : ℕ → ℕ) (n m : ℕ) (es : List Dimension) (front : Code) (os : List Opened) : Type 0 where
  pub indices : IndexAll s width n m es front (slots_of os)
  pub open_ : AreOpen es os
  pub below : AreBelow s m os

chosen-index : (s : Sight) (parts : List CorePart) (d : Dim) (e : Dimension) (c : Chosen) → (h : IsDimension parts d e) → IsChosen parts d c → term_of c.index ≡ e.index
chosen-index s parts d e c h k =
    let part : h.part ≡ k.part = part-same h.part k.part (sym h.stands ∙ k.stands) in
    let same : h.index ≡ c.index = index-same h.size k.size h.index c.index (sym h.is_index ∙ ap out-CorePart part ∙ k.is_index) in
    ap term_of (sym same) ∙ sym (ap (λ z. z.index) h.is)

pub matched : (s : Sight) (width : ℕ → ℕ) (n m : ℕ) (parts : List CorePart) (ds : List Dim) (es : List Dimension) (cs : List Chosen) (os : List Opened) (front : Code) → AreDimensions parts ds es → AreChosen parts ds cs → SameSizes cs os → IndexEach s width n m cs front os → Matched s width n m es front os
matched s width n m parts [] [] [] [] front h k z i = record { indices = tt; open_ = tt; below = tt }
matched s width n m parts [] [] [] (o ∷ os) front h k z i = absurd z
matched s width n m parts [] [] (c ∷ cs) os front h k z i = absurd k
matched s width n m parts [] (e ∷ es) cs os front h k z i = absurd h
matched s width n m parts (d ∷ ds) [] cs os front h k z i = absurd h
matched s width n m parts (d ∷ ds) (e ∷ es) [] os front h k z i = absurd k
matched s width n m parts (d ∷ ds) (e ∷ es) (c ∷ cs) [] front h k z i = absurd z
matched s width n m parts (d ∷ ds) (e ∷ es) (c ∷ cs) (o ∷ os) front h k z i =
    let r = matched s width n m parts ds es cs os front h.1 k.1 z.2 i.1 in
    let index = chosen-index s parts d e c h.0 k.0 in
    let P : Term → Type 0 = λ t. Indexes s width n m t front o.slot in
    let few : e.size ≤ 2 ^ 32 = (let Q : ℕ → Type 0 = λ z. z ≤ 2 ^ 32 in subst Q (sym (ap (λ z. z.size) h.0.is)) h.0.few) in
    let kind = (let Q : Dimension → Type 0 = λ z. IsIndexKind (kind_of z.index) in subst Q (sym h.0.is) h.0.kind) in
    let size : e.size ≡ o.size = ap (λ z. z.size) h.0.is ∙ sym k.0.sizes ∙ z.0 in
    let stride : e.stride ≡ o.stride = ap (λ z. z.stride) h.0.is ∙ sym k.0.strides ∙ z.1 in
    record {
      indices = (subst P index i.0, few, kind, r.indices);
      open_ = (size, stride, r.open_);
      below = (i.0.below, r.below);
    }
