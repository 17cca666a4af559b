-- Static values depend on what is known of cells by whole cells, fixed cells, and where the parts of a location stand behind a name.
use Rattle.std.proofs.Common.{◌≡◌, refl, sym, ap, subst, ◌∙◌, ℕ, Bool, true, false, List, [], ◌∷◌, map, Option, Some, None, option_map, option_and_then}
use Rattle.scc_base.specs.declared.refusal.Place.{Place}
use Rattle.scc_base.specs.declared.names.Name.{Name}
use Rattle.scc_bits_kinds.specs.declared.kind.Kind.{Kind}
use Rattle.scc_bits_kinds.specs.declared.op.Op.{Op}
use Rattle.scc_bits.specs.Value.{Number}
use Rattle.scc_core.specs.declared.copy.Counter.{Counter}
use Rattle.scc_core.specs.declared.expr.CoreExpr.{CoreExpr}
use Rattle.scc_core.specs.declared.expr.CoreLeft.{CoreLeft}
use Rattle.scc_core.specs.declared.expr.CoreBase.{CoreBase, roll-CoreBase}
use Rattle.scc_core.specs.declared.expr.CorePart.{CorePart, roll-CorePart}
use Rattle.scc_core.specs.declared.expr.CorePick.{CorePick, roll-CorePick}
use Rattle.scc_core.specs.declared.expr.CoreBase.TheOpen as tree
use Rattle.scc_core.specs.declared.program.CellName.{CellName}
use Rattle.scc_core.specs.Counters.{kind_of}
use Rattle.scc_core.specs.Elements.{Facts, Part, Member, Element, at_element, element, found, inside, at_cell, past, whole_cell}
use Rattle.scc_core.specs.Numbers.{all_joined, valued, stored_in}
use Rattle.scc_core.specs.Statics as of
use Rattle.scc_core.specs.Statics.{chosen, left_value, operated, part_in, pick_in, picked, value_in}
use Rattle.scc_core_view.specs.Whole.{IsName, location, made}
use Rattle.scc_core_static_laws.specs.Readable.{IsReadable, literal, load, read, convert, unary, binary, choose, pick, join, AreReadable, last, next, IsReadablePick, bit, range, IsReadableLeft, all, some, IsReadableBase, cell, behind, front, follow, null, AreReadableParts, none, member, index}
use Rattle.scc_core_static_laws.proofs.Nodes.{Layer, base_in, layer_in, value_made, left_made, base_made, part_made, pick_made}

-- two ways to know the same of whole cells, of fixed ones, and of what parts lead to behind a name
pub record Agree (g h : Facts) : Type 0 where
  pub held : (n : ℕ) → g.held n ≡ h.held n
  pub fixed_at : (n : ℕ) → g.fixed_at n ≡ h.fixed_at n
  pub place : (first : Bool) (ps : List Part) (name : CellName) → IsName name → found g first ps name ≡ found h first ps name

module _ (g h : Facts) (a : Agree g h) where
  fixed_same : (o : Option ℕ) → option_and_then g.fixed_at o ≡ option_and_then h.fixed_at o
  fixed_same None = refl
  fixed_same (Some n) = a.fixed_at n

  past_same : (ps : List Part) (name : CellName) → IsName name → past g ps name ≡ past h ps name
  past_same ps name n = ap (option_and_then (λ v. valued v.kind 0)) (ap (option_and_then g.fixed_at) (a.place true ps name n) ∙ fixed_same (found h true ps name))

  at_same : (ps : List Part) (name : CellName) → IsName name → (o : Option ℕ) → at_cell g ps name o ≡ at_cell h ps name o
  at_same ps name n None = past_same ps name n
  at_same ps name n (Some c) = a.fixed_at c

  pub element_same : (ps : List Part) (name : CellName) → IsName name → element g ps name ≡ element h ps name
  element_same ps name n = by (inside ps)
    where
      by : (o : Option Bool) → option_and_then (at_element g ps name) o ≡ option_and_then (at_element h ps name) o
      by None = refl
      by (Some true) = ap (at_cell g ps name) (a.place false ps name n) ∙ at_same ps name n (found h false ps name)
      by (Some false) = past_same ps name n

  same_made : (p : Place) (k : Kind) (x : Layer) → of.expr_node (layer_in g x) k ≡ of.expr_node (layer_in h x) k → value_in g (made p k x) ≡ value_in h (made p k x)
  same_made p k x e = value_made g p k x ∙ e ∙ sym (value_made h p k x)

  left_same : (p : Place) (b : CoreBase) (ps : List CorePart) (q : Option CorePick) (k : Kind) → base_in g b (map (part_in g) ps) ≡ base_in h b (map (part_in h) ps)
      → option_map (pick_in g) q ≡ option_map (pick_in h) q → left_value g (location p b ps q) k ≡ left_value h (location p b ps q) k
  left_same p b ps q k d e =
      left_made g p b ps q k
      ∙ ap (λ o. option_and_then (picked o k) (base_in g b (map (part_in g) ps))) e
      ∙ ap (option_and_then (picked (option_map (pick_in h) q) k)) d
      ∙ sym (left_made h p b ps q k)

  mutual
    pub values_same : {ns : List Counter} {e : CoreExpr} → IsReadable ns e → value_in g e ≡ value_in h e
    values_same (literal {p = p} {k = k} w) = same_made p k (tree.Lit w) refl
    values_same (load {p = p} {k = k} {l = l} w) = same_made p k (tree.Load l) (lefts_same w k)
    values_same (read {p = p} {k = k} l) = same_made p k (tree.Read l) refl
    values_same (convert {p = p} {k = k} {e = e} w) = same_made p k (tree.Convert e) (ap (option_and_then (stored_in k)) (values_same w))
    values_same (unary {p = p} {k = k} o {a = x} w) = same_made p k (tree.Operate o x None) (ap (option_and_then (λ v. operated k o v None)) (values_same w))
    values_same (binary {p = p} {k = k} o {a = x} {b = y} v w) = same_made p k (tree.Operate o x (Some y))
        (ap (λ z. option_and_then (λ v. operated k o v (Some z)) (value_in g x)) (values_same w) ∙ ap (option_and_then (λ v. operated k o v (Some (value_in h y)))) (values_same v))
    values_same (choose {p = p} {k = k} {t = t} {a = x} {b = y} u v w) = same_made p k (tree.Choose t x y)
        ((λ i. option_and_then (λ r. option_and_then (λ s. option_and_then (λ z. chosen k r s z) (values_same w i)) (values_same v i)) (values_same u i)))
    values_same (pick {p = p} {k = k} {e = e} {q = q} w s) = same_made p k (tree.Pick e q) ((λ i. option_and_then (λ x. picks_same s i x k) (values_same w i)))
    values_same (join {p = p} {k = k} {es = es} w) = same_made p k (tree.Join es) (ap (λ vs. option_and_then (λ v. valued k v.word) (all_joined vs)) (all_same w))

    all_same : {ns : List Counter} {es : List CoreExpr} → AreReadable ns es → map (value_in g) es ≡ map (value_in h) es
    all_same last = refl
    all_same (next {e = e} {es = es} v w) = (λ i. values_same v i ∷ all_same w i)

    pub picks_same : {ns : List Counter} {q : CorePick} → IsReadablePick ns q → pick_in g q ≡ pick_in h q
    picks_same (bit j {e = e} w) = pick_made g (tree.Bit j e) ∙ ap (λ v. of.pick_node (tree.Bit j v)) (values_same w) ∙ sym (pick_made h (tree.Bit j e))
    picks_same (range j x y) = pick_made g (tree.Range j x y) ∙ sym (pick_made h (tree.Range j x y))

    pub lefts_same : {ns : List Counter} {k : Kind} {l : CoreLeft} → IsReadableLeft ns k l → (j : Kind) → left_value g l j ≡ left_value h l j
    lefts_same (all {p = p} {b = b} {ps = ps} w) j = left_same p b ps None j (bases_same w) refl
    lefts_same (some {p = p} {b = b} {ps = ps} {q = q} w s) j = left_same p b ps (Some q) j (bases_same w) (ap Some (picks_same s))

    bases_same : {ns : List Counter} {k : Kind} {b : CoreBase} {ps : List CorePart} → IsReadableBase ns k b ps → base_in g b (map (part_in g) ps) ≡ base_in h b (map (part_in h) ps)
    bases_same (cell n w) = ap (λ f. f []) (base_made g (tree.Cell n)) ∙ a.held n ∙ ap (λ f. f []) (sym (base_made h (tree.Cell n)))
    bases_same (behind n x ps) = ap (λ f. f (map (part_in g) (x ∷ ps))) (base_made g (tree.Cell n)) ∙ ap (λ f. f (map (part_in h) (x ∷ ps))) (sym (base_made h (tree.Cell n)))
    bases_same (front name {ps = ps} n w) =
        ap (λ f. f (map (part_in g) ps)) (base_made g (tree.Prefix name)) ∙ ap (λ xs. element g xs name) (parts_same w) ∙ element_same (map (part_in h) ps) name n
        ∙ ap (λ f. f (map (part_in h) ps)) (sym (base_made h (tree.Prefix name)))
    bases_same (follow l soft ps) = ap (λ f. f (map (part_in g) ps)) (base_made g (tree.Follow l soft)) ∙ ap (λ f. f (map (part_in h) ps)) (sym (base_made h (tree.Follow l soft)))
    bases_same (null ps) = ap (λ f. f (map (part_in g) ps)) (base_made g tree.Null) ∙ ap (λ f. f (map (part_in h) ps)) (sym (base_made h tree.Null))

    pub parts_same : {ns : List Counter} {ps : List CorePart} → AreReadableParts ns ps → map (part_in g) ps ≡ map (part_in h) ps
    parts_same none = refl
    parts_same (member n {ps = ps} w) = (λ i. (part_made g (tree.Member n) ∙ sym (part_made h (tree.Member n))) i ∷ parts_same w i)
    parts_same (index size {e = e} {ps = ps} v w) =
        (λ i. (part_made g (tree.Index size e) ∙ ap (Element size) (values_same v) ∙ sym (part_made h (tree.Index size e))) i ∷ parts_same w i)
