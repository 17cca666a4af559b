-- The value with numbers of counters is that of the copy in which they stand as literals.
use Rattle.std.proofs.Common.{◌≡◌, refl, sym, ap, subst, ◌∙◌, ℕ, Bool, true, false, List, [], ◌∷◌, map, Option, Some, None, option_map, option_and_then}
use Rattle.scc_base.specs.declared.refusal.Place.{Place}
use Rattle.scc_base.specs.declared.names.Name.{Name}
use Rattle.scc_bits_kinds.specs.declared.kind.Kind.{Kind}
use Rattle.scc_bits.specs.Value.{Number}
use Rattle.scc_core.specs.declared.copy.Counter.{Counter}
use Rattle.scc_core.specs.declared.expr.CoreExpr.{CoreExpr}
use Rattle.scc_core.specs.declared.expr.CoreLeft.{CoreLeft}
use Rattle.scc_core.specs.declared.expr.CoreBase.{CoreBase, roll-CoreBase, out-CoreBase}
use Rattle.scc_core.specs.declared.expr.CorePart.{CorePart, roll-CorePart}
use Rattle.scc_core.specs.declared.expr.CorePick.{CorePick, roll-CorePick}
use Rattle.scc_core.specs.declared.expr.CoreBase.TheOpen as tree
use Rattle.scc_core.specs.declared.program.Cell.{Cell}
use Rattle.scc_core.specs.declared.program.CellName.{CellName}
use Rattle.scc_core.specs.Counters as with
use Rattle.scc_core.specs.Counters.{kind_of, number_of, number_at, whole_number}
use Rattle.scc_core.specs.Elements.{Facts, Part, Member, Element, element, found, fixed, inside, at_cell, at_element, past}
use Rattle.scc_core.specs.Known.{first_number}
use Rattle.scc_core.specs.Numbers.{all_joined, stored_in, valued}
use Rattle.scc_core.specs.Statics as of
use Rattle.scc_core.specs.Statics.{chosen, facts_of, left_value, operated, part_in, pick_in, picked, value_in}
use Rattle.scc_core_view.specs.Whole.{location, made}
use Rattle.scc_core_static_laws.specs.Held.{facts_with}
use Rattle.scc_core_static_laws.specs.Readable.{IsOfKind, IsReadable, literal, load, read, convert, unary, binary, choose, pick, join, AreReadable, last, next, IsReadablePick, bit, range, IsReadableLeft, all, some, IsReadableBase, cell, behind, front, follow, null, AreReadableParts, none, member, index}
use Rattle.scc_core_static_laws.proofs.Nodes.{Layer, base_in, base_made, layer_in, left_made, part_made, pick_made, value_made, base_copied, layer_copied, expr_copy, left_copy, base_copy, part_copy, pick_copy}
use Rattle.scc_core_static_laws.proofs.Wholes.{bit_kind, range_kind}

whole_cell : (ns : List Counter) (n : ℕ) → whole_number ns (out-CoreBase (roll-CoreBase (tree.Cell n))) [] ≡ number_of ns n
unfolding out-CoreBase denote.Hole.Carrier.out roll-CoreBase denote.Hole.Carrier.roll
whole_cell ns n = refl

whole_behind : (ns : List Counter) (n : ℕ) (x : CorePart) (xs : List CorePart) → whole_number ns (out-CoreBase (roll-CoreBase (tree.Cell n))) (x ∷ xs) ≡ None
unfolding out-CoreBase denote.Hole.Carrier.out roll-CoreBase denote.Hole.Carrier.roll
whole_behind ns n x xs = refl

whole_front : (ns : List Counter) (name : CellName) (xs : List CorePart) → whole_number ns (out-CoreBase (roll-CoreBase (tree.Prefix name))) xs ≡ None
unfolding out-CoreBase denote.Hole.Carrier.out roll-CoreBase denote.Hole.Carrier.roll
whole_front ns name xs = refl

whole_follow : (ns : List Counter) (l : CoreLeft) (soft : Bool) (xs : List CorePart) → whole_number ns (out-CoreBase (roll-CoreBase (tree.Follow l soft))) xs ≡ None
unfolding out-CoreBase denote.Hole.Carrier.out roll-CoreBase denote.Hole.Carrier.roll
whole_follow ns l soft xs = refl

whole_null : (ns : List Counter) (xs : List CorePart) → whole_number ns (out-CoreBase (roll-CoreBase tree.Null)) xs ≡ None
unfolding out-CoreBase denote.Hole.Carrier.out roll-CoreBase denote.Hole.Carrier.roll
whole_null ns xs = refl

module _ (cells : List Cell) (ns : List Counter) where
  abbrev g : Facts
  g = facts_with cells ns

  abbrev f : Facts
  f = facts_of cells

  -- what a location holds, or the number of the counter that it is
  record BaseCounts (j : Kind) (b : CoreBase) (ps : List CorePart) : Type 0 where
    loads : whole_number ns (out-CoreBase (base_copied ns b)) (map (with.counted_part ns) ps) ≡ None
        → base_in g b (map (part_in g) ps) ≡ base_in f (base_copied ns b) (map (part_in f) (map (with.counted_part ns) ps))
    number : (v : Number) → whole_number ns (out-CoreBase (base_copied ns b)) (map (with.counted_part ns) ps) ≡ Some v → base_in g b (map (part_in g) ps) ≡ Some v
    kind : (v : Number) → whole_number ns (out-CoreBase (base_copied ns b)) (map (with.counted_part ns) ps) ≡ Some v → valued j v.word ≡ Some v

  cell_counts : (j : Kind) (n : ℕ) → IsOfKind ns n j → BaseCounts j (roll-CoreBase (tree.Cell n)) []
  cell_counts j n w =
      let here : whole_number ns (out-CoreBase (base_copied ns (roll-CoreBase (tree.Cell n)))) [] ≡ number_of ns n = ap (λ b. whole_number ns (out-CoreBase b) []) (base_copy ns (tree.Cell n)) ∙ whole_cell ns n in
      let there : base_in g (roll-CoreBase (tree.Cell n)) [] ≡ first_number (number_of ns n) (fixed cells n) = ap (λ x. x []) (base_made g (tree.Cell n)) in
      record {
        loads = λ e. there ∙ ap (λ o. first_number o (fixed cells n)) (sym here ∙ e) ∙ ap (λ x. x []) (sym (base_made f (tree.Cell n))) ∙ ap (λ b. base_in f b []) (sym (base_copy ns (tree.Cell n)));
        number = λ v e. there ∙ ap (λ o. first_number o (fixed cells n)) (sym here ∙ e);
        kind = λ v e. w v (sym here ∙ e);
      }

  -- where no counter can stand
  no_counter : {j : Kind} {b : CoreBase} {ps : List CorePart} → whole_number ns (out-CoreBase (base_copied ns b)) (map (with.counted_part ns) ps) ≡ None
      → base_in g b (map (part_in g) ps) ≡ base_in f (base_copied ns b) (map (part_in f) (map (with.counted_part ns) ps)) → BaseCounts j b ps
  no_counter {j = j} {b = b} {ps = ps} e d = record { loads = λ x. d; number = λ v x. let q : None ≡ Some v = sym e ∙ x in cc q; kind = λ v x. let q : None ≡ Some v = sym e ∙ x in cc q }

  same_counted : (p : Place) (k : Kind) (x y : Layer) → with.counted ns (made p k x) ≡ made p k y → of.expr_node (layer_in g x) k ≡ of.expr_node (layer_in f y) k
      → value_in g (made p k x) ≡ value_in f (with.counted ns (made p k x))
  same_counted p k x y c e = value_made g p k x ∙ e ∙ sym (ap (value_in f) c ∙ value_made f p k y)

  left_counted : (p : Place) (b : CoreBase) (ps : List CorePart) (q : Option CorePick) (k : Kind)
      → base_in g b (map (part_in g) ps) ≡ base_in f (base_copied ns b) (map (part_in f) (map (with.counted_part ns) ps))
      → option_map (pick_in g) q ≡ option_map (pick_in f) (option_map (with.counted_pick ns) q)
      → left_value g (location p b ps q) k ≡ left_value f (with.counted_left ns (location p b ps q)) k
  left_counted p b ps q k d e =
      left_made g p b ps q k
      ∙ ap (λ o. option_and_then (picked o k) (base_in g b (map (part_in g) ps))) e
      ∙ ap (option_and_then (picked (option_map (pick_in f) (option_map (with.counted_pick ns) q)) k)) d
      ∙ sym (left_made f p (base_copied ns b) (map (with.counted_part ns) ps) (option_map (with.counted_pick ns) q) k)
      ∙ ap (λ l. left_value f l k) (sym (left_copy ns p b ps q))

  number_is : (p : Place) (b : CoreBase) (ps : List CorePart) (q : Option CorePick)
      → number_at ns (with.counted_left ns (location p b ps q)) ≡ whole_number ns (out-CoreBase (base_copied ns b)) (map (with.counted_part ns) ps)
  number_is p b ps q = ap (number_at ns) (left_copy ns p b ps q)

  -- what is loaded, as it stands or as a literal
  abbrev LoadCounts : Kind → CoreLeft → Type 0
  LoadCounts k l = (p : Place) → left_value g l k ≡ value_in f (with.load_or p k (with.counted_left ns l) (number_at ns (with.counted_left ns l)))

  whole_counts : (k : Kind) (p : Place) (b : CoreBase) (ps : List CorePart) → BaseCounts k b ps → LoadCounts k (location p b ps None)
  whole_counts k p b ps w at = by (number_at ns (with.counted_left ns (location p b ps None))) (number_is p b ps None)
    where
      by : (o : Option Number) → o ≡ whole_number ns (out-CoreBase (base_copied ns b)) (map (with.counted_part ns) ps)
          → left_value g (location p b ps None) k ≡ value_in f (with.load_or at k (with.counted_left ns (location p b ps None)) o)
      by None e = left_counted p b ps None k (w.loads (sym e)) refl ∙ sym (value_made f at k (tree.Load (with.counted_left ns (location p b ps None))))
      by (Some v) e =
          left_made g p b ps None k
          ∙ ap (option_and_then (picked None k)) (w.number v (sym e) ∙ sym (w.kind v (sym e)))
          ∙ some_own (valued k v.word)
          ∙ sym (value_made f at k (tree.Lit (record { bits = v.word })))
          ∙ ap (λ l. value_in f (with.load_or at k l (Some v))) (sym (left_copy ns p b ps None))
        where
          some_own : (o : Option Number) → option_and_then (picked None k) o ≡ o
          some_own None = refl
          some_own (Some n) = refl

  some_counts : (k : Kind) (p : Place) (b : CoreBase) (ps : List CorePart) (q : CorePick) → BaseCounts (kind_of q) b ps → pick_in g q ≡ pick_in f (with.counted_pick ns q)
      → kind_of (with.counted_pick ns q) ≡ kind_of q → LoadCounts k (location p b ps (Some q))
  some_counts k p b ps q w s j at = by (number_at ns (with.counted_left ns (location p b ps (Some q)))) (number_is p b ps (Some q))
    where
      by : (o : Option Number) → o ≡ whole_number ns (out-CoreBase (base_copied ns b)) (map (with.counted_part ns) ps)
          → left_value g (location p b ps (Some q)) k ≡ value_in f (with.load_or at k (with.counted_left ns (location p b ps (Some q))) o)
      by None e = left_counted p b ps (Some q) k (w.loads (sym e)) (ap Some s) ∙ sym (value_made f at k (tree.Load (with.counted_left ns (location p b ps (Some q)))))
      by (Some v) e =
          let r = with.counted_pick ns q in
          left_made g p b ps (Some q) k
          ∙ ap (option_and_then (λ x. pick_in g q x k)) (w.number v (sym e) ∙ sym (w.kind v (sym e)))
          ∙ ap (λ z. option_and_then (λ x. z x k) (valued (kind_of q) v.word)) s
          ∙ ap (λ z. option_and_then (λ x. pick_in f r x k) (valued z v.word)) (sym j)
          ∙ ap (option_and_then (λ x. pick_in f r x k)) (sym (value_made f at (kind_of r) (tree.Lit (record { bits = v.word }))))
          ∙ sym (value_made f at k (tree.Pick (made at (kind_of r) (tree.Lit (record { bits = v.word }))) r))
          ∙ ap (λ l. value_in f (with.load_or at k l (Some v))) (sym (left_copy ns p b ps (Some q)))

  kind_counted : {q : CorePick} → IsReadablePick ns q → kind_of (with.counted_pick ns q) ≡ kind_of q
  kind_counted (bit j {e = e} w) = ap kind_of (pick_copy ns (tree.Bit j e)) ∙ bit_kind j (with.counted ns e) ∙ sym (bit_kind j e)
  kind_counted (range j x y) = ap kind_of (pick_copy ns (tree.Range j x y))

  mutual
    pub values_counted : {e : CoreExpr} → IsReadable ns e → value_in g e ≡ value_in f (with.counted ns e)
    values_counted (literal {p = p} {k = k} w) = same_counted p k (tree.Lit w) (tree.Lit w) (expr_copy ns p k (tree.Lit w)) refl
    values_counted (load {p = p} {k = k} {l = l} w) = value_made g p k (tree.Load l) ∙ loads_counted w p ∙ ap (value_in f) (sym (expr_copy ns p k (tree.Load l)))
    values_counted (read {p = p} {k = k} l) = same_counted p k (tree.Read l) (tree.Read (with.counted_left ns l)) (expr_copy ns p k (tree.Read l)) refl
    values_counted (convert {p = p} {k = k} {e = e} w) = same_counted p k (tree.Convert e) (tree.Convert (with.counted ns e)) (expr_copy ns p k (tree.Convert e)) (ap (option_and_then (stored_in k)) (values_counted w))
    values_counted (unary {p = p} {k = k} o {a = x} w) =
        same_counted p k (tree.Operate o x None) (tree.Operate o (with.counted ns x) None) (expr_copy ns p k (tree.Operate o x None)) (ap (option_and_then (λ v. operated k o v None)) (values_counted w))
    values_counted (binary {p = p} {k = k} o {a = x} {b = y} v w) =
        same_counted p k (tree.Operate o x (Some y)) (tree.Operate o (with.counted ns x) (Some (with.counted ns y))) (expr_copy ns p k (tree.Operate o x (Some y)))
        (λ i. option_and_then (λ v. operated k o v (Some (values_counted w i))) (values_counted v i))
    values_counted (choose {p = p} {k = k} {t = t} {a = x} {b = y} u v w) =
        same_counted p k (tree.Choose t x y) (tree.Choose (with.counted ns t) (with.counted ns x) (with.counted ns y)) (expr_copy ns p k (tree.Choose t x y))
        (λ i. option_and_then (λ r. option_and_then (λ s. option_and_then (λ z. chosen k r s z) (values_counted w i)) (values_counted v i)) (values_counted u i))
    values_counted (pick {p = p} {k = k} {e = e} {q = q} w s) =
        same_counted p k (tree.Pick e q) (tree.Pick (with.counted ns e) (with.counted_pick ns q)) (expr_copy ns p k (tree.Pick e q))
        (λ i. option_and_then (λ x. picks_counted s i x k) (values_counted w i))
    values_counted (join {p = p} {k = k} {es = es} w) =
        same_counted p k (tree.Join es) (tree.Join (map (with.counted ns) es)) (expr_copy ns p k (tree.Join es))
        (ap (λ vs. option_and_then (λ v. valued k v.word) (all_joined vs)) (all_counted w))

    all_counted : {es : List CoreExpr} → AreReadable ns es → map (value_in g) es ≡ map (value_in f) (map (with.counted ns) es)
    all_counted last = refl
    all_counted (next v w) = (λ i. values_counted v i ∷ all_counted w i)

    pub picks_counted : {q : CorePick} → IsReadablePick ns q → pick_in g q ≡ pick_in f (with.counted_pick ns q)
    picks_counted (bit j {e = e} w) =
        pick_made g (tree.Bit j e) ∙ ap (λ v. of.pick_node (tree.Bit j v)) (values_counted w) ∙ sym (ap (pick_in f) (pick_copy ns (tree.Bit j e)) ∙ pick_made f (tree.Bit j (with.counted ns e)))
    picks_counted (range j x y) = pick_made g (tree.Range j x y) ∙ sym (ap (pick_in f) (pick_copy ns (tree.Range j x y)) ∙ pick_made f (tree.Range j x y))

    loads_counted : {k : Kind} {l : CoreLeft} → IsReadableLeft ns k l → LoadCounts k l
    loads_counted (all {p = p} {b = b} {ps = ps} {k = k} w) = whole_counts k p b ps (bases_counted w)
    loads_counted (some {p = p} {b = b} {ps = ps} {q = q} {k = k} w s) = some_counts k p b ps q (bases_counted w) (picks_counted s) (kind_counted s)

    bases_counted : {j : Kind} {b : CoreBase} {ps : List CorePart} → IsReadableBase ns j b ps → BaseCounts j b ps
    bases_counted (cell {k = k} n w) = cell_counts k n w
    bases_counted (behind {k = k} n x ps) = no_counter
        (ap (λ b. whole_number ns (out-CoreBase b) (map (with.counted_part ns) (x ∷ ps))) (base_copy ns (tree.Cell n)) ∙ whole_behind ns n (with.counted_part ns x) (map (with.counted_part ns) ps))
        (ap (λ z. z (map (part_in g) (x ∷ ps))) (base_made g (tree.Cell n))
        ∙ ap (λ z. z (map (part_in f) (map (with.counted_part ns) (x ∷ ps)))) (sym (base_made f (tree.Cell n)))
        ∙ ap (λ b. base_in f b (map (part_in f) (map (with.counted_part ns) (x ∷ ps)))) (sym (base_copy ns (tree.Cell n))))
    bases_counted (front {k = k} name {ps = ps} n w) = no_counter
        (ap (λ b. whole_number ns (out-CoreBase b) (map (with.counted_part ns) ps)) (base_copy ns (tree.Prefix name)) ∙ whole_front ns name (map (with.counted_part ns) ps))
        (ap (λ z. z (map (part_in g) ps)) (base_made g (tree.Prefix name))
        ∙ ap (λ xs. element f xs name) (parts_counted w)
        ∙ ap (λ z. z (map (part_in f) (map (with.counted_part ns) ps))) (sym (base_made f (tree.Prefix name)))
        ∙ ap (λ b. base_in f b (map (part_in f) (map (with.counted_part ns) ps))) (sym (base_copy ns (tree.Prefix name))))
    bases_counted (follow {k = k} l soft ps) = no_counter
        (ap (λ b. whole_number ns (out-CoreBase b) (map (with.counted_part ns) ps)) (base_copy ns (tree.Follow l soft)) ∙ whole_follow ns (with.counted_left ns l) soft (map (with.counted_part ns) ps))
        (ap (λ z. z (map (part_in g) ps)) (base_made g (tree.Follow l soft))
        ∙ ap (λ z. z (map (part_in f) (map (with.counted_part ns) ps))) (sym (base_made f (tree.Follow (with.counted_left ns l) soft)))
        ∙ ap (λ b. base_in f b (map (part_in f) (map (with.counted_part ns) ps))) (sym (base_copy ns (tree.Follow l soft))))
    bases_counted (null {k = k} ps) = no_counter
        (ap (λ b. whole_number ns (out-CoreBase b) (map (with.counted_part ns) ps)) (base_copy ns tree.Null) ∙ whole_null ns (map (with.counted_part ns) ps))
        (ap (λ z. z (map (part_in g) ps)) (base_made g tree.Null)
        ∙ ap (λ z. z (map (part_in f) (map (with.counted_part ns) ps))) (sym (base_made f tree.Null))
        ∙ ap (λ b. base_in f b (map (part_in f) (map (with.counted_part ns) ps))) (sym (base_copy ns tree.Null)))

    pub parts_counted : {ps : List CorePart} → AreReadableParts ns ps → map (part_in g) ps ≡ map (part_in f) (map (with.counted_part ns) ps)
    parts_counted none = refl
    parts_counted (member n w) = (λ i. (part_made g (tree.Member n) ∙ sym (ap (part_in f) (part_copy ns (tree.Member n)) ∙ part_made f (tree.Member n))) i ∷ parts_counted w i)
    parts_counted (index size {e = e} v w) =
        (λ i. (part_made g (tree.Index size e) ∙ ap (Element size) (values_counted v) ∙ sym (ap (part_in f) (part_copy ns (tree.Index size e)) ∙ part_made f (tree.Index size (with.counted ns e)))) i
        ∷ parts_counted w i)
