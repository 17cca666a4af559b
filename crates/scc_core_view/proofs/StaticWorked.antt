-- The worked static values, node by node; and that the worked expressions are whole.
use Rattle.std.proofs.Common.{◌≡◌, refl, sym, ap, subst, ◌∙◌, lit<, ◌<◌, ◌^◌, ℕ, true, false, List, [], ◌∷◌, map, Some, None, option_and_then, inl, inr}
use Rattle.scc_bits_kinds.specs.declared.kind.Kind.TheVariants as kind
use Rattle.scc_bits_kinds.specs.declared.op.Op.TheVariants as op
use Rattle.scc_core.specs.declared.expr.CoreBase.{roll-CoreBase}
use Rattle.scc_core.specs.declared.expr.CorePick.{roll-CorePick}
use Rattle.scc_core.specs.declared.expr.CoreBase.TheOpen as tree
use Rattle.scc_core.specs.Elements.{Element, element, fixed, inside}
use Rattle.scc_core.specs.Numbers.{valued, small, bit}
use Rattle.scc_core.specs.Statics.{facts_of, value_in, part_in, operated}
use Rattle.scc_core_spec.specs.Worked.{here}
use Rattle.scc_core_spec.specs.Term.{Left}
use Rattle.scc_core_spec.specs.Term as term
use Rattle.scc_core_spec.specs.Program as program
use Rattle.scc_core_spec.specs.Named.{Step, Named, At}
use Rattle.scc_core_spec.specs.Static.{Cells, first_of, found, pattern}
use Rattle.scc_core_view.specs.Terms.{name_of, extended}
use Rattle.scc_core_view.specs.Programs.{cell_of}
use Rattle.scc_core_view.specs.Whole as whole
use Rattle.scc_core_view.specs.Whole.{IsArray, IsNamed, IsWhole, behind, location}
use Rattle.scc_core_view.specs.WorkedStatic.{bit_of, byte, element_of, fixed_cells, indices, int, literal_of, long, named, path, sum_of}
use Rattle.scc_core_view.proofs.StaticTerms.{front_term, index_term, taken_whole, term_made, term_part, value_base, value_made, left_whole, left_some, base_value, bit_value, index_value}

literal_is : (n : ℕ) → value_in (facts_of fixed_cells) (literal_of n) ≡ valued int n
literal_is n = value_made fixed_cells here int (tree.Lit (record { bits = n }))

pub bit_is : (i : ℕ) → value_in (facts_of fixed_cells) (bit_of i) ≡ option_and_then (λ v. option_and_then (λ x. valued kind.Bool (bit v x)) (valued int i)) (fixed fixed_cells 0)
bit_is i =
    value_made fixed_cells here kind.Bool (tree.Load (location here (roll-CoreBase (tree.Cell 0)) [] (Some (roll-CorePick (tree.Bit byte (literal_of i))))))
    ∙ left_some fixed_cells here (roll-CoreBase (tree.Cell 0)) [] (roll-CorePick (tree.Bit byte (literal_of i))) kind.Bool
    ∙ ap (λ f. option_and_then (λ v. f v kind.Bool) (value_base fixed_cells (roll-CoreBase (tree.Cell 0)) [])) (bit_value fixed_cells byte (literal_of i))
    ∙ ap (λ f. option_and_then (λ v. option_and_then (λ x. valued kind.Bool (bit v x)) (value_in (facts_of fixed_cells) (literal_of i))) (f [])) (base_value fixed_cells (tree.Cell 0))
    ∙ ap (λ o. option_and_then (λ v. option_and_then (λ x. valued kind.Bool (bit v x)) o) (fixed fixed_cells 0)) (literal_is i)

pub element_is : (i : ℕ) → value_in (facts_of fixed_cells) (element_of i) ≡ option_and_then (λ v. Some v) (element (facts_of fixed_cells) (Element 2 (valued int i) ∷ []) (path (named 1 ∷ [])))
element_is i =
    value_made fixed_cells here byte (tree.Load (location here (roll-CoreBase (tree.Prefix (path (named 1 ∷ [])))) (indices i) None))
    ∙ left_whole fixed_cells here (roll-CoreBase (tree.Prefix (path (named 1 ∷ [])))) (indices i) byte
    ∙ ap (λ f. option_and_then (λ v. Some v) (f (map (part_in (facts_of fixed_cells)) (indices i)))) (base_value fixed_cells (tree.Prefix (path (named 1 ∷ []))))
    ∙ ap (λ p. option_and_then (λ v. Some v) (element (facts_of fixed_cells) (p ∷ []) (path (named 1 ∷ [])))) (index_value fixed_cells 2 (literal_of i) ∙ ap (Element 2) (literal_is i))

pub sum_is : (i : ℕ) → value_in (facts_of fixed_cells) (sum_of i) ≡ option_and_then (λ x. operated long op.Add x (Some (valued int 2))) (value_in (facts_of fixed_cells) (element_of i))
sum_is i =
    value_made fixed_cells here long (tree.Operate op.Add (element_of i) (Some (literal_of 2)))
    ∙ ap (λ o. option_and_then (λ x. operated long op.Add x (Some o)) (value_in (facts_of fixed_cells) (element_of i))) (literal_is 2)

-- ---- whole expressions

abbrev cs : Cells
cs = map cell_of fixed_cells

abbrev m_at : ℕ → Left
m_at i = term.Index (term.Prefix here (name_of (path (named 1 ∷ [])))) 2 (term.Literal here int i)

there : (i : ℕ) → behind fixed_cells here (path (named 1 ∷ [])) (indices i) ≡ m_at i
there i =
    ap (λ t. t.left) (taken_whole here (roll-CoreBase (tree.Prefix (path (named 1 ∷ [])))) (indices i))
    ∙ ap (λ f. extended (f here) (map term_part (indices i))) (front_term (path (named 1 ∷ [])))
    ∙ ap (λ f. f (term.Prefix here (name_of (path (named 1 ∷ []))))) (index_term 2 (literal_of i))
    ∙ ap (λ t. term.Index (term.Prefix here (name_of (path (named 1 ∷ [])))) 2 t) (term_made here int (tree.Lit (record { bits = i })))

inside_is : (i : ℕ) → inside (map (part_in (facts_of fixed_cells)) (indices i)) ≡ inside (Element 2 (valued int i) ∷ [])
inside_is i = ap (λ p. inside (p ∷ [])) (index_value fixed_cells 2 (literal_of i) ∙ ap (Element 2) (literal_is i))

steps_one : (steps : List Step) → pattern cs (behind fixed_cells here (path (named 1 ∷ [])) (indices 1)) ≡ Some steps → Named 1 ∷ At 1 ∷ [] ≡ steps
steps_one steps e = let p : Some (Named 1 ∷ At 1 ∷ []) ≡ Some steps = ap (pattern cs) (sym (there 1)) ∙ e in cc p

steps_two : (steps : List Step) → pattern cs (behind fixed_cells here (path (named 1 ∷ [])) (indices 2)) ≡ Some steps → Named 1 ∷ At 2 ∷ [] ≡ steps
steps_two steps e = let p : Some (Named 1 ∷ At 2 ∷ []) ≡ Some steps = ap (pattern cs) (sym (there 2)) ∙ e in cc p

same_kind : (a c : program.Cell) → Some a ≡ Some c → c.kind ≡ a.kind
same_kind a c e = let p : a ≡ c = cc e in ap (λ c. c.kind) (sym p)

first_kind : (i : ℕ) (c : program.Cell) → option_and_then (found cs) (first_of cs (behind fixed_cells here (path (named 1 ∷ [])) (indices i))) ≡ Some c → c.kind ≡ byte
first_kind i c e = same_kind _ c (sym (ap (λ l. option_and_then (found cs) (first_of cs l)) (there i)) ∙ e)

array_one : IsArray fixed_cells byte here (path (named 1 ∷ [])) (indices 1)
unfolding valued small
array_one = record {
  is_name = λ e. refl;
  kinds = λ steps c e f. same_kind _ c (ap (found cs) (steps_one steps e) ∙ f);
  first = first_kind 1;
  ends = λ steps e h. let p : Some true ≡ Some false = sym (inside_is 1) ∙ h in cc p;
}

array_two : IsArray fixed_cells byte here (path (named 1 ∷ [])) (indices 2)
array_two = record {
  is_name = λ e. refl;
  kinds = λ steps c e f. let p : None ≡ Some c = ap (found cs) (steps_two steps e) ∙ f in cc p;
  first = first_kind 2;
  ends = λ steps e h. ap (found cs) (sym (steps_two steps e));
}

whole_literal : (n : ℕ) → n < 2 ^ 32 → IsWhole fixed_cells (literal_of n)
whole_literal n h = whole.literal (record { bits = n }) (inr (inr (inl refl))) h

whole_element : (i : ℕ) → i < 2 ^ 32 → IsArray fixed_cells byte here (path (named 1 ∷ [])) (indices i) → IsWhole fixed_cells (element_of i)
whole_element i h a = whole.load (whole.all (whole.front (whole.index 2 (whole_literal i h) whole.none) a))

whole_sum : (i : ℕ) → i < 2 ^ 32 → IsArray fixed_cells byte here (path (named 1 ∷ [])) (indices i) → IsWhole fixed_cells (sum_of i)
whole_sum i h a = whole.binary (record { has_rule = refl; is_narrow = refl }) (λ n e. tt) (whole_element i h a) (whole_literal 2 (lit< tt))

pub bit_is_whole : IsWhole fixed_cells (bit_of 3)
bit_is_whole = whole.load (whole.some (whole.cell 0 _ refl refl) (whole.bit (whole_literal 3 (lit< tt))))

pub sum_is_whole : IsWhole fixed_cells (sum_of 1)
sum_is_whole = whole_sum 1 (lit< tt) array_one

pub past_is_whole : IsWhole fixed_cells (sum_of 2)
past_is_whole = whole_sum 2 (lit< tt) array_two
