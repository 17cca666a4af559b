-- The buffer is taken; an array that a reset loads is not.
use Rattle.std.proofs.Common.{◌≡◌, inl, ℕ, zero, suc, Bool, true, false, List, [], ◌∷◌, ◌++◌, ◌+◌, decimal, map, length, Option, Some, None, slice_get, refl, sym, ap, subst, ◌∙◌, arith, true≢false}
use Rattle.scc_svtree.specs.declared.module.SvModule.{SvModule}
use Rattle.scc_svtree.specs.declared.expr.SvLeft.TheVariants.{Whole}
use Rattle.scc_blocks_spec.specs.Renamed.{BlockCode, Comb, Edge, Register, ResetCode, block_code}
use Rattle.std.proofs.lemmas.Fmt.{decimal_digit}
use Rattle.scc_svtree.specs.declared.module.SvVar.{SvVar}
use Rattle.scc_memory_spec.specs.Array.{Array, IsNamed, element_name, elements_from, nexts_of, var_named, tree, whole, width_of}
use Rattle.scc_memory_spec.specs.Uses.{Reads, other, chosen, Writes, ends, another, by_number}
use Rattle.scc_memory_spec.specs.Taken.{IsTaken, Uses, comb, edge, Every, SetsFit, no_more, own, set_other, reset_free, starts, without_starts}
use Rattle.scc_memory_spec.specs.WorkedTaken.{puts, buffer, buffer_vars, buffer_uses, buffer_blocks, buffer_edge, choosing_edge, clearing}

abbrev widths : ℕ → ℕ
widths = width_of buffer_vars

-- a variable that is no part of the buffer
plain : (v : ℕ) → Reads buffer widths None (whole 4) false
plain v = other (Whole (record { 0 = 4 })) refl

value : Reads buffer widths None (whole 5) false
value = other (Whole (record { 0 = 5 })) refl

-- the index reaches no further than the last element
uses_write : Writes buffer widths buffer_uses true 1
uses_write = by_number 4 1 0 (plain 4) (refl, refl, (refl, refl, tt)) value
    (another (Whole (record { 0 = 6 })) refl (chosen 4 2 (omega arith) (omega arith) (inl (omega arith)) (plain 4)) ends)

length_map : {X Y : Type 0} (f : X → Y) (xs : List X) → length (map f xs) ≡ length xs
length_map f [] = refl
length_map f (x ∷ xs) = ap suc (length_map f xs)

abbrev or_this : {X : Type 0} → X → Option X → X
or_this y None = y
or_this y (Some x) = x

abbrev is_first : ℕ → Bool
is_first zero = true
is_first (suc k) = false

-- what the first block begins, and the second sets
abbrev begun_by : List ℕ → ℕ → List ℕ
begun_by ks zero = ks
begun_by ks (suc k) = []

abbrev set_by : List ℕ → ℕ → List ℕ
set_by ks (suc zero) = ks
set_by ks k = []

fits : (width : ℕ → ℕ) → SetsFit buffer width (record { target = 0; value = whole 1 } ∷ record { target = 2; value = whole 3 } ∷ []) false
fits width = own 0 [] refl (own 1 [] refl no_more)

every_two : Every 2 (0 ∷ 1 ∷ [])
every_two zero h = refl
every_two (suc zero) h = refl
every_two (suc (suc k)) h = absurd (omega (arith, h))

only_first : (ks : List ℕ) (k : ℕ) → (k ≡ 0 → ⊥) → begun_by ks k ≡ []
only_first ks zero h = absurd (h refl)
only_first ks (suc k) h = refl

-- the elements by their names, of which one number is a digit
is_element : (vars : List SvVar) (name : List ℕ) (left k v : ℕ) → var_named vars (element_name name k) ≡ Some v → elements_from vars name (suc left) k ≡ v ∷ elements_from vars name left (k + 1)
is_element vars name left k v e = rw e refl

is_end : (vars : List SvVar) (name : List ℕ) (left k : ℕ) → var_named vars (element_name name k) ≡ None → elements_from vars name (suc left) k ≡ []
is_end vars name left k e = rw e refl

abbrev found : List ℕ → Option ℕ
found digits = var_named buffer_vars (109 ∷ 36 ∷ digits)

abbrev next_found : List ℕ → Option ℕ
next_found digits = var_named buffer_vars ((109 ∷ 36 ∷ digits) ++ 36 ∷ 36 ∷ 110 ∷ [])

two_elements : elements_from buffer_vars buffer.name 9 0 ≡ 0 ∷ 2 ∷ []
two_elements =
    is_element buffer_vars buffer.name 8 0 0 (ap found (decimal_digit 0 (omega arith)))
    ∙ ap (λ vs. 0 ∷ vs) (is_element buffer_vars buffer.name 7 1 2 (ap found (decimal_digit 1 (omega arith)))
    ∙ ap (λ vs. 2 ∷ vs) (is_end buffer_vars buffer.name 6 2 (ap found (decimal_digit 2 (omega arith)))))

two_nexts : nexts_of buffer_vars buffer.name 2 ≡ Some 1 ∷ Some 3 ∷ []
two_nexts =
    ap (λ v. v ∷ next_found (decimal 1) ∷ []) (ap next_found (decimal_digit 0 (omega arith)))
    ∙ ap (λ v. Some 1 ∷ v ∷ []) (ap next_found (decimal_digit 1 (omega arith)))

pub buffer_is_named : IsNamed buffer_vars buffer
buffer_is_named = record { elements = sym two_elements; nexts = sym two_nexts; some = refl; inner = refl; width = 4; widths = refl; free = refl }

pub buffer_is_taken : (m : SvModule) → m.vars ≡ buffer_vars → map block_code m.blocks ≡ buffer_blocks None → IsTaken m buffer
buffer_is_taken m vs bs = record {
  named = subst (λ xs. IsNamed xs buffer) (sym vs) buffer_is_named;
  begun = begun_by (0 ∷ 1 ∷ []);
  set = set_by (0 ∷ 1 ∷ []);
  chooses = is_first;
  uses = λ k b e. used k b (ap (λ xs. slice_get xs k) (sym bs) ∙ e);
  begins_at = 0;
  begins_within = omega (arith, two);
  begins = every_two;
  begins_once = only_first (0 ∷ 1 ∷ []);
  sets_at = 1;
  sets_within = omega (arith, two);
  sets = every_two;
  some_at = 0;
  some_within = omega (arith, two);
  some = refl;
}
  where
    two : length m.blocks ≡ 2
    two = sym (length_map block_code m.blocks) ∙ ap length bs

    first_block : BlockCode → Type 0
    first_block b = Uses m buffer b (0 ∷ 1 ∷ []) [] true

    at_first : Uses m buffer (Comb (puts 1 (whole 0) (puts 3 (whole 2) buffer_uses))) (0 ∷ 1 ∷ []) [] true
    at_first = subst (λ xs. Uses m buffer (Comb (puts 1 (whole 0) (puts 3 (whole 2) buffer_uses))) (starts xs buffer [] (puts 1 (whole 0) (puts 3 (whole 2) buffer_uses))) [] true) vs
        (comb (subst (λ xs. Writes buffer (width_of xs) (without_starts xs buffer [] (puts 1 (whole 0) (puts 3 (whole 2) buffer_uses))) true 1) (sym vs) uses_write) (omega arith))

    used : (k : ℕ) (b : BlockCode) → slice_get (buffer_blocks None) k ≡ Some b → Uses m buffer b (begun_by (0 ∷ 1 ∷ []) k) (set_by (0 ∷ 1 ∷ []) k) (is_first k)
    used zero b e = subst first_block (ap (or_this (buffer_edge None)) e) at_first
    used (suc zero) b e = subst (λ b. Uses m buffer b [] (0 ∷ 1 ∷ []) false) (ap (or_this (buffer_edge None)) e) (edge refl refl (fits (width_of m.vars)))
    used (suc (suc k)) b e = cc

pub edge_chooses : (m : SvModule) → m.vars ≡ buffer_vars → Uses m buffer choosing_edge [] (0 ∷ 1 ∷ []) true
edge_chooses m vs = edge refl refl (own 0 [] refl (own 1 [] refl (set_other refl refl chosen_by_index no_more)))
  where
    chosen_by_index : Reads buffer (width_of m.vars) None (tree buffer 4 1 2) true
    chosen_by_index = subst (λ xs. Reads buffer (width_of xs) None (tree buffer 4 1 2) true) (sym vs) (chosen 4 2 (omega arith) (omega arith) (inl (omega arith)) (plain 4))

-- what an edge's use tells of its reset
free : {m : SvModule} {a : Array} {rising : Bool} {clock : ℕ} {reset : Option ResetCode} {sets : List Register} {begun set : List ℕ} {b : Bool}
    → Uses m a (Edge rising clock reset sets) begun set b → reset_free a reset ≡ true
free (edge c r s) = r

pub cleared_is_not_taken : (m : SvModule) → map block_code m.blocks ≡ buffer_blocks (Some clearing) → IsTaken m buffer → ⊥
cleared_is_not_taken m bs t = true≢false (sym (free (t.uses 1 (buffer_edge (Some clearing)) (ap (λ xs. slice_get xs 1) bs))))
