-- An element of an array under an index that isn't known is lowered to a choice.
use Rattle.std.proofs.Common.{◌≡◌, ◌<◌, ◌≤◌, ℕ, zero, suc, [], ◌∷◌, ◌++◌, Some, refl, sym, ap, ◌∙◌, arith}
use Rattle.scc_bits_kinds.specs.declared.kind.Kind.TheVariants as kind
use Rattle.scc_svtree.specs.Code.{End}
use Rattle.scc_semantics.specs.Scene.{index_of}
use Rattle.scc_core_spec.specs.Named.{At, steps_of}
use Rattle.scc_core_spec.specs.Term as term
use Rattle.scc_core_spec.specs.Worked.{here, named}
use Rattle.scc_blocks_spec.specs.Acting.{cell_named}
use Rattle.scc_blocks_spec.specs.Worked.{some_cells, flag, chosen}
use Rattle.scc_lower_laws.specs.Outcome.{Made}
use Rattle.scc_lower_laws.specs.Lowers.{Lowers, IsNumbered}
use Rattle.scc_lower_laws.specs.Elements.{Dimension, Slot, IsFound, IsReadable, Indexes, ShowsSpan, variable_of, cell_in}
use Rattle.scc_lower_laws.specs.Worked.{some_sight, some_widths, chosen_text}
use Rattle.scc_lower_laws.proofs.Elements.{element-cell, span-one, span-halves, element-within}
use Rattle.scc_lower_laws.proofs.Indices.{index-variable}
use Rattle.scc_lower_laws.proofs.Loads.{taken-whole}

are-numbered : IsNumbered some_sight
are-numbered c h = grind (arith, h)

-- ---- the index

flag-found : IsFound some_sight (term.Cell here 0) 0 []
flag-found a x f g c steps e d = ([], tt, sym d ∙ ap (cell_named some_cells) (sym e))

flag-read : IsReadable some_sight some_widths 1 0
flag-read = record { is_named = refl; is_held = refl; is_read = tt; is_wide = refl; variable = refl }

flag-lowers : Lowers some_sight some_widths 0 0 flag End (Made (variable_of 0))
flag-lowers = taken-whole some_sight some_widths 0 0 flag (term.Cell here 0) End (variable_of 0) are-numbered (omega arith) (λ a. refl) (record {
  grows = omega arith;
  makes = λ v e. absurd (cc);
  first = 0;
  dimensions = [];
  slots = [];
  found = flag-found;
  indices = tt;
  element = element-cell some_sight some_widths 0 1 0 0 0 are-numbered flag-read (omega arith) (omega arith);
})

abbrev a_slot : Slot
a_slot = record { variable = 0; width = 1 }

flag-indexes : Indexes some_sight some_widths 0 0 flag End a_slot
flag-indexes = index-variable some_sight some_widths 0 0 flag End (Made (variable_of 0)) 0 flag-lowers refl

-- ---- the elements

abbrev a_dimension : Dimension
a_dimension = record { index = flag; size = 2; stride = 1 }

abbrev a_place : term.Left
a_place = term.Index (term.Prefix here (named 5)) 2 flag

element-named : (w : ℕ) → w < 2 → cell_named some_cells (Some (steps_of (named 5) ++ At (index_of kind.Bool w) ∷ [])) ≡ cell_in 1 (a_dimension ∷ []) (index_of kind.Bool w ∷ [])
element-named zero l = refl
element-named (suc zero) l = refl
element-named (suc (suc w)) l = absurd (omega (arith, l))

found : IsFound some_sight a_place 1 (a_dimension ∷ [])
found a x f g c steps e d = (index_of kind.Bool (a.now 0) ∷ [], ((a.now 0, refl, refl), tt), sym d ∙ ap (cell_named some_cells) (sym e) ∙ element-named (a.now 0) (f.words 0 refl))

element-read : (c : ℕ) → 1 ≤ c → c < 3 → IsReadable some_sight some_widths 8 c
element-read zero l h = absurd (omega (arith, l))
element-read (suc zero) l h = record { is_named = refl; is_held = refl; is_read = tt; is_wide = refl; variable = refl }
element-read (suc (suc zero)) l h = record { is_named = refl; is_held = refl; is_read = tt; is_wide = refl; variable = refl }
element-read (suc (suc (suc c))) l h = absurd (omega (arith, h))

elements : ShowsSpan some_sight some_widths 0 8 a_slot [] a_dimension [] 1 0 2 7 0 chosen_text
elements = span-halves some_sight some_widths 0 8 a_slot [] a_dimension [] 1 0 1 2 7 0 (variable_of 2) (variable_of 4) (omega arith) (omega arith)
    (span-one some_sight some_widths 0 8 a_slot [] a_dimension [] 1 0 7 0 (variable_of 2) (element-cell some_sight some_widths 0 8 1 7 0 are-numbered (element-read 1 (omega arith) (omega arith)) (omega arith) (omega arith)))
    (span-one some_sight some_widths 0 8 a_slot [] a_dimension [] 1 1 7 0 (variable_of 4) (element-cell some_sight some_widths 0 8 2 7 0 are-numbered (element-read 2 (omega arith) (omega arith)) (omega arith) (omega arith)))

pub chosen-lowers : Lowers some_sight some_widths 0 0 chosen End (Made chosen_text)
chosen-lowers = taken-whole some_sight some_widths 0 0 chosen a_place End chosen_text are-numbered (omega arith) (λ a. refl) (record {
  grows = omega arith;
  makes = λ v e. absurd (cc);
  first = 1;
  dimensions = a_dimension ∷ [];
  slots = a_slot ∷ [];
  found = found;
  indices = (flag-indexes, omega arith, record { some = omega arith; few = omega arith; fewer = λ e. absurd (cc) }, tt);
  element = element-within some_sight some_widths 0 8 a_slot [] a_dimension [] 1 2 7 0 chosen_text (omega arith) refl elements;
})
