-- The statements of the two inverters as they are meant and written.
use Rattle.std.proofs.Common.{ℕ, List, [], ◌∷◌, ◌++◌, ap, flat_map, false}
use Rattle.scc_blocks_spec.specs.Renamed.{Comb, code_as}
use Rattle.scc_svtext.specs.declared.fixed.Fixed.TheVariants as piece
use Rattle.scc_svtext.specs.Fixed.{fixed_text}
use Rattle.scc_svtext.specs.Keyword.{is_keyword}
use Rattle.scc_svtext.specs.Pieces.{spelled}
use Rattle.scc_svtext.specs.ModuleText.{names_of, ports_text, decl_text}
use Rattle.scc_hier_spec.specs.Text.{hier_module_text, instance_text}
use Rattle.scc_hier_spec.specs.Worked.{two, outer, inverter}
use Rattle.scc_hier_spec.specs.Flattened.{number_in}
use Rattle.scc_hier_spec.proofs.Worked.{inverter_code, inverter_text}
use Rattle.scc_hier_spec.proofs.laws.two_inverters_are_flattened.Goals as goal

pub returns-clause-blocks : goal.returns-clause-blocks
returns-clause-blocks c = ap (λ k. Comb (code_as (number_in (0 ∷ 2 ∷ [])) k) ∷ Comb (code_as (number_in (2 ∷ 1 ∷ [])) k) ∷ []) inverter_code

-- the text around the lines of the inverter's block
abbrev around : List ℕ → List ℕ
around lines = hier_module_text two outer ++ ((fixed_text piece.Module ++ (spelled inverter.name ++ (fixed_text piece.PortsOpen ++ (ports_text false inverter.vars ++ (fixed_text piece.PortsClose
    ++ (flat_map decl_text inverter.vars ++ (flat_map (instance_text two (names_of inverter.vars)) inverter.instances
    ++ (((fixed_text piece.Comb ++ (lines ++ fixed_text piece.BlockEnd)) ++ []) ++ fixed_text piece.ModuleEnd)))))))) ++ [])

pub returns-clause-text : goal.returns-clause-text
unfolding fixed_text is_keyword
returns-clause-text c = ap around (inverter_text (names_of inverter.vars))
