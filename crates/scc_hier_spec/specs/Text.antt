-- The text of modules with instances (IEEE 1800-2017, 23.3.2.2): one module after another, each with its instances behind its declarations.
use Rattle.std.specs.Prelude.{◌≡◌, ℕ, Bool, false, List, [], ◌∷◌, ◌++◌, flat_map, codes, Option, slice_get, option_map, unwrap_or, map}
use Rattle.scc_svtree.specs.declared.module.SvModule.{SvModule}
use Rattle.scc_svtree.specs.declared.module.SvVar.{SvVar}
use Rattle.scc_svtree.specs.Sound.{IsSound}
use Rattle.scc_svtext.specs.declared.fixed.Fixed.TheVariants as piece
use Rattle.scc_svtext.specs.Fixed.{fixed_text}
use Rattle.scc_svtext.specs.Pieces.{spelled, name_at}
use Rattle.scc_svtext.specs.ModuleText.{names_of, ports_text, decl_text, block_text}
use Rattle.scc_hier_text.specs.declared.tree.Hier.{Hier}
use Rattle.scc_hier_text.specs.declared.tree.HierModule.{HierModule}
use Rattle.scc_hier_text.specs.declared.tree.Instance.{Instance}
use Rattle.scc_hier_spec.specs.Flattened.{IsWhole, IsFlattening, ports_of}
use Rattle.scc_hier_spec.specs.Sound.{AreSound}

abbrev pub comma_if : List ℕ → List ℕ
comma_if [] = []
comma_if (x ∷ xs) = fixed_text piece.Comma

-- `.port(wire), .port(wire)`
abbrev pub wires_text : List (List ℕ) → List SvVar → List ℕ → List ℕ
wires_text names (p ∷ ps) (w ∷ ws) = codes "." ++ (spelled p.name ++ (codes "(" ++ (name_at names w ++ (codes ")" ++ (comma_if ws ++ wires_text names ps ws)))))
wires_text names ps ws = []

abbrev pub name_of : Option HierModule → List ℕ
name_of m = unwrap_or (option_map (λ m. m.name) m) []

abbrev pub ports_at : Option HierModule → List SvVar
ports_at m = unwrap_or (option_map ports_of m) []

-- a line: the module, the instance's name, and its wires
abbrev pub instance_text : Hier → List (List ℕ) → Instance → List ℕ
instance_text h names i = let inner = slice_get h.modules i.«module» in
    codes "  " ++ (spelled (name_of inner) ++ (codes " " ++ (spelled i.name ++ (codes " (" ++ (wires_text names (ports_at inner) (map (λ w. w.0) i.wires) ++ fixed_text piece.PortsClose)))))

abbrev pub hier_module_text : Hier → HierModule → List ℕ
hier_module_text h m = fixed_text piece.Module ++ (spelled m.name ++ (fixed_text piece.PortsOpen ++ (ports_text false m.vars ++ (fixed_text piece.PortsClose
    ++ (flat_map decl_text m.vars ++ (flat_map (instance_text h (names_of m.vars)) m.instances ++ (flat_map (block_text m.vars (names_of m.vars)) m.blocks ++ fixed_text piece.ModuleEnd)))))))

abbrev pub hier_text : Hier → List ℕ
hier_text h = flat_map (hier_module_text h) h.modules

-- The bytes are the text of modules that are right by themselves, each with a name of its own, and that can be flattened; and their flattening has no wrong sizes,
-- names, drivers or cycles.
pub record HierReads (many : Bool) (bytes : List ℕ) (h : Hier) : Type 0 where
  pub modules : AreSound h
  pub whole : IsWhole h
  pub flat : SvModule
  pub flattens : IsFlattening h flat
  pub sound : IsSound many flat
  pub text : bytes ≡ hier_text h
