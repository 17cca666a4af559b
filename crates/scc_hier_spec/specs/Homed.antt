-- Which module objects a design has, and in which of them each block of its module stands (IEEE 1666-2011, 5.2.9; where a block stands is this project's own).
-- It stands in the module object around the object whose constructor declared the block's process.
use Rattle.std.specs.Prelude.{◌≡◌, ℕ, zero, suc, nat_eq, Bool, false, ◌||◌, List, [], ◌∷◌, ◌++◌, map, filter, filter_map, flat_map, take, drop, position, length, Option, Some, None, option_map, option_and_then, slice_get, unwrap_or, is_some, if◌then◌else◌}
use Rattle.std.specs.List.{range_with_len}
use Rattle.scc_semantics.specs.Location.{Part, same_path}
use Rattle.scc_svtree.specs.declared.module.SvModule.{SvModule}
use Rattle.scc_core_spec.specs.Program as core
use Rattle.scc_core_spec.specs.Feeding.{IsOrder, of_process}
use Rattle.scc_core_spec.specs.Constants.{path_text}
use Rattle.scc_elab_spec.specs.Program.{Plain}
use Rattle.scc_elab_spec.specs.Design.{Design, Object, Node, Module, Port, Signal, Variable, Pointer, class_of}
use Rattle.scc_elab_spec.specs.Cells.{path_of}
use Rattle.scc_hier_text.specs.declared.tree.Hier.{Hier}
use Rattle.scc_hier_spec.specs.Homes.{IsSplitUp, closed}
use Rattle.scc_hier_spec.specs.Ports.{Named, ArePorted}

-- The top, and objects of classes that are derived from `sc_module`. Objects of other classes are parts of the module object around them.
abbrev pub is_module_object : Plain → Object → Bool
is_module_object p o = nat_eq (length o.path) 0 || unwrap_or (option_map (λ c. c.is_module) (option_and_then (slice_get p.classes) (class_of o.node))) false

-- the top first, then the others in construction order
abbrev pub module_objects : Plain → Design → List Object
module_objects p d = filter (is_module_object p) d.objects

abbrev pub number_of : List Object → List Part → Option ℕ
number_of os path = position (λ o. same_path o.path path) os

-- the paths of the module objects, as they are written
abbrev pub paths_of : (ℕ → List ℕ) → Plain → Design → List (List ℕ)
paths_of text p d = map (λ o. path_text text o.path) (module_objects p d)

-- For each block its process, None for that of the outputs that are constant: the combinational methods in their order, then two blocks for each clocked process.
abbrev pub clocked : core.Program → List ℕ
clocked c = filter (of_process false (λ q. is_some q.edge) c) (range_with_len 0 (length c.processes))

abbrev pub processes_of : core.Program → (order : List ℕ) → Bool → List (Option ℕ)
processes_of c order constants = (if constants then None ∷ [] else []) ++ (map Some order ++ flat_map (λ i. Some i ∷ Some i ∷ []) (clocked c))

-- the module object around a path: that whose path is the longest front part of it, of so many parts at most
abbrev pub around : List Object → List Part → ℕ → ℕ
around os path zero = unwrap_or (number_of os []) 0
around os path (suc n) = unwrap_or (number_of os (take (suc n) path)) (around os path n)

-- the module object of a process: that of its object, which is a module object itself or a part of one
abbrev pub home_in : Plain → Design → Option ℕ → ℕ
home_in p d None = 0
home_in p d (Some i) = unwrap_or (option_map (λ q. let path = path_of d q.object in around (module_objects p d) path (length path)) (slice_get d.processes i)) 0

-- The paths and homes are those of a design, by its core and its module: as many blocks, and each at home in the object of its process.
pub record AreHomesOf (text : ℕ → List ℕ) (p : Plain) (d : Design) (c : core.Program) (m : SvModule) (paths : List (List ℕ)) (homes : List ℕ) : Type 0 where
  pub objects : paths ≡ paths_of text p d
  pub order : List ℕ
  pub ordered : IsOrder c order
  pub constants : Bool
  pub as_many : length m.blocks ≡ length (processes_of c order constants)
  pub homed : homes ≡ map (home_in p d) (processes_of c order constants)

-- the path of the module object around a path
abbrev pub home_path : Plain → Design → List Part → List Part
home_path p d path = unwrap_or (option_map (λ o. o.path) (slice_get (module_objects p d) (around (module_objects p d) path (length path)))) []

abbrev pub port_named : (ℕ → List ℕ) → (home path root : List Part) → Named
port_named text home path root = record { home = closed (path_text text home); name = path_text text (drop (length home) path); variable = path_text text root }

abbrev pub named_port : (ℕ → List ℕ) → Plain → Design → Object → Node → Option Named
named_port text p d o (Port kind output root) = Some (port_named text (home_path p d o.path) o.path (path_of d root))
named_port text p d o (Module c) = None
named_port text p d o (Signal kind) = None
named_port text p d o (Variable kind word) = None
named_port text p d o (Pointer target) = None

-- the ports of a design's module objects, in construction order, as they are written
abbrev pub named_ports : (ℕ → List ℕ) → Plain → Design → List Named
named_ports text p d = filter_map (λ o. named_port text p d o o.node) d.objects

-- The modules are a design's module split up by its module objects.
pub record IsSplitByObjects (text : ℕ → List ℕ) (p : Plain) (d : Design) (c : core.Program) (m : SvModule) (h : Hier) : Type 0 where
  pub paths : List (List ℕ)
  pub homes : List ℕ
  pub of_design : AreHomesOf text p d c m paths homes
  pub splits : IsSplitUp m paths homes h
  pub ported : ArePorted (named_ports text p d) m h
