-- Objects of classes by their paths. This project's own.
use Rattle.std.specs.Prelude.{◌≡◌, ℕ, zero, suc, Bool, true, false, List, [], ◌∷◌, ◌++◌, map, length, take, Option, Some, None}
use Rattle.scc_base.specs.declared.path.PathPart.{PathPart}
use Rattle.scc_core.specs.declared.places.NameStep.{NameStep}
use Rattle.scc_core.specs.Names.{step_of}
use Rattle.scc_core.specs.Tables.{IsTree, under, cell_in, or_else, when, same_list}
use Rattle.scc_elab_design.specs.declared.Object.{Object}
use Rattle.scc_elab_design.specs.declared.ObjectNode.{ObjectNode}
use Rattle.scc_elab_design.specs.declared.ObjectNode.TheVariants as node
use Rattle.scc_elab_spec.specs.Design.{Object as Made, class_of}
use Rattle.scc_inline_cells.specs.declared.homes.Home.{Home}
use Rattle.scc_inline_cells.specs.declared.homes.Homes.{Homes}

-- the class of an object at a path
abbrev pub class_here : List NameStep → List PathPart → ObjectNode → Option ℕ
class_here ss path (node.Module c) = when (same_list ss (map step_of path ++ [])) c
class_here ss path (node.Port k output root) = None
class_here ss path (node.Signal k) = None
class_here ss path (node.Variable k value) = None
class_here ss path (node.Pointer to) = None

-- the class of the first object of a class at a path
abbrev pub class_from : List NameStep → List Object → Option ℕ
class_from ss [] = None
class_from ss (o ∷ os) = or_else (class_here ss o.path o.node) (class_from ss os)

pub record AreHomes (h : Homes) (os : List Object) : Type 0 where
  pub tree : IsTree h.places
  pub classes : (ss : List NameStep) → under cell_in h.places ss ≡ class_from ss os

pub record AddsHome (old new : Homes) (o : Object) : Type 0 where
  pub tree : IsTree new.places
  pub classes : (ss : List NameStep) → under cell_in new.places ss ≡ or_else (under cell_in old.places ss) (class_here ss o.path o.node)

abbrev pub or_home : ℕ → Option ℕ → Option Home → Option Home
or_home k (Some c) other = Some (record { at = k; class = c })
or_home k None other = other

-- the innermost of the objects of classes whose paths are one of the first k front parts of a path
abbrev pub deepest : List Object → List PathPart → ℕ → Option Home
deepest os q zero = None
deepest os q (suc k) = or_home k (class_from (map step_of (take k q)) os) (deepest os q k)

-- an object of the definitions is that home
abbrev pub IsHome : Option Made → Option Home → Type 0
IsHome None None = Unit {0}
IsHome (Some o) (Some h) = (length o.path ≡ h.at) × (class_of o.node ≡ Some h.class)
IsHome o h = ⊥
