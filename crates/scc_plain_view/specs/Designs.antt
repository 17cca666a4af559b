-- The design of the definitions that a design stands for. This project's own.
use Rattle.std.specs.Prelude.{Bool, true, false, List, map, option_map}
use Rattle.scc_base.specs.declared.path.PathPart.{PathPart}
use Rattle.scc_base.specs.declared.path.PathPart.TheVariants as path_part
use Rattle.scc_elab_design.specs.declared.Design.{Design as Left}
use Rattle.scc_elab_design.specs.declared.Object.{Object as Standing}
use Rattle.scc_elab_design.specs.declared.ObjectNode.{ObjectNode}
use Rattle.scc_elab_design.specs.declared.ObjectNode.TheVariants as node
use Rattle.scc_elab_design.specs.declared.Process.{Process as Running}
use Rattle.scc_elab_design.specs.declared.Sort.{Sort}
use Rattle.scc_elab_design.specs.declared.Sort.TheVariants.{Method, Thread}
use Rattle.scc_elab_design.specs.declared.Edge.{Edge as Clocked}
use Rattle.scc_elab_design.specs.declared.Reset.{Reset as Started}
use Rattle.scc_elab_design.specs.declared.Target.{Target as Led}
use Rattle.scc_elab_design.specs.declared.VectorSize.{VectorSize as Sized}
use Rattle.scc_semantics.specs.Location.{Part}
use Rattle.scc_semantics.specs.Location as location
use Rattle.scc_elab_spec.specs.Design.{Design, Object, Node, Process, Edge, Reset, Target, VectorSize}
use Rattle.scc_elab_spec.specs.Design as design

abbrev pub part_of : PathPart → Part
part_of (path_part.Member n) = location.Member n.0
part_of (path_part.Index i) = location.Element i

abbrev pub path_of : List PathPart → List Part
path_of = map part_of

abbrev pub node_of : ObjectNode → Node
node_of (node.Module c) = design.Module c
node_of (node.Port k output root) = design.Port k output root
node_of (node.Signal k) = design.Signal k
node_of (node.Variable k w) = design.Variable k w.bits
node_of (node.Pointer to) = design.Pointer to

abbrev pub object_of : Standing → Object
object_of o = record { path = path_of o.path; place = o.place; node = node_of o.node }

abbrev pub is_thread : Sort → Bool
is_thread Method = false
is_thread Thread = true

abbrev pub edge_of : Clocked → Edge
edge_of e = record { root = e.root; rising = e.rising }

abbrev pub reset_of : Started → Reset
reset_of r = record { root = r.root; level = r.level; asynchronous = r.asynchronous }

abbrev pub process_of : Running → Process
process_of p = record {
  object = p.object;
  function = p.function;
  place = p.place;
  is_thread = is_thread p.sort;
  senses = p.senses;
  edge = option_map edge_of p.edge;
  reset = option_map reset_of p.reset;
}

abbrev pub target_of : Led → Target
target_of t = record { object = t.object; path = path_of t.path }

abbrev pub vector_of : Sized → VectorSize
vector_of v = record { path = path_of v.path; size = v.size }

abbrev pub design_of : Left → Design
design_of d = record {
  objects = map object_of d.objects;
  processes = map process_of d.processes;
  targets = map target_of d.targets;
  vectors = map vector_of d.vectors;
}
