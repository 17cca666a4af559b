-- The plain program that a tree stands for. This project's own.
use Rattle.std.specs.Prelude.{map}
use Rattle.scc_plain_tree.specs.declared.program.Plain.{Plain as Tree}
use Rattle.scc_plain_tree.specs.declared.program.PlainClass.{PlainClass}
use Rattle.scc_plain_tree.specs.declared.program.PlainFunction.{PlainFunction}
use Rattle.scc_plain_tree.specs.declared.program.PlainMember.{PlainMember}
use Rattle.scc_plain_tree.specs.declared.program.Shape.{Shape as Form}
use Rattle.scc_plain_tree.specs.declared.program.Reach.{Reach as Way}
use Rattle.scc_plain_tree.specs.declared.program.Reach.TheVariants as way
use Rattle.scc_elab_spec.specs.Program.{Plain, Class, Function, Member, Shape, Reach}
use Rattle.scc_elab_spec.specs.Program as plain
use Rattle.scc_plain_view.specs.Codes.{base_of, code_of}

abbrev pub reach_of : Way → Reach
reach_of way.Direct = plain.Direct
reach_of way.Pointer = plain.Pointer
reach_of way.Reference = plain.Reference

abbrev pub shape_of : Form → Shape
shape_of s = record { base = base_of s.base; reach = reach_of s.reach; vector = s.vector; sizes = s.sizes }

abbrev pub member_of : PlainMember → Member
member_of m = record { name = m.name.0; place = m.place; shape = shape_of m.shape }

abbrev pub class_of : PlainClass → Class
class_of c = record { name = c.name.0; place = c.place; is_module = c.module; members = map member_of c.members; constructor = c.constructor }

abbrev pub function_of : PlainFunction → Function
function_of f = record {
  name = f.name.0;
  place = f.place;
  class = f.class;
  params = f.params;
  locals = map member_of f.locals;
  result = f.result;
  inits = code_of f.inits;
  body = code_of f.body;
}

abbrev pub plain_of : Tree → Plain
plain_of t = record { classes = map class_of t.classes; functions = map function_of t.functions; top = t.top }
