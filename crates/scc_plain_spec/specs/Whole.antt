-- Functions of the source whole: initialisers and body without parameters, with the walk over them (ISO C++ [dcl.fct.def], [class.base.init]).
use Rattle.std.specs.Prelude.{ℕ, suc, List, [], ◌∷◌, length, map, Option, Some, None}
use Rattle.scc_base.specs.declared.refusal.Place.{Place}
use Rattle.scc_bits_kinds.specs.declared.kind.Kind.{Kind}
use Rattle.scc_templates_spec.specs.Walk.{Callee}
use Rattle.scc_templates_spec.specs.Walked.{Walked, pure, and_walk}
use Rattle.scc_templates_spec.specs.World.{Owner, File, In, World}
use Rattle.scc_elab_spec.specs.Program as code
use Rattle.scc_templates_spec.specs.Replace.{Bound, hide, replace_all}
use Rattle.scc_templates_spec.specs.Statements.{Stmts, End}
use Rattle.scc_templates_spec.specs.ReplaceBody.{replace_stmts}
use Rattle.scc_templates_spec.specs.Source.{Source, Function, Init, Taken}
use Rattle.scc_plain_spec.specs.Scope.{Answer}
use Rattle.scc_plain_spec.specs.Functions.{Routine}
use Rattle.scc_plain_spec.specs.Meaning.{site_of}
use Rattle.scc_plain_spec.specs.Forms.{Form, Shape}
use Rattle.scc_plain_spec.specs.Room.{Around, Known, Local, Room, Writes, nothing, Numbering, base_number, Step, done, and_step}
use Rattle.scc_plain_spec.specs.Shapes.{Signature, signature, owner_of}
use Rattle.scc_plain_spec.specs.Switch.{start}
use Rattle.scc_plain_spec.specs.Bodies.{body, in_order}
use Rattle.scc_plain_spec.specs.Inits.{init}

-- the parameters are the first local variables
abbrev pub param_local : Taken → Form → Local
param_local q f = record { name = q.name; place = q.place; shape = record { base = f.base; reach = f.reach; vector = f.vector; sizes = [] } }

abbrev pub param_locals : List Taken → List Form → List Local
param_locals (q ∷ qs) (f ∷ fs) = param_local q f ∷ param_locals qs fs
param_locals qs fs = []

-- by their names, the last one first
abbrev pub param_names : ℕ → List Taken → List Known → List Known
param_names n [] ks = ks
param_names n (q ∷ qs) ks = param_names (suc n) qs (record { name = q.name; local = n } ∷ ks)

abbrev pub hide_params : List Taken → Bound → Bound
hide_params [] b = b
hide_params (q ∷ qs) b = hide_params qs (hide q.name b)

abbrev pub stmts_in : Option Stmts → Stmts
stmts_in None = End
stmts_in (Some s) = s

-- what is written of a function
pub record Routed : Type 0 where
  pub routine : Routine
  pub owner : Owner
  pub result : Option Kind
  pub locals : List Local
  pub inits : Writes
  pub body : Writes

pub record Parts : Type 0 where
  pub inits : Writes
  pub body : Writes

module _ (s : Source) (w : World Answer) where
  abbrev pub inits_of : Around → List Known → Bound → List Init → Step Writes
  inits_of a ks b [] = done nothing
  inits_of a ks b (i ∷ is) = in_order (init s w a ks i.place i.name (replace_all b i.args)) (inits_of a ks b is)

  abbrev pub parts_of : Around → List Known → Bound → Function → Step Parts
  parts_of a ks b f = and_step (inits_of a ks b f.inits) (λ x. and_step (body s w a start ks (replace_stmts b (stmts_in f.body))) (λ y. done (record { inits = x; body = y })))

  abbrev pub room_of : Signature → Function → Room
  room_of g f = record { locals = param_locals f.params g.params; calls = 0; lifted = nothing }

  -- a function's parameters and result, its initialisers, and then its body; parameters hide those of templates
  abbrev pub routed : Callee → Routine → Place → Walked Routed
  routed f r p = and_walk (signature s w (owner_of f) r p) (λ g. and_walk (site_of s w (owner_of f) p) (λ at.
      and_walk (parts_of (record { owner = owner_of f; own = at.scope.own; result = g.result }) (param_names 0 r.function.params []) (hide_params r.function.params r.bound) r.function (room_of g r.function)) (λ x.
      pure (record { routine = r; owner = owner_of f; result = g.result; locals = x.room.locals; inits = x.it.inits; body = x.it.body }))))

-- in the program, by the numbers of classes and functions
abbrev pub shape_in : Numbering → Shape → code.Shape
shape_in n s = record { base = base_number n s.base; reach = s.reach; vector = s.vector; sizes = s.sizes }

abbrev pub member_in : Numbering → Local → code.Member
member_in n l = record { name = l.name; place = l.place; shape = shape_in n l.shape }

abbrev pub class_in : Numbering → Owner → Option ℕ
class_in n File = None
class_in n (In c as_given) = Some (n.class c as_given)

abbrev pub function_in : Numbering → Routed → code.Function
function_in n r = record { name = r.routine.function.name; place = r.routine.function.place; class = class_in n r.owner; params = length r.routine.function.params; locals = map (member_in n) r.locals; result = r.result; inits = r.inits n code.End; body = r.body n code.End }
