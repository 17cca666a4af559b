-- Values that the checker computes.
use Rattle.std.specs.Prelude.{true, false, [], None}
use Rattle.scc_base.specs.declared.refusal.Place.{Place}
use Rattle.scc_bits_kinds.specs.declared.kind.Kind.{Kind}
use Rattle.scc_bits_kinds.specs.declared.kind.Kind.TheVariants as kind
use Rattle.scc_bits_kinds.specs.declared.op.Op.TheVariants as op
use Rattle.scc_base.specs.declared.code.Code.TheVariants as reason
use Rattle.scc_templates_spec.specs.Walked.{fault}
use Rattle.scc_templates_spec.specs.World.{World, File}
use Rattle.scc_elab_spec.specs.Term.{Literal, Load, Binary, Local}
use Rattle.scc_templates_spec.specs.Source.{Source}
use Rattle.scc_plain_spec.specs.Scope.{Answer}
use Rattle.scc_plain_spec.specs.Room.{Around}
use Rattle.scc_plain_spec.specs.Drafts.{Draft, drafted}

abbrev pub here : Place
here = record { file = 0; at = 0 }

-- local 0 of a kind
abbrev pub loaded : Kind → Draft
loaded k = drafted here (Load here k (Local here 0))

-- local 0, an `int`, and the `sc_uint<8>` 1
abbrev pub sum : Draft
sum = drafted here (Binary here (kind.Native 64 false) op.Add (Load here (kind.Native 32 true) (Local here 0)) (Literal here (kind.Uint 8) 1))

-- a source without declarations, in which nothing is asked for, and a body of it
abbrev pub nowhere : Source
nowhere = record { items = []; end = here }

abbrev pub unasked : World Answer
unasked k p = fault reason.UnknownName p

abbrev pub around : Around
around = record { owner = File; own = []; result = None }
