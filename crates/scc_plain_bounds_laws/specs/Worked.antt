-- Programs of one function that break a part of the test each: an exit of no block, a value without a result, two calls of one number, an object of its own, a local that isn't there, and a
-- member of a number.
use Rattle.std.specs.Prelude.{List, [], ◌∷◌, Some, None}
use Rattle.scc_elab_spec.specs.Program.{OfClass, Number, Code, End, Declare, Point, Call, Exit, Return, Plain, Member}
use Rattle.scc_elab_spec.specs.Term.{Local, Null}
use Rattle.scc_elab_spec.specs.Term as term
use Rattle.scc_elab_spec.specs.Worked.{here, int, member, number}

abbrev pub alone : List Member → Code → Plain
alone locals body = record { top = 0; functions = record { name = 90; place = here; class = None; params = 0; locals = locals; result = None; inits = End; body = body } ∷ []; classes = [] }

abbrev pub exiting : Plain
exiting = alone [] (Exit here 0 End)

abbrev pub valued : Plain
valued = alone [] (Return here (Some (number 1)) End)

abbrev pub doubled : Plain
doubled = alone [] (Call here 0 0 None [] (Call here 0 1 None [] End))

abbrev pub owning : Plain
owning = alone (member 91 (OfClass 0) ∷ []) End

-- `n.m = nullptr` of a local number
abbrev pub membered : Plain
membered = alone (member 91 (Number int) ∷ []) (Point here (term.Member (Local here 0) 0) Null End)

abbrev pub undeclared : Plain
undeclared = alone [] (Declare here 0 End)
