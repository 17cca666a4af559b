-- The statements of a body as the definitions have them. This project's own.
use Rattle.std.specs.Prelude.{List, ◌++◌, map, Option, Some, None}
use denote.Ref.{Bor}
use Rattle.scc_core.specs.declared.expr.CoreExpr.{CoreExpr}
use Rattle.scc_core.specs.declared.expr.CoreLeft.{CoreLeft}
use Rattle.scc_core_spec.specs.Term.{Left, Pick}
use Rattle.scc_core_spec.specs.Uses.{Act, Use, inside, loads, picked}
use Rattle.scc_core_view.specs.Terms.{taken_of, term_of}
use Rattle.scc_rules_walks.specs.declared.acts.Act.{Act as Said}
use Rattle.scc_rules_walks.specs.Loads.{uses_of}

abbrev pub put_of : Option (Bor CoreLeft) → Option (Left × Pick)
put_of None = None
put_of (Some l) = Some ((taken_of l.now).left, (taken_of l.now).pick)

abbrev pub act_of : Said → Act
act_of a = record { place = a.place; reads = uses_of a.reads.items; writes = put_of a.write }

abbrev pub acts_in : List Said → List Act
acts_in = map act_of

-- what an assignment reads
abbrev pub put_reads : CoreLeft → CoreExpr → List Use
put_reads l e = (inside (taken_of l).left ++ picked (taken_of l).pick) ++ loads (term_of e)
