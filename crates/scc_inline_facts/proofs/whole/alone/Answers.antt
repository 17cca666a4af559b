use Rattle.std.specs.Prelude.{map}
use Rattle.std.proofs.Common.{sym, ◌∙◌, ap}
use Rattle.scc_elab_spec.specs.Numbering.{whole_local}
use Rattle.scc_plain_view.specs.Terms.{extended}
use Rattle.scc_inline_facts.specs.Whole.{base_of, step_of}
use Rattle.scc_inline_facts.proofs.Ending.{ends_in_step, is_base}
use Rattle.scc_inline_facts.proofs.whole.alone.Goals as goal

pub returns-in-Some : goal.returns-in-Some
returns-in-Some c = λ i cs. let x = c.args.left.now in
    c.within.ensures i cs (extended (base_of x.base x.place) (map step_of c.in-Some.field-0-1.now)) ∙ ap (whole_local i cs) (sym (ends_in_step x c.in-Some.field-0-1.now c.in-Some.part.now c.as_slice.result.now c.as_slice.ensures.elements c.in-Some.ensures.cases.0))

pub returns-in-None : goal.returns-in-None
returns-in-None c = λ i cs. let x = c.args.left.now in
    c.local_of.ensures i cs x.place ∙ ap (whole_local i cs) (sym (is_base x c.as_slice.result.now c.as_slice.ensures.elements c.in-None.ensures.cases))
