use Rattle.std.proofs.Common.{refl, ap, subst, ◌∙◌, ◌++◌, ◌∷◌, []}
use Rattle.scc_blocks.specs.Declaring.{AddsInner, AreBefore, wants_of}
use Rattle.scc_blocks.proofs.Declaring.{inner_same, inner_then}
use Rattle.scc_blocks.proofs.declare.Declared.process.Goals as goal

pub returns-clause-adds : goal.returns-clause-adds
returns-clause-adds c =
    let ws = wants_of c.args.names.now c.args.c.now.cells in
    let d = c.own.new.self in
    inner_same ws c.args.self.now d (record { vars = d.vars; cells = d.cells; own = c.push.new.items }) refl refl
    (inner_then ws c.args.self.now c.locals.new.self d (subst (λ cs. AddsInner (wants_of c.args.names.now cs) c.args.self.now c.locals.new.self) c.as_slice-cells.ensures.elements c.in_ok-locals.ensures.adds) (c.in_ok-own.ensures.adds ws))

pub returns-clause-own : goal.returns-clause-own
returns-clause-own c = (
  c.in_ok-own.own,
  c.in_ok-push.ensures.ok ∙ ap (λ xs. xs ++ c.in_ok-own.own ∷ []) (c.own.ensures.others ∙ c.locals.ensures.own),
  c.in_ok-own.ensures.own c.args.c.now.cells (subst (λ cs. AreBefore cs c.args.wanted.locals.now c.in_ok-first.first) c.as_slice-cells.ensures.elements c.in_ok-first.ensures),
)
