use Rattle.std.proofs.Common.{◌≡◌, sym, ap, subst}
use Rattle.scc_core_view.specs.Codes.{code_of}
use Rattle.scc_pointers_spec.specs.Freed.{freed}
use Rattle.scc_pointers_walk.specs.Led.{Gives}
use Rattle.scc_pointers_laws.specs.Ready.{IsFresh}
use Rattle.scc_pointers_laws.proofs.Ready.{fresh_leads}
use Rattle.scc_pointers.proofs.pass.new_body.Goals as goal

pub returns-clause-freed : goal.returns-clause-freed
returns-clause-freed c = λ ready.
    let e = c.new-r.ensures in
    let r = c.new-r.result in
    let fresh : IsFresh c.args.known c.args.places.now c.args.vectors.now r = record { known = e.known; places = ap (λ x. x.now) e.places; vectors = ap (λ x. x.now) e.vectors; local = e.local } in
    subst (λ l. Gives code_of c.resolved_stmts.result (freed l (code_of c.args.body.now))) (fresh_leads c.args.known c.args.places.now c.args.vectors.now r fresh)
    (c.resolved_stmts.ensures.freed (ready r fresh).1 (ready r fresh).0)
