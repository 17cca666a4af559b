use Rattle.std.proofs.Common.{arith, refl, ap, sym, subst, ◌∙◌, ◌≡◌, get_or, length, slice_get}
use Rattle.std.proofs.lemmas.Option.{slice_get-get_or, slice_get_read}
use Rattle.scc_blocks.specs.Declaring.{AreTemporaries}
use Rattle.scc_blocks.proofs.Declaring.{any_then, longer, number_next, temporaries_next}
use Rattle.scc_blocks.proofs.declare.Declared.temporaries.Goals as goal

pub loop-width-preserved : goal.loop-width-preserved
loop-width-preserved c =
    let names = c.args.names.now in
    let q = c.args.process.now in
    let first = c.args.first in
    let widths = c.args.widths.now in
    let assigned = c.args.assigned.now in
    let old = c.loop-width.self in
    let new = c.temporary.new.self in
    let ids = c.loop-width.ids.items in
    let more = c.push.new.items.items in
    let id = c.in_ok-id.id in
    let i = c.loop-width.width-index in
    let number = c.loop-width.number in
    let found = c.in-Some.ensures.lookup in
    let is = c.in-Some.is'.now in
    let pushed = c.in_ok-push.ensures.ok in
    let at : c.len.result ≡ length ids = omega arith in (
      c.temporary.ensures.own ∙ c.loop-width.invariant.0,
      any_then c.args.self.now old new c.loop-width.invariant.1 c.in_ok-id.ensures.adds,
      longer ids more id i pushed c.loop-width.invariant.2,
      number_next number c.in_ok-number.number first ids more id c.in_ok-number.ensures c.loop-width.invariant.3 pushed,
      subst (AreTemporaries names q first widths assigned new.vars) (sym pushed) (temporaries_next names q first widths assigned old new ids id number (get_or widths i 0) is c.in_ok-id.ensures.adds
          c.loop-width.invariant.4 c.loop-width.invariant.3 (ap (slice_get widths) c.loop-width.invariant.2 ∙ slice_get-get_or widths i 0 (omega arith))
          (ap (slice_get assigned) (sym at) ∙ slice_get_read assigned (length assigned) c.len.result is refl found.3.0 found.1) c.in_ok-id.ensures.number),
    )
