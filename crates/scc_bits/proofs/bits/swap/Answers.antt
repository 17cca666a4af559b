use Rattle.std.specs.Prelude.{◌*◌, ◌^◌}
use Rattle.std.proofs.Common.{arith, ap, ◌∙◌}
use Rattle.scc_bits.proofs.Parts.{part_within, swapped, replaced_fits, within_128}
use Rattle.scc_bits.proofs.bits.swap.Goals as goal

pub overflow_sub-rest : goal.overflow_sub-rest
overflow_sub-rest c =
    let old = c.put.ensures ∙ ap (λ n. n * 2 ^ c.args.l) c.part.ensures.is in
    omega (arith, part_within c.args.h c.args.l c.args.x c.requires.range.0)

pub overflow_add-result : goal.overflow_add-result
overflow_add-result c =
    let old = c.put.ensures ∙ ap (λ n. n * 2 ^ c.args.l) c.part.ensures.is in
    let new = c.put-2.ensures in
    let is = swapped c.args.h c.args.l c.args.x c.args.y c.requires.range.0 in
    let fits = replaced_fits c.args.width c.args.h c.args.l c.args.x c.args.y c.requires.range.0 c.requires.range.1 c.requires.fits c.requires.part in
    omega (arith, within_128 c.args.width c.requires.width)

pub returns-clause-bits : goal.returns-clause-bits
returns-clause-bits c =
    let old = c.put.ensures ∙ ap (λ n. n * 2 ^ c.args.l) c.part.ensures.is in
    let new = c.put-2.ensures in
    omega (arith, swapped c.args.h c.args.l c.args.x c.args.y c.requires.range.0)

pub returns-clause-fits : goal.returns-clause-fits
returns-clause-fits c =
    let old = c.put.ensures ∙ ap (λ n. n * 2 ^ c.args.l) c.part.ensures.is in
    let new = c.put-2.ensures in
    let is = swapped c.args.h c.args.l c.args.x c.args.y c.requires.range.0 in
    omega (arith, replaced_fits c.args.width c.args.h c.args.l c.args.x c.args.y c.requires.range.0 c.requires.range.1 c.requires.fits c.requires.part)
