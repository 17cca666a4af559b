use Rattle.std.proofs.Common.{◌≡◌, ◌<◌, ◌≤◌, arith, length, map, subst}
use Rattle.std.proofs.lemmas.List.{take_all}
use Rattle.scc_core.specs.Names.{step_of}
use Rattle.scc_core.specs.Tables.{AddsVector, IsTable}
use Rattle.scc_core.proofs.Trees.{vectors_more}
use Rattle.scc_core.proofs.places.Places.fill_vectors.Goals as goal

pub loop-v-preserved : goal.loop-v-preserved
loop-v-preserved c = λ cells t.
    let i : c.loop-v.v-index < length c.args.vectors.now = omega arith in
    let a = c.loop-v.invariant cells t in
    vectors_more c.loop-v.self c.add_vector.new.self cells c.args.vectors.now c.loop-v.v-index c.v-item.result i c.v-item.is a (subst (λ l. AddsVector c.loop-v.self c.add_vector.new.self (map step_of l) c.v-item.result.size) c.as_slice.ensures.parts (c.in_ok-add_vector.ensures a.tree))

pub returns : goal.returns
returns c = λ cells t. subst (IsTable c.loop-v.self cells) (take_all c.loop-v.v-index c.args.vectors.now (omega arith)) (c.loop-v.invariant cells t)
