use Rattle.std.proofs.Common.{◌≡◌, Option, Some, sym, ◌∙◌}
use Rattle.std.proofs.lemmas.Result.{IfOk-weaker}
use Rattle.scc_bits.specs.Value.{Number}
use Rattle.scc_lower_expressions.specs.Becoming.{IsNumber, given_of}
use Rattle.scc_lower_expressions.proofs.Leaves.{literal-number, known-number}
use Rattle.scc_lower_expressions.proofs.expr.known_leaf.Goals as goal

pub returns-in-Lit : goal.returns-in-Lit
returns-in-Lit c =
    let P : Option Number → Type 0 = λ o. (v : Number) × (o ≡ Some v) × (v.kind ≡ c.args.e.now.kind) × (v.word ≡ c.in-Lit.word.bits) in
    let Q : Option Number → Type 0 = λ o. IsNumber (given_of c.args.cells) c.args.e.now o in
    IfOk-weaker c.number.result P Q
    (λ o k. literal-number (given_of c.args.cells) c.args.e.now c.in-Lit.word o (sym c.get.ensures.value ∙ c.in-Lit.is) k)
    c.number.ensures

pub returns-in-Load : goal.returns-in-Load
returns-in-Load c = known-number (given_of c.args.cells) c.args.e.now c.value.result c.value.ensures.known

pub returns-in-Pick : goal.returns-in-Pick
returns-in-Pick c = known-number (given_of c.args.cells) c.args.e.now c.value-in-Pick.result c.value-in-Pick.ensures.known

pub returns-in-Join : goal.returns-in-Join
returns-in-Join c = known-number (given_of c.args.cells) c.args.e.now c.value-in-Join.result c.value-in-Join.ensures.known
