use Rattle.std.proofs.Common.{ap, sym, length, arith}
use Rattle.scc_tokens.proofs.Asking.{short_at}
use Rattle.scc_tokens.proofs.Roots.{finish_is}
use Rattle.scc_tokens.proofs.joining.finish.Goals as goal

pub overflow_cast-end : goal.overflow_cast-end
overflow_cast-end c =
    let short = short_at c.args.sources.now c.args.last c.in-Some.source.now c.requires.short (sym c.in-Some.ensures.element) in
    omega (arith, ap length c.bytes.ensures.bytes)

pub returns : goal.returns
returns c = finish_is c.args.sources.now c.args.last c.args.state.out c.flush.new.self c.in-Some.source.now c.bytes.result.now c.in_ok-flush.ensures.value c.in-Some.ensures.element c.bytes.ensures.bytes
