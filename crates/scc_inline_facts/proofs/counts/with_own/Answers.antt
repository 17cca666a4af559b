use Rattle.scc_inline_size_laws.specs.Counts.{level}
use Rattle.scc_plain_view.specs.Plains.{function_of, plain_of}
use Rattle.scc_inline_facts.specs.Parted.{calls_height, calls_size, declares_size}
use Rattle.scc_inline_facts.proofs.Counted.{own_ok}
use Rattle.scc_inline_facts.proofs.counts.with_own.Goals as goal

pub returns : goal.returns
returns c = λ sizes heights agrees. own_ok c.with_called.result c.args.before c.plus-own.result c.with_declared-declared.result c.args.depth c.args.parts.now.own
    (declares_size (function_of c.args.s.now.function.now) c.args.parts.now.declares) (calls_size sizes (plain_of c.args.s.now.plain.now) c.args.parts.now.calls)
    (level c.args.parts.now.own) (level (declares_size (function_of c.args.s.now.function.now) c.args.parts.now.declares)) (calls_height heights (plain_of c.args.s.now.plain.now) c.args.parts.now.calls)
    c.plus-own.ensures c.with_declared-declared.ensures (c.with_called.ensures sizes heights agrees)
