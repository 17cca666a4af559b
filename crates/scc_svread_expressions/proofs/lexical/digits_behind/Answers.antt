use Rattle.std.proofs.Common.{◌∙◌, sym, arith}
use Rattle.scc_svread_grammar.proofs.Lengths.{digits_bound, digits_found, digits_missing, run_bound}
use Rattle.scc_svread_grammar.specs.Lexical.{is_hex_digit}
use Rattle.scc_svread_expressions.proofs.lexical.digits_behind.Goals as goal

pub split_at-requires : goal.split_at-requires
split_at-requires c = digits_bound c.bytes.result.now c.args.ts.now c.in-Some.count c.hex_len-run.result c.hex_len-run.ensures c.in-Some.ensures

pub returns-in-Some : goal.returns-in-Some
returns-in-Some c = rw (c.in_ok-digits-in-Some.ensures, c.split_at.ensures.front, c.split_at.ensures.back)
    (digits_found c.args.width c.bytes.result.now c.args.ts.now c.in-Some.count c.hex_len-run.result c.bytes.ensures.bytes c.hex_len-run.ensures c.in-Some.ensures)

pub overflow_sub-result : goal.overflow_sub-result
overflow_sub-result c = omega (arith, c.hex_len-run.ensures, run_bound is_hex_digit c.args.ts.now)

pub returns : goal.returns
returns c = digits_missing c.args.width c.bytes.result.now c.args.ts.now c.hex_len-run.result c.bytes.ensures.bytes c.hex_len-run.ensures (sym c.in-None.is ∙ c.enough.ensures)
