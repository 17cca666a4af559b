use Rattle.std.proofs.Common.{◌≡◌, ◌<◌, ◌^◌, drop}
use Rattle.scc_tokens_lexer.specs.Number.{digits_value}
use Rattle.scc_tokens_lexer.proofs.number.value_of.Given as goal

abbrev pub invariant-loop-d : goal.invariant-loop-d
invariant-loop-d l = record {
  read : digits_value l.base l.value (drop l.d-index l.digits) ≡ digits_value l.base 0 l.digits;
  fits : l.value < 2 ^ 64;
}
