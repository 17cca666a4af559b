use Rattle.std.proofs.Common.{◌≡◌, ◌+◌, ◌≤◌, length, drop}
use Rattle.scc_tokens_directives.specs.File.{ends_open, first_unclosed}
use Rattle.scc_tokens_directives.proofs.file.first_unclosed.Given as goal

abbrev pub invariant-lines : goal.invariant-lines
invariant-lines l = record {
  within : l.i ≤ length l.tokens;
  few : l.ends + l.i ≤ length l.tokens;
  counted : l.ends ≡ ends_open l.words (drop l.i l.tokens);
  found : l.unclosed ≡ first_unclosed l.words (drop l.i l.tokens);
}

abbrev pub decreases-lines : goal.decreases-lines
decreases-lines l = l.i
