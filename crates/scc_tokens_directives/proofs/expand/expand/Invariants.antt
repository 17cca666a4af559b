use Rattle.std.proofs.Common.{◌≡◌, ◌≤◌, ◌+◌, ◌-◌, ◌*◌, length}
use Rattle.scc_tokens_directives.specs.Expand.{body_of, remaining}
use Rattle.scc_tokens_directives.specs.Macros.{expanded, take_events}
use Rattle.scc_tokens_directives.proofs.Expansion.{total, work}
use Rattle.scc_tokens_directives.proofs.expand.expand.Given as goal

abbrev pub invariant-expansions : goal.invariant-expansions
invariant-expansions l = record {
  left : take_events l.place (remaining l.macros l.place l.frames) l.out ≡ expanded l.macros l.place l.fn.name.0 (body_of l.macros l.fn.name.0) l.fn.out;
  deep : length l.frames ≤ l.out.uses;
  few : l.out.uses ≤ 262144;
}

abbrev pub decreases-expansions : goal.decreases-expansions
decreases-expansions l = (262144 - l.out.uses) * (total l.macros + 2) + work l.macros l.frames
