use Rattle.std.proofs.Common.{◌≡◌, map}
use Rattle.scc_plain_look.specs.Steps.{seen_each}
use Rattle.scc_plain_look.specs.Pending.{later, pending}
use Rattle.scc_plain_look.proofs.whole.look_list.Given as goal

abbrev pub invariant-loop : goal.invariant-loop
invariant-loop l = pending l.p l.f (map (λ t. later t.list.now t.depth) l.tasks.items) l.calls ≡ seen_each l.p l.f l.list 0 l.fn.calls
