use Rattle.std.proofs.Common.{rules, ◌≡◌, ◌∙◌, ◌++◌, ◌∷◌, [], Some, map, ap, refl}
use Rattle.scc_plain_look.specs.declared.whole.Task.{Task}
use Rattle.scc_plain_look.specs.Pending.{Later, later, pending}
use Rattle.scc_plain_look.specs.Steps.{seen, here}
use Rattle.scc_plain_look.proofs.Turns.{turned_by}
use Rattle.scc_plain_look.proofs.whole.turn.Goals as goal

pub returns : goal.returns
returns c =
    let g : Task → Later = λ t. later t.list.now t.depth in
    let a : Task = record { list = c.in-Some.next.rest; depth = c.args.task.depth } in
    let b : Task = record { list = c.in_ok-inner.inner.second; depth = c.args.task.depth } in
    let d : Task = record { list = c.in_ok-inner.inner.first; depth = c.in_ok-inner.inner.depth } in
    let one : c.push.new.items.items ≡ c.args.tasks.items ++ a ∷ [] = search rules in
    let two : c.push-2.new.items.items ≡ c.push.new.items.items ++ b ∷ [] = search rules in
    let three : c.push-3.new.items.items ≡ c.push-2.new.items.items ++ d ∷ [] = search rules in
    let all : c.push-3.new.items.items ≡ ((c.args.tasks.items ++ a ∷ []) ++ b ∷ []) ++ d ∷ [] =
    three ∙ ap (λ xs. xs ++ d ∷ []) (two ∙ ap (λ xs. xs ++ b ∷ []) one) in
    let l : c.args.task.list.now ≡ c.in-Some.next.first.now ∷ c.in-Some.next.rest.now = search rules in
    let h : here c.args.p.now c.args.f.now (seen c.args.p.now c.args.f.now c.in-Some.next.first.now) c.args.task.depth c.args.calls.now ≡ Some c.look_stmt.new.calls = search rules in
    record {
      turned = ap (λ xs. pending c.args.p.now c.args.f.now (map g xs) c.look_stmt.new.calls) all
          ∙ turned_by g c.args.p.now c.args.f.now c.args.tasks.items c.args.task a b d c.in-Some.next.first.now c.args.calls.now c.look_stmt.new.calls l refl h (c.in_ok-inner.ensures.inner c.args.p.now c.args.f.now c.look_stmt.new.calls);
    }
