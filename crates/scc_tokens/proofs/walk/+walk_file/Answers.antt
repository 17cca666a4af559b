use Rattle.std.proofs.Common.{◌∙◌, ◌<◌, ap, sym, subst, length, Ok, IfSome, arith}
use Rattle.std.proofs.lemmas.Result.{err_from_is_err_and}
use Rattle.scc_tokens.specs.Walk.{tokens_at}
use Rattle.scc_tokens.proofs.Walking.{going_begins, going_ready, here_count, going_next, going_inside, step_stops, inside_stops, moves_then, walk_ends}
use Rattle.scc_tokens.proofs.walk.+walk_file.Goals as goal
use Rattle.scc_tokens.proofs.walk.+walk_file.Goals.{in-Some-inside+in_ok-walk_file, in_default}

pub tokens-init : goal.tokens-init
tokens-init g t c =
    going_begins _ _ _ _ _ _ _ _ _ _ _ _ c.requires.room c.requires.few c.requires.number
    (c.len-count.ensures.length ∙ ap (λ o. length (tokens_at o)) c.in-Some.ensures.element) c.new-sides.ensures

pub step-requires-clause-token : goal.step-requires-clause-token
step-requires-clause-token g t c = (going_ready c.tokens.invariant c.tokens-test.true).token_is

pub returns-in_err-taken-clause-value : goal.returns-in_err-taken-clause-value
returns-in_err-taken-clause-value g t c = λ shelf holds.
    let p = err_from_is_err_and c.from_residual.result c.from_residual.ensures.1 in
    rw (p.1, p.2) (step_stops c.tokens.invariant c.tokens-test.true shelf (c.in_err-taken.ensures.reads.earlier shelf holds) c.step.new.names c.step.new.sources c.step.new.known c.step.new.state c.step.new.sides c.in_err-taken.field-0.0 (c.in_err-taken.ensures.value shelf holds))

pub returns-in_err-taken-clause-moves : goal.returns-in_err-taken-clause-moves
returns-in_err-taken-clause-moves g t c =
    let p = err_from_is_err_and c.from_residual.result c.from_residual.ensures.1 in
    rw (p.1, p.2) (moves_then _ _ _ _ _ _ _ _ _ _ _ _ _ _ _ _ _ _ _ c.tokens.invariant.moves
    (record { keeps = c.in_err-taken.ensures.keeps; reads = c.in_err-taken.ensures.reads; grows = c.in_err-taken.ensures.grows; more = c.in_err-taken.ensures.more; told = c.in_err-taken.ensures.told; says = c.in_err-taken.ensures.says; unread = c.in_err-taken.ensures.unread }))

pub returns-in_err-walk_file-clause-value : goal.returns-in_err-walk_file-clause-value
returns-in_err-walk_file-clause-value g t c = λ shelf holds.
    let p = err_from_is_err_and c.from_residual-in_err-walk_file.result c.from_residual-in_err-walk_file.ensures.1 in
    let deep = subst (λ o. IfSome o (λ n. (n < length c.step.new.known) × (0 < c.args.below))) c.in-Some-inside.is c.in_ok-taken.ensures.inside in
    let holds1 = c.in_err-walk_file.ensures.moves.reads.earlier shelf holds in
    rw (p.1, p.2) (inside_stops c.tokens.invariant c.tokens-test.true deep.1 shelf (c.in_ok-taken.ensures.reads.earlier shelf holds1)
    c.step.new.names c.walk_file.new.names c.step.new.sources c.walk_file.new.sources c.step.new.known c.walk_file.new.known c.step.new.state c.walk_file.new.state c.step.new.sides c.in_ok-taken.taken c.in-Some-inside.inner c.in_err-walk_file.field-0.0
    (c.in_ok-taken.ensures.value shelf holds1 ∙ ap (λ o. (record { state = c.step.new.state; asked = record { known = c.step.new.known; sources = c.step.new.sources; names = c.step.new.names }; sides = c.step.new.sides }, Ok (c.in_ok-taken.taken, o))) c.in-Some-inside.is)
    (c.in_err-walk_file.ensures.value shelf holds))

pub returns-in_err-walk_file-clause-moves : goal.returns-in_err-walk_file-clause-moves
returns-in_err-walk_file-clause-moves g t c =
    let p = err_from_is_err_and c.from_residual-in_err-walk_file.result c.from_residual-in_err-walk_file.ensures.1 in
    rw (p.1, p.2) (moves_then _ _ _ _ _ _ _ _ _ _ _ _ _ _ _ _ _ _ _ c.tokens.invariant.moves
    (moves_then _ _ _ _ _ _ _ _ _ _ _ _ _ _ _ _ _ _ _
    (record { keeps = c.in_ok-taken.ensures.keeps; reads = c.in_ok-taken.ensures.reads; grows = c.in_ok-taken.ensures.grows; more = c.in_ok-taken.ensures.more; told = c.in_ok-taken.ensures.told; says = c.in_ok-taken.ensures.says; unread = tt })
    c.in_err-walk_file.ensures.moves))

pub overflow_add-i : goal.overflow_add-i
overflow_add-i g t c =
    let fits = c.len-count.type_inv in
    omega (arith, here_count c.tokens.invariant, c.in_ok-taken.ensures.within)

pub tokens-preserved : goal.tokens-preserved
tokens-preserved g t c =
    elim c.match-inside.branch [
      | in-Some-inside+in_ok-walk_file w ↦
          let deep = subst (λ o. IfSome o (λ n. (n < length c.step.new.known) × (0 < c.args.below))) w.in-Some-inside.is c.in_ok-taken.ensures.inside in
          simp (w.files-is, w.names-is, w.sources-is, w.known-is, w.state-is)
          (going_inside c.tokens.invariant c.tokens-test.true _ _ _ _ _ _ _ _ _ _ _ _ _ _ c.step.new.sides c.in_ok-taken.taken w.in-Some-inside.inner
          (record { keeps = c.in_ok-taken.ensures.keeps; reads = c.in_ok-taken.ensures.reads; grows = c.in_ok-taken.ensures.grows; more = c.in_ok-taken.ensures.more; told = c.in_ok-taken.ensures.told; says = c.in_ok-taken.ensures.says; unread = tt })
          w.in_ok-walk_file.ensures.moves w.in_ok-walk_file.ensures.room c.in_ok-taken.ensures.some deep.1
          (λ shelf holds. c.in_ok-taken.ensures.value shelf holds ∙ ap (λ o. (record { state = c.step.new.state; asked = record { known = c.step.new.known; sources = c.step.new.sources; names = c.step.new.names }; sides = c.step.new.sides }, Ok (c.in_ok-taken.taken, o))) w.in-Some-inside.is)
          w.in_ok-walk_file.ensures.value)
      | in_default w ↦
          simp (w.files-is, w.names-is, w.sources-is, w.known-is, w.state-is)
          (going_next c.tokens.invariant c.tokens-test.true _ _ _ _ _ _ _ c.step.new.sides c.in_ok-taken.taken
          (record { keeps = c.in_ok-taken.ensures.keeps; reads = c.in_ok-taken.ensures.reads; grows = c.in_ok-taken.ensures.grows; more = c.in_ok-taken.ensures.more; told = c.in_ok-taken.ensures.told; says = c.in_ok-taken.ensures.says; unread = tt })
          c.in_ok-taken.ensures.room c.in_ok-taken.ensures.some
          (λ shelf holds. c.in_ok-taken.ensures.value shelf holds ∙ ap (λ o. (record { state = c.step.new.state; asked = record { known = c.step.new.known; sources = c.step.new.sources; names = c.step.new.names }; sides = c.step.new.sides }, Ok (c.in_ok-taken.taken, o))) w.in_default.is))
    ]

pub returns-clause-value : goal.returns-clause-value
returns-clause-value g t c = λ shelf holds.
    let count_is = c.tokens.invariant.count_is in
    sym (c.tokens.invariant.left shelf holds) ∙ walk_ends _ shelf _ _ _ c.tokens.i _ _ (omega arith)

pub returns-clause-room : goal.returns-clause-room
returns-clause-room g t c = c.tokens.invariant.room

pub returns-clause-moves : goal.returns-clause-moves
returns-clause-moves g t c = c.tokens.invariant.moves
