use Rattle.std.proofs.Common.{ap, sym, subst, map, string_bytes}
use Rattle.scc_tokens.specs.Files.{AllShort, HoldsAll, shelf_of}
use Rattle.scc_tokens.specs.Join.{JoinSays, fault_halt}
use Rattle.scc_tokens_directives.specs.declared.halt.Halt.TheVariants as halt
use Rattle.scc_tokens.proofs.Joins.{words_are, join_is, somewhere_by, somewhere_none, unread_missing, unread_failed}
use Rattle.scc_tokens.proofs.joining.join.Goals as goal

pub returns-clause-joined : goal.returns-clause-joined
returns-clause-joined g c = λ shelf holds.
    subst (JoinSays shelf c.join_roots-answer.new.names c.join_roots-answer.new.sources c.end_of.result)
    (join_is shelf c.args.names.now c.new.new.names c.in_ok-words.words (map string_bytes c.args.roots.now) c.in_ok-state.state c.new-known.result c.args.sources.now c.in_ok-state.ensures c.new-known.ensures.empty c.requires.empty
    (words_are c.new.new.names c.in_ok-words.words c.has.ensures.differ c.in_ok-words.ensures.words) c.in_ok-words.ensures.names)
    (c.end_of.ensures.value shelf c.join_roots-answer.new.known _ _ (c.join_roots-answer.ensures.value shelf holds))

pub returns-in_err-words-clause-somewhere : goal.returns-in_err-words-clause-somewhere
returns-in_err-words-clause-somewhere g c = somewhere_none _ _ c.requires.empty

pub returns-in_err-state-clause-somewhere : goal.returns-in_err-state-clause-somewhere
returns-in_err-state-clause-somewhere g c = somewhere_none _ _ c.requires.empty

pub returns-clause-somewhere : goal.returns-clause-somewhere
returns-clause-somewhere g c =
    somewhere_by c.join_roots-answer.new.sources c.end_of.result
    (c.join_roots-answer.ensures.reads.differ (subst (λ l. HoldsAll (shelf_of l) l) (sym c.requires.empty) tt))
    (c.join_roots-answer.ensures.reads.short (subst AllShort (sym c.requires.empty) tt))
    (λ n e. unread_missing _ _ n (c.end_of.ensures.says (halt.Missing n) (ap fault_halt e)) c.join_roots-answer.ensures.unread)
    (λ n e. unread_failed _ _ n (c.end_of.ensures.says (halt.Failed n) (ap fault_halt e)) c.join_roots-answer.ensures.unread)

pub returns-clause-short : goal.returns-clause-short
returns-clause-short g c = c.join_roots-answer.ensures.reads.short (subst AllShort (sym c.requires.empty) tt)

pub returns-clause-kept : goal.returns-clause-kept
returns-clause-kept g c = c.join_roots-answer.ensures.says.kept

pub returns-clause-no_fewer_misses : goal.returns-clause-no_fewer_misses
returns-clause-no_fewer_misses g c = c.join_roots-answer.ensures.says.misses

pub returns-clause-no_fewer_faults : goal.returns-clause-no_fewer_faults
returns-clause-no_fewer_faults g c = c.join_roots-answer.ensures.says.faults

pub returns-clause-missing : goal.returns-clause-missing
returns-clause-missing g c = λ n e. c.join_roots-answer.ensures.says.missing n (c.end_of.ensures.says (halt.Missing n) (ap fault_halt e))

pub returns-clause-absent : goal.returns-clause-absent
returns-clause-absent g c = λ n e. c.join_roots-answer.ensures.says.absent n (c.end_of.ensures.says (halt.Missing n) (ap fault_halt e))

pub returns-clause-failed : goal.returns-clause-failed
returns-clause-failed g c = λ n e. c.join_roots-answer.ensures.says.failed n (c.end_of.ensures.says (halt.Failed n) (ap fault_halt e))
