use Rattle.scc_core_view.specs.Programs.{process_of, program_of}
use Rattle.scc_states.proofs.Splitting.{whole_split}
use Rattle.scc_states.proofs.thread.split_known.Goals as goal

pub returns-clause-whole : goal.returns-clause-whole
returns-clause-whole c = λ q knows is. c.cut_thread.ensures.split q (c.a_table_tells_of_whole_threads.ensures c.args.known c.args.c.now c.args.process q knows is)

pub returns-clause-exact : goal.returns-clause-exact
returns-clause-exact c = λ q t n. whole_split (program_of c.args.c.now) c.args.process (process_of q) c.cut_thread.result (c.cut_thread.ensures.split q t) (c.cut_thread.ensures.kept q t n)

pub returns-clause-named : goal.returns-clause-named
returns-clause-named c = λ q knows is n.
    let t = c.a_table_tells_of_whole_threads.ensures c.args.known c.args.c.now c.args.process q knows is in
    whole_split (program_of c.args.c.now) c.args.process (process_of q) c.cut_thread.result (c.cut_thread.ensures.split q t) (c.cut_thread.ensures.kept q t (n.told c.args.known knows))
