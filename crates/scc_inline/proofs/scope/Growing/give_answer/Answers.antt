use Rattle.std.proofs.Common.{Some}
use Rattle.scc_inline.proofs.Naming.{answer_ok}
use Rattle.scc_inline.proofs.scope.Growing.give_answer.Goals as goal

pub returns-in_ok-cell-in-Some-clause-names : goal.returns-in_ok-cell-in-Some-clause-names
returns-in_ok-cell-in-Some-clause-names c = λ p f front cs i roots is fresh st. answer_ok c.note_answer.result c.args.self.now c.add_answer.new.self
    (record { this = c.args.child.now.this; locals = c.args.child.now.locals; numbers = c.args.child.now.numbers; pointed = c.args.child.now.pointed; answer = Some c.in_ok-cell-in-Some.cell; answers = c.args.child.now.answers; loops = c.args.child.now.loops })
    c.args.callee.now c.in-Some.kind c.in-Some.is c.in_ok-cell-in-Some.ensures.answers p f front cs i roots is fresh
    (record { number = st.number; cells = st.cells; next = st.next; given = st.given; free = st.free; numbers = st.numbers })
