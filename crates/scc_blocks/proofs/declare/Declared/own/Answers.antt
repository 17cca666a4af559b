use Rattle.std.proofs.Common.{subst, codes}
use Rattle.scc_blocks.specs.Declaring.{AreTemporaries, own_name}
use Rattle.scc_blocks.proofs.Declaring.{any_then, if_both, on_any, pair_more, temporaries_more}
use Rattle.scc_blocks.proofs.declare.Declared.own.Goals as goal

pub returns-clause-adds : goal.returns-clause-adds
returns-clause-adds c =
    let d = c.exit.new.self in
    on_any c.own_of.result (any_then c.args.self.now c.temporaries.new.self d c.in_ok-temporaries.ensures.adds (any_then c.temporaries.new.self c.pair.new.self d c.in_ok-state.ensures.adds
    (any_then c.pair.new.self c.pair-2.new.self d c.in_ok-counter.ensures.adds c.in_ok-exit.ensures.adds)))

pub returns-clause-own : goal.returns-clause-own
returns-clause-own c cs before =
    let d = c.exit.new.self in
    let names = c.args.names.now in
    let q = c.args.wanted.process.now in
    let a = c.args.wanted.assigned.now in
    let widths = c.args.wanted.temporaries.now in
    let last = any_then c.pair.new.self c.pair-2.new.self d c.in_ok-counter.ensures.adds c.in_ok-exit.ensures.adds in
    let ids = c.in_ok-temporaries.temporaries.items in
    let whole = subst (λ xs. AreTemporaries names q c.args.first widths xs c.temporaries.new.self.vars ids) c.as_slice.ensures.value c.in_ok-temporaries.ensures.numbers in
    if_both c.own_of.result c.own_of.ensures.next c.own_of.ensures.last (λ o next ends. record {
      first = c.args.first;
      behind = before;
      exit = c.in_ok-exit.exit;
      temporaries = ids;
      state = c.in_ok-state.state;
      counter = c.in_ok-counter.counter;
      next = next;
      last = ends;
      is_exit = c.in_ok-exit.ensures.number;
      are_temporaries = temporaries_more names q c.args.first widths a.temporaries.items c.temporaries.new.self d ids (any_then c.temporaries.new.self c.pair.new.self d c.in_ok-state.ensures.adds last) whole;
      as_many = c.in_ok-temporaries.ensures.as_many;
      is_state = pair_more c.pair.new.self d (own_name names q (codes "$$state")) c.args.wanted.widths.state c.in_ok-state.state last c.in_ok-state.ensures.pair;
      is_counter = pair_more c.pair-2.new.self d (own_name names q (codes "$$wait")) c.args.wanted.widths.counter c.in_ok-counter.counter c.in_ok-exit.ensures.adds c.in_ok-counter.ensures.pair;
    })
