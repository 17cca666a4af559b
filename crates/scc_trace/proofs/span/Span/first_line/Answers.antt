use Rattle.std.proofs.Common.{refl}
use Rattle.scc_trace.proofs.Cuts.{cut_last, cut_more}
use Rattle.scc_trace.proofs.span.Span.first_line.Goals as goal

pub returns-in-empty-clause-lines : goal.returns-in-empty-clause-lines
returns-in-empty-clause-lines c =
    let s = c.split.ensures in
    cut_last _ _ _ _ _ _ c.requires s.first s.others s.first_at s.others_at c.in-empty.len_below

pub returns-in-len1-up-clause-lines : goal.returns-in-len1-up-clause-lines
returns-in-len1-up-clause-lines c =
    let s = c.split.ensures in
    cut_more _ _ _ _ _ _ c.requires s.first s.others s.first_at s.others_at _ c.in-len1-up.len_at_least refl
