use Rattle.std.proofs.Common.{sym, ◌∙◌}
use Rattle.scc_plain_drafts.proofs.Picking.{name_by}
use Rattle.scc_plain_drafts.proofs.meant.Meant.is_module_name.Goals as goal

pub returns-else-not-is_name : goal.returns-else-not-is_name
returns-else-not-is_name c = λ n. rw c.in-Loc.is (name_by n c.in-Loc.l c.is_whole.result (sym c.if-not-is_name.false ∙ c.is_name.ensures n) (c.is_whole.ensures n))
