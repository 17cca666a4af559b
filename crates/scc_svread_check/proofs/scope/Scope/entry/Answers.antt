use Rattle.std.proofs.Common.{sym, ◌∙◌, ap}
use Rattle.scc_svread_check.specs.Scope.{entry_of}
use Rattle.scc_svread_check.proofs.Scopes.{entry_seen}
use Rattle.scc_svread_check.proofs.scope.Scope.entry.Goals as goal

pub returns : goal.returns
returns c =
    c.copied.ensures ∙ c.get.ensures.value ∙ sym (entry_seen (λ k. k.items) c.args.name.now c.self.inside.highs.entries)
    ∙ ap (λ s. entry_of s c.args.name.now) c.self.view_is
