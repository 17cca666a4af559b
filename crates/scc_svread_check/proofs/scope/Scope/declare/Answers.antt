use Rattle.std.proofs.Common.{◌≡◌, ◌∙◌, ap, map}
use Rattle.scc_svread_check.specs.Scope.{put, once_more, high_of, entry_of}
use Rattle.scc_svread_check.proofs.Scopes.{put_seen}
use Rattle.scc_svread_check.proofs.scope.Scope.declare.Goals as goal

pub returns : goal.returns
returns c =
    let key : c.in_ok-from_slice.field-0.items ≡ c.args.v.now.name = c.in_ok-from_slice.ensures.items ∙ c.bytes-name.ensures.bytes in
    let high : c.once_more-high.result ≡ once_more (high_of c.args.v.now) (entry_of c.args.self.now c.args.v.now.name) =
    c.once_more-high.ensures ∙ ap (λ h. once_more h c.entry.result) c.high_of.ensures
    ∙ ap (once_more (high_of c.args.v.now)) (c.entry.ensures ∙ ap (entry_of c.args.self.now) c.bytes-name.ensures.bytes) in
    record {
      declared = ap (λ es. map (λ e. (e.0.items, e.1)) es) (c.in_ok-insert.ensures.entries) ∙ put_seen (λ k. k.items) _ _ c.self.inside.highs.entries
          ∙ ap (λ s. put s c.in_ok-from_slice.field-0.items c.once_more-high.result) c.self.view_is
          ∙ ap (λ k. put c.args.self.now k c.once_more-high.result) key ∙ ap (put c.args.self.now c.args.v.now.name) high;
    }
