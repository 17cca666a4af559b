use Rattle.std.proofs.Common.{rules, ◌≡◌, ◌<◌, ◌∙◌, ap, sym, subst, length, map}
use Rattle.scc_semantics.specs.Location.{Location, Top}
use Rattle.scc_elab_store.specs.Locations.{part_of, location_of}
use Rattle.scc_elab_grown.specs.Objects.{node_of, noted, object_of, stands_at}
use Rattle.scc_elab_grown.proofs.Standing.{kept_behind}
use Rattle.scc_elab_grown.proofs.objects.Objects.add.Goals as goal

pub invariant_of-self-in_default : goal.invariant_of-self-in_default
invariant_of-self-in_default c =
    let h : length c.self.inside.list.items < 65536 = subst (λ z. length z < 65536) (sym c.self.view_is) c.requires in
    let e : c.with_node-here.result ≡ noted (length c.self.inside.list.items) (node_of c.args.object.node) (stands_at (map object_of c.self.inside.list.items) (location_of c.in_ok-at.at) (location_of c.in_ok-at.at).root) = search rules in
    kept_behind c.self.inside.list.items c.push.new.items.items c.self.inside.by_path.entries c.insert.new.self.entries c.self.invariant c.args.object c.in_ok-at.at c.with_node-here.result
    (c.in_ok-at.ensures ∙ ap (λ z. record { root = Top; path = map part_of z }) c.as_slice.ensures.value) e h c.in_ok-push.ensures.ok c.in_default.ensures.entries
