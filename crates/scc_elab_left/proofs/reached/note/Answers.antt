use Rattle.std.proofs.Common.{rules, ap, sym, ◌∙◌, map}
use Rattle.scc_semantics.specs.Location.{Top}
use Rattle.scc_elab_grown.specs.Objects.{object_of}
use Rattle.scc_elab_store.specs.Locations.{part_of}
use Rattle.scc_elab_left.proofs.Reaching.{known_goes, one_goes}
use Rattle.scc_elab_left.proofs.reached.note.Goals as goal

pub returns-then-is_some : goal.returns-then-is_some
returns-then-is_some c = λ os long r. known_goes os (object_of c.args.object.now) c.in_ok-at.at c.known.result c.args.reached.now.by_path.entries
    (c.in_ok-at.ensures ∙ ap (λ z. record { root = Top; path = map part_of z }) c.as_slice.ensures.value) c.known.ensures (sym c.is_some.ensures ∙ c.if-is_some.true) r

pub returns : goal.returns
returns c = λ os long r. one_goes os (object_of c.args.object.now) c.in_ok-at.at c.args.number c.known.result c.args.reached.now.by_path.entries c.insert.new.self.entries
    (sym c.is_reached.ensures ∙ c.if-not-is_reached.false)
    (c.in_ok-at.ensures ∙ ap (λ z. record { root = Top; path = map part_of z }) c.as_slice.ensures.value) c.known.ensures (sym c.is_some.ensures ∙ c.if-is_some.false) c.in_ok-insert.ensures.entries long r
