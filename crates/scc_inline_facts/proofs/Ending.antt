-- Where locations end.
use Rattle.std.specs.Prelude.{map, option_map}
use Rattle.std.proofs.Common.{◌≡◌, refl, sym, ap, ◌∙◌, List, [], ◌∷◌, ◌++◌, length, Option, Some, None}
use Rattle.scc_base.specs.declared.refusal.Place.{Place}
use Rattle.scc_plain_tree.specs.declared.expr.PlainBase.{PlainBase}
use Rattle.scc_plain_tree.specs.declared.expr.PlainLeft.{PlainLeft, fold-roll-PlainLeft}
use Rattle.scc_plain_tree.specs.declared.expr.PlainPart.{PlainPart}
use Rattle.scc_plain_tree.specs.declared.expr.PlainPick.{PlainPick, fold-PlainPick}
use Rattle.scc_elab_spec.specs.Term.{Left, Term}
use Rattle.scc_plain_view.specs.Terms.{Base, Node, Picking, Taken, base_node, expr_node, part_node, pick_node, expr_step, left_step, extended, left_of, taken_of}
use Rattle.scc_inline_facts.specs.Whole.{base_of, step_of}

abbrev picking_of : PlainPick → Picking
picking_of = fold-PlainPick Base Node (Left → Left) Picking Term Taken base_node expr_node part_node pick_node expr_step left_step

left_is : (p : Place) (b : PlainBase) (ps : List PlainPart) (q : Option PlainPick) → taken_of (record { place = p; base = b; parts = ps; pick = q }) ≡ left_step (record { place = p; base = base_of b; parts = map step_of ps; pick = option_map picking_of q })
left_is p b ps None = fold-roll-PlainLeft Base Node (Left → Left) Picking Term Taken base_node expr_node part_node pick_node expr_step left_step (record { place = p; base = b; parts = ps; pick = None })
left_is p b ps (Some q) = fold-roll-PlainLeft Base Node (Left → Left) Picking Term Taken base_node expr_node part_node pick_node expr_step left_step (record { place = p; base = b; parts = ps; pick = Some q })

pushed : (l : Left) (ps : List PlainPart) (x : PlainPart) → extended l (map step_of (ps ++ x ∷ [])) ≡ step_of x (extended l (map step_of ps))
pushed l [] x = refl
pushed l (y ∷ ys) x = pushed (step_of y l) ys x

pub ends_in_step : (x : PlainLeft) (rest : List PlainPart) (part : PlainPart) (qs : List PlainPart) → qs ≡ x.parts → qs ≡ rest ++ part ∷ [] → left_of x ≡ step_of part (extended (base_of x.base x.place) (map step_of rest))
ends_in_step x rest part qs same last = ap (λ t. t.left) (left_is x.place x.base x.parts x.pick) ∙ ap (λ ps. extended (base_of x.base x.place) (map step_of ps)) (sym same ∙ last) ∙ pushed (base_of x.base x.place) rest part

none : {A : Type 0} → (xs : List A) → length xs ≡ 0 → xs ≡ []
none [] e = refl
none (x ∷ xs) e = absurd (cc)

pub is_base : (x : PlainLeft) (qs : List PlainPart) → qs ≡ x.parts → length qs ≡ 0 → left_of x ≡ base_of x.base x.place
is_base x qs same e = ap (λ t. t.left) (left_is x.place x.base x.parts x.pick) ∙ ap (λ ps. extended (base_of x.base x.place) (map step_of ps)) (sym same ∙ none qs e)
