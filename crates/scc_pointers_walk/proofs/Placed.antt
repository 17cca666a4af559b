-- A location with another place stands for the same with that place.
use Rattle.std.proofs.Common.{◌≡◌, refl, sym, ap, subst, ◌∙◌, ℕ, nat_eq, Bool, true, false, cond, if◌then◌else◌, List, [], ◌∷◌, ◌++◌, map, Option, Some, None, option_map}
use Rattle.std.specs.Map.{lookup}
use Rattle.indexmap.specs.IndexMap.{insert_entry}
use Rattle.scc_base.specs.declared.refusal.Place.{Place}
use Rattle.scc_core.specs.declared.expr.CoreBase.{CoreBase, roll-CoreBase}
use Rattle.scc_core.specs.declared.expr.CoreBase.TheOpen as tree
use Rattle.scc_core.specs.declared.expr.CoreLeft.{CoreLeft}
use Rattle.scc_core.specs.declared.expr.CorePart.{CorePart, roll-CorePart}
use Rattle.scc_core.specs.declared.expr.CorePick.{CorePick}
use Rattle.scc_core_spec.specs.Term.{Left}
use Rattle.scc_core_spec.specs.Resolved.{placed}
use Rattle.scc_core_view.specs.Terms as to
use Rattle.scc_pointers_walk.specs.Led.{left_of, target_of}
use Rattle.scc_pointers_walk.proofs.Terms.{BaseLayer, PartLayer, term_base, term_part, base_term, part_term, left_term, base_shape, part_shape}

base_at : (x : BaseLayer) (p q : Place) → term_base (roll-CoreBase x) p ≡ placed p (term_base (roll-CoreBase x) q)
base_at (tree.Cell n) p q = ap (λ f. f p) (base_term (tree.Cell n)) ∙ sym (ap (λ f. placed p (f q)) (base_term (tree.Cell n)))
base_at (tree.Prefix name) p q = ap (λ f. f p) (base_term (tree.Prefix name)) ∙ sym (ap (λ f. placed p (f q)) (base_term (tree.Prefix name)))
base_at (tree.Follow l soft) p q = ap (λ f. f p) (base_term (tree.Follow l soft)) ∙ sym (ap (λ f. placed p (f q)) (base_term (tree.Follow l soft)))
base_at tree.Null p q = ap (λ f. f p) (base_term tree.Null) ∙ sym (ap (λ f. placed p (f q)) (base_term tree.Null))

base_placed : (b : CoreBase) (p q : Place) → term_base b p ≡ placed p (term_base b q)
base_placed b p q = by (base_shape b)
  where
    by : (x : BaseLayer) × (b ≡ roll-CoreBase x) → term_base b p ≡ placed p (term_base b q)
    by (x, e) = subst (λ b. term_base b p ≡ placed p (term_base b q)) (sym e) (base_at x p q)

part_at : (x : PartLayer) (p : Place) (l : Left) → term_part (roll-CorePart x) (placed p l) ≡ placed p (term_part (roll-CorePart x) l)
part_at (tree.Member n) p l = ap (λ f. f (placed p l)) (part_term (tree.Member n)) ∙ sym (ap (λ f. placed p (f l)) (part_term (tree.Member n)))
part_at (tree.Index size at) p l = ap (λ f. f (placed p l)) (part_term (tree.Index size at)) ∙ sym (ap (λ f. placed p (f l)) (part_term (tree.Index size at)))

part_placed : (c : CorePart) (p : Place) (l : Left) → term_part c (placed p l) ≡ placed p (term_part c l)
part_placed c p l = by (part_shape c)
  where
    by : (x : PartLayer) × (c ≡ roll-CorePart x) → term_part c (placed p l) ≡ placed p (term_part c l)
    by (x, e) = subst (λ c. term_part c (placed p l) ≡ placed p (term_part c l)) (sym e) (part_at x p l)

parts_placed : (ps : List CorePart) (p : Place) (l : Left) → to.extended (placed p l) (map term_part ps) ≡ placed p (to.extended l (map term_part ps))
parts_placed [] p l = refl
parts_placed (c ∷ ps) p l = ap (λ z. to.extended z (map term_part ps)) (part_placed c p l) ∙ parts_placed ps p (term_part c l)

placed_parts : (p q : Place) (b : CoreBase) (ps : List CorePart) (k : Option CorePick)
    → left_of (record { place = p; base = b; parts = ps; pick = k }) ≡ placed p (left_of (record { place = q; base = b; parts = ps; pick = k }))
placed_parts p q b ps k =
    left_term p b ps k
    ∙ ap (λ z. to.extended z (map term_part ps)) (base_placed b p q)
    ∙ parts_placed ps p (term_base b q)
    ∙ ap (placed p) (sym (left_term q b ps k))

pub placed_is : (p : Place) (l : CoreLeft) → left_of (record { place = p; base = l.base; parts = l.parts; pick = l.pick }) ≡ placed p (left_of l)
placed_is p l = placed_parts p l.place l.base l.parts l.pick

-- a pointer that isn't held yet is held last
pub put_last : (n : ℕ) (t : Option CoreLeft) (es : List (ℕ × Option CoreLeft)) → option_map target_of (lookup (nat_eq n) es) ≡ None → insert_entry nat_eq es n t ≡ es ++ (n, t) ∷ []
put_last n t [] h = refl
put_last n t (e ∷ es) h = by (nat_eq n e.0) h (put_last n t es)
  where
    by : (b : Bool) → option_map target_of (cond b (Some e.1) (lookup (nat_eq n) es)) ≡ None → (option_map target_of (lookup (nat_eq n) es) ≡ None → insert_entry nat_eq es n t ≡ es ++ (n, t) ∷ [])
        → (if b then (e.0, t) ∷ es else e ∷ insert_entry nat_eq es n t) ≡ e ∷ (es ++ (n, t) ∷ [])
    by true h more = absurd cc
    by false h more = ap (λ l. e ∷ l) (more h)
