-- Elements of vectors, one after another.
use Rattle.std.proofs.Common.{◌≡◌, refl, sym, ap, ◌∙◌, subst, ℕ, zero, suc, ◌+◌, ◌-◌, List, [], ◌∷◌, ◌++◌, map, Option, Some, None, Result, Ok, Err}
use Rattle.std.specs.List.{range_with_len}
use Rattle.scc_base.specs.declared.refusal.Stop.{Stop}
use Rattle.scc_core_spec.specs.Resolved.{Tried, Made, Stopped, and_made}
use Rattle.scc_elab_spec.specs.Program.{Plain}
use Rattle.scc_elab_spec.specs.Grown.{Grown}
use Rattle.scc_elab_spec.specs.Construct.{Now, Ran, Fell, Halted}
use Rattle.scc_elab_spec.specs.Made.{grown_by, over_elements, built, made_one, none_given}
use Rattle.scc_semantics.specs.Location.{Element}
use Rattle.scc_elab_store.specs.Locations.{part_of}
use Rattle.scc_plain_view.specs.Codes.{base_of}
use Rattle.scc_elab_works.specs.declared.works.Work.{Work}
use Rattle.scc_elab_works.specs.declared.works.Work.TheVariants as work
use Rattle.scc_elab_works.specs.declared.works.VectorOf.{VectorOf}
use Rattle.scc_elab_works.specs.Given.{element_made, vector_left}
use Rattle.scc_elab_works.specs.Works.{outcome, anew, Steps}
use Rattle.scc_elab_made.proofs.Stepping.{outcome_one, pass_halts, steps_to}

pub vector_done : (p : Plain) (v : VectorOf) (ws : List Work) (n : Now) → v.count ≡ 0 → outcome p ws (vector_left p v n) ≡ outcome p ws (Fell (record { grown = n.grown; last = None }))
vector_done p v ws n e = ap (λ k. outcome p ws (anew (over_elements (element_made p v) (range_with_len v.next k) n.grown))) e

pub same_elements : (p : Plain) (v k : VectorOf) → k.levels ≡ v.levels → k.path.items ≡ v.path.items → k.base ≡ v.base → k.place ≡ v.place → element_made p k ≡ element_made p v
same_elements p v k a e b d = λ j g i. made_one (built p (a j)) g (map part_of (e j) ++ Element i ∷ []) (d j) (base_of (b j)) none_given

-- one element, and the others behind it
module _ (p : Plain) (v k : VectorOf) (ws new : List Work) (n : Now) (left : ℕ) (more : v.count ≡ suc left) (same : element_made p k ≡ element_made p v) (next : k.next ≡ v.next + 1) (few : k.count ≡ left) (put : new ≡ ws ++ work.Vector k ∷ []) where
  begins : outcome p ws (vector_left p v n) ≡ outcome p ws (anew (and_made (element_made p v n.grown v.next) (over_elements (element_made p v) (range_with_len (v.next + 1) left))))
  begins = ap (λ c. outcome p ws (anew (over_elements (element_made p v) (range_with_len v.next c) n.grown))) more

  goes_on : (g : Grown) (last : Option ℕ) → outcome p ws (anew (over_elements (element_made p v) (range_with_len (v.next + 1) left) g)) ≡ outcome p new (Fell (record { grown = g; last = last }))
  goes_on g last = (λ i. outcome p ws (anew (over_elements (sym same i) (range_with_len (sym next i) (sym few i)) g))) ∙ sym (outcome_one p ws new (work.Vector k) (Fell (record { grown = g; last = last })) put)

  pub element_goes : (A : Type 0) (r : Result A Stop) (newer : List Work) (m : Now) → Steps p r newer m (outcome p new (anew (element_made p v n.grown v.next))) → Steps p r newer m (outcome p ws (vector_left p v n))
  element_goes A r newer m e = steps_to p r newer m (outcome p new (anew (element_made p v n.grown v.next))) (outcome p ws (vector_left p v n)) (begins ∙ by (element_made p v n.grown v.next)) e
    where
      by : (t : Tried Grown) → outcome p ws (anew (and_made t (over_elements (element_made p v) (range_with_len (v.next + 1) left)))) ≡ outcome p new (anew t)
      by (Made g) = goes_on g None
      by (Stopped z) = ap grown_by (pass_halts p ws z) ∙ sym (ap grown_by (pass_halts p new z))
