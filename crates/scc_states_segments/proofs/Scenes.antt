-- One frame more around, and what a path comes to.
use Rattle.std.proofs.Common.{◌≡◌, ℕ, zero, suc, ◌-◌, ◌<◌, ◌≤◌, length, get_or, drop, take, drop-cons, List, [], ◌∷◌, ◌++◌, refl, sym, ap, ◌∙◌, arith}
use Rattle.std.specs.Borrow.{Bor}
use Rattle.std.proofs.lemmas.List.{take_all, length-drop}
use Rattle.scc_core_spec.specs.Segments.{Segment, Finish, behind}
use Rattle.scc_states_segments.specs.declared.parts.Part.{Part}
use Rattle.scc_states_segments.specs.declared.parts.PartNode.TheVariants as variant
use Rattle.scc_states_segments.specs.declared.path.Frame.{Frame}
use Rattle.scc_states_segments.specs.declared.path.Sort.TheVariants as sort
use Rattle.scc_states_segments.specs.Parts.{part_walk, walk_of, blocked, looped, left}
use Rattle.scc_states_segments.specs.Frames.{Scene, framed, framed_by, scene_in, scene, from, tested_scene}
use Rattle.scc_states_segments.proofs.Stands.{at, block_stands, loop_stands, exit_stands}

scene_last : (s : Scene) (fs : List Frame) (f : Frame) → scene_in s (fs ++ f ∷ []) ≡ framed f (scene_in s fs)
scene_last s [] f = refl
scene_last s (g ∷ fs) f = scene_last (framed g s) fs f

pub one_more : (fs gs : List Frame) (f : Frame) → gs ≡ fs ++ f ∷ [] → scene gs ≡ framed f (scene fs)
one_more fs gs f h = ap scene h ∙ scene_last _ fs f

module _ (fs gs : List Frame) (f : Frame) (more : gs ≡ fs ++ f ∷ []) where
  pub rest_next : f.sort ≡ sort.Rest → (scene gs).next ≡ from f.rest.now (scene fs)
  rest_next is = ap (λ s. s.next) (one_more fs gs f more ∙ ap (λ t. framed_by t (walk_of f.rest.now) (scene fs)) is)

  pub block_next : f.sort ≡ sort.Block → (scene gs).next ≡ from f.rest.now (scene fs)
  block_next is = ap (λ s. s.next) (one_more fs gs f more ∙ ap (λ t. framed_by t (walk_of f.rest.now) (scene fs)) is)

  pub end_next : f.sort ≡ sort.End → (scene gs).next ≡ Finish
  end_next is = ap (λ s. s.next) (one_more fs gs f more ∙ ap (λ t. framed_by t (walk_of f.rest.now) (scene fs)) is)

  pub again_next : f.sort ≡ sort.Again → (hs : List Frame) → hs ≡ fs ++ record { sort = sort.End; rest = f.rest } ∷ [] → (scene gs).next ≡ from f.rest.now (scene hs)
  again_next is hs h =
      ap (λ s. s.next) (one_more fs gs f more ∙ ap (λ t. framed_by t (walk_of f.rest.now) (scene fs)) is)
      ∙ ap (λ s. from f.rest.now s) (sym (one_more fs hs (record { sort = sort.End; rest = f.rest }) h))

  outer_by : (t : _) → f.sort ≡ t → (scene gs).outer ≡ (framed_by t (walk_of f.rest.now) (scene fs)).outer
  outer_by t is = ap (λ s. s.outer) (one_more fs gs f more ∙ ap (λ t. framed_by t (walk_of f.rest.now) (scene fs)) is)

  pub leaves_here : (n : ℕ) → f.sort ≡ sort.Block → n ≡ 0 → behind n (scene gs).outer ≡ from f.rest.now (scene fs)
  leaves_here n is none = ap (λ k. behind k (scene gs).outer) none ∙ ap (behind 0) (outer_by sort.Block is)

  pub leaves_more : (n m : ℕ) → f.sort ≡ sort.Block → n ≡ suc m → behind n (scene gs).outer ≡ behind m (scene fs).outer
  leaves_more n m is some = ap (λ k. behind k (scene gs).outer) some ∙ ap (behind (suc m)) (outer_by sort.Block is)

  pub leaves_rest : (n : ℕ) → f.sort ≡ sort.Rest → behind n (scene gs).outer ≡ behind n (scene fs).outer
  leaves_rest n is = ap (behind n) (outer_by sort.Rest is)

  pub leaves_end : (n : ℕ) → f.sort ≡ sort.End → behind n (scene gs).outer ≡ behind n (scene fs).outer
  leaves_end n is = ap (behind n) (outer_by sort.End is)

  pub leaves_again : (n : ℕ) → f.sort ≡ sort.Again → behind n (scene gs).outer ≡ behind n (scene fs).outer
  leaves_again n is = ap (behind n) (outer_by sort.Again is)

pub one_less : (n : ℕ) → (n ≡ 0 → ⊥) → n ≡ suc (n - 1)
one_less zero h = absurd (h refl)
one_less (suc n) h = let e : n ≡ suc n - 1 = omega arith in ap suc e

pub leaves_none : (n : ℕ) (fs : List Frame) → fs ≡ [] → behind n (scene fs).outer ≡ Finish
leaves_none n fs h = ap (λ gs. behind n (scene gs).outer) h

pub none_next : (fs : List Frame) → fs ≡ [] → (scene fs).next ≡ Finish
none_next fs h = ap (λ gs. (scene gs).next) h

-- the first of some parts, and the others
pub first_part : (ps : List Part) (q : Part) → 1 ≤ length ps → q ≡ get_or ps 0 q → ps ≡ q ∷ drop 1 ps
first_part ps q h is = drop-cons ps 0 q h ∙ ap (λ x. x ∷ drop 1 ps) (sym is)

pub other_parts : (ps : List Part) → take (length ps - 1) (drop 1 ps) ≡ drop 1 ps
other_parts ps = let n = length-drop 1 ps in take_all (length ps - 1) (drop 1 ps) (omega (arith, n))

-- a step into a part
module _ (q : Part) (ps : List Part) (s : Scene) where
  pub into_block : (b c : List Part) → q.node ≡ variant.Block b → c ≡ b → (fs gs : List Frame) (r : Bor (List Part)) → scene fs ≡ s → gs ≡ fs ++ record { sort = sort.Block; rest = r } ∷ [] → r.now ≡ ps
      → from (q ∷ ps) s ≡ from c (scene gs)
  into_block b c is same fs gs r here more rest =
      ap (λ n. (part_walk (at q.place n) (walk_of ps)).first s.next s.outer) is
      ∙ ap (λ w. w.first s.next s.outer) (block_stands q.place (walk_of ps) b)
      ∙ ap (λ d. from d (record { next = from ps s; outer = from ps s ∷ s.outer })) (sym same)
      ∙ ap (λ l. from c (record { next = from l s; outer = from l s ∷ s.outer })) (sym rest)
      ∙ ap (λ z. from c (record { next = from r.now z; outer = from r.now z ∷ z.outer })) (sym here)
      ∙ ap (from c) (sym (one_more fs gs (record { sort = sort.Block; rest = r }) more))

  pub into_loop : (b c : List Part) → q.node ≡ variant.Loop b → c ≡ b → (fs gs : List Frame) (r : Bor (List Part)) → scene fs ≡ s → gs ≡ fs ++ record { sort = sort.End; rest = r } ∷ []
      → from (q ∷ ps) s ≡ from c (scene gs)
  into_loop b c is same fs gs r here more =
      ap (λ n. (part_walk (at q.place n) (walk_of ps)).first s.next s.outer) is
      ∙ ap (λ w. w.first s.next s.outer) (loop_stands q.place (walk_of ps) b)
      ∙ ap (λ d. from d (record { next = Finish; outer = s.outer })) (sym same)
      ∙ ap (λ z. from c (record { next = Finish; outer = z.outer })) (sym here)
      ∙ ap (from c) (sym (one_more fs gs (record { sort = sort.End; rest = r }) more))

  pub out_of : (n : ℕ) → q.node ≡ variant.Exit n → from (q ∷ ps) s ≡ behind n s.outer
  out_of n is =
      ap (λ n. (part_walk (at q.place n) (walk_of ps)).first s.next s.outer) is
      ∙ ap (λ w. w.first s.next s.outer) (exit_stands q.place (walk_of ps) n)

-- behind a test
pub rest_more : (fs gs : List Frame) (r : Bor (List Part)) → gs ≡ fs ++ record { sort = sort.Rest; rest = r } ∷ [] → scene gs ≡ tested_scene r.now (scene fs)
rest_more fs gs r more = one_more fs gs (record { sort = sort.Rest; rest = r }) more
