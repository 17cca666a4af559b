-- What a copy finds at a state where its object stands and what is static holds.
use Rattle.std.proofs.Common.{◌≡◌, ℕ, suc, Bool, true, false, List, ◌∷◌, length, Option, Some, None, option_map, refl, sym, ap, ◌∙◌, subst, arith}
use Rattle.scc_bits_kinds.specs.declared.kind.Kind.{Kind}
use Rattle.scc_bits_kinds.specs.Kinds.{width_of}
use Rattle.scc_semantics.specs.Location.{Location}
use Rattle.scc_semantics.specs.Expressions as body
use Rattle.scc_semantics.specs.Places.{Places}
use Rattle.scc_semantics.specs.Store.{Store}
use Rattle.scc_semantics.specs.Scene.{Names, Scene, expr_kind, with_bit, index_of, pointed as pointed_there}
use Rattle.scc_semantics.specs.Body as machine
use Rattle.scc_semantics.specs.Body.{Body}
use Rattle.scc_semantics.specs.Value as running
use Rattle.scc_semantics.specs.Value.{locate, value, picked, behind}
use Rattle.scc_core_spec.specs.Term as core
use Rattle.scc_core_spec.specs.Source as source
use Rattle.scc_core_spec.specs.Source.{Home, left_of, expr_of, location_of, aimed}
use Rattle.scc_base.specs.declared.refusal.Place.{Place}
use Rattle.scc_elab_spec.specs.Term.{Term, Left, Pick, Whole, OneBit, Bits, Target, Null, Address, Copy}
use Rattle.scc_elab_spec.specs.Program.{Function}
use Rattle.scc_elab_spec.specs.Types.{points_at}
use Rattle.scc_elab_spec.specs.Copied as copied
use Rattle.scc_elab_spec.specs.Copied.{Here, located, local_name, local_root, answer_name}
use Rattle.scc_elab_spec.specs.Bodies.{result_name, soften, object_of, pointed, cell_of}
use Rattle.scc_elab_spec.specs.Spoken as spoken
use Rattle.scc_inline_process_laws.specs.Sound.{IsSoundTerm, IsSoundLeft}
use Rattle.scc_inline_process_laws.specs.SoundCode.{IsWider, LeadsUp, Knows, whole_local, core_scene, plain_scene, IsSoundPick, IsSoundTarget, IsSoundObject}
use Rattle.scc_inline_process_laws.specs.Relation.{here, rare, IsSteady}
use Rattle.scc_inline_process_laws.proofs.Named.{named-same}
use Rattle.scc_inline_process_laws.proofs.Located.{located-same, copied-same, kind-same}
use Rattle.scc_inline_process_laws.proofs.Moves.{same-wider, outside-wider}

module _ (home : Home) (places : Places) (signals : Location → ℕ) (own : Names) (h : Here) where
  abbrev pub cleft : core.Left → body.Left
  cleft l = left_of home h.cells h.process l

  abbrev pub scene_of : Store → Scene
  scene_of s = core_scene home places signals own s

  pub soften-same : (l : core.Left) → cleft (soften l) ≡ cleft l
  soften-same (core.Cell p n) = refl
  soften-same (core.Prefix p n) = refl
  soften-same (core.Null p) = refl
  soften-same (core.Follow p s l) = refl
  soften-same (core.Member l n) = ap (λ b. body.Field b n) (soften-same l)
  soften-same (core.Index l size e) = ap (λ b. body.Indexed b (expr_of home h.cells h.process e)) (soften-same l)

  -- a pointer that is aimed
  pub aim-is : (b : Bool) (c : core.Left) (t : body.Left) (r : Body) → (d : Bool) × (aimed home h.cells h.process (pointed b c) t r ≡ machine.Point d (cleft c) (body.Address t) r) × (d ≡ true → b ≡ true)
  aim-is true (core.Cell p n) t r = (true, refl, λ e. refl)
  aim-is true (core.Prefix p n) t r = (false, refl, λ e. refl)
  aim-is true (core.Null p) t r = (false, refl, λ e. refl)
  aim-is true (core.Follow p s l) t r = (false, refl, λ e. refl)
  aim-is true (core.Member l n) t r = (false, refl, λ e. refl)
  aim-is true (core.Index l size e) t r = (false, refl, λ e. refl)
  aim-is false c t r = (false, refl, λ e. e)

  -- the cell of a local's element, and of a result
  pub own-cell : (to : Here) (p : Place) (s : Store) (pointer : Bool) (name : core.CellName)
      → locate (scene_of s) (cleft (cell_of (here home places own h to.calls to.function to.this) p pointer name)) ≡ Some (Some (location_of home h.process name))
  own-cell to p s pointer name = named-same home h.cells h.vectors h.process (scene_of s) pointer (core.Prefix p name)

  module _ (cs : List ℕ) (g : Function) (this : core.Left) (o : Option Location) where
    abbrev pub to : Here
    to = here home places own h cs g this

    abbrev pub plain_at : Store → Scene
    plain_at s = plain_scene home places signals own to o s

    module _ (s : Store) (knows : Knows home places own h s) (stands : locate (scene_of s) (cleft this) ≡ Some o) where
      pub value-same : (e : Term) → IsSoundTerm home to e → value (scene_of s) (expr_of home h.cells h.process (copied.copied to (result_name to) e)) ≡ value (plain_at s) (spoken.expr_of h.plain g e)
      value-same e sound = copied-same home to places signals s o own (knows signals) stands e sound

      pub left-same : (follow : Bool) (l : Left) → IsSoundLeft home to l → locate (scene_of s) (cleft (copied.left_of to (result_name to) follow l)) ≡ locate (plain_at s) (spoken.left_of h.plain g follow l)
      left-same follow l sound = named-same home h.cells h.vectors h.process (scene_of s) (points_at h.plain g l) (located to (result_name to) follow l) ∙ located-same home to places signals s o own (knows signals) stands follow l sound

      pub pick-same : (k : Pick) → IsSoundPick home places own to k → (j : Kind) (old new : ℕ)
          → picked (scene_of s) j (source.pick_of home h.cells h.process (copied.pick_of to (result_name to) k)) old new ≡ picked (plain_at s) j (spoken.pick_of h.plain g k) old new
      pick-same Whole sound j old new = refl
      pick-same (OneBit e) sound j old new =
          ap (λ z. option_map (λ i. with_bit (width_of j) old (index_of (expr_kind (expr_of home h.cells h.process (copied.copied to (result_name to) e))) i) new) z) (value-same e sound)
          ∙ ap (λ k. option_map (λ i. with_bit (width_of j) old (index_of k i) new) (value (plain_at s) (spoken.expr_of h.plain g e))) (kind-same home to e)
      pick-same (Bits a b) sound j old new = refl

      pub target-same : (p : Place) (t : Target) → IsSoundTarget home places own to t → locate (scene_of s) (cleft (copied.target_of to (result_name to) p t)) ≡ running.target_of (plain_at s) (spoken.target_of h.plain g t)
      target-same p Null sound = refl
      target-same p (Address l) sound = left-same true l sound
      target-same p (Copy l) sound = ap (λ z. behind z (λ l. Some (pointed_there (places.pointers l) (s.targets l)))) (left-same true l sound)

module _ (home : Home) (places : Places) (own : Names) (h : Here) (cs : List ℕ) (g : Function) (this : core.Left) (o : Option Location) where
  -- the object of a call is found at the call, and stays
  pub object-found : (n : ℕ) (w inner : ℕ → Bool) → IsWider inner w → IsWider (rare home places own h) inner → (t : Store) (signals : Location → ℕ) (s : Store) (knows : Knows home places own h s) → s ≡ t → IsSteady home places own h cs this o w t → (l : Option Left) → IsSoundObject home places own (here home places own h cs g this) inner l
      → (q : Option Location) × (running.object_of (plain_at home places signals own h cs g this o s) (option_map (spoken.left_of h.plain g true) l) ≡ Some q) × IsSteady home places own h (n ∷ cs) (object_of (here home places own h cs g this) (result_name (here home places own h cs g this)) l) q inner t
  object-found n w inner wider few t signals s knows e steady None sound = (
    o,
    refl,
    (
      (λ l f. outside-wider h.process (suc (suc (length cs))) (suc (length cs)) l.root (omega arith) (steady.0 l f)),
      (λ y u k b v. steady.1 y u k (same-wider h.process (suc (length cs)) (length cs) t.targets u.targets (omega arith) b) (λ m f. v m (wider m f))),
      steady.2,
      few,
    ),
  )
  object-found n w inner wider few t signals s knows e steady (Some l) sound =
      let now : (y : Location → ℕ) → locate (scene_of home places y own h s) (cleft home places y own h this) ≡ Some o = λ y. steady.1 y s knows (λ l c. ap (λ z. z.targets l) e) (λ m f. ap (λ z. z.words (whole_local home h.process m)) e) in
      let f = sound.1 o s knows (subst (λ t. LeadsUp h.process t.targets) (sym e) steady.2) steady.0 now in (
        f.0,
        f.2 signals s knows (λ l e. refl) (λ m e. refl) now,
        (
          f.1,
          (λ y u k b v.
              let stands : (z : Location → ℕ) → locate (scene_of home places z own h u) (cleft home places z own h this) ≡ Some o = λ z. steady.1 z u k (same-wider h.process (suc (length cs)) (length cs) t.targets u.targets (omega arith) b) (λ m x. v m (wider m x)) in
              ap (λ z. locate (scene_of home places y own h u) z) (soften-same home places y own h (copied.left_of (here home places own h cs g this) (result_name (here home places own h cs g this)) true l))
              ∙ (left-same home places y own h cs g this o u k (stands y) true l sound.0
              ∙ f.2 y u k (λ l c. b l c ∙ ap (λ z. z.targets l) (sym e)) (λ m x. v m x ∙ ap (λ z. z.words (whole_local home h.process m)) (sym e)) stands)),
          steady.2,
          few,
        ),
      )
