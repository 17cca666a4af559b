-- What is not refused as chosen by an index that isn't static is chosen statically, whatever words the counters around hold.
use Rattle.std.proofs.Common.{◌≡◌, ◌⊎◌, inl, inr, ℕ, Bool, true, false, ◌&&◌, List, Option, Some, None, is_some, option_map, unwrap_or, if◌then◌else◌, refl, sym, ◌∙◌}
use Rattle.scc_base.specs.declared.refusal.Place.{Place}
use Rattle.scc_core_spec.specs.Term as core
use Rattle.scc_core_spec.specs.Term.{Own}
use Rattle.scc_core_spec.specs.Program as prog
use Rattle.scc_core_spec.specs.Static.{Cells, static}
use Rattle.scc_core_spec.specs.Named.{cell_at, steps_of}
use Rattle.scc_core_spec.specs.Counted.{Counter, counting}
use Rattle.scc_core_spec.specs.Fold.{named, member_behind, member_of, element_of, element_or, in_range, static_index, size_of}
use Rattle.scc_core_spec.specs.Source.{Home}
use Rattle.scc_semantics.specs.Scene.{index_of}
use Rattle.scc_elab_spec.specs.Term.{Left, Local, Answer, This, Follow, Index}
use Rattle.scc_elab_spec.specs.Term as term
use Rattle.scc_elab_spec.specs.Program as plain
use Rattle.scc_elab_spec.specs.Types.{declared_at, points_at, sizes_at, is_reference}
use Rattle.scc_elab_spec.specs.Worth.{member_name}
use Rattle.scc_inline_spec.specs.Static.{is_static}
use Rattle.scc_elab_spec.specs.Copied as copied
use Rattle.scc_elab_spec.specs.Copied.{Here, located, refer, size_here, local_name}
use Rattle.scc_elab_spec.specs.Bodies.{result_name}
use Rattle.scc_elab_spec.proofs.Chains.{and-first, and-second}
use Rattle.scc_inline_process_laws.specs.Sound.{IsSoundLeft}
use Rattle.scc_inline_process_laws.specs.Chosen.{IsChosenStatically, reworded}

is-some : {A : Type 0} (o : Option A) → is_some o ≡ true → (x : A) × (o ≡ Some x)
is-some None e = cc
is-some (Some x) e = (x, refl)

module _ (cs : Cells) (vs : List prog.Vector) where
  named-static : (ns : List Counter) (pointer : Bool) (l : core.Left) → is_static cs ns (named cs vs pointer l) ≡ is_static cs ns l
  named-static ns pointer (core.Cell p n) = refl
  named-static ns pointer (core.Prefix p n) = by (cell_at pointer 0 (steps_of n) cs)
    where
      by : (o : Option ℕ) → is_static cs ns (unwrap_or (option_map (core.Cell p) o) (core.Prefix p n)) ≡ true
      by None = refl
      by (Some c) = refl
  named-static ns pointer (core.Null p) = refl
  named-static ns pointer (core.Follow p s l) = refl
  named-static ns pointer (core.Member l n) = refl
  named-static ns pointer (core.Index l size e) = refl

  member-static : (ns : List Counter) (l : core.Left) (n : ℕ) → is_static cs ns (member_of cs vs l n) ≡ is_static cs ns l
  member-static ns (core.Cell p c) n = refl
  member-static ns (core.Prefix p name) n = by name.own
    where
      by : (o : Option Own) → is_static cs ns (member_behind cs vs p name o n) ≡ true
      by None = refl
      by (Some o) = refl
  member-static ns (core.Null p) n = refl
  member-static ns (core.Follow p s l) n = refl
  member-static ns (core.Member l m) n = refl
  member-static ns (core.Index l size e) n = refl

  module _ (ns : List Counter) where
    -- static by itself, or whatever words the counters hold
    abbrev Chosen : core.Term → Type 0
    Chosen e = ((w : ℕ) × (static cs e ≡ Some w)) ⊎ ((f : ℕ → ℕ) → (w : ℕ) × (static cs (counting (reworded f ns) e) ≡ Some w))

    abbrev Always : core.Left → Type 0
    Always l = (f : ℕ → ℕ) → is_static cs (reworded f ns) l ≡ true

    index-static : (l : core.Left) (size : ℕ) (e : core.Term) → Always (core.Index l size e) → Always l × Chosen e
    index-static l size e t = (
      (λ f. and-second (is_some (static cs (counting (reworded f ns) e))) (is_static cs (reworded f ns) l) (t f)),
      inr (λ f. is-some (static cs (counting (reworded f ns) e)) (and-first (is_some (static cs (counting (reworded f ns) e))) (is_static cs (reworded f ns) l) (t f))),
    )

    element-static : (l : core.Left) (size : ℕ) (e : core.Term) → Always (element_of cs vs l size e) → Always l × Chosen e
    element-static (core.Cell p c) size e t = index-static (core.Cell p c) size e t
    element-static (core.Prefix p n) size e t = by (in_range cs vs (size_of cs vs size (core.Prefix p n)) (static_index cs vs e)) refl t
      where
        from : (size : ℕ) (s : Option ℕ) (i : ℕ) → in_range cs vs size (option_map (λ w. index_of (core.kind_of e) w) s) ≡ Some i → (w : ℕ) × (s ≡ Some w)
        from size None i r = cc
        from size (Some w) i r = (w, refl)

        by : (o : Option ℕ) → in_range cs vs (size_of cs vs size (core.Prefix p n)) (static_index cs vs e) ≡ o
            → Always (element_or cs vs (core.Prefix p n) o (core.Index (core.Prefix p n) (size_of cs vs size (core.Prefix p n)) e)) → Always (core.Prefix p n) × Chosen e
        by None r t = index-static (core.Prefix p n) (size_of cs vs size (core.Prefix p n)) e t
        by (Some i) r t = let w = from (size_of cs vs size (core.Prefix p n)) (static cs e) i r in ((λ f. refl), inl w)
    element-static (core.Null p) size e t = index-static (core.Null p) size e t
    element-static (core.Follow p s l) size e t = index-static (core.Follow p s l) size e t
    element-static (core.Member l m) size e t = index-static (core.Member l m) size e t
    element-static (core.Index l m i) size e t = index-static (core.Index l m i) size e t

module _ (home : Home) (h : Here) where
  refer-static : (ns : List Counter) (p : Place) (follow : Bool) (m : Option plain.Member) (l : core.Left) → is_static h.cells ns (refer h p follow m l) ≡ is_static h.cells ns l
  refer-static ns p follow None l = refl
  refer-static ns p follow (Some m) l = by (follow && is_reference m.shape.reach)
    where
      by : (c : Bool) → is_static h.cells ns (if c then core.Follow p false (named h.cells h.vectors true l) else l) ≡ is_static h.cells ns l
      by true = named-static h.cells h.vectors ns true l
      by false = refl

  module _ (ns : List Counter) where
    chosen : (follow : Bool) (l : Left) → IsSoundLeft home h l → ((f : ℕ → ℕ) → is_static h.cells (reworded f ns) (located h (result_name h) follow l) ≡ true) → IsChosenStatically home h ns l
    chosen follow (Local p n) s t = tt
    chosen follow (Answer p n) s t = tt
    chosen follow (This p) s t = s
    chosen follow (Follow p l) s t = chosen true l s (λ f. sym (named-static h.cells h.vectors (reworded f ns) (points_at h.plain h.function l) (located h (result_name h) true l)) ∙ t f)
    chosen follow (term.Member l m) s t = chosen true l s.0
        (λ f. sym (member-static h.cells h.vectors (reworded f ns) (located h (result_name h) true l) (member_name (declared_at h.plain h.function (term.Member l m))))
        ∙ (sym (refer-static (reworded f ns) (term.place_at l) follow (declared_at h.plain h.function (term.Member l m)) (member_of h.cells h.vectors (located h (result_name h) true l) (member_name (declared_at h.plain h.function (term.Member l m))))) ∙ t f))
    chosen follow (Index l e) s t =
        let x = element-static h.cells h.vectors ns (located h (result_name h) true l) (size_here (sizes_at h.plain h.function l)) (copied.copied h (result_name h) e) t in
        (chosen true l s.0 x.0, s.1, s.2, x.1)

    -- an object that is not refused
    pub chosen-object : (l : Left) → IsSoundLeft home h l → ((f : ℕ → ℕ) → is_static h.cells (reworded f ns) (copied.left_of h (result_name h) true l) ≡ true) → IsChosenStatically home h ns l
    chosen-object l s t = chosen true l s (λ f. sym (named-static h.cells h.vectors (reworded f ns) (points_at h.plain h.function l) (located h (result_name h) true l)) ∙ t f)
