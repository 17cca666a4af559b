-- A pointer that is given a target by a constructor, as the machine does it.
use Rattle.std.proofs.Common.{◌≡◌, List, Bool, true, false, ◌||◌, Option, Some, None, option_and_then, is_some, if◌then◌else◌, ap, refl, sym, ◌∙◌, subst}
use Rattle.scc_base.specs.declared.refusal.Place.{Place}
use Rattle.scc_base.specs.declared.code.Code.TheVariants as reason
use Rattle.scc_semantics.specs.Location.{Location, Part, Root, Top, Local, Answer}
use Rattle.scc_semantics.specs.Places.{Places}
use Rattle.scc_semantics.specs.Store.{Request}
use Rattle.scc_semantics.specs.Scene.{pointed}
use Rattle.scc_semantics.specs.Body as machine
use Rattle.scc_semantics.specs.Body.{Body}
use Rattle.scc_semantics.specs.Machine.{Frames, Mark, Inner, Go, pointed_at}
use Rattle.scc_semantics.specs.Value as value
use Rattle.scc_core_spec.specs.First.{refused}
use Rattle.scc_core_spec.specs.Resolved.{Tried, Made, Stopped, and_made}
use Rattle.scc_elab_spec.specs.Term.{Left, Target, Null, Address, Copy}
use Rattle.scc_elab_spec.specs.Design.{Object}
use Rattle.scc_elab_spec.specs.Grown.{Grown, pointer_at, with_target}
use Rattle.scc_elab_spec.specs.Worth.{Site, at_now, spot, target}
use Rattle.scc_elab_spec.specs.Construct.{Now, is_local, point_at}
use Rattle.scc_elab_spec.specs.Construct as construct
use Rattle.scc_elab_spec.specs.Spoken.{left_of, target_of}
use Rattle.scc_elab_spec.specs.Typed.{IsTypedLeft, IsTypedTarget}
use Rattle.scc_elab_spec.specs.Common.{names_of, pointer_now}
use Rattle.scc_elab_spec.proofs.Chains.{made_same, and_made-is}
use Rattle.scc_elab_spec.proofs.Valued.{firm}
use Rattle.scc_elab_spec.proofs.Regular.{IsFine, standing, places_by, scene_with, pointer-at, located-at, regular-at, changed-at}
use Rattle.scc_elab_spec.proofs.Steps.{Reaches, step-point}
use Rattle.scc_elab_spec.proofs.Follows.{held}

or_false : (b : Bool) → (b || false) ≡ b
or_false true = refl
or_false false = refl

true_false : true ≡ false → (t : Option Location) → t ≡ None
true_false e t = cc

module _ (s : Site) (os : List Object) (n : Now) (fine : IsFine s os n) where
  pub pointed-fine : (l : Location) → pointed (pointer_now (standing s os) l) (n.grown.store.targets l) ≡ n.grown.store.targets l
  pointed-fine l = by (pointer_now (standing s os) l) refl
    where
      by : (b : Bool) → pointer_now (standing s os) l ≡ b → pointed b (n.grown.store.targets l) ≡ n.grown.store.targets l
      by true e = refl
      by false e = sym (fine.targets l e)

  target-is : (t : Target) (o : Option Location) → IsTypedTarget t → target (at_now s n.grown) t ≡ Made o
      → value.target_of (scene_with s os n.grown.store) (target_of s.plain s.function t) ≡ Some o
  target-is Null o t e = ap Some (made_same e)
  target-is (Address l) o t e = located-at s os n fine true true l o t e
  target-is (Copy l) o t e = by c.0 (located-at s os n fine true true l c.0 t c.1) (made_same c.2)
    where
      c : (x : Option Location) × (spot (at_now s n.grown) true true l ≡ Made x) × (◌≡◌ {A = Tried (Option Location)} (Made (option_and_then n.grown.store.targets x)) (Made o))
      c = and_made-is (spot (at_now s n.grown) true true l) (λ o. Made (option_and_then n.grown.store.targets o)) o e

      by : (x : Option Location) → value.locate (scene_with s os n.grown.store) (left_of s.plain s.function true l) ≡ Some x → option_and_then n.grown.store.targets x ≡ o
          → value.target_of (scene_with s os n.grown.store) (target_of s.plain s.function (Copy l)) ≡ Some o
      by None d g = ap (λ q. value.behind q (λ k. Some (pointed (pointer_now (standing s os) k) (n.grown.store.targets k)))) d ∙ ap Some g
      by (Some k) d g = ap (λ q. value.behind q (λ k. Some (pointed (pointer_now (standing s os) k) (n.grown.store.targets k)))) d ∙ ap Some (pointed-fine k ∙ g)

  abbrev pub with_grown : Grown → Now
  with_grown g = record { grown = g; last = n.last }

  -- what the machine makes of a pointer
  abbrev Aims : Location → Option Location → List Request → Grown → Type 0
  Aims l t rs g = (pointed_at (pointer_now (standing s os) l) (held n rs) l t ≡ held (with_grown g) rs) × IsFine s os (with_grown g)

  aim : (l : Location) (t : Option Location) (rs : List Request) (b : Bool) → pointer_now (standing s os) l ≡ b → Aims l t rs (if b then with_target n.grown l t else n.grown)
  aim l t rs true e = (
    ap (λ c. pointed_at c (held n rs) l t) e,
    record {
      objects = fine.objects;
      words = fine.words;
      targets = λ m z. changed-at l t n.grown.store.targets m None (λ p. true_false (sym e ∙ (ap (pointer_now (standing s os)) p ∙ z)) t) (fine.targets m z);
    },
  )
  aim l t rs false e = (ap (λ c. pointed_at c (held n rs) l t) e, fine)

  aim-is : (p : Place) (r : Root) (q : List Part) (t : Option Location) (g : Grown) (rs : List Request) → construct.pointed (at_now s n.grown) p (record { root = r; path = q }) r t ≡ Made g → Aims (record { root = r; path = q }) t rs g
  aim-is p Top q t g rs e = by (is_local t) e
    where
      l : Location
      l = record { root = Top; path = q }

      c : Bool
      c = is_some (pointer_at n.grown l)

      by : (b : Bool) → (if b then Stopped (refused reason.Constructor p) else Made (if c then with_target n.grown l t else n.grown)) ≡ Made g → Aims l t rs g
      by true d = cc
      by false d = subst (Aims l t rs) (made_same d) (aim l t rs c (sym (pointer-at s os n fine l) ∙ or_false c))
  aim-is p (Local i cs k) q t g rs e = subst (Aims (record { root = Local i cs k; path = q }) t rs) (made_same e)
      (aim (record { root = Local i cs k; path = q }) t rs (pointer_now (at_now s n.grown) (record { root = Local i cs k; path = q })) (sym (pointer-at s os n fine (record { root = Local i cs k; path = q }))))
  aim-is p (Answer i cs) q t g rs e = subst (Aims (record { root = Answer i cs; path = q }) t rs) (made_same e)
      (aim (record { root = Answer i cs; path = q }) t rs (pointer_now (at_now s n.grown) (record { root = Answer i cs; path = q })) (sym (pointer-at s os n fine (record { root = Answer i cs; path = q }))))

  -- one step of the machine gives the target
  pub point-is : (p : Place) (l : Left) (t : Target) (g : Grown) → IsTypedLeft l → IsTypedTarget t
      → and_made (spot (at_now s n.grown) false false l) (λ o. and_made (target (at_now s n.grown) t) (point_at (at_now s n.grown) p o)) ≡ Made g
      → (declares : Bool) (rest : Body) (mark : Mark) (outer : Frames) (rs : List Request) → (qs : List Request)
      × Reaches (places_by s os) (Go mark (names_of s) (machine.Point declares (left_of s.plain s.function false l) (target_of s.plain s.function t) rest) outer) (held n rs)
      (Go Inner (names_of s) rest outer) (held (with_grown g) qs) × IsFine s os (with_grown g)
  point-is p l t g tl tt d declares rest mark outer rs =
      let now : Site = at_now s n.grown in
      let places : Places = places_by s os in
      let c = and_made-is (spot now false false l) (λ o. and_made (target now t) (point_at now p o)) g d in
      let f = firm now (regular-at s os n fine) false l c.0 c.1 in
      let b = and_made-is (target now t) (point_at now p c.0) g c.2 in
      let same : point_at now p (Some f.0) b.0 ≡ Made g = sym (ap (λ o. point_at now p o b.0) f.1) ∙ b.2 in
      let q = aim-is p f.0.root f.0.path b.0 g rs same in (
        rs,
        step-point places mark (names_of s) rest outer (held n rs) declares (left_of s.plain s.function false l) (target_of s.plain s.function t) b.0 f.0 (held (with_grown g) rs)
            (target-is t b.0 tt b.1) (located-at s os n fine false false l c.0 tl c.1 ∙ ap Some f.1) q.0,
        q.1,
      )
