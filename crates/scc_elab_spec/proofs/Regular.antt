-- What stands where while the statements of a constructor run, and what is held there.
use Rattle.std.proofs.Common.{◌≡◌, ℕ, List, [], ◌∷◌, Bool, true, false, ◌&&◌, nat_eq, Option, Some, None, ap, refl, sym, ◌∙◌, subst, arith}
use Rattle.scc_semantics.specs.Location.{Location, Part, Member, Element, Root, Top, Local, Answer, same_part, same_path, same_calls, same_root, same}
use Rattle.scc_semantics.specs.Places.{Places}
use Rattle.scc_semantics.specs.Store.{Store, changed}
use Rattle.scc_semantics.specs.Scene.{Scene}
use Rattle.scc_semantics.specs.Value.{locate, value}
use Rattle.scc_core_spec.specs.Resolved.{Made}
use Rattle.scc_elab_spec.specs.Term.{Term, Left}
use Rattle.scc_elab_spec.specs.Design.{Object}
use Rattle.scc_elab_spec.specs.Grown.{Grown, nothing}
use Rattle.scc_elab_spec.specs.Worth.{Site, at_now, spot, worth, kind_there}
use Rattle.scc_elab_spec.specs.Construct.{Now}
use Rattle.scc_elab_spec.specs.Spoken.{left_of, expr_of}
use Rattle.scc_elab_spec.specs.Typed.{IsTyped, IsTypedLeft}
use Rattle.scc_elab_spec.specs.Common.{IsRegular, places_now, pointer_now, names_of}
use Rattle.scc_elab_spec.proofs.Chains.{and-first, and-second}
use Rattle.scc_elab_spec.proofs.Valued.{valued, located}

pub nat_eq-is : (m n : ℕ) → nat_eq m n ≡ true → m ≡ n
nat_eq-is m n e = grind arith

pub same_part-is : (a b : Part) → same_part a b ≡ true → a ≡ b
same_part-is (Member a) (Member b) e = ap Member (nat_eq-is a b e)
same_part-is (Element a) (Element b) e = ap Element (nat_eq-is a b e)
same_part-is (Member a) (Element b) e = cc
same_part-is (Element a) (Member b) e = cc

pub same_path-is : (p q : List Part) → same_path p q ≡ true → p ≡ q
same_path-is [] [] e = refl
same_path-is (a ∷ p) (b ∷ q) e = λ i. same_part-is a b (and-first (same_part a b) (same_path p q) e) i ∷ same_path-is p q (and-second (same_part a b) (same_path p q) e) i
same_path-is [] (b ∷ q) e = cc
same_path-is (a ∷ p) [] e = cc

same_calls-is : (p q : List ℕ) → same_calls p q ≡ true → p ≡ q
same_calls-is [] [] e = refl
same_calls-is (a ∷ p) (b ∷ q) e = λ i. nat_eq-is a b (and-first (nat_eq a b) (same_calls p q) e) i ∷ same_calls-is p q (and-second (nat_eq a b) (same_calls p q) e) i
same_calls-is [] (b ∷ q) e = cc
same_calls-is (a ∷ p) [] e = cc

same_root-is : (r q : Root) → same_root r q ≡ true → r ≡ q
same_root-is Top Top e = refl
same_root-is (Local p c d) (Local q k f) e =
    let h = and-first (nat_eq p q && same_calls c k) (nat_eq d f) e in
    λ i. Local (nat_eq-is p q (and-first (nat_eq p q) (same_calls c k) h) i) (same_calls-is c k (and-second (nat_eq p q) (same_calls c k) h) i)
    (nat_eq-is d f (and-second (nat_eq p q && same_calls c k) (nat_eq d f) e) i)
same_root-is (Answer p c) (Answer q k) e = λ i. Answer (nat_eq-is p q (and-first (nat_eq p q) (same_calls c k) e) i) (same_calls-is c k (and-second (nat_eq p q) (same_calls c k) e) i)
same_root-is Top (Local q k f) e = cc
same_root-is Top (Answer q k) e = cc
same_root-is (Local p c d) Top e = cc
same_root-is (Local p c d) (Answer q k) e = cc
same_root-is (Answer p c) Top e = cc
same_root-is (Answer p c) (Local q k f) e = cc

pub same-is : (l m : Location) → same l m ≡ true → l ≡ m
same-is l m e = λ i. record {
  root = same_root-is l.root m.root (and-first (same_root l.root m.root) (same_path l.path m.path) e) i;
  path = same_path-is l.path m.path (and-second (same_root l.root m.root) (same_path l.path m.path) e) i;
}

-- what a changed function is at a location
pub changed-at : {A : Type 0} (l : Location) (v : A) (f : Location → A) (m : Location) (z : A) → (l ≡ m → v ≡ z) → f m ≡ z → changed l v f m ≡ z
changed-at l v f m z h e = by (same l m) refl
  where
    by : (b : Bool) → same l m ≡ b → changed l v f m ≡ z
    by true d = rw d (h (same-is l m d))
    by false d = rw d e

pub changed-same : {A : Type 0} (l : Location) (v : A) (f : Location → A) → f l ≡ v → changed l v f ≡ f
changed-same l v f e = λ i m. changed-at l v f m (f m) (λ p. sym e ∙ ap f p) refl i

-- what is made, but for its objects, is nothing
abbrev pub of_objects : List Object → Grown
of_objects os = record { objects = os; store = nothing.store; bound = nothing.bound; made = nothing.made; vectors = []; declared = []; turns = 0; bits = 0 }

abbrev pub standing : Site → List Object → Site
standing s os = at_now s (of_objects os)

abbrev pub places_by : Site → List Object → Places
places_by s os = places_now (standing s os)

-- these objects are made; where no number stands, no word is held, and where no pointer stands, no target
pub record IsFine (s : Site) (os : List Object) (n : Now) : Type 0 where
  pub objects : n.grown.objects ≡ os
  pub words : (l : Location) → kind_there (standing s os) l ≡ None → n.grown.store.words l ≡ 0
  pub targets : (l : Location) → pointer_now (standing s os) l ≡ false → n.grown.store.targets l ≡ None

abbrev pub scene_with : Site → List Object → Store → Scene
scene_with s os store = record { places = places_by s os; signals = λ l. 0; names = names_of s; store = store }

module _ (s : Site) (os : List Object) (n : Now) (fine : IsFine s os n) where
  pub kind-at : (l : Location) → kind_there (at_now s n.grown) l ≡ kind_there (standing s os) l
  kind-at l = ap (λ q. kind_there (standing s q) l) fine.objects

  pub pointer-at : (l : Location) → pointer_now (at_now s n.grown) l ≡ pointer_now (standing s os) l
  pointer-at l = ap (λ q. pointer_now (standing s q) l) fine.objects

  pub regular-at : IsRegular (at_now s n.grown)
  regular-at = record { words = λ l e. fine.words l (sym (kind-at l) ∙ e); targets = λ l e. fine.targets l (sym (pointer-at l) ∙ e) }

  pub valued-at : (e : Term) (x : ℕ) → IsTyped e → worth (at_now s n.grown) e ≡ Made x → value (scene_with s os n.grown.store) (expr_of s.plain s.function e) ≡ Some x
  valued-at e x t d = subst (λ q. value (scene_with s q n.grown.store) (expr_of s.plain s.function e) ≡ Some x) fine.objects (valued (at_now s n.grown) regular-at e x t d)

  pub located-at : (soft follow : Bool) (l : Left) (o : Option Location) → IsTypedLeft l → spot (at_now s n.grown) soft follow l ≡ Made o
      → locate (scene_with s os n.grown.store) (left_of s.plain s.function follow l) ≡ Some o
  located-at soft follow l o t d = subst (λ q. locate (scene_with s q n.grown.store) (left_of s.plain s.function follow l) ≡ Some o) fine.objects (located (at_now s n.grown) regular-at soft follow l o t d)
