-- A word that is 0 already stays when it is cleared.
use Rattle.std.proofs.Common.{◌≡◌, refl, sym, ap, ◌∙◌, ℕ, Bool, true, false, List, [], ◌∷◌, ◌++◌, map, Option, Some, None, option_map, slice_get, OnOk, Result, Ok, Err, if◌then◌else◌}
use Rattle.scc_semantics.specs.Location.{Location, Part, Element, same}
use Rattle.scc_semantics.specs.Store.{changed}
use Rattle.scc_semantics_laws.proofs.Places.{same-is}
use Rattle.scc_elab_spec.specs.Grown.{Grown, with_store, with_word, with_target, local_of}
use Rattle.scc_elab_spec.specs.Program.{Member}
use Rattle.scc_elab_spec.specs.Types.{is_direct}
use Rattle.scc_elab_spec.specs.Worth.{Site}
use Rattle.scc_elab_spec.specs.Construct.{declared_from}
use Rattle.scc_plain_tree.specs.declared.program.PlainMember.{PlainMember}
use Rattle.scc_plain_view.specs.Plains.{member_of}
use Rattle.scc_elab_spec.specs.Bodies.{elements}
use Rattle.scc_elab_spec.specs.Made.{elements_at}
use Rattle.scc_elab_works.specs.Paths.{cleared, all_cleared, begun}

words_stay : (words : Location → ℕ) (l m : Location) → words l ≡ 0 → words m ≡ changed l 0 words m
words_stay words l m e = by (same l m) refl
  where
    by : (b : Bool) → same l m ≡ b → words m ≡ (if b then 0 else words m)
    by true s = ap words (sym (same-is l m s)) ∙ e
    by false s = refl

pub word_stays : (g : Grown) (l : Location) → g.store.words l ≡ 0 → g ≡ with_word g l 0
word_stays g l e = λ i. with_store g (record { words = λ m. words_stay g.store.words l m e i; targets = g.store.targets })

-- a declaration, element by element
pub declared_is : (s : Site) (n : ℕ) (m : Member) (all : List (List ℕ)) (g : Grown) → declared_from s n (Some m) all g ≡ all_cleared (is_direct m.shape.reach) s.object n (map (λ is. [] ++ map Element is) all) g
declared_is s n m [] g = refl
declared_is s n m (i ∷ all) g = declared_is s n m all (cleared (is_direct m.shape.reach) s.object n (map Element i) g)

-- of which the paths of elements are known
pub begun_is : {A E : Type 0} (r : Result A E) (s : Site) (n : ℕ) (o : Option Member) (ms : List PlainMember) (m : PlainMember) (sizes : List ℕ) (paths seen : List (List Part)) (direct : Bool) (g h : Grown) → o ≡ option_map member_of (slice_get ms n) → slice_get ms n ≡ Some m → sizes ≡ m.shape.sizes
    → paths ≡ elements_at [] sizes → seen ≡ paths → direct ≡ is_direct (member_of m).shape.reach → OnOk r (h ≡ all_cleared direct s.object n seen g) → OnOk r (h ≡ begun s n o g)
begun_is (Ok a) s n o ms m sizes paths seen direct g h e f q u v w k = k ∙ (λ i. all_cleared (w i) s.object n ((v ∙ u ∙ ap (elements_at []) q) i) g) ∙ sym (declared_is s n (member_of m) (elements m.shape.sizes) g)
    ∙ ap (λ z. begun s n z g) (sym (e ∙ ap (option_map member_of) f))
begun_is (Err a) s n o ms m sizes paths seen direct g h e f q u v w k = tt

pub cleared_already : (g : Grown) (l : Location) (direct : Bool) (object n : ℕ) (path : List Part) (word : ℕ) → direct ≡ true → l ≡ local_of object n path → word ≡ g.store.words l → word ≡ 0 → g ≡ cleared direct object n path g
cleared_already g l true object n path word d e f z = word_stays g (local_of object n path) (ap g.store.words (sym e) ∙ sym f ∙ z)
cleared_already g l false object n path word d e f z = cc
