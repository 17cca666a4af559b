-- What a look-up finds behind an insertion.
use Rattle.std.proofs.Common.{◌≡◌, ℕ, Bool, true, false, cond, ◌||◌, nat_eq, List, [], ◌∷◌, Option, Some, None, option_map, is_some, if◌then◌else◌, refl, sym, ap, ◌∙◌, subst, arith}
use Rattle.std.specs.Map.{lookup}
use Rattle.indexmap.specs.IndexMap.{insert_entry}
use Rattle.scc_semantics.specs.Location.{Part, Location, Top, same, same_path}
use Rattle.scc_elab_store.specs.declared.locations.LocalOf.{LocalOf}
use Rattle.scc_elab_store.specs.declared.locations.Location.{Location as Held}
use Rattle.scc_elab_store.specs.contracts.locations.LocationPartialEq.TheImpl as location_equal
use Rattle.scc_elab_store.specs.Locations.{root_of, location_of}
use Rattle.scc_elab_store.specs.Stores.{entry_at}
use Rattle.scc_elab_store.proofs.Same.{entry_is}
use Rattle.scc_elab_store.proofs.Puts.{entry_put}
use Rattle.scc_elab_spec.specs.Grown.{Bound}
use Rattle.scc_elab_grown.specs.declared.bounds.BoundTo.{BoundTo}
use Rattle.scc_elab_grown.specs.Bounds.{bound_to, bound_in, made_in, IsPut, IsMarked}

twice : {A : Type 0} (b : Bool) (x y z : A) → cond b x z ≡ cond b x (cond b y z)
twice true x y z = refl
twice false x y z = refl

module _ {K X : Type 0} (eq : K → K → Bool) (swap : (a b c : K) → eq a b ≡ true → eq c a ≡ eq c b) (joins : (a b c : K) → eq a b ≡ true → eq a c ≡ true → eq b c ≡ true) where
  other : (k m : K) (e : K × X) (v : X) (z : Option X) → eq k e.0 ≡ false → (b c : Bool) → eq m e.0 ≡ b → eq m k ≡ c → cond b (Some e.1) (cond c (Some v) z) ≡ cond c (Some v) (cond b (Some e.1) z)
  other k m e v z p true true f g = let s : true ≡ false = sym (joins m k e.0 g f) ∙ p in absurd cc
  other k m e v z p true false f g = refl
  other k m e v z p false true f g = refl
  other k m e v z p false false f g = refl

  pub lookup_put : (es : List (K × X)) (k : K) (v : X) (m : K) → lookup (eq m) (insert_entry eq es k v) ≡ (if eq m k then Some v else lookup (eq m) es)
  lookup_put [] k v m = refl
  lookup_put (e ∷ es) k v m = by (eq k e.0) refl (lookup_put es k v m)
    where
      by : (b : Bool) → eq k e.0 ≡ b → lookup (eq m) (insert_entry eq es k v) ≡ (if eq m k then Some v else lookup (eq m) es)
          → lookup (eq m) (if b then (e.0, v) ∷ es else e ∷ insert_entry eq es k v) ≡ (if eq m k then Some v else lookup (eq m) (e ∷ es))
      by true p h = twice (eq m e.0) (Some v) (Some e.1) (lookup (eq m) es) ∙ ap (λ b. cond b (Some v) (cond (eq m e.0) (Some e.1) (lookup (eq m) es))) (sym (swap k e.0 m p))
      by false p h = ap (λ o. cond (eq m e.0) (Some e.1) o) h ∙ other k m e v (lookup (eq m) es) p (eq m e.0) (eq m k) refl refl

pub eq_is : (a b : ℕ) → nat_eq a b ≡ true → a ≡ b
eq_is a b e = grind (arith, e)

eq_self : (a : ℕ) → nat_eq a a ≡ true
eq_self a = grind arith

pub nat_swap : (a b c : ℕ) → nat_eq a b ≡ true → nat_eq c a ≡ nat_eq c b
nat_swap a b c e = ap (λ n. nat_eq c n) (eq_is a b e)

pub nat_joins : (a b c : ℕ) → nat_eq a b ≡ true → nat_eq a c ≡ true → nat_eq b c ≡ true
nat_joins a b c e f = subst (λ n. nat_eq n c ≡ true) (eq_is a b e) f

pub nat_turn : (a b : ℕ) → nat_eq a b ≡ nat_eq b a
nat_turn a b = by (nat_eq a b) (nat_eq b a) refl refl
  where
    by : (c d : Bool) → nat_eq a b ≡ c → nat_eq b a ≡ d → nat_eq a b ≡ nat_eq b a
    by true d e f = let p : a ≡ b = eq_is a b e in e ∙ sym (ap (λ n. nat_eq n a) (sym p) ∙ eq_self a)
    by false true e f = let p : b ≡ a = eq_is b a f in let s : nat_eq a b ≡ true = ap (λ n. nat_eq a n) p ∙ eq_self a in s ∙ sym f
    by false false e f = e ∙ sym f

bound_case : (n : ℕ) (b : BoundTo) (m : ℕ) (o : Option BoundTo) (c : Bool) → nat_eq m n ≡ c → option_map (bound_to m) (if c then Some b else o) ≡ (if c then Some (bound_to n b) else option_map (bound_to m) o)
bound_case n b m o true e = ap (λ k. Some (bound_to k b)) (eq_is m n e)
bound_case n b m o false e = refl

pub bound_put : (es : List (ℕ × BoundTo)) (n : ℕ) (b : BoundTo) → IsPut (bound_in es) (bound_to n b) (bound_in (insert_entry nat_eq es n b))
bound_put es n b = λ i m. (ap (option_map (bound_to m)) (lookup_put nat_eq nat_swap nat_joins es n b m) ∙ bound_case n b m (lookup (nat_eq m) es) (nat_eq m n) refl
    ∙ ap (λ c. if c then Some (bound_to n b) else bound_in es m) (nat_turn m n)) i

pub is_made : (es : List (Held × Bool)) (at : Held) → at.local ≡ None → is_some (lookup (location_equal.eq-value.it at) es) ≡ made_in es (location_of at).path
is_made es at e = ap is_some (entry_is at es) ∙ ap (λ r. is_some (entry_at es (record { root = root_of r; path = (location_of at).path }))) e

or_some : {A : Type 0} (b : Bool) (x : A) (o : Option A) → is_some (if b then Some x else o) ≡ (b || is_some o)
or_some true x o = refl
or_some false x o = refl

pub made_put : (es : List (Held × Bool)) (at : Held) → at.local ≡ None → IsMarked (made_in es) (location_of at).path (made_in (insert_entry location_equal.eq-value.it es at true))
made_put es at e = λ i q. (ap is_some (entry_put es at true (record { root = Top; path = q })) ∙ or_some (same (location_of at) (record { root = Top; path = q })) true (entry_at es (record { root = Top; path = q }))
    ∙ ap (λ r. same (record { root = root_of r; path = (location_of at).path }) (record { root = Top; path = q }) || made_in es q) e) i
