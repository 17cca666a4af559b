-- What is written is what stands there, and nothing else changes.
use Rattle.std.proofs.Common.{◌≡◌, refl, sym, ap, ◌∙◌, subst, arith, ℕ, Bool, true, false, nat_eq, if◌then◌else◌, cond, List, [], ◌∷◌, Option, Some, None, option_map}
use Rattle.indexmap.specs.IndexMap.{insert_entry}
use Rattle.scc_semantics.specs.Location.{Location, same}
use Rattle.scc_semantics.specs.Store as def
use Rattle.scc_semantics.specs.Store.{changed}
use Rattle.scc_semantics_laws.proofs.Places.{same-is, same-self}
use Rattle.scc_elab_store.specs.declared.locations.LocalOf.{LocalOf}
use Rattle.scc_elab_store.specs.declared.locations.Location.{Location as Held}
use Rattle.scc_elab_store.specs.declared.store.HeldWord.{HeldWord}
use Rattle.scc_elab_store.specs.declared.store.HeldTarget.{HeldTarget}
use Rattle.scc_elab_store.specs.declared.store.Store.{Store}
use Rattle.scc_elab_store.specs.contracts.locations.LocationPartialEq.TheImpl as location_equal
use Rattle.scc_elab_store.specs.Locations.{root_of, location_of}
use Rattle.scc_elab_store.specs.Stores.{entry_at, turn_of, word_if, target_if, store_of}
use Rattle.scc_elab_store.proofs.Same.{location_is}

same_swap : (l m : Location) → same l m ≡ same m l
same_swap l m = by (same l m) (same m l) refl refl
  where
    by : (b c : Bool) → same l m ≡ b → same m l ≡ c → same l m ≡ same m l
    by true c e f = let p : same m l ≡ true = subst (λ x. same x l ≡ true) (same-is l m e) (same-self l) in e ∙ sym p
    by false true e f = let p : same l m ≡ true = subst (λ x. same x m ≡ true) (same-is m l f) (same-self m) in p ∙ sym f
    by false false e f = e ∙ sym f

twice : {A : Type 0} (b : Bool) (x y z : A) → cond b x z ≡ cond b x (cond b y z)
twice true x y z = refl
twice false x y z = refl

module _ {X : Type 0} where
  other : (k : Held) (e : Held × X) (v : X) (m : Location) (z : Option X) → location_equal.eq-value.it k e.0 ≡ false → (b c : Bool) → same m (location_of e.0) ≡ b → same (location_of k) m ≡ c
      → cond b (Some e.1) (cond c (Some v) z) ≡ cond c (Some v) (cond b (Some e.1) z)
  other k e v m z p true true f g =
      let q : m ≡ location_of e.0 = same-is m (location_of e.0) f in
      let r : same (location_of k) (location_of e.0) ≡ true = ap (λ l. same (location_of k) l) (sym q) ∙ g in
      let s : true ≡ false = sym r ∙ sym (location_is k e.0) ∙ p in cc s
  other k e v m z p true false f g = refl
  other k e v m z p false true f g = refl
  other k e v m z p false false f g = refl

  cases : (es : List (Held × X)) (k : Held) (e : Held × X) (v : X) (m : Location) → entry_at (insert_entry location_equal.eq-value.it es k v) m ≡ (if same (location_of k) m then Some v else entry_at es m)
      → (b : Bool) → location_equal.eq-value.it k e.0 ≡ b → entry_at (if b then (e.0, v) ∷ es else e ∷ insert_entry location_equal.eq-value.it es k v) m ≡ (if same (location_of k) m then Some v else entry_at (e ∷ es) m)
  cases es k e v m h true p =
      let q : location_of k ≡ location_of e.0 = same-is (location_of k) (location_of e.0) (sym (location_is k e.0) ∙ p) in
      let r : same (location_of k) m ≡ same m (location_of e.0) = same_swap (location_of k) m ∙ ap (λ l. same m l) q in
      twice (same m (location_of e.0)) (Some v) (Some e.1) (entry_at es m) ∙ ap (λ b. cond b (Some v) (cond (same m (location_of e.0)) (Some e.1) (entry_at es m))) (sym r)
  cases es k e v m h false p = ap (λ o. cond (same m (location_of e.0)) (Some e.1) o) h ∙ other k e v m (entry_at es m) p (same m (location_of e.0)) (same (location_of k) m) refl refl

  pub entry_put : (es : List (Held × X)) (k : Held) (v : X) (m : Location) → entry_at (insert_entry location_equal.eq-value.it es k v) m ≡ (if same (location_of k) m then Some v else entry_at es m)
  entry_put [] k v m = ap (λ b. cond b (Some v) None) (same_swap m (location_of k))
  entry_put (e ∷ es) k v m = cases es k e v m (entry_put es k v m) (location_equal.eq-value.it k e.0) refl

nat_eq-self : (n : ℕ) → nat_eq n n ≡ true
nat_eq-self n = grind arith

-- the turns of one root are one
same_turn : (ds : List (LocalOf × ℕ)) (l m : Location) → same l m ≡ true → nat_eq (turn_of ds l.root) (turn_of ds m.root) ≡ true
same_turn ds l m p = ap (λ z. nat_eq (turn_of ds l.root) (turn_of ds z.root)) (sym (same-is l m p)) ∙ nat_eq-self (turn_of ds l.root)

word_put : (ds : List (LocalOf × ℕ)) (es : List (Held × HeldWord)) (k : Held) (w : ℕ) (m : Location)
    → word_if (turn_of ds m.root) (entry_at (insert_entry location_equal.eq-value.it es k (record { since = turn_of ds (root_of k.local); word = w })) m) ≡ changed (location_of k) w (λ l. word_if (turn_of ds l.root) (entry_at es l)) m
word_put ds es k w m = ap (word_if (turn_of ds m.root)) (entry_put es k (record { since = turn_of ds (root_of k.local); word = w }) m) ∙ by (same (location_of k) m) refl
  where
    by : (b : Bool) → same (location_of k) m ≡ b → word_if (turn_of ds m.root) (if b then Some (record { since = turn_of ds (root_of k.local); word = w }) else entry_at es m) ≡ (if b then w else word_if (turn_of ds m.root) (entry_at es m))
    by true p = ap (λ b. if b then w else 0) (same_turn ds (location_of k) m p)
    by false p = refl

target_put : (ds : List (LocalOf × ℕ)) (es : List (Held × HeldTarget)) (k : Held) (t : Option Held) (m : Location)
    → target_if (turn_of ds m.root) (entry_at (insert_entry location_equal.eq-value.it es k (record { since = turn_of ds (root_of k.local); to = t })) m) ≡ changed (location_of k) (option_map location_of t) (λ l. target_if (turn_of ds l.root) (entry_at es l)) m
target_put ds es k t m = ap (target_if (turn_of ds m.root)) (entry_put es k (record { since = turn_of ds (root_of k.local); to = t }) m) ∙ by (same (location_of k) m) refl
  where
    by : (b : Bool) → same (location_of k) m ≡ b → target_if (turn_of ds m.root) (if b then Some (record { since = turn_of ds (root_of k.local); to = t }) else entry_at es m) ≡ (if b then option_map location_of t else target_if (turn_of ds m.root) (entry_at es m))
    by true p = ap (λ b. if b then option_map location_of t else None) (same_turn ds (location_of k) m p)
    by false p = refl

-- the store of such entries
abbrev store_by : List (LocalOf × ℕ) → List (Held × HeldWord) → List (Held × HeldTarget) → def.Store
store_by ds ws ts = record { words = λ l. word_if (turn_of ds l.root) (entry_at ws l); targets = λ l. target_if (turn_of ds l.root) (entry_at ts l) }

pub words_put : (s : Store) (ws : List (Held × HeldWord)) (k : Held) (w since : ℕ) → ws ≡ insert_entry location_equal.eq-value.it s.words.entries k (record { since = since; word = w }) → since ≡ turn_of s.declared.entries (root_of k.local)
    → store_by s.declared.entries ws s.targets.entries ≡ record { words = changed (location_of k) w (store_of s).words; targets = (store_of s).targets }
words_put s ws k w since e d =
    ap (λ z. store_by s.declared.entries z s.targets.entries) (e ∙ ap (λ n. insert_entry location_equal.eq-value.it s.words.entries k (record { since = n; word = w })) d)
    ∙ (λ i. record { words = λ m. word_put s.declared.entries s.words.entries k w m i; targets = (store_of s).targets })

pub targets_put : (s : Store) (ts : List (Held × HeldTarget)) (k : Held) (t : Option Held) (since : ℕ) → ts ≡ insert_entry location_equal.eq-value.it s.targets.entries k (record { since = since; to = t }) → since ≡ turn_of s.declared.entries (root_of k.local)
    → store_by s.declared.entries s.words.entries ts ≡ record { words = (store_of s).words; targets = changed (location_of k) (option_map location_of t) (store_of s).targets }
targets_put s ts k t since e d =
    ap (λ z. store_by s.declared.entries s.words.entries z) (e ∙ ap (λ n. insert_entry location_equal.eq-value.it s.targets.entries k (record { since = n; to = t })) d)
    ∙ (λ i. record { words = (store_of s).words; targets = λ m. target_put s.declared.entries s.targets.entries k t m i })
