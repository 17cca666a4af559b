-- Steps of two machines side by side: one step may be stuck, and then both are.
use Rattle.std.proofs.Common.{◌≡◌, ℕ, zero, suc, ◌≤◌, Bool, true, false, List, [], ◌∷◌, ◌++◌, map, Option, Some, None, option_map, if◌then◌else◌, refl, sym, ap, ◌∙◌, subst, arith}
use Rattle.std.proofs.lemmas.List.{append_assoc}
use Rattle.scc_bits_kinds.specs.declared.kind.Kind.{Kind}
use Rattle.scc_bits_kinds.specs.declared.kind.Kind.TheVariants as kind
use Rattle.scc_semantics.specs.Location.{Location, Part, Element, within, same}
use Rattle.scc_semantics.specs.Expressions as body
use Rattle.scc_semantics.specs.Expressions.{Pick, Whole, OneBit, Bits}
use Rattle.scc_semantics.specs.Places.{Places, Thing, Number, Signal, Port}
use Rattle.scc_semantics.specs.Store.{changed}
use Rattle.scc_semantics.specs.Scene.{Names, Scene, followed, index_of}
use Rattle.scc_semantics.specs.Body as machine
use Rattle.scc_semantics.specs.Value.{Held, locate, behind, put_at, picked, with_words, with_targets, asked}
use Rattle.scc_semantics.specs.Machine.{Frames, Go, Mark, Outcome, unless_stuck, pointed_at, run, after}
use Rattle.scc_semantics_laws.proofs.Places.{same-is}
use Rattle.scc_core_spec.specs.Source.{Home}
use Rattle.scc_elab_spec.specs.Copied.{Here}
use Rattle.scc_elab_spec.specs.Program.{Function}
use Rattle.scc_elab_spec.specs.Spoken as spoken
use Rattle.scc_inline_process_laws.specs.Relation.{AlikeOutcome, IsKept, KeepsFrom}
use Rattle.scc_inline_process_laws.specs.SoundCode.{AllSmall}

-- an assignment leaves the pointers
pub put-targets : (th : Option Thing) (s : Scene) (a b : Held) (l : Location) (p : Pick) (x : ℕ) → put_at th s a l p x ≡ Some b → b.store.targets ≡ a.store.targets
put-targets (Some (Number k)) s a b l p x e = by (picked s k p (a.store.words l) x) e
  where
    by : (o : Option ℕ) → option_map (λ w. with_words a (changed l w a.store.words)) o ≡ Some b → b.store.targets ≡ a.store.targets
    by None e = cc
    by (Some w) e = let f : with_words a (changed l w a.store.words) ≡ b = cc in sym (ap (λ z. z.store.targets) f)
put-targets (Some (Signal k)) s a b l p x e = by (picked s k p 0 x) e
  where
    by : (o : Option ℕ) → option_map (λ w. asked a l x) o ≡ Some b → b.store.targets ≡ a.store.targets
    by None e = cc
    by (Some w) e = let f : asked a l x ≡ b = cc in sym (ap (λ z. z.store.targets) f)
put-targets (Some (Port k r)) s a b l p x e = by (picked s k p 0 x) e
  where
    by : (o : Option ℕ) → option_map (λ w. asked a r x) o ≡ Some b → b.store.targets ≡ a.store.targets
    by None e = cc
    by (Some w) e = let f : asked a r x ≡ b = cc in sym (ap (λ z. z.store.targets) f)
put-targets None s a b l p x e = by (picked s kind.Bool p 0 x) e
  where
    by : (o : Option ℕ) → option_map (λ w. a) o ≡ Some b → b.store.targets ≡ a.store.targets
    by None e = cc
    by (Some w) e = let f : a ≡ b = cc in sym (ap (λ z. z.store.targets) f)

changed-words : (words : Location → ℕ) (l : Location) (x : ℕ) (m : Location) → (m ≡ l → ⊥) → changed l x words m ≡ words m
changed-words words l x m other = by (same l m) refl
  where
    by : (c : Bool) → same l m ≡ c → (if c then x else words m) ≡ words m
    by true e = absurd (other (sym (same-is l m e)))
    by false e = refl

-- it leaves all words but that of its location
pub put-words : (th : Option Thing) (s : Scene) (a b : Held) (l : Location) (p : Pick) (x : ℕ) → put_at th s a l p x ≡ Some b → (m : Location) → (m ≡ l → ⊥) → b.store.words m ≡ a.store.words m
put-words th s a b l p x e m other = by th e
  where
    was : (f : ℕ → Held) → ((w : ℕ) → (f w).store.words m ≡ a.store.words m) → (o : Option ℕ) → option_map f o ≡ Some b → b.store.words m ≡ a.store.words m
    was f k None e = cc
    was f k (Some w) e = let g : f w ≡ b = cc in sym (ap (λ z. z.store.words m) g) ∙ k w

    by : (th : Option Thing) → put_at th s a l p x ≡ Some b → b.store.words m ≡ a.store.words m
    by (Some (Number k)) e = was (λ w. with_words a (changed l w a.store.words)) (λ w. changed-words a.store.words l w m other) (picked s k p (a.store.words l) x) e
    by (Some (Signal k)) e = was (λ w. asked a l x) (λ w. refl) (picked s k p 0 x) e
    by (Some (Port k r)) e = was (λ w. asked a r x) (λ w. refl) (picked s k p 0 x) e
    by None e = was (λ w. a) (λ w. refl) (picked s kind.Bool p 0 x) e

pub followed-is : (o : Option (Option Location)) (l : Location) → followed o ≡ Some l → o ≡ Some (Some l)
followed-is None l e = cc
followed-is (Some None) l e = cc
followed-is (Some (Some m)) l e = ap Some e

-- it depends on the scene by the index of a bit alone
pub put-same : (th : Option Thing) (s u : Scene) (a : Held) (l : Location) (p q : Pick) (x : ℕ) → ((k : Kind) (old new : ℕ) → picked s k p old new ≡ picked u k q old new)
    → put_at th s a l p x ≡ put_at th u a l q x
put-same (Some (Number k)) s u a l p q x e = ap (option_map (λ w. with_words a (changed l w a.store.words))) (e k (a.store.words l) x)
put-same (Some (Signal k)) s u a l p q x e = ap (option_map (λ w. asked a l x)) (e k 0 x)
put-same (Some (Port k r)) s u a l p q x e = ap (option_map (λ w. asked a r x)) (e k 0 x)
put-same None s u a l p q x e = ap (option_map (λ w. a)) (e kind.Bool 0 x)

-- a whole number is put at its location
pub put-whole : (places : Places) (s : Scene) (a : Held) (V v : Option ℕ) (W : Option (Option Location)) (l : Location) (k : Kind) (next : Held → Outcome)
    → V ≡ v → W ≡ Some (Some l) → places.things l ≡ Some (Number k)
    → unless_stuck a V (λ x. unless_stuck a (followed W) (λ l. unless_stuck a (put_at (places.things l) s a l Whole x) next)) ≡ unless_stuck a v (λ x. next (with_words a (changed l x a.store.words)))
put-whole places s a V v W l k next e f g =
    ap (λ o. unless_stuck a o (λ x. unless_stuck a (followed W) (λ l. unless_stuck a (put_at (places.things l) s a l Whole x) next))) e
    ∙ (ap (λ w. unless_stuck a v (λ x. unless_stuck a (followed w) (λ l. unless_stuck a (put_at (places.things l) s a l Whole x) next))) f
    ∙ ap (λ t. unless_stuck a v (λ x. unless_stuck a (put_at t s a l Whole x) next)) g)

-- a pointer is led
pub lead-pointer : (places : Places) (a : Held) (V v : Option (Option Location)) (W : Option (Option Location)) (l : Location) (next : Held → Outcome)
    → V ≡ v → W ≡ Some (Some l) → places.pointers l ≡ true
    → unless_stuck a V (λ o. unless_stuck a (followed W) (λ l. next (pointed_at (places.pointers l) a l o))) ≡ unless_stuck a v (λ o. next (with_targets a (changed l o a.store.targets)))
lead-pointer places a V v W l next e f g =
    ap (λ q. unless_stuck a q (λ o. unless_stuck a (followed W) (λ l. next (pointed_at (places.pointers l) a l o)))) e
    ∙ (ap (λ w. unless_stuck a v (λ o. unless_stuck a (followed w) (λ l. next (pointed_at (places.pointers l) a l o)))) f
    ∙ ap (λ b. unless_stuck a v (λ o. next (pointed_at b a l o))) g)

append_none : (xs : List Part) → xs ++ [] ≡ xs
append_none [] = refl
append_none (x ∷ xs) = ap (λ z. x ∷ z) (append_none xs)

module _ (home : Home) (places : Places) (own : Names) (h : Here) where
  -- an element of a local
  pub element-at : (f : Function) (s : Scene) (is : List ℕ) (l : body.Left) (at : Location) → AllSmall home places own h is → locate s l ≡ Some (Some at)
      → locate s (spoken.element h.plain f l is) ≡ Some (Some (record { root = at.root; path = at.path ++ map Element is }))
  element-at f s [] l at small e = e ∙ ap (λ p. let z : Location = record { root = at.root; path = p } in Some (Some z)) (sym (append_none at.path))
  element-at f s (i ∷ is) l at small e =
      element-at f s is (body.Indexed l (body.Literal (kind.Native 32 true) i)) (within at (Element i)) small.1
      (ap (λ o. behind o (λ l. Some (Some (within l (Element (index_of (kind.Native 32 true) i)))))) e ∙ ap (λ i. Some (Some (within at (Element i)))) small.0)
      ∙ ap (λ p. let z : Location = record { root = at.root; path = p } in Some (Some z)) (append_assoc at.path (Element i ∷ []) (map Element is))

module _ (home : Home) (places : Places) (signals : Location → ℕ) (own : Names) (h : Here) where
  abbrev pub outcomes : Outcome → Outcome → Type 0
  outcomes x y = AlikeOutcome home places own h x y

  abbrev pub kept : Outcome → Type 0
  kept x = IsKept home places own h x

  abbrev pub keeps : Frames → Held → Type 0
  keeps f a = KeepsFrom home places own h signals f a

  abbrev pub run_plain : ℕ → Frames → Held → Outcome
  run_plain n f a = run places (spoken.function_body h.plain) signals n f a

  abbrev pub run_copy : ℕ → Frames → Held → Outcome
  run_copy m f a = run places (λ f. machine.End) signals m f a

  abbrev pub trace : ℕ → Frames → Held → Outcome
  trace j f a = after places (λ f. machine.End) signals j f a

  -- the copy follows: no fewer statements, and it comes to the same
  abbrev pub Follows : ℕ → Frames → Frames → Held → Type 0
  Follows n f f' a = (m : ℕ) × (n ≤ m) × outcomes (run_plain n f a) (run_copy m f' a)

  both-same : {A : Type 0} (n : ℕ) (a : Held) (o : Option A) (P : A → Outcome) (Q R : ℕ → A → Outcome) → ((j : ℕ) → kept (unless_stuck a o (R j)))
      → ((x : A) → o ≡ Some x → ((j : ℕ) → kept (R j x)) → (m : ℕ) × (n ≤ m) × outcomes (P x) (Q m x))
      → (m : ℕ) × (n ≤ m) × outcomes (unless_stuck a o P) (unless_stuck a o (Q m))
  both-same n a None P Q R keep next = (n, omega arith, refl)
  both-same n a (Some x) P Q R keep next = next x refl keep

  -- both are stuck, or both go on
  pub both : {A : Type 0} (n : ℕ) (a : Held) (o q : Option A) → q ≡ o → (P : A → Outcome) (Q R : ℕ → A → Outcome) → ((j : ℕ) → kept (unless_stuck a q (R j)))
      → ((x : A) → o ≡ Some x → ((j : ℕ) → kept (R j x)) → (m : ℕ) × (n ≤ m) × outcomes (P x) (Q m x))
      → (m : ℕ) × (n ≤ m) × outcomes (unless_stuck a o P) (unless_stuck a q (Q m))
  both n a o q e P Q R keep next = let r = both-same n a o P Q R (λ j. subst (λ z. kept (unless_stuck a z (R j))) e (keep j)) next in
      (r.0, r.1, subst (λ z. outcomes (unless_stuck a o P) (unless_stuck a z (Q r.0))) (sym e) r.2)

  pub pop : (mark : Mark) (names : Names) (k : Frames) (a : Held) (n : ℕ) → run_copy n (Go mark names machine.End k) a ≡ run_copy n k a
  pop mark names k a zero = refl
  pop mark names k a (suc n) = refl

  pub pop-plain : (mark : Mark) (names : Names) (k : Frames) (a : Held) (n : ℕ) → run_plain n (Go mark names machine.End k) a ≡ run_plain n k a
  pop-plain mark names k a zero = refl
  pop-plain mark names k a (suc n) = refl

  pub keeps-pop : (mark : Mark) (names : Names) (k : Frames) (a : Held) → keeps (Go mark names machine.End k) a → keeps k a
  keeps-pop mark names k a keep zero = keep zero
  keeps-pop mark names k a keep (suc j) = keep (suc j)
