-- Terms and assignments do the same from two actings that hold the same in what they read.
use Rattle.std.proofs.Common.{◌≡◌, ℕ, Bool, true, false, ◌||◌, nat_eq, List, [], ◌∷◌, ◌++◌, Option, Some, None, refl, sym, ap, ◌∙◌, arith}
use Rattle.std.specs.Prelude.{option_map, option_and_then}
use Rattle.std.specs.List.{list_any}
use Rattle.scc_bits_kinds.specs.Kinds.{width_of, number_of, stored}
use Rattle.scc_bits.specs.Values.{applied}
use Rattle.scc_bits_kinds.specs.Bits.{part, joined}
use Rattle.scc_semantics.specs.Scene.{with_two, chosen, index_of, bit_at, with_bit}
use Rattle.scc_core_spec.specs.Term.{Term, Literal, Load, Read, Convert, Unary, Binary, Choose, Bit, Range, Join, Left, Cell, Prefix, Null, Follow, Member, Index, Pick, Whole, OneBit, Bits, kind_of}
use Rattle.scc_core_spec.specs.Static.{Cells, grown}
use Rattle.scc_core_spec.specs.Named.{Step, Named, At}
use Rattle.scc_core_spec.specs.Uses.{Use, loads, inside, cells_of, among}
use Rattle.scc_core_spec.specs.Uses as uses
use Rattle.scc_core_spec.specs.Flow.{CellSet}
use Rattle.scc_blocks_spec.specs.Acting.{Acting, word_in, steps_in, cell_named, word_or_zero, picked}
use Rattle.scc_core_effect_laws.specs.Sound.{AllUses, SizedUse}
use Rattle.scc_core_effect_laws.specs.Alike.{Both}
use Rattle.scc_core_effect_laws.proofs.Names.{or-first, or-second, true-false, named-in}

pub uses-first : (P : Use → Type 0) (xs ys : List Use) → AllUses P (xs ++ ys) → AllUses P xs
uses-first P [] ys h = tt
uses-first P (x ∷ xs) ys h = (h.0, uses-first P xs ys h.1)

pub uses-second : (P : Use → Type 0) (xs ys : List Use) → AllUses P (xs ++ ys) → AllUses P ys
uses-second P [] ys h = h
uses-second P (x ∷ xs) ys h = uses-second P xs ys h.1

pub uses-join : (P : Use → Type 0) (xs ys : List Use) → AllUses P xs → AllUses P ys → AllUses P (xs ++ ys)
uses-join P [] ys h k = k
uses-join P (x ∷ xs) ys h k = (h.0, uses-join P xs ys h.1 k)

pub uses-zip : (P Q R : Use → Type 0) (xs : List Use) → ((x : Use) → P x → Q x → R x) → AllUses P xs → AllUses Q xs → AllUses R xs
uses-zip P Q R [] f h k = tt
uses-zip P Q R (x ∷ xs) f h k = (f x h.0 k.0, uses-zip P Q R xs f h.1 k.1)

pub bit-uses : (P : Use → Type 0) (p : Rattle.scc_base.specs.declared.refusal.Place.Place) (a e : Term) → AllUses P (loads (Bit p a e)) → AllUses P (loads a) × AllUses P (loads e)
bit-uses P p (Load q k l) e h =
    let more = uses-second P (inside l) (loads e ++ record { place = q; left = l } ∷ []) h in
    (uses-join P (inside l) (record { place = q; left = l } ∷ []) (uses-first P (inside l) _ h) (uses-second P (loads e) _ more), uses-first P (loads e) _ more)
bit-uses P p a e h = (uses-first P (loads a) (loads e) h, uses-second P (loads a) (loads e) h)

pub not-any : (u : CellSet) (c : ℕ) (xs : List ℕ) → among c xs ≡ true → list_any u xs ≡ false → u c ≡ false
not-any u c [] e f = true-false (sym e)
not-any u c (x ∷ xs) e f = by (nat_eq c x) refl (λ h. not-any u c xs h (or-second (u x) (list_any u xs) f))
  where
    equal : nat_eq c x ≡ true → x ≡ c
    equal h = grind arith

    by : (b : Bool) → nat_eq c x ≡ b → (among c xs ≡ true → u c ≡ false) → u c ≡ false
    by true h more = ap u (sym (equal h)) ∙ or-first (u x) (list_any u xs) f
    by false h more = more (ap (λ b. b || among c xs) (sym h) ∙ e)

same-load : (cs : Cells) (a b : Acting) (o q : Option (List Step)) → o ≡ q → ((s : List Step) (c : ℕ) → o ≡ Some s → cell_named cs (Some s) ≡ Some c → a.now c ≡ b.now c)
    → option_map (λ s. word_or_zero a (cell_named cs (Some s))) o ≡ option_map (λ s. word_or_zero b (cell_named cs (Some s))) q
same-load cs a b o q e l = by o l ∙ ap (option_map (λ s. word_or_zero b (cell_named cs (Some s)))) e
  where
    by : (o : Option (List Step)) → ((s : List Step) (c : ℕ) → o ≡ Some s → cell_named cs (Some s) ≡ Some c → a.now c ≡ b.now c)
        → option_map (λ s. word_or_zero a (cell_named cs (Some s))) o ≡ option_map (λ s. word_or_zero b (cell_named cs (Some s))) o
    by None l = refl
    by (Some s) l = ap Some (word (cell_named cs (Some s)) (λ c. l s c refl))
      where
        word : (o : Option ℕ) → ((c : ℕ) → o ≡ Some c → a.now c ≡ b.now c) → word_or_zero a o ≡ word_or_zero b o
        word None l = refl
        word (Some c) l = l c refl

module _ (cs : Cells) (u : CellSet) (a b : Acting) (both : Both cs u a b) where
  abbrev Good : Use → Type 0
  Good w = SizedUse cs w × (list_any u (cells_of cs w.left) ≡ false)

  loaded-same : (l : Left) (p : Rattle.scc_base.specs.declared.refusal.Place.Place) → steps_in cs a l ≡ steps_in cs b l → AllUses Good (inside l ++ record { place = p; left = l } ∷ [])
      → option_map (λ s. word_or_zero a (cell_named cs (Some s))) (steps_in cs a l) ≡ option_map (λ s. word_or_zero b (cell_named cs (Some s))) (steps_in cs b l)
  loaded-same l p e h =
      let good = (uses-second Good (inside l) (record { place = p; left = l } ∷ []) h).0 in
      same-load cs a b (steps_in cs a l) (steps_in cs b l) e
      (λ s c f g. both.now c (not-any u c (cells_of cs l) (named-in cs a both.fixed l good.0 s c f g) good.1))

  mutual
    pub same-word : (e : Term) → AllUses Good (loads e) → word_in cs a e ≡ word_in cs b e
    same-word (Literal p k w) h = refl
    same-word (Load p k l) h = loaded-same l p (same-steps l (uses-first Good (inside l) _ h)) h
    same-word (Read p k l) h = loaded-same l p (same-steps l (uses-first Good (inside l) _ h)) h
    same-word (Convert p k e) h = ap (option_map (λ x. stored k (number_of (kind_of e) x))) (same-word e h)
    same-word (Unary p k o e) h = ap (option_and_then (λ x. applied o (kind_of e) x (kind_of e) x)) (same-word e h)
    same-word (Binary p k o e f) h = λ i. with_two (same-word e (uses-first Good (loads e) (loads f) h) i) (same-word f (uses-second Good (loads e) (loads f) h) i) (λ x y. applied o (kind_of e) x (kind_of f) y)
    same-word (Choose p k t e f) h =
        let g = uses-second Good (loads t) (loads e ++ loads f) h in
        λ i. option_and_then (λ n. with_two (same-word e (uses-first Good (loads e) (loads f) g) i) (same-word f (uses-second Good (loads e) (loads f) g) i)
        (λ x y. Some (chosen n (stored k (number_of (kind_of e) x)) (stored k (number_of (kind_of f) y))))) (same-word t (uses-first Good (loads t) (loads e ++ loads f) h) i)
    same-word (Bit p e j) h =
        let g = bit-uses Good p e j h in
        λ i. with_two (same-word e g.0 i) (same-word j g.1 i) (λ x n. Some (bit_at (width_of (kind_of e)) x (index_of (kind_of j) n)))
    same-word (Range p k e v l) h = ap (option_map (part v l)) (same-word e h)
    same-word (Join p k e f) h = λ i. with_two (same-word e (uses-first Good (loads e) (loads f) h) i) (same-word f (uses-second Good (loads e) (loads f) h) i) (λ x y. Some (joined (width_of (kind_of f)) x y))

    pub same-steps : (l : Left) → AllUses Good (inside l) → steps_in cs a l ≡ steps_in cs b l
    same-steps (Cell p n) h = refl
    same-steps (Prefix p n) h = refl
    same-steps (Null p) h = refl
    same-steps (Follow p s l) h = refl
    same-steps (Member l n) h = ap (λ o. grown o (Named n)) (same-steps l h)
    same-steps (Index l size e) h = λ i. option_and_then (λ n. grown (same-steps l (uses-first Good (inside l) (loads e) h) i) (At (index_of (kind_of e) n))) (same-word e (uses-second Good (inside l) (loads e) h) i)

  pub same-picked : (k : Pick) (width old new : ℕ) → AllUses Good (uses.picked k) → picked cs a width k old new ≡ picked cs b width k old new
  same-picked Whole width old new h = refl
  same-picked (OneBit e) width old new h = ap (option_map (λ i. with_bit width old (index_of (kind_of e) i) new)) (same-word e h)
  same-picked (Bits v l) width old new h = refl
