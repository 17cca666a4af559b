-- What first assignments leave.
use Rattle.std.proofs.Common.{◌≡◌, ◌<◌, ◌^◌, ℕ, nat_eq, Bool, true, false, cond, List, [], ◌∷◌, Option, Some, None, max, refl, sym, ap, ◌∙◌, subst, arith, if◌then◌else◌}
use Rattle.std.specs.Prelude.{pos}
use Rattle.std.proofs.lemmas.Nat.{pow_pos}
use Rattle.scc_bits_kinds.specs.Numbers.{low}
use Rattle.scc_bits_kinds.proofs.Low.{low_word}
use Rattle.scc_svtree.specs.Sizes.{sized, assigned, fixed}
use Rattle.scc_svtree.specs.Code.{Code, End}
use Rattle.scc_svtree.specs.Running.{run, updated, after_assign}
use Rattle.scc_svtree.proofs.Agree.{or_first, or_second, eq_same, same_of_eq, eq_flip}
use Rattle.scc_blocks_run_laws.specs.Pieces.{First, firsts_code, first_term, first_at, is_source, is_source_of, or_else, whole}

-- a word that fits is assigned as it is
pub fixed_assigned : (w x : ℕ) → x < 2 ^ w → assigned w (fixed w false x) ≡ x
fixed_assigned w x h =
    let m : max w w ≡ w = omega arith in
    let e : low w (pos x) ≡ x = low_word w x h in
    ap (λ n. low w (pos (low n (pos (low w (pos x)))))) m ∙ ap (λ z. low w (pos (low w (pos z)))) e ∙ ap (λ z. low w (pos z)) e ∙ e

pub updated-same : (v u w : ℕ) (x : ℕ → ℕ) → nat_eq v u ≡ true → updated v w x u ≡ w
updated-same v u w x h = ap (λ b. cond b w (x u)) (eq_flip v u h)

pub not_flip : (u v : ℕ) → nat_eq u v ≡ false → nat_eq v u ≡ false
not_flip u v h = go (nat_eq v u) refl
  where
    go : (b : Bool) → nat_eq v u ≡ b → nat_eq v u ≡ false
    go false e = e
    go true e = let t : nat_eq u v ≡ true = eq_flip v u e in absurd (cc)

pub updated-other : (v u w : ℕ) (x : ℕ → ℕ) → nat_eq v u ≡ false → updated v w x u ≡ x u
updated-other v u w x h = ap (λ b. cond b w (x u)) (not_flip v u h)

-- the two parts of a lookup
record Tail (f : First) (fs : List First) (v : ℕ) (o : Option (Option ℕ)) : Type 0 where
  rest : first_at fs v ≡ o
  other : o ≡ None → nat_eq f.target v ≡ false

no-tail : (f : First) (fs : List First) (v : ℕ) → first_at (f ∷ fs) v ≡ None → (first_at fs v ≡ None) × (nat_eq f.target v ≡ false)
no-tail f fs v h = go (first_at fs v) refl (nat_eq f.target v) refl
  where
    go : (o : Option (Option ℕ)) → first_at fs v ≡ o → (b : Bool) → nat_eq f.target v ≡ b → (first_at fs v ≡ None) × (nat_eq f.target v ≡ false)
    go (Some x) e b k = let t : or_else (first_at fs v) (if nat_eq f.target v then Some f.source else None) ≡ Some x = ap (λ o. or_else o (if nat_eq f.target v then Some f.source else None)) e in absurd (cc)
    go None e false k = (e, k)
    go None e true k = let t : or_else (first_at fs v) (if nat_eq f.target v then Some f.source else None) ≡ Some f.source = (λ i. or_else (e i) (if k i then Some f.source else None)) in absurd (cc)

module _ (width : ℕ → ℕ) where
  abbrev pub firsts_run : List First → (ℕ → ℕ) → ℕ → ℕ
  firsts_run fs y = run width (firsts_code width fs End) y

  pub firsts-then : (fs : List First) (rest : Code) (y : ℕ → ℕ) → run width (firsts_code width fs rest) y ≡ run width rest (firsts_run fs y)
  firsts-then [] rest y = refl
  firsts-then (f ∷ fs) rest y = firsts-then fs rest (after_assign width (whole f.target) (first_term width f) y)

  abbrev word : First → (ℕ → ℕ) → ℕ
  word f y = assigned (width f.target) (sized false width y (first_term width f))

  pub first-keeps : (fs : List First) (y : ℕ → ℕ) (v : ℕ) → first_at fs v ≡ None → firsts_run fs y v ≡ y v
  first-keeps [] y v h = refl
  first-keeps (f ∷ fs) y v h = let p = no-tail f fs v h in first-keeps fs (updated f.target (word f y) y) v p.0 ∙ updated-other f.target v (word f y) y p.1

  zero-word : (w : ℕ) → assigned w (fixed w false 0) ≡ 0
  zero-word w = fixed_assigned w 0 (pow_pos w)

  pub first-zero : (fs : List First) (y : ℕ → ℕ) (v : ℕ) → first_at fs v ≡ Some None → firsts_run fs y v ≡ 0
  first-zero [] y v h = absurd (cc)
  first-zero (f ∷ fs) y v h = go (first-zero fs (updated f.target (word f y) y) v) (first_at fs v) refl (nat_eq f.target v) refl f.source refl
    where
      go : (first_at fs v ≡ Some None → firsts_run fs (updated f.target (word f y) y) v ≡ 0) → (o : Option (Option ℕ)) → first_at fs v ≡ o → (b : Bool) → nat_eq f.target v ≡ b → (s : Option ℕ) → f.source ≡ s → firsts_run fs (updated f.target (word f y) y) v ≡ 0
      go next (Some x) e b k s q = next (e ∙ sym (ap (λ o. or_else o (if nat_eq f.target v then Some f.source else None)) e) ∙ h)
      go next None e false k s q = let t : or_else (first_at fs v) (if nat_eq f.target v then Some f.source else None) ≡ None = (λ i. or_else (e i) (if k i then Some f.source else None)) in absurd (cc)
      go next None e true k (Some u) q = let t : or_else (first_at fs v) (if nat_eq f.target v then Some f.source else None) ≡ Some (Some u) = (λ i. or_else (e i) (if k i then Some (q i) else None)) in absurd (cc)
      go next None e true k None q = first-keeps fs (updated f.target (word f y) y) v e ∙ updated-same f.target v (word f y) y k ∙ ap (λ s. assigned (width f.target) (sized false width y (first_term width (record { target = f.target; source = s })))) q ∙ zero-word (width f.target)

  is-source-at : (fs : List First) (v u : ℕ) → first_at fs v ≡ Some (Some u) → is_source fs u ≡ true
  is-source-at [] v u h = absurd (cc)
  is-source-at (f ∷ fs) v u h = go (is-source-at fs v u) (first_at fs v) refl (nat_eq f.target v) refl f.source refl
    where
      go : (first_at fs v ≡ Some (Some u) → is_source fs u ≡ true) → (o : Option (Option ℕ)) → first_at fs v ≡ o → (b : Bool) → nat_eq f.target v ≡ b → (s : Option ℕ) → f.source ≡ s → is_source (f ∷ fs) u ≡ true
      go next (Some x) e b k s q = or_second (is_source_of f.source u) (is_source fs u) (next (e ∙ sym (ap (λ o. or_else o (if nat_eq f.target v then Some f.source else None)) e) ∙ h))
      go next None e false k s q = let t : or_else (first_at fs v) (if nat_eq f.target v then Some f.source else None) ≡ None = (λ i. or_else (e i) (if k i then Some f.source else None)) in absurd (cc)
      go next None e true k None q = let t : or_else (first_at fs v) (if nat_eq f.target v then Some f.source else None) ≡ Some None = (λ i. or_else (e i) (if k i then Some (q i) else None)) in absurd (cc)
      go next None e true k (Some t) q = let r : or_else (first_at fs v) (if nat_eq f.target v then Some f.source else None) ≡ Some (Some t) = (λ i. or_else (e i) (if k i then Some (q i) else None)) in
          let same : t ≡ u = cc in or_first (is_source_of f.source u) (is_source fs u) (ap (λ o. is_source_of o u) q ∙ ap (λ n. nat_eq n u) same ∙ eq_same u)

  pub first-copies : (fs : List First) → ((u : ℕ) → is_source fs u ≡ true → first_at fs u ≡ None) → (y : ℕ → ℕ) (v u : ℕ) → first_at fs v ≡ Some (Some u) → width v ≡ width u → y u < 2 ^ width u → firsts_run fs y v ≡ y u
  first-copies [] s y v u h w f = absurd (cc)
  first-copies (f ∷ fs) s y v u h w l = go (λ s' y' h' l'. first-copies fs s' y' v u h' w l') (first_at fs v) refl (nat_eq f.target v) refl f.source refl
    where
      go : (((t : ℕ) → is_source fs t ≡ true → first_at fs t ≡ None) → (y' : ℕ → ℕ) → first_at fs v ≡ Some (Some u) → y' u < 2 ^ width u → firsts_run fs y' v ≡ y' u) → (o : Option (Option ℕ)) → first_at fs v ≡ o → (b : Bool) → nat_eq f.target v ≡ b → (s : Option ℕ) → f.source ≡ s → firsts_run fs (updated f.target (word f y) y) v ≡ y u
      go next (Some x) e b k q r =
          let h' : first_at fs v ≡ Some (Some u) = e ∙ sym (ap (λ o. or_else o (if nat_eq f.target v then Some f.source else None)) e) ∙ h in
          let p = no-tail f fs u (s u (or_second (is_source_of f.source u) (is_source fs u) (is-source-at fs v u h'))) in
          let stays : updated f.target (word f y) y u ≡ y u = updated-other f.target u (word f y) y p.1 in
          let P : ℕ → Type 0 = λ n. n < 2 ^ width u in
          next (λ t m. (no-tail f fs t (s t (or_second (is_source_of f.source t) (is_source fs t) m))).0) (updated f.target (word f y) y) h' (subst P (sym stays) l) ∙ stays
      go next None e false k q r = let t : or_else (first_at fs v) (if nat_eq f.target v then Some f.source else None) ≡ None = (λ i. or_else (e i) (if k i then Some f.source else None)) in absurd (cc)
      go next None e true k None r = let t : or_else (first_at fs v) (if nat_eq f.target v then Some f.source else None) ≡ Some None = (λ i. or_else (e i) (if k i then Some (r i) else None)) in absurd (cc)
      go next None e true k (Some t) r =
          let z : or_else (first_at fs v) (if nat_eq f.target v then Some f.source else None) ≡ Some (Some t) = (λ i. or_else (e i) (if k i then Some (r i) else None)) in
          let same : t ≡ u = cc in
          let at : f.target ≡ v = same_of_eq f.target v k in
          let wide : width f.target ≡ width u = ap width at ∙ w in
          first-keeps fs (updated f.target (word f y) y) v e ∙ updated-same f.target v (word f y) y k
          ∙ ap (λ s. assigned (width f.target) (sized false width y (first_term width (record { target = f.target; source = s })))) (r ∙ ap (λ n. Some n) same)
          ∙ ap (λ n. assigned n (fixed (width u) false (y u))) wide ∙ fixed_assigned (width u) (y u) l
