-- Blocks without a cycle settle: rounds in which all of them run on the same old values.
use Rattle.std.proofs.Common.{◌≡◌, ◌<◌, ◌⊎◌, inl, inr, ℕ, zero, suc, Bool, true, false, cond, List, [], ◌∷◌, length, refl, sym, ap, ◌∙◌, arith}
use Rattle.scc_svtree.specs.Code.{Code}
use Rattle.scc_svtree.specs.Running.{run}
use Rattle.scc_svtree.specs.Mentions.{code_reads, assigns}
use Rattle.scc_svtree.specs.Settled.{block_at, Leaves, AlikeOutside, AreCombinational, SettlesOnce}
use Rattle.scc_svtree.proofs.Kept.{run_keeps, fresh_result}

-- a block that assigns a variable
record Owner (cs : List Code) (v : ℕ) : Type 0 where
  at : ℕ
  within : at < length cs
  assigns_it : assigns (block_at cs at) v ≡ true

abbrev NoOwner : List Code → ℕ → Type 0
NoOwner cs v = (k : ℕ) → k < length cs → assigns (block_at cs k) v ≡ false

owner : (cs : List Code) (v : ℕ) → Owner cs v ⊎ NoOwner cs v
owner [] v = inr (λ k h. absurd (omega arith))
owner (c ∷ cs) v = go (assigns c v) refl (owner cs v)
  where
    go : (b : Bool) → assigns c v ≡ b → Owner cs v ⊎ NoOwner cs v → Owner (c ∷ cs) v ⊎ NoOwner (c ∷ cs) v
    go true e o = inl (record { at = 0; within = omega arith; assigns_it = e })
    go false e (inl o) = inl (record { at = suc o.at; within = let h = o.within in omega arith; assigns_it = o.assigns_it })
    go false e (inr n) = inr none
      where
        none : (k : ℕ) → k < length (c ∷ cs) → assigns (block_at (c ∷ cs) k) v ≡ false
        none zero h = e
        none (suc k) h = n k (omega arith)

module _ (width : ℕ → ℕ) where
  -- all blocks at once, the first that assigns a variable giving it its word
  abbrev round : List Code → (ℕ → ℕ) → ℕ → ℕ
  round [] s v = s v
  round (c ∷ cs) s v = cond (assigns c v) (run width c s v) (round cs s v)

  abbrev rounds : List Code → ℕ → (ℕ → ℕ) → ℕ → ℕ
  rounds cs zero s = s
  rounds cs (suc n) s = round cs (rounds cs n s)

  round_none : (cs : List Code) (s : ℕ → ℕ) (v : ℕ) → NoOwner cs v → round cs s v ≡ s v
  round_none [] s v h = refl
  round_none (c ∷ cs) s v h = ap (λ b. cond b (run width c s v) (round cs s v)) (h 0 (omega arith)) ∙ round_none cs s v (λ k l. h (suc k) (omega arith))

  -- where only one block assigns a variable, a round gives it that block's word
  round_at : (cs : List Code) (s : ℕ → ℕ) (v k : ℕ) → k < length cs → assigns (block_at cs k) v ≡ true → ((j : ℕ) → j < length cs → assigns (block_at cs j) v ≡ true → j ≡ k) → round cs s v ≡ run width (block_at cs k) s v
  round_at [] s v k h a o = absurd (omega arith)
  round_at (c ∷ cs) s v zero h a o = ap (λ b. cond b (run width c s v) (round cs s v)) a
  round_at (c ∷ cs) s v (suc k) h a o =
      ap (λ b. cond b (run width c s v) (round cs s v)) (not_first (assigns c v) refl)
      ∙ round_at cs s v k (omega arith) a (λ j l b. let e : suc j ≡ suc k = o (suc j) (omega arith) b in omega arith)
    where
      not_first : (b : Bool) → assigns c v ≡ b → assigns c v ≡ false
      not_first false e = e
      not_first true e = let z : 0 ≡ suc k = o 0 (omega arith) e in absurd (omega arith)

module _ (width : ℕ → ℕ) (cs : List Code) (h : AreCombinational cs) where
  -- where a block gives v its word, a round on valuations alike before it gives alike words
  gives : (s : ℕ → ℕ) (v k : ℕ) → k < length cs → assigns (block_at cs k) v ≡ true → round width cs s v ≡ run width (block_at cs k) s v
  gives s v k l a = round_at width cs s v k l a (λ j m b. h.drivers j k v m l b a)

  outside_stays : (n : ℕ) (s : ℕ → ℕ) (v : ℕ) → NoOwner cs v → rounds width cs n s v ≡ s v
  outside_stays zero s v o = refl
  outside_stays (suc n) s v o = round_none width cs (rounds width cs n s) v o ∙ outside_stays n s v o

  -- alike on what stands before block k in the order, and on what no block assigns
  same_round : (s t : ℕ → ℕ) (v k : ℕ) → k < length cs → assigns (block_at cs k) v ≡ true
      → ((u j : ℕ) → j < length cs → assigns (block_at cs j) u ≡ true → h.order.rank j < h.order.rank k → s u ≡ t u)
      → ((u : ℕ) → NoOwner cs u → s u ≡ t u)
      → round width cs s v ≡ round width cs t v
  same_round s t v k l a before outside =
      gives s v k l a ∙ fresh_result width (block_at cs k) s t (h.fresh k l) reads v a ∙ sym (gives t v k l a)
    where
      reads : (u : ℕ) → code_reads (block_at cs k) u ≡ true → assigns (block_at cs k) u ≡ false → s u ≡ t u
      reads u r n = elim (owner cs u) [ inl o ↦ before u o.at o.within o.assigns_it (h.order.ordered o.at k u o.within l o.assigns_it r n) | inr o ↦ outside u o ]

  agree : (n : ℕ) (s t : ℕ → ℕ) → AlikeOutside cs s t → (v k : ℕ) → k < length cs → assigns (block_at cs k) v ≡ true → h.order.rank k < n → rounds width cs n s v ≡ rounds width cs n t v
  agree zero s t o v k l a r = absurd (omega arith)
  agree (suc n) s t o v k l a r =
      same_round (rounds width cs n s) (rounds width cs n t) v k l a
      (λ u j m b q. agree n s t o u j m b (omega arith))
      (λ u m. outside_stays n s u m ∙ o u m ∙ sym (outside_stays n t u m))

  stable : (n : ℕ) (s : ℕ → ℕ) (v k : ℕ) → k < length cs → assigns (block_at cs k) v ≡ true → h.order.rank k < n → rounds width cs (suc n) s v ≡ rounds width cs n s v
  stable zero s v k l a r = absurd (omega arith)
  stable (suc n) s v k l a r =
      same_round (rounds width cs (suc n) s) (rounds width cs n s) v k l a
      (λ u j m b q. stable n s u j m b (omega arith))
      (λ u m. outside_stays (suc n) s u m ∙ sym (outside_stays n s u m))

  stays : (n : ℕ) (t : ℕ → ℕ) → Leaves width cs t → (v : ℕ) → rounds width cs n t v ≡ t v
  stays zero t f v = refl
  stays (suc n) t f v =
      elim (owner cs v) [
        | inl o ↦ same_round (rounds width cs n t) t v o.at o.within o.assigns_it (λ u j m b q. stays n t f u) (λ u m. stays n t f u) ∙ gives t v o.at o.within o.assigns_it ∙ f o.at o.within v
        | inr o ↦ outside_stays (suc n) t v o
      ]

  pub settles_once : (given : ℕ → ℕ) → SettlesOnce width cs given
  settles_once given = record {
    settled = z;
    is_settled = record { leaves = leaves; alike = λ v o. sym (outside_stays (length cs) given v o) };
    only = λ x s v. elim (owner cs v) [
      | inl o ↦ sym (stays (length cs) x s.leaves v) ∙ sym (agree (length cs) given x s.alike v o.at o.within o.assigns_it (h.order.below o.at o.within))
      | inr o ↦ sym (s.alike v o) ∙ sym (outside_stays (length cs) given v o)
    ];
  }
    where
      z : ℕ → ℕ
      z = rounds width cs (length cs) given

      leaves : Leaves width cs z
      leaves k l v = go (assigns (block_at cs k) v) refl
        where
          go : (b : Bool) → assigns (block_at cs k) v ≡ b → run width (block_at cs k) z v ≡ z v
          go true a = sym (gives z v k l a) ∙ stable (length cs) given v k l a (h.order.below k l)
          go false a = run_keeps width (block_at cs k) z v a
