-- Blocks that run in a schedule settle.
use Rattle.std.proofs.Common.{◌≡◌, ◌<◌, ◌⊎◌, ℕ, zero, suc, nat_eq, Bool, true, false, ◌||◌, List, [], ◌∷◌, length, inl, inr, refl, sym, ap, ◌∙◌, subst, arith}
use Rattle.std.proofs.lemmas.Bool.{or_cases}
use Rattle.scc_svtree.specs.Code.{Code}
use Rattle.scc_svtree.specs.Running.{run}
use Rattle.scc_svtree.specs.Mentions.{code_reads, assigns}
use Rattle.scc_svtree.specs.Settled.{block_at, IsSettledFor, AreCombinational, SettlesOnce}
use Rattle.scc_svtree.proofs.Agree.{same_of_eq}
use Rattle.scc_svtree.proofs.Kept.{run_keeps, fresh_result}
use Rattle.scc_svtree.proofs.Settling.{settles_once}
use Rattle.scc_svtree_order.specs.Cycles.{Feeds}
use Rattle.scc_svtree_order.specs.Schedule.{Placed, IsSchedule}
use Rattle.scc_svrun.specs.Swept.{swept}

-- a block that assigns a variable
record Owner (cs : List Code) (v : ℕ) : Type 0 where
  at : ℕ
  within : at < length cs
  assigns_it : assigns (block_at cs at) v ≡ true

abbrev NoOwner : List Code → ℕ → Type 0
NoOwner cs v = (k : ℕ) → k < length cs → assigns (block_at cs k) v ≡ false

owner : (cs : List Code) (v : ℕ) → Owner cs v ⊎ NoOwner cs v
owner [] v = inr (λ k h. absurd (omega arith))
owner (c ∷ cs) v = go (assigns c v) refl (owner cs v)
  where
    go : (b : Bool) → assigns c v ≡ b → Owner cs v ⊎ NoOwner cs v → Owner (c ∷ cs) v ⊎ NoOwner (c ∷ cs) v
    go true e o = inl (record { at = 0; within = omega arith; assigns_it = e })
    go false e (inl o) = inl (record { at = suc o.at; within = let h = o.within in omega arith; assigns_it = o.assigns_it })
    go false e (inr n) = inr none
      where
        none : (k : ℕ) → k < length (c ∷ cs) → assigns (block_at (c ∷ cs) k) v ≡ false
        none zero h = e
        none (suc k) h = n k (omega arith)

module _ (width : ℕ → ℕ) (cs : List Code) (h : AreCombinational cs) (given : ℕ → ℕ) where
  once : SettlesOnce width cs given
  once = settles_once width cs h given

  z : ℕ → ℕ
  z = once.settled

  -- what no block assigns is as it was, and what the done ones assign is settled
  record Good (done : ℕ → Bool) (x : ℕ → ℕ) : Type 0 where
    kept : (v : ℕ) → NoOwner cs v → x v ≡ given v
    final : (k v : ℕ) → k < length cs → done k ≡ true → assigns (block_at cs k) v ≡ true → x v ≡ z v

  next : (done : ℕ → Bool) (x : ℕ → ℕ) (k : ℕ) → k < length cs → ((j : ℕ) → Feeds cs j k → done j ≡ true) → Good done x
      → Good (λ i. nat_eq i k || done i) (run width (block_at cs k) x)
  unfolding z once
  next done x k l f g = record {
    kept = λ v n. run_keeps width (block_at cs k) x v (n k l) ∙ g.kept v n;
    final = λ j v m d a. elim (or_cases (nat_eq j k) (done j) d) [
      | inl e ↦ let s : j ≡ k = same_of_eq j k e in let P : ℕ → Type 0 = λ n. assigns (block_at cs n) v ≡ true in ran v (subst P s a)
      | inr e ↦ other j v m e a (assigns (block_at cs k) v) refl
    ];
  }
    where
      reads : (u : ℕ) → code_reads (block_at cs k) u ≡ true → assigns (block_at cs k) u ≡ false → x u ≡ z u
      reads u r n = elim (owner cs u) [
        | inl o ↦ g.final o.at u o.within (f o.at (record { first = o.within; second = l; variable = u; assigned = o.assigns_it; read = r; other = n })) o.assigns_it
        | inr o ↦ g.kept u o ∙ once.is_settled.alike u o
      ]

      ran : (v : ℕ) → assigns (block_at cs k) v ≡ true → run width (block_at cs k) x v ≡ z v
      ran v a = fresh_result width (block_at cs k) x z (h.fresh k l) reads v a ∙ once.is_settled.leaves k l v

      other : (j v : ℕ) → j < length cs → done j ≡ true → assigns (block_at cs j) v ≡ true → (b : Bool) → assigns (block_at cs k) v ≡ b → run width (block_at cs k) x v ≡ z v
      other j v m d a true e = ran v e
      other j v m d a false e = run_keeps width (block_at cs k) x v e ∙ g.final j v m d a

  swept_good : (ks : List ℕ) (done : ℕ → Bool) (x : ℕ → ℕ) → Placed cs done ks → Good done x → (v : ℕ) → swept width cs ks x v ≡ z v
  unfolding z once
  swept_good [] done x p g v = elim (owner cs v) [
    | inl o ↦ g.final o.at v o.within (p o.at o.within) o.assigns_it
    | inr o ↦ g.kept v o ∙ once.is_settled.alike v o
  ]
  swept_good (k ∷ ks) done x p g v = swept_good ks (λ i. nat_eq i k || done i) (run width (block_at cs k) x) p.2 (next done x k p.0 p.1 g) v

  pub swept_settles : (ks : List ℕ) → IsSchedule cs ks → IsSettledFor width cs given (swept width cs ks given)
  unfolding z once
  swept_settles ks p =
      let e : swept width cs ks given ≡ z = λ i v. swept_good ks (λ _. false) given p (record { kept = λ u n. refl; final = λ k u l d a. absurd (cc) }) v i in
      let P : (ℕ → ℕ) → Type 0 = λ x. IsSettledFor width cs given x in
      subst P (sym e) once.is_settled
