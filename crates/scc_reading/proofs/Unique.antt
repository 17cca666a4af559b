-- No tokens are two texts: what is read where levels enough are left is the one tree.
use Rattle.std.specs.Prelude.{◌≡◌, ℕ, zero, suc, ◌+◌, ◌≤◌, List, [], Option, None, Ok, refl}
use Rattle.std.proofs.Common.{arith}
use Rattle.scc_reading.specs.Reading.{Parser, pure}
use Rattle.scc_reading.specs.Level.{opens, ◌then◌}
use Rattle.scc_reading.proofs.Complete.{Is}
use Rattle.scc_reading.proofs.Leaves.{ok_is}

module _ {T : Type 0} where
  -- from some number of levels on, nothing is too deep
  pub record Enough (f : ℕ → Option (List T)) : Type 0 where
    pub n : ℕ
    pub none : (m : ℕ) → n ≤ m → f m ≡ None

  pub flat : Enough (λ n. None)
  flat = record { n = 0; none = λ m h. refl }

  pub both : {f g : ℕ → Option (List T)} → Enough f → Enough g → Enough (λ n. f n then g n)
  both {f} {g} a b = record { n = a.n + b.n; none = λ m h. let x : f m ≡ None = a.none m (omega arith) in let y : g m ≡ None = b.none m (omega arith) in rw x y }

  pub one_more : {f : ℕ → Option (List T)} (ts : List T) → Enough f → Enough (λ n. opens n ts f)
  one_more {f} ts a = record { n = suc a.n; none = go }
    where
      go : (m : ℕ) → suc a.n ≤ m → opens m ts f ≡ None
      go zero h = absurd (omega arith)
      go (suc m) h = a.none m (omega arith)

  pub one_tree : {A : Type 0} (program : ℕ → Parser T A) (ts : List T) (a b : A) (deep_a deep_b : ℕ → Option (List T)) → Enough deep_a → Enough deep_b
      → ((n : ℕ) → Is (program n ts) (deep_a n) a []) → ((n : ℕ) → Is (program n ts) (deep_b n) b []) → a ≡ b
  one_tree {A} program ts a b deep_a deep_b x y da db =
      let n : ℕ = x.n + y.n in
      let dx : deep_a n ≡ None = x.none n (omega arith) in
      let dy : deep_b n ≡ None = y.none n (omega arith) in
      let px : program n ts ≡ Ok (a, []) = rw dx at (da n).is in
      let py : program n ts ≡ Ok (b, []) = rw dy at (db n).is in
      let same : pure {T = T} a [] ≡ pure {T = T} b [] = cc in
      (ok_is a b [] [] same).0
