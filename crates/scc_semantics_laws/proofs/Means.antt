-- How a pass is shown to keep the meaning: a relation between where a process stands on both sides, which every resume keeps.
use Rattle.std.proofs.Common.{◌≡◌, ℕ, ◌*◌, List, [], ◌∷◌, map, Some}
use Rattle.scc_semantics.specs.Design.{Process, Design}
use Rattle.scc_semantics.specs.Start.{IsProper}
use Rattle.scc_semantics.specs.Same.{Turn, Seen, Middle, seen_of, leading, left_in, resumed, Plays, AllProper, at_first, MeansTheSame}

module _ (k : ℕ) (d e : Design) (i : ℕ) (p q : Process) (R : Middle → Middle → Type 0) where
  pub record Similar : Type 0 where
    pub first : R (at_first d i p) (at_first e i q)
    pub fast : (m n : Middle) → R m n → (t : Turn) → IsProper d t.words → IsProper d t.signals → (c : ℕ) (o : Seen) → seen_of i (leading i t m) (resumed d i p c t m) ≡ Some o
        → (b : ℕ) × (seen_of i (leading i t n) (resumed e i q b t n) ≡ Some o) × R (left_in (resumed d i p c t m) m) (left_in (resumed e i q b t n) n)
    pub slow : (m n : Middle) → R m n → (t : Turn) → IsProper d t.words → IsProper d t.signals → (c : ℕ) (o : Seen) → seen_of i (leading i t n) (resumed e i q c t n) ≡ Some o
        → (seen_of i (leading i t m) (resumed d i p (k * c) t m) ≡ Some o) × R (left_in (resumed d i p (k * c) t m) m) (left_in (resumed e i q c t n) n)

  plays : Similar → (ns : List ℕ) (ts : List Turn) (os : List Seen) (m n : Middle) → R m n → AllProper d ts → Plays d i p m ns ts os → (ms : List ℕ) × Plays e i q n ms ts os
  plays h [] [] [] m n r a x = ([], tt)
  plays h (c ∷ ns) (t ∷ ts) (o ∷ os) m n r a x =
      let f = h.fast m n r t a.0 a.1 c o x.0 in
      let g = plays h ns ts os (left_in (resumed d i p c t m) m) (left_in (resumed e i q f.0 t n) n) f.2 a.2 x.1 in
      (f.0 ∷ g.0, (f.1, g.1))
  plays h ns ts os m n r a x = absurd x

  only : Similar → (ns : List ℕ) (ts : List Turn) (os : List Seen) (m n : Middle) → R m n → AllProper d ts → Plays e i q n ns ts os → Plays d i p m (map (λ c. k * c) ns) ts os
  only h [] [] [] m n r a x = tt
  only h (c ∷ ns) (t ∷ ts) (o ∷ os) m n r a x =
      let f = h.slow m n r t a.0 a.1 c o x.0 in
      (f.0, only h ns ts os (left_in (resumed d i p (k * c) t m) m) (left_in (resumed e i q c t n) n) f.1 a.2 x.1)
  only h ns ts os m n r a x = absurd x

  pub means-by : Similar → MeansTheSame k d e i p q
  means-by h = record {
    plays = λ ns ts os a x. plays h ns ts os (at_first d i p) (at_first e i q) h.first a x;
    only = λ ns ts os a x. only h ns ts os (at_first d i p) (at_first e i q) h.first a x;
  }
