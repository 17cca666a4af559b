-- Meaning the same is reflexive and transitive.
use Rattle.std.proofs.Common.{◌≡◌, ℕ, ◌+◌, ◌*◌, List, [], ◌∷◌, map, refl, sym, ◌∙◌, subst, one-mul, mul_assoc}
use Rattle.scc_semantics.specs.Location.{Location}
use Rattle.scc_semantics.specs.Design.{Process, Design}
use Rattle.scc_semantics.specs.Run.{FitsThing}
use Rattle.scc_semantics.specs.Start.{IsProper, HoldsConstant}
use Rattle.scc_semantics.specs.Same.{Turn, Plays, AllProper, at_first, MeansTheSame, AllTheSame, SameDesign}

once : (ns : List ℕ) → ns ≡ map (λ n. 1 * n) ns
once [] = refl
once (n ∷ ns) = λ i. sym (one-mul n) i ∷ once ns i

twice : (k j : ℕ) (ns : List ℕ) → map (λ n. k * n) (map (λ n. j * n) ns) ≡ map (λ n. (k * j) * n) ns
twice k j [] = refl
twice k j (n ∷ ns) = λ i. sym (mul_assoc k j n) i ∷ twice k j ns i

means-refl : (d : Design) (i : ℕ) (p : Process) → MeansTheSame 1 d d i p p
means-refl d i p = record {
  plays = λ ns ts os h a. (ns, a);
  only = λ ns ts os h a. subst (λ ms. Plays d i p (at_first d i p) ms ts os) (once ns) a;
}

all-refl : (d : Design) (i : ℕ) (ps : List Process) → AllTheSame 1 d d i ps ps
all-refl d i [] = tt
all-refl d i (p ∷ ps) = (refl, means-refl d i p, all-refl d (i + 1) ps)

pub same-refl : (d : Design) → SameDesign 1 d d
same-refl d = record { things = λ l. refl; ports = refl; fixed = λ l. refl; constants = λ l. refl; processes = all-refl d 0 d.processes }

pub proper-too : (k : ℕ) (d e : Design) → SameDesign k d e → (w : Location → ℕ) → IsProper d w → IsProper e w
proper-too k d e s w h = record {
  fits = λ l. subst (λ t. FitsThing t (w l)) (s.things l) (h.fits l);
  fixed = λ l. subst (λ o. HoldsConstant o (w l)) (s.fixed l) (h.fixed l);
  constants = λ l. subst (λ o. HoldsConstant o (w l)) (s.constants l) (h.constants l);
}

pub all-proper-too : (k : ℕ) (d e : Design) → SameDesign k d e → (ts : List Turn) → AllProper d ts → AllProper e ts
all-proper-too k d e s [] h = tt
all-proper-too k d e s (t ∷ ts) h = (proper-too k d e s t.words h.0, proper-too k d e s t.signals h.1, all-proper-too k d e s ts h.2)

means-then : (k j : ℕ) (d e f : Design) → SameDesign k d e → (i : ℕ) (p q r : Process) → MeansTheSame k d e i p q → MeansTheSame j e f i q r → MeansTheSame (k * j) d f i p r
means-then k j d e f s i p q r a b = record {
  plays = λ ns ts os h x. let y = a.plays ns ts os h x in b.plays y.0 ts os (all-proper-too k d e s ts h) y.1;
  only = λ ns ts os h x. subst (λ ms. Plays d i p (at_first d i p) ms ts os) (twice k j ns)
      (a.only (map (λ n. j * n) ns) ts os h (b.only ns ts os (all-proper-too k d e s ts h) x));
}

all-then : (k j : ℕ) (d e f : Design) → SameDesign k d e → (i : ℕ) (ps qs rs : List Process) → AllTheSame k d e i ps qs → AllTheSame j e f i qs rs → AllTheSame (k * j) d f i ps rs
all-then k j d e f s i [] [] [] a b = tt
all-then k j d e f s i (p ∷ ps) (q ∷ qs) (r ∷ rs) a b = (a.0 ∙ b.0, means-then k j d e f s i p q r a.1 b.1, all-then k j d e f s (i + 1) ps qs rs a.2 b.2)
all-then k j d e f s i [] [] (r ∷ rs) a b = b
all-then k j d e f s i [] (q ∷ qs) rs a b = absurd a
all-then k j d e f s i (p ∷ ps) [] rs a b = absurd a
all-then k j d e f s i (p ∷ ps) (q ∷ qs) [] a b = absurd b

pub same-then : (k j : ℕ) (d e f : Design) → SameDesign k d e → SameDesign j e f → SameDesign (k * j) d f
same-then k j d e f a b = record {
  things = λ l. a.things l ∙ b.things l;
  ports = a.ports ∙ b.ports;
  fixed = λ l. a.fixed l ∙ b.fixed l;
  constants = λ l. a.constants l ∙ b.constants l;
  processes = all-then k j d e f a 0 d.processes e.processes f.processes a.processes b.processes;
}
