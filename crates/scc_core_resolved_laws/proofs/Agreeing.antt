-- Names that complete patterns.
use Rattle.std.proofs.Common.{◌≡◌, ℕ, true, false, nat_eq, List, [], ◌∷◌, ◌++◌, map, Option, Some, None, refl}
use Rattle.scc_semantics.specs.Location.{Part}
use Rattle.scc_semantics.specs.Location as location
use Rattle.scc_core_spec.specs.Term.{CellName, Own}
use Rattle.scc_core_spec.specs.Named.{Step, Named, At, Ours, Open, part_step, own_steps, steps_of, fits, is_open}
use Rattle.scc_core_spec.specs.OpenNames.{agrees}
use Rattle.scc_core_resolved_laws.proofs.Bools.{and-first, and-second, and-both, nat_eq-is, nat_eq-self}

pub agrees-append : (o s : List Step) (x y : Step) → agrees o s ≡ true → agrees (x ∷ []) (y ∷ []) ≡ true → agrees (o ++ x ∷ []) (s ++ y ∷ []) ≡ true
agrees-append [] [] x y h g = g
agrees-append (Named n ∷ p) (Named m ∷ q) x y h g = and-both (nat_eq n m) (agrees (p ++ x ∷ []) (q ++ y ∷ [])) (and-first (nat_eq n m) (agrees p q) h) (agrees-append p q x y (and-second (nat_eq n m) (agrees p q) h) g)
agrees-append (At n ∷ p) (At m ∷ q) x y h g = and-both (nat_eq n m) (agrees (p ++ x ∷ []) (q ++ y ∷ [])) (and-first (nat_eq n m) (agrees p q) h) (agrees-append p q x y (and-second (nat_eq n m) (agrees p q) h) g)
agrees-append (Ours n ∷ p) (Ours m ∷ q) x y h g = and-both (nat_eq n m) (agrees (p ++ x ∷ []) (q ++ y ∷ [])) (and-first (nat_eq n m) (agrees p q) h) (agrees-append p q x y (and-second (nat_eq n m) (agrees p q) h) g)
agrees-append (Open n ∷ p) (At m ∷ q) x y h g = agrees-append p q x y h g
agrees-append o s x y h g = absurd cc

-- what completes a pattern has no open index
pub agrees-closed : (o s : List Step) → agrees o s ≡ true → is_open s ≡ false
agrees-closed [] [] h = refl
agrees-closed (Named n ∷ p) (Named m ∷ q) h = agrees-closed p q (and-second (nat_eq n m) (agrees p q) h)
agrees-closed (At n ∷ p) (At m ∷ q) h = agrees-closed p q (and-second (nat_eq n m) (agrees p q) h)
agrees-closed (Ours n ∷ p) (Ours m ∷ q) h = agrees-closed p q (and-second (nat_eq n m) (agrees p q) h)
agrees-closed (Open n ∷ p) (At m ∷ q) h = agrees-closed p q h
agrees-closed o s h = absurd cc

pub agrees-is : (o s : List Step) → is_open o ≡ false → agrees o s ≡ true → o ≡ s
agrees-is [] [] c h = refl
agrees-is (Named n ∷ p) (Named m ∷ q) c h = λ i. Named (nat_eq-is n m (and-first (nat_eq n m) (agrees p q) h) i) ∷ agrees-is p q c (and-second (nat_eq n m) (agrees p q) h) i
agrees-is (At n ∷ p) (At m ∷ q) c h = λ i. At (nat_eq-is n m (and-first (nat_eq n m) (agrees p q) h) i) ∷ agrees-is p q c (and-second (nat_eq n m) (agrees p q) h) i
agrees-is (Ours n ∷ p) (Ours m ∷ q) c h = λ i. Ours (nat_eq-is n m (and-first (nat_eq n m) (agrees p q) h) i) ∷ agrees-is p q c (and-second (nat_eq n m) (agrees p q) h) i
agrees-is o s c h = absurd cc

pub fits-is : (o s : List Step) → is_open o ≡ false → fits o s ≡ true → o ≡ s
fits-is [] [] c h = refl
fits-is (Named n ∷ p) (Named m ∷ q) c h = λ i. Named (nat_eq-is n m (and-first (nat_eq n m) (fits p q) h) i) ∷ fits-is p q c (and-second (nat_eq n m) (fits p q) h) i
fits-is (At n ∷ p) (At m ∷ q) c h = λ i. At (nat_eq-is n m (and-first (nat_eq n m) (fits p q) h) i) ∷ fits-is p q c (and-second (nat_eq n m) (fits p q) h) i
fits-is (Ours n ∷ p) (Ours m ∷ q) c h = λ i. Ours (nat_eq-is n m (and-first (nat_eq n m) (fits p q) h) i) ∷ fits-is p q c (and-second (nat_eq n m) (fits p q) h) i
fits-is o s c h = absurd cc

pub agrees-self : (s : List Step) → is_open s ≡ false → agrees s s ≡ true
agrees-self [] c = refl
agrees-self (Named n ∷ p) c = and-both (nat_eq n n) (agrees p p) (nat_eq-self n) (agrees-self p c)
agrees-self (At n ∷ p) c = and-both (nat_eq n n) (agrees p p) (nat_eq-self n) (agrees-self p c)
agrees-self (Ours n ∷ p) c = and-both (nat_eq n n) (agrees p p) (nat_eq-self n) (agrees-self p c)
agrees-self (Open n ∷ p) c = absurd cc

pub fits-self : (s : List Step) → is_open s ≡ false → fits s s ≡ true
fits-self [] c = refl
fits-self (Named n ∷ p) c = and-both (nat_eq n n) (fits p p) (nat_eq-self n) (fits-self p c)
fits-self (At n ∷ p) c = and-both (nat_eq n n) (fits p p) (nat_eq-self n) (fits-self p c)
fits-self (Ours n ∷ p) c = and-both (nat_eq n n) (fits p p) (nat_eq-self n) (fits-self p c)
fits-self (Open n ∷ p) c = absurd cc

pub closed-append : (p q : List Step) → is_open p ≡ false → is_open q ≡ false → is_open (p ++ q) ≡ false
closed-append [] q c d = d
closed-append (Named n ∷ p) q c d = closed-append p q c d
closed-append (At n ∷ p) q c d = closed-append p q c d
closed-append (Ours n ∷ p) q c d = closed-append p q c d
closed-append (Open n ∷ p) q c d = absurd cc

pub path-closed : (path : List Part) → is_open (map part_step path) ≡ false
path-closed [] = refl
path-closed (location.Member n ∷ p) = path-closed p
path-closed (location.Element n ∷ p) = path-closed p

indices-closed : (ns : List ℕ) → is_open (map At ns) ≡ false
indices-closed [] = refl
indices-closed (n ∷ ns) = indices-closed ns

own-closed : (o : Option Own) (ns : List ℕ) → is_open (own_steps o ns) ≡ false
own-closed None ns = refl
own-closed (Some o) ns = indices-closed ns

pub name-closed : (n : CellName) → is_open (steps_of n) ≡ false
name-closed n = closed-append (map part_step n.path) (own_steps n.own n.indices) (path-closed n.path) (own-closed n.own n.indices)
