-- What lists have, and the variables of code as a list.
use Rattle.std.proofs.Common.{◌≡◌, ℕ, nat_eq, Bool, true, false, ◌||◌, ◌&&◌, List, [], ◌∷◌, ◌++◌, refl, sym, ap, ◌∙◌, subst}
use Rattle.std.proofs.lemmas.List.Folds.{list_any-append}
use Rattle.scc_svtree.specs.Term.{Term, Literal, Part, Unary, Binary, Cond, Join, Cast, Sign}
use Rattle.scc_svtree.specs.Code.{Code, End, Assign, If, Case, Arms, None, Arm}
use Rattle.scc_svtree.specs.Running.{var_of}
use Rattle.scc_svtree.specs.Mentions.{reads, code_reads, arms_read, assigns, arms_assign, mentions}
use Rattle.scc_svtree.proofs.Agree.{or_first, or_second, same_of_eq, eq_flip}
use Rattle.scc_core_spec.specs.Uses.{among}

abbrev pub AllOf : (ℕ → Type 0) → List ℕ → Type 0
AllOf P [] = Unit {0}
AllOf P (x ∷ xs) = P x × AllOf P xs

pub among-all : (P : ℕ → Type 0) (xs : List ℕ) → AllOf P xs → (v : ℕ) → among v xs ≡ true → P v
among-all P [] a v h = absurd (cc)
among-all P (x ∷ xs) a v h = go (among-all P xs a.1 v) (nat_eq v x) refl
  where
    go : (among v xs ≡ true → P v) → (b : Bool) → nat_eq v x ≡ b → P v
    go next true e = subst P (sym (same_of_eq v x e)) a.0
    go next false e = next (sym (ap (λ b. b || among v xs) e) ∙ h)

pub either : {C : Type 0} (a b : Bool) → (a || b) ≡ true → (a ≡ true → C) → (b ≡ true → C) → C
either true b h f g = f refl
either false b h f g = g h

-- the numbers of one list are among those of another
abbrev pub all_among : List ℕ → List ℕ → Bool
all_among [] xs = true
all_among (y ∷ ys) xs = among y xs && all_among ys xs

pub all-in : (ys xs : List ℕ) → all_among ys xs ≡ true → AllOf (λ v. among v xs ≡ true) ys
all-in [] xs h = tt
all-in (y ∷ ys) xs h = go (all-in ys xs) (among y xs) refl
  where
    go : (all_among ys xs ≡ true → AllOf (λ v. among v xs ≡ true) ys) → (b : Bool) → among y xs ≡ b → AllOf (λ v. among v xs ≡ true) (y ∷ ys)
    go next true e = (e, next (sym (ap (λ b. b && all_among ys xs) e) ∙ h))
    go next false e = let z : false ≡ true = sym (ap (λ b. b && all_among ys xs) e) ∙ h in absurd (cc)

left-in : (v : ℕ) (a b : List ℕ) → among v a ≡ true → among v (a ++ b) ≡ true
left-in v a b h = list_any-append (nat_eq v) a b ∙ or_first (among v a) (among v b) h

right-in : (v : ℕ) (a b : List ℕ) → among v b ≡ true → among v (a ++ b) ≡ true
right-in v a b h = list_any-append (nat_eq v) a b ∙ or_second (among v a) (among v b) h

abbrev pub term_vars : Term → List ℕ
term_vars (Literal w x) = []
term_vars (Part l) = var_of l ∷ []
term_vars (Unary o a) = term_vars a
term_vars (Binary o a b) = term_vars a ++ term_vars b
term_vars (Cond c a b) = term_vars c ++ (term_vars a ++ term_vars b)
term_vars (Join a b) = term_vars a ++ term_vars b
term_vars (Cast w e) = term_vars e
term_vars (Sign s e) = term_vars e

abbrev mutual
  pub code_vars : Code → List ℕ
  code_vars End = []
  code_vars (Assign l e r) = var_of l ∷ (term_vars e ++ code_vars r)
  code_vars (If c a b r) = term_vars c ++ (code_vars a ++ (code_vars b ++ code_vars r))
  code_vars (Case e arms r) = term_vars e ++ (arms_vars arms ++ code_vars r)

  pub arms_vars : Arms → List ℕ
  arms_vars None = []
  arms_vars (Arm w label body more) = code_vars body ++ arms_vars more

reads-in : (t : Term) (v : ℕ) → reads t v ≡ true → among v (term_vars t) ≡ true
reads-in (Literal w x) v h = absurd (cc)
reads-in (Part l) v h = or_first (nat_eq v (var_of l)) false (eq_flip (var_of l) v h)
reads-in (Unary o a) v h = reads-in a v h
reads-in (Binary o a b) v h = either (reads a v) (reads b v) h (λ k. left-in v (term_vars a) (term_vars b) (reads-in a v k)) (λ k. right-in v (term_vars a) (term_vars b) (reads-in b v k))
reads-in (Cond c a b) v h = either (reads c v) (reads a v || reads b v) h (λ k. left-in v (term_vars c) (term_vars a ++ term_vars b) (reads-in c v k))
    (λ k. right-in v (term_vars c) (term_vars a ++ term_vars b) (either (reads a v) (reads b v) k (λ k. left-in v (term_vars a) (term_vars b) (reads-in a v k)) (λ k. right-in v (term_vars a) (term_vars b) (reads-in b v k))))
reads-in (Join a b) v h = either (reads a v) (reads b v) h (λ k. left-in v (term_vars a) (term_vars b) (reads-in a v k)) (λ k. right-in v (term_vars a) (term_vars b) (reads-in b v k))
reads-in (Cast w e) v h = reads-in e v h
reads-in (Sign s e) v h = reads-in e v h

mutual
  read-in : (c : Code) (v : ℕ) → code_reads c v ≡ true → among v (code_vars c) ≡ true
  read-in End v h = absurd (cc)
  read-in (Assign l e r) v h = or_second (nat_eq v (var_of l)) (among v (term_vars e ++ code_vars r))
      (either (reads e v) (code_reads r v) h (λ k. left-in v (term_vars e) (code_vars r) (reads-in e v k)) (λ k. right-in v (term_vars e) (code_vars r) (read-in r v k)))
  read-in (If c a b r) v h =
      either (reads c v || (code_reads a v || code_reads b v)) (code_reads r v) h
      (λ k. either (reads c v) (code_reads a v || code_reads b v) k (λ k. left-in v (term_vars c) (code_vars a ++ (code_vars b ++ code_vars r)) (reads-in c v k))
      (λ k. right-in v (term_vars c) (code_vars a ++ (code_vars b ++ code_vars r)) (either (code_reads a v) (code_reads b v) k (λ k. left-in v (code_vars a) (code_vars b ++ code_vars r) (read-in a v k))
      (λ k. right-in v (code_vars a) (code_vars b ++ code_vars r) (left-in v (code_vars b) (code_vars r) (read-in b v k))))))
      (λ k. right-in v (term_vars c) (code_vars a ++ (code_vars b ++ code_vars r)) (right-in v (code_vars a) (code_vars b ++ code_vars r) (right-in v (code_vars b) (code_vars r) (read-in r v k))))
  read-in (Case e arms r) v h =
      either (reads e v || arms_read arms v) (code_reads r v) h
      (λ k. either (reads e v) (arms_read arms v) k (λ k. left-in v (term_vars e) (arms_vars arms ++ code_vars r) (reads-in e v k)) (λ k. right-in v (term_vars e) (arms_vars arms ++ code_vars r) (left-in v (arms_vars arms) (code_vars r) (arms-read-in arms v k))))
      (λ k. right-in v (term_vars e) (arms_vars arms ++ code_vars r) (right-in v (arms_vars arms) (code_vars r) (read-in r v k)))

  arms-read-in : (arms : Arms) (v : ℕ) → arms_read arms v ≡ true → among v (arms_vars arms) ≡ true
  arms-read-in None v h = absurd (cc)
  arms-read-in (Arm w label body more) v h = either (code_reads body v) (arms_read more v) h (λ k. left-in v (code_vars body) (arms_vars more) (read-in body v k)) (λ k. right-in v (code_vars body) (arms_vars more) (arms-read-in more v k))

mutual
  assign-in : (c : Code) (v : ℕ) → assigns c v ≡ true → among v (code_vars c) ≡ true
  assign-in End v h = absurd (cc)
  assign-in (Assign l e r) v h = either (nat_eq (var_of l) v) (assigns r v) h (λ k. or_first (nat_eq v (var_of l)) (among v (term_vars e ++ code_vars r)) (eq_flip (var_of l) v k))
      (λ k. or_second (nat_eq v (var_of l)) (among v (term_vars e ++ code_vars r)) (right-in v (term_vars e) (code_vars r) (assign-in r v k)))
  assign-in (If c a b r) v h =
      right-in v (term_vars c) (code_vars a ++ (code_vars b ++ code_vars r)) (either (assigns a v || assigns b v) (assigns r v) h
      (λ k. either (assigns a v) (assigns b v) k (λ k. left-in v (code_vars a) (code_vars b ++ code_vars r) (assign-in a v k)) (λ k. right-in v (code_vars a) (code_vars b ++ code_vars r) (left-in v (code_vars b) (code_vars r) (assign-in b v k))))
      (λ k. right-in v (code_vars a) (code_vars b ++ code_vars r) (right-in v (code_vars b) (code_vars r) (assign-in r v k))))
  assign-in (Case e arms r) v h =
      right-in v (term_vars e) (arms_vars arms ++ code_vars r) (either (arms_assign arms v) (assigns r v) h (λ k. left-in v (arms_vars arms) (code_vars r) (arms-assign-in arms v k)) (λ k. right-in v (arms_vars arms) (code_vars r) (assign-in r v k)))

  arms-assign-in : (arms : Arms) (v : ℕ) → arms_assign arms v ≡ true → among v (arms_vars arms) ≡ true
  arms-assign-in None v h = absurd (cc)
  arms-assign-in (Arm w label body more) v h = either (assigns body v) (arms_assign more v) h (λ k. left-in v (code_vars body) (arms_vars more) (assign-in body v k)) (λ k. right-in v (code_vars body) (arms_vars more) (arms-assign-in more v k))

pub mentions-in : (c : Code) (v : ℕ) → mentions c v ≡ true → among v (code_vars c) ≡ true
mentions-in c v h = either (code_reads c v) (assigns c v) h (read-in c v) (assign-in c v)

pub assigns-in : (c : Code) (v : ℕ) → assigns c v ≡ true → among v (code_vars c) ≡ true
assigns-in = assign-in
