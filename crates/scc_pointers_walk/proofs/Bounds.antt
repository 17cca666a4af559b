-- Names of 32 bits, and the vectors that a name may be.
use Rattle.std.proofs.Common.{◌≡◌, refl, ap, subst, ◌∙◌, arith, ℕ, ◌+◌, ◌<◌, ◌≤◌, Bool, true, false, ◌&&◌, nat_eq, nat_lt, if◌then◌else◌, List, [], ◌∷◌, ◌++◌, map, Option, Some, None, option_map, unwrap_or}
use Rattle.std.proofs.lemmas.Bool.Decides.{nat_tests}
use Rattle.scc_base.specs.declared.names.Name.{Name}
use Rattle.scc_base.specs.declared.path.PathPart.{PathPart}
use Rattle.scc_base.specs.declared.path.PathPart.TheVariants as path_part
use Rattle.scc_core.specs.declared.program.Cell.{Cell}
use Rattle.scc_core.specs.declared.program.VectorSize2.{VectorSize2}
use Rattle.scc_core.specs.Names.{same_part}
use Rattle.scc_semantics.specs.Location as location
use Rattle.scc_core_spec.specs.Fold as fold
use Rattle.scc_core_spec.specs.Named.{Step, Named, At, Ours, Open, fits, own_steps, part_step, path_steps, steps_of}
use Rattle.scc_core_spec.specs.Named as spec
use Rattle.scc_core_spec.specs.Program as program
use Rattle.scc_core_view.specs.Programs.{cell_of, path_of, vector_of}
use Rattle.scc_core_view.specs.Terms.{name_of, own_of, part_of}
use Rattle.scc_pointers_walk.specs.Located.{rest_behind}
use Rattle.scc_pointers_walk.specs.Read.{AreSmall, AreSmallParts, HaveSmallNames, HaveSmallPaths}

pub and_false : (b : Bool) → (b && false) ≡ false
and_false true = refl
and_false false = refl

pub same_number : (a b : ℕ) → nat_eq a b ≡ nat_eq b a
same_number a b = grind (arith, nat_tests)

pub too_large : (i j : ℕ) → 4294967296 ≤ i → j < 4294967296 → nat_eq i j ≡ false
too_large i j h l = grind (arith, nat_tests)

-- ---- a number past 32 bits is in no name

pub data Small : List Step → Type 0 where
  small_end : Small []
  small_name : {s : List Step} (n : ℕ) → Small s → Small (Named n ∷ s)
  small_at : {s : List Step} (i : ℕ) → i < 4294967296 → Small s → Small (At i ∷ s)
  small_ours : {s : List Step} (n : ℕ) → Small s → Small (Ours n ∷ s)

pub small_path : (path : List PathPart) (s : List Step) → AreSmallParts path → Small s → Small (map part_step (map part_of path) ++ s)
small_path [] s h g = g
small_path (path_part.Member n ∷ path) s h g = small_name n.0 (small_path path s h g)
small_path (path_part.Index i ∷ path) s h g = small_at i h.0 (small_path path s h.1 g)

pub small_indices : (is : List ℕ) → AreSmall is → Small (map At is)
small_indices [] h = small_end
small_indices (i ∷ is) h = small_at i h.0 (small_indices is h.1)

pub small_own : (o : Option (ℕ × Name)) (is : List ℕ) → AreSmall is → Small (own_steps (own_of o) is)
small_own None is h = small_end
small_own (Some l) is h = small_ours l.0 (small_indices is h)

pub small_only : (path : List PathPart) → AreSmallParts path → Small (path_steps (path_of path))
small_only [] h = small_end
small_only (path_part.Member n ∷ path) h = small_name n.0 (small_only path h)
small_only (path_part.Index i ∷ path) h = small_at i h.0 (small_only path h.1)

pub large_fits : (a : List Step) (i : ℕ) (b : List Step) {q : List Step} → 4294967296 ≤ i → Small q → fits (a ++ At i ∷ b) q ≡ false
large_fits [] i b h small_end = refl
large_fits [] i b h (small_name n g) = refl
large_fits [] i b h (small_at {s = s} j l g) = ap (λ t. t && fits b s) (too_large i j h l)
large_fits [] i b h (small_ours n g) = refl
large_fits (Named m ∷ a) i b h small_end = refl
large_fits (Named m ∷ a) i b h (small_name n g) = ap (λ t. nat_eq m n && t) (large_fits a i b h g) ∙ and_false (nat_eq m n)
large_fits (Named m ∷ a) i b h (small_at j l g) = refl
large_fits (Named m ∷ a) i b h (small_ours n g) = refl
large_fits (At m ∷ a) i b h small_end = refl
large_fits (At m ∷ a) i b h (small_name n g) = refl
large_fits (At m ∷ a) i b h (small_at j l g) = ap (λ t. nat_eq m j && t) (large_fits a i b h g) ∙ and_false (nat_eq m j)
large_fits (At m ∷ a) i b h (small_ours n g) = refl
large_fits (Ours m ∷ a) i b h small_end = refl
large_fits (Ours m ∷ a) i b h (small_name n g) = refl
large_fits (Ours m ∷ a) i b h (small_at j l g) = refl
large_fits (Ours m ∷ a) i b h (small_ours n g) = ap (λ t. nat_eq m n && t) (large_fits a i b h g) ∙ and_false (nat_eq m n)
large_fits (Open m ∷ a) i b h small_end = refl
large_fits (Open m ∷ a) i b h (small_name n g) = refl
large_fits (Open m ∷ a) i b h (small_at j l g) = ap (λ t. nat_lt j m && t) (large_fits a i b h g) ∙ and_false (nat_lt j m)
large_fits (Open m ∷ a) i b h (small_ours n g) = refl

pub no_size : (p : List Step) (ws : List VectorSize2) → HaveSmallPaths ws → ((q : List Step) → Small q → fits p q ≡ false) → fold.size_at (map vector_of ws) p ≡ 0
no_size p [] h f = refl
no_size p (v ∷ ws) h f = ap (λ b. if b then v.size else fold.size_at (map vector_of ws) p) (f (path_steps (path_of v.path)) (small_only v.path h.0)) ∙ no_size p ws h.1 f

pub no_pointer : (p : List Step) (n : ℕ) (cells : List Cell) → HaveSmallNames cells → ((q : List Step) → Small q → fits p q ≡ false) → spec.cell_at true n p (map cell_of cells) ≡ None
no_pointer p n [] h f = refl
no_pointer p n (c ∷ cells) h f =
    ap (λ b. if b && program.is_pointer (cell_of c).sort then Some n else spec.cell_at true (n + 1) p (map cell_of cells)) (f (steps_of (name_of c.name)) (small_path c.name.path (own_steps (own_of c.name.local) c.name.indices) h.0 (small_own c.name.local c.name.indices h.1)))
    ∙ no_pointer p (n + 1) cells h.2 f

-- ---- vectors that a name may be

pub not_ours : (p : List location.Part) (n : ℕ) (s : List Step) (q : List location.Part) → fits (map part_step p ++ Ours n ∷ s) (map part_step q) ≡ false
not_ours [] n s [] = refl
not_ours [] n s (location.Member m ∷ q) = refl
not_ours [] n s (location.Element j ∷ q) = refl
not_ours (location.Member m ∷ p) n s [] = refl
not_ours (location.Element i ∷ p) n s [] = refl
not_ours (location.Member m ∷ p) n s (location.Member k ∷ q) = ap (λ t. nat_eq m k && t) (not_ours p n s q) ∙ and_false (nat_eq m k)
not_ours (location.Member m ∷ p) n s (location.Element k ∷ q) = refl
not_ours (location.Element m ∷ p) n s (location.Member k ∷ q) = refl
not_ours (location.Element m ∷ p) n s (location.Element k ∷ q) = ap (λ t. nat_eq m k && t) (not_ours p n s q) ∙ and_false (nat_eq m k)

pub behind_if : (b : Bool) (o : Option (List PathPart)) (f : List PathPart → Bool) → (b && unwrap_or (option_map f o) false) ≡ unwrap_or (option_map f (if b then o else None)) false
behind_if true o f = refl
behind_if false o f = refl

pub path_fits : (front : List PathPart) (s : List Step) (path : List PathPart)
    → fits (map part_step (map part_of front) ++ s) (path_steps (path_of path)) ≡ unwrap_or (option_map (λ rest. fits s (path_steps (path_of rest))) (rest_behind path front)) false
path_fits [] s path = refl
path_fits (path_part.Member n ∷ front) s [] = refl
path_fits (path_part.Index i ∷ front) s [] = refl
path_fits (path_part.Member n ∷ front) s (path_part.Member m ∷ path) =
    (λ i. same_number n.0 m.0 i && path_fits front s path i) ∙ behind_if (nat_eq m.0 n.0) (rest_behind path front) (λ rest. fits s (path_steps (path_of rest)))
path_fits (path_part.Member n ∷ front) s (path_part.Index j ∷ path) = refl
path_fits (path_part.Index i ∷ front) s (path_part.Member m ∷ path) = refl
path_fits (path_part.Index i ∷ front) s (path_part.Index j ∷ path) =
    (λ z. same_number i j z && path_fits front s path z) ∙ behind_if (nat_eq j i) (rest_behind path front) (λ rest. fits s (path_steps (path_of rest)))

pub small_rest : (path front : List PathPart) → AreSmallParts path → (rest : List PathPart) → rest_behind path front ≡ Some rest → AreSmallParts rest
small_rest path [] h rest e = subst AreSmallParts (some_same e) h
  where
    some_same : {a b : List PathPart} → Some a ≡ Some b → a ≡ b
    some_same {a = a} e = ap (λ o. unwrap_or o a) e
small_rest [] (f ∷ front) h rest e = absurd cc
small_rest (path_part.Member n ∷ path) (f ∷ front) h rest e = by (same_part (path_part.Member n) f) e (small_rest path front h rest)
  where
    by : (b : Bool) → (if b then rest_behind path front else None) ≡ Some rest → (rest_behind path front ≡ Some rest → AreSmallParts rest) → AreSmallParts rest
    by true e g = g e
    by false e g = absurd cc
small_rest (path_part.Index i ∷ path) (f ∷ front) h rest e = by (same_part (path_part.Index i) f) e (small_rest path front h.1 rest)
  where
    by : (b : Bool) → (if b then rest_behind path front else None) ≡ Some rest → (rest_behind path front ≡ Some rest → AreSmallParts rest) → AreSmallParts rest
    by true e g = g e
    by false e g = absurd cc
