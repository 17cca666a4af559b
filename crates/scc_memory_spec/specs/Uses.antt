-- How expressions and statements may use an array that becomes a memory. This project's own.
use Rattle.std.specs.Prelude.{◌≡◌, ◌⊎◌, ℕ, suc, ◌+◌, ◌≤◌, ◌^◌, max, Bool, true, false, ◌||◌, List, [], ◌∷◌, length, Option, Some, None}
use Rattle.scc_svtree.specs.declared.expr.SvLeft.{SvLeft}
use Rattle.scc_svtree.specs.declared.expr.SvLeft.TheVariants.{Whole}
use Rattle.scc_svtree.specs.declared.expr.SvUnary.{SvUnary}
use Rattle.scc_svtree.specs.declared.expr.SvBinary.{SvBinary}
use Rattle.scc_svtree.specs.declared.expr.SvBinary.TheVariants as op
use Rattle.scc_svtree.specs.Term.{Term, Literal, Part, Unary, Binary, Cond, Join, Cast, Sign}
use Rattle.scc_svtree.specs.Code.{Code, End, Assign, If, Case, Arms, Arm}
use Rattle.scc_svtree.specs.Code as code
use Rattle.scc_svtree.specs.Running.{var_of}
use Rattle.scc_memory_spec.specs.Array.{Array, among, is_of, whole, tree}

-- a test `(I < LITERAL j)` of a variable
abbrev pub Guard : Type 0
Guard = Option (ℕ × ℕ)

abbrev pub guard_of : Term → Guard
guard_of (Binary op.Lt (Part (Whole i)) (Literal w j)) = Some (i.0, j)
guard_of e = None

-- Each mention of a next value is alone, or in the choice of the first elements by a variable that can't pass them or is tested before. Elements aren't
-- mentioned. The flag says whether such a choice stands there.
pub data Reads (a : Array) (width : ℕ → ℕ) : Guard → Term → Bool → Type 0 where
  literal : {g : Guard} → (w x : ℕ) → Reads a width g (Literal w x) false
  other : {g : Guard} → (l : SvLeft) → is_of a (var_of l) ≡ false → Reads a width g (Part l) false
  alone : {g : Guard} → (v : ℕ) → among v a.nexts ≡ true → Reads a width g (whole v) false
  unary : {g : Guard} {e : Term} {b : Bool} → (o : SvUnary) → Reads a width None e b → Reads a width g (Unary o e) b
  binary : {g : Guard} {x y : Term} {b c : Bool} → (o : SvBinary) → Reads a width None x b → Reads a width None y c → Reads a width g (Binary o x y) (b || c)
  choice : {g : Guard} {t x y : Term} {b c d : Bool} → Reads a width None t b → Reads a width (guard_of t) x c → Reads a width None y d → Reads a width g (Cond t x y) (b || (c || d))
  join : {g : Guard} {x y : Term} {b c : Bool} → Reads a width None x b → Reads a width None y c → Reads a width g (Join x y) (b || c)
  cast : {g : Guard} {e : Term} {b : Bool} → (w : ℕ) → Reads a width None e b → Reads a width g (Cast w e) b
  sign : {g : Guard} {e : Term} {b : Bool} → (s : Bool) → Reads a width None e b → Reads a width g (Sign s e) b
  chosen : {g : Guard} {b : Bool} → (i j : ℕ) → 2 ≤ j → j ≤ length a.nexts → (2 ^ width i ≤ j) ⊎ (g ≡ Some (i, j)) → Reads a width None (whole i) b
      → Reads a width g (tree a i (width i) j) true

-- the arms of a `case`, from label k on, each of which gives the next value of its label this value
abbrev pub ArmsWrite : List ℕ → Term → ℕ → Arms → Type 0
ArmsWrite vs e k code.None = Unit {0}
ArmsWrite (v ∷ vs) e k (Arm w label body more) = (label ≡ k) × (body ≡ Assign (Whole (record { 0 = v })) e End) × ArmsWrite vs e (suc k) more
ArmsWrite [] e k (Arm w label body more) = ⊥

mutual
  -- Each assignment to an array gives one next value a whole word, or is a `case` of a variable that gives the next value of that number one. The flag says
  -- whether a choice by a variable stands there, the number how many such assignments a path has at most.
  pub data Writes (a : Array) (width : ℕ → ℕ) : Code → Bool → ℕ → Type 0 where
    ends : Writes a width End false 0
    another : {e : Term} {r : Code} {b c : Bool} {n : ℕ} → (l : SvLeft) → is_of a (var_of l) ≡ false → Reads a width None e b → Writes a width r c n → Writes a width (Assign l e r) (b || c) n
    one : {e : Term} {r : Code} {b c : Bool} {n : ℕ} → (v : ℕ) → among v a.nexts ≡ true → Reads a width None e b → Writes a width r c n
        → Writes a width (Assign (Whole (record { 0 = v })) e r) (b || c) (suc n)
    branches : {t : Term} {x y r : Code} {b c d e : Bool} {m n k : ℕ} → Reads a width None t b → Writes a width x c m → Writes a width y d n → Writes a width r e k
        → Writes a width (If t x y r) (b || (c || (d || e))) (max m n + k)
    arms : {s : Term} {l : Arms} {r : Code} {b c d : Bool} {m n : ℕ} → Reads a width None s b → WritesArms a width l c m → Writes a width r d n → Writes a width (Case s l r) (b || (c || d)) (m + n)
    by_number : {e : Term} {r more : Code} {l : Arms} {b c d : Bool} {n : ℕ} → (i w label : ℕ) → Reads a width None (whole i) b → ArmsWrite a.nexts e 0 (Arm w label more l) → Reads a width None e c
        → Writes a width r d n → Writes a width (Case (whole i) (Arm w label more l) r) true (suc n)

  pub data WritesArms (a : Array) (width : ℕ → ℕ) : Arms → Bool → ℕ → Type 0 where
    none : WritesArms a width code.None false 0
    arm : {body : Code} {more : Arms} {b c : Bool} {m n : ℕ} → (w label : ℕ) → Writes a width body b m → WritesArms a width more c n → WritesArms a width (Arm w label body more) (b || c) (max m n)
