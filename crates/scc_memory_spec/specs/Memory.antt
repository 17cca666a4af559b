-- Modules with memories and their steps (IEEE 1800-2017, 7.4 and 9.2.2). An element past the end reads as 0.
use Rattle.std.specs.Prelude.{◌≡◌, ℕ, nat_eq, nat_lt, Bool, false, cond, ◌||◌, List, [], ◌∷◌, Option, Some, None, slice_get, if◌then◌else◌}
use Rattle.std.specs.List.{list_any}
use Rattle.scc_svtree.specs.declared.module.SvVar.{SvVar}
use Rattle.scc_svtree.specs.declared.expr.SvLeft.{SvLeft}
use Rattle.scc_svtree.specs.declared.expr.SvUnary.{SvUnary}
use Rattle.scc_svtree.specs.declared.expr.SvBinary.{SvBinary}
use Rattle.scc_svtree.specs.Term as term
use Rattle.scc_svtree.specs.Sizes.{assigned, sized, value_of}
use Rattle.scc_svtree.specs.Running.{after_assign, var_of}
use Rattle.scc_svtree.specs.Variables.{width_at}
use Rattle.scc_blocks_spec.specs.Renamed.{ResetCode}

pub data MemTerm : Type 0 where
  Literal : (width word : ℕ) → MemTerm
  Part : SvLeft → MemTerm
  Unary : SvUnary → MemTerm → MemTerm
  Binary : SvBinary → MemTerm → MemTerm → MemTerm
  Cond : (test yes no : MemTerm) → MemTerm
  Join : MemTerm → MemTerm → MemTerm
  Cast : (width : ℕ) → MemTerm → MemTerm
  Sign : (signed : Bool) → MemTerm → MemTerm
  -- the element of the memory of that number
  Element : (memory : ℕ) (at : MemTerm) → MemTerm

mutual
  pub data MemCode : Type 0 where
    End : MemCode
    Assign : (left : SvLeft) (value : MemTerm) (rest : MemCode) → MemCode
    If : (test : MemTerm) (yes no rest : MemCode) → MemCode
    Case : (selector : MemTerm) (arms : MemArms) (rest : MemCode) → MemCode

  pub data MemArms : Type 0 where
    None_left : MemArms
    Arm : (width label : ℕ) (body : MemCode) (more : MemArms) → MemArms

pub record MemSet : Type 0 where
  pub target : ℕ
  pub value : MemTerm

-- at an edge a block sets registers, and the elements of these memories
pub data MemBlock : Type 0 where
  Comb : (code : MemCode) → MemBlock
  Edge : (rising : Bool) (clock : ℕ) (reset : Option ResetCode) (sets : List MemSet) (memories : List ℕ) → MemBlock

-- where `write` isn't 0, the element at `address` takes `value`
pub record Memory : Type 0 where
  pub name : List ℕ
  pub width : ℕ
  pub size : ℕ
  pub write : ℕ
  pub address : ℕ
  pub value : ℕ

pub record MemModule : Type 0 where
  pub name : List ℕ
  pub vars : List SvVar
  pub blocks : List MemBlock
  pub memories : List Memory

-- the words of variables, and of the elements of each memory
pub record Valuation : Type 0 where
  pub words : ℕ → ℕ
  pub elements : ℕ → ℕ → ℕ

abbrev pub element_word : Option Memory → (ℕ → ℕ) → ℕ → term.Term
element_word None words at = term.Literal 1 0
element_word (Some m) words at = term.Literal m.width (if nat_lt at m.size then words at else 0)

module _ (m : MemModule) (elements : ℕ → ℕ → ℕ) where
  abbrev pub width : ℕ → ℕ
  width v = width_at m.vars v

  -- an expression, with each element as its present word
  abbrev pub term_in : (ℕ → ℕ) → MemTerm → term.Term
  term_in x (Literal w v) = term.Literal w v
  term_in x (Part l) = term.Part l
  term_in x (Unary o a) = term.Unary o (term_in x a)
  term_in x (Binary o a b) = term.Binary o (term_in x a) (term_in x b)
  term_in x (Cond t a b) = term.Cond (term_in x t) (term_in x a) (term_in x b)
  term_in x (Join a b) = term.Join (term_in x a) (term_in x b)
  term_in x (Cast w a) = term.Cast w (term_in x a)
  term_in x (Sign s a) = term.Sign s (term_in x a)
  term_in x (Element k at) = element_word (slice_get m.memories k) (elements k) (value_of width x (term_in x at))

  abbrev mutual
    pub run : MemCode → (ℕ → ℕ) → ℕ → ℕ
    run End x = x
    run (Assign l e r) x = run r (after_assign width l (term_in x e) x)
    run (If t a b r) x = run r (cond (nat_eq (value_of width x (term_in x t)) 0) (run b x) (run a x))
    run (Case s arms r) x = run r (run_arms (value_of width x (term_in x s)) arms x)

    pub run_arms : ℕ → MemArms → (ℕ → ℕ) → ℕ → ℕ
    run_arms word None_left x = x
    run_arms word (Arm w label body more) x = cond (nat_eq word label) (run body x) (run_arms word more x)

  abbrev pub set_word : List MemSet → (ℕ → ℕ) → ℕ → Option ℕ
  set_word [] x v = None
  set_word (s ∷ ss) x v = cond (nat_eq s.target v) (Some (assigned (width v) (sized false width x (term_in x s.value)))) (set_word ss x v)

abbrev mutual
  pub assigns : MemCode → ℕ → Bool
  assigns End v = false
  assigns (Assign l e r) v = nat_eq (var_of l) v || assigns r v
  assigns (If t a b r) v = (assigns a v || assigns b v) || assigns r v
  assigns (Case s arms r) v = arms_assign arms v || assigns r v

  pub arms_assign : MemArms → ℕ → Bool
  arms_assign None_left v = false
  arms_assign (Arm w label body more) v = assigns body v || arms_assign more v

abbrev pub combs_of : List MemBlock → List MemCode
combs_of [] = []
combs_of (Comb c ∷ bs) = c ∷ combs_of bs
combs_of (Edge rising clock reset sets memories ∷ bs) = combs_of bs

-- settled, with the inputs, registers and elements of `given`
pub record IsSettled (m : MemModule) (given x : Valuation) : Type 0 where
  pub leaves : (k : ℕ) (c : MemCode) → slice_get (combs_of m.blocks) k ≡ Some c → (v : ℕ) → run m x.elements c x.words v ≡ x.words v
  pub alike : (v : ℕ) → list_any (λ c. assigns c v) (combs_of m.blocks) ≡ false → given.words v ≡ x.words v
  pub elements : (k i : ℕ) → given.elements k i ≡ x.elements k i
