-- Which variables an expression reads, and which a piece of code reads and assigns.
use Rattle.std.specs.Prelude.{ℕ, nat_eq, Bool, false, ◌||◌}
use Rattle.scc_svtree.specs.Term.{Term, Literal, Part, Unary, Binary, Cond, Join, Cast, Sign}
use Rattle.scc_svtree.specs.Code.{Code, End, Assign, If, Case, Arms, None, Arm}
use Rattle.scc_svtree.specs.Running.{var_of}

abbrev pub reads : Term → ℕ → Bool
reads (Literal w x) v = false
reads (Part l) v = nat_eq (var_of l) v
reads (Unary o a) v = reads a v
reads (Binary o a b) v = reads a v || reads b v
reads (Cond c a b) v = reads c v || (reads a v || reads b v)
reads (Join a b) v = reads a v || reads b v
reads (Cast w e) v = reads e v
reads (Sign s e) v = reads e v

abbrev mutual
  -- the variables of right sides, conditions and selectors
  pub code_reads : Code → ℕ → Bool
  code_reads End v = false
  code_reads (Assign l e rest) v = reads e v || code_reads rest v
  code_reads (If c then_part else_part rest) v = (reads c v || (code_reads then_part v || code_reads else_part v)) || code_reads rest v
  code_reads (Case e arms rest) v = (reads e v || arms_read arms v) || code_reads rest v

  pub arms_read : Arms → ℕ → Bool
  arms_read None v = false
  arms_read (Arm w label body more) v = code_reads body v || arms_read more v

abbrev mutual
  -- the variables of left sides
  pub assigns : Code → ℕ → Bool
  assigns End v = false
  assigns (Assign l e rest) v = nat_eq (var_of l) v || assigns rest v
  assigns (If c then_part else_part rest) v = (assigns then_part v || assigns else_part v) || assigns rest v
  assigns (Case e arms rest) v = arms_assign arms v || assigns rest v

  pub arms_assign : Arms → ℕ → Bool
  arms_assign None v = false
  arms_assign (Arm w label body more) v = assigns body v || arms_assign more v

-- the variables of either
abbrev pub mentions : Code → ℕ → Bool
mentions c v = code_reads c v || assigns c v
