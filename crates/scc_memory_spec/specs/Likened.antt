-- Expressions, statements and blocks with memories as those of a module without any, which have the same sizes and read the same variables. This project's own.
-- An element is a choice by its index between two zeros of the memory's width.
use Rattle.std.specs.Prelude.{ℕ, List, map, option_map, slice_get, unwrap_or}
use Rattle.scc_svtree.specs.Term as term
use Rattle.scc_svtree.specs.Term.{Term}
use Rattle.scc_svtree.specs.Code as code
use Rattle.scc_svtree.specs.Code.{Code, Arms}
use Rattle.scc_blocks_spec.specs.Renamed as plain
use Rattle.scc_memory_spec.specs.Memory.{MemTerm, Literal, Part, Unary, Binary, Cond, Join, Cast, Sign, Element, MemCode, End, Assign, If, Case, MemArms, None_left, Arm, MemSet, MemBlock, Comb, Edge, Memory}

-- 0 where there is no such memory, which is no width
abbrev pub memory_width : List Memory → ℕ → ℕ
memory_width ms k = unwrap_or (option_map (λ b. b.width) (slice_get ms k)) 0

module _ (ms : List Memory) where
  abbrev pub term_like : MemTerm → Term
  term_like (Literal w x) = term.Literal w x
  term_like (Part l) = term.Part l
  term_like (Unary o a) = term.Unary o (term_like a)
  term_like (Binary o a b) = term.Binary o (term_like a) (term_like b)
  term_like (Cond t a b) = term.Cond (term_like t) (term_like a) (term_like b)
  term_like (Join a b) = term.Join (term_like a) (term_like b)
  term_like (Cast w a) = term.Cast w (term_like a)
  term_like (Sign s a) = term.Sign s (term_like a)
  term_like (Element k at) = term.Cond (term_like at) (term.Literal (memory_width ms k) 0) (term.Literal (memory_width ms k) 0)

  abbrev mutual
    pub code_like : MemCode → Code
    code_like End = code.End
    code_like (Assign l e r) = code.Assign l (term_like e) (code_like r)
    code_like (If t a b r) = code.If (term_like t) (code_like a) (code_like b) (code_like r)
    code_like (Case s arms r) = code.Case (term_like s) (arms_like arms) (code_like r)

    pub arms_like : MemArms → Arms
    arms_like None_left = code.None
    arms_like (Arm w label body more) = code.Arm w label (code_like body) (arms_like more)

  abbrev pub set_like : MemSet → plain.Register
  set_like s = record { target = s.target; value = term_like s.value }

  -- without the lines that write memories
  abbrev pub block_like : MemBlock → plain.BlockCode
  block_like (Comb c) = plain.Comb (code_like c)
  block_like (Edge rising clock reset sets memories) = plain.Edge rising clock reset (map set_like sets)
