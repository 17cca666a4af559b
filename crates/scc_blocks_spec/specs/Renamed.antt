-- The code of a module's blocks, and the same code with other numbers for its variables. This project's own.
use Rattle.std.specs.Prelude.{ℕ, Bool, List, map, Option, option_map}
use Rattle.scc_svtree.specs.declared.expr.SvLeft.{SvLeft}
use Rattle.scc_svtree.specs.declared.expr.SvLeft.TheVariants.{Whole, Bit, Range}
use Rattle.scc_svtree.specs.declared.module.SvBlock.{SvBlock}
use Rattle.scc_svtree.specs.declared.module.SvBlock.TheVariants as block
use Rattle.scc_svtree.specs.declared.module.SvReset.{SvReset}
use Rattle.scc_svtree.specs.Term.{Term, Literal, Part, Unary, Binary, Cond, Join, Cast, Sign, term_of}
use Rattle.scc_svtree.specs.Code.{Code, End, Assign, If, Case, Arms, None, Arm, code_of}

abbrev pub left_as : (ℕ → ℕ) → SvLeft → SvLeft
left_as f (Whole v) = Whole (record { 0 = f v.0 })
left_as f (Bit v at) = Bit (record { 0 = f v.0 }) at
left_as f (Range v h l) = Range (record { 0 = f v.0 }) h l

abbrev pub term_as : (ℕ → ℕ) → Term → Term
term_as f (Literal w x) = Literal w x
term_as f (Part l) = Part (left_as f l)
term_as f (Unary o a) = Unary o (term_as f a)
term_as f (Binary o a b) = Binary o (term_as f a) (term_as f b)
term_as f (Cond c a b) = Cond (term_as f c) (term_as f a) (term_as f b)
term_as f (Join a b) = Join (term_as f a) (term_as f b)
term_as f (Cast w e) = Cast w (term_as f e)
term_as f (Sign s e) = Sign s (term_as f e)

abbrev mutual
  pub code_as : (ℕ → ℕ) → Code → Code
  code_as f End = End
  code_as f (Assign l e rest) = Assign (left_as f l) (term_as f e) (code_as f rest)
  code_as f (If c a b rest) = If (term_as f c) (code_as f a) (code_as f b) (code_as f rest)
  code_as f (Case e arms rest) = Case (term_as f e) (arms_as f arms) (code_as f rest)

  pub arms_as : (ℕ → ℕ) → Arms → Arms
  arms_as f None = None
  arms_as f (Arm w label body more) = Arm w label (code_as f body) (arms_as f more)

-- a register with what an edge gives it, and one with the number that a reset loads
pub record Register : Type 0 where
  pub target : ℕ
  pub value : Term

pub record Loaded : Type 0 where
  pub target : ℕ
  pub word : ℕ

pub record ResetCode : Type 0 where
  pub signal : ℕ
  pub rising : Bool
  pub values : List Loaded

-- a block as code (IEEE 1800-2017, 9.2.2)
pub data BlockCode : Type 0 where
  Comb : (code : Code) → BlockCode
  Edge : (rising : Bool) (clock : ℕ) (reset : Option ResetCode) (sets : List Register) → BlockCode

abbrev pub reset_code : SvReset → ResetCode
reset_code r = record { signal = r.signal.0; rising = r.rising; values = map (λ l. record { target = l.target.0; word = l.value.bits }) r.values }

abbrev pub block_code : SvBlock → BlockCode
block_code (block.Comb ss) = Comb (code_of ss)
block_code (block.Edge rising clock reset sets) =
    Edge rising clock.0 (option_map reset_code reset) (map (λ s. record { target = s.target.0; value = term_of s.value }) sets)

abbrev pub reset_as : (ℕ → ℕ) → ResetCode → ResetCode
reset_as f r = record { signal = f r.signal; rising = r.rising; values = map (λ l. record { target = f l.target; word = l.word }) r.values }

abbrev pub block_as : (ℕ → ℕ) → BlockCode → BlockCode
block_as f (Comb c) = Comb (code_as f c)
block_as f (Edge rising clock reset sets) = Edge rising (f clock) (option_map (reset_as f) reset) (map (λ s. record { target = f s.target; value = term_as f s.value }) sets)
