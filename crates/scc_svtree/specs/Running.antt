-- Running statements on a valuation, which gives each variable a word (IEEE 1800-2017, 10.4.1, 12.4, 12.5).
use Rattle.std.specs.Prelude.{ℕ, ◌+◌, ◌-◌, ◌*◌, ◌/◌, ◌%◌, ◌^◌, nat_eq, cond, false}
use Rattle.scc_svtree.specs.declared.expr.SvLeft.{SvLeft}
use Rattle.scc_svtree.specs.declared.expr.SvLeft.TheVariants.{Whole, Bit, Range}
use Rattle.scc_svtree.specs.Term.{Term}
use Rattle.scc_svtree.specs.Sizes.{sized, value_of, assigned}
use Rattle.scc_svtree.specs.Code.{Code, End, Assign, If, Case, Arms, None, Arm}

-- the variable of a left side
abbrev pub var_of : SvLeft → ℕ
var_of (Whole v) = v.0
var_of (Bit v at) = v.0
var_of (Range v h l) = v.0

-- how many bits a left side has
abbrev pub left_width : (ℕ → ℕ) → SvLeft → ℕ
left_width width (Whole v) = width v.0
left_width width (Bit v at) = 1
left_width width (Range v h l) = h - l + 1

-- a word with other bits h down to l
abbrev pub spliced : (h l bits old : ℕ) → ℕ
spliced h l bits old = old / 2 ^ (h + 1) * 2 ^ (h + 1) + bits * 2 ^ l + old % 2 ^ l

-- the word of a variable once its left side has these bits
abbrev pub replaced : SvLeft → ℕ → ℕ → ℕ
replaced (Whole v) bits old = bits
replaced (Bit v at) bits old = spliced at at bits old
replaced (Range v h l) bits old = spliced h l bits old

-- a valuation in which one variable has another word
abbrev pub updated : ℕ → ℕ → (ℕ → ℕ) → ℕ → ℕ
updated v word x u = cond (nat_eq u v) word (x u)

-- what an assignment leaves
abbrev pub after_assign : (ℕ → ℕ) → SvLeft → Term → (ℕ → ℕ) → ℕ → ℕ
after_assign width l e x = updated (var_of l) (replaced l (assigned (left_width width l) (sized false width x e)) (x (var_of l))) x

abbrev mutual
  -- `if` asks for a value other than 0; `case` runs the first arm whose label equals the selector, or none
  pub run : (ℕ → ℕ) → Code → (ℕ → ℕ) → ℕ → ℕ
  run width End x = x
  run width (Assign l e rest) x = run width rest (after_assign width l e x)
  run width (If c then_part else_part rest) x = run width rest (cond (nat_eq (value_of width x c) 0) (run width else_part x) (run width then_part x))
  run width (Case e arms rest) x = run width rest (run_arms width (value_of width x e) arms x)

  pub run_arms : (ℕ → ℕ) → ℕ → Arms → (ℕ → ℕ) → ℕ → ℕ
  run_arms width word None x = x
  run_arms width word (Arm w label body more) x = cond (nat_eq word label) (run width body x) (run_arms width word more x)
