-- An array of three elements of 4 bits, of which a variable of two bits chooses one. This project's own.
use Rattle.std.specs.Prelude.{ℕ, zero, suc, true, List, [], ◌∷◌, None, codes}
use Rattle.scc_svtree.specs.declared.module.SvVar.{SvVar}
use Rattle.scc_svtree.specs.declared.module.Dir.TheVariants.{Inner}
use Rattle.scc_svtree.specs.declared.expr.SvLeft.TheVariants.{Whole}
use Rattle.scc_memory_spec.specs.Array.{Array}
use Rattle.scc_memory_spec.specs.Memory.{MemModule, MemCode, Comb, Edge, End, Assign, Part, Element, Memory, Valuation}

abbrev pub of_width : ℕ → List ℕ → SvVar
of_width w name = record { name = name; width = w; dir = Inner }

abbrev pub vars : List SvVar
vars = of_width 4 (codes "m$0") ∷ of_width 4 (codes "m$0$$n") ∷ of_width 4 (codes "m$1") ∷ of_width 4 (codes "m$1$$n") ∷ of_width 4 (codes "m$2") ∷ of_width 4 (codes "m$2$$n") ∷ of_width 2 (codes "i") ∷ []

abbrev pub array : Array
array = record { name = codes "m"; elements = 0 ∷ 2 ∷ 4 ∷ []; nexts = 1 ∷ 3 ∷ 5 ∷ [] }

-- `x = m[i]` beside a memory m, which an edge of variable 0 writes: w is variable 1, a 2, d 3, i 4 and x 5
abbrev pub memory : Memory
memory = record { name = codes "m"; width = 4; size = 3; write = 1; address = 2; value = 3 }

abbrev pub read_code : MemCode
read_code = Assign (Whole (record { 0 = 5 })) (Element 0 (Part (Whole (record { 0 = 4 })))) End

abbrev pub with_memory : MemModule
with_memory = record {
  name = codes "t";
  vars = of_width 1 (codes "c") ∷ of_width 1 (codes "m$$w") ∷ of_width 2 (codes "m$$a") ∷ of_width 4 (codes "m$$d") ∷ of_width 2 (codes "i") ∷ of_width 4 (codes "x") ∷ [];
  blocks = Comb read_code ∷ Edge true 0 None [] (0 ∷ []) ∷ [];
  memories = memory ∷ [];
}

-- the write is on, at 1, of 9; i is 1
abbrev pub word : ℕ → ℕ
word (suc zero) = 1
word (suc (suc zero)) = 1
word (suc (suc (suc zero))) = 9
word (suc (suc (suc (suc zero)))) = 1
word v = 0

abbrev pub here : Valuation
here = record { words = word; elements = λ k i. 5 }
