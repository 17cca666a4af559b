-- Worked values: a module whose ports write a memory of three elements and read it by an index, and the same with a name that is declared twice. This project's own.
use Rattle.std.specs.Prelude.{ℕ, true, List, [], ◌∷◌, None, codes}
use Rattle.scc_svtree.specs.declared.module.SvVar.{SvVar}
use Rattle.scc_svtree.specs.declared.module.Dir.{Dir}
use Rattle.scc_svtree.specs.declared.module.Dir.TheVariants as dir
use Rattle.scc_svtree.specs.declared.expr.SvLeft.TheVariants.{Whole}
use Rattle.scc_memory_spec.specs.Memory.{MemModule, MemCode, Comb, Edge, End, Assign, Part, Element}

abbrev pub port : Dir → ℕ → List ℕ → SvVar
port d w name = record { name = name; width = w; dir = d }

-- `x = m[i];` and, at an edge of c where w isn't 0, `m[a] <= d;`
abbrev pub port_vars : List SvVar
port_vars = port dir.Input 1 (codes "c") ∷ port dir.Input 1 (codes "w") ∷ port dir.Input 2 (codes "a") ∷ port dir.Input 4 (codes "d") ∷ port dir.Input 2 (codes "i") ∷ port dir.Output 4 (codes "x") ∷ []

abbrev pub shown : MemCode
shown = Assign (Whole (record { 0 = 5 })) (Element 0 (Part (Whole (record { 0 = 4 })))) End

abbrev pub named : List ℕ → MemModule
named name = record {
  name = codes "t";
  vars = port_vars;
  blocks = Comb shown ∷ Edge true 0 None [] (0 ∷ []) ∷ [];
  memories = record { name = name; width = 4; size = 3; write = 1; address = 2; value = 3 } ∷ [];
}

abbrev pub kept : MemModule
kept = named (codes "m")

abbrev pub twice : MemModule
twice = named (codes "x")
