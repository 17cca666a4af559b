-- The text of `list`: a line for each register of the module in declaration order, then one for each process in construction order. This project's own.
use Rattle.std.specs.Prelude.{ℕ, ◌+◌, nat_eq, List, [], ◌∷◌, ◌++◌, flat_map, codes, decimal, if◌then◌else◌}
use Rattle.std.specs.List.{list_any}
use Rattle.scc_svtree.specs.declared.module.SvModule.{SvModule}
use Rattle.scc_svtree.specs.declared.module.SvVar.{SvVar}
use Rattle.scc_blocks_spec.specs.Matches.{registers}
use Rattle.scc_core_spec.specs.Program.{Program, Process}
use Rattle.scc_core_spec.specs.Static.{Cells}
use Rattle.scc_core_spec.specs.Constants.{name_text}
use Rattle.scc_core_spec.specs.Sizes.{bound, states, thread_statements}

abbrev pub register_line : SvVar → List ℕ
register_line v = codes "register " ++ (v.name ++ (codes " " ++ (decimal v.width ++ codes "\n")))

abbrev pub register_lines : List ℕ → ℕ → List SvVar → List ℕ
register_lines rs n [] = []
register_lines rs n (v ∷ vs) = (if list_any (nat_eq n) rs then register_line v else []) ++ register_lines rs (n + 1) vs

-- The bound on the steps of a resume is that of the unrolled body, whose size and loops those of the resolved body are.
abbrev pub process_line : (ℕ → List ℕ) → Cells → Process → List ℕ
process_line text cs q = if q.is_thread
    then codes "thread " ++ (name_text text q.name ++ (codes " states " ++ (decimal (states cs q.body) ++ (codes " steps " ++ (decimal (bound q.body) ++ (codes " statements " ++ (decimal (thread_statements cs q.body) ++ codes "\n")))))))
    else codes "method " ++ (name_text text q.name ++ (codes " steps " ++ (decimal (bound q.body) ++ codes "\n")))

-- of a module, and of the resolved core whose module it is
abbrev pub list_text : (ℕ → List ℕ) → SvModule → Program → List ℕ
list_text text m p = register_lines (registers m) 0 m.vars ++ flat_map (process_line text p.cells) p.processes
