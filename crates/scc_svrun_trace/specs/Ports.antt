-- The ports of a module, as stimuli and traces name them.
use Rattle.std.specs.Prelude.{ℕ, ◌+◌, Bool, true, false, cond, List, [], ◌∷◌, map, slice_get, unwrap_or, option_map}
use Rattle.scc_svtree.specs.declared.expr.VarId.{VarId}
use Rattle.scc_svtree.specs.declared.module.SvModule.{SvModule}
use Rattle.scc_svtree.specs.declared.module.SvVar.{SvVar}
use Rattle.scc_svtree.specs.declared.module.Dir.{Dir}
use Rattle.scc_svtree.specs.declared.module.Dir.TheVariants.{Output}
use Rattle.scc_svtree.specs.Variables.{width_at}
use Rattle.scc_svrun.specs.Runs.{inputs_of}
use Rattle.scc_trace.specs.declared.stim.StimPort.{StimPort}

-- the name of a variable, which is empty where there is none
abbrev pub name_at : List SvVar → ℕ → List ℕ
name_at vars v = unwrap_or (option_map (λ x. x.name) (slice_get vars v)) []

abbrev pub port_of : SvModule → VarId → StimPort
port_of m v = record { name = name_at m.vars v.0; width = width_at m.vars v.0 }

abbrev pub is_output : Dir → Bool
is_output Output = true
is_output _ = false

-- the outputs from variable n on
abbrev pub outputs_from : ℕ → List SvVar → List VarId
outputs_from n [] = []
outputs_from n (v ∷ vs) = cond (is_output v.dir) (record { 0 = n } ∷ outputs_from (n + 1) vs) (outputs_from (n + 1) vs)

abbrev pub outputs_of : SvModule → List VarId
outputs_of m = outputs_from 0 m.vars

-- the inputs but the clocks, and the outputs
abbrev pub in_ports : SvModule → List StimPort
in_ports m = map (port_of m) (inputs_of m)

abbrev pub out_ports : SvModule → List StimPort
out_ports m = map (port_of m) (outputs_of m)
