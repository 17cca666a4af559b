-- What a written stimulus says. This project's own.
use Rattle.std.specs.Prelude.{◌≡◌, ℕ, nat_eq, nat_le, Bool, true, not, ◌&&◌, List, [], ◌∷◌, Ok}
use Rattle.std.specs.List.{list_all}
use Rattle.scc_trace.specs.declared.stim.StimPort.{StimPort}
use Rattle.scc_trace.specs.declared.stim.StimStep.{StimStep}
use Rattle.scc_trace.specs.Cut.{Bytes}
use Rattle.scc_trace.specs.Stimulus.{stim_of}
use Rattle.scc_trace.specs.Text.{all_fit, stim_text_of}

-- whether a separator stands nowhere in it
abbrev pub lacks : ℕ → Bytes → Bool
lacks s [] = true
lacks s (b ∷ bs) = not (nat_eq b s) && lacks s bs

-- a port as designs have them: 1 to 128 bits, and a name on one line
abbrev pub is_port : StimPort → Bool
is_port p = nat_le 1 p.width && nat_le p.width 128 && lacks 10 p.name

-- A stimulus that is written is read as the steps that it was written of.
abbrev pub ReadsBack : Type 0
ReadsBack = (file : ℕ) (ports : List StimPort) (steps : List StimStep) → list_all is_port ports ≡ true → list_all (λ s. all_fit ports s.words) steps ≡ true
    → stim_of file ports (stim_text_of ports steps) ≡ Ok steps
