-- Designs of thin texts have a start, and need no reset.
use Rattle.std.proofs.Common.{List, [], ◌∷◌, ◌++◌, Option, Some, None, refl}
use Rattle.std.proofs.lemmas.Nat.{pow_pos}
use Rattle.std.specs.Prelude.{unwrap_or}
use Rattle.scc_bits_kinds.specs.Kinds.{width_of}
use Rattle.scc_semantics.specs.Location.{Location}
use Rattle.scc_semantics.specs.Places.{Thing, Number, Signal, Port}
use Rattle.scc_semantics.specs.Process.{State, first_frames}
use Rattle.scc_semantics.specs.Run.{Step, Shown, FitsThing}
use Rattle.scc_semantics.specs.Start.{IsStart, FindsResets}
use Rattle.scc_thin.specs.declared.design.Design.{Design}
use Rattle.scc_thin_module.specs.Source.{method_of, source_of, thing_at}

fits_zero : (t : Option Thing) → FitsThing t 0
fits_zero None = tt
fits_zero (Some (Number k)) = pow_pos (width_of k)
fits_zero (Some (Signal k)) = pow_pos (width_of k)
fits_zero (Some (Port k root)) = tt

-- 0 everywhere, before the first statement
first_state : Design → State
first_state d = record { store = record { words = λ l. 0; targets = λ l. None }; frames = λ i. first_frames 0 (method_of d d.senses) }

pub thin_starts : (d : Design) → (s : State) × IsStart (source_of d) s
unfolding first_state
thin_starts d = (
  first_state d,
  record {
    words = record { fits = λ l. fits_zero (thing_at d.ports l); fixed = λ l. tt; constants = λ l. tt };
    targets = λ l. refl;
    frames = (refl, tt);
  },
)

find_all : (d : Design) (before : List Location) (steps : List Step) (shown : List Shown) → FindsResets (source_of d) before steps shown
find_all d before [] [] = tt
find_all d before [] (o ∷ os) = tt
find_all d before (x ∷ xs) [] = tt
find_all d before (x ∷ xs) (o ∷ os) = (refl, find_all d (before ++ unwrap_or x.edge []) xs os)

pub needs_no_reset : (d : Design) (steps : List Step) (shown : List Shown) → FindsResets (source_of d) [] steps shown
needs_no_reset d steps shown = find_all d [] steps shown
