-- The method of `m = pick(1) + pick(0)` meets what is asked of it.
use Rattle.std.proofs.Common.{ℕ, false, Option, refl}
use Rattle.scc_elab_spec.specs.Worked.{program, made, method, pick, int}
use Rattle.scc_inline_spec.specs.Inlined.{here_of, home_of}
use Rattle.scc_elab_spec.specs.Numbering.{levels}
use Rattle.scc_semantics.specs.Location.{Location}
use Rattle.scc_inline_laws.specs.WorkedProcess.{process}
use Rattle.scc_inline_process_laws.specs.Relation.{IsSoundAt}
use Rattle.scc_inline_process_laws.specs.Whole.{spoken_design, own_names}

pub worked_sound : (c : Location → Option ℕ) → IsSoundAt (home_of program made) (spoken_design program made c).places (own_names program made c 0 process) (here_of program made 0 process method) levels (here_of program made 0 process method) (λ o. false) 0 method.body
worked_sound c = (
  pick,
  refl,
  (λ o. false),
  (λ o e. e),
  (λ o e. cc),
  tt,
  (refl, (int, refl, refl)),
  (λ o e. cc),
  (tt, refl, (int, refl, refl), (λ o e. cc), tt),
  ((refl, refl, (int, refl, refl), (λ o e. cc)), tt),
  (
    pick,
    refl,
    (λ o. false),
    (λ o e. e),
    (λ o e. cc),
    tt,
    (refl, (int, refl, refl)),
    (λ o e. cc),
    (tt, refl, (int, refl, refl), (λ o e. cc), tt),
    ((refl, refl, (int, refl, refl), (λ o e. cc)), tt),
    ((tt, refl), tt, ((pick, refl, refl), (pick, refl, refl)), (λ o e. cc), tt),
  ),
)
