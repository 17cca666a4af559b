-- The copy of a process means the same.
use Rattle.std.proofs.Common.{◌≡◌, ℕ, true, false, List, [], Option, Some, None, option_map, unwrap_or, refl, sym, ap, subst}
use Rattle.scc_semantics.specs.Location.{Location, Root, Part}
use Rattle.scc_semantics.specs.Location as location
use Rattle.scc_elab_spec.specs.Meant.{at_path, target_at}
use Rattle.scc_semantics.specs.Body as machine
use Rattle.scc_semantics.specs.Machine.{Stop, Go, Inner}
use Rattle.scc_semantics.specs.Process.{first_frames}
use Rattle.scc_semantics.specs.Store.{Store}
use Rattle.scc_semantics.specs.Same.{MeansTheSame, at_first}
use Rattle.scc_core_spec.specs.Code as stmt
use Rattle.scc_core_spec.specs.Source as source
use Rattle.scc_core_spec.specs.Source.{at_top}
use Rattle.scc_elab_spec.specs.Program.{Plain}
use Rattle.scc_elab_spec.specs.Design as design
use Rattle.scc_elab_spec.specs.Design.{Design}
use Rattle.scc_elab_spec.specs.Cells.{path_of}
use Rattle.scc_elab_spec.specs.Numbering.{levels}
use Rattle.scc_elab_spec.specs.Copied.{Here}
use Rattle.scc_elab_spec.specs.Spoken as spoken
use Rattle.scc_inline_spec.specs.Inlined.{here_of, home_of, body_of, call_of, copied_program}
use Rattle.scc_inline_process_laws.specs.SoundCode.{LeadsUp, is_outside}
use Rattle.scc_inline_process_laws.specs.Relation.{IsSteady}
use Rattle.scc_inline_process_laws.specs.Standing.{first_spoken, first_copied, StandsAlike, Standing, standing_first}
use Rattle.scc_inline_process_laws.specs.Whole.{spoken_design, copied_design, own_names, spoken_process, copied_as_process, IsReady}
use Rattle.scc_inline_process_laws.proofs.Law.{means-same}

-- what construction leaves in a pointer is of the top
construction-up : (p : Plain) (d : Design) (constant : Location → Option ℕ) (j : ℕ) → LeadsUp j (spoken_design p d constant).targets
construction-up p d constant j k l m e f = by l.root f
  where
    top : {A : Type 0} (o : Option A) (g : A → List Part) → option_map (λ t. at_path p d (g t)) o ≡ Some m → is_outside j k m.root ≡ true
    top None g f = cc
    top (Some t) g f = let x : at_path p d (g t) ≡ m = cc in subst (λ m. is_outside j k m.root ≡ true) x refl

    by : (r : Root) → target_at p d r l.path ≡ Some m → is_outside j k m.root ≡ true
    by location.Top f = top _ (λ t. t.path) f
    by (location.Local i cs n) f = cc
    by (location.Answer i cs) f = cc

module _ (p : Plain) (d : Design) (constant : Location → Option ℕ) (i : ℕ) (q : design.Process) (ready : IsReady p d constant i q) where
  abbrev to : Here
  to = here_of p d i q ready.function

  abbrev object : Option Location
  object = Some (at_top (path_of d q.object))

  object-steady : (t : Store) → LeadsUp i t.targets → IsSteady (home_of p d) (spoken_design p d constant).places (own_names p d constant i q) to [] to.this object (λ o. false) t
  object-steady t up = ((λ l e. let x : at_top (path_of d q.object) ≡ l = cc in subst (λ l. is_outside i 1 l.root ≡ true) x refl), (λ signals s k b v. refl), up, λ o e. cc)

  first-spoken : first_frames i (spoken_process p d constant i q) ≡ first_spoken (home_of p d) (spoken_design p d constant).places (own_names p d constant i q) to ready.function to.this object levels
  first-spoken = ap (λ z. Go Inner (record { process = i; calls = []; object = Some (at_top (path_of d q.object)) }) (unwrap_or (option_map (λ f. spoken.body_of p f [] f.body) z) machine.End) Stop) ready.stands

  first-copied : first_frames i (copied_as_process p d constant i q) ≡ first_copied (home_of p d) (spoken_design p d constant).places (own_names p d constant i q) to ready.function to.this object levels
  first-copied = ap (λ z. Go Inner (own_names p d constant i q) (source.body_of (home_of p d) (copied_program p d).cells i
      (unwrap_or (option_map (λ f. stmt.Block q.place (body_of (call_of (here_of p d i q f) levels) (here_of p d i q f) 0 [] f.body) stmt.End) z) stmt.End)) Stop) ready.stands

  alike-first : StandsAlike (home_of p d) (spoken_design p d constant).places (own_names p d constant i q) to ready.function to.this object levels (at_first (spoken_design p d constant) i (spoken_process p d constant i q)) (at_first (copied_design p d constant) i (copied_as_process p d constant i q))
  alike-first = record {
    targets = ready.targets;
    up = construction-up p d constant i;
    frames = subst (λ f. Standing (home_of p d) (spoken_design p d constant).places (own_names p d constant i q) to ready.function to.this object levels (spoken_design p d constant).targets f (first_frames i (copied_as_process p d constant i q))) (sym first-spoken)
        (subst (λ f. Standing (home_of p d) (spoken_design p d constant).places (own_names p d constant i q) to ready.function to.this object levels (spoken_design p d constant).targets
        (first_spoken (home_of p d) (spoken_design p d constant).places (own_names p d constant i q) to ready.function to.this object levels) f) (sym first-copied) standing_first);
  }

  pub process-same : MeansTheSame 1 (spoken_design p d constant) (copied_design p d constant) i (spoken_process p d constant i q) (copied_as_process p d constant i q)
  process-same = means-same (home_of p d) (spoken_design p d constant).places (own_names p d constant i q) to ready.counters ready.function to.this object levels ready.sound object-steady
      (spoken_design p d constant) (copied_design p d constant) refl refl ready.places refl (spoken_process p d constant i q) (copied_as_process p d constant i q) first-spoken first-copied alike-first ready.keeps
