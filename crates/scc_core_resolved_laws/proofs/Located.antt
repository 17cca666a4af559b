-- The machine's location has a name that completes the patterns of the location's name.
use Rattle.std.proofs.Common.{◌≡◌, ℕ, true, List, [], ◌∷◌, ◌++◌, Option, Some, None, refl, sym, ap, subst, ◌∙◌}
use Rattle.std.specs.Prelude.{slice_get, option_map, option_and_then}
use Rattle.scc_semantics.specs.Location.{Location, Member as member_part, Element, within}
use Rattle.scc_semantics.specs.Scene.{expr_kind, followed, index_of}
use Rattle.scc_semantics.specs.Value.{Held, locate, value}
use Rattle.scc_semantics.specs.Value as machine
use Rattle.scc_core_spec.specs.Term.{Left, Cell, Prefix, Null, Follow, Member, Index, kind_of}
use Rattle.scc_core_spec.specs.Program.{Program, Process}
use Rattle.scc_core_spec.specs.Program as program
use Rattle.scc_core_spec.specs.Named.{Step, Named, At, Open, steps_of}
use Rattle.scc_core_spec.specs.Static.{grown, pattern, static, index_step}
use Rattle.scc_core_spec.specs.Source.{Home, cell_left, source_of, left_of, expr_of}
use Rattle.scc_states_path_laws.specs.Moved.{World, around}
use Rattle.scc_states_laws.specs.Processes.{HoldsFixed, world_of}
use Rattle.scc_states_laws.specs.Alike.{Names, base, member, element, TellsApart, IsFitLeft, IsCellName}
use Rattle.scc_states_laws.proofs.Values.{some_same, kind_is}
use Rattle.scc_states_laws.proofs.Statics.{static_is}
use Rattle.scc_core_spec.specs.OpenNames.{agrees, open_name}
use Rattle.scc_core_resolved_laws.proofs.Agreeing.{agrees-append, agrees-self, name-closed}

pub behind-is : (o : Option (Option Location)) (f : Location → Option (Option Location)) (k : Location) → followed (machine.behind o f) ≡ Some k → (m : Location) × (o ≡ Some (Some m)) × (followed (f m) ≡ Some k)
behind-is None f k e = absurd cc
behind-is (Some None) f k e = absurd cc
behind-is (Some (Some m)) f k e = (m, refl, e)

pub inner-is : {A B : Type 0} (o : Option A) (g : A → Option B) (k : B) → option_and_then (λ l. l) (option_map g o) ≡ Some k → (x : A) × (o ≡ Some x) × (g x ≡ Some k)
inner-is None g k e = absurd cc
inner-is (Some x) g k e = (x, refl, e)

module _ (home : Home) (p : Program) (i : ℕ) (q : Process) where
  -- a location of the machine and what stands for it
  pub record Led (k : Location) (l : Left) : Type 0 where
    pub steps : List Step
    pub names : Names home i q k steps
    pub opened : List Step
    pub opens : open_name p.cells l ≡ Some opened
    pub agrees_open : agrees opened steps ≡ true
    pub formed : List Step
    pub forms : pattern p.cells l ≡ Some formed
    pub agrees_formed : agrees formed steps ≡ true

  module _ (constant : Location → Option ℕ) (signals : Location → ℕ) (apart : TellsApart home p i q) (h : Held) (fixed : HoldsFixed (source_of home p constant) h) where
    abbrev W : World
    W = world_of home constant p i signals

    pub located : (l : Left) (k : Location) → IsFitLeft q p.cells l → followed (locate (around W h) (left_of home p.cells i l)) ≡ Some k → Led k l
    located (Cell o n) k t e = by (slice_get p.cells n) refl t e
      where
        by : (c : Option program.Cell) → slice_get p.cells n ≡ c → IsCellName q p.cells c → followed (locate (around W h) (cell_left home p.cells i c)) ≡ Some k → Led k (Cell o n)
        by None d t' e' = absurd t'
        by (Some c) d t' e' =
            let f = ap (option_map (λ c. steps_of c.name)) d in
            record {
              steps = steps_of c.name;
              names = subst (λ z. Names home i q z (steps_of c.name)) (some_same e') (base c.name t');
              opened = steps_of c.name;
              opens = f;
              agrees_open = agrees-self (steps_of c.name) (name-closed c.name);
              formed = steps_of c.name;
              forms = f;
              agrees_formed = agrees-self (steps_of c.name) (name-closed c.name);
            }
    located (Prefix o name) k t e = record {
      steps = steps_of name;
      names = subst (λ z. Names home i q z (steps_of name)) (some_same e) (base name t);
      opened = steps_of name;
      opens = refl;
      agrees_open = agrees-self (steps_of name) (name-closed name);
      formed = steps_of name;
      forms = refl;
      agrees_formed = agrees-self (steps_of name) (name-closed name);
    }
    located (Null o) k t e = absurd t
    located (Follow o soft l) k t e = absurd t
    located (Member l name) k t e =
        let b = behind-is (locate (around W h) (left_of home p.cells i l)) (λ m. Some (Some (within m (member_part name)))) k e in
        let r = located l b.0 t (ap followed b.1) in
        record {
          steps = r.steps ++ Named name ∷ [];
          names = subst (λ z. Names home i q z (r.steps ++ Named name ∷ [])) (some_same b.2) (member name r.names);
          opened = r.opened ++ Named name ∷ [];
          opens = ap (λ z. grown z (Named name)) r.opens;
          agrees_open = agrees-append r.opened r.steps (Named name) (Named name) r.agrees_open (agrees-self (Named name ∷ []) refl);
          formed = r.formed ++ Named name ∷ [];
          forms = ap (λ z. grown z (Named name)) r.forms;
          agrees_formed = agrees-append r.formed r.steps (Named name) (Named name) r.agrees_formed (agrees-self (Named name ∷ []) refl);
        }
    located (Index l size j) k t e =
        let b = behind-is (locate (around W h) (left_of home p.cells i l)) (λ m. option_map (λ x. Some (within m (Element (index_of (expr_kind (expr_of home p.cells i j)) x)))) (value (around W h) (expr_of home p.cells i j))) k e in
        let v = inner-is (value (around W h) (expr_of home p.cells i j)) (λ x. Some (within b.0 (Element (index_of (expr_kind (expr_of home p.cells i j)) x)))) k b.2 in
        let r = located l b.0 t.0 (ap followed b.1) in
        let at : within b.0 (Element (index_of (kind_of j) v.0)) ≡ k = ap (λ z. within b.0 (Element (index_of z v.0))) (sym (kind_is home constant p i q signals apart j t.1)) ∙ some_same v.2 in
        record {
          steps = r.steps ++ At (index_of (kind_of j) v.0) ∷ [];
          names = subst (λ z. Names home i q z (r.steps ++ At (index_of (kind_of j) v.0) ∷ [])) at (element (index_of (kind_of j) v.0) r.names);
          opened = r.opened ++ Open size ∷ [];
          opens = ap (λ z. grown z (Open size)) r.opens;
          agrees_open = agrees-append r.opened r.steps (Open size) (At (index_of (kind_of j) v.0)) r.agrees_open refl;
          formed = r.formed ++ index_step size (kind_of j) (static p.cells j) ∷ [];
          forms = ap (λ z. grown z (index_step size (kind_of j) (static p.cells j))) r.forms;
          agrees_formed = agrees-append r.formed r.steps (index_step size (kind_of j) (static p.cells j)) (At (index_of (kind_of j) v.0)) r.agrees_formed (last v.0 v.1 (static p.cells j) refl);
        }
      where
        last : (x : ℕ) → value (around W h) (expr_of home p.cells i j) ≡ Some x → (o : Option ℕ) → static p.cells j ≡ o → agrees (index_step size (kind_of j) o ∷ []) (At (index_of (kind_of j) x) ∷ []) ≡ true
        last x ve None d = refl
        last x ve (Some y) d =
            let same : y ≡ x = some_same (sym (static_is home constant p i q signals apart h fixed j y t.1 d) ∙ ve) in
            subst (λ z. agrees (At (index_of (kind_of j) y) ∷ []) (At (index_of (kind_of j) z) ∷ []) ≡ true) same (agrees-self (At (index_of (kind_of j) y) ∷ []) refl)
