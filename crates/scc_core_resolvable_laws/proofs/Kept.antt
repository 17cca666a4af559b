-- A core that can be resolved can be resolved when it is unrolled.
use Rattle.std.proofs.Common.{◌≡◌, ℕ, suc, Bool, List, [], ◌∷◌, map, Option, Some, None, option_map, slice_get, refl, ap, sym, ◌∙◌, subst, if◌then◌else◌}
use Rattle.std.specs.Prelude.{find, not, ◌&&◌}
use Rattle.std.proofs.lemmas.Option.{slice_get-map}
use Rattle.scc_semantics.specs.Location.{Location, Part, same, same_path}
use Rattle.scc_core_spec.specs.Code.{Code}
use Rattle.scc_core_spec.specs.Term.{CellName, Own}
use Rattle.scc_core_spec.specs.Program.{Program, Process, Sort, Input, Output, Signal, Variable, Local, Pointer, Port, is_pointer}
use Rattle.scc_core_spec.specs.IsResolved.{has_path, own_is, name_is}
use Rattle.scc_core_spec.specs.Program as program
use Rattle.scc_core_spec.specs.Counted.{Elsewhere}
use Rattle.scc_core_spec.specs.Named.{Step}
use Rattle.scc_core_spec.specs.Unrolled.{unrolled, setting_of, with_body, unrolled_program}
use Rattle.scc_core_spec.specs.Source.{Home, process_named, location_of}
use Rattle.scc_core_unroll_laws.proofs.Counters.{some-is}
use Rattle.scc_core_unroll_laws.specs.Named.{IsNamed}
use Rattle.scc_core_pass_laws.specs.Pointing.{Names, base, member, element, Apart, OwnCode}
use Rattle.scc_core_pass_laws.specs.Renumbering.{IsResolvable}
use Rattle.scc_core_resolvable_laws.specs.Sorted.{IsSorted}
use Rattle.scc_core_resolvable_laws.specs.Told.{IsTold}
use Rattle.scc_core_resolvable_laws.specs.Resolvable.{AreResolvable}
use Rattle.scc_core_resolvable_laws.proofs.Unrolled.{own-unrolled}

-- other bodies leave names as they are
first-of-name : (f : Process → Code) (i : ℕ) (path : List Part) (qs : List Process) → process_named i path (map (with_body f) qs) ≡ process_named i path qs
first-of-name f i path [] = refl
first-of-name f i path (q ∷ qs) = ap (λ z. if same_path path q.name.path then i else z) (first-of-name f (suc i) path qs)

pub was : (f : Process → Code) (qs : List Process) (i : ℕ) (q : Process) → slice_get (map (with_body f) qs) i ≡ Some q → (x : Process) × (slice_get qs i ≡ Some x) × (with_body f x ≡ q)
was f qs i q e = by (slice_get qs i) refl (sym (slice_get-map (with_body f) qs i) ∙ e)
  where
    by : (o : Option Process) → slice_get qs i ≡ o → option_map (with_body f) o ≡ Some q → (x : Process) × (slice_get qs i ≡ Some x) × (with_body f x ≡ q)
    by None g h = absurd cc
    by (Some x) g h = (x, g, some-is h)

module _ (p : Program) where
  abbrev pub new : Process → Code
  new q = unrolled (setting_of p.cells q) [] Elsewhere q.body

  abbrev u : Program
  u = unrolled_program p

  -- a process names the same locations with any body
  names-before : (home : Home) (i : ℕ) (q : Process) {l : Location} {s : List Step} → Names home i (with_body new q) l s → Names home i q l s
  names-before home i q (base n h) = base n h
  names-before home i q (member name h) = member name (names-before home i q h)
  names-before home i q (element at h) = element at (names-before home i q h)

  pub named-unrolled : IsNamed p → IsNamed u
  named-unrolled named = record {
    processes = λ i q e. let x = was new p.processes i q e in
        first-of-name new 0 q.name.path p.processes ∙ (ap (λ (q : Process). process_named 0 q.name.path p.processes) (sym x.2) ∙ named.processes i x.0 x.1);
    locals = named.locals;
  }

  -- so are the names of processes
  path-unrolled : (path : List Part) (j : ℕ) → has_path path (slice_get u.processes j) ≡ has_path path (slice_get p.processes j)
  path-unrolled path j = ap (has_path path) (slice_get-map (with_body new) p.processes j) ∙ by (slice_get p.processes j)
    where
      by : (o : Option Process) → has_path path (option_map (with_body new) o) ≡ has_path path o
      by None = refl
      by (Some q) = refl

  own-unrolled-is : (s : Sort) (path : List Part) → own_is u.processes s path ≡ own_is p.processes s path
  own-unrolled-is (Local j) path = path-unrolled path j
  own-unrolled-is Input path = refl
  own-unrolled-is Output path = refl
  own-unrolled-is Signal path = refl
  own-unrolled-is (Variable w f) path = refl
  own-unrolled-is (Pointer t) path = refl
  own-unrolled-is (Port t) path = refl

  name-unrolled : (s : Sort) (n : CellName) → name_is u.processes s n ≡ name_is p.processes s n
  name-unrolled s n = by n.own
    where
      by : (o : Option Own) → name_is u.processes s (record { path = n.path; own = o; indices = n.indices }) ≡ name_is p.processes s (record { path = n.path; own = o; indices = n.indices })
      by None = refl
      by (Some o) = own-unrolled-is s n.path

  pub told-unrolled : IsTold p → IsTold u
  told-unrolled told = record {
    locals = λ n x o at e. let y = told.locals n x o at e in (y.0, with_body new y.1, slice_get-map (with_body new) p.processes y.0 ∙ ap (option_map (with_body new)) y.2, y.3);
    names = told.names;
    ports = told.ports;
  }

  pub sorted-unrolled : IsSorted p → IsSorted u
  sorted-unrolled sorted = record { names = λ n x at plain. name-unrolled x.sort x.name ∙ sorted.names n x at plain; words = sorted.words }

  module _ (home : Home) where
    -- a cell stands where the process's name leads
    abbrev stands : (List Part → ℕ) → program.Cell → Location
    stands f c = location_of home (f c.name.path) c.name

    abbrev there : (List Part → ℕ) → Bool → Location → Option program.Cell
    there f pointer l = find (λ c. same (stands f c) l && (if pointer then is_pointer c.sort else not (is_pointer c.sort))) p.cells

    abbrev found-in : List Process → List Part → ℕ
    found-in qs path = process_named 0 path qs

    same-names : found-in u.processes ≡ found-in p.processes
    same-names = λ z path. first-of-name new 0 path p.processes z

    apart-unrolled : (i : ℕ) (q : Process) → Apart home p i q → Apart home u i (with_body new q)
    apart-unrolled i q a = record {
      found = λ b l s names. ap (λ f. there f b l) same-names ∙ a.found b l s (names-before home i q names);
      whole = a.whole;
      pointers = λ n m x y gx gy px py e. a.pointers n m x y gx gy px py (sym (ap (λ f. stands f x) same-names) ∙ (e ∙ ap (λ f. stands f y) same-names));
      ports = a.ports;
    }

    resolvable-unrolled : (i : ℕ) (q : Process) → IsResolvable home p i q → IsResolvable home u i (with_body new q)
    resolvable-unrolled i q a = record {
      apart = apart-unrolled i q a.apart;
      own = own-unrolled (with_body new q) p.cells (setting_of p.cells q) [] Elsewhere q.body (own-with q.body a.own);
      sensed = record { senses = a.sensed.senses; edge = a.sensed.edge; reset = a.sensed.reset };
    }
      where
        own-with : (c : Code) → OwnCode q p.cells c → OwnCode (with_body new q) p.cells c
        own-with c h = h

    pub all-unrolled : AreResolvable home p → AreResolvable home u
    all-unrolled able i q e =
        let x = was new p.processes i q e in
        subst (IsResolvable home u i) x.2 (resolvable-unrolled i x.0 (able i x.0 x.1))
