-- Passes one after another; and what a module shows of a core it shows of the design.
use Rattle.std.proofs.Common.{◌≡◌, ℕ, ◌+◌, ◌*◌, Bool, ◌||◌, Option, Some, None, List, [], ◌∷◌, map, refl, sym, ◌∙◌, subst}
use Rattle.std.specs.Prelude.{bytes_eq}
use Rattle.std.specs.List.{list_any}
use Rattle.scc_semantics.specs.Location.{Location}
use Rattle.scc_semantics.specs.Design as running
use Rattle.scc_semantics.specs.Design.{edge_of}
use Rattle.scc_semantics.specs.Run.{Step}
use Rattle.scc_semantics.specs.Same.{AllTheSame, SameDesign}
use Rattle.scc_semantics.specs.Statement.{Seen, ShowsTheSame}
use Rattle.scc_semantics_laws.proofs.Carried.{carried}
use Rattle.scc_semantics_laws.proofs.Order.{same-then}
use Rattle.scc_svtree.specs.declared.module.SvModule.{SvModule}
use Rattle.scc_core_spec.specs.Constants.{constants_of}
use Rattle.scc_core_spec.specs.IsResolved.{IsResolved}
use Rattle.scc_core_spec.specs.Program.{Program}
use Rattle.scc_base.specs.declared.refusal.Refusal.{Refusal}
use Rattle.scc_core_spec.specs.First.{first_numbered}
use Rattle.scc_core_spec.specs.Resolved.{Made, Stopped}
use Rattle.scc_core_spec.specs.Source.{Home, source_of}
use Rattle.scc_blocks_spec.specs.Comes.{Keeps}
use Rattle.scc_svtree.specs.Steps.{Steps}
use Rattle.scc_blocks_spec.specs.Emitted.{AreSeen, ModuleShows, Runs, edge_at, given_from, has_edge, is_clock_name, register}
use Rattle.scc_blocks_spec.specs.Passed.{IsHome, Law, SameShape}
use Rattle.scc_core_resolved_laws.proofs.Inputs.{is-steady, all-kept}
use Rattle.scc_elab_spec.specs.Design.{Design}
use Rattle.scc_elab_spec.specs.Meant.{design_of}
use Rattle.scc_elab_spec.specs.Program.{Plain}
use Rattle.scc_inline_spec.specs.Inlined.{copied_program, home_of}
use Rattle.scc_inline_spec.specs.Static.{first_copied, inlined}
use Rattle.scc_inline_laws.specs.OrderlyDesign.{IsOrderly}
use Rattle.scc_inline_laws.proofs.All.{inlined-same}
use Rattle.scc_inline_laws.proofs.Homes.{is-home}

made-same : {A : Type 0} {a b : A} → Made a ≡ Made b → a ≡ b
made-same e = cc

pub same-shape : (c u r : Program) → SameShape c u → SameShape u r → SameShape c r
same-shape c u r a b = record { top = a.top ∙ b.top; cells = a.cells ∙ b.cells; vectors = a.vectors ∙ b.vectors; processes = a.processes ∙ b.processes }

pub law-then : (j k : ℕ) (constant : Location → Option ℕ) (c u r : Program) → Law j constant c u → Law k constant u r → Law (j * k) constant c r
law-then j k constant c u r a b = record {
  shape = same-shape c u r a.shape b.shape;
  keeps = λ home is kept. a.keeps home is (b.keeps home is kept);
  same = λ home is kept. same-then j k (source_of home c constant) (source_of home u constant) (source_of home r constant) (a.same home is (b.keeps home is kept)) (b.same home is kept);
}

-- what a module may show where these names are clocks
abbrev RunsBy : (Location → List ℕ) → SvModule → (List ℕ → Bool) → (ℕ → ℕ) → List Step → List Seen → Type 0
RunsBy text m clock x steps seen =
    (xss : List (List (ℕ → ℕ))) × Steps m x (map (λ s. record { inputs = given_from clock 0 m.vars s.inputs; clocks = edge_at text m s.edge; has_edge = has_edge s.edge }) steps) xss × AreSeen text m xss seen

-- designs that mean the same have their clocks at the same names
module _ (k : ℕ) (d e : running.Design) (text : Location → List ℕ) where
  names-alike : (name : List ℕ) (ps qs : List running.Process) (i : ℕ) → AllTheSame k d e i ps qs
      → list_any (λ p. list_any (λ g. bytes_eq (text g.clock) name) (edge_of p.sort)) ps ≡ list_any (λ p. list_any (λ g. bytes_eq (text g.clock) name) (edge_of p.sort)) qs
  names-alike name [] [] i m = refl
  names-alike name (p ∷ ps) (q ∷ qs) i m = λ z. list_any (λ g. bytes_eq (text g.clock) name) (edge_of (m.0 z)) || names-alike name ps qs (i + 1) m.2 z
  names-alike name [] (q ∷ qs) i m = absurd m
  names-alike name (p ∷ ps) [] i m = absurd m

  same-names : SameDesign k d e → is_clock_name text d ≡ is_clock_name text e
  same-names s = λ z name. names-alike name d.processes e.processes 0 s.processes z

module _ (p : Plain) (d : Design) (c r : Program) (n : ℕ) (orderly : IsOrderly p d) (made : inlined p d ≡ Made c) (law : Law n (constants_of (home_of p d) r) c r) (resolved : IsResolved r) where
  abbrev home : Home
  home = home_of p d

  abbrev constant : Location → Option ℕ
  constant = constants_of home r

  is : IsHome home
  is = is-home p d orderly

  kept : Keeps (source_of home r constant)
  kept = all-kept home is r resolved

  -- from the design to the resolved core
  pub all-same : SameDesign (1 * n) (design_of p d constant) (source_of home r constant)
  all-same = same-then 1 n (design_of p d constant) (source_of home c constant) (source_of home r constant) (inlined-same p d c constant orderly made (law.keeps home is kept)) (law.same home is kept)

  pub source-shows : (text : Location → List ℕ) (m : SvModule) → ModuleShows text (source_of home r constant) m → ModuleShows text (design_of p d constant) m
  source-shows text m shows =
      let same : is_clock_name text (source_of home r constant) ≡ is_clock_name text (design_of p d constant) =
      sym (same-names (1 * n) (design_of p d constant) (source_of home r constant) text all-same) in
      subst (λ f. ShowsTheSame (ℕ → ℕ) (register text m) (RunsBy text m f) (design_of p d constant)) same
      (carried (1 * n) (design_of p d constant) (source_of home r constant) all-same (is-steady home is r resolved) (ℕ → ℕ) (register text m) (Runs text (source_of home r constant) m) shows)

-- what is inlined is the copied core
pub copied-is : (p : Plain) (d : Design) (c : Program) → inlined p d ≡ Made c → c ≡ copied_program p d
copied-is p d c e = by (first_numbered (first_copied p d) 0 d.processes) refl
  where
    by : (o : Option Refusal) → first_numbered (first_copied p d) 0 d.processes ≡ o → c ≡ copied_program p d
    by None f = made-same (sym e ∙ rw f refl)
    by (Some s) f = absurd (let g : Stopped s ≡ Made c = sym (rw f refl) ∙ e in cc)
