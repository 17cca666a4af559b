-- The module of a design matches it, in the words of the whole language.
use Rattle.std.proofs.Common.{◌≡◌, ℕ, suc, ◌+◌, List, [], ◌∷◌, map, length, Bool, true, false, cond, Option, Some, None, ap, refl, sym, ◌∙◌, arith}
use Rattle.std.specs.Prelude.{take, slice_get, option_map, unwrap_or}
use Rattle.scc_semantics.specs.Design as running
use Rattle.scc_semantics.specs.Design.{is_input}
use Rattle.scc_blocks_spec.specs.Matches.{PortView, port_view, thing_width, var_view, way_of}
use Rattle.scc_svtree.specs.declared.module.Dir.TheVariants.{Input, Output}
use Rattle.scc_thin.specs.declared.design.Design.{Design}
use Rattle.scc_thin.specs.declared.design.Port.{Port}
use Rattle.scc_thin_module.specs.Emitted.{module_of, var_of}
use Rattle.scc_thin_module.specs.Same.{Matches}
use Rattle.scc_thin_module.specs.Source.{direction_of, member, ports_from, source_of, text_of, thing_of}

all_taken : (i : ℕ) (ps : List Port) → take (length (ports_from i ps)) (map var_of ps) ≡ map var_of ps
all_taken i [] = refl
all_taken i (p ∷ ps) = ap (λ l. var_of p ∷ l) (all_taken (i + 1) ps)

-- the ports from a number on
abbrev At : List Port → ℕ → List Port → Type 0
At ports i qs = (k : ℕ) → slice_get ports (i + k) ≡ slice_get qs k

abbrev view_with : Option Port → Option Bool → PortView
view_with o b = record { name = unwrap_or (option_map (λ p. p.name) o) []; width = thing_width (option_map thing_of o); input = b }

module _ (d : Design) where
  one_view : (i : ℕ) (q : Port) → slice_get d.ports i ≡ Some q → var_view (var_of q) ≡ port_view (text_of d) (source_of d) (record { location = member i; direction = direction_of q })
  one_view i q e = ap (view_with (Some q)) (by_output q.output) ∙ ap (λ o. view_with o (Some (is_input (direction_of q)))) (sym e)
    where
      by_output : (b : Bool) → way_of (cond b Output Input) ≡ Some (is_input (cond b running.Output running.Input))
      by_output true = refl
      by_output false = refl

  views : (i : ℕ) (qs : List Port) → At d.ports i qs → map var_view (map var_of qs) ≡ map (port_view (text_of d) (source_of d)) (ports_from i qs)
  views i [] at = refl
  views i (q ∷ qs) at =
      let here : slice_get d.ports i ≡ Some q = ap (slice_get d.ports) (let e : i ≡ i + 0 = omega arith in e) ∙ at 0 in
      let next : At d.ports (i + 1) qs = λ k. ap (slice_get d.ports) (omega arith) ∙ at (suc k) in
      ap (λ v. v ∷ map var_view (map var_of qs)) (one_view i q here)
      ∙ ap (λ l. port_view (text_of d) (source_of d) (record { location = member i; direction = direction_of q }) ∷ l) (views (i + 1) qs next)

  pub matches : Matches d (module_of d)
  matches = record {
    name = refl;
    ports = refl;
    whole = record {
      name = refl;
      ports = ap (map var_view) (all_taken 0 d.ports) ∙ views 0 d.ports (λ k. ap (slice_get d.ports) (omega arith));
      inner = λ v x e port. ap (λ l. slice_get l v) (all_taken 0 d.ports) ∙ e;
      edges = record { moves = []; below = tt; is = refl };
      registers = λ v e. absurd (let f : false ≡ true = e in cc);
    };
  }
