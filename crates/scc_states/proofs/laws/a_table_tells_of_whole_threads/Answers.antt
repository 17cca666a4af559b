use Rattle.std.proofs.Common.{◌≡◌, Option, Some, None, Bool, ℕ, ap, refl, ◌∙◌}
use Rattle.std.specs.Prelude.{◌&&◌, is_some, option_map}
use Rattle.scc_bits.specs.Value.{Number}
use Rattle.scc_core.specs.Known.{facts_in}
use Rattle.scc_core.specs.Located.{named_in}
use Rattle.scc_core.specs.Statics.{value_in}
use Rattle.scc_core_flow.proofs.Tests.{each_turned}
use Rattle.scc_core_spec.specs.Static.{static}
use Rattle.scc_core_view.specs.Programs.{cells_of}
use Rattle.scc_core_view.specs.Terms.{term_of}
use Rattle.scc_states.specs.Resets.{Loads, assigns_in, loads_in}
use Rattle.scc_states_kept.specs.Filled.{fills}
use Rattle.scc_states.specs.Wholes.{IsWholePut}
use Rattle.scc_states.proofs.laws.a_table_tells_of_whole_threads.Goals as goal

there : (o : Option Number) (q : Option ℕ) → option_map (λ v. v.word) o ≡ q → is_some o ≡ is_some q
there None q h = ap is_some h
there (Some v) q h = ap is_some h

swapped : (a b d e : Bool) → a ≡ e → b ≡ d → (a && b) ≡ (d && e)
swapped a b d e h k = by a b ∙ ap (λ x. x && a) k ∙ ap (λ x. d && x) h
  where
    by : (a b : Bool) → (a && b) ≡ (b && a)
    by Bool.true Bool.true = refl
    by Bool.true Bool.false = refl
    by Bool.false Bool.true = refl
    by Bool.false Bool.false = refl

pub returns : goal.returns
unfolding loads_in
returns c = λ known core i p knows w. record {
  stands = w.stands;
  is_thread = w.is_thread;
  tests = c.whole_tests_are_decided.ensures known core.cells p.body knows w.cells w.tests;
  loads = each_turned (IsWholePut core) (Loads known (cells_of core)) (λ g is.
      swapped (fills known g.0 (named_in known g.0)) (is_some (value_in (facts_in known) g.1)) (is_some (static (cells_of core) (term_of g.1))) _ (is.left known knows)
      (there (value_in (facts_in known) g.1) (static (cells_of core) (term_of g.1)) (c.static_values_by_a_table_are_those_of_terms.ensures.values known core.cells g.1 knows w.cells is.value)))
      (assigns_in p.body) w.puts;
}
