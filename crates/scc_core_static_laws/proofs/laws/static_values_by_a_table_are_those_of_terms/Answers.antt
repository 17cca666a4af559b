use Rattle.std.proofs.Common.{◌≡◌, refl, sym, ap, ◌∙◌, arith, ℕ, zero, suc, Bool, false, not, nat_eq, Option, Some, None, option_map, []}
use Rattle.std.proofs.lemmas.Bool.Decides.{nat_tests}
use Rattle.scc_bits.specs.Value.{Number}
use Rattle.scc_core.specs.Counters.{counted}
use Rattle.scc_core.specs.Known.{facts_in}
use Rattle.scc_core.specs.Statics.{facts_of, static_of}
use Rattle.scc_core_spec.specs.Static.{is_true}
use Rattle.scc_core_static_laws.specs.Held.{facts_with}
use Rattle.scc_core_static_laws.proofs.Counted.{values_counted}
use Rattle.scc_core_static_laws.proofs.Known.{facts_agree}
use Rattle.scc_core_static_laws.proofs.Values.{values_same}
use Rattle.scc_core_static_laws.proofs.Wholes.{whole_reads}
use Rattle.scc_core_static_laws.proofs.laws.static_values_by_a_table_are_those_of_terms.Goals as goal

abbrev true_word : Option Number → Option Bool
true_word o = option_map (λ v. not (nat_eq v.word 0)) o

word_true : (o : Option Number) → true_word o ≡ option_map is_true (option_map (λ v. v.word) o)
word_true None = refl
word_true (Some v) = ap Some (by v.word)
  where
    by : (w : ℕ) → not (nat_eq w 0) ≡ is_true w
    by zero = refl
    by (suc w) = let p : nat_eq (suc w) 0 ≡ false = grind (arith, nat_tests) in ap not p

pub returns-clause-values : goal.returns-clause-values
unfolding static_of
returns-clause-values c = λ known cells e k h w.
    ap (option_map (λ v. v.word)) (values_same (facts_in known) (facts_of cells) (facts_agree known cells [] k) (whole_reads cells [] tt w))
    ∙ c.static_values_are_those_of_terms.ensures cells e h w

pub returns-clause-goes : goal.returns-clause-goes
unfolding static_of
returns-clause-goes c = λ known cells e k h w.
    ap true_word (values_same (facts_in known) (facts_of cells) (facts_agree known cells [] k) (whole_reads cells [] tt w))
    ∙ word_true (static_of cells e)
    ∙ ap (option_map is_true) (c.static_values_are_those_of_terms.ensures cells e h w)

pub returns-clause-counters : goal.returns-clause-counters
unfolding static_of
returns-clause-counters c = λ known cells ns e k h r w.
    ap (option_map (λ v. v.word)) (values_same (facts_in known) (facts_with cells ns) (facts_agree known cells ns k) r ∙ values_counted cells ns r)
    ∙ c.static_values_are_those_of_terms.ensures cells (counted ns e) h w
