-- The two inverters are laid out by the rules; a port that is turned round, and a module of another name, are told.
use Rattle.std.proofs.Common.{◌≡◌, ℕ, Bool, true, false, not, ◌&&◌, ◌||◌, refl, sym, ap, ◌∙◌}
use Rattle.scc_svtree.specs.Code.{Code}
use Rattle.scc_svtree.specs.Mentions.{assigns}
use Rattle.scc_hier_spec.proofs.Worked.{inverter_code}
use Rattle.scc_hier_spec.proofs.laws.two_inverters_are_laid_out.Goals as goal

-- whether the inverter's code assigns a variable, as its module and instances ask
abbrev told : Code → ℕ → Bool
told k v = (assigns k v || false) || false

abbrev both : Bool → Bool → Bool
both x y = (x && (y && true)) && true

pub returns-clause-right : goal.returns-clause-right
returns-clause-right c = record {
  order = refl;
  first = refl;
  names = refl;
  nested = refl;
  directions = ap (λ k. both (not (told k 0)) (told k 1)) inverter_code;
  lowest = refl;
}

pub returns-clause-turned : goal.returns-clause-turned
returns-clause-turned c l = let e : false ≡ true = sym (ap (λ k. both (not (told k 0)) (not (told k 1))) inverter_code) ∙ l.directions in absurd cc

pub returns-clause-named : goal.returns-clause-named
returns-clause-named c l = let e = l.names in absurd cc
