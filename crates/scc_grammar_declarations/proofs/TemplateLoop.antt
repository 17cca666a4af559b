-- The parameters of a template, behind the first.
use Rattle.std.specs.Prelude.{◌≡◌, ℕ, false, List, [], ◌∷◌, Ok, Err}
use Rattle.std.proofs.Common.{ap, ◌∙◌}
use Rattle.scc_tree.specs.declared.item.Param.{Param}
use Rattle.scc_reading.specs.Reading.{and_then, pure, repeat_in, ◌>>◌}
use Rattle.scc_reading.proofs.Leaves.{ok_is}
use Rattle.scc_grammar_terminals.specs.Answer.{onto_in}
use Rattle.scc_grammar_terminals.specs.Names.{Names}
use Rattle.scc_grammar_spec.specs.ParseExpressions as e
use Rattle.scc_grammar_spec.specs.ParseFile as f
use Rattle.scc_grammar_spec.specs.ParseItems.{Params}
use Rattle.scc_grammar_terminals.specs.Text.{Text, Outcome, Parser}

abbrev closed_off : List Param × Params → Parser (Names × List Param)
closed_off y = e.close_unless y.1.closed false >> pure (y.1.names, y.0)

pub params_from : (n : ℕ) (names : Names) (ts : Text) (first : Param) (s : Params) (mid : Text) (found : List Param) (u : Params) (rest : Text)
    → f.param n names ts ≡ Ok ((first, s), mid) → onto_in (first ∷ []) (repeat_in (f.next_param n) (f.one_param n) s) mid ≡ Ok ((found, u), rest)
    → f.params n names ts ≡ closed_off (found, u) rest
unfolding f.params
params_from n names ts first s mid found u rest h l = rw h (go (repeat_in (f.next_param n) (f.one_param n) s mid) l)
  where
    go : (o : Outcome (List Param × Params)) → and_then {B = List Param × Params} o (λ more. pure (first ∷ more.0, more.1)) ≡ Ok ((found, u), rest)
        → and_then o (λ more us. closed_off (first ∷ more.0, more.1) us) ≡ closed_off (found, u) rest
    go (Ok x) g =
        let same : ◌≡◌ {A = List Param × Params} (first ∷ x.0.0, x.0.1) (found, u) × (x.1 ≡ rest) = ok_is {A = List Param × Params} (first ∷ x.0.0, x.0.1) (found, u) x.1 rest g in
        ap (λ z. closed_off z x.1) same.0 ∙ ap (λ z. closed_off (found, u) z) same.1
    go (Err x) g = cc
