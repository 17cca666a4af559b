-- An operator ends what is below its level.
use Rattle.std.specs.Prelude.{◌≡◌, ℕ, zero, suc, true, ◌∷◌, None, Some, refl}
use Rattle.scc_base.specs.declared.refusal.Place.{Place}
use Rattle.scc_bits_kinds.specs.declared.op.Op.{Op}
use Rattle.scc_grammar_terminals.specs.declared.terminal.Terminal.{Terminal}
use Rattle.scc_grammar_terminals.specs.declared.terminal.Terminal.TheVariants as t
use Rattle.scc_grammar_terminals.specs.Operators.{operator}
use Rattle.scc_grammar_terminals.specs.Text.{Text, at}
use Rattle.scc_grammar_complete.proofs.Follows.{ends}

-- stated once, since the cases below are a thousand
no_operator : {A : Type 0} {o : Op} → None ≡ Some o → A
no_operator h = cc

pub operator_ends : (k : ℕ) (w : Terminal) (o : Op) (p : Place) (a : Text) → operator k w ≡ Some o → ends k (at w p ∷ a) ≡ true
operator_ends zero t.Star o p a h = refl
operator_ends zero (t.Divide x) o p a h = refl
operator_ends zero _ o p a h = no_operator h
operator_ends (suc zero) t.Plus o p a h = refl
operator_ends (suc zero) t.Minus o p a h = refl
operator_ends (suc zero) _ o p a h = no_operator h
operator_ends (suc (suc zero)) t.ShiftLeft o p a h = refl
operator_ends (suc (suc zero)) t.ShiftRight o p a h = refl
operator_ends (suc (suc zero)) _ o p a h = no_operator h
operator_ends (suc (suc (suc zero))) t.Less o p a h = refl
operator_ends (suc (suc (suc zero))) t.Greater o p a h = refl
operator_ends (suc (suc (suc zero))) (t.Order x) o p a h = refl
operator_ends (suc (suc (suc zero))) _ o p a h = no_operator h
operator_ends (suc (suc (suc (suc zero)))) (t.Equal x) o p a h = refl
operator_ends (suc (suc (suc (suc zero)))) _ o p a h = no_operator h
operator_ends (suc (suc (suc (suc (suc zero))))) t.And o p a h = refl
operator_ends (suc (suc (suc (suc (suc zero))))) _ o p a h = no_operator h
operator_ends (suc (suc (suc (suc (suc (suc zero)))))) t.Xor o p a h = refl
operator_ends (suc (suc (suc (suc (suc (suc zero)))))) _ o p a h = no_operator h
operator_ends (suc (suc (suc (suc (suc (suc (suc zero))))))) t.Or o p a h = refl
operator_ends (suc (suc (suc (suc (suc (suc (suc zero))))))) _ o p a h = no_operator h
operator_ends (suc (suc (suc (suc (suc (suc (suc (suc zero)))))))) t.LogAnd o p a h = refl
operator_ends (suc (suc (suc (suc (suc (suc (suc (suc zero)))))))) _ o p a h = no_operator h
operator_ends (suc (suc (suc (suc (suc (suc (suc (suc (suc zero))))))))) t.LogOr o p a h = refl
operator_ends (suc (suc (suc (suc (suc (suc (suc (suc (suc zero))))))))) _ o p a h = no_operator h
operator_ends (suc (suc (suc (suc (suc (suc (suc (suc (suc (suc k)))))))))) _ o p a h = no_operator h
