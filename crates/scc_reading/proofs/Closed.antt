-- Where no level is left.
use Rattle.std.specs.Prelude.{◌≡◌, Bool, true, List, [], ◌∷◌, Err, refl}
use Rattle.scc_reading.specs.Reading.{too_deep, fail, is_next, closed}
use Rattle.scc_reading.proofs.Answer.{no_front, one_front, Rule, Completes, Answer, Answers}
use Rattle.scc_reading.proofs.Core.{answer_choose, answers_fail}

module _ {T : Type 0} where
  -- some text follows the rule, and one from each token that begins it
  pub answers_closed : {A : Type 0} (begins : T → Bool) (R : Rule T A) → Completes R no_front → ((t : T) → begins t ≡ true → Completes R (one_front t)) → Answers 1 R (closed begins)
  answers_closed {A} begins R some examples = record { some = some; at = λ ts. answer_choose 1 begins R (λ us. Err (too_deep us)) fail ts (λ h. stops_at ts h) (λ h. (answers_fail 1 R some).at ts) }
    where
      stops_at : (ts : List T) → is_next begins ts ≡ true → Answer 1 R (λ us. Err (too_deep us)) ts (Err (too_deep ts))
      stops_at [] h = cc
      stops_at (t ∷ ts) h = record { w = no_front; t = t; more = ts; is = refl; whole = refl; completes = let c : Completes R (one_front t) = examples t h in record { by = c.by; tree = c.tree; reads = c.reads }; alike = λ s. refl }
