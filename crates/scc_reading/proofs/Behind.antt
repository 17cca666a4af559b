-- A sequence whose second part reads on from what the first one leaves.
use Rattle.std.specs.Prelude.{ℕ, ◌+◌, List}
use Rattle.std.proofs.Common.{arith}
use Rattle.scc_reading.specs.Reading.{Parser, ◌>>=◌}
use Rattle.scc_reading.proofs.Answer.{both_fronts, no_front, same_head, Rule, Completes, Answer, Answers}
use Rattle.scc_reading.proofs.Core.{answer_then, answer_less}
use Rattle.scc_reading.proofs.Leaves.{Leaves}

module _ {T : Type 0} where
  abbrev pub RestOf : {A B : Type 0} → Rule T A → Rule T B → A → Rule T B
  RestOf R Q a = λ b mid r. (ts : List T) → R a ts mid → Q b ts r

  pub answers_seq_behind : {A B : Type 0} {m : ℕ} {R : Rule T A} {Q : Rule T B} {P : A → List T → Type 0} {p : Parser T A} (f : A → Parser T B)
      → Answers m R p → Leaves P p → ((a : A) → Completes (RestOf R Q a) no_front) → ((a : A) (r : List T) → P a r → Answer 0 (RestOf R Q a) (f a) r (f a r)) → Answers m Q (p >>= f)
  answers_seq_behind {A} {B} {m} {R} {Q} {P} {p} f hp hl some hf =
      let c : Completes R no_front = hp.some in
      let rest : Completes (RestOf R Q c.tree) no_front = some c.tree in
      record {
        some = record { by = both_fronts c.by rest.by; tree = rest.tree; reads = λ y. rest.reads y (c.by.onto (rest.by.onto y)) (c.reads (rest.by.onto y)) };
        at = λ ts. answer_less (m + 0) m Q (p >>= f) ts _ (omega arith) (answer_then m 0 R (RestOf R Q) Q p f (λ a b ts mid r d s. s ts d) some ts (hp.at ts)
            (λ a r k. hf a r (hl.holds (k.w.onto r) a r (k.alike r (same_head r)))));
      }
