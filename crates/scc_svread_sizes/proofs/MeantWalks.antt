-- What holds where a walk notes nothing.
use Rattle.std.proofs.Common.{◌≡◌, ℕ, Bool, true, false, refl}
use Rattle.std.specs.Prelude.{Option, Some, None}
use Rattle.scc_svread_check.specs.declared.walk.Walk.{Walk}
use Rattle.scc_svread_check.specs.Walking.{Walking, ◌orelse◌, mark, pass, size_if, name_if, size_of_whole, ◌then◌}
use Rattle.scc_svread_written.proofs.Clear.{IsClear, asks_size, asks_name}

-- where p notes nothing, nothing was noted before it, and P holds
pub record Demands (p : Walking) (P : Type 0) : Type 0 where
  pub told : (w : Walk) → IsClear (p w) → IsClear w × P

pub demands_by : {p : Walking} {P Q : Type 0} → (P → Q) → Demands p P → Demands p Q
demands_by f k = record { told = λ w c. ((k.told w c).0, f (k.told w c).1) }

pub demands_then : {p q : Walking} {P Q : Type 0} → Demands p P → Demands q Q → Demands (p then q) (P × Q)
demands_then {p} {q} k l = record { told = λ w c. let d = l.told (p w) c in let e = k.told w d.0 in (e.0, (e.1, d.1)) }

-- no walk
pub demands_none : {P : Type 0} → P → Demands (λ w. w) P
demands_none h = record { told = λ w c. (c, h) }

-- bytes that are passed over say nothing
pub pass_first : (n : ℕ) {p : Walking} {P : Type 0} → Demands p P → Demands (pass n then p) P
pass_first n {p} k = record { told = λ w c. k.told (pass n w) c }

pub pass_last : (n : ℕ) {p : Walking} {P : Type 0} → Demands p P → Demands (p then pass n) P
pass_last n {p} k = record { told = λ w c. k.told w c }

pub demands_size : (b : Bool) → Demands (size_if b) (b ≡ false)
demands_size b = record { told = (asks_size b).told }

pub demands_name : (b : Bool) → Demands (name_if b) (b ≡ false)
demands_name b = record { told = (asks_name b).told }

none_left : (o later : Option ℕ) → (o orelse later) ≡ None → o ≡ None
none_left None later e = refl
none_left (Some at) later e = e

none_right : (o later : Option ℕ) → (o orelse later) ≡ None → later ≡ None
none_right None later e = e
none_right (Some at) later e = absurd (cc)

unmarked : (b : Bool) (at : ℕ) → mark b at ≡ None → b ≡ false
unmarked false at e = refl
unmarked true at e = absurd (cc)

pub demands_whole : (b : Bool) {p : Walking} {P : Type 0} → Demands p P → Demands (size_of_whole b p) ((b ≡ false) × P)
demands_whole b {p} k = record {
  told = λ w c.
      let later : Option ℕ = mark b w.at orelse (p w).size in
      let rest = none_right w.size later c.0 in
      let inner = k.told w (none_right (mark b w.at) (p w).size rest, c.1) in
      (inner.0, (unmarked b w.at (none_left (mark b w.at) (p w).size rest), inner.1));
}
