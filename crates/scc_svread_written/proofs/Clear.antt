-- Walks that note nothing wrong, and what has to hold for that.
use Rattle.std.proofs.Common.{◌≡◌, ℕ, Bool, true, false, refl, sym, subst, ap}
use Rattle.std.specs.Prelude.{Option, Some, None}
use Rattle.scc_svread_check.specs.declared.walk.Walk.{Walk}
use Rattle.scc_svread_check.specs.Walking.{Walking, ◌orelse◌, mark, pass, size_if, name_if, size_of_whole, ◌then◌}

-- nothing was noted up to here
abbrev pub IsClear : Walk → Type 0
IsClear w = (w.size ≡ None) × (w.name ≡ None)

-- A walk notes nothing exactly where P holds.
pub record Asks (p : Walking) (P : Type 0) : Type 0 where
  pub told : (w : Walk) → IsClear (p w) → IsClear w × P
  pub kept : (w : Walk) → IsClear w → P → IsClear (p w)

-- the same, said otherwise
pub asks_by : {p : Walking} {P Q : Type 0} → (P → Q) → (Q → P) → Asks p P → Asks p Q
asks_by f g a = record { told = λ w c. ((a.told w c).0, f (a.told w c).1); kept = λ w c q. a.kept w c (g q) }

pub asks_pass : (n : ℕ) → Asks (pass n) (Unit {0})
asks_pass n = record { told = λ w c. (c, tt); kept = λ w c u. c }

pub asks_then : {p q : Walking} {P Q : Type 0} → Asks p P → Asks q Q → Asks (p then q) (P × Q)
asks_then {p} {q} a b = record {
  told = λ w c. let d = b.told (p w) c in let e = a.told w d.0 in (e.0, (e.1, d.1));
  kept = λ w c u. b.kept (p w) (a.kept w c u.0) u.1;
}

-- a place is noted or not
pub none_left : (o later : Option ℕ) → (o orelse later) ≡ None → o ≡ None
none_left None later e = refl
none_left (Some at) later e = e

pub none_right : (o later : Option ℕ) → (o orelse later) ≡ None → later ≡ None
none_right None later e = e
none_right (Some at) later e = absurd (cc)

none_both : (o later : Option ℕ) → o ≡ None → later ≡ None → (o orelse later) ≡ None
none_both None later e f = f
none_both (Some at) later e f = e

pub unmarked : (b : Bool) (at : ℕ) → mark b at ≡ None → b ≡ false
unmarked false at e = refl
unmarked true at e = absurd (cc)

no_mark : (b : Bool) (at : ℕ) → b ≡ false → mark b at ≡ None
no_mark b at e = ap (λ t. mark t at) e

pub asks_size : (b : Bool) → Asks (size_if b) (b ≡ false)
asks_size b = record {
  told = λ w c. ((none_left w.size (mark b w.at) c.0, c.1), unmarked b w.at (none_right w.size (mark b w.at) c.0));
  kept = λ w c e. (none_both w.size (mark b w.at) c.0 (no_mark b w.at e), c.1);
}

pub asks_name : (b : Bool) → Asks (name_if b) (b ≡ false)
asks_name b = record {
  told = λ w c. ((c.0, none_left w.name (mark b w.at) c.1), unmarked b w.at (none_right w.name (mark b w.at) c.1));
  kept = λ w c e. (c.0, none_both w.name (mark b w.at) c.1 (no_mark b w.at e));
}

pub asks_whole : (b : Bool) {p : Walking} {P : Type 0} → Asks p P → Asks (size_of_whole b p) ((b ≡ false) × P)
asks_whole b {p} a = record {
  told = λ w c.
      let later : Option ℕ = mark b w.at orelse (p w).size in
      let rest = none_right w.size later c.0 in
      let inner = a.told w (none_right (mark b w.at) (p w).size rest, c.1) in
      (inner.0, (unmarked b w.at (none_left (mark b w.at) (p w).size rest), inner.1));
  kept = λ w c u.
      let inner = a.kept w c u.1 in
      (none_both w.size (mark b w.at orelse (p w).size) c.0 (none_both (mark b w.at) (p w).size (no_mark b w.at u.0) inner.0), inner.1);
}

-- ---- what was noted is kept

-- where nothing is noted at a walk's end, nothing was before it
pub record Keeps (p : Walking) : Type 0 where
  pub keeps : (w : Walk) → IsClear (p w) → IsClear w

pub keeps_pass : (n : ℕ) → Keeps (pass n)
keeps_pass n = record { keeps = λ w c. c }

pub keeps_none : Keeps (λ w. w)
keeps_none = record { keeps = λ w c. c }

pub keeps_name : (b : Bool) → Keeps (name_if b)
keeps_name b = record { keeps = λ w c. ((asks_name b).told w c).0 }

infixl 10 ◌also◌
pub ◌also◌ : {p q : Walking} → Keeps p → Keeps q → Keeps (p then q)
◌also◌ {p} a b = record { keeps = λ w c. a.keeps w (b.keeps (p w) c) }

pub keeps_size : (b : Bool) → Keeps (size_if b)
keeps_size b = record { keeps = λ w c. ((asks_size b).told w c).0 }

pub keeps_whole : (b : Bool) {p : Walking} → Keeps p → Keeps (size_of_whole b p)
keeps_whole b {p} a = record {
  keeps = λ w c.
      let rest = none_right w.size (mark b w.at orelse (p w).size) c.0 in
      a.keeps w (none_right (mark b w.at) (p w).size rest, c.1);
}

pub same_walk : {p q : Walking} → p ≡ q → Keeps q → Keeps p
same_walk e k = subst Keeps (sym e) k
