-- Declarations: what the first walk asks of them, and that a scope then has each variable once.
use Rattle.std.proofs.Common.{◌≡◌, ◌<◌, ◌+◌, ◌-◌, inl, inr, ◌⊎◌, ℕ, zero, suc, nat_le, Bool, true, false, not, cond, List, [], ◌∷◌, ◌++◌, length, map, decimal, refl, sym, ap, subst, ◌∙◌, arith}
use Rattle.std.specs.Prelude.{Option, Some, None, bytes_eq, if◌then◌else◌}
use Rattle.std.proofs.lemmas.Slice.Eq.{bytes_eq-Decides}
use Rattle.std.proofs.lemmas.Bool.{le-leb, leb-true, leb-false, both_ways}
use Rattle.scc_svtree.specs.declared.module.SvVar.{SvVar}
use Rattle.scc_svtree.specs.Variables.{width_at, IsWidth}
use Rattle.scc_svtree.specs.Sound.{Each, is_simple, IsNotNamed, AreNamed}
use Rattle.scc_svread_grammar.specs.declared.raw.RawVar.{RawVar}
use Rattle.scc_svread_grammar.specs.Lexical.{Bytes}
use Rattle.scc_svread_grammar.proofs.Runs.{and_right}
use Rattle.scc_svread_check.specs.Scope.{Scope, number_in, is_width, entry_of, put, high_in, high_of, once_more, declare, declare_all, is_named, is_declared}
use Rattle.scc_svread_check.specs.Walking.{◌then◌}
use Rattle.scc_svread_check.specs.Blocks.{var_walk, range_bytes, dir_bytes}
use Rattle.scc_svread_check.specs.First.{further_ports, ports_walk}
use Rattle.scc_svread_written.specs.Resolved.{width_of, variable_of, named}
use Rattle.scc_svread_written.specs.Written.{name_of, raw_var}
use Rattle.scc_svread_written.proofs.Clear.{Asks, asks_by, asks_pass, asks_then, asks_size, asks_name}
use Rattle.scc_svread_written.proofs.Formed.{Declares}
use Rattle.scc_svread_written.proofs.Decimals.{both, number_decimal}
use Rattle.scc_svread_written.proofs.Leaves.{bare_names, same_bytes, other_bytes}
use Rattle.scc_svread_written.proofs.Variables.{back_variables}

-- ---- how a name is declared

is_none : (o : Option (Option ℕ)) → is_named o ≡ false → o ≡ None
is_none None e = refl
is_none (Some h) e = absurd (cc)

put_same : (s : Scope) (name : Bytes) (h : Option ℕ) → entry_of (put s name h) name ≡ Some h
put_same [] name h = ap (λ t. cond t (Some h) None) (same_bytes name)
put_same (e ∷ es) name h = go (bytes_eq name e.0) refl (put_same es name h)
  where
    go : (t : Bool) → bytes_eq name e.0 ≡ t → entry_of (put es name h) name ≡ Some h → entry_of (if t then (e.0, h) ∷ es else e ∷ put es name h) name ≡ Some h
    go true p k = ap (λ t. cond t (Some h) (entry_of es name)) p
    go false p k = ap (λ t. cond t (Some e.1) (entry_of (put es name h) name)) p ∙ k

put_other : (s : Scope) (name other : Bytes) (h : Option ℕ) → bytes_eq other name ≡ false → entry_of (put s name h) other ≡ entry_of s other
put_other [] name other h n = ap (λ t. cond t (Some h) None) n
put_other (e ∷ es) name other h n = go (bytes_eq name e.0) refl (put_other es name other h n)
  where
    go : (t : Bool) → bytes_eq name e.0 ≡ t → entry_of (put es name h) other ≡ entry_of es other → entry_of (if t then (e.0, h) ∷ es else e ∷ put es name h) other ≡ entry_of (e ∷ es) other
    go true p k =
        let q : bytes_eq other e.0 ≡ false = ap (λ b. bytes_eq other b) (sym ((bytes_eq-Decides name e.0).0 p)) ∙ n in
        ap (λ t. cond t (Some h) (entry_of es other)) q ∙ sym (ap (λ t. cond t (Some e.1) (entry_of es other)) q)
    go false p k = ap (λ o. cond (bytes_eq other e.0) (Some e.1) o) k

after_same : (s : Scope) (v : RawVar) → is_declared s v.name ≡ false → entry_of (declare s v) v.name ≡ Some (Some (high_of v))
after_same s v n = put_same s v.name (once_more (high_of v) (entry_of s v.name)) ∙ ap (λ o. Some (once_more (high_of v) o)) (is_none (entry_of s v.name) n)

after_other : (s : Scope) (v : RawVar) (other : Bytes) → bytes_eq other v.name ≡ false → entry_of (declare s v) other ≡ entry_of s other
after_other s v other n = put_other s v.name other (once_more (high_of v) (entry_of s v.name)) n

-- a declared name is another than one that isn't
differs : (s : Scope) (a b : Bytes) → is_declared s a ≡ true → is_declared s b ≡ false → bytes_eq a b ≡ false
differs s a b h n = other_bytes a b (λ e. both_ways (is_declared s a) (ap (is_declared s) e ∙ n) h)

-- ---- what is asked

-- widths of 1 to 128, and names that were not declared before
abbrev pub AreDeclared : Scope → List RawVar → Type 0
AreDeclared s [] = Unit {0}
AreDeclared s (v ∷ vs) = (is_width (high_of v + 1) ≡ true) × (is_declared s v.name ≡ false) × AreDeclared (declare s v) vs

not_false : (b : Bool) → not b ≡ false → b ≡ true
not_false true e = refl
not_false false e = absurd (cc)

not_true : (b : Bool) → b ≡ true → not b ≡ false
not_true b e = ap not e

pub var_asks : (s : Scope) (v : RawVar) → Asks (var_walk s v) ((is_width (high_of v + 1) ≡ true) × (is_declared s v.name ≡ false))
var_asks s v = asks_by (λ p. (not_false (is_width (high_of v + 1)) p.0.0.0, p.0.1)) (λ p. (((not_true (is_width (high_of v + 1)) p.0, tt), p.1), tt))
    (asks_then (asks_then (asks_then (asks_size (not (is_width (high_of v + 1)))) (asks_pass (range_bytes v.high))) (asks_name (is_declared s v.name))) (asks_pass _))

pub further_asks : (s : Scope) (vs : List RawVar) → Asks (further_ports s vs) (AreDeclared s vs)
further_asks s [] = asks_pass_none
  where
    asks_pass_none : Asks (λ w. w) (Unit {0})
    asks_pass_none = record { told = λ w c. (c, tt); kept = λ w c u. c }
further_asks s (v ∷ vs) = asks_by (λ p. (p.0.1.0, p.0.1.1, p.1)) (λ p. ((tt, (p.0, p.1)), p.2))
    (asks_then (asks_then (asks_pass (2 + dir_bytes v.dir)) (var_asks s v)) (further_asks (declare s v) vs))

pub ports_asks : (s : Scope) (vs : List RawVar) → Asks (ports_walk s vs) (AreDeclared s vs)
ports_asks s [] = asks_pass 0
ports_asks s (v ∷ vs) = asks_by (λ p. (p.0.0.1.0, p.0.0.1.1, p.0.1)) (λ p. (((tt, (p.0, p.1)), p.2), tt))
    (asks_then (asks_then (asks_then (asks_pass (dir_bytes v.dir)) (var_asks s v)) (further_asks (declare s v) vs)) (asks_pass 1))

pub split : (s : Scope) (us vs : List RawVar) → AreDeclared s (us ++ vs) → AreDeclared s us × AreDeclared (declare_all s us) vs
split s [] vs d = (tt, d)
split s (u ∷ us) vs d = let p = split (declare s u) us vs d.2 in ((d.0, d.1, p.0), p.1)

pub join : (s : Scope) (us vs : List RawVar) → AreDeclared s us → AreDeclared (declare_all s us) vs → AreDeclared s (us ++ vs)
join s [] vs d f = f
join s (u ∷ us) vs d f = (d.0, d.1, join (declare s u) us vs d.2 f)

pub declare_append : (s : Scope) (us vs : List RawVar) → declare_all (declare_all s us) vs ≡ declare_all s (us ++ vs)
declare_append s [] vs = refl
declare_append s (u ∷ us) vs = declare_append (declare s u) us vs

-- ---- widths

width_from : (v : RawVar) → is_width (high_of v + 1) ≡ true → width_of v.high ≡ high_of v + 1
width_from v h = go v.high h
  where
    go : (o : Option Bytes) → is_width (high_in o + 1) ≡ true → width_of o ≡ high_in o + 1
    go None h = refl
    go (Some ds) h = let l = leb-true (number_in ds + 1) 128 (and_right (nat_le 1 (number_in ds + 1)) _ h) in omega (arith, l)

width_right : (v : RawVar) → is_width (high_of v + 1) ≡ true → IsWidth (width_of v.high)
width_right v h =
    let e = width_from v h in
    let l = leb-true (high_of v + 1) 128 (and_right (nat_le 1 (high_of v + 1)) _ h) in
    (omega (arith, e), omega (arith, e, l))

abbrev variables : List RawVar → List SvVar
variables vs = map variable_of vs

pub widths_from : (s : Scope) (vs : List RawVar) → AreDeclared s vs → Each (λ v. IsWidth v.width) (variables vs)
widths_from s [] d = tt
widths_from s (v ∷ vs) d = (width_right v d.0, widths_from (declare s v) vs d.2)

-- ---- what a scope has behind declarations

declared_after : (s : Scope) (v : RawVar) (name : Bytes) → is_declared s v.name ≡ false → is_declared s name ≡ true → entry_of (declare s v) name ≡ entry_of s name
declared_after s v name n h = after_other s v name (differs s name v.name h n)

kept : (s : Scope) (vs : List RawVar) (name : Bytes) → AreDeclared s vs → is_declared s name ≡ true → entry_of (declare_all s vs) name ≡ entry_of s name
kept s [] name d h = refl
kept s (v ∷ vs) name d h =
    let e = declared_after s v name d.1 h in
    kept (declare s v) vs name d.2 (ap is_named e ∙ h) ∙ e

found : (s : Scope) (vs : List RawVar) (i : ℕ) → AreDeclared s vs → i < length (variables vs) → entry_of (declare_all s vs) (name_of (variables vs) i) ≡ Some (Some (width_at (variables vs) i - 1))
found s [] i d h = absurd (omega arith)
found s (v ∷ vs) zero d h =
    let e = after_same s v d.1 in
    let w = width_from v d.0 in
    let n : high_of v ≡ width_of v.high - 1 = omega (arith, w) in
    kept (declare s v) vs v.name d.2 (ap is_named e) ∙ e ∙ ap (λ k. Some (Some k)) n
found s (v ∷ vs) (suc i) d h = found (declare s v) vs i d.2 (omega arith)

abbrev IsOne : List SvVar → Bytes → Type 0
IsOne vars name = (i : ℕ) × (i < length vars) × (name ≡ name_of vars i)

only : (s : Scope) (vs : List RawVar) (name : Bytes) → is_declared (declare_all s vs) name ≡ true → (is_declared s name ≡ true) ⊎ IsOne (variables vs) name
only s [] name h = inl h
only s (v ∷ vs) name h = elim (only (declare s v) vs name h) [
  | inl a ↦ first (bytes_eq name v.name) refl a
  | inr b ↦ inr (suc b.0, omega (arith, b.1), b.2)
]
  where
    first : (t : Bool) → bytes_eq name v.name ≡ t → is_declared (declare s v) name ≡ true → (is_declared s name ≡ true) ⊎ IsOne (variables (v ∷ vs)) name
    first true e a = inr (0, omega arith, (bytes_eq-Decides name v.name).0 e)
    first false e a = inl (ap is_named (sym (after_other s v name e)) ∙ a)

none_declared : (name : Bytes) → is_declared [] name ≡ true → ⊥
none_declared name h = cc

pub declares : (vs : List RawVar) → AreDeclared [] vs → Declares (declare_all [] vs) (variables vs)
declares vs d = record {
  found = λ i h. found [] vs i d h;
  only = λ name h. elim (only [] vs name h) [
    | inl a ↦ absurd (none_declared name a)
    | inr b ↦ b
  ];
}

-- ---- names that differ

not_named : (s : Scope) (vs : List RawVar) (name : Bytes) → AreDeclared s vs → is_declared s name ≡ true → IsNotNamed name (variables vs)
not_named s [] name d h = tt
not_named s (v ∷ vs) name d h = (
  λ e. both_ways (bytes_eq name v.name) (differs s name v.name h d.1) ((bytes_eq-Decides name v.name).1 e),
  not_named (declare s v) vs name d.2 (ap is_named (declared_after s v name d.1 h) ∙ h),
)

pub named_from : (s : Scope) (vs : List RawVar) → AreDeclared s vs → Each (λ v. is_simple v.name ≡ true) vs → AreNamed (variables vs)
named_from s [] d h = tt
named_from s (v ∷ vs) d h = (h.0, not_named (declare s v) vs v.name d.2 (ap is_named (after_same s v d.1)), named_from (declare s v) vs d.2 h.1)

pub same_names : (vs : List RawVar) → named vs ≡ bare_names (variables vs)
same_names [] = refl
same_names (v ∷ vs) = ap (λ ns. v.name ∷ ns) (same_names vs)

-- ---- the variables of a module, as they are written

pub high_written : (v : SvVar) → IsWidth v.width → high_of (raw_var v) + 1 ≡ v.width
high_written v h = go (nat_le v.width 1) refl
  where
    go : (t : Bool) → nat_le v.width 1 ≡ t → high_in (if t then None else Some (decimal (v.width - 1))) + 1 ≡ v.width
    go true e = let l = leb-true v.width 1 e in omega (arith, l, h.0)
    go false e = let l = leb-false v.width 1 e in let n = number_decimal (v.width - 1) (omega (arith, h.1)) in omega (arith, l, n, h.1)

is_right : (n : ℕ) → IsWidth n → is_width n ≡ true
is_right n h = both (nat_le 1 n) (nat_le n 128) (le-leb 1 n h.0) (le-leb n 128 h.1)

abbrev AreNew : Scope → List SvVar → Type 0
AreNew s vs = Each (λ v. is_declared s v.name ≡ false) vs

still_new : (s : Scope) (v : SvVar) (vs : List SvVar) → IsNotNamed v.name vs → AreNew s vs → AreNew (declare s (raw_var v)) vs
still_new s v [] h n = tt
still_new s v (u ∷ us) h n = (
  ap is_named (after_other s (raw_var v) u.name (other_bytes u.name v.name (λ e. h.0 (sym e)))) ∙ n.0,
  still_new s v us h.1 n.1,
)

written : (s : Scope) (vs : List SvVar) → AreNamed vs → Each (λ v. IsWidth v.width) vs → AreNew s vs → AreDeclared s (map raw_var vs)
written s [] a h n = tt
written s (v ∷ vs) a h n = (
  ap is_width (high_written v h.0) ∙ is_right v.width h.0,
  n.0,
  written (declare s (raw_var v)) vs a.2 h.1 (still_new s v vs a.1 n.1),
)

all_new : (vs : List SvVar) → AreNew [] vs
all_new [] = tt
all_new (v ∷ vs) = (refl, all_new vs)

pub declared_written : (vs : List SvVar) → AreNamed vs → Each (λ v. IsWidth v.width) vs → AreDeclared [] (map raw_var vs)
declared_written vs a h = written [] vs a h (all_new vs)

pub declares_written : (vs : List SvVar) → AreNamed vs → Each (λ v. IsWidth v.width) vs → Declares (declare_all [] (map raw_var vs)) vs
declares_written vs a h = subst (λ us. Declares (declare_all [] (map raw_var vs)) us) (back_variables vs h) (declares (map raw_var vs) (declared_written vs a h))
