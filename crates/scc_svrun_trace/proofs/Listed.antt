-- The clocks of a module are the inputs that aren't among the others.
use Rattle.std.proofs.Common.{◌≡◌, ◌<◌, ◌+◌, ◌/◌, ◌%◌, ℕ, nat_eq, Bool, true, false, not, ◌&&◌, cond, List, [], ◌∷◌, ◌++◌, length, drop, drop-cons, add-one, get_or, append_assoc, refl, sym, ap, ◌∙◌, subst, arith}
use Rattle.std.specs.Prelude.{Option, Some, None}
use borrow.Author.Tests.{eqb-true}
use Rattle.scc_svtree.specs.declared.expr.VarId.{VarId}
use Rattle.scc_svtree.specs.declared.module.SvVar.{SvVar}
use Rattle.scc_svtree.specs.Steps.{is_input}
use Rattle.scc_svtree.proofs.Agree.{eq_same}
use Rattle.scc_svrun.specs.Runs.{inputs_from}
use Rattle.scc_svrun_trace.specs.Clocked.{clocks_from, behind, is_any, kept, chosen}
use Rattle.scc_svrun_trace.proofs.Handed.{some_same}
use Rattle.scc_svrun_trace.proofs.Turning.{front}

abbrev var : ℕ → VarId
var n = record { 0 = n }

not_same : (k n : ℕ) → n < k → nat_eq k n ≡ false
not_same k n h = go (nat_eq k n) refl
  where
    go : (b : Bool) → nat_eq k n ≡ b → nat_eq k n ≡ false
    go false e = e
    go true e = let f : k ≡ n = eqb-true k n e in absurd (omega (arith, h, f))

-- later variables don't begin with an earlier one
none_behind : (clocks : ℕ → Bool) (vs : List SvVar) (n k : ℕ) → n < k → behind n (inputs_from k clocks vs) ≡ None
none_behind clocks [] n k h = refl
none_behind clocks (v ∷ vs) n k h = go (is_input v.dir && not (clocks k)) (none_behind clocks vs n (k + 1) (omega (arith, h))) (not_same k n h)
  where
    go : (b : Bool) → behind n (inputs_from (k + 1) clocks vs) ≡ None → nat_eq k n ≡ false → behind n (cond b (var k ∷ inputs_from (k + 1) clocks vs) (inputs_from (k + 1) clocks vs)) ≡ None
    go false e f = e
    go true e f = ap (λ c. cond c (Some (inputs_from (k + 1) clocks vs)) None) f

-- What is left of the others, and what is listed, before the variables from one on.
pub record Listed (clocks : ℕ → Bool) (n : ℕ) (vars : List SvVar) (rest list whole : List VarId) : Type 0 where
  pub others : rest ≡ inputs_from n clocks vars
  pub listed : list ++ clocks_from n clocks vars ≡ whole

module _ (clocks : ℕ → Bool) (all : List SvVar) (n : ℕ) (v : SvVar) (h : n < length all) (is : v ≡ get_or all n v) (rest list whole : List VarId) (k : Listed clocks n (drop n all) rest list whole) where
  abbrev tail : List VarId
  tail = inputs_from (n + 1) clocks (drop (n + 1) all)

  abbrev later : List VarId
  later = clocks_from (n + 1) clocks (drop (n + 1) all)

  begins : Listed clocks n (v ∷ drop (n + 1) all) rest list whole
  begins = let P : List SvVar → Type 0 = λ l. Listed clocks n l rest list whole in subst P (front SvVar all n v h is) k

  -- the first of the others, if the variable is an input
  is_clock : is_input v.dir ≡ true → clocks n ≡ true → rest ≡ tail
  is_clock i c = begins.others ∙ ap (λ a. cond (a && not (clocks n)) (var n ∷ tail) tail) i ∙ ap (λ a. cond (not a) (var n ∷ tail) tail) c

  is_other : is_input v.dir ≡ true → clocks n ≡ false → rest ≡ var n ∷ tail
  is_other i c = begins.others ∙ ap (λ a. cond (a && not (clocks n)) (var n ∷ tail) tail) i ∙ ap (λ a. cond (not a) (var n ∷ tail) tail) c

  rest_of_other : is_input v.dir ≡ true → clocks n ≡ false → behind n rest ≡ Some tail
  rest_of_other i c = ap (λ r. behind n r) (is_other i c) ∙ ap (λ a. cond a (Some tail) None) (eq_same n)

  rest_of_clock : is_input v.dir ≡ true → clocks n ≡ true → behind n rest ≡ None
  rest_of_clock i c = ap (λ r. behind n r) (is_clock i c) ∙ none_behind clocks (drop (n + 1) all) n (n + 1) (omega arith)

  -- one of the others
  pub other_is_next : (more : List VarId) → is_input v.dir ≡ true → behind n rest ≡ Some more → Listed clocks (n + 1) (drop (n + 1) all) more list whole
  other_is_next more i b = go (clocks n) refl
    where
      go : (c : Bool) → clocks n ≡ c → Listed clocks (n + 1) (drop (n + 1) all) more list whole
      go true c = let f : None ≡ Some more = sym (rest_of_clock i c) ∙ b in absurd (cc)
      go false c = record {
        others = sym (some_same tail more (sym (rest_of_other i c) ∙ b));
        listed = ap (λ a. list ++ cond a (var n ∷ later) later) (sym c) ∙ ap (λ a. list ++ cond (a && clocks n) (var n ∷ later) later) (sym i) ∙ begins.listed;
      }

  -- a clock
  pub clock_is_next : is_input v.dir ≡ true → behind n rest ≡ None → Listed clocks (n + 1) (drop (n + 1) all) rest (list ++ var n ∷ []) whole
  clock_is_next i b = go (clocks n) refl
    where
      go : (c : Bool) → clocks n ≡ c → Listed clocks (n + 1) (drop (n + 1) all) rest (list ++ var n ∷ []) whole
      go false c = let f : Some tail ≡ None = sym (rest_of_other i c) ∙ b in absurd (cc)
      go true c = record {
        others = is_clock i c;
        listed =
            append_assoc list (var n ∷ []) later ∙ ap (λ a. list ++ cond a (var n ∷ later) later) (sym c)
            ∙ ap (λ a. list ++ cond (a && clocks n) (var n ∷ later) later) (sym i) ∙ begins.listed;
      }

  -- no input
  pub none_is_next : is_input v.dir ≡ false → Listed clocks (n + 1) (drop (n + 1) all) rest list whole
  none_is_next i = record {
    others = begins.others ∙ ap (λ a. cond (a && not (clocks n)) (var n ∷ tail) tail) i;
    listed = ap (λ a. list ++ cond (a && clocks n) (var n ∷ later) later) (sym i) ∙ begins.listed;
  }

-- ---- whether there is a clock

pub some_any : (cs : List VarId) → nat_eq (length cs) 0 ≡ false → is_any cs ≡ true
some_any [] h = absurd (cc)
some_any (c ∷ cs) h = refl

pub some_longer : (cs : List VarId) → nat_eq (length cs) 0 ≡ false → 0 < length cs
some_longer [] h = absurd (cc)
some_longer (c ∷ cs) h = omega arith

pub none_any : (cs : List VarId) → nat_eq (length cs) 0 ≡ true → is_any cs ≡ false
none_any [] h = refl
none_any (c ∷ cs) h = let e : length (c ∷ cs) ≡ 0 = eqb-true (length (c ∷ cs)) 0 h in absurd (omega (arith, e))

-- ---- the clocks of a mask

pub kept_is_next : (cs : List VarId) (n : ℕ) (d : VarId) (list whole : List VarId) (mask : ℕ) → n < length cs → list ++ chosen (drop n cs) mask ≡ whole
    → (list ++ kept (get_or cs n d) (nat_eq (mask % 2) 1)) ++ chosen (drop (n + 1) cs) (mask / 2) ≡ whole
kept_is_next cs n d list whole mask h k =
    let first = kept (get_or cs n d) (nat_eq (mask % 2) 1) in
    append_assoc list first (chosen (drop (n + 1) cs) (mask / 2)) ∙ ap (λ m. list ++ (first ++ chosen (drop m cs) (mask / 2))) (add-one n)
    ∙ ap (λ l. list ++ chosen l mask) (sym (drop-cons cs n d h)) ∙ k
