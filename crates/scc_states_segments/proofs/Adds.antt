-- What a statement before others adds: exits, waits, counts and places.
use Rattle.std.proofs.Common.{◌≡◌, refl, arith, ℕ, zero, suc, Bool, true, false, ◌+◌, ◌-◌, ◌≤◌, ◌||◌, min, max, not, nat_lt, subst, ap, sym, ◌∙◌, List, [], ◌∷◌, ◌++◌, drop, get_or, length, append_assoc, drop-cons, add-one, ◌<◌, Option, Some, None}
use Rattle.std.specs.Prelude.{option_map}
use Rattle.std.proofs.lemmas.Bool.Decides.{nat_tests}
use Rattle.scc_core_spec.specs.Split.{Stood, stood}
use Rattle.scc_base.specs.declared.refusal.Place.{Place}
use Rattle.scc_core.specs.declared.stmt.CoreStmt.{CoreStmt, fold-roll-CoreStmt, ind-CoreStmt}
use Rattle.scc_core.specs.declared.stmt.CoreNode.{CoreNode, fold-CoreNode, fold-roll-CoreNode}
use Rattle.scc_core.specs.declared.stmt.CoreNode.TheOpen.{CoreNode-F}
use Rattle.scc_core.specs.declared.stmt.CoreNode.TheOpen as node
use Rattle.scc_core_spec.specs.Code.{Code, End, Put, Aim, If, Block, Loop, Exit, Wait, waits_in}
use Rattle.scc_core_spec.specs.Segments.{opens, counts}
use Rattle.scc_core_spec.specs.Rules.{waits}
use Rattle.scc_core_view.specs.Codes.{Node, stmt_node, stmt_step, stmt_code, code_of, before}
use Rattle.scc_states_segments.specs.Reach.{both, lower, reach, reaches}

max_assoc : (a b c : ℕ) → max a (max b c) ≡ max (max a b) c
max_assoc a b c = omega arith

max_zero : (a : ℕ) → max a 0 ≡ a
max_zero a = omega arith

zero_max : (a : ℕ) → max 0 a ≡ a
zero_max a = omega arith

pub none_both : (o : Option ℕ) → both (Some 0) o ≡ o
none_both None = refl
none_both (Some n) = ap Some (zero_max n)

pub both_none : (o : Option ℕ) → both o (Some 0) ≡ o
both_none None = refl
both_none (Some n) = ap Some (max_zero n)

pub both_assoc : (a b c : Option ℕ) → both a (both b c) ≡ both (both a b) c
both_assoc None b c = refl
both_assoc (Some a) None c = refl
both_assoc (Some a) (Some b) None = refl
both_assoc (Some a) (Some b) (Some c) = ap Some (max_assoc a b c)

behind : (a c : Option ℕ) → both a c ≡ both (both a (Some 0)) c
behind a c = ap (λ x. both x c) (sym (both_none a))

behind_two : (a b c : Option ℕ) → both a (both b c) ≡ both (both a (both b (Some 0))) c
behind_two a b c = both_assoc a b c ∙ ap (λ x. both (both a x) c) (sym (both_none b))

zero_plus : (n : ℕ) → n ≡ 0 + n
zero_plus n = omega arith

around : (a n : ℕ) → a + n ≡ (a + 0) + n
around a n = omega arith

around_two : (a b n : ℕ) → a + (b + n) ≡ (a + (b + 0)) + n
around_two a b n = omega arith

list_around : {A : Type 0} → (a n : List A) → a ++ n ≡ (a ++ []) ++ n
list_around a n = sym (append_assoc a [] n)

list_around_two : {A : Type 0} → (a b n : List A) → a ++ (b ++ n) ≡ (a ++ (b ++ [])) ++ n
list_around_two a b n = ap (λ x. a ++ x) (list_around b n) ∙ sym (append_assoc a (b ++ []) n)

pub record Adds (f : Code → Code) : Type 0 where
  pub exits : (c : Code) → reach (f c) ≡ both (reach (f End)) (reach c)
  pub number : (c : Code) → waits_in (f c) ≡ waits_in (f End) + waits_in c
  pub counted : (c : Code) → counts (f c) ≡ counts (f End) ++ counts c
  pub places : (c : Code) → waits (f c) ≡ waits (f End) ++ waits c
  pub stands : (d : ℕ) (c : Code) → stood d (f c) ≡ stood d (f End) ++ stood d c

abbrev one : Place → ℕ → Stood
one p d = record { place = p; depth = d }

adds : (y : CoreNode-F Node (Code → Code)) (p : Place) → Adds (stmt_node y p)
adds (node.Assign l e) p = record { exits = λ c. sym (none_both (reach c)); number = λ c. zero_plus (waits_in c); counted = λ c. refl; places = λ c. refl; stands = λ d c. refl }
adds (node.If t a b) p = record {
  exits = λ c. behind_two (reach (before a End)) (reach (before b End)) (reach c);
  number = λ c. around_two (waits_in (before a End)) (waits_in (before b End)) (waits_in c);
  counted = λ c. list_around_two (counts (before a End)) (counts (before b End)) (counts c);
  places = λ c. list_around_two (waits (before a End)) (waits (before b End)) (waits c);
  stands = λ d c. ap (λ x. one p d ∷ x) (list_around_two (stood (d + 1) (before a End)) (stood (d + 1) (before b End)) (stood d c));
}
adds (node.Block b) p = record {
  exits = λ c. behind (option_map lower (reach (before b End))) (reach c);
  number = λ c. around (waits_in (before b End)) (waits_in c);
  counted = λ c. list_around (counts (before b End)) (counts c);
  places = λ c. list_around (waits (before b End)) (waits c);
  stands = λ d c. ap (λ x. one p d ∷ x) (list_around (stood (d + 1) (before b End)) (stood d c));
}
adds (node.Loop n b) p = record {
  exits = λ c. behind (reach (before b End)) (reach c);
  number = λ c. around (waits_in (before b End)) (waits_in c);
  counted = λ c. list_around (counts (before b End)) (counts c);
  places = λ c. list_around (waits (before b End)) (waits c);
  stands = λ d c. ap (λ x. one p d ∷ x) (list_around (stood (d + 1) (before b End)) (stood d c));
}
adds (node.Exit n) p = record { exits = λ c. behind (Some (n + 1)) (reach c); number = λ c. zero_plus (waits_in c); counted = λ c. refl; places = λ c. refl; stands = λ d c. refl }
adds (node.Wait n) p = record { exits = λ c. refl; number = λ c. refl; counted = λ c. refl; places = λ c. refl; stands = λ d c. refl }
adds (node.Alias to target) p = record { exits = λ c. sym (none_both (reach c)); number = λ c. zero_plus (waits_in c); counted = λ c. refl; places = λ c. refl; stands = λ d c. refl }

abbrev node_fold : CoreNode → Node
node_fold = fold-CoreNode Node (Code → Code) stmt_node stmt_step

pub stmt_adds : (s : CoreStmt) → Adds (stmt_code s)
stmt_adds = ind-CoreStmt (λ n. (p : Place) → Adds (node_fold n p)) (λ s. Adds (stmt_code s))
    (λ x y is p. subst (λ f. Adds (f p)) (sym (fold-roll-CoreNode Node (Code → Code) stmt_node stmt_step x)) (adds _ p))
    (λ x y is. subst (λ f. Adds f) (sym (fold-roll-CoreStmt Node (Code → Code) stmt_node stmt_step x)) (subst (λ n. Adds (node_fold n x.place)) (ap (λ z. z.node) is) (y.node.1 x.place)))

-- a statement and those behind it
pub from_here : (ss : List CoreStmt) (i : ℕ) (s : CoreStmt) → i < length ss → s ≡ get_or ss i s → code_of (drop i ss) ≡ stmt_code s (code_of (drop (i + 1) ss))
from_here ss i s h is =
    ap code_of (drop-cons ss i s h)
    ∙ ap (λ x. stmt_code x (code_of (drop (suc i) ss))) (sym is)
    ∙ ap (λ n. stmt_code s (code_of (drop n ss))) (sym (add-one i))

-- a block so far around is left, or a wait is met, exactly where the exits reach it
lt_max : (d a b : ℕ) → nat_lt d (max a b) ≡ (nat_lt d a || nat_lt d b)
lt_max d a b = grind (arith, nat_tests)

or_true : (x : Bool) → true ≡ (x || true)
or_true true = refl
or_true false = refl

or_reaches : (d : ℕ) (a b : Option ℕ) → reaches d (both a b) ≡ (reaches d a || reaches d b)
or_reaches d None b = refl
or_reaches d (Some a) None = or_true (nat_lt d a)
or_reaches d (Some a) (Some b) = lt_max d a b

lt_lower : (d n : ℕ) → nat_lt (suc d) n ≡ nat_lt d (n - 1)
lt_lower d n = grind (arith, nat_tests)

one_less : (d : ℕ) (o : Option ℕ) → reaches (suc d) o ≡ reaches d (option_map lower o)
one_less d None = refl
one_less d (Some n) = lt_lower d n

none_reached : (d : ℕ) → false ≡ nat_lt d 0
none_reached d = grind (arith, nat_tests)

left_there : (d n : ℕ) → not (nat_lt n d) ≡ nat_lt d (n + 1)
left_there d n = grind (arith, nat_tests)

pub opens_reaches : (d : ℕ) (c : Code) → opens d c ≡ reaches d (reach c)
opens_reaches d End = none_reached d
opens_reaches d (Put p l k e r) = opens_reaches d r
opens_reaches d (Aim p to t r) = opens_reaches d r
opens_reaches d (If p t a b r) =
    ap (λ x. x || (opens d b || opens d r)) (opens_reaches d a)
    ∙ ap (λ x. reaches d (reach a) || (x || opens d r)) (opens_reaches d b)
    ∙ ap (λ x. reaches d (reach a) || (reaches d (reach b) || x)) (opens_reaches d r)
    ∙ ap (λ x. reaches d (reach a) || x) (sym (or_reaches d (reach b) (reach r)))
    ∙ sym (or_reaches d (reach a) (both (reach b) (reach r)))
opens_reaches d (Block p b r) =
    ap (λ x. x || opens d r) (opens_reaches (suc d) b ∙ one_less d (reach b))
    ∙ ap (λ x. reaches d (option_map lower (reach b)) || x) (opens_reaches d r)
    ∙ sym (or_reaches d (option_map lower (reach b)) (reach r))
opens_reaches d (Loop p n b r) =
    ap (λ x. x || opens d r) (opens_reaches d b)
    ∙ ap (λ x. reaches d (reach b) || x) (opens_reaches d r)
    ∙ sym (or_reaches d (reach b) (reach r))
opens_reaches d (Exit p n r) =
    ap (λ x. x || opens d r) (left_there d n)
    ∙ ap (λ x. nat_lt d (n + 1) || x) (opens_reaches d r)
    ∙ sym (or_reaches d (Some (n + 1)) (reach r))
opens_reaches d (Wait p l n r) = refl

-- what stands from one statement on
pub reach_here : (ss : List CoreStmt) (i : ℕ) (s : CoreStmt) → i < length ss → s ≡ get_or ss i s
    → reach (code_of (drop i ss)) ≡ both (reach (code_of (s ∷ []))) (reach (code_of (drop (i + 1) ss)))
reach_here ss i s h is = ap reach (from_here ss i s h is) ∙ (stmt_adds s).exits (code_of (drop (i + 1) ss))

pub waits_here : (ss : List CoreStmt) (i : ℕ) (s : CoreStmt) → i < length ss → s ≡ get_or ss i s
    → waits_in (code_of (drop i ss)) ≡ waits_in (code_of (s ∷ [])) + waits_in (code_of (drop (i + 1) ss))
waits_here ss i s h is = ap waits_in (from_here ss i s h is) ∙ (stmt_adds s).number (code_of (drop (i + 1) ss))

pub counts_here : (ss : List CoreStmt) (i : ℕ) (s : CoreStmt) → i < length ss → s ≡ get_or ss i s
    → counts (code_of (drop i ss)) ≡ counts (code_of (s ∷ [])) ++ counts (code_of (drop (i + 1) ss))
counts_here ss i s h is = ap counts (from_here ss i s h is) ∙ (stmt_adds s).counted (code_of (drop (i + 1) ss))

pub places_here : (ss : List CoreStmt) (i : ℕ) (s : CoreStmt) → i < length ss → s ≡ get_or ss i s
    → waits (code_of (drop i ss)) ≡ waits (code_of (s ∷ [])) ++ waits (code_of (drop (i + 1) ss))
places_here ss i s h is = ap waits (from_here ss i s h is) ∙ (stmt_adds s).places (code_of (drop (i + 1) ss))

pub stood_here : (d : ℕ) (ss : List CoreStmt) (i : ℕ) (s : CoreStmt) → i < length ss → s ≡ get_or ss i s
    → stood d (code_of (drop i ss)) ≡ stood d (code_of (s ∷ [])) ++ stood d (code_of (drop (i + 1) ss))
stood_here d ss i s h is = ap (stood d) (from_here ss i s h is) ∙ (stmt_adds s).stands d (code_of (drop (i + 1) ss))
