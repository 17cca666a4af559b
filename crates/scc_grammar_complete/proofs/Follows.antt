-- What may follow a part of a text, by the next token; and what its first token is.
use Rattle.std.specs.Prelude.{◌≡◌, ℕ, zero, suc, Bool, true, false, not, ◌||◌, ◌&&◌, [], ◌∷◌, refl}
use Rattle.std.proofs.Common.{sym, ◌∙◌, ap}
use Rattle.scc_reading.specs.Reading.{is_next}
use Rattle.scc_grammar_terminals.specs.declared.terminal.Terminal.{Terminal}
use Rattle.scc_grammar_terminals.specs.declared.terminal.Terminal.TheVariants as t
use Rattle.scc_grammar_terminals.specs.First.{begins_part, goes_on}
use Rattle.scc_grammar_terminals.specs.Marks as m
use Rattle.scc_grammar_terminals.specs.Operators.{operator, sum, every}
use Rattle.scc_grammar_terminals.specs.Text.{Text, next_is, next_says}

-- the next token does not pass the test
abbrev pub stays : (Terminal → Bool) → Text → Bool
stays test ts = not (is_next (next_is test) ts)

-- what an operand goes on with
abbrev pub goes_behind : Terminal → Bool
goes_behind w = begins_part w || m.scope w

-- what ends an operand, and a chain of operators below the level
abbrev pub ends : ℕ → Text → Bool
ends zero ts = stays goes_behind ts
ends (suc k) ts = ends k ts && not (is_next (next_says (operator k)) ts)

abbrev pub expr_ends : Text → Bool
expr_ends ts = ends every ts && stays m.question ts

-- what a type goes on with
abbrev pub goes_in : Terminal → Bool
goes_in t.Int = true
goes_in t.Short = true
goes_in t.Char = true
goes_in t.Less = true
goes_in _ = false

abbrev pub type_ends : Text → Bool
type_ends ts = stays goes_in ts

-- what ends an argument between angle brackets
abbrev pub arg_ends : Text → Bool
arg_ends ts = ends sum ts && (type_ends ts && stays goes_on ts)

pub and_left : (a b : Bool) → (a && b) ≡ true → a ≡ true
and_left true b h = refl
and_left false b h = cc

pub and_right : (a b : Bool) → (a && b) ≡ true → b ≡ true
and_right true b h = h
and_right false b h = cc

pub or_left : (a b : Bool) → a ≡ true → (a || b) ≡ true
or_left true b h = refl
or_left false b h = cc

pub or_right : (a b : Bool) → b ≡ true → (a || b) ≡ true
or_right true b h = refl
or_right false b h = h

pub not_true : (a : Bool) → not a ≡ true → a ≡ false
not_true true h = cc
not_true false h = refl

pub true_not_false : {A : Type 0} → true ≡ false → A
true_not_false h = cc

pub false_not_true : {A : Type 0} → false ≡ true → A
false_not_true h = cc

pub next_not : (one other : Terminal → Bool) → ((w : Terminal) → one w ≡ true → other w ≡ false) → (ts : Text) → is_next (next_is one) ts ≡ true → is_next (next_is other) ts ≡ false
next_not one other h [] k = refl
next_not one other h (s ∷ ts) k = h s.terminal k

pub next_also : (one other : Terminal → Bool) → ((w : Terminal) → one w ≡ true → other w ≡ true) → (ts : Text) → is_next (next_is one) ts ≡ true → is_next (next_is other) ts ≡ true
next_also one other h [] k = cc
next_also one other h (s ∷ ts) k = h s.terminal k

-- what does not stand there where a wider test finds nothing
pub stays_not : (one other : Terminal → Bool) → ((w : Terminal) → other w ≡ true → one w ≡ true) → (ts : Text) → stays one ts ≡ true → is_next (next_is other) ts ≡ false
stays_not one other h [] k = refl
stays_not one other h (s ∷ ts) k = go (other s.terminal) refl
  where
    go : (b : Bool) → other s.terminal ≡ b → b ≡ false
    go true e = true_not_false (sym k ∙ ap not (h s.terminal e))
    go false e = refl
