-- The loops of the code: one more part, a part that fails, and the end; and what opens a level.
use Rattle.std.specs.Prelude.{◌≡◌, ℕ, suc, ◌-◌, ◌<◌, ◌≤◌, Bool, true, false, List, [], ◌∷◌, ◌++◌, length, Ok, Err, refl}
use Rattle.std.proofs.Common.{sym, ap, arith}
use Rattle.scc_grammar_terminals.specs.declared.halt.Halt.{Halt}
use Rattle.scc_grammar_terminals.specs.declared.halt.Halt.TheVariants as halt
use Rattle.scc_grammar_terminals.specs.declared.terminal.Seen.{Seen}
use Rattle.scc_grammar_terminals.specs.Answer.{Fails, onto, onto_in}
use Rattle.scc_grammar_terminals.specs.Inner.{Inner}
use Rattle.scc_grammar_terminals.specs.Marks as m
use Rattle.scc_grammar_terminals.specs.Names.{Names}
use Rattle.scc_grammar_terminals.specs.Operators.{operator}
use Rattle.scc_grammar_spec.specs.ParseExpressions as e
use Rattle.scc_grammar_spec.specs.ParseStatements as s
use Rattle.scc_grammar_spec.specs.ParseStatements.{inner}
use Rattle.scc_grammar_terminals.specs.Text.{Text, Parser, Outcome, next_is, next_says}
use Rattle.scc_tree.specs.declared.ty.TyArg.{TyArg}
use Rattle.scc_grammar_terminals.specs.First.{closing}
use Rattle.scc_reading.specs.Reading.{and_then, pure, Fault, unexpected, too_deep, fail, is_next, by_test, closed, repeat, repeat_in}
use Rattle.scc_reading.proofs.Loop.{Turns, turns_of, TurnsIn, turns_in_of}
use Rattle.scc_grammar_sound.proofs.SoundLevels.{sound}
use Rattle.scc_grammar_sound.proofs.SoundExpressions.{sound_one_expr, sound_one_carg, sound_one_part, sound_link}
use Rattle.scc_grammar_sound.proofs.SoundTypes.{sound_one_ty_arg}
use Rattle.scc_grammar_sound.proofs.SoundStatements.{sound_one_size, sound_one_local, sound_one_signal, sound_switch_item, sound_item, sound_stmt}

same_ok : {A : Type 0} (x y : A × Text) (o : Outcome A) → o ≡ Ok x → o ≡ Ok y → x ≡ y
same_ok x y o h k = cc

pub fails_through : {A B : Type 0} (h : Halt) (o : Outcome A) (whole : Outcome B) → ((f : Fault Seen) → o ≡ Err f → whole ≡ Err f) → Fails h o → Fails h whole
fails_through halt.NoMemory o whole k f = tt
fails_through (halt.Unexpected place) o whole k f = (f.0, k (unexpected f.0) f.1, f.2)
fails_through (halt.TooDeep place) o whole k f = (f.0, k (too_deep f.0) f.1, f.2)

-- a loop that reads parts behind those that were found
pub record Loop {A : Type 0} (test : Seen → Bool) (q : Parser A) : Type 0 where
  pub turn : (front : List A) (ts : Text) (a : A) (r : Text) (whole : Outcome (List A)) → is_next test ts ≡ true → q ts ≡ Ok (a, r) → onto front (repeat test q) ts ≡ whole → onto (front ++ a ∷ []) (repeat test q) r ≡ whole
  pub fails : (h : Halt) (front : List A) (ts : Text) (whole : Outcome (List A)) → is_next test ts ≡ true → Fails h (q ts) → onto front (repeat test q) ts ≡ whole → Fails h whole
  pub stops : (front : List A) (ts : Text) (whole : Outcome (List A)) → is_next test ts ≡ false → onto front (repeat test q) ts ≡ whole → whole ≡ Ok (front, ts)
  pub shorter : (ts : Text) (a : A) (r : Text) → q ts ≡ Ok (a, r) → length r < length ts

pub loop_of : {A : Type 0} {test : Seen → Bool} {q : Parser A} → Turns test q → Loop test q
loop_of {A} {test} {q} t = record {
  turn = t.turn;
  fails = λ h front ts whole k f so_far. fails_through h (q ts) whole (λ g e. t.fails front ts g whole k e so_far) f;
  stops = t.stops;
  shorter = t.shorter;
}

-- the same with a state
pub record LoopIn {A S : Type 0} (test : S → Seen → Bool) (q : S → Parser (A × S)) : Type 0 where
  pub turn : (front : List A) (s : S) (ts : Text) (a : A) (u : S) (r : Text) (whole : Outcome (List A × S)) → is_next (test s) ts ≡ true → q s ts ≡ Ok ((a, u), r) → onto_in front (repeat_in test q s) ts ≡ whole → onto_in (front ++ a ∷ []) (repeat_in test q u) r ≡ whole
  pub fails : (h : Halt) (front : List A) (s : S) (ts : Text) (whole : Outcome (List A × S)) → is_next (test s) ts ≡ true → Fails h (q s ts) → onto_in front (repeat_in test q s) ts ≡ whole → Fails h whole
  pub stops : (front : List A) (s : S) (ts : Text) (whole : Outcome (List A × S)) → is_next (test s) ts ≡ false → onto_in front (repeat_in test q s) ts ≡ whole → whole ≡ Ok ((front, s), ts)
  pub shorter : (s : S) (ts : Text) (a : A) (u : S) (r : Text) → q s ts ≡ Ok ((a, u), r) → length r < length ts

pub loop_in_of : {A S : Type 0} {test : S → Seen → Bool} {q : S → Parser (A × S)} → TurnsIn test q → LoopIn test q
loop_in_of {A} {S} {test} {q} t = record {
  turn = t.turn;
  fails = λ h front s ts whole k f so_far. fails_through h (q s ts) whole (λ g e. t.fails front s ts g whole k e so_far) f;
  stops = t.stops;
  shorter = t.shorter;
}

module _ (names : Names) (n : ℕ) where
  abbrev i : Inner
  i = inner names n

  pub loop_exprs : Loop (next_is m.comma) (e.one_expr names i)
  loop_exprs = loop_of (turns_of _ 0 _ _ (sound_one_expr names i (sound names n)))

  pub loop_cargs : Loop (next_is m.comma) (e.one_carg names i)
  loop_cargs = loop_of (turns_of _ 0 _ _ (sound_one_carg names i (sound names n)))

  pub loop_links : (k : ℕ) → k < 10 → Loop (next_says (operator k)) (e.link_of names i k)
  loop_links k h = loop_of (turns_of _ 0 _ _ (sound_link names i (sound names n) k h))

  pub loop_parts : LoopIn (e.next_part names i) (e.one_part names i)
  loop_parts = loop_in_of (turns_in_of _ 0 _ _ (sound_one_part names i (sound names n)))

  pub loop_ty_args : LoopIn (e.next_ty_arg names i) (e.one_ty_arg names i)
  loop_ty_args = loop_in_of (turns_in_of _ 0 _ _ (sound_one_ty_arg names i (sound names n)))

  pub loop_sizes : Loop (next_is m.bracket_open) (s.one_size names i)
  loop_sizes = loop_of (turns_of _ 0 _ _ (sound_one_size names i (sound names n)))

  pub loop_locals : Loop (next_is m.comma) (s.one_local names i)
  loop_locals = loop_of (turns_of _ 0 _ _ (sound_one_local names i (sound names n)))

  pub loop_signals : Loop (next_is m.shift_left) (s.one_signal names i)
  loop_signals = loop_of (turns_of _ 0 _ _ (sound_one_signal names i (sound names n)))

  pub loop_items : Loop (next_is m.not_brace_close) (s.switch_item names i)
  loop_items = loop_of (turns_of _ 0 _ _ (sound_switch_item names i (sound names n)))

  pub loop_inner : Loop (next_is m.not_brace_close) (s.item_of_stmt names i i.stmt)
  loop_inner = loop_of (turns_of _ 0 _ _ (sound_item names i (sound names n) i.stmt (sound names n).stmt))

  pub loop_body : Loop (next_is m.not_brace_close) (s.item_of_stmt names i (s.stmt names i))
  loop_body = loop_of (turns_of _ 0 _ _ (sound_item names i (sound names n) (s.stmt names i) (sound_stmt names i (sound names n))))

  -- arguments between angle brackets, up to what closes them
  pub ty_args_by : (inside : Bool) (ts : Text) (first : TyArg) (both : Bool) (mid : Text) (found : List TyArg) (last : Bool) (rest : Text)
      → is_next (next_says (closing true)) ts ≡ false → i.ty_arg ts ≡ Ok ((first, both), mid) → onto_in (first ∷ []) (e.more_ty_args names i both) mid ≡ Ok ((found, last), rest)
      → e.ty_args names i inside ts ≡ and_then {A = Bool} {B = List TyArg × Bool} (e.close_unless last inside rest) (λ b. pure (found, b))
  unfolding e.ty_args
  ty_args_by inside ts first both mid found last rest h k l = rw (h, k) (go (e.more_ty_args names i both mid) l)
    where
      go : (o : Outcome (List TyArg × Bool)) → and_then {A = List TyArg × Bool} {B = List TyArg × Bool} o (λ more. pure (first ∷ more.0, more.1)) ≡ Ok ((found, last), rest)
          → and_then {A = List TyArg × Bool} {B = List TyArg × Bool} o (λ more us. and_then {A = Bool} {B = List TyArg × Bool} (e.close_unless more.1 inside us) (λ b. pure (first ∷ more.0, b))) ≡ and_then {A = Bool} {B = List TyArg × Bool} (e.close_unless last inside rest) (λ b. pure (found, b))
      go (Ok x) g =
          let same : ((first ∷ x.0.0, x.0.1), x.1) ≡ ((found, last), rest) = same_ok _ _ (Ok ((found, last), rest)) (sym g) refl in
          ap (λ y. and_then {A = Bool} {B = List TyArg × Bool} (e.close_unless y.0.1 inside y.1) (λ b. pure (y.0.0, b))) same
      go (Err f) g = cc

-- ---- where a level is left, and where none is

below : (n : ℕ) → 0 < n → n ≡ suc (n - 1)
below n h = omega arith

module _ (names : Names) (n : ℕ) (h : 0 < n) (ts : Text) where
  pub left_expr : (inner names n).expr ts ≡ e.expr names (inner names (n - 1)) ts
  unfolding inner
  left_expr = ap (λ k. (inner names k).expr ts) (below n h)

  pub left_additive : (inner names n).additive ts ≡ e.additive names (inner names (n - 1)) ts
  unfolding inner
  left_additive = ap (λ k. (inner names k).additive ts) (below n h)

  pub left_type : (inner names n).ty ts ≡ e.type_at names (inner names (n - 1)) true ts
  unfolding inner
  left_type = ap (λ k. (inner names k).ty ts) (below n h)

  pub left_ty_arg : (inner names n).ty_arg ts ≡ e.ty_arg names (inner names (n - 1)) ts
  unfolding inner
  left_ty_arg = ap (λ k. (inner names k).ty_arg ts) (below n h)

  pub left_bracketed : (inner names n).bracketed ts ≡ e.bracketed names (inner names (n - 1)) ts
  unfolding inner
  left_bracketed = ap (λ k. (inner names k).bracketed ts) (below n h)

  pub left_unary : (inner names n).unary ts ≡ e.operand names (inner names (n - 1)) ts
  unfolding inner
  left_unary = ap (λ k. (inner names k).unary ts) (below n h)

  pub left_argument : (inner names n).argument ts ≡ e.argument names (inner names (n - 1)) ts
  unfolding inner
  left_argument = ap (λ k. (inner names k).argument ts) (below n h)

  pub left_stmt : (inner names n).stmt ts ≡ s.stmt names (inner names (n - 1)) ts
  unfolding inner
  left_stmt = ap (λ k. (inner names k).stmt ts) (below n h)

pub none_left : (names : Names) (n : ℕ) → n ≤ 0 → inner names n ≡ inner names 0
none_left names n h = ap (inner names) (omega arith)

pub is_deep : {A : Type 0} (begins : Seen → Bool) (ts : Text) → is_next begins ts ≡ true → closed {A = A} begins ts ≡ Err (too_deep ts)
is_deep {A} begins ts h = ap (λ b. by_test {A = A} b (λ ts. Err (too_deep ts)) fail ts) h

pub is_stuck : {A : Type 0} (begins : Seen → Bool) (ts : Text) → is_next begins ts ≡ false → closed {A = A} begins ts ≡ Err (unexpected ts)
is_stuck {A} begins ts h = ap (λ b. by_test {A = A} b (λ ts. Err (too_deep ts)) fail ts) h
