-- Reading as a function: the value and the tokens after it, or the fault and the tokens from it on.
use Rattle.std.specs.Prelude.{ℕ, zero, suc, Bool, true, false, List, [], ◌∷◌, length, Option, Some, None, Result, Ok, Err}

pub data Fault (T : Type 0) : Type 0 where
  -- no text begins so
  unexpected : List T → Fault T
  -- the first token opens a level too many
  too_deep : List T → Fault T

abbrev pub Outcome : Type 0 → Type 0 → Type 0
Outcome T A = Result (A × List T) (Fault T)

-- what reads an A from tokens T
abbrev pub Parser : Type 0 → Type 0 → Type 0
Parser T A = List T → Outcome T A

abbrev pub and_then : {T A B : Type 0} → Outcome T A → (A → Parser T B) → Outcome T B
and_then (Ok p) f = f p.0 p.1
and_then (Err e) f = Err e

infixl 10 ◌>>=◌
abbrev pub ◌>>=◌ : {T A B : Type 0} → Parser T A → (A → Parser T B) → Parser T B
p >>= f = λ ts. and_then (p ts) f

infixl 10 ◌>>◌
abbrev pub ◌>>◌ : {T A B : Type 0} → Parser T A → Parser T B → Parser T B
p >> q = λ ts. and_then (p ts) (λ _. q)

abbrev pub pure : {T A : Type 0} → A → Parser T A
pure a = λ ts. Ok (a, ts)

abbrev pub fail : {T A : Type 0} → Parser T A
fail = λ ts. Err (unexpected ts)

-- the first token, if the test holds of it
abbrev pub take_at : {T A : Type 0} → Option A → T → Parser T A
take_at (Some a) t = λ ts. Ok (a, ts)
take_at None t = λ ts. Err (unexpected (t ∷ ts))

abbrev pub token : {T A : Type 0} → (T → Option A) → Parser T A
token is [] = Err (unexpected [])
token is (t ∷ ts) = take_at (is t) t ts

abbrev pub is_next : {T : Type 0} → (T → Bool) → List T → Bool
is_next test [] = false
is_next test (t ∷ ts) = test t

-- one parser or the other, by the first token
abbrev pub by_test : {T A : Type 0} → Bool → Parser T A → Parser T A → Parser T A
by_test true p q = p
by_test false p q = q

abbrev pub choose : {T A : Type 0} → (T → Bool) → Parser T A → Parser T A → Parser T A
choose test p q = λ ts. by_test (is_next test ts) p q ts

-- nothing behind it
abbrev pub at_end : {T A : Type 0} → A → Parser T A
at_end a [] = Ok (a, [])
at_end a (t ∷ ts) = Err (unexpected (t ∷ ts))

-- what opens a level, where none is left; the test says which tokens begin it
abbrev pub closed : {T A : Type 0} → (T → Bool) → Parser T A
closed begins = choose begins (λ ts. Err (too_deep ts)) fail

-- A part, and again as long as the test holds of the first token. Each part is read in the state that the part before it left.
unfoldable pub repeat_in_from : {T S A : Type 0} → (S → T → Bool) → (S → Parser T (A × S)) → ℕ → S → Parser T (List A × S)
repeat_in_from test p zero s = pure ([], s)
repeat_in_from test p (suc n) s = choose (test s) (p s >>= λ x. repeat_in_from test p n x.1 >>= λ more. pure (x.0 ∷ more.0, more.1)) (pure ([], s))

unfoldable pub repeat_in : {T S A : Type 0} → (S → T → Bool) → (S → Parser T (A × S)) → S → Parser T (List A × S)
repeat_in test p s ts = repeat_in_from test p (length ts) s ts

-- the same with no state
unfoldable pub repeat : {T A : Type 0} → (T → Bool) → Parser T A → Parser T (List A)
repeat test p = repeat_in (λ _. test) (λ _. p >>= λ a. pure (a, tt {0})) (tt {0}) >>= λ found. pure found.0

-- the same where the parts are kept in the state
unfoldable pub repeat_on : {T S : Type 0} → (S → T → Bool) → (S → Parser T S) → S → Parser T S
repeat_on test p s = repeat_in test (λ s. p s >>= λ u. pure (tt {0}, u)) s >>= λ found. pure found.1
