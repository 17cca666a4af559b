-- How deep calls stand in one another: no deeper than the copied body is high.
use Rattle.std.proofs.Common.{◌≡◌, ℕ, zero, suc, ◌+◌, ◌≤◌, max, Bool, true, false, List, [], ◌∷◌, ◌++◌, Option, Some, None, option_map, unwrap_or, slice_get, if◌then◌else◌, refl, sym, ap, ◌∙◌, subst, arith}
use Rattle.std.proofs.Math.Nat.{le-max_left, le-max_right, max-le}
use Rattle.scc_base.specs.declared.refusal.Place.{Place}
use Rattle.scc_bits_kinds.specs.declared.kind.Kind.{Kind}
use Rattle.scc_core_spec.specs.Term as core
use Rattle.scc_core_spec.specs.Code as stmt
use Rattle.scc_core_spec.specs.Code.{height}
use Rattle.scc_elab_spec.specs.Term.{Argument, Value, Leads, ModuleName}
use Rattle.scc_elab_spec.specs.Program.{Code, End, Declare, Assign, Point, Write, Call, If, Loop, Block, Exit, Return, Wait, Make, Bind, Process, Sensitive, Quiet, Reset, Function, Plain, Member}
use Rattle.scc_elab_spec.specs.Types.{is_direct}
use Rattle.scc_elab_spec.specs.Copied.{Here, local_name}
use Rattle.scc_elab_spec.specs.Bodies.{cell_of, pointed, number_kind, elements, sizes_of, cleared, aimed, local_as_whole, result_name, inside, zeroed, passed, object_of}
use Rattle.scc_inline_spec.specs.Inlined.{body_of, call_of}

-- by how deep calls of functions stand
abbrev pub deep : (ℕ → ℕ) → Code → ℕ
deep call End = 0
deep call (Declare p n r) = deep call r
deep call (Assign p l k e r) = deep call r
deep call (Point p l t r) = deep call r
deep call (Write p l e r) = deep call r
deep call (Call p n f o args r) = max (call f) (deep call r)
deep call (If p t a b r) = max (deep call a) (max (deep call b) (deep call r))
deep call (Loop p c b r) = max (deep call b) (deep call r)
deep call (Block p b r) = max (deep call b) (deep call r)
deep call (Exit p n r) = deep call r
deep call (Return p v r) = deep call r
deep call (Wait p n r) = deep call r
deep call (Make p l b args r) = deep call r
deep call (Bind p l t r) = deep call r
deep call (Process p t f e r) = deep call r
deep call (Sensitive p items r) = deep call r
deep call (Quiet p r) = deep call r
deep call (Reset p s e a r) = deep call r

abbrev pub call_deep : Plain → ℕ → ℕ → ℕ
call_deep p zero f = 0
call_deep p (suc left) f = unwrap_or (option_map (λ g. suc (deep (call_deep p left) g.body)) (slice_get p.functions f)) 0

le-trans : (a b c : ℕ) → a ≤ b → b ≤ c → a ≤ c
le-trans a b c x y = omega (arith, x, y)

cleared-high : (h : Here) (p : Place) (n : ℕ) (m : Option Member) (all : List (List ℕ)) (rest : stmt.Code) → height rest ≤ height (cleared h p n m all rest)
cleared-high h p n None all rest = omega arith
cleared-high h p n (Some m) [] rest = omega arith
cleared-high h p n (Some m) (is ∷ all) rest = by (is_direct m.shape.reach) (cleared-high h p n (Some m) all rest)
  where
    by : (b : Bool) → height rest ≤ height (cleared h p n (Some m) all rest)
        → height rest ≤ height (if b then stmt.Put p (cell_of h p false (local_name h n is)) core.Whole (core.Literal p (number_kind m.shape.base) 0) (cleared h p n (Some m) all rest)
        else stmt.Aim p (pointed true (cell_of h p true (local_name h n is))) (core.Null p) (cleared h p n (Some m) all rest))
    by true ih = le-trans (height rest) (height (cleared h p n (Some m) all rest)) _ ih (le-max_right 1 (height (cleared h p n (Some m) all rest)))
    by false ih = le-trans (height rest) (height (cleared h p n (Some m) all rest)) _ ih (le-max_right 1 (height (cleared h p n (Some m) all rest)))

zeroed-high : (h : Here) (p : Place) (cs : List ℕ) (g : Function) (k : Option Kind) (rest : stmt.Code) → height rest ≤ height (zeroed h p cs g k rest)
zeroed-high h p cs g None rest = omega arith
zeroed-high h p cs g (Some k) rest = le-max_right 1 (height rest)

passed-high : (h to : Here) (p : Place) (n : ℕ) (args : List Argument) (rest : stmt.Code) → height rest ≤ height (passed h (result_name h) to p n args rest)
passed-high h to p n [] rest = omega arith
passed-high h to p n (Value e ∷ args) rest = le-trans (height rest) (height (passed h (result_name h) to p (suc n) args rest)) _ (passed-high h to p (suc n) args rest) (le-max_right 1 (height (passed h (result_name h) to p (suc n) args rest)))
passed-high h to p n (Leads t ∷ args) rest = le-trans (height rest) (height (passed h (result_name h) to p (suc n) args rest)) _ (passed-high h to p (suc n) args rest) (le-max_right 1 (height (passed h (result_name h) to p (suc n) args rest)))
passed-high h to p n (ModuleName ∷ args) rest = passed-high h to p (suc n) args rest

max-two : (a b x y : ℕ) → a ≤ x → b ≤ y → max a b ≤ max x y
max-two a b x y l m = max-le (le-trans a x (max x y) l (le-max_left x y)) (le-trans b y (max x y) m (le-max_right x y))

module _ (h : Here) where
  -- calls of functions at most so deep
  abbrev High : ℕ → Type 0
  High left = (cs : List ℕ) (f : ℕ) (this : core.Left) → call_deep h.plain left f ≤ 1 + height (call_of h left cs f this)

  body-high : (left : ℕ) → High left → (to : Here) → to.plain ≡ h.plain → (d : ℕ) (before : List ℕ) (b : Code) → deep (call_deep h.plain left) b ≤ height (body_of (call_of h left) to d before b)
  body-high left high to e d before End = omega arith
  body-high left high to e d before (Declare p n r) =
      le-trans _ (height (body_of (call_of h left) to d before r)) _ (body-high left high to e d before r) (cleared-high to p n (slice_get to.function.locals n) (elements (sizes_of (slice_get to.function.locals n))) (body_of (call_of h left) to d before r))
  body-high left high to e d before (Assign p l k x r) = le-trans _ (height (body_of (call_of h left) to d before r)) _ (body-high left high to e d before r) (le-max_right 1 _)
  body-high left high to e d before (Point p l t r) = le-trans _ (height (body_of (call_of h left) to d (local_as_whole l ++ before) r)) _ (body-high left high to e d (local_as_whole l ++ before) r) (le-max_right 1 _)
  body-high left high to e d before (Write p l x r) = le-trans _ (height (body_of (call_of h left) to d before r)) _ (body-high left high to e d before r) (le-max_right 1 _)
  body-high left high to e d before (Call p n f o args r) = by (slice_get to.plain.functions f) refl (body-high left high to e d before r)
    where
      this : core.Left
      this = object_of to (result_name to) o

      none : (left : ℕ) → slice_get h.plain.functions f ≡ None → call_deep h.plain left f ≡ 0
      none zero z = refl
      none (suc left) z = ap (λ o. unwrap_or (option_map (λ g. suc (deep (call_deep h.plain left) g.body)) o) 0) z

      by : (o' : Option Function) → slice_get to.plain.functions f ≡ o' → deep (call_deep h.plain left) r ≤ height (body_of (call_of h left) to d before r)
          → max (call_deep h.plain left f) (deep (call_deep h.plain left) r) ≤ height (unwrap_or (option_map (λ g. stmt.Block p (zeroed to p (n ∷ to.calls) g g.result (passed to (result_name to) (inside to (n ∷ to.calls) g this) p 0 args (call_of h left (n ∷ to.calls) f this))) (body_of (call_of h left) to d before r)) o') (body_of (call_of h left) to d before r))
      by None z ih = subst (λ x. max x (deep (call_deep h.plain left) r) ≤ height (body_of (call_of h left) to d before r)) (sym (none left (ap (λ p. slice_get p.functions f) (sym e) ∙ z))) (max-le (omega arith) ih)
      by (Some g) z ih = max-two (call_deep h.plain left f) (deep (call_deep h.plain left) r) _ (height (body_of (call_of h left) to d before r))
          (let a = high (n ∷ to.calls) f this in let b = passed-high to (inside to (n ∷ to.calls) g this) p 0 args (call_of h left (n ∷ to.calls) f this) in
          let c = zeroed-high to p (n ∷ to.calls) g g.result (passed to (result_name to) (inside to (n ∷ to.calls) g this) p 0 args (call_of h left (n ∷ to.calls) f this)) in omega (arith, a, b, c)) ih
  body-high left high to e d before (If p t a b r) =
      let x = body-high left high to e d before a in let y = body-high left high to e d (aimed a ++ before) b in let z = body-high left high to e d (aimed a ++ (aimed b ++ before)) r in
      let A = height (body_of (call_of h left) to d before a) in let B = height (body_of (call_of h left) to d (aimed a ++ before) b) in let R = height (body_of (call_of h left) to d (aimed a ++ (aimed b ++ before)) r) in
      let l = le-max_left A B in let m = le-max_right A B in let u = le-max_left (1 + max A B) R in let v = le-max_right (1 + max A B) R in
      max-le (omega (arith, x, l, u)) (max-le (omega (arith, y, m, u)) (omega (arith, z, v)))
  body-high left high to e d before (Loop p c b r) =
      let x = body-high left high to e d before b in let z = body-high left high to e d (aimed b ++ before) r in
      let B = height (body_of (call_of h left) to d before b) in let R = height (body_of (call_of h left) to d (aimed b ++ before) r) in
      let u = le-max_left (1 + B) R in let v = le-max_right (1 + B) R in max-le (omega (arith, x, u)) (omega (arith, z, v))
  body-high left high to e d before (Block p b r) =
      let x = body-high left high to e (suc d) before b in let z = body-high left high to e d (aimed b ++ before) r in
      let B = height (body_of (call_of h left) to (suc d) before b) in let R = height (body_of (call_of h left) to d (aimed b ++ before) r) in
      let u = le-max_left (1 + B) R in let v = le-max_right (1 + B) R in max-le (omega (arith, x, u)) (omega (arith, z, v))
  body-high left high to e d before (Exit p n r) = le-trans _ (height (body_of (call_of h left) to d before r)) _ (body-high left high to e d before r) (le-max_right 1 _)
  body-high left high to e d before (Return p None r) = le-trans _ (height (body_of (call_of h left) to d before r)) _ (body-high left high to e d before r) (le-max_right 1 _)
  body-high left high to e d before (Return p (Some x) r) =
      let R = height (body_of (call_of h left) to d before r) in let a = body-high left high to e d before r in let b = le-max_right 1 R in let c = le-max_right 1 (max 1 R) in omega (arith, a, b, c)
  body-high left high to e d before (Wait p n r) = le-trans _ (height (body_of (call_of h left) to d before r)) _ (body-high left high to e d before r) (le-max_right 1 _)
  body-high left high to e d before (Make p l b args r) = body-high left high to e d before r
  body-high left high to e d before (Bind p l t r) = body-high left high to e d before r
  body-high left high to e d before (Process p t f x r) = body-high left high to e d before r
  body-high left high to e d before (Sensitive p items r) = body-high left high to e d before r
  body-high left high to e d before (Quiet p r) = body-high left high to e d before r
  body-high left high to e d before (Reset p s x a r) = body-high left high to e d before r

  call-high : (left : ℕ) → High left
  call-high zero cs f this = omega arith
  call-high (suc left) cs f this = by (slice_get h.plain.functions f) (λ g. body-high left (call-high left) (inside h cs g this) refl 0 [] g.body)
    where
      by : (o : Option Function) → ((g : Function) → deep (call_deep h.plain left) g.body ≤ height (body_of (call_of h left) (inside h cs g this) 0 [] g.body))
          → unwrap_or (option_map (λ g. suc (deep (call_deep h.plain left) g.body)) o) 0 ≤ 1 + height (unwrap_or (option_map (λ f. body_of (call_of h left) (inside h cs f this) 0 [] f.body) o) stmt.End)
      by None ih = omega arith
      by (Some g) ih = let x = ih g in omega (arith, x)

  -- calls stand no deeper than a copied body is high
  pub deep-high : (left d : ℕ) (before : List ℕ) (b : Code) → deep (call_deep h.plain left) b ≤ height (body_of (call_of h left) h d before b)
  deep-high left d before b = body-high left (call-high left) h refl d before b
