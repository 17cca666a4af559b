-- Sizes and heights of copied bodies, statement by statement.
use Rattle.std.proofs.Common.{◌≡◌, refl, sym, ap, subst, ◌∙◌, arith, ℕ, zero, suc, ◌+◌, ◌<◌, ◌≤◌, max, min, Bool, true, false, List, [], ◌∷◌, ◌++◌, length, Option, Some, None, option_map, slice_get, unwrap_or, ◌||◌, nat_lt, nat_le, if◌then◌else◌}
use Rattle.scc_base.specs.declared.refusal.Place.{Place}
use Rattle.scc_bits_kinds.specs.declared.kind.Kind.{Kind}
use Rattle.scc_core_spec.specs.Term as core
use Rattle.scc_core_spec.specs.Term.{CellName}
use Rattle.scc_core_spec.specs.Code as stmt
use Rattle.scc_elab_spec.specs.Term.{Argument, Value, Leads, ModuleName}
use Rattle.scc_elab_spec.specs.Program.{Code, End, Declare, Assign, Point, Write, Call, If, Loop, Block, Exit, Return, Wait, Make, Bind, Process, Sensitive, Quiet, Reset, Function, Plain, Member}
use Rattle.scc_elab_spec.specs.Types.{is_direct}
use Rattle.scc_elab_spec.specs.Copied.{Here}
use Rattle.scc_elab_spec.specs.Bodies.{Calling, aimed, elements, sizes_of, cleared, zeroed, passed, object_of, result_name, inside, local_as_whole}
use Rattle.scc_base.specs.declared.code.Code.TheVariants as reason
use Rattle.scc_core_spec.specs.First.{when, refused}
use Rattle.scc_elab_spec.specs.Design as design
use Rattle.scc_elab_spec.specs.Design.{Design}
use Rattle.scc_elab_spec.specs.Numbering.{levels}
use Rattle.scc_inline_spec.specs.Inlined.{body_of, call_of, copied_body, here_of, too_large}
use Rattle.scc_inline_size_laws.specs.Counts.{many, deep, declared_size, passed_size, result_size, level, size_in, height_in, is_too_large, Comes}

-- ---- numbers

many_sum : (a b c d : ℕ) → many a ≡ many b → many c ≡ many d → many (a + c) ≡ many (b + d)
many_sum a b c d p q = omega arith

many_more : (n a b : ℕ) → many a ≡ many b → many (n + a) ≡ many (n + b)
many_more n a b p = omega arith

low_max : (m a b c d : ℕ) → min a m ≡ min b m → min c m ≡ min d m → min (max a c) m ≡ min (max b d) m
low_max m a b c d p q = omega arith

low_next : (m a b : ℕ) → min a m ≡ min b m → min (1 + a) (suc m) ≡ min (1 + b) (suc m)
low_next m a b p = omega arith

low_less : (m a b : ℕ) → min a (suc m) ≡ min b (suc m) → min a m ≡ min b m
low_less m a b p = omega arith

sum_none : (n : ℕ) → n ≡ 0 + n
sum_none n = omega arith

max_none : (n : ℕ) → n ≡ max 0 n
max_none n = omega arith

sum_next : (a b : ℕ) → 1 + (a + b) ≡ suc a + b
sum_next a b = omega arith

sum_two : (a : ℕ) → 1 + (1 + a) ≡ 2 + a
sum_two a = omega arith

sum_apart : (a b : ℕ) → 1 + (a + b) ≡ (1 + a) + b
sum_apart a b = omega arith

max_two : (m a : ℕ) → min (max 1 (max 1 a)) m ≡ min (max 1 a) m
max_two m a = omega arith

-- ---- parts of a call, declarations

either : (m : stmt.Code → ℕ) (b : Bool) (x y : stmt.Code) (n : ℕ) → m x ≡ n → m y ≡ n → m (if b then x else y) ≡ n
either m true x y n p q = p
either m false x y n p q = q

cleared_long : (h : Here) (p : Place) (n : ℕ) (m : Member) (all : List (List ℕ)) (r : stmt.Code) → stmt.size (cleared h p n (Some m) all r) ≡ length all + stmt.size r
cleared_long h p n m [] r = sum_none (stmt.size r)
cleared_long h p n m (i ∷ is) r = let one = ap (λ k. 1 + k) (cleared_long h p n m is r) ∙ sum_next (length is) (stmt.size r) in either stmt.size (is_direct m.shape.reach) _ _ (suc (length is) + stmt.size r) one one

level_next : (n k : ℕ) → max 1 (max (level n) k) ≡ max (level (suc n)) k
level_next zero k = omega arith
level_next (suc n) k = omega arith

cleared_high : (h : Here) (p : Place) (n : ℕ) (m : Member) (all : List (List ℕ)) (r : stmt.Code) → stmt.height (cleared h p n (Some m) all r) ≡ max (level (length all)) (stmt.height r)
cleared_high h p n m [] r = max_none (stmt.height r)
cleared_high h p n m (i ∷ is) r = let one = ap (λ k. max 1 k) (cleared_high h p n m is r) ∙ level_next (length is) (stmt.height r) in either stmt.height (is_direct m.shape.reach) _ _ (max (level (suc (length is))) (stmt.height r)) one one

declared_long : (h : Here) (p : Place) (n : ℕ) (m : Option Member) (r : stmt.Code) → stmt.size (cleared h p n m (elements (sizes_of m)) r) ≡ declared_size m + stmt.size r
declared_long h p n None r = sum_none (stmt.size r)
declared_long h p n (Some m) r = cleared_long h p n m (elements m.shape.sizes) r

declared_high : (h : Here) (p : Place) (n : ℕ) (m : Option Member) (r : stmt.Code) → stmt.height (cleared h p n m (elements (sizes_of m)) r) ≡ max (level (declared_size m)) (stmt.height r)
declared_high h p n None r = max_none (stmt.height r)
declared_high h p n (Some m) r = cleared_high h p n m (elements m.shape.sizes) r

passed_long : (h : Here) (results : ℕ → CellName) (to : Here) (p : Place) (n : ℕ) (args : List Argument) (r : stmt.Code) → stmt.size (passed h results to p n args r) ≡ passed_size args + stmt.size r
passed_long h results to p n [] r = sum_none (stmt.size r)
passed_long h results to p n (Value e ∷ args) r = ap (λ k. 1 + k) (passed_long h results to p (suc n) args r) ∙ sum_next (passed_size args) (stmt.size r)
passed_long h results to p n (Leads t ∷ args) r = ap (λ k. 1 + k) (passed_long h results to p (suc n) args r) ∙ sum_next (passed_size args) (stmt.size r)
passed_long h results to p n (ModuleName ∷ args) r = passed_long h results to p (suc n) args r

passed_high : (h : Here) (results : ℕ → CellName) (to : Here) (p : Place) (n : ℕ) (args : List Argument) (r : stmt.Code) → stmt.height (passed h results to p n args r) ≡ max (level (passed_size args)) (stmt.height r)
passed_high h results to p n [] r = max_none (stmt.height r)
passed_high h results to p n (Value e ∷ args) r = ap (λ k. max 1 k) (passed_high h results to p (suc n) args r) ∙ level_next (passed_size args) (stmt.height r)
passed_high h results to p n (Leads t ∷ args) r = ap (λ k. max 1 k) (passed_high h results to p (suc n) args r) ∙ level_next (passed_size args) (stmt.height r)
passed_high h results to p n (ModuleName ∷ args) r = passed_high h results to p (suc n) args r

zeroed_long : (h : Here) (p : Place) (cs : List ℕ) (f : Function) (k : Option Kind) (r : stmt.Code) → stmt.size (zeroed h p cs f k r) ≡ result_size k + stmt.size r
zeroed_long h p cs f None r = sum_none (stmt.size r)
zeroed_long h p cs f (Some k) r = refl

zeroed_high : (h : Here) (p : Place) (cs : List ℕ) (f : Function) (k : Option Kind) (r : stmt.Code) → stmt.height (zeroed h p cs f k r) ≡ max (level (result_size k)) (stmt.height r)
zeroed_high h p cs f None r = max_none (stmt.height r)
zeroed_high h p cs f (Some k) r = refl

-- ---- statements: with calls that come to so many statements and levels

abbrev pub HighTo : ℕ → (ℕ → ℕ) → Calling → Type 0
HighTo m heights call = (n : ℕ) (cs : List ℕ) (this : core.Left) → min (stmt.height (call cs n this)) m ≡ min (heights n) m

abbrev pub LongTo : ℕ → (ℕ → ℕ) → (ℕ → ℕ) → Calling → Type 0
LongTo m heights sizes call = (n : ℕ) (cs : List ℕ) (this : core.Left) → heights n < m → many (stmt.size (call cs n this)) ≡ many (sizes n)

module _ (m : ℕ) (heights : ℕ → ℕ) (call : Calling) (h : Here) (is_high : HighTo m heights call) where
  abbrev High : Code → Type 0
  High c = (d : ℕ) (before : List ℕ) → min (stmt.height (body_of call h d before c)) (suc m) ≡ min (height_in heights h.plain h.function c) (suc m)

  inner_high : (d : ℕ) (before : List ℕ) (b : Code) → High b → min (1 + stmt.height (body_of call h d before b)) (suc m) ≡ min (1 + height_in heights h.plain h.function b) (suc m)
  inner_high d before b p = low_next m _ _ (low_less m _ _ (p d before))

  called_high : (o : Option Function) (block : Function → stmt.Code) (q : Place) (r : stmt.Code) (x : ℕ) (hs : Function → ℕ) → ((g : Function) → min (1 + stmt.height (block g)) (suc m) ≡ min (hs g) (suc m))
      → min (stmt.height r) (suc m) ≡ min x (suc m) → min (stmt.height (unwrap_or (option_map (λ g. stmt.Block q (block g) r) o) r)) (suc m) ≡ min (max (unwrap_or (option_map hs o) 0) x) (suc m)
  called_high None block q r x hs p e = e ∙ ap (λ k. min k (suc m)) (max_none x)
  called_high (Some g) block q r x hs p e = low_max (suc m) _ _ _ _ (p g) e

  block_high : (q : Place) (n g : ℕ) (this : core.Left) (args : List Argument) (f : Function) → let cs = n ∷ h.calls in
      min (1 + stmt.height (zeroed h q cs f f.result (passed h (result_name h) (inside h cs f this) q 0 args (call cs g this)))) (suc m)
      ≡ min (1 + max (level (result_size f.result)) (max (level (passed_size args)) (heights g))) (suc m)
  block_high q n g this args f =
      let cs = n ∷ h.calls in
      let inner = call cs g this in
      let told = zeroed_high h q cs f f.result (passed h (result_name h) (inside h cs f this) q 0 args inner) ∙ ap (max (level (result_size f.result))) (passed_high h (result_name h) (inside h cs f this) q 0 args inner) in
      ap (λ k. min (1 + k) (suc m)) told
      ∙ low_next m _ _ (low_max m (level (result_size f.result)) (level (result_size f.result)) _ _ refl (low_max m (level (passed_size args)) (level (passed_size args)) _ _ refl (is_high g cs this)))

  same_high : (one : ℕ) (a b : ℕ) → min a (suc m) ≡ min b (suc m) → min (max one a) (suc m) ≡ min (max one b) (suc m)
  same_high one a b e = low_max (suc m) one one a b refl e

  pub high : (c : Code) → High c
  high End d before = refl
  high (Declare q n r) d before = ap (λ k. min k (suc m)) (declared_high h q n (slice_get h.function.locals n) (body_of call h d before r)) ∙ same_high (level (declared_size (slice_get h.function.locals n))) _ _ (high r d before)
  high (Assign q l k e r) d before = same_high 1 _ _ (high r d before)
  high (Point q l t r) d before = same_high 1 _ _ (high r d (local_as_whole l ++ before))
  high (Write q l e r) d before = same_high 1 _ _ (high r d before)
  high (Call q n g o args r) d before = called_high (slice_get h.plain.functions g)
      (λ f. zeroed h q (n ∷ h.calls) f f.result (passed h (result_name h) (inside h (n ∷ h.calls) f (object_of h (result_name h) o)) q 0 args (call (n ∷ h.calls) g (object_of h (result_name h) o))))
      q (body_of call h d before r) _ (λ f. 1 + max (level (result_size f.result)) (max (level (passed_size args)) (heights g))) (λ f. block_high q n g (object_of h (result_name h) o) args f) (high r d before)
  high (If q t a b r) d before = low_max (suc m) _ _ _ _ (low_next m _ _ (low_max m _ _ _ _ (low_less m _ _ (high a d before)) (low_less m _ _ (high b d (aimed a ++ before))))) (high r d (aimed a ++ (aimed b ++ before)))
  high (Loop q c b r) d before = low_max (suc m) _ _ _ _ (inner_high d before b (high b)) (high r d (aimed b ++ before))
  high (Block q b r) d before = low_max (suc m) _ _ _ _ (inner_high (suc d) before b (high b)) (high r d (aimed b ++ before))
  high (Exit q n r) d before = same_high 1 _ _ (high r d before)
  high (Return q None r) d before = same_high 1 _ _ (high r d before)
  high (Return q (Some e) r) d before = max_two (suc m) (stmt.height (body_of call h d before r)) ∙ same_high 1 _ _ (high r d before)
  high (Wait q n r) d before = same_high 1 _ _ (high r d before)
  high (Make q l b args r) d before = high r d before
  high (Bind q l t r) d before = high r d before
  high (Process q t f e r) d before = high r d before
  high (Sensitive q items r) d before = high r d before
  high (Quiet q r) d before = high r d before
  high (Reset q x e a r) d before = high r d before

module _ (m : ℕ) (heights sizes : ℕ → ℕ) (call : Calling) (h : Here) (is_long : LongTo m heights sizes call) where
  abbrev Long : Code → Type 0
  Long c = (d : ℕ) (before : List ℕ) → height_in heights h.plain h.function c ≤ m → many (stmt.size (body_of call h d before c)) ≡ many (size_in sizes h.plain h.function c)

  called_long : (o : Option Function) (block : Function → stmt.Code) (q : Place) (r : stmt.Code) (x : ℕ) (hs ss : Function → ℕ) → ((g : Function) → hs g ≤ m → many (1 + stmt.size (block g)) ≡ many (ss g))
      → unwrap_or (option_map hs o) 0 ≤ m → many (stmt.size r) ≡ many x → many (stmt.size (unwrap_or (option_map (λ g. stmt.Block q (block g) r) o) r)) ≡ many (unwrap_or (option_map ss o) 0 + x)
  called_long None block q r x hs ss p b e = e ∙ ap many (sum_none x)
  called_long (Some g) block q r x hs ss p b e = ap many (sum_apart (stmt.size (block g)) (stmt.size r)) ∙ many_sum (1 + stmt.size (block g)) (ss g) (stmt.size r) x (p g b) e

  block_long : (q : Place) (n g : ℕ) (this : core.Left) (args : List Argument) (f : Function) → 1 + max (level (result_size f.result)) (max (level (passed_size args)) (heights g)) ≤ m → let cs = n ∷ h.calls in
      many (1 + stmt.size (zeroed h q cs f f.result (passed h (result_name h) (inside h cs f this) q 0 args (call cs g this))))
      ≡ many (1 + (result_size f.result + (passed_size args + sizes g)))
  block_long q n g this args f low =
      let cs = n ∷ h.calls in
      let inner = call cs g this in
      let below : heights g < m = omega (arith, low) in
      let told = zeroed_long h q cs f f.result (passed h (result_name h) (inside h cs f this) q 0 args inner) ∙ ap (λ k. result_size f.result + k) (passed_long h (result_name h) (inside h cs f this) q 0 args inner) in
      ap (λ k. many (1 + k)) told
      ∙ many_more 1 _ _ (many_more (result_size f.result) _ _ (many_more (passed_size args) _ _ (is_long g cs this below)))

  left_low : (a b : ℕ) → max a b ≤ m → a ≤ m
  left_low a b low = omega (arith, low)

  right_low : (a b : ℕ) → max a b ≤ m → b ≤ m
  right_low a b low = omega (arith, low)

  under : (a : ℕ) → 1 + a ≤ m → a ≤ m
  under a low = omega (arith, low)

  pub long : (c : Code) → Long c
  long End d before low = refl
  long (Declare q n r) d before low = ap many (declared_long h q n (slice_get h.function.locals n) (body_of call h d before r)) ∙ many_more (declared_size (slice_get h.function.locals n)) _ _ (long r d before (right_low _ _ low))
  long (Assign q l k e r) d before low = many_more 1 _ _ (long r d before (right_low _ _ low))
  long (Point q l t r) d before low = many_more 1 _ _ (long r d (local_as_whole l ++ before) (right_low _ _ low))
  long (Write q l e r) d before low = many_more 1 _ _ (long r d before (right_low _ _ low))
  long (Call q n g o args r) d before low = called_long (slice_get h.plain.functions g)
      (λ f. zeroed h q (n ∷ h.calls) f f.result (passed h (result_name h) (inside h (n ∷ h.calls) f (object_of h (result_name h) o)) q 0 args (call (n ∷ h.calls) g (object_of h (result_name h) o))))
      q (body_of call h d before r) _ (λ f. 1 + max (level (result_size f.result)) (max (level (passed_size args)) (heights g))) (λ f. 1 + (result_size f.result + (passed_size args + sizes g)))
      (λ f. block_long q n g (object_of h (result_name h) o) args f) (left_low _ _ low) (long r d before (right_low _ _ low))
  long (If q t a b r) d before low =
      let both = under _ (left_low _ _ low) in
      many_more 1 _ _ (many_sum _ _ _ _ (long a d before (left_low _ _ both)) (many_sum _ _ _ _ (long b d (aimed a ++ before) (right_low _ _ both)) (long r d (aimed a ++ (aimed b ++ before)) (right_low _ _ low))))
  long (Loop q c b r) d before low = many_more 1 _ _ (many_sum _ _ _ _ (long b d before (under _ (left_low _ _ low))) (long r d (aimed b ++ before) (right_low _ _ low)))
  long (Block q b r) d before low = many_more 1 _ _ (many_sum _ _ _ _ (long b (suc d) before (under _ (left_low _ _ low))) (long r d (aimed b ++ before) (right_low _ _ low)))
  long (Exit q n r) d before low = many_more 1 _ _ (long r d before (right_low _ _ low))
  long (Return q None r) d before low = many_more 1 _ _ (long r d before (right_low _ _ low))
  long (Return q (Some e) r) d before low = ap many (sum_two (stmt.size (body_of call h d before r))) ∙ many_more 2 _ _ (long r d before (right_low _ _ low))
  long (Wait q n r) d before low = many_more 1 _ _ (long r d before (right_low _ _ low))
  long (Make q l b args r) d before low = long r d before low
  long (Bind q l t r) d before low = long r d before low
  long (Process q t f e r) d before low = long r d before low
  long (Sensitive q items r) d before low = long r d before low
  long (Quiet q r) d before low = long r d before low
  long (Reset q x e a r) d before low = long r d before low

or_true : (b : Bool) → (b || true) ≡ true
or_true true = refl
or_true false = refl

-- ---- functions

low_cap : (m a b : ℕ) → m ≤ 1025 → min a m ≡ min b m → min a m ≡ min (deep b) m
low_cap m a b low e = omega (arith, low, e)

low_of : (m a : ℕ) → m ≤ 1025 → deep a < m → a < m
low_of m a low b = omega (arith, low, b)

many_cap : (a b : ℕ) → many a ≡ many b → many a ≡ many (many b)
many_cap a b e = omega (arith, e)

pub comes_capped : (p : Plain) (n size height : ℕ) → Comes p n size height → Comes p n (many size) (deep height)
comes_capped p n size height q = record {
  high = λ h m cs this e low. low_cap m _ height low (q.high h m cs this e low);
  long = λ h m cs this e low b. many_cap _ size (q.long h m cs this e low (low_of m height low b));
}

pub comes_none : (p : Plain) (n : ℕ) → slice_get p.functions n ≡ None → Comes p n 0 0
comes_none p n g = record { high = ends_high; long = ends_long }
  where
    empty : (h : Here) (m : ℕ) (cs : List ℕ) (this : core.Left) → h.plain ≡ p → call_of h m cs n this ≡ stmt.End
    empty h zero cs this e = refl
    empty h (suc m) cs this e = ap (λ o. unwrap_or (option_map (λ f. body_of (call_of h m) (inside h cs f this) 0 [] f.body) o) stmt.End) (ap (λ q. slice_get q.functions n) e ∙ g)

    ends_high : (h : Here) (m : ℕ) (cs : List ℕ) (this : core.Left) → h.plain ≡ p → m ≤ 1025 → min (stmt.height (call_of h m cs n this)) m ≡ min 0 m
    ends_high h m cs this e low = ap (λ c. min (stmt.height c) m) (empty h m cs this e)

    ends_long : (h : Here) (m : ℕ) (cs : List ℕ) (this : core.Left) → h.plain ≡ p → m ≤ 1025 → 0 < m → many (stmt.size (call_of h m cs n this)) ≡ many 0
    ends_long h m cs this e low b = ap (λ c. many (stmt.size c)) (empty h m cs this e)

module _ (p : Plain) (heights sizes : ℕ → ℕ) (are : (n : ℕ) → Comes p n (sizes n) (heights n)) where
  calls_high : (h : Here) (m : ℕ) → h.plain ≡ p → m ≤ 1025 → HighTo m heights (call_of h m)
  calls_high h m e low n cs this = (are n).high h m cs this e low

  calls_long : (h : Here) (m : ℕ) → h.plain ≡ p → m ≤ 1025 → LongTo m heights sizes (call_of h m)
  calls_long h m e low n cs this b = (are n).long h m cs this e low b

  pub body_high : (h : Here) (m : ℕ) → h.plain ≡ p → m ≤ 1025 → (k : Here) → k.plain ≡ p → (c : Code) (d : ℕ) (before : List ℕ) → min (stmt.height (body_of (call_of h m) k d before c)) (suc m) ≡ min (height_in heights p k.function c) (suc m)
  body_high h m e low k g c d before = high m heights (call_of h m) k (calls_high h m e low) c d before ∙ ap (λ q. min (height_in heights q k.function c) (suc m)) g

  pub body_long : (h : Here) (m : ℕ) → h.plain ≡ p → m ≤ 1025 → (k : Here) → k.plain ≡ p → (c : Code) (d : ℕ) (before : List ℕ) → height_in heights p k.function c ≤ m → many (stmt.size (body_of (call_of h m) k d before c)) ≡ many (size_in sizes p k.function c)
  body_long h m e low k g c d before b = long m heights sizes (call_of h m) k (calls_long h m e low) c d before (subst (λ q. height_in heights q k.function c ≤ m) (sym g) b) ∙ ap (λ q. many (size_in sizes q k.function c)) g

  limits_told : (size height s t : ℕ) → min height 1026 ≡ min t 1026 → (t ≤ 1025 → many size ≡ many s) → (nat_lt 65536 (1 + (size + 0)) || nat_lt 1024 (max (1 + height) 0)) ≡ (nat_lt 65536 (1 + s) || nat_lt 1024 (1 + t))
  limits_told size height s t e f = by (nat_le t 1025) refl
    where
      by : (b : Bool) → nat_le t 1025 ≡ b → (nat_lt 65536 (1 + (size + 0)) || nat_lt 1024 (max (1 + height) 0)) ≡ (nat_lt 65536 (1 + s) || nat_lt 1024 (1 + t))
      by true g =
          let low : t ≤ 1025 = grind (arith, g) in
          let k = f low in
          let one : nat_lt 65536 (1 + (size + 0)) ≡ nat_lt 65536 (1 + s) = grind (arith, k) in
          let two : nat_lt 1024 (max (1 + height) 0) ≡ nat_lt 1024 (1 + t) = grind (arith, e) in
          (λ i. one i || two i)
      by false g =
          let two : nat_lt 1024 (max (1 + height) 0) ≡ true = grind (arith, e, g) in
          let three : nat_lt 1024 (1 + t) ≡ true = grind (arith, e, g) in
          ap (λ b. nat_lt 65536 (1 + (size + 0)) || b) two ∙ or_true (nat_lt 65536 (1 + (size + 0))) ∙ sym (ap (λ b. nat_lt 65536 (1 + s) || b) three ∙ or_true (nat_lt 65536 (1 + s)))

  none_below : (t : ℕ) → t < 0 → (a b : ℕ) → a ≡ b
  none_below t low a b = omega (arith, low)

  zero_low : (t : ℕ) → min 0 0 ≡ min t 0
  zero_low t = omega arith

  called_is : (n : ℕ) (f : Function) → slice_get p.functions n ≡ Some f → (h : Here) (m : ℕ) (cs : List ℕ) (this : core.Left) → h.plain ≡ p → call_of h (suc m) cs n this ≡ body_of (call_of h m) (inside h cs f this) 0 [] f.body
  called_is n f there h m cs this e = ap (λ o. unwrap_or (option_map (λ f. body_of (call_of h m) (inside h cs f this) 0 [] f.body) o) stmt.End) (ap (λ q. slice_get q.functions n) e ∙ there)

  pub comes_next : (n : ℕ) (f : Function) → slice_get p.functions n ≡ Some f → Comes p n (size_in sizes p f f.body) (height_in heights p f f.body)
  comes_next n f there = record { high = to_high; long = to_long }
    where
      to_high : (h : Here) (m : ℕ) (cs : List ℕ) (this : core.Left) → h.plain ≡ p → m ≤ 1025 → min (stmt.height (call_of h m cs n this)) m ≡ min (height_in heights p f f.body) m
      to_high h zero cs this e low = zero_low (height_in heights p f f.body)
      to_high h (suc m) cs this e low = let below : m ≤ 1025 = omega (arith, low) in
          ap (λ c. min (stmt.height c) (suc m)) (called_is n f there h m cs this e) ∙ body_high h m e below (inside h cs f this) e f.body 0 []

      to_long : (h : Here) (m : ℕ) (cs : List ℕ) (this : core.Left) → h.plain ≡ p → m ≤ 1025 → height_in heights p f f.body < m → many (stmt.size (call_of h m cs n this)) ≡ many (size_in sizes p f f.body)
      to_long h zero cs this e low b = none_below (height_in heights p f f.body) b (many 0) (many (size_in sizes p f f.body))
      to_long h (suc m) cs this e low b = let below : m ≤ 1025 = omega (arith, low) in let under : height_in heights p f f.body ≤ m = omega (arith, b) in
          ap (λ c. many (stmt.size c)) (called_is n f there h m cs this e) ∙ body_long h m e below (inside h cs f this) e f.body 0 [] under

  pub too_large_is : (d : Design) (i : ℕ) (q : design.Process) (f : Function) → slice_get p.functions q.function ≡ Some f → too_large p d i q ≡ when (is_too_large sizes heights p f) (refused reason.TooLarge q.place)
  too_large_is d i q f there =
      let h = here_of p d i q f in
      let body = body_of (call_of h levels) h 0 [] f.body in
      let copied_is : copied_body p d i q ≡ stmt.Block q.place body stmt.End =
      ap (λ o. unwrap_or (option_map (λ f. stmt.Block q.place (body_of (call_of (here_of p d i q f) levels) (here_of p d i q f) 0 [] f.body) stmt.End) o) stmt.End) there in
      ap (λ c. when (nat_lt 65536 (stmt.size c) || nat_lt 1024 (stmt.height c)) (refused reason.TooLarge q.place)) copied_is
      ∙ ap (λ b. when b (refused reason.TooLarge q.place)) (limits_told (stmt.size body) (stmt.height body) (size_in sizes p f f.body) (height_in heights p f f.body)
      (body_high h 1025 refl within h refl f.body 0 []) (λ low. body_long h 1025 refl within h refl f.body 0 [] low))
    where
      within : 1025 ≤ 1025
      within = omega arith
