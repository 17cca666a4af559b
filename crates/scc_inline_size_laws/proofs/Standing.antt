-- Counts that stand still are what copied bodies come to.
use Rattle.std.proofs.Common.{◌≡◌, refl, sym, ap, subst, ◌∙◌, arith, ℕ, zero, suc, ◌+◌, ◌<◌, ◌≤◌, min, false, List, [], Option, Some, None, option_map, slice_get, unwrap_or, ◌||◌, nat_lt}
use Rattle.scc_base.specs.declared.code.Code.TheVariants as reason
use Rattle.scc_core_spec.specs.Term as core
use Rattle.scc_core_spec.specs.Code as stmt
use Rattle.scc_core_spec.specs.First.{when, refused}
use Rattle.scc_elab_spec.specs.Program.{Function, Plain}
use Rattle.scc_elab_spec.specs.Copied.{Here}
use Rattle.scc_elab_spec.specs.Bodies.{inside}
use Rattle.scc_elab_spec.specs.Design as design
use Rattle.scc_elab_spec.specs.Design.{Design}
use Rattle.scc_elab_spec.specs.Numbering.{levels}
use Rattle.scc_inline_spec.specs.Inlined.{body_of, call_of, copied_body, here_of, too_large}
use Rattle.scc_inline_size_laws.specs.Counts.{many, deep, size_in, height_in, passes, Comes, StandsStill}
use Rattle.scc_inline_size_laws.proofs.Counting.{HighTo, LongTo, high, long, too_large_is}

called : (p : Plain) (n : ℕ) (o : Option Function) → slice_get p.functions n ≡ o → (h : Here) (m : ℕ) (cs : List ℕ) (this : core.Left) → h.plain ≡ p
    → call_of h (suc m) cs n this ≡ unwrap_or (option_map (λ f. body_of (call_of h m) (inside h cs f this) 0 [] f.body) o) stmt.End
called p n o there h m cs this e = ap (λ o. unwrap_or (option_map (λ f. body_of (call_of h m) (inside h cs f this) 0 [] f.body) o) stmt.End) (ap (λ q. slice_get q.functions n) e ∙ there)

none_high : (m a b : ℕ) → b ≡ 0 → a ≡ 0 → min a m ≡ min b m
none_high m a b e f = omega (arith, e, f)

none_long : (a b : ℕ) → b ≡ 0 → a ≡ 0 → many a ≡ many b
none_long a b e f = omega (arith, e, f)

zero_high : (a b : ℕ) → min a 0 ≡ min b 0
zero_high a b = omega arith

next_high : (m a b c : ℕ) → suc m ≤ 1025 → min a (suc m) ≡ min b (suc m) → deep c ≡ deep b → min a (suc m) ≡ min c (suc m)
next_high m a b c low e f = omega (arith, low, e, f)

less : (m : ℕ) → suc m ≤ 1025 → m ≤ 1025
less m low = omega (arith, low)

below : (m b c : ℕ) → suc m ≤ 1025 → deep c ≡ deep b → c < suc m → b ≤ m
below m b c low e f = omega (arith, low, e, f)

none_below : (t : ℕ) → t < 0 → (a b : ℕ) → a ≡ b
none_below t low a b = omega (arith, low)

module _ (p : Plain) (heights sizes : ℕ → ℕ) (s : StandsStill p heights sizes) where
  highs : (m : ℕ) → m ≤ 1025 → (h : Here) → h.plain ≡ p → HighTo m heights (call_of h m)
  highs zero low h e n cs this = zero_high (stmt.height (call_of h 0 cs n this)) (heights n)
  highs (suc m) low h e n cs this = by (slice_get p.functions n) refl (highs m (less m low) h e)
    where
      by : (o : Option Function) → slice_get p.functions n ≡ o → HighTo m heights (call_of h m) → min (stmt.height (call_of h (suc m) cs n this)) (suc m) ≡ min (heights n) (suc m)
      by None g lower = none_high (suc m) (stmt.height (call_of h (suc m) cs n this)) (heights n) (s.no_height n g) (ap stmt.height (called p n None g h m cs this e))
      by (Some f) g lower =
          let k = inside h cs f this in
          ap (λ c. min (stmt.height c) (suc m)) (called p n (Some f) g h m cs this e)
          ∙ next_high m (stmt.height (body_of (call_of h m) k 0 [] f.body)) (height_in heights p f f.body) (heights n) low
          (high m heights (call_of h m) k lower f.body 0 [] ∙ ap (λ q. min (height_in heights q f f.body) (suc m)) e) (s.height n f g)

  longs : (m : ℕ) → m ≤ 1025 → (h : Here) → h.plain ≡ p → LongTo m heights sizes (call_of h m)
  longs zero low h e n cs this b = none_below (heights n) b (many (stmt.size (call_of h 0 cs n this))) (many (sizes n))
  longs (suc m) low h e n cs this b = by (slice_get p.functions n) refl (longs m (less m low) h e)
    where
      by : (o : Option Function) → slice_get p.functions n ≡ o → LongTo m heights sizes (call_of h m) → many (stmt.size (call_of h (suc m) cs n this)) ≡ many (sizes n)
      by None g lower = none_long (stmt.size (call_of h (suc m) cs n this)) (sizes n) (s.no_size n g) (ap stmt.size (called p n None g h m cs this e))
      by (Some f) g lower =
          let k = inside h cs f this in
          let under : height_in heights p f f.body ≤ m = below m (height_in heights p f f.body) (heights n) low (s.height n f g) b in
          ap (λ c. many (stmt.size c)) (called p n (Some f) g h m cs this e)
          ∙ long m heights sizes (call_of h m) k lower f.body 0 [] (subst (λ q. height_in heights q f f.body ≤ m) (sym e) under)
          ∙ ap (λ q. many (size_in sizes q f f.body)) e ∙ sym (s.size n f g)

  pub standing_comes : (n : ℕ) → Comes p n (sizes n) (heights n)
  standing_comes n = record { high = λ h m cs this e low. highs m low h e n cs this; long = λ h m cs this e low b. longs m low h e n cs this b }

  past_size : (a b : ℕ) → many a ≡ many b → nat_lt 65536 (1 + b) ≡ nat_lt 65536 (1 + a)
  past_size a b e = grind (arith, e)

  past_height : (a b : ℕ) → deep a ≡ deep b → nat_lt 1024 (1 + b) ≡ nat_lt 1024 (1 + a)
  past_height a b e = grind (arith, e)

  none_passes : (a b : ℕ) → a ≡ 0 → b ≡ 0 → false ≡ passes a b
  none_passes a b e f = sym (ap (λ a. passes a b) e ∙ ap (λ b. passes 0 b) f)

  pub standing_too_large : (d : Design) (i : ℕ) (q : design.Process) → too_large p d i q ≡ when (passes (sizes q.function) (heights q.function)) (refused reason.TooLarge q.place)
  standing_too_large d i q = by (slice_get p.functions q.function) refl
    where
      n : ℕ
      n = q.function

      by : (o : Option Function) → slice_get p.functions n ≡ o → too_large p d i q ≡ when (passes (sizes n) (heights n)) (refused reason.TooLarge q.place)
      by None g =
          let empty : copied_body p d i q ≡ stmt.End =
          ap (λ o. unwrap_or (option_map (λ f. stmt.Block q.place (body_of (call_of (here_of p d i q f) levels) (here_of p d i q f) 0 [] f.body) stmt.End) o) stmt.End) g in
          ap (λ c. when (nat_lt 65536 (stmt.size c) || nat_lt 1024 (stmt.height c)) (refused reason.TooLarge q.place)) empty
          ∙ ap (λ b. when b (refused reason.TooLarge q.place)) (none_passes (sizes n) (heights n) (s.no_size n g) (s.no_height n g))
      by (Some f) g =
          let one = past_size (sizes n) (size_in sizes p f f.body) (s.size n f g) in
          let two = past_height (heights n) (height_in heights p f f.body) (s.height n f g) in
          too_large_is p heights sizes standing_comes d i q f g ∙ (λ i. when (one i || two i) (refused reason.TooLarge q.place))
