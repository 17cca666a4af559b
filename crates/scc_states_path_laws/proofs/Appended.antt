-- Numbered lists of statements one behind another: their segments, and what they do.
use Rattle.std.proofs.Common.{◌≡◌, ℕ, zero, suc, ◌+◌, List, ◌∷◌, ◌++◌, Option, Some, None, refl, sym, ap, ◌∙◌, arith, append_assoc}
use Rattle.scc_semantics.specs.Value.{Held}
use Rattle.scc_core_spec.specs.Code.{Code, End, Put, Aim, If, Block, Loop, Exit, Wait, append, waits_in, numbered}
use Rattle.scc_core_spec.specs.Segments.{Segment, Plain, Test, Finish, opens, opened, segment, segments}
use Rattle.scc_states_path_laws.specs.Moved.{World, Done, Fell, Out, Sticks, then_done, shut_done, or_sticks, either_done, effect_on, put_on, aim_on, word_of}

pub ap₂ : {A B C : Type 0} (f : A → B → C) {a a' : A} {b b' : B} → a ≡ a' → b ≡ b' → f a b ≡ f a' b'
ap₂ f p q = λ i. f (p i) (q i)

pub numbered-append : (a b : Code) (n : ℕ) → numbered n (append a b) ≡ append (numbered n a) (numbered (n + waits_in a) b)
numbered-append End b n = let e : n ≡ n + 0 = omega arith in ap (λ m. numbered m b) e
numbered-append (Put p l k e r) b n = ap (Put p l k e) (numbered-append r b n)
numbered-append (Aim p to t r) b n = ap (Aim p to t) (numbered-append r b n)
numbered-append (If p t x y r) b n =
    let e : (n + (waits_in x + waits_in y)) + waits_in r ≡ n + (waits_in x + (waits_in y + waits_in r)) = omega arith in
    ap (If p t (numbered n x) (numbered (n + waits_in x) y)) (numbered-append r b (n + (waits_in x + waits_in y)) ∙ ap (λ m. append (numbered (n + (waits_in x + waits_in y)) r) (numbered m b)) e)
numbered-append (Block p x r) b n =
    let e : (n + waits_in x) + waits_in r ≡ n + (waits_in x + waits_in r) = omega arith in
    ap (Block p (numbered n x)) (numbered-append r b (n + waits_in x) ∙ ap (λ m. append (numbered (n + waits_in x) r) (numbered m b)) e)
numbered-append (Loop p c x r) b n =
    let e : (n + waits_in x) + waits_in r ≡ n + (waits_in x + waits_in r) = omega arith in
    ap (Loop p c (numbered n x)) (numbered-append r b (n + waits_in x) ∙ ap (λ m. append (numbered (n + waits_in x) r) (numbered m b)) e)
numbered-append (Exit p d r) b n = ap (Exit p d) (numbered-append r b n)
numbered-append (Wait p l c r) b n =
    let e : (n + 1) + waits_in r ≡ n + (1 + waits_in r) = omega arith in
    ap (Wait p n c) (numbered-append r b (n + 1) ∙ ap (λ m. append (numbered (n + 1) r) (numbered m b)) e)

pub segment-append : (a b : Code) (next : Segment) (outer : List Segment) → segment (append a b) next outer ≡ segment a (segment b next outer) outer
segment-append End b next outer = refl
segment-append (Put p l k e r) b next outer = ap (Plain (Put p l k e End)) (segment-append r b next outer)
segment-append (Aim p to t r) b next outer = ap (Plain (Aim p to t End)) (segment-append r b next outer)
segment-append (If p t x y r) b next outer =
    ap (λ rest. opened (opens 0 (If p t x y End)) (Test p t (segment x rest outer) (segment y rest outer)) (Plain (If p t x y End) rest)) (segment-append r b next outer)
segment-append (Block p x r) b next outer =
    ap (λ rest. opened (opens 0 (Block p x End)) (segment x rest (rest ∷ outer)) (Plain (Block p x End) rest)) (segment-append r b next outer)
segment-append (Loop p n x r) b next outer =
    ap (λ rest. opened (opens 0 (Loop p n x End)) (segment x Finish outer) (Plain (Loop p n x End) rest)) (segment-append r b next outer)
segment-append (Exit p n r) b next outer = refl
segment-append (Wait p l n r) b next outer = refl

-- a law of segments: with numbers
pub cut-append : (a b : Code) (n : ℕ) (next : Segment) (outer : List Segment) → segment (numbered n (append a b)) next outer ≡ segment (numbered n a) (segment (numbered (n + waits_in a) b) next outer) outer
cut-append a b n next outer = ap (λ c. segment c next outer) (numbered-append a b n) ∙ segment-append (numbered n a) (numbered (n + waits_in a) b) next outer

pub segments-append : (a b : Code) (next : Segment) (outer : List Segment) → segments (append a b) next outer ≡ segments a (segment b next outer) outer ++ segments b next outer
segments-append End b next outer = refl
segments-append (Put p l k e r) b next outer = segments-append r b next outer
segments-append (Aim p to t r) b next outer = segments-append r b next outer
segments-append (If p t x y r) b next outer =
    let rest = segment r (segment b next outer) outer in
    ap₂ (λ s more. segments x s outer ++ (segments y s outer ++ more)) (segment-append r b next outer) (segments-append r b next outer)
    ∙ sym (append_assoc (segments x rest outer) (segments y rest outer ++ segments r (segment b next outer) outer) (segments b next outer)
    ∙ ap (λ l. segments x rest outer ++ l) (append_assoc (segments y rest outer) (segments r (segment b next outer) outer) (segments b next outer)))
segments-append (Block p x r) b next outer =
    let rest = segment r (segment b next outer) outer in
    ap₂ (λ s more. segments x s (s ∷ outer) ++ more) (segment-append r b next outer) (segments-append r b next outer)
    ∙ sym (append_assoc (segments x rest (rest ∷ outer)) (segments r (segment b next outer) outer) (segments b next outer))
segments-append (Loop p n x r) b next outer =
    let again = segment (Loop p n x r) (segment b next outer) outer in
    ap₂ (λ s more. segments x s outer ++ more) (segment-append (Loop p n x r) b next outer) (segments-append r b next outer)
    ∙ sym (append_assoc (segments x again outer) (segments r (segment b next outer) outer) (segments b next outer))
segments-append (Exit p n r) b next outer = segments-append r b next outer
segments-append (Wait p l n r) b next outer = ap₂ ◌∷◌ (segment-append r b next outer) (segments-append r b next outer)

pub cuts-append : (a b : Code) (n : ℕ) (next : Segment) (outer : List Segment)
    → segments (numbered n (append a b)) next outer ≡ segments (numbered n a) (segment (numbered (n + waits_in a) b) next outer) outer ++ segments (numbered (n + waits_in a) b) next outer
cuts-append a b n next outer = ap (λ c. segments c next outer) (numbered-append a b n) ∙ segments-append (numbered n a) (numbered (n + waits_in a) b) next outer

then-assoc : (d : Done) (f g : Held → Done) → then_done d (λ h. then_done (f h) g) ≡ then_done (then_done d f) g
then-assoc (Fell h) f g = refl
then-assoc (Out n h) f g = refl
then-assoc (Sticks h) f g = refl

shut-assoc : (d : Done) (f g : Held → Done) → shut_done d (λ h. then_done (f h) g) ≡ then_done (shut_done d f) g
shut-assoc (Fell h) f g = refl
shut-assoc (Out zero h) f g = refl
shut-assoc (Out (suc n) h) f g = refl
shut-assoc (Sticks h) f g = refl

or-assoc : {A : Type 0} (h : Held) (x : Option A) (f : A → Done) (g : Held → Done) → or_sticks h x (λ y. then_done (f y) g) ≡ then_done (or_sticks h x f) g
or-assoc h None f g = refl
or-assoc h (Some y) f g = refl

module _ (w : World) where
  pub effect-append : (a b : Code) (h : Held) → effect_on w (append a b) h ≡ then_done (effect_on w a h) (effect_on w b)
  effect-append End b h = refl
  effect-append (Put p l k e r) b h =
      ap (or_sticks h (put_on w l k e h)) (λ i h'. effect-append r b h' i) ∙ or-assoc h (put_on w l k e h) (effect_on w r) (effect_on w b)
  effect-append (Aim p to t r) b h =
      ap (or_sticks h (aim_on w to t h)) (λ i h'. effect-append r b h' i) ∙ or-assoc h (aim_on w to t h) (effect_on w r) (effect_on w b)
  effect-append (If p t x y r) b h =
      ap (or_sticks h (word_of w t h)) (λ i v. then_done (either_done v (effect_on w x h) (effect_on w y h)) (λ h'. effect-append r b h' i))
      ∙ ap (or_sticks h (word_of w t h)) (λ i v. then-assoc (either_done v (effect_on w x h) (effect_on w y h)) (effect_on w r) (effect_on w b) i)
      ∙ or-assoc h (word_of w t h) (λ v. then_done (either_done v (effect_on w x h) (effect_on w y h)) (effect_on w r)) (effect_on w b)
  effect-append (Block p x r) b h =
      ap (shut_done (effect_on w x h)) (λ i h'. effect-append r b h' i) ∙ shut-assoc (effect_on w x h) (effect_on w r) (effect_on w b)
  effect-append (Loop p n x r) b h = refl
  effect-append (Exit p n r) b h = refl
  effect-append (Wait p l n r) b h = refl

  pub does-append : (a b : Code) (n : ℕ) (h : Held) → effect_on w (numbered n (append a b)) h ≡ then_done (effect_on w (numbered n a) h) (effect_on w (numbered (n + waits_in a) b))
  does-append a b n h = ap (λ c. effect_on w c h) (numbered-append a b n) ∙ effect-append (numbered n a) (numbered (n + waits_in a) b) h
