-- What stands in a thin text before its method: widths of 1 to 64, and names of which a property of all names holds.
use Rattle.std.proofs.Common.{◌≡◌, ℕ, zero, suc, ◌≤◌, List, [], ◌∷◌, length, Bool, true, false, nat_le, ◌&&◌, ◌==◌, Option, Some, None, refl, sym, ◌∙◌, subst, inl, inr, ◌⊎◌}
use Rattle.std.specs.Prelude.{option_map}
use Rattle.std.proofs.lemmas.Bool.Decides.{leb_tells}
use Rattle.scc_bits_kinds.specs.declared.kind.Kind.{Kind}
use Rattle.scc_bits_kinds.specs.declared.kind.Kind.TheVariants as kind
use Rattle.scc_bits_kinds.specs.declared.kind.Word as bits
use Rattle.scc_svtree.specs.Sound.{Each}
use Rattle.scc_thin.specs.declared.thin.numbers.TheConstants.{SC_MODULE, SC_UINT, SC_IN, SC_OUT, VOID, LESS, GREATER, SHIFT_RIGHT, SEMICOLON, COMMA, BRACE_OPEN, BRACE_CLOSE, PAREN_OPEN, PAREN_CLOSE}
use Rattle.scc_thin.specs.declared.thin.token.Token.{Token}
use Rattle.scc_thin.specs.declared.thin.token.Token.TheVariants.{Word, Mark, Name, Number}
use Rattle.scc_thin.specs.declared.thin.tree.Group.{Group}
use Rattle.scc_thin.specs.declared.thin.tree.Head.{Head}
use Rattle.scc_thin.specs.declared.thin.tree.Tree.{Tree}
use Rattle.scc_thin.specs.Gives.{◌>>=◌}
use Rattle.scc_thin.specs.Reading.{Steps, is_decimal, width_of, width_at, closed_at, kind_at, direction_at, name_at, names_at, name_step, group_at, group_step, or_else, an_item, after_mark, after_word, items, all_items, go_on, put_first, named_at, head_at, body_at, constructor_at, end_at, tree_at}
use Rattle.scc_thin_module.proofs.Chains.{bind_ok, some_same, guard_ok, and_first, and_second}

-- a width of 1 to 64
abbrev pub IsNarrow : ℕ → Type 0
IsNarrow w = (1 ≤ w) × (w ≤ 64)

le_true : (a b : ℕ) → nat_le a b ≡ true → a ≤ b
le_true a b e = elim (leb_tells a b) [ inl p ↦ p.1 | inr p ↦ absurd (let f : true ≡ false = sym e ∙ p.0 in cc) ]

number_narrow : (k : Kind) (w : bits.Word) (len n : ℕ) → width_of k w len ≡ Some n → IsNarrow n
number_narrow kind.Bool w len n e = cc
number_narrow (kind.Native b signed) w len n e =
    let g = guard_ok (b == 32 && signed && nat_le 1 w.bits && nat_le w.bits 64 && is_decimal w.bits len) (Some w.bits) n e in
    let both = and_first (b == 32 && signed && nat_le 1 w.bits && nat_le w.bits 64) (is_decimal w.bits len) g.0 in
    let low = and_second (b == 32 && signed) (nat_le 1 w.bits) (and_first (b == 32 && signed && nat_le 1 w.bits) (nat_le w.bits 64) both) in
    let high = and_second (b == 32 && signed && nat_le 1 w.bits) (nat_le w.bits 64) both in
    subst IsNarrow (some_same g.1) (le_true 1 w.bits low, le_true w.bits 64 high)
number_narrow (kind.Int b) w len n e = cc
number_narrow (kind.Uint b) w len n e = cc
number_narrow (kind.Big b) w len n e = cc
number_narrow (kind.BigInt b) w len n e = cc
number_narrow (kind.Bv b) w len n e = cc
number_narrow (kind.Wide b signed) w len n e = cc

-- the first that reads, or the other
either : {X : Type 0} (o : Option (List Token)) (f : List Token → Option X) (other : Option X) (x : X) → or_else o f other ≡ Some x
    → ((ts : List Token) × (o ≡ Some ts) × (f ts ≡ Some x)) ⊎ (other ≡ Some x)
either None f other x e = inr e
either (Some ts) f other x e = inl (ts, refl, e)

pub option_ok : {A B : Type 0} (f : A → B) (o : Option A) (y : B) → option_map f o ≡ Some y → (x : A) × (o ≡ Some x) × (f x ≡ y)
option_ok f None y e = cc
option_ok f (Some x) y e = (x, refl, some_same e)

module _ (Q : List ℕ → Type 0) where
  abbrev pub IsNamed : Token → Type 0
  IsNamed (Name t) = Q t
  IsNamed (Word t) = Unit {0}
  IsNamed (Mark m) = Unit {0}
  IsNamed (Number k w len) = Unit {0}

  abbrev pub AllNamed : List Token → Type 0
  AllNamed ts = Each IsNamed ts

  mark_kept : (m : ℕ) (ts r : List Token) → after_mark m ts ≡ Some r → AllNamed ts → AllNamed r
  mark_kept m [] r e h = cc
  mark_kept m (Mark b ∷ ts) r e h = subst AllNamed (some_same (guard_ok (b == m) (Some ts) r e).1) h.1
  mark_kept m (Word t ∷ ts) r e h = cc
  mark_kept m (Name t ∷ ts) r e h = cc
  mark_kept m (Number k w len ∷ ts) r e h = cc

  word_kept : (w : ℕ) (ts r : List Token) → after_word w ts ≡ Some r → AllNamed ts → AllNamed r
  word_kept w [] r e h = cc
  word_kept w (Word t ∷ ts) r e h = subst AllNamed (some_same (guard_ok (t == w) (Some ts) r e).1) h.1
  word_kept w (Mark b ∷ ts) r e h = cc
  word_kept w (Name t ∷ ts) r e h = cc
  word_kept w (Number k v len ∷ ts) r e h = cc

  name_kept : (ts : List Token) (r : List ℕ × List Token) → name_at ts ≡ Some r → AllNamed ts → Q r.0 × AllNamed r.1
  name_kept [] r e h = cc
  name_kept (Name t ∷ ts) r e h = subst (λ (p : List ℕ × List Token). Q p.0 × AllNamed p.1) (some_same e) (h.0, h.1)
  name_kept (Mark b ∷ ts) r e h = cc
  name_kept (Word t ∷ ts) r e h = cc
  name_kept (Number k v len ∷ ts) r e h = cc

  width_kept : (ts : List Token) (r : ℕ × List Token) → width_at ts ≡ Some r → AllNamed ts → IsNarrow r.0 × AllNamed r.1
  width_kept [] r e h = cc
  width_kept (Number k w len ∷ ts) r e h =
      let o = option_ok (λ n. (n, ts)) (width_of k w len) r e in
      subst (λ (p : ℕ × List Token). IsNarrow p.0 × AllNamed p.1) o.2 (number_narrow k w len o.0 o.1, h.1)
  width_kept (Word t ∷ ts) r e h = cc
  width_kept (Mark m ∷ ts) r e h = cc
  width_kept (Name t ∷ ts) r e h = cc

  closed_kept : (ts r : List Token) → closed_at ts ≡ Some r → AllNamed ts → AllNamed r
  unfolding closed_at
  closed_kept ts r e h =
      elim (either (after_mark SHIFT_RIGHT ts) (λ ts. Some ts) (after_mark GREATER ts >>= after_mark GREATER) r e) [
        | inl p ↦ subst AllNamed (some_same p.2) (mark_kept SHIFT_RIGHT ts p.0 p.1 h)
        | inr p ↦ (let f = bind_ok (after_mark GREATER ts) (after_mark GREATER) r p in mark_kept GREATER f.0 r f.2 (mark_kept GREATER ts f.0 f.1 h))
      ]

  kind_kept : (ts : List Token) (r : ℕ × List Token) → kind_at ts ≡ Some r → AllNamed ts → IsNarrow r.0 × AllNamed r.1
  unfolding kind_at
  kind_kept ts r e h =
      let w = bind_ok (after_mark LESS ts >>= after_word SC_UINT >>= after_mark LESS >>= width_at) _ r e in
      let v = bind_ok (after_mark LESS ts >>= after_word SC_UINT >>= after_mark LESS) width_at w.0 w.1 in
      let b = bind_ok (after_mark LESS ts >>= after_word SC_UINT) (after_mark LESS) v.0 v.1 in
      let a = bind_ok (after_mark LESS ts) (after_word SC_UINT) b.0 b.1 in
      let c = bind_ok (closed_at w.0.1) (λ ts. Some (w.0.0, ts)) r w.2 in
      let read = width_kept v.0 w.0 v.2 (mark_kept LESS b.0 v.0 b.2 (word_kept SC_UINT a.0 b.0 a.2 (mark_kept LESS ts a.0 a.1 h))) in
      subst (λ (p : ℕ × List Token). IsNarrow p.0 × AllNamed p.1) (some_same c.2) (read.0, closed_kept w.0.1 c.0 c.1 read.1)

  direction_kept : (ts : List Token) (r : Bool × List Token) → direction_at ts ≡ Some r → AllNamed ts → AllNamed r.1
  unfolding direction_at
  direction_kept ts r e h =
      elim (either (after_word SC_IN ts) (λ ts. Some (false, ts)) (option_map (λ ts. (true, ts)) (after_word SC_OUT ts)) r e) [
        | inl p ↦ subst (λ (q : Bool × List Token). AllNamed q.1) (some_same p.2) (word_kept SC_IN ts p.0 p.1 h)
        | inr p ↦ (let o = option_ok (λ ts. (true, ts)) (after_word SC_OUT ts) r p in subst (λ (q : Bool × List Token). AllNamed q.1) o.2 (word_kept SC_OUT ts o.0 o.1 h))
      ]

  -- repetitions
  abbrev OnItem : {X : Type 0} → (X → Type 0) → Option X → Type 0
  OnItem P None = Unit {0}
  OnItem P (Some x) = P x

  abbrev StepKeeps : {X : Type 0} → (X → Type 0) → Steps X → Type 0
  StepKeeps {X} P step = (ts : List Token) (r : Option X × List Token) → step ts ≡ Some r → AllNamed ts → OnItem P r.0 × AllNamed r.1

  items_kept : {X : Type 0} (P : X → Type 0) (step : Steps X) → StepKeeps P step → (n : ℕ) (ts : List Token) (r : List X × List Token) → items step n ts ≡ Some r → AllNamed ts → Each P r.0 × AllNamed r.1
  unfolding items
  items_kept P step keeps zero ts r e h = cc
  items_kept {X} P step keeps (suc n) ts r e h =
      let s = bind_ok (step ts) _ r e in
      let k = keeps ts s.0 s.1 h in
      by_item s.0.0 s.0.1 k.0 k.1 s.2 (λ ts q f h. items_kept P step keeps n ts q f h)
    where
      More : Type 0
      More = (ts : List Token) (q : List X × List Token) → items step n ts ≡ Some q → AllNamed ts → Each P q.0 × AllNamed q.1

      behind : (x : X) (o : Option (List X × List Token)) → P x → put_first x o ≡ Some r → ((q : List X × List Token) → o ≡ Some q → Each P q.0 × AllNamed q.1) → Each P r.0 × AllNamed r.1
      behind x None k e more = cc
      behind x (Some q) k e more = let m = more q refl in subst (λ (p : List X × List Token). Each P p.0 × AllNamed p.1) (some_same e) ((k, m.0), m.1)

      by_item : (o : Option X) (rest : List Token) → OnItem P o → AllNamed rest → go_on (items step n) o rest ≡ Some r → More → Each P r.0 × AllNamed r.1
      by_item None rest k h e more = subst (λ (p : List X × List Token). Each P p.0 × AllNamed p.1) (some_same e) (tt, h)
      by_item (Some x) rest k h e more = behind x (items step n rest) k e (λ q f. more rest q f h)

  name_step_kept : StepKeeps Q name_step
  unfolding name_step
  name_step_kept ts r e h =
      elim (either (after_mark SEMICOLON ts) (λ ts. Some (None, ts)) (an_item (after_mark COMMA ts >>= name_at)) r e) [
        | inl p ↦ subst (λ (q : Option (List ℕ) × List Token). OnItem Q q.0 × AllNamed q.1) (some_same p.2) (tt, mark_kept SEMICOLON ts p.0 p.1 h)
        | inr p ↦ (
            let o = option_ok (λ (r : List ℕ × List Token). (Some r.0, r.1)) (after_mark COMMA ts >>= name_at) r p in
            let f = bind_ok (after_mark COMMA ts) name_at o.0 o.1 in
            subst (λ (q : Option (List ℕ) × List Token). OnItem Q q.0 × AllNamed q.1) o.2 (name_kept f.0 o.0 f.2 (mark_kept COMMA ts f.0 f.1 h)))
      ]

  names_kept : (ts : List Token) (r : List (List ℕ) × List Token) → names_at name_step ts ≡ Some r → AllNamed ts → Each Q r.0 × AllNamed r.1
  names_kept ts r e h =
      let n = bind_ok (name_at ts) _ r e in
      let k = name_kept ts n.0 n.1 h in
      behind n.0.0 (items name_step (length n.0.1) n.0.1) k.0 n.2 (λ q f. items_kept Q name_step name_step_kept (length n.0.1) n.0.1 q f k.1)
    where
      behind : (x : List ℕ) (o : Option (List (List ℕ) × List Token)) → Q x → put_first x o ≡ Some r
          → ((q : List (List ℕ) × List Token) → o ≡ Some q → Each Q q.0 × AllNamed q.1) → Each Q r.0 × AllNamed r.1
      behind x None k e more = cc
      behind x (Some q) k e more = let m = more q refl in subst (λ (p : List (List ℕ) × List Token). Each Q p.0 × AllNamed p.1) (some_same e) ((k, m.0), m.1)

  -- a group of ports
  abbrev pub IsFine : Group → Type 0
  IsFine g = IsNarrow g.width × Each Q g.names

  group_kept : (ts : List Token) (r : Group × List Token) → group_at ts ≡ Some r → AllNamed ts → IsFine r.0 × AllNamed r.1
  unfolding group_at
  group_kept ts r e h =
      let o = bind_ok (direction_at ts) _ r e in
      let w = bind_ok (kind_at o.0.1) _ r o.2 in
      let n = bind_ok (names_at name_step w.0.1) _ r w.2 in
      let width = kind_kept o.0.1 w.0 w.1 (direction_kept ts o.0 o.1 h) in
      let names = names_kept w.0.1 n.0 n.1 width.1 in
      subst (λ (p : Group × List Token). IsFine p.0 × AllNamed p.1) (some_same n.2) ((width.0, names.0), names.1)

  group_step_kept : StepKeeps IsFine group_step
  unfolding group_step
  group_step_kept ts r e h =
      elim (either (after_word VOID ts) (λ ts. Some (None, ts)) (an_item (group_at ts)) r e) [
        | inl p ↦ subst (λ (q : Option Group × List Token). OnItem IsFine q.0 × AllNamed q.1) (some_same p.2) (tt, word_kept VOID ts p.0 p.1 h)
        | inr p ↦ (
            let o = option_ok (λ (r : Group × List Token). (Some r.0, r.1)) (group_at ts) r p in
            subst (λ (q : Option Group × List Token). OnItem IsFine q.0 × AllNamed q.1) o.2 (group_kept ts o.0 o.1 h))
      ]

  module_kept : (ts : List Token) (r : List ℕ × List Token) → named_at SC_MODULE ts ≡ Some r → AllNamed ts → Q r.0 × AllNamed r.1
  unfolding named_at
  module_kept ts r e h =
      let n = bind_ok (after_word SC_MODULE ts >>= after_mark PAREN_OPEN >>= name_at) _ r e in
      let b = bind_ok (after_word SC_MODULE ts >>= after_mark PAREN_OPEN) name_at n.0 n.1 in
      let a = bind_ok (after_word SC_MODULE ts) (after_mark PAREN_OPEN) b.0 b.1 in
      let c = bind_ok (after_mark PAREN_CLOSE n.0.1) _ r n.2 in
      let name = name_kept b.0 n.0 b.2 (mark_kept PAREN_OPEN a.0 b.0 a.2 (word_kept SC_MODULE ts a.0 a.1 h)) in
      subst (λ (p : List ℕ × List Token). Q p.0 × AllNamed p.1) (some_same c.2) (name.0, mark_kept PAREN_CLOSE n.0.1 c.0 c.1 name.1)

  abbrev pub IsFineHead : Head → Type 0
  IsFineHead k = Q k.top × Each IsFine k.groups

  head_kept : (ts : List Token) (r : Head × List Token) → head_at ts ≡ Some r → AllNamed ts → IsFineHead r.0
  unfolding head_at
  head_kept ts r e h =
      let n = bind_ok (named_at SC_MODULE ts) _ r e in
      let g = bind_ok (after_mark BRACE_OPEN n.0.1 >>= all_items group_step) _ r n.2 in
      let i = bind_ok (after_mark BRACE_OPEN n.0.1) (all_items group_step) g.0 g.1 in
      let name = module_kept ts n.0 n.1 h in
      let groups = items_kept IsFine group_step group_step_kept (length i.0) i.0 g.0 i.2 (mark_kept BRACE_OPEN n.0.1 i.0 i.1 name.1) in
      subst (λ (p : Head × List Token). IsFineHead p.0) (some_same g.2) (name.0, groups.0)

  pub tree_kept : (ts : List Token) (t : Tree) → tree_at ts ≡ Some t → AllNamed ts → IsFineHead t.head
  unfolding tree_at
  tree_kept ts t e h =
      let k = bind_ok (head_at ts) _ t e in
      let b = bind_ok (body_at k.0.1) _ t k.2 in
      let c = bind_ok (constructor_at b.0.1) _ t b.2 in
      let r = bind_ok (after_mark BRACE_CLOSE c.0.1 >>= after_mark SEMICOLON >>= end_at) _ t c.2 in
      subst (λ (t : Tree). IsFineHead t.head) (some_same r.2) (head_kept ts k.0 k.1 h)
