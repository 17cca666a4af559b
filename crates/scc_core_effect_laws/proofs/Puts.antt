-- An assignment does the same from two actings that hold the same in what it reads.
use Rattle.std.proofs.Common.{◌≡◌, ℕ, ◌+◌, ◌-◌, ◌*◌, ◌^◌, ◌<◌, Bool, true, false, not, ◌&&◌, ◌||◌, nat_eq, nat_lt, pos, negsuc, pow_pos, List, [], ◌∷◌, ◌++◌, map, Option, Some, None, refl, sym, ap, ◌∙◌, subst, arith, if◌then◌else◌, subst₂, slice_get, ◌⊎◌, inl, inr, cond}
use Rattle.std.proofs.Math.Nat.{div-eq_of_lt, mod-one}
use Rattle.std.specs.Prelude.{option_map, option_and_then, unwrap_or}
use Rattle.std.specs.List.{list_any}
use Rattle.scc_bits_kinds.specs.declared.kind.Kind.{Kind}
use Rattle.scc_bits_kinds.specs.Numbers.{low, reading}
use Rattle.scc_bits_kinds.specs.Kinds.{width_of, is_signed}
use Rattle.scc_bits_kinds.specs.Bits.{replaced}
use Rattle.scc_semantics.specs.Scene.{index_of, with_bit}
use Rattle.scc_core_spec.specs.Term.{Term, Left, Pick, Whole, OneBit, Bits, kind_of}
use Rattle.scc_core_spec.specs.Program as program
use Rattle.scc_core_spec.specs.Program.{is_root, is_held}
use Rattle.scc_core_spec.specs.Static.{Cells, static, fixed_word}
use Rattle.scc_core_spec.specs.Named.{Step, is_open, names_cell, cell_at, cells_at}
use Rattle.scc_core_spec.specs.Uses.{Use, loads, inside, root_of, cells_of, is_single, is_zero, is_all, width_at, has_sort, whole_of, whole_writes, among}
use Rattle.scc_core_spec.specs.Uses as uses
use Rattle.scc_core_spec.specs.Flow.{CellSet, without}
use Rattle.scc_blocks_spec.specs.Acting.{Acting, word_in, steps_in, cell_named, with_word, with_asked, picked, put_in}
use Rattle.scc_blocks_spec.specs.Effect.{assigned}
use Rattle.scc_core_effect_laws.specs.Sound.{AllUses, SizedUse, FixedWords, FitWords, SoundPut}
use Rattle.scc_core_effect_laws.specs.Alike.{Both}
use Rattle.scc_core_effect_laws.proofs.Names.{and-first, and-second, some-same, none-some, true-false, named-in, static-tells, closed-steps, has-pattern}
use Rattle.scc_core_effect_laws.proofs.Same.{uses-first, uses-second, same-word, same-steps, same-picked}

pub whole-is : (cs : Cells) (l : Left) (k : Pick) (d : ℕ) (ns : List ℕ) → among d (whole_of cs l k ns) ≡ true
    → (among d ns ≡ true) × ((has_sort is_root cs d || (is_single cs l && is_all cs (width_at cs d) k)) ≡ true)
whole-is cs l k d [] e = true-false (sym e)
whole-is cs l k d (n ∷ ns) e = by (has_sort is_root cs n || (is_single cs l && is_all cs (width_at cs n) k)) refl e (λ h. whole-is cs l k d ns h)
  where
    test : ℕ → Bool
    test n = has_sort is_root cs n || (is_single cs l && is_all cs (width_at cs n) k)

    deeper : (among d ns ≡ true) × (test d ≡ true) → (among d (n ∷ ns) ≡ true) × (test d ≡ true)
    deeper h = (more (nat_eq d n) h.0, h.1)
      where
        more : (b : Bool) → among d ns ≡ true → (b || among d ns) ≡ true
        more true e = refl
        more false e = e

    by : (b : Bool) → test n ≡ b → among d (if b then n ∷ whole_of cs l k ns else whole_of cs l k ns) ≡ true → (among d (whole_of cs l k ns) ≡ true → (among d ns ≡ true) × (test d ≡ true))
        → (among d (n ∷ ns) ≡ true) × (test d ≡ true)
    by true t e more = here (nat_eq d n) refl e
      where
        equal : nat_eq d n ≡ true → n ≡ d
        equal h = grind arith

        here : (b : Bool) → nat_eq d n ≡ b → (b || among d (whole_of cs l k ns)) ≡ true → (among d (n ∷ ns) ≡ true) × (test d ≡ true)
        here true h e = (ap (λ b. b || among d ns) h, ap test (sym (equal h)) ∙ t)
        here false h e = deeper (more e)
    by false t e more = deeper (more e)

replaced-all : (h old new : ℕ) → old < 2 ^ (h + 1) → replaced h 0 old new ≡ new
replaced-all h old new f = (λ i. div-eq_of_lt {n = old} {m = 2 ^ (h + 1)} f i * 2 ^ (h + 1) + new * 1 + mod-one old i) ∙ omega arith

index-zero : (k : Kind) → index_of k 0 ≡ 0
index-zero k = by (is_signed k)
  where
    below : nat_lt 0 (2 ^ width_of k) ≡ true
    below = grind (arith, pow_pos (width_of k))

    by : (b : Bool) → low 128 (reading b (width_of k) 0) ≡ 0
    by true = ap (λ b. low 128 (cond b (pos 0) (negsuc (2 ^ width_of k - 1 - 0)))) below
    by false = refl

both-picked : (cs : Cells) (a : Acting) (width : ℕ) (k : Pick) (old old' new : ℕ) → ((picked cs a width k old new ≡ None) × (picked cs a width k old' new ≡ None))
    ⊎ ((w : ℕ) × (v : ℕ) × (picked cs a width k old new ≡ Some w) × (picked cs a width k old' new ≡ Some v))
both-picked cs a width Whole old old' new = inr (new, new, refl, refl)
both-picked cs a width (OneBit e) old old' new = by (word_in cs a e)
  where
    by : (o : Option ℕ) → ((option_map (λ i. with_bit width old (index_of (kind_of e) i) new) o ≡ None) × (option_map (λ i. with_bit width old' (index_of (kind_of e) i) new) o ≡ None))
        ⊎ ((w : ℕ) × (v : ℕ) × (option_map (λ i. with_bit width old (index_of (kind_of e) i) new) o ≡ Some w) × (option_map (λ i. with_bit width old' (index_of (kind_of e) i) new) o ≡ Some v))
    by None = inl (refl, refl)
    by (Some i) = inr (with_bit width old (index_of (kind_of e) i) new, with_bit width old' (index_of (kind_of e) i) new, refl, refl)
both-picked cs a width (Bits h l) old old' new = inr (replaced h l old new, replaced h l old' new, refl, refl)

is-zero : (o : Option ℕ) → is_zero o ≡ true → o ≡ Some 0
is-zero None e = true-false (sym e)
is-zero (Some n) e = ap Some (grind (arith, e))

all-picked : (cs : Cells) (a : Acting) → FixedWords cs a → (width : ℕ) (k : Pick) (old old' new : ℕ) → is_all cs width k ≡ true → old < 2 ^ width → old' < 2 ^ width
    → picked cs a width k old new ≡ picked cs a width k old' new
all-picked cs a fixed width Whole old old' new h f g = refl
all-picked cs a fixed width (OneBit e) old old' new h f g =
    let one : width ≡ 1 = grind (arith, and-first (nat_eq width 1) (is_zero (static cs e)) h) in
    let word = static-tells cs a fixed e 0 (is-zero (static cs e) (and-second (nat_eq width 1) (is_zero (static cs e)) h)) in
    ap (option_map (λ i. with_bit width old (index_of (kind_of e) i) new)) word ∙ ap Some (bit one) ∙ sym (ap (option_map (λ i. with_bit width old' (index_of (kind_of e) i) new)) word)
  where
    one-bit : (old : ℕ) → old < 2 ^ 1 → with_bit 1 old 0 new ≡ new
    one-bit old f = replaced-all 0 old new f

    bit : width ≡ 1 → with_bit width old (index_of (kind_of e) 0) new ≡ with_bit width old' (index_of (kind_of e) 0) new
    bit one =
        (λ i. with_bit (one i) old (index-zero (kind_of e) i) new) ∙ one-bit old (subst (λ n. old < 2 ^ n) one f) ∙ sym (one-bit old' (subst (λ n. old' < 2 ^ n) one g))
        ∙ sym (λ i. with_bit (one i) old' (index-zero (kind_of e) i) new)
all-picked cs a fixed width (Bits u l) old old' new h f g =
    let none : l ≡ 0 = grind (arith, and-first (nat_eq l 0) (nat_eq (u + 1) width) h) in
    let all : width ≡ u + 1 = grind (arith, and-second (nat_eq l 0) (nat_eq (u + 1) width) h) in
    ap Some (ap (λ l. replaced u l old new) none ∙ replaced-all u old new (subst (λ n. old < 2 ^ n) all f) ∙ sym (replaced-all u old' new (subst (λ n. old' < 2 ^ n) all g)) ∙ sym (ap (λ l. replaced u l old' new) none))

some-cell : (n : ℕ) (t : List Step) (cs : Cells) (f : ℕ → ℕ) (d : ℕ) → among d (map f (cells_at n t cs)) ≡ true → (k : ℕ) × (cell_at false n t cs ≡ Some k)
some-cell n t [] f d e = true-false (sym e)
some-cell n t (c ∷ cs) f d e = by (names_cell false t c) e (λ h. some-cell (n + 1) t cs f d h)
  where
    by : (b : Bool) → among d (map f (if b then n ∷ cells_at (n + 1) t cs else cells_at (n + 1) t cs)) ≡ true → (among d (map f (cells_at (n + 1) t cs)) ≡ true → (k : ℕ) × (cell_at false (n + 1) t cs ≡ Some k))
        → (k : ℕ) × ((if b then Some n else cell_at false (n + 1) t cs) ≡ Some k)
    by true h more = (n, refl)
    by false h more = more h

-- a location with no open index names a cell where its pattern does
pub single-named : (cs : Cells) (a : Acting) → FixedWords cs a → (l : Left) (s : List Step) (d : ℕ) → is_single cs l ≡ true → among d (cells_of cs l) ≡ true → steps_in cs a l ≡ Some s → (c : ℕ) × (cell_named cs (Some s) ≡ Some c)
single-named cs a fixed l s d one e f =
    let t = has-pattern cs a fixed l s f in
    let shut : is_open t.0 ≡ false = not-is (is_open t.0) (ap (λ o. unwrap_or (option_map (λ p. not (is_open p)) o) false) (sym t.1) ∙ one) in
    let same : s ≡ t.0 = some-same s t.0 (sym f ∙ closed-steps cs a fixed l t.0 t.1 shut) in
    let k = some-cell 0 t.0 cs (root_of cs) d (ap (λ o. among d (unwrap_or (option_map (λ p. map (root_of cs) (cells_at 0 p cs)) o) [])) (sym t.1) ∙ e) in
    (root_of cs k.0, ap (λ s. cell_named cs (Some s)) same ∙ ap (option_map (root_of cs)) k.1)
  where
    not-is : (b : Bool) → not b ≡ true → b ≡ false
    not-is true e = true-false (sym e)
    not-is false e = refl

pub record PutAlike (cs : Cells) (v : CellSet) (a b : Acting) : Type 0 where
  pub asked : (c : ℕ) → a.asked c ≡ b.asked c
  pub now : (c : ℕ) → v c ≡ false → a.now c ≡ b.now c
  pub fixed : FixedWords cs a
  pub fixed_too : FixedWords cs b

abbrev pub BothPut : Cells → CellSet → Option Acting → Option Acting → Type 0
BothPut cs v None None = Unit {0}
BothPut cs v (Some a) (Some b) = PutAlike cs v a b
BothPut cs v _ _ = ⊥

module _ (cs : Cells) (u : CellSet) (roots : (c : ℕ) → u c ≡ true → has_sort is_root cs c ≡ false) (a b : Acting) (both : Both cs u a b) (l : Left) (k : Pick) (e : Term) (sound : SoundPut cs l k e) where
  abbrev v : CellSet
  v = without (whole_writes cs l k) u

  -- what is written whole and was not sure is the one cell that is named
  covered : (s : List Step) (d : ℕ) → steps_in cs a l ≡ Some s → u d ≡ true → v d ≡ false
      → (cell_named cs (Some s) ≡ Some d) × (is_all cs (width_at cs d) k ≡ true)
  covered s d f h g =
      let w = whole-is cs l k d (cells_of cs l) (in-whole (u d) (among d (whole_writes cs l k)) h g) in
      let q = no-root (has_sort is_root cs d) (is_single cs l && is_all cs (width_at cs d) k) (roots d h) w.1 in
      let one = and-first (is_single cs l) (is_all cs (width_at cs d) k) q in
      let c = single-named cs a both.fixed l s d one w.0 f in
      (c.1 ∙ ap Some (sound.target.alone c.0 d one (named-in cs a both.fixed l sound.target s c.0 f c.1) w.0), and-second (is_single cs l) (is_all cs (width_at cs d) k) q)
    where
      in-whole : (x y : Bool) → x ≡ true → (x && not y) ≡ false → y ≡ true
      in-whole true true e f = refl
      in-whole true false e f = true-false f
      in-whole false y e f = true-false (sym e)

      no-root : (x y : Bool) → x ≡ false → (x || y) ≡ true → y ≡ true
      no-root true y e f = true-false e
      no-root false y e f = f

  sure-or : (d : ℕ) → v d ≡ false → (u d ≡ false) ⊎ (u d ≡ true)
  sure-or d g = by (u d)
    where
      by : (x : Bool) → (x ≡ false) ⊎ (x ≡ true)
      by true = inr refl
      by false = inl refl

  fixed-with : (a : Acting) → FixedWords cs a → (c w : ℕ) → among c (cells_of cs l) ≡ true → FixedWords cs (with_word c w a)
  fixed-with a h c w f = record { holds = λ d x y g m. by d x y g m (nat_eq c d) refl }
    where
      by : (d : ℕ) (x : program.Cell) (y : ℕ) → slice_get cs d ≡ Some x → fixed_word x.sort ≡ Some y → (t : Bool) → nat_eq c d ≡ t → (if nat_eq c d then w else a.now d) ≡ y
      by d x y g m true t =
          let same : d ≡ c = grind (arith, t) in
          none-some y (sym (sound.unfixed c x f (subst (λ n. slice_get cs n ≡ Some x) same g)) ∙ m)
      by d x y g m false t = ap (λ z. if z then w else a.now d) t ∙ h.holds d x y g m

  word-fits : (z : Acting) → FitWords cs z → (c : ℕ) → among c (cells_of cs l) ≡ true → z.now c < 2 ^ width_at cs c
  word-fits z h c there = by (slice_get cs c) refl (sound.held c there)
    where
      by : (o : Option program.Cell) → slice_get cs c ≡ o → unwrap_or (option_map is_held (option_map (λ c. c.sort) (slice_get cs c))) false ≡ true → z.now c < 2 ^ width_at cs c
      by None g f = true-false (sym f ∙ ap (λ o. unwrap_or (option_map is_held (option_map (λ c. c.sort) o)) false) g)
      by (Some x) g f = subst (λ o. z.now c < 2 ^ unwrap_or (option_map (λ c. width_of c.kind) o) 0) (sym g)
          (h.fits c x g (sym (ap (λ o. unwrap_or (option_map is_held (option_map (λ c. c.sort) o)) false) g) ∙ f))

  -- a number takes a word: the same in both, but where the cell stays unsure
  put-number : (s : List Step) (c new : ℕ) → steps_in cs a l ≡ Some s → cell_named cs (Some s) ≡ Some c → AllUses (λ w. SizedUse cs w × (list_any u (cells_of cs w.left) ≡ false)) (uses.picked k)
      → BothPut cs v (option_map (λ w. with_word c w a) (picked cs a (width_at cs c) k (a.now c) new)) (option_map (λ w. with_word c w b) (picked cs b (width_at cs c) k (b.now c) new))
  put-number s c new f g good = by (both-picked cs a width k (a.now c) (b.now c) new)
    where
      width : ℕ
      width = width_at cs c

      pa : Option ℕ
      pa = picked cs a width k (a.now c) new

      pb : Option ℕ
      pb = picked cs a width k (b.now c) new

      moved : picked cs b width k (b.now c) new ≡ pb
      moved = sym (same-picked cs u a b both k width (b.now c) new good)

      there : among c (cells_of cs l) ≡ true
      there = named-in cs a both.fixed l sound.target s c f g

      equal : v c ≡ false → pa ≡ pb
      equal h = cases (sure-or c h)
        where
          cases : ((u c ≡ false) ⊎ (u c ≡ true)) → pa ≡ pb
          cases (inl m) = ap (λ o. picked cs a width k o new) (both.now c m)
          cases (inr m) = all-picked cs a both.fixed width k (a.now c) (b.now c) new (covered s c f m h).1 (word-fits a both.fit c there) (word-fits b both.fit_too c there)

      by : ((pa ≡ None) × (pb ≡ None)) ⊎ ((w : ℕ) × (x : ℕ) × (pa ≡ Some w) × (pb ≡ Some x)) → BothPut cs v (option_map (λ w. with_word c w a) pa) (option_map (λ w. with_word c w b) (picked cs b width k (b.now c) new))
      by (inl m) = subst₂ (BothPut cs v) (sym (ap (option_map (λ w. with_word c w a)) m.0)) (sym (ap (option_map (λ w. with_word c w b)) (moved ∙ m.1))) tt
      by (inr m) =
          subst₂ (BothPut cs v) (sym (ap (option_map (λ w. with_word c w a)) m.2)) (sym (ap (option_map (λ w. with_word c w b)) (moved ∙ m.3)))
          (record {
            asked = both.asked;
            now = λ d h. at d h (nat_eq c d) refl;
            fixed = fixed-with a both.fixed c m.0 there;
            fixed_too = fixed-with b both.fixed_too c m.1 there;
          })
        where
          at : (d : ℕ) → v d ≡ false → (t : Bool) → nat_eq c d ≡ t → (if t then m.0 else a.now d) ≡ (if t then m.1 else b.now d)
          at d h true t =
              let same : c ≡ d = grind (arith, t) in
              some-same m.0 m.1 (sym m.2 ∙ equal (ap v same ∙ h) ∙ m.3)
          at d h false t = cases (sure-or d h)
            where
              cases : ((u d ≡ false) ⊎ (u d ≡ true)) → a.now d ≡ b.now d
              cases (inl n) = both.now d n
              cases (inr n) = absurd (let q = some-same c d (sym g ∙ (covered s d f n h).0) in grind (arith, q, t))

  -- where no sure cell is touched the actings stay alike
  sure-still : (s : List Step) (d : ℕ) → steps_in cs a l ≡ Some s → v d ≡ false → ((c : ℕ) → cell_named cs (Some s) ≡ Some c → u c ≡ false) → a.now d ≡ b.now d
  sure-still s d f h none = cases (sure-or d h)
    where
      cases : ((u d ≡ false) ⊎ (u d ≡ true)) → a.now d ≡ b.now d
      cases (inl n) = both.now d n
      cases (inr n) = true-false (sym n ∙ none d (covered s d f n h).0)

  same-maps : (o q : Option ℕ) (f g : ℕ → Acting) → o ≡ q → ((w : ℕ) → PutAlike cs v (f w) (g w)) → BothPut cs v (option_map f o) (option_map g q)
  same-maps o q f g e h = subst (λ q. BothPut cs v (option_map f o) (option_map g q)) e (by o)
    where
      by : (o : Option ℕ) → BothPut cs v (option_map f o) (option_map g o)
      by None = tt
      by (Some w) = h w

  put-both : (s : List Step) (new : ℕ) → steps_in cs a l ≡ Some s → AllUses (λ w. SizedUse cs w × (list_any u (cells_of cs w.left) ≡ false)) (uses.picked k)
      → (o : Option ℕ) → cell_named cs (Some s) ≡ o → BothPut cs v (put_in cs a o k new) (put_in cs b o k new)
  put-both s new f good None g =
      same-maps (picked cs a 1 k 0 new) (picked cs b 1 k 0 new) (λ w. a) (λ w. b) (same-picked cs u a b both k 1 0 new good)
      (λ w. record { asked = both.asked; now = λ d h. sure-still s d f h (λ c m. none-some c (sym g ∙ m)); fixed = both.fixed; fixed_too = both.fixed_too })
  put-both s new f good (Some c) g = by (has_sort is_root cs c) refl
    where
      by : (t : Bool) → has_sort is_root cs c ≡ t → BothPut cs v (if t then option_map (λ w. with_asked c new a) (picked cs a (width_at cs c) k 0 new) else option_map (λ w. with_word c w a) (picked cs a (width_at cs c) k (a.now c) new))
          (if t then option_map (λ w. with_asked c new b) (picked cs b (width_at cs c) k 0 new) else option_map (λ w. with_word c w b) (picked cs b (width_at cs c) k (b.now c) new))
      by false h = put-number s c new f g good
      by true h =
          same-maps (picked cs a (width_at cs c) k 0 new) (picked cs b (width_at cs c) k 0 new) (λ w. with_asked c new a) (λ w. with_asked c new b) (same-picked cs u a b both k (width_at cs c) 0 new good)
          (λ w. record {
            asked = λ d. ap (λ o. if nat_eq c d then Some new else o) (both.asked d);
            now = λ d m. sure-still s d f m (λ n q. unsure n (some-same c n (sym g ∙ q)));
            fixed = record { holds = both.fixed.holds };
            fixed_too = record { holds = both.fixed_too.holds };
          })
        where
          unsure : (n : ℕ) → c ≡ n → u n ≡ false
          unsure n q = cases (u n) refl
            where
              cases : (z : Bool) → u n ≡ z → z ≡ false
              cases true z = true-false (sym h ∙ ap (has_sort is_root cs) q ∙ roots n z)
              cases false z = refl

  pub assigned-both : AllUses (λ w. SizedUse cs w × (list_any u (cells_of cs w.left) ≡ false)) (inside l ++ (uses.picked k ++ loads e)) → BothPut cs v (assigned cs a l k e) (assigned cs b l k e)
  assigned-both good =
      let more = uses-second _ (inside l) (uses.picked k ++ loads e) good in
      let steps = same-steps cs u a b both l (uses-first _ (inside l) _ good) in
      let word = same-word cs u a b both e (uses-second _ (uses.picked k) (loads e) more) in
      subst (λ o. BothPut cs v (assigned cs a l k e) o) (λ i. option_and_then (λ w. option_and_then (λ s. put_in cs b (cell_named cs (Some s)) k w) (steps i)) (word i))
      (by (word_in cs a e) (steps_in cs a l) refl (uses-first _ (uses.picked k) (loads e) more))
    where
      by : (o : Option ℕ) (q : Option (List Step)) → steps_in cs a l ≡ q → AllUses (λ w. SizedUse cs w × (list_any u (cells_of cs w.left) ≡ false)) (uses.picked k)
          → BothPut cs v (option_and_then (λ w. option_and_then (λ s. put_in cs a (cell_named cs (Some s)) k w) q) o) (option_and_then (λ w. option_and_then (λ s. put_in cs b (cell_named cs (Some s)) k w) q) o)
      by None q f good = tt
      by (Some w) None f good = tt
      by (Some w) (Some s) f good = put-both s w f good (cell_named cs (Some s)) refl
