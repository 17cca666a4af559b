-- The search from a row: what is seen or waits reaches it, and what feeds it or a seen row is seen or waits.
use Rattle.std.proofs.Common.{◌≡◌, ◌<◌, ◌+◌, ◌⊎◌, inl, inr, ℕ, zero, suc, nat_eq, nat_lt, Bool, true, false, not, ◌||◌, cond, List, [], ◌∷◌, ◌++◌, length, set, replicate, refl, ap, sym, subst, ◌∙◌, arith, length-set, length-append}
use Rattle.std.specs.Prelude.{slice_index, slice_index_or}
use Rattle.std.proofs.Common.{get_or-set_other, get_or-set_same}
use Rattle.std.proofs.lemmas.List.{length-replicate, get_or_read}
use Rattle.std.proofs.lemmas.List.Folds.{list_any-append}
use Rattle.std.proofs.lemmas.Bool.{or_cases, or_left, or_right, and_parts, and_cases, cases_eq, both_ways, eqb-true, eq-eqb, ltb-true, not-true, not-false, lt-ltb}
use Rattle.scc_svtree_order.specs.Fed.{Rows, has, row_at}
use Rattle.scc_svtree_order.specs.Cycles.{Path, one, more}
use Rattle.scc_svtree_order.specs.Search.{Step, Decides, is_seen, is_new, seen_after, stack_after, IsFree, Sorted}

or_last : (b : Bool) → (b || false) ≡ true → b ≡ true
or_last true e = refl
or_last false e = e

pub has_append : (xs ys : List ℕ) (i : ℕ) → has (xs ++ ys) i ≡ (has xs i || has ys i)
has_append xs ys i = list_any-append (λ y. nat_eq y i) xs ys

-- a row that has something stands within
pub row_within : (g : Rows) (j i : ℕ) → has (row_at g j) i ≡ true → j < length g
row_within [] j i h = absurd (let e : false ≡ true = h in cc)
row_within (r ∷ g) zero i h = omega arith
row_within (r ∷ g) (suc j) i h = let l = row_within g j i h in omega arith

none_seen : (n i : ℕ) → is_seen (replicate n false) i ≡ false
none_seen zero i = refl
none_seen (suc n) zero = refl
none_seen (suc n) (suc i) = none_seen n i

pub record Searching (g : Rows) (k : ℕ) (seen : List Bool) (stack : List ℕ) : Type 0 where
  pub same : length seen ≡ length g
  pub sound : (i : ℕ) → (is_seen seen i || has stack i) ≡ true → Path (Step g) i k
  pub first : (i : ℕ) → i < length g → has (row_at g k) i ≡ true → (is_seen seen i || has stack i) ≡ true
  pub closed : (i j : ℕ) → i < length g → is_seen seen j ≡ true → has (row_at g j) i ≡ true → (is_seen seen i || has stack i) ≡ true

pub search_starts : (g : Rows) (k : ℕ) → Searching g k (replicate (length g) false) (row_at g k)
search_starts g k = record {
  same = length-replicate (length g) false;
  sound = λ i h. one i k (subst (λ (b : Bool). (b || has (row_at g k) i) ≡ true) (none_seen (length g) i) h);
  first = λ i l h. or_right (is_seen (replicate (length g) false) i) (has (row_at g k) i) h;
  closed = λ i j l s h. absurd (both_ways (is_seen (replicate (length g) false) j) (none_seen (length g) j) s);
}

module _ (g : Rows) (k : ℕ) (seen : List Bool) (stack : List ℕ) (j : ℕ) (s : Searching g k seen (stack ++ j ∷ [])) where
  -- what is on the stack with j
  on_stack : (i : ℕ) → has (stack ++ j ∷ []) i ≡ true → (has stack i ≡ true) ⊎ (i ≡ j)
  on_stack i h = elim (or_cases (has stack i) (has (j ∷ []) i) (sym (has_append stack (j ∷ []) i) ∙ h)) [
    | inl a ↦ inl a
    | inr b ↦ inr (sym (eqb-true j i (or_last (nat_eq j i) b)))
  ]

  kept : (i : ℕ) → has stack i ≡ true → has (stack ++ j ∷ []) i ≡ true
  kept i h = has_append stack (j ∷ []) i ∙ or_left (has stack i) (has (j ∷ []) i) h

  top : has (stack ++ j ∷ []) j ≡ true
  top = has_append stack (j ∷ []) j ∙ or_right (has stack j) (has (j ∷ []) j) (or_left (nat_eq j j) false (eq-eqb j j refl))

  j_reaches : Path (Step g) j k
  j_reaches = s.sound j (or_right (is_seen seen j) (has (stack ++ j ∷ []) j) top)

  -- a row that is new is seen now, and what feeds it waits
  new_row : j < length g → Searching g k (set seen j true) (stack ++ row_at g j)
  new_row l = record {
    same = length-set seen j true ∙ s.same;
    sound = sound;
    first = λ i m h. over i (s.first i m h);
    closed = closed;
  }
    where
      within : j < length seen
      within = let e = s.same in omega arith

      here : is_seen (set seen j true) j ≡ true
      here = get_or-set_same seen j true false within

      other : (i : ℕ) → (i ≡ j → ⊥) → is_seen (set seen j true) i ≡ is_seen seen i
      other i ne = get_or-set_other seen j i true false ne

      waits : (i : ℕ) → has stack i ≡ true → has (stack ++ row_at g j) i ≡ true
      waits i h = has_append stack (row_at g j) i ∙ or_left (has stack i) (has (row_at g j) i) h

      still : (i : ℕ) → is_seen seen i ≡ true → is_seen (set seen j true) i ≡ true
      still i h = elim (cases_eq i j) [
        | inl e ↦ subst (λ (n : ℕ). is_seen (set seen j true) n ≡ true) (sym e) here
        | inr ne ↦ other i ne ∙ h
      ]

      seen_or_waits : (i : ℕ) → (is_seen (set seen j true) i ≡ true) ⊎ (has (stack ++ row_at g j) i ≡ true) → (is_seen (set seen j true) i || has (stack ++ row_at g j) i) ≡ true
      seen_or_waits i (inl a) = or_left (is_seen (set seen j true) i) (has (stack ++ row_at g j) i) a
      seen_or_waits i (inr b) = or_right (is_seen (set seen j true) i) (has (stack ++ row_at g j) i) b

      over : (i : ℕ) → (is_seen seen i || has (stack ++ j ∷ []) i) ≡ true → (is_seen (set seen j true) i || has (stack ++ row_at g j) i) ≡ true
      over i h = elim (or_cases (is_seen seen i) (has (stack ++ j ∷ []) i) h) [
        | inl a ↦ seen_or_waits i (inl (still i a))
        | inr b ↦ elim (on_stack i b) [
          | inl c ↦ seen_or_waits i (inr (waits i c))
          | inr e ↦ seen_or_waits i (inl (subst (λ (n : ℕ). is_seen (set seen j true) n ≡ true) (sym e) here))
        ]
      ]

      sound : (i : ℕ) → (is_seen (set seen j true) i || has (stack ++ row_at g j) i) ≡ true → Path (Step g) i k
      sound i h = elim (or_cases (is_seen (set seen j true) i) (has (stack ++ row_at g j) i) h) [
        | inl a ↦ elim (cases_eq i j) [
          | inl e ↦ subst (λ (n : ℕ). Path (Step g) n k) (sym e) j_reaches
          | inr ne ↦ s.sound i (or_left (is_seen seen i) (has (stack ++ j ∷ []) i) (sym (other i ne) ∙ a))
        ]
        | inr b ↦ elim (or_cases (has stack i) (has (row_at g j) i) (sym (has_append stack (row_at g j) i) ∙ b)) [
          | inl c ↦ s.sound i (or_right (is_seen seen i) (has (stack ++ j ∷ []) i) (kept i c))
          | inr d ↦ more i j k d j_reaches
        ]
      ]

      closed : (i n : ℕ) → i < length g → is_seen (set seen j true) n ≡ true → has (row_at g n) i ≡ true → (is_seen (set seen j true) i || has (stack ++ row_at g j) i) ≡ true
      closed i n m a h = elim (cases_eq n j) [
        | inl e ↦ seen_or_waits i (inr (has_append stack (row_at g j) i ∙ or_right (has stack i) (has (row_at g j) i) (subst (λ (r : ℕ). has (row_at g r) i ≡ true) e h)))
        | inr ne ↦ over i (s.closed i n m (sym (other n ne) ∙ a) h)
      ]

  -- a row that was seen is passed over
  old_row : (j < length g → is_seen seen j ≡ true) → Searching g k seen stack
  old_row old = record {
    same = s.same;
    sound = λ i h. elim (or_cases (is_seen seen i) (has stack i) h) [
      | inl a ↦ s.sound i (or_left (is_seen seen i) (has (stack ++ j ∷ []) i) a)
      | inr b ↦ s.sound i (or_right (is_seen seen i) (has (stack ++ j ∷ []) i) (kept i b))
    ];
    first = λ i m h. over i m (s.first i m h);
    closed = λ i n m a h. over i m (s.closed i n m a h);
  }
    where
      over : (i : ℕ) → i < length g → (is_seen seen i || has (stack ++ j ∷ []) i) ≡ true → (is_seen seen i || has stack i) ≡ true
      over i m h = elim (or_cases (is_seen seen i) (has (stack ++ j ∷ []) i) h) [
        | inl a ↦ or_left (is_seen seen i) (has stack i) a
        | inr b ↦ elim (on_stack i b) [
          | inl c ↦ or_right (is_seen seen i) (has stack i) c
          | inr e ↦ or_left (is_seen seen i) (has stack i) (let l : j < length g = omega arith in subst (λ (n : ℕ). is_seen seen n ≡ true) (sym e) (old l))
        ]
      ]

  pub search_turns : Searching g k (seen_after g j seen) (stack_after g j seen stack)
  search_turns = go (is_new g seen j) refl
    where
      go : (b : Bool) → is_new g seen j ≡ b → Searching g k (cond b (set seen j true) seen) (cond b (stack ++ row_at g j) stack)
      go true e = new_row (ltb-true j (length g) (and_parts (nat_lt j (length g)) (not (is_seen seen j)) e).0)
      go false e = old_row (λ l. elim (and_cases (nat_lt j (length g)) (not (is_seen seen j)) e) [
        | inl a ↦ absurd (both_ways (nat_lt j (length g)) a (lt-ltb j (length g) l))
        | inr b ↦ not-false (is_seen seen j) b
      ])

-- ---- its end

-- rows that are not seen yet, and what waits
abbrev pub weight : Rows → List Bool → ℕ
weight [] seen = 0
weight (r ∷ g) [] = 0
weight (r ∷ g) (true ∷ seen) = weight g seen
weight (r ∷ g) (false ∷ seen) = length r + weight g seen

lighter : (g : Rows) (seen : List Bool) (j : ℕ) → j < length g → length seen ≡ length g → is_seen seen j ≡ false → weight g (set seen j true) + length (row_at g j) ≡ weight g seen
lighter [] seen j l e h = absurd (omega arith)
lighter (r ∷ g) [] j l e h = absurd (omega arith)
lighter (r ∷ g) (true ∷ seen) zero l e h = absurd (cc)
lighter (r ∷ g) (false ∷ seen) zero l e h = omega arith
lighter (r ∷ g) (true ∷ seen) (suc j) l e h = lighter g seen j (omega arith) (omega arith) h
lighter (r ∷ g) (false ∷ seen) (suc j) l e h = let i : weight g (set seen j true) + length (row_at g j) ≡ weight g seen = lighter g seen j (omega arith) (omega arith) h in omega arith

pub turn_lighter : (g : Rows) (seen : List Bool) (stack : List ℕ) (j : ℕ) → length seen ≡ length g → weight g (seen_after g j seen) + length (stack_after g j seen stack) < weight g seen + length (stack ++ j ∷ [])
turn_lighter g seen stack j e = go (is_new g seen j) refl (length-append stack (j ∷ []))
  where
    go : (b : Bool) → is_new g seen j ≡ b → length (stack ++ j ∷ []) ≡ length stack + 1 → weight g (cond b (set seen j true) seen) + length (cond b (stack ++ row_at g j) stack) < weight g seen + length (stack ++ j ∷ [])
    go true h m =
        let p = and_parts (nat_lt j (length g)) (not (is_seen seen j)) h in
        let w : weight g (set seen j true) + length (row_at g j) ≡ weight g seen = lighter g seen j (ltb-true j (length g) p.0) e (not-true (is_seen seen j) p.1) in
        let a : length (stack ++ row_at g j) ≡ length stack + length (row_at g j) = length-append stack (row_at g j) in
        omega arith
    go false h m = omega arith

-- ---- what was seen at the end

complete : (g : Rows) (k : ℕ) (seen : List Bool) → Searching g k seen [] → (i : ℕ) → Path (Step g) i k → i < length g → is_seen seen i ≡ true
complete g k seen s i (one _ _ h) l = or_last (is_seen seen i) (s.first i l h)
complete g k seen s i (more _ j _ h p) l = or_last (is_seen seen i) (s.closed i j l (complete g k seen s j p (row_within g j i h)) h)

pub search_decides : (g : Rows) (k : ℕ) (seen : List Bool) → k < length g → Searching g k seen [] → Decides (is_seen seen k) (Path (Step g) k k)
search_decides g k seen l s = go (is_seen seen k) refl
  where
    go : (b : Bool) → is_seen seen k ≡ b → Decides b (Path (Step g) k k)
    go true e = s.sound k (or_left (is_seen seen k) false e)
    go false e = λ p. both_ways (is_seen seen k) e (complete g k seen s k p l)

-- ---- the same at the values of the code

pub search_first : (g : Rows) (k n : ℕ) (seen : List Bool) (stack : List ℕ) → n ≡ length g → seen ≡ replicate n false → stack ≡ row_at g k → Searching g k seen stack
search_first g k n seen stack e p q = rw (p, q, e) (search_starts g k)

pub search_next : (g : Rows) (k j : ℕ) (old seen : List Bool) (whole rest stack : List ℕ) → Searching g k old whole → whole ≡ rest ++ j ∷ [] → seen ≡ seen_after g j old → stack ≡ stack_after g j old rest → Searching g k seen stack
search_next g k j old seen whole rest stack s e p q = rw (p, q) (search_turns g k old rest j (subst (λ (w : List ℕ). Searching g k old w) e s))

pub search_lighter : (g : Rows) (j : ℕ) (old seen : List Bool) (whole rest stack : List ℕ) → length old ≡ length g → whole ≡ rest ++ j ∷ [] → seen ≡ seen_after g j old → stack ≡ stack_after g j old rest → weight g seen + length stack < weight g old + length whole
search_lighter g j old seen whole rest stack l e p q = rw (p, q, e) (turn_lighter g old rest j l)

pub search_done : (g : Rows) (k : ℕ) (seen : List Bool) (stack : List ℕ) (b : Bool) → k < length g → Searching g k seen stack → length stack ≡ 0 → b ≡ slice_index_or seen k b → Decides b (Path (Step g) k k)
search_done g k seen [] b l s e r = subst (λ (d : Bool). Decides d (Path (Step g) k k)) (sym (get_or_read seen k b (let m = s.same in omega arith) r false)) (search_decides g k seen l s)
search_done g k seen (i ∷ stack) b l s e r = absurd (omega arith)

-- ---- where no search is needed

-- A row above those that feed it is above all that reach it, where ranks never go down.
all_above : (g : Rows) (rank : List ℕ) → Sorted g rank → (i k : ℕ) → ((j : ℕ) → has (row_at g k) j ≡ true → slice_index rank j < slice_index rank k) → Path (Step g) i k → slice_index rank i < slice_index rank k
all_above g rank s i k a (one _ _ h) = a i h
all_above g rank s i k a (more _ j _ h p) = let l = all_above g rank s j k a p in let m = s j (row_within g j i h) i h in omega arith

pub free_above : (g : Rows) (rank : List ℕ) (k : ℕ) → Sorted g rank → ((j : ℕ) → has (row_at g k) j ≡ true → slice_index rank j < slice_index rank k) → IsFree g k
free_above g rank k s a p = let l = all_above g rank s k k a p in absurd (omega arith)

pub free_at : (g : Rows) (rank : List ℕ) (k top : ℕ) (row : List ℕ) → Sorted g rank → row ≡ row_at g k → top ≡ slice_index rank k → ((j : ℕ) → has row j ≡ true → slice_index rank j < top) → IsFree g k
free_at g rank k top row s e f a = free_above g rank k s (λ j h. let l : slice_index rank j < top = a j (ap (λ r. has r j) e ∙ h) in omega arith)
