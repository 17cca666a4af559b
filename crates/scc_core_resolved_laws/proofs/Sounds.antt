-- The live parts of a resolved core are sound.
use Rattle.std.proofs.Common.{◌≡◌, ℕ, Bool, true, false, not, ◌&&◌, List, [], ◌∷◌, ◌++◌, Some, None, refl, sym, ap, subst, ◌∙◌}
use Rattle.std.specs.Prelude.{◌+◌, ◌-◌, nat_eq, nat_le, slice_get, option_map, unwrap_or}
use Rattle.scc_bits_kinds.specs.Kinds.{width_of}
use Rattle.scc_bits.specs.Values.{kind_of as operator_kind}
use Rattle.scc_core_spec.specs.Term.{Term, Literal, Load, Read, Convert, Unary, Binary, Choose, Bit, Range, Join, Left, Cell, Prefix, Null, Follow, Member, Index, Pick, Whole, OneBit, Bits, kind_of}
use Rattle.scc_core_spec.specs.Code.{Code, End, Put, Aim, If, Block, Loop, Exit, Wait}
use Rattle.scc_core_spec.specs.Program as program
use Rattle.scc_core_spec.specs.Program.{Program, Process, Sort, is_root, is_number, is_held, is_pointer}
use Rattle.scc_core_spec.specs.Named.{Step, steps_of, names_cell, fits}
use Rattle.scc_core_spec.specs.Static.{Cells, pattern, fixed_word}
use Rattle.scc_core_spec.specs.Live.{live}
use Rattle.scc_core_spec.specs.Uses.{Use, loads, inside, picked, cells_of, root_of, has_sort, among}
use Rattle.scc_core_spec.specs.OpenNames.{all_named, is_sized}
use Rattle.scc_core_spec.specs.Fit.{is_kind, is_loaded, is_shown, takes, bits_of, fit_term, fit_left, fit_pick, fit_put}
use Rattle.scc_core_spec.specs.IsResolved.{IsResolved}
use Rattle.scc_core_effect_laws.specs.Sound.{AllUses, Sized, SoundPut, SoundTest, Each, Sound}
use Rattle.scc_states_laws.proofs.Values.{some_same}
use Rattle.scc_core_resolved_laws.specs.Every.{Every}
use Rattle.scc_core_resolved_laws.proofs.Acting.{Rooted, rooted, every, assigned-fits}
use Rattle.scc_core_resolved_laws.proofs.Bools.{and-first, and-second, not-false}
use Rattle.scc_core_resolved_laws.proofs.Assigned.{takes-fixed}
use Rattle.scc_core_resolved_laws.proofs.Fitting.{put-parts}
use Rattle.scc_core_resolved_laws.proofs.Parts.{cells-apart, code-fit}
use Rattle.scc_core_resolved_laws.proofs.Pieces.{fit_alive}
use Rattle.scc_core_resolved_laws.proofs.Uses.{cells-in, named-each, sized}

all-both : (P : Use → Type 0) (xs ys : List Use) → AllUses P xs → AllUses P ys → AllUses P (xs ++ ys)
all-both P [] ys f g = g
all-both P (x ∷ xs) ys f g = (f.0, all-both P xs ys f.1 g)

-- what holds of each location that is named holds of each that is read
module _ (cs : Cells) (q : Process) (Q : Left → Type 0) (give : (l : Left) → fit_left cs q l ≡ true → is_sized cs l ≡ true → Q l) where
  abbrev P : Use → Type 0
  P u = Q u.left

  mutual
    pub term-uses : (e : Term) → fit_term cs q e ≡ true → AllUses P (loads e)
    term-uses (Literal p k w) h = tt
    term-uses (Load p k l) h =
        let fit = and-first (fit_left cs q l) (all_named cs (is_loaded k) l && is_sized cs l) h in
        all-both P (inside l) (record { place = p; left = l } ∷ []) (left-uses l fit) (give l fit (and-second (all_named cs (is_loaded k) l) (is_sized cs l) (and-second (fit_left cs q l) (all_named cs (is_loaded k) l && is_sized cs l) h)), tt)
    term-uses (Read p k l) h =
        let fit = and-first (fit_left cs q l) (all_named cs (is_shown k) l && is_sized cs l) h in
        all-both P (inside l) (record { place = p; left = l } ∷ []) (left-uses l fit) (give l fit (and-second (all_named cs (is_shown k) l) (is_sized cs l) (and-second (fit_left cs q l) (all_named cs (is_shown k) l && is_sized cs l) h)), tt)
    term-uses (Convert p k e) h = term-uses e h
    term-uses (Unary p k o e) h = term-uses e (and-second (is_kind (operator_kind o (kind_of e) (kind_of e)) k) (fit_term cs q e) h)
    term-uses (Binary p k o e f) h =
        let more = and-second (is_kind (operator_kind o (kind_of e) (kind_of f)) k) (fit_term cs q e && fit_term cs q f) h in
        all-both P (loads e) (loads f) (term-uses e (and-first (fit_term cs q e) (fit_term cs q f) more)) (term-uses f (and-second (fit_term cs q e) (fit_term cs q f) more))
    term-uses (Choose p k t e f) h =
        let more = and-second (fit_term cs q t) (fit_term cs q e && fit_term cs q f) h in
        all-both P (loads t) (loads e ++ loads f) (term-uses t (and-first (fit_term cs q t) (fit_term cs q e && fit_term cs q f) h))
        (all-both P (loads e) (loads f) (term-uses e (and-first (fit_term cs q e) (fit_term cs q f) more)) (term-uses f (and-second (fit_term cs q e) (fit_term cs q f) more)))
    term-uses (Bit p (Load o k l) i) h =
        let a = and-first (fit_term cs q (Load o k l)) (fit_term cs q i) h in
        let fit = and-first (fit_left cs q l) (all_named cs (is_loaded k) l && is_sized cs l) a in
        all-both P (inside l) (loads i ++ record { place = o; left = l } ∷ []) (left-uses l fit)
        (all-both P (loads i) (record { place = o; left = l } ∷ []) (term-uses i (and-second (fit_term cs q (Load o k l)) (fit_term cs q i) h))
        (give l fit (and-second (all_named cs (is_loaded k) l) (is_sized cs l) (and-second (fit_left cs q l) (all_named cs (is_loaded k) l && is_sized cs l) a)), tt))
    term-uses (Bit p (Literal o k w) i) h = all-both P (loads (Literal o k w)) (loads i) (term-uses (Literal o k w) (and-first (fit_term cs q (Literal o k w)) (fit_term cs q i) h)) (term-uses i (and-second (fit_term cs q (Literal o k w)) (fit_term cs q i) h))
    term-uses (Bit p (Read o k l) i) h = all-both P (loads (Read o k l)) (loads i) (term-uses (Read o k l) (and-first (fit_term cs q (Read o k l)) (fit_term cs q i) h)) (term-uses i (and-second (fit_term cs q (Read o k l)) (fit_term cs q i) h))
    term-uses (Bit p (Convert o k e) i) h = all-both P (loads (Convert o k e)) (loads i) (term-uses (Convert o k e) (and-first (fit_term cs q (Convert o k e)) (fit_term cs q i) h)) (term-uses i (and-second (fit_term cs q (Convert o k e)) (fit_term cs q i) h))
    term-uses (Bit p (Unary o k b e) i) h = all-both P (loads (Unary o k b e)) (loads i) (term-uses (Unary o k b e) (and-first (fit_term cs q (Unary o k b e)) (fit_term cs q i) h)) (term-uses i (and-second (fit_term cs q (Unary o k b e)) (fit_term cs q i) h))
    term-uses (Bit p (Binary o k b e f) i) h = all-both P (loads (Binary o k b e f)) (loads i) (term-uses (Binary o k b e f) (and-first (fit_term cs q (Binary o k b e f)) (fit_term cs q i) h)) (term-uses i (and-second (fit_term cs q (Binary o k b e f)) (fit_term cs q i) h))
    term-uses (Bit p (Choose o k t e f) i) h = all-both P (loads (Choose o k t e f)) (loads i) (term-uses (Choose o k t e f) (and-first (fit_term cs q (Choose o k t e f)) (fit_term cs q i) h)) (term-uses i (and-second (fit_term cs q (Choose o k t e f)) (fit_term cs q i) h))
    term-uses (Bit p (Bit o e j) i) h = all-both P (loads (Bit o e j)) (loads i) (term-uses (Bit o e j) (and-first (fit_term cs q (Bit o e j)) (fit_term cs q i) h)) (term-uses i (and-second (fit_term cs q (Bit o e j)) (fit_term cs q i) h))
    term-uses (Bit p (Range o k e x y) i) h = all-both P (loads (Range o k e x y)) (loads i) (term-uses (Range o k e x y) (and-first (fit_term cs q (Range o k e x y)) (fit_term cs q i) h)) (term-uses i (and-second (fit_term cs q (Range o k e x y)) (fit_term cs q i) h))
    term-uses (Bit p (Join o k e f) i) h = all-both P (loads (Join o k e f)) (loads i) (term-uses (Join o k e f) (and-first (fit_term cs q (Join o k e f)) (fit_term cs q i) h)) (term-uses i (and-second (fit_term cs q (Join o k e f)) (fit_term cs q i) h))
    term-uses (Range p k e hi lo) h = term-uses e (and-second (nat_eq (width_of k) (hi - lo + 1)) (fit_term cs q e) h)
    term-uses (Join p k e f) h =
        let more = and-second (nat_le (bits_of e + width_of (kind_of f)) (width_of k)) (fit_term cs q e && fit_term cs q f) h in
        all-both P (loads e) (loads f) (term-uses e (and-first (fit_term cs q e) (fit_term cs q f) more)) (term-uses f (and-second (fit_term cs q e) (fit_term cs q f) more))

    pub left-uses : (l : Left) → fit_left cs q l ≡ true → AllUses P (inside l)
    left-uses (Cell p n) h = tt
    left-uses (Prefix p name) h = tt
    left-uses (Null p) h = tt
    left-uses (Follow p soft l) h = absurd cc
    left-uses (Member l name) h = left-uses l h
    left-uses (Index l size i) h = all-both P (inside l) (loads i) (left-uses l (and-first (fit_left cs q l) (fit_term cs q i) h)) (term-uses i (and-second (fit_left cs q l) (fit_term cs q i) h))

  pub pick-uses : (k : Pick) → fit_pick cs q k ≡ true → AllUses P (picked k)
  pick-uses Whole h = tt
  pick-uses (OneBit e) h = term-uses e h
  pick-uses (Bits hi lo) h = tt

  pub put-uses : (l : Left) (k : Pick) (e : Term) → fit_left cs q l ≡ true → fit_pick cs q k ≡ true → fit_term cs q e ≡ true → AllUses P (inside l ++ (picked k ++ loads e))
  put-uses l k e a b c = all-both P (inside l) (picked k ++ loads e) (left-uses l a) (all-both P (picked k) (loads e) (pick-uses k b) (term-uses e c))

map-every : (P P' : Left → Pick → Term → Type 0) (T T' : Term → Type 0) → ((l : Left) (k : Pick) (e : Term) → P l k e → P' l k e) → ((t : Term) → T t → T' t) → (c : Code) → Every P T c → Each P' T' c
map-every P P' T T' f g End h = tt
map-every P P' T T' f g (Put p l k e r) h = (f l k e h.0, map-every P P' T T' f g r h.1)
map-every P P' T T' f g (Aim p to t r) h = absurd h
map-every P P' T T' f g (If p t a b r) h = (g t h.0, map-every P P' T T' f g a h.1, map-every P P' T T' f g b h.2, map-every P P' T T' f g r h.3)
map-every P P' T T' f g (Block p b r) h = (map-every P P' T T' f g b h.0, map-every P P' T T' f g r h.1)
map-every P P' T T' f g (Loop p n b r) h = (map-every P P' T T' f g b h.0, map-every P P' T T' f g r h.1)
map-every P P' T T' f g (Exit p n r) h = map-every P P' T T' f g r h
map-every P P' T T' f g (Wait p l n r) h = map-every P P' T T' f g r h

module _ (p : Program) (r : IsResolved p) (q : Process) where
  abbrev cs : Cells
  cs = p.cells

  has-test : (test : Sort → Bool) (n : ℕ) (x : program.Cell) → slice_get cs n ≡ Some x → has_sort test cs n ≡ test x.sort
  has-test test n x g = ap (λ o. unwrap_or (option_map test (option_map (λ c. c.sort) o)) false) g

  -- what a location names is held, and is fixed only where what completes its pattern is
  pub named-held : (l : Left) (c : ℕ) → among c (cells_of cs l) ≡ true → has_sort is_held cs c ≡ true
  named-held l c h =
      let u = cells-in cs l c h in
      let plain = not-false (is_pointer u.2.sort) (and-second (fits u.0 (steps_of u.2.name)) (not (is_pointer u.2.sort)) u.5) in
      let y = rooted p r q u.1 u.2 u.4 plain in
      subst (λ n. has_sort is_held cs n ≡ true) u.6 (has-test is_held (root_of cs u.1) y.cell y.stands ∙ y.held)

  root-unfixed : (s : Sort) → is_root s ≡ true → fixed_word s ≡ None
  root-unfixed program.Input e = refl
  root-unfixed program.Output e = refl
  root-unfixed program.Signal e = refl
  root-unfixed (program.Variable w f) e = absurd cc
  root-unfixed (program.Local i) e = absurd cc
  root-unfixed (program.Pointer t) e = absurd cc
  root-unfixed (program.Port t) e = absurd cc

  pub named-unfixed : (l : Left) (k : Pick) (e : Term) (c : ℕ) (x : program.Cell) → all_named cs (takes k (kind_of e)) l ≡ true → among c (cells_of cs l) ≡ true → slice_get cs c ≡ Some x → fixed_word x.sort ≡ None
  named-unfixed l k e c x named h g = by (is_number u.2.sort) refl
    where
      u : (t : List Step) × (n : ℕ) × (y : program.Cell) × (pattern cs l ≡ Some t) × (slice_get cs n ≡ Some y) × (names_cell false t y ≡ true) × (root_of cs n ≡ c)
      u = cells-in cs l c h

      plain : is_pointer u.2.sort ≡ false
      plain = not-false (is_pointer u.2.sort) (and-second (fits u.0 (steps_of u.2.name)) (not (is_pointer u.2.sort)) u.5)

      y : Rooted p r q u.1 u.2
      y = rooted p r q u.1 u.2 u.4 plain

      same : y.cell ≡ x
      same = some_same (sym y.stands ∙ (ap (slice_get cs) u.6 ∙ g))

      by : (b : Bool) → is_number u.2.sort ≡ b → fixed_word x.sort ≡ None
      by true n =
          let t = named-each cs (cells-apart p r) (takes k (kind_of e)) l u.0 u.1 u.2 named u.3 (and-first (fits u.0 (steps_of u.2.name)) (not (is_pointer u.2.sort)) u.5) u.4 plain in
          subst (λ z. fixed_word z.sort ≡ None) (sym (y.number n) ∙ same) (takes-fixed k (kind_of e) u.2 t)
      by false n = subst (λ z. fixed_word z.sort ≡ None) same (root-unfixed y.cell.sort (y.root n))

  sound-put : (l : Left) (k : Pick) (e : Term) → fit_put cs q l k e ≡ true → SoundPut cs l k e
  sound-put l k e h =
      let u = put-parts cs q (cells-apart p r) l k e h in
      record {
        reads = put-uses cs q (Sized cs) (λ l f s. sized cs (cells-apart p r) l s) l k e u.left u.pick u.term;
        target = sized cs (cells-apart p r) l u.sized;
        held = named-held l;
        unfixed = λ c x m g. named-unfixed l k e c x u.named m g;
        keeps = λ a b f m. assigned-fits p r q a f l k e b u.term u.named m;
      }

  sound-test : (t : Term) → fit_term cs q t ≡ true → SoundTest cs t
  sound-test t h = term-uses cs q (Sized cs) (λ l f s. sized cs (cells-apart p r) l s) t h

  pub live-fits : (i : ℕ) → slice_get p.processes i ≡ Some q → Every (λ l k e. fit_put cs q l k e ≡ true) (λ t. fit_term cs q t ≡ true) (live cs q.body)
  live-fits i g = fit_alive (λ l k e. fit_put cs q l k e ≡ true) (λ t. fit_term cs q t ≡ true) cs q.body (every p r q q.body (code-fit p r i q g))

  pub live-sound : (i : ℕ) → slice_get p.processes i ≡ Some q → Sound cs (live cs q.body)
  live-sound i g = map-every (λ l k e. fit_put cs q l k e ≡ true) (SoundPut cs) (λ t. fit_term cs q t ≡ true) (SoundTest cs) sound-put sound-test (live cs q.body) (live-fits i g)
