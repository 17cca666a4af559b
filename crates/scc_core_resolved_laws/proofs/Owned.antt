-- What the rules and steps ask of a core's cells, from the one test.
use Rattle.std.proofs.Common.{◌≡◌, inl, inr, ◌⊎◌, ℕ, zero, suc, Bool, true, false, not, ◌&&◌, List, [], ◌∷◌, ◌++◌, map, Option, Some, None, refl, sym, ap, subst, ◌∙◌, arith}
use Rattle.std.specs.Prelude.{◌||◌, nat_eq, slice_get, is_some, option_map, unwrap_or}
use Rattle.std.proofs.lemmas.List.Folds.{list_any-append}
use Rattle.scc_base.specs.declared.refusal.Place.{Place}
use Rattle.scc_bits_kinds.specs.declared.kind.Kind.{Kind}
use Rattle.scc_semantics.specs.Location.{Part, Member as member_part, Element}
use Rattle.scc_core_effect_laws.specs.Follows.{IsSoundCore}
use Rattle.scc_core_spec.specs.Term.{Term, Left, Cell, Prefix, Null, Follow, Member, Index, Pick, CellName, Own, kind_of}
use Rattle.scc_core_spec.specs.Code.{Code, End, Put, Aim, If, Block, Loop, Exit, Wait}
use Rattle.scc_core_spec.specs.Program as program
use Rattle.scc_core_spec.specs.Program.{Program, Process, Edge, Reset, Sort, is_root, is_local, is_number, is_pointer}
use Rattle.scc_core_spec.specs.Named.{Step, Named, At, Ours, Open, part_step, own_steps, steps_of, names_cell, fits}
use Rattle.scc_core_spec.specs.Static.{Cells, pattern, static, index_step, fixed_word}
use Rattle.scc_core_spec.specs.Live.{live}
use Rattle.scc_core_spec.specs.Uses.{Use, Act, acts, loads, inside, picked, cells_of, reads_of, writes_of, root_of, has_sort, among}
use Rattle.scc_core_spec.specs.Clashes.{names_of}
use Rattle.scc_core_spec.specs.Kept.{written_by, is_local_of}
use Rattle.scc_core_spec.specs.Constants.{written}
use Rattle.scc_core_spec.specs.Source.{Home}
use Rattle.scc_core_spec.specs.Fit.{is_nil, is_name, is_cell, fit_term, fit_left, fit_put}
use Rattle.scc_core_spec.specs.IsResolved.{IsResolved, has_path, name_is, sort_is, fit_edge, fit_reset}
use Rattle.scc_blocks_spec.specs.Passed.{IsHome, all_named}
use Rattle.scc_core_effect_laws.specs.Sound.{AllUses}
use Rattle.scc_core_effect_laws.proofs.Unsure.{flat-in, is-false}
use Rattle.scc_states_laws.specs.Alike.{IsName}
use Rattle.scc_states_laws.proofs.Values.{some_same, map_is}
use Rattle.scc_core_resolved_laws.specs.Every.{Every}
use Rattle.scc_core_resolved_laws.proofs.Acting.{Rooted, rooted}
use Rattle.scc_core_resolved_laws.proofs.Agreeing.{fits-is, name-closed}
use Rattle.scc_core_resolved_laws.proofs.Apart.{nil-behind, joined-behind, no-ours, two-ours, named-first, locations-apart}
use Rattle.scc_core_resolved_laws.proofs.Bools.{and-first, and-second, not-false, nat_eq-is, nat_eq-self}
use Rattle.scc_core_resolved_laws.proofs.Fitting.{path-is, name-is, put-parts}
use Rattle.scc_core_resolved_laws.proofs.Parts.{processes-apart, cells-apart, cell-fits, has-clock, edge-fits, reset-fits}
use Rattle.scc_core_resolved_laws.proofs.Sounds.{term-uses, put-uses, named-unfixed, live-fits, live-sound}
use Rattle.scc_core_resolved_laws.proofs.Uses.{Split, fits-split, cells-in}
use Rattle.scc_core_resolved_laws.proofs.Writes.{or-cases}

-- ---- what holds of statements holds of what they read and write

module _ (P : Left → Pick → Term → Type 0) (T : Term → Type 0) (Told : Act → Type 0)
    (put : (o : Place) (l : Left) (k : Pick) (e : Term) → P l k e → Told (record { place = o; reads = inside l ++ (picked k ++ loads e); writes = Some (l, k) }))
    (test : (o : Place) (t : Term) → T t → Told (record { place = o; reads = loads t; writes = None })) where
  abbrev AllTold : List Act → Type 0
  AllTold [] = Unit {0}
  AllTold (a ∷ as') = Told a × AllTold as'

  told-both : (xs ys : List Act) → AllTold xs → AllTold ys → AllTold (xs ++ ys)
  told-both [] ys f g = g
  told-both (x ∷ xs) ys f g = (f.0, told-both xs ys f.1 g)

  acts-told : (c : Code) → Every P T c → AllTold (acts c)
  acts-told End h = tt
  acts-told (Put o l k e r) h = (put o l k e h.0, acts-told r h.1)
  acts-told (Aim o to t r) h = absurd h
  acts-told (If o t a b r) h = (test o t h.0, told-both (acts a) (acts b ++ acts r) (acts-told a h.1) (told-both (acts b) (acts r) (acts-told b h.2) (acts-told r h.3)))
  acts-told (Block o b r) h = told-both (acts b) (acts r) (acts-told b h.0) (acts-told r h.1)
  acts-told (Loop o n b r) h = told-both (acts b) (acts r) (acts-told b h.0) (acts-told r h.1)
  acts-told (Exit o n r) h = acts-told r h
  acts-told (Wait o l n r) h = acts-told r h

  at-told : (xs : List Act) (n : ℕ) (a : Act) → AllTold xs → slice_get xs n ≡ Some a → Told a
  at-told [] n a h e = absurd cc
  at-told (x ∷ xs) zero a h e = subst Told (some_same e) h.0
  at-told (x ∷ xs) (suc n) a h e = at-told xs n a h.1 e

  pub act-told : (c : Code) (n : ℕ) (a : Act) → Every P T c → slice_get (acts c) n ≡ Some a → Told a
  act-told c n a h e = at-told (acts c) n a (acts-told c h) e

use-at : (Q : Use → Type 0) (us : List Use) (n : ℕ) (u : Use) → AllUses Q us → slice_get us n ≡ Some u → Q u
use-at Q [] n u h e = absurd cc
use-at Q (x ∷ us) zero u h e = subst Q (some_same e) h.0
use-at Q (x ∷ us) (suc n) u h e = use-at Q us n u h.1 e

-- ---- names of cells of a process

-- a name that completes a location's pattern begins with one of the process
record Begins (q : Process) (s : List Step) : Type 0 where
  name : CellName
  is : is_name q name ≡ true
  parts : List Part
  steps : s ≡ steps_of name ++ map part_step parts

map-last : (xs : List Part) (y : Part) → map part_step (xs ++ y ∷ []) ≡ map part_step xs ++ part_step y ∷ []
map-last [] y = refl
map-last (x ∷ xs) y = ap (λ ys. part_step x ∷ ys) (map-last xs y)

part-at : (y z : Step) → ((n : ℕ) → y ≡ Ours n → ⊥) → fits (y ∷ []) (z ∷ []) ≡ true → (x : Part) × (part_step x ≡ z)
part-at (Named n) (Named m) other e = (member_part m, refl)
part-at (At n) (At m) other e = (Element m, refl)
part-at (Open n) (At m) other e = (Element m, refl)
part-at (Ours n) z other e = absurd (other n refl)
part-at (Named n) (At m) other e = absurd cc
part-at (Named n) (Ours m) other e = absurd cc
part-at (Named n) (Open m) other e = absurd cc
part-at (At n) (Named m) other e = absurd cc
part-at (At n) (Ours m) other e = absurd cc
part-at (At n) (Open m) other e = absurd cc
part-at (Open n) (Named m) other e = absurd cc
part-at (Open n) (Ours m) other e = absurd cc
part-at (Open n) (Open m) other e = absurd cc

grown-begins : (q : Process) (y : Step) (t s : List Step) → ((n : ℕ) → y ≡ Ours n → ⊥) → (u : Split t y s) → Begins q u.front → Begins q s
grown-begins q y t s other u b =
    let x = part-at y u.last other u.fits_last in
    record {
      name = b.name;
      is = b.is;
      parts = b.parts ++ x.0 ∷ [];
      steps = u.is ∙ (ap (λ z. z ++ u.last ∷ []) b.steps ∙ (joined-behind (steps_of b.name) (map part_step b.parts) (u.last ∷ []) ∙ ap (λ z. steps_of b.name ++ z) (ap (λ z. map part_step b.parts ++ z ∷ []) (sym x.1) ∙ sym (map-last b.parts x.0))));
    }

no-own : (size : ℕ) (k : Kind) (o : Option ℕ) (n : ℕ) → index_step size k o ≡ Ours n → ⊥
no-own size k None n e = cc
no-own size k (Some w) n e = cc

base-begins : (q : Process) (name : CellName) (s : List Step) → is_name q name ≡ true → fits (steps_of name) s ≡ true → Begins q s
base-begins q name s h f = record { name = name; is = h; parts = []; steps = sym (fits-is (steps_of name) s (name-closed name) f) ∙ sym (nil-behind (steps_of name)) }

begins-with : (cs : Cells) (q : Process) (l : Left) (t s : List Step) → fit_left cs q l ≡ true → pattern cs l ≡ Some t → fits t s ≡ true → Begins q s
begins-with cs q (Cell p n) t s h e f = by (slice_get cs n) h e
  where
    by : (o : Option program.Cell) → is_cell cs q o ≡ true → option_map (λ c. steps_of c.name) o ≡ Some t → Begins q s
    by None a b = absurd cc
    by (Some c) a b = base-begins q c.name s a (subst (λ z. fits z s ≡ true) (sym (some_same b)) f)
begins-with cs q (Prefix p name) t s h e f = base-begins q name s h (subst (λ z. fits z s ≡ true) (sym (some_same e)) f)
begins-with cs q (Null p) t s h e f = absurd cc
begins-with cs q (Follow p soft l) t s h e f = absurd cc
begins-with cs q (Member l name) t s h e f =
    let m = map_is (pattern cs l) (λ z. z ++ Named name ∷ []) t e in
    let u = fits-split m.0 (Named name) s (subst (λ z. fits z s ≡ true) (sym m.2) f) in
    grown-begins q (Named name) m.0 s (λ n g. cc) u (begins-with cs q l m.0 u.front h m.1 u.fits_front)
begins-with cs q (Index l size i) t s h e f =
    let y = index_step size (kind_of i) (static cs i) in
    let m = map_is (pattern cs l) (λ z. z ++ y ∷ []) t e in
    let u = fits-split m.0 y s (subst (λ z. fits z s ≡ true) (sym m.2) f) in
    grown-begins q y m.0 s (no-own size (kind_of i) (static cs i)) u (begins-with cs q l m.0 u.front (and-first (fit_left cs q l) (fit_term cs q i) h) m.1 u.fits_front)

-- such a name that stands behind a local is one of the process's path
own-path : (q : Process) (n name : CellName) (parts : List Part) (o : Own) → IsName q name → n.own ≡ Some o → steps_of n ≡ steps_of name ++ map part_step parts → n.path ≡ q.name.path
own-path q n name parts o is e s = by name.own refl
  where
    mine : steps_of n ≡ map part_step n.path ++ (Ours o.number ∷ map At n.indices)
    mine = ap (λ z. map part_step n.path ++ own_steps z n.indices) e

    by : (z : Option Own) → name.own ≡ z → n.path ≡ q.name.path
    by None f =
        let whole : map part_step (name.path ++ parts) ≡ map part_step n.path ++ (Ours o.number ∷ map At n.indices) =
        maps name.path ∙ (ap (λ z. z ++ map part_step parts) (sym (nil-behind (map part_step name.path)) ∙ ap (λ z. map part_step name.path ++ own_steps z name.indices) (sym f)) ∙ (sym s ∙ mine)) in
        absurd (no-ours (name.path ++ parts) n.path o.number (map At n.indices) whole)
      where
        maps : (xs : List Part) → map part_step (xs ++ parts) ≡ map part_step xs ++ map part_step parts
        maps [] = refl
        maps (x ∷ xs) = ap (λ ys. part_step x ∷ ys) (maps xs)
    by (Some z) f =
        let theirs : steps_of name ++ map part_step parts ≡ map part_step name.path ++ (Ours z.number ∷ (map At name.indices ++ map part_step parts)) =
        ap (λ w. (map part_step name.path ++ own_steps w name.indices) ++ map part_step parts) f ∙ joined-behind (map part_step name.path) (Ours z.number ∷ map At name.indices) (map part_step parts) in
        (two-ours n.path name.path o.number z.number (map At n.indices) (map At name.indices ++ map part_step parts) (sym mine ∙ (s ∙ theirs))).0 ∙ is.inner z f

module _ (home : Home) (is : IsHome home) (p : Program) (r : IsResolved p) where
  abbrev cs : Cells
  cs = p.cells

  -- a local that a process names is its own
  named-own : (i : ℕ) (q : Process) (l : Left) (c : ℕ) → slice_get p.processes i ≡ Some q → fit_left cs q l ≡ true → has_sort is_local cs c ≡ true → among c (cells_of cs l) ≡ true → has_sort (is_local_of i) cs c ≡ true
  named-own i q l c g fit local h = by (is_number u.2.sort) refl
    where
      u : (t : List Step) × (n : ℕ) × (y : program.Cell) × (pattern cs l ≡ Some t) × (slice_get cs n ≡ Some y) × (names_cell false t y ≡ true) × (root_of cs n ≡ c)
      u = cells-in cs l c h

      plain : is_pointer u.2.sort ≡ false
      plain = not-false (is_pointer u.2.sort) (and-second (fits u.0 (steps_of u.2.name)) (not (is_pointer u.2.sort)) u.5)

      y : Rooted p r q u.1 u.2
      y = rooted p r q u.1 u.2 u.4 plain

      has-test : (test : Sort → Bool) (n : ℕ) (x : program.Cell) → slice_get cs n ≡ Some x → has_sort test cs n ≡ test x.sort
      has-test test n x g = ap (λ o. unwrap_or (option_map test (option_map (λ c. c.sort) o)) false) g

      there : slice_get cs c ≡ Some y.cell
      there = ap (slice_get cs) (sym u.6) ∙ y.stands

      is-local : is_local y.cell.sort ≡ true
      is-local = sym (has-test is_local c y.cell there) ∙ local

      no-root : (s : Sort) → is_local s ≡ true → is_root s ≡ true → ⊥
      no-root (program.Local j) e f = cc
      no-root program.Input e f = cc
      no-root program.Output e f = cc
      no-root program.Signal e f = cc
      no-root (program.Variable w b) e f = cc
      no-root (program.Pointer t) e f = cc
      no-root (program.Port t) e f = cc

      b : Begins q (steps_of u.2.name)
      b = begins-with cs q l u.0 (steps_of u.2.name) fit u.3 (and-first (fits u.0 (steps_of u.2.name)) (not (is_pointer u.2.sort)) u.5)

      fitting : name_is p.processes u.2.sort u.2.name ≡ true
      fitting = and-first (name_is p.processes u.2.sort u.2.name) (sort_is cs u.2.kind u.2.sort) (and-second (not (is_pointer u.2.sort)) (name_is p.processes u.2.sort u.2.name && sort_is cs u.2.kind u.2.sort) (cell-fits p r u.1 u.2 u.4))

      -- the process whose local it is has the name's path
      mine : (s : Sort) → u.2.sort ≡ s → is_local s ≡ true → is_local_of i s ≡ true
      mine (program.Local j) e t = own u.2.name.own refl (subst (λ s. name_is p.processes s u.2.name ≡ true) e fitting)
        where
          at : (o : Option Process) → slice_get p.processes j ≡ o → u.2.name.path ≡ q.name.path → has_path u.2.name.path o ≡ true → nat_eq i j ≡ true
          at None d path t = absurd cc
          at (Some z) d path t =
              let a = named-first p.processes 0 j z u.2.name.path (processes-apart p r) d (path-is u.2.name.path z.name.path t) in
              let c = named-first p.processes 0 i q u.2.name.path (processes-apart p r) g path in
              let same : i ≡ j = omega (arith, a, c) in
              subst (λ k. nat_eq i k ≡ true) same (nat_eq-self i)

          own : (o : Option Own) → u.2.name.own ≡ o → name_is p.processes (program.Local j) (record { path = u.2.name.path; own = o; indices = u.2.name.indices }) ≡ true → nat_eq i j ≡ true
          own None d t = let f = and-second (is_nil u.2.name.indices) false t in absurd cc
          own (Some o) d t = at (slice_get p.processes j) refl (own-path q u.2.name b.name b.parts o (name-is q b.name b.is) d b.steps) t
      mine program.Input e t = absurd cc
      mine program.Output e t = absurd cc
      mine program.Signal e t = absurd cc
      mine (program.Variable w f) e t = absurd cc
      mine (program.Pointer o) e t = absurd cc
      mine (program.Port o) e t = absurd cc

      by : (n : Bool) → is_number u.2.sort ≡ n → has_sort (is_local_of i) cs c ≡ true
      by true n = has-test (is_local_of i) c y.cell there ∙ (ap (λ z. is_local_of i z.sort) (y.number n) ∙ mine u.2.sort refl (subst (λ z. is_local z.sort ≡ true) (y.number n) is-local))
      by false n = absurd (no-root y.cell.sort is-local (y.root n))

  Written : Process → Option (Left × Pick) → Type 0
  Written q None = Unit {0}
  Written q (Some w) = (e : Term) × (fit_put cs q w.0 w.1 e ≡ true)

  record Told (q : Process) (a : Act) : Type 0 where
    reads : AllUses (λ u. fit_left cs q u.left ≡ true) a.reads
    writes : Written q a.writes

  told : (i n : ℕ) (q : Process) (a : Act) → slice_get p.processes i ≡ Some q → slice_get (acts (live cs q.body)) n ≡ Some a → Told q a
  unfolding Written
  told i n q a g e = act-told (λ l k e. fit_put cs q l k e ≡ true) (λ t. fit_term cs q t ≡ true) (Told q)
      (λ o l k e h. let u = put-parts cs q (cells-apart p r) l k e h in record { reads = put-uses cs q (λ l. fit_left cs q l ≡ true) (λ l f s. f) l k e u.left u.pick u.term; writes = (e, h) })
      (λ o t h. record { reads = term-uses cs q (λ l. fit_left cs q l ≡ true) (λ l f s. f) t h; writes = tt })
      (live cs q.body) n a (live-fits p r q i g) e

  -- what a statement writes is a place that it fits
  written-put : (q : Process) (c : ℕ) (o : Option (Left × Pick)) → Written q o → among c (unwrap_or (option_map (λ w. cells_of cs w.0) o) []) ≡ true → (l : Left) × (k : Pick) × (e : Term) × (fit_put cs q l k e ≡ true) × (among c (cells_of cs l) ≡ true)
  unfolding Written
  written-put q c None w h = absurd cc
  written-put q c (Some x) w h = (x.0, x.1, w.0, w.1, h)

  own-local : (i c : ℕ) (q : Process) → slice_get p.processes i ≡ Some q → has_sort is_local cs c ≡ true → among c (all_named cs q) ≡ true → has_sort (is_local_of i) cs c ≡ true
  own-local i c q g local h =
      let m = flat-in (names_of cs) c (acts (live cs q.body)) h in
      let t = told i m.0 q m.1 g m.2 in
      by m.1 t (or-cases (among c (reads_of cs m.1)) (among c (writes_of cs m.1)) (sym (list_any-append (nat_eq c) (reads_of cs m.1) (writes_of cs m.1)) ∙ m.3))
    where
      by : (a : Act) → Told q a → (among c (reads_of cs a) ≡ true) ⊎ (among c (writes_of cs a) ≡ true) → has_sort (is_local_of i) cs c ≡ true
      by a t (inl e) = let u = flat-in (λ u. cells_of cs u.left) c a.reads e in named-own i q u.1.left c g (use-at (λ u. fit_left cs q u.left ≡ true) a.reads u.0 u.1 t.reads u.2) local u.3
      by a t (inr e) = let w = written-put q c a.writes t.writes e in named-own i q w.0 c g (put-parts cs q (cells-apart p r) w.0 w.1 w.2 w.3).left local w.4

  fixed-unwritten : (c : ℕ) (x : program.Cell) (w : ℕ) → slice_get cs c ≡ Some x → fixed_word x.sort ≡ Some w → among c (written p) ≡ false
  fixed-unwritten c x w g f = is-false (among c (written p)) (λ h. by (flat-in (written_by cs) c p.processes h))
    where
      clash : {A : Type 0} → None ≡ Some w → A
      clash e = absurd cc

      by : (j : ℕ) × (q : Process) × (slice_get p.processes j ≡ Some q) × (among c (written_by cs q) ≡ true) → ⊥
      by m =
          let a = flat-in (writes_of cs) c (acts (live cs m.1.body)) m.3 in
          let t = told m.0 a.0 m.1 a.1 m.2 a.2 in
          let u = written-put m.1 c a.1.writes t.writes a.3 in
          clash (sym (named-unfixed p r m.1 u.0 u.1 u.2 c x (put-parts cs m.1 (cells-apart p r) u.0 u.1 u.2 u.3).named u.4 g) ∙ f)

  edge-root : (i : ℕ) (q : Process) (e : Edge) → slice_get p.processes i ≡ Some q → q.edge ≡ Some e → has_sort is_root cs e.cell ≡ true
  edge-root i q e g d = subst (λ o. fit_edge cs o ≡ true) d (edge-fits p r i q g)

  reset-root : (i : ℕ) (q : Process) (e : Reset) → slice_get p.processes i ≡ Some q → q.reset ≡ Some e → has_sort is_root cs e.cell ≡ true
  reset-root i q e g d = and-second q.is_thread (has_sort is_root cs e.cell) (subst (λ o. fit_reset cs q.is_thread o ≡ true) d (reset-fits p r i q g))

  -- a method has no reset
  pub no-reset : (i : ℕ) (q : Process) → slice_get p.processes i ≡ Some q → q.is_thread ≡ false → q.reset ≡ None
  no-reset i q g t = by q.reset refl
    where
      by : (o : Option Reset) → q.reset ≡ o → q.reset ≡ None
      by None d = d
      by (Some e) d = let h = and-first q.is_thread (has_sort is_root cs e.cell) (subst (λ o. fit_reset cs q.is_thread o ≡ true) d (reset-fits p r i q g)) in absurd cc

  clocked : (i : ℕ) (q : Process) → slice_get p.processes i ≡ Some q → q.is_thread ≡ true → is_some q.edge ≡ true
  clocked i q g t = by q.is_thread (is_some q.edge) (has-clock p r i q g) t
    where
      by : (a b : Bool) → (not a || b) ≡ true → a ≡ true → b ≡ true
      by true b h e = h
      by false b h e = absurd cc

  pub sound-core : IsSoundCore home p
  sound-core = record {
    apart = λ c d x y f g a b e. nat_eq-is c d (sym (locations-apart home is p r c d x y f g) ∙ e);
    sound = λ i q g. live-sound p r q i g;
    edges = clocked;
    edge_roots = edge-root;
    reset_roots = reset-root;
    own_locals = λ i c q g l h. own-local i c q g l h;
    fixed = fixed-unwritten;
  }
