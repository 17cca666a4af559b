-- Cells whose names differ are found by their locations as by their names.
use Rattle.std.proofs.Common.{◌≡◌, ◌⊎◌, inl, inr, ℕ, zero, suc, ◌+◌, Bool, true, false, not, ◌&&◌, List, [], ◌∷◌, ◌++◌, map, Option, Some, None, option_and_then, slice_get, refl, sym, ap, subst, ◌∙◌, arith, if◌then◌else◌}
use Rattle.std.specs.Prelude.{find}
use Rattle.scc_semantics.specs.Location.{Location, Part, Root, Top, Element, within, same}
use Rattle.scc_semantics.specs.Location as location
use Rattle.scc_semantics.specs.Same.{is_own}
use Rattle.scc_semantics_laws.proofs.Places.{same-is, same-self}
use Rattle.scc_core_spec.specs.Term.{CellName, Own}
use Rattle.scc_core_spec.specs.Program.{Program, Process, Port, is_pointer, is_root}
use Rattle.scc_core_spec.specs.Program as program
use Rattle.scc_core_spec.specs.Static.{Cells}
use Rattle.scc_core_spec.specs.Named.{Step, Ours, part_step, own_steps, steps_of, path_steps, fits, names_cell, is_open, cell_at}
use Rattle.scc_core_spec.specs.Source.{Home, at_top, location_of, location_in, cell_location, process_named}
use Rattle.scc_blocks_spec.specs.Passed.{IsHome}
use Rattle.scc_core_unroll_laws.specs.Named.{IsNamed}
use Rattle.scc_core_unroll_laws.proofs.Counters.{some-is}
use Rattle.scc_core_pass_laws.specs.Pointing.{Names, base, member, element, Apart}
use Rattle.scc_core_resolved_laws.proofs.Agreeing.{fits-is, fits-self, name-closed, path-closed, closed-append}
use Rattle.scc_core_resolved_laws.proofs.Apart.{nil-behind, joined-behind, map-append, indices-are, steps-is, no-ours, two-ours, both-or-none, find-same}
use Rattle.scc_core_resolved_laws.proofs.Bools.{and-first, and-second, and-both}
use Rattle.scc_core_resolvable_laws.specs.Told.{IsTold}

abbrev sorted : Bool → program.Cell → Bool
sorted b c = if b then is_pointer c.sort else not (is_pointer c.sort)

sorted-is : (b : Bool) (c : program.Cell) → sorted b c ≡ true → is_pointer c.sort ≡ b
sorted-is true c e = e
sorted-is false c e = by (is_pointer c.sort) e
  where
    by : (a : Bool) → not a ≡ true → a ≡ false
    by true e = absurd cc
    by false e = refl

is-sorted : (b : Bool) (c : program.Cell) → is_pointer c.sort ≡ b → sorted b c ≡ true
is-sorted true c e = e
is-sorted false c e = ap not e

pub root-plain : (s : program.Sort) → is_root s ≡ true → is_pointer s ≡ false
root-plain (program.Pointer t) e = absurd cc
root-plain program.Input e = refl
root-plain program.Output e = refl
root-plain program.Signal e = refl
root-plain (program.Variable w f) e = refl
root-plain (program.Local j) e = refl
root-plain (Port root) e = refl

-- the cell of a name is the first one that is found
abbrev Found : Bool → List Step → ℕ → Cells → Type 0
Found b s n cs = ((find (names_cell b s) cs ≡ None) × (cell_at b n s cs ≡ None))
    ⊎ ((k : ℕ) × (x : program.Cell) × (find (names_cell b s) cs ≡ Some x) × (cell_at b n s cs ≡ Some (n + k)) × (slice_get cs k ≡ Some x) × (names_cell b s x ≡ true))

found-from : (b : Bool) (s : List Step) (n : ℕ) (cs : Cells) → Found b s n cs
found-from b s n [] = inl (refl, refl)
found-from b s n (c ∷ cs) = by (names_cell b s c) refl (found-from b s (n + 1) cs)
  where
    by : (t : Bool) → names_cell b s c ≡ t → Found b s (n + 1) cs
        → (((if t then Some c else find (names_cell b s) cs) ≡ None) × ((if t then Some n else cell_at b (n + 1) s cs) ≡ None))
        ⊎ ((k : ℕ) × (x : program.Cell) × ((if t then Some c else find (names_cell b s) cs) ≡ Some x) × ((if t then Some n else cell_at b (n + 1) s cs) ≡ Some (n + k)) × (slice_get (c ∷ cs) k ≡ Some x) × (names_cell b s x ≡ true))
    by true e ih = let z : n ≡ n + 0 = omega arith in inr (0, c, refl, ap Some z, refl, e)
    by false e (inl ih) = inl ih
    by false e (inr ih) = let z : n + 1 + ih.0 ≡ n + suc ih.0 = omega arith in inr (suc ih.0, ih.1, ih.2, ih.3 ∙ ap Some z, ih.4, ih.5)

pub find-at : (b : Bool) (s : List Step) (cs : Cells) → find (names_cell b s) cs ≡ option_and_then (slice_get cs) (cell_at b 0 s cs)
find-at b s cs = by (found-from b s 0 cs)
  where
    by : Found b s 0 cs → find (names_cell b s) cs ≡ option_and_then (slice_get cs) (cell_at b 0 s cs)
    by (inl x) = x.0 ∙ sym (ap (option_and_then (slice_get cs)) x.1)
    by (inr x) = let z : 0 + x.0 ≡ x.0 = omega arith in x.2 ∙ sym (ap (option_and_then (slice_get cs)) (x.3 ∙ ap Some z) ∙ x.4)

-- one of the name is found where there is one
some-at : (b : Bool) (s : List Step) (cs : Cells) (n : ℕ) (x : program.Cell) → slice_get cs n ≡ Some x → names_cell b s x ≡ true
    → (k : ℕ) × (y : program.Cell) × (cell_at b 0 s cs ≡ Some k) × (slice_get cs k ≡ Some y) × (names_cell b s y ≡ true)
some-at b s cs n x g t = by (found-from b s 0 cs)
  where
    there : (cs : Cells) (n : ℕ) → slice_get cs n ≡ Some x → find (names_cell b s) cs ≡ None → ⊥
    there [] n g e = absurd cc
    there (c ∷ cs) zero g e = let z : c ≡ x = some-is g in let w : names_cell b s c ≡ true = ap (names_cell b s) z ∙ t in go (names_cell b s c) w e
      where
        go : (a : Bool) → a ≡ true → (if a then Some c else find (names_cell b s) cs) ≡ None → ⊥
        go true w e = cc
        go false w e = cc
    there (c ∷ cs) (suc n) g e = go (names_cell b s c) e (λ e. there cs n g e)
      where
        go : (a : Bool) → (if a then Some c else find (names_cell b s) cs) ≡ None → (find (names_cell b s) cs ≡ None → ⊥) → ⊥
        go true e h = cc
        go false e h = h e

    by : Found b s 0 cs → (k : ℕ) × (y : program.Cell) × (cell_at b 0 s cs ≡ Some k) × (slice_get cs k ≡ Some y) × (names_cell b s y ≡ true)
    by (inl y) = absurd (there cs n g y.0)
    by (inr y) = let z : 0 + y.0 ≡ y.0 = omega arith in (y.0, y.1, y.3 ∙ ap Some z, y.4, y.5)

-- the one cell of its name and sort
module _ (p : Program) (told : IsTold p) where
  pub one-at : (b : Bool) (s : List Step) (n : ℕ) (x : program.Cell) → slice_get p.cells n ≡ Some x → is_pointer x.sort ≡ b → is_open s ≡ false → steps_of x.name ≡ s → cell_at b 0 s p.cells ≡ Some n
  one-at b s n x g h c e =
      let t : fits s (steps_of x.name) ≡ true = ap (fits s) e ∙ fits-self s c in
      let u = some-at b s p.cells n x g (and-both (fits s (steps_of x.name)) (sorted b x) t (is-sorted b x h)) in
      let f : s ≡ steps_of u.1.name = fits-is s (steps_of u.1.name) c (and-first (fits s (steps_of u.1.name)) (sorted b u.1) u.4) in
      let k : is_pointer u.1.sort ≡ b = sorted-is b u.1 (and-second (fits s (steps_of u.1.name)) (sorted b u.1) u.4) in
      u.2 ∙ ap Some (told.names u.0 n u.1 x u.3 g (k ∙ sym h) (sym f ∙ sym e))

-- where names stand: behind the top, or behind a local of a process of that path
data Spot : Type 0 where
  AtTop : (path : List Part) → Spot
  InOwn : (process number : ℕ) (path parts : List Part) → Spot

module _ (home : Home) (is : IsHome home) (p : Program) (named : IsNamed p) (told : IsTold p) where
  abbrev place : Spot → Location
  place (AtTop path) = at_top path
  place (InOwn j n path parts) = record { root = home j n; path = parts }

  abbrev steps : Spot → List Step
  steps (AtTop path) = map part_step path
  steps (InOwn j n path parts) = map part_step path ++ (Ours n ∷ map part_step parts)

  abbrev IsSpot : Spot → Type 0
  IsSpot (AtTop path) = Unit {0}
  IsSpot (InOwn j n path parts) = (q : Process) × (slice_get p.processes j ≡ Some q) × (path ≡ q.name.path)

  not-top : (j n : ℕ) → home j n ≡ Top → ⊥
  not-top j n e = let o = is.own j n in let f : is_own j Top ≡ true = subst (λ z. is_own j z ≡ true) e o in cc

  by-place : (a b : Spot) → IsSpot a → IsSpot b → place a ≡ place b → a ≡ b
  by-place (AtTop s) (AtTop t) u v e = ap AtTop (ap (λ l. l.path) e)
  by-place (AtTop s) (InOwn j n t ts) u v e = absurd (not-top j n (sym (ap (λ l. l.root) e)))
  by-place (InOwn j n t ts) (AtTop s) u v e = absurd (not-top j n (ap (λ l. l.root) e))
  by-place (InOwn j n s ss) (InOwn k m t ts) u v e =
      let i = is.injective j k n m (ap (λ l. l.root) e) in
      let q : u.0 ≡ v.0 = some-is (sym u.1 ∙ (ap (slice_get p.processes) i.0 ∙ v.1)) in
      let path : s ≡ t = u.2 ∙ (ap (λ z. z.name.path) q ∙ sym v.2) in
      λ z. InOwn (i.0 z) (i.1 z) (path z) ((e z).path)

  by-steps : (a b : Spot) → IsSpot a → IsSpot b → steps a ≡ steps b → a ≡ b
  by-steps (AtTop s) (AtTop t) u v e = ap AtTop (steps-is s t e)
  by-steps (AtTop s) (InOwn j n t ts) u v e = absurd (no-ours s t n (map part_step ts) e)
  by-steps (InOwn j n t ts) (AtTop s) u v e = absurd (no-ours s t n (map part_step ts) (sym e))
  by-steps (InOwn j n s ss) (InOwn k m t ts) u v e =
      let w = two-ours s t n m (map part_step ss) (map part_step ts) e in
      let a : process_named 0 s p.processes ≡ j = ap (λ z. process_named 0 z p.processes) u.2 ∙ named.processes j u.0 u.1 in
      let b : process_named 0 t p.processes ≡ k = ap (λ z. process_named 0 z p.processes) v.2 ∙ named.processes k v.0 v.1 in
      let jk : j ≡ k = sym a ∙ (ap (λ z. process_named 0 z p.processes) w.0 ∙ b) in
      λ z. InOwn (jk z) (w.1 z) (w.0 z) (steps-is ss ts w.2 z)

  spot-closed : (a : Spot) → is_open (steps a) ≡ false
  spot-closed (AtTop path) = path-closed path
  spot-closed (InOwn j n path parts) = closed-append (map part_step path) (Ours n ∷ map part_step parts) (path-closed path) (path-closed parts)

  record Stood (l : Location) (s : List Step) : Type 0 where
    spot : Spot
    is_spot : IsSpot spot
    is_place : place spot ≡ l
    is_steps : steps spot ≡ s

  -- where a name of process j stands
  name-stands : (j : ℕ) (n : CellName) → ((o : Own) → n.own ≡ Some o → (q : Process) × (slice_get p.processes j ≡ Some q) × (n.path ≡ q.name.path)) → Stood (location_of home j n) (steps_of n)
  name-stands j n own = by n.own refl
    where
      by : (o : Option Own) → n.own ≡ o → Stood (location_of home j n) (steps_of n)
      by None e = record {
        spot = AtTop n.path;
        is_spot = tt;
        is_place = ap (λ o. location_in home j o n) (sym e);
        is_steps = sym (nil-behind (map part_step n.path)) ∙ ap (λ o. map part_step n.path ++ own_steps o n.indices) (sym e);
      }
      by (Some o) e = record {
        spot = InOwn j o.number n.path (map Element n.indices);
        is_spot = own o e;
        is_place = ap (λ o. location_in home j o n) (sym e);
        is_steps = ap (λ z. map part_step n.path ++ (Ours o.number ∷ z)) (indices-are n.indices) ∙ ap (λ o. map part_step n.path ++ own_steps o n.indices) (sym e);
      }

  -- where a cell stands
  cell-stands : (n : ℕ) (x : program.Cell) → slice_get p.cells n ≡ Some x → Stood (cell_location home p x) (steps_of x.name)
  cell-stands n x g = name-stands (process_named 0 x.name.path p.processes) x.name (λ o e.
      let u = told.locals n x o g e in
      let j : process_named 0 x.name.path p.processes ≡ u.0 = ap (λ z. process_named 0 z p.processes) u.3 ∙ named.processes u.0 u.1 u.2 in
      (u.1, ap (slice_get p.processes) j ∙ u.2, u.3))

  alike-place : {l m : Location} {s t : List Step} → Stood l s → Stood m t → l ≡ m → s ≡ t
  alike-place u v e = let z = by-place u.spot v.spot u.is_spot v.is_spot (u.is_place ∙ (e ∙ sym v.is_place)) in sym u.is_steps ∙ (ap steps z ∙ v.is_steps)

  alike-steps : {l m : Location} {s t : List Step} → Stood l s → Stood m t → s ≡ t → l ≡ m
  alike-steps u v e = let z = by-steps u.spot v.spot u.is_spot v.is_spot (u.is_steps ∙ (e ∙ sym v.is_steps)) in sym u.is_place ∙ (ap place z ∙ v.is_place)

  module _ (i : ℕ) (q : Process) (at : slice_get p.processes i ≡ Some q) where
    grows : (part : Part) (l : Location) (s : List Step) → Stood l s → Stood (within l part) (s ++ part_step part ∷ [])
    grows part l s u = by u.spot u.is_spot u.is_place u.is_steps
      where
        by : (z : Spot) → IsSpot z → place z ≡ l → steps z ≡ s → Stood (within l part) (s ++ part_step part ∷ [])
        by (AtTop path) a b c = record {
          spot = AtTop (path ++ part ∷ []);
          is_spot = tt;
          is_place = ap (λ l. within l part) b;
          is_steps = map-append path part ∙ ap (λ s. s ++ part_step part ∷ []) c;
        }
        by (InOwn j n path parts) a b c = record {
          spot = InOwn j n path (parts ++ part ∷ []);
          is_spot = a;
          is_place = ap (λ l. within l part) b;
          is_steps = ap (λ z. map part_step path ++ (Ours n ∷ z)) (map-append parts part) ∙ (sym (joined-behind (map part_step path) (Ours n ∷ map part_step parts) (part_step part ∷ [])) ∙ ap (λ s. s ++ part_step part ∷ []) c);
        }

    stands-at : {l : Location} {s : List Step} → Names home i q l s → Stood l s
    stands-at (base n t) = name-stands i n (λ o e. (q, at, t o e))
    stands-at (member {l = l} {s = s} name u) = grows (location.Member name) l s (stands-at u)
    stands-at (element {l = l} {s = s} k u) = grows (Element k) l s (stands-at u)

    found-so : (b : Bool) (l : Location) (s : List Step) → Stood l s → (k : ℕ) (x : program.Cell) → slice_get p.cells k ≡ Some x → (same (cell_location home p x) l && sorted b x) ≡ names_cell b s x
    found-so b l s v k x g =
        let u = cell-stands k x g in
        let closed : is_open s ≡ false = subst (λ s. is_open s ≡ false) v.is_steps (spot-closed v.spot) in
        ap (λ z. z && sorted b x) (both-or-none (same (cell_location home p x) l) (fits s (steps_of x.name))
        (λ h. subst (λ t. fits t (steps_of x.name) ≡ true) (alike-place u v (same-is (cell_location home p x) l h)) (fits-self (steps_of x.name) (name-closed x.name)))
        (λ h. subst (λ m. same (cell_location home p x) m ≡ true) (alike-steps u v (sym (fits-is s (steps_of x.name) closed h))) (same-self (cell_location home p x))))

    pub is-apart : Apart home p i q
    is-apart = record {
      found = λ b l s names. find-same (λ c. same (cell_location home p c) l && sorted b c) (names_cell b s) p.cells (found-so b l s (stands-at names)) ∙ find-at b s p.cells;
      whole = λ b n x g h. one-at p told b (steps_of x.name) n x g h (name-closed x.name) refl;
      pointers = λ n m x y gx gy px py e. told.names n m x y gx gy (px ∙ sym py) (alike-place (cell-stands n x gx) (cell-stands m y gy) e);
      ports = λ n x path g e. let u = told.ports n x path g e in
          (u.0, u.1, one-at p told false (path_steps path) u.0 u.1 u.2 (root-plain u.1.sort u.4) (path-closed path) u.3, u.2, u.4);
    }
