-- Cells are found by their locations as by their names.
use Rattle.std.proofs.Common.{◌≡◌, ℕ, zero, suc, ◌+◌, Bool, true, false, not, ◌&&◌, nat_eq, List, [], ◌∷◌, ◌++◌, map, Option, Some, None, refl, sym, ap, subst, ◌∙◌, arith}
use Rattle.std.specs.Prelude.{slice_get, find, if◌then◌else◌}
use Rattle.std.specs.List.{list_all}
use Rattle.scc_semantics.specs.Location.{Location, Part, Root, Top, Element, within, same, same_path, same_root}
use Rattle.scc_semantics.specs.Location as location
use Rattle.scc_semantics.specs.Same.{is_own}
use Rattle.scc_semantics_laws.proofs.Places.{same-is, same-self}
use Rattle.scc_core_spec.specs.Term.{CellName, Own}
use Rattle.scc_core_spec.specs.Program.{Program, Process, Sort, Input, Output, Variable, Local, Pointer, Port, is_pointer, is_root}
use Rattle.scc_core_spec.specs.Program as program
use Rattle.scc_core_spec.specs.Named.{Step, Named, At, Ours, part_step, own_steps, steps_of, fits, names_cell, is_open}
use Rattle.scc_core_spec.specs.Source.{Home, at_top, location_of, location_in, cell_location, process_named}
use Rattle.scc_blocks_spec.specs.Passed.{IsHome}
use Rattle.scc_states_laws.specs.Alike.{IsName, Names, base, member, element, TellsApart}
use Rattle.scc_states_laws.proofs.Statics.{find_cell}
use Rattle.scc_states_laws.proofs.Values.{some_same}
use Rattle.scc_core_spec.specs.IsResolved.{IsResolved, processes_apart, has_path, own_is, name_is, sort_is}
use Rattle.scc_core_resolved_laws.proofs.Bools.{and-first, and-second, not-false, nat_eq-is, nat_eq-self, all-at}
use Rattle.scc_core_resolved_laws.proofs.Agreeing.{fits-is, fits-self, name-closed, path-closed, closed-append}
use Rattle.scc_core_resolved_laws.proofs.Cells.{one-cell}
use Rattle.scc_core_resolved_laws.proofs.Fitting.{path-is}
use Rattle.scc_core_resolved_laws.proofs.Parts.{processes-apart, cells-apart, cell-fits}
use Rattle.scc_core_resolved_laws.proofs.Valued.{root-of}

pub nil-behind : {A : Type 0} (xs : List A) → xs ++ [] ≡ xs
nil-behind [] = refl
nil-behind (x ∷ xs) = ap (λ ys. x ∷ ys) (nil-behind xs)

pub joined-behind : {A : Type 0} (xs ys zs : List A) → (xs ++ ys) ++ zs ≡ xs ++ (ys ++ zs)
joined-behind [] ys zs = refl
joined-behind (x ∷ xs) ys zs = ap (λ l. x ∷ l) (joined-behind xs ys zs)

pub map-append : (xs : List Part) (y : Part) → map part_step (xs ++ y ∷ []) ≡ map part_step xs ++ part_step y ∷ []
map-append [] y = refl
map-append (x ∷ xs) y = ap (λ ys. part_step x ∷ ys) (map-append xs y)

pub indices-are : (ns : List ℕ) → map part_step (map Element ns) ≡ map At ns
indices-are [] = refl
indices-are (n ∷ ns) = ap (λ ys. At n ∷ ys) (indices-are ns)

tail-is : {A : Type 0} (x y : A) (xs ys : List A) → x ∷ xs ≡ y ∷ ys → (x ≡ y) × (xs ≡ ys)
tail-is x y xs ys e = (cc, cc)

part-is : (a b : Part) → part_step a ≡ part_step b → a ≡ b
part-is (location.Member n) (location.Member m) e = ap location.Member (ap named e)
  where
    named : Step → ℕ
    named (Named n) = n
    named _ = 0
part-is (Element n) (Element m) e = ap Element (ap indexed e)
  where
    indexed : Step → ℕ
    indexed (At n) = n
    indexed _ = 0
part-is (location.Member n) (Element m) e = absurd cc
part-is (Element n) (location.Member m) e = absurd cc

pub steps-is : (a b : List Part) → map part_step a ≡ map part_step b → a ≡ b
steps-is [] [] e = refl
steps-is (x ∷ a) (y ∷ b) e =
    let t = tail-is (part_step x) (part_step y) (map part_step a) (map part_step b) e in
    λ i. part-is x y t.0 i ∷ steps-is a b t.1 i
steps-is [] (y ∷ b) e = absurd cc
steps-is (x ∷ a) [] e = absurd cc

not-ours : (x : Part) (n : ℕ) → part_step x ≡ Ours n → ⊥
not-ours (location.Member m) n e = cc
not-ours (Element m) n e = cc

pub no-ours : (a b : List Part) (n : ℕ) (xs : List Step) → map part_step a ≡ map part_step b ++ (Ours n ∷ xs) → ⊥
no-ours [] [] n xs e = cc
no-ours [] (y ∷ b) n xs e = cc
no-ours (x ∷ a) [] n xs e = not-ours x n (tail-is (part_step x) (Ours n) (map part_step a) xs e).0
no-ours (x ∷ a) (y ∷ b) n xs e = no-ours a b n xs (tail-is (part_step x) (part_step y) (map part_step a) (map part_step b ++ (Ours n ∷ xs)) e).1

ours-is : (n m : ℕ) → Ours n ≡ Ours m → n ≡ m
ours-is n m e = cc

pub two-ours : (a b : List Part) (n m : ℕ) (xs ys : List Step) → map part_step a ++ (Ours n ∷ xs) ≡ map part_step b ++ (Ours m ∷ ys) → (a ≡ b) × (n ≡ m) × (xs ≡ ys)
two-ours [] [] n m xs ys e = let t = tail-is (Ours n) (Ours m) xs ys e in (refl, ours-is n m t.0, t.1)
two-ours [] (y ∷ b) n m xs ys e = absurd (not-ours y n (sym (tail-is (Ours n) (part_step y) xs (map part_step b ++ (Ours m ∷ ys)) e).0))
two-ours (x ∷ a) [] n m xs ys e = absurd (not-ours x m (tail-is (part_step x) (Ours m) (map part_step a ++ (Ours n ∷ xs)) ys e).0)
two-ours (x ∷ a) (y ∷ b) n m xs ys e =
    let t = tail-is (part_step x) (part_step y) (map part_step a ++ (Ours n ∷ xs)) (map part_step b ++ (Ours m ∷ ys)) e in
    let u = two-ours a b n m xs ys t.1 in
    (λ i. part-is x y t.0 i ∷ u.0 i, u.1, u.2)

path-self : (a : List Part) → same_path a a ≡ true
path-self a = same-self (record { root = Top; path = a })

-- a process is found by its path
pub named-first : (ps : List Process) (m k : ℕ) (q : Process) (path : List Part) → processes_apart ps ≡ true → slice_get ps k ≡ Some q → path ≡ q.name.path → process_named m path ps ≡ m + k
named-first [] m k q path h g e = absurd cc
named-first (x ∷ ps) m zero q path h g e =
    by (same_path path x.name.path) (subst (λ z. same_path path z ≡ true) (e ∙ ap (λ z. z.name.path) (sym (some_same g))) (path-self path))
  where
    by : (b : Bool) → b ≡ true → (if b then m else process_named (suc m) path ps) ≡ m + zero
    by true t = omega arith
    by false t = absurd cc
named-first (x ∷ ps) m (suc k) q path h g e =
    let ih = named-first ps (suc m) k q path (and-second (list_all (λ r. not (same_path x.name.path r.name.path)) ps) (processes_apart ps) h) g e in
    let differ = not-false (same_path x.name.path q.name.path) (all-at (λ r. not (same_path x.name.path r.name.path)) ps k q (and-first (list_all (λ r. not (same_path x.name.path r.name.path)) ps) (processes_apart ps) h) g) in
    let n : suc m + k ≡ m + suc k = omega arith in
    by (same_path path x.name.path) refl differ (ih ∙ n)
  where
    by : (b : Bool) → same_path path x.name.path ≡ b → same_path x.name.path q.name.path ≡ false → process_named (suc m) path ps ≡ m + suc k → (if b then m else process_named (suc m) path ps) ≡ m + suc k
    by false t d i = i
    by true t d i =
        let s : x.name.path ≡ q.name.path = sym (path-is path x.name.path t) ∙ e in
        let u : same_path x.name.path q.name.path ≡ true = subst (λ z. same_path x.name.path z ≡ true) s (path-self x.name.path) in
        absurd cc

pub both-or-none : (a b : Bool) → (a ≡ true → b ≡ true) → (b ≡ true → a ≡ true) → a ≡ b
both-or-none true b f g = sym (f refl)
both-or-none false true f g = g refl
both-or-none false false f g = refl

and-false : (a b c : Bool) → c ≡ false → (a && c) ≡ (b && c)
and-false true true c e = refl
and-false true false c e = e
and-false false true c e = sym e
and-false false false c e = refl

-- what is found by tests that agree is the same
pub find-same : {A : Type 0} (f g : A → Bool) (xs : List A) → ((k : ℕ) (x : A) → slice_get xs k ≡ Some x → f x ≡ g x) → find f xs ≡ find g xs
find-same f g [] h = refl
find-same f g (x ∷ xs) h = by (f x) (g x) (h 0 x refl) (find-same f g xs (λ k y e. h (suc k) y e))
  where
    by : (a b : Bool) → a ≡ b → find f xs ≡ find g xs → (if a then Some x else find f xs) ≡ (if b then Some x else find g xs)
    by true true e i = refl
    by false false e i = i
    by true false e i = absurd cc
    by false true e i = absurd cc

pub find-is : {A : Type 0} (f : A → Bool) (xs : List A) (x : A) → find f xs ≡ Some x → (k : ℕ) × (slice_get xs k ≡ Some x) × (f x ≡ true)
find-is f [] x e = absurd cc
find-is f (y ∷ ys) x e = by (f y) refl e (find-is f ys x)
  where
    by : (b : Bool) → f y ≡ b → (if b then Some y else find f ys) ≡ Some x → (find f ys ≡ Some x → (k : ℕ) × (slice_get ys k ≡ Some x) × (f x ≡ true)) → (k : ℕ) × (slice_get (y ∷ ys) k ≡ Some x) × (f x ≡ true)
    by true t d i = let s = some_same d in (0, ap Some s, subst (λ z. f z ≡ true) s t)
    by false t d i = let u = i d in (suc u.0, u.1, u.2)

-- where names stand: behind the top, or behind a local of a process of that path
data Spot : Type 0 where
  AtTop : (path : List Part) → Spot
  InOwn : (process number : ℕ) (path parts : List Part) → Spot

module _ (home : Home) (is : IsHome home) (p : Program) (r : IsResolved p) where
  place : Spot → Location
  place (AtTop path) = at_top path
  place (InOwn j n path parts) = record { root = home j n; path = parts }

  steps : Spot → List Step
  steps (AtTop path) = map part_step path
  steps (InOwn j n path parts) = map part_step path ++ (Ours n ∷ map part_step parts)

  IsSpot : Spot → Type 0
  IsSpot (AtTop path) = Unit {0}
  IsSpot (InOwn j n path parts) = (q : Process) × (slice_get p.processes j ≡ Some q) × (path ≡ q.name.path)

  not-top : (j n : ℕ) → home j n ≡ Top → ⊥
  not-top j n e = let o = is.own j n in let f : is_own j Top ≡ true = subst (λ z. is_own j z ≡ true) e o in cc

  by-place : (a b : Spot) → IsSpot a → IsSpot b → same (place a) (place b) ≡ true → a ≡ b
  unfolding place IsSpot
  by-place (AtTop s) (AtTop t) u v e = ap AtTop (ap (λ l. l.path) (same-is (at_top s) (at_top t) e))
  by-place (AtTop s) (InOwn j n t ts) u v e = absurd (not-top j n (sym (ap (λ l. l.root) (same-is (at_top s) (record { root = home j n; path = ts }) e))))
  by-place (InOwn j n t ts) (AtTop s) u v e = absurd (not-top j n (ap (λ l. l.root) (same-is (record { root = home j n; path = ts }) (at_top s) e)))
  by-place (InOwn j n s ss) (InOwn k m t ts) u v e =
      let l = same-is (record { root = home j n; path = ss }) (record { root = home k m; path = ts }) e in
      let i = is.injective j k n m (ap (λ l. l.root) l) in
      let q : u.0 ≡ v.0 = some_same (sym u.1 ∙ (ap (slice_get p.processes) i.0 ∙ v.1)) in
      let path : s ≡ t = u.2 ∙ (ap (λ z. z.name.path) q ∙ sym v.2) in
      λ z. InOwn (i.0 z) (i.1 z) (path z) ((l z).path)

  by-steps : (a b : Spot) → IsSpot a → IsSpot b → steps a ≡ steps b → a ≡ b
  unfolding steps IsSpot
  by-steps (AtTop s) (AtTop t) u v e = ap AtTop (steps-is s t e)
  by-steps (AtTop s) (InOwn j n t ts) u v e = absurd (no-ours s t n (map part_step ts) e)
  by-steps (InOwn j n t ts) (AtTop s) u v e = absurd (no-ours s t n (map part_step ts) (sym e))
  by-steps (InOwn j n s ss) (InOwn k m t ts) u v e =
      let w = two-ours s t n m (map part_step ss) (map part_step ts) e in
      let a = named-first p.processes 0 j u.0 s (processes-apart p r) u.1 u.2 in
      let b = named-first p.processes 0 k v.0 t (processes-apart p r) v.1 v.2 in
      let jk : j ≡ k = omega (arith, a, b, ap (λ z. process_named 0 z p.processes) w.0) in
      λ z. InOwn (jk z) (w.1 z) (w.0 z) (steps-is ss ts w.2 z)

  spot-closed : (a : Spot) → is_open (steps a) ≡ false
  unfolding steps
  spot-closed (AtTop path) = path-closed path
  spot-closed (InOwn j n path parts) = closed-append (map part_step path) (Ours n ∷ map part_step parts) (path-closed path) (path-closed parts)

  record Stood (l : Location) (s : List Step) : Type 0 where
    spot : Spot
    is_spot : IsSpot spot
    is_place : place spot ≡ l
    is_steps : steps spot ≡ s

  -- where a cell stands
  cell-stands : (n : ℕ) (x : program.Cell) → slice_get p.cells n ≡ Some x → Stood (cell_location home p x) (steps_of x.name)
  unfolding place steps IsSpot
  cell-stands n x g =
      let f = and-second (not (is_pointer x.sort)) (name_is p.processes x.sort x.name && sort_is p.cells x.kind x.sort) (cell-fits p r n x g) in
      by x.name.own refl (and-first (name_is p.processes x.sort x.name) (sort_is p.cells x.kind x.sort) f)
    where
      of-sort : (s : Sort) (path : List Part) → own_is p.processes s path ≡ true → (j : ℕ) × (q : Process) × (slice_get p.processes j ≡ Some q) × (path ≡ q.name.path)
      of-sort (Local j) path t = at (slice_get p.processes j) refl t
        where
          at : (o : Option Process) → slice_get p.processes j ≡ o → has_path path o ≡ true → (j : ℕ) × (q : Process) × (slice_get p.processes j ≡ Some q) × (path ≡ q.name.path)
          at None e t = absurd cc
          at (Some q) e t = (j, q, e, path-is path q.name.path t)
      of-sort Input path t = absurd cc
      of-sort Output path t = absurd cc
      of-sort program.Signal path t = absurd cc
      of-sort (Variable w b) path t = absurd cc
      of-sort (Pointer o) path t = absurd cc
      of-sort (Port o) path t = absurd cc

      by : (o : Option Own) → x.name.own ≡ o → name_is p.processes x.sort (record { path = x.name.path; own = o; indices = x.name.indices }) ≡ true → Stood (cell_location home p x) (steps_of x.name)
      by None e t = record {
        spot = AtTop x.name.path;
        is_spot = tt;
        is_place = ap (λ o. location_in home (process_named 0 x.name.path p.processes) o x.name) (sym e);
        is_steps = sym (nil-behind (map part_step x.name.path)) ∙ ap (λ o. map part_step x.name.path ++ own_steps o x.name.indices) (sym e);
      }
      by (Some o) e t =
          let u = of-sort x.sort x.name.path t in
          let j : process_named 0 x.name.path p.processes ≡ u.0 = let w = named-first p.processes 0 u.0 u.1 x.name.path (processes-apart p r) u.2 u.3 in omega (arith, w) in
          record {
            spot = InOwn u.0 o.number x.name.path (map Element x.name.indices);
            is_spot = (u.1, u.2, u.3);
            is_place = ap (λ k. location_in home k (Some o) x.name) (sym j) ∙ ap (λ o. location_in home (process_named 0 x.name.path p.processes) o x.name) (sym e);
            is_steps = ap (λ z. map part_step x.name.path ++ (Ours o.number ∷ z)) (indices-are x.name.indices) ∙ ap (λ o. map part_step x.name.path ++ own_steps o x.name.indices) (sym e);
          }

  -- locations of cells differ
  pub locations-apart : (c d : ℕ) (x y : program.Cell) → slice_get p.cells c ≡ Some x → slice_get p.cells d ≡ Some y → same (cell_location home p x) (cell_location home p y) ≡ nat_eq c d
  locations-apart c d x y f g =
      let u = cell-stands c x f in
      let v = cell-stands d y g in
      both-or-none (same (cell_location home p x) (cell_location home p y)) (nat_eq c d)
      (λ e. let z = by-place u.spot v.spot u.is_spot v.is_spot (subst (λ l. same l (place v.spot) ≡ true) (sym u.is_place) (subst (λ l. same (cell_location home p x) l ≡ true) (sym v.is_place) e)) in
      subst (λ k. nat_eq c k ≡ true) (one-cell p.cells c d x y (cells-apart p r) f g (sym u.is_steps ∙ (ap steps z ∙ v.is_steps))) (nat_eq-self c))
      (λ e. let z : x ≡ y = some_same (sym f ∙ (ap (slice_get p.cells) (nat_eq-is c d e) ∙ g)) in subst (λ k. same (cell_location home p x) (cell_location home p k) ≡ true) z (same-self (cell_location home p x)))

  module _ (i : ℕ) (q : Process) (at : slice_get p.processes i ≡ Some q) where
    name-stands : (n : CellName) → IsName q n → Stood (location_of home i n) (steps_of n)
    unfolding place steps IsSpot
    name-stands n t = by n.own refl
      where
        by : (o : Option Own) → n.own ≡ o → Stood (location_of home i n) (steps_of n)
        by None e = record {
          spot = AtTop n.path;
          is_spot = tt;
          is_place = ap (λ o. location_in home i o n) (sym e);
          is_steps = sym (nil-behind (map part_step n.path)) ∙ ap (λ o. map part_step n.path ++ own_steps o n.indices) (sym e);
        }
        by (Some o) e = record {
          spot = InOwn i o.number n.path (map Element n.indices);
          is_spot = (q, at, t.inner o e);
          is_place = ap (λ o. location_in home i o n) (sym e);
          is_steps = ap (λ z. map part_step n.path ++ (Ours o.number ∷ z)) (indices-are n.indices) ∙ ap (λ o. map part_step n.path ++ own_steps o n.indices) (sym e);
        }

    grows : (part : Part) (l : Location) (s : List Step) → Stood l s → Stood (within l part) (s ++ part_step part ∷ [])
    unfolding place steps IsSpot
    grows part l s u = by u.spot u.is_spot u.is_place u.is_steps
      where
        by : (z : Spot) → IsSpot z → place z ≡ l → steps z ≡ s → Stood (within l part) (s ++ part_step part ∷ [])
        by (AtTop path) a b c = record {
          spot = AtTop (path ++ part ∷ []);
          is_spot = tt;
          is_place = ap (λ l. within l part) b;
          is_steps = map-append path part ∙ ap (λ s. s ++ part_step part ∷ []) c;
        }
        by (InOwn j n path parts) a b c = record {
          spot = InOwn j n path (parts ++ part ∷ []);
          is_spot = a;
          is_place = ap (λ l. within l part) b;
          is_steps = ap (λ z. map part_step path ++ (Ours n ∷ z)) (map-append parts part) ∙ (sym (joined-behind (map part_step path) (Ours n ∷ map part_step parts) (part_step part ∷ [])) ∙ ap (λ s. s ++ part_step part ∷ []) c);
        }

    stands-at : {l : Location} {s : List Step} → Names home i q l s → Stood l s
    stands-at (base n t) = name-stands n t
    stands-at (member {l = l} {s = s} name u) = grows (location.Member name) l s (stands-at u)
    stands-at (element {l = l} {s = s} k u) = grows (Element k) l s (stands-at u)

    closed-by : {l : Location} {s : List Step} → Stood l s → is_open s ≡ false
    closed-by u = subst (λ s. is_open s ≡ false) u.is_steps (spot-closed u.spot)

    found-so : (l : Location) (s : List Step) → Names home i q l s → (k : ℕ) (x : program.Cell) → slice_get p.cells k ≡ Some x → (same (cell_location home p x) l && not (is_pointer x.sort)) ≡ names_cell false s x
    found-so l s names k x g = by (is_pointer x.sort) refl
      where
        by : (b : Bool) → is_pointer x.sort ≡ b → (same (cell_location home p x) l && not b) ≡ (fits s (steps_of x.name) && not b)
        by true e = and-false (same (cell_location home p x) l) (fits s (steps_of x.name)) false refl
        by false e =
            let u = cell-stands k x g in
            let v = stands-at names in
            ap (λ z. z && true) (both-or-none (same (cell_location home p x) l) (fits s (steps_of x.name))
            (λ h. let z = by-place u.spot v.spot u.is_spot v.is_spot (subst (λ l. same l (place v.spot) ≡ true) (sym u.is_place) (subst (λ l. same (cell_location home p x) l ≡ true) (sym v.is_place) h)) in
            let w : steps_of x.name ≡ s = sym u.is_steps ∙ (ap steps z ∙ v.is_steps) in subst (λ t. fits t (steps_of x.name) ≡ true) w (fits-self (steps_of x.name) (name-closed x.name)))
            (λ h. let w : s ≡ steps_of x.name = fits-is s (steps_of x.name) (closed-by v) h in
            let z = by-steps u.spot v.spot u.is_spot v.is_spot (u.is_steps ∙ (sym w ∙ sym v.is_steps)) in
            let t : cell_location home p x ≡ l = sym u.is_place ∙ (ap place z ∙ v.is_place) in subst (λ m. same (cell_location home p x) m ≡ true) t (same-self (cell_location home p x))))

    pub tells-apart : TellsApart home p i q
    tells-apart = record {
      found = λ l s names. find-same (λ c. same (cell_location home p c) l && not (is_pointer c.sort)) (names_cell false s) p.cells (found-so l s names) ∙ find_cell p.cells s;
      stands = λ l x e. let u = find-is (λ c. same (cell_location home p c) l && not (is_pointer c.sort)) p.cells x e in same-is (cell_location home p x) l (and-first (same (cell_location home p x) l) (not (is_pointer x.sort)) u.2);
      apart = λ c d x y f g a b. locations-apart c d x y f g;
      ports = λ n x path g e. let u = root-of p r n x path g e in (u.0, u.1, u.2, u.3, u.4);
    }
