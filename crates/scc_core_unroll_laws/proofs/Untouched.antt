-- What statements that leave a counter alone reach, and where pointers lead.
use Rattle.std.proofs.Common.{◌≡◌, ℕ, ◌+◌, ◌≤◌, Bool, true, false, List, [], ◌∷◌, ◌++◌, map, Option, Some, None, refl, ap, ◌∙◌, subst, arith}
use Rattle.std.specs.Prelude.{nat_eq, nat_le, not, slice_get, option_map, option_and_then, if◌then◌else◌}
use Rattle.scc_semantics.specs.Location.{Location, Root, Top, Local, Answer, Part, Member, Element, within, same}
use Rattle.scc_semantics.specs.Expressions as body
use Rattle.scc_semantics.specs.Scene.{Scene, pointed, index_of, expr_kind}
use Rattle.scc_semantics.specs.Store.{changed}
use Rattle.scc_semantics.specs.Same.{is_own, is_others}
use Rattle.scc_semantics.specs.Value.{Held, locate, value, behind}
use Rattle.scc_core_spec.specs.Term.{Term, Left, Cell, Prefix, Null, Follow, Index, CellName, Own}
use Rattle.scc_core_spec.specs.Term as term
use Rattle.scc_core_spec.specs.Program as program
use Rattle.scc_core_spec.specs.Counted.{own_of, own_whole, own_at, is_it, uses, times}
use Rattle.scc_core_spec.specs.Source.{location_in, location_of, cell_left, expr_of, left_of}
use Rattle.scc_core_unroll_laws.specs.Unrolling.{Around, scene_at, local_at, Counters, LeadsWell}

pub behind-is : (o : Option (Option Location)) (f : Location → Option (Option Location)) (m : Location) → behind o f ≡ Some (Some m) → (l : Location) × (o ≡ Some (Some l)) × (f l ≡ Some (Some m))
behind-is None f m e = absurd cc
behind-is (Some None) f m e = absurd cc
behind-is (Some (Some l)) f m e = (l, refl, e)

own-not-others : (i : ℕ) (r : Root) → is_own i r ≡ true → is_others i r ≡ false
own-not-others i Top e = refl
own-not-others i (Local j calls n) e = ap not e
own-not-others i (Answer j calls) e = ap not e

some-loc : {l m : Location} → Some (Some l) ≡ Some (Some m) → l ≡ m
some-loc e = cc

some-mapped : (o : Option ℕ) (f : ℕ → Location) (m : Location) → option_map (λ i. Some (f i)) o ≡ Some (Some m) → (i : ℕ) × (f i ≡ m)
some-mapped None f m e = absurd cc
some-mapped (Some i) f m e = (i, some-loc e)

un-end : (p : List Part) (x : Part) → p ++ x ∷ [] ≡ [] → ⊥
un-end [] x e = cc
un-end (y ∷ p) x e = cc

pub within-un-local : (w : Around) (l m : Location) (x : Part) (o : ℕ) → within l x ≡ m → m ≡ local_at w o → ⊥
within-un-local w l m x o e f = un-end l.path x (ap (λ l. l.path) (e ∙ f))

module _ (w : Around) (counters : Counters w) (signals : Location → ℕ) (a : Held) (leads : LeadsWell w a.store.targets) where
  abbrev C : Left → body.Left
  C l = left_of w.home w.setting.cells w.process l

  abbrev S : Scene
  S = scene_at w signals a

  name-near : (o : Option Own) (n : CellName) → is_others w.process (location_in w.home w.process o n).root ≡ false
  name-near None n = refl
  name-near (Some o) n = own-not-others w.process (w.home w.process o.number) (counters.home.own w.process o.number)

  -- a name is none of another process
  name-reach : (n : CellName) (m : Location) → Some (Some (location_of w.home w.process n)) ≡ Some (Some m) → is_others w.process m.root ≡ false
  name-reach n m e = subst (λ l. is_others w.process l.root ≡ false) (some-loc e) (name-near n.own n)

  pub reach : (l : Left) (m : Location) → locate S (C l) ≡ Some (Some m) → is_others w.process m.root ≡ false
  reach (Cell p n) m e = by (slice_get w.setting.cells n) e
    where
      by : (c : Option program.Cell) → locate S (cell_left w.home w.setting.cells w.process c) ≡ Some (Some m) → is_others w.process m.root ≡ false
      by None e = absurd cc
      by (Some c) e = name-reach c.name m e
  reach (Prefix p n) m e = name-reach n m e
  reach (Null p) m e = absurd cc
  reach (Follow p s l) m e =
      let b = behind-is (locate S (C l)) (λ l. Some (pointed (w.places.pointers l) (a.store.targets l))) m e in
      by b.0 (reach l b.0 b.1) (w.places.pointers b.0) b.2
    where
      by : (k : Location) → is_others w.process k.root ≡ false → (c : Bool) → Some (pointed c (a.store.targets k)) ≡ Some (Some m) → is_others w.process m.root ≡ false
      by k near true e = (leads k m near cc).0
      by k near false e = absurd cc
  reach (term.Member l n) m e =
      let b = behind-is (locate S (C l)) (λ l. Some (Some (within l (Member n)))) m e in
      subst (λ k. is_others w.process k.root ≡ false) (some-loc b.2) (reach l b.0 b.1)
  reach (Index l s x) m e =
      let b = behind-is (locate S (C l)) (λ l. option_map (λ i. Some (within l (Element (index_of (expr_kind (expr_of w.home w.setting.cells w.process x)) i)))) (value S (expr_of w.home w.setting.cells w.process x))) m e in
      let i = some-mapped (value S (expr_of w.home w.setting.cells w.process x)) (λ i. within b.0 (Element (index_of (expr_kind (expr_of w.home w.setting.cells w.process x)) i))) m b.2 in
      subst (λ k. is_others w.process k.root ≡ false) i.1 (reach l b.0 b.1)

  map-none : (js : List ℕ) → map Element js ≡ [] → js ≡ []
  map-none [] e = refl
  map-none (j ∷ js) e = absurd cc

  name-misses : (o : ℕ) (n : CellName) (m : Location) → is_it o (own_of n) ≡ false → Some (Some (location_of w.home w.process n)) ≡ Some (Some m) → m ≡ local_at w o → ⊥
  name-misses o n m un e f = by n.own n.indices un (some-loc e ∙ f)
    where
      by : (x : Option Own) (js : List ℕ) → is_it o (own_whole x js) ≡ false → location_in w.home w.process x (record { path = n.path; own = x; indices = js }) ≡ local_at w o → ⊥
      by None js un e =
          let r : Top ≡ w.home w.process o = ap (λ l. l.root) e in
          let t : is_own w.process Top ≡ true = ap (is_own w.process) r ∙ counters.home.own w.process o in cc
      by (Some x) [] un e =
          let r : w.home w.process x.number ≡ w.home w.process o = ap (λ l. l.root) e in
          let s : x.number ≡ o = (counters.home.injective w.process w.process x.number o r).1 in
          let t : nat_eq o x.number ≡ true = grind arith in cc
      by (Some x) (j ∷ js) un e = let p : map Element (j ∷ js) ≡ [] = ap (λ l. l.path) e in cc

  -- what isn't named, and to which no pointer leads, isn't met
  pub misses : (o : ℕ) → nat_le (uses w.setting.cells o w.setting.body) 2 ≡ true → (l : Left) (m : Location) → is_it o (own_at w.setting.cells l) ≡ false → locate S (C l) ≡ Some (Some m) → m ≡ local_at w o → ⊥
  misses o few (Cell p n) m un e = by (slice_get w.setting.cells n) un e
    where
      by : (c : Option program.Cell) → is_it o (option_and_then (λ c. own_of c.name) c) ≡ false → locate S (cell_left w.home w.setting.cells w.process c) ≡ Some (Some m) → m ≡ local_at w o → ⊥
      by None un e = absurd cc
      by (Some c) un e = name-misses o c.name m un e
  misses o few (Prefix p n) m un e = name-misses o n m un e
  misses o few (Null p) m un e = absurd cc
  misses o few (Follow p s l) m un e =
      let b = behind-is (locate S (C l)) (λ l. Some (pointed (w.places.pointers l) (a.store.targets l))) m e in
      by b.0 (reach l b.0 b.1) (w.places.pointers b.0) b.2
    where
      by : (k : Location) → is_others w.process k.root ≡ false → (c : Bool) → Some (pointed c (a.store.targets k)) ≡ Some (Some m) → m ≡ local_at w o → ⊥
      by k near true e = (leads k m near cc).1 o few
      by k near false e = absurd cc
  misses o few (term.Member l n) m un e =
      let b = behind-is (locate S (C l)) (λ l. Some (Some (within l (Member n)))) m e in
      within-un-local w b.0 m (Member n) o (some-loc b.2)
  misses o few (Index l s x) m un e =
      let b = behind-is (locate S (C l)) (λ l. option_map (λ i. Some (within l (Element (index_of (expr_kind (expr_of w.home w.setting.cells w.process x)) i)))) (value S (expr_of w.home w.setting.cells w.process x))) m e in
      let i = some-mapped (value S (expr_of w.home w.setting.cells w.process x)) (λ i. within b.0 (Element (index_of (expr_kind (expr_of w.home w.setting.cells w.process x)) i))) m b.2 in
      within-un-local w b.0 m (Element (index_of (expr_kind (expr_of w.home w.setting.cells w.process x)) i.0)) o i.1

  -- a target is well led, where statements that lead to a counter count as more than a loop has
  few-misses : (o : ℕ) (b : Bool) (r t : ℕ) → times 3 b + r ≤ t → nat_le t 2 ≡ true → b ≡ false
  few-misses o true r t le few = let h : t ≤ 2 = grind arith in absurd (too-many r t le h)
    where
      too-many : (r t : ℕ) → 3 + r ≤ t → t ≤ 2 → ⊥
      too-many r t h g = omega (arith, h, g)
  few-misses o false r t le few = refl

  pub led-well : (t : Left) → ((o : ℕ) → times 3 (is_it o (own_at w.setting.cells t)) ≤ uses w.setting.cells o w.setting.body) → (c : Bool) (l : Location) → is_others w.process l.root ≡ false → (to : Option Location) → locate S (C t) ≡ Some to
      → LeadsWell w (if c then changed l to a.store.targets else a.store.targets)
  led-well t part c l near to e k m nk ek = under c ek
    where
      by : (b : Bool) → (if b then to else a.store.targets k) ≡ Some m → (is_others w.process m.root ≡ false) × ((o : ℕ) → nat_le (uses w.setting.cells o w.setting.body) 2 ≡ true → m ≡ local_at w o → ⊥)
      by true ek =
          let here : locate S (C t) ≡ Some (Some m) = e ∙ ap Some ek in
          (reach t m here, λ o few. misses o few t m (few-misses o (is_it o (own_at w.setting.cells t)) 0 (uses w.setting.cells o w.setting.body) (let p = part o in omega (arith, p)) few) here)
      by false ek = leads k m nk ek

      under : (c : Bool) → (if c then changed l to a.store.targets else a.store.targets) k ≡ Some m → (is_others w.process m.root ≡ false) × ((o : ℕ) → nat_le (uses w.setting.cells o w.setting.body) 2 ≡ true → m ≡ local_at w o → ⊥)
      under true ek = by (same l k) ek
      under false ek = leads k m nk ek
