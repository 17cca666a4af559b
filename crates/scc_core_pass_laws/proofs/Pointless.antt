-- Values and locations are the same with objects in place of pointers.
use Rattle.std.proofs.Common.{◌≡◌, ◌⊎◌, inl, inr, ℕ, Bool, true, false, List, [], ◌∷◌, ◌++◌, map, Option, Some, None, refl, sym, ap, ◌∙◌, subst, arith}
use Rattle.std.specs.Prelude.{nat_lt, ◌&&◌, ◌||◌, is_some, slice_get, unwrap_or, option_map, option_and_then, if◌then◌else◌}
use Rattle.scc_base.specs.declared.refusal.Place.{Place}
use Rattle.scc_base.specs.declared.refusal.Refusal.{Refusal}
use Rattle.scc_base.specs.declared.code.Code.TheVariants as reason
use Rattle.scc_bits_kinds.specs.declared.kind.Kind.{Kind}
use Rattle.scc_bits_kinds.specs.Kinds.{width_of, number_of, stored}
use Rattle.scc_bits_kinds.specs.Bits.{part, joined}
use Rattle.scc_bits.specs.Values.{kind_of as operator_kind, applied}
use Rattle.scc_semantics.specs.Location.{Location, Part, Member, Element, within, same}
use Rattle.scc_semantics.specs.Places.{Signal, Port}
use Rattle.scc_semantics.specs.Expressions as body
use Rattle.scc_semantics.specs.Expressions.{Expr}
use Rattle.scc_semantics.specs.Scene.{Scene, expr_kind, kind_or, loaded, sensed, pointed, index_of, bit_at, with_two, chosen, followed, with_bit}
use Rattle.scc_semantics.specs.Steady.{plain_expr, plain_left}
use Rattle.scc_semantics.specs.Value.{Held, locate, value, behind, put_at, asked}
use Rattle.scc_semantics_laws.proofs.Places.{same-is}
use Rattle.scc_semantics_laws.proofs.Blind.{and-first, and-second}
use Rattle.scc_core_spec.specs.Term.{Term, Literal, Load, Read, Convert, Unary, Binary, Choose, Bit, Range, Join, Left, Cell, Prefix, Null, Follow, Index, CellName, Own, place_at, kind_of}
use Rattle.scc_core_spec.specs.Term as term
use Rattle.scc_core_spec.specs.Program as program
use Rattle.scc_core_spec.specs.Program.{Program, Process, Pointer, is_pointer, is_root}
use Rattle.scc_core_spec.specs.Named.{Step, Named, At, Ours, Open, steps_of, part_step, fits, is_open, chooses_object, cell_at, path_steps}
use Rattle.scc_core_spec.specs.Static.{static, pattern, index_step}
use Rattle.scc_core_spec.specs.Fold.{as_name, member_of, element_of, element_or, in_range, static_index, size_of, whole}
use Rattle.scc_core_spec.specs.First.{refused}
use Rattle.scc_core_spec.specs.Uses.{root_of, root_of_sort}
use Rattle.scc_core_spec.specs.Resolved.{Leads, Tried, Made, Stopped, and_made, made_map, placed, leads_to, pointer_there, pointed as pointed_there, looked, named_pointer, without_pointer, led_by, or_null, behind as behind_left, sure, resolved, walked, left_by, is_local_name}
use Rattle.scc_core_spec.specs.Source.{Home, at_top, location_of, cell_left, expr_of, left_of, cell_location, cell_there, thing_of}
use Rattle.scc_blocks_spec.specs.Passed.{IsHome}
use Rattle.scc_core_unroll_laws.specs.Unrolling.{Around, scene_at, HoldsFixed}
use Rattle.scc_core_unroll_laws.specs.Named.{IsNamed, around_of}
use Rattle.scc_core_unroll_laws.specs.Kinds.{IsKinded, IsKindedLeft}
use Rattle.scc_core_pass_laws.specs.Pointing.{IsName, Names, base, member, element, Apart, IsCellName, OwnNames, OwnLeft, OwnBase, Stays, LeadsTo, Known, leads_of}
use Rattle.scc_core_unroll_laws.proofs.Counters.{some-is}
use Rattle.scc_core_unroll_laws.proofs.Knowing.{append-none, map-is, find-test, static-holds, kinds-are, index-closed, open-front}
use Rattle.scc_core_pass_laws.proofs.Standing.{found_cell, same_name}

end-open : (s : List Step) (n : ℕ) → is_open (s ++ Open n ∷ []) ≡ true
end-open [] n = refl
end-open (Named m ∷ s) n = end-open s n
end-open (At m ∷ s) n = end-open s n
end-open (Ours m ∷ s) n = end-open s n
end-open (Open m ∷ s) n = refl

front-open : (s : List Step) (x : Step) → is_open (s ++ x ∷ []) ≡ false → is_open s ≡ false
front-open [] x h = refl
front-open (Named n ∷ s) x h = front-open s x h
front-open (At n ∷ s) x h = front-open s x h
front-open (Ours n ∷ s) x h = front-open s x h
front-open (Open n ∷ s) x h = absurd cc

closed-index : (s : List Step) (size : ℕ) (k : Kind) (o : Option ℕ) → is_open (s ++ index_step size k o ∷ []) ≡ false → (v : ℕ) × (o ≡ Some v)
closed-index s size k None h = let e = end-open s size in absurd cc
closed-index s size k (Some v) h = (v, refl)

pub made-is : {A : Type 0} {x y : A} → Made x ≡ Made y → x ≡ y
made-is e = cc

pub stopped-not : {A : Type 0} (r : Refusal) (y : A) → Stopped r ≡ Made y → ⊥
stopped-not r y e = cc

pub and-is : {A B : Type 0} (x : Tried A) (f : A → Tried B) (y : B) → and_made x f ≡ Made y → (a : A) × (x ≡ Made a) × (f a ≡ Made y)
and-is (Made a) f y e = (a, refl, e)
and-is (Stopped r) f y e = absurd (stopped-not r y e)

pub made-map-is : {A B : Type 0} (f : A → B) (x : Tried A) (y : B) → made_map f x ≡ Made y → (a : A) × (x ≡ Made a) × (f a ≡ y)
made-map-is f (Made a) y e = (a, refl, made-is e)
made-map-is f (Stopped r) y e = absurd (stopped-not r y e)

pub sure-is : {A : Type 0} (p : Place) (o : Option Left) (f : Left → Tried A) (y : A) → sure p o f ≡ Made y → (m : Left) × (o ≡ Some m) × (f m ≡ Made y)
sure-is p None f y e = absurd (stopped-not (refused reason.EmptyPointer p) y e)
sure-is p (Some m) f y e = (m, refl, e)

pub unless-stopped : {A : Type 0} (b : Bool) (r : Refusal) (t : Tried A) (y : A) → (if b then Stopped r else t) ≡ Made y → (b ≡ false) × (t ≡ Made y)
unless-stopped true r t y e = absurd (stopped-not r y e)
unless-stopped false r t y e = (refl, e)

both : (a b : Bool) → a ≡ true → b ≡ true → (a && b) ≡ true
both true b e f = f
both false b e f = e

module _ (home : Home) (is_home : IsHome home) (p : Program) (constant : Location → Option ℕ) (i : ℕ) (q : Process) (named : IsNamed p) (apart : Apart home p i q) where
  abbrev w : Around
  w = around_of home p constant i q

  abbrev E : Term → Expr
  E e = expr_of home p.cells i e

  abbrev L : Left → body.Left
  L l = left_of home p.cells i l

  abbrev Own-left : Left → Type 0
  Own-left l = OwnBase q p.cells l

  placed-left : (o : Place) (l : Left) → L (placed o l) ≡ L l
  placed-left o (Cell r n) = refl
  placed-left o (Prefix r n) = refl
  placed-left o (Null r) = refl
  placed-left o (Follow r s l) = refl
  placed-left o (term.Member l n) = ap (λ l. body.Field l n) (placed-left o l)
  placed-left o (Index l s e) = ap (λ l. body.Indexed l (E e)) (placed-left o l)

  placed-own : (o : Place) (l : Left) → Own-left l → Own-left (placed o l)
  placed-own o (Cell r n) h = h
  placed-own o (Prefix r n) h = h
  placed-own o (Null r) h = h
  placed-own o (Follow r s l) h = h
  placed-own o (term.Member l n) h = placed-own o l h
  placed-own o (Index l s e) h = (placed-own o l h.0, h.1)

  -- a whole cell by its name
  name-left : (m : Left) → L (as_name p.cells p.vectors m) ≡ L m
  name-left (Cell r n) = by (slice_get p.cells n) refl
    where
      by : (u : Option program.Cell) → slice_get p.cells n ≡ u → L (unwrap_or (option_map (λ c. Prefix r c.name) u) (Cell r n)) ≡ cell_left home p.cells i u
      by None e = ap (cell_left home p.cells i) e
      by (Some c) e = refl
  name-left (Prefix r n) = refl
  name-left (Null r) = refl
  name-left (Follow r s l) = refl
  name-left (term.Member l n) = refl
  name-left (Index l s e) = refl

  name-own : (m : Left) → Own-left m → Own-left (as_name p.cells p.vectors m)
  name-own (Cell r n) h = by (slice_get p.cells n) refl h
    where
      by : (u : Option program.Cell) → slice_get p.cells n ≡ u → IsCellName q p.cells u → Own-left (unwrap_or (option_map (λ c. Prefix r c.name) u) (Cell r n))
      by None e h = subst (IsCellName q p.cells) (sym e) h
      by (Some c) e h = h
  name-own (Prefix r n) h = h
  name-own (Null r) h = h
  name-own (Follow r s l) h = h
  name-own (term.Member l n) h = h
  name-own (Index l s e) h = h

  abbrev pub StaysAt : Left → List Step → Type 0
  StaysAt l t = (k : Location) × Stays home p constant i q l k × Names home i q k t

  -- what is named to its end stays where it is
  pub pattern-stays : (l : Left) (t : List Step) → Own-left l → pattern p.cells l ≡ Some t → is_open t ≡ false → StaysAt l t
  pattern-stays (Cell o n) t h e c = by (slice_get p.cells n) h e
    where
      by : (u : Option program.Cell) → IsCellName q p.cells u → option_map (λ c. steps_of c.name) u ≡ Some t
          → (k : Location) × ((signals : Location → ℕ) (a : Held) → HoldsFixed w a → locate (scene_at w signals a) (cell_left home p.cells i u) ≡ Some (Some k)) × Names home i q k t
      by None h e = absurd cc
      by (Some u) h e = (location_of home i u.name, (λ g a f. refl), subst (Names home i q (location_of home i u.name)) (some-is e) (base u.name h))
  pattern-stays (Prefix o n) t h e c = (location_of home i n, (λ g a f. refl), subst (Names home i q (location_of home i n)) (some-is e) (base n h))
  pattern-stays (Null o) t h e c = absurd cc
  pattern-stays (Follow o soft l) t h e c = absurd cc
  pattern-stays (term.Member l n) t h e c =
      let m = map-is (pattern p.cells l) (λ z. z ++ Named n ∷ []) t e in
      let r = pattern-stays l m.0 h m.1 (front-open m.0 (Named n) (ap is_open m.2 ∙ c)) in
      (within r.0 (Member n), (λ g a f. ap (λ z. behind z (λ k. Some (Some (within k (Member n))))) (r.1 g a f)), subst (Names home i q (within r.0 (Member n))) m.2 (member n r.2))
  pattern-stays (Index l size j) t h e c =
      let m = map-is (pattern p.cells l) (λ z. z ++ index_step size (kind_of j) (static p.cells j) ∷ []) t e in
      let r = pattern-stays l m.0 h.0 m.1 (front-open m.0 (index_step size (kind_of j) (static p.cells j)) (ap is_open m.2 ∙ c)) in
      let v = closed-index m.0 size (kind_of j) (static p.cells j) (ap is_open m.2 ∙ c) in
      let n = index_of (kind_of j) v.0 in (
        within r.0 (Element n),
        (λ g a f z. behind (r.1 g a f z) (λ k. option_map (λ x. Some (within k (Element (index_of (kinds-are home is_home p constant i q named g a f j h.1 z) x)))) (static-holds home is_home p constant i q named g a f j v.0 h.1 v.1 z))),
        subst (Names home i q (within r.0 (Element n))) (ap (λ o. m.0 ++ index_step size (kind_of j) o ∷ []) (sym v.1) ∙ m.2) (element n r.2),
      )

  module _ (signals : Location → ℕ) (a : Held) (fixed : HoldsFixed w a) (local : ℕ → Option (Option Left)) (known : Known home p constant i q local a.store.targets) where
    abbrev S : Scene
    S = scene_at w signals a

    abbrev s : Leads
    s = leads_of home p constant i q local

    abbrev statics : (e : Term) (x : ℕ) → IsKinded e → static p.cells e ≡ Some x → value S (E e) ≡ Some x
    statics e x t d = static-holds home is_home p constant i q named signals a fixed e x t d

    -- members and elements that are known go into the name
    member-same : (m : Left) (n : ℕ) → locate S (L (member_of p.cells p.vectors m n)) ≡ locate S (body.Field (L m) n)
    member-same (Cell r k) n = refl
    member-same (Prefix r k) n = by k.path k.own k.indices
      where
        by : (path : List Part) (o : Option Own) (js : List ℕ) → let k : CellName = record { path = path; own = o; indices = js } in locate S (L (member_of p.cells p.vectors (Prefix r k) n)) ≡ locate S (body.Field (L (Prefix r k)) n)
        by path None js = refl
        by path (Some o) js = refl
    member-same (Null r) n = refl
    member-same (Follow r t l) n = refl
    member-same (term.Member l k) n = refl
    member-same (Index l t e) n = refl

    member-own : (m : Left) (n : ℕ) → Own-left m → Own-left (member_of p.cells p.vectors m n)
    member-own (Cell r k) n h = h
    member-own (Prefix r k) n h = by k.path k.own k.indices h
      where
        by : (path : List Part) (o : Option Own) (js : List ℕ) → let k : CellName = record { path = path; own = o; indices = js } in IsName q k → Own-left (member_of p.cells p.vectors (Prefix r k) n)
        by path None js h = λ o e. absurd cc
        by path (Some o) js h = h
    member-own (Null r) n h = h
    member-own (Follow r t l) n h = h
    member-own (term.Member l k) n h = h
    member-own (Index l t e) n h = h

    member-plain : (m : Left) (n : ℕ) → plain_left (L m) ≡ true → plain_left (L (member_of p.cells p.vectors m n)) ≡ true
    member-plain (Cell r k) n h = h
    member-plain (Prefix r k) n h = by k.path k.own k.indices
      where
        by : (path : List Part) (o : Option Own) (js : List ℕ) → let k : CellName = record { path = path; own = o; indices = js } in plain_left (L (member_of p.cells p.vectors (Prefix r k) n)) ≡ true
        by path None js = refl
        by path (Some o) js = refl
    member-plain (Null r) n h = h
    member-plain (Follow r t l) n h = h
    member-plain (term.Member l k) n h = h
    member-plain (Index l t e) n h = h

    map-element : (js : List ℕ) (j : ℕ) → map Element (js ++ j ∷ []) ≡ map Element js ++ Element j ∷ []
    map-element [] j = refl
    map-element (k ∷ js) j = ap (λ x. Element k ∷ x) (map-element js j)

    record SameElement (m other : Left) (u : Option ℕ) : Type 0 where
      pub same : locate S (L (element_or p.cells p.vectors m u other)) ≡ locate S (L other)
      pub own : Own-left (element_or p.cells p.vectors m u other)
      pub plain : plain_left (L (element_or p.cells p.vectors m u other)) ≡ true

    element-same : (m : Left) (size : ℕ) (x : Term) (u : Option ℕ) → ((j : ℕ) → u ≡ Some j → option_map (λ v. index_of (expr_kind (E x)) v) (value S (E x)) ≡ Some j)
        → Own-left (Index m size x) → plain_left (L (Index m size x)) ≡ true → SameElement m (Index m size x) u
    element-same (Cell r k) size x u h own plain = record { same = refl; own = own; plain = plain }
    element-same (Null r) size x u h own plain = record { same = refl; own = own; plain = plain }
    element-same (Follow r t l) size x u h own plain = record { same = refl; own = own; plain = plain }
    element-same (term.Member l k) size x u h own plain = record { same = refl; own = own; plain = plain }
    element-same (Index l t e) size x u h own plain = record { same = refl; own = own; plain = plain }
    element-same (Prefix r k) size x None h own plain = record { same = refl; own = own; plain = plain }
    element-same (Prefix r k) size x (Some j) h own plain = by k.path k.own k.indices own.0
      where
        at : (l : Location) → Some (Some (within l (Element j))) ≡ option_map (λ v. Some (within l (Element (index_of (expr_kind (E x)) v)))) (value S (E x))
        at l = by (value S (E x)) (h j refl)
          where
            by : (u : Option ℕ) → option_map (λ v. index_of (expr_kind (E x)) v) u ≡ Some j → Some (Some (within l (Element j))) ≡ option_map (λ v. Some (within l (Element (index_of (expr_kind (E x)) v)))) u
            by None e = absurd cc
            by (Some v) e = ap (λ j. Some (Some (within l (Element j)))) (sym (some-is e))

        by : (path : List Part) (o : Option Own) (js : List ℕ) → let k : CellName = record { path = path; own = o; indices = js } in IsName q k → SameElement (Prefix r k) (Index (Prefix r k) size x) (Some j)
        by path None js h = record { same = at (at_top path); own = λ o e. absurd cc; plain = refl }
        by path (Some o) js h = record {
          same = ap (λ m. let l : Location = record { root = home i o.number; path = m } in Some (Some l)) (map-element js j) ∙ at (record { root = home i o.number; path = map Element js });
          own = h;
          plain = refl;
        }

    -- what stands at names that are known to their ends
    abbrev At-steps : Left → List Step → Type 0
    At-steps l t = (k : Location) × (locate S (L l) ≡ Some (Some k)) × Names home i q k t

    pattern-is : (l : Left) (t : List Step) → Own-left l → pattern p.cells l ≡ Some t → is_open t ≡ false → At-steps l t
    pattern-is (Cell o n) t h e c = by (slice_get p.cells n) h e
      where
        by : (u : Option program.Cell) → IsCellName q p.cells u → option_map (λ c. steps_of c.name) u ≡ Some t → (k : Location) × (locate S (cell_left home p.cells i u) ≡ Some (Some k)) × Names home i q k t
        by None h e = absurd cc
        by (Some u) h e = (location_of home i u.name, refl, subst (Names home i q (location_of home i u.name)) (some-is e) (base u.name h))
    pattern-is (Prefix o n) t h e c = (location_of home i n, refl, subst (Names home i q (location_of home i n)) (some-is e) (base n h))
    pattern-is (Null o) t h e c = absurd cc
    pattern-is (Follow o soft l) t h e c = absurd cc
    pattern-is (term.Member l n) t h e c =
        let m = map-is (pattern p.cells l) (λ z. z ++ Named n ∷ []) t e in
        let r = pattern-is l m.0 h m.1 (open-front home is_home p constant i q named signals a fixed m.0 (Named n) (ap is_open m.2 ∙ c)) in
        (within r.0 (Member n), ap (λ z. behind z (λ k. Some (Some (within k (Member n))))) r.1, subst (Names home i q (within r.0 (Member n))) m.2 (member n r.2))
    pattern-is (Index l size j) t h e c =
        let m = map-is (pattern p.cells l) (λ z. z ++ index_step size (kind_of j) (static p.cells j) ∷ []) t e in
        let r = pattern-is l m.0 h.0 m.1 (open-front home is_home p constant i q named signals a fixed m.0 (index_step size (kind_of j) (static p.cells j)) (ap is_open m.2 ∙ c)) in
        let v = index-closed home is_home p constant i q named signals a fixed m.0 size (kind_of j) (static p.cells j) (ap is_open m.2 ∙ c) in
        let n = index_of (kind_of j) v.0 in (
          within r.0 (Element n),
          (λ z. behind (r.1 z) (λ k. option_map (λ x. Some (within k (Element (index_of (kinds-are home is_home p constant i q named signals a fixed j h.1 z) x)))) (statics j v.0 h.1 v.1 z))),
          subst (Names home i q (within r.0 (Element n))) (ap (λ o. m.0 ++ index_step size (kind_of j) o ∷ []) (sym v.1) ∙ m.2) (element n r.2),
        )

    -- where no cell stands is null
    pub no-pattern : (l : Left) → plain_left (L l) ≡ true → pattern p.cells l ≡ None → locate S (L l) ≡ Some None
    no-pattern (Cell o n) h e = by (slice_get p.cells n) e
      where
        by : (u : Option program.Cell) → option_map (λ c. steps_of c.name) u ≡ None → locate S (cell_left home p.cells i u) ≡ Some None
        by None e = refl
        by (Some c) e = absurd cc
    no-pattern (Prefix o n) h e = absurd cc
    no-pattern (Null o) h e = refl
    no-pattern (Follow o t l) h e = absurd cc
    no-pattern (term.Member l n) h e = ap (λ z. behind z (λ k. Some (Some (within k (Member n))))) (no-pattern l h (by (pattern p.cells l) e))
      where
        by : (u : Option (List Step)) → option_map (λ t. t ++ Named n ∷ []) u ≡ None → u ≡ None
        by None e = refl
        by (Some t) e = absurd cc
    no-pattern (Index l size j) h e = ap (λ z. behind z (λ k. option_map (λ x. Some (within k (Element (index_of (expr_kind (E j)) x)))) (value S (E j)))) (no-pattern l (and-first (plain_left (L l)) (plain_expr (E j)) h) (by (pattern p.cells l) e))
      where
        by : (u : Option (List Step)) → option_map (λ t. t ++ index_step size (kind_of j) (static p.cells j) ∷ []) u ≡ None → u ≡ None
        by None e = refl
        by (Some t) e = absurd cc

    -- where the pointer at a location leads
    abbrev Led : Option Left → Left → Type 0
    Led None m = locate S (body.Follow (L m)) ≡ Some None
    Led (Some t) m = (locate S (body.Follow (L m)) ≡ locate S (L t)) × Own-left t × (plain_left (L t) ≡ true)

    follow-at : (m : Left) (l : Location) (o : Option Location) → locate S (L m) ≡ Some (Some l) → pointed (w.places.pointers l) (a.store.targets l) ≡ o → locate S (body.Follow (L m)) ≡ Some o
    follow-at m l o e f = ap (λ z. behind z (λ l. Some (pointed (w.places.pointers l) (a.store.targets l)))) e ∙ ap Some f

    led-at : (m : Left) (t : Option Left) (o : Option Location) → locate S (body.Follow (L m)) ≡ Some o → LeadsTo home p constant i q t o → Led t m
    led-at m None o e h = e ∙ ap Some h
    led-at m (Some t) o e h = (e ∙ (ap Some h.1 ∙ sym (h.2 signals a fixed)), h.3, h.4)

    led-placed : (r : Place) (t : Option Left) (m : Left) → Led t m → Led (option_map (placed r) t) m
    led-placed r None m h = h
    led-placed r (Some t) m h = (h.0 ∙ ap (locate S) (sym (placed-left r t)), placed-own r t h.1, ap plain_left (placed-left r t) ∙ h.2)

    leads-is : (m : Left) (r : Place) (n : ℕ) (c : program.Cell) (o : Option Location) (t : Option Left) → slice_get p.cells n ≡ Some c → is_pointer c.sort ≡ true → o ≡ a.store.targets (cell_location home p c)
        → locate S (body.Follow (L m)) ≡ Some o → leads_to s r n ≡ Made t → Led t m
    leads-is m r n c o t at pointer eo follow e = by (local n) refl e
      where
        sorts : (u : program.Sort) → is_pointer u ≡ true → c.sort ≡ u → c.name.own ≡ None → left_by r (Some u) ≡ t → Led t m
        sorts (Pointer (Some path)) h es own el = subst (λ t. Led t m) el (follow ∙ ap Some (eo ∙ known.top n c (Some path) at own es), (λ o e. absurd cc), refl)
        sorts (Pointer None) h es own el = subst (λ t. Led t m) el (follow ∙ ap Some (eo ∙ known.top n c None at own es))
        sorts program.Input h es own el = absurd cc
        sorts program.Output h es own el = absurd cc
        sorts program.Signal h es own el = absurd cc
        sorts (program.Variable x b) h es own el = absurd cc
        sorts (program.Local j) h es own el = absurd cc
        sorts (program.Port path) h es own el = absurd cc

        own-none : (u : Option Own) → is_some u ≡ false → u ≡ None
        own-none None e = refl
        own-none (Some o) e = absurd cc

        made : {A : Type 0} (b : Bool) (x : Refusal) (y z : A) → (if b then Stopped x else Made y) ≡ Made z → (b ≡ false) × (y ≡ z)
        made true x y z e = absurd (stopped-not x z e)
        made false x y z e = (refl, made-is e)

        by : (u : Option (Option Left)) → local n ≡ u → led_by s r n u ≡ Made t → Led t m
        by (Some x) el e = subst (λ t. Led t m) (made-is e) (led-placed r x m (led-at m x (a.store.targets (cell_location home p c)) (follow ∙ ap Some eo) (known.here n c x at pointer el)))
        by None el e =
            let x = made (is_local_name (slice_get p.cells n)) (refused reason.EmptyPointer r) (left_by r (option_map (λ c. c.sort) (slice_get p.cells n))) t e in
            let none : is_local_name (Some c) ≡ false = ap is_local_name (sym at) ∙ x.0 in
            sorts c.sort pointer refl (own-none c.name.own none) (ap (λ u. left_by r (option_map (λ c. c.sort) u)) (sym at) ∙ x.1)

    pointed-is : (m : Left) (t : Option Left) → Own-left m → plain_left (L m) ≡ true → pointed_there s m ≡ Made t → Led t m
    pointed-is m t own plain e =
        let x = unless-stopped (unwrap_or (option_map is_open (pattern p.cells m)) false) (refused reason.StaticIndex (place_at m)) (pointer_there s (place_at m) (option_and_then (λ q. cell_at true 0 q p.cells) (pattern p.cells m))) t e in
        by (pattern p.cells m) refl x.0 x.1
      where
        nothing : (u : Option Left) → Made None ≡ Made u → locate S (body.Follow (L m)) ≡ Some None → Led u m
        nothing u e f = subst (λ u. Led u m) (made-is e) f

        there : (l : Location) (r : List Step) → locate S (L m) ≡ Some (Some l) → Names home i q l r → (u : Option ℕ) → cell_at true 0 r p.cells ≡ u → pointer_there s (place_at m) u ≡ Made t → Led t m
        there l r el names None ec e =
            let f : cell_there home p true l ≡ None = apart.found true l r names ∙ ap (option_and_then (slice_get p.cells)) ec in
            nothing t e (follow-at m l None el (ap (λ c. pointed (is_some c) (a.store.targets l)) f))
        there l r el names (Some n) ec e =
            let f = found_cell true 0 r p.cells n ec in
            let k : f.0 ≡ n = let g = f.2 in omega (arith, g) in
            let at : slice_get p.cells n ≡ Some f.1 = subst (λ j. slice_get p.cells j ≡ Some f.1) k f.3 in
            let c : cell_there home p true l ≡ Some f.1 = apart.found true l r names ∙ (ap (option_and_then (slice_get p.cells)) ec ∙ at) in
            let test = find-test (λ c. same (cell_location home p c) l && is_pointer c.sort) p.cells f.1 c in
            let here : cell_location home p f.1 ≡ l = same-is (cell_location home p f.1) l (and-first (same (cell_location home p f.1) l) (is_pointer f.1.sort) test) in
            leads-is m (place_at m) n f.1 (a.store.targets l) t at (and-second (same (cell_location home p f.1) l) (is_pointer f.1.sort) test) (ap a.store.targets (sym here))
            (follow-at m l (a.store.targets l) el (ap (λ c. pointed (is_some c) (a.store.targets l)) c)) e

        by : (u : Option (List Step)) → pattern p.cells m ≡ u → unwrap_or (option_map is_open u) false ≡ false → pointer_there s (place_at m) (option_and_then (λ q. cell_at true 0 q p.cells) u) ≡ Made t → Led t m
        by None ep cl e = nothing t e (ap (λ z. behind z (λ l. Some (pointed (w.places.pointers l) (a.store.targets l)))) (no-pattern m plain ep))
        by (Some r) ep cl e = let k = pattern-is m r own ep cl in there k.0 r k.1 k.2 (cell_at true 0 r p.cells) refl e

    -- a location that is walked
    abbrev pub WalkTo : Option Left → Left → Type 0
    WalkTo None l = locate S (L l) ≡ Some None
    WalkTo (Some m) l = (locate S (L l) ≡ locate S (L m)) × Own-left m × (plain_left (L m) ≡ true)

    follow-same : (r : Place) (own soft : Bool) (l : Left) (x : Option Left) (t o : Option Left) → WalkTo x l → behind_left x (pointed_there s) ≡ Made t → or_null soft r t (λ m. Made (Some (placed r m))) ≡ Made o → WalkTo o (Follow r own l)
    follow-same r own soft l None t o walk e f =
        let z : None ≡ t = made-is e in
        nulls soft (subst (λ t. or_null soft r t (λ m. Made (Some (placed r m))) ≡ Made o) (sym z) f)
      where
        nulls : (soft : Bool) → or_null soft r None (λ m. Made (Some (placed r m))) ≡ Made o → WalkTo o (Follow r own l)
        nulls true f = subst (λ o. WalkTo o (Follow r own l)) (made-is f) (ap (λ z. behind z (λ l. Some (pointed (w.places.pointers l) (a.store.targets l)))) walk)
        nulls false f = absurd (stopped-not (refused reason.EmptyPointer r) o f)
    follow-same r own soft l (Some m) t o walk e f = by t (pointed-is m t walk.1 walk.2 e) soft f
      where
        along : locate S (L (Follow r own l)) ≡ locate S (body.Follow (L m))
        along = ap (λ z. behind z (λ l. Some (pointed (w.places.pointers l) (a.store.targets l)))) walk.0

        by : (t : Option Left) → Led t m → (soft : Bool) → or_null soft r t (λ m. Made (Some (placed r m))) ≡ Made o → WalkTo o (Follow r own l)
        by None led true f = subst (λ o. WalkTo o (Follow r own l)) (made-is f) (along ∙ led)
        by None led false f = absurd (stopped-not (refused reason.EmptyPointer r) o f)
        by (Some x) led soft f = subst (λ o. WalkTo o (Follow r own l)) (made-is f) (along ∙ (led.0 ∙ ap (locate S) (sym (placed-left r x))), placed-own r x led.1, ap plain_left (placed-left r x) ∙ led.2)

    -- what is read and written at two locations is the same
    pub record Reads (l k : Location) : Type 0 where
      pub loads : loaded (w.places.things l) (a.store.words l) ≡ loaded (w.places.things k) (a.store.words k)
      pub senses : sensed (w.places.things l) signals l ≡ sensed (w.places.things k) signals k
      pub puts : (j : body.Pick) (x : ℕ) → put_at (w.places.things l) S a l j x ≡ put_at (w.places.things k) S a k j x

    reads-same : (l k : Location) → l ≡ k → Reads l k
    reads-same l k e = record {
      loads = ap (λ l. loaded (w.places.things l) (a.store.words l)) e;
      senses = ap (λ l. sensed (w.places.things l) signals l) e;
      puts = λ j x. ap (λ l. put_at (w.places.things l) S a l j x) e;
    }

    abbrev pub Looks : Left → Left → Type 0
    Looks m n = (locate S (L m) ≡ locate S (L n)) ⊎ ((l : Location) × (k : Location) × (locate S (L m) ≡ Some (Some l)) × (locate S (L n) ≡ Some (Some k)) × Reads l k)

    -- a port below the top stands for its root
    port-reads : (l k : Location) (j j' : Kind) → w.places.things l ≡ Some (Port j k) → w.places.things k ≡ Some (Signal j') → Reads l k
    port-reads l k j j' e f = record {
      loads = ap (λ t. loaded t (a.store.words l)) e ∙ sym (ap (λ t. loaded t (a.store.words k)) f);
      senses = ap (λ t. sensed t signals l) e ∙ sym (ap (λ t. sensed t signals k) f);
      puts = λ b x. ap (λ t. put_at t S a l b x) e ∙ (by b x ∙ sym (ap (λ t. put_at t S a k b x) f));
    }
      where
        some : (u : Option ℕ) (g h : ℕ → ℕ) (x : ℕ) → option_map (λ z. asked a k x) (option_map g u) ≡ option_map (λ z. asked a k x) (option_map h u)
        some None g h x = refl
        some (Some y) g h x = refl

        by : (b : body.Pick) (x : ℕ) → put_at (Some (Port j k)) S a l b x ≡ put_at (Some (Signal j')) S a k b x
        by body.Whole x = refl
        by (body.OneBit e) x = some (value S e) (λ i. with_bit (width_of j) 0 (index_of (expr_kind e) i) x) (λ i. with_bit (width_of j') 0 (index_of (expr_kind e) i) x) x
        by (body.Bits hi lo) x = refl

    things-of : (c : program.Cell) (l : Location) → cell_there home p false l ≡ Some c → w.places.things l ≡ thing_of home p c c.sort
    things-of c l e = ap (option_and_then (λ c. thing_of home p c c.sort)) e

    root-thing : (c : program.Cell) (t : program.Sort) → is_root t ≡ true → thing_of home p c t ≡ Some (Signal c.kind)
    root-thing c program.Input e = refl
    root-thing c program.Output e = refl
    root-thing c program.Signal e = refl
    root-thing c (program.Variable x b) e = absurd cc
    root-thing c (program.Local j) e = absurd cc
    root-thing c (Pointer t) e = absurd cc
    root-thing c (program.Port r) e = absurd cc

    abbrev CellAt : ℕ → Location → Type 0
    CellAt n l = cell_left home p.cells i (slice_get p.cells n) ≡ body.At l

    -- the cell of a whole name, or its root
    root-reads : (r : Place) (l : Location) (n : ℕ) (c : program.Cell) → slice_get p.cells n ≡ Some c → cell_there home p false l ≡ Some c → location_of home i c.name ≡ l
        → (k : Location) × (locate S (L (Cell r (root_of p.cells n))) ≡ Some (Some k)) × Reads l k
    root-reads r l n c at there here = by c.sort refl
      where
        self : (u : ℕ) → u ≡ n → (k : Location) × (locate S (L (Cell r u)) ≡ Some (Some k)) × Reads l k
        self u e = (location_of home i c.name, ap (λ u. locate S (L (Cell r u))) e ∙ ap (λ o. locate S (cell_left home p.cells i o)) at, reads-same l (location_of home i c.name) (sym here))

        rooted : (t : program.Sort) → c.sort ≡ t → root_of p.cells n ≡ root_of_sort p.cells t n
        rooted t e = ap (λ o. unwrap_or (option_map (λ s. root_of_sort p.cells s n) (option_map (λ c. c.sort) o)) n) at ∙ ap (λ s. root_of_sort p.cells s n) e

        by : (t : program.Sort) → c.sort ≡ t → (k : Location) × (locate S (L (Cell r (root_of p.cells n))) ≡ Some (Some k)) × Reads l k
        by program.Input e = self (root_of p.cells n) (rooted program.Input e)
        by program.Output e = self (root_of p.cells n) (rooted program.Output e)
        by program.Signal e = self (root_of p.cells n) (rooted program.Signal e)
        by (program.Variable x b) e = self (root_of p.cells n) (rooted (program.Variable x b) e)
        by (program.Local j) e = self (root_of p.cells n) (rooted (program.Local j) e)
        by (Pointer t) e = self (root_of p.cells n) (rooted (Pointer t) e)
        by (program.Port path) e =
            let f = apart.ports n c path at e in
            let m : root_of p.cells n ≡ f.0 = rooted (program.Port path) e ∙ ap (λ o. unwrap_or o n) f.2 in
            let name : CellName = record { path = path; own = None; indices = [] } in
            let steps : steps_of name ≡ path_steps path = append-none (map part_step path) in
            let g = found_cell false 0 (path_steps path) p.cells f.0 f.2 in
            let k : g.0 ≡ f.0 = let h = g.2 in omega (arith, h) in
            let gy : g.1 ≡ f.1 = some-is (sym (subst (λ j. slice_get p.cells j ≡ Some g.1) k g.3) ∙ f.3) in
            let fit : fits (steps_of name) (steps_of f.1.name) ≡ true = (λ z. fits (steps z) (steps_of (sym gy z).name)) ∙ g.4 in
            let place : at_top path ≡ location_of home i f.1.name = same_name home i name f.1.name fit in
            let there' : cell_there home p false (at_top path) ≡ Some f.1 = apart.found false (at_top path) (steps_of name) (base name (λ o e. absurd cc)) ∙ (ap (λ t. option_and_then (slice_get p.cells) (cell_at false 0 t p.cells)) steps ∙ (ap (option_and_then (slice_get p.cells)) f.2 ∙ f.3)) in (
              at_top path,
              ap (λ u. locate S (L (Cell r u))) m ∙ (ap (λ o. locate S (cell_left home p.cells i o)) f.3 ∙ ap (λ l. Some (Some l)) (sym place)),
              port-reads l (at_top path) c.kind f.1.kind (things-of c l there ∙ ap (thing_of home p c) e) (things-of f.1 (at_top path) there' ∙ root-thing f.1 f.1.sort f.4),
            )

    left-plain : (r : Place) (n : ℕ) → plain_left (L (Cell r n)) ≡ true
    left-plain r n = by (slice_get p.cells n)
      where
        by : (u : Option program.Cell) → plain_left (cell_left home p.cells i u) ≡ true
        by None = refl
        by (Some c) = refl

    -- a pointer by its name stands where its cell stands
    nameless : (n : Left) → (locate S (L n) ≡ locate S (L (without_pointer p.cells n))) × (plain_left (L n) ≡ plain_left (L (without_pointer p.cells n)))
    nameless (Cell r n) = by (slice_get p.cells n) refl
      where
        by : (u : Option program.Cell) → slice_get p.cells n ≡ u → (locate S (L (Cell r n)) ≡ locate S (L (named_pointer r n u))) × (plain_left (L (Cell r n)) ≡ plain_left (L (named_pointer r n u)))
        by None e = (refl, refl)
        by (Some c) e = name (is_pointer c.sort)
          where
            name : (b : Bool) → (locate S (L (Cell r n)) ≡ locate S (L (if b then Prefix r c.name else Cell r n))) × (plain_left (L (Cell r n)) ≡ plain_left (L (if b then Prefix r c.name else Cell r n)))
            name true = (ap (λ o. locate S (cell_left home p.cells i o)) e, ap (λ o. plain_left (cell_left home p.cells i o)) e)
            name false = (refl, refl)
    nameless (Prefix r k) = (refl, refl)
    nameless (Null r) = (refl, refl)
    nameless (Follow r t l) = (refl, refl)
    nameless (term.Member l k) = (refl, refl)
    nameless (Index l t e) = (refl, refl)

    looks-nameless : (m n : Left) → Looks m n × (plain_left (L n) ≡ true) → Looks m (without_pointer p.cells n) × (plain_left (L (without_pointer p.cells n)) ≡ true)
    looks-nameless m n (inl x, plain) = let u = nameless n in (inl (x ∙ u.0), sym u.1 ∙ plain)
    looks-nameless m n (inr x, plain) = let u = nameless n in (inr (x.0, x.1, x.2, sym u.0 ∙ x.3, x.4), sym u.1 ∙ plain)

    pub looked-is : (m n : Left) → Own-left m → plain_left (L m) ≡ true → looked s m ≡ Made n → Looks m n × (plain_left (L n) ≡ true)
    looked-is m n own plain e =
        let x = unless-stopped (unwrap_or (option_map chooses_object (pattern p.cells m)) false) (refused reason.StaticIndex (place_at m)) (Made (without_pointer p.cells (whole p.cells p.vectors false m))) n e in
        subst (λ n. Looks m n × (plain_left (L n) ≡ true)) (made-is x.1) (looks-nameless m (whole p.cells p.vectors false m) (by m own plain))
      where
        named-by : (r : Place) (k : CellName) → IsName q k → (u : Option ℕ) → cell_at false 0 (steps_of k) p.cells ≡ u
            → Looks (Prefix r k) (unwrap_or (option_map (λ c. Cell r (root_of p.cells c)) u) (Prefix r k)) × (plain_left (L (unwrap_or (option_map (λ c. Cell r (root_of p.cells c)) u) (Prefix r k))) ≡ true)
        named-by r k own None e = (inl refl, refl)
        named-by r k own (Some n) e =
            let f = found_cell false 0 (steps_of k) p.cells n e in
            let j : f.0 ≡ n = let g = f.2 in omega (arith, g) in
            let at : slice_get p.cells n ≡ Some f.1 = subst (λ j. slice_get p.cells j ≡ Some f.1) j f.3 in
            let l = location_of home i k in
            let there : cell_there home p false l ≡ Some f.1 = apart.found false l (steps_of k) (base k own) ∙ (ap (option_and_then (slice_get p.cells)) e ∙ at) in
            let x = root-reads r l n f.1 at there (sym (same_name home i k f.1.name f.4)) in
            (inr (l, x.0, refl, x.1, x.2), left-plain r (root_of p.cells n))

        cell-by : (r : Place) (n : ℕ) → (u : Option program.Cell) → slice_get p.cells n ≡ u → IsCellName q p.cells u → Looks (Cell r n) (Cell r (root_of p.cells n))
        cell-by r n None e own = inl (ap (λ n. locate S (L (Cell r n))) (sym (ap (λ o. unwrap_or (option_map (λ s. root_of_sort p.cells s n) (option_map (λ c. c.sort) o)) n) e)))
        cell-by r n (Some c) e own = pointers (is_pointer c.sort) refl
          where
            none : (t : program.Sort) → is_pointer t ≡ true → root_of_sort p.cells t n ≡ n
            none (Pointer t) h = refl
            none program.Input h = absurd cc
            none program.Output h = absurd cc
            none program.Signal h = absurd cc
            none (program.Variable x b) h = absurd cc
            none (program.Local j) h = absurd cc
            none (program.Port t) h = absurd cc

            pointers : (b : Bool) → is_pointer c.sort ≡ b → Looks (Cell r n) (Cell r (root_of p.cells n))
            pointers true h = inl (ap (λ n. locate S (L (Cell r n))) (sym (ap (λ o. unwrap_or (option_map (λ s. root_of_sort p.cells s n) (option_map (λ c. c.sort) o)) n) e ∙ none c.sort h)))
            pointers false h =
                let l = location_of home i c.name in
                let there : cell_there home p false l ≡ Some c = apart.found false l (steps_of c.name) (base c.name own) ∙ (ap (option_and_then (slice_get p.cells)) (apart.whole false n c e h) ∙ e) in
                let x = root-reads r l n c e there refl in
                inr (l, x.0, ap (λ o. locate S (cell_left home p.cells i o)) e, x.1, x.2)

        by : (m : Left) → Own-left m → plain_left (L m) ≡ true → Looks m (whole p.cells p.vectors false m) × (plain_left (L (whole p.cells p.vectors false m)) ≡ true)
        by (Cell r n) own plain = (cell-by r n (slice_get p.cells n) refl own, left-plain r (root_of p.cells n))
        by (Prefix r k) own plain = named-by r k own (cell_at false 0 (steps_of k) p.cells) refl
        by (Null r) own plain = (inl refl, plain)
        by (Follow r t l) own plain = (inl refl, plain)
        by (term.Member l k) own plain = (inl refl, plain)
        by (Index l t e) own plain = (inl refl, plain)

    read-by : {A : Type 0} (f : Location → A) (l m n : Left) → locate S (L l) ≡ locate S (L m) → Looks m n → ((x y : Location) → Reads x y → f x ≡ f y) → option_map f (followed (locate S (L l))) ≡ option_map f (followed (locate S (L n)))
    read-by f l m n e (inl x) h = ap (λ z. option_map f (followed z)) (e ∙ x)
    read-by f l m n e (inr x) h = ap (λ z. option_map f (followed z)) (e ∙ x.2) ∙ (ap Some (h x.0 x.1 x.4) ∙ sym (ap (λ z. option_map f (followed z)) x.3))

    pub record SameTerm (e x : Term) : Type 0 where
      pub value : value S (E e) ≡ value S (E x)
      pub kind : expr_kind (E e) ≡ expr_kind (E x)
      pub plain : plain_expr (E x) ≡ true
      pub own_kind : kind_of e ≡ kind_of x
      pub kinded : IsKinded x

    base-kinded : (m : Left) → Own-left m → IsKindedLeft m
    base-kinded (Cell r n) h = tt
    base-kinded (Prefix r n) h = tt
    base-kinded (Null r) h = tt
    base-kinded (Follow r t l) h = base-kinded l h
    base-kinded (term.Member l n) h = base-kinded l h
    base-kinded (Index l t e) h = (base-kinded l h.0, h.1)

    looked-kinded : (m n : Left) → IsKindedLeft m → looked s m ≡ Made n → IsKindedLeft n
    looked-kinded m n h e =
        let x = unless-stopped (unwrap_or (option_map chooses_object (pattern p.cells m)) false) (refused reason.StaticIndex (place_at m)) (Made (without_pointer p.cells (whole p.cells p.vectors false m))) n e in
        subst IsKindedLeft (made-is x.1) (by m h)
      where
        cell : (r : Place) (n : ℕ) → (u : Option program.Cell) → IsKindedLeft (named_pointer r n u)
        cell r n None = tt
        cell r n (Some c) = test (is_pointer c.sort)
          where
            test : (b : Bool) → IsKindedLeft (if b then Prefix r c.name else Cell r n)
            test true = tt
            test false = tt

        found : (r : Place) (k : CellName) (u : Option ℕ) → IsKindedLeft (without_pointer p.cells (unwrap_or (option_map (λ c. Cell r (root_of p.cells c)) u) (Prefix r k)))
        found r k None = tt
        found r k (Some n) = cell r (root_of p.cells n) (slice_get p.cells (root_of p.cells n))

        by : (m : Left) → IsKindedLeft m → IsKindedLeft (without_pointer p.cells (whole p.cells p.vectors false m))
        by (Cell r n) h = cell r (root_of p.cells n) (slice_get p.cells (root_of p.cells n))
        by (Prefix r k) h = found r k (cell_at false 0 (steps_of k) p.cells)
        by (Null r) h = h
        by (Follow r t l) h = h
        by (term.Member l n) h = h
        by (Index l t e) h = h

    bit-is : (o : Place) (e j y : Term) → ((x : Term) → resolved s e ≡ Made x → SameTerm e x) → ((x : Term) → resolved s j ≡ Made x → SameTerm j x)
        → and_made (resolved s e) (λ x. made_map (Bit o x) (resolved s j)) ≡ Made y → SameTerm (Bit o e j) y
    bit-is o e j y he hj h =
        let a = and-is (resolved s e) (λ x. made_map (Bit o x) (resolved s j)) y h in
        let b = made-map-is (Bit o a.0) (resolved s j) y a.2 in
        let u = he a.0 a.1 in
        let v = hj b.0 b.1 in
        subst (SameTerm (Bit o e j)) b.2 (record {
          value = λ z. with_two (u.value z) (v.value z) (λ x n. Some (bit_at (width_of (u.kind z)) x (index_of (v.kind z) n)));
          kind = refl;
          plain = both (plain_expr (E a.0)) (plain_expr (E b.0)) u.plain v.plain;
          own_kind = refl;
          kinded = (u.kinded, v.kinded);
        })

    mutual
      pub term-is : (e y : Term) → OwnNames q p.cells e → resolved s e ≡ Made y → SameTerm e y
      term-is (Literal o k x) y own h = subst (SameTerm (Literal o k x)) (made-is h) (record { value = refl; kind = refl; plain = refl; own_kind = refl; kinded = tt })
      term-is (Load o k l) y own h =
          let a = and-is (walked s false l) (λ o. sure (place_at l) o (λ m. made_map (Load _ k) (looked s m))) y h in
          let b = sure-is (place_at l) a.0 (λ m. made_map (Load o k) (looked s m)) y a.2 in
          let c = made-map-is (Load o k) (looked s b.0) y b.2 in
          let x : WalkTo (Some b.0) l = subst (λ u. WalkTo u l) b.1 (walk-is false l a.0 own a.1) in
          let n = looked-is b.0 c.0 x.1 x.2 c.1 in
          subst (SameTerm (Load o k l)) c.2 (record { value = read-by (λ l. loaded (w.places.things l) (a'.store.words l)) l b.0 c.0 x.0 n.0 (λ x y r. r.loads); kind = refl; plain = n.1; own_kind = refl; kinded = looked-kinded b.0 c.0 (base-kinded b.0 x.1) c.1 })
        where
          a' : Held
          a' = a
      term-is (Read o k l) y own h =
          let a = and-is (walked s false l) (λ u. sure (place_at l) u (λ m. made_map (Read o k) (looked s m))) y h in
          let b = sure-is (place_at l) a.0 (λ m. made_map (Read o k) (looked s m)) y a.2 in
          let c = made-map-is (Read o k) (looked s b.0) y b.2 in
          let x : WalkTo (Some b.0) l = subst (λ u. WalkTo u l) b.1 (walk-is false l a.0 own a.1) in
          let n = looked-is b.0 c.0 x.1 x.2 c.1 in
          subst (SameTerm (Read o k l)) c.2 (record { value = read-by (λ l. sensed (w.places.things l) signals l) l b.0 c.0 x.0 n.0 (λ x y r. r.senses); kind = refl; plain = n.1; own_kind = refl; kinded = looked-kinded b.0 c.0 (base-kinded b.0 x.1) c.1 })
      term-is (Convert o k e) y own h =
          let a = made-map-is (Convert o k) (resolved s e) y h in
          let u = term-is e a.0 own a.1 in
          subst (SameTerm (Convert o k e)) a.2 (record { value = λ z. option_map (λ x. stored k (number_of (u.kind z) x)) (u.value z); kind = refl; plain = u.plain; own_kind = refl; kinded = u.kinded })
      term-is (Unary o k op e) y own h =
          let a = made-map-is (Unary o k op) (resolved s e) y h in
          let u = term-is e a.0 own.1 a.1 in
          subst (SameTerm (Unary o k op e)) a.2 (record { value = λ z. option_and_then (λ x. applied op (u.kind z) x (u.kind z) x) (u.value z); kind = ap (λ z. kind_or (operator_kind op z z)) u.kind; plain = u.plain; own_kind = refl; kinded = ((λ z. operator_kind op (sym u.own_kind z) (sym u.own_kind z)) ∙ own.0, u.kinded) })
      term-is (Binary o k op e f) y own h =
          let a = and-is (resolved s e) (λ x. made_map (Binary o k op x) (resolved s f)) y h in
          let b = made-map-is (Binary o k op a.0) (resolved s f) y a.2 in
          let u = term-is e a.0 own.1 a.1 in
          let v = term-is f b.0 own.2 b.1 in
          subst (SameTerm (Binary o k op e f)) b.2 (record {
            value = λ z. with_two (u.value z) (v.value z) (λ x y. applied op (u.kind z) x (v.kind z) y);
            kind = λ z. kind_or (operator_kind op (u.kind z) (v.kind z));
            plain = both (plain_expr (E a.0)) (plain_expr (E b.0)) u.plain v.plain;
            own_kind = refl;
            kinded = ((λ z. operator_kind op (sym u.own_kind z) (sym v.own_kind z)) ∙ own.0, u.kinded, v.kinded);
          })
      term-is (Choose o k t e f) y own h =
          let d = and-is (resolved s t) (λ n. and_made (resolved s e) (λ x. made_map (Choose o k n x) (resolved s f))) y h in
          let a = and-is (resolved s e) (λ x. made_map (Choose o k d.0 x) (resolved s f)) y d.2 in
          let b = made-map-is (Choose o k d.0 a.0) (resolved s f) y a.2 in
          let r = term-is t d.0 own.0 d.1 in
          let u = term-is e a.0 own.1 a.1 in
          let v = term-is f b.0 own.2 b.1 in
          subst (SameTerm (Choose o k t e f)) b.2 (record {
            value = λ z. option_and_then (λ n. with_two (u.value z) (v.value z) (λ x y. Some (chosen n (stored k (number_of (u.kind z) x)) (stored k (number_of (v.kind z) y))))) (r.value z);
            kind = refl;
            plain = both (plain_expr (E d.0)) (plain_expr (E a.0) && plain_expr (E b.0)) r.plain (both (plain_expr (E a.0)) (plain_expr (E b.0)) u.plain v.plain);
            own_kind = refl;
            kinded = (r.kinded, u.kinded, v.kinded);
          })
      term-is (Bit o (Load r k l) j) y own h =
          let a = and-is (walked s false l) (λ u. sure (place_at l) u (λ m. and_made (resolved s j) (λ i. made_map (λ n. Bit o (Load r k n) i) (looked s m)))) y h in
          let b = sure-is (place_at l) a.0 (λ m. and_made (resolved s j) (λ i. made_map (λ n. Bit o (Load r k n) i) (looked s m))) y a.2 in
          let d = and-is (resolved s j) (λ i. made_map (λ n. Bit o (Load r k n) i) (looked s b.0)) y b.2 in
          let c = made-map-is (λ n. Bit o (Load r k n) d.0) (looked s b.0) y d.2 in
          let x : WalkTo (Some b.0) l = subst (λ u. WalkTo u l) b.1 (walk-is false l a.0 own.0 a.1) in
          let n = looked-is b.0 c.0 x.1 x.2 c.1 in
          let v = term-is j d.0 own.1 d.1 in
          let loads = read-by (λ l. loaded (w.places.things l) (a'.store.words l)) l b.0 c.0 x.0 n.0 (λ x y r. r.loads) in
          subst (SameTerm (Bit o (Load r k l) j)) c.2 (record {
            value = λ z. with_two (loads z) (v.value z) (λ x n. Some (bit_at (width_of k) x (index_of (v.kind z) n)));
            kind = refl;
            plain = both (plain_left (L c.0)) (plain_expr (E d.0)) n.1 v.plain;
            own_kind = refl;
            kinded = (looked-kinded b.0 c.0 (base-kinded b.0 x.1) c.1, v.kinded);
          })
        where
          a' : Held
          a' = a
      term-is (Bit o (Literal r k x) j) y own h = bit-is o (Literal r k x) j y (λ u. term-is (Literal r k x) u own.0) (λ u. term-is j u own.1) h
      term-is (Bit o (Read r k l) j) y own h = bit-is o (Read r k l) j y (λ u. term-is (Read r k l) u own.0) (λ u. term-is j u own.1) h
      term-is (Bit o (Convert r k e) j) y own h = bit-is o (Convert r k e) j y (λ u. term-is (Convert r k e) u own.0) (λ u. term-is j u own.1) h
      term-is (Bit o (Unary r k op e) j) y own h = bit-is o (Unary r k op e) j y (λ u. term-is (Unary r k op e) u own.0) (λ u. term-is j u own.1) h
      term-is (Bit o (Binary r k op e f) j) y own h = bit-is o (Binary r k op e f) j y (λ u. term-is (Binary r k op e f) u own.0) (λ u. term-is j u own.1) h
      term-is (Bit o (Choose r k t e f) j) y own h = bit-is o (Choose r k t e f) j y (λ u. term-is (Choose r k t e f) u own.0) (λ u. term-is j u own.1) h
      term-is (Bit o (Bit r e f) j) y own h = bit-is o (Bit r e f) j y (λ u. term-is (Bit r e f) u own.0) (λ u. term-is j u own.1) h
      term-is (Bit o (Range r k e hi lo) j) y own h = bit-is o (Range r k e hi lo) j y (λ u. term-is (Range r k e hi lo) u own.0) (λ u. term-is j u own.1) h
      term-is (Bit o (Join r k e f) j) y own h = bit-is o (Join r k e f) j y (λ u. term-is (Join r k e f) u own.0) (λ u. term-is j u own.1) h
      term-is (Range o k e hi lo) y own h =
          let a = made-map-is (λ x. Range o k x hi lo) (resolved s e) y h in
          let u = term-is e a.0 own a.1 in
          subst (SameTerm (Range o k e hi lo)) a.2 (record { value = ap (option_map (part hi lo)) u.value; kind = refl; plain = u.plain; own_kind = refl; kinded = u.kinded })
      term-is (Join o k e f) y own h =
          let a = and-is (resolved s e) (λ x. made_map (Join o k x) (resolved s f)) y h in
          let b = made-map-is (Join o k a.0) (resolved s f) y a.2 in
          let u = term-is e a.0 own.0 a.1 in
          let v = term-is f b.0 own.1 b.1 in
          subst (SameTerm (Join o k e f)) b.2 (record {
            value = λ z. with_two (u.value z) (v.value z) (λ x y. Some (joined (width_of (v.kind z)) x y));
            kind = refl;
            plain = both (plain_expr (E a.0)) (plain_expr (E b.0)) u.plain v.plain;
            own_kind = refl;
            kinded = (u.kinded, v.kinded);
          })

      pub walk-is : (soft : Bool) (l : Left) (o : Option Left) → OwnLeft q p.cells l → walked s soft l ≡ Made o → WalkTo o l
      walk-is soft (Cell r n) o own h = subst (λ o. WalkTo o (Cell r n)) (made-is h) (refl, own, left-plain r n)
      walk-is soft (Prefix r n) o own h = subst (λ o. WalkTo o (Prefix r n)) (made-is h) (refl, own, refl)
      walk-is soft (Null r) o own h = subst (λ o. WalkTo o (Null r)) (made-is h) refl
      walk-is soft (Follow r t l) o own h =
          let a = and-is (walked s (soft || t) l) (λ o. and_made (behind_left o (pointed_there s)) (λ u. or_null soft r u (λ m. Made (Some (placed r m))))) o h in
          let b = and-is (behind_left a.0 (pointed_there s)) (λ u. or_null soft r u (λ m. Made (Some (placed r m)))) o a.2 in
          follow-same r t soft l a.0 b.0 o (walk-is (soft || t) l a.0 own a.1) b.1 b.2
      walk-is soft (term.Member l n) o own h =
          let a = and-is (walked s soft l) (λ o. behind_left o (λ m. Made (Some (member_of p.cells p.vectors (as_name p.cells p.vectors m) n)))) o h in
          by a.0 (walk-is soft l a.0 own a.1) a.2
        where
          by : (u : Option Left) → WalkTo u l → behind_left u (λ m. Made (Some (member_of p.cells p.vectors (as_name p.cells p.vectors m) n))) ≡ Made o → WalkTo o (term.Member l n)
          by None x h = subst (λ o. WalkTo o (term.Member l n)) (made-is h) (ap (λ z. behind z (λ k. Some (Some (within k (Member n))))) x)
          by (Some m) x h = subst (λ o. WalkTo o (term.Member l n)) (made-is h) (
            ap (λ z. behind z (λ k. Some (Some (within k (Member n))))) x.0 ∙ (ap (λ l. locate S (body.Field l n)) (sym (name-left m)) ∙ sym (member-same (as_name p.cells p.vectors m) n)),
            member-own (as_name p.cells p.vectors m) n (name-own m x.1),
            member-plain (as_name p.cells p.vectors m) n (ap plain_left (name-left m) ∙ x.2),
          )
      walk-is soft (Index l size e) o own h =
          let a = and-is (walked s soft l) (λ o. behind_left o (λ m. made_map (λ x. Some (element_of p.cells p.vectors (as_name p.cells p.vectors m) size x)) (resolved s e))) o h in
          by a.0 (walk-is soft l a.0 own.0 a.1) (λ y. term-is e y own.1) a.2
        where
          by : (u : Option Left) → WalkTo u l → ((y : Term) → resolved s e ≡ Made y → SameTerm e y)
              → behind_left u (λ m. made_map (λ x. Some (element_of p.cells p.vectors (as_name p.cells p.vectors m) size x)) (resolved s e)) ≡ Made o → WalkTo o (Index l size e)
          by None x t h = subst (λ o. WalkTo o (Index l size e)) (made-is h) (ap (λ z. behind z (λ k. option_map (λ x. Some (within k (Element (index_of (expr_kind (E e)) x)))) (value S (E e)))) x)
          by (Some m) x t h =
              let b = made-map-is (λ x. Some (element_of p.cells p.vectors (as_name p.cells p.vectors m) size x)) (resolved s e) o h in
              let y = b.0 in
              let u = t y b.1 in
              let n = as_name p.cells p.vectors m in
              let size' = size_of p.cells p.vectors size n in
              let known-index : (j : ℕ) → in_range p.cells p.vectors size' (static_index p.cells p.vectors y) ≡ Some j → option_map (λ v. index_of (expr_kind (E y)) v) (value S (E y)) ≡ Some j =
              λ j e. index-is y u.kinded j (ranged size' (static_index p.cells p.vectors y) j e) in
              let g = element-same n size' y (in_range p.cells p.vectors size' (static_index p.cells p.vectors y)) known-index (name-own m x.1, u.kinded) (both (plain_left (L n)) (plain_expr (E y)) (ap plain_left (name-left m) ∙ x.2) u.plain) in
              subst (λ o. WalkTo o (Index l size e)) b.2 (
                (λ z. behind (x.0 z) (λ k. option_map (λ v. Some (within k (Element (index_of (u.kind z) v)))) (u.value z)))
                    ∙ (ap (λ l. locate S (body.Indexed l (E y))) (sym (name-left m)) ∙ sym g.same),
                g.own,
                g.plain,
              )
            where
              ranged : (size : ℕ) (u : Option ℕ) (j : ℕ) → in_range p.cells p.vectors size u ≡ Some j → u ≡ Some j
              ranged size None j e = absurd cc
              ranged size (Some k) j e = test (nat_lt k size) e
                where
                  test : (b : Bool) → (if b then Some k else None) ≡ Some j → Some k ≡ Some j
                  test true e = e
                  test false e = absurd cc

              index-is : (y : Term) → IsKinded y → (j : ℕ) → static_index p.cells p.vectors y ≡ Some j → option_map (λ v. index_of (expr_kind (E y)) v) (value S (E y)) ≡ Some j
              index-is y t j e =
                  let m = map-is (static p.cells y) (λ v. index_of (kind_of y) v) j e in
                  (λ z. option_map (λ v. index_of (kinds-are home is_home p constant i q named signals a fixed y t z) v) (statics y m.0 t m.1 z)) ∙ ap Some m.2
