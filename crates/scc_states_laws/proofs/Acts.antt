-- What code does to registers by cells is what it does to what the process holds.
use Rattle.std.proofs.Common.{◌≡◌, ◌≢◌, ◌⊎◌, inl, inr, ℕ, zero, suc, Bool, true, false, List, [], ◌∷◌, ◌++◌, Option, Some, None, refl, sym, ap, subst, ◌∙◌, arith}
use Rattle.std.specs.Prelude.{slice_get, option_map, option_and_then, nat_eq, unwrap_or, if◌then◌else◌}
use Rattle.std.proofs.lemmas.Bool.Decides.{eqb_tells}
use Rattle.scc_bits_kinds.specs.declared.kind.Kind.{Kind}
use Rattle.scc_bits_kinds.specs.declared.kind.Kind.TheVariants as kind
use Rattle.scc_bits_kinds.specs.Kinds.{width_of}
use Rattle.scc_semantics.specs.Location.{Location, same}
use Rattle.scc_semantics.specs.Store.{Request, changed}
use Rattle.scc_semantics.specs.Scene.{expr_kind, index_of, with_bit, followed}
use Rattle.scc_semantics.specs.Value.{Held, locate, value, put_at, with_words, asked}
use Rattle.scc_semantics.specs.Value as machine
use Rattle.scc_core_spec.specs.Term.{Term, Left, Pick, Whole, OneBit, Bits, kind_of}
use Rattle.scc_core_spec.specs.Program.{Program, Process, Sort, Input, Output, Variable, Local, Pointer, Port, is_root, is_pointer}
use Rattle.scc_core_spec.specs.Program as program
use Rattle.scc_core_spec.specs.Named.{Step, cell_at, path_steps}
use Rattle.scc_core_spec.specs.Static.{Cells}
use Rattle.scc_core_spec.specs.Uses.{root_of, root_of_sort}
use Rattle.scc_core_spec.specs.Source.{Home, cell_location, thing_of, pick_of, at_top}
use Rattle.scc_core_spec.specs.Code.{Code, End, Put, Aim, If, Block, Loop, Exit, Wait}
use Rattle.scc_core_spec.specs.Segments.{Segment, Plain, Test, Halt, Finish}
use Rattle.scc_blocks_spec.specs.Effect as effect
use Rattle.scc_blocks_spec.specs.Effect.{Effect, Ran, effect, run_segment, then_effect, shut, or_lost, branch, assigned, then_ran, choose}
use Rattle.scc_states_path_laws.specs.Moved as moved
use Rattle.scc_states_laws.specs.Same.{SameDone, SameRan}
use Rattle.scc_blocks_spec.specs.Acting.{Acting, word_in, steps_in, cell_named, picked, put_in, with_word, with_asked}
use Rattle.scc_states_path_laws.specs.Moved.{World, around, put_on, word_of, Done, Halted, then_done, shut_done, or_sticks, either_done, then_run, either_halted, effect_on, run_on}
use Rattle.scc_states_laws.specs.Alike.{Names, TellsApart, Alike, IsFit, IsFitLeft, IsFitPick, IsFitCode, IsFitSegment, last_to, or_before}
use Rattle.scc_core_spec.specs.Program.{is_number}
use Rattle.scc_states_laws.proofs.Values.{some_same, map_is, then_is, cell_of, w, E, F, kind_is, thing_at, nothing_at, root_is, port_names, located, valued}

push_if : (b : Bool) (v : ℕ) (o x : Option ℕ) → or_before (if b then Some v else o) x ≡ (if b then Some v else or_before o x)
push_if true v o x = refl
push_if false v o x = refl

last_push : (l : Location) (rs : List Request) (r : Request) → last_to l (rs ++ r ∷ []) ≡ (if same r.root l then Some r.word else last_to l rs)
last_push l [] r = refl
last_push l (x ∷ rs) r = ap (λ z. or_before z (if same x.root l then Some x.word else None)) (last_push l rs r) ∙ push_if (same r.root l) r.word (last_to l rs) (if same x.root l then Some x.word else None)

number_no_root : (s : Sort) → is_number s ≡ true → is_root s ≡ true → ⊥
number_no_root (Variable v f) h i = cc
number_no_root (Local j) h i = cc
number_no_root Input h i = cc
number_no_root Output h i = cc
number_no_root program.Signal h i = cc
number_no_root (Pointer t) h i = cc
number_no_root (Port r) h i = cc

number_no_pointer : (s : Sort) → is_number s ≡ true → is_pointer s ≡ false
number_no_pointer (Pointer t) h = absurd cc
number_no_pointer (Variable v f) h = refl
number_no_pointer (Local j) h = refl
number_no_pointer Input h = refl
number_no_pointer Output h = refl
number_no_pointer program.Signal h = refl
number_no_pointer (Port r) h = refl

root_no_pointer : (s : Sort) → is_root s ≡ true → is_pointer s ≡ false
root_no_pointer (Pointer t) h = absurd cc
root_no_pointer (Variable v f) h = refl
root_no_pointer (Local j) h = refl
root_no_pointer Input h = refl
root_no_pointer Output h = refl
root_no_pointer program.Signal h = refl
root_no_pointer (Port r) h = refl

put_number : (cs : Cells) (a : Acting) (n : ℕ) (x : program.Cell) (k : Pick) (v : ℕ) → slice_get cs n ≡ Some x → is_root x.sort ≡ false
    → put_in cs a (Some n) k v ≡ option_map (λ u. with_word n u a) (picked cs a (width_of x.kind) k (a.now n) v)
put_number cs a n x k v g f =
    ap (λ o. if unwrap_or (option_map is_root (option_map (λ c. c.sort) o)) false then option_map (λ u. with_asked n v a) (picked cs a (unwrap_or (option_map (λ c. width_of c.kind) o) 0) k 0 v)
    else option_map (λ u. with_word n u a) (picked cs a (unwrap_or (option_map (λ c. width_of c.kind) o) 0) k (a.now n) v)) g
    ∙ ap (λ b. if b then option_map (λ u. with_asked n v a) (picked cs a (width_of x.kind) k 0 v) else option_map (λ u. with_word n u a) (picked cs a (width_of x.kind) k (a.now n) v)) f

put_root : (cs : Cells) (a : Acting) (n : ℕ) (x : program.Cell) (k : Pick) (v : ℕ) → slice_get cs n ≡ Some x → is_root x.sort ≡ true
    → put_in cs a (Some n) k v ≡ option_map (λ u. with_asked n v a) (picked cs a (width_of x.kind) k 0 v)
put_root cs a n x k v g f =
    ap (λ o. if unwrap_or (option_map is_root (option_map (λ c. c.sort) o)) false then option_map (λ u. with_asked n v a) (picked cs a (unwrap_or (option_map (λ c. width_of c.kind) o) 0) k 0 v)
    else option_map (λ u. with_word n u a) (picked cs a (unwrap_or (option_map (λ c. width_of c.kind) o) 0) k (a.now n) v)) g
    ∙ ap (λ b. if b then option_map (λ u. with_asked n v a) (picked cs a (width_of x.kind) k 0 v) else option_map (λ u. with_word n u a) (picked cs a (width_of x.kind) k (a.now n) v)) f

-- whether a part is found doesn't turn on the number's width
picked_too : (cs : Cells) (a : Acting) (m n : ℕ) (k : Pick) (v u : ℕ) → picked cs a m k 0 v ≡ Some u → (u' : ℕ) × (picked cs a n k 0 v ≡ Some u')
picked_too cs a m n Whole v u e = (v, refl)
picked_too cs a m n (OneBit j) v u e = let r = map_is (word_in cs a j) (λ i. with_bit m 0 (index_of (kind_of j) i) v) u e in
    (with_bit n 0 (index_of (kind_of j) r.0) v, ap (option_map (λ i. with_bit n 0 (index_of (kind_of j) i) v)) r.1)
picked_too cs a m n (Bits hi lo) v u e = (u, e)

module _ (home : Home) (constant : Location → Option ℕ) (p : Program) (i : ℕ) (q : Process) (signals : Location → ℕ) (apart : TellsApart home p i q) where
  abbrev W : World
  W = w home constant p i q signals apart

  alike_word : (a : Acting) (h : Held) (n : ℕ) (x : program.Cell) (l : Location) (v : ℕ) → Alike home p signals a h → slice_get p.cells n ≡ Some x → is_number x.sort ≡ true → cell_location home p x ≡ l
      → Alike home p signals (with_word n v a) (with_words h (changed l v h.store.words))
  alike_word a h n x l v alike g number at = record {
    roots = λ c y gy root. at_root c y gy root (eqb_tells n c);
    numbers = λ c y gy ny. ap (λ z. if same z (cell_location home p y) then v else h.store.words (cell_location home p y)) (sym at)
        ∙ (ap (λ b. if b then v else h.store.words (cell_location home p y)) (apart.apart n c x y g gy (number_no_pointer x.sort number) (number_no_pointer y.sort ny))
        ∙ ap (λ z. if nat_eq n c then v else z) (alike.numbers c y gy ny));
    asked = alike.asked;
  }
    where
      at_root : (c : ℕ) (y : program.Cell) → slice_get p.cells c ≡ Some y → is_root y.sort ≡ true → ((nat_eq n c ≡ true) × (n ≡ c)) ⊎ ((nat_eq n c ≡ false) × (n ≢ c))
          → signals (cell_location home p y) ≡ (if nat_eq n c then v else a.now c)
      at_root c y gy root (inl e) =
          let same_cell : x ≡ y = some_same (sym g ∙ (ap (slice_get p.cells) e.1 ∙ gy)) in
          absurd (number_no_root y.sort (subst (λ z. is_number z.sort ≡ true) same_cell number) root)
      at_root c y gy root (inr e) = alike.roots c y gy root ∙ ap (λ b. if b then v else a.now c) (sym e.0)

  alike_asked : (a : Acting) (h : Held) (n : ℕ) (x : program.Cell) (l : Location) (v : ℕ) → Alike home p signals a h → slice_get p.cells n ≡ Some x → is_root x.sort ≡ true → cell_location home p x ≡ l
      → Alike home p signals (with_asked n v a) (asked h l v)
  alike_asked a h n x l v alike g root at = record {
    roots = alike.roots;
    numbers = alike.numbers;
    asked = λ c y gy ry. last_push (cell_location home p y) h.requests (record { root = l; word = v })
        ∙ (ap (λ z. if same z (cell_location home p y) then Some v else last_to (cell_location home p y) h.requests) (sym at)
        ∙ (ap (λ b. if b then Some v else last_to (cell_location home p y) h.requests) (apart.apart n c x y g gy (root_no_pointer x.sort root) (root_no_pointer y.sort ry))
        ∙ ap (λ z. if nat_eq n c then Some v else z) (alike.asked c y gy ry)));
  }

  module _ (a : Acting) (h : Held) (alike : Alike home p signals a h) where
    picked_is : (k : Pick) (j : Kind) (old v u : ℕ) → IsFitPick q p.cells k → picked p.cells a (width_of j) k old v ≡ Some u → machine.picked (around W h) j (pick_of home p.cells i k) old v ≡ Some u
    picked_is Whole j old v u t e = e
    picked_is (OneBit m) j old v u t e =
        let r = map_is (word_in p.cells a m) (λ z. with_bit (width_of j) old (index_of (kind_of m) z) v) u e in
        ap (option_map (λ z. with_bit (width_of j) old (index_of (expr_kind (E home constant p i q signals apart m)) z) v)) (valued home constant p i q signals apart a h alike m r.0 t r.1)
        ∙ (ap (λ kk. Some (with_bit (width_of j) old (index_of kk r.0) v)) (kind_is home constant p i q signals apart m t) ∙ ap Some r.2)
    picked_is (Bits hi lo) j old v u t e = e

    puts_at : (l : Location) (s : List Step) (k : Pick) (v : ℕ) (b : Acting) → Names home i q l s → IsFitPick q p.cells k → put_in p.cells a (option_map (root_of p.cells) (cell_at false 0 s p.cells)) k v ≡ Some b
        → (g : Held) × (put_at (W.places.things l) (around W h) h l (pick_of home p.cells i k) v ≡ Some g) × Alike home p signals b g
    puts_at l s k v b names t e = by (cell_at false 0 s p.cells) refl e
      where
        number_case : (n : ℕ) (x : program.Cell) → slice_get p.cells n ≡ Some x → is_number x.sort ≡ true → is_root x.sort ≡ false → cell_location home p x ≡ l
            → W.places.things l ≡ Some (Rattle.scc_semantics.specs.Places.Number x.kind) → put_in p.cells a (Some n) k v ≡ Some b
            → (g : Held) × (put_at (W.places.things l) (around W h) h l (pick_of home p.cells i k) v ≡ Some g) × Alike home p signals b g
        number_case n x gx number noroot at thing d =
            let m = map_is (picked p.cells a (width_of x.kind) k (a.now n) v) (λ u. with_word n u a) b (sym (put_number p.cells a n x k v gx noroot) ∙ d) in
            let old = ap h.store.words (sym at) ∙ alike.numbers n x gx number in
            let r = picked_is k x.kind (a.now n) v m.0 t m.1 in
            let r' = ap (λ z. machine.picked (around W h) x.kind (pick_of home p.cells i k) z v) old ∙ r in (
              with_words h (changed l m.0 h.store.words),
              ap (λ z. put_at z (around W h) h l (pick_of home p.cells i k) v) thing ∙ ap (option_map (λ u. with_words h (changed l u h.store.words))) r',
              subst (λ z. Alike home p signals z (with_words h (changed l m.0 h.store.words))) m.2 (alike_word a h n x l m.0 alike gx number at),
            )

        root_case : (n : ℕ) (x : program.Cell) → slice_get p.cells n ≡ Some x → is_root x.sort ≡ true → cell_location home p x ≡ l
            → W.places.things l ≡ Some (Rattle.scc_semantics.specs.Places.Signal x.kind) → put_in p.cells a (Some n) k v ≡ Some b
            → (g : Held) × (put_at (W.places.things l) (around W h) h l (pick_of home p.cells i k) v ≡ Some g) × Alike home p signals b g
        root_case n x gx root at thing d =
            let m = map_is (picked p.cells a (width_of x.kind) k 0 v) (λ u. with_asked n v a) b (sym (put_root p.cells a n x k v gx root) ∙ d) in
            let r = picked_is k x.kind 0 v m.0 t m.1 in (
              asked h l v,
              ap (λ z. put_at z (around W h) h l (pick_of home p.cells i k) v) thing ∙ ap (option_map (λ u. asked h l v)) r,
              subst (λ z. Alike home p signals z (asked h l v)) m.2 (alike_asked a h n x l v alike gx root at),
            )

        by_sort : (n : ℕ) (x : program.Cell) (z : Sort) → x.sort ≡ z → slice_get p.cells n ≡ Some x → is_pointer z ≡ false → cell_location home p x ≡ l → W.places.things l ≡ thing_of home p x z
            → put_in p.cells a (Some (root_of_sort p.cells z n)) k v ≡ Some b
            → (g : Held) × (put_at (W.places.things l) (around W h) h l (pick_of home p.cells i k) v ≡ Some g) × Alike home p signals b g
        by_sort n x (Variable c f) e gx np at thing d = number_case n x gx (ap is_number e) (ap is_root e) at thing d
        by_sort n x (Local j) e gx np at thing d = number_case n x gx (ap is_number e) (ap is_root e) at thing d
        by_sort n x Input e gx np at thing d = root_case n x gx (ap is_root e) at thing d
        by_sort n x Output e gx np at thing d = root_case n x gx (ap is_root e) at thing d
        by_sort n x program.Signal e gx np at thing d = root_case n x gx (ap is_root e) at thing d
        by_sort n x (Pointer c) e gx np at thing d = absurd cc
        by_sort n x (Port path) e gx np at thing d =
            let r = apart.ports n x path gx e in
            let root = ap (λ z. put_in p.cells a (Some (unwrap_or z n)) k v) (sym r.2) ∙ d in
            let u = thing_at home constant p i q signals apart (at_top path) (path_steps path) r.0 r.1 (port_names home constant p i q signals apart path) r.2 r.3 in
            let m = map_is (picked p.cells a (width_of r.1.kind) k 0 v) (λ y. with_asked r.0 v a) b (sym (put_root p.cells a r.0 r.1 k v r.3 r.4) ∙ root) in
            let too = picked_too p.cells a (width_of r.1.kind) (width_of x.kind) k v m.0 m.1 in
            let got = picked_is k x.kind 0 v too.0 t too.1 in (
              asked h (at_top path) v,
              ap (λ z. put_at z (around W h) h l (pick_of home p.cells i k) v) thing ∙ ap (option_map (λ y. asked h (at_top path) v)) got,
              subst (λ z. Alike home p signals z (asked h (at_top path) v)) m.2 (alike_asked a h r.0 r.1 (at_top path) v alike r.3 r.4 u.1),
            )

        by : (o : Option ℕ) → cell_at false 0 s p.cells ≡ o → put_in p.cells a (option_map (root_of p.cells) o) k v ≡ Some b
            → (g : Held) × (put_at (W.places.things l) (around W h) h l (pick_of home p.cells i k) v ≡ Some g) × Alike home p signals b g
        by None f d =
            let m = map_is (picked p.cells a 1 k 0 v) (λ u. a) b d in
            let r = picked_is k kind.Bool 0 v m.0 t m.1 in
            (h, ap (λ z. put_at z (around W h) h l (pick_of home p.cells i k) v) (nothing_at home constant p i q signals apart l s names f) ∙ ap (option_map (λ u. h)) r, subst (λ z. Alike home p signals z h) m.2 alike)
        by (Some n) f d =
            let c = cell_of p.cells n s f in
            let u = thing_at home constant p i q signals apart l s n c.0 names f c.1 in
            by_sort n c.0 c.0.sort refl c.1 c.2 u.1 u.0 (ap (λ z. put_in p.cells a (Some z) k v) (sym (root_is home constant p i q signals apart n c.0 c.1)) ∙ d)

    pub puts_alike : (l : Left) (k : Pick) (e : Term) (b : Acting) → IsFitLeft q p.cells l → IsFitPick q p.cells k → IsFit q p.cells e → assigned p.cells a l k e ≡ Some b
        → (g : Held) × (put_on W l k e h ≡ Some g) × Alike home p signals b g
    puts_alike l k e b tl tk te d =
        let v = then_is (word_in p.cells a e) (λ x. option_and_then (λ s. put_in p.cells a (cell_named p.cells (Some s)) k x) (steps_in p.cells a l)) b d in
        let s = then_is (steps_in p.cells a l) (λ s. put_in p.cells a (cell_named p.cells (Some s)) k v.0) b v.2 in
        let c = located home constant p i q signals apart a h alike l s.0 tl s.1 in
        let x = valued home constant p i q signals apart a h alike e v.0 te v.1 in
        let r = puts_at c.0 s.0 k v.0 b c.2 tk s.2 in (
          r.0,
          ap (option_and_then (λ y. option_and_then (λ m. put_at (W.places.things m) (around W h) h m (pick_of home p.cells i k) y) (followed (locate (around W h) (F home constant p i q signals apart l))))) x
              ∙ (ap (λ z. option_and_then (λ m. put_at (W.places.things m) (around W h) h m (pick_of home p.cells i k) v.0) (followed z)) c.1 ∙ r.1),
          r.2,
        )

  then_same : (o : Effect) (d : Done) (f : Acting → Effect) (g : Held → Done) → SameDone home p signals o d → ((b : Acting) (k : Held) → Alike home p signals b k → SameDone home p signals (f b) (g k)) → SameDone home p signals (then_effect o f) (then_done d g)
  then_same (effect.Fell b) (moved.Fell k) f g s t = t b k s
  then_same (effect.Left_out n b) (moved.Out m k) f g s t = s
  then_same effect.Lost d f g s t = tt
  then_same (effect.Fell b) (moved.Out m k) f g s t = absurd s
  then_same (effect.Fell b) (moved.Sticks k) f g s t = absurd s
  then_same (effect.Left_out n b) (moved.Fell k) f g s t = absurd s
  then_same (effect.Left_out n b) (moved.Sticks k) f g s t = absurd s

  shut_same : (o : Effect) (d : Done) (f : Acting → Effect) (g : Held → Done) → SameDone home p signals o d → ((b : Acting) (k : Held) → Alike home p signals b k → SameDone home p signals (f b) (g k)) → SameDone home p signals (shut o f) (shut_done d g)
  shut_same (effect.Fell b) (moved.Fell k) f g s t = t b k s
  shut_same (effect.Left_out zero b) (moved.Out zero k) f g s t = t b k s.1
  shut_same (effect.Left_out (suc n) b) (moved.Out (suc m) k) f g s t = let e : n ≡ m = omega (arith, s.0) in (e, s.1)
  shut_same (effect.Left_out zero b) (moved.Out (suc m) k) f g s t = let e = s.0 in absurd (omega arith)
  shut_same (effect.Left_out (suc n) b) (moved.Out zero k) f g s t = let e = s.0 in absurd (omega arith)
  shut_same effect.Lost d f g s t = tt
  shut_same (effect.Fell b) (moved.Out m k) f g s t = absurd s
  shut_same (effect.Fell b) (moved.Sticks k) f g s t = absurd s
  shut_same (effect.Left_out n b) (moved.Fell k) f g s t = absurd s
  shut_same (effect.Left_out n b) (moved.Sticks k) f g s t = absurd s

  either_same : (v : ℕ) (o u : Effect) (d e : Done) → SameDone home p signals o d → SameDone home p signals u e → SameDone home p signals (branch v o u) (either_done v d e)
  either_same zero o u d e s t = t
  either_same (suc v) o u d e s t = s

  pub acts_alike : (c : Code) (a : Acting) (h : Held) → Alike home p signals a h → IsFitCode q p.cells c → SameDone home p signals (effect p.cells c a) (effect_on W c h)
  acts_alike End a h alike t = alike
  acts_alike (Put o l k e r) a h alike t = by (assigned p.cells a l k e) refl (λ b g s. acts_alike r b g s t.3)
    where
      by : (z : Option Acting) → assigned p.cells a l k e ≡ z → ((b : Acting) (g : Held) → Alike home p signals b g → SameDone home p signals (effect p.cells r b) (effect_on W r g))
          → SameDone home p signals (or_lost z (effect p.cells r)) (or_sticks h (put_on W l k e h) (effect_on W r))
      by None d ih = tt
      by (Some b) d ih = let s = puts_alike a h alike l k e b t.0 t.1 t.2 d in subst (λ z. SameDone home p signals (effect p.cells r b) (or_sticks h z (effect_on W r))) (sym s.1) (ih b s.0 s.2)
  acts_alike (If o n x z r) a h alike t = by (word_in p.cells a n) refl (acts_alike x a h alike t.1) (acts_alike z a h alike t.2) (λ b g s. acts_alike r b g s t.3)
    where
      by : (v : Option ℕ) → word_in p.cells a n ≡ v → SameDone home p signals (effect p.cells x a) (effect_on W x h) → SameDone home p signals (effect p.cells z a) (effect_on W z h)
          → ((b : Acting) (g : Held) → Alike home p signals b g → SameDone home p signals (effect p.cells r b) (effect_on W r g))
          → SameDone home p signals (or_lost v (λ v. then_effect (branch v (effect p.cells x a) (effect p.cells z a)) (effect p.cells r)))
          (or_sticks h (word_of W n h) (λ v. then_done (either_done v (effect_on W x h) (effect_on W z h)) (effect_on W r)))
      by None d ix iz ir = tt
      by (Some v) d ix iz ir =
          subst (λ u. SameDone home p signals (then_effect (branch v (effect p.cells x a) (effect p.cells z a)) (effect p.cells r)) (or_sticks h u (λ v. then_done (either_done v (effect_on W x h) (effect_on W z h)) (effect_on W r))))
          (sym (valued home constant p i q signals apart a h alike n v t.0 d))
          (then_same (branch v (effect p.cells x a) (effect p.cells z a)) (either_done v (effect_on W x h) (effect_on W z h)) (effect p.cells r) (effect_on W r)
          (either_same v (effect p.cells x a) (effect p.cells z a) (effect_on W x h) (effect_on W z h) ix iz) ir)
  acts_alike (Block o b r) a h alike t = shut_same (effect p.cells b a) (effect_on W b h) (effect p.cells r) (effect_on W r) (acts_alike b a h alike t.0) (λ c g s. acts_alike r c g s t.1)
  acts_alike (Exit o n r) a h alike t = (refl, alike)
  acts_alike (Aim o to l r) a h alike t = absurd t
  acts_alike (Loop o n b r) a h alike t = tt
  acts_alike (Wait o l n r) a h alike t = tt

  then_ran_same : (o : Effect) (d : Done) (f : Acting → Ran) (g : Held → Halted) → SameDone home p signals o d → ((b : Acting) (k : Held) → Alike home p signals b k → SameRan home p signals (f b) (g k)) → SameRan home p signals (then_ran o f) (then_run d g)
  then_ran_same (effect.Fell b) (moved.Fell k) f g s t = t b k s
  then_ran_same (effect.Left_out n b) d f g s t = tt
  then_ran_same effect.Lost d f g s t = tt
  then_ran_same (effect.Fell b) (moved.Out m k) f g s t = absurd s
  then_ran_same (effect.Fell b) (moved.Sticks k) f g s t = absurd s

  choose_same : (v : ℕ) (o u : Ran) (d e : Halted) → SameRan home p signals o d → SameRan home p signals u e → SameRan home p signals (choose v o u) (either_halted v d e)
  choose_same zero o u d e s t = t
  choose_same (suc v) o u d e s t = s

  pub runs_alike : (s : Segment) (a : Acting) (h : Held) → Alike home p signals a h → IsFitSegment q p.cells s → SameRan home p signals (run_segment p.cells s a) (run_on W s h)
  runs_alike (Plain c s) a h alike t = then_ran_same (effect p.cells c a) (effect_on W c h) (run_segment p.cells s) (run_on W s) (acts_alike c a h alike t.0) (λ b g u. runs_alike s b g u t.1)
  runs_alike (Test o n s u) a h alike t = by (word_in p.cells a n) refl (runs_alike s a h alike t.1) (runs_alike u a h alike t.2)
    where
      by : (v : Option ℕ) → word_in p.cells a n ≡ v → SameRan home p signals (run_segment p.cells s a) (run_on W s h) → SameRan home p signals (run_segment p.cells u a) (run_on W u h)
          → SameRan home p signals (effect.or_fails v (λ v. choose v (run_segment p.cells s a) (run_segment p.cells u a))) (moved.or_fails h (word_of W n h) (λ v. either_halted v (run_on W s h) (run_on W u h)))
      by None d is iu = tt
      by (Some v) d is iu =
          subst (λ z. SameRan home p signals (choose v (run_segment p.cells s a) (run_segment p.cells u a)) (moved.or_fails h z (λ v. either_halted v (run_on W s h) (run_on W u h))))
          (sym (valued home constant p i q signals apart a h alike n v t.0 d))
          (choose_same v (run_segment p.cells s a) (run_segment p.cells u a) (run_on W s h) (run_on W u h) is iu)
  runs_alike (Halt o number count) a h alike t = (refl, refl, alike)
  runs_alike Finish a h alike t = alike
