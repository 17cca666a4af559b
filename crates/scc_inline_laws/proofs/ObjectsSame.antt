-- A design and its copy have the same at objects.
use Rattle.std.proofs.Common.{◌≡◌, inl, inr, ℕ, zero, suc, ◌+◌, Bool, true, false, ◌&&◌, nat_eq, List, [], ◌∷◌, Option, Some, None, option_map, option_and_then, unwrap_or, is_some, slice_get, if◌then◌else◌, refl, sym, ap, ◌∙◌, subst, arith}
use Rattle.std.specs.Prelude.{find}
use Rattle.std.specs.Option.{option_or}
use Rattle.std.proofs.lemmas.Bool.{eqb-true, eq-eqb}
use Rattle.std.proofs.lemmas.List.Folds.{find-append}
use Rattle.scc_semantics.specs.Location.{Location, Root, Part, same_root, same_path, same_part}
use Rattle.scc_semantics.specs.Location as location
use Rattle.scc_semantics.specs.Places.{Thing, Places}
use Rattle.scc_semantics.specs.Places as thing
use Rattle.scc_core_spec.specs.Program as prog
use Rattle.scc_core_spec.specs.Static.{fixed_word}
use Rattle.scc_core_spec.specs.Source as source
use Rattle.scc_core_spec.specs.Source.{at_top, cell_there, target_there}
use Rattle.scc_elab_spec.specs.Program.{Plain}
use Rattle.scc_elab_spec.specs.Design as design
use Rattle.scc_elab_spec.specs.Design.{Design, Object, Node, Module, Port, Signal, Variable, Pointer}
use Rattle.scc_elab_spec.specs.Cells.{object_cell, object_cells, path_of, is_top, parent, port_sort, target_of, is_fixed, cell_of}
use Rattle.scc_elab_spec.specs.Meant as meant
use Rattle.scc_elab_spec.specs.Meant.{function_of, local_of, number_there, thing_at, pointer_at, target_at, fixed_at}
use Rattle.scc_inline_spec.specs.Inlined.{all_cells, too_large}
use Rattle.scc_states_laws.proofs.Values.{some_same}
use Rattle.scc_elab_spec.proofs.Chains.{and-first, and-second}
use Rattle.scc_inline_laws.specs.OrderlyDesign.{IsOrderly}
use Rattle.scc_inline_laws.proofs.Found.{home, core, test, asks, Pairs, find-object}
use Rattle.scc_inline_laws.proofs.FoundAll.{no-own}

find-holds : {A : Type 0} (t : A → Bool) (xs : List A) (x : A) → find t xs ≡ Some x → t x ≡ true
find-holds t [] x e = cc
find-holds t (y ∷ xs) x e = by (t y) refl e (λ e. find-holds t xs x e)
  where
    by : (b : Bool) → t y ≡ b → (if b then Some y else find t xs) ≡ Some x → (find t xs ≡ Some x → t x ≡ true) → t x ≡ true
    by true u e ih = let z : y ≡ x = some_same e in subst (λ x. t x ≡ true) z u
    by false u e ih = ih e

find-none : {A : Type 0} (t : A → Bool) (xs : List A) → ((x : A) → t x ≡ false) → find t xs ≡ None
find-none t [] f = refl
find-none t (x ∷ xs) f = ap (λ b. if b then Some x else find t xs) (f x) ∙ find-none t xs f

none-holds : {A : Type 0} (t : A → Bool) (xs : List A) → find t xs ≡ None → (n : ℕ) (x : A) → slice_get xs n ≡ Some x → t x ≡ false
none-holds t [] e n x g = cc
none-holds t (y ∷ xs) e n x g = by (t y) refl e n g (λ e n g. none-holds t xs e n x g)
  where
    by : (b : Bool) → t y ≡ b → (if b then Some y else find t xs) ≡ None → (n : ℕ) → slice_get (y ∷ xs) n ≡ Some x → (find t xs ≡ None → (n : ℕ) → slice_get xs n ≡ Some x → t x ≡ false) → t x ≡ false
    by true u e n g ih = cc
    by false u e zero g ih = let z : y ≡ x = some_same g in subst (λ x. t x ≡ false) z u
    by false u e (suc n) g ih = ih e n g

both-ways : (a b : Bool) → (a ≡ true → b ≡ true) → (b ≡ true → a ≡ true) → a ≡ b
both-ways true b f g = sym (f refl)
both-ways false true f g = g refl
both-ways false false f g = refl

pub path-is : (a b : List Part) → same_path a b ≡ true → a ≡ b
path-is [] [] e = refl
path-is [] (y ∷ b) e = cc
path-is (x ∷ a) [] e = cc
path-is (x ∷ a) (y ∷ b) e = ap (λ z. z ∷ a) (part-is x y (and-first (same_part x y) (same_path a b) e)) ∙ ap (λ z. y ∷ z) (path-is a b (and-second (same_part x y) (same_path a b) e))
  where
    part-is : (x y : Part) → same_part x y ≡ true → x ≡ y
    part-is (location.Member n) (location.Member m) e = ap location.Member (eqb-true n m e)
    part-is (location.Element n) (location.Element m) e = ap location.Element (eqb-true n m e)
    part-is (location.Member n) (location.Element m) e = cc
    part-is (location.Element n) (location.Member m) e = cc

paths-swap : (a b c : List Part) → same_path a b ≡ true → same_path c b ≡ true → same_path a c ≡ true
paths-swap a b c e f = subst (λ c. same_path a c ≡ true) (sym (path-is c b f)) e

module _ (p : Plain) (d : Design) (constant : Location → Option ℕ) (ord : IsOrderly p d) (small : (i : ℕ) (q : design.Process) → slice_get d.processes i ≡ Some q → too_large p d i q ≡ None) where
  -- what stands at an object
  node-thing : (m : ℕ) (o : Object) (n : Node) (c : prog.Cell) → object_cell p d m o n ≡ Some c → source.thing_of (home p d) (core p d) c c.sort ≡ meant.thing_of p d o n
  node-thing m o (Module k) c e = cc
  node-thing m o (Port k output root) c e = subst (λ c. source.thing_of (home p d) (core p d) c c.sort ≡ meant.thing_of p d o (Port k output root)) (some_same e) (by (is_top (parent d o.path)) output)
    where
      by : (b u : Bool) → source.thing_of (home p d) (core p d) (cell_of o.path k (port_sort b u (path_of d root)) o) (port_sort b u (path_of d root)) ≡ Some (if b then thing.Signal k else thing.Port k (meant.at_path p d (path_of d root)))
      by true true = refl
      by true false = refl
      by false u = refl
  node-thing m o (Signal k) c e = subst (λ c. source.thing_of (home p d) (core p d) c c.sort ≡ meant.thing_of p d o (Signal k)) (some_same e) refl
  node-thing m o (Variable k w) c e = subst (λ c. source.thing_of (home p d) (core p d) c c.sort ≡ meant.thing_of p d o (Variable k w)) (some_same e) refl
  node-thing m o (Pointer t) c e = subst (λ c. source.thing_of (home p d) (core p d) c c.sort ≡ meant.thing_of p d o (Pointer t)) (some_same e) refl

  node-fixed : (m : ℕ) (o : Object) (n : Node) (c : prog.Cell) → object_cell p d m o n ≡ Some c → fixed_word c.sort ≡ meant.word_of p d o n
  node-fixed m o (Module k) c e = cc
  node-fixed m o (Port k output root) c e = subst (λ c. fixed_word c.sort ≡ None) (some_same e) (by (is_top (parent d o.path)) output)
    where
      by : (b u : Bool) → fixed_word (port_sort b u (path_of d root)) ≡ None
      by true true = refl
      by true false = refl
      by false u = refl
  node-fixed m o (Signal k) c e = subst (λ c. fixed_word c.sort ≡ None) (some_same e) refl
  node-fixed m o (Variable k w) c e = subst (λ c. fixed_word c.sort ≡ meant.word_of p d o (Variable k w)) (some_same e) (by (is_fixed p d o.path))
    where
      by : (b : Bool) → fixed_word (prog.Variable w b) ≡ (if b then Some w else None)
      by true = refl
      by false = refl
  node-fixed m o (Pointer t) c e = subst (λ c. fixed_word c.sort ≡ None) (some_same e) refl

  -- at the top
  top-there : (pointer : Bool) (path : List Part) → cell_there (home p d) (core p d) pointer (at_top path) ≡ find (test p d pointer (at_top path)) (object_cells p d)
  top-there pointer path = find-append (test p d pointer (at_top path)) (object_cells p d) (all_cells p d 0 d.processes)
      ∙ (ap (option_or (find (test p d pointer (at_top path)) (object_cells p d))) (no-own p d ord pointer path) ∙ by (find (test p d pointer (at_top path)) (object_cells p d)))
    where
      by : (o : Option prog.Cell) → option_or o None ≡ o
      by None = refl
      by (Some c) = refl

  pub top-thing : (path : List Part) → option_and_then (λ c. source.thing_of (home p d) (core p d) c c.sort) (cell_there (home p d) (core p d) false (at_top path)) ≡ thing_at p d location.Top path
  top-thing path = ap (option_and_then (λ c. source.thing_of (home p d) (core p d) c c.sort)) (top-there false path) ∙ by (find-object p d false path 0 d.objects)
    where
      by : Pairs p d false path 0 d.objects (object_cells p d) → option_and_then (λ c. source.thing_of (home p d) (core p d) c c.sort) (find (test p d false (at_top path)) (object_cells p d)) ≡ thing_at p d location.Top path
      by (inl x) = ap (option_and_then (λ c. source.thing_of (home p d) (core p d) c c.sort)) x.0 ∙ sym (ap (option_and_then (λ o. meant.thing_of p d o o.node)) x.1)
      by (inr x) = ap (option_and_then (λ c. source.thing_of (home p d) (core p d) c c.sort)) x.3 ∙ (node-thing (0 + x.0) x.2 x.2.node x.1 x.6 ∙ sym (ap (option_and_then (λ o. meant.thing_of p d o o.node)) x.4))

  pub top-fixed : (path : List Part) → option_and_then (λ c. fixed_word c.sort) (cell_there (home p d) (core p d) false (at_top path)) ≡ fixed_at p d location.Top path
  top-fixed path = ap (option_and_then (λ c. fixed_word c.sort)) (top-there false path) ∙ by (find-object p d false path 0 d.objects)
    where
      by : Pairs p d false path 0 d.objects (object_cells p d) → option_and_then (λ c. fixed_word c.sort) (find (test p d false (at_top path)) (object_cells p d)) ≡ fixed_at p d location.Top path
      by (inl x) = ap (option_and_then (λ c. fixed_word c.sort)) x.0 ∙ sym (ap (option_and_then (λ o. meant.word_of p d o o.node)) x.1)
      by (inr x) = ap (option_and_then (λ c. fixed_word c.sort)) x.3 ∙ (node-fixed (0 + x.0) x.2 x.2.node x.1 x.6 ∙ sym (ap (option_and_then (λ o. meant.word_of p d o o.node)) x.4))

  pub top-pointer : (path : List Part) → is_some (cell_there (home p d) (core p d) true (at_top path)) ≡ pointer_at p d location.Top path
  top-pointer path = ap is_some (top-there true path) ∙ by (find-object p d true path 0 d.objects)
    where
      by : Pairs p d true path 0 d.objects (object_cells p d) → is_some (find (test p d true (at_top path)) (object_cells p d)) ≡ pointer_at p d location.Top path
      by (inl x) = ap is_some x.0 ∙ sym (ap is_some x.1)
      by (inr x) = ap is_some x.3 ∙ sym (ap is_some x.4)

  -- the target of a pointer at a path
  abbrev Leads : List Part → design.Target → Bool
  Leads path t = same_path (path_of d t.object) path && unwrap_or (option_map (λ o. meant.is_pointer p d o.node) (slice_get d.objects t.object)) false

  leads-none : (path : List Part) → find (λ o. asks p d true o.node && same_path o.path path) d.objects ≡ None → (t : design.Target) → Leads path t ≡ false
  leads-none path e t = by (slice_get d.objects t.object) refl
    where
      swap : (a b : Bool) → (a && b) ≡ false → (b && a) ≡ false
      swap true true e = e
      swap true false e = refl
      swap false true e = refl
      swap false false e = refl

      off : (b : Bool) → (b && false) ≡ false
      off true = refl
      off false = refl

      by : (o : Option Object) → slice_get d.objects t.object ≡ o → (same_path (unwrap_or (option_map (λ o. o.path) o) []) path && unwrap_or (option_map (λ o. meant.is_pointer p d o.node) o) false) ≡ false
      by None g = off (same_path [] path)
      by (Some u) g = swap (meant.is_pointer p d u.node) (same_path u.path path) (none-holds (λ o. asks p d true o.node && same_path o.path path) d.objects e t.object u g)

  leads-is : (path : List Part) (j : ℕ) (o : Object) → slice_get d.objects j ≡ Some o → (asks p d true o.node && same_path o.path path) ≡ true → (t : design.Target) → Leads path t ≡ nat_eq t.object j
  leads-is path j o at e t = both-ways (Leads path t) (nat_eq t.object j) (λ x. there (slice_get d.objects t.object) refl x) (λ x. back (eqb-true t.object j x))
    where
      there : (u : Option Object) → slice_get d.objects t.object ≡ u → (same_path (unwrap_or (option_map (λ o. o.path) u) []) path && unwrap_or (option_map (λ o. meant.is_pointer p d o.node) u) false) ≡ true → nat_eq t.object j ≡ true
      there None g x = absurd (let z = and-second (same_path [] path) false x in cc)
      there (Some u) g x = eq-eqb t.object j (ord.pointers t.object j u o g at (and-second (same_path u.path path) (meant.is_pointer p d u.node) x) (and-first (meant.is_pointer p d o.node) (same_path o.path path) e)
          (paths-swap u.path path o.path (and-first (same_path u.path path) (meant.is_pointer p d u.node) x) (and-second (meant.is_pointer p d o.node) (same_path o.path path) e)))

      back : t.object ≡ j → Leads path t ≡ true
      back z = let g : slice_get d.objects t.object ≡ Some o = ap (slice_get d.objects) z ∙ at in
          ap (λ u. same_path (unwrap_or (option_map (λ o. o.path) u) []) path && unwrap_or (option_map (λ o. meant.is_pointer p d o.node) u) false) g
          ∙ (ap (λ b. b && meant.is_pointer p d o.node) (and-second (meant.is_pointer p d o.node) (same_path o.path path) e) ∙ and-first (meant.is_pointer p d o.node) (same_path o.path path) e)

  pub top-target : (path : List Part) → target_there (home p d) (core p d) (cell_there (home p d) (core p d) true (at_top path)) ≡ target_at p d location.Top path
  top-target path = ap (target_there (home p d) (core p d)) (top-there true path) ∙ by (find-object p d true path 0 d.objects)
    where
      by : Pairs p d true path 0 d.objects (object_cells p d) → target_there (home p d) (core p d) (find (test p d true (at_top path)) (object_cells p d)) ≡ option_map (λ t. meant.at_path p d t.path) (find (Leads path) d.targets)
      by (inl x) = ap (target_there (home p d) (core p d)) x.0 ∙ sym (ap (option_map (λ t. meant.at_path p d t.path)) (find-none (Leads path) d.targets (leads-none path x.1)))
      by (inr x) = ap (target_there (home p d) (core p d)) x.3 ∙ (go x.2.node refl (subst (λ k. object_cell p d k x.2 x.2.node ≡ Some x.1) (let z : 0 + x.0 ≡ x.0 = omega arith in z) x.6) (find (λ t. nat_eq t.object x.0) d.targets) refl ∙ sym (ap (option_map (λ t. meant.at_path p d t.path)) same))
        where
          holds : (asks p d true x.2.node && same_path x.2.path path) ≡ true
          holds = find-holds (λ o. asks p d true o.node && same_path o.path path) d.objects x.2 x.4

          same : find (Leads path) d.targets ≡ find (λ t. nat_eq t.object x.0) d.targets
          same = λ z. find (λ t. leads-is path x.0 x.2 x.5 holds t z) d.targets

          cell-target : (t : Option ℕ) → (w : Option design.Target) → find (λ t. nat_eq t.object x.0) d.targets ≡ w → x.2.node ≡ Pointer t → target_of d x.0 t ≡ option_map (λ t. t.path) w
          cell-target t (Some u) e n = rw e refl
          cell-target None None e n = rw e refl
          cell-target (Some r) None e n = absurd (let z = ap is_some e in let y = ord.targets x.0 r x.2 x.5 n in cc)

          go : (n : Node) → x.2.node ≡ n → object_cell p d x.0 x.2 n ≡ Some x.1 → (w : Option design.Target) → find (λ t. nat_eq t.object x.0) d.targets ≡ w
              → target_there (home p d) (core p d) (Some x.1) ≡ option_map (λ t. meant.at_path p d t.path) (find (λ t. nat_eq t.object x.0) d.targets)
          go (Module k) n e w f = cc
          go (Port k output root) n e w f = absurd (let z = ap (λ n. asks p d true n && same_path x.2.path path) (sym n) ∙ holds in cc)
          go (Signal k) n e w f = absurd (let z = ap (λ n. asks p d true n && same_path x.2.path path) (sym n) ∙ holds in cc)
          go (Variable k v) n e w f = absurd (let z = ap (λ n. asks p d true n && same_path x.2.path path) (sym n) ∙ holds in cc)
          go (Pointer t) n e w f = subst (λ c. target_there (home p d) (core p d) (Some c) ≡ option_map (λ t. meant.at_path p d t.path) (find (λ t. nat_eq t.object x.0) d.targets)) (some_same e)
              (ap (option_map at_top) (cell-target t w f n) ∙ (fuse w ∙ sym (ap (option_map (λ t. meant.at_path p d t.path)) f)))
            where
              fuse : (w : Option design.Target) → option_map at_top (option_map (λ t. t.path) w) ≡ option_map (λ t. meant.at_path p d t.path) w
              fuse None = refl
              fuse (Some u) = refl
