-- The cells of a copied program by their locations: those of objects, and those of locals.
use Rattle.std.proofs.Common.{◌≡◌, ◌⊎◌, inl, inr, ℕ, suc, ◌+◌, Bool, true, false, not, ◌&&◌, List, [], ◌∷◌, Some, None, slice_get, if◌then◌else◌, refl, sym, ap, ◌∙◌, subst, arith}
use Rattle.std.specs.Prelude.{find}
use Rattle.std.proofs.lemmas.Bool.{eqb-true, eq-eqb}
use Rattle.scc_bits_kinds.specs.declared.kind.Kind.TheVariants as kind
use Rattle.scc_semantics.specs.Location.{Location, Root, Part, Element, same, same_root, same_path, same_part}
use Rattle.scc_semantics.specs.Location as location
use Rattle.scc_semantics.specs.Same.{is_own}
use Rattle.scc_core_spec.specs.Program as prog
use Rattle.scc_core_spec.specs.Source.{Home, at_top, cell_location, process_named, location_of}
use Rattle.scc_elab_spec.specs.Program.{Plain}
use Rattle.scc_elab_spec.specs.Design.{Design, Object, Node, Module, Port, Signal, Variable, Pointer}
use Rattle.scc_elab_spec.specs.Cells.{object_cell, cells_from, path_of, is_top, parent, port_sort, target_of, is_fixed, cell_of}
use Rattle.scc_elab_spec.specs.Meant as meant
use Rattle.scc_inline_spec.specs.Inlined.{home_of, copied_program}
use Rattle.scc_inline_laws.proofs.Homed.{same_root-is}

pub path-same : (a : List Part) → same_path a a ≡ true
path-same [] = refl
path-same (location.Member n ∷ a) = ap (λ b. b && same_path a a) (eq-eqb n n refl) ∙ path-same a
path-same (Element n ∷ a) = ap (λ b. b && same_path a a) (eq-eqb n n refl) ∙ path-same a

and-swap : (x a b : Bool) → a ≡ b → (x && a) ≡ (b && x)
and-swap true true b e = ap (λ b. b && true) e
and-swap true false b e = e ∙ sym (off b (sym e))
  where
    off : (b : Bool) → b ≡ false → (b && true) ≡ b
    off true e = refl
    off false e = refl
and-swap false a b e = sym (off b)
  where
    off : (b : Bool) → (b && false) ≡ false
    off true = refl
    off false = refl

pub roots-apart : (i j : ℕ) (r s : Root) → is_own i r ≡ true → is_own j s ≡ true → same_root r s ≡ true → i ≡ j
roots-apart i j location.Top s a b e = cc
roots-apart i j (location.Local k cs n) location.Top a b e = cc
roots-apart i j (location.Local k cs n) (location.Local l ds m) a b e =
    let x : i ≡ k = eqb-true i k a in let y : j ≡ l = eqb-true j l b in let z = same_root-is (location.Local k cs n) (location.Local l ds m) e in
    let w : k ≡ l = cc in x ∙ (w ∙ sym y)
roots-apart i j (location.Local k cs n) (location.Answer l ds) a b e = cc
roots-apart i j (location.Answer k cs) location.Top a b e = cc
roots-apart i j (location.Answer k cs) (location.Local l ds m) a b e = cc
roots-apart i j (location.Answer k cs) (location.Answer l ds) a b e =
    let x : i ≡ k = eqb-true i k a in let y : j ≡ l = eqb-true j l b in let z = same_root-is (location.Answer k cs) (location.Answer l ds) e in
    let w : k ≡ l = cc in x ∙ (w ∙ sym y)

abbrev pub is_top_root : Root → Bool
is_top_root location.Top = true
is_top_root r = false

module _ (p : Plain) (d : Design) where
  abbrev pub home : Home
  home = home_of p d

  abbrev pub core : prog.Program
  core = copied_program p d

  -- a cell stands there
  abbrev pub test : Bool → Location → prog.Cell → Bool
  test pointer l c = same (cell_location home core c) l && (if pointer then prog.is_pointer c.sort else not (prog.is_pointer c.sort))

  abbrev pub asks : Bool → Node → Bool
  asks pointer n = if pointer then meant.is_pointer p d n else meant.is_number p d n

  -- the cell of an object
  pub record IsCellOf (o : Object) (n : Node) (c : prog.Cell) : Type 0 where
    pub stands : (pointer : Bool) (path : List Part) → test pointer (at_top path) c ≡ (asks pointer n && same_path o.path path)
    pub apart : (pointer : Bool) (l : Location) → is_top_root l.root ≡ false → test pointer l c ≡ false
    pub location : cell_location home core c ≡ at_top o.path

  not-top : (path ps : List Part) (r : Root) (b : Bool) → is_top_root r ≡ false → (same (at_top path) (record { root = r; path = ps }) && b) ≡ false
  not-top path ps location.Top b e = cc
  not-top path ps (location.Local i cs n) b e = refl
  not-top path ps (location.Answer i cs) b e = refl

  plain-sort : (o : Object) (n : Node) (c : prog.Cell) → c.name ≡ record { path = o.path; own = None; indices = [] } → ((pointer : Bool) → (if pointer then prog.is_pointer c.sort else not (prog.is_pointer c.sort)) ≡ asks pointer n) → IsCellOf o n c
  plain-sort o n c name s = record {
    stands = λ pointer path. ap (λ l. same l (at_top path) && (if pointer then prog.is_pointer c.sort else not (prog.is_pointer c.sort))) at ∙ and-swap (same_path o.path path) (if pointer then prog.is_pointer c.sort else not (prog.is_pointer c.sort)) (asks pointer n) (s pointer);
    apart = λ pointer l e. ap (λ m. same m l && (if pointer then prog.is_pointer c.sort else not (prog.is_pointer c.sort))) at ∙ not-top o.path l.path l.root (if pointer then prog.is_pointer c.sort else not (prog.is_pointer c.sort)) e;
    location = at;
  }
    where
      at : cell_location home core c ≡ at_top o.path
      at = ap (λ n. location_of home (process_named 0 n.path core.processes) n) name

  port-plain : (top output : Bool) (root : List Part) → prog.is_pointer (port_sort top output root) ≡ false
  port-plain true true root = refl
  port-plain true false root = refl
  port-plain false output root = refl

  pub object-shape : (m : ℕ) (o : Object) (n : Node) → ((object_cell p d m o n ≡ None) × ((pointer : Bool) → asks pointer n ≡ false)) ⊎ ((c : prog.Cell) × (object_cell p d m o n ≡ Some c) × IsCellOf o n c)
  object-shape m o (Module k) = inl (refl, λ b. by b)
    where
      by : (b : Bool) → asks b (Module k) ≡ false
      by true = refl
      by false = refl
  object-shape m o (Port k output root) = inr (
    cell_of o.path k (port_sort (is_top (parent d o.path)) output (path_of d root)) o,
    refl,
    plain-sort o (Port k output root) (cell_of o.path k (port_sort (is_top (parent d o.path)) output (path_of d root)) o) refl by,
  )
    where
      by : (b : Bool) → (if b then prog.is_pointer (port_sort (is_top (parent d o.path)) output (path_of d root)) else not (prog.is_pointer (port_sort (is_top (parent d o.path)) output (path_of d root)))) ≡ asks b (Port k output root)
      by true = port-plain (is_top (parent d o.path)) output (path_of d root)
      by false = ap not (port-plain (is_top (parent d o.path)) output (path_of d root))
  object-shape m o (Signal k) = inr (cell_of o.path k prog.Signal o, refl, plain-sort o (Signal k) (cell_of o.path k prog.Signal o) refl by)
    where
      by : (b : Bool) → (if b then false else true) ≡ asks b (Signal k)
      by true = refl
      by false = refl
  object-shape m o (Variable k w) = inr (cell_of o.path k (prog.Variable w (is_fixed p d o.path)) o, refl, plain-sort o (Variable k w) (cell_of o.path k (prog.Variable w (is_fixed p d o.path)) o) refl by)
    where
      by : (b : Bool) → (if b then false else true) ≡ asks b (Variable k w)
      by true = refl
      by false = refl
  object-shape m o (Pointer t) = inr (cell_of o.path kind.Bool (prog.Pointer (target_of d m t)) o, refl, plain-sort o (Pointer t) (cell_of o.path kind.Bool (prog.Pointer (target_of d m t)) o) refl by)
    where
      by : (b : Bool) → (if b then true else false) ≡ asks b (Pointer t)
      by true = refl
      by false = refl

  pub cells-none : (n : ℕ) (o : Object) (os : List Object) → object_cell p d n o o.node ≡ None → cells_from p d n (o ∷ os) ≡ cells_from p d (suc n) os
  cells-none n o os e = rw e refl

  pub cells-some : (n : ℕ) (o : Object) (os : List Object) (c : prog.Cell) → object_cell p d n o o.node ≡ Some c → cells_from p d n (o ∷ os) ≡ c ∷ cells_from p d (suc n) os
  cells-some n o os c e = rw e refl

  -- a cell and its object are found together
  abbrev pub Pairs : Bool → List Part → ℕ → List Object → List prog.Cell → Type 0
  Pairs pointer path n os cs = ((find (test pointer (at_top path)) cs ≡ None) × (find (λ o. asks pointer o.node && same_path o.path path) os ≡ None))
      ⊎ ((j : ℕ) × (c : prog.Cell) × (u : Object) × (find (test pointer (at_top path)) cs ≡ Some c) × (find (λ o. asks pointer o.node && same_path o.path path) os ≡ Some u) × (slice_get os j ≡ Some u) × (object_cell p d (n + j) u u.node ≡ Some c))

  pub find-object : (pointer : Bool) (path : List Part) (n : ℕ) (os : List Object) → Pairs pointer path n os (cells_from p d n os)
  find-object pointer path n [] = inl (refl, refl)
  find-object pointer path n (o ∷ os) = by (object-shape n o o.node) (find-object pointer path (suc n) os)
    where
      by : ((object_cell p d n o o.node ≡ None) × ((pointer : Bool) → asks pointer o.node ≡ false)) ⊎ ((c : prog.Cell) × (object_cell p d n o o.node ≡ Some c) × IsCellOf o o.node c)
          → Pairs pointer path (suc n) os (cells_from p d (suc n) os) → Pairs pointer path n (o ∷ os) (cells_from p d n (o ∷ os))
      by (inl x) ih = subst (Pairs pointer path n (o ∷ os)) (sym (cells-none n o os x.0)) (go ih)
        where
          skip : find (λ o. asks pointer o.node && same_path o.path path) (o ∷ os) ≡ find (λ o. asks pointer o.node && same_path o.path path) os
          skip = ap (λ b. if b && same_path o.path path then Some o else find (λ o. asks pointer o.node && same_path o.path path) os) (x.1 pointer)

          go : Pairs pointer path (suc n) os (cells_from p d (suc n) os) → Pairs pointer path n (o ∷ os) (cells_from p d (suc n) os)
          go (inl y) = inl (y.0, skip ∙ y.1)
          go (inr y) = let e : suc n + y.0 ≡ n + suc y.0 = omega arith in inr (suc y.0, y.1, y.2, y.3, skip ∙ y.4, y.5, subst (λ k. object_cell p d k y.2 y.2.node ≡ Some y.1) e y.6)
      by (inr x) ih = subst (Pairs pointer path n (o ∷ os)) (sym (cells-some n o os x.0 x.1)) (hit (asks pointer o.node && same_path o.path path) refl ih)
        where
          hit : (b : Bool) → (asks pointer o.node && same_path o.path path) ≡ b → Pairs pointer path (suc n) os (cells_from p d (suc n) os) → Pairs pointer path n (o ∷ os) (x.0 ∷ cells_from p d (suc n) os)
          hit true e ih = let z : n ≡ n + 0 = omega arith in
              inr (
                0,
                x.0,
                o,
                ap (λ b. if b then Some x.0 else find (test pointer (at_top path)) (cells_from p d (suc n) os)) (x.2.stands pointer path ∙ e),
                ap (λ b. if b then Some o else find (λ o. asks pointer o.node && same_path o.path path) os) e,
                refl,
                subst (λ k. object_cell p d k o o.node ≡ Some x.0) z x.1,
              )
          hit false e (inl y) = inl (
            ap (λ b. if b then Some x.0 else find (test pointer (at_top path)) (cells_from p d (suc n) os)) (x.2.stands pointer path ∙ e) ∙ y.0,
            ap (λ b. if b then Some o else find (λ o. asks pointer o.node && same_path o.path path) os) e ∙ y.1,
          )
          hit false e (inr y) = let z : suc n + y.0 ≡ n + suc y.0 = omega arith in
              inr (
                suc y.0,
                y.1,
                y.2,
                ap (λ b. if b then Some x.0 else find (test pointer (at_top path)) (cells_from p d (suc n) os)) (x.2.stands pointer path ∙ e) ∙ y.3,
                ap (λ b. if b then Some o else find (λ o. asks pointer o.node && same_path o.path path) os) e ∙ y.4,
                y.5,
                subst (λ k. object_cell p d k y.2 y.2.node ≡ Some y.1) z y.6,
              )

  -- no object stands at a local
  pub no-object : (pointer : Bool) (l : Location) → is_top_root l.root ≡ false → (n : ℕ) (os : List Object) → find (test pointer l) (cells_from p d n os) ≡ None
  no-object pointer l e n [] = refl
  no-object pointer l e n (o ∷ os) = by (object-shape n o o.node) (no-object pointer l e (suc n) os)
    where
      by : ((object_cell p d n o o.node ≡ None) × ((pointer : Bool) → asks pointer o.node ≡ false)) ⊎ ((c : prog.Cell) × (object_cell p d n o o.node ≡ Some c) × IsCellOf o o.node c)
          → find (test pointer l) (cells_from p d (suc n) os) ≡ None → find (test pointer l) (cells_from p d n (o ∷ os)) ≡ None
      by (inl x) ih = ap (find (test pointer l)) (cells-none n o os x.0) ∙ ih
      by (inr x) ih = ap (find (test pointer l)) (cells-some n o os x.0 x.1) ∙ (ap (λ b. if b then Some x.0 else find (test pointer l) (cells_from p d (suc n) os)) (x.2.apart pointer l e) ∙ ih)
