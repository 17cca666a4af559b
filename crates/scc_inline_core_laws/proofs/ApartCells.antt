-- The names of a copied core's cells differ: those of objects by their paths, those of locals by their processes, numbers and indices.
use Rattle.std.proofs.Common.{◌≡◌, ℕ, suc, ◌+◌, ◌≤◌, Bool, true, false, List, [], ◌∷◌, ◌++◌, map, Option, Some, None, option_map, slice_get, unwrap_or, refl, sym, ap, ◌∙◌, subst, arith, if◌then◌else◌}
use Rattle.scc_bits_kinds.specs.declared.kind.Kind.{Kind}
use Rattle.scc_semantics.specs.Location.{Root, Part, same_path}
use Rattle.scc_core_spec.specs.Term.{CellName, Own}
use Rattle.scc_core_spec.specs.Program as prog
use Rattle.scc_core_spec.specs.Named.{At, Ours, part_step, steps_of}
use Rattle.scc_elab_spec.specs.Program.{Plain, Member}
use Rattle.scc_elab_spec.specs.Design as design
use Rattle.scc_elab_spec.specs.Design.{Design, Object, Node, Module, Port, Signal, Variable, Pointer}
use Rattle.scc_elab_spec.specs.Grown.{is_pointer}
use Rattle.scc_elab_spec.specs.Types.{is_direct}
use Rattle.scc_elab_spec.specs.Cells.{object_cell, cells_from, object_cells, cell_of, port_sort}
use Rattle.scc_elab_spec.specs.Numbering.{numbered}
use Rattle.scc_elab_spec.specs.Bodies.{elements}
use Rattle.scc_inline_spec.specs.Inlined.{member_of_root, own_cell, own_cells, all_cells, core_cells, process_path}
use Rattle.scc_elab_growth_laws.specs.Apart.{StandApart}
use Rattle.scc_core_unroll_laws.proofs.Counters.{some-is}
use Rattle.scc_core_resolved_laws.proofs.Apart.{nil-behind, steps-is, no-ours, two-ours}
use Rattle.scc_inline_laws.specs.OrderlyDesign.{IsOrderly}
use Rattle.scc_inline_laws.proofs.Elements.{Each, each-append, each-map, each-by}
use Rattle.scc_inline_laws.proofs.Found.{cells-none, cells-some, path-same}
use Rattle.scc_inline_core_laws.proofs.Differing.{each-all, Pairs, pairs-append, pairs-map, pairs-by, Differ, elements-differ}

-- two pointers or two other cells have different names
abbrev pub Apart : prog.Cell → prog.Cell → Type 0
Apart c e = prog.is_pointer c.sort ≡ prog.is_pointer e.sort → steps_of c.name ≡ steps_of e.name → ⊥

abbrev pub object_name : Object → CellName
object_name o = record { path = o.path; own = None; indices = [] }

abbrev pub local_name : List Part → Own → List ℕ → CellName
local_name path own is = record { path = path; own = Some own; indices = is }

at-is : (a b : ℕ) → At a ≡ At b → a ≡ b
at-is a b e = cc

cons-is : {A : Type 0} (x y : A) (xs ys : List A) → x ∷ xs ≡ y ∷ ys → (x ≡ y) × (xs ≡ ys)
cons-is x y xs ys e = (cc, cc)

indices-is : (a b : List ℕ) → map At a ≡ map At b → a ≡ b
indices-is [] [] e = refl
indices-is [] (y ∷ b) e = absurd cc
indices-is (x ∷ a) [] e = absurd cc
indices-is (x ∷ a) (y ∷ b) e = let t = cons-is (At x) (At y) (map At a) (map At b) e in λ i. at-is x y t.0 i ∷ indices-is a b t.1 i

port-plain : (top output : Bool) (root : List Part) → prog.is_pointer (port_sort top output root) ≡ false
port-plain true true root = refl
port-plain true false root = refl
port-plain false output root = refl

module _ (p : Plain) (d : Design) where
  -- an object's cell
  pub object-is : (n : ℕ) (o : Object) (v : Node) (c : prog.Cell) → object_cell p d n o v ≡ Some c → (c.name ≡ object_name o) × (prog.is_pointer c.sort ≡ is_pointer v)
  object-is n o v c e = by v e
    where
      of : (k : Kind) (s : prog.Sort) (b : Bool) → prog.is_pointer s ≡ b → Some (cell_of o.path k s o) ≡ Some c → (c.name ≡ object_name o) × (prog.is_pointer c.sort ≡ b)
      of k s b h e = (ap (λ (c : prog.Cell). c.name) (sym (some-is e)), ap (λ (c : prog.Cell). prog.is_pointer c.sort) (sym (some-is e)) ∙ h)

      by : (v : Node) → object_cell p d n o v ≡ Some c → (c.name ≡ object_name o) × (prog.is_pointer c.sort ≡ is_pointer v)
      by (Module k) e = absurd cc
      by (Port k output root) e = of k _ false (port-plain _ output _) e
      by (Signal k) e = of k prog.Signal false refl e
      by (Variable k w) e = of k (prog.Variable w _) false refl e
      by (Pointer t) e = of _ (prog.Pointer _) true refl e

  -- the cell of an object that isn't before that number
  pub record IsObjectFrom (lo : ℕ) (c : prog.Cell) : Type 0 where
    pub number : ℕ
    pub object : Object
    pub from : lo ≤ number
    pub there : slice_get d.objects number ≡ Some object
    pub is : object_cell p d number object object.node ≡ Some c

  abbrev Continues : ℕ → List Object → Type 0
  Continues n os = (k : ℕ) (o : Object) → slice_get os k ≡ Some o → slice_get d.objects (n + k) ≡ Some o

  first-at : (n : ℕ) (o : Object) (os : List Object) → Continues n (o ∷ os) → slice_get d.objects n ≡ Some o
  first-at n o os h = let z : n + 0 ≡ n = omega arith in subst (λ k. slice_get d.objects k ≡ Some o) z (h 0 o refl)

  next-at : (n : ℕ) (o : Object) (os : List Object) → Continues n (o ∷ os) → Continues (suc n) os
  next-at n o os h k u e = let z : n + suc k ≡ suc n + k = omega arith in subst (λ k. slice_get d.objects k ≡ Some u) z (h (suc k) u e)

  later-object : (n : ℕ) (c : prog.Cell) → IsObjectFrom (suc n) c → IsObjectFrom n c
  later-object n c x = record { number = x.number; object = x.object; from = (let y = x.from in omega (arith, y)); there = x.there; is = x.is }

  each-object : (n : ℕ) (os : List Object) → Continues n os → Each (IsObjectFrom n) (cells_from p d n os)
  each-object n [] h = tt
  each-object n (o ∷ os) h = by (object_cell p d n o o.node) refl (each-by (IsObjectFrom (suc n)) (IsObjectFrom n) (later-object n) (cells_from p d (suc n) os) (each-object (suc n) os (next-at n o os h)))
    where
      by : (c : Option prog.Cell) → object_cell p d n o o.node ≡ c → Each (IsObjectFrom n) (cells_from p d (suc n) os) → Each (IsObjectFrom n) (cells_from p d n (o ∷ os))
      by None e ih = subst (Each (IsObjectFrom n)) (sym (cells-none p d n o os e)) ih
      by (Some c) e ih = subst (Each (IsObjectFrom n)) (sym (cells-some p d n o os c e)) (record { number = n; object = o; from = omega arith; there = first-at n o os h; is = e }, ih)

  -- the cell of a local that isn't before that number, of process i, which has that name
  pub record IsOwnFrom (path : List Part) (i lo : ℕ) (c : prog.Cell) : Type 0 where
    pub own : Own
    pub indices : List ℕ
    pub from : lo ≤ own.number
    pub name : c.name ≡ local_name path own indices
    pub local : prog.is_pointer c.sort ≡ false → c.sort ≡ prog.Local i

  own-is : (path : List Part) (i n : ℕ) (m : Member) (is : List ℕ) → IsOwnFrom path i n (own_cell path i n m is)
  own-is path i n m is = record { own = record { number = n; identifier = m.name }; indices = is; from = omega arith; name = refl; local = by (is_direct m.shape.reach) }
    where
      by : (b : Bool) → prog.is_pointer (if b then prog.Local i else prog.Pointer None) ≡ false → (if b then prog.Local i else prog.Pointer None) ≡ prog.Local i
      by true e = refl
      by false e = absurd cc

  later-own : (path : List Part) (i n : ℕ) (c : prog.Cell) → IsOwnFrom path i (suc n) c → IsOwnFrom path i n c
  later-own path i n c x = record { own = x.own; indices = x.indices; from = (let y = x.from in omega (arith, y)); name = x.name; local = x.local }

  abbrev locals : List Part → ℕ → ℕ → Option Member → List prog.Cell
  locals path i n o = unwrap_or (option_map (λ m. map (own_cell path i n m) (elements m.shape.sizes)) o) []

  each-own : (i f : ℕ) (path : List Part) (n : ℕ) (rs : List Root) → Each (IsOwnFrom path i n) (own_cells p i f path n rs)
  each-own i f path n [] = tt
  each-own i f path n (r ∷ rs) = each-append (IsOwnFrom path i n) (locals path i n (member_of_root p f r)) (own_cells p i f path (suc n) rs) (by (member_of_root p f r))
      (each-by (IsOwnFrom path i (suc n)) (IsOwnFrom path i n) (later-own path i n) (own_cells p i f path (suc n) rs) (each-own i f path (suc n) rs))
    where
      by : (o : Option Member) → Each (IsOwnFrom path i n) (locals path i n o)
      by None = tt
      by (Some m) = each-map (IsOwnFrom path i n) (own_cell path i n m) (elements m.shape.sizes) (each-all (λ is. IsOwnFrom path i n (own_cell path i n m is)) (own-is path i n m) (elements m.shape.sizes))

  pub record IsOfProcess (lo : ℕ) (c : prog.Cell) : Type 0 where
    pub number : ℕ
    pub process : design.Process
    pub from : lo ≤ number
    pub there : slice_get d.processes number ≡ Some process
    pub own : IsOwnFrom (process_path p d process) number 0 c

  abbrev Goes : ℕ → List design.Process → Type 0
  Goes n qs = (k : ℕ) (q : design.Process) → slice_get qs k ≡ Some q → slice_get d.processes (n + k) ≡ Some q

  here-at : (n : ℕ) (q : design.Process) (qs : List design.Process) → Goes n (q ∷ qs) → slice_get d.processes n ≡ Some q
  here-at n q qs h = let z : n + 0 ≡ n = omega arith in subst (λ k. slice_get d.processes k ≡ Some q) z (h 0 q refl)

  goes-on : (n : ℕ) (q : design.Process) (qs : List design.Process) → Goes n (q ∷ qs) → Goes (suc n) qs
  goes-on n q qs h k u e = let z : n + suc k ≡ suc n + k = omega arith in subst (λ k. slice_get d.processes k ≡ Some u) z (h (suc k) u e)

  later-process : (n : ℕ) (c : prog.Cell) → IsOfProcess (suc n) c → IsOfProcess n c
  later-process n c x = record { number = x.number; process = x.process; from = (let y = x.from in omega (arith, y)); there = x.there; own = x.own }

  each-process : (n : ℕ) (qs : List design.Process) → Goes n qs → Each (IsOfProcess n) (all_cells p d n qs)
  each-process n [] h = tt
  each-process n (q ∷ qs) h = each-append (IsOfProcess n) (own_cells p n q.function (process_path p d q) 0 (numbered p n q.function)) (all_cells p d (suc n) qs)
      (each-by (IsOwnFrom (process_path p d q) n 0) (IsOfProcess n) (λ c x. record { number = n; process = q; from = omega arith; there = here-at n q qs h; own = x }) (own_cells p n q.function (process_path p d q) 0 (numbered p n q.function)) (each-own n q.function (process_path p d q) 0 (numbered p n q.function)))
      (each-by (IsOfProcess (suc n)) (IsOfProcess n) (later-process n) (all_cells p d (suc n) qs) (each-process (suc n) qs (goes-on n q qs h)))

  -- each cell is an object's or a local's
  pub each-object-cell : Each (IsObjectFrom 0) (object_cells p d)
  each-object-cell = each-object 0 d.objects (λ k o e. let z : k ≡ 0 + k = omega arith in subst (λ k. slice_get d.objects k ≡ Some o) z e)

  pub each-own-cell : Each (IsOfProcess 0) (all_cells p d 0 d.processes)
  each-own-cell = each-process 0 d.processes (λ k q e. let z : k ≡ 0 + k = omega arith in subst (λ k. slice_get d.processes k ≡ Some q) z e)

  -- two locals of one name are of one process, and are one
  own-steps : (path : List Part) (i n : ℕ) (c : prog.Cell) (x : IsOwnFrom path i n c) → steps_of c.name ≡ map part_step path ++ (Ours x.own.number ∷ map At x.indices)
  own-steps path i n c x = ap steps_of x.name

  own-two : (path other : List Part) (i j n m : ℕ) (c e : prog.Cell) (x : IsOwnFrom path i n c) (y : IsOwnFrom other j m e) → steps_of c.name ≡ steps_of e.name → (path ≡ other) × (x.own.number ≡ y.own.number) × (map At x.indices ≡ map At y.indices)
  own-two path other i j n m c e x y s = two-ours path other x.own.number y.own.number (map At x.indices) (map At y.indices) (sym (own-steps path i n c x) ∙ (s ∙ own-steps other j m e y))

  pairs-own : (i f : ℕ) (path : List Part) (n : ℕ) (rs : List Root) → Pairs Apart (own_cells p i f path n rs)
  unfolding own-is
  pairs-own i f path n [] = tt
  pairs-own i f path n (r ∷ rs) = by (member_of_root p f r) (pairs-own i f path (suc n) rs)
    where
      more : List prog.Cell
      more = own_cells p i f path (suc n) rs

      behind : (m : Member) (is : List ℕ) → Each (Apart (own_cell path i n m is)) more
      behind m is = each-by (IsOwnFrom path i (suc n)) (Apart (own_cell path i n m is)) (λ c x s e. let z = own-two path path i i n (suc n) (own_cell path i n m is) c (own-is path i n m is) x e in let y = x.from in let w : n ≡ x.own.number = z.1 in omega (arith, y, w)) more (each-own i f path (suc n) rs)

      by : (o : Option Member) → Pairs Apart more → Pairs Apart (locals path i n o ++ more)
      by None ih = ih
      by (Some m) ih = pairs-append Apart (map (own_cell path i n m) (elements m.shape.sizes)) more
          (pairs-map Apart (own_cell path i n m) (elements m.shape.sizes) (pairs-by Differ (λ is js. Apart (own_cell path i n m is) (own_cell path i n m js))
          (λ is js h s e. h (indices-is is js (own-two path path i i n n (own_cell path i n m is) (own_cell path i n m js) (own-is path i n m is) (own-is path i n m js) e).2)) (elements m.shape.sizes) (elements-differ m.shape.sizes)))
          ih
          (each-map (λ c. Each (Apart c) more) (own_cell path i n m) (elements m.shape.sizes) (each-all (λ is. Each (Apart (own_cell path i n m is)) more) (behind m) (elements m.shape.sizes)))

  module _ (ord : IsOrderly p d) where
    pairs-process : (n : ℕ) (qs : List design.Process) → Goes n qs → Pairs Apart (all_cells p d n qs)
    pairs-process n [] h = tt
    pairs-process n (q ∷ qs) h = pairs-append Apart (own_cells p n q.function path 0 (numbered p n q.function)) (all_cells p d (suc n) qs)
        (pairs-own n q.function path 0 (numbered p n q.function)) (pairs-process (suc n) qs (goes-on n q qs h))
        (each-by (IsOwnFrom path n 0) (λ c. Each (Apart c) (all_cells p d (suc n) qs)) behind (own_cells p n q.function path 0 (numbered p n q.function)) (each-own n q.function path 0 (numbered p n q.function)))
      where
        path : List Part
        path = process_path p d q

        behind : (c : prog.Cell) → IsOwnFrom path n 0 c → Each (Apart c) (all_cells p d (suc n) qs)
        behind c x = each-by (IsOfProcess (suc n)) (Apart c) (λ e y s t.
            let z = own-two path (process_path p d y.process) n y.number 0 0 c e x y.own t in
            let w : n ≡ y.number = ord.names n y.number q y.process (here-at n q qs h) y.there (subst (λ a. same_path path a ≡ true) z.0 (path-same path)) in
            let u = y.from in omega (arith, u, w)) (all_cells p d (suc n) qs) (each-process (suc n) qs (goes-on n q qs h))

    module _ (apart : StandApart d) where
      pairs-object : (n : ℕ) (os : List Object) → Continues n os → Pairs Apart (cells_from p d n os)
      pairs-object n [] h = tt
      pairs-object n (o ∷ os) h = by (object_cell p d n o o.node) refl (pairs-object (suc n) os (next-at n o os h))
        where
          behind : (c : prog.Cell) → object_cell p d n o o.node ≡ Some c → Each (Apart c) (cells_from p d (suc n) os)
          behind c e = each-by (IsObjectFrom (suc n)) (Apart c) (λ f y s t.
              let a = object-is n o o.node c e in
              let b = object-is y.number y.object y.object.node f y.is in
              let z : o.path ≡ y.object.path = steps-is o.path y.object.path (sym (nil-behind (map part_step o.path)) ∙ (ap steps_of (sym a.0) ∙ (t ∙ (ap steps_of b.0 ∙ nil-behind (map part_step y.object.path))))) in
              let w : n ≡ y.number = apart n y.number o y.object (first-at n o os h) y.there (sym a.1 ∙ (s ∙ b.1)) z in
              let u = y.from in omega (arith, u, w)) (cells_from p d (suc n) os) (each-object (suc n) os (next-at n o os h))

          by : (c : Option prog.Cell) → object_cell p d n o o.node ≡ c → Pairs Apart (cells_from p d (suc n) os) → Pairs Apart (cells_from p d n (o ∷ os))
          by None e ih = subst (Pairs Apart) (sym (cells-none p d n o os e)) ih
          by (Some c) e ih = subst (Pairs Apart) (sym (cells-some p d n o os c e)) (behind c e, ih)

      pub cells-apart : Pairs Apart (core_cells p d)
      cells-apart = pairs-append Apart (object_cells p d) (all_cells p d 0 d.processes)
          (pairs-object 0 d.objects (λ k o e. let z : k ≡ 0 + k = omega arith in subst (λ k. slice_get d.objects k ≡ Some o) z e))
          (pairs-process 0 d.processes (λ k q e. let z : k ≡ 0 + k = omega arith in subst (λ k. slice_get d.processes k ≡ Some q) z e))
          (each-by (IsObjectFrom 0) (λ c. Each (Apart c) (all_cells p d 0 d.processes)) behind (object_cells p d) each-object-cell)
        where
          behind : (c : prog.Cell) → IsObjectFrom 0 c → Each (Apart c) (all_cells p d 0 d.processes)
          behind c x = each-by (IsOfProcess 0) (Apart c) (λ e y s t.
              let a = object-is x.number x.object x.object.node c x.is in
              no-ours x.object.path (process_path p d y.process) y.own.own.number (map At y.own.indices)
              (sym (nil-behind (map part_step x.object.path)) ∙ (ap steps_of (sym a.0) ∙ (t ∙ own-steps (process_path p d y.process) y.number 0 e y.own)))) (all_cells p d 0 d.processes) each-own-cell
