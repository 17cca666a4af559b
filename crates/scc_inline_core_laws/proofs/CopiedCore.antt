-- The core that copying calls gives can be resolved.
use Rattle.std.proofs.Common.{◌≡◌, ℕ, zero, suc, ◌+◌, ◌<◌, ◌^◌, Bool, true, false, not, nat_lt, cond, List, [], ◌∷◌, map, filter, take, length, nat_eq, Option, Some, None, option_map, option_and_then, is_some, slice_get, unwrap_or, refl, sym, ap, ◌∙◌, subst, arith}
use Rattle.std.proofs.lemmas.Bool.{lt-ltb}
use Rattle.scc_bits_kinds.specs.declared.kind.Kind.{Kind}
use Rattle.scc_bits_kinds.specs.declared.kind.Kind.TheVariants as kind
use Rattle.scc_bits_kinds.specs.Kinds.{width_of}
use Rattle.scc_semantics.specs.Location.{Part}
use Rattle.scc_core_spec.specs.Term.{Own}
use Rattle.scc_core_spec.specs.Code as stmt
use Rattle.scc_core_spec.specs.Program as prog
use Rattle.scc_core_spec.specs.Program.{Program}
use Rattle.scc_core_spec.specs.Named.{steps_of, path_steps, part_step}
use Rattle.scc_core_spec.specs.Source.{Home}
use Rattle.scc_core_spec.specs.Fit.{same_bool, same_kind}
use Rattle.scc_core_spec.specs.IsResolved.{has_path, name_is, own_is}
use Rattle.scc_elab_spec.specs.Program.{Plain, Function}
use Rattle.scc_elab_spec.specs.Design as design
use Rattle.scc_elab_spec.specs.Design.{Design, Object, Node, Module, Port, Signal, Variable, Pointer, is_module}
use Rattle.scc_elab_spec.specs.Cells.{object_cell, cells_from, object_cells, cell_of, cell_number, port_sort, path_of, is_top, parent}
use Rattle.scc_elab_spec.specs.Numbering.{levels}
use Rattle.scc_inline_spec.specs.Inlined.{all_cells, core_cells, process_path, copied_body, copied_process, copied_from, copied_program, here_of, body_of, call_of}
use Rattle.scc_blocks_spec.specs.Passed.{IsHome}
use Rattle.scc_core_spec.specs.Exits.{exits_within}
use Rattle.scc_core_spec.specs.Uses.{has_sort}
use Rattle.scc_core_unroll_laws.proofs.Counters.{some-is}
use Rattle.scc_core_unroll_laws.proofs.Knowing.{map-is}
use Rattle.scc_core_pass_laws.specs.Pointing.{OwnCode}
use Rattle.scc_core_pass_laws.specs.Renumbering.{IsKeptCell, AreKept, IsKeptEdge, IsKeptReset, IsSensed}
use Rattle.scc_core_resolved_laws.proofs.Apart.{nil-behind}
use Rattle.scc_core_resolved_laws.proofs.Bools.{all-at, and-both, nat_eq-self}
use Rattle.scc_core_resolvable_laws.specs.Resolvable.{AreOwn, AreResolvable}
use Rattle.scc_core_resolvable_laws.specs.Clocked.{IsClocked}
use Rattle.scc_core_resolvable_laws.specs.Sorted.{IsSorted}
use Rattle.scc_core_resolvable_laws.specs.Told.{IsTold}
use Rattle.scc_core_resolvable_laws.proofs.Told.{is-apart, root-plain}
use Rattle.scc_inline_laws.specs.OrderlyDesign.{IsOrderly}
use Rattle.scc_inline_laws.proofs.Elements.{Each, each-append, each-by}
use Rattle.scc_inline_laws.proofs.Found.{cells-none, cells-some, path-same}
use Rattle.scc_inline_laws.proofs.Headings.{get-append}
use Rattle.scc_inline_laws.proofs.Naming.{copied-at, is-named}
use Rattle.scc_inline_core_laws.specs.Kinded.{kinded_code, is_kinded}
use Rattle.scc_inline_core_laws.specs.LaidOut.{is_root_node, is_root_object, kind_of_node, IsRootAt, AllRootsAt, IsLaidOut}
use Rattle.scc_inline_core_laws.proofs.Differing.{each-at, pairs-at}
use Rattle.scc_inline_core_laws.proofs.ApartCells.{object_name, object-is, IsObjectFrom, IsOfProcess, each-object-cell, each-own-cell, cells-apart}
use Rattle.scc_inline_core_laws.proofs.ApartCells as names
use Rattle.scc_inline_core_laws.proofs.CopiedExits.{process-leaves}
use Rattle.scc_inline_core_laws.proofs.OwnCopies.{own-body, own-call}

bool-self : (b : Bool) → same_bool b b ≡ true
bool-self true = refl
bool-self false = refl

kind-self : (k : Kind) → same_kind k k ≡ true
kind-self kind.Bool = refl
kind-self (kind.Native w s) = and-both (nat_eq w w) (same_bool s s) (nat_eq-self w) (bool-self s)
kind-self (kind.Int w) = nat_eq-self w
kind-self (kind.Uint w) = nat_eq-self w
kind-self (kind.Big w) = nat_eq-self w
kind-self (kind.BigInt w) = nat_eq-self w
kind-self (kind.Bv w) = nat_eq-self w
kind-self (kind.Wide b s) = and-both (nat_eq b b) (same_bool s s) (nat_eq-self b) (bool-self s)

same-kind : (j k : Kind) → j ≡ k → same_kind j k ≡ true
same-kind j k e = subst (λ k. same_kind j k ≡ true) e (kind-self j)

module _ (p : Plain) (d : Design) where
  abbrev c : Program
  c = copied_program p d

  -- the copied bodies name the cells of objects and of their own processes
  own-copied-body : is_kinded p ≡ true → (i : ℕ) (q : design.Process) → OwnCode (copied_process p d i q) (core_cells p d) (copied_body p d i q)
  own-copied-body kinded i q = by (slice_get p.functions q.function) refl
    where
      by : (u : Option Function) → slice_get p.functions q.function ≡ u
          → OwnCode (copied_process p d i q) (core_cells p d) (unwrap_or (option_map (λ f. let h = here_of p d i q f in stmt.Block q.place (body_of (call_of h levels) h 0 [] f.body) stmt.End) u) stmt.End)
      by None e = tt
      by (Some f) e = (
        own-body (copied_process p d i q) (here_of p d i q f) (record { path = refl; this = λ o e. absurd cc }) (call_of (here_of p d i q f) levels)
            (λ cs n this o. own-call (copied_process p d i q) (here_of p d i q f) refl kinded levels cs n this o) 0 [] f.body (all-at (λ f. kinded_code f.body) p.functions q.function f kinded e),
        tt,
      )

  pub copies-own : is_kinded p ≡ true → AreOwn c
  copies-own kinded i x e = let u = copied-at p d 0 i d.processes x e in subst (λ x. OwnCode x (core_cells p d) x.body) u.2 (own-copied-body kinded (0 + i) u.0)

  -- the copy of a process
  copy-there : (i : ℕ) (qs : List design.Process) (n : ℕ) (q : design.Process) → slice_get qs n ≡ Some q → slice_get (copied_from p d i qs) n ≡ Some (copied_process p d (i + n) q)
  copy-there i [] n q e = absurd cc
  copy-there i (x ∷ qs) zero q e = let z : i ≡ i + 0 = omega arith in ap (λ x. Some (copied_process p d i x)) (some-is e) ∙ ap (λ i. Some (copied_process p d i q)) z
  copy-there i (x ∷ qs) (suc n) q e = let z : suc i + n ≡ i + suc n = omega arith in copy-there (suc i) qs n q e ∙ ap (λ i. Some (copied_process p d i q)) z

  -- a signal or port of the top has a cell, where its number says
  pub record IsRootCell (o : Object) (v : Node) (x : prog.Cell) : Type 0 where
    pub path : x.name ≡ object_name o
    pub root : prog.is_root x.sort ≡ true
    pub kind : kind_of_node d v ≡ Some x.kind

  root-is : (n : ℕ) (o : Object) (v : Node) → is_root_node d o.path v ≡ true → (is_module v ≡ false) × (x : prog.Cell) × (object_cell p d n o v ≡ Some x) × IsRootCell o v x
  root-is n o (Module k) e = absurd cc
  root-is n o (Signal k) e = (refl, cell_of o.path k prog.Signal o, refl, record { path = refl; root = refl; kind = refl })
  root-is n o (Variable k w) e = absurd cc
  root-is n o (Pointer t) e = absurd cc
  root-is n o (Port k output r) e = (refl, cell_of o.path k (port_sort (is_top (parent d o.path)) output (path_of d r)) o, refl, record { path = refl; root = by (is_top (parent d o.path)) output e; kind = refl })
    where
      by : (top output : Bool) → top ≡ true → prog.is_root (port_sort top output (path_of d r)) ≡ true
      by true true e = refl
      by true false e = refl
      by false output e = absurd cc

  abbrev count : ℕ → List Object → ℕ
  count n os = length (filter (λ (o : Object). not (is_module o.node)) (take n os))

  -- the cell of an object
  object-there : (k : ℕ) (os : List Object) (n : ℕ) (o : Object) (x : prog.Cell) → slice_get os n ≡ Some o → is_module o.node ≡ false → object_cell p d (k + n) o o.node ≡ Some x → slice_get (cells_from p d k os) (count n os) ≡ Some x
  object-there k [] n o x e z f = absurd cc
  object-there k (u ∷ os) zero o x e z f =
      let w : u ≡ o = some-is e in
      let g : k + 0 ≡ k = omega arith in
      ap (λ cs. slice_get cs 0) (cells-some p d k u os x (ap (λ (u : Object). object_cell p d k u u.node) w ∙ (ap (λ k. object_cell p d k o o.node) (sym g) ∙ f)))
  object-there k (u ∷ os) (suc n) o x e z f = by (object_cell p d k u u.node) refl (object-there (suc k) os n o x e z (let g : suc k + n ≡ k + suc n = omega arith in ap (λ k. object_cell p d k o o.node) g ∙ f))
    where
      kept : List Object
      kept = filter (λ (o : Object). not (is_module o.node)) (take n os)

      module-none : (v : Node) → object_cell p d k u v ≡ None → is_module v ≡ true
      module-none (Module c) e = refl
      module-none (Port a b c) e = absurd cc
      module-none (Signal a) e = absurd cc
      module-none (Variable a b) e = absurd cc
      module-none (Pointer t) e = absurd cc

      module-some : (v : Node) (c : prog.Cell) → object_cell p d k u v ≡ Some c → is_module v ≡ false
      module-some (Module c) x e = absurd cc
      module-some (Port a b c) x e = refl
      module-some (Signal a) x e = refl
      module-some (Variable a b) x e = refl
      module-some (Pointer t) x e = refl

      by : (c : Option prog.Cell) → object_cell p d k u u.node ≡ c → slice_get (cells_from p d (suc k) os) (count n os) ≡ Some x → slice_get (cells_from p d k (u ∷ os)) (count (suc n) (u ∷ os)) ≡ Some x
      by None g ih = ap (λ cs. slice_get cs (count (suc n) (u ∷ os))) (cells-none p d k u os g)
          ∙ (ap (λ b. slice_get (cells_from p d (suc k) os) (length (cond (not b) (u ∷ kept) kept))) (module-none u.node g) ∙ ih)
      by (Some c) g ih = ap (λ cs. slice_get cs (count (suc n) (u ∷ os))) (cells-some p d k u os c g)
          ∙ (ap (λ b. slice_get (c ∷ cells_from p d (suc k) os) (length (cond (not b) (u ∷ kept) kept))) (module-some u.node c g) ∙ ih)

  pub root-cell : (r : ℕ) → IsRootAt d r → (o : Object) × (x : prog.Cell) × (slice_get d.objects r ≡ Some o) × (slice_get (core_cells p d) (cell_number d r) ≡ Some x) × IsRootCell o o.node x
  root-cell r e = by (slice_get d.objects r) refl e
    where
      by : (u : Option Object) → slice_get d.objects r ≡ u → is_root_object d u ≡ true → (o : Object) × (x : prog.Cell) × (slice_get d.objects r ≡ Some o) × (slice_get (core_cells p d) (cell_number d r) ≡ Some x) × IsRootCell o o.node x
      by None f e = absurd cc
      by (Some o) f e =
          let x = root-is (0 + r) o o.node e in
          (o, x.1, f, get-append (object_cells p d) (all_cells p d 0 d.processes) (cell_number d r) x.1 (object-there 0 d.objects r o x.1 f x.0 x.2), x.3)

  kept-root : (r : ℕ) → IsRootAt d r → IsKeptCell (slice_get (core_cells p d) (cell_number d r))
  kept-root r e = let x = root-cell r e in subst IsKeptCell (sym x.3) (root-plain x.1.sort x.4.root)

  kept-roots : (rs : List ℕ) → AllRootsAt d rs → AreKept (core_cells p d) (map (cell_number d) rs)
  kept-roots [] h = tt
  kept-roots (r ∷ rs) h = (kept-root r h.0, kept-roots rs h.1)

  module _ (laid : IsLaidOut d) where
    sensed : (i n : ℕ) (q : design.Process) → slice_get d.processes n ≡ Some q → IsSensed (core_cells p d) (copied_process p d i q)
    sensed i n q at = record { senses = kept-roots q.senses (laid.senses n q at); edge = by-edge q.edge refl; reset = by-reset q.reset refl }
      where
        by-edge : (o : Option design.Edge) → q.edge ≡ o → IsKeptEdge (core_cells p d) (option_map (λ e. record { cell = cell_number d e.root; rising = e.rising }) o)
        by-edge None f = tt
        by-edge (Some e) f = kept-root e.root (laid.edges n q e at f)

        by-reset : (o : Option design.Reset) → q.reset ≡ o → IsKeptReset (core_cells p d) (option_map (λ r. record { cell = cell_number d r.root; level = r.level; asynchronous = r.asynchronous }) o)
        by-reset None f = tt
        by-reset (Some r) f = kept-root r.root (laid.resets n q r at f).0

    -- a port that isn't the top's is one of an object
    port-is : (n : ℕ) (o : Object) (v : Node) (x : prog.Cell) (path : List Part) → object_cell p d n o v ≡ Some x → x.sort ≡ prog.Port path → (output : Bool) × (r : ℕ) × (v ≡ Port x.kind output r) × (path ≡ path_of d r)
    port-is n o v x path e s = by v e
      where
        of : (k : Kind) (t : prog.Sort) → Some (cell_of o.path k t o) ≡ Some x → t ≡ prog.Port path
        of k t e = ap (λ (c : prog.Cell). c.sort) (some-is e) ∙ s

        to : prog.Sort → List Part
        to (prog.Port root) = root
        to t = path

        sorted : (top output : Bool) (r : ℕ) → port_sort top output (path_of d r) ≡ prog.Port path → path ≡ path_of d r
        sorted true true r e = absurd cc
        sorted true false r e = absurd cc
        sorted false output r e = sym (ap to e)

        by : (v : Node) → object_cell p d n o v ≡ Some x → (output : Bool) × (r : ℕ) × (v ≡ Port x.kind output r) × (path ≡ path_of d r)
        by (Module k) e = absurd cc
        by (Port k output r) e = (output, r, ap (λ k. Port k output r) (ap (λ (c : prog.Cell). c.kind) (some-is e)), sorted (is_top (parent d o.path)) output r (of k _ e))
        by (Signal k) e = absurd (let z = of k prog.Signal e in cc)
        by (Variable k w) e = absurd (let z = of k (prog.Variable w _) e in cc)
        by (Pointer t) e = absurd (let z = of _ (prog.Pointer _) e in cc)

    -- a variable holds a word of its kind
    word-is : (n : ℕ) (o : Object) (v : Node) (x : prog.Cell) (w : ℕ) (fixed : Bool) → object_cell p d n o v ≡ Some x → x.sort ≡ prog.Variable w fixed → ((k : Kind) → v ≡ Variable k w → w < 2 ^ width_of k) → nat_lt w (2 ^ width_of x.kind) ≡ true
    word-is n o v x w fixed e s h = by v e h
      where
        of : (k : Kind) (t : prog.Sort) → Some (cell_of o.path k t o) ≡ Some x → t ≡ prog.Variable w fixed
        of k t e = ap (λ (c : prog.Cell). c.sort) (some-is e) ∙ s

        word-of : prog.Sort → ℕ
        word-of (prog.Variable w f) = w
        word-of t = w

        sorted : (top output : Bool) (root : List Part) → port_sort top output root ≡ prog.Variable w fixed → ⊥
        sorted true true root e = cc
        sorted true false root e = cc
        sorted false output root e = cc

        by : (v : Node) → object_cell p d n o v ≡ Some x → ((k : Kind) → v ≡ Variable k w → w < 2 ^ width_of k) → nat_lt w (2 ^ width_of x.kind) ≡ true
        by (Module k) e h = absurd cc
        by (Port k output r) e h = absurd (sorted _ output _ (of k _ e))
        by (Signal k) e h = absurd (let z = of k prog.Signal e in cc)
        by (Pointer t) e h = absurd (let z = of _ (prog.Pointer _) e in cc)
        by (Variable k u) e h =
            let z : u ≡ w = ap word-of (of k (prog.Variable u _) e) in
            let y : w < 2 ^ width_of k = h k (ap (Variable k) z) in
            ap (λ k. nat_lt w (2 ^ width_of k)) (sym (ap (λ (c : prog.Cell). c.kind) (some-is e))) ∙ lt-ltb w (2 ^ width_of k) y

    -- an object's cell is no local
    name-is : (n : ℕ) (o : Object) (v : Node) (x : prog.Cell) → object_cell p d n o v ≡ Some x → name_is c.processes x.sort x.name ≡ true
    name-is n o v x e = by v e
      where
        of : (k : Kind) (t : prog.Sort) → prog.is_local t ≡ false → Some (cell_of o.path k t o) ≡ Some x → name_is c.processes x.sort x.name ≡ true
        of k t h e = ap (λ (c : prog.Cell). name_is (copied_program p d).processes c.sort c.name) (sym (some-is e)) ∙ ap not h

        sorted : (top output : Bool) (root : List Part) → prog.is_local (port_sort top output root) ≡ false
        sorted true true root = refl
        sorted true false root = refl
        sorted false output root = refl

        by : (v : Node) → object_cell p d n o v ≡ Some x → name_is c.processes x.sort x.name ≡ true
        by (Module k) e = absurd cc
        by (Port k output r) e = of k _ (sorted _ output _) e
        by (Signal k) e = of k prog.Signal refl e
        by (Variable k u) e = of k (prog.Variable u _) refl e
        by (Pointer t) e = of _ (prog.Pointer _) refl e

    -- what a cell is, by its name and sort
    pub record IsTraced (x : prog.Cell) : Type 0 where
      pub local : (o : Own) → x.name.own ≡ Some o → (j : ℕ) × (q : prog.Process) × (slice_get c.processes j ≡ Some q) × (x.name.path ≡ q.name.path)
      pub port : (path : List Part) → x.sort ≡ prog.Port path → (m : ℕ) × (y : prog.Cell) × (slice_get c.cells m ≡ Some y) × (steps_of y.name ≡ path_steps path) × (prog.is_root y.sort ≡ true) × (same_kind x.kind y.kind ≡ true)
      pub word : (w : ℕ) (fixed : Bool) → x.sort ≡ prog.Variable w fixed → nat_lt w (2 ^ width_of x.kind) ≡ true
      pub name : prog.is_pointer x.sort ≡ false → name_is c.processes x.sort x.name ≡ true

    traced-object : (x : prog.Cell) → IsObjectFrom p d 0 x → IsTraced x
    traced-object x u = record {
      local = λ o e. absurd (let z = object-is p d u.number u.object u.object.node x u.is in let w : None ≡ Some o = sym (ap (λ n. n.own) z.0) ∙ e in cc);
      port = λ path e.
          let v = port-is u.number u.object u.object.node x path u.is e in
          let l = laid.ports u.number u.object x.kind v.0 v.1 u.there v.2 in
          let r = root-cell v.1 l.0 in (
            cell_number d v.1,
            r.1,
            r.3,
            ap steps_of r.4.path ∙ (nil-behind (map part_step r.0.path) ∙ ap (map part_step) (sym (v.3 ∙ ap (λ o. unwrap_or (option_map (λ (o : Object). o.path) o) []) r.2))),
            r.4.root,
            same-kind x.kind r.1.kind (some-is (sym l.1 ∙ (ap (option_and_then (λ (o : Object). kind_of_node d o.node)) r.2 ∙ r.4.kind))),
          );
      word = λ w fixed e. word-is u.number u.object u.object.node x w fixed u.is e (λ k f. laid.words u.number u.object k w u.there f);
      name = λ plain. name-is u.number u.object u.object.node x u.is;
    }

    no-variable : (x : prog.Cell) (j w : ℕ) (fixed : Bool) (s : prog.Sort) → prog.Local j ≡ s → s ≡ prog.Variable w fixed → ⊥
    no-variable x j w fixed s e f = let z : prog.Local j ≡ prog.Variable w fixed = e ∙ f in cc

    no-port : (j : ℕ) (path : List Part) → prog.Local j ≡ prog.Port path → ⊥
    no-port j path e = cc

    variable-plain : (s : prog.Sort) (w : ℕ) (fixed : Bool) → s ≡ prog.Variable w fixed → prog.is_pointer s ≡ false
    variable-plain s w fixed e = ap prog.is_pointer e

    traced-own : (x : prog.Cell) → IsOfProcess p d 0 x → IsTraced x
    traced-own x u = record {
      local = λ o e. (u.number, copied_process p d (0 + u.number) u.process, copy-there 0 d.processes u.number u.process u.there, ap (λ n. n.path) u.own.name);
      port = λ path e. absurd (no-port u.number path (sym (u.own.local (ap prog.is_pointer e)) ∙ e));
      word = λ w fixed e. absurd (no-variable x u.number w fixed x.sort (sym (u.own.local (ap prog.is_pointer e))) e);
      name = λ plain. ap (λ n. name_is c.processes x.sort n) u.own.name ∙ (ap (λ s. own_is c.processes s (process_path p d u.process)) (u.own.local plain)
          ∙ (ap (has_path (process_path p d u.process)) (copy-there 0 d.processes u.number u.process u.there) ∙ path-same (process_path p d u.process)));
    }

    traced : Each IsTraced (core_cells p d)
    traced = each-append IsTraced (object_cells p d) (all_cells p d 0 d.processes) (each-by (IsObjectFrom p d 0) IsTraced traced-object (object_cells p d) (each-object-cell p d))
        (each-by (IsOfProcess p d 0) IsTraced traced-own (all_cells p d 0 d.processes) (each-own-cell p d))

    module _ (ord : IsOrderly p d) where
      pub told : IsTold c
      told = record {
        locals = λ n x o at e. (each-at IsTraced (core_cells p d) n x traced at).local o e;
        names = λ n m x y at there s e. pairs-at names.Apart (core_cells p d) n m x y (cells-apart p d ord laid.apart) at there (λ h. h s e) (λ h. h (sym s) (sym e));
        ports = λ n x path at e. (each-at IsTraced (core_cells p d) n x traced at).port path e;
      }

      pub sorted : IsSorted c
      sorted = record {
        names = λ n x at plain. (each-at IsTraced (core_cells p d) n x traced at).name plain;
        words = λ n x w fixed at e. (each-at IsTraced (core_cells p d) n x traced at).word w fixed e;
      }

      -- clocks and resets are roots, and exits leave blocks around them
      pub clocked : IsClocked c
      clocked = record {
        threads = λ i x at t. let u = copied-at p d 0 i d.processes x at in
            ap (λ (x : prog.Process). is_some x.edge) (sym u.2) ∙ some-edge u.0.edge (laid.threads i u.0 u.1 (ap (λ (x : prog.Process). x.is_thread) u.2 ∙ t));
        edges = λ i x e at f. let u = copied-at p d 0 i d.processes x at in
            let v = map-is u.0.edge (λ e. record { cell = cell_number d e.root; rising = e.rising }) e (ap (λ (x : prog.Process). x.edge) u.2 ∙ f) in
            ap (λ (e : prog.Edge). has_sort prog.is_root c.cells e.cell) (sym v.2) ∙ sort-there v.0.root (laid.edges i u.0 v.0 u.1 v.1);
        resets = λ i x r at f. let u = copied-at p d 0 i d.processes x at in
            let v = map-is u.0.reset (λ r. record { cell = cell_number d r.root; level = r.level; asynchronous = r.asynchronous }) r (ap (λ (x : prog.Process). x.reset) u.2 ∙ f) in
            let l = laid.resets i u.0 v.0 u.1 v.1 in
            (ap (λ (x : prog.Process). x.is_thread) (sym u.2) ∙ l.1, ap (λ (r : prog.Reset). has_sort prog.is_root c.cells r.cell) (sym v.2) ∙ sort-there v.0.root l.0);
        exits = λ i x at. let u = copied-at p d 0 i d.processes x at in
            let z : 0 + i ≡ i = omega arith in
            ap (λ (x : prog.Process). exits_within 0 x.body) (sym u.2) ∙ (ap (λ i. exits_within 0 (copied_body p d i u.0)) z ∙ process-leaves p d i u.0 (ord.processes i u.0 u.1));
      }
        where
          some-edge : (o : Option design.Edge) → is_some o ≡ true → is_some (option_map (λ (e : design.Edge). let x : prog.Edge = record { cell = cell_number d e.root; rising = e.rising } in x) o) ≡ true
          some-edge None e = absurd cc
          some-edge (Some x) e = refl

          sort-there : (r : ℕ) → IsRootAt d r → has_sort prog.is_root c.cells (cell_number d r) ≡ true
          sort-there r e = let x = root-cell r e in ap (λ (o : Option prog.Cell). unwrap_or (option_map prog.is_root (option_map (λ (c : prog.Cell). c.sort) o)) false) x.3 ∙ x.4.root

      pub resolvable : is_kinded p ≡ true → (home : Home) → IsHome home → AreResolvable home c
      resolvable kinded home is i x at =
          let u = copied-at p d 0 i d.processes x at in
          record {
            apart = is-apart home is c (is-named p d ord) told i x at;
            own = copies-own kinded i x at;
            sensed = subst (IsSensed (core_cells p d)) u.2 (sensed (0 + i) i u.0 u.1);
          }
