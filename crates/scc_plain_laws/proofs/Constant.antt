-- What no process writes holds a word that fits where it stands, and is what construction left where that is fixed.
use Rattle.std.proofs.Common.{◌≡◌, ◌⊎◌, inl, inr, ℕ, suc, ◌+◌, ◌<◌, ◌^◌, Bool, true, false, ◌&&◌, List, [], ◌∷◌, ◌++◌, map, filter, Option, Some, None, option_map, option_and_then, unwrap_or, if◌then◌else◌, ap, refl, sym, ◌∙◌, subst}
use Rattle.std.specs.List.{find}
use Rattle.scc_bits_kinds.specs.declared.kind.Kind.{Kind}
use Rattle.scc_bits_kinds.specs.Kinds.{width_of}
use Rattle.scc_semantics.specs.Location.{Location, Part, Root, Top, Local, Answer, same_root, same_path}
use Rattle.scc_semantics.specs.Run.{FitsThing}
use Rattle.scc_semantics.specs.Start.{HoldsConstant}
use Rattle.scc_core_spec.specs.Program as core
use Rattle.scc_core_spec.specs.Constants.{written, constant_if, constant_from}
use Rattle.scc_core_spec.specs.Renumbered.{is_kept_cell}
use Rattle.scc_core_spec.specs.Source.{Home}
use Rattle.scc_core_spec.specs.Uses.{among}
use Rattle.scc_elab_spec.specs.Program.{Plain, Member}
use Rattle.scc_elab_spec.specs.Design.{Design, Object, Node, Module, Port, Signal, Variable, Pointer, Process}
use Rattle.scc_elab_spec.specs.Types.{is_direct}
use Rattle.scc_elab_spec.specs.Cells.{parent, is_top, is_fixed, path_of, port_sort, cell_of, cells_from}
use Rattle.scc_elab_spec.specs.Meant.{is_number, thing_of, word_of, thing_at, fixed_at}
use Rattle.scc_inline_spec.specs.Inlined.{own_cell, own_cells, all_cells, core_cells, member_of_root, process_path}
use Rattle.scc_elab_spec.specs.Bodies.{elements}
use Rattle.scc_elab_spec.specs.Numbering.{numbered}
use Rattle.scc_elab_laws.proofs.Starting.{FitsNode, AllFitting, find-fits, zero-fits}

some_same : {A : Type 0} {a b : A} → Some a ≡ Some b → a ≡ b
some_same e = cc

-- what has no constant, written or not
abbrev IsSilent : core.Cell → Type 0
IsSilent c = (b : Bool) → constant_if b c.sort ≡ None

abbrev AllSilent : List core.Cell → Type 0
AllSilent [] = Unit {0}
AllSilent (c ∷ cs) = IsSilent c × AllSilent cs

silent-append : (xs ys : List core.Cell) → AllSilent xs → AllSilent ys → AllSilent (xs ++ ys)
silent-append [] ys a b = b
silent-append (x ∷ xs) ys a b = (a.0, silent-append xs ys a.1 b)

silent-own : (path : List Part) (i n : ℕ) (m : Member) (is : List ℕ) → IsSilent (own_cell path i n m is)
silent-own path i n m is = by (is_direct m.shape.reach)
  where
    by : (b c : Bool) → constant_if c (if b then core.Local i else core.Pointer None) ≡ None
    by true true = refl
    by true false = refl
    by false true = refl
    by false false = refl

silent-all : (path : List Part) (i n : ℕ) (m : Member) (xs : List (List ℕ)) → AllSilent (map (own_cell path i n m) xs)
silent-all path i n m [] = tt
silent-all path i n m (x ∷ xs) = (silent-own path i n m x, silent-all path i n m xs)

silent-member : (path : List Part) (i n : ℕ) (o : Option Member) → AllSilent (unwrap_or (option_map (λ m. map (own_cell path i n m) (elements m.shape.sizes)) o) [])
silent-member path i n None = tt
silent-member path i n (Some m) = silent-all path i n m (elements m.shape.sizes)

silent-cells : (p : Plain) (i f : ℕ) (path : List Part) (n : ℕ) (rs : List Root) → AllSilent (own_cells p i f path n rs)
silent-cells p i f path n [] = tt
silent-cells p i f path n (r ∷ rs) =
    silent-append (unwrap_or (option_map (λ m. map (own_cell path i n m) (elements m.shape.sizes)) (member_of_root p f r)) []) (own_cells p i f path (suc n) rs) (silent-member path i n (member_of_root p f r)) (silent-cells p i f path (suc n) rs)

silent-processes : (p : Plain) (d : Design) (i : ℕ) (qs : List Process) → AllSilent (all_cells p d i qs)
silent-processes p d i [] = tt
silent-processes p d i (q ∷ qs) =
    silent-append (own_cells p i q.function (process_path p d q) 0 (numbered p i q.function)) (all_cells p d (suc i) qs) (silent-cells p i q.function (process_path p d q) 0 (numbered p i q.function))
    (silent-processes p d (suc i) qs)

module _ (home : Home) (c : core.Program) where
  abbrev pub from : ℕ → List core.Cell → Location → Option ℕ
  from k cs l = constant_from home c k (filter is_kept_cell cs) l

  silent-one : (x : core.Cell) (xs : List core.Cell) (k : ℕ) (l : Location) → IsSilent x → ((j : ℕ) → from j xs l ≡ None) → from k (x ∷ xs) l ≡ None
  silent-one x xs k l a more = by (is_kept_cell x)
    where
      hit : (b c : Bool) → (if b then constant_if c x.sort else from (k + 1) xs l) ≡ None
      hit true c = a c
      hit false c = more (k + 1)

      by : (b : Bool) → constant_from home c k (if b then x ∷ filter is_kept_cell xs else filter is_kept_cell xs) l ≡ None
      by true = hit _ _
      by false = more k

  silent-none : (cs : List core.Cell) (k : ℕ) (l : Location) → AllSilent cs → from k cs l ≡ None
  silent-none [] k l a = refl
  silent-none (x ∷ xs) k l a = silent-one x xs k l a.0 (λ j. silent-none xs j l a.1)

  module _ (p : Plain) (d : Design) (rest : List core.Cell) (silent : AllSilent rest) where
    -- the word of a node that no process writes
    abbrev Left_as : Node → ℕ → Type 0
    Left_as (Module m) w = ⊥
    Left_as (Port k output r) w = 0 ≡ w
    Left_as (Signal k) w = 0 ≡ w
    Left_as (Variable k x) w = x ≡ w
    Left_as (Pointer t) w = ⊥

    module _ (path : List Part) (w : ℕ) where
      abbrev here : Location
      here = record { root = Top; path = path }

      record Found (os : List Object) : Type 0 where
        object : Object
        there : find (λ o. is_number p d o.node && same_path o.path path) os ≡ Some object
        left : Left_as object.node w

      -- the object itself is the one, or it is none that counts
      abbrev Turn : Object → List Object → Node → Type 0
      Turn o os v = ((is_number p d v && same_path o.path path ≡ true) × Left_as v w) ⊎ ((is_number p d v && same_path o.path path ≡ false) × Found os)

      turned : (o : Object) (os : List Object) → Turn o os o.node → Found (o ∷ os)
      turned o os (inl t) = record { object = o; there = ap (λ b. if b then Some o else find (λ o. is_number p d o.node && same_path o.path path) os) t.0; left = t.1 }
      turned o os (inr t) = record {
        object = t.1.object;
        there = ap (λ b. if b then Some o else find (λ o. is_number p d o.node && same_path o.path path) os) t.0 ∙ t.1.there;
        left = t.1.left;
      }

      module _ (n k : ℕ) (o : Object) (os : List Object) (more : (j : ℕ) → from j (cells_from p d (suc n) os ++ rest) here ≡ Some w → Found os) where
        abbrev after : List core.Cell
        after = cells_from p d (suc n) os ++ rest

        -- the object, with another node
        abbrev with_node : Node → Object
        with_node v = record { path = o.path; place = o.place; node = v }

        one : (v : Node) (s : core.Sort) → is_number p d v ≡ true → ((b : Bool) → constant_if b s ≡ Some w → Left_as v w) → (b : Bool) → same_path o.path path ≡ b
            → (if b then constant_if (among k (written c)) s else from (k + 1) after here) ≡ Some w → Turn o os v
        one v s number is true t e = inl (ap (λ b. b && same_path o.path path) number ∙ t, is (among k (written c)) e)
        one v s number is false t e = inr (ap (λ b. b && same_path o.path path) number ∙ t, more (k + 1) e)

        zero-left : (b : Bool) → constant_if b core.Signal ≡ Some w → 0 ≡ w
        zero-left true e = cc
        zero-left false e = some_same e

        output-left : (b : Bool) → constant_if b core.Output ≡ Some w → 0 ≡ w
        output-left true e = cc
        output-left false e = some_same e

        input-left : (b : Bool) → constant_if b core.Input ≡ Some w → 0 ≡ w
        input-left true e = cc
        input-left false e = cc

        port-left : (r : List Part) (b : Bool) → constant_if b (core.Port r) ≡ Some w → 0 ≡ w
        port-left r true e = cc
        port-left r false e = cc

        word-left : (x : ℕ) (f b : Bool) → constant_if b (core.Variable x f) ≡ Some w → x ≡ w
        word-left x f true e = cc
        word-left x f false e = some_same e

        -- a test that ends in what is true
        plain : (b : Bool) (x y : Option ℕ) → (if b && true then x else y) ≡ (if b then x else y)
        plain true x y = refl
        plain false x y = refl

        port : (kind : Kind) (root : ℕ) (t out : Bool) (r : List Part) → from k (cell_of o.path kind (port_sort t out r) o ∷ after) here ≡ Some w → Turn o os (Port kind out root)
        port kind root true true r e = one (Port kind true root) core.Output refl output-left (same_path o.path path) refl (sym (plain (same_path o.path path) _ _) ∙ e)
        port kind root true false r e = one (Port kind false root) core.Input refl input-left (same_path o.path path) refl (sym (plain (same_path o.path path) _ _) ∙ e)
        port kind root false out r e = one (Port kind out root) (core.Port r) refl (port-left r) (same_path o.path path) refl (sym (plain (same_path o.path path) _ _) ∙ e)

        turn : (v : Node) → from k (cells_from p d n (with_node v ∷ os) ++ rest) here ≡ Some w → Turn o os v
        turn (Module m) e = inr (refl, more k e)
        turn (Pointer t) e = inr (refl, more k e)
        turn (Signal kind) e = one (Signal kind) core.Signal refl zero-left (same_path o.path path) refl (sym (plain (same_path o.path path) _ _) ∙ e)
        turn (Variable kind x) e = one (Variable kind x) (core.Variable x (is_fixed p d o.path)) refl (word-left x (is_fixed p d o.path)) (same_path o.path path) refl (sym (plain (same_path o.path path) _ _) ∙ e)
        turn (Port kind out root) e = port kind root (is_top (parent d o.path)) out (path_of d root) e

      found : (n k : ℕ) (os : List Object) → from k (cells_from p d n os ++ rest) here ≡ Some w → Found os
      found n k [] e = absurd (let f : None ≡ Some w = sym (silent-none rest k here silent) ∙ e in cc)
      found n k (o ∷ os) e = turned o os (turn n k o os (λ j. found (suc n) j os) o.node e)

    -- away from the top nothing is constant
    module _ (r : Root) (path : List Part) (away : same_root Top r ≡ false) where
      abbrev there : Location
      there = record { root = r; path = path }

      module _ (n k : ℕ) (o : Object) (os : List Object) (more : (j : ℕ) → from j (cells_from p d (suc n) os ++ rest) there ≡ None) where
        abbrev others : List core.Cell
        others = cells_from p d (suc n) os ++ rest

        abbrev other_node : Node → Object
        other_node v = record { path = o.path; place = o.place; node = v }

        passed : (x : Option ℕ) → (if (same_root Top r && same_path o.path path) && true then x else from (k + 1) others there) ≡ None
        passed x = ap (λ b. if (b && same_path o.path path) && true then x else from (k + 1) others there) away ∙ more (k + 1)

        port-passed : (kind : Kind) (t out : Bool) (q : List Part) → from k (cell_of o.path kind (port_sort t out q) o ∷ others) there ≡ None
        port-passed kind true true q = passed _
        port-passed kind true false q = passed _
        port-passed kind false out q = passed _

        node-passed : (v : Node) → from k (cells_from p d n (other_node v ∷ os) ++ rest) there ≡ None
        node-passed (Module m) = more k
        node-passed (Pointer t) = more k
        node-passed (Signal kind) = passed _
        node-passed (Variable kind x) = passed _
        node-passed (Port kind out root) = port-passed kind (is_top (parent d o.path)) out (path_of d root)

      elsewhere : (n k : ℕ) (os : List Object) → from k (cells_from p d n os ++ rest) there ≡ None
      elsewhere n k [] = silent-none rest k there silent
      elsewhere n k (o ∷ os) = node-passed n k o os (λ j. elsewhere (suc n) j os) o.node

-- what no process of a core writes, whose cells are a design's that are no pointers
module _ (home : Home) (c : core.Program) (p : Plain) (d : Design) (fitting : AllFitting d.objects) where
  abbrev constant_at : Location → Option ℕ
  constant_at l = constant_from home c 0 (filter is_kept_cell (core_cells p d)) l

  abbrev rest : List core.Cell
  rest = all_cells p d 0 d.processes

  silent : AllSilent rest
  silent = silent-processes p d 0 d.processes

  node-fits : (o : Object) (v : Node) (w : ℕ) → FitsNode v → Left_as home c p d rest silent v w → FitsThing (thing_of p d o v) w
  node-fits o (Module m) w a b = absurd b
  node-fits o (Port k out root) w a b = subst (FitsThing (thing_of p d o (Port k out root))) b (zero-fits (thing_of p d o (Port k out root)))
  node-fits o (Signal k) w a b = subst (FitsThing (thing_of p d o (Signal k))) b (zero-fits (thing_of p d o (Signal k)))
  node-fits o (Variable k x) w a b = subst (λ z. z < 2 ^ width_of k) b a
  node-fits o (Pointer t) w a b = absurd b

  node-fixed : (o : Object) (v : Node) (w : ℕ) → Left_as home c p d rest silent v w → HoldsConstant (word_of p d o v) w
  node-fixed o (Module m) w b = absurd b
  node-fixed o (Port k out root) w b = tt
  node-fixed o (Signal k) w b = tt
  node-fixed o (Variable k x) w b = by (is_fixed p d o.path)
    where
      by : (f : Bool) → HoldsConstant (if f then Some x else None) w
      by true = sym b
      by false = tt
  node-fixed o (Pointer t) w b = absurd b

  top-fits : (path : List Part) (w : ℕ) → constant_at (record { root = Top; path = path }) ≡ Some w → FitsThing (thing_at p d Top path) w
  top-fits path w e =
      let f = found home c p d rest silent path w 0 0 d.objects e in
      subst (λ o. FitsThing (option_and_then (λ o. thing_of p d o o.node) o) w) (sym f.there) (node-fits f.object f.object.node w (find-fits _ d.objects f.object fitting f.there) f.left)

  top-fixed : (path : List Part) (w : ℕ) → constant_at (record { root = Top; path = path }) ≡ Some w → HoldsConstant (fixed_at p d Top path) w
  top-fixed path w e =
      let f = found home c p d rest silent path w 0 0 d.objects e in
      subst (λ o. HoldsConstant (option_and_then (λ o. word_of p d o o.node) o) w) (sym f.there) (node-fixed f.object f.object.node w f.left)

  none-away : (r : Root) (path : List Part) (w : ℕ) → same_root Top r ≡ false → constant_at (record { root = r; path = path }) ≡ Some w → ⊥
  none-away r path w away e = let f : None ≡ Some w = sym (elsewhere home c p d rest silent r path away 0 0 d.objects) ∙ e in cc

  pub constant-fits : (r : Root) (path : List Part) (w : ℕ) → constant_at (record { root = r; path = path }) ≡ Some w → FitsThing (thing_at p d r path) w
  constant-fits Top path w e = top-fits path w e
  constant-fits (Local i cs n) path w e = absurd (none-away (Local i cs n) path w refl e)
  constant-fits (Answer i cs) path w e = absurd (none-away (Answer i cs) path w refl e)

  pub constant-fixed : (r : Root) (path : List Part) (w : ℕ) → constant_at (record { root = r; path = path }) ≡ Some w → HoldsConstant (fixed_at p d r path) w
  constant-fixed Top path w e = top-fixed path w e
  constant-fixed (Local i cs n) path w e = absurd (none-away (Local i cs n) path w refl e)
  constant-fixed (Answer i cs) path w e = absurd (none-away (Answer i cs) path w refl e)

-- Locals have no constant, so it doesn't matter which places stand for them.
module _ (home other : Home) (c : core.Program) (p : Plain) (d : Design) where
  abbrev own : List core.Cell
  own = all_cells p d 0 d.processes

  own-silent : AllSilent own
  own-silent = silent-processes p d 0 d.processes

  module _ (path : List Part) where
    abbrev top_path : Location
    top_path = record { root = Top; path = path }

    module _ (n k : ℕ) (o : Object) (os : List Object) (more : (j : ℕ) → from home c j (cells_from p d (suc n) os ++ own) top_path ≡ from other c j (cells_from p d (suc n) os ++ own) top_path) where
      abbrev any_node : Node → Object
      any_node v = record { path = o.path; place = o.place; node = v }

      chosen : (s : core.Sort) → (if same_path o.path path && true then constant_if (among k (written c)) s else from home c (k + 1) (cells_from p d (suc n) os ++ own) top_path)
          ≡ (if same_path o.path path && true then constant_if (among k (written c)) s else from other c (k + 1) (cells_from p d (suc n) os ++ own) top_path)
      chosen s = ap (λ z. if same_path o.path path && true then constant_if (among k (written c)) s else z) (more (k + 1))

      port-chosen : (kind : Kind) (t out : Bool) (q : List Part) → from home c k (cell_of o.path kind (port_sort t out q) o ∷ (cells_from p d (suc n) os ++ own)) top_path
          ≡ from other c k (cell_of o.path kind (port_sort t out q) o ∷ (cells_from p d (suc n) os ++ own)) top_path
      port-chosen kind true true q = chosen core.Output
      port-chosen kind true false q = chosen core.Input
      port-chosen kind false out q = chosen (core.Port q)

      node-chosen : (v : Node) → from home c k (cells_from p d n (any_node v ∷ os) ++ own) top_path ≡ from other c k (cells_from p d n (any_node v ∷ os) ++ own) top_path
      node-chosen (Module m) = more k
      node-chosen (Pointer t) = more k
      node-chosen (Signal kind) = chosen core.Signal
      node-chosen (Variable kind x) = chosen (core.Variable x (is_fixed p d o.path))
      node-chosen (Port kind out root) = port-chosen kind (is_top (parent d o.path)) out (path_of d root)

    top-same : (n k : ℕ) (os : List Object) → from home c k (cells_from p d n os ++ own) top_path ≡ from other c k (cells_from p d n os ++ own) top_path
    top-same n k [] = silent-none home c own k top_path own-silent ∙ sym (silent-none other c own k top_path own-silent)
    top-same n k (o ∷ os) = node-chosen n k o os (λ j. top-same (suc n) j os) o.node

  away-same : (r : Root) (path : List Part) → same_root Top r ≡ false → from home c 0 (core_cells p d) (record { root = r; path = path }) ≡ from other c 0 (core_cells p d) (record { root = r; path = path })
  away-same r path away = elsewhere home c p d own own-silent r path away 0 0 d.objects ∙ sym (elsewhere other c p d own own-silent r path away 0 0 d.objects)

  pub one-constant : (r : Root) (path : List Part) → from home c 0 (core_cells p d) (record { root = r; path = path }) ≡ from other c 0 (core_cells p d) (record { root = r; path = path })
  one-constant Top path = top-same path 0 0 d.objects
  one-constant (Local i cs n) path = away-same (Local i cs n) path refl
  one-constant (Answer i cs) path = away-same (Answer i cs) path refl
