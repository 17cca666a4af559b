-- Copied statements name the cells of objects and of their own process.
use Rattle.std.proofs.Common.{◌≡◌, ℕ, zero, suc, Bool, true, false, ◌&&◌, List, [], ◌∷◌, ◌++◌, map, Option, Some, None, option_map, slice_get, unwrap_or, refl, sym, ap, ◌∙◌, subst, arith, if◌then◌else◌}
use Rattle.scc_base.specs.declared.refusal.Place.{Place}
use Rattle.scc_bits_kinds.specs.declared.kind.Kind.{Kind}
use Rattle.scc_bits.specs.Values.{kind_of as operator_kind}
use Rattle.scc_semantics.specs.Location.{Part}
use Rattle.scc_semantics.specs.Location as location
use Rattle.scc_core_spec.specs.Term as core
use Rattle.scc_core_spec.specs.Term.{CellName, Own}
use Rattle.scc_core_spec.specs.Code as stmt
use Rattle.scc_core_spec.specs.Program as prog
use Rattle.scc_core_spec.specs.Static.{Cells}
use Rattle.scc_core_spec.specs.Fit.{is_kind}
use Rattle.scc_core_spec.specs.Named.{At, Ours, part_step, own_steps, steps_of, cell_at}
use Rattle.scc_core_spec.specs.Fold.{named, extended, member_behind, member_of, element_of, element_or, in_range, static_index, size_of}
use Rattle.scc_core_spec.specs.Resolved.{placed}
use Rattle.scc_elab_spec.specs.Term.{Term, Literal, Load, Read, Convert, Unary, Binary, Choose, Bit, Range, Join, Left, Local, Answer, This, Follow, Index, Pick, Whole, OneBit, Bits, Target, Null, Address, Copy, Argument, Value, Leads, ModuleName, kind_of}
use Rattle.scc_elab_spec.specs.Term as term
use Rattle.scc_elab_spec.specs.Program.{Base, Code, End, Declare, Assign, Point, Write, Call, If, Loop, Block, Exit, Return, Wait, Make, Bind, Process, Sensitive, Quiet, Reset, Function, Plain, Member}
use Rattle.scc_elab_spec.specs.Program as plain
use Rattle.scc_elab_spec.specs.Types.{declared_at, is_direct, is_reference, points_at, sizes_at}
use Rattle.scc_elab_spec.specs.Worth.{member_name}
use Rattle.scc_elab_spec.specs.Copied.{Here, located, copied, refer, size_here, local_name, answer_name, left_of, pick_of, target_of}
use Rattle.scc_elab_spec.specs.Bodies.{Calling, aimed, callee_of, cell_of, cleared, elements, inside, is_first, local_as_whole, number_kind, object_of, passed, pointed, result_name, sizes_of, soften, zeroed}
use Rattle.scc_inline_spec.specs.Inlined.{body_of, call_of}
use Rattle.scc_core_pass_laws.specs.Pointing.{IsName, IsCellName, OwnNames, OwnLeft, OwnPick, OwnCode}
use Rattle.scc_core_pass_laws.proofs.Standing.{found_cell}
use Rattle.scc_core_resolved_laws.proofs.Agreeing.{fits-is, name-closed}
use Rattle.scc_core_resolved_laws.proofs.Apart.{nil-behind, no-ours, two-ours}
use Rattle.scc_core_resolved_laws.proofs.Bools.{and-first, and-second, is_kind-is, all-at}
use Rattle.scc_inline_process_laws.proofs.Kinded.{kind-copied}
use Rattle.scc_inline_core_laws.specs.Kinded.{kinded_term, kinded_left, kinded_pick, kinded_target, kinded_object, kinded_arguments, kinded_code, is_kinded}

-- names of the same steps are both a process's own, or neither is a local's
same-owner : (n m : CellName) (o : Own) → steps_of n ≡ steps_of m → m.own ≡ Some o → (u : Own) × (n.own ≡ Some u) × (n.path ≡ m.path)
same-owner n m o e is = by n.own refl
  where
    there : (u : Option Own) → n.own ≡ u → map part_step n.path ++ own_steps u n.indices ≡ map part_step m.path ++ (Ours o.number ∷ map At m.indices)
    there u f = ap (λ u. map part_step n.path ++ own_steps u n.indices) (sym f) ∙ (e ∙ ap (λ u. map part_step m.path ++ own_steps u m.indices) is)

    by : (u : Option Own) → n.own ≡ u → (u : Own) × (n.own ≡ Some u) × (n.path ≡ m.path)
    by None f = absurd (no-ours n.path m.path o.number (map At m.indices) (sym (nil-behind (map part_step n.path)) ∙ there None f))
    by (Some u) f = (u, f, (two-ours n.path m.path u.number o.number (map At n.indices) (map At m.indices) (there (Some u) f)).0)

module _ (q : prog.Process) (cs : Cells) where
  -- the cell of a process's name is the process's
  own-found : (pointer : Bool) (n : CellName) → IsName q n → (k : ℕ) → cell_at pointer 0 (steps_of n) cs ≡ Some k → IsCellName q cs (slice_get cs k)
  own-found pointer n own k e =
      let f = found_cell pointer 0 (steps_of n) cs k e in
      let z : k ≡ f.0 = let w = f.2 in omega (arith, w) in
      let s : steps_of n ≡ steps_of f.1.name = fits-is (steps_of n) (steps_of f.1.name) (name-closed n) f.4 in
      let x : IsName q f.1.name = λ o is. (let u = same-owner n f.1.name o s is in sym u.2 ∙ own u.0 u.1) in
      subst (IsCellName q cs) (sym (ap (slice_get cs) z ∙ f.3)) x

  own-named : (vs : List prog.Vector) (pointer : Bool) (l : core.Left) → OwnLeft q cs l → OwnLeft q cs (named cs vs pointer l)
  own-named vs pointer (core.Cell p n) k = k
  own-named vs pointer (core.Prefix p n) k = by (cell_at pointer 0 (steps_of n) cs) refl
    where
      by : (o : Option ℕ) → cell_at pointer 0 (steps_of n) cs ≡ o → OwnLeft q cs (unwrap_or (option_map (core.Cell p) o) (core.Prefix p n))
      by None e = k
      by (Some c) e = own-found pointer n k c e
  own-named vs pointer (core.Null p) k = tt
  own-named vs pointer (core.Follow p s l) k = k
  own-named vs pointer (core.Member l n) k = k
  own-named vs pointer (core.Index l size e) k = k

  own-placed : (p : Place) (l : core.Left) → OwnLeft q cs l → OwnLeft q cs (placed p l)
  own-placed p (core.Cell o n) k = k
  own-placed p (core.Prefix o n) k = k
  own-placed p (core.Null o) k = tt
  own-placed p (core.Follow o s l) k = k
  own-placed p (core.Member l n) k = own-placed p l k
  own-placed p (core.Index l size e) k = (own-placed p l k.0, k.1)

  own-soften : (l : core.Left) → OwnLeft q cs l → OwnLeft q cs (soften l)
  own-soften (core.Cell o n) k = k
  own-soften (core.Prefix o n) k = k
  own-soften (core.Null o) k = tt
  own-soften (core.Follow o s l) k = k
  own-soften (core.Member l n) k = own-soften l k
  own-soften (core.Index l size e) k = (own-soften l k.0, k.1)

  -- a name with one more part
  own-element-name : (path : List Part) (own : Option Own) (indices : List ℕ) (i : ℕ) → ((o : Own) → own ≡ Some o → path ≡ q.name.path) → IsName q (extended (record { path = path; own = own; indices = indices }) (location.Element i))
  own-element-name path None indices i h o e = absurd cc
  own-element-name path (Some u) indices i h o e = h u refl

  own-member-name : (path : List Part) (own : Option Own) (indices : List ℕ) (m : ℕ) → own ≡ None → IsName q (extended (record { path = path; own = own; indices = indices }) (location.Member m))
  own-member-name path None indices m f o e = absurd cc
  own-member-name path (Some u) indices m f o e = absurd cc

  own-member : (vs : List prog.Vector) (l : core.Left) (n : ℕ) → OwnLeft q cs l → OwnLeft q cs (member_of cs vs l n)
  own-member vs (core.Cell o c) n k = k
  own-member vs (core.Prefix o name) n k = by name.own refl
    where
      by : (u : Option Own) → name.own ≡ u → OwnLeft q cs (member_behind cs vs o name u n)
      by None f = own-member-name name.path name.own name.indices n f
      by (Some u) f = k
  own-member vs (core.Null o) n k = tt
  own-member vs (core.Follow o s l) n k = k
  own-member vs (core.Member l m) n k = k
  own-member vs (core.Index l size i) n k = k

  own-element : (vs : List prog.Vector) (l : core.Left) (n : ℕ) (e : core.Term) → OwnLeft q cs l → OwnNames q cs e → OwnLeft q cs (element_of cs vs l n e)
  own-element vs (core.Cell o c) n e k t = (k, t)
  own-element vs (core.Prefix o c) n e k t = by (in_range cs vs (size_of cs vs n (core.Prefix o c)) (static_index cs vs e))
    where
      by : (u : Option ℕ) → OwnLeft q cs (element_or cs vs (core.Prefix o c) u (core.Index (core.Prefix o c) (size_of cs vs n (core.Prefix o c)) e))
      by None = (k, t)
      by (Some i) = own-element-name c.path c.own c.indices i k
  own-element vs (core.Null o) n e k t = (k, t)
  own-element vs (core.Follow o s l) n e k t = (k, t)
  own-element vs (core.Member l m) n e k t = (k, t)
  own-element vs (core.Index l m i) n e k t = (k, t)

  own-aim : (p : Place) (declares : Bool) (l t : core.Left) (r : stmt.Code) → OwnLeft q cs l → OwnLeft q cs t → OwnCode q cs r → OwnCode q cs (stmt.Aim p (pointed declares l) t r)
  own-aim p true (core.Cell o n) t r a b c = (a, b, c)
  own-aim p true (core.Prefix o n) t r a b c = (a, b, c)
  own-aim p true (core.Null o) t r a b c = (a, b, c)
  own-aim p true (core.Follow o s l) t r a b c = (a, b, c)
  own-aim p true (core.Member l m) t r a b c = (a, b, c)
  own-aim p true (core.Index l m i) t r a b c = (a, b, c)
  own-aim p false l t r a b c = (a, b, c)

-- a copy has the kind of what is copied, wherever locals stand
kind-same : (h : Here) (e : Term) → core.kind_of (copied h (result_name h) e) ≡ kind_of e
kind-same h e = kind-copied (λ i n. location.Top) h e

module _ (q : prog.Process) where
  -- copies for that process, on an object that it may name
  pub record IsOf (h : Here) : Type 0 where
    pub path : h.path ≡ q.name.path
    pub this : OwnLeft q h.cells h.this

  of-inside : (h : Here) (cs : List ℕ) (f : Function) (this : core.Left) → h.path ≡ q.name.path → OwnLeft q h.cells this → IsOf (inside h cs f this)
  of-inside h cs f this p t = record { path = p; this = t }

  module _ (h : Here) (of : IsOf h) where
    own-local : (n : ℕ) (is : List ℕ) → IsName q (local_name h n is)
    own-local n is o e = of.path

    own-answer : (cs : List ℕ) (f : Function) → IsName q (answer_name h cs f)
    own-answer cs f o e = of.path

    own-result : (n : ℕ) → IsName q (result_name h n)
    own-result n = by (callee_of h n)
      where
        by : (f : Option Function) → IsName q (unwrap_or (option_map (answer_name h (n ∷ h.calls)) f) (record { path = []; own = None; indices = [] }))
        by None o e = absurd cc
        by (Some f) o e = of.path

    own-cell : (p : Place) (pointer : Bool) (n : CellName) → IsName q n → OwnLeft q h.cells (cell_of h p pointer n)
    own-cell p pointer n own = own-named q h.cells h.vectors pointer (core.Prefix p n) own

    own-refer : (p : Place) (follow : Bool) (m : Option plain.Member) (l : core.Left) → OwnLeft q h.cells l → OwnLeft q h.cells (refer h p follow m l)
    own-refer p follow None l k = k
    own-refer p follow (Some m) l k = by (follow && is_reference m.shape.reach)
      where
        by : (c : Bool) → OwnLeft q h.cells (if c then core.Follow p false (named h.cells h.vectors true l) else l)
        by true = own-named q h.cells h.vectors true l k
        by false = k

    abbrev copy : Term → core.Term
    copy e = copied h (result_name h) e

    mutual
      own-located : (follow : Bool) (l : Left) → kinded_left l ≡ true → OwnLeft q h.cells (located h (result_name h) follow l)
      own-located follow (Local p n) t = own-refer p follow (slice_get h.function.locals n) (core.Prefix p (local_name h n [])) (own-local n [])
      own-located follow (Answer p n) t = own-result n
      own-located follow (This p) t = own-placed q h.cells p h.this of.this
      own-located follow (Follow p l) t = own-named q h.cells h.vectors (points_at h.plain h.function l) (located h (result_name h) true l) (own-located true l t)
      own-located follow (term.Member l m) t =
          own-refer (term.place_at l) follow (declared_at h.plain h.function (term.Member l m))
          (member_of h.cells h.vectors (located h (result_name h) true l) (member_name (declared_at h.plain h.function (term.Member l m))))
          (own-member q h.cells h.vectors (located h (result_name h) true l) (member_name (declared_at h.plain h.function (term.Member l m))) (own-located true l t))
      own-located follow (Index l e) t = own-element q h.cells h.vectors (located h (result_name h) true l) (size_here (sizes_at h.plain h.function l)) (copy e)
          (own-located true l (and-first (kinded_left l) (kinded_term e) t)) (own-copied e (and-second (kinded_left l) (kinded_term e) t))

      own-copied : (e : Term) → kinded_term e ≡ true → OwnNames q h.cells (copy e)
      own-copied (Literal p k w) t = tt
      own-copied (Load p k l) t = own-named q h.cells h.vectors (points_at h.plain h.function l) (located h (result_name h) true l) (own-located true l t)
      own-copied (Read p k l) t = own-named q h.cells h.vectors (points_at h.plain h.function l) (located h (result_name h) true l) (own-located true l t)
      own-copied (Convert p k e) t = own-copied e t
      own-copied (Unary p k o a) t = (
        ap (λ j. operator_kind o j j) (kind-same h a) ∙ is_kind-is (operator_kind o (kind_of a) (kind_of a)) k (and-first (is_kind (operator_kind o (kind_of a) (kind_of a)) k) (kinded_term a) t),
        own-copied a (and-second (is_kind (operator_kind o (kind_of a) (kind_of a)) k) (kinded_term a) t),
      )
      own-copied (Binary p k o a b) t =
          let u = and-second (is_kind (operator_kind o (kind_of a) (kind_of b)) k) (kinded_term a && kinded_term b) t in (
            ap (λ j. operator_kind o j (core.kind_of (copy b))) (kind-same h a) ∙ (ap (operator_kind o (kind_of a)) (kind-same h b)
                ∙ is_kind-is (operator_kind o (kind_of a) (kind_of b)) k (and-first (is_kind (operator_kind o (kind_of a) (kind_of b)) k) (kinded_term a && kinded_term b) t)),
            own-copied a (and-first (kinded_term a) (kinded_term b) u),
            own-copied b (and-second (kinded_term a) (kinded_term b) u),
          )
      own-copied (Choose p k n a b) t =
          let u = and-second (kinded_term n) (kinded_term a && kinded_term b) t in
          (own-copied n (and-first (kinded_term n) (kinded_term a && kinded_term b) t), own-copied a (and-first (kinded_term a) (kinded_term b) u), own-copied b (and-second (kinded_term a) (kinded_term b) u))
      own-copied (Bit p a e) t = (own-copied a (and-first (kinded_term a) (kinded_term e) t), own-copied e (and-second (kinded_term a) (kinded_term e) t))
      own-copied (Range p k a m l) t = own-copied a t
      own-copied (Join p k a b) t = (own-copied a (and-first (kinded_term a) (kinded_term b) t), own-copied b (and-second (kinded_term a) (kinded_term b) t))

    own-left : (follow : Bool) (l : Left) → kinded_left l ≡ true → OwnLeft q h.cells (left_of h (result_name h) follow l)
    own-left follow l t = own-named q h.cells h.vectors (points_at h.plain h.function l) (located h (result_name h) follow l) (own-located follow l t)

    own-pick : (k : Pick) → kinded_pick k ≡ true → OwnPick q h.cells (pick_of h (result_name h) k)
    own-pick Whole t = tt
    own-pick (OneBit e) t = own-copied e t
    own-pick (Bits m l) t = tt

    own-target : (p : Place) (t : Target) → kinded_target t ≡ true → OwnLeft q h.cells (target_of h (result_name h) p t)
    own-target p Null t = tt
    own-target p (Address l) t = own-left true l t
    own-target p (Copy l) t = own-left true l t

    own-object : (o : Option Left) → kinded_object o ≡ true → OwnLeft q h.cells (object_of h (result_name h) o)
    own-object None t = of.this
    own-object (Some l) t = own-soften q h.cells (left_of h (result_name h) true l) (own-left true l t)

    own-cleared : (p : Place) (n : ℕ) (m : Option Member) (all : List (List ℕ)) (rest : stmt.Code) → OwnCode q h.cells rest → OwnCode q h.cells (cleared h p n m all rest)
    own-cleared p n None all rest r = r
    own-cleared p n (Some m) [] rest r = r
    own-cleared p n (Some m) (i ∷ is) rest r = by (is_direct m.shape.reach) (own-cleared p n (Some m) is rest r)
      where
        by : (b : Bool) → OwnCode q h.cells (cleared h p n (Some m) is rest) → OwnCode q h.cells (if b
            then stmt.Put p (cell_of h p false (local_name h n i)) core.Whole (core.Literal p (number_kind m.shape.base) 0) (cleared h p n (Some m) is rest)
            else stmt.Aim p (pointed true (cell_of h p true (local_name h n i))) (core.Null p) (cleared h p n (Some m) is rest))
        by true r = (own-cell p false (local_name h n i) (own-local n i), tt, tt, r)
        by false r = own-aim q h.cells p true (cell_of h p true (local_name h n i)) (core.Null p) (cleared h p n (Some m) is rest) (own-cell p true (local_name h n i) (own-local n i)) tt r

    own-zeroed : (p : Place) (cs : List ℕ) (g : Function) (k : Option Kind) (rest : stmt.Code) → OwnCode q h.cells rest → OwnCode q h.cells (zeroed h p cs g k rest)
    own-zeroed p cs g None rest r = r
    own-zeroed p cs g (Some k) rest r = (own-cell p false (answer_name h cs g) (own-answer cs g), tt, tt, r)

    own-passed : (cs : List ℕ) (g : Function) (this : core.Left) → OwnLeft q h.cells this → (p : Place) (n : ℕ) (args : List Argument) (rest : stmt.Code) → kinded_arguments args ≡ true → OwnCode q h.cells rest
        → OwnCode q h.cells (passed h (result_name h) (inside h cs g this) p n args rest)
    own-passed cs g this o p n [] rest t r = r
    own-passed cs g this o p n (Value e ∷ args) rest t r = (
      own-named q h.cells h.vectors false (core.Prefix p (local_name (inside h cs g this) n [])) (λ o e. of.path),
      tt,
      own-copied e (and-first (kinded_term e) (kinded_arguments args) t),
      own-passed cs g this o p (suc n) args rest (and-second (kinded_term e) (kinded_arguments args) t) r,
    )
    own-passed cs g this o p n (Leads a ∷ args) rest t r = own-aim q h.cells p true (cell_of (inside h cs g this) p true (local_name (inside h cs g this) n [])) (target_of h (result_name h) p a)
        (passed h (result_name h) (inside h cs g this) p (suc n) args rest)
        (own-named q h.cells h.vectors true (core.Prefix p (local_name (inside h cs g this) n [])) (λ o e. of.path))
        (own-target p a (and-first (kinded_target a) (kinded_arguments args) t))
        (own-passed cs g this o p (suc n) args rest (and-second (kinded_target a) (kinded_arguments args) t) r)
    own-passed cs g this o p n (ModuleName ∷ args) rest t r = own-passed cs g this o p (suc n) args rest t r

    module _ (call : Calling) (calls : (cs : List ℕ) (f : ℕ) (this : core.Left) → OwnLeft q h.cells this → OwnCode q h.cells (call cs f this)) where
      pub own-body : (d : ℕ) (before : List ℕ) (c : Code) → kinded_code c ≡ true → OwnCode q h.cells (body_of call h d before c)
      own-body d before End t = tt
      own-body d before (Declare p n r) t = own-cleared p n (slice_get h.function.locals n) (elements (sizes_of (slice_get h.function.locals n))) (body_of call h d before r) (own-body d before r t)
      own-body d before (Assign p l k e r) t =
          let a = and-second (kinded_left l) (kinded_pick k && (kinded_term e && kinded_code r)) t in
          let b = and-second (kinded_pick k) (kinded_term e && kinded_code r) a in (
            own-left true l (and-first (kinded_left l) (kinded_pick k && (kinded_term e && kinded_code r)) t),
            own-pick k (and-first (kinded_pick k) (kinded_term e && kinded_code r) a),
            own-copied e (and-first (kinded_term e) (kinded_code r) b),
            own-body d before r (and-second (kinded_term e) (kinded_code r) b),
          )
      own-body d before (Point p l a r) t =
          let b = and-second (kinded_left l) (kinded_target a && kinded_code r) t in
          own-aim q h.cells p (is_first h before l) (left_of h (result_name h) false l) (target_of h (result_name h) p a) (body_of call h d (local_as_whole l ++ before) r)
          (own-left false l (and-first (kinded_left l) (kinded_target a && kinded_code r) t)) (own-target p a (and-first (kinded_target a) (kinded_code r) b))
          (own-body d (local_as_whole l ++ before) r (and-second (kinded_target a) (kinded_code r) b))
      own-body d before (Write p l e r) t =
          let b = and-second (kinded_left l) (kinded_term e && kinded_code r) t in
          (own-left true l (and-first (kinded_left l) (kinded_term e && kinded_code r) t), tt, own-copied e (and-first (kinded_term e) (kinded_code r) b), own-body d before r (and-second (kinded_term e) (kinded_code r) b))
      own-body d before (Call p n f o args r) t = by (slice_get h.plain.functions f) (own-body d before r (and-second (kinded_arguments args) (kinded_code r) b))
        where
          b : (kinded_arguments args && kinded_code r) ≡ true
          b = and-second (kinded_object o) (kinded_arguments args && kinded_code r) t

          this : core.Left
          this = object_of h (result_name h) o

          own-this : OwnLeft q h.cells this
          own-this = own-object o (and-first (kinded_object o) (kinded_arguments args && kinded_code r) t)

          by : (u : Option Function) → OwnCode q h.cells (body_of call h d before r) → OwnCode q h.cells (unwrap_or (option_map (λ g. let this = object_of h (result_name h) o in let cs = n ∷ h.calls in
              stmt.Block p (zeroed h p cs g g.result (passed h (result_name h) (inside h cs g this) p 0 args (call cs f this))) (body_of call h d before r)) u) (body_of call h d before r))
          by None m = m
          by (Some g) m = (
            own-zeroed p (n ∷ h.calls) g g.result (passed h (result_name h) (inside h (n ∷ h.calls) g this) p 0 args (call (n ∷ h.calls) f this))
                (own-passed (n ∷ h.calls) g this own-this p 0 args (call (n ∷ h.calls) f this) (and-first (kinded_arguments args) (kinded_code r) b) (calls (n ∷ h.calls) f this own-this)),
            m,
          )
      own-body d before (If p e a b r) t =
          let u = and-second (kinded_term e) (kinded_code a && (kinded_code b && kinded_code r)) t in
          let v = and-second (kinded_code a) (kinded_code b && kinded_code r) u in (
            own-copied e (and-first (kinded_term e) (kinded_code a && (kinded_code b && kinded_code r)) t),
            own-body d before a (and-first (kinded_code a) (kinded_code b && kinded_code r) u),
            own-body d (aimed a ++ before) b (and-first (kinded_code b) (kinded_code r) v),
            own-body d (aimed a ++ (aimed b ++ before)) r (and-second (kinded_code b) (kinded_code r) v),
          )
      own-body d before (Loop p c b r) t = (own-body d before b (and-first (kinded_code b) (kinded_code r) t), own-body d (aimed b ++ before) r (and-second (kinded_code b) (kinded_code r) t))
      own-body d before (Block p b r) t = (own-body (suc d) before b (and-first (kinded_code b) (kinded_code r) t), own-body d (aimed b ++ before) r (and-second (kinded_code b) (kinded_code r) t))
      own-body d before (Exit p n r) t = own-body d before r t
      own-body d before (Return p None r) t = own-body d before r t
      own-body d before (Return p (Some e) r) t = (
        own-cell p false (answer_name h h.calls h.function) (own-answer h.calls h.function),
        tt,
        own-copied e (and-first (kinded_term e) (kinded_code r) t),
        own-body d before r (and-second (kinded_term e) (kinded_code r) t),
      )
      own-body d before (Wait p n r) t = own-body d before r t
      own-body d before (Make p l b args r) t = own-body d before r t
      own-body d before (Bind p l a r) t = own-body d before r t
      own-body d before (Process p b f e r) t = own-body d before r t
      own-body d before (Sensitive p items r) t = own-body d before r t
      own-body d before (Quiet p r) t = own-body d before r t
      own-body d before (Reset p s e a r) t = own-body d before r t

  -- calls at most so deep in one another
  pub own-call : (h : Here) → h.path ≡ q.name.path → is_kinded h.plain ≡ true → (left : ℕ) (cs : List ℕ) (n : ℕ) (this : core.Left) → OwnLeft q h.cells this → OwnCode q h.cells (call_of h left cs n this)
  own-call h path kinded zero cs n this o = tt
  own-call h path kinded (suc left) cs n this o = by (slice_get h.plain.functions n) refl (λ cs f this o. own-call h path kinded left cs f this o)
    where
      by : (u : Option Function) → slice_get h.plain.functions n ≡ u → ((cs : List ℕ) (f : ℕ) (this : core.Left) → OwnLeft q h.cells this → OwnCode q h.cells (call_of h left cs f this))
          → OwnCode q h.cells (unwrap_or (option_map (λ f. body_of (call_of h left) (inside h cs f this) 0 [] f.body) u) stmt.End)
      by None e ih = tt
      by (Some f) e ih = own-body (inside h cs f this) (of-inside h cs f this path o) (call_of h left) ih 0 [] f.body (all-at (λ f. kinded_code f.body) h.plain.functions n f kinded e)
