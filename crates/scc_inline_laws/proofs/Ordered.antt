-- The statements of orderly functions are sound, wherever calls lead.
use Rattle.std.proofs.Common.{◌≡◌, ℕ, zero, suc, ◌+◌, ◌≤◌, ◌<◌, max, Bool, true, false, not, nat_eq, List, [], ◌∷◌, ◌++◌, map, length, Option, Some, None, option_map, option_and_then, unwrap_or, slice_get, if◌then◌else◌, refl, sym, ap, ◌∙◌, subst, arith}
use Rattle.std.proofs.lemmas.Option.{slice_get_within}
use Rattle.std.proofs.Math.Nat.{le-max_left, le-max_right}
use Rattle.scc_base.specs.declared.refusal.Place.{Place}
use Rattle.scc_bits_kinds.specs.declared.kind.Kind.{Kind}
use Rattle.scc_semantics.specs.Location.{Location, Root, Part, Element}
use Rattle.scc_semantics.specs.Location as location
use Rattle.scc_semantics.specs.Places.{Places, Thing}
use Rattle.scc_semantics.specs.Places as thing
use Rattle.scc_semantics.specs.Scene.{Names}
use Rattle.scc_core_spec.specs.Term as core
use Rattle.scc_core_spec.specs.Resolved.{placed}
use Rattle.scc_core_spec.specs.Named.{cell_at, steps_of}
use Rattle.scc_core_spec.specs.Fold.{named, extended, member_behind, member_of, element_of, element_or, in_range, static_index, size_of}
use Rattle.scc_core_spec.specs.Source.{Home}
use Rattle.scc_elab_spec.specs.Term.{Term, Literal, Load, Read, Convert, Unary, Binary, Choose, Bit, Range, Join, Left, Local, Answer, This, Follow, Index, Pick, Whole, OneBit, Bits, Target, Null, Address, Copy, Argument, Value, Leads, ModuleName}
use Rattle.scc_elab_spec.specs.Term as term
use Rattle.scc_elab_spec.specs.Program.{Base, Number, Code, End, Declare, Assign, Point, Write, Call, If, Loop, Block, Exit, Return, Wait, Make, Bind, Process, Sensitive, Quiet, Reset, Function, Plain, Member}
use Rattle.scc_elab_spec.specs.Program as plain
use Rattle.scc_elab_spec.specs.Design as design
use Rattle.scc_elab_spec.specs.Design.{Design}
use Rattle.scc_elab_spec.specs.Types.{is_direct, is_reference, declared_at, points_at, sizes_at}
use Rattle.scc_elab_spec.specs.Worth.{is_inside, member_name}
use Rattle.scc_elab_spec.specs.Meant.{function_of, local_of, number_there}
use Rattle.scc_elab_spec.specs.Numbering.{declares, callee, body_declares, call_declares, first_locals, result_root, function_at, numbered, number_of, levels}
use Rattle.scc_elab_spec.specs.Copied.{Here, located, copied, refer, size_here, local_root, local_name, answer_name}
use Rattle.scc_elab_spec.specs.Copied as copied
use Rattle.scc_elab_spec.specs.Bodies.{elements, inside, object_of, result_name, soften, cell_of, cleared, passed, sizes_of, aimed, pointed, is_first, local_as_whole}
use Rattle.scc_inline_spec.specs.Inlined.{here_of, home_of}
use Rattle.scc_core_unroll_laws.specs.Kinds.{IsKindedLeft}
use Rattle.scc_inline_process_laws.specs.Sound.{IsObject, IsSoundTerm, IsSoundLeft}
use Rattle.scc_inline_process_laws.specs.SoundCode.{IsSoundPick, IsSoundTarget, IsNumberAt, IsPointerAt, AllPlaced, IsPlaced, AllSmall, IsSoundObject, AreSoundArguments, IsSoundAnswer, IsSoundReturn, IsSoundCode, IsSoundCall, element_of_local}
use Rattle.scc_inline_laws.specs.Orderly.{is_object, IsOrderlyTerm, IsOrderlyLeft, IsOrderlyPick, IsOrderlyTarget, IsOrderlyObject, AreOrderlyArguments, IsOrderlyReturn, IsOrderlyCode, IsOrderlyFunction}
use Rattle.scc_inline_laws.specs.OrderlyDesign.{IsOrderlyProcess}
use Rattle.std.specs.Prelude.{nat_le}
use Rattle.scc_core_spec.specs.Code as stmt
use Rattle.scc_core_spec.specs.Code.{holds_wait}
use Rattle.scc_core_spec.specs.Counted.{Counter, Setting, is_it, own_at, uses}
use Rattle.scc_core_unroll_laws.specs.Unrolling.{Counters}
use Rattle.scc_inline_spec.specs.Static.{setting_in}
use Rattle.scc_inline_spec.specs.Inlined.{body_of, call_of}
use Rattle.scc_inline_process_laws.specs.Relation.{around, rare, whole}
use Rattle.scc_inline_counter_laws.specs.Choosing.{call_block, AreCounters, guards, IsStill, IsChosenObject, ChoosesCode, ChoosesCall}
use Rattle.scc_inline_laws.proofs.Still.{still-put, still-aim, still-if, still-block, still-loop, still-exit, still-wait, cleared-spares, cleared-still, zeroed-spares, zeroed-still, passed-still, guards-few, are-held}
use Rattle.scc_inline_process_laws.specs.Whole.{spoken_design, own_names}
use Rattle.scc_inline_laws.proofs.Homed.{homed}
use Rattle.scc_inline_laws.proofs.Listed.{IsIn, Lists, lists-front, lists-back, lists-local, lists-callee}
use Rattle.scc_inline_laws.proofs.Deep.{deep, call_deep}
use Rattle.scc_inline_laws.proofs.Elements.{Each, Small, inside-elements}
use Rattle.scc_inline_process_laws.proofs.Kinded.{kinded-located, named-kinded}
use Rattle.scc_inline_process_laws.proofs.Firm.{firm}
use Rattle.scc_inline_process_laws.proofs.Chosen.{chosen-object}

module _ (p : Plain) (d : Design) (constant : Location → Option ℕ) (i : ℕ) (q : design.Process) (there : slice_get d.processes i ≡ Some q) (ok : IsOrderlyProcess p d i q) where
  abbrev home : Home
  home = home_of p d

  abbrev places : Places
  places = (spoken_design p d constant).places

  abbrev own : Names
  own = own_names p d constant i q

  abbrev h : Here
  h = here_of p d i q ok.function

  abbrev at : List ℕ → Function → core.Left → Here
  at cs g this = inside h cs g this

  abbrev order : List Root
  order = numbered p i q.function

  -- where the copy of a function stands
  pub record Stands (left : ℕ) (cs : List ℕ) (f : ℕ) (g : Function) : Type 0 where
    pub chain : function_at p q.function cs ≡ Some f
    pub found : slice_get p.functions f ≡ Some g
    pub lists : Lists order (body_declares (call_declares p i left) i cs g)
    pub answer : (k : Kind) → g.result ≡ Some k → IsIn order (location.Answer i cs)
    pub shallow : deep (call_deep p left) g.body < left

  module _ (left : ℕ) (cs : List ℕ) (f : ℕ) (g : Function) (s : Stands left cs f g) where
    pub fine : IsOrderlyFunction p g
    fine = ok.functions cs f g s.chain s.found

    is-homed : (r : Root) → IsIn order r → home i (number_of order r) ≡ r
    is-homed r e = homed p d i q r there e

    function-is : function_of p d i cs ≡ Some g
    function-is = ap (option_and_then (λ q. option_and_then (slice_get p.functions) (function_at p q.function cs))) there ∙ (ap (option_and_then (slice_get p.functions)) s.chain ∙ s.found)

    pub local-listed : (n : ℕ) (m : Member) → slice_get g.locals n ≡ Some m → IsIn order (location.Local i cs n)
    local-listed n m e = let z : n ≡ 0 + n = omega arith in
        subst (λ z. IsIn order (location.Local i cs z)) (sym z) (lists-local order i cs 0 (length g.locals) n (lists-back order (declares (call_declares p i left) i cs g.body) (first_locals i cs (length g.locals)) s.lists) (slice_get_within g.locals n m e))

    local-is : (n : ℕ) (m : Member) (path : List Part) → slice_get g.locals n ≡ Some m → is_inside m.shape.sizes path ≡ true → local_of p d i cs n path ≡ Some m
    local-is n m path e w = ap (λ o. option_and_then (λ m. if is_inside m.shape.sizes path then Some m else None) (option_and_then (λ f. slice_get f.locals n) o)) function-is
        ∙ (ap (option_and_then (λ m. if is_inside m.shape.sizes path then Some m else None)) e ∙ ap (λ b. if b then Some m else None) w)

    number-at : (this : core.Left) (n : ℕ) (m : Member) (path : List Part) → slice_get g.locals n ≡ Some m → is_inside m.shape.sizes path ≡ true → is_direct m.shape.reach ≡ true
        → IsNumberAt home places own (at cs g this) (record { root = location.Local i cs n; path = path })
    number-at this n m path e w z = let k = (fine.locals n m e).number z in (
      k.0,
      ap (option_and_then (λ m. number_there p d m m.shape.base)) (local-is n m path e w) ∙ (ap (number_there p d m) k.1 ∙ ap (λ b. if b then Some (thing.Number k.0) else None) z),
      ap (λ o. unwrap_or (option_map (λ m. not (is_direct m.shape.reach)) o) false) (local-is n m path e w) ∙ ap not z,
    )

    pointer-at : (this : core.Left) (n : ℕ) (m : Member) (path : List Part) → slice_get g.locals n ≡ Some m → is_inside m.shape.sizes path ≡ true → is_direct m.shape.reach ≡ false
        → IsPointerAt home places own (at cs g this) (record { root = location.Local i cs n; path = path })
    pointer-at this n m path e w z = (
      ap (option_and_then (λ m. number_there p d m m.shape.base)) (local-is n m path e w) ∙ none m.shape.base,
      ap (λ o. unwrap_or (option_map (λ m. not (is_direct m.shape.reach)) o) false) (local-is n m path e w) ∙ ap not z,
    )
      where
        none : (b : Base) → number_there p d m b ≡ None
        none (Number k) = ap (λ b. if b then Some (thing.Number k) else None) z
        none (plain.OfClass c) = refl
        none (plain.Input k) = refl
        none (plain.Output k) = refl
        none (plain.Signal k) = refl
        none plain.Named = refl

    answer-at : (this : core.Left) (k : Kind) → g.result ≡ Some k → IsNumberAt home places own (at cs g this) (record { root = location.Answer i cs; path = [] })
    answer-at this k e = (k, ap (λ o. option_map thing.Number (option_and_then (λ f. f.result) o)) function-is ∙ ap (option_map thing.Number) e, refl)

    all-placed : (this : core.Left) (n : ℕ) (m : Member) → slice_get g.locals n ≡ Some m → AllPlaced home places own (at cs g this) (is_direct m.shape.reach) n (elements m.shape.sizes)
    all-placed this n m e = go (elements m.shape.sizes) (inside-elements m.shape.sizes (fine.locals n m e).small)
      where
        placed-at : (b : Bool) (is : List ℕ) → is_direct m.shape.reach ≡ b → is_inside m.shape.sizes (map Element is) ≡ true → IsPlaced home places own (at cs g this) b (element_of_local home places own (at cs g this) n is)
        placed-at true is z w = number-at this n m (map Element is) e w z
        placed-at false is z w = pointer-at this n m (map Element is) e w z

        small : (is : List ℕ) → Small is → AllSmall home places own (at cs g this) is
        small [] x = tt
        small (j ∷ is) x = (x.0, small is x.1)

        go : (all : List (List ℕ)) → Each (λ is. (is_inside m.shape.sizes (map Element is) ≡ true) × Small is) all → AllPlaced home places own (at cs g this) (is_direct m.shape.reach) n all
        go [] x = tt
        go (is ∷ all) x = (placed-at (is_direct m.shape.reach) is refl x.0.0, small is x.0.1, go all x.1)

  -- the function of a call
  call-stands : (left : ℕ) (cs : List ℕ) (f : ℕ) (g : Function) → Stands left cs f g → (n f' : ℕ) (g' : Function) → callee g.body n ≡ Some f' → slice_get p.functions f' ≡ Some g' → call_deep p left f' < left
      → (l : ℕ) × (left ≡ suc l) × Stands l (n ∷ cs) f' g'
  call-stands zero cs f g s n f' g' e e' lt = absurd (omega (arith, lt))
  call-stands (suc l) cs f g s n f' g' e e' lt = (
    l,
    refl,
    record {
      chain = ap (option_and_then (λ g. option_and_then (λ h. callee h.body n) (slice_get p.functions g))) s.chain ∙ (ap (option_and_then (λ h. callee h.body n)) s.found ∙ e);
      found = e';
      lists = lists-back order (first_locals i (n ∷ cs) g'.params) (body_declares (call_declares p i l) i (n ∷ cs) g') rest;
      answer = λ k z. (subst (λ o. Lists order (result_root i (n ∷ cs) o)) z (lists-front order (result_root i (n ∷ cs) g'.result) (first_locals i (n ∷ cs) g'.params ++ body_declares (call_declares p i l) i (n ∷ cs) g') all)).0;
      shallow = let x = subst (λ o. unwrap_or (option_map (λ g. suc (deep (call_deep p l) g.body)) o) 0 < suc l) e' lt in omega (arith, x);
    },
  )
    where
      all : Lists order (result_root i (n ∷ cs) g'.result ++ (first_locals i (n ∷ cs) g'.params ++ body_declares (call_declares p i l) i (n ∷ cs) g'))
      all = subst (λ o. Lists order (unwrap_or (option_map (λ f. result_root i (n ∷ cs) f.result ++ (first_locals i (n ∷ cs) f.params ++ body_declares (call_declares p i l) i (n ∷ cs) f)) o) [])) e'
          (lists-callee order (call_declares p i (suc l)) i cs n f' g.body e (lists-front order (declares (call_declares p i (suc l)) i cs g.body) (first_locals i cs (length g.locals)) s.lists))

      rest : Lists order (first_locals i (n ∷ cs) g'.params ++ body_declares (call_declares p i l) i (n ∷ cs) g')
      rest = lists-back order (result_root i (n ∷ cs) g'.result) (first_locals i (n ∷ cs) g'.params ++ body_declares (call_declares p i l) i (n ∷ cs) g') all

  -- the call of that number stands no deeper than its function
  callee-deep : (call : ℕ → ℕ) (n f : ℕ) (b : Code) → callee b n ≡ Some f → call f ≤ deep call b
  callee-deep call n f End e = cc
  callee-deep call n f (Declare o m r) e = callee-deep call n f r e
  callee-deep call n f (Assign o x k v r) e = callee-deep call n f r e
  callee-deep call n f (Point o x t r) e = callee-deep call n f r e
  callee-deep call n f (Write o x v r) e = callee-deep call n f r e
  callee-deep call n f (Call o m g x args r) e = by (nat_eq m n) e (λ e. callee-deep call n f r e)
    where
      by : (b : Bool) → (if b then Some g else callee r n) ≡ Some f → (callee r n ≡ Some f → call f ≤ deep call r) → call f ≤ max (call g) (deep call r)
      by true e ih = let y : g ≡ f = cc in subst (λ f. call f ≤ max (call g) (deep call r)) y (le-max_left (call g) (deep call r))
      by false e ih = let x = ih e in let y = le-max_right (call g) (deep call r) in omega (arith, x, y)
  callee-deep call n f (If o t a b r) e = by (callee a n) refl (callee b n) refl (λ e. callee-deep call n f a e) (λ e. callee-deep call n f b e) (λ e. callee-deep call n f r e)
    where
      first : (g : ℕ) → callee a n ≡ Some g → callee (If o t a b r) n ≡ Some g
      first g u = rw u refl

      second : (g : ℕ) → callee a n ≡ None → callee b n ≡ Some g → callee (If o t a b r) n ≡ Some g
      second g u v = rw u (rw v refl)

      third : callee a n ≡ None → callee b n ≡ None → callee (If o t a b r) n ≡ callee r n
      third u v = rw u (rw v refl)

      by : (x : Option ℕ) → callee a n ≡ x → (y : Option ℕ) → callee b n ≡ y → (callee a n ≡ Some f → call f ≤ deep call a) → (callee b n ≡ Some f → call f ≤ deep call b) → (callee r n ≡ Some f → call f ≤ deep call r)
          → call f ≤ max (deep call a) (max (deep call b) (deep call r))
      by (Some g) u y v ia ib ir = let x = ia (u ∙ (sym (first g u) ∙ e)) in let y = le-max_left (deep call a) (max (deep call b) (deep call r)) in omega (arith, x, y)
      by None u (Some g) v ia ib ir = let x = ib (v ∙ (sym (second g u v) ∙ e)) in let y = le-max_left (deep call b) (deep call r) in let z = le-max_right (deep call a) (max (deep call b) (deep call r)) in omega (arith, x, y, z)
      by None u None v ia ib ir = let x = ir (sym (third u v) ∙ e) in let y = le-max_right (deep call b) (deep call r) in let z = le-max_right (deep call a) (max (deep call b) (deep call r)) in omega (arith, x, y, z)
  callee-deep call n f (Loop o c b r) e = by (callee b n) refl (λ e. callee-deep call n f b e) (λ e. callee-deep call n f r e)
    where
      first : (g : ℕ) → callee b n ≡ Some g → callee (Loop o c b r) n ≡ Some g
      first g u = rw u refl

      second : callee b n ≡ None → callee (Loop o c b r) n ≡ callee r n
      second u = rw u refl

      by : (x : Option ℕ) → callee b n ≡ x → (callee b n ≡ Some f → call f ≤ deep call b) → (callee r n ≡ Some f → call f ≤ deep call r) → call f ≤ max (deep call b) (deep call r)
      by (Some g) u ib ir = let x = ib (u ∙ (sym (first g u) ∙ e)) in let y = le-max_left (deep call b) (deep call r) in omega (arith, x, y)
      by None u ib ir = let x = ir (sym (second u) ∙ e) in let y = le-max_right (deep call b) (deep call r) in omega (arith, x, y)
  callee-deep call n f (Block o b r) e = by (callee b n) refl (λ e. callee-deep call n f b e) (λ e. callee-deep call n f r e)
    where
      first : (g : ℕ) → callee b n ≡ Some g → callee (Block o b r) n ≡ Some g
      first g u = rw u refl

      second : callee b n ≡ None → callee (Block o b r) n ≡ callee r n
      second u = rw u refl

      by : (x : Option ℕ) → callee b n ≡ x → (callee b n ≡ Some f → call f ≤ deep call b) → (callee r n ≡ Some f → call f ≤ deep call r) → call f ≤ max (deep call b) (deep call r)
      by (Some g) u ib ir = let x = ib (u ∙ (sym (first g u) ∙ e)) in let y = le-max_left (deep call b) (deep call r) in omega (arith, x, y)
      by None u ib ir = let x = ir (sym (second u) ∙ e) in let y = le-max_right (deep call b) (deep call r) in omega (arith, x, y)
  callee-deep call n f (Exit o m r) e = callee-deep call n f r e
  callee-deep call n f (Return o v r) e = callee-deep call n f r e
  callee-deep call n f (Wait o m r) e = callee-deep call n f r e
  callee-deep call n f (Make o x b args r) e = callee-deep call n f r e
  callee-deep call n f (Bind o x t r) e = callee-deep call n f r e
  callee-deep call n f (Process o t g v r) e = callee-deep call n f r e
  callee-deep call n f (Sensitive o is r) e = callee-deep call n f r e
  callee-deep call n f (Quiet o r) e = callee-deep call n f r e
  callee-deep call n f (Reset o s v a r) e = callee-deep call n f r e

  -- a call of a function that stands
  pub callee-stands : (left : ℕ) (cs : List ℕ) (f : ℕ) (g : Function) → Stands left cs f g → (n f' : ℕ) (g' : Function) → callee g.body n ≡ Some f' → slice_get p.functions f' ≡ Some g' → (l : ℕ) × (left ≡ suc l) × Stands l (n ∷ cs) f' g'
  callee-stands left cs f g s n f' g' e e' = call-stands left cs f g s n f' g' e e' (let x = callee-deep (call_deep p left) n f' g.body e in let y = s.shallow in omega (arith, x, y))

  named-object : (pointer : Bool) (l : core.Left) → IsObject home h l → IsObject home h (named h.cells h.vectors pointer l)
  named-object pointer (core.Cell o n) k = tt
  named-object pointer (core.Prefix o n) k = by (cell_at pointer 0 (steps_of n) h.cells)
    where
      by : (o' : Option ℕ) → IsObject home h (unwrap_or (option_map (core.Cell o) o') (core.Prefix o n))
      by None = k
      by (Some c) = tt
  named-object pointer (core.Null o) k = tt
  named-object pointer (core.Follow o t l) k = tt
  named-object pointer (core.Member l n) k = tt
  named-object pointer (core.Index l size e) k = tt

  placed-object : (o : Place) (l : core.Left) → IsObject home h l → IsObject home h (placed o l)
  placed-object o (core.Cell o' n) k = tt
  placed-object o (core.Prefix o' n) k = k
  placed-object o (core.Null o') k = tt
  placed-object o (core.Follow o' t l) k = tt
  placed-object o (core.Member l n) k = tt
  placed-object o (core.Index l size e) k = tt

  member-object : (l : core.Left) (n : ℕ) → IsObject home h l → IsObject home h (member_of h.cells h.vectors l n)
  member-object (core.Cell o n) m k = tt
  member-object (core.Prefix o n) m k = by n.own k
    where
      by : (w : Option core.Own) → w ≡ None → IsObject home h (member_behind h.cells h.vectors o (record { path = n.path; own = w; indices = n.indices }) w m)
      by None k = refl
      by (Some w) k = tt
  member-object (core.Null o) m k = tt
  member-object (core.Follow o t l) m k = tt
  member-object (core.Member l n) m k = tt
  member-object (core.Index l size e) m k = tt

  element-object : (l : core.Left) (n : ℕ) (e : core.Term) → IsObject home h l → IsObject home h (element_of h.cells h.vectors l n e)
  element-object (core.Cell o c) n e k = tt
  element-object (core.Prefix o c) n e k = by (in_range h.cells h.vectors (size_of h.cells h.vectors n (core.Prefix o c)) (static_index h.cells h.vectors e))
    where
      own-none : (w : Option core.Own) (j : ℕ) → w ≡ None → IsObject home h (core.Prefix o (extended (record { path = c.path; own = w; indices = c.indices }) (location.Element j)))
      own-none None j k = refl
      own-none (Some w) j k = cc

      by : (w : Option ℕ) → IsObject home h (element_or h.cells h.vectors (core.Prefix o c) w (core.Index (core.Prefix o c) (size_of h.cells h.vectors n (core.Prefix o c)) e))
      by None = tt
      by (Some j) = own-none c.own j k
  element-object (core.Null o) n e k = tt
  element-object (core.Follow o t l) n e k = tt
  element-object (core.Member l m) n e k = tt
  element-object (core.Index l m x) n e k = tt

  module _ (left : ℕ) (cs : List ℕ) (f : ℕ) (g : Function) (s : Stands left cs f g) (this : core.Left) (kinded : IsKindedLeft this) (object : IsObject home h this) (counters : Counters (around home places own h)) where
    abbrev now : Here
    now = at cs g this

    refer-object : (o : Place) (m : Option Member) (l : core.Left) → IsObject home h l → IsObject home h (refer now o true m l)
    refer-object o None l k = k
    refer-object o (Some m) l k = by (is_reference m.shape.reach)
      where
        by : (c : Bool) → IsObject home h (if c then core.Follow o false (named h.cells h.vectors true l) else l)
        by true = tt
        by false = k

    -- what has members is no local
    located-object : (l : Left) → is_object p g l ≡ true → IsObject home h (located now (result_name now) true l)
    located-object (Local o n) e = by (slice_get g.locals n) refl e
      where
        by : (m : Option Member) → slice_get g.locals n ≡ m → unwrap_or (option_map (λ m. is_reference m.shape.reach) m) false ≡ true → IsObject home h (refer now o true m (core.Prefix o (local_name now n [])))
        by None u e = cc
        by (Some m) u e = go (is_reference m.shape.reach) e
          where
            go : (c : Bool) → c ≡ true → IsObject home h (if c then core.Follow o false (named h.cells h.vectors true (core.Prefix o (local_name now n []))) else core.Prefix o (local_name now n []))
            go true e = tt
            go false e = cc
    located-object (Answer o n) e = cc
    located-object (This o) e = placed-object o this object
    located-object (Follow o l) e = tt
    located-object (term.Member l m) e = refer-object (term.place_at l) (declared_at p g (term.Member l m)) (member_of h.cells h.vectors (located now (result_name now) true l) (member_name (declared_at p g (term.Member l m))))
        (member-object (located now (result_name now) true l) (member_name (declared_at p g (term.Member l m))) (located-object l e))
    located-object (Index l e') e = element-object (located now (result_name now) true l) (size_here (sizes_at p g l)) (copied now (result_name now) e') (located-object l e)

    mutual
      sound-term : (e : Term) → IsOrderlyTerm p g e → IsSoundTerm home now e
      sound-term (Literal o k w) x = tt
      sound-term (Load o k l) x = sound-left l x
      sound-term (Read o k l) x = sound-left l x
      sound-term (Convert o k e) x = sound-term e x
      sound-term (Unary o k u a) x = sound-term a x
      sound-term (Binary o k u a b) x = (sound-term a x.0, sound-term b x.1)
      sound-term (Choose o k t a b) x = (sound-term t x.0, sound-term a x.1, sound-term b x.2)
      sound-term (Bit o a e) x = (sound-term a x.0, sound-term e x.1)
      sound-term (Range o k a m l) x = sound-term a x
      sound-term (Join o k a b) x = (sound-term a x.0, sound-term b x.1)

      sound-left : (l : Left) → IsOrderlyLeft p g l → IsSoundLeft home now l
      sound-left (Local o n) x = is-homed left cs f g s (location.Local i cs n) (local-listed left cs f g s n x.0 x.1)
      sound-left (Answer o n) x =
          let c = callee-stands left cs f g s n x.0 x.1 x.3.0 x.3.1 in
          (x.1, ap (option_and_then (λ f. slice_get p.functions f)) x.3.0 ∙ x.3.1, is-homed c.0 (n ∷ cs) x.0 x.1 c.2 (location.Answer i (n ∷ cs)) (c.2.answer x.2 x.4))
      sound-left (This o) x = kinded
      sound-left (Follow o l) x = sound-left l x
      sound-left (term.Member l m) x = (sound-left l x.0, located-object l x.1)
      sound-left (Index l e) x = (sound-left l x.0, sound-term e x.1, x.2)

    sound-pick : (k : Pick) → IsOrderlyPick p g k → IsSoundPick home places own now k
    sound-pick Whole x = tt
    sound-pick (OneBit e) x = sound-term e x
    sound-pick (Bits a b) x = tt

    sound-target : (t : Target) → IsOrderlyTarget p g t → IsSoundTarget home places own now t
    sound-target Null x = tt
    sound-target (Address l) x = sound-left l x
    sound-target (Copy l) x = sound-left l x

    -- the cells and the body around
    abbrev S : Setting
    S = setting_in p d i q

    abbrev Code-of : ℕ → List ℕ → Code → stmt.Code
    Code-of b before c = body_of (call_of h left) now b before c

    sound-object : (ms : List Counter) → AreCounters S ms → (o : Option Left) → IsOrderlyObject p g o → IsChosenObject S now ms o → IsSoundObject home places own now (guards S ms) o
    sound-object ms are None x c = tt
    sound-object ms are (Some l) x c = (
      sound-left l x.0,
      firm home places own now (guards S ms) ms l (record { home = counters.home; numbers = counters.numbers }) (are-held S now refl refl ms are) (chosen-object home now ms l (sound-left l x.0) c),
    )

    soft-kinded : (l : core.Left) → IsKindedLeft l → IsKindedLeft (soften l)
    soft-kinded (core.Cell o n) k = k
    soft-kinded (core.Prefix o n) k = k
    soft-kinded (core.Null o) k = k
    soft-kinded (core.Follow o t l) k = k
    soft-kinded (core.Member l n) k = soft-kinded l k
    soft-kinded (core.Index l size e) k = (soft-kinded l k.0, k.1)

    soft-object : (l : core.Left) → IsObject home h l → IsObject home h (soften l)
    soft-object (core.Cell o n) k = k
    soft-object (core.Prefix o n) k = k
    soft-object (core.Null o) k = tt
    soft-object (core.Follow o t l) k = tt
    soft-object (core.Member l n) k = tt
    soft-object (core.Index l size e) k = tt

    inner-kinded : (o : Option Left) → IsOrderlyObject p g o → IsKindedLeft (object_of now (result_name now) o)
    inner-kinded None x = kinded
    inner-kinded (Some l) x = soft-kinded (copied.left_of now (result_name now) true l) (named-kinded home now (points_at p g l) (located now (result_name now) true l) (kinded-located home now true l (sound-left l x.0)))

    inner-object : (o : Option Left) → IsOrderlyObject p g o → IsObject home h (object_of now (result_name now) o)
    inner-object None x = object
    inner-object (Some l) x = soft-object (copied.left_of now (result_name now) true l) (named-object (points_at p g l) (located now (result_name now) true l) (located-object l x.1))

    sound-arguments : (l n : ℕ) (f' : ℕ) (g' : Function) (to : core.Left) → Stands l (n ∷ cs) f' g' → (held : ℕ → Bool) (o : Place) (r : stmt.Code) (j : ℕ) (args : List Argument) → AreOrderlyArguments p g g' j args
        → IsStill S held (passed now (result_name now) (at (n ∷ cs) g' to) o j args r) → AreSoundArguments home places own now (at (n ∷ cs) g' to) held o j args
    sound-arguments l n f' g' to z held o r j [] x still = tt
    sound-arguments l n f' g' to z held o r j (Value e ∷ args) x still =
        let y = still-put S held o (cell_of (at (n ∷ cs) g' to) o false (local_name (at (n ∷ cs) g' to) j [])) core.Whole (copied now (result_name now) e) (passed now (result_name now) (at (n ∷ cs) g' to) o (suc j) args r) still in (
          sound-term e x.0,
          is-homed l (n ∷ cs) f' g' z (location.Local i (n ∷ cs) j) (local-listed l (n ∷ cs) f' g' z j x.1.0 x.1.1),
          number-at l (n ∷ cs) f' g' z to j x.1.0 [] x.1.1 (ap (λ y. is_inside y []) x.1.3) x.1.2,
          y.0,
          sound-arguments l n f' g' to z held o r (suc j) args x.2 y.1,
        )
    sound-arguments l n f' g' to z held o r j (Leads t ∷ args) x still = (
      sound-target t x.0,
      is-homed l (n ∷ cs) f' g' z (location.Local i (n ∷ cs) j) (local-listed l (n ∷ cs) f' g' z j x.1.0 x.1.1),
      pointer-at l (n ∷ cs) f' g' z to j x.1.0 [] x.1.1 (ap (λ y. is_inside y []) x.1.3) x.1.2,
      sound-arguments l n f' g' to z held o r (suc j) args x.2 (still-aim S held o (pointed true (cell_of (at (n ∷ cs) g' to) o true (local_name (at (n ∷ cs) g' to) j []))) (copied.target_of now (result_name now) o t) (passed now (result_name now) (at (n ∷ cs) g' to) o (suc j) args r) still),
    )
    sound-arguments l n f' g' to z held o r j (ModuleName ∷ args) x still = sound-arguments l n f' g' to z held o r (suc j) args x still

    sound-answer : (l n : ℕ) (f' : ℕ) (g' : Function) (to : core.Left) → Stands l (n ∷ cs) f' g' → (o : Option Kind) → g'.result ≡ o → IsSoundAnswer home places own (at (n ∷ cs) g' to) o
    sound-answer l n f' g' to z None e = tt
    sound-answer l n f' g' to z (Some k) e = (is-homed l (n ∷ cs) f' g' z (location.Answer i (n ∷ cs)) (z.answer k e), answer-at l (n ∷ cs) f' g' z to k e)

    sound-return : (held : ℕ → Bool) (pl : Place) (o : Option Term) → IsOrderlyReturn p g o → ((e : Term) → o ≡ Some e → (m : ℕ) → held m ≡ true → is_it m (own_at S.cells (cell_of now pl false (answer_name now cs g))) ≡ false) → IsSoundReturn home places own now held pl o
    sound-return held pl None x spares = tt
    sound-return held pl (Some e) x spares = (sound-term e x.0, is-homed left cs f g s (location.Answer i cs) (s.answer x.1 x.2), answer-at left cs f g s this x.1 x.2, spares e refl)

    -- what the walk of a called function gives
    abbrev Inside : Type 0
    Inside = (l : ℕ) → left ≡ suc l → (n f' : ℕ) (g' : Function) (to : core.Left) → slice_get p.functions f' ≡ Some g' → Stands l (n ∷ cs) f' g' → IsKindedLeft to → IsObject home h to → (ms : List Counter) → ChoosesCall S h left (at (n ∷ cs) g' to) ms
        → IsStill S (guards S ms) (call_of h left (n ∷ cs) f' to) → IsSoundCall home places own (rare home places own h) left (at (n ∷ cs) g' to) (guards S ms)

    sound-code : Inside → (ns : List Counter) (b : ℕ) (before : List ℕ) (c : Code) → IsOrderlyCode p g b c → ChoosesCode S (call_of h left) (ChoosesCall S h left) now ns c → IsStill S (guards S ns) (Code-of b before c)
        → IsSoundCode home places own (rare home places own h) (IsSoundCall home places own (rare home places own h) left) now (guards S ns) b c
    sound-code ih ns b before End x z still = tt
    sound-code ih ns b before (Declare o n r) x z still =
        let y = subst (λ m. IsStill S (guards S ns) (cleared now o n m (elements (sizes_of m)) (Code-of b before r))) x.0.1 still in (
          x.0.0,
          x.0.1,
          is-homed left cs f g s (location.Local i cs n) (local-listed left cs f g s n x.0.0 x.0.1),
          all-placed left cs f g s this n x.0.0 x.0.1,
          cleared-spares home places own now S refl (guards S ns) o n x.0.0 (elements x.0.0.shape.sizes) (Code-of b before r) y,
          sound-code ih ns b before r x.1 z (cleared-still now S (guards S ns) o n x.0.0 (elements x.0.0.shape.sizes) (Code-of b before r) y),
        )
    sound-code ih ns b before (Assign o l k e r) x z still =
        let y = still-put S (guards S ns) o (copied.left_of now (result_name now) true l) (copied.pick_of now (result_name now) k) (copied now (result_name now) e) (Code-of b before r) still in
        (sound-left l x.0, sound-pick k x.1, sound-term e x.2, y.0, sound-code ih ns b before r x.3 z y.1)
    sound-code ih ns b before (Point o l t r) x z still = (
      sound-left l x.0,
      sound-target t x.1,
      sound-code ih ns b (local_as_whole l ++ before) r x.2 z
          (still-aim S (guards S ns) o (pointed (is_first now before l) (copied.left_of now (result_name now) false l)) (copied.target_of now (result_name now) o t) (Code-of b (local_as_whole l ++ before) r) still),
    )
    sound-code ih ns b before (Write o l e r) x z still =
        let y = still-put S (guards S ns) o (copied.left_of now (result_name now) true l) core.Whole (copied now (result_name now) e) (Code-of b before r) still in
        (sound-left l x.0, sound-term e x.1, y.0, sound-code ih ns b before r x.2 z y.1)
    sound-code ih ns b before (Call o n f' u args r) x z still =
        let to = object_of now (result_name now) u in
        let y = callee-stands left cs f g s n f' x.0 x.1.0 x.1.1 in
        let c = z.0 x.0 x.1.1 in
        let ms = c.0 in
        let block = call_block (call_of h left) now o n f' u args x.0 in
        let rest = passed now (result_name now) (at (n ∷ cs) x.0 to) o 0 args (call_of h left (n ∷ cs) f' to) in
        let inner = zeroed-still now S (guards S ms) o (n ∷ cs) x.0 x.0.result rest c.4 in
        let k = still-block S (guards S ns) o block (Code-of b before r) (subst (λ v. IsStill S (guards S ns) (unwrap_or (option_map (λ g. stmt.Block o (call_block (call_of h left) now o n f' u args g) (Code-of b before r)) v) (Code-of b before r))) x.1.1 still) in (
          x.0,
          x.1.1,
          guards S ms,
          c.2,
          (λ m e. ap (λ w. nat_le (uses h.cells m w) 2) (sym body-is) ∙ guards-few S ms c.1 m e),
          sound-object ms c.1 u x.2 c.3,
          sound-answer y.0 n f' x.0 to y.2 x.0.result refl,
          zeroed-spares home places own now S refl (guards S ms) o (n ∷ cs) x.0 x.0.result rest c.4,
          sound-arguments y.0 n f' x.0 to y.2 (guards S ms) o (call_of h left (n ∷ cs) f' to) 0 args x.3 inner,
          ih y.0 y.1 n f' x.0 to x.1.1 y.2 (inner-kinded u x.2) (inner-object u x.2) ms c.5 (passed-still now (at (n ∷ cs) x.0 to) S (guards S ms) o 0 args (call_of h left (n ∷ cs) f' to) inner),
          sound-code ih ns b before r x.4 z.1 k.1,
        )
      where
        body-is : S.body ≡ whole home places own h
        body-is = ap (λ o. unwrap_or (option_map (λ f. let h = here_of p d i q f in stmt.Block q.place (body_of (call_of h levels) h 0 [] f.body) stmt.End) o) stmt.End) ok.stands
    sound-code ih ns b before (If o t c e r) x z still =
        let y = still-if S (guards S ns) o (copied now (result_name now) t) (Code-of b before c) (Code-of b (aimed c ++ before) e) (Code-of b (aimed c ++ (aimed e ++ before)) r) still in
        (sound-term t x.0, sound-code ih ns b before c x.1 z.0 y.0, sound-code ih ns b (aimed c ++ before) e x.2 z.1 y.1, sound-code ih ns b (aimed c ++ (aimed e ++ before)) r x.3 z.2 y.2)
    sound-code ih ns b before (Loop o n c r) x z still =
        let y = still-loop S (guards S ns) o (option_and_then (copied.count_of now (result_name now)) n) (Code-of b before c) (Code-of b (aimed c ++ before) r) still in
        (sound-code ih ns b before c x.0 z.0 y.0, sound-code ih ns b (aimed c ++ before) r x.1 z.1 y.1)
    sound-code ih ns b before (Block o c r) x z still =
        let y = still-block S (guards S ns) o (Code-of (suc b) before c) (Code-of b (aimed c ++ before) r) still in
        (sound-code ih ns (suc b) before c x.0 z.0 y.0, sound-code ih ns b (aimed c ++ before) r x.1 z.1 y.1)
    sound-code ih ns b before (Exit o n r) x z still = (x.0, sound-code ih ns b before r x.1 z (still-exit S (guards S ns) o n (Code-of b before r) still))
    sound-code ih ns b before (Return o None r) x z still = (tt, sound-code ih ns b before r x.1 z (still-exit S (guards S ns) o b (Code-of b before r) still))
    sound-code ih ns b before (Return o (Some e) r) x z still =
        let y = still-put S (guards S ns) o (cell_of now o false (answer_name now cs g)) core.Whole (copied now (result_name now) e) (stmt.Exit o b (Code-of b before r)) still in
        (sound-return (guards S ns) o (Some e) x.0 (λ e q. y.0), sound-code ih ns b before r x.1 z (still-exit S (guards S ns) o b (Code-of b before r) y.1))
    sound-code ih ns b before (Wait o n r) x z still = let y = still-wait S (guards S ns) o 0 n (Code-of b before r) still in (y.0, sound-code ih ns b before r x z y.1)
    sound-code ih ns b before (Make o l k args r) x z still = sound-code ih ns b before r x z still
    sound-code ih ns b before (Bind o l t r) x z still = sound-code ih ns b before r x z still
    sound-code ih ns b before (Process o t u e r) x z still = sound-code ih ns b before r x z still
    sound-code ih ns b before (Sensitive o items r) x z still = sound-code ih ns b before r x z still
    sound-code ih ns b before (Quiet o r) x z still = sound-code ih ns b before r x z still
    sound-code ih ns b before (Reset o u e a r) x z still = sound-code ih ns b before r x z still

  -- the body of a function that stands
  pub sound-body : Counters (around home places own h) → (left : ℕ) (cs : List ℕ) (f : ℕ) (g : Function) → Stands left cs f g → (this : core.Left) → IsKindedLeft this → IsObject home h this → (ns : List Counter)
      → ChoosesCode (setting_in p d i q) (call_of h left) (ChoosesCall (setting_in p d i q) h left) (at cs g this) ns g.body → IsStill (setting_in p d i q) (guards (setting_in p d i q) ns) (body_of (call_of h left) (at cs g this) 0 [] g.body)
      → IsSoundCode home places own (rare home places own h) (IsSoundCall home places own (rare home places own h) left) (at cs g this) (guards (setting_in p d i q) ns) 0 g.body
  sound-body counters zero cs f g s this k o ns z still = absurd (let x = s.shallow in omega (arith, x))
  sound-body counters (suc l) cs f g s this k o ns z still = sound-code (suc l) cs f g s this k o counters
      (λ l' e n f' g' to u y k' o' ms z' still'. sound-body counters l (n ∷ cs) f' g' (subst (λ l. Stands l (n ∷ cs) f' g') (let w : l' ≡ l = cc in w) y) to k' o' ms z'
      (subst (IsStill (setting_in p d i q) (guards (setting_in p d i q) ms)) (ap (λ o. unwrap_or (option_map (λ f. body_of (call_of h l) (inside h (n ∷ cs) f to) 0 [] f.body) o) stmt.End) u) still')) ns 0 [] g.body (ok.functions cs f g s.chain s.found).body z still
