-- What is resolved follows no pointer, and names no pointer's cell.
use Rattle.std.proofs.Common.{◌≡◌, ℕ, Bool, true, false, ◌&&◌, ◌||◌, nat_eq, List, Option, Some, None, option_map, refl, sym, subst}
use Rattle.std.specs.Prelude.{unwrap_or, slice_get, option_and_then, if◌then◌else◌}
use Rattle.scc_base.specs.declared.refusal.Place.{Place}
use Rattle.scc_base.specs.declared.code.Code.TheVariants as reason
use Rattle.scc_semantics.specs.Expressions as body
use Rattle.scc_semantics.specs.Steady.{plain_expr, plain_left, plain_pick, plain_body}
use Rattle.scc_core_spec.specs.Term.{Term, Literal, Load, Read, Convert, Unary, Binary, Choose, Bit, Range, Join, Left, Cell, Prefix, Null, Follow, Index, Pick, Whole, OneBit, Bits, CellName, Own, place_at}
use Rattle.scc_core_spec.specs.Term as term
use Rattle.scc_core_spec.specs.Code.{Code, Declared, Assigned, End, Put, Aim, If, Block, Loop, Exit, Wait}
use Rattle.scc_core_spec.specs.Program as program
use Rattle.scc_core_spec.specs.Program.{Vector, Sort, Pointer, is_pointer}
use Rattle.scc_core_spec.specs.First.{refused}
use Rattle.scc_core_spec.specs.Named.{steps_of, cell_at, is_open, chooses_object}
use Rattle.scc_core_spec.specs.Static.{Cells, pattern}
use Rattle.scc_core_spec.specs.Uses.{sort_at, root_of}
use Rattle.scc_core_spec.specs.Fold.{as_name, member_behind, member_of, element_of, element_or, in_range, static_index, size_of, whole}
use Rattle.scc_core_spec.specs.Resolved.{Leads, Tried, Made, Stopped, and_made, made_map, placed, left_by, is_local_name, led_by, pointer_there, pointed, looked, named_pointer, without_pointer, or_null, behind, sure, resolved, walked}
use Rattle.scc_core_spec.specs.Unpointed.{unpointed, aimed, declares, leading, resolved_pick, resolved_count, of_assigned}
use Rattle.scc_core_spec.specs.Source.{Home, expr_of, left_of, pick_of, body_of, cell_left}
use Rattle.scc_core_pass_laws.specs.Renumbering.{IsKeptCell}
use Rattle.scc_core_pass_laws.proofs.Pointless.{made-is, stopped-not, and-is, made-map-is, sure-is, unless-stopped}

module _ (cs : Cells) where
  abbrev mutual
    pub IsClean : Term → Type 0
    IsClean (Literal p k w) = Unit {0}
    IsClean (Load p k l) = IsCleanLeft l
    IsClean (Read p k l) = IsCleanLeft l
    IsClean (Convert p k e) = IsClean e
    IsClean (Unary p k o e) = IsClean e
    IsClean (Binary p k o e f) = IsClean e × IsClean f
    IsClean (Choose p k t e f) = IsClean t × IsClean e × IsClean f
    IsClean (Bit p e i) = IsClean e × IsClean i
    IsClean (Range p k e h l) = IsClean e
    IsClean (Join p k e f) = IsClean e × IsClean f

    pub IsCleanLeft : Left → Type 0
    IsCleanLeft (Cell p n) = IsKeptCell (slice_get cs n)
    IsCleanLeft (Prefix p n) = Unit {0}
    IsCleanLeft (Null p) = Unit {0}
    IsCleanLeft (Follow p s l) = ⊥
    IsCleanLeft (term.Member l n) = IsCleanLeft l
    IsCleanLeft (Index l size e) = IsCleanLeft l × IsClean e

  abbrev pub IsCleanPick : Pick → Type 0
  IsCleanPick Whole = Unit {0}
  IsCleanPick (OneBit e) = IsClean e
  IsCleanPick (Bits h l) = Unit {0}

  abbrev pub IsCleanCode : Code → Type 0
  IsCleanCode End = Unit {0}
  IsCleanCode (Put p l k e r) = IsCleanLeft l × IsCleanPick k × IsClean e × IsCleanCode r
  IsCleanCode (Aim p to t r) = ⊥
  IsCleanCode (If p t a b r) = IsClean t × IsCleanCode a × IsCleanCode b × IsCleanCode r
  IsCleanCode (Block p b r) = IsCleanCode b × IsCleanCode r
  IsCleanCode (Loop p n b r) = IsCleanCode b × IsCleanCode r
  IsCleanCode (Exit p n r) = IsCleanCode r
  IsCleanCode (Wait p l n r) = IsCleanCode r

  -- the same of a location before it is read or written: it may be a pointer's cell
  abbrev pub IsSeen : Left → Type 0
  IsSeen (Cell p n) = Unit {0}
  IsSeen (Prefix p n) = Unit {0}
  IsSeen (Null p) = Unit {0}
  IsSeen (Follow p s l) = ⊥
  IsSeen (term.Member l n) = IsCleanLeft l
  IsSeen (Index l size e) = IsCleanLeft l × IsClean e

  abbrev IsSeenIf : Option Left → Type 0
  IsSeenIf None = Unit {0}
  IsSeenIf (Some l) = IsSeen l

  placed-clean : (o : Place) (l : Left) → IsCleanLeft l → IsCleanLeft (placed o l)
  placed-clean o (Cell r n) h = h
  placed-clean o (Prefix r n) h = h
  placed-clean o (Null r) h = h
  placed-clean o (Follow r s l) h = h
  placed-clean o (term.Member l n) h = placed-clean o l h
  placed-clean o (Index l s e) h = (placed-clean o l h.0, h.1)

  placed-seen : (o : Place) (l : Left) → IsSeen l → IsSeen (placed o l)
  placed-seen o (Cell r n) h = h
  placed-seen o (Prefix r n) h = h
  placed-seen o (Null r) h = h
  placed-seen o (Follow r s l) h = h
  placed-seen o (term.Member l n) h = placed-clean o l h
  placed-seen o (Index l s e) h = (placed-clean o l h.0, h.1)

  -- a cell by its name is no pointer's
  named-clean : (vs : List Vector) (l : Left) → IsSeen l → IsCleanLeft (as_name cs vs l)
  named-clean vs (Cell r n) h = by (slice_get cs n) refl
    where
      by : (u : Option program.Cell) → slice_get cs n ≡ u → IsCleanLeft (unwrap_or (option_map (λ c. Prefix r c.name) u) (Cell r n))
      by None e = subst IsKeptCell (sym e) tt
      by (Some c) e = tt
  named-clean vs (Prefix r n) h = h
  named-clean vs (Null r) h = h
  named-clean vs (Follow r s l) h = h
  named-clean vs (term.Member l n) h = h
  named-clean vs (Index l s e) h = h

  member-seen : (vs : List Vector) (l : Left) (n : ℕ) → IsCleanLeft l → IsSeen (member_of cs vs l n)
  member-seen vs (Cell r m) n h = h
  member-seen vs (Prefix r k) n h = by k.own
    where
      by : (o : Option Own) → IsSeen (member_behind cs vs r k o n)
      by None = tt
      by (Some o) = tt
  member-seen vs (Null r) n h = h
  member-seen vs (Follow r s l) n h = h
  member-seen vs (term.Member l m) n h = h
  member-seen vs (Index l s e) n h = h

  element-seen : (vs : List Vector) (l : Left) (u : Option ℕ) (size : ℕ) (e : Term) → IsCleanLeft l → IsClean e → IsSeen (element_or cs vs l u (Index l size e))
  element-seen vs (Prefix r k) (Some j) size e h c = tt
  element-seen vs (Prefix r k) None size e h c = (h, c)
  element-seen vs (Cell r m) (Some j) size e h c = (h, c)
  element-seen vs (Cell r m) None size e h c = (h, c)
  element-seen vs (Null r) (Some j) size e h c = (h, c)
  element-seen vs (Null r) None size e h c = (h, c)
  element-seen vs (Follow r s l) u size e h c = absurd h
  element-seen vs (term.Member l m) (Some j) size e h c = (h, c)
  element-seen vs (term.Member l m) None size e h c = (h, c)
  element-seen vs (Index l s x) (Some j) size e h c = (h, c)
  element-seen vs (Index l s x) None size e h c = (h, c)

  -- what is read or written is no pointer's cell
  whole-clean : (vs : List Vector) (l : Left) → IsSeen l → IsCleanLeft (without_pointer cs (whole cs vs false l))
  whole-clean vs l h = by l h
    where
      cell : (r : Place) (n : ℕ) → IsCleanLeft (named_pointer r n (slice_get cs n))
      cell r n = at (slice_get cs n) refl
        where
          at : (u : Option program.Cell) → slice_get cs n ≡ u → IsCleanLeft (named_pointer r n u)
          at None e = subst IsKeptCell (sym e) tt
          at (Some c) e = test (is_pointer c.sort) refl
            where
              test : (b : Bool) → is_pointer c.sort ≡ b → IsCleanLeft (if b then Prefix r c.name else Cell r n)
              test true f = tt
              test false f = subst IsKeptCell (sym e) f

      found : (r : Place) (k : CellName) (u : Option ℕ) → IsCleanLeft (without_pointer cs (unwrap_or (option_map (λ c. Cell r (root_of cs c)) u) (Prefix r k)))
      found r k None = tt
      found r k (Some n) = cell r (root_of cs n)

      by : (l : Left) → IsSeen l → IsCleanLeft (without_pointer cs (whole cs vs false l))
      by (Cell r n) h = cell r (root_of cs n)
      by (Prefix r k) h = found r k (cell_at false 0 (steps_of k) cs)
      by (Null r) h = h
      by (Follow r s l) h = h
      by (term.Member l n) h = h
      by (Index l s e) h = h

  -- where local pointers lead
  abbrev pub AllSeen : (ℕ → Option (Option Left)) → Type 0
  AllSeen local = (n : ℕ) (t : Left) → local n ≡ Some (Some t) → IsSeen t

  module _ (vs : List Vector) (local : ℕ → Option (Option Left)) (seen : AllSeen local) where
    abbrev s : Leads
    s = record { cells = cs; vectors = vs; local = local }

    looked-clean : (l m : Left) → IsSeen l → looked s l ≡ Made m → IsCleanLeft m
    looked-clean l m h e =
        let x = unless-stopped (unwrap_or (option_map chooses_object (pattern cs l)) false) (refused reason.StaticIndex (place_at l)) (Made (without_pointer cs (whole cs vs false l))) m e in
        subst IsCleanLeft (made-is x.1) (whole-clean vs l h)

    left-seen : (o : Place) (u : Option Sort) → IsSeenIf (left_by o u)
    left-seen o (Some (Pointer (Some path))) = tt
    left-seen o (Some (Pointer None)) = tt
    left-seen o (Some program.Input) = tt
    left-seen o (Some program.Output) = tt
    left-seen o (Some program.Signal) = tt
    left-seen o (Some (program.Variable x b)) = tt
    left-seen o (Some (program.Local j)) = tt
    left-seen o (Some (program.Port path)) = tt
    left-seen o None = tt

    led-seen : (o : Place) (n : ℕ) (u : Option (Option Left)) (t : Option Left) → local n ≡ u → led_by s o n u ≡ Made t → IsSeenIf t
    led-seen o n (Some None) t at e = subst IsSeenIf (made-is e) tt
    led-seen o n (Some (Some l)) t at e = subst IsSeenIf (made-is e) (placed-seen o l (seen n l at))
    led-seen o n None t at e = let x = unless-stopped (is_local_name (slice_get cs n)) (refused reason.EmptyPointer o) (Made (left_by o (sort_at cs n))) t e in subst IsSeenIf (made-is x.1) (left-seen o (sort_at cs n))

    there-seen : (o : Place) (u : Option ℕ) (t : Option Left) → pointer_there s o u ≡ Made t → IsSeenIf t
    there-seen o None t e = subst IsSeenIf (made-is e) tt
    there-seen o (Some n) t e = led-seen o n (local n) t refl e

    pointed-seen : (l : Left) (t : Option Left) → pointed s l ≡ Made t → IsSeenIf t
    pointed-seen l t e =
        let u = option_and_then (λ q. cell_at true 0 q cs) (pattern cs l) in
        let x = unless-stopped (unwrap_or (option_map is_open (pattern cs l)) false) (refused reason.StaticIndex (place_at l)) (pointer_there s (place_at l) u) t e in there-seen (place_at l) u t x.1

    behind-seen : (o : Option Left) (t : Option Left) → behind o (pointed s) ≡ Made t → IsSeenIf t
    behind-seen None t e = subst IsSeenIf (made-is e) tt
    behind-seen (Some l) t e = pointed-seen l t e

    null-seen : (soft : Bool) (r : Place) (t o : Option Left) → IsSeenIf t → or_null soft r t (λ m. Made (Some (placed r m))) ≡ Made o → IsSeenIf o
    null-seen soft r (Some m) o h e = subst IsSeenIf (made-is e) (placed-seen r m h)
    null-seen true r None o h e = subst IsSeenIf (made-is e) tt
    null-seen false r None o h e = absurd (stopped-not (refused reason.EmptyPointer r) o e)

    read-clean : (l : Left) (f : Left → Term) (y : Term) → ((o : Option Left) → walked s false l ≡ Made o → IsSeenIf o) → and_made (walked s false l) (λ o. sure (place_at l) o (λ m. made_map f (looked s m))) ≡ Made y
        → (m : Left) × IsCleanLeft m × (f m ≡ y)
    read-clean l f y walks e =
        let a = and-is (walked s false l) (λ o. sure (place_at l) o (λ m. made_map f (looked s m))) y e in
        let b = sure-is (place_at l) a.0 (λ m. made_map f (looked s m)) y a.2 in
        let c = made-map-is f (looked s b.0) y b.2 in
        (c.0, looked-clean b.0 c.0 (subst IsSeenIf b.1 (walks a.0 a.1)) c.1, c.2)

    bit-clean : (o : Place) (e j y : Term) → ((x : Term) → resolved s e ≡ Made x → IsClean x) → ((x : Term) → resolved s j ≡ Made x → IsClean x)
        → and_made (resolved s e) (λ x. made_map (Bit o x) (resolved s j)) ≡ Made y → IsClean y
    bit-clean o e j y he hj h =
        let a = and-is (resolved s e) (λ x. made_map (Bit o x) (resolved s j)) y h in
        let b = made-map-is (Bit o a.0) (resolved s j) y a.2 in
        subst IsClean b.2 (he a.0 a.1, hj b.0 b.1)

    mutual
      pub term-clean : (e y : Term) → resolved s e ≡ Made y → IsClean y
      term-clean (Literal o k x) y h = subst IsClean (made-is h) tt
      term-clean (Load o k l) y h = let c = read-clean l (Load o k) y (λ u. walk-seen false l u) h in subst IsClean c.2 c.1
      term-clean (Read o k l) y h = let c = read-clean l (Read o k) y (λ u. walk-seen false l u) h in subst IsClean c.2 c.1
      term-clean (Convert o k e) y h = let a = made-map-is (Convert o k) (resolved s e) y h in subst IsClean a.2 (term-clean e a.0 a.1)
      term-clean (Unary o k r e) y h = let a = made-map-is (Unary o k r) (resolved s e) y h in subst IsClean a.2 (term-clean e a.0 a.1)
      term-clean (Binary o k r e f) y h =
          let a = and-is (resolved s e) (λ x. made_map (Binary o k r x) (resolved s f)) y h in
          let b = made-map-is (Binary o k r a.0) (resolved s f) y a.2 in
          subst IsClean b.2 (term-clean e a.0 a.1, term-clean f b.0 b.1)
      term-clean (Choose o k t e f) y h =
          let a = and-is (resolved s t) (λ n. and_made (resolved s e) (λ x. made_map (Choose o k n x) (resolved s f))) y h in
          let b = and-is (resolved s e) (λ x. made_map (Choose o k a.0 x) (resolved s f)) y a.2 in
          let c = made-map-is (Choose o k a.0 b.0) (resolved s f) y b.2 in
          subst IsClean c.2 (term-clean t a.0 a.1, term-clean e b.0 b.1, term-clean f c.0 c.1)
      term-clean (Bit o (Load r k l) j) y h =
          let a = and-is (walked s false l) (λ u. sure (place_at l) u (λ m. and_made (resolved s j) (λ i. made_map (λ n. Bit o (Load r k n) i) (looked s m)))) y h in
          let b = sure-is (place_at l) a.0 (λ m. and_made (resolved s j) (λ i. made_map (λ n. Bit o (Load r k n) i) (looked s m))) y a.2 in
          let d = and-is (resolved s j) (λ i. made_map (λ n. Bit o (Load r k n) i) (looked s b.0)) y b.2 in
          let c = made-map-is (λ n. Bit o (Load r k n) d.0) (looked s b.0) y d.2 in
          subst IsClean c.2 (looked-clean b.0 c.0 (subst IsSeenIf b.1 (walk-seen false l a.0 a.1)) c.1, term-clean j d.0 d.1)
      term-clean (Bit o (Literal r k x) j) y h = bit-clean o (Literal r k x) j y (λ x. term-clean (Literal r k _) x) (λ x. term-clean j x) h
      term-clean (Bit o (Read r k l) j) y h = bit-clean o (Read r k l) j y (λ x. term-clean (Read r k l) x) (λ x. term-clean j x) h
      term-clean (Bit o (Convert r k e) j) y h = bit-clean o (Convert r k e) j y (λ x. term-clean (Convert r k e) x) (λ x. term-clean j x) h
      term-clean (Bit o (Unary r k t e) j) y h = bit-clean o (Unary r k t e) j y (λ x. term-clean (Unary r k t e) x) (λ x. term-clean j x) h
      term-clean (Bit o (Binary r k t e f) j) y h = bit-clean o (Binary r k t e f) j y (λ x. term-clean (Binary r k t e f) x) (λ x. term-clean j x) h
      term-clean (Bit o (Choose r k t e f) j) y h = bit-clean o (Choose r k t e f) j y (λ x. term-clean (Choose r k t e f) x) (λ x. term-clean j x) h
      term-clean (Bit o (Bit r e f) j) y h = bit-clean o (Bit r e f) j y (λ x. term-clean (Bit r e f) x) (λ x. term-clean j x) h
      term-clean (Bit o (Range r k e hi lo) j) y h = bit-clean o (Range r k e hi lo) j y (λ x. term-clean (Range r k e hi lo) x) (λ x. term-clean j x) h
      term-clean (Bit o (Join r k e f) j) y h = bit-clean o (Join r k e f) j y (λ x. term-clean (Join r k e f) x) (λ x. term-clean j x) h
      term-clean (Range o k e hi lo) y h = let a = made-map-is (λ x. Range o k x hi lo) (resolved s e) y h in subst IsClean a.2 (term-clean e a.0 a.1)
      term-clean (Join o k e f) y h =
          let a = and-is (resolved s e) (λ x. made_map (Join o k x) (resolved s f)) y h in
          let b = made-map-is (Join o k a.0) (resolved s f) y a.2 in
          subst IsClean b.2 (term-clean e a.0 a.1, term-clean f b.0 b.1)

      pub walk-seen : (soft : Bool) (l : Left) (o : Option Left) → walked s soft l ≡ Made o → IsSeenIf o
      walk-seen soft (Cell r n) o h = subst IsSeenIf (made-is h) tt
      walk-seen soft (Prefix r n) o h = subst IsSeenIf (made-is h) tt
      walk-seen soft (Null r) o h = subst IsSeenIf (made-is h) tt
      walk-seen soft (Follow r t l) o h =
          let a = and-is (walked s (soft || t) l) (λ o. and_made (behind o (pointed s)) (λ u. or_null soft r u (λ m. Made (Some (placed r m))))) o h in
          let b = and-is (behind a.0 (pointed s)) (λ u. or_null soft r u (λ m. Made (Some (placed r m)))) o a.2 in
          null-seen soft r b.0 o (behind-seen a.0 b.0 b.1) b.2
      walk-seen soft (term.Member l n) o h =
          let a = and-is (walked s soft l) (λ o. behind o (λ m. Made (Some (member_of cs vs (as_name cs vs m) n)))) o h in
          by a.0 (walk-seen soft l a.0 a.1) a.2
        where
          by : (u : Option Left) → IsSeenIf u → behind u (λ m. Made (Some (member_of cs vs (as_name cs vs m) n))) ≡ Made o → IsSeenIf o
          by None x h = subst IsSeenIf (made-is h) tt
          by (Some m) x h = subst IsSeenIf (made-is h) (member-seen vs (as_name cs vs m) n (named-clean vs m x))
      walk-seen soft (Index l size e) o h =
          let a = and-is (walked s soft l) (λ o. behind o (λ m. made_map (λ x. Some (element_of cs vs (as_name cs vs m) size x)) (resolved s e))) o h in
          by a.0 (walk-seen soft l a.0 a.1) (λ y. term-clean e y) a.2
        where
          by : (u : Option Left) → IsSeenIf u → ((y : Term) → resolved s e ≡ Made y → IsClean y) → behind u (λ m. made_map (λ x. Some (element_of cs vs (as_name cs vs m) size x)) (resolved s e)) ≡ Made o → IsSeenIf o
          by None x t h = subst IsSeenIf (made-is h) tt
          by (Some m) x t h =
              let b = made-map-is (λ x. Some (element_of cs vs (as_name cs vs m) size x)) (resolved s e) o h in
              let n = as_name cs vs m in
              let size' = size_of cs vs size n in
              subst IsSeenIf b.2 (element-seen vs n (in_range cs vs size' (static_index cs vs b.0)) size' b.0 (named-clean vs m x) (t b.0 b.1))

    pub pick-clean : (k k' : Pick) → resolved_pick s k ≡ Made k' → IsCleanPick k'
    pick-clean Whole k' e = subst IsCleanPick (made-is e) tt
    pick-clean (OneBit x) k' e = let a = made-map-is OneBit (resolved s x) k' e in subst IsCleanPick a.2 (term-clean x a.0 a.1)
    pick-clean (Bits h l) k' e = subst IsCleanPick (made-is e) tt

    pub aimed-seen : (l : Left) (o : Option Left) → aimed s l ≡ Made o → IsSeenIf o
    aimed-seen l o e =
        let f : Left → Tried (Option Left) = λ m. if unwrap_or (option_map chooses_object (pattern cs m)) false then Stopped (refused reason.StaticIndex (place_at m))
        else (if unwrap_or (option_map is_open (pattern cs m)) true then Stopped (refused reason.StaticIndex (place_at l)) else Made (Some m)) in
        let a = and-is (walked s true l) (λ o. behind o f) o e in by a.0 (walk-seen true l a.0 a.1) a.2
      where
        by : (u : Option Left) → IsSeenIf u → behind u (λ m. if unwrap_or (option_map chooses_object (pattern cs m)) false then Stopped (refused reason.StaticIndex (place_at m))
            else (if unwrap_or (option_map is_open (pattern cs m)) true then Stopped (refused reason.StaticIndex (place_at l)) else Made (Some m))) ≡ Made o → IsSeenIf o
        by None x h = subst IsSeenIf (made-is h) tt
        by (Some m) x h =
            let a = unless-stopped (unwrap_or (option_map chooses_object (pattern cs m)) false) (refused reason.StaticIndex (place_at m))
            (if unwrap_or (option_map is_open (pattern cs m)) true then Stopped (refused reason.StaticIndex (place_at l)) else Made (Some m)) o h in
            let b = unless-stopped (unwrap_or (option_map is_open (pattern cs m)) true) (refused reason.StaticIndex (place_at l)) (Made (Some m)) o a.1 in
            subst IsSeenIf (made-is b.1) x

  module _ (vs : List Vector) where
    abbrev lead : (ℕ → Option (Option Left)) → Leads
    lead local = record { cells = cs; vectors = vs; local = local }

    seen-more : (local : ℕ → Option (Option Left)) (j : ℕ) (o : Option Left) → AllSeen local → IsSeenIf o → AllSeen (λ m. if nat_eq m j then Some o else local m)
    seen-more local j o all h n t e = by (nat_eq n j) e
      where
        by : (b : Bool) → (if b then Some o else local n) ≡ Some (Some t) → IsSeen t
        by true e = let z : o ≡ Some t = cc in subst IsSeenIf z h
        by false e = all n t e

    pub code-clean : (local : ℕ → Option (Option Left)) → AllSeen local → (c d : Code) → unpointed (lead local) c ≡ Made d → IsCleanCode d
    code-clean local all End d e = subst IsCleanCode (made-is e) tt
    code-clean local all (Put o l j e r) d h =
        let s = lead local in
        let f : Left → Pick → Tried Code = λ l k. and_made (resolved s e) (λ e. made_map (Put o l k e) (unpointed s r)) in
        let a1 = and-is (walked s false l) (λ u. sure (place_at l) u (λ m. and_made (resolved_pick s j) (λ k. and_made (looked s m) (λ m. f m k)))) d h in
        let b1 = sure-is (place_at l) a1.0 (λ m. and_made (resolved_pick s j) (λ k. and_made (looked s m) (λ m. f m k))) d a1.2 in
        let c1 = and-is (resolved_pick s j) (λ k. and_made (looked s b1.0) (λ m. f m k)) d b1.2 in
        let d1 = and-is (looked s b1.0) (λ m. f m c1.0) d c1.2 in
        let e1 = and-is (resolved s e) (λ e. made_map (Put o d1.0 c1.0 e) (unpointed s r)) d d1.2 in
        let f1 = made-map-is (Put o d1.0 c1.0 e1.0) (unpointed s r) d e1.2 in
        subst IsCleanCode f1.2 (looked-clean vs local all b1.0 d1.0 (subst IsSeenIf b1.1 (walk-seen vs local all false l a1.0 a1.1)) d1.1, pick-clean vs local all j c1.0 c1.1, term-clean vs local all e e1.0 e1.1, code-clean local all r f1.0 f1.1)
    code-clean local all (Aim o (Declared j) t r) d h =
        let s = lead local in
        let y = and-is (aimed s t) (λ u. if declares s j then made_map (Block o End) (unpointed (leading s j u) r) else Stopped (refused reason.PointerAssigned o)) d h in
        by y.0 (aimed-seen vs local all t y.0 y.1) (declares s j) y.2 (λ all' d e. code-clean (λ m. if nat_eq m j then Some y.0 else local m) all' r d e)
      where
        by : (u : Option Left) → IsSeenIf u → (b : Bool) → (if b then made_map (Block o End) (unpointed (leading (lead local) j u) r) else Stopped (refused reason.PointerAssigned o)) ≡ Made d
            → (AllSeen (λ m. if nat_eq m j then Some u else local m) → (d : Code) → unpointed (leading (lead local) j u) r ≡ Made d → IsCleanCode d) → IsCleanCode d
        by u x true e ih = let z = made-map-is (Block o End) (unpointed (leading (lead local) j u) r) d e in subst IsCleanCode z.2 (tt, ih (seen-more local j u all x) z.0 z.1)
        by u x false e ih = absurd (stopped-not (refused reason.PointerAssigned o) d e)
    code-clean local all (Aim o (Assigned l) t r) d h = absurd (stopped-not (of_assigned o (walked (lead local) false l)) d h)
    code-clean local all (If o t x y r) d h =
        let s = lead local in
        let a1 = and-is (resolved s t) (λ t. and_made (unpointed s x) (λ a. and_made (unpointed s y) (λ b. made_map (If o t a b) (unpointed s r)))) d h in
        let b1 = and-is (unpointed s x) (λ a. and_made (unpointed s y) (λ b. made_map (If o a1.0 a b) (unpointed s r))) d a1.2 in
        let c1 = and-is (unpointed s y) (λ b. made_map (If o a1.0 b1.0 b) (unpointed s r)) d b1.2 in
        let d1 = made-map-is (If o a1.0 b1.0 c1.0) (unpointed s r) d c1.2 in
        subst IsCleanCode d1.2 (term-clean vs local all t a1.0 a1.1, code-clean local all x b1.0 b1.1, code-clean local all y c1.0 c1.1, code-clean local all r d1.0 d1.1)
    code-clean local all (Block o x r) d h =
        let s = lead local in
        let a1 = and-is (unpointed s x) (λ b. made_map (Block o b) (unpointed s r)) d h in
        let d1 = made-map-is (Block o a1.0) (unpointed s r) d a1.2 in
        subst IsCleanCode d1.2 (code-clean local all x a1.0 a1.1, code-clean local all r d1.0 d1.1)
    code-clean local all (Loop o c x r) d h =
        let s = lead local in
        let a1 = and-is (unpointed s x) (λ b. made_map (Loop o (option_map (resolved_count s) c) b) (unpointed s r)) d h in
        let d1 = made-map-is (Loop o (option_map (resolved_count s) c) a1.0) (unpointed s r) d a1.2 in
        subst IsCleanCode d1.2 (code-clean local all x a1.0 a1.1, code-clean local all r d1.0 d1.1)
    code-clean local all (Exit o j r) d h = let d1 = made-map-is (Exit o j) (unpointed (lead local) r) d h in subst IsCleanCode d1.2 (code-clean local all r d1.0 d1.1)
    code-clean local all (Wait o l c r) d h = let d1 = made-map-is (Wait o l c) (unpointed (lead local) r) d h in subst IsCleanCode d1.2 (code-clean local all r d1.0 d1.1)

  -- what is clean is plain
  module _ (home : Home) (i : ℕ) where
    both : (a b : Bool) → a ≡ true → b ≡ true → (a && b) ≡ true
    both true b e f = f
    both false b e f = e

    cell-plain : (u : Option program.Cell) → plain_left (cell_left home cs i u) ≡ true
    cell-plain None = refl
    cell-plain (Some c) = refl

    abbrev E : Term → body.Expr
    E e = expr_of home cs i e

    abbrev L : Left → body.Left
    L l = left_of home cs i l

    mutual
      clean-plain : (e : Term) → IsClean e → plain_expr (E e) ≡ true
      clean-plain (Literal o k x) h = refl
      clean-plain (Load o k l) h = clean-plain-left l h
      clean-plain (Read o k l) h = clean-plain-left l h
      clean-plain (Convert o k e) h = clean-plain e h
      clean-plain (Unary o k r e) h = clean-plain e h
      clean-plain (Binary o k r e f) h = both (plain_expr (E e)) (plain_expr (E f)) (clean-plain e h.0) (clean-plain f h.1)
      clean-plain (Choose o k t e f) h = both (plain_expr (E t)) (plain_expr (E e) && plain_expr (E f)) (clean-plain t h.0) (both (plain_expr (E e)) (plain_expr (E f)) (clean-plain e h.1) (clean-plain f h.2))
      clean-plain (Bit o e j) h = both (plain_expr (E e)) (plain_expr (E j)) (clean-plain e h.0) (clean-plain j h.1)
      clean-plain (Range o k e hi lo) h = clean-plain e h
      clean-plain (Join o k e f) h = both (plain_expr (E e)) (plain_expr (E f)) (clean-plain e h.0) (clean-plain f h.1)

      clean-plain-left : (l : Left) → IsCleanLeft l → plain_left (L l) ≡ true
      clean-plain-left (Cell r n) h = cell-plain (slice_get cs n)
      clean-plain-left (Prefix r n) h = refl
      clean-plain-left (Null r) h = refl
      clean-plain-left (Follow r s l) h = absurd h
      clean-plain-left (term.Member l n) h = clean-plain-left l h
      clean-plain-left (Index l size e) h = both (plain_left (L l)) (plain_expr (E e)) (clean-plain-left l h.0) (clean-plain e h.1)

    clean-plain-pick : (k : Pick) → IsCleanPick k → plain_pick (pick_of home cs i k) ≡ true
    clean-plain-pick Whole h = refl
    clean-plain-pick (OneBit e) h = clean-plain e h
    clean-plain-pick (Bits hi lo) h = refl

    abbrev BC : Code → Bool
    BC c = plain_body (body_of home cs i c)

    pub clean-plain-code : (c : Code) → IsCleanCode c → plain_body (body_of home cs i c) ≡ true
    clean-plain-code End h = refl
    clean-plain-code (Put o l k e r) h = both (plain_left (L l)) (plain_pick (pick_of home cs i k) && (plain_expr (E e) && BC r)) (clean-plain-left l h.0)
        (both (plain_pick (pick_of home cs i k)) (plain_expr (E e) && BC r) (clean-plain-pick k h.1) (both (plain_expr (E e)) (BC r) (clean-plain e h.2) (clean-plain-code r h.3)))
    clean-plain-code (Aim o to t r) h = absurd h
    clean-plain-code (If o t a b r) h = both (plain_expr (E t)) (BC a && (BC b && BC r)) (clean-plain t h.0) (both (BC a) (BC b && BC r) (clean-plain-code a h.1) (both (BC b) (BC r) (clean-plain-code b h.2) (clean-plain-code r h.3)))
    clean-plain-code (Block o b r) h = both (BC b) (BC r) (clean-plain-code b h.0) (clean-plain-code r h.1)
    clean-plain-code (Loop o n b r) h = both (BC b) (BC r) (clean-plain-code b h.0) (clean-plain-code r h.1)
    clean-plain-code (Exit o n r) h = clean-plain-code r h
    clean-plain-code (Wait o l n r) h = clean-plain-code r h
