-- Where each local pointer is looked at behind its declaration, bodies are resolved alike, and refused alike.
use Rattle.std.proofs.Common.{◌≡◌, refl, sym, ap, ◌∙◌, ℕ, Bool, true, false, ◌&&◌, ◌||◌, not, List, [], ◌∷◌, Option, Some, None, option_map, slice_get, unwrap_or, if◌then◌else◌, is_some}
use Rattle.std.specs.Prelude.{filter, option_and_then}
use Rattle.scc_base.specs.declared.refusal.Place.{Place}
use Rattle.scc_base.specs.declared.code.Code.TheVariants as reason
use Rattle.scc_core_spec.specs.Term.{Term, Literal, Load, Read, Convert, Unary, Binary, Choose, Bit, Range, Join, Left, Cell, Prefix, Null, Follow, Member, Index, Pick, Whole, OneBit, Bits, place_at}
use Rattle.scc_core_spec.specs.Code.{Code, Declared, Assigned, End, Put, Aim, If, Block, Loop, Exit, Wait}
use Rattle.scc_core_spec.specs.Program.{Program, Process}
use Rattle.scc_core_spec.specs.First.{refused}
use Rattle.scc_core_spec.specs.Fold.{as_name, member_of, element_of}
use Rattle.scc_core_spec.specs.Named.{cell_at, is_open, chooses_object}
use Rattle.scc_core_spec.specs.Renumbered.{all_unpointed, is_kept_cell, new_number, renamed_process, resolved_program}
use Rattle.scc_core_spec.specs.Resolved.{Leads, Tried, Made, Stopped, and_made, made_map, behind, is_local_name, leads_to, led_by, looked, or_null, placed, pointed, pointer_there, resolved, sure, walked}
use Rattle.scc_core_spec.specs.Static.{pattern}
use Rattle.scc_core_spec.specs.Unpointed.{aimed, at_first, declares, leading, of_assigned, resolved_pick, unpointed}
use Rattle.scc_pointers_spec.specs.Declared.{all_declared_first, behind_target, declares_first, follows_known, is_declared_first, is_known, is_known_at, is_known_behind, picks_known, walks_known}
use Rattle.scc_pointers_spec.specs.Freed.{all_freed, filled, freed, freed_program, led_before}
use Rattle.scc_pointers_spec.proofs.Alike.{counts-same}

both : {a b : Bool} → (a && b) ≡ true → (a ≡ true) × (b ≡ true)
both {a = true} {b = b} h = (refl, h)
both {a = false} {b = b} h = absurd cc

module _ (s : Leads) where
  abbrev s2 : Leads
  s2 = filled s

  led-same : (p : Place) (n : ℕ) → is_known s (Some n) ≡ true → leads_to s p n ≡ leads_to s2 p n
  led-same p n h = by (s.local n) (is_local_name (slice_get s.cells n)) refl h
    where
      by : (o : Option (Option Left)) (b : Bool) → is_local_name (slice_get s.cells n) ≡ b → (not b || is_some o) ≡ true → led_by s p n o ≡ led_by s2 p n (led_before b o)
      by (Some t) b e h = refl
      by None true e h = absurd cc
      by None false e h = refl

  there-same : (p : Place) (o : Option ℕ) → is_known s o ≡ true → pointer_there s p o ≡ pointer_there s2 p o
  there-same p None h = refl
  there-same p (Some n) h = led-same p n h

  pointed-same : (l : Left) → is_known_at s l ≡ true → pointed s l ≡ pointed s2 l
  pointed-same l h = ap (λ t. if unwrap_or (option_map is_open (pattern s.cells l)) false then Stopped (refused reason.StaticIndex (place_at l)) else t)
      (there-same (place_at l) (option_and_then (λ q. cell_at true 0 q s.cells) (pattern s.cells l)) h)

  behind-same : (t : Tried (Option Left)) → is_known_behind s t ≡ true → and_made t (λ o. behind o (pointed s)) ≡ and_made t (λ o. behind o (pointed s2))
  behind-same (Made None) h = refl
  behind-same (Made (Some l)) h = pointed-same l h
  behind-same (Stopped r) h = refl

  -- a pointer that is followed, in two steps
  regroup : (z : Leads) (soft : Bool) (p : Place) (t : Tried (Option Left)) → and_made t (λ o. and_made (behind o (pointed z)) (λ u. or_null soft p u (λ m. Made (Some (placed p m)))))
      ≡ and_made (and_made t (λ o. behind o (pointed z))) (λ u. or_null soft p u (λ m. Made (Some (placed p m))))
  regroup z soft p (Made o) = refl
  regroup z soft p (Stopped r) = refl

  mutual
    pub term-same : (e : Term) → follows_known s e ≡ true → resolved s e ≡ resolved s2 e
    term-same (Literal o k x) h = refl
    term-same (Load o k l) h = ap (λ t. and_made t (λ u. sure (place_at l) u (λ m. made_map (Load o k) (looked s m)))) (walk-same false l h)
    term-same (Read o k l) h = ap (λ t. and_made t (λ u. sure (place_at l) u (λ m. made_map (Read o k) (looked s m)))) (walk-same false l h)
    term-same (Convert o k e) h = ap (made_map (Convert o k)) (term-same e h)
    term-same (Unary o k x e) h = ap (made_map (Unary o k x)) (term-same e h)
    term-same (Binary o k x e f) h = λ i. and_made (term-same e (both h).0 i) (λ y. made_map (Binary o k x y) (term-same f (both h).1 i))
    term-same (Choose o k t e f) h = λ i. and_made (term-same t (both h).0 i) (λ n. and_made (term-same e (both (both h).1).0 i) (λ x. made_map (Choose o k n x) (term-same f (both (both h).1).1 i)))
    term-same (Bit o (Load r k l) j) h = λ i. and_made (walk-same false l (both h).0 i) (λ u. sure (place_at l) u (λ m. and_made (term-same j (both h).1 i) (λ x. made_map (λ n. Bit o (Load r k n) x) (looked s m))))
    term-same (Bit o (Literal r k x) j) h = ap (made_map (Bit o (Literal r k x))) (term-same j h)
    term-same (Bit o (Read r k l) j) h = λ i. and_made (term-same (Read r k l) (both h).0 i) (λ y. made_map (Bit o y) (term-same j (both h).1 i))
    term-same (Bit o (Convert r k e) j) h = λ i. and_made (term-same (Convert r k e) (both h).0 i) (λ y. made_map (Bit o y) (term-same j (both h).1 i))
    term-same (Bit o (Unary r k x e) j) h = λ i. and_made (term-same (Unary r k x e) (both h).0 i) (λ y. made_map (Bit o y) (term-same j (both h).1 i))
    term-same (Bit o (Binary r k x e f) j) h = λ i. and_made (term-same (Binary r k x e f) (both h).0 i) (λ y. made_map (Bit o y) (term-same j (both h).1 i))
    term-same (Bit o (Choose r k t e f) j) h = λ i. and_made (term-same (Choose r k t e f) (both h).0 i) (λ y. made_map (Bit o y) (term-same j (both h).1 i))
    term-same (Bit o (Bit r e f) j) h = λ i. and_made (term-same (Bit r e f) (both h).0 i) (λ y. made_map (Bit o y) (term-same j (both h).1 i))
    term-same (Bit o (Range r k e hi lo) j) h = λ i. and_made (term-same (Range r k e hi lo) (both h).0 i) (λ y. made_map (Bit o y) (term-same j (both h).1 i))
    term-same (Bit o (Join r k e f) j) h = λ i. and_made (term-same (Join r k e f) (both h).0 i) (λ y. made_map (Bit o y) (term-same j (both h).1 i))
    term-same (Range o k e hi lo) h = ap (made_map (λ x. Range o k x hi lo)) (term-same e h)
    term-same (Join o k e f) h = λ i. and_made (term-same e (both h).0 i) (λ y. made_map (Join o k y) (term-same f (both h).1 i))

    pub walk-same : (soft : Bool) (l : Left) → walks_known s soft l ≡ true → walked s soft l ≡ walked s2 soft l
    walk-same soft (Cell r n) h = refl
    walk-same soft (Prefix r n) h = refl
    walk-same soft (Null r) h = refl
    walk-same soft (Follow r t l) h =
        regroup s soft r (walked s (soft || t) l)
        ∙ (ap (λ z. and_made z (λ u. or_null soft r u (λ m. Made (Some (placed r m))))) (behind-same (walked s (soft || t) l) (both h).1)
        ∙ (sym (regroup s2 soft r (walked s (soft || t) l))
        ∙ ap (λ z. and_made z (λ o. and_made (behind o (pointed s2)) (λ u. or_null soft r u (λ m. Made (Some (placed r m)))))) (walk-same (soft || t) l (both h).0)))
    walk-same soft (Member l n) h = ap (λ t. and_made t (λ o. behind o (λ m. Made (Some (member_of s.cells s.vectors (as_name s.cells s.vectors m) n))))) (walk-same soft l h)
    walk-same soft (Index l size e) h = λ i. and_made (walk-same soft l (both h).0 i) (λ o. behind o (λ m. made_map (λ x. Some (element_of s.cells s.vectors (as_name s.cells s.vectors m) size x)) (term-same e (both h).1 i)))

  pick-same : (k : Pick) → picks_known s k ≡ true → resolved_pick s k ≡ resolved_pick s2 k
  pick-same Whole h = refl
  pick-same (OneBit e) h = ap (made_map OneBit) (term-same e h)
  pick-same (Bits a b) h = refl

  aimed-same : (l : Left) → walks_known s true l ≡ true → aimed s l ≡ aimed s2 l
  aimed-same l h = ap (λ t. and_made t (λ o. behind o (λ m.
      if unwrap_or (option_map chooses_object (pattern s.cells m)) false then Stopped (refused reason.StaticIndex (place_at m))
      else (if unwrap_or (option_map is_open (pattern s.cells m)) true then Stopped (refused reason.StaticIndex (place_at l)) else Made (Some m))))) (walk-same true l h)

pub body-same : (s : Leads) (c : Code) → is_declared_first s c ≡ true → freed s c ≡ unpointed s c
body-same s End h = refl
body-same s (Put p l k e r) h =
    let w = both h in let x = both w.1 in let y = both x.1 in let back = sym (body-same s r y.1) in
    sym (λ i. and_made (walk-same s false l w.0 i) (λ o. sure (place_at l) o (λ m. and_made (pick-same s k x.0 i) (λ k. and_made (looked s m) (λ m. and_made (term-same s e y.0 i) (λ e. made_map (Put p m k e) (back i)))))))
body-same s (Aim p (Declared n) t r) h =
    let w = both h in
    ap (λ a. and_made a (λ o. if declares s n then made_map (Block p End) (freed (leading s n o) r) else Stopped (refused reason.PointerAssigned p))) (sym (aimed-same s t w.0))
    ∙ by (aimed s t) (λ o. body-same (leading s n o) r) w.1
  where
    by : (a : Tried (Option Left)) → ((o : Option Left) → is_declared_first (leading s n o) r ≡ true → freed (leading s n o) r ≡ unpointed (leading s n o) r) → behind_target a (λ o. is_declared_first (leading s n o) r) ≡ true
        → and_made a (λ o. if declares s n then made_map (Block p End) (freed (leading s n o) r) else Stopped (refused reason.PointerAssigned p))
        ≡ and_made a (λ o. if declares s n then made_map (Block p End) (unpointed (leading s n o) r) else Stopped (refused reason.PointerAssigned p))
    by (Made o) f g = ap (λ c. if declares s n then made_map (Block p End) c else Stopped (refused reason.PointerAssigned p)) (f o g)
    by (Stopped q) f g = refl
body-same s (Aim p (Assigned l) t r) h = ap (λ w. Stopped (of_assigned p w)) (sym (walk-same s false l h))
body-same s (If p t a b r) h =
    let w = both h in let x = both w.1 in let y = both x.1 in
    λ i. and_made (sym (term-same s t w.0) i) (λ t. and_made (body-same s a x.0 i) (λ a. and_made (body-same s b y.0 i) (λ b. made_map (If p t a b) (body-same s r y.1 i))))
body-same s (Block p b r) h = λ i. and_made (body-same s b (both h).0 i) (λ b. made_map (Block p b) (body-same s r (both h).1 i))
body-same s (Loop p c b r) h = λ i. and_made (body-same s b (both h).0 i) (λ b. made_map (Loop p (sym (counts-same s c) i) b) (body-same s r (both h).1 i))
body-same s (Exit p n r) h = ap (made_map (Exit p n)) (body-same s r h)
body-same s (Wait p l n r) h = ap (made_map (Wait p l n)) (body-same s r h)

all-same : (p : Program) (qs : List Process) → all_declared_first p qs ≡ true → all_freed p qs ≡ all_unpointed p qs
all-same p [] h = refl
all-same p (q ∷ qs) h = λ i. and_made (body-same (at_first p) q.body (both h).0 i) (λ body. made_map (λ more. renamed_process (new_number p.cells) q body ∷ more) (all-same p qs (both h).1 i))

pub program-same : (p : Program) → declares_first p ≡ true → freed_program p ≡ resolved_program p
program-same p h = ap (made_map (λ processes. record { top = p.top; cells = filter is_kept_cell p.cells; vectors = p.vectors; processes = processes })) (all-same p p.processes h)
