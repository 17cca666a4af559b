-- What is resolved where no pointer is used before its declaration is resolved so.
use Rattle.std.proofs.Common.{◌≡◌, refl, subst, sym, ℕ, Bool, true, false, ◌||◌, List, [], ◌∷◌, Option, Some, None, option_map, slice_get, unwrap_or, if◌then◌else◌}
use Rattle.std.specs.Prelude.{filter, option_and_then}
use Rattle.scc_base.specs.declared.refusal.Place.{Place}
use Rattle.scc_base.specs.declared.refusal.Refusal.{Refusal}
use Rattle.scc_base.specs.declared.code.Code.TheVariants as reason
use Rattle.scc_core_spec.specs.Term.{Term, Literal, Load, Read, Convert, Unary, Binary, Choose, Bit, Range, Join, Left, Cell, Prefix, Null, Follow, Member, Index, Pick, Whole, OneBit, Bits, place_at}
use Rattle.scc_core_spec.specs.Code.{Code, Count, Declared, Assigned, End, Put, Aim, If, Block, Loop, Exit, Wait}
use Rattle.scc_core_spec.specs.Program.{Program, Process}
use Rattle.scc_core_spec.specs.First.{refused}
use Rattle.scc_core_spec.specs.Fold.{as_name, member_of, element_of}
use Rattle.scc_core_spec.specs.Named.{cell_at, is_open, chooses_object}
use Rattle.scc_core_spec.specs.Renumbered.{all_unpointed, is_kept_cell, new_number, renamed_process, resolved_program}
use Rattle.scc_core_spec.specs.Resolved.{Leads, Tried, Made, Stopped, and_made, made_map, behind, is_local_name, left_by, leads_to, led_by, looked, or_null, placed, pointed, pointer_there, resolved, sure, walked}
use Rattle.scc_core_spec.specs.Static.{pattern}
use Rattle.scc_core_spec.specs.Uses.{sort_at}
use Rattle.scc_core_spec.specs.Unpointed.{aimed, at_first, declares, leading, of_assigned, or_same, resolved_count, resolved_left, resolved_pick, unpointed}
use Rattle.scc_pointers_spec.specs.Freed.{all_freed, filled, freed, freed_program, led_before}

-- both are the same, or both are refused
data Same {A : Type 0} : Tried A → Tried A → Type 0 where
  same : (t : Tried A) → Same t t
  stops : (r q : Refusal) → Same (Stopped r) (Stopped q)

-- or one is refused, and the other is null
data Walks : Tried (Option Left) → Tried (Option Left) → Type 0 where
  as_walked : (t : Tried (Option Left)) → Walks t t
  as_refused : (r q : Refusal) → Walks (Stopped r) (Stopped q)
  as_null : (r : Refusal) → Walks (Stopped r) (Made None)

-- where the first one is made, the other one is the same
data Alike {A : Type 0} : Tried A → Tried A → Type 0 where
  alike : (t : Tried A) → Alike t t
  refuses : (r : Refusal) (t : Tried A) → Alike (Stopped r) t

of_same : {A : Type 0} {x y : Tried A} → Same x y → Alike x y
of_same (same t) = alike t
of_same (stops r q) = refuses r (Stopped q)

made_of : {A : Type 0} {x y : Tried A} → Alike x y → (a : A) → x ≡ Made a → y ≡ Made a
made_of (alike t) a e = e
made_of (refuses r t) a e = absurd cc

mapped : {A B : Type 0} {x y : Tried A} → Same x y → (f : A → B) → Same (made_map f x) (made_map f y)
mapped (same t) f = same (made_map f t)
mapped (stops r q) f = stops r q

onward : {A B : Type 0} {x y : Tried A} → Same x y → (f g : A → Tried B) → ((a : A) → Same (f a) (g a)) → Same (and_made x f) (and_made y g)
onward (same (Made a)) f g h = h a
onward (same (Stopped r)) f g h = same (Stopped r)
onward (stops r q) f g h = stops r q

-- where null is refused
surely : {A : Type 0} {x y : Tried (Option Left)} → Walks x y → (p : Place) (f g : Left → Tried A) → ((l : Left) → Same (f l) (g l)) → Same (and_made x (λ o. sure p o f)) (and_made y (λ o. sure p o g))
surely (as_walked (Made None)) p f g h = same (Stopped (refused reason.EmptyPointer p))
surely (as_walked (Made (Some l))) p f g h = h l
surely (as_walked (Stopped r)) p f g h = same (Stopped r)
surely (as_refused r q) p f g h = stops r q
surely (as_null r) p f g h = stops r (refused reason.EmptyPointer p)

-- behind null stands null
on : {x y : Tried (Option Left)} → Walks x y → (f g : Left → Tried (Option Left)) → ((l : Left) → Walks (f l) (g l)) → Walks (and_made x (λ o. behind o f)) (and_made y (λ o. behind o g))
on (as_walked (Made None)) f g h = as_walked (Made None)
on (as_walked (Made (Some l))) f g h = h l
on (as_walked (Stopped r)) f g h = as_walked (Stopped r)
on (as_refused r q) f g h = as_refused r q
on (as_null r) f g h = as_null r

-- of a pointer that is followed
past : (soft : Bool) (p : Place) {x y : Tried (Option Left)} → Walks x y → Walks (and_made x (λ u. or_null soft p u (λ m. Made (Some (placed p m))))) (and_made y (λ u. or_null soft p u (λ m. Made (Some (placed p m)))))
past soft p (as_walked t) = as_walked (and_made t (λ u. or_null soft p u (λ m. Made (Some (placed p m)))))
past soft p (as_refused r q) = as_refused r q
past true p (as_null r) = as_null r
past false p (as_null r) = as_refused r (refused reason.EmptyPointer p)

walks_map : {x y : Tried Term} → Same x y → (f : Term → Left) → Walks (made_map (λ x. Some (f x)) x) (made_map (λ x. Some (f x)) y)
walks_map (same t) f = as_walked (made_map (λ x. Some (f x)) t)
walks_map (stops r q) f = as_refused r q

then_on : {A : Type 0} {x y : Tried (Option Left)} → Walks x y → (f g : Option Left → Tried A) → ((o : Option Left) → Alike (f o) (g o)) → Alike (and_made x f) (and_made y g)
then_on (as_walked (Made o)) f g h = h o
then_on (as_walked (Stopped r)) f g h = alike (Stopped r)
then_on (as_refused r q) f g h = refuses r (Stopped q)
then_on (as_null r) f g h = refuses r (g None)

and_then : {A B : Type 0} {x y : Tried A} → Alike x y → (f g : A → Tried B) → ((a : A) → Alike (f a) (g a)) → Alike (and_made x f) (and_made y g)
and_then (alike (Made a)) f g h = h a
and_then (alike (Stopped r)) f g h = alike (Stopped r)
and_then (refuses r t) f g h = refuses r (and_made t g)

and_map : {A B : Type 0} {x y : Tried A} → Alike x y → (f : A → B) → Alike (made_map f x) (made_map f y)
and_map (alike t) f = alike (made_map f t)
and_map (refuses r t) f = refuses r (made_map f t)

and_sure : {A : Type 0} (p : Place) (o : Option Left) (f g : Left → Tried A) → ((l : Left) → Alike (f l) (g l)) → Alike (sure p o f) (sure p o g)
and_sure p None f g h = alike (Stopped (refused reason.EmptyPointer p))
and_sure p (Some l) f g h = h l

or_same_is : {x y : Tried Term} → Same x y → (e : Term) → or_same e x ≡ or_same e y
or_same_is (same t) e = refl
or_same_is (stops r q) e = refl

-- a pointer that is followed, in two steps
regroup : (soft : Bool) (p : Place) (t : Tried (Option Left)) (f : Left → Tried (Option Left)) → and_made t (λ o. and_made (behind o f) (λ u. or_null soft p u (λ m. Made (Some (placed p m))))) ≡ and_made (and_made t (λ o. behind o f)) (λ u. or_null soft p u (λ m. Made (Some (placed p m))))
regroup soft p (Made o) f = refl
regroup soft p (Stopped r) f = refl

module _ (s : Leads) where
  abbrev s2 : Leads
  s2 = filled s

  leads-alike : (p : Place) (n : ℕ) → Walks (leads_to s p n) (leads_to s2 p n)
  leads-alike p n = by (s.local n) (is_local_name (slice_get s.cells n)) refl
    where
      by : (o : Option (Option Left)) (b : Bool) → is_local_name (slice_get s.cells n) ≡ b → Walks (led_by s p n o) (led_by s2 p n (led_before b o))
      by (Some t) b e = as_walked (Made (option_map (placed p) t))
      by None true e = subst (λ b. Walks (if b then Stopped (refused reason.EmptyPointer p) else Made (left_by p (sort_at s.cells n))) (Made None)) (sym e) (as_null (refused reason.EmptyPointer p))
      by None false e = as_walked (led_by s p n None)

  there-alike : (p : Place) (o : Option ℕ) → Walks (pointer_there s p o) (pointer_there s2 p o)
  there-alike p None = as_walked (Made None)
  there-alike p (Some n) = leads-alike p n

  pointed-alike : (l : Left) → Walks (pointed s l) (pointed s2 l)
  pointed-alike l = by (unwrap_or (option_map is_open (pattern s.cells l)) false)
    where
      by : (b : Bool) → Walks (if b then Stopped (refused reason.StaticIndex (place_at l)) else pointer_there s (place_at l) (option_and_then (λ q. cell_at true 0 q s.cells) (pattern s.cells l)))
          (if b then Stopped (refused reason.StaticIndex (place_at l)) else pointer_there s2 (place_at l) (option_and_then (λ q. cell_at true 0 q s.cells) (pattern s.cells l)))
      by true = as_walked (Stopped (refused reason.StaticIndex (place_at l)))
      by false = there-alike (place_at l) (option_and_then (λ q. cell_at true 0 q s.cells) (pattern s.cells l))

  bit-alike : (o : Place) (e j : Term) → Same (resolved s e) (resolved s2 e) → Same (resolved s j) (resolved s2 j)
      → Same (and_made (resolved s e) (λ x. made_map (Bit o x) (resolved s j))) (and_made (resolved s2 e) (λ x. made_map (Bit o x) (resolved s2 j)))
  bit-alike o e j h g = onward h (λ x. made_map (Bit o x) (resolved s j)) (λ x. made_map (Bit o x) (resolved s2 j)) (λ x. mapped g (Bit o x))

  mutual
    term-alike : (e : Term) → Same (resolved s e) (resolved s2 e)
    term-alike (Literal o k x) = same (Made (Literal o k x))
    term-alike (Load o k l) = surely (walk-alike false l) (place_at l) (λ m. made_map (Load o k) (looked s m)) (λ m. made_map (Load o k) (looked s m)) (λ m. same (made_map (Load o k) (looked s m)))
    term-alike (Read o k l) = surely (walk-alike false l) (place_at l) (λ m. made_map (Read o k) (looked s m)) (λ m. made_map (Read o k) (looked s m)) (λ m. same (made_map (Read o k) (looked s m)))
    term-alike (Convert o k e) = mapped (term-alike e) (Convert o k)
    term-alike (Unary o k x e) = mapped (term-alike e) (Unary o k x)
    term-alike (Binary o k x e f) = onward (term-alike e) (λ y. made_map (Binary o k x y) (resolved s f)) (λ y. made_map (Binary o k x y) (resolved s2 f)) (λ y. mapped (term-alike f) (Binary o k x y))
    term-alike (Choose o k t e f) = onward (term-alike t) (λ n. and_made (resolved s e) (λ x. made_map (Choose o k n x) (resolved s f))) (λ n. and_made (resolved s2 e) (λ x. made_map (Choose o k n x) (resolved s2 f)))
        (λ n. onward (term-alike e) (λ x. made_map (Choose o k n x) (resolved s f)) (λ x. made_map (Choose o k n x) (resolved s2 f)) (λ x. mapped (term-alike f) (Choose o k n x)))
    term-alike (Bit o (Load r k l) j) =
        surely (walk-alike false l) (place_at l) (λ m. and_made (resolved s j) (λ i. made_map (λ n. Bit o (Load r k n) i) (looked s m))) (λ m. and_made (resolved s2 j) (λ i. made_map (λ n. Bit o (Load r k n) i) (looked s m)))
        (λ m. onward (term-alike j) (λ i. made_map (λ n. Bit o (Load r k n) i) (looked s m)) (λ i. made_map (λ n. Bit o (Load r k n) i) (looked s m)) (λ i. same (made_map (λ n. Bit o (Load r k n) i) (looked s m))))
    term-alike (Bit o (Literal r k x) j) = bit-alike o (Literal r k x) j (term-alike (Literal r k x)) (term-alike j)
    term-alike (Bit o (Read r k l) j) = bit-alike o (Read r k l) j (term-alike (Read r k l)) (term-alike j)
    term-alike (Bit o (Convert r k e) j) = bit-alike o (Convert r k e) j (term-alike (Convert r k e)) (term-alike j)
    term-alike (Bit o (Unary r k x e) j) = bit-alike o (Unary r k x e) j (term-alike (Unary r k x e)) (term-alike j)
    term-alike (Bit o (Binary r k x e f) j) = bit-alike o (Binary r k x e f) j (term-alike (Binary r k x e f)) (term-alike j)
    term-alike (Bit o (Choose r k t e f) j) = bit-alike o (Choose r k t e f) j (term-alike (Choose r k t e f)) (term-alike j)
    term-alike (Bit o (Bit r e f) j) = bit-alike o (Bit r e f) j (term-alike (Bit r e f)) (term-alike j)
    term-alike (Bit o (Range r k e hi lo) j) = bit-alike o (Range r k e hi lo) j (term-alike (Range r k e hi lo)) (term-alike j)
    term-alike (Bit o (Join r k e f) j) = bit-alike o (Join r k e f) j (term-alike (Join r k e f)) (term-alike j)
    term-alike (Range o k e hi lo) = mapped (term-alike e) (λ x. Range o k x hi lo)
    term-alike (Join o k e f) = onward (term-alike e) (λ y. made_map (Join o k y) (resolved s f)) (λ y. made_map (Join o k y) (resolved s2 f)) (λ y. mapped (term-alike f) (Join o k y))

    walk-alike : (soft : Bool) (l : Left) → Walks (walked s soft l) (walked s2 soft l)
    walk-alike soft (Cell r n) = as_walked (Made (Some (Cell r n)))
    walk-alike soft (Prefix r n) = as_walked (Made (Some (Prefix r n)))
    walk-alike soft (Null r) = as_walked (Made None)
    walk-alike soft (Follow r t l) =
        subst (λ z. Walks z (walked s2 soft (Follow r t l))) (sym (regroup soft r (walked s (soft || t) l) (pointed s)))
        (subst (Walks _) (sym (regroup soft r (walked s2 (soft || t) l) (pointed s2)))
        (past soft r (on (walk-alike (soft || t) l) (pointed s) (pointed s2) pointed-alike)))
    walk-alike soft (Member l n) =
        let f : Left → Tried (Option Left) = λ m. Made (Some (member_of s.cells s.vectors (as_name s.cells s.vectors m) n)) in
        on (walk-alike soft l) f f (λ m. as_walked (f m))
    walk-alike soft (Index l size e) =
        let f : Leads → Left → Tried (Option Left) = λ z m. made_map (λ x. Some (element_of s.cells s.vectors (as_name s.cells s.vectors m) size x)) (resolved z e) in
        on (walk-alike soft l) (f s) (f s2) (λ m. walks_map (term-alike e) (λ x. element_of s.cells s.vectors (as_name s.cells s.vectors m) size x))

  pick-alike : (k : Pick) → Same (resolved_pick s k) (resolved_pick s2 k)
  pick-alike Whole = same (Made Whole)
  pick-alike (OneBit e) = mapped (term-alike e) OneBit
  pick-alike (Bits h l) = same (Made (Bits h l))

  left-alike : (l : Left) (k : Pick) (f g : Left → Pick → Tried Code) → ((l : Left) (k : Pick) → Alike (f l k) (g l k)) → Alike (resolved_left s l k f) (resolved_left s2 l k g)
  left-alike l k f g h =
      then_on (walk-alike false l) (λ o. sure (place_at l) o (λ m. and_made (resolved_pick s k) (λ k. and_made (looked s m) (λ m. f m k)))) (λ o. sure (place_at l) o (λ m. and_made (resolved_pick s2 k) (λ k. and_made (looked s m) (λ m. g m k))))
      (λ o. and_sure (place_at l) o (λ m. and_made (resolved_pick s k) (λ k. and_made (looked s m) (λ m. f m k))) (λ m. and_made (resolved_pick s2 k) (λ k. and_made (looked s m) (λ m. g m k)))
      (λ m. and_then (of_same (pick-alike k)) (λ k. and_made (looked s m) (λ m. f m k)) (λ k. and_made (looked s m) (λ m. g m k)) (λ k. and_then (alike (looked s m)) (λ m. f m k) (λ m. g m k) (λ m. h m k))))

  aimed-alike : (l : Left) → Walks (aimed s l) (aimed s2 l)
  aimed-alike l =
      let f : Left → Tried (Option Left) = λ m. if unwrap_or (option_map chooses_object (pattern s.cells m)) false then Stopped (refused reason.StaticIndex (place_at m))
      else (if unwrap_or (option_map is_open (pattern s.cells m)) true then Stopped (refused reason.StaticIndex (place_at l)) else Made (Some m)) in
      on (walk-alike true l) f f (λ m. as_walked (f m))

  pub counts-same : (c : Option Count) → option_map (resolved_count s) c ≡ option_map (resolved_count s2) c
  counts-same None = refl
  counts-same (Some c) = λ i. Some (record { cell = c.cell; start = or_same_is (term-alike c.start) c.start i; compare = c.compare; bound = or_same_is (term-alike c.bound) c.bound i; step_op = c.step_op; step = or_same_is (term-alike c.step) c.step i })

body-alike : (s : Leads) (c : Code) → Alike (unpointed s c) (freed s c)
body-alike s End = alike (Made End)
body-alike s (Put p l k e r) =
    left-alike s l k (λ l k. and_made (resolved s e) (λ e. made_map (Put p l k e) (unpointed s r))) (λ l k. and_made (resolved (filled s) e) (λ e. made_map (Put p l k e) (freed s r)))
    (λ l k. and_then (of_same (term-alike s e)) (λ e. made_map (Put p l k e) (unpointed s r)) (λ e. made_map (Put p l k e) (freed s r)) (λ e. and_map (body-alike s r) (Put p l k e)))
body-alike s (Aim p (Declared n) t r) =
    then_on (aimed-alike s t) (λ o. if declares s n then made_map (Block p End) (unpointed (leading s n o) r) else Stopped (refused reason.PointerAssigned p)) (λ o. if declares s n then made_map (Block p End) (freed (leading s n o) r) else Stopped (refused reason.PointerAssigned p))
    (λ o. by o (declares s n) (body-alike (leading s n o) r))
  where
    by : (o : Option Left) (b : Bool) → Alike (unpointed (leading s n o) r) (freed (leading s n o) r)
        → Alike (if b then made_map (Block p End) (unpointed (leading s n o) r) else Stopped (refused reason.PointerAssigned p)) (if b then made_map (Block p End) (freed (leading s n o) r) else Stopped (refused reason.PointerAssigned p))
    by o true h = and_map h (Block p End)
    by o false h = alike (Stopped (refused reason.PointerAssigned p))
body-alike s (Aim p (Assigned l) t r) = refuses (of_assigned p (walked s false l)) (Stopped (of_assigned p (walked (filled s) false l)))
body-alike s (If p t a b r) =
    and_then (of_same (term-alike s t)) (λ t. and_made (unpointed s a) (λ a. and_made (unpointed s b) (λ b. made_map (If p t a b) (unpointed s r)))) (λ t. and_made (freed s a) (λ a. and_made (freed s b) (λ b. made_map (If p t a b) (freed s r))))
    (λ t. and_then (body-alike s a) (λ a. and_made (unpointed s b) (λ b. made_map (If p t a b) (unpointed s r))) (λ a. and_made (freed s b) (λ b. made_map (If p t a b) (freed s r)))
    (λ a. and_then (body-alike s b) (λ b. made_map (If p t a b) (unpointed s r)) (λ b. made_map (If p t a b) (freed s r)) (λ b. and_map (body-alike s r) (If p t a b))))
body-alike s (Block p b r) = and_then (body-alike s b) (λ b. made_map (Block p b) (unpointed s r)) (λ b. made_map (Block p b) (freed s r)) (λ b. and_map (body-alike s r) (Block p b))
body-alike s (Loop p c b r) =
    subst (λ d. Alike (unpointed s (Loop p c b r)) (and_made (freed s b) (λ b. made_map (Loop p d b) (freed s r)))) (counts-same s c)
    (and_then (body-alike s b) (λ b. made_map (Loop p (option_map (resolved_count s) c) b) (unpointed s r)) (λ b. made_map (Loop p (option_map (resolved_count s) c) b) (freed s r)) (λ b. and_map (body-alike s r) (Loop p (option_map (resolved_count s) c) b)))
body-alike s (Exit p n r) = and_map (body-alike s r) (Exit p n)
body-alike s (Wait p l n r) = and_map (body-alike s r) (Wait p l n)

all-alike : (p : Program) (qs : List Process) → Alike (all_unpointed p qs) (all_freed p qs)
all-alike p [] = alike (Made [])
all-alike p (q ∷ qs) =
    and_then (body-alike (at_first p) q.body) (λ body. made_map (λ more. renamed_process (new_number p.cells) q body ∷ more) (all_unpointed p qs)) (λ body. made_map (λ more. renamed_process (new_number p.cells) q body ∷ more) (all_freed p qs))
    (λ body. and_map (all-alike p qs) (λ more. renamed_process (new_number p.cells) q body ∷ more))

pub body_freed : (s : Leads) (c d : Code) → unpointed s c ≡ Made d → freed s c ≡ Made d
body_freed s c d e = made_of (body-alike s c) d e

pub program_freed : (p m : Program) → resolved_program p ≡ Made m → freed_program p ≡ Made m
program_freed p m e = made_of (and_map (all-alike p p.processes) (λ processes. record { top = p.top; cells = filter is_kept_cell p.cells; vectors = p.vectors; processes = processes })) m e
