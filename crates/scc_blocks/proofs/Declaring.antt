-- Variables that stand behind others, and the numbers that they have.
use Rattle.std.proofs.Common.{◌≡◌, refl, arith, ℕ, zero, suc, ◌+◌, ◌*◌, ◌<◌, ◌≤◌, ◌⊎◌, inl, inr, ap, sym, ◌∙◌, subst, nat_eq, Bool, true, false, List, [], ◌∷◌, ◌++◌, take, add-one, get_or, length, slice_get, Option, Some, None, Result, Ok, Err, unwrap_or, codes}
use Rattle.std.specs.Prelude.{slice_set, flat_map, max, IfOk, OnOk}
use Rattle.std.proofs.Math.Nat.{le-max_left, le-max_right}
use Rattle.std.proofs.lemmas.Bool.{eqb-true, eq-eqb}
use Rattle.std.proofs.lemmas.List.{append_assoc, append-nil, take_all}
use Rattle.std.proofs.lemmas.Option.{slice_get_read}
use Rattle.scc_core.specs.declared.program.Cell.{Cell}
use Rattle.scc_svtree.specs.declared.module.SvVar.{SvVar}
use Rattle.scc_svtree.specs.declared.module.Dir.{Dir}
use Rattle.scc_svtree.specs.declared.module.Dir.TheVariants as dir
use Rattle.scc_core.specs.declared.program.CoreProcess.{CoreProcess}
use Rattle.scc_blocks.specs.declared.declare.Declared.{Declared}
use Rattle.scc_blocks.specs.declared.declare.Pair.{Pair}
use Rattle.scc_blocks.specs.Declaring.{Adds, AddsAt, AddsInner, AreInner, AreNumbered, IsDeclared, StayDeclared, Stands, Want, now_of, next_of, port_of, ports_of, next_variable_of, port_by, direction_of, variable_of, AddsAny, AddsCell, AddsPort, AreBefore, AreTemporaries, AreUndeclared, HasIf, IsBefore, IsPair, IsTemporary, local_at, temporary_name, undeclared, want, want_of, wants_of}

some_same : {A : Type 0} (a b : A) → Some a ≡ Some b → a ≡ b
some_same a b e = ap (λ o. unwrap_or o a) e

set_here : {A : Type 0} (xs : List A) (k : ℕ) (x y : A) → slice_get (slice_set xs k x) k ≡ Some y → x ≡ y
set_here [] k x y h = absurd cc
set_here (z ∷ xs) zero x y h = some_same x y h
set_here (z ∷ xs) (suc k) x y h = set_here xs k x y h

set_there : {A : Type 0} (xs : List A) (k n : ℕ) (x : A) → (n ≡ k → ⊥) → slice_get (slice_set xs k x) n ≡ slice_get xs n
set_there [] k n x h = refl
set_there (z ∷ xs) zero zero x h = absurd (h refl)
set_there (z ∷ xs) zero (suc n) x h = refl
set_there (z ∷ xs) (suc k) zero x h = refl
set_there (z ∷ xs) (suc k) (suc n) x h = set_there xs k n x (λ e. h (ap (λ m. suc m) e))

stays : {A : Type 0} (xs : List A) (k : ℕ) (x y : A) → slice_get xs k ≡ Some y → slice_get (slice_set xs k x) k ≡ Some x
stays [] k x y h = absurd cc
stays (z ∷ xs) zero x y h = refl
stays (z ∷ xs) (suc k) x y h = stays xs k x y h

in_front : {A : Type 0} (xs ys : List A) (k : ℕ) (x : A) → slice_get xs k ≡ Some x → slice_get (xs ++ ys) k ≡ Some x
in_front [] ys k x h = absurd cc
in_front (z ∷ xs) ys zero x h = h
in_front (z ∷ xs) ys (suc k) x h = in_front xs ys k x h

at_end : {A : Type 0} (xs : List A) (x : A) → slice_get (xs ++ x ∷ []) (length xs) ≡ Some x
at_end [] x = refl
at_end (z ∷ xs) x = at_end xs x

pub stands_more : (vars vs : List SvVar) (w : Want) (n : ℕ) → Stands vars w n → Stands (vars ++ vs) w n
stands_more vars vs w n s = (s.0, in_front vars vs n s.0 s.1, s.2)

numbered_one : (ws : List Want) (vars : List SvVar) (numbers : List ℕ) (at : ℕ) (v : SvVar) → slice_get ws at ≡ Some (want_of v) → AreNumbered ws vars numbers
    → AreNumbered ws (vars ++ v ∷ []) (slice_set numbers at (length vars))
numbered_one ws vars numbers at v w h k n g d = go (nat_eq k at) refl
  where
    go : (b : Bool) → nat_eq k at ≡ b → (w : Want) × (slice_get ws k ≡ Some w) × Stands (vars ++ v ∷ []) w n
    go true e =
        let same : k ≡ at = eqb-true k at e in
        let number : length vars ≡ n = set_here numbers at (length vars) n (subst (λ m. slice_get (slice_set numbers at (length vars)) m ≡ Some n) same g) in
        (want_of v, ap (slice_get ws) same ∙ w, (v, subst (λ m. slice_get (vars ++ v ∷ []) m ≡ Some v) number (at_end vars v), refl))
    go false e =
        let differ : k ≡ at → ⊥ = λ s. (let t : nat_eq k at ≡ true = subst (λ m. nat_eq k m ≡ true) s (eq-eqb k k refl) in absurd cc) in
        let old = h k n (sym (set_there numbers at k (length vars) differ) ∙ g) d in
        (old.0, old.1, stands_more vars (v ∷ []) old.0 n old.2)

stay_one : (numbers : List ℕ) (at id : ℕ) → IsDeclared id → StayDeclared numbers (slice_set numbers at id)
stay_one numbers at id is k n g d = go (nat_eq k at) refl
  where
    go : (b : Bool) → nat_eq k at ≡ b → (m : ℕ) × (slice_get (slice_set numbers at id) k ≡ Some m) × IsDeclared m
    go true e =
        let same : k ≡ at = eqb-true k at e in
        (id, subst (λ m. slice_get (slice_set numbers m id) k ≡ Some id) same (stays numbers k id n g), is)
    go false e = (n, set_there numbers at k id (λ s. (let t : nat_eq k at ≡ true = subst (λ m. nat_eq k m ≡ true) s (eq-eqb k k refl) in absurd cc)) ∙ g, d)

pub adds_one : (at id : ℕ) (v : SvVar) (old new : Declared) → IsDeclared id → id ≡ length old.vars → new.vars ≡ old.vars ++ v ∷ [] → new.cells.items ≡ slice_set old.cells.items at id → AddsAt at v old new
adds_one at id v old new is number vars cells ws w = record {
  grown = vars;
  numbered = λ h. subst (λ ns. AreNumbered ws new.vars ns) (sym (cells ∙ ap (slice_set old.cells.items at) number)) (subst (λ vs. AreNumbered ws vs (slice_set old.cells.items at (length old.vars))) (sym vars) (numbered_one ws old.vars old.cells.items at v w h));
  stay = subst (StayDeclared old.cells.items) (sym cells) (stay_one old.cells.items at id is);
}

pub adds_none : (ws : List Want) (d : Declared) → Adds ws [] d d
adds_none ws d = record { grown = sym (append-nil d.vars); numbered = λ h. h; stay = λ k n g i. (n, g, i) }

pub adds_then : (ws : List Want) (vs us : List SvVar) (a b c : Declared) → Adds ws vs a b → Adds ws us b c → Adds ws (vs ++ us) a c
adds_then ws vs us a b c f g = record {
  grown = g.grown ∙ ap (λ vars. vars ++ us) f.grown ∙ append_assoc a.vars vs us;
  numbered = λ h. g.numbered (f.numbered h);
  stay = λ k n at is. (let m = f.stay k n at is in g.stay k m.0 m.1 m.2);
}

inner_both : (vs us : List SvVar) → AreInner vs → AreInner us → AreInner (vs ++ us)
inner_both [] us a b = b
inner_both (v ∷ vs) us a b = (a.0, inner_both vs us a.1 b)

pub inner_none : (ws : List Want) (d : Declared) → AddsInner ws d d
inner_none ws d = ([], tt, adds_none ws d)

pub inner_then : (ws : List Want) (a b c : Declared) → AddsInner ws a b → AddsInner ws b c → AddsInner ws a c
inner_then ws a b c f g = (f.0 ++ g.0, inner_both f.0 g.0 f.1 g.1, adds_then ws f.0 g.0 a b c f.2 g.2)

pub want_now : (names : List (List ℕ)) (cs : List Cell) (at : ℕ) (c : Cell) → slice_get cs at ≡ Some c → slice_get (wants_of names cs) (2 * at) ≡ Some (now_of names c)
want_now names [] at c h = absurd cc
want_now names (d ∷ cs) zero c h = ap (λ x. Some (now_of names x)) (some_same d c h)
want_now names (d ∷ cs) (suc at) c h = let e : 2 * suc at ≡ suc (suc (2 * at)) = omega arith in rw e (want_now names cs at c h)

pub want_next : (names : List (List ℕ)) (cs : List Cell) (at : ℕ) (c : Cell) → slice_get cs at ≡ Some c → slice_get (wants_of names cs) (2 * at + 1) ≡ Some (next_of names c)
want_next names [] at c h = absurd cc
want_next names (d ∷ cs) zero c h = ap (λ x. Some (next_of names x)) (some_same d c h)
want_next names (d ∷ cs) (suc at) c h = let e : 2 * suc at + 1 ≡ suc (suc (2 * at + 1)) = omega arith in rw e (want_next names cs at c h)

flat_step : {A B : Type 0} (f : A → List B) (xs : List A) (i : ℕ) (x : A) → i < length xs → x ≡ get_or xs i x → flat_map f (take (suc i) xs) ≡ flat_map f (take i xs) ++ f x
flat_step f [] i x h is = absurd (omega arith)
flat_step f (y ∷ xs) zero x h is = append-nil (f y) ∙ ap f (sym is)
flat_step f (y ∷ xs) (suc i) x h is = ap (λ ys. f y ++ ys) (flat_step f xs i x (omega arith) is) ∙ sym (append_assoc (f y) (flat_map f (take i xs)) (f x))

pub ports_begin : (ws : List Want) (names : List (List ℕ)) (cs : List Cell) (d : Declared) → Adds ws (ports_of names (take 0 cs)) d d
ports_begin ws names cs d = adds_none ws d

pub ports_next : (names : List (List ℕ)) (cs : List Cell) (i at : ℕ) (c : Cell) (a b d : Declared) → at ≡ i → i < length cs → c ≡ get_or cs i c → Adds (wants_of names cs) (ports_of names (take i cs)) a b
    → ((xs : List Cell) → slice_get xs at ≡ Some c → Adds (wants_of names xs) (port_of names c) b d) → Adds (wants_of names cs) (ports_of names (take (i + 1) cs)) a d
ports_next names cs i at c a b d same h is f g =
    subst (λ vs. Adds (wants_of names cs) vs a d) (sym (ap (λ n. ports_of names (take n cs)) (add-one i) ∙ flat_step (port_of names) cs i c h is))
    (adds_then (wants_of names cs) (ports_of names (take i cs)) (port_of names c) a b d f (g cs (ap (slice_get cs) same ∙ slice_get_read cs (length cs) i c refl h is)))

pub ports_end : (ws : List Want) (names : List (List ℕ)) (cs : List Cell) (i : ℕ) (a b : Declared) → length cs ≡ i → Adds ws (ports_of names (take i cs)) a b → Adds ws (ports_of names cs) a b
ports_end ws names cs i a b e f = subst (λ xs. Adds ws (ports_of names xs) a b) (take_all i cs (omega arith)) f

pub port_is : (names : List (List ℕ)) (c : Cell) (d : Dir) (at : ℕ) (v : SvVar) (old new : Declared) → direction_of c.sort ≡ Some d → v ≡ variable_of names c d → AddsAt (2 * at) v old new → AddsPort names c at old new
port_is names c d at v old new is same f cs h = subst (λ vs. Adds (wants_of names cs) vs old new) (ap (λ x. x ∷ []) same ∙ ap (port_by names c) (sym is)) (f (wants_of names cs) (want_now names cs at c h ∙ ap (λ x. Some (want_of x)) (sym same)))

pub port_not : (names : List (List ℕ)) (c : Cell) (at : ℕ) (old : Declared) → direction_of c.sort ≡ None → AddsPort names c at old old
port_not names c at old is cs h = subst (λ vs. Adds (wants_of names cs) vs old old) (ap (port_by names c) (sym is)) (adds_none (wants_of names cs) old)

pub cell_now : (names : List (List ℕ)) (c : Cell) (at : ℕ) (v : SvVar) (old new : Declared) → v ≡ variable_of names c dir.Inner → AddsAt (2 * at) v old new → AddsCell names c at old new
cell_now names c at v old new same f cs h = (v ∷ [], (ap (λ x. x.dir) same, tt), f (wants_of names cs) (want_now names cs at c h ∙ ap (λ x. Some (want_of x)) (sym same)))

pub cell_next : (names : List (List ℕ)) (c : Cell) (at : ℕ) (v : SvVar) (old new : Declared) → v ≡ next_variable_of names c → AddsAt (2 * at + 1) v old new → AddsCell names c at old new
cell_next names c at v old new same f cs h = (v ∷ [], (ap (λ x. x.dir) same, tt), f (wants_of names cs) (want_next names cs at c h ∙ ap (λ x. Some (want_of x)) (sym same)))

-- a variable behind the others that has no number of a cell
pub any_one : (id : ℕ) (v : SvVar) (old new : Declared) → v.dir ≡ dir.Inner → new.vars ≡ old.vars ++ v ∷ [] → new.cells.items ≡ old.cells.items → AddsAny old new
any_one id v old new way vars cells ws = (
  v ∷ [],
  (way, tt),
  record {
    grown = vars;
    numbered = λ h k n g is. (let o = h k n (ap (λ ns. slice_get ns k) (sym cells) ∙ g) is in (o.0, o.1, subst (λ vs. Stands vs o.0 n) (sym vars) (stands_more old.vars (v ∷ []) o.0 n o.2)));
    stay = λ k n g is. (n, ap (λ ns. slice_get ns k) cells ∙ g, is);
  },
)

pub has_one : (id : ℕ) (v : SvVar) (old vars : List SvVar) → IsDeclared id → id ≡ length old → vars ≡ old ++ v ∷ [] → HasIf true vars (want_of v) id
has_one id v old vars is number grown = (is, (v, subst (λ n. slice_get vars n ≡ Some v) (sym number) (subst (λ vs. slice_get vs (length old) ≡ Some v) (sym grown) (at_end old v)), refl))

pub any_then : (a b c : Declared) → AddsAny a b → AddsAny b c → AddsAny a c
any_then a b c f g ws = inner_then ws a b c (f ws) (g ws)

pub has_more : (b : Bool) (old new : Declared) (w : Want) (n : ℕ) → AddsAny old new → HasIf b old.vars w n → HasIf b new.vars w n
has_more true old new w n f h = (let g = f [] in (h.0, subst (λ vs. Stands vs w n) (sym g.2.grown) (stands_more old.vars g.0 w n h.1)))
has_more false old new w n f h = h

pub pair_more : (old new : Declared) (name : List ℕ) (width : ℕ) (p : Pair) → AddsAny old new → IsPair old.vars name width p → IsPair new.vars name width p
pair_more old new name zero p f h = h
pair_more old new name (suc w) p f h = (has_more true old new (want name (suc w)) p.now f h.0, has_more true old new (want (name ++ codes "$$n") (suc w)) p.next f h.1)

pub pair_of : (vars : List SvVar) (name : List ℕ) (width : ℕ) (p : Pair) → (width ≡ 0 → ⊥) → HasIf true vars (want name width) p.now → HasIf true vars (want (name ++ codes "$$n") width) p.next → IsPair vars name width p
pair_of vars name zero p h a b = absurd (h refl)
pair_of vars name (suc w) p h a b = (a, b)

pub temporaries_more : (names : List (List ℕ)) (q : CoreProcess) (first : ℕ) (widths : List ℕ) (assigned : List Bool) (old new : Declared) (ids : List ℕ) → AddsAny old new
    → AreTemporaries names q first widths assigned old.vars ids → AreTemporaries names q first widths assigned new.vars ids
temporaries_more names q first widths assigned old new ids f h i n g = (let o = h i n g in (o.0, o.1, o.2, o.3, has_more o.1 old new _ n f o.4))

more_or_end : {A : Type 0} (xs : List A) (x y : A) (i : ℕ) → slice_get (xs ++ x ∷ []) i ≡ Some y → (slice_get xs i ≡ Some y) ⊎ ((i ≡ length xs) × (x ≡ y))
more_or_end [] x y zero h = inr (refl, some_same x y h)
more_or_end [] x y (suc i) h = absurd cc
more_or_end (z ∷ xs) x y zero h = inl h
more_or_end (z ∷ xs) x y (suc i) h = by (more_or_end xs x y i h)
  where
    by : (slice_get xs i ≡ Some y) ⊎ ((i ≡ length xs) × (x ≡ y)) → (slice_get xs i ≡ Some y) ⊎ ((suc i ≡ suc (length xs)) × (x ≡ y))
    by (inl a) = inl a
    by (inr b) = inr (ap (λ n. suc n) b.0, b.1)

pub temporaries_next : (names : List (List ℕ)) (q : CoreProcess) (first : ℕ) (widths : List ℕ) (assigned : List Bool) (old new : Declared) (ids : List ℕ) (id number w : ℕ) (b : Bool) → AddsAny old new
    → AreTemporaries names q first widths assigned old.vars ids → number ≡ first + length ids → slice_get widths (length ids) ≡ Some w → slice_get assigned (length ids) ≡ Some b
    → HasIf b new.vars (want (temporary_name names q number) w) id → AreTemporaries names q first widths assigned new.vars (ids ++ id ∷ [])
temporaries_next names q first widths assigned old new ids id number w b f h same width is has i n g = by (more_or_end ids id n i g)
  where
    by : (slice_get ids i ≡ Some n) ⊎ ((i ≡ length ids) × (id ≡ n)) → IsTemporary names q first widths assigned new.vars i n
    by (inl a) = temporaries_more names q first widths assigned old new ids f h i n a
    by (inr e) = (
      w,
      b,
      ap (slice_get widths) e.0 ∙ width,
      ap (slice_get assigned) e.0 ∙ is,
      subst (HasIf b new.vars (want (temporary_name names q (first + i)) w)) e.1
          (subst (λ k. HasIf b new.vars (want (temporary_name names q k) w) id) (same ∙ ap (λ k. first + k) (sym e.0)) has),
    )

pub undeclared_more : (numbers : List ℕ) → AreUndeclared numbers → AreUndeclared (numbers ++ undeclared ∷ [])
undeclared_more numbers h k n g = by (more_or_end numbers undeclared n k g)
  where
    by : (slice_get numbers k ≡ Some n) ⊎ ((k ≡ length numbers) × (undeclared ≡ n)) → n ≡ undeclared
    by (inl a) = h k n a
    by (inr e) = sym e.1

before_less : (n m : ℕ) (o : Option ℕ) → n ≤ m → IsBefore n o → IsBefore m o
before_less n m (Some k) less h = omega arith
before_less n m None less h = h

before_take : (cs : List Cell) (locals : List ℕ) (i n m at : ℕ) → i < length locals → at ≡ get_or locals i 0 → n ≤ m → IsBefore m (local_at cs at) → AreBefore cs (take i locals) n → AreBefore cs (take (suc i) locals) m
before_take cs [] i n m at h is less b f j y g = absurd (omega arith)
before_take cs (x ∷ xs) zero n m at h is less b f zero y g = subst (λ z. IsBefore m (local_at cs z)) (is ∙ some_same x y g) b
before_take cs (x ∷ xs) zero n m at h is less b f (suc j) y g = absurd cc
before_take cs (x ∷ xs) (suc i) n m at h is less b f zero y g = before_less n m (local_at cs y) less (f zero y g)
before_take cs (x ∷ xs) (suc i) n m at h is less b f (suc j) y g = before_take cs xs i n m at (omega arith) is less b (λ k z e. f (suc k) z e) j y g

pub before_next : (cs : List Cell) (locals : List ℕ) (i n m at number behind : ℕ) → i < length locals → at ≡ get_or locals i 0 → behind ≡ number + 1 → m ≡ max behind n → local_at cs at ≡ Some number → AreBefore cs (take i locals) n → AreBefore cs (take (i + 1) locals) m
before_next cs locals i n m at number behind h is next most l f =
    let a : behind ≤ max behind n = le-max_left behind n in
    let b : n ≤ max behind n = le-max_right behind n in
    let less : n ≤ m = omega arith in
    let under : number < m = omega arith in
    subst (λ k. AreBefore cs (take k locals) m) (sym (add-one i)) (before_take cs locals i n m at h is less (subst (IsBefore m) (sym l) under) f)

length_more : {A : Type 0} (xs : List A) (x : A) → length (xs ++ x ∷ []) ≡ length xs + 1
length_more [] x = refl
length_more (z ∷ xs) x = let e : suc (length xs) + 1 ≡ suc (length xs + 1) = omega arith in ap (λ n. suc n) (length_more xs x) ∙ sym e

pub longer : (ids new : List ℕ) (id i : ℕ) → new ≡ ids ++ id ∷ [] → length ids ≡ i → length new ≡ i + 1
longer ids new id i e h = ap length e ∙ length_more ids id ∙ ap (λ n. n + 1) h

pub number_next : (n m first : ℕ) (ids new : List ℕ) (id : ℕ) → m ≡ n + 1 → n ≡ first + length ids → new ≡ ids ++ id ∷ [] → m ≡ first + length new
number_next n m first ids new id a b e = let l : length new ≡ length ids + 1 = ap length e ∙ length_more ids id in omega arith

pub on_any : {T E A : Type 0} (r : Result T E) → A → OnOk r A
on_any (Ok x) a = a
on_any (Err e) a = tt

pub if_both : {T E : Type 0} {P Q R : T → Type 0} (r : Result T E) → IfOk r P → IfOk r Q → ((x : T) → P x → Q x → R x) → IfOk r R
if_both (Ok x) p q f = f x p q
if_both (Err e) p q f = tt

pub inner_same : (ws : List Want) (a b c : Declared) → c.vars ≡ b.vars → c.cells.items ≡ b.cells.items → AddsInner ws a b → AddsInner ws a c
inner_same ws a b c vars cells f = (
  f.0,
  f.1,
  record {
    grown = vars ∙ f.2.grown;
    numbered = λ h. subst (λ ns. AreNumbered ws c.vars ns) (sym cells) (subst (λ vs. AreNumbered ws vs b.cells.items) (sym vars) (f.2.numbered h));
    stay = subst (StayDeclared a.cells.items) (sym cells) f.2.stay;
  },
)

pub before_none : (cs : List Cell) (locals : List ℕ) (n : ℕ) → AreBefore cs (take 0 locals) n
before_none cs locals n i at g = absurd cc

pub before_end : (cs : List Cell) (locals : List ℕ) (i n : ℕ) → length locals ≡ i → AreBefore cs (take i locals) n → AreBefore cs locals n
before_end cs locals i n e f = subst (λ xs. AreBefore cs xs n) (take_all i locals (omega arith)) f
