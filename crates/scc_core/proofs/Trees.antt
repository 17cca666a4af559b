-- A table of names as a tree: steps lead to one front part alone, and one more branch leads nowhere else.
use Rattle.std.proofs.Common.{add-one, take, get_or, min, ◌≡◌, ◌⊎◌, inl, inr, refl, sym, ap, subst, ◌∙◌, arith, ℕ, zero, suc, ◌+◌, ◌<◌, ◌≤◌, Bool, true, false, not, ◌&&◌, nat_eq, List, [], ◌∷◌, ◌++◌, length, map, slice_get, Option, Some, None, option_map, option_and_then, cond, if◌then◌else◌, append_assoc}
use Rattle.std.specs.Map.{lookup}
use Rattle.indexmap.specs.IndexMap.{insert_entry}
use Rattle.std.proofs.lemmas.Bool.{eqb-true, eq-eqb}
use Rattle.std.proofs.Math.Seq.{take-suc}
use Rattle.std.proofs.lemmas.List.{length-take}
use Rattle.scc_base.specs.declared.names.Name.{Name}
use Rattle.scc_base.specs.declared.path.PathPart.{PathPart}
use Rattle.scc_core.specs.declared.places.Branch.{Branch}
use Rattle.scc_core.specs.declared.places.Named.{Named}
use Rattle.scc_core.specs.declared.places.NameStep.{NameStep}
use Rattle.scc_core.specs.declared.places.NameStep.TheVariants as step
use Rattle.scc_core.specs.declared.places.Places.{Places}
use Rattle.scc_core.specs.declared.places.Spot.{Spot}
use Rattle.scc_core.specs.declared.program.Cell.{Cell}
use Rattle.scc_core.specs.declared.program.VectorSize2.{VectorSize2}
use Rattle.scc_core.specs.contracts.places.BranchPartialEq.TheImpl as branch_equal
use Rattle.scc_core.specs.Names.{is_pointer, leads, same_step, step_of, walk}
use Rattle.scc_core.proofs.Names.{same_leads}
use Rattle.scc_core.specs.Tables.{Adds, AddsVector, Changes, Entered, Extends, Grown, Grows, IsTable, IsTree, Reaches, cell_in, first_cell, first_size, has_name, is_same, known, nothing, or_else, pointer_in, same_list, size_in, steps_of, top, under, when, with_cell, with_size}

some_same : {A : Type 0} {a b : A} → Some a ≡ Some b → a ≡ b
some_same {A = A} {a = a} e = ap unwrapped e
  where
    unwrapped : Option A → A
    unwrapped None = a
    unwrapped (Some x) = x

none_some : {A B : Type 0} (a : A) → None ≡ Some a → B
none_some a e = absurd cc

-- what a chain gives comes of something in between
record Between {A B : Type 0} (o : Option A) (f : A → Option B) (b : B) : Type 0 where
  value : A
  is : o ≡ Some value
  gives : f value ≡ Some b

between : {A B : Type 0} (o : Option A) (f : A → Option B) (b : B) → option_and_then f o ≡ Some b → Between o f b
between None f b e = absurd cc
between (Some a) f b e = record { value = a; is = refl; gives = e }

-- ---- steps

pub step_same : (a b : NameStep) → same_step a b ≡ true → a ≡ b
step_same (step.Member a) (step.Member b) e = ap (λ n. step.Member (record { 0 = n })) (eqb-true a.0 b.0 e)
step_same (step.Member a) (step.Index b) e = absurd cc
step_same (step.Member a) (step.Local b) e = absurd cc
step_same (step.Index a) (step.Member b) e = absurd cc
step_same (step.Index a) (step.Index b) e = ap step.Index (eqb-true a b e)
step_same (step.Index a) (step.Local b) e = absurd cc
step_same (step.Local a) (step.Member b) e = absurd cc
step_same (step.Local a) (step.Index b) e = absurd cc
step_same (step.Local a) (step.Local b) e = ap step.Local (eqb-true a b e)

pub step_own : (a : NameStep) → same_step a a ≡ true
step_own (step.Member a) = eq-eqb a.0 a.0 refl
step_own (step.Index a) = eq-eqb a a refl
step_own (step.Local a) = eq-eqb a a refl

and_first : (a b : Bool) → (a && b) ≡ true → a ≡ true
and_first true b e = refl
and_first false b e = absurd cc

and_second : (a b : Bool) → (a && b) ≡ true → b ≡ true
and_second true b e = e
and_second false b e = absurd cc

-- ---- branches

abbrev is_branch : Spot → NameStep → Branch → Bool
is_branch at s b = nat_eq at.0 b.from && same_step s b.step

record Entry (f : Branch → Bool) (n m : ℕ) (es : List (Branch × ℕ)) : Type 0 where
  least : n ≤ m
  most : m < n + length es
  branch : Branch
  holds : f branch ≡ true
  before : branch.from < m

entry : (f : Branch → Bool) (n m : ℕ) (es : List (Branch × ℕ)) → Grown n es → lookup f es ≡ Some m → Entry f n m es
entry f n m [] g e = absurd cc
entry f n m (x ∷ es) g e = by (f x.0) refl e (entry f (n + 1) m es g.2)
  where
    by : (b : Bool) → f x.0 ≡ b → cond b (Some x.1) (lookup f es) ≡ Some m → (lookup f es ≡ Some m → Entry f (n + 1) m es) → Entry f n m (x ∷ es)
    by true h e r =
        let k : x.1 ≡ m = some_same e in
        let i : x.1 ≡ n = g.0 in
        let j : x.0.from < n = g.1 in
        record { least = omega (arith, k, i); most = omega (arith, k, i); branch = x.0; holds = h; before = omega (arith, k, i, j) }
    by false h e r =
        let q = r e in
        let k : n + 1 ≤ m = q.least in
        let i : m < (n + 1) + length es = q.most in
        record { least = omega (arith, k); most = omega (arith, i); branch = q.branch; holds = q.holds; before = q.before }

record Both (f g : Branch → Bool) : Type 0 where
  branch : Branch
  first : f branch ≡ true
  second : g branch ≡ true

-- numbers are of one branch alone
both : (f g : Branch → Bool) (n m : ℕ) (es : List (Branch × ℕ)) → Grown n es → lookup f es ≡ Some m → lookup g es ≡ Some m → Both f g
both f g n m [] grown e h = absurd cc
both f g n m (x ∷ es) grown e h = by (f x.0) (g x.0) refl refl e h (both f g (n + 1) m es grown.2)
  where
    late : (t : Branch → Bool) → lookup t es ≡ Some m → x.1 ≡ m → ⊥
    late t e k =
        let i : n + 1 ≤ m = (entry t (n + 1) m es grown.2 e).least in
        let j : x.1 ≡ n = grown.0 in
        absurd (omega (arith, i, j, k))

    by : (b c : Bool) → f x.0 ≡ b → g x.0 ≡ c → cond b (Some x.1) (lookup f es) ≡ Some m → cond c (Some x.1) (lookup g es) ≡ Some m
        → (lookup f es ≡ Some m → lookup g es ≡ Some m → Both f g) → Both f g
    by true true p q e h r = record { branch = x.0; first = p; second = q }
    by true false p q e h r = absurd (late g h (some_same e))
    by false true p q e h r = absurd (late f e (some_same h))
    by false false p q e h r = r e h

lookup_more : (f : Branch → Bool) (es : List (Branch × ℕ)) (x : Branch × ℕ) (m : ℕ) → lookup f es ≡ Some m → lookup f (es ++ x ∷ []) ≡ Some m
lookup_more f [] x m e = absurd cc
lookup_more f (y ∷ es) x m e = by (f y.0) e (lookup_more f es x m)
  where
    by : (b : Bool) → cond b (Some y.1) (lookup f es) ≡ Some m → (lookup f es ≡ Some m → lookup f (es ++ x ∷ []) ≡ Some m) → cond b (Some y.1) (lookup f (es ++ x ∷ [])) ≡ Some m
    by true e r = e
    by false e r = r e

lookup_last : (f : Branch → Bool) (es : List (Branch × ℕ)) (x : Branch × ℕ) → lookup f es ≡ None → f x.0 ≡ true → lookup f (es ++ x ∷ []) ≡ Some x.1
lookup_last f [] x e h = ap (λ b. cond b (Some x.1) None) h
lookup_last f (y ∷ es) x e h = by (f y.0) e (lookup_last f es x)
  where
    by : (b : Bool) → cond b (Some y.1) (lookup f es) ≡ None → (lookup f es ≡ None → f x.0 ≡ true → lookup f (es ++ x ∷ []) ≡ Some x.1) → cond b (Some y.1) (lookup f (es ++ x ∷ [])) ≡ Some x.1
    by true e r = absurd cc
    by false e r = r e h

-- with one more, what is found was found, or is the one
lookup_or : (f : Branch → Bool) (es : List (Branch × ℕ)) (x : Branch × ℕ) (m : ℕ) → lookup f (es ++ x ∷ []) ≡ Some m → (lookup f es ≡ Some m) ⊎ (m ≡ x.1)
lookup_or f [] x m e = by (f x.0) e
  where
    by : (b : Bool) → cond b (Some x.1) None ≡ Some m → (None ≡ Some m) ⊎ (m ≡ x.1)
    by true e = inr (sym (some_same e))
    by false e = inl e
lookup_or f (y ∷ es) x m e = by (f y.0) e (lookup_or f es x m)
  where
    by : (b : Bool) → cond b (Some y.1) (lookup f (es ++ x ∷ [])) ≡ Some m → (lookup f (es ++ x ∷ []) ≡ Some m → (lookup f es ≡ Some m) ⊎ (m ≡ x.1))
        → (cond b (Some y.1) (lookup f es) ≡ Some m) ⊎ (m ≡ x.1)
    by true e r = inl e
    by false e r = r e

grown_more : (n : ℕ) (es : List (Branch × ℕ)) (x : Branch × ℕ) → Grown n es → x.1 ≡ n + length es → x.0.from < n + length es → Grown n (es ++ x ∷ [])
grown_more n [] x g e h = (let i : x.1 ≡ n + 0 = e in omega (arith, i), let i : x.0.from < n + 0 = h in omega (arith, i), tt)
grown_more n (y ∷ es) x g e h = (g.0, g.1, grown_more (n + 1) es x g.2 (let i : x.1 ≡ n + length (y ∷ es) = e in omega (arith, i)) (let i : x.0.from < n + length (y ∷ es) = h in omega (arith, i)))

-- ---- what steps lead to

leads_none : (p : Places) (at : Spot) (s : NameStep) → leads p at s ≡ None → lookup (is_branch at s) p.branches.entries ≡ None
unfolding leads
leads_none p at s e = by (lookup (is_branch at s) p.branches.entries) e
  where
    by : (o : Option ℕ) → option_map {U = Spot} (λ n. record { 0 = n }) o ≡ None → o ≡ None
    by None e = refl
    by (Some n) e = absurd cc

insert_last : (k : Branch) (v : ℕ) (es : List (Branch × ℕ)) → lookup (branch_equal.eq-value.it k) es ≡ None → insert_entry branch_equal.eq-value.it es k v ≡ es ++ (k, v) ∷ []
insert_last k v [] e = refl
insert_last k v (x ∷ es) e = by (branch_equal.eq-value.it k x.0) e (insert_last k v es)
  where
    by : (b : Bool) → cond b (Some x.1) (lookup (branch_equal.eq-value.it k) es) ≡ None → (lookup (branch_equal.eq-value.it k) es ≡ None → insert_entry branch_equal.eq-value.it es k v ≡ es ++ (k, v) ∷ [])
        → (if b then (x.0, v) ∷ es else x ∷ insert_entry branch_equal.eq-value.it es k v) ≡ x ∷ (es ++ (k, v) ∷ [])
    by true e r = absurd cc
    by false e r = ap (λ l. x ∷ l) (r e)

-- where no step led, a branch goes last
pub inserted : (p : Places) (k : Branch) (v : ℕ) → leads p (record { 0 = k.from }) k.step ≡ None → insert_entry branch_equal.eq-value.it p.branches.entries k v ≡ p.branches.entries ++ (k, v) ∷ []
inserted p k v e = insert_last k v p.branches.entries (same_leads k p.branches.entries ∙ leads_none p (record { 0 = k.from }) k.step e)

module _ (p : Places) where
  abbrev es : List (Branch × ℕ)
  es = p.branches.entries

  led : (at : Spot) (s : NameStep) (to : Spot) → leads p at s ≡ Some to → lookup (is_branch at s) es ≡ Some to.0
  unfolding leads
  led at s to e = by (lookup (is_branch at s) es) e
    where
      by : (o : Option ℕ) → option_map (λ n. record { 0 = n }) o ≡ Some to → o ≡ Some to.0
      by None e = absurd cc
      by (Some n) e = ap (λ t. Some t.0) (some_same e)

  leads_by : (at : Spot) (s : NameStep) (n : ℕ) → lookup (is_branch at s) es ≡ Some n → leads p at s ≡ Some (record { 0 = n })
  unfolding leads
  leads_by at s n e = ap (option_map (λ n. record { 0 = n })) e

  -- steps that lead on: to a later front part, from one that there is
  record On (at to : Spot) : Type 0 where
    later : at.0 < to.0
    within : to.0 < length p.named.items

  on : IsTree p → (at : Spot) (s : NameStep) (to : Spot) → leads p at s ≡ Some to → On at to
  on t at s to e =
      let q = entry (is_branch at s) 1 to.0 es t.branches (led at s to e) in
      let i : at.0 ≡ q.branch.from = eqb-true at.0 q.branch.from (and_first (nat_eq at.0 q.branch.from) (same_step s q.branch.step) q.holds) in
      let j : q.branch.from < to.0 = q.before in
      let k : to.0 < 1 + length es = q.most in
      let l : length p.named.items ≡ length es + 1 = t.spots in
      record { later = omega (arith, i, j); within = omega (arith, k, l) }

  record One (a b : Spot) (s u : NameStep) : Type 0 where
    from : a ≡ b
    by : s ≡ u

  one : IsTree p → (a b : Spot) (s u : NameStep) (to : Spot) → leads p a s ≡ Some to → leads p b u ≡ Some to → One a b s u
  one t a b s u to e h =
      let q = both (is_branch a s) (is_branch b u) 1 to.0 es t.branches (led a s to e) (led b u to h) in
      let i : a.0 ≡ q.branch.from = eqb-true a.0 q.branch.from (and_first (nat_eq a.0 q.branch.from) (same_step s q.branch.step) q.first) in
      let j : b.0 ≡ q.branch.from = eqb-true b.0 q.branch.from (and_first (nat_eq b.0 q.branch.from) (same_step u q.branch.step) q.second) in
      record {
        from = ap (λ n. record { 0 = n }) (i ∙ sym j);
        by = step_same s q.branch.step (and_second (nat_eq a.0 q.branch.from) (same_step s q.branch.step) q.first) ∙ sym (step_same u q.branch.step (and_second (nat_eq b.0 q.branch.from) (same_step u q.branch.step) q.second));
      }

  -- ---- along steps, the last one first
  abbrev back : List NameStep → Option Spot
  back [] = Some top
  back (s ∷ rs) = option_and_then (λ at. leads p at s) (back rs)

  back_one : IsTree p → (rs qs : List NameStep) (to : Spot) → back rs ≡ Some to → back qs ≡ Some to → rs ≡ qs
  back_one t [] [] to e h = refl
  back_one t [] (u ∷ qs) to e h =
      let q = between (back qs) (λ at. leads p at u) to h in
      let i : 0 ≡ to.0 = ap (λ z. z.0) (some_same e) in
      let j : q.value.0 < to.0 = (on t q.value u to q.gives).later in
      absurd (omega (arith, i, j))
  back_one t (s ∷ rs) [] to e h =
      let q = between (back rs) (λ at. leads p at s) to e in
      let i : 0 ≡ to.0 = ap (λ z. z.0) (some_same h) in
      let j : q.value.0 < to.0 = (on t q.value s to q.gives).later in
      absurd (omega (arith, i, j))
  back_one t (s ∷ rs) (u ∷ qs) to e h =
      let q = between (back rs) (λ at. leads p at s) to e in
      let r = between (back qs) (λ at. leads p at u) to h in
      let o = one t q.value r.value s u to q.gives r.gives in
      λ i. o.by i ∷ back_one t rs qs r.value (q.is ∙ ap Some o.from) r.is i

  back_within : IsTree p → (rs : List NameStep) (to : Spot) → back rs ≡ Some to → to.0 < length p.named.items
  back_within t [] to e =
      let i : 0 ≡ to.0 = ap (λ z. z.0) (some_same e) in
      let l : length p.named.items ≡ length es + 1 = t.spots in
      omega (arith, i, l)
  back_within t (s ∷ rs) to e = let q = between (back rs) (λ at. leads p at s) to e in (on t q.value s to q.gives).within

  -- ---- the same as the walk along them
  pub walk_snoc : (at : Spot) (ss : List NameStep) (s : NameStep) → walk p at (known (ss ++ s ∷ [])) ≡ option_and_then (λ to. leads p to s) (walk p at (known ss))
  walk_snoc at [] s = by (leads p at s)
    where
      by : (o : Option Spot) → option_and_then (λ to. Some to) o ≡ o
      by None = refl
      by (Some to) = refl
  walk_snoc at (x ∷ ss) s = by (leads p at x) (λ to. walk_snoc to ss s)
    where
      by : (o : Option Spot) → ((to : Spot) → walk p to (known (ss ++ s ∷ [])) ≡ option_and_then (λ z. leads p z s) (walk p to (known ss)))
          → option_and_then (λ to. walk p to (known (ss ++ s ∷ []))) o ≡ option_and_then (λ z. leads p z s) (option_and_then (λ to. walk p to (known ss)) o)
      by None r = refl
      by (Some to) r = r to

abbrev turned : List NameStep → List NameStep
turned [] = []
turned (s ∷ rs) = turned rs ++ s ∷ []

turned_more : (ss : List NameStep) (s : NameStep) → turned (ss ++ s ∷ []) ≡ s ∷ turned ss
turned_more [] s = refl
turned_more (x ∷ ss) s = ap (λ l. l ++ x ∷ []) (turned_more ss s)

turned_twice : (ss : List NameStep) → turned (turned ss) ≡ ss
turned_twice [] = refl
turned_twice (s ∷ ss) = turned_more (turned ss) s ∙ ap (λ l. s ∷ l) (turned_twice ss)

back_walks : (p : Places) (rs : List NameStep) → walk p top (known (turned rs)) ≡ back p rs
back_walks p [] = refl
back_walks p (s ∷ rs) = walk_snoc p top (turned rs) s ∙ ap (option_and_then (λ to. leads p to s)) (back_walks p rs)

walk_back : (p : Places) (ss : List NameStep) → walk p top (known ss) ≡ back p (turned ss)
walk_back p ss = ap (λ l. walk p top (known l)) (sym (turned_twice ss)) ∙ back_walks p (turned ss)

pub reached_one : (p : Places) → IsTree p → (ss us : List NameStep) (to : Spot) → walk p top (known ss) ≡ Some to → walk p top (known us) ≡ Some to → ss ≡ us
reached_one p t ss us to e h = sym (turned_twice ss) ∙ ap turned (back_one p t (turned ss) (turned us) to (sym (walk_back p ss) ∙ e) (sym (walk_back p us) ∙ h)) ∙ turned_twice us

pub reached_within : (p : Places) → IsTree p → (ss : List NameStep) (to : Spot) → walk p top (known ss) ≡ Some to → to.0 < length p.named.items
reached_within p t ss to e = back_within p t (turned ss) to (sym (walk_back p ss) ∙ e)

-- ---- one more branch

length_snoc : {A : Type 0} (xs : List A) (x : A) → length (xs ++ x ∷ []) ≡ length xs + 1
length_snoc [] x = let e : 1 ≡ 0 + 1 = omega arith in e
length_snoc (y ∷ xs) x = let e : length (xs ++ x ∷ []) ≡ length xs + 1 = length_snoc xs x in omega (arith, e)

get_before : {A : Type 0} (xs : List A) (x : A) (n : ℕ) → n < length xs → slice_get (xs ++ x ∷ []) n ≡ slice_get xs n
get_before [] x n h = absurd (omega (arith, h))
get_before (y ∷ xs) x zero h = refl
get_before (y ∷ xs) x (suc n) h = get_before xs x n (omega (arith, h))

get_last : {A : Type 0} (xs : List A) (x : A) → slice_get (xs ++ x ∷ []) (length xs) ≡ Some x
get_last [] x = refl
get_last (y ∷ xs) x = get_last xs x

module _ (p q : Places) (from : ℕ) (s : NameStep) (t : IsTree p) (within : from < length p.named.items) (none : leads p (record { 0 = from }) s ≡ None) (g : Grows p q from s) where
  abbrev n : ℕ
  n = length p.named.items

  grown_tree : IsTree q
  grown_tree =
      let l : length p.named.items ≡ length p.branches.entries + 1 = t.spots in
      let w : from < length p.named.items = within in
      record {
        branches = subst (Grown 1) (sym g.entries) (grown_more 1 p.branches.entries (record { from = from; step = s }, n) t.branches (omega (arith, l)) (omega (arith, l, w)));
        spots = ap length g.named ∙ length_snoc p.named.items nothing
            ∙ (let e : length p.named.items + 1 ≡ length (p.branches.entries ++ (record { from = from; step = s }, n) ∷ []) + 1 = let h = length_snoc p.branches.entries (record { from = from; step = s }, n) in omega (arith, l, h) in e)
            ∙ ap (λ x. length x + 1) (sym g.entries);
      }

  leads_kept : (at : Spot) (u : NameStep) (to : Spot) → leads p at u ≡ Some to → leads q at u ≡ Some to
  leads_kept at u to e = leads_by q at u to.0 (ap (lookup (is_branch at u)) g.entries ∙ lookup_more (is_branch at u) p.branches.entries (record { from = from; step = s }, n) to.0 (led p at u to e))

  leads_or : (at : Spot) (u : NameStep) (to : Spot) → leads q at u ≡ Some to → (leads p at u ≡ Some to) ⊎ (to.0 ≡ n)
  leads_or at u to e = by (lookup_or (is_branch at u) p.branches.entries (record { from = from; step = s }, n) to.0 (sym (ap (lookup (is_branch at u)) g.entries) ∙ led q at u to e))
    where
      by : (lookup (is_branch at u) p.branches.entries ≡ Some to.0) ⊎ (to.0 ≡ n) → (leads p at u ≡ Some to) ⊎ (to.0 ≡ n)
      by (inl h) = inl (leads_by p at u to.0 h)
      by (inr h) = inr h

  back_kept : (rs : List NameStep) (to : Spot) → back p rs ≡ Some to → back q rs ≡ Some to
  back_kept [] to e = e
  back_kept (u ∷ rs) to e =
      let b = between (back p rs) (λ at. leads p at u) to e in
      ap (option_and_then (λ at. leads q at u)) (back_kept rs b.value b.is) ∙ leads_kept b.value u to b.gives

  back_on : (rs : List NameStep) (u : NameStep) (at to : Spot) → back p rs ≡ Some at → (leads p at u ≡ Some to) ⊎ (to.0 ≡ n) → (back p (u ∷ rs) ≡ Some to) ⊎ (to.0 ≡ n)
  back_on rs u at to h (inl i) = inl (ap (option_and_then (λ z. leads p z u)) h ∙ i)
  back_on rs u at to h (inr i) = inr i

  -- from the new front part nothing leads on
  last_one : (u : NameStep) (at to : Spot) → leads q at u ≡ Some to → at.0 ≡ n → ⊥
  last_one u at to e h =
      let o = on q grown_tree at u to e in
      let i : at.0 < to.0 = o.later in
      let j : to.0 < length q.named.items = o.within in
      let k : length q.named.items ≡ length p.named.items + 1 = ap length g.named ∙ length_snoc p.named.items nothing in
      absurd (omega (arith, h, i, j, k))

  back_or : (rs : List NameStep) (to : Spot) → back q rs ≡ Some to → (back p rs ≡ Some to) ⊎ (to.0 ≡ n)
  back_or [] to e = inl e
  back_or (u ∷ rs) to e =
      let b = between (back q rs) (λ at. leads q at u) to e in
      by b.value b.gives (back_or rs b.value b.is)
    where
      by : (at : Spot) → leads q at u ≡ Some to → (back p rs ≡ Some at) ⊎ (at.0 ≡ n) → (back p (u ∷ rs) ≡ Some to) ⊎ (to.0 ≡ n)
      by at e (inl h) = back_on rs u at to h (leads_or at u to e)
      by at e (inr h) = absurd (last_one u at to e h)

  walk_kept : (ss : List NameStep) (to : Spot) → walk p top (known ss) ≡ Some to → walk q top (known ss) ≡ Some to
  walk_kept ss to e = walk_back q ss ∙ back_kept (turned ss) to (sym (walk_back p ss) ∙ e)

  walk_or : (ss : List NameStep) (to : Spot) → walk q top (known ss) ≡ Some to → (walk p top (known ss) ≡ Some to) ⊎ (to.0 ≡ n)
  walk_or ss to e = by (back_or (turned ss) to (sym (walk_back q ss) ∙ e))
    where
      by : (back p (turned ss) ≡ Some to) ⊎ (to.0 ≡ n) → (walk p top (known ss) ≡ Some to) ⊎ (to.0 ≡ n)
      by (inl h) = inl (walk_back p ss ∙ h)
      by (inr h) = inr h

  under_last : (f : Named → Option ℕ) → f nothing ≡ None → (ss : List NameStep) (to : Spot) → walk p top (known ss) ≡ None → (walk p top (known ss) ≡ Some to) ⊎ (to.0 ≡ n) → option_and_then f (slice_get q.named.items to.0) ≡ None
  under_last f z ss to e (inl i) = let c : None ≡ Some to = sym e ∙ i in absurd cc
  under_last f z ss to e (inr i) = (λ j. option_and_then f (slice_get (g.named j) (i j))) ∙ ap (option_and_then f) (get_last p.named.items nothing) ∙ z

  under_kept : (f : Named → Option ℕ) → f nothing ≡ None → (ss : List NameStep) → under f q ss ≡ under f p ss
  under_kept f z ss = by (walk p top (known ss)) (walk q top (known ss)) refl refl
    where
      by : (o u : Option Spot) → walk p top (known ss) ≡ o → walk q top (known ss) ≡ u
          → option_and_then (λ at. option_and_then f (slice_get q.named.items at.0)) u ≡ option_and_then (λ at. option_and_then f (slice_get p.named.items at.0)) o
      by None None e h = refl
      by None (Some to) e h = under_last f z ss to e (walk_or ss to h)
      by (Some at) u e h =
          ap (option_and_then (λ at. option_and_then f (slice_get q.named.items at.0))) (sym h ∙ walk_kept ss at e)
          ∙ ap (λ l. option_and_then f (slice_get l at.0)) g.named
          ∙ ap (option_and_then f) (get_before p.named.items nothing at.0 (reached_within p t ss at e))

  -- the new branch leads to the new front part, and nothing more stands under a name
  pub grown_extends : Extends p q
  grown_extends = record {
    tree = grown_tree;
    kept = λ ss k e. walk_kept ss (record { 0 = k }) e;
    cells = under_kept cell_in refl;
    pointers = under_kept pointer_in refl;
    sizes = under_kept size_in refl;
  }

  pub grown_reaches : (ss : List NameStep) → Reaches p ss from → Reaches q (ss ++ s ∷ []) n
  grown_reaches ss e =
      walk_snoc q top ss s
      ∙ ap (option_and_then (λ to. leads q to s)) (walk_kept ss (record { 0 = from }) e)
      ∙ leads_by q (record { 0 = from }) s n
      (ap (lookup (is_branch (record { 0 = from }) s)) g.entries
      ∙ lookup_last (is_branch (record { 0 = from }) s) p.branches.entries (record { from = from; step = s }, n) (none_found (lookup (is_branch (record { 0 = from }) s) p.branches.entries) refl) (own from))
    where
      own : (k : ℕ) → (nat_eq k k && same_step s s) ≡ true
      own k = ap (λ b. b && same_step s s) (eq-eqb k k refl) ∙ step_own s

      none_found : (o : Option ℕ) → lookup (is_branch (record { 0 = from }) s) p.branches.entries ≡ o → lookup (is_branch (record { 0 = from }) s) p.branches.entries ≡ None
      none_found None e = e
      none_found (Some k) e = none_some {A = Spot} (record { 0 = k }) (sym none ∙ leads_by p (record { 0 = from }) s k e)

pub extends_own : (p : Places) → IsTree p → Extends p p
extends_own p t = record { tree = t; kept = λ ss n e. e; cells = λ ss. refl; pointers = λ ss. refl; sizes = λ ss. refl }

pub extends_on : (p q r : Places) → Extends p q → Extends q r → Extends p r
extends_on p q r a b = record {
  tree = b.tree;
  kept = λ ss n e. b.kept ss n (a.kept ss n e);
  cells = λ ss. b.cells ss ∙ a.cells ss;
  pointers = λ ss. b.pointers ss ∙ a.pointers ss;
  sizes = λ ss. b.sizes ss ∙ a.sizes ss;
}

-- ---- one front part is changed

same_list_is : (xs ys : List NameStep) → same_list xs ys ≡ true → xs ≡ ys
same_list_is [] [] e = refl
same_list_is [] (y ∷ ys) e = absurd cc
same_list_is (x ∷ xs) [] e = absurd cc
same_list_is (x ∷ xs) (y ∷ ys) e = λ i. step_same x y (and_first (same_step x y) (same_list xs ys) e) i ∷ same_list_is xs ys (and_second (same_step x y) (same_list xs ys) e) i

same_list_own : (xs : List NameStep) → same_list xs xs ≡ true
same_list_own [] = refl
same_list_own (x ∷ xs) = (λ i. step_own x i && same_list_own xs i)

same_leads_on : (p q : Places) → q.branches.entries ≡ p.branches.entries → (at : Spot) (s : NameStep) → leads q at s ≡ leads p at s
unfolding leads
same_leads_on p q e at s = ap (λ l. option_map (λ n. record { 0 = n }) (lookup (is_branch at s) l)) e

walk_same : (p q : Places) → q.branches.entries ≡ p.branches.entries → (at : Spot) (ss : List NameStep) → walk q at (known ss) ≡ walk p at (known ss)
walk_same p q e at [] = refl
walk_same p q e at (s ∷ ss) = ap (option_and_then (λ to. walk q to (known ss))) (same_leads_on p q e at s) ∙ (λ i. option_and_then (λ to. walk_same p q e to ss i) (leads p at s))

same_tree : (p q : Places) → IsTree p → q.branches.entries ≡ p.branches.entries → length q.named.items ≡ length p.named.items → IsTree q
same_tree p q t e l = record {
  branches = subst (Grown 1) (sym e) t.branches;
  spots = l ∙ t.spots ∙ ap (λ es. length es + 1) (sym e);
}

get_none : {A : Type 0} (xs : List A) (n : ℕ) → n < length xs → slice_get xs n ≡ None → ⊥
get_none [] n h e = absurd (omega (arith, h))
get_none (x ∷ xs) zero h e = cc
get_none (x ∷ xs) (suc n) h e = get_none xs n (omega (arith, h)) e

module _ (p q : Places) (name : List NameStep) (at : ℕ) (h : Named → Named) (t : IsTree p) (r : Reaches p name at) (c : Changes p q at h) where
  -- a column that the change leaves as it is
  other_column : (f : Named → Option ℕ) → ((n : Named) → f (h n) ≡ f n) → (ss : List NameStep) → under f q ss ≡ under f p ss
  other_column f z ss = ap (option_and_then (λ to. option_and_then f (slice_get q.named.items to.0))) (walk_same p q c.branches top ss) ∙ (λ i. option_and_then (λ to. there to.0 i) (walk p top (known ss)))
    where
      by : (k : ℕ) (o : Option Named) → slice_get p.named.items at ≡ o → k ≡ at → option_and_then f (slice_get q.named.items k) ≡ option_and_then f (slice_get p.named.items k)
      by k (Some n) e i = ap (λ j. option_and_then f (slice_get q.named.items j)) i ∙ ap (option_and_then f) (c.there n e) ∙ z n ∙ ap (option_and_then f) (sym e) ∙ ap (λ j. option_and_then f (slice_get p.named.items j)) (sym i)
      by k None e i =
          let w : at < length p.named.items = reached_within p t name (record { 0 = at }) r in
          absurd (get_none p.named.items at w e)

      choose : (k : ℕ) (b : Bool) → nat_eq k at ≡ b → option_and_then f (slice_get q.named.items k) ≡ option_and_then f (slice_get p.named.items k)
      choose k true e = by k (slice_get p.named.items at) refl (eqb-true k at e)
      choose k false e = ap (option_and_then f) (c.others k e)

      there : (k : ℕ) → option_and_then f (slice_get q.named.items k) ≡ option_and_then f (slice_get p.named.items k)
      there k = choose k (nat_eq k at) refl

  -- the column that is changed: under that name alone
  this_column : (f : Named → Option ℕ) (number : ℕ) → ((n : Named) → f (h n) ≡ or_else (f n) (Some number)) → (ss : List NameStep) → under f q ss ≡ or_else (under f p ss) (when (same_list ss name) number)
  this_column f number z ss = by_walk (walk p top (known ss)) refl
    where
      apart : (k : ℕ) → walk p top (known ss) ≡ Some (record { 0 = k }) → nat_eq k at ≡ false → (b : Bool) → same_list ss name ≡ b → when b number ≡ None
      apart k e i false j = refl
      apart k e i true j =
          let w : Some (record { 0 = k }) ≡ Some (record { 0 = at }) = sym e ∙ ap (λ l. walk p top (known l)) (same_list_is ss name j) ∙ r in
          let v : k ≡ at = ap (λ x. x.0) (some_same w) in
          let u : true ≡ false = sym (eq-eqb k at v) ∙ i in
          absurd cc

      or_none : (o : Option ℕ) → or_else o None ≡ o
      or_none None = refl
      or_none (Some n) = refl

      at_same : (o : Option Named) → slice_get p.named.items at ≡ o → option_and_then f (slice_get q.named.items at) ≡ or_else (option_and_then f (slice_get p.named.items at)) (Some number)
      at_same (Some n) e = ap (option_and_then f) (c.there n e) ∙ z n ∙ ap (λ o. or_else (option_and_then f o) (Some number)) (sym e)
      at_same None e =
          let w : at < length p.named.items = reached_within p t name (record { 0 = at }) r in
          absurd (get_none p.named.items at w e)

      by_same : (k : ℕ) → walk p top (known ss) ≡ Some (record { 0 = k }) → (b : Bool) → nat_eq k at ≡ b
          → option_and_then f (slice_get q.named.items k) ≡ or_else (option_and_then f (slice_get p.named.items k)) (when (same_list ss name) number)
      by_same k e true i =
          let v : k ≡ at = eqb-true k at i in
          let same : ss ≡ name = reached_one p t ss name (record { 0 = at }) (e ∙ ap (λ j. Some (record { 0 = j })) v) r in
          ap (λ j. option_and_then f (slice_get q.named.items j)) v ∙ at_same (slice_get p.named.items at) refl
          ∙ (λ j. or_else (option_and_then f (slice_get p.named.items (sym v j))) (when (sym (ap (λ l. same_list l name) same ∙ same_list_own name) j) number))
      by_same k e false i =
          ap (option_and_then f) (c.others k i) ∙ sym (or_none (option_and_then f (slice_get p.named.items k)))
          ∙ ap (or_else (option_and_then f (slice_get p.named.items k))) (sym (apart k e i (same_list ss name) refl))

      no_name : walk p top (known ss) ≡ None → (b : Bool) → same_list ss name ≡ b → when b number ≡ None
      no_name e false j = refl
      no_name e true j =
          none_some {A = Spot} (record { 0 = at }) (sym e ∙ ap (λ l. walk p top (known l)) (same_list_is ss name j) ∙ r)

      by_walk : (o : Option Spot) → walk p top (known ss) ≡ o → under f q ss ≡ or_else (under f p ss) (when (same_list ss name) number)
      by_walk None e =
          ap (option_and_then (λ to. option_and_then f (slice_get q.named.items to.0))) (walk_same p q c.branches top ss ∙ e)
          ∙ sym (no_name e (same_list ss name) refl)
          ∙ ap (λ o. or_else (option_and_then (λ to. option_and_then f (slice_get p.named.items to.0)) o) (when (same_list ss name) number)) (sym e)
      by_walk (Some to) e =
          ap (option_and_then (λ to. option_and_then f (slice_get q.named.items to.0))) (walk_same p q c.branches top ss ∙ e)
          ∙ by_same to.0 e (nat_eq to.0 at) refl
          ∙ ap (λ o. or_else (option_and_then (λ to. option_and_then f (slice_get p.named.items to.0)) o) (when (same_list ss name) number)) (sym e)

-- ---- a name is added

pub adds_cell : (p m q : Places) (name : List NameStep) (at number : ℕ) (pointer : Bool) → Extends p m → Reaches m name at → Changes m q at (λ n. with_cell n number pointer) → Adds p q name number pointer
adds_cell p m q name at number true x r c = record {
  tree = same_tree m q x.tree c.branches c.spots;
  cells = λ ss. other_column m q name at (λ n. with_cell n number true) x.tree r c cell_in (λ n. refl) ss ∙ x.cells ss ∙ sym (or_none (under cell_in p ss));
  pointers = λ ss. this_column m q name at (λ n. with_cell n number true) x.tree r c pointer_in number (λ n. refl) ss ∙ ap (λ o. or_else o (when (same_list ss name) number)) (x.pointers ss);
  sizes = λ ss. other_column m q name at (λ n. with_cell n number true) x.tree r c size_in (λ n. refl) ss ∙ x.sizes ss;
}
  where
    or_none : (o : Option ℕ) → or_else o None ≡ o
    or_none None = refl
    or_none (Some n) = refl
adds_cell p m q name at number false x r c = record {
  tree = same_tree m q x.tree c.branches c.spots;
  cells = λ ss. this_column m q name at (λ n. with_cell n number false) x.tree r c cell_in number (λ n. refl) ss ∙ ap (λ o. or_else o (when (same_list ss name) number)) (x.cells ss);
  pointers = λ ss. other_column m q name at (λ n. with_cell n number false) x.tree r c pointer_in (λ n. refl) ss ∙ x.pointers ss ∙ sym (or_none (under pointer_in p ss));
  sizes = λ ss. other_column m q name at (λ n. with_cell n number false) x.tree r c size_in (λ n. refl) ss ∙ x.sizes ss;
}
  where
    or_none : (o : Option ℕ) → or_else o None ≡ o
    or_none None = refl
    or_none (Some n) = refl

pub adds_vector : (p m q : Places) (path : List NameStep) (at size : ℕ) → Extends p m → Reaches m path at → Changes m q at (λ n. with_size n size) → AddsVector p q path size
adds_vector p m q path at size x r c = record {
  tree = same_tree m q x.tree c.branches c.spots;
  cells = λ ss. other_column m q path at (λ n. with_size n size) x.tree r c cell_in (λ n. refl) ss ∙ x.cells ss;
  pointers = λ ss. other_column m q path at (λ n. with_size n size) x.tree r c pointer_in (λ n. refl) ss ∙ x.pointers ss;
  sizes = λ ss. this_column m q path at (λ n. with_size n size) x.tree r c size_in size (λ n. refl) ss ∙ ap (λ o. or_else o (when (same_list ss path) size)) (x.sizes ss);
}

-- ---- the cells one after another

cell_last : (pointer : Bool) (ss : List NameStep) (n : ℕ) (cs : List Cell) (c : Cell) → first_cell pointer ss n (cs ++ c ∷ []) ≡ or_else (first_cell pointer ss n cs) (when (has_name pointer ss c) (n + length cs))
cell_last pointer ss n [] c = by (has_name pointer ss c)
  where
    by : (b : Bool) → ◌≡◌ {A = Option ℕ} (if b then Some n else None) (when b (n + 0))
    by true = ap Some (let e : n ≡ n + 0 = omega arith in e)
    by false = refl
cell_last pointer ss n (d ∷ cs) c = by (has_name pointer ss d) (cell_last pointer ss (n + 1) cs c)
  where
    by : (b : Bool) → first_cell pointer ss (n + 1) (cs ++ c ∷ []) ≡ or_else (first_cell pointer ss (n + 1) cs) (when (has_name pointer ss c) ((n + 1) + length cs))
        → ◌≡◌ {A = Option ℕ} (if b then Some n else first_cell pointer ss (n + 1) (cs ++ c ∷ [])) (or_else (if b then Some n else first_cell pointer ss (n + 1) cs) (when (has_name pointer ss c) (n + length (d ∷ cs))))
    by true r = refl
    by false r = r ∙ ap (λ k. or_else (first_cell pointer ss (n + 1) cs) (when (has_name pointer ss c) k)) (let e : (n + 1) + length cs ≡ n + length (d ∷ cs) = omega arith in e)

size_last : (ss : List NameStep) (vs : List VectorSize2) (v : VectorSize2) → first_size ss (vs ++ v ∷ []) ≡ or_else (first_size ss vs) (when (same_list ss (map step_of v.path)) v.size)
size_last ss [] v = by (same_list ss (map step_of v.path))
  where
    by : (b : Bool) → ◌≡◌ {A = Option ℕ} (if b then Some v.size else None) (when b v.size)
    by true = refl
    by false = refl
size_last ss (w ∷ vs) v = by (same_list ss (map step_of w.path)) (size_last ss vs v)
  where
    by : (b : Bool) → first_size ss (vs ++ v ∷ []) ≡ or_else (first_size ss vs) (when (same_list ss (map step_of v.path)) v.size)
        → ◌≡◌ {A = Option ℕ} (if b then Some w.size else first_size ss (vs ++ v ∷ [])) (or_else (if b then Some w.size else first_size ss vs) (when (same_list ss (map step_of v.path)) v.size))
    by true r = refl
    by false r = r

-- one more cell
pub table_more : (p q : Places) (cells : List Cell) (i n : ℕ) (c : Cell) → n ≡ i → i < length cells → c ≡ get_or cells i c
    → IsTable p (take i cells) [] → Adds p q (steps_of c.name) n (is_pointer c.sort) → IsTable q (take (i + 1) cells) []
table_more p q cells i n c same h is t a = record {
  tree = a.tree;
  cells_by = λ ss. a.cells ss ∙ (λ j. or_else (t.cells_by ss j) (when (not (is_pointer c.sort) && same_list ss (steps_of c.name)) (long j))) ∙ sym (cell_last false ss 0 (take i cells) c) ∙ ap (first_cell false ss 0) (sym next);
  pointers_by = λ ss. a.pointers ss ∙ (λ j. or_else (t.pointers_by ss j) (when (is_pointer c.sort && same_list ss (steps_of c.name)) (long j))) ∙ sym (cell_last true ss 0 (take i cells) c) ∙ ap (first_cell true ss 0) (sym next);
  sizes_by = λ ss. a.sizes ss ∙ t.sizes_by ss;
}
  where
    next : take (i + 1) cells ≡ take i cells ++ c ∷ []
    next = ap (λ k. take k cells) (add-one i) ∙ take-suc cells i c h ∙ ap (λ d. take i cells ++ d ∷ []) (sym is)

    long : n ≡ 0 + length (take i cells)
    long = let e : length (take i cells) ≡ min i (length cells) = length-take i cells in omega (arith, e, h, same)

-- one more vector
pub vectors_more : (p q : Places) (cells : List Cell) (vs : List VectorSize2) (i : ℕ) (v : VectorSize2) → i < length vs → v ≡ get_or vs i v
    → IsTable p cells (take i vs) → AddsVector p q (map step_of v.path) v.size → IsTable q cells (take (i + 1) vs)
vectors_more p q cells vs i v h is t a = record {
  tree = a.tree;
  cells_by = λ ss. a.cells ss ∙ t.cells_by ss;
  pointers_by = λ ss. a.pointers ss ∙ t.pointers_by ss;
  sizes_by = λ ss. a.sizes ss ∙ ap (λ o. or_else o (when (same_list ss (map step_of v.path)) v.size)) (t.sizes_by ss) ∙ sym (size_last ss (take i vs) v) ∙ ap (first_size ss) (sym next);
}
  where
    next : take (i + 1) vs ≡ take i vs ++ v ∷ []
    next = ap (λ k. take k vs) (add-one i) ∙ take-suc vs i v h ∙ ap (λ d. take i vs ++ d ∷ []) (sym is)

-- the top alone: under no name stands anything
pub table_first : (p : Places) → p.branches.entries ≡ [] → p.named.items ≡ nothing ∷ [] → IsTable p [] []
table_first p e n = record {
  tree = record { branches = subst (Grown 1) (sym e) tt; spots = ap length n ∙ one_spot ∙ ap (λ es. length es + 1) (sym e) };
  cells_by = λ ss. bare cell_in refl ss;
  pointers_by = λ ss. bare pointer_in refl ss;
  sizes_by = λ ss. bare size_in refl ss;
}
  where
    one_spot : length (nothing ∷ []) ≡ 0 + 1
    one_spot = omega arith

    at_spot : (f : Named → Option ℕ) → f nothing ≡ None → (k : ℕ) → option_and_then f (slice_get (nothing ∷ []) k) ≡ None
    at_spot f z zero = z
    at_spot f z (suc k) = refl

    any : (f : Named → Option ℕ) → f nothing ≡ None → (o : Option Spot) → option_and_then (λ at. option_and_then f (slice_get (nothing ∷ []) at.0)) o ≡ None
    any f z None = refl
    any f z (Some at) = at_spot f z at.0

    bare : (f : Named → Option ℕ) → f nothing ≡ None → (ss : List NameStep) → under f p ss ≡ None
    bare f z ss = ap (λ l. option_and_then (λ at. option_and_then f (slice_get l at.0)) (walk p top (known ss))) n ∙ any f z (walk p top (known ss))

-- ---- steps one after another

pub entered_on : (p q r : Places) (ss us : List NameStep) (n k : ℕ) → Entered p q ss n → Entered q r us k → Entered p r us k
entered_on p q r ss us n k a b = record { extends = extends_on p q r a.extends b.extends; reaches = b.reaches }

pub entered_as : (p q : Places) (ss us : List NameStep) (n : ℕ) → Entered p q ss n → ss ≡ us → Entered p q us n
entered_as p q ss us n a e = subst (λ l. Entered p q l n) e a

pub entered_own : (p : Places) (ss : List NameStep) (n : ℕ) → IsTree p → Reaches p ss n → Entered p p ss n
entered_own p ss n t r = record { extends = extends_own p t; reaches = r }

next_in : {A : Type 0} (f : A → NameStep) (xs : List A) (i : ℕ) (x : A) → i < length xs → x ≡ get_or xs i x → map f (take (i + 1) xs) ≡ map f (take i xs) ++ f x ∷ []
next_in {A = A} f xs i x h is = ap (λ k. map f (take k xs)) (add-one i) ∙ ap (map f) (take-suc xs i x h) ∙ ap (λ d. map f (take i xs ++ d ∷ [])) (sym is) ∙ map_last (take i xs)
  where
    map_last : (ys : List A) → map f (ys ++ x ∷ []) ≡ map f ys ++ f x ∷ []
    map_last [] = refl
    map_last (y ∷ ys) = ap (λ l. f y ∷ l) (map_last ys)

-- one more part of a path
pub path_more : (p q r : Places) (path : List PathPart) (i : ℕ) (x : PathPart) (n k : ℕ) → i < length path → x ≡ get_or path i x
    → Entered p q (map step_of (take i path)) n → Entered q r (map step_of (take i path) ++ step_of x ∷ []) k → Entered p r (map step_of (take (i + 1) path)) k
path_more p q r path i x n k h is a b = entered_as p r _ _ k (entered_on p q r _ _ n k a b) (sym (next_in step_of path i x h is))

-- one more index
pub indices_more : (p q r : Places) (ss : List NameStep) (is : List ℕ) (i x n k : ℕ) → i < length is → x ≡ get_or is i x
    → Entered p q (ss ++ map step.Index (take i is)) n → Entered q r ((ss ++ map step.Index (take i is)) ++ step.Index x ∷ []) k → Entered p r (ss ++ map step.Index (take (i + 1) is)) k
indices_more p q r ss is i x n k h here a b =
    entered_as p r _ _ k (entered_on p q r _ _ n k a b) (append_assoc ss (map step.Index (take i is)) (step.Index x ∷ []) ∙ ap (λ l. ss ++ l) (sym (next_in step.Index is i x h here)))

pub local_on : (p q r : Places) (ss us : List NameStep) (x : NameStep) (n k : ℕ) → Entered p q (ss ++ x ∷ []) n → Entered q r ((ss ++ x ∷ []) ++ us) k → Entered p r (ss ++ (x ∷ us)) k
local_on p q r ss us x n k a b = entered_as p r _ _ k (entered_on p q r _ _ n k a b) (append_assoc ss (x ∷ []) us)

append_none : {A : Type 0} (xs : List A) → xs ++ [] ≡ xs
append_none [] = refl
append_none (x ∷ xs) = ap (λ l. x ∷ l) (append_none xs)

pub none_on : (p : Places) (ss : List NameStep) (n : ℕ) → IsTree p → Reaches p ss n → Entered p p (ss ++ []) n
none_on p ss n t r = entered_as p p ss (ss ++ []) n (entered_own p ss n t r) (sym (append_none ss))

-- what stands at a place doesn't hang on what stands past the end
pub get_own : {A : Type 0} (xs : List A) (i : ℕ) (d : A) → get_or xs i d ≡ get_or xs i (get_or xs i d)
get_own [] i d = refl
get_own (x ∷ xs) zero d = refl
get_own (x ∷ xs) (suc i) d = get_own xs i d
