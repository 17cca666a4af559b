-- What runs behind one more process, and behind more items of one.
use Rattle.std.proofs.Common.{◌≡◌, ℕ, zero, suc, Bool, true, false, cond, ◌&&◌, ◌||◌, nat_eq, List, [], ◌∷◌, ◌++◌, map, set, get_or, length, ◌<◌, OnOk, Result, Ok, Err, Option, Some, None, is_some, if◌then◌else◌, refl, sym, ap, ◌∙◌, subst, arith}
use Rattle.std.specs.List.{list_any}
use Rattle.std.specs.Map.{lookup}
use Rattle.indexmap.specs.IndexMap.{insert_entry}
use Rattle.scc_elab_spec.specs.Grown.{Declared}
use Rattle.scc_elab_spec.specs.Binding.{changed_at, with_items, with_reset}
use Rattle.scc_elab_grown.specs.declared.records.Record.{Record}
use Rattle.scc_elab_grown.specs.declared.records.Item.{Item}
use Rattle.scc_elab_grown.specs.declared.records.ResetItem.{ResetItem}
use Rattle.scc_elab_grown.specs.declared.records.Runs.{Runs}
use Rattle.scc_elab_grown.specs.contracts.records.RunsPartialEq.TheImpl as runs_equal
use Rattle.scc_semantics_laws.proofs.Blind.{and-first, and-second}
use Rattle.scc_elab_grown.proofs.Putting.{lookup_put, eq_is, nat_turn}
use Rattle.scc_elab_grown.specs.Records.{item_of, reset_of, record_of, runs_at, same_runs, has_run, KeepsRuns, RunSame}

some_same : (x y : Record) → Some x ≡ Some y → x ≡ y
some_same x y e = cc

pub has_is : (list : List Record) (es : List (Runs × Bool)) (object function : ℕ) (k : Runs) → KeepsRuns list es → k.object ≡ object → k.function ≡ function → is_some (lookup (runs_equal.eq-value.it k) es) ≡ list_any (runs_at object function) (map record_of list)
has_is list es object function k keeps a b = (λ i. is_some (lookup (same_runs (a i) (b i)) es)) ∙ keeps.runs object function

-- keys that are the same run the same
keys_swap : (a b c : Runs) → runs_equal.eq-value.it a b ≡ true → runs_equal.eq-value.it c a ≡ runs_equal.eq-value.it c b
keys_swap a b c e = λ i. nat_eq c.object (eq_is a.object b.object (and-first (nat_eq a.object b.object) (nat_eq a.function b.function) e) i)
    && nat_eq c.function (eq_is a.function b.function (and-second (nat_eq a.object b.object) (nat_eq a.function b.function) e) i)

keys_join : (a b c : Runs) → runs_equal.eq-value.it a b ≡ true → runs_equal.eq-value.it a c ≡ true → runs_equal.eq-value.it b c ≡ true
keys_join a b c e f = sym (λ i. nat_eq (eq_is a.object b.object (and-first (nat_eq a.object b.object) (nat_eq a.function b.function) e) i) c.object
    && nat_eq (eq_is a.function b.function (and-second (nat_eq a.object b.object) (nat_eq a.function b.function) e) i) c.function) ∙ f

-- one more process, which runs a function of an object
module _ (list : List Record) (es : List (Runs × Bool)) (keeps : KeepsRuns list es) (r : Record) (k : Runs) (object_is : k.object ≡ r.object) (function_is : k.function ≡ r.function) where
  both : (b c : Bool) → (b || c) ≡ (c || b)
  both true true = refl
  both true false = refl
  both false true = refl
  both false false = refl

  any_last : (p : Declared → Bool) (ds : List Declared) (d : Declared) → list_any p (ds ++ d ∷ []) ≡ (list_any p ds || p d)
  any_last p [] d = by (p d)
    where
      by : (c : Bool) → (c || false) ≡ c
      by true = refl
      by false = refl
  any_last p (x ∷ ds) d = ap (λ b. p x || b) (any_last p ds d) ∙ by (p x) (list_any p ds) (p d)
    where
      by : (a b c : Bool) → (a || (b || c)) ≡ ((a || b) || c)
      by true b c = refl
      by false b c = refl

  map_last : (rs : List Record) → map record_of (rs ++ r ∷ []) ≡ map record_of rs ++ record_of r ∷ []
  map_last [] = refl
  map_last (x ∷ rs) = ap (λ z. record_of x ∷ z) (map_last rs)

  or_some : (b : Bool) (o : Option Bool) → is_some (if b then Some true else o) ≡ (b || is_some o)
  or_some true o = refl
  or_some false o = refl

  runs_last : (object function : ℕ) → has_run (insert_entry runs_equal.eq-value.it es k true) object function ≡ list_any (runs_at object function) (map record_of (list ++ r ∷ []))
  runs_last object function =
      let m : Runs = record { object = object; function = function } in
      ap is_some (lookup_put runs_equal.eq-value.it keys_swap keys_join es k true m) ∙ or_some (runs_equal.eq-value.it m k) (lookup (runs_equal.eq-value.it m) es)
      ∙ both (runs_equal.eq-value.it m k) (has_run es object function)
      ∙ (λ i. keeps.runs object function i || (nat_turn object k.object ∙ ap (λ n. nat_eq n object) object_is) i && (nat_turn function k.function ∙ ap (λ n. nat_eq n function) function_is) i)
      ∙ sym (any_last (runs_at object function) (map record_of list) (record_of r)) ∙ ap (list_any (runs_at object function)) (sym (map_last list))

  pub still_keeps_runs : KeepsRuns (list ++ r ∷ []) (insert_entry runs_equal.eq-value.it es k true)
  still_keeps_runs = record { runs = runs_last }

-- the process of a number with another entry
module _ (xs : List Record) (k : ℕ) (r new : Record) (below : k < length xs) (there : r ≡ get_or xs k r) (object_is : new.object ≡ r.object) (function_is : new.function ≡ r.function) where
  pub runs_stay : RunSame xs (set xs k new)
  runs_stay object function = stay xs k below there
    where
      stay : (xs : List Record) (k : ℕ) → k < length xs → r ≡ get_or xs k r → list_any (runs_at object function) (map record_of xs) ≡ list_any (runs_at object function) (map record_of (set xs k new))
      stay [] k h e = absurd (omega arith)
      stay (x ∷ xs) zero h e =
          let same : r ≡ x = e in
          λ i. (nat_eq ((ap (λ z. z.object) (sym same) ∙ sym object_is) i) object && nat_eq ((ap (λ z. z.function) (sym same) ∙ sym function_is) i) function) || list_any (runs_at object function) (map record_of xs)
      stay (x ∷ xs) (suc k) h e = let l : k < length xs = omega arith in ap (λ z. runs_at object function (record_of x) || z) (stay xs k l e)

set_is : (xs : List Record) (k : ℕ) (r new : Record) (f : Declared → Declared) → k < length xs → r ≡ get_or xs k r → record_of new ≡ f (record_of r) → map record_of (set xs k new) ≡ changed_at k f (map record_of xs)
set_is [] k r new f l e h = absurd (omega arith)
set_is (x ∷ xs) zero r new f l e h = let same : r ≡ x = e in λ i. (h ∙ ap (λ z. f (record_of z)) same) i ∷ map record_of xs
set_is (x ∷ xs) (suc k) r new f l e h = let m : k < length xs = omega arith in ap (λ z. record_of x ∷ z) (set_is xs k r new f m e h)

map_more : {A B : Type 0} (f : A → B) (xs ys : List A) → map f (xs ++ ys) ≡ map f xs ++ map f ys
map_more f [] ys = refl
map_more f (x ∷ xs) ys = ap (λ zs. f x ∷ zs) (map_more f xs ys)

pub reset_given : {A E : Type 0} (res : Result A E) (xs : List Record) (k : ℕ) (r new : Record) (x : ResetItem) → k < length xs → r ≡ get_or xs k r
    → new.object ≡ r.object → new.function ≡ r.function → new.place ≡ r.place → new.is_thread ≡ r.is_thread → new.items ≡ r.items → OnOk res (new.resets.items ≡ r.resets.items ++ x ∷ [])
    → OnOk res (map record_of (set xs k new) ≡ changed_at k (with_reset (reset_of x)) (map record_of xs))
reset_given (Ok a) xs k r new x l e o f p t i h = set_is xs k r new (with_reset (reset_of x)) l e
    (λ z. record { object = o z; function = f z; place = p z; is_thread = t z; items = map item_of (i z).items; resets = (ap (map reset_of) h ∙ map_more reset_of r.resets.items (x ∷ [])) z })
reset_given (Err a) xs k r new x l e o f p t i h = tt

pub items_given : {A E : Type 0} (res : Result A E) (xs : List Record) (k : ℕ) (r new : Record) (more : List Item) → k < length xs → r ≡ get_or xs k r
    → new.object ≡ r.object → new.function ≡ r.function → new.place ≡ r.place → new.is_thread ≡ r.is_thread → new.resets ≡ r.resets → OnOk res (new.items.items ≡ r.items.items ++ more)
    → OnOk res (map record_of (set xs k new) ≡ changed_at k (with_items (map item_of more)) (map record_of xs))
items_given (Ok a) xs k r new more l e o f p t i h = set_is xs k r new (with_items (map item_of more)) l e
    (λ z. record { object = o z; function = f z; place = p z; is_thread = t z; resets = map reset_of (i z).items; items = (ap (map item_of) h ∙ map_more item_of r.items.items more) z })
items_given (Err a) xs k r new more l e o f p t i h = tt

pub kept_runs : (list new : List Record) (es now : List (Runs × Bool)) → KeepsRuns list es → (r : Record) (k : Runs) → k.object ≡ r.object → k.function ≡ r.function → new ≡ list ++ r ∷ [] → now ≡ insert_entry runs_equal.eq-value.it es k true → KeepsRuns new now
kept_runs list new es now keeps r k a b e f = subst (λ z. KeepsRuns z now) (sym e) (subst (λ z. KeepsRuns (list ++ r ∷ []) z) (sym f) (still_keeps_runs list es keeps r k a b))

pub kept_same : (old new : List Record) (es : List (Runs × Bool)) → KeepsRuns old es → RunSame old new → KeepsRuns new es
kept_same old new es keeps h = record { runs = λ object function. keeps.runs object function ∙ h object function }
