-- What a look at statements counts, and what still waits.
use Rattle.std.proofs.Common.{◌≡◌, refl, sym, ap, subst, ◌∙◌, arith, ℕ, suc, ◌+◌, ◌-◌, ◌≤◌, max, List, [], ◌∷◌, ◌++◌, map, drop, take, length, get_or, Option, Some, slice_get, Result, Ok, Err, OnOk, Bor}
use Rattle.scc_base.specs.declared.refusal.Place.{Place}
use Rattle.scc_plain_tree.specs.declared.stmt.PlainStmt.{PlainStmt, fold-roll-PlainStmt, ind-PlainStmt}
use Rattle.scc_plain_tree.specs.declared.stmt.PlainNode.{PlainNode, fold-PlainNode, fold-roll-PlainNode}
use Rattle.scc_plain_tree.specs.declared.stmt.PlainNode.TheOpen.{PlainNode-F, PlainStmt-F}
use Rattle.scc_plain_tree.specs.declared.stmt.PlainNode.TheOpen as node
use Rattle.scc_elab_spec.specs.Program.{Code, End, Function, Plain}
use Rattle.scc_plain_view.specs.Codes.{Node, stmt_node, stmt_step, stmt_code, code_of, before}
use Rattle.scc_plain_view.specs.Terms.{term_of, argument_of}
use Rattle.std.specs.Prelude.{option_map}
use Rattle.scc_inline_size_laws.specs.Counts.{many, deep, level, size_in, height_in, declared_size, call_size, call_height, returned_size}
use Rattle.scc_inline_facts.specs.declared.extent.Extent.{Extent}
use Rattle.scc_inline_facts.specs.declared.facts.Task.{Task}
use Rattle.scc_inline_facts.specs.declared.facts.Task.TheVariants as task
use Rattle.scc_inline_facts.specs.declared.parts.Parts.{Parts}
use Rattle.scc_inline_facts.specs.Extents.{Grows, reaching}
use Rattle.scc_inline_facts.specs.Parted.{list_height, list_size, own_height, own_size, parts_height, parts_size, raised}
use Rattle.scc_inline_facts.specs.Walked.{Comes_to, task_height, task_size, waiting_height, waiting_size}
use Rattle.scc_inline_facts.proofs.Counted.{reaching_max, reaching_raised, reaching_alike}

pub on_ok : {A X : Type 0} (r : Result A X) (P Q : Type 0) → (P → Q) → OnOk r P → OnOk r Q
on_ok (Ok a) P Q f h = f h
on_ok (Err e) P Q f h = tt

none_first : (n : ℕ) → n ≡ 0 + n
none_first n = omega arith

none_last : (n : ℕ) → n + 0 ≡ n
none_last n = omega arith

none_highest : (n : ℕ) → n ≡ max 0 n
none_highest n = omega arith

-- ---- a statement before others

module _ (sizes heights : ℕ → ℕ) (p : Plain) (f : Function) where
  abbrev long : Code → ℕ
  long = size_in sizes p f

  abbrev high : Code → ℕ
  high = height_in heights p f

  record Leads_on (g : Code → Code) : Type 0 where
    size : (c : Code) → long (g c) ≡ long (g End) + long c
    height : (c : Code) → high (g c) ≡ max (high (g End)) (high c)

  one_long : (n c : ℕ) → n + c ≡ (n + 0) + c
  one_long n c = omega arith

  two_long : (a b c : ℕ) → 1 + (a + (b + c)) ≡ (1 + (a + (b + 0))) + c
  two_long a b c = omega arith

  in_long : (a c : ℕ) → 1 + (a + c) ≡ (1 + (a + 0)) + c
  in_long a c = omega arith

  one_high : (n c : ℕ) → max n c ≡ max (max n 0) c
  one_high n c = omega arith

  leads : (y : PlainNode-F Node (Code → Code)) (q : Place) → Leads_on (stmt_node y q)
  leads (node.Declare n) q = record { size = λ c. one_long (declared_size (slice_get f.locals n)) (long c); height = λ c. one_high (level (declared_size (slice_get f.locals n))) (high c) }
  leads (node.Assign l e) q = record { size = λ c. one_long 1 (long c); height = λ c. one_high 1 (high c) }
  leads (node.Point l t) q = record { size = λ c. one_long 1 (long c); height = λ c. one_high 1 (high c) }
  leads (node.Write l e) q = record { size = λ c. one_long 1 (long c); height = λ c. one_high 1 (high c) }
  leads (node.Call n g o args) q = record { size = λ c. one_long (call_size sizes p g (map argument_of args)) (long c); height = λ c. one_high (call_height heights p g (map argument_of args)) (high c) }
  leads (node.If t a b) q = record { size = λ c. two_long (long (before a End)) (long (before b End)) (long c); height = λ c. one_high (1 + max (high (before a End)) (high (before b End))) (high c) }
  leads (node.Loop n b) q = record { size = λ c. in_long (long (before b End)) (long c); height = λ c. one_high (1 + high (before b End)) (high c) }
  leads (node.Block b) q = record { size = λ c. in_long (long (before b End)) (long c); height = λ c. one_high (1 + high (before b End)) (high c) }
  leads (node.Exit n) q = record { size = λ c. one_long 1 (long c); height = λ c. one_high 1 (high c) }
  leads (node.Return e) q = record { size = λ c. one_long (returned_size (option_map term_of e)) (long c); height = λ c. one_high 1 (high c) }
  leads (node.Wait n) q = record { size = λ c. one_long 1 (long c); height = λ c. one_high 1 (high c) }
  leads (node.Make l k args) q = record { size = λ c. none_first (long c); height = λ c. none_highest (high c) }
  leads (node.Bind l to) q = record { size = λ c. none_first (long c); height = λ c. none_highest (high c) }
  leads (node.Process t g e) q = record { size = λ c. none_first (long c); height = λ c. none_highest (high c) }
  leads (node.Sense items) q = record { size = λ c. none_first (long c); height = λ c. none_highest (high c) }
  leads node.Quiet q = record { size = λ c. none_first (long c); height = λ c. none_highest (high c) }
  leads (node.Reset s e a) q = record { size = λ c. none_first (long c); height = λ c. none_highest (high c) }

  abbrev node_fold : PlainNode → Node
  node_fold = fold-PlainNode Node (Code → Code) stmt_node stmt_step

  stmt_leads : (s : PlainStmt) → Leads_on (stmt_code s)
  stmt_leads = ind-PlainStmt (λ n. (q : Place) → Leads_on (node_fold n q)) (λ s. Leads_on (stmt_code s))
      (λ x y is q. subst (λ g. Leads_on (g q)) (sym (fold-roll-PlainNode Node (Code → Code) stmt_node stmt_step x)) (leads _ q))
      (λ x y is. subst (λ g. Leads_on g) (sym (fold-roll-PlainStmt Node (Code → Code) stmt_node stmt_step x)) (subst (λ n. Leads_on (node_fold n x.place)) (ap (λ z. z.node) is) (y.node.1 x.place)))

  pub first_long : (s : PlainStmt) (ss : List PlainStmt) → long (code_of (s ∷ ss)) ≡ long (stmt_code s End) + long (code_of ss)
  first_long s ss = (stmt_leads s).size (code_of ss)

  pub first_high : (s : PlainStmt) (ss : List PlainStmt) → high (code_of (s ∷ ss)) ≡ max (high (stmt_code s End)) (high (code_of ss))
  first_high s ss = (stmt_leads s).height (code_of ss)

-- ---- what waits

turn_sum : (a b c : ℕ) → a + (b + c) ≡ b + (a + c)
turn_sum a b c = omega arith

turn_max : (a b c : ℕ) → max a (max b c) ≡ max b (max a c)
turn_max a b c = omega arith

pub waits_long : (sizes : ℕ → ℕ) (p : Plain) (f : Function) (ts new : List Task) (t : Task) → new ≡ ts ++ t ∷ [] → waiting_size sizes p f new ≡ task_size sizes p f t + waiting_size sizes p f ts
waits_long sizes p f ts new t e = ap (waiting_size sizes p f) e ∙ last ts
  where
    last : (ts : List Task) → waiting_size sizes p f (ts ++ t ∷ []) ≡ task_size sizes p f t + waiting_size sizes p f ts
    last [] = refl
    last (x ∷ ts) = ap (λ k. task_size sizes p f x + k) (last ts) ∙ turn_sum (task_size sizes p f x) (task_size sizes p f t) (waiting_size sizes p f ts)

pub waits_high : (heights : ℕ → ℕ) (p : Plain) (f : Function) (ts new : List Task) (t : Task) → new ≡ ts ++ t ∷ [] → waiting_height heights p f new ≡ max (task_height heights p f t) (waiting_height heights p f ts)
waits_high heights p f ts new t e = ap (waiting_height heights p f) e ∙ last ts
  where
    last : (ts : List Task) → waiting_height heights p f (ts ++ t ∷ []) ≡ max (task_height heights p f t) (waiting_height heights p f ts)
    last [] = refl
    last (x ∷ ts) = ap (λ k. max (task_height heights p f x) k) (last ts) ∙ turn_max (task_height heights p f x) (task_height heights p f t) (waiting_height heights p f ts)

pub end_long : {A X : Type 0} (r : Result A X) (ts new : List Task) → OnOk r (new ≡ ts ++ task.LoopEnd ∷ []) → OnOk r ((sizes : ℕ → ℕ) (p : Plain) (f : Function) → waiting_size sizes p f new ≡ waiting_size sizes p f ts)
end_long r ts new = on_ok r _ _ (λ e sizes p f. waits_long sizes p f ts new task.LoopEnd e ∙ sym (none_first (waiting_size sizes p f ts)))

pub end_high : {A X : Type 0} (r : Result A X) (ts new : List Task) → OnOk r (new ≡ ts ++ task.LoopEnd ∷ []) → OnOk r ((heights : ℕ → ℕ) (p : Plain) (f : Function) → waiting_height heights p f new ≡ waiting_height heights p f ts)
end_high r ts new = on_ok r _ _ (λ e heights p f. waits_high heights p f ts new task.LoopEnd e ∙ sym (none_highest (waiting_height heights p f ts)))

pub put_long : {A X : Type 0} (r : Result A X) (ts new : List Task) (o : Option (Bor (List PlainStmt))) (l : Bor (List PlainStmt)) (d : ℕ) → o ≡ Some l → OnOk r (new ≡ ts ++ task.Statements l d ∷ [])
    → OnOk r ((sizes : ℕ → ℕ) (p : Plain) (f : Function) → waiting_size sizes p f new ≡ list_size sizes p f o + waiting_size sizes p f ts)
put_long r ts new o l d is = on_ok r _ _ (λ e sizes p f. waits_long sizes p f ts new (task.Statements l d) e ∙ ap (λ z. list_size sizes p f z + waiting_size sizes p f ts) (sym is))

pub put_high : {A X : Type 0} (r : Result A X) (ts new : List Task) (o : Option (Bor (List PlainStmt))) (l : Bor (List PlainStmt)) (d : ℕ) → o ≡ Some l → OnOk r (new ≡ ts ++ task.Statements l d ∷ [])
    → OnOk r ((heights : ℕ → ℕ) (p : Plain) (f : Function) → waiting_height heights p f new ≡ max (reaching d (list_height heights p f o)) (waiting_height heights p f ts))
put_high r ts new o l d is = on_ok r _ _ (λ e heights p f. waits_high heights p f ts new (task.Statements l d) e ∙ ap (λ z. max (reaching d (list_height heights p f z)) (waiting_height heights p f ts)) (sym is))

-- ---- a list by its first and the others

take_all : {A : Type 0} (xs : List A) → take (length xs) xs ≡ xs
take_all [] = refl
take_all (x ∷ xs) = ap (λ ys. x ∷ ys) (take_all xs)

pub slice_is : {A : Type 0} (xs : List A) (s : A) → 1 ≤ length xs → s ≡ get_or xs 0 s → s ∷ take (length xs - 1) (drop 1 xs) ≡ xs
slice_is [] s a e = absurd (omega (arith, a))
slice_is (x ∷ xs) s a e = λ i. e i ∷ (ap (λ n. take n xs) (less (length xs)) ∙ take_all xs) i
  where
    less : (n : ℕ) → suc n - 1 ≡ n
    less n = omega arith

-- ---- steps of the look

module _ (sizes heights : ℕ → ℕ) (p : Plain) (f : Function) where
  size_steps : (now mid own one two held first rest others new : ℕ) → many mid ≡ many (now + own) → own + (one + two) ≡ first → held ≡ rest + others → new ≡ (one + two) + held
      → many (mid + new) ≡ many (now + ((first + rest) + others))
  size_steps now mid own one two held first rest others new a b c d = omega (arith, a, b, c, d)

  max_alike : (a b h k : ℕ) → deep a ≡ deep b → deep h ≡ deep k → deep (max a h) ≡ deep (max b k)
  max_alike a b h k e g = omega (arith, e, g)

  max_apart : (a b c : ℕ) → max (max a b) c ≡ max a (max b c)
  max_apart a b c = omega arith

  max_same : (a b h k : ℕ) → a ≡ b → h ≡ k → max a h ≡ max b k
  max_same a b h k e g = λ i. max (e i) (g i)

  height_steps : (now mid own one two in_one in_two held first rest others new : ℕ) → deep mid ≡ deep (max now own) → deep one ≡ deep in_one → deep two ≡ deep in_two → max own (max one two) ≡ first → held ≡ max rest others → new ≡ max (max in_one in_two) held
      → deep (max mid new) ≡ deep (max now (max (max first rest) others))
  height_steps now mid own one two in_one in_two held first rest others new a b c d e g =
      max_alike mid (max now own) new (max (max one two) held) a (ap deep g ∙ max_alike (max in_one in_two) (max one two) held held (sym (max_alike one in_one two in_two b c)) refl)
      ∙ ap deep (max_apart now own (max (max one two) held)
      ∙ ap (max now) (ap (λ h. max own (max (max one two) h)) e ∙ sym (max_apart own (max one two) (max rest others)) ∙ sym (max_apart (max own (max one two)) rest others) ∙ ap (λ h. max (max h rest) others) d))

  pub statement_is : (now mid : Extent) (ls held new : List Task) (rest : Bor (List PlainStmt)) (s : PlainStmt) (list : List PlainStmt) (x : Parts) (d i : ℕ)
      → held ≡ ls ++ task.Statements rest d ∷ [] → parts_size sizes p f x ≡ size_in sizes p f (stmt_code s End) → parts_height heights p f x ≡ height_in heights p f (stmt_code s End)
      → Grows now mid (own_size sizes p f x) (reaching d (own_height heights p f x)) → s ∷ rest.now ≡ list → deep i ≡ deep (d + 1)
      → waiting_size sizes p f new ≡ (list_size sizes p f x.first + list_size sizes p f x.second) + waiting_size sizes p f held
      → waiting_height heights p f new ≡ max (max (reaching i (list_height heights p f x.first)) (reaching i (list_height heights p f x.second))) (waiting_height heights p f held)
      → Comes_to sizes heights p f mid new (now.size + (size_in sizes p f (code_of list) + waiting_size sizes p f ls)) (max now.height (max (reaching d (height_in heights p f (code_of list))) (waiting_height heights p f ls)))
  statement_is now mid ls held new rest s list x d i is_held is_long is_high own is_list near ent_long ent_high =
      let one = list_height heights p f x.first in
      let two = list_height heights p f x.second in
      let head = height_in heights p f (stmt_code s End) in
      let tail = height_in heights p f (code_of rest.now) in
      let raised_one : deep (reaching d (raised one)) ≡ deep (reaching i one) = ap deep (reaching_raised d one) ∙ reaching_alike (d + 1) i one (sym near) in
      let raised_two : deep (reaching d (raised two)) ≡ deep (reaching i two) = ap deep (reaching_raised d two) ∙ reaching_alike (d + 1) i two (sym near) in
      let parted : max (reaching d (own_height heights p f x)) (max (reaching d (raised one)) (reaching d (raised two))) ≡ reaching d head =
      ap (max (reaching d (own_height heights p f x))) (sym (reaching_max d (raised one) (raised two))) ∙ sym (reaching_max d (own_height heights p f x) (max (raised one) (raised two))) ∙ ap (reaching d) is_high in
      record {
        size = size_steps now.size mid.size (own_size sizes p f x) (list_size sizes p f x.first) (list_size sizes p f x.second) (waiting_size sizes p f held) (size_in sizes p f (stmt_code s End)) (size_in sizes p f (code_of rest.now)) (waiting_size sizes p f ls) (waiting_size sizes p f new)
            own.size is_long (waits_long sizes p f ls held (task.Statements rest d) is_held) ent_long
            ∙ ap (λ z. many (now.size + (z + waiting_size sizes p f ls))) (sym (first_long sizes heights p f s rest.now) ∙ ap (λ l. size_in sizes p f (code_of l)) is_list);
        height = height_steps now.height mid.height (reaching d (own_height heights p f x)) (reaching d (raised one)) (reaching d (raised two)) (reaching i one) (reaching i two) (waiting_height heights p f held) (reaching d head) (reaching d tail) (waiting_height heights p f ls) (waiting_height heights p f new)
            own.height raised_one raised_two parted (waits_high heights p f ls held (task.Statements rest d) is_held) ent_high
            ∙ ap (λ z. deep (max now.height (max z (waiting_height heights p f ls)))) (sym (reaching_max d head tail) ∙ ap (reaching d) (sym (first_high sizes heights p f s rest.now) ∙ ap (λ l. height_in heights p f (code_of l)) is_list));
      }

  on_both : {A X : Type 0} (r : Result A X) (P Q R : Type 0) → (P → Q → R) → OnOk r P → OnOk r Q → OnOk r R
  on_both (Ok a) P Q R k p q = k p q
  on_both (Err e) P Q R k p q = tt

  pub statement_ok : {A X : Type 0} (r : Result A X) (now mid : Extent) (ls held new : List Task) (rest : Bor (List PlainStmt)) (s : PlainStmt) (list : List PlainStmt) (x : Parts) (d i : ℕ)
      → held ≡ ls ++ task.Statements rest d ∷ [] → parts_size sizes p f x ≡ size_in sizes p f (stmt_code s End) → parts_height heights p f x ≡ height_in heights p f (stmt_code s End)
      → Grows now mid (own_size sizes p f x) (reaching d (own_height heights p f x)) → s ∷ rest.now ≡ list → deep i ≡ deep (d + 1)
      → OnOk r ((sizes : ℕ → ℕ) (p : Plain) (f : Function) → waiting_size sizes p f new ≡ (list_size sizes p f x.first + list_size sizes p f x.second) + waiting_size sizes p f held)
      → OnOk r ((heights : ℕ → ℕ) (p : Plain) (f : Function) → waiting_height heights p f new ≡ max (max (reaching i (list_height heights p f x.first)) (reaching i (list_height heights p f x.second))) (waiting_height heights p f held))
      → OnOk r (Comes_to sizes heights p f mid new (now.size + (size_in sizes p f (code_of list) + waiting_size sizes p f ls)) (max now.height (max (reaching d (height_in heights p f (code_of list))) (waiting_height heights p f ls))))
  statement_ok r now mid ls held new rest s list x d i is_held is_long is_high own is_list near = on_both r _ _ _ (λ a b. statement_is now mid ls held new rest s list x d i is_held is_long is_high own is_list near (a sizes p f) (b heights p f))

  ends_long : (a b c : ℕ) → many (a + c) ≡ many (a + (0 + c))
  ends_long a b c = omega arith

  ends_high : (a c : ℕ) → deep (max a c) ≡ deep (max a (max 0 c))
  ends_high a c = omega arith

  -- nothing was at the front of what waits
  pub nothing_goes : (e : Extent) (ts : List Task) → Comes_to sizes heights p f e ts (e.size + (0 + waiting_size sizes p f ts)) (max e.height (max 0 (waiting_height heights p f ts)))
  nothing_goes e ts = record { size = ends_long e.size 0 (waiting_size sizes p f ts); height = ends_high e.height (waiting_height heights p f ts) }

  pub turn_ok : {A X : Type 0} (r : Result A X) (e : Extent) (ts : List Task) → OnOk r (Unit {0}) → OnOk r (Comes_to sizes heights p f e ts (e.size + (0 + waiting_size sizes p f ts)) (max e.height (max 0 (waiting_height heights p f ts))))
  turn_ok (Ok a) e ts h = nothing_goes e ts
  turn_ok (Err a) e ts h = tt

  -- the last that waits is looked at
  pub turn_goes : (now next : Extent) (ls held new : List Task) (t : Task) (n h : ℕ) → held ≡ ls ++ t ∷ [] → Comes_to sizes heights p f now held n h
      → Comes_to sizes heights p f next new (now.size + (task_size sizes p f t + waiting_size sizes p f ls)) (max now.height (max (task_height heights p f t) (waiting_height heights p f ls)))
      → Comes_to sizes heights p f next new n h
  turn_goes now next ls held new t n h e inv step = record {
    size = step.size ∙ ap (λ z. many (now.size + z)) (sym (waits_long sizes p f ls held t e)) ∙ inv.size;
    height = step.height ∙ ap (λ z. deep (max now.height z)) (sym (waits_high heights p f ls held t e)) ∙ inv.height;
  }
