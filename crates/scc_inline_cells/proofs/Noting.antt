-- What is noted of members, statement by statement.
use Rattle.std.proofs.Common.{append_assoc, slice_get, option_map, ◌≡◌, refl, sym, ap, subst, ◌∙◌, arith, ℕ, zero, suc, ◌+◌, ◌-◌, ◌≤◌, take, OnOk, Result, Ok, Err, Bool, true, false, cond, ◌&&◌, ◌||◌, nat_eq, List, [], ◌∷◌, ◌++◌, map, drop, length, get_or, ◌<◌, Option, Some, None, is_some, Bor}
use Rattle.std.specs.List.{list_any}
use Rattle.std.specs.Map.{lookup}
use Rattle.std.proofs.lemmas.List.Folds.{list_any-append}
use Rattle.scc_base.specs.declared.refusal.Place.{Place as Spot}
use Rattle.scc_plain_tree.specs.declared.stmt.PlainArg.{PlainArg}
use Rattle.scc_plain_tree.specs.declared.stmt.PlainStmt.{PlainStmt, fold-roll-PlainStmt, ind-PlainStmt}
use Rattle.scc_plain_tree.specs.declared.stmt.PlainNode.{PlainNode, fold-PlainNode, fold-roll-PlainNode}
use Rattle.scc_plain_tree.specs.declared.stmt.PlainNode.TheOpen.{PlainNode-F, PlainStmt-F}
use Rattle.scc_plain_tree.specs.declared.stmt.PlainNode.TheOpen as node
use Rattle.scc_elab_spec.specs.Term.{Argument, Leads, Value, ModuleName}
use Rattle.scc_elab_spec.specs.Program.{Code, End, Function, Plain}
use Rattle.scc_elab_spec.specs.Types.{Place, same_member, arguments, is_constructor, moved, moved_from, written, last_member, addressed}
use Rattle.scc_plain_view.specs.Codes.{Node, stmt_node, stmt_step, stmt_code, code_of, before}
use Rattle.std.proofs.lemmas.Option.{slice_get-map}
use Rattle.scc_plain_tree.specs.declared.program.Plain.{Plain as Tree}
use Rattle.scc_plain_tree.specs.declared.program.PlainFunction.{PlainFunction}
use Rattle.scc_plain_view.specs.Plains.{plain_of, function_of}
use Rattle.scc_plain_view.specs.Terms.{argument_of, left_of, target_of}
use Rattle.scc_inline_cells.specs.declared.locations.MemberOf.{MemberOf}
use Rattle.scc_inline_cells.specs.declared.moving.Moving.{Moving}
use Rattle.scc_inline_cells.specs.declared.statements.Parts.{Parts}
use Rattle.scc_inline_cells.specs.Spots.{place_of}
use Rattle.scc_inline_cells.specs.Moved.{among, argument_moved, left_moved, target_moved, args_moved, list_moved, own_moved, parts_moved, pending}
use Rattle.scc_inline_cells.specs.Noted.{same_key, moves, noted, Adds}

-- ---- truth

or_assoc : (a b c : Bool) → ((a || b) || c) ≡ (a || (b || c))
or_assoc true b c = refl
or_assoc false b c = refl

or_turn : (a b : Bool) → (a || b) ≡ (b || a)
or_turn true true = refl
or_turn true false = refl
or_turn false true = refl
or_turn false false = refl

or_false : (a : Bool) → (a || false) ≡ a
or_false true = refl
or_false false = refl

among_both : (m : MemberOf) (ps qs : List Place) → among m (ps ++ qs) ≡ (among m ps || among m qs)
among_both m ps qs = list_any-append (same_member (place_of m)) ps qs

-- ---- further members

pub noted_then : (a b : Moving) (ps qs : List Place) (m : MemberOf) → Adds a b ps → noted b qs m ≡ noted a (ps ++ qs) m
noted_then a b ps qs m h = ap (λ x. x || among m qs) (h m) ∙ or_assoc (moves a m) (among m ps) (among m qs) ∙ ap (λ x. moves a m || x) (sym (among_both m ps qs))

pub adds_none : (a : Moving) → Adds a a []
adds_none a m = sym (or_false (moves a m))

pub adds_then : (a b c : Moving) (ps qs : List Place) → Adds a b ps → Adds b c qs → Adds a c (ps ++ qs)
adds_then a b c ps qs h g m = g m ∙ noted_then a b ps qs m h

pub adds_end : (a b : Moving) (ps : List Place) → ((m : MemberOf) → noted b [] m ≡ noted a ps m) → Adds a b ps
adds_end a b ps h m = sym (or_false (moves b m)) ∙ h m

eq_is : (a b : ℕ) → nat_eq a b ≡ true → a ≡ b
eq_is a b e = grind (arith, e)

eq_self : (a : ℕ) → nat_eq a a ≡ true
eq_self a = grind arith

nat_turn : (a b : ℕ) → nat_eq a b ≡ nat_eq b a
nat_turn a b = by (nat_eq a b) (nat_eq b a) refl refl
  where
    by : (c d : Bool) → nat_eq a b ≡ c → nat_eq b a ≡ d → nat_eq a b ≡ nat_eq b a
    by true d e f = let p : a ≡ b = eq_is a b e in e ∙ sym (ap (λ n. nat_eq n a) (sym p) ∙ eq_self a)
    by false true e f = let p : b ≡ a = eq_is b a f in let s : nat_eq a b ≡ true = ap (λ n. nat_eq a n) p ∙ eq_self a in s ∙ sym f
    by false false e f = e ∙ sym f

is_cond : (b : Bool) (o : Option Bool) → is_some (cond b (Some true) o) ≡ (is_some o || b)
is_cond true o = sym (or_turn (is_some o) true)
is_cond false o = sym (or_false (is_some o))

pub adds_one : (a b : Moving) (m : MemberOf) → ((q : MemberOf) → moves b q ≡ is_some (cond (same_key m q) (Some true) (lookup (same_key q) a.members.entries))) → Adds a b (place_of m ∷ [])
adds_one a b m h q = h q ∙ is_cond (same_key m q) (lookup (same_key q) a.members.entries) ∙ ap (λ x. moves a q || x) (λ i. nat_turn m.class q.class i && nat_turn m.member q.member i) ∙ ap (λ x. moves a q || x) (sym (or_false (same_key q m)))

-- ---- statements before others

module _ (m : MemberOf) where
  pub split_one : (w c : List Place) → among m (w ++ c) ≡ (among m (w ++ []) || among m c)
  split_one w c = among_both m w c ∙ ap (λ x. x || among m c) (sym (among_both m w [] ∙ or_false (among m w)))

  split_two : (v w c : List Place) → among m (v ++ (w ++ c)) ≡ (among m (v ++ (w ++ [])) || among m c)
  split_two v w c = among_both m v (w ++ c) ∙ ap (λ x. among m v || x) (split_one w c) ∙ sym (or_assoc (among m v) (among m (w ++ [])) (among m c)) ∙ ap (λ x. x || among m c) (sym (among_both m v (w ++ [])))

  module _ (p : Plain) (f : Function) (b : Bool) where
    record Leads_on (g : Code → Code) : Type 0 where
      first : (c : Code) → among m (moved p f b (g c)) ≡ (among m (moved p f b (g End)) || among m (moved p f b c))

    leads : (y : PlainNode-F Node (Code → Code)) (q : Spot) → Leads_on (stmt_node y q)
    leads (node.Declare n) q = record { first = λ c. refl }
    leads (node.Assign l e) q = record { first = λ c. split_one (written b (last_member p f (left_of l))) (moved p f b c) }
    leads (node.Point l t) q = record { first = λ c. split_two (written b (last_member p f (left_of l))) (addressed p f (target_of t)) (moved p f b c) }
    leads (node.Write l e) q = record { first = λ c. split_one (written b (last_member p f (left_of l))) (moved p f b c) }
    leads (node.Call n g o args) q = record { first = λ c. split_one (arguments p f (map argument_of args)) (moved p f b c) }
    leads (node.If t yes_part no_part) q = record { first = λ c. split_two (moved p f b (before yes_part End)) (moved p f b (before no_part End)) (moved p f b c) }
    leads (node.Loop n body) q = record { first = λ c. split_one (moved p f b (before body End)) (moved p f b c) }
    leads (node.Block body) q = record { first = λ c. split_one (moved p f b (before body End)) (moved p f b c) }
    leads (node.Exit n) q = record { first = λ c. refl }
    leads (node.Return e) q = record { first = λ c. refl }
    leads (node.Wait n) q = record { first = λ c. refl }
    leads (node.Make l k args) q = record { first = λ c. split_two (written b (last_member p f (left_of l))) (arguments p f (map argument_of args)) (moved p f b c) }
    leads (node.Bind l to) q = record { first = λ c. refl }
    leads (node.Process t g e) q = record { first = λ c. refl }
    leads (node.Sense items) q = record { first = λ c. refl }
    leads node.Quiet q = record { first = λ c. refl }
    leads (node.Reset s e a) q = record { first = λ c. refl }

    abbrev node_fold : PlainNode → Node
    node_fold = fold-PlainNode Node (Code → Code) stmt_node stmt_step

    stmt_leads : (s : PlainStmt) → Leads_on (stmt_code s)
    stmt_leads = ind-PlainStmt (λ n. (q : Spot) → Leads_on (node_fold n q)) (λ s. Leads_on (stmt_code s))
        (λ x y is q. subst (λ g. Leads_on (g q)) (sym (fold-roll-PlainNode Node (Code → Code) stmt_node stmt_step x)) (leads _ q))
        (λ x y is. subst (λ g. Leads_on g) (sym (fold-roll-PlainStmt Node (Code → Code) stmt_node stmt_step x)) (subst (λ n. Leads_on (node_fold n x.place)) (ap (λ z. z.node) is) (y.node.1 x.place)))

    pub first_of_list : (s : PlainStmt) (ss : List PlainStmt) → among m (moved p f b (code_of (s ∷ ss))) ≡ (among m (moved p f b (stmt_code s End)) || among m (moved p f b (code_of ss)))
    first_of_list s ss = (stmt_leads s).first (code_of ss)

    -- the last list comes first
    pub pending_snoc : (ls : List (Bor (List PlainStmt))) (l : Bor (List PlainStmt)) → among m (pending p f b (ls ++ l ∷ [])) ≡ (among m (moved p f b (code_of l.now)) || among m (pending p f b ls))
    pending_snoc [] l = among_both m (moved p f b (code_of l.now)) []
    pending_snoc (x ∷ ls) l =
        let a = among m (moved p f b (code_of x.now)) in
        let d = among m (moved p f b (code_of l.now)) in
        let r = among m (pending p f b ls) in
        among_both m (moved p f b (code_of x.now)) (pending p f b (ls ++ l ∷ [])) ∙ ap (λ z. a || z) (pending_snoc ls l) ∙ sym (or_assoc a d r) ∙ ap (λ z. z || r) (or_turn a d) ∙ or_assoc d a r
        ∙ ap (λ z. d || z) (sym (among_both m (moved p f b (code_of x.now)) (pending p f b ls)))

    -- one more list, and the lists that a statement holds
    pub put_is : (ls new : List (Bor (List PlainStmt))) (l : Bor (List PlainStmt)) → new ≡ ls ++ l ∷ [] → among m (pending p f b new) ≡ (among m (moved p f b (code_of l.now)) || among m (pending p f b ls))
    put_is ls new l e = ap (λ z. among m (pending p f b z)) e ∙ pending_snoc ls l

    pub both_put : (x y : List Place) (ls mid new : List (Bor (List PlainStmt))) → among m (pending p f b mid) ≡ (among m y || among m (pending p f b ls)) → among m (pending p f b new) ≡ (among m x || among m (pending p f b mid))
        → among m (pending p f b new) ≡ (among m (x ++ (y ++ [])) || among m (pending p f b ls))
    both_put x y ls mid new e g = g ∙ ap (λ z. among m x || z) e ∙ sym (or_assoc (among m x) (among m y) (among m (pending p f b ls)))
        ∙ ap (λ z. z || among m (pending p f b ls)) (ap (λ z. among m x || z) (sym (or_false (among m y)) ∙ sym (among_both m y [])) ∙ sym (among_both m x (y ++ [])))

-- ---- arguments one after another

arguments_on : (p : Plain) (f : Function) (a : Argument) (as_given : List Argument) → arguments p f (a ∷ as_given) ≡ argument_moved p f a ++ arguments p f as_given
arguments_on p f (Leads t) as_given = refl
arguments_on p f (Value e) as_given = refl
arguments_on p f ModuleName as_given = refl

-- what is left from an item on
drop_at : {A B : Type 0} (view : A → B) (xs : List A) (i : ℕ) (x : A) → i < length xs → x ≡ get_or xs i x → map view (drop i xs) ≡ view x ∷ map view (drop (i + 1) xs)
drop_at view [] i x h e = absurd (omega arith)
drop_at view (y ∷ ys) zero x h e = let d : x ≡ y = e in λ i. view (sym d i) ∷ map view ys
drop_at view (y ∷ ys) (suc i) x h e =
    let a : i < length ys = omega arith in
    let d : suc i + 1 ≡ suc (i + 1) = omega arith in
    drop_at view ys i x a e ∙ ap (λ n. view x ∷ map view (drop n (y ∷ ys))) (sym d)

pub arguments_go : (p : Plain) (f : Function) (a b : Moving) (all : List Place) (xs : List PlainArg) (i : ℕ) (x : PlainArg) (first : Moving) → i < length xs → x ≡ get_or xs i x
    → ((m : MemberOf) → noted a (arguments p f (map argument_of (drop i xs))) m ≡ noted first all m) → Adds a b (argument_moved p f (argument_of x))
    → (m : MemberOf) → noted b (arguments p f (map argument_of (drop (i + 1) xs))) m ≡ noted first all m
arguments_go p f a b all xs i x first h e inv adds m =
    noted_then a b (argument_moved p f (argument_of x)) (arguments p f (map argument_of (drop (i + 1) xs))) m adds
    ∙ ap (λ ps. noted a ps m) (sym (arguments_on p f (argument_of x) (map argument_of (drop (i + 1) xs))) ∙ sym (ap (arguments p f) (drop_at argument_of xs i x h e))) ∙ inv m

-- ---- steps of the walk

on_ok : {A X : Type 0} (r : Result A X) (P Q : Type 0) → (P → Q) → OnOk r P → OnOk r Q
on_ok (Ok a) P Q f h = f h
on_ok (Err e) P Q f h = tt

pub put_ok : {A X : Type 0} (r : Result A X) (ls new : List (Bor (List PlainStmt))) (o : Option (Bor (List PlainStmt))) (l : Bor (List PlainStmt)) → o ≡ Some l → OnOk r (new ≡ ls ++ l ∷ [])
    → OnOk r ((p : Plain) (f : Function) (c : Bool) (m : MemberOf) → among m (pending p f c new) ≡ (among m (list_moved p f c o) || among m (pending p f c ls)))
put_ok r ls new o l e = on_ok r _ _ (λ h p f c m. put_is m p f c ls new l h ∙ ap (λ z. among m (list_moved p f c z) || among m (pending p f c ls)) (sym e))

regroup : (a o x r l : Bool) → ((a || o) || (x || (r || l))) ≡ (a || (((o || x) || r) || l))
regroup true o x r l = refl
regroup false true x r l = refl
regroup false false true r l = refl
regroup false false false r l = refl

module _ (p : Plain) (f : Function) (b : Bool) where
  split_own : (m : MemberOf) (x : Parts) (c : List Place) → among m (own_moved p f b x c) ≡ (among m (own_moved p f b x []) || among m c)
  split_own m x c =
      let u = left_moved p f b x.left in
      let v = target_moved p f x.target in
      let w = args_moved p f x.args in
      among_both m u (v ++ (w ++ c)) ∙ ap (λ z. among m u || z) (split_two m v w c) ∙ sym (or_assoc (among m u) (among m (v ++ (w ++ []))) (among m c)) ∙ ap (λ z. z || among m c) (sym (among_both m u (v ++ (w ++ []))))

  next_is : (first mid : Moving) (ls held new : List (Bor (List PlainStmt))) (rest : Bor (List PlainStmt)) (s : PlainStmt) (list : List PlainStmt) (x : Parts)
      → held ≡ ls ++ rest ∷ [] → ((p : Plain) (f : Function) (c : Bool) → parts_moved p f c x ≡ moved p f c (stmt_code s End)) → Adds first mid (own_moved p f b x [])
      → s ∷ rest.now ≡ list
      → ((p : Plain) (f : Function) (c : Bool) (m : MemberOf) → among m (pending p f c new) ≡ (among m (list_moved p f c x.first ++ (list_moved p f c x.second ++ [])) || among m (pending p f c held)))
      → (m : MemberOf) → noted mid (pending p f b new) m ≡ noted first (moved p f b (code_of list) ++ pending p f b ls) m
  next_is first mid ls held new rest s list x a parts adds l ent m =
      let lists = list_moved p f b x.first ++ (list_moved p f b x.second ++ []) in
      let r = among m (moved p f b (code_of rest.now)) in
      let others = among m (pending p f b ls) in
      (λ i. adds m i || (ent p f b m ∙ ap (λ z. among m lists || z) (put_is m p f b ls held rest a)) i)
      ∙ regroup (moves first m) (among m (own_moved p f b x [])) (among m lists) r others
      ∙ ap (λ z. moves first m || ((z || r) || others)) (sym (split_own m x lists) ∙ ap (among m) (parts p f b))
      ∙ ap (λ z. moves first m || (z || others)) (sym (first_of_list m p f b s rest.now) ∙ ap (λ z. among m (moved p f b (code_of z))) l)
      ∙ ap (λ z. moves first m || z) (sym (among_both m (moved p f b (code_of list)) (pending p f b ls)))

  pub next_ok : {A X : Type 0} (r : Result A X) (first mid : Moving) (ls held new : List (Bor (List PlainStmt))) (rest : Bor (List PlainStmt)) (s : PlainStmt) (list : List PlainStmt) (x : Parts)
      → held ≡ ls ++ rest ∷ [] → ((p : Plain) (f : Function) (c : Bool) → parts_moved p f c x ≡ moved p f c (stmt_code s End)) → Adds first mid (own_moved p f b x [])
      → s ∷ rest.now ≡ list
      → OnOk r ((p : Plain) (f : Function) (c : Bool) (m : MemberOf) → among m (pending p f c new) ≡ (among m (list_moved p f c x.first ++ (list_moved p f c x.second ++ [])) || among m (pending p f c held)))
      → OnOk r ((m : MemberOf) → noted mid (pending p f b new) m ≡ noted first (moved p f b (code_of list) ++ pending p f b ls) m)
  next_ok r first mid ls held new rest s list x a parts adds l = on_ok r _ _ (next_is first mid ls held new rest s list x a parts adds l)

  pub list_goes : (now next : Moving) (ls before : List (Bor (List PlainStmt))) (l : Bor (List PlainStmt)) (new : List (Bor (List PlainStmt))) (m : MemberOf) → before ≡ ls ++ l ∷ []
      → noted next (pending p f b new) m ≡ noted now (moved p f b (code_of l.now) ++ pending p f b ls) m → noted next (pending p f b new) m ≡ noted now (pending p f b before) m
  list_goes now next ls before l new m e h = h ∙ ap (λ z. moves now m || z) (among_both m (moved p f b (code_of l.now)) (pending p f b ls) ∙ sym (pending_snoc m p f b ls l) ∙ ap (λ z. among m (pending p f b z)) (sym e))

-- a list by its first and the others
take_all : {A : Type 0} (xs : List A) → take (length xs) xs ≡ xs
take_all [] = refl
take_all (x ∷ xs) = ap (λ ys. x ∷ ys) (take_all xs)

pub slice_is : {A : Type 0} (xs : List A) (s : A) → 1 ≤ length xs → s ≡ get_or xs 0 s → s ∷ take (length xs - 1) (drop 1 xs) ≡ xs
slice_is [] s a e = absurd (omega arith)
slice_is (x ∷ xs) s a e = λ i. e i ∷ (ap (λ n. take n xs) (less (length xs)) ∙ take_all xs) i
  where
    less : (n : ℕ) → suc n - 1 ≡ n
    less n = omega arith

pub function_ok : {A X : Type 0} (r : Result A X) (a b c : Moving) (ps os qs rs : List Place) → ps ≡ os → Adds a b ps → qs ≡ rs → OnOk r (Adds b c qs) → OnOk r (Adds a c (os ++ rs))
function_ok r a b c ps os qs rs d h e = on_ok r _ _ (λ g. subst (λ x. Adds a c (x ++ rs)) d (subst (λ z. Adds a c (ps ++ z)) e (adds_then a b c ps qs h g)))

-- ---- functions one after another

drop-at : {A : Type 0} (xs : List A) (i : ℕ) (x : A) → slice_get xs i ≡ Some x → drop i xs ≡ x ∷ drop (suc i) xs
drop-at [] i x e = cc
drop-at (y ∷ ys) zero x e = let same : y ≡ x = cc in ap (λ z. z ∷ ys) same
drop-at (y ∷ ys) (suc i) x e = drop-at ys i x e

moved_from_on : (p : Plain) (n : ℕ) (f : Function) (fs : List Function) → moved_from p n (f ∷ fs) ≡ (moved p f true f.inits ++ moved p f (is_constructor p f n) f.body) ++ moved_from p (suc n) fs
moved_from_on p n f fs = sym (append_assoc (moved p f true f.inits) (moved p f (is_constructor p f n) f.body) (moved_from p (suc n) fs))

pub functions_go : (t : Tree) (n : ℕ) (f : PlainFunction) (a b : Moving) (first : Moving) (all : List Place) → slice_get t.functions n ≡ Some f
    → ((m : MemberOf) → noted a (moved_from (plain_of t) n (drop n (plain_of t).functions)) m ≡ noted first all m)
    → Adds a b (moved (plain_of t) (function_of f) true (function_of f).inits ++ moved (plain_of t) (function_of f) (is_constructor (plain_of t) (function_of f) n) (function_of f).body)
    → (m : MemberOf) → noted b (moved_from (plain_of t) (n + 1) (drop (n + 1) (plain_of t).functions)) m ≡ noted first all m
functions_go t n f a b first all there inv adds m =
    let p = plain_of t in
    let g = function_of f in
    let mine = moved p g true g.inits ++ moved p g (is_constructor p g n) g.body in
    noted_then a b mine (moved_from p (n + 1) (drop (n + 1) p.functions)) m adds
    ∙ ap (λ k. noted a (mine ++ moved_from p k (drop k p.functions)) m) (next n)
    ∙ ap (λ ps. noted a ps m) (sym (moved_from_on p n g (drop (suc n) p.functions)) ∙ ap (moved_from p n) (sym (drop-at p.functions n g (slice_get-map function_of t.functions n ∙ ap (option_map function_of) there))))
    ∙ inv m
  where
    next : (i : ℕ) → i + 1 ≡ suc i
    next i = omega arith
