-- What a walk over ways does at each statement.
use Rattle.std.proofs.Common.{◌≡◌, refl, ℕ, suc, Bool, true, false, ◌+◌, ◌≤◌, ◌<◌, ◌||◌, nat_eq, subst, ap, sym, ◌∙◌, List, [], ◌∷◌, ◌++◌, drop, drop-cons, add-one, get_or, length, arith, append_assoc, Option, Some, None}
use Rattle.std.specs.Prelude.{filter}
use Rattle.scc_base.specs.declared.refusal.Place.{Place}
use Rattle.scc_core.specs.declared.expr.CoreExpr.{CoreExpr}
use Rattle.scc_core.specs.declared.expr.CoreLeft.{CoreLeft}
use Rattle.scc_core.specs.declared.stmt.CoreStmt.{CoreStmt, fold-roll-CoreStmt, ind-CoreStmt}
use Rattle.scc_core.specs.declared.stmt.CoreNode.{CoreNode, fold-CoreNode, fold-roll-CoreNode}
use Rattle.scc_core.specs.declared.stmt.CoreNode.TheVariants as given
use Rattle.scc_core.specs.declared.stmt.CoreNode.TheOpen.{CoreNode-F}
use Rattle.scc_core.specs.declared.stmt.CoreNode.TheOpen as node
use Rattle.scc_core.specs.declared.stmt.Count.{Count as Counting}
use Rattle.scc_core.specs.declared.stmt.Pointed.{Pointed as Aimed}
use Rattle.scc_core_spec.specs.Code.{Code, End, Put, Aim, If, Block, Loop, Exit, Wait}
use Rattle.scc_core_spec.specs.First.{or_else, first_of}
use Rattle.scc_core_spec.specs.Flow.{Idle, idle, then_idle, idle_loops}
use Rattle.scc_core_spec.specs.Rules.{waits as waits_in}
use Rattle.scc_core_view.specs.Codes.{Node, stmt_node, stmt_step, stmt_code, code_of, before}
use Rattle.scc_core_view.proofs.Layers.{assigns, tests, blocks, loops, exits, waits, aims}
use Rattle.scc_rules_walks.specs.declared.ways.Out.{Out}
use Rattle.scc_rules_walks.specs.Ways.{Way, least, pass, cut, start, marked, within, AreWithin, Passed, first_loop}
use Rattle.scc_rules_walks.proofs.Idle.{Adds, Along, put_adds, if_adds, block_adds, made, or_else_both, or_else_more, or_else_none, pass_both, marked_none, marked_more, marked_last, marked_start, marked_waited, cut_same, along_next, or_false}

adds : (y : CoreNode-F Node (Code → Code)) (p : Place) → Adds (stmt_node y p)
adds (node.Assign l e) p = put_adds _ (λ c. refl) (λ c. refl)
adds (node.If t a b) p = if_adds _ (before a End) (before b End) (λ c. refl) (λ c. refl)
adds (node.Block b) p = block_adds _ (before b End) (λ c. refl) (λ c. refl)
adds (node.Loop n b) p = record {
  idles = λ c. refl;
  places = λ c. around (filter (λ q. (idle (before b End)).ends) (p ∷ [])) (idle_loops (before b End)) (idle_loops c);
}
  where
    around : (a b n : List Place) → a ++ (b ++ n) ≡ (a ++ (b ++ [])) ++ n
    around a b n = ap (λ zs. a ++ zs) (sym (append_assoc b [] n)) ∙ sym (append_assoc a (b ++ []) n)
adds (node.Exit n) p = record { idles = λ c. refl; places = λ c. refl }
adds (node.Wait n) p = record { idles = λ c. refl; places = λ c. refl }
adds (node.Alias to target) p = put_adds _ (λ c. refl) (λ c. refl)

abbrev pub node_fold : CoreNode → Node
node_fold = fold-CoreNode Node (Code → Code) stmt_node stmt_step

pub stmt_adds : (s : CoreStmt) → Adds (stmt_code s)
stmt_adds = ind-CoreStmt (λ n. (p : Place) → Adds (node_fold n p)) (λ s. Adds (stmt_code s))
    (λ x y is p. subst (λ f. Adds (f p)) (sym (fold-roll-CoreNode Node (Code → Code) stmt_node stmt_step x)) (adds _ p))
    (λ x y is. subst (λ f. Adds f) (sym (fold-roll-CoreStmt Node (Code → Code) stmt_node stmt_step x)) (subst (λ n. Adds (node_fold n x.place)) (ap (λ z. z.node) is) (y.node.1 x.place)))

-- a statement and those behind it
pub from_here : (ss : List CoreStmt) (i : ℕ) (s : CoreStmt) → i < length ss → s ≡ get_or ss i s → code_of (drop i ss) ≡ stmt_code s (code_of (drop (i + 1) ss))
from_here ss i s h is =
    ap code_of (drop-cons ss i s h)
    ∙ ap (λ x. stmt_code x (code_of (drop (suc i) ss))) (sym is)
    ∙ ap (λ n. stmt_code s (code_of (drop n ss))) (sym (add-one i))

-- a list from one of its statements on
abbrev pub From : List CoreStmt → ℕ → Way → Way → List Out → List Out → Option Place → Option Place → Type 0
From ss i here way outs now first found = Along (idle (code_of ss)) (idle (code_of (drop i ss))) (idle_loops (code_of ss)) (idle_loops (code_of (drop i ss))) here way outs now first found

abbrev pub Walks : List CoreStmt → Way → Way → List Out → List Out → Option Place → Option Place → Type 0
Walks ss here way outs now first found = Passed (idle (code_of ss)) (idle_loops (code_of ss)) here way outs now first found

pub from_next : (ss : List CoreStmt) (i : ℕ) (s : CoreStmt) (here way next : Way) (outs now more : List Out) (first found later : Option Place) → i < length ss → s ≡ get_or ss i s
    → From ss i here way outs now first found → Walks (s ∷ []) way next now more found later → From ss (i + 1) here next outs more first later
from_next ss i s here way next outs now more first found later h is a d =
    let e = from_here ss i s h is in
    along_next _ _ _ _ _ _ _ _ here way next outs now more first found later
    (ap idle e ∙ (stmt_adds s).idles (code_of (drop (i + 1) ss))) (ap idle_loops e ∙ (stmt_adds s).places (code_of (drop (i + 1) ss))) a d

nothing_then : (e : Bool) (l : ℕ → Bool) → then_idle e l (made true (λ n. false)) ≡ made e l
nothing_then true l = ap (made true) (λ i n. or_false (l n) i)
nothing_then false l = refl

no_more : (xs : List Place) → xs ++ [] ≡ xs
no_more [] = refl
no_more (x ∷ xs) = ap (λ ys. x ∷ ys) (no_more xs)

two_parts : (x y : Idle) (xs ys : List Place) (here a b r : Way) (outs half now : List Out) (first f found : Option Place)
    → Passed x xs here a outs half first f → Passed y ys here b half now f found → r ≡ least a b
    → Passed (made (x.ends || y.ends) (λ n. x.leaves n || y.leaves n)) (xs ++ ys) here r outs now first found
two_parts x y xs ys here a b r outs half now first f found v w is = record {
  ends = is ∙ ap (λ z. least z b) v.ends ∙ ap (least (pass x.ends here)) w.ends ∙ pass_both x.ends y.ends here;
  marks = w.marks ∙ ap (marked y.leaves here) v.marks ∙ marked_more x.leaves y.leaves here outs;
  places = w.places ∙ ap (λ o. or_else o (first_of Some ys)) v.places ∙ or_else_more first (first_of Some xs) (first_of Some ys) ∙ ap (or_else first) (sym (or_else_both xs ys));
}

at_node : (x y : Idle) (xs ys : List Place) (here way : Way) (outs now : List Out) (first found : Option Place) → x ≡ y → xs ≡ ys → Passed y ys here way outs now first found → Passed x xs here way outs now first found
at_node x y xs ys here way outs now first found a b p = subst (λ z. Passed z xs here way outs now first found) (sym a) (subst (λ zs. Passed y zs here way outs now first found) (sym b) p)

pub walks_if : (s : CoreStmt) (t : CoreExpr) (ps qs ys zs : List CoreStmt) (here a b r : Way) (outs half now : List Out) (first f found : Option Place) → s.node ≡ given.If t ps qs
    → ys ≡ ps → zs ≡ qs → Walks ys here a outs half first f → Walks zs here b half now f found → r ≡ least a b → Walks (s ∷ []) here r outs now first found
walks_if s t ps qs ys zs here a b r outs half now first f found is same other u q e =
    let v : Walks ps here a outs half first f = subst (λ l. Walks l here a outs half first f) same u in
    let w : Walks qs here b half now f found = subst (λ l. Walks l here b half now f found) other q in
    let x = idle (code_of ps) in let y = idle (code_of qs) in
    at_node _ _ _ _ here r outs now first found
    (ap idle (tests s t ps qs is End) ∙ nothing_then (x.ends || y.ends) (λ n. x.leaves n || y.leaves n))
    (ap idle_loops (tests s t ps qs is End) ∙ ap (λ zs. idle_loops (code_of ps) ++ zs) (no_more (idle_loops (code_of qs))))
    (two_parts x y _ _ here a b r outs half now first f found v w e)

abbrev tail : {A : Type 0} → List A → List A
tail [] = []
tail (x ∷ xs) = xs

abbrev head : {A : Type 0} → A → List A → A
head d [] = d
head d (x ∷ xs) = x

not_none : (n : ℕ) → 0 ≡ suc n → ⊥
not_none n h = omega arith

never_empty : {A : Type 0} (xs : List A) (x : A) → [] ≡ xs ++ x ∷ [] → ⊥
never_empty [] x h = not_none 0 (ap length h)
never_empty (y ∷ ys) x h = not_none (length (ys ++ x ∷ [])) (ap length h)

same_front : {A : Type 0} (xs ys : List A) (x y : A) → xs ++ x ∷ [] ≡ ys ++ y ∷ [] → (xs ≡ ys) × (x ≡ y)
same_front [] [] x y h = (refl, ap (head x) h)
same_front [] (z ∷ zs) x y h = absurd (never_empty zs y (ap tail h))
same_front (w ∷ ws) [] x y h = absurd (never_empty ws x (sym (ap tail h)))
same_front (w ∷ ws) (z ∷ zs) x y h =
    let rest = same_front ws zs x y (ap tail h) in
    (ap (λ v. v ∷ ws) (ap (head w) h) ∙ ap (λ vs. z ∷ vs) rest.0, rest.1)

abbrev out_of : Way → ℕ → Out
out_of w d = record { way = w; depth = d }

in_block : (x : Idle) (xs : List Place) (depth : ℕ) (here e r : Way) (outs pushed popped now : List Out) (o : Out) (first found : Option Place)
    → within depth here → pushed ≡ outs ++ out_of None depth ∷ [] → Passed x xs here e pushed popped first found → popped ≡ now ++ o ∷ [] → r ≡ least e o.way
    → Passed (made (x.ends || x.leaves 0) (λ n. x.leaves (suc n))) xs here r outs now first found
in_block x xs depth here e r outs pushed popped now o first found i is p pops told =
    let q = same_front now (marked (λ n. x.leaves (suc n)) here outs) o (out_of (pass (x.leaves 0) (cut depth here)) depth)
    (sym pops ∙ p.marks ∙ ap (marked x.leaves here) is ∙ marked_last x.leaves here outs (out_of None depth)) in
    record {
      ends = told ∙ ap (λ z. least z o.way) p.ends ∙ ap (λ z. least (pass x.ends here) z.way) q.1 ∙ ap (λ z. least (pass x.ends here) (pass (x.leaves 0) z)) (cut_same depth here i) ∙ pass_both x.ends (x.leaves 0) here;
      marks = q.0;
      places = p.places;
    }

pub walks_block : (s : CoreStmt) (body ys : List CoreStmt) (depth : ℕ) (here e r : Way) (outs pushed popped now : List Out) (o : Out) (first found : Option Place) → s.node ≡ given.Block body
    → within depth here → pushed ≡ outs ++ out_of None depth ∷ [] → ys ≡ body → Walks ys here e pushed popped first found → popped ≡ now ++ o ∷ [] → r ≡ least e o.way
    → Walks (s ∷ []) here r outs now first found
walks_block s body ys depth here e r outs pushed popped now o first found is i h same u pops told =
    let p : Walks body here e pushed popped first found = subst (λ l. Walks l here e pushed popped first found) same u in
    let x = idle (code_of body) in
    at_node _ _ _ _ here r outs now first found
    (ap idle (blocks s body is End) ∙ nothing_then (x.ends || x.leaves 0) (λ n. x.leaves (suc n)))
    (ap idle_loops (blocks s body is End) ∙ no_more (idle_loops (code_of body)))
    (in_block x _ depth here e r outs pushed popped now o first found i h p pops told)

passed_loop : (b : Bool) (p : Place) (xs : List Place) (first found later : Option Place) (e : Way) (h : ℕ) → e ≡ pass b (Some h) → found ≡ or_else first (first_of Some xs)
    → later ≡ first_loop first found e p → later ≡ or_else first (first_of Some (filter (λ q. b) (p ∷ []) ++ xs))
passed_loop true p xs None found later e h is f told = told ∙ ap (λ z. first_loop None found z p) is
passed_loop true p xs (Some q) found later e h is f told = told ∙ f
passed_loop false p xs None found later e h is f told = told ∙ ap (λ z. first_loop None found z p) is ∙ f
passed_loop false p xs (Some q) found later e h is f told = told ∙ f

in_loop : (p : Place) (x : Idle) (xs : List Place) (depth : ℕ) (here e : Way) (outs now : List Out) (first found later : Option Place)
    → AreWithin depth outs → Passed x xs (Some (start (depth + 1) here)) e outs now first found → later ≡ first_loop first found e p
    → Passed (made false x.leaves) (filter (λ q. x.ends) (p ∷ []) ++ xs) here None outs now first later
in_loop p x xs depth here e outs now first found later i d told = record {
  ends = refl;
  marks = d.marks ∙ marked_start x.leaves depth here outs i;
  places = passed_loop x.ends p xs first found later e (start (depth + 1) here) d.ends d.places told;
}

pub walks_loop : (s : CoreStmt) (n : Option Counting) (body ys : List CoreStmt) (depth inner h : ℕ) (here e : Way) (outs now : List Out) (first found later : Option Place) → s.node ≡ given.Loop n body
    → inner ≡ depth + 1 → AreWithin depth outs → ys ≡ body → h ≡ start inner here → Walks ys (Some h) e outs now first found → later ≡ first_loop first found e s.place
    → Walks (s ∷ []) here None outs now first later
walks_loop s n body ys depth inner h here e outs now first found later is at i same begins u told =
    let d : Walks body (Some (start inner here)) e outs now first found
    = subst (λ l. Walks l (Some (start inner here)) e outs now first found) same (subst (λ m. Walks ys (Some m) e outs now first found) begins u) in
    let x = idle (code_of body) in
    at_node _ _ _ _ here None outs now first later
    (ap idle (loops s n body is End))
    (ap idle_loops (loops s n body is End) ∙ ap (λ zs. filter (λ q. x.ends) (s.place ∷ []) ++ zs) (no_more (idle_loops (code_of body))))
    (in_loop s.place x _ depth here e outs now first found later i (subst (λ m. Passed x (idle_loops (code_of body)) (Some (start m here)) e outs now first found) at d) told)

pub walks_exit : (s : CoreStmt) (n : ℕ) (here : Way) (outs now : List Out) (first : Option Place) → s.node ≡ given.Exit n → now ≡ marked (λ m. nat_eq m n) here outs → Walks (s ∷ []) here None outs now first first
walks_exit s n here outs now first is e =
    at_node _ (made false (λ m. nat_eq m n)) _ [] here None outs now first first (ap idle (exits s n is End)) (ap idle_loops (exits s n is End))
    (record { ends = refl; marks = e; places = sym (or_else_none first) })

pub walks_wait : (s : CoreStmt) (n : ℕ) (here : Way) (outs : List Out) (first : Option Place) → s.node ≡ given.Wait n → Walks (s ∷ []) here None outs outs first first
walks_wait s n here outs first is =
    at_node _ (made false (λ n. false)) _ [] here None outs outs first first (ap idle (waits s n is End)) (ap idle_loops (waits s n is End))
    (record { ends = refl; marks = sym (marked_none here outs); places = sym (or_else_none first) })

passes : (here : Way) (outs : List Out) (first : Option Place) → Passed (made true (λ n. false)) [] here here outs outs first first
passes here outs first = record { ends = refl; marks = sym (marked_none here outs); places = sym (or_else_none first) }

pub walks_put : (s : CoreStmt) (l : CoreLeft) (e : CoreExpr) (here : Way) (outs : List Out) (first : Option Place) → s.node ≡ given.Assign l e → Walks (s ∷ []) here here outs outs first first
walks_put s l e here outs first is = at_node _ _ _ [] here here outs outs first first (ap idle (assigns s l e is End)) (ap idle_loops (assigns s l e is End)) (passes here outs first)

pub walks_aim : (s : CoreStmt) (to : Aimed) (l : CoreLeft) (here : Way) (outs : List Out) (first : Option Place) → s.node ≡ given.Alias to l → Walks (s ∷ []) here here outs outs first first
walks_aim s to l here outs first is = at_node _ _ _ [] here here outs outs first first (ap idle (aims s to l is End)) (ap idle_loops (aims s to l is End)) (passes here outs first)

pub from_all : (ss ts : List CoreStmt) (here way : Way) (outs now : List Out) (first found : Option Place) → ts ≡ []
    → Along (idle (code_of ss)) (idle (code_of ts)) (idle_loops (code_of ss)) (idle_loops (code_of ts)) here way outs now first found → Walks ss here way outs now first found
from_all ss ts here way outs now first found none a =
    let b : Along (idle (code_of ss)) (idle End) (idle_loops (code_of ss)) [] here way outs now first found
    = subst (λ zs. Along (idle (code_of ss)) (idle (code_of zs)) (idle_loops (code_of ss)) (idle_loops (code_of zs)) here way outs now first found) none a in
    record { ends = b.ends; marks = sym (marked_none way now) ∙ b.marks; places = sym (or_else_none found) ∙ b.places }

-- waits of a statement before others
waits_around : (a n : List Place) → a ++ n ≡ (a ++ []) ++ n
waits_around a n = sym (append_assoc a [] n)

waits_around_two : (a b n : List Place) → a ++ (b ++ n) ≡ (a ++ (b ++ [])) ++ n
waits_around_two a b n = ap (λ x. a ++ x) (waits_around b n) ∙ sym (append_assoc a (b ++ []) n)

record WaitsAdd (f : Code → Code) : Type 0 where
  pub waits_add : (c : Code) → waits_in (f c) ≡ waits_in (f End) ++ waits_in c

wait_adds : (y : CoreNode-F Node (Code → Code)) (p : Place) → WaitsAdd (stmt_node y p)
wait_adds (node.Assign l e) p = record { waits_add = λ c. refl }
wait_adds (node.If t a b) p = record { waits_add = λ c. waits_around_two (waits_in (before a End)) (waits_in (before b End)) (waits_in c) }
wait_adds (node.Block b) p = record { waits_add = λ c. waits_around (waits_in (before b End)) (waits_in c) }
wait_adds (node.Loop n b) p = record { waits_add = λ c. waits_around (waits_in (before b End)) (waits_in c) }
wait_adds (node.Exit n) p = record { waits_add = λ c. refl }
wait_adds (node.Wait n) p = record { waits_add = λ c. refl }
wait_adds (node.Alias to target) p = record { waits_add = λ c. refl }

stmt_waits : (s : CoreStmt) → WaitsAdd (stmt_code s)
stmt_waits = ind-CoreStmt (λ n. (p : Place) → WaitsAdd (node_fold n p)) (λ s. WaitsAdd (stmt_code s))
    (λ x y is p. subst (λ f. WaitsAdd (f p)) (sym (fold-roll-CoreNode Node (Code → Code) stmt_node stmt_step x)) (wait_adds _ p))
    (λ x y is. subst (λ f. WaitsAdd f) (sym (fold-roll-CoreStmt Node (Code → Code) stmt_node stmt_step x)) (subst (λ n. WaitsAdd (node_fold n x.place)) (ap (λ z. z.node) is) (y.node.1 x.place)))

pub wait_here : (ss : List CoreStmt) (i : ℕ) (s : CoreStmt) → i < length ss → s ≡ get_or ss i s
    → first_of Some (waits_in (code_of (drop i ss))) ≡ or_else (first_of Some (waits_in (code_of (s ∷ [])))) (first_of Some (waits_in (code_of (drop (i + 1) ss))))
wait_here ss i s h is =
    ap (λ c. first_of Some (waits_in c)) (from_here ss i s h is)
    ∙ ap (first_of Some) ((stmt_waits s).waits_add (code_of (drop (i + 1) ss)))
    ∙ or_else_both (waits_in (code_of (s ∷ []))) (waits_in (code_of (drop (i + 1) ss)))

pub wait_found : (ss : List CoreStmt) (i : ℕ) (s : CoreStmt) (p : Place) → i < length ss → s ≡ get_or ss i s → Some p ≡ first_of Some (waits_in (code_of (s ∷ [])))
    → first_of Some (waits_in (code_of (drop i ss))) ≡ first_of Some (waits_in (code_of ss)) → Some p ≡ first_of Some (waits_in (code_of ss))
wait_found ss i s p h is some all = ap (λ o. or_else o (first_of Some (waits_in (code_of (drop (i + 1) ss))))) some ∙ sym (wait_here ss i s h is) ∙ all

pub wait_next : (ss : List CoreStmt) (i : ℕ) (s : CoreStmt) → i < length ss → s ≡ get_or ss i s → None ≡ first_of Some (waits_in (code_of (s ∷ [])))
    → first_of Some (waits_in (code_of (drop i ss))) ≡ first_of Some (waits_in (code_of ss)) → first_of Some (waits_in (code_of (drop (i + 1) ss))) ≡ first_of Some (waits_in (code_of ss))
wait_next ss i s h is none all = ap (λ o. or_else o (first_of Some (waits_in (code_of (drop (i + 1) ss))))) none ∙ sym (wait_here ss i s h is) ∙ all

pub wait_if : (s : CoreStmt) (t : CoreExpr) (a b ys zs : List CoreStmt) (x y r : Option Place) → s.node ≡ given.If t a b → ys ≡ a → zs ≡ b → x ≡ first_of Some (waits_in (code_of ys)) → y ≡ first_of Some (waits_in (code_of zs))
    → r ≡ or_else x y → r ≡ first_of Some (waits_in (code_of (s ∷ [])))
wait_if s t a b ys zs x y r is same other h k told =
    told ∙ ap (λ o. or_else o y) (h ∙ ap (λ q. first_of Some (waits_in (code_of q))) same)
    ∙ ap (or_else (first_of Some (waits_in (code_of a)))) (k ∙ ap (λ q. first_of Some (waits_in (code_of q))) other)
    ∙ sym (or_else_both (waits_in (code_of a)) (waits_in (code_of b)))
    ∙ ap (λ zs. first_of Some (waits_in (code_of a) ++ zs)) (sym (no_more (waits_in (code_of b))))
    ∙ sym (ap (λ c. first_of Some (waits_in c)) (tests s t a b is End))
