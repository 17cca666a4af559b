-- A switch writes what is bounded: tests leave no more blocks than labels make, and what stands behind a label stands in as many blocks more as labels follow.
use Rattle.std.proofs.Common.{◌≡◌, ℕ, suc, ◌+◌, ◌<◌, ◌≤◌, Bool, true, false, ◌&&◌, List, [], ◌∷◌, ◌++◌, length, Option, Some, None, option_map, ◌-◌, refl, sym, ap, ◌∙◌, subst, if◌then◌else◌, arith}
use Rattle.std.specs.Prelude.{nat_lt}
use Rattle.scc_base.specs.declared.refusal.Place.{Place}
use Rattle.scc_bits_kinds.specs.declared.kind.Kind.{Kind}
use Rattle.scc_bits_kinds.specs.Counts.{promoted}
use Rattle.scc_bits_kinds.specs.Groups.{group_of, is_small}
use Rattle.scc_bits_kinds.specs.declared.op.Op.TheVariants as op
use Rattle.scc_bits.specs.Value.{Number}
use Rattle.scc_templates_spec.specs.World.{World}
use Rattle.scc_templates_spec.specs.Tree.{Tree, place_of}
use Rattle.scc_templates_spec.specs.Statements.{Stmts, Declare, Items, Local}
use Rattle.scc_templates_spec.specs.Source.{Source}
use Rattle.scc_elab_spec.specs.Term.{Term, Whole}
use Rattle.scc_elab_spec.specs.Term as term
use Rattle.scc_elab_spec.specs.Program.{Reach, Direct}
use Rattle.scc_elab_spec.specs.Program as code
use Rattle.scc_plain_spec.specs.Types.{OfNumber}
use Rattle.scc_plain_spec.specs.Scope.{Answer}
use Rattle.scc_plain_spec.specs.Calls.{constant}
use Rattle.scc_plain_spec.specs.Drafts.{Draft, kind_in, drafted, literal}
use Rattle.scc_plain_spec.specs.Room.{Around, Known, Writes, nothing, then_write}
use Rattle.scc_plain_spec.specs.Shapes.{shape}
use Rattle.scc_plain_spec.specs.Expressions.{value}
use Rattle.scc_plain_spec.specs.Single.{local}
use Rattle.scc_plain_laws.proofs.Walks.{Finds, Gives, gives-found, gives-then, gives-if, gives-none, gives-done, finds-pure, finds-behind, finds-then}
use Rattle.scc_plain_laws.proofs.Named.{Names}
use Rattle.scc_plain_laws.proofs.Calls.{IsTypedDraft, converted-finds}
use Rattle.scc_plain_laws.proofs.Expressions.{operate-finds, value-gives}
use Rattle.scc_plain_bounds_laws.specs.Bounds.{leaves}
use Rattle.scc_plain_bounds_laws.specs.Within.{within_code, within_term}
use Rattle.scc_plain_bounds_laws.proofs.Before.{Before, length-next, lt-true, next, same, on}
use Rattle.scc_plain_bounds_laws.proofs.Bounded.{Bounded, Mark, both, plain, none, in-turn, exit, block, weaker}
use Rattle.scc_plain_bounds_laws.proofs.Flushes.{IsRoom, lifts, Flushes, flush-done, flush-keep, flush-then, flush-declare, written-at}
use Rattle.scc_plain_bounds_laws.proofs.Within.{below, names-later, term-within, Knows, knows-more, knows-later, assign-plain}
use Rattle.scc_plain_spec.specs.Switch.{Flow, in_cases, Label, Cases, labels_in, no_cases, unless_met, test, leaving, behind_label, at_case, at_default, behind_stmts, declared_from, numbers_from, exit_number, switched}
use Rattle.scc_plain_spec.specs.Switch.{is_direct as is_number}
use Rattle.scc_plain_spec.specs.Bodies.{Selected, case, otherwise, selected, selector_name, small_one}

abbrev pub Under : Option ℕ → ℕ → Type 0
Under None d = Unit {0}
Under (Some n) d = n < d

-- a depth at which `break` and `continue` leave blocks
abbrev pub Fits : Flow → ℕ → Type 0
Fits f d = Under f.leave d × Under f.next d

-- in a `switch`, in as many blocks as labels are still to come
abbrev IsIn : Flow → ℕ → ℕ → Type 0
IsIn f left d = (e : ℕ) × Fits f e × (d ≡ suc e + left)

next-under : (n : Option ℕ) (left d e : ℕ) → d ≡ suc e + left → Under n e → Under (option_map (λ n. n + (left + 1)) n) d
next-under None left d e z u = tt
next-under (Some n) left d e z u = omega (arith, z, u)

fits-cases : (f : Flow) (left d : ℕ) → IsIn f left d → Fits (in_cases left f) d
fits-cases f left d a = ((let z = a.2 in omega (arith, z)), next-under f.next left d a.0 a.2 a.1.1)

abbrev IsDefault : ℕ → Option ℕ → Type 0
IsDefault m None = Unit {0}
IsDefault m (Some n) = n ≤ m

default-later : (m : ℕ) (o : Option ℕ) → IsDefault m o → IsDefault (m + 1) o
default-later m None d = tt
default-later m (Some n) d = omega (arith, d)

exit-within : (c : Cases) (o : Option ℕ) → c.default ≡ o → IsDefault c.met o → exit_number c ≤ c.met
exit-within c None g d = let q : exit_number c ≡ c.met = rw g refl in subst (λ n. n ≤ c.met) (sym q) (omega arith)
exit-within c (Some n) g d = let q : exit_number c ≡ n = rw g refl in subst (λ n. n ≤ c.met) (sym q) d

-- the blocks so far, round what is bounded at depths from a number on
-- and what is known there
pub record IsCases (v : Bool) (f : Flow) (lo hi : Mark) (left : ℕ) (c : Cases) : Type 0 where
  pub still : c.left ≡ left
  pub default : IsDefault c.met c.default
  pub tests : (m : Mark) → Before lo.locals m.locals → Bounded v (λ d. c.met ≤ d) m m c.tests
  pub blocks : (head : Writes) (b : ℕ) → ((m : Mark) → Before lo.locals m.locals → Bounded v (λ d. b ≤ d) m m head) → Bounded v (λ d. (b ≤ d + c.met) × IsIn f left d) lo hi (c.blocks head)
  pub known : Knows hi.locals c.known
  pub numbers : Knows hi.locals c.numbers

pub cases-begin : (v : Bool) (f : Flow) (lo : Mark) (ks : List Known) (is : Items) → Knows lo.locals ks → IsCases v f lo lo (labels_in is) (no_cases ks is)
cases-begin v f lo ks is known = record {
  still = refl;
  default = tt;
  tests = λ m z. none v (λ d. 0 ≤ d) m;
  blocks = λ head b h. weaker v (λ d. (b ≤ d + 0) × IsIn f (labels_in is) d) (λ d w. let z = w.0 in omega (arith, z)) (h lo (same lo.locals));
  known = known;
  numbers = known;
}

label-cases : (v : Bool) (f : Flow) (lo hi : Mark) (left : ℕ) (c : Cases) (l : Label) (x : Writes) (o : Option ℕ) → IsCases v f lo hi (suc left) c → ((m : Mark) → Before lo.locals m.locals → Bounded v (λ d. c.met + 1 ≤ d) m m x) → IsDefault (c.met + 1) o
    → IsCases v f lo hi left (behind_label c l x o)
label-cases v f lo hi left c l x o k t d = record {
  still = let z : suc left - 1 ≡ left = omega arith in ap (λ n. n - 1) k.still ∙ z;
  default = d;
  tests = λ m z. in-turn v (λ d. c.met + 1 ≤ d) (weaker v (λ d. c.met + 1 ≤ d) (λ d w. omega (arith, w)) (k.tests m z)) (t m z);
  blocks = λ head b h. block v (λ d. (b ≤ d + (c.met + 1)) × IsIn f left d) (λ d. (b ≤ d + c.met) × IsIn f (suc left) d)
      (λ d w. ((let z = w.0 in omega (arith, z)), (w.1.0, w.1.1, (let z = w.1.2 in omega (arith, z))))) l.place (c.blocks head) (k.blocks head b h);
  known = k.numbers;
  numbers = k.numbers;
}

-- how many locals statements declare that begin with declarations
abbrev pub leads : Stmts → ℕ
leads (Declare l r) = leads r + 1
leads b = 0

declared-knows : (b : Stmts) (n : ℕ) (m : List Reach) (ks : List Known) → n + leads b ≤ length m → Knows m ks → Knows m (declared_from n b ks)
declared-knows (Declare l r) n m ks h f = declared-knows r (suc n) m (record { name = l.name; local = n } ∷ ks) (omega (arith, h)) (knows-more m (record { name = l.name; local = n }) ks (omega (arith, h)) f)
declared-knows b n m ks h f = f

numbers-know : (b : Stmts) (n : ℕ) (m : List Reach) (ks : List Known) → n + leads b ≤ length m → Knows m ks → Knows m (numbers_from n b ks)
numbers-know (Declare l r) n m ks h f = numbers-know r (suc n) m (if is_number l.hold then record { name = l.name; local = n } ∷ ks else ks) (omega (arith, h)) (by (is_number l.hold))
  where
    by : (b : Bool) → Knows m (if b then record { name = l.name; local = n } ∷ ks else ks)
    by true = knows-more m (record { name = l.name; local = n }) ks (omega (arith, h)) f
    by false = f
numbers-know b n m ks h f = f

pub stmts-cases : (v : Bool) (f : Flow) (lo mid hi : Mark) (left : ℕ) (c : Cases) (n : ℕ) (s : Stmts) (x : Writes) → n ≡ length mid.locals → IsCases v f lo mid left c → Bounded v (Fits (in_cases c.left f)) mid hi x → length mid.locals + leads s ≤ length hi.locals → IsCases v f lo hi left (behind_stmts c n s x)
stmts-cases v f lo mid hi left c n s x e k a g = record {
  still = k.still;
  default = k.default;
  tests = k.tests;
  blocks = λ head b h. in-turn v (λ d. (b ≤ d + c.met) × IsIn f left d) (k.blocks head b h)
      (weaker v (λ d. (b ≤ d + c.met) × IsIn f left d) (λ d w. fits-cases f c.left d (subst (λ n. IsIn f n d) (sym k.still) w.1)) a);
  known = declared-knows s n hi.locals c.known (omega (arith, e, g)) (knows-later mid.locals hi.locals c.known a.grows k.known);
  numbers = numbers-know s n hi.locals c.numbers (omega (arith, e, g)) (knows-later mid.locals hi.locals c.numbers a.grows k.numbers);
}

pub switched-bounded : (v : Bool) (f : Flow) (lo hi : Mark) (p : Place) (c : Cases) → IsCases v f lo hi 0 c → Bounded v (Fits f) lo hi (switched p c)
switched-bounded v f lo hi p c k =
    let head : Writes = then_write c.tests (λ m j. code.Exit p (exit_number c) j) in
    let w = exit-within c c.default refl k.default in
    let h : (m : Mark) → Before lo.locals m.locals → Bounded v (λ d. suc c.met ≤ d) m m head = λ m z. in-turn v (λ d. suc c.met ≤ d) (weaker v (λ d. suc c.met ≤ d) (λ d u. omega (arith, u)) (k.tests m z))
    (exit v (λ d. suc c.met ≤ d) m p (exit_number c) (λ d u. omega (arith, u, w))) in
    block v (Fits f) (λ d. (suc c.met ≤ d + c.met) × IsIn f 0 d) (λ d u. (omega arith, (d, u, omega arith))) p (c.blocks head) (k.blocks head (suc c.met) h)

leaving-bounded : (v : Bool) (b : ℕ) (m : Mark) (p : Place) (n : ℕ) (t : Term) → n < b → ((c : List Reach) → Before m.locals c → within_term c t ≡ true) → Bounded v (λ d. b ≤ d) m m (leaving p n t)
leaving-bounded v b m p n t h i = plain v (λ d. b ≤ d) m (λ j c k. omega arith) (λ j c d w e. both (nat_lt n d && true) (true && leaves v d c) (both (nat_lt n d) true (lt-true n d (omega (arith, w, h))) refl) e)
    (λ j c k z w. both (within_term k t) (true && (true && within_code k c)) (i k z) w)

test-named : (m : List Reach) (p : Place) (n : ℕ) (k : Kind) (e : Place) (i : Number) → nat_lt n (length m) ≡ true → Finds (Names (below m)) (test p n k e i)
test-named m p n k e i h = finds-then (operate-finds (below m) p p op.Eq (drafted p (term.Load p k (term.Local p n))) (literal e i) h tt) (λ x t. finds-pure t)

module _ (v : Bool) (s : Source) (w : World Answer) (a : Around) (f : Flow) where
  pub case-finds : (lo hi : Mark) (left : ℕ) (c : Cases) (x : Selected) (p : Place) (e : Tree) → nat_lt x.local (length lo.locals) ≡ true → IsCases v f lo hi (suc left) c → Gives (IsRoom v hi hi.locals) (IsCases v f lo hi left) (case s w a c x p e)
  case-finds lo hi left c x p e there k = gives-found (finds-behind (constant s w a c.numbers false p e) (λ i. finds-then (test-named lo.locals p x.local (kind_in x.draft) (place_of e) i there) (λ t named. finds-behind (unless_met c (record { value = Some i; place = p })) (λ u.
      finds-pure {x = at_case c p i t} (label-cases v f lo hi left c (record { value = Some i; place = p }) (leaving p c.met t) c.default k (λ m z. leaving-bounded v (c.met + 1) m p c.met t (omega arith) (λ b h. term-within lo.locals b (on z h) t named)) (default-later c.met c.default k.default))))))

  pub otherwise-finds : (lo hi : Mark) (left : ℕ) (c : Cases) (p : Place) → IsCases v f lo hi (suc left) c → Gives (IsRoom v hi hi.locals) (IsCases v f lo hi left) (otherwise s w a c p)
  otherwise-finds lo hi left c p k = gives-found (finds-behind (unless_met c (record { value = None; place = p })) (λ u.
      finds-pure {x = at_default c p} (label-cases v f lo hi left c (record { value = None; place = p }) nothing (Some c.met) k (λ m z. none v (λ d. c.met + 1 ≤ d) m) (omega arith))))

  abbrev pub IsSelected : Mark → Mark → Selected → Type 0
  IsSelected lo hi x = Bounded v (Fits f) lo hi x.writes × (nat_lt x.local (length hi.locals) ≡ true)

  small-gives : (lo : Mark) (p : Place) (x : Draft) → Names (below lo.locals) x.term → Gives (IsRoom v lo lo.locals) (IsTypedDraft (below lo.locals)) (small_one s w a p x)
  small-gives lo p x t = gives-if (is_small (group_of (kind_in x))) (gives-done {x = x} t) (gives-none (λ r. refl))

  -- the selector's local is a number
  abbrev selector : List Reach → List Reach
  selector m = m ++ Direct ∷ []

  later-term : (m : List Reach) (e : Term) → Names (below m) e → Names (below (selector m)) e
  later-term m e t = names-later m (selector m) (next m Direct) e t

  pub selected-flushes : (lo : Mark) (ks : List Known) → Knows lo.locals ks → (late : Bool) (p : Place) (e : Tree) → Flushes v lo lo.locals (IsSelected lo) (selected s w a ks late p e)
  selected-flushes lo ks known late p e = flush-keep (gives-then (value-gives (below lo.locals) (lifts v lo lo.locals) s w a ks known late e) (λ x t. small-gives lo (place_of e) x t)) (λ x t. flush-keep (gives-found (converted-finds (below lo.locals) (promoted (kind_in x)) x t)) (λ y u.
      flush-declare v lo lo.locals (record { name = selector_name; place = p; shape = record { base = OfNumber (promoted (kind_in x)); reach = Direct; vector = false; sizes = [] } }) (refl, refl) (λ n same.
      let there : nat_lt n (length (selector lo.locals)) ≡ true = lt-true n (length (selector lo.locals)) (let more = length-next lo.locals Direct in omega (arith, same, more)) in
      flush-then {P = λ hi ws. Bounded v (Fits f) lo hi ws × (hi.locals ≡ selector lo.locals)} (written-at v (Fits f) lo (selector lo.locals) (λ i. assign-plain v (Fits f) i (selector lo.locals) p (term.Local p n) Whole y.term there tt (later-term lo.locals y.term u)))
      (λ ws hi b. flush-done {x = record { writes = ws; local = n; draft = y }} (b.0, ap (λ m. nat_lt n (length m)) b.1 ∙ there)))))
