-- Live parts of processes, one by one.
use Rattle.std.proofs.Common.{◌≡◌, refl, sym, ap, ◌∙◌, subst, arith, ℕ, zero, suc, ◌+◌, ◌<◌, ◌≤◌, ◌^◌, Bool, List, [], ◌∷◌, ◌++◌, map, take, add-one, get_or, length, Option, Some, None}
use Rattle.std.proofs.Math.Seq.{take-suc}
use denote.Ref.{Bor}
use Rattle.scc_core.specs.declared.places.Places.{Places}
use Rattle.scc_core.specs.declared.program.Cell.{Cell}
use Rattle.scc_core.specs.declared.program.Core.{Core}
use Rattle.scc_core.specs.declared.program.CoreProcess.{CoreProcess}
use Rattle.scc_core.specs.declared.program.VectorSize2.{VectorSize2}
use Rattle.scc_core.specs.declared.statics.Known.{Known}
use Rattle.scc_core.specs.declared.stmt.CoreStmt.{CoreStmt}
use Rattle.scc_core.specs.Known.{counted}
use Rattle.scc_core.specs.Tables.{IsTable}
use Rattle.scc_core_flow.specs.Live.{AreWholeTests, DecidesAll, Each, HasWholeTests, tests_in}
use Rattle.scc_core_spec.specs.Live.{alive, live}
use Rattle.scc_core_spec.specs.Static.{Cells}
use Rattle.scc_core_static_laws.specs.Held.{Knows}
use Rattle.scc_core_view.specs.Codes.{code_of}
use Rattle.scc_core_view.specs.Programs.{cells_of, process_of, program_of}
use Rattle.scc_core_view.specs.Whole.{AreWholeCells, IsWhole}
use Rattle.scc_rules.specs.declared.facts.Facts.{Facts}
use Rattle.scc_rules.specs.declared.facts.Lives.{Lives}
use Rattle.scc_rules.specs.Stands.{HasBodies, HasLives}

pub each_turned : {A : Type 0} (P Q : A → Type 0) → ((x : A) → P x → Q x) → (xs : List A) → Each P xs → Each Q xs
each_turned P Q f [] e = tt
each_turned P Q f (x ∷ xs) e = (f x e.0, each_turned P Q f xs e.1)

not_below : (i : ℕ) → i < 0 → ⊥
not_below i h = omega arith

less : {A : Type 0} (i : ℕ) (x : A) (xs : List A) → suc i < length (x ∷ xs) → i < length xs
less i x xs h = omega arith

pub each_at : {A : Type 0} (P : A → Type 0) (xs : List A) (i : ℕ) (x : A) → i < length xs → x ≡ get_or xs i x → Each P xs → P x
each_at P [] i x h is e = absurd (not_below i h)
each_at P (y ∷ ys) zero x h is e = subst P (sym is) e.0
each_at P (y ∷ ys) (suc i) x h is e = each_at P ys i x (less i y ys h) is e.1

map_last : {A B : Type 0} (f : A → B) (xs : List A) (x : A) → map f (xs ++ x ∷ []) ≡ map f xs ++ f x ∷ []
map_last f [] x = refl
map_last f (y ∷ ys) x = ap (λ zs. f y ∷ zs) (map_last f ys x)

map_map : {A B C : Type 0} (f : B → C) (g : A → B) (xs : List A) → map f (map g xs) ≡ map (λ x. f (g x)) xs
map_map f g [] = refl
map_map f g (x ∷ xs) = ap (λ ys. f (g x) ∷ ys) (map_map f g xs)

pub one_live : (cs : Cells) (ps : List CoreProcess) (p : CoreProcess) (l m : Lives) (body : List CoreStmt) (ends : Bool) → HasBodies cs ps l → code_of body ≡ live cs (code_of p.body) → ends ≡ (alive cs (code_of p.body)).ends
    → m.bodies.items ≡ l.bodies.items ++ body ∷ [] → m.ends.items ≡ l.ends.items ++ ends ∷ [] → HasBodies cs (ps ++ p ∷ []) m
one_live cs ps p l m body ends h is told bodies end = record {
  bodies = ap (map code_of) bodies ∙ map_last code_of l.bodies.items body ∙ ap (λ xs. xs ++ code_of body ∷ []) h.bodies ∙ ap (λ c. map (λ q. live cs (code_of q.body)) ps ++ c ∷ []) is
      ∙ sym (map_last (λ q. live cs (code_of q.body)) ps p);
  ends = end ∙ ap (λ xs. xs ++ ends ∷ []) h.ends ∙ ap (λ b. map (λ q. (alive cs (code_of q.body)).ends) ps ++ b ∷ []) told ∙ sym (map_last (λ q. (alive cs (code_of q.body)).ends) ps p);
}

pub no_lives : (cs : Cells) (l : Lives) → l.bodies.items ≡ [] → l.ends.items ≡ [] → HasBodies cs [] l
no_lives cs l b e = record { bodies = ap (map code_of) b; ends = e }

pub more_lives : (cs : Cells) (ps : List CoreProcess) (i : ℕ) (p : CoreProcess) (m : Lives) → i < length ps → p ≡ get_or ps i p → HasBodies cs (take i ps ++ p ∷ []) m → HasBodies cs (take (i + 1) ps) m
more_lives cs ps i p m h is b = subst (λ qs. HasBodies cs qs m) (sym (ap (λ k. take k ps) (add-one i) ∙ take-suc ps i p h ∙ ap (λ q. take i ps ++ q ∷ []) (sym is))) b

-- of a core
pub lives_told : (c : Core) (f : Facts) (l : Lives) → HasBodies (cells_of c) c.processes l → f.lives ≡ l.bodies → f.ends ≡ l.ends → HasLives f (program_of c)
lives_told c f l h b e = record {
  lives = ap (λ v. map code_of v.items) b ∙ h.bodies ∙ sym (map_map (λ q. live (cells_of c) q.body) process_of c.processes);
  ends = ap (λ v. v.items) e ∙ h.ends ∙ sym (map_map (λ q. (alive (cells_of c) q.body).ends) process_of c.processes);
}

pub each_decided : (c : Core) (known : Known) → ((ss : List CoreStmt) → Each (IsWhole c.cells) (tests_in ss) → DecidesAll known (cells_of c) ss) → HasWholeTests c
    → Each (λ p. DecidesAll known (cells_of c) p.body) c.processes
each_decided c known f h = each_turned (AreWholeTests c) (λ p. DecidesAll known (cells_of c) p.body) (λ p w. f p.body w) c.processes h.tests

some_same : {A : Type 0} {a b : A} → Some a ≡ Some b → a ≡ b
some_same {A = A} {a = a} e = ap unwrapped e
  where
    unwrapped : Option A → A
    unwrapped None = a
    unwrapped (Some x) = x

-- what is known by a table alone
pub knows_table : (known : Known) (cells : List Cell) (vs : List VectorSize2) (b : Bor Places) → known.cells.now ≡ cells → length cells ≤ 2 ^ 32 → known.places ≡ Some b → known.counters ≡ None → IsTable b.now cells vs
    → Knows known cells []
knows_table known cells vs b same few at none t = record {
  cells_are = same;
  count = few;
  places = λ q e. record { vectors = vs; table = subst (λ x. IsTable x.now cells vs) (some_same (sym at ∙ e)) t };
  counters = λ n. ap (λ o. counted o n) none;
}
