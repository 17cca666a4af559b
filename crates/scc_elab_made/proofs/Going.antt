-- Statements that hold no others run one after another.
use Rattle.std.proofs.Common.{◌≡◌, refl, sym, ap, ◌∙◌, arith, ℕ, zero, suc, ◌+◌, ◌<◌, ◌≤◌, drop, length, List, [], ◌∷◌, Option, Some, slice_get, Result, Ok, Err}
use Rattle.scc_base.specs.declared.refusal.Stop.{Stop}
use Rattle.scc_base.specs.declared.refusal.Stop.TheVariants as stop
use Rattle.scc_plain_tree.specs.declared.stmt.PlainStmt.{PlainStmt}
use Rattle.scc_plain_view.specs.Codes.{code_of, stmt_code}
use Rattle.scc_elab_spec.specs.Construct.{Now, Ran, Fell, Halted, then_run}
use Rattle.scc_elab_spec.specs.Made.{grown_by}
use Rattle.scc_elab_spec.specs.Program.{End, Plain}
use Rattle.scc_elab_works.specs.Hows as how
use Rattle.scc_elab_works.specs.Runs.{Ends}
use Rattle.scc_elab_works.specs.declared.works.Work.{Work}
use Rattle.scc_elab_works.specs.Works.{Stand, Steps, outcome, run_at}
use Rattle.scc_elab_works.proofs.Leading.{same_fell}
use Rattle.scc_elab_made.specs.Goes.{Goes}
use Rattle.scc_elab_made.proofs.Picking.{run_takes}
use Rattle.scc_elab_made.proofs.Stepping.{pass_halts}

drop_at : {A : Type 0} (xs : List A) (i : ℕ) (x : A) → slice_get xs i ≡ Some x → drop i xs ≡ x ∷ drop (i + 1) xs
drop_at [] i x e = cc
drop_at (y ∷ ys) zero x e = let same : y ≡ x = cc in ap (λ z. z ∷ ys) same
drop_at (y ∷ ys) (suc i) x e = let d : suc i + 1 ≡ suc (i + 1) = omega arith in drop_at ys i x e ∙ ap (λ j. x ∷ drop j (y ∷ ys)) (sym d)

drop_all : {A : Type 0} (xs : List A) → drop (length xs) xs ≡ []
drop_all [] = refl
drop_all (x ∷ xs) = drop_all xs

module _ (p : Plain) (a : Stand) (list : List PlainStmt) (i : ℕ) (s : PlainStmt) (there : slice_get list i ≡ Some s) (first n m : Now) (inv : run_at p a (code_of list) first ≡ run_at p a (code_of (drop i list)) n) where
  one : run_at p a (code_of list) first ≡ then_run (run_at p a (stmt_code s End) n) (run_at p a (code_of (drop (i + 1) list)))
  one = inv ∙ ap (λ z. run_at p a (code_of z) n) (drop_at list i s there) ∙ run_takes p a s (drop (i + 1) list) how.All n refl

  pub goes_on : run_at p a (stmt_code s End) n ≡ Fell m → run_at p a (code_of list) first ≡ run_at p a (code_of (drop (i + 1) list)) m
  goes_on e = one ∙ ap (λ q. then_run q (run_at p a (code_of (drop (i + 1) list)))) e

  pub goes_stops : (z : Stop) → Ends {A = Unit {0}} (Err z) m (run_at p a (stmt_code s End) n) → Goes p a list first m (Err z)
  goes_stops (stop.Refused r) e = one ∙ ap (λ q. then_run q (run_at p a (code_of (drop (i + 1) list)))) e
  goes_stops stop.NoMemory e = tt

pub goes_all : (p : Plain) (a : Stand) (list : List PlainStmt) (i : ℕ) (first n : Now) → i ≤ length list → length list ≤ i → run_at p a (code_of list) first ≡ run_at p a (code_of (drop i list)) n
    → Goes p a list first n (Ok (length list))
goes_all p a list i first n below above inv = let same : i ≡ length list = omega (arith, below, above) in
    (omega arith, inv ∙ ap (λ k. run_at p a (code_of (drop k list)) n) same)

pub goes_here : (p : Plain) (a : Stand) (list : List PlainStmt) (i : ℕ) (first n : Now) → i < length list → run_at p a (code_of list) first ≡ run_at p a (code_of (drop i list)) n → Goes p a list first n (Ok i)
goes_here p a list i first n below inv = (omega (arith, below), inv)

pub steps_stop : (A : Type 0) (p : Plain) (a : Stand) (list : List PlainStmt) (first m n : Now) (z : Stop) (ws : List Work) → Goes p a list first m (Err z) → Steps {A = A} p (Err z) ws n (outcome p ws (run_at p a (code_of list) first))
steps_stop A p a list first m n (stop.Refused r) ws e = ap (outcome p ws) e ∙ ap grown_by (pass_halts p ws r)
steps_stop A p a list first m n stop.NoMemory ws e = tt

pub puts_none : (ws : List Work) (a : Stand) (list : List PlainStmt) → list ≡ [] → (p : Plain) (x : Ran) → outcome p ws x ≡ outcome p ws (then_run x (run_at p a (code_of list)))
puts_none ws a list e p x = ap (outcome p ws) (sym (same_fell x) ∙ ap (λ z. then_run x (run_at p a (code_of z))) (sym e))
