-- Initialisers by members run as those that the definitions choose.
use Rattle.std.proofs.Common.{◌≡◌, refl, sym, ap, ◌∙◌, ℕ, Bool, true, false, not, ◌&&◌, List, [], ◌∷◌, ◌++◌, Option, Some, None, if◌then◌else◌}
use Rattle.scc_plain_tree.specs.declared.stmt.PlainStmt.{PlainStmt}
use Rattle.scc_plain_view.specs.Codes.{code_of, stmt_code}
use Rattle.scc_elab_spec.specs.Program.{End, Plain}
use Rattle.scc_elab_spec.specs.Inits.{belongs, owner}
use Rattle.scc_elab_spec.specs.Construct.{Now, Ran, Fell, Left_out, Halted, then_run}
use Rattle.scc_elab_inits.specs.Makes.{begins_make}
use Rattle.scc_elab_groups.specs.Groups.{Tails, backward}
use Rattle.scc_elab_works.specs.Hows.{How}
use Rattle.scc_elab_works.specs.Hows as how
use Rattle.scc_elab_works.specs.Firsts.{takes_first}
use Rattle.scc_elab_works.specs.Works.{Stand, run_at, chosen_of}
use Rattle.scc_elab_works.proofs.Leading.{same_fell}
use Rattle.scc_elab_made.specs.Tails.{filler_run, fillers_run, first_run, tails_run}
use Rattle.scc_elab_made.proofs.Picking.{run_takes, run_passes}

then_then : (q : Ran) (f h : Now → Ran) → then_run (then_run q f) h ≡ then_run q (λ m. then_run (f m) h)
then_then (Fell m) f h = refl
then_then (Left_out d m) f h = refl
then_then (Halted r) f h = refl

module _ (p : Plain) (a : Stand) where
  tails_more : (ts : Tails) (t : List PlainStmt) (x : Ran) → tails_run p a (ts ++ t ∷ []) x ≡ tails_run p a ts (first_run p a t x)
  tails_more [] t x = refl
  tails_more (s ∷ ts) t x = ap (first_run p a s) (tails_more ts t x)

  fillers_more : (ts : Tails) (t : List PlainStmt) (x : Ran) → fillers_run p a (ts ++ t ∷ []) x ≡ fillers_run p a ts (filler_run p a t x)
  fillers_more [] t x = refl
  fillers_more (s ∷ ts) t x = ap (filler_run p a s) (fillers_more ts t x)

  abbrev chosen : How → List PlainStmt → Ran → Ran
  chosen h xs y = then_run y (run_at p a (chosen_of h (code_of xs)))

  one_taken : (h : How) (x : PlainStmt) (xs : List PlainStmt) (y : Ran) → takes_first h (code_of (x ∷ xs)) ≡ true → chosen h (x ∷ xs) y ≡ chosen h xs (then_run y (run_at p a (stmt_code x End)))
  one_taken h x xs y e = (λ i. then_run y (λ n. run_takes p a x xs h n e i)) ∙ sym (then_then y (run_at p a (stmt_code x End)) (run_at p a (chosen_of h (code_of xs))))

  one_passed : (h : How) (x : PlainStmt) (xs : List PlainStmt) (y : Ran) → takes_first h (code_of (x ∷ xs)) ≡ false → chosen h (x ∷ xs) y ≡ chosen h xs y
  one_passed h x xs y e = λ i. then_run y (λ n. run_passes p a x xs h n e i)

  pub tails_are : (m : Option ℕ) (xs : List PlainStmt) (y : Ran) → tails_run p a (backward m xs) y ≡ chosen (how.Of m) xs y
  tails_are m [] y = sym (same_fell y)
  tails_are m (x ∷ xs) y = by (belongs m (owner (code_of (x ∷ xs)))) refl (tails_are m xs)
    where
      by : (b : Bool) → belongs m (owner (code_of (x ∷ xs))) ≡ b → ((z : Ran) → tails_run p a (backward m xs) z ≡ chosen (how.Of m) xs z)
          → tails_run p a (if b then backward m xs ++ (x ∷ xs) ∷ [] else backward m xs) y ≡ chosen (how.Of m) (x ∷ xs) y
      by true e h = tails_more (backward m xs) (x ∷ xs) y ∙ h (first_run p a (x ∷ xs) y) ∙ sym (one_taken (how.Of m) x xs y e)
      by false e h = h y ∙ sym (one_passed (how.Of m) x xs y e)

  pub fillers_are : (n : ℕ) (xs : List PlainStmt) (y : Ran) → fillers_run p a (backward (Some n) xs) y ≡ chosen (how.Without n) xs y
  fillers_are n [] y = sym (same_fell y)
  fillers_are n (x ∷ xs) y = by (belongs (Some n) (owner (code_of (x ∷ xs)))) (begins_make (code_of (x ∷ xs))) refl refl (fillers_are n xs)
    where
      by : (b c : Bool) → belongs (Some n) (owner (code_of (x ∷ xs))) ≡ b → begins_make (code_of (x ∷ xs)) ≡ c → ((z : Ran) → fillers_run p a (backward (Some n) xs) z ≡ chosen (how.Without n) xs z)
          → fillers_run p a (if b then backward (Some n) xs ++ (x ∷ xs) ∷ [] else backward (Some n) xs) y ≡ chosen (how.Without n) (x ∷ xs) y
      by true true e g h = fillers_more (backward (Some n) xs) (x ∷ xs) y ∙ ap (fillers_run p a (backward (Some n) xs)) (ap (λ c. if c then y else first_run p a (x ∷ xs) y) g) ∙ h y
          ∙ sym (one_passed (how.Without n) x xs y (λ i. e i && not (g i)))
      by true false e g h = fillers_more (backward (Some n) xs) (x ∷ xs) y ∙ ap (fillers_run p a (backward (Some n) xs)) (ap (λ c. if c then y else first_run p a (x ∷ xs) y) g) ∙ h (first_run p a (x ∷ xs) y)
          ∙ sym (one_taken (how.Without n) x xs y (λ i. e i && not (g i)))
      by false c e g h = h y ∙ sym (one_passed (how.Without n) x xs y (ap (λ b. b && not (begins_make (code_of (x ∷ xs)))) e))
