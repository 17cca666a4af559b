-- Members are put, the last one first, each with its initialisers.
use Rattle.std.proofs.Common.{◌≡◌, refl, sym, ap, ◌∙◌, subst, arith, ℕ, zero, suc, ◌+◌, ◌-◌, ◌<◌, ◌≤◌, length, drop, Bool, true, false, List, [], ◌∷◌, ◌++◌, map, Option, Some, None, option_map, slice_get, if◌then◌else◌}
use Rattle.std.specs.Prelude.{Result, Ok, Err}
use Rattle.std.proofs.lemmas.Option.{slice_get-map}
use Rattle.scc_semantics.specs.Location.{Part}
use Rattle.scc_semantics.specs.Location as location
use Rattle.scc_core_spec.specs.Resolved.{Tried, Made, Stopped, and_made}
use Rattle.scc_plain_tree.specs.declared.program.PlainMember.{PlainMember}
use Rattle.scc_plain_tree.specs.declared.stmt.PlainStmt.{PlainStmt}
use Rattle.scc_plain_view.specs.Codes.{code_of}
use Rattle.scc_plain_view.specs.Plains.{member_of}
use Rattle.scc_elab_spec.specs.Design as design
use Rattle.scc_elab_spec.specs.Term.{Argument}
use Rattle.scc_elab_spec.specs.Types.{is_direct}
use Rattle.scc_elab_spec.specs.Program.{Code, Member, Plain}
use Rattle.scc_elab_spec.specs.Inits.{first_make, inits_of, without_make}
use Rattle.scc_elab_spec.specs.Grown.{Grown, added}
use Rattle.scc_elab_spec.specs.Construct.{Now, Ran, then_run}
use Rattle.scc_elab_spec.specs.Made.{built, by_arguments, elements_at, grown_by, made_members, over_elements, run_inits}
use Rattle.scc_elab_groups.specs.Groups.{Tails, backward, last_args}
use Rattle.scc_elab_groups.proofs.Given.{made_first}
use Rattle.scc_elab_works.specs.declared.works.Work.{Work}
use Rattle.scc_elab_works.specs.Works.{Stand, Puts, anew, array_made, making_at, outcome, run_at, site_at}
use Rattle.scc_elab_made.specs.Objects.{AreLeft, direct_at, form_in, member_at}
use Rattle.scc_elab_made.specs.Tails.{fillers_run, tails_run}
use Rattle.scc_elab_made.proofs.Tailing.{tails_are, fillers_are}
use Rattle.scc_elab_made.proofs.Stepping.{puts_as}
use Rattle.scc_elab_made.proofs.Making.{anew_grown, and_and, and_same, array_passed}

empty_is : (t : Tried Grown) (f : Now → Ran) → anew (grown_by (then_run (anew t) f)) ≡ anew (and_made t (λ g. grown_by (f (record { grown = g; last = None }))))
empty_is (Made g) f = refl
empty_is (Stopped r) f = refl

module _ (a : Stand) (k : PlainMember) (n : ℕ) (list : List PlainStmt) (ts : Tails) (is : ts ≡ backward (Some n) list) (old new : List Work) where
  abbrev c : Code
  c = code_of list

  abbrev path : List Part
  path = a.path ++ location.Member (member_of k).name ∷ []

  abbrev all : List (List Part)
  all = elements_at path (member_of k).shape.sizes

  abbrev one_member : Plain → Option (List Argument) → Grown → Tried Grown
  one_member p o g = by_arguments (built p a.levels) (site_at p a) (member_of k) path (inits_of (Some n) c) o g

  abbrev arrayed : Bool → List Argument → Plain → Grown → Tried Grown
  arrayed b args p = array_made p (form_in k b) (record { at = a; list = args }) all

  abbrev empty_passed : Bool → Plain → Ran → Ran
  empty_passed b p x = anew (grown_by (tails_run p a ts (array_passed (form_in k b) (record { at = a; list = [] }) all p x)))

  abbrev inits_run : Plain → Grown → Tried Grown
  inits_run p = run_inits (making_at p a.levels) (site_at p a) (inits_of (Some n) c)

  empty_whole : (b : Bool) (p : Plain) (x : Ran) → empty_passed b p x ≡ anew (and_made (grown_by x) (λ g. and_made (arrayed b [] p g) (inits_run p)))
  empty_whole b p x = ap (λ z. anew (grown_by (tails_run p a z (anew (and_made (grown_by x) (arrayed b [] p)))))) is
      ∙ ap (λ z. anew (grown_by z)) (tails_are p a (Some n) list (anew (and_made (grown_by x) (arrayed b [] p))))
      ∙ empty_is (and_made (grown_by x) (arrayed b [] p)) (run_at p a (inits_of (Some n) c))
      ∙ ap anew (and_and (grown_by x) (arrayed b [] p) (inits_run p))

  abbrev given_passed : List Argument → Plain → Ran → Ran
  given_passed args p x = anew (and_made (grown_by (fillers_run p a ts (anew (grown_by x)))) (arrayed false args p))

  given_whole : (args : List Argument) (p : Plain) (x : Ran) → given_passed args p x ≡ anew (and_made (grown_by x) (one_member p (Some args)))
  given_whole args p x = ap (λ z. anew (and_made (grown_by (fillers_run p a z (anew (grown_by x)))) (arrayed false args p))) is
      ∙ ap (λ z. anew (and_made (grown_by z) (arrayed false args p))) (fillers_are p a n list (anew (grown_by x))) ∙ by (grown_by x)
    where
      by : (t : Tried Grown) → anew (and_made (grown_by (then_run (anew t) (run_at p a (without_make (inits_of (Some n) c))))) (arrayed false args p)) ≡ anew (and_made t (one_member p (Some args)))
      by (Made g) = refl
      by (Stopped r) = refl

  made_is : (o : Option (List Argument)) → o ≡ last_args ts None → first_make (inits_of (Some n) c) ≡ o
  made_is o e = sym (made_first n list) ∙ ap (λ z. last_args z None) (sym is) ∙ sym e

  pub empty_puts : {A E : Type 0} (r : Result A E) (o : Option (List Argument)) → o ≡ last_args ts None → o ≡ None → Puts r old new (empty_passed false) → Puts r old new (λ p x. anew (and_made (grown_by x) (direct_at p a n (member_of k) c)))
  empty_puts r o e d h = puts_as r old new (empty_passed false) (λ p x. anew (and_made (grown_by x) (direct_at p a n (member_of k) c)))
      (λ p x. empty_whole false p x ∙ ap (λ z. anew (and_made (grown_by x) (one_member p z))) (sym (made_is o e ∙ d))) h

  pub given_puts : {A E : Type 0} (r : Result A E) (o : Option (List Argument)) (args : List Argument) → o ≡ last_args ts None → o ≡ Some args → Puts r old new (given_passed args) → Puts r old new (λ p x. anew (and_made (grown_by x) (direct_at p a n (member_of k) c)))
  given_puts r o args e d h = puts_as r old new (given_passed args) (λ p x. anew (and_made (grown_by x) (direct_at p a n (member_of k) c)))
      (λ p x. given_whole args p x ∙ ap (λ z. anew (and_made (grown_by x) (one_member p z))) (sym (made_is o e ∙ d))) h

  abbrev by_reach : Bool → Plain → Grown → Tried Grown
  by_reach b p g = if b then one_member p (first_make (inits_of (Some n) c)) g
      else and_made (over_elements (λ g q. added g q k.place (design.Pointer None)) all g) (inits_run p)

  pub direct_puts : {A E : Type 0} (r : Result A E) → is_direct (member_of k).shape.reach ≡ true → Puts r old new (λ p x. anew (and_made (grown_by x) (direct_at p a n (member_of k) c))) → Puts r old new (λ p x. anew (and_made (grown_by x) (member_at p a n (member_of k) c)))
  direct_puts r e h = puts_as r old new (λ p x. anew (and_made (grown_by x) (direct_at p a n (member_of k) c))) (λ p x. anew (and_made (grown_by x) (member_at p a n (member_of k) c)))
      (λ p x. ap (λ b. anew (and_made (grown_by x) (by_reach b p))) (sym e)) h

  pub pointer_puts : {A E : Type 0} (r : Result A E) → is_direct (member_of k).shape.reach ≡ false → Puts r old new (empty_passed true) → Puts r old new (λ p x. anew (and_made (grown_by x) (member_at p a n (member_of k) c)))
  pointer_puts r e h = puts_as r old new (empty_passed true) (λ p x. anew (and_made (grown_by x) (member_at p a n (member_of k) c)))
      (λ p x. empty_whole true p x ∙ ap (λ b. anew (and_made (grown_by x) (by_reach b p))) (sym e)) h

drop_all : {A : Type 0} (xs : List A) → drop (length xs) xs ≡ []
drop_all [] = refl
drop_all (x ∷ xs) = drop_all xs

drop_at : {A : Type 0} (xs : List A) (i : ℕ) (x : A) → slice_get xs i ≡ Some x → drop i xs ≡ x ∷ drop (i + 1) xs
drop_at [] i x e = cc
drop_at (y ∷ ys) zero x e = let same : y ≡ x = cc in ap (λ z. z ∷ ys) same
drop_at (y ∷ ys) (suc i) x e = let d : suc i + 1 ≡ suc (i + 1) = omega arith in drop_at ys i x e ∙ ap (λ j. x ∷ drop j (y ∷ ys)) (sym d)

map_long : {A B : Type 0} (f : A → B) (xs : List A) → length (map f xs) ≡ length xs
map_long f [] = refl
map_long f (x ∷ xs) = ap suc (map_long f xs)

module _ (a : Stand) (members : List PlainMember) (c : Code) (old : List Work) where
  abbrev ms : List Member
  ms = map member_of members

  abbrev made_from : Plain → ℕ → Grown → Tried Grown
  made_from p n g = made_members (built p a.levels) (site_at p a) n (drop n ms) c g

  none_from : drop (length members - 0) ms ≡ []
  none_from = let e : length members - 0 ≡ length members = omega arith in ap (λ n. drop n ms) (e ∙ sym (map_long member_of members)) ∙ drop_all ms

  pub none_left : (ws : List Work) → ((p : Plain) (x : Ran) → outcome p ws x ≡ outcome p old (anew (grown_by x))) → AreLeft a ms c old (length members - 0) ws
  none_left ws h p x = h p x ∙ ap (λ t. outcome p old (anew t)) (sym (and_same (grown_by x)))
      ∙ ap (λ z. outcome p old (anew (and_made (grown_by x) (made_members (built p a.levels) (site_at p a) (length members - 0) z c)))) (sym none_from)

  pub one_left : (i number : ℕ) (k : PlainMember) (cur new : List Work) → i < length members → number ≡ length members - 1 - i → slice_get members (length members - 1 - i) ≡ Some k → AreLeft a ms c old (length members - i) cur
      → ((p : Plain) (x : Ran) → outcome p new x ≡ outcome p cur (anew (and_made (grown_by x) (member_at p a number (member_of k) c)))) → AreLeft a ms c old (length members - (i + 1)) new
  one_left i number k cur new below at there inv h p x =
      let j : ℕ = length members - 1 - i in
      let after : length members - i ≡ number + 1 = omega (arith, below, at) in
      let here : number ≡ length members - (i + 1) = omega (arith, below, at) in
      let got : slice_get ms number ≡ Some (member_of k) = ap (slice_get ms) at ∙ slice_get-map member_of members (length members - 1 - i) ∙ ap (option_map member_of) there in
      let one : Grown → Tried Grown = member_at p a number (member_of k) c in
      h p x ∙ inv p (anew (and_made (grown_by x) one)) ∙ ap (λ t. outcome p old (anew (and_made t (made_from p (length members - i))))) (anew_grown (and_made (grown_by x) one))
      ∙ ap (λ n. outcome p old (anew (and_made (and_made (grown_by x) one) (made_from p n)))) after
      ∙ ap (λ t. outcome p old (anew t)) (and_and (grown_by x) one (made_from p (number + 1)))
      ∙ ap (λ z. outcome p old (anew (and_made (grown_by x) (made_members (built p a.levels) (site_at p a) number z c)))) (sym (drop_at ms number (member_of k) got))
      ∙ ap (λ n. outcome p old (anew (and_made (grown_by x) (made_from p n)))) here

  pub all_left : (i : ℕ) (ws : List Work) → length members ≤ i → AreLeft a ms c old (length members - i) ws → (p : Plain) (x : Ran) → outcome p ws x ≡ outcome p old (anew (and_made (grown_by x) (made_members (built p a.levels) (site_at p a) 0 ms c)))
  all_left i ws l h p x = let e : length members - i ≡ 0 = omega (arith, l) in h p x ∙ ap (λ n. outcome p old (anew (and_made (grown_by x) (made_from p n)))) e
