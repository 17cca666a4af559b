-- Statements with other numbers before what follows them.
use Rattle.std.proofs.Common.{◌≡◌, refl, sym, ap, subst, ◌∙◌, arith, add-one, ℕ, suc, ◌+◌, ◌<◌, List, [], ◌∷◌, ◌++◌, take, get_or, length, map, Option, Some, None, option_map}
use Rattle.std.proofs.Math.Seq.{take-suc}
use Rattle.scc_base.specs.declared.refusal.Place.{Place}
use Rattle.scc_core.specs.declared.expr.CoreExpr.{CoreExpr}
use Rattle.scc_core.specs.declared.expr.CoreLeft.{CoreLeft}
use Rattle.scc_core.specs.declared.stmt.Count.{Count as Counting}
use Rattle.scc_core.specs.declared.stmt.CoreStmt.{CoreStmt}
use Rattle.scc_core.specs.declared.stmt.CoreNode.TheVariants as node
use Rattle.scc_core.specs.declared.stmt.Pointed.{Pointed as Aimed}
use Rattle.scc_core.specs.declared.stmt.Pointed.TheVariants as aimed
use Rattle.scc_core_spec.specs.Code.{Code, Count, Declared, Assigned, End, Put, Aim, If, Block, Loop, Exit, Wait}
use Rattle.scc_core_spec.specs.Renumbered.{renamed, renamed_code, renamed_count, renamed_left, renamed_pick, renamed_to}
use Rattle.scc_core_view.specs.Codes.{code_of, count_of, counted, pointed_of, stmt_code}
use Rattle.scc_core_view.specs.Terms.{taken_of, term_of}
use Rattle.scc_unroll_laws.proofs.Stmts.{as_aim, as_block, as_exit, as_if, as_loop, as_put, as_wait}
use Rattle.scc_unroll_laws.proofs.Writing.{set_one}
use Rattle.scc_unroll_laws.specs.Writing.{set_before}
use Rattle.scc_pointers_numbers.specs.Numbered.{aim_in, numbered, numbered_count, numbered_left, numbered_pointed, put_in}
use Rattle.scc_pointers_numbers.proofs.Renamed.{copy_says, left_copy_says}

module _ (f : ℕ → ℕ) where
  abbrev Renames : CoreStmt → CoreStmt → Type 0
  Renames z s = (c : Code) → stmt_code z (renamed_code f c) ≡ renamed_code f (stmt_code s c)

  term_is : (e : CoreExpr) → term_of (numbered f e) ≡ renamed f (term_of e)
  term_is e = copy_says f e

  module _ (s : CoreStmt) where
    pub put_renames : (l : CoreLeft) (e : CoreExpr) → s.node ≡ node.Assign l e → (z : CoreStmt) → z ≡ put_in s.place (numbered_left f l) (numbered f e) → Renames z s
    put_renames l e is z h c =
        ap (λ x. stmt_code x (renamed_code f c)) h
        ∙ (ap (λ g. g (renamed_code f c)) (as_put (put_in s.place (numbered_left f l) (numbered f e)) (numbered_left f l) (numbered f e) refl)
        ∙ ((λ i. Put s.place ((left_copy_says f l).left i) ((left_copy_says f l).pick i) (term_is e i) (renamed_code f c))
        ∙ ap (λ g. renamed_code f (g c)) (sym (as_put s l e is))))

    to_is : (to : Aimed) → pointed_of (numbered_pointed f to) ≡ renamed_to f (pointed_of to)
    to_is (aimed.Declared n) = refl
    to_is (aimed.Assigned l) = ap Assigned (left_copy_says f l).left

    pub aim_renames : (to : Aimed) (l : CoreLeft) → s.node ≡ node.Alias to l → (z : CoreStmt) → z ≡ aim_in s.place (numbered_pointed f to) (numbered_left f l) → Renames z s
    aim_renames to l is z h c =
        ap (λ x. stmt_code x (renamed_code f c)) h
        ∙ (ap (λ g. g (renamed_code f c)) (as_aim (aim_in s.place (numbered_pointed f to) (numbered_left f l)) (numbered_pointed f to) (numbered_left f l) refl)
        ∙ ((λ i. Aim s.place (to_is to i) ((left_copy_says f l).left i) (renamed_code f c))
        ∙ ap (λ g. renamed_code f (g c)) (sym (as_aim s to l is))))

    pub if_renames : (t x : CoreExpr) (a b ys ns : List CoreStmt) → s.node ≡ node.If t a b → x ≡ numbered f t → code_of ys ≡ renamed_code f (code_of a) → code_of ns ≡ renamed_code f (code_of b) → Renames (record { place = s.place; node = node.If x ys ns }) s
    if_renames t x a b ys ns is h g k c =
        ap (λ g. g (renamed_code f c)) (as_if (record { place = s.place; node = node.If x ys ns }) x ys ns refl)
        ∙ ((λ i. If s.place ((ap term_of h ∙ term_is t) i) (g i) (k i) (renamed_code f c))
        ∙ ap (λ g. renamed_code f (g c)) (sym (as_if s t a b is)))

    pub block_renames : (a ys : List CoreStmt) → s.node ≡ node.Block a → code_of ys ≡ renamed_code f (code_of a) → Renames (record { place = s.place; node = node.Block ys }) s
    block_renames a ys is g c =
        ap (λ g. g (renamed_code f c)) (as_block (record { place = s.place; node = node.Block ys }) ys refl)
        ∙ ((λ i. Block s.place (g i) (renamed_code f c))
        ∙ ap (λ g. renamed_code f (g c)) (sym (as_block s a is)))

    count_is : (n : Option Counting) → counted (option_map (numbered_count f) n) ≡ option_map (renamed_count f) (counted n)
    count_is None = refl
    count_is (Some n) = λ i. Some (record { cell = f n.cell; start = term_is n.start i; compare = n.compare; bound = term_is n.bound i; step_op = n.step_op; step = term_is n.step i })

    pub loop_renames : (n m : Option Counting) (a ys : List CoreStmt) → s.node ≡ node.Loop n a → m ≡ option_map (numbered_count f) n → code_of ys ≡ renamed_code f (code_of a) → Renames (record { place = s.place; node = node.Loop m ys }) s
    loop_renames n m a ys is h g c =
        ap (λ g. g (renamed_code f c)) (as_loop (record { place = s.place; node = node.Loop m ys }) m ys refl)
        ∙ ((λ i. Loop s.place ((ap counted h ∙ count_is n) i) (g i) (renamed_code f c))
        ∙ ap (λ g. renamed_code f (g c)) (sym (as_loop s n a is)))

    pub exit_renames : (n : ℕ) → s.node ≡ node.Exit n → Renames (record { place = s.place; node = node.Exit n }) s
    exit_renames n is c = ap (λ g. g (renamed_code f c)) (as_exit (record { place = s.place; node = node.Exit n }) n refl) ∙ ap (λ g. renamed_code f (g c)) (sym (as_exit s n is))

    pub wait_renames : (n : ℕ) → s.node ≡ node.Wait n → Renames (record { place = s.place; node = node.Wait n }) s
    wait_renames n is c = ap (λ g. g (renamed_code f c)) (as_wait (record { place = s.place; node = node.Wait n }) n refl) ∙ ap (λ g. renamed_code f (g c)) (sym (as_wait s n is))

  -- one more of a list
  pub list_renames : (ss made more : List CoreStmt) (i : ℕ) (s z : CoreStmt) → i < length ss → s ≡ get_or ss i s → more ≡ made ++ z ∷ [] → Renames z s
      → ((c : Code) → set_before made (renamed_code f c) ≡ renamed_code f (set_before (take i ss) c)) → (c : Code) → set_before more (renamed_code f c) ≡ renamed_code f (set_before (take (i + 1) ss) c)
  list_renames ss made more i s z h is e r inv c =
      set_one made more z (renamed_code f c) e
      ∙ (ap (set_before made) (r c)
      ∙ (inv (stmt_code s c)
      ∙ ap (renamed_code f) (sym (set_one (take i ss) (take (i + 1) ss) s c (ap (λ k. take k ss) (add-one i) ∙ (take-suc ss i s h ∙ ap (λ x. take i ss ++ x ∷ []) (sym is)))))))
