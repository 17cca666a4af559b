-- What makes a member in place, by its initialisers from the last to the first.
use Rattle.std.proofs.Common.{◌≡◌, refl, sym, ap, ◌∙◌, ℕ, Bool, true, false, List, [], ◌∷◌, ◌++◌, Option, Some, None, if◌then◌else◌}
use Rattle.scc_plain_tree.specs.declared.stmt.PlainStmt.{PlainStmt}
use Rattle.scc_plain_view.specs.Codes.{code_of, stmt_code}
use Rattle.scc_elab_spec.specs.Program.{End}
use Rattle.scc_elab_spec.specs.Term.{Argument}
use Rattle.scc_elab_spec.specs.Inits.{belongs, first_make, inits_of, owner}
use Rattle.scc_elab_inits.specs.Makes.{or_args}
use Rattle.scc_elab_inits.proofs.Owning.{makes_in, make_is, make_not}
use Rattle.scc_elab_groups.specs.Groups.{Tails, backward, first_args, last_args}

last_more : (ts : Tails) (t : List PlainStmt) (o : Option (List Argument)) → last_args (ts ++ t ∷ []) o ≡ or_args (first_args t) (last_args ts o)
last_more [] t o = refl
last_more (s ∷ ts) t o = last_more ts t (or_args (first_args s) o)

or_or : (a b c : Option (List Argument)) → or_args a (or_args b c) ≡ or_args (or_args a b) c
or_or (Some a) b c = refl
or_or None b c = refl

pub made_backward : (n : ℕ) (xs : List PlainStmt) (o : Option (List Argument)) → last_args (backward (Some n) xs) o ≡ or_args (makes_in n xs) o
made_backward n [] o = refl
made_backward n (x ∷ xs) o = by (belongs (Some n) (owner (code_of (x ∷ xs)))) refl (made_backward n xs o)
  where
    by : (b : Bool) → belongs (Some n) (owner (code_of (x ∷ xs))) ≡ b → last_args (backward (Some n) xs) o ≡ or_args (makes_in n xs) o → last_args (if b then backward (Some n) xs ++ (x ∷ xs) ∷ [] else backward (Some n) xs) o ≡ or_args (makes_in n (x ∷ xs)) o
    by true e h = last_more (backward (Some n) xs) (x ∷ xs) o ∙ ap (or_args (first_make (stmt_code x End))) h ∙ or_or (first_make (stmt_code x End)) (makes_in n xs) o
        ∙ ap (λ z. or_args z o) (make_is x xs (x ∷ xs) refl n true (first_make (stmt_code x End)) (sym e) refl refl)
    by false e h = h ∙ ap (λ z. or_args z o) (make_not x xs (x ∷ xs) refl n false (sym e) refl)

or_none : (o : Option (List Argument)) → or_args o None ≡ o
or_none (Some a) = refl
or_none None = refl

pub made_first : (n : ℕ) (xs : List PlainStmt) → last_args (backward (Some n) xs) None ≡ first_make (inits_of (Some n) (code_of xs))
made_first n xs = made_backward n xs None ∙ or_none (makes_in n xs)
