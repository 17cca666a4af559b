-- Chains of operands that stand first, and of pointers: what is seen of the outermost, by what is seen of the innermost.
use Rattle.std.proofs.Common.{◌≡◌, ◌∙◌, List, [], ◌∷◌, ◌++◌, Option, Some, None, IfSome, refl, ap, sym, map, option_and_then}
use Rattle.scc_bits.specs.Value.{Number}
use Rattle.scc_plain_look.specs.declared.held.Held.{Held}
use Rattle.scc_plain_look.specs.Held.{Around, followed}
use Rattle.scc_plain_look.specs.Seen.{Seen, SeenLeft, SeenPart, SeenPick, picked, steps}

abbrev pub over_all : List Seen → Option Number → Option Number
over_all [] v = v
over_all (e ∷ es) v = e.over (over_all es v)

pub over_all_push : {A : Type 0} (g : A → Seen) (xs : List A) (x : A) (v : Option Number) → over_all (map g (xs ++ x ∷ [])) v ≡ over_all (map g xs) ((g x).over v)
over_all_push g [] x v = refl
over_all_push g (y ∷ xs) x v = ap (g y).over (over_all_push g xs x v)

abbrev pub behind_all : Around → List SeenLeft → Option Held → Option Held
behind_all a [] h = h
behind_all a (l ∷ ls) h = l.behind a (option_and_then followed (behind_all a ls h))

pub behind_all_push : {A : Type 0} (g : A → SeenLeft) (a : Around) (xs : List A) (x : A) (h : Option Held)
    → behind_all a (map g (xs ++ x ∷ [])) h ≡ behind_all a (map g xs) ((g x).behind a (option_and_then followed h))
behind_all_push g a [] x h = refl
behind_all_push g a (y ∷ xs) x h = ap (λ h. (g y).behind a (option_and_then followed h)) (behind_all_push g a xs x h)

pub steps_none : (a : Around) (ps : List SeenPart) → steps a ps None ≡ None
steps_none a [] = refl
steps_none a (p ∷ ps) = steps_none a ps

pub picked_none : (p : Option SeenPick) → picked p None ≡ None
picked_none None = refl
picked_none (Some p) = refl

-- a number that is found stands for what is defined
pub carried : (k : Option Number) (o t : Option Number) (f : Option Number → Option Number) → IfSome k (λ x. o ≡ Some x) → f o ≡ t → IfSome k (λ x. f (Some x) ≡ t)
carried None o t f h e = tt
carried (Some x) o t f h e = ap f (sym h) ∙ e
