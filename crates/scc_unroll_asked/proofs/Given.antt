-- What the iterator of a vector has given is a front of its elements.
use Rattle.std.proofs.Common.{◌≡◌, sym, ap, ◌∙◌, List, [], ◌∷◌, ◌++◌, Result, Ok, Err}
use Rattle.std.specs.Iterator.{Yields}
use Rattle.std.specs.Vec.Iter.{into_iter_items, into_iter_steps}
use Rattle.std.specs.declared.vec.IntoIter.{IntoIter}

pub given_front : {X A : Type 0} (s : IntoIter X A) (xs : List X) (t : IntoIter X A) → Yields into_iter_steps s xs t → into_iter_items s ≡ xs ++ into_iter_items t
given_front s [] t y = ap into_iter_items y
given_front s (x ∷ xs) t y = y.1.0 ∙ ap (λ ys. x ∷ ys) (given_front y.0 xs t y.2)

-- ---- errors

pub err_same : {T E : Type 0} (a b : E) (r : Result T E) → r ≡ Err a → r ≡ Err b → a ≡ b
err_same {T = T} {E = E} a b r h k = ap unwrapped (sym h ∙ k)
  where
    unwrapped : Result T E → E
    unwrapped (Ok x) = a
    unwrapped (Err x) = x
