-- Arguments one after another.
use Rattle.std.proofs.Common.{◌≡◌, refl, sym, ap, ◌∙◌, arith, ℕ, zero, suc, ◌+◌, ◌<◌, length, drop, get_or, List, [], ◌∷◌, ◌++◌, map, append_assoc, append-nil, Option, Some, None, Err}
use Rattle.scc_base.specs.declared.refusal.Stop.{Stop}
use Rattle.scc_base.specs.declared.refusal.Stop.TheVariants as stop
use Rattle.scc_semantics.specs.Location.{Location}
use Rattle.scc_core_spec.specs.Resolved.{Tried, Made, Stopped, and_made, made_map}
use Rattle.scc_elab_spec.specs.Term.{Argument, Value, Leads, ModuleName}
use Rattle.scc_elab_spec.specs.Worth.{Site, Given, Word, Place_given, worth, target, given}
use Rattle.scc_elab_worth.specs.declared.args.Given.{Given as Held}
use Rattle.scc_elab_worth.specs.Arguments.{one_given, IsOne, IsGiven}

-- arguments behind those that are given already
abbrev pub put_all : List Given → Tried (List Given) → Tried (List Given)
put_all front t = made_map (λ gs. front ++ gs) t

abbrev with_one : Option Given → List Given
with_one None = []
with_one (Some x) = x ∷ []

given_next : (s : Site) (a : Argument) (more : List Argument) → given s (a ∷ more) ≡ and_made (one_given s a) (λ o. put_all (with_one o) (given s more))
given_next s (Value e) more = by (worth s e)
  where
    by : (t : Tried ℕ) → and_made t (λ w. made_map (λ gs. Word w ∷ gs) (given s more)) ≡ and_made (made_map (λ w. Some (Word w)) t) (λ o. put_all (with_one o) (given s more))
    by (Made w) = refl
    by (Stopped r) = refl
given_next s (Leads x) more = by (target s x)
  where
    by : (t : Tried (Option Location)) → and_made t (λ o. made_map (λ gs. Place_given o ∷ gs) (given s more)) ≡ and_made (made_map (λ o. Some (Place_given o)) t) (λ o. put_all (with_one o) (given s more))
    by (Made w) = refl
    by (Stopped r) = refl
given_next s ModuleName more = by (given s more)
  where
    by : (t : Tried (List Given)) → t ≡ put_all [] t
    by (Made w) = refl
    by (Stopped r) = refl

put_twice : (a b : List Given) (t : Tried (List Given)) → put_all a (put_all b t) ≡ put_all (a ++ b) t
put_twice a b (Made gs) = ap Made (sym (append_assoc a b gs))
put_twice a b (Stopped r) = refl

drop_at : {A : Type 0} (xs : List A) (i : ℕ) (x : A) → i < length xs → x ≡ get_or xs i x → drop i xs ≡ x ∷ drop (i + 1) xs
drop_at [] i x h e = absurd (omega arith)
drop_at (y ∷ ys) zero x h e = let d : x ≡ y = e in ap (λ z. z ∷ ys) (sym d)
drop_at (y ∷ ys) (suc i) x h e =
    let a : i < length ys = omega arith in
    let d : suc i + 1 ≡ suc (i + 1) = omega arith in
    drop_at ys i x a e ∙ ap (λ n. x ∷ drop n (y ∷ ys)) (sym d)

module _ {A : Type 0} (s : Site) (f : A → Argument) (xs : List A) (i : ℕ) (x : A) (h : i < length xs) (e : x ≡ get_or xs i x) where
  next_is : given s (map f (drop i xs)) ≡ and_made (one_given s (f x)) (λ o. put_all (with_one o) (given s (map f (drop (i + 1) xs))))
  next_is = ap (λ ys. given s (map f ys)) (drop_at xs i x h e) ∙ given_next s (f x) (map f (drop (i + 1) xs))

  pub given_on : (front : List Given) (o : Option Given) (t : Tried (List Given)) → put_all front (given s (map f (drop i xs))) ≡ t → one_given s (f x) ≡ Made o → put_all (front ++ with_one o) (given s (map f (drop (i + 1) xs))) ≡ t
  given_on front o t inv g = sym (put_twice front (with_one o) (given s (map f (drop (i + 1) xs)))) ∙ ap (put_all front) (sym (next_is ∙ ap (λ z. and_made z (λ o. put_all (with_one o) (given s (map f (drop (i + 1) xs))))) g)) ∙ inv

  pub given_none : (front : List Given) (t : Tried (List Given)) → put_all front (given s (map f (drop i xs))) ≡ t → one_given s (f x) ≡ Made None → put_all front (given s (map f (drop (i + 1) xs))) ≡ t
  given_none front t inv g = ap (λ z. put_all z (given s (map f (drop (i + 1) xs)))) (sym (append-nil front)) ∙ given_on front None t inv g

  pub given_stops : {X : Type 0} (view : X → List Held) (front : List Given) (z : Stop) (t : Tried (List Given)) → put_all front (given s (map f (drop i xs))) ≡ t → IsOne (Err z) (one_given s (f x)) → IsGiven view (Err z) t
  given_stops view front (stop.Refused r) t inv g = sym inv ∙ ap (put_all front) (next_is ∙ ap (λ z. and_made z (λ o. put_all (with_one o) (given s (map f (drop (i + 1) xs))))) g)
  given_stops view front stop.NoMemory t inv g = tt
