-- Items one after another.
use Rattle.std.proofs.Common.{◌≡◌, refl, sym, ap, ◌∙◌, arith, ℕ, zero, suc, ◌+◌, ◌<◌, length, drop, get_or, List, [], ◌∷◌, ◌++◌, map, append_assoc, Err, Ok}
use Rattle.scc_base.specs.declared.refusal.Stop.{Stop}
use Rattle.scc_base.specs.declared.refusal.Stop.TheVariants as stop
use Rattle.scc_core_spec.specs.Resolved.{Tried, Made, Stopped, and_made, made_map}
use Rattle.scc_elab_spec.specs.Program.{Sense}
use Rattle.scc_elab_spec.specs.Grown.{Item}
use Rattle.scc_elab_spec.specs.Worth.{Site}
use Rattle.scc_elab_spec.specs.Binding.{item_of, items_of}
use Rattle.scc_elab_grown.specs.declared.records.Item.{Item as Held}
use Rattle.scc_elab_statements.specs.Sensed.{IsItem, IsItems}

-- items behind those that are known already
abbrev pub put_all : List Item → Tried (List Item) → Tried (List Item)
put_all front t = made_map (λ is. front ++ is) t

put_twice : (a b : List Item) (t : Tried (List Item)) → put_all a (put_all b t) ≡ put_all (a ++ b) t
put_twice a b (Made is) = ap Made (sym (append_assoc a b is))
put_twice a b (Stopped r) = refl

drop_at : {A : Type 0} (xs : List A) (i : ℕ) (x : A) → i < length xs → x ≡ get_or xs i x → drop i xs ≡ x ∷ drop (i + 1) xs
drop_at [] i x h e = absurd (omega arith)
drop_at (y ∷ ys) zero x h e = let d : x ≡ y = e in ap (λ z. z ∷ ys) (sym d)
drop_at (y ∷ ys) (suc i) x h e =
    let a : i < length ys = omega arith in
    let d : suc i + 1 ≡ suc (i + 1) = omega arith in
    drop_at ys i x a e ∙ ap (λ n. x ∷ drop n (y ∷ ys)) (sym d)

module _ {A : Type 0} (s : Site) (f : A → Sense) (xs : List A) (i : ℕ) (x : A) (h : i < length xs) (e : x ≡ get_or xs i x) where
  next_is : items_of s (map f (drop i xs)) ≡ and_made (item_of s (f x)) (λ o. put_all (o ∷ []) (items_of s (map f (drop (i + 1) xs))))
  next_is = ap (λ ys. items_of s (map f ys)) (drop_at xs i x h e)

  pub items_on : (front : List Item) (o : Item) (t : Tried (List Item)) → put_all front (items_of s (map f (drop i xs))) ≡ t → item_of s (f x) ≡ Made o → put_all (front ++ o ∷ []) (items_of s (map f (drop (i + 1) xs))) ≡ t
  items_on front o t inv g = sym (put_twice front (o ∷ []) (items_of s (map f (drop (i + 1) xs)))) ∙ ap (put_all front) (sym (next_is ∙ ap (λ z. and_made z (λ o. put_all (o ∷ []) (items_of s (map f (drop (i + 1) xs))))) g)) ∙ inv

  pub items_stop : {X : Type 0} (view : X → List Held) (front : List Item) (z : Stop) (t : Tried (List Item)) → put_all front (items_of s (map f (drop i xs))) ≡ t → IsItem (Err z) (item_of s (f x)) → IsItems view (Err z) t
  items_stop view front (stop.Refused r) t inv g = sym inv ∙ ap (put_all front) (next_is ∙ ap (λ z. and_made z (λ o. put_all (o ∷ []) (items_of s (map f (drop (i + 1) xs))))) g)
  items_stop view front stop.NoMemory t inv g = tt
