-- What a map of names holds, before and after its keys are seen as bytes.
use Rattle.std.specs.Prelude.{◌≡◌, ℕ, Bool, true, false, List, [], ◌∷◌, map, cond, Option, Some, bytes_eq, refl}
use Rattle.std.proofs.Common.{ap}
use Rattle.std.specs.Map.{lookup}
use Rattle.indexmap.specs.IndexMap.{insert_entry}
use Rattle.scc_svread_check.specs.Scope.{entry_of, put}

-- keys seen as bytes
module _ {K : Type 0} (bytes : K → List ℕ) where
  abbrev seen : List (K × Option ℕ) → List (List ℕ × Option ℕ)
  seen es = map (λ e. (bytes e.0, e.1)) es

  pub entry_seen : (name : List ℕ) (es : List (K × Option ℕ)) → entry_of (seen es) name ≡ lookup (λ k. bytes_eq name (bytes k)) es
  entry_seen name [] = refl
  entry_seen name (e ∷ es) = ap (λ o. cond (bytes_eq name (bytes e.0)) (Some e.1) o) (entry_seen name es)

  pub put_seen : (k : K) (x : Option ℕ) (es : List (K × Option ℕ)) → seen (insert_entry (λ a b. bytes_eq (bytes a) (bytes b)) es k x) ≡ put (seen es) (bytes k) x
  put_seen k x [] = refl
  put_seen k x (e ∷ es) = pick (bytes_eq (bytes k) (bytes e.0)) (put_seen k x es)
    where
      pick : (t : Bool) → seen (insert_entry (λ a b. bytes_eq (bytes a) (bytes b)) es k x) ≡ put (seen es) (bytes k) x
          → seen (cond t ((e.0, x) ∷ es) (e ∷ insert_entry (λ a b. bytes_eq (bytes a) (bytes b)) es k x)) ≡ cond t ((bytes e.0, x) ∷ seen es) ((bytes e.0, e.1) ∷ put (seen es) (bytes k) x)
      pick true h = refl
      pick false h = ap (λ l. (bytes e.0, e.1) ∷ l) h
