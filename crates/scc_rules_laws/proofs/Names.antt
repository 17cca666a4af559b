-- What earlier statements name, by lists of it.
use Rattle.std.proofs.Common.{◌≡◌, refl, sym, ap, ◌∙◌, ℕ, suc, Bool, true, false, ◌&&◌, ◌||◌, nat_eq, List, [], ◌∷◌, ◌++◌, map, Option, Some, None, option_map, unwrap_or, if◌then◌else◌}
use Rattle.std.specs.Prelude.{flat_map}
use Rattle.std.specs.List.{list_any}
use Rattle.std.proofs.lemmas.List.{append-nil}
use Rattle.std.proofs.lemmas.List.Folds.{list_any-append}
use Rattle.std.proofs.lemmas.Grind.{flat_map-append}
use Rattle.scc_base.specs.declared.refusal.Place.{Place}
use Rattle.scc_core_spec.specs.Clashes.{all_writes, names_of}
use Rattle.scc_core_spec.specs.First.{or_else, first_of, when}
use Rattle.scc_core_spec.specs.Program.{is_variable}
use Rattle.scc_core_spec.specs.Static.{Cells}
use Rattle.scc_core_spec.specs.Term.{Left, Pick}
use Rattle.scc_core_spec.specs.Uses.{Use, Act, among, cells_of, has_sort, reads_of, writes_of}
use Rattle.scc_rules_laws.specs.Found.{all_put, put_cells}
use Rattle.scc_rules_laws.specs.Seen.{Seen, IsThinned, put_at, read_at, seen_at, seen_from}
use Rattle.scc_rules_laws.proofs.Firsts.{and_false, any_none, first_append, or_none}
use Rattle.scc_rules_laws.proofs.Thinned.{IsAsked, IsTested, thin_any, thinned}

when_or : {A : Type 0} (a b : Bool) (x : A) → or_else (when a x) (when b x) ≡ when (a || b) x
when_or true b x = refl
when_or false b x = refl

spread_or : (v p q w r s : Bool) → ((v && ((p || q) && w)) || (r || s)) ≡ (((v && (p && w)) || r) || ((v && (q && w)) || s))
spread_or false p q w r s = refl
spread_or true true q true r s = refl
spread_or true true true false r s = refl
spread_or true true false false r s = refl
spread_or true false true true true s = refl
spread_or true false true true false s = refl
spread_or true false true false r s = refl
spread_or true false false w r s = refl

module _ (cs : Cells) where
  -- whether one of the first cells is a variable that is one of the second, and passes
  abbrev pub meets : (ℕ → Bool) → List ℕ → List ℕ → Bool
  meets w xs ys = list_any (λ x. has_sort is_variable cs x && (among x ys && w x)) xs

  pub meets_none : (w : ℕ → Bool) (xs : List ℕ) → meets w xs [] ≡ false
  meets_none w xs = any_none (λ x. has_sort is_variable cs x && false) (λ x. and_false (has_sort is_variable cs x)) xs

  pub meets_join : (w : ℕ → Bool) (xs ys zs : List ℕ) → meets w xs (ys ++ zs) ≡ (meets w xs ys || meets w xs zs)
  meets_join w [] ys zs = refl
  meets_join w (x ∷ xs) ys zs =
      (λ i. (has_sort is_variable cs x && (list_any-append (λ y. nat_eq x y) ys zs i && w x)) || meets_join w xs ys zs i)
      ∙ spread_or (has_sort is_variable cs x) (among x ys) (among x zs) (w x) (meets w xs ys) (meets w xs zs)

  abbrev pub one_of : (ℕ → Bool) → List ℕ → Seen → Option Place
  one_of w xs t = when (meets w xs t.cells) t.statement

  read_marks : (w : ℕ → Bool) (xs : List ℕ) (n : ℕ) (at : Place) (us : List Use)
      → first_of (one_of w xs) (map (read_at cs n at) us) ≡ when (meets w xs (flat_map (λ u. cells_of cs u.left) us)) at
  read_marks w xs n at [] = ap (λ b. when b at) (sym (meets_none w xs))
  read_marks w xs n at (u ∷ us) =
      ap (or_else (when (meets w xs (cells_of cs u.left)) at)) (read_marks w xs n at us)
      ∙ when_or (meets w xs (cells_of cs u.left)) (meets w xs (flat_map (λ v. cells_of cs v.left) us)) at
      ∙ ap (λ b. when b at) (sym (meets_join w xs (cells_of cs u.left) (flat_map (λ v. cells_of cs v.left) us)))

  put_marks : (w : ℕ → Bool) (xs : List ℕ) (n : ℕ) (at : Place) (o : Option (Left × Pick))
      → first_of (one_of w xs) (put_at cs n at o) ≡ when (meets w xs (unwrap_or (option_map (λ y. cells_of cs y.0) o) [])) at
  put_marks w xs n at None = ap (λ b. when b at) (sym (meets_none w xs))
  put_marks w xs n at (Some o) = or_none (when (meets w xs (cells_of cs o.0)) at)

  act_marks : (w : ℕ → Bool) (xs : List ℕ) (n : ℕ) (a : Act) → first_of (one_of w xs) (seen_at cs n a) ≡ when (meets w xs (names_of cs a)) a.place
  act_marks w xs n a =
      first_append (one_of w xs) (map (read_at cs n a.place) a.reads) (put_at cs n a.place a.writes)
      ∙ (λ i. or_else (read_marks w xs n a.place a.reads i) (put_marks w xs n a.place a.writes i))
      ∙ when_or (meets w xs (reads_of cs a)) (meets w xs (writes_of cs a)) a.place
      ∙ ap (λ b. when b a.place) (sym (meets_join w xs (reads_of cs a) (writes_of cs a)))

  pub names_marks : (w : ℕ → Bool) (xs : List ℕ) (n : ℕ) (said : List Act)
      → first_of (λ b. when (meets w xs (names_of cs b)) b.place) said ≡ first_of (one_of w xs) (seen_from cs n said)
  names_marks w xs n [] = refl
  names_marks w xs n (a ∷ said) =
      (λ i. or_else (sym (act_marks w xs n a) i) (names_marks w xs (suc n) said i)) ∙ sym (first_append (one_of w xs) (seen_at cs n a) (seen_from cs (suc n) said))

  none_when : {A : Type 0} (b c : Bool) (x y : A) → b ≡ c → when c y ≡ None → when b x ≡ None
  none_when true true x y e h = absurd cc
  none_when true false x y e h = absurd cc
  none_when false c x y e h = refl

  pub names_asked : (w : ℕ → Bool) (xs : List ℕ) → IsAsked (one_of w xs)
  names_asked w xs = record {
    blank = λ s e. ap (λ ys. when (meets w xs ys) s.statement) e ∙ ap (λ b. when b s.statement) (meets_none w xs);
    alike = λ s t e f h. none_when (meets w xs s.cells) (meets w xs t.cells) s.statement t.statement (ap (meets w xs) e) h;
  }

  -- ---- what is written

  reads_put : (n : ℕ) (at : Place) (us : List Use) → all_put (map (read_at cs n at) us) ≡ []
  reads_put n at [] = refl
  reads_put n at (u ∷ us) = reads_put n at us

  puts_put : (n : ℕ) (at : Place) (o : Option (Left × Pick)) → all_put (put_at cs n at o) ≡ unwrap_or (option_map (λ y. cells_of cs y.0) o) []
  puts_put n at None = refl
  puts_put n at (Some o) = append-nil (cells_of cs o.0)

  pub all_writes_put : (n : ℕ) (said : List Act) → all_put (seen_from cs n said) ≡ all_writes cs said
  all_writes_put n [] = refl
  all_writes_put n (a ∷ said) =
      flat_map-append put_cells (seen_at cs n a) (seen_from cs (suc n) said)
      ∙ ap (λ ys. ys ++ all_put (seen_from cs (suc n) said)) (flat_map-append put_cells (map (read_at cs n a.place) a.reads) (put_at cs n a.place a.writes)
      ∙ ap (λ ys. ys ++ all_put (put_at cs n a.place a.writes)) (reads_put n a.place a.reads) ∙ puts_put n a.place a.writes)
      ∙ ap (λ ys. writes_of cs a ++ ys) (all_writes_put (suc n) said)

  among_put : (x : ℕ) (ss : List Seen) → among x (all_put ss) ≡ list_any (λ s. among x (put_cells s)) ss
  among_put x [] = refl
  among_put x (s ∷ ss) = list_any-append (λ y. nat_eq x y) (put_cells s) (all_put ss) ∙ ap (λ b. among x (put_cells s) || b) (among_put x ss)

  put_tested : (x : ℕ) → IsTested (λ s. among x (put_cells s))
  put_tested x = record {
    blank = λ s e. ap (λ ys. among x (if s.write then ys else [])) e ∙ nothing s.write;
    alike = λ s t e f. λ i. among x (if f i then e i else []);
  }
    where
      nothing : (b : Bool) → among x (if b then [] else []) ≡ false
      nothing true = refl
      nothing false = refl

  -- the same cells are written
  pub put_same : (x : ℕ) (said : List Act) (t : List Seen) → IsThinned [] (seen_from cs 0 said) t → among x (all_put t) ≡ among x (all_writes cs said)
  put_same x said t is =
      among_put x t ∙ sym (thin_any (λ s. among x (put_cells s)) (put_tested x) false [] (seen_from cs 0 said) t is tt) ∙ sym (among_put x (seen_from cs 0 said))
      ∙ ap (among x) (all_writes_put 0 said)

  -- what one earlier process names
  pub one_sharer : (later : ℕ → Bool) (own xs : List ℕ) (earlier : List Act) (t : List Seen) → ((x : ℕ) → among x own ≡ later x) → IsThinned [] (seen_from cs 0 earlier) t
      → first_of (λ b. when (meets (λ x. later x || among x (all_writes cs earlier)) xs (names_of cs b)) b.place) earlier
      ≡ first_of (one_of (λ x. among x own || among x (all_put t)) xs) t
  one_sharer later own xs earlier t mine is =
      names_marks (λ x. later x || among x (all_writes cs earlier)) xs 0 earlier
      ∙ thinned (one_of (λ x. later x || among x (all_writes cs earlier)) xs) (names_asked (λ x. later x || among x (all_writes cs earlier)) xs) [] (seen_from cs 0 earlier) t is tt
      ∙ ap (λ w. first_of (one_of w xs) t) (λ i x. sym (mine x) i || sym (put_same x earlier t is) i)
