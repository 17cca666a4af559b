-- Two writers by lists of what is written.
use Rattle.std.proofs.Common.{◌≡◌, refl, sym, ap, ◌∙◌, subst, ℕ, suc, Bool, true, false, ◌&&◌, List, [], ◌∷◌, ◌++◌, map, Option, Some, None, option_map, unwrap_or}
use Rattle.std.specs.List.{list_any}
use Rattle.scc_base.specs.declared.refusal.Place.{Place}
use Rattle.scc_base.specs.declared.refusal.Refusal.{Refusal}
use Rattle.scc_base.specs.declared.code.Code.TheVariants as reason
use Rattle.scc_core_spec.specs.Clashes.{both_write, clash_of, first_clash, live_acts, two_writers}
use Rattle.scc_core_spec.specs.First.{or_else, first_of, when, refused_beside}
use Rattle.scc_core_spec.specs.Program.{Program, is_root}
use Rattle.scc_core_spec.specs.Static.{Cells}
use Rattle.scc_core_spec.specs.Term.{Left, Pick}
use Rattle.scc_core_spec.specs.Uses.{Use, Act, among, cells_of, has_sort, writes_of}
use Rattle.scc_rules_laws.specs.Found.{first_writer, only, second_writer, two_in, writes_one}
use Rattle.scc_rules_laws.specs.Seen.{Seen, AreSeen, AreThinned, IsThinned, put_at, read_at, seen_at, seen_from}
use Rattle.scc_rules_laws.proofs.Firsts.{and_false, any_none, first_append, first_none, first_same, first_told, only_none, or_none, when_told}
use Rattle.scc_rules_laws.proofs.Thinned.{IsAsked, thinned}

-- ---- a question on what statements write

abbrev pub asks : {A : Type 0} → (Place → List ℕ → Option A) → Seen → Option A
asks h s = only s.write (h s.statement s.cells)

module _ {A : Type 0} (h : Place → List ℕ → Option A) (blank : (p : Place) → h p [] ≡ None) (cs : Cells) where
  put_asks : (n : ℕ) (at : Place) (w : Option (Left × Pick)) → h at (unwrap_or (option_map (λ x. cells_of cs x.0) w) []) ≡ first_of (asks h) (put_at cs n at w)
  put_asks n at None = blank at
  put_asks n at (Some w) = sym (or_none (h at (cells_of cs w.0)))

  reads_ask : (n : ℕ) (at : Place) (us : List Use) → first_of (asks h) (map (read_at cs n at) us) ≡ None
  reads_ask n at [] = refl
  reads_ask n at (u ∷ us) = reads_ask n at us

  pub puts_ask : (n : ℕ) (said : List Act) → first_of (λ a. h a.place (writes_of cs a)) said ≡ first_of (asks h) (seen_from cs n said)
  puts_ask n [] = refl
  puts_ask n (a ∷ said) =
      ap (λ o. or_else o (first_of (λ b. h b.place (writes_of cs b)) said)) (put_asks n a.place a.writes)
      ∙ ap (or_else (first_of (asks h) (put_at cs n a.place a.writes))) (puts_ask (suc n) said)
      ∙ ap (λ o. or_else (or_else o (first_of (asks h) (put_at cs n a.place a.writes))) (first_of (asks h) (seen_from cs (suc n) said))) (sym (reads_ask n a.place a.reads))
      ∙ ap (λ o. or_else o (first_of (asks h) (seen_from cs (suc n) said))) (sym (first_append (asks h) (map (read_at cs n a.place) a.reads) (put_at cs n a.place a.writes)))
      ∙ sym (first_append (asks h) (seen_at cs n a) (seen_from cs (suc n) said))

  -- whether it has an answer depends on the cells alone
  pub puts_asked : ((p q : Place) (xs : List ℕ) → h q xs ≡ None → h p xs ≡ None) → IsAsked (asks h)
  puts_asked same = record {
    blank = λ s e. ap (λ xs. only s.write (h s.statement xs)) e ∙ ap (only s.write) (blank s.statement) ∙ only_none s.write;
    alike = λ s t e f k. by s.write t.write f s.statement t.statement s.cells t.cells e k;
  }
    where
      by : (w v : Bool) → w ≡ v → (p q : Place) (xs ys : List ℕ) → xs ≡ ys → only v (h q ys) ≡ None → only w (h p xs) ≡ None
      by true true e p q xs ys f k = same p q xs (ap (h q) f ∙ k)
      by true false e p q xs ys f k = absurd cc
      by false v e p q xs ys f k = refl

-- ---- E501

module _ (cs : Cells) where
  abbrev meets : List ℕ → List ℕ → Bool
  meets xs ys = list_any (λ x. has_sort is_root cs x && among x ys) xs

  meets_none : (xs : List ℕ) → meets xs [] ≡ false
  meets_none xs = any_none (λ x. has_sort is_root cs x && false) (λ x. and_false (has_sort is_root cs x)) xs

  -- of one earlier process
  one_writer : (xs : List ℕ) (earlier : List Act) (t : List Seen) → IsThinned [] (seen_from cs 0 earlier) t
      → first_of (λ b. when (meets xs (writes_of cs b)) b.place) earlier ≡ first_of (writes_one cs xs) t
  one_writer xs earlier t is =
      puts_ask (λ p ys. when (meets xs ys) p) (λ p. ap (λ b. when b p) (meets_none xs)) cs 0 earlier
      ∙ thinned (writes_one cs xs) (puts_asked (λ p ys. when (meets xs ys) p) (λ p. ap (λ b. when b p) (meets_none xs)) cs (λ p q ys k. by (meets xs ys) p q k)) [] (seen_from cs 0 earlier) t is tt
    where
      by : (b : Bool) (p q : Place) → when b q ≡ None → when b p ≡ None
      by true p q k = absurd cc
      by false p q k = refl

  writers : (xs : List ℕ) (before : List (List Act)) (thin : List (List Seen)) → AreThinned (map (seen_from cs 0) before) thin
      → first_of (λ earlier. first_of (λ b. when (meets xs (writes_of cs b)) b.place) earlier) before ≡ first_writer cs thin xs
  writers xs [] [] is = refl
  writers xs [] (t ∷ thin) is = absurd is
  writers xs (a ∷ before) [] is = absurd is
  writers xs (a ∷ before) (t ∷ thin) is = λ i. or_else (one_writer xs a t is.0 i) (writers xs before thin is.1 i)

  -- what one statement of a later process clashes with
  abbrev clash : List (List Seen) → Place → List ℕ → Option Refusal
  clash thin p xs = option_map (refused_beside reason.TwoWriters p) (first_writer cs thin xs)

  told : (p : Place) (xs : List ℕ) (before : List (List Act))
      → first_of (λ earlier. first_of (λ b. when (meets xs (writes_of cs b)) (refused_beside reason.TwoWriters p b.place)) earlier) before
      ≡ option_map (refused_beside reason.TwoWriters p) (first_of (λ earlier. first_of (λ b. when (meets xs (writes_of cs b)) b.place) earlier) before)
  told p xs before =
      first_same _ _ (λ earlier. first_same _ _ (λ b. sym (when_told (refused_beside reason.TwoWriters p) (meets xs (writes_of cs b)) b.place)) earlier
      ∙ sym (first_told (refused_beside reason.TwoWriters p) (λ b. when (meets xs (writes_of cs b)) b.place) earlier)) before
      ∙ sym (first_told (refused_beside reason.TwoWriters p) (λ earlier. first_of (λ b. when (meets xs (writes_of cs b)) b.place) earlier) before)

  clashes : (later : List Act) (before : List (List Act)) (thin : List (List Seen)) → AreThinned (map (seen_from cs 0) before) thin → (a : Act)
      → clash_of reason.TwoWriters both_write cs later before a ≡ clash thin a.place (writes_of cs a)
  clashes later before thin is a = told a.place (writes_of cs a) before ∙ ap (option_map (refused_beside reason.TwoWriters a.place)) (writers (writes_of cs a) before thin is)

  none_written : (thin : List (List Seen)) → first_writer cs thin [] ≡ None
  none_written thin = first_none _ (λ t. first_none _ (λ s. only_none s.write) t) thin

  asked : (thin : List (List Seen)) → IsAsked (second_writer cs thin)
  asked thin = puts_asked (clash thin) (λ p. ap (option_map (refused_beside reason.TwoWriters p)) (none_written thin)) cs (λ p q xs k. by (first_writer cs thin xs) p q k)
    where
      by : (o : Option Place) (p q : Place) → option_map (refused_beside reason.TwoWriters q) o ≡ None → option_map (refused_beside reason.TwoWriters p) o ≡ None
      by None p q k = refl
      by (Some at) p q k = absurd cc

  one_process : (later : List Act) (t : List Seen) (before : List (List Act)) (thin : List (List Seen)) → IsThinned [] (seen_from cs 0 later) t → AreThinned (map (seen_from cs 0) before) thin
      → first_of (clash_of reason.TwoWriters both_write cs later before) later ≡ first_of (second_writer cs thin) t
  one_process later t before thin is are =
      first_same _ _ (clashes later before thin are) later
      ∙ puts_ask (clash thin) (λ p. ap (option_map (refused_beside reason.TwoWriters p)) (none_written thin)) cs 0 later
      ∙ thinned (second_writer cs thin) (asked thin) [] (seen_from cs 0 later) t is tt

  pub more : (before : List (List Act)) (a : List Act) (thin : List (List Seen)) (t : List Seen) → AreThinned (map (seen_from cs 0) before) thin → IsThinned [] (seen_from cs 0 a) t
      → AreThinned (map (seen_from cs 0) (before ++ a ∷ [])) (thin ++ t ∷ [])
  more [] a [] t are is = (is, tt)
  more [] a (u ∷ thin) t are is = absurd are
  more (b ∷ before) a [] t are is = absurd are
  more (b ∷ before) a (u ∷ thin) t are is = (are.0, more before a thin t are.1 is)

  all : (before rest : List (List Act)) (thin back : List (List Seen)) → AreThinned (map (seen_from cs 0) before) thin → AreThinned (map (seen_from cs 0) rest) back
      → two_in cs thin back ≡ first_clash reason.TwoWriters both_write cs before rest
  all before [] thin [] are is = refl
  all before [] thin (t ∷ back) are is = absurd is
  all before (a ∷ rest) thin [] are is = absurd is
  all before (a ∷ rest) thin (t ∷ back) are is =
      λ i. or_else (sym (one_process a t before thin is.0 are) i) (all (before ++ a ∷ []) rest (thin ++ t ∷ []) back (more before a thin t are is.0) is.1 i)

map_map : {A B C : Type 0} (f : B → C) (g : A → B) (xs : List A) → map f (map g xs) ≡ map (λ x. f (g x)) xs
map_map f g [] = refl
map_map f g (x ∷ xs) = ap (λ ys. f (g x) ∷ ys) (map_map f g xs)

pub writers_told : (p : Program) (thin : List (List Seen)) → AreSeen p thin → two_in p.cells [] thin ≡ two_writers p
writers_told p thin is = all p.cells [] (map (live_acts p.cells) p.processes) [] thin tt (subst (λ xs. AreThinned xs thin) (sym (map_map (seen_from p.cells 0) (live_acts p.cells) p.processes)) is)
