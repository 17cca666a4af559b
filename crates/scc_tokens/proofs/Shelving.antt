-- What the files that were read hold, each of them once.
use Rattle.std.proofs.Common.{◌≡◌, ◌≤◌, ℕ, suc, ◌+◌, List, [], ◌∷◌, ◌++◌, length, take, Bool, true, false, cond, not, nat_lt, Some, None, option_map, bytes_eq, refl, sym, ap, subst, ◌∙◌, arith}
use Rattle.std.specs.List.{prefix_len}
use Rattle.std.proofs.lemmas.List.{take_all}
use Rattle.std.proofs.lemmas.List.Sums.{prefix_len-le-length}
use Rattle.std.proofs.lemmas.Slice.Eq.{bytes_eq-Decides}
use Rattle.std.proofs.lemmas.Bool.Decides.{nat_tests}
use Rattle.scc_base.specs.Outside.{Shelf}
use Rattle.scc_tokens.specs.Files.{HoldsAll, AllShort, Reads, number_of, shelf_of, first_part}
use Rattle.scc_tokens_directives.specs.declared.file.Source.{Source}
use Rattle.scc_tokens.proofs.Numbered.{holds_more, holds_less}

pub reads_same : (src : List Source) → Reads src src
reads_same src = record { earlier = λ shelf h. h; differ = λ h. h; short = λ h. h }

pub reads_then : (a b c : List Source) → Reads a b → Reads b c → Reads a c
reads_then a b c p q = record { earlier = λ shelf h. p.earlier shelf (q.earlier shelf h); differ = λ h. q.differ (p.differ h); short = λ h. q.short (p.short h) }

holds_by : (f g : Shelf) (ss : List Source) → ((n b : List ℕ) → f n ≡ Some b → g n ≡ Some b) → HoldsAll f ss → HoldsAll g ss
holds_by f g [] to h = tt
holds_by f g (s ∷ ss) to h = (to s.name s.bytes h.0, holds_by f g ss to h.1)

held_more : (ss : List Source) (s : Source) (n b : List ℕ) → shelf_of ss n ≡ Some b → shelf_of (ss ++ s ∷ []) n ≡ Some b
held_more [] s n b e = cc
held_more (x ∷ xs) s n b e = by (bytes_eq x.name n) refl e (held_more xs s n b)
  where
    by : (v : Bool) → bytes_eq x.name n ≡ v → cond v (Some x.bytes) (shelf_of xs n) ≡ Some b → (shelf_of xs n ≡ Some b → shelf_of (xs ++ s ∷ []) n ≡ Some b)
        → cond v (Some x.bytes) (shelf_of (xs ++ s ∷ []) n) ≡ Some b
    by true g e rest = e
    by false g e rest = rest e

-- how many files stand before the first of this name
abbrev names_before : List Source → List ℕ → ℕ
names_before ss n = prefix_len (λ s. not (bytes_eq s.name n)) ss

no_number : (ss : List Source) (n : List ℕ) → number_of ss n ≡ None → names_before ss n ≡ length ss
no_number ss n e = by (nat_lt (names_before ss n) (length ss)) refl e
  where
    by : (v : Bool) → nat_lt (names_before ss n) (length ss) ≡ v → cond v (Some (names_before ss n)) None ≡ None → names_before ss n ≡ length ss
    by true g e = cc
    by false g e = let most = prefix_len-le-length (λ (s : Source). not (bytes_eq s.name n)) ss in grind (arith, nat_tests, most)

held_last : (ss : List Source) (s : Source) → names_before ss s.name ≡ length ss → shelf_of (ss ++ s ∷ []) s.name ≡ Some s.bytes
held_last [] s e = ap (λ b. cond b (Some s.bytes) None) ((bytes_eq-Decides s.name s.name).1 refl)
held_last (x ∷ xs) s e = by (bytes_eq x.name s.name) refl e (held_last xs s)
  where
    by : (v : Bool) → bytes_eq x.name s.name ≡ v → cond (not v) (1 + names_before xs s.name) 0 ≡ suc (length xs) → (names_before xs s.name ≡ length xs → shelf_of (xs ++ s ∷ []) s.name ≡ Some s.bytes)
        → cond v (Some x.bytes) (shelf_of (xs ++ s ∷ []) s.name) ≡ Some s.bytes
    by true g e rest = absurd (omega arith)
    by false g e rest = rest (omega arith)

-- a file that wasn't read is not on the shelf
pub held_none : (ss : List Source) (n : List ℕ) → number_of ss n ≡ None → shelf_of ss n ≡ None
held_none ss n e = none ss (no_number ss n e)
  where
    none : (ss : List Source) → names_before ss n ≡ length ss → shelf_of ss n ≡ None
    none [] e = refl
    none (x ∷ xs) e = by (bytes_eq x.name n) refl e (none xs)
      where
        by : (v : Bool) → bytes_eq x.name n ≡ v → cond (not v) (1 + names_before xs n) 0 ≡ suc (length xs) → (names_before xs n ≡ length xs → shelf_of xs n ≡ None)
            → cond v (Some x.bytes) (shelf_of xs n) ≡ None
        by true g e rest = absurd (omega arith)
        by false g e rest = rest (omega arith)

differ_more : (ss : List Source) (s : Source) → number_of ss s.name ≡ None → HoldsAll (shelf_of ss) ss → HoldsAll (shelf_of (ss ++ s ∷ [])) (ss ++ s ∷ [])
differ_more ss s none h =
    holds_more (shelf_of (ss ++ s ∷ [])) ss s (holds_by (shelf_of ss) (shelf_of (ss ++ s ∷ [])) ss (held_more ss s) h) (held_last ss s (no_number ss s.name none))

pub short_more : (ss : List Source) (s : Source) → AllShort ss → length s.bytes ≤ 1048577 → AllShort (ss ++ s ∷ [])
short_more [] s h b = (b, tt)
short_more (x ∷ xs) s h b = (h.0, short_more xs s h.1 b)

-- a file that wasn't read before
pub reads_one : (src src' : List Source) (s : Source) → src' ≡ src ++ s ∷ [] → number_of src s.name ≡ None → length s.bytes ≤ 1048577 → Reads src src'
reads_one src src' s e none short = record {
  earlier = λ shelf h. (holds_less shelf src s (subst (HoldsAll shelf) e h)).0;
  differ = λ h. subst (λ l. HoldsAll (shelf_of l) l) (sym e) (differ_more src s none h);
  short = λ h. subst AllShort (sym e) (short_more src s h short);
}

-- short files are their own first parts
pub first_holds : (shelf : Shelf) (ss : List Source) → HoldsAll shelf ss → AllShort ss → HoldsAll (first_part shelf) ss
first_holds shelf [] h b = tt
first_holds shelf (s ∷ ss) h b = (ap (option_map (take 1048577)) h.0 ∙ ap Some (take_all 1048577 s.bytes b.0), first_holds shelf ss h.1 b.1)
