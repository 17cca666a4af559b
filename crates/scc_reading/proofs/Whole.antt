-- A whole text: what is read, and where a fault stands.
use Rattle.std.specs.Prelude.{◌≡◌, ℕ, length, List, [], ◌∷◌, ◌++◌, Option, Some, None, Ok, Err, refl}
use Rattle.std.proofs.Common.{sym, ◌∙◌, ap, append_assoc, arith, length-append}
use Rattle.scc_reading.specs.Reading.{unexpected, too_deep, Outcome, Parser, and_then, ◌>>=◌, at_end}
use Rattle.scc_reading.specs.Claim.{Begins, Within, IsUnexpected, IsTooDeep, Verdict}
use Rattle.scc_reading.proofs.Answer.{Front, one_front, both_fronts, SameHead, same_head, Rule, Completes, Gave, Stuck, Deep, Answer, Answers}
use Rattle.scc_reading.proofs.Complete.{Is, verdict, not_unexpected}

module _ {T : Type 0} where
  -- what stands before the same tokens stands before any
  same_before : (f w z s : List T) → f ++ z ≡ w ++ z → f ++ s ≡ w ++ s
  same_before [] [] z s e = refl
  same_before [] (b ∷ w) z s e = absurd (omega (arith, ap length e, length-append (b ∷ w) z))
  same_before (a ∷ f) [] z s e = absurd (omega (arith, ap length e, length-append (a ∷ f) z))
  same_before (a ∷ f) (b ∷ w) z s e =
      let both : a ∷ (f ++ z) ≡ b ∷ (w ++ z) = e in
      let head : a ≡ b = cc in
      let tail : f ++ z ≡ w ++ z = cc in
      rw head (ap (λ us. b ∷ us) (same_before f w z s tail))

-- From a function that answers a rule, which with nothing behind it is the grammar, and reads whatever is of the grammar.
module _ {T A : Type 0} (Reads : List T → A → Type 0) (deep : (ts : List T) (tree : A) → Reads ts tree → Option (List T))
    (n : ℕ) (R : Rule T A) (p : Parser T A) (h : Answers n R p)
    (alone : (tree : A) (ts : List T) → R tree ts [] → Reads ts tree)
    (complete : (ts : List T) (tree : A) (d : Reads ts tree) → Is ((p >>= at_end) ts) (deep ts tree d) tree []) where
  abbrev whole : Parser T A
  whole = p >>= at_end

  completed : (w : Front T) → Completes R w → Begins Reads w.word
  completed w c =
      let z : List T = c.by.onto [] in
      (z, c.tree, rw (← w.is z) (alone c.tree (w.onto z) (c.reads [])))

  ends : (ts : List T) (o : Outcome T A) → p ts ≡ o → whole ts ≡ and_then o at_end
  ends ts o e = ap (λ o. and_then o at_end) e

  not_whole : (ts r : List T) → whole ts ≡ Err (unexpected r) → (tree : A) → Reads ts tree → ⊥
  not_whole ts r e tree d = not_unexpected (complete ts tree d) e

  -- how a text goes on
  joined : (w : Front T) (t : T) (m : List T) → (w.word ++ t ∷ []) ++ m ≡ w.onto (t ∷ m)
  joined w t m = append_assoc w.word (t ∷ []) m ∙ sym (w.is (t ∷ m))

  level_none : (v : Option (List T)) (x y : A) (r : List T) → verdict v x r ≡ Ok (y, r) → v ≡ None
  level_none None x y r e = refl
  level_none (Some at) x y r e = cc

  level_some : (v : Option (List T)) (x : A) (r at : List T) → verdict v x r ≡ Err (too_deep at) → v ≡ Some at
  level_some None x r at e = cc
  level_some (Some b) x r at e = cc

  -- A level past the limit is opened whatever follows.
  never_ends : (x : A) (r at : List T) → at_end x r ≡ Err (too_deep at) → ⊥
  never_ends x [] at e = cc
  never_ends x (t ∷ r) at e = cc

  deep_in : (o : Outcome T A) (at : List T) → and_then o at_end ≡ Err (too_deep at) → o ≡ Err (too_deep at)
  deep_in (Ok x) at e = absurd (never_ends x.0 x.1 at e)
  deep_in (Err f) at e = let same : f ≡ too_deep at = cc in ap (λ g. Err g) same

  deep_before : (f : List T) (t : T) (rest s : List T) → p (f ++ t ∷ rest) ≡ Err (too_deep (t ∷ rest)) → p (f ++ t ∷ s) ≡ Err (too_deep (t ∷ s))
  deep_before f t rest s e = go (rw e at (h.at (f ++ t ∷ rest)))
    where
      go : Deep R p (f ++ t ∷ rest) (t ∷ rest) → p (f ++ t ∷ s) ≡ Err (too_deep (t ∷ s))
      go g =
          let head : t ≡ g.t = let is : t ∷ rest ≡ g.t ∷ g.more = g.is in cc in
          let tail : rest ≡ g.more = let is : t ∷ rest ≡ g.t ∷ g.more = g.is in cc in
          let both : f ++ t ∷ rest ≡ g.w.word ++ t ∷ rest = g.whole ∙ g.w.is (g.t ∷ g.more) ∙ ap (λ us. g.w.word ++ us) (sym g.is) in
          let moved : f ++ t ∷ s ≡ g.w.onto (t ∷ s) = same_before f g.w.word (t ∷ rest) (t ∷ s) both ∙ sym (g.w.is (t ∷ s)) in
          rw moved (rw (← head) at (g.alike s))

  not_deep : (ts front r : List T) → ts ≡ front ++ r → (o : Outcome T A) → p ts ≡ o → ((t : T) (g : List T) → o ≡ Err (too_deep (t ∷ (g ++ r))) → ⊥) → Within Reads deep front
  not_deep ts front r whole_is o e never f t g front_is rest tree d k =
      let stops : whole (f ++ t ∷ rest) ≡ Err (too_deep (t ∷ rest)) = (complete (f ++ t ∷ rest) tree d).is ∙ ap (λ v. verdict v tree []) k in
      let inside : p (f ++ t ∷ rest) ≡ Err (too_deep (t ∷ rest)) = deep_in (p (f ++ t ∷ rest)) (t ∷ rest) stops in
      let same : ts ≡ f ++ t ∷ (g ++ r) = whole_is ∙ ap (λ us. us ++ r) front_is ∙ append_assoc f (t ∷ g) r in
      never t g (sym e ∙ ap p same ∙ deep_before f t rest (g ++ r) inside)

  at_ok : (ts : List T) (x : A) (r : List T) → p ts ≡ Ok (x, r) → Gave n R p ts x r → Verdict Reads deep ts (at_end x r)
  at_ok ts x [] e g =
      let d : Reads ts x = alone x ts (rw g.whole (g.reads [])) in
      (d, level_none (deep ts x d) x x [] (sym (complete ts x d).is ∙ ends ts (Ok (x, [])) e))
  at_ok ts x (t ∷ more) e g = record {
    front = g.w.word;
    whole = g.whole ∙ g.w.is (t ∷ more);
    begins = ([], x, rw (← g.w.is []) (alone x (g.w.onto []) (g.reads [])));
    never = λ u rest same b.
        let head : t ≡ u = cc in
        let stops : whole (g.w.onto (u ∷ b.0)) ≡ Err (unexpected (u ∷ b.0)) = ends (g.w.onto (u ∷ b.0)) (Ok (x, u ∷ b.0)) (g.alike (u ∷ b.0) head) in
        not_whole (g.w.onto (u ∷ b.0)) (u ∷ b.0) stops b.1 (rw (← joined g.w u b.0) b.2);
    short = λ same. cc;
    within = not_deep ts g.w.word (t ∷ more) (g.whole ∙ g.w.is (t ∷ more)) (Ok (x, t ∷ more)) e (λ u more_front k. cc);
  }

  at_stuck : (ts r : List T) → p ts ≡ Err (unexpected r) → Stuck R p ts r → IsUnexpected Reads deep ts r
  at_stuck ts r e g = record {
    front = g.w.word;
    whole = g.whole ∙ g.w.is r;
    begins = completed g.w g.completes;
    never = λ u rest same b.
        let head : SameHead r (u ∷ b.0) = rw same refl in
        let stops : whole (g.w.onto (u ∷ b.0)) ≡ Err (unexpected (u ∷ b.0)) = ends (g.w.onto (u ∷ b.0)) (Err (unexpected (u ∷ b.0))) (g.alike (u ∷ b.0) head) in
        not_whole (g.w.onto (u ∷ b.0)) (u ∷ b.0) stops b.1 (rw (← joined g.w u b.0) b.2);
    short = λ same tree d.
        let stops : whole (g.w.onto r) ≡ Err (unexpected r) = ends (g.w.onto r) (Err (unexpected r)) (g.alike r (same_head r)) in
        not_whole (g.w.onto r) r stops tree (rw (← g.whole) d);
    within = not_deep ts g.w.word r (g.whole ∙ g.w.is r) (Err (unexpected r)) e (λ u more_front k. cc);
  }

  longer : (r : List T) (t : T) (more : List T) → r ≡ t ∷ more → (u : T) (g : List T) → r ≡ u ∷ (g ++ (t ∷ more)) → ⊥
  longer r t more is u g e = absurd (omega (arith, ap length is, ap length e, length-append g (t ∷ more)))

  at_deep : (ts r : List T) → p ts ≡ Err (too_deep r) → Deep R p ts r → IsTooDeep Reads deep ts r
  at_deep ts r e g =
      let c : Begins Reads (g.w.word ++ g.t ∷ []) = completed (both_fronts g.w (one_front g.t)) g.completes in
      record {
        front = g.w.word;
        t = g.t;
        more = g.more;
        is = g.is;
        whole = g.whole ∙ g.w.is (g.t ∷ g.more);
        begins = c;
        within = not_deep ts g.w.word (g.t ∷ g.more) (g.whole ∙ g.w.is (g.t ∷ g.more)) (Err (too_deep r)) e (λ u more_front k. let same : r ≡ u ∷ (more_front ++ (g.t ∷ g.more)) = cc in longer r g.t g.more g.is u more_front same);
        opens = λ rest tree d.
            let stops : whole (g.w.word ++ g.t ∷ rest) ≡ Err (too_deep (g.t ∷ rest)) = rw (← g.w.is (g.t ∷ rest)) (ends (g.w.onto (g.t ∷ rest)) (Err (too_deep (g.t ∷ rest))) (g.alike rest)) in
            level_some (deep (g.w.word ++ g.t ∷ rest) tree d) tree [] (g.t ∷ rest) (sym (complete (g.w.word ++ g.t ∷ rest) tree d).is ∙ stops);
      }

  pub verdict_at : (ts : List T) → Verdict Reads deep ts ((p >>= at_end) ts)
  verdict_at ts = go (p ts) refl (h.at ts)
    where
      go : (o : Outcome T A) → p ts ≡ o → Answer n R p ts o → Verdict Reads deep ts (and_then o at_end)
      go (Ok x) e g = at_ok ts x.0 x.1 e g
      go (Err (unexpected r)) e g = at_stuck ts r e g
      go (Err (too_deep r)) e g = at_deep ts r e g
