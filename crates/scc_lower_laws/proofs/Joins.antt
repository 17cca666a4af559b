-- Concatenations are lowered part by part.
use Rattle.std.proofs.Common.{◌≡◌, ◌<◌, ◌^◌, ◌*◌, ◌+◌, ℕ, false, List, [], ◌∷◌, Some, refl, sym, ap, ◌∙◌, subst, arith}
use Rattle.std.proofs.lemmas.Nat.{pow-add}
use Rattle.scc_base.specs.declared.refusal.Place.{Place}
use Rattle.scc_bits_kinds.specs.declared.kind.Kind.{Kind}
use Rattle.scc_bits_kinds.specs.Bits.{joined}
use Rattle.scc_bits_kinds.specs.Kinds.{width_of}
use Rattle.scc_svtree.specs.Code.{Code}
use Rattle.scc_svtree.specs.Mentions.{reads}
use Rattle.scc_svtree.specs.Running.{run}
use Rattle.scc_svtree.specs.Sizes.{sized}
use Rattle.scc_core_spec.specs.Term.{Term, Join, kind_of}
use Rattle.scc_blocks_spec.specs.Acting.{Acting, word_in}
use Rattle.scc_blocks_spec.specs.Shown.{Sight, Shows}
use Rattle.scc_blocks_spec.specs.Lowered.{Fits}
use Rattle.scc_lower_spec.specs.Gives.{Gives}
use Rattle.scc_lower_spec.specs.Selected.{Piece, pieces_width, pieces_word, GivePieces}
use Rattle.scc_lower_spec.proofs.Selected.{concat_gives, pieces_fit}
use Rattle.scc_lower_laws.specs.Outcome.{Outcome, Made, text_of}
use Rattle.scc_lower_laws.specs.Lowers.{temporary, ReadsBelow, Lowers}
use Rattle.scc_lower_laws.specs.Joins.{joins, widths, LowersAll, texts, joined_text}
use Rattle.scc_lower_laws.proofs.Options.{some_same, two_is}
use Rattle.scc_lower_laws.proofs.Frames.{text-gives}
use Rattle.scc_lower_laws.proofs.Rules.{or_by}

module _ (s : Sight) (width : ℕ → ℕ) (n m : ℕ) (c : Code) where
  -- the words of parts behind the first
  record Parts (first : Term) (es : List Term) (os : List Outcome) (a : Acting) (x : ℕ → ℕ) (w : ℕ) : Type 0 where
    high : ℕ
    of_first : word_in s.cells a first ≡ Some high
    pieces : List Piece
    give : GivePieces false (width) (run width c x) (texts os) pieces
    are_wide : pieces_width pieces ≡ widths es
    is : w ≡ high * 2 ^ pieces_width pieces + pieces_word pieces

  parts-of : (p : Place) (k : Kind) (first : Term) (es : List Term) (os : List Outcome) (a : Acting) (x : ℕ → ℕ) (w : ℕ) → LowersAll s width n m es c os → Fits s a → Shows s a x → word_in s.cells a (joins p k first es) ≡ Some w → Parts first es os a x w
  parts-of p k first [] [] a x w h f g q = record { high = w; of_first = q; pieces = []; give = tt; are_wide = refl; is = omega arith }
  parts-of p k first [] (o ∷ os) a x w h f g q = absurd h
  parts-of p k first (e ∷ es) [] a x w h f g q = absurd h
  parts-of p k first (e ∷ es) (o ∷ os) a x w h f g q =
      let r = parts-of p k (Join p k first e) es os a x w h.1 f g q in
      let u = two_is (word_in s.cells a first) (word_in s.cells a e) (λ y z. Some (joined (width_of (kind_of e)) y z)) r.high r.of_first in
      let small = h.0.fits a x u.1 f g u.3 in
      let here = text-gives width (run width c x) (kind_of e) o u.1 small (h.0.gives a x u.1 f g u.3) in
      let piece : Piece = record { width = width_of (kind_of e); word = u.1 } in
      let high : u.0 * 2 ^ width_of (kind_of e) + u.1 ≡ r.high = some_same u.4 in
      record {
        high = u.0;
        of_first = u.2;
        pieces = piece ∷ r.pieces;
        give = (small, here, r.give);
        are_wide = ap (λ z. width_of (kind_of e) + z) r.are_wide;
        is = r.is ∙ ap (λ z. z * 2 ^ pieces_width r.pieces + pieces_word r.pieces) (sym high) ∙ shifted u.0 (width_of (kind_of e)) u.1 (pieces_width r.pieces) (pieces_word r.pieces);
      }
    where
      shifted : (y v z w r : ℕ) → (y * 2 ^ v + z) * 2 ^ w + r ≡ y * 2 ^ (v + w) + (z * 2 ^ w + r)
      shifted y v z w r = let e : 2 ^ (v + w) ≡ 2 ^ v * 2 ^ w = pow-add 2 v w in omega (arith, ap (λ t. y * t) e)

  joined-below : (es : List Term) (os : List Outcome) → LowersAll s width n m es c os → ReadsBelow s m (joined_text os)
  joined-below [] [] h v d = absurd (cc)
  joined-below [] (o ∷ os) h v d = absurd h
  joined-below (e ∷ es) [] h v d = absurd h
  joined-below (e ∷ []) (o ∷ []) h v d = h.0.below v d
  joined-below (e ∷ []) (o ∷ q ∷ os) h v d = absurd h.1
  joined-below (e ∷ f ∷ es) (o ∷ []) h v d = absurd h.1
  joined-below (e ∷ f ∷ es) (o ∷ q ∷ os) h v d = or_by (v < temporary s m) (reads (text_of o) v) (reads (joined_text (q ∷ os)) v) d (h.0.below v) (joined-below (f ∷ es) (q ∷ os) h.1 v)

  -- all the parts, as pieces
  record Pieces (es : List Term) (os : List Outcome) (x : ℕ → ℕ) (w : ℕ) : Type 0 where
    pieces : List Piece
    give : GivePieces false width (run width c x) (texts os) pieces
    are_wide : pieces_width pieces ≡ widths es
    is : w ≡ pieces_word pieces

  pieces-of : (p : Place) (k : Kind) (e : Term) (es : List Term) (o : Outcome) (os : List Outcome) (a : Acting) (x : ℕ → ℕ) (w : ℕ) → LowersAll s width n m (e ∷ es) c (o ∷ os) → Fits s a → Shows s a x → word_in s.cells a (joins p k e es) ≡ Some w → Pieces (e ∷ es) (o ∷ os) x w
  pieces-of p k e es o os a x w h f g q =
      let r = parts-of p k e es os a x w h.1 f g q in
      let small = h.0.fits a x r.high f g r.of_first in
      let here = text-gives width (run width c x) (kind_of e) o r.high small (h.0.gives a x r.high f g r.of_first) in
      record { pieces = record { width = width_of (kind_of e); word = r.high } ∷ r.pieces; give = (small, here, r.give); are_wide = ap (λ z. width_of (kind_of e) + z) r.are_wide; is = r.is }

  pub join : (p : Place) (k : Kind) (e : Term) (es : List Term) (o : Outcome) (os : List Outcome) → kind_of (joins p k e es) ≡ k → widths (e ∷ es) ≡ width_of k → LowersAll s width n m (e ∷ es) c (o ∷ os) → Lowers s width n m (joins p k e es) c (Made (joined_text (o ∷ os)))
  join p k e es o os d b h = record {
    grows = h.0.grows;
    makes = h.0.makes;
    below = joined-below (e ∷ es) (o ∷ os) h;
    fits = λ a x w f g q. (
        let r = pieces-of p k e es o os a x w h f g q in
        let small = pieces_fit false width (run width c x) (texts (o ∷ os)) r.pieces r.give in
        let P : ℕ → Type 0 = λ z. z < 2 ^ width_of (kind_of (joins p k e es)) in
        subst P (sym r.is) (subst (λ z. pieces_word r.pieces < 2 ^ z) (r.are_wide ∙ b ∙ ap width_of (sym d)) small));
    gives = λ a x w f g q. (
        let r = pieces-of p k e es o os a x w h f g q in
        let here = concat_gives false width (run width c x) (texts (o ∷ os)) r.pieces r.give in
        subst (λ z. Gives false (sized false width (run width c x) (joined_text (o ∷ os))) z w) (r.are_wide ∙ b ∙ ap width_of (sym d)) (subst (λ z. Gives false (sized false width (run width c x) (joined_text (o ∷ os))) (pieces_width r.pieces) z) (sym r.is) here));
  }
