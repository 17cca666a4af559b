-- Where a name ends: `$$` stands in none, and no name ends with `$`.
use Rattle.std.proofs.Common.{◌≡◌, ℕ, nat_eq, Bool, true, false, not, ◌&&◌, if◌then◌else◌, List, [], ◌∷◌, ◌++◌, get_or, drop, refl, sym, ap, ◌∙◌}
use Rattle.scc_base.specs.declared.path.PathPart.{PathPart}
use Rattle.scc_base.specs.declared.path.PathPart.TheVariants.{Member, Index}
use Rattle.scc_lower_spec.specs.Parts.{part_text, behind, joined, IsPart, AreParts}
use Rattle.scc_lower_spec.proofs.Bytes.{is_plain, and_left, and_right, Begins, identifier_begins, decimal_begins}
use Rattle.scc_lower_spec.proofs.Pieces.{text_is}

-- no `$` follows a `$`, nor stands last; `fresh` where one was just before
abbrev pub is_whole : Bool → List ℕ → Bool
is_whole fresh [] = not fresh
is_whole fresh (b ∷ bs) = if nat_eq b 36 then not fresh && is_whole true bs else is_whole false bs

plain_passes : (fresh : Bool) (a bs : List ℕ) → is_plain a ≡ true → is_whole false (a ++ bs) ≡ is_whole false bs
plain_passes fresh [] bs e = refl
plain_passes fresh (b ∷ a) bs e = by (nat_eq b 36) (and_left (not (nat_eq b 36)) (is_plain a) e) ∙ plain_passes fresh a bs (and_right (not (nat_eq b 36)) (is_plain a) e)
  where
    by : (t : Bool) → not t ≡ true → (if t then not false && is_whole true (a ++ bs) else is_whole false (a ++ bs)) ≡ is_whole false (a ++ bs)
    by false e = refl
    by true e = absurd (cc)

-- a text without `$` that isn't empty
part_passes : (fresh : Bool) (b : ℕ) (a bs : List ℕ) → is_plain (b ∷ a) ≡ true → is_whole fresh ((b ∷ a) ++ bs) ≡ is_whole false bs
part_passes fresh b a bs e = by (nat_eq b 36) (and_left (not (nat_eq b 36)) (is_plain a) e) ∙ plain_passes fresh a bs (and_right (not (nat_eq b 36)) (is_plain a) e)
  where
    by : (t : Bool) → not t ≡ true → (if t then not fresh && is_whole true (a ++ bs) else is_whole false (a ++ bs)) ≡ is_whole false (a ++ bs)
    by false e = refl
    by true e = absurd (cc)

text_passes : (fresh : Bool) (P : ℕ → Type 0) (a bs : List ℕ) → Begins P a → is_whole fresh (a ++ bs) ≡ is_whole false bs
text_passes fresh P a bs h =
    ap (λ t. is_whole fresh (t ++ bs)) h.is
    ∙ part_passes fresh h.first h.rest bs (ap is_plain (sym h.is) ∙ h.plain)

abbrev Any : ℕ → Type 0
Any b = Unit {0}

begins : (names : List (List ℕ)) (p : PathPart) → IsPart names p → Begins Any (part_text names p)
begins names (Member name) h =
    let t = identifier_begins h.0 h.2 in
    let e = text_is names name.0 h.0 h.1 in
    record { first = t.first; rest = t.rest; is = e ∙ t.is; has = tt; plain = ap is_plain e ∙ t.plain }
begins names (Index i) h = let t = decimal_begins i h in record { first = t.first; rest = t.rest; is = t.is; has = tt; plain = t.plain }

behind_whole : (names : List (List ℕ)) (fresh : Bool) (p : PathPart) (ps : List PathPart) → AreParts names (p ∷ ps) → is_whole fresh (part_text names p ++ behind names ps) ≡ true
behind_whole names fresh p [] h = text_passes fresh Any (part_text names p) [] (begins names p h.0)
behind_whole names fresh p (q ∷ ps) h = text_passes fresh Any (part_text names p) (behind names (q ∷ ps)) (begins names p h.0) ∙ behind_whole names true q ps h.1

-- the text of parts is whole
pub joined_whole : (names : List (List ℕ)) (ps : List PathPart) → AreParts names ps → is_whole false (joined names ps) ≡ true
joined_whole names [] h = refl
joined_whole names (p ∷ ps) h = behind_whole names false p ps h

-- ---- where two wholes end

pub record Same (x y s t : List ℕ) : Type 0 where
  pub front : x ≡ y
  pub back : s ≡ t

-- a whole text can't go on with `$$`, whatever stood before
no_mark : (fresh : Bool) (b : ℕ) (y s t : List ℕ) → is_whole fresh (b ∷ y) ≡ true → 36 ∷ 36 ∷ s ≡ (b ∷ y) ++ 36 ∷ 36 ∷ t → ⊥
no_mark fresh b [] s t w e =
    let is : b ≡ 36 = sym (ap (λ l. get_or l 0 0) e) in
    let f : is_whole fresh (36 ∷ []) ≡ true = sym (ap (λ c. is_whole fresh (c ∷ [])) is) ∙ w in
    false_and (not fresh) f
  where
    false_and : (t : Bool) → (t && false) ≡ true → ⊥
    false_and true e = cc
    false_and false e = cc
no_mark fresh b (c ∷ y) s t w e =
    let one : b ≡ 36 = sym (ap (λ l. get_or l 0 0) e) in
    let two : c ≡ 36 = sym (ap (λ l. get_or l 1 0) e) in
    let f : is_whole fresh (36 ∷ 36 ∷ y) ≡ true = (λ i. is_whole fresh (sym one i ∷ sym two i ∷ y)) ∙ w in
    false_and (not fresh) f
  where
    false_and : (t : Bool) → (t && false) ≡ true → ⊥
    false_and true e = cc
    false_and false e = cc

tail_whole : (fresh : Bool) (b : ℕ) (x : List ℕ) → is_whole fresh (b ∷ x) ≡ true → is_whole (nat_eq b 36) x ≡ true
tail_whole fresh b x w = by (nat_eq b 36) w
  where
    by : (t : Bool) → (if t then not fresh && is_whole true x else is_whole false x) ≡ true → is_whole t x ≡ true
    by true e = and_right (not fresh) (is_whole true x) e
    by false e = e

pub same_wholes : (fresh : Bool) (x y s t : List ℕ) → is_whole fresh x ≡ true → is_whole fresh y ≡ true → x ++ 36 ∷ 36 ∷ s ≡ y ++ 36 ∷ 36 ∷ t → Same x y s t
same_wholes fresh [] [] s t v w e = record { front = refl; back = ap (drop 2) e }
same_wholes fresh [] (b ∷ y) s t v w e = absurd (no_mark fresh b y s t w e)
same_wholes fresh (a ∷ x) [] s t v w e = absurd (no_mark fresh a x t s v (sym e))
same_wholes fresh (a ∷ x) (b ∷ y) s t v w e =
    let first : a ≡ b = ap (λ l. get_or l 0 0) e in
    let rest = same_wholes (nat_eq a 36) x y s t (tail_whole fresh a x v) (ap (λ c. is_whole (nat_eq c 36) y) first ∙ tail_whole fresh b y w) (ap (drop 1) e) in
    record { front = λ i. first i ∷ rest.front i; back = rest.back }

pub no_double : (fresh : Bool) (a b : List ℕ) → is_whole fresh (a ++ 36 ∷ 36 ∷ b) ≡ true → ⊥
no_double fresh [] b w = false_and (not fresh) w
  where
    false_and : (t : Bool) → (t && false) ≡ true → ⊥
    false_and true e = cc
    false_and false e = cc
no_double fresh (x ∷ a) b w = no_double (nat_eq x 36) a b (tail_whole fresh x (a ++ 36 ∷ 36 ∷ b) w)
