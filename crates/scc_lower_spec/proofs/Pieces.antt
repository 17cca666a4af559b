-- Reading the parts of a joined text back.
use Rattle.std.proofs.Common.{◌≡◌, ℕ, ◌^◌, ◌<◌, nat_eq, Bool, true, false, not, ◌&&◌, cond, List, [], ◌∷◌, ◌++◌, map, get_or, drop, slice_get, Some, unwrap_or, decimal, refl, sym, ap, ◌∙◌, subst, arith}
use Rattle.std.proofs.lemmas.Fmt.{decimal_injective}
use Rattle.std.proofs.lemmas.List.{append-nil}
use Rattle.scc_base.specs.Names.{AllDiffer}
use Rattle.scc_base.specs.declared.path.PathPart.{PathPart}
use Rattle.scc_base.specs.declared.path.PathPart.TheVariants.{Member, Index}
use Rattle.scc_lower_spec.specs.Parts.{text_at, part_text, behind, joined, is_identifier, IsPart, AreParts}
use Rattle.scc_lower_spec.proofs.Bytes.{is_plain, and_left, and_right, Begins, IsDigit, identifier_begins, decimal_begins, no_letter}

-- ---- pieces between `$`

abbrev onto : ℕ → List (List ℕ) → List (List ℕ)
onto b [] = (b ∷ []) ∷ []
onto b (p ∷ ps) = (b ∷ p) ∷ ps

abbrev pieces : List ℕ → List (List ℕ)
pieces [] = [] ∷ []
pieces (b ∷ bs) = cond (nat_eq b 36) ([] ∷ pieces bs) (onto b (pieces bs))

other : (b : ℕ) → not (nat_eq b 36) ≡ true → nat_eq b 36 ≡ false
other b e = by (nat_eq b 36) e
  where
    by : (t : Bool) → not t ≡ true → t ≡ false
    by false e = refl
    by true e = sym e

pieces_alone : (a : List ℕ) → is_plain a ≡ true → pieces a ≡ a ∷ []
pieces_alone [] e = refl
pieces_alone (b ∷ a) e =
    ap (λ t. cond t ([] ∷ pieces a) (onto b (pieces a))) (other b (and_left (not (nat_eq b 36)) (is_plain a) e))
    ∙ ap (onto b) (pieces_alone a (and_right (not (nat_eq b 36)) (is_plain a) e))

pieces_front : (a bs : List ℕ) → is_plain a ≡ true → pieces (a ++ 36 ∷ bs) ≡ a ∷ pieces bs
pieces_front [] bs e = refl
pieces_front (b ∷ a) bs e =
    ap (λ t. cond t ([] ∷ pieces (a ++ 36 ∷ bs)) (onto b (pieces (a ++ 36 ∷ bs)))) (other b (and_left (not (nat_eq b 36)) (is_plain a) e))
    ∙ ap (onto b) (pieces_front a bs (and_right (not (nat_eq b 36)) (is_plain a) e))

-- ---- parts

pub text_is : (names : List (List ℕ)) (i : ℕ) (t : List ℕ) → slice_get names i ≡ Some t → text_at names i ≡ t
text_is names i t e = ap (λ o. unwrap_or o []) e

-- a part's text has a first byte and no `$`
abbrev Any : ℕ → Type 0
Any b = Unit {0}

part_begins : (names : List (List ℕ)) (p : PathPart) → IsPart names p → Begins Any (part_text names p)
part_begins names (Member name) h =
    let t = identifier_begins h.0 h.2 in
    let e = text_is names name.0 h.0 h.1 in
    record { first = t.first; rest = t.rest; is = e ∙ t.is; has = tt; plain = ap is_plain e ∙ t.plain }
part_begins names (Index i) h = let t = decimal_begins i h in record { first = t.first; rest = t.rest; is = t.is; has = tt; plain = t.plain }

texts : (names : List (List ℕ)) (t : List ℕ) (ps : List PathPart) → is_plain t ≡ true → AreParts names ps → pieces (t ++ behind names ps) ≡ t ∷ map (part_text names) ps
texts names t [] e h = ap pieces (append-nil t) ∙ pieces_alone t e
texts names t (p ∷ ps) e h =
    pieces_front t (part_text names p ++ behind names ps) e
    ∙ ap (λ r. t ∷ r) (texts names (part_text names p) ps (part_begins names p h.0).plain h.1)

first_same : (a b : ℕ) (s t : List ℕ) → (a ∷ s) ≡ (b ∷ t) → a ≡ b
first_same a b s t e = ap (λ l. get_or l 0 0) e

-- a member and an index differ in their first byte
apart : (names : List (List ℕ)) (t : List ℕ) (i : ℕ) → is_identifier t ≡ true → i < 2 ^ 32 → t ≡ decimal i → ⊥
apart names t i e h d =
    let l = identifier_begins t e in
    let g = decimal_begins i h in
    let same : g.first ≡ l.first = first_same g.first l.first g.rest l.rest (sym g.is ∙ sym d ∙ l.is) in
    no_letter l.first (subst IsDigit same g.has) l.has

part_same : (names : List (List ℕ)) → AllDiffer names → (p q : PathPart) → IsPart names p → IsPart names q → part_text names p ≡ part_text names q → p ≡ q
part_same names d (Member m) (Member n) h k e =
    let t : h.0 ≡ k.0 = sym (text_is names m.0 h.0 h.1) ∙ e ∙ text_is names n.0 k.0 k.1 in
    ap (λ i. Member (record { 0 = i })) (d m.0 n.0 h.0 h.1 (k.1 ∙ ap (λ u. Some u) (sym t)))
part_same names d (Member m) (Index j) h k e = absurd (apart names h.0 j h.2 k (sym (text_is names m.0 h.0 h.1) ∙ e))
part_same names d (Index i) (Member n) h k e = absurd (apart names k.0 i k.2 h (sym (text_is names n.0 k.0 k.1) ∙ sym e))
part_same names d (Index i) (Index j) h k e = ap (λ n. Index n) (decimal_injective i j (omega arith) (omega arith) e)

parts_same : (names : List (List ℕ)) → AllDiffer names → (ps qs : List PathPart) → AreParts names ps → AreParts names qs → map (part_text names) ps ≡ map (part_text names) qs → ps ≡ qs
parts_same names d [] [] h k e = refl
parts_same names d [] (q ∷ qs) h k e = absurd (cc)
parts_same names d (p ∷ ps) [] h k e = absurd (cc)
parts_same names d (p ∷ ps) (q ∷ qs) h k e =
    let one : p ≡ q = part_same names d p q h.0 k.0 (ap (λ l. get_or l 0 []) e) in
    let more : ps ≡ qs = parts_same names d ps qs h.1 k.1 (ap (drop 1) e) in
    λ i. one i ∷ more i

empty_joined : (names : List (List ℕ)) (p : PathPart) (ps : List PathPart) → IsPart names p → [] ≡ joined names (p ∷ ps) → ⊥
empty_joined names p ps h e =
    let b = part_begins names p h in
    let is : [] ≡ b.first ∷ (b.rest ++ behind names ps) = e ∙ ap (λ t. t ++ behind names ps) b.is in
    cc

pub joined_same : (names : List (List ℕ)) → AllDiffer names → (ps qs : List PathPart) → AreParts names ps → AreParts names qs → joined names ps ≡ joined names qs → ps ≡ qs
joined_same names d [] [] h k e = refl
joined_same names d [] (q ∷ qs) h k e = absurd (empty_joined names q qs k.0 e)
joined_same names d (p ∷ ps) [] h k e = absurd (empty_joined names p ps h.0 (sym e))
joined_same names d (p ∷ ps) (q ∷ qs) h k e =
    parts_same names d (p ∷ ps) (q ∷ qs) h k
    (sym (texts names (part_text names p) ps (part_begins names p h.0).plain h.1) ∙ ap pieces e ∙ texts names (part_text names q) qs (part_begins names q k.0).plain k.1)

-- ---- no `$$`

abbrev is_some : List ℕ → Bool
is_some [] = false
is_some (b ∷ bs) = true

abbrev all_some : List (List ℕ) → Bool
all_some [] = true
all_some (t ∷ ts) = is_some t && all_some ts

abbrev later_some : List (List ℕ) → Bool
later_some [] = true
later_some (t ∷ ts) = all_some ts

double : (a b : List ℕ) → later_some (pieces (a ++ 36 ∷ 36 ∷ b)) ≡ false
double [] b = refl
double (x ∷ a) b = by (nat_eq x 36) (pieces (a ++ 36 ∷ 36 ∷ b)) (double a b)
  where
    and_false : (s : Bool) → (s && false) ≡ false
    and_false true = refl
    and_false false = refl

    by : (t : Bool) (ps : List (List ℕ)) → later_some ps ≡ false → later_some (cond t ([] ∷ ps) (onto x ps)) ≡ false
    by true [] e = absurd (cc)
    by true (p ∷ ps) e = ap (λ t. is_some p && t) e ∙ and_false (is_some p)
    by false [] e = absurd (cc)
    by false (p ∷ ps) e = e

pub no_double : (names : List (List ℕ)) (ps : List PathPart) → AreParts names ps → (a b : List ℕ) → joined names ps ≡ a ++ 36 ∷ 36 ∷ b → ⊥
no_double names [] h [] b e = cc
no_double names [] h (x ∷ a) b e = cc
no_double names (p ∷ ps) h a b e =
    let t : later_some (pieces (joined names (p ∷ ps))) ≡ true = ap later_some (texts names (part_text names p) ps (part_begins names p h.0).plain h.1) ∙ each ps h.1 in
    let f : later_some (pieces (joined names (p ∷ ps))) ≡ false = ap (λ l. later_some (pieces l)) e ∙ double a b in
    cc
  where
    each : (qs : List PathPart) → AreParts names qs → all_some (map (part_text names) qs) ≡ true
    each [] h = refl
    each (q ∷ qs) h = ap (λ t. is_some t && all_some (map (part_text names) qs)) (part_begins names q h.0).is ∙ each qs h.1
