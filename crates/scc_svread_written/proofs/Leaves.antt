-- Names, literals and left sides: each is read as it is written, and says what it stands for.
use Rattle.std.proofs.Common.{◌≡◌, ◌≢◌, ◌<◌, ◌≤◌, ◌+◌, ◌/◌, ◌^◌, ℕ, zero, suc, Bool, true, false, cond, not, List, [], ◌∷◌, ◌++◌, length, map, decimal, nat_lt, lt-ltb, refl, sym, ap, ◌∙◌, arith}
use Rattle.std.specs.Prelude.{codes, bytes_eq, Some, None, unwrap_or}
use Rattle.std.specs.List.{position_or_len}
use Rattle.std.proofs.lemmas.Slice.Eq.{bytes_eq-Decides}
use Rattle.scc_svtree.specs.declared.module.SvVar.{SvVar}
use Rattle.scc_svtree.specs.declared.expr.VarId.{VarId}
use Rattle.scc_svtree.specs.declared.expr.SvLiteral.{SvLiteral}
use Rattle.scc_svtree.specs.declared.expr.SvLeft.{SvLeft}
use Rattle.scc_svtree.specs.declared.expr.SvLeft.TheVariants.{Whole, Bit, Range}
use Rattle.scc_svtree.specs.Variables.{width_at}
use Rattle.scc_svtree.specs.Sized.{IsSelect}
use Rattle.scc_svtree.specs.Running as running
use Rattle.scc_svtree.specs.Sound.{is_simple, IsNotNamed, AreNamed}
use Rattle.scc_svtext.specs.Fixed.{fixed_text}
use Rattle.scc_svtext.specs.Pieces.{spelled, name_at, hex_text, literal_text, left_text}
use Rattle.scc_svtext.specs.ModuleText.{names_of}
use Rattle.scc_svread_grammar.specs.Lexical.{Bytes, ReadsName, ReadsLiteral, ReadsLeft}
use Rattle.scc_svread_written.specs.Written.{name_of, raw_literal, raw_left}
use Rattle.scc_svread_check.specs.Numbers.{small_number, word_number}
use Rattle.scc_svread_written.specs.Resolved.{number_of, var_of, word_of, literal_of, left_of}
use Rattle.scc_svread_written.proofs.Decimals.{number_decimal, small_decimal, decimal_is}
use Rattle.scc_svread_written.proofs.Digits.{hex_digits, length-hex, number_hex}
use Rattle.scc_svread_written.proofs.Sums.{three, four, six}

-- ---- names

abbrev pub bare_names : List SvVar → List Bytes
bare_names vars = map (λ v. v.name) vars

spelled_at : (vars : List SvVar) (i : ℕ) → i < length vars → name_at (names_of vars) i ≡ spelled (name_of vars i)
spelled_at [] i h = absurd (omega arith)
spelled_at (v ∷ vs) zero h = refl
spelled_at (v ∷ vs) (suc i) h = spelled_at vs i (omega arith)

simple_at : (vars : List SvVar) (i : ℕ) → AreNamed vars → i < length vars → is_simple (name_of vars i) ≡ true
simple_at [] i a h = absurd (omega arith)
simple_at (v ∷ vs) zero a h = a.0
simple_at (v ∷ vs) (suc i) a h = simple_at vs i a.2 (omega arith)

other_name : (name : Bytes) (vs : List SvVar) (i : ℕ) → IsNotNamed name vs → i < length vs → name ≢ name_of vs i
other_name name [] i a h = absurd (omega arith)
other_name name (v ∷ vs) zero a h = a.0
other_name name (v ∷ vs) (suc i) a h = other_name name vs i a.1 (omega arith)

pub same_bytes : (a : Bytes) → bytes_eq a a ≡ true
same_bytes a = (bytes_eq-Decides a a).1 refl

pub other_bytes : (a b : Bytes) → a ≢ b → bytes_eq a b ≡ false
other_bytes a b h = go (bytes_eq a b) refl
  where
    go : (t : Bool) → bytes_eq a b ≡ t → t ≡ false
    go false e = refl
    go true e = absurd (h ((bytes_eq-Decides a b).0 e))

one_more : (n : ℕ) → 1 + n ≡ suc n
one_more n = omega arith

place_at : (vars : List SvVar) (i : ℕ) → AreNamed vars → i < length vars → position_or_len (bytes_eq (name_of vars i)) (bare_names vars) ≡ i
place_at [] i a h = absurd (omega arith)
place_at (v ∷ vs) zero a h = ap (λ t. cond (not t) (1 + position_or_len (bytes_eq v.name) (bare_names vs)) 0) (same_bytes v.name)
place_at (v ∷ vs) (suc i) a h =
    ap (λ t. cond (not t) (1 + position_or_len (bytes_eq (name_of vs i)) (bare_names vs)) 0) (other_bytes (name_of vs i) v.name (λ e. other_name v.name vs i a.1 (omega arith) (sym e)))
    ∙ ap (λ n. 1 + n) (place_at vs i a.2 (omega arith)) ∙ one_more i

length_bare : (vars : List SvVar) → length (bare_names vars) ≡ length vars
length_bare [] = refl
length_bare (v ∷ vs) = ap suc (length_bare vs)

pub number_at : (vars : List SvVar) (i : ℕ) → AreNamed vars → i < length vars → number_of (bare_names vars) (name_of vars i) ≡ i
number_at vars i a h =
    let place = place_at vars i a h in
    let within : nat_lt i (length (bare_names vars)) ≡ true = lt-ltb i (length (bare_names vars)) (let e = length_bare vars in omega (arith, e, h)) in
    ap (λ k. unwrap_or (cond (nat_lt k (length (bare_names vars))) (Some k) None) 0) place ∙ ap (λ t. unwrap_or (cond t (Some i) None) 0) within

-- ---- literals

pub reads_literal : (w v : ℕ) (r : Bytes) → w ≤ 128 → ReadsLiteral (literal_text w v ++ r) r (raw_literal w v)
unfolding fixed_text
reads_literal w v r h = (
  three (decimal w) (codes "'h") (hex_text ((w + 3) / 4) v) r,
  decimal_is w h,
  hex_digits ((w + 3) / 4) v,
  length-hex ((w + 3) / 4) v ∙ ap (λ n. (n + 3) / 4) (sym (number_decimal w h)),
)

pub back_literal : (l : SvLiteral) → l.width ≤ 128 → l.value.bits < 2 ^ l.width → literal_of (raw_literal l.width l.value.bits) ≡ l
back_literal l h k =
    ap (λ w. record { width = w; value = word_of (word_number (hex_text ((l.width + 3) / 4) l.value.bits)) }) (small_decimal l.width h)
    ∙ ap (λ v. record { width = l.width; value = word_of v }) (number_hex l.width l.value.bits h k)

-- ---- variables and parts of them

module _ (vars : List SvVar) (named : AreNamed vars) where
  pub reads_name : (i : ℕ) (r : Bytes) → i < length vars → ReadsName (name_at (names_of vars) i ++ r) r (name_of vars i)
  reads_name i r h = (ap (λ n. n ++ r) (spelled_at vars i h), simple_at vars i named h)

  pub back_var : (v : VarId) → v.0 < length vars → var_of (bare_names vars) (name_of vars v.0) ≡ v
  back_var v h = ap (λ i. record { 0 = i }) (number_at vars v.0 named h)

  pub reads_left : (l : SvLeft) (r : Bytes) → IsSelect (width_at vars) l → running.var_of l < length vars → ReadsLeft (left_text (names_of vars) l ++ r) r (raw_left vars l)
  unfolding fixed_text
  reads_left (Whole v) r s h = (r, reads_name v.0 r h, refl)
  reads_left (Bit v at) r s h =
      let mid : Bytes = codes "[" ++ (decimal at ++ (codes "]" ++ r)) in
      let n = reads_name v.0 mid h in
      (mid, (four (name_at (names_of vars) v.0) (codes "[") (decimal at) (codes "]") r ∙ n.0, n.1), (refl, decimal_is at (omega (arith, s.0, s.2))))
  reads_left (Range v i j) r s h =
      let mid : Bytes = codes "[" ++ (decimal i ++ (codes ":" ++ (decimal j ++ (codes "]" ++ r)))) in
      let n = reads_name v.0 mid h in
      (mid, (six (name_at (names_of vars) v.0) (codes "[") (decimal i) (codes ":") (decimal j) (codes "]") r ∙ n.0, n.1), (refl, decimal_is i (omega (arith, s.1, s.2)), decimal_is j (omega (arith, s.0, s.1, s.2))))

  pub back_left : (l : SvLeft) → IsSelect (width_at vars) l → running.var_of l < length vars → left_of (bare_names vars) (raw_left vars l) ≡ l
  back_left (Whole v) s h = ap (λ u. Whole u) (back_var v h)
  back_left (Bit v at) s h = ap (λ u. Bit u (small_number (decimal at))) (back_var v h) ∙ ap (λ n. Bit v n) (small_decimal at (omega (arith, s.0, s.2)))
  back_left (Range v i j) s h = ap (λ u. Range u (small_number (decimal i)) (small_number (decimal j))) (back_var v h)
      ∙ ap (λ n. Range v n (small_number (decimal j))) (small_decimal i (omega (arith, s.1, s.2))) ∙ ap (λ n. Range v i n) (small_decimal j (omega (arith, s.0, s.1, s.2)))
