-- Numbers, names, literals and parts of variables that are right: the walk over them notes nothing.
use Rattle.std.proofs.Common.{◌≡◌, ◌<◌, ◌≤◌, ◌+◌, ◌-◌, ◌^◌, ℕ, true, false, not, ◌||◌, nat_le, nat_lt, nat_eq, lt-ltb, eq-eqb, List, length, decimal, refl, ap, ◌∙◌, arith}
use Rattle.std.specs.Prelude.{Some}
use Rattle.std.proofs.lemmas.Bool.{le-leb, lt-leb, ne_eqb, or_from}
use Rattle.scc_svtree.specs.declared.module.SvVar.{SvVar}
use Rattle.scc_svtree.specs.declared.expr.SvLeft.{SvLeft}
use Rattle.scc_svtree.specs.declared.expr.SvLeft.TheVariants.{Whole, Bit, Range}
use Rattle.scc_svtree.specs.Variables.{width_at, IsWidth}
use Rattle.scc_svtree.specs.Term.{Part}
use Rattle.scc_svtree.specs.Sized.{IsSelect}
use Rattle.scc_svtree.specs.Sizes.{length_of}
use Rattle.scc_svtree.specs.Running.{var_of}
use Rattle.scc_svtext.specs.Pieces.{spelled}
use Rattle.scc_svread_grammar.specs.declared.raw.RawSelect.{RawSelect}
use Rattle.scc_svread_grammar.specs.declared.raw.RawSelect.TheVariants as select
use Rattle.scc_svread_check.specs.Scope.{Scope, number_in, hex_in, is_width, is_wrong_literal, is_named, found_once, once}
use Rattle.scc_svread_check.specs.Parts.{cut, with_one, literal_bytes, literal_walk, select_bytes, select_bits, is_wrong_select, is_wrong_part, is_missing, name_walk, left_walk}
use Rattle.scc_svread_check.specs.Lines.{is_other_length}
use Rattle.scc_svread_written.specs.Written.{name_of, raw_literal, raw_left}
use Rattle.scc_svread_written.proofs.Decimals.{number_decimal, both}
use Rattle.scc_svread_written.proofs.Digits.{number_hex}
use Rattle.scc_svread_written.proofs.Formed.{Declares}
use Rattle.scc_svread_sizes.proofs.RightWalks.{Quiet, quiet_pass, quiet_size, quiet_name, quiet_then}

-- ---- numbers

pub number_back : (n : ℕ) → n ≤ 128 → number_in (decimal n) ≡ n
number_back n h = let e = number_decimal n h in omega (arith, e, h)

pub cut_short : (n : ℕ) → n ≤ 128 → cut n ≡ n
cut_short n h = omega (arith, h)

pub width_is : (n : ℕ) → IsWidth n → is_width n ≡ true
width_is n h = both (nat_le 1 n) (nat_le n 128) (le-leb 1 n h.0) (le-leb n 128 h.1)

-- ---- literals

pub right_literal : (w v : ℕ) → IsWidth w → v < 2 ^ w → is_wrong_literal (raw_literal w v) ≡ false
right_literal w v h k =
    ap (λ n. not (is_width n) || not (nat_lt (hex_in (raw_literal w v).digits) (2 ^ n))) (number_back w h.1)
    ∙ ap (λ u. not (is_width w) || not (nat_lt u (2 ^ w))) (number_hex w v h.1 k)
    ∙ or_from (not (is_width w)) (not (nat_lt v (2 ^ w))) (ap not (width_is w h)) (ap not (lt-ltb v (2 ^ w) k))

pub quiet_literal : (w v : ℕ) → IsWidth w → v < 2 ^ w → Quiet (literal_walk (raw_literal w v))
quiet_literal w v h k = quiet_then (quiet_size (is_wrong_literal (raw_literal w v)) (right_literal w v h k)) (quiet_pass (literal_bytes (raw_literal w v)))

-- it has the length of what stands beside it
pub right_length : (w v n : ℕ) → w ≤ 128 → w ≡ n → is_other_length (Some n) (raw_literal w v) ≡ false
right_length w v n h e = ap (λ k. not (nat_eq (cut k) n)) (number_back w h) ∙ ap (λ k. not (nat_eq k n)) (cut_short w h) ∙ ap not (eq-eqb w n e)

-- ---- names and parts of variables

module _ (vars : List SvVar) (s : Scope) (d : Declares s vars) where
  pub once_at : (i : ℕ) → i < length vars → once s (name_of vars i) ≡ Some (width_at vars i - 1)
  once_at i h = ap found_once (d.found i h)

  pub quiet_at : (i : ℕ) → i < length vars → Quiet (name_walk s (name_of vars i))
  quiet_at i h = quiet_then (quiet_name (is_missing s (name_of vars i)) (ap (λ o. not (is_named o)) (d.found i h))) (quiet_pass (length (spelled (name_of vars i))))

  -- a select of a variable
  module _ (i : ℕ) (h : i < length vars) where
    abbrev high : ℕ
    high = width_at vars i - 1

    quiet_part : (part : RawSelect) → is_wrong_select part high ≡ false → Quiet (left_walk s (record { name = name_of vars i; select = part }))
    quiet_part part e = quiet_then (quiet_then (quiet_size (is_wrong_part part (once s (name_of vars i))) (ap (is_wrong_part part) (once_at i h) ∙ e)) (quiet_at i h)) (quiet_pass (select_bytes part))

    bits_part : (part : RawSelect) (n : ℕ) → select_bits part high ≡ n → with_one (select_bits part) (once s (name_of vars i)) ≡ Some n
    bits_part part n e = ap (with_one (select_bits part)) (once_at i h) ∙ ap (λ k. Some k) e

    right_bit : (at : ℕ) → at < width_at vars i → 2 ≤ width_at vars i → width_at vars i ≤ 128 → is_wrong_select (select.Bit (decimal at)) high ≡ false
    right_bit at a b c = or_from (nat_eq high 0) _ (ne_eqb high 0 (λ e. absurd (omega (arith, b, e))))
        (ap (λ n. not (nat_le n high)) (number_back at (omega (arith, a, c))) ∙ ap not (le-leb at high (omega (arith, a))))

    right_range : (j k : ℕ) → k < j → j < width_at vars i → width_at vars i ≤ 128 → is_wrong_select (select.Range (decimal j) (decimal k)) high ≡ false
    right_range j k a b c =
        let first = number_back j (omega (arith, b, c)) in
        let last = number_back k (omega (arith, a, b, c)) in
        or_from _ _ (ap (λ n. not (nat_le n high)) first ∙ ap not (le-leb j high (omega (arith, b))))
        (ap (λ n. nat_le n (number_in (decimal k))) first ∙ ap (λ n. nat_le j n) last ∙ lt-leb j k a)

    range_bits : (j k : ℕ) → k < j → j < width_at vars i → width_at vars i ≤ 128 → select_bits (select.Range (decimal j) (decimal k)) high ≡ j - k + 1
    range_bits j k a b c =
        let first = number_back j (omega (arith, b, c)) in
        let last = number_back k (omega (arith, a, b, c)) in
        omega (arith, first, last, a, b, c)

  pub quiet_left : (l : SvLeft) → IsSelect (width_at vars) l → var_of l < length vars → Quiet (left_walk s (raw_left vars l))
  quiet_left (Whole v) h i = quiet_part v.0 i select.Whole refl
  quiet_left (Bit v at) h i = quiet_part v.0 i (select.Bit (decimal at)) (right_bit v.0 i at h.0 h.1 h.2)
  quiet_left (Range v j k) h i = quiet_part v.0 i (select.Range (decimal j) (decimal k)) (right_range v.0 i j k h.0 h.1 h.2)

  pub bits_left : (l : SvLeft) → IsSelect (width_at vars) l → var_of l < length vars → with_one (select_bits (raw_left vars l).select) (once s (raw_left vars l).name) ≡ Some (length_of (width_at vars) (Part l))
  bits_left (Whole v) h i = bits_part v.0 i select.Whole (width_at vars v.0) (omega (arith, h.0, h.1))
  bits_left (Bit v at) h i = bits_part v.0 i (select.Bit (decimal at)) 1 refl
  bits_left (Range v j k) h i = bits_part v.0 i (select.Range (decimal j) (decimal k)) (j - k + 1) (range_bits v.0 i j k h.0 h.1 h.2)
