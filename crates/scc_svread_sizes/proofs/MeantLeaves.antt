-- Names, literals and left sides that were read, and over which nothing is noted: what they stand for is printed so, and has right sizes.
use Rattle.std.proofs.Common.{◌≡◌, ◌<◌, ◌≤◌, ◌+◌, ◌-◌, ◌/◌, ◌^◌, ℕ, zero, suc, Bool, true, false, not, ◌&&◌, ◌||◌, nat_eq, nat_le, nat_lt, List, [], ◌∷◌, ◌++◌, length, decimal, Some, refl, sym, subst, ap, ◌∙◌, arith}
use Rattle.std.specs.Prelude.{codes}
use Rattle.std.proofs.lemmas.Bool.{leb-true, leb-false, ltb-true, eqb-false}
use Rattle.scc_svtree.specs.declared.module.SvVar.{SvVar}
use Rattle.scc_svtree.specs.Variables.{width_at, IsWidth}
use Rattle.scc_svtree.specs.Term.{Part}
use Rattle.scc_svtree.specs.Sizes.{length_of}
use Rattle.scc_svtree.specs.Sized.{IsSelect}
use Rattle.scc_svtree.specs.Running as running
use Rattle.scc_svtree.specs.Sound.{AreNamed, Each}
use Rattle.scc_svtext.specs.Fixed.{fixed_text}
use Rattle.scc_svtext.specs.Pieces.{spelled, name_at, hex_text, literal_text, left_text}
use Rattle.scc_svtext.specs.ModuleText.{names_of}
use Rattle.scc_svread_grammar.specs.declared.raw.RawLiteral.{RawLiteral}
use Rattle.scc_svread_grammar.specs.declared.raw.RawSelect.{RawSelect}
use Rattle.scc_svread_grammar.specs.declared.raw.RawSelect.TheVariants.{Whole, Bit, Range}
use Rattle.scc_svread_grammar.specs.declared.raw.RawLeft.{RawLeft}
use Rattle.scc_svread_grammar.specs.Lexical.{Bytes, ReadsName, ReadsLiteral, ReadsSelect, ReadsLeft}
use Rattle.scc_svread_written.specs.Written.{name_of}
use Rattle.scc_svread_check.specs.Numbers.{small_number, word_number}
use Rattle.scc_svread_written.specs.Resolved.{number_of, left_of}
use Rattle.scc_svread_written.specs.Resolved as resolved
use Rattle.scc_svread_check.specs.Scope.{Scope, number_in, hex_in, is_width, is_wrong_literal, entry_of, is_declared, found_once, once}
use Rattle.scc_svread_check.specs.Parts.{with_one, select_bits, select_bytes, is_wrong_select, is_wrong_part, is_missing, name_walk, left_walk}
use Rattle.scc_svread_written.proofs.Formed.{Declares}
use Rattle.scc_svread_written.proofs.Sums.{three, four, six}
use Rattle.scc_svread_written.proofs.Leaves.{bare_names, number_at}
use Rattle.scc_svread_sizes.proofs.MeantDecimals.{small_is, in_is, small_back}
use Rattle.scc_svread_sizes.proofs.MeantHexes.{word_back}
use Rattle.scc_svread_sizes.proofs.MeantWalks.{Demands, demands_by, demands_then, pass_last, demands_size, demands_name}

-- ---- tests

pub or_left : (a b : Bool) → (a || b) ≡ false → a ≡ false
or_left false b h = refl
or_left true b h = h

pub or_right : (a b : Bool) → (a || b) ≡ false → b ≡ false
or_right false b h = h
or_right true b h = cc

pub not_false : (b : Bool) → not b ≡ false → b ≡ true
not_false true h = refl
not_false false h = cc

pub width_is : (n : ℕ) → is_width n ≡ true → IsWidth n
width_is n h = go (nat_le 1 n) (nat_le n 128) refl refl h
  where
    go : (a b : Bool) → nat_le 1 n ≡ a → nat_le n 128 ≡ b → (a && b) ≡ true → IsWidth n
    go true true e f k = (leb-true 1 n e, leb-true n 128 f)
    go true false e f k = cc
    go false b e f k = cc

-- ---- literals

-- a number in a width, both of which are not too great
pub record MeantLiteral (ts r : Bytes) (l : RawLiteral) : Type 0 where
  pub text : ts ≡ literal_text (small_number l.width) (word_number l.digits) ++ r
  pub width : IsWidth (small_number l.width)
  pub fits : word_number l.digits < 2 ^ small_number l.width
  pub bits : number_in l.width ≡ small_number l.width
  -- its digits are those that are written of them
  pub written : decimal (small_number l.width) ≡ l.width
  pub digits : hex_text ((small_number l.width + 3) / 4) (word_number l.digits) ≡ l.digits

pub literal_meant : {ts r : Bytes} (l : RawLiteral) → ReadsLiteral ts r l → is_wrong_literal l ≡ false → MeantLiteral ts r l
unfolding fixed_text
literal_meant {ts} {r} l d h =
    let n : ℕ = number_in l.width in
    let first : IsWidth n = width_is n (not_false (is_width n) (or_left (not (is_width n)) _ h)) in
    let fits : hex_in l.digits < 2 ^ n = ltb-true (hex_in l.digits) (2 ^ n) (not_false (nat_lt (hex_in l.digits) (2 ^ n)) (or_right (not (is_width n)) _ h)) in
    let same : n ≡ small_number l.width = in_is l.width first.1 in
    let w : ℕ = small_number l.width in
    let long : length l.digits ≡ (w + 3) / 4 = d.3 ∙ ap (λ k. (k + 3) / 4) (small_is l.width first.1) in
    let few : (w + 3) / 4 ≤ 32 = omega (arith, same, first.1) in
    let written = small_back l.width d.1 first.1 in
    let digits = word_back ((w + 3) / 4) l.digits d.2 long few in
    record {
      text = d.0 ∙ ap (λ u. u ++ (codes "'h" ++ (l.digits ++ r))) (sym written) ∙ ap (λ u. decimal w ++ (codes "'h" ++ (u ++ r))) (sym digits)
          ∙ sym (three (decimal w) (codes "'h") (hex_text ((w + 3) / 4) (word_number l.digits)) r);
      width = subst IsWidth same first;
      fits = subst (λ k. word_number l.digits < 2 ^ k) same fits;
      bits = same;
      written = written;
      digits = digits;
    }

-- ---- names

spelled_at : (vars : List SvVar) (i : ℕ) → i < length vars → name_at (names_of vars) i ≡ spelled (name_of vars i)
spelled_at [] i h = absurd (omega arith)
spelled_at (v ∷ vs) zero h = refl
spelled_at (v ∷ vs) (suc i) h = spelled_at vs i (omega arith)

pub width_within : (vars : List SvVar) → Each (λ v. IsWidth v.width) vars → (i : ℕ) → i < length vars → IsWidth (width_at vars i)
width_within [] k i h = absurd (omega arith)
width_within (v ∷ vs) k zero h = k.0
width_within (v ∷ vs) k (suc i) h = width_within vs k.1 i (omega arith)

module _ (vars : List SvVar) (named : AreNamed vars) (widths : Each (λ v. IsWidth v.width) vars) (s : Scope) (d : Declares s vars) where
  abbrev names : List Bytes
  names = names_of vars

  abbrev bare : List Bytes
  bare = bare_names vars

  -- a name of the module's
  pub record MeantName (name : Bytes) : Type 0 where
    pub within : number_of bare name < length vars
    pub text : spelled name ≡ name_at names (number_of bare name)
    pub high : once s name ≡ Some (width_at vars (number_of bare name) - 1)
    pub width : IsWidth (width_at vars (number_of bare name))

  by_place : (name : Bytes) (i : ℕ) → i < length vars → name ≡ name_of vars i → MeantName name
  by_place name i h e =
      let n : number_of bare name ≡ i = ap (number_of bare) e ∙ number_at vars i named h in record {
        within = subst (λ k. k < length vars) (sym n) h;
        text = ap spelled e ∙ sym (spelled_at vars i h) ∙ ap (name_at names) (sym n);
        high = ap (λ u. found_once (entry_of s u)) e ∙ ap found_once (d.found i h) ∙ ap (λ k. Some (width_at vars k - 1)) (sym n);
        width = subst (λ k. IsWidth (width_at vars k)) (sym n) (width_within vars widths i h);
      }

  pub name_meant : (name : Bytes) → is_missing s name ≡ false → MeantName name
  name_meant name h = let p = d.only name (not_false (is_declared s name) h) in by_place name p.0 p.1 p.2

  pub name_demands : (name : Bytes) → Demands (name_walk s name) (MeantName name)
  name_demands name = demands_by (name_meant name) (pass_last (length (spelled name)) (demands_name (is_missing s name)))

  pub name_text : (ts r name : Bytes) → ReadsName ts r name → MeantName name → ts ≡ name_at names (number_of bare name) ++ r
  name_text ts r name k m = k.0 ∙ ap (λ u. u ++ r) m.text

  -- ---- left sides

  -- a part that lies in a variable whose highest bit is this
  record MeantSelect (mid r : Bytes) (v : ℕ) (select : RawSelect) : Type 0 where
    text : name_at names v ++ mid ≡ left_text names (resolved.part_of (record { 0 = v }) select) ++ r
    inside : IsSelect (width_at vars) (resolved.part_of (record { 0 = v }) select)
    bits : select_bits select (width_at vars v - 1) ≡ length_of (width_at vars) (Part (resolved.part_of (record { 0 = v }) select))

  bit_inside : (w n : ℕ) → IsWidth w → (nat_eq (w - 1) 0 || not (nat_le n (w - 1))) ≡ false → (n ≤ 128) × (n < w) × (2 ≤ w)
  bit_inside w n i h =
      let e = eqb-false (w - 1) 0 (or_left (nat_eq (w - 1) 0) _ h) in
      let l = leb-true n (w - 1) (not_false (nat_le n (w - 1)) (or_right (nat_eq (w - 1) 0) _ h)) in
      (omega (arith, l, i.1), omega (arith, l, i.0), omega (arith, e, i.0))

  range_inside : (w h l : ℕ) → IsWidth w → (not (nat_le h (w - 1)) || nat_le h l) ≡ false → (h ≤ 128) × (l ≤ 128) × (l < h) × (h < w)
  range_inside w h l i k =
      let a = leb-true h (w - 1) (not_false (nat_le h (w - 1)) (or_left (not (nat_le h (w - 1))) _ k)) in
      let b = leb-false h l (or_right (not (nat_le h (w - 1))) _ k) in
      (omega (arith, a, i.1), omega (arith, a, b, i.1), b, omega (arith, a, i.0))

  select_meant : (mid r : Bytes) (v : ℕ) → IsWidth (width_at vars v) → (select : RawSelect) → ReadsSelect mid r select → is_wrong_select select (width_at vars v - 1) ≡ false → MeantSelect mid r v select
  unfolding fixed_text
  select_meant mid r v i Whole k h = record { text = ap (λ u. name_at names v ++ u) k; inside = i; bits = omega (arith, i.0, i.1) }
  select_meant mid r v i (Bit at) k h =
      let j = bit_inside (width_at vars v) (number_in at) i h in
      let same = in_is at j.0 in record {
        text = ap (λ u. name_at names v ++ u) k.0 ∙ ap (λ u. name_at names v ++ (codes "[" ++ (u ++ (codes "]" ++ r)))) (sym (small_back at k.1 j.0))
            ∙ sym (four (name_at names v) (codes "[") (decimal (small_number at)) (codes "]") r);
        inside = (omega (arith, same, j.1), j.2, i.1);
        bits = refl;
      }
  select_meant mid r v i (Range high low) k h =
      let j = range_inside (width_at vars v) (number_in high) (number_in low) i h in
      let a = in_is high j.0 in
      let b = in_is low j.1 in record {
        text = ap (λ u. name_at names v ++ u) k.0 ∙ ap (λ u. name_at names v ++ (codes "[" ++ (u ++ (codes ":" ++ (low ++ (codes "]" ++ r)))))) (sym (small_back high k.1 j.0))
            ∙ ap (λ u. name_at names v ++ (codes "[" ++ (decimal (small_number high) ++ (codes ":" ++ (u ++ (codes "]" ++ r)))))) (sym (small_back low k.2 j.1))
            ∙ sym (six (name_at names v) (codes "[") (decimal (small_number high)) (codes ":") (decimal (small_number low)) (codes "]") r);
        inside = (omega (arith, a, b, j.2), omega (arith, a, j.3), i.1);
        bits = omega (arith, a, b, j.0, j.1, j.2);
      }

  pub record MeantLeft (ts r : Bytes) (l : RawLeft) : Type 0 where
    pub text : ts ≡ left_text names (left_of bare l) ++ r
    pub inside : IsSelect (width_at vars) (left_of bare l)
    pub within : running.var_of (left_of bare l) < length vars
    pub bits : with_one (select_bits l.select) (once s l.name) ≡ Some (length_of (width_at vars) (Part (left_of bare l)))

  var_is : (v : ℕ) (select : RawSelect) → running.var_of (resolved.part_of (record { 0 = v }) select) ≡ v
  var_is v Whole = refl
  var_is v (Bit at) = refl
  var_is v (Range h l) = refl

  left_meant : {ts r : Bytes} (l : RawLeft) → ReadsLeft ts r l → (is_wrong_part l.select (once s l.name) ≡ false) × MeantName l.name → MeantLeft ts r l
  left_meant {ts} {r} l k h =
      let m = h.1 in
      let v : ℕ = number_of bare l.name in
      let inside : is_wrong_select l.select (width_at vars v - 1) ≡ false = ap (is_wrong_part l.select) (sym m.high) ∙ h.0 in
      let p = select_meant k.0 r v m.width l.select k.2 inside in record {
        text = name_text ts k.0 l.name k.1 m ∙ p.text;
        inside = p.inside;
        within = subst (λ i. i < length vars) (sym (var_is v l.select)) m.within;
        bits = ap (with_one (select_bits l.select)) m.high ∙ ap (λ n. Some n) p.bits;
      }

  pub left_demands : {ts r : Bytes} (l : RawLeft) → ReadsLeft ts r l → Demands (left_walk s l) (MeantLeft ts r l)
  left_demands l k = demands_by (left_meant l k) (pass_last (select_bytes l.select) (demands_then (demands_size (is_wrong_part l.select (once s l.name))) (name_demands l.name)))
