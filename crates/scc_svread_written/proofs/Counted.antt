-- Walks that go over the bytes between two places of a text.
use Rattle.std.proofs.Common.{◌≡◌, ℕ, ◌+◌, ◌-◌, ◌^◌, min, Bool, true, false, ◌++◌, length, length-append, codes, refl, sym, subst, ap, ◌∙◌, arith}
use Rattle.std.proofs.lemmas.List.{length-replicate}
use Rattle.std.specs.Prelude.{Option, Some, None}
use Rattle.scc_svtree.specs.declared.expr.SvBinary.{SvBinary}
use Rattle.scc_svtree.specs.declared.module.Dir.{Dir}
use Rattle.scc_svtext.specs.ExprText.{binary_text}
use Rattle.scc_svtext.specs.Pieces.{blanks, spelled}
use Rattle.scc_svread_grammar.specs.declared.raw.RawLiteral.{RawLiteral}
use Rattle.scc_svread_grammar.specs.declared.raw.RawSelect.{RawSelect}
use Rattle.scc_svread_grammar.specs.declared.raw.RawSelect.TheVariants.{Whole, Bit, Range}
use Rattle.scc_svread_grammar.specs.Lexical.{Bytes, ReadsDecimal, ReadsLiteral, ReadsName, ReadsSelect, ReadsRange}
use Rattle.scc_svread_grammar.specs.Grammar.{sign_word, edge_word, ReadsLevel, dir_word, dir_of}
use Rattle.scc_svread_check.specs.declared.walk.Walk.{Walk}
use Rattle.scc_svread_check.specs.Walking.{Walking, ◌then◌, pass, size_if, name_if, size_of_whole, deeper, start}
use Rattle.scc_svread_check.specs.Parts.{literal_bytes, select_bytes, sign_bytes}
use Rattle.scc_svread_check.specs.Blocks.{range_bytes, dir_bytes}
use Rattle.scc_svread_check.specs.Drivers.{level_bytes}

-- Places from here on are not told from each other.
abbrev pub last : ℕ
last = 2 ^ 64 - 1

-- the place before these last bytes of a text of so many
pub record Stands (total : ℕ) (at : ℕ) (ts : Bytes) : Type 0 where
  pub before : ℕ
  pub whole : before + length ts ≡ total
  pub counted : at ≡ min before last

-- The walk goes over the bytes of the one text up to those of the other, which is its end.
pub record Goes (p : Walking) (ts r : Bytes) : Type 0 where
  pub goes : (total : ℕ) (w : Walk) → Stands total w.at ts → Stands total (p w).at r

-- ---- steps

-- a sum that saturates is the same from saturated parts
saturated : (c at k m n : ℕ) → at ≡ min k c → min m c ≡ min n c → min (at + m) c ≡ min (k + n) c
saturated c at k m n e f = omega (arith, e, f)

moved : (k a n b t : ℕ) → a ≡ n + b → k + a ≡ t → k + n + b ≡ t
moved k a n b t e f = omega (arith, e, f)

-- so many bytes, or a saturated number of them
pub goes_counted : (m n : ℕ) {ts r : Bytes} → min m last ≡ min n last → length ts ≡ n + length r → Goes (pass m) ts r
goes_counted m n {ts} {r} e f = record {
  goes = λ total w h. record {
    before = h.before + n;
    whole = moved h.before (length ts) n (length r) total f h.whole;
    counted = saturated last w.at h.before m n h.counted e;
  };
}

pub goes_pass : (n : ℕ) {ts r : Bytes} → length ts ≡ n + length r → Goes (pass n) ts r
goes_pass n e = goes_counted n n refl e

pub goes_over : (t r : Bytes) → Goes (pass (length t)) (t ++ r) r
goes_over t r = goes_pass (length t) (length-append t r)

pub goes_none : {ts : Bytes} → Goes (λ w. w) ts ts
goes_none = record { goes = λ total w h. h }

pub goes_size : (b : Bool) {ts : Bytes} → Goes (size_if b) ts ts
goes_size b = record { goes = λ total w h. h }

pub goes_name_if : (b : Bool) {ts : Bytes} → Goes (name_if b) ts ts
goes_name_if b = record { goes = λ total w h. h }

pub goes_whole : (b : Bool) {p : Walking} {ts r : Bytes} → Goes p ts r → Goes (size_of_whole b p) ts r
goes_whole b a = record { goes = λ total w h. a.goes total w h }

infixl 10 ◌also◌
pub ◌also◌ : {p q : Walking} {ts mid r : Bytes} → Goes p ts mid → Goes q mid r → Goes (p then q) ts r
◌also◌ {p} a b = record { goes = λ total w h. b.goes total (p w) (a.goes total w h) }

pub goes_same : {p q : Walking} {ts r : Bytes} → p ≡ q → Goes q ts r → Goes p ts r
goes_same {ts = ts} {r = r} e k = subst (λ p. Goes p ts r) (sym e) k

-- from another text of the same length
pub goes_from : {p : Walking} {ts us r : Bytes} → length ts ≡ length us → Goes p us r → Goes p ts r
goes_from e a = record { goes = λ total w h. a.goes total w (record { before = h.before; whole = subst (λ k. h.before + k ≡ total) e h.whole; counted = h.counted }) }

-- ---- blanks before a line

pub blanks_long : (n : ℕ) (ts : Bytes) → length (blanks n ++ ts) ≡ n + length ts
blanks_long n ts = length-append (blanks n) ts ∙ ap (λ k. k + length ts) (length-replicate n 32)

-- two blanks further in
pub further_in : (n : ℕ) (ts : Bytes) → length (blanks n ++ (codes "  " ++ ts)) ≡ length (blanks (n + 2) ++ ts)
further_in n ts = omega (arith, blanks_long n (codes "  " ++ ts), blanks_long (n + 2) ts, length-append (codes "  ") ts)

-- m is the number of n blanks, as walks count it
pub record Indent (m n : ℕ) : Type 0 where
  pub is : m ≡ min n last

deeper_by : (c m n : ℕ) → m ≡ min n c → min (m + 2) c ≡ min (n + 2) c
deeper_by c m n e = omega (arith, e)

pub further : {m n : ℕ} → Indent m n → Indent (deeper m) (n + 2)
further {m} {n} i = record { is = deeper_by last m n i.is }

line_saturated : (c m n x : ℕ) → m ≡ min n c → min (m + x) c ≡ min (n + x) c
line_saturated c m n x e = omega (arith, e)

pub four : Indent 4 4
four = record { is = refl }

pub six : Indent 6 6
six = record { is = refl }

-- a line's blanks, and a text behind them
pub goes_line : {m n : ℕ} → Indent m n → (t r : Bytes) → Goes (pass (m + length t)) (blanks n ++ (t ++ r)) r
goes_line {m} {n} i t r = goes_counted (m + length t) (n + length t) (line_saturated last m n (length t) i.is) (omega (arith, blanks_long n (t ++ r), length-append t r))

pub goes_blanks : {m n : ℕ} → Indent m n → (r : Bytes) → Goes (pass m) (blanks n ++ r) r
goes_blanks {m} {n} i r = goes_counted m n (twice last m n i.is) (blanks_long n r)
  where
    twice : (c m n : ℕ) → m ≡ min n c → min m c ≡ min n c
    twice c m n e = omega (arith, e)

-- ---- leaves

decimal_long : (ts r n : Bytes) → ReadsDecimal ts r n → length ts ≡ length n + length r
decimal_long ts r n h = ap length h.0 ∙ length-append n r

pub literal_long : (ts r : Bytes) (l : RawLiteral) → ReadsLiteral ts r l → length ts ≡ literal_bytes l + length r
literal_long ts r l h = omega (arith, ap length h.0, length-append l.width (codes "'h" ++ (l.digits ++ r)), length-append (codes "'h") (l.digits ++ r), length-append l.digits r)

pub name_long : (ts r name : Bytes) → ReadsName ts r name → length ts ≡ length (spelled name) + length r
name_long ts r name h = ap length h.0 ∙ length-append (spelled name) r

pub select_long : (ts r : Bytes) (s : RawSelect) → ReadsSelect ts r s → length ts ≡ select_bytes s + length r
select_long ts r Whole h = omega (arith, ap length h)
select_long ts r (Bit at) h = omega (arith, ap length h.0, length-append (codes "[") (at ++ (codes "]" ++ r)), length-append at (codes "]" ++ r), length-append (codes "]") r)
select_long ts r (Range high low) h =
    let tail : Bytes = low ++ (codes "]" ++ r) in
    omega (arith, ap length h.0, length-append (codes "[") (high ++ (codes ":" ++ tail)), length-append high (codes ":" ++ tail), length-append (codes ":") tail, length-append low (codes "]" ++ r), length-append (codes "]") r)

pub range_long : (ts r : Bytes) (high : Option Bytes) → ReadsRange ts r high → length ts ≡ range_bytes high + length r
range_long ts r None h = omega (arith, ap length h)
range_long ts r (Some high) h = omega (arith, ap length h.0, length-append (codes "[") (high ++ (codes ":0] " ++ r)), length-append high (codes ":0] " ++ r), length-append (codes ":0] ") r)

-- an operator and the blanks around it
pub binary_over : (op : SvBinary) (r : Bytes) → Goes (pass (length (binary_text op) + 2)) (codes " " ++ (binary_text op ++ (codes " " ++ r))) r
binary_over op r = goes_pass (length (binary_text op) + 2) (omega (arith, length-append (codes " ") (binary_text op ++ (codes " " ++ r)), length-append (binary_text op) (codes " " ++ r), length-append (codes " ") r))

pub sign_over : (signed : Bool) (r : Bytes) → Goes (pass (sign_bytes signed)) (sign_word signed ++ r) r
sign_over true r = goes_over (codes "$signed(") r
sign_over false r = goes_over (codes "$unsigned(") r

-- a cast's width and what opens it
pub cast_over : (ts r width : Bytes) → ReadsDecimal ts (codes "'(" ++ r) width → Goes (pass (length width + 2)) ts r
cast_over ts r width h = goes_pass (length width + 2) (omega (arith, decimal_long ts (codes "'(" ++ r) width h, length-append (codes "'(") r))

-- a literal and a text behind it
pub literal_over : (ts t r : Bytes) (l : RawLiteral) → ReadsLiteral ts (t ++ r) l → Goes (pass (literal_bytes l + length t)) ts r
literal_over ts t r l h = goes_pass (literal_bytes l + length t) (omega (arith, literal_long ts (t ++ r) l h, length-append t r))

-- what a reset loads, from behind its name
pub load_over : (ts r : Bytes) (l : RawLiteral) → ReadsLiteral ts (codes ";\n" ++ r) l → Goes (pass (4 + literal_bytes l + 2)) (codes " <= " ++ ts) r
load_over ts r l h = goes_pass (4 + literal_bytes l + 2) (omega (arith, length-append (codes " <= ") ts, literal_long ts (codes ";\n" ++ r) l h, length-append (codes ";\n") r))

-- the condition under which a reset stands, and what is written behind it
pub level_long : (negated : Bool) (ts r name : Bytes) → ReadsLevel negated ts (codes ") begin\n" ++ r) name → length ts ≡ level_bytes negated name + length r
level_long true ts r name h = omega (arith, ap length h.1, length-append (codes "(!") h.0, name_long h.0 (codes ")) begin\n" ++ r) name h.2, length-append (codes ")) begin\n") r)
level_long false ts r name h = omega (arith, name_long ts (codes ") begin\n" ++ r) name h, length-append (codes ") begin\n") r)

-- the line before a block at an edge
pub edge_over : (rising : Bool) (r : Bytes) → Goes (pass 22) (codes "  always_ff @(" ++ (edge_word rising ++ r)) r
edge_over true r = goes_over (codes "  always_ff @(posedge ") r
edge_over false r = goes_over (codes "  always_ff @(negedge ") r

pub or_over : (rising : Bool) (r : Bytes) → Goes (pass 12) (codes " or " ++ (edge_word rising ++ r)) r
or_over true r = goes_over (codes " or posedge ") r
or_over false r = goes_over (codes " or negedge ") r

-- the blanks and the direction of a port
pub port_over : (input : Bool) (dir : Dir) (r : Bytes) → dir ≡ dir_of input → Goes (pass (dir_bytes dir)) (codes "  " ++ (dir_word input ++ r)) r
port_over true dir r e = subst (λ d. Goes (pass (dir_bytes d)) (codes "  " ++ (dir_word true ++ r)) r) (sym e) (goes_over (codes "  input logic ") r)
port_over false dir r e = subst (λ d. Goes (pass (dir_bytes d)) (codes "  " ++ (dir_word false ++ r)) r) (sym e) (goes_over (codes "  output logic ") r)

pub further_over : (input : Bool) (dir : Dir) (r : Bytes) → dir ≡ dir_of input → Goes (pass (2 + dir_bytes dir)) (codes ",\n" ++ (codes "  " ++ (dir_word input ++ r))) r
further_over true dir r e = subst (λ d. Goes (pass (2 + dir_bytes d)) (codes ",\n" ++ (codes "  " ++ (dir_word true ++ r))) r) (sym e) (goes_over (codes ",\n  input logic ") r)
further_over false dir r e = subst (λ d. Goes (pass (2 + dir_bytes d)) (codes ",\n" ++ (codes "  " ++ (dir_word false ++ r))) r) (sym e) (goes_over (codes ",\n  output logic ") r)

-- ---- the whole text

-- a walk from the start up to the last line
pub ends_at : {p : Walking} {ts : Bytes} → Goes p ts (codes "endmodule\n") → (p start).at ≡ min (length ts - 10) last
ends_at {p} {ts} a = end (a.goes (length ts) start (record { before = 0; whole = omega arith; counted = refl }))
  where
    off : (k n : ℕ) → k + 10 ≡ n → n - 10 ≡ k
    off k n e = omega (arith, e)

    end : Stands (length ts) (p start).at (codes "endmodule\n") → (p start).at ≡ min (length ts - 10) last
    end h = h.counted ∙ ap (λ k. min k last) (sym (off h.before (length ts) h.whole))
