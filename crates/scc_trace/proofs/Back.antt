-- A stimulus that is written is read as the steps that it was written of.
use Rattle.std.specs.Prelude.{◌≡◌, ℕ, zero, suc, ◌+◌, ◌*◌, ◌/◌, ◌%◌, ◌^◌, ◌<◌, ◌≤◌, nat_eq, nat_le, nat_lt, Bool, true, false, not, ◌&&◌, cond, if◌then◌else◌, List, [], ◌∷◌, ◌++◌, length, flat_map, codes, bytes_eq, Option, Some, None, Ok, refl}
use Rattle.std.specs.List.{list_all}
use Rattle.std.proofs.Common.{sym, ◌∙◌, ap, append_assoc, arith}
use Rattle.std.proofs.lemmas.Bool.{and_parts, and_from, not-true, false≢true, le-leb, leb-true, ltb-true, ne_eqb, eqb-true, agree_below_at}
use Rattle.std.proofs.lemmas.List.{append-nil}
use Rattle.std.proofs.lemmas.Slice.Eq.{bytes_eq-Decides}
use Rattle.std.proofs.lemmas.Nat.{pow-add, mod-pow-add}
use Rattle.std.proofs.Math.Nat.{mod-eq_of_lt}
use Rattle.std.proofs.Math.Pow.{pow_mono}
use Rattle.scc_base.specs.declared.code.Code.TheVariants.{StimText, StimPort as WrongPorts}
use Rattle.scc_bits_kinds.specs.declared.kind.Word.{Word}
use Rattle.scc_trace.specs.declared.stim.StimPort.{StimPort}
use Rattle.scc_trace.specs.declared.stim.StimStep.{StimStep}
use Rattle.scc_trace.specs.declared.stim.Version.TheVariants.{Two}
use Rattle.scc_trace.specs.declared.found.Found.{Found}
use Rattle.scc_trace.specs.Cut.{Bytes, Piece, onto, lines, words, first}
use Rattle.scc_trace.specs.Laws.{lacks, is_port}
use Rattle.scc_trace.specs.Head.{◌>>=◌, refused, next_line, version_at, names_text, names_line, line_at}
use Rattle.scc_trace.specs.Stimulus.{digit_of, digit_more, number_from, hex_of, with_value, found_of, widths_of, names_of, edge_of, formed_step, step_in, step_of, steps_of, each_line, stim_of}
use Rattle.scc_trace.specs.Text.{digit, hex_text, digits_of, all_fit, values_text, edge_text, step_text, version_text, stim_text_of}

abbrev piece : ℕ → Bytes → Piece
piece at bytes = record { at = at; bytes = bytes }

-- where what is behind some bytes and a separator begins
abbrev behind : ℕ → Bytes → ℕ
behind at [] = suc at
behind at (b ∷ f) = behind (suc at) f

-- ---- lines and words of what is joined

differs : (s b : ℕ) (f : Bytes) → lacks s (b ∷ f) ≡ true → nat_eq b s ≡ false
differs s b f h = not-true (nat_eq b s) ((and_parts (not (nat_eq b s)) (lacks s f) h).0)

rest_lacks : (s b : ℕ) (f : Bytes) → lacks s (b ∷ f) ≡ true → lacks s f ≡ true
rest_lacks s b f h = (and_parts (not (nat_eq b s)) (lacks s f) h).1

line_more : (at : ℕ) (f r : Bytes) → lacks 10 f ≡ true → lines at (f ++ 10 ∷ r) ≡ piece at f ∷ lines (behind at f) r
unfolding lines
line_more at [] r h = refl
line_more at (b ∷ f) r h =
    ap (λ t. cond t (piece at [] ∷ lines (suc at) (f ++ 10 ∷ r)) (onto at b (lines (suc at) (f ++ 10 ∷ r)))) (differs 10 b f h)
    ∙ ap (onto at b) (line_more (suc at) f r (rest_lacks 10 b f h))

word_more : (at : ℕ) (f r : Bytes) → lacks 32 f ≡ true → words at (f ++ 32 ∷ r) ≡ piece at f ∷ words (behind at f) r
unfolding words
word_more at [] r h = refl
word_more at (b ∷ f) r h =
    ap (λ t. cond t (piece at [] ∷ words (suc at) (f ++ 32 ∷ r)) (onto at b (words (suc at) (f ++ 32 ∷ r)))) (differs 32 b f h)
    ∙ ap (onto at b) (word_more (suc at) f r (rest_lacks 32 b f h))

word_last : (at : ℕ) (f : Bytes) → lacks 32 f ≡ true → words at f ≡ piece at f ∷ []
unfolding words
word_last at [] h = refl
word_last at (b ∷ f) h =
    ap (λ t. cond t (piece at [] ∷ words (suc at) f) (onto at b (words (suc at) f))) (differs 32 b f h)
    ∙ ap (onto at b) (word_last (suc at) f (rest_lacks 32 b f h))

first_more : (f r : Bytes) → lacks 32 f ≡ true → first 32 (f ++ 32 ∷ r) ≡ f
unfolding first
first_more [] r h = refl
first_more (b ∷ f) r h = ap (λ t. cond t [] (b ∷ first 32 (f ++ 32 ∷ r))) (differs 32 b f h) ∙ ap (λ u. b ∷ u) (first_more f r (rest_lacks 32 b f h))

first_last : (f : Bytes) → lacks 32 f ≡ true → first 32 f ≡ f
unfolding first
first_last [] h = refl
first_last (b ∷ f) h = ap (λ t. cond t [] (b ∷ first 32 f)) (differs 32 b f h) ∙ ap (λ u. b ∷ u) (first_last f (rest_lacks 32 b f h))

lacks-append : (s : ℕ) (f g : Bytes) → lacks s f ≡ true → lacks s g ≡ true → lacks s (f ++ g) ≡ true
lacks-append s [] g h k = k
lacks-append s (b ∷ f) g h k = let p = and_parts (not (nat_eq b s)) (lacks s f) h in and_from (not (nat_eq b s)) (lacks s (f ++ g)) p.0 (lacks-append s f g p.1 k)

-- ---- digits

abbrev is_told : ℕ → Option ℕ → Bool
is_told d None = false
is_told d (Some e) = nat_eq e d

told : (d : ℕ) (o : Option ℕ) → is_told d o ≡ true → o ≡ Some d
told d None h = absurd (false≢true h)
told d (Some e) h = ap Some (eqb-true e d h)

-- what a letter counts, for each digit
digit_back : (d : ℕ) → d < 16 → digit_of (digit d) ≡ Some d
digit_back d h = told d (digit_of (digit d)) (agree_below_at (λ x. is_told x (digit_of (digit x))) (λ x. true) 16 d refl h)

digit_high : (d : ℕ) → 48 ≤ digit d
digit_high d = by (nat_lt d 10)
  where
    by : (t : Bool) → 48 ≤ (if t then 48 + d else 87 + d)
    by true = omega arith
    by false = omega arith

high_differs : (c s : ℕ) → 48 ≤ c → s < 48 → not (nat_eq c s) ≡ true
high_differs c s h k = ap not (ne_eqb c s (λ z. omega (arith, h, k, z)))

hex_lacks : (s n v : ℕ) → s < 48 → lacks s (hex_text n v) ≡ true
unfolding hex_text
hex_lacks s zero v h = refl
hex_lacks s (suc n) v h =
    let d = v / 2 ^ (4 * n) % 16 in
    and_from (not (nat_eq (digit d) s)) (lacks s (hex_text n v)) (high_differs (digit d) s (digit_high d) h) (hex_lacks s n v h)

hex_length : (n v : ℕ) → length (hex_text n v) ≡ n
unfolding hex_text
hex_length zero v = refl
hex_length (suc n) v = omega (arith, hex_length n v)

sum_is : (a d p m : ℕ) → (16 * a + d) * p + m ≡ a * (16 * p) + (d * p + m)
sum_is a d p m = omega arith

small_digit : (v n : ℕ) → v / 2 ^ (4 * n) % 16 < 16
small_digit v n = omega arith

number_back : (n a v : ℕ) → number_from a (hex_text n v) ≡ Some (a * 2 ^ (4 * n) + v % 2 ^ (4 * n))
unfolding number_from hex_text
number_back zero a v = let e : a * 1 + v % 1 ≡ a = omega arith in ap Some (sym e)
number_back (suc n) a v =
    let d = v / 2 ^ (4 * n) % 16 in
    let s : 4 * suc n ≡ 4 + 4 * n = omega arith in
    let p : v % 2 ^ (4 + 4 * n) ≡ d * 2 ^ (4 * n) + v % 2 ^ (4 * n) = mod-pow-add v 4 (4 * n) in
    let q : 2 ^ (4 + 4 * n) ≡ 16 * 2 ^ (4 * n) = pow-add 2 4 (4 * n) in
    ap (λ o. digit_more o (λ x. number_from (16 * a + x) (hex_text n v))) (digit_back d (small_digit v n))
    ∙ number_back n (16 * a + d) v
    ∙ ap Some (sum_is a d (2 ^ (4 * n)) (v % 2 ^ (4 * n)))
    ∙ ap (λ x. Some (a * x + (d * 2 ^ (4 * n) + v % 2 ^ (4 * n)))) (sym q)
    ∙ ap (λ x. Some (a * 2 ^ (4 + 4 * n) + x)) (sym p)
    ∙ ap (λ k. Some (a * 2 ^ k + v % 2 ^ k)) (sym s)

zero_first : (p m : ℕ) → 0 * p + m ≡ m
zero_first p m = omega arith

some_digits : (width : ℕ) → 1 ≤ width → 1 ≤ (width + 3) / 4
some_digits width h = omega arith

few_digits : (width : ℕ) → width ≤ 128 → (width + 3) / 4 ≤ 32
few_digits width h = omega arith

enough_digits : (width : ℕ) → width ≤ 4 * ((width + 3) / 4)
enough_digits width = omega arith

-- a word in as many digits as its width has
hex_back : (width v : ℕ) → 1 ≤ width → width ≤ 128 → v < 2 ^ width → hex_of (hex_text (digits_of width) v) ≡ Some v
unfolding hex_of
hex_back width v some most fits =
    let n = (width + 3) / 4 in
    let m : 2 ^ width ≤ 2 ^ (4 * n) = pow_mono {i = width} {j = 4 * n} (enough_digits width) in
    let below : v < 2 ^ (4 * n) = omega (arith, m, fits) in
    let e : v % 2 ^ (4 * n) ≡ v = mod-eq_of_lt below in
    let t : (nat_le 1 n && nat_le n 32) ≡ true = and_from (nat_le 1 n) (nat_le n 32) (le-leb 1 n (some_digits width some)) (le-leb n 32 (few_digits width most)) in
    ap (λ k. if nat_le 1 k && nat_le k 32 then number_from 0 (hex_text n v) else None) (hex_length n v)
    ∙ ap (λ b. if b then number_from 0 (hex_text n v) else None) t ∙ number_back n 0 v ∙ ap (λ x. Some x) (zero_first (2 ^ (4 * n)) (v % 2 ^ (4 * n))) ∙ ap Some e

-- ---- steps

abbrev none_wide : List Word → Option Found
none_wide ws = Some (record { words = ws; wide = None })

value_back : (p : StimPort) (w : Word) (ws : List Word) (at : ℕ) → is_port p ≡ true → nat_lt w.bits (2 ^ p.width) ≡ true
    → with_value p.width at (hex_of (hex_text (digits_of p.width) w.bits)) (none_wide ws) ≡ none_wide (w ∷ ws)
value_back p w ws at h k =
    let a = and_parts (nat_le 1 p.width && nat_le p.width 128) (lacks 10 p.name) h in
    let b = and_parts (nat_le 1 p.width) (nat_le p.width 128) a.0 in
    let e = hex_back p.width w.bits (leb-true 1 p.width b.0) (leb-true p.width 128 b.1) (ltb-true w.bits (2 ^ p.width) k) in
    ap (λ o. with_value p.width at o (none_wide ws)) e ∙ ap (λ t. Some (record { words = w ∷ ws; wide = if t then None else Some at })) k

values_back : (ports : List StimPort) (ws : List Word) (at : ℕ) (f : Bytes) → list_all is_port ports ≡ true → all_fit ports ws ≡ true → lacks 32 f ≡ true
    → (qs : List Piece) × (words at (f ++ values_text ports ws) ≡ piece at f ∷ qs) × (found_of (widths_of ports) qs ≡ none_wide ws)
unfolding values_text all_fit found_of
values_back [] [] at f h k l = ([], ap (words at) (append-nil f) ∙ word_last at f l, refl)
values_back [] (w ∷ ws) at f h k l = absurd (false≢true k)
values_back (p ∷ ps) [] at f h k l = absurd (false≢true k)
values_back (p ∷ ps) (w ∷ ws) at f h k l =
    let hs = and_parts (is_port p) (list_all is_port ps) h in
    let ks = and_parts (nat_lt w.bits (2 ^ p.width)) (all_fit ps ws) k in
    let v = hex_text (digits_of p.width) w.bits in
    let i = values_back ps ws (behind at f) v hs.1 ks.1 (hex_lacks 32 (digits_of p.width) w.bits (omega arith)) in (
      piece (behind at f) v ∷ i.0,
      word_more at f (v ++ values_text ps ws) l ∙ ap (λ us. piece at f ∷ us) i.1,
      ap (λ o. with_value p.width (behind at f) (hex_of v) o) i.2 ∙ value_back p w ws (behind at f) hs.0 ks.0,
    )

values_lack : (ports : List StimPort) (ws : List Word) → lacks 10 (values_text ports ws) ≡ true
unfolding values_text
values_lack [] ws = refl
values_lack (p ∷ ps) [] = refl
values_lack (p ∷ ps) (w ∷ ws) = lacks-append 10 (hex_text (digits_of p.width) w.bits) (values_text ps ws) (hex_lacks 10 (digits_of p.width) w.bits (omega arith)) (values_lack ps ws)

edge_blank : (e : Bool) → lacks 32 (edge_text e) ≡ true
edge_blank true = refl
edge_blank false = refl

edge_feed : (e : Bool) → lacks 10 (edge_text e) ≡ true
edge_feed true = refl
edge_feed false = refl

edge_back : (e : Bool) → edge_of Two (edge_text e) ≡ Some e
edge_back true = refl
edge_back false = refl

module _ (file : ℕ) (ports : List StimPort) (good : list_all is_port ports ≡ true) where
  step_back : (at : ℕ) (s : StimStep) → all_fit ports s.words ≡ true → step_of file Two (widths_of ports) (piece at (edge_text s.edge ++ values_text ports s.words)) ≡ Ok s
  unfolding step_of
  step_back at s k =
      let v = values_back ports s.words at (edge_text s.edge) good k (edge_blank s.edge) in
      ap (step_in file Two (widths_of ports) at) v.1 ∙ ap (λ o. formed_step file at o (found_of (widths_of ports) v.0)) (edge_back s.edge) ∙ ap (formed_step file at (Some s.edge)) v.2

  steps_back : (at : ℕ) (steps : List StimStep) → list_all (λ s. all_fit ports s.words) steps ≡ true → steps_of file Two (widths_of ports) (lines at (flat_map (step_text ports) steps)) ≡ Ok steps
  unfolding each_line lines
  steps_back at [] k = refl
  steps_back at (s ∷ steps) k =
      let ks = and_parts (all_fit ports s.words) (list_all (λ s. all_fit ports s.words) steps) k in
      let f = edge_text s.edge ++ values_text ports s.words in
      let more = flat_map (step_text ports) steps in
      let cut : lines at (f ++ codes "\n" ++ more) ≡ piece at f ∷ lines (behind at f) more =
      ap (lines at) (append_assoc f (codes "\n") more) ∙ line_more at f more (lacks-append 10 (edge_text s.edge) (values_text ports s.words) (edge_feed s.edge) (values_lack ports s.words)) in
      ap (steps_of file Two (widths_of ports)) cut
      ∙ ap (λ o. o >>= λ a. steps_of file Two (widths_of ports) (lines (behind at f) more) >>= λ rest. Ok (a ∷ rest)) (step_back at s ks.0)
      ∙ ap (λ o. o >>= λ rest. Ok (s ∷ rest)) (steps_back (behind at f) steps ks.1)

-- ---- the head

names_lack : (ports : List StimPort) → list_all is_port ports ≡ true → lacks 10 (names_text (names_of ports)) ≡ true
names_lack [] h = refl
names_lack (p ∷ ps) h =
    let hs = and_parts (is_port p) (list_all is_port ps) h in
    let a = and_parts (nat_le 1 p.width && nat_le p.width 128) (lacks 10 p.name) hs.0 in
    lacks-append 10 p.name (names_text (names_of ps)) a.1 (names_lack ps hs.1)

same_bytes : (a : Bytes) → bytes_eq a a ≡ true
same_bytes a = (bytes_eq-Decides a a).1 refl

first_name : (names : List Bytes) → first 32 (names_line (codes "ports") names) ≡ codes "ports"
unfolding first names_line
first_name [] = refl
first_name (n ∷ ns) = refl

line_back : (file at : ℕ) (names : List Bytes) → line_at file (codes "ports") (names_line (codes "ports") names) (piece at (names_line (codes "ports") names)) ≡ Ok tt
unfolding line_at
line_back file at names =
    let l = names_line (codes "ports") names in
    let w = codes "ports" in
    ap (λ u. if bytes_eq u w then (if bytes_eq l l then Ok tt else refused file WrongPorts at) else refused file StimText at) (first_name names)
    ∙ ap (λ t. if t then (if bytes_eq l l then Ok tt else refused file WrongPorts at) else refused file StimText at) (same_bytes w)
    ∙ ap (λ t. if t then Ok tt else refused file WrongPorts at) (same_bytes l)

line_lacks : (ports : List StimPort) → list_all is_port ports ≡ true → lacks 10 (names_line (codes "ports") (names_of ports)) ≡ true
unfolding names_line
line_lacks ports good = lacks-append 10 (codes "ports") (names_text (names_of ports)) refl (names_lack ports good)

head_cut : (l more : Bytes) → lines 0 (version_text ++ l ++ codes "\n" ++ more) ≡ piece 0 (codes "scc-stim 2") ∷ lines 11 (l ++ 10 ∷ more)
unfolding lines version_text
head_cut l more = ap (λ u. lines 0 (codes "scc-stim 2\n" ++ u)) (append_assoc l (codes "\n") more)

pub reads_back : (file : ℕ) (ports : List StimPort) (steps : List StimStep) → list_all is_port ports ≡ true → list_all (λ s. all_fit ports s.words) steps ≡ true → stim_of file ports (stim_text_of ports steps) ≡ Ok steps
unfolding stim_of stim_text_of next_line version_at
reads_back file ports steps good fits =
    let l = names_line (codes "ports") (names_of ports) in
    let more = flat_map (step_text ports) steps in
    let end = length (version_text ++ l ++ codes "\n" ++ more) in
    ap (λ ls. next_line file end ls >>= λ a. version_at file a.0 >>= λ v. next_line file end a.1 >>= λ b. line_at file (codes "ports") l b.0 >>= λ _. steps_of file v (widths_of ports) b.1) (head_cut l more)
    ∙ ap (λ ls. next_line file end ls >>= λ b. line_at file (codes "ports") l b.0 >>= λ _. steps_of file Two (widths_of ports) b.1) (line_more 11 l more (line_lacks ports good))
    ∙ ap (λ o. o >>= λ _. steps_of file Two (widths_of ports) (lines (behind 11 l) more)) (line_back file 11 (names_of ports))
    ∙ steps_back file ports good (behind 11 l) steps fits
