-- The tokens of a file: no `#` begins a directive within another, and places ascend.
use Rattle.std.proofs.Common.{◌≡◌, ◌<◌, ◌≤◌, ℕ, zero, suc, ◌+◌, List, [], ◌∷◌, map, length, take, drop, Bool, true, false, cond, not, ◌&&◌, ◌==◌, nat_lt, Option, Some, None, option_map, Result, Ok, Err, refl, sym, ap, subst, ◌∙◌, arith}
use Rattle.std.specs.List.{list_all}
use Rattle.scc_base.specs.declared.code.Code.{Code}
use Rattle.scc_base.specs.declared.code.Code.TheVariants as code
use Rattle.scc_base.specs.declared.refusal.Place.{Place}
use Rattle.scc_tokens_lexer.specs.Bytes.{is_letter, is_digit, is_word_byte, is_number_byte}
use Rattle.scc_tokens_directives.specs.Directive.{directive_of, is_line_end, line_len}
use Rattle.scc_tokens_lexer.specs.Enclosed.{text_end}
use Rattle.scc_tokens_directives.specs.File.{is_hash, line_of, ends_open, ends_with, unclosed_with, first_unclosed}
use Rattle.scc_tokens.specs.Files.{kind_in, token_in, file_of, file_by, file_with}
use Rattle.scc_tokens_laws.specs.Joined.{behind_line, directive_at}
use Rattle.scc_tokens_lexer.specs.Lexes.{form_of, form_where, ends_at, blank, start_ends, middle_ends, directive_ends, line_comment, block_comment, hash, token, Lexes, end, piece}
use Rattle.scc_tokens_lexer.specs.Number.{literal_of}
use Rattle.scc_tokens_lexer.specs.Piece.{word_form, word_form_by, literal_form, literal_form_by, behind}
use Rattle.scc_tokens_lexer.specs.Scan.{scan}
use Rattle.scc_tokens_lexer.specs.Spelled.{Spelled, spelled_as}
use Rattle.scc_tokens.specs.Walk.{split_line}
use Rattle.scc_tokens_lexer.specs.Words.{word_index, is_outside, mark_index}
use Rattle.scc_tokens_directives.specs.declared.directive.Words.{Words}
use Rattle.scc_tokens_directives.specs.declared.directive.Directive.{Directive}
use Rattle.scc_tokens_directives.specs.declared.directive.Directive.TheVariants as directive
use Rattle.scc_tokens_directives.specs.declared.file.File.{File}
use Rattle.scc_tokens_lexer.specs.declared.piece.Form.{Form}
use Rattle.scc_tokens_lexer.specs.declared.piece.Form.TheVariants as form
use Rattle.scc_tokens_lexer.specs.declared.piece.Line.{Line}
use Rattle.scc_tokens_lexer.specs.declared.piece.Line.TheVariants.{Start, Middle, Directive as InLine}
use Rattle.scc_tokens_lexer.specs.declared.token.Token.{Token}
use Rattle.scc_tokens_lexer.specs.declared.token.TokenKind.{TokenKind}
use Rattle.scc_tokens_lexer.specs.declared.token.TokenKind.TheVariants as kind
use Rattle.scc_tokens_lexer.proofs.ScanLaws.{ScanIs, scan_is}

-- no `#` stands within a directive's line
abbrev pub tidy : Bool → List Token → Bool
tidy within [] = true
tidy within (t ∷ ts) = cond (is_hash t.kind) (not within && tidy true ts) (tidy (within && not (is_line_end t.kind)) ts)

-- places ascend from here on
abbrev pub Above : ℕ → List Token → Type 0
Above n [] = Unit {0}
Above n (t ∷ ts) = (n ≤ t.place.at) × Above (t.place.at + 1) ts

pub lower : (n m : ℕ) (ts : List Token) → n ≤ m → Above m ts → Above n ts
lower n m [] h a = tt
lower n m (t ∷ ts) h a = let b = a.0 in (omega arith, a.1)

-- ---- forms of tokens

abbrev is_plain : Form → Bool
is_plain form.LineHash = false
is_plain form.LineEnd = false
is_plain _ = true

word_plain : (o : Option ℕ) (b : Bool) → is_plain (word_form_by o b) ≡ true
word_plain (Some i) b = refl
word_plain None true = refl
word_plain None false = refl

literal_plain : (w : List ℕ) → is_plain (literal_form w) ≡ true
literal_plain w = by (literal_of w)
  where
    by : (o : Option _) → is_plain (literal_form_by o) ≡ true
    by (Some x) = refl
    by None = refl

where_plain : (b : Bool) (f g : Form) → is_plain f ≡ true → form_where b f ≡ Some g → is_plain g ≡ true
where_plain true f g p e = let same : f ≡ g = cc in subst (λ x. is_plain x ≡ true) same p
where_plain false f g p e = cc

mark_plain : (o : Option ℕ) (g : Form) → option_map form.Mark o ≡ Some g → is_plain g ≡ true
mark_plain None g e = cc
mark_plain (Some i) g e = let same : form.Mark i ≡ g = cc in subst (λ x. is_plain x ≡ true) same refl

form_plain : (w : List ℕ) (f : Form) → form_of w ≡ Some f → is_plain f ≡ true
unfolding form_of
form_plain [] f e = cc
form_plain (b ∷ bs) f e = by (is_letter b) (is_digit b) (b == 34) (b == 39) e
  where
    by : (l d q a : Bool) → cond l (form_where (list_all is_word_byte bs) (word_form (b ∷ bs))) (cond d (form_where (list_all is_number_byte bs) (literal_form (b ∷ bs)))
        (cond q (form_where (ends_at (text_end 34 false bs) (length bs)) form.Text) (cond a (form_where (ends_at (text_end 39 false bs) (length bs)) form.Character) (option_map form.Mark (mark_index (b ∷ bs)))))) ≡ Some f
        → is_plain f ≡ true
    by true d q a e = where_plain (list_all is_word_byte bs) (word_form (b ∷ bs)) f (word_plain (word_index (b ∷ bs)) (is_outside (b ∷ bs))) e
    by false true q a e = where_plain (list_all is_number_byte bs) (literal_form (b ∷ bs)) f (literal_plain (b ∷ bs)) e
    by false false true a e = where_plain (ends_at (text_end 34 false bs) (length bs)) form.Text f refl e
    by false false false true e = where_plain (ends_at (text_end 39 false bs) (length bs)) form.Character f refl e
    by false false false false e = mark_plain (mark_index (b ∷ bs)) f e

plain_kinds : (names : List (List ℕ)) (w : List ℕ) (f : Form) → is_plain f ≡ true → (is_hash (kind_in names w f) ≡ false) × (is_line_end (kind_in names w f) ≡ false)
plain_kinds names w form.Ident e = (refl, refl)
plain_kinds names w form.Outside e = (refl, refl)
plain_kinds names w (form.Word i) e = (refl, refl)
plain_kinds names w (form.Mark i) e = (refl, refl)
plain_kinds names w (form.Number k x) e = (refl, refl)
plain_kinds names w form.BadNumber e = (refl, refl)
plain_kinds names w form.Text e = (refl, refl)
plain_kinds names w form.Character e = (refl, refl)
plain_kinds names w form.LineHash e = cc
plain_kinds names w form.LineEnd e = cc

abbrev is_inside : Line → Bool
is_inside Start = false
is_inside Middle = false
is_inside InLine = true

inside_behind : (line : Line) → is_inside (behind line) ≡ is_inside line
inside_behind Start = refl
inside_behind Middle = refl
inside_behind InLine = refl

-- ---- the tokens of a text

pub record Orderly (within : Bool) (n : ℕ) (ts : List Token) : Type 0 where
  pub tidy_is : tidy within ts ≡ true
  pub above : Above n ts

no_form : (f : Form) → form_of [] ≡ Some f → ⊥
unfolding form_of
no_form f e = cc

pub lexes_orderly : (names : List (List ℕ)) {file : ℕ} {line : Line} {at : ℕ} {text : List ℕ} {ts : List Spelled} → Lexes file line at text ts → (n : ℕ) → n ≤ at
    → Orderly (is_inside line) n (map (token_in names) ts)
lexes_orderly names (end {line = Start}) n h = record { tidy_is = refl; above = tt }
lexes_orderly names (end {line = Middle}) n h = record { tidy_is = refl; above = tt }
lexes_orderly names (end {line = InLine}) n h = record { tidy_is = refl; above = (h, tt) }
lexes_orderly names (piece {at = at} (blank e) rest) n h = lexes_orderly names rest n (omega arith)
lexes_orderly names (piece {at = at} start_ends rest) n h = lexes_orderly names rest n (omega arith)
lexes_orderly names (piece {at = at} middle_ends rest) n h = lexes_orderly names rest n (omega arith)
lexes_orderly names (piece {at = at} directive_ends rest) n h = let r = lexes_orderly names rest (at + 1) (omega arith) in record { tidy_is = r.tidy_is; above = (h, r.above) }
lexes_orderly names (piece {at = at} line_comment rest) n h = lexes_orderly names rest n (omega arith)
lexes_orderly names (piece {at = at} (block_comment e) rest) n h = lexes_orderly names rest n (omega arith)
lexes_orderly names (piece {at = at} hash rest) n h = let r = lexes_orderly names rest (at + 1) (omega arith) in record { tidy_is = r.tidy_is; above = (h, r.above) }
lexes_orderly names (piece {line = line} {at = at} {text = text} {ts = ss} (token {f = f} {n = k} begins longest printable short) rest) n h =
    let some : 0 < k = by k longest.is_token in
    let r = lexes_orderly names rest (at + 1) (omega arith) in
    let p = plain_kinds names (spelled_as f (take k text) (record { file = 0; at = at })).text f (form_plain (take k text) f longest.is_token) in
    record { tidy_is = rw (p.0, p.1) (ap (λ b. tidy b (map (token_in names) ss)) (both (is_inside line) ∙ sym (inside_behind line)) ∙ r.tidy_is); above = (h, r.above) }
  where
    by : (k : ℕ) → form_of (take k text) ≡ Some f → 0 < k
    by zero e = absurd (no_form f e)
    by (suc k) e = omega arith

    both : (b : Bool) → (b && not false) ≡ b
    both true = refl
    both false = refl

-- a file that is cut out of a text
pub record Good (w : Words) (file : File) : Type 0 where
  pub unclosed_is : file.unclosed ≡ first_unclosed w file.tokens
  pub orderly : Orderly false 0 file.tokens

pub file_good : (names : List (List ℕ)) (w : Words) (number : ℕ) (bytes : List ℕ) (file : File) → file_of names w number bytes ≡ Ok file → Good w file
file_good names w number bytes file e = short (nat_lt 1048576 (length bytes)) e
  where
    cut : (r : Result (List Spelled) (Code × Place)) → ScanIs number Start 0 bytes r → file_by names w r ≡ Ok file → Good w file
    cut (Ok done) is e =
        let same : file_with w (map (token_in names) done) ≡ file = cc in
        subst (Good w) same (record { unclosed_is = refl; orderly = lexes_orderly names is 0 (omega arith) })
    cut (Err x) is e = cc

    short : (b : Bool) → cond b (Err (code.FileTooLong, record { file = number; at = 0 })) (file_by names w (scan number bytes)) ≡ Ok file → Good w file
    short true e = cc
    short false e = cut (scan number bytes) (scan_is (length bytes) number Start 0 bytes (omega arith)) e

-- ---- lines, and how many `#endif` close what begins before them

end_unknown : (w : Words) (k : TokenKind) → is_line_end k ≡ true → directive_of w k ≡ directive.Unknown
end_unknown w (kind.Ident n) e = cc
end_unknown w (kind.Outside n) e = cc
end_unknown w (kind.Word i) e = cc
end_unknown w (kind.Mark i) e = cc
end_unknown w (kind.Number a b) e = cc
end_unknown w kind.BadNumber e = cc
end_unknown w kind.Text e = cc
end_unknown w kind.Character e = cc
end_unknown w kind.LineHash e = cc
end_unknown w kind.LineEnd e = refl

pub line_is : (w : Words) (t : Token) (ts : List Token) → is_hash t.kind ≡ true → line_of w (t ∷ ts) ≡ (directive_at w ts).0
line_is w t [] e = refl
line_is w t (u ∷ us) e = rw e (by (is_line_end u.kind) refl)
  where
    next : (n : ℕ) → take (1 + n) (u ∷ us) ≡ u ∷ take n us
    next n = let m : 1 + n ≡ suc n = omega arith in ap (λ k. take k (u ∷ us)) m

    by : (b : Bool) → is_line_end u.kind ≡ b → directive_of w u.kind ≡ (directive_at w (u ∷ us)).0
    by true g = rw g (end_unknown w u.kind g)
    by false g = rw g (sym (ap (λ l. (split_line w l).0) (next (line_len us))))

pub no_line : (w : Words) (t : Token) (ts : List Token) → is_hash t.kind ≡ false → line_of w (t ∷ ts) ≡ directive.Unknown
no_line w t [] e = refl
no_line w t (u ∷ us) e = rw e refl

-- what stands behind a line is as what stands behind its `#`
pub record Passes (w : Words) (n : ℕ) (from to : List Token) : Type 0 where
  pub ends : ends_open w from ≡ ends_open w to
  pub unclosed : first_unclosed w from ≡ first_unclosed w to
  pub orderly : Orderly false n to

pub passes_line : (w : Words) (n : ℕ) (ts : List Token) → Orderly true n ts → Passes w n ts (behind_line ts)
passes_line w n [] o = record { ends = refl; unclosed = refl; orderly = record { tidy_is = refl; above = tt } }
passes_line w n (t ∷ ts) o = by (is_line_end t.kind) (is_hash t.kind) refl refl (λ h. passes_line w n ts h)
  where
    next : (k : ℕ) → drop (1 + k) (t ∷ ts) ≡ drop k ts
    next k = let m : 1 + k ≡ suc k = omega arith in ap (λ j. drop j (t ∷ ts)) m

    by : (b c : Bool) → is_line_end t.kind ≡ b → is_hash t.kind ≡ c → (Orderly true n ts → Passes w n ts (behind_line ts)) → Passes w n (t ∷ ts) (behind_line (t ∷ ts))
    by b true g h rest = let bad : tidy true (t ∷ ts) ≡ false = rw h refl in absurd (let x = sym bad ∙ o.tidy_is in cc)
    by true false g h rest = rw g (record { ends = refl; unclosed = refl; orderly = record { tidy_is = let x : tidy true (t ∷ ts) ≡ tidy false ts = rw (h, g) refl in let y : tidy false (t ∷ ts) ≡ tidy false ts = rw h refl in y ∙ sym x ∙ o.tidy_is; above = o.above } })
    by false false g h rest =
        let inner : tidy true (t ∷ ts) ≡ tidy true ts = rw (h, g) refl in
        let above = o.above in
        let r = rest (record { tidy_is = sym inner ∙ o.tidy_is; above = lower n (t.place.at + 1) ts (omega (arith, above.0)) above.1 }) in
        let behind : behind_line (t ∷ ts) ≡ behind_line ts = rw g (next (line_len ts)) in
        subst (Passes w n (t ∷ ts)) (sym behind) (record {
          ends = ap (λ d. ends_with d (ends_open w ts)) (no_line w t ts h) ∙ r.ends;
          unclosed = ap (λ d. unclosed_with d (ends_open w ts) t.place.at (first_unclosed w ts)) (no_line w t ts h) ∙ r.unclosed;
          orderly = r.orderly;
        })

-- a token that begins no line
pub passes_token : (w : Words) (n : ℕ) (t : Token) (ts : List Token) → is_hash t.kind ≡ false → Orderly false n (t ∷ ts) → Passes w n (t ∷ ts) ts
passes_token w n t ts h o =
    let above = o.above in
    let inner : tidy false (t ∷ ts) ≡ tidy false ts = rw h refl in
    record {
      ends = ap (λ d. ends_with d (ends_open w ts)) (no_line w t ts h);
      unclosed = ap (λ d. unclosed_with d (ends_open w ts) t.place.at (first_unclosed w ts)) (no_line w t ts h);
      orderly = record { tidy_is = sym inner ∙ o.tidy_is; above = lower n (t.place.at + 1) ts (omega (arith, above.0)) above.1 };
    }

-- a line with this directive
pub record PassesLine (w : Words) (t : Token) (ts : List Token) (d : Directive) : Type 0 where
  pub ends : ends_open w (t ∷ ts) ≡ ends_with d (ends_open w (behind_line ts))
  pub unclosed : first_unclosed w (t ∷ ts) ≡ unclosed_with d (ends_open w (behind_line ts)) t.place.at (first_unclosed w (behind_line ts))
  pub orderly : Orderly false (t.place.at + 1) (behind_line ts)

pub passes_hash : (w : Words) (n : ℕ) (t : Token) (ts : List Token) (d : Directive) (rest : List Token) → is_hash t.kind ≡ true → directive_at w ts ≡ (d, rest) → Orderly false n (t ∷ ts) → PassesLine w t ts d
passes_hash w n t ts d rest h line o =
    let inner : tidy false (t ∷ ts) ≡ tidy true ts = rw h refl in
    let p = passes_line w (t.place.at + 1) ts (record { tidy_is = sym inner ∙ o.tidy_is; above = o.above.1 }) in
    let is : line_of w (t ∷ ts) ≡ d = line_is w t ts h ∙ ap (λ (x : Directive × List Token). x.0) line in
    record {
      ends = ap (λ x. ends_with x (ends_open w ts)) is ∙ ap (ends_with d) p.ends;
      unclosed = ap (λ x. unclosed_with x (ends_open w ts) t.place.at (first_unclosed w ts)) is
          ∙ ap (λ k. unclosed_with d k t.place.at (first_unclosed w ts)) p.ends ∙ ap (unclosed_with d (ends_open w (behind_line ts)) t.place.at) p.unclosed;
      orderly = p.orderly;
    }
