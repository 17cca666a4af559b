-- The tokens that are scanned are the tokens of the text by the definition, and the other way round.
use Rattle.std.proofs.Common.{◌≡◌, ◌<◌, ◌≤◌, ℕ, zero, suc, ◌+◌, List, [], ◌∷◌, length, take, drop, Bool, true, false, cond, not, ◌&&◌, ◌==◌, option_map, Option, Some, None, Result, Ok, Err, IfOk, IfErr, refl, sym, ap, subst, ◌∙◌, arith}
use Rattle.std.proofs.lemmas.List.{length-drop}
use Rattle.std.proofs.lemmas.List.Sums.{prefix_len-le-length}
use Rattle.scc_base.specs.declared.code.Code.{Code}
use Rattle.scc_base.specs.declared.refusal.Place.{Place}
use Rattle.scc_tokens_lexer.specs.declared.piece.Line.{Line}
use Rattle.scc_tokens_lexer.specs.declared.piece.Line.TheVariants.{Start}
use Rattle.scc_tokens_lexer.specs.declared.piece.Form.{Form}
use Rattle.scc_tokens_lexer.specs.declared.piece.Form.TheVariants as form
use Rattle.scc_tokens_lexer.specs.declared.piece.Piece.{Piece}
use Rattle.scc_tokens_lexer.specs.declared.piece.Piece.TheVariants.{Taken, Fault}
use Rattle.scc_tokens_lexer.specs.declared.token.Token.{Token}
use Rattle.scc_base.specs.declared.refusal.Stop.{Stop}
use Rattle.scc_base.specs.declared.refusal.Stop.TheVariants.{Refused, NoMemory}
use Rattle.scc_tokens_lexer.specs.Answers.{SpellsOk, SpellsOne, IsScanned, IsStopFor}
use Rattle.scc_tokens_lexer.specs.Enclosed.{comment_end}
use Rattle.scc_tokens_lexer.specs.Lexes.{form_of, IsLongest, IsPiece, blank, start_ends, middle_ends, directive_ends, line_comment, block_comment, hash, token, IsFault, open_comment, open_text, long_name, bad_text, bad_byte, late_hash, second_hash, Lexes, end, piece, Faults, here, later, IsTokensOf, IsFaultOf}
use Rattle.scc_tokens_lexer.specs.Piece.{piece_at}
use Rattle.scc_tokens_lexer.specs.Scan.{Scanned, put_front, piece_tokens, scan_behind, scan}
use Rattle.scc_tokens_lexer.specs.Spelled.{Spelled}
use Rattle.scc_tokens_lexer.proofs.PieceLaws.{PieceIs, piece_is, piece_found, fault_found}
use Rattle.scc_tokens_lexer.proofs.Scanning.{behind_piece, behind_fault, behind_end}

-- what a scan says by the definition
abbrev pub ScanIs : ℕ → Line → ℕ → List ℕ → Scanned → Type 0
ScanIs file line at s (Ok ts) = Lexes file line at s ts
ScanIs file line at s (Err e) = Faults file line at s e.0 e.1

comment_end_within : (star : Bool) (bs : List ℕ) (n : ℕ) → comment_end star bs ≡ Some n → n ≤ length bs
comment_end_within star [] n e = cc
comment_end_within star (b ∷ bs) n e = by (star && b == 47) (comment_end (b == 42) bs) refl (λ m. comment_end_within (b == 42) bs m) e
  where
    by : (v : Bool) (o : Option ℕ) → comment_end (b == 42) bs ≡ o → ((m : ℕ) → comment_end (b == 42) bs ≡ Some m → m ≤ length bs)
        → cond v (Some 1) (option_map (λ m. m + 1) o) ≡ Some n → n ≤ length (b ∷ bs)
    by true o h rest e = let same : 1 ≡ n = cc in omega arith
    by false None h rest e = cc
    by false (Some m) h rest e = let same : m + 1 ≡ n = cc in omega (arith, rest m h)

record Within (s : List ℕ) (n : ℕ) : Type 0 where
  some : 0 < length s
  takes : 0 < n
  within : n ≤ length s

token_within : (s : List ℕ) (f : Form) (n : ℕ) → IsLongest s f n → Within s n
unfolding form_of
token_within s f zero l = let token = l.is_token in cc
token_within [] f (suc n) l = let short = l.within in absurd (omega arith)
token_within (b ∷ bs) f (suc n) l = record { some = omega arith; takes = omega arith; within = l.within }

piece_within : (line : Line) (s : List ℕ) (f : Option Form) (n : ℕ) (next : Line) → IsPiece line s f n next → Within s n
piece_within _ _ _ _ _ (blank e) = record { some = omega arith; takes = omega arith; within = omega arith }
piece_within _ _ _ _ _ start_ends = record { some = omega arith; takes = omega arith; within = omega arith }
piece_within _ _ _ _ _ middle_ends = record { some = omega arith; takes = omega arith; within = omega arith }
piece_within _ _ _ _ _ directive_ends = record { some = omega arith; takes = omega arith; within = omega arith }
piece_within _ _ _ _ _ (line_comment {line} {bs}) = record { some = omega arith; takes = omega arith; within = omega (arith, prefix_len-le-length (λ b. not (b == 10)) bs) }
piece_within _ _ _ _ _ (block_comment {line} {bs} {n} e) = record { some = omega arith; takes = omega arith; within = omega (arith, comment_end_within false bs n e) }
piece_within _ _ _ _ _ hash = record { some = omega arith; takes = omega arith; within = omega arith }
piece_within _ _ _ _ _ (token {text = s} {f} {n} h l t i) = token_within s f n l

-- the tokens that are scanned are the text's, and so is the fault
pub scan_is : (k : ℕ) (file : ℕ) (line : Line) (at : ℕ) (s : List ℕ) → length s ≤ k → ScanIs file line at s (scan_behind 0 file line at s)
scan_is k file line at [] h = subst (ScanIs file line at []) (sym (behind_end file line at [] refl)) end
scan_is zero file line at (b ∷ bs) h = absurd (omega arith)
scan_is (suc k) file line at (b ∷ bs) h = by (piece_at line (b ∷ bs)) refl (piece_is line (b ∷ bs) (omega arith)) (λ n next l. scan_is k file next (at + n) (drop n (b ∷ bs)) l)
  where
    by : (p : Piece) → piece_at line (b ∷ bs) ≡ p → PieceIs line (b ∷ bs) p
        → ((n : ℕ) (next : Line) → length (drop n (b ∷ bs)) ≤ k → ScanIs file next (at + n) (drop n (b ∷ bs)) (scan_behind 0 file next (at + n) (drop n (b ∷ bs))))
        → ScanIs file line at (b ∷ bs) (scan_behind 0 file line at (b ∷ bs))
    by (Fault c m) e q rest = subst (ScanIs file line at (b ∷ bs)) (sym (behind_fault file line at (b ∷ bs) c m (omega arith) e)) (here q)
    by (Taken f n next) e q rest =
        let w = piece_within line (b ∷ bs) f n next q in
        let takes : 0 < n = w.takes in
        subst (ScanIs file line at (b ∷ bs)) (sym (behind_piece file line at (b ∷ bs) f n next w.some w.takes w.within e))
        (on (scan_behind 0 file next (at + n) (drop n (b ∷ bs))) (rest n next (omega (arith, length-drop n (b ∷ bs)))))
      where
        on : (r : Scanned) → ScanIs file next (at + n) (drop n (b ∷ bs)) r → ScanIs file line at (b ∷ bs) (put_front (piece_tokens f (take n (b ∷ bs)) (record { file = file; at = at })) r)
        on (Ok ts) g = piece q g
        on (Err x) g = later q g

pub lexes_scanned : (file : ℕ) (line : Line) (at : ℕ) (s : List ℕ) (ts : List Spelled) → Lexes file line at s ts → scan_behind 0 file line at s ≡ Ok ts
lexes_scanned _ _ _ _ _ (end {file} {line} {at}) = behind_end file line at [] refl
lexes_scanned _ _ _ _ _ (piece {file} {line} {at} {text = s} {f} {n} {next} {ts} p l) =
    let w = piece_within line s f n next p in
    behind_piece file line at s f n next w.some w.takes w.within (piece_found line s f n next p)
    ∙ ap (put_front (piece_tokens f (take n s) (record { file = file; at = at }))) (lexes_scanned file next (at + n) (drop n s) ts l)

pub faults_scanned : (file : ℕ) (line : Line) (at : ℕ) (s : List ℕ) (c : Code) (place : Place) → Faults file line at s c place → scan_behind 0 file line at s ≡ Err (c, place)
faults_scanned _ _ _ _ _ _ (here {file} {line} {at} {text = s} {c} {k} p) = behind_fault file line at s c k (fault_some line s c k p) (fault_found line s c k p)
  where
    fault_some : (line : Line) (s : List ℕ) (c : Code) (k : ℕ) → IsFault line s c k → 0 < length s
    fault_some _ _ _ _ (open_comment e) = omega arith
    fault_some _ _ _ _ (open_text e l) = omega arith
    fault_some _ _ _ _ (long_name {text = t} {n} h l g) = (token_within t form.Ident n l).some
    fault_some _ _ _ _ (bad_text {text = t} {n} h l e) = (token_within t form.Text n l).some
    fault_some _ _ _ _ (bad_byte h e l) = omega arith
    fault_some _ _ _ _ late_hash = omega arith
    fault_some _ _ _ _ second_hash = omega arith
faults_scanned _ _ _ _ _ _ (later {file} {line} {at} {text = s} {f} {n} {next} {c} {place} p l) =
    let w = piece_within line s f n next p in
    behind_piece file line at s f n next w.some w.takes w.within (piece_found line s f n next p)
    ∙ ap (put_front (piece_tokens f (take n s) (record { file = file; at = at }))) (faults_scanned file next (at + n) (drop n s) c place l)

pub finds_tokens : (file : ℕ) (names : List (List ℕ)) (text : List ℕ) (ts : List Token) → SpellsOk names ts (scan file text) → SpellsOne names ts (IsTokensOf file text)
finds_tokens file names text ts s = record {
  done = s.done;
  spelled = s.spelled;
  holds = subst (ScanIs file Start 0 text) s.scanned_is (scan_is (length text) file Start 0 text (omega arith));
}

-- what the answer says by the definition
abbrev pub LexIs : ℕ → List ℕ → List (List ℕ) → Result (List Token) Stop → Type 0
LexIs file text names (Ok ts) = SpellsOne names ts (IsTokensOf file text)
LexIs file text names (Err e) = IsStopFor (IsFaultOf file text) e

pub lex_is : (file : ℕ) (names : List (List ℕ)) (text : List ℕ) (r : Result (List Token) Stop) → IsScanned names r (scan file text) → LexIs file text names r
lex_is file names text (Ok ts) s = finds_tokens file names text ts s
lex_is file names text (Err (Refused r)) s = (subst (ScanIs file Start 0 text) s.0 (scan_is (length text) file Start 0 text (omega arith)), s.1)
lex_is file names text (Err NoMemory) s = tt

pub lex_tokens : (file : ℕ) (names : List (List ℕ)) (text : List ℕ) (r : Result (List Token) Stop) → IsScanned names r (scan file text) → IfOk r (λ ts. SpellsOne names ts (IsTokensOf file text))
lex_tokens file names text (Ok ts) s = lex_is file names text (Ok ts) s
lex_tokens file names text (Err e) s = tt

pub lex_fault : (file : ℕ) (names : List (List ℕ)) (text : List ℕ) (r : Result (List Token) Stop) → IsScanned names r (scan file text) → IfErr r (IsStopFor (IsFaultOf file text))
lex_fault file names text (Ok ts) s = tt
lex_fault file names text (Err e) s = lex_is file names text (Err e) s
