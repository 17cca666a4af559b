-- The tokens of a text, piece by piece.
use Rattle.std.proofs.Common.{◌≡◌, ◌<◌, ◌≤◌, ℕ, zero, suc, ◌+◌, ◌-◌, List, [], ◌∷◌, ◌++◌, length, take, drop, true, false, ◌==◌, Option, Some, Ok, Err, refl, sym, ap, subst, ◌∙◌, append_assoc, append-nil, eqb-true, arith}
use Rattle.std.proofs.lemmas.List.{take_rest, length-drop}
use Rattle.scc_base.specs.Names.{Keeps}
use Rattle.scc_base.specs.declared.code.Code.{Code}
use Rattle.scc_base.specs.declared.refusal.Place.{Place}
use Rattle.scc_tokens_lexer.specs.declared.piece.Line.{Line}
use Rattle.scc_tokens_lexer.specs.declared.piece.Line.TheVariants.{Start}
use Rattle.scc_tokens_lexer.specs.declared.piece.Form.{Form}
use Rattle.scc_tokens_lexer.specs.declared.piece.Piece.TheVariants.{Taken, Fault}
use Rattle.scc_tokens_lexer.specs.declared.token.Token.{Token}
use Rattle.scc_tokens_lexer.specs.Answers.{SpellsOk}
use Rattle.scc_tokens_lexer.specs.Numbering.{with_piece, names_on, names_behind, names_after}
use Rattle.scc_tokens_lexer.specs.Piece.{piece_at}
use Rattle.scc_tokens_lexer.specs.Scan.{Scanned, put_front, piece_tokens, end_tokens, go_on, scan_behind, scan}
use Rattle.scc_tokens_lexer.specs.Spelled.{Spelled, spelled_all}

pub keeps_same : (a : List (List ℕ)) → Keeps a a
keeps_same a = ([], sym (append-nil a))

pub keeps_more : (a b c : List (List ℕ)) → Keeps a b → Keeps b c → Keeps a c
keeps_more a b c p q = (p.0 ++ q.0, q.1 ∙ ap (λ l. l ++ q.0) p.1 ∙ append_assoc a p.0 q.0)

pub put_front-append : (a b : List Spelled) (s : Scanned) → put_front (a ++ b) s ≡ put_front a (put_front b s)
put_front-append a b (Ok ts) = ap Ok (append_assoc a b ts)
put_front-append a b (Err e) = refl

pub behind_drop : (n file : ℕ) (line : Line) (at : ℕ) (s : List ℕ) → n ≤ length s → scan_behind n file line at s ≡ scan_behind 0 file line (at + n) (drop n s)
unfolding scan_behind
behind_drop zero file line at s h = ap (λ k. scan_behind 0 file line k s) (omega arith)
behind_drop (suc n) file line at [] h = absurd (omega arith)
behind_drop (suc n) file line at (b ∷ bs) h = behind_drop n file line (at + 1) bs (omega arith) ∙ ap (λ k. scan_behind 0 file line k (drop n bs)) (omega arith)

pub behind_piece : (file : ℕ) (line : Line) (at : ℕ) (s : List ℕ) (f : Option Form) (n : ℕ) (next : Line) → 0 < length s → 0 < n → n ≤ length s → piece_at line s ≡ Taken f n next
    → scan_behind 0 file line at s ≡ put_front (piece_tokens f (take n s) (record { file = file; at = at })) (scan_behind 0 file next (at + n) (drop n s))
unfolding scan_behind
behind_piece file line at [] f n next h p q e = absurd (omega arith)
behind_piece file line at (b ∷ bs) f zero next h p q e = absurd (omega arith)
behind_piece file line at (b ∷ bs) f (suc n) next h p q e =
    let less : suc n - 1 ≡ n = omega arith in
    let place : Place = record { file = file; at = at } in
    ap (λ x. go_on file at (b ∷ bs) x (λ k l. scan_behind k file l (at + 1) bs)) e
    ∙ ap (put_front (piece_tokens f (take (suc n) (b ∷ bs)) place))
    (ap (λ k. scan_behind k file next (at + 1) bs) less ∙ behind_drop n file next (at + 1) bs (omega arith) ∙ ap (λ k. scan_behind 0 file next k (drop n bs)) (omega arith))

pub behind_fault : (file : ℕ) (line : Line) (at : ℕ) (s : List ℕ) (c : Code) (k : ℕ) → 0 < length s → piece_at line s ≡ Fault c k
    → scan_behind 0 file line at s ≡ Err (c, record { file = file; at = at + k })
unfolding scan_behind
behind_fault file line at [] c k h e = absurd (omega arith)
behind_fault file line at (b ∷ bs) c k h e = ap (λ x. go_on file at (b ∷ bs) x (λ n l. scan_behind n file l (at + 1) bs)) e

pub behind_end : (file : ℕ) (line : Line) (at : ℕ) (s : List ℕ) → length s ≡ 0 → scan_behind 0 file line at s ≡ Ok (end_tokens line (record { file = file; at = at }))
unfolding scan_behind
behind_end file line at [] h = refl
behind_end file line at (b ∷ bs) h = absurd (omega arith)

pub names_drop : (names : List (List ℕ)) (n : ℕ) (line : Line) (s : List ℕ) → n ≤ length s → names_behind names n line s ≡ names_behind names 0 line (drop n s)
unfolding names_behind
names_drop names zero line s h = refl
names_drop names (suc n) line [] h = absurd (omega arith)
names_drop names (suc n) line (b ∷ bs) h = names_drop names n line bs (omega arith)

pub names_piece : (names : List (List ℕ)) (line : Line) (s : List ℕ) (f : Option Form) (n : ℕ) (next : Line) → 0 < length s → 0 < n → n ≤ length s → piece_at line s ≡ Taken f n next
    → names_behind names 0 line s ≡ names_behind (with_piece names f (take n s)) 0 next (drop n s)
unfolding names_behind
names_piece names line [] f n next h p q e = absurd (omega arith)
names_piece names line (b ∷ bs) f zero next h p q e = absurd (omega arith)
names_piece names line (b ∷ bs) f (suc n) next h p q e =
    let less : suc n - 1 ≡ n = omega arith in
    ap (λ x. names_on names (b ∷ bs) x (λ ns k l. names_behind ns k l bs)) e
    ∙ ap (λ k. names_behind (with_piece names f (take (suc n) (b ∷ bs))) k next bs) less ∙ names_drop (with_piece names f (take (suc n) (b ∷ bs))) n next bs (omega arith)

pub names_fault : (names : List (List ℕ)) (line : Line) (s : List ℕ) (c : Code) (k : ℕ) → 0 < length s → piece_at line s ≡ Fault c k → names_behind names 0 line s ≡ names
unfolding names_behind
names_fault names line [] c k h e = absurd (omega arith)
names_fault names line (b ∷ bs) c k h e = ap (λ x. names_on names (b ∷ bs) x (λ ns n l. names_behind ns n l bs)) e

pub names_end : (names : List (List ℕ)) (line : Line) (s : List ℕ) → length s ≡ 0 → names_behind names 0 line s ≡ names
unfolding names_behind
names_end names line [] h = refl
names_end names line (b ∷ bs) h = absurd (omega arith)

-- the tokens so far, and what is left of the text
pub record Scans (file : ℕ) (text : List ℕ) (old names : List (List ℕ)) (tokens : List Token) (line : Line) (rest : List ℕ) : Type 0 where
  pub done : List Spelled
  pub shown : spelled_all names tokens ≡ Some done
  pub left : put_front done (scan_behind 0 file line (length text - length rest) rest) ≡ scan file text
  pub named : names_behind names 0 line rest ≡ names_after old text
  pub keeps : Keeps old names
  pub room : length names + length rest ≤ length old + length text
  pub within : length rest ≤ length text

pub scans_begin : (file : ℕ) (text : List ℕ) (old : List (List ℕ)) (tokens : List Token) → tokens ≡ [] → Scans file text old old tokens Start text
scans_begin file text old tokens e = record {
  done = [];
  shown = ap (spelled_all old) e;
  left = first (scan_behind 0 file Start (length text - length text) text) ∙ ap (λ k. scan_behind 0 file Start k text) (omega arith);
  named = refl;
  keeps = keeps_same old;
  room = omega arith;
  within = omega arith;
}
  where
    first : (s : Scanned) → put_front [] s ≡ s
    first (Ok ts) = refl
    first (Err x) = refl

pub scans_more : {file : ℕ} {text : List ℕ} {old names : List (List ℕ)} {tokens : List Token} {line : Line} {rest : List ℕ}
    → Scans file text old names tokens line rest → (f : Option Form) (n : ℕ) (next : Line) → 0 < length rest → 0 < n → n ≤ length rest → piece_at line rest ≡ Taken f n next
    → (names' : List (List ℕ)) (tokens' : List Token)
    → ((done : List Spelled) → spelled_all names tokens ≡ Some done → spelled_all names' tokens' ≡ Some (done ++ piece_tokens f (take n rest) (record { file = file; at = length text - length rest })))
    → names' ≡ with_piece names f (take n rest) → Keeps names names' → length names' ≤ length names + 1
    → Scans file text old names' tokens' next (take (length rest - n) (drop n rest))
scans_more {file} {text} {old} {names} {tokens} {line} {rest} s f n next h p q e names' tokens' shown named keeps few =
    let place : Place = record { file = file; at = length text - length rest } in
    let piece = piece_tokens f (take n rest) place in
    let short = length-drop n rest in
    let within = s.within in
    subst (λ r. Scans file text old names' tokens' next r) (sym (take_rest rest n)) (record {
      done = s.done ++ piece;
      shown = shown s.done s.shown;
      left = put_front-append s.done piece (scan_behind 0 file next (length text - length (drop n rest)) (drop n rest))
          ∙ ap (put_front s.done) (ap (λ k. put_front piece (scan_behind 0 file next k (drop n rest))) (omega arith) ∙ sym (behind_piece file line (length text - length rest) rest f n next h p q e))
          ∙ s.left;
      named = ap (λ ns. names_behind ns 0 next (drop n rest)) named ∙ sym (names_piece names line rest f n next h p q e) ∙ s.named;
      keeps = keeps_more old names names' s.keeps keeps;
      room = omega (arith, s.room);
      within = omega arith;
    })

pub positive : (n : ℕ) → (n == 0) ≡ false → 0 < n
positive zero e = cc
positive (suc n) e = omega arith

-- all of the text is read
pub scans_end : {file : ℕ} {text : List ℕ} {old names : List (List ℕ)} {tokens : List Token} {line : Line} {rest : List ℕ}
    → Scans file text old names tokens line rest → length rest ≡ 0 → (tokens' : List Token)
    → ((names : List (List ℕ)) (done : List Spelled) → spelled_all names tokens ≡ Some done → spelled_all names tokens' ≡ Some (done ++ end_tokens line (record { file = file; at = length text })))
    → SpellsOk names tokens' (scan file text)
scans_end {file} {text} {old} {names} {tokens} {line} {rest} s e tokens' put = record {
  done = s.done ++ end_tokens line (record { file = file; at = length text });
  spelled = put names s.done s.shown;
  scanned_is = sym s.left ∙ ap (put_front s.done) (behind_end file line (length text - length rest) rest e ∙ ap (λ k. Ok (end_tokens line (record { file = file; at = k }))) (omega arith));
}

pub nothing : (n : ℕ) → (n == 0) ≡ true → n ≡ 0
nothing n e = eqb-true n 0 e
