-- What is found at the front of a text is a piece or a fault by the definition, and the other way round.
use Rattle.std.proofs.Common.{◌≡◌, ◌<◌, ◌≤◌, ℕ, zero, suc, List, [], ◌∷◌, length, take, drop, Bool, true, false, cond, not, ◌||◌, ◌&&◌, ◌==◌, nat_lt, Option, Some, None, option_map, refl, sym, ap, subst, ◌∙◌, eqb-true, arith}
use Rattle.std.proofs.lemmas.List.{length-take-le}
use Rattle.std.proofs.lemmas.Bool.Decides.{nat_tests}
use Rattle.scc_base.specs.declared.code.Code.{Code}
use Rattle.scc_base.specs.declared.code.Code.TheVariants as code
use Rattle.scc_tokens_lexer.specs.declared.piece.Line.{Line}
use Rattle.scc_tokens_lexer.specs.declared.piece.Line.TheVariants.{Start, Middle, Directive}
use Rattle.scc_tokens_lexer.specs.declared.piece.Form.{Form}
use Rattle.scc_tokens_lexer.specs.declared.piece.Form.TheVariants as form
use Rattle.scc_tokens_lexer.specs.declared.piece.Piece.{Piece}
use Rattle.scc_tokens_lexer.specs.declared.piece.Piece.TheVariants.{Taken, Fault}
use Rattle.scc_tokens_lexer.specs.Bytes.{is_blank}
use Rattle.scc_tokens_lexer.specs.Enclosed.{comment_end}
use Rattle.scc_tokens_lexer.specs.Lexes.{form_of, IsLongest, BeginsNone, begins_token, IsPiece, blank, start_ends, middle_ends, directive_ends, line_comment, block_comment, hash, token, IsFault, open_comment, open_text, long_name, bad_text, bad_byte, late_hash, second_hash}
use Rattle.scc_tokens_lexer.specs.Piece.{first_is, line_end, hash_piece, comment_piece, comment_piece_by, line_len, unprintable, flaw_of, sound_token, token_piece, token_piece_by, piece_at, front_token}
use Rattle.scc_tokens_lexer.proofs.Longest.{FrontIs, front_is, front_longest, front_nothing, lt-true}

abbrev pub PieceIs : Line → List ℕ → Piece → Type 0
PieceIs line s (Taken f n next) = IsPiece line s f n next
PieceIs line s (Fault c k) = IsFault line s c k

line_end_is : (line : Line) (bs : List ℕ) → PieceIs line (10 ∷ bs) (line_end line)
line_end_is Start bs = start_ends
line_end_is Middle bs = middle_ends
line_end_is Directive bs = directive_ends

hash_is : (line : Line) (bs : List ℕ) → PieceIs line (35 ∷ bs) (hash_piece line)
hash_is Start bs = hash
hash_is Middle bs = late_hash
hash_is Directive bs = second_hash

comment_is : (line : Line) (bs : List ℕ) (o : Option ℕ) → comment_end false bs ≡ o → PieceIs line (47 ∷ 42 ∷ bs) (comment_piece_by line o)
comment_is line bs None e = open_comment e
comment_is line bs (Some n) e = block_comment e

name_is : (line : Line) (s : List ℕ) (n : ℕ) → begins_token s ≡ true → IsLongest s form.Ident n
    → PieceIs line s (sound_token line form.Ident n (flaw_of form.Ident (take n s)))
name_is line s n h l = by (nat_lt 255 (length (take n s))) refl
  where
    by : (v : Bool) → nat_lt 255 (length (take n s)) ≡ v → PieceIs line s (sound_token line form.Ident n (cond v (Some (code.BadLiteral, 0)) None))
    by true e = long_name h l (omega (arith, lt-true 255 (length (take n s)) e, length-take-le n s l.within))
    by false e = token h l (λ f. cc) (λ f. omega (arith, ge-from 255 (length (take n s)) e, length-take-le n s l.within))
      where
        ge-from : (a b : ℕ) → nat_lt a b ≡ false → b ≤ a
        ge-from a b e = grind (arith, nat_tests)

text_is : (line : Line) (s : List ℕ) (n : ℕ) → begins_token s ≡ true → IsLongest s form.Text n
    → PieceIs line s (sound_token line form.Text n (flaw_of form.Text (take n s)))
text_is line s n h l = by (unprintable (take n s)) refl
  where
    by : (o : Option ℕ) → unprintable (take n s) ≡ o → PieceIs line s (sound_token line form.Text n (option_map {U = Code × ℕ} (λ i. (code.BadByte, i)) o))
    by None e = token h l (λ f. e) (λ f. cc)
    by (Some k) e = bad_text h l e

sound_is : (line : Line) (s : List ℕ) (f : Form) (n : ℕ) → begins_token s ≡ true → IsLongest s f n → PieceIs line s (sound_token line f n (flaw_of f (take n s)))
sound_is line s form.Text n h l = text_is line s n h l
sound_is line s form.Ident n h l = name_is line s n h l
sound_is line s (form.Word i) n h l = token h l (λ e. cc) (λ e. cc)
sound_is line s (form.Mark i) n h l = token h l (λ e. cc) (λ e. cc)
sound_is line s (form.Number k w) n h l = token h l (λ e. cc) (λ e. cc)
sound_is line s form.BadNumber n h l = token h l (λ e. cc) (λ e. cc)
sound_is line s form.Character n h l = token h l (λ e. cc) (λ e. cc)
sound_is line s form.Outside n h l = token h l (λ e. cc) (λ e. cc)
sound_is line s form.LineHash n h l = token h l (λ e. cc) (λ e. cc)
sound_is line s form.LineEnd n h l = token h l (λ e. cc) (λ e. cc)

token_is : (line : Line) (b : ℕ) (bs : List ℕ) → begins_token (b ∷ bs) ≡ true → PieceIs line (b ∷ bs) (token_piece line (b ∷ bs))
unfolding token_piece
token_is line b bs h = by (front_token (b ∷ bs)) (front_is (b ∷ bs))
  where
    open_is : BeginsNone (b ∷ bs) → (v : Bool) → (b == 34 || b == 39) ≡ v → PieceIs line (b ∷ bs) (cond v (Fault code.BadLiteral 0) (Fault code.BadByte 0))
    open_is l true e = open_text e l
    open_is l false e = bad_byte h e l

    by : (o : Option (Form × ℕ)) → FrontIs (b ∷ bs) o → PieceIs line (b ∷ bs) (token_piece_by line (b ∷ bs) o)
    by None l = open_is l (b == 34 || b == 39) refl
    by (Some x) l = sound_is line (b ∷ bs) x.0 x.1 h l

slash_is : (line : Line) (b : ℕ) (bs : List ℕ) → b ≡ 47 → first_is 47 bs ≡ true → PieceIs line (b ∷ bs) (Taken None (line_len (b ∷ bs)) line)
slash_is line b [] e f = cc
slash_is line b (c ∷ cs) e f = subst (λ x. PieceIs line (x ∷ c ∷ cs) (Taken None (line_len (x ∷ c ∷ cs)) line)) (sym e)
    (subst (λ x. PieceIs line (47 ∷ x ∷ cs) (Taken None (line_len (47 ∷ x ∷ cs)) line)) (sym (eqb-true c 47 f)) line_comment)

star_is : (line : Line) (b : ℕ) (bs : List ℕ) → b ≡ 47 → first_is 42 bs ≡ true → PieceIs line (b ∷ bs) (comment_piece line (drop 2 (b ∷ bs)))
star_is line b [] e f = cc
star_is line b (c ∷ cs) e f = subst (λ x. PieceIs line (x ∷ c ∷ cs) (comment_piece line cs)) (sym e)
    (subst (λ x. PieceIs line (47 ∷ x ∷ cs) (comment_piece line cs)) (sym (eqb-true c 42 f)) (comment_is line cs (comment_end false cs) refl))

-- what is found is a piece or a fault
pub piece_is : (line : Line) (s : List ℕ) → 0 < length s → PieceIs line s (piece_at line s)
unfolding piece_at
piece_is line [] h = absurd (omega arith)
piece_is line (b ∷ bs) h = by (b == 10) (is_blank b) (b == 47) (first_is 47 bs) (first_is 42 bs) (b == 35) refl refl refl refl refl refl
  where
    by : (l v s c d g : Bool) → (b == 10) ≡ l → is_blank b ≡ v → (b == 47) ≡ s → first_is 47 bs ≡ c → first_is 42 bs ≡ d → (b == 35) ≡ g
        → PieceIs line (b ∷ bs) (cond l (line_end line) (cond v (Taken None 1 line) (cond (s && c) (Taken None (line_len (b ∷ bs)) line) (cond (s && d) (comment_piece line (drop 2 (b ∷ bs))) (cond g (hash_piece line) (token_piece line (b ∷ bs)))))))
    by true v s c d g el ev es ec ed eg = subst (λ x. PieceIs line (x ∷ bs) (line_end line)) (sym (eqb-true b 10 el)) (line_end_is line bs)
    by false true s c d g el ev es ec ed eg = blank ev
    by false false true true d g el ev es ec ed eg = slash_is line b bs (eqb-true b 47 es) ec
    by false false true false true g el ev es ec ed eg = star_is line b bs (eqb-true b 47 es) ed
    by false false true false false true el ev es ec ed eg = subst (λ x. PieceIs line (x ∷ bs) (hash_piece line)) (sym (eqb-true b 35 eg)) (hash_is line bs)
    by false false true false false false el ev es ec ed eg = token_is line b bs (simp (el, ev, es, ec, ed, eg))
    by false false false c d true el ev es ec ed eg = subst (λ x. PieceIs line (x ∷ bs) (hash_piece line)) (sym (eqb-true b 35 eg)) (hash_is line bs)
    by false false false c d false el ev es ec ed eg = token_is line b bs (simp (el, ev, es, eg))

blank_alone : (b : ℕ) → is_blank b ≡ true → (b == 10) ≡ false
blank_alone b h = grind (arith, nat_tests)

piece_token : (line : Line) (b : ℕ) (bs : List ℕ) → begins_token (b ∷ bs) ≡ true → piece_at line (b ∷ bs) ≡ token_piece line (b ∷ bs)
unfolding piece_at
piece_token line b bs h = by (b == 10) (is_blank b) (b == 47) (first_is 47 bs) (first_is 42 bs) (b == 35) h
  where
    by : (l v s c d g : Bool) → not (l || v || (s && (c || d)) || g) ≡ true
        → cond l (line_end line) (cond v (Taken None 1 line) (cond (s && c) (Taken None (line_len (b ∷ bs)) line) (cond (s && d) (comment_piece line (drop 2 (b ∷ bs))) (cond g (hash_piece line) (token_piece line (b ∷ bs))))))
        ≡ token_piece line (b ∷ bs)
    by true v s c d g e = cc
    by false true s c d g e = cc
    by false false true true d g e = cc
    by false false true false true g e = cc
    by false false true false false true e = cc
    by false false true false false false e = refl
    by false false false c d true e = cc
    by false false false c d false e = refl

nothing_is_none : (n : ℕ) (f : Form) → form_of (take n []) ≡ Some f → ⊥
unfolding form_of
nothing_is_none zero f e = cc
nothing_is_none (suc n) f e = cc

-- a longest token at the front is taken, or has this flaw
piece_longest : (line : Line) (s : List ℕ) (f : Form) (n : ℕ) → begins_token s ≡ true → IsLongest s f n → piece_at line s ≡ sound_token line f n (flaw_of f (take n s))
unfolding token_piece
piece_longest line [] f n h l = absurd (nothing_is_none n f l.is_token)
piece_longest line (b ∷ bs) f n h l = piece_token line b bs h ∙ ap (token_piece_by line (b ∷ bs)) (front_longest (b ∷ bs) f n l)

no_flaw : (f : Form) (w : List ℕ) → (f ≡ form.Text → unprintable w ≡ None) → (f ≡ form.Ident → length w ≤ 255) → flaw_of f w ≡ None
no_flaw form.Text w t i = ap (option_map {U = Code × ℕ} (λ k. (code.BadByte, k))) (t refl)
no_flaw form.Ident w t i = short (length w) (i refl)
  where
    long : Option (Code × ℕ)
    long = Some (code.BadLiteral, 0)

    short : (k : ℕ) → k ≤ 255 → cond (nat_lt 255 k) long None ≡ None
    short k h = by (nat_lt 255 k) refl
      where
        by : (v : Bool) → nat_lt 255 k ≡ v → cond v long None ≡ None
        by false e = refl
        by true e = absurd (omega (arith, lt-true 255 k e))
no_flaw (form.Word j) w t i = refl
no_flaw (form.Mark j) w t i = refl
no_flaw (form.Number k x) w t i = refl
no_flaw form.BadNumber w t i = refl
no_flaw form.Character w t i = refl
no_flaw form.Outside w t i = refl
no_flaw form.LineHash w t i = refl
no_flaw form.LineEnd w t i = refl

-- a piece is what is found
pub piece_found : (line : Line) (s : List ℕ) (f : Option Form) (n : ℕ) (next : Line) → IsPiece line s f n next → piece_at line s ≡ Taken f n next
unfolding piece_at
piece_found _ _ _ _ _ (blank {line} {b} {bs} e) = simp (blank_alone b e, e)
piece_found _ _ _ _ _ start_ends = refl
piece_found _ _ _ _ _ middle_ends = refl
piece_found _ _ _ _ _ directive_ends = refl
piece_found _ _ _ _ _ line_comment = refl
piece_found _ _ _ _ _ (block_comment {line} {bs} {n} e) = ap (comment_piece_by line) e
piece_found _ _ _ _ _ hash = refl
piece_found _ _ _ _ _ (token {line} {text = s} {f} {n} h l t i) =
    piece_longest line s f n h l ∙ ap (sound_token line f n) (no_flaw f (take n s) t (λ e. omega (arith, i e, length-take-le n s l.within)))

-- a fault is what is found
pub fault_found : (line : Line) (s : List ℕ) (c : Code) (k : ℕ) → IsFault line s c k → piece_at line s ≡ Fault c k
unfolding piece_at token_piece
fault_found _ _ _ _ (open_comment {line} e) = ap (comment_piece_by line) e
fault_found _ _ _ _ (open_text {line} {b} {bs} e l) = by (b == 34) (b == 39) refl refl e
  where
    by : (q a : Bool) → (b == 34) ≡ q → (b == 39) ≡ a → (q || a) ≡ true → piece_at line (b ∷ bs) ≡ Fault code.BadLiteral 0
    by true a eq ea h = let same : b ≡ 34 = eqb-true b 34 eq in
        subst (λ x. BeginsNone (x ∷ bs) → piece_at line (x ∷ bs) ≡ Fault code.BadLiteral 0) (sym same) (λ m. ap (token_piece_by line (34 ∷ bs)) (front_nothing (34 ∷ bs) m)) l
    by false true eq ea h = let same : b ≡ 39 = eqb-true b 39 ea in
        subst (λ x. BeginsNone (x ∷ bs) → piece_at line (x ∷ bs) ≡ Fault code.BadLiteral 0) (sym same) (λ m. ap (token_piece_by line (39 ∷ bs)) (front_nothing (39 ∷ bs) m)) l
    by false false eq ea h = cc
fault_found _ _ _ _ (long_name {line} {text = s} {n} h l g) =
    piece_longest line s form.Ident n h l ∙ ap (λ v. sound_token line form.Ident n (cond v (Some (code.BadLiteral, 0)) None)) (lt-from 255 (length (take n s)) (omega (arith, length-take-le n s l.within)))
  where
    lt-from : (a b : ℕ) → a < b → nat_lt a b ≡ true
    lt-from a b h = grind (arith, nat_tests)
fault_found _ _ _ _ (bad_text {line} {text = s} {n} {k} h l e) =
    piece_longest line s form.Text n h l ∙ ap (λ o. sound_token line form.Text n (option_map {U = Code × ℕ} (λ i. (code.BadByte, i)) o)) e
fault_found _ _ _ _ (bad_byte {line} {b} {bs} h e l) =
    piece_token line b bs h ∙ ap (token_piece_by line (b ∷ bs)) (front_nothing (b ∷ bs) l) ∙ ap (λ v. cond v (Fault code.BadLiteral 0) (Fault code.BadByte 0)) e
fault_found _ _ _ _ late_hash = refl
fault_found _ _ _ _ second_hash = refl
