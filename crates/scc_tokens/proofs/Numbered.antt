-- Tokens are what their spelled forms give with the numbers of their names.
use Rattle.std.proofs.Common.{◌≡◌, ◌<◌, ℕ, zero, suc, ◌+◌, List, [], ◌∷◌, ◌++◌, map, length, take, Bool, true, false, cond, not, nat_lt, Option, Some, None, option_map, Ok, Err, slice_get, bytes_eq, refl, sym, ap, subst, ◌∙◌, arith}
use Rattle.std.specs.List.{prefix_len}
use Rattle.std.proofs.lemmas.Slice.Eq.{bytes_eq-Decides}
use Rattle.scc_base.specs.Names.{Keeps, AllDiffer}
use Rattle.scc_base.specs.Outside.{Shelf, HoldsFirst, Told}
use Rattle.std.proofs.lemmas.Bool.Decides.{nat_tests}
use Rattle.scc_base.specs.declared.code.Code.TheVariants as code
use Rattle.scc_tokens_lexer.specs.Answers.{SpellsOk}
use Rattle.scc_tokens.specs.Files.{number_in, kind_in, token_in, HoldsAll, first_part, ToldAll, file_by, file_with, file_of}
use Rattle.scc_tokens_lexer.specs.Scan.{scan}
use Rattle.scc_tokens_lexer.specs.Spelled.{Spelled, spelled, spelled_kind, spelled_all}
use Rattle.scc_tokens_directives.specs.declared.directive.Words.{Words}
use Rattle.scc_tokens_directives.specs.declared.file.Source.{Source}
use Rattle.scc_tokens_lexer.specs.declared.piece.Form.{Form}
use Rattle.scc_tokens_lexer.specs.declared.piece.Form.TheVariants as form
use Rattle.scc_tokens_lexer.specs.declared.token.Token.{Token}
use Rattle.scc_tokens_lexer.specs.declared.token.TokenKind.{TokenKind}
use Rattle.scc_tokens_lexer.specs.declared.token.TokenKind.TheVariants as kind
use Rattle.scc_tokens_lexer.proofs.Spelling.{front_of, get_keeps}

first_place : (ns : List (List ℕ)) (t : List ℕ) (i : ℕ) → slice_get ns i ≡ Some t → ((j : ℕ) → slice_get ns j ≡ Some t → j ≡ i) → prefix_len (λ x. not (bytes_eq t x)) ns ≡ i
first_place [] t i e only = cc
first_place (x ∷ xs) t zero e only =
    let same : x ≡ t = cc in ap (λ b. cond (not b) (1 + prefix_len (λ y. not (bytes_eq t y)) xs) 0) ((bytes_eq-Decides t x).1 (sym same))
first_place (x ∷ xs) t (suc i) e only = by (bytes_eq t x) refl (first_place xs t i e (λ j h. let s = only (suc j) h in omega arith))
  where
    by : (b : Bool) → bytes_eq t x ≡ b → prefix_len (λ y. not (bytes_eq t y)) xs ≡ i → cond (not b) (1 + prefix_len (λ y. not (bytes_eq t y)) xs) 0 ≡ suc i
    by false h k = omega arith
    by true h k =
        let same : x ≡ t = sym ((bytes_eq-Decides t x).0 h) in
        let s = only zero (ap Some same) in absurd (omega arith)

pub number_is : (ns : List (List ℕ)) (t : List ℕ) (i : ℕ) → AllDiffer ns → slice_get ns i ≡ Some t → number_in ns t ≡ i
number_is ns t i d e = first_place ns t i e (λ j h. d j i t h e)

-- what is spelled so is of this kind
along : (n : List (List ℕ)) (k : TokenKind) (x y : Form × List ℕ) → Some y ≡ Some x → kind_in n y.1 y.0 ≡ k → kind_in n x.1 x.0 ≡ k
along n k x y e h = let same : y ≡ x = cc in subst (λ (z : Form × List ℕ). kind_in n z.1 z.0 ≡ k) same h

kind_is : (names n : List (List ℕ)) → Keeps names n → AllDiffer n → (k : TokenKind) (x : Form × List ℕ) → spelled_kind names k ≡ Some x → kind_in n x.1 x.0 ≡ k
kind_is names n h d (kind.Ident m) x e = by (slice_get names m.0) refl e
  where
    by : (o : Option (List ℕ)) → slice_get names m.0 ≡ o → option_map {U = Form × List ℕ} (λ t. (form.Ident, t)) o ≡ Some x → kind_in n x.1 x.0 ≡ kind.Ident m
    by None g f = cc
    by (Some t) g f = along n (kind.Ident m) x (form.Ident, t) f (ap (λ i. kind.Ident (record { 0 = i })) (number_is n t m.0 d (get_keeps names n m.0 t h g)))
kind_is names n h d (kind.Outside m) x e = by (slice_get names m.0) refl e
  where
    by : (o : Option (List ℕ)) → slice_get names m.0 ≡ o → option_map {U = Form × List ℕ} (λ t. (form.Outside, t)) o ≡ Some x → kind_in n x.1 x.0 ≡ kind.Outside m
    by None g f = cc
    by (Some t) g f = along n (kind.Outside m) x (form.Outside, t) f (ap (λ i. kind.Outside (record { 0 = i })) (number_is n t m.0 d (get_keeps names n m.0 t h g)))
kind_is names n h d (kind.Word i) x e = along n (kind.Word i) x (form.Word i, []) e refl
kind_is names n h d (kind.Mark i) x e = along n (kind.Mark i) x (form.Mark i, []) e refl
kind_is names n h d (kind.Number k w) x e = along n (kind.Number k w) x (form.Number k w, []) e refl
kind_is names n h d kind.BadNumber x e = along n kind.BadNumber x (form.BadNumber, []) e refl
kind_is names n h d kind.Text x e = along n kind.Text x (form.Text, []) e refl
kind_is names n h d kind.Character x e = along n kind.Character x (form.Character, []) e refl
kind_is names n h d kind.LineHash x e = along n kind.LineHash x (form.LineHash, []) e refl
kind_is names n h d kind.LineEnd x e = along n kind.LineEnd x (form.LineEnd, []) e refl

token_is : (names n : List (List ℕ)) → Keeps names n → AllDiffer n → (t : Token) (s : Spelled) → spelled names t ≡ Some s → token_in n s ≡ t
token_is names n h d t s e = by (spelled_kind names t.kind) refl e
  where
    by : (o : Option (Form × List ℕ)) → spelled_kind names t.kind ≡ o → option_map {U = Spelled} (λ x. record { form = x.0; text = x.1; place = t.place; len = t.len }) o ≡ Some s → token_in n s ≡ t
    by None g f = cc
    by (Some x) g f =
        let y : Spelled = record { form = x.0; text = x.1; place = t.place; len = t.len } in
        let same : y ≡ s = cc in
        subst (λ z. token_in n z ≡ t) same (ap (λ (k : TokenKind). record { kind = k; place = t.place; len = t.len }) (kind_is names n h d t.kind x g))

pub tokens_are : (names n : List (List ℕ)) → Keeps names n → AllDiffer n → (ts : List Token) (done : List Spelled) → spelled_all names ts ≡ Some done → map (token_in n) done ≡ ts
tokens_are names n h d [] done e = let none : [] ≡ done = cc in ap (map (token_in n)) (sym none)
tokens_are names n h d (t ∷ ts) done e =
    let f = front_of names t ts done e in
    ap (map (token_in n)) f.done_is ∙ ap (λ x. x ∷ map (token_in n) f.tail) (token_is names n h d t f.head f.head_is) ∙ ap (λ l. t ∷ l) (tokens_are names n h d ts f.tail f.tail_is)

pub file_is : (names n : List (List ℕ)) (w : Words) (number : ℕ) (bytes : List ℕ) (ts : List Token) (u : Option ℕ) → length bytes < 1048577 → SpellsOk names ts (scan number bytes)
    → u ≡ (file_with w ts).unclosed → Keeps names n → AllDiffer n → file_of n w number bytes ≡ Ok (record { tokens = ts; unclosed = u })
file_is names n w number bytes ts u short s e h d =
    ap (λ b. cond b (Err (code.FileTooLong, record { file = number; at = 0 })) (file_by n w (scan number bytes))) (not_less (length bytes) short)
    ∙ ap (file_by n w) s.scanned_is ∙ ap (λ l. Ok (file_with w l)) (tokens_are names n h d ts s.done s.spelled) ∙ ap (λ v. Ok (record { tokens = ts; unclosed = v })) (sym e)
  where
    not_less : (k : ℕ) → k < 1048577 → nat_lt 1048576 k ≡ false
    not_less k l = grind (arith, nat_tests)

pub holds_more : (shelf : Shelf) (ss : List Source) (s : Source) → HoldsAll shelf ss → shelf s.name ≡ Some s.bytes → HoldsAll shelf (ss ++ s ∷ [])
holds_more shelf [] s h e = (e, tt)
holds_more shelf (x ∷ xs) s h e = (h.0, holds_more shelf xs s h.1 e)

pub holds_less : (shelf : Shelf) (ss : List Source) (s : Source) → HoldsAll shelf (ss ++ s ∷ []) → HoldsAll shelf ss × (shelf s.name ≡ Some s.bytes)
holds_less shelf [] s h = (tt, h.0)
holds_less shelf (x ∷ xs) s h = let rest = holds_less shelf xs s h.1 in ((h.0, rest.0), rest.1)

pub part_is : (shelf : Shelf) (name bytes : List ℕ) → HoldsFirst shelf name 1048577 bytes → first_part shelf name ≡ Some bytes
part_is shelf name bytes h = ap (option_map (take 1048577)) h.1 ∙ ap Some (sym h.2)

pub told_more : (held held' : Option Shelf) (ss ss' : List Source) (s : Source) (name bytes : List ℕ) → ToldAll held ss → Told held (λ shelf. HoldsFirst shelf name 1048577 bytes)
    → s.name ≡ name → s.bytes ≡ bytes → ss' ≡ ss ++ s ∷ [] → held' ≡ held → ToldAll held' ss'
told_more held held' ss ss' s name bytes told content n b e k = λ shelf h.
    let is = sym k ∙ h in
    subst (HoldsAll (first_part shelf)) (sym e)
    (holds_more (first_part shelf) ss s (told shelf is) (ap (first_part shelf) n ∙ part_is shelf name bytes (content shelf is) ∙ ap Some (sym b)))
