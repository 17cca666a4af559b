-- Spelled tokens stay as they are when names are added.
use Rattle.std.proofs.Common.{◌≡◌, ℕ, zero, suc, List, [], ◌∷◌, ◌++◌, Option, Some, None, option_map, slice_get, refl, sym, ap, ◌∙◌}
use Rattle.scc_base.specs.Names.{Keeps}
use Rattle.scc_tokens_lexer.specs.declared.piece.Form.{Form}
use Rattle.scc_tokens_lexer.specs.declared.token.Token.{Token}
use Rattle.scc_tokens_lexer.specs.declared.token.TokenKind.{TokenKind}
use Rattle.scc_tokens_lexer.specs.declared.token.TokenKind.TheVariants as kind
use Rattle.scc_tokens_lexer.specs.Spelled.{Spelled, spelled, spelled_kind, spelled_all, put_spelled}

pub get_kept : {A : Type 0} (xs ys : List A) (i : ℕ) (x : A) → slice_get xs i ≡ Some x → slice_get (xs ++ ys) i ≡ Some x
get_kept [] ys i x e = cc
get_kept (a ∷ xs) ys zero x e = e
get_kept (a ∷ xs) ys (suc i) x e = get_kept xs ys i x e

name_kept : {B : Type 0} (f : List ℕ → B) (a b : List (List ℕ)) (n : ℕ) (x : B) → Keeps a b → option_map f (slice_get a n) ≡ Some x → option_map f (slice_get b n) ≡ Some x
name_kept {B} f a b n x k e = by (slice_get a n) refl e
  where
    by : (o : Option (List ℕ)) → slice_get a n ≡ o → option_map f o ≡ Some x → option_map f (slice_get b n) ≡ Some x
    by None h e = cc
    by (Some t) h e = ap (option_map f) (ap (λ l. slice_get l n) k.1 ∙ get_kept a k.0 n t h) ∙ e

pub kind_kept : (a b : List (List ℕ)) → Keeps a b → (k : TokenKind) (x : Form × List ℕ) → spelled_kind a k ≡ Some x → spelled_kind b k ≡ Some x
kind_kept a b h (kind.Ident n) x e = name_kept _ a b n.0 x h e
kind_kept a b h (kind.Outside n) x e = name_kept _ a b n.0 x h e
kind_kept a b h (kind.Word i) x e = e
kind_kept a b h (kind.Mark i) x e = e
kind_kept a b h (kind.Number k w) x e = e
kind_kept a b h kind.BadNumber x e = e
kind_kept a b h kind.Text x e = e
kind_kept a b h kind.Character x e = e
kind_kept a b h kind.LineHash x e = e
kind_kept a b h kind.LineEnd x e = e

pub spelled_kept : (a b : List (List ℕ)) → Keeps a b → (t : Token) (s : Spelled) → spelled a t ≡ Some s → spelled b t ≡ Some s
spelled_kept a b h t s e = by (spelled_kind a t.kind) refl e
  where
    by : (o : Option (Form × List ℕ)) → spelled_kind a t.kind ≡ o
        → option_map (λ x. record { form = x.0; text = x.1; place = t.place; len = t.len }) o ≡ Some s → spelled b t ≡ Some s
    by None k e = cc
    by (Some x) k e = ap (option_map (λ x. record { form = x.0; text = x.1; place = t.place; len = t.len })) (kind_kept a b h t.kind x k) ∙ e

-- the spelled list has the first token spelled at its head
pub record Front (names : List (List ℕ)) (t : Token) (ts : List Token) (done : List Spelled) : Type 0 where
  pub head : Spelled
  pub tail : List Spelled
  pub head_is : spelled names t ≡ Some head
  pub tail_is : spelled_all names ts ≡ Some tail
  pub done_is : done ≡ head ∷ tail

pub front_of : (names : List (List ℕ)) (t : Token) (ts : List Token) (done : List Spelled) → spelled_all names (t ∷ ts) ≡ Some done → Front names t ts done
front_of names t ts done e = by (spelled names t) (spelled_all names ts) refl refl e
  where
    by : (o : Option Spelled) (r : Option (List Spelled)) → spelled names t ≡ o → spelled_all names ts ≡ r → put_spelled o r ≡ Some done → Front names t ts done
    by None r h k e = cc
    by (Some s) None h k e = cc
    by (Some s) (Some ss) h k e = let same : done ≡ s ∷ ss = cc in record { head = s; tail = ss; head_is = h; tail_is = k; done_is = same }

pub all_kept : (a b : List (List ℕ)) → Keeps a b → (ts : List Token) (done : List Spelled) → spelled_all a ts ≡ Some done → spelled_all b ts ≡ Some done
all_kept a b h [] done e = e
all_kept a b h (t ∷ ts) done e =
    let f = front_of a t ts done e in
    ap (λ o. put_spelled o (spelled_all b ts)) (spelled_kept a b h t f.head f.head_is) ∙ ap (option_map (λ ss. f.head ∷ ss)) (all_kept a b h ts f.tail f.tail_is) ∙ ap Some (sym f.done_is)

pub all_push : (names : List (List ℕ)) (ts : List Token) (done : List Spelled) (t : Token) (s : Spelled) → spelled_all names ts ≡ Some done → spelled names t ≡ Some s
    → spelled_all names (ts ++ t ∷ []) ≡ Some (done ++ s ∷ [])
all_push names [] done t s e k =
    let none : [] ≡ done = cc in
    ap (λ o. put_spelled o (Some [])) k ∙ ap (λ d. Some (d ++ s ∷ [])) none
all_push names (x ∷ xs) done t s e k =
    let f = front_of names x xs done e in
    ap (put_spelled (spelled names x)) (all_push names xs f.tail t s f.tail_is k) ∙ ap (λ o. put_spelled o (Some (f.tail ++ s ∷ []))) f.head_is
    ∙ ap (λ d. Some (d ++ s ∷ [])) (sym f.done_is)

-- one more token, after which there may be more names
pub all_more : (a b : List (List ℕ)) → Keeps a b → (ts ts' : List Token) (done : List Spelled) (t : Token) (s : Spelled) → ts' ≡ ts ++ t ∷ [] → spelled b t ≡ Some s → spelled_all a ts ≡ Some done
    → spelled_all b ts' ≡ Some (done ++ s ∷ [])
all_more a b h ts ts' done t s e k d = ap (spelled_all b) e ∙ all_push b ts done t s (all_kept a b h ts done d) k

-- a number keeps its text
pub get_keeps : (a b : List (List ℕ)) (i : ℕ) (t : List ℕ) → Keeps a b → slice_get a i ≡ Some t → slice_get b i ≡ Some t
get_keeps a b i t k e = ap (λ l. slice_get l i) k.1 ∙ get_kept a k.0 i t e
