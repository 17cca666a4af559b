-- The last write to an output decides what it holds.
use Rattle.std.proofs.Common.{◌≡◌, ℕ, ◌<◌, List, [], ◌∷◌, map, length, Bool, true, false, cond, nat_eq, ◌||◌, ◌&&◌, inl, inr, Option, Some, None, ap, refl, sym, ◌∙◌, ◌%◌, ◌^◌}
use Rattle.std.proofs.lemmas.Bool.{ne_eqb, eq-eqb}
use Rattle.std.proofs.lemmas.Bool.Decides.{eqb_tells}
use Rattle.std.specs.Prelude.{unwrap_or}
use Rattle.std.specs.List.{list_any}
use Rattle.scc_semantics.specs.Location.{Location, same}
use Rattle.scc_semantics.specs.Store.{changed, updated}
use Rattle.scc_thin.specs.declared.design.Port.{Port}
use Rattle.scc_thin.specs.declared.design.Put.{Put}
use Rattle.scc_thin.specs.declared.design.Second.{Second}
use Rattle.scc_thin_module.specs.Emitted.{width_of}
use Rattle.scc_thin.specs.Resolved.{is_output_at, targets_of}
use Rattle.scc_thin_module.specs.Source.{member}
use Rattle.scc_thin_module.proofs.Putting.{put_word, word_of, joint, request, Within, AllWithin, SecondWithin}

pub nat_sym : (x y : ℕ) → nat_eq x y ≡ nat_eq y x
nat_sym x y = elim (eqb_tells x y) [
  | inl p ↦ p.0 ∙ sym (eq-eqb y x (sym p.1))
  | inr p ↦ p.0 ∙ sym (ne_eqb y x (λ e. p.1 (sym e)))
]

pub and_true : (b : Bool) → (b && true) ≡ b
and_true true = refl
and_true false = refl

abbrev or_else : Option ℕ → Option ℕ → Option ℕ
or_else None o = o
or_else (Some x) o = Some x

-- the word that the last of the writes gives a port
abbrev pub last_word : List Port → (ℕ → ℕ) → List Put → ℕ → Option ℕ
last_word ports x [] i = None
last_word ports x (p ∷ ps) i = or_else (last_word ports x ps i) (cond (nat_eq i p.target) (Some (put_word ports x p)) None)

-- a write is to an output, and reads inputs
abbrev pub SecondIsInput : List Port → Option Second → Type 0
SecondIsInput ports None = Unit {0}
SecondIsInput ports (Some s) = is_output_at ports s.port ≡ false

abbrev pub IsSoundPut : List Port → Put → Type 0
IsSoundPut ports p = (is_output_at ports p.target ≡ true) × (is_output_at ports p.first ≡ false) × SecondIsInput ports p.second

abbrev pub AllSoundPuts : List Port → List Put → Type 0
AllSoundPuts ports [] = Unit {0}
AllSoundPuts ports (p ∷ ps) = IsSoundPut ports p × AllSoundPuts ports ps

-- two valuations that give the inputs the same words
abbrev pub AgreeIn : List Port → (ℕ → ℕ) → (ℕ → ℕ) → Type 0
AgreeIn ports x y = (i : ℕ) → i < length ports → is_output_at ports i ≡ false → x i ≡ y i

module _ (ports : List Port) where
  pub or_some : (o : Option ℕ) (b : Bool) (v d : ℕ) → unwrap_or (or_else o (cond b (Some v) None)) d ≡ unwrap_or o (cond b v d)
  or_some None true v d = refl
  or_some None false v d = refl
  or_some (Some x) b v d = refl

  pub updated_last : (x : ℕ → ℕ) (puts : List Put) (words : Location → ℕ) (i : ℕ)
      → updated (map (request ports x) puts) words (member i) ≡ unwrap_or (last_word ports x puts i) (words (member i))
  updated_last x [] words i = refl
  updated_last x (p ∷ puts) words i =
      updated_last x puts (changed (member p.target) (put_word ports x p) words) i
      ∙ ap (λ t. unwrap_or (last_word ports x puts i) (cond t (put_word ports x p) (words (member i)))) (and_true (nat_eq p.target i) ∙ nat_sym p.target i)
      ∙ sym (or_some (last_word ports x puts i) (nat_eq i p.target) (put_word ports x p) (words (member i)))

  word_same : (x y : ℕ → ℕ) (first : ℕ) (s : Option Second) → first < length ports → SecondWithin (length ports) s → is_output_at ports first ≡ false → SecondIsInput ports s → AgreeIn ports x y
      → word_of x first s ≡ word_of y first s
  word_same x y first None h g a b same = same first h a
  word_same x y first (Some s) h g a b same = ap (λ n. joint s.op n (x s.port)) (same first h a) ∙ ap (joint s.op (y first)) (same s.port g b)

  pub put_same : (x y : ℕ → ℕ) (p : Put) → Within (length ports) p → IsSoundPut ports p → AgreeIn ports x y → put_word ports x p ≡ put_word ports y p
  put_same x y p w a same = ap (λ n. n % 2 ^ width_of ports p.target) (word_same x y p.first p.second w.1 w.2 a.1 a.2 same)

  -- what is written depends on the inputs alone
  pub last_same : (x y : ℕ → ℕ) (puts : List Put) (i : ℕ) → AllWithin (length ports) puts → AllSoundPuts ports puts → AgreeIn ports x y → last_word ports x puts i ≡ last_word ports y puts i
  last_same x y [] i w a same = refl
  last_same x y (p ∷ puts) i w a same =
      ap (λ o. or_else o (cond (nat_eq i p.target) (Some (put_word ports x p)) None)) (last_same x y puts i w.1 a.1 same)
      ∙ ap (λ v. or_else (last_word ports y puts i) (cond (nat_eq i p.target) (Some v) None)) (put_same x y p w.0 a.0 same)

  pub apart_of : (i t : ℕ) → is_output_at ports i ≡ false → is_output_at ports t ≡ true → nat_eq i t ≡ false
  apart_of i t a b = ne_eqb i t (λ e. let f : true ≡ false = sym b ∙ ap (is_output_at ports) (sym e) ∙ a in cc)

  -- nothing is written to an input
  pub last_input : (x : ℕ → ℕ) (puts : List Put) (i : ℕ) → AllSoundPuts ports puts → is_output_at ports i ≡ false → last_word ports x puts i ≡ None
  last_input x [] i a b = refl
  last_input x (p ∷ puts) i a b =
      ap (λ o. or_else o (cond (nat_eq i p.target) (Some (put_word ports x p)) None)) (last_input x puts i a.1 b)
      ∙ ap (λ t. cond t (Some (put_word ports x p)) None) (apart_of i p.target b a.0.0)

  -- where some write is to a port, the last one decides, whatever the port held
  pub last_any : (x : ℕ → ℕ) (puts : List Put) (i c d : ℕ) → list_any (nat_eq i) (targets_of puts) ≡ true → unwrap_or (last_word ports x puts i) c ≡ unwrap_or (last_word ports x puts i) d
  last_any x [] i c d e = cc
  last_any x (p ∷ puts) i c d e =
      or_some (last_word ports x puts i) (nat_eq i p.target) (put_word ports x p) c
      ∙ by_target (nat_eq i p.target) e (λ f. last_any x puts i c d f)
      ∙ sym (or_some (last_word ports x puts i) (nat_eq i p.target) (put_word ports x p) d)
    where
      by_target : (b : Bool) → (b || list_any (nat_eq i) (targets_of puts)) ≡ true
          → (list_any (nat_eq i) (targets_of puts) ≡ true → unwrap_or (last_word ports x puts i) c ≡ unwrap_or (last_word ports x puts i) d)
          → unwrap_or (last_word ports x puts i) (cond b (put_word ports x p) c) ≡ unwrap_or (last_word ports x puts i) (cond b (put_word ports x p) d)
      by_target true f g = refl
      by_target false f g = g f
