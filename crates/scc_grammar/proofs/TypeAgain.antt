-- The tokens from which a type was read give it again.
use Rattle.std.specs.Prelude.{◌≡◌, ℕ, Bool, true, false, ◌&&◌, List, [], ◌∷◌, Option, Some, None, Ok, Err, refl, cond}
use Rattle.std.proofs.Common.{◌∙◌, ap}
use Rattle.scc_base.specs.declared.names.Name.{Name}
use Rattle.scc_base.specs.declared.refusal.Place.{Place}
use Rattle.scc_tree.specs.declared.ty.TyArg.{TyArg}
use Rattle.scc_tree.specs.declared.ty.TyNode.TheVariants as ty
use Rattle.scc_reading.specs.Reading.{and_then, ◌>>=◌, pure, is_next, by_test, take_at}
use Rattle.scc_reading.proofs.Leaves.{ok_is}
use Rattle.scc_grammar_terminals.specs.declared.part.TypeRead.{TypeRead}
use Rattle.scc_grammar_terminals.specs.declared.terminal.Terminal.{Terminal}
use Rattle.scc_grammar_terminals.specs.declared.terminal.Terminal.TheVariants as t
use Rattle.scc_grammar_spec.specs.Fields.{Again}
use Rattle.scc_grammar_terminals.specs.First.{name_start}
use Rattle.scc_grammar_terminals.specs.Inner.{Inner}
use Rattle.scc_grammar_terminals.specs.Marks as m
use Rattle.scc_grammar_terminals.specs.Names.{Names, is_type, is_template}
use Rattle.scc_grammar_terminals.specs.Nodes.{base_of}
use Rattle.scc_grammar_spec.specs.ParseExpressions as e
use Rattle.scc_grammar_spec.specs.ParseExpressions.{named_type, constant_type}
use Rattle.scc_grammar_spec.specs.ParseItems as i
use Rattle.scc_grammar_spec.specs.ParseItems.{named_of}
use Rattle.scc_grammar_spec.specs.ParseStatements.{inner}
use Rattle.scc_grammar_terminals.specs.Text as text
use Rattle.scc_grammar_terminals.specs.Text.{Text, Parser, at, mark, next_is, name_at, placed_at, identifier}

module _ (names : Names) (n : ℕ) where
  abbrev j : Inner
  j = inner names n

  pub again_base : (ts : Text) (of : TypeRead) (r : Text) → is_next (next_is m.constant) ts ≡ false → e.base_at names (inner names n) false ts ≡ Ok (of, r) → Again names n ts of.ty
  unfolding e.type_at
  again_base ts of r h k = record { read = of; rest = r; is = ap (λ b. by_test b (mark m.constant >>= λ p. e.base_at names j false >>= λ b. pure (constant_type p b)) (e.base_at names j false) ts) h ∙ k; ty_is = refl }

  pub again_constant : (typed : Text) (q : Place) (ts : Text) (of : TypeRead) (r : Text) → is_next (next_is m.constant) typed ≡ true → mark m.constant typed ≡ Ok (q, ts) → e.base_at names (inner names n) false ts ≡ Ok (of, r)
      → Again names n typed (constant_type q of).ty
  unfolding e.type_at
  again_constant typed q ts of r h k l = record {
    read = constant_type q of;
    rest = r;
    is = ap (λ b. by_test b (mark m.constant >>= λ p. e.base_at names j false >>= λ b. pure (constant_type p b)) (e.base_at names j false) typed) h
        ∙ ap (λ o. and_then o (λ p. e.base_at names j false >>= λ b. pure (constant_type p b))) k ∙ ap (λ o. and_then o (λ b. pure (constant_type q b))) l;
    ty_is = refl;
  }

  name_is : (ts : Text) (x : Name × Place) (r : Text) → name_at ts ≡ Ok (x, r) → ts ≡ at (t.Ident x.0) x.1 ∷ r
  name_is [] x r h = cc
  name_is (s ∷ us) x r h = go s.terminal refl h
    where
      put : (y : Name) → pure (y, s.place) us ≡ pure x r → s.terminal ≡ t.Ident y → s ∷ us ≡ at (t.Ident x.0) x.1 ∷ r
      put y g l = let both : ((y, s.place) ≡ x) × (us ≡ r) = ok_is (y, s.place) x us r g in rw (← both.1, ← both.0) (rw (← l) refl)

      go : (w : Terminal) → s.terminal ≡ w → take_at (placed_at (identifier w) s.place) s us ≡ Ok (x, r) → s ∷ us ≡ at (t.Ident x.0) x.1 ∷ r
      go (t.Ident y) l g = put y g l
      go _ l g = cc

  -- behind a name that is a type
  named_again : (x : Name × Place) (r₁ : Text) (args : Option (List TyArg)) (r₂ : Text) (b : Bool) → is_next (λ s. is_template names x.0 && m.less s.terminal) r₁ ≡ b → i.named_args n names x.0 r₁ ≡ Ok (args, r₂)
      → (read : TypeRead) × (rest : Text) × (e.named_by names j false x.0 x.1 r₁ ≡ Ok (read, rest)) × (read.ty ≡ (named_of x args).ty)
  unfolding i.named_args e.named_by
  named_again x r₁ args r₂ true h k = rw h (with_less (mark m.less r₁) (rw h at k))
    where
      with_args : (o : text.Outcome (List TyArg × Bool)) → and_then o (λ found. pure (Some found.0)) ≡ Ok (args, r₂)
          → (read : TypeRead) × (rest : Text) × (and_then o (λ found. pure (named_type x.1 (base_of x.1 (ty.Named x.0 (Some found.0))) found.1)) ≡ Ok (read, rest)) × (read.ty ≡ (named_of x args).ty)
      with_args (Ok z) g = (named_type x.1 (base_of x.1 (ty.Named x.0 (Some z.0.0))) z.0.1, z.1, refl, ap (λ a. (named_of x a).ty) (ok_is (Some z.0.0) args z.1 r₂ g).0)
      with_args (Err f) g = cc

      with_less : (o : text.Outcome Place) → and_then o (λ _. e.ty_args names j false >>= λ found. pure (Some found.0)) ≡ Ok (args, r₂)
          → (read : TypeRead) × (rest : Text) × (and_then o (λ _. e.ty_args names j false >>= λ found. pure (named_type x.1 (base_of x.1 (ty.Named x.0 (Some found.0))) found.1)) ≡ Ok (read, rest)) × (read.ty ≡ (named_of x args).ty)
      with_less (Ok z) g = with_args (e.ty_args names j false z.1) g
      with_less (Err f) g = cc
  named_again x r₁ args r₂ false h k = rw h (named_type x.1 (base_of x.1 (ty.Named x.0 None)) false, r₁, refl, ap (λ a. (named_of x a).ty) (ok_is None args r₁ r₂ (rw h at k)).0)

  type_of_name : (x : Name × Place) (r₁ : Text) → is_type names x.0 ≡ true → e.type_at names j false (at (t.Ident x.0) x.1 ∷ r₁) ≡ e.named_by names j false x.0 x.1 r₁
  unfolding e.type_at e.base_at e.base_by
  type_of_name x r₁ h = ap (λ b. and_then (take_at (placed_at (cond b (Some (name_start x.0)) None) x.1) (at (t.Ident x.0) x.1) r₁) (λ s. e.base_by names j false s.0 s.1)) h

  pub again_named : (ts : Text) (x : Name × Place) (r₁ : Text) (args : Option (List TyArg)) (r₂ : Text) → name_at ts ≡ Ok (x, r₁) → is_type names x.0 ≡ true → i.named_args n names x.0 r₁ ≡ Ok (args, r₂) → Again names n ts (named_of x args).ty
  again_named ts x r₁ args r₂ k h l =
      let f : (read : TypeRead) × (rest : Text) × (e.named_by names j false x.0 x.1 r₁ ≡ Ok (read, rest)) × (read.ty ≡ (named_of x args).ty) = named_again x r₁ args r₂ (is_next (λ s. is_template names x.0 && m.less s.terminal) r₁) refl l in
      record { read = f.0; rest = f.1; is = ap (e.type_at names j false) (name_is ts x r₁ k) ∙ type_of_name x r₁ h ∙ f.2; ty_is = f.3 }
