-- The loop that reads further fields of a type.
use Rattle.std.specs.Prelude.{◌≡◌, ℕ, ◌<◌, Bool, true, false, List, [], ◌∷◌, ◌++◌, map, length, Ok, Err, refl}
use Rattle.std.proofs.Common.{sym, ◌∙◌, ap, append_assoc, append-nil}
use Rattle.scc_base.specs.declared.refusal.Place.{Place}
use Rattle.scc_tree.specs.declared.item.Field.{Field}
use Rattle.scc_tree.specs.declared.item.Item.{Item}
use Rattle.scc_tree.specs.declared.local.Decl.{Decl}
use Rattle.scc_tree.specs.declared.ty.Ty.{Ty}
use Rattle.scc_reading.specs.Reading.{Fault, and_then, ◌>>=◌, ◌>>◌, pure, is_next, by_test, repeat}
use Rattle.scc_reading.proofs.Leaves.{ok_is}
use Rattle.scc_reading.proofs.Repeat.{repeat_again}
use Rattle.scc_reading.proofs.Loop.{Turns, turns_of}
use Rattle.scc_grammar_terminals.specs.declared.halt.Halt.{Halt}
use Rattle.scc_grammar_terminals.specs.declared.terminal.Seen.{Seen}
use Rattle.scc_grammar_terminals.specs.Answer.{Fails}
use Rattle.scc_grammar_spec.specs.Bodies.{Body, body_of, field_of, with_fields}
use Rattle.scc_grammar_spec.specs.Fields.{Again, fields_onto}
use Rattle.scc_grammar_terminals.specs.Marks as m
use Rattle.scc_grammar_terminals.specs.Names.{Names}
use Rattle.scc_grammar_spec.specs.ParseExpressions as e
use Rattle.scc_grammar_spec.specs.ParseFile as p
use Rattle.scc_grammar_spec.specs.ParseStatements.{inner}
use Rattle.scc_grammar_terminals.specs.declared.part.TypeRead.{TypeRead}
use Rattle.scc_grammar_terminals.specs.Text.{Text, Parser, mark, next_is}
use Rattle.scc_grammar_terminals.specs.Text as text
use Rattle.scc_grammar_sound.proofs.Loops.{fails_through}
use Rattle.scc_grammar_sound.proofs.SoundFile.{ROneDecl, sound_one_decl}

module _ (names : Names) (n : ℕ) (b : Body) (ty : Ty) where
  abbrev q : Parser Decl
  q = p.one_decl n names

  abbrev more : Parser (List Decl)
  more = repeat (next_is m.comma) (p.one_decl n names)

  picked : (c : Bool) (ts : Text) → is_next (next_is m.comma) ts ≡ c → more ts ≡ by_test c (q >>= λ a. more >>= λ others. pure (a ∷ others)) (pure []) ts
  picked c ts k = repeat_again (next_is m.comma) q 0 (ROneDecl n names) (sound_one_decl n names) ts ∙ ap (λ c. by_test c (q >>= λ a. more >>= λ others. pure (a ∷ others)) (pure []) ts) k

  abbrev with_found : List Field → List Decl → Parser (List Field)
  with_found found others = pure (found ++ map (field_of b ty) others)

  one_more : (found : List Field) (d : Decl) (o : text.Outcome (List Decl)) → and_then (and_then o (λ others. pure (d ∷ others))) (with_found found) ≡ and_then o (with_found (found ++ field_of b ty d ∷ []))
  one_more found d (Ok x) = ap (λ l. Ok (l, x.1)) (sym (append_assoc found (field_of b ty d ∷ []) (map (field_of b ty) x.0)))
  one_more found d (Err f) = refl

  pub field_turn : (found : List Field) (ts : Text) (d : Decl) (r : Text) (whole : text.Outcome (List Field)) → is_next (next_is m.comma) ts ≡ true → q ts ≡ Ok (d, r) → fields_onto b ty found more ts ≡ whole → fields_onto b ty (found ++ field_of b ty d ∷ []) more r ≡ whole
  field_turn found ts d r whole k l so_far = sym (one_more found d (more r)) ∙ sym (ap (λ o. and_then o (with_found found)) (picked true ts k ∙ ap (λ o. and_then o (λ a. more >>= λ others. pure (a ∷ others))) l)) ∙ so_far

  field_fault : (found : List Field) (ts : Text) (f : Fault Seen) (whole : text.Outcome (List Field)) → is_next (next_is m.comma) ts ≡ true → q ts ≡ Err f → fields_onto b ty found more ts ≡ whole → whole ≡ Err f
  field_fault found ts f whole k l so_far = sym so_far ∙ ap (λ o. and_then o (with_found found)) (picked true ts k ∙ ap (λ o. and_then o (λ a. more >>= λ others. pure (a ∷ others))) l)

  pub field_fails : (h : Halt) (found : List Field) (ts : Text) (whole : text.Outcome (List Field)) → is_next (next_is m.comma) ts ≡ true → Fails h (q ts) → fields_onto b ty found more ts ≡ whole → Fails h whole
  field_fails h found ts whole k f so_far = fails_through h (q ts) whole (λ g l. field_fault found ts g whole k l so_far) f

  pub field_stops : (found : List Field) (ts : Text) (whole : text.Outcome (List Field)) → is_next (next_is m.comma) ts ≡ false → fields_onto b ty found more ts ≡ whole → whole ≡ Ok (found, ts)
  field_stops found ts whole k so_far = sym so_far ∙ ap (λ o. and_then o (with_found found)) (picked false ts k) ∙ ap (λ l. Ok (l, ts)) (append-nil found)

pub decl_shorter : (names : Names) (n : ℕ) (ts : Text) (d : Decl) (r : Text) → p.one_decl n names ts ≡ Ok (d, r) → length r < length ts
decl_shorter names n ts d r k = let t : Turns (next_is m.comma) (p.one_decl n names) = turns_of (next_is m.comma) 0 (ROneDecl n names) (p.one_decl n names) (sound_one_decl n names) in t.shorter ts d r k

-- the type that is read again is the type
pub same_type : (names : Names) (n : ℕ) (typed : Text) (ty : Ty) (x : TypeRead) (r : Text) → Again names n typed ty → e.type_at names (inner names n) false typed ≡ Ok (x, r) → x.ty ≡ ty
same_type names n typed ty x r a k = ap (λ z. z.ty) (ok_is x a.read r a.rest (sym k ∙ a.is)).0 ∙ a.ty_is

pub same_field : (names : Names) (xs ys : List Item) (fs gs : List Field) (ty of : Ty) (d : Decl) → xs ≡ ys → of ≡ ty → field_of (body_of names xs fs) of d ≡ field_of (body_of names ys gs) ty d
same_field names xs ys fs gs ty of d h k = rw (h, k) refl

-- ---- the first field, and the rest

module _ (names : Names) (n : ℕ) (xs ys : List Item) (fs gs : List Field) (ty : Ty) (first : Decl) (ts : Text)
    (same : ys ≡ xs) (begun : gs ≡ fs ++ field_of (body_of names xs fs) ty first ∷ []) where
  abbrev further : Parser (List Decl)
  further = repeat (next_is m.comma) (p.one_decl n names)

  abbrev ended : List Field → Parser Body
  ended all = mark m.semicolon >> pure (body_of names xs all)

  fields_are : p.fields_rest n (body_of names xs fs) ty first ts ≡ and_then (fields_onto (body_of names ys gs) ty gs further ts) ended
  unfolding p.fields_rest
  fields_are = rw (begun, same) (go (further ts))
    where
      abbrev_field : Decl → Field
      abbrev_field d = field_of (body_of names xs fs) ty d

      go : (o : text.Outcome (List Decl)) → and_then o (λ others. mark m.semicolon >> pure (with_fields (body_of names xs fs) ty (first ∷ others)))
          ≡ and_then (and_then o (λ others. pure ((fs ++ field_of (body_of names xs fs) ty first ∷ []) ++ map (field_of (body_of names xs fs) ty) others))) ended
      go (Ok x) = ap (λ all. ended all x.1) (sym (append_assoc fs (field_of (body_of names xs fs) ty first ∷ []) (map (field_of (body_of names xs fs) ty) x.0)))
      go (Err f) = refl

  err_through : {B : Type 0} (h : Halt) (o : text.Outcome (List Field)) (f : List Field → Parser B) → Fails h o → Fails h (and_then o f)
  err_through h o f k = fails_through h o (and_then o f) (λ g l. ap (λ o. and_then o f) l) k

  pub rest_fails : (h : Halt) → Fails h (fields_onto (body_of names ys gs) ty gs further ts) → Fails h (p.fields_rest n (body_of names xs fs) ty first ts)
  rest_fails h k = rw fields_are (err_through h (fields_onto (body_of names ys gs) ty gs further ts) ended k)

  pub rest_unended : (h : Halt) (all : List Field) (mid : Text) → fields_onto (body_of names ys gs) ty gs further ts ≡ Ok (all, mid) → Fails h (mark m.semicolon mid) → Fails h (p.fields_rest n (body_of names xs fs) ty first ts)
  rest_unended h all mid k l = rw fields_are (rw k (mark_fails h all mid l))
    where
      mark_fails : (h : Halt) (all : List Field) (mid : Text) → Fails h (mark m.semicolon mid) → Fails h (ended all mid)
      mark_fails h all mid l = fails_through h (mark m.semicolon mid) (ended all mid) (λ g e. ap (λ o. and_then o (λ _. pure (body_of names xs all))) e) l

  pub rest_is : (all : List Field) (mid : Text) (q : Place) (r : Text) → fields_onto (body_of names ys gs) ty gs further ts ≡ Ok (all, mid) → mark m.semicolon mid ≡ Ok (q, r) → p.fields_rest n (body_of names xs fs) ty first ts ≡ Ok (body_of names xs all, r)
  rest_is all mid q r k l = fields_are ∙ ap (λ o. and_then o ended) k ∙ ap (λ o. and_then o (λ _. pure (body_of names xs all))) l
