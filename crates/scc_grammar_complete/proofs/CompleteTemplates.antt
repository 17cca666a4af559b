-- Parameters of templates are read, up to the first token that opens a level too many.
use Rattle.std.specs.Prelude.{◌≡◌, ℕ, Bool, true, false, ◌&&◌, List, [], ◌∷◌, Option, Some, None, Ok, Err, refl}
use Rattle.std.proofs.Common.{◌∙◌, ap}
use Rattle.scc_base.specs.declared.names.Name.{Name}
use Rattle.scc_base.specs.declared.refusal.Place.{Place}
use Rattle.scc_tree.specs.declared.item.Param.{Param}
use Rattle.scc_tree.specs.declared.item.ParamSort.{ParamSort}
use Rattle.scc_reading.specs.Reading.{and_then, ◌>>=◌, ◌>>◌, pure, take_at, is_next, repeat_in}
use Rattle.scc_reading.proofs.Complete.{Is, vthen, vlast, same, done, passed, last_turn_in}
use Rattle.scc_grammar_terminals.specs.declared.terminal.Terminal.{Terminal}
use Rattle.scc_grammar_terminals.specs.declared.terminal.Terminal.TheVariants as t
use Rattle.scc_grammar_spec.specs.Items.{value_sort, type_word, ReadsParam, ReadsParams}
use Rattle.scc_grammar_spec.specs.LevelsOfItems.{deep_param, deep_params}
use Rattle.scc_grammar_terminals.specs.Marks as m
use Rattle.scc_grammar_terminals.specs.Names.{Names, with_type}
use Rattle.scc_grammar_terminals.specs.Operators.{sum}
use Rattle.scc_grammar_spec.specs.ParseExpressions as e
use Rattle.scc_grammar_spec.specs.ParseFile as f
use Rattle.scc_grammar_spec.specs.ParseItems as p
use Rattle.scc_grammar_spec.specs.ParseItems.{Params, params_by}
use Rattle.scc_grammar_spec.specs.ParseStatements.{inner}
use Rattle.scc_grammar_terminals.specs.Text.{Text, Parser, Outcome, at, placed_at, next_is, name_at}
use Rattle.scc_grammar_complete.proofs.Follows.{stays, ends, type_ends, and_left, and_right, not_true, true_not_false}
use Rattle.scc_grammar_complete.proofs.CompleteChains.{complete_additive}
use Rattle.scc_grammar_complete.proofs.CompleteLevels.{complete}
use Rattle.scc_grammar_complete.proofs.CompleteFunctions.{ItemAgains, type_complete}

-- what ends a parameter
abbrev param_ends : Text → Bool
param_ends ts = ends sum ts && (type_ends ts && stays m.assign ts)

value_start : (w : Terminal) (s : ParamSort) → value_sort w ≡ Some s → p.param_start w ≡ Some (Some s)
value_start t.Int s h = ap Some h
value_start t.Unsigned s h = ap Some h
value_start t.Bool s h = ap Some h
value_start _ s h = cc

type_start : (w : Terminal) → type_word w ≡ true → p.param_start w ≡ Some None
type_start t.Class h = refl
type_start t.Typename h = refl
type_start _ h = cc

value_not_greater : (w : Terminal) (s : ParamSort) → value_sort w ≡ Some s → m.greater w ≡ false
value_not_greater t.Greater s h = cc
value_not_greater _ s h = refl

type_not_greater : (w : Terminal) → type_word w ≡ true → m.greater w ≡ false
type_not_greater t.Greater h = cc
type_not_greater _ h = refl

module _ (n : ℕ) (I : ItemAgains n) where
  begun_at : (names : Names) (w : Terminal) (o : Option (Option ParamSort)) (x : Name) (q j : Place) (a : Text) → p.param_start w ≡ o
      → f.param n names (at w q ∷ at (t.Ident x) j ∷ a) ≡ and_then (take_at (placed_at o q) (at w q) (at (t.Ident x) j ∷ a)) (λ w. name_at >>= λ x. f.param_by n names w.0 x)
  unfolding f.param
  begun_at names w o x q j a h = ap (λ z. and_then (take_at (placed_at z q) (at w q) (at (t.Ident x) j ∷ a)) (λ w. name_at >>= λ x. f.param_by n names w.0 x)) h

  complete_param : {names names₁ : Names} {both : Bool} {ts r : Text} {of : Param} (d : ReadsParam names both ts names₁ r of) → (both ≡ false → param_ends r ≡ true) → Is (f.param n names ts) (deep_param n d) (of, params_by names₁ both) r
  unfolding deep_param f.param_by
  complete_param (ReadsParam.value {names = names} {w = w} {s = s} {x = x} {q = q} {p = j} {r = r} g) h =
      done (begun_at names w (Some (Some s)) x q j r (value_start w s g) ∙ passed (next_is m.assign) _ _ r (not_true _ (and_right _ _ (and_right _ _ (h refl)))))
  complete_param (ReadsParam.value_preset {names = names} {w = w} {s = s} {x = x} {q = q} {p = j} {e = k} {a = a} g d) h =
      same (begun_at names w (Some (Some s)) x q j (at t.Assign k ∷ a) (value_start w s g)) (vlast _ (complete_additive names (inner names n) n (complete names n).opened (complete names n).agains d (and_left _ _ (h refl))) refl)
  complete_param (ReadsParam.type {names = names} {w = w} {x = x} {q = q} {p = j} {r = r} g) h =
      done (begun_at names w (Some None) x q j r (type_start w g) ∙ passed (next_is m.assign) _ _ r (not_true _ (and_right _ _ (and_right _ _ (h refl)))))
  complete_param (ReadsParam.type_preset {names = names} {w = w} {x = x} {q = q} {p = j} {e = k} {a = a} g d) h =
      same (begun_at names w (Some None) x q j (at t.Assign k ∷ a) (type_start w g)) (vlast _ (type_complete n I (with_type names x) true d (λ _. refl) (λ z. and_left _ _ (and_right _ _ (h z)))) refl)

  -- a parameter and those behind it, without what closes them
  abbrev params_list : Names → Parser (List Param × Params)
  params_list names = f.param n names >>= λ first. repeat_in (f.next_param n) (f.one_param n) first.1 >>= λ more. pure (first.0 ∷ more.0, more.1)

  abbrev closed_off : List Param × Params → Parser (Names × List Param)
  closed_off found = e.close_unless found.1.closed false >> pure (found.1.names, found.0)

  params_closed : (names : Names) (ts : Text) → f.params n names ts ≡ and_then (params_list names ts) closed_off
  unfolding f.params
  params_closed names ts = go (f.param n names ts)
    where
      last : (first : Param) (o : Outcome (List Param × Params)) → and_then o (λ more. e.close_unless more.1.closed false >> pure (more.1.names, first ∷ more.0)) ≡ and_then (and_then o (λ more. pure (first ∷ more.0, more.1))) closed_off
      last first (Ok x) = refl
      last first (Err x) = refl

      go : (o : Outcome (Param × Params)) → and_then o (λ first. repeat_in (f.next_param n) (f.one_param n) first.1 >>= λ more. e.close_unless more.1.closed false >> pure (more.1.names, first.0 ∷ more.0))
          ≡ and_then (and_then o (λ first. repeat_in (f.next_param n) (f.one_param n) first.1 >>= λ more. pure (first.0 ∷ more.0, more.1))) closed_off
      go (Ok x) = last x.0.0 (repeat_in (f.next_param n) (f.one_param n) x.0.1 x.1)
      go (Err x) = refl

  record Listed (names names₁ : Names) (ts r : Text) (v : Option Text) (of : List Param) : Type 0 where
    closed : Bool
    mid : Text
    is : Is (params_list names ts) v (of, params_by names₁ closed) mid
    closes : (found : List Param) → closed_off (found, params_by names₁ closed) mid ≡ Ok ((names₁, found), r)

  no_next : (names : Names) (closed : Bool) (r : Text) → (closed ≡ false → is_next (next_is m.comma) r ≡ false) → is_next (f.next_param n (params_by names closed)) r ≡ false
  no_next names true [] h = refl
  no_next names true (s ∷ r) h = refl
  no_next names false [] h = refl
  no_next names false (s ∷ r) h = h refl

  after_last : (names : Names) (closed : Bool) (of : Param) (r : Text) → (closed ≡ false → is_next (next_is m.comma) r ≡ false)
      → and_then {B = List Param × Params} (repeat_in (f.next_param n) (f.one_param n) (params_by names closed) r) (λ more. pure (of ∷ more.0, more.1)) ≡ Ok ((of ∷ [], params_by names closed), r)
  after_last names closed of r h = ap (λ o. and_then {A = List Param × Params} {B = List Param × Params} o (λ more. pure (of ∷ more.0, more.1))) (last_turn_in _ _ (params_by names closed) r I.params (no_next names closed r h)).is

  complete_listed : {names names₁ : Names} {ts r : Text} {of : List Param} (d : ReadsParams names ts names₁ r of) → Listed names names₁ ts r (deep_params n d) of
  unfolding deep_params
  complete_listed (ReadsParams.last {names₁ = names₁} {c = c} {r = r} {of = of} d) =
      record { closed = false; mid = at t.Greater c ∷ r; is = vlast _ (complete_param d (λ _. refl)) (after_last names₁ false of (at t.Greater c ∷ r) (λ _. refl)); closes = λ found. refl }
  complete_listed (ReadsParams.last_both {names₁ = names₁} {r = r} {of = of} d) =
      record { closed = true; mid = r; is = vlast _ (complete_param d (λ h. true_not_false h)) (after_last names₁ true of r (λ h. true_not_false h)); closes = λ found. refl }
  complete_listed (ReadsParams.more {names₁ = names₁} {c = c} {a = a} {of = of} d ds) =
      let k : Listed _ _ _ _ _ _ = complete_listed ds in
      record {
        closed = k.closed;
        mid = k.mid;
        is = vthen _ (complete_param d (λ _. refl)) (vlast _ (same (I.params (params_by names₁ false) (at t.Comma c ∷ a)) k.is) refl);
        closes = k.closes;
      }

  pub complete_params : {names names₁ : Names} {ts r : Text} {of : List Param} (d : ReadsParams names ts names₁ r of) → Is (f.params n names ts) (deep_params n d) (names₁, of) r
  complete_params {names} {ts = ts} d = let k : Listed _ _ _ _ _ _ = complete_listed d in same (params_closed names ts) (vlast _ k.is (k.closes _))

  param_first : {names names₁ : Names} {both : Bool} {ts r : Text} {of : Param} → ReadsParam names both ts names₁ r of → is_next (next_is m.greater) ts ≡ false
  param_first (ReadsParam.value {w = w} {s = s} g) = value_not_greater w s g
  param_first (ReadsParam.value_preset {w = w} {s = s} g d) = value_not_greater w s g
  param_first (ReadsParam.type {w = w} g) = type_not_greater w g
  param_first (ReadsParam.type_preset {w = w} g d) = type_not_greater w g

  params_first : {names names₁ : Names} {ts r : Text} {of : List Param} → ReadsParams names ts names₁ r of → is_next (next_is m.greater) ts ≡ false
  params_first (ReadsParams.last d) = param_first d
  params_first (ReadsParams.last_both d) = param_first d
  params_first (ReadsParams.more d ds) = param_first d

  -- behind `template`
  pub complete_template : {names names₁ : Names} (l : Place) {a r : Text} {of : List Param} (d : ReadsParams names a names₁ r of) → Is (f.template n names (at t.Less l ∷ a)) (deep_params n d) (names₁, of) r
  unfolding f.template
  complete_template l {a = a} d = same (passed (next_is m.greater) _ _ a (params_first d)) (complete_params d)
