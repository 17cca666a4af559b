-- What a token is not that begins something.
use Rattle.std.specs.Prelude.{◌≡◌, true, false, not, [], ◌∷◌, refl}
use Rattle.scc_reading.specs.Reading.{is_next}
use Rattle.scc_grammar_terminals.specs.declared.terminal.Terminal.{Terminal}
use Rattle.scc_grammar_terminals.specs.declared.terminal.Terminal.TheVariants as t
use Rattle.scc_grammar_terminals.specs.First.{begins_part, begins_base, begins_expr, begins_operated, goes_on}
use Rattle.scc_grammar_terminals.specs.Marks as m
use Rattle.scc_grammar_terminals.specs.Names.{Names}
use Rattle.scc_grammar_terminals.specs.Text.{Text, next_is}
use Rattle.scc_grammar_complete.proofs.Follows.{goes_behind, goes_in, type_ends, or_left, or_right}

pub part_goes : (w : Terminal) → begins_part w ≡ true → goes_behind w ≡ true
part_goes w h = or_left (begins_part w) (m.scope w) h

pub scope_goes : (w : Terminal) → m.scope w ≡ true → goes_behind w ≡ true
scope_goes w h = or_right (begins_part w) (m.scope w) h

pub operated_not_base : (names : Names) (w : Terminal) → begins_operated w ≡ true → begins_base names w ≡ false
operated_not_base names t.Plus h = refl
operated_not_base names t.Minus h = refl
operated_not_base names t.Star h = refl
operated_not_base names t.And h = refl
operated_not_base names (t.Inverse x) h = refl
operated_not_base names _ h = cc

pub base_not_operated : (names : Names) (w : Terminal) → begins_base names w ≡ true → begins_operated w ≡ false
base_not_operated names t.Plus h = cc
base_not_operated names t.Minus h = cc
base_not_operated names t.Star h = cc
base_not_operated names t.And h = cc
base_not_operated names (t.Inverse x) h = cc
base_not_operated names _ h = refl

pub base_not_paren : (names : Names) (w : Terminal) → begins_base names w ≡ true → m.paren_open w ≡ false
base_not_paren names t.ParenOpen h = cc
base_not_paren names _ h = refl

pub expr_not_text : (names : Names) (w : Terminal) → begins_expr names w ≡ true → m.text w ≡ false
expr_not_text names t.Text h = cc
expr_not_text names _ h = refl

pub expr_not_new : (names : Names) (w : Terminal) → begins_expr names w ≡ true → m.new_word w ≡ false
expr_not_new names t.New h = cc
expr_not_new names _ h = refl

pub expr_not_close : (names : Names) (w : Terminal) → begins_expr names w ≡ true → m.paren_close w ≡ false
expr_not_close names t.ParenClose h = cc
expr_not_close names _ h = refl

pub goes_on_ends : (r : Text) → is_next (next_is goes_on) r ≡ true → type_ends r ≡ true
goes_on_ends [] h = cc
goes_on_ends (s ∷ r) h = go s.terminal h
  where
    go : (w : Terminal) → goes_on w ≡ true → not (goes_in w) ≡ true
    go t.ParenOpen h = refl
    go t.Scope h = refl
    go _ h = cc

pub expr_not_constant : (names : Names) (w : Terminal) → begins_expr names w ≡ true → m.constant w ≡ false
expr_not_constant names t.Const h = cc
expr_not_constant names _ h = refl
