-- A mark is one terminal, and answers its place.
use Rattle.std.specs.Prelude.{◌≡◌, ℕ, Bool, true, false, ◌∷◌, Option, Some, None, refl}
use Rattle.std.proofs.Common.{◌∙◌, ap, lit≤}
use Rattle.scc_base.specs.declared.names.Name.{Name}
use Rattle.scc_base.specs.declared.refusal.Place.{Place}
use Rattle.scc_reading.specs.Reading.{◌>>=◌, ◌>>◌, token}
use Rattle.scc_reading.proofs.Answer.{Rule, Answers}
use Rattle.scc_reading.proofs.Core.{answers_by}
use Rattle.scc_reading.proofs.Steps.{IsMark, answers_head, answers_less}
use Rattle.scc_grammar_terminals.specs.declared.terminal.Seen.{Seen}
use Rattle.scc_grammar_terminals.specs.declared.terminal.Terminal.{Terminal}
use Rattle.scc_grammar_terminals.specs.declared.terminal.Terminal.TheVariants as t
use Rattle.scc_grammar_terminals.specs.Marks as m
use Rattle.scc_grammar_terminals.specs.Operators.{closer}
use Rattle.scc_grammar_terminals.specs.First.{closing}
use Rattle.scc_grammar_spec.specs.ParseExpressions.{close, close_unless}
use Rattle.scc_grammar_terminals.specs.Text.{Text, Parser, at, kept, is, mark, placed_at, pick, identifier, name_at}

-- some place
abbrev pub here : Place
here = record { file = 0; at = 0 }

pub some_is : {A : Type 0} (a b : A) → Some a ≡ Some b → a ≡ b
some_is a b h = cc

abbrev pair_of : {A B : Type 0} → A → B → A × B
pair_of a b = (a, b)

pub some_pair : {A B : Type 0} (a c : A) (b d : B) → Some (pair_of a b) ≡ Some (pair_of c d) → (a ≡ c) × (b ≡ d)
some_pair a c b d h = let both : pair_of a b ≡ pair_of c d = cc in (ap (λ z. z.0) both, ap (λ z. z.1) both)

mark_of : (test : Terminal → Bool) (x : Terminal) → test x ≡ true → ((y : Terminal) → test y ≡ true → y ≡ x) → IsMark (is test) (at x)
mark_of test x h only = record { some = here; it = ap (λ b. kept b here) h; only = λ s p e. go s p (test s.terminal) refl e }
  where
    go : (s : Seen) (p : Place) (b : Bool) → test s.terminal ≡ b → kept b s.place ≡ Some p → s ≡ at x p
    go s p true k e = let place : s.place ≡ p = cc in let terminal : s.terminal ≡ x = only s.terminal k in rw (← place, ← terminal) refl
    go s p false k e = cc

-- a terminal that the test refuses; stated once, since the cases below are thousands
another : {A : Type 0} → false ≡ true → A
another h = cc

only_text : (y : Terminal) → m.text y ≡ true → y ≡ t.Text
only_text t.Text h = refl
only_text _ h = another h

pub mark_text : IsMark (is m.text) (at t.Text)
mark_text = mark_of m.text t.Text refl only_text

only_int : (y : Terminal) → m.int y ≡ true → y ≡ t.Int
only_int t.Int h = refl
only_int _ h = another h

pub mark_int : IsMark (is m.int) (at t.Int)
mark_int = mark_of m.int t.Int refl only_int

only_short : (y : Terminal) → m.short y ≡ true → y ≡ t.Short
only_short t.Short h = refl
only_short _ h = another h

pub mark_short : IsMark (is m.short) (at t.Short)
mark_short = mark_of m.short t.Short refl only_short

only_char : (y : Terminal) → m.char y ≡ true → y ≡ t.Char
only_char t.Char h = refl
only_char _ h = another h

pub mark_char : IsMark (is m.char) (at t.Char)
mark_char = mark_of m.char t.Char refl only_char

pub only_constant : (y : Terminal) → m.constant y ≡ true → y ≡ t.Const
only_constant t.Const h = refl
only_constant _ h = another h

pub mark_constant : IsMark (is m.constant) (at t.Const)
mark_constant = mark_of m.constant t.Const refl only_constant

only_void_word : (y : Terminal) → m.void_word y ≡ true → y ≡ t.Void
only_void_word t.Void h = refl
only_void_word _ h = another h

pub mark_void_word : IsMark (is m.void_word) (at t.Void)
mark_void_word = mark_of m.void_word t.Void refl only_void_word

only_class_word : (y : Terminal) → m.class_word y ≡ true → y ≡ t.Class
only_class_word t.Class h = refl
only_class_word _ h = another h

pub mark_class_word : IsMark (is m.class_word) (at t.Class)
mark_class_word = mark_of m.class_word t.Class refl only_class_word

only_struct_word : (y : Terminal) → m.struct_word y ≡ true → y ≡ t.Struct
only_struct_word t.Struct h = refl
only_struct_word _ h = another h

pub mark_struct_word : IsMark (is m.struct_word) (at t.Struct)
mark_struct_word = mark_of m.struct_word t.Struct refl only_struct_word

only_typename : (y : Terminal) → m.typename y ≡ true → y ≡ t.Typename
only_typename t.Typename h = refl
only_typename _ h = another h

pub mark_typename : IsMark (is m.typename) (at t.Typename)
mark_typename = mark_of m.typename t.Typename refl only_typename

only_enum_word : (y : Terminal) → m.enum_word y ≡ true → y ≡ t.Enum
only_enum_word t.Enum h = refl
only_enum_word _ h = another h

pub mark_enum_word : IsMark (is m.enum_word) (at t.Enum)
mark_enum_word = mark_of m.enum_word t.Enum refl only_enum_word

only_typedef_word : (y : Terminal) → m.typedef_word y ≡ true → y ≡ t.Typedef
only_typedef_word t.Typedef h = refl
only_typedef_word _ h = another h

pub mark_typedef_word : IsMark (is m.typedef_word) (at t.Typedef)
mark_typedef_word = mark_of m.typedef_word t.Typedef refl only_typedef_word

only_template_word : (y : Terminal) → m.template_word y ≡ true → y ≡ t.Template
only_template_word t.Template h = refl
only_template_word _ h = another h

pub mark_template_word : IsMark (is m.template_word) (at t.Template)
mark_template_word = mark_of m.template_word t.Template refl only_template_word

only_using_word : (y : Terminal) → m.using_word y ≡ true → y ≡ t.Using
only_using_word t.Using h = refl
only_using_word _ h = another h

pub mark_using_word : IsMark (is m.using_word) (at t.Using)
mark_using_word = mark_of m.using_word t.Using refl only_using_word

only_namespace : (y : Terminal) → m.namespace y ≡ true → y ≡ t.Namespace
only_namespace t.Namespace h = refl
only_namespace _ h = another h

pub mark_namespace : IsMark (is m.namespace) (at t.Namespace)
mark_namespace = mark_of m.namespace t.Namespace refl only_namespace

only_library : (y : Terminal) → m.library y ≡ true → y ≡ t.Library
only_library t.Library h = refl
only_library _ h = another h

pub mark_library : IsMark (is m.library) (at t.Library)
mark_library = mark_of m.library t.Library refl only_library

only_static_word : (y : Terminal) → m.static_word y ≡ true → y ≡ t.Static
only_static_word t.Static h = refl
only_static_word _ h = another h

pub mark_static_word : IsMark (is m.static_word) (at t.Static)
mark_static_word = mark_of m.static_word t.Static refl only_static_word

only_inline_word : (y : Terminal) → m.inline_word y ≡ true → y ≡ t.Inline
only_inline_word t.Inline h = refl
only_inline_word _ h = another h

pub mark_inline_word : IsMark (is m.inline_word) (at t.Inline)
mark_inline_word = mark_of m.inline_word t.Inline refl only_inline_word

only_explicit_word : (y : Terminal) → m.explicit_word y ≡ true → y ≡ t.Explicit
only_explicit_word t.Explicit h = refl
only_explicit_word _ h = another h

pub mark_explicit_word : IsMark (is m.explicit_word) (at t.Explicit)
mark_explicit_word = mark_of m.explicit_word t.Explicit refl only_explicit_word

only_public_word : (y : Terminal) → m.public_word y ≡ true → y ≡ t.Public
only_public_word t.Public h = refl
only_public_word _ h = another h

pub mark_public_word : IsMark (is m.public_word) (at t.Public)
mark_public_word = mark_of m.public_word t.Public refl only_public_word

only_hidden : (y : Terminal) → m.hidden y ≡ true → y ≡ t.Hidden
only_hidden t.Hidden h = refl
only_hidden _ h = another h

pub mark_hidden : IsMark (is m.hidden) (at t.Hidden)
mark_hidden = mark_of m.hidden t.Hidden refl only_hidden

only_module_word : (y : Terminal) → m.module_word y ≡ true → y ≡ t.Module
only_module_word t.Module h = refl
only_module_word _ h = another h

pub mark_module_word : IsMark (is m.module_word) (at t.Module)
mark_module_word = mark_of m.module_word t.Module refl only_module_word

only_module_base : (y : Terminal) → m.module_base y ≡ true → y ≡ t.ModuleBase
only_module_base t.ModuleBase h = refl
only_module_base _ h = another h

pub mark_module_base : IsMark (is m.module_base) (at t.ModuleBase)
mark_module_base = mark_of m.module_base t.ModuleBase refl only_module_base

only_constructor : (y : Terminal) → m.constructor y ≡ true → y ≡ t.Constructor
only_constructor t.Constructor h = refl
only_constructor _ h = another h

pub mark_constructor : IsMark (is m.constructor) (at t.Constructor)
mark_constructor = mark_of m.constructor t.Constructor refl only_constructor

only_has_process : (y : Terminal) → m.has_process y ≡ true → y ≡ t.HasProcess
only_has_process t.HasProcess h = refl
only_has_process _ h = another h

pub mark_has_process : IsMark (is m.has_process) (at t.HasProcess)
mark_has_process = mark_of m.has_process t.HasProcess refl only_has_process

only_clocked_thread : (y : Terminal) → m.clocked_thread y ≡ true → y ≡ t.ClockedThread
only_clocked_thread t.ClockedThread h = refl
only_clocked_thread _ h = another h

pub mark_clocked_thread : IsMark (is m.clocked_thread) (at t.ClockedThread)
mark_clocked_thread = mark_of m.clocked_thread t.ClockedThread refl only_clocked_thread

only_sensitive : (y : Terminal) → m.sensitive y ≡ true → y ≡ t.Sensitive
only_sensitive t.Sensitive h = refl
only_sensitive _ h = another h

pub mark_sensitive : IsMark (is m.sensitive) (at t.Sensitive)
mark_sensitive = mark_of m.sensitive t.Sensitive refl only_sensitive

only_dont_initialize : (y : Terminal) → m.dont_initialize y ≡ true → y ≡ t.DontInitialize
only_dont_initialize t.DontInitialize h = refl
only_dont_initialize _ h = another h

pub mark_dont_initialize : IsMark (is m.dont_initialize) (at t.DontInitialize)
mark_dont_initialize = mark_of m.dont_initialize t.DontInitialize refl only_dont_initialize

only_if_word : (y : Terminal) → m.if_word y ≡ true → y ≡ t.If
only_if_word t.If h = refl
only_if_word _ h = another h

pub mark_if_word : IsMark (is m.if_word) (at t.If)
mark_if_word = mark_of m.if_word t.If refl only_if_word

only_else_word : (y : Terminal) → m.else_word y ≡ true → y ≡ t.Else
only_else_word t.Else h = refl
only_else_word _ h = another h

pub mark_else_word : IsMark (is m.else_word) (at t.Else)
mark_else_word = mark_of m.else_word t.Else refl only_else_word

only_switch_word : (y : Terminal) → m.switch_word y ≡ true → y ≡ t.Switch
only_switch_word t.Switch h = refl
only_switch_word _ h = another h

pub mark_switch_word : IsMark (is m.switch_word) (at t.Switch)
mark_switch_word = mark_of m.switch_word t.Switch refl only_switch_word

only_case_word : (y : Terminal) → m.case_word y ≡ true → y ≡ t.Case
only_case_word t.Case h = refl
only_case_word _ h = another h

pub mark_case_word : IsMark (is m.case_word) (at t.Case)
mark_case_word = mark_of m.case_word t.Case refl only_case_word

only_default_word : (y : Terminal) → m.default_word y ≡ true → y ≡ t.Default
only_default_word t.Default h = refl
only_default_word _ h = another h

pub mark_default_word : IsMark (is m.default_word) (at t.Default)
mark_default_word = mark_of m.default_word t.Default refl only_default_word

only_while_word : (y : Terminal) → m.while_word y ≡ true → y ≡ t.While
only_while_word t.While h = refl
only_while_word _ h = another h

pub mark_while_word : IsMark (is m.while_word) (at t.While)
mark_while_word = mark_of m.while_word t.While refl only_while_word

only_do_word : (y : Terminal) → m.do_word y ≡ true → y ≡ t.Do
only_do_word t.Do h = refl
only_do_word _ h = another h

pub mark_do_word : IsMark (is m.do_word) (at t.Do)
mark_do_word = mark_of m.do_word t.Do refl only_do_word

only_for_word : (y : Terminal) → m.for_word y ≡ true → y ≡ t.For
only_for_word t.For h = refl
only_for_word _ h = another h

pub mark_for_word : IsMark (is m.for_word) (at t.For)
mark_for_word = mark_of m.for_word t.For refl only_for_word

only_break_word : (y : Terminal) → m.break_word y ≡ true → y ≡ t.Break
only_break_word t.Break h = refl
only_break_word _ h = another h

pub mark_break_word : IsMark (is m.break_word) (at t.Break)
mark_break_word = mark_of m.break_word t.Break refl only_break_word

only_continue_word : (y : Terminal) → m.continue_word y ≡ true → y ≡ t.Continue
only_continue_word t.Continue h = refl
only_continue_word _ h = another h

pub mark_continue_word : IsMark (is m.continue_word) (at t.Continue)
mark_continue_word = mark_of m.continue_word t.Continue refl only_continue_word

only_return_word : (y : Terminal) → m.return_word y ≡ true → y ≡ t.Return
only_return_word t.Return h = refl
only_return_word _ h = another h

pub mark_return_word : IsMark (is m.return_word) (at t.Return)
mark_return_word = mark_of m.return_word t.Return refl only_return_word

only_wait_word : (y : Terminal) → m.wait_word y ≡ true → y ≡ t.Wait
only_wait_word t.Wait h = refl
only_wait_word _ h = another h

pub mark_wait_word : IsMark (is m.wait_word) (at t.Wait)
mark_wait_word = mark_of m.wait_word t.Wait refl only_wait_word

pub only_new_word : (y : Terminal) → m.new_word y ≡ true → y ≡ t.New
only_new_word t.New h = refl
only_new_word _ h = another h

pub mark_new_word : IsMark (is m.new_word) (at t.New)
mark_new_word = mark_of m.new_word t.New refl only_new_word

only_static_cast : (y : Terminal) → m.static_cast y ≡ true → y ≡ t.StaticCast
only_static_cast t.StaticCast h = refl
only_static_cast _ h = another h

pub mark_static_cast : IsMark (is m.static_cast) (at t.StaticCast)
mark_static_cast = mark_of m.static_cast t.StaticCast refl only_static_cast

only_concat : (y : Terminal) → m.concat y ≡ true → y ≡ t.Concat
only_concat t.Concat h = refl
only_concat _ h = another h

pub mark_concat : IsMark (is m.concat) (at t.Concat)
mark_concat = mark_of m.concat t.Concat refl only_concat

only_brace_open : (y : Terminal) → m.brace_open y ≡ true → y ≡ t.BraceOpen
only_brace_open t.BraceOpen h = refl
only_brace_open _ h = another h

pub mark_brace_open : IsMark (is m.brace_open) (at t.BraceOpen)
mark_brace_open = mark_of m.brace_open t.BraceOpen refl only_brace_open

only_brace_close : (y : Terminal) → m.brace_close y ≡ true → y ≡ t.BraceClose
only_brace_close t.BraceClose h = refl
only_brace_close _ h = another h

pub mark_brace_close : IsMark (is m.brace_close) (at t.BraceClose)
mark_brace_close = mark_of m.brace_close t.BraceClose refl only_brace_close

pub only_paren_open : (y : Terminal) → m.paren_open y ≡ true → y ≡ t.ParenOpen
only_paren_open t.ParenOpen h = refl
only_paren_open _ h = another h

pub mark_paren_open : IsMark (is m.paren_open) (at t.ParenOpen)
mark_paren_open = mark_of m.paren_open t.ParenOpen refl only_paren_open

only_paren_close : (y : Terminal) → m.paren_close y ≡ true → y ≡ t.ParenClose
only_paren_close t.ParenClose h = refl
only_paren_close _ h = another h

pub mark_paren_close : IsMark (is m.paren_close) (at t.ParenClose)
mark_paren_close = mark_of m.paren_close t.ParenClose refl only_paren_close

only_bracket_close : (y : Terminal) → m.bracket_close y ≡ true → y ≡ t.BracketClose
only_bracket_close t.BracketClose h = refl
only_bracket_close _ h = another h

pub mark_bracket_close : IsMark (is m.bracket_close) (at t.BracketClose)
mark_bracket_close = mark_of m.bracket_close t.BracketClose refl only_bracket_close

only_less : (y : Terminal) → m.less y ≡ true → y ≡ t.Less
only_less t.Less h = refl
only_less _ h = another h

pub mark_less : IsMark (is m.less) (at t.Less)
mark_less = mark_of m.less t.Less refl only_less

only_greater : (y : Terminal) → m.greater y ≡ true → y ≡ t.Greater
only_greater t.Greater h = refl
only_greater _ h = another h

pub mark_greater : IsMark (is m.greater) (at t.Greater)
mark_greater = mark_of m.greater t.Greater refl only_greater

only_semicolon : (y : Terminal) → m.semicolon y ≡ true → y ≡ t.Semicolon
only_semicolon t.Semicolon h = refl
only_semicolon _ h = another h

pub mark_semicolon : IsMark (is m.semicolon) (at t.Semicolon)
mark_semicolon = mark_of m.semicolon t.Semicolon refl only_semicolon

only_comma : (y : Terminal) → m.comma y ≡ true → y ≡ t.Comma
only_comma t.Comma h = refl
only_comma _ h = another h

pub mark_comma : IsMark (is m.comma) (at t.Comma)
mark_comma = mark_of m.comma t.Comma refl only_comma

only_colon : (y : Terminal) → m.colon y ≡ true → y ≡ t.Colon
only_colon t.Colon h = refl
only_colon _ h = another h

pub mark_colon : IsMark (is m.colon) (at t.Colon)
mark_colon = mark_of m.colon t.Colon refl only_colon

only_scope : (y : Terminal) → m.scope y ≡ true → y ≡ t.Scope
only_scope t.Scope h = refl
only_scope _ h = another h

pub mark_scope : IsMark (is m.scope) (at t.Scope)
mark_scope = mark_of m.scope t.Scope refl only_scope

only_question : (y : Terminal) → m.question y ≡ true → y ≡ t.Question
only_question t.Question h = refl
only_question _ h = another h

pub mark_question : IsMark (is m.question) (at t.Question)
mark_question = mark_of m.question t.Question refl only_question

only_assign : (y : Terminal) → m.assign y ≡ true → y ≡ t.Assign
only_assign t.Assign h = refl
only_assign _ h = another h

pub mark_assign : IsMark (is m.assign) (at t.Assign)
mark_assign = mark_of m.assign t.Assign refl only_assign

only_shift_left : (y : Terminal) → m.shift_left y ≡ true → y ≡ t.ShiftLeft
only_shift_left t.ShiftLeft h = refl
only_shift_left _ h = another h

pub mark_shift_left : IsMark (is m.shift_left) (at t.ShiftLeft)
mark_shift_left = mark_of m.shift_left t.ShiftLeft refl only_shift_left

only_shift_right : (y : Terminal) → m.shift_right y ≡ true → y ≡ t.ShiftRight
only_shift_right t.ShiftRight h = refl
only_shift_right _ h = another h

pub mark_shift_right : IsMark (is m.shift_right) (at t.ShiftRight)
mark_shift_right = mark_of m.shift_right t.ShiftRight refl only_shift_right

only_star_mark : (y : Terminal) → m.star_mark y ≡ true → y ≡ t.Star
only_star_mark t.Star h = refl
only_star_mark _ h = another h

pub mark_star_mark : IsMark (is m.star_mark) (at t.Star)
mark_star_mark = mark_of m.star_mark t.Star refl only_star_mark

only_and_mark : (y : Terminal) → m.and_mark y ≡ true → y ≡ t.And
only_and_mark t.And h = refl
only_and_mark _ h = another h

pub mark_and_mark : IsMark (is m.and_mark) (at t.And)
mark_and_mark = mark_of m.and_mark t.And refl only_and_mark

only_bracket_open : (y : Terminal) → m.bracket_open y ≡ true → y ≡ t.BracketOpen
only_bracket_open t.BracketOpen h = refl
only_bracket_open _ h = another h

pub mark_bracket_open : IsMark (is m.bracket_open) (at t.BracketOpen)
mark_bracket_open = mark_of m.bracket_open t.BracketOpen refl only_bracket_open

-- ---- tokens that say something

pick_is : {A : Type 0} (f : Terminal → Option A) (s : Seen) (a : A) (p : Place) → pick f s ≡ Some (a, p) → (f s.terminal ≡ Some a) × (s.place ≡ p)
pick_is {A} f s a p h = go (f s.terminal) refl h
  where
    go : (o : Option A) → f s.terminal ≡ o → placed_at o s.place ≡ Some (a, p) → (f s.terminal ≡ Some a) × (s.place ≡ p)
    go (Some b) k e = let both : (b ≡ a) × (s.place ≡ p) = some_pair b a s.place p e in (k ∙ ap (λ z. Some z) both.0, both.1)
    go None k e = cc

-- a token of which one example is known
pub answers_pick : {A B : Type 0} {k : ℕ} {Q : Rule Seen B} {f : Terminal → Option A} {g : A × Place → Parser B} (w₀ : Terminal) (a₀ : A) → f w₀ ≡ Some a₀
    → ((s : A × Place) → Answers k (λ b mid r. (w : Terminal) → f w ≡ Some s.0 → Q b (at w s.1 ∷ mid) r) (g s)) → Answers 1 Q (token (pick f) >>= g)
answers_pick {A} {B} {k} {Q} {f} {g} w₀ a₀ e₀ h = answers_head (at w₀ here) (a₀, here) (ap (λ o. placed_at o here) e₀) (λ s. answers_by _ _ (λ b mid r d t e. go s b mid r d t e) (h s))
  where
    go : (s : A × Place) (b : B) (mid r : Text) → ((w : Terminal) → f w ≡ Some s.0 → Q b (at w s.1 ∷ mid) r) → (t : Seen) → pick f t ≡ Some s → Q b (t ∷ mid) r
    go s b mid r d t e = let both : (f t.terminal ≡ Some s.0) × (t.place ≡ s.1) = pick_is f t s.0 s.1 e in rw (← both.1) at (d t.terminal both.0)

identifier_is : (w : Terminal) (x : Name) → identifier w ≡ Some x → w ≡ t.Ident x
identifier_is (t.Ident y) x h = ap (λ z. t.Ident z) (some_is y x h)
identifier_is _ x h = cc

-- an identifier
pub answers_name : {B : Type 0} {k : ℕ} {Q : Rule Seen B} {g : Name × Place → Parser B}
    → ((x : Name × Place) → Answers k (λ b mid r. Q b (at (t.Ident x.0) x.1 ∷ mid) r) (g x)) → Answers 1 Q (name_at >>= g)
answers_name {B} {k} {Q} {g} h = answers_pick (t.Ident (record { 0 = 0 })) (record { 0 = 0 }) refl (λ x. answers_by _ _ (λ b mid r d w e. rw (identifier_is w x.0 e) d) (h x))

-- ---- what closes a list between angle brackets

closing_is : (inside : Bool) (w : Terminal) (both : Bool) → closing inside w ≡ Some both → (w ≡ closer both) × (inside ≡ false → both ≡ false)
closing_is inside t.Greater true h = cc
closing_is inside t.Greater false h = (refl, λ _. refl)
closing_is true t.ShiftRight true h = (refl, λ k. k)
closing_is true t.ShiftRight false h = cc
closing_is false t.ShiftRight both h = cc
closing_is inside _ both h = cc

pub answers_close : {B : Type 0} {k : ℕ} {Q : Rule Seen B} {g : Bool → Parser B} (inside : Bool)
    → ((both : Bool) → Answers k (λ b mid r. (c : Place) → (inside ≡ false → both ≡ false) → Q b (at (closer both) c ∷ mid) r) (g both)) → Answers 1 Q (close inside >>= g)
answers_close {B} {k} {Q} {g} inside h = answers_head (at t.Greater here) false refl (λ both. answers_by _ _ (λ b mid r d s e. go both b mid r d s e) (h both))
  where
    go : (both : Bool) (b : B) (mid r : Text) → ((c : Place) → (inside ≡ false → both ≡ false) → Q b (at (closer both) c ∷ mid) r) → (s : Seen) → closing inside s.terminal ≡ Some both → Q b (s ∷ mid) r
    go both b mid r d s e = let x : (s.terminal ≡ closer both) × (inside ≡ false → both ≡ false) = closing_is inside s.terminal both e in rw (← x.0) at (d s.place x.1)

-- the same, where the last part may have closed it
pub answers_close_unless : {B : Type 0} {k : ℕ} {Q : Rule Seen B} {g : Bool → Parser B} (closed inside : Bool)
    → (closed ≡ true → Answers 0 Q (g false)) → (closed ≡ false → (both : Bool) → Answers k (λ b mid r. (c : Place) → (inside ≡ false → both ≡ false) → Q b (at (closer both) c ∷ mid) r) (g both))
    → Answers 0 Q (close_unless closed inside >>= g)
answers_close_unless true inside h k = h refl
answers_close_unless false inside h k = answers_less (lit≤ tt) (answers_close inside (k refl))

-- a token that passes a test
pub answers_is : {B : Type 0} {k : ℕ} {Q : Rule Seen B} {test : Terminal → Bool} {q : Parser B} (w₀ : Terminal) → test w₀ ≡ true
    → Answers k (λ b mid r. (w : Terminal) (p : Place) → test w ≡ true → Q b (at w p ∷ mid) r) q → Answers 1 Q (mark test >> q)
answers_is {B} {k} {Q} {test} {q} w₀ e₀ h = answers_head (at w₀ here) here (ap (λ b. kept b here) e₀) (λ p. answers_by _ _ (λ b mid r d s e. go p b mid r d s (test s.terminal) refl e) h)
  where
    go : (p : Place) (b : B) (mid r : Text) → ((w : Terminal) (p : Place) → test w ≡ true → Q b (at w p ∷ mid) r) → (s : Seen) (c : Bool) → test s.terminal ≡ c → kept c s.place ≡ Some p → Q b (s ∷ mid) r
    go p b mid r d s true k e = d s.terminal s.place k
    go p b mid r d s false k e = cc
