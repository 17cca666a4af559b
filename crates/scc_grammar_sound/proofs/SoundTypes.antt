-- What is read as a type is one, each step can be completed, and none looks past the next token.
use Rattle.std.specs.Prelude.{◌≡◌, Bool, true, false, not, ◌&&◌, List, [], ◌∷◌, Some, None, refl, cond}
use Rattle.std.proofs.Common.{lit≤}
use Rattle.scc_base.specs.declared.names.Name.{Name}
use Rattle.scc_base.specs.declared.refusal.Place.{Place}
use Rattle.scc_bits_kinds.specs.declared.kind.Kind.{Kind}
use Rattle.scc_tree.specs.declared.ty.TyArg.{TyArg}
use Rattle.scc_tree.specs.declared.ty.TyNode.TheVariants as ty
use Rattle.scc_reading.specs.Reading.{◌>>=◌, pure}
use Rattle.scc_reading.proofs.Answer.{Rule, Answers}
use Rattle.scc_reading.proofs.Core.{answers_by, answers_choose}
use Rattle.scc_reading.proofs.Repeat.{answers_repeat_while}
use Rattle.scc_reading.proofs.Steps.{answers_less, answers_seq, answers_mark, answers_mark_at, answers_pure_at, answers_choose_by}
use Rattle.scc_grammar_terminals.specs.declared.part.Sort.TheVariants as sort
use Rattle.scc_grammar_terminals.specs.declared.part.TypeRead.{TypeRead}
use Rattle.scc_grammar_terminals.specs.declared.terminal.Seen.{Seen}
use Rattle.scc_grammar_terminals.specs.declared.terminal.Terminal.{Terminal}
use Rattle.scc_grammar_terminals.specs.declared.terminal.Terminal.TheVariants as t
use Rattle.scc_grammar_terminals.specs.First.{BaseStart, kind_start, short_start, clock_start, module_name_start, integer_start, sized_start, holder_start, name_start, base_start}
use Rattle.scc_grammar_terminals.specs.Inner.{Inner}
use Rattle.scc_grammar_terminals.specs.Marks as m
use Rattle.scc_grammar_terminals.specs.Names.{Names, is_type, is_template}
use Rattle.scc_grammar_terminals.specs.Nodes.{base_of, native}
use Rattle.scc_grammar_spec.specs.Expressions.{ReadsShort, ReadsInteger, ReadsBase, ReadsType, ReadsTyArg, ReadsTyArgs, ReadsTyRest}
use Rattle.scc_grammar_spec.specs.ParseExpressions as p
use Rattle.scc_grammar_terminals.specs.Text.{Text, at}
use Rattle.scc_grammar_sound.proofs.SoundMarks.{some_is, mark_int, mark_short, mark_char, mark_less, mark_comma, mark_constant, answers_pick, answers_close, answers_close_unless}
use Rattle.scc_grammar_sound.proofs.SoundRules.{RBase, RType, RTyArg, Sound}

sound_int_word : Answers 0 (λ x ts r. ReadsShort ts r) p.int_word
unfolding p.int_word
sound_int_word = answers_choose 0 _ _ _ _ (answers_less (lit≤ tt) (answers_mark mark_int (answers_pure_at (λ y q. ReadsShort.int)))) (answers_pure_at (λ y. ReadsShort.alone))

sound_integer : (s : Bool) → Answers 0 (λ k ts r. ReadsInteger s ts r k) (p.integer s)
unfolding p.integer
sound_integer s = answers_choose 0 _ _ _ _ (answers_less (lit≤ tt) (answers_mark mark_int (answers_pure_at (λ y q. ReadsInteger.int))))
    (answers_choose 0 _ _ _ _ (answers_less (lit≤ tt) (answers_mark mark_short (answers_seq sound_int_word (λ u. answers_pure_at (λ y ts d q. ReadsInteger.short d)))))
    (answers_choose 0 _ _ _ _ (answers_less (lit≤ tt) (answers_mark mark_char (answers_pure_at (λ y q. ReadsInteger.char)))) (answers_pure_at (λ y. ReadsInteger.alone))))

module _ (names : Names) where
  -- what a token says that begins a type
  abbrev StartIs : Terminal → BaseStart → Type 0
  StartIs w (kind_start k) = (q : Place) (r : Text) → ReadsBase names sort.Word false q (at w q ∷ r) r (base_of q (ty.Number k))
  StartIs w short_start = w ≡ t.Short
  StartIs w clock_start = w ≡ t.ClockInput
  StartIs w module_name_start = w ≡ t.ModuleName
  StartIs w (integer_start s) = (q : Place) (a r : Text) (k : Kind) → ReadsInteger s a r k → ReadsBase names sort.Word false q (at w q ∷ a) r (base_of q (ty.Number k))
  StartIs w (sized_start f) = w ≡ t.Sized f
  StartIs w (holder_start h) = w ≡ t.Holder h
  StartIs w (name_start x) = (w ≡ t.Ident x) × (is_type names x ≡ true)

  said : (w : Terminal) {a b : BaseStart} → Some a ≡ Some b → StartIs w a → StartIs w b
  said w {a} {b} h d = let same : a ≡ b = some_is a b h in rw same at d

  start_name : (x : Name) (a : BaseStart) (b : Bool) → is_type names x ≡ b → cond b (Some (name_start x)) None ≡ Some a → StartIs (t.Ident x) a
  start_name x a true e h = said (t.Ident x) h (refl, e)
  start_name x a false e h = cc

  pub start_is : (w : Terminal) (a : BaseStart) → base_start names w ≡ Some a → StartIs w a
  start_is t.Bool a h = said t.Bool h (λ q r. ReadsBase.bool)
  start_is t.Int a h = said t.Int h (λ q r. ReadsBase.int)
  start_is t.Short a h = said t.Short h refl
  start_is (t.Long s) a h = said (t.Long s) h (λ q r. ReadsBase.long)
  start_is t.Signed a h = said t.Signed h (λ q a r k d. ReadsBase.signed d)
  start_is t.Unsigned a h = said t.Unsigned h (λ q a r k d. ReadsBase.unsigned d)
  start_is (t.Sized f) a h = said (t.Sized f) h refl
  start_is (t.Holder f) a h = said (t.Holder f) h refl
  start_is t.ClockInput a h = said t.ClockInput h refl
  start_is t.ModuleName a h = said t.ModuleName h refl
  start_is (t.Ident x) a h = start_name x a (is_type names x) refl h
  start_is _ a h = cc

  pub and_both : (a b : Bool) → (a && b) ≡ true → (a ≡ true) × (b ≡ true)
  and_both true b h = (refl, h)
  and_both false b h = cc

  -- ---- arguments between angle brackets

  -- what follows an argument, which may have closed the list
  abbrev Tail : Bool → Bool → Text → Text → List TyArg → Type 0
  Tail true both ts r rest = (rest ≡ []) × (both ≡ false) × (ts ≡ r)
  Tail false both ts r rest = ReadsTyRest names both ts r rest

  abbrev RNext : Bool → Rule Seen (TyArg × Bool)
  RNext closed = λ x ts mid. (both : Bool) (r : Text) (rest : List TyArg) → Tail x.1 both mid r rest → ReadsTyRest names both ts r (x.0 ∷ rest)

  abbrev RMore : Bool → Rule Seen (List TyArg × Bool)
  RMore closed = λ x ts mid. (both : Bool) (r : Text) → Tail x.1 both mid r [] → Tail closed both ts r x.0

  one_more : (closed : Bool) (c : Place) (of : TyArg) (a mid : Text) → ReadsTyArg names closed a mid of → (both : Bool) (r : Text) (rest : List TyArg) → Tail closed both mid r rest → ReadsTyRest names both (at t.Comma c ∷ a) r (of ∷ rest)
  one_more true c of a mid d both r rest h = rw (← h.2) (rw (h.0, h.1) (ReadsTyRest.last_both d))
  one_more false c of a mid d both r rest h = ReadsTyRest.more_args d h

  from_first : (closed : Bool) (of : TyArg) (ts mid : Text) → ReadsTyArg names closed ts mid of → (both : Bool) (r : Text) (rest : List TyArg) → Tail closed both mid r rest → ReadsTyArgs names both ts r (of ∷ rest)
  from_first true of ts mid d both r rest h = rw (← h.2) (rw (h.0, h.1) (ReadsTyArgs.arg_both d))
  from_first false of ts mid d both r rest h = ReadsTyArgs.args d h

  not_closed : (closed : Bool) (w : Seen) → (not closed && m.comma w.terminal) ≡ true → closed ≡ false
  not_closed true w h = cc
  not_closed false w h = refl

  to_rest : (closed : Bool) → closed ≡ false → (both : Bool) (ts r : Text) (rest : List TyArg) → ReadsTyRest names both ts r rest → Tail closed both ts r rest
  to_rest true h both ts r rest d = cc
  to_rest false h both ts r rest d = d

  abbrev pub RTyArgs : Bool → Rule Seen (List TyArg × Bool)
  RTyArgs inside = λ x ts r. ReadsTyArgs names x.1 ts r x.0 × (inside ≡ false → x.1 ≡ false)

  module _ (i : Inner) (S : Sound names i) where
    pub sound_one_ty_arg : (closed : Bool) → Answers 1 (RNext closed) (p.one_ty_arg names i closed)
    sound_one_ty_arg closed = answers_mark mark_comma (answers_by _ _ (λ x a mid d c. one_more x.1 c x.0 a mid d) S.ty_arg)

    sound_more_ty_args : (closed : Bool) → Answers 0 (RMore closed) (p.more_ty_args names i closed)
    sound_more_ty_args = answers_repeat_while (p.next_ty_arg names i) 0 RNext (p.one_ty_arg names i) sound_one_ty_arg (λ closed. closed ≡ false) not_closed RNext (λ closed h. sound_one_ty_arg closed)
        RMore (λ closed y both r h. h) (λ closed h x more ts mid r d k both e tail. to_rest closed h both ts e _ (d both e more.0 (k both e tail)))

    sound_ty_args_end : (inside : Bool) (first : TyArg × Bool) (more : List TyArg × Bool)
        → Answers 0 (λ x k r. (m : Text) → RMore first.1 more m k → (ts : Text) → RTyArg names first ts m → RTyArgs inside x ts r) (p.close_unless more.1 inside >>= λ both. pure (first.0 ∷ more.0, both))
    sound_ty_args_end inside first more = answers_close_unless more.1 inside
        (λ h. answers_pure_at (λ y m d ts e. (from_first first.1 first.0 ts m e false y more.0 (d false y (rw h (refl, refl, refl))), λ _. refl)))
        (λ h both. answers_pure_at (λ y c k m d ts e. (from_first first.1 first.0 ts m e both y more.0 (d both y (rw h ReadsTyRest.close_args)), k)))

    pub sound_ty_args : (inside : Bool) → Answers 1 (RTyArgs inside) (p.ty_args names i inside)
    unfolding p.ty_args
    sound_ty_args inside = answers_choose 1 _ _ _ _ (answers_close inside (λ both. answers_pure_at (λ y c k. (ReadsTyArgs.no_args, k))))
        (answers_seq S.ty_arg (λ first. answers_seq (sound_more_ty_args first.1) (λ more. sound_ty_args_end inside first more)))

    -- ---- types

    abbrev RNamed : Bool → Name → Place → Rule Seen TypeRead
    RNamed inside x q = λ b mid r. is_type names x ≡ true → RBase names inside b (at (t.Ident x) q ∷ mid) r

    pub sound_named_by : (inside : Bool) (x : Name) (q : Place) → Answers 0 (RNamed inside x q) (p.named_by names i inside x q)
    unfolding p.named_by
    sound_named_by inside x q = answers_choose_by (λ s e. (and_both (is_template names x) (m.less s.terminal) e).0)
        (λ e. answers_less (lit≤ tt) (answers_mark mark_less (answers_seq (sound_ty_args inside) (λ args. answers_pure_at (λ y ts d l k. (ReadsBase.with_args e d.0, d.1))))))
        (answers_pure_at (λ y k. (ReadsBase.named k, λ _. refl)))

    abbrev BaseRest : Bool → BaseStart → Place → Rule Seen TypeRead
    BaseRest inside a q = λ b mid r. (w : Terminal) → base_start names w ≡ Some a → RBase names inside b (at w q ∷ mid) r

    sound_base_by : (inside : Bool) (a : BaseStart) (q : Place) → Answers 0 (BaseRest inside a q) (p.base_by names i inside a q)
    unfolding p.base_by
    sound_base_by inside (kind_start k) q = answers_pure_at (λ y w h. (start_is w (kind_start k) h q y, λ _. refl))
    sound_base_by inside short_start q = answers_less (lit≤ tt) (answers_seq sound_int_word (λ u. answers_pure_at (λ y ts d w h. rw (start_is w short_start h) (ReadsBase.short d, λ _. refl))))
    sound_base_by inside (integer_start s) q = answers_seq (sound_integer s) (λ k. answers_pure_at (λ y ts d w h. (start_is w (integer_start s) h q ts y k d, λ _. refl)))
    sound_base_by inside (sized_start f) q = answers_less (lit≤ tt) (answers_mark mark_less (answers_seq S.additive (λ width. answers_close inside (λ both. answers_pure_at (λ y c k ts d l w h. rw (start_is w (sized_start f) h) (ReadsBase.sized d.1, k))))))
    sound_base_by inside (holder_start f) q = answers_less (lit≤ tt) (answers_mark mark_less (answers_seq S.ty (λ of. answers_close_unless of.both inside
        (λ e. answers_pure_at (λ y ts d l w h. rw (start_is w (holder_start f) h) (ReadsBase.holder_both (rw e at d.0), λ _. refl)))
        (λ e both. answers_pure_at (λ y c k ts d l w h. rw (start_is w (holder_start f) h) (ReadsBase.holder (rw e at d.0), k))))))
    sound_base_by inside clock_start q = answers_pure_at (λ y w h. rw (start_is w clock_start h) (ReadsBase.clock_input, λ _. refl))
    sound_base_by inside module_name_start q = answers_pure_at (λ y w h. rw (start_is w module_name_start h) (ReadsBase.module_name, λ _. refl))
    sound_base_by inside (name_start x) q = answers_by _ _ (λ b mid r d w h. let k : (w ≡ t.Ident x) × (is_type names x ≡ true) = start_is w (name_start x) h in rw k.0 (d k.1)) (sound_named_by inside x q)

    pub sound_base : (inside : Bool) → Answers 1 (RBase names inside) (p.base_at names i inside)
    unfolding p.base_at
    sound_base inside = answers_pick t.Int (kind_start (native 32 true)) refl (λ s. sound_base_by inside s.0 s.1)

    pub sound_type : (inside : Bool) → Answers 1 (RType names inside) (p.type_at names i inside)
    unfolding p.type_at
    sound_type inside = answers_choose 1 _ _ _ _ (answers_mark_at mark_constant (λ q. answers_seq (sound_base inside) (λ b. answers_pure_at (λ y ts d. (ReadsType.constant d.0, d.1)))))
        (answers_by _ _ (λ b ts r d. (ReadsType.plain d.0, d.1)) (sound_base inside))
