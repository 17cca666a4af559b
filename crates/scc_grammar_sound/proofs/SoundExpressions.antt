-- What is read as an expression is one, each step can be completed, and none looks past the next token.
use Rattle.std.specs.Prelude.{◌≡◌, ℕ, zero, suc, ◌<◌, ◌≤◌, Bool, true, false, ◌||◌, List, ◌∷◌, Some, None, refl, cond, ◌⊎◌}
use Rattle.std.proofs.Common.{arith, lit≤, inl, inr}
use Rattle.scc_base.specs.declared.names.Name.{Name}
use Rattle.scc_base.specs.declared.refusal.Place.{Place}
use Rattle.scc_bits_kinds.specs.declared.op.Op.{Op}
use Rattle.scc_bits_kinds.specs.declared.op.Op.TheVariants as op
use Rattle.scc_tree.specs.declared.expr.Expr.{Expr}
use Rattle.scc_tree.specs.declared.expr.Link.{Link}
use Rattle.scc_tree.specs.declared.expr.Part.{Part}
use Rattle.scc_tree.specs.declared.expr.UnaryOp.TheVariants as unary
use Rattle.scc_tree.specs.declared.ty.Ty.{Ty}
use Rattle.scc_tree.specs.declared.ty.TyArg.{TyArg}
use Rattle.scc_reading.specs.Reading.{◌>>=◌, repeat}
use Rattle.scc_reading.proofs.Answer.{Rule, Answers}
use Rattle.scc_reading.proofs.Core.{answers_by, answers_choose, answers_fail}
use Rattle.scc_reading.proofs.Repeat.{answers_repeat, answers_repeat_in}
use Rattle.scc_reading.proofs.Steps.{answers_less, answers_seq, answers_mark, answers_mark_at, answers_pure_at, answers_if}
use Rattle.scc_grammar_terminals.specs.declared.part.Bracketed.{Bracketed}
use Rattle.scc_grammar_terminals.specs.declared.part.Bracketed.TheVariants.{AType, AnExpr}
use Rattle.scc_grammar_terminals.specs.declared.part.Sort.{Sort}
use Rattle.scc_grammar_terminals.specs.declared.part.Sort.TheVariants as sort
use Rattle.scc_grammar_terminals.specs.declared.part.TypeRead.{TypeRead}
use Rattle.scc_grammar_terminals.specs.declared.terminal.Seen.{Seen}
use Rattle.scc_grammar_terminals.specs.declared.terminal.Terminal.{Terminal}
use Rattle.scc_grammar_terminals.specs.declared.terminal.Terminal.TheVariants as t
use Rattle.scc_grammar_terminals.specs.First.{PartStart, index_start, call_start, member_start, arrow_start, PrimaryStart, number_start, truth_start, this_start, null_start, cast_start, concat_start, value_start, part_start, primary_start}
use Rattle.scc_grammar_terminals.specs.Inner.{Inner}
use Rattle.scc_grammar_terminals.specs.Marks as m
use Rattle.scc_grammar_terminals.specs.Names.{Names, is_type}
use Rattle.scc_grammar_terminals.specs.Operators.{operator, sum, every}
use Rattle.scc_grammar_spec.specs.Expressions.{ReadsBase, ReadsType, ReadsTyArg, ReadsChain, ReadsLinks, ReadsExpr, ReadsUnary, ReadsPrimary, ReadsExprs, ReadsParts, ReadsCargs, ReadsMoreCargs, ReadsCarg, ReadsNew}
use Rattle.scc_grammar_spec.specs.ParseExpressions as p
use Rattle.scc_grammar_spec.specs.ParseExpressions.{is_constant, is_named}
use Rattle.scc_grammar_terminals.specs.Text.{Text, at, next_is, next_says}
use Rattle.scc_grammar_sound.proofs.SoundMarks.{some_is, mark_less, mark_comma, mark_colon, mark_scope, mark_question, mark_paren_open, mark_paren_close, mark_bracket_close, mark_text, mark_new_word, answers_pick, answers_name, answers_close_unless}
use Rattle.scc_grammar_sound.proofs.SoundRules.{RBase, RType, RTyArg, RChain, RExpr, RPlaced, RPrimary, RBracketed, RCarg, Sound}
use Rattle.scc_grammar_sound.proofs.SoundTypes.{sound_base, sound_type}

-- what a token says that begins a part
abbrev PartIs : Terminal → PartStart → Type 0
PartIs w index_start = w ≡ t.BracketOpen
PartIs w call_start = w ≡ t.ParenOpen
PartIs w member_start = w ≡ t.Dot
PartIs w arrow_start = w ≡ t.Arrow

part_said : (w : Terminal) {a b : PartStart} → Some a ≡ Some b → PartIs w a → PartIs w b
part_said w {a} {b} h d = let same : a ≡ b = some_is a b h in rw same at d

part_is : (w : Terminal) (a : PartStart) → part_start w ≡ Some a → PartIs w a
part_is t.BracketOpen a h = part_said t.BracketOpen h refl
part_is t.ParenOpen a h = part_said t.ParenOpen h refl
part_is t.Dot a h = part_said t.Dot h refl
part_is t.Arrow a h = part_said t.Arrow h refl
part_is _ a h = cc

-- an operator of each level
an_operator : (k : ℕ) → k < 10 → (w : Terminal) × (o : Op) × (operator k w ≡ Some o)
an_operator zero h = (t.Star, _, refl)
an_operator (suc zero) h = (t.Plus, _, refl)
an_operator (suc (suc zero)) h = (t.ShiftLeft, _, refl)
an_operator (suc (suc (suc zero))) h = (t.Less, _, refl)
an_operator (suc (suc (suc (suc zero)))) h = (t.Equal op.Eq, _, refl)
an_operator (suc (suc (suc (suc (suc zero))))) h = (t.And, _, refl)
an_operator (suc (suc (suc (suc (suc (suc zero)))))) h = (t.Xor, _, refl)
an_operator (suc (suc (suc (suc (suc (suc (suc zero))))))) h = (t.Or, _, refl)
an_operator (suc (suc (suc (suc (suc (suc (suc (suc zero)))))))) h = (t.LogAnd, _, refl)
an_operator (suc (suc (suc (suc (suc (suc (suc (suc (suc zero))))))))) h = (t.LogOr, _, refl)
an_operator (suc (suc (suc (suc (suc (suc (suc (suc (suc (suc k)))))))))) h = absurd (omega arith)

is_named_sort : (s : Sort) → is_named s ≡ true → s ≡ sort.Named
is_named_sort sort.Constant h = cc
is_named_sort sort.Word h = cc
is_named_sort sort.Named h = refl

module _ (names : Names) where
  -- what a token says that begins a primary
  abbrev PrimaryIs : Terminal → PrimaryStart → Type 0
  PrimaryIs w (number_start k v) = w ≡ t.Number k v
  PrimaryIs w (truth_start b) = w ≡ t.Truth b
  PrimaryIs w this_start = w ≡ t.This
  PrimaryIs w null_start = w ≡ t.Null
  PrimaryIs w cast_start = w ≡ t.StaticCast
  PrimaryIs w concat_start = w ≡ t.Concat
  PrimaryIs w (value_start x) = (w ≡ t.Ident x) × (is_type names x ≡ false)

  primary_said : (w : Terminal) {a b : PrimaryStart} → Some a ≡ Some b → PrimaryIs w a → PrimaryIs w b
  primary_said w {a} {b} h d = let same : a ≡ b = some_is a b h in rw same at d

  start_value : (x : Name) (a : PrimaryStart) (b : Bool) → is_type names x ≡ b → cond b None (Some (value_start x)) ≡ Some a → PrimaryIs (t.Ident x) a
  start_value x a true e h = cc
  start_value x a false e h = primary_said (t.Ident x) h (refl, e)

  pub primary_is : (w : Terminal) (a : PrimaryStart) → primary_start names w ≡ Some a → PrimaryIs w a
  primary_is (t.Number k v) a h = primary_said (t.Number k v) h refl
  primary_is (t.Truth b) a h = primary_said (t.Truth b) h refl
  primary_is t.This a h = primary_said t.This h refl
  primary_is t.Null a h = primary_said t.Null h refl
  primary_is t.StaticCast a h = primary_said t.StaticCast h refl
  primary_is t.Concat a h = primary_said t.Concat h refl
  primary_is (t.Ident x) a h = start_value x a (is_type names x) refl h
  primary_is _ a h = cc

  -- a type that closes no list
  pub alone : (b : TypeRead) (ts r : Text) → RBase names false b ts r → ReadsBase names b.sort false b.place ts r b.ty
  alone b ts r d = rw (d.1 refl) at d.0

  pub alone_type : (b : TypeRead) (ts r : Text) → RType names false b ts r → ReadsType names b.sort false b.place ts r b.ty
  alone_type b ts r d = rw (d.1 refl) at d.0

  -- a type that does not begin with `const`
  pub without_const : {s : Sort} {both : Bool} {q : Place} {ts r : Text} {of : Ty} → is_constant s ≡ false → ReadsType names s both q ts r of → ReadsBase names s both q ts r of
  without_const h (ReadsType.plain d) = d
  without_const h (ReadsType.constant d) = cc

  module _ (i : Inner) (S : Sound names i) where
    pub sound_make : (q : Place) (to : Ty) → Answers 1 (λ x mid r. (s : Sort) (ts : Text) → ReadsBase names s false q ts mid to → ReadsPrimary names q ts r x) (p.make names i q to)
    unfolding p.make
    sound_make q to = answers_mark mark_paren_open (answers_seq S.expr (λ of. answers_mark mark_paren_close (answers_pure_at (λ y c ts d o s us b. ReadsPrimary.make b d.1))))

    abbrev pub AfterBase : TypeRead → Rule Seen Expr
    AfterBase b = λ x mid r. (ts : Text) → ReadsBase names b.sort false b.place ts mid b.ty → ReadsPrimary names b.place ts r x

    pub sound_after_base : (b : TypeRead) → Answers 1 (AfterBase b) (p.after_base names i b)
    unfolding p.after_base
    sound_after_base b =
        let made : Answers 1 (AfterBase b) (p.make names i b.place b.ty) = answers_by _ _ (λ x mid r d ts k. d b.sort ts k) (sound_make b.place b.ty) in
        answers_choose 1 _ _ _ _ (answers_if (is_named b.sort)
        (λ e. answers_mark mark_scope (answers_name (λ x. answers_pure_at (λ y a ts d. ReadsPrimary.scoped_type (rw (is_named_sort b.sort e) at d)))))
        (λ e. answers_fail 1 _ made.some)) made

    abbrev PrimaryRest : PrimaryStart → Place → Rule Seen Expr
    PrimaryRest a q = λ x mid r. (w : Terminal) → primary_start names w ≡ Some a → ReadsPrimary names q (at w q ∷ mid) r x

    sound_cast : (q : Place) (to : TypeRead) → Answers 0 (λ x k r. (l : Place) (ts : Text) → RType names true to ts k → ReadsPrimary names q (at t.StaticCast q ∷ at t.Less l ∷ ts) r x) (p.close_unless to.both false >>= λ _. p.make names i q to.ty)
    unfolding p.make
    sound_cast q to = answers_close_unless to.both false
        (λ e. answers_less (lit≤ tt) (answers_mark mark_paren_open (answers_seq S.expr (λ of. answers_mark mark_paren_close (answers_pure_at (λ y c us d o l ts k. ReadsPrimary.static_cast_both (rw e at k.0) d.1))))))
        (λ e both. answers_mark mark_paren_open (answers_seq S.expr (λ of. answers_mark mark_paren_close (answers_pure_at (λ y c us d o g h l ts k. ReadsPrimary.static_cast (rw (e, h refl) at k.0) d.1)))))

    sound_primary_by : (a : PrimaryStart) (q : Place) → Answers 0 (PrimaryRest a q) (p.primary_by names i a q)
    unfolding p.primary_by
    sound_primary_by (number_start k v) q = answers_pure_at (λ y w h. rw (primary_is w (number_start k v) h) ReadsPrimary.number)
    sound_primary_by (truth_start b) q = answers_pure_at (λ y w h. rw (primary_is w (truth_start b) h) ReadsPrimary.truth)
    sound_primary_by this_start q = answers_pure_at (λ y w h. rw (primary_is w this_start h) ReadsPrimary.this)
    sound_primary_by null_start q = answers_pure_at (λ y w h. rw (primary_is w null_start h) ReadsPrimary.null)
    sound_primary_by (value_start x) q = answers_choose 0 _ _ _ _
        (answers_less (lit≤ tt) (answers_mark mark_scope (answers_name (λ z. answers_pure_at (λ y a w h. let k : (w ≡ t.Ident x) × (is_type names x ≡ false) = primary_is w (value_start x) h in rw k.0 (ReadsPrimary.scoped k.1))))))
        (answers_pure_at (λ y w h. let k : (w ≡ t.Ident x) × (is_type names x ≡ false) = primary_is w (value_start x) h in rw k.0 (ReadsPrimary.name k.1)))
    sound_primary_by cast_start q = answers_less (lit≤ tt) (answers_mark mark_less (answers_seq S.ty (λ to. answers_by _ _ (λ x k r d ts e l w h. rw (primary_is w cast_start h) (d l ts e)) (sound_cast q to))))
    sound_primary_by concat_start q = answers_less (lit≤ tt) (answers_mark mark_paren_open (answers_seq S.expr (λ first. answers_mark mark_comma (answers_seq S.expr (λ second. answers_mark mark_paren_close
        (answers_pure_at (λ y c us e k ts d o w h. rw (primary_is w concat_start h) (ReadsPrimary.concat d.1 e.1))))))))

    pub sound_plain : Answers 1 (RPrimary names) (p.plain names i)
    unfolding p.plain
    sound_plain = answers_pick t.This this_start refl (λ s. answers_seq (sound_primary_by s.0 s.1) (λ of. answers_pure_at (λ y ts d w h. d w h)))

    pub sound_primary : Answers 1 (RPrimary names) (p.primary names i)
    unfolding p.primary
    sound_primary = answers_choose 1 _ _ _ _ (answers_seq (sound_base names i S false) (λ b. answers_seq (sound_after_base b) (λ of. answers_pure_at (λ y us e ts d. e ts (alone b ts us d))))) sound_plain

    -- ---- lists of expressions and arguments

    abbrev pub ROneExpr : Rule Seen Expr
    ROneExpr = λ x ts mid. (r : Text) (rest : List Expr) → ReadsExprs names mid r rest → ReadsExprs names ts r (x ∷ rest)

    pub sound_one_expr : Answers 1 ROneExpr (p.one_expr names i)
    sound_one_expr = answers_mark mark_comma (answers_by _ _ (λ x ts mid d c r rest k. ReadsExprs.exprs d.1 k) S.expr)

    pub sound_more_exprs : Answers 0 (λ x ts r. ReadsExprs names ts r x) (p.more_exprs names i)
    unfolding p.more_exprs
    sound_more_exprs = answers_repeat (next_is m.comma) (p.one_expr names i) 0 ROneExpr sound_one_expr (λ x ts r. ReadsExprs names ts r x) (λ y. ReadsExprs.no_exprs) (λ a more ts mid r d k. d r more k)

    pub sound_carg : Answers 1 (RCarg names) (p.carg names i)
    unfolding p.carg
    sound_carg = answers_choose 1 _ _ _ _ (answers_mark_at mark_text (λ q. answers_pure_at (λ y. ReadsCarg.text_carg))) S.argument

    abbrev pub ROneCarg : Rule Seen Expr
    ROneCarg = λ x ts mid. (r : Text) (rest : List Expr) → ReadsMoreCargs names mid r rest → ReadsMoreCargs names ts r (x ∷ rest)

    pub sound_one_carg : Answers 1 ROneCarg (p.one_carg names i)
    sound_one_carg = answers_mark mark_comma (answers_by _ _ (λ x ts mid d c r rest k. ReadsMoreCargs.more_cargs d k) sound_carg)

    sound_more_cargs : Answers 0 (λ x ts r. ReadsMoreCargs names ts r x) (p.more_cargs names i)
    unfolding p.more_cargs
    sound_more_cargs = answers_repeat (next_is m.comma) (p.one_carg names i) 0 ROneCarg sound_one_carg (λ x ts r. ReadsMoreCargs names ts r x) (λ y. ReadsMoreCargs.no_more_cargs) (λ a more ts mid r d k. d r more k)

    pub sound_cargs : Answers 0 (λ x ts r. ReadsCargs names ts r x) (p.cargs names i)
    unfolding p.cargs
    sound_cargs = answers_choose 0 _ _ _ _ (answers_pure_at (λ y. ReadsCargs.no_cargs)) (answers_less (lit≤ tt) (answers_seq sound_carg (λ first. answers_seq sound_more_cargs (λ more. answers_pure_at (λ y us e ts d. ReadsCargs.cargs d e)))))

    -- ---- postfix parts

    abbrev pub ROnePart : Bool → Rule Seen (Part × Bool)
    ROnePart b = λ x ts mid. (c : Bool) (r : Text) (rest : List Part) → ReadsParts names x.1 c mid r rest → ReadsParts names b c ts r (x.0 ∷ rest)

    sound_part_by : (b : Bool) (a : PartStart) (q : Place) → Answers 0 (λ x mid r. (w : Terminal) → part_start w ≡ Some a → ROnePart b x (at w q ∷ mid) r) (p.part_by names i a q)
    unfolding p.part_by
    sound_part_by b index_start q = answers_less (lit≤ tt) (answers_seq S.expr (λ of. answers_mark mark_bracket_close (answers_pure_at (λ y k ts d w h c r rest e. rw (part_is w index_start h) (ReadsParts.index d.1 e)))))
    sound_part_by b call_start q = answers_seq sound_cargs (λ found. answers_mark mark_paren_close (answers_pure_at (λ y k ts d w h c r rest e. rw (part_is w call_start h) (ReadsParts.call d e))))
    sound_part_by b member_start q = answers_less (lit≤ tt) (answers_name (λ x. answers_pure_at (λ y w h c r rest e. rw (part_is w member_start h) (ReadsParts.member e))))
    sound_part_by b arrow_start q = answers_less (lit≤ tt) (answers_name (λ x. answers_pure_at (λ y w h c r rest e. rw (part_is w arrow_start h) (ReadsParts.arrow e))))

    pub sound_one_part : (b : Bool) → Answers 1 (ROnePart b) (p.one_part names i b)
    sound_one_part b = answers_pick t.ParenOpen call_start refl (λ s. sound_part_by b s.0 s.1)

    pub sound_parts : Answers 0 (λ x ts r. ReadsParts names false x.1 ts r x.0) (p.parts names i)
    unfolding p.parts
    sound_parts = answers_repeat_in (p.next_part names i) 0 ROnePart (p.one_part names i) sound_one_part (λ b x ts r. ReadsParts names b x.1 ts r x.0) (λ b y. ReadsParts.no_parts) (λ b x more ts mid r d k. d more.1 r more.0 k) false

    abbrev pub AfterPrimary : Place → Expr → Rule Seen Expr
    AfterPrimary q first = λ x ts r. (us : Text) → ReadsPrimary names q us ts first → ReadsUnary names q us r x

    pub sound_postfix_after : (q : Place) (first : Expr) → Answers 0 (AfterPrimary q first) (p.postfix_after names i q first)
    unfolding p.postfix_after
    sound_postfix_after q first = answers_seq sound_parts (λ ps. answers_pure_at (λ y ts d us e. ReadsUnary.postfix e d))

    -- ---- operands

    pub sound_after_brackets : (q : Place) (first : Expr) → Answers 1 (λ x mid r. (k : Place) (ts : Text) → ReadsExpr names k ts mid first → ReadsPrimary names q (at t.ParenOpen q ∷ ts) r x) (p.after_brackets names i q first)
    unfolding p.after_brackets
    sound_after_brackets q first = answers_choose 1 _ _ _ _
        (answers_seq sound_one_expr (λ second. answers_seq sound_more_exprs (λ more. answers_mark mark_paren_close (answers_pure_at (λ y c ms e us d k ts f. ReadsPrimary.brackets f (d _ more e))))))
        (answers_mark mark_paren_close (answers_pure_at (λ y c k ts f. ReadsPrimary.brackets f ReadsExprs.no_exprs)))

    sound_after_open : (q : Place) (found : Bracketed) → Answers 0 (λ x mid r. (ts : Text) → RBracketed names found ts mid → ReadsUnary names q (at t.ParenOpen q ∷ ts) r x) (p.after_open names i q found)
    unfolding p.after_open
    sound_after_open q (AType to) = answers_less (lit≤ tt) (answers_mark mark_paren_close (answers_seq S.unary (λ of. answers_pure_at (λ y us e c ts d. ReadsUnary.cast d.2 e.1))))
    sound_after_open q (AnExpr of) = answers_less (lit≤ tt) (answers_seq (sound_after_brackets q of) (λ whole. answers_by _ _ (λ x mid r d us e ts k. d (at t.ParenOpen q ∷ ts) (e k.0 ts k.1)) (sound_postfix_after q whole)))

    pub sound_unary : Answers 1 (RPlaced names) (p.unary names i)
    unfolding p.unary
    sound_unary = answers_choose 1 _ _ _ _
        (answers_pick t.Plus unary.Plus refl (λ o. answers_seq S.unary (λ of. answers_pure_at (λ y ts d w h. ReadsUnary.operated h d.1))))
        (answers_choose 1 _ _ _ _ (answers_mark_at mark_paren_open (λ q. answers_seq S.bracketed (λ found. answers_seq (sound_after_open q found) (λ of. answers_pure_at (λ y us e ts d. e ts d)))))
        (answers_seq sound_primary (λ first. answers_seq (sound_postfix_after first.place first.of) (λ of. answers_pure_at (λ y us e ts d. e ts d)))))

    -- ---- chains of operators

    abbrev pub AfterUnary : ℕ → Place → Expr → Rule Seen Expr
    AfterUnary k q first = λ x ts r. (us : Text) → ReadsUnary names q us ts first → ReadsChain names k q us r x

    abbrev pub RLink : ℕ → Rule Seen Link
    RLink k = λ x ts mid. (r : Text) (rest : List Link) → ReadsLinks names k mid r rest → ReadsLinks names k ts r (x ∷ rest)

    sound_link_of : (k : ℕ) → k < 10 → ((q : Place) (u : Expr) → Answers 0 (AfterUnary k q u) (p.chain_after names i k q u)) → Answers 1 (RLink k) (p.link_of names i k)
    sound_link_of k h after =
        let x : (w : Terminal) × (o : Op) × (operator k w ≡ Some o) = an_operator k h in
        answers_pick x.0 x.1 x.2 (λ o. answers_seq sound_unary (λ u. answers_seq (after u.place u.of) (λ of. answers_pure_at (λ y vs e us d w g r rest f. ReadsLinks.links g (e us d) f))))

    sound_links : (k : ℕ) → k < 10 → ((q : Place) (u : Expr) → Answers 0 (AfterUnary k q u) (p.chain_after names i k q u)) → Answers 0 (λ ls ts r. ReadsLinks names k ts r ls) (repeat (next_says (operator k)) (p.link_of names i k))
    sound_links k h after = answers_repeat (next_says (operator k)) (p.link_of names i k) 0 (RLink k) (sound_link_of k h after) (λ ls ts r. ReadsLinks names k ts r ls) (λ y. ReadsLinks.no_links) (λ a more ts mid r d q. d r more q)

    pub sound_chain_after : (k : ℕ) → k ≤ 10 → (q : Place) (first : Expr) → Answers 0 (AfterUnary k q first) (p.chain_after names i k q first)
    unfolding p.chain_after
    sound_chain_after zero h q first = answers_pure_at (λ y us d. ReadsChain.operand d)
    sound_chain_after (suc k) h q first = answers_seq (sound_chain_after k (omega arith) q first) (λ low. answers_seq (sound_links k (omega arith) (λ q u. sound_chain_after k (omega arith) q u)) (λ ls. answers_pure_at (λ y vs e us d ts f. ReadsChain.chain (d ts f) e)))

    pub sound_link : (k : ℕ) → k < 10 → Answers 1 (RLink k) (p.link_of names i k)
    sound_link k h = sound_link_of k h (λ q u. sound_chain_after k (omega arith) q u)

    pub sound_choice_after : (q : Place) (test : Expr) → Answers 0 (λ x ts r. (us : Text) → ReadsChain names every q us ts test → ReadsExpr names q us r x) (p.choice_after names i q test)
    unfolding p.choice_after
    sound_choice_after q test = answers_choose 0 _ _ _ _
        (answers_less (lit≤ tt) (answers_mark mark_question (answers_seq S.expr (λ first. answers_mark mark_colon (answers_seq S.expr (λ second. answers_pure_at (λ y vs f c us e k ts d. ReadsExpr.choice d e.1 f.1)))))))
        (answers_pure_at (λ y us d. ReadsExpr.binary d))

    abbrev pub ExprAfter : Place → Expr → Rule Seen Expr
    ExprAfter q first = λ x ts r. (us : Text) → ReadsUnary names q us ts first → ReadsExpr names q us r x

    pub sound_expr_after : (q : Place) (first : Expr) → Answers 0 (ExprAfter q first) (p.expr_after names i q first)
    unfolding p.expr_after
    sound_expr_after q first = answers_seq (sound_chain_after every (lit≤ tt) q first) (λ test. answers_by _ _ (λ x mid r d us e ts f. d ts (e ts f)) (sound_choice_after q test))

    pub sound_expr : Answers 1 (RExpr names) (p.expr names i)
    unfolding p.expr
    sound_expr = answers_seq sound_unary (λ u. answers_by _ _ (λ x mid r d ts e. (u.place, d ts e)) (sound_expr_after u.place u.of))

    pub sound_additive : Answers 1 (RChain names sum) (p.additive names i)
    unfolding p.additive
    sound_additive = answers_seq sound_unary (λ u. answers_by _ _ (λ x mid r d ts e. (u.place, d ts e)) (sound_chain_after sum (lit≤ tt) u.place u.of))

    -- ---- what begins with a type

    abbrev PostfixOf : TypeRead → Rule Seen Expr
    PostfixOf b = λ x mid r. (ts : Text) → ReadsBase names b.sort false b.place ts mid b.ty → ReadsUnary names b.place ts r x

    sound_postfix_of : (b : TypeRead) → Answers 1 (PostfixOf b) (p.postfix_of names i b)
    unfolding p.postfix_of
    sound_postfix_of b = answers_seq (sound_after_base b) (λ first. answers_by _ _ (λ x mid r d us e ts f. d ts (e ts f)) (sound_postfix_after b.place first))

    abbrev AfterBracketType : TypeRead → Rule Seen Bracketed
    AfterBracketType b = λ x mid r. (ts : Text) → ReadsType names b.sort false b.place ts mid b.ty → RBracketed names x ts r

    sound_after_bracket_type : (b : TypeRead) → Answers 0 (AfterBracketType b) (p.after_bracket_type names i b)
    unfolding p.after_bracket_type
    sound_after_bracket_type b = answers_if (is_constant b.sort) (λ e. answers_pure_at (λ y ts d. (b.sort, b.place, d)))
        (λ e. answers_choose 0 _ _ _ _ (answers_less (lit≤ tt) (answers_seq (sound_postfix_of b) (λ first. answers_seq (sound_expr_after b.place first) (λ of. answers_pure_at (λ y us f ts d vs g. (b.place, f vs (d vs (without_const e g))))))))
        (answers_pure_at (λ y ts d. (b.sort, b.place, d))))

    pub sound_bracketed : Answers 1 (RBracketed names) (p.bracketed names i)
    unfolding p.bracketed
    sound_bracketed = answers_choose 1 _ _ _ _ (answers_seq (sound_type names i S false) (λ b. answers_by _ _ (λ x mid r d ts e. d ts (alone_type b ts mid e)) (sound_after_bracket_type b)))
        (answers_seq sound_expr (λ of. answers_pure_at (λ y ts d. d)))

    abbrev AfterArgType : TypeRead → Rule Seen (TyArg × Bool)
    AfterArgType b = λ x mid r. (ts : Text) → ReadsType names b.sort b.both b.place ts mid b.ty → RTyArg names x ts r

    or_first : (a b : Bool) → (a || b) ≡ false → (a ≡ false) × (b ≡ false)
    or_first true b h = cc
    or_first false b h = (refl, h)

    sound_after_arg_type : (b : TypeRead) → Answers 0 (AfterArgType b) (p.after_arg_type names i b)
    unfolding p.after_arg_type
    sound_after_arg_type b = answers_if (b.both || is_constant b.sort) (λ e. answers_pure_at (λ y ts d. ReadsTyArg.type_arg d))
        (λ e. let k : (b.both ≡ false) × (is_constant b.sort ≡ false) = or_first b.both (is_constant b.sort) e in
        answers_choose 0 _ _ _ _ (answers_less (lit≤ tt) (answers_seq (sound_postfix_of b) (λ first. answers_seq (sound_chain_after sum (lit≤ tt) b.place first) (λ of. answers_pure_at (λ y us f ts d vs g. ReadsTyArg.value_arg (f vs (d vs (without_const k.1 (rw k.0 at g)))))))))
        (answers_pure_at (λ y ts d. ReadsTyArg.type_arg (rw k.0 at d))))

    pub sound_ty_arg : Answers 1 (RTyArg names) (p.ty_arg names i)
    unfolding p.ty_arg
    sound_ty_arg = answers_choose 1 _ _ _ _ (answers_seq (sound_type names i S true) (λ b. answers_by _ _ (λ x mid r d ts e. d ts e.0) (sound_after_arg_type b)))
        (answers_seq sound_additive (λ of. answers_pure_at (λ y ts d. ReadsTyArg.value_arg d.1)))

    pub sound_new_at : Answers 1 (λ x ts r. (q : Place) × ReadsNew names q ts r x) (p.new_at names i)
    unfolding p.new_at
    sound_new_at = answers_mark_at mark_new_word (λ q. answers_seq (sound_base names i S false) (λ b. answers_mark mark_paren_open (answers_seq sound_cargs (λ found. answers_mark mark_paren_close (answers_pure_at (λ y c us e o ts d. (q, ReadsNew.new (alone b ts _ d) e)))))))

    -- what may stand behind an assignment
    abbrev pub RRight : Rule Seen Expr
    RRight = λ x ts r. ((q : Place) × ReadsNew names q ts r x) ⊎ ((q : Place) × ReadsExpr names q ts r x)

    pub sound_right : Answers 1 RRight (p.argument names i)
    unfolding p.argument
    sound_right = answers_choose 1 _ _ _ _ (answers_by _ _ (λ x ts r d. inl d) sound_new_at) (answers_by _ _ (λ x ts r d. inr d) sound_expr)

    pub sound_argument : Answers 1 (RCarg names) (p.argument names i)
    sound_argument = answers_by _ _ (λ x ts r d. elim d [ inl e ↦ ReadsCarg.new_carg e.1 | inr e ↦ ReadsCarg.expr_carg e.1 ]) sound_right
