-- What the functions that open a level read.
use Rattle.std.specs.Prelude.{◌≡◌, ℕ, Bool, true, false}
use Rattle.scc_base.specs.declared.refusal.Place.{Place}
use Rattle.scc_tree.specs.declared.expr.Expr.{Expr}
use Rattle.scc_tree.specs.declared.stmt.Stmt.{Stmt}
use Rattle.scc_tree.specs.declared.ty.TyArg.{TyArg}
use Rattle.scc_reading.specs.Reading.{is_next}
use Rattle.scc_reading.proofs.Answer.{Rule, Answers}
use Rattle.scc_reading.proofs.Leaves.{Leaves}
use Rattle.scc_grammar_terminals.specs.declared.part.Bracketed.{Bracketed}
use Rattle.scc_grammar_terminals.specs.declared.part.Bracketed.TheVariants.{AType, AnExpr}
use Rattle.scc_grammar_terminals.specs.declared.part.Placed.{Placed}
use Rattle.scc_grammar_terminals.specs.declared.part.Sort.{Sort}
use Rattle.scc_grammar_terminals.specs.declared.part.TypeRead.{TypeRead}
use Rattle.scc_grammar_terminals.specs.declared.terminal.Seen.{Seen}
use Rattle.scc_grammar_terminals.specs.Names.{Names}
use Rattle.scc_grammar_terminals.specs.Operators.{sum}
use Rattle.scc_grammar_spec.specs.Expressions.{ReadsBase, ReadsType, ReadsTyArg, ReadsChain, ReadsExpr, ReadsUnary, ReadsPrimary, ReadsCarg}
use Rattle.scc_grammar_spec.specs.Statements.{ReadsStmt}
use Rattle.scc_grammar_terminals.specs.Inner.{Inner}
use Rattle.scc_grammar_terminals.specs.Marks as m
use Rattle.scc_grammar_terminals.specs.Text.{Text, next_is}

module _ (names : Names) where
  abbrev pub RBase : Bool → Rule Seen TypeRead
  RBase inside = λ x ts r. ReadsBase names x.sort x.both x.place ts r x.ty × (inside ≡ false → x.both ≡ false)

  abbrev pub RType : Bool → Rule Seen TypeRead
  RType inside = λ x ts r. ReadsType names x.sort x.both x.place ts r x.ty × (inside ≡ false → x.both ≡ false)

  abbrev pub RTyArg : Rule Seen (TyArg × Bool)
  RTyArg = λ x ts r. ReadsTyArg names x.1 ts r x.0

  abbrev pub RChain : ℕ → Rule Seen Expr
  RChain k = λ x ts r. (p : Place) × ReadsChain names k p ts r x

  abbrev pub RExpr : Rule Seen Expr
  RExpr = λ x ts r. (p : Place) × ReadsExpr names p ts r x

  abbrev pub RUnary : Rule Seen Expr
  RUnary = λ x ts r. (p : Place) × ReadsUnary names p ts r x

  abbrev pub RPlaced : Rule Seen Placed
  RPlaced = λ x ts r. ReadsUnary names x.place ts r x.of

  abbrev pub RPrimary : Rule Seen Placed
  RPrimary = λ x ts r. ReadsPrimary names x.place ts r x.of

  abbrev pub RBracketed : Rule Seen Bracketed
  RBracketed (AType of) ts r = (s : Sort) × (p : Place) × ReadsType names s false p ts r of
  RBracketed (AnExpr of) ts r = (p : Place) × ReadsExpr names p ts r of

  abbrev pub RCarg : Rule Seen Expr
  RCarg = λ x ts r. ReadsCarg names ts r x

  abbrev pub RStmt : Rule Seen (Stmt × Bool)
  RStmt = λ x ts r. ReadsStmt names x.1 ts r x.0

  -- no `else` stands behind a statement that could take it
  abbrev pub NoElse : Stmt × Bool → Text → Type 0
  NoElse x r = x.1 ≡ true → is_next (next_is m.else_word) r ≡ false

  pub record Sound (i : Inner) : Type 0 where
    pub expr : Answers 1 RExpr i.expr
    pub additive : Answers 1 (RChain sum) i.additive
    pub ty : Answers 1 (RType true) i.ty
    pub ty_arg : Answers 1 RTyArg i.ty_arg
    pub bracketed : Answers 1 RBracketed i.bracketed
    pub unary : Answers 1 RUnary i.unary
    pub argument : Answers 1 RCarg i.argument
    pub stmt : Answers 1 RStmt i.stmt
    pub stops : Leaves NoElse i.stmt
