-- The grammar of statements, one case per production. `R ts r tree` says that the tokens `ts` are the tree, and then `r`.
use Rattle.std.specs.Prelude.{◌≡◌, Bool, true, false, List, [], ◌∷◌, Option, Some, None}
use Rattle.scc_base.specs.declared.names.Name.{Name}
use Rattle.scc_base.specs.declared.refusal.Place.{Place}
use Rattle.scc_bits_kinds.specs.declared.op.Op.{Op}
use Rattle.scc_tree.specs.declared.expr.Expr.{Expr}
use Rattle.scc_tree.specs.declared.expr.Part.{Part}
use Rattle.scc_tree.specs.declared.local.Decl.{Decl}
use Rattle.scc_tree.specs.declared.local.Hold.{Hold}
use Rattle.scc_tree.specs.declared.local.Hold.TheVariants as hold
use Rattle.scc_tree.specs.declared.local.LocalDecl.{LocalDecl}
use Rattle.scc_tree.specs.declared.local.LocalTree.{LocalTree}
use Rattle.scc_tree.specs.declared.simple.SimpleNode.TheVariants as simple
use Rattle.scc_tree.specs.declared.simple.SimpleTree.{SimpleTree}
use Rattle.scc_tree.specs.declared.stmt.ForFirst.{ForFirst}
use Rattle.scc_tree.specs.declared.stmt.ForFirst.TheVariants as first
use Rattle.scc_tree.specs.declared.stmt.Stmt.{Stmt}
use Rattle.scc_tree.specs.declared.stmt.StmtNode.TheVariants as s
use Rattle.scc_tree.specs.declared.stmt.SwitchItem.{SwitchItem}
use Rattle.scc_tree.specs.declared.stmt.SwitchNode.TheVariants as item
use Rattle.scc_tree.specs.declared.ty.Ty.{Ty}
use Rattle.scc_tree.specs.Node.{stmt_of}
use Rattle.scc_grammar_terminals.specs.declared.part.Sort.{Sort}
use Rattle.scc_grammar_terminals.specs.declared.terminal.Terminal.{Terminal}
use Rattle.scc_grammar_terminals.specs.declared.terminal.Terminal.TheVariants as t
use Rattle.scc_grammar_spec.specs.Expressions.{ReadsType, ReadsChain, ReadsExpr, ReadsUnary, ReadsPrimary, ReadsParts, ReadsNew}
use Rattle.scc_grammar_terminals.specs.Names.{Names}
use Rattle.scc_grammar_terminals.specs.Nodes.{parts_of}
use Rattle.scc_grammar_terminals.specs.Operators.{sum}
use Rattle.scc_grammar_terminals.specs.StatementNodes.{decl_of, local_decl_of, local_of, simple_of, item_of, process_of, local_stmt, simple_stmt}
use Rattle.scc_grammar_terminals.specs.Text.{Text, at}

-- `=`, or an operator and `=`
abbrev pub assignment : Terminal → Option (Option Op)
assignment t.Assign = Some None
assignment (t.Update o) = Some (Some o)
assignment _ = None

-- what may stand before a declared name
pub data ReadsHold : Text → Text → Hold → Type 0 where
  direct : {r : Text} → ReadsHold r r hold.Direct
  pointer : {p : Place} {r : Text} → ReadsHold (at t.Star p ∷ r) r hold.Pointer
  reference : {p : Place} {r : Text} → ReadsHold (at t.And p ∷ r) r hold.Reference

module _ (names : Names) where
  -- ---- declared names

  pub data ReadsSizes : Text → Text → List Expr → Type 0 where
    no_sizes : {r : Text} → ReadsSizes r r []
    sizes : {p q c : Place} {a m r : Text} {of : Expr} {rest : List Expr}
        → ReadsExpr names q a (at t.BracketClose c ∷ m) of → ReadsSizes m r rest → ReadsSizes (at t.BracketOpen p ∷ a) r (of ∷ rest)

  pub data ReadsDecl : Text → Text → Decl → Type 0 where
    decl : {x : Name} {p : Place} {ts a r : Text} {h : Hold} {of : List Expr}
        → ReadsHold ts (at (t.Ident x) p ∷ a) h → ReadsSizes a r of → ReadsDecl ts r (decl_of h (x, p) of)

  -- the initial value of a local variable
  pub data ReadsValue : Text → Text → Option Expr → Type 0 where
    no_value : {r : Text} → ReadsValue r r None
    value : {p q : Place} {a r : Text} {of : Expr} → ReadsExpr names q a r of → ReadsValue (at t.Assign p ∷ a) r (Some of)
    value_in_brackets : {p q c : Place} {a r : Text} {of : Expr} → ReadsExpr names q a (at t.ParenClose c ∷ r) of → ReadsValue (at t.ParenOpen p ∷ a) r (Some of)

  pub data ReadsLocalDecl : Text → Text → LocalDecl → Type 0 where
    local_decl : {ts m r : Text} {d : Decl} {v : Option Expr} → ReadsDecl ts m d → ReadsValue m r v → ReadsLocalDecl ts r (local_decl_of d v)

  -- further names, each behind a comma
  pub data ReadsMoreLocals : Text → Text → List LocalDecl → Type 0 where
    no_more_locals : {r : Text} → ReadsMoreLocals r r []
    more_locals : {c : Place} {a m r : Text} {of : LocalDecl} {rest : List LocalDecl} → ReadsLocalDecl a m of → ReadsMoreLocals m r rest → ReadsMoreLocals (at t.Comma c ∷ a) r (of ∷ rest)

  pub data ReadsLocal : Text → Text → LocalTree → Type 0 where
    local : {k : Sort} {p : Place} {ts a m r : Text} {of : Ty} {d : LocalDecl} {rest : List LocalDecl}
        → ReadsType names k false p ts a of → ReadsLocalDecl a m d → ReadsMoreLocals m r rest → ReadsLocal ts r (local_of of d rest)

  -- ---- assignments, steps and calls

  pub data ReadsSimple : Text → Text → SimpleTree → Type 0 where
    assign : {w : Terminal} {o : Option Op} {p q k : Place} {ts a r : Text} {left right : Expr}
        → ReadsUnary names p ts (at w q ∷ a) left → assignment w ≡ Some o → ReadsExpr names k a r right → ReadsSimple ts r (simple_of p (simple.Assign left o q right))
    assign_new : {w : Terminal} {o : Option Op} {p q k : Place} {ts a r : Text} {left right : Expr}
        → ReadsUnary names p ts (at w q ∷ a) left → assignment w ≡ Some o → ReadsNew names k a r right → ReadsSimple ts r (simple_of p (simple.Assign left o q right))
    step_first : {o : Op} {p q : Place} {a r : Text} {of : Expr} → ReadsUnary names q a r of → ReadsSimple (at (t.Step o) p ∷ a) r (simple_of p (simple.Step of o p))
    step_last : {o : Op} {p q : Place} {ts r : Text} {of : Expr} → ReadsUnary names p ts (at (t.Step o) q ∷ r) of → ReadsSimple ts r (simple_of p (simple.Step of o q))
    -- the last part is a call
    call : {p : Place} {ts m r : Text} {of : Expr} {rest : List Part} → ReadsPrimary names p ts m of → ReadsParts names false true m r rest → ReadsSimple ts r (simple_of p (simple.Call (parts_of p of rest)))

  -- ---- parts of statements

  -- an expression in brackets
  pub data ReadsCondition : Text → Text → Expr → Type 0 where
    condition : {p q c : Place} {a r : Text} {of : Expr} → ReadsExpr names q a (at t.ParenClose c ∷ r) of → ReadsCondition (at t.ParenOpen p ∷ a) r of

  -- an expression that may stand there
  pub data ReadsMaybe : Text → Text → Option Expr → Type 0 where
    no_expr : {r : Text} → ReadsMaybe r r None
    an_expr : {p : Place} {ts r : Text} {of : Expr} → ReadsExpr names p ts r of → ReadsMaybe ts r (Some of)

  -- the first and the last part of the head of a `for`
  pub data ReadsForFirst : Text → Text → ForFirst → Type 0 where
    nothing_first : {r : Text} → ReadsForFirst r r first.Nothing
    local_first : {ts r : Text} {of : LocalTree} → ReadsLocal ts r of → ReadsForFirst ts r (first.Local of)
    simple_first : {ts r : Text} {of : SimpleTree} → ReadsSimple ts r of → ReadsForFirst ts r (first.Simple of)

  pub data ReadsForStep : Text → Text → Option SimpleTree → Type 0 where
    no_step : {r : Text} → ReadsForStep r r None
    a_step : {ts r : Text} {of : SimpleTree} → ReadsSimple ts r of → ReadsForStep ts r (Some of)

  -- further signals, each behind a `<<`
  pub data ReadsSignals : Text → Text → List Expr → Type 0 where
    no_signals : {r : Text} → ReadsSignals r r []
    signals : {c p : Place} {a m r : Text} {of : Expr} {rest : List Expr} → ReadsChain names sum p a m of → ReadsSignals m r rest → ReadsSignals (at t.ShiftLeft c ∷ a) r (of ∷ rest)

  -- ---- statements

  mutual
    -- The flag: an `else` behind it would belong to an `if` in it.
    pub data ReadsStmt : Bool → Text → Text → Stmt → Type 0 where
      block : {p c : Place} {a r : Text} {body : List Stmt} → ReadsStmts a (at t.BraceClose c ∷ r) body → ReadsStmt false (at t.BraceOpen p ∷ a) r (stmt_of p (s.Block body))
      empty : {p : Place} {r : Text} → ReadsStmt false (at t.Semicolon p ∷ r) r (stmt_of p s.Empty)
      local_line : {c : Place} {ts r : Text} {of : LocalTree} → ReadsLocal ts (at t.Semicolon c ∷ r) of → ReadsStmt false ts r (local_stmt of)
      if_only : {nests : Bool} {p : Place} {a b r : Text} {test : Expr} {first : Stmt}
          → ReadsCondition a b test → ReadsStmt nests b r first → ReadsStmt true (at t.If p ∷ a) r (stmt_of p (s.If test first None))
      -- the branch before an `else` has no `if` to which it could belong
      if_else : {nests : Bool} {p e : Place} {a b c r : Text} {test : Expr} {first second : Stmt}
          → ReadsCondition a b test → ReadsStmt false b (at t.Else e ∷ c) first → ReadsStmt nests c r second → ReadsStmt nests (at t.If p ∷ a) r (stmt_of p (s.If test first (Some second)))
      switch : {p o c : Place} {a b r : Text} {of : Expr} {items : List SwitchItem}
          → ReadsCondition a (at t.BraceOpen o ∷ b) of → ReadsItems b (at t.BraceClose c ∷ r) items → ReadsStmt false (at t.Switch p ∷ a) r (stmt_of p (s.Switch of items))
      while : {nests : Bool} {p : Place} {a b r : Text} {test : Expr} {body : Stmt}
          → ReadsCondition a b test → ReadsStmt nests b r body → ReadsStmt nests (at t.While p ∷ a) r (stmt_of p (s.While test body))
      do_while : {nests : Bool} {p w c : Place} {a b r : Text} {test : Expr} {body : Stmt}
          → ReadsStmt nests a (at t.While w ∷ b) body → ReadsCondition b (at t.Semicolon c ∷ r) test → ReadsStmt false (at t.Do p ∷ a) r (stmt_of p (s.Do body test))
      for : {nests : Bool} {p o c d e : Place} {a b k m r : Text} {first : ForFirst} {test : Option Expr} {step : Option SimpleTree} {body : Stmt}
          → ReadsForFirst a (at t.Semicolon c ∷ b) first → ReadsMaybe b (at t.Semicolon d ∷ k) test → ReadsForStep k (at t.ParenClose e ∷ m) step → ReadsStmt nests m r body
          → ReadsStmt nests (at t.For p ∷ at t.ParenOpen o ∷ a) r (stmt_of p (s.For first test step body))
      break : {p c : Place} {r : Text} → ReadsStmt false (at t.Break p ∷ at t.Semicolon c ∷ r) r (stmt_of p s.Break)
      continue : {p c : Place} {r : Text} → ReadsStmt false (at t.Continue p ∷ at t.Semicolon c ∷ r) r (stmt_of p s.Continue)
      return : {p c : Place} {a r : Text} {of : Option Expr} → ReadsMaybe a (at t.Semicolon c ∷ r) of → ReadsStmt false (at t.Return p ∷ a) r (stmt_of p (s.Return of))
      wait : {p o c d : Place} {a r : Text} {of : Option Expr}
          → ReadsMaybe a (at t.ParenClose c ∷ at t.Semicolon d ∷ r) of → ReadsStmt false (at t.Wait p ∷ at t.ParenOpen o ∷ a) r (stmt_of p (s.Wait of))
      process : {thread : Bool} {x : Name} {p o q c d : Place} {r : Text}
          → ReadsStmt false (at (t.Process thread) p ∷ at t.ParenOpen o ∷ at (t.Ident x) q ∷ at t.ParenClose c ∷ at t.Semicolon d ∷ r) r (process_of p thread x q)
      clocked_thread : {x : Name} {p o q k e c d : Place} {a r : Text} {edge : Expr}
          → ReadsExpr names e a (at t.ParenClose c ∷ at t.Semicolon d ∷ r) edge
          → ReadsStmt false (at t.ClockedThread p ∷ at t.ParenOpen o ∷ at (t.Ident x) q ∷ at t.Comma k ∷ a) r (stmt_of p (s.ClockedThread x q edge))
      sensitive : {p o q c : Place} {a m r : Text} {of : Expr} {rest : List Expr}
          → ReadsChain names sum q a m of → ReadsSignals m (at t.Semicolon c ∷ r) rest → ReadsStmt false (at t.Sensitive p ∷ at t.ShiftLeft o ∷ a) r (stmt_of p (s.Sensitive (of ∷ rest)))
      dont_initialize : {p o c d : Place} {r : Text} → ReadsStmt false (at t.DontInitialize p ∷ at t.ParenOpen o ∷ at t.ParenClose c ∷ at t.Semicolon d ∷ r) r (stmt_of p s.DontInitialize)
      reset : {asynchronous : Bool} {p o q k e c d : Place} {a b r : Text} {signal level : Expr}
          → ReadsExpr names q a (at t.Comma k ∷ b) signal → ReadsExpr names e b (at t.ParenClose c ∷ at t.Semicolon d ∷ r) level
          → ReadsStmt false (at (t.Reset asynchronous) p ∷ at t.ParenOpen o ∷ a) r (stmt_of p (s.ResetSignal signal level asynchronous))
      simple_line : {c : Place} {ts r : Text} {of : SimpleTree} → ReadsSimple ts (at t.Semicolon c ∷ r) of → ReadsStmt false ts r (simple_stmt of)

    pub data ReadsStmts : Text → Text → List Stmt → Type 0 where
      no_stmts : {r : Text} → ReadsStmts r r []
      stmts : {nests : Bool} {ts m r : Text} {first : Stmt} {rest : List Stmt} → ReadsStmt nests ts m first → ReadsStmts m r rest → ReadsStmts ts r (first ∷ rest)

    -- what stands in the braces of a `switch`
    pub data ReadsItem : Text → Text → SwitchItem → Type 0 where
      case : {p q c : Place} {a r : Text} {of : Expr} → ReadsExpr names q a (at t.Colon c ∷ r) of → ReadsItem (at t.Case p ∷ a) r (item_of p (item.Case of))
      default : {p c : Place} {r : Text} → ReadsItem (at t.Default p ∷ at t.Colon c ∷ r) r (item_of p item.Otherwise)
      stmt_item : {nests : Bool} {ts r : Text} {of : Stmt} → ReadsStmt nests ts r of → ReadsItem ts r (item_of of.place (item.Stmt of))

    pub data ReadsItems : Text → Text → List SwitchItem → Type 0 where
      no_items : {r : Text} → ReadsItems r r []
      items : {ts m r : Text} {first : SwitchItem} {rest : List SwitchItem} → ReadsItem ts m first → ReadsItems m r rest → ReadsItems ts r (first ∷ rest)

  -- the body of a function
  pub data ReadsBlock : Text → Text → List Stmt → Type 0 where
    body : {p c : Place} {a r : Text} {of : List Stmt} → ReadsStmts a (at t.BraceClose c ∷ r) of → ReadsBlock (at t.BraceOpen p ∷ a) r of
