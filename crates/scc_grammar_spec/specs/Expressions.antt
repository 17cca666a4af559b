-- The grammar of types and expressions, one case per production. `R ts r tree` says that the tokens `ts` are the tree, and then `r`.
-- Where a place stands before `ts`, it is that of the first token.
use Rattle.std.specs.Prelude.{◌≡◌, ℕ, zero, suc, Bool, true, false, List, [], ◌∷◌, Some, None}
use Rattle.scc_base.specs.declared.names.Name.{Name}
use Rattle.scc_base.specs.declared.refusal.Place.{Place}
use Rattle.scc_bits_kinds.specs.declared.kind.Kind.{Kind}
use Rattle.scc_bits_kinds.specs.declared.kind.Kind.TheVariants as kind
use Rattle.scc_bits_kinds.specs.declared.kind.Word.{Word}
use Rattle.scc_bits_kinds.specs.declared.op.Op.{Op}
use Rattle.scc_tree.specs.declared.expr.Expr.{Expr}
use Rattle.scc_tree.specs.declared.expr.ExprNode.TheVariants as node
use Rattle.scc_tree.specs.declared.expr.Link.{Link}
use Rattle.scc_tree.specs.declared.expr.Part.{Part}
use Rattle.scc_tree.specs.declared.expr.PartNode.TheVariants as part
use Rattle.scc_tree.specs.declared.expr.UnaryOp.{UnaryOp}
use Rattle.scc_tree.specs.declared.ty.Family.{Family}
use Rattle.scc_tree.specs.declared.ty.Ty.{Ty}
use Rattle.scc_tree.specs.declared.ty.TyArg.{TyArg}
use Rattle.scc_tree.specs.declared.ty.TyArg.TheVariants as arg
use Rattle.scc_tree.specs.declared.ty.TyNode.TheVariants as ty
use Rattle.scc_tree.specs.Node.{expr_of}
use Rattle.scc_grammar_terminals.specs.declared.terminal.Holder.{Holder}
use Rattle.scc_grammar_terminals.specs.declared.terminal.Terminal.{Terminal}
use Rattle.scc_grammar_terminals.specs.declared.terminal.Terminal.TheVariants as t
use Rattle.scc_grammar_terminals.specs.declared.part.Sort.{Sort}
use Rattle.scc_grammar_terminals.specs.declared.part.Sort.TheVariants as sort
use Rattle.scc_grammar_terminals.specs.Names.{Names, is_type, is_template}
use Rattle.scc_grammar_terminals.specs.Nodes.{base_of, constant_of, native, held, clock_of, truth_of, link, part_of, chain_of, parts_of, brackets_of}
use Rattle.scc_grammar_terminals.specs.Operators.{operator, unary_operator, sum, every, closer}
use Rattle.scc_grammar_terminals.specs.Text.{Text, at}

-- an `int` that may stand behind `short`
pub data ReadsShort : Text → Text → Type 0 where
  alone : {r : Text} → ReadsShort r r
  int : {p : Place} {r : Text} → ReadsShort (at t.Int p ∷ r) r

-- what may stand behind `signed` (the flag is true) or `unsigned`
pub data ReadsInteger : Bool → Text → Text → Kind → Type 0 where
  alone : {s : Bool} {r : Text} → ReadsInteger s r r (native 32 s)
  int : {s : Bool} {p : Place} {r : Text} → ReadsInteger s (at t.Int p ∷ r) r (native 32 s)
  short : {s : Bool} {p : Place} {a r : Text} → ReadsShort a r → ReadsInteger s (at t.Short p ∷ a) r (native 16 s)
  char : {s : Bool} {p : Place} {r : Text} → ReadsInteger s (at t.Char p ∷ r) r (native 8 s)

module _ (names : Names) where
  mutual
    -- A type without `const`. The flag: its last token is a `>>` that closes the list around it, too.
    pub data ReadsBase : Sort → Bool → Place → Text → Text → Ty → Type 0 where
      bool : {p : Place} {r : Text} → ReadsBase sort.Word false p (at t.Bool p ∷ r) r (base_of p (ty.Number kind.Bool))
      int : {p : Place} {r : Text} → ReadsBase sort.Word false p (at t.Int p ∷ r) r (base_of p (ty.Number (native 32 true)))
      short : {p : Place} {a r : Text} → ReadsShort a r → ReadsBase sort.Word false p (at t.Short p ∷ a) r (base_of p (ty.Number (native 16 true)))
      long : {s : Bool} {p : Place} {r : Text} → ReadsBase sort.Word false p (at (t.Long s) p ∷ r) r (base_of p (ty.Number (native 64 s)))
      signed : {p : Place} {a r : Text} {k : Kind} → ReadsInteger true a r k → ReadsBase sort.Word false p (at t.Signed p ∷ a) r (base_of p (ty.Number k))
      unsigned : {p : Place} {a r : Text} {k : Kind} → ReadsInteger false a r k → ReadsBase sort.Word false p (at t.Unsigned p ∷ a) r (base_of p (ty.Number k))
      sized : {both : Bool} {f : Family} {p l c q : Place} {a r : Text} {width : Expr}
          → ReadsChain sum q a (at (closer both) c ∷ r) width → ReadsBase sort.Word both p (at (t.Sized f) p ∷ at t.Less l ∷ a) r (base_of p (ty.Sized f width))
      holder : {s : Sort} {both : Bool} {h : Holder} {p l c q : Place} {a r : Text} {of : Ty}
          → ReadsType s false q a (at (closer both) c ∷ r) of → ReadsBase sort.Word both p (at (t.Holder h) p ∷ at t.Less l ∷ a) r (base_of p (held h of))
      holder_both : {s : Sort} {h : Holder} {p l q : Place} {a r : Text} {of : Ty}
          → ReadsType s true q a r of → ReadsBase sort.Word false p (at (t.Holder h) p ∷ at t.Less l ∷ a) r (base_of p (held h of))
      clock_input : {p : Place} {r : Text} → ReadsBase sort.Word false p (at t.ClockInput p ∷ r) r (clock_of p)
      module_name : {p : Place} {r : Text} → ReadsBase sort.Word false p (at t.ModuleName p ∷ r) r (base_of p ty.ModuleName)
      named : {x : Name} {p : Place} {r : Text} → is_type names x ≡ true → ReadsBase sort.Named false p (at (t.Ident x) p ∷ r) r (base_of p (ty.Named x None))
      with_args : {x : Name} {both : Bool} {p l : Place} {a r : Text} {args : List TyArg}
          → is_template names x ≡ true → ReadsTyArgs both a r args → ReadsBase sort.Named both p (at (t.Ident x) p ∷ at t.Less l ∷ a) r (base_of p (ty.Named x (Some args)))

    pub data ReadsType : Sort → Bool → Place → Text → Text → Ty → Type 0 where
      plain : {s : Sort} {both : Bool} {p : Place} {ts r : Text} {of : Ty} → ReadsBase s both p ts r of → ReadsType s both p ts r of
      constant : {s : Sort} {both : Bool} {p q : Place} {a r : Text} {of : Ty} → ReadsBase s both q a r of → ReadsType sort.Constant both p (at t.Const p ∷ a) r (constant_of p of)

    pub data ReadsTyArg : Bool → Text → Text → TyArg → Type 0 where
      value_arg : {p : Place} {ts r : Text} {of : Expr} → ReadsChain sum p ts r of → ReadsTyArg false ts r (arg.Value of)
      type_arg : {s : Sort} {both : Bool} {p : Place} {ts r : Text} {of : Ty} → ReadsType s both p ts r of → ReadsTyArg both ts r (arg.Named of)

    -- arguments behind a `<`, and what closes them
    pub data ReadsTyArgs : Bool → Text → Text → List TyArg → Type 0 where
      no_args : {both : Bool} {c : Place} {r : Text} → ReadsTyArgs both (at (closer both) c ∷ r) r []
      args : {both : Bool} {ts m r : Text} {first : TyArg} {rest : List TyArg} → ReadsTyArg false ts m first → ReadsTyRest both m r rest → ReadsTyArgs both ts r (first ∷ rest)
      arg_both : {ts r : Text} {first : TyArg} → ReadsTyArg true ts r first → ReadsTyArgs false ts r (first ∷ [])

    pub data ReadsTyRest : Bool → Text → Text → List TyArg → Type 0 where
      close_args : {both : Bool} {c : Place} {r : Text} → ReadsTyRest both (at (closer both) c ∷ r) r []
      more_args : {both : Bool} {c : Place} {a m r : Text} {first : TyArg} {rest : List TyArg} → ReadsTyArg false a m first → ReadsTyRest both m r rest → ReadsTyRest both (at t.Comma c ∷ a) r (first ∷ rest)
      last_both : {c : Place} {a r : Text} {first : TyArg} → ReadsTyArg true a r first → ReadsTyRest false (at t.Comma c ∷ a) r (first ∷ [])

    -- an expression whose operators are of levels below the number
    pub data ReadsChain : ℕ → Place → Text → Text → Expr → Type 0 where
      operand : {p : Place} {ts r : Text} {of : Expr} → ReadsUnary p ts r of → ReadsChain zero p ts r of
      chain : {k : ℕ} {p : Place} {ts m r : Text} {first : Expr} {rest : List Link} → ReadsChain k p ts m first → ReadsLinks k m r rest → ReadsChain (suc k) p ts r (chain_of p first rest)

    pub data ReadsLinks : ℕ → Text → Text → List Link → Type 0 where
      no_links : {k : ℕ} {r : Text} → ReadsLinks k r r []
      links : {k : ℕ} {w : Terminal} {o : Op} {p q : Place} {a m r : Text} {of : Expr} {rest : List Link}
          → operator k w ≡ Some o → ReadsChain k q a m of → ReadsLinks k m r rest → ReadsLinks k (at w p ∷ a) r (link o p of ∷ rest)

    pub data ReadsExpr : Place → Text → Text → Expr → Type 0 where
      binary : {p : Place} {ts r : Text} {of : Expr} → ReadsChain every p ts r of → ReadsExpr p ts r of
      choice : {p q s k c : Place} {ts a b r : Text} {test first second : Expr}
          → ReadsChain every p ts (at t.Question k ∷ a) test → ReadsExpr q a (at t.Colon c ∷ b) first → ReadsExpr s b r second → ReadsExpr p ts r (expr_of p (node.Cond test first second))

    pub data ReadsUnary : Place → Text → Text → Expr → Type 0 where
      operated : {w : Terminal} {o : UnaryOp} {p q : Place} {a r : Text} {of : Expr} → unary_operator w ≡ Some o → ReadsUnary q a r of → ReadsUnary p (at w p ∷ a) r (expr_of p (node.Unary o of))
      cast : {s : Sort} {p q c d : Place} {a b r : Text} {to : Ty} {of : Expr}
          → ReadsType s false q a (at t.ParenClose c ∷ b) to → ReadsUnary d b r of → ReadsUnary p (at t.ParenOpen p ∷ a) r (expr_of p (node.Cast to of))
      postfix : {c : Bool} {p : Place} {ts m r : Text} {first : Expr} {rest : List Part} → ReadsPrimary p ts m first → ReadsParts false c m r rest → ReadsUnary p ts r (parts_of p first rest)

    pub data ReadsPrimary : Place → Text → Text → Expr → Type 0 where
      number : {k : Kind} {w : Word} {p : Place} {r : Text} → ReadsPrimary p (at (t.Number k w) p ∷ r) r (expr_of p (node.Number k w))
      truth : {b : Bool} {p : Place} {r : Text} → ReadsPrimary p (at (t.Truth b) p ∷ r) r (truth_of p b)
      this : {p : Place} {r : Text} → ReadsPrimary p (at t.This p ∷ r) r (expr_of p node.This)
      null : {p : Place} {r : Text} → ReadsPrimary p (at t.Null p ∷ r) r (expr_of p node.Null)
      name : {x : Name} {p : Place} {r : Text} → is_type names x ≡ false → ReadsPrimary p (at (t.Ident x) p ∷ r) r (expr_of p (node.Ident x))
      -- a name that is no type may stand before `::`, too
      scoped : {x y : Name} {p a b : Place} {r : Text} → is_type names x ≡ false
          → ReadsPrimary p (at (t.Ident x) p ∷ at t.Scope a ∷ at (t.Ident y) b ∷ r) r (expr_of p (node.Scoped (base_of p (ty.Named x None)) y))
      scoped_type : {y : Name} {p a b : Place} {ts r : Text} {of : Ty} → ReadsBase sort.Named false p ts (at t.Scope a ∷ at (t.Ident y) b ∷ r) of → ReadsPrimary p ts r (expr_of p (node.Scoped of y))
      make : {s : Sort} {p o q c : Place} {ts a r : Text} {to : Ty} {of : Expr}
          → ReadsBase s false p ts (at t.ParenOpen o ∷ a) to → ReadsExpr q a (at t.ParenClose c ∷ r) of → ReadsPrimary p ts r (expr_of p (node.Cast to of))
      static_cast : {s : Sort} {p l q g o d c : Place} {a b r : Text} {to : Ty} {of : Expr}
          → ReadsType s false q a (at t.Greater g ∷ at t.ParenOpen o ∷ b) to → ReadsExpr d b (at t.ParenClose c ∷ r) of → ReadsPrimary p (at t.StaticCast p ∷ at t.Less l ∷ a) r (expr_of p (node.Cast to of))
      static_cast_both : {s : Sort} {p l q o d c : Place} {a b r : Text} {to : Ty} {of : Expr}
          → ReadsType s true q a (at t.ParenOpen o ∷ b) to → ReadsExpr d b (at t.ParenClose c ∷ r) of → ReadsPrimary p (at t.StaticCast p ∷ at t.Less l ∷ a) r (expr_of p (node.Cast to of))
      concat : {p o q c s d : Place} {a b r : Text} {first second : Expr}
          → ReadsExpr q a (at t.Comma c ∷ b) first → ReadsExpr s b (at t.ParenClose d ∷ r) second → ReadsPrimary p (at t.Concat p ∷ at t.ParenOpen o ∷ a) r (expr_of p (node.Concat (first ∷ second ∷ [])))
      brackets : {p q c : Place} {a m r : Text} {first : Expr} {rest : List Expr}
          → ReadsExpr q a m first → ReadsExprs m (at t.ParenClose c ∷ r) rest → ReadsPrimary p (at t.ParenOpen p ∷ a) r (brackets_of p first rest)

    -- further expressions, each behind a comma
    pub data ReadsExprs : Text → Text → List Expr → Type 0 where
      no_exprs : {r : Text} → ReadsExprs r r []
      exprs : {c p : Place} {a m r : Text} {first : Expr} {rest : List Expr} → ReadsExpr p a m first → ReadsExprs m r rest → ReadsExprs (at t.Comma c ∷ a) r (first ∷ rest)

    -- The flags: the part before is a call; the last part is one.
    pub data ReadsParts : Bool → Bool → Text → Text → List Part → Type 0 where
      no_parts : {b : Bool} {r : Text} → ReadsParts b b r r []
      index : {b c : Bool} {p q k : Place} {a m r : Text} {of : Expr} {rest : List Part}
          → ReadsExpr q a (at t.BracketClose k ∷ m) of → ReadsParts false c m r rest → ReadsParts b c (at t.BracketOpen p ∷ a) r (part_of p (part.Index of) ∷ rest)
      member : {b c : Bool} {x : Name} {d p : Place} {m r : Text} {rest : List Part} → ReadsParts false c m r rest → ReadsParts b c (at t.Dot d ∷ at (t.Ident x) p ∷ m) r (part_of p (part.Member x) ∷ rest)
      arrow : {b c : Bool} {x : Name} {d p : Place} {m r : Text} {rest : List Part} → ReadsParts false c m r rest → ReadsParts b c (at t.Arrow d ∷ at (t.Ident x) p ∷ m) r (part_of p (part.Arrow x) ∷ rest)
      call : {b c : Bool} {p k : Place} {a m r : Text} {args : List Expr} {rest : List Part}
          → ReadsCargs a (at t.ParenClose k ∷ m) args → ReadsParts true c m r rest → ReadsParts b c (at t.ParenOpen p ∷ a) r (part_of p (part.Call args) ∷ rest)

    -- the arguments of a call
    pub data ReadsCargs : Text → Text → List Expr → Type 0 where
      no_cargs : {r : Text} → ReadsCargs r r []
      cargs : {ts m r : Text} {first : Expr} {rest : List Expr} → ReadsCarg ts m first → ReadsMoreCargs m r rest → ReadsCargs ts r (first ∷ rest)

    pub data ReadsMoreCargs : Text → Text → List Expr → Type 0 where
      no_more_cargs : {r : Text} → ReadsMoreCargs r r []
      more_cargs : {c : Place} {a m r : Text} {first : Expr} {rest : List Expr} → ReadsCarg a m first → ReadsMoreCargs m r rest → ReadsMoreCargs (at t.Comma c ∷ a) r (first ∷ rest)

    pub data ReadsCarg : Text → Text → Expr → Type 0 where
      text_carg : {p : Place} {r : Text} → ReadsCarg (at t.Text p ∷ r) r (expr_of p node.Text)
      new_carg : {p : Place} {ts r : Text} {of : Expr} → ReadsNew p ts r of → ReadsCarg ts r of
      expr_carg : {p : Place} {ts r : Text} {of : Expr} → ReadsExpr p ts r of → ReadsCarg ts r of

    pub data ReadsNew : Place → Text → Text → Expr → Type 0 where
      new : {s : Sort} {p q o c : Place} {a b r : Text} {of : Ty} {args : List Expr}
          → ReadsBase s false q a (at t.ParenOpen o ∷ b) of → ReadsCargs b (at t.ParenClose c ∷ r) args → ReadsNew p (at t.New p ∷ a) r (expr_of p (node.Make of args))
