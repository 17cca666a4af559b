-- Levels of types and expressions: the first token that opens one more than `n` of them. A level is opened by what stands directly between
-- brackets, by the operand of an operator within an operand, and by each part of a `?:` but the first.
use Rattle.std.specs.Prelude.{ℕ, Bool, List, Option, None}
use Rattle.scc_base.specs.declared.refusal.Place.{Place}
use Rattle.scc_tree.specs.declared.expr.Expr.{Expr}
use Rattle.scc_tree.specs.declared.expr.Link.{Link}
use Rattle.scc_tree.specs.declared.expr.Part.{Part}
use Rattle.scc_tree.specs.declared.ty.Ty.{Ty}
use Rattle.scc_tree.specs.declared.ty.TyArg.{TyArg}
use Rattle.scc_reading.specs.Level.{opens, ◌then◌}
use Rattle.scc_grammar_terminals.specs.declared.part.Sort.{Sort}
use Rattle.scc_grammar_spec.specs.Expressions.{ReadsBase, ReadsType, ReadsTyArg, ReadsTyArgs, ReadsTyRest, ReadsChain, ReadsLinks, ReadsExpr, ReadsUnary, ReadsPrimary, ReadsExprs, ReadsParts, ReadsCargs, ReadsMoreCargs, ReadsCarg, ReadsNew}
use Rattle.scc_grammar_terminals.specs.Names.{Names}
use Rattle.scc_grammar_terminals.specs.Text.{Text}

module _ (names : Names) where
  unfoldable mutual
    pub deep_base : {s : Sort} {both : Bool} {p : Place} {ts r : Text} {of : Ty} → ℕ → ReadsBase names s both p ts r of → Option Text
    deep_base n (ReadsBase.bool) = None
    deep_base n (ReadsBase.int) = None
    deep_base n (ReadsBase.short i) = None
    deep_base n (ReadsBase.long) = None
    deep_base n (ReadsBase.signed i) = None
    deep_base n (ReadsBase.unsigned i) = None
    deep_base n (ReadsBase.sized {a = a} d) = opens n a (λ m. deep_chain m d)
    deep_base n (ReadsBase.holder {a = a} d) = opens n a (λ m. deep_type m d)
    deep_base n (ReadsBase.holder_both {a = a} d) = opens n a (λ m. deep_type m d)
    deep_base n (ReadsBase.clock_input) = None
    deep_base n (ReadsBase.module_name) = None
    deep_base n (ReadsBase.named h) = None
    deep_base n (ReadsBase.with_args h d) = deep_ty_args n d

    pub deep_type : {s : Sort} {both : Bool} {p : Place} {ts r : Text} {of : Ty} → ℕ → ReadsType names s both p ts r of → Option Text
    deep_type n (ReadsType.plain d) = deep_base n d
    deep_type n (ReadsType.constant d) = deep_base n d

    pub deep_ty_arg : {both : Bool} {ts r : Text} {of : TyArg} → ℕ → ReadsTyArg names both ts r of → Option Text
    deep_ty_arg n (ReadsTyArg.value_arg d) = deep_chain n d
    deep_ty_arg n (ReadsTyArg.type_arg d) = deep_type n d

    pub deep_ty_args : {both : Bool} {ts r : Text} {of : List TyArg} → ℕ → ReadsTyArgs names both ts r of → Option Text
    deep_ty_args n (ReadsTyArgs.no_args) = None
    deep_ty_args n (ReadsTyArgs.args {ts = ts} d ds) = opens n ts (λ m. deep_ty_arg m d) then deep_ty_rest n ds
    deep_ty_args n (ReadsTyArgs.arg_both {ts = ts} d) = opens n ts (λ m. deep_ty_arg m d)

    pub deep_ty_rest : {both : Bool} {ts r : Text} {of : List TyArg} → ℕ → ReadsTyRest names both ts r of → Option Text
    deep_ty_rest n (ReadsTyRest.close_args) = None
    deep_ty_rest n (ReadsTyRest.more_args {a = a} d ds) = opens n a (λ m. deep_ty_arg m d) then deep_ty_rest n ds
    deep_ty_rest n (ReadsTyRest.last_both {a = a} d) = opens n a (λ m. deep_ty_arg m d)

    pub deep_chain : {k : ℕ} {p : Place} {ts r : Text} {of : Expr} → ℕ → ReadsChain names k p ts r of → Option Text
    deep_chain n (ReadsChain.operand d) = deep_unary n d
    deep_chain n (ReadsChain.chain d ls) = deep_chain n d then deep_links n ls

    pub deep_links : {k : ℕ} {ts r : Text} {of : List Link} → ℕ → ReadsLinks names k ts r of → Option Text
    deep_links n (ReadsLinks.no_links) = None
    deep_links n (ReadsLinks.links h d ls) = deep_chain n d then deep_links n ls

    pub deep_expr : {p : Place} {ts r : Text} {of : Expr} → ℕ → ReadsExpr names p ts r of → Option Text
    deep_expr n (ReadsExpr.binary d) = deep_chain n d
    deep_expr n (ReadsExpr.choice {a = a} {b = b} d e f) = deep_chain n d then opens n a (λ m. deep_expr m e) then opens n b (λ m. deep_expr m f)

    pub deep_unary : {p : Place} {ts r : Text} {of : Expr} → ℕ → ReadsUnary names p ts r of → Option Text
    deep_unary n (ReadsUnary.operated {a = a} h d) = opens n a (λ m. deep_unary m d)
    deep_unary n (ReadsUnary.cast {a = a} {b = b} d e) = opens n a (λ m. deep_type m d) then opens n b (λ m. deep_unary m e)
    deep_unary n (ReadsUnary.postfix d ps) = deep_primary n d then deep_parts n ps

    pub deep_primary : {p : Place} {ts r : Text} {of : Expr} → ℕ → ReadsPrimary names p ts r of → Option Text
    deep_primary n (ReadsPrimary.number) = None
    deep_primary n (ReadsPrimary.truth) = None
    deep_primary n (ReadsPrimary.this) = None
    deep_primary n (ReadsPrimary.null) = None
    deep_primary n (ReadsPrimary.name h) = None
    deep_primary n (ReadsPrimary.scoped h) = None
    deep_primary n (ReadsPrimary.scoped_type d) = deep_base n d
    deep_primary n (ReadsPrimary.make {a = a} d e) = deep_base n d then opens n a (λ m. deep_expr m e)
    deep_primary n (ReadsPrimary.static_cast {a = a} {b = b} d e) = opens n a (λ m. deep_type m d) then opens n b (λ m. deep_expr m e)
    deep_primary n (ReadsPrimary.static_cast_both {a = a} {b = b} d e) = opens n a (λ m. deep_type m d) then opens n b (λ m. deep_expr m e)
    deep_primary n (ReadsPrimary.concat {a = a} {b = b} d e) = opens n a (λ m. deep_expr m d) then opens n b (λ m. deep_expr m e)
    deep_primary n (ReadsPrimary.brackets {a = a} d ds) = opens n a (λ m. deep_expr m d) then deep_exprs n ds

    pub deep_exprs : {ts r : Text} {of : List Expr} → ℕ → ReadsExprs names ts r of → Option Text
    deep_exprs n (ReadsExprs.no_exprs) = None
    deep_exprs n (ReadsExprs.exprs {a = a} d ds) = opens n a (λ m. deep_expr m d) then deep_exprs n ds

    pub deep_parts : {b c : Bool} {ts r : Text} {of : List Part} → ℕ → ReadsParts names b c ts r of → Option Text
    deep_parts n (ReadsParts.no_parts) = None
    deep_parts n (ReadsParts.index {a = a} d ps) = opens n a (λ m. deep_expr m d) then deep_parts n ps
    deep_parts n (ReadsParts.member ps) = deep_parts n ps
    deep_parts n (ReadsParts.arrow ps) = deep_parts n ps
    deep_parts n (ReadsParts.call d ps) = deep_cargs n d then deep_parts n ps

    pub deep_cargs : {ts r : Text} {of : List Expr} → ℕ → ReadsCargs names ts r of → Option Text
    deep_cargs n (ReadsCargs.no_cargs) = None
    deep_cargs n (ReadsCargs.cargs d ds) = deep_carg n d then deep_more_cargs n ds

    pub deep_more_cargs : {ts r : Text} {of : List Expr} → ℕ → ReadsMoreCargs names ts r of → Option Text
    deep_more_cargs n (ReadsMoreCargs.no_more_cargs) = None
    deep_more_cargs n (ReadsMoreCargs.more_cargs d ds) = deep_carg n d then deep_more_cargs n ds

    -- a `new` as an argument opens a level at its first token, as an expression there would
    pub deep_carg : {ts r : Text} {of : Expr} → ℕ → ReadsCarg names ts r of → Option Text
    deep_carg n (ReadsCarg.text_carg) = None
    deep_carg n (ReadsCarg.new_carg {ts = ts} d) = opens n ts (λ m. deep_new m d)
    deep_carg n (ReadsCarg.expr_carg {ts = ts} d) = opens n ts (λ m. deep_expr m d)

    pub deep_new : {p : Place} {ts r : Text} {of : Expr} → ℕ → ReadsNew names p ts r of → Option Text
    deep_new n (ReadsNew.new d ds) = deep_base n d then deep_cargs n ds
