-- Levels of declarations: the first token that opens one more than `n` of them.
use Rattle.std.specs.Prelude.{ℕ, Bool, List, Option, None}
use Rattle.scc_base.specs.declared.names.Name.{Name}
use Rattle.scc_tree.specs.declared.expr.Expr.{Expr}
use Rattle.scc_tree.specs.declared.ty.Ty.{Ty}
use Rattle.scc_tree.specs.declared.ty.TyArg.{TyArg}
use Rattle.scc_tree.specs.declared.local.Decl.{Decl}
use Rattle.scc_tree.specs.declared.stmt.Stmt.{Stmt}
use Rattle.scc_tree.specs.declared.item.Item.{Item}
use Rattle.scc_tree.specs.declared.item.Enumerator.{Enumerator}
use Rattle.scc_tree.specs.declared.item.Init.{Init}
use Rattle.scc_tree.specs.declared.item.Param.{Param}
use Rattle.scc_tree.specs.declared.item.Prm.{Prm}
use Rattle.scc_reading.specs.Level.{◌then◌}
use Rattle.scc_grammar_terminals.specs.Names.{Names, with_type}
use Rattle.scc_grammar_terminals.specs.Text.{Text}
use Rattle.scc_grammar_spec.specs.Bodies.{Body}
use Rattle.scc_grammar_spec.specs.LevelsOfExpressions.{deep_type, deep_ty_args, deep_chain, deep_expr, deep_cargs}
use Rattle.scc_grammar_spec.specs.LevelsOfStatements.{deep_decl, deep_block}
use Rattle.scc_grammar_spec.specs.Items.{ReadsValue, ReadsEnumerator, ReadsMoreEnumerators, ReadsNumbers, ReadsConstantType, ReadsConstant, ReadsResult, ReadsPrm, ReadsMorePrms, ReadsPrms, ReadsBody, ReadsFunction, ReadsInit, ReadsMoreInits, ReadsInits, ReadsConstructor, ReadsClassArgs, ReadsOutside, ReadsItem, ReadsParam, ReadsParams, ReadsTemplate, ReadsMoreDecls, ReadsMember, ReadsMembers, ReadsSpecial, ReadsClass, ReadsPart, ReadsParts, Reads}

module _ (names : Names) where
  unfoldable pub deep_value : {ts r : Text} {of : Option Expr} → ℕ → ReadsValue names ts r of → Option Text
  deep_value n (ReadsValue.no_value) = None
  deep_value n (ReadsValue.value d) = deep_expr names n d

  unfoldable pub deep_enumerator : {ts r : Text} {of : Enumerator} → ℕ → ReadsEnumerator names ts r of → Option Text
  deep_enumerator n (ReadsEnumerator.enumerator d) = deep_value n d

  unfoldable pub deep_more_enumerators : {ts r : Text} {of : List Enumerator} → ℕ → ReadsMoreEnumerators names ts r of → Option Text
  deep_more_enumerators n (ReadsMoreEnumerators.no_more) = None
  deep_more_enumerators n (ReadsMoreEnumerators.more d ds) = deep_enumerator n d then deep_more_enumerators n ds

  unfoldable pub deep_numbers : {ts r : Text} {of : List Enumerator} → ℕ → ReadsNumbers names ts r of → Option Text
  deep_numbers n (ReadsNumbers.numbers d ds) = deep_enumerator n d then deep_more_enumerators n ds

  unfoldable pub deep_constant_type : {ts r : Text} {of : Ty} → ℕ → ReadsConstantType names ts r of → Option Text
  deep_constant_type n (ReadsConstantType.once d) = deep_type names n d
  deep_constant_type n (ReadsConstantType.twice d) = deep_type names n d

  unfoldable pub deep_constant : {ts r : Text} {of : Item} → ℕ → ReadsConstant names ts r of → Option Text
  deep_constant n (ReadsConstant.constant d e) = deep_constant_type n d then deep_expr names n e

  unfoldable pub deep_result : {ts r : Text} {of : Option Ty} → ℕ → ReadsResult names ts r of → Option Text
  deep_result n (ReadsResult.nothing) = None
  deep_result n (ReadsResult.result d) = deep_type names n d

  unfoldable pub deep_prm : {ts r : Text} {of : Prm} → ℕ → ReadsPrm names ts r of → Option Text
  deep_prm n (ReadsPrm.prm d h) = deep_type names n d

  unfoldable pub deep_more_prms : {ts r : Text} {of : List Prm} → ℕ → ReadsMorePrms names ts r of → Option Text
  deep_more_prms n (ReadsMorePrms.no_more) = None
  deep_more_prms n (ReadsMorePrms.more d ds) = deep_prm n d then deep_more_prms n ds

  unfoldable pub deep_prms : {ts r : Text} {of : List Prm} → ℕ → ReadsPrms names ts r of → Option Text
  deep_prms n (ReadsPrms.no_prms) = None
  deep_prms n (ReadsPrms.nothing) = None
  deep_prms n (ReadsPrms.prms d ds) = deep_prm n d then deep_more_prms n ds

  unfoldable pub deep_body : {ts r : Text} {of : Option (List Stmt)} → ℕ → ReadsBody names ts r of → Option Text
  deep_body n (ReadsBody.no_body) = None
  deep_body n (ReadsBody.body d) = deep_block names n d

  unfoldable pub deep_function : {ts r : Text} {of : Item} → ℕ → ReadsFunction names ts r of → Option Text
  deep_function n (ReadsFunction.function d ps q b) = deep_result n d then deep_prms n ps then deep_body n b

  unfoldable pub deep_init : {ts r : Text} {of : Init} → ℕ → ReadsInit names ts r of → Option Text
  deep_init n (ReadsInit.named d) = deep_cargs names n d
  deep_init n (ReadsInit.base d) = deep_cargs names n d

  unfoldable pub deep_more_inits : {ts r : Text} {of : List Init} → ℕ → ReadsMoreInits names ts r of → Option Text
  deep_more_inits n (ReadsMoreInits.no_more) = None
  deep_more_inits n (ReadsMoreInits.more d ds) = deep_init n d then deep_more_inits n ds

  unfoldable pub deep_inits : {ts r : Text} {of : List Init} → ℕ → ReadsInits names ts r of → Option Text
  deep_inits n (ReadsInits.no_inits) = None
  deep_inits n (ReadsInits.inits d ds) = deep_init n d then deep_more_inits n ds

  unfoldable pub deep_constructor : {ts r : Text} {of : Item} → ℕ → ReadsConstructor names ts r of → Option Text
  deep_constructor n (ReadsConstructor.module_constructor is b) = deep_inits n is then deep_body n b
  deep_constructor n (ReadsConstructor.named ps is b) = deep_prms n ps then deep_inits n is then deep_body n b
  deep_constructor n (ReadsConstructor.explicit ps is b) = deep_prms n ps then deep_inits n is then deep_body n b

  unfoldable pub deep_class_args : {x : Name} {ts r : Text} {of : List TyArg} → ℕ → ReadsClassArgs names x ts r of → Option Text
  deep_class_args n (ReadsClassArgs.bare) = None
  deep_class_args n (ReadsClassArgs.with_args h d) = deep_ty_args names n d

  unfoldable pub deep_outside : {of_template : List Param} {ts r : Text} {of : Item} → ℕ → ReadsOutside names of_template ts r of → Option Text
  deep_outside n (ReadsOutside.function i d k ps q b) = deep_result n d then deep_class_args n k then deep_prms n ps then deep_block names n b
  deep_outside n (ReadsOutside.constructor k ps is b) = deep_class_args n k then deep_prms n ps then deep_inits n is then deep_block names n b

  unfoldable pub deep_more_decls : {ts r : Text} {of : List Decl} → ℕ → ReadsMoreDecls names ts r of → Option Text
  deep_more_decls n (ReadsMoreDecls.no_more) = None
  deep_more_decls n (ReadsMoreDecls.more d ds) = deep_decl names n d then deep_more_decls n ds

  unfoldable pub deep_special : {params : Option (List Param)} {x : Name} {ts r : Text} {of : Option (List TyArg)} → ℕ → ReadsSpecial names params x ts r of → Option Text
  deep_special n (ReadsSpecial.plain) = None
  deep_special n (ReadsSpecial.special h d) = deep_ty_args names n d

unfoldable pub deep_item : {names names₁ : Names} {ts r : Text} {of : Item} → ℕ → ReadsItem names ts names₁ r of → Option Text
deep_item n (ReadsItem.alias {names = names} d) = deep_type names n d
deep_item n (ReadsItem.named_numbers {names = names} {x = x} d) = deep_numbers (with_type names x) n d
deep_item n (ReadsItem.numbers {names = names} d) = deep_numbers names n d
deep_item n (ReadsItem.constant {names = names} d) = deep_constant names n d
deep_item n (ReadsItem.static_constant {names = names} d) = deep_constant names n d
deep_item n (ReadsItem.function {names = names} f d) = deep_function names n d

unfoldable pub deep_param : {names names₁ : Names} {both : Bool} {ts r : Text} {of : Param} → ℕ → ReadsParam names both ts names₁ r of → Option Text
deep_param n (ReadsParam.value h) = None
deep_param n (ReadsParam.value_preset {names = names} h d) = deep_chain names n d
deep_param n (ReadsParam.type h) = None
deep_param n (ReadsParam.type_preset {names = names} {x = x} h d) = deep_type (with_type names x) n d

unfoldable pub deep_params : {names names₁ : Names} {ts r : Text} {of : List Param} → ℕ → ReadsParams names ts names₁ r of → Option Text
deep_params n (ReadsParams.last d) = deep_param n d
deep_params n (ReadsParams.last_both d) = deep_param n d
deep_params n (ReadsParams.more d ds) = deep_param n d then deep_params n ds

unfoldable pub deep_template : {names names₁ : Names} {ts r : Text} {of : List Param} → ℕ → ReadsTemplate names ts names₁ r of → Option Text
deep_template n (ReadsTemplate.empty) = None
deep_template n (ReadsTemplate.template d) = deep_params n d

unfoldable pub deep_member : {b b₁ : Body} {ts r : Text} → ℕ → ReadsMember b ts b₁ r → Option Text
deep_member n (ReadsMember.access h) = None
deep_member n (ReadsMember.has_process) = None
deep_member n (ReadsMember.declaration d) = deep_item n d
deep_member n (ReadsMember.constructor {b = b} d) = deep_constructor b.names n d
deep_member n (ReadsMember.fields {b = b} d e ds) = deep_type b.names n d then deep_decl b.names n e then deep_more_decls b.names n ds

unfoldable pub deep_members : {b b₁ : Body} {ts r : Text} → ℕ → ReadsMembers b ts b₁ r → Option Text
deep_members n (ReadsMembers.no_members) = None
deep_members n (ReadsMembers.members d ds) = deep_member n d then deep_members n ds

unfoldable pub deep_class : {params : Option (List Param)} {names names₁ : Names} {ts r : Text} {of : Item} → ℕ → ReadsClass params names ts names₁ r of → Option Text
deep_class n (ReadsClass.module_class ds) = deep_members n ds
deep_class n (ReadsClass.class h s b ds) = deep_special _ n s then deep_members n ds

unfoldable pub deep_part : {b b₁ : Body} {ts r : Text} → ℕ → ReadsPart b ts b₁ r → Option Text
deep_part n (ReadsPart.using) = None
deep_part n (ReadsPart.declaration d) = deep_item n d
deep_part n (ReadsPart.class d) = deep_class n d
deep_part n (ReadsPart.template_class t d) = deep_template n t then deep_class n d
deep_part n (ReadsPart.outside {b = b} d) = deep_outside b.names n d
deep_part n (ReadsPart.template_outside {names = names} t d) = deep_template n t then deep_outside names n d

unfoldable pub deep_file : {b b₁ : Body} {ts r : Text} → ℕ → ReadsParts b ts b₁ r → Option Text
deep_file n (ReadsParts.no_parts) = None
deep_file n (ReadsParts.parts d ds) = deep_part n d then deep_file n ds

-- the first token of a file that opens one more than `n` levels
unfoldable pub deep : {ts : Text} {of : List Item} → ℕ → Reads ts of → Option Text
deep n (Reads.file d) = deep_file n d

-- the first token of a file at which it is nested deeper than 128 levels
abbrev pub depth : (ts : Text) (items : List Item) → Reads ts items → Option Text
depth ts items d = deep 128 d
