-- No tokens are two files.
use Rattle.std.specs.Prelude.{Bool, List, Option}
use Rattle.scc_base.specs.declared.names.Name.{Name}
use Rattle.scc_tree.specs.declared.expr.Expr.{Expr}
use Rattle.scc_tree.specs.declared.item.Enumerator.{Enumerator}
use Rattle.scc_tree.specs.declared.item.Init.{Init}
use Rattle.scc_tree.specs.declared.item.Item.{Item}
use Rattle.scc_tree.specs.declared.item.Param.{Param}
use Rattle.scc_tree.specs.declared.item.Prm.{Prm}
use Rattle.scc_tree.specs.declared.local.Decl.{Decl}
use Rattle.scc_tree.specs.declared.stmt.Stmt.{Stmt}
use Rattle.scc_tree.specs.declared.ty.Ty.{Ty}
use Rattle.scc_tree.specs.declared.ty.TyArg.{TyArg}
use Rattle.scc_reading.proofs.Unique as unique
use Rattle.scc_reading.proofs.Unique.{Enough, flat, both}
use Rattle.scc_grammar_spec.specs.Bodies.{Body}
use Rattle.scc_grammar_spec.specs.Items.{ReadsValue, ReadsEnumerator, ReadsMoreEnumerators, ReadsNumbers, ReadsConstantType, ReadsConstant, ReadsResult, ReadsPrm, ReadsMorePrms, ReadsPrms, ReadsBody, ReadsFunction, ReadsInit, ReadsMoreInits, ReadsInits, ReadsConstructor, ReadsClassArgs, ReadsOutside, ReadsItem, ReadsParam, ReadsParams, ReadsTemplate, ReadsMoreDecls, ReadsMember, ReadsMembers, ReadsSpecial, ReadsClass, ReadsPart, ReadsParts, Reads}
use Rattle.scc_grammar_spec.specs.Laws.{OneTree}
use Rattle.scc_grammar_spec.specs.LevelsOfItems.{deep_value, deep_enumerator, deep_more_enumerators, deep_numbers, deep_constant_type, deep_constant, deep_result, deep_prm, deep_more_prms, deep_prms, deep_body, deep_function, deep_init, deep_more_inits, deep_inits, deep_constructor, deep_class_args, deep_outside, deep_more_decls, deep_special, deep_item, deep_param, deep_params, deep_template, deep_member, deep_members, deep_class, deep_part, deep_file, deep}
use Rattle.scc_grammar_terminals.specs.Names.{Names, with_type}
use Rattle.scc_grammar_spec.specs.ParseFile.{program}
use Rattle.scc_grammar_terminals.specs.Text.{Text}
use Rattle.scc_grammar_complete.proofs.Enough.{enough_type, enough_ty_args, enough_chain, enough_expr, enough_cargs, enough_decl, enough_block}
use Rattle.scc_grammar_complete.proofs.CompleteFiles.{complete_program}

module _ (names : Names) where
  enough_value : {ts r : Text} {of : Option Expr} (d : ReadsValue names ts r of) → Enough (λ n. deep_value names n d)
  unfolding deep_value
  enough_value (ReadsValue.no_value) = flat
  enough_value (ReadsValue.value d) = enough_expr names d

  enough_enumerator : {ts r : Text} {of : Enumerator} (d : ReadsEnumerator names ts r of) → Enough (λ n. deep_enumerator names n d)
  unfolding deep_enumerator
  enough_enumerator (ReadsEnumerator.enumerator v) = enough_value v

  enough_more_enumerators : {ts r : Text} {of : List Enumerator} (d : ReadsMoreEnumerators names ts r of) → Enough (λ n. deep_more_enumerators names n d)
  unfolding deep_more_enumerators
  enough_more_enumerators (ReadsMoreEnumerators.no_more) = flat
  enough_more_enumerators (ReadsMoreEnumerators.more d ds) = both (enough_enumerator d) (enough_more_enumerators ds)

  enough_numbers : {ts r : Text} {of : List Enumerator} (d : ReadsNumbers names ts r of) → Enough (λ n. deep_numbers names n d)
  unfolding deep_numbers
  enough_numbers (ReadsNumbers.numbers d ds) = both (enough_enumerator d) (enough_more_enumerators ds)

  enough_constant_type : {ts r : Text} {of : Ty} (d : ReadsConstantType names ts r of) → Enough (λ n. deep_constant_type names n d)
  unfolding deep_constant_type
  enough_constant_type (ReadsConstantType.once d) = enough_type names d
  enough_constant_type (ReadsConstantType.twice d) = enough_type names d

  enough_constant : {ts r : Text} {of : Item} (d : ReadsConstant names ts r of) → Enough (λ n. deep_constant names n d)
  unfolding deep_constant
  enough_constant (ReadsConstant.constant d v) = both (enough_constant_type d) (enough_expr names v)

  enough_result : {ts r : Text} {of : Option Ty} (d : ReadsResult names ts r of) → Enough (λ n. deep_result names n d)
  unfolding deep_result
  enough_result (ReadsResult.nothing) = flat
  enough_result (ReadsResult.result d) = enough_type names d

  enough_prm : {ts r : Text} {of : Prm} (d : ReadsPrm names ts r of) → Enough (λ n. deep_prm names n d)
  unfolding deep_prm
  enough_prm (ReadsPrm.prm d h) = enough_type names d

  enough_more_prms : {ts r : Text} {of : List Prm} (d : ReadsMorePrms names ts r of) → Enough (λ n. deep_more_prms names n d)
  unfolding deep_more_prms
  enough_more_prms (ReadsMorePrms.no_more) = flat
  enough_more_prms (ReadsMorePrms.more d ds) = both (enough_prm d) (enough_more_prms ds)

  enough_prms : {ts r : Text} {of : List Prm} (d : ReadsPrms names ts r of) → Enough (λ n. deep_prms names n d)
  unfolding deep_prms
  enough_prms (ReadsPrms.no_prms) = flat
  enough_prms (ReadsPrms.nothing) = flat
  enough_prms (ReadsPrms.prms d ds) = both (enough_prm d) (enough_more_prms ds)

  enough_body : {ts r : Text} {of : Option (List Stmt)} (d : ReadsBody names ts r of) → Enough (λ n. deep_body names n d)
  unfolding deep_body
  enough_body (ReadsBody.no_body) = flat
  enough_body (ReadsBody.body d) = enough_block names d

  enough_function : {ts r : Text} {of : Item} (d : ReadsFunction names ts r of) → Enough (λ n. deep_function names n d)
  unfolding deep_function
  enough_function (ReadsFunction.function d ps w z) = both (enough_result d) (both (enough_prms ps) (enough_body z))

  enough_init : {ts r : Text} {of : Init} (d : ReadsInit names ts r of) → Enough (λ n. deep_init names n d)
  unfolding deep_init
  enough_init (ReadsInit.named d) = enough_cargs names d
  enough_init (ReadsInit.base d) = enough_cargs names d

  enough_more_inits : {ts r : Text} {of : List Init} (d : ReadsMoreInits names ts r of) → Enough (λ n. deep_more_inits names n d)
  unfolding deep_more_inits
  enough_more_inits (ReadsMoreInits.no_more) = flat
  enough_more_inits (ReadsMoreInits.more d ds) = both (enough_init d) (enough_more_inits ds)

  enough_inits : {ts r : Text} {of : List Init} (d : ReadsInits names ts r of) → Enough (λ n. deep_inits names n d)
  unfolding deep_inits
  enough_inits (ReadsInits.no_inits) = flat
  enough_inits (ReadsInits.inits d ds) = both (enough_init d) (enough_more_inits ds)

  enough_constructor : {ts r : Text} {of : Item} (d : ReadsConstructor names ts r of) → Enough (λ n. deep_constructor names n d)
  unfolding deep_constructor
  enough_constructor (ReadsConstructor.module_constructor is z) = both (enough_inits is) (enough_body z)
  enough_constructor (ReadsConstructor.named ps is z) = both (enough_prms ps) (both (enough_inits is) (enough_body z))
  enough_constructor (ReadsConstructor.explicit ps is z) = both (enough_prms ps) (both (enough_inits is) (enough_body z))

  enough_class_args : {x : Name} {ts r : Text} {of : List TyArg} (d : ReadsClassArgs names x ts r of) → Enough (λ n. deep_class_args names n d)
  unfolding deep_class_args
  enough_class_args (ReadsClassArgs.bare) = flat
  enough_class_args (ReadsClassArgs.with_args h d) = enough_ty_args names d

  enough_outside : {of_template : List Param} {ts r : Text} {of : Item} (d : ReadsOutside names of_template ts r of) → Enough (λ n. deep_outside names n d)
  unfolding deep_outside
  enough_outside (ReadsOutside.function i d k ps w z) = both (enough_result d) (both (enough_class_args k) (both (enough_prms ps) (enough_block names z)))
  enough_outside (ReadsOutside.constructor k ps is z) = both (enough_class_args k) (both (enough_prms ps) (both (enough_inits is) (enough_block names z)))

  enough_more_decls : {ts r : Text} {of : List Decl} (d : ReadsMoreDecls names ts r of) → Enough (λ n. deep_more_decls names n d)
  unfolding deep_more_decls
  enough_more_decls (ReadsMoreDecls.no_more) = flat
  enough_more_decls (ReadsMoreDecls.more d ds) = both (enough_decl names d) (enough_more_decls ds)

  enough_special : {params : Option (List Param)} {x : Name} {ts r : Text} {of : Option (List TyArg)} (d : ReadsSpecial names params x ts r of) → Enough (λ n. deep_special names n d)
  unfolding deep_special
  enough_special (ReadsSpecial.plain) = flat
  enough_special (ReadsSpecial.special h d) = enough_ty_args names d

enough_item : {names names₁ : Names} {ts r : Text} {of : Item} (d : ReadsItem names ts names₁ r of) → Enough (λ n. deep_item n d)
unfolding deep_item
enough_item (ReadsItem.alias {names = names} d) = enough_type names d
enough_item (ReadsItem.named_numbers {names = names} {x = x} d) = enough_numbers (with_type names x) d
enough_item (ReadsItem.numbers {names = names} d) = enough_numbers names d
enough_item (ReadsItem.constant {names = names} d) = enough_constant names d
enough_item (ReadsItem.static_constant {names = names} d) = enough_constant names d
enough_item (ReadsItem.function {names = names} f d) = enough_function names d

enough_param : {names names₁ : Names} {k : Bool} {ts r : Text} {of : Param} (d : ReadsParam names k ts names₁ r of) → Enough (λ n. deep_param n d)
unfolding deep_param
enough_param (ReadsParam.value h) = flat
enough_param (ReadsParam.value_preset {names = names} h d) = enough_chain names d
enough_param (ReadsParam.type h) = flat
enough_param (ReadsParam.type_preset {names = names} {x = x} h d) = enough_type (with_type names x) d

enough_params : {names names₁ : Names} {ts r : Text} {of : List Param} (d : ReadsParams names ts names₁ r of) → Enough (λ n. deep_params n d)
unfolding deep_params
enough_params (ReadsParams.last d) = enough_param d
enough_params (ReadsParams.last_both d) = enough_param d
enough_params (ReadsParams.more d ds) = both (enough_param d) (enough_params ds)

enough_template : {names names₁ : Names} {ts r : Text} {of : List Param} (d : ReadsTemplate names ts names₁ r of) → Enough (λ n. deep_template n d)
unfolding deep_template
enough_template (ReadsTemplate.empty) = flat
enough_template (ReadsTemplate.template d) = enough_params d

enough_member : {b b₁ : Body} {ts r : Text} (d : ReadsMember b ts b₁ r) → Enough (λ n. deep_member n d)
unfolding deep_member
enough_member (ReadsMember.access h) = flat
enough_member (ReadsMember.has_process) = flat
enough_member (ReadsMember.declaration d) = enough_item d
enough_member (ReadsMember.constructor {b = b} d) = enough_constructor b.names d
enough_member (ReadsMember.fields {b = b} d x ds) = both (enough_type b.names d) (both (enough_decl b.names x) (enough_more_decls b.names ds))

enough_members : {b b₁ : Body} {ts r : Text} (d : ReadsMembers b ts b₁ r) → Enough (λ n. deep_members n d)
unfolding deep_members
enough_members (ReadsMembers.no_members) = flat
enough_members (ReadsMembers.members d ds) = both (enough_member d) (enough_members ds)

enough_class : {params : Option (List Param)} {names names₁ : Names} {ts r : Text} {of : Item} (d : ReadsClass params names ts names₁ r of) → Enough (λ n. deep_class n d)
unfolding deep_class
enough_class (ReadsClass.module_class ds) = enough_members ds
enough_class (ReadsClass.class h s b ds) = both (enough_special _ s) (enough_members ds)

enough_part : {b b₁ : Body} {ts r : Text} (d : ReadsPart b ts b₁ r) → Enough (λ n. deep_part n d)
unfolding deep_part
enough_part (ReadsPart.using) = flat
enough_part (ReadsPart.declaration d) = enough_item d
enough_part (ReadsPart.class d) = enough_class d
enough_part (ReadsPart.template_class t d) = both (enough_template t) (enough_class d)
enough_part (ReadsPart.outside {b = b} d) = enough_outside b.names d
enough_part (ReadsPart.template_outside {names = names} t d) = both (enough_template t) (enough_outside names d)

enough_parts : {b b₁ : Body} {ts r : Text} (d : ReadsParts b ts b₁ r) → Enough (λ n. deep_file n d)
unfolding deep_file
enough_parts (ReadsParts.no_parts) = flat
enough_parts (ReadsParts.parts d ds) = both (enough_part d) (enough_parts ds)

pub enough : {ts : Text} {of : List Item} (d : Reads ts of) → Enough (λ n. deep n d)
unfolding deep
enough (Reads.file d) = enough_parts d

pub one_tree : OneTree
one_tree ts a b d e = unique.one_tree program ts a b (λ n. deep n d) (λ n. deep n e) (enough d) (enough e) (λ n. complete_program n d) (λ n. complete_program n e)
