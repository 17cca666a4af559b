-- Members of classes are read, up to the first token that opens a level too many.
use Rattle.std.specs.Prelude.{◌≡◌, ℕ, Bool, true, false, ◌&&◌, if◌then◌else◌, List, [], ◌∷◌, Option, Some, None, refl}
use Rattle.std.proofs.Common.{◌∙◌, ap}
use Rattle.scc_base.specs.declared.names.Name.{Name}
use Rattle.scc_base.specs.declared.refusal.Place.{Place}
use Rattle.scc_tree.specs.declared.expr.Expr.{Expr}
use Rattle.scc_tree.specs.declared.item.Item.{Item}
use Rattle.scc_tree.specs.declared.local.Decl.{Decl}
use Rattle.scc_tree.specs.declared.local.Hold.TheVariants as hold
use Rattle.scc_tree.specs.declared.ty.Ty.{Ty}
use Rattle.scc_tree.specs.declared.ty.TyArg.{TyArg}
use Rattle.scc_reading.specs.Level.{◌then◌}
use Rattle.scc_reading.specs.Reading.{◌>>=◌, pure, fail, is_next, choose, repeat}
use Rattle.scc_reading.proofs.Complete.{Is, vthen, vlast, same, done, and_then_assoc, picked, passed, turn, last_turn}
use Rattle.scc_grammar_terminals.specs.declared.part.Sort.{Sort}
use Rattle.scc_grammar_terminals.specs.declared.part.Sort.TheVariants as sort
use Rattle.scc_grammar_terminals.specs.declared.part.TypeRead.{TypeRead}
use Rattle.scc_grammar_terminals.specs.declared.terminal.Terminal.{Terminal}
use Rattle.scc_grammar_terminals.specs.declared.terminal.Terminal.TheVariants as t
use Rattle.scc_grammar_spec.specs.Bodies.{Body, with_item, with_fields}
use Rattle.scc_grammar_spec.specs.Expressions.{ReadsBase, ReadsType}
use Rattle.scc_grammar_spec.specs.Items.{access_word, ReadsFronts, ReadsConstantType, ReadsConstant, ReadsResult, ReadsFunction, ReadsConstructor, ReadsMoreDecls}
use Rattle.scc_grammar_spec.specs.LevelsOfExpressions.{deep_base, deep_type}
use Rattle.scc_grammar_spec.specs.LevelsOfItems.{deep_constant_type, deep_constant, deep_result, deep_function, deep_constructor, deep_more_decls}
use Rattle.scc_grammar_spec.specs.LevelsOfStatements.{deep_decl}
use Rattle.scc_grammar_terminals.specs.Marks as m
use Rattle.scc_grammar_terminals.specs.Names.{is_type}
use Rattle.scc_grammar_terminals.specs.Nodes.{constant_of}
use Rattle.scc_grammar_spec.specs.ParseExpressions as e
use Rattle.scc_grammar_spec.specs.ParseFile as f
use Rattle.scc_grammar_spec.specs.ParseItems as p
use Rattle.scc_grammar_spec.specs.ParseStatements.{inner}
use Rattle.scc_grammar_terminals.specs.StatementNodes.{decl_of}
use Rattle.scc_grammar_spec.specs.Statements.{ReadsHold, ReadsSizes, ReadsDecl}
use Rattle.scc_grammar_terminals.specs.Text.{Text, at, next_is, next_says, name_at}
use Rattle.scc_grammar_complete.proofs.Follows.{type_ends, and_left}
use Rattle.scc_grammar_complete.proofs.CompleteTypes.{type_read, first_type}
use Rattle.scc_grammar_complete.proofs.CompleteSimple.{complete_decl, complete_sizes}
use Rattle.scc_grammar_complete.proofs.CompleteLevels.{complete}
use Rattle.scc_grammar_complete.proofs.CompleteFunctions.{ItemAgains, body_first, complete_inits, complete_body, complete_function_rest, complete_constructor_rest, complete_constant_rest, no_args, some_args}
use Rattle.scc_grammar_complete.proofs.CompleteItems.{base_complete, not_constant, not_void, either, either_same, if_type, no_constant, no_first_name, constant_base, behind_const, front_turn}
use Rattle.scc_grammar_complete.proofs.CompleteParts.{Plain, plain_type}

pub access_begins : (w : Terminal) → access_word w ≡ true → p.member_begin w ≡ Some p.access_start
access_begins t.Public h = refl
access_begins t.Hidden h = refl
access_begins _ h = cc

not_held : (b : Bool) → (b && false) ≡ false
not_held true = refl
not_held false = refl

module _ (n : ℕ) (I : ItemAgains n) (b : Body) where
  pub fronted_member : {ts u r : Text} {found : List Bool} {v : Option Text} {last : Body} → ReadsFronts ts u found → Plain u → Is (f.member_fronted n b found u) v last r → Is (f.member n b ts) v last r
  unfolding f.member
  fronted_member {ts} fr k z = same (passed (next_says p.member_begin) _ _ ts (no_member fr k)) (vthen _ (front_turn n I b.names fr k.front) z)
    where
      no_member : {ts u : Text} {found : List Bool} → ReadsFronts ts u found → Plain u → is_next (next_says p.member_begin) ts ≡ false
      no_member (ReadsFronts.no_fronts) k = k.member
      no_member (ReadsFronts.static d) k = refl
      no_member (ReadsFronts.inline d) k = refl

  -- ---- behind a type

  by_base : (found : List Bool) {q : Sort} {j : Place} {ts u r : Text} {of : Ty} {v : Option Text} {last : Body} (d : ReadsBase b.names q false j ts u of) → type_ends u ≡ true → is_next (p.is_first_name found) ts ≡ false
      → Is (f.member_typed n b found (type_read j of q false) u) v last r → Is (f.member_fronted n b found ts) (deep_base b.names n d then v) last r
  unfolding f.member_fronted
  by_base found {ts = ts} d g h z =
      same (passed (next_is m.void_word) _ _ ts (not_void n I b.names d) ∙ passed (next_is m.constant) _ _ ts (not_constant n I b.names d) ∙ passed (p.is_first_name found) _ _ ts h) (vthen _ (base_complete n I b.names d g) z)

  by_type_name : (x : Name) (j : Place) (args : Option (List TyArg)) (a : Text) {u r : Text} {w v : Option Text} {last : Body} → is_type b.names x ≡ true → is_next (next_is m.paren_open) a ≡ false → Is (p.named_args n b.names x a) w args u
      → Is (f.member_typed n b [] (p.named_of (x, j) args) u) v last r → Is (f.member_fronted n b [] (at (t.Ident x) j ∷ a)) (w then v) last r
  unfolding f.member_fronted f.member_name
  by_type_name x j args a h k g z =
      same (passed (next_is m.paren_open) _ _ a k ∙ if_type n I b.names (is_type b.names x) (p.named_args n b.names x >>= λ args. f.member_typed n b [] (p.named_of (x, j) args)) fail a h) (vthen _ g z)

  -- a type without `const`, and what stands behind it
  complete_typed : (found : List Bool) {c : Sort} {j : Place} {ts u r : Text} {of : Ty} {v : Option Text} {last : Body} (d : ReadsBase b.names c false j ts u of) → type_ends u ≡ true → is_next (next_is m.less) u ≡ false → is_next (next_is m.paren_open) u ≡ false
      → Is (f.member_typed n b found (type_read j of c false) u) v last r → Is (f.member_fronted n b found ts) (deep_base b.names n d then v) last r
  unfolding deep_base
  complete_typed (x ∷ xs) {ts = ts} d g k l z = by_base (x ∷ xs) d g (no_first_name x xs ts) z
  complete_typed [] (ReadsBase.bool) g k l z = by_base [] ReadsBase.bool g refl z
  complete_typed [] (ReadsBase.int) g k l z = by_base [] ReadsBase.int g refl z
  complete_typed [] (ReadsBase.short d) g k l z = by_base [] (ReadsBase.short d) g refl z
  complete_typed [] (ReadsBase.long) g k l z = by_base [] ReadsBase.long g refl z
  complete_typed [] (ReadsBase.signed d) g k l z = by_base [] (ReadsBase.signed d) g refl z
  complete_typed [] (ReadsBase.unsigned d) g k l z = by_base [] (ReadsBase.unsigned d) g refl z
  complete_typed [] (ReadsBase.sized d) g k l z = by_base [] (ReadsBase.sized d) g refl z
  complete_typed [] (ReadsBase.holder d) g k l z = by_base [] (ReadsBase.holder d) g refl z
  complete_typed [] (ReadsBase.holder_both d) g k l z = by_base [] (ReadsBase.holder_both d) g refl z
  complete_typed [] (ReadsBase.clock_input) g k l z = by_base [] ReadsBase.clock_input g refl z
  complete_typed [] (ReadsBase.module_name) g k l z = by_base [] ReadsBase.module_name g refl z
  complete_typed [] {j = j} {u = u} (ReadsBase.named {x = x} h) g k l z = by_type_name x j None u h l (done (no_args n I b.names x u k)) z
  complete_typed [] {j = j} (ReadsBase.with_args {x = x} {l = w} {a = a} {args = args} h d) g k l z = by_type_name x j (Some args) (at t.Less w ∷ a) (and_left _ _ h) refl (some_args n I b.names x w h d) z

  complete_const_typed : (found : List Bool) (k : Place) {c : Sort} {j : Place} {a u r : Text} {of : Ty} {v : Option Text} {last : Body} (d : ReadsBase b.names c false j a u of) → type_ends u ≡ true
      → Is (f.member_typed n b found (type_read k (constant_of k of) sort.Constant false) u) v last r → Is (f.member_fronted n b found (at t.Const k ∷ a)) (deep_base b.names n d then v) last r
  unfolding f.member_fronted f.constant_member
  complete_const_typed found k {a = a} d g z = same (passed (λ w. p.before_constant found && m.constant w.terminal) _ _ a (no_constant (p.before_constant found) a (not_constant n I b.names d))) (vthen _ (base_complete n I b.names d g) z)

  complete_any_typed : (found : List Bool) {c : Sort} {j : Place} {ts u r : Text} {of : Ty} {v : Option Text} {last : Body} (d : ReadsType b.names c false j ts u of) → type_ends u ≡ true → is_next (next_is m.less) u ≡ false → is_next (next_is m.paren_open) u ≡ false
      → Is (f.member_typed n b found (type_read j of c false) u) v last r → Is (f.member_fronted n b found ts) (deep_type b.names n d then v) last r
  unfolding deep_type
  complete_any_typed found (ReadsType.plain d) g k l z = complete_typed found d g k l z
  complete_any_typed found (ReadsType.constant {p = j} d) g k l z = complete_const_typed found j d g z

  -- ---- functions and constants

  -- behind a type, a name that no `=` follows
  named_read : (found : List Bool) (of : TypeRead) (x : Name) (q : Place) (u : Text) → is_next (next_is m.assign) u ≡ false → f.member_typed n b found of (at (t.Ident x) q ∷ u) ≡ f.member_named n b found of.ty (x, q) u
  unfolding f.member_typed f.named_member
  named_read found of x q u h = passed (f.is_held n found) _ _ (at (t.Ident x) q ∷ u) (not_held (f.no_front found))
      ∙ either (e.is_constant of.sort && p.before_constant found) (next_is m.assign) (f.member_constant n b of.ty (x, q)) (f.member_named n b found of.ty (x, q)) u h

  function_named : (found : List Bool) (of : Ty) (x : Name) (q o : Place) (u : Text) → f.member_named n b found of (x, q) (at t.ParenOpen o ∷ u) ≡ f.member_function n b (Some of) (x, q) (at t.ParenOpen o ∷ u)
  unfolding f.member_named
  function_named found of x q o u = either_same (f.no_front found) (next_is m.paren_open) (f.member_function n b (Some of) (x, q)) (f.fields_named n b of (x, q)) (at t.ParenOpen o ∷ u) refl

  complete_result : (found : List Bool) {ts u r : Text} {x : Name} {q o : Place} {result : Option Ty} {v : Option Text} {last : Body} (d : ReadsResult b.names ts (at (t.Ident x) q ∷ at t.ParenOpen o ∷ u) result)
      → Is (f.member_function n b result (x, q) (at t.ParenOpen o ∷ u)) v last r → Is (f.member_fronted n b found ts) (deep_result b.names n d then v) last r
  unfolding deep_result f.member_fronted
  complete_result found (ReadsResult.nothing) z = z
  complete_result found {u = u} {x = x} {q = q} {o = o} (ReadsResult.result {s = c} {p = j} {of = of} d) z =
      complete_any_typed found d refl refl refl (same (named_read found (type_read j of c false) x q (at t.ParenOpen o ∷ u) refl ∙ function_named found of x q o u) z)

  pub complete_function : (found : List Bool) {ts r : Text} {of : Item} (d : ReadsFunction b.names ts r of) → Is (f.member_fronted n b found ts) (deep_function b.names n d) (with_item b b.names of) r
  unfolding deep_function f.member_function
  complete_function found (ReadsFunction.function {x = x} {p = q} {o = o} {result = result} d ps w z) = complete_result found d (vlast _ (complete_function_rest n I b.names result x q o ps w z) refl)

  constant_named : (found : List Bool) → p.before_constant found ≡ true → (k : Place) (of : Ty) (x : Name) (q j : Place) (u : Text) → f.member_typed n b found (type_read k of sort.Constant false) (at (t.Ident x) q ∷ at t.Assign j ∷ u) ≡ f.member_constant n b of (x, q) (at t.Assign j ∷ u)
  unfolding f.member_typed f.named_member
  constant_named found h k of x q j u = passed (f.is_held n found) _ _ (at (t.Ident x) q ∷ at t.Assign j ∷ u) (not_held (f.no_front found))
      ∙ if_type n I b.names (p.before_constant found) (choose (next_is m.assign) (f.member_constant n b of (x, q)) (f.member_named n b found of (x, q))) (f.member_named n b found of (x, q)) (at t.Assign j ∷ u) h

  complete_twice : (found : List Bool) → p.before_constant found ≡ true → (k : Place) {c : Sort} {w : Place} {ts a u r : Text} {x : Name} {q j : Place} {of : Ty} {v : Option Text} {last : Body}
      (d : ReadsType b.names c false w ts (at (t.Ident x) q ∷ at t.Assign j ∷ u) of) → c ≡ sort.Constant → ts ≡ at t.Const w ∷ a
      → Is (f.member_constant n b of (x, q) (at t.Assign j ∷ u)) v last r → Is (f.member_fronted n b found (at t.Const w ∷ at t.Const k ∷ a)) (deep_type b.names n d then v) last r
  unfolding deep_type f.member_fronted f.constant_member f.member_constant p.constant_twice
  complete_twice found g k (ReadsType.plain d) h l z = constant_base n I b.names (ap e.is_constant h) d
  complete_twice found g k {w = w} {a = a} (ReadsType.constant {a = c} d) h l z = rw (← behind_const n I b.names c a l)
      (same (picked (λ w. p.before_constant found && m.constant w.terminal) _ _ (at t.Const k ∷ c) (rw g refl)
      ∙ and_then_assoc (e.base_at b.names (inner b.names n) false c) (λ of. name_at >>= λ x. p.constant_rest n b.names (constant_of w of.ty) x) (λ z. pure (with_item b b.names z)))
      (vthen _ (base_complete n I b.names d refl) z))

  pub complete_constant : (found : List Bool) → p.before_constant found ≡ true → {ts r : Text} {of : Item} (d : ReadsConstant b.names ts r of) → Is (f.member_fronted n b found ts) (deep_constant b.names n d) (with_item b b.names of) r
  unfolding deep_constant deep_constant_type deep_type f.member_constant
  complete_constant found g (ReadsConstant.constant {x = x} {p = q} {e = j} {of = of} (ReadsConstantType.once (ReadsType.plain d)) v) = constant_base n I b.names refl d
  complete_constant found g (ReadsConstant.constant {x = x} {p = q} {e = j} {a = a} {of = of} (ReadsConstantType.once (ReadsType.constant {p = k} {of = c} d)) v) =
      complete_const_typed found k d refl (same (constant_named found g k (constant_of k c) x q j a) (vlast _ (complete_constant_rest n I b.names (constant_of k c) x q j v) refl))
  complete_constant found g (ReadsConstant.constant {x = x} {p = q} {e = j} {of = of} (ReadsConstantType.twice {q = k} d) v) = complete_twice found g k d refl refl (vlast _ (complete_constant_rest n I b.names of x q j v) refl)

  -- ---- fields

  one_field : Decl → List Decl → Ty → Body
  one_field first more of = with_fields b of (first ∷ more)

  complete_more_decls : {e : Place} {ts r : Text} {of : List Decl} (d : ReadsMoreDecls b.names ts (at t.Semicolon e ∷ r) of) → Is (repeat (next_is m.comma) (f.one_decl n b.names) ts) (deep_more_decls b.names n d) of (at t.Semicolon e ∷ r)
  unfolding deep_more_decls
  complete_more_decls {e = e} {r = r} (ReadsMoreDecls.no_more) = last_turn _ _ (at t.Semicolon e ∷ r) (I.decls b.names) refl
  complete_more_decls (ReadsMoreDecls.more {c = k} {a = a} d ds) = turn _ _ (at t.Comma k ∷ a) (I.decls b.names) refl (complete_decl b.names (inner b.names n) n (complete b.names n).opened (complete b.names n).agains (complete b.names n).locals d (decls_end ds)) (complete_more_decls ds)
    where
      decls_end : {e : Place} {ts r : Text} {of : List Decl} → ReadsMoreDecls b.names ts (at t.Semicolon e ∷ r) of → is_next (next_is m.bracket_open) ts ≡ false
      decls_end (ReadsMoreDecls.no_more) = refl
      decls_end (ReadsMoreDecls.more d ds) = refl

  decls_first : (test : Terminal → Bool) → test t.Semicolon ≡ false → test t.Comma ≡ false → {e : Place} {ts r : Text} {of : List Decl} → ReadsMoreDecls b.names ts (at t.Semicolon e ∷ r) of → is_next (next_is test) ts ≡ false
  decls_first test h k (ReadsMoreDecls.no_more) = h
  decls_first test h k (ReadsMoreDecls.more d ds) = k

  sizes_first : (test : Terminal → Bool) → test t.BracketOpen ≡ false → {ts r : Text} {of : List Expr} → ReadsSizes b.names ts r of → is_next (next_is test) r ≡ false → is_next (next_is test) ts ≡ false
  sizes_first test h (ReadsSizes.no_sizes) k = k
  sizes_first test h (ReadsSizes.sizes d ds) k = h

  complete_fields_rest : (of : Ty) (first : Decl) {e : Place} {ts r : Text} {more : List Decl} (ds : ReadsMoreDecls b.names ts (at t.Semicolon e ∷ r) more) → Is (f.fields_rest n b of first ts) (deep_more_decls b.names n ds) (with_fields b of (first ∷ more)) r
  unfolding f.fields_rest
  complete_fields_rest of first ds = vlast _ (complete_more_decls ds) refl

  complete_fields : (of : TypeRead) {e : Place} {ts u r : Text} {first : Decl} {more : List Decl} (d : ReadsDecl b.names ts u first) (ds : ReadsMoreDecls b.names u (at t.Semicolon e ∷ r) more)
      → Is (f.member_typed n b [] of ts) (deep_decl b.names n d then deep_more_decls b.names n ds) (with_fields b of.ty (first ∷ more)) r
  unfolding deep_decl f.member_typed f.member_named f.fields_named
  complete_fields of (ReadsDecl.decl {x = x} {p = q} {a = a} {of = sizes} (ReadsHold.direct) d) ds =
      same (named_read [] of x q a (sizes_first m.assign refl d (decls_first m.assign refl refl ds)) ∙ passed (next_is m.paren_open) _ _ a (sizes_first m.paren_open refl d (decls_first m.paren_open refl refl ds)))
      (vthen _ (complete_sizes b.names (inner b.names n) n (complete b.names n).opened (complete b.names n).agains (complete b.names n).locals d (decls_first m.bracket_open refl refl ds)) (complete_fields_rest of.ty (decl_of hold.Direct (x, q) sizes) ds))
  complete_fields of (ReadsDecl.decl {x = x} {p = q} {of = sizes} (ReadsHold.pointer) d) ds =
      vthen _ (complete_decl b.names (inner b.names n) n (complete b.names n).opened (complete b.names n).agains (complete b.names n).locals (ReadsDecl.decl ReadsHold.pointer d) (decls_first m.bracket_open refl refl ds)) (complete_fields_rest of.ty (decl_of hold.Pointer (x, q) sizes) ds)
  complete_fields of (ReadsDecl.decl {x = x} {p = q} {of = sizes} (ReadsHold.reference) d) ds =
      vthen _ (complete_decl b.names (inner b.names n) n (complete b.names n).opened (complete b.names n).agains (complete b.names n).locals (ReadsDecl.decl ReadsHold.reference d) (decls_first m.bracket_open refl refl ds)) (complete_fields_rest of.ty (decl_of hold.Reference (x, q) sizes) ds)

  decl_first : (test : Terminal → Bool) → ((x : Name) → test (t.Ident x) ≡ false) → test t.Star ≡ false → test t.And ≡ false → {ts r : Text} {of : Decl} → ReadsDecl b.names ts r of → is_next (next_is test) ts ≡ false
  decl_first test h k l (ReadsDecl.decl {x = x} (ReadsHold.direct) d) = h x
  decl_first test h k l (ReadsDecl.decl (ReadsHold.pointer) d) = k
  decl_first test h k l (ReadsDecl.decl (ReadsHold.reference) d) = l

  decl_ends : {ts r : Text} {of : Decl} → ReadsDecl b.names ts r of → type_ends ts ≡ true
  decl_ends (ReadsDecl.decl (ReadsHold.direct) d) = refl
  decl_ends (ReadsDecl.decl (ReadsHold.pointer) d) = refl
  decl_ends (ReadsDecl.decl (ReadsHold.reference) d) = refl

  pub complete_fields_member : {q : Sort} {k e : Place} {ts u w r : Text} {of : Ty} {first : Decl} {more : List Decl} (d : ReadsType b.names q false k ts u of) (x : ReadsDecl b.names u w first) (ds : ReadsMoreDecls b.names w (at t.Semicolon e ∷ r) more)
      → Is (f.member n b ts) (deep_type b.names n d then deep_decl b.names n x then deep_more_decls b.names n ds) (with_fields b of (first ∷ more)) r
  complete_fields_member {q = q} {k = k} {ts = ts} {of = of} d x ds =
      fronted_member ReadsFronts.no_fronts (plain_type b.names ts (first_type b.names d)) (complete_any_typed [] d (decl_ends x) (decl_first m.less (λ x. refl) refl refl x) (decl_first m.paren_open (λ x. refl) refl refl x)
      (complete_fields (type_read k of q false) x ds))

  -- ---- constructors and words

  no_word : (x : Name) (q : Place) (a : Text) → Plain (at (t.Ident x) q ∷ a)
  no_word x q a = record { front = refl; part = refl; class = refl; member = refl }

  pub complete_constructor : {ts r : Text} {of : Item} (d : ReadsConstructor b.names ts r of) → Is (f.member n b ts) (deep_constructor b.names n d) (with_item b b.names of) r
  unfolding deep_constructor f.member f.member_by f.member_fronted f.member_name
  complete_constructor (ReadsConstructor.module_constructor is z) = vthen _ (complete_inits n I b.names is (body_first b.names m.colon refl refl z) (body_first b.names m.comma refl refl z)) (vlast _ (complete_body n I b.names z) refl)
  complete_constructor (ReadsConstructor.named {x = x} {p = q} {o = o} {a = a} ps is z) =
      fronted_member ReadsFronts.no_fronts (no_word x q (at t.ParenOpen o ∷ a)) (vlast _ (complete_constructor_rest n I b.names x q o ps is z) refl)
  complete_constructor (ReadsConstructor.explicit {x = x} {p = q} {o = o} ps is z) = vlast _ (complete_constructor_rest n I b.names x q o ps is z) refl
