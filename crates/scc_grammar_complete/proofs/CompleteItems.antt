-- Definitions of types, constants, functions and bodies outside their class are read, up to the first token that opens a level too many.
use Rattle.std.specs.Prelude.{◌≡◌, ℕ, Bool, true, false, ◌&&◌, if◌then◌else◌, List, [], ◌∷◌, Option, Some, None, Ok, refl}
use Rattle.std.proofs.Common.{sym, ◌∙◌, ap}
use Rattle.scc_base.specs.declared.names.Name.{Name}
use Rattle.scc_base.specs.declared.refusal.Place.{Place}
use Rattle.scc_tree.specs.declared.item.Init.{Init}
use Rattle.scc_tree.specs.declared.item.Item.{Item}
use Rattle.scc_tree.specs.declared.item.Param.{Param}
use Rattle.scc_tree.specs.declared.item.Prm.{Prm}
use Rattle.scc_tree.specs.declared.stmt.Stmt.{Stmt}
use Rattle.scc_tree.specs.declared.ty.Ty.{Ty}
use Rattle.scc_tree.specs.declared.ty.TyArg.{TyArg}
use Rattle.scc_reading.specs.Level.{◌then◌}
use Rattle.scc_reading.specs.Reading.{and_then, ◌>>=◌, pure, fail, is_next, choose}
use Rattle.scc_reading.proofs.Complete.{Is, vthen, vlast, same, done, picked, passed, turn, last_turn}
use Rattle.scc_grammar_terminals.specs.declared.part.Sort.{Sort}
use Rattle.scc_grammar_terminals.specs.declared.part.Sort.TheVariants as sort
use Rattle.scc_grammar_terminals.specs.declared.part.TypeRead.{TypeRead}
use Rattle.scc_grammar_terminals.specs.declared.terminal.Seen.{Seen}
use Rattle.scc_grammar_terminals.specs.declared.terminal.Terminal.{Terminal}
use Rattle.scc_grammar_terminals.specs.declared.terminal.Terminal.TheVariants as t
use Rattle.scc_grammar_spec.specs.Bodies.{function_of, constructor_of, outside_item}
use Rattle.scc_grammar_spec.specs.Expressions.{ReadsBase, ReadsType}
use Rattle.scc_grammar_terminals.specs.First.{begins_base}
use Rattle.scc_grammar_terminals.specs.Inner.{Inner}
use Rattle.scc_grammar_spec.specs.Items.{ReadsQualifier, ReadsFronts, ReadsConstantType, ReadsConstant, ReadsResult, ReadsPrms, ReadsFunction, ReadsInits, ReadsClassArgs}
use Rattle.scc_grammar_spec.specs.LevelsOfExpressions.{deep_base, deep_type}
use Rattle.scc_grammar_spec.specs.LevelsOfItems.{deep_constant_type, deep_constant, deep_result, deep_prms, deep_function, deep_inits, deep_class_args}
use Rattle.scc_grammar_spec.specs.LevelsOfStatements.{deep_block}
use Rattle.scc_grammar_terminals.specs.Marks as m
use Rattle.scc_grammar_terminals.specs.Names.{Names, is_type}
use Rattle.scc_grammar_terminals.specs.Nodes.{constant_of}
use Rattle.scc_grammar_spec.specs.ParseExpressions as e
use Rattle.scc_grammar_spec.specs.ParseItems as p
use Rattle.scc_grammar_spec.specs.ParseStatements as s
use Rattle.scc_grammar_spec.specs.ParseStatements.{inner}
use Rattle.scc_grammar_spec.specs.Statements.{ReadsBlock}
use Rattle.scc_grammar_terminals.specs.Text.{Text, Parser, at, next_is, next_says}
use Rattle.scc_grammar_complete.proofs.Follows.{type_ends, and_left, true_not_false, next_not}
use Rattle.scc_grammar_complete.proofs.CompleteTypes.{type_read, first_base, base_not_constant, complete_base}
use Rattle.scc_grammar_complete.proofs.CompleteBrackets.{base_sort}
use Rattle.scc_grammar_complete.proofs.CompleteLevels.{Complete, complete}
use Rattle.scc_grammar_complete.proofs.CompleteFunctions.{ItemAgains, qualifier_read, block_first, block_complete, complete_prms, complete_inits, complete_function_rest, complete_constant_rest, no_args, some_args}

base_not_void : (names : Names) (w : Terminal) → begins_base names w ≡ true → m.void_word w ≡ false
base_not_void names t.Void h = cc
base_not_void names _ h = refl

-- behind a condition: one or the other, where the next token does not pick the first
pub either : {A : Type 0} (c : Bool) (test : Seen → Bool) (q₁ q₂ : Parser A) (ts : Text) → is_next test ts ≡ false → (if c then choose test q₁ q₂ else q₂) ts ≡ q₂ ts
either true test q₁ q₂ ts h = passed test q₁ q₂ ts h
either false test q₁ q₂ ts h = refl

-- the same, where it picks the first
pub either_same : {A : Type 0} (c : Bool) (test : Seen → Bool) (q₁ q₂ : Parser A) (ts : Text) → is_next test ts ≡ true → (if c then choose test q₁ q₂ else q₁) ts ≡ q₁ ts
either_same true test q₁ q₂ ts h = picked test q₁ q₂ ts h
either_same false test q₁ q₂ ts h = refl

pub no_first_name : (x : Bool) (xs : List Bool) (ts : Text) → is_next (p.is_first_name (x ∷ xs)) ts ≡ false
no_first_name x xs [] = refl
no_first_name x xs (z ∷ ts) = refl

pub no_constant : (b : Bool) (ts : Text) → is_next (next_is m.constant) ts ≡ false → is_next (λ z. b && m.constant z.terminal) ts ≡ false
no_constant true [] h = refl
no_constant true (z ∷ ts) h = h
no_constant false [] h = refl
no_constant false (z ∷ ts) h = refl

module _ (n : ℕ) (I : ItemAgains n) (names : Names) where
  abbrev i : Inner
  i = inner names n

  abbrev K : Complete names n
  K = complete names n

  pub base_complete : {q : Sort} {k : Place} {ts r : Text} {of : Ty} (d : ReadsBase names q false k ts r of) → type_ends r ≡ true → Is (e.base_at names (inner names n) false ts) (deep_base names n d) (type_read k of q false) r
  base_complete d h = complete_base names i n K.opened K.agains false d (λ h. h) (λ _. h)

  pub not_constant : {q : Sort} {b : Bool} {k : Place} {ts r : Text} {of : Ty} → ReadsBase names q b k ts r of → is_next (next_is m.constant) ts ≡ false
  not_constant {ts = ts} d = next_not (begins_base names) m.constant (base_not_constant names) ts (first_base names d)

  pub not_void : {q : Sort} {b : Bool} {k : Place} {ts r : Text} {of : Ty} → ReadsBase names q b k ts r of → is_next (next_is m.void_word) ts ≡ false
  not_void {ts = ts} d = next_not (begins_base names) m.void_word (base_not_void names) ts (first_base names d)

  -- ---- bodies outside their class

  -- the arguments behind the class's name
  pub record Args (x : Name) (ts r : Text) (v : Option Text) (args : List TyArg) : Type 0 where
    pub found : Option (List TyArg)
    pub or_none : p.or_none found ≡ args
    pub is : Is (p.named_args n names x ts) v found r

  pub complete_class_args : {x : Name} {ts r : Text} {args : List TyArg} (d : ReadsClassArgs names x ts r args) → is_next (next_is m.less) r ≡ false → Args x ts r (deep_class_args names n d) args
  unfolding deep_class_args
  complete_class_args (ReadsClassArgs.bare {x = x} {r = r}) h = record { found = None; or_none = refl; is = done (no_args n I names x r h) }
  complete_class_args (ReadsClassArgs.with_args {x = x} {l = l} {args = args} g d) h = record { found = Some args; or_none = refl; is = some_args n I names x l g d }

  pub args_first : (test : Terminal → Bool) → test t.Less ≡ false → test t.Scope ≡ false → {x : Name} {q : Place} {ts r : Text} {args : List TyArg} → ReadsClassArgs names x ts (at t.Scope q ∷ r) args → is_next (next_is test) ts ≡ false
  args_first test h k (ReadsClassArgs.bare) = k
  args_first test h k (ReadsClassArgs.with_args g d) = h

  pub complete_outside_function : (of_template : List Param) (result : Option Ty) (x y : Name) (q : Place) {g j o c : Place} {b d u w r : Text} {args : List TyArg} {params : List Prm} {of : List Stmt}
      (k : ReadsClassArgs names x b (at t.Scope g ∷ at (t.Ident y) j ∷ at t.ParenOpen o ∷ d) args) (ps : ReadsPrms names d (at t.ParenClose c ∷ u) params) (l : ReadsQualifier u w) (body : ReadsBlock names w r of)
      → Is (p.outside_function n names of_template result (x, q) b) (deep_class_args names n k then deep_prms names n ps then deep_block names n body) (outside_item q of_template x args (function_of j y result params (Some of))) r
  unfolding p.outside_function
  complete_outside_function of_template result x y q {j = j} {r = r} {params = params} {of = of} k ps l z =
      let found : Args _ _ _ _ _ = complete_class_args k refl in
      vthen _ found.is (vthen _ (complete_prms n I names ps)
      (same (ap (λ w. and_then w (λ _. s.block_of names (inner names n) >>= λ of. pure (outside_item q of_template x (p.or_none found.found) (function_of j y result params (Some of))))) (qualifier_read l (block_first names m.constant refl z)))
      (vlast _ (block_complete n I names z) (ap (λ w. Ok (outside_item q of_template x w (function_of j y result params (Some of)), r)) found.or_none))))

  pub complete_outside_constructor : (of_template : List Param) (x y : Name) (q : Place) (found : Option (List TyArg)) (g o : Place) {j c : Place} {d u w r : Text} {params : List Prm} {inits : List Init} {of : List Stmt}
      (ps : ReadsPrms names d (at t.ParenClose c ∷ u) params) (is : ReadsInits names u w inits) (body : ReadsBlock names w r of)
      → Is (p.outside_constructor n names of_template (x, q) found (at t.Scope g ∷ at (t.Ident y) j ∷ at t.ParenOpen o ∷ d)) (deep_prms names n ps then deep_inits names n is then deep_block names n body)
      (outside_item q of_template x (p.or_none found) (constructor_of j y params inits (Some of))) r
  unfolding p.outside_constructor
  complete_outside_constructor of_template x y q found g o ps is z =
      vthen _ (complete_prms n I names ps) (vthen _ (complete_inits n I names is (block_first names m.colon refl z) (block_first names m.comma refl z)) (vlast _ (block_complete n I names z) refl))

  -- ---- in files, behind `static` and `inline`

  -- behind a type that is no constant's
  typed_read : (found : List Bool) (b : TypeRead) (x : Name) (q : Place) (k : Text) → is_next (next_is m.assign) k ≡ false → p.typed n names found b (at (t.Ident x) q ∷ k) ≡ p.named_function n names found (Some b.ty) (x, q) k
  unfolding p.typed
  typed_read found b x q k h = either (e.is_constant b.sort && p.before_constant found) (next_is m.assign) (p.constant_rest n names b.ty (x, q)) (p.named_function n names found (Some b.ty) (x, q)) k h

  -- a type of a word, and one behind `static` or `inline`
  by_base : (found : List Bool) {q : Sort} {j : Place} {ts u r : Text} {of : Ty} {v : Option Text} {tree : Item} (d : ReadsBase names q false j ts u of) → type_ends u ≡ true → is_next (p.is_first_name found) ts ≡ false
      → Is (p.typed n names found (type_read j of q false) u) v tree r → Is (p.fronted n names found ts) (deep_base names n d then v) tree r
  unfolding p.fronted
  by_base found {ts = ts} d g h z =
      same (passed (next_is m.void_word) _ _ ts (not_void d) ∙ passed (next_is m.constant) _ _ ts (not_constant d) ∙ passed (p.is_first_name found) _ _ ts h) (vthen _ (base_complete d g) z)

  -- a type of a name, with nothing before it
  pub if_type : {A : Type 0} (b : Bool) (q₁ q₂ : Parser A) (ts : Text) → b ≡ true → (if b then q₁ else q₂) ts ≡ q₁ ts
  if_type true q₁ q₂ ts h = refl
  if_type false q₁ q₂ ts h = cc

  by_type_name : (x : Name) (j : Place) (args : Option (List TyArg)) (a : Text) {u r : Text} {y : Name} {q : Place} {w v : Option Text} {tree : Item} → is_type names x ≡ true → Is (p.named_args n names x a) w args (at (t.Ident y) q ∷ u)
      → Is (p.typed n names [] (p.named_of (x, j) args) (at (t.Ident y) q ∷ u)) v tree r → Is (p.fronted n names [] (at (t.Ident x) j ∷ a)) (w then v) tree r
  unfolding p.fronted p.by_name
  by_type_name x j args a {u = u} {y = y} {q = q} h g z = vthen _ g (same (if_type (is_type names x) (p.typed n names [] (p.named_of (x, j) args)) fail (at (t.Ident y) q ∷ u) h) z)

  -- a type without `const`, and what stands behind it
  complete_typed : (found : List Bool) {c : Sort} {j : Place} {ts u r : Text} {y : Name} {q : Place} {of : Ty} {v : Option Text} {tree : Item} (d : ReadsBase names c false j ts (at (t.Ident y) q ∷ u) of)
      → Is (p.typed n names found (type_read j of c false) (at (t.Ident y) q ∷ u)) v tree r → Is (p.fronted n names found ts) (deep_base names n d then v) tree r
  unfolding deep_base
  complete_typed (x ∷ xs) {ts = ts} d z = by_base (x ∷ xs) d refl (no_first_name x xs ts) z
  complete_typed [] (ReadsBase.bool) z = by_base [] ReadsBase.bool refl refl z
  complete_typed [] (ReadsBase.int) z = by_base [] ReadsBase.int refl refl z
  complete_typed [] (ReadsBase.short d) z = by_base [] (ReadsBase.short d) refl refl z
  complete_typed [] (ReadsBase.long) z = by_base [] ReadsBase.long refl refl z
  complete_typed [] (ReadsBase.signed d) z = by_base [] (ReadsBase.signed d) refl refl z
  complete_typed [] (ReadsBase.unsigned d) z = by_base [] (ReadsBase.unsigned d) refl refl z
  complete_typed [] (ReadsBase.sized d) z = by_base [] (ReadsBase.sized d) refl refl z
  complete_typed [] (ReadsBase.holder d) z = by_base [] (ReadsBase.holder d) refl refl z
  complete_typed [] (ReadsBase.holder_both d) z = by_base [] (ReadsBase.holder_both d) refl refl z
  complete_typed [] (ReadsBase.clock_input) z = by_base [] ReadsBase.clock_input refl refl z
  complete_typed [] (ReadsBase.module_name) z = by_base [] ReadsBase.module_name refl refl z
  complete_typed [] {j = j} {u = u} {y = y} {q = q} (ReadsBase.named {x = x} h) z = by_type_name x j None (at (t.Ident y) q ∷ u) h (done (no_args n I names x (at (t.Ident y) q ∷ u) refl)) z
  complete_typed [] {j = j} (ReadsBase.with_args {x = x} {l = l} {a = a} {args = args} h d) z = by_type_name x j (Some args) (at t.Less l ∷ a) (and_left _ _ h) (some_args n I names x l h d) z

  -- a type with `const`
  complete_const_typed : (found : List Bool) (k : Place) {c : Sort} {j : Place} {a u r : Text} {y : Name} {q : Place} {of : Ty} {v : Option Text} {tree : Item} (d : ReadsBase names c false j a (at (t.Ident y) q ∷ u) of)
      → Is (p.typed n names found (type_read k (constant_of k of) sort.Constant false) (at (t.Ident y) q ∷ u)) v tree r → Is (p.fronted n names found (at t.Const k ∷ a)) (deep_base names n d then v) tree r
  unfolding p.fronted p.constant_by
  complete_const_typed found k {a = a} d z = same (passed (λ w. p.before_constant found && m.constant w.terminal) _ _ a (no_constant (p.before_constant found) a (not_constant d))) (vthen _ (base_complete d refl) z)

  -- what a function gives, and what stands behind it
  complete_result : (found : List Bool) {ts u r : Text} {y : Name} {q : Place} {result : Option Ty} {v : Option Text} {tree : Item} (d : ReadsResult names ts (at (t.Ident y) q ∷ u) result) → is_next (next_is m.assign) u ≡ false
      → Is (p.named_function n names found result (y, q) u) v tree r → Is (p.fronted n names found ts) (deep_result names n d then v) tree r
  unfolding deep_result deep_type p.fronted
  complete_result found (ReadsResult.nothing) h z = z
  complete_result found {u = u} {y = y} {q = q} (ReadsResult.result (ReadsType.plain {s = c} {p = j} {of = of} d)) h z = complete_typed found d (same (typed_read found (type_read j of c false) y q u h) z)
  complete_result found {u = u} {y = y} {q = q} (ReadsResult.result (ReadsType.constant {p = k} {of = of} d)) h z = complete_const_typed found k d (same (typed_read found (type_read k (constant_of k of) sort.Constant false) y q u h) z)

  pub complete_function : (found : List Bool) {ts r : Text} {of : Item} (d : ReadsFunction names ts r of) → Is (p.fronted n names found ts) (deep_function names n d) of r
  unfolding deep_function p.named_function
  complete_function found (ReadsFunction.function {x = x} {p = q} {o = o} {a = a} {result = result} d ps w b) =
      complete_result found d refl (same (either_same (p.before_outside found) (next_is m.paren_open) (p.function_rest n names result (x, q)) (p.outside_function n names [] result (x, q)) (at t.ParenOpen o ∷ a) refl)
      (complete_function_rest n I names result x q o ps w b))

  pub complete_outside_by : (found : List Bool) → p.before_outside found ≡ true → {ts u r : Text} {x : Name} {q : Place} {result : Option Ty} {v : Option Text} {tree : Item} (d : ReadsResult names ts (at (t.Ident x) q ∷ u) result) → is_next (next_is m.assign) u ≡ false
      → is_next (next_is m.paren_open) u ≡ false → Is (p.outside_function n names [] result (x, q) u) v tree r → Is (p.fronted n names found ts) (deep_result names n d then v) tree r
  unfolding p.named_function
  complete_outside_by found g {u = u} {x = x} {q = q} {result = result} d h k z =
      complete_result found d h (same (if_type (p.before_outside found) (choose (next_is m.paren_open) (p.function_rest n names result (x, q)) (p.outside_function n names [] result (x, q))) (p.function_rest n names result (x, q)) u g
      ∙ passed (next_is m.paren_open) _ _ u k) z)

  -- ---- constants

  pub constant_base : {c : Sort} {j : Place} {ts r : Text} {of : Ty} {A : Type 0} → e.is_constant c ≡ true → ReadsBase names c false j ts r of → A
  constant_base h d = true_not_false (sym h ∙ base_sort names d)

  constant_typed : (found : List Bool) → p.before_constant found ≡ true → (k : Place) (of : Ty) (x : Name) (q e : Place) (u : Text) → p.typed n names found (type_read k of sort.Constant false) (at (t.Ident x) q ∷ at t.Assign e ∷ u) ≡ p.constant_rest n names of (x, q) (at t.Assign e ∷ u)
  unfolding p.typed
  constant_typed found h k of x q e u = if_type (p.before_constant found) (choose (next_is m.assign) (p.constant_rest n names of (x, q)) (p.named_function n names found (Some of) (x, q))) (p.named_function n names found (Some of) (x, q)) (at t.Assign e ∷ u) h

  behind_first : Text → Text
  behind_first [] = []
  behind_first (z ∷ ts) = ts

  pub behind_const : {j k : Place} (a b : Text) → at t.Const j ∷ a ≡ at t.Const k ∷ b → a ≡ b
  unfolding behind_first
  behind_const a b h = ap behind_first h

  -- a type behind a second `const`
  pub complete_twice : (found : List Bool) → p.before_constant found ≡ true → (k : Place) {c : Sort} {w : Place} {ts a u r : Text} {x : Name} {q j : Place} {of : Ty} {v : Option Text} {tree : Item}
      (d : ReadsType names c false w ts (at (t.Ident x) q ∷ at t.Assign j ∷ u) of) → c ≡ sort.Constant → ts ≡ at t.Const w ∷ a
      → Is (p.constant_rest n names of (x, q) (at t.Assign j ∷ u)) v tree r → Is (p.fronted n names found (at t.Const w ∷ at t.Const k ∷ a)) (deep_type names n d then v) tree r
  unfolding deep_type p.fronted p.constant_by p.constant_twice
  complete_twice found g k (ReadsType.plain d) h l z = constant_base (ap e.is_constant h) d
  complete_twice found g k {a = a} (ReadsType.constant {a = b} d) h l z = rw (← behind_const b a l)
      (same (picked (λ w. p.before_constant found && m.constant w.terminal) _ _ (at t.Const k ∷ b) (rw g refl)) (vthen _ (base_complete d refl) z))

  complete_constant_type : (found : List Bool) → p.before_constant found ≡ true → {ts u r : Text} {x : Name} {q j : Place} {of : Ty} {v : Option Text} {tree : Item} (d : ReadsConstantType names ts (at (t.Ident x) q ∷ at t.Assign j ∷ u) of)
      → Is (p.constant_rest n names of (x, q) (at t.Assign j ∷ u)) v tree r → Is (p.fronted n names found ts) (deep_constant_type names n d then v) tree r
  unfolding deep_constant_type deep_type p.fronted p.constant_by p.constant_twice
  complete_constant_type found g (ReadsConstantType.once (ReadsType.plain d)) z = constant_base refl d
  complete_constant_type found g {u = u} {x = x} {q = q} {j = j} (ReadsConstantType.once (ReadsType.constant {p = k} {of = of} d)) z = complete_const_typed found k d (same (constant_typed found g k (constant_of k of) x q j u) z)
  complete_constant_type found g (ReadsConstantType.twice {q = k} d) z = complete_twice found g k d refl refl z

  pub complete_constant : (found : List Bool) → p.before_constant found ≡ true → {ts r : Text} {of : Item} (d : ReadsConstant names ts r of) → Is (p.fronted n names found ts) (deep_constant names n d) of r
  unfolding deep_constant
  complete_constant found g (ReadsConstant.constant {x = x} {p = q} {e = j} {of = of} d v) = complete_constant_type found g d (complete_constant_rest n I names of x q j v)

  -- ---- what stands before

  pub front_turn : {ts r : Text} {found : List Bool} → ReadsFronts ts r found → is_next (next_says p.front) r ≡ false → Is (p.fronts ts) None found r
  unfolding p.fronts
  front_turn (ReadsFronts.no_fronts {r = r}) h = last_turn _ _ r I.fronts h
  front_turn (ReadsFronts.static {p = k} {a = a} d) h = turn _ _ (at t.Static k ∷ a) I.fronts refl (done refl) (front_turn d h)
  front_turn (ReadsFronts.inline {p = k} {a = a} d) h = turn _ _ (at t.Inline k ∷ a) I.fronts refl (done refl) (front_turn d h)
