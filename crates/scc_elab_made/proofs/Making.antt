-- Arrays, objects and members, step by step.
use Rattle.std.proofs.Common.{◌≡◌, refl, sym, ap, ◌∙◌, subst, arith, ℕ, zero, suc, ◌+◌, ◌-◌, nat_eq, min, length, take, drop, Bool, true, false, if◌then◌else◌, List, [], ◌∷◌, ◌++◌, map, append_assoc, Option, Some, None, option_map, option_and_then, slice_get, unwrap_or, Result, Ok, Err, OnOk}
use Rattle.std.proofs.lemmas.Option.{slice_get-map}
use Rattle.std.specs.List.{range_with_len}
use Rattle.std.specs.Borrow.{Bor}
use Rattle.std.specs.Option.{option_copied}
use Rattle.scc_base.specs.declared.refusal.Place.{Place}
use Rattle.scc_base.specs.declared.refusal.Stop.{Stop}
use Rattle.scc_base.specs.declared.refusal.Stop.TheVariants as stop
use Rattle.scc_base.specs.declared.code.Code.TheVariants as reason
use Rattle.scc_semantics.specs.Location.{Part, Element}
use Rattle.scc_semantics.specs.Location as location
use Rattle.scc_core_spec.specs.First.{refused}
use Rattle.scc_core_spec.specs.Resolved.{Tried, Made, Stopped, and_made}
use Rattle.scc_plain_tree.specs.declared.program.Plain.{Plain as Tree}
use Rattle.scc_plain_tree.specs.declared.program.PlainClass.{PlainClass}
use Rattle.scc_plain_tree.specs.declared.program.PlainFunction.{PlainFunction}
use Rattle.scc_plain_view.specs.Codes.{base_of, code_of}
use Rattle.scc_plain_tree.specs.declared.program.PlainMember.{PlainMember}
use Rattle.scc_plain_view.specs.Plains.{class_of, function_of, member_of, plain_of}
use Rattle.scc_elab_spec.specs.Term.{Argument}
use Rattle.scc_elab_spec.specs.Types.{is_direct}
use Rattle.scc_elab_spec.specs.Design as design
use Rattle.scc_elab_spec.specs.Program.{Base, Class, Code, Function, Member, Plain}
use Rattle.scc_elab_spec.specs.Grown.{Grown, added, with_vector}
use Rattle.scc_elab_spec.specs.Inits.{inits_of, first_make}
use Rattle.scc_elab_spec.specs.Worth.{Given}
use Rattle.scc_elab_spec.specs.Construct.{Now, Ran, Fell, Left_out, Halted, then_run}
use Rattle.scc_elab_spec.specs.Made.{Building, built, built_in, by_arguments, grown_by, run_inits, last_word, made_members, made_one, made_vector, making, none_given, nowhere, over_elements, elements_at, params_given, run_rest}
use Rattle.scc_elab_spec.specs.Made as spec
use Rattle.scc_elab_grown.specs.Grown.{Grows}
use Rattle.scc_elab_store.specs.Locations.{part_of}
use Rattle.scc_elab_worth.specs.declared.args.Given.{Given as Held}
use Rattle.scc_elab_worth.specs.Arguments.{given_in, IsGiven}
use Rattle.scc_elab_works.specs.declared.works.Work.{Work}
use Rattle.scc_elab_works.specs.declared.works.Work.TheVariants as work
use Rattle.scc_elab_works.specs.declared.works.Form.{Form}
use Rattle.scc_elab_works.specs.declared.works.ElementsOf.{ElementsOf}
use Rattle.scc_elab_works.specs.Hows as how
use Rattle.scc_elab_works.specs.declared.works.VectorOf.{VectorOf}
use Rattle.scc_elab_works.specs.Paths.{rows}
use Rattle.scc_elab_works.specs.Works.{Stand, Passed, Steps, Puts, Begins, Leaves, anew, array_made, at_in, chosen_of, each_made, function_there, making_at, outcome, passed_at, passed_in, run_at, site_at, through}
use Rattle.scc_elab_made.specs.Objects.{form_in, member_at, object_begun, object_filled, rest_made, rest_passed, stand_of}
use Rattle.scc_elab_made.proofs.Stepping.{outcome_one, pass_halts, puts_as, puts_one}
use Rattle.scc_elab_works.proofs.Rows.{rows_are}
use Rattle.scc_elab_works.proofs.Anywhere.{members_any, rest_any}

-- ---- what is made, as a run

pub anew_grown : (t : Tried Grown) → grown_by (anew t) ≡ t
anew_grown (Made g) = refl
anew_grown (Stopped r) = refl

pub and_same : (t : Tried Grown) → and_made t Made ≡ t
and_same (Made g) = refl
and_same (Stopped r) = refl

pub and_and : {A B C : Type 0} (t : Tried A) (f : A → Tried B) (h : B → Tried C) → and_made (and_made t f) h ≡ and_made t (λ a. and_made (f a) h)
and_and (Made a) f h = refl
and_and (Stopped r) f h = refl

pub grows_anew : {A : Type 0} (p : Plain) (r : Result A Stop) (ws : List Work) (g : Grown) (t : Tried Grown) → Grows r g t → Steps p r ws (record { grown = g; last = None }) (outcome p ws (anew t))
grows_anew p (Ok a) ws g t e = ap (λ t. outcome p ws (anew t)) e
grows_anew p (Err (stop.Refused z)) ws g t e = ap (λ t. outcome p ws (anew t)) e ∙ ap grown_by (pass_halts p ws z)
grows_anew p (Err stop.NoMemory) ws g t e = tt

-- what stops before all is made
pub grows_stops : (A : Type 0) (p : Plain) (z : Stop) (ws : List Work) (n : Now) (g : Grown) (t : Tried Grown) (f : Grown → Tried Grown) → Grows {A = A} (Err z) g t → Steps {A = A} p (Err z) ws n (outcome p ws (anew (and_made t f)))
grows_stops A p (stop.Refused r) ws n g t f e = ap (λ t. outcome p ws (anew (and_made t f))) e ∙ ap grown_by (pass_halts p ws r)
grows_stops A p stop.NoMemory ws n g t f e = tt

pub stopped_as : (A : Type 0) (p : Plain) (z : Stop) (ws : List Work) (n : Now) (t u : Tried Grown) → t ≡ u → Steps {A = A} p (Err z) ws n (outcome p ws (anew u)) → Steps {A = A} p (Err z) ws n (outcome p ws (anew t))
stopped_as A p (stop.Refused r) ws n t u e h = ap (λ t. outcome p ws (anew t)) e ∙ h
stopped_as A p stop.NoMemory ws n t u e h = tt

pub given_stops : {X : Type 0} (A : Type 0) (view : X → List Held) (p : Plain) (z : Stop) (ws : List Work) (n : Now) (t : Tried (List Given)) (f : List Given → Tried Grown) → IsGiven view (Err z) t → Steps {A = A} p (Err z) ws n (outcome p ws (anew (and_made t f)))
given_stops A view p (stop.Refused r) ws n t f e = ap (λ t. outcome p ws (anew (and_made t f))) e ∙ ap grown_by (pass_halts p ws r)
given_stops A view p stop.NoMemory ws n t f e = tt

-- after more is put on top of what is to be done, still more
pub puts_after : {A E : Type 0} (r : Result A E) (old mid new : List Work) (f g : Plain → Ran → Ran) → ((p : Plain) (x : Ran) → outcome p mid x ≡ outcome p old (f p x)) → Puts r mid new g → Puts r old new (λ p x. f p (g p x))
puts_after (Ok v) old mid new f g e h = λ p x. h p x ∙ e p (g p x)
puts_after (Err v) old mid new f g e h = tt

-- ---- arrays

no_more : {A : Type 0} (xs : List A) → xs ++ [] ≡ xs
no_more [] = refl
no_more (x ∷ xs) = ap (λ ys. x ∷ ys) (no_more xs)

over_append : {A : Type 0} (f : Grown → A → Tried Grown) (xs ys : List A) (g : Grown) → over_elements f (xs ++ ys) g ≡ and_made (over_elements f xs g) (over_elements f ys)
over_append f [] ys g = refl
over_append f (x ∷ xs) ys g = (λ i. and_made (f g x) (λ h. over_append f xs ys h i)) ∙ sym (and_and (f g x) (over_elements f xs) (over_elements f ys))

module _ (p : Plain) (f : Form) (q : Passed) (path : List Part) where
  -- without sizes it is one thing
  pub array_one : (sizes : List ℕ) (seen : List Part) (g : Grown) → sizes ≡ [] → seen ≡ path → array_made p f q (elements_at path sizes) g ≡ each_made p f q g seen
  array_one sizes seen g e d = ap (λ s. array_made p f q (elements_at path s) g) e ∙ and_same (each_made p f q g (path ++ [])) ∙ ap (each_made p f q g) (no_more path ∙ sym d)

  pub array_rows : (ws new : List Work) (sizes rest : List ℕ) (count : ℕ) (n : Now) → count ∷ rest ≡ sizes → ((p : Plain) (x : Ran) → outcome p new x ≡ outcome p ws (anew (and_made (grown_by x) (array_made p f q (rows path rest 0 count)))))
      → outcome p ws (anew (array_made p f q (elements_at path sizes) n.grown)) ≡ outcome p new (Fell n)
  array_rows ws new sizes rest count n e h = ap (λ s. outcome p ws (anew (array_made p f q s n.grown))) (ap (elements_at path) (sym e) ∙ rows_are path rest count) ∙ sym (h p (Fell n))

  pub no_rows : (ws : List Work) (sizes : List ℕ) (next count : ℕ) (n : Now) → count ≡ 0 → outcome p ws (anew (array_made p f q (rows path sizes next count) n.grown)) ≡ outcome p ws (Fell (record { grown = n.grown; last = None }))
  no_rows ws sizes next count n e = ap (λ c. outcome p ws (anew (array_made p f q (rows path sizes next c) n.grown))) e

  pub rows_go : (ws mid new : List Work) (sizes : List ℕ) (next count left : ℕ) (n : Now) → count ≡ suc left
      → ((p : Plain) (x : Ran) → outcome p mid x ≡ outcome p ws (anew (and_made (grown_by x) (array_made p f q (rows path sizes (next + 1) left)))))
      → ((p : Plain) (x : Ran) → outcome p new x ≡ outcome p mid (anew (and_made (grown_by x) (array_made p f q (elements_at (path ++ Element next ∷ []) sizes)))))
      → outcome p ws (anew (array_made p f q (rows path sizes next count) n.grown)) ≡ outcome p new (Fell n)
  rows_go ws mid new sizes next count left n e h k =
      let first = array_made p f q (elements_at (path ++ Element next ∷ []) sizes) n.grown in
      let others = array_made p f q (rows path sizes (next + 1) left) in
      ap (λ c. outcome p ws (anew (array_made p f q (rows path sizes next c) n.grown))) e
      ∙ ap (λ t. outcome p ws (anew t)) (over_append (each_made p f q) (elements_at (path ++ Element next ∷ []) sizes) (rows path sizes (next + 1) left) n.grown)
      ∙ ap (λ t. outcome p ws (anew (and_made t others))) (sym (anew_grown first))
      ∙ sym (h p (anew first)) ∙ sym (k p (Fell n))

-- ---- vectors

pub no_vector : (ws : List Work) (b : Plain → Building) (g : Grown) (path : List Part) (place : Place) (base : Base) (size : ℕ) → size ≡ 0
    → (p : Plain) → outcome p ws (anew (made_vector (b p) g path place base size)) ≡ outcome p ws (Fell (record { grown = g; last = None }))
no_vector ws b g path place base size e p = ap (λ n. outcome p ws (anew (made_vector (b p) g path place base n))) e

not_zero : (n : ℕ) → (n ≡ 0 → ⊥) → nat_eq n 0 ≡ false
not_zero zero h = absurd (h refl)
not_zero (suc n) h = grind arith

pub vector_goes : (ws new : List Work) (v : VectorOf) (g h : Grown) (path seen : List Part) (size : ℕ) → (size ≡ 0 → ⊥) → h ≡ with_vector g seen size → new ≡ ws ++ work.Vector v ∷ [] → map part_of v.path.items ≡ path → seen ≡ path → v.next ≡ 0 → v.count ≡ min size 65537
    → (p : Plain) → outcome p ws (anew (made_vector (built p v.levels) g path v.place (base_of v.base) size)) ≡ outcome p new (Fell (record { grown = h; last = None }))
vector_goes ws new v g h path seen size z e put q s next few p =
    let made : ℕ → ℕ → List Part → Grown → Tried Grown = λ i c w k. over_elements (λ g i. made_one (built p v.levels) g (w ++ Element i ∷ []) v.place (base_of v.base) none_given) (range_with_len i c) k in
    ap (λ b. outcome p ws (anew (made 0 (min size 65537) path (if b then g else with_vector g path size)))) (not_zero size z)
    ∙ (λ i. outcome p ws (anew (made (sym next i) (sym few i) (sym q i) ((ap (λ w. with_vector g w size) (sym s) ∙ sym e) i))))
    ∙ sym (outcome_one p ws new (work.Vector v) (Fell (record { grown = h; last = None })) put)

pub vector_given : (ws new : List Work) (p : Plain) (build : Building) (g : Grown) (path : List Part) (place : Place) (base : Base) (args : Grown → Tried (List Given)) (gs : List Given) (size : ℕ) (n : Now) → args g ≡ Made gs → size ≡ last_word gs
    → outcome p ws (anew (made_vector build g path place base size)) ≡ outcome p new (Fell n) → outcome p ws (anew (making build g path place base true args)) ≡ outcome p new (Fell n)
vector_given ws new p build g path place base args gs size n e d h = ap (λ t. outcome p ws (anew (and_made t (λ gs. made_vector build g path place base (last_word gs))))) e ∙ ap (λ z. outcome p ws (anew (made_vector build g path place base z))) (sym d) ∙ h

pub vector_begins : {A E : Type 0} (r : Result A E) (ws new : List Work) (v : VectorOf) (g h : Grown) (path seen : List Part) (size : ℕ) → (size ≡ 0 → ⊥) → h ≡ with_vector g seen size → OnOk r (new ≡ ws ++ work.Vector v ∷ []) → map part_of v.path.items ≡ path → seen ≡ path → v.next ≡ 0 → v.count ≡ min size 65537
    → Begins r ws new (record { grown = h; last = None }) (λ p. made_vector (built p v.levels) g path v.place (base_of v.base) size)
vector_begins (Ok a) ws new v g h path seen size z e put q s next few = vector_goes ws new v g h path seen size z e put q s next few
vector_begins (Err a) ws new v g h path seen size z e put q s next few = tt

-- ---- one element

module _ (p : Plain) (f : Form) (q : Passed) (g : Grown) (path : List Part) where
  pub each_pointer : f.is_pointer ≡ true → each_made p f q g path ≡ added g path f.place (design.Pointer None)
  each_pointer e = ap (λ b. if b then added g path f.place (design.Pointer None) else making_at p q.at.levels g path f.place (base_of f.base) f.is_vector (passed_at p q)) e

  pub each_vector : f.is_pointer ≡ false → f.is_vector ≡ true → each_made p f q g path ≡ making_at p q.at.levels g path f.place (base_of f.base) true (passed_at p q)
  each_vector e d = ap (λ b. if b then added g path f.place (design.Pointer None) else making_at p q.at.levels g path f.place (base_of f.base) f.is_vector (passed_at p q)) e
      ∙ ap (λ b. making_at p q.at.levels g path f.place (base_of f.base) b (passed_at p q)) d

  pub each_base : f.is_pointer ≡ false → f.is_vector ≡ false → each_made p f q g path ≡ made_one (built p q.at.levels) g path f.place (base_of f.base) (passed_at p q)
  each_base e d = ap (λ b. if b then added g path f.place (design.Pointer None) else making_at p q.at.levels g path f.place (base_of f.base) f.is_vector (passed_at p q)) e
      ∙ ap (λ b. making_at p q.at.levels g path f.place (base_of f.base) b (passed_at p q)) d

-- ---- objects

pub copied_is : {A : Type 0} (o : Option (Bor A)) → option_map (λ f. f.now) o ≡ option_copied o
copied_is None = refl
copied_is (Some f) = refl

pub constructor_is : (t : Tree) (c : PlainClass) (o : Option (Bor PlainFunction)) → option_map (λ f. f.now) o ≡ option_and_then (λ n. slice_get t.functions n) c.constructor → function_there o ≡ spec.function_of (plain_of t) (class_of c)
constructor_is t c o e = by o ∙ ap (λ z. unwrap_or (option_map function_of z) nowhere) e ∙ ap (λ z. unwrap_or z nowhere) (there c.constructor)
  where
    by : (o : Option (Bor PlainFunction)) → function_there o ≡ unwrap_or (option_map function_of (option_map (λ f. f.now) o)) nowhere
    by None = refl
    by (Some f) = refl

    there : (n : Option ℕ) → option_map function_of (option_and_then (λ n. slice_get t.functions n) n) ≡ option_and_then (λ n. slice_get (map function_of t.functions) n) n
    there None = refl
    there (Some n) = sym (slice_get-map function_of t.functions n)

pub filled_is : (p : Plain) (l : ℕ) (c : Class) (number : ℕ) (g : Grown) (path : List Part) (place : Place) (n : ℕ) (args : Grown → Tried (List Given)) → built_in p (built p l) c number g path place n args ≡ and_made (added g path place (design.Module number)) (object_filled p l c path args)
filled_is p l c number g path place n args = λ i. and_made (added g path place (design.Module number)) (λ h. and_made (args h) (λ gs.
    let f = spec.function_of p c in
    let a = stand_of f (length h.objects - 1) path l in
    and_made (members_any (site_at p a) h (built p l) 0 c.members f.inits (params_given (length h.objects - 1) 0 f.params f.locals gs h) i) (λ k. rest_any (site_at p a) h (built p l) (inits_of None f.inits) f.body k i)))

pub built_none : (t : Tree) (levels l n : ℕ) (g : Grown) (path : List Part) (place : Place) (args : Grown → Tried (List Given)) → levels ≡ suc l → slice_get t.classes n ≡ None → built (plain_of t) levels g path place n args ≡ Made g
built_none t levels l n g path place args e d = ap (λ k. built (plain_of t) k g path place n args) e
    ∙ ap (λ o. unwrap_or (option_map (λ c. built_in (plain_of t) (built (plain_of t) l) c n g path place n args) o) (Made g)) (slice_get-map class_of t.classes n ∙ ap (option_map class_of) d)

pub built_some : (t : Tree) (levels l n : ℕ) (c : PlainClass) (g : Grown) (path : List Part) (place : Place) (args : Grown → Tried (List Given)) → levels ≡ suc l → slice_get t.classes n ≡ Some c
    → built (plain_of t) levels g path place n args ≡ built_in (plain_of t) (built (plain_of t) l) (class_of c) n g path place n args
built_some t levels l n c g path place args e d = ap (λ k. built (plain_of t) k g path place n args) e
    ∙ ap (λ o. unwrap_or (option_map (λ c. built_in (plain_of t) (built (plain_of t) l) c n g path place n args) o) (Made g)) (slice_get-map class_of t.classes n ∙ ap (option_map class_of) d)

pub built_zero : (p : Plain) (levels n : ℕ) (ws : List Work) (g : Grown) (path : List Part) (place : Place) (args : Grown → Tried (List Given)) → levels ≡ 0 → outcome p ws (anew (built p levels g path place n args)) ≡ Stopped (refused reason.TooManyObjects place)
built_zero p levels n ws g path place args e = ap (λ k. outcome p ws (anew (built p k g path place n args))) e ∙ ap grown_by (pass_halts p ws (refused reason.TooManyObjects place))

rest_is : (p : Plain) (a : Stand) (ms : List Member) (n : Now) → rest_passed a ms p (Fell n) ≡ anew (rest_made p a ms n.grown)
rest_is p a ms n = by (made_members (built p a.levels) (site_at p a) 0 ms a.function.inits n.grown)
  where
    by : (t : Tried Grown) → anew (grown_by (then_run (then_run (anew t) (run_at p a (inits_of None a.function.inits))) (run_at p a a.function.body))) ≡ anew (and_made t (run_rest (making_at p a.levels) (site_at p a) (inits_of None a.function.inits) a.function.body))
    by (Made g) = refl
    by (Stopped r) = refl

-- an object takes its arguments, and what is to be done for it is put
pub object_goes : (p : Plain) (ws new : List Work) (levels : ℕ) (f : Function) (ms : List Member) (path : List Part) (g h : Grown) (gs : List Given) (a : Stand) (last : Option ℕ) → a ≡ stand_of f (length g.objects - 1) path levels
    → h ≡ params_given (length g.objects - 1) 0 f.params f.locals gs g → ((p : Plain) (x : Ran) → outcome p new x ≡ outcome p ws (rest_passed a ms p x))
    → outcome p ws (anew (object_begun p levels f ms path g gs)) ≡ outcome p new (Fell (record { grown = h; last = last }))
object_goes p ws new levels f ms path g h gs a last e d k = (λ i. outcome p ws (anew (rest_made p (sym e i) ms (sym d i)))) ∙ ap (outcome p ws) (sym (rest_is p a ms (record { grown = h; last = last }))) ∙ sym (k p (Fell (record { grown = h; last = last })))

pub object_begins : {A E : Type 0} (r : Result A E) (p : Plain) (ws new : List Work) (levels : ℕ) (f : Function) (ms : List Member) (path : List Part) (g h : Grown) (gs : List Given) (a : Stand) (last : Option ℕ) → a.function ≡ f → a.object ≡ length g.objects - 1 → a.path ≡ path → a.levels ≡ levels
    → h ≡ params_given a.object 0 a.function.params a.function.locals gs g → Puts r ws new (rest_passed a ms) → OnOk r (outcome p ws (anew (object_begun p levels f ms path g gs)) ≡ outcome p new (Fell (record { grown = h; last = last })))
object_begins (Ok v) p ws new levels f ms path g h gs a last ef eo ep el d k = object_goes p ws new levels f ms path g h gs a last (λ i. record { function = ef i; object = eo i; path = ep i; levels = el i }) (d ∙ (λ i. params_given (eo i) 0 (ef i).params (ef i).locals gs g)) k
object_begins (Err v) p ws new levels f ms path g h gs a last ef eo ep el d k = tt

abbrev rest_by : Stand → List Member → Code → Code → Plain → Ran → Ran
rest_by a ms inits body p x = anew (grown_by (then_run (then_run (anew (and_made (grown_by x) (made_members (built p a.levels) (site_at p a) 0 ms inits))) (run_at p a (inits_of None inits))) (run_at p a body)))

pub object_put : {A E : Type 0} (r : Result A E) (old new : List Work) (a : Stand) (f : Function) (ms ks : List Member) (inits body : Code) → a.function ≡ f → inits ≡ f.inits → body ≡ f.body → ks ≡ ms → Puts r old new (rest_by a ks inits body) → Puts r old new (rest_passed a ms)
object_put r old new a f ms ks inits body e i b m h = puts_as r old new (rest_by a ks inits body) (rest_passed a ms) (λ p x j. rest_by a (m j) ((i ∙ ap (λ f. f.inits) (sym e)) j) ((b ∙ ap (λ f. f.body) (sym e)) j) p x) h

pub filled_goes : (p : Plain) (ws new : List Work) (levels : ℕ) (c : Class) (path : List Part) (g : Grown) (args : Grown → Tried (List Given)) (gs : List Given) (n : Now) → args g ≡ Made gs
    → outcome p ws (anew (object_begun p levels (spec.function_of p c) c.members path g gs)) ≡ outcome p new (Fell n) → outcome p ws (anew (object_filled p levels c path args g)) ≡ outcome p new (Fell n)
filled_goes p ws new levels c path g args gs n e h = ap (λ t. outcome p ws (anew (and_made t (object_begun p levels (spec.function_of p c) c.members path g)))) e ∙ h

-- ---- more is put

abbrev pub array_passed : Form → Passed → List (List Part) → Plain → Ran → Ran
array_passed f q all p x = anew (and_made (grown_by x) (array_made p f q all))

pub things_as : {A E : Type 0} (r : Result A E) (old new : List Work) (f h : Form) (q k : Passed) (all others : List (List Part)) → f ≡ h → q ≡ k → all ≡ others → Puts r old new (array_passed f q all) → Puts r old new (array_passed h k others)
things_as r old new f h q k all others ef eq ea = puts_as r old new (array_passed f q all) (array_passed h k others) (λ p x i. array_passed (ef i) (eq i) (ea i) p x)

pub elements_put : {A E : Type 0} (r : Result A E) (old new : List Work) (e : ElementsOf) (q : Passed) (path : List Part) → OnOk r (new ≡ old ++ work.Elements e ∷ []) → passed_in e.args ≡ q → map part_of e.path.items ≡ path
    → Puts r old new (array_passed e.form q (rows path e.sizes.now e.next e.count))
elements_put r old new e q path h eq ep = puts_as r old new (λ p x. through p (work.Elements e) x) (array_passed e.form q (rows path e.sizes.now e.next e.count)) (λ p x i. array_passed e.form (eq i) (rows (ep i) e.sizes.now e.next e.count) p x) (puts_one r old new (work.Elements e) h)

pub leaves_as : {A : Type 0} (r : Result A Stop) (g : Grown) (t u : Tried Grown) → u ≡ t → Leaves r g t → Leaves r g u
leaves_as (Ok a) g t u e h = e ∙ h
leaves_as (Err (stop.Refused z)) g t u e h = e ∙ h
leaves_as (Err stop.NoMemory) g t u e h = tt
