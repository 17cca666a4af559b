-- Objects: what they make grows and stays apart, and greater bounds change nothing.
use Rattle.std.proofs.Common.{◌≡◌, ℕ, ◌+◌, ◌-◌, ◌≤◌, min, Bool, true, false, not, ◌||◌, nat_eq, List, [], ◌∷◌, ◌++◌, length, length-append, Option, Some, None, slice_get, if◌then◌else◌, ap, refl, sym, ◌∙◌, arith}
use Rattle.std.specs.List.{range_with_len, list_any}
use Rattle.scc_base.specs.declared.refusal.Place.{Place}
use Rattle.scc_semantics.specs.Location.{Location, Part, Element}
use Rattle.scc_semantics.specs.Location as location
use Rattle.scc_core_spec.specs.Resolved.{Tried, Made, and_made}
use Rattle.scc_elab_spec.specs.Term.{Argument}
use Rattle.scc_elab_spec.specs.Inits.{inits_of, first_make, without_make}
use Rattle.scc_elab_spec.specs.Program.{Base, Number, OfClass, Input, Output, Signal, Named, Code, Member, Class, Function, Plain}
use Rattle.scc_elab_spec.specs.Design as design
use Rattle.scc_elab_spec.specs.Design.{Object, Node, is_module}
use Rattle.scc_elab_spec.specs.Types.{is_direct}
use Rattle.scc_elab_spec.specs.Grown.{Grown, added, at_path, with_word, with_vector}
use Rattle.scc_elab_spec.specs.Worth.{Site, at_now, Given, given}
use Rattle.scc_elab_spec.specs.Construct.{Now, Ran, Fell, Left_out, Halted, then_run, ran, most_turns}
use Rattle.scc_elab_spec.specs.Made.{grown_by, params_given, last_word, over_elements, none_given, word_if, Building, made_one, made_vector, making, elements_at, run_inits, by_arguments, made_member, made_members, run_rest, site_of}
use Rattle.scc_elab_spec.proofs.Chains.{and-first, and-second}
use Rattle.scc_elab_growth_laws.specs.Changes.{Word, Vector, Grows}
use Rattle.scc_elab_growth_laws.specs.Sites.{IsOf}
use Rattle.scc_elab_growth_laws.specs.Apart.{Stem, stem, names_differ, Near}
use Rattle.scc_elab_growth_laws.proofs.Paths.{some_same, stem-member, near-stem, Separate}
use Rattle.scc_elab_growth_laws.proofs.Growth.{IsIn, in-kept}
use Rattle.scc_elab_growth_laws.proofs.Keeping.{Adds, Closed, Nothing, SameKeeps, Calm, SameCalm, keeps-same, keeps-more, calm, calm-then, calm-and, calm-to, to-more, same-and, same-from, same-then, SameRun, run-then}
use Rattle.scc_elab_growth_laws.proofs.Placing.{IsPlace, IsEmpty, Solid, Within, solid-closed, within-closed, solid-inside, within-inside, place-behind, empty-behind, empty-place, place-kept, empty-kept}
use Rattle.scc_elab_growth_laws.proofs.Looping.{AllAt, AllSeparate, all-behind, over-same, element, vector-behind, vector-separate, itself-at, array-behind, array-separate}
use Rattle.scc_elab_growth_laws.proofs.Parts.{added-keeps, pointer-keeps}
use Rattle.scc_elab_growth_laws.proofs.Given.{word-if-grows, params-grow}
use Rattle.scc_elab_growth_laws.proofs.Running.{here-kept, ran-same}

pub slice_get-end : {A : Type 0} (xs : List A) (o : A) → slice_get (xs ++ o ∷ []) (length xs) ≡ Some o
slice_get-end [] o = refl
slice_get-end (x ∷ xs) o = slice_get-end xs o

less_one : (n m : ℕ) → n ≡ m + 1 → n - 1 ≡ m
less_one n m e = omega arith

pub slice_get-last : {A : Type 0} (xs : List A) (o : A) → slice_get (xs ++ o ∷ []) (length (xs ++ o ∷ []) - 1) ≡ Some o
slice_get-last xs o = ap (slice_get (xs ++ o ∷ [])) (less_one (length (xs ++ o ∷ [])) (length xs) (length-append xs (o ∷ []))) ∙ slice_get-end xs o

turns_enough : 65537 ≤ most_turns
turns_enough = omega arith

module _ (p : Plain) where
  grown-same : (g : Grown) (r q : Ran) → SameRun p g r q → SameCalm p g (grown_by r) (grown_by q)
  grown-same g (Fell n) q a = (ap grown_by a.0, a.1)
  grown-same g (Left_out d n) q a = (ap grown_by a.0, a.1)
  grown-same g (Halted r) q a = (ap grown_by a.0, tt)

  calm-place : (g h : Grown) (path : List Part) → Grows p g h → Adds Nothing g h → IsPlace g path → IsPlace h path
  calm-place g h path grows adds place = place-kept Nothing g h grows adds path (λ o a n. absurd a) place

  place-later : (g h : Grown) (x y : List Part) → Grows p g h → Adds (Solid x) g h → Separate x y → IsPlace g y → IsPlace h y
  place-later g h x y grows adds apart place = place-kept (Solid x) g h grows adds y (λ o a n. apart o.path a.1 n) place

  empty-later : (g h : Grown) (x y : List Part) → Grows p g h → Adds (Within x) g h → Separate x y → IsEmpty g y → IsEmpty h y
  empty-later g h x y grows adds apart place = empty-kept (Within x) g h grows adds y (λ o a n. apart o.path a n) place

  -- members of an object
  abbrev pub Inside : List Part → Object → Type 0
  Inside path o = (n : ℕ) × (stem o.path ≡ Some (record { around = path; name = n }))

  pub inside-closed : (path : List Part) → Closed (Inside path)
  inside-closed path q o a b c d = (a.0, sym d.0 ∙ a.1)

  abbrev pub slot : List Part → Member → List Part
  slot path m = path ++ location.Member m.name ∷ []

  abbrev pub AllEmpty : List Part → Grown → List Member → Type 0
  AllEmpty path g [] = Unit {0}
  AllEmpty path g (m ∷ ms) = IsEmpty g (slot path m) × AllEmpty path g ms

  module _ (low : ℕ) (build other : Building)
      (building : (g : Grown) (path : List Part) (q : Place) (c : ℕ) (args : Grown → Tried (List Given)) → IsIn low 0 g → SameKeeps p (IsPlace g path) (Solid path) g (build g path q c args) (other g path q c args)) where
    one-same : (g : Grown) (path : List Part) (q : Place) (base : Base) (args : Grown → Tried (List Given)) → IsIn low 0 g → SameKeeps p (IsPlace g path) (Solid path) g (made_one build g path q base args) (made_one other g path q base args)
    one-same g path q (OfClass c) args i = building g path q c args i
    one-same g path q (Number k) args i =
        let f : Grown → Tried Grown = λ h. and_made (args h) (λ gs. Made (word_if gs (at_path path) (with_word h (at_path path) 0))) in
        same-then p (IsPlace g path) (Solid path) g (Solid path) (solid-closed path) (λ o a. a) (λ h. Unit {0}) (added g path q (design.Variable k 0)) (added g path q (design.Variable k 0)) f f (refl, added-keeps p g path q (design.Variable k 0) refl refl) (λ h grows whole apart more adds pre. tt) (λ h a. (
          refl,
          calm-to p (Unit {0}) (Solid path) h (and_made (args h) (λ gs. Made (word_if gs (at_path path) (with_word h (at_path path) 0))))
              (calm-and p h (args h) (λ gs. Made (word_if gs (at_path path) (with_word h (at_path path) 0))) (λ gs b. calm-then p (calm p h (Word (at_path path) 0) tt (λ e. refl)) (word-if-grows p gs (at_path path) (with_word h (at_path path) 0)))),
        ))
    one-same g path q (Signal k) args i = (refl, added-keeps p g path q (design.Signal k) tt refl)
    one-same g path q (Input k) args i = (refl, added-keeps p g path q (design.Port k false (length g.objects)) refl refl)
    one-same g path q (Output k) args i = (refl, added-keeps p g path q (design.Port k true (length g.objects)) refl refl)
    one-same g path q Named args i = (refl, keeps-same p (Solid path) (IsPlace g path) g)

    vector-same : (g : Grown) (path : List Part) (q : Place) (base : Base) (n : ℕ) → IsIn low 0 g → SameKeeps p (IsPlace g path) (Solid path) g (made_vector build g path q base n) (made_vector other g path q base n)
    vector-same g path q base n i = by (nat_eq n 0)
      where
        each : Building → Grown → ℕ → Tried Grown
        each b h j = made_one b h (element path j) q base none_given

        all : List ℕ
        all = range_with_len 0 (min n 65537)

        from : (h : Grown) → IsIn low 0 h → SameKeeps p (IsPlace h path) (Solid path) h (over_elements (each build) all h) (over_elements (each other) all h)
        from h j = let z = over-same p IsPlace Solid solid-closed solid-inside place-later (element path) (IsIn low 0) (λ g h a i. in-kept low 0 a i) (each build) (each other) (λ z x k. one-same z (element path x) q base none_given k) path all (vector-behind path 0 (min n 65537)) h j in (
          z.0,
          to-more p (AllAt (element path) (IsPlace h) all × AllSeparate (element path) all) (Solid path) h (Solid path) (IsPlace h path) (λ o a. a)
              (λ place. (all-behind (element path) (IsPlace h) path (λ y b. place-behind h path y b place) all (vector-behind path 0 (min n 65537)), vector-separate path 0 (min n 65537))) (over_elements (each build) all h) z.1,
        )

        by : (c : Bool) → SameKeeps p (IsPlace g path) (Solid path) g (over_elements (each build) all (if c then g else with_vector g path n)) (over_elements (each other) all (if c then g else with_vector g path n))
        by true = from g i
        by false = let h : Grown = with_vector g path n in let a : Calm p g h = calm p g (Vector path n) tt tt in
            same-from p (IsPlace g path) (Solid path) g Nothing (solid-closed path) (λ o x. absurd x) (IsPlace h path) h (over_elements (each build) all h) (over_elements (each other) all h)
            (keeps-more p Nothing Nothing (Unit {0}) (IsPlace g path) g h (λ o x. x) (λ pre. tt) a) (λ whole apart more adds place. calm-place g h path a.0 adds place) (from h (in-kept low 0 a.0 i))

    pub making-same : (g : Grown) (path : List Part) (q : Place) (base : Base) (v : Bool) (args : Grown → Tried (List Given)) → IsIn low 0 g → SameKeeps p (IsPlace g path) (Solid path) g (making build g path q base v args) (making other g path q base v args)
    making-same g path q base true args i = same-and p (IsPlace g path) (Solid path) g (args g) (λ gs. made_vector build g path q base (last_word gs)) (λ gs. made_vector other g path q base (last_word gs)) (λ gs e. vector-same g path q base (last_word gs) i)
    making-same g path q base false args i = one-same g path q base args i

    module _ (f : Function) (object : ℕ) (path : List Part) (start : Grown) where
      abbrev pub site : Site
      site = site_of p f object path start

      abbrev pub Here : Grown → Type 0
      Here g = IsOf p f object g × IsIn low 0 g

      here-later : {g h : Grown} → Grows p g h → Here g → Here h
      here-later a i = here-kept site low most_turns most_turns turns_enough turns_enough (making build) (making other) making-same a i

      ran-alike : (c : Code) (n : Now) → Here n.grown → SameRun p n.grown (ran (making build) site c n) (ran (making other) site c n)
      ran-alike c n i = ran-same site low most_turns most_turns turns_enough turns_enough (making build) (making other) making-same c n i

      inits-same : (c : Code) (g : Grown) → Here g → SameCalm p g (run_inits (making build) site c g) (run_inits (making other) site c g)
      inits-same c g i = let n : Now = record { grown = g; last = None } in grown-same g (ran (making build) site c n) (ran (making other) site c n) (ran-alike c n i)

      rest-same : (inits body : Code) (g : Grown) → Here g → SameCalm p g (run_rest (making build) site inits body g) (run_rest (making other) site inits body g)
      rest-same inits body g i = let n : Now = record { grown = g; last = None } in
          grown-same g (then_run (ran (making build) site inits n) (ran (making build) site body)) (then_run (ran (making other) site inits n) (ran (making other) site body))
          (run-then p g (ran (making build) site inits n) (ran (making other) site inits n) (ran (making build) site body) (ran (making other) site body) (ran-alike inits n i) (λ m a. ran-alike body m (here-later a i)))

      -- the initialisers behind something
      inits-behind : (Pre : Type 0) (A : Object → Type 0) → Closed A → (t u : Tried Grown) (inits : Code) (g : Grown) → Here g → SameKeeps p Pre A g t u → SameKeeps p Pre A g (and_made t (run_inits (making build) site inits)) (and_made u (run_inits (making other) site inits))
      inits-behind Pre A closed t u inits g i a = same-then p Pre A g A closed (λ o x. x) (λ h. Unit {0}) t u (run_inits (making build) site inits) (run_inits (making other) site inits) a (λ h grows whole apart more adds pre. tt)
          (λ h grows. let z = inits-same inits h (here-later grows i) in (z.0, calm-to p (Unit {0}) A h (run_inits (making build) site inits h) z.1))

      each-same : (m : Member) (args : Grown → Tried (List Given)) (at : List Part) (g : Grown) → Here g
          → SameKeeps p (IsPlace g at) (Solid at) g (over_elements (λ g q. making build g q m.place m.shape.base m.shape.vector args) (elements_at at m.shape.sizes) g) (over_elements (λ g q. making other g q m.place m.shape.base m.shape.vector args) (elements_at at m.shape.sizes) g)
      each-same m args at g i =
          let all : List (List Part) = elements_at at m.shape.sizes in
          let f : Grown → List Part → Tried Grown = λ g q. making build g q m.place m.shape.base m.shape.vector args in
          let e : Grown → List Part → Tried Grown = λ g q. making other g q m.place m.shape.base m.shape.vector args in
          let z = over-same p IsPlace Solid solid-closed solid-inside place-later itself-at Here (λ g h a i. here-later a i) f e (λ h q j. making-same h q m.place m.shape.base m.shape.vector args j.1) at all (array-behind at m.shape.sizes) g i in (
            z.0,
            to-more p (AllAt itself-at (IsPlace g) all × AllSeparate itself-at all) (Solid at) g (Solid at) (IsPlace g at) (λ o a. a)
                (λ place. (all-behind itself-at (IsPlace g) at (λ y b. place-behind g at y b place) all (array-behind at m.shape.sizes), array-separate at m.shape.sizes)) (over_elements f all g) z.1,
          )

      arguments-same : (m : Member) (at : List Part) (inits : Code) (args : Option (List Argument)) (g : Grown) → Here g → SameKeeps p (IsPlace g at) (Solid at) g (by_arguments build site m at inits args g) (by_arguments other site m at inits args g)
      arguments-same m at inits None g i = inits-behind (IsPlace g at) (Solid at) (solid-closed at) (over_elements (λ g q. making build g q m.place m.shape.base m.shape.vector none_given) (elements_at at m.shape.sizes) g)
          (over_elements (λ g q. making other g q m.place m.shape.base m.shape.vector none_given) (elements_at at m.shape.sizes) g) inits g i (each-same m none_given at g i)
      arguments-same m at inits (Some args) g i = let given_now : Grown → Tried (List Given) = λ h. given (at_now site h) args in let before = inits-same (without_make inits) g i in
          same-then p (IsPlace g at) (Solid at) g Nothing (solid-closed at) (λ o x. absurd x) (λ h. IsPlace h at) (run_inits (making build) site (without_make inits) g) (run_inits (making other) site (without_make inits) g)
          (λ g. over_elements (λ g q. making build g q m.place m.shape.base m.shape.vector given_now) (elements_at at m.shape.sizes) g)
          (λ g. over_elements (λ g q. making other g q m.place m.shape.base m.shape.vector given_now) (elements_at at m.shape.sizes) g)
          (before.0, calm-to p (IsPlace g at) Nothing g (run_inits (making build) site (without_make inits) g) before.1) (λ h grows whole apart more adds place. calm-place g h at grows adds place)
          (λ h a. each-same m given_now at h (here-later a i))

      pointers-same : (m : Member) (at : List Part) (g : Grown) → Here g → let add : Grown → List Part → Tried Grown = λ h q. added h q m.place (design.Pointer None) in
          SameKeeps p (IsEmpty g at) (Within at) g (over_elements add (elements_at at m.shape.sizes) g) (over_elements add (elements_at at m.shape.sizes) g)
      pointers-same m at g i =
          let all : List (List Part) = elements_at at m.shape.sizes in
          let add : Grown → List Part → Tried Grown = λ h q. added h q m.place (design.Pointer None) in
          let z = over-same p IsEmpty Within within-closed within-inside empty-later itself-at Here (λ g h a i. here-later a i) add add (λ h q j. (refl, pointer-keeps p h q m.place (design.Pointer None) refl refl)) at all (array-behind at m.shape.sizes) g i in (
            z.0,
            to-more p (AllAt itself-at (IsEmpty g) all × AllSeparate itself-at all) (Within at) g (Within at) (IsEmpty g at) (λ o a. a)
                (λ place. (all-behind itself-at (IsEmpty g) at (λ y b. empty-behind g at y b place) all (array-behind at m.shape.sizes), array-separate at m.shape.sizes)) (over_elements add all g) z.1,
          )

      member-same : (m : Member) (at : List Part) (inits : Code) (g : Grown) → Here g → SameKeeps p (IsEmpty g at) (Within at) g (made_member build site m at inits g) (made_member other site m at inits g)
      member-same m at inits g i = by (is_direct m.shape.reach)
        where
          add : Grown → List Part → Tried Grown
          add h q = added h q m.place (design.Pointer None)

          pointers : Tried Grown
          pointers = over_elements add (elements_at at m.shape.sizes) g

          by : (c : Bool) → SameKeeps p (IsEmpty g at) (Within at) g (if c then by_arguments build site m at inits (first_make inits) g else and_made pointers (run_inits (making build) site inits))
              (if c then by_arguments other site m at inits (first_make inits) g else and_made pointers (run_inits (making other) site inits))
          by true = let z = arguments-same m at inits (first_make inits) g i in (z.0, to-more p (IsPlace g at) (Solid at) g (Within at) (IsEmpty g at) (λ o a. a.1) (λ e. empty-place g at e) (by_arguments build site m at inits (first_make inits) g) z.1)
          by false = inits-behind (IsEmpty g at) (Within at) (within-closed at) pointers pointers inits g i (pointers-same m at g i)

      within-slot : (m : Member) (o : Object) → Within (slot path m) o → Inside path o
      within-slot m o a = (m.name, sym a.0 ∙ stem-member path m.name)

      same-name : (m k : Member) (o : Object) → Within (slot path m) o → Near (slot path k) o.path → m.name ≡ k.name
      same-name m k o a n = ap (λ (z : Stem). z.name) (some_same (sym (stem-member path m.name) ∙ a.0 ∙ sym (near-stem (slot path k) o.path n) ∙ stem-member path k.name))

      others-empty : (g h : Grown) (m : Member) → Grows p g h → Adds (Within (slot path m)) g h → (ms : List Member) → not (list_any (λ k. nat_eq m.name k.name) ms) ≡ true → AllEmpty path g ms → AllEmpty path h ms
      others-empty g h m grows adds [] e a = tt
      others-empty g h m grows adds (k ∷ ms) e a = (
        empty-kept (Within (slot path m)) g h grows adds (slot path k) (λ o x n. differ (nat_eq m.name k.name) (list_any (λ k. nat_eq m.name k.name) ms) (eq-true m.name k.name (same-name m k o x n)) e) a.0,
        others-empty g h m grows adds ms (rest (nat_eq m.name k.name) (list_any (λ k. nat_eq m.name k.name) ms) e) a.1,
      )
        where
          differ : (b c : Bool) → b ≡ true → not (b || c) ≡ true → true ≡ false
          differ true c d e = sym e
          differ false c d e = cc

          rest : (b c : Bool) → not (b || c) ≡ true → not c ≡ true
          rest true c e = cc
          rest false c e = e

          eq-true : (n m : ℕ) → n ≡ m → nat_eq n m ≡ true
          eq-true n m e = grind arith

      members-same : (n : ℕ) (ms : List Member) (inits : Code) (g : Grown) → Here g → SameKeeps p ((names_differ ms ≡ true) × AllEmpty path g ms) (Inside path) g (made_members build site n ms inits g) (made_members other site n ms inits g)
      members-same n [] inits g i = (refl, keeps-same p (Inside path) ((true ≡ true) × Unit {0}) g)
      members-same n (m ∷ ms) inits g i = same-then p ((names_differ (m ∷ ms) ≡ true) × AllEmpty path g (m ∷ ms)) (Inside path) g (Within (slot path m)) (inside-closed path) (within-slot m) (λ h. (names_differ ms ≡ true) × AllEmpty path h ms)
          (made_member build site m (slot path m) (inits_of (Some n) inits) g) (made_member other site m (slot path m) (inits_of (Some n) inits) g) (made_members build site (n + 1) ms inits) (made_members other site (n + 1) ms inits)
          (let z = member-same m (slot path m) (inits_of (Some n) inits) g i in (z.0, to-more p (IsEmpty g (slot path m)) (Within (slot path m)) g (Within (slot path m)) ((names_differ (m ∷ ms) ≡ true) × AllEmpty path g (m ∷ ms)) (λ o a. a) (λ pre. pre.1.0) (made_member build site m (slot path m) (inits_of (Some n) inits) g) z.1))
          (λ h grows whole apart more adds pre. (
            and-second (not (list_any (λ k. nat_eq m.name k.name) ms)) (names_differ ms) pre.0,
            others-empty g h m grows adds ms (and-first (not (list_any (λ k. nat_eq m.name k.name) ms)) (names_differ ms) pre.0) pre.1.1,
          ))
          (λ h a. members-same (n + 1) ms inits h (here-later a i))

      zero_plus : (n : ℕ) → 0 + n ≡ n
      zero_plus n = omega arith

      calm-empty : (g h : Grown) (ms : List Member) → Grows p g h → Adds Nothing g h → AllEmpty path g ms → AllEmpty path h ms
      calm-empty g h [] grows adds a = tt
      calm-empty g h (m ∷ ms) grows adds a = (empty-kept Nothing g h grows adds (slot path m) (λ o x n. absurd x) a.0, calm-empty g h ms grows adds a.1)

      -- behind the object itself and its parameters
      pub object-same : (c : Class) (gs : List Given) → Here start → SameKeeps p ((names_differ c.members ≡ true) × AllEmpty path start c.members) (Inside path) start
          (and_made (made_members build site 0 c.members f.inits (params_given object 0 f.params f.locals gs start)) (run_rest (making build) site (inits_of None f.inits) f.body))
          (and_made (made_members other site 0 c.members f.inits (params_given object 0 f.params f.locals gs start)) (run_rest (making other) site (inits_of None f.inits) f.body))
      object-same c gs i =
          let h : Grown = params_given object 0 f.params f.locals gs start in
          let a : Calm p start h = params-grow p object f 0 f.params f.locals gs start (λ k m e. ap (slice_get f.locals) (zero_plus k) ∙ e) i.0 in
          let j : Here h = here-later a.0 i in
          let Pre : Grown → Type 0 = λ g. (names_differ c.members ≡ true) × AllEmpty path g c.members in
          let t : Tried Grown = made_members build site 0 c.members f.inits h in
          let u : Tried Grown = made_members other site 0 c.members f.inits h in
          let rest : Building → Grown → Tried Grown = λ b. run_rest (making b) site (inits_of None f.inits) f.body in
          same-from p (Pre start) (Inside path) start Nothing (inside-closed path) (λ o x. absurd x) (Pre h) h (and_made t (rest build)) (and_made u (rest other))
          (keeps-more p Nothing Nothing (Unit {0}) (Pre start) start h (λ o x. x) (λ pre. tt) a) (λ whole apart more adds pre. (pre.0, calm-empty start h c.members a.0 adds pre.1))
          (same-then p (Pre h) (Inside path) h (Inside path) (inside-closed path) (λ o x. x) (λ k. Unit {0}) t u (rest build) (rest other) (members-same 0 c.members f.inits h j) (λ k grows whole apart more adds pre. tt)
          (λ k b. let z = rest-same (inits_of None f.inits) f.body k (here-later b j) in (z.0, calm-to p (Unit {0}) (Inside path) k (rest build k) z.1)))
