-- A program that the static stage doesn't refuse has its top, so that construction gives an answer.
use Rattle.std.proofs.Common.{◌≡◌, ℕ, zero, suc, ◌+◌, Bool, true, false, if◌then◌else◌, List, [], ◌∷◌, ◌++◌, filter_map, slice_get, Option, Some, None, option_map, ap, refl, sym, subst, ◌∙◌}
use Rattle.std.specs.Prelude.{◌&&◌, not, nat_lt, length, filter, option_and_then}
use Rattle.std.specs.List.{list_any}
use Rattle.scc_base.specs.declared.code.Code.TheVariants as reason
use Rattle.scc_base.specs.declared.refusal.Place.{Place}
use Rattle.scc_base.specs.declared.refusal.Refusal.{Refusal}
use Rattle.scc_tree.specs.declared.item.FileTree.{FileTree}
use Rattle.scc_core_spec.specs.First.{or_else}
use Rattle.scc_core_spec.specs.Resolved.{Tried, Made, Stopped}
use Rattle.scc_elab_spec.specs.Program as code
use Rattle.scc_elab_spec.specs.Program.{Plain}
use Rattle.scc_elab_spec.specs.Elaborated.{elaborated, run_top, bad_top}
use Rattle.scc_templates_spec.specs.Source.{Source, Param}
use Rattle.scc_templates_spec.specs.SourceView.{source_of}
use Rattle.scc_templates_spec.specs.Walk.{Needed, Class, Nil, Event, Fault, Need, Late, Uses, Calls, Tally, Went, refusal, went_on, stopped, then_go, is_class, same_needed, most, needed, go, empty}
use Rattle.scc_templates_spec.specs.Stage.{next, stage, enough, staged_from, by_late, judged}
use Rattle.scc_templates_spec.specs.World.{World}
use Rattle.scc_plain_first.specs.Static.{Walks, staged, refusal_of}
use Rattle.scc_plain_spec.specs.Names.{Entry, IsClass, IsAlias, IsNumbers, IsEnumerator, IsConstant, IsFunction, IsField, Named, class_at, file_names, meaning_in}
use Rattle.scc_plain_spec.specs.Scope.{Answer, class_body, body_of}
use Rattle.scc_templates_spec.specs.Walked.{and_walk}
use Rattle.scc_plain_spec.specs.Making.{construction}
use Rattle.scc_plain_spec.specs.Stage.{place_of, has_body, top_class, top_walk, functions_in}
use Rattle.scc_plain_spec.specs.Program.{Instance, instances, numbering, body_in, class_of, walks, plain_of, unless_refused, program_in, program_of}
use Rattle.scc_plain_spec.specs.Keys.{outermost}
use Rattle.scc_plain_spec.specs.Designs.{Compiled, if_made, compiled}
use Rattle.scc_plain_spec.specs.Designs as stages

-- ---- what is needed first stays first

-- what is needed is there, too many or new
abbrev answered : Bool → Bool → Needed → Place → Tally → Went
answered b c y p t = if b then went_on t else (if c then stopped t (refusal reason.TooManyInstances p None) else went_on (record { queue = t.queue ++ y ∷ []; late = t.late }))

module _ (x : Needed) where
  abbrev First : Tally → Type 0
  First t = (q : List Needed) × (t.queue ≡ x ∷ q)

  then-keeps : (w : Went) (f : Tally → Went) → First w.tally → ((t : Tally) → First t → First (f t).tally) → First (then_go w f).tally
  then-keeps w f a g = by w.stop
    where
      by : (o : Option Refusal) → First (then_go (record { tally = w.tally; stop = o }) f).tally
      by None = g w.tally a
      by (Some r) = a

  needed-keeps : (y : Needed) (p : Place) (t : Tally) → First t → First (needed y p t).tally
  needed-keeps y p t a = by (list_any (same_needed y) t.queue) (is_class y && not (nat_lt (length (filter is_class t.queue)) most))
    where
      by : (b c : Bool) → First (answered b c y p t).tally
      by true c = a
      by false true = a
      by false false = (a.0 ++ y ∷ [], ap (λ z. z ++ y ∷ []) a.1)

  go-keeps : (es : List Event) (t : Tally) → First t → First (go es t).tally
  go-keeps [] t a = a
  go-keeps (Fault code place other ∷ es) t a = a
  go-keeps (Need y p ∷ es) t a = then-keeps (needed y p t) (go es) (needed-keeps y p t a) (go-keeps es)
  go-keeps (Late place ∷ es) t a = go-keeps es _ a
  go-keeps (Uses ∷ es) t a = go-keeps es t a
  go-keeps (Calls f how place ∷ es) t a = go-keeps es t a

  stage-keeps : (walk_of : Needed → List Event) (n i : ℕ) (t : Tally) → First t → First (stage walk_of n i t).tally
  stage-keeps walk_of zero i t a = a
  stage-keeps walk_of (suc n) i t a = by (slice_get t.queue i) (stage-keeps walk_of n (i + 1))
    where
      by : (o : Option Needed) → ((u : Tally) → First u → First (stage walk_of n (i + 1) u).tally) → First (next walk_of t o (stage walk_of n (i + 1))).tally
      by None more = a
      by (Some y) more = then-keeps (go (walk_of y) t) (stage walk_of n (i + 1)) (go-keeps (walk_of y) t a) more

-- ---- what goes on without a refusal

then-first : (w : Went) (f : Tally → Went) → (then_go w f).stop ≡ None → w.stop ≡ None
then-first w f e = by w.stop refl e
  where
    by : (o : Option Refusal) → w.stop ≡ o → (then_go (record { tally = w.tally; stop = o }) f).stop ≡ None → w.stop ≡ None
    by None d h = d
    by (Some r) d h = d ∙ h

staged-first : (walk_of : Needed → List Event) (first : List Event) → (staged_from walk_of first).stop ≡ None → (go first empty).stop ≡ None
unfolding staged_from
staged-first walk_of first e = then-first (go first empty) (stage walk_of (enough walk_of) 0) e

staged-keeps : (x : Needed) (walk_of : Needed → List Event) (first : List Event) → First x (go first empty).tally → First x (staged_from walk_of first).tally
unfolding staged_from
staged-keeps x walk_of first a = then-keeps x (go first empty) (stage walk_of (enough walk_of) 0) a (stage-keeps x walk_of (enough walk_of) 0)

judged-none : (w : Went) → judged w ≡ None → w.stop ≡ None
judged-none w e = by w.tally.late e
  where
    by : (o : Option Place) → by_late o w.stop ≡ None → w.stop ≡ None
    by None h = h
    by (Some l) h = absurd cc

first-none : {A : Type 0} (a b : Option A) → or_else a b ≡ None → a ≡ None
first-none None b e = refl
first-none (Some x) b e = absurd cc

second-none : {A : Type 0} (a b : Option A) → or_else a b ≡ None → b ≡ None
second-none None b e = e
second-none (Some x) b e = absurd cc

-- ---- the top

module _ (s : Source) (w : World Answer) where
  -- the class of the top, which has no parameters, is needed first
  record TopAt (e : Option Entry) : Type 0 where
    item : ℕ
    named : Named
    there : class_at s item ≡ Some named
    plain : named.class.params ≡ []
    first : First (Class item Nil) (go (top_walk s w e).walk empty).tally

  record ClassAt (c : ℕ) (o : Option Named) : Type 0 where
    named : Named
    there : o ≡ Some named
    plain : named.class.params ≡ []
    first : First (Class c Nil) (go (top_class s w c o).walk empty).tally

  class-at : (c : ℕ) (o : Option Named) → (go (top_class s w c o).walk empty).stop ≡ None → ClassAt c o
  class-at c None h = absurd cc
  class-at c (Some k) h = by k.class.params refl h
    where
      by : (ps : List Param) → k.class.params ≡ ps → (go (top_class s w c (Some (record k { class = record k.class { params = ps } }))).walk empty).stop ≡ None → ClassAt c (Some k)
      by [] e g = record {
        named = k;
        there = refl;
        plain = e;
        first = subst (λ ps. First (Class c Nil) (go (top_class s w c (Some (record k { class = record k.class { params = ps } }))).walk empty).tally) (sym e) (go-keeps (Class c Nil) (and_walk (construction s w c Nil k.place) (has_body s w k.place)).walk (record { queue = Class c Nil ∷ []; late = None }) ([], refl));
      }
      by (q ∷ qs) e g = absurd cc

  top-at : (e : Option Entry) → (go (top_walk s w e).walk empty).stop ≡ None → TopAt e
  top-at None h = absurd cc
  top-at (Some (IsClass c)) h = let a = class-at c (class_at s c) h in record { item = c; named = a.named; there = a.there; plain = a.plain; first = a.first }
  top-at (Some (IsAlias i)) h = absurd cc
  top-at (Some IsNumbers) h = absurd cc
  top-at (Some (IsEnumerator i j)) h = absurd cc
  top-at (Some (IsConstant i)) h = absurd cc
  top-at (Some IsFunction) h = absurd cc
  top-at (Some (IsField i)) h = absurd cc

  -- its body is that of the class itself
  body-at : (c : ℕ) (k : Named) → class_at s c ≡ Some k → k.class.params ≡ [] → body_in s w (record { class = c; args = Nil }) ≡ Some (body_of s c k Nil)
  body-at c k there plain =
      let bare : class_at s c ≡ Some (record k { class = record k.class { params = [] } }) = there ∙ ap (λ ps. Some (record k { class = record k.class { params = ps } })) plain in
      subst (λ ps. body_in s w (record { class = c; args = Nil }) ≡ Some (body_of s c (record k { class = record k.class { params = ps } }) Nil)) (sym plain) (rw (bare, option_and_then, bare) refl)

  both-some : {A B C : Type 0} (f : A → B → C) (o : Option A) (p : Option B) (a : A) (b : B) → o ≡ Some a → p ≡ Some b → option_and_then (λ x. option_map (f x) p) o ≡ Some (f a b)
  both-some f o p a b e g = ap (λ o. option_and_then (λ x. option_map (f x) p) o) e ∙ ap (option_map (f a)) g

  first-kept : {A B : Type 0} (f : A → Option B) (x : A) (xs : List A) (y : B) → f x ≡ Some y → slice_get (filter_map f (x ∷ xs)) 0 ≡ Some y
  first-kept f x xs y e = rw e refl

  top-of : (top : ℕ) (p : Plain) → program_in s w top ≡ Made p → (c : code.Class) × (slice_get p.classes p.top ≡ Some c)
  top-of top p e = by (refusal_of (walks s w top)) refl e
    where
      made : (x : Plain) → Made x ≡ Made p → x ≡ p
      made x h = cc

      by : (o : Option Refusal) → refusal_of (walks s w top) ≡ o → unless_refused s w o (plain_of s w (staged (walks s w top)).tally.queue) ≡ Made p → (c : code.Class) × (slice_get p.classes p.top ≡ Some c)
      by (Some r) d h = absurd cc
      by None d h =
          let none = judged-none (staged (walks s w top)) (first-none _ _ (second-none _ _ d)) in
          let t = top-at (meaning_in (file_names s) top) (staged-first (walks s w top).needed (walks s w top).top none) in
          let q = staged-keeps (Class t.item Nil) (walks s w top).needed (walks s w top).top t.first in
          let b = body-at t.item t.named t.there t.plain in
          let i : Instance = record { class = t.item; args = Nil } in
          let n = numbering s w (Class t.item Nil ∷ q.0) in
          let ms = functions_in s w (Class t.item Nil ∷ q.0) in
          let is = both-some _ (class_at s t.item) (body_in s w i) t.named (body_of s t.item t.named Nil) t.there b in
          subst (λ p. (c : code.Class) × (slice_get p.classes p.top ≡ Some c)) (made _ h)
          (subst (λ q. (c : code.Class) × (slice_get (plain_of s w q).classes 0 ≡ Some c)) (sym q.1)
          (_, first-kept (class_of s w n ms) i (instances q.0) _ is))

some-none : {A : Type 0} {x : A} → Some x ≡ None → ⊥
some-none e = absurd cc

-- construction answers for each program that the static stage gives, so the stages do for each source
pub stages-answer : (many : Bool) (tree : FileTree) (top : ℕ) → compiled many tree top ≡ None → ⊥
stages-answer many tree top e = by (program_of (source_of tree) top) refl e
  where
    answered : (p : Plain) (c : code.Class) → slice_get p.classes p.top ≡ Some c → stages.staged many p ≡ None → ⊥
    answered p c g h = some-none (rw g at h)

    by : (o : Tried Plain) → program_of (source_of tree) top ≡ o → if_made o (stages.staged many) ≡ None → ⊥
    by (Made p) d h = let t = top-of (source_of tree) (outermost (source_of tree)) top p d in answered p t.0 t.1 h
    by (Stopped r) d h = absurd cc
