-- An assignment of a constructor, as the machine does it.
use Rattle.std.proofs.Common.{◌≡◌, ℕ, List, true, false, Option, Some, None, option_map, option_and_then, ap, refl, sym, ◌∙◌, subst}
use Rattle.scc_bits_kinds.specs.declared.kind.Kind.{Kind}
use Rattle.scc_bits_kinds.specs.declared.kind.Kind.TheVariants as kind
use Rattle.scc_semantics.specs.Location.{Location}
use Rattle.scc_semantics.specs.Places.{Number, Places}
use Rattle.scc_semantics.specs.Expressions as body
use Rattle.scc_semantics.specs.Store.{Request, changed}
use Rattle.scc_semantics.specs.Scene.{index_of}
use Rattle.scc_semantics.specs.Body as machine
use Rattle.scc_semantics.specs.Body.{Body}
use Rattle.scc_semantics.specs.Machine.{Frames, Mark, Inner, Go}
use Rattle.scc_semantics.specs.Value as value
use Rattle.scc_core_spec.specs.Resolved.{Made, and_made, made_map}
use Rattle.scc_elab_spec.specs.Term.{Term, Left, Pick, Whole, OneBit, Bits, kind_of}
use Rattle.scc_elab_spec.specs.Design.{Object, Node, Module, Port, Signal, Variable, Pointer}
use Rattle.scc_elab_spec.specs.Grown.{Grown, node_of, thing_at}
use Rattle.scc_elab_spec.specs.Worth.{Site, at_now, spot, worth, kind_there, bit_given, picked, put_word, put_at, assigned}
use Rattle.scc_elab_spec.specs.Construct.{Now}
use Rattle.scc_elab_spec.specs.Spoken.{left_of, expr_of, pick_of}
use Rattle.scc_elab_spec.specs.Typed.{IsTyped, IsTypedLeft, IsTypedPick}
use Rattle.scc_elab_spec.specs.Common.{names_of, channel_of, thing_now}
use Rattle.scc_elab_spec.proofs.Chains.{and_made-is, made_map-is}
use Rattle.scc_elab_spec.proofs.Valued.{kind_is, firm}
use Rattle.scc_elab_spec.proofs.Regular.{IsFine, of_objects, standing, places_by, scene_with, kind-at, valued-at, located-at, regular-at, changed-at}
use Rattle.scc_elab_spec.proofs.Steps.{Reaches, step-assign}
use Rattle.scc_elab_spec.proofs.Follows.{held}

some_none : {A : Type 0} {a : A} → Some a ≡ None → (n : ℕ) → n ≡ 0
some_none e n = cc

-- what stands where no number does, and where one does
pub thing-none : (s : Site) (l : Location) → kind_there s l ≡ None → thing_now s l ≡ channel_of (option_and_then (node_of s.now) (thing_at s.now l))
thing-none s l e = rw e refl

pub thing-some : (s : Site) (l : Location) (j : Kind) → kind_there s l ≡ Some j → thing_now s l ≡ Some (Number j)
thing-some s l j e = rw e refl

module _ (s : Site) (os : List Object) (n : Now) (fine : IsFine s os n) where
  -- the word that a picked part makes of an old one
  pick-is : (k : Pick) (i : Option ℕ) (j : Kind) (old new : ℕ) → IsTypedPick k → bit_given (at_now s n.grown) k ≡ Made i
      → value.picked (scene_with s os n.grown.store) j (pick_of s.plain s.function k) old new ≡ Some (picked j k i old new)
  pick-is Whole i j old new t e = refl
  pick-is (OneBit b) i j old new t e = let c = made_map-is (λ x. Some (index_of (kind_of b) x)) (worth (at_now s n.grown) b) i e in
      rw (valued-at s os n fine b c.0 t c.1) (rw (kind_is s.plain s.function b t) (ap (λ i. Some (picked j (OneBit b) i old new)) c.2))
  pick-is (Bits h l) i j old new t e = refl

  abbrev pub with_grown : Grown → Now
  with_grown g = record { grown = g; last = n.last }

  -- where no number stands, the store stays
  put-channel : (o : Option Node) (rs : List Request) (l : Location) (k : body.Pick) (new : ℕ) → ((j : Kind) (old : ℕ) → (y : ℕ) × (value.picked (scene_with s os n.grown.store) j k old new ≡ Some y))
      → (qs : List Request) × (value.put_at (channel_of o) (scene_with s os n.grown.store) (held n rs) l k new ≡ Some (held n qs))
  put-channel None rs l k new p = (rs, rw ((p kind.Bool 0).1) refl)
  put-channel (Some (Module c)) rs l k new p = (rs, rw ((p kind.Bool 0).1) refl)
  put-channel (Some (Variable j w)) rs l k new p = (rs, rw ((p kind.Bool 0).1) refl)
  put-channel (Some (Pointer t)) rs l k new p = (rs, rw ((p kind.Bool 0).1) refl)
  put-channel (Some (Signal j)) rs l k new p = ((value.asked (held n rs) l new).requests, rw ((p j 0).1) refl)
  put-channel (Some (Port j output root)) rs l k new p = ((value.asked (held n rs) l new).requests, rw ((p j 0).1) refl)

  put-is : (rs : List Request) (l : Location) (k : Pick) (i : Option ℕ) (x : ℕ) → IsTypedPick k → bit_given (at_now s n.grown) k ≡ Made i
      → (qs : List Request) × (value.put_at (thing_now (standing s os) l) (scene_with s os n.grown.store) (held n rs) l (pick_of s.plain s.function k) x
      ≡ Some (held (with_grown (put_word (at_now s n.grown) k l i x (kind_there (at_now s n.grown) l))) qs))
      × IsFine s os (with_grown (put_word (at_now s n.grown) k l i x (kind_there (at_now s n.grown) l)))
  put-is rs l k i x t e = by (kind_there (standing s os) l) refl
    where
      Put : Option Kind → Type 0
      Put o = (qs : List Request) × (value.put_at (thing_now (standing s os) l) (scene_with s os n.grown.store) (held n rs) l (pick_of s.plain s.function k) x
          ≡ Some (held (with_grown (put_word (at_now s n.grown) k l i x o)) qs)) × IsFine s os (with_grown (put_word (at_now s n.grown) k l i x o))

      none : kind_there (standing s os) l ≡ None → Put None
      none d = let c = put-channel (option_and_then (node_of (of_objects os)) (thing_at (of_objects os) l)) rs l (pick_of s.plain s.function k) x (λ j old. (picked j k i old x, pick-is k i j old x t e)) in
          (c.0, ap (λ q. value.put_at q (scene_with s os n.grown.store) (held n rs) l (pick_of s.plain s.function k) x) (thing-none (standing s os) l d) ∙ c.1, fine)

      some : (j : Kind) → kind_there (standing s os) l ≡ Some j → Put (Some j)
      some j d = (
        rs,
        ap (λ q. value.put_at q (scene_with s os n.grown.store) (held n rs) l (pick_of s.plain s.function k) x) (thing-some (standing s os) l j d)
            ∙ ap (λ q. option_map (λ w. value.with_words (held n rs) (changed l w n.grown.store.words)) q) (pick-is k i j (n.grown.store.words l) x t e),
        record {
          objects = fine.objects;
          words = λ m z. changed-at l (picked j k i (n.grown.store.words l) x) n.grown.store.words m 0 (λ p. some_none (sym d ∙ (ap (kind_there (standing s os)) p ∙ z)) (picked j k i (n.grown.store.words l) x)) (fine.words m z);
          targets = fine.targets;
        },
      )

      by : (o : Option Kind) → kind_there (standing s os) l ≡ o → Put (kind_there (at_now s n.grown) l)
      by None d = subst Put (sym (kind-at s os n fine l ∙ d)) (none d)
      by (Some j) d = subst Put (sym (kind-at s os n fine l ∙ d)) (some j d)

  -- one step of the machine does the assignment
  pub assign-is : (l : Left) (k : Pick) (e : Term) (g : Grown) → IsTypedLeft l → IsTypedPick k → IsTyped e → assigned (at_now s n.grown) l k e ≡ Made g
      → (rest : Body) (mark : Mark) (outer : Frames) (rs : List Request) → (qs : List Request)
      × Reaches (places_by s os) (Go mark (names_of s) (machine.Assign (left_of s.plain s.function true l) (pick_of s.plain s.function k) (expr_of s.plain s.function e) rest) outer) (held n rs)
      (Go Inner (names_of s) rest outer) (held (with_grown g) qs) × IsFine s os (with_grown g)
  assign-is l k e g tl tk te d rest mark outer rs =
      let now : Site = at_now s n.grown in
      let places : Places = places_by s os in
      let c = and_made-is (spot now false true l) (λ o. and_made (bit_given now k) (λ i. made_map (put_at now k o i) (worth now e))) g d in
      let f = firm now (regular-at s os n fine) true l c.0 c.1 in
      let b = and_made-is (bit_given now k) (λ i. made_map (put_at now k c.0 i) (worth now e)) g c.2 in
      let w = made_map-is (put_at now k c.0 b.0) (worth now e) g b.2 in
      let q = put-is rs f.0 k b.0 w.0 tk b.1 in
      let same : put_at now k (Some f.0) b.0 w.0 ≡ g = sym (ap (λ o. put_at now k o b.0 w.0) f.1) ∙ w.2 in
      let step = step-assign places mark (names_of s) rest outer (held n rs) (left_of s.plain s.function true l) (pick_of s.plain s.function k) (expr_of s.plain s.function e) w.0 f.0
      (held (with_grown (put_at now k (Some f.0) b.0 w.0)) q.0) (valued-at s os n fine e w.0 te w.1) (located-at s os n fine false true l c.0 tl c.1 ∙ ap Some f.1) q.1 in
      subst (λ g. (qs : List Request) × Reaches (places_by s os)
      (Go mark (names_of s) (machine.Assign (left_of s.plain s.function true l) (pick_of s.plain s.function k) (expr_of s.plain s.function e) rest) outer) (held n rs)
      (Go Inner (names_of s) rest outer) (held (with_grown g) qs) × IsFine s os (with_grown g)) same (q.0, step, q.2)
