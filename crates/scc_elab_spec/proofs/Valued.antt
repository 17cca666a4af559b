-- Locations and values: what a constructor finds, the machine finds.
use Rattle.std.proofs.Common.{◌≡◌, ℕ, [], Bool, true, false, ◌&&◌, Option, Some, None, option_map, if◌then◌else◌, ap, refl, sym, ◌∙◌, slice_get}
use Rattle.scc_base.specs.declared.refusal.Place.{Place}
use Rattle.scc_bits_kinds.specs.declared.kind.Kind.{Kind}
use Rattle.scc_bits_kinds.specs.Kinds.{width_of, number_of, stored}
use Rattle.scc_bits_kinds.specs.Bits.{part, joined}
use Rattle.scc_bits.specs.Values.{applied, kind_of as operator_kind}
use Rattle.scc_semantics.specs.Location.{Location, Member, Element, within}
use Rattle.scc_semantics.specs.Expressions as body
use Rattle.scc_semantics.specs.Places.{Thing, Number}
use Rattle.scc_semantics.specs.Scene.{expr_kind, kind_or, loaded, pointed, index_of, chosen, bit_at}
use Rattle.scc_semantics.specs.Value.{locate, value}
use Rattle.scc_semantics.specs.Value as machine
use Rattle.scc_core_spec.specs.Resolved.{Tried, Made, and_made, made_map}
use Rattle.scc_elab_spec.specs.Term.{Term, Literal, Load, Read, Convert, Unary, Binary, Choose, Bit, Range, Join, Left, Local, Answer, This, Follow, Index, kind_of, place_at}
use Rattle.scc_elab_spec.specs.Term as term
use Rattle.scc_elab_spec.specs.Program as plain
use Rattle.scc_elab_spec.specs.Types.{declared_at, is_reference}
use Rattle.scc_elab_spec.specs.Grown.{at_path, local_of}
use Rattle.scc_elab_spec.specs.Worth.{Site, spot, worth, refer, behind, or_null, applied_or, word_at, kind_there, member_name}
use Rattle.scc_elab_spec.specs.Spoken.{left_of, expr_of}
use Rattle.scc_elab_spec.specs.Spoken as spoken
use Rattle.scc_elab_spec.specs.Typed.{IsTyped, IsTypedLeft}
use Rattle.scc_elab_spec.specs.Common.{IsRegular, scene_now, thing_now, pointer_now}
use Rattle.scc_elab_spec.proofs.Chains.{made_same, and_made-is, made_map-is}

-- the kind of an expression's body is its own
pub kind_is : (p : plain.Plain) (f : plain.Function) (e : Term) → IsTyped e → expr_kind (expr_of p f e) ≡ kind_of e
kind_is p f (Literal q k w) t = refl
kind_is p f (Load q k l) t = refl
kind_is p f (Read q k l) t = refl
kind_is p f (Convert q k e) t = refl
kind_is p f (Unary q k o a) t = ap (λ j. kind_or (operator_kind o j j)) (kind_is p f a t.1) ∙ ap kind_or t.0
kind_is p f (Binary q k o a b) t = ap (λ i. kind_or (operator_kind o i (expr_kind (expr_of p f b)))) (kind_is p f a t.1)
    ∙ (ap (λ j. kind_or (operator_kind o (kind_of a) j)) (kind_is p f b t.2) ∙ ap kind_or t.0)
kind_is p f (Choose q k n a b) t = refl
kind_is p f (Bit q a e) t = refl
kind_is p f (Range q k a h l) t = refl
kind_is p f (Join q k a b) t = refl

or_null-is : (soft : Bool) (p : Place) (t o : Option Location) → or_null soft p t ≡ Made o → t ≡ o
or_null-is soft p (Some l) o e = made_same e
or_null-is true p None o e = made_same e
or_null-is false p None o e = cc

applied_or-is : (p : Place) (q : Option ℕ) (x : ℕ) → applied_or p q ≡ Made x → q ≡ Some x
applied_or-is p (Some y) x e = ap Some (made_same e)
applied_or-is p None x e = cc

pub behind-is : (q : Option (Option Location)) (k o : Option Location) (f : Location → Tried (Option Location)) (g : Location → Option (Option Location))
    → q ≡ Some k → ((l : Location) → f l ≡ Made o → g l ≡ Some o) → behind k f ≡ Made o → machine.behind q g ≡ Some o
behind-is q None o f g e h d = ap (λ q. machine.behind q g) e ∙ ap Some (made_same d)
behind-is q (Some l) o f g e h d = ap (λ q. machine.behind q g) e ∙ h l d

or_null-firm : (p : Place) (t o : Option Location) → or_null false p t ≡ Made o → (x : Location) × (o ≡ Some x)
or_null-firm p (Some l) o e = (l, sym (made_same e))
or_null-firm p None o e = cc

behind-firm : (k : Option Location) → (x : Location) × (k ≡ Some x) → (f : Location → Tried (Option Location)) (o : Option Location)
    → ((l : Location) → f l ≡ Made o → (x : Location) × (o ≡ Some x)) → behind k f ≡ Made o → (x : Location) × (o ≡ Some x)
behind-firm None x f o h e = let g : None ≡ Some x.0 = x.1 in absurd cc
behind-firm (Some l) x f o h e = h l e

loaded-zero : (t : Option Thing) → loaded t 0 ≡ 0
loaded-zero None = refl
loaded-zero (Some (Number k)) = refl
loaded-zero (Some t) = refl

module _ (s : Site) (regular : IsRegular s) where
  pub loaded-is : (l : Location) → loaded (thing_now s l) (s.now.store.words l) ≡ s.now.store.words l
  loaded-is l = by (kind_there s l) refl
    where
      by : (k : Option Kind) → kind_there s l ≡ k → loaded (thing_now s l) (s.now.store.words l) ≡ s.now.store.words l
      by None e = rw (regular.words l e) (loaded-zero (thing_now s l))
      by (Some k) e = rw e refl

  pub pointed-is : (l : Location) → pointed (pointer_now s l) (s.now.store.targets l) ≡ s.now.store.targets l
  pointed-is l = by (pointer_now s l) refl
    where
      by : (b : Bool) → pointer_now s l ≡ b → pointed b (s.now.store.targets l) ≡ s.now.store.targets l
      by true e = refl
      by false e = sym (regular.targets l e)

  referred : (p : Place) (soft follow : Bool) (m : Option plain.Member) (k : Location) (b : body.Left) (o : Option Location)
      → locate (scene_now s) b ≡ Some (Some k) → refer s p soft follow m k ≡ Made o → locate (scene_now s) (spoken.refer follow m b) ≡ Some o
  referred p soft follow None k b o e d = e ∙ ap Some (made_same d)
  referred p soft follow (Some m) k b o e d = by (follow && is_reference m.shape.reach) d
    where
      by : (c : Bool) → (if c then or_null soft p (s.now.store.targets k) else Made (Some k)) ≡ Made o → locate (scene_now s) (if c then body.Follow b else b) ≡ Some o
      by true d = ap (λ q. machine.behind q (λ l. Some (pointed (pointer_now s l) (s.now.store.targets l)))) e
          ∙ (ap Some (pointed-is k) ∙ ap Some (or_null-is soft p (s.now.store.targets k) o d))
      by false d = e ∙ ap Some (made_same d)

  refer_null : (follow : Bool) (m : Option plain.Member) (b : body.Left) → locate (scene_now s) b ≡ Some None → locate (scene_now s) (spoken.refer follow m b) ≡ Some None
  refer_null follow None b e = e
  refer_null follow (Some m) b e = by (follow && is_reference m.shape.reach)
    where
      by : (c : Bool) → locate (scene_now s) (if c then body.Follow b else b) ≡ Some None
      by true = ap (λ q. machine.behind q (λ l. Some (pointed (pointer_now s l) (s.now.store.targets l)))) e
      by false = e

  member-is : (p : Place) (soft follow : Bool) (d : Option plain.Member) (x : Option Location) (b : body.Left) (o : Option Location) → locate (scene_now s) b ≡ Some x
      → behind x (λ k. refer s p soft follow d (within k (Member (member_name d)))) ≡ Made o → locate (scene_now s) (spoken.refer follow d (body.Field b (member_name d))) ≡ Some o
  member-is p soft follow d None b o e g = refer_null follow d (body.Field b (member_name d)) (ap (λ q. machine.behind q (λ k. Some (Some (within k (Member (member_name d)))))) e) ∙ ap Some (made_same g)
  member-is p soft follow d (Some k) b o e g = referred p soft follow d (within k (Member (member_name d))) (body.Field b (member_name d)) o
      (ap (λ q. machine.behind q (λ k. Some (Some (within k (Member (member_name d)))))) e) g

  refer-firm : (p : Place) (follow : Bool) (m : Option plain.Member) (k : Location) (o : Option Location) → refer s p false follow m k ≡ Made o → (x : Location) × (o ≡ Some x)
  refer-firm p follow None k o e = (k, sym (made_same e))
  refer-firm p follow (Some m) k o e = by (follow && is_reference m.shape.reach) e
    where
      by : (c : Bool) → (if c then or_null false p (s.now.store.targets k) else Made (Some k)) ≡ Made o → (x : Location) × (o ≡ Some x)
      by true e = or_null-firm p (s.now.store.targets k) o e
      by false e = (k, sym (made_same e))

  -- a location that is no target is not null
  pub firm : (follow : Bool) (l : Left) (o : Option Location) → spot s false follow l ≡ Made o → (x : Location) × (o ≡ Some x)
  firm follow (Local p n) o e = refer-firm p follow (slice_get s.function.locals n) (local_of s.object n []) o e
  firm follow (Answer p n) o e = cc
  firm follow (This p) o e = (at_path s.path, sym (made_same e))
  firm follow (Follow p l) o e = let c = and_made-is (spot s false true l) (λ o. behind o (λ k. or_null false p (s.now.store.targets k))) o e in
      behind-firm c.0 (firm true l c.0 c.1) (λ k. or_null false p (s.now.store.targets k)) o (λ k d. or_null-firm p (s.now.store.targets k) o d) c.2
  firm follow (term.Member l m) o e = let d = declared_at s.plain s.function (term.Member l m) in
      let c = and_made-is (spot s false true l) (λ x. behind x (λ k. refer s (place_at l) false follow d (within k (Member (member_name d))))) o e in
      behind-firm c.0 (firm true l c.0 c.1) (λ k. refer s (place_at l) false follow d (within k (Member (member_name d)))) o (λ k g. refer-firm (place_at l) follow d (within k (Member (member_name d))) o g) c.2
  firm follow (Index l e) o d = let c = and_made-is (spot s false true l) (λ o. behind o (λ k. made_map (λ i. Some (within k (Element (index_of (kind_of e) i)))) (worth s e))) o d in
      behind-firm c.0 (firm true l c.0 c.1) (λ k. made_map (λ i. Some (within k (Element (index_of (kind_of e) i)))) (worth s e)) o
      (λ k g. let x = made_map-is (λ i. Some (within k (Element (index_of (kind_of e) i)))) (worth s e) o g in (within k (Element (index_of (kind_of e) x.0)), sym x.2)) c.2

  mutual
    -- a location that is found, null among them
    pub located : (soft follow : Bool) (l : Left) (o : Option Location) → IsTypedLeft l → spot s soft follow l ≡ Made o → locate (scene_now s) (left_of s.plain s.function follow l) ≡ Some o
    located soft follow (Local p n) o t e = referred p soft follow (slice_get s.function.locals n) (local_of s.object n []) (body.Declared n) o refl e
    located soft follow (Answer p n) o t e = cc
    located soft follow (This p) o t e = ap Some (made_same e)
    located soft follow (Follow p l) o t e = let c = and_made-is (spot s soft true l) (λ o. behind o (λ k. or_null soft p (s.now.store.targets k))) o e in
        behind-is (locate (scene_now s) (left_of s.plain s.function true l)) c.0 o (λ k. or_null soft p (s.now.store.targets k))
        (λ k. Some (pointed (pointer_now s k) (s.now.store.targets k)))
        (located soft true l c.0 t c.1) (λ k d. ap Some (pointed-is k) ∙ ap Some (or_null-is soft p (s.now.store.targets k) o d)) c.2
    located soft follow (term.Member l m) o t e = let d = declared_at s.plain s.function (term.Member l m) in
        let c = and_made-is (spot s soft true l) (λ x. behind x (λ k. refer s (place_at l) soft follow d (within k (Member (member_name d))))) o e in
        member-is (place_at l) soft follow d c.0 (left_of s.plain s.function true l) o (located soft true l c.0 t c.1) c.2
    located soft follow (Index l e) o t d = let c = and_made-is (spot s soft true l) (λ o. behind o (λ k. made_map (λ i. Some (within k (Element (index_of (kind_of e) i)))) (worth s e))) o d in
        behind-is (locate (scene_now s) (left_of s.plain s.function true l)) c.0 o (λ k. made_map (λ i. Some (within k (Element (index_of (kind_of e) i)))) (worth s e))
        (λ k. option_map (λ i. Some (within k (Element (index_of (expr_kind (expr_of s.plain s.function e)) i)))) (value (scene_now s) (expr_of s.plain s.function e)))
        (located soft true l c.0 t.0 c.1)
        (λ k g. let x = made_map-is (λ i. Some (within k (Element (index_of (kind_of e) i)))) (worth s e) o g in
        rw (valued e x.0 t.1 x.1) (rw (kind_is s.plain s.function e t.1) (ap Some x.2))) c.2

    -- the word of an expression
    pub valued : (e : Term) (x : ℕ) → IsTyped e → worth s e ≡ Made x → value (scene_now s) (expr_of s.plain s.function e) ≡ Some x
    valued (Literal p k w) x t d = ap Some (made_same d)
    valued (Read p k l) x t d = cc
    valued (Load p k l) x t d = let c = made_map-is (word_at s) (spot s false true l) x d in let f = firm true l c.0 c.1 in
        rw (located false true l c.0 t c.1) (rw f.1 (ap Some (loaded-is f.0 ∙ (ap (word_at s) (sym f.1) ∙ c.2))))
    valued (Convert p k e) x t d = let c = made_map-is (λ x. stored k (number_of (kind_of e) x)) (worth s e) x d in
        rw (valued e c.0 t c.1) (rw (kind_is s.plain s.function e t) (ap Some c.2))
    valued (Unary p k o a) x t d = let c = and_made-is (worth s a) (λ x. applied_or p (applied o (kind_of a) x (kind_of a) x)) x d in
        rw (valued a c.0 t.1 c.1) (rw (kind_is s.plain s.function a t.1) (applied_or-is p (applied o (kind_of a) c.0 (kind_of a) c.0) x c.2))
    valued (Binary p k o a b) x t d = let c = and_made-is (worth s a) (λ x. and_made (worth s b) (λ y. applied_or p (applied o (kind_of a) x (kind_of b) y))) x d in
        let g = and_made-is (worth s b) (λ y. applied_or p (applied o (kind_of a) c.0 (kind_of b) y)) x c.2 in
        rw (valued a c.0 t.1 c.1) (rw (valued b g.0 t.2 g.1) (rw (kind_is s.plain s.function a t.1) (rw (kind_is s.plain s.function b t.2) (applied_or-is p (applied o (kind_of a) c.0 (kind_of b) g.0) x g.2))))
    valued (Choose p k n a b) x t d =
        let c = and_made-is (worth s n) (λ n. and_made (worth s a) (λ x. made_map (λ y. chosen n (stored k (number_of (kind_of a) x)) (stored k (number_of (kind_of b) y))) (worth s b))) x d in
        let g = and_made-is (worth s a) (λ x. made_map (λ y. chosen c.0 (stored k (number_of (kind_of a) x)) (stored k (number_of (kind_of b) y))) (worth s b)) x c.2 in
        let h = made_map-is (λ y. chosen c.0 (stored k (number_of (kind_of a) g.0)) (stored k (number_of (kind_of b) y))) (worth s b) x g.2 in
        rw (valued n c.0 t.0 c.1) (rw (valued a g.0 t.1 g.1) (rw (valued b h.0 t.2 h.1) (rw (kind_is s.plain s.function a t.1) (rw (kind_is s.plain s.function b t.2) (ap Some h.2)))))
    valued (Bit p a e) x t d = let c = and_made-is (worth s a) (λ x. made_map (λ i. bit_at (width_of (kind_of a)) x (index_of (kind_of e) i)) (worth s e)) x d in
        let g = made_map-is (λ i. bit_at (width_of (kind_of a)) c.0 (index_of (kind_of e) i)) (worth s e) x c.2 in
        rw (valued a c.0 t.0 c.1) (rw (valued e g.0 t.1 g.1) (rw (kind_is s.plain s.function a t.0) (rw (kind_is s.plain s.function e t.1) (ap Some g.2))))
    valued (Range p k a h l) x t d = let c = made_map-is (part h l) (worth s a) x d in rw (valued a c.0 t c.1) (ap Some c.2)
    valued (Join p k a b) x t d = let c = and_made-is (worth s a) (λ x. made_map (joined (width_of (kind_of b)) x) (worth s b)) x d in
        let g = made_map-is (joined (width_of (kind_of b)) c.0) (worth s b) x c.2 in
        rw (valued a c.0 t.0 c.1) (rw (valued b g.0 t.1 g.1) (rw (kind_is s.plain s.function b t.1) (ap Some g.2)))
