-- An object that static indices choose stays while its function runs, whatever pointers lead to it.
use Rattle.std.proofs.Common.{◌≡◌, ◌⊎◌, inl, inr, ℕ, suc, Bool, true, false, ◌&&◌, List, [], ◌∷◌, length, Option, Some, None, option_map, if◌then◌else◌, slice_get, refl, sym, ap, ◌∙◌, subst, arith}
use Rattle.scc_semantics.specs.Location.{Location, Member, Element, within}
use Rattle.scc_semantics.specs.Location as location
use Rattle.scc_semantics.specs.Expressions as body
use Rattle.scc_semantics.specs.Places.{Places}
use Rattle.scc_semantics.specs.Store.{Store}
use Rattle.scc_semantics.specs.Scene.{Names, expr_kind, index_of, pointed}
use Rattle.scc_semantics.specs.Value.{locate, value, behind}
use Rattle.scc_core_spec.specs.Source.{Home}
use Rattle.scc_elab_spec.specs.Term.{Term, Left, Local, Answer, This, Follow, Index}
use Rattle.scc_elab_spec.specs.Term as term
use Rattle.scc_elab_spec.specs.Program as plain
use Rattle.scc_elab_spec.specs.Types.{declared_at, is_reference}
use Rattle.scc_elab_spec.specs.Worth.{member_name}
use Rattle.scc_elab_spec.specs.Spoken as spoken
use Rattle.scc_elab_spec.specs.Copied.{Here, local_root, copied}
use Rattle.scc_elab_spec.specs.Bodies.{result_name}
use Rattle.scc_inline_process_laws.specs.SoundCode.{SameOutside, SameWords, LeadsUp, IsWithin, is_outside, Knows, Stands, plain_scene, IsFirm}
use Rattle.scc_inline_process_laws.specs.Relation.{around}
use Rattle.scc_core_spec.specs.Term as core
use Rattle.scc_core_spec.specs.Static.{static}
use Rattle.scc_core_spec.specs.Counted.{Counter, counting}
use Rattle.scc_core_unroll_laws.specs.Unrolling.{Counters}
use Rattle.scc_core_unroll_laws.proofs.Counters.{kinded-counting}
use Rattle.scc_inline_process_laws.specs.Chosen.{AreHeld, IsChosenStatically, reworded}
use Rattle.scc_inline_process_laws.proofs.Misses.{words_at, held-all, counted-same}
use Rattle.scc_inline_process_laws.proofs.Located.{copied-same}
use Rattle.scc_inline_process_laws.proofs.Kinded.{kinded-copied}
use Rattle.scc_inline_process_laws.proofs.Moves.{outside-wider, local-outside, answer-outside}

module _ (home : Home) (places : Places) (own : Names) (h : Here) (o : Option Location) (s : Store) (up : LeadsUp h.process s.targets) (inside : IsWithin h.process (length h.calls) o) (held : ℕ → Bool) where
  -- what a left side names, here and wherever only pointers inside the call differ
  abbrev Stays : body.Left → Type 0
  Stays b = (q : Option Location) × IsWithin h.process (length h.calls) q × ((signals : Location → ℕ) (u : Store) → Knows home places own h u → SameOutside h.process (suc (length h.calls)) s.targets u.targets → SameWords home h.process held s.words u.words → Stands home places own h u o
      → locate (plain_scene home places signals own h o u) b ≡ Some q)

  follow-stays : (b : body.Left) → Stays b → Stays (body.Follow b)
  follow-stays b (None, w, f) = (None, w, λ y u k m v t. ap (λ z. behind z (λ l. Some (pointed (places.pointers l) (u.targets l)))) (f y u k m v t))
  follow-stays b (Some l, w, f) = (
    pointed (places.pointers l) (s.targets l),
    by (places.pointers l),
    λ y u k m v t. ap (λ z. behind z (λ l. Some (pointed (places.pointers l) (u.targets l)))) (f y u k m v t) ∙ ap (λ z. Some (pointed (places.pointers l) z)) (m l (w l refl)),
  )
    where
      by : (c : Bool) → IsWithin h.process (length h.calls) (pointed c (s.targets l))
      by true x e = up (suc (length h.calls)) l x (w l refl) e
      by false x e = cc

  field-stays : (n : ℕ) (b : body.Left) → Stays b → Stays (body.Field b n)
  field-stays n b (None, w, f) = (None, w, λ y u k m v t. ap (λ z. behind z (λ l. Some (Some (within l (Member n))))) (f y u k m v t))
  field-stays n b (Some l, w, f) = (
    Some (within l (Member n)),
    (λ x e. let i : within l (Member n) ≡ x = cc in subst (λ x. is_outside h.process (suc (length h.calls)) x.root ≡ true) i (w l refl)),
    λ y u k m v t. ap (λ z. behind z (λ l. Some (Some (within l (Member n))))) (f y u k m v t),
  )

  refer-stays : (follow : Bool) (m : Option plain.Member) (b : body.Left) → Stays b → Stays (spoken.refer follow m b)
  refer-stays follow None b x = x
  refer-stays follow (Some m) b x = by (follow && is_reference m.shape.reach)
    where
      by : (c : Bool) → Stays (if c then body.Follow b else b)
      by true = follow-stays b x
      by false = x

  index-stays : (e : body.Expr) (w : ℕ) → ((signals : Location → ℕ) (u : Store) → Knows home places own h u → SameWords home h.process held s.words u.words → Stands home places own h u o → value (plain_scene home places signals own h o u) e ≡ Some w)
      → (b : body.Left) → Stays b → Stays (body.Indexed b e)
  index-stays e i known b (None, w, f) = (None, w, λ y u k m v t. ap (λ z. behind z (λ l. option_map (λ i. Some (within l (Element (index_of (expr_kind e) i)))) (value (plain_scene home places y own h o u) e))) (f y u k m v t))
  index-stays e i known b (Some l, w, f) = (
    Some (within l (Element (index_of (expr_kind e) i))),
    (λ x d. let j : within l (Element (index_of (expr_kind e) i)) ≡ x = cc in subst (λ x. is_outside h.process (suc (length h.calls)) x.root ≡ true) j (w l refl)),
    λ y u k m v t. ap (λ z. behind z (λ l. option_map (λ i. Some (within l (Element (index_of (expr_kind e) i)))) (value (plain_scene home places y own h o u) e))) (f y u k m v t)
        ∙ ap (λ z. option_map (λ i. Some (within l (Element (index_of (expr_kind e) i)))) z) (known y u k v t),
  )

  module _ (ns : List Counter) (counters : Counters (around home places own h)) (all : AreHeld h held ns) where
    stays : (follow : Bool) (l : Left) → IsChosenStatically home h ns l → Stays (spoken.left_of h.plain h.function follow l)
    stays follow (Local p n) c = refer-stays follow (slice_get h.function.locals n) (body.Declared n)
        (Some (record { root = local_root h n; path = [] }), (λ x e. let i : record { root = local_root h n; path = [] } ≡ x = cc in subst (λ x. is_outside h.process (suc (length h.calls)) x.root ≡ true) i (local-outside h.process h.calls n)), λ y u k m v t. refl)
    stays follow (Answer p n) c = (Some (record { root = location.Answer h.process (n ∷ h.calls); path = [] }), (λ x e. let i : record { root = location.Answer h.process (n ∷ h.calls); path = [] } ≡ x = cc in subst (λ x. is_outside h.process (suc (length h.calls)) x.root ≡ true) i (answer-outside h.process (suc (length h.calls)) (n ∷ h.calls))), λ y u k m v t. refl)
    stays follow (This p) c = (o, inside, λ y u k m v t. refl)
    stays follow (Follow p l) c = follow-stays (spoken.left_of h.plain h.function true l) (stays true l c)
    stays follow (term.Member l m) c = refer-stays follow (declared_at h.plain h.function (term.Member l m)) (body.Field (spoken.left_of h.plain h.function true l) (member_name (declared_at h.plain h.function (term.Member l m))))
        (field-stays (member_name (declared_at h.plain h.function (term.Member l m))) (spoken.left_of h.plain h.function true l) (stays true l c))
    stays follow (Index l e) c = by c.3 (stays true l c.0)
      where
        x : core.Term
        x = copied h (result_name h) e

        by : ((w : ℕ) × (static h.cells x ≡ Some w)) ⊎ ((f : ℕ → ℕ) → (w : ℕ) × (static h.cells (counting (reworded f ns) x) ≡ Some w)) → Stays (spoken.left_of h.plain h.function true l) → Stays (spoken.left_of h.plain h.function follow (Index l e))
        by (inl w) inner = index-stays (spoken.expr_of h.plain h.function e) w.0 (λ y u k v t. sym (copied-same home h places y u o own (k y) (t y) e c.1) ∙ k y x w.0 (kinded-copied home h e c.1 c.2) w.1)
            (spoken.left_of h.plain h.function true l) inner
        by (inr s') inner =
            let ms = reworded (words_at home h s.words) ns in
            let w = s' (words_at home h s.words) in
            index-stays (spoken.expr_of h.plain h.function e) w.0 (λ y u k v t. sym (copied-same home h places y u o own (k y) (t y) e c.1)
            ∙ (counted-same home places own h counters y u ms x (held-all home places own h held ns all s.words u v)
            ∙ k y (counting ms x) w.0 (kinded-counting ms x (kinded-copied home h e c.1 c.2)) w.1))
            (spoken.left_of h.plain h.function true l) inner

pub firm : (home : Home) (places : Places) (own : Names) (h : Here) (held : ℕ → Bool) (ns : List Counter) (l : Left) → Counters (around home places own h) → AreHeld h held ns → IsChosenStatically home h ns l → IsFirm home places own h held l
firm home places own h held ns l counters all c o s knows up inside stands = let x = stays home places own h o s up inside held ns counters all true l c in
    (x.0, (λ y e. outside-wider h.process (suc (suc (length h.calls))) (suc (length h.calls)) y.root (omega arith) (x.1 y e)), λ y u k m v t. x.2 y u k m v t)
