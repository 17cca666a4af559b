-- What a left side names is no deeper than its function, where pointers lead to nothing deeper than they are.
use Rattle.std.proofs.Common.{◌≡◌, ℕ, suc, ◌≤◌, Bool, true, false, ◌&&◌, nat_lt, nat_eq, List, [], ◌∷◌, length, Option, Some, None, option_map, if◌then◌else◌, slice_get, refl, subst, arith}
use Rattle.std.proofs.lemmas.Bool.{ltb-true}
use Rattle.scc_semantics.specs.Location.{Location, Root, Part, Member, Element, within, same, same_root, same_calls, same_path}
use Rattle.scc_semantics.specs.Location as location
use Rattle.scc_semantics.specs.Expressions as body
use Rattle.scc_semantics.specs.Places.{Places}
use Rattle.scc_semantics.specs.Store.{Store, changed}
use Rattle.scc_semantics.specs.Scene.{Names, expr_kind, index_of, pointed}
use Rattle.scc_semantics.specs.Value.{locate, value, behind, target_of}
use Rattle.scc_core_spec.specs.Source.{Home}
use Rattle.scc_elab_spec.specs.Term.{Term, Left, Local, Answer, This, Follow, Index, Target, Null, Address, Copy}
use Rattle.scc_elab_spec.specs.Term as term
use Rattle.scc_elab_spec.specs.Program as plain
use Rattle.scc_elab_spec.specs.Types.{declared_at, is_reference}
use Rattle.scc_elab_spec.specs.Worth.{member_name}
use Rattle.scc_elab_spec.specs.Spoken as spoken
use Rattle.scc_elab_spec.specs.Copied.{Here, local_root}
use Rattle.scc_elab_spec.proofs.Chains.{and-first, and-second}
use Rattle.scc_inline_process_laws.specs.SoundCode.{Targets, LeadsUp, IsWithin, is_outside, plain_scene}
use Rattle.scc_inline_process_laws.proofs.Moves.{outside-wider, same_length, local-outside, answer-outside}

-- a local pointer that takes something no deeper
pub leads-changed : (j p n : ℕ) (cs : List ℕ) (path : List Part) (z : Option Location) (t : Targets) → LeadsUp j t → IsWithin j (length cs) z → LeadsUp j (changed (record { root = location.Local p cs n; path = path }) z t)
leads-changed j p n cs path z t up w k l m e f = by (same (record { root = location.Local p cs n; path = path }) l) refl f
  where
    deep : (r : Root) → is_outside j k r ≡ true → same_root (location.Local p cs n) r ≡ true → suc (length cs) ≤ k
    deep location.Top e f = cc
    deep (location.Answer q c) e f = cc
    deep (location.Local q c y) e f =
        let g : same_calls cs c ≡ true = and-second (nat_eq p q) (same_calls cs c) (and-first (nat_eq p q && same_calls cs c) (nat_eq n y) f) in
        let s = same_length cs c g in let x = ltb-true (length c) k (and-second (nat_eq j q) (nat_lt (length c) k) e) in omega (arith, s, x)

    by : (b : Bool) → same (record { root = location.Local p cs n; path = path }) l ≡ b → (if b then z else t l) ≡ Some m → is_outside j k m.root ≡ true
    by true g f = outside-wider j k (suc (length cs)) m.root (deep l.root e (and-first (same_root (location.Local p cs n) l.root) (same_path path l.path) g)) (w m f)
    by false g f = up k l m e f

module _ (home : Home) (places : Places) (own : Names) (signals : Location → ℕ) (h : Here) (o : Option Location) (s : Store) (up : LeadsUp h.process s.targets) (inside : IsWithin h.process (length h.calls) o) where
  abbrev Up : Option (Option Location) → Type 0
  Up x = (q : Option Location) → x ≡ Some q → IsWithin h.process (length h.calls) q

  up-behind : (x : Option (Option Location)) (f : Location → Option (Option Location)) → Up x → ((l : Location) → is_outside h.process (suc (length h.calls)) l.root ≡ true → Up (f l)) → Up (behind x f)
  up-behind None f u g = λ q e l i. cc
  up-behind (Some None) f u g = λ q e l i. cc
  up-behind (Some (Some k)) f u g = g k (u (Some k) refl k refl)

  up-some : (k : Location) → is_outside h.process (suc (length h.calls)) k.root ≡ true → Up (Some (Some k))
  up-some k w q e l i = let x : k ≡ l = cc in subst (λ k. is_outside h.process (suc (length h.calls)) k.root ≡ true) x w

  up-follow : (b : body.Left) → Up (locate (plain_scene home places signals own h o s) b) → Up (locate (plain_scene home places signals own h o s) (body.Follow b))
  up-follow b u = up-behind (locate (plain_scene home places signals own h o s) b) (λ l. Some (pointed (places.pointers l) (s.targets l))) u (λ l w. by (places.pointers l) l w)
    where
      by : (c : Bool) (l : Location) → is_outside h.process (suc (length h.calls)) l.root ≡ true → Up (Some (pointed c (s.targets l)))
      by true l w q e m i = up (suc (length h.calls)) l m w cc
      by false l w q e m i = cc

  up-refer : (follow : Bool) (m : Option plain.Member) (b : body.Left) → Up (locate (plain_scene home places signals own h o s) b) → Up (locate (plain_scene home places signals own h o s) (spoken.refer follow m b))
  up-refer follow None b u = u
  up-refer follow (Some m) b u = by (follow && is_reference m.shape.reach)
    where
      by : (c : Bool) → Up (locate (plain_scene home places signals own h o s) (if c then body.Follow b else b))
      by true = up-follow b u
      by false = u

  pub up-left : (follow : Bool) (l : Left) → Up (locate (plain_scene home places signals own h o s) (spoken.left_of h.plain h.function follow l))
  up-left follow (Local p n) = up-refer follow (slice_get h.function.locals n) (body.Declared n) (up-some (record { root = local_root h n; path = [] }) (local-outside h.process h.calls n))
  up-left follow (Answer p n) = up-some (record { root = location.Answer h.process (n ∷ h.calls); path = [] }) (answer-outside h.process (suc (length h.calls)) (n ∷ h.calls))
  up-left follow (This p) = λ q e l i. let x : o ≡ Some l = cc in inside l x
  up-left follow (Follow p l) = up-follow (spoken.left_of h.plain h.function true l) (up-left true l)
  up-left follow (term.Member l m) = up-refer follow (declared_at h.plain h.function (term.Member l m)) (body.Field (spoken.left_of h.plain h.function true l) (member_name (declared_at h.plain h.function (term.Member l m))))
      (up-behind (locate (plain_scene home places signals own h o s) (spoken.left_of h.plain h.function true l)) (λ k. Some (Some (within k (Member (member_name (declared_at h.plain h.function (term.Member l m))))))) (up-left true l)
      (λ k w. up-some (within k (Member (member_name (declared_at h.plain h.function (term.Member l m))))) w))
  up-left follow (Index l e) =
      up-behind (locate (plain_scene home places signals own h o s) (spoken.left_of h.plain h.function true l))
      (λ k. option_map (λ i. Some (within k (Element (index_of (expr_kind (spoken.expr_of h.plain h.function e)) i)))) (value (plain_scene home places signals own h o s) (spoken.expr_of h.plain h.function e))) (up-left true l)
      (λ k w. by k w (value (plain_scene home places signals own h o s) (spoken.expr_of h.plain h.function e)))
    where
      by : (k : Location) → is_outside h.process (suc (length h.calls)) k.root ≡ true → (v : Option ℕ) → Up (option_map (λ i. Some (within k (Element (index_of (expr_kind (spoken.expr_of h.plain h.function e)) i)))) v)
      by k w None = λ q f l i. cc
      by k w (Some v) = up-some (within k (Element (index_of (expr_kind (spoken.expr_of h.plain h.function e)) v))) w

  pub up-target : (t : Target) → Up (target_of (plain_scene home places signals own h o s) (spoken.target_of h.plain h.function t))
  up-target Null = λ q e l i. cc
  up-target (Address l) = up-left true l
  up-target (Copy l) = up-follow (spoken.left_of h.plain h.function true l) (up-left true l)
