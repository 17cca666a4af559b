-- What statements leave of counters; parts of statements.
use Rattle.std.proofs.Common.{◌≡◌, ℕ, ◌+◌, ◌≤◌, Bool, true, false, List, [], ◌∷◌, Option, Some, None, refl, sym, ◌∙◌, subst, arith}
use Rattle.std.specs.Prelude.{◌||◌, option_map, if◌then◌else◌}
use Rattle.scc_base.specs.declared.refusal.Place.{Place}
use Rattle.scc_bits_kinds.specs.declared.kind.Kind.TheVariants as kind
use Rattle.scc_semantics.specs.Location.{Location, same}
use Rattle.scc_semantics.specs.Places.{Thing, Number, Signal, Port}
use Rattle.scc_semantics.specs.Expressions.{Pick}
use Rattle.scc_semantics.specs.Store.{changed}
use Rattle.scc_semantics.specs.Scene.{Scene}
use Rattle.scc_semantics.specs.Value.{Held, locate, put_at, picked, with_words, asked}
use Rattle.scc_semantics_laws.proofs.Places.{same-is}
use Rattle.scc_core_spec.specs.Term.{Term, Left}
use Rattle.scc_core_spec.specs.Term as term
use Rattle.scc_core_spec.specs.Code.{Code, Count, Pointed, Put, Aim, If, Block, Loop, Exit, holds_wait}
use Rattle.scc_core_spec.specs.Counted.{Counter, uses, times, is_it, own_at}
use Rattle.scc_core_spec.specs.Source.{left_of}
use Rattle.scc_core_unroll_laws.specs.Kinds.{IsKindedCode}
use Rattle.scc_core_unroll_laws.specs.Unrolling.{Around, scene_at, local_at, Counters, HoldsAll, LeadsWell, AllSeldom, Untouched, Waitless, Sound}
use Rattle.scc_core_unroll_laws.proofs.Untouched.{misses}
use Rattle.scc_core_unroll_laws.proofs.Steps.{putting}

pub or-left : (a b : Bool) → (a || b) ≡ false → a ≡ false
or-left true b e = e
or-left false b e = refl

pub or-right : (a b : Bool) → (a || b) ≡ false → b ≡ false
or-right true b e = cc
or-right false b e = e

module _ (w : Around) where
  -- a part of statements touches no more
  pub record PartOf (c d : Code) : Type 0 where
    pub uses : (o : ℕ) → uses w.setting.cells o c ≤ uses w.setting.cells o d
    pub waits : holds_wait d ≡ false → holds_wait c ≡ false
    pub kinds : IsKindedCode d → IsKindedCode c

  less-touched : (ns : List Counter) (c d : Code) → PartOf c d → Untouched w ns d → Untouched w ns c
  less-touched [] c d p u = tt
  less-touched (n ∷ ns) c d p u = ((λ o e. let x = u.0 o e in let y = p.uses o in omega (arith, x, y)), less-touched ns c d p u.1)

  less-waits : (ns : List Counter) (c d : Code) → PartOf c d → Waitless ns d → Waitless ns c
  less-waits [] c d p u = tt
  less-waits (n ∷ ns) c d p u = p.waits u

  pub sound-part : (ns : List Counter) (c d : Code) → PartOf c d → Sound w ns d → Sound w ns c
  sound-part ns c d p s = record {
    seldom = s.seldom;
    untouched = less-touched ns c d p s.untouched;
    part = λ o. let x = s.part o in let y = p.uses o in omega (arith, x, y);
    waits = less-waits ns c d p s.waits;
    kinds = p.kinds s.kinds;
  }

  abbrev N : ℕ → Code → ℕ
  N o c = uses w.setting.cells o c

  pub of-put : (p : Place) (l : Left) (k : term.Pick) (e : Term) (r : Code) → PartOf r (Put p l k e r)
  of-put p l k e r = record { uses = λ o. let t = times 1 (is_it o (own_at w.setting.cells l)) in omega arith; waits = λ e. e; kinds = λ h. h.3 }

  pub of-aim : (p : Place) (to : Pointed) (l : Left) (r : Code) → PartOf r (Aim p to l r)
  of-aim p to l r = record { uses = λ o. omega arith; waits = λ e. e; kinds = λ h. h.2 }

  pub of-if : (p : Place) (t : Term) (a b r : Code) → PartOf a (If p t a b r) × PartOf b (If p t a b r) × PartOf r (If p t a b r)
  of-if p t a b r = (
    record { uses = λ o. omega arith; waits = λ e. or-left (holds_wait a) (holds_wait b || holds_wait r) e; kinds = λ h. h.1 },
    record { uses = λ o. omega arith; waits = λ e. or-left (holds_wait b) (holds_wait r) (or-right (holds_wait a) (holds_wait b || holds_wait r) e); kinds = λ h. h.2 },
    record { uses = λ o. omega arith; waits = λ e. or-right (holds_wait b) (holds_wait r) (or-right (holds_wait a) (holds_wait b || holds_wait r) e); kinds = λ h. h.3 },
  )

  pub of-block : (p : Place) (b r : Code) → PartOf b (Block p b r) × PartOf r (Block p b r)
  of-block p b r = (record { uses = λ o. omega arith; waits = λ e. or-left (holds_wait b) (holds_wait r) e; kinds = λ h. h.0 }, record { uses = λ o. omega arith; waits = λ e. or-right (holds_wait b) (holds_wait r) e; kinds = λ h. h.1 })

  pub of-loop : (p : Place) (n : Option Count) (b r : Code) → PartOf b (Loop p n b r) × PartOf r (Loop p n b r)
  of-loop p n b r = (record { uses = λ o. omega arith; waits = λ e. or-left (holds_wait b) (holds_wait r) e; kinds = λ h. h.0 }, record { uses = λ o. omega arith; waits = λ e. or-right (holds_wait b) (holds_wait r) e; kinds = λ h. h.1 })

  pub of-exit : (p : Place) (n : ℕ) (r : Code) → PartOf r (Exit p n r)
  of-exit p n r = record { uses = λ o. omega arith; waits = λ e. e; kinds = λ h. h }

  -- an assignment that touches no counter leaves their words
  module _ (counters : Counters w) (signals : Location → ℕ) (a : Held) (leads : LeadsWell w a.store.targets) where
    abbrev S : Scene
    S = scene_at w signals a

    abbrev words-kept : Location → Held → Type 0
    words-kept l b = (b.store.targets ≡ a.store.targets) × ((m : Location) → (m ≡ l → ⊥) → b.store.words m ≡ a.store.words m)

    kept-by : (o : Option ℕ) (f : ℕ → Held) (l : Location) (b : Held) → option_map f o ≡ Some b → ((x : ℕ) → words-kept l (f x)) → words-kept l b
    kept-by None f l b e k = absurd cc
    kept-by (Some x) f l b e k = subst (λ b. words-kept l b) (let z : f x ≡ b = cc in z) (k x)

    changed-kept : (l : Location) (x : ℕ) (m : Location) → (m ≡ l → ⊥) → changed l x a.store.words m ≡ a.store.words m
    changed-kept l x m ne = by (same l m) refl
      where
        by : (c : Bool) → same l m ≡ c → (if c then x else a.store.words m) ≡ a.store.words m
        by true e = absurd (ne (sym (same-is l m e)))
        by false e = refl

    at-kept : (t : Option Thing) (l : Location) (p : Pick) (x : ℕ) (b : Held) → put_at t S a l p x ≡ Some b → words-kept l b
    at-kept (Some (Number k)) l p x b e = kept-by (picked S k p (a.store.words l) x) (λ w. with_words a (changed l w a.store.words)) l b e (λ y. (refl, λ m ne. changed-kept l y m ne))
    at-kept (Some (Signal k)) l p x b e = kept-by (picked S k p 0 x) (λ w. asked a l x) l b e (λ y. (refl, λ m ne. refl))
    at-kept (Some (Port k r)) l p x b e = kept-by (picked S k p 0 x) (λ w. asked a r x) l b e (λ y. (refl, λ m ne. refl))
    at-kept None l p x b e = kept-by (picked S kind.Bool p 0 x) (λ w. a) l b e (λ y. (refl, λ m ne. refl))

    put-kept : (v : Option ℕ) (o : Option (Option Location)) (p : Pick) (b : Held) → putting w.places S a v o p ≡ Some b → (l : Location) × (o ≡ Some (Some l)) × words-kept l b
    put-kept None o p b e = absurd cc
    put-kept (Some x) None p b e = absurd cc
    put-kept (Some x) (Some None) p b e = absurd cc
    put-kept (Some x) (Some (Some l)) p b e = (l, refl, at-kept (w.places.things l) l p x b e)

    not-it : (o : ℕ) (b : Bool) (r : ℕ) → times 1 b + r ≡ 0 → b ≡ false
    not-it o true r e = absurd (too-many r e)
      where
        too-many : (r : ℕ) → 1 + r ≡ 0 → ⊥
        too-many r e = omega (arith, e)
    not-it o false r e = refl

    holds-on : (ns : List Counter) (p : Place) (l : Left) (k : term.Pick) (e : Term) (r : Code) (n : Location) (b : Held) → AllSeldom w ns → Untouched w ns (Put p l k e r) → HoldsAll w ns a
        → words-kept n b → locate S (left_of w.home w.setting.cells w.process l) ≡ Some (Some n) → HoldsAll w ns b
    holds-on [] p l k e r n b few un h kept at = tt
    holds-on (c ∷ ns) p l k e r n b few un h kept at =
        let o = h.0.0 in
        let other : (local_at w o ≡ n) → ⊥ = λ x. misses w counters signals a leads o (few.0 o h.0.1) l n (not-it o (is_it o (own_at w.setting.cells l)) (uses w.setting.cells o r) (un.0 o h.0.1)) at (sym x) in
        ((o, h.0.1, kept.1 (local_at w o) other ∙ h.0.2), holds-on ns p l k e r n b few.1 un.1 h.1 kept at)

    pub put-holds : (ns : List Counter) (p : Place) (l : Left) (k : term.Pick) (e : Term) (r : Code) (v : Option ℕ) (q : Pick) (b : Held) → Sound w ns (Put p l k e r) → HoldsAll w ns a
        → putting w.places S a v (locate S (left_of w.home w.setting.cells w.process l)) q ≡ Some b → HoldsAll w ns b × (b.store.targets ≡ a.store.targets)
    put-holds ns p l k e r v q b s h d =
        let x = put-kept v (locate S (left_of w.home w.setting.cells w.process l)) q b d in
        (holds-on ns p l k e r x.0 b s.seldom s.untouched h x.2 x.1, x.2.0)

    -- a word that is put at a place of its own
    pub others-hold : (ns : List Counter) (p : Place) (l : Left) (k : term.Pick) (e : Term) (r : Code) (n : Location) (x : ℕ) → Sound w ns (Put p l k e r) → HoldsAll w ns a
        → locate S (left_of w.home w.setting.cells w.process l) ≡ Some (Some n) → HoldsAll w ns (with_words a (changed n x a.store.words))
    others-hold ns p l k e r n x s h at = holds-on ns p l k e r n (with_words a (changed n x a.store.words)) s.seldom s.untouched h (refl, λ m ne. changed-kept n x m ne) at
