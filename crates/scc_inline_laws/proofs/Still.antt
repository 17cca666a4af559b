-- Statements in which counters are left alone: what they name, and their parts.
use Rattle.std.proofs.Common.{◌≡◌, ℕ, suc, ◌+◌, Bool, true, false, ◌||◌, List, [], ◌∷◌, Option, Some, None, slice_get, if◌then◌else◌, refl, sym, ap, ◌∙◌, subst, arith}
use Rattle.std.proofs.lemmas.Bool.{eqb-true}
use Rattle.std.specs.Prelude.{nat_le, nat_eq}
use Rattle.scc_base.specs.declared.refusal.Place.{Place}
use Rattle.scc_bits_kinds.specs.declared.kind.Kind.{Kind}
use Rattle.scc_semantics.specs.Places.{Places}
use Rattle.scc_semantics.specs.Scene.{Names}
use Rattle.scc_core_spec.specs.Term as core
use Rattle.scc_core_spec.specs.Code.{Code, Count, Pointed, Put, Aim, If, Block, Loop, Exit, Wait, holds_wait}
use Rattle.scc_core_spec.specs.Source.{Home}
use Rattle.scc_core_spec.specs.Counted.{Counter, Setting, counter_number, number_of, is_it, own_at, times, uses}
use Rattle.scc_core_unroll_laws.proofs.Keeping.{or-left, or-right}
use Rattle.scc_elab_spec.specs.Term.{Argument, Value, Leads, ModuleName}
use Rattle.scc_elab_spec.specs.Program.{Function, Member}
use Rattle.scc_elab_spec.specs.Types.{is_direct}
use Rattle.scc_elab_spec.specs.Copied.{Here, copied, target_of, answer_name, local_name}
use Rattle.scc_elab_spec.specs.Bodies.{cell_of, cleared, number_kind, passed, pointed, result_name, zeroed}
use Rattle.scc_inline_process_laws.specs.Chosen.{AreHeld}
use Rattle.scc_inline_process_laws.specs.SoundCode.{AllSpared, SparesAnswer}
use Rattle.scc_inline_counter_laws.specs.Choosing.{AreCounters, guards, IsStill}

it-is : (o : ℕ) (m : Option ℕ) → is_it o m ≡ true → m ≡ Some o
it-is o None e = cc
it-is o (Some n) e = ap Some (sym (eqb-true o n e))

not-it : (t : Bool) (r : ℕ) → times 1 t + r ≡ 0 → t ≡ false
not-it true r e = absurd (omega (arith, e))
not-it false r e = refl

module _ (s : Setting) (held : ℕ → Bool) where
  pub still-put : (p : Place) (l : core.Left) (k : core.Pick) (e : core.Term) (r : Code) → IsStill s held (Put p l k e r) → ((o : ℕ) → held o ≡ true → is_it o (own_at s.cells l) ≡ false) × IsStill s held r
  still-put p l k e r x = ((λ o h. not-it (is_it o (own_at s.cells l)) (uses s.cells o r) (x o h).0), λ o h. ((let y = (x o h).0 in let t = times 1 (is_it o (own_at s.cells l)) in omega (arith, y)), (x o h).1))

  pub still-aim : (p : Place) (to : Pointed) (t : core.Left) (r : Code) → IsStill s held (Aim p to t r) → IsStill s held r
  still-aim p to t r x = λ o h. ((let y = (x o h).0 in let z = times 3 (is_it o (own_at s.cells t)) in omega (arith, y)), (x o h).1)

  pub still-if : (p : Place) (t : core.Term) (a b r : Code) → IsStill s held (If p t a b r) → IsStill s held a × IsStill s held b × IsStill s held r
  still-if p t a b r x = (
    (λ o h. ((let y = (x o h).0 in omega (arith, y)), or-left (holds_wait a) (holds_wait b || holds_wait r) (x o h).1)),
    (λ o h. ((let y = (x o h).0 in omega (arith, y)), or-left (holds_wait b) (holds_wait r) (or-right (holds_wait a) (holds_wait b || holds_wait r) (x o h).1))),
    (λ o h. ((let y = (x o h).0 in omega (arith, y)), or-right (holds_wait b) (holds_wait r) (or-right (holds_wait a) (holds_wait b || holds_wait r) (x o h).1))),
  )

  pub still-block : (p : Place) (b r : Code) → IsStill s held (Block p b r) → IsStill s held b × IsStill s held r
  still-block p b r x = (
    (λ o h. ((let y = (x o h).0 in omega (arith, y)), or-left (holds_wait b) (holds_wait r) (x o h).1)),
    (λ o h. ((let y = (x o h).0 in omega (arith, y)), or-right (holds_wait b) (holds_wait r) (x o h).1)),
  )

  pub still-loop : (p : Place) (m : Option Count) (b r : Code) → IsStill s held (Loop p m b r) → IsStill s held b × IsStill s held r
  still-loop p m b r x = (
    (λ o h. ((let y = (x o h).0 in omega (arith, y)), or-left (holds_wait b) (holds_wait r) (x o h).1)),
    (λ o h. ((let y = (x o h).0 in omega (arith, y)), or-right (holds_wait b) (holds_wait r) (x o h).1)),
  )

  pub still-exit : (p : Place) (m : ℕ) (r : Code) → IsStill s held (Exit p m r) → IsStill s held r
  still-exit p m r x = x

  -- nothing waits
  pub still-wait : (p : Place) (l m : ℕ) (r : Code) → IsStill s held (Wait p l m r) → ((o : ℕ) → held o ≡ false) × IsStill s held r
  still-wait p l m r x = ((λ o. by (held o) (λ h. (x o h).1)), λ o h. absurd (let y = (x o h).1 in cc))
    where
      by : (b : Bool) → (b ≡ true → true ≡ false) → b ≡ false
      by true f = f refl
      by false f = refl

module _ (h : Here) (s : Setting) (held : ℕ → Bool) where
  pub cleared-still : (p : Place) (n : ℕ) (m : Member) (all : List (List ℕ)) (r : Code) → IsStill s held (cleared h p n (Some m) all r) → IsStill s held r
  cleared-still p n m [] r x = x
  cleared-still p n m (is ∷ all) r x = by (is_direct m.shape.reach) x (λ x. cleared-still p n m all r x)
    where
      by : (b : Bool) → IsStill s held (if b then Put p (cell_of h p false (local_name h n is)) core.Whole (core.Literal p (number_kind m.shape.base) 0) (cleared h p n (Some m) all r)
          else Aim p (pointed true (cell_of h p true (local_name h n is))) (core.Null p) (cleared h p n (Some m) all r)) → (IsStill s held (cleared h p n (Some m) all r) → IsStill s held r) → IsStill s held r
      by true x ih = ih (still-put s held p (cell_of h p false (local_name h n is)) core.Whole (core.Literal p (number_kind m.shape.base) 0) (cleared h p n (Some m) all r) x).1
      by false x ih = ih (still-aim s held p (pointed true (cell_of h p true (local_name h n is))) (core.Null p) (cleared h p n (Some m) all r) x)

  pub zeroed-still : (p : Place) (cs : List ℕ) (f : Function) (k : Option Kind) (r : Code) → IsStill s held (zeroed h p cs f k r) → IsStill s held r
  zeroed-still p cs f None r x = x
  zeroed-still p cs f (Some k) r x = (still-put s held p (cell_of h p false (answer_name h cs f)) core.Whole (core.Literal p k 0) r x).1

pub passed-still : (from to : Here) (s : Setting) (held : ℕ → Bool) (p : Place) (j : ℕ) (args : List Argument) (r : Code) → IsStill s held (passed from (result_name from) to p j args r) → IsStill s held r
passed-still from to s held p j [] r x = x
passed-still from to s held p j (Value e ∷ args) r x = passed-still from to s held p (suc j) args r (still-put s held p (cell_of to p false (local_name to j [])) core.Whole (copied from (result_name from) e) (passed from (result_name from) to p (suc j) args r) x).1
passed-still from to s held p j (Leads t ∷ args) r x = passed-still from to s held p (suc j) args r (still-aim s held p (pointed true (cell_of to p true (local_name to j []))) (target_of from (result_name from) p t) (passed from (result_name from) to p (suc j) args r) x)
passed-still from to s held p j (ModuleName ∷ args) r x = passed-still from to s held p (suc j) args r x

module _ (home : Home) (places : Places) (own : Names) (h : Here) (s : Setting) (cells : s.cells ≡ h.cells) (held : ℕ → Bool) where
  spared : (l : core.Left) → ((o : ℕ) → held o ≡ true → is_it o (own_at s.cells l) ≡ false) → (o : ℕ) → held o ≡ true → is_it o (own_at h.cells l) ≡ false
  spared l x o e = ap (λ cs. is_it o (own_at cs l)) (sym cells) ∙ x o e

  pub cleared-spares : (p : Place) (n : ℕ) (m : Member) (all : List (List ℕ)) (r : Code) → IsStill s held (cleared h p n (Some m) all r) → AllSpared home places own h held p (is_direct m.shape.reach) n all
  cleared-spares p n m [] r x = tt
  cleared-spares p n m (is ∷ all) r x = by (is_direct m.shape.reach) x (λ x. cleared-spares p n m all r x)
    where
      by : (b : Bool) → IsStill s held (if b then Put p (cell_of h p false (local_name h n is)) core.Whole (core.Literal p (number_kind m.shape.base) 0) (cleared h p n (Some m) all r)
          else Aim p (pointed true (cell_of h p true (local_name h n is))) (core.Null p) (cleared h p n (Some m) all r)) → (IsStill s held (cleared h p n (Some m) all r) → AllSpared home places own h held p (is_direct m.shape.reach) n all)
          → (b ≡ true → (o : ℕ) → held o ≡ true → is_it o (own_at h.cells (cell_of h p false (local_name h n is))) ≡ false) × AllSpared home places own h held p (is_direct m.shape.reach) n all
      by true x ih = let y = still-put s held p (cell_of h p false (local_name h n is)) core.Whole (core.Literal p (number_kind m.shape.base) 0) (cleared h p n (Some m) all r) x in ((λ e. spared (cell_of h p false (local_name h n is)) y.0), ih y.1)
      by false x ih = ((λ e. cc), ih (still-aim s held p (pointed true (cell_of h p true (local_name h n is))) (core.Null p) (cleared h p n (Some m) all r) x))

  pub zeroed-spares : (p : Place) (cs : List ℕ) (f : Function) (k : Option Kind) (r : Code) → IsStill s held (zeroed h p cs f k r) → SparesAnswer home places own h held p cs f k
  zeroed-spares p cs f None r x = tt
  zeroed-spares p cs f (Some k) r x = spared (cell_of h p false (answer_name h cs f)) (still-put s held p (cell_of h p false (answer_name h cs f)) core.Whole (core.Literal p k 0) r x).0

-- counters are assigned by their loops alone
pub guards-few : (s : Setting) (ms : List Counter) → AreCounters s ms → (o : ℕ) → guards s ms o ≡ true → nat_le (uses s.cells o s.body) 2 ≡ true
guards-few s [] are o e = cc
guards-few s (c ∷ ms) are o e = by (is_it o (counter_number s c.cell)) refl e (λ e. guards-few s ms are.1 o e)
  where
    by : (t : Bool) → is_it o (counter_number s c.cell) ≡ t → (t || guards s ms o) ≡ true → (guards s ms o ≡ true → nat_le (uses s.cells o s.body) 2 ≡ true) → nat_le (uses s.cells o s.body) 2 ≡ true
    by true g e ih =
        let z : Some are.0.0 ≡ Some o = sym are.0.1 ∙ it-is o (counter_number s c.cell) g in
        let same : are.0.0 ≡ o = cc in subst (λ o. nat_le (uses s.cells o s.body) 2 ≡ true) same are.0.2
    by false g e ih = ih e

it-self : (o : ℕ) (m : Option ℕ) → m ≡ Some o → is_it o m ≡ true
it-self o m e = ap (is_it o) e ∙ same o
  where
    same : (o : ℕ) → nat_eq o o ≡ true
    same o = grind arith

pub are-held : (s : Setting) (h : Here) → s.cells ≡ h.cells → s.path ≡ h.path → (ms : List Counter) → AreCounters s ms → AreHeld h (guards s ms) ms
are-held s h cells path ms are = go ms are (guards s ms) (λ o e. e)
  where
    or-one : (x y : Bool) → x ≡ true → (x || y) ≡ true
    or-one true y e = refl
    or-one false y e = cc

    or-two : (x y : Bool) → y ≡ true → (x || y) ≡ true
    or-two true y e = refl
    or-two false y e = e

    go : (ms : List Counter) → AreCounters s ms → (held : ℕ → Bool) → ((o : ℕ) → guards s ms o ≡ true → held o ≡ true) → AreHeld h held ms
    go [] are held f = tt
    go (c ∷ ms) are held f = (
      (are.0.0, (λ z. number_of (sym path z) (slice_get (sym cells z) c.cell)) ∙ are.0.1, f are.0.0 (or-one (is_it are.0.0 (counter_number s c.cell)) (guards s ms are.0.0) (it-self are.0.0 (counter_number s c.cell) are.0.1))),
      go ms are.1 held (λ o e. f o (or-two (is_it o (counter_number s c.cell)) (guards s ms o) e)),
    )
