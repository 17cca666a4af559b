-- Steps of a walk over a body that write statements: from calls that wait since a number to those that wait since another one.
use Rattle.std.proofs.Common.{◌≡◌, ℕ, zero, suc, Bool, true, false, List, [], ◌∷◌, ◌++◌, length, slice_get, Some, None, option_map, if◌then◌else◌, refl, sym, ap, ◌∙◌, subst}
use Rattle.scc_base.specs.declared.refusal.Place.{Place}
use Rattle.scc_elab_spec.specs.Term as term
use Rattle.scc_elab_spec.specs.Program.{Code, Reach}
use Rattle.scc_plain_spec.specs.Forms.{Form, form_of}
use Rattle.scc_plain_spec.specs.Room.{Room, Local, Numbering, With, Writes, Step, done, and_step, declare, written}
use Rattle.scc_plain_laws.proofs.Drafted.{some-is, walk-is}
use Rattle.scc_plain_laws.proofs.Walks.{Gives}
use Rattle.scc_plain_laws.proofs.Calls.{LiftsKeep}
use Rattle.scc_plain_bounds_laws.specs.Bounds.{leaves, times}
use Rattle.scc_plain_bounds_laws.specs.Within.{within_code}
use Rattle.scc_plain_bounds_laws.proofs.Bounded.{Bounded, Mark, Anywhere, call, further, in-turn, none, plain, weaker}
use Rattle.scc_plain_bounds_laws.proofs.Shapes.{IsLocal, AllLocals, locals-more, reaches}
use Rattle.scc_plain_bounds_laws.proofs.Within.{arguments-within, below, held-stands, object-within}

-- the calls that wait stand since a mark; there are so many locals
pub record IsRoom (v : Bool) (lo : Mark) (m : List Reach) (r : Room) : Type 0 where
  pub lifted : Bounded v Anywhere lo (record { calls = r.calls; locals = m }) r.lifted
  pub held : reaches r.locals ≡ m
  pub locals : AllLocals r.locals

-- a local may have the form that it is declared with
local-stands : (ls : List Local) → AllLocals ls → (p : Place) (n : ℕ) (g : Form) → option_map (λ (l : Local). form_of l.shape) (slice_get ls n) ≡ Some g → (below (reaches ls)).stands (term.Local p n) g ≡ true
local-stands [] a p n g e = absurd cc
local-stands (l ∷ ls) a p zero g e = subst (λ g. (below (reaches (l ∷ ls))).stands (term.Local p zero) g ≡ true) (some-is e) (held-stands l.shape.reach l.shape.base l.shape.vector (length l.shape.sizes) a.0.0)
local-stands (l ∷ ls) a p (suc n) g e = local-stands ls a.1 p n g e

pub lifts : (v : Bool) (lo : Mark) (m : List Reach) → LiftsKeep (below m) (IsRoom v lo m)
lifts v lo m = record {
  lifted = λ r f o args p t u k. record {
    lifted = in-turn v Anywhere k.lifted (call v Anywhere p r.calls m f o args (λ b h. object-within m b h o t) (λ b h. arguments-within m b h args u));
    held = k.held;
    locals = k.locals;
  };
  forms = λ r k p n g e. subst (λ m. (below m).stands (term.Local p n) g ≡ true) k.held (local-stands r.locals k.locals p n g e);
}

-- with so many locals before, from a mark on
pub record Flushes (v : Bool) (lo : Mark) (m : List Reach) {A : Type 0} (Q : Mark → A → Type 0) (f : Step A) : Type 0 where
  pub holds : (r : Room) → IsRoom v lo m r → (x : With A) → (f r).value ≡ Some x → (hi : Mark) × Q hi x.it × IsRoom v hi hi.locals x.room

pub flush-done : {v : Bool} {lo : Mark} {A : Type 0} {Q : Mark → A → Type 0} {x : A} → Q lo x → Flushes v lo lo.locals Q (done x)
flush-done {v} {lo} {A} {Q} {x} q = record { holds = λ r k y e. subst (λ (y : With A). (hi : Mark) × Q hi y.it × IsRoom v hi hi.locals y.room) (some-is e) (lo, q, k) }

pub flush-none : {v : Bool} {lo : Mark} {m : List Reach} {A : Type 0} {Q : Mark → A → Type 0} {f : Step A} → ((r : Room) → (f r).value ≡ None) → Flushes v lo m Q f
flush-none {v} {lo} {m} {A} {Q} {f} n = record { holds = λ r k y e. absurd (let z : None ≡ Some y = sym (n r) ∙ e in cc) }

-- behind a step that writes nothing, and behind one that does
pub flush-keep : {v : Bool} {lo : Mark} {m : List Reach} {A B : Type 0} {P : A → Type 0} {Q : Mark → B → Type 0} {f : Step A} {g : A → Step B} → Gives (IsRoom v lo m) P f → ((x : A) → P x → Flushes v lo m Q (g x)) → Flushes v lo m Q (and_step f g)
flush-keep {v} {lo} {m} {A} {B} {P} {Q} {f} {g} h t = record { holds = λ r k y e. let u = walk-is (f r) (λ x. g x.it x.room) y e in let w = h.holds r k u.0 u.1 in (t u.0.it w.0).holds u.0.room w.1 y u.2 }

pub flush-then : {v : Bool} {lo : Mark} {m : List Reach} {A B : Type 0} {P : Mark → A → Type 0} {Q : Mark → B → Type 0} {f : Step A} {g : A → Step B} → Flushes v lo m P f → ((x : A) (mid : Mark) → P mid x → Flushes v mid mid.locals Q (g x)) → Flushes v lo m Q (and_step f g)
flush-then {v} {lo} {m} {A} {B} {P} {Q} {f} {g} h t = record { holds = λ r k y e. let u = walk-is (f r) (λ x. g x.it x.room) y e in let w = h.holds r k u.0 u.1 in (t u.0.it w.0 w.1).holds u.0.room w.2 y u.2 }

pub flush-map : {v : Bool} {lo : Mark} {m : List Reach} {A : Type 0} {P Q : Mark → A → Type 0} {f : Step A} → ((hi : Mark) (x : A) → P hi x → Q hi x) → Flushes v lo m P f → Flushes v lo m Q f
flush-map {v} {lo} {m} {A} {P} {Q} {f} t h = record { holds = λ r k x e. let u = h.holds r k x e in (u.0, t u.0 x.it u.1, u.2) }

pub flush-if : {v : Bool} {lo : Mark} {m : List Reach} {A : Type 0} {Q : Mark → A → Type 0} {f g : Step A} (b : Bool) → Flushes v lo m Q f → Flushes v lo m Q g → Flushes v lo m Q (if b then f else g)
flush-if true f g = f
flush-if false f g = g

held-more : (ls : List Local) (l : Local) → reaches (ls ++ l ∷ []) ≡ reaches ls ++ l.shape.reach ∷ []
held-more [] l = refl
held-more (k ∷ ls) l = ap (λ rs. k.shape.reach ∷ rs) (held-more ls l)

pub length-held : (ls : List Local) → length ls ≡ length (reaches ls)
length-held [] = refl
length-held (l ∷ ls) = ap suc (length-held ls)

-- behind a declaration
pub flush-declare : (v : Bool) (lo : Mark) (m : List Reach) {B : Type 0} {Q : Mark → B → Type 0} {g : ℕ → Step B} (l : Local) → IsLocal l.shape → ((n : ℕ) → n ≡ length m → Flushes v lo (m ++ l.shape.reach ∷ []) Q (g n)) → Flushes v lo m Q (and_step (declare l) g)
flush-declare v lo m {B} {Q} {g} l i t = record {
  holds = λ r k y e.
      let room : Room = record { locals = r.locals ++ l ∷ []; calls = r.calls; lifted = r.lifted } in
      let u = walk-is (declare l r) (λ x. g x.it x.room) y e in
      let same : record { it = length r.locals; room = room } ≡ u.0 = some-is u.1 in
      let at : (g (length r.locals) room).value ≡ Some y = subst (λ (x : With ℕ). (g x.it x.room).value ≡ Some y) (sym same) u.2 in
      (t (length r.locals) (length-held r.locals ∙ ap length k.held)).holds room (record { lifted = further v Anywhere l.shape.reach k.lifted; held = held-more r.locals l ∙ ap (λ m. m ++ l.shape.reach ∷ []) k.held; locals = locals-more r.locals l k.locals i }) y at;
}

module _ (v : Bool) (D : ℕ → Type 0) (lo : Mark) (m : List Reach) where
  -- statements from a mark on
  abbrev pub Wrote : Mark → Writes → Type 0
  Wrote hi x = Bounded v D lo hi x

  pub written-flushes : {x : Writes} → ((k : ℕ) → Bounded v D (record { calls = k; locals = m }) (record { calls = k; locals = m }) x) → Flushes v lo m Wrote (written x)
  written-flushes {x} b = record {
    holds = λ r k y e. subst (λ (y : With Writes). (hi : Mark) × Wrote hi y.it × IsRoom v hi hi.locals y.room) (some-is e)
        (record { calls = r.calls; locals = m }, in-turn v D (weaker v D (λ d w. tt) k.lifted) (b r.calls), record { lifted = none v Anywhere (record { calls = r.calls; locals = m }); held = k.held; locals = k.locals });
  }

  -- and there are as many locals behind
  pub written-at : {x : Writes} → ((k : ℕ) → Bounded v D (record { calls = k; locals = m }) (record { calls = k; locals = m }) x) → Flushes v lo m (λ hi x. Wrote hi x × (hi.locals ≡ m)) (written x)
  written-at {x} b = record {
    holds = λ r k y e. subst (λ (y : With Writes). (hi : Mark) × (Wrote hi y.it × (hi.locals ≡ m)) × IsRoom v hi hi.locals y.room) (some-is e)
        (record { calls = r.calls; locals = m }, (in-turn v D (weaker v D (λ d w. tt) k.lifted) (b r.calls), refl), record { lifted = none v Anywhere (record { calls = r.calls; locals = m }); held = k.held; locals = k.locals });
  }

  -- what names no local
  pub plain-flushes : {x : Writes} → ((n : Numbering) (c : Code) (k : ℕ) → times k (x n c) ≡ times k c) → ((n : Numbering) (c : Code) (d : ℕ) → leaves v d c ≡ true → leaves v d (x n c) ≡ true)
      → ((n : Numbering) (c : Code) (b : List Reach) → within_code b c ≡ true → within_code b (x n c) ≡ true) → Flushes v lo m Wrote (written x)
  plain-flushes e f g = written-flushes (λ k. plain v D (record { calls = k; locals = m }) e (λ n c d w h. f n c d h) (λ n c b w h. g n c b h))
