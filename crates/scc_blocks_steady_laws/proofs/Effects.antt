-- What each assignment keeps, code and the parts of segments keep.
use Rattle.std.proofs.Common.{◌≡◌, ◌<◌, ◌^◌, ℕ, zero, suc, Bool, true, false, nat_eq, Option, Some, None, refl, sym, ap, ◌∙◌, subst, slice_get, if◌then◌else◌, arith}
use Rattle.std.specs.Prelude.{option_map, option_and_then, unwrap_or}
use Rattle.scc_bits_kinds.specs.Kinds.{width_of}
use Rattle.scc_core_spec.specs.Term.{Term, Left, Pick}
use Rattle.scc_core_spec.specs.Code.{Code, End, Put, Aim, If, Block, Loop, Exit, Wait}
use Rattle.scc_core_spec.specs.Fit.{fit_term, fit_put}
use Rattle.scc_core_spec.specs.IsResolved.{IsResolved}
use Rattle.scc_core_spec.specs.Live.{live}
use Rattle.scc_core_spec.specs.Program as program
use Rattle.scc_core_spec.specs.Program.{Program, Process, is_root, is_held}
use Rattle.scc_core_spec.specs.Static.{Cells}
use Rattle.scc_core_spec.specs.Uses.{has_sort, width_at}
use Rattle.scc_blocks_spec.specs.Acting.{Acting, word_in, steps_in, cell_named, picked, put_in, with_word, with_asked}
use Rattle.scc_blocks_spec.specs.Effect.{Effect, Fell, Left_out, Lost, effect, assigned, then_effect, shut, or_lost, branch}
use Rattle.scc_blocks_spec.specs.Lowered.{Fits, KeepsFit}
use Rattle.scc_blocks_spec.specs.Shown.{Sight, sight_of}
use Rattle.scc_core_effect_laws.specs.Sound.{FitWords}
use Rattle.scc_core_effect_laws.proofs.Names.{then-is, map-is}
use Rattle.scc_core_effect_laws.proofs.Unsure.{sort-of, has-sort}
use Rattle.scc_core_resolved_laws.specs.Every.{Every}
use Rattle.scc_core_resolved_laws.proofs.Acting.{assigned-fits}
use Rattle.scc_core_resolved_laws.proofs.Fitting.{put-parts}
use Rattle.scc_core_resolved_laws.proofs.Parts.{cells-apart}
use Rattle.scc_core_resolved_laws.proofs.Sounds.{live-fits}

module _ (cs : Cells) (P : Left → Pick → Term → Type 0) (T : Term → Type 0) (Q : Acting → Type 0) (put : (l : Left) (k : Pick) (e : Term) (a b : Acting) → P l k e → Q a → assigned cs a l k e ≡ Some b → Q b) where
  abbrev pub KeepsTo : Effect → Type 0
  KeepsTo (Fell a) = Q a
  KeepsTo (Left_out n a) = Q a
  KeepsTo Lost = Unit {0}

  then-keeps : (x : Effect) (f : Acting → Effect) → KeepsTo x → ((a : Acting) → Q a → KeepsTo (f a)) → KeepsTo (then_effect x f)
  then-keeps (Fell a) f t g = g a t
  then-keeps (Left_out n a) f t g = t
  then-keeps Lost f t g = tt

  shut-keeps : (x : Effect) (f : Acting → Effect) → KeepsTo x → ((a : Acting) → Q a → KeepsTo (f a)) → KeepsTo (shut x f)
  shut-keeps (Fell a) f t g = g a t
  shut-keeps (Left_out zero a) f t g = g a t
  shut-keeps (Left_out (suc n) a) f t g = t
  shut-keeps Lost f t g = tt

  lost-keeps : {A : Type 0} (o : Option A) (f : A → Effect) → ((x : A) → o ≡ Some x → KeepsTo (f x)) → KeepsTo (or_lost o f)
  lost-keeps None f g = tt
  lost-keeps (Some x) f g = g x refl

  branch-keeps : (n : ℕ) (x y : Effect) → KeepsTo x → KeepsTo y → KeepsTo (branch n x y)
  branch-keeps zero x y f g = g
  branch-keeps (suc n) x y f g = f

  pub effect-keeps : (c : Code) (a : Acting) → Every P T c → Q a → KeepsTo (effect cs c a)
  effect-keeps End a t f = f
  effect-keeps (Put o l k e c) a t f = lost-keeps (assigned cs a l k e) (effect cs c) (λ b h. effect-keeps c b t.1 (put l k e a b t.0 f h))
  effect-keeps (If o u b d c) a t f =
      lost-keeps (word_in cs a u) (λ n. then_effect (branch n (effect cs b a) (effect cs d a)) (effect cs c))
      (λ n h. then-keeps (branch n (effect cs b a) (effect cs d a)) (effect cs c) (branch-keeps n (effect cs b a) (effect cs d a) (effect-keeps b a t.1 f) (effect-keeps d a t.2 f)) (λ z g. effect-keeps c z t.3 g))
  effect-keeps (Block o b c) a t f = shut-keeps (effect cs b a) (effect cs c) (effect-keeps b a t.0 f) (λ z g. effect-keeps c z t.1 g)
  effect-keeps (Exit o n c) a t f = f
  effect-keeps (Aim o to u c) a t f = tt
  effect-keeps (Loop o n b c) a t f = tt
  effect-keeps (Wait o l n c) a t f = tt

-- only roots are asked
module _ (cs : Cells) (a b : Acting) (none : (c : ℕ) → has_sort is_root cs c ≡ false → a.asked c ≡ None) where
  put-roots : (o : Option ℕ) (k : Pick) (new : ℕ) → put_in cs a o k new ≡ Some b → (d : ℕ) → has_sort is_root cs d ≡ false → b.asked d ≡ None
  put-roots None k new e d h = let m = map-is (picked cs a 1 k 0 new) (λ w. a) b e in ap (λ b. b.asked d) (sym m.2) ∙ none d h
  put-roots (Some c) k new e d h = by (has_sort is_root cs c) refl e
    where
      same : nat_eq c d ≡ true → c ≡ d
      same q = grind arith

      clash : {A : Type 0} → true ≡ false → A
      clash z = absurd (cc)

      by : (t : Bool) → has_sort is_root cs c ≡ t
          → (if t then option_map (λ w. with_asked c new a) (picked cs a (width_at cs c) k 0 new) else option_map (λ w. with_word c w a) (picked cs a (width_at cs c) k (a.now c) new)) ≡ Some b → b.asked d ≡ None
      by true r e =
          let m = map-is (picked cs a (width_at cs c) k 0 new) (λ w. with_asked c new a) b e in
          ap (λ b. b.asked d) (sym m.2) ∙ other (nat_eq c d) refl
        where
          other : (t : Bool) → nat_eq c d ≡ t → (if t then Some new else a.asked d) ≡ None
          other true q = clash (sym r ∙ (ap (has_sort is_root cs) (same q) ∙ h))
          other false q = none d h
      by false r e = let m = map-is (picked cs a (width_at cs c) k (a.now c) new) (λ w. with_word c w a) b e in ap (λ b. b.asked d) (sym m.2) ∙ none d h

  assigned-roots : (l : Left) (k : Pick) (e : Term) → assigned cs a l k e ≡ Some b → (d : ℕ) → has_sort is_root cs d ≡ false → b.asked d ≡ None
  assigned-roots l k e m =
      let w = then-is (word_in cs a e) (λ w. option_and_then (λ s. put_in cs a (cell_named cs (Some s)) k w) (steps_in cs a l)) b m in
      let s = then-is (steps_in cs a l) (λ s. put_in cs a (cell_named cs (Some s)) k w.0) b w.2 in
      put-roots (cell_named cs (Some s.0)) k w.0 s.2

module _ (p : Program) (core : IsResolved p) (i : ℕ) (q : Process) where
  abbrev cs : Cells
  cs = p.cells

  abbrev s : Sight
  s = sight_of p i q

  width-is : (c : ℕ) (x : program.Cell) → slice_get cs c ≡ Some x → width_at cs c ≡ width_of x.kind
  width-is c x e = ap (λ o. unwrap_or (option_map (λ x. width_of x.kind) o) 0) e

  pub fit-words : (a : Acting) → Fits s a → FitWords cs a
  fit-words a f = record {
    fits = λ c x e h. subst (λ n. a.now c < 2 ^ n) (width-is c x e) (f.words c (has-sort is_held cs c x e ∙ h));
    asked = λ c x w e h k. subst (λ n. w < 2 ^ n) (width-is c x e) (f.asks c w (has-sort is_held cs c x e ∙ h) k);
  }

  words-fit : (a : Acting) → FitWords cs a → ((c : ℕ) → has_sort is_root cs c ≡ false → a.asked c ≡ None) → Fits s a
  words-fit a f none = record {
    words = λ c h. let x = sort-of is_held cs c h in subst (λ n. a.now c < 2 ^ n) (sym (width-is c x.0 x.1)) (f.fits c x.0 x.1 x.2);
    asks = λ c w h k. let x = sort-of is_held cs c h in subst (λ n. w < 2 ^ n) (sym (width-is c x.0 x.1)) (f.asked c x.0 w x.1 x.2 k);
    roots = none;
  }

  abbrev pub P : Left → Pick → Term → Type 0
  P l k e = fit_put cs q l k e ≡ true

  abbrev pub T : Term → Type 0
  T t = fit_term cs q t ≡ true

  put-fits : (l : Left) (k : Pick) (e : Term) (a b : Acting) → P l k e → Fits s a → assigned cs a l k e ≡ Some b → Fits s b
  put-fits l k e a b h f m =
      let u = put-parts cs q (cells-apart p core) l k e h in
      words-fit b (assigned-fits p core q a (fit-words a f) l k e b u.term u.named m) (assigned-roots cs a b f.roots l k e m)

  pub code-keeps : (c : Code) → Every P T c → KeepsFit s c
  code-keeps c h a b f e = subst (KeepsTo cs P T (Fits s) put-fits) e (effect-keeps cs P T (Fits s) put-fits c a h f)

  pub live-keeps : slice_get p.processes i ≡ Some q → KeepsFit s (live cs q.body)
  live-keeps g = code-keeps (live cs q.body) (live-fits p core q i g)
