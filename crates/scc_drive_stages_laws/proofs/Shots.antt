-- What is observed of both sides is the same where both are observed as registers.
use Rattle.std.proofs.Common.{◌≡◌, ℕ, List, [], ◌∷◌, Option, Some, None, refl, sym, ap, ◌∙◌, subst}
use Rattle.std.specs.Prelude.{map, option_map}
use Rattle.scc_semantics.specs.Location.{Location}
use Rattle.scc_semantics.specs.Run.{Observation, Shown}
use Rattle.scc_semantics.specs.Statement.{Shot, Seen, SameShot, SameAfter, AllSame}
use Rattle.scc_svtree.specs.declared.module.SvModule.{SvModule}
use Rattle.scc_blocks_spec.specs.Emitted.{shot, seen_of, AreSeen}
use Rattle.scc_blocks_spec.specs.Matches.{register_of, first}
use Rattle.scc_core_spec.specs.Program.{Program}
use Rattle.scc_core_spec.specs.Source.{Home}
use Rattle.scc_blocks_spec.specs.Tied.{Registers}
use Rattle.scc_blocks_spec.specs.Turns.{Regs, begun, edged}
use Rattle.scc_blocks_run_laws.specs.Follows.{seen_after, registers_shown}
use Rattle.scc_blocks_laws.specs.Shots.{ShowsRegs, ShowsAfter, ShowsStep, ShowAll}
use Rattle.scc_core_laws.specs.Stepped.{RegsStep, Sees, SeesAfter, SeesStep, SeesAll, regs_step, regs_shown, outputs_from}
use Rattle.scc_drive_stages_laws.specs.Joined.{IsPlaced, turn_of}

module _ (home : Home) (p : Program) (text : Location → List ℕ) (at : Location → ℕ) (r : Registers) (m : SvModule) (placed : IsPlaced home p text at r m) where
  abbrev Named : Shot → Type 0
  Named s = (l : Location) (w : ℕ) → s.registers l ≡ Some w → (v : ℕ) × (first (register_of text m l) ≡ Some v)

  abbrev NamedAfter : Option Shot → Type 0
  NamedAfter None = Unit {0}
  NamedAfter (Some s) = Named s

  shot-named : (y : ℕ → ℕ) → Named (shot text m y)
  shot-named y l w e = go (first (register_of text m l)) refl
    where
      go : (o : Option ℕ) → first (register_of text m l) ≡ o → (v : ℕ) × (first (register_of text m l) ≡ Some v)
      go None k = let z : None ≡ Some w = sym (ap (λ o. option_map y o) k) ∙ e in absurd (cc)
      go (Some v) k = (v, k)

  seen-named : (ys : List (ℕ → ℕ)) (s : Seen) → seen_of text m ys ≡ Some s → Named s.before × NamedAfter s.after
  seen-named [] s e = absurd (cc)
  seen-named (y ∷ []) s e =
      let z : record { before = shot text m y; after = None } ≡ s = cc in
      subst (λ s. Named s.before × NamedAfter s.after) z (shot-named y, tt)
  seen-named (y ∷ z ∷ []) s e =
      let w : record { before = shot text m y; after = Some (shot text m z) } ≡ s = cc in
      subst (λ s. Named s.before × NamedAfter s.after) w (shot-named y, shot-named z)
  seen-named (y ∷ z ∷ w ∷ ys) s e = absurd (cc)

  same-shot : (o : Observation) (g : Regs) (s : Shot) → Sees home p o g → ShowsRegs at (outputs_from 0 p.cells) g s → Named s → SameShot o s
  same-shot o g s sees shows named = record {
    outputs = sees.outputs ∙ shows.same_outputs;
    registers = λ l w e. let n = named l w e in let t = placed.stands l n.0 n.1 in ap o.words (sym t.2) ∙ sees.words (at l) t.0 t.1 t.3 ∙ shows.same_registers l w e;
  }

  after-none : (a : Option Observation) (b : Option Shot) → SeesAfter home p a None → ShowsAfter at (outputs_from 0 p.cells) [] b → SameAfter a b
  after-none None None s t = tt
  after-none None (Some b) s t = absurd t
  after-none (Some a) b s t = absurd s

  after-some : (a : Option Observation) (b : Option Shot) (g : Regs) → SeesAfter home p a (Some g) → ShowsAfter at (outputs_from 0 p.cells) (g ∷ []) b → NamedAfter b → SameAfter a b
  after-some None b g s t n = absurd s
  after-some (Some a) None g s t n = absurd t
  after-some (Some a) (Some b) g s t n = same-shot a g b s t n

  same-step : (y : RegsStep) (g : Regs) (o : Shown) (s : Seen) (ys : List (ℕ → ℕ)) → SeesStep home p o (regs_step p y g).1
      → ShowsStep at (outputs_from 0 p.cells) (begun p y.given g ∷ seen_after p y.edge (begun p y.given g)) s → seen_of text m ys ≡ Some s → SameShot o.before s.before × SameAfter o.after s.after
  same-step y g o s ys = by y.edge
    where
      by : (e : Option (List ℕ)) → SeesStep home p o (regs_step p (record { given = y.given; edge = e }) g).1
          → ShowsStep at (outputs_from 0 p.cells) (begun p y.given g ∷ seen_after p e (begun p y.given g)) s → seen_of text m ys ≡ Some s → SameShot o.before s.before × SameAfter o.after s.after
      by None a b e = let n = seen-named ys s e in (same-shot o.before (begun p y.given g) s.before a.0 b.0 n.0, after-none o.after s.after a.1 b.1)
      by (Some l) a b e = let n = seen-named ys s e in (same-shot o.before (begun p y.given g) s.before a.0 b.0 n.0, after-some o.after s.after (edged p l (begun p y.given g)) a.1 b.1 n.1)

  pub all-same : (ys : List RegsStep) (g : Regs) (os : List Shown) (ss : List Seen) (yss : List (List (ℕ → ℕ))) → SeesAll home p os (regs_shown p ys g)
      → ShowAll at (outputs_from 0 p.cells) (registers_shown p (map turn_of ys) g) ss → AreSeen text m yss ss → AllSame os ss
  all-same [] g [] [] yss a b e = tt
  all-same [] g (o ∷ os) ss yss a b e = absurd a
  all-same [] g [] (s ∷ ss) yss a b e = absurd b
  all-same (y ∷ ys) g [] ss yss a b e = absurd a
  all-same (y ∷ ys) g (o ∷ os) [] yss a b e = absurd b
  all-same (y ∷ ys) g (o ∷ os) (s ∷ ss) [] a b e = absurd e
  all-same (y ∷ ys) g (o ∷ os) (s ∷ ss) (zs ∷ yss) a b e =
      let one = same-step y g o s zs a.0 b.0 e.0 in (one.0, one.1, all-same ys (regs_step p y g).0 os ss yss a.1 (next y.edge b.1) e.1)
    where
      next : (k : Option (List ℕ)) → ShowAll at (outputs_from 0 p.cells) (registers_shown p (map turn_of ys) (Rattle.scc_blocks_run_laws.specs.Follows.after_turn p k (begun p y.given g))) ss
          → ShowAll at (outputs_from 0 p.cells) (registers_shown p (map turn_of ys) (regs_step p (record { given = y.given; edge = k }) g).0) ss
      next None h = h
      next (Some l) h = h
