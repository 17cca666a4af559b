-- Constructors and the machine agree on the statements that both have.
use Rattle.std.proofs.Common.{◌≡◌, ℕ, zero, suc, List, [], ◌++◌, true, false, ◌&&◌, refl, subst}
use Rattle.std.specs.Prelude.{slice_get}
use Rattle.scc_semantics.specs.Store.{Request}
use Rattle.scc_semantics.specs.Body as machine
use Rattle.scc_semantics.specs.Body.{Body}
use Rattle.scc_semantics.specs.Machine.{Frames, Mark, Inner, BehindBlock, Stop, Go, leave, pick}
use Rattle.scc_core_spec.specs.Resolved.{Tried, Made, Stopped, and_made}
use Rattle.scc_elab_spec.specs.Term.{Term}
use Rattle.scc_elab_spec.specs.Program.{Code, End, Declare, Assign, Point, If, Loop, Block, Exit}
use Rattle.scc_elab_spec.specs.Design.{Object}
use Rattle.scc_elab_spec.specs.Bodies.{elements, aimed, local_as_whole}
use Rattle.scc_elab_spec.specs.Worth.{Site, at_now, spot, worth, target, assigned}
use Rattle.scc_elab_spec.specs.Construct.{Making, Now, Ran, Fell, sizes_of, declared_from, point_at, choose_of, most_turns, then_run, shut, from_tried, ran_in}
use Rattle.scc_elab_spec.specs.Spoken.{expr_of, body_of, is_first}
use Rattle.scc_elab_spec.specs.Typed.{IsTyped, IsTypedCode}
use Rattle.scc_elab_spec.specs.Common.{Agrees, is_small, is_common, names_of}
use Rattle.scc_elab_spec.proofs.Chains.{and-first, and-second}
use Rattle.scc_elab_spec.proofs.Regular.{IsFine, places_by, regular-at, valued-at}
use Rattle.scc_elab_spec.proofs.Steps.{reaches-same, reaches-one, step-end, step-if}
use Rattle.scc_elab_spec.proofs.Follows.{Follows, follows-after, follows-then, follows-shut, follows-tried, follows-looped, held}
use Rattle.scc_elab_spec.proofs.Assigned.{assign-is}
use Rattle.scc_elab_spec.proofs.Pointed.{point-is}
use Rattle.scc_elab_spec.proofs.Cleared.{declare-is}

not_common : {A : Type 0} → false ≡ true → A
not_common e = absurd cc

module _ (turns : ℕ) (make : Making) (s : Site) (os : List Object) where
  -- the code with what follows it
  abbrev body : List ℕ → Code → Body
  body before c = body_of s.plain s.function before c

  abbrev frames : Mark → Body → Frames → Frames
  frames mark b k = Go mark (names_of s) b k

  choose-follows : (x : ℕ) (fa fb : Now → Ran) (a b : Body) (n : Now) (rs : List Request) (g : Frames) → Follows s os (fa n) (frames Inner a g) (held n rs) g → Follows s os (fb n) (frames Inner b g) (held n rs) g
      → Follows s os (choose_of x fa fb n) (frames Inner (pick x a b) g) (held n rs) g
  choose-follows zero fa fb a b n rs g p q = q
  choose-follows (suc x) fa fb a b n rs g p q = p

  -- a test chooses a branch
  test-follows : (t : Term) → IsTyped t → (fa fb : Now → Ran) (a b rest : Body) (mark : Mark) (k : Frames) (n : Now) (rs : List Request) → IsFine s os n
      → Follows s os (fa n) (frames Inner a (frames Inner rest k)) (held n rs) (frames Inner rest k) → Follows s os (fb n) (frames Inner b (frames Inner rest k)) (held n rs) (frames Inner rest k)
      → Follows s os (from_tried (worth (at_now s n.grown) t) (λ x. choose_of x fa fb n)) (frames mark (machine.If (expr_of s.plain s.function t) a b rest) k) (held n rs) (frames Inner rest k)
  test-follows t d fa fb a b rest mark k n rs fine p q = follows-tried s os (worth (at_now s n.grown) t) (λ x. choose_of x fa fb n) (frames mark (machine.If (expr_of s.plain s.function t) a b rest) k) (frames Inner rest k) (held n rs)
      (λ x e. follows-after s os (choose_of x fa fb n) (frames mark (machine.If (expr_of s.plain s.function t) a b rest) k) (frames Inner (pick x a b) (frames Inner rest k)) (frames Inner rest k) (held n rs) (held n rs)
      (step-if (places_by s os) mark (names_of s) rest k (held n rs) (expr_of s.plain s.function t) a b x (valued-at s os n fine t x d e))
      (choose-follows x fa fb a b n rs (frames Inner rest k) p q))

  then-tried : {A : Type 0} (t : Tried A) (f : A → Ran) (next : Now → Ran) → then_run (from_tried t f) next ≡ from_tried t (λ x. then_run (f x) next)
  then-tried (Made a) f next = refl
  then-tried (Stopped r) f next = refl

  pub follows-code : (c : Code) → is_common s.function c ≡ true → IsTypedCode c → (before : List ℕ) (mark : Mark) (k : Frames) (n : Now) (rs : List Request) → IsFine s os n
      → Follows s os (ran_in turns make s c n) (frames mark (body before c) k) (held n rs) k
  follows-code End common typed before mark k n rs fine = (rs, step-end (places_by s os) mark (names_of s) machine.End k (held n rs), fine)
  follows-code (Declare q l r) common typed before mark k n rs fine =
      let small = and-first (is_small (sizes_of (slice_get s.function.locals l))) (is_common s.function r) common in
      let d = declare-is s os l small n fine (body before r) mark k rs in
      let m : Now = record { grown = declared_from s l (slice_get s.function.locals l) (elements (sizes_of (slice_get s.function.locals l))) n.grown; last = n.last } in
      follows-after s os (ran_in turns make s r m) (frames mark (body before (Declare q l r)) k) (frames d.0 (body before r) k) k (held n rs) (held m rs) d.1
      (follows-code r (and-second (is_small (sizes_of (slice_get s.function.locals l))) (is_common s.function r) common) typed before d.0 k m rs d.2)
  follows-code (Assign q l p e r) common typed before mark k n rs fine =
      follows-tried s os (assigned (at_now s n.grown) l p e) (λ g. ran_in turns make s r (record { grown = g; last = n.last })) (frames mark (body before (Assign q l p e r)) k) k (held n rs) (λ g d.
      let a = assign-is s os n fine l p e g typed.0 typed.1 typed.2 d (body before r) mark k rs in
      let m : Now = record { grown = g; last = n.last } in
      follows-after s os (ran_in turns make s r m) (frames mark (body before (Assign q l p e r)) k) (frames Inner (body before r) k) k (held n rs) (held m a.0) a.1 (follows-code r common typed.3 before Inner k m a.0 a.2))
  follows-code (Point q l t r) common typed before mark k n rs fine =
      follows-tried s os (and_made (spot (at_now s n.grown) false false l) (λ o. and_made (target (at_now s n.grown) t) (point_at (at_now s n.grown) q o))) (λ g. ran_in turns make s r (record { grown = g; last = n.last }))
      (frames mark (body before (Point q l t r)) k) k (held n rs) (λ g d.
      let a = point-is s os n fine q l t g typed.0 typed.1 d (is_first s.plain s.function before l) (body (local_as_whole l ++ before) r) mark k rs in
      let m : Now = record { grown = g; last = n.last } in
      follows-after s os (ran_in turns make s r m) (frames mark (body before (Point q l t r)) k) (frames Inner (body (local_as_whole l ++ before) r) k) k (held n rs) (held m a.0) a.1
      (follows-code r common typed.2 (local_as_whole l ++ before) Inner k m a.0 a.2))
  follows-code (If q t a b r) common typed before mark k n rs fine =
      let rest : Body = body (aimed a ++ (aimed b ++ before)) r in
      let ca = and-first (is_common s.function a) (is_common s.function b && is_common s.function r) common in
      let cr = and-second (is_common s.function a) (is_common s.function b && is_common s.function r) common in
      subst (λ (z : Ran). Follows s os z (frames mark (body before (If q t a b r)) k) (held n rs) k) (then-tried (worth (at_now s n.grown) t) (λ x. choose_of x (ran_in turns make s a) (ran_in turns make s b) n) (ran_in turns make s r))
      (follows-then s os (from_tried (worth (at_now s n.grown) t) (λ x. choose_of x (ran_in turns make s a) (ran_in turns make s b) n)) (ran_in turns make s r) (frames mark (body before (If q t a b r)) k) (frames Inner rest k) k (held n rs)
      (test-follows t typed.0 (ran_in turns make s a) (ran_in turns make s b) (body before a) (body (aimed a ++ before) b) rest mark k n rs fine
      (follows-code a ca typed.1 before Inner (frames Inner rest k) n rs fine)
      (follows-code b (and-first (is_common s.function b) (is_common s.function r) cr) typed.2 (aimed a ++ before) Inner (frames Inner rest k) n rs fine))
      (λ d. refl)
      (λ m rs fine. follows-code r (and-second (is_common s.function b) (is_common s.function r) cr) typed.3 (aimed a ++ (aimed b ++ before)) Inner k m rs fine))
  follows-code (Block q b r) common typed before mark k n rs fine =
      let rest : Body = body (aimed b ++ before) r in
      follows-after s os (shut (ran_in turns make s b n) (ran_in turns make s r)) (frames mark (body before (Block q b r)) k) (frames Inner (body before b) (frames BehindBlock rest k)) k (held n rs) (held n rs)
      (reaches-one (places_by s os) (frames mark (body before (Block q b r)) k) (frames Inner (body before b) (frames BehindBlock rest k)) (held n rs) (held n rs) (λ j. refl))
      (follows-shut s os (ran_in turns make s b n) (ran_in turns make s r) (frames Inner (body before b) (frames BehindBlock rest k)) k (names_of s) rest (held n rs)
      (follows-code b (and-first (is_common s.function b) (is_common s.function r) common) typed.0 before Inner (frames BehindBlock rest k) n rs fine)
      (λ mark m rs fine. follows-code r (and-second (is_common s.function b) (is_common s.function r) common) typed.1 (aimed b ++ before) mark k m rs fine))
  follows-code (Exit q d r) common typed before mark k n rs fine = (rs, reaches-one (places_by s os) (frames mark (body before (Exit q d r)) k) (leave d k) (held n rs) (held n rs) (λ j. refl), fine)
  follows-code (Loop q c (If p t a b turn) r) common typed before mark k n rs fine =
      let inside : Body = body before (If p t a b turn) in
      let rest : Body = body (aimed (If p t a b turn) ++ before) r in
      let around : Frames = frames Inner (machine.Loop inside rest) k in
      let next : Body = body (aimed a ++ (aimed b ++ before)) turn in
      let cl = and-first (is_common s.function (If p t a b turn)) (is_common s.function r) common in
      let ca = and-first (is_common s.function a) (is_common s.function b && is_common s.function turn) cl in
      let cr = and-second (is_common s.function a) (is_common s.function b && is_common s.function turn) cl in
      follows-looped s os turns q (λ n. from_tried (worth (at_now s n.grown) t) (λ x. choose_of x (ran_in turns make s a) (ran_in turns make s b) n)) (ran_in turns make s turn) (names_of s) inside rest (frames Inner next around) k
      (λ n rs fine. test-follows t typed.0.0 (ran_in turns make s a) (ran_in turns make s b) (body before a) (body (aimed a ++ before) b) next Inner around n rs fine
      (follows-code a ca typed.0.1 before Inner (frames Inner next around) n rs fine)
      (follows-code b (and-first (is_common s.function b) (is_common s.function turn) cr) typed.0.2 (aimed a ++ before) Inner (frames Inner next around) n rs fine))
      (λ n rs fine. follows-code turn (and-second (is_common s.function b) (is_common s.function turn) cr) typed.0.3 (aimed a ++ (aimed b ++ before)) Inner around n rs fine)
      (λ d. refl) mark n rs fine
  follows-code (Loop q c b r) common typed before mark k n rs fine =
      let inside : Body = body before b in
      let rest : Body = body (aimed b ++ before) r in
      let around : Frames = frames Inner (machine.Loop inside rest) k in
      follows-looped s os turns q Fell (ran_in turns make s b) (names_of s) inside rest (frames Inner inside around) k
      (λ n rs fine. (rs, reaches-same (places_by s os) (frames Inner inside around) (held n rs), fine))
      (λ n rs fine. follows-code b (and-first (is_common s.function b) (is_common s.function r) common) typed.0 before Inner around n rs fine)
      (λ d. refl) mark n rs fine
  follows-code c common typed before mark k n rs fine = not_common common

pub agrees : (make : Making) (s : Site) (c : Code) → Agrees make s c
agrees make s c n m regular common typed e =
    let fine : IsFine s n.grown.objects n = record { objects = refl; words = regular.words; targets = regular.targets } in
    let r = subst (λ (z : Ran). Follows s n.grown.objects z (Go Inner (names_of s) (body_of s.plain s.function [] c) Stop) (held n []) Stop) e (follows-code most_turns make s n.grown.objects c common typed [] Inner Stop n [] fine) in
    (r.1.steps 0, held m r.0, r.1.same 0, refl, regular-at s n.grown.objects m r.2)
