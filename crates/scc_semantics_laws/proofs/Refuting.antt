-- By the old definition runs of designs that mean the same differ.
use Rattle.std.proofs.Common.{◌≡◌, inl, inr, ◌⊎◌, ℕ, zero, suc, ◌*◌, ◌<◌, ◌^◌, List, [], ◌∷◌, map, Bool, true, false, Some, None, refl, sym, ap, ◌∙◌, subst, one-mul, arith, if◌then◌else◌}
use Rattle.scc_bits_kinds.specs.Kinds.{width_of}
use Rattle.scc_bits_kinds.specs.declared.kind.Kind.TheVariants as kind
use Rattle.scc_semantics.specs.Location.{Location, same}
use Rattle.scc_semantics.specs.Store.{changed}
use Rattle.scc_semantics.specs.Design.{Process, Design}
use Rattle.scc_semantics.specs.Value.{with_targets}
use Rattle.scc_semantics.specs.Machine.{Stop, Outcome, Ended, Unfinished}
use Rattle.scc_semantics.specs.Process.{Went, Well, Failed, first_frames}
use Rattle.scc_semantics.specs.Run.{Step, Shown, shown}
use Rattle.scc_semantics.specs.Start.{IsStart}
use Rattle.scc_semantics_laws.specs.Old.{Turn, Seen, Middle, seen_of, left_in, resumed, Plays, at_first, MeansTheSame, SameDesign}
use Rattle.scc_semantics_laws.specs.Refuted.{OldLaw, member, aims, rests, copies, direct, of_two, moving, resolved, start_of}
use Rattle.scc_semantics_laws.proofs.Two.{on, standing, go, at_stop, at_end, case-of, is-steady}

once : (ns : List ℕ) → ns ≡ map (λ n. 1 * n) ns
once [] = refl
once (n ∷ ns) = λ i. sym (one-mul n) i ∷ once ns i

abbrev da : Design
da = moving

abbrev de : Design
de = resolved

abbrev AtEnd : Outcome → Middle → Type 0
AtEnd o m = (left_in o m).frames ≡ Stop

record Ends (t : Turn) (a b : Outcome) (x y : Middle) : Type 0 where
  pub same : seen_of a ≡ seen_of b
  pub left : (o : Seen) → seen_of a ≡ Some o → AtEnd a x × AtEnd b y

runs-alike : (t : Turn) (n : ℕ) (b : Bool) (x y : Middle) → Ends t (go t.signals n (standing 0 aims b) (on t.words x.targets)) (go t.signals n (standing 0 rests b) (on t.words y.targets)) x y
runs-alike t n false x y =
    let p = at_stop t.signals n (on t.words x.targets) in
    let q = at_stop t.signals n (on t.words y.targets) in
    record {
      same = ap seen_of p ∙ sym (ap seen_of q);
      left = λ o e. (ap (λ r. (left_in r x).frames) p, ap (λ r. (left_in r y).frames) q);
    }
runs-alike t zero true x y = record { same = refl; left = λ o e. absurd cc }
runs-alike t (suc n) true x y =
    let h = on t.words x.targets in
    let p = at_end t.signals n (record { process = 0; calls = []; object = Some (member 0) }) (with_targets h (changed (member 1) (Some (member 3)) x.targets)) in
    let q = at_stop t.signals n (on t.words y.targets) in
    record {
      same = ap seen_of p ∙ sym (ap seen_of q);
      left = λ o e. (ap (λ r. (left_in r x).frames) p, ap (λ r. (left_in r y).frames) q);
    }

resumes-alike : (t : Turn) (n : ℕ) (b : Bool) (x y : Middle) → x.frames ≡ standing 0 aims b → y.frames ≡ standing 0 rests b → Ends t (resumed da 0 aims n t x) (resumed de 0 rests n t y) x y
resumes-alike t n b x y fx fy = by t.restarts
  where
    by : (r : Bool) → Ends t (go t.signals n (if r then first_frames 0 aims else x.frames) (on t.words x.targets)) (go t.signals n (if r then first_frames 0 rests else y.frames) (on t.words y.targets)) x y
    by true = runs-alike t n true x y
    by false = subst (λ f. Ends t (go t.signals n f (on t.words x.targets)) (go t.signals n y.frames (on t.words y.targets)) x y) (sym fx)
        (subst (λ f. Ends t (go t.signals n (standing 0 aims b) (on t.words x.targets)) (go t.signals n f (on t.words y.targets)) x y) (sym fy) (runs-alike t n b x y))

plays : (ns : List ℕ) (ts : List Turn) (os : List Seen) (b : Bool) (x y : Middle) → x.frames ≡ standing 0 aims b → y.frames ≡ standing 0 rests b → Plays da 0 aims x ns ts os → Plays de 0 rests y ns ts os
plays [] [] [] b x y fx fy h = tt
plays (n ∷ ns) (t ∷ ts) (o ∷ os) b x y fx fy h =
    let r = resumes-alike t n b x y fx fy in
    let l = r.left o h.0 in
    (sym r.same ∙ h.0, plays ns ts os false (left_in (resumed da 0 aims n t x) x) (left_in (resumed de 0 rests n t y) y) l.0 l.1 h.1)
plays ns ts os b x y fx fy h = absurd h

only : (ns : List ℕ) (ts : List Turn) (os : List Seen) (b : Bool) (x y : Middle) → x.frames ≡ standing 0 aims b → y.frames ≡ standing 0 rests b → Plays de 0 rests y ns ts os → Plays da 0 aims x ns ts os
only [] [] [] b x y fx fy h = tt
only (n ∷ ns) (t ∷ ts) (o ∷ os) b x y fx fy h =
    let r = resumes-alike t n b x y fx fy in
    let l = r.left o (r.same ∙ h.0) in
    (r.same ∙ h.0, only ns ts os false (left_in (resumed da 0 aims n t x) x) (left_in (resumed de 0 rests n t y) y) l.0 l.1 h.1)
only ns ts os b x y fx fy h = absurd h

-- the other process follows a pointer that it never finds moved
record Pointed (x y : Middle) : Type 0 where
  pub at : Bool
  pub frames : x.frames ≡ standing 1 copies at
  pub frames_too : y.frames ≡ standing 1 direct at
  pub leads : x.targets (member 1) ≡ Some (member 2)

abbrev Case : (x y : Middle) → Outcome → Outcome → Type 0
Case x y a b = ((a ≡ Unfinished) × (b ≡ Unfinished)) ⊎ ((w : Location → ℕ) × (a ≡ Ended (on w x.targets)) × (b ≡ Ended (on w y.targets)))

case-here : (t : Turn) (x y : Middle) → Pointed x y → (n : ℕ) → Case x y (resumed da 1 copies n t x) (resumed de 1 direct n t y)
case-here t x y p n = by t.restarts
  where
    by : (r : Bool) → Case x y (go t.signals n (if r then first_frames 1 copies else x.frames) (on t.words x.targets)) (go t.signals n (if r then first_frames 1 direct else y.frames) (on t.words y.targets))
    by true = case-of t.signals n true t.words x.targets y.targets p.leads
    by false = subst (λ f. Case x y (go t.signals n f (on t.words x.targets)) (go t.signals n y.frames (on t.words y.targets))) (sym p.frames)
        (subst (λ f. Case x y (go t.signals n (standing 1 copies p.at) (on t.words x.targets)) (go t.signals n f (on t.words y.targets))) (sym p.frames_too) (case-of t.signals n p.at t.words x.targets y.targets p.leads))

seen-same : (x y : Middle) (a b : Outcome) → Case x y a b → seen_of a ≡ seen_of b
seen-same x y a b (inl c) = ap seen_of c.0 ∙ sym (ap seen_of c.1)
seen-same x y a b (inr c) = ap seen_of c.1 ∙ sym (ap seen_of c.2)

pointed-after : (x y : Middle) → Pointed x y → (a b : Outcome) (s : Seen) → Case x y a b → seen_of a ≡ Some s → Pointed (left_in a x) (left_in b y)
pointed-after x y p a b s (inl c) seen = let e : None ≡ Some s = ap seen_of (sym c.0) ∙ seen in absurd cc
pointed-after x y p a b s (inr c) seen = subst (λ a. Pointed (left_in a x) (left_in b y)) (sym c.1) (subst (λ b. Pointed (left_in (Ended (on c.0 x.targets)) x) (left_in b y)) (sym c.2)
    (record { at = false; frames = refl; frames_too = refl; leads = p.leads }))

copied : (ns : List ℕ) (ts : List Turn) (os : List Seen) (x y : Middle) → Pointed x y → Plays da 1 copies x ns ts os → Plays de 1 direct y ns ts os
copied [] [] [] x y p h = tt
copied (n ∷ ns) (t ∷ ts) (o ∷ os) x y p h =
    let a = resumed da 1 copies n t x in
    let b = resumed de 1 direct n t y in
    let c = case-here t x y p n in
    (sym (seen-same x y a b c) ∙ h.0, copied ns ts os (left_in a x) (left_in b y) (pointed-after x y p a b o c h.0) h.1)
copied ns ts os x y p h = absurd h

copied-back : (ns : List ℕ) (ts : List Turn) (os : List Seen) (x y : Middle) → Pointed x y → Plays de 1 direct y ns ts os → Plays da 1 copies x ns ts os
copied-back [] [] [] x y p h = tt
copied-back (n ∷ ns) (t ∷ ts) (o ∷ os) x y p h =
    let a = resumed da 1 copies n t x in
    let b = resumed de 1 direct n t y in
    let c = case-here t x y p n in
    let seen = seen-same x y a b c ∙ h.0 in
    (seen, copied-back ns ts os (left_in a x) (left_in b y) (pointed-after x y p a b o c seen) h.1)
copied-back ns ts os x y p h = absurd h

first-pointed : Pointed (at_first da 1 copies) (at_first de 1 direct)
first-pointed = record { at = true; frames = refl; frames_too = refl; leads = refl }

means-first : MeansTheSame 1 da de 0 aims rests
means-first = record {
  plays = λ ns ts os a h. (ns, plays ns ts os true (at_first da 0 aims) (at_first de 0 rests) refl refl h);
  only = λ ns ts os a h. subst (λ ms. Plays da 0 aims (at_first da 0 aims) ms ts os) (once ns) (only ns ts os true (at_first da 0 aims) (at_first de 0 rests) refl refl h);
}

means-second : MeansTheSame 1 da de 1 copies direct
means-second = record {
  plays = λ ns ts os a h. (ns, copied ns ts os (at_first da 1 copies) (at_first de 1 direct) first-pointed h);
  only = λ ns ts os a h. subst (λ ms. Plays da 1 copies (at_first da 1 copies) ms ts os) (once ns) (copied-back ns ts os (at_first da 1 copies) (at_first de 1 direct) first-pointed h);
}

mean-the-same : SameDesign 1 da de
mean-the-same = record { things = λ l. refl; ports = refl; fixed = λ l. refl; constants = λ l. refl; processes = (refl, means-first, (refl, means-second, tt)) }

small : (b : Bool) → (if b then 1 else 0) < 2 ^ width_of kind.Bool
small true = omega arith
small false = omega arith

is-start : (p q : Process) → IsStart (of_two p q) (start_of p q)
is-start p q = record {
  words = record { fits = λ l. small (same l (member 3)); fixed = λ l. tt; constants = λ l. tt };
  targets = λ l. refl;
  frames = (refl, (refl, tt));
}

abbrev steps : List Step
steps = record { inputs = []; edge = None } ∷ []

abbrev list_of : Went (List Shown) → List Shown
list_of (Well os) = os
list_of (Failed i) = []

-- what the first step shows at 4
abbrev shows : List Shown → ℕ
shows [] = 0
shows (o ∷ os) = o.before.words (member 4)

one-not-zero : (n m : ℕ) → n ≡ 1 → m ≡ 0 → n ≡ m → ⊥
one-not-zero n m p q e = omega arith

pub refuted : OldLaw → ⊥
refuted law =
    let start = start_of aims copies in
    let other = start_of rests direct in
    one-not-zero (shows (list_of (shown (λ i. 1 * 5) da steps start))) (shows (list_of (shown (λ i. 5) de steps other))) refl refl
    (ap (λ w. shows (list_of w)) (law 1 da de mean-the-same is-steady start other (is-start aims copies) (is-start rests direct) (λ l. refl) steps ((tt, tt), tt) (λ i. 5) (list_of (shown (λ i. 5) de steps other)) refl))
