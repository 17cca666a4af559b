-- What two small processes come to.
use Rattle.std.proofs.Common.{◌≡◌, ◌⊎◌, inl, inr, ◌*◌, ℕ, zero, suc, List, [], ◌∷◌, map, Bool, true, false, Option, Some, None, refl, sym, ap, ◌∙◌, subst, one-mul, if◌then◌else◌}
use Rattle.std.specs.Prelude.{option_map}
use Rattle.scc_semantics.specs.Location.{Location}
use Rattle.scc_semantics.specs.Store.{changed}
use Rattle.scc_semantics.specs.Scene.{Names, pointed, followed}
use Rattle.scc_semantics.specs.Body.{End}
use Rattle.scc_semantics.specs.Design.{Process}
use Rattle.scc_semantics.specs.Value.{Held}
use Rattle.scc_semantics.specs.Machine.{Inner, Frames, Stop, Go, Outcome, Ended, Unfinished, unless_stuck, run}
use Rattle.scc_semantics.specs.Process.{first_frames}
use Rattle.scc_semantics.specs.Start.{IsProper}
use Rattle.scc_semantics.specs.Same.{Turn, Seen, Middle, Ends, seen_as, seen_of, leading, left_in, resumed, Plays, AllProper, at_first, SameDesign}
use Rattle.scc_semantics.specs.Steady.{AllProperRequests, AllProperSeen, IsSteady}
use Rattle.scc_semantics.specs.Same.{is_others}
use Rattle.scc_semantics_laws.proofs.Places.{changed-proper}
use Rattle.scc_semantics_laws.proofs.Means.{Similar, means-by}
use Rattle.scc_semantics_laws.specs.Refuted.{member, rests, copies, direct, staying, resolved}

abbrev pub on : (Location → ℕ) → (Location → Option Location) → Held
on w t = record { store = record { words = w; targets = t }; requests = [] }

-- not yet begun, or at its end
abbrev pub standing : ℕ → Process → Bool → Frames
standing i p true = first_frames i p
standing i p false = Stop

module _ (g : Location → ℕ) where
  abbrev pub go : ℕ → Frames → Held → Outcome
  go = run resolved.places resolved.functions g

  pub at_stop : (n : ℕ) (h : Held) → go n Stop h ≡ Ended h
  at_stop zero h = refl
  at_stop (suc n) h = refl

  pub at_end : (n : ℕ) (m : Names) (h : Held) → go n (Go Inner m End Stop) h ≡ Ended h
  at_end zero m h = refl
  at_end (suc n) m h = refl

  abbrev pub names : ℕ → Names
  names i = record { process = i; calls = []; object = Some (member 0) }

  -- the words after the copy
  abbrev pub copied : (Location → ℕ) → Location → ℕ
  copied w = changed (member 4) (w (member 2)) w

  pub directly : (n : ℕ) (w : Location → ℕ) (t : Location → Option Location) → go (suc n) (first_frames 1 direct) (on w t) ≡ Ended (on (copied w) t)
  directly n w t = at_end n (names 1) (on (copied w) t)

  pub by_pointer : (n : ℕ) (w : Location → ℕ) (t : Location → Option Location) → t (member 1) ≡ Some (member 2) → go (suc n) (first_frames 1 copies) (on w t) ≡ Ended (on (copied w) t)
  by_pointer n w t e =
      ap (λ o. unless_stuck (on w t) (option_map w (followed (Some (pointed true o)))) (λ x. go n (Go Inner (names 1) End Stop) (on (changed (member 4) x w) t))) e
      ∙ at_end n (names 1) (on (copied w) t)

-- a resume of a process of the resolved design that is over leaves the process at its end, with these words
module _ (i : ℕ) (q : Process) (word : (Location → ℕ) → Location → ℕ)
    (does : (g : Location → ℕ) (n : ℕ) (w : Location → ℕ) (t : Location → Option Location) → go g (suc n) (first_frames i q) (on w t) ≡ Ended (on (word w) t))
    (waits : (g : Location → ℕ) (w : Location → ℕ) (t : Location → Option Location) → go g 0 (first_frames i q) (on w t) ≡ Unfinished)
    (fits : (w : Location → ℕ) → IsProper resolved w → IsProper resolved (word w)) where
  record Over (t : Turn) (o : Outcome) (l : Location → Option Location) (s : Seen) (m : Middle) : Type 0 where
    pub words : IsProper resolved s.words
    pub requests : AllProperRequests resolved s.requests
    pub frames : (left_in o m).frames ≡ Stop

  ended : (t : Turn) (w : Location → ℕ) (l : Location → Option Location) (o : Outcome) (s : Seen) (m : Middle) → IsProper resolved w → o ≡ Ended (on w l) → seen_of i l o ≡ Some s → Over t o l s m
  ended t w l o s m p e seen =
      let same : s ≡ seen_as i l Ends (on w l) = some-is (sym seen ∙ ap (seen_of i l) e) in
      record {
        words = subst (λ s. IsProper resolved s.words) (sym same) p;
        requests = subst (λ s. AllProperRequests resolved s.requests) (sym same) tt;
        frames = ap (λ o. (left_in o m).frames) e;
      }
    where
      some-is : {A : Type 0} {x y : A} → Some x ≡ Some y → x ≡ y
      some-is e = cc

  over : (t : Turn) (n : ℕ) (b : Bool) (l : Location → Option Location) (s : Seen) (m : Middle) → IsProper resolved t.words → seen_of i l (go t.signals n (standing i q b) (on t.words l)) ≡ Some s
      → Over t (go t.signals n (standing i q b) (on t.words l)) l s m
  over t n false l s m p seen = ended t t.words l (go t.signals n Stop (on t.words l)) s m p (at_stop t.signals n (on t.words l)) seen
  over t zero true l s m p seen = let e : None ≡ Some s = ap (seen_of i l) (sym (waits t.signals t.words l)) ∙ seen in absurd cc
  over t (suc n) true l s m p seen = ended t (word t.words) l (go t.signals (suc n) (first_frames i q) (on t.words l)) s m (fits t.words p) (does t.signals n t.words l) seen

  all-proper : (ns : List ℕ) (ts : List Turn) (os : List Seen) (b : Bool) (m : Middle) → m.frames ≡ standing i q b → AllProper resolved ts → Plays resolved i q m ns ts os → AllProperSeen resolved os
  all-proper [] [] [] b m f a h = tt
  all-proper (n ∷ ns) (t ∷ ts) (o ∷ os) b m f a h =
      let r = now t.restarts (h.0) in
      (r.words, r.requests, all-proper ns ts os false (left_in (resumed resolved i q n t m) m) r.frames a.2 h.1)
    where
      now : (r : Bool) → seen_of i (leading i t m) (go t.signals n (if r then first_frames i q else m.frames) (on t.words (leading i t m))) ≡ Some o
          → Over t (go t.signals n (if r then first_frames i q else m.frames) (on t.words (leading i t m))) (leading i t m) o m
      now true seen = over t n true (leading i t m) o m a.0 seen
      now false seen = subst (λ g. seen_of i (leading i t m) (go t.signals n g (on t.words (leading i t m))) ≡ Some o → Over t (go t.signals n g (on t.words (leading i t m))) (leading i t m) o m) (sym f)
          (over t n b (leading i t m) o m a.0) seen
  all-proper ns ts os b m f a h = absurd h

pub is-steady : IsSteady resolved
is-steady = record {
  processes = (
    record { plain = refl; proper = λ ns ts os a h. all-proper 0 rests (λ w. w) (λ g n w t. at_stop g n (on w t)) (λ g w t. refl) (λ w p. p) ns ts os true (at_first resolved 0 rests) refl a h },
    (record { plain = refl; proper = λ ns ts os a h. all-proper 1 direct copied-here directly (λ g w t. refl) copies-fit ns ts os true (at_first resolved 1 direct) refl a h }, tt),
  );
  inputs = λ l h. absurd cc;
}
  where
    copied-here : (Location → ℕ) → Location → ℕ
    copied-here w = changed (member 4) (w (member 2)) w

    copies-fit : (w : Location → ℕ) → IsProper resolved w → IsProper resolved (changed (member 4) (w (member 2)) w)
    copies-fit w p = changed-proper resolved w (member 4) (w (member 2)) p (record { fits = p.fits (member 2); fixed = tt; constants = tt })

-- both end with these words, or neither does
abbrev Case : (lx ly : Location → Option Location) → Outcome → Outcome → Type 0
Case lx ly a b = ((a ≡ Unfinished) × (b ≡ Unfinished)) ⊎ ((w : Location → ℕ) × (a ≡ Ended (on w lx)) × (b ≡ Ended (on w ly)))

pub case-of : (g : Location → ℕ) (n : ℕ) (b : Bool) (w : Location → ℕ) (lx ly : Location → Option Location) → lx (member 1) ≡ Some (member 2)
    → Case lx ly (go g n (standing 1 copies b) (on w lx)) (go g n (standing 1 direct b) (on w ly))
case-of g n false w lx ly e = inr (w, at_stop g n (on w lx), at_stop g n (on w ly))
case-of g zero true w lx ly e = inl (refl, refl)
case-of g (suc n) true w lx ly e = inr (changed (member 4) (w (member 2)) w, by_pointer g n w lx e, directly g n w ly)

-- the pointer stays, and the process stands at the same place
record Pointed (x y : Middle) : Type 0 where
  pub at : Bool
  pub frames : x.frames ≡ standing 1 copies at
  pub frames_too : y.frames ≡ standing 1 direct at
  pub targets : x.targets ≡ y.targets
  pub leads : x.targets (member 1) ≡ Some (member 2)

module _ (t : Turn) (x y : Middle) (p : Pointed x y) (n : ℕ) where
  abbrev lx : Location → Option Location
  lx = leading 1 t x

  abbrev ly : Location → Option Location
  ly = leading 1 t y

  abbrev od : Outcome
  od = resumed staying 1 copies n t x

  abbrev oe : Outcome
  oe = resumed resolved 1 direct n t y

  leads-same : lx ≡ ly
  leads-same = λ z l. if is_others 1 l.root then t.others l else p.targets z l

  case-here : Case lx ly od oe
  case-here = by t.restarts
    where
      by : (r : Bool) → Case lx ly (go t.signals n (if r then first_frames 1 copies else x.frames) (on t.words lx)) (go t.signals n (if r then first_frames 1 direct else y.frames) (on t.words ly))
      by true = case-of t.signals n true t.words lx ly p.leads
      by false = subst (λ f. Case lx ly (go t.signals n f (on t.words lx)) (go t.signals n y.frames (on t.words ly))) (sym p.frames)
          (subst (λ f. Case lx ly (go t.signals n (standing 1 copies p.at) (on t.words lx)) (go t.signals n f (on t.words ly))) (sym p.frames_too) (case-of t.signals n p.at t.words lx ly p.leads))

  seen-same : (a b : Outcome) → Case lx ly a b → seen_of 1 lx a ≡ seen_of 1 ly b
  seen-same a b (inl c) = ap (seen_of 1 lx) c.0 ∙ sym (ap (seen_of 1 ly) c.1)
  seen-same a b (inr c) = ap (seen_of 1 lx) c.1 ∙ (λ z. seen_of 1 (leads-same z) (Ended (on c.0 (leads-same z)))) ∙ sym (ap (seen_of 1 ly) c.2)

  pointed-after : (a b : Outcome) (s : Seen) → Case lx ly a b → seen_of 1 lx a ≡ Some s → Pointed (left_in a x) (left_in b y)
  pointed-after a b s (inl c) seen = let e : None ≡ Some s = ap (seen_of 1 lx) (sym c.0) ∙ seen in absurd cc
  pointed-after a b s (inr c) seen = subst (λ a. Pointed (left_in a x) (left_in b y)) (sym c.1) (subst (λ b. Pointed (left_in (Ended (on c.0 lx)) x) (left_in b y)) (sym c.2)
      (record { at = false; frames = refl; frames_too = refl; targets = leads-same; leads = p.leads }))

pointer-similar : Similar 1 staying resolved 1 copies direct Pointed
pointer-similar = record {
  first = record { at = true; frames = refl; frames_too = refl; targets = refl; leads = refl };
  fast = λ x y p t words signals n s seen. (n, sym (seen-same t x y p n (od t x y p n) (oe t x y p n) (case-here t x y p n)) ∙ seen, pointed-after t x y p n (od t x y p n) (oe t x y p n) s (case-here t x y p n) seen);
  slow = λ x y p t words signals n s seen.
      let here : seen_of 1 (leading 1 t x) (resumed staying 1 copies n t x) ≡ Some s = seen-same t x y p n (od t x y p n) (oe t x y p n) (case-here t x y p n) ∙ seen in
      subst (λ c. (seen_of 1 (leading 1 t x) (resumed staying 1 copies c t x) ≡ Some s) × Pointed (left_in (resumed staying 1 copies c t x) x) (left_in (resumed resolved 1 direct n t y) y)) (sym (one-mul n))
      (here, pointed-after t x y p n (od t x y p n) (oe t x y p n) s (case-here t x y p n) here);
}

-- the process without statements is the same in both
rests-same : (ns : List ℕ) (ts : List Turn) (os : List Seen) (x : Middle) → Plays staying 0 rests x ns ts os → Plays resolved 0 rests x ns ts os
rests-same [] [] [] x h = tt
rests-same (n ∷ ns) (t ∷ ts) (o ∷ os) x h = (h.0, rests-same ns ts os (left_in (resumed staying 0 rests n t x) x) h.1)
rests-same ns ts os x h = absurd h

rests-back : (ns : List ℕ) (ts : List Turn) (os : List Seen) (x : Middle) → Plays resolved 0 rests x ns ts os → Plays staying 0 rests x (map (λ n. 1 * n) ns) ts os
rests-back [] [] [] x h = tt
rests-back (n ∷ ns) (t ∷ ts) (o ∷ os) x h = subst (λ c. (seen_of 0 (leading 0 t x) (resumed staying 0 rests c t x) ≡ Some o) × Plays staying 0 rests (left_in (resumed staying 0 rests c t x) x) (map (λ n. 1 * n) ns) ts os) (sym (one-mul n))
    (h.0, rests-back ns ts os (left_in (resumed resolved 0 rests n t x) x) h.1)
rests-back ns ts os x h = absurd h

-- an object in place of the pointer that leads to it
pub pointer-resolved : SameDesign 1 staying resolved
pointer-resolved = record {
  things = λ l. refl;
  ports = refl;
  fixed = λ l. refl;
  constants = λ l. refl;
  processes = (
    refl,
    record { plays = λ ns ts os a h. (ns, rests-same ns ts os (at_first staying 0 rests) h); only = λ ns ts os a h. rests-back ns ts os (at_first resolved 0 rests) h },
    (refl, means-by 1 staying resolved 1 copies direct Pointed pointer-similar, tt),
  );
}
