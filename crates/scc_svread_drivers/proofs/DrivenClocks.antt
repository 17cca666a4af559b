-- Clocks: each block agrees with those before it exactly where all agree with each other.
use Rattle.std.proofs.Common.{◌≡◌, ℕ, nat_eq, Bool, true, false, not, ◌||◌, ◌&&◌, List, [], ◌∷◌, inl, inr, refl, sym, ap, subst, ◌∙◌, eq-eqb, ne_eqb}
use Rattle.std.specs.List.{list_any}
use Rattle.std.proofs.lemmas.Bool.{or_parts, or_from, or_cases, and_parts, and_from, not-false, eqb-true}
use Rattle.scc_svtree.specs.declared.module.SvBlock.{SvBlock}
use Rattle.scc_svtree.specs.declared.module.SvBlock.TheVariants.{Comb, Edge}
use Rattle.scc_svtree.specs.Steps.{is_clock}
use Rattle.scc_svtree.specs.Sound.{Each, AgreesWith, AgreeOnClock}
use Rattle.scc_svread_check.specs.Drivers.{same}
use Rattle.scc_svread_drivers.proofs.DrivenLists.{not_both}

pub each_to : {A : Type 0} {P Q : A → Type 0} → ((x : A) → P x → Q x) → (xs : List A) → Each P xs → Each Q xs
each_to f [] h = tt
each_to f (x ∷ xs) h = (f x h.0, each_to f xs h.1)

each_zip : {A : Type 0} (P Q : A → Type 0) (xs : List A) → Each P xs → Each Q xs → Each (λ x. P x × Q x) xs
each_zip P Q [] h k = tt
each_zip P Q (x ∷ xs) h k = ((h.0, k.0), each_zip P Q xs h.1 k.1)

pub each_where : {A : Type 0} {P : A → Type 0} → ((x : A) → P x) → (xs : List A) → Each P xs
each_where f [] = tt
each_where f (x ∷ xs) = (f x, each_where f xs)

-- whether it holds of some block
abbrev pub any : (SvBlock → ℕ → Bool) → List SvBlock → ℕ → Bool
any f bs v = list_any (λ b. f b v) bs

-- ---- two blocks

abbrev pub Agrees : Bool → SvBlock → SvBlock → Type 0
Agrees many (Comb ss) c = Unit {0}
Agrees many (Edge rising clock reset sets) c = AgreesWith many rising clock.0 c

agrees_self : (many : Bool) (b : SvBlock) → Agrees many b b
agrees_self many (Comb ss) = tt
agrees_self false (Edge rising clock reset sets) = (refl, refl)
agrees_self true (Edge rising clock reset sets) = λ e. refl

agrees_back : (many : Bool) (b c : SvBlock) → Agrees many b c → Agrees many c b
agrees_back many (Comb ss) (Comb ts) h = tt
agrees_back many (Comb ss) (Edge rising clock reset sets) h = tt
agrees_back many (Edge rising clock reset sets) (Comb ss) h = tt
agrees_back false (Edge rising clock reset sets) (Edge up other last us) h = (sym h.0, sym h.1)
agrees_back true (Edge rising clock reset sets) (Edge up other last us) h = λ e. sym (h (sym e))

agree_on : (many : Bool) (b : SvBlock) (bs : List SvBlock) → Each (Agrees many b) bs → AgreeOnClock many b bs
agree_on many (Comb ss) bs h = tt
agree_on many (Edge rising clock reset sets) bs h = h

on_clock : (many : Bool) (b : SvBlock) (bs : List SvBlock) → AgreeOnClock many b bs → Each (Agrees many b) bs
on_clock many (Comb ss) bs h = each_where (λ c. tt) bs
on_clock many (Edge rising clock reset sets) bs h = h

-- ---- all, and one after the other

abbrev pub AllAgree : Bool → List SvBlock → Type 0
AllAgree many bs = Each (λ b. Each (Agrees many b) bs) bs

-- each of the second list agrees with those before it, of which the last stand first
abbrev pub Following : Bool → List SvBlock → List SvBlock → Type 0
Following many before [] = Unit {0}
Following many before (b ∷ bs) = Each (Agrees many b) before × Following many (b ∷ before) bs

pub all_more : (many : Bool) (b : SvBlock) (bs : List SvBlock) → Each (Agrees many b) bs → AllAgree many bs → AllAgree many (b ∷ bs)
all_more many b bs h a = ((agrees_self many b, h), each_zip _ _ bs (each_to (λ c k. agrees_back many b c k) bs h) a)

following_before : (many : Bool) (before bs : List SvBlock) → Following many before bs → Each (λ b. Each (Agrees many b) before) bs
following_before many before [] f = tt
following_before many before (b ∷ bs) f = (f.0, each_to (λ c h. h.1) bs (following_before many (b ∷ before) bs f.1))

following_all : (many : Bool) (before bs : List SvBlock) → Following many before bs → AllAgree many bs
following_all many before [] f = tt
following_all many before (b ∷ bs) f = all_more many b bs (each_to (λ c h. agrees_back many c b h.0) bs (following_before many (b ∷ before) bs f.1)) (following_all many (b ∷ before) bs f.1)

all_following : (many : Bool) (before bs : List SvBlock) → Each (λ b. Each (Agrees many b) before) bs → AllAgree many bs → Following many before bs
all_following many before [] h a = tt
all_following many before (b ∷ bs) h a = (h.0, all_following many (b ∷ before) bs (each_zip _ _ bs (each_to (λ c k. k.0) bs a.1) h.1) (each_to (λ c k. k.1) bs a.1))

-- all agree on their clock
pub one_clock_of : (many : Bool) (bs : List SvBlock) → Following many [] bs → Each (λ b. AgreeOnClock many b bs) bs
one_clock_of many bs f = each_to (λ b h. agree_on many b bs h) bs (following_all many [] bs f)

pub following_of : (many : Bool) (bs : List SvBlock) → Each (λ b. AgreeOnClock many b bs) bs → Following many [] bs
following_of many bs h = all_following many [] bs (each_where (λ b. tt) bs) (each_to (λ b k. on_clock many b bs k) bs h)

-- ---- the test of a clock against the blocks before

-- it is the clock of the block, at this edge
abbrev pub clock_up : Bool → SvBlock → ℕ → Bool
clock_up up (Comb ss) v = false
clock_up up (Edge rising clock reset sets) v = same up rising && nat_eq clock.0 v

abbrev pub is_edge : SvBlock → Bool
is_edge (Comb ss) = false
is_edge (Edge rising clock reset sets) = true

abbrev pub other_clock : Bool → List SvBlock → Bool → ℕ → Bool
other_clock true before rising v = any (clock_up (not rising)) before v
other_clock false before rising v = list_any is_edge before && not (any (clock_up rising) before v)

one_edge : (rising up : Bool) (clock other : ℕ) → (same (not rising) up && nat_eq other clock) ≡ false → other ≡ clock → up ≡ rising
one_edge true true clock other h e = refl
one_edge true false clock other h e = not_both (nat_eq other clock) (eq-eqb other clock e) h
one_edge false true clock other h e = not_both (nat_eq other clock) (eq-eqb other clock e) h
one_edge false false clock other h e = refl

no_other_edge : (rising up : Bool) (clock other : ℕ) → (other ≡ clock → up ≡ rising) → (same (not rising) up && nat_eq other clock) ≡ false
no_other_edge true true clock other h = refl
no_other_edge true false clock other h = ne_eqb other clock (λ e. let f : false ≡ true = h e in cc)
no_other_edge false true clock other h = ne_eqb other clock (λ e. let f : true ≡ false = h e in cc)
no_other_edge false false clock other h = refl

same_self : (rising : Bool) → same rising rising ≡ true
same_self true = refl
same_self false = refl

same_is : (rising up : Bool) → same rising up ≡ true → up ≡ rising
same_is true up h = h
same_is false true h = cc
same_is false false h = refl

module _ (rising : Bool) (clock : ℕ) where
  agrees_many : (bs : List SvBlock) → any (clock_up (not rising)) bs clock ≡ false → Each (AgreesWith true rising clock) bs
  agrees_many [] h = tt
  agrees_many (Comb ss ∷ bs) h = (tt, agrees_many bs h)
  agrees_many (Edge up other reset sets ∷ bs) h =
      let p = or_parts (same (not rising) up && nat_eq other.0 clock) (any (clock_up (not rising)) bs clock) h in
      (one_edge rising up clock other.0 p.0, agrees_many bs p.1)

  many_agrees : (bs : List SvBlock) → Each (AgreesWith true rising clock) bs → any (clock_up (not rising)) bs clock ≡ false
  many_agrees [] h = refl
  many_agrees (Comb ss ∷ bs) h = many_agrees bs h.1
  many_agrees (Edge up other reset sets ∷ bs) h =
      or_from (same (not rising) up && nat_eq other.0 clock) (any (clock_up (not rising)) bs clock) (no_other_edge rising up clock other.0 h.0) (many_agrees bs h.1)

  no_edges : (bs : List SvBlock) → list_any is_edge bs ≡ false → Each (AgreesWith false rising clock) bs
  no_edges [] h = tt
  no_edges (Comb ss ∷ bs) h = (tt, no_edges bs h)
  no_edges (Edge up other reset sets ∷ bs) h = cc

  -- a block of this clock and edge agrees with all, so the clock does
  by_one : (all bs : List SvBlock) → any (clock_up rising) bs clock ≡ true → Each (λ b. Each (Agrees false b) all) bs → Each (AgreesWith false rising clock) all
  by_one all [] h a = cc
  by_one all (Comb ss ∷ bs) h a = by_one all bs h a.1
  by_one all (Edge up other reset sets ∷ bs) h a = elim (or_cases (same rising up && nat_eq other.0 clock) (any (clock_up rising) bs clock) h) [
    | inl e ↦
        let p = and_parts (same rising up) (nat_eq other.0 clock) e in
        subst (λ (r : Bool). Each (AgreesWith false r clock) all) (same_is rising up p.0) (subst (λ (n : ℕ). Each (AgreesWith false up n) all) (eqb-true other.0 clock p.1) a.0)
    | inr r ↦ by_one all bs r a.1
  ]

  agrees_one : (bs : List SvBlock) → (list_any is_edge bs && not (any (clock_up rising) bs clock)) ≡ false → AllAgree false bs → Each (AgreesWith false rising clock) bs
  agrees_one bs h a = go (list_any is_edge bs) refl h
    where
      go : (b : Bool) → list_any is_edge bs ≡ b → (b && not (any (clock_up rising) bs clock)) ≡ false → Each (AgreesWith false rising clock) bs
      go false e k = no_edges bs e
      go true e k = by_one bs bs (not-false (any (clock_up rising) bs clock) k) a

  one_agrees : (bs : List SvBlock) → Each (AgreesWith false rising clock) bs → (list_any is_edge bs && not (any (clock_up rising) bs clock)) ≡ false
  one_agrees [] h = refl
  one_agrees (Comb ss ∷ bs) h = one_agrees bs h.1
  one_agrees (Edge up other reset sets ∷ bs) h =
      let e : same rising up ≡ true = ap (λ r. same rising r) h.0.0 ∙ same_self rising in
      ap (λ b. not (b || any (clock_up rising) bs clock)) (and_from (same rising up) (nat_eq other.0 clock) e (eq-eqb other.0 clock h.0.1))

pub agrees_of : (many rising : Bool) (clock : ℕ) (bs : List SvBlock) → AllAgree many bs → other_clock many bs rising clock ≡ false → Each (AgreesWith many rising clock) bs
agrees_of true rising clock bs a h = agrees_many rising clock bs h
agrees_of false rising clock bs a h = agrees_one rising clock bs h a

pub of_agrees : (many rising : Bool) (clock : ℕ) (bs : List SvBlock) → Each (AgreesWith many rising clock) bs → other_clock many bs rising clock ≡ false
of_agrees true rising clock bs h = many_agrees rising clock bs h
of_agrees false rising clock bs h = one_agrees rising clock bs h

-- ---- clocks of some block

abbrev pub clock_of : SvBlock → ℕ → Bool
clock_of (Comb ss) v = false
clock_of (Edge rising clock reset sets) v = nat_eq clock.0 v

pub any_clock : (bs : List SvBlock) (v : ℕ) → any clock_of bs v ≡ is_clock bs v
any_clock [] v = refl
any_clock (Comb ss ∷ bs) v = any_clock bs v
any_clock (Edge rising clock reset sets ∷ bs) v = ap (λ b. nat_eq clock.0 v || b) (any_clock bs v)

-- with one clock for all blocks, what is not this one is none
no_clock : (rising : Bool) (clock v : ℕ) (bs : List SvBlock) → Each (AgreesWith false rising clock) bs → nat_eq clock v ≡ false → is_clock bs v ≡ false
no_clock rising clock v [] h e = refl
no_clock rising clock v (Comb ss ∷ bs) h e = no_clock rising clock v bs h.1 e
no_clock rising clock v (Edge up other reset sets ∷ bs) h e = or_from (nat_eq other.0 v) (is_clock bs v) (ap (λ n. nat_eq n v) h.0.1 ∙ e) (no_clock rising clock v bs h.1 e)

pub none_of : (many rising : Bool) (clock v : ℕ) (bs : List SvBlock) → Each (AgreesWith many rising clock) bs → nat_eq clock v ≡ false → (many && is_clock bs v) ≡ false → is_clock bs v ≡ false
none_of true rising clock v bs h e k = k
none_of false rising clock v bs h e k = no_clock rising clock v bs h e
