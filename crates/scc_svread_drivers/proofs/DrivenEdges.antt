-- What the walk asks of the targets of an edge and of what its reset loads.
use Rattle.std.proofs.Common.{◌≡◌, ◌<◌, ℕ, nat_eq, Bool, true, false, ◌||◌, if◌then◌else◌, List, [], ◌∷◌, length, map, Option, Some, None, refl, sym, ap, subst, ◌∙◌}
use Rattle.std.specs.Prelude.{option_map}
use Rattle.std.proofs.lemmas.Bool.{or_parts, or_from, or_left, or_right}
use Rattle.scc_svtree.specs.declared.module.SvVar.{SvVar}
use Rattle.scc_svtree.specs.declared.module.SvSet.{SvSet}
use Rattle.scc_svtree.specs.declared.module.SvLoad.{SvLoad}
use Rattle.scc_svtree.specs.Sound.{AreNamed, is_among, targets, load_targets, IsPartOf}
use Rattle.scc_svread_grammar.specs.declared.raw.RawSet.{RawSet}
use Rattle.scc_svread_grammar.specs.Lexical.{Bytes}
use Rattle.scc_svread_check.specs.declared.facts.Facts.{Facts}
use Rattle.scc_svread_written.specs.Written.{name_of, raw_set, raw_load}
use Rattle.scc_svread_check.specs.Mentioned.{with_name}
use Rattle.scc_svread_check.specs.Mentioned.{Names}
use Rattle.scc_svread_check.specs.Within.{mention}
use Rattle.scc_svread_check.specs.Walking.{Walking, ◌then◌}
use Rattle.scc_svread_check.specs.Drivers.{is_wrong_target, set_names, sets_names, behind, is_out_of_order, left_over, load_names, loads_names}
use Rattle.scc_svread_written.proofs.Clear.{Asks, asks_by, asks_pass, asks_name, asks_then}
use Rattle.scc_svread_drivers.proofs.NamedLists.{Tells, with_tells}
use Rattle.scc_svread_drivers.proofs.NamedExpressions.{anywhere_asks}
use Rattle.scc_svread_drivers.proofs.DrivenLists.{Kept, rest_of, is_lost, left, to_part, from_part, self_eq}
use Rattle.scc_svread_drivers.proofs.DrivenFacts.{names_eq}
use Rattle.scc_svread_drivers.proofs.DrivenBlocks.{InVars}

pub asks_none : Asks (λ w. w) (Unit {0})
asks_none = record { told = λ w c. (c, tt); kept = λ w c u. c }

infixl 10 ◌next◌
pub ◌next◌ : {p q : Walking} {P Q : Type 0} → Asks p P → Asks q Q → Asks (p then q) (P × Q)
a next b = asks_then a b

pub asks_mention : (b : Bool) (name : Bytes) → Asks (mention b name) (b ≡ false)
asks_mention b name = asks_by (λ u. u.0) (λ e. (e, tt)) (asks_name b next asks_pass _)

-- where two tests are equal, one asks what the other asks
pub said_so : {p : Walking} (a b : Bool) → a ≡ b → Asks p (a ≡ false) → Asks p (b ≡ false)
said_so a b e h = asks_by (λ s. sym e ∙ s) (λ s. e ∙ s) h

-- ---- what is left behind a target

out_is : (raw : SvSet → RawSet) (o : Option (List SvSet)) → is_out_of_order (option_map (map raw) o) ≡ is_lost o
out_is raw None = refl
out_is raw (Some us) = refl

over_is : (raw : SvSet → RawSet) (o : Option (List SvSet)) → left_over (option_map (map raw) o) ≡ map raw (left o)
over_is raw None = refl
over_is raw (Some us) = refl

rest_among : (m : ℕ) (us : List SvSet) (v : ℕ) → is_among (targets (left (rest_of m us))) v ≡ true → is_among (targets us) v ≡ true
rest_among m [] v e = e
rest_among m (u ∷ us) v e = go (nat_eq m u.target.0) e (rest_among m us v)
  where
    go : (b : Bool) → is_among (targets (left (if b then Some us else rest_of m us))) v ≡ true → (is_among (targets (left (rest_of m us))) v ≡ true → is_among (targets us) v ≡ true) → is_among (targets (u ∷ us)) v ≡ true
    go true h k = or_right (nat_eq u.target.0 v) (is_among (targets us) v) h
    go false h k = or_right (nat_eq u.target.0 v) (is_among (targets us) v) (k h)

module _ (vars : List SvVar) (named : AreNamed vars) where
  behind_is : (m : ℕ) (us : List SvSet) → m < length vars → InVars vars named (is_among (targets us)) → behind (name_of vars m) (map (raw_set vars) us) ≡ option_map (map (raw_set vars)) (rest_of m us)
  behind_is m [] h k = refl
  behind_is m (u ∷ us) h k =
      ap (λ t. if t then Some (map (raw_set vars) us) else behind (name_of vars m) (map (raw_set vars) us)) (names_eq vars named m u.target.0 h (k u.target.0 (or_left (nat_eq u.target.0 u.target.0) (is_among (targets us) u.target.0) (self_eq u.target.0))))
      ∙ go (nat_eq m u.target.0) (behind_is m us h (λ v e. k v (or_right (nat_eq u.target.0 v) (is_among (targets us) v) e)))
    where
      go : (b : Bool) → behind (name_of vars m) (map (raw_set vars) us) ≡ option_map (map (raw_set vars)) (rest_of m us)
          → (if b then Some (map (raw_set vars) us) else behind (name_of vars m) (map (raw_set vars) us)) ≡ option_map (map (raw_set vars)) (if b then Some us else rest_of m us)
      go true e = refl
      go false e = e

  module _ (f : Facts) (taken : Names) (input assigned : ℕ → Bool) (inputs : Tells vars named f.inputs input) (takes : Tells vars named taken assigned) where
    abbrev outside : ℕ → Bool
    outside v = input v || assigned v

    wrong_is : (before : Names) (q : ℕ → Bool) → Tells vars named before q → (i : ℕ) → i < length vars → is_wrong_target f taken before (name_of vars i) ≡ (outside i || q i)
    wrong_is before q t i h = let a = inputs.tells i h in let b = takes.tells i h in let c = t.tells i h in cc

    set_asks : (wrong : Bool) (u : SvSet) (n : ℕ) → Asks (set_names wrong (raw_set vars u) n) (wrong ≡ false)
    set_asks wrong u n = asks_by (λ p. p.0.0.0.1) (λ e. ((((tt, e), tt), tt), tt))
        (asks_pass n next asks_mention wrong (name_of vars u.target.0) next asks_pass 4 next anywhere_asks vars named u.value next asks_pass 2)

    pub sets_asks : (before : Names) (q : ℕ → Bool) → Tells vars named before q → (us : List SvSet) → InVars vars named (is_among (targets us)) → (n : ℕ)
        → Asks (sets_names f taken before (map (raw_set vars) us) n) (Kept outside q (targets us))
    sets_asks before q t [] k n = asks_none
    sets_asks before q t (u ∷ us) k n =
        let i : ℕ = u.target.0 in
        let h : i < length vars = k i (or_left (nat_eq i i) (is_among (targets us) i) (self_eq i)) in
        asks_then
        (said_so (is_wrong_target f taken before (name_of vars i)) (outside i || q i) (wrong_is before q t i h) (set_asks (is_wrong_target f taken before (name_of vars i)) u n))
        (sets_asks (with_name before (name_of vars i)) (λ v. q v || nat_eq i v) (with_tells vars named i h before q t) us (λ v e. k v (or_right (nat_eq i v) (is_among (targets us) v) e)) n)

    load_asks : (wrong : Bool) (l : SvLoad) (n : ℕ) → Asks (load_names wrong (raw_load vars l) n) (wrong ≡ false)
    load_asks wrong l n = asks_by (λ p. p.0.1) (λ e. ((tt, e), tt)) (asks_pass n next asks_mention wrong (name_of vars l.target.0) next asks_pass _)

    pub loads_asks : (before : Names) (q : ℕ → Bool) → Tells vars named before q → (us : List SvSet) → InVars vars named (is_among (targets us)) → (ls : List SvLoad) → InVars vars named (is_among (load_targets ls)) → (n : ℕ)
        → Asks (loads_names f taken before (map (raw_set vars) us) (map (raw_load vars) ls) n) (Kept outside q (load_targets ls) × IsPartOf (load_targets ls) (targets us))
    loads_asks before q t us k [] j n = asks_by (λ u. (tt, tt)) (λ u. tt) asks_none
    loads_asks before q t us k (l ∷ ls) j n =
        let i : ℕ = l.target.0 in
        let h : i < length vars = j i (or_left (nat_eq i i) (is_among (load_targets ls) i) (self_eq i)) in
        let found : behind (name_of vars i) (map (raw_set vars) us) ≡ option_map (map (raw_set vars)) (rest_of i us) = behind_is i us h k in
        let out : is_out_of_order (behind (name_of vars i) (map (raw_set vars) us)) ≡ is_lost (rest_of i us) = ap is_out_of_order found ∙ out_is (raw_set vars) (rest_of i us) in
        let over : left_over (behind (name_of vars i) (map (raw_set vars) us)) ≡ map (raw_set vars) (left (rest_of i us)) = ap left_over found ∙ over_is (raw_set vars) (rest_of i us) in
        let wrong : Bool = is_wrong_target f taken before (name_of vars i) || is_out_of_order (behind (name_of vars i) (map (raw_set vars) us)) in
        let is : wrong ≡ ((outside i || q i) || is_lost (rest_of i us)) = ap (λ b. b || is_out_of_order (behind (name_of vars i) (map (raw_set vars) us))) (wrong_is before q t i h) ∙ ap (λ b. (outside i || q i) || b) out in
        let more : ℕ → Bool = λ v. q v || nat_eq i v in
        let P : List RawSet → Type 0 = λ rs. Asks (loads_names f taken (with_name before (name_of vars i)) rs (map (raw_load vars) ls) n) (Kept outside more (load_targets ls) × IsPartOf (load_targets ls) (targets (left (rest_of i us)))) in
        asks_by
        (λ p. let e = or_parts (outside i || q i) (is_lost (rest_of i us)) p.0 in ((e.0, p.1.0), to_part i (load_targets ls) us (e.1, p.1.1)))
        (λ p. let e = from_part i (load_targets ls) us p.1 in (or_from (outside i || q i) (is_lost (rest_of i us)) p.0.0 e.0, (p.0.1, e.1)))
        (asks_then
        (said_so wrong ((outside i || q i) || is_lost (rest_of i us)) is (load_asks wrong l n))
        (subst P (sym over) (loads_asks (with_name before (name_of vars i)) more (with_tells vars named i h before q t) (left (rest_of i us)) (λ v e. k v (rest_among i us v e)) ls (λ v e. j v (or_right (nat_eq i v) (is_among (load_targets ls) v) e)) n)))
