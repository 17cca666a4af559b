-- The facts of a module as it is written: which of its variables are inputs, and which of these have one bit.
use Rattle.std.proofs.Common.{◌≡◌, ◌≢◌, ◌<◌, ◌-◌, ℕ, zero, suc, nat_eq, nat_le, Bool, true, false, ◌||◌, ◌&&◌, if◌then◌else◌, List, [], ◌∷◌, ◌++◌, length, map, decimal, Some, None, refl, sym, ap, ◌∙◌, arith, eq-eqb, ne_eqb}
use Rattle.std.specs.Prelude.{bytes_eq}
use Rattle.std.specs.List.{list_any}
use Rattle.std.proofs.lemmas.List.Folds.{list_any-append}
use Rattle.std.proofs.lemmas.Slice.Eq.{bytes_eq-Decides}
use Rattle.std.proofs.Math.Bool.{or_assoc, or-false}
use Rattle.std.proofs.lemmas.Bool.{or_left, eqb-true, eqb-false, leb-true, leb-false}
use Rattle.scc_svtree.specs.declared.module.SvVar.{SvVar}
use Rattle.scc_svtree.specs.declared.module.Dir.{Dir}
use Rattle.scc_svtree.specs.declared.module.Dir.TheVariants.{Input, Output, Inner}
use Rattle.scc_svtree.specs.Variables.{width_at, IsWidth}
use Rattle.scc_svtree.specs.Steps.{input_at}
use Rattle.scc_svtree.specs.Sound.{Each, IsNotNamed, AreNamed}
use Rattle.scc_svtext.specs.ModuleText.{is_port}
use Rattle.scc_svread_grammar.specs.declared.raw.RawVar.{RawVar}
use Rattle.scc_svread_grammar.specs.Lexical.{Bytes}
use Rattle.scc_svread_written.specs.Written.{name_of, raw_high, raw_var, raw_ports}
use Rattle.scc_svread_check.specs.Mentioned.{with_name}
use Rattle.scc_svread_written.specs.Resolved.{number_of}
use Rattle.scc_svread_check.specs.Scope.{number_in, high_in, high_of}
use Rattle.scc_svread_check.specs.Mentioned.{Names, is_among, each}
use Rattle.scc_svread_check.specs.Drivers.{is_input, with_name_if, input_of, level_of}
use Rattle.scc_svread_written.proofs.Decimals.{number_decimal}
use Rattle.scc_svread_written.proofs.Leaves.{bare_names, same_bytes, other_bytes, number_at}
use Rattle.scc_svread_drivers.proofs.NamedLists.{Tells}

-- ---- a further name

among_with : (ns : Names) (n x : Bytes) → is_among (with_name ns n) x ≡ (is_among ns x || bytes_eq x n)
among_with ns n x = go (is_among ns n) refl (bytes_eq x n) refl
  where
    go : (b : Bool) → is_among ns n ≡ b → (c : Bool) → bytes_eq x n ≡ c → is_among (if b then ns else ns ++ n ∷ []) x ≡ (is_among ns x || bytes_eq x n)
    go true e true f =
        let h : is_among ns x ≡ true = ap (is_among ns) ((bytes_eq-Decides x n).0 f) ∙ e in
        h ∙ sym (or_left (is_among ns x) (bytes_eq x n) h)
    go true e false f = sym (or-false (is_among ns x)) ∙ ap (λ t. is_among ns x || t) (sym f)
    go false e c f = list_any-append (bytes_eq x) ns (n ∷ []) ∙ ap (λ t. is_among ns x || t) (or-false (bytes_eq x n))

among_if : (b : Bool) (ns : Names) (n x : Bytes) → is_among (with_name_if b n ns) x ≡ (is_among ns x || (b && bytes_eq x n))
among_if true ns n x = among_with ns n x
among_if false ns n x = sym (or-false (is_among ns x))

-- ---- what is said of ports

module _ (c : RawVar → Bool) (only : (v : SvVar) → is_port v.dir ≡ false → c (raw_var v) ≡ false) where
  ports_among : (vs : List SvVar) (ns : Names) (x : Bytes) → is_among (each (map (λ v. with_name_if (c v) v.name) (raw_ports vs)) ns) x ≡ (is_among ns x || list_any (λ v. c (raw_var v) && bytes_eq x v.name) vs)
  ports_among [] ns x = sym (or-false (is_among ns x))
  ports_among (v ∷ vs) ns x = go (is_port v.dir) refl (ports_among vs)
    where
      go : (b : Bool) → is_port v.dir ≡ b → ((ns : Names) (x : Bytes) → is_among (each (map (λ v. with_name_if (c v) v.name) (raw_ports vs)) ns) x ≡ (is_among ns x || list_any (λ v. c (raw_var v) && bytes_eq x v.name) vs))
          → is_among (each (map (λ v. with_name_if (c v) v.name) (if b then raw_var v ∷ raw_ports vs else raw_ports vs)) ns) x
          ≡ (is_among ns x || ((c (raw_var v) && bytes_eq x v.name) || list_any (λ v. c (raw_var v) && bytes_eq x v.name) vs))
      go true e k =
          k (with_name_if (c (raw_var v)) v.name ns) x ∙ ap (λ t. t || list_any (λ v. c (raw_var v) && bytes_eq x v.name) vs) (among_if (c (raw_var v)) ns v.name x)
          ∙ or_assoc (is_among ns x) (c (raw_var v) && bytes_eq x v.name) (list_any (λ v. c (raw_var v) && bytes_eq x v.name) vs)
      go false e k = k ns x ∙ ap (λ t. is_among ns x || ((t && bytes_eq x v.name) || list_any (λ v. c (raw_var v) && bytes_eq x v.name) vs)) (sym (only v e))

-- a test of a variable by its number
abbrev test_at : (SvVar → Bool) → List SvVar → ℕ → Bool
test_at p [] i = false
test_at p (v ∷ vs) zero = p v
test_at p (v ∷ vs) (suc i) = test_at p vs i

none_named : (p : SvVar → Bool) (name : Bytes) (vs : List SvVar) → IsNotNamed name vs → list_any (λ v. p v && bytes_eq name v.name) vs ≡ false
none_named p name [] h = refl
none_named p name (v ∷ vs) h = ap (λ t. (p v && t) || list_any (λ v. p v && bytes_eq name v.name) vs) (other_bytes name v.name h.0) ∙ ap (λ t. (p v && false) || t) (none_named p name vs h.1) ∙ go (p v)
  where
    go : (b : Bool) → ((b && false) || false) ≡ false
    go true = refl
    go false = refl

other_at : (name : Bytes) (vs : List SvVar) (i : ℕ) → IsNotNamed name vs → i < length vs → name_of vs i ≢ name
other_at name [] i h l = absurd (omega arith)
other_at name (v ∷ vs) zero h l = λ e. h.0 (sym e)
other_at name (v ∷ vs) (suc i) h l = other_at name vs i h.1 (omega arith)

by_name : (p : SvVar → Bool) (vs : List SvVar) (i : ℕ) → AreNamed vs → i < length vs → list_any (λ v. p v && bytes_eq (name_of vs i) v.name) vs ≡ test_at p vs i
by_name p [] i a l = absurd (omega arith)
by_name p (v ∷ vs) zero a l =
    ap (λ t. (p v && t) || list_any (λ u. p u && bytes_eq v.name u.name) vs) (same_bytes v.name) ∙ ap (λ t. (p v && true) || t) (none_named p v.name vs a.1) ∙ go (p v)
  where
    go : (b : Bool) → ((b && true) || false) ≡ b
    go true = refl
    go false = refl
by_name p (v ∷ vs) (suc i) a l =
    ap (λ t. (p v && t) || list_any (λ u. p u && bytes_eq (name_of vs i) u.name) vs) (other_bytes (name_of vs i) v.name (other_at v.name vs i a.1 (omega arith)))
    ∙ go (p v) (list_any (λ u. p u && bytes_eq (name_of vs i) u.name) vs) ∙ by_name p vs i a.2 (omega arith)
  where
    go : (b t : Bool) → ((b && false) || t) ≡ t
    go true t = refl
    go false t = refl

inner_no_input : (d : Dir) → is_port d ≡ false → is_input d ≡ false
inner_no_input Input e = cc
inner_no_input Output e = refl
inner_no_input Inner e = refl

pub input_top : (v : SvVar) (vs : List SvVar) → is_input v.dir ≡ input_at (v ∷ vs) 0
input_top v vs = go v.dir refl
  where
    go : (d : Dir) → v.dir ≡ d → is_input v.dir ≡ input_at (v ∷ vs) 0
    go Input e = rw e refl
    go Output e = rw e refl
    go Inner e = rw e refl

input_is : (vs : List SvVar) (i : ℕ) → i < length vs → test_at (λ v. is_input v.dir) vs i ≡ input_at vs i
input_is [] i l = absurd (omega arith)
input_is (v ∷ vs) zero l = input_top v vs
input_is (v ∷ vs) (suc i) l = input_is vs i (omega arith)

-- one bit has no range
one_bit : (w : ℕ) → IsWidth w → nat_eq (high_in (raw_high w)) 0 ≡ nat_eq w 1
one_bit w h = go (nat_le w 1) refl
  where
    go : (b : Bool) → nat_le w 1 ≡ b → nat_eq (high_in (if b then None else Some (decimal (w - 1)))) 0 ≡ nat_eq w 1
    go true e = let l = leb-true w 1 e in sym (eq-eqb w 1 (omega (arith, h.0, l)))
    go false e =
        let l = leb-false w 1 e in
        let n = number_decimal (w - 1) (omega (arith, h.1)) in
        ne_eqb (number_in (decimal (w - 1))) 0 (λ s. omega (arith, s, n, l, h.1)) ∙ sym (ne_eqb w 1 (λ s. omega (arith, s, l)))

level_is : (vs : List SvVar) (i : ℕ) → Each (λ v. IsWidth v.width) vs → i < length vs → test_at (λ v. is_input v.dir && nat_eq (high_in (raw_high v.width)) 0) vs i ≡ (input_at vs i && nat_eq (width_at vs i) 1)
level_is [] i h l = absurd (omega arith)
level_is (v ∷ vs) zero h l = ap (λ t. t && nat_eq (high_in (raw_high v.width)) 0) (input_is (v ∷ vs) zero l) ∙ ap (λ t. input_at (v ∷ vs) 0 && t) (one_bit v.width h.0)
level_is (v ∷ vs) (suc i) h l = level_is vs i h.1 (omega arith)

module _ (vars : List SvVar) (named : AreNamed vars) where
  pub names_eq : (i j : ℕ) → i < length vars → j < length vars → bytes_eq (name_of vars i) (name_of vars j) ≡ nat_eq i j
  names_eq i j h k = go (nat_eq i j) refl
    where
      go : (b : Bool) → nat_eq i j ≡ b → bytes_eq (name_of vars i) (name_of vars j) ≡ b
      go true e = ap (λ n. bytes_eq (name_of vars i) (name_of vars n)) (sym (eqb-true i j e)) ∙ same_bytes (name_of vars i)
      go false e = other_bytes (name_of vars i) (name_of vars j) (λ s. eqb-false i j e (sym (number_at vars i named h) ∙ ap (number_of (bare_names vars)) s ∙ number_at vars j named k))

  pub tells_by : (ns : Names) (q r : ℕ → Bool) → ((v : ℕ) → q v ≡ r v) → Tells vars named ns q → Tells vars named ns r
  tells_by ns q r e t = record { tells = λ i h. t.tells i h ∙ e i }

  pub inputs_tell : Tells vars named (each (map input_of (raw_ports vars)) []) (input_at vars)
  inputs_tell = record { tells = λ i h. ports_among (λ v. is_input v.dir) (λ v e. inner_no_input v.dir e) vars [] (name_of vars i) ∙ by_name (λ v. is_input v.dir) vars i named h ∙ input_is vars i h }

  pub levels_tell : Each (λ v. IsWidth v.width) vars → Tells vars named (each (map level_of (raw_ports vars)) []) (λ v. input_at vars v && nat_eq (width_at vars v) 1)
  levels_tell w = record {
    tells = λ i h.
        ports_among (λ v. is_input v.dir && nat_eq (high_of v) 0) (λ v e. ap (λ t. t && nat_eq (high_of (raw_var v)) 0) (inner_no_input v.dir e)) vars [] (name_of vars i)
        ∙ by_name (λ v. is_input v.dir && nat_eq (high_of (raw_var v)) 0) vars i named h ∙ level_is vars i w h;
  }
