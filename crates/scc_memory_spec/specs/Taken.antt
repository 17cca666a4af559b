-- Arrays that can be memories: at each edge at most one element gets a new value. This project's own.
use Rattle.std.specs.Prelude.{◌≡◌, ℕ, ◌≤◌, ◌<◌, nat_eq, Bool, true, false, not, ◌&&◌, ◌||◌, List, [], ◌∷◌, ◌++◌, map, length, Option, Some, None, option_map, slice_get, unwrap_or, bytes_eq, codes, if◌then◌else◌}
use Rattle.std.specs.List.{list_all, range_with_len}
use Rattle.scc_svtree.specs.declared.module.SvModule.{SvModule}
use Rattle.scc_svtree.specs.declared.module.SvVar.{SvVar}
use Rattle.scc_svtree.specs.declared.expr.SvLeft.TheVariants.{Whole}
use Rattle.scc_svtree.specs.Term.{Term, Literal, Part}
use Rattle.scc_svtree.specs.Code.{Code, Assign}
use Rattle.scc_blocks_spec.specs.Renamed.{BlockCode, Comb, Edge, Register, ResetCode, block_code}
use Rattle.scc_memory_spec.specs.Array.{Array, IsNamed, among, is_of, width_of, with_part}
use Rattle.scc_memory_spec.specs.Uses.{Reads, Writes}

abbrev pub name_at : List SvVar → ℕ → List ℕ
name_at vars v = unwrap_or (option_map (λ x. x.name) (slice_get vars v)) []

-- a first assignment of a block: a variable takes 0, or the next value of a register the register's
abbrev pub is_start : List SvVar → ℕ → Term → Bool
is_start vars v (Literal w x) = nat_eq x 0 && nat_eq w (width_of vars v)
is_start vars v (Part (Whole u)) = bytes_eq (name_at vars v) (with_part (name_at vars u.0) (codes "n"))
is_start vars v e = false

-- the number of the element of which this is the first assignment
abbrev pub own_start : Array → ℕ → Term → List ℕ
own_start a v (Part (Whole u)) = numbers_where (range_with_len 0 (length a.elements))
  where
    is_pair : Option ℕ → Option ℕ → Bool
    is_pair (Some e) (Some n) = nat_eq e u.0 && nat_eq n v
    is_pair e n = false

    numbers_where : List ℕ → List ℕ
    numbers_where [] = []
    numbers_where (k ∷ ks) = if is_pair (slice_get a.elements k) (slice_get a.nexts k) then k ∷ numbers_where ks else numbers_where ks
own_start a v e = []

-- the elements among the first assignments, which are to different variables
abbrev pub starts : List SvVar → Array → List ℕ → Code → List ℕ
starts vars a seen (Assign (Whole v) e r) = if is_start vars v.0 e && not (among v.0 seen) then own_start a v.0 e ++ starts vars a (v.0 ∷ seen) r else []
starts vars a seen c = []

abbrev pub kept_if : List ℕ → (Code → Code) → Code → Code
kept_if [] s r = s r
kept_if (k ∷ ks) s r = r

-- the code without these first assignments
abbrev pub without_starts : List SvVar → Array → List ℕ → Code → Code
without_starts vars a seen (Assign (Whole v) e r) = if is_start vars v.0 e && not (among v.0 seen)
    then kept_if (own_start a v.0 e) (Assign (Whole v) e) (without_starts vars a (v.0 ∷ seen) r) else Assign (Whole v) e r
without_starts vars a seen c = c

-- the number of the element to which an edge gives its own next value
abbrev pub own_set : Array → Register → List ℕ
own_set a s = own_start_of s.value
  where
    is_pair : ℕ → Option ℕ → Option ℕ → Bool
    is_pair u (Some e) (Some n) = nat_eq e s.target && nat_eq n u
    is_pair u e n = false

    numbers_where : ℕ → List ℕ → List ℕ
    numbers_where u [] = []
    numbers_where u (k ∷ ks) = if is_pair u (slice_get a.elements k) (slice_get a.nexts k) then k ∷ numbers_where u ks else numbers_where u ks

    own_start_of : Term → List ℕ
    own_start_of (Part (Whole u)) = numbers_where u.0 (range_with_len 0 (length a.elements))
    own_start_of e = []

abbrev pub own_sets : Array → List Register → List ℕ
own_sets a [] = []
own_sets a (s ∷ ss) = own_set a s ++ own_sets a ss

-- What an edge sets: elements their own next values, and other variables values that read well. The flag says whether a choice by a variable stands there.
pub data SetsFit (a : Array) (width : ℕ → ℕ) : List Register → Bool → Type 0 where
  no_more : SetsFit a width [] false
  own : {s : Register} {ss : List Register} {b : Bool} → (k : ℕ) (ks : List ℕ) → own_set a s ≡ k ∷ ks → SetsFit a width ss b → SetsFit a width (s ∷ ss) b
  set_other : {s : Register} {ss : List Register} {b c : Bool} → own_set a s ≡ [] → is_of a s.target ≡ false → Reads a width None s.value b
      → SetsFit a width ss c → SetsFit a width (s ∷ ss) (b || c)

abbrev pub reset_free : Array → Option ResetCode → Bool
reset_free a None = true
reset_free a (Some r) = not (is_of a r.signal) && list_all (λ l. not (is_of a l.target)) r.values

-- How a block uses the array: the elements that it begins, those that it sets, and whether a variable chooses among them.
pub data Uses (m : SvModule) (a : Array) : BlockCode → (begun set : List ℕ) → Bool → Type 0 where
  comb : {c : Code} {b : Bool} {n : ℕ} → Writes a (width_of m.vars) (without_starts m.vars a [] c) b n → n ≤ 1 → Uses m a (Comb c) (starts m.vars a [] c) [] b
  edge : {rising : Bool} {clock : ℕ} {reset : Option ResetCode} {sets : List Register} {b : Bool} → is_of a clock ≡ false → reset_free a reset ≡ true
      → SetsFit a (width_of m.vars) sets b → Uses m a (Edge rising clock reset sets) [] (own_sets a sets) b

abbrev pub Every : ℕ → List ℕ → Type 0
Every n ks = (k : ℕ) → k < n → among k ks ≡ true

-- An array is taken: one block begins all its elements, one sets them all, and some block chooses among them by a variable.
pub record IsTaken (m : SvModule) (a : Array) : Type 0 where
  pub named : IsNamed m.vars a
  pub begun : ℕ → List ℕ
  pub set : ℕ → List ℕ
  pub chooses : ℕ → Bool
  pub uses : (k : ℕ) (b : BlockCode) → slice_get (map block_code m.blocks) k ≡ Some b → Uses m a b (begun k) (set k) (chooses k)
  pub begins_at : ℕ
  pub begins_within : begins_at < length m.blocks
  pub begins : Every (length a.elements) (begun begins_at)
  pub begins_once : (k : ℕ) → (k ≡ begins_at → ⊥) → begun k ≡ []
  pub sets_at : ℕ
  pub sets_within : sets_at < length m.blocks
  pub sets : Every (length a.elements) (set sets_at)
  pub some_at : ℕ
  pub some_within : some_at < length m.blocks
  pub some : chooses some_at ≡ true
