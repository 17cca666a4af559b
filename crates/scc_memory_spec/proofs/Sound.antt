-- The module whose ports write a memory is right; with a name that is declared twice it isn't.
use Rattle.std.proofs.Common.{◌≡◌, ◌≢◌, ◌⊎◌, inl, inr, ◌<◌, ◌≤◌, ℕ, zero, suc, nat_eq, Bool, true, false, not, ◌||◌, List, [], ◌∷◌, map, length, Option, Some, None, is_some, slice_get, refl, sym, ap, ◌∙◌, subst, true≢false, arith}
use Rattle.std.proofs.lemmas.Bool.Decides.{eqb_tells}
use Rattle.scc_svtree.specs.declared.module.Dir.{Dir}
use Rattle.scc_svtree.specs.declared.module.Dir.TheVariants as dir
use Rattle.scc_svtree.specs.Mentions.{assigns}
use Rattle.scc_svtree.specs.Settled.{Order, block_at}
use Rattle.scc_svtree.specs.Steps.{input_at}
use Rattle.scc_svtree.specs.Variables.{IsWidth, width_at}
use Rattle.scc_svtree.specs.Sound.{Each, PortsFirst, AreNamed, is_among}
use Rattle.scc_blocks_spec.specs.Renamed.{BlockCode}
use Rattle.scc_memory_spec.specs.Memory.{MemBlock, combs_of}
use Rattle.scc_memory_spec.specs.Likened.{code_like}
use Rattle.scc_memory_spec.specs.Sound.{IsSoundMemory, IsSoundPart, IsSizedBlock, IsFreshBlock, IsSoundEdge, AreMemoriesNamed, blocks_like, block_reads, block_assigns, starts_with, written}
use Rattle.scc_memory_spec.specs.WorkedSound.{port_vars, kept, twice}

none : {A : Type 0} → false ≡ true → A
none e = absurd (true≢false (sym e))

tells : (n v : ℕ) → ((nat_eq n v ≡ true) × (n ≡ v)) ⊎ ((nat_eq n v ≡ false) × (n ≢ v))
tells n v = eqb_tells n v

is_equal : (n v : ℕ) → nat_eq n v ≡ true → n ≡ v
is_equal n v e = by (tells n v)
  where
    by : ((nat_eq n v ≡ true) × (n ≡ v)) ⊎ ((nat_eq n v ≡ false) × (n ≢ v)) → n ≡ v
    by (inl t) = t.1
    by (inr t) = absurd (true≢false (sym e ∙ t.0))

-- ---- names and ports

abbrev head : List ℕ → ℕ
head [] = 0
head (b ∷ bs) = b

apart : {a b : List ℕ} → nat_eq (head a) (head a) ≡ true → nat_eq (head b) (head a) ≡ false → a ≢ b
apart {a} {b} same other e = true≢false (sym same ∙ ap (λ n. nat_eq (head n) (head a)) e ∙ other)

names : AreNamed port_vars
names = (
  refl,
  (apart refl refl, (apart refl refl, (apart refl refl, (apart refl refl, (apart refl refl, tt))))),
  (
    refl,
    (apart refl refl, (apart refl refl, (apart refl refl, (apart refl refl, tt)))),
    (
      refl,
      (apart refl refl, (apart refl refl, (apart refl refl, tt))),
      (
        refl,
        (apart refl refl, (apart refl refl, tt)),
        (
          refl,
          (apart refl refl, tt),
          (refl, tt, tt),
        ),
      ),
    ),
  ),
)

memory_named : AreMemoriesNamed port_vars kept.memories
memory_named = (refl, (apart refl refl, (apart refl refl, (apart refl refl, (apart refl refl, (apart refl refl, (apart refl refl, tt)))))), tt, tt)

abbrev is_inner : Dir → Bool
is_inner dir.Inner = true
is_inner d = false

no_inner : {A : Type 0} (d : Dir) → is_inner d ≡ false → d ≡ dir.Inner → A
no_inner d e i = none (sym e ∙ ap is_inner i)

ports : PortsFirst port_vars
ports = (no_inner dir.Input refl, (no_inner dir.Input refl, (no_inner dir.Input refl, (no_inner dir.Input refl, (no_inner dir.Input refl, (no_inner dir.Output refl, tt))))))

-- ---- sizes

wide : (w : ℕ) → 1 ≤ w → w ≤ 128 → IsWidth w
wide w a b = (a, b)

one : IsWidth 1
one = wide 1 (omega arith) (omega arith)

two : IsWidth 2
two = wide 2 (omega arith) (omega arith)

four : IsWidth 4
four = wide 4 (omega arith) (omega arith)

widths : Each (λ v. IsWidth v.width) port_vars
widths = (one, (one, (two, (four, (two, (four, tt))))))

sizes : Each (IsSizedBlock (width_at port_vars)) (blocks_like kept)
sizes = ((four, (two, (four, omega arith), (four, omega arith)), tt), ((tt, tt), tt))

part : Each (IsSoundPart port_vars) kept.memories
part = (record { width = four; size = omega arith; declared = (omega arith, (omega arith, (omega arith, tt))); value = refl }, tt)

-- ---- what the blocks mention and assign

declared : (v : ℕ) → Each (λ b. (block_reads b v || (block_assigns b v || starts_with b v)) ≡ true → v < length port_vars) (blocks_like kept)
declared v = (λ e. below_comb (comb (nat_eq 4 v) (nat_eq 5 v) e), (λ e. below 0 (is_equal 0 v (edge (nat_eq 0 v) e)) (omega arith), tt))
  where
    comb : (a b : Bool) → (((a || (false || false)) || false) || ((b || false) || false)) ≡ true → (a ≡ true) ⊎ (b ≡ true)
    comb true b e = inl refl
    comb false true e = inr refl
    comb false false e = none e

    edge : (a : Bool) → (false || ((false || false) || (a || false))) ≡ true → a ≡ true
    edge true e = refl
    edge false e = e

    below : (n : ℕ) → n ≡ v → n < 6 → v < 6
    below n e h = omega (arith, e, h)

    below_comb : (nat_eq 4 v ≡ true) ⊎ (nat_eq 5 v ≡ true) → v < 6
    below_comb (inl e) = below 4 (is_equal 4 v e) (omega arith)
    below_comb (inr e) = below 5 (is_equal 5 v e) (omega arith)

inputs : (v : ℕ) → input_at port_vars v ≡ true → Each (λ b. block_assigns b v ≡ false) (blocks_like kept)
inputs v e = (by (tells 5 v), (refl, tt))
  where
    by : ((nat_eq 5 v ≡ true) × (5 ≡ v)) ⊎ ((nat_eq 5 v ≡ false) × (5 ≢ v)) → (nat_eq 5 v || false) ≡ false
    by (inl t) = none (ap (input_at port_vars) t.1 ∙ e)
    by (inr t) = ap (λ b. b || false) t.0

-- what a block of that number assigns, if there is one
abbrev assigned : ℕ → Option BlockCode → Bool
assigned v None = false
assigned v (Some b) = block_assigns b v

drivers : (j k v : ℕ) (a b : BlockCode) → slice_get (blocks_like kept) j ≡ Some a → slice_get (blocks_like kept) k ≡ Some b → block_assigns a v ≡ true → block_assigns b v ≡ true → j ≡ k
drivers zero zero v a b d e g h = refl
drivers zero (suc zero) v a b d e g h = none (ap (assigned v) e ∙ h)
drivers zero (suc (suc k)) v a b d e g h = none (ap is_some e)
drivers (suc zero) k v a b d e g h = none (ap (assigned v) d ∙ g)
drivers (suc (suc j)) k v a b d e g h = none (ap is_some d)

driven : (v : ℕ) → v < length port_vars → input_at port_vars v ≡ false → (k : ℕ) × (b : BlockCode) × (slice_get (blocks_like kept) k ≡ Some b) × (block_assigns b v ≡ true)
driven zero h e = absurd (true≢false e)
driven (suc zero) h e = absurd (true≢false e)
driven (suc (suc zero)) h e = absurd (true≢false e)
driven (suc (suc (suc zero))) h e = absurd (true≢false e)
driven (suc (suc (suc (suc zero)))) h e = absurd (true≢false e)
driven (suc (suc (suc (suc (suc zero))))) h e = (0, _, refl, refl)
driven (suc (suc (suc (suc (suc (suc v)))))) h e = absurd (omega (arith, h))

fresh : Each IsFreshBlock (blocks_like kept)
fresh = ((ready, λ v e. none e, tt), (tt, tt))
  where
    index : (v : ℕ) (a : Bool) → nat_eq 4 v ≡ a → (a || (false || false)) ≡ true → not (nat_eq 5 v || false) ≡ true
    index v true p e = subst (λ u. not (nat_eq 5 u || false) ≡ true) (is_equal 4 v p) refl
    index v false p e = none e

    ready : (v : ℕ) → (nat_eq 4 v || (false || false)) ≡ true → not (nat_eq 5 v || false) ≡ true
    ready v e = index v (nat_eq 4 v) refl e

edges : Each (IsSoundEdge kept) (blocks_like kept)
edges = (tt, (((refl, refl), (refl, (refl, tt)), (refl, (refl, tt)), tt), tt))

-- ---- memories, clocks, order

abbrev writes_at : Option MemBlock → Bool
writes_at None = false
writes_at (Some b) = is_among (written b) 0

writer : (k : ℕ) → k < length kept.memories → (j : ℕ) × ((i : ℕ) (b : MemBlock) → slice_get kept.blocks i ≡ Some b → is_among (written b) k ≡ nat_eq i j) × (j < length kept.blocks)
writer zero h = (1, at, omega arith)
  where
    at : (i : ℕ) (b : MemBlock) → slice_get kept.blocks i ≡ Some b → is_among (written b) 0 ≡ nat_eq i 1
    at zero b e = sym (ap writes_at e)
    at (suc zero) b e = sym (ap writes_at e)
    at (suc (suc i)) b e = none (ap is_some e)
writer (suc k) h = absurd (omega (arith, h))

abbrev assigns_at : ℕ → ℕ → Bool
assigns_at j v = assigns (block_at (map (code_like kept.memories) (combs_of kept.blocks)) j) v

order : Order (map (code_like kept.memories) (combs_of kept.blocks))
order = record { rank = λ k. 0; below = λ k h. omega arith; ordered = λ j k v h g a r b. only j k v h g a b }
  where
    only : (j k v : ℕ) → j < 1 → k < 1 → assigns_at j v ≡ true → assigns_at k v ≡ false → 0 < 0
    only zero zero v h g a b = absurd (true≢false (sym a ∙ b))
    only zero (suc k) v h g a b = absurd (omega (arith, g))
    only (suc j) k v h g a b = absurd (omega (arith, h))

pub ports_keep_a_memory : IsSoundMemory kept
ports_keep_a_memory = record {
  name = refl;
  ports = ports;
  widths = widths;
  sizes = sizes;
  names = names;
  declared = declared;
  memories = memory_named;
  parts = part;
  in_order = (tt, tt);
  one_writer = writer;
  written_once = (tt, ((tt, tt), tt));
  inputs_kept = inputs;
  one_driver = drivers;
  driven = driven;
  fresh = fresh;
  edges = edges;
  one_clock = (tt, ((tt, ((refl, refl), tt)), tt));
  order = order;
}

pub names_are_declared_once : IsSoundMemory twice → ⊥
names_are_declared_once s = s.memories.1.1.1.1.1.1.0 refl
