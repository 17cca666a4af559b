-- The counting thread's block stands at the edge of its own clock, and at no other.
use Rattle.std.proofs.Common.{◌≡◌, inl, ℕ, zero, suc, ◌+◌, Bool, true, false, List, [], ◌∷◌, ◌++◌, map, length, length-append, Option, Some, None, is_some, slice_get, refl, sym, ap, subst, true≢false, arith}
use Rattle.scc_svtree.specs.declared.module.SvBlock.{SvBlock}
use Rattle.scc_svtree.specs.declared.module.SvVar.{SvVar}
use Rattle.scc_svtree.specs.Sound.{block_names}
use Rattle.scc_blocks_spec.specs.Renamed.{block_code}
use Rattle.scc_blocks_spec.specs.Matches.{EdgeView, block_view, is_port}
use Rattle.scc_core_spec.specs.Program.{Process}
use Rattle.scc_core_spec.specs.Feeding.{IsOrder, done}
use Rattle.scc_core_spec.specs.WorkedRun.{counting, counting_process}
use Rattle.scc_blocks_spec.specs.Edged.{own_view}
use Rattle.scc_blocks_spec.specs.Built.{Owner, Acts, AtEdge, owners, Belongs, MayStand, InOrder}
use Rattle.scc_blocks_spec.specs.WorkedEdged.{by_number, clocked_by}

abbrev of_two : {X : Type 0} → X → Option X → X
of_two y None = y
of_two y (Some x) = x

same : {X : Type 0} {x y : X} → Some x ≡ Some y → x ≡ y
same {X} {x} {y} e = ap (of_two x) e

impossible : {A X : Type 0} {x : X} → None ≡ Some x → A
impossible e = absurd (true≢false (sym (ap is_some e)))

ordered : IsOrder counting []
ordered = done [] (λ i h. absurd (true≢false (sym h)))

belong : (k : ℕ) (o : Owner) (b : SvBlock) → slice_get (owners counting []) k ≡ Some o → slice_get (clocked_by 0).blocks k ≡ Some b → Belongs o (block_code b)
belong zero o b e h = subst (λ o. Belongs o (block_code b)) (same e) (subst (λ b. Belongs (Acts 0) (block_code b)) (same h) tt)
belong (suc zero) o b e h = subst (λ o. Belongs o (block_code b)) (same e) (subst (λ b. Belongs (AtEdge 0) (block_code b)) (same h) tt)
belong (suc (suc k)) o b e h = impossible e

abbrev is_edge : Option Owner → Bool
is_edge (Some (AtEdge i)) = true
is_edge o = false

edges : (k i : ℕ) (q : Process) (b : SvBlock) → slice_get (owners counting []) k ≡ Some (AtEdge i) → slice_get counting.processes i ≡ Some q → slice_get (clocked_by 0).blocks k ≡ Some b
    → block_view (clocked_by 0) b ≡ own_view by_number counting.cells q
edges zero i q b e f h = absurd (true≢false (sym (ap is_edge e)))
edges (suc zero) zero q b e f h = subst (λ q. block_view (clocked_by 0) b ≡ own_view by_number counting.cells q) (same f)
    (subst (λ b. block_view (clocked_by 0) b ≡ own_view by_number counting.cells counting_process) (same h) refl)
edges (suc zero) (suc i) q b e f h = impossible f
edges (suc (suc k)) i q b e f h = impossible e

port : (v : ℕ) (x : SvVar) → slice_get (clocked_by 0).vars v ≡ Some x → is_port x.dir ≡ true
port zero x e = subst (λ x. is_port x.dir ≡ true) (same e) refl
port (suc zero) x e = subst (λ x. is_port x.dir ≡ true) (same e) refl
port (suc (suc zero)) x e = subst (λ x. is_port x.dir ≡ true) (same e) refl
port (suc (suc (suc v))) x e = impossible e

mention : (k v : ℕ) (o : Owner) (b : SvBlock) (x : SvVar) → slice_get (owners counting []) k ≡ Some o → slice_get (clocked_by 0).blocks k ≡ Some b
    → slice_get (clocked_by 0).vars v ≡ Some x → block_names b v ≡ true → MayStand by_number counting x o
mention zero v o b x e h g n = subst (λ o. MayStand by_number counting x o) (same e) (inl (port v x g))
mention (suc zero) v o b x e h g n = subst (λ o. MayStand by_number counting x o) (same e) (inl (port v x g))
mention (suc (suc k)) v o b x e h g n = impossible e

pub at_its_own_clock : InOrder by_number counting (clocked_by 0)
at_its_own_clock = record { order = []; ordered = ordered; as_many = refl; belong = belong; edges = edges; mention = mention }

abbrev clock_number : List EdgeView → ℕ
clock_number [] = 0
clock_number (v ∷ vs) = of_list v.clock
  where
    of_list : List ℕ → ℕ
    of_list [] = 0
    of_list (n ∷ ns) = n

pub at_no_other : InOrder by_number counting (clocked_by 1) → ⊥
at_no_other s = by s.order s.as_many s.edges
  where
    by : (order : List ℕ) → 2 ≡ length (owners counting order)
        → ((k i : ℕ) (q : Process) (b : SvBlock) → slice_get (owners counting order) k ≡ Some (AtEdge i) → slice_get counting.processes i ≡ Some q → slice_get (clocked_by 1).blocks k ≡ Some b
        → block_view (clocked_by 1) b ≡ own_view by_number counting.cells q) → ⊥
    by [] n e = omega (arith, ap clock_number (e 1 0 counting_process _ refl refl refl))
    by (i ∷ order) n e =
        let longer : length (map Acts order ++ (Acts 0 ∷ AtEdge 0 ∷ [])) ≡ length (map Acts order) + 2 = length-append (map Acts order) (Acts 0 ∷ AtEdge 0 ∷ []) in
        omega (arith, n, longer)
