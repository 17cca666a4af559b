-- The rows of the search are the feeding of the combinational blocks.
use Rattle.std.proofs.Common.{◌≡◌, ◌<◌, ◌+◌, ◌-◌, inl, inr, ℕ, zero, suc, nat_eq, Bool, true, false, ◌||◌, ◌&&◌, cond, List, [], ◌∷◌, ◌++◌, length, replicate, refl, sym, ap, subst, ◌∙◌, arith}
use Rattle.std.specs.Prelude.{slice_index, Option, Some, None, Result, Ok, Err, IfOk}
use Rattle.std.proofs.Common.{get_or-set_other, get_or-set_same}
use Rattle.std.proofs.lemmas.Bool.{or_cases, or_left, or_right, and_parts, cases_eq, eqb-true, eq-eqb, ne_eqb}
use Rattle.scc_svtree.specs.declared.module.SvBlock.{SvBlock}
use Rattle.scc_svtree.specs.declared.module.SvBlock.TheVariants.{Comb, Edge}
use Rattle.scc_svtree.specs.Code.{Code, code_of}
use Rattle.scc_svtree.specs.Mentions.{code_reads, assigns}
use Rattle.scc_svtree.specs.Settled.{combs_of, block_at, Order}
use Rattle.scc_svtree_order.specs.VarLists.{all_read, all_assigned}
use Rattle.scc_svtree_order.specs.Fed.{Rows, has, row_at, grown, put, noted, owned_by, owned_from, owners_of, feeding, needs_of, needs_from, graph_of}
use Rattle.scc_svtree_order.specs.Cycles.{Path, one, more, Feeds, Said}
use Rattle.scc_svtree_order.specs.Search.{Step, Found, Ranked}
use Rattle.scc_svtree_order.proofs.Grown.{grown_length}
use Rattle.scc_svtree_order.proofs.Mentioning.{or_none, read_is, assigned_is}
use Rattle.scc_svtree_order.proofs.Searching.{has_append, row_within}
use Rattle.scc_svtree_order.proofs.Orders.{rank, rank_below, rank_above}

-- ---- rows with a further number

grown_row : (m : ℕ) (t : Rows) (i : ℕ) → row_at (t ++ replicate m []) i ≡ row_at t i
grown_row zero [] i = refl
grown_row (suc m) [] zero = refl
grown_row (suc m) [] (suc i) = grown_row m [] i
grown_row m (r ∷ t) zero = refl
grown_row m (r ∷ t) (suc i) = grown_row m t i

put_has : (i x : ℕ) (t : Rows) (v j : ℕ) → i < length t → has (row_at (put i x t) v) j ≡ (has (row_at t v) j || (nat_eq i v && nat_eq x j))
put_has i x t v j l = elim (cases_eq v i) [
  | inl e ↦ subst (λ (n : ℕ). has (row_at (put i x t) n) j ≡ (has (row_at t n) j || (nat_eq i n && nat_eq x j))) (sym e) same
  | inr ne ↦ ap (λ r. has r j) (get_or-set_other t i v (row_at t i ++ x ∷ []) [] ne) ∙ or_none (has (row_at t v) j) ∙ ap (λ b. has (row_at t v) j || (b && nat_eq x j)) (sym (ne_eqb i v (λ e. ne (sym e))))
]
  where
    same : has (row_at (put i x t) i) j ≡ (has (row_at t i) j || (nat_eq i i && nat_eq x j))
    same = ap (λ r. has r j) (get_or-set_same t i (row_at t i ++ x ∷ []) [] l) ∙ has_append (row_at t i) (x ∷ []) j
        ∙ ap (λ b. has (row_at t i) j || b) (sym (or_none (nat_eq x j))) ∙ ap (λ b. has (row_at t i) j || (b && nat_eq x j)) (sym (eq-eqb i i refl))

noted_has : (i x : ℕ) (t : Rows) (v j : ℕ) → has (row_at (noted i x t) v) j ≡ (has (row_at t v) j || (nat_eq i v && nat_eq x j))
noted_has i x t v j = go (has (row_at t i) x) refl
  where
    old : (b : Bool) → (nat_eq i v && nat_eq x j) ≡ b → has (row_at t i) x ≡ true → has (row_at t v) j ≡ (has (row_at t v) j || b)
    old false e h = or_none (has (row_at t v) j)
    old true e h =
        let p = and_parts (nat_eq i v) (nat_eq x j) e in
        let a : has (row_at t v) j ≡ true = subst (λ (n : ℕ). has (row_at t v) n ≡ true) (eqb-true x j p.1) (subst (λ (n : ℕ). has (row_at t n) x ≡ true) (eqb-true i v p.0) h) in
        a ∙ sym (or_left (has (row_at t v) j) true a)

    go : (b : Bool) → has (row_at t i) x ≡ b → has (row_at (cond b t (put i x (grown (i + 1) t))) v) j ≡ (has (row_at t v) j || (nat_eq i v && nat_eq x j))
    go true h = old (nat_eq i v && nat_eq x j) refl h
    go false h =
        put_has i x (grown (i + 1) t) v j (let g = grown_length (i + 1) t in omega arith)
        ∙ ap (λ r. has r j || (nat_eq i v && nat_eq x j)) (grown_row (i + 1 - length t) t v)

-- ---- owners

owned_has : (k : ℕ) (vs : List ℕ) (t : Rows) (v j : ℕ) → has (row_at (owned_by k vs t) v) j ≡ (has (row_at t v) j || (has vs v && nat_eq k j))
owned_has k [] t v j = or_none (has (row_at t v) j)
owned_has k (u ∷ vs) t v j =
    owned_has k vs (noted u k t) v j ∙ ap (λ b. b || (has vs v && nat_eq k j)) (noted_has u k t v j)
    ∙ go (has (row_at t v) j) (nat_eq u v) (has vs v) (nat_eq k j)
  where
    go : (h a r e : Bool) → ((h || (a && e)) || (r && e)) ≡ (h || ((a || r) && e))
    go true a r e = refl
    go false true r true = refl
    go false true true false = refl
    go false true false false = refl
    go false false r e = refl

-- whether the block of number j is among these, from number k on, and assigns v
abbrev assigned_among : ℕ → List Code → ℕ → ℕ → Bool
assigned_among k [] j v = false
assigned_among k (c ∷ cs) j v = (assigns c v && nat_eq k j) || assigned_among (k + 1) cs j v

none_before : (k : ℕ) (cs : List Code) (j v : ℕ) → j < k → assigned_among k cs j v ≡ false
none_before k [] j v l = refl
none_before k (c ∷ cs) j v l =
    ap (λ b. (assigns c v && b) || assigned_among (k + 1) cs j v) (ne_eqb k j (λ e. omega arith)) ∙ ap (λ b. (assigns c v && false) || b) (none_before (k + 1) cs j v (omega arith)) ∙ go (assigns c v)
  where
    go : (b : Bool) → ((b && false) || false) ≡ false
    go true = refl
    go false = refl

among_is : (k : ℕ) (cs : List Code) (i v : ℕ) → assigned_among k cs (k + i) v ≡ assigns (block_at cs i) v
among_is k [] i v = refl
among_is k (c ∷ cs) zero v =
    ap (λ b. (assigns c v && b) || assigned_among (k + 1) cs (k + 0) v) (eq-eqb k (k + 0) (omega arith)) ∙ ap (λ b. (assigns c v && true) || b) (none_before (k + 1) cs (k + 0) v (omega arith)) ∙ go (assigns c v)
  where
    go : (b : Bool) → ((b && true) || false) ≡ b
    go true = refl
    go false = refl
among_is k (c ∷ cs) (suc i) v =
    ap (λ b. (assigns c v && b) || assigned_among (k + 1) cs (k + suc i) v) (ne_eqb k (k + suc i) (λ e. omega arith))
    ∙ go (assigns c v) (assigned_among (k + 1) cs (k + suc i) v)
    ∙ ap (λ n. assigned_among (k + 1) cs n v) (let e : k + suc i ≡ (k + 1) + i = omega arith in e) ∙ among_is (k + 1) cs i v
  where
    go : (b d : Bool) → ((b && false) || d) ≡ d
    go true d = refl
    go false d = refl

owned_from_has : (k : ℕ) (bs : List SvBlock) (t : Rows) (v j : ℕ) → has (row_at (owned_from k bs t) v) j ≡ (has (row_at t v) j || assigned_among k (combs_of bs) j v)
owned_from_has k [] t v j = or_none (has (row_at t v) j)
owned_from_has k (Comb ss ∷ bs) t v j =
    owned_from_has (k + 1) bs (owned_by k (all_assigned ss) t) v j
    ∙ ap (λ b. b || assigned_among (k + 1) (combs_of bs) j v) (owned_has k (all_assigned ss) t v j ∙ ap (λ b. has (row_at t v) j || (b && nat_eq k j)) (assigned_is v ss))
    ∙ go (has (row_at t v) j) (assigns (code_of ss) v && nat_eq k j) (assigned_among (k + 1) (combs_of bs) j v)
  where
    go : (a b c : Bool) → ((a || b) || c) ≡ (a || (b || c))
    go true b c = refl
    go false b c = refl
owned_from_has k (Edge rising clock reset sets ∷ bs) t v j = owned_from_has k bs t v j

owners_are : (bs : List SvBlock) (v j : ℕ) → has (row_at (owners_of bs) v) j ≡ assigns (block_at (combs_of bs) j) v
owners_are bs v j = let z : j ≡ 0 + j = omega arith in owned_from_has 0 bs [] v j ∙ ap (λ n. assigned_among 0 (combs_of bs) n v) z ∙ among_is 0 (combs_of bs) j v

-- ---- needs

-- a variable that block k reads, that j is to assign and k is not
record Needed (t : Rows) (k : ℕ) (vs : List ℕ) (j : ℕ) : Type 0 where
  variable : ℕ
  read : has vs variable ≡ true
  owner : has (row_at t variable) j ≡ true
  other : has (row_at t variable) k ≡ false

feeding_parts : (k : ℕ) (r : List ℕ) (j : ℕ) → has (feeding k r) j ≡ true → (has r j ≡ true) × (has r k ≡ false)
feeding_parts k r j = go (has r k) refl
  where
    go : (b : Bool) → has r k ≡ b → has (cond b [] r) j ≡ true → (has r j ≡ true) × (has r k ≡ false)
    go true e h = absurd (let f : false ≡ true = h in cc)
    go false e h = (h, e)

feeding_from : (k : ℕ) (r : List ℕ) (j : ℕ) → has r j ≡ true → has r k ≡ false → has (feeding k r) j ≡ true
feeding_from k r j h e = ap (λ b. has (cond b [] r) j) e ∙ h

needed : (t : Rows) (k : ℕ) (vs : List ℕ) (j : ℕ) → has (needs_of t k vs) j ≡ true → Needed t k vs j
needed t k [] j h = absurd (let f : false ≡ true = h in cc)
needed t k (v ∷ vs) j h = elim (or_cases (has (feeding k (row_at t v)) j) (has (needs_of t k vs) j) (sym (has_append (feeding k (row_at t v)) (needs_of t k vs) j) ∙ h)) [
  | inl a ↦ let p = feeding_parts k (row_at t v) j a in record { variable = v; read = or_left (nat_eq v v) (has vs v) (eq-eqb v v refl); owner = p.0; other = p.1 }
  | inr b ↦ let n : Needed t k vs j = needed t k vs j b in record { variable = n.variable; read = or_right (nat_eq v n.variable) (has vs n.variable) n.read; owner = n.owner; other = n.other }
]

needs_has : (t : Rows) (k : ℕ) (vs : List ℕ) (j u : ℕ) → has vs u ≡ true → has (row_at t u) j ≡ true → has (row_at t u) k ≡ false → has (needs_of t k vs) j ≡ true
needs_has t k [] j u r o n = absurd (let f : false ≡ true = r in cc)
needs_has t k (v ∷ vs) j u r o n = has_append (feeding k (row_at t v)) (needs_of t k vs) j ∙ elim (or_cases (nat_eq v u) (has vs u) r) [
  | inl e ↦ or_left (has (feeding k (row_at t v)) j) (has (needs_of t k vs) j) (subst (λ (w : ℕ). has (feeding k (row_at t w)) j ≡ true) (sym (eqb-true v u e)) (feeding_from k (row_at t u) j o n))
  | inr q ↦ or_right (has (feeding k (row_at t v)) j) (has (needs_of t k vs) j) (needs_has t k vs j u q o n)
]

-- ---- rows

needs_length : (t : Rows) (k : ℕ) (bs : List SvBlock) → length (needs_from t k bs) ≡ length (combs_of bs)
needs_length t k [] = refl
needs_length t k (Comb ss ∷ bs) = ap (λ n. suc n) (needs_length t (k + 1) bs)
needs_length t k (Edge rising clock reset sets ∷ bs) = needs_length t k bs

-- a variable that block i of these reads, as `Needed`
record Fed (t : Rows) (n : ℕ) (c : Code) (j : ℕ) : Type 0 where
  variable : ℕ
  read : code_reads c variable ≡ true
  owner : has (row_at t variable) j ≡ true
  other : has (row_at t variable) n ≡ false

fed : (t : Rows) (k : ℕ) (bs : List SvBlock) (i j : ℕ) → has (row_at (needs_from t k bs) i) j ≡ true → Fed t (k + i) (block_at (combs_of bs) i) j
fed t k [] i j h = absurd (let f : false ≡ true = h in cc)
fed t k (Comb ss ∷ bs) zero j h =
    let n : Needed t k (all_read ss) j = needed t k (all_read ss) j h in
    let e : k + 0 ≡ k = omega arith in
    record { variable = n.variable; read = sym (read_is n.variable ss) ∙ n.read; owner = n.owner; other = ap (λ m. has (row_at t n.variable) m) e ∙ n.other }
fed t k (Comb ss ∷ bs) (suc i) j h =
    let f : Fed t (k + 1 + i) (block_at (combs_of bs) i) j = fed t (k + 1) bs i j h in
    let e : k + suc i ≡ k + 1 + i = omega arith in
    record { variable = f.variable; read = f.read; owner = f.owner; other = ap (λ m. has (row_at t f.variable) m) e ∙ f.other }
fed t k (Edge rising clock reset sets ∷ bs) i j h = fed t k bs i j h

row_has : (t : Rows) (k : ℕ) (bs : List SvBlock) (i j u : ℕ) → i < length (combs_of bs) → code_reads (block_at (combs_of bs) i) u ≡ true → has (row_at t u) j ≡ true → has (row_at t u) (k + i) ≡ false → has (row_at (needs_from t k bs) i) j ≡ true
row_has t k [] i j u l r o n = absurd (omega arith)
row_has t k (Comb ss ∷ bs) zero j u l r o n = let e : k ≡ k + 0 = omega arith in needs_has t k (all_read ss) j u (read_is u ss ∙ r) o (ap (λ m. has (row_at t u) m) e ∙ n)
row_has t k (Comb ss ∷ bs) (suc i) j u l r o n = let e : k + 1 + i ≡ k + suc i = omega arith in row_has t (k + 1) bs i j u (omega arith) r o (ap (λ m. has (row_at t u) m) e ∙ n)
row_has t k (Edge rising clock reset sets ∷ bs) i j u l r o n = row_has t k bs i j u l r o n

-- ---- feeding

pub graph_length : (bs : List SvBlock) → length (graph_of bs) ≡ length (combs_of bs)
graph_length bs = needs_length (owners_of bs) 0 bs

-- only a block assigns
assigns_within : (cs : List Code) (j v : ℕ) → assigns (block_at cs j) v ≡ true → j < length cs
assigns_within [] j v h = absurd (let f : false ≡ true = h in cc)
assigns_within (c ∷ cs) zero v h = omega arith
assigns_within (c ∷ cs) (suc j) v h = let l = assigns_within cs j v h in omega arith

pub step_feeds : (bs : List SvBlock) (j k : ℕ) → Step (graph_of bs) j k → Feeds (combs_of bs) j k
step_feeds bs j k h =
    let f : Fed (owners_of bs) (0 + k) (block_at (combs_of bs) k) j = fed (owners_of bs) 0 bs k j h in
    let z : k ≡ 0 + k = omega arith in
    let a : assigns (block_at (combs_of bs) j) f.variable ≡ true = sym (owners_are bs f.variable j) ∙ f.owner in
    record {
      first = assigns_within (combs_of bs) j f.variable a;
      second = let l = row_within (graph_of bs) k j h in let e = graph_length bs in omega arith;
      variable = f.variable;
      assigned = a;
      read = f.read;
      other = sym (owners_are bs f.variable k) ∙ ap (λ n. has (row_at (owners_of bs) f.variable) n) z ∙ f.other;
    }

pub feeds_step : (bs : List SvBlock) (j k : ℕ) → Feeds (combs_of bs) j k → Step (graph_of bs) j k
feeds_step bs j k f = let z : 0 + k ≡ k = omega arith in row_has (owners_of bs) 0 bs k j f.variable f.second f.read (owners_are bs f.variable j ∙ f.assigned) (ap (λ n. has (row_at (owners_of bs) f.variable) n) z ∙ owners_are bs f.variable k ∙ f.other)

path_map : (p q : ℕ → ℕ → Type 0) → ((j k : ℕ) → p j k → q j k) → (j k : ℕ) → Path p j k → Path q j k
path_map p q h j k (one _ _ s) = one j k (h j k s)
path_map p q h j k (more _ n _ s r) = more j n k (h j n s) (path_map p q h n k r)

-- ---- what is said

order_from : (bs : List SvBlock) (place : ℕ → ℕ) → ((k : ℕ) → k < length (graph_of bs) → place k < length (graph_of bs)) → ((j k : ℕ) → j < length (graph_of bs) → k < length (graph_of bs) → Step (graph_of bs) j k → place j < place k) → Order (combs_of bs)
order_from bs place below above = record {
  rank = place;
  below = λ k l. let e = graph_length bs in let h : place k < length (graph_of bs) = below k (omega arith) in omega arith;
  ordered = λ j k v l m a r n. let e = graph_length bs in above j k (omega arith) (omega arith) (feeds_step bs j k (record { first = l; second = m; variable = v; assigned = a; read = r; other = n }));
}

pub ranked_said : (bs : List SvBlock) (ranks : List ℕ) → Ranked (graph_of bs) ranks → Said (combs_of bs) None
ranked_said bs ranks r = order_from bs (slice_index ranks) (λ k l. (r k l).below) (λ j k l m s. (r k m).above j s)

pub found_said : (bs : List SvBlock) (o : Option ℕ) → Found (graph_of bs) o → Said (combs_of bs) o
found_said bs None f = order_from bs (rank (graph_of bs) f) (rank_below (graph_of bs) f) (λ j k l m s. rank_above (graph_of bs) f j k l s)
found_said bs (Some k) f = record {
  within = let e = graph_length bs in let l = f.within in omega arith;
  cycle = path_map (Step (graph_of bs)) (Feeds (combs_of bs)) (step_feeds bs) k k f.cycle;
  none_before = λ j l c. f.none_before j l (path_map (Feeds (combs_of bs)) (Step (graph_of bs)) (feeds_step bs) j j c);
}

-- ---- the same at the values of the code

pub ranked_at : (bs : List SvBlock) (g : Rows) (ranks : List ℕ) → g ≡ graph_of bs → Ranked g ranks → Said (combs_of bs) None
ranked_at bs g ranks e r = ranked_said bs ranks (subst (λ (h : Rows). Ranked h ranks) e r)

pub found_at : {E : Type 0} (bs : List SvBlock) (g : Rows) (r : Result (Option ℕ) E) → g ≡ graph_of bs → IfOk r (λ o. Found g o) → IfOk r (λ o. Said (combs_of bs) o)
found_at bs g (Ok o) e f = found_said bs o (subst (λ (h : Rows). Found h o) e f)
found_at bs g (Err x) e f = tt
