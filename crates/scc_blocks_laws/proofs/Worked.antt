-- The module that hands an input on is one of its core.
use Rattle.std.proofs.Common.{◌≡◌, ◌<◌, ◌*◌, ◌+◌, ◌^◌, ◌||◌, inl, ℕ, zero, suc, nat_eq, Bool, true, false, [], ◌∷◌, Some, None, slice_get, refl, sym, ap, ◌∙◌, subst, arith, if◌then◌else◌}
use Rattle.std.specs.Prelude.{not, unwrap_or}
use Rattle.scc_svtree.specs.declared.expr.SvExpr.{fold-roll-SvExpr}
use Rattle.scc_svtree.specs.declared.expr.SvExprNode.{roll-SvExprNode, fold-roll-SvExprNode}
use Rattle.scc_svtree.specs.declared.expr.SvExprNode.TheOpen as node
use Rattle.scc_svtree.specs.declared.expr.SvLeft.TheVariants.{Whole}
use Rattle.scc_svtree.specs.declared.stmt.SvStmt.{fold-roll-SvStmt}
use Rattle.scc_svtree.specs.declared.stmt.SvStmt.TheOpen as stmt
use Rattle.scc_svtree.specs.Term.{Term, term_node, term_of}
use Rattle.scc_svtree.specs.Code.{Code, End, Assign, Arms, stmt_node, arm_node, stmt_code, code_of}
use Rattle.scc_svtree.specs.Running.{run}
use Rattle.scc_svtree.specs.Mentions.{assigns, mentions}
use Rattle.scc_svtree.proofs.Agree.{same_of_eq}
use Rattle.scc_core_spec.specs.Program.{Process, Edge, is_combinational, is_root, is_held}
use Rattle.scc_core_spec.specs.Kept.{written_by}
use Rattle.scc_core_spec.specs.Live.{live}
use Rattle.scc_core_spec.specs.Uses.{among, has_sort, width_at}
use Rattle.scc_blocks_spec.specs.Acting.{Acting, latest, with_asked}
use Rattle.scc_blocks_spec.specs.Effect.{Effect, Fell, Left_out, Lost, effect}
use Rattle.scc_blocks_spec.specs.Turns.{Regs, Left, turn, found, constant_at}
use Rattle.scc_blocks_spec.specs.Shown.{View, Driven, mine, view_of, IsView, sight_of, Sight, Shows, ShowsCell, top_number}
use Rattle.scc_blocks_spec.specs.Lowered.{Fits, KeepsFit, IsLoweredCode}
use Rattle.scc_blocks_run_laws.specs.Pieces.{whole, variable, firsts_code, first_at, is_source}
use Rattle.scc_blocks_run_laws.specs.Blocks.{IsBlock, HasVariables, SetsCell, set_term, IsEdge, Built, Origin, Acting as Block}
use Rattle.scc_blocks_run_laws.specs.Follows.{IsSteady, IsRanked}
use Rattle.scc_blocks_laws.specs.Worked.{handing, handing_process, handing_stmts, handing_module, handing_registers, handing_numbers, handing_body, read_of, assign_of, hand_on}
use Rattle.scc_blocks_run_laws.proofs.Firsts.{fixed_assigned}
use Rattle.scc_blocks_run_laws.proofs.Blockruns.{view-is}

pub term-is : (v : ℕ) → term_of (read_of v) ≡ variable v
term-is v =
    fold-roll-SvExpr Term Term term_node (λ e. e.node) (record { node = roll-SvExprNode (node.Left (Whole (record { 0 = v }))) })
    ∙ fold-roll-SvExprNode Term Term term_node (λ e. e.node) (node.Left (Whole (record { 0 = v })))

assign-is : (v u : ℕ) (rest : Code) → stmt_code (assign_of v u) rest ≡ Assign (whole v) (variable u) rest
assign-is v u rest =
    ap (λ f. f rest) (fold-roll-SvStmt (Code → Code) (Arms → Arms) stmt_node arm_node (stmt.Assign (Whole (record { 0 = v })) (read_of u))) ∙ ap (λ t. Assign (whole v) t rest) (term-is u)

pub code-is : code_of handing_stmts ≡ Assign (whole 5) (variable 4) (Assign (whole 5) (variable 2) End)
code-is = assign-is 5 4 (stmt_code (assign_of 5 2) End) ∙ ap (λ r. Assign (whole 5) (variable 4) r) (assign-is 5 2 End)

abbrev s : Sight
s = sight_of handing 0 handing_process

not-eq : (c k : ℕ) → k < 3 → nat_eq (suc (suc (suc c))) k ≡ false
not-eq c k l = grind arith

-- the cells that the process names
two-cells : (P : ℕ → Type 0) → P 1 → P 2 → (c : ℕ) → mine handing handing_process c ≡ true → P c
two-cells P a b zero h = absurd (cc)
two-cells P a b (suc zero) h = a
two-cells P a b (suc (suc zero)) h = b
two-cells P a b (suc (suc (suc c))) h = let z : mine handing handing_process (suc (suc (suc c))) ≡ false = λ i. not-eq c 1 (omega arith) i || (not-eq c 2 (omega arith) i || false) in absurd (cc)

cells-two : (P : ℕ → ℕ → Type 0) → P 1 2 → P 2 4 → (c v : ℕ) → handing_registers.variable c ≡ Some v → P c v
cells-two P a b zero v h = absurd (cc)
cells-two P a b (suc zero) v h = let z : 2 ≡ v = cc in subst (P 1) z a
cells-two P a b (suc (suc zero)) v h = let z : 4 ≡ v = cc in subst (P 2) z b
cells-two P a b (suc (suc (suc c))) v h =
    let z : handing_registers.variable (suc (suc (suc c))) ≡ None = λ i. if not-eq c 1 (omega arith) i then Some 2 else (if not-eq c 2 (omega arith) i then Some 4 else None) in absurd (cc)

-- the one process
one-process : (P : ℕ → Process → Type 0) → P 0 handing_process → (i : ℕ) (q : Process) → slice_get handing.processes i ≡ Some q → P i q
one-process P a zero q h = let z : handing_process ≡ q = cc in subst (P 0) z a
one-process P a (suc i) q h = absurd (cc)

abbrev left : Acting → Acting
left a = with_asked 2 (a.now 1) a

keeps : KeepsFit s hand_on
keeps a b f e =
    let z : left a ≡ b = ap of e in
    subst (λ b. Fits s b) z (record { words = f.words; asks = asks; roots = roots })
  where
    of : Effect → Acting
    of (Fell b) = b
    of (Left_out n b) = b
    of Lost = a

    asks : (c w : ℕ) → has_sort is_held handing.cells c ≡ true → (left a).asked c ≡ Some w → w < 2 ^ width_at handing.cells c
    asks c w m h = go (nat_eq 2 c) refl
      where
        go : (x : Bool) → nat_eq 2 c ≡ x → w < 2 ^ width_at handing.cells c
        go true x =
            let t : Some (a.now 1) ≡ Some w = sym (ap (λ x. if x then Some (a.now 1) else a.asked c) x) ∙ h in
            let u : a.now 1 ≡ w = cc in
            let P : ℕ → Type 0 = λ c. w < 2 ^ width_at handing.cells c in
            let Q : ℕ → Type 0 = λ w. w < 2 ^ 8 in
            subst P (same_of_eq 2 c x) (subst Q u (f.words 1 refl))
        go false x = f.asks c w m (sym (ap (λ x. if x then Some (a.now 1) else a.asked c) x) ∙ h)

    roots : (c : ℕ) → has_sort is_root handing.cells c ≡ false → (left a).asked c ≡ None
    roots c h = go (nat_eq 2 c) refl
      where
        go : (x : Bool) → nat_eq 2 c ≡ x → (left a).asked c ≡ None
        go true x = let P : ℕ → Type 0 = λ c. has_sort is_root handing.cells c ≡ false in let t : true ≡ false = subst P (sym (same_of_eq 2 c x)) h in absurd (cc)
        go false x = ap (λ x. if x then Some (a.now 1) else a.asked c) x ∙ f.roots c h

lowered : IsLoweredCode s handing_numbers.width hand_on handing_body
lowered = record { shows = shows; framed = framed }
  where
    framed : (v : ℕ) → assigns handing_body v ≡ true → v < top_number
    framed v h = go (nat_eq 5 v) refl
      where
        go : (x : Bool) → nat_eq 5 v ≡ x → v < top_number
        go true x = let P : ℕ → Type 0 = λ v. v < top_number in subst P (same_of_eq 5 v x) (omega arith)
        go false x = let t : assigns handing_body v ≡ false = ap (λ x. x || false) x in absurd (cc)

    shows : (a b : Acting) (x : ℕ → ℕ) → Fits s a → Shows s a x → effect handing.cells hand_on a ≡ Fell b → Shows s b (run handing_numbers.width handing_body x)
    shows a b x f k e =
        let z : left a ≡ b = ap of e in
        subst (λ b. Shows s b (run handing_numbers.width handing_body x)) z
        (record { cells = two-cells (λ c. ShowsCell (s.view c) c (left a) (run handing_numbers.width handing_body x)) (k.cells 1 refl) ((k.cells 2 refl).0, word); leaving = k.leaving })
      where
        of : Effect → Acting
        of (Fell b) = b
        of (Left_out n b) = b
        of Lost = a

        small : x 2 < 2 ^ 8
        small = let P : ℕ → Type 0 = λ w. w < 2 ^ 8 in subst P (sym (k.cells 1 refl)) (f.words 1 refl)

        word : run handing_numbers.width handing_body x 5 ≡ a.now 1
        word = fixed_assigned 8 (x 2) small ∙ k.cells 1 refl

block : IsBlock handing handing_registers handing_module 0 handing_process (code_of handing_stmts)
block = record {
  wide = record { state = 0; counter = 0 };
  numbers = handing_numbers;
  body = handing_body;
  is_code = code-is;
  is_body = lowered;
  injective = λ u v a b e. e;
  widths = λ v h. refl;
  mentioned = mentioned;
  sources = sources;
  cells = two-cells (λ c. HasVariables handing_registers handing_numbers (width_at handing.cells c) (view_of handing 0 handing_process c) c) ((refl, refl, refl), refl) ((refl, refl, refl), refl, (refl, refl, refl));
  small = record { cells = two-cells (λ c. 2 * c + 1 < top_number) (omega arith) (omega arith); leaving = omega arith };
  leaving = λ h. absurd (cc);
  state = tt;
  counter = tt;
  is_state = refl;
  is_counter = refl;
}
  where
    whole-code : Code
    whole-code = firsts_code handing_numbers.width handing_numbers.firsts handing_body

    mentioned : (v : ℕ) → mentions (firsts_code handing_numbers.width handing_numbers.firsts handing_body) v ≡ true → not (nat_eq v 6) ≡ true
    mentioned v h = go (nat_eq v 6) refl
      where
        go : (x : Bool) → nat_eq v 6 ≡ x → not (nat_eq v 6) ≡ true
        go false x = ap not x
        go true x =
            let P : ℕ → Type 0 = λ v. mentions (firsts_code handing_numbers.width handing_numbers.firsts handing_body) v ≡ true in
            let t : false ≡ true = subst P (same_of_eq v 6 x) h in absurd (cc)

    sources : (u : ℕ) → is_source handing_numbers.firsts u ≡ true → first_at handing_numbers.firsts u ≡ None
    sources u h = go (nat_eq 4 u) refl
      where
        go : (x : Bool) → nat_eq 4 u ≡ x → first_at handing_numbers.firsts u ≡ None
        go true x = let P : ℕ → Type 0 = λ u. first_at handing_numbers.firsts u ≡ None in subst P (same_of_eq 4 u x) refl
        go false x = let t : is_source handing_numbers.firsts u ≡ false = ap (λ x. x || false) x in absurd (cc)

pub built : Built handing handing_registers handing_module
unfolding block
built = record {
  clock_variable = λ c. c;
  acts = acts;
  origins = cells-two (λ c v. Origin handing handing_module c v)
      (Origin.given refl refl (one-process (λ j q. among 1 (written_by handing.cells q) ≡ false) refl))
      (Origin.register 0 handing_process (record { cell = 0; rising = true }) refl refl refl (inl refl) refl (one-process (λ j q. among 2 (written_by handing.cells q) ≡ true → j ≡ 0) (λ h. refl)));
  sorts = one-process (λ i q. q.edge ≡ None → is_combinational q ≡ true) (λ h. absurd (cc));
}
  where
    -- the one right side
    set-is : (v : ℕ) → set_term (record { target = record { 0 = 4 }; value = read_of 5 } ∷ []) 4 ≡ Some (variable 5)
    set-is v = ap (λ t. Some t) (term-is 5)

    edge : (e : Edge) → handing_process.edge ≡ Some e → IsEdge handing handing_registers handing_module (λ c. c) 0 handing_process e (record { state = 0; counter = 0 }) handing_numbers
    edge e h = record {
      at = 1;
      rising = true;
      clock = record { 0 = 0 };
      reset = None;
      sets = record { target = record { 0 = 4 }; value = read_of 5 } ∷ [];
      stands = refl;
      is_clock = let z : record { cell = 0; rising = true } ≡ e = cc in ap (λ e. e.cell) z;
      sets_cells = two-cells (λ c. SetsCell handing_numbers (record { target = record { 0 = 4 }; value = read_of 5 } ∷ []) (view_of handing 0 handing_process c) c) tt (set-is 4);
      sets_state = tt;
      sets_counter = tt;
      branch = refl;
    }

    acts : (i : ℕ) (q : Process) → slice_get handing.processes i ≡ Some q → Block handing handing_registers handing_module (λ c. c) i q
    acts = one-process (λ i q. Block handing handing_registers handing_module (λ c. c) i q) (record { at = 0; stmts = handing_stmts; stands = refl; is_block = block; edge = edge })

pub steady : IsSteady handing handing_registers
steady = record {
  constants = constants;
  named = λ i c q g h. one-process (λ i q. mine handing q c ≡ true → has_sort is_held handing.cells c ≡ true) (two-cells (λ c. has_sort is_held handing.cells c ≡ true) refl refl c) i q g h;
  methods = one-process (λ i q. q.is_thread ≡ false → KeepsFit (sight_of handing i q) (live handing.cells q.body)) (λ h. keeps);
  threads = λ i n q g h t. absurd (one-process (λ i q. q.is_thread ≡ true → ⊥) (λ h. absurd (cc)) i q h t);
  goes = λ i q g pr h. one-process (λ i q. (l : Left) × (turn handing i q g ≡ Some l)) (record { acting = left (found handing 0 handing_process g); place = None }, refl) i q h;
  waits = λ i q g l pr h t th. absurd (one-process (λ i q. q.is_thread ≡ true → ⊥) (λ h. absurd (cc)) i q h th);
  asks = λ i c q g l pr h t w. absurd (one-process (λ i q. view_of handing i q c ≡ Driven → ⊥)
      (λ w. let P : View → Type 0 = λ v. IsView handing 0 handing_process c v in let z : IsView handing 0 handing_process c Driven = subst P w (view-is handing 0 handing_process c) in let y : true ≡ false = z.3 in absurd (cc)) i q h w);
  stays = λ i c q g l pr h t w. one-process (λ i q. turn handing i q g ≡ Some l → among c (written_by handing.cells q) ≡ false → latest l.acting c ≡ (found handing i q g).now c) (stays c g l) i q h t w;
}
  where
    constants : (c w : ℕ) → constant_at handing c ≡ Some w → w < 2 ^ width_at handing.cells c
    constants zero w h = absurd (cc)
    constants (suc zero) w h = absurd (cc)
    constants (suc (suc zero)) w h = absurd (cc)
    constants (suc (suc (suc c))) w h = absurd (cc)

    stays : (c : ℕ) (g : Regs) (l : Left) → turn handing 0 handing_process g ≡ Some l → among c (written_by handing.cells handing_process) ≡ false → latest l.acting c ≡ (found handing 0 handing_process g).now c
    stays c g l t w =
        let f : Acting = found handing 0 handing_process g in
        let z : record { acting = left f; place = None } ≡ l = cc in
        let n : nat_eq 2 c ≡ false = grind arith in
        sym (ap (λ l. latest l.acting c) z) ∙ ap (λ x. unwrap_or (if x then Some (f.now 1) else None) (f.now c)) n

pub ranked : IsRanked handing (λ i. 0)
ranked = record {
  below = λ i q h k. omega arith;
  behind = λ i j c q o h y k l f n w x. absurd (one-process (λ i q. is_combinational q ≡ true → ⊥) (λ h. absurd (cc)) i q h k);
}
