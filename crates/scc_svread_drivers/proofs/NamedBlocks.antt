-- Names in a combinational block: the walk over its statements notes nothing exactly where it assigns no input, nothing that a block
-- before it assigns, and gives each variable a whole value first.
use Rattle.std.proofs.Common.{◌≡◌, ◌<◌, ℕ, nat_eq, Bool, true, false, not, ◌||◌, ◌&&◌, List, [], ◌∷◌, length, map, refl, sym, ap, subst, ◌∙◌, eq-eqb}
use Rattle.std.proofs.lemmas.Bool.{or_parts, or_from}
use Rattle.scc_svtree.specs.declared.module.SvVar.{SvVar}
use Rattle.scc_svtree.specs.declared.expr.SvExpr.{SvExpr}
use Rattle.scc_svtree.specs.declared.expr.SvLeft.{SvLeft}
use Rattle.scc_svtree.specs.declared.expr.SvLeft.TheVariants.{Whole, Bit, Range}
use Rattle.scc_svtree.specs.declared.stmt.SvStmt.{SvStmt}
use Rattle.scc_svtree.specs.declared.stmt.SvArm.{SvArm}
use Rattle.scc_svtree.specs.Term.{term_of}
use Rattle.scc_svtree.specs.Code.{Code, Assign, If, Case, Arms, stmt_code, code_of}
use Rattle.scc_svtree.specs.Mentions.{reads, code_reads, arms_read, assigns, arms_assign, mentions}
use Rattle.scc_svtree.specs.Fresh.{Among, StartsReady, IsFresh}
use Rattle.scc_svtree.specs.Sound.{AreNamed}
use Rattle.scc_svread_grammar.specs.declared.raw.RawLeft.{RawLeft}
use Rattle.scc_svread_check.specs.Walking.{Walking, ◌then◌}
use Rattle.scc_svread_check.specs.Mentioned.{with_name}
use Rattle.scc_svread_check.specs.Mentioned.{Names, Adding, is_among}
use Rattle.scc_svread_check.specs.Within.{Known, Own, known, is_early, is_wrong_left, expr_names, assign_names, if_names, case_names, chosen_of, stmt_node_names, arm_node_names, stmt_names, with_whole, stmt_node_whole, arm_node_whole, whole_after, own_lines}
use Rattle.scc_svread_written.specs.Written.{name_of, raw_left, raw_expr, raw_stmt}
use Rattle.scc_svread_written.proofs.Clear.{Asks, asks_by, asks_then}
use Rattle.scc_svread_written.proofs.Fits.{left_true}
use Rattle.scc_svread_drivers.proofs.NamedLists as lists
use Rattle.scc_svtree_order.proofs.Mentioning.{or_none}
use Rattle.scc_svread_drivers.proofs.NamedTests.{of_both, of_first, of_second, of_none, of_one, at_one}
use Rattle.scc_svread_written.proofs.NamedTrees.{arms_code, code_assign, code_if, code_case, raw_arm, at_assign, at_if, at_case}
use Rattle.scc_svread_drivers.proofs.NamedExpressions.{asks_nothing}
use Rattle.scc_svread_drivers.proofs.NamedStatements as statements
use Rattle.scc_svtree.proofs.Induction.{by_stmt}

-- ---- tests

not_false : (b : Bool) → not b ≡ false → b ≡ true
not_false true e = refl
not_false false e = sym e

-- a value wanted and not given
not_ready : (a r : Bool) → (a && not r) ≡ not (r || not a)
not_ready true true = refl
not_ready true false = refl
not_ready false true = refl
not_ready false false = refl

with_value : (n r a : Bool) → (n || (r || a)) ≡ ((r || n) || a)
with_value true true a = refl
with_value true false a = refl
with_value false true a = refl
with_value false false a = refl

module _ (vars : List SvVar) (named : AreNamed vars) where
  abbrev Tells : Names → (ℕ → Bool) → Type 0
  Tells = lists.Tells vars named

  abbrev Within : (ℕ → Bool) → Type 0
  Within = lists.Within vars named

  abbrev Apart : (ℕ → Bool) → (ℕ → Bool) → Type 0
  Apart = lists.Apart vars named

  module _ (inputs taken assigned : Names) (given : ℕ → Bool) (tells : lists.Tells vars named assigned given) where
    -- what is known where these have a whole value
    abbrev at : Names → Known
    at whole = known inputs taken assigned whole

    abbrev foreign : ℕ → Bool
    foreign v = is_among inputs (name_of vars v) || is_among taken (name_of vars v)

    abbrev early : Names → ℕ → Bool
    early whole v = is_early (at whole) (name_of vars v)

    -- what is ready where those of r have a whole value
    abbrev ready : (ℕ → Bool) → ℕ → Bool
    ready r v = r v || not (given v)

    -- what is to hold of code from a place on
    abbrev Fresh : (ℕ → Bool) → Code → Type 0
    Fresh r c = Apart (assigns c) foreign × StartsReady (ready r) c

    module _ (whole : Names) (r : ℕ → Bool) (t : lists.Tells vars named whole r) where
      early_is : (v : ℕ) → v < length vars → early whole v ≡ not (ready r v)
      early_is v l = ap (λ b. b && not (is_among whole (name_of vars v))) (tells.tells v l) ∙ ap (λ b. given v && not b) (t.tells v l) ∙ not_ready (given v) (r v)

      to_ready : (a : ℕ → Bool) → Within a → Apart a (early whole) → Among a (ready r)
      to_ready a w x v h = not_false (ready r v) (sym (early_is v (w v h)) ∙ x v h)

      from_ready : (a : ℕ → Bool) → Within a → Among a (ready r) → Apart a (early whole)
      from_ready a w x v h = early_is v (w v h) ∙ ap not (x v h)

      abbrev Quiet : (ℕ → Bool) → (ℕ → Bool) → Type 0
      Quiet = statements.Quiet vars named (at whole)

    -- ---- a statement of the block's own level, before what follows it

    abbrev Step : (Names → Own) → Adding → (Code → Code) → Type 0
    Step line after c = (whole : Names) (r : ℕ → Bool) → Tells whole r → (rest : Code) → Within (code_reads (c rest)) → Within (assigns (c rest))
        → (n : ℕ) (more : Names → Walking)
        → ((ready_names : Names) (s : ℕ → Bool) → Tells ready_names s → Within (code_reads rest) → Within (assigns rest) → Asks (more ready_names) (Fresh s rest))
        → Asks (line whole true n then more (after whole)) (Fresh r (c rest))

    moved : {f g : Names → Own} {a b : Adding} {c d : Code → Code} → ((whole : Names) → f whole ≡ g whole) → a ≡ b → c ≡ d → Step g b d → Step f a c
    moved {f} {g} p q u h = let e : f ≡ g = λ i whole. p whole i in rw (e, q, u) h

    abbrev StepStmt : SvStmt → Type 0
    StepStmt x = Step (λ whole. stmt_names (at whole) (raw_stmt vars x)) (whole_after (raw_stmt vars x)) (stmt_code x)

    -- ---- assignments

    -- to a whole variable, which needs no value and has one from here on
    whole_line : (whole : Names) (r : ℕ → Bool) → Tells whole r → (i : ℕ) (e : SvExpr) (rest : Code) → Within (reads (term_of e))
        → {p : Walking} → Asks p ((((foreign i || false) ≡ false) × Apart (reads (term_of e)) (early whole)) × Fresh (λ v. r v || nat_eq i v) rest)
        → Asks p (Apart (λ v. nat_eq i v || assigns rest v) foreign × (Among (reads (term_of e)) (ready r) × Among (λ v. false) (ready r) × StartsReady (λ v. nat_eq i v || ready r v) rest))
    whole_line whole r t i e rest w a =
        let same : (λ v. nat_eq i v || ready r v) ≡ ready (λ v. r v || nat_eq i v) = λ j v. with_value (nat_eq i v) (r v) (not (given v)) j in
        asks_by
        (λ u. (
          of_both (nat_eq i) (assigns rest) (of_one _ i (or_none (foreign i) ∙ u.0.0)) u.1.0,
          (to_ready whole r t (reads (term_of e)) w u.0.1, of_none _, subst (λ q. StartsReady q rest) (sym same) u.1.1),
        ))
        (λ u. (
          (sym (or_none (foreign i)) ∙ at_one i (of_first (nat_eq i) (assigns rest) u.0), from_ready whole r t (reads (term_of e)) w u.1.0),
          (of_second (nat_eq i) (assigns rest) u.0, subst (λ q. StartsReady q rest) same u.1.2),
        ))
        a

    -- to a part of a variable, which needs the rest
    part_line : (whole : Names) (r : ℕ → Bool) → Tells whole r → (i : ℕ) → i < length vars → (e : SvExpr) (rest : Code) → Within (reads (term_of e))
        → {p : Walking} → Asks p ((((foreign i || early whole i) ≡ false) × Apart (reads (term_of e)) (early whole)) × Fresh r rest)
        → Asks p (Apart (λ v. nat_eq i v || assigns rest v) foreign × (Among (reads (term_of e)) (ready r) × Among (nat_eq i) (ready r) × StartsReady (ready r) rest))
    part_line whole r t i inside e rest w a =
        let one : Within (nat_eq i) = of_one _ i inside in
        asks_by
        (λ u. let q = or_parts (foreign i) (early whole i) u.0.0 in (
          of_both (nat_eq i) (assigns rest) (of_one _ i q.0) u.1.0,
          (to_ready whole r t (reads (term_of e)) w u.0.1, to_ready whole r t (nat_eq i) one (of_one _ i q.1), u.1.1),
        ))
        (λ u. (
          (
            or_from (foreign i) (early whole i) (at_one i (of_first (nat_eq i) (assigns rest) u.0)) (at_one i (from_ready whole r t (nat_eq i) one u.1.1)),
            from_ready whole r t (reads (term_of e)) w u.1.0,
          ),
          (of_second (nat_eq i) (assigns rest) u.0, u.1.2),
        ))
        a

    -- ---- conditionals and choices

    -- what they mention is ready
    quiet_line : (whole : Names) (r : ℕ → Bool) (t : lists.Tells vars named whole r) (read put : ℕ → Bool) → Within read → Within put → (rest : Code)
        → {p : Walking} → Asks p (Quiet whole r t read put × Fresh r rest)
        → Asks p (Apart (λ v. put v || assigns rest v) foreign × Among read (ready r) × Among put (ready r) × StartsReady (ready r) rest)
    quiet_line whole r t read put w x rest a = asks_by
        (λ u. (of_both put (assigns rest) u.0.own u.1.0, to_ready whole r t read w u.0.told, to_ready whole r t put x u.0.ready, u.1.1))
        (λ u. (
          record { own = of_first put (assigns rest) u.0; ready = from_ready whole r t put x u.2; told = from_ready whole r t read w u.1 },
          (of_second put (assigns rest) u.0, u.3),
        ))
        a

    -- ---- statements

    assign_step : (l : SvLeft) (e : SvExpr)
        → Step (λ whole. assign_names (at whole) (raw_left vars l) (raw_expr vars e)) (with_whole (raw_left vars l).select (raw_left vars l).name) (λ rest. Assign l (term_of e) rest)
    assign_step (Whole u) e whole r t rest w x n more m =
        let left : RawLeft = raw_left vars (Whole u) in
        let inside : u.0 < length vars = x u.0 (left_true (nat_eq u.0 u.0) (assigns rest u.0) (eq-eqb u.0 u.0 refl)) in
        whole_line whole r t u.0 e rest (of_first (reads (term_of e)) (code_reads rest) w)
        (asks_then
        (statements.line_asks vars named (at whole) (is_wrong_left (at whole) true left) left e n)
        (m (with_name whole (name_of vars u.0)) (λ v. r v || nat_eq u.0 v) (lists.with_tells vars named u.0 inside whole r t)
        (of_second (reads (term_of e)) (code_reads rest) w) (of_second (nat_eq u.0) (assigns rest) x)))
    assign_step (Bit u place) e whole r t rest w x n more m =
        let left : RawLeft = raw_left vars (Bit u place) in
        let inside : u.0 < length vars = x u.0 (left_true (nat_eq u.0 u.0) (assigns rest u.0) (eq-eqb u.0 u.0 refl)) in
        part_line whole r t u.0 inside e rest (of_first (reads (term_of e)) (code_reads rest) w)
        (asks_then
        (statements.line_asks vars named (at whole) (is_wrong_left (at whole) true left) left e n)
        (m whole r t (of_second (reads (term_of e)) (code_reads rest) w) (of_second (nat_eq u.0) (assigns rest) x)))
    assign_step (Range u high low) e whole r t rest w x n more m =
        let left : RawLeft = raw_left vars (Range u high low) in
        let inside : u.0 < length vars = x u.0 (left_true (nat_eq u.0 u.0) (assigns rest u.0) (eq-eqb u.0 u.0 refl)) in
        part_line whole r t u.0 inside e rest (of_first (reads (term_of e)) (code_reads rest) w)
        (asks_then
        (statements.line_asks vars named (at whole) (is_wrong_left (at whole) true left) left e n)
        (m whole r t (of_second (reads (term_of e)) (code_reads rest) w) (of_second (nat_eq u.0) (assigns rest) x)))

    abbrev owns_of : Names → List SvStmt → List Own
    owns_of whole xs = map (stmt_names (at whole)) (map (raw_stmt vars) xs)

    if_step : (c : SvExpr) (a b : List SvStmt)
        → Step (λ whole. if_names (expr_names (at whole) (raw_expr vars c)) (owns_of whole a) (owns_of whole b)) (λ whole. whole) (λ rest. If (term_of c) (code_of a) (code_of b) rest)
    if_step c a b whole r t rest w x n more m =
        let test : ℕ → Bool = reads (term_of c) in
        let first : ℕ → Bool = code_reads (code_of a) in
        let second : ℕ → Bool = code_reads (code_of b) in
        let branches : ℕ → Bool = λ v. first v || second v in
        let read : ℕ → Bool = λ v. test v || branches v in
        let put : ℕ → Bool = λ v. assigns (code_of a) v || assigns (code_of b) v in
        asks_by
        (λ u. (
          u.0,
          (
            of_first test branches u.1,
            of_first first second (of_second test branches u.1),
            of_first (assigns (code_of a)) (assigns (code_of b)) u.2,
            of_second first second (of_second test branches u.1),
            of_second (assigns (code_of a)) (assigns (code_of b)) u.2,
            u.3,
          ),
        ))
        (λ u. (
          u.0,
          of_both test branches u.1.0 (of_both first second u.1.1 u.1.3),
          of_both (assigns (code_of a)) (assigns (code_of b)) u.1.2 u.1.4,
          u.1.5,
        ))
        (quiet_line whole r t read put (of_first read (code_reads rest) w) (of_first put (assigns rest) x) rest
        (asks_then (statements.if_asks vars named (at whole) c a b n) (m whole r t (of_second read (code_reads rest) w) (of_second put (assigns rest) x))))

    case_step : (e : SvExpr) (arms : List SvArm)
        → Step (λ whole. case_names (expr_names (at whole) (raw_expr vars e)) (map (chosen_of (at whole)) (map (raw_arm vars) arms))) (λ whole. whole) (λ rest. Case (term_of e) (arms_code arms) rest)
    case_step e arms whole r t rest w x n more m =
        let choices : Arms = arms_code arms in
        let read : ℕ → Bool = λ v. reads (term_of e) v || arms_read choices v in
        asks_by
        (λ u. (u.0, (of_first (reads (term_of e)) (arms_read choices) u.1, of_second (reads (term_of e)) (arms_read choices) u.1, u.2, u.3)))
        (λ u. (u.0, of_both (reads (term_of e)) (arms_read choices) u.1.0 u.1.1, u.1.2, u.1.3))
        (quiet_line whole r t read (arms_assign choices) (of_first read (code_reads rest) w) (of_first (arms_assign choices) (assigns rest) x) rest
        (asks_then (statements.case_asks vars named (at whole) e arms n) (m whole r t (of_second read (code_reads rest) w) (of_second (arms_assign choices) (assigns rest) x))))

    stmt_step : (x : SvStmt) → StepStmt x
    stmt_step = by_stmt StepStmt (λ a. Unit {0})
        (λ l e. moved (λ whole. at_assign vars (stmt_node_names (at whole)) arm_node_names l e) (at_assign vars stmt_node_whole arm_node_whole l e) (code_assign l e) (assign_step l e))
        (λ c a b h k. moved (λ whole. at_if vars (stmt_node_names (at whole)) arm_node_names c a b) (at_if vars stmt_node_whole arm_node_whole c a b) (code_if c a b) (if_step c a b))
        (λ e arms h. moved (λ whole. at_case vars (stmt_node_names (at whole)) arm_node_names e arms) (at_case vars stmt_node_whole arm_node_whole e arms) (code_case e arms) (case_step e arms))
        (λ label body h. tt)

    own_asks : (ss : List SvStmt) (whole : Names) (r : ℕ → Bool) → Tells whole r → Within (code_reads (code_of ss)) → Within (assigns (code_of ss)) → (n : ℕ)
        → Asks (own_lines inputs taken assigned whole (map (raw_stmt vars) ss) n) (Fresh r (code_of ss))
    own_asks [] whole r t w x n = asks_nothing (of_none _, tt)
    own_asks (s ∷ ss) whole r t w x n =
        stmt_step s whole r t (code_of ss) w x n (λ whole. own_lines inputs taken assigned whole (map (raw_stmt vars) ss) n) (λ further q u y z. own_asks ss further q u y z n)

  -- the statements of a combinational block
  pub comb_asks : (inputs taken assigned : Names) (p q : ℕ → Bool) → lists.Tells vars named inputs p → lists.Tells vars named taken q
      → (ss : List SvStmt) → lists.Tells vars named assigned (assigns (code_of ss)) → lists.Within vars named (mentions (code_of ss)) → (n : ℕ)
      → Asks (own_lines inputs taken assigned [] (map (raw_stmt vars) ss) n)
      (lists.Apart vars named (assigns (code_of ss)) p × lists.Apart vars named (assigns (code_of ss)) q × IsFresh (code_of ss))
  comb_asks inputs taken assigned p q tp tq ss ta w n =
      let mine : ℕ → Bool = assigns (code_of ss) in
      let put : Within mine = of_second (code_reads (code_of ss)) mine w in
      asks_by
      (λ u. (
        λ v h. sym (tp.tells v (put v h)) ∙ (or_parts (is_among inputs (name_of vars v)) (is_among taken (name_of vars v)) (u.0 v h)).0,
        λ v h. sym (tq.tells v (put v h)) ∙ (or_parts (is_among inputs (name_of vars v)) (is_among taken (name_of vars v)) (u.0 v h)).1,
        u.1,
      ))
      (λ u. (λ v h. or_from (is_among inputs (name_of vars v)) (is_among taken (name_of vars v)) (tp.tells v (put v h) ∙ u.0 v h) (tq.tells v (put v h) ∙ u.1 v h), u.2))
      (own_asks inputs taken assigned mine ta ss [] (λ v. false) (lists.none_tells vars named) (of_first (code_reads (code_of ss)) mine w) put n)
