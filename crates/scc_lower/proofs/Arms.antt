-- The arms of a `case`, one for each element of a dimension.
use Rattle.std.proofs.Common.{◌≡◌, ℕ, suc, ◌+◌, ◌*◌, ◌^◌, min, List, [], ◌∷◌, ◌++◌, map, length, refl, sym, ◌∙◌, ap, subst, arith}
use Rattle.std.proofs.lemmas.List.{length-append, length-map}
use denote.Hole.Carrier.{roll}
use Rattle.scc_core_spec.specs.Term.{Pick, Term}
use Rattle.scc_svtree.specs.declared.expr.SvExpr.{SvExpr}
use Rattle.scc_svtree.specs.declared.expr.SvLiteral.{SvLiteral}
use Rattle.scc_svtree.specs.declared.stmt.SvArm.{SvArm, roll-SvArm, fold-SvArm, fold-roll-SvArm}
use Rattle.scc_svtree.specs.declared.stmt.SvStmt.{SvStmt, roll-SvStmt, fold-roll-SvStmt}
use Rattle.scc_svtree.specs.declared.stmt.SvStmt.TheOpen as stmt
use Rattle.scc_svtree.specs.declared.stmt.SvStmt.TheVariants as variant
use Rattle.scc_svtree.specs.Code.{Arm, Arms, Case, Code, End, before, code_of, stmt_code}
use Rattle.scc_svtree.specs.Code as code
use Rattle.scc_svtree.specs.Term.{term_of}
use Rattle.scc_lower_laws.specs.Elements.{variable_of}
use Rattle.scc_lower_laws.specs.Puts.{arms_from, case_code}
use Rattle.scc_lower_laws.specs.Sequence.{then_code}
use Rattle.scc_lower_tree_laws.specs.Assigning.{PutsElement, PutsElements, Wanted}
use Rattle.scc_lower_tree_laws.specs.Choosing.{Opened}
use Rattle.scc_lower_tree_laws.specs.States.{Given, Seen}
use Rattle.scc_lower_tree_laws.proofs.Assigning.{puts-case}
use Rattle.scc_lower_expressions.proofs.Codes.{code-append}
use Rattle.scc_lower.specs.declared.assign.Written.{Written}
use Rattle.scc_lower.specs.Adding.{Adds, AreArms, IsArm, wanted_of}

abbrev arm_code : SvArm → Arms → Arms
arm_code = fold-SvArm (Code → Code) (Arms → Arms) code.stmt_node code.arm_node

pub code-case : (e : SvExpr) (arms : List SvArm) → code_of (variant.Case e arms ∷ []) ≡ Case (term_of e) (before (map arm_code arms) code.None) End
unfolding roll-SvStmt roll
code-case e arms =
    ap (λ s. stmt_code s End) (variant.rolls-Case e arms)
    ∙ ap (λ f. f End) (fold-roll-SvStmt (Code → Code) (Arms → Arms) code.stmt_node code.arm_node (stmt.Case e arms))

arm-made : (a : SvArm) (more : Arms) → arm_code a more ≡ Arm a.label.width a.label.value.bits (code_of a.body) more
arm-made a more = ap (λ f. f more) (fold-roll-SvArm (Code → Code) (Arms → Arms) code.stmt_node code.arm_node (record { label = a.label; body = a.body }))

abbrev body_code : SvArm → Code
body_code a = code_of a.body

module _ (g : Given) (views : List Seen) (o : Opened) (os : List Opened) (first : ℕ) where
  arms-code : (low : ℕ) (z : Wanted) (arms : List SvArm) → AreArms g views o os first low z arms → before (map arm_code arms) code.None ≡ arms_from o.slot.width low (map body_code arms)
  arms-code low z [] h = refl
  arms-code low z (a ∷ rest) h =
      let more = arms-code (suc low) z rest h.1 in
      arm-made a (before (map arm_code rest) code.None) ∙ (λ i. Arm (h.0.width i) (h.0.label i) (code_of a.body) (more i))

  arms-put : (low : ℕ) (z : Wanted) (arms : List SvArm) → AreArms g views o os first low z arms → PutsElements g views o os first low z (map body_code arms)
  arms-put low z [] h = tt
  arms-put low z (a ∷ rest) h = (h.0.puts, arms-put (suc low) z rest h.1)

  arms-more : (low : ℕ) (z : Wanted) (arms : List SvArm) (a : SvArm) → AreArms g views o os first low z arms → IsArm g views o os first (low + length arms) z a → AreArms g views o os first low z (arms ++ a ∷ [])
  arms-more low z [] a h k =
      let P : ℕ → Type 0 = λ n. IsArm g views o os first n z a in
      let same : low + 0 ≡ low = omega arith in
      (subst P same k, tt)
  arms-more low z (x ∷ arms) a h k =
      let P : ℕ → Type 0 = λ n. IsArm g views o os first n z a in
      let same : low + suc (length arms) ≡ suc low + length arms = omega arith in
      (h.0, arms-more (suc low) z arms a h.1 (subst P same k))

  -- so many arms, whatever is written
  abbrev pub AllArms : Written → ℕ → List SvArm → Type 0
  AllArms w n arms = (length arms ≡ n) × ((k : Pick) (e : Term) → AreArms g views o os first 0 (wanted_of w k e) arms)

  pub no-arms : (w : Written) (arms : List SvArm) → arms ≡ [] → AllArms w 0 arms
  no-arms w arms is = let P : List SvArm → Type 0 = λ z. AllArms w 0 z in subst P (sym is) (refl, λ k e. tt)

  pub one-more : (w : Written) (n : ℕ) (old new : List SvArm) (a : SvArm) → AllArms w n old → ((k : Pick) (e : Term) → IsArm g views o os first n (wanted_of w k e) a) → new ≡ old ++ a ∷ [] → AllArms w (n + 1) new
  one-more w n old new a h k put =
      let P : List SvArm → Type 0 = λ z. AllArms w (n + 1) z in
      let long : length (old ++ a ∷ []) ≡ length old + 1 = length-append old (a ∷ []) in
      let one : length (old ++ a ∷ []) ≡ n + 1 = omega (arith, long, h.0) in
      let Q : (p : Pick) (e : Term) → ℕ → Type 0 = λ p e m. IsArm g views o os first m (wanted_of w p e) a in
      let zero : n ≡ 0 + length old = omega (arith, h.0) in
      subst P (sym put) (one, λ p e. arms-more 0 (wanted_of w p e) old a (h.1 p e) (subst (Q p e) zero (k p e)))

  -- a `case` of all of them
  pub case-added : (w : Written) (n : ℕ) (arms : List SvArm) (of : SvExpr) (old new : List SvStmt) → AllArms w n arms → n ≡ min o.size (2 ^ o.slot.width) → term_of of ≡ variable_of o.slot.variable → new ≡ old ++ variant.Case of arms ∷ []
      → (k : Pick) (e : Term) → Adds g views (o ∷ os) first (wanted_of w k e) old new
  case-added w n arms of old new h all is put k e =
      let z = wanted_of w k e in
      let cs = map body_code arms in
      let made : code_of (variant.Case of arms ∷ []) ≡ case_code o.slot cs = code-case of arms ∙ (λ i. Case (is i) (arms-code 0 z arms (h.1 k e) i) End) in
      record {
        code = case_code o.slot cs;
        behind = ap code_of put ∙ code-append old (variant.Case of arms ∷ []) ∙ ap (then_code (code_of old)) made;
        puts = puts-case g views o os first z cs (length-map arms body_code ∙ h.0 ∙ all) (arms-put 0 z arms (h.1 k e));
      }

  -- the body of an arm that began with nothing
  pub arm-of : (i at : ℕ) (z : Wanted) (label : SvLiteral) (old body : List SvStmt) → old ≡ [] → at ≡ first + i * o.stride → label.width ≡ o.slot.width → label.value.bits ≡ i → Adds g views os at z old body → IsArm g views o os first i z (roll-SvArm (record { label = label; body = body }))
  arm-of i at z label old body none is width number h =
      let P : ℕ → Type 0 = λ n. PutsElement g views os n z (code_of body) in
      let Q : Code → Type 0 = λ c. PutsElement g views os at z c in
      let whole : code_of body ≡ h.code = h.behind ∙ ap (λ ss. then_code (code_of ss) h.code) none in
      record { width = width; label = number; puts = subst P is (subst Q (sym whole) h.puts) }

-- all that was added to nothing
pub all-added : (g : Given) (views : List Seen) (os : List Opened) (first : ℕ) (z : Wanted) (old new : List SvStmt) → old ≡ [] → Adds g views os first z old new → PutsElement g views os first z (code_of new)
all-added g views os first z old new none h =
    let Q : Code → Type 0 = λ c. PutsElement g views os first z c in
    let whole : code_of new ≡ h.code = h.behind ∙ ap (λ ss. then_code (code_of ss) h.code) none in
    subst Q (sym whole) h.puts
