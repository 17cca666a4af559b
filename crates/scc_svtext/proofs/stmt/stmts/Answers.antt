use Rattle.std.proofs.Common.{◌≡◌, ◌≤◌, ◌<◌, ◌+◌, ℕ, List, [], ◌∷◌, ◌++◌, length, append_assoc, ap, sym, ◌∙◌, arith}
use Rattle.std.proofs.lemmas.List.{append-nil}
use Rattle.scc_svtree.specs.declared.stmt.SvStmt.{SvStmt}
use Rattle.scc_svtree.specs.declared.stmt.SvArm.{SvArm}
use Rattle.scc_svtext.specs.declared.fixed.Fixed.TheVariants as piece
use Rattle.scc_svtext.specs.declared.task.Task.{Task}
use Rattle.scc_svtext.specs.declared.task.Task.TheVariants as task
use Rattle.scc_svtext.specs.Fixed.{fixed_text}
use Rattle.scc_svtext.specs.Pieces.{blanks}
use Rattle.scc_svtext.specs.StmtText.{arm_text, arms_text, otherwise_text, stmt_text, stmts_text}
use Rattle.scc_svtext.specs.Tasks.{rest_text, task_text, tasks_text}
use Rattle.scc_svtext.proofs.Grown.{grown, grown_some}
use Rattle.scc_svtext.proofs.Moved.{pushed_twice}
use Rattle.scc_svtext.proofs.MovedTasks.{Moved, moved, begun}
use Rattle.scc_svtext.proofs.stmt.stmts.Goals as goal

at_In_ok_line_in_Line : (c : goal.In_ok-line-in-Line) → Moved c.args.names.now c.loop-task.tasks.items (c.args.out.now ++ tasks_text c.args.names.now c.push.new.self.items) c.line.new.out c.pop.new.self.items
at_In_ok_line_in_Line c =
    let names = c.args.names.now in
    let out = c.loop-task.out in
    let inv = c.loop-task.invariant in
    let top = c.in-Some.ensures.items in
    let g : length out ≤ length c.line.new.out = grown _ _ _ c.in_ok-line-in-Line.ensures in
    moved names out c.line.new.out _ c.loop-task.tasks.items c.pop.new.self.items [] c.pop.new.self.items c.in-Some.task inv top (sym (append-nil c.pop.new.self.items))
    (append-nil c.line.new.out ∙ c.in_ok-line-in-Line.ensures ∙ ap (λ t. out ++ t) (sym (ap (task_text names) c.in-Line.is))) (omega (arith, g))

pub loop-task-preserved-in_ok-line-in-Line : goal.loop-task-preserved-in_ok-line-in-Line
loop-task-preserved-in_ok-line-in-Line c = (at_In_ok_line_in_Line c).text

pub loop-task-smaller-in_ok-line-in-Line : goal.loop-task-smaller-in_ok-line-in-Line
loop-task-smaller-in_ok-line-in-Line c = (at_In_ok_line_in_Line c).less

at_In_Nothing : (c : goal.In-Nothing) → Moved c.args.names.now c.loop-task.tasks.items (c.args.out.now ++ tasks_text c.args.names.now c.push.new.self.items) c.begin.new.out c.push-in-Some-split.new.self.items
at_In_Nothing c =
    let names = c.args.names.now in
    let out = c.loop-task.out in
    let inv = c.loop-task.invariant in
    let top = c.in-Some.ensures.items in
    let n = c.in-Stmts.indent in
    let s : SvStmt = c.in-Some-split.s.now in
    let m : List SvStmt = c.in-Some-split.more.now in
    let g = c.in_ok-begin-in-Stmts.ensures.grows in
    let p : stmt_text names s n ++ stmts_text names m n ≡ task_text names c.in-Some.task = ap (λ l. stmts_text names l n) (sym c.in-Some-split.ensures) ∙ sym (ap (task_text names) c.in-Stmts.is) in
    let b : c.begin.new.out ++ [] ≡ out ++ stmt_text names s n = ap (λ r. c.begin.new.out ++ rest_text names n r) (sym c.in-Nothing.is) ∙ c.in_ok-begin-in-Stmts.ensures.text in
    moved names out c.begin.new.out _ c.loop-task.tasks.items c.pop.new.self.items _ c.push-in-Some-split.new.self.items c.in-Some.task inv top c.in_ok-push-in-Stmts.ensures.items
    (begun out c.begin.new.out (stmt_text names s n) [] (stmts_text names m n) b ∙ ap (λ t. out ++ t) p) (omega (arith, g))

pub loop-task-preserved-in-Nothing : goal.loop-task-preserved-in-Nothing
loop-task-preserved-in-Nothing c = (at_In_Nothing c).text

pub loop-task-smaller-in-Nothing : goal.loop-task-smaller-in-Nothing
loop-task-smaller-in-Nothing c = (at_In_Nothing c).less

at_In_ok_extend_from_slice_in_If : (c : goal.In_ok-extend_from_slice-in-If) → Moved c.args.names.now c.loop-task.tasks.items (c.args.out.now ++ tasks_text c.args.names.now c.push.new.self.items) c.begin.new.out c.extend_from_slice.new.self.items
at_In_ok_extend_from_slice_in_If c =
    let names = c.args.names.now in
    let out = c.loop-task.out in
    let inv = c.loop-task.invariant in
    let top = c.in-Some.ensures.items in
    let n = c.in-Stmts.indent in
    let s : SvStmt = c.in-Some-split.s.now in
    let m : List SvStmt = c.in-Some-split.more.now in
    let g = c.in_ok-begin-in-Stmts.ensures.grows in
    let p : stmt_text names s n ++ stmts_text names m n ≡ task_text names c.in-Some.task = ap (λ l. stmts_text names l n) (sym c.in-Some-split.ensures) ∙ sym (ap (task_text names) c.in-Stmts.is) in
    let d = c.in_ok-deeper-in-If.field-0 in
    let yes_list : List SvStmt = c.in-If.yes.now in
    let no_list : List SvStmt = c.in-If.no.now in
    let y : List ℕ = stmts_text names yes_list (n + 2) in
    let e : List ℕ = otherwise_text names no_list n in
    let b : c.begin.new.out ++ (y ++ e ++ blanks n ++ fixed_text piece.End) ≡ out ++ stmt_text names s n = ap (λ r. c.begin.new.out ++ rest_text names n r) (sym c.in-If.is) ∙ c.in_ok-begin-in-Stmts.ensures.text in
    let k : List Task = task.Stmts c.in-Some-split.more n ∷ [] in
    let q : List Task = task.Line piece.End n ∷ task.Otherwise c.in-If.no n ∷ task.Stmts c.in-If.yes d ∷ [] in
    let t : tasks_text names (k ++ q) ≡ (y ++ e ++ blanks n ++ fixed_text piece.End) ++ stmts_text names m n =
    ap (λ i. ((stmts_text names yes_list i ++ e) ++ (blanks n ++ fixed_text piece.End)) ++ stmts_text names m n) c.in_ok-deeper-in-If.ensures
    ∙ ap (λ x. x ++ stmts_text names m n) (sym (append_assoc (y ++ e) (blanks n) (fixed_text piece.End))) in
    moved names out c.begin.new.out _ c.loop-task.tasks.items c.pop.new.self.items (k ++ q) c.extend_from_slice.new.self.items c.in-Some.task inv top
    (pushed_twice c.extend_from_slice.new.self.items c.push-in-Some-split.new.self.items c.pop.new.self.items k q c.in_ok-extend_from_slice-in-If.ensures.items c.in_ok-push-in-Stmts.ensures.items)
    (ap (λ x. c.begin.new.out ++ x) t ∙ begun out c.begin.new.out (stmt_text names s n) (y ++ e ++ blanks n ++ fixed_text piece.End) (stmts_text names m n) b ∙ ap (λ t. out ++ t) p) (omega (arith, g))

pub loop-task-preserved-in_ok-extend_from_slice-in-If : goal.loop-task-preserved-in_ok-extend_from_slice-in-If
loop-task-preserved-in_ok-extend_from_slice-in-If c = (at_In_ok_extend_from_slice_in_If c).text

pub loop-task-smaller-in_ok-extend_from_slice-in-If : goal.loop-task-smaller-in_ok-extend_from_slice-in-If
loop-task-smaller-in_ok-extend_from_slice-in-If c = (at_In_ok_extend_from_slice_in_If c).less

at_In_ok_extend_from_slice_in_Case : (c : goal.In_ok-extend_from_slice-in-Case) → Moved c.args.names.now c.loop-task.tasks.items (c.args.out.now ++ tasks_text c.args.names.now c.push.new.self.items) c.begin.new.out c.extend_from_slice-in-Case.new.self.items
at_In_ok_extend_from_slice_in_Case c =
    let names = c.args.names.now in
    let out = c.loop-task.out in
    let inv = c.loop-task.invariant in
    let top = c.in-Some.ensures.items in
    let n = c.in-Stmts.indent in
    let s : SvStmt = c.in-Some-split.s.now in
    let m : List SvStmt = c.in-Some-split.more.now in
    let g = c.in_ok-begin-in-Stmts.ensures.grows in
    let p : stmt_text names s n ++ stmts_text names m n ≡ task_text names c.in-Some.task = ap (λ l. stmts_text names l n) (sym c.in-Some-split.ensures) ∙ sym (ap (task_text names) c.in-Stmts.is) in
    let d = c.in_ok-deeper-in-Case.field-0 in
    let arm_list : List SvArm = c.in-Case.arms.now in
    let y : List ℕ = arms_text names arm_list (n + 2) in
    let b : c.begin.new.out ++ (y ++ blanks n ++ fixed_text piece.CaseEnd) ≡ out ++ stmt_text names s n = ap (λ r. c.begin.new.out ++ rest_text names n r) (sym c.in-Case.is) ∙ c.in_ok-begin-in-Stmts.ensures.text in
    let k : List Task = task.Stmts c.in-Some-split.more n ∷ [] in
    let q : List Task = task.Line piece.CaseEnd n ∷ task.Arms c.in-Case.arms d ∷ [] in
    let t : tasks_text names (k ++ q) ≡ (y ++ blanks n ++ fixed_text piece.CaseEnd) ++ stmts_text names m n =
    ap (λ i. (arms_text names arm_list i ++ (blanks n ++ fixed_text piece.CaseEnd)) ++ stmts_text names m n) c.in_ok-deeper-in-Case.ensures
    ∙ ap (λ x. x ++ stmts_text names m n) (sym (append_assoc y (blanks n) (fixed_text piece.CaseEnd))) in
    moved names out c.begin.new.out _ c.loop-task.tasks.items c.pop.new.self.items (k ++ q) c.extend_from_slice-in-Case.new.self.items c.in-Some.task inv top
    (pushed_twice c.extend_from_slice-in-Case.new.self.items c.push-in-Some-split.new.self.items c.pop.new.self.items k q c.in_ok-extend_from_slice-in-Case.ensures.items c.in_ok-push-in-Stmts.ensures.items)
    (ap (λ x. c.begin.new.out ++ x) t ∙ begun out c.begin.new.out (stmt_text names s n) (y ++ blanks n ++ fixed_text piece.CaseEnd) (stmts_text names m n) b ∙ ap (λ t. out ++ t) p) (omega (arith, g))

pub loop-task-preserved-in_ok-extend_from_slice-in-Case : goal.loop-task-preserved-in_ok-extend_from_slice-in-Case
loop-task-preserved-in_ok-extend_from_slice-in-Case c = (at_In_ok_extend_from_slice_in_Case c).text

pub loop-task-smaller-in_ok-extend_from_slice-in-Case : goal.loop-task-smaller-in_ok-extend_from_slice-in-Case
loop-task-smaller-in_ok-extend_from_slice-in-Case c = (at_In_ok_extend_from_slice_in_Case c).less

at_In_default_split : (c : goal.In_default-split) → Moved c.args.names.now c.loop-task.tasks.items (c.args.out.now ++ tasks_text c.args.names.now c.push.new.self.items) c.loop-task.out c.pop.new.self.items
at_In_default_split c =
    let names = c.args.names.now in
    let out = c.loop-task.out in
    let inv = c.loop-task.invariant in
    let top = c.in-Some.ensures.items in
    moved names out out _ c.loop-task.tasks.items c.pop.new.self.items [] c.pop.new.self.items c.in-Some.task inv top (sym (append-nil c.pop.new.self.items))
    (ap (λ l. out ++ stmts_text names l c.in-Stmts.indent) (sym c.in_default-split.ensures) ∙ ap (λ t. out ++ t) (sym (ap (task_text names) c.in-Stmts.is))) (omega arith)

pub loop-task-preserved-in_default-split : goal.loop-task-preserved-in_default-split
loop-task-preserved-in_default-split c = (at_In_default_split c).text

pub loop-task-smaller-in_default-split : goal.loop-task-smaller-in_default-split
loop-task-smaller-in_default-split c = (at_In_default_split c).less

at_In_ok_push_in_Otherwise : (c : goal.In_ok-push-in-Otherwise) → Moved c.args.names.now c.loop-task.tasks.items (c.args.out.now ++ tasks_text c.args.names.now c.push.new.self.items) c.line-in-Some-split-2.new.out c.push-in-Some-split-2.new.self.items
at_In_ok_push_in_Otherwise c =
    let names = c.args.names.now in
    let out = c.loop-task.out in
    let inv = c.loop-task.invariant in
    let top = c.in-Some.ensures.items in
    let n = c.in-Otherwise.indent in
    let list : List SvStmt = c.in-Otherwise.list.now in
    let head : List ℕ = blanks n ++ fixed_text piece.Else in
    let o : c.line-in-Some-split-2.new.out ≡ out ++ head = c.in_ok-line-in-Otherwise.ensures in
    let g : length out < length c.line-in-Some-split-2.new.out = grown_some _ _ (blanks n) piece.Else o in
    let t : head ++ stmts_text names list (n + 2) ≡ otherwise_text names list n =
    ap (λ l. head ++ stmts_text names l (n + 2)) c.in-Some-split-2.ensures ∙ ap (λ l. otherwise_text names l n) (sym c.in-Some-split-2.ensures) in
    moved names out c.line-in-Some-split-2.new.out _ c.loop-task.tasks.items c.pop.new.self.items _ c.push-in-Some-split-2.new.self.items c.in-Some.task inv top c.in_ok-push-in-Otherwise.ensures.items
    (ap (λ i. c.line-in-Some-split-2.new.out ++ stmts_text names list i) c.in_ok-deeper-in-Otherwise.ensures ∙ ap (λ x. x ++ stmts_text names list (n + 2)) o
    ∙ append_assoc out head (stmts_text names list (n + 2)) ∙ ap (λ x. out ++ x) (t ∙ sym (ap (task_text names) c.in-Otherwise.is))) (omega (arith, g))

pub loop-task-preserved-in_ok-push-in-Otherwise : goal.loop-task-preserved-in_ok-push-in-Otherwise
loop-task-preserved-in_ok-push-in-Otherwise c = (at_In_ok_push_in_Otherwise c).text

pub loop-task-smaller-in_ok-push-in-Otherwise : goal.loop-task-smaller-in_ok-push-in-Otherwise
loop-task-smaller-in_ok-push-in-Otherwise c = (at_In_ok_push_in_Otherwise c).less

at_In_default_split_2 : (c : goal.In_default-split-2) → Moved c.args.names.now c.loop-task.tasks.items (c.args.out.now ++ tasks_text c.args.names.now c.push.new.self.items) c.loop-task.out c.pop.new.self.items
at_In_default_split_2 c =
    let names = c.args.names.now in
    let out = c.loop-task.out in
    let inv = c.loop-task.invariant in
    let top = c.in-Some.ensures.items in
    moved names out out _ c.loop-task.tasks.items c.pop.new.self.items [] c.pop.new.self.items c.in-Some.task inv top (sym (append-nil c.pop.new.self.items))
    (ap (λ l. out ++ otherwise_text names l c.in-Otherwise.indent) (sym c.in_default-split-2.ensures) ∙ ap (λ t. out ++ t) (sym (ap (task_text names) c.in-Otherwise.is))) (omega arith)

pub loop-task-preserved-in_default-split-2 : goal.loop-task-preserved-in_default-split-2
loop-task-preserved-in_default-split-2 c = (at_In_default_split_2 c).text

pub loop-task-smaller-in_default-split-2 : goal.loop-task-smaller-in_default-split-2
loop-task-smaller-in_default-split-2 c = (at_In_default_split_2 c).less

at_In_ok_extend_from_slice_in_Arms : (c : goal.In_ok-extend_from_slice-in-Arms) → Moved c.args.names.now c.loop-task.tasks.items (c.args.out.now ++ tasks_text c.args.names.now c.push.new.self.items) c.begin_arm.new.out c.extend_from_slice-in-Some-split-3.new.self.items
at_In_ok_extend_from_slice_in_Arms c =
    let names = c.args.names.now in
    let out = c.loop-task.out in
    let inv = c.loop-task.invariant in
    let top = c.in-Some.ensures.items in
    let n = c.in-Arms.indent in
    let a : SvArm = c.in-Some-split-3.arm.now in
    let m : List SvArm = c.in-Some-split-3.more.now in
    let g = c.in_ok-body-in-Arms.ensures.grows in
    let body : List SvStmt = c.in_ok-body-in-Arms.body.now in
    let p : arm_text names a n ++ arms_text names m n ≡ task_text names c.in-Some.task = ap (λ l. arms_text names l n) (sym c.in-Some-split-3.ensures) ∙ sym (ap (task_text names) c.in-Arms.is) in
    let rest : List ℕ = stmts_text names body (n + 2) ++ blanks n ++ fixed_text piece.End in
    let b : c.begin_arm.new.out ++ rest ≡ out ++ arm_text names a n = c.in_ok-body-in-Arms.ensures.text in
    let t : (stmts_text names body c.in_ok-deeper-in-Arms.field-0 ++ (blanks n ++ fixed_text piece.End)) ++ arms_text names m n ≡ rest ++ arms_text names m n =
    ap (λ i. (stmts_text names body i ++ (blanks n ++ fixed_text piece.End)) ++ arms_text names m n) c.in_ok-deeper-in-Arms.ensures
    ∙ ap (λ x. x ++ arms_text names m n) (sym (append_assoc (stmts_text names body (n + 2)) (blanks n) (fixed_text piece.End))) in
    moved names out c.begin_arm.new.out _ c.loop-task.tasks.items c.pop.new.self.items _ c.extend_from_slice-in-Some-split-3.new.self.items c.in-Some.task inv top c.in_ok-extend_from_slice-in-Arms.ensures.items
    (ap (λ x. c.begin_arm.new.out ++ x) t ∙ begun out c.begin_arm.new.out (arm_text names a n) rest (arms_text names m n) b ∙ ap (λ t. out ++ t) p) (omega (arith, g))

pub loop-task-preserved-in_ok-extend_from_slice-in-Arms : goal.loop-task-preserved-in_ok-extend_from_slice-in-Arms
loop-task-preserved-in_ok-extend_from_slice-in-Arms c = (at_In_ok_extend_from_slice_in_Arms c).text

pub loop-task-smaller-in_ok-extend_from_slice-in-Arms : goal.loop-task-smaller-in_ok-extend_from_slice-in-Arms
loop-task-smaller-in_ok-extend_from_slice-in-Arms c = (at_In_ok_extend_from_slice_in_Arms c).less

at_In_default_split_3 : (c : goal.In_default-split-3) → Moved c.args.names.now c.loop-task.tasks.items (c.args.out.now ++ tasks_text c.args.names.now c.push.new.self.items) c.loop-task.out c.pop.new.self.items
at_In_default_split_3 c =
    let names = c.args.names.now in
    let out = c.loop-task.out in
    let inv = c.loop-task.invariant in
    let top = c.in-Some.ensures.items in
    moved names out out _ c.loop-task.tasks.items c.pop.new.self.items [] c.pop.new.self.items c.in-Some.task inv top (sym (append-nil c.pop.new.self.items))
    (ap (λ l. out ++ arms_text names l c.in-Arms.indent) (sym c.in_default-split-3.ensures) ∙ ap (λ t. out ++ t) (sym (ap (task_text names) c.in-Arms.is))) (omega arith)

pub loop-task-preserved : goal.loop-task-preserved
loop-task-preserved c = (at_In_default_split_3 c).text

pub loop-task-smaller : goal.loop-task-smaller
loop-task-smaller c = (at_In_default_split_3 c).less
