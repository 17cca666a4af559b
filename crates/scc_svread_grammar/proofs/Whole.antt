-- A whole text: what is read, where a fault stands, and that no bytes are two modules.
use Rattle.std.specs.Prelude.{◌≡◌, ℕ, Bool, List, [], length, Option, Some, None, Result, Ok, Err, IfOk, IfErr}
use Rattle.std.proofs.Common.{sym, ◌∙◌, ap}
use Rattle.scc_reading.specs.Claim.{Verdict}
use Rattle.scc_reading.proofs.Complete.{verdict}
use Rattle.scc_reading.proofs.Unique.{Enough, flat, both, one_more, one_tree}
use Rattle.scc_reading.proofs.Whole.{verdict_at}
use Rattle.scc_svread_grammar.specs.declared.halt.Halt.{Halt}
use Rattle.scc_svread_grammar.specs.declared.halt.Halt.TheVariants as halt
use Rattle.scc_svread_grammar.specs.declared.raw.RawExpr.{RawExpr}
use Rattle.scc_svread_grammar.specs.declared.raw.RawStmt.{RawStmt}
use Rattle.scc_svread_grammar.specs.declared.raw.RawArm.{RawArm}
use Rattle.scc_svread_grammar.specs.declared.raw.RawSet.{RawSet}
use Rattle.scc_svread_grammar.specs.declared.raw.RawBlock.{RawBlock}
use Rattle.scc_svread_grammar.specs.declared.raw.RawItem.{RawItem}
use Rattle.scc_svread_grammar.specs.declared.raw.RawModule.{RawModule}
use Rattle.scc_svread_grammar.specs.Lexical.{Bytes}
use Rattle.scc_svread_grammar.specs.Grammar.{ReadsDivisor, ReadsExpr, ReadsParts, ReadsStmt, ReadsStmts, ReadsArms, ReadsSets, ReadsBlock, ReadsItems, ReadsModule, Reads}
use Rattle.scc_svread_grammar.specs.Levels.{deep_divisor, deep_expr, deep_parts, deep_stmt, deep_stmts, deep_arms, deep_sets, deep_block, deep_items, deep_module, deep}
use Rattle.scc_svread_grammar.specs.Answer.{Gives}
use Rattle.scc_svread_grammar.specs.Claim.{IsRead, FaultAt, Judged, IsAnswer, OneModule}
use Rattle.scc_svread_grammar.specs.Reader.{inner, module_at, reading}
use Rattle.scc_svread_grammar.proofs.SoundModule.{RModule, sound_module}
use Rattle.scc_svread_grammar.proofs.Closed.{sound}
use Rattle.scc_svread_grammar.proofs.CompleteModule.{complete_reading}

pub read_verdict : (n : ℕ) (ts : Bytes) → Verdict Reads (λ ts m d. deep n d) ts (reading n ts)
unfolding reading
read_verdict n ts = verdict_at Reads (λ ts m d. deep n d) 1 (RModule (inner n) (sound n)) (module_at (inner n)) (sound_module (inner n) (sound n)) (λ m ts d. d) (λ ts m d. complete_reading n d) ts

abbrev whole : RawModule → RawModule × Bytes
whole m = (m, [])

module _ (n : ℕ) (ts : Bytes) where
  pub found_read : (result : Result RawModule Halt) → Gives whole result (reading n ts) → IfOk result (λ m. IsRead n ts m)
  found_read (Ok m) h = rw h at (read_verdict n ts)
  found_read (Err e) h = tt

  pub found_fault : (result : Result RawModule Halt) → Gives whole result (reading n ts) → IfErr result (λ e. FaultAt n ts e)
  found_fault (Ok m) h = tt
  found_fault (Err halt.NoMemory) h = tt
  found_fault (Err (halt.Unexpected left)) h = (h.0, rw h.1 at (read_verdict n ts), h.2)
  found_fault (Err (halt.TooDeep left)) h = (h.0, rw h.1 at (read_verdict n ts), h.2)

  judged : (result : Result RawModule Halt) (v : Option Bytes) (m : RawModule) → reading n ts ≡ verdict v m [] → Gives whole result (reading n ts) → Judged v m result
  judged (Ok x) None m h g = let both : whole x ≡ whole m = cc in ap (λ p. p.0) both
  judged (Ok x) (Some at) m h g = cc
  judged (Err halt.NoMemory) None m h g = tt
  judged (Err halt.NoMemory) (Some at) m h g = tt
  judged (Err (halt.Unexpected left)) None m h g = let e = g.1 in cc
  judged (Err (halt.Unexpected left)) (Some at) m h g = let e = g.1 in cc
  judged (Err (halt.TooDeep left)) None m h g = let e = g.1 in cc
  judged (Err (halt.TooDeep left)) (Some at) m h g = let e : at ≡ g.0 = let k = g.1 in cc in g.2 ∙ ap length (sym e)

  pub found_only : (result : Result RawModule Halt) → Gives whole result (reading n ts) → (m : RawModule) (d : Reads ts m) → IsAnswer n d result
  found_only result g m d = judged result (deep n d) m (complete_reading n d).is g

-- ---- no bytes are two modules

enough_divisor : {ts r : Bytes} {x : RawExpr} (d : ReadsDivisor ts r x) → Enough (λ n. deep_divisor n d)
unfolding deep_divisor
enough_divisor (ReadsDivisor.plain l d) = flat
enough_divisor (ReadsDivisor.signed {a = a} l d) = one_more a flat

mutual
  unfolding deep_expr deep_parts

  enough_expr : {ts r : Bytes} {x : RawExpr} (d : ReadsExpr ts r x) → Enough (λ n. deep_expr n d)
  enough_expr (ReadsExpr.literal l d) = flat
  enough_expr (ReadsExpr.left l d) = flat
  enough_expr (ReadsExpr.unary {a = a} h d) = one_more a (enough_expr d)
  enough_expr (ReadsExpr.binary {a = a} {c = c} op d h f) = both (one_more a (enough_expr d)) (one_more c (enough_expr f))
  enough_expr (ReadsExpr.division {a = a} {c = c} op d h f) = both (one_more a (enough_expr d)) (one_more c (enough_divisor f))
  enough_expr (ReadsExpr.cond {a = a} {b = b} {c = c} d f g) = both (one_more a (enough_expr d)) (both (one_more b (enough_expr f)) (one_more c (enough_expr g)))
  enough_expr (ReadsExpr.concat {a = a} {b = b} d f g) = both (one_more a (enough_expr d)) (both (one_more b (enough_expr f)) (enough_parts g))
  enough_expr (ReadsExpr.cast {a = a} width h d) = one_more a (enough_expr d)
  enough_expr (ReadsExpr.sign {a = a} signed d) = one_more a (enough_expr d)

  enough_parts : {ts r : Bytes} {xs : List RawExpr} (d : ReadsParts ts r xs) → Enough (λ n. deep_parts n d)
  enough_parts (ReadsParts.no_parts) = flat
  enough_parts (ReadsParts.part {a = a} d more) = both (one_more a (enough_expr d)) (enough_parts more)

mutual
  unfolding deep_stmt deep_stmts deep_arms

  enough_stmt : {k : ℕ} {ts r : Bytes} {x : RawStmt} (d : ReadsStmt k ts r x) → Enough (λ n. deep_stmt n d)
  enough_stmt (ReadsStmt.assign {a = a} l h d) = one_more a (enough_expr d)
  enough_stmt (ReadsStmt.if_only {a = a} d body) = both (one_more a (enough_expr d)) (enough_stmts body)
  enough_stmt (ReadsStmt.if_else {a = a} d body other) = both (one_more a (enough_expr d)) (both (enough_stmts body) (enough_stmts other))
  enough_stmt (ReadsStmt.case {a = a} d arms) = both (one_more a (enough_expr d)) (enough_arms arms)

  enough_stmts : {k : ℕ} {ts r : Bytes} {xs : List RawStmt} (d : ReadsStmts k ts r xs) → Enough (λ n. deep_stmts n d)
  enough_stmts (ReadsStmts.no_stmts) = flat
  enough_stmts (ReadsStmts.stmt {a = a} d more) = both (one_more a (enough_stmt d)) (enough_stmts more)

  enough_arms : {k : ℕ} {ts r : Bytes} {xs : List RawArm} (d : ReadsArms k ts r xs) → Enough (λ n. deep_arms n d)
  enough_arms (ReadsArms.no_arms) = flat
  enough_arms (ReadsArms.one_arm l h body more) = both (enough_stmts body) (enough_arms more)

enough_sets : {k : ℕ} {ts r : Bytes} {xs : List RawSet} (d : ReadsSets k ts r xs) → Enough (λ n. deep_sets n d)
unfolding deep_sets
enough_sets (ReadsSets.no_sets) = flat
enough_sets (ReadsSets.set {b = b} w d more) = both (one_more b (enough_expr d)) (enough_sets more)

enough_block : {ts r : Bytes} {x : RawBlock} (d : ReadsBlock ts r x) → Enough (λ n. deep_block n d)
unfolding deep_block
enough_block (ReadsBlock.comb body) = enough_stmts body
enough_block (ReadsBlock.edge c sets) = enough_sets sets
enough_block (ReadsBlock.edge_or_reset x c s l values sets) = enough_sets sets

enough_items : {begun : Bool} {ts r : Bytes} {xs : List RawItem} (d : ReadsItems begun ts r xs) → Enough (λ n. deep_items n d)
unfolding deep_items
enough_items (ReadsItems.no_items) = flat
enough_items (ReadsItems.var v more) = enough_items more
enough_items (ReadsItems.block b more) = both (enough_block b) (enough_items more)

enough : {ts : Bytes} {m : RawModule} (d : Reads ts m) → Enough (λ n. deep n d)
unfolding deep deep_module
enough (ReadsModule.whole w vars items) = enough_items items

pub one_module : OneModule
one_module ts a b d e = one_tree reading ts a b (λ n. deep n d) (λ n. deep n e) (enough d) (enough e) (λ n. complete_reading n d) (λ n. complete_reading n e)
