-- Locals that lists of statements name, statement by statement.
use Rattle.std.proofs.Common.{◌≡◌, refl, sym, ap, subst, ◌∙◌, ℕ, List, [], ◌∷◌, ◌++◌, append_assoc}
use Rattle.scc_base.specs.declared.refusal.Place.{Place}
use Rattle.scc_semantics.specs.Location.{Root}
use Rattle.scc_plain_tree.specs.declared.stmt.PlainStmt.{PlainStmt, fold-roll-PlainStmt, ind-PlainStmt}
use Rattle.scc_plain_tree.specs.declared.stmt.PlainNode.{PlainNode, fold-PlainNode, fold-roll-PlainNode}
use Rattle.scc_plain_tree.specs.declared.stmt.PlainNode.TheOpen.{PlainNode-F, PlainStmt-F}
use Rattle.scc_plain_tree.specs.declared.stmt.PlainNode.TheOpen as node
use Rattle.scc_elab_spec.specs.Program.{Code, End}
use Rattle.scc_elab_spec.specs.Numbering.{Calling, declares, whole_local}
use Rattle.scc_plain_view.specs.Codes.{Node, before, code_of, stmt_code, stmt_node, stmt_step}
use Rattle.scc_plain_view.specs.Terms.{left_of, taken_of}
use Rattle.scc_inline.specs.Named.{added, one_more}

pub added_both : (rs xs ys : List Root) → added rs (xs ++ ys) ≡ added (added rs xs) ys
added_both rs [] ys = refl
added_both rs (x ∷ xs) ys = added_both (one_more rs x) xs ys

module _ (call : Calling) (i : ℕ) (cs : List ℕ) where
  abbrev named : Code → List Root
  named = declares call i cs

  nil_right : {A : Type 0} (xs : List A) → xs ++ [] ≡ xs
  nil_right [] = refl
  nil_right (x ∷ xs) = ap (λ ys. x ∷ ys) (nil_right xs)

  one : (w c : List Root) → w ++ c ≡ (w ++ []) ++ c
  one w c = ap (λ z. z ++ c) (sym (nil_right w))

  two : (v w c : List Root) → v ++ (w ++ c) ≡ (v ++ (w ++ [])) ++ c
  two v w c = sym (append_assoc v w c) ∙ ap (λ z. (v ++ z) ++ c) (sym (nil_right w))

  record Leads_on (g : Code → Code) : Type 0 where
    first : (c : Code) → named (g c) ≡ named (g End) ++ named c

  leads : (y : PlainNode-F Node (Code → Code)) (q : Place) → Leads_on (stmt_node y q)
  leads (node.Declare n) q = record { first = λ c. refl }
  leads (node.Assign l e) q = record { first = λ c. one (whole_local i cs (taken_of l).left) (named c) }
  leads (node.Point l t) q = record { first = λ c. one (whole_local i cs (left_of l)) (named c) }
  leads (node.Write l e) q = record { first = λ c. refl }
  leads (node.Call n f o args) q = record { first = λ c. one (call (n ∷ cs) f) (named c) }
  leads (node.If t a b) q = record { first = λ c. two (named (before a End)) (named (before b End)) (named c) }
  leads (node.Loop n b) q = record { first = λ c. one (named (before b End)) (named c) }
  leads (node.Block b) q = record { first = λ c. one (named (before b End)) (named c) }
  leads (node.Exit n) q = record { first = λ c. refl }
  leads (node.Return e) q = record { first = λ c. refl }
  leads (node.Wait n) q = record { first = λ c. refl }
  leads (node.Make l k args) q = record { first = λ c. refl }
  leads (node.Bind l to) q = record { first = λ c. refl }
  leads (node.Process t g e) q = record { first = λ c. refl }
  leads (node.Sense items) q = record { first = λ c. refl }
  leads node.Quiet q = record { first = λ c. refl }
  leads (node.Reset s e a) q = record { first = λ c. refl }

  abbrev node_fold : PlainNode → Node
  node_fold = fold-PlainNode Node (Code → Code) stmt_node stmt_step

  stmt_leads : (s : PlainStmt) → Leads_on (stmt_code s)
  stmt_leads = ind-PlainStmt (λ n. (q : Place) → Leads_on (node_fold n q)) (λ s. Leads_on (stmt_code s))
      (λ x y is q. subst (λ g. Leads_on (g q)) (sym (fold-roll-PlainNode Node (Code → Code) stmt_node stmt_step x)) (leads _ q))
      (λ x y is. subst (λ g. Leads_on g) (sym (fold-roll-PlainStmt Node (Code → Code) stmt_node stmt_step x)) (subst (λ n. Leads_on (node_fold n x.place)) (ap (λ z. z.node) is) (y.node.1 x.place)))

  pub first_named : (roots : List Root) (s : PlainStmt) (ss : List PlainStmt) → added roots (named (code_of (s ∷ ss))) ≡ added (added roots (named (stmt_code s End))) (named (code_of ss))
  first_named roots s ss = ap (added roots) ((stmt_leads s).first (code_of ss)) ∙ added_both roots (named (stmt_code s End)) (named (code_of ss))
