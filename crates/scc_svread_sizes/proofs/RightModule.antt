-- The walk over sizes and undeclared names notes nothing in a module as it is written, where its parts are right.
use Rattle.std.proofs.Common.{◌≡◌, ◌<◌, ℕ, true, List, [], ◌∷◌, ◌++◌, length, map, sym, ap, subst, ◌∙◌, refl}
use Rattle.scc_svtree.specs.declared.module.SvModule.{SvModule}
use Rattle.scc_svtree.specs.declared.module.SvVar.{SvVar}
use Rattle.scc_svtree.specs.declared.module.SvBlock.{SvBlock}
use Rattle.scc_svtree.specs.Variables.{width_at}
use Rattle.scc_svtree.specs.Concats.{block_concats}
use Rattle.scc_svtree.specs.Sound.{Each, IsSizedBlock, block_names}
use Rattle.scc_svtext.specs.Pieces.{spelled}
use Rattle.scc_svread_grammar.specs.declared.raw.RawVar.{RawVar}
use Rattle.scc_svread_grammar.specs.declared.raw.RawItem.{RawItem}
use Rattle.scc_svread_grammar.specs.declared.raw.RawItem.TheVariants.{Var, Block}
use Rattle.scc_svread_check.specs.declared.walk.Walk.{Walk}
use Rattle.scc_svread_written.specs.Resolved.{declared, blocks_in}
use Rattle.scc_svread_check.specs.Scope.{Scope, declare, declare_all}
use Rattle.scc_svread_check.specs.Walking.{Walking, pass, start}
use Rattle.scc_svread_check.specs.Blocks.{var_walk, block_walk}
use Rattle.scc_svread_check.specs.First.{ports_walk, items_walk, names_with, scope_of, module_walk}
use Rattle.scc_svread_written.specs.Written.{raw_var, raw_block, raw_of}
use Rattle.scc_svread_written.proofs.Clear.{IsClear}
use Rattle.scc_svread_written.proofs.Formed.{Formed, Declares}
use Rattle.scc_svread_sizes.proofs.Declared.{AreDeclared, var_asks, ports_asks, split, declare_append, declared_written, declares_written}
use Rattle.scc_svread_written.proofs.Variables.{variables_all, blocks_all}
use Rattle.scc_svread_sizes.proofs.RightBlocks.{block_keeps}

-- the names behind items are those of their declarations
pub names_behind : (s : Scope) (xs : List RawItem) → names_with s xs ≡ declare_all s (declared xs)
names_behind s [] = refl
names_behind s (Var v ∷ more) = names_behind (declare s v) more
names_behind s (Block b ∷ more) = names_behind s more

-- a walk that notes nothing
abbrev Quiet : Walking → Type 0
Quiet p = (w : Walk) → IsClear w → IsClear (p w)

items_quiet : (before s : Scope) (xs : List RawItem) → AreDeclared before (declared xs) → Each (λ b. Quiet (block_walk s b)) (blocks_in xs) → Quiet (items_walk before s xs)
items_quiet before s [] d k w c = c
items_quiet before s (Var v ∷ more) d k w c = items_quiet (declare before v) s more d.2 k (pass 2 (var_walk before v (pass 8 w))) ((var_asks before v).kept (pass 8 w) c (d.0, d.1))
items_quiet before s (Block b ∷ more) d k w c = items_quiet before s more d k.1 (block_walk s b w) (k.0 w c)

module _ (m : SvModule) (f : Formed m) where
  abbrev vars : List SvVar
  vars = m.vars

  abbrev ports : List RawVar
  ports = (raw_of m).ports

  abbrev items : List RawItem
  items = (raw_of m).items

  same_variables : ports ++ declared items ≡ map raw_var vars
  same_variables = variables_all vars m.blocks vars f.ports

  scope_is : scope_of (raw_of m) ≡ declare_all [] (map raw_var vars)
  scope_is = names_behind (declare_all [] ports) items ∙ declare_append [] ports (declared items) ∙ ap (declare_all []) same_variables

  declares : Declares (scope_of (raw_of m)) vars
  declares = subst (λ s. Declares s vars) (sym scope_is) (declares_written vars f.names f.widths)

  parts : AreDeclared [] ports × AreDeclared (declare_all [] ports) (declared items)
  parts = split [] ports (declared items) (subst (AreDeclared []) (sym same_variables) (declared_written vars f.names f.widths))

  quiet_blocks : (bs : List SvBlock) → Each (IsSizedBlock (width_at vars)) bs → ((v : ℕ) → Each (λ b. block_names b v ≡ true → v < length vars) bs) → Each (λ b. block_concats b ≡ true) bs
      → Each (λ b. Quiet (block_walk (scope_of (raw_of m)) b)) (map (raw_block vars) bs)
  quiet_blocks [] s t h = tt
  quiet_blocks (b ∷ bs) s t h = (
    block_keeps vars f.names f.widths (scope_of (raw_of m)) declares b s.0 (λ v. (t v).0) h.0,
    quiet_blocks bs s.1 (λ v. (t v).1) h.1,
  )

  blocks : Each (λ b. Quiet (block_walk (scope_of (raw_of m)) b)) (blocks_in items)
  blocks = subst (Each (λ b. Quiet (block_walk (scope_of (raw_of m)) b))) (sym (blocks_all vars m.blocks vars)) (quiet_blocks m.blocks f.sizes f.declared f.concats)

  pub module_quiet : IsClear (module_walk (raw_of m) start)
  module_quiet =
      let named : Walk = pass 3 (pass (length (spelled m.name)) (pass 7 start)) in
      items_quiet (declare_all [] ports) (scope_of (raw_of m)) items parts.1 blocks (pass 3 (ports_walk [] ports named)) ((ports_asks [] ports).kept named (refl, refl) parts.0)
