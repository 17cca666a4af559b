-- The module: it is read as it is written, and what is written says which it is.
use Rattle.std.proofs.Common.{◌≡◌, ◌<◌, ℕ, Bool, true, false, List, [], ◌∷◌, ◌++◌, length, map, refl, sym, subst, ap, ◌∙◌}
use Rattle.std.specs.Prelude.{codes, flat_map}
use Rattle.scc_svtree.specs.declared.module.SvModule.{SvModule}
use Rattle.scc_svtree.specs.declared.module.SvVar.{SvVar}
use Rattle.scc_svtree.specs.declared.module.SvBlock.{SvBlock}
use Rattle.scc_svtree.specs.Variables.{width_at}
use Rattle.scc_svtree.specs.Concats.{block_concats}
use Rattle.scc_svtree.specs.Sound.{Each, IsSizedBlock, block_names, IsSound}
use Rattle.scc_svtext.specs.Fixed.{fixed_text}
use Rattle.scc_svtext.specs.Pieces.{spelled}
use Rattle.scc_svtext.specs.ModuleText.{names_of, ports_text, decl_text, block_text, module_text}
use Rattle.scc_svtext.specs.Emitted.{SvReads}
use Rattle.scc_svread_grammar.specs.declared.raw.RawVar.{RawVar}
use Rattle.scc_svread_grammar.specs.Lexical.{Bytes}
use Rattle.scc_svread_grammar.specs.Grammar.{ReadsItems, ReadsModule, Reads}
use Rattle.scc_svread_grammar.proofs.Whole as raw_whole
use Rattle.scc_svread_written.specs.Written.{raw_block, raw_blocks, raw_of}
use Rattle.scc_svread_written.specs.Resolved.{variable_of, block_of, blocks_in, module_of, declared, named, names_in, with_names}
use Rattle.scc_svread_written.proofs.Formed.{Formed, formed_of}
use Rattle.scc_svread_written.proofs.Sums.{two, seven}
use Rattle.scc_svread_written.proofs.Leaves.{bare_names}
use Rattle.scc_svread_written.proofs.Distinct.{names_after, names_kept}
use Rattle.scc_svread_written.proofs.Blocks.{ToldBlock, told_block}
use Rattle.scc_svread_written.proofs.Variables.{reads_ports, reads_declarations, variables_all, blocks_all, back_variables, back_names}

module _ (m : SvModule) (sound : Formed m) where
  abbrev vars : List SvVar
  vars = m.vars

  abbrev IsTold : SvBlock → Type 0
  IsTold b = ToldBlock vars sound.names sound.widths b

  told_each : (bs : List SvBlock) → Each (IsSizedBlock (width_at vars)) bs → ((v : ℕ) → Each (λ b. block_names b v ≡ true → v < length vars) bs) → Each (λ b. block_concats b ≡ true) bs → Each IsTold bs
  told_each [] s t h = tt
  told_each (b ∷ bs) s t h = (told_block vars sound.names sound.widths b s.0 (λ v. (t v).0) h.0, told_each bs s.1 (λ v. (t v).1) h.1)

  told : Each IsTold m.blocks
  told = told_each m.blocks sound.sizes sound.declared sound.concats

  -- ---- the text

  reads_blocks : (bs : List SvBlock) → Each IsTold bs → (begun : Bool) (r : Bytes) → ReadsItems begun (flat_map (block_text vars (names_of vars)) bs ++ r) r (raw_blocks vars bs)
  reads_blocks [] k begun r = ReadsItems.no_items
  reads_blocks (b ∷ bs) k begun r =
      let later : Bytes = flat_map (block_text vars (names_of vars)) bs in
      let p = k.0.reads (later ++ r) in
      let P : Bytes → Type 0 = λ ts. ReadsItems begun ts r (raw_blocks vars (b ∷ bs)) in
      subst P (sym (two (block_text vars (names_of vars) b) later r ∙ p.1)) (ReadsItems.block p.2 (reads_blocks bs k.1 true r))

  pub reads_formed : Reads (module_text m) (raw_of m)
  unfolding fixed_text
  reads_formed =
      let ports : Bytes = ports_text false vars in
      let declarations : Bytes = flat_map decl_text vars in
      let blocks : Bytes = flat_map (block_text vars (names_of vars)) m.blocks in
      let c : Bytes = declarations ++ (blocks ++ codes "endmodule\n") in
      let P : Bytes → Type 0 = λ ts. Reads ts (raw_of m) in
      subst P (sym (seven (codes "module ") (spelled m.name) (codes " (\n") ports (codes ");\n") declarations blocks (codes "endmodule\n")))
      (ReadsModule.whole (refl, sound.name) (reads_ports vars sound.widths sound.names (codes ");\n" ++ c))
      (reads_declarations vars sound.widths sound.names (reads_blocks m.blocks told false (codes "endmodule\n"))))

  -- ---- and back

  back_blocks : (bs : List SvBlock) → Each IsTold bs → map (block_of (bare_names vars)) (map (raw_block vars) bs) ≡ bs
  back_blocks [] k = refl
  back_blocks (b ∷ bs) k = ap (λ c. c ∷ map (block_of (bare_names vars)) (map (raw_block vars) bs)) k.0.back ∙ ap (λ cs. b ∷ cs) (back_blocks bs k.1)

  append_named : (us vs : List RawVar) → named us ++ named vs ≡ named (us ++ vs)
  append_named [] vs = refl
  append_named (u ∷ us) vs = ap (λ ns. u.name ∷ ns) (append_named us vs)

  same_names : names_in (raw_of m) ≡ bare_names vars
  same_names =
      names_after [] (named (raw_of m).ports) (named (declared (raw_of m).items)) ∙ ap (with_names []) (append_named (raw_of m).ports (declared (raw_of m).items))
      ∙ ap (λ vs. with_names [] (named vs)) (variables_all vars m.blocks vars sound.ports) ∙ ap (with_names []) (back_names vars) ∙ names_kept vars sound.names

  back_formed : module_of (raw_of m) ≡ m
  back_formed =
      ap (λ vs. record { name = m.name; vars = map variable_of vs; blocks = map (block_of (names_in (raw_of m))) (blocks_in (raw_of m).items) }) (variables_all vars m.blocks vars sound.ports)
      ∙ ap (λ vs. record { name = m.name; vars = vs; blocks = map (block_of (names_in (raw_of m))) (blocks_in (raw_of m).items) }) (back_variables vars sound.widths)
      ∙ ap (λ ns. record { name = m.name; vars = vars; blocks = map (block_of ns) (blocks_in (raw_of m).items) }) same_names
      ∙ ap (λ bs. record { name = m.name; vars = vars; blocks = map (block_of (bare_names vars)) bs }) (blocks_all vars m.blocks vars)
      ∙ ap (λ bs. record { name = m.name; vars = vars; blocks = bs }) (back_blocks m.blocks told)

pub reads_module : (many : Bool) (m : SvModule) → IsSound many m → Reads (module_text m) (raw_of m)
reads_module many m s = reads_formed m (formed_of s)

pub back_module : (many : Bool) (m : SvModule) → IsSound many m → module_of (raw_of m) ≡ m
back_module many m s = back_formed m (formed_of s)

-- ---- no bytes are two modules

read_as : (many : Bool) (bytes : Bytes) (m : SvModule) → SvReads many bytes m → Reads bytes (raw_of m)
read_as many bytes m d = let P : Bytes → Type 0 = λ ts. Reads ts (raw_of m) in subst P (sym d.text) (reads_module many m d.sound)

pub one_module : (many : Bool) (bytes : Bytes) (m n : SvModule) → SvReads many bytes m → SvReads many bytes n → m ≡ n
one_module many bytes m n d f =
    sym (back_module many m d.sound) ∙ ap module_of (raw_whole.one_module bytes (raw_of m) (raw_of n) (read_as many bytes m d) (read_as many bytes n f)) ∙ back_module many n f.sound
