-- The combinational blocks among all blocks of a module.
use Rattle.std.proofs.Common.{◌≡◌, ◌<◌, ℕ, zero, suc, Bool, List, [], ◌∷◌, length, refl, ap, ◌∙◌, arith}
use Rattle.scc_svtree.specs.declared.module.SvModule.{SvModule}
use Rattle.scc_svtree.specs.declared.module.SvBlock.{SvBlock}
use Rattle.scc_svtree.specs.declared.module.SvBlock.TheVariants.{Comb, Edge}
use Rattle.scc_svtree.specs.Mentions.{assigns}
use Rattle.scc_svtree.specs.Fresh.{IsFresh}
use Rattle.scc_svtree.specs.Variables.{width_at}
use Rattle.scc_svtree.specs.Settled.{combs_of, block_at, AreCombinational, SettlesOnce}
use Rattle.scc_svtree.specs.Sound.{Each, IsSound, IsFreshBlock, block_assigns, at_block}
use Rattle.scc_svtree.proofs.Settling.{settles_once}

-- where a combinational block stands among all
abbrev place : List SvBlock → ℕ → ℕ
place [] j = j
place (Comb ss ∷ bs) zero = zero
place (Comb ss ∷ bs) (suc j) = suc (place bs j)
place (Edge rising clock reset sets ∷ bs) j = suc (place bs j)

within : (bs : List SvBlock) (j : ℕ) → j < length (combs_of bs) → place bs j < length bs
within [] j h = absurd (omega arith)
within (Comb ss ∷ bs) zero h = omega arith
within (Comb ss ∷ bs) (suc j) h = let r = within bs j (omega arith) in omega arith
within (Edge rising clock reset sets ∷ bs) j h = let r = within bs j h in omega arith

one_place : (bs : List SvBlock) (j k : ℕ) → place bs j ≡ place bs k → j ≡ k
one_place [] j k e = e
one_place (Comb ss ∷ bs) zero zero e = refl
one_place (Comb ss ∷ bs) zero (suc k) e = absurd (omega arith)
one_place (Comb ss ∷ bs) (suc j) zero e = absurd (omega arith)
one_place (Comb ss ∷ bs) (suc j) (suc k) e = ap (λ n. suc n) (one_place bs j k (omega arith))
one_place (Edge rising clock reset sets ∷ bs) j k e = one_place bs j k (omega arith)

same_assigns : (bs : List SvBlock) (j v : ℕ) → j < length (combs_of bs) → block_assigns (at_block bs (place bs j)) v ≡ assigns (block_at (combs_of bs) j) v
same_assigns [] j v h = absurd (omega arith)
same_assigns (Comb ss ∷ bs) zero v h = refl
same_assigns (Comb ss ∷ bs) (suc j) v h = same_assigns bs j v (omega arith)
same_assigns (Edge rising clock reset sets ∷ bs) j v h = same_assigns bs j v h

fresh_at : (bs : List SvBlock) → Each IsFreshBlock bs → (j : ℕ) → j < length (combs_of bs) → IsFresh (block_at (combs_of bs) j)
fresh_at [] a j h = absurd (omega arith)
fresh_at (Comb ss ∷ bs) a zero h = a.0
fresh_at (Comb ss ∷ bs) a (suc j) h = fresh_at bs a.1 j (omega arith)
fresh_at (Edge rising clock reset sets ∷ bs) a j h = fresh_at bs a.1 j h

pub are_combinational : (many : Bool) (m : SvModule) → IsSound many m → AreCombinational (combs_of m.blocks)
are_combinational many m s = record {
  drivers = λ j k v l n a b. one_place m.blocks j k (s.one_driver (place m.blocks j) (place m.blocks k) v (within m.blocks j l) (within m.blocks k n) (same_assigns m.blocks j v l ∙ a) (same_assigns m.blocks k v n ∙ b));
  fresh = fresh_at m.blocks s.fresh;
  order = s.order;
}

pub sound_settles : (many : Bool) (m : SvModule) → IsSound many m → (given : ℕ → ℕ) → SettlesOnce (width_at m.vars) (combs_of m.blocks) given
sound_settles many m s = settles_once (width_at m.vars) (combs_of m.blocks) (are_combinational many m s)
