-- What one block does to a valuation at an edge or by its reset, where x is what it reads and y what it changes.
use Rattle.scc_svtree.specs.Variables.{IsWidth}
use Rattle.scc_svtree.specs.declared.expr.VarId.{VarId}
use Rattle.std.specs.Prelude.{ℕ, ◌<◌, ◌^◌, nat_eq, Bool, cond, ◌||◌, List, [], ◌∷◌, Option, Some, None}
use Rattle.std.specs.List.{list_any}
use Rattle.scc_bits_kinds.specs.declared.kind.Word.{Word}
use Rattle.scc_svtree.specs.declared.module.SvBlock.{SvBlock}
use Rattle.scc_svtree.specs.declared.module.SvBlock.TheVariants.{Comb, Edge}
use Rattle.scc_svtree.specs.Steps.{or_old, reset_word, edge_word}

abbrev pub over : (ℕ → Option ℕ) → (ℕ → ℕ) → ℕ → ℕ
over f y v = or_old (f v) (y v)

abbrev pub reset_by : SvBlock → (ℕ → ℕ) → (ℕ → ℕ) → ℕ → ℕ
reset_by (Comb ss) x y = y
reset_by (Edge rising clock reset sets) x y = over (reset_word reset x) y

-- where these clocks have an edge
abbrev pub edge_by : (ℕ → ℕ) → (ℕ → Bool) → SvBlock → (ℕ → ℕ) → (ℕ → ℕ) → ℕ → ℕ
edge_by width clocks (Comb ss) x y = y
edge_by width clocks (Edge rising clock reset sets) x y = cond (clocks clock.0) (over (edge_word width reset sets x) y) y

-- whether a clock is in a list
abbrev pub is_listed : List VarId → ℕ → Bool
is_listed list v = list_any (λ c. nat_eq c.0 v) list

-- all clocks, or those of a list
abbrev pub ticking : Bool → List VarId → ℕ → Bool
ticking all list v = all || is_listed list v

-- the words that are handed in for these variables
abbrev pub handed : List VarId → List Word → ℕ → Option ℕ
handed [] ws v = None
handed (n ∷ ns) [] v = None
handed (n ∷ ns) (w ∷ ws) v = cond (nat_eq n.0 v) (Some w.bits) (handed ns ws v)

-- one fitting word for each
abbrev pub AreHanded : (ℕ → ℕ) → List VarId → List Word → Type 0
AreHanded width [] [] = Unit {0}
AreHanded width (n ∷ ns) (w ∷ ws) = IsWidth (width n.0) × (w.bits < 2 ^ width n.0) × AreHanded width ns ws
AreHanded width _ _ = ⊥
