-- Which combinational blocks feed which, as rows of numbers: what the search for cycles works on.
use Rattle.std.specs.Prelude.{ℕ, ◌+◌, ◌-◌, nat_eq, Bool, if◌then◌else◌, List, [], ◌∷◌, ◌++◌, length, replicate, slice_index_or, slice_set}
use Rattle.std.specs.List.{list_any}
use Rattle.scc_svtree.specs.declared.module.SvBlock.{SvBlock}
use Rattle.scc_svtree.specs.declared.module.SvBlock.TheVariants.{Comb, Edge}
use Rattle.scc_svtree_order.specs.VarLists.{all_read, all_assigned}

abbrev pub Rows : Type 0
Rows = List (List ℕ)

abbrev pub has : List ℕ → ℕ → Bool
has xs x = list_any (λ y. nat_eq y x) xs

abbrev pub row_at : Rows → ℕ → List ℕ
row_at t i = slice_index_or t i []

-- at least n rows
abbrev pub grown : ℕ → Rows → Rows
grown n t = t ++ replicate (n - length t) []

-- a row with a further number
abbrev pub put : ℕ → ℕ → Rows → Rows
put i x t = slice_set t i (row_at t i ++ x ∷ [])

-- a row that has a number
abbrev pub noted : ℕ → ℕ → Rows → Rows
noted i x t = if has (row_at t i) x then t else put i x (grown (i + 1) t)

-- ---- the blocks that assign each variable

abbrev pub owned_by : ℕ → List ℕ → Rows → Rows
owned_by k [] t = t
owned_by k (v ∷ vs) t = owned_by k vs (noted v k t)

abbrev pub owned_from : ℕ → List SvBlock → Rows → Rows
owned_from k [] t = t
owned_from k (Comb ss ∷ bs) t = owned_from (k + 1) bs (owned_by k (all_assigned ss) t)
owned_from k (Edge rising clock reset sets ∷ bs) t = owned_from k bs t

abbrev pub owners_of : List SvBlock → Rows
owners_of bs = owned_from 0 bs []

-- ---- the blocks that feed each block

-- the owners of a variable that block k reads, unless it is one of them
abbrev pub feeding : ℕ → List ℕ → List ℕ
feeding k owners = if has owners k then [] else owners

abbrev pub needs_of : Rows → ℕ → List ℕ → List ℕ
needs_of t k [] = []
needs_of t k (v ∷ vs) = feeding k (row_at t v) ++ needs_of t k vs

abbrev pub needs_from : Rows → ℕ → List SvBlock → Rows
needs_from t k [] = []
needs_from t k (Comb ss ∷ bs) = needs_of t k (all_read ss) ∷ needs_from t (k + 1) bs
needs_from t k (Edge rising clock reset sets ∷ bs) = needs_from t k bs

-- a row for each combinational block: those that feed it
abbrev pub graph_of : List SvBlock → Rows
graph_of bs = needs_from (owners_of bs) 0 bs
