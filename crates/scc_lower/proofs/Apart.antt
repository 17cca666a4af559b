-- Names with equal parts are equal, where they can stand in one core.
use Rattle.std.proofs.Common.{◌≡◌, ℕ, List, [], ◌∷◌, ◌++◌, map, get_or, drop, Option, Some, None, refl, sym, ap, ◌∙◌, inl, inr}
use Rattle.std.specs.Prelude.{◌⊎◌}
use Rattle.std.proofs.lemmas.List.{append-nil}
use Rattle.scc_base.specs.Names.{AllDiffer}
use Rattle.scc_base.specs.declared.names.Name.{Name}
use Rattle.scc_base.specs.declared.path.PathPart.{PathPart}
use Rattle.scc_base.specs.declared.path.PathPart.TheVariants.{Member, Index}
use Rattle.scc_core.specs.declared.program.CellName.{CellName}
use Rattle.scc_lower_spec.proofs.Pieces.{joined_same}
use Rattle.scc_lower.specs.Names.{local_parts, parts_of, name_of, IsName, IsBelow, Pair, Together}

-- one of two paths that begin one list begins the other
comparable : (p q a b : List PathPart) → p ++ a ≡ q ++ b → IsBelow p q ⊎ IsBelow q p
comparable [] q a b e = inl (q, refl)
comparable (x ∷ p) [] a b e = inr (x ∷ p, refl)
comparable (x ∷ p) (y ∷ q) a b e =
    let same : x ≡ y = ap (λ l. get_or l 0 x) e in
    elim (comparable p q a b (ap (drop 1) e)) [
      | inl r ↦ inl (r.0, λ i. sym same i ∷ r.1 i)
      | inr r ↦ inr (r.0, λ i. same i ∷ r.1 i)
    ]

cancel : (p a b : List PathPart) → p ++ a ≡ p ++ b → a ≡ b
cancel [] a b e = e
cancel (x ∷ p) a b e = cancel p a b (ap (drop 1) e)

abbrev index_of : PathPart → ℕ
index_of (Member n) = n.0
index_of (Index i) = i

abbrev member_of : PathPart → Name
member_of (Member n) = n
member_of (Index i) = record { 0 = i }

indices_back : (ns : List ℕ) → map index_of (map Index ns) ≡ ns
indices_back [] = refl
indices_back (n ∷ ns) = ap (λ l. n ∷ l) (indices_back ns)

abbrev name_with : List PathPart → Option (ℕ × Name) → List ℕ → CellName
name_with p l is = record { path = p; local = l; indices = is }

regroup : (a b c : List PathPart) → (a ++ b) ++ c ≡ a ++ (b ++ c)
regroup [] b c = refl
regroup (x ∷ a) b c = ap (λ l. x ∷ l) (regroup a b c)

-- the parts of an object's name are its path
object_parts : (n : CellName) → n.local ≡ None → n.indices ≡ [] → parts_of n ≡ n.path
object_parts n e f = (λ i. (n.path ++ local_parts (e i)) ++ map Index (f i)) ∙ append-nil (n.path ++ []) ∙ append-nil n.path

local_is : (n : CellName) (l : ℕ × Name) → n.local ≡ Some l → parts_of n ≡ n.path ++ (Index l.0 ∷ Member l.1 ∷ map Index n.indices)
local_is n l e = ap (λ o. (n.path ++ local_parts o) ++ map Index n.indices) e ∙ regroup n.path (Index l.0 ∷ Member l.1 ∷ []) (map Index n.indices)

same_object : (m n : CellName) → m.local ≡ None → n.local ≡ None → m.indices ≡ [] → n.indices ≡ [] → parts_of m ≡ parts_of n → m ≡ n
same_object m n a b c d e =
    let path : m.path ≡ n.path = sym (object_parts m a c) ∙ e ∙ object_parts n b d in
    λ i. name_with (path i) ((a ∙ sym b) i) ((c ∙ sym d) i)

below : (m n : CellName) (l : ℕ × Name) → m.local ≡ Some l → n.local ≡ None → n.indices ≡ [] → parts_of m ≡ parts_of n → IsBelow m.path n.path
below m n l a b d e = (Index l.0 ∷ Member l.1 ∷ map Index m.indices, sym (object_parts n b d) ∙ sym e ∙ local_is m l a)

same_local : (m n : CellName) (k l : ℕ × Name) → m.local ≡ Some k → n.local ≡ Some l → m.path ≡ n.path → parts_of m ≡ parts_of n → m ≡ n
same_local m n k l a b path e =
    let rest : (Index k.0 ∷ Member k.1 ∷ map Index m.indices) ≡ (Index l.0 ∷ Member l.1 ∷ map Index n.indices) =
    cancel n.path (Index k.0 ∷ Member k.1 ∷ map Index m.indices) (Index l.0 ∷ Member l.1 ∷ map Index n.indices)
    (ap (λ p. p ++ (Index k.0 ∷ Member k.1 ∷ map Index m.indices)) (sym path) ∙ sym (local_is m k a) ∙ e ∙ local_is n l b) in
    let number : k.0 ≡ l.0 = ap (λ t. index_of (get_or t 0 (Index 0))) rest in
    let name : k.1 ≡ l.1 = ap (λ t. member_of (get_or t 1 (Index 0))) rest in
    let indices : m.indices ≡ n.indices = sym (indices_back m.indices) ∙ ap (λ t. map index_of (drop 2 t)) rest ∙ indices_back n.indices in
    ap (λ o. name_with m.path o m.indices) a ∙ (λ i. name_with (path i) (Some (number i, name i)) (indices i)) ∙ ap (λ o. name_with n.path o n.indices) (sym b)

same_parts : (m n : CellName) → Together m n → parts_of m ≡ parts_of n → m ≡ n
same_parts m n h e = by m.local n.local refl refl h
  where
    by : (a b : Option (ℕ × Name)) → m.local ≡ a → n.local ≡ b → Pair m n a b → m ≡ n
    by None None a b h = same_object m n a b h.0 h.1 e
    by (Some k) None a b h = absurd (h.1 (below m n k a b h.0 e))
    by None (Some l) a b h = absurd (h.1 (below n m l b a h.0 (sym e)))
    by (Some k) (Some l) a b h = elim h [
      | inl p ↦ same_local m n k l a b p e
      | inr p ↦ elim (comparable m.path n.path (Index k.0 ∷ Member k.1 ∷ map Index m.indices) (Index l.0 ∷ Member l.1 ∷ map Index n.indices) (sym (local_is m k a) ∙ e ∙ local_is n l b)) [
        | inl q ↦ absurd (p.0 q)
        | inr q ↦ absurd (p.1 q)
      ]
    ]

pub same_name : (names : List (List ℕ)) → AllDiffer names → (m n : CellName) → IsName names m → IsName names n → Together m n → name_of names m ≡ name_of names n → m ≡ n
same_name names d m n h k t e = same_parts m n t (joined_same names d (parts_of m) (parts_of n) h k e)
