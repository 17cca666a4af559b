-- Texts of names tell the names.
use Rattle.std.proofs.Common.{◌≡◌, ℕ, true, false, List, ◌∷◌, ◌++◌, map, slice_get, Some, unwrap_or, sym, ap, ◌∙◌}
use Rattle.scc_base.specs.Names.{AllDiffer}
use Rattle.scc_core_spec.specs.Term.{CellName}
use Rattle.scc_core_spec.specs.Program.{Program, Cell, is_pointer}
use Rattle.scc_core_spec.specs.Constants.{name_text}
use Rattle.scc_lower_spec.specs.Parts.{text_at}
use Rattle.scc_lower_spec.proofs.Pieces.{joined_same}
use Rattle.scc_blocks_names.specs.Placed.{places_of, piece_of, Objects, AreApart, IsName, AreNamed}
use Rattle.scc_blocks_names.proofs.Texts.{text_joined}
use Rattle.scc_blocks_names.proofs.Marks.{is_whole, joined_whole, same_wholes, no_double}
use Rattle.scc_blocks_names.proofs.Alone.{same_name, same_places}

pub same_text : (names : List (List ℕ)) → AllDiffer names → (d : Objects) → AreApart d → (m n : CellName) → IsName names d m → IsName names d n → name_text (text_at names) m ≡ name_text (text_at names) n → m ≡ n
same_text names u d a m n h k e =
    same_name d a m n h.1 k.1
    (same_places (places_of m) (places_of n)
    (joined_same names u (map piece_of (places_of m)) (map piece_of (places_of n)) h.0 k.0 (sym (text_joined names d m h.1) ∙ e ∙ text_joined names d n k.1)))

pub whole : (names : List (List ℕ)) (d : Objects) (n : CellName) → IsName names d n → is_whole false (name_text (text_at names) n) ≡ true
whole names d n h = ap (is_whole false) (text_joined names d n h.1) ∙ joined_whole names (map piece_of (places_of n)) h.0

pub named_once : (names : List (List ℕ)) (d : Objects) (n : CellName) → IsName names d n → (a b : List ℕ) → name_text (text_at names) n ≡ a ++ 36 ∷ 36 ∷ b → ⊥
named_once names d n h a b e = no_double false a b (sym (ap (is_whole false) e) ∙ whole names d n h)

pub ends_told : (names : List (List ℕ)) → AllDiffer names → (d : Objects) → AreApart d → (m n : CellName) → IsName names d m → IsName names d n → (s t : List ℕ)
    → name_text (text_at names) m ++ 36 ∷ 36 ∷ s ≡ name_text (text_at names) n ++ 36 ∷ 36 ∷ t → (m ≡ n) × (s ≡ t)
ends_told names u d a m n h k s t e =
    let r = same_wholes false (name_text (text_at names) m) (name_text (text_at names) n) s t (whole names d m h) (whole names d n k) e in
    (same_text names u d a m n h k r.front, r.back)

pub same_cell : (names : List (List ℕ)) (d : Objects) (p : Program) → AreNamed names d p → (b c : ℕ) (x y : Cell) → slice_get p.cells b ≡ Some x → slice_get p.cells c ≡ Some y → is_pointer x.sort ≡ false → is_pointer y.sort ≡ false
    → name_text (text_at names) x.name ≡ name_text (text_at names) y.name → b ≡ c
same_cell names d p n b c x y e f g h t = n.cells_differ b c x y e f g h (same_text names n.table d n.apart x.name y.name (n.cells b x e g) (n.cells c y f h) t)

pub same_some : {A : Type 0} (x y : A) → Some x ≡ Some y → x ≡ y
same_some x y e = ap (λ o. unwrap_or o x) e
