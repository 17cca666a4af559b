-- Cells whose names differ.
use Rattle.std.proofs.Common.{◌≡◌, ℕ, zero, suc, ◌+◌, Bool, true, false, not, List, [], ◌∷◌, Option, Some, None, refl, sym, ap, subst, ◌∙◌, arith}
use Rattle.std.specs.Prelude.{◌||◌, slice_get, option_map, if◌then◌else◌}
use Rattle.std.specs.List.{list_all}
use Rattle.scc_core_spec.specs.Term.{Left, Cell, Prefix, Null, Follow, Member, Index}
use Rattle.scc_core_spec.specs.Program as program
use Rattle.scc_core_spec.specs.Program.{is_pointer}
use Rattle.scc_core_spec.specs.Named.{Step, steps_of, names_cell, cell_at, fits, is_open}
use Rattle.scc_core_spec.specs.Static.{Cells}
use Rattle.scc_states_laws.proofs.Values.{some_same}
use Rattle.scc_core_spec.specs.OpenNames.{agrees, open_name, all_agreeing, passes, all_named}
use Rattle.scc_core_spec.specs.IsResolved.{cells_apart}
use Rattle.scc_core_resolved_laws.proofs.Bools.{and-first, and-second, or-second, not-false, not-true, all-at}
use Rattle.scc_core_resolved_laws.proofs.Agreeing.{agrees-closed, agrees-is, fits-is, fits-self, name-closed}

clash : (c x : program.Cell) → steps_of c.name ≡ steps_of x.name → not (fits (steps_of c.name) (steps_of x.name)) ≡ true → ⊥
clash c x e h =
    let f = not-false (fits (steps_of c.name) (steps_of x.name)) h in
    let g = subst (λ z. fits (steps_of c.name) z ≡ true) e (fits-self (steps_of c.name) (name-closed c.name)) in
    cc

-- two cells of one name are one
pub one-cell : (cs : Cells) (m n : ℕ) (c x : program.Cell) → cells_apart cs ≡ true → slice_get cs m ≡ Some c → slice_get cs n ≡ Some x → steps_of c.name ≡ steps_of x.name → m ≡ n
one-cell [] m n c x h f g e = absurd cc
one-cell (y ∷ ys) zero zero c x h f g e = refl
one-cell (y ∷ ys) zero (suc n) c x h f g e =
    let t = and-first (list_all (λ d. not (fits (steps_of y.name) (steps_of d.name))) ys) (cells_apart ys) h in
    absurd (clash y x (ap (λ z. steps_of z.name) (some_same f) ∙ e) (all-at (λ d. not (fits (steps_of y.name) (steps_of d.name))) ys n x t g))
one-cell (y ∷ ys) (suc m) zero c x h f g e =
    let t = and-first (list_all (λ d. not (fits (steps_of y.name) (steps_of d.name))) ys) (cells_apart ys) h in
    absurd (clash y c (ap (λ z. steps_of z.name) (some_same g) ∙ sym e) (all-at (λ d. not (fits (steps_of y.name) (steps_of d.name))) ys m c t f))
one-cell (y ∷ ys) (suc m) (suc n) c x h f g e = ap suc (one-cell ys m n c x (and-second (list_all (λ d. not (fits (steps_of y.name) (steps_of d.name))) ys) (cells_apart ys) h) f g e)

-- a cell that is found by its name
pub found-at : (cs : Cells) (m n : ℕ) (s : List Step) → cell_at false m s cs ≡ Some n → (k : ℕ) × (x : program.Cell) × (m + k ≡ n) × (slice_get cs k ≡ Some x) × (is_pointer x.sort ≡ false) × (fits s (steps_of x.name) ≡ true)
found-at [] m n s e = absurd cc
found-at (c ∷ cs) m n s e = by (names_cell false s c) refl e (found-at cs (m + 1) n s)
  where
    by : (b : Bool) → names_cell false s c ≡ b → (if b then Some m else cell_at false (m + 1) s cs) ≡ Some n
        → (cell_at false (m + 1) s cs ≡ Some n → (k : ℕ) × (x : program.Cell) × ((m + 1) + k ≡ n) × (slice_get cs k ≡ Some x) × (is_pointer x.sort ≡ false) × (fits s (steps_of x.name) ≡ true))
        → (k : ℕ) × (x : program.Cell) × (m + k ≡ n) × (slice_get (c ∷ cs) k ≡ Some x) × (is_pointer x.sort ≡ false) × (fits s (steps_of x.name) ≡ true)
    by true t h ih =
        let e' = some_same h in
        (0, c, omega (arith, e'), refl, not-false (is_pointer c.sort) (and-second (fits s (steps_of c.name)) (not (is_pointer c.sort)) t), and-first (fits s (steps_of c.name)) (not (is_pointer c.sort)) t)
    by false t h ih = let r = ih h in (suc r.0, r.1, omega (arith, r.2), r.3, r.4, r.5)

pub found-cell : (cs : Cells) (n : ℕ) (s : List Step) (x : program.Cell) → cell_at false 0 s cs ≡ Some n → slice_get cs n ≡ Some x → (is_pointer x.sort ≡ false) × (fits s (steps_of x.name) ≡ true)
found-cell cs n s x e g =
    let r = found-at cs 0 n s e in
    let k : r.0 ≡ n = omega (arith, r.2) in
    let same : r.1 ≡ x = some_same (sym r.3 ∙ (ap (slice_get cs) k ∙ g)) in
    (subst (λ z. is_pointer z.sort ≡ false) same r.4, subst (λ z. fits s (steps_of z.name) ≡ true) same r.5)

-- a cell of which a location is the name passes what each does that the location may name
pub named-passes : (cs : Cells) (test : program.Cell → Bool) (l : Left) (o s : List Step) (n : ℕ) (x : program.Cell) → cells_apart cs ≡ true → all_named cs test l ≡ true
    → open_name cs l ≡ Some o → agrees o s ≡ true → cell_at false 0 s cs ≡ Some n → slice_get cs n ≡ Some x → test x ≡ true
named-passes cs test l o s n x apart h oe ag ce g = by l h oe
  where
    told : (is_pointer x.sort ≡ false) × (fits s (steps_of x.name) ≡ true)
    told = found-cell cs n s x ce g

    same : s ≡ steps_of x.name
    same = fits-is s (steps_of x.name) (agrees-closed o s ag) told.1

    opened : (u : Option (List Step)) → all_agreeing cs test u ≡ true → u ≡ Some o → test x ≡ true
    opened None t e = absurd cc
    opened (Some v) t e =
        let two = all-at (λ c. not (agrees v (steps_of c.name)) || test c) cs n x t g in
        let a : agrees v (steps_of x.name) ≡ true = subst (λ z. agrees v z ≡ true) same (subst (λ z. agrees z s ≡ true) (sym (some_same e)) ag) in
        or-second (not (agrees v (steps_of x.name))) (test x) two (not-true (agrees v (steps_of x.name)) a)

    direct : (m : ℕ) (u : Option program.Cell) → slice_get cs m ≡ u → passes test u ≡ true → option_map (λ c. steps_of c.name) u ≡ Some o → test x ≡ true
    direct m None d t e = absurd cc
    direct m (Some c) d t e =
        let os : o ≡ s = agrees-is o s (subst (λ z. is_open z ≡ false) (some_same e) (name-closed c.name)) ag in
        let k = one-cell cs m n c x apart d g (some_same e ∙ (os ∙ same)) in
        let cx : c ≡ x = some_same (sym d ∙ (ap (slice_get cs) k ∙ g)) in
        subst (λ z. test z ≡ true) cx t

    by : (l : Left) → all_named cs test l ≡ true → open_name cs l ≡ Some o → test x ≡ true
    by (Cell p m) t e = direct m (slice_get cs m) refl t e
    by (Prefix p name) t e = opened (Some (steps_of name)) t e
    by (Null p) t e = absurd cc
    by (Follow p soft l) t e = absurd cc
    by (Member l name) t e = opened (open_name cs (Member l name)) t e
    by (Index l size i) t e = opened (open_name cs (Index l size i)) t e
