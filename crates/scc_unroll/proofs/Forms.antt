-- Which loops are counted, test by test.
use Rattle.std.proofs.Common.{◌≡◌, refl, sym, ap, ◌∙◌, ℕ, Bool, true, false, ◌&&◌, not, if◌then◌else◌, List, map, slice_get, Option, Some, None, option_map}
use Rattle.std.specs.Prelude.{is_some}
use Rattle.std.proofs.lemmas.Option.{slice_get-map}
use Rattle.scc_core.specs.declared.program.Cell.{Cell as Held}
use Rattle.scc_core_view.specs.Programs.{cell_of}
use Rattle.scc_core_spec.specs.Code.{Code, End, Put, Aim, If, Block, Loop, Exit, Wait}
use Rattle.scc_core_spec.specs.Counted.{is_end, is_step, is_turn, is_turning, leaves_block, step_of, turn_of, turning_of}
use Rattle.scc_core_spec.specs.Counted as spec
use Rattle.scc_core_spec.specs.Term.{Term}
use Rattle.scc_base.specs.declared.refusal.Place.{Place}
use Rattle.scc_unroll.specs.declared.shape.Turning.{Turning}
use Rattle.scc_unroll.specs.Shape.{turned}

-- the cell that the code finds is that of the definition
pub held_at : (cells : List Held) (n : ℕ) (o : Option Held) → slice_get cells n ≡ o → slice_get (map cell_of cells) n ≡ option_map cell_of o
held_at cells n o e = slice_get-map cell_of cells n ∙ ap (option_map cell_of) e

-- ---- the form of a body

and_second : (a b : Bool) → (a && b) ≡ true → b ≡ true
and_second true b h = h
and_second false b h = absurd (cc h)

abbrev has_turning : Option spec.Turning → Bool
has_turning o = is_some o

step_there : (n : ℕ) (t : Term) (p : Place) (b c : Code) → is_step n c ≡ true → has_turning (step_of t p b c) ≡ true
step_there n t p b End h = absurd (cc h)
step_there n t p b (Put q l k e r) h = refl
step_there n t p b (Aim q to l r) h = absurd (cc h)
step_there n t p b (If q x y z r) h = absurd (cc h)
step_there n t p b (Block q x r) h = absurd (cc h)
step_there n t p b (Loop q m x r) h = absurd (cc h)
step_there n t p b (Exit q d r) h = absurd (cc h)
step_there n t p b (Wait q l m r) h = absurd (cc h)

turn_there : (n : ℕ) (t : Term) (c : Code) → is_turn n c ≡ true → has_turning (turn_of t c) ≡ true
turn_there n t End h = absurd (cc h)
turn_there n t (Put q l k e r) h = absurd (cc h)
turn_there n t (Aim q to l r) h = absurd (cc h)
turn_there n t (If q x y z r) h = absurd (cc h)
turn_there n t (Block q x r) h = step_there n t q x r h
turn_there n t (Loop q m x r) h = absurd (cc h)
turn_there n t (Exit q d r) h = absurd (cc h)
turn_there n t (Wait q l m r) h = absurd (cc h)

turning_there : (n : ℕ) (c : Code) → is_turning n c ≡ true → has_turning (turning_of c) ≡ true
turning_there n End h = absurd (cc h)
turning_there n (Put q l k e r) h = absurd (cc h)
turning_there n (Aim q to l r) h = absurd (cc h)
turning_there n (If q x y z r) h = turn_there n x r (and_second (leaves_block z) (is_turn n r) (and_second (is_end y) (leaves_block z && is_turn n r) h))
turning_there n (Block q x r) h = absurd (cc h)
turning_there n (Loop q m x r) h = absurd (cc h)
turning_there n (Exit q d r) h = absurd (cc h)
turning_there n (Wait q l m r) h = absurd (cc h)

some_if : (b : Bool) (o : Option spec.Turning) → (b ≡ true → has_turning o ≡ true) → has_turning (if b then o else None) ≡ b
some_if true o h = h refl
some_if false o h = refl

some_mapped : (o : Option Turning) → is_some o ≡ has_turning (option_map turned o)
some_mapped None = refl
some_mapped (Some t) = refl

-- a body whose parts are found has the form
pub form_found : (n : ℕ) (c : Code) (o : Option Turning) → option_map turned o ≡ (if is_turning n c then turning_of c else None) → is_some o ≡ is_turning n c
form_found n c o e = some_mapped o ∙ ap has_turning e ∙ some_if (is_turning n c) (turning_of c) (turning_there n c)

-- and these are its parts
pub parts_found : (b : Bool) (t : spec.Turning) (o : Option spec.Turning) → Some t ≡ (if b then o else None) → o ≡ Some t
parts_found true t o e = sym e
parts_found false t o e = absurd (cc e)

-- ---- all tests

and_regroup : (i k x : Bool) → ((i && k) && x) ≡ (i && (k && x))
and_regroup true k x = refl
and_regroup false k x = refl

abbrev tests : Bool → Bool → Bool → Bool → Bool → Bool → Bool → Bool → Bool
tests w s b p c l f d = not w && (s && (b && (p && (c && (l && (f && d))))))

pub all_tests : (i k : Bool) {w s b p c l f d u t a q m g e : Bool} → w ≡ u → s ≡ t → b ≡ a → p ≡ q → c ≡ (i && k) → l ≡ m → f ≡ g → d ≡ e
    → tests w s b p c l f d ≡ (not u && (t && (a && (q && (i && (k && (m && (g && e))))))))
all_tests i k {w = w} {s = s} {b = b} {p = p} {c = c} {l = l} {f = f} {d = d} {u = u} {t = t} {a = a} {q = q} {m = m} {g = g} {e = e} h1 h2 h3 h4 h5 h6 h7 h8 =
    ap (λ z. tests z s b p c l f d) h1 ∙ ap (λ z. tests u z b p c l f d) h2 ∙ ap (λ z. tests u t z p c l f d) h3 ∙ ap (λ z. tests u t a z c l f d) h4
    ∙ ap (λ z. tests u t a q z l f d) h5 ∙ ap (λ z. tests u t a q (i && k) z f d) h6 ∙ ap (λ z. tests u t a q (i && k) m z d) h7 ∙ ap (λ z. tests u t a q (i && k) m g z) h8
    ∙ ap (λ z. not u && (t && (a && (q && z)))) (and_regroup i k (m && (g && e)))

pub not_counted : {A : Type 0} (t : Bool) (x : A) → t ≡ false → None ≡ (if t then Some x else None)
not_counted true x h = absurd (cc h)
not_counted false x h = refl

pub is_counted : {A : Type 0} (t : Bool) (x : A) → t ≡ true → Some x ≡ (if t then Some x else None)
is_counted true x h = refl
is_counted false x h = absurd (cc h)
