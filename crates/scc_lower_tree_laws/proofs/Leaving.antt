-- What is added one behind the other.
use Rattle.std.proofs.Common.{◌≡◌, ℕ, zero, suc, List, [], ◌∷◌, ◌++◌, Some, slice_get, refl, sym, ◌∙◌, ap, subst}
use Rattle.std.proofs.lemmas.List.{append_assoc, append-nil}
use Rattle.scc_core.specs.declared.program.Cell.{Cell as Held}
use Rattle.scc_svtree.specs.Code.{Code, End, Assign, If, Case}
use Rattle.scc_blocks_spec.specs.Shown.{Sight}
use Rattle.scc_lower_laws.specs.Sequence.{then_code}
use Rattle.scc_lower_tree_laws.specs.States.{State, Leaves, Sees, Seen, Agrees}

pub then-end : (c : Code) → then_code c End ≡ c
then-end End = refl
then-end (Assign l e r) = ap (λ z. Assign l e z) (then-end r)
then-end (If t a b r) = ap (λ z. If t a b z) (then-end r)
then-end (Case e arms r) = ap (λ z. Case e arms z) (then-end r)

pub then-then : (a b c : Code) → then_code (then_code a b) c ≡ then_code a (then_code b c)
then-then End b c = refl
then-then (Assign l e r) b c = ap (λ z. Assign l e z) (then-then r b c)
then-then (If t x y r) b c = ap (λ z. If t x y z) (then-then r b c)
then-then (Case e arms r) b c = ap (λ z. Case e arms z) (then-then r b c)

abbrev pub none-left : (a : State) → Leaves a a
none-left a = record { more = []; front = End; views = refl; exit = refl; temporaries = sym (append-nil a.temporaries); before = sym (then-end a.before) }

abbrev pub both-left : (a b c : State) → Leaves a b → Leaves b c → Leaves a c
both-left a b c h g = record {
  more = h.more ++ g.more;
  front = then_code h.front g.front;
  views = g.views ∙ h.views;
  exit = g.exit ∙ h.exit;
  temporaries = g.temporaries ∙ ap (λ ts. ts ++ g.more) h.temporaries ∙ append_assoc a.temporaries h.more g.more;
  before = g.before ∙ ap (λ z. then_code z g.front) h.before ∙ then-then a.before h.front g.front;
}

front-get : (ts us : List ℕ) (i w : ℕ) → slice_get ts i ≡ Some w → slice_get (ts ++ us) i ≡ Some w
front-get [] us i w e = absurd (cc)
front-get (t ∷ ts) us zero w e = e
front-get (t ∷ ts) us (suc i) w e = front-get ts us i w e

-- widths of earlier temporaries
pub agrees-before : (s : Sight) (width : ℕ → ℕ) (a b : State) → Leaves a b → Agrees s width b.temporaries → Agrees s width a.temporaries
agrees-before s width a b h f i w e = f i w (ap (λ ts. slice_get ts i) h.temporaries ∙ front-get a.temporaries h.more i w e)

pub sees-on : (cells : List Held) (s : Sight) (width : ℕ → ℕ) (a b : State) → Leaves a b → Sees cells a.views s width → Sees cells b.views s width
sees-on cells s width a b h f = let P : List Seen → Type 0 = λ vs. Sees cells vs s width in subst P (sym h.views) f
