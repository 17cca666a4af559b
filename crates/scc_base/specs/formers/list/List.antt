-- How a `List` stores its elements, so that a type may hold a list of itself: its value is the list of what its `Vec` holds.
use mathlib.Core.Path.{◌≡◌, refl, sym}
use mathlib.Core.List.{List, []}
use mathlib.Core.Former.{Former, this, list, via, children}
use base.Stored.{code_map}
use denote.RattleType.{RattleType}
use denote.HoleLaws.{Alike}
use denote.HolePlaces.{Recodes, struct_places, laid}
use denote.Hole.Carrier.{listed, list-listed}
use denote.Hole.Fix.{over}
use denote.Param.Weighed.{Weighed, w_list}
use denote.Model.Placed.{view_places}
use Rattle.std.specs.formers.vec.Vec as vec
use Rattle.std.specs.declared.alloc.Global.{Global}
use Rattle.std.specs.contracts.alloc.Global as heap
use Rattle.std.specs.contracts.impls.GlobalAllocator.TheImpl.{ghosts}
use Rattle.scc_base.specs.declared.list.List.TheInside.{Inside}
use Rattle.scc_base.specs.declared.list.List.TheView.{view, invariant}
use Rattle.scc_base.specs.contracts.list.List as outer
use Rattle.scc_base.specs.contracts.list.List.TheInside as inner

-- a value of a list of T is a list of values of T
abbrev pub the_former : Former {0} → Former {0}
the_former element = list element

abbrev pub the_weighed : {element : Former {0}} → Weighed element → Weighed (the_former element)
the_weighed weighed = w_list weighed

pub the_empty : List ⊥
the_empty = []

abbrev pub the_items : (X : Type 0) → List X → List X
the_items X xs = xs

pub the_items_listed : (X : Type 0) (xs : List X) → listed _ (children (the_former this) X xs) ≡ the_items X xs
the_items_listed X xs = list-listed X xs

-- the fields of the struct: one `Vec`
abbrev stored : Former {0}
stored = via (vec.the_former this Global) Inside (λ X inside. inside.items) (λ X items. record { items = items }) (λ X inside. refl) (λ X items. refl)

module _ (R S : RattleType) (h : R.Denot → S.Denot) where
  pub the_places : Alike R S h → Alike (outer.the_row R) (outer.the_row S) ((the_former this).map R.Denot S.Denot h)
  the_places alike = view_places stored (list this) view (λ X Y k inside. refl) (λ X inside. refl) R.Denot S.Denot h
      (outer.the_row R).coded (outer.the_row S).coded (invariant R.Denot) (invariant S.Denot)
      (λ inside p q. refl) (λ inside p q. refl) (λ inside e. tt) (λ inside e. tt)
      (over (inner.the_row R)) (over (inner.the_row S))
      (struct_places (inner.the_type R) (inner.the_type S) (vec.mapped h, tt) _ (λ xs. refl) refl
      (laid _ _ _ (vec.the_places heap.the_row ghosts R S h alike), tt))

  pub the_codes_placed : Recodes R S h → Recodes (outer.the_row R) (outer.the_row S) ((the_former this).map R.Denot S.Denot h)
  the_codes_placed recodes xs = sym (code_map R.coded.code S.coded.code h (λ x. sym (recodes x)) xs)
