-- Copies of what is asked of a core are asked of the core that has them.
use Rattle.std.proofs.Common.{◌≡◌, refl, sym, ap, subst, ◌∙◌, List, [], ◌∷◌, ◌++◌, map, inl, inr}
use Rattle.scc_core.specs.declared.program.Cell.{Cell}
use Rattle.scc_core.specs.declared.program.Core.{Core}
use Rattle.scc_core.specs.declared.program.CoreProcess.{CoreProcess}
use Rattle.scc_core.specs.Tables.{IsTable}
use Rattle.scc_pointers_walk.specs.declared.held.Resolver.{Resolver}
use Rattle.scc_pointers_laws.specs.Asked.{AreAsked, Asks}
use Rattle.scc_pointers_laws.specs.Counted.{AreAskedCounted, IsAskedCounted}
use Rattle.scc_pointers_laws.specs.Followed.{literal as literal_followed}
use Rattle.scc_pointers_laws.specs.Ready.{IsAsked, IsOfCore}
use Rattle.scc_unroll_asked.specs.Copied.{AreCopies, HaveCopies, IsCopy, OneOf, copied, copy, literal, same}
use Rattle.scc_unroll_asked.specs.Items.{AreAll, Item, asked}

-- of all, one
one_in : (Q : Item → Type 0) (x : Item) (xs : List Item) → AreAll Q xs → OneOf x xs → Q x
one_in Q x [] h o = absurd o
one_in Q x (y ∷ ys) h (inl e) = subst Q (sym e) h.0
one_in Q x (y ∷ ys) h (inr o) = one_in Q x ys h.1 o

one_of_mapped : (Q : Item → Type 0) (f : Item → Item) (x : Item) (xs : List Item) → AreAll Q (map f xs) → OneOf x xs → Q (f x)
one_of_mapped Q f x [] h o = absurd o
one_of_mapped Q f x (y ∷ ys) h (inl e) = subst (λ z. Q (f z)) (sym e) h.0
one_of_mapped Q f x (y ∷ ys) h (inr o) = one_of_mapped Q f x ys h.1 o

module _ (cells : List Cell) (r : Resolver) (xs : List Item) (h : AreAskedCounted cells r xs) where
  copy_asked : (y : Item) → IsCopy cells xs y → Asks r y
  copy_asked y (copy ns a x o) = one_of_mapped (Asks r) (copied ns) x xs (h.counted ns a) o
  copy_asked y (same x o) = one_in (Asks r) x xs h.plain o
  copy_asked y (literal p k w) = λ s b i. literal_followed p k w

  pub copies_asked : (ys : List Item) → AreAll (IsCopy cells xs) ys → AreAsked r ys
  copies_asked [] c = tt
  copies_asked (y ∷ ys) c = (copy_asked y c.0, copies_asked ys c.1)

-- ---- processes

abbrev first_of : CoreProcess → List CoreProcess → CoreProcess
first_of p [] = p
first_of p (q ∷ qs) = q

abbrev rest_of : List CoreProcess → List CoreProcess
rest_of [] = []
rest_of (q ∷ qs) = qs

-- the process of which one has copies
record Paired (cells : List Cell) (ps : List CoreProcess) (q : CoreProcess) : Type 0 where
  front : List CoreProcess
  back : List CoreProcess
  of : CoreProcess
  is : ps ≡ front ++ of ∷ back
  copies : AreCopies cells (asked of.body) q.body

module _ (cells : List Cell) where
  paired : (ps qs front back : List CoreProcess) (q : CoreProcess) → HaveCopies cells ps qs → qs ≡ front ++ q ∷ back → Paired cells ps q
  paired (p ∷ ps) (x ∷ qs) [] back q h e = record { front = []; back = ps; of = p; is = refl; copies = subst (λ z. AreCopies cells (asked p.body) z.body) (ap (first_of q) e) h.0 }
  paired (p ∷ ps) (x ∷ qs) (f ∷ front) back q h e =
      let m = paired ps qs front back q h.1 (ap rest_of e) in
      record { front = p ∷ m.front; back = m.back; of = m.of; is = ap (λ z. p ∷ z) m.is; copies = m.copies }
  paired [] [] [] back q h e = absurd cc
  paired [] [] (f ∷ front) back q h e = absurd cc
  paired [] (x ∷ qs) front back q h e = absurd h
  paired (p ∷ ps) [] front back q h e = absurd h

-- with the same cells and vectors
of_other : (c m : Core) (r : Resolver) → m.cells ≡ c.cells → m.vectors ≡ c.vectors → IsOfCore m r → IsOfCore c r
of_other c m r cells vectors o = record {
  seen = record {
    cells = o.seen.cells ∙ cells;
    vectors = o.seen.vectors ∙ vectors;
    table = subst (λ v. IsTable r.places.now c.cells v) vectors (subst (λ x. IsTable r.places.now x m.vectors) cells o.seen.table);
    places = λ p e. subst (λ v. IsTable p.now c.cells v) vectors (subst (λ x. IsTable p.now x m.vectors) cells (o.seen.places p e));
    counters = o.seen.counters;
  };
  local = o.local;
}

pub core_copies_asked : (c m : Core) → m.cells ≡ c.cells → m.vectors ≡ c.vectors → HaveCopies c.cells c.processes m.processes → IsAskedCounted c → IsAsked m
core_copies_asked c m cells vectors copies asks r o =
    let w = asks r (of_other c m r cells vectors o) in (
      w.0,
      λ front back q e. let p = paired c.cells c.processes m.processes front back q copies e in copies_asked c.cells r (asked p.of.body) (w.1 p.front p.back p.of p.is) (asked q.body) p.copies,
    )
