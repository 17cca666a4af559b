-- A copied core's names tell its processes and locals apart.
use Rattle.std.proofs.Common.{◌≡◌, ℕ, zero, suc, ◌+◌, Bool, true, false, List, [], ◌∷◌, ◌++◌, map, Option, Some, None, option_map, slice_get, unwrap_or, refl, sym, ap, ◌∙◌, subst, arith}
use Rattle.std.specs.Prelude.{if◌then◌else◌}
use Rattle.scc_semantics.specs.Location.{Root, Part}
use Rattle.scc_core_spec.specs.Program as prog
use Rattle.scc_core_spec.specs.Static.{Cells}
use Rattle.scc_core_spec.specs.Source.{process_named}
use Rattle.scc_elab_spec.specs.Program.{Plain, Member}
use Rattle.scc_elab_spec.specs.Design as design
use Rattle.scc_elab_spec.specs.Design.{Design, Object, Node, Module, Port, Signal, Variable, Pointer, is_module}
use Rattle.scc_elab_spec.specs.Types.{is_direct}
use Rattle.scc_elab_spec.specs.Cells.{object_cell, object_cells, cells_from}
use Rattle.scc_elab_spec.specs.Numbering.{numbered}
use Rattle.scc_elab_spec.specs.Bodies.{elements}
use Rattle.scc_inline_spec.specs.Inlined.{member_of_root, own_cell, own_cells, all_cells, process_path, copied_process, copied_from, copied_program}
use Rattle.scc_core_unroll_laws.specs.Named.{IsLocal, AllLocal, IsNamed}
use Rattle.scc_inline_laws.specs.OrderlyDesign.{IsOrderly}
use Rattle.scc_inline_laws.proofs.FoundAll.{named}
use Rattle.scc_inline_laws.proofs.Found.{cells-none, cells-some}

local-append : (a b : Cells) → AllLocal a → AllLocal b → AllLocal (a ++ b)
local-append [] b x y = y
local-append (c ∷ a) b x y = (x.0, local-append a b x.1 y)

-- a copied process is that of a process
pub copied-at : (p : Plain) (d : Design) (i n : ℕ) (qs : List design.Process) (x : prog.Process) → slice_get (copied_from p d i qs) n ≡ Some x → (q : design.Process) × (slice_get qs n ≡ Some q) × (copied_process p d (i + n) q ≡ x)
copied-at p d i n [] x e = absurd cc
copied-at p d i zero (q ∷ qs) x e = let z : i + 0 ≡ i = omega arith in let y : copied_process p d i q ≡ x = cc in (q, refl, ap (λ i. copied_process p d i q) z ∙ y)
copied-at p d i (suc n) (q ∷ qs) x e = let z : i + suc n ≡ suc i + n = omega arith in let u = copied-at p d (suc i) n qs x e in (u.0, u.1, ap (λ i. copied_process p d i u.0) z ∙ u.2)

module _ (p : Plain) (d : Design) where
  own-local : (i n : ℕ) (path : List Part) (m : Member) (all : List (List ℕ)) → AllLocal (map (own_cell path i n m) all)
  own-local i n path m [] = tt
  own-local i n path m (is ∷ all) = ((λ o plain e. by (is_direct m.shape.reach) plain), own-local i n path m all)
    where
      by : (b : Bool) → prog.is_pointer (if b then prog.Local i else prog.Pointer None) ≡ false → prog.is_local (if b then prog.Local i else prog.Pointer None) ≡ true
      by true e = refl
      by false e = absurd cc

  process-local : (i f : ℕ) (path : List Part) (n : ℕ) (rs : List Root) → AllLocal (own_cells p i f path n rs)
  process-local i f path n [] = tt
  process-local i f path n (r ∷ rs) = local-append (unwrap_or (option_map (λ m. map (own_cell path i n m) (elements m.shape.sizes)) (member_of_root p f r)) []) (own_cells p i f path (suc n) rs) (by (member_of_root p f r)) (process-local i f path (suc n) rs)
    where
      by : (o : Option Member) → AllLocal (unwrap_or (option_map (λ m. map (own_cell path i n m) (elements m.shape.sizes)) o) [])
      by None = tt
      by (Some m) = own-local i n path m (elements m.shape.sizes)

  all-local : (i : ℕ) (qs : List design.Process) → AllLocal (all_cells p d i qs)
  all-local i [] = tt
  all-local i (q ∷ qs) = local-append (own_cells p i q.function (process_path p d q) 0 (numbered p i q.function)) (all_cells p d (suc i) qs) (process-local i q.function (process_path p d q) 0 (numbered p i q.function)) (all-local (suc i) qs)

  -- an object's name is no local's
  object-local : (n : ℕ) (os : List Object) → AllLocal (cells_from p d n os)
  object-local n [] = tt
  object-local n (o ∷ os) = by o.node refl (object-local (suc n) os)
    where
      none : (c : prog.Cell) → c.name.own ≡ None → IsLocal c
      none c h o plain e = let z : None ≡ Some o = sym h ∙ e in absurd cc

      some : (c : prog.Cell) → object_cell p d n o o.node ≡ Some c → c.name.own ≡ None → AllLocal (cells_from p d (suc n) os) → AllLocal (cells_from p d n (o ∷ os))
      some c at h ih = subst AllLocal (sym (cells-some p d n o os c at)) (none c h, ih)

      by : (u : Node) → o.node ≡ u → AllLocal (cells_from p d (suc n) os) → AllLocal (cells_from p d n (o ∷ os))
      by (Module k) e ih = subst AllLocal (sym (cells-none p d n o os (ap (object_cell p d n o) e))) ih
      by (Port k output root) e ih = some _ (ap (object_cell p d n o) e) refl ih
      by (Signal k) e ih = some _ (ap (object_cell p d n o) e) refl ih
      by (Variable k word) e ih = some _ (ap (object_cell p d n o) e) refl ih
      by (Pointer root) e ih = some _ (ap (object_cell p d n o) e) refl ih

  pub is-named : IsOrderly p d → IsNamed (copied_program p d)
  is-named ord = record {
    processes = λ i x g.
        let u = copied-at p d 0 i d.processes x g in
        ap (λ x. process_named 0 x.name.path (copied_program p d).processes) (sym u.2) ∙ named p d ord i u.0 u.1;
    locals = local-append (object_cells p d) (all_cells p d 0 d.processes) (object-local 0 d.objects) (all-local 0 d.processes);
  }
