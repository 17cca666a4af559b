-- What is held at a statement begins with what is held before it.
use Rattle.std.proofs.Common.{◌≡◌, refl, sym, ap, ◌∙◌, List, [], ◌∷◌, ◌++◌}
use Rattle.std.specs.Prelude.{filter, option_map, map, nat_eq}
use Rattle.std.specs.Map.{lookup}
use Rattle.std.specs.Iterator.{Yields}
use Rattle.std.specs.Vec.Iter.{into_iter_items, into_iter_steps}
use Rattle.std.specs.declared.vec.IntoIter.{IntoIter}
use Rattle.scc_core.specs.declared.program.CoreProcess.{CoreProcess}
use Rattle.scc_core_spec.specs.Program.{Process, Program}
use Rattle.scc_core_spec.specs.Renumbered.{is_kept_cell}
use Rattle.scc_core_view.specs.Programs.{cell_of, vector_of}
use Rattle.scc_pointers_walk.specs.declared.held.Resolver.{Resolver}
use Rattle.scc_pointers_walk.specs.Led.{leads_of, target_of}
use Rattle.scc_pointers_laws.specs.Stated.{Begins}
use Rattle.scc_pointers.specs.Resolved.{Title, title_of}

pub begins_itself : {X : Type 0} (a : List X) → Begins a a
begins_itself [] = refl
begins_itself (x ∷ a) = ap (λ l. x ∷ l) (begins_itself a)

pub begins_more : {X : Type 0} (a b : List X) → Begins a (a ++ b)
begins_more [] b = refl
begins_more (x ∷ a) b = ap (λ l. x ∷ l) (begins_more a b)

abbrev head_or : {X : Type 0} → X → List X → X
head_or x [] = x
head_or x (y ∷ l) = y

abbrev tail_of : {X : Type 0} → List X → List X
tail_of [] = []
tail_of (y ∷ l) = l

pub begins_then : {X : Type 0} (a b c : List X) → Begins a b → Begins b c → Begins a c
begins_then [] b c h g = refl
begins_then (x ∷ a) [] c h g = absurd cc
begins_then (x ∷ a) (y ∷ b) [] h g = absurd cc
begins_then (x ∷ a) (y ∷ b) (z ∷ c) h g = (λ i. (ap (head_or x) g ∙ ap (head_or x) h) i ∷ begins_then a b c (ap tail_of h) (ap tail_of g) i)

-- where the same is held, pointers lead the same
pub same_leads : (a b : Resolver) → a.known ≡ b.known → a.vectors ≡ b.vectors → a.held.entries ≡ b.held.entries → leads_of a ≡ leads_of b
same_leads a b k v h = λ i. record {
  cells = map cell_of (k i).cells.now;
  vectors = map vector_of (v i).now;
  local = λ n. option_map target_of (lookup (nat_eq n) (h i));
}

-- what the iterator of a vector has given is a front of its elements
pub given_front : {X A : Type 0} (s : IntoIter X A) (xs : List X) (t : IntoIter X A) → Yields into_iter_steps s xs t → into_iter_items s ≡ xs ++ into_iter_items t
given_front s [] t y = ap into_iter_items y
given_front s (x ∷ xs) t y = y.1.0 ∙ ap (λ ys. x ∷ ys) (given_front y.0 xs t y.2)

map_one : {A B : Type 0} (f : A → B) (ys : List A) (p : A) → map f (ys ++ p ∷ []) ≡ map f ys ++ f p ∷ []
map_one f [] p = refl
map_one f (y ∷ ys) p = ap (λ l. f y ∷ l) (map_one f ys p)

pub titles_more : (g : CoreProcess → Title) (os us ys : List CoreProcess) (n p : CoreProcess) → us ≡ os ++ n ∷ [] → map title_of os ≡ map g ys → title_of n ≡ g p → map title_of us ≡ map g (ys ++ p ∷ [])
titles_more g os us ys n p e h k = ap (map title_of) e ∙ (map_one title_of os n ∙ ((λ i. h i ++ k i ∷ []) ∙ sym (map_one g ys p)))

-- the resolved program with its processes
abbrev pub with_processes : Program → List Process → Program
with_processes p processes = record { top = p.top; cells = filter is_kept_cell p.cells; vectors = p.vectors; processes = processes }
