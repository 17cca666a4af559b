-- Segments behind waits, one after the other.
use Rattle.std.proofs.Common.{◌≡◌, ℕ, List, [], ◌∷◌, ◌++◌, map, flat_map, append_assoc, refl, sym, ap, subst, ◌∙◌}
use Rattle.std.specs.Prelude.{Result, Ok, Err}
use Rattle.std.proofs.lemmas.Grind.{flat_map-append}
use Rattle.std.proofs.lemmas.List.{map-append}
use Rattle.scc_base.specs.declared.refusal.Stop.{Stop}
use Rattle.scc_base.specs.declared.refusal.Stop.TheVariants as stop
use Rattle.scc_core_spec.specs.Segments.{Segment}
use Rattle.scc_core_spec.specs.Split.{Stood, stood_in}
use Rattle.scc_states_cut.specs.declared.types.SegStmt.{SegStmt}
use Rattle.scc_states_segments.specs.declared.over.Count.{Count}
use Rattle.scc_states_segments.specs.Limits.{first_after}
use Rattle.scc_states_cut.specs.Cut.{Counts, IsPast, IsUnfolded, AreUnfolded, segment_of}
use Rattle.scc_states_cut.proofs.Counting.{counts_then, past_before}

nothing_more : {A : Type 0} (xs : List A) → xs ++ [] ≡ xs
nothing_more [] = refl
nothing_more (x ∷ xs) = ap (λ l. x ∷ l) (nothing_more xs)

abbrev pub all_stood : List Segment → List Stood
all_stood = flat_map (stood_in 1)

-- what is told of some segments is told of as many
pub same_unfolded : (ns : List ℕ) (own xs : List Segment) (there all : List (List SegStmt)) (old new : Count) (r : Result Unit Stop) → own ≡ xs → AreUnfolded ns xs there all old new r → AreUnfolded ns own there all old new r
same_unfolded ns own xs there all old new r is h = subst (λ ys. AreUnfolded ns ys there all old new r) (sym is) h

pub last_unfolded : (ns : List ℕ) (own xs : List Segment) (there all : List (List SegStmt)) (old new : Count) (r : Result Unit Stop) → own ≡ xs ++ [] → AreUnfolded ns xs there all old new r → AreUnfolded ns own there all old new r
last_unfolded ns own xs there all old new r is h = same_unfolded ns own xs there all old new r (is ∙ nothing_more xs) h

pub none_unfolded : (ns : List ℕ) (own : List Segment) (all : List (List SegStmt)) (old : Count) → own ≡ [] → (map (segment_of ns) all ≡ map (segment_of ns) all ++ own) × Counts old old (all_stood own)
none_unfolded ns own all old is = (sym (nothing_more _) ∙ ap (λ xs. map (segment_of ns) all ++ xs) (sym is), λ more. ap (λ xs. first_after old (all_stood xs ++ more)) (sym is))

past_stood : (old mid : Count) (a b : List Segment) (e : Stop) → Counts old mid (all_stood a) → IsPast mid (all_stood b) e → IsPast old (all_stood (a ++ b)) e
past_stood old mid a b (stop.Refused r) f h = (
  h.0,
  λ more.
      ap (λ ss. first_after old (ss ++ more)) (flat_map-append (stood_in 1) a b)
      ∙ ap (first_after old) (append_assoc (all_stood a) (all_stood b) more) ∙ sym (f (all_stood b ++ more)) ∙ h.1 more,
)
past_stood old mid a b stop.NoMemory f h = tt

counts_stood : (old mid new : Count) (a b : List Segment) → Counts old mid (all_stood a) → Counts mid new (all_stood b) → Counts old new (all_stood (a ++ b))
counts_stood old mid new a b f g = subst (Counts old new) (sym (flat_map-append (stood_in 1) a b)) (counts_then old mid new (all_stood a) (all_stood b) f g)

-- one after the other
pub then_unfolded : (ns : List ℕ) (own a b : List Segment) (o o' o'' : List (List SegStmt)) (old mid new : Count) (r : Result Unit Stop) → own ≡ a ++ (b ++ [])
    → (map (segment_of ns) o' ≡ map (segment_of ns) o ++ a) × Counts old mid (all_stood a) → AreUnfolded ns b o' o'' mid new r → AreUnfolded ns own o o'' old new r
then_unfolded ns own a b o o' o'' old mid new (Ok u) is f h = (
  h.0 ∙ ap (λ l. l ++ b) f.0 ∙ append_assoc (map (segment_of ns) o) a b ∙ ap (λ l. map (segment_of ns) o ++ l) (ap (λ l. a ++ l) (sym (nothing_more b)) ∙ sym is),
  subst (λ l. Counts old new (all_stood l)) (ap (λ l. a ++ l) (sym (nothing_more b)) ∙ sym is) (counts_stood old mid new a b f.1 h.1),
)
then_unfolded ns own a b o o' o'' old mid new (Err e) is f h =
    subst (λ l. IsPast old (all_stood l) e) (ap (λ l. a ++ l) (sym (nothing_more b)) ∙ sym is) (past_stood old mid a b e f.1 h)

pub past_first : (own a b : List Segment) (old : Count) (e : Stop) → own ≡ a ++ b → IsPast old (all_stood a) e → IsPast old (all_stood own) e
past_first own a b old e is h = subst (λ l. IsPast old l e) (sym (flat_map-append (stood_in 1) a b) ∙ ap all_stood (sym is)) (past_before old (all_stood a) (all_stood b) e h)

-- a turn of the loop
pub one_turn : (ns : List ℕ) (o o' : List (List SegStmt)) (here own rest : List Segment) (total : List Segment) → here ≡ own ++ rest → map (segment_of ns) o' ≡ map (segment_of ns) o ++ own
    → map (segment_of ns) o ++ here ≡ total → map (segment_of ns) o' ++ rest ≡ total
one_turn ns o o' here own rest total is more so = ap (λ l. l ++ rest) more ∙ append_assoc (map (segment_of ns) o) own rest ∙ ap (λ l. map (segment_of ns) o ++ l) (sym is) ∙ so

pub stood_here : (here own rest : List Segment) → here ≡ own ++ rest → all_stood here ≡ all_stood own ++ all_stood rest
stood_here here own rest is = ap all_stood is ∙ flat_map-append (stood_in 1) own rest

pub one_segment : (x : Segment) → all_stood (x ∷ []) ≡ stood_in 1 x
one_segment x = nothing_more (stood_in 1 x)

pub segment_behind : (ns : List ℕ) (o o' : List (List SegStmt)) (s : List SegStmt) (x : Segment) → o' ≡ o ++ s ∷ [] → segment_of ns s ≡ x → map (segment_of ns) o' ≡ map (segment_of ns) o ++ x ∷ []
segment_behind ns o o' s x more is = ap (map (segment_of ns)) more ∙ map-append (segment_of ns) o (s ∷ []) ∙ ap (λ y. map (segment_of ns) o ++ y ∷ []) is
