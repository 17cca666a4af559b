-- Counts of statements one behind another, and what is past a limit.
use Rattle.std.proofs.Common.{◌≡◌, ℕ, ◌+◌, List, [], ◌∷◌, ◌++◌, append_assoc, Option, Some, None, refl, sym, ap, subst, ◌∙◌}
use Rattle.scc_base.specs.declared.refusal.Stop.{Stop}
use Rattle.scc_base.specs.declared.refusal.Stop.TheVariants as stop
use Rattle.scc_core_spec.specs.Split.{Stood}
use Rattle.scc_states_segments.specs.declared.over.Count.{Count}
use Rattle.scc_states_segments.specs.Limits.{first_after}
use Rattle.scc_states_cut.specs.Cut.{Counts, IsPast}

pub counts_then : (old mid new : Count) (a b : List Stood) → Counts old mid a → Counts mid new b → Counts old new (a ++ b)
counts_then old mid new a b f g more = g more ∙ f (b ++ more) ∙ ap (first_after old) (sym (append_assoc a b more))

-- a statement past a limit, behind those that were counted, and before others
pub past_then : (old mid : Count) (a b c : List Stood) (e : Stop) → Counts old mid a → IsPast mid b e → IsPast old (a ++ (b ++ c)) e
past_then old mid a b c (stop.Refused r) f h = (
  h.0,
  λ more.
      ap (first_after old) (append_assoc a (b ++ c) more)
      ∙ sym (f ((b ++ c) ++ more)) ∙ ap (first_after mid) (append_assoc b c more) ∙ h.1 (c ++ more),
)
past_then old mid a b c stop.NoMemory f h = tt

pub past_before : (old : Count) (b c : List Stood) (e : Stop) → IsPast old b e → IsPast old (b ++ c) e
past_before old b c (stop.Refused r) h = (h.0, λ more. ap (first_after old) (append_assoc b c more) ∙ h.1 (c ++ more))
past_before old b c stop.NoMemory h = tt

-- what is left counts as all did
pub past_left : (old mid : Count) (all left : List Stood) (e : Stop) → ((more : List Stood) → first_after mid (left ++ more) ≡ first_after old (all ++ more)) → IsPast mid left e → IsPast old all e
past_left old mid all left (stop.Refused r) f h = (h.0, λ more. sym (f more) ∙ h.1 more)
past_left old mid all left stop.NoMemory f h = tt

pub counts_left : (old mid new : Count) (all left : List Stood) → ((more : List Stood) → first_after mid (left ++ more) ≡ first_after old (all ++ more)) → Counts mid new left → Counts old new all
counts_left old mid new all left f g more = g more ∙ f more

-- where the first is counted, the others are left
pub left_then : (old mid new : Count) (all first rest left : List Stood) → left ≡ first ++ rest → ((more : List Stood) → first_after mid (left ++ more) ≡ first_after old (all ++ more))
    → Counts mid new first → (more : List Stood) → first_after new (rest ++ more) ≡ first_after old (all ++ more)
left_then old mid new all first rest left is f g more =
    g (rest ++ more) ∙ ap (first_after mid) (sym (append_assoc first rest more) ∙ ap (λ l. l ++ more) (sym is)) ∙ f more
