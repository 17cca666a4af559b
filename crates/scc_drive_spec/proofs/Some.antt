-- A request comes to something.
use Rattle.std.proofs.Common.{◌≡◌, inl, inr, ℕ, List, length, Option, Some, None, Result, Ok, Err, ap, refl}
use Rattle.std.specs.Prelude.{option_and_then}
use Rattle.scc_base.specs.Names.{fixed_names}
use Rattle.scc_base.specs.Outside.{Shelf}
use Rattle.scc_base.specs.declared.refusal.Refusal.{Refusal}
use Rattle.scc_tokens_directives.specs.declared.file.Source.{Source}
use Rattle.scc_tokens_directives.specs.Steps as join
use Rattle.scc_tokens.specs.declared.joining.Joined.{Joined}
use Rattle.scc_tokens.specs.Files.{first_part, number_in}
use Rattle.scc_tokens.specs.Join.{join_of, Ended}
use Rattle.scc_tokens_laws.specs.Joined.{JoinsTo}
use Rattle.scc_tokens_laws.proofs.Decided.{only_joins, only_stops}
use Rattle.scc_tree.specs.declared.item.FileTree.{FileTree}
use Rattle.scc_core_spec.specs.Resolved.{Tried, Made, Stopped}
use Rattle.scc_plain_first.specs.Stages.{refusal_in}
use Rattle.scc_plain_spec.specs.Designs.{Compiled, compiled, design_in}
use Rattle.scc_plain_laws.proofs.Topped.{stages-answer}
use Rattle.scc_drive_spec.proofs.Decided.{Decision, decided}
use Rattle.scc_drive_spec.specs.Comes.{Request, Verdict, IsReadAs, name_in, stimulus_refusal, Comes, in_joining, in_the_grammar, in_a_stage, without_stimulus, in_the_stimulus, accepted, on_a_stimulus}

module _ (q : Request) (shelf : Shelf) where
  abbrev Some_verdict : Type 0
  Some_verdict = (x : Verdict) × Comes q shelf x

  module _ (names : List (List ℕ)) (sources : List Source) where
    module _ (tree : FileTree) (a : IsReadAs q.roots shelf names sources tree) (c : Compiled) (e : compiled q.many tree (number_in names q.top) ≡ Some (Made c)) where
      by_steps : (name bytes : List ℕ) → q.stimulus ≡ Some name → first_part shelf name ≡ Some bytes → (o : Option Refusal)
          → stimulus_refusal q.many (name_in names c) (design_in c) (length sources) bytes ≡ o → Some_verdict
      by_steps name bytes asked held (Some r) wrong = (_, in_the_stimulus names sources tree c name bytes r a e asked held wrong)
      by_steps name bytes asked held None right = (_, on_a_stimulus names sources tree c name bytes a e asked held right)

      by_held : (name : List ℕ) → q.stimulus ≡ Some name → (o : Option (List ℕ)) → first_part shelf name ≡ o → Some_verdict
      by_held name asked None held = (_, without_stimulus names sources tree c name a e asked held)
      by_held name asked (Some bytes) held = by_steps name bytes asked held (stimulus_refusal q.many (name_in names c) (design_in c) (length sources) bytes) refl

      by_stimulus : (o : Option (List ℕ)) → q.stimulus ≡ o → Some_verdict
      by_stimulus None asked = (_, accepted names sources tree c a e asked)
      by_stimulus (Some name) asked = by_held name asked (first_part shelf name) refl

    by_stage : (tree : FileTree) → IsReadAs q.roots shelf names sources tree → (o : Option (Tried Compiled)) → compiled q.many tree (number_in names q.top) ≡ o → Some_verdict
    by_stage tree a None e = absurd (stages-answer q.many tree (number_in names q.top) e)
    by_stage tree a (Some (Stopped r)) e = (_, in_a_stage names sources tree r a (ap (option_and_then refusal_in) e))
    by_stage tree a (Some (Made c)) e = by_stimulus tree a c e q.stimulus refl

    by_joining : (r : Result Joined join.Stopped) → join_of (first_part shelf) fixed_names q.roots ≡ (names, sources, r) → Some_verdict
    by_joining (Err s) e = (_, in_joining names sources s (only_stops (first_part shelf) fixed_names q.roots names sources s e))
    by_joining (Ok j) e = by_tokens (decided j)
      where
        joins : JoinsTo (first_part shelf) fixed_names q.roots names sources j
        joins = only_joins (first_part shelf) fixed_names q.roots names sources j e

        by_tokens : Decision j → Some_verdict
        by_tokens (inl p) = by_stage p.0 (record { joined = j; joins = joins; reads = p.1 }) (compiled q.many p.0 (number_in names q.top)) refl
        by_tokens (inr p) = (_, in_the_grammar names sources j p.0 p.1 joins p.2)

  pub some_verdict : Some_verdict
  some_verdict = let found : Ended = join_of (first_part shelf) fixed_names q.roots in by_joining found.0 found.1 found.2 refl
