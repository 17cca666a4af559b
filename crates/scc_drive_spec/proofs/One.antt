-- What a request comes to is one thing: joining gives one thing, tokens are one file of the grammar or have one first fault, and the stages and the reading of a
-- stimulus are functions.
use Rattle.std.proofs.Common.{◌≡◌, ◌⊎◌, inl, inr, ℕ, List, [], ◌∷◌, ◌++◌, length, Option, Some, None, Result, Ok, Err, ap, refl, sym, ◌∙◌, subst}
use Rattle.std.specs.Prelude.{option_and_then}
use Rattle.scc_base.specs.Names.{fixed_names}
use Rattle.scc_base.specs.Outside.{Shelf}
use Rattle.scc_base.specs.declared.code.Code.{Code}
use Rattle.scc_base.specs.declared.refusal.Place.{Place}
use Rattle.scc_base.specs.declared.refusal.Refusal.{Refusal}
use Rattle.scc_tokens_directives.specs.declared.file.Source.{Source}
use Rattle.scc_tokens_directives.specs.Steps as join
use Rattle.scc_tokens.specs.declared.joining.Joined.{Joined}
use Rattle.scc_tokens.specs.Files.{first_part, number_in}
use Rattle.scc_tokens.specs.Join.{join_of, Ended}
use Rattle.scc_tokens_laws.proofs.Deriving.{joins_whole}
use Rattle.scc_tokens_laws.proofs.Faulting.{stops_first}
use Rattle.scc_tree.specs.declared.item.FileTree.{FileTree}
use Rattle.scc_tree.specs.declared.item.Item.{Item}
use Rattle.scc_grammar.specs.Claim.{IsReadFile, IsFault, text_of}
use Rattle.scc_grammar_complete.proofs.Unique.{one_tree}
use Rattle.scc_drive_spec.proofs.OneVerdict.{not_both, one_fault}
use Rattle.scc_core_spec.specs.First.{refused}
use Rattle.scc_core_spec.specs.Resolved.{Tried, Made, Stopped}
use Rattle.scc_plain_first.specs.Stages.{refusal_in}
use Rattle.scc_plain_spec.specs.Designs.{Compiled, compiled, design_in}
use Rattle.scc_drive_spec.specs.Comes.{Request, Verdict, Refuses, Absent, Accepts, stopped_by, name_in, stimulus_refusal, Comes, in_joining, in_the_grammar, in_a_stage, without_stimulus, in_the_stimulus, accepted, on_a_stimulus}

some_same : {A : Type 0} {a b : A} → Some a ≡ Some b → a ≡ b
some_same e = cc

abbrev file_of : List Item → Place → FileTree
file_of items end = record { items = items; end = end }

same_file : (a b : FileTree) → a.items ≡ b.items → a.end ≡ b.end → a ≡ b
same_file a b e f = ap (λ items. file_of items a.end) e ∙ ap (file_of b.items) f

one_file : (j : Joined) (a b : FileTree) → IsReadFile j a → IsReadFile j b → a ≡ b
one_file j a b p q = same_file a b (one_tree (text_of j) a.items b.items p.read.0 q.read.0) (p.end ∙ sym q.end)

module _ (q : Request) (shelf : Shelf) where
  module _ (names : List (List ℕ)) (sources : List Source) where
    abbrev pub of_steps : Compiled → (name bytes : List ℕ) → Option Refusal → Verdict
    of_steps c name bytes (Some r) = Refuses (sources ++ record { name = name; bytes = bytes } ∷ []) r
    of_steps c name bytes None = Accepts (record { names = names; compiled = c; stimulus = Some (record { file = length sources; bytes = bytes }) })

    abbrev pub of_held : Compiled → List ℕ → Option (List ℕ) → Verdict
    of_held c name None = Absent name
    of_held c name (Some bytes) = of_steps c name bytes (stimulus_refusal q.many (name_in names c) (design_in c) (length sources) bytes)

    abbrev pub of_stimulus : Compiled → Option (List ℕ) → Verdict
    of_stimulus c None = Accepts (record { names = names; compiled = c; stimulus = None })
    of_stimulus c (Some name) = of_held c name (first_part shelf name)

    abbrev pub ByStage : Option (Tried Compiled) → Verdict → Type 0
    ByStage None x = ⊥
    ByStage (Some (Stopped r)) x = x ≡ Refuses sources r
    ByStage (Some (Made c)) x = x ≡ of_stimulus c q.stimulus

    abbrev pub ByTokens : Joined → Verdict → Type 0
    ByTokens j x = ((code : Code) × (place : Place) × IsFault j code place × (x ≡ Refuses sources (refused code place)))
        ⊎ ((tree : FileTree) × IsReadFile j tree × ByStage (compiled q.many tree (number_in names q.top)) x)

    abbrev pub ByJoining : Result Joined join.Stopped → Verdict → Type 0
    ByJoining (Ok j) x = ByTokens j x
    ByJoining (Err s) x = x ≡ stopped_by sources s

    stage_one : (o : Option (Tried Compiled)) (x y : Verdict) → ByStage o x → ByStage o y → x ≡ y
    stage_one None x y p p' = absurd p
    stage_one (Some (Stopped r)) x y p p' = p ∙ sym p'
    stage_one (Some (Made c)) x y p p' = p ∙ sym p'

    tokens_one : (j : Joined) (x y : Verdict) → ByTokens j x → ByTokens j y → x ≡ y
    tokens_one j x y (inl p) (inl p') =
        let same = one_fault j p.0 p'.0 p.1 p'.1 p.2 p'.2 in
        p.3 ∙ ap (λ c. Refuses sources (refused c p.1)) same.0 ∙ ap (λ at. Refuses sources (refused p'.0 at)) same.1 ∙ sym p'.3
    tokens_one j x y (inl p) (inr p') = absurd (not_both j p'.0 p.0 p.1 p'.1 p.2)
    tokens_one j x y (inr p) (inl p') = absurd (not_both j p.0 p'.0 p'.1 p.1 p'.2)
    tokens_one j x y (inr p) (inr p') =
        stage_one (compiled q.many p'.0 (number_in names q.top)) x y
        (subst (λ t. ByStage (compiled q.many t (number_in names q.top)) x) (one_file j p.0 p'.0 p.1 p'.1) p.2) p'.2

    joining_one : (r : Result Joined join.Stopped) (x y : Verdict) → ByJoining r x → ByJoining r y → x ≡ y
    joining_one (Ok j) x y p p' = tokens_one j x y p p'
    joining_one (Err s) x y p p' = p ∙ sym p'

    -- a refusal is that of what the stages answer
    by_refusal : (o : Option (Tried Compiled)) (r : Refusal) → option_and_then refusal_in o ≡ Some r → ByStage o (Refuses sources r)
    by_refusal None r e = absurd (let f : None ≡ Some r = e in cc)
    by_refusal (Some (Made c)) r e = absurd (let f : None ≡ Some r = e in cc)
    by_refusal (Some (Stopped s)) r e = ap (Refuses sources) (some_same (sym e))

    by_made : (o : Option (Tried Compiled)) (c : Compiled) (x : Verdict) → o ≡ Some (Made c) → x ≡ of_stimulus c q.stimulus → ByStage o x
    by_made o c x e p = subst (λ o. ByStage o x) (sym e) p

    asked_one : (c : Compiled) (name : List ℕ) → q.stimulus ≡ Some name → of_stimulus c q.stimulus ≡ of_held c name (first_part shelf name)
    asked_one c name e = ap (of_stimulus c) e

    held_one : (c : Compiled) (name bytes : List ℕ) → q.stimulus ≡ Some name → first_part shelf name ≡ Some bytes
        → of_stimulus c q.stimulus ≡ of_steps c name bytes (stimulus_refusal q.many (name_in names c) (design_in c) (length sources) bytes)
    held_one c name bytes e f = asked_one c name e ∙ ap (of_held c name) f

  abbrev pub ByEnd : Ended → Verdict → Type 0
  ByEnd found x = ByJoining found.0 found.1 found.2 x

  pub by_parts : (x : Verdict) → Comes q shelf x → ByEnd (join_of (first_part shelf) fixed_names q.roots) x
  by_parts _ (in_joining names sources s d) =
      subst (λ found. ByEnd found (stopped_by sources s)) (sym (stops_first (first_part shelf) fixed_names q.roots names sources s d)) refl
  by_parts _ (in_the_grammar names sources j code place d f) =
      subst (λ found. ByEnd found (Refuses sources (refused code place))) (sym (joins_whole (first_part shelf) fixed_names q.roots names sources j d)) (inl (code, place, f, refl))
  by_parts _ (in_a_stage names sources tree r a e) =
      subst (λ found. ByEnd found (Refuses sources r)) (sym (joins_whole (first_part shelf) fixed_names q.roots names sources a.joined a.joins))
      (inr (tree, a.reads, by_refusal names sources (compiled q.many tree (number_in names q.top)) r e))
  by_parts _ (without_stimulus names sources tree c name a e asked held) =
      let x : Verdict = Absent name in
      subst (λ found. ByEnd found x) (sym (joins_whole (first_part shelf) fixed_names q.roots names sources a.joined a.joins))
      (inr (tree, a.reads, by_made names sources (compiled q.many tree (number_in names q.top)) c x e (sym (asked_one names sources c name asked ∙ ap (of_held names sources c name) held))))
  by_parts _ (in_the_stimulus names sources tree c name bytes r a e asked held wrong) =
      let x : Verdict = Refuses (sources ++ record { name = name; bytes = bytes } ∷ []) r in
      subst (λ found. ByEnd found x) (sym (joins_whole (first_part shelf) fixed_names q.roots names sources a.joined a.joins))
      (inr (
        tree,
        a.reads,
        by_made names sources (compiled q.many tree (number_in names q.top)) c x e (sym (held_one names sources c name bytes asked held ∙ ap (of_steps names sources c name bytes) wrong)),
      ))
  by_parts _ (accepted names sources tree c a e asked) =
      let x : Verdict = Accepts (record { names = names; compiled = c; stimulus = None }) in
      subst (λ found. ByEnd found x) (sym (joins_whole (first_part shelf) fixed_names q.roots names sources a.joined a.joins))
      (inr (tree, a.reads, by_made names sources (compiled q.many tree (number_in names q.top)) c x e (sym (ap (of_stimulus names sources c) asked))))
  by_parts _ (on_a_stimulus names sources tree c name bytes a e asked held right) =
      let x : Verdict = Accepts (record { names = names; compiled = c; stimulus = Some (record { file = length sources; bytes = bytes }) }) in
      subst (λ found. ByEnd found x) (sym (joins_whole (first_part shelf) fixed_names q.roots names sources a.joined a.joins))
      (inr (
        tree,
        a.reads,
        by_made names sources (compiled q.many tree (number_in names q.top)) c x e (sym (held_one names sources c name bytes asked held ∙ ap (of_steps names sources c name bytes) right)),
      ))

pub one_verdict : (q : Request) (shelf : Shelf) (x y : Verdict) → Comes q shelf x → Comes q shelf y → x ≡ y
one_verdict q shelf x y p p' =
    let found = join_of (first_part shelf) fixed_names q.roots in
    joining_one q shelf found.0 found.1 found.2 x y (by_parts q shelf x p) (by_parts q shelf y p')
