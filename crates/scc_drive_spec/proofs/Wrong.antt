-- What wrong compilers answer is ruled out: a request comes to one thing.
use Rattle.std.proofs.Common.{◌≡◌, ℕ, List, Some, None, ap, ◌∙◌, subst}
use Rattle.std.specs.Prelude.{String}
use Rattle.std.specs.declared.alloc.Global.{Global}
use Rattle.scc_base.specs.Outside.{Shelf}
use Rattle.scc_base.specs.declared.refusal.Refusal.{Refusal}
use Rattle.scc_tokens_directives.specs.declared.file.Source.{Source}
use Rattle.scc_drive_words.specs.declared.command.Command.TheVariants as command
use Rattle.scc_drive_words.specs.declared.command.Form.{Form}
use Rattle.scc_drive_spec.specs.Words.{command_by}
use Rattle.scc_drive_spec.specs.Comes.{Request, Verdict, Comes}
use Rattle.scc_drive_spec.specs.Output.{Output, compiles}
use Rattle.scc_drive_spec.specs.Answer.{Answer, refused, writes, request, has_clocks, answer_of, WordsCome, CommandComes}
use Rattle.scc_drive_spec.specs.Whole.{text_of_refusal}
use Rattle.scc_drive_spec.proofs.One.{one_verdict}

module _ (shelf : Shelf) (words : List (String Global)) (count : ℕ) (form : Form) (asked : command_by words ≡ Some (command.Compile count form)) where
  abbrev pub q : Request
  q = request (has_clocks form) words count None

  -- what the command comes to is what its request comes to
  pub by_request : (v : Verdict) (x : Answer) → Comes q shelf v → CommandComes shelf words x → x ≡ answer_of (compiles form) v
  unfolding CommandComes
  by_request v x c d = by (subst (λ o. WordsCome o words shelf x) asked d)
    where
      by : ((w : Verdict) × Comes q shelf w × (x ≡ answer_of (compiles form) w)) → x ≡ answer_of (compiles form) v
      by e = e.2 ∙ ap (answer_of (compiles form)) (one_verdict q shelf e.0 v e.1 c)

pub refused_not_written : {o : Output} {sources : List Source} {r : Refusal} → writes o ≡ refused sources r → ⊥
refused_not_written e = absurd cc

abbrev sources_of : Answer → List Source → List Source
sources_of (refused s r) other = s
sources_of x other = other

abbrev refusal_of : Answer → Refusal → Refusal
refusal_of (refused s r) other = r
refusal_of x other = other

pub same_text : (s t : List Source) (a b : Refusal) → refused s a ≡ refused t b → text_of_refusal s a ≡ text_of_refusal t b
same_text s t a b e = ap (λ x. text_of_refusal (sources_of x s) (refusal_of x a)) e
