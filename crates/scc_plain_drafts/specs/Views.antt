-- Drafts as the definitions have them. Of each the tree has the kind and the place of its term, and its number the kind of both. This project's own.
use Rattle.std.specs.Prelude.{◌≡◌, IfSome, Option, option_map, option_and_then, if◌then◌else◌, Result, Ok, Err}
use Rattle.scc_base.specs.declared.refusal.Place.{Place}
use Rattle.scc_bits_kinds.specs.declared.kind.Kind.{Kind}
use Rattle.scc_bits_kinds.specs.declared.op.Op.{Op}
use Rattle.scc_base.specs.declared.refusal.Stop.{Stop}
use Rattle.scc_base.specs.declared.refusal.Stop.TheVariants as stop
use Rattle.scc_bits.specs.Value.{Number}
use Rattle.scc_templates_spec.specs.Walked.{Walked, pure}
use Rattle.scc_templates_scopes.specs.Walks.{refuses}
use Rattle.scc_elab_spec.specs.Term.{Unary, Binary, Choose, kind_of, place_of}
use Rattle.scc_plain_view.specs.Terms.{term_of}
use Rattle.scc_plain_spec.specs.Drafts.{Draft, both_known}
use Rattle.scc_plain_spec.specs.Numbers.{answered, is_true, stored_in}
use Rattle.scc_plain_drafts.specs.declared.draft.Draft.{Draft as Held}

abbrev pub draft_of : Held → Draft
draft_of x = record { term = term_of x.expr; known = x.known; place = x.place }

pub record Sound (x : Held) : Type 0 where
  pub kind : kind_of (term_of x.expr) ≡ x.expr.kind
  pub place : place_of (term_of x.expr) ≡ x.expr.place
  pub number : IfSome x.known (λ n. n.kind ≡ x.expr.kind)

-- a draft is that of the definition
pub record Is (x : Held) (d : Draft) : Type 0 where
  pub draft : draft_of x ≡ d
  pub sound : Sound x

-- the answer is the draft of the definition, or its refusal; or memory is wanted
abbrev pub Drafts : Result Held Stop → Walked Draft → Type 0
Drafts (Ok x) w = (w ≡ pure (draft_of x)) × Sound x
Drafts (Err (stop.Refused r)) w = w ≡ refuses r
Drafts (Err stop.NoMemory) w = Unit {0}

-- An operator on operands in the kinds in which they count, one on a single operand, and a choice: what is written where nothing is refused.
abbrev pub operation : Place → Kind → Op → Draft → Draft → Draft
operation p k o x y = record { term = Binary p k o x.term y.term; known = both_known x.known y.known (answered o k); place = p }

abbrev pub operation_alone : Place → Kind → Op → Draft → Draft
operation_alone p k o x = record { term = Unary p k o x.term; known = option_map (λ n. answered o k n n) x.known; place = p }

abbrev pub known_choice : Kind → Option Number → Option Number → Option Number → Option Number
known_choice k t a b = option_and_then (λ t. both_known a b (λ x y. stored_in k (if is_true t then x else y))) t

abbrev pub choice : Place → Kind → Draft → Draft → Draft → Draft
choice p k t a b = record { term = Choose p k t.term a.term b.term; known = known_choice k t.known a.known b.known; place = p }
