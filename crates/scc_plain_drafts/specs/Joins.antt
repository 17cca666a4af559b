-- What is known of the first parts of a concatenation, by the drafts of them. This project's own.
use Rattle.std.specs.Prelude.{◌≡◌, ◌<◌, ◌≤◌, true, false, List, [], ◌∷◌, map, Option, option_map, IfSome}
use Rattle.std.specs.List.{list_all}
use Rattle.scc_base.specs.declared.refusal.Place.{Place}
use Rattle.scc_bits_kinds.specs.declared.kind.Kind.{Kind}
use Rattle.scc_bits_kinds.specs.Bits.{is_part}
use Rattle.scc_bits.specs.Value.{Number}
use Rattle.scc_plain_tree.specs.declared.expr.PlainExpr.{PlainExpr}
use Rattle.scc_plain_view.specs.Terms.{term_of}
use Rattle.scc_plain_spec.specs.Numbers.{number, widths, joined_kinds, joined_words}
use Rattle.scc_plain_spec.specs.Drafts.{Draft, kind_in, kinds_of, all_known, drafted, joined_terms, known_of}
use Rattle.scc_elab_spec.specs.Term.{Literal}
use Rattle.scc_plain_drafts.specs.declared.join.Sum.{Sum}
use Rattle.scc_plain_drafts.specs.declared.join.Sum.TheVariants as sum
use Rattle.scc_plain_drafts.specs.declared.join.Joining.{Joining}

-- parts of at most 128 bits together, in one kind
pub record Together (k j : Kind) (ks : List Kind) : Type 0 where
  pub parts : list_all is_part (j ∷ ks) ≡ true
  pub narrow : widths (j ∷ ks) ≤ 128
  pub kind : k ≡ joined_kinds j ks

abbrev pub SumStands : Sum → List Kind → Type 0
SumStands sum.Nothing ks = ks ≡ []
SumStands (sum.Of k) [] = ⊥
SumStands (sum.Of k) (j ∷ ks) = Together k j ks
SumStands sum.NoPart ks = list_all is_part ks ≡ false
SumStands sum.TooWide ks = (list_all is_part ks ≡ true) × (128 < widths ks)

-- the number of all, where each is known
abbrev pub NumberStands : Sum → Option Number → List Draft → Type 0
NumberStands (sum.Of k) m ds = m ≡ option_map (λ ns. number k (joined_words 0 ns)) (all_known ds)
NumberStands sum.Nothing m ds = Unit {0}
NumberStands sum.NoPart m ds = Unit {0}
NumberStands sum.TooWide m ds = Unit {0}

abbrev pub Kinded : List Draft → Type 0
Kinded [] = Unit {0}
Kinded (d ∷ ds) = IfSome d.known (λ n. n.kind ≡ kind_in d) × Kinded ds

pub record StandsFor (parts : List PlainExpr) (s : Sum) (known : Option Number) (ds : List Draft) : Type 0 where
  pub terms : map term_of parts ≡ map (λ d. d.term) ds
  pub kinds : SumStands s (kinds_of ds)
  pub number : NumberStands s known ds
  pub kinded : Kinded ds

abbrev pub Stands : Joining → List Draft → Type 0
Stands j ds = StandsFor j.parts j.sum j.known ds

-- what is written of parts that are in one kind; no parts are none
abbrev pub joined_draft : Place → Kind → List Draft → Draft
joined_draft p k [] = drafted p (Literal p k 0)
joined_draft p k (x ∷ xs) = record { term = joined_terms p k x.term xs; known = known_of p (all_known (x ∷ xs)); place = p }
