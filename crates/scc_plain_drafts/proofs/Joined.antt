-- What is written of parts, and their number.
use Rattle.std.specs.Prelude.{◌≡◌, ℕ, ◌+◌, ◌≤◌, true, List, [], ◌∷◌, ◌++◌, length, map, Option, Some, None, unwrap_or, option_map, option_and_then, IfSome, Result, Ok, Err, IfOk, OnOk}
use Rattle.std.specs.List.{list_all}
use Rattle.std.proofs.Common.{refl, sym, ◌∙◌, ap, subst, arith}
use Rattle.std.proofs.lemmas.Result.{IfOk-weaker}
use Rattle.std.proofs.lemmas.Bool.{le-leb, lt-leb}
use Rattle.std.proofs.lemmas.List.{map-append}
use Rattle.scc_base.proofs.NameLemmas.{length_map}
use Rattle.scc_base.specs.declared.no_memory.NoMemory.{NoMemory}
use Rattle.scc_base.specs.declared.refusal.Place.{Place}
use Rattle.scc_base.specs.declared.code.Code.TheVariants as reason
use Rattle.scc_bits_kinds.specs.declared.kind.Kind.{Kind}
use Rattle.scc_bits_kinds.specs.Kinds.{width_of}
use Rattle.scc_bits_kinds.specs.Bits.{is_part, concat_of, joined_kind, joined}
use Rattle.scc_bits.specs.Value.{Number}
use Rattle.scc_templates_spec.specs.Walked.{pure, fault}
use Rattle.scc_plain_tree.specs.declared.expr.PlainExpr.{PlainExpr}
use Rattle.scc_plain_tree.specs.declared.expr.PlainExprNode.TheVariants as variant
use Rattle.scc_elab_spec.specs.Term.{Term, Join, kind_of, place_of}
use Rattle.scc_plain_view.specs.Terms as view
use Rattle.scc_plain_view.specs.Terms.{term_of}
use Rattle.scc_plain_spec.specs.Numbers.{number, widths, joined_kinds, joined_words, concat_kind}
use Rattle.scc_plain_spec.specs.Numbers as numbers
use Rattle.scc_plain_spec.specs.Drafts as spec
use Rattle.scc_plain_spec.specs.Drafts.{Draft, kind_in, kinds_of, all_known, both_known, joined_terms, known_of}
use Rattle.scc_plain_drafts.specs.declared.draft.Draft.{Draft as Held}
use Rattle.scc_plain_drafts.specs.declared.join.Sum.{Sum}
use Rattle.scc_plain_drafts.specs.declared.join.Sum.TheVariants as sum
use Rattle.scc_plain_drafts.specs.Views.{Is, Sound, draft_of}
use Rattle.scc_plain_drafts.specs.Joins.{Together, SumStands, NumberStands, Kinded, StandsFor, joined_draft}
use Rattle.scc_plain_drafts.proofs.Terms.{join_term}
use Rattle.scc_plain_drafts.proofs.Joining.{widths_more, kind_more, both_parts, width_of_all}

-- ---- the kind

together_kind : (p : Place) (k j : Kind) (ks : List Kind) → Together k j ks → concat_kind p (j ∷ ks) ≡ pure k
together_kind p k j ks h = let e = le-leb (widths (j ∷ ks)) 128 h.narrow in let i = h.parts in rw (i, e) (ap pure (sym h.kind))

pub concat_made : (p : Place) (k : Kind) (ds : List Draft) → SumStands (sum.Of k) (kinds_of ds) → spec.concat p ds ≡ pure (joined_draft p k ds)
concat_made p k [] h = absurd h
concat_made p k (d ∷ ds) h = rw (together_kind p k (kind_in d) (kinds_of ds) h) refl

pub concat_wide : (p : Place) (ds : List Draft) → SumStands sum.TooWide (kinds_of ds) → spec.concat p ds ≡ fault reason.Width p
concat_wide p [] h = let l = h.1 in absurd (omega arith)
concat_wide p (d ∷ ds) h = let e = lt-leb (widths (kinds_of (d ∷ ds))) 128 h.1 in let i = h.0 in rw (i, e) refl

pub concat_spoilt : (p : Place) (ds : List Draft) → SumStands sum.NoPart (kinds_of ds) → spec.concat p ds ≡ fault reason.Mismatch p
concat_spoilt p [] h = absurd (cc)
concat_spoilt p (d ∷ ds) h = rw h refl

pub concat_none : (p : Place) (ds : List Draft) → SumStands sum.Nothing (kinds_of ds) → spec.concat p ds ≡ fault reason.Mismatch p
concat_none p [] h = refl
concat_none p (d ∷ ds) h = absurd (cc)

-- ---- numbers

known_kinds : (ds : List Draft) → Kinded ds → IfSome (all_known ds) (λ ns. numbers.kinds_of ns ≡ kinds_of ds)
known_kinds [] h = refl
known_kinds (d ∷ ds) h = by d.known (all_known ds) h.0 (known_kinds ds h.1)
  where
    by : (m : Option Number) (o : Option (List Number)) → IfSome m (λ n. n.kind ≡ kind_in d) → IfSome o (λ ns. numbers.kinds_of ns ≡ kinds_of ds) → IfSome (option_and_then (λ n. option_map (λ ns. n ∷ ns) o) m) (λ ns. numbers.kinds_of ns ≡ kind_in d ∷ kinds_of ds)
    by None o e f = tt
    by (Some n) None e f = tt
    by (Some n) (Some ns) e f = λ i. e i ∷ f i

known_whole : (p : Place) (k : Kind) (ds : List Draft) → SumStands (sum.Of k) (kinds_of ds) → Kinded ds → option_map (λ ns. number k (joined_words 0 ns)) (all_known ds) ≡ known_of p (all_known ds)
known_whole p k [] h g = absurd h
known_whole p k (d ∷ ds) h g = by (all_known (d ∷ ds)) (known_kinds (d ∷ ds) g)
  where
    by : (o : Option (List Number)) → IfSome o (λ ns. numbers.kinds_of ns ≡ kinds_of (d ∷ ds)) → option_map (λ ns. number k (joined_words 0 ns)) o ≡ known_of p o
    by None e = refl
    by (Some ns) e = let c : concat_kind p (numbers.kinds_of ns) ≡ pure k = ap (concat_kind p) e ∙ together_kind p k (kind_in d) (kinds_of ds) h in rw c refl

-- ---- terms

behind_is : (p : Place) (k : Kind) (t : Term) (ds : List Draft) → view.joined_behind p k t (map (λ d. d.term) ds) ≡ joined_terms p k t ds
behind_is p k t [] = refl
behind_is p k t (d ∷ ds) = behind_is p k (Join p k t d.term) ds

join_is : (p : Place) (k : Kind) (t u : Term) (ds : List Draft) → (kind_of (joined_terms p k (Join p k t u) ds) ≡ k) × (place_of (joined_terms p k (Join p k t u) ds) ≡ p)
join_is p k t u [] = (refl, refl)
join_is p k t u (d ∷ ds) = join_is p k (Join p k t u) d.term ds

some_kind : (k : Kind) (o : Option (List Number)) → IfSome (option_map (λ ns. number k (joined_words 0 ns)) o) (λ v. v.kind ≡ k)
some_kind k None = tt
some_kind k (Some ns) = refl

pub whole_is : (p : Place) (k : Kind) (parts : List PlainExpr) (known : Option Number) (ds : List Draft) (r : Result Held NoMemory) → 2 ≤ length parts → StandsFor parts (sum.Of k) known ds
    → IfOk r (λ x. x ≡ record { expr = record { place = p; kind = k; node = variant.Join parts }; known = known; place = p }) → IfOk r (λ x. Is x (joined_draft p k ds))
whole_is p k parts known [] r l h g = absurd h.kinds
whole_is p k parts known (d ∷ []) r l h g = let e = ap length h.terms in let f = length_map term_of parts in absurd (omega arith)
whole_is p k parts known (d ∷ e ∷ ds) r l h g = IfOk-weaker r _ _ (λ x is. rw is (record {
  draft = λ i. record { term = term i; known = number_is i; place = p };
  sound = record { kind = ap kind_of term ∙ (join_is p k d.term e.term ds).0; place = ap place_of term ∙ (join_is p k d.term e.term ds).1; number = subst (λ m. IfSome m (λ v. v.kind ≡ k)) (sym h.number) (some_kind k (all_known (d ∷ e ∷ ds))) };
})) g
  where
    term : term_of (record { place = p; kind = k; node = variant.Join parts }) ≡ joined_terms p k (Join p k d.term e.term) ds
    term = join_term p k parts ∙ ap (view.joined p k) h.terms ∙ behind_is p k (Join p k d.term e.term) ds

    number_is : known ≡ known_of p (all_known (d ∷ e ∷ ds))
    number_is = h.number ∙ known_whole p k (d ∷ e ∷ ds) h.kinds h.kinded

-- ---- a further part

kinds_more : (ds : List Draft) (d : Draft) → kinds_of (ds ++ d ∷ []) ≡ kinds_of ds ++ kind_in d ∷ []
kinds_more [] d = refl
kinds_more (x ∷ ds) d = ap (λ ks. kind_in x ∷ ks) (kinds_more ds d)

kinded_more : (ds : List Draft) (d : Draft) → Kinded ds → IfSome d.known (λ n. n.kind ≡ kind_in d) → Kinded (ds ++ d ∷ [])
kinded_more [] d h k = (k, tt)
kinded_more (x ∷ ds) d h k = (h.0, kinded_more ds d h.1 k)

terms_more : (parts : List PlainExpr) (e : PlainExpr) (ds : List Draft) (d : Draft) → map term_of parts ≡ map (λ d. d.term) ds → term_of e ≡ d.term → map term_of (parts ++ e ∷ []) ≡ map (λ d. d.term) (ds ++ d ∷ [])
terms_more parts e ds d h k = map-append term_of parts (e ∷ []) ∙ (λ i. h i ++ k i ∷ []) ∙ sym (map-append (λ d. d.term) ds (d ∷ []))

all_known_more : (ds : List Draft) (d : Draft) → all_known (ds ++ d ∷ []) ≡ option_and_then (λ ns. option_map (λ n. ns ++ n ∷ []) d.known) (all_known ds)
all_known_more [] d = by d.known
  where
    by : (m : Option Number) → option_and_then (λ n. option_map (λ ns. n ∷ ns) (Some [])) m ≡ option_map (λ n. n ∷ []) m
    by None = refl
    by (Some n) = refl
all_known_more (x ∷ ds) d = ap (λ o. option_and_then (λ n. option_map (λ ns. n ∷ ns) o) x.known) (all_known_more ds d) ∙ by x.known (all_known ds) d.known
  where
    by : (m : Option Number) (o : Option (List Number)) (l : Option Number)
        → option_and_then (λ n. option_map (λ ns. n ∷ ns) (option_and_then (λ ns. option_map (λ n. ns ++ n ∷ []) l) o)) m
        ≡ option_and_then (λ ns. option_map (λ n. ns ++ n ∷ []) l) (option_and_then (λ n. option_map (λ ns. n ∷ ns) o) m)
    by None o l = refl
    by (Some n) None l = refl
    by (Some n) (Some ns) None = refl
    by (Some n) (Some ns) (Some m) = refl

word_more : (x : ℕ) (ns : List Number) (low : Number) → joined_words x (ns ++ low ∷ []) ≡ joined (width_of low.kind) (joined_words x ns) low.word
word_more x [] low = refl
word_more x (n ∷ ns) low = word_more (joined (width_of n.kind) x n.word) ns low

abbrev as_one : Kind → Option (List Number) → Option Number
as_one k o = option_map (λ ns. number k (joined_words 0 ns)) o

-- the number of parts above a further one
number_above : (i j k : Kind) (o : Option (List Number)) (m : Option Number) → IfSome m (λ n. n.kind ≡ k) → both_known (as_one j o) m (λ a b. number i (joined (width_of k) a.word b.word)) ≡ as_one i (option_and_then (λ ns. option_map (λ n. ns ++ n ∷ []) m) o)
number_above i j k None m e = refl
number_above i j k (Some ns) None e = refl
number_above i j k (Some ns) (Some n) e = ap (λ x. Some (number i x)) (ap (λ q. joined (width_of q) (joined_words 0 ns) n.word) (sym e) ∙ sym (word_more 0 ns n))

number_alone : (k : Kind) (m : Option Number) → IfSome m (λ n. n.kind ≡ k) → m ≡ as_one k (option_map (λ n. n ∷ []) m)
number_alone k None e = refl
number_alone k (Some n) e = ap Some (ap (λ q. number q n.word) e ∙ ap (number k) (omega arith))

-- what parts together in one kind were before the last one
prefix_parts : (ks : List Kind) (low : Kind) → list_all is_part (ks ++ low ∷ []) ≡ true → list_all is_part ks ≡ true
prefix_parts [] low h = refl
prefix_parts (k ∷ ks) low h = let p = both_parts (is_part k) (list_all is_part (ks ++ low ∷ [])) h in rw (p.0, prefix_parts ks low p.1) refl

last_part : (ks : List Kind) (low : Kind) → list_all is_part (ks ++ low ∷ []) ≡ true → is_part low ≡ true
last_part [] low h = (both_parts (is_part low) true h).0
last_part (k ∷ ks) low h = last_part ks low (both_parts (is_part k) (list_all is_part (ks ++ low ∷ [])) h).1

record Behind (i k low : Kind) : Type 0 where
  narrow : width_of k + width_of low ≤ 128
  is : concat_of k low ≡ Some i

behind_together : (i k j low : Kind) (ks : List Kind) → Together k j ks → Together i j (ks ++ low ∷ []) → Behind i k low
behind_together i k j low ks h g =
    let l = last_part (j ∷ ks) low g.parts in
    let a = width_of_all k j ks h in
    let a0 = a.0 in
    let is : concat_of k low ≡ Some (joined_kind k low (width_of k + width_of low)) = rw (a0, l) refl in
    record {
      narrow = let w = a.1 in let b = widths_more (j ∷ ks) low in let n = g.narrow in omega arith;
      is = is ∙ ap Some (sym (g.kind ∙ kind_more j ks low ∙ ap (λ m. unwrap_or (concat_of m low) m) (sym h.kind) ∙ ap (λ o. unwrap_or o k) is));
    }

abbrev MoreKnown : Sum → Option Number → Option Number → Option Number → Type 0
MoreKnown s known m new = (j k kind : Kind) → s ≡ sum.Of j → IfSome known (λ n. n.kind ≡ j) → IfSome m (λ n. n.kind ≡ k) → width_of j + width_of k ≤ 128 → concat_of j k ≡ Some kind → new ≡ both_known known m (λ a b. number kind (joined (width_of k) a.word b.word))

number_more : (s t : Sum) (known new : Option Number) (x : Held) (ds : List Draft) → (s ≡ sum.Nothing → new ≡ x.known) → MoreKnown s known x.known new
    → SumStands s (kinds_of ds) → SumStands t (kinds_of ds ++ x.expr.kind ∷ []) → NumberStands s known ds → Sound x → NumberStands t new (ds ++ draft_of x ∷ [])
number_more s sum.Nothing known new x ds first more h g n o = tt
number_more s sum.NoPart known new x ds first more h g n o = tt
number_more s sum.TooWide known new x ds first more h g n o = tt
number_more sum.Nothing (sum.Of i) known new x [] first more h g n o = first refl ∙ number_alone i x.known (subst (λ k. IfSome x.known (λ n. n.kind ≡ k)) (sym g.kind) o.number) ∙ ap (as_one i) (sym (all_known_more [] (draft_of x)))
number_more sum.Nothing (sum.Of i) known new x (d ∷ ds) first more h g n o = absurd (cc)
number_more (sum.Of k) (sum.Of i) known new x [] first more h g n o = absurd h
number_more (sum.Of k) (sum.Of i) known new x (d ∷ ds) first more h g n o =
    let b = behind_together i k (kind_in d) x.expr.kind (kinds_of ds) h g in
    more k x.expr.kind i refl (subst (λ m. IfSome m (λ v. v.kind ≡ k)) (sym n) (some_kind k (all_known (d ∷ ds)))) o.number b.narrow b.is
    ∙ ap (λ m. both_known m x.known (λ a b. number i (joined (width_of x.expr.kind) a.word b.word))) n ∙ number_above i k x.expr.kind (all_known (d ∷ ds)) x.known o.number ∙ ap (as_one i) (sym (all_known_more (d ∷ ds) (draft_of x)))
number_more sum.NoPart (sum.Of i) known new x [] first more h g n o = absurd (cc)
number_more sum.NoPart (sum.Of i) known new x (d ∷ ds) first more h g n o = let p = prefix_parts (kinds_of (d ∷ ds)) x.expr.kind g.parts in absurd (cc)
number_more sum.TooWide (sum.Of i) known new x [] first more h g n o = let l = h.1 in absurd (omega arith)
number_more sum.TooWide (sum.Of i) known new x (d ∷ ds) first more h g n o = let l = h.1 in let m = g.narrow in let w = widths_more (kinds_of (d ∷ ds)) x.expr.kind in absurd (omega arith)

pub push_stands : (s t : Sum) (known new : Option Number) (parts : List PlainExpr) (x : Held) (ds : List Draft) → ((ks : List Kind) → SumStands s ks → SumStands t (ks ++ x.expr.kind ∷ [])) → (s ≡ sum.Nothing → new ≡ x.known) → MoreKnown s known x.known new
    → StandsFor parts s known ds → Sound x → StandsFor (parts ++ x.expr ∷ []) t new (ds ++ draft_of x ∷ [])
push_stands s t known new parts x ds f first more h o = record {
  terms = terms_more parts x.expr ds (draft_of x) h.terms refl;
  kinds = subst (SumStands t) (ap (λ k. kinds_of ds ++ k ∷ []) (sym o.kind) ∙ sym (kinds_more ds (draft_of x))) (f (kinds_of ds) h.kinds);
  number = number_more s t known new x ds first more h.kinds (f (kinds_of ds) h.kinds) h.number o;
  kinded = kinded_more ds (draft_of x) h.kinded (subst (λ k. IfSome x.known (λ n. n.kind ≡ k)) (sym o.kind) o.number);
}

pub pushed : (r : Result (Unit {0}) NoMemory) (s t : Sum) (known new : Option Number) (parts more_parts : List PlainExpr) (x : Held) → ((ks : List Kind) → SumStands s ks → SumStands t (ks ++ x.expr.kind ∷ [])) → (s ≡ sum.Nothing → new ≡ x.known) → MoreKnown s known x.known new
    → OnOk r (more_parts ≡ parts ++ x.expr ∷ []) → IfOk r (λ u. (ds : List Draft) → StandsFor parts s known ds → Sound x → StandsFor more_parts t new (ds ++ draft_of x ∷ []))
pushed (Ok u) s t known new parts more_parts x f first more e = λ ds h o. subst (λ ps. StandsFor ps t new (ds ++ draft_of x ∷ [])) (sym e) (push_stands s t known new parts x ds f first more h o)
pushed (Err e) s t known new parts more_parts x f first more g = tt
