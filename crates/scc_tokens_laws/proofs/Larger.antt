-- Where names hold more, what was joined is joined again.
use Rattle.std.proofs.Common.{◌≡◌, ◌⊎◌, inl, inr, ℕ, List, true, false, Bool, Option, Some, None, Result, Ok, Err, refl, ap, sym, ◌∙◌}
use Rattle.scc_base.specs.Outside.{Shelf}
use Rattle.scc_base.specs.declared.refusal.Place.{Place}
use Rattle.scc_tokens_directives.specs.Steps.{Stopped, Absent}
use Rattle.scc_tokens_directives.specs.declared.directive.Words.{Words}
use Rattle.scc_tokens_directives.specs.declared.directive.Directive.{Directive}
use Rattle.scc_tokens_directives.specs.declared.file.Source.{Source}
use Rattle.scc_tokens_lexer.specs.declared.token.Token.{Token}
use Rattle.scc_tokens.specs.declared.joining.Joined.{Joined}
use Rattle.scc_tokens.specs.Files.{Asked, asked, asked_by, read_by, number_of}
use Rattle.scc_tokens.specs.Walk.{Full, file_included, admitted, admitted_asked, text_asked, number_asked}
use Rattle.scc_tokens_laws.specs.Laws.{HoldsMore}
use Rattle.scc_tokens_laws.specs.Joined.{Within, Changes, defines, undefines, marks_once, Begins, Joins, no_part, one_token, one_end, one_line, own_header, included_once, one_file, first_side, first_not_second, neither_side, second_side, JoinsFile, JoinsRoots, no_root, one_root, JoinsTo}

ok_not_err : {A : Type 0} (x : A) (h : Stopped) → ◌≡◌ {A = Result A Stopped} (Err h) (Ok x) → ⊥
ok_not_err x h e = cc

module _ (g : Shelf) where
  -- the same answer, or one that stops for want of a file
  abbrev Alike : (name : List ℕ) (a : Asked) → Asked × Result ℕ Stopped → Asked × Result ℕ Stopped → Type 0
  Alike name a p q = (p ≡ q) ⊎ (p ≡ (a, Err (Absent name)))

  module _ (f : Shelf) (more : HoldsMore f g) (w : Words) where
    read_alike : (name : List ℕ) (a : Asked) (x : Option (List ℕ)) → f name ≡ x → Alike name a (read_by f w name a x) (read_by g w name a (g name))
    read_alike name a None e = inr refl
    read_alike name a (Some bytes) e = inl (ap (read_by g w name a) (sym (more name bytes e)))

    asked_alike : (name : List ℕ) (a : Asked) (k : Option ℕ) → Alike name a (asked_by f w name a k) (asked_by g w name a k)
    asked_alike name a (Some n) = inl refl
    asked_alike name a None = read_alike name a (f name) refl

    asked_more : (name : List ℕ) (a b : Asked) (n : ℕ) → asked f w name a ≡ (b, Ok n) → asked g w name a ≡ (b, Ok n)
    asked_more name a b n e = go (asked_alike name a (number_of a.sources name))
      where
        go : Alike name a (asked f w name a) (asked g w name a) → asked g w name a ≡ (b, Ok n)
        go (inl q) = sym q ∙ e
        go (inr q) = absurd (ok_not_err n (Absent name) (ap (λ (z : Asked × Result ℕ Stopped). z.1) (sym q ∙ e)))

    number_more : (name : List ℕ) (x y : Full) (o : Option ℕ) → number_asked x (asked f w name x.asked) ≡ (y, Ok o) → number_asked x (asked g w name x.asked) ≡ (y, Ok o)
    number_more name x y o e = go (asked_alike name x.asked (number_of x.asked.sources name))
      where
        go : Alike name x.asked (asked f w name x.asked) (asked g w name x.asked) → number_asked x (asked g w name x.asked) ≡ (y, Ok o)
        go (inl q) = ap (number_asked x) (sym q) ∙ e
        go (inr q) = absurd (ok_not_err o (Absent name) (ap (λ (z : Full × Result (Option ℕ) Stopped). z.1) (sym (ap (number_asked x) q) ∙ e)))

    text_more : (hash : Place) (x : Full) (t : Option (List ℕ)) (y : Full) (o : Option ℕ) → text_asked f w hash x t ≡ (y, Ok o) → text_asked g w hash x t ≡ (y, Ok o)
    text_more hash x None y o e = e
    text_more hash x (Some name) y o e = number_more name x y o e

    admitted_more : (hash : Place) (name : List ℕ) (x : Full) (r : Result Bool Stopped) (y : Full) (o : Option ℕ) → admitted_asked f w hash name x r ≡ (y, Ok o) → admitted_asked g w hash name x r ≡ (y, Ok o)
    admitted_more hash name x (Err h) y o e = e
    admitted_more hash name x (Ok false) y o e = e
    admitted_more hash name x (Ok true) y o e = text_more hash x _ y o e

    included_more : (below : ℕ) (hash : Place) (name : List ℕ) (x y : Full) (o : Option ℕ) → file_included f w below hash name x ≡ (y, Ok o) → file_included g w below hash name x ≡ (y, Ok o)
    included_more below hash name x y o e = admitted_more hash name _ (admitted x.asked.sources below hash name x.state).1 y o e

  abbrev held_by : Within → Within
  held_by c = record c { shelf = g }

  changes_more : {c : Within} {t : Token} {d : Directive} {rest : List Token} {a b : Full} → Changes c t d rest a b → Changes (held_by c) t d rest a b
  changes_more (defines e) = defines e
  changes_more (undefines e) = undefines e
  changes_more (marks_once e) = marks_once e

  begins_more : {c : Within} {x : Full} {t : Token} {ts : List Token} {b : Bool} → Begins c x t ts b → Begins (held_by c) x t ts b
  begins_more s = record { hash = s.hash; d = s.d; asks = s.asks; name = s.name; line = s.line; opens = s.opens; named = s.named; closed = s.closed; allowed = s.allowed; chosen = s.chosen }

  joins_more : {c : Within} {from to : List Token} {a b : Full} → HoldsMore c.shelf g → Joins c from to a b → Joins (held_by c) from to a b
  joins_more m no_part = no_part
  joins_more m (one_token p q r j) = one_token p q r (joins_more m j)
  joins_more m (one_end p q j) = one_end p q (joins_more m j)
  joins_more m (one_line p q r j) = one_line p q (changes_more r) (joins_more m j)
  joins_more m (own_header p q r j) = own_header p q r (joins_more m j)
  joins_more m (included_once {c} {t} {name} {f = x} {g = y} p q r s j) = included_once p q r (included_more c.shelf m c.words c.below t.place name x y None s) (joins_more m j)
  joins_more m (one_file {c} {t} {name} {n} {f = x} {g = y} p q r s b k l i j) =
      one_file p q r (included_more c.shelf m c.words c.below t.place name x y (Some n) s) b k l (joins_more m i) (joins_more m j)
  joins_more m (first_side b i e j) = first_side (begins_more b) (joins_more m i) e (joins_more m j)
  joins_more m (first_not_second b i e l u j) = first_not_second (begins_more b) (joins_more m i) e l u (joins_more m j)
  joins_more m (neither_side b l e j) = neither_side (begins_more b) l e (joins_more m j)
  joins_more m (second_side b l e i u j) = second_side (begins_more b) l e (joins_more m i) u (joins_more m j)

  file_more : (f : Shelf) (w : Words) (below n : ℕ) (a b : Full) → HoldsMore f g → JoinsFile f w below n a b → JoinsFile g w below n a b
  file_more f w below n a b m j = record { file = j.file; source = j.source; is_file = j.is_file; is_source = j.is_source; joins = joins_more m j.joins }

  roots_more : (f : Shelf) (w : Words) {names : List (List ℕ)} {before last : ℕ} {a b : Full} → HoldsMore f g → JoinsRoots f w names before a last b → JoinsRoots g w names before a last b
  roots_more f w m no_root = no_root
  roots_more f w m (one_root {name} {n} {a = b} {f = x} {g = y} e j k) = one_root (asked_more f m w name x.asked b n e) (file_more f w 15 n (record x { asked = b }) y m j) (roots_more f w m k)

  -- the roots join to the same
  pub joined_again : (f : Shelf) (before roots names : List (List ℕ)) (sources : List Source) (j : Joined) → HoldsMore f g → JoinsTo f before roots names sources j → JoinsTo g before roots names sources j
  joined_again f before roots names sources j m d = record { last = d.last; known = d.known; state = d.state; joins = roots_more f _ m d.joins; ends = d.ends }
