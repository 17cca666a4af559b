-- Every name of joined files is an identifier.
use Rattle.std.proofs.Common.{◌≡◌, ℕ, zero, suc, ◌-◌, List, [], ◌∷◌, Bool, true, false, Option, Some, None, Result, Ok, Err, ap, subst}
use Rattle.scc_base.specs.Names.{fixed_names}
use Rattle.scc_base.specs.Outside.{Shelf}
use Rattle.scc_base.specs.declared.code.Code.{Code}
use Rattle.scc_base.specs.declared.refusal.Place.{Place}
use Rattle.scc_tokens_directives.specs.declared.directive.Words.{Words}
use Rattle.scc_tokens_directives.specs.declared.file.File.{File}
use Rattle.scc_tokens_directives.specs.declared.file.Source.{Source}
use Rattle.scc_tokens.specs.declared.joining.Joined.{Joined}
use Rattle.scc_tokens_directives.specs.declared.sides.Side.{Side}
use Rattle.scc_tokens_lexer.specs.declared.token.Token.{Token}
use Rattle.scc_tokens_directives.specs.Directive.{with_names, word_texts, words_in}
use Rattle.scc_tokens.specs.Files.{Asked, asked, asked_by, read_by, lexed_by, number_of, names_read, file_of}
use Rattle.scc_tokens.specs.Join.{starts, asked_walked, root_joined, roots_joined, number_after, roots_finished, join_of}
use Rattle.scc_tokens_directives.specs.Steps.{Stopped}
use Rattle.scc_tokens.specs.Walk.{Full, Inside, Lines, Taken, Stepped, number_asked, text_asked, text_if, admitted, admitted_asked, file_included, then_by, stepped_with, name_stepped, found_stepped, front_taken, first_place, step_taken, in_file, at_file, entered, walk_on, walk_behind, tokens_of, file_walked}
use Rattle.scc_thin_module.specs.Identifiers.{AreIdentifiers}
use Rattle.scc_thin_module.proofs.Spelt.{read_kept, first_names}

abbrev InAsked : Asked → Type 0
InAsked a = AreIdentifiers a.names

abbrev InFull : Full → Type 0
InFull f = InAsked f.asked

abbrev InInside : Inside → Type 0
InInside x = InAsked x.asked

-- ---- files that are asked for

lexed_kept : (a : Asked) (n : ℕ) (r : Result File (Code × Place)) → InAsked a → InAsked (lexed_by a n r).0
lexed_kept a n (Ok f) h = h
lexed_kept a n (Err e) h = h

module _ (shelf : Shelf) (w : Words) where
  asked_kept : (name : List ℕ) (a : Asked) → InAsked a → InAsked (asked shelf w name a).0
  asked_kept name a h = by_number (number_of a.sources name)
    where
      by_content : (o : Option (List ℕ)) → InAsked (read_by shelf w name a o).0
      by_content None = h
      by_content (Some bytes) = lexed_kept _ _ (file_of (names_read a.names bytes) w _ bytes) (read_kept a.names bytes h)

      by_number : (o : Option ℕ) → InAsked (asked_by shelf w name a o).0
      by_number (Some n) = h
      by_number None = by_content (shelf name)

  numbered_kept : (f : Full) (p : Asked × Result ℕ Stopped) → InAsked p.0 → InFull (number_asked f p).0
  numbered_kept f (a, Ok n) h = h
  numbered_kept f (a, Err s) h = h

  included_kept : (hash : Place) (name : List ℕ) (f : Full) (r : Result Bool Stopped) → InFull f → InFull (admitted_asked shelf w hash name f r).0
  included_kept hash name f (Err s) h = h
  included_kept hash name f (Ok false) h = h
  included_kept hash name f (Ok true) h = by (text_if name)
    where
      by : (o : Option (List ℕ)) → InFull (text_asked shelf w hash f o).0
      by None = h
      by (Some text) = numbered_kept f (asked shelf w text f.asked) (asked_kept text f.asked h)

  -- ---- the walk over a file

  stepped_kept : (n : ℕ) (sides : List Side) (p : Full × Result (Option ℕ) Stopped) → InFull p.0 → InInside (stepped_with n sides p).0
  stepped_kept n sides (f, Ok o) h = h
  stepped_kept n sides (f, Err s) h = h

  named_kept : (below : ℕ) (hash : Place) (a : Asked) (l : Lines) (r : Result Taken Stopped) → InAsked a → InInside (name_stepped shelf w below hash a l r).0
  named_kept below hash a l (Err s) h = h
  named_kept below hash a l (Ok (n, None)) h = h
  named_kept below hash a l (Ok (n, Some name)) h =
      let x = admitted a.sources below hash name l.state in
      stepped_kept n l.sides (file_included shelf w below hash name (record { state = l.state; asked = a })) (included_kept hash name (record { state = x.0; asked = a }) x.1 h)

  found_kept : (number below : ℕ) (ts : List Token) (x : Inside) (f : Option File) (s : Option Source) → InInside x → InInside (found_stepped shelf w number below ts x f s).0
  found_kept number below ts x None s h = h
  found_kept number below ts x (Some file) None h = h
  found_kept number below ts x (Some file) (Some source) h =
      let t = front_taken w source number file.unclosed ts (record { state = x.state; sides = x.sides }) in
      named_kept below (first_place ts) x.asked t.0 t.1 h

  abbrev Keeps : (ℕ → Full → Full × Result (Unit {0}) Stopped) → Type 0
  Keeps inner = (n : ℕ) (f : Full) → InFull f → InFull (inner n f).0

  then_kept : {A B : Type 0} (r : Result A Stopped) (f : Full) (g : A → Full → Full × Result B Stopped) → InFull f → ((x : A) (f : Full) → InFull f → InFull (g x f).0) → InFull (then_by r f g).0
  then_kept (Ok x) f g h more = more x f h
  then_kept (Err s) f g h more = h

  entered_kept : (inner : ℕ → Full → Full × Result (Unit {0}) Stopped) (x : Inside) (o : Option ℕ) (rest : Inside → Full × Result (Unit {0}) Stopped) → Keeps inner → InInside x
      → ((y : Inside) → InInside y → InFull (rest y).0) → InFull (entered inner x o rest).0
  entered_kept inner x None rest keeps h more = more x h
  entered_kept inner x (Some m) rest keeps h more =
      then_kept (inner m (at_file x)).1 (inner m (at_file x)).0 (λ u f. rest (in_file x.sides f)) (keeps m (at_file x) h) (λ u f k. more (in_file x.sides f) k)

  walked_kept : (inner : ℕ → Full → Full × Result (Unit {0}) Stopped) (p : Inside × Result Stepped Stopped) (rest : ℕ → Inside → Full × Result (Unit {0}) Stopped) → Keeps inner → InInside p.0
      → ((n : ℕ) (y : Inside) → InInside y → InFull (rest n y).0) → InFull (walk_on inner p rest).0
  walked_kept inner (x, Err s) rest keeps h more = h
  walked_kept inner (x, Ok (n, o)) rest keeps h more = entered_kept inner x o (λ y. rest (n - 1) y) keeps h (λ y k. more (n - 1) y k)

  behind_kept : (inner : ℕ → Full → Full × Result (Unit {0}) Stopped) (number below : ℕ) → Keeps inner → (ts : List Token) (n : ℕ) (x : Inside) → InInside x
      → InFull (walk_behind inner shelf w number below n ts x).0
  unfolding walk_behind
  behind_kept inner number below keeps [] n x h = h
  behind_kept inner number below keeps (t ∷ ts) (suc n) x h = behind_kept inner number below keeps ts n x h
  behind_kept inner number below keeps (t ∷ ts) zero x h =
      walked_kept inner (step_taken shelf w number below (t ∷ ts) x) (λ n y. walk_behind inner shelf w number below n ts y) keeps
      (found_kept number below (t ∷ ts) x _ _ h) (λ n y k. behind_kept inner number below keeps ts n y k)

  file_kept : (below : ℕ) → Keeps (file_walked shelf w below)
  unfolding file_walked
  file_kept zero number f h = h
  file_kept (suc below) number f h =
      behind_kept (file_walked shelf w below) number below (λ n f k. file_kept below n f k) (tokens_of f.asked.known number) 0 (in_file [] f) h

  -- ---- the roots

  after_kept : (n : ℕ) (p : Full × Result (Unit {0}) Stopped) → InFull p.0 → InFull (number_after n p).0
  after_kept n (f, Ok u) h = h
  after_kept n (f, Err s) h = h

  root_kept : (f : Full) (p : Asked × Result ℕ Stopped) → InAsked p.0 → InFull (asked_walked shelf w f p).0
  root_kept f (a, Err s) h = h
  root_kept f (a, Ok n) h = after_kept n (file_walked shelf w 16 n (record f { asked = a })) (file_kept 16 n (record f { asked = a }) h)

  roots_kept : (rs : List (List ℕ)) (last : ℕ) (f : Full) → InFull f → InFull (roots_joined shelf w rs last f).0
  roots_kept [] last f h = h
  roots_kept (r ∷ rs) last f h =
      then_kept (root_joined shelf w r f).1 (root_joined shelf w r f).0 (λ n g. roots_joined shelf w rs n g) (root_kept f (asked shelf w r f.asked) (asked_kept r f.asked h))
      (λ n g k. roots_kept rs n g k)

finished_kept : (p : Full × Result ℕ Stopped) → InFull p.0 → AreIdentifiers (roots_finished p).0
finished_kept (f, Ok last) h = h
finished_kept (f, Err s) h = h

names_known : (shelf : Shelf) (roots : List (List ℕ)) → AreIdentifiers (join_of shelf fixed_names roots).0
unfolding join_of
names_known shelf roots =
    let names = with_names fixed_names word_texts in
    finished_kept (roots_joined shelf (words_in names) roots 0 _) (roots_kept shelf (words_in names) roots 0 (record { state = starts (words_in names); asked = record { known = []; sources = []; names = names } }) first_names)

pub joined_names : (shelf : Shelf) (roots names : List (List ℕ)) (sources : List Source) (r : Result Joined Stopped) → join_of shelf fixed_names roots ≡ (names, sources, r) → AreIdentifiers names
joined_names shelf roots names sources r e = subst AreIdentifiers (ap (λ x. x.0) e) (names_known shelf roots)
