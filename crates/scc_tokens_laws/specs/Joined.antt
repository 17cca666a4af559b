-- Joined files, by derivations (C++, "Preprocessing directives"): what the parts of a file do, one after another. A part is a token, a line of
-- a directive, or a conditional with all that it encloses; `from` and `to` are what is left of a file before and behind some parts.
use Rattle.std.specs.Prelude.{◌≡◌, ℕ, suc, List, [], ◌∷◌, take, drop, Bool, true, false, Option, Some, None, Ok, slice_get}
use Rattle.scc_base.specs.Outside.{Shelf}
use Rattle.scc_tokens_directives.specs.declared.directive.Words.{Words}
use Rattle.scc_tokens_directives.specs.declared.directive.Directive.{Directive}
use Rattle.scc_tokens_directives.specs.declared.directive.Directive.TheVariants as directive
use Rattle.scc_tokens_directives.specs.declared.file.File.{File}
use Rattle.scc_tokens_directives.specs.declared.file.Source.{Source}
use Rattle.scc_tokens.specs.declared.joining.Joined.{Joined}
use Rattle.scc_tokens_directives.specs.declared.out.Out.{Out}
use Rattle.scc_tokens_lexer.specs.declared.token.Token.{Token}
use Rattle.scc_tokens.specs.declared.walk.Joining.{Joining}
use Rattle.scc_tokens_directives.specs.Active.{token_taken}
use Rattle.scc_tokens_directives.specs.Define.{defined, undefined, with_once}
use Rattle.scc_tokens_directives.specs.Directive.{is_line_end, is_named, line_len, refusal_of, words_in, with_names, word_texts}
use Rattle.scc_tokens_directives.specs.File.{is_hash}
use Rattle.scc_tokens.specs.Files.{Asked, asked}
use Rattle.scc_tokens.specs.Join.{finished, starts}
use Rattle.scc_tokens_directives.specs.Lines.{is_macro, is_at, bool_eq}
use Rattle.scc_tokens_directives.specs.Macros.{Table}
use Rattle.scc_tokens.specs.Walk.{Full, file_included, split_line, wanted_name}

-- what is left behind the line at the front
abbrev pub behind_line : List Token → List Token
behind_line ts = drop (line_len ts) ts

-- the directive behind a `#`, and the tokens of its line behind its word
abbrev pub directive_at : Words → List Token → Directive × List Token
directive_at w ts = split_line w (take (line_len ts) ts)

-- a line that begins a conditional; true for `#ifdef`, false for `#ifndef`
pub data Opening : Directive → Bool → Type 0 where
  by_ifdef : Opening directive.Ifdef true
  by_ifndef : Opening directive.Ifndef false

-- a line that neither begins, turns nor ends a conditional
pub data Plain : Directive → Type 0 where
  plain_include : Plain directive.Include
  plain_define : Plain directive.Define
  plain_undef : Plain directive.Undef
  plain_pragma : Plain directive.Pragma
  plain_unknown : Plain directive.Unknown

-- Parts of text that is left out, where only the nesting of conditionals counts.
pub data LeftOut (w : Words) : (from to : List Token) → Type 0 where
  left_none : {ts : List Token} → LeftOut w ts ts
  left_token : {t : Token} {ts to : List Token} → is_hash t.kind ≡ false → LeftOut w ts to → LeftOut w (t ∷ ts) to
  left_line : {t : Token} {ts to : List Token} {d : Directive} {rest : List Token} → is_hash t.kind ≡ true → directive_at w ts ≡ (d, rest) → Plain d
      → LeftOut w (behind_line ts) to → LeftOut w (t ∷ ts) to
  left_conditional : {t e : Token} {ts es to : List Token} {d : Directive} {b : Bool} {rest extra : List Token} → is_hash t.kind ≡ true → directive_at w ts ≡ (d, rest) → Opening d b
      → LeftOut w (behind_line ts) (e ∷ es) → is_hash e.kind ≡ true → directive_at w es ≡ (directive.Endif, extra)
      → LeftOut w (behind_line es) to → LeftOut w (t ∷ ts) to
  left_with_else : {t e u : Token} {ts es us to : List Token} {d : Directive} {b : Bool} {rest extra more : List Token} → is_hash t.kind ≡ true → directive_at w ts ≡ (d, rest) → Opening d b
      → LeftOut w (behind_line ts) (e ∷ es) → is_hash e.kind ≡ true → directive_at w es ≡ (directive.Else, extra)
      → LeftOut w (behind_line es) (u ∷ us) → is_hash u.kind ≡ true → directive_at w us ≡ (directive.Endif, more)
      → LeftOut w (behind_line us) to → LeftOut w (t ∷ ts) to

-- a file that is joined: what names of files hold, the file's number, name and bytes, where its first conditional begins that isn't
-- closed, and how many levels of inclusion may be below it
pub record Within : Type 0 where
  pub shelf : Shelf
  pub words : Words
  pub number : ℕ
  pub source : Source
  pub unclosed : Option ℕ
  pub below : ℕ

abbrev pub with_out : Full → Out → Full
with_out f o = record f { state = record f.state { out = o } }

abbrev pub with_macros : Full → Table → Full
with_macros f m = record f { state = record f.state { macros = m } }

abbrev pub with_onces : Full → List ℕ → Full
with_onces f once = record f { state = record f.state { once = once } }

-- a line that changes macros, or says that its file is included once
pub data Changes (c : Within) : Token → Directive → List Token → Full → Full → Type 0 where
  defines : {t : Token} {rest : List Token} {f : Full} {m : Table} → defined t rest f.state.macros ≡ (m, None) → Changes c t directive.Define rest f (with_macros f m)
  undefines : {t : Token} {rest : List Token} {f : Full} {m : Table} → undefined t rest f.state.macros ≡ (m, None) → Changes c t directive.Undef rest f (with_macros f m)
  marks_once : {t : Token} {rest : List Token} {f : Full} {l : List ℕ} → with_once c.words c.number t rest f.state.once ≡ (l, None) → Changes c t directive.Pragma rest f (with_onces f l)

-- a conditional begins, and its first side is chosen where b holds
pub record Begins (c : Within) (f : Full) (t : Token) (ts : List Token) (b : Bool) : Type 0 where
  pub hash : is_hash t.kind ≡ true
  pub d : Directive
  pub asks : Bool
  pub name : Token
  pub line : directive_at c.words ts ≡ (d, name ∷ [])
  pub opens : Opening d asks
  pub named : is_named name.kind ≡ true
  pub closed : is_at c.unclosed t.place.at ≡ false
  pub allowed : refusal_of name.kind ≡ None
  pub chosen : bool_eq (is_macro f.state.macros name.kind) asks ≡ b

-- a line with this directive alone
pub record Alone (w : Words) (d : Directive) (t : Token) (ts : List Token) : Type 0 where
  pub hash : is_hash t.kind ≡ true
  pub line : directive_at w ts ≡ (d, [])

-- a line with this directive, and what stands behind it
pub record Led (w : Words) (d : Directive) (t : Token) (ts : List Token) : Type 0 where
  pub hash : is_hash t.kind ≡ true
  pub rest : List Token
  pub line : directive_at w ts ≡ (d, rest)

-- Parts of a file that are joined, with what is known before and after them.
pub data Joins : Within → (from to : List Token) → Full → Full → Type 0 where
  no_part : {c : Within} {ts : List Token} {f : Full} → Joins c ts ts f f
  one_token : {c : Within} {t : Token} {ts to : List Token} {f g : Full} {o : Out} → is_hash t.kind ≡ false → is_line_end t.kind ≡ false → token_taken f.state.macros t f.state.out ≡ (o, None)
      → Joins c ts to (with_out f o) g → Joins c (t ∷ ts) to f g
  one_end : {c : Within} {t : Token} {ts to : List Token} {f g : Full} → is_hash t.kind ≡ false → is_line_end t.kind ≡ true → Joins c ts to f g → Joins c (t ∷ ts) to f g
  one_line : {c : Within} {t : Token} {ts to rest : List Token} {d : Directive} {f g h : Full} → is_hash t.kind ≡ true → directive_at c.words ts ≡ (d, rest) → Changes c t d rest f g
      → Joins c (behind_line ts) to g h → Joins c (t ∷ ts) to f h
  -- a header of SystemC's own
  own_header : {c : Within} {t : Token} {ts to rest : List Token} {f g : Full} → is_hash t.kind ≡ true → directive_at c.words ts ≡ (directive.Include, rest) → wanted_name c.words c.source t rest ≡ Ok None
      → Joins c (behind_line ts) to f g → Joins c (t ∷ ts) to f g
  -- a file that is included once, and was included
  included_once : {c : Within} {t : Token} {ts to rest : List Token} {name : List ℕ} {f g h : Full} → is_hash t.kind ≡ true → directive_at c.words ts ≡ (directive.Include, rest)
      → wanted_name c.words c.source t rest ≡ Ok (Some name) → file_included c.shelf c.words c.below t.place name f ≡ (g, Ok None)
      → Joins c (behind_line ts) to g h → Joins c (t ∷ ts) to f h
  -- a file takes the place of the line that includes it
  one_file : {c : Within} {t : Token} {ts to rest : List Token} {name : List ℕ} {n below : ℕ} {file : File} {source : Source} {f g h k : Full} → is_hash t.kind ≡ true
      → directive_at c.words ts ≡ (directive.Include, rest) → wanted_name c.words c.source t rest ≡ Ok (Some name) → file_included c.shelf c.words c.below t.place name f ≡ (g, Ok (Some n))
      → c.below ≡ suc below → slice_get g.asked.known n ≡ Some file → slice_get g.asked.sources n ≡ Some source
      → Joins (record { shelf = c.shelf; words = c.words; number = n; source = source; unclosed = file.unclosed; below = below }) file.tokens [] g h
      → Joins c (behind_line ts) to h k → Joins c (t ∷ ts) to f k
  -- a conditional whose first side is chosen
  first_side : {c : Within} {t e : Token} {ts es to : List Token} {f g h : Full} → Begins c f t ts true
      → Joins c (behind_line ts) (e ∷ es) f g → Alone c.words directive.Endif e es
      → Joins c (behind_line es) to g h → Joins c (t ∷ ts) to f h
  first_not_second : {c : Within} {t e u : Token} {ts es us to : List Token} {f g h : Full} → Begins c f t ts true
      → Joins c (behind_line ts) (e ∷ es) f g → Alone c.words directive.Else e es
      → LeftOut c.words (behind_line es) (u ∷ us) → Led c.words directive.Endif u us
      → Joins c (behind_line us) to g h → Joins c (t ∷ ts) to f h
  -- a conditional whose first side is left out
  neither_side : {c : Within} {t e : Token} {ts es to : List Token} {f g : Full} → Begins c f t ts false
      → LeftOut c.words (behind_line ts) (e ∷ es) → Led c.words directive.Endif e es
      → Joins c (behind_line es) to f g → Joins c (t ∷ ts) to f g
  second_side : {c : Within} {t e u : Token} {ts es us to : List Token} {f g h : Full} → Begins c f t ts false
      → LeftOut c.words (behind_line ts) (e ∷ es) → Led c.words directive.Else e es
      → Joins c (behind_line es) (u ∷ us) f g → Alone c.words directive.Endif u us
      → Joins c (behind_line us) to g h → Joins c (t ∷ ts) to f h

-- the file of this number is joined, below which so many levels may be
pub record JoinsFile (shelf : Shelf) (w : Words) (below n : ℕ) (f g : Full) : Type 0 where
  pub file : File
  pub source : Source
  pub is_file : slice_get f.asked.known n ≡ Some file
  pub is_source : slice_get f.asked.sources n ≡ Some source
  pub joins : Joins (record { shelf = shelf; words = w; number = n; source = source; unclosed = file.unclosed; below = below }) file.tokens [] f g

-- roots in order, 15 levels of inclusion below each; the number of the last
pub data JoinsRoots (shelf : Shelf) (w : Words) : List (List ℕ) → ℕ → Full → ℕ → Full → Type 0 where
  no_root : {last : ℕ} {f : Full} → JoinsRoots shelf w [] last f last f
  one_root : {name : List ℕ} {names : List (List ℕ)} {before n last : ℕ} {a : Asked} {f g h : Full} → asked shelf w name f.asked ≡ (a, Ok n) → JoinsFile shelf w 15 n (record f { asked = a }) g
      → JoinsRoots shelf w names n g last h → JoinsRoots shelf w (name ∷ names) before f last h

-- The roots join to this: the names after it, the files that were read, and the joined tokens with the end of the last root.
pub record JoinsTo (shelf : Shelf) (before : List (List ℕ)) (roots : List (List ℕ)) (names : List (List ℕ)) (sources : List Source) (j : Joined) : Type 0 where
  pub last : ℕ
  pub known : List File
  pub state : Joining
  pub joins : JoinsRoots shelf (words_in (with_names before word_texts)) roots 0
      (record { state = starts (words_in (with_names before word_texts)); asked = record { known = []; sources = []; names = with_names before word_texts } })
      last (record { state = state; asked = record { known = known; sources = sources; names = names } })
  pub ends : finished sources last state.out ≡ Ok j
