-- First faults of joining, by derivations: parts that are joined, and then the first that is refused or whose file isn't there.
use Rattle.std.specs.Prelude.{◌≡◌, ℕ, suc, List, [], ◌∷◌, length, Bool, true, false, ◌==◌, Some, Ok, Err, slice_get}
use Rattle.scc_base.specs.Outside.{Shelf}
use Rattle.scc_base.specs.declared.code.Code.{Code}
use Rattle.scc_base.specs.declared.code.Code.TheVariants as code
use Rattle.scc_tokens_directives.specs.declared.directive.Words.{Words}
use Rattle.scc_tokens_directives.specs.declared.directive.Directive.{Directive}
use Rattle.scc_tokens_directives.specs.declared.directive.Directive.TheVariants as directive
use Rattle.scc_tokens_directives.specs.declared.file.File.{File}
use Rattle.scc_tokens_directives.specs.declared.file.Source.{Source}
use Rattle.scc_tokens_directives.specs.declared.out.Out.{Out}
use Rattle.scc_tokens_lexer.specs.declared.token.Token.{Token}
use Rattle.scc_tokens_directives.specs.Active.{token_taken}
use Rattle.scc_tokens_directives.specs.Define.{defined, undefined, with_once}
use Rattle.scc_tokens_directives.specs.Directive.{is_line_end, is_named, refusal_of, words_in, with_names, word_texts}
use Rattle.scc_tokens_directives.specs.File.{is_hash}
use Rattle.scc_tokens.specs.Files.{Asked, asked}
use Rattle.scc_tokens.specs.Join.{finished, starts, stop_settled}
use Rattle.scc_tokens_laws.specs.Joined.{behind_line, directive_at, Opening, LeftOut, Within, with_out, with_macros, with_onces, Begins, Alone, Led, Joins, JoinsFile, JoinsRoots}
use Rattle.scc_tokens_directives.specs.Lines.{is_at}
use Rattle.scc_tokens_directives.specs.Macros.{Table}
use Rattle.scc_tokens_directives.specs.Steps.{Stopped, Refuses}
use Rattle.scc_tokens.specs.Walk.{Full, file_included, wanted_name}

-- `#ifdef` or `#ifndef` with these operands is refused
pub data OpensBadly (c : Within) (t : Token) : List Token → Stopped → Type 0 where
  no_operand : OpensBadly c t [] (Refuses code.Directive t.place)
  operands : {a b : Token} {rest : List Token} → OpensBadly c t (a ∷ b ∷ rest) (Refuses code.Directive t.place)
  no_name : {a : Token} → is_named a.kind ≡ false → OpensBadly c t (a ∷ []) (Refuses code.Directive t.place)
  -- no `#endif` closes it in its file
  not_closed : {a : Token} → is_named a.kind ≡ true → is_at c.unclosed t.place.at ≡ true → OpensBadly c t (a ∷ []) (Refuses code.OpenConditional t.place)
  outside_word : {a : Token} {e : Code} → is_named a.kind ≡ true → is_at c.unclosed t.place.at ≡ false → refusal_of a.kind ≡ Some e → OpensBadly c t (a ∷ []) (Refuses e a.place)

-- an active line is refused, or its file isn't there or can't be read
pub data LineStops (c : Within) : Token → Directive → List Token → Full → Full → Stopped → Type 0 where
  no_form : {t : Token} {rest : List Token} {f : Full} → LineStops c t directive.Unknown rest f f (Refuses code.Directive t.place)
  bad_define : {t : Token} {rest : List Token} {f : Full} {m : Table} {h : Stopped} → defined t rest f.state.macros ≡ (m, Some h) → LineStops c t directive.Define rest f (with_macros f m) h
  bad_undef : {t : Token} {rest : List Token} {f : Full} {m : Table} {h : Stopped} → undefined t rest f.state.macros ≡ (m, Some h) → LineStops c t directive.Undef rest f (with_macros f m) h
  bad_once : {t : Token} {rest : List Token} {f : Full} {l : List ℕ} {h : Stopped} → with_once c.words c.number t rest f.state.once ≡ (l, Some h) → LineStops c t directive.Pragma rest f (with_onces f l) h
  bad_opening : {t : Token} {d : Directive} {b : Bool} {rest : List Token} {f : Full} {h : Stopped} → Opening d b → OpensBadly c t rest h → LineStops c t d rest f f h
  bad_include : {t : Token} {rest : List Token} {f : Full} {h : Stopped} → wanted_name c.words c.source t rest ≡ Err h → LineStops c t directive.Include rest f f h
  not_included : {t : Token} {rest : List Token} {name : List ℕ} {f g : Full} {h : Stopped} → wanted_name c.words c.source t rest ≡ Ok (Some name)
      → file_included c.shelf c.words c.below t.place name f ≡ (g, Err h) → LineStops c t directive.Include rest f g h

-- a conditional begins in text that is left out
pub record LeftBegins (w : Words) (t : Token) (ts : List Token) : Type 0 where
  pub hash : is_hash t.kind ≡ true
  pub d : Directive
  pub b : Bool
  pub rest : List Token
  pub line : directive_at w ts ≡ (d, rest)
  pub opens : Opening d b

-- In text that is left out, the second `#else` of a conditional is refused.
pub data LeftStops (w : Words) : (from : List Token) → Token → Type 0 where
  left_twice : {t e u : Token} {from ts es us : List Token} → LeftOut w from (t ∷ ts) → LeftBegins w t ts → LeftOut w (behind_line ts) (e ∷ es) → Led w directive.Else e es
      → LeftOut w (behind_line es) (u ∷ us) → Led w directive.Else u us → LeftStops w from u
  left_in_first : {t u : Token} {from ts : List Token} → LeftOut w from (t ∷ ts) → LeftBegins w t ts → LeftStops w (behind_line ts) u → LeftStops w from u
  left_in_second : {t e u : Token} {from ts es : List Token} → LeftOut w from (t ∷ ts) → LeftBegins w t ts → LeftOut w (behind_line ts) (e ∷ es) → Led w directive.Else e es
      → LeftStops w (behind_line es) u → LeftStops w from u

pub data Turning : Directive → Type 0 where
  by_else : Turning directive.Else
  by_endif : Turning directive.Endif

-- an `#else` or `#endif`
pub record Turns (w : Words) (t : Token) (ts : List Token) : Type 0 where
  pub hash : is_hash t.kind ≡ true
  pub d : Directive
  pub rest : List Token
  pub line : directive_at w ts ≡ (d, rest)
  pub turns : Turning d

-- something stands behind the word of a line
abbrev pub Trails : List Token → Type 0
Trails rest = (length rest == 0) ≡ false

-- what is known where joining stops within a file, and why it does
pub data Stops : Within → (from : List Token) → Full → Full → Stopped → Type 0 where
  at_token : {c : Within} {t : Token} {from ts : List Token} {f g : Full} {o : Out} {h : Stopped} → Joins c from (t ∷ ts) f g → is_hash t.kind ≡ false → is_line_end t.kind ≡ false
      → token_taken g.state.macros t g.state.out ≡ (o, Some h) → Stops c from f (with_out g o) h
  at_line : {c : Within} {t : Token} {from ts rest : List Token} {d : Directive} {f g k : Full} {h : Stopped} → Joins c from (t ∷ ts) f g → is_hash t.kind ≡ true
      → directive_at c.words ts ≡ (d, rest) → LineStops c t d rest g k h → Stops c from f k h
  within_file : {c : Within} {t : Token} {from ts rest : List Token} {name : List ℕ} {n below : ℕ} {file : File} {source : Source} {f g k l : Full} {h : Stopped}
      → Joins c from (t ∷ ts) f g → is_hash t.kind ≡ true → directive_at c.words ts ≡ (directive.Include, rest) → wanted_name c.words c.source t rest ≡ Ok (Some name)
      → file_included c.shelf c.words c.below t.place name g ≡ (k, Ok (Some n)) → c.below ≡ suc below → slice_get k.asked.known n ≡ Some file → slice_get k.asked.sources n ≡ Some source
      → Stops (record { shelf = c.shelf; words = c.words; number = n; source = source; unclosed = file.unclosed; below = below }) file.tokens k l h
      → Stops c from f l h
  -- an included file has an `#else` or `#endif` without its opening
  file_turns : {c : Within} {t e : Token} {from ts es rest : List Token} {name : List ℕ} {n below : ℕ} {file : File} {source : Source} {f g k l : Full}
      → Joins c from (t ∷ ts) f g → is_hash t.kind ≡ true → directive_at c.words ts ≡ (directive.Include, rest) → wanted_name c.words c.source t rest ≡ Ok (Some name)
      → file_included c.shelf c.words c.below t.place name g ≡ (k, Ok (Some n)) → c.below ≡ suc below → slice_get k.asked.known n ≡ Some file → slice_get k.asked.sources n ≡ Some source
      → Joins (record { shelf = c.shelf; words = c.words; number = n; source = source; unclosed = file.unclosed; below = below }) file.tokens (e ∷ es) k l → Turns c.words e es
      → Stops c from f l (Refuses code.Directive e.place)
  within_first : {c : Within} {t : Token} {from ts : List Token} {f g k : Full} {h : Stopped} → Joins c from (t ∷ ts) f g → Begins c g t ts true
      → Stops c (behind_line ts) g k h → Stops c from f k h
  -- the `#else` or `#endif` of a side that is chosen has something behind its word
  first_trails : {c : Within} {t e : Token} {from ts es : List Token} {f g k : Full} → Joins c from (t ∷ ts) f g → Begins c g t ts true
      → Joins c (behind_line ts) (e ∷ es) g k → (x : Turns c.words e es) → Trails x.rest → Stops c from f k (Refuses code.Directive e.place)
  within_left_second : {c : Within} {t e u : Token} {from ts es : List Token} {f g k : Full} → Joins c from (t ∷ ts) f g → Begins c g t ts true
      → Joins c (behind_line ts) (e ∷ es) g k → Alone c.words directive.Else e es → LeftStops c.words (behind_line es) u → Stops c from f k (Refuses code.Directive u.place)
  second_else : {c : Within} {t e u : Token} {from ts es us : List Token} {f g k : Full} → Joins c from (t ∷ ts) f g → Begins c g t ts true
      → Joins c (behind_line ts) (e ∷ es) g k → Alone c.words directive.Else e es → LeftOut c.words (behind_line es) (u ∷ us) → Led c.words directive.Else u us
      → Stops c from f k (Refuses code.Directive u.place)
  within_left_first : {c : Within} {t u : Token} {from ts : List Token} {f g : Full} → Joins c from (t ∷ ts) f g → Begins c g t ts false
      → LeftStops c.words (behind_line ts) u → Stops c from f g (Refuses code.Directive u.place)
  within_second : {c : Within} {t e : Token} {from ts es : List Token} {f g k : Full} {h : Stopped} → Joins c from (t ∷ ts) f g → Begins c g t ts false
      → LeftOut c.words (behind_line ts) (e ∷ es) → Led c.words directive.Else e es → Stops c (behind_line es) g k h → Stops c from f k h
  third_side : {c : Within} {t e u : Token} {from ts es us : List Token} {f g k : Full} → Joins c from (t ∷ ts) f g → Begins c g t ts false
      → LeftOut c.words (behind_line ts) (e ∷ es) → Led c.words directive.Else e es → Joins c (behind_line es) (u ∷ us) g k → Led c.words directive.Else u us
      → Stops c from f k (Refuses code.Directive u.place)
  second_trails : {c : Within} {t e u : Token} {from ts es us : List Token} {f g k : Full} → Joins c from (t ∷ ts) f g → Begins c g t ts false
      → LeftOut c.words (behind_line ts) (e ∷ es) → Led c.words directive.Else e es → Joins c (behind_line es) (u ∷ us) g k → (x : Led c.words directive.Endif u us) → Trails x.rest
      → Stops c from f k (Refuses code.Directive u.place)

-- Where joining stops within a file of this number, or at an `#else` or `#endif` of it without its opening.
pub data FileStops (shelf : Shelf) (w : Words) (below n : ℕ) : Full → Full → Stopped → Type 0 where
  in_parts : {file : File} {source : Source} {f g : Full} {h : Stopped} → slice_get f.asked.known n ≡ Some file → slice_get f.asked.sources n ≡ Some source
      → Stops (record { shelf = shelf; words = w; number = n; source = source; unclosed = file.unclosed; below = below }) file.tokens f g h → FileStops shelf w below n f g h
  unopened : {file : File} {source : Source} {e : Token} {es : List Token} {f g : Full} → slice_get f.asked.known n ≡ Some file → slice_get f.asked.sources n ≡ Some source
      → Joins (record { shelf = shelf; words = w; number = n; source = source; unclosed = file.unclosed; below = below }) file.tokens (e ∷ es) f g → Turns w e es
      → FileStops shelf w below n f g (Refuses code.Directive e.place)

-- Where joining stops within roots: a root that can't be read or has a fault of its text, or within it, or within those behind it.
pub data RootsStop (shelf : Shelf) (w : Words) : List (List ℕ) → Full → Full → Stopped → Type 0 where
  no_root_read : {name : List ℕ} {names : List (List ℕ)} {a : Asked} {f : Full} {h : Stopped} → asked shelf w name f.asked ≡ (a, Err h)
      → RootsStop shelf w (name ∷ names) f (record f { asked = a }) h
  within_root : {name : List ℕ} {names : List (List ℕ)} {n : ℕ} {a : Asked} {f g : Full} {h : Stopped} → asked shelf w name f.asked ≡ (a, Ok n)
      → FileStops shelf w 15 n (record f { asked = a }) g h → RootsStop shelf w (name ∷ names) f g h
  behind_root : {name : List ℕ} {names : List (List ℕ)} {n : ℕ} {a : Asked} {f g k : Full} {h : Stopped} → asked shelf w name f.asked ≡ (a, Ok n)
      → JoinsFile shelf w 15 n (record f { asked = a }) g → RootsStop shelf w names g k h → RootsStop shelf w (name ∷ names) f k h

-- what is known before the first root
abbrev pub at_start : List (List ℕ) → Full
at_start before =
    record { state = starts (words_in (with_names before word_texts)); asked = record { known = []; sources = []; names = with_names before word_texts } }

-- The first fault of the roots: the names after it, the files that were read, and the refusal or the file that isn't there. A word that waits
-- for a `::` and has no room is refused before it.
pub data StopsAt (shelf : Shelf) (before : List (List ℕ)) (roots : List (List ℕ)) : List (List ℕ) → List Source → Stopped → Type 0 where
  in_roots : {f : Full} {h : Stopped} → RootsStop shelf (words_in (with_names before word_texts)) roots (at_start before) f h
      → StopsAt shelf before roots f.asked.names f.asked.sources (stop_settled f.state.out h)
  at_end : {last : ℕ} {f : Full} {h : Stopped} → JoinsRoots shelf (words_in (with_names before word_texts)) roots 0 (at_start before) last f
      → finished f.asked.sources last f.state.out ≡ Err h → StopsAt shelf before roots f.asked.names f.asked.sources h
