-- Words and marks by their spelling (C++, "Keywords", "Operators and punctuators"; IEEE 1666-2011).
use Rattle.std.specs.Prelude.{ℕ, List, map, Option, option_map, bytes_eq}
use Rattle.std.specs.List.{find}
use Rattle.scc_tokens_lexer.specs.Keywords.{keyword_number, punct_number}
use Rattle.scc_grammar_terminals.specs.declared.terminal.Terminal.{Terminal}
use Rattle.scc_grammar_spelling.specs.declared.table.TheConstants.{WORDS, MARKS}

-- a text, and what it is
abbrev pub Row : Type 0 → Type 0
Row X = List ℕ × X

-- the terminal of each word, and of each mark
abbrev pub words : List (Row Terminal)
words = map (λ r. (r.0.now, r.2)) WORDS

abbrev pub marks : List (Row Terminal)
marks = map (λ r. (r.0.now, r.2)) MARKS

-- the number that the name of each word, and of each mark, has
abbrev pub keywords : List (Row ℕ)
keywords = map (λ r. (r.0.now, keyword_number r.1)) WORDS

abbrev pub puncts : List (Row ℕ)
puncts = map (λ r. (r.0.now, punct_number r.1)) MARKS

-- what a text is, by a table of spellings
abbrev pub named_by : {X : Type 0} → List (Row X) → List ℕ → Option X
named_by rows text = option_map (λ r. r.1) (find (λ r. bytes_eq r.0 text) rows)
