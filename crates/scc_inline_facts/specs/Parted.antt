-- What copies of statements come to, by the parts of statements. This project's own.
use Rattle.std.specs.Prelude.{ℕ, zero, suc, ◌+◌, max, List, map, Option, Some, None, slice_get}
use Rattle.std.specs.Borrow.{Bor}
use Rattle.scc_plain_tree.specs.declared.stmt.PlainStmt.{PlainStmt}
use Rattle.scc_elab_spec.specs.Program.{Function, Plain}
use Rattle.scc_plain_view.specs.Codes.{code_of}
use Rattle.scc_plain_view.specs.Terms.{argument_of}
use Rattle.scc_inline_size_laws.specs.Counts.{call_height, call_size, declared_size, height_in, level, size_in}
use Rattle.scc_inline_facts.specs.declared.parts.Called.{Called}
use Rattle.scc_inline_facts.specs.declared.parts.Parts.{Parts}

abbrev pub declares_size : Function → Option ℕ → ℕ
declares_size f None = 0
declares_size f (Some n) = declared_size (slice_get f.locals n)

abbrev pub calls_size : (ℕ → ℕ) → Plain → Option Called → ℕ
calls_size sizes p None = 0
calls_size sizes p (Some c) = call_size sizes p c.function (map argument_of c.args.now)

abbrev pub calls_height : (ℕ → ℕ) → Plain → Option Called → ℕ
calls_height heights p None = 0
calls_height heights p (Some c) = call_height heights p c.function (map argument_of c.args.now)

abbrev pub list_size : (ℕ → ℕ) → Plain → Function → Option (Bor (List PlainStmt)) → ℕ
list_size sizes p f None = 0
list_size sizes p f (Some ss) = size_in sizes p f (code_of ss.now)

abbrev pub list_height : (ℕ → ℕ) → Plain → Function → Option (Bor (List PlainStmt)) → ℕ
list_height heights p f None = 0
list_height heights p f (Some ss) = height_in heights p f (code_of ss.now)

-- one level higher, where there is a statement
abbrev pub raised : ℕ → ℕ
raised zero = 0
raised (suc h) = suc (suc h)

-- what a statement comes to by itself, and with the statements in it
abbrev pub own_size : (ℕ → ℕ) → Plain → Function → Parts → ℕ
own_size sizes p f x = x.own + (declares_size f x.declares + calls_size sizes p x.calls)

abbrev pub own_height : (ℕ → ℕ) → Plain → Function → Parts → ℕ
own_height heights p f x = max (level x.own) (max (level (declares_size f x.declares)) (calls_height heights p x.calls))

abbrev pub parts_size : (ℕ → ℕ) → Plain → Function → Parts → ℕ
parts_size sizes p f x = own_size sizes p f x + (list_size sizes p f x.first + list_size sizes p f x.second)

abbrev pub parts_height : (ℕ → ℕ) → Plain → Function → Parts → ℕ
parts_height heights p f x = max (own_height heights p f x) (max (raised (list_height heights p f x.first)) (raised (list_height heights p f x.second)))
