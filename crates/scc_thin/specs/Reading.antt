-- The grammar of a thin text: what stands at the front of a list of tokens, and what is behind it.
use Rattle.std.specs.Prelude.{ℕ, zero, suc, List, [], ◌∷◌, ◌++◌, length, Bool, true, false, ◌&&◌, if◌then◌else◌, ◌==◌, nat_le, nat_lt, Option, Some, None, option_map, codes, bytes_eq}
use Rattle.scc_bits_kinds.specs.declared.kind.Kind.{Kind}
use Rattle.scc_bits_kinds.specs.declared.kind.Kind.TheVariants as kind
use Rattle.scc_bits_kinds.specs.declared.kind.Word as bits
use Rattle.scc_thin.specs.declared.design.Bitwise.{Bitwise}
use Rattle.scc_thin.specs.declared.design.Bitwise.TheVariants as bitwise
use Rattle.scc_thin.specs.declared.thin.token.Token.{Token}
use Rattle.scc_thin.specs.declared.thin.numbers.TheConstants.{VOID, SC_MODULE, SC_CTOR, SC_METHOD, SC_IN, SC_OUT, SC_UINT, SENSITIVE, BRACE_OPEN, BRACE_CLOSE, PAREN_OPEN, PAREN_CLOSE, LESS, GREATER, SEMICOLON, COMMA, DOT, AND, OR, XOR, SHIFT_LEFT, SHIFT_RIGHT}
use Rattle.scc_thin.specs.declared.thin.token.Token.TheVariants.{Word, Mark, Name, Number}
use Rattle.scc_thin.specs.declared.thin.tree.Group.{Group}
use Rattle.scc_thin.specs.declared.thin.tree.Read.{Read}
use Rattle.scc_thin.specs.declared.thin.tree.Write.{Write}
use Rattle.scc_thin.specs.declared.thin.tree.Head.{Head}
use Rattle.scc_thin.specs.declared.thin.tree.Body.{Body}
use Rattle.scc_thin.specs.declared.thin.tree.Constructor.{Constructor}
use Rattle.scc_thin.specs.declared.thin.tree.Tree.{Tree}
use Rattle.scc_thin.specs.Gives.{◌>>=◌}

abbrev pub Reads : Type 0 → Type 0
Reads X = List Token → Option (X × List Token)

-- this mark, and the tokens behind it
abbrev pub after_mark : ℕ → List Token → Option (List Token)
after_mark m (Mark b ∷ ts) = if b == m then Some ts else None
after_mark m _ = None

-- this word
abbrev pub after_word : ℕ → List Token → Option (List Token)
after_word w (Word t ∷ ts) = if t == w then Some ts else None
after_word w _ = None

-- the name of a member that ports have
abbrev pub after_name : List ℕ → List Token → Option (List Token)
after_name n (Name t ∷ ts) = if bytes_eq t n then Some ts else None
after_name n _ = None

abbrev pub name_at : Reads (List ℕ)
name_at (Name t ∷ ts) = Some (t, ts)
name_at _ = None

-- a literal of so many bytes that stands for n, 1 to 64, is written in decimal, without a suffix
abbrev pub is_decimal : ℕ → ℕ → Bool
is_decimal n len = if nat_lt n 10 then len == 1 else len == 2

-- the width that a literal gives: an `int` from 1 to 64, in decimal
abbrev pub width_of : Kind → bits.Word → ℕ → Option ℕ
width_of (kind.Native bits signed) w len = if bits == 32 && signed && nat_le 1 w.bits && nat_le w.bits 64 && is_decimal w.bits len then Some w.bits else None
width_of _ w len = None

abbrev pub width_at : Reads ℕ
width_at (Number k w len ∷ ts) = option_map (λ n. (n, ts)) (width_of k w len)
width_at _ = None

-- items up to an end: a step reads one item, or the end; so many steps at most
abbrev pub Steps : Type 0 → Type 0
Steps X = Reads (Option X)

abbrev pub put_first : {X : Type 0} → X → Option (List X × List Token) → Option (List X × List Token)
put_first x None = None
put_first x (Some r) = Some (x ∷ r.0, r.1)

-- these items stand before those that are read
abbrev pub put_front : {X : Type 0} → List X → Option (List X × List Token) → Option (List X × List Token)
put_front front None = None
put_front front (Some r) = Some (front ++ r.0, r.1)

abbrev pub go_on : {X : Type 0} → (List Token → Option (List X × List Token)) → Option X → List Token → Option (List X × List Token)
go_on more None ts = Some ([], ts)
go_on more (Some x) ts = put_first x (more ts)

unfoldable pub items : {X : Type 0} → Steps X → ℕ → Reads (List X)
items step zero ts = None
items step (suc n) ts = step ts >>= (λ r. go_on (items step n) r.0 r.1)

-- `, NAME`, or `;`
abbrev pub or_else : {X : Type 0} → Option (List Token) → (List Token → Option X) → Option X → Option X
or_else None f other = other
or_else (Some ts) f other = f ts

abbrev pub no_item : {X : Type 0} → Option (List Token) → Option (Option X × List Token)
no_item o = option_map (λ ts. (None, ts)) o

abbrev pub an_item : {X : Type 0} → Option (X × List Token) → Option (Option X × List Token)
an_item o = option_map (λ r. (Some r.0, r.1)) o

unfoldable pub name_step : Steps (List ℕ)
name_step ts = or_else (after_mark SEMICOLON ts) (λ ts. Some (None, ts)) (an_item (after_mark COMMA ts >>= name_at))

unfoldable pub sense_step : Steps (List ℕ)
sense_step ts = or_else (after_mark SEMICOLON ts) (λ ts. Some (None, ts)) (an_item (after_mark SHIFT_LEFT ts >>= name_at))

-- a name, and more of them
abbrev pub names_at : Steps (List ℕ) → Reads (List (List ℕ))
names_at step ts = name_at ts >>= (λ n. put_first n.0 (items step (length n.1) n.1))

unfoldable pub direction_at : Reads Bool
direction_at ts = or_else (after_word SC_IN ts) (λ ts. Some (false, ts)) (option_map (λ ts. (true, ts)) (after_word SC_OUT ts))

-- the end of two lists of arguments
unfoldable pub closed_at : List Token → Option (List Token)
closed_at ts = or_else (after_mark SHIFT_RIGHT ts) (λ ts. Some ts) (after_mark GREATER ts >>= after_mark GREATER)

-- <sc_uint<8> >, with its width
unfoldable pub kind_at : Reads ℕ
kind_at ts = after_mark LESS ts >>= after_word SC_UINT >>= after_mark LESS >>= width_at >>= (λ w. closed_at w.1 >>= (λ ts. Some (w.0, ts)))

unfoldable pub group_at : Reads Group
group_at ts = direction_at ts >>= (λ d. kind_at d.1 >>= (λ w. names_at name_step w.1 >>= (λ n. Some (record { output = d.0; width = w.0; names = n.0 }, n.1))))

unfoldable pub group_step : Steps Group
group_step ts = or_else (after_word VOID ts) (λ ts. Some (None, ts)) (an_item (group_at ts))

-- a.read()
unfoldable pub read_at : Reads (List ℕ)
read_at ts = name_at ts >>= (λ n. after_mark DOT n.1 >>= after_name (codes "read") >>= after_mark PAREN_OPEN >>= after_mark PAREN_CLOSE >>= (λ ts. Some (n.0, ts)))

abbrev pub op_of : ℕ → Option Bitwise
op_of m = if m == AND then Some bitwise.And else if m == OR then Some bitwise.Or else if m == XOR then Some bitwise.Xor else None

abbrev pub op_at : List Token → Option (Bitwise × List Token)
op_at (Mark m ∷ ts) = option_map (λ o. (o, ts)) (op_of m)
op_at _ = None

-- an operator and a second read, or nothing
abbrev pub second_behind : Option (Bitwise × List Token) → List Token → Option (Option Read × List Token)
second_behind None ts = Some (None, ts)
second_behind (Some o) ts = read_at o.1 >>= (λ r. Some (Some (record { op = o.0; port = r.0 }), r.1))

unfoldable pub second_at : Reads (Option Read)
second_at ts = second_behind (op_at ts) ts

-- y.write(
unfoldable pub target_at : Reads (List ℕ)
target_at ts = name_at ts >>= (λ n. after_mark DOT n.1 >>= after_name (codes "write") >>= after_mark PAREN_OPEN >>= (λ ts. Some (n.0, ts)))

unfoldable pub write_at : Reads Write
write_at ts = target_at ts >>= (λ t. read_at t.1 >>= (λ r. second_at r.1 >>= (λ s. after_mark PAREN_CLOSE s.1 >>= after_mark SEMICOLON >>= (λ ts. Some (record { target = t.0; first = r.0; second = s.0 }, ts)))))

unfoldable pub write_step : Steps Write
write_step ts = or_else (after_mark BRACE_CLOSE ts) (λ ts. Some (None, ts)) (an_item (write_at ts))

-- a word and a name in brackets, as SC_MODULE(NAME)
unfoldable pub named_at : ℕ → Reads (List ℕ)
named_at w ts = after_word w ts >>= after_mark PAREN_OPEN >>= name_at >>= (λ n. after_mark PAREN_CLOSE n.1 >>= (λ ts. Some (n.0, ts)))

abbrev pub all_items : {X : Type 0} → Steps X → Reads (List X)
all_items step ts = items step (length ts) ts

unfoldable pub head_at : Reads Head
head_at ts = named_at SC_MODULE ts >>= (λ n. after_mark BRACE_OPEN n.1 >>= all_items group_step >>= (λ g. Some (record { top = n.0; groups = g.0 }, g.1)))

unfoldable pub body_at : Reads Body
body_at ts = name_at ts >>= (λ n. after_mark PAREN_OPEN n.1 >>= after_mark PAREN_CLOSE >>= after_mark BRACE_OPEN >>= all_items write_step >>= (λ w. Some (record { function = n.0; writes = w.0 }, w.1)))

unfoldable pub senses_at : Reads (List (List ℕ))
senses_at ts = after_word SENSITIVE ts >>= after_mark SHIFT_LEFT >>= names_at sense_step

unfoldable pub constructor_at : Reads Constructor
constructor_at ts = named_at SC_CTOR ts >>= (λ c. after_mark BRACE_OPEN c.1 >>= named_at SC_METHOD >>= (λ m. after_mark SEMICOLON m.1 >>= senses_at >>= (λ s. after_mark BRACE_CLOSE s.1 >>= (λ ts. Some (record { class = c.0; method = m.0; senses = s.0 }, ts)))))

abbrev pub end_at : List Token → Option (Unit {0})
end_at [] = Some tt
end_at (t ∷ ts) = None

unfoldable pub tree_at : List Token → Option Tree
tree_at ts = head_at ts >>= (λ h. body_at h.1 >>= (λ b. constructor_at b.1 >>= (λ c. after_mark BRACE_CLOSE c.1 >>= after_mark SEMICOLON >>= end_at >>= (λ _. Some (record { head = h.0; body = b.0; constructor = c.0 })))))
