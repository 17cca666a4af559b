-- The module of a thin text shows what its design shows, and has no wrong sizes, names, drivers or cycles.
use Rattle.std.proofs.Common.{◌≡◌, ℕ, zero, suc, List, [], ◌∷◌, true, false, Option, Some, None, Ok, refl, subst, arith}
use Rattle.std.specs.Prelude.{slice_get}
use Rattle.scc_base.specs.Names.{fixed_names}
use Rattle.scc_base.specs.Outside.{Shelf}
use Rattle.scc_svtree.specs.Sound as sv
use Rattle.scc_svtree.specs.Sound.{Each, is_simple}
use Rattle.scc_svtree.specs.Variables.{IsWidth}
use Rattle.scc_tokens_directives.specs.declared.file.Source.{Source}
use Rattle.scc_tokens.specs.declared.joining.Joined.{Joined}
use Rattle.scc_tokens_lexer.specs.declared.token.Token as joined
use Rattle.scc_tokens_lexer.specs.declared.token.TokenKind.{TokenKind}
use Rattle.scc_tokens_lexer.specs.declared.token.TokenKind.TheVariants as kind
use Rattle.scc_tokens.specs.Join.{join_of}
use Rattle.scc_thin.specs.declared.design.Design.{Design}
use Rattle.scc_thin.specs.declared.design.Port.{Port}
use Rattle.scc_thin.specs.declared.thin.token.Token.{Token}
use Rattle.scc_thin.specs.declared.thin.token.Token.TheVariants as thin
use Rattle.scc_thin_module.specs.Emitted.{module_of}
use Rattle.scc_thin.specs.Gives.{◌>>=◌, each, before}
use Rattle.scc_thin_module.specs.Identifiers.{AreIdentifiers}
use Rattle.scc_thin.specs.Reading.{tree_at}
use Rattle.scc_thin.specs.Resolved.{design_of}
use Rattle.scc_thin_module.specs.Same.{ShowsTheSame}
use Rattle.scc_thin.specs.Thin.{thin_of}
use Rattle.scc_thin.specs.Tokens.{kind_token, token_of, tokens_of}
use Rattle.scc_thin_module.proofs.Chains.{bind_ok, some_same}
use Rattle.scc_thin_module.proofs.Faultless.{IsGood, faultless}
use Rattle.scc_thin_module.proofs.Heads.{IsNamed, AllNamed, option_ok}
use Rattle.scc_thin_module.proofs.Known.{joined_names}
use Rattle.scc_thin_module.proofs.Sound.{thin_sound, tree_good, new_names, IsPort}
use Rattle.scc_thin_module.proofs.Theorem.{shows_the_same}

pub thin_shown : (names : List (List ℕ)) (top : List ℕ) (tokens : List joined.Token) (d : Design) → thin_of names top tokens ≡ Some d → ShowsTheSame d (module_of d)
thin_shown names top tokens d e = let p = thin_sound names top tokens d e in shows_the_same d p.0 p.1

abbrev IsSimple : List ℕ → Type 0
IsSimple n = is_simple n ≡ true

-- a name of the table is an identifier
known_name : (names : List (List ℕ)) → AreIdentifiers names → (i : ℕ) (n : List ℕ) → slice_get names i ≡ Some n → IsSimple n
known_name [] h i n e = cc
known_name (x ∷ xs) h zero n e = subst IsSimple (some_same e) h.0
known_name (x ∷ xs) h (suc i) n e = known_name xs h.1 i n e

kind_named : (names : List (List ℕ)) → AreIdentifiers names → (len : ℕ) (k : TokenKind) (t : Token) → kind_token names len k ≡ Some t → IsNamed IsSimple t
kind_named names h len (kind.Word i) t e = subst (IsNamed IsSimple) (some_same e) tt
kind_named names h len (kind.Mark i) t e = subst (IsNamed IsSimple) (some_same e) tt
kind_named names h len (kind.Ident n) t e = let o = option_ok thin.Name (slice_get names n.0) t e in subst (IsNamed IsSimple) o.2 (known_name names h n.0 o.0 o.1)
kind_named names h len (kind.Number k w) t e = subst (IsNamed IsSimple) (some_same e) tt
kind_named names h len (kind.Outside n) t e = cc
kind_named names h len kind.BadNumber t e = cc
kind_named names h len kind.Text t e = cc
kind_named names h len kind.Character t e = cc
kind_named names h len kind.LineHash t e = cc
kind_named names h len kind.LineEnd t e = cc

all_named : (names : List (List ℕ)) → AreIdentifiers names → (tokens : List joined.Token) (ts : List Token) → each (token_of names) tokens ≡ Some ts → AllNamed IsSimple ts
unfolding each
all_named names h [] ts e = subst (AllNamed IsSimple) (some_same e) tt
all_named names h (t ∷ tokens) ts e =
    let x = bind_ok (token_of names t) _ ts e in
    behind x.0 (each (token_of names) tokens) (kind_named names h t.len t.kind x.0 x.1) x.2 (λ us f. all_named names h tokens us f)
  where
    behind : (x : Token) (o : Option (List Token)) → IsNamed IsSimple x → before x o ≡ Some ts → ((us : List Token) → o ≡ Some us → AllNamed IsSimple us) → AllNamed IsSimple ts
    behind x None k f more = cc
    behind x (Some us) k f more = subst (AllNamed IsSimple) (some_same f) (k, more us refl)

wide_ports : (ps : List Port) → Each (IsPort IsSimple) ps → Each (λ p. IsWidth p.width) ps
wide_ports [] h = tt
wide_ports (p ∷ ps) h = (let w = h.0.0 in (w.0, omega (arith, w.1)), wide_ports ps h.1)

simple_ports : (ps : List Port) → Each (IsPort IsSimple) ps → Each (λ p. IsSimple p.name) ps
simple_ports [] h = tt
simple_ports (p ∷ ps) h = (h.0.1, simple_ports ps h.1)

thin_good : (names : List (List ℕ)) (top : List ℕ) (tokens : List joined.Token) (d : Design) → AreIdentifiers names → thin_of names top tokens ≡ Some d → IsGood d
unfolding thin_of tokens_of
thin_good names top tokens d h e =
    let t = bind_ok (tokens_of names tokens >>= tree_at) (design_of top) d e in
    let r = bind_ok (tokens_of names tokens) tree_at t.0 t.1 in
    let g = tree_good IsSimple top r.0 t.0 d r.2 t.2 (all_named names h tokens r.0 r.1) in
    record { sound = g.0; few = g.3; wide = wide_ports d.ports g.2; top = g.1; simple = simple_ports d.ports g.2; differ = new_names top t.0 d t.2 }

pub thin_faultless : (names : List (List ℕ)) (top : List ℕ) (tokens : List joined.Token) (d : Design) → AreIdentifiers names → thin_of names top tokens ≡ Some d
    → sv.IsSound false (module_of d)
thin_faultless names top tokens d h e = faultless d (thin_good names top tokens d h e)

pub joined_faultless : (shelf : Shelf) (roots names : List (List ℕ)) (sources : List Source) (j : Joined) (top : List ℕ) (d : Design) → join_of shelf fixed_names roots ≡ (names, sources, Ok j)
    → thin_of names top j.tokens ≡ Some d → sv.IsSound false (module_of d)
joined_faultless shelf roots names sources j top d p e = thin_faultless names top j.tokens d (joined_names shelf roots names sources (Ok j) p) e
